use Rattle.std.proofs.Common.{ℕ, ◌≡◌, ◌+◌, ◌-◌, ◌*◌, ap, arith}
use Rattle.page_table.specs.Stretches.{stretch}
use Rattle.reach.proofs.directory.Goals as goal
use Rattle.std.proofs.Math.ListN.{take, drop}

pub returns : goal.returns
unfolding stretch
returns c =
    let d = c.args.number in
    let e : 512 * d + 512 - 512 * d ≡ 512 = omega arith in
    ap (λ (n : ℕ). take n (drop (512 * d) c.args.words.now)) e

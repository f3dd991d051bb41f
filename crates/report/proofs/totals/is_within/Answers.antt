use mathlib.Core.Path.{ap, ◌∙◌}
use mathlib.Core.Bool.{◌&&◌}
use lib.IntN.{ℤ, pos, negsuc}
use lib.Signed.{le_z}
use Rattle.report.proofs.TotalLaws.{within-is, read_back}
use Rattle.report.proofs.totals.is_within.Goals as goal

pub returns : goal.returns
returns c = ap (λ (z : ℤ). le_z (negsuc 4294967294) z && le_z z (pos 4294967295)) (read_back c.args.total c.ranges.total) ∙
    within-is c.args.total

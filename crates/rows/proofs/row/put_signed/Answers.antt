use mir.Syntax.{w64}
use mir.ValLaws.{to_z-of_z}
use Rattle.std.proofs.Common.{ap, arith, ◌∙◌}
use Rattle.line.specs.Text.{ascii}
use Rattle.rows.proofs.SignLaws.{digits-room, from-zero-put, sign-room, below-zero-put}
use Rattle.rows.proofs.row.put_signed.Goals as goal
use Rattle.rows.proofs.row.put_signed.Goals.{then-n-lt0, else-n-lt0}

pub put_decimal-requires : goal.put_decimal-requires
unfolding ascii
put_decimal-requires c = elim c.if-n-lt0.branch [
  | then-n-lt0 w ↦ rw w.text-is (sign-room _ _ _ _ _ c.requires (omega arith) w.put.ensures.grows)
  | else-n-lt0 w ↦ rw w.text-is (digits-room _ _ _ c.requires (omega arith))
]

pub returns : goal.returns
unfolding ascii
returns c = elim c.if-n-lt0.branch [
  | then-n-lt0 w ↦
      let all = below-zero-put _ _ _ _ _ c.requires (omega arith) w.put.ensures.grows _ _ _ _
      (to_z-of_z w64 _ c.ranges.n) w.if-n-lt0.true (omega (arith, c.unsigned_abs.ensures.value)) (rw w.text-is at c.put_decimal.ensures.grows) in
      record { same = c.put_decimal.ensures.same ∙ ap (λ t. t.bytes.ghost_name) w.text-is ∙ w.put.ensures.same; grows = all.0; room = all.1 }
  | else-n-lt0 w ↦
      let all = from-zero-put _ _ _ c.requires (omega arith) _ _ _ _
      (to_z-of_z w64 _ c.ranges.n) w.if-n-lt0.false (omega (arith, c.unsigned_abs.ensures.value)) (rw w.text-is at c.put_decimal.ensures.grows) in
      record { same = c.put_decimal.ensures.same ∙ ap (λ t. t.bytes.ghost_name) w.text-is; grows = all.0; room = all.1 }
]

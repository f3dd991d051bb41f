use native.Mathlib.Omega.{arith}
use mathlib.Core.Path.{refl, sym, ap, ◌∙◌}
use Rattle.registers.proofs.RefusalLaws.{when-accepted, when-refused, refused-ne0}
use Rattle.registers.specs.Replies.{refused, done}
use Rattle.registers.specs.declared.Registers.{Registers}
use Rattle.control.specs.Writing.{write_reply, buffer_after_write}
use Rattle.control.proofs.NumberLaws.{number_lt}
use Rattle.control.proofs.CallLaws.{write-gives, write-accepted}
use Rattle.control.proofs.write_register.Goals as goal

pub returns-in-Err : goal.returns-in-Err
unfolding write_reply buffer_after_write
returns-in-Err c = write-gives _ _ _ _ _ _ (when-refused _ _ c.in-Err.ensures _ _ _ (refused-ne0 _)
    (c.refused.ensures ∙ ap (refused _) (c.from.ensures ∙ c.in-Err.ensures)))
    (when-refused _ _ c.in-Err.ensures _ _ _ (refused-ne0 _) refl)

pub write_buffer-requires : goal.write_buffer-requires
write_buffer-requires c = let w = write-accepted _ _ _ _ (sym c.in_default.ensures) in
    (w.0.registers-fit, w.0.buffer-fits, w.1)

pub put-after-requires : goal.put-after-requires
put-after-requires c = let w = write-accepted _ _ _ _ (sym c.in_default.ensures) in omega (arith, number_lt w.0)

pub returns : goal.returns
unfolding write_reply buffer_after_write
returns c = write-gives _ _ _ _ _ _ (when-accepted _ _
    c.in_default.ensures _ _ _
    refl
    (c.done.ensures ∙ ap (λ (q : Registers). done q 0) c.put-after.ensures))
    (when-accepted _ _ c.in_default.ensures _ _ _
    refl
    c.write_buffer.ensures)

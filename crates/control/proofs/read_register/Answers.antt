use mathlib.Core.Path.{refl, sym, ap, ◌∙◌}
use Rattle.registers.proofs.RefusalLaws.{when-accepted, when-refused, refused-ne0}
use Rattle.registers.specs.Replies.{refused, done}
use Rattle.control.specs.Reading.{read_refusal, read_reply}
use Rattle.control.proofs.ReadLaws.{read-gives}
use Rattle.control.proofs.read_register.Goals as goal

pub returns-in-Err : goal.returns-in-Err
unfolding read_refusal read_reply
returns-in-Err c = read-gives _ _ _ _ (when-refused _ _ c.in-Err.ensures _ _ _ (refused-ne0 _)
    (c.refused.ensures ∙ ap (refused _) (c.from.ensures ∙ c.in-Err.ensures)))

pub read_value-value-requires : goal.read_value-value-requires
unfolding read_refusal
read_value-value-requires c = sym c.in_default.ensures

pub returns : goal.returns
unfolding read_refusal read_reply
returns c = read-gives _ _ _ _ (when-accepted _ _ c.in_default.ensures _ _ _
    refl (c.done.ensures ∙ ap (done _) c.read_value-value.ensures))

use mathlib.Core.Path.{refl, sym, ap, ◌∙◌}
use Rattle.registers.proofs.RefusalLaws.{when-accepted, when-refused, refused-ne0}
use Rattle.registers.specs.Replies.{refused, done}
use Rattle.registers.specs.declared.Registers.{Registers}
use Rattle.control.specs.Setting.{setting_reply}
use Rattle.control.proofs.CallLaws.{setting-gives, setting-accepted}
use Rattle.control.proofs.guarded_setting.Goals as goal

pub returns-in-Err : goal.returns-in-Err
unfolding setting_reply
returns-in-Err c = setting-gives _ _ _ _ (when-refused _ _ c.in-Err.ensures _ _ _ (refused-ne0 _)
    (c.refused.ensures ∙ ap (refused _) (c.from.ensures ∙ c.in-Err.ensures)))

pub put-changed-requires : goal.put-changed-requires
put-changed-requires c = setting-accepted _ _ _ (sym c.in_default.ensures)

pub returns : goal.returns
unfolding setting_reply
returns c = setting-gives _ _ _ _ (when-accepted _ _ c.in_default.ensures _ _ _
    refl
    (c.done.ensures ∙ ap (λ (q : Registers). done q 0) c.put-changed.ensures))

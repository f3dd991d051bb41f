use Rattle.mmu_c.proofs.SettingLaws.{short, room, refused-setting, place, set}
use Rattle.mmu_c.proofs.guarded_setting.mmu_guarded_setting.Goals as goal

pub returns-then-not-long : goal.returns-then-not-long
returns-then-not-long c = short _ _ _ _ c.if-not-long.true c.answer_of.ensures

pub reply_answer-answer-requires : goal.reply_answer-answer-requires
reply_answer-answer-requires c = room _ _ _ _ _ c.if-not-long.false c.registers_of-r.ensures.registers c.guarded_setting-reply.ensures

pub returns-then-not-accepted : goal.returns-then-not-accepted
returns-then-not-accepted c = refused-setting _ _ _ _ _ c.if-not-long.false c.registers_of-r.ensures.registers c.guarded_setting-reply.ensures _
    c.reply_answer-answer.ensures c.if-not-accepted.true

pub write-requires : goal.write-requires
write-requires c = place _ _ _ _ _ c.if-not-long.false c.registers_of-r.ensures.registers c.guarded_setting-reply.ensures _
    c.reply_answer-answer.ensures c.if-not-accepted.false

pub returns : goal.returns
returns c = set _ _ _ _ _ c.if-not-long.false c.registers_of-r.ensures.registers c.guarded_setting-reply.ensures _
    c.reply_answer-answer.ensures c.if-not-accepted.false _ c.write.ensures

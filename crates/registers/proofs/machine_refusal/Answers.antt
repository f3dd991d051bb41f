use mathlib.Core.Path.{refl}
use Rattle.registers.proofs.RefusalLaws.{refuse-here, refuse-later}
use Rattle.registers.proofs.machine_refusal.Goals as goal

pub returns-then-not-registers : goal.returns-then-not-registers
returns-then-not-registers c = refuse-here _ _ _ _ refl c.if-not-registers.true-raw

pub returns-then-not-buffer : goal.returns-then-not-buffer
returns-then-not-buffer c = refuse-later _ _ _ _ refl _ c.if-not-registers.false-raw (refuse-here _ _ _ _ refl c.if-not-buffer.true-raw)

pub returns-then-not-tables : goal.returns-then-not-tables
returns-then-not-tables c = refuse-later _ _ _ _ refl _ c.if-not-registers.false-raw
    (refuse-later _ _ _ _ refl _ c.if-not-buffer.false-raw (refuse-here _ _ _ _ refl c.if-not-tables.true-raw))

pub returns : goal.returns
returns c = refuse-later _ _ _ _ refl _ c.if-not-registers.false-raw
    (refuse-later _ _ _ _ refl _ c.if-not-buffer.false-raw (refuse-later _ _ _ _ refl _ c.if-not-tables.false-raw refl))

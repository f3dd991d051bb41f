use Rattle.mmu_c.proofs.RunLaws.{taken-other, taken-long}
use Rattle.mmu_c.proofs.registers_taken.Goals as goal

pub returns-then-bytes-ne-REGISTER_BYTES : goal.returns-then-bytes-ne-REGISTER_BYTES
returns-then-bytes-ne-REGISTER_BYTES c = taken-other _ c.if-bytes-ne-REGISTER_BYTES.true

pub returns : goal.returns
returns c = taken-long _ _ _ c.if-bytes-ne-REGISTER_BYTES.false c.registers_of-r.ensures.registers c.registers_fit.ensures

use mathlib.Core.Bool.{not}
use mathlib.Core.Path.{refl, ap, sym, ◌∙◌}
use native.Mathlib.Omega.{arith}
use Rattle.registers.proofs.RefusalLaws.{refuse-here, refuse-later}
use Rattle.mmu_c.proofs.RunLaws.{buffer-told}
use Rattle.mmu_c.proofs.StartLaws.{short, long, refused, started}
use Rattle.mmu_c.proofs.start.start_with.Goals as goal

pub returns-then-not-long : goal.returns-then-not-long
returns-then-not-long c = refused _ _ 1 _ (short _ _ c.if-not-long.true) (λ e. omega arith) refl

pub returns-then-not-buffer_taken : goal.returns-then-not-buffer_taken
returns-then-not-buffer_taken c = refused _ _ 2 _
    (long _ _ 2 c.if-not-long.false (refuse-here _ _ _ _ c.buffer_taken.ensures (ap not c.if-not-buffer_taken.true)))
    (λ e. omega arith) refl

pub encode-requires : goal.encode-requires
encode-requires c = omega (
  arith,
  buffer-told _ (sym c.buffer_taken.ensures ∙ c.if-not-buffer_taken.false),
  c.start-reply.auto.buffer,
  c.requires,
)

pub returns : goal.returns
returns c = started _ _ _ _ _ _ _
    (long _ _ 0 c.if-not-long.false (refuse-later _ _ _ _ c.buffer_taken.ensures _ (ap not c.if-not-buffer_taken.false) refl))
    c.requires c.start-reply.ensures c.put_registers.ensures c.encode.ensures

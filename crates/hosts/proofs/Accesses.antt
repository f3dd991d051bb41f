-- A C host's served access is the unit's. Assumes nothing.
use Prim.Native.Nat.{ℕ}
use mathlib.Core.Path.{◌≡◌, ap, ◌∙◌}
use mathlib.Core.Bool.{Bool, true, false, cond}
use mathlib.Core.List.{List}
use Rattle.wire.specs.Wire.{AreBytes}
use Rattle.registers.specs.Refusals.{by_refusal}
use Rattle.registers.specs.declared.Access.{Access}
use Rattle.page_table.specs.declared.Walk.{Walk}
use Rattle.page_table.specs.declared.Walk.TheVariants.{Leaf, Absent, Broken}
use Rattle.tlb.specs.Load.{loaded_buffer}
use Rattle.store.specs.Machine.{Machine}
use Rattle.mmu.specs.ServedAccess.{served_refusal, missed, first_try, walk_for, buffer_loaded, buffer_after_miss, access_reply, access_buffer}
use Rattle.mmu.specs.ServedAccess.{served_reply, served_buffer}
use Rattle.mmu.proofs.ServedLaws.{served-accepted}
use Rattle.mmu_c.specs.Runs.{registers_of, register_bytes, buffer_of, buffer_bytes, registers_taken, machine_of}
use Rattle.mmu_c.specs.Answers.{refusal_answer, reply_answer}
use Rattle.mmu_c.specs.ServedAccess.{served_number, served_registers, served_bytes, ServedAccessGives}
use Rattle.mmu_c.specs.ServedAccess.{served_refusal as host_refusal}
use Rattle.mmu_c.specs.ServedAccess.{served_reply as host_reply}
use Rattle.mmu_c.specs.ServedAccess.{served_buffer as host_buffer}
use Rattle.mmu_c.proofs.Locations.{buffer-fits}
use Rattle.sequence.proofs.Taking.{reply-fits}
use Rattle.sequence.proofs.EffectLaws.{access-fits}
use Rattle.hosts.specs.Bytes.{Bytes, machine_in}
use Rattle.hosts.proofs.Trips.{BufferWithin, slot-within, words-fit}
use Rattle.hosts.proofs.Handed.{Long, within, fits, answer-of, registers-of, buffer-of}

-- a load keeps every number within 64 bits
access-within : (m : Machine) (a : Access) → BufferWithin m.buffer → BufferWithin (access_buffer m a)
unfolding access_buffer buffer_after_miss buffer_loaded loaded_buffer
access-within m a w = by-walk (missed (first_try m a)) (walk_for m a)
  where
    by-walk : (t : Bool) (x : Walk) → BufferWithin (cond t (buffer_after_miss x (first_try m a).registers m.buffer a) m.buffer)
    by-walk true (Leaf f) = slot-within m.buffer _ _ w
    by-walk true (Absent s) = w
    by-walk true (Broken s) = w
    by-walk false x = w

module _ (h : Bytes) (a : Access) (r : Long h) where
  pub access-refusal : host_refusal h.registers h.buffer h.tables a ≡ served_refusal (machine_in h) a
  unfolding host_refusal served_refusal registers_taken machine_in machine_of
  access-refusal =
      rw (r.registers-long, r.buffer-long, r.tables-long, buffer-fits h.buffer, words-fit h.tables r.tables-long)

  module _ (are : AreBytes h.buffer) (answer : ℕ) (registers-after buffer-after : List ℕ)
      (g : ServedAccessGives h.registers h.buffer h.tables a answer registers-after buffer-after) where
    abbrev m : Machine
    m = machine_in h

    pub access-answer : answer ≡ reply_answer (served_reply m a)
    unfolding served_number host_reply served_reply machine_in
    access-answer =
        g.answer-is
        ∙ ap (λ (k : ℕ). by_refusal k (reply_answer (access_reply m a)) (refusal_answer k)) access-refusal
        ∙ answer-of (served_refusal m a) (access_reply m a) m.registers

    pub access-registers : registers_of registers-after ≡ (served_reply m a).registers
    unfolding served_registers host_reply served_reply machine_in machine_of
    access-registers =
        ap registers_of
        (g.registers-are
        ∙ ap (λ (k : ℕ). by_refusal k (register_bytes (access_reply m a).registers) h.registers) access-refusal)
        ∙ registers-of (served_refusal m a) (access_reply m a) h.registers (λ z. reply-fits m a (served-accepted m a z).0)

    pub access-buffer : buffer_of buffer-after ≡ served_buffer m a
    unfolding served_bytes host_buffer served_buffer machine_in machine_of
    access-buffer =
        ap buffer_of (g.buffer-is ∙ ap (λ (k : ℕ). by_refusal k (buffer_bytes (access_buffer m a)) h.buffer) access-refusal)
        ∙ buffer-of (served_refusal m a) (access_buffer m a) h.buffer (access-fits m a ∙ fits h) (access-within m a (within h r are))

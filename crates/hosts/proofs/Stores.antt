-- A C host's store is the unit's. Assumes nothing.
use Prim.Native.Nat.{ℕ, zero, suc, ◌^◌, ◌<◌}
use mathlib.Core.Path.{◌≡◌, refl, ap, ◌∙◌}
use mathlib.Core.Bool.{Bool, true, false, cond}
use mathlib.Core.List.{List, [], ◌∷◌}
use native.Mathlib.Omega.{arith}
use lib.ListN.{length, set}
use lib.Dec.{eqb}
use borrow.Author.Tests.{eqb-true}
use Rattle.wire.specs.Wire.{with_element, AreBytes}
use Rattle.registers.specs.Refusals.{by_refusal}
use Rattle.registers.specs.Replies.{refused, done}
use Rattle.registers.specs.declared.Registers.{Registers}
use Rattle.slots.specs.Buffer.{Buffer}
use Rattle.store.specs.Machine.{Machine}
use Rattle.store.specs.Sweep.{settled, swept_slot, swept_first, swept, emptied}
use Rattle.store.specs.Rewrite.{Put, written}
use Rattle.store.specs.TableStore.{store_refusal, stored_words, store_reply, buffer_after_store, words_after_store}
use Rattle.store.proofs.StoreLaws.{store-accepted}
use Rattle.store.proofs.Sweeps.{swept-fits}
use Rattle.table_bytes.specs.TableBytes.{words_of}
use Rattle.table_bytes.proofs.Words.{words-with}
use Rattle.mmu_c.specs.Runs.{buffer_of, buffer_bytes, registers_taken, machine_of}
use Rattle.mmu_c.specs.Answers.{refusal_answer, outcome_answer, reply_answer}
use Rattle.mmu_c.specs.TableStore.{store_number, store_bytes, store_tables, TableStoreGives}
use Rattle.mmu_c.specs.TableStore.{store_refusal as host_refusal}
use Rattle.mmu_c.specs.TableStore.{stored_words as host_words}
use Rattle.mmu_c.proofs.Locations.{buffer-fits}
use Rattle.hosts.specs.Bytes.{Bytes, machine_in}
use Rattle.hosts.proofs.Trips.{BufferWithin, slot-within, words-fit}
use Rattle.hosts.proofs.Handed.{Long, within, fits, answer-of, buffer-of}

-- a sweep keeps every number within 64 bits
settled-within : (t : Bool) (slot : ℕ) (b : Buffer) → BufferWithin b → BufferWithin (settled t slot b)
unfolding settled
settled-within true slot b w = w
settled-within false slot b w = slot-within b slot _ w

swept-within : (words : List ℕ) (n : ℕ) (b : Buffer) → BufferWithin b → BufferWithin (swept_first words n b)
unfolding swept_first swept_slot
swept-within words zero b w = w
swept-within words (suc n) b w = settled-within _ n (swept_first words n b) (swept-within words n b w)

-- the tables' bytes hold the words
words-of : (n : ℕ) (tables : List ℕ) (p : Put) → (n ≡ 0 → p.index < length (words_of tables)) → p.value < 2 ^ 32
    → words_of (by_refusal n (with_element 4 tables p.index p.value) tables)
    ≡ by_refusal n (written (p ∷ []) (words_of tables)) (words_of tables)
unfolding by_refusal written
words-of n tables p h l = by-test (eqb n 0) refl
  where
    by-test : (t : Bool) → eqb n 0 ≡ t
        → words_of (cond t (with_element 4 tables p.index p.value) tables)
        ≡ cond t (set (words_of tables) p.index p.value) (words_of tables)
    by-test true e = words-with tables p.index p.value (h (eqb-true n 0 e)) (omega arith)
    by-test false e = refl

-- a reply that leaves the registers
done-registers : (n x : ℕ) (r : Registers) → r ≡ (by_refusal n (done r x) (refused r n)).registers
unfolding by_refusal
done-registers n x r = by-test (eqb n 0)
  where
    by-test : (t : Bool) → r ≡ (cond t (done r x) (refused r n)).registers
    by-test true = refl
    by-test false = refl

module _ (h : Bytes) (p : Put) (r : Long h) where
  pub store-refusal : host_refusal h.registers h.buffer h.tables p.index ≡ store_refusal (machine_in h) p.index
  unfolding host_refusal store_refusal registers_taken machine_in machine_of
  store-refusal =
      rw (r.registers-long, r.buffer-long, r.tables-long, buffer-fits h.buffer, words-fit h.tables r.tables-long)

  abbrev m : Machine
  m = machine_in h

  abbrev after : List ℕ
  after = stored_words m p

  pub store-registers : m.registers ≡ (store_reply m p).registers
  unfolding store_reply
  store-registers = done-registers (store_refusal m p.index) (emptied after m.buffer) m.registers

  module _ (answer : ℕ) (buffer-after tables_after : List ℕ)
      (g : TableStoreGives h.registers h.buffer h.tables p answer buffer-after tables_after) where
    pub store-answer : answer ≡ reply_answer (store_reply m p)
    unfolding store_number host_words stored_words store_reply machine_in machine_of reply_answer outcome_answer
    store-answer =
        g.answer-is
        ∙ ap (λ (k : ℕ). by_refusal k (emptied after m.buffer) (refusal_answer k)) store-refusal
        ∙ answer-of (store_refusal m p.index) (done m.registers (emptied after m.buffer)) m.registers

    pub store-buffer : AreBytes h.buffer → buffer_of buffer-after ≡ buffer_after_store m p
    unfolding store_bytes host_words stored_words buffer_after_store machine_in machine_of swept
    store-buffer are =
        ap buffer_of (g.buffer-is ∙ ap (λ (k : ℕ). by_refusal k (buffer_bytes (swept after m.buffer)) h.buffer) store-refusal)
        ∙ buffer-of (store_refusal m p.index) (swept after m.buffer) h.buffer (swept-fits after m.buffer ∙ fits h)
        (swept-within after 64 m.buffer (within h r are))

    pub store_words : p.value < 2 ^ 32 → words_of tables_after ≡ words_after_store m p
    unfolding store_tables stored_words words_after_store machine_in machine_of
    store_words l =
        ap words_of
        (g.tables-are ∙ ap (λ (k : ℕ). by_refusal k (with_element 4 h.tables p.index p.value) h.tables) store-refusal)
        ∙ words-of (store_refusal m p.index) h.tables p (λ z. (store-accepted m p.index z).2) l

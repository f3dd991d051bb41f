-- What a table store that is not refused was handed, and the ways through it. Assumes nothing.
use Prim.Native.Nat.{ℕ, ◌≤◌, ◌<◌}
use mathlib.Core.Path.{◌≡◌, refl, sym, ap, ◌∙◌, subst}
use mathlib.Core.List.{List}
use native.Mathlib.Omega.{arith}
use lib.ListN.{length}
use borrow.Author.Tests.{ltb-true}
use Rattle.wire.specs.Wire.{encoded, decoded}
use Rattle.registers.specs.Refusals.{refuse_unless}
use Rattle.registers.proofs.RefusalLaws.{passed, when-accepted, when-refused}
use Rattle.slots.specs.Buffer.Buffer.{Wide}
use Rattle.store.specs.Sweep.{swept, emptied}
use Rattle.store.specs.Rewrite.{Put}
use Rattle.store.specs.TableStore.{index_fits}
use Rattle.table_bytes.specs.TableBytes.{words_of, RewriteGives}
use Rattle.mmu_c.specs.Runs.{buffer_of, buffer_bytes, registers_taken, buffer_taken, tables_taken}
use Rattle.mmu_c.specs.Answers.{refusal_answer}
use Rattle.mmu_c.specs.TableStore.{store_refusal, stored_words, store_number, store_bytes, store_tables, TableStoreGives}
use Rattle.mmu_c.proofs.AnswerLaws.{refusal-room, machine-room}
use Rattle.mmu_c.proofs.RunLaws.{handed}

-- what the refusal's number tells
module _ (registers buffer tables : List ℕ) (index n : ℕ) (nq : n ≡ store_refusal registers buffer tables index) where
  pub refusal-lt : n < 256
  unfolding store_refusal
  refusal-lt = subst (λ (k : ℕ). k < 256) (sym nq) (machine-room (registers_taken registers) (buffer_taken buffer) (tables_taken tables) _
      (refusal-room (index_fits (words_of tables) index) 6 0 (omega arith) (omega arith)))

  pub lengths : n ≡ 0 → (length buffer ≡ 512) × (256 ≤ length tables) × (index < length (words_of tables))
  unfolding store_refusal index_fits
  lengths z =
      let told = handed registers buffer tables (refuse_unless (index_fits (words_of tables) index) 6 0) n nq z in
      let six = passed (index_fits (words_of tables) index) 6 0 (λ e. omega arith) told.later-passed in
      (told.buffer-long, told.tables-long, ltb-true index (length (words_of tables)) six.0)

-- the two ways through the call
module _ (registers buffer tables : List ℕ) (p : Put) (n : ℕ) (nq : n ≡ store_refusal registers buffer tables p.index) where
  pub refused : (answer : ℕ) → (n ≡ 0 → ⊥) → answer ≡ refusal_answer n → TableStoreGives registers buffer tables p answer buffer tables
  unfolding store_number store_bytes store_tables
  refused answer h q = record {
    answer-is = when-refused _ n nq _ _ _ h (q ∙ ap refusal_answer nq);
    buffer-is = when-refused _ n nq _ _ _ h refl;
    tables-are = when-refused _ n nq _ _ _ h refl;
  }

  pub stored : (run run-after : List ℕ) (answer : ℕ) (buffer-after tables_after : List ℕ) → n ≡ 0 → run ≡ decoded 8 buffer 64
      → RewriteGives p tables tables_after (Wide run) (Wide run-after) answer → buffer-after ≡ encoded 8 run-after
      → TableStoreGives registers buffer tables p answer buffer-after tables_after
  unfolding store_number store_bytes store_tables stored_words buffer_of buffer_bytes
  stored run run-after answer buffer-after tables_after z rq g bq = record {
    answer-is = when-accepted _ n nq _ _ _ z (g.number_is ∙ ap (λ (ns : List ℕ). emptied (stored_words tables p) (Wide ns)) rq);
    buffer-is =
        when-accepted _ n nq _ _ _ z
        (bq ∙ ap buffer_bytes (g.buffer-is ∙ ap (λ (ns : List ℕ). swept (stored_words tables p) (Wide ns)) rq));
    tables-are = when-accepted _ n nq _ _ _ z g.bytes-are;
  }

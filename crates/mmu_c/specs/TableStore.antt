-- The C call table store. Refusals 1, 2, 3 and 6.
use Rattle.std.specs.Prelude.{ℕ, ◌≡◌, List, [], ◌∷◌}
use Rattle.wire.specs.Wire.{with_element}
use Rattle.registers.specs.Refusals.{refuse_unless, machine_refusal, by_refusal}
use Rattle.store.specs.Sweep.{swept, emptied}
use Rattle.store.specs.Rewrite.{Put, written}
use Rattle.store.specs.TableStore.{index_fits}
use Rattle.table_bytes.specs.TableBytes.{words_of}
use Rattle.mmu_c.specs.Runs.{buffer_of, buffer_bytes, registers_taken, buffer_taken, tables_taken}
use Rattle.mmu_c.specs.Answers.{refusal_answer}

unfoldable pub store_refusal : (registers buffer tables : List ℕ) (index : ℕ) → ℕ
store_refusal registers buffer tables index =
    machine_refusal (registers_taken registers) (buffer_taken buffer) (tables_taken tables)
    (refuse_unless (index_fits (words_of tables) index) 6 0)

-- the words with the one written
unfoldable pub stored_words : (tables : List ℕ) → Put → List ℕ
stored_words tables p = written (p ∷ []) (words_of tables)

unfoldable pub store_number : (registers buffer tables : List ℕ) → Put → ℕ
store_number registers buffer tables p =
    by_refusal (store_refusal registers buffer tables p.index)
    (emptied (stored_words tables p) (buffer_of buffer))
    (refusal_answer (store_refusal registers buffer tables p.index))

unfoldable pub store_bytes : (registers buffer tables : List ℕ) → Put → List ℕ
store_bytes registers buffer tables p =
    by_refusal (store_refusal registers buffer tables p.index) (buffer_bytes (swept (stored_words tables p) (buffer_of buffer))) buffer

-- one word's four bytes, and no other
unfoldable pub store_tables : (registers buffer tables : List ℕ) → Put → List ℕ
store_tables registers buffer tables p =
    by_refusal (store_refusal registers buffer tables p.index) (with_element 4 tables p.index p.value) tables

-- what the call promises. The registers are lent for reading alone
pub record TableStoreGives (registers buffer tables : List ℕ) (p : Put) (answer : ℕ) (buffer-after tables_after : List ℕ) : Type 0 where
  pub answer-is : answer ≡ store_number registers buffer tables p
  pub buffer-is : buffer-after ≡ store_bytes registers buffer tables p
  pub tables-are : tables_after ≡ store_tables registers buffer tables p

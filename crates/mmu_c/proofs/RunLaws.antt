-- What the tests of the lent bytes tell. Assumes nothing.
use Prim.Native.Nat.{ℕ, ◌/◌, ◌%◌, ◌≤◌}
use mathlib.Core.Path.{◌≡◌, refl, sym, ap, ◌∙◌}
use mathlib.Core.Bool.{Bool, true, false, ◌&&◌}
use mathlib.Core.List.{List}
use native.Mathlib.Omega.{arith}
use lib.Dec.{eqb, leb, ltb}
use lib.ListN.{length}
use borrow.Author.Tests.{eq-eqb, ne_eqb, eqb-true, leb-true}
use Rattle.runs.proofs.Bools.{both}
use Rattle.wire.specs.Wire.{encoded, decoded, AreBytes}
use Rattle.wire.proofs.Elements.{decoded-length}
use Rattle.wire.proofs.Trips.{back}
use Rattle.registers.specs.Fields.{registers_fit, FIELDS}
use Rattle.registers.specs.Refusals.{refuse_unless, machine_refusal}
use Rattle.registers.proofs.RefusalLaws.{machine-passed}
use Rattle.registers.proofs.Fields.{to-from}
use Rattle.registers.specs.declared.Registers.{Registers}
use Rattle.store.specs.TableStore.{index_fits}
use Rattle.table_bytes.specs.TableBytes.{words_of}
use Rattle.mmu_c.specs.Runs.{registers_of, register_bytes, registers_long, registers_taken, buffer_taken, length_taken, tables_taken}

-- the two ways through the test of the registers' bytes, and what it tells
pub taken-other : (bytes : List ℕ) → (length bytes ≡ 44 → ⊥) → false ≡ registers_taken bytes
unfolding registers_taken registers_long
taken-other bytes h = sym (rw (ne_eqb (length bytes) 44 h))

pub taken-long : (bytes : List ℕ) (r : Registers) (t : Bool) → length bytes ≡ 44 → r ≡ registers_of bytes → t ≡ registers_fit r
    → t ≡ registers_taken bytes
unfolding registers_taken registers_long
taken-long bytes r t h q e = e ∙ ap registers_fit q ∙ sym (rw (eq-eqb (length bytes) 44 h))

-- so the refusals of a call start
pub short-refusal : (bytes : List ℕ) (later : ℕ) → (length bytes ≡ 44 → ⊥) → 1 ≡ refuse_unless (registers_taken bytes) 1 later
unfolding refuse_unless
short-refusal bytes later h = ap (λ (t : Bool). refuse_unless t 1 later) (taken-other bytes h)

pub long-refusal : (bytes : List ℕ) (r : Registers) (later : ℕ) → length bytes ≡ 44 → r ≡ registers_of bytes
    → refuse_unless (registers_fit r) 1 later ≡ refuse_unless (registers_taken bytes) 1 later
long-refusal bytes r later h q = ap (λ (t : Bool). refuse_unless t 1 later) (taken-long bytes r (registers_fit r) h q refl)

pub registers-told : (bytes : List ℕ) → registers_taken bytes ≡ true → (length bytes ≡ 44) × (registers_fit (registers_of bytes) ≡ true)
unfolding registers_taken registers_long
registers-told bytes h =
    let t = both (eqb (length bytes) 44) (registers_fit (registers_of bytes)) h in
    (eqb-true (length bytes) 44 t.0, t.1)

-- 44 bytes are those of their registers
pub registers-back : (bytes : List ℕ) → AreBytes bytes → length bytes ≡ 44 → register_bytes (registers_of bytes) ≡ bytes
unfolding register_bytes registers_of
registers-back bytes are e =
    ap (encoded 4) (to-from (decoded 4 bytes FIELDS) (decoded-length 4 bytes FIELDS)) ∙ back 4 bytes FIELDS are e

pub buffer-told : (bytes : List ℕ) → buffer_taken bytes ≡ true → length bytes ≡ 512
unfolding buffer_taken
buffer-told bytes h = eqb-true (length bytes) 512 h

pub tables-told : (bytes : List ℕ) → tables_taken bytes ≡ true → 4096 ≤ length bytes
unfolding tables_taken length_taken
tables-told bytes h =
    let n = length bytes in
    let ends = both (leb 4096 n && leb n 65536) (eqb (n % 4096) 0) h in
    leb-true 4096 n (both (leb 4096 n) (leb n 65536) ends.0).0

-- what a call that takes all three runs and is not refused by them was handed
pub record Handed (registers buffer tables : List ℕ) (later : ℕ) : Type 0 where
  pub registers-long : length registers ≡ 44
  pub registers-fit : registers_fit (registers_of registers) ≡ true
  pub buffer-long : length buffer ≡ 512
  pub tables-long : 256 ≤ length tables
  pub later-passed : later ≡ 0

pub handed : (registers buffer tables : List ℕ) (later n : ℕ)
    → n ≡ machine_refusal (registers_taken registers) (buffer_taken buffer) (tables_taken tables) later → n ≡ 0
    → Handed registers buffer tables later
handed registers buffer tables later n nq z =
    let told = machine-passed (registers_taken registers) (buffer_taken buffer) (tables_taken tables) later (sym nq ∙ z) in
    let one = registers-told registers told.0 in
    record {
      registers-long = one.0;
      registers-fit = one.1;
      buffer-long = buffer-told buffer told.1;
      tables-long = omega (arith, tables-told tables told.2);
      later-passed = told.3;
    }

-- an index is tested by the tables' length
pub index-test : (bytes : List ℕ) (index : ℕ) → ltb index (length bytes / 4) ≡ index_fits (words_of bytes) index
unfolding index_fits words_of
index-test bytes index = ap (ltb index) (sym (decoded-length 4 bytes (length bytes / 4)))

-- What an access answers of a page that the tables decide: no stale entry answers, and an aged page raises its exception.
use Rattle.std.specs.Prelude.{ℕ, ◌≤◌, ◌≡◌, Bool, true, false, not, ◌&&◌, List, [], ◌∷◌, ◌++◌, get_or}
use Rattle.registers.specs.declared.Access.{Access}
use Rattle.registers.specs.declared.Outcome.{Outcome}
use Rattle.registers.specs.declared.Outcome.TheVariants.{At, Fault}
use Rattle.registers.specs.declared.Reply.{Reply}
use Rattle.page_table.specs.Words.{leaf_valid, leaf_pfn}
use Rattle.page_table.specs.Stretches.{tables_fit}
use Rattle.page_table.specs.Faults.{walk_fault, Tells}
use Rattle.page_table.specs.declared.Found.{Found}
use Rattle.page_table.specs.declared.Stop.{Stop}
use Rattle.page_table.specs.declared.Walk.TheVariants.{Leaf, Absent, Broken}
use Rattle.slots.specs.Buffer.{Buffer, buffer_fits}
use Rattle.access.specs.Segments.{in_linear_segment}
use Rattle.access.specs.Exceptions.{inv_exc}
use Rattle.access.specs.Translation.{is_set, page_address}
use Rattle.store.specs.Machine.{Machine}
use Rattle.control.specs.Starting.{StartGives}
use Rattle.mmu.specs.ServedAccess.{walk_for}
use Rattle.mmu.specs.FaultValues.{IsFault}
use Rattle.sequence.specs.Calls.{Event, accepted}
use Rattle.sequence.specs.Calls.Call.{ServedAccess}
use Rattle.sequence.specs.Systems.{begun}
use Rattle.sequence.specs.Demand3.{HandedThroughout}

-- translation is on and the address lies in no linear segment
unfoldable pub by_tables : Machine → Access → Bool
by_tables m a = is_set m.registers.enable && not (in_linear_segment m.registers.kseg a)

-- an address is that of a valid leaf which the tables hold: the walk finds it, and its word stands there
pub record AddressOfLeaf (m : Machine) (a : Access) (address : ℕ) : Type 0 where
  pub found : Found
  pub walk_is : walk_for m a ≡ Leaf found
  pub word-is : get_or m.words found.index 0 ≡ found.word
  pub valid : leaf_valid found.word ≡ true
  pub address_is : address ≡ page_address (leaf_pfn found.word) a.address

-- An access answers from the tables: where their walk finds no leaf, a fault that tells where it stopped; and an address is their leaf's.
pub record FromTables (m : Machine) (a : Access) (outcome : Outcome) : Type 0 where
  pub absent : (s : Stop) → walk_for m a ≡ Absent s → (outcome ≡ Fault (walk_fault (Absent s))) × Tells (walk_fault (Absent s)) 16 s
  pub broken : (s : Stop) → walk_for m a ≡ Broken s → (outcome ≡ Fault (walk_fault (Broken s))) × Tells (walk_fault (Broken s)) 32 s
  pub address-of-leaf : (address : ℕ) → outcome ≡ At address → AddressOfLeaf m a address

-- A page's exception: with inv_exc on a fault that has the invalid page's 4, alone or beside the write error's 1 and the access
-- violation's 2; with inv_exc off a final miss, 8.
pub record InvalidPageRaised (m : Machine) (outcome : Outcome) : Type 0 where
  pub with-inv-exc : inv_exc m.registers.ctrl ≡ true → IsFault (λ value. (4 ≤ value) × (value ≤ 7)) outcome
  pub without : inv_exc m.registers.ctrl ≡ false → outcome ≡ Fault 8

-- a page is aged where the walk finds its leaf and the leaf is not valid
unfoldable pub RaisedIfAged : (m : Machine) (a : Access) (outcome : Outcome) → Type 0
RaisedIfAged m a outcome = (f : Found) → walk_for m a ≡ Leaf f → leaf_valid f.word ≡ false → InvalidPageRaised m outcome

-- So of every access that ends a sequence of which demand 3 speaks, is accepted, and is decided by the tables that it was handed,
-- whatever the calls before it have loaded.
unfoldable pub AfterAnySequence : (Says : (given : Machine) (a : Access) (outcome : Outcome) → Type 0) → Type 0
AfterAnySequence Says =
    (lent buffer : Buffer) (reply : Reply) (words : List ℕ) → buffer_fits lent ≡ true → StartGives lent buffer reply → tables_fit words ≡ true
    → (earlier : List Event) (last : Event) → HandedThroughout (begun reply buffer words) (earlier ++ (last ∷ []))
    → (given : Machine) (a : Access) → last.call ≡ ServedAccess given a → accepted last.call ≡ true → by_tables given a ≡ true
    → Says given a last.reply.outcome

abbrev pub NoStaleEntry : Type 0
NoStaleEntry = AfterAnySequence FromTables

abbrev pub AgedPageRaises : Type 0
AgedPageRaises = AfterAnySequence RaisedIfAged

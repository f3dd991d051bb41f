-- What a host reads off an access that the tables decide: no stale entry answers, and an aged page raises its exception.
use Rattle.std.specs.Prelude.{ℕ, ◌≤◌, ◌≡◌, true, false, List, [], ◌∷◌, ◌++◌}
use Rattle.runs.specs.Bits.{bits, flag}
use Rattle.registers.specs.declared.Access.{Access}
use Rattle.page_table.specs.Words.{leaf_valid}
use Rattle.page_table.specs.Faults.{walk_fault}
use Rattle.page_table.specs.declared.Found.{Found}
use Rattle.page_table.specs.declared.Stop.{Stop}
use Rattle.page_table.specs.declared.Walk.TheVariants.{Leaf, Absent, Broken}
use Rattle.access.specs.Exceptions.{inv_exc}
use Rattle.store.specs.Machine.{Machine}
use Rattle.mmu.specs.ServedAccess.{walk_for}
use Rattle.mmu_c.specs.FaultAnswers.{FaultRead}
use Rattle.sequence.specs.Pages.{by_tables, AddressOfLeaf}
use Rattle.hosts.specs.Bytes.{Bytes, machine_in}
use Rattle.hosts.specs.HostCalls.HostCall.{HostAccess}
use Rattle.hosts.specs.Hosts.{HostEvent, HostStep, HostThroughout, Started}
use Rattle.hosts.specs.Hosts.HostStep.{Called}

-- a fault of a walk that found no leaf: its value, its kind, and where it stopped; nothing was loaded
pub record StopRead (answer value kind : ℕ) (s : Stop) : Type 0 where
  pub is-fault : FaultRead 0 answer value
  pub kind-is : bits 39 32 answer ≡ kind
  pub level-is : bits 43 40 answer ≡ s.level
  pub tree_is : flag 44 answer ≡ s.global

-- where the walk finds no leaf, a fault that tells where it stopped; and an address is that of the leaf which the tables hold now
pub record ReadFromTables (m : Machine) (a : Access) (answer : ℕ) : Type 0 where
  pub absent : (s : Stop) → walk_for m a ≡ Absent s → StopRead answer (walk_fault (Absent s)) 16 s
  pub broken : (s : Stop) → walk_for m a ≡ Broken s → StopRead answer (walk_fault (Broken s)) 32 s
  pub address-of-leaf : flag 52 answer ≡ true → AddressOfLeaf m a (bits 31 0 answer)

-- a fault, of a value from `low` to `high`, and no address
pub record FaultBetween (low high answer : ℕ) : Type 0 where
  pub value-from : low ≤ bits 47 32 answer
  pub value-to : bits 47 32 answer ≤ high
  pub is-fault : flag 54 answer ≡ true
  pub no_address : flag 52 answer ≡ false

-- with inv_exc on a fault of value 4 to 7, with inv_exc off of 8
pub record InvalidPageRead (m : Machine) (answer : ℕ) : Type 0 where
  pub with-inv-exc : inv_exc m.registers.ctrl ≡ true → FaultBetween 4 7 answer
  pub without : inv_exc m.registers.ctrl ≡ false → FaultBetween 8 8 answer

unfoldable pub ReadIfAged : (m : Machine) (a : Access) (answer : ℕ) → Type 0
ReadIfAged m a answer = (f : Found) → walk_for m a ≡ Leaf f → leaf_valid f.word ≡ false → InvalidPageRead m answer

-- So of every access that a host makes after any calls from a start on, whose answer refuses nothing, and which the tables in its bytes
-- decide, whatever the calls before it have loaded.
unfoldable pub AfterAnyCalls : (Says : (m : Machine) (a : Access) (answer : ℕ) → Type 0) → Type 0
AfterAnyCalls Says =
    (buffer : List ℕ) (started : Bytes) → Started buffer started
    → (earlier : List HostStep) (last : HostEvent) → HostThroughout started (earlier ++ (Called last ∷ []))
    → (given : Bytes) (a : Access) → last.call ≡ HostAccess given a → bits 63 56 last.answer ≡ 0
    → by_tables (machine_in given) a ≡ true → Says (machine_in given) a last.answer

abbrev pub HostNoStaleEntry : Type 0
HostNoStaleEntry = AfterAnyCalls ReadFromTables

abbrev pub HostAgedPageRaises : Type 0
HostAgedPageRaises = AfterAnyCalls ReadIfAged

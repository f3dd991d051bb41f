-- The printed line of an access that the tables decide: it shows no stale entry, and it shows an aged page's exception.
use Rattle.std.specs.Prelude.{ℕ, suc, ◌≤◌, ◌≡◌, true, false, List, [], ◌∷◌, ◌++◌, length, take}
use Rattle.registers.specs.declared.Access.{Access}
use Rattle.page_table.specs.Words.{leaf_valid}
use Rattle.page_table.specs.Faults.{walk_fault, Tells}
use Rattle.page_table.specs.declared.Found.{Found}
use Rattle.page_table.specs.declared.Stop.{Stop}
use Rattle.page_table.specs.declared.Walk.TheVariants.{Leaf, Absent, Broken}
use Rattle.slots.specs.Buffer.{Buffer, buffer_fits}
use Rattle.access.specs.Exceptions.{inv_exc}
use Rattle.store.specs.Machine.{Machine}
use Rattle.mmu.specs.ServedAccess.{walk_for}
use Rattle.sequence.specs.Pages.{by_tables, AddressOfLeaf}
use Rattle.line.specs.Text.{ascii, decimal, hex}
use Rattle.trace.specs.Commands.{commands_of}
use Rattle.trace.specs.Traces.{lines_of, start_machine, machine_after, trace_text}
use Rattle.trace.specs.declared.Command.{Command}
use Rattle.trace.specs.declared.Command.TheVariants.{Serve}

-- the line of a fault
unfoldable pub fault_line : (number value loads : ℕ) → List ℕ
fault_line number value loads = decimal number ++ ascii " fault " ++ hex value ++ ascii " " ++ decimal loads ++ ascii "\n"

-- a text begins with the eight digits of the address of a leaf which the tables hold
pub record ShowsLeaf (m : Machine) (a : Access) (text : List ℕ) : Type 0 where
  pub address : ℕ
  pub digits_are : take 8 text ≡ hex address
  pub of-leaf : AddressOfLeaf m a address

-- Where the walk finds no leaf, the line has its fault, which tells where it stopped, and no load; and an address behind " at " is that of
-- the tables' leaf.
pub record ShowsTables (m : Machine) (a : Access) (number : ℕ) (line : List ℕ) : Type 0 where
  pub absent : (s : Stop) → walk_for m a ≡ Absent s
      → (line ≡ fault_line number (walk_fault (Absent s)) 0) × Tells (walk_fault (Absent s)) 16 s
  pub broken : (s : Stop) → walk_for m a ≡ Broken s
      → (line ≡ fault_line number (walk_fault (Broken s)) 0) × Tells (walk_fault (Broken s)) 32 s
  pub address-of-leaf : (text : List ℕ) → line ≡ decimal number ++ ascii " at " ++ text → ShowsLeaf m a text

-- a line has a fault from one value to another
pub record ShowsFault (number least most : ℕ) (line : List ℕ) : Type 0 where
  pub value : ℕ
  pub loads : ℕ
  pub at_least : least ≤ value
  pub at_most : value ≤ most
  pub line-is : line ≡ fault_line number value loads

-- where the walk finds a leaf that is not valid, the line has its exception
unfoldable pub ShowsAged : (m : Machine) (a : Access) (number : ℕ) (line : List ℕ) → Type 0
ShowsAged m a number line = (f : Found) → walk_for m a ≡ Leaf f → leaf_valid f.word ≡ false →
    (inv_exc m.registers.ctrl ≡ true → ShowsFault number 4 7 line) × (inv_exc m.registers.ctrl ≡ false → ShowsFault number 8 8 line)

-- a record's line stands behind those of the records before it, with their count as its number, and before those of the records behind it
pub record Prints (lent : Buffer) (input : List ℕ) (before : List Command) (c : Command) (after : List Command)
    (Says : (m : Machine) (number : ℕ) (line : List ℕ) → Type 0) : Type 0 where
  pub line : List ℕ
  pub text-is : trace_text lent input
      ≡ lines_of (start_machine lent) 0 before ++ line
      ++ lines_of (machine_after (start_machine lent) (before ++ (c ∷ []))) (suc (length before)) after
  pub says : Says (machine_after (start_machine lent) before) (length before) line

-- so of every access of every trace, where the tables of that moment decide it
unfoldable pub AtEveryAccess : (Says : (m : Machine) (a : Access) (number : ℕ) (line : List ℕ) → Type 0) → Type 0
AtEveryAccess Says =
    (lent : Buffer) (input : List ℕ) → buffer_fits lent ≡ true
    → (before : List Command) (a : Access) (after : List Command) → commands_of input ≡ before ++ (Serve a ∷ after)
    → by_tables (machine_after (start_machine lent) before) a ≡ true
    → Prints lent input before (Serve a) after (λ m. Says m a)

abbrev pub TraceNoStaleEntry : Type 0
TraceNoStaleEntry = AtEveryAccess ShowsTables

abbrev pub TraceAgedPageRaises : Type 0
TraceAgedPageRaises = AtEveryAccess ShowsAged

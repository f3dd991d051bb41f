-- Document 01's reader: it holds table words and a value for each guarded setting. It has no buffer, and no answer reaches it.
use Rattle.std.specs.Prelude.{ℕ, Bool, true, false, cond, not, ◌&&◌, List, eqb}
use Rattle.entry.specs.Address.{vpn_of}
use Rattle.registers.specs.Fields.{KSEG, CTRL, ENABLE, KBASE_LO, KBASE_HI, CONTEXT}
use Rattle.registers.specs.declared.Access.{Access}
use Rattle.registers.specs.declared.Outcome.{Outcome}
use Rattle.registers.specs.declared.Outcome.TheVariants.{At, Fault}
use Rattle.registers.specs.declared.Registers.{Registers}
use Rattle.page_table.specs.Words.{leaf_valid, leaf_kernel, leaf_we, leaf_pfn}
use Rattle.page_table.specs.Walk.{walk_page}
use Rattle.page_table.specs.Faults.{walk_fault}
use Rattle.page_table.specs.declared.Found.{Found}
use Rattle.page_table.specs.declared.Walk.{Walk}
use Rattle.page_table.specs.declared.Walk.TheVariants.{Leaf, Absent, Broken}
use Rattle.access.specs.Segments.{in_linear_segment, linear_address}
use Rattle.access.specs.Exceptions.{inv_exc, exception_value}
use Rattle.access.specs.Translation.{is_set, page_address}

pub record Settings : Type 0 where
  pub kseg : ℕ
  pub ctrl : ℕ
  pub enable : ℕ
  pub kbase-lo : ℕ
  pub kbase-hi : ℕ
  pub context : ℕ

-- the guarded settings among the registers
unfoldable pub settings_of : Registers → Settings
settings_of r = record {
  kseg = r.kseg;
  ctrl = r.ctrl;
  enable = r.enable;
  kbase-lo = r.kbase_lo;
  kbase-hi = r.kbase_hi;
  context = r.context;
}

-- a guarded setting writes its value
unfoldable pub with_guarded : Settings → (number value : ℕ) → Settings
with_guarded s number value = record {
  kseg = cond (eqb number KSEG) value s.kseg;
  ctrl = cond (eqb number CTRL) value s.ctrl;
  enable = cond (eqb number ENABLE) value s.enable;
  kbase-lo = cond (eqb number KBASE_LO) value s.kbase-lo;
  kbase-hi = cond (eqb number KBASE_HI) value s.kbase-hi;
  context = cond (eqb number CONTEXT) value s.context;
}

pub record Reader : Type 0 where
  pub words : List ℕ
  pub settings : Settings

-- "at first those of the table run, and a value for each guarded setting, at first 0"
unfoldable pub start_reader : (words : List ℕ) → Reader
start_reader words = record {
  words = words;
  settings = record { kseg = 0; ctrl = 0; enable = 0; kbase-lo = 0; kbase-hi = 0; context = 0 };
}

-- "The reader's walk is the walk over these words under its CONTEXT."
unfoldable pub reader_walk : Reader → Access → Walk
reader_walk d a = walk_page d.words d.settings.context (vpn_of a.address)

unfoldable pub found_leaf : Walk → Bool
found_leaf (Leaf f) = true
found_leaf (Absent s) = false
found_leaf (Broken s) = false

-- "valid 0 without inv_exc" gives 8; "else the exceptions of the leaf, or its address"
unfoldable pub leaf_answer : (ctrl : ℕ) → Access → Found → Outcome
leaf_answer ctrl a f =
    let value = exception_value ctrl a (leaf_valid f.word) (leaf_kernel f.word) (leaf_we f.word) in
    cond (not (leaf_valid f.word) && not (inv_exc ctrl))
    (Fault (walk_fault (Leaf f)))
    (cond (eqb value 0) (At (page_address (leaf_pfn f.word) a.address)) (Fault value))

-- absent and broken give 16 and 32, with the level and the tree at which the walk stopped
unfoldable pub walk_answer : Walk → (ctrl : ℕ) → Access → Outcome
walk_answer (Leaf f) ctrl a = leaf_answer ctrl a f
walk_answer (Absent s) ctrl a = Fault (walk_fault (Absent s))
walk_answer (Broken s) ctrl a = Fault (walk_fault (Broken s))

-- "The answer without a buffer: enable off gives the virtual address; then the linear rule; then the walk"
unfoldable pub reader_answer : Reader → Access → Outcome
reader_answer d a =
    cond (is_set d.settings.enable)
    (cond (in_linear_segment d.settings.kseg a)
    (At (linear_address d.settings.kbase-lo d.settings.kbase-hi a.address))
    (walk_answer (reader_walk d a) d.settings.ctrl a))
    (At a.address)

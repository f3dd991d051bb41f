-- What an answer carries has room in its bits. Assumes nothing.
use Prim.Native.Nat.{ℕ, zero, suc, ◌+◌, ◌-◌, ◌*◌, ◌^◌, ◌<◌}
use mathlib.Core.Bool.{Bool, true, false, cond, ◌||◌}
use native.Mathlib.Omega.{arith}
use lib.Dec.{eqb, ltb}
use Rattle.std.specs.Prelude.{Option, Some, None}
use Rattle.runs.specs.Bits.{bits}
use Rattle.runs.proofs.Bits.{bits-wide}
use Rattle.entry.specs.Address.{vpn_of, offset_of, slot_of}
use Rattle.entry.specs.Entry.{unpack}
use Rattle.entry.specs.declared.Entry.{Entry}
use Rattle.registers.specs.declared.Access.{Access}
use Rattle.registers.specs.declared.Outcome.{Outcome}
use Rattle.registers.specs.declared.Outcome.TheVariants.{At, Fault, Done, Refused}
use Rattle.registers.specs.declared.Registers.{Registers}
use Rattle.page_table.specs.declared.Walk.{Walk}
use Rattle.page_table.specs.declared.Walk.TheVariants.{Leaf, Absent, Broken}
use Rattle.slots.specs.Buffer.{Buffer}
use Rattle.tlb.specs.Search.{fields_at, hit_count}
use Rattle.access.specs.Segments.{in_linear_segment, nibble, segment_of, segment_base, linear_address}
use Rattle.access.specs.Exceptions.{inv_exc}
use Rattle.access.specs.Translation.{is_set, page_address, no_exception, exception_address, exception_answer, hit_value, on_hit, by_hit_count}
use Rattle.access.specs.Translation.{found_set, page_mapped, translate}
use Rattle.store.specs.Machine.{Machine}
use Rattle.mmu.specs.ServedAccess.{outcome_of, tried_reply, missed, after_miss, first_try, walk_for, access_reply}

-- an address has 32 bits
unfoldable pub Within32 : Option ℕ → Type 0
Within32 (Some address) = address < 4294967296
Within32 None = Unit {0}

nibble-lt : (n word : ℕ) → nibble n word < 16
unfolding nibble
nibble-lt n word = rw (bits-wide (4 * n) 3 word) (omega arith)

linear-lt : (lo hi address : ℕ) → linear_address lo hi address < 4294967296
unfolding linear_address segment_base
linear-lt lo hi address = by-half (ltb (segment_of address) 8)
  where
    by-half : (t : Bool) → cond t (nibble (segment_of address) lo) (nibble (segment_of address - 8) hi) * 2 ^ 28 + bits 27 0 address < 4294967296
    by-half true = omega (arith, nibble-lt (segment_of address) lo)
    by-half false = omega (arith, nibble-lt (segment_of address - 8) hi)

page-lt : (pfn address : ℕ) → pfn < 524288 → page_address pfn address < 4294967296
unfolding page_address offset_of
page-lt pfn address l = omega arith

module _ (r : Registers) (b : Buffer) (a : Access) (al : a.address < 4294967296) where
  exception-within : (tested : Option ℕ) → Within32 tested → Within32 (exception_address r a tested)
  unfolding exception_address Within32
  exception-within tested w = by_mode (is_set r.enable) (is_set r.test)
    where
      by_mode : (on test : Bool) → Within32 (cond on (cond test tested None) (Some a.address))
      by_mode true true = w
      by_mode true false = tt
      by_mode false test = al

  virtual-or : (address : ℕ) → address < 4294967296 → Within32 (Some (cond (is_set r.enable) address a.address))
  unfolding Within32
  virtual-or address l = by_mode (is_set r.enable)
    where
      by_mode : (on : Bool) → cond on address a.address < 4294967296
      by_mode true = l
      by_mode false = al

  hit-within : (slot : ℕ) (f : Entry) → f.pfn < 524288 → Within32 (on_hit r a slot f).physical
  unfolding on_hit no_exception exception_answer Within32
  hit-within slot f l = by_value (eqb (hit_value r a f) 0)
    where
      page : ℕ
      page = page_address f.pfn a.address

      by_value : (t : Bool)
          → Within32 (cond t (no_exception r (cond (is_set r.enable) page a.address)) (exception_answer r a slot (hit_value r a f) (Some page))).physical
      by_value true = virtual-or page (page-lt f.pfn a.address l)
      by_value false = exception-within (Some page) (page-lt f.pfn a.address l)

  count-within : (hits set : ℕ) (f : Entry) → f.pfn < 524288 → Within32 (by_hit_count hits r a set f).physical
  unfolding by_hit_count exception_answer Within32
  count-within zero set f l = exception-within None tt
  count-within (suc zero) set f l = hit-within (slot_of set (vpn_of a.address)) f l
  count-within (suc (suc n)) set f l = exception-within None tt

  fields-lt : (set : ℕ) → (fields_at b (vpn_of a.address) set).pfn < 524288
  unfolding fields_at unpack
  fields-lt set = omega arith

  pub translate-within : Within32 (translate r b a).physical
  unfolding translate page_mapped no_exception Within32
  translate-within = by-rule (in_linear_segment r.kseg a) (is_set r.enable || is_set r.test)
    where
      linear : ℕ
      linear = linear_address r.kbase_lo r.kbase_hi a.address

      by-rule : (in-segment asked : Bool)
          → Within32 (cond in-segment (no_exception r (cond (is_set r.enable) linear a.address))
          (cond asked (page_mapped r b a) (no_exception r a.address))).physical
      by-rule true asked = virtual-or linear (linear-lt r.kbase_lo r.kbase_hi a.address)
      by-rule false true =
          count-within (hit_count b (inv_exc r.ctrl) r.context (vpn_of a.address)) (found_set r b a)
          (fields_at b (vpn_of a.address) (found_set r b a)) (fields-lt (found_set r b a))
      by-rule false false = al

-- an access's outcome is an address of 32 bits or a fault
unfoldable pub AddressWithin : Outcome → Type 0
AddressWithin (At address) = address < 4294967296
AddressWithin (Fault value) = Unit {0}
AddressWithin (Done emptied) = ⊥
AddressWithin (Refused number) = ⊥

outcome-within : (p : Option ℕ) (value : ℕ) → Within32 p → AddressWithin (outcome_of p value)
unfolding Within32 AddressWithin outcome_of
outcome-within (Some address) value w = w
outcome-within None value w = tt

module _ (m : Machine) (a : Access) (al : a.address < 4294967296) where
  tried-within : (r : Registers) (b : Buffer) (loads : ℕ) → AddressWithin (tried_reply (translate r b a) loads).outcome
  unfolding tried_reply
  tried-within r b loads = outcome-within (translate r b a).physical (translate r b a).value (translate-within r b a al)

  pub access-address : AddressWithin (access_reply m a).outcome
  unfolding access_reply after_miss first_try AddressWithin
  access-address = by-walk (missed (first_try m a)) (walk_for m a)
    where
      by-walk : (t : Bool) (x : Walk)
          → AddressWithin (cond t (after_miss x (first_try m a).registers m.buffer a) (tried_reply (first_try m a) 0)).outcome
      by-walk true (Leaf f) = tried-within _ _ 1
      by-walk true (Absent s) = tt
      by-walk true (Broken s) = tt
      by-walk false x = tried-within m.registers m.buffer 0

-- Where the buffer decides, a raw access hits by the reference's formula. Assumes nothing.
use Prim.Native.Nat.{ℕ, ◌+◌, ◌*◌, ◌/◌, ◌^◌}
use mathlib.Core.Path.{◌≡◌, refl, ap, ◌∙◌}
use native.Mathlib.Omega.{arith}
use Rattle.runs.specs.Bits.{bits, flag}
use Rattle.runs.specs.Counts.{count, lowest}
use Rattle.runs.proofs.Counts.{count_same, lowest-same}
use Rattle.entry.specs.Address.{vpn_of, location, slot_of}
use Rattle.entry.specs.Entry.{unpack}
use Rattle.registers.specs.declared.Access.{Access}
use Rattle.registers.specs.declared.Registers.{Registers}
use Rattle.slots.specs.Buffer.{Buffer, slot_at}
use Rattle.tlb.specs.Search.{fields_at, set_hits, hit_count, hit_set}
use Rattle.tlb.specs.Formula.{formula_of}
use Rattle.tlb.proofs.Formula.{hit-is-formula}
use Rattle.access.specs.Exceptions.{inv_exc}
use Rattle.access.specs.Translation.{by_hit_count, found_set, page_mapped}
use Rattle.access.specs.HitFormula.{entry_of, hits_by_formula, MappedByFormula}

slot_is : (address set : ℕ) → slot_of set (vpn_of address) ≡ 16 * set + bits 16 13 address
unfolding slot_of location vpn_of
slot_is address set = omega arith

page-is : (address : ℕ) → vpn_of address / 2 ^ 4 ≡ bits 31 17 address
unfolding vpn_of
page-is address = omega arith

module _ (r : Registers) (b : Buffer) (a : Access) where
  set-hits : (set : ℕ) → set_hits b (inv_exc r.ctrl) r.context (vpn_of a.address) set ≡ hits_by_formula r b a set
  unfolding set_hits fields_at inv_exc hits_by_formula entry_of
  set-hits set =
      hit-is-formula (flag 2 r.ctrl) r.context (vpn_of a.address) (slot_at b (slot_of set (vpn_of a.address))) _ refl
      ∙ (λ i. formula_of (flag 2 r.ctrl) (page-is a.address i) r.context (slot_at b (slot_is a.address set i)))

  count-is : hit_count b (inv_exc r.ctrl) r.context (vpn_of a.address) ≡ count (hits_by_formula r b a) 4
  unfolding hit_count
  count-is = count_same (set_hits b (inv_exc r.ctrl) r.context (vpn_of a.address)) (hits_by_formula r b a) 4 (λ set l. set-hits set)

  set_is : found_set r b a ≡ lowest (hits_by_formula r b a) 4 a.draw
  unfolding found_set hit_set
  set_is =
      lowest-same (set_hits b (inv_exc r.ctrl) r.context (vpn_of a.address)) (hits_by_formula r b a) 4 a.draw (λ set l. set-hits set)

  fields-are : (set : ℕ) → fields_at b (vpn_of a.address) set ≡ unpack (entry_of b a set)
  unfolding fields_at entry_of
  fields-are set = ap (λ (slot : ℕ). unpack (slot_at b slot)) (slot_is a.address set)

pub mapped-by-formula : MappedByFormula
unfolding page_mapped
mapped-by-formula r b a t given =
    given
    ∙ (λ i. by_hit_count (count-is r b a i) r a (set_is r b a i) (fields_at b (vpn_of a.address) (set_is r b a i)))
    ∙ ap (by_hit_count (count (hits_by_formula r b a) 4) r a (lowest (hits_by_formula r b a) 4 a.draw))
    (fields-are r b a (lowest (hits_by_formula r b a) 4 a.draw))

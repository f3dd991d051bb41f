-- The frame number and the other fields are taken out only after a hit. Assumes nothing.
use Prim.Native.Nat.{ℕ, zero, suc}
use mathlib.Core.Path.{◌≡◌, refl, sym, ap, ◌∙◌}
use Rattle.entry.specs.Address.{vpn_of, slot_of}
use Rattle.entry.specs.declared.Entry.{Entry}
use Rattle.registers.specs.declared.Access.{Access}
use Rattle.registers.specs.declared.Registers.{Registers}
use Rattle.slots.specs.Buffer.{Buffer}
use Rattle.tlb.specs.Search.{fields_at, hit_count}
use Rattle.tlb.specs.Alike.{SameHitBits}
use Rattle.tlb.proofs.Alike.{hit-count-alike, hit-set-alike}
use Rattle.access.specs.Exceptions.{inv_exc}
use Rattle.access.specs.Translation.{on_hit, by_hit_count, found_set, page_mapped, translate}
use Rattle.access.specs.AfterHit.{SameEntryHit, TakenAfterHit}

-- a miss and multiple hits read no field
by_count : (n : ℕ) (r : Registers) (a : Access) (set : ℕ) (f g : Entry) → (n ≡ 1 → f ≡ g) → by_hit_count n r a set f ≡ by_hit_count n r a set g
unfolding by_hit_count
by_count zero r a set f g same = refl
by_count (suc zero) r a set f g same = ap (on_hit r a (slot_of set (vpn_of a.address))) (same refl)
by_count (suc (suc n)) r a set f g same = refl

module _ (r : Registers) (b c : Buffer) (a : Access) (same : SameHitBits b c (vpn_of a.address)) (fields : SameEntryHit r b c a) where
  mapped-alike : page_mapped r b a ≡ page_mapped r c a
  unfolding page_mapped found_set SameEntryHit
  mapped-alike =
      by_count _ r a (found_set r b a) _ _ fields
      ∙ ap (λ (n : ℕ). by_hit_count n r a (found_set r b a) (fields_at c (vpn_of a.address) (found_set r b a)))
      (hit-count-alike b c (inv_exc r.ctrl) r.context (vpn_of a.address) same)
      ∙ ap
      (λ (set : ℕ). by_hit_count (hit_count c (inv_exc r.ctrl) r.context (vpn_of a.address)) r a set
      (fields_at c (vpn_of a.address) set))
      (hit-set-alike b c (inv_exc r.ctrl) r.context (vpn_of a.address) same a.draw)

pub taken-after-hit : TakenAfterHit
unfolding translate
taken-after-hit r b c a same fields t t' p p' = p ∙ rw (mapped-alike r b c a same fields) (sym p')

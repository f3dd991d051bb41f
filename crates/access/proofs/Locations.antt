-- A raw access looks at the four slots of its page's location alone. Assumes nothing.
use Prim.Native.Nat.{ℕ, ◌<◌}
use mathlib.Core.Path.{◌≡◌, ap, ◌∙◌}
use Rattle.entry.specs.Address.{vpn_of}
use Rattle.registers.specs.declared.Access.{Access}
use Rattle.registers.specs.declared.Registers.{Registers}
use Rattle.slots.specs.Buffer.{Buffer}
use Rattle.tlb.specs.Search.{fields_at, hit_count}
use Rattle.tlb.proofs.Locations.{SameSlots, fields-same, hit-count-same, hit-set-same}
use Rattle.access.specs.Exceptions.{inv_exc}
use Rattle.access.specs.Translation.{by_hit_count, found_set, page_mapped, translate}
use Rattle.access.proofs.Keeping.{found_lt}

module _ (r : Registers) (b c : Buffer) (a : Access) (l : a.draw < 4) (same : SameSlots b c (vpn_of a.address)) where
  found-same : found_set r b a ≡ found_set r c a
  unfolding found_set
  found-same = hit-set-same b c (vpn_of a.address) same (inv_exc r.ctrl) r.context a.draw

  mapped-same : page_mapped r b a ≡ page_mapped r c a
  unfolding page_mapped
  mapped-same =
      ap (λ (n : ℕ). by_hit_count n r a (found_set r b a) (fields_at b (vpn_of a.address) (found_set r b a)))
      (hit-count-same b c (vpn_of a.address) same (inv_exc r.ctrl) r.context)
      ∙ ap (by_hit_count (hit_count c (inv_exc r.ctrl) r.context (vpn_of a.address)) r a (found_set r b a))
      (fields-same b c (vpn_of a.address) same (found_set r b a) (found_lt r b a l))
      ∙ ap
      (λ (set : ℕ). by_hit_count (hit_count c (inv_exc r.ctrl) r.context (vpn_of a.address)) r a set
      (fields_at c (vpn_of a.address) set))
      found-same

  -- two buffers that agree in these slots give the same
  pub translate-same : translate r b a ≡ translate r c a
  unfolding translate
  translate-same = rw mapped-same

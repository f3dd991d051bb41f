-- The load of a leaf and the second try look at the four slots of the page's location alone. Assumes nothing.
use mathlib.Core.Path.{◌≡◌, ap, ◌∙◌}
use Rattle.entry.specs.Address.{vpn_of}
use Rattle.entry.specs.Entry.{pack}
use Rattle.registers.specs.declared.Access.{Access}
use Rattle.registers.specs.declared.Registers.{Registers}
use Rattle.page_table.specs.declared.Found.{Found}
use Rattle.slots.specs.Buffer.{Buffer}
use Rattle.tlb.proofs.Locations.{SameSlots, load-slot-same, loaded-same}
use Rattle.access.specs.Translation.{Accepted, translate}
use Rattle.access.specs.declared.Translation.{Translation}
use Rattle.access.proofs.AccessLaws.{draw-lt}
use Rattle.access.proofs.Locations.{translate-same}
use Rattle.store.specs.Leaf.{leaf_entry}
use Rattle.mmu.specs.ServedAccess.{tried_reply, loaded_at, registers_loaded, buffer_loaded, loaded_reply}

-- two buffers that agree in these slots give the same
module _ (r : Registers) (b c : Buffer) (a : Access) (p : Accepted r b a) (q : Accepted r c a)
    (same : SameSlots b c (vpn_of a.address)) where
  registers-loaded-same : registers_loaded r b a ≡ registers_loaded r c a
  unfolding registers_loaded loaded_at
  registers-loaded-same = rw (load-slot-same b c (vpn_of a.address) same r.context a.draw)

  buffer-loaded-same : (f : Found) → SameSlots (buffer_loaded r b a f) (buffer_loaded r c a f) (vpn_of a.address)
  unfolding buffer_loaded
  buffer-loaded-same f =
      loaded-same b c (vpn_of a.address) same r.context a.draw (pack (leaf_entry r.context (vpn_of a.address) f))
      p.buffer-fits q.buffer-fits (draw-lt a.draw p.draw-fits)

  pub loaded-reply-same : (f : Found) → loaded_reply f r b a ≡ loaded_reply f r c a
  loaded-reply-same f =
      ap (λ (t : Translation). tried_reply t 1)
      (translate-same (registers_loaded r b a) (buffer_loaded r b a f) (buffer_loaded r c a f) a (draw-lt a.draw p.draw-fits)
      (buffer-loaded-same f)
      ∙ ap (λ (s : Registers). translate s (buffer_loaded r c a f) a) registers-loaded-same)

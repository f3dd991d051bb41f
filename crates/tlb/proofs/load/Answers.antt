use Rattle.std.proofs.Common.{ℕ, ◌∙◌, ap, arith}
use Rattle.entry.specs.Address.{slot_of}
use Rattle.entry.proofs.Fields.{slot_lt}
use Rattle.tlb.proofs.HitLaws.{searched-lt}
use Rattle.tlb.proofs.Loads.{load_gives}
use Rattle.tlb.proofs.load.Goals as goal

pub slot_of-slot-requires : goal.slot_of-slot-requires
slot_of-slot-requires c = omega (arith, searched-lt (c.search-found.ensures.found c.args.draw) c.requires.1, c.unwrap_or-home.ensures, c.requires.1)

pub put_slot-requires : goal.put_slot-requires
put_slot-requires c = (
  c.requires.0,
  rw c.slot_of-slot.ensures
      (slot_lt _ _ (omega (arith, searched-lt (c.search-found.ensures.found c.args.draw) c.requires.1, c.unwrap_or-home.ensures, c.requires.1))),
)

pub returns : goal.returns
returns c = load_gives _ _ _ _ _ _ _ _ _ (c.search-found.ensures.found c.args.draw)
    (c.slot_of-slot.ensures ∙ ap (λ (k : ℕ). slot_of k c.args.vpn) c.unwrap_or-home.ensures) c.put_slot.ensures

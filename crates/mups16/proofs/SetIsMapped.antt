-- What is set is mapped. Assumes nothing.
use Prim.Native.Nat.{ℕ}
use mathlib.Core.Path.{◌≡◌, ap, ◌∙◌}
use lib.ListN.{length}
use Rattle.std.specs.Prelude.{Ok}
use Rattle.runs.specs.Bits.{bits}
use Rattle.mups16.specs.InBits.{entry_address, mapping_by, AcceptedInBits}
use Rattle.mups16.specs.SetIsMapped.{SetIsMapped}
use Rattle.mups16.proofs.EntryLaws.{length-fits}
use Rattle.mups16.proofs.InBits.{mapping-of-bits, accepted-in-bits}
use Rattle.mups16.proofs.AfterSet.{after-long, set_here, set-elsewhere}
use Rattle.mups16.proofs.MapsAlike.{maps-alike, same-entry}

pub set-is-mapped : SetIsMapped
unfolding SetIsMapped AcceptedInBits entry_address
set-is-mapped before after set_at e answer gave long s virtual user write = record {
  own = λ q b reply g.
      (accepted-in-bits after long_after).map_is s b virtual user write reply g
      ∙ ap (λ (n : ℕ). Ok (mapping_by n virtual user write)) (set_here before after set_at e answer gave long _ q)
      ∙ ap Ok (mapping-of-bits e virtual user write);
  other = λ d old new og ng.
      maps-alike s after before (length-fits after long_after) (length-fits before long) virtual user write
      (same-entry s after before virtual user write (ap (bits 18 0) (set-elsewhere before after set_at e answer gave long _ d)))
      new old ng og;
}
  where
    long_after : length after ≡ 8192
    long_after = after-long before after set_at e answer gave long

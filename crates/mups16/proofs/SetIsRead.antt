-- What is set is read. Assumes nothing.
use Prim.Native.Nat.{ℕ, ◌+◌, ◌*◌}
use mathlib.Core.Path.{sym, ap, ◌∙◌}
use Rattle.std.specs.Prelude.{Result, Ok}
use Rattle.runs.specs.Bits.{bits}
use Rattle.mups16.specs.InBits.{InBits, AcceptedInBits}
use Rattle.mups16.specs.SetIsRead.{SetIsRead}
use Rattle.mups16.specs.declared.refusal.Refusal.{Refusal}
use Rattle.mups16.proofs.InBits.{low-of-bits, high-of-bits, accepted-in-bits}
use Rattle.mups16.proofs.AfterSet.{after-long, set_here, set-elsewhere}

pub set-is-read : SetIsRead
unfolding SetIsRead AcceptedInBits
set-is-read before after set_at e answer gave long s at = record {
  low-is = λ q low g. new.low-is at low g ∙ ap low_word (set_here before after set_at e answer gave long _ q) ∙ ap Ok (low-of-bits e);
  high_is = λ q high g.
      new.high_is s at high g
      ∙ ap high_word (set_here before after set_at e answer gave long _ q)
      ∙ ap Ok (high-of-bits (bits 4 0 s.table_index) e);
  other-low = λ d was is og ng.
      new.low-is at is ng ∙ ap low_word (set-elsewhere before after set_at e answer gave long _ d) ∙ sym (old.low-is at was og);
  other-high = λ d was is og ng.
      new.high_is s at is ng ∙ ap high_word (set-elsewhere before after set_at e answer gave long _ d) ∙ sym (old.high_is s at was og);
}
  where
    old : InBits before
    old = accepted-in-bits before long

    new : InBits after
    new = accepted-in-bits after (after-long before after set_at e answer gave long)

    low_word : (word : ℕ) → Result ℕ Refusal
    low_word word = Ok (bits 15 0 word)

    high_word : (word : ℕ) → Result ℕ Refusal
    high_word word = Ok (256 * bits 4 0 s.table_index + bits 18 16 word)

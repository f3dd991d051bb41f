-- Runs of numbers to bytes and back, over the width. Assumes nothing.
use Prim.Native.Nat.{ℕ, zero, suc, ◌+◌, ◌*◌, ◌/◌, ◌%◌, ◌^◌, ◌≤◌, ◌<◌}
use mathlib.Core.Path.{◌≡◌, refl, sym, ap, ◌∙◌}
use mathlib.Core.List.{List}
use native.Mathlib.Nat.{not-suc-le-zero, zero-add, zero-mul, mul_comm, mul-suc, mul-le-mul_left, mod-lt, div-add-mod', div-lt_iff_lt-mul}
use native.Mathlib.Omega.{arith}
use lib.ListN.{length, get_or}
use lib.Seq.{ext_get_or}
use Rattle.runs.specs.Pieces.{flat}
use Rattle.runs.proofs.Pieces.{flat-at}
use Rattle.wire.specs.Wire.{bytes_of, element_at, encoded, decoded, AreBytes}
use Rattle.wire.proofs.Bytes.{wide, number-agrees, number-of-bytes, bytes-of-number}
use Rattle.wire.proofs.Elements.{decoded-length, decoded-at, encoded-length}
use Rattle.wire.proofs.Turns.{filled-all}

-- each number of a run has at most w bytes
abbrev pub Within : (w : ℕ) (xs : List ℕ) → Type 0
Within w xs = (i : ℕ) → i < length xs → get_or xs i 0 < 256 ^ w

module _ (w : ℕ) (xs : List ℕ) (within : Within w xs) where
  number-back : (i : ℕ) → i < length xs → element_at w (encoded w xs) i ≡ get_or xs i 0
  unfolding element_at encoded
  number-back i h =
      rw (mul_comm w i)
      (number-agrees (flat (bytes_of w) xs) (bytes_of w (get_or xs i 0)) (i * w) 0 w
      (λ j l. flat-at (bytes_of w) w (wide w) i j xs h l ∙ ap (λ (k : ℕ). get_or (bytes_of w (get_or xs i 0)) k 0) (sym (zero-add j)))
      ∙ number-of-bytes w (get_or xs i 0) (within i h))

  pub trip : decoded w (encoded w xs) (length xs) ≡ xs
  unfolding decoded
  trip =
      sym
      (filled-all (element_at w (encoded w xs)) (length xs) xs (length xs)
      (record { some = omega arith; long = refl; each = λ j l. sym (number-back j l) })
      (omega arith))

-- bytes that are whole numbers are those of their numbers
pub back : (w : ℕ) (bytes : List ℕ) (n : ℕ) → AreBytes bytes → length bytes ≡ w * n → encoded w (decoded w bytes n) ≡ bytes
unfolding encoded element_at
back w bytes n r e =
    ext_get_or 0 (encoded w (decoded w bytes n)) bytes (whole ∙ sym e) (λ p l. each p (rw whole at l))
  where
    whole : length (encoded w (decoded w bytes n)) ≡ w * n
    whole = encoded-length w (decoded w bytes n) ∙ rw (decoded-length w bytes n)

    each : (p : ℕ) → p < w * n → get_or (encoded w (decoded w bytes n)) p 0 ≡ get_or bytes p 0
    each p l =
        rw (← div-add-mod' p w)
        (flat-at (bytes_of w) w (wide w) (p / w) (p % w) (decoded w bytes n) (rw decoded-length below) small
        ∙ rw (decoded-at w bytes n (p / w) below, mul_comm (p / w) w)
        (bytes-of-number bytes (w * (p / w)) w r inside (p % w) small))
      where
        some : (v : ℕ) → p < v * n → 0 < v
        some zero h = absurd (not-suc-le-zero (rw zero-mul at h))
        some (suc v) h = omega arith

        small : p % w < w
        small = mod-lt p (some w l)

        below : p / w < n
        below = (div-lt_iff_lt-mul (some w l)).1 (rw (mul_comm n w) l)

        inside : w * (p / w) + w ≤ length bytes
        inside = rw (e, ← mul-suc w (p / w)) (mul-le-mul_left w below)

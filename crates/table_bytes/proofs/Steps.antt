-- A stretch of the bytes has the words of the stretch of the words that the bytes hold. Assumes nothing.
use Prim.Native.Nat.{ℕ, zero, suc, ◌+◌, ◌*◌, ◌/◌, ◌≤◌, ◌<◌}
use mathlib.Core.Path.{◌≡◌, refl, sym, ap, ◌∙◌}
use mathlib.Core.List.{List}
use native.Mathlib.Nat.{mul_assoc}
use native.Mathlib.Omega.{arith}
use lib.ListN.{length, get_or}
use lib.Seq.{ext_get_or}
use Rattle.wire.specs.Wire.{number_at, element_at}
use Rattle.page_table.specs.Stretches.{stretch}
use Rattle.page_table.proofs.Stretches.{stretch-length, stretch-at}
use Rattle.table_bytes.specs.TableBytes.{words_of, stretch_bytes}
use Rattle.table_bytes.proofs.Words.{words-length, word_stands}

-- a number in a stretch of bytes
element-in : (bytes : List ℕ) (size n i : ℕ) → i < size → element_at 4 (stretch_bytes bytes size n) i ≡ element_at 4 bytes (size * n + i)
unfolding stretch_bytes element_at number_at
element-in bytes size n i h = go 4 (omega arith)
  where
    at : (w : ℕ) → 4 * size * n + (4 * i + w) ≡ 4 * (size * n + i) + w
    at w = omega (arith, mul_assoc 4 size n)

    go : (w : ℕ) → w ≤ 4 → number_at w (stretch bytes (4 * size) n) (4 * i) ≡ number_at w bytes (4 * (size * n + i))
    go zero l = refl
    go (suc w) l = rw (go w (omega arith), stretch-at bytes (4 * size) n (4 * i + w) (omega arith), at w)

module _ (bytes : List ℕ) (size n : ℕ) (h : size * n + size ≤ length (words_of bytes)) where
  -- the stretch is inside the bytes
  pub bytes_inside : 4 * size * n + 4 * size ≤ length bytes
  bytes_inside =
      let inside : size * n + size ≤ length bytes / 4 = rw (words-length bytes) at h in
      omega (arith, mul_assoc 4 size n)

  part-length : length (words_of (stretch_bytes bytes size n)) ≡ size
  unfolding stretch_bytes
  part-length =
      words-length (stretch_bytes bytes size n)
      ∙ ap (λ (k : ℕ). k / 4) (stretch-length bytes (4 * size) n bytes_inside)
      ∙ omega arith

  part-at : (i : ℕ) → i < size → get_or (words_of (stretch_bytes bytes size n)) i 0 ≡ get_or (stretch (words_of bytes) size n) i 0
  part-at i l =
      sym (word_stands (stretch_bytes bytes size n) i _ (rw part-length l) refl)
      ∙ element-in bytes size n i l
      ∙ word_stands bytes (size * n + i) _ (omega (arith, h)) refl
      ∙ sym (stretch-at (words_of bytes) size n i l)

  pub stretch-words : words_of (stretch_bytes bytes size n) ≡ stretch (words_of bytes) size n
  stretch-words =
      ext_get_or 0 _ _ (part-length ∙ sym (stretch-length (words_of bytes) size n h)) (λ i l. part-at i (rw part-length at l))

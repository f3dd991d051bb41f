-- Laws of a number's bytes, over their count. Assumes nothing.
use Prim.Native.Nat.{ℕ, zero, suc, ◌+◌, ◌*◌, ◌/◌, ◌%◌, ◌^◌, ◌≤◌, ◌<◌}
use mathlib.Core.Path.{◌≡◌, refl, sym, ap, ap₂, ◌∙◌}
use mathlib.Core.Logic.{⊎_elim}
use mathlib.Core.List.{List, [], ◌∷◌, ◌++◌}
use native.Mathlib.Nat.{zero-add}
use native.Mathlib.Nat.{pow-suc, pow-succ', div-div-eq-div-mul, lt-suc_self, not-suc-le-zero, le_of_suc-le-suc, eq-or-lt_of_le}
use native.Mathlib.Numerals.{add-one}
use native.Mathlib.Omega.{arith}
use lib.ListN.{length, get_or, length-append, get_or-append}
use lib.Seq.{get_or_at}
use Rattle.std.specs.Int.{byte_at, bytes_high_first}
use Rattle.wire.specs.Wire.{bytes_of, number_at, AreBytes}

-- w bytes are w
pub wide : (w x : ℕ) → length (bytes_of w x) ≡ w
unfolding bytes_of
wide zero x = refl
wide (suc w) x = length-append (bytes_of w (x / 256)) (x % 256 ∷ []) ∙ rw (wide w (x / 256)) (add-one w)

-- where two runs have the same w bytes, they have the same number
pub number-agrees : (a b : List ℕ) (p q w : ℕ) → ((j : ℕ) → j < w → get_or a (p + j) 0 ≡ get_or b (q + j) 0) → number_at w a p ≡ number_at w b q
unfolding number_at
number-agrees a b p q zero h = refl
number-agrees a b p q (suc w) h = ap₂ (λ (n d : ℕ). n * 256 + d) (number-agrees a b p q w (λ j l. h j (omega arith))) (h w (lt-suc_self w))

-- a number within w bytes is the number of its bytes
pub number-of-bytes : (w x : ℕ) → x < 256 ^ w → number_at w (bytes_of w x) 0 ≡ x
unfolding bytes_of number_at
number-of-bytes zero x h = omega arith
number-of-bytes (suc w) x h =
    rw (upper (number-of-bytes w (x / 256) (let p = rw pow-suc at h in omega arith)), lowest) (omega arith)
  where
    front : List ℕ
    front = bytes_of w (x / 256)

    upper : number_at w front 0 ≡ x / 256 → number_at w (front ++ (x % 256 ∷ [])) 0 ≡ x / 256
    upper e =
        number-agrees (front ++ (x % 256 ∷ [])) front 0 0 w
        (λ j l. get_or-append front (x % 256 ∷ []) 0 (0 + j) (rw (wide w (x / 256), zero-add) l))
        ∙ e

    lowest : get_or (front ++ (x % 256 ∷ [])) (0 + w) 0 ≡ x % 256
    lowest = get_or_at front (x % 256) [] 0 (0 + w) (wide w (x / 256) ∙ sym (zero-add w))

-- w bytes are those of their number
pub bytes-of-number : (bytes : List ℕ) (at w : ℕ) → AreBytes bytes → at + w ≤ length bytes
    → (j : ℕ) → j < w → get_or (bytes_of w (number_at w bytes at)) j 0 ≡ get_or bytes (at + j) 0
unfolding bytes_of number_at
bytes-of-number bytes at zero r h j l = absurd (not-suc-le-zero l)
bytes-of-number bytes at (suc w) r h j l =
    rw (quotient, remainder)
    (⊎_elim last (λ k. before k (bytes-of-number bytes at w r (omega arith) j k)) (eq-or-lt_of_le (le_of_suc-le-suc l)))
  where
    n : ℕ
    n = number_at w bytes at

    byte : ℕ
    byte = get_or bytes (at + w) 0

    small : byte < 256
    small = r (at + w) (omega arith)

    quotient : (n * 256 + byte) / 256 ≡ n
    quotient = omega (arith, small)

    remainder : (n * 256 + byte) % 256 ≡ byte
    remainder = omega (arith, small)

    last : j ≡ w → get_or (bytes_of w n ++ (byte ∷ [])) j 0 ≡ get_or bytes (at + j) 0
    last e = rw e (get_or_at (bytes_of w n) byte [] 0 w (wide w n))

    before : j < w → get_or (bytes_of w n) j 0 ≡ get_or bytes (at + j) 0 → get_or (bytes_of w n ++ (byte ∷ [])) j 0 ≡ get_or bytes (at + j) 0
    before k e = get_or-append (bytes_of w n) (byte ∷ []) 0 j (rw (wide w n) k) ∙ e

-- byte w of what is left of a number, and w bytes with the one before them
byte-up : (w x : ℕ) → byte_at w (x / 256) ≡ byte_at (suc w) x
byte-up zero x = refl
byte-up (suc w) x = ap (λ (n : ℕ). n % 256) (div-div-eq-div-mul x 256 (256 ^ suc w) ∙ ap (λ (n : ℕ). x / n) (sym (pow-succ' 256 (suc w))))

byte-before : (w x : ℕ) → byte_at w x ∷ bytes_of w x ≡ bytes_of (suc w) x
unfolding bytes_of
byte-before zero x = refl
byte-before (suc w) x =
    ap (λ (b : ℕ). b ∷ (bytes_of w (x / 256) ++ (x % 256 ∷ []))) (sym (byte-up w x))
    ∙ ap (λ (l : List ℕ). l ++ (x % 256 ∷ [])) (byte-before w (x / 256))

-- the bytes that std lists, the highest first, are the number's
pub high-first : (w x : ℕ) → bytes_high_first w x ≡ bytes_of w x
unfolding bytes_of
high-first zero x = refl
high-first (suc w) x = ap (λ (l : List ℕ). byte_at w x ∷ l) (high-first w x) ∙ byte-before w x

-- One number of a run of bytes, read and written by its index, over the width. Assumes nothing.
use Prim.Native.Nat.{ℕ, zero, suc, ◌+◌, ◌-◌, ◌*◌, ◌^◌, ◌≤◌, ◌<◌}
use mathlib.Core.Path.{◌≡◌, refl, sym, ap, ap₂, ◌∙◌}
use mathlib.Core.Logic.{◌⊎◌, inl, inr, ⊎_elim}
use mathlib.Core.List.{List, [], ◌∷◌, ◌++◌, append_assoc}
use native.Mathlib.Nat.{not-suc-le-zero, le_of_suc-le-suc, zero-add, add_assoc, mul-zero, mul-suc, mul_comm, mul-le-mul_left}
use native.Mathlib.Decide.{ℕ_discrete}
use native.Mathlib.Omega.{arith}
use lib.ListN.{length, get_or, set, take, drop, length-set, get_or-append}
use lib.Seq.{drop_at, drop-drop, take-append-add, drop-append-add, get_or-append-add, get_or-take}
use lib.Seq.{get_or-drop, get_or-set_same, get_or-set_other, length-take-le, ext_get_or}
use borrow.Rule.Slice.PartMut.{put_mid, same_len_mid}
use Rattle.runs.specs.Pieces.{flat}
use Rattle.runs.proofs.Pieces.{tab-length, tab-at, mid-front, flat-length}
use Rattle.wire.specs.Wire.{bytes_of, number_at, element_at, with_element, encoded, decoded}
use Rattle.wire.proofs.Bytes.{wide, number-agrees, number-of-bytes}

apart : (a b : ℕ) → (a ≡ b → ⊥) → (a < b) ⊎ (b < a)
apart zero zero d = absurd (d refl)
apart zero (suc b) d = inl (omega arith)
apart (suc a) zero d = inr (omega arith)
apart (suc a) (suc b) d = ⊎_elim (λ l. inl (omega arith)) (λ l. inr (omega arith)) (apart a b (λ e. d (ap suc e)))

-- the lengths of runs
pub decoded-length : (w : ℕ) (bytes : List ℕ) (n : ℕ) → length (decoded w bytes n) ≡ n
unfolding decoded
decoded-length w bytes n = tab-length (element_at w bytes) 0 n

pub encoded-length : (w : ℕ) (xs : List ℕ) → length (encoded w xs) ≡ w * length xs
unfolding encoded
encoded-length w xs = flat-length (bytes_of w) w (wide w) xs ∙ mul_comm (length xs) w

-- a number of a run by its index
pub decoded-at : (w : ℕ) (bytes : List ℕ) (n i : ℕ) → i < n → get_or (decoded w bytes n) i 0 ≡ element_at w bytes i
unfolding decoded
decoded-at w bytes n i h = tab-at (element_at w bytes) 0 n i h ∙ ap (element_at w bytes) (zero-add i)

-- the bytes with a number written are those of a stretch replaced
pub with-mid : (w : ℕ) (bytes : List ℕ) (i x : ℕ) → with_element w bytes i x ≡ put_mid (w * i) w bytes (bytes_of w x)
unfolding with_element
with-mid w bytes i x = rw (drop-drop w (w * i) bytes)

-- the stretch of an index as the code finds it, whose bounds are two readings of the width: its bytes written, and its number
pub with-stretch : (w : ℕ) (bytes part : List ℕ) (i x s t : ℕ) → s ≡ w → t ≡ w → part ≡ bytes_of w x
    → put_mid (s * i) (s * i + t - s * i) bytes part ≡ with_element w bytes i x
with-stretch w bytes part i x s t h k p = let e : s * i + t - s * i ≡ w = omega arith in rw (p, e, h, with-mid w bytes i x)

pub of-stretch : (w : ℕ) (bytes : List ℕ) (i n s t : ℕ) → s ≡ w → t ≡ w
    → n ≡ number_at w (take (s * i + t - s * i) (drop (s * i) bytes)) 0 → n ≡ element_at w bytes i
unfolding element_at
of-stretch w bytes i n s t h k e =
    e
    ∙ number-agrees (take (s * i + t - s * i) (drop (s * i) bytes)) bytes 0 (w * i) w
    (λ j l.
    rw (zero-add j, ← h)
    (get_or-take (s * i + t - s * i) (drop (s * i) bytes) j 0 (omega arith) ∙ get_or-drop (s * i) bytes j 0))

-- the bytes before, in and behind the number that is written
module _ (w : ℕ) (bytes : List ℕ) (i x : ℕ) (inside : w * i + w ≤ length bytes) where
  front : length (take (w * i) bytes) ≡ w * i
  front = length-take-le (w * i) bytes (omega arith)

  pub with-length : length (with_element w bytes i x) ≡ length bytes
  with-length =
      rw (with-mid w bytes i x)
      (same_len_mid (w * i) w bytes (bytes_of w x) (wide w x ∙ sym (mid-front bytes (w * i) w inside)))

  pub with-before : (p : ℕ) → p < w * i → get_or (with_element w bytes i x) p 0 ≡ get_or bytes p 0
  unfolding with_element
  with-before p h = get_or-append (take (w * i) bytes) _ 0 p (rw front h) ∙ get_or-take (w * i) bytes p 0 h

  pub with-here : (j : ℕ) → j < w → get_or (with_element w bytes i x) (w * i + j) 0 ≡ get_or (bytes_of w x) j 0
  unfolding with_element
  with-here j h =
      ap (λ (n : ℕ). get_or (with_element w bytes i x) (n + j) 0) (sym front)
      ∙ get_or-append-add (take (w * i) bytes) _ j 0
      ∙ get_or-append (bytes_of w x) _ 0 j (rw (wide w x) h)

  pub with-behind : (j : ℕ) → get_or (with_element w bytes i x) (w * i + w + j) 0 ≡ get_or bytes (w * i + w + j) 0
  unfolding with_element
  with-behind j =
      ap (λ (n : ℕ). get_or (with_element w bytes i x) n 0) place
      ∙ get_or-append-add (take (w * i) bytes) _ (length (bytes_of w x) + j) 0
      ∙ get_or-append-add (bytes_of w x) _ j 0
      ∙ get_or-drop (w * i + w) bytes j 0
    where
      place : w * i + w + j ≡ length (take (w * i) bytes) + (length (bytes_of w x) + j)
      place = rw (front, wide w x) (add_assoc (w * i) w j)

  -- the number written, and every other
  pub element-same : x < 256 ^ w → element_at w (with_element w bytes i x) i ≡ x
  unfolding element_at
  element-same fits =
      number-agrees (with_element w bytes i x) (bytes_of w x) (w * i) 0 w
      (λ j l. with-here j l ∙ ap (λ (k : ℕ). get_or (bytes_of w x) k 0) (sym (zero-add j)))
      ∙ number-of-bytes w x fits

  pub element-other : (j : ℕ) → (j ≡ i → ⊥) → element_at w (with_element w bytes i x) j ≡ element_at w bytes j
  unfolding element_at
  element-other j ne = number-agrees (with_element w bytes i x) bytes (w * j) (w * j) w same
    where
      same : (k : ℕ) → k < w → get_or (with_element w bytes i x) (w * j + k) 0 ≡ get_or bytes (w * j + k) 0
      same k l = ⊎_elim below above (apart j i ne)
        where
          below : j < i → get_or (with_element w bytes i x) (w * j + k) 0 ≡ get_or bytes (w * j + k) 0
          below h = let b : w * j + w ≤ w * i = rw (← mul-suc w j) (mul-le-mul_left w h) in with-before (w * j + k) (omega arith)

          above : i < j → get_or (with_element w bytes i x) (w * j + k) 0 ≡ get_or bytes (w * j + k) 0
          above h =
              let b : w * i + w ≤ w * j = rw (← mul-suc w i) (mul-le-mul_left w h) in
              let e : w * j + k ≡ w * i + w + (w * j + k - (w * i + w)) = omega arith in
              rw e (with-behind (w * j + k - (w * i + w)))

-- a run with one number changed, as bytes and back
pub encoded-set : (w : ℕ) (xs : List ℕ) (i x : ℕ) → i < length xs → encoded w (set xs i x) ≡ with_element w (encoded w xs) i x
unfolding encoded with_element
encoded-set w [] i x h = absurd (not-suc-le-zero h)
encoded-set w (y ∷ ys) zero x h =
    rw (mul-zero, zero-add) (ap (λ (l : List ℕ). bytes_of w x ++ l) (sym (drop_at (bytes_of w y) (flat (bytes_of w) ys) w (wide w y))))
encoded-set w (y ∷ ys) (suc i) x h =
    ap (λ (l : List ℕ). bytes_of w y ++ l) (encoded-set w ys i x (le_of_suc-le-suc h))
    ∙ sym (append_assoc (bytes_of w y) (take (w * i) rest) (bytes_of w x ++ drop (w * i + w) rest))
    ∙ sym (ap₂ (λ (f b : List ℕ). f ++ (bytes_of w x ++ b)) before behind)
  where
    rest : List ℕ
    rest = flat (bytes_of w) ys

    before : take (w * suc i) (bytes_of w y ++ rest) ≡ bytes_of w y ++ take (w * i) rest
    before =
        let e : w * suc i ≡ length (bytes_of w y) + w * i = rw (mul-suc, wide w y) (omega arith) in
        rw e (take-append-add (bytes_of w y) rest (w * i))

    behind : drop (w * suc i + w) (bytes_of w y ++ rest) ≡ drop (w * i + w) rest
    behind =
        let e : w * suc i + w ≡ length (bytes_of w y) + (w * i + w) = rw (mul-suc, wide w y) (omega arith) in
        rw e (drop-append-add (bytes_of w y) rest (w * i + w))

pub decoded-with : (w : ℕ) (bytes : List ℕ) (n i x : ℕ) → i < n → w * n ≤ length bytes → x < 256 ^ w
    → decoded w (with_element w bytes i x) n ≡ set (decoded w bytes n) i x
decoded-with w bytes n i x h room fits =
    ext_get_or 0 new old (decoded-length w after n ∙ sym long)
    (λ j l. each j (rw (decoded-length w after n) at l))
  where
    after : List ℕ
    after = with_element w bytes i x

    new : List ℕ
    new = decoded w after n

    old : List ℕ
    old = set (decoded w bytes n) i x

    long : length old ≡ n
    long = simp length-set (decoded-length w bytes n)

    inside : w * i + w ≤ length bytes
    inside = let b : w * i + w ≤ w * n = rw (← mul-suc w i) (mul-le-mul_left w h) in omega arith

    each : (j : ℕ) → j < n → get_or new j 0 ≡ get_or old j 0
    each j l = elim (ℕ_discrete j i) [ yes e ↦ same e | no d ↦ other d ]
      where
        same : j ≡ i → get_or new j 0 ≡ get_or old j 0
        same e =
            rw e
            (decoded-at w after n i h
            ∙ element-same w bytes i x inside fits
            ∙ sym (get_or-set_same (decoded w bytes n) i x 0 (rw decoded-length h)))

        other : (j ≡ i → ⊥) → get_or new j 0 ≡ get_or old j 0
        other d =
            decoded-at w after n j l
            ∙ element-other w bytes i x inside j d
            ∙ sym (get_or-set_other (decoded w bytes n) i j x 0 d ∙ decoded-at w bytes n j l)

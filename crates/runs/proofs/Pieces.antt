-- Laws of tabulated runs and of runs made of pieces. Assumes nothing.
use Prim.Native.Nat.{ℕ, zero, suc, ◌+◌, ◌*◌, ◌≤◌, ◌<◌}
use mathlib.Core.Path.{◌≡◌, refl, sym, ap, ap₂, ◌∙◌}
use mathlib.Core.List.{List, [], ◌∷◌, ◌++◌, append_assoc, append-nil}
use native.Mathlib.Omega.{arith}
use native.Mathlib.Nat.{not-suc-le-zero, le_of_suc-le-suc, add-zero, zero-add, add-suc, suc-add, add_comm, zero-mul, suc-mul}
use native.Mathlib.Numerals.{add-one}
use lib.ListN.{length, get_or, take, drop, length-take, length-drop, length-append, drop_of_length-le, get_or-append}
use lib.Seq.{take_at, drop_at, drop-drop, take-length, length-take-le, get_or-append-add, ext_get_or}
use borrow.Rule.Slice.PartMut.{put_mid, mid_of, same_len_mid}
use Rattle.runs.specs.Pieces.{tabulate, flat}

-- a table's entry
pub tab-length : (f : ℕ → ℕ) (k n : ℕ) → length (tabulate f k n) ≡ n
tab-length f k zero = refl
tab-length f k (suc n) = ap suc (tab-length f (suc k) n)

pub tab-at : (f : ℕ → ℕ) (k n i : ℕ) → i < n → get_or (tabulate f k n) i 0 ≡ f (k + i)
tab-at f k zero i h = absurd (not-suc-le-zero h)
tab-at f k (suc n) zero h = rw add-zero
tab-at f k (suc n) (suc i) h = rw (add-suc, ← suc-add) (tab-at f (suc k) n i (le_of_suc-le-suc h))

pub tab-same : (f g : ℕ → ℕ) (k n : ℕ) → ((i : ℕ) → i < n → f (k + i) ≡ g (k + i)) → tabulate f k n ≡ tabulate g k n
tab-same f g k zero h = refl
tab-same f g k (suc n) h =
    ap₂ (λ (x : ℕ) (xs : List ℕ). x ∷ xs) (rw add-zero at (h zero (omega arith)))
    (tab-same f g (suc k) n (λ i l. rw (add-suc, ← suc-add) at (h (suc i) (omega arith))))

-- a run is a table by its entries
pub tab-is : (f : ℕ → ℕ) (n : ℕ) (run : List ℕ) → length run ≡ n → ((i : ℕ) → i < n → get_or run i 0 ≡ f i) → run ≡ tabulate f 0 n
tab-is f n run e h =
    ext_get_or 0 run (tabulate f 0 n) (e ∙ sym (tab-length f 0 n))
    (λ i l. h i (omega arith) ∙ sym (tab-at f 0 n i (omega arith) ∙ ap f (zero-add i)))

-- a loop that lends the run's stretches one after the other: p is what the stretches passed have become, d the run at first
pub put_front : (p d part : List ℕ) (a n : ℕ) → length p ≡ a → put_mid a n (p ++ drop a d) part ≡ (p ++ part) ++ drop (a + n) d
put_front p d part a n e =
    ap₂ ◌++◌ (take_at p (drop a d) a e) (ap (λ (l : List ℕ). part ++ drop n l) (drop_at p (drop a d) a e)
    ∙ ap (λ (l : List ℕ). part ++ l) (drop-drop n a d))
    ∙ sym (append_assoc p part (drop (a + n) d))

-- such a stretch is as long as its bounds say
pub mid-front : (s : List ℕ) (a n : ℕ) → a + n ≤ length s → length (mid_of a n s) ≡ n
mid-front s a n h = simp (length-take, length-drop) (omega arith)

-- a loop that writes a piece of w numbers a turn: the run after i turns is the first i elements' pieces and what was there
module _ (f : ℕ → List ℕ) (w : ℕ) (wide : (x : ℕ) → length (f x) ≡ w) where
  pub flat-length : (xs : List ℕ) → length (flat f xs) ≡ length xs * w
  flat-length [] = sym (zero-mul w)
  flat-length (x ∷ xs) = length-append (f x) (flat f xs) ∙ ap₂ ◌+◌ (wide x) (flat-length xs)
      ∙ sym (suc-mul (length xs) w ∙ add_comm (length xs * w) w)

  flat-suc : (i : ℕ) (s : List ℕ) → i < length s → flat f (take (suc i) s) ≡ flat f (take i s) ++ f (get_or s i 0)
  flat-suc i [] h = absurd (not-suc-le-zero h)
  flat-suc zero (x ∷ s) h = append-nil (f x)
  flat-suc (suc i) (x ∷ s) h = ap (λ (t : List ℕ). f x ++ t) (flat-suc i s (le_of_suc-le-suc h))
      ∙ sym (append_assoc (f x) (flat f (take i s)) (f (get_or s i 0)))

  -- a turn: part is what the piece's stretch has become; at = i * w in the code's own words
  pub flat-more : (i at at' k : ℕ) (s d b part : List ℕ) → at ≡ i * w → at' ≡ at + w → k ≡ w → at + w ≤ length b → i < length s
      → b ≡ flat f (take i s) ++ drop at d → part ≡ f (get_or s i 0)
      → (length (put_mid at k b part) ≡ length b) × (put_mid at k b part ≡ flat f (take (i + 1) s) ++ drop at' d)
  flat-more i at at' k s d b part ea en ek hb h eb ep =
      let front : length (flat f (take i s)) ≡ at = flat-length (take i s) ∙ ap (λ (n : ℕ). n * w) (length-take-le i s (omega arith))
      ∙ sym ea in (
        same_len_mid at k b part (ap length ep ∙ wide _ ∙ sym (mid-front b at k (rw ek hb) ∙ ek)),
        rw (eb, ek, put_front (flat f (take i s)) d part at w front, ep, en, add-one, flat-suc i s h) refl,
      )

  pub flat-all : (i at : ℕ) (s d b : List ℕ) → i ≡ length s → length d ≤ at → b ≡ flat f (take i s) ++ drop at d → b ≡ flat f s
  flat-all i at s d b e hd eb = eb ∙ rw (e, drop_of_length-le d hd, append-nil (flat f (take (length s) s)), take-length)

-- what stands at an index of the pieces
pub flat-at : (f : ℕ → List ℕ) (w : ℕ) → ((x : ℕ) → length (f x) ≡ w) → (i j : ℕ) (xs : List ℕ) → i < length xs → j < w
    → get_or (flat f xs) (i * w + j) 0 ≡ get_or (f (get_or xs i 0)) j 0
flat-at f w wide i j [] h k = absurd (not-suc-le-zero h)
flat-at f w wide zero j (x ∷ xs) h k = rw (zero-mul, zero-add) (get_or-append (f x) (flat f xs) 0 j (rw (wide x) k))
flat-at f w wide (suc i) j (x ∷ xs) h k =
    let e : suc i * w + j ≡ length (f x) + (i * w + j) = rw (suc-mul, wide x) (omega arith) in
    rw e (get_or-append-add (f x) (flat f xs) (i * w + j) 0 ∙ flat-at f w wide i j xs (le_of_suc-le-suc h) k)

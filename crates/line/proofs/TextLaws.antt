-- Digits, and the turns of the loops that count and write them. Assumes nothing.
use Prim.Native.Nat.{ℕ, zero, suc, ◌+◌, ◌-◌, ◌*◌, ◌/◌, ◌%◌, ◌^◌, ◌≤◌, ◌<◌}
use mathlib.Core.Path.{◌≡◌, refl, sym, ap, ap₂, ◌∙◌}
use mathlib.Core.Bool.{Bool, true, false, cond}
use mathlib.Core.List.{List, [], ◌∷◌, ◌++◌, append_assoc, append-nil}
use native.Mathlib.Nat.{pow-suc, mod-lt, zero-add}
use native.Mathlib.Omega.{arith}
use lib.ListN.{length, set, take, drop, length-set, length-append, length-drop, drop_of_length-le}
use lib.Seq.{drop-cons, drop-set-lt, get_or-set_same, drop-drop, take_at, drop_at, length-take-le}
use lib.Dec.{ltb}
use borrow.Rule.Slice.PartMut.{put_mid, mid_of, mid_len}
use borrow.Author.Tests.{lt-ltb, le-ltb, ltb-false}
use Rattle.line.specs.Text.{digit, digits, length_within, decimal_length, overwritten, TextPut, Begins}

pub digit_low : (d : ℕ) → d < 10 → 48 + d ≡ digit d
unfolding digit
digit_low d h = ap (λ (b : Bool). cond b (48 + d) (55 + d)) (sym (lt-ltb d 10 h))

pub digit-high : (d : ℕ) → 10 ≤ d → 55 + d ≡ digit d
unfolding digit
digit-high d h = ap (λ (b : Bool). cond b (48 + d) (55 + d)) (sym (le-ltb d 10 h))

-- a digit is below the base
pub digit-below : (rest base : ℕ) → 0 < base → base ≤ 16 → rest % base < 16
digit-below rest base p h = let k = mod-lt rest {m = base} p in omega arith

-- so many digits are so many
pub digits-length : (base count n : ℕ) → length (digits base count n) ≡ count
unfolding digits
digits-length base zero n = refl
digits-length base (suc count) n =
    length-append (digits base count (n / base)) (digit (n % base) ∷ []) ∙ rw (digits-length base count (n / base)) (omega arith)

-- a loop that writes the digits of x over a part, the last one first: `left` places are not written yet, and `rest` is what is left of x
module _ (base w x : ℕ) where
  pub record Spelt (part : List ℕ) (rest left : ℕ) : Type 0 where
    pub some : left ≤ w
    pub long : length part ≡ w
    pub same : digits base w x ≡ digits base left rest ++ drop left part

  pub spelt-none : (part : List ℕ) → length part ≡ w → Spelt part x w
  spelt-none part e = record {
    some = omega arith;
    long = e;
    same = rw (drop_of_length-le part {i = w} (omega arith), append-nil (digits base w x));
  }

  pub spelt-more : (part : List ℕ) (rest left place d : ℕ) → Spelt part rest left → 0 < left → place ≡ left - 1 → d ≡ digit (rest % base)
      → Spelt (set part place d) (rest / base) place
  unfolding digits
  spelt-more part rest left place d r l e q =
      let now : left ≡ suc place = omega arith in
      let here : place < length part = omega (arith, r.long, r.some) in
      record {
        some = omega (arith, r.some);
        long = simp length-set r.long;
        same =
            r.same
            ∙ rw (now, tail part place d here, q)
            (append_assoc (digits base place (rest / base)) (digit (rest % base) ∷ []) (drop (suc place) part));
      }
    where
      tail : (part : List ℕ) (k v : ℕ) → k < length part → drop k (set part k v) ≡ v ∷ drop (suc k) part
      tail part k v h =
          drop-cons (set part k v) k 0 (simp length-set h)
          ∙ rw (get_or-set_same part k v 0 h, drop-set-lt (suc k) part k v (omega arith))

  pub spelt-inside : (part : List ℕ) (rest left : ℕ) → Spelt part rest left → 0 < left → left - 1 < length part
  spelt-inside part rest left r l = omega (arith, r.long, r.some)

  pub spelt-all : (part : List ℕ) (rest left : ℕ) → Spelt part rest left → left ≤ 0 → part ≡ digits base w x
  unfolding digits
  spelt-all part rest left r l = let e : left ≡ 0 = omega arith in sym (rw e at r.same)

-- a loop that counts the decimal digits of n: `count` are counted with the last one of `rest`
pub record Counted (n rest count : ℕ) : Type 0 where
  pub some : 1 ≤ count
  pub most : count ≤ 20
  pub within : rest < 10 ^ (21 - count)
  pub same : suc (decimal_length n) ≡ count + length_within (21 - count) rest

pub counted-one : (n : ℕ) → n < 18446744073709551616 → Counted n n 1
unfolding decimal_length
counted-one n h =
    let e : decimal_length n ≡ length_within (21 - 1) n = refl in
    record { some = omega arith; most = omega arith; within = omega arith; same = omega arith }

pub counted-more : (n rest count : ℕ) → Counted n rest count → 10 ≤ rest → Counted n (rest / 10) (count + 1)
unfolding length_within
counted-more n rest count r l = go (20 - count) (omega arith)
  where
    go : (k : ℕ) → 20 - count ≡ k → Counted n (rest / 10) (count + 1)
    go zero e =
        let one : 21 - count ≡ 1 = omega (arith, r.most) in
        let small : rest < 10 ^ 1 = rw one at r.within in
        absurd (omega arith)
    go (suc k) e =
        let now : 21 - count ≡ suc (suc k) = omega (arith, r.most) in
        let next : 21 - (count + 1) ≡ suc k = omega (arith, r.most) in
        let big : rest < 10 ^ suc k * 10 = rw (now, pow-suc) at r.within in
        let more : suc (decimal_length n) ≡ count + suc (length_within (suc k) (rest / 10)) =
        (rw now at r.same) ∙ ap (λ (b : Bool). count + cond b 1 (suc (length_within (suc k) (rest / 10)))) (le-ltb rest 10 l) in
        record { some = omega arith; most = omega (arith, r.most); within = rw next (omega arith); same = rw next (omega arith) }

pub counted-all : (n rest count : ℕ) → Counted n rest count → rest < 10 → (count ≡ decimal_length n) × (count ≤ 20)
unfolding length_within
counted-all n rest count r l = (go (20 - count) (omega arith), r.most)
  where
    go : (k : ℕ) → 20 - count ≡ k → count ≡ decimal_length n
    go k e =
        let now : 21 - count ≡ suc k = omega (arith, r.most) in
        let last : suc (decimal_length n) ≡ count + 1 =
        (rw now at r.same) ∙ ap (λ (b : Bool). count + cond b 1 (suc (length_within k (rest / 10)))) (lt-ltb rest 10 l) in
        omega arith

-- a number below a power of ten has no more digits than that
pub length-le : (most n k : ℕ) → n < 10 ^ k → 1 ≤ k → length_within most n ≤ k
unfolding length_within
length-le zero n k h l = omega arith
length-le (suc most) n zero h l = absurd (omega arith)
length-le (suc most) n (suc j) h l =
    go (ltb n 10) refl j (rw pow-suc at h) (λ i q. length-le most (n / 10) (suc i) q (omega arith))
  where
    go : (b : Bool) → ltb n 10 ≡ b → (j : ℕ) → n < 10 ^ j * 10
        → ((i : ℕ) → n / 10 < 10 ^ suc i → length_within most (n / 10) ≤ suc i) → cond b 1 (suc (length_within most (n / 10))) ≤ suc j
    go true e j q f = omega arith
    go false e zero q f = let big : 10 ≤ n = ltb-false n 10 e in absurd (omega arith)
    go false e (suc i) q f = let k = f i (omega arith) in omega arith

-- a run over whose front a text was written
pub begins : (run text : List ℕ) (n : ℕ) (after : List ℕ) → n ≡ length text → after ≡ overwritten run 0 text → Begins after n text
unfolding overwritten
begins run text n after e q =
    record { length-is = e; text-is = ap (take n) q ∙ take_at text (drop (0 + length text) run) n (sym e) }

pub put-begins : (run text : List ℕ) (n : ℕ) (after : List ℕ) → TextPut run 0 text n after → Begins after n text
put-begins run text n after p = begins run text n after (p.behind-is ∙ zero-add (length text)) p.run_is

-- a part of a run that has become a text
pub laid : (run : List ℕ) (at k : ℕ) (text : List ℕ) → k ≡ length text → put_mid at k run text ≡ overwritten run at text
unfolding overwritten
laid run at k text e = ap (λ (rest : List ℕ). take at run ++ (text ++ rest)) (drop-drop k at run ∙ ap (λ (n : ℕ). drop (at + n) run) e)

-- a part that has been filled with digits
pub spelt-put : (base : ℕ) (run : List ℕ) (at to count n : ℕ) (part : List ℕ) → to ≡ at + count → to ≤ length run
    → part ≡ digits base (length (mid_of at (to - at) run)) n → TextPut run at (digits base count n) to (put_mid at (to - at) run part)
spelt-put base run at to count n part e h q =
    let k : to - at ≡ count = omega arith in
    let wide : length (digits base count n) ≡ count = digits-length base count n in
    record {
      behind-is = e ∙ rw wide refl;
      run_is =
          ap (put_mid at (to - at) run) (q ∙ ap (λ (w : ℕ). digits base w n) (mid_len at to run h ∙ k))
          ∙ laid run at (to - at) (digits base count n) (k ∙ sym wide);
    }

-- a part that a text was copied to
pub copied-put : (run : List ℕ) (at : ℕ) (text : List ℕ) (to : ℕ) (part : List ℕ) → to ≡ at + length text → part ≡ text
    → TextPut run at text to (put_mid at (to - at) run part)
copied-put run at text to part e q = record {
  behind-is = e;
  run_is = ap (put_mid at (to - at) run) q ∙ laid run at (to - at) text (omega arith);
}

-- a text and another one behind it
pub put_then : (run middle after : List ℕ) (at between behind : ℕ) (a b : List ℕ) → TextPut run at a between middle
    → TextPut middle between b behind after → at + length a ≤ length run → TextPut run at (a ++ b) behind after
unfolding overwritten
put_then run middle after at between behind a b p q h =
    let head : length (take at run ++ a) ≡ between =
    length-append (take at run) a ∙ rw (length-take-le at run (omega arith)) (sym p.behind-is) in
    let cut : middle ≡ (take at run ++ a) ++ drop (at + length a) run =
    p.run_is ∙ sym (append_assoc (take at run) a (drop (at + length a) run)) in
    let both : at + length a + length b ≡ at + length (a ++ b) = rw (length-append a b) (omega arith) in
    record {
      behind-is = q.behind-is ∙ rw (p.behind-is, length-append a b) (omega arith);
      run_is =
          q.run_is
          ∙ ap₂ ◌++◌
          (ap (take between) cut ∙ take_at (take at run ++ a) (drop (at + length a) run) between head)
          (ap (λ (s : List ℕ). b ++ drop (between + length b) s) cut
          ∙ ap (λ (s : List ℕ). b ++ s)
          (sym (drop-drop (length b) between ((take at run ++ a) ++ drop (at + length a) run))
          ∙ ap (drop (length b)) (drop_at (take at run ++ a) (drop (at + length a) run) between head)
          ∙ drop-drop (length b) (at + length a) run
          ∙ ap (λ (n : ℕ). drop n run) both))
          ∙ rejoin;
    }
  where
    rejoin : (take at run ++ a) ++ (b ++ drop (at + length (a ++ b)) run) ≡ take at run ++ ((a ++ b) ++ drop (at + length (a ++ b)) run)
    rejoin =
        append_assoc (take at run) a (b ++ drop (at + length (a ++ b)) run)
        ∙ ap (λ (s : List ℕ). take at run ++ s) (sym (append_assoc a b (drop (at + length (a ++ b)) run)))

-- texts one after the other: so far at most k bytes, the run as long as it was
pub record Stage (run : List ℕ) (at : ℕ) (text : List ℕ) (k behind : ℕ) (after : List ℕ) : Type 0 where
  pub put : TextPut run at text behind after
  pub most : length text ≤ k
  pub long : length after ≡ length run

pub put-length : (run : List ℕ) (at : ℕ) (text : List ℕ) (behind : ℕ) (after : List ℕ) → TextPut run at text behind after
    → at + length text ≤ length run → length after ≡ length run
unfolding overwritten
put-length run at text behind after p h =
    ap length p.run_is
    ∙ simp (length-append, length-drop) (rw (length-take-le at run (omega arith)) (omega arith))

module _ (run : List ℕ) (at : ℕ) where
  pub first-stage : (text : List ℕ) (k behind : ℕ) (after : List ℕ) → TextPut run at text behind after → length text ≤ k
      → at + k ≤ length run → Stage run at text k behind after
  first-stage text k behind after p m h = record { put = p; most = m; long = put-length run at text behind after p (omega arith) }

  pub next-stage : (text : List ℕ) (k between : ℕ) (middle next : List ℕ) (j behind : ℕ) (after : List ℕ)
      → Stage run at text k between middle → TextPut middle between next behind after → length next ≤ j → at + k + j ≤ length run
      → Stage run at (text ++ next) (k + j) behind after
  next-stage text k between middle next j behind after s p m h =
      let here : between ≡ at + length text = s.put.behind-is in
      record {
        put = put_then run middle after at between behind text next s.put p (omega (arith, s.most));
        most = rw (length-append text next) (omega (arith, s.most));
        long = put-length middle between next behind after p (omega (arith, s.most, s.long)) ∙ s.long;
      }

  pub room : (text : List ℕ) (k between : ℕ) (middle : List ℕ) (j : ℕ) → Stage run at text k between middle → at + k + j ≤ length run
      → between + j ≤ length middle
  room text k between middle j s h =
      let here : between ≡ at + length text = s.put.behind-is in
      omega (arith, s.most, s.long)

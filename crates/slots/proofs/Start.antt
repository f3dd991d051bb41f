-- The turns of the loops that make the slots empty. Assumes nothing.
use Prim.Native.Nat.{ℕ, zero, suc, ◌+◌, ◌-◌, ◌*◌, ◌/◌, ◌≤◌, ◌<◌}
use mathlib.Core.Path.{◌≡◌, refl, sym, ap, ◌∙◌}
use mathlib.Core.Bool.{true}
use mathlib.Core.List.{List, ◌∷◌, ◌++◌, append_assoc}
use mathlib.Core.Logic.{⊎_elim}
use native.Mathlib.Nat.{add-suc, add-zero, mod-eq_of_lt, not-suc-le-zero, eq-or-lt_of_le, le_of_suc-le-suc, ne_of_lt}
use native.Mathlib.Omega.{arith}
use lib.ListN.{length, set, take, drop, replicate, length-append, length-replicate}
use lib.ListN.{take-append-drop}
use lib.Seq.{set_at, drop-cons, drop-drop, length-take-le}
use borrow.Rule.Slice.PartMut.{put_mid, mid_of, mid_len, same_len_mid}
use Rattle.entry.specs.Address.{set_of}
use Rattle.entry.specs.Empty.{empty_entry}
use Rattle.entry.proofs.Fields.{empty-lt}
use Rattle.slots.specs.Buffer.{Buffer, buffer_fits, slot_at, with_slot}
use Rattle.slots.specs.Buffer.Buffer.{Wide}
use Rattle.slots.specs.Start.{empty_first, start_buffer}
use Rattle.slots.proofs.Slots.{fits-length, at_same, at_other, fits-put}

-- one number more at the end of a run of equal ones
shift : (k e : ℕ) (ys : List ℕ) → replicate k e ++ (e ∷ ys) ≡ e ∷ (replicate k e ++ ys)
shift zero e ys = refl
shift (suc k) e ys = ap (λ (l : List ℕ). e ∷ l) (shift k e ys)

set_next : (p d : List ℕ) (k e a : ℕ) → length p + k ≡ a → a < length d
    → set (p ++ (replicate k e ++ drop a d)) a e ≡ p ++ (e ∷ (replicate k e ++ drop (suc a) d))
set_next p d k e a q l =
    ap (λ (r : List ℕ). set (p ++ (replicate k e ++ r)) a e) (drop-cons d a 0 l)
    ∙ ap (λ (r : List ℕ). set r a e) (sym (append_assoc p (replicate k e) _))
    ∙ set_at (p ++ replicate k e) _ (drop (suc a) d) e a (simp (length-append, length-replicate) q)
    ∙ append_assoc p (replicate k e) _
    ∙ ap (λ (r : List ℕ). p ++ r) (shift k e (drop (suc a) d))

-- a slot of set n gets that set's empty entry
own-set : (n k : ℕ) → k < 16 → set_of (16 * n + k) ≡ n
unfolding set_of
own-set n k l = omega arith

stored : (numbers : List ℕ) (slot n : ℕ) → n < 4 → with_slot (Wide numbers) slot (empty_entry n) ≡ Wide (set numbers slot (empty_entry n))
unfolding with_slot
stored numbers slot n l = rw (mod-eq_of_lt (empty-lt n l))

-- k slots of set n are made empty, where those of the lower sets are so already
first-of-set : (numbers : List ℕ) (b : Buffer) (n k : ℕ) → n < 4 → k ≤ 16 → length numbers ≡ 64 → Wide numbers ≡ empty_first (16 * n) b
    → empty_first (16 * n + k) b ≡ Wide (take (16 * n) numbers ++ (replicate k (empty_entry n) ++ drop (16 * n + k) numbers))
unfolding empty_first
first-of-set numbers b n zero l m e q = rw (add-zero (16 * n)) (sym q ∙ ap Wide (sym (take-append-drop (16 * n) numbers)))
first-of-set numbers b n (suc k) l m e q =
    rw (add-suc (16 * n) k)
    (ap (λ (x : Buffer). with_slot x (16 * n + k) (empty_entry (set_of (16 * n + k)))) (first-of-set numbers b n k l (omega arith) e q) ∙ next)
  where
    next : with_slot (Wide (take (16 * n) numbers ++ (replicate k (empty_entry n) ++ drop (16 * n + k) numbers))) (16 * n + k)
        (empty_entry (set_of (16 * n + k)))
        ≡ Wide (take (16 * n) numbers ++ (empty_entry n ∷ (replicate k (empty_entry n) ++ drop (suc (16 * n + k)) numbers)))
    next =
        rw (
          own-set n k (omega arith),
          stored (take (16 * n) numbers ++ (replicate k (empty_entry n) ++ drop (16 * n + k) numbers))
              (16 * n + k) n l,
        )
        (ap Wide (set_next (take (16 * n) numbers) numbers k (empty_entry n) (16 * n + k)
        (rw (length-take-le (16 * n) numbers (omega arith)) refl) (omega arith)))

pub record Sets (b : Buffer) (numbers : List ℕ) (n : ℕ) : Type 0 where
  pub same_length : length numbers ≡ 64
  pub in-range : n ≤ 4
  pub lower-empty : Wide numbers ≡ empty_first (16 * n) b

pub sets-begin : (numbers : List ℕ) → buffer_fits (Wide numbers) ≡ true → Sets (Wide numbers) numbers 0
unfolding empty_first
sets-begin numbers f = record { same_length = fits-length numbers f; in-range = omega arith; lower-empty = refl }

-- one set more: the part from 16 × n on, sixteen long, is filled
pub sets-turn : (b : Buffer) (numbers part : List ℕ) (n e : ℕ) → Sets b numbers n → n < 4 → e ≡ empty_entry n
    → part ≡ replicate (length (mid_of (16 * n) (16 * n + 16 - 16 * n) numbers)) e
    → Sets b (put_mid (16 * n) (16 * n + 16 - 16 * n) numbers part) (n + 1)
sets-turn b numbers part n e s l eq pq = record {
  same_length = same_len_mid (16 * n) (16 * n + 16 - 16 * n) numbers part (ap length pq ∙ simp length-replicate) ∙ s.same_length;
  in-range = omega arith;
  lower-empty =
      ap Wide
      (rw (part-is, drop-drop (16 * n + 16 - 16 * n) (16 * n) numbers, wide) refl)
      ∙ sym (first-of-set numbers b n 16 l (omega arith) s.same_length s.lower-empty)
      ∙ ap (λ (k : ℕ). empty_first k b) (omega arith);
}
  where
    wide : 16 * n + 16 - 16 * n ≡ 16
    wide = omega arith

    part-is : part ≡ replicate 16 (empty_entry n)
    part-is =
        pq
        ∙ ap (λ (k : ℕ). replicate k e) (mid_len (16 * n) (16 * n + 16) numbers (omega (arith, s.same_length)) ∙ wide)
        ∙ ap (replicate 16) eq

pub sets_end : (b : Buffer) (numbers : List ℕ) (n : ℕ) → Sets b numbers n → 4 ≤ n → Wide numbers ≡ start_buffer b
unfolding start_buffer
sets_end b numbers n s l =
    let e : 16 * n ≡ 64 = (let a = s.in-range in omega arith) in
    s.lower-empty ∙ ap (λ (k : ℕ). empty_first k b) e

-- what the start leaves: a buffer that fits where it did, and every slot empty
pub first_fits : (n : ℕ) (b : Buffer) → buffer_fits (empty_first n b) ≡ buffer_fits b
unfolding empty_first
first_fits zero b = refl
first_fits (suc n) b = fits-put (empty_first n b) n (empty_entry (set_of n)) ∙ first_fits n b

first-at : (n slot : ℕ) (b : Buffer) → buffer_fits b ≡ true → n ≤ 64 → slot < n → slot_at (empty_first n b) slot ≡ empty_entry (set_of slot)
unfolding empty_first set_of
first-at zero slot b f m l = absurd (not-suc-le-zero l)
first-at (suc n) slot b f m l = ⊎_elim last (λ k. earlier k (first-at n slot b f (omega arith) k)) (eq-or-lt_of_le (le_of_suc-le-suc l))
  where
    last : slot ≡ n → slot_at (with_slot (empty_first n b) n (empty_entry (n / 16))) slot ≡ empty_entry (slot / 16)
    last e =
        rw e (at_same (empty_first n b) n (empty_entry (n / 16)) (first_fits n b ∙ f) (omega arith)
        ∙ mod-eq_of_lt (empty-lt (n / 16) (omega arith)))

    earlier : slot < n → slot_at (empty_first n b) slot ≡ empty_entry (slot / 16)
        → slot_at (with_slot (empty_first n b) n (empty_entry (n / 16))) slot ≡ empty_entry (slot / 16)
    earlier k ih = at_other (empty_first n b) n slot (empty_entry (n / 16)) (λ e. ne_of_lt k e) ∙ ih

pub start_fits : (b : Buffer) → buffer_fits (start_buffer b) ≡ buffer_fits b
unfolding start_buffer
start_fits b = first_fits 64 b

pub start-at : (b : Buffer) (slot : ℕ) → buffer_fits b ≡ true → slot < 64 → slot_at (start_buffer b) slot ≡ empty_entry (set_of slot)
unfolding start_buffer
start-at b slot f l = first-at 64 slot b f (omega arith) l

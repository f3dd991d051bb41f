-- The ways of the code through a walk, from what its tests and calls gave. Assumes nothing.
use Prim.Native.Nat.{ℕ, zero, suc, ◌+◌, ◌-◌, ◌*◌, ◌≤◌, ◌<◌}
use mathlib.Core.Path.{◌≡◌, refl, sym, ap, ◌∙◌}
use mathlib.Core.Bool.{Bool, true, false}
use mathlib.Core.List.{List}
use lib.ListN.{length, get_or}
use native.Mathlib.Numerals.{sub-one}
use native.Mathlib.Omega.{arith}
use borrow.Author.Tests.{not-true}
use Rattle.runs.proofs.Bools.{both}
use Rattle.page_table.specs.Words.{present, number}
use Rattle.page_table.specs.Stretches.{stretch_size, index_in, stretch}
use Rattle.page_table.specs.Walk.{stop_at, index_below, walk_tree, global_first, walk_page}
use Rattle.page_table.specs.Reads.{leads_on}
use Rattle.page_table.specs.Ends.{end_at, end_read, decided}
use Rattle.page_table.specs.declared.End.{End}
use Rattle.page_table.specs.declared.Stop.{Stop}
use Rattle.page_table.specs.declared.Walk.{Walk}
use Rattle.page_table.specs.declared.Walk.TheVariants.{Leaf, Absent, Broken}
use Rattle.page_table.proofs.Stretches.{size-le, index-lt, stretch-length, stretch-at, stretch-room, sound-inside}

-- the stretch below a word, as the calls gave it: its bounds, and the word's index in it
pub size-bounds : (levels size : ℕ) → size ≡ stretch_size levels → (1 ≤ size) × (size ≤ 1024)
size-bounds levels size sized = rw sized (size-le levels)

pub room : (levels size n vpn i word : ℕ) → vpn < 524288 → size ≡ stretch_size levels → n ≡ number word → i ≡ index_in levels vpn
    → size * n + i ≤ 67108863
room levels size n vpn i word page sized numbered placed =
    let bounds = size-bounds levels size sized in
    let below : i < size = rw (placed, sized) (index-lt levels vpn page) in
    omega (arith, below, bounds, stretch-room size n word bounds.1 numbered)

pub below-lt : (levels vpn i word : ℕ) → vpn < 524288 → i ≡ index_below vpn levels word → i < 67108864
unfolding index_below
below-lt levels vpn i word page e =
    omega (arith, e, room levels (stretch_size levels) (number word) vpn (index_in levels vpn) word page refl refl refl)

pub index-in-lt : (levels vpn i : ℕ) → vpn < 524288 → i ≡ index_in levels vpn → i < 1024
index-in-lt levels vpn i page placed = omega (arith, placed, index-lt levels vpn page, size-le levels)

-- what a word leads on to is inside the run
pub leads-inside : (length levels w : ℕ) → leads_on length levels w ≡ true → stretch_size levels * number w + stretch_size levels ≤ length
unfolding leads_on
leads-inside length levels w on = sound-inside length (stretch_size levels) w (not-true _ (both (present w) _ on).1)

pub leads-below : (length vpn levels w : ℕ) → vpn < 524288 → leads_on length levels w ≡ true → index_below vpn levels w < length
unfolding index_below
leads-below length vpn levels w page on = omega (arith, index-lt levels vpn page, leads-inside length levels w on)

pub lent-inside : (length levels w size n : ℕ) → leads_on length levels w ≡ true → size ≡ stretch_size levels → n ≡ number w
    → size * n + size ≤ length
lent-inside length levels w size n on sized numbered = rw (sized, numbered) (leads-inside length levels w on)

-- the test by a run's count is that of its words, and the stretch that was lent by its size and number
pub in-run : (words : List ℕ) (levels w n : ℕ) (b : Bool) → n ≡ length words → b ≡ leads_on n levels w → b ≡ leads_on (length words) levels w
in-run words levels w n b counted judged = judged ∙ ap (λ (k : ℕ). leads_on k levels w) counted

pub lent : (words part : List ℕ) (levels w : ℕ) (size : ℕ) {n : ℕ} → size ≡ stretch_size levels → n ≡ number w → part ≡ stretch words size n
    → part ≡ stretch words (stretch_size levels) (number w)
lent words part levels w size sized numbered given = given ∙ rw (sized, numbered) refl

-- the next word, in the stretch that was lent
module _ (words : List ℕ) (vpn levels word : ℕ) (page : vpn < 524288) (on : leads_on (length words) levels word ≡ true)
    (part : List ℕ) (lent : part ≡ stretch words (stretch_size levels) (number word)) (i : ℕ) (placed : i ≡ index_in levels vpn) where
  pub next-inside : i < length part
  next-inside =
      rw (lent, stretch-length words (stretch_size levels) (number word) (leads-inside (length words) levels word on), placed)
      (index-lt levels vpn page)

  pub next-stands : (next index : ℕ) → next ≡ get_or part i 0 → index ≡ index_below vpn levels word → next ≡ get_or words index 0
  unfolding index_below
  next-stands next index read e =
      read
      ∙ rw (lent, e, placed)
      (stretch-at words (stretch_size levels) (number word) (index_in levels vpn) (index-lt levels vpn page))

-- the three ways at a word: no level below, no way on, on to the next word
module _ (words : List ℕ) (vpn levels word at : ℕ) (stands : word ≡ get_or words at 0) where
  pub end-leaf : levels ≡ 0 → end_at levels word at ≡ end_read words vpn levels at
  unfolding end_read
  end-leaf e = rw (stands, e) refl

  module _ (more : levels ≡ 0 → ⊥) (b : Bool) (judged : b ≡ leads_on (length words) (levels - 1) word) where
    pub end-stuck : b ≡ false → end_at levels word at ≡ end_read words vpn levels at
    unfolding end_read
    end-stuck h = go levels more (sym judged ∙ h)
      where
        go : (n : ℕ) → (n ≡ 0 → ⊥) → leads_on (length words) (n - 1) word ≡ false → end_at n word at ≡ end_read words vpn n at
        go zero ne off = absurd (ne refl)
        go (suc n) ne off = sym (rw (← stands, rw (sub-one (suc n)) at off))

    pub end_on : b ≡ true → (next : ℕ) → next ≡ index_below vpn (levels - 1) word → (r : End) → r ≡ end_read words vpn (levels - 1) next
        → r ≡ end_read words vpn levels at
    unfolding end_read
    end_on h next e r given = given ∙ go levels more (sym judged ∙ h) e
      where
        go : (n : ℕ) → (n ≡ 0 → ⊥) → leads_on (length words) (n - 1) word ≡ true → next ≡ index_below vpn (n - 1) word
            → end_read words vpn (n - 1) next ≡ end_read words vpn n at
        go zero ne on e = absurd (ne refl)
        go (suc n) ne on e = rw e (rw (sub-one (suc n)) (sym (rw (← stands, rw (sub-one (suc n)) at on))))

-- what a word says at which a walk ends
module _ (global : Bool) (levels word at : ℕ) (b : Bool) (seen : b ≡ present word) where
  pub says-absent : b ≡ false → Absent (stop_at global levels) ≡ decided global levels word at
  unfolding decided
  says-absent h = go levels (sym seen ∙ h)
    where
      go : (l : ℕ) → present word ≡ false → Absent (stop_at global l) ≡ decided global l word at
      go zero off = sym (rw off)
      go (suc n) off = sym (rw off)

  pub says-leaf : b ≡ true → levels ≡ 0 → Leaf (record { global = global; word = word; index = at }) ≡ decided global levels word at
  unfolding decided
  says-leaf h e = sym (rw (e, sym seen ∙ h))

  pub says-broken : b ≡ true → (levels ≡ 0 → ⊥) → Broken (stop_at global levels) ≡ decided global levels word at
  unfolding decided
  says-broken h more = go levels more (sym seen ∙ h)
    where
      go : (l : ℕ) → (l ≡ 0 → ⊥) → present word ≡ true → Broken (stop_at global l) ≡ decided global l word at
      go zero ne on = absurd (ne refl)
      go (suc n) ne on = sym (rw on)

-- both trees: the `else` of the code knows of the first answer that its case is not absent
not-absent : (x own : Walk) → ((s : Stop) → x ≡ Absent s → ⊥) → x ≡ global_first x own
unfolding global_first
not-absent (Absent s) own k = absurd (k s refl)
not-absent (Broken s) own k = refl
not-absent (Leaf f) own k = refl

module _ (words : List ℕ) (id vpn : ℕ) (x : Walk) (first : x ≡ walk_tree words vpn true 63) where
  pub first-decides : ((s : Stop) → x ≡ Absent s → ⊥) → x ≡ walk_page words id vpn
  unfolding walk_page
  first-decides k = not-absent x (walk_tree words vpn false id) k ∙ ap (λ (y : Walk). global_first y (walk_tree words vpn false id)) first

  pub own-decides : {s : Stop} → x ≡ Absent s → (y : Walk) → y ≡ walk_tree words vpn false id → y ≡ walk_page words id vpn
  unfolding walk_page global_first
  own-decides absent y own = own ∙ sym (rw (sym first ∙ absent))

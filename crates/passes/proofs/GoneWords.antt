-- What one pass and two passes make of the leaf of a page, over words. Assumes nothing.
use Prim.Native.Nat.{ℕ, ◌+◌, ◌*◌, ◌/◌, ◌%◌, ◌<◌}
use mathlib.Core.Path.{◌≡◌, sym, ap, ◌∙◌, subst}
use mathlib.Core.Bool.{Bool, true, false, cond}
use mathlib.Core.List.{List}
use native.Mathlib.Omega.{arith}
use lib.ListN.{length, get_or}
use Rattle.runs.proofs.Bools.{and_both}
use Rattle.page_table.specs.Words.{present, number, leaf_pfn}
use Rattle.page_table.specs.Stretches.{directory_word}
use Rattle.page_table.specs.Reads.{leads_on}
use Rattle.page_table.specs.Walk.{walk_tree}
use Rattle.page_table.specs.declared.Found.{Found}
use Rattle.page_table.specs.declared.Walk.TheVariants.{Leaf}
use Rattle.page_table.proofs.Ways.{Way, way_of, way-absent}
use Rattle.trees.specs.Trees.{tree_fits}
use Rattle.trees.proofs.Apart.{Apart, apart-told, fits-apart}
use Rattle.collector.specs.Visits.{in_pool, is_visited, aged}
use Rattle.collector.proofs.Puts.{pass_words}
use Rattle.collector.proofs.Passes.{pass-length, pass-root, pass-word, pass-leaf}
use Rattle.passes.specs.Gone.{Gone, GoneIn}
use Rattle.passes.proofs.Ages.{again, old-gone, young-word, old-word}

-- where the three words of a page stand in a run: its root's, its directory's and its leaf's
module _ (words : List ℕ) (id vpn : ℕ) where
  abbrev own : ℕ
  own = number (get_or words id 0)

  abbrev column : ℕ
  column = directory_word words (number (get_or words id 0)) (vpn / 1024)

  -- the words that lead on to the leaf's table
  pub record Led : Type 0 where
    pub root-leads : leads_on (length words) 1 (get_or words id 0) ≡ true
    pub word-leads : leads_on (length words) 0 (directory_word words (number (get_or words id 0)) (vpn / 1024)) ≡ true

  pub leaf_index : ℕ
  leaf_index = 1024 * number (directory_word words (number (get_or words id 0)) (vpn / 1024)) + vpn % 1024

-- one pass over a tree that passes number 12: the page's words lead on as before, to the same leaf, which is aged if it is visited
module _ (words : List ℕ) (first size id : ℕ) (known : id < 64) (fits : tree_fits words id ≡ true) (vpn : ℕ) (page : vpn < 524288)
    (led : Led words id vpn) where
  abbrev after : List ℕ
  after = pass_words words first size id

  own-apart : Apart words (number (get_or words id 0))
  own-apart = apart-told words id (number (get_or words id 0)) (fits-apart words id led.root-leads fits)

  same-root : get_or after id 0 ≡ get_or words id 0
  same-root = pass-root words first size id led.root-leads id known

  same_word : directory_word after (number (get_or after id 0)) (vpn / 1024) ≡ directory_word words (number (get_or words id 0)) (vpn / 1024)
  same_word =
      ap (λ (w : ℕ). directory_word after (number w) (vpn / 1024)) same-root
      ∙ pass-word words first size id led.root-leads own-apart (vpn / 1024) (omega arith)

  pub still-led : Led (pass_words words first size id) id vpn
  still-led = record {
    root-leads = rw (pass-length words first size id led.root-leads, same-root) led.root-leads;
    word-leads = rw (pass-length words first size id led.root-leads, same_word) led.word-leads;
  }

  pub same_index : leaf_index (pass_words words first size id) id vpn ≡ leaf_index words id vpn
  unfolding leaf_index
  same_index = ap (λ (w : ℕ). 1024 * number w + vpn % 1024) same_word

  pub leaf-after : get_or (pass_words words first size id) (leaf_index words id vpn) 0
      ≡ cond (is_visited first size (get_or words (leaf_index words id vpn) 0)) (aged (get_or words (leaf_index words id vpn) 0))
      (get_or words (leaf_index words id vpn) 0)
  unfolding leaf_index
  leaf-after = pass-leaf words first size id led.root-leads own-apart (vpn / 1024) (vpn % 1024) (omega arith) led.word-leads
      (omega arith)

-- a page whose words lead on to a word that is not present
gone-there : (words : List ℕ) (id vpn : ℕ) (f : Found) → Led words id vpn → f.index ≡ leaf_index words id vpn
    → present (get_or words f.index 0) ≡ false → Gone words id vpn f
unfolding leaf_index
gone-there words id vpn f led e none = record {
  not-present = none;
  walk-absent =
      way-absent words id vpn led.root-leads led.word-leads (subst (λ (i : ℕ). present (get_or words i 0) ≡ false) e none);
}

-- two passes over words
pub gone-words : (words : List ℕ) (first size id : ℕ) → id < 64 → tree_fits words id ≡ true
    → tree_fits (pass_words words first size id) id ≡ true
    → (vpn : ℕ) (f : Found) → vpn < 524288 → walk_tree words vpn false id ≡ Leaf f → in_pool first size (leaf_pfn f.word) ≡ true
    → GoneIn (pass_words words first size id) (pass_words (pass_words words first size id) first size id) id vpn f
unfolding leaf_index is_visited
gone-words words first size id known fits fits_after vpn f page found chosen = record {
  valid-cleared = λ young. once ∙ young-word f.word young;
  present-cleared = λ old. once ∙ old-word f.word old;
  gone-at-once = λ old.
      gone-there (pass_words words first size id) id vpn f led-after (place ∙ sym moved) (ap present once ∙ old-gone f.word old);
  gone-later =
      gone-there (pass_words (pass_words words first size id) first size id) id vpn f led-later (place ∙ sym moved ∙ sym moved-again)
      (ap present twice ∙ again first size f.word seen);
}
  where
    way : Way words id vpn f
    way = way_of words id vpn f found

    led : Led words id vpn
    led = record { root-leads = way.root-leads; word-leads = way.word-leads }

    place : f.index ≡ leaf_index words id vpn
    place = way.index_is

    word-is : get_or words (leaf_index words id vpn) 0 ≡ f.word
    word-is = ap (λ (i : ℕ). get_or words i 0) (sym place) ∙ sym way.word-is

    seen : is_visited first size f.word ≡ true
    seen = and_both (subst (λ (v : ℕ). present v ≡ true) (sym way.word-is) way.is-present) chosen

    once : get_or (pass_words words first size id) f.index 0 ≡ aged f.word
    once =
        ap (λ (i : ℕ). get_or (pass_words words first size id) i 0) place
        ∙ leaf-after words first size id known fits vpn page led
        ∙ ap (λ (v : ℕ). cond (is_visited first size v) (aged v) v) word-is
        ∙ ap (λ (b : Bool). cond b (aged f.word) f.word) seen

    led-after : Led (pass_words words first size id) id vpn
    led-after = still-led words first size id known fits vpn page led

    moved : leaf_index (pass_words words first size id) id vpn ≡ leaf_index words id vpn
    moved = same_index words first size id known fits vpn page led

    led-later : Led (pass_words (pass_words words first size id) first size id) id vpn
    led-later = still-led (pass_words words first size id) first size id known fits_after vpn page led-after

    moved-again : leaf_index (pass_words (pass_words words first size id) first size id) id vpn
        ≡ leaf_index (pass_words words first size id) id vpn
    moved-again = same_index (pass_words words first size id) first size id known fits_after vpn page led-after

    twice : get_or (pass_words (pass_words words first size id) first size id) f.index 0
        ≡ cond (is_visited first size (aged f.word)) (aged (aged f.word)) (aged f.word)
    twice =
        ap (λ (i : ℕ). get_or (pass_words (pass_words words first size id) first size id) i 0) (place ∙ sym moved)
        ∙ leaf-after (pass_words words first size id) first size id known fits_after vpn page led-after
        ∙ ap (λ (i : ℕ). cond (is_visited first size (get_or (pass_words words first size id) i 0))
        (aged (get_or (pass_words words first size id) i 0))
        (get_or (pass_words words first size id) i 0)) (moved ∙ sym place)
        ∙ ap (λ (v : ℕ). cond (is_visited first size v) (aged v) v) once

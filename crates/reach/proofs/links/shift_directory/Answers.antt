use Rattle.std.proofs.Common.{ℕ, List, ◌≤◌, ◌≡◌, ◌+◌, ◌*◌, ◌<◌, length, get_or, take, drop, rules, arith, ◌∙◌}
use Rattle.std.proofs.lemmas.List.{get_or-take, get_or-drop, length-take, length-drop}
use Rattle.page_table.specs.Stretches.{stretch}
use Rattle.reach.proofs.LinkLaws.{shifted_none, shifted_fits, shifted-more, shifted-all}
use Rattle.reach.proofs.links.shift_directory.Goals as goal

-- words that a loop takes one after the other are the first of a directory
record Front (words : List ℕ) (d : ℕ) (items : List ℕ) : Type 0 where
  few : length items ≤ 512
  at : (k : ℕ) → k < length items → get_or items k 0 ≡ get_or words (512 * d + k) 0

front : (words items : List ℕ) (d n : ℕ) → items ≡ take n (drop (512 * d) words) → n ≤ 512 → Front words d items
front words items d n e l =
    let cut = length-take n (drop (512 * d) words) in
    rw e (record {
      few = omega (arith, cut);
      at = λ k h. get_or-take n (drop (512 * d) words) k 0 (omega (arith, cut)) ∙ get_or-drop (512 * d) words k 0;
    })

place : (words items : List ℕ) (d k : ℕ) → Front words d items → k < length items → (k < 512) × (get_or items k 0 ≡ get_or words (512 * d + k) 0)
place words items d k f h = (omega (arith, f.few), f.at k h)

-- and where they are all of it, a loop that has taken them is at 512
record Whole (words : List ℕ) (d : ℕ) (items : List ℕ) : Type 0 where
  long : 512 ≤ length items

whole : (words items : List ℕ) (d n : ℕ) → items ≡ take n (drop (512 * d) words) → 512 ≤ n → 512 * d + 512 ≤ length words → Whole words d items
whole words items d n e l inside =
    let cut = length-take n (drop (512 * d) words) in
    let rest = length-drop (512 * d) words in
    rw e (record { long = omega (arith, cut, rest) })

all : (words items : List ℕ) (d k : ℕ) → Whole words d items → length items ≤ k → 512 ≤ k
all words items d k w h = omega (arith, w.long)

pub loop-word-init : goal.loop-word-init
loop-word-init c = shifted_none _ _ _ _

pub shift-requires : goal.shift-requires
unfolding stretch
shift-requires c =
    let h = place _ _ c.args.directory _ (search (rules, front)) c.loop-word-test.true in
    shifted_fits _ _ _ _ _ _ _ c.loop-word.invariant c.requires.1 h.0 h.1

pub loop-word-preserved : goal.loop-word-preserved
unfolding stretch
loop-word-preserved c =
    let h = place _ _ c.args.directory _ (search (rules, front)) c.loop-word-test.true in
    shifted-more _ _ _ _ _ _ _ _ c.loop-word.invariant h.0 h.1 c.shift.ensures

pub returns : goal.returns
unfolding stretch
returns c =
    shifted-all _ _ _ _ _ _ c.loop-word.invariant
    (all c.args.words.now _ c.args.directory _ (search (rules, whole)) c.loop-word-test.false)

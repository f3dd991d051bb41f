-- What each pass is refused with. Assumes nothing.
use Prim.Native.Nat.{ℕ}
use mathlib.Core.Path.{◌≡◌, refl, ap₂, ◌∙◌}
use mathlib.Core.Bool.{Bool, true, false, ◌&&◌}
use mathlib.Core.List.{List}
use lib.Dec.{leb}
use Rattle.runs.specs.Counts.{all, any}
use Rattle.registers.specs.Fields.{to_words, from_words, field, widths, fits_at, registers_fit, zero_registers}
use Rattle.registers.specs.Refusals.{refuse_unless}
use Rattle.page_table.specs.Words.{leaf_pfn}
use Rattle.page_table.specs.Stretches.{tables_fit}
use Rattle.slots.specs.Buffer.{buffer_fits, with_slot}
use Rattle.slots.specs.Start.{empty_first, start_buffer}
use Rattle.store.specs.Rewrite.{Put}
use Rattle.heap.specs.Bits.{held_at}
use Rattle.heap.specs.Pools.{frames_fit, pool_fits}
use Rattle.heap.specs.Sequences.{times}
use Rattle.trees.specs.Trees.{tree_fits}
use Rattle.collector.specs.Visits.{pass_leaves}
use Rattle.collector.specs.Frames.{pfns_of, mapped_twice, mapped_unheld, mapped_right}
use Rattle.collector.specs.Collect.{may_collect, collect_refusal}
use Rattle.pass_examples.specs.Scene.{three-pages, frame-twice, two-roots, own-table, frames, two-held, empty, loaded, lent}
use Rattle.pass_examples.specs.Passes.{Refused}
use Rattle.pass_examples.proofs.Trees.{three-fit, twice-fit, roots-fit, own-fit, visits, visits-twice, visits-none}
use Rattle.pass_examples.proofs.Trees.{stands, no-tree-stands, lies-in-its-own, is_shared}

-- registers, buffer and pool fit: so the run, the identification and the tree decide
by-tree : (words : List ℕ) → tables_fit words ≡ true → (bits id : ℕ) (b : Bool) → may_collect words (frames bits) id ≡ b
    → collect_refusal (lent words) (frames bits) id ≡ refuse_unless (leb id 62) 5 (refuse_unless b 12 0)
unfolding collect_refusal lent frames refuse_unless pool_fits frames_fit registers_fit all fits_at field to_words widths zero_registers from_words
    buffer_fits loaded empty start_buffer empty_first with_slot
by-tree words fits bits id b e =
    ap₂ (λ (f t : Bool). refuse_unless f 3 (refuse_unless (leb id 62) 5 (refuse_unless t 12 0))) fits e

-- the tree and the frames decide, by what is visited
module _ (words : List ℕ) (bits id : ℕ) where
  by_both : (t : Bool) → tree_fits words id ≡ t → (ls : List Put) → pass_leaves words 100 3 id ≡ ls
      → may_collect words (frames bits) id ≡ t && mapped_right (frames bits) (pfns_of ls)
  unfolding may_collect frames
  by_both t e ls v = ap₂ (λ (x : Bool) (xs : List Put). x && mapped_right (frames bits) (pfns_of xs)) e v

  tree-wrong : tree_fits words id ≡ false → may_collect words (frames bits) id ≡ false
  tree-wrong e = by_both false e (pass_leaves words 100 3 id) refl

  frames-wrong : (ls : List Put) → pass_leaves words 100 3 id ≡ ls → mapped_right (frames bits) (pfns_of ls) ≡ false
      → may_collect words (frames bits) id ≡ false
  frames-wrong ls v wrong = by_both (tree_fits words id) refl ls v ∙ go (tree_fits words id) (mapped_right (frames bits) (pfns_of ls)) wrong
    where
      go : (s t : Bool) → t ≡ false → s && t ≡ false
      go true t h = h
      go false t h = refl

pub accepted : collect_refusal (lent three-pages) two-held 5 ≡ 0
unfolding two-held frames refuse_unless mapped_right mapped_twice mapped_unheld any times held_at pfns_of leaf_pfn
accepted = by-tree three-pages three-fit 0xFFFB 5 true (by_both three-pages 0xFFFB 5 true stands _ visits)

id-above : collect_refusal (lent three-pages) two-held 63 ≡ 5
unfolding two-held refuse_unless
id-above = by-tree three-pages three-fit 0xFFFB 63 (may_collect three-pages (frames 0xFFFB) 63) refl

one-unheld : collect_refusal (lent three-pages) (frames 1) 5 ≡ 12
unfolding frames refuse_unless mapped_right mapped_twice mapped_unheld any times held_at pfns_of leaf_pfn
one-unheld = by-tree three-pages three-fit 1 5 false (frames-wrong three-pages 1 5 _ visits refl)

one-twice : collect_refusal (lent frame-twice) two-held 5 ≡ 12
unfolding two-held frames refuse_unless mapped_right mapped_twice mapped_unheld any times held_at pfns_of leaf_pfn
one-twice = by-tree frame-twice twice-fit 0xFFFB 5 false (frames-wrong frame-twice 0xFFFB 5 _ visits-twice refl)

own-named : collect_refusal (lent own-table) two-held 5 ≡ 12
unfolding two-held refuse_unless
own-named = by-tree own-table own-fit 0xFFFB 5 false (tree-wrong own-table 0xFFFB 5 lies-in-its-own)

root-shared : collect_refusal (lent two-roots) two-held 5 ≡ 12
unfolding two-held refuse_unless
root-shared = by-tree two-roots roots-fit 0xFFFB 5 false (tree-wrong two-roots 0xFFFB 5 is_shared)

no-tree : collect_refusal (lent three-pages) two-held 4 ≡ 0
unfolding two-held frames refuse_unless mapped_right mapped_twice mapped_unheld any times pfns_of
no-tree = by-tree three-pages three-fit 0xFFFB 4 true (by_both three-pages 0xFFFB 4 true no-tree-stands _ visits-none)

pub refused : Refused
refused = record {
  id-63 = id-above;
  unheld = one-unheld;
  twice = one-twice;
  own-table-named = own-named;
  other-root = root-shared;
  absent-root = no-tree;
}

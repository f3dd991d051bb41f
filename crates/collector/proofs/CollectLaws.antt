-- The ways through a pass, in the code's words. Assumes nothing.
use Prim.Native.Nat.{ℕ, ◌+◌, ◌*◌, ◌≤◌, ◌<◌}
use mathlib.Core.Path.{◌≡◌, refl, sym, ap, ◌∙◌, subst}
use mathlib.Core.Logic.{◌≢◌}
use mathlib.Core.Bool.{Bool, true, false, not}
use mathlib.Core.List.{List, []}
use native.Mathlib.Omega.{arith}
use lib.ListN.{length, get_or}
use lib.Dec.{leb}
use borrow.Author.Tests.{not-true, not-false, leb-true}
use Rattle.runs.proofs.Bools.{both}
use Rattle.registers.specs.Fields.{registers_fit}
use Rattle.registers.specs.Replies.{refusal_of, done}
use Rattle.registers.specs.declared.Reply.{Reply}
use Rattle.registers.proofs.RefusalLaws.{passed, machine-passed, when-accepted, when-refused, told-refusal}
use Rattle.page_table.specs.Words.{number}
use Rattle.page_table.specs.Stretches.{stretch_size, tables_fit}
use Rattle.page_table.specs.Reads.{leads_on}
use Rattle.reach.proofs.LinkLaws.{leads-fits}
use Rattle.slots.specs.Buffer.{Buffer, buffer_fits}
use Rattle.store.specs.Machine.{Machine}
use Rattle.store.specs.Rewrite.{Put}
use Rattle.store.specs.Stores.{after_stores, emptied_in}
use Rattle.store.proofs.Storing.{Ready}
use Rattle.heap.specs.Pools.{pool_fits}
use Rattle.heap.specs.declared.Pool.{Pool}
use Rattle.heap.proofs.Marks.{Sound}
use Rattle.trees.specs.Trees.{apart, tree_fits}
use Rattle.trees.proofs.Apart.{fits-apart}
use Rattle.collector.specs.Visits.{tree_leaves, pass_leaves, aged_puts}
use Rattle.collector.specs.Frames.{pfns_of, given_of, mapped_right, all_given, pool_after_gives}
use Rattle.collector.specs.Turns.{State, at_first, turns}
use Rattle.collector.specs.Collect.{visited_by, stores_of, may_collect, collect_refusal, refused_collect, collect_answer}
use Rattle.collector.specs.Collect.{buffer_after_collect, words_after_collect, CollectGives}
use Rattle.collector.specs.declared.Aged.{Aged}
use Rattle.collector.specs.declared.Collected.{Collected}
use Rattle.collector.proofs.StoreTurns.{SameEnd, turns-count, turns-pool, as-stores}
use Rattle.collector.proofs.Visited.{pass-inside, pass-frames}

-- the root of the tree, as the code reads it
module _ (words : List ℕ) (id root : ℕ) (wq : root ≡ get_or words id 0) (b : Bool) (bq : b ≡ leads_on (length words) 1 root) where
  root-leads : b ≡ leads_on (length words) 1 (get_or words id 0)
  root-leads = bq ∙ ap (leads_on (length words) 1) wq

  pub leaves_none : (first size : ℕ) → not b ≡ true → [] ≡ pass_leaves words first size id
  unfolding pass_leaves
  leaves_none first size h = sym (rw (sym root-leads ∙ not-true b h))

  module _ (h : not b ≡ false) (d : ℕ) (dq : d ≡ number root) where
    own-leads : leads_on (length words) 1 (get_or words id 0) ≡ true
    own-leads = sym root-leads ∙ not-false b h

    own_is : number (get_or words id 0) ≡ d
    own_is = sym (dq ∙ ap number wq)

    pub leaves-tree : (first size : ℕ) → tree_leaves words first size d 512 ≡ pass_leaves words first size id
    unfolding pass_leaves
    leaves-tree first size = sym (rw own-leads (ap (λ (n : ℕ). tree_leaves words first size n 512) own_is))

    -- the directory stands in the run, and its tree by itself
    pub root-tree : tree_fits words id ≡ true → (512 * d + 512 ≤ length words) × (apart words id d ≡ true)
    unfolding stretch_size
    root-tree fits = (
      subst (λ (n : ℕ). 512 * n + 512 ≤ length words) own_is (leads-fits (length words) 1 (get_or words id 0) own-leads),
      subst (λ (n : ℕ). apart words id n ≡ true) own_is (fits-apart words id own-leads fits),
    )

-- a pool of code that fits: its array has 64 words
pub whole-pool : (p : Pool) → length p.bits ≡ 64 → pool_fits p ≡ true → Sound p
whole-pool p e fits = record { all_words = e; fits = fits }

-- number 12
module _ (words : List ℕ) (p : Pool) (id : ℕ) (t : Bool) (tq : t ≡ tree_fits words id) where
  pub tree-refused : not t ≡ true → false ≡ may_collect words p id
  unfolding may_collect
  tree-refused h = sym (rw (sym tq ∙ not-true t h))

  module _ (sound : Sound p) (h : not t ≡ false) where
    pub frames-decide : (g : Bool) → g ≡ all_given p (pfns_of (pass_leaves words p.first p.size id)) → g ≡ may_collect words p id
    unfolding may_collect
    frames-decide g gq = gq ∙ pass-frames p sound words id ∙ sym (rw (sym tq ∙ not-false t h))

    pub none-visited : [] ≡ pass_leaves words p.first p.size id → true ≡ may_collect words p id
    unfolding pfns_of all_given
    none-visited e = frames-decide true (ap (λ (ls : List Put). all_given p (pfns_of ls)) e)

-- what an accepted pass tells of its grounds
pub record Grounds (m : Machine) (p : Pool) (id : ℕ) : Type 0 where
  pub pool-fits : pool_fits p ≡ true
  pub ready : Ready m
  pub known : id < 63
  pub tree-fits : tree_fits m.words id ≡ true
  pub frames-right : mapped_right p (pfns_of (pass_leaves m.words p.first p.size id)) ≡ true

pub collect-grounds : (m : Machine) (p : Pool) (id : ℕ) → collect_refusal m p id ≡ 0 → Grounds m p id
unfolding collect_refusal may_collect
collect-grounds m p id z =
    let pool = passed (pool_fits p) 1 _ (λ e. omega arith) z in
    let machine = machine-passed (registers_fit m.registers) (buffer_fits m.buffer) (tables_fit m.words) _ pool.1 in
    let five = passed (leb id 62) 5 _ (λ e. omega arith) machine.3 in
    let twelve = passed (may_collect m.words p id) 12 0 (λ e. omega arith) five.1 in
    let parts = both (tree_fits m.words id) (mapped_right p (pfns_of (pass_leaves m.words p.first p.size id))) twelve.0 in
    let known = leb-true id 62 five.0 in
    record {
      pool-fits = pool.0;
      ready = record { registers-fit = machine.0; buffer-fits = machine.1; words-fit = machine.2 };
      known = omega arith;
      tree-fits = parts.0;
      frames-right = parts.1;
    }

module _ (m : Machine) (p : Pool) (id : ℕ) where
  answer-told : refusal_of (collect_answer m p id).reply.outcome ≡ collect_refusal m p id
  unfolding collect_answer refusal_of
  answer-told =
      told-refusal (collect_refusal m p id) _ (refused_collect m.registers (collect_refusal m p id) p)
      (λ (a : Collected). a.reply.outcome) (λ z. refl) refl

  -- what every answer promises
  pub collect-gives : (answer : Collected) (after : Buffer) (words : List ℕ) → answer ≡ collect_answer m p id
      → after ≡ buffer_after_collect m p id → words ≡ words_after_collect m p id → CollectGives m p id answer after words
  collect-gives answer after words a b w = record {
    refusal_is = ap (λ (x : Collected). refusal_of x.reply.outcome) a ∙ answer-told;
    answer-is = a;
    buffer-is = b;
    words_are = w;
  }

  -- a refused pass
  pub collect-refused : (n : ℕ) (answer : Collected) → n ≡ collect_refusal m p id → n ≢ 0 → answer ≡ refused_collect m.registers n p
      → CollectGives m p id answer m.buffer m.words
  unfolding collect_answer buffer_after_collect words_after_collect
  collect-refused n answer nq h q =
      collect-gives answer m.buffer m.words
      (when-refused _ n nq _ _ answer h (q ∙ ap (λ (k : ℕ). refused_collect m.registers k p) nq))
      (when-refused _ n nq _ _ _ h refl)
      (when-refused _ n nq _ _ _ h refl)

  -- an accepted pass
  module _ (n : ℕ) (nq : n ≡ collect_refusal m p id) (z : n ≡ 0) where
    pub accepted-grounds : Grounds m p id
    accepted-grounds = collect-grounds m p id (sym nq ∙ z)

    abbrev before : State
    before = record { buffer = m.buffer; words = m.words; aged = at_first p }

    abbrev leaves : List Put
    leaves = pass_leaves m.words p.first p.size id

    ends : SameEnd (turns before leaves) 0 (after_stores m (aged_puts leaves)) (emptied_in m (aged_puts leaves))
    ends = as-stores before m accepted-grounds.ready refl refl leaves (pass-inside m.words p.first p.size id)

    pub collect-done : (after : Buffer) (words : List ℕ) (aged : Aged)
        → ◌≡◌ {A = State} (record { buffer = after; words = words; aged = aged }) (turns before leaves)
        → (reply : Reply) → reply ≡ done m.registers aged.emptied
        → CollectGives m p id (record { reply = reply; given = aged.given; pool = aged.pool }) after words
    unfolding collect_answer buffer_after_collect words_after_collect visited_by stores_of
    collect-done after words aged q reply r =
        collect-gives (record { reply = reply; given = aged.given; pool = aged.pool }) after words
        (when-accepted _ n nq _ _ _ z (λ i. record { reply = reply-is i; given = given_is i; pool = pool-is i }))
        (when-accepted _ n nq _ _ _ z (ap (λ (s : State). s.buffer) q ∙ ends.same-buffer))
        (when-accepted _ n nq _ _ _ z (ap (λ (s : State). s.words) q ∙ ends.same-words))
      where
        total : aged.emptied ≡ emptied_in m (aged_puts leaves)
        total = omega (arith, ap (λ (s : State). s.aged.emptied) q, ends.same_total)

        reply-is : reply ≡ done m.registers (emptied_in m (aged_puts leaves))
        reply-is = r ∙ ap (done m.registers) total

        given_is : aged.given ≡ length (given_of leaves)
        given_is = omega (arith, ap (λ (s : State). s.aged.given) q, turns-count before leaves)

        pool-is : aged.pool ≡ pool_after_gives p (given_of leaves)
        pool-is = ap (λ (s : State). s.aged.pool) q ∙ turns-pool before leaves

-- Bits past the size make no difference to a pass. Assumes nothing.
use Prim.Native.Nat.{ℕ, ◌+◌, ◌-◌}
use mathlib.Core.Path.{◌≡◌, refl, sym, ap, ap₂, ◌∙◌, subst}
use mathlib.Core.Bool.{Bool, true, false, cond, not, ◌&&◌}
use mathlib.Core.List.{List, [], ◌∷◌}
use lib.ListN.{length}
use lib.Dec.{eqb, leb}
use Rattle.runs.specs.Counts.{any}
use Rattle.runs.proofs.Counts.{any_same}
use Rattle.registers.specs.Fields.{registers_fit}
use Rattle.registers.specs.Refusals.{refuse_unless, machine_refusal, by_refusal}
use Rattle.registers.specs.Replies.{refused, done}
use Rattle.registers.proofs.RefusalLaws.{by_part}
use Rattle.page_table.specs.Stretches.{tables_fit}
use Rattle.slots.specs.Buffer.{buffer_fits}
use Rattle.store.specs.Machine.{Machine}
use Rattle.store.specs.Rewrite.{Put}
use Rattle.store.specs.Stores.{after_stores, emptied_in}
use Rattle.heap.specs.Bits.{held_at}
use Rattle.heap.specs.Pools.{frames_fit, pool_fits, pool_with, done_pool, refused_pool}
use Rattle.heap.specs.Give.{give_refusal, given_pool, give_reply}
use Rattle.heap.specs.Sequences.{times}
use Rattle.heap.specs.PastTheSize as heap
use Rattle.heap.specs.PastTheSize.{SameFrames}
use Rattle.heap.specs.declared.Pool.{Pool}
use Rattle.heap.proofs.Marks.{mark-length}
use Rattle.heap.proofs.PastTheSize.{past-ignored}
use Rattle.collector.specs.Visits.{pass_leaves, aged_puts}
use Rattle.collector.specs.Frames.{pfns_of, given_of, mapped_twice, mapped_unheld, mapped_right, pool_after_gives}
use Rattle.trees.specs.Trees.{tree_fits}
use Rattle.collector.specs.Collect.{visited_by, stores_of, may_collect, collect_refusal, collect_answer, buffer_after_collect, words_after_collect}
use Rattle.collector.specs.declared.Collected.{Collected}
use Rattle.passes.specs.PastTheSize.{PassedAlike, PastIgnored}

give-length : (p : Pool) (pfn : ℕ) → length (give_reply p pfn).pool.bits ≡ length p.bits
unfolding give_reply by_refusal given_pool pool_with
give-length p pfn = go (eqb (give_refusal p pfn) 0)
  where
    go : (b : Bool) → length (cond b (done_pool 0 (given_pool p pfn)) (refused_pool (give_refusal p pfn) p)).pool.bits ≡ length p.bits
    go true = mark-length false (pfn - p.first) p.bits
    go false = refl

gives-alike : (p q : Pool) → length p.bits ≡ 64 → length q.bits ≡ 64 → SameFrames p q → (pfns : List ℕ)
    → SameFrames (pool_after_gives p pfns) (pool_after_gives q pfns)
unfolding pool_after_gives heap.PastIgnored
gives-alike p q p-long q-long same [] = same
gives-alike p q p-long q-long same (pfn ∷ rest) =
    gives-alike (give_reply p pfn).pool (give_reply q pfn).pool (give-length p pfn ∙ p-long) (give-length q pfn ∙ q-long)
    ((past-ignored p q p-long q-long same).give-leaves pfn) rest

module _ (m : Machine) (p q : Pool) (id : ℕ) (same : SameFrames p q) where
  leaves-same : pass_leaves m.words p.first p.size id ≡ pass_leaves m.words q.first q.size id
  leaves-same = ap₂ (λ (a b : ℕ). pass_leaves m.words a b id) same.first-same same.size_same

  twice_same : (pfns : List ℕ) → mapped_twice p pfns ≡ mapped_twice q pfns
  unfolding mapped_twice
  twice_same pfns = ap₂ (λ (a b : ℕ). any (λ place. leb 2 (times (a + place) pfns)) b) same.first-same same.size_same

  unheld-same : (pfns : List ℕ) → mapped_unheld p pfns ≡ mapped_unheld q pfns
  unfolding mapped_unheld
  unheld-same pfns =
      any_same (λ place. leb 1 (times (p.first + place) pfns) && not (held_at p.bits place))
      (λ place. leb 1 (times (p.first + place) pfns) && not (held_at q.bits place)) p.size
      (λ place l. ap (λ (b : Bool). leb 1 (times (p.first + place) pfns) && not b) (same.held_same place l))
      ∙ ap₂ (λ (a b : ℕ). any (λ place. leb 1 (times (a + place) pfns) && not (held_at q.bits place)) b) same.first-same
      same.size_same

  may-same : may_collect m.words p id ≡ may_collect m.words q id
  unfolding may_collect mapped_right
  may-same =
      ap (λ (ls : List Put). tree_fits m.words id && (not (mapped_twice p (pfns_of ls)) && not (mapped_unheld p (pfns_of ls)))) leaves-same
      ∙ ap₂ (λ (a b : Bool). tree_fits m.words id && (not a && not b)) (twice_same others) (unheld-same others)
    where
      others : List ℕ
      others = pfns_of (pass_leaves m.words q.first q.size id)

  refusal-same : collect_refusal m p id ≡ collect_refusal m q id
  unfolding collect_refusal pool_fits
  refusal-same =
      ap₂ (λ (a b : Bool). refuse_unless a 1 (machine_refusal (registers_fit m.registers) (buffer_fits m.buffer) (tables_fit m.words)
      (refuse_unless (leb id 62) 5 (refuse_unless b 12 0)))) (ap₂ frames_fit same.first-same same.size_same) may-same

  pub passed-alike : length p.bits ≡ 64 → length q.bits ≡ 64 → PassedAlike m p q id
  unfolding collect_answer buffer_after_collect words_after_collect visited_by stores_of by_refusal
  passed-alike p-long q-long = record {
    reply-alike =
        by_part (collect_refusal m p id) _ _ (λ (a : Collected). a.reply)
        ∙ ap₂ (λ (n : ℕ) (ls : List Put). by_refusal n (done m.registers (emptied_in m (aged_puts ls))) (refused m.registers n))
        refusal-same leaves-same
        ∙ sym (by_part (collect_refusal m q id) _ _ (λ (a : Collected). a.reply));
    given-alike =
        by_part (collect_refusal m p id) _ _ (λ (a : Collected). a.given)
        ∙ ap₂ (λ (n : ℕ) (ls : List Put). by_refusal n (length (given_of ls)) 0) refusal-same leaves-same
        ∙ sym (by_part (collect_refusal m q id) _ _ (λ (a : Collected). a.given));
    buffer-alike =
        ap₂ (λ (n : ℕ) (ls : List Put). by_refusal n (after_stores m (aged_puts ls)).buffer m.buffer) refusal-same leaves-same;
    words-alike =
        ap₂ (λ (n : ℕ) (ls : List Put). by_refusal n (after_stores m (aged_puts ls)).words m.words) refusal-same leaves-same;
    pool-left =
        subst (λ (x : Pool). SameFrames x (collect_answer m q id).pool)
        (sym (by_part (collect_refusal m p id) _ _ (λ (a : Collected). a.pool)))
        (subst (SameFrames (by_refusal (collect_refusal m p id)
        (pool_after_gives p (given_of (pass_leaves m.words p.first p.size id))) p))
        (sym (by_part (collect_refusal m q id) _ _ (λ (a : Collected). a.pool))) pools);
  }
    where
      back : List ℕ
      back = given_of (pass_leaves m.words p.first p.size id)

      by-test : (b : Bool) → SameFrames (cond b (pool_after_gives p back) p) (cond b (pool_after_gives q back) q)
      by-test true = gives-alike p q p-long q-long same back
      by-test false = same

      pools : SameFrames (by_refusal (collect_refusal m p id) (pool_after_gives p (given_of (pass_leaves m.words p.first p.size id))) p)
          (by_refusal (collect_refusal m q id) (pool_after_gives q (given_of (pass_leaves m.words q.first q.size id))) q)
      pools =
          subst (λ (n : ℕ). SameFrames (by_refusal (collect_refusal m p id) (pool_after_gives p back) p)
          (by_refusal n (pool_after_gives q (given_of (pass_leaves m.words q.first q.size id))) q))
          refusal-same
          (subst (λ (ls : List Put). SameFrames (by_refusal (collect_refusal m p id) (pool_after_gives p back) p)
          (by_refusal (collect_refusal m p id) (pool_after_gives q (given_of ls)) q))
          leaves-same (by-test (eqb (collect_refusal m p id) 0)))

pub past-ignored-by-passes : PastIgnored
unfolding PastIgnored
past-ignored-by-passes m p q id p-long q-long same = passed-alike m p q id same p-long q-long

-- An accepted pass can be made again at once. Assumes nothing.
use Prim.Native.Nat.{ℕ, ◌<◌}
use mathlib.Core.Path.{◌≡◌, refl, sym, ap, ap₂, ◌∙◌, subst}
use mathlib.Core.Bool.{Bool, true, false}
use mathlib.Core.List.{List, []}
use native.Mathlib.Omega.{arith}
use lib.ListN.{length, get_or}
use lib.Dec.{leb}
use borrow.Author.Tests.{le-leb}
use Rattle.runs.proofs.Bools.{and_both}
use Rattle.registers.specs.Fields.{registers_fit}
use Rattle.registers.specs.Refusals.{refuse_unless}
use Rattle.registers.proofs.RefusalLaws.{when-accepted}
use Rattle.page_table.specs.Stretches.{length_fits, tables_fit}
use Rattle.page_table.specs.Reads.{leads_on}
use Rattle.page_table.specs.Words.{number}
use Rattle.slots.specs.Buffer.{Buffer, buffer_fits}
use Rattle.store.specs.Machine.{Machine}
use Rattle.store.specs.Rewrite.{Put}
use Rattle.store.proofs.Scans.{written-length}
use Rattle.heap.specs.Pools.{pool_fits}
use Rattle.heap.specs.declared.Pool.{Pool}
use Rattle.heap.proofs.Marks.{Sound}
use Rattle.heap.proofs.Accounts.{Account}
use Rattle.trees.specs.Trees.{tree_fits}
use Rattle.trees.proofs.Apart.{apart-told, fits-apart}
use Rattle.collector.proofs.Puts.{pass_words}
use Rattle.collector.specs.Visits.{pass_leaves, aged_puts}
use Rattle.collector.specs.Frames.{pfns_of, given_of, mapped_right, all_given, pool_after_gives}
use Rattle.collector.specs.Collect.{visited_by, may_collect, collect_refusal, collect_answer}
use Rattle.collector.specs.declared.Collected.{Collected}
use Rattle.collector.proofs.FrameLaws.{gives-account}
use Rattle.collector.proofs.Visited.{pass-frames}
use Rattle.collector.proofs.CollectLaws.{Grounds}
use Rattle.passes.specs.Gone.{Pass}
use Rattle.passes.specs.Again.{PassAgain}
use Rattle.passes.specs.Frames.{GivesAccepted}
use Rattle.passes.proofs.Accepted.{grounds, words-now}
use Rattle.passes.proofs.OtherRoots.{none-changed}
use Rattle.passes.proofs.FitsAgain.{fits-again}
use Rattle.passes.proofs.Repeat.{kept_of, pass_kept, given-fits, kept-fits}

module _ (m : Machine) (p : Pool) (id : ℕ) (answer : Collected) (buffer-after : Buffer) (words-after : List ℕ)
    (whole : length p.bits ≡ 64) (pass : Pass m p id answer buffer-after words-after) where
  pub sound : Sound p
  sound = record { all_words = whole; fits = (grounds m p id answer buffer-after words-after pass).pool-fits }

  abbrev leaves : List Put
  leaves = pass_leaves m.words p.first p.size id

  -- the frames of the visited leaves could all be given, and so can those that go back
  pub all_fit : all_given p (pfns_of (pass_leaves m.words p.first p.size id)) ≡ true
  all_fit = pass-frames p sound m.words id ∙ (grounds m p id answer buffer-after words-after pass).frames-right

  pub back-fit : all_given p (given_of (pass_leaves m.words p.first p.size id)) ≡ true
  back-fit = given-fits p sound leaves all_fit

  -- the pool that it leaves, and its account
  pub pool-now : answer.pool ≡ pool_after_gives p (given_of (pass_leaves m.words p.first p.size id))
  unfolding collect_answer visited_by
  pool-now =
      ap (λ (a : Collected). a.pool) (pass.made.answer-is ∙ sym (when-accepted _ 0 (sym pass.accepted) _ _ _ refl refl))

  pub pass-account : Account p answer.pool [] (given_of (pass_leaves m.words p.first p.size id))
  pass-account = subst (λ (q : Pool). Account p q [] (given_of leaves)) (sym pool-now) (gives-account p sound (given_of leaves) back-fit)

pub gives-accepted : GivesAccepted
unfolding GivesAccepted visited_by
gives-accepted = back-fit

-- the leaves that the next pass visits: none where the root is absent
no-leaves : (words : List ℕ) (first size id : ℕ) → leads_on (length words) 1 (get_or words id 0) ≡ false
    → pass_leaves (pass_words words first size id) first size id ≡ kept_of (pass_leaves words first size id)
unfolding pass_leaves kept_of
no-leaves words first size id e = rw (none-changed words first size id e) (rw e refl)

next-leaves : (words : List ℕ) (first size id : ℕ) → id < 64 → tree_fits words id ≡ true
    → pass_leaves (pass_words words first size id) first size id ≡ kept_of (pass_leaves words first size id)
next-leaves words first size id known fits = by-root (leads_on (length words) 1 (get_or words id 0)) refl
  where
    by-root : (b : Bool) → leads_on (length words) 1 (get_or words id 0) ≡ b
        → pass_leaves (pass_words words first size id) first size id ≡ kept_of (pass_leaves words first size id)
    by-root true e =
        pass_kept words first size id known e (apart-told words id (number (get_or words id 0)) (fits-apart words id e fits))
    by-root false e = no-leaves words first size id e

words-length : (words : List ℕ) (first size id : ℕ) → tables_fit (pass_words words first size id) ≡ tables_fit words
unfolding tables_fit pass_words
words-length words first size id = ap length_fits (written-length (aged_puts (pass_leaves words first size id)) words)

pub may-by : (words : List ℕ) (p : Pool) (id : ℕ) → tree_fits words id ≡ true
    → mapped_right p (pfns_of (pass_leaves words p.first p.size id)) ≡ true → may_collect words p id ≡ true
unfolding may_collect
may-by words p id a b = and_both a b

-- a pass is accepted where each of its checks passes
pub checks-pass : (m : Machine) (p : Pool) (id : ℕ) → pool_fits p ≡ true → registers_fit m.registers ≡ true → buffer_fits m.buffer ≡ true
    → tables_fit m.words ≡ true → leb id 62 ≡ true → may_collect m.words p id ≡ true → collect_refusal m p id ≡ 0
unfolding collect_refusal refuse_unless
checks-pass m p id pool registers buffer words known may = rw (pool, registers, buffer, words, known, may)

pub pass-again : PassAgain
unfolding PassAgain
pass-again m next p id answer buffer-after words-after whole pass same registers buffer =
    checks-pass next answer.pool id a.sound-still.fits registers buffer
    (ap tables_fit w ∙ length-stays ∙ g.ready.words-fit)
    (le-leb id 62 (let k = g.known in omega arith)) may
  where
    g : Grounds m p id
    g = grounds m p id answer buffer-after words-after pass

    a : Account p answer.pool [] (given_of (pass_leaves m.words p.first p.size id))
    a = pass-account m p id answer buffer-after words-after whole pass

    w : next.words ≡ pass_words m.words p.first p.size id
    w = same ∙ words-now m p id answer buffer-after words-after pass

    known : id < 64
    known = let k = g.known in omega arith

    length-stays : tables_fit (pass_words m.words p.first p.size id) ≡ tables_fit m.words
    length-stays = words-length m.words p.first p.size id

    leaves-next : pass_leaves next.words answer.pool.first answer.pool.size id
        ≡ kept_of (pass_leaves m.words p.first p.size id)
    leaves-next =
        ap₂ (λ (x y : ℕ). pass_leaves next.words x y id) a.first-same a.size_same
        ∙ ap (λ (ws : List ℕ). pass_leaves ws p.first p.size id) w
        ∙ next-leaves m.words p.first p.size id known g.tree-fits

    frames : all_given answer.pool (pfns_of (pass_leaves next.words answer.pool.first answer.pool.size id)) ≡ true
    frames =
        ap₂ (λ (q : Pool) (ls : List Put). all_given q (pfns_of ls)) (pool-now m p id answer buffer-after words-after whole pass) leaves-next
        ∙ kept-fits p (sound m p id answer buffer-after words-after whole pass) (pass_leaves m.words p.first p.size id)
        (all_fit m p id answer buffer-after words-after whole pass)

    may : may_collect next.words answer.pool id ≡ true
    may =
        may-by next.words answer.pool id
        (ap (λ (ws : List ℕ). tree_fits ws id) w ∙ fits-again m.words p.first p.size id known g.tree-fits)
        (sym (pass-frames answer.pool a.sound-still next.words id) ∙ frames)

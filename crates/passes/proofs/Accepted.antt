-- What an accepted pass was handed, and the words that it leaves. Assumes nothing.
use Prim.Native.Nat.{ℕ}
use mathlib.Core.Path.{◌≡◌, refl, sym, ◌∙◌}
use mathlib.Core.List.{List}
use Rattle.registers.proofs.RefusalLaws.{when-accepted}
use Rattle.slots.specs.Buffer.{Buffer}
use Rattle.store.specs.Machine.{Machine}
use Rattle.store.specs.Rewrite.{Put}
use Rattle.store.specs.Stores.{after_stores, emptied_in}
use Rattle.heap.specs.declared.Pool.{Pool}
use Rattle.collector.specs.Visits.{pass_leaves, aged_puts}
use Rattle.collector.proofs.Puts.{pass_words}
use Rattle.collector.specs.Turns.{State, at_first, turns}
use Rattle.collector.specs.Collect.{visited_by, stores_of, words_after_collect}
use Rattle.collector.specs.declared.Collected.{Collected}
use Rattle.collector.proofs.TurnLaws.{turns-words}
use Rattle.collector.proofs.StoreTurns.{SameEnd, as-stores}
use Rattle.collector.proofs.Visited.{pass-inside}
use Rattle.collector.proofs.CollectLaws.{Grounds, collect-grounds}
use Rattle.passes.specs.Gone.{Pass}

module _ (m : Machine) (p : Pool) (id : ℕ) (answer : Collected) (buffer-after : Buffer) (words-after : List ℕ)
    (pass : Pass m p id answer buffer-after words-after) where
  pub grounds : Grounds m p id
  grounds = collect-grounds m p id pass.accepted

  abbrev leaves : List Put
  leaves = pass_leaves m.words p.first p.size id

  abbrev before : State
  before = record { buffer = m.buffer; words = m.words; aged = at_first p }

  ends : SameEnd (turns before leaves) 0 (after_stores m (aged_puts leaves)) (emptied_in m (aged_puts leaves))
  ends = as-stores before m grounds.ready refl refl leaves (pass-inside m.words p.first p.size id)

  -- the words are those after its stores
  pub words-now : words-after ≡ pass_words m.words p.first p.size id
  unfolding words_after_collect stores_of visited_by pass_words
  words-now =
      pass.made.words_are
      ∙ sym (when-accepted _ 0 (sym pass.accepted) _ _ _ refl refl)
      ∙ sym ends.same-words
      ∙ turns-words before leaves

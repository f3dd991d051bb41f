-- A pass's turns are table stores one after another, and gives. Assumes nothing.
use Prim.Native.Nat.{ℕ, ◌+◌, ◌<◌}
use mathlib.Core.Path.{◌≡◌, refl, sym, ap, ap₂, ◌∙◌, subst}
use mathlib.Core.Bool.{Bool, true, false, cond, not}
use mathlib.Core.List.{List, [], ◌∷◌}
use native.Mathlib.Nat.{add-zero, add_assoc}
use native.Mathlib.Omega.{arith}
use lib.ListN.{length, set, length-set}
use Rattle.runs.specs.Bits.{bit}
use Rattle.page_table.specs.Words.{leaf_valid, leaf_pfn}
use Rattle.slots.specs.Buffer.{Buffer}
use Rattle.store.specs.Machine.{Machine}
use Rattle.store.specs.Rewrite.{Put}
use Rattle.store.specs.Sweep.{swept, emptied}
use Rattle.store.specs.TableStore.{store_reply, buffer_after_store, words_after_store}
use Rattle.store.proofs.Scans.{Every}
use Rattle.store.proofs.Storing.{Ready, put-buffer, put-words, put-emptied, ready-after}
use Rattle.heap.specs.Give.{give_reply}
use Rattle.collector.specs.Visits.{aged, aged_puts}
use Rattle.collector.specs.Turns.{State, pool_after, turn, turns}
use Rattle.collector.specs.Frames.{given_of, pool_after_gives}
use Rattle.store.specs.Stores.{done_of, after_store, after_stores, emptied_in}

-- ---- frames

pub turns-count : (s : State) (ls : List Put) → (turns s ls).aged.given ≡ s.aged.given + length (given_of ls)
unfolding turns turn given_of
turns-count s [] = sym (add-zero s.aged.given)
turns-count s (q ∷ qs) = turns-count (turn s q) qs ∙ go (leaf_valid q.value)
  where
    go : (b : Bool) → s.aged.given + bit (not b) + length (given_of qs)
        ≡ s.aged.given + length (cond b (given_of qs) (leaf_pfn q.value ∷ given_of qs))
    go true = omega arith
    go false = omega arith

pub turns-pool : (s : State) (ls : List Put) → (turns s ls).aged.pool ≡ pool_after_gives s.aged.pool (given_of ls)
unfolding turns turn given_of pool_after_gives pool_after
turns-pool s [] = refl
turns-pool s (q ∷ qs) = turns-pool (turn s q) qs ∙ go (leaf_valid q.value)
  where
    go : (b : Bool) → pool_after_gives (cond b s.aged.pool (give_reply s.aged.pool (leaf_pfn q.value)).pool) (given_of qs)
        ≡ pool_after_gives s.aged.pool (cond b (given_of qs) (leaf_pfn q.value ∷ given_of qs))
    go true = refl
    go false = refl

-- ---- stores

-- every leaf stands in a run of a length
abbrev pub AllInside : (len : ℕ) → List Put → Type 0
AllInside len = Every (λ q. q.index < len)

pub record SameEnd (s : State) (n : ℕ) (m : Machine) (total : ℕ) : Type 0 where
  pub same-buffer : s.buffer ≡ m.buffer
  pub same-words : s.words ≡ m.words
  pub same_total : s.aged.emptied ≡ n + total

-- "The end state is that of the same guarded stores made one after another in that order."
pub as-stores : (s : State) (m : Machine) → Ready m → s.buffer ≡ m.buffer → s.words ≡ m.words → (ls : List Put)
    → AllInside (length m.words) ls → SameEnd (turns s ls) s.aged.emptied (after_stores m (aged_puts ls)) (emptied_in m (aged_puts ls))
unfolding turns turn aged_puts after_stores emptied_in Every after_store
as-stores s m ready b w [] inside = record { same-buffer = b; same-words = w; same_total = sym (add-zero s.aged.emptied) }
as-stores s m ready b w (q ∷ qs) inside =
    rest (as-stores (turn s q) (after_store m p) (ready-after m ready p inside.0) buffers words qs
    (subst (λ (n : ℕ). AllInside n qs) (sym (ap length (put-words m ready p inside.0) ∙ length-set m.words p.index p.value))
    inside.1))
  where
    p : Put
    p = record { index = q.index; value = aged q.value }

    words : set s.words q.index (aged q.value) ≡ words_after_store m (record { index = q.index; value = aged q.value })
    words = ap (λ (ws : List ℕ). set ws q.index (aged q.value)) w
        ∙ sym (put-words m ready (record { index = q.index; value = aged q.value }) inside.0)

    buffers : swept (set s.words q.index (aged q.value)) s.buffer
        ≡ buffer_after_store m (record { index = q.index; value = aged q.value })
    buffers =
        ap₂ (λ (ws : List ℕ) (x : Buffer). swept (set ws q.index (aged q.value)) x) w b
        ∙ sym (put-buffer m ready (record { index = q.index; value = aged q.value }) inside.0)

    number : emptied (set s.words q.index (aged q.value)) s.buffer
        ≡ done_of (store_reply m (record { index = q.index; value = aged q.value })).outcome
    number =
        ap₂ (λ (ws : List ℕ) (x : Buffer). emptied (set ws q.index (aged q.value)) x) w b
        ∙ sym (put-emptied m ready (record { index = q.index; value = aged q.value }) inside.0)

    rest : SameEnd (turns (turn s q) qs) (s.aged.emptied + emptied (set s.words q.index (aged q.value)) s.buffer)
        (after_stores (after_store m p) (aged_puts qs)) (emptied_in (after_store m p) (aged_puts qs))
        → SameEnd (turns (turn s q) qs) s.aged.emptied (after_stores (after_store m p) (aged_puts qs))
        (done_of (store_reply m p).outcome + emptied_in (after_store m p) (aged_puts qs))
    rest e = record {
      same-buffer = e.same-buffer;
      same-words = e.same-words;
      same_total =
          e.same_total
          ∙ ap (λ (n : ℕ). s.aged.emptied + n + emptied_in (after_store m p) (aged_puts qs)) number
          ∙ add_assoc s.aged.emptied (done_of (store_reply m p).outcome) (emptied_in (after_store m p) (aged_puts qs));
    }

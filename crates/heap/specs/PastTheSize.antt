-- "bits past its size are ignored and stay"
use Rattle.std.specs.Prelude.{ℕ, ◌≤◌, ◌<◌, ◌≡◌, true, List, length}
use Rattle.store.specs.Machine.{Machine}
use Rattle.heap.specs.Bits.{held_at}
use Rattle.heap.specs.Pools.{pool_fits}
use Rattle.heap.specs.Take.{take_reply}
use Rattle.heap.specs.Give.{give_reply}
use Rattle.heap.specs.Held.{held_outcome}
use Rattle.heap.specs.Map.{map_answer, buffer_after_map, words_after_map}
use Rattle.heap.specs.Sequences.{Calls, KeptThroughout, last_pool}
use Rattle.heap.specs.Histories.{own_calls}
use Rattle.heap.specs.declared.Pool.{Pool}

-- two pools with the same frames, of which the same are held; bits past the size may differ
pub record SameFrames (p q : Pool) : Type 0 where
  pub first-same : p.first ≡ q.first
  pub size_same : p.size ≡ q.size
  pub held_same : (place : ℕ) → place < p.size → held_at p.bits place ≡ held_at q.bits place

-- every call answers both alike, and leaves pools with the same frames held again
pub record AnsweredAlike (p q : Pool) : Type 0 where
  pub take-alike : (take_reply p).outcome ≡ (take_reply q).outcome
  pub give-alike : (pfn : ℕ) → (give_reply p pfn).outcome ≡ (give_reply q pfn).outcome
  pub held-alike : held_outcome p ≡ held_outcome q
  pub map-reply-alike : (m : Machine) (index leaf : ℕ) → (map_answer m p index leaf).reply ≡ (map_answer m q index leaf).reply
  pub map-pfn-alike : (m : Machine) (index leaf : ℕ) → (map_answer m p index leaf).pfn ≡ (map_answer m q index leaf).pfn
  pub map-buffer-alike : (m : Machine) (index leaf : ℕ) → buffer_after_map m p index leaf ≡ buffer_after_map m q index leaf
  pub map-words-alike : (m : Machine) (index leaf : ℕ) → words_after_map m p index leaf ≡ words_after_map m q index leaf
  pub take-leaves : SameFrames (take_reply p).pool (take_reply q).pool
  pub give-leaves : (pfn : ℕ) → SameFrames (give_reply p pfn).pool (give_reply q pfn).pool
  pub map-leaves : (m : Machine) (index leaf : ℕ) → SameFrames (map_answer m p index leaf).pool (map_answer m q index leaf).pool

unfoldable pub PastIgnored : Type 0
PastIgnored = (p q : Pool) → length p.bits ≡ 64 → length q.bits ≡ 64 → SameFrames p q → AnsweredAlike p q

-- whatever the calls, each handed the last one's pool, no bit past the size changes
unfoldable pub PastStaysOf : Calls → Type 0
PastStaysOf c =
    (p : Pool) → length p.bits ≡ 64 → pool_fits p ≡ true → (history : List c.Event) → KeptThroughout c p history
    → (place : ℕ) → p.size ≤ place → held_at (last_pool c p history).bits place ≡ held_at p.bits place

unfoldable pub PastStays : Type 0
PastStays = PastStaysOf own_calls

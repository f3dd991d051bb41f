-- "bits past its size are ignored": by passes too.
use Rattle.std.specs.Prelude.{ℕ, ◌≡◌, length}
use Rattle.store.specs.Machine.{Machine}
use Rattle.heap.specs.PastTheSize.{SameFrames}
use Rattle.heap.specs.declared.Pool.{Pool}
use Rattle.collector.specs.Collect.{collect_answer, buffer_after_collect, words_after_collect}

-- two pools with the same frames, of which the same are held: a pass answers both alike, and leaves the same
pub record PassedAlike (m : Machine) (p q : Pool) (id : ℕ) : Type 0 where
  pub reply-alike : (collect_answer m p id).reply ≡ (collect_answer m q id).reply
  pub given-alike : (collect_answer m p id).given ≡ (collect_answer m q id).given
  pub buffer-alike : buffer_after_collect m p id ≡ buffer_after_collect m q id
  pub words-alike : words_after_collect m p id ≡ words_after_collect m q id
  pub pool-left : SameFrames (collect_answer m p id).pool (collect_answer m q id).pool

unfoldable pub PastIgnored : Type 0
PastIgnored =
    (m : Machine) (p q : Pool) (id : ℕ) → length p.bits ≡ 64 → length q.bits ≡ 64 → SameFrames p q → PassedAlike m p q id

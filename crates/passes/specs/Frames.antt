-- The frames that a pass gives back.
use Rattle.std.specs.Prelude.{ℕ, ◌+◌, ◌≤◌, ◌<◌, ◌≡◌, true, false, List, length}
use Rattle.entry.specs.Address.{PAGES}
use Rattle.page_table.specs.Words.{leaf_valid, leaf_pfn}
use Rattle.page_table.specs.Walk.{walk_tree}
use Rattle.page_table.specs.declared.Found.{Found}
use Rattle.page_table.specs.declared.Walk.TheVariants.{Leaf}
use Rattle.slots.specs.Buffer.{Buffer}
use Rattle.store.specs.Machine.{Machine}
use Rattle.heap.specs.Pools.{holds, held_frames}
use Rattle.heap.specs.declared.Pool.{Pool}
use Rattle.collector.specs.Frames.{given_of, all_given}
use Rattle.collector.specs.Collect.{visited_by, CollectGives}
use Rattle.collector.specs.declared.Collected.{Collected}
use Rattle.passes.specs.Gone.{Pass}

-- of an accepted pass: every frame to be given back is accepted by give, one after another
unfoldable pub GivesAccepted : Type 0
GivesAccepted =
    (m : Machine) (p : Pool) (id : ℕ) (answer : Collected) (buffer-after : Buffer) (words-after : List ℕ)
    → length p.bits ≡ 64 → Pass m p id answer buffer-after words-after → all_given p (given_of (visited_by m p id)) ≡ true

-- "valid 1 becomes 0, valid 0 .. its frame goes back": the frame of a visited page was held, and is held after it exactly where the leaf
-- was valid
unfoldable pub FrameGoesBack : Type 0
FrameGoesBack =
    (m : Machine) (p : Pool) (id : ℕ) (answer : Collected) (buffer-after : Buffer) (words-after : List ℕ)
    → length p.bits ≡ 64 → Pass m p id answer buffer-after words-after
    → (vpn : ℕ) (f : Found) → vpn < PAGES → walk_tree m.words vpn false id ≡ Leaf f
    → p.first ≤ leaf_pfn f.word → leaf_pfn f.word < p.first + p.size
    → (holds p (leaf_pfn f.word) ≡ true) × (holds answer.pool (leaf_pfn f.word) ≡ leaf_valid f.word)

-- "It answers the frames given back": so many fewer are held after the call, refused or not
unfoldable pub GivenCounted : Type 0
GivenCounted =
    (m : Machine) (p : Pool) (id : ℕ) (answer : Collected) (buffer-after : Buffer) (words-after : List ℕ)
    → length p.bits ≡ 64 → CollectGives m p id answer buffer-after words-after
    → held_frames p ≡ answer.given + held_frames answer.pool

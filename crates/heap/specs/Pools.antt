-- A pool of frames: a first pfn, a size, and a bit for each frame. Bits at and past the size belong to no frame: no definition here
-- looks at them.
use Rattle.std.specs.Prelude.{ℕ, ◌+◌, ◌-◌, Bool, ◌&&◌, leb, ltb}
use Rattle.runs.specs.Counts.{all, count, lowest}
use Rattle.registers.specs.declared.Outcome.TheVariants.{Done, Refused}
use Rattle.heap.specs.Bits.{held_at, free_at, with_held}
use Rattle.heap.specs.declared.Pool.{Pool}
use Rattle.heap.specs.declared.PoolReply.{PoolReply}

-- how many frames the largest pool has
abbrev pub LARGEST : ℕ
LARGEST = 4096

-- number 1 is "also for a size of 0 or above 4,096, or a pool that runs past pfn 524,287"
unfoldable pub frames_fit : (first size : ℕ) → Bool
frames_fit first size = leb 1 size && leb size 4096 && leb (first + size) 524288

unfoldable pub pool_fits : Pool → Bool
pool_fits p = frames_fit p.first p.size

-- "every frame is held"
unfoldable pub is_full : Pool → Bool
is_full p = all (held_at p.bits) p.size

-- the place of "the lowest free frame"; the size where there is none
unfoldable pub lowest_free : Pool → ℕ
lowest_free p = lowest (free_at p.bits) p.size p.size

-- "frames free" and "frames held": how many bits within the size are clear, and how many are set
unfoldable pub free_frames : Pool → ℕ
free_frames p = count (free_at p.bits) p.size

unfoldable pub held_frames : Pool → ℕ
held_frames p = count (held_at p.bits) p.size

-- whether a pfn is in the pool and its frame is held; number 11 is "frame not held or outside the pool"
unfoldable pub holds : Pool → (pfn : ℕ) → Bool
holds p pfn = leb p.first pfn && ltb pfn (p.first + p.size) && held_at p.bits (pfn - p.first)

-- the pool with the frame at a place held or free
unfoldable pub pool_with : (held : Bool) (place : ℕ) → Pool → Pool
pool_with held place p = record { first = p.first; size = p.size; bits = with_held held place p.bits }

-- a call on a pool that succeeded, with the pool after it and its value: for a take the frame's pfn, for a new pool and a give 0; and a
-- refusal, which "hands the pool back unchanged"
abbrev pub done_pool : (value : ℕ) → Pool → PoolReply
done_pool value p = record { outcome = Done value; pool = p }

abbrev pub refused_pool : (number : ℕ) → Pool → PoolReply
refused_pool number p = record { outcome = Refused number; pool = p }

-- The buffer at the start: every slot empty.
use Rattle.std.specs.Prelude.{ℕ, zero, suc}
use Rattle.entry.specs.Address.{set_of}
use Rattle.entry.specs.Empty.{empty_entry}
use Rattle.slots.specs.Buffer.{Buffer, with_slot}

-- the first n slots made empty, each with its own set's empty entry
unfoldable pub empty_first : (n : ℕ) → Buffer → Buffer
empty_first zero b = b
empty_first (suc n) b = with_slot (empty_first n b) n (empty_entry (set_of n))

unfoldable pub start_buffer : Buffer → Buffer
start_buffer b = empty_first 64 b

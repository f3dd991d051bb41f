-- The four slots of a page's location, taken from the buffer's bytes into a run of 64 numbers and put back.
use Rattle.std.specs.Prelude.{ℕ, zero, suc, ◌<◌, ◌≡◌, List, length, get_or}
use Rattle.wire.specs.Wire.{element_at, with_element, AreBytes}
use Rattle.entry.specs.Address.{slot_of}

-- the run has the buffer's numbers at these slots. Its other numbers count for nothing
pub record Fetched (bytes numbers : List ℕ) (vpn : ℕ) : Type 0 where
  pub are-bytes : AreBytes bytes
  pub long : length numbers ≡ 64
  pub each : (set : ℕ) → set < 4 → get_or numbers (slot_of set vpn) 0 ≡ element_at 8 bytes (slot_of set vpn)

-- the bytes with the run's numbers at the slots of the first n sets
unfoldable pub put_back : (numbers : List ℕ) (vpn n : ℕ) (bytes : List ℕ) → List ℕ
put_back numbers vpn zero bytes = bytes
put_back numbers vpn (suc n) bytes = with_element 8 (put_back numbers vpn n bytes) (slot_of n vpn) (get_or numbers (slot_of n vpn) 0)

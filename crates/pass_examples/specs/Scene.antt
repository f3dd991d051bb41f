-- The tables, pools and buffers that the examples are written with.
use Rattle.std.specs.Prelude.{ℕ, true, false, List, ◌∷◌, set, replicate}
use Rattle.entry.specs.Entry.{pack}
use Rattle.registers.specs.Fields.{zero_registers}
use Rattle.slots.specs.Buffer.{Buffer, with_slot}
use Rattle.slots.specs.Buffer.Buffer.{Wide}
use Rattle.slots.specs.Start.{start_buffer}
use Rattle.store.specs.Machine.{Machine}
use Rattle.heap.specs.declared.Pool.{Pool}

-- 2,048 words: root 5 names directory 1, whose first word names table 1
unfoldable pub tree : List ℕ
tree = set (set (replicate 2048 0) 5 0x80000001) 512 0x80000001

-- its pages: 0 is valid, with frame 100 and every software bit; 1 is not valid, with frame 101; the leaf of 1023 is given
unfoldable pub pages : (last : ℕ) → List ℕ
pages last = set (set (set tree 1024 0xDFF80064) 1025 0x90000065) 2047 last

-- frame 103, one past the pool
unfoldable pub three-pages : List ℕ
three-pages = pages 0xD0000067

-- frame 100 again
unfoldable pub frame-twice : List ℕ
frame-twice = pages 0xD0000064

-- root 7 names the same directory
unfoldable pub two-roots : List ℕ
two-roots = set tree 7 0x80000001

-- root 5 names directory 2, which stands in table 1, and whose first word names table 1
unfoldable pub own-table : List ℕ
own-table = set (set (replicate 2048 0) 5 0x80000002) 1024 0x80000001

-- the frames 100, 101 and 102, by the first word of bits
unfoldable pub frames : (word : ℕ) → Pool
frames word = record { first = 100; size = 3; bits = word ∷ replicate 63 0 }

-- 100 and 101 are held; bits past the size are set too
unfoldable pub two-held : Pool
two-held = frames 0xFFFB

unfoldable pub empty : Buffer
empty = start_buffer (Wide (replicate 64 0))

-- page 0 of identification 5 in slot 16
unfoldable pub loaded : Buffer
loaded =
    with_slot empty 16
    (pack (record { vpn15 = 0; page_id = 5; global = false; valid = true; kernel = false; we = true; pfn = 100 }))

unfoldable pub lent : (words : List ℕ) → Machine
lent words = record { registers = zero_registers; buffer = loaded; words = words }

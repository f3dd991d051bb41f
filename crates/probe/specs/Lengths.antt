-- How long the runs are at most that a request brings.
use Rattle.std.specs.Prelude.{ℕ, ◌*◌}

-- the table words
abbrev pub WORDS : ℕ
WORDS = 16384

-- the slots: more than a buffer has, so that a buffer of a wrong length can be lent
abbrev pub SLOTS : ℕ
SLOTS = 80

-- the bytes of a part of a request, but for the table words: at most those of the slots
abbrev pub PART_BYTES : ℕ
PART_BYTES = 8 * SLOTS

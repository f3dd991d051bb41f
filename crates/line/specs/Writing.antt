-- Texts that are put one behind the other into a run.
use Rattle.std.specs.Prelude.{ℕ, ◌+◌, ◌≤◌, List, length}
use Rattle.line.specs.Text.{TextPut}
use Rattle.line.specs.declared.text.Text.{Text}

-- a text has room for so many bytes more
abbrev pub HasRoom : Text → (n : ℕ) → Type 0
HasRoom t n = t.length + n ≤ length t.bytes.now

-- a text grew by another one behind it, and the rest of its run is as it was
abbrev pub Grows : (before after : Text) → List ℕ → Type 0
Grows before after text = TextPut before.bytes.now before.length text after.length after.bytes.now

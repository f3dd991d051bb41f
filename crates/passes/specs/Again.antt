-- A pass that was accepted can be made again at once, with the pool that it left.
use Rattle.std.specs.Prelude.{ℕ, ◌≡◌, true, List, length}
use Rattle.registers.specs.Fields.{registers_fit}
use Rattle.slots.specs.Buffer.{Buffer, buffer_fits}
use Rattle.store.specs.Machine.{Machine}
use Rattle.heap.specs.declared.Pool.{Pool}
use Rattle.collector.specs.Collect.{collect_refusal}
use Rattle.collector.specs.declared.Collected.{Collected}
use Rattle.passes.specs.Gone.{Pass}

-- so what is said of two passes is not said of none; every pool in code has 64 words
unfoldable pub PassAgain : Type 0
PassAgain =
    (m next : Machine) (p : Pool) (id : ℕ) (answer : Collected) (buffer-after : Buffer) (words-after : List ℕ)
    → length p.bits ≡ 64 → Pass m p id answer buffer-after words-after
    → next.words ≡ words-after → registers_fit next.registers ≡ true → buffer_fits next.buffer ≡ true
    → collect_refusal next answer.pool id ≡ 0

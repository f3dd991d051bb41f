-- The call map: takes a frame, and stores a leaf with its pfn by the table store. Refusals 1, 2, 3, 6 and 10.
use Rattle.std.specs.Prelude.{ℕ, ◌+◌, ◌*◌, ◌^◌, ◌≡◌, List}
use Rattle.runs.specs.Bits.{bits}
use Rattle.registers.specs.Refusals.{refuse_unless, refused_or, by_refusal}
use Rattle.registers.specs.Replies.{refusal_of, refused}
use Rattle.registers.specs.declared.Registers.{Registers}
use Rattle.slots.specs.Buffer.{Buffer}
use Rattle.store.specs.Machine.{Machine}
use Rattle.store.specs.Rewrite.{Put}
use Rattle.store.specs.TableStore.{store_refusal, store_reply, buffer_after_store, words_after_store}
use Rattle.heap.specs.Pools.{pool_fits, lowest_free}
use Rattle.heap.specs.Take.{full_refusal, taken_pfn, taken_pool}
use Rattle.heap.specs.declared.Pool.{Pool}
use Rattle.heap.specs.declared.Mapped.{Mapped}

-- number 1 for the pool, as for the registers; then the table store's own numbers, then 10
unfoldable pub map_refusal : Machine → Pool → (index : ℕ) → ℕ
map_refusal m p index =
    refuse_unless (pool_fits p) 1 (refused_or (store_refusal m index) (full_refusal p))

-- "a given leaf with present set and that frame's pfn": present in bit 31, valid, kernel, we and software in bits 30 to 19, pfn in 18 to 0
unfoldable pub mapped_word : (leaf pfn : ℕ) → ℕ
mapped_word leaf pfn = 2 ^ 31 + bits 30 19 leaf * 2 ^ 19 + pfn

-- what is stored, "by the guarded store at a given word"
unfoldable pub map_put : Pool → (index leaf : ℕ) → Put
map_put p index leaf = record { index = index; value = mapped_word leaf (taken_pfn p) }

-- a refusal takes no frame: the pool comes back unchanged, and the pfn is 0
abbrev pub refused_map : Registers → (number : ℕ) → Pool → Mapped
refused_map r number p = record { reply = refused r number; pfn = 0; pool = p }

-- "it answers the pfn and the slots emptied", these by the store's reply
unfoldable pub map_answer : Machine → Pool → (index leaf : ℕ) → Mapped
map_answer m p index leaf =
    by_refusal (map_refusal m p index)
    (record { reply = store_reply m (map_put p index leaf); pfn = taken_pfn p; pool = taken_pool p })
    (refused_map m.registers (map_refusal m p index) p)

unfoldable pub buffer_after_map : Machine → Pool → (index leaf : ℕ) → Buffer
buffer_after_map m p index leaf = by_refusal (map_refusal m p index) (buffer_after_store m (map_put p index leaf)) m.buffer

unfoldable pub words_after_map : Machine → Pool → (index leaf : ℕ) → List ℕ
words_after_map m p index leaf = by_refusal (map_refusal m p index) (words_after_store m (map_put p index leaf)) m.words

-- the call is accepted, and the lowest free frame stands at a place
pub record MayMap (m : Machine) (p : Pool) (place index : ℕ) : Type 0 where
  pub accepted : map_refusal m p index ≡ 0
  pub place_is : place ≡ lowest_free p

-- what the call promises
pub record MapGives (m : Machine) (p : Pool) (index leaf : ℕ) (answer : Mapped) (buffer-after : Buffer) (words-after : List ℕ)
    : Type 0 where
  pub refusal_is : refusal_of answer.reply.outcome ≡ map_refusal m p index
  pub answer-is : answer ≡ map_answer m p index leaf
  pub buffer-is : buffer-after ≡ buffer_after_map m p index leaf
  pub words_are : words-after ≡ words_after_map m p index leaf

-- What an accepted map comes to: a table store of the given leaf with a frame that was free.
use Rattle.std.specs.Prelude.{ℕ, ◌^◌, ◌<◌, ◌≡◌, true, List, get_or}
use Rattle.runs.specs.Bits.{bits}
use Rattle.page_table.specs.Words.{present, leaf_valid, leaf_kernel, leaf_we, leaf_pfn}
use Rattle.slots.specs.Buffer.{Buffer}
use Rattle.store.specs.Machine.{Machine}
use Rattle.store.specs.TableStore.{store_refusal, TableStoreGives}
use Rattle.heap.specs.Pools.{done_pool}
use Rattle.heap.specs.Take.{take_refusal, TakeGives}
use Rattle.heap.specs.Map.{map_refusal, MapGives}
use Rattle.heap.specs.declared.Pool.{Pool}
use Rattle.heap.specs.declared.Mapped.{Mapped}

-- a word is the given leaf with present set and a pfn: valid, kernel, we and the software bits are the leaf's
pub record LeafWith (leaf pfn word : ℕ) : Type 0 where
  pub present-set : present word ≡ true
  pub same-valid : leaf_valid word ≡ leaf_valid leaf
  pub same-kernel : leaf_kernel word ≡ leaf_kernel leaf
  pub same-we : leaf_we word ≡ leaf_we leaf
  pub same-software : bits 27 19 word ≡ bits 27 19 leaf
  pub pfn-is : leaf_pfn word ≡ pfn
  pub one_word : word < 2 ^ 32

pub record StoresLeaf (m : Machine) (p : Pool) (index leaf : ℕ) (answer : Mapped) (buffer-after : Buffer) (words-after : List ℕ)
    : Type 0 where
  -- a take of the lowest free frame was accepted, which answered this pfn and left this pool
  pub take-accepted : take_refusal p ≡ 0
  pub take-made : TakeGives p (done_pool answer.pfn answer.pool)
  -- the table store of a word at this index was accepted, with this reply, and left these runs
  pub value : ℕ
  pub store-accepted : store_refusal m index ≡ 0
  pub store-made : TableStoreGives m (record { index = index; value = value }) answer.reply buffer-after words-after
  -- that word stands there now, with the pfn that was answered
  pub stored : get_or words-after index 0 ≡ value
  pub leaf-with : LeafWith leaf answer.pfn value

-- every accepted map
unfoldable pub MapStoresLeaf : Type 0
MapStoresLeaf =
    (m : Machine) (p : Pool) (index leaf : ℕ) (answer : Mapped) (buffer-after : Buffer) (words-after : List ℕ)
    → MapGives m p index leaf answer buffer-after words-after → map_refusal m p index ≡ 0
    → StoresLeaf m p index leaf answer buffer-after words-after

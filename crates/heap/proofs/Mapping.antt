-- An accepted map is a table store of the given leaf with a frame that was free. Assumes nothing.
use Prim.Native.Nat.{ℕ, ◌/◌, ◌%◌, ◌^◌, ◌<◌}
use mathlib.Core.Path.{◌≡◌, refl, sym, ap, ap₂, ◌∙◌, subst}
use mathlib.Core.List.{List}
use native.Mathlib.Omega.{arith}
use lib.Dec.{eqb}
use borrow.Author.Tests.{eq-eqb}
use lib.ListN.{get_or}
use lib.Seq.{get_or-set_same}
use Rattle.runs.specs.Bits.{flag}
use Rattle.registers.specs.Refusals.{refuse_unless}
use Rattle.registers.proofs.RefusalLaws.{when-accepted}
use Rattle.page_table.specs.Words.{present, leaf_valid, leaf_kernel, leaf_we, leaf_pfn}
use Rattle.slots.specs.Buffer.{Buffer}
use Rattle.store.specs.Machine.{Machine}
use Rattle.store.specs.Rewrite.{written}
use Rattle.store.specs.TableStore.{stored_words, store_reply, words_after_store, TableStoreGives}
use Rattle.store.proofs.StoreLaws.{store-accepted, store-gives}
use Rattle.heap.specs.Pools.{done_pool}
use Rattle.heap.specs.Take.{take_refusal, taken_pfn, taken_pool}
use Rattle.heap.specs.Map.{map_refusal, mapped_word, map_put, map_answer, buffer_after_map, words_after_map, MapGives}
use Rattle.heap.specs.Mapping.{LeafWith, StoresLeaf, MapStoresLeaf}
use Rattle.heap.specs.declared.Pool.{Pool}
use Rattle.heap.specs.declared.Mapped.{Mapped}
use Rattle.heap.proofs.MapLaws.{Grounds, map-grounds}
use Rattle.heap.proofs.CallLaws.{take_done}
use Rattle.heap.proofs.Accounts.{taken-below}

same_flag : (k m n : ℕ) → m / 2 ^ k % 2 ≡ n / 2 ^ k % 2 → flag k m ≡ flag k n
same_flag k m n e = ap (λ (x : ℕ). eqb x 1) e

-- the fields of the stored word
word_fields : (leaf pfn : ℕ) → pfn < 2 ^ 19 → LeafWith leaf pfn (mapped_word leaf pfn)
unfolding mapped_word present leaf_valid leaf_kernel leaf_we leaf_pfn
word_fields leaf pfn l = record {
  present-set = eq-eqb (mapped_word leaf pfn / 2 ^ 31 % 2) 1 (omega arith);
  same-valid = same_flag 30 (mapped_word leaf pfn) leaf (omega arith);
  same-kernel = same_flag 29 (mapped_word leaf pfn) leaf (omega arith);
  same-we = same_flag 28 (mapped_word leaf pfn) leaf (omega arith);
  same-software = omega arith;
  pfn-is = omega arith;
  one_word = omega arith;
}

module _ (m : Machine) (p : Pool) (index leaf : ℕ) (answer : Mapped) (after : Buffer) (words : List ℕ)
    (kept : MapGives m p index leaf answer after words) (z : map_refusal m p index ≡ 0) where
  grounds : Grounds m p index
  grounds = map-grounds m p index z

  answer-now : answer ≡ record { reply = store_reply m (map_put p index leaf); pfn = taken_pfn p; pool = taken_pool p }
  unfolding map_answer
  answer-now = kept.answer-is ∙ sym (when-accepted _ 0 (sym z) _ _ _ refl refl)

  store-made : TableStoreGives m (map_put p index leaf) answer.reply after words
  unfolding buffer_after_map words_after_map
  store-made =
      store-gives m (map_put p index leaf) answer.reply after words
      (ap (λ (a : Mapped). a.reply) answer-now)
      (kept.buffer-is ∙ sym (when-accepted _ 0 (sym z) _ _ _ refl refl))
      (kept.words_are ∙ sym (when-accepted _ 0 (sym z) _ _ _ refl refl))

  word-there : get_or words index 0 ≡ mapped_word leaf (taken_pfn p)
  unfolding words_after_store stored_words written map_put
  word-there =
      ap (λ (ws : List ℕ). get_or ws index 0)
      (store-made.words_are ∙ sym (when-accepted _ 0 (sym grounds.store-accepted) _ _ _ refl refl))
      ∙ get_or-set_same m.words index _ 0 (store-accepted m index grounds.store-accepted).2

  take-now : take_refusal p ≡ 0
  unfolding take_refusal refuse_unless
  take-now = rw grounds.pool-fits grounds.not_full

  stores-leaf : StoresLeaf m p index leaf answer after words
  unfolding map_put
  stores-leaf =
      let pfn = ap (λ (a : Mapped). a.pfn) answer-now in
      let pool = ap (λ (a : Mapped). a.pool) answer-now in record {
        take-accepted = take-now;
        take-made = take_done p (done_pool answer.pfn answer.pool) (sym take-now) (ap₂ done_pool pfn pool);
        value = mapped_word leaf (taken_pfn p);
        store-accepted = grounds.store-accepted;
        store-made = store-made;
        stored = word-there;
        leaf-with =
            subst (λ (n : ℕ). LeafWith leaf n (mapped_word leaf (taken_pfn p))) (sym pfn)
            (word_fields leaf (taken_pfn p) (taken-below p grounds.pool-fits grounds.not_full));
      }

pub map-stores-leaf : MapStoresLeaf
unfolding MapStoresLeaf
map-stores-leaf m p index leaf answer after words kept z = stores-leaf m p index leaf answer after words kept z

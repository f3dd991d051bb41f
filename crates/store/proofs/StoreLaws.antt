-- What a table store that is not refused was handed, and the ways through it. Assumes nothing.
use Prim.Native.Nat.{ℕ, ◌≤◌, ◌<◌}
use mathlib.Core.Path.{◌≡◌, refl, ap, ◌∙◌}
use mathlib.Core.Bool.{true}
use mathlib.Core.List.{List, [], ◌∷◌}
use native.Mathlib.Omega.{arith}
use lib.ListN.{length, set}
use borrow.Author.Tests.{ltb-true}
use Rattle.registers.specs.Fields.{registers_fit}
use Rattle.registers.specs.Replies.{refusal_of, refused, done}
use Rattle.registers.proofs.RefusalLaws.{passed, machine-passed, when-accepted, when-refused, reply-refusal}
use Rattle.registers.specs.declared.Reply.{Reply}
use Rattle.page_table.specs.Stretches.{tables_fit}
use Rattle.page_table.proofs.Stretches.{fit-roots}
use Rattle.slots.specs.Buffer.{Buffer, buffer_fits}
use Rattle.store.specs.Machine.{Machine}
use Rattle.store.specs.Sweep.{emptied, SweepGives}
use Rattle.store.specs.Rewrite.{Put, written, RewriteGives}
use Rattle.store.specs.TableStore.{index_fits, store_refusal, stored_words, store_reply, buffer_after_store, words_after_store}
use Rattle.store.specs.TableStore.{TableStoreGives}

pub one_written : (words : List ℕ) (b after : Buffer) (index value number : ℕ) → SweepGives (set words index value) b after number
    → RewriteGives ((record { index = index; value = value }) ∷ []) words (set words index value) b after number
unfolding written
one_written words b after index value number s = record { number_is = s.number_is; buffer-is = s.buffer-is; words_are = refl }

pub store-accepted : (m : Machine) (index : ℕ) → store_refusal m index ≡ 0
    → (buffer_fits m.buffer ≡ true) × (64 ≤ length m.words) × (index < length m.words)
unfolding store_refusal index_fits
store-accepted m index h =
    let early = machine-passed (registers_fit m.registers) (buffer_fits m.buffer) (tables_fit m.words) _ h in
    let six = passed (index_fits m.words index) 6 0 (λ e. omega arith) early.3 in
    (early.1, fit-roots m.words early.2, ltb-true index (length m.words) six.0)

-- what every reply promises
pub store-gives : (m : Machine) (p : Put) (reply : Reply) (after : Buffer) (words : List ℕ) → reply ≡ store_reply m p
    → after ≡ buffer_after_store m p → words ≡ words_after_store m p → TableStoreGives m p reply after words
unfolding store_reply
store-gives m p reply after words q b w = record {
  refusal_is =
      ap (λ (s : Reply). refusal_of s.outcome) q
      ∙ reply-refusal (store_refusal m p.index) (emptied (stored_words m p) m.buffer) m.registers m.registers;
  reply-is = q;
  buffer-is = b;
  words_are = w;
}

-- the two ways through the call
module _ (m : Machine) (p : Put) (n : ℕ) (nq : n ≡ store_refusal m p.index) (reply : Reply) where
  pub store-refused : (n ≡ 0 → ⊥) → reply ≡ refused m.registers n → TableStoreGives m p reply m.buffer m.words
  unfolding store_reply buffer_after_store words_after_store
  store-refused h q =
      store-gives m p reply m.buffer m.words (when-refused _ n nq _ _ _ h (q ∙ ap (refused m.registers) nq))
      (when-refused _ n nq _ _ _ h refl) (when-refused _ n nq _ _ _ h refl)

  pub store-done : (after : Buffer) (words : List ℕ) (number : ℕ) → n ≡ 0
      → RewriteGives (p ∷ []) m.words words m.buffer after number → reply ≡ done m.registers number
      → TableStoreGives m p reply after words
  unfolding store_reply buffer_after_store words_after_store stored_words
  store-done after words number z r q =
      store-gives m p reply after words (when-accepted _ n nq _ _ _ z (q ∙ ap (done m.registers) r.number_is))
      (when-accepted _ n nq _ _ _ z r.buffer-is) (when-accepted _ n nq _ _ _ z r.words_are)

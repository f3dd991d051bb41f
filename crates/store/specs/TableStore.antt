-- The call table store: one table word is written, then the buffer is swept. Refusals 1, 2, 3 and 6.
use Rattle.std.specs.Prelude.{ℕ, ◌≡◌, Bool, List, [], ◌∷◌, length, ltb}
use Rattle.registers.specs.Fields.{registers_fit}
use Rattle.registers.specs.Refusals.{refuse_unless, machine_refusal, by_refusal}
use Rattle.registers.specs.Replies.{refusal_of, refused, done}
use Rattle.registers.specs.declared.Reply.{Reply}
use Rattle.page_table.specs.Stretches.{tables_fit}
use Rattle.slots.specs.Buffer.{Buffer, buffer_fits}
use Rattle.store.specs.Machine.{Machine}
use Rattle.store.specs.Sweep.{swept, emptied}
use Rattle.store.specs.Rewrite.{Put, written}

-- number 6: word index at or past the run's length
unfoldable pub index_fits : (words : List ℕ) (index : ℕ) → Bool
index_fits words index = ltb index (length words)

unfoldable pub store_refusal : Machine → (index : ℕ) → ℕ
store_refusal m index =
    machine_refusal (registers_fit m.registers) (buffer_fits m.buffer) (tables_fit m.words)
    (refuse_unless (index_fits m.words index) 6 0)

-- the words with the one written
unfoldable pub stored_words : Machine → Put → List ℕ
stored_words m p = written (p ∷ []) m.words

-- "the number of emptied slots is the answer"; "registers stay"
unfoldable pub store_reply : Machine → Put → Reply
store_reply m p =
    by_refusal (store_refusal m p.index)
    (done m.registers (emptied (stored_words m p) m.buffer))
    (refused m.registers (store_refusal m p.index))

unfoldable pub buffer_after_store : Machine → Put → Buffer
buffer_after_store m p = by_refusal (store_refusal m p.index) (swept (stored_words m p) m.buffer) m.buffer

unfoldable pub words_after_store : Machine → Put → List ℕ
words_after_store m p = by_refusal (store_refusal m p.index) (stored_words m p) m.words

-- what the call promises
pub record TableStoreGives (m : Machine) (p : Put) (reply : Reply) (buffer-after : Buffer) (words-after : List ℕ) : Type 0 where
  pub refusal_is : refusal_of reply.outcome ≡ store_refusal m p.index
  pub reply-is : reply ≡ store_reply m p
  pub buffer-is : buffer-after ≡ buffer_after_store m p
  pub words_are : words-after ≡ words_after_store m p

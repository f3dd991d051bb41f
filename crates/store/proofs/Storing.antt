-- Table stores into a machine that fits, one after another. Assumes nothing.
use Prim.Native.Nat.{ℕ, ◌<◌}
use mathlib.Core.Path.{◌≡◌, refl, sym, ap, ap₂, ◌∙◌, subst}
use mathlib.Core.Bool.{true}
use mathlib.Core.List.{List, [], ◌∷◌}
use lib.ListN.{length, set, length-set}
use borrow.Author.Tests.{lt-ltb}
use Rattle.registers.specs.Fields.{registers_fit}
use Rattle.registers.specs.Refusals.{refuse_unless}
use Rattle.registers.specs.Replies.{done}
use Rattle.registers.specs.declared.Reply.{Reply}
use Rattle.registers.proofs.RefusalLaws.{when-accepted}
use Rattle.page_table.specs.Stretches.{tables_fit, length_fits}
use Rattle.slots.specs.Buffer.{Buffer, buffer_fits}
use Rattle.store.specs.Machine.{Machine}
use Rattle.store.specs.Rewrite.{Put, written}
use Rattle.store.specs.Sweep.{kept_at, swept, emptied}
use Rattle.store.specs.TableStore.{index_fits, store_refusal, stored_words, store_reply, buffer_after_store, words_after_store}
use Rattle.store.specs.Stores.{done_of, after_store, after_stores}
use Rattle.store.proofs.Sweeps.{swept-fits, swept-backed}
use Rattle.store.proofs.Scans.{Every}

-- an accepted store's reply
pub store-answers : (m : Machine) (put : Put) → store_refusal m put.index ≡ 0
    → store_reply m put ≡ done m.registers (emptied (stored_words m put) m.buffer)
unfolding store_reply
store-answers m put z = sym (when-accepted _ 0 (sym z) _ _ _ refl refl)

-- registers, buffer and tables pass the tests of refusals 1, 2 and 3
pub record Ready (m : Machine) : Type 0 where
  pub registers-fit : registers_fit m.registers ≡ true
  pub buffer-fits : buffer_fits m.buffer ≡ true
  pub words-fit : tables_fit m.words ≡ true

module _ (m : Machine) (ready : Ready m) (q : Put) (inside : q.index < length m.words) where
  pub put-accepted : store_refusal m q.index ≡ 0
  unfolding store_refusal refuse_unless index_fits
  put-accepted = rw (ready.registers-fit, ready.buffer-fits, ready.words-fit, lt-ltb q.index (length m.words) inside)

  pub put-buffer : buffer_after_store m q ≡ swept (set m.words q.index q.value) m.buffer
  unfolding buffer_after_store stored_words written
  put-buffer = sym (when-accepted _ 0 (sym put-accepted) _ _ _ refl refl)

  pub put-words : words_after_store m q ≡ set m.words q.index q.value
  unfolding words_after_store stored_words written
  put-words = sym (when-accepted _ 0 (sym put-accepted) _ _ _ refl refl)

  pub put-registers : (store_reply m q).registers ≡ m.registers
  put-registers = ap (λ (r : Reply). r.registers) (store-answers m q put-accepted)

  pub put-emptied : done_of (store_reply m q).outcome ≡ emptied (set m.words q.index q.value) m.buffer
  unfolding done_of stored_words written
  put-emptied = ap (λ (r : Reply). done_of r.outcome) (store-answers m q put-accepted)

  pub ready-after : Ready (after_store m q)
  unfolding after_store tables_fit
  ready-after = record {
    registers-fit = ap registers_fit put-registers ∙ ready.registers-fit;
    buffer-fits = ap buffer_fits put-buffer ∙ swept-fits (set m.words q.index q.value) m.buffer ∙ ready.buffer-fits;
    words-fit = ap tables_fit put-words ∙ ap length_fits (length-set m.words q.index q.value) ∙ ready.words-fit;
  }

  pub put-length : length (after_store m q).words ≡ length m.words
  unfolding after_store
  put-length = ap length put-words ∙ length-set m.words q.index q.value

  -- every slot is backed by the tables then, or empty
  pub put-backed : (slot : ℕ) → slot < 64 → kept_at (after_store m q).words (after_store m q).buffer slot ≡ true
  unfolding after_store
  put-backed slot l =
      ap₂ (λ (ws : List ℕ) (b : Buffer). kept_at ws b slot) put-words put-buffer
      ∙ swept-backed (set m.words q.index q.value) m.buffer slot ready.buffer-fits l

-- stores inside the run: the registers stay
pub registers-stay : (m : Machine) → Ready m → (qs : List Put) → Every (λ q. q.index < length m.words) qs
    → (after_stores m qs).registers ≡ m.registers
unfolding after_stores after_store Every
registers-stay m ready [] inside = refl
registers-stay m ready (q ∷ qs) inside =
    registers-stay (after_store m q) (ready-after m ready q inside.0) qs
    (subst (λ (n : ℕ). Every (λ x. x.index < n) qs) (sym (put-length m ready q inside.0)) inside.1)
    ∙ put-registers m ready q inside.0

-- One lemma a call: an accepted call's promise leads where its effect leads, and gives what is owed. Assumes nothing.
use Prim.Native.Nat.{ℕ, zero, suc}
use mathlib.Core.Path.{◌≡◌, refl, sym, ap, ◌∙◌, subst}
use mathlib.Core.Bool.{Bool, true, false, cond, ◌&&◌}
use mathlib.Core.List.{List, [], ◌∷◌}
use native.Mathlib.Omega.{arith}
use native.Mathlib.Nat.{add-zero}
use borrow.Author.Tests.{eqb-true, leb-true}
use Rattle.runs.specs.Bits.{bit}
use Rattle.registers.specs.Fields.{to_words, from_words, put, fits_at, registers_fit}
use Rattle.registers.specs.Refusals.{by_refusal}
use Rattle.registers.proofs.Fields.{put-fits}
use Rattle.registers.proofs.RefusalLaws.{passed}
use Rattle.registers.specs.declared.Access.{Access}
use Rattle.registers.specs.declared.Outcome.TheVariants.{Done}
use Rattle.registers.specs.declared.Registers.{Registers}
use Rattle.registers.specs.declared.Reply.{Reply}
use Rattle.page_table.specs.declared.Walk.{Walk}
use Rattle.page_table.specs.declared.Walk.TheVariants.{Leaf, Absent, Broken}
use Rattle.slots.specs.Buffer.{Buffer}
use Rattle.access.specs.Translation.{Accepted, translate}
use Rattle.access.proofs.AccessLaws.{draw-lt}
use Rattle.access.proofs.Keeping.{translate-fits}
use Rattle.store.specs.Machine.{Machine}
use Rattle.store.specs.Rewrite.{Put, written}
use Rattle.store.specs.TableStore.{stored_words, store_reply, buffer_after_store, words_after_store, TableStoreGives}
use Rattle.control.specs.Setting.{is_guarded, switch_fits, argument_refusal, setting_refusal, setting_reply, GuardedSettingGives}
use Rattle.mmu.specs.ServedAccess.{served_refusal, tried_reply, missed, loaded_at, registers_loaded, buffer_loaded, after_miss}
use Rattle.mmu.specs.ServedAccess.{buffer_after_miss, first_try, walk_for, access_reply, access_buffer, served_reply, served_buffer}
use Rattle.mmu.specs.ServedAccess.{ServedAccessGives}
use Rattle.mmu.proofs.ServedLaws.{served-accepted, loaded-accepted, first-accepted}
use Rattle.sequence.specs.Reader.{settings_of, with_guarded, reader_walk, found_leaf}
use Rattle.sequence.specs.Account.{Slots}
use Rattle.sequence.specs.Effects.{rewritten, emptied_all, AnswerOwed, CountOwed, loads_owed}
use Rattle.sequence.specs.Effects.Effect.{Serve}
use Rattle.sequence.specs.Calls.{Call, refusal, accepted, request_of, effect_by, handed, Promise}
use Rattle.sequence.specs.Requests.{effect_of}
use Rattle.sequence.specs.Calls.Call.{ServedAccess, TableStore, GuardedSetting}
use Rattle.sequence.specs.Systems.{System}
use Rattle.sequence.specs.Sentences.{FirstTryAgrees, NoneStored}
use Rattle.sequence.proofs.Tries.{Kept}
use Rattle.sequence.proofs.Serving.{reader_of, access-loads, access-keeps, access-answer}
use Rattle.sequence.proofs.Following.{SameSlots, misses-same, emptied-same}
use Rattle.sequence.proofs.EffectLaws.{Sound, off, buffer_after, Leads, Fit}

unfoldable pub system_of : Machine → Slots → System
system_of m slots = record { machine = m; reader = reader_of m; slots = slots }

pub record Taken (m : Machine) (slots : Slots) (c : Call) (reply : Reply) (buffer : Buffer) (words : List ℕ) : Type 0 where
  pub fit : Fit (effect_by c)
  pub leads : Leads m (effect_by c) (record { registers = reply.registers; buffer = buffer; words = words })
  pub answer : AnswerOwed (reader_of m) (effect_by c) reply.outcome
  pub count : CountOwed (reader_of m) slots (effect_by c) reply.outcome
  pub first-try : FirstTryAgrees (system_of m slots) (effect_by c)
  pub loads : reply.loads ≡ loads_owed (reader_of m) slots (effect_by c)
  pub else-none : NoneStored (system_of m slots) (effect_by c) buffer

-- ---- a served access

-- the second try is accepted, so that it leaves registers that fit
pub reply-fits : (m : Machine) (a : Access) → Accepted m.registers m.buffer a → registers_fit (access_reply m a).registers ≡ true
unfolding access_reply after_miss tried_reply first_try registers_loaded loaded_at buffer_loaded
reply-fits m a ok = go (missed (first_try m a)) (walk_for m a)
  where
    after : Registers
    after = (translate m.registers m.buffer a).registers

    first : Accepted after m.buffer a
    first = first-accepted m.registers m.buffer a _ refl ok

    go : (t : Bool) (x : Walk)
        → registers_fit (cond t (after_miss x (first_try m a).registers m.buffer a) (tried_reply (first_try m a) 0)).registers ≡ true
    go true (Leaf f) =
        translate-fits _ _ a
        (loaded-accepted after m.buffer _ a _ _ _ _ (record { slot_is = refl; buffer-is = refl }) refl first)
    go true (Absent s) = first.registers-fit
    go true (Broken s) = first.registers-fit
    go false x = first.registers-fit

-- nothing is stored unless the first try missed and the walk found a leaf
none-stored : (m : Machine) (a : Access) → bit (missed (first_try m a) && found_leaf (walk_for m a)) ≡ 0 → access_buffer m a ≡ m.buffer
unfolding access_buffer buffer_after_miss found_leaf
none-stored m a = go (missed (first_try m a)) (walk_for m a)
  where
    go : (t : Bool) (x : Walk) → bit (t && found_leaf x) ≡ 0
        → cond t (buffer_after_miss x (first_try m a).registers m.buffer a) m.buffer ≡ m.buffer
    go true (Leaf f) h = absurd (omega arith)
    go true (Absent s) h = refl
    go true (Broken s) h = refl
    go false x h = refl

module _ (m : Machine) (slots : Slots) (s : Sound m) (same : SameSlots m.buffer slots) where
  module _ (a : Access) (reply : Reply) (buffer : Buffer) (words : List ℕ) (ok : accepted (ServedAccess m a) ≡ true)
      (p : ServedAccessGives m a reply buffer) (q : words ≡ m.words) where
    given-ok : Accepted m.registers m.buffer a
    unfolding accepted refusal
    given-ok = (served-accepted m a (eqb-true (served_refusal m a) 0 ok)).0

    reply-is : reply ≡ access_reply m a
    unfolding served_reply by_refusal accepted refusal
    reply-is = p.reply-is ∙ rw ok

    buffer-is : buffer ≡ access_buffer m a
    unfolding served_buffer by_refusal accepted refusal
    buffer-is = p.buffer-is ∙ rw ok

    kept : Kept reply.registers m.registers
    kept = subst (λ (x : Reply). Kept x.registers m.registers) (sym reply-is) (access-keeps m a)

    counted : bit (missed (first_try m a) && found_leaf (walk_for m a)) ≡ loads_owed (reader_of m) slots (Serve a)
    unfolding loads_owed reader_of reader_walk walk_for settings_of
    counted = ap (λ (t : Bool). bit (t && found_leaf (walk_for m a))) (misses-same m a slots same (off _ s.test-off))

    access-taken : Taken m slots (ServedAccess m a) reply buffer words
    unfolding effect_by request_of effect_of Fit Leads AnswerOwed CountOwed FirstTryAgrees NoneStored system_of reader_of
    access-taken = record {
      fit = draw-lt a.draw given-ok.draw-fits;
      leads = record {
        settings-are = kept.settings;
        buffer-is = buffer-is;
        words_are = q;
        registers-fit =
            ap (λ (x : Reply). registers_fit x.registers) reply-is ∙ reply-fits m a given-ok;
        test-off = kept.test ∙ s.test-off;
      };
      answer =
          ap (λ (x : Reply). x.outcome) reply-is
          ∙ access-answer m a (off _ s.test-off) s.context-served (draw-lt a.draw given-ok.draw-fits) s.buffer-fits s.inv;
      count = tt;
      first-try = misses-same m a slots same (off _ s.test-off);
      loads = ap (λ (x : Reply). x.loads) reply-is ∙ access-loads m a ∙ counted;
      else-none = λ z. buffer-is ∙ none-stored m a (counted ∙ z);
    }

  -- ---- a table store

  module _ (p : Put) (reply : Reply) (buffer : Buffer) (words : List ℕ) (ok : accepted (TableStore m p) ≡ true)
      (g : TableStoreGives m p reply buffer words) where
    store-taken : Taken m slots (TableStore m p) reply buffer words
    unfolding effect_by request_of effect_of Fit Leads AnswerOwed CountOwed FirstTryAgrees NoneStored system_of loads_owed accepted refusal
        store_reply buffer_after_store words_after_store stored_words by_refusal rewritten buffer_after emptied_all reader_of
    store-taken = record {
      fit = tt;
      leads = record {
        settings-are = ap settings_of registers-are;
        buffer-is = g.buffer-is ∙ rw ok;
        words_are = g.words_are ∙ rw ok;
        registers-fit = ap registers_fit registers-are ∙ s.registers-fit;
        test-off = ap (λ (r : Registers). r.test) registers-are ∙ s.test-off;
      };
      answer = tt;
      count =
          ap (λ (x : Reply). x.outcome) g.reply-is
          ∙ rw ok (ap Done (emptied-same (written (p ∷ []) m.words) m.buffer slots same ∙ sym (add-zero _)));
      first-try = tt;
      loads = ap (λ (x : Reply). x.loads) g.reply-is ∙ rw ok;
      else-none = tt;
    }
      where
        registers-are : reply.registers ≡ m.registers
        registers-are = ap (λ (x : Reply). x.registers) g.reply-is ∙ rw ok

-- ---- a guarded setting

pub record SettingAccepted (r : Registers) (number value : ℕ) : Type 0 where
  pub switch_fits : switch_fits number value ≡ true
  pub is-guarded : is_guarded number ≡ true
  pub value-fits : fits_at number value ≡ true

pub setting-accepted : (r : Registers) (number value : ℕ) → setting_refusal r number value ≡ 0 → SettingAccepted r number value
unfolding setting_refusal argument_refusal
setting-accepted r number value h =
    let one = passed (registers_fit r) 1 _ (λ e. omega arith) h in
    let five = passed (switch_fits number value) 5 _ (λ e. omega arith) one.1 in
    let known = passed (is_guarded number) 7 _ (λ e. omega arith) five.1 in
    let small = passed (fits_at number value) 7 _ (λ e. omega arith) known.1 in
    record { switch_fits = five.0; is-guarded = known.0; value-fits = small.0 }

-- a guarded register is written as the reader writes it, and test mode stays
guarded-put : (r : Registers) (number value : ℕ) → is_guarded number ≡ true
    → (settings_of (put r number value) ≡ with_guarded (settings_of r) number value) × ((put r number value).test ≡ r.test)
unfolding is_guarded settings_of with_guarded put to_words from_words
guarded-put r zero value h = (refl, refl)
guarded-put r (suc zero) value h = (refl, refl)
guarded-put r (suc (suc zero)) value h = (refl, refl)
guarded-put r (suc (suc (suc zero))) value h = (refl, refl)
guarded-put r (suc (suc (suc (suc zero)))) value h = (refl, refl)
guarded-put r (suc (suc (suc (suc (suc zero))))) value h = (refl, refl)
guarded-put r (suc (suc (suc (suc (suc (suc n)))))) value h =
    absurd (let l = leb-true (suc (suc (suc (suc (suc (suc n)))))) 5 h in omega arith)

module _ (m : Machine) (slots : Slots) (s : Sound m) (number value : ℕ) (reply : Reply) (buffer : Buffer) (words : List ℕ)
    (ok : accepted (GuardedSetting m.registers number value) ≡ true) (g : GuardedSettingGives m.registers number value reply)
    (bq : buffer ≡ m.buffer) (wq : words ≡ m.words) where
  setting-taken : Taken m slots (GuardedSetting m.registers number value) reply buffer words
  unfolding effect_by request_of effect_of Fit Leads AnswerOwed CountOwed FirstTryAgrees NoneStored system_of loads_owed accepted refusal
      setting_reply by_refusal
  setting-taken = record {
    fit = a.switch_fits;
    leads = record {
      settings-are = ap settings_of registers-are ∙ put_is.0;
      buffer-is = bq;
      words_are = wq;
      registers-fit = ap registers_fit registers-are ∙ put-fits m.registers number value s.registers-fit a.value-fits;
      test-off = ap (λ (r : Registers). r.test) registers-are ∙ put_is.1 ∙ s.test-off;
    };
    answer = tt;
    count = ap (λ (x : Reply). x.outcome) g.reply-is ∙ rw ok;
    first-try = tt;
    loads = ap (λ (x : Reply). x.loads) g.reply-is ∙ rw ok;
    else-none = tt;
  }
    where
      a : SettingAccepted m.registers number value
      a = setting-accepted m.registers number value (eqb-true (setting_refusal m.registers number value) 0 ok)

      registers-are : reply.registers ≡ put m.registers number value
      registers-are = ap (λ (x : Reply). x.registers) g.reply-is ∙ rw ok

      put_is : (settings_of (put m.registers number value) ≡ with_guarded (settings_of m.registers) number value)
          × ((put m.registers number value).test ≡ m.registers.test)
      put_is = guarded-put m.registers number value a.is-guarded

-- ---- any call that was handed the machine

pub taken : (m : Machine) (slots : Slots) → Sound m → SameSlots m.buffer slots
    → (c : Call) (reply : Reply) (buffer : Buffer) (words : List ℕ) → accepted c ≡ true → handed m c ≡ m → Promise m c reply buffer words
    → Taken m slots c reply buffer words
unfolding handed Promise
taken m slots s same (ServedAccess given a) reply buffer words ok e p = go given e ok p
  where
    go : (g : Machine) → g ≡ m → accepted (ServedAccess g a) ≡ true → ServedAccessGives g a reply buffer × (words ≡ g.words)
        → Taken m slots (ServedAccess g a) reply buffer words
    go g e ok p =
        subst (λ (x : Machine). Taken m slots (ServedAccess x a) reply buffer words) (sym e)
        (access-taken m slots s same a reply buffer words
        (subst (λ (x : Machine). accepted (ServedAccess x a) ≡ true) e ok)
        (subst (λ (x : Machine). ServedAccessGives x a reply buffer) e p.0)
        (p.1 ∙ ap (λ (x : Machine). x.words) e))
taken m slots s same (TableStore given q) reply buffer words ok e p =
    subst (λ (x : Machine). Taken m slots (TableStore x q) reply buffer words) (sym e)
    (store-taken m slots s same q reply buffer words
    (subst (λ (x : Machine). accepted (TableStore x q) ≡ true) e ok)
    (subst (λ (x : Machine). TableStoreGives x q reply buffer words) e p))
taken m slots s same (GuardedSetting given number value) reply buffer words ok e p =
    subst (λ (x : Registers). Taken m slots (GuardedSetting x number value) reply buffer words) (sym r)
    (setting-taken m slots s number value reply buffer words
    (subst (λ (x : Registers). accepted (GuardedSetting x number value) ≡ true) r ok)
    (subst (λ (x : Registers). GuardedSettingGives x number value reply) r p.0)
    p.1
    p.2)
  where
    r : given ≡ m.registers
    r = ap (λ (x : Machine). x.registers) e

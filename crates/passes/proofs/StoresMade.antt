-- An accepted pass ends as the table stores that it stands for. Assumes nothing.
use Prim.Native.Nat.{ℕ, ◌+◌, ◌<◌}
use mathlib.Core.Path.{◌≡◌, refl, sym, ap, ap₂, ◌∙◌, subst}
use mathlib.Core.Bool.{true}
use mathlib.Core.List.{List, [], ◌∷◌}
use lib.ListN.{length}
use Rattle.registers.specs.Replies.{done}
use Rattle.registers.specs.declared.Outcome.TheVariants.{Done}
use Rattle.registers.specs.declared.Reply.{Reply}
use Rattle.registers.proofs.RefusalLaws.{when-accepted}
use Rattle.slots.specs.Buffer.{Buffer}
use Rattle.store.specs.Machine.{Machine}
use Rattle.store.specs.Rewrite.{Put}
use Rattle.store.specs.Sweep.{kept_at}
use Rattle.store.specs.TableStore.{store_reply, buffer_after_store, words_after_store, TableStoreGives}
use Rattle.store.proofs.StoreLaws.{store-gives}
use Rattle.store.specs.Stores.{done_of, after_store, after_stores, emptied_in}
use Rattle.store.proofs.Scans.{Every}
use Rattle.store.proofs.Storing.{Ready, put-accepted, put-backed, put-length, ready-after, registers-stay}
use Rattle.collector.specs.Visits.{pass_leaves, aged_puts}
use Rattle.collector.specs.Frames.{given_of, pool_after_gives}
use Rattle.collector.specs.Collect.{visited_by, stores_of, collect_answer, buffer_after_collect, words_after_collect}
use Rattle.collector.specs.declared.Collected.{Collected}
use Rattle.collector.proofs.Visited.{pass-inside}
use Rattle.passes.specs.AsStores.{Stored, left_by, StoresMade, last_left, NoneRefused, emptied_by}
use Rattle.passes.specs.AsStores.{PassAsStores, StoresCanBeMade, NoneStale}
use Rattle.passes.proofs.Accepted.{grounds}

-- a store leaves what its definition says
left_is : (m : Machine) (q : Put) (s : Stored) → TableStoreGives m q s.reply s.buffer s.words → left_by s ≡ after_store m q
unfolding left_by after_store
left_is m q s g = λ i. record {
  registers = (g.reply-is i).registers;
  buffer = g.buffer-is i;
  words = g.words_are i;
}

last-is : (m : Machine) (qs : List Put) (ss : List Stored) → StoresMade m qs ss → last_left m ss ≡ after_stores m qs
unfolding StoresMade last_left after_stores
last-is m [] [] made = refl
last-is m [] (s ∷ ss) made = absurd made
last-is m (q ∷ qs) [] made = absurd made
last-is m (q ∷ qs) (s ∷ ss) made = last-is (left_by s) qs ss made.1 ∙ ap (λ (x : Machine). after_stores x qs) (left_is m q s made.0)

total-is : (m : Machine) (qs : List Put) (ss : List Stored) → StoresMade m qs ss → emptied_by ss ≡ emptied_in m qs
unfolding StoresMade emptied_by emptied_in
total-is m [] [] made = refl
total-is m [] (s ∷ ss) made = absurd made
total-is m (q ∷ qs) [] made = absurd made
total-is m (q ∷ qs) (s ∷ ss) made =
    ap₂ ◌+◌ (ap (λ (r : Reply). done_of r.outcome) made.0.reply-is)
    (total-is (left_by s) qs ss made.1 ∙ ap (λ (x : Machine). emptied_in x qs) (left_is m q s made.0))

-- stores inside the run of a machine that fits are accepted
none-refused : (m : Machine) → Ready m → (qs : List Put) → Every (λ q. q.index < length m.words) qs → (ss : List Stored)
    → StoresMade m qs ss → NoneRefused ss
unfolding StoresMade NoneRefused Every
none-refused m ready [] inside [] made = tt
none-refused m ready [] inside (s ∷ ss) made = absurd made
none-refused m ready (q ∷ qs) inside [] made = absurd made
none-refused m ready (q ∷ qs) inside (s ∷ ss) made = (
  made.0.refusal_is ∙ put-accepted m ready q inside.0,
  none-refused (left_by s) (subst Ready (sym (left_is m q s made.0)) (ready-after m ready q inside.0)) qs
      (subst (λ (n : ℕ). Every (λ x. x.index < n) qs)
      (sym (ap (λ (x : Machine). length x.words) (left_is m q s made.0) ∙ put-length m ready q inside.0)) inside.1)
      ss made.1,
)

-- the stores of a pass stand where its leaves do
aged-inside : (n : ℕ) (ls : List Put) → Every (λ q. q.index < n) ls → Every (λ q. q.index < n) (aged_puts ls)
unfolding Every aged_puts
aged-inside n [] inside = tt
aged-inside n (q ∷ qs) inside = (inside.0, aged-inside n qs inside.1)

pub pass-as-stores : PassAsStores
unfolding PassAsStores stores_of visited_by collect_answer buffer_after_collect words_after_collect
pass-as-stores m p id answer buffer-after words-after stored pass made = record {
  none-refused = none-refused m ready stores inside stored made;
  same-registers =
      ap (λ (a : Collected). a.reply.registers) answer-now
      ∙ sym (ap (λ (x : Machine). x.registers) (last-is m stores stored made) ∙ registers-stay m ready stores inside);
  same-buffer =
      pass.made.buffer-is ∙ sym (when-accepted _ 0 (sym pass.accepted) _ _ _ refl refl)
      ∙ sym (ap (λ (x : Machine). x.buffer) (last-is m stores stored made));
  same-words =
      pass.made.words_are ∙ sym (when-accepted _ 0 (sym pass.accepted) _ _ _ refl refl)
      ∙ sym (ap (λ (x : Machine). x.words) (last-is m stores stored made));
  same-emptied = ap (λ (a : Collected). a.reply.outcome) answer-now ∙ ap Done (sym (total-is m stores stored made));
}
  where
    stores : List Put
    stores = aged_puts (pass_leaves m.words p.first p.size id)

    ready : Ready m
    ready = (grounds m p id answer buffer-after words-after pass).ready

    inside : Every (λ q. q.index < length m.words) (aged_puts (pass_leaves m.words p.first p.size id))
    inside = aged-inside (length m.words) (pass_leaves m.words p.first p.size id)
        (pass-inside m.words p.first p.size id)

    answer-now : answer ≡ record {
      reply = done m.registers (emptied_in m (aged_puts (pass_leaves m.words p.first p.size id)));
      given = length (given_of (pass_leaves m.words p.first p.size id));
      pool = pool_after_gives p (given_of (pass_leaves m.words p.first p.size id));
    }
    answer-now = pass.made.answer-is ∙ sym (when-accepted _ 0 (sym pass.accepted) _ _ _ refl refl)

pub stores-can-be-made : StoresCanBeMade
unfolding StoresCanBeMade StoresMade
stores-can-be-made m [] = ([], tt)
stores-can-be-made m (q ∷ qs) =
    let s : Stored = record { reply = store_reply m q; buffer = buffer_after_store m q; words = words_after_store m q } in
    let rest = stores-can-be-made (left_by s) qs in
    (s ∷ rest.0, (store-gives m q (store_reply m q) (buffer_after_store m q) (words_after_store m q) refl refl refl, rest.1))

-- after a store into a machine that fits every slot is backed, and so after the last of several
last-backed : (m : Machine) → Ready m → (q : Put) (qs : List Put) → Every (λ x. x.index < length m.words) (q ∷ qs)
    → (slot : ℕ) → slot < 64 → kept_at (after_stores m (q ∷ qs)).words (after_stores m (q ∷ qs)).buffer slot ≡ true
unfolding after_stores Every
last-backed m ready q [] inside slot l = put-backed m ready q inside.0 slot l
last-backed m ready q (r ∷ rs) inside slot l =
    last-backed (after_store m q) (ready-after m ready q inside.0) r rs
    (subst (λ (n : ℕ). Every (λ x. x.index < n) (r ∷ rs)) (sym (put-length m ready q inside.0)) inside.1) slot l

some-backed : (m : Machine) → Ready m → (qs : List Put) → Every (λ x. x.index < length m.words) qs → (qs ≡ [] → ⊥)
    → (slot : ℕ) → slot < 64 → kept_at (after_stores m qs).words (after_stores m qs).buffer slot ≡ true
some-backed m ready [] inside some slot l = absurd (some refl)
some-backed m ready (q ∷ qs) inside some slot l = last-backed m ready q qs inside slot l

pub none-stale : NoneStale
unfolding NoneStale stores_of visited_by buffer_after_collect words_after_collect
none-stale m p id answer buffer-after words-after pass some slot l =
    ap₂ (λ (ws : List ℕ) (b : Buffer). kept_at ws b slot)
    (pass.made.words_are ∙ sym (when-accepted _ 0 (sym pass.accepted) _ _ _ refl refl))
    (pass.made.buffer-is ∙ sym (when-accepted _ 0 (sym pass.accepted) _ _ _ refl refl))
    ∙ some-backed m (grounds m p id answer buffer-after words-after pass).ready
    (aged_puts (pass_leaves m.words p.first p.size id))
    (aged-inside (length m.words) (pass_leaves m.words p.first p.size id) (pass-inside m.words p.first p.size id))
    some slot l

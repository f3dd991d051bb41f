-- Demand 3: the step and the induction, which name no call. Assumes nothing.
use Prim.Native.Nat.{ℕ, ◌≤◌}
use mathlib.Core.Path.{◌≡◌, refl, sym, ap, ◌∙◌, subst}
use mathlib.Core.Bool.{Bool, true, false}
use mathlib.Core.List.{List, [], ◌∷◌}
use native.Mathlib.Omega.{arith}
use native.Mathlib.Nat.{mod-eq_of_lt}
use Rattle.runs.specs.Counts.{all}
use Rattle.runs.proofs.Bools.{clash, both}
use Rattle.runs.proofs.Counts.{count-le-one}
use Rattle.entry.specs.Address.{vpn_of}
use Rattle.entry.specs.Entry.{unpack, pack}
use Rattle.entry.proofs.RoundTrips.{pack-unpack}
use Rattle.entry.specs.declared.Entry.{Entry}
use Rattle.registers.specs.Fields.{to_words, from_words, field, widths, fits_at, registers_fit, zero_registers}
use Rattle.registers.specs.Refusals.{by_refusal, refuse_unless}
use Rattle.registers.specs.declared.Registers.{Registers}
use Rattle.registers.specs.declared.Reply.{Reply}
use Rattle.page_table.specs.Stretches.{tables_fit}
use Rattle.slots.specs.Buffer.{Buffer, buffer_fits, slot_at}
use Rattle.slots.specs.Start.{start_buffer}
use Rattle.slots.proofs.Slots.{slot_lt}
use Rattle.slots.proofs.Start.{start_fits}
use Rattle.tlb.specs.Hit.{valid_or_inv_exc, matches_page, hit}
use Rattle.tlb.specs.Search.{fields_at, set_hits, hit_count}
use Rattle.tlb.specs.Load.{set_matches}
use Rattle.access.specs.Exceptions.{inv_exc}
use Rattle.store.specs.Machine.{Machine}
use Rattle.control.specs.Starting.{start_refusal, start_reply, started_buffer, StartGives}
use Rattle.sequence.specs.Reader.{Reader, start_reader, settings_of}
use Rattle.sequence.specs.Account.{Slots, start_slots}
use Rattle.sequence.specs.Calls.{Event, accepted, effect_by, left_by, Promised}
use Rattle.sequence.specs.Systems.{System, begun, system_after, Moment, IfAccepted, IfRefused}
use Rattle.sequence.specs.Sentences.{AnsweredAsReader, Counted, Loaded}
use Rattle.sequence.specs.Sentences.{RefusalHasNoEffect, SlotIs, InService}
use Rattle.sequence.specs.Demand3.{Holds, HoldsThroughout, Handed, HandedThroughout, Demand3}
use Rattle.sequence.specs.Systems.Moment.{Start, After}
use Rattle.sequence.proofs.Invariant.{Inv, start-inv}
use Rattle.sequence.proofs.Serving.{reader_of}
use Rattle.sequence.proofs.Following.{SameSlots, start-same}
use Rattle.sequence.proofs.EffectLaws.{Sound, Follows, follows}
use Rattle.sequence.proofs.Taking.{system_of, Taken, taken}
use Rattle.sequence.proofs.Refusing.{has-no-effect, own-refusals}

-- what every system of a sequence is
pub record Good (s : System) : Type 0 where
  pub sound : Sound s.machine
  pub reader-is : reader_of s.machine ≡ s.reader
  pub same-slots : SameSlots s.machine.buffer s.slots

-- what an event has shown
pub record Shown (at : Moment) : Type 0 where
  pub answer : IfAccepted AnsweredAsReader at
  pub loads : IfAccepted Loaded at
  pub count : IfAccepted Counted at
  pub refusal : IfRefused RefusalHasNoEffect at

-- ---- what holds of such a system

one_hit : (words : List ℕ) (b : Buffer) → Inv words b → (inv-exc : Bool) (id vpn : ℕ) → id ≤ 62 → hit_count b inv-exc id vpn ≤ 1
unfolding hit_count set_hits hit set_matches
one_hit words b inv inv-exc id vpn l = count-le-one (set_hits b inv-exc id vpn) 4 (λ j k lj lk p q.
    inv.unique id vpn j k l lj lk
    (both (valid_or_inv_exc inv-exc (fields_at b vpn j)) (matches_page id vpn (fields_at b vpn j)) p).1
    (both (valid_or_inv_exc inv-exc (fields_at b vpn k)) (matches_page id vpn (fields_at b vpn k)) q).1)

slot_is : (b : Buffer) (slot : ℕ) (f : Entry) → unpack (slot_at b slot) ≡ f → SlotIs (slot_at b slot) f
slot_is b slot f e = record {
  bits_are = sym (ap pack (sym e) ∙ pack-unpack (slot_at b slot) ∙ mod-eq_of_lt (slot_lt b slot));
  fields-are = e;
}

serves : (m : Machine) → Sound m → InService m
serves m s = record {
  registers-fit = s.registers-fit;
  buffer-fits = s.buffer-fits;
  words-fit = s.words-fit;
  test-off = s.test-off;
  context-served = s.context-served;
  own-refusals = own-refusals m s;
}

holds : (s : System) (at : Moment) → Good s → Shown at → Holds s at
unfolding reader_of
holds s at g h = record {
  at-most-one-hit = λ address id ctrl l.
      one_hit s.machine.words s.machine.buffer g.sound.inv (inv_exc ctrl) id (vpn_of address) l;
  same-words = ap (λ (d : Reader). d.words) g.reader-is;
  same-settings = ap (λ (d : Reader). d.settings) g.reader-is;
  same_answer = h.answer;
  right-loads = h.loads;
  same-slots = λ slot l. slot_is s.machine.buffer slot (s.slots slot) (g.same-slots slot l);
  right-count = h.count;
  refusal-has-no-effect = h.refusal;
  in-service = serves s.machine g.sound;
}

-- ---- a step

pub record Step (s : System) (e : Event) : Type 0 where
  pub good : Good (system_after s e)
  pub shown : Shown (After s e)

step-refused : (s : System) (e : Event) → Good s → Handed s.machine e → accepted e.call ≡ false → Step s e
unfolding system_after IfAccepted IfRefused Promised
step-refused s e g h no' = record {
  good = rw no' g;
  shown = record {
    answer = λ ok. absurd (clash ok no');
    loads = λ ok. absurd (clash ok no');
    count = λ ok. absurd (clash ok no');
    refusal = λ _. has-no-effect s e no' h.promised;
  };
}

-- for a system that its machine and the account decide
taken_of : (m : Machine) (slots : Slots) (e : Event) → Good (system_of m slots) → Handed m e → accepted e.call ≡ true
    → Step (system_of m slots) e
unfolding system_of system_after left_by IfAccepted IfRefused AnsweredAsReader Counted Promised
taken_of m slots e g h ok = record {
  good = rw ok (record { sound = f.sound; reader-is = sym f.reader; same-slots = f.same-slots });
  shown = record {
    answer = λ _. t.answer;
    loads = λ _. record { first-try = t.first-try; loads-are = t.loads; else-none = t.else-none };
    count = λ _. t.count;
    refusal = λ no'. absurd (clash ok no');
  };
}
  where
    t : Taken m slots e.call e.reply e.buffer e.words
    t = taken m slots g.sound g.same-slots e.call e.reply e.buffer e.words ok (h.same-machine ok) h.promised

    f : Follows m slots (effect_by e.call) (left_by e)
    f = follows m slots g.sound g.same-slots (effect_by e.call) (left_by e) t.fit t.leads

system-is : (s : System) → Good s → system_of s.machine s.slots ≡ s
unfolding system_of
system-is s g = λ j. record { machine = s.machine; reader = g.reader-is j; slots = s.slots }

system-machine : (m : Machine) (slots : Slots) → (system_of m slots).machine ≡ m
unfolding system_of
system-machine m slots = refl

step-taken : (s : System) (e : Event) → Good s → Handed s.machine e → accepted e.call ≡ true → Step s e
step-taken s e g h ok =
    subst (λ (x : System). Step x e) (system-is s g)
    (taken_of s.machine s.slots e (subst Good (sym (system-is s g)) g) h ok)

step : (s : System) (e : Event) → Good s → Handed s.machine e → Step s e
step s e g h = go (accepted e.call) refl
  where
    go : (b : Bool) → accepted e.call ≡ b → Step s e
    go true ok = step-taken s e g h ok
    go false no' = step-refused s e g h no'

-- ---- the induction

throughout : (s : System) (at : Moment) → Good s → Shown at → (es : List Event) → HandedThroughout s es → HoldsThroughout s at es
unfolding HandedThroughout HoldsThroughout
throughout s at g n [] h = holds s at g n
throughout s at g n (e ∷ es) h =
    let p = step s e g h.0 in
    (holds s at g n, throughout (system_after s e) (After s e) p.good p.shown es h.1)

-- ---- the start

start-shown : Shown Start
unfolding IfAccepted IfRefused
start-shown = record { answer = tt; loads = tt; count = tt; refusal = tt }

zero-fits : registers_fit zero_registers ≡ true
unfolding registers_fit zero_registers from_words to_words field fits_at widths all
zero-fits = refl

zero_test : zero_registers.test ≡ 0
unfolding zero_registers from_words
zero_test = refl

zero-context : zero_registers.context ≤ 62
unfolding zero_registers from_words
zero-context = omega arith

zero-settings : (words : List ℕ) → settings_of zero_registers ≡ (start_reader words).settings
unfolding settings_of start_reader zero_registers from_words
zero-settings words = refl

module _ (lent buffer : Buffer) (reply : Reply) (words : List ℕ) (fits : buffer_fits lent ≡ true) (p : StartGives lent buffer reply)
    (wf : tables_fit words ≡ true) where
  buffer-is : buffer ≡ start_buffer lent
  unfolding started_buffer start_refusal refuse_unless by_refusal
  buffer-is = p.buffer-is ∙ rw fits

  registers-are : reply.registers ≡ zero_registers
  unfolding start_reply start_refusal refuse_unless by_refusal
  registers-are = ap (λ (x : Reply). x.registers) p.reply-is ∙ rw fits

  begun-sound : Sound (begun reply buffer words).machine
  unfolding begun
  begun-sound = record {
    inv = subst (Inv words) (sym buffer-is) (start-inv words lent fits);
    registers-fit = ap registers_fit registers-are ∙ zero-fits;
    buffer-fits = ap buffer_fits buffer-is ∙ start_fits lent ∙ fits;
    words-fit = wf;
    test-off = ap (λ (r : Registers). r.test) registers-are ∙ zero_test;
    context-served = subst (λ (r : Registers). r.context ≤ 62) (sym registers-are) zero-context;
  }

  begun-good : Good (begun reply buffer words)
  unfolding begun reader_of start_reader
  begun-good = record {
    sound = begun-sound;
    reader-is = (λ j. record { words = words; settings = (ap settings_of registers-are ∙ zero-settings words) j });
    same-slots = subst (λ (b : Buffer). SameSlots b start_slots) (sym buffer-is) (start-same lent fits);
  }

pub demand3 : Demand3
unfolding Demand3
demand3 lent buffer reply words fits p wf es h =
    throughout (begun reply buffer words) Start (begun-good lent buffer reply words fits p wf) start-shown es h

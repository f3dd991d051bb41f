-- A refused call has no effect, and a call handed a machine in service is refused only for its own arguments. Assumes nothing.
use Prim.Native.Nat.{ℕ, ◌≤◌}
use mathlib.Core.Path.{◌≡◌, ap, ◌∙◌}
use mathlib.Core.Bool.{true, false}
use mathlib.Core.List.{List}
use native.Mathlib.Omega.{arith}
use borrow.Author.Tests.{ne_eqb}
use Rattle.registers.specs.Refusals.{refuse_unless, by_refusal}
use Rattle.registers.specs.Replies.{refused}
use Rattle.registers.specs.declared.Registers.{Registers}
use Rattle.registers.specs.declared.Reply.{Reply}
use Rattle.slots.specs.Buffer.{Buffer}
use Rattle.store.specs.Machine.{Machine}
use Rattle.store.specs.TableStore.{store_refusal, store_reply, buffer_after_store, words_after_store}
use Rattle.control.specs.Setting.{argument_refusal, setting_refusal, setting_reply}
use Rattle.mmu.specs.ServedAccess.{may_be_served, served_refusal, served_reply, served_buffer}
use Rattle.sequence.specs.Calls.{Call, Event, refusal, accepted, handed, left_by, Promise, Promised}
use Rattle.sequence.specs.Calls.Call.{ServedAccess, TableStore, GuardedSetting}
use Rattle.sequence.specs.Requests.{Request, own_refusal}
use Rattle.sequence.specs.Calls.{call_on}
use Rattle.sequence.specs.Requests.Request.{ToAccess, ToStore, ToSet}
use Rattle.sequence.specs.Systems.{System}
use Rattle.sequence.specs.Sentences.{RefusalHasNoEffect}
use Rattle.sequence.proofs.EffectLaws.{Sound, off}

-- ---- a refused call

pub machine-same : (x y : Machine) → x.registers ≡ y.registers → x.buffer ≡ y.buffer → x.words ≡ y.words → x ≡ y
machine-same x y p q r = λ j. record { registers = p j; buffer = q j; words = r j }

pub record Left (m : Machine) (c : Call) (reply : Reply) (buffer : Buffer) (words : List ℕ) : Type 0 where
  pub reply-is : reply ≡ refused (handed m c).registers (refusal c)
  pub buffer-is : buffer ≡ (handed m c).buffer
  pub words_are : words ≡ (handed m c).words

left-all : (m : Machine) (c : Call) (reply : Reply) (buffer : Buffer) (words : List ℕ) → accepted c ≡ false
    → Promise m c reply buffer words → Left m c reply buffer words
unfolding Promise handed accepted refusal served_reply served_buffer store_reply buffer_after_store words_after_store setting_reply by_refusal
left-all m (ServedAccess given a) reply buffer words h p = record {
  reply-is = p.0.reply-is ∙ rw h;
  buffer-is = p.0.buffer-is ∙ rw h;
  words_are = p.1;
}
left-all m (TableStore given q) reply buffer words h p = record {
  reply-is = p.reply-is ∙ rw h;
  buffer-is = p.buffer-is ∙ rw h;
  words_are = p.words_are ∙ rw h;
}
left-all m (GuardedSetting given number value) reply buffer words h p = record {
  reply-is = p.0.reply-is ∙ rw h;
  buffer-is = p.1;
  words_are = p.2;
}

pub has-no-effect : (s : System) (e : Event) → accepted e.call ≡ false → Promised s.machine e → RefusalHasNoEffect s e
unfolding Promised left_by
has-no-effect s e h p = record {
  reply-is = l.reply-is;
  untouched = machine-same _ _ (ap (λ (x : Reply). x.registers) l.reply-is) l.buffer-is l.words_are;
}
  where
    l : Left s.machine e.call e.reply e.buffer e.words
    l = left-all s.machine e.call e.reply e.buffer e.words h p

-- ---- a machine in service

in_reach : (r : Registers) → r.test ≡ 0 → r.context ≤ 62 → may_be_served r ≡ true
unfolding may_be_served
in_reach r t c = rw (off r.test t, ne_eqb r.context 63 (λ e. omega arith))

pub own-refusals : (m : Machine) → Sound m → (q : Request) → refusal (call_on m q) ≡ own_refusal m.words q
unfolding refusal call_on own_refusal served_refusal store_refusal setting_refusal argument_refusal refuse_unless
own-refusals m s (ToAccess a) =
    rw (s.registers-fit, s.buffer-fits, s.words-fit, in_reach m.registers s.test-off s.context-served)
own-refusals m s (ToStore p) = rw (s.registers-fit, s.buffer-fits, s.words-fit)
own-refusals m s (ToSet number value) = rw s.registers-fit

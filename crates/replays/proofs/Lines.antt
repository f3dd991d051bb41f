-- The printed line of an access that the tables decide. Assumes nothing.
use Prim.Native.Nat.{ℕ, suc, ◌≤◌}
use mathlib.Core.Path.{◌≡◌, refl, sym, ap, ◌∙◌, subst}
use mathlib.Core.Bool.{Bool, true, false, cond}
use mathlib.Core.List.{List, [], ◌∷◌, ◌++◌, append_assoc, append_cancel_left}
use native.Mathlib.Nat.{zero-add}
use native.Mathlib.Omega.{arith}
use lib.ListN.{length, take, get_or}
use lib.Seq.{take-append_seam}
use lib.Dec.{eqb}
use Rattle.registers.specs.Refusals.{by_refusal, draw_fits}
use Rattle.registers.specs.Replies.{refused}
use Rattle.registers.specs.declared.Access.{Access}
use Rattle.registers.specs.declared.Outcome.{Outcome}
use Rattle.registers.specs.declared.Outcome.TheVariants.{At, Fault, Done, Refused}
use Rattle.registers.specs.declared.Reply.{Reply}
use Rattle.slots.specs.Buffer.{Buffer, buffer_fits}
use Rattle.store.specs.Machine.{Machine}
use Rattle.mmu.specs.ServedAccess.{walk_for, access_reply, served_refusal, served_reply}
use Rattle.mmu.specs.FaultValues.{IsFault}
use Rattle.sequence.specs.Reader.{found_leaf}
use Rattle.sequence.specs.Calls.{Event, call_on}
use Rattle.sequence.specs.Requests.Request.{ToAccess, ToStore, ToSet}
use Rattle.sequence.specs.Systems.{System, Moment}
use Rattle.sequence.specs.Systems.Moment.{Start}
use Rattle.sequence.specs.Moments.{system_after_all, moment_after_all}
use Rattle.sequence.specs.Demand3.{HoldsThroughout, Handed, HandedThroughout}
use Rattle.sequence.specs.Asks.{Ask, call_of, event_of, events_of, StraysRefused}
use Rattle.sequence.specs.Asks.Ask.{Now}
use Rattle.sequence.specs.Pages.{by_tables, FromTables, RaisedIfAged}
use Rattle.sequence.proofs.Serving.{access-no-load}
use Rattle.sequence.proofs.Asking.{asked}
use Rattle.sequence.proofs.Moments.{holds-from, events-append}
use Rattle.sequence.proofs.Pages.{no-stale-now, aged-raises-now}
use Rattle.line.specs.Text.{ascii, decimal, hex}
use Rattle.line.specs.Lines.{word_of, value_of, head_of, line_of}
use Rattle.line.proofs.LineLaws.{hex-length}
use Rattle.trace.specs.Commands.{commands_of}
use Rattle.trace.specs.Steps.{step_reply}
use Rattle.trace.specs.Traces.{lines_of, start_machine, machine_after, trace_text}
use Rattle.trace.specs.declared.Command.{Command}
use Rattle.trace.specs.declared.Command.TheVariants.{Serve, Store, Set, Malformed}
use Rattle.trace.proofs.TraceLaws.{lines-append, machine-append}
use Rattle.replays.specs.Traces.{asks_of, trace_system, record_events}
use Rattle.replays.specs.Lines.{fault_line, ShowsTables, ShowsFault, ShowsAged, AtEveryAccess}
use Rattle.replays.specs.Lines.{TraceNoStaleEntry, TraceAgedPageRaises}
use Rattle.replays.proofs.Traces.{machine-is, started, records-hold}
use Rattle.replays.proofs.Service.{Drawn, commands-drawn, drawn-behind, access-accepted}

-- ---- a line by its reply

line-of-fault : (number : ℕ) (reply : Reply) (value : ℕ) → reply.outcome ≡ Fault value
    → line_of number reply ≡ fault_line number value reply.loads
unfolding line_of head_of word_of value_of fault_line
line-of-fault number reply value e = rw e

-- a word that is no " at "
other_word : (number : ℕ) (word rest text : List ℕ) → (get_or (word ++ rest) 1 0 ≡ 97 → ⊥)
    → decimal number ++ (word ++ rest) ≡ decimal number ++ (ascii " at " ++ text) → ⊥
unfolding ascii
other_word number word rest text no' e =
    no' (ap (λ (t : List ℕ). get_or t 1 0) (append_cancel_left (decimal number) (word ++ rest) (ascii " at " ++ text) e))

-- a text of parts, one behind the other
apart : (a b c d : List ℕ) → a ++ b ++ c ++ d ≡ a ++ (b ++ (c ++ d))
apart a b c d = append_assoc (a ++ b) c d ∙ append_assoc a b (c ++ d)

-- a line that goes on with " at " has an address, of which the next eight digits are
at-digits : (number : ℕ) (o : Outcome) (tail text : List ℕ) → head_of number o ++ tail ≡ decimal number ++ ascii " at " ++ text
    → (address : ℕ) × ((o ≡ At address) × (take 8 text ≡ hex address))
unfolding head_of word_of value_of ascii
at-digits number o tail text e = by-outcome o (sym (apart (decimal number) (word_of o) (hex (value_of o)) tail) ∙ e ∙ append_assoc (decimal number) (ascii " at ") text)
  where
    by-outcome : (o : Outcome)
        → decimal number ++ (word_of o ++ (hex (value_of o) ++ tail)) ≡ decimal number ++ (ascii " at " ++ text)
        → (address : ℕ) × ((o ≡ At address) × (take 8 text ≡ hex address))
    by-outcome (At address) q =
        let rest : hex address ++ tail ≡ text =
        append_cancel_left (ascii " at ") (hex address ++ tail) text
        (append_cancel_left (decimal number) (ascii " at " ++ (hex address ++ tail)) (ascii " at " ++ text) q) in (
          address,
          (
            refl,
            ap (take 8) (sym rest)
                ∙ ap (λ (n : ℕ). take n (hex address ++ tail)) (sym (hex-length address))
                ∙ take-append_seam (hex address) tail,
          ),
        )
    by-outcome (Fault value) q = absurd (other_word number (ascii " fault ") (hex value ++ tail) text (λ h. omega arith) q)
    by-outcome (Done value) q = absurd (other_word number (ascii " done ") (hex value ++ tail) text (λ h. omega arith) q)
    by-outcome (Refused value) q = absurd (other_word number (ascii " refused ") (hex value ++ tail) text (λ h. omega arith) q)

line_at : (number : ℕ) (reply : Reply) (text : List ℕ) → line_of number reply ≡ decimal number ++ ascii " at " ++ text
    → (address : ℕ) × ((reply.outcome ≡ At address) × (take 8 text ≡ hex address))
unfolding line_of
line_at number reply text e =
    at-digits number reply.outcome (ascii " " ++ (decimal reply.loads ++ ascii "\n")) text
    (sym (apart (head_of number reply.outcome) (ascii " ") (decimal reply.loads) (ascii "\n")) ∙ e)

-- ---- an access's line, by what its outcome says

no-load : (m : Machine) (a : Access) → found_leaf (walk_for m a) ≡ false → (served_reply m a).loads ≡ 0
unfolding served_reply by_refusal
no-load m a none = by-test (eqb (served_refusal m a) 0)
  where
    by-test : (b : Bool) → (cond b (access_reply m a) (refused m.registers (served_refusal m a))).loads ≡ 0
    by-test true = access-no-load m a none
    by-test false = refl

module _ (m : Machine) (a : Access) (number : ℕ) where
  shows-tables : FromTables m a (served_reply m a).outcome → ShowsTables m a number (line_of number (served_reply m a))
  unfolding found_leaf
  shows-tables h = record {
    absent = λ s e. let k = h.absent s e in (fault-without-load _ k.0 (ap found_leaf e), k.1);
    broken = λ s e. let k = h.broken s e in (fault-without-load _ k.0 (ap found_leaf e), k.1);
    address-of-leaf = λ text e.
        let at = line_at number (served_reply m a) text e in
        record { address = at.0; digits_are = at.1.1; of-leaf = h.address-of-leaf at.0 at.1.0 };
  }
    where
      fault-without-load : (value : ℕ) → (served_reply m a).outcome ≡ Fault value → found_leaf (walk_for m a) ≡ false
          → line_of number (served_reply m a) ≡ fault_line number value 0
      fault-without-load value e none =
          line-of-fault number (served_reply m a) value e ∙ ap (fault_line number value) (no-load m a none)

  -- a fault between two values
  shows-fault : (least most : ℕ) → IsFault (λ value. (least ≤ value) × (value ≤ most)) (served_reply m a).outcome
      → ShowsFault number least most (line_of number (served_reply m a))
  unfolding IsFault
  shows-fault least most h = by-outcome (served_reply m a).outcome refl h
    where
      by-outcome : (o : Outcome) → (served_reply m a).outcome ≡ o → IsFault (λ value. (least ≤ value) × (value ≤ most)) o
          → ShowsFault number least most (line_of number (served_reply m a))
      by-outcome (At address) e none = absurd none
      by-outcome (Fault value) e k = record {
        value = value;
        loads = (served_reply m a).loads;
        at_least = k.0;
        at_most = k.1;
        line-is = line-of-fault number (served_reply m a) value e;
      }
      by-outcome (Done value) e none = absurd none
      by-outcome (Refused value) e none = absurd none

  shows-aged : RaisedIfAged m a (served_reply m a).outcome → ShowsAged m a number (line_of number (served_reply m a))
  unfolding RaisedIfAged ShowsAged IsFault
  shows-aged h f leaf aged = (
    λ on. shows-fault 4 7 ((h f leaf aged).with-inv-exc on),
    λ off. shows-fault 8 8 (subst (IsFault (λ value. (8 ≤ value) × (value ≤ 8))) (sym ((h f leaf aged).without off)) (omega arith, omega arith)),
  )

-- ---- the moment of a record

asks_append : (cs ds : List Command) → asks_of (cs ++ ds) ≡ asks_of cs ++ asks_of ds
unfolding asks_of
asks_append [] ds = refl
asks_append (Serve a ∷ cs) ds = ap (λ (qs : List Ask). Now (ToAccess a) ∷ qs) (asks_append cs ds)
asks_append (Store index value ∷ cs) ds =
    ap (λ (qs : List Ask). Now (ToStore (record { index = index; value = value })) ∷ qs) (asks_append cs ds)
asks_append (Set number value ∷ cs) ds = ap (λ (qs : List Ask). Now (ToSet number value) ∷ qs) (asks_append cs ds)
asks_append (Malformed ∷ cs) ds = asks_append cs ds

module _ (lent : Buffer) (f : buffer_fits lent ≡ true) (before : List Command) (a : Access) (d : draw_fits a.draw ≡ true) where
  abbrev now : System
  now = system_after_all (trace_system lent) (record_events lent before)

  abbrev at : Moment
  at = moment_after_all (trace_system lent) Start (record_events lent before)

  abbrev event : Event
  event = event_of now.machine (call_on now.machine (ToAccess a))

  machine-now : now.machine ≡ machine_after (start_machine lent) before
  unfolding record_events
  machine-now =
      sym (ap (λ (m : Machine). machine_after m before) (started lent f) ∙ machine-is (trace_system lent) before)

  holds-there : HoldsThroughout now at (event ∷ [])
  unfolding record_events asks_of events_of call_of
  holds-there =
      holds-from (trace_system lent) Start (record_events lent before) (event ∷ [])
      (subst (HoldsThroughout (trace_system lent) Start)
      (ap (events_of (trace_system lent)) (asks_append before (Serve a ∷ []))
      ∙ events-append (trace_system lent) (asks_of before) (asks_of (Serve a ∷ [])))
      (records-hold lent f (before ++ (Serve a ∷ []))))

  handed-there : Handed now.machine event
  unfolding HandedThroughout events_of call_of StraysRefused
  handed-there = (asked now (Now (ToAccess a) ∷ []) tt).0

  tables_then : by_tables now.machine a ≡ true
      → FromTables now.machine a (served_reply now.machine a).outcome
      × RaisedIfAged now.machine a (served_reply now.machine a).outcome
  unfolding HoldsThroughout event_of call_on
  tables_then by =
      let ok = access-accepted now at a holds-there.0 d in (
        no-stale-now now at event holds-there.0 handed-there holds-there.1 now.machine a refl ok by,
        aged-raises-now now at event holds-there.0 handed-there holds-there.1 now.machine a refl ok by,
      )

  pub tables-said : by_tables (machine_after (start_machine lent) before) a ≡ true
      → let m = machine_after (start_machine lent) before in
      FromTables m a (served_reply m a).outcome × RaisedIfAged m a (served_reply m a).outcome
  tables-said =
      subst (λ (m : Machine). by_tables m a ≡ true → FromTables m a (served_reply m a).outcome
      × RaisedIfAged m a (served_reply m a).outcome) machine-now tables_then

-- ---- its line in the text

line-stands : (lent : Buffer) (input : List ℕ) (before : List Command) (c : Command) (after : List Command)
    → commands_of input ≡ before ++ (c ∷ after)
    → trace_text lent input
    ≡ lines_of (start_machine lent) 0 before ++ line_of (length before) (step_reply (machine_after (start_machine lent) before) c)
    ++ lines_of (machine_after (start_machine lent) (before ++ (c ∷ []))) (suc (length before)) after
unfolding trace_text lines_of machine_after
line-stands lent input before c after e =
    let m = machine_after (start_machine lent) before in
    ap (lines_of (start_machine lent) 0) e
    ∙ lines-append (start_machine lent) 0 before (c ∷ after)
    ∙ ap (λ (n : ℕ). lines_of (start_machine lent) 0 before ++ lines_of m n (c ∷ after)) (zero-add (length before))
    ∙ ap (λ (x : Machine). lines_of (start_machine lent) 0 before ++ (line_of (length before) (step_reply m c)
    ++ lines_of x (suc (length before)) after)) (sym (machine-append (start_machine lent) before (c ∷ [])))
    ∙ sym (append_assoc (lines_of (start_machine lent) 0 before) (line_of (length before) (step_reply m c))
    (lines_of (machine_after (start_machine lent) (before ++ (c ∷ []))) (suc (length before)) after))

draw-there : (input : List ℕ) (before : List Command) (a : Access) (after : List Command)
    → commands_of input ≡ before ++ (Serve a ∷ after) → draw_fits a.draw ≡ true
draw-there input before a after e = drawn-behind before a after (subst Drawn e (commands-drawn input))

pub trace-no-stale-entry : TraceNoStaleEntry
unfolding AtEveryAccess step_reply
trace-no-stale-entry lent input f before a after e by = record {
  line = line_of (length before) (served_reply (machine_after (start_machine lent) before) a);
  text-is = line-stands lent input before (Serve a) after e;
  says = shows-tables _ a _ (tables-said lent f before a (draw-there input before a after e) by).0;
}

pub trace-aged-page-raises : TraceAgedPageRaises
unfolding AtEveryAccess step_reply
trace-aged-page-raises lent input f before a after e by = record {
  line = line_of (length before) (served_reply (machine_after (start_machine lent) before) a);
  text-is = line-stands lent input before (Serve a) after e;
  says = shows-aged _ a _ (tables-said lent f before a (draw-there input before a after e) by).1;
}

-- Runs of records compose, and the turns of the loop that makes them. Assumes nothing.
use Prim.Native.Nat.{ℕ, zero, suc, ◌+◌, ◌*◌, ◌/◌, ◌≤◌, ◌<◌}
use mathlib.Core.Path.{◌≡◌, refl, sym, ap, ap₂, subst, ◌∙◌}
use mathlib.Core.Bool.{Bool, cond}
use mathlib.Core.List.{List, [], ◌∷◌, ◌++◌, append_assoc, append-nil}
use native.Mathlib.Nat.{add-zero, zero-add, add-suc, suc-add}
use native.Mathlib.Numerals.{add-one}
use native.Mathlib.Omega.{arith}
use lib.ListN.{length}
use borrow.Author.Tests.{le-leb, lt-leb}
use Rattle.wire.specs.Wire.{element_at}
use Rattle.registers.specs.declared.Registers.{Registers}
use Rattle.registers.specs.declared.Reply.{Reply}
use Rattle.slots.specs.Buffer.{Buffer}
use Rattle.store.specs.Machine.{Machine}
use Rattle.trace.specs.Commands.{command_of, command_at, commands_from, commands_of, record_count}
use Rattle.trace.specs.Steps.{step_reply, machine_after_step, StepGives}
use Rattle.line.specs.Text.{overwritten, TextPut}
use Rattle.line.specs.Lines.{line_of}
use Rattle.trace.specs.Traces.{lines_of, machine_after, RunGives}
use Rattle.trace.specs.declared.Command.{Command}
use Rattle.trace.specs.declared.Command.TheVariants.{Malformed}
use Rattle.line.proofs.TextLaws.{put_then, put-length}

-- a record that is cut short, and one that is whole
pub cut_short : (input : List ℕ) (i : ℕ) → length input / 8 ≤ i → Malformed ≡ command_at input i
unfolding command_at
cut_short input i h =
    ap (λ (b : Bool). cond b (command_of (element_at 8 input i)) Malformed) (sym (lt-leb (8 * i + 8) (length input) (omega arith)))

pub whole : (input : List ℕ) (i : ℕ) → 8 * i + 8 ≤ length input → command_of (element_at 8 input i) ≡ command_at input i
unfolding command_at
whole input i h = ap (λ (b : Bool). cond b (command_of (element_at 8 input i)) Malformed) (sym (le-leb (8 * i + 8) (length input) h))

-- lists of commands compose
pub lines-append : (m : Machine) (number : ℕ) (cs ds : List Command)
    → lines_of m number (cs ++ ds) ≡ lines_of m number cs ++ lines_of (machine_after m cs) (number + length cs) ds
unfolding lines_of machine_after
lines-append m number [] ds = ap (λ (k : ℕ). lines_of m k ds) (sym (add-zero number))
lines-append m number (c ∷ cs) ds =
    ap (λ (t : List ℕ). line_of number (step_reply m c) ++ t)
    (lines-append (machine_after_step m c) (suc number) cs ds
    ∙ ap (λ (k : ℕ). lines_of (machine_after_step m c) (suc number) cs ++ lines_of (machine_after (machine_after_step m c) cs) k ds)
    (suc-add number (length cs) ∙ sym (add-suc number (length cs))))
    ∙ sym (append_assoc (line_of number (step_reply m c)) (lines_of (machine_after_step m c) (suc number) cs)
    (lines_of (machine_after (machine_after_step m c) cs) (number + suc (length cs)) ds))

pub machine-append : (m : Machine) (cs ds : List Command) → machine_after m (cs ++ ds) ≡ machine_after (machine_after m cs) ds
unfolding machine_after
machine-append m [] ds = refl
machine-append m (c ∷ cs) ds = machine-append (machine_after_step m c) cs ds

-- the records of an input, from an index on
pub commands-length : (input : List ℕ) (i n : ℕ) → length (commands_from input i n) ≡ n
unfolding commands_from
commands-length input i zero = refl
commands-length input i (suc n) = ap suc (commands-length input (suc i) n)

pub commands-more : (input : List ℕ) (i n : ℕ) → commands_from input i (suc n) ≡ commands_from input i n ++ (command_at input (i + n) ∷ [])
unfolding commands_from
commands-more input i zero = ap (λ (k : ℕ). command_at input k ∷ []) (sym (add-zero i))
commands-more input i (suc n) =
    ap (λ (cs : List Command). command_at input i ∷ cs)
    (commands-more input (suc i) n
    ∙ ap (λ (k : ℕ). commands_from input (suc i) n ++ (command_at input k ∷ [])) (suc-add i n ∙ sym (add-suc i n)))

-- a loop over the records: i are done, and their lines are the first `at` bytes
module _ (m₀ : Machine) (number : ℕ) (input out₀ : List ℕ) where
  pub record Running (count : ℕ) (m : Machine) (out : List ℕ) (at i : ℕ) : Type 0 where
    pub some : i ≤ count
    pub short : at ≤ 49 * i
    pub long : length out ≡ length out₀
    pub put : TextPut out₀ 0 (lines_of m₀ number (commands_from input 0 i)) at out
    pub machine : m ≡ machine_after m₀ (commands_from input 0 i)

  pub running_none : (count : ℕ) → Running count m₀ out₀ 0 0
  unfolding commands_from lines_of machine_after overwritten
  running_none count = record {
    some = omega arith;
    short = omega arith;
    long = refl;
    put = record { behind-is = refl; run_is = refl };
    machine = refl;
  }

  pub running_more : (count : ℕ) (m : Machine) (out : List ℕ) (at i : ℕ) (c : Command) (reply : Reply) (buffer : Buffer) (words : List ℕ)
      (behind : ℕ) (after : List ℕ) → Running count m out at i → i < count → 49 * count ≤ length out₀ → c ≡ command_at input i
      → StepGives m c reply buffer words → TextPut out at (line_of (number + i) reply) behind after → behind ≤ at + 49
      → Running count (record { registers = reply.registers; buffer = buffer; words = words }) after behind (i + 1)
  unfolding lines_of machine_after machine_after_step
  running_more count m out at i c reply buffer words behind after r l h e s p b =
      let more : commands_from input 0 (i + 1) ≡ commands_from input 0 i ++ (c ∷ []) =
      ap (commands_from input 0) (add-one i) ∙ commands-more input 0 i
      ∙ ap (λ (d : Command). commands_from input 0 i ++ (d ∷ [])) (ap (command_at input) (zero-add i) ∙ sym e) in
      let now : number + length (commands_from input 0 i) ≡ number + i = ap (λ (k : ℕ). number + k) (commands-length input 0 i) in
      let text : lines_of m₀ number (commands_from input 0 i) ++ line_of (number + i) reply ≡ lines_of m₀ number
      (commands_from input 0 (i + 1)) =
      ap (λ (t : List ℕ). lines_of m₀ number (commands_from input 0 i) ++ t)
      (ap (line_of (number + i)) s.reply-is
      ∙ ap₂ (λ (k : ℕ) (q : Machine). line_of k (step_reply q c)) (sym now) r.machine
      ∙ sym (append-nil (line_of (number + length (commands_from input 0 i)) (step_reply (machine_after m₀ (commands_from input 0 i)) c))))
      ∙ sym (lines-append m₀ number (commands_from input 0 i) (c ∷ []))
      ∙ ap (lines_of m₀ number) (sym more) in
      let here : at ≡ 0 + length (lines_of m₀ number (commands_from input 0 i)) = r.put.behind-is in
      record {
        some = omega arith;
        short = omega (arith, r.short);
        long = put-length out at (line_of (number + i) reply) behind after p
            (let q = p.behind-is in omega (arith, r.short, r.long)) ∙ r.long;
        put = subst (λ t. TextPut out₀ 0 t behind after) text
            (put_then out₀ out after 0 at behind (lines_of m₀ number (commands_from input 0 i)) (line_of (number + i) reply) r.put p
            (omega (arith, r.short)));
        machine =
            (λ j. record { registers = (s.reply-is j).registers; buffer = s.buffer-is j; words = s.words_are j })
            ∙ ap (λ (q : Machine). machine_after_step q c) r.machine
            ∙ sym (machine-append m₀ (commands_from input 0 i) (c ∷ []))
            ∙ ap (machine_after m₀) (sym more);
      }

  pub running-room : (count : ℕ) (m : Machine) (out : List ℕ) (at i : ℕ) → Running count m out at i → i < count → 49 * count ≤ length out₀
      → at + 49 ≤ length out
  running-room count m out at i r l h = omega (arith, r.short, r.long)

  -- behind the loop the run is what the text left in it
  pub running-fits : (count : ℕ) (m : Machine) (out : List ℕ) (at i : ℕ) (after : List ℕ) → Running count m out at i
      → 49 * count ≤ length out₀ → after ≡ out → at ≤ length after
  running-fits count m out at i after r h e = rw e (omega (arith, r.some, r.short, r.long))

  pub running-all : (count : ℕ) (registers : Registers) (buffer : Buffer) (words out : List ℕ) (at i : ℕ) (after : List ℕ)
      → count ≡ record_count (length input)
      → Running count (record { registers = registers; buffer = buffer; words = words }) out at i → count ≤ i → after ≡ out
      → RunGives m₀ number input out₀ (record { registers = registers; length = at }) buffer words after
  unfolding commands_of
  running-all count registers buffer words out at i after e r l q =
      let k : i ≡ record_count (length input) = omega (arith, r.some) in
      let done = subst (λ n. TextPut out₀ 0 (lines_of m₀ number (commands_from input 0 n)) at out) k r.put in
      record {
        length-is = done.behind-is ∙ zero-add (length (lines_of m₀ number (commands_from input 0 (record_count (length input)))));
        lines_are = q ∙ done.run_is;
        machine-is = r.machine ∙ ap (λ (n : ℕ). machine_after m₀ (commands_from input 0 n)) k;
      }

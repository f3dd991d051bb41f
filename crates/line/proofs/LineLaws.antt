-- A line's parts and their lengths. Assumes nothing.
use Prim.Native.Nat.{ℕ, ◌+◌, ◌≤◌, ◌<◌}
use mathlib.Core.Path.{◌≡◌, sym, subst}
use mathlib.Core.List.{List, ◌++◌}
use native.Mathlib.Omega.{arith}
use lib.ListN.{length, length-append}
use Rattle.registers.specs.declared.Outcome.{Outcome}
use Rattle.registers.specs.declared.Reply.{Reply}
use Rattle.registers.specs.declared.Outcome.TheVariants.{At, Fault, Done, Refused}
use Rattle.line.specs.Text.{ascii, decimal_length, decimal, hex, TextPut}
use Rattle.line.specs.Lines.{word_of, value_of, head_of, line_of}
use Rattle.line.proofs.TextLaws.{digits-length, length-le, Stage, first-stage, next-stage, room}

-- the same text in other words
pub word-put : (run : List ℕ) (at : ℕ) (text word : List ℕ) (behind : ℕ) (after : List ℕ) → word ≡ text
    → TextPut run at text behind after → TextPut run at word behind after
word-put run at text word behind after e p = subst (λ t. TextPut run at t behind after) (sym e) p

pub word-length : (outcome : Outcome) → length (word_of outcome) ≤ 9
unfolding word_of ascii
word-length (At address) = omega arith
word-length (Fault value) = omega arith
word-length (Done value) = omega arith
word-length (Refused number) = omega arith

-- a number of 64 bits has at most 20 decimal digits, one of 32 bits at most 10
pub decimal-wide : (n : ℕ) → length (decimal n) ≡ decimal_length n
unfolding decimal
decimal-wide n = digits-length 10 (decimal_length n) n

pub long-le : (n : ℕ) → n < 18446744073709551616 → decimal_length n ≤ 20
unfolding decimal_length
long-le n h = length-le 20 n 20 (omega arith) (omega arith)

pub short-le : (n : ℕ) → n < 4294967296 → decimal_length n ≤ 10
unfolding decimal_length
short-le n h = length-le 20 n 10 (omega arith) (omega arith)

pub hex-length : (n : ℕ) → length (hex n) ≡ 8
unfolding hex
hex-length n = digits-length 16 8 n

-- the head, part by part
module _ (run : List ℕ) (at number : ℕ) (outcome : Outcome) (h : at + 37 ≤ length run) (w : number < 18446744073709551616) where
  number-stage : (b : ℕ) (r : List ℕ) → TextPut run at (decimal number) b r → Stage run at (decimal number) 20 b r
  number-stage b r p =
      let k = long-le number w in
      let e = decimal-wide number in
      first-stage run at (decimal number) 20 b r p (omega arith) (omega arith)

  pub word_room : (b : ℕ) (r : List ℕ) → TextPut run at (decimal number) b r → b + 9 ≤ length r
  word_room b r p = room run at (decimal number) 20 b r 9 (number-stage b r p) (omega arith)

  module _ (b : ℕ) (r : List ℕ) (b' : ℕ) (r' : List ℕ) (p : TextPut run at (decimal number) b r)
      (q : TextPut r b (word_of outcome) b' r') where
    word-stage : Stage run at (decimal number ++ word_of outcome) 29 b' r'
    word-stage =
        next-stage run at (decimal number) 20 b r (word_of outcome) 9 b' r' (number-stage b r p) q (word-length outcome) (omega arith)

    pub hex-room : b' + 8 ≤ length r'
    hex-room = room run at (decimal number ++ word_of outcome) 29 b' r' 8 word-stage (omega arith)

    pub head-put : (v b'' : ℕ) (r'' : List ℕ) → v ≡ value_of outcome → TextPut r' b' (hex v) b'' r''
        → TextPut run at (head_of number outcome) b'' r''
    unfolding head_of
    head-put v b'' r'' e t =
        let k = hex-length (value_of outcome) in
        (next-stage run at (decimal number ++ word_of outcome) 29 b' r' (hex (value_of outcome)) 8 b'' r'' word-stage
        (subst (λ x. TextPut r' b' (hex x) b'' r'') e t) (omega arith) (omega arith)).put

-- a head has at most 37 bytes
pub head-length : (number : ℕ) (outcome : Outcome) → number < 18446744073709551616 → length (head_of number outcome) ≤ 37
unfolding head_of
head-length number outcome w =
    let a = long-le number w in
    let b = word-length outcome in
    rw (length-append, length-append, decimal-wide, hex-length) (omega arith)

-- the line, part by part
module _ (run : List ℕ) (at number : ℕ) (reply : Reply) (h : at + 49 ≤ length run) (w : number < 18446744073709551616)
    (l : reply.loads < 4294967296) (b : ℕ) (r : List ℕ) (p : TextPut run at (head_of number reply.outcome) b r) where
  head-stage : Stage run at (head_of number reply.outcome) 37 b r
  head-stage = first-stage run at (head_of number reply.outcome) 37 b r p (head-length number reply.outcome w) (omega arith)

  pub space-room : b + 1 ≤ length r
  space-room = room run at (head_of number reply.outcome) 37 b r 1 head-stage (omega arith)

  module _ (b' : ℕ) (r' : List ℕ) (q : TextPut r b (ascii " ") b' r') where
    space-stage : Stage run at (head_of number reply.outcome ++ ascii " ") 38 b' r'
    unfolding ascii
    space-stage = next-stage run at (head_of number reply.outcome) 37 b r (ascii " ") 1 b' r' head-stage q (omega arith) (omega arith)

    pub loads-room : b' + decimal_length reply.loads ≤ length r'
    loads-room =
        let k = short-le reply.loads l in
        let e = room run at (head_of number reply.outcome ++ ascii " ") 38 b' r' 10 space-stage (omega arith) in
        omega arith

    module _ (b'' : ℕ) (r'' : List ℕ) (t : TextPut r' b' (decimal reply.loads) b'' r'') where
      loads-stage : Stage run at (head_of number reply.outcome ++ ascii " " ++ decimal reply.loads) 48 b'' r''
      loads-stage =
          let k = short-le reply.loads l in
          let e = decimal-wide reply.loads in
          next-stage run at (head_of number reply.outcome ++ ascii " ") 38 b' r' (decimal reply.loads) 10 b'' r'' space-stage t
          (omega arith) (omega arith)

      pub end-room : b'' + 1 ≤ length r''
      end-room = room run at (head_of number reply.outcome ++ ascii " " ++ decimal reply.loads) 48 b'' r'' 1 loads-stage (omega arith)

      pub line-put : (b''' : ℕ) (r''' : List ℕ) → TextPut r'' b'' (ascii "\n") b''' r''' → TextPut run at (line_of number reply) b''' r'''
      unfolding line_of ascii
      line-put b''' r''' u =
          (next-stage run at (head_of number reply.outcome ++ ascii " " ++ decimal reply.loads) 48 b'' r'' (ascii "\n") 1 b''' r'''
          loads-stage u
          (omega arith) (omega arith)).put

-- a line has at most 49 bytes
pub line-length : (number : ℕ) (reply : Reply) → number < 18446744073709551616 → reply.loads < 4294967296
    → length (line_of number reply) ≤ 49
unfolding line_of ascii
line-length number reply w l =
    let a = head-length number reply.outcome w in
    let b = short-le reply.loads l in
    rw (length-append, length-append, length-append, decimal-wide) (omega arith)

pub line-room : (run : List ℕ) (at number : ℕ) (reply : Reply) (behind : ℕ) (after : List ℕ) → number < 18446744073709551616
    → reply.loads < 4294967296 → TextPut run at (line_of number reply) behind after → behind ≤ at + 49
line-room run at number reply behind after w l p = let k = line-length number reply w l in let e = p.behind-is in omega arith

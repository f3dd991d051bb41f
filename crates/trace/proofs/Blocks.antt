-- Reading in blocks gives the lines of the whole input. Assumes nothing.
use Prim.Native.Nat.{ℕ, zero, suc, ◌+◌, ◌*◌, ◌≤◌, ◌<◌}
use mathlib.Core.Path.{◌≡◌, refl, sym, ap, ap₂, ◌∙◌}
use mathlib.Core.Bool.{Bool, cond}
use mathlib.Core.List.{List, ◌∷◌, ◌++◌}
use native.Mathlib.Nat.{add-zero, zero-add, add-suc, suc-add}
use native.Mathlib.Omega.{arith}
use lib.ListN.{length, get_or, length-append, get_or-append}
use lib.Seq.{get_or-append-add}
use lib.Dec.{leb}
use borrow.Author.Tests.{leb-true, le-leb}
use Rattle.runs.proofs.Bools.{same_test}
use Rattle.wire.specs.Wire.{element_at}
use Rattle.wire.proofs.Bytes.{number-agrees}
use Rattle.trace.specs.Commands.{command_of, command_at, commands_from, commands_of, record_count}
use Rattle.trace.specs.Traces.{lines_of, machine_after, InBlocks}
use Rattle.trace.specs.declared.Command.{Command}
use Rattle.trace.specs.declared.Command.TheVariants.{Malformed}
use Rattle.trace.proofs.TraceLaws.{lines-append, machine-append, commands-length}

-- so many records, and so many behind them
pub split : (input : List ℕ) (i k l : ℕ) → commands_from input i (k + l) ≡ commands_from input i k ++ commands_from input (i + k) l
unfolding commands_from
split input i zero l = ap₂ (commands_from input) (sym (add-zero i)) (zero-add l)
split input i (suc k) l =
    ap (commands_from input i) (suc-add k l)
    ∙ ap (λ (cs : List Command). command_at input i ∷ cs)
    (split input (suc i) k l
    ∙ ap (λ (j : ℕ). commands_from input (suc i) k ++ commands_from input j l) (suc-add i k ∙ sym (add-suc i k)))

module _ (n : ℕ) (xs ys : List ℕ) (e : length xs ≡ 8 * n) where
  both : length (xs ++ ys) ≡ 8 * n + length ys
  both = length-append xs ys ∙ rw e

  -- a record of the first stretch
  element-front : (i : ℕ) → i < n → element_at 8 (xs ++ ys) i ≡ element_at 8 xs i
  unfolding element_at
  element-front i h =
      number-agrees (xs ++ ys) xs (8 * i) (8 * i) 8 (λ j l. get_or-append xs ys 0 (8 * i + j) (omega arith))

  front : (i : ℕ) → i < n → command_at (xs ++ ys) i ≡ command_at xs i
  unfolding command_at
  front i h =
      let b = both in
      ap₂ (λ (t : Bool) (x : ℕ). cond t (command_of x) Malformed)
      (le-leb (8 * i + 8) (length (xs ++ ys)) (omega arith) ∙ sym (le-leb (8 * i + 8) (length xs) (omega arith)))
      (element-front i h)

  fronts : (i k : ℕ) → i + k ≤ n → commands_from (xs ++ ys) i k ≡ commands_from xs i k
  unfolding commands_from
  fronts i zero h = refl
  fronts i (suc k) h = ap₂ (λ (c : Command) (cs : List Command). c ∷ cs) (front i (omega arith)) (fronts (suc i) k (omega arith))

  -- and one of the second
  element-back : (j : ℕ) → element_at 8 (xs ++ ys) (n + j) ≡ element_at 8 ys j
  unfolding element_at
  element-back j =
      number-agrees (xs ++ ys) ys (8 * (n + j)) (8 * j) 8
      (λ k l.
      let at : 8 * (n + j) + k ≡ length xs + (8 * j + k) = omega arith in
      ap (λ (i : ℕ). get_or (xs ++ ys) i 0) at ∙ get_or-append-add xs ys (8 * j + k) 0)

  back : (j : ℕ) → command_at (xs ++ ys) (n + j) ≡ command_at ys j
  unfolding command_at
  back j =
      let b = both in
      ap₂ (λ (t : Bool) (x : ℕ). cond t (command_of x) Malformed)
      (same_test (leb (8 * (n + j) + 8) (length (xs ++ ys))) (leb (8 * j + 8) (length ys))
      (λ t. let k = leb-true (8 * (n + j) + 8) (length (xs ++ ys)) t in le-leb (8 * j + 8) (length ys) (omega arith))
      (λ t. let k = leb-true (8 * j + 8) (length ys) t in le-leb (8 * (n + j) + 8) (length (xs ++ ys)) (omega arith)))
      (element-back j)

  backs : (j k : ℕ) → commands_from (xs ++ ys) (n + j) k ≡ commands_from ys j k
  unfolding commands_from
  backs j zero = refl
  backs j (suc k) =
      ap₂ (λ (c : Command) (cs : List Command). c ∷ cs) (back j)
      (ap (λ (i : ℕ). commands_from (xs ++ ys) i k) (sym (add-suc n j)) ∙ backs (suc j) k)

  first_count : record_count (length xs) ≡ n
  unfolding record_count
  first_count = omega arith

  pub joined : commands_of (xs ++ ys) ≡ commands_of xs ++ commands_of ys
  unfolding commands_of record_count
  joined =
      let b = both in
      let count : record_count (length (xs ++ ys)) ≡ n + record_count (length ys) = omega arith in
      let next : 0 + n ≡ n + 0 = omega arith in
      ap (commands_from (xs ++ ys) 0) count
      ∙ split (xs ++ ys) 0 n (record_count (length ys))
      ∙ ap₂ (λ (cs : List Command) (ds : List Command). cs ++ ds)
      (fronts 0 n (omega arith) ∙ ap (commands_from xs 0) (sym first_count))
      (ap (λ (i : ℕ). commands_from (xs ++ ys) i (record_count (length ys))) next ∙ backs 0 (record_count (length ys)))

  pub first-length : length (commands_of xs) ≡ n
  unfolding commands_of
  first-length = commands-length xs 0 (record_count (length xs)) ∙ first_count

pub in_blocks : InBlocks
in_blocks m number n xs ys e = (
  ap (lines_of m number) (joined n xs ys e) ∙ lines-append m number (commands_of xs) (commands_of ys)
      ∙ ap (λ (k : ℕ). lines_of m number (commands_of xs) ++ lines_of (machine_after m (commands_of xs)) (number + k) (commands_of ys))
      (first-length n xs ys e),
  ap (machine_after m) (joined n xs ys e) ∙ machine-append m (commands_of xs) (commands_of ys),
)

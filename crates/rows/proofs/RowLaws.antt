-- The report's lines part by part, and the turns of the loops that write them. Assumes nothing.
use Prim.Native.Nat.{ℕ, suc, ◌+◌, ◌-◌, ◌*◌, ◌≤◌, ◌<◌}
use mathlib.Core.Path.{◌≡◌, refl, sym, ap, subst, ◌∙◌}
use mathlib.Core.List.{List, [], ◌++◌}
use native.Mathlib.Nat.{add-zero, mul-suc, mul-le-mul_left}
use native.Mathlib.Numerals.{add-one}
use native.Mathlib.Omega.{arith}
use lib.IntN.{ℤ, pos}
use lib.ListN.{length, get_or, take, drop, take-append-drop}
use lib.Seq.{get_or-take, get_or-drop}
use borrow.Rule.Slice.PartMut.{mid_of, mid_len}
use Rattle.line.specs.Text.{ascii, decimal, decimal_length, overwritten, TextPut}
use Rattle.line.proofs.TextLaws.{length-le, Stage, first-stage, next-stage, room}
use Rattle.line.proofs.LineLaws.{decimal-wide, long-le}
use Rattle.rows.specs.Rows.{signed, total_text, totals_text, row_head, row_of, rows_of, report_of}

-- a text that was written within so many bytes, as a stage and as it is promised
module _ (run : List ℕ) (at : ℕ) (text : List ℕ) (k behind : ℕ) (after : List ℕ) where
  pub begun : TextPut run at text behind after → behind ≤ at + k → at + k ≤ length run → Stage run at text k behind after
  begun p m h = let e = p.behind-is in first-stage run at text k behind after p (omega arith) h

  pub ended : Stage run at text k behind after → TextPut run at text behind after × (behind ≤ at + k)
  ended s = let e = s.put.behind-is in (s.put, omega (arith, s.most))

-- another text behind it
pub further : (run : List ℕ) (at : ℕ) (text : List ℕ) (k between : ℕ) (middle next : List ℕ) (j behind : ℕ) (after : List ℕ)
    → Stage run at text k between middle → TextPut middle between next behind after → behind ≤ between + j → at + k + j ≤ length run
    → Stage run at (text ++ next) (k + j) behind after
further run at text k between middle next j behind after s p m h =
    let e = p.behind-is in
    next-stage run at text k between middle next j behind after s p (omega arith) h

-- a loop that writes one text after the other, each of at most `most` bytes: i of `count` are written
module _ (run : List ℕ) (at : ℕ) (texts : ℕ → List ℕ) (most count : ℕ) where
  pub record Growing (out : List ℕ) (to i : ℕ) : Type 0 where
    pub some : i ≤ count
    pub stage : Stage run at (texts i) (most * i) to out

  pub growing-none : texts 0 ≡ [] → Growing run at 0
  unfolding overwritten
  growing-none e = record {
    some = omega arith;
    stage = record {
      put = subst (λ t. TextPut run at t at run) (sym e) (record {
        behind-is = sym (add-zero at);
        run_is = sym (ap (λ (n : ℕ). take at run ++ drop n run) (add-zero at) ∙ take-append-drop at run);
      });
      most = subst (λ t. length t ≤ most * 0) (sym e) (omega arith);
      long = refl;
    };
  }

  one_more : (i : ℕ) → i < count → most * i + most ≤ most * count
  one_more i l = rw mul-suc at (mul-le-mul_left most l)

  pub growing-room : (out : List ℕ) (to i : ℕ) → Growing out to i → i < count → at + most * count ≤ length run → to + most ≤ length out
  growing-room out to i g l h =
      let m = one_more i l in room run at (texts i) (most * i) to out most g.stage (omega arith)

  pub growing-more : (out : List ℕ) (to i : ℕ) (next : List ℕ) (behind : ℕ) (after : List ℕ) → Growing out to i → i < count
      → at + most * count ≤ length run → texts (suc i) ≡ texts i ++ next → TextPut out to next behind after → behind ≤ to + most
      → Growing after behind (i + 1)
  growing-more out to i next behind after g l h e p b =
      let m = one_more i l in
      let s = further run at (texts i) (most * i) to out next most behind after g.stage p b (omega arith) in
      record {
        some = omega arith;
        stage = rw (add-one, e, mul-suc) s;
      }

  pub growing-all : (out : List ℕ) (to i : ℕ) → Growing out to i → count ≤ i
      → TextPut run at (texts count) to out × (to ≤ at + most * count)
  growing-all out to i g l =
      let e : i ≡ count = omega (arith, g.some) in
      ended run at (texts count) (most * count) to out (subst (λ n. Stage run at (texts n) (most * n) to out) e g.stage)

-- a total behind its space; `read` is the total as the machine reads it
pub total-put : (run : List ℕ) (at : ℕ) (n read : ℤ) (between : ℕ) (middle : List ℕ) (behind : ℕ) (after : List ℕ) → read ≡ n
    → at + 21 ≤ length run → TextPut run at (ascii " ") between middle → TextPut middle between (signed read) behind after
    → behind ≤ between + 20 → TextPut run at (total_text n) behind after × (behind ≤ at + 21)
unfolding total_text ascii
total-put run at n read between middle behind after e h p q b =
    ended run at (total_text n) 21 behind after
    (subst (λ z. Stage run at (total_text z) 21 behind after) e
    (further run at (ascii " ") 1 between middle (signed read) 20 behind after
    (first-stage run at (ascii " ") 1 between middle p (omega arith) (omega arith)) q b (omega arith)))

pub space-room : (run : List ℕ) (at between : ℕ) (middle : List ℕ) → at + 21 ≤ length run → TextPut run at (ascii " ") between middle
    → between + 20 ≤ length middle
unfolding ascii
space-room run at between middle h p =
    room run at (ascii " ") 1 between middle 20 (first-stage run at (ascii " ") 1 between middle p (omega arith) (omega arith)) (omega arith)

-- one total more
pub totals-none : (totals : List ℤ) (from : ℕ) → totals_text totals from 0 ≡ []
unfolding totals_text
totals-none totals from = refl

pub totals-more : (totals : List ℤ) (from i : ℕ) (read : ℤ) → read ≡ get_or totals (from + i) (pos 0)
    → totals_text totals from (suc i) ≡ totals_text totals from i ++ total_text read
unfolding totals_text
totals-more totals from i read e = ap (λ (z : ℤ). totals_text totals from i ++ total_text z) (sym e)

-- fourteen totals from an index on
module _ (totals : List ℤ) (from : ℕ) (h : from + 14 ≤ length totals) where
  pub part-length : length (mid_of from (from + 14 - from) totals) ≡ 14
  part-length = mid_len from (from + 14) totals h ∙ omega arith

  pub part-at : (i : ℕ) → i < 14 → get_or (mid_of from (from + 14 - from) totals) i (pos 0) ≡ get_or totals (from + i) (pos 0)
  part-at i l =
      get_or-take (from + 14 - from) (drop from totals) i (pos 0) (omega arith) ∙ get_or-drop from totals i (pos 0)

-- a file's number has at most 20 digits, an identification at most two
id-le : (id : ℕ) → id < 63 → decimal_length id ≤ 2
unfolding decimal_length
id-le id l = length-le 20 id 2 (omega arith) (omega arith)

-- a file's number, and what stands behind it
module _ (run : List ℕ) (at number : ℕ) (w : number < 18446744073709551616) (b : ℕ) (r : List ℕ)
    (p : TextPut run at (decimal number) b r) where
  number-stage : at + 20 ≤ length run → Stage run at (decimal number) 20 b r
  number-stage h =
      let k = long-le number w in
      let e = decimal-wide number in
      first-stage run at (decimal number) 20 b r p (omega arith) (omega arith)

  pub behind-room : (j : ℕ) → at + 20 + j ≤ length run → b + j ≤ length r
  behind-room j h = room run at (decimal number) 20 b r j (number-stage (omega arith)) h

  pub word-behind : (j : ℕ) (word : List ℕ) (b' : ℕ) (r' : List ℕ) → at + 20 + j ≤ length run → length word ≤ j
      → TextPut r b word b' r' → Stage run at (decimal number ++ word) (20 + j) b' r'
  word-behind j word b' r' h m q = next-stage run at (decimal number) 20 b r word j b' r' (number-stage (omega arith)) q m h

  module _ (id : ℕ) (h : at + 23 ≤ length run) (l : id < 63) (b' : ℕ) (r' : List ℕ) (q : TextPut r b (ascii " ") b' r') where
    space-stage : Stage run at (decimal number ++ ascii " ") 21 b' r'
    unfolding ascii
    space-stage = word-behind 1 (ascii " ") b' r' (omega arith) (omega arith) q

    pub id-room : b' + decimal_length id ≤ length r'
    id-room =
        let k = id-le id l in
        let e = room run at (decimal number ++ ascii " ") 21 b' r' 2 space-stage (omega arith) in
        omega arith

    pub head-put : (b'' : ℕ) (r'' : List ℕ) → TextPut r' b' (decimal id) b'' r''
        → TextPut run at (row_head number id) b'' r'' × (b'' ≤ at + 23)
    unfolding row_head
    head-put b'' r'' t =
        let k = id-le id l in
        let e = decimal-wide id in
        ended run at (row_head number id) 23 b'' r''
        (next-stage run at (decimal number ++ ascii " ") 21 b' r' (decimal id) 2 b'' r'' space-stage t (omega arith) (omega arith))

-- a file's one line: its number and a word behind it
pub single-put : (run : List ℕ) (number : ℕ) (w : number < 18446744073709551616) (b : ℕ) (r word : List ℕ) (b' : ℕ) (r' after : List ℕ)
    → 32 ≤ length run → length word ≤ 12 → TextPut run 0 (decimal number) b r → TextPut r b word b' r' → after ≡ r'
    → TextPut run 0 (decimal number ++ word) b' after × (b' ≤ length after)
single-put run number w b r word b' r' after h m p q l =
    let s = word-behind run 0 number w b r p 12 word b' r' (omega arith) m q in
    let e = s.put.behind-is in
    rw l (s.put, omega (arith, s.most, s.long))

-- room behind a head, and behind the totals
module _ (run : List ℕ) (at : ℕ) (head : List ℕ) (b : ℕ) (r : List ℕ) (h : at + 318 ≤ length run) (p : TextPut run at head b r)
    (m : b ≤ at + 23) where
  pub head-room : b + 294 ≤ length r
  head-room = room run at head 23 b r 294 (begun run at head 23 b r p m (omega arith)) (omega arith)

  pub end-room : (totals : List ℕ) (b' : ℕ) (r' : List ℕ) → TextPut r b totals b' r' → b' ≤ b + 294 → b' + 1 ≤ length r'
  end-room totals b' r' q n =
      room run at (head ++ totals) 317 b' r' 1
      (further run at head 23 b r totals 294 b' r' (begun run at head 23 b r p m (omega arith)) q n (omega arith)) (omega arith)

-- an identification's line: its head, its totals and its end
pub row_put : (run : List ℕ) (at number id : ℕ) (totals : List ℤ) (b : ℕ) (r : List ℕ) (b' : ℕ) (r' : List ℕ) (b'' : ℕ) (r'' : List ℕ)
    → at + 318 ≤ length run → TextPut run at (row_head number id) b r → b ≤ at + 23 → TextPut r b (totals_text totals (14 * id) 14) b' r'
    → b' ≤ b + 294 → TextPut r' b' (ascii "\n") b'' r'' → TextPut run at (row_of number id totals) b'' r'' × (b'' ≤ at + 318)
unfolding row_of ascii
row_put run at number id totals b r b' r' b'' r'' h p m q n t =
    let head = begun run at (row_head number id) 23 b r p m (omega arith) in
    let both = further run at (row_head number id) 23 b r (totals_text totals (14 * id) 14) 294 b' r' head q n (omega arith) in
    ended run at (row_of number id totals) 318 b'' r''
    (next-stage run at (row_head number id ++ totals_text totals (14 * id) 14) 317 b' r' (ascii "\n") 1 b'' r'' both t
    (omega arith) (omega arith))

-- one line more
pub rows_none : (number : ℕ) (totals : List ℤ) → rows_of number 0 totals ≡ []
unfolding rows_of
rows_none number totals = refl

pub rows_more : (number : ℕ) (totals : List ℤ) (i : ℕ) → rows_of number (suc i) totals ≡ rows_of number i totals ++ row_of number i totals
unfolding rows_of
rows_more number totals i = refl

-- all of them
pub report-put : (run : List ℕ) (number : ℕ) (totals : List ℤ) (out : List ℕ) (to i : ℕ) (after : List ℕ) → 63 * 318 ≤ length run
    → Growing run 0 (λ n. rows_of number n totals) 318 63 out to i → 63 ≤ i → after ≡ out
    → TextPut run 0 (report_of number totals) to after × (to ≤ length after)
unfolding report_of
report-put run number totals out to i after h g l q =
    let a = growing-all run 0 (λ n. rows_of number n totals) 318 63 out to i g l in
    rw q (a.0, omega (arith, a.1, g.stage.long))

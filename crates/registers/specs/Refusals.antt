-- The number that a call is refused with. Each call checks in the order of document 01's table, as far as it has the argument.
use Rattle.std.specs.Prelude.{ℕ, Bool, cond, eqb, leb}

-- a number of the table where its test fails, else what the later checks give; 0 at the end: the call is accepted
unfoldable pub refuse_unless : (test : Bool) (number later : ℕ) → ℕ
refuse_unless test number later = cond test later number

-- numbers 1, 2 and 3, of every call that takes registers, buffer and tables: whether each of the three fits, then the later checks
abbrev pub machine_refusal : (registers buffer tables : Bool) (later : ℕ) → ℕ
machine_refusal registers buffer tables later = refuse_unless registers 1 (refuse_unless buffer 2 (refuse_unless tables 3 later))

-- what a call gives by its refusal's number: one thing where it is accepted, another where it is refused
unfoldable pub by_refusal : {A : Type 0} (number : ℕ) (accepted refused : A) → A
by_refusal number accepted refused = cond (eqb number 0) accepted refused

-- a number that checks already gave, or what the later checks give where it is 0
unfoldable pub refused_or : (number later : ℕ) → ℕ
refused_or number later = by_refusal number later number

-- number 4: a draw above 3
unfoldable pub draw_fits : (draw : ℕ) → Bool
draw_fits draw = leb draw 3

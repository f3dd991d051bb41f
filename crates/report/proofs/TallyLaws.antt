-- Tallies compose, and the turns of the loop that makes one. Assumes nothing.
use Prim.Native.Nat.{ℕ, ◌+◌, ◌-◌, ◌≤◌, ◌<◌}
use mathlib.Core.Path.{◌≡◌, refl, sym, ap, subst, ◌∙◌}
use mathlib.Core.Bool.{Bool, true, false, cond}
use mathlib.Core.List.{List, [], ◌∷◌, ◌++◌}
use native.Mathlib.Nat.{zero-add}
use native.Mathlib.Numerals.{add-one}
use native.Mathlib.Omega.{arith}
use lib.ListN.{length}
use lib.IntN.{ℤ}
use Rattle.store.specs.Machine.{Machine}
use Rattle.trace.specs.Commands.{command_at, commands_from, commands_of, record_count}
use Rattle.trace.specs.Steps.{machine_after_step}
use Rattle.trace.specs.declared.Command.{Command}
use Rattle.trace.proofs.TraceLaws.{commands-more}
use Rattle.trace.proofs.Blocks.{split, joined}
use Rattle.report.specs.Replays.{machine_in, Ready, SameRuns}
use Rattle.report.specs.Tallies.{Tally, booked_by, tally_step, continued, tally_of, InBlocks, CountGives}
use Rattle.report.specs.declared.Replay.{Replay}

-- the tally of records and further ones is the first, continued
pub tally-append : (m : Machine) (totals : List ℤ) (cs ds : List Command)
    → tally_of m totals (cs ++ ds)
    ≡ continued (tally_of m totals cs) (tally_of (tally_of m totals cs).machine (tally_of m totals cs).totals ds)
unfolding tally_of continued
tally-append m totals [] ds = refl
tally-append m totals (c ∷ cs) ds =
    go (tally_step m totals c) (tally-append (machine_after_step m c) (booked_by m totals c).totals cs ds)
  where
    rest : Tally
    rest = tally_of (machine_after_step m c) (booked_by m totals c).totals cs

    both : Tally
    both = tally_of (machine_after_step m c) (booked_by m totals c).totals (cs ++ ds)

    pick : (b : Bool) (t : Tally) → t.fits ≡ b → both ≡ cond rest.fits (tally_of rest.machine rest.totals ds) rest
        → cond b both t
        ≡ cond (cond b rest t).fits (tally_of (cond b rest t).machine (cond b rest t).totals ds) (cond b rest t)
    pick true t e ih = ih
    pick false t e ih =
        sym (ap (λ (b : Bool). cond b (tally_of t.machine t.totals ds) t) e)

    go : (t : Tally) → both ≡ cond rest.fits (tally_of rest.machine rest.totals ds) rest
        → cond t.fits both t
        ≡ cond (cond t.fits rest t).fits (tally_of (cond t.fits rest t).machine (cond t.fits rest t).totals ds)
        (cond t.fits rest t)
    go t ih = pick t.fits t refl ih

pub in_blocks : InBlocks
in_blocks m totals n xs ys e = ap (tally_of m totals) (joined n xs ys e) ∙ tally-append m totals (commands_of xs) (commands_of ys)

-- one record's tally is its step
tally-one : (m : Machine) (totals : List ℤ) (c : Command) → tally_of m totals (c ∷ []) ≡ tally_step m totals c
unfolding tally_of continued tally_step
tally-one m totals c = go (booked_by m totals c).fits
  where
    go : (b : Bool)
        → cond {A = Tally} b (record { machine = machine_after_step m c; totals = (booked_by m totals c).totals; fits = true })
        (record { machine = machine_after_step m c; totals = (booked_by m totals c).totals; fits = b })
        ≡ record { machine = machine_after_step m c; totals = (booked_by m totals c).totals; fits = b }
    go true = refl
    go false = refl

-- the runs stay the same over two steps
pub runs-then : (p q r : Replay) → SameRuns p q → SameRuns q r → SameRuns p r
runs-then p q r a b = record {
  buffer = b.buffer ∙ a.buffer;
  words = b.words ∙ a.words;
  links = b.links ∙ a.links;
  presents = b.presents ∙ a.presents;
  totals = b.totals ∙ a.totals;
}

-- a loop over the records: i are done, and no total has passed the limit
module _ (p₀ : Replay) (input : List ℕ) where
  tally : List Command → Tally
  tally cs = tally_of (machine_in p₀) p₀.totals.now cs

  pub record Replayed (count : ℕ) (p : Replay) (i : ℕ) : Type 0 where
    pub some : i ≤ count
    pub same : tally_of (machine_in p₀) p₀.totals.now (commands_from input 0 i)
        ≡ record { machine = machine_in p; totals = p.totals.now; fits = true }
    pub ready : Ready p
    pub runs : SameRuns p₀ p

  pub replayed-none : (count : ℕ) → Ready p₀ → Replayed count p₀ 0
  unfolding commands_from tally_of
  replayed-none count ready = record {
    some = omega arith;
    same = refl;
    ready = ready;
    runs = record { buffer = refl; words = refl; links = refl; presents = refl; totals = refl };
  }

  module _ (count : ℕ) (p : Replay) (i : ℕ) (r : Replayed count p i) (l : i < count) (c : Command) (at : c ≡ command_at input i)
      (b : Bool) (q : Replay) (s : CountGives (tally_step (machine_in p) p.totals.now c) b q) where
    turned : tally (commands_from input 0 (i + 1)) ≡ tally_step (machine_in p) p.totals.now c
    unfolding continued tally
    turned =
        let more : commands_from input 0 (i + 1) ≡ commands_from input 0 i ++ (c ∷ []) =
        ap (commands_from input 0) (add-one i) ∙ commands-more input 0 i
        ∙ ap (λ (d : Command). commands_from input 0 i ++ (d ∷ [])) (ap (command_at input) (zero-add i) ∙ sym at) in
        ap tally more
        ∙ tally-append (machine_in p₀) p₀.totals.now (commands_from input 0 i) (c ∷ [])
        ∙ ap (λ (t : Tally). continued t (tally_of t.machine t.totals (c ∷ []))) r.same
        ∙ tally-one (machine_in p) p.totals.now c

    pub replayed-more : b ≡ true → SameRuns p q → Replayed count q (i + 1)
    unfolding tally
    replayed-more e k = record {
      some = omega arith;
      same =
          turned
          ∙ (λ j. record { machine = sym s.machine-is j; totals = sym s.totals-are j; fits = (sym s.fits-is ∙ e) j });
      ready = record { runs = s.runs; in-limit = s.in-limit e };
      runs = runs-then p₀ p q r.runs k;
    }

    pub replayed-stop : b ≡ false → count ≡ record_count (length input)
        → CountGives (tally_of (machine_in p₀) p₀.totals.now (commands_of input)) false q
    unfolding commands_of continued tally
    replayed-stop off n =
        let rest : i + 1 + (count - (i + 1)) ≡ record_count (length input) = omega arith in
        let whole : tally (commands_from input 0 (record_count (length input))) ≡ tally_step (machine_in p) p.totals.now c =
        ap (λ (k : ℕ). tally (commands_from input 0 k)) (sym rest)
        ∙ ap tally (split input 0 (i + 1) (count - (i + 1)))
        ∙ tally-append (machine_in p₀) p₀.totals.now (commands_from input 0 (i + 1)) (commands_from input (0 + (i + 1)) (count - (i + 1)))
        ∙ ap (λ (t : Tally). continued t (tally_of t.machine t.totals (commands_from input (0 + (i + 1)) (count - (i + 1))))) turned
        ∙ ap (λ (b : Bool). cond b
        (tally_of (tally_step (machine_in p) p.totals.now c).machine (tally_step (machine_in p) p.totals.now c).totals
        (commands_from input (0 + (i + 1)) (count - (i + 1))))
        (tally_step (machine_in p) p.totals.now c)) (sym s.fits-is ∙ off) in
        subst (λ (t : Tally). CountGives t false q) (sym whole)
        (record {
          machine-is = s.machine-is;
          totals-are = s.totals-are;
          fits-is = sym off ∙ s.fits-is;
          runs = s.runs;
          in-limit = λ e. s.in-limit (off ∙ e);
        })

  pub replayed-all : (count : ℕ) (p : Replay) (i : ℕ) → Replayed count p i → count ≤ i → count ≡ record_count (length input)
      → CountGives (tally_of (machine_in p₀) p₀.totals.now (commands_of input)) true p
  unfolding commands_of
  replayed-all count p i r l n =
      let e : i ≡ record_count (length input) = omega (arith, r.some) in
      subst (λ (t : Tally). CountGives t true p)
      (sym (ap (λ (k : ℕ). tally_of (machine_in p₀) p₀.totals.now (commands_from input 0 k)) (sym e) ∙ r.same))
      (record { machine-is = refl; totals-are = refl; fits-is = refl; runs = r.ready.runs; in-limit = λ q. r.ready.in-limit })

-- A record's step leads where its tally leads. Assumes nothing.
use Prim.Native.Nat.{ℕ, ◌<◌}
use mathlib.Core.Path.{◌≡◌, refl, sym, ap, ap₂, subst, ◌∙◌}
use mathlib.Core.Bool.{Bool, true, false, cond}
use mathlib.Core.List.{List, [], ◌∷◌}
use native.Mathlib.Omega.{arith}
use lib.ListN.{length, get_or, set, length-set}
use lib.Seq.{ext_get_or, get_or-set_same, get_or-set_other}
use lib.Dec.{eqb}
use lib.IntN.{ℤ, pos, ◌-ℤ◌}
use borrow.Author.Tests.{eqb-true, eqb-false}
use Rattle.std.specs.Borrow.{Bor}
use Rattle.std.specs.Option.{option_copied, unwrap_or}
use Rattle.std.specs.declared.option.Option.{Option}
use Rattle.std.specs.Slice.{IsItemAt}
use Rattle.registers.specs.Refusals.{by_refusal}
use Rattle.registers.specs.Replies.{refused, done}
use Rattle.registers.specs.declared.Access.{Access}
use Rattle.registers.specs.declared.Outcome.{Outcome}
use Rattle.registers.specs.declared.Outcome.TheVariants.{Done}
use Rattle.registers.specs.declared.Reply.{Reply}
use Rattle.page_table.specs.Stretches.{length_fits, tables_fit}
use Rattle.store.specs.Machine.{Machine}
use Rattle.store.specs.Rewrite.{Put, written}
use Rattle.store.specs.Sweep.{emptied}
use Rattle.store.specs.TableStore.{store_refusal, stored_words, store_reply, words_after_store}
use Rattle.store.proofs.StoreLaws.{store-accepted}
use Rattle.reach.specs.Leaves.{leaf_count}
use Rattle.reach.specs.Index.{Indexes}
use Rattle.trace.specs.Steps.{step_reply, words_after_step, machine_after_step}
use Rattle.trace.specs.declared.Command.{Command}
use Rattle.trace.specs.declared.Command.TheVariants.{Serve, Store, Set, Malformed}
use Rattle.report.specs.Totals.{Gain, EMPTIED, CHANGE, AllWithin, BookAllGives}
use Rattle.report.specs.Gains.{gain, access_gains, store_gains, leaf_change, gains_of}
use Rattle.report.specs.Replays.{machine_in, Ready, Stepped}
use Rattle.report.specs.Tallies.{booked_by, tally_step, CountGives}
use Rattle.report.specs.declared.Replay.{Replay}
use Rattle.report.proofs.TotalLaws.{books-none}

-- what a step leaves is the machine after it
pub step-machine : (p : Replay) (c : Command) (reply : Reply) (q : Replay) → Stepped p c reply q
    → machine_in q ≡ machine_after_step (machine_in p) c
unfolding machine_after_step
step-machine p c reply q s = λ j. record {
  registers = (s.registers ∙ ap (λ (r : Reply). r.registers) s.gives.reply-is) j;
  buffer = s.gives.buffer-is j;
  words = s.gives.words_are j;
}

-- a step from a replay that is ready
module _ (p : Replay) (c : Command) (reply : Reply) (q : Replay) (s : Stepped p c reply q) (ready : Ready p) where
  step-fits : tables_fit q.words.now ≡ true
  unfolding tables_fit
  step-fits = ap length_fits s.long ∙ ready.runs.fit

  -- what was booked behind it is what its record gives
  counts : (z : Replay) (b : Bool) (gains : List Gain) → machine_in z ≡ machine_in q → gains ≡ gains_of (machine_in p) c
      → BookAllGives p.registers.context gains q.totals.now b z.totals.now → Indexes z.words.now z.links.now z.presents.now
      → length z.totals.now ≡ length q.totals.now
      → CountGives (tally_step (machine_in p) p.totals.now c) b z
  unfolding tally_step booked_by tables_fit
  counts z b gains m e g x long =
      let h : BookAllGives p.registers.context (gains_of (machine_in p) c) p.totals.now b z.totals.now =
      subst (λ (ts : List ℤ). BookAllGives p.registers.context (gains_of (machine_in p) c) ts b z.totals.now) s.totals
      (subst (λ (gs : List Gain). BookAllGives p.registers.context gs q.totals.now b z.totals.now) e g) in
      record {
        machine-is = m ∙ step-machine p c reply q s;
        totals-are = h.totals-are;
        fits-is = h.fits-is;
        runs = record {
          fit = ap (λ (w : Machine). length_fits (length w.words)) m ∙ step-fits;
          indexed = x;
          columns = long ∙ ap length s.totals ∙ ready.runs.columns;
        };
        in-limit = h.in-limit;
      }

  -- the index, where the tables stay
  kept : words_after_step (machine_in p) c ≡ p.words.now → Indexes q.words.now q.links.now q.presents.now
  kept e =
      subst (λ (ws : List ℕ). Indexes ws q.links.now q.presents.now) (sym (s.gives.words_are ∙ e))
      (subst (λ (ls : List ℕ). Indexes p.words.now ls q.presents.now) (sym s.links)
      (subst (λ (ps : List ℕ). Indexes p.words.now p.links.now ps) (sym s.presents) ready.runs.indexed))

  -- a record that gives nothing
  counts-nothing : gains_of (machine_in p) c ≡ [] → words_after_step (machine_in p) c ≡ p.words.now
      → CountGives (tally_step (machine_in p) p.totals.now c) true q
  counts-nothing none same =
      counts q true [] refl (sym none) (books-none p.registers.context q.totals.now (subst AllWithin (sym s.totals) ready.in-limit))
      (kept same) refl

-- an access
pub access-counts : (p : Replay) (a : Access) (reply : Reply) (q : Replay) (z : Replay) (b : Bool) → Stepped p (Serve a) reply q → Ready p
    → machine_in z ≡ machine_in q → z.links.now ≡ q.links.now → z.presents.now ≡ q.presents.now
    → length z.totals.now ≡ length q.totals.now
    → BookAllGives p.registers.context (access_gains reply.outcome reply.loads) q.totals.now b z.totals.now
    → CountGives (tally_step (machine_in p) p.totals.now (Serve a)) b z
unfolding gains_of words_after_step
access-counts p a reply q z b s ready m l ps long g =
    counts p (Serve a) reply q s ready z b (access_gains reply.outcome reply.loads) m
    (ap (λ (r : Reply). access_gains r.outcome r.loads) s.gives.reply-is) g
    (subst (λ (ws : List ℕ). Indexes ws z.links.now z.presents.now) (sym (ap (λ (w : Machine). w.words) m))
    (subst (λ (xs : List ℕ). Indexes q.words.now xs z.presents.now) (sym l)
    (subst (λ (xs : List ℕ). Indexes q.words.now q.links.now xs) (sym ps) (kept p (Serve a) reply q s ready refl))))
    long

-- a setting, and a record that is malformed
module _ (p : Replay) (c : Command) (reply : Reply) (q : Replay) (s : Stepped p c reply q) (ready : Ready p) where
  pub setting-counts : (number value : ℕ) → c ≡ Set number value → CountGives (tally_step (machine_in p) p.totals.now c) true q
  unfolding gains_of words_after_step
  setting-counts number value e =
      counts-nothing p c reply q s ready (ap (gains_of (machine_in p)) e) (ap (words_after_step (machine_in p)) e)

  pub malformed-counts : c ≡ Malformed → CountGives (tally_step (machine_in p) p.totals.now c) true q
  unfolding gains_of words_after_step
  malformed-counts e = counts-nothing p c reply q s ready (ap (gains_of (machine_in p)) e) (ap (words_after_step (machine_in p)) e)

-- a store that is done was accepted, and one that is not was refused
module _ (m : Machine) (p : Put) where
  done-accepted : (n : ℕ) → (store_reply m p).outcome ≡ Done n → store_refusal m p.index ≡ 0
  unfolding store_reply by_refusal
  done-accepted n = go (eqb (store_refusal m p.index) 0) refl
    where
      go : (b : Bool) → eqb (store_refusal m p.index) 0 ≡ b
          → (cond {A = Reply} b (done m.registers (emptied (stored_words m p) m.buffer))
          (refused m.registers (store_refusal m p.index))).outcome ≡ Done n
          → store_refusal m p.index ≡ 0
      go true e h = eqb-true (store_refusal m p.index) 0 e
      go false e h = let z : ◌≡◌ {A = ℕ} 0 1 = cc in absurd (omega arith)

  other-words : ((n : ℕ) → (store_reply m p).outcome ≡ Done n → ⊥)
      → (words_after_store m p ≡ m.words) × ((change : ℤ) → store_gains (store_reply m p).outcome change ≡ [])
  unfolding store_reply words_after_store by_refusal store_gains
  other-words = go (eqb (store_refusal m p.index) 0)
    where
      reply : Bool → Reply
      reply b = cond b (done m.registers (emptied (stored_words m p) m.buffer)) (refused m.registers (store_refusal m p.index))

      go : (b : Bool) → ((n : ℕ) → (reply b).outcome ≡ Done n → ⊥)
          → (cond b (stored_words m p) m.words ≡ m.words) × ((change : ℤ) → store_gains (reply b).outcome change ≡ [])
      go true h = absurd (h _ refl)
      go false h = (refl, λ change. refl)

-- the old word put back
restored : (words : List ℕ) (i v : ℕ) → set (set words i v) i (get_or words i 0) ≡ words
restored words i v =
    ext_get_or 0 (set (set words i v) i (get_or words i 0)) words (length-set (set words i v) i (get_or words i 0) ∙ length-set words i v)
    (λ k l. go k (let e = length-set (set words i v) i (get_or words i 0) in let f = length-set words i v in omega arith) (eqb k i) refl)
  where
    go : (k : ℕ) → k < length words → (b : Bool) → eqb k i ≡ b → get_or (set (set words i v) i (get_or words i 0)) k 0 ≡ get_or words k 0
    go k l true e =
        let q : k ≡ i = eqb-true k i e in
        subst (λ (x : ℕ). get_or (set (set words i v) i (get_or words i 0)) x 0 ≡ get_or words x 0) (sym q)
        (get_or-set_same (set words i v) i (get_or words i 0) 0 (rw (length-set words i v) (subst (λ (x : ℕ). x < length words) q l)))
    go k l false e =
        get_or-set_other (set words i v) i k (get_or words i 0) 0 (eqb-false k i e) ∙ get_or-set_other words i k v 0 (eqb-false k i e)

module _ (p : Replay) (index value : ℕ) (reply : Reply) (q : Replay) (s : Stepped p (Store index value) reply q) (ready : Ready p) where
  -- it was done
  module _ (n : ℕ) (d : reply.outcome ≡ Done n) where
    accepted : store_refusal (machine_in p) index ≡ 0
    unfolding step_reply
    accepted =
        done-accepted (machine_in p) (record { index = index; value = value }) n (ap (λ (r : Reply). r.outcome) (sym s.gives.reply-is) ∙ d)

    now-words : q.words.now ≡ set p.words.now index value
    unfolding words_after_step words_after_store stored_words written by_refusal
    now-words = s.gives.words_are ∙ ap (λ (k : ℕ). cond (eqb k 0) (set p.words.now index value) p.words.now) accepted

    pub store-indexed : (old : ℕ) → old ≡ get_or p.words.now index 0
        → (tables_fit q.words.now ≡ true) × (index < length q.words.now) × Indexes (set q.words.now index old) q.links.now q.presents.now
    store-indexed old e = (
      step-fits p (Store index value) reply q s ready,
      rw s.long (store-accepted (machine_in p) index accepted).2,
      subst (λ (ws : List ℕ). Indexes ws q.links.now q.presents.now)
          (sym (ap₂ (λ (ws : List ℕ) (w : ℕ). set ws index w) now-words e ∙ restored p.words.now index value))
          (subst (λ (ls : List ℕ). Indexes p.words.now ls q.presents.now) (sym s.links)
          (subst (λ (ps : List ℕ). Indexes p.words.now p.links.now ps) (sym s.presents) ready.runs.indexed)),
    )

    pub store-counts : (z : Replay) (before after : ℕ) (b : Bool) → machine_in z ≡ machine_in q
        → Indexes z.words.now z.links.now z.presents.now → length z.totals.now ≡ length q.totals.now
        → before ≡ leaf_count p.words.now → after ≡ leaf_count q.words.now
        → BookAllGives p.registers.context (gain EMPTIED (pos n) ∷ gain CHANGE (pos after -ℤ pos before) ∷ []) q.totals.now b z.totals.now
        → CountGives (tally_step (machine_in p) p.totals.now (Store index value)) b z
    unfolding gains_of store_gains leaf_change
    store-counts z before after b m x long eb ea g =
        counts p (Store index value) reply q s ready z b (gain EMPTIED (pos n) ∷ gain CHANGE (pos after -ℤ pos before) ∷ []) m
        (ap₂ (λ (x y : ℕ). gain EMPTIED (pos n) ∷ gain CHANGE (pos x -ℤ pos y) ∷ []) (ea ∙ ap leaf_count s.gives.words_are) eb
        ∙ ap (λ (o : Outcome). store_gains o (leaf_change p.words.now (words_after_step (machine_in p) (Store index value))))
        (sym d ∙ ap (λ (r : Reply). r.outcome) s.gives.reply-is))
        g x long

  -- it was not
  pub store_nothing : ((n : ℕ) → reply.outcome ≡ Done n → ⊥)
      → CountGives (tally_step (machine_in p) p.totals.now (Store index value)) true q
  unfolding gains_of step_reply words_after_step
  store_nothing k =
      let o = other-words (machine_in p) (record { index = index; value = value })
      (subst (λ (r : Reply). (n : ℕ) → r.outcome ≡ Done n → ⊥) s.gives.reply-is k) in
      counts-nothing p (Store index value) reply q s ready
      (o.1 (leaf_change p.words.now (words_after_step (machine_in p) (Store index value)))) o.0

-- the word at an index, or 0 behind the run
pub word_found : (words : List ℕ) (i old : ℕ) (got : Option (Bor ℕ)) (copied : Option ℕ) → IsItemAt words i got
    → copied ≡ option_copied got → old ≡ unwrap_or copied 0 → old ≡ get_or words i 0
word_found words i old got copied g e f = f ∙ ap (λ (o : Option ℕ). unwrap_or o 0) e ∙ g.4 (omega arith) 0

-- No stale entry answers, and an aged page raises its exception. Assumes nothing.
use Prim.Native.Nat.{ℕ, ◌≤◌}
use mathlib.Core.Path.{◌≡◌, refl, sym, ap, ◌∙◌, subst}
use mathlib.Core.Bool.{Bool, true, false, cond, not}
use mathlib.Core.List.{[], ◌∷◌, ◌++◌}
use native.Mathlib.Omega.{arith}
use lib.Dec.{eqb}
use borrow.Author.Tests.{not-true, ne_eqb}
use Rattle.runs.proofs.Bools.{both}
use Rattle.entry.specs.Address.{vpn_of}
use Rattle.entry.proofs.Fields.{vpn-lt}
use Rattle.registers.specs.declared.Access.{Access}
use Rattle.registers.specs.declared.Outcome.{Outcome}
use Rattle.registers.specs.declared.Outcome.TheVariants.{At, Fault}
use Rattle.page_table.specs.Words.{leaf_valid, leaf_kernel, leaf_we, leaf_pfn}
use Rattle.page_table.specs.Faults.{walk_fault, Tells, ToldByFault}
use Rattle.page_table.specs.declared.Found.{Found}
use Rattle.page_table.specs.declared.Stop.{Stop}
use Rattle.page_table.specs.declared.Walk.{Walk}
use Rattle.page_table.specs.declared.Walk.TheVariants.{Leaf, Absent, Broken}
use Rattle.page_table.proofs.Stretches.{fit-roots}
use Rattle.page_table.proofs.Walks.{Stands, walk-stands}
use Rattle.page_table.proofs.FaultLaws.{walk-told}
use Rattle.access.specs.Segments.{in_linear_segment}
use Rattle.access.specs.Exceptions.{inv_exc, invalid_page, exception_value}
use Rattle.access.specs.Translation.{is_set, page_address}
use Rattle.access.proofs.Keeping.{exception-lt}
use Rattle.store.specs.Machine.{Machine}
use Rattle.mmu.specs.ServedAccess.{walk_for}
use Rattle.mmu.specs.FaultValues.{IsFault}
use Rattle.sequence.specs.Reader.{Reader, settings_of, reader_walk, leaf_answer, walk_answer, reader_answer}
use Rattle.sequence.specs.Effects.{AnswerOwed}
use Rattle.sequence.specs.Requests.{effect_of}
use Rattle.sequence.specs.Calls.{Call, Event, accepted, request_of, effect_by, handed}
use Rattle.sequence.specs.Calls.Call.{ServedAccess}
use Rattle.sequence.specs.Systems.{System, begun, system_after, Moment, IfAccepted}
use Rattle.sequence.specs.Systems.Moment.{Start, After}
use Rattle.sequence.specs.Sentences.{AnsweredAsReader, InService}
use Rattle.sequence.specs.Demand3.{Holds, Handed, HandedThroughout, Demand3}
use Rattle.sequence.specs.Moments.{system_after_all, moment_after_all}
use Rattle.sequence.specs.Pages.{by_tables, FromTables, RaisedIfAged, AfterAnySequence}
use Rattle.sequence.specs.Pages.{NoStaleEntry, AgedPageRaises}
use Rattle.sequence.proofs.Serving.{reader_of}
use Rattle.sequence.proofs.Theorem.{demand3}
use Rattle.sequence.proofs.Moments.{holds-now, holds-from, handed-from, holds_after}

-- ---- a leaf's answer

-- the exceptions of a page that is not valid, with inv_exc on: the invalid page's is among them
aged-value : (ctrl : ℕ) (a : Access) (kernel we : Bool) → inv_exc ctrl ≡ true → 4 ≤ exception_value ctrl a false kernel we
unfolding exception_value invalid_page
aged-value ctrl a kernel we on = rw on (omega arith)

module _ (ctrl : ℕ) (a : Access) (f : Found) where
  aged-on : leaf_valid f.word ≡ false → inv_exc ctrl ≡ true → IsFault (λ value. (4 ≤ value) × (value ≤ 7)) (leaf_answer ctrl a f)
  unfolding IsFault leaf_answer
  aged-on aged on =
      let low = aged-value ctrl a (leaf_kernel f.word) (leaf_we f.word) on in
      let high = exception-lt ctrl a false (leaf_kernel f.word) (leaf_we f.word) in
      rw (aged, on, ne_eqb (exception_value ctrl a false (leaf_kernel f.word) (leaf_we f.word)) 0 (λ e. omega arith)) (low, omega arith)

  aged-off : leaf_valid f.word ≡ false → inv_exc ctrl ≡ false → leaf_answer ctrl a f ≡ Fault 8
  unfolding leaf_answer walk_fault
  aged-off aged off = rw (aged, off)

  valid-answer : leaf_valid f.word ≡ true
      → leaf_answer ctrl a f
      ≡ cond (eqb (exception_value ctrl a true (leaf_kernel f.word) (leaf_we f.word)) 0)
      (At (page_address (leaf_pfn f.word) a.address))
      (Fault (exception_value ctrl a true (leaf_kernel f.word) (leaf_we f.word)))
  unfolding leaf_answer
  valid-answer t = rw t

  -- an address is the leaf's, which is valid
  leaf-address : (address : ℕ) → leaf_answer ctrl a f ≡ At address
      → (leaf_valid f.word ≡ true) × (address ≡ page_address (leaf_pfn f.word) a.address)
  unfolding IsFault
  leaf-address address e = by-valid (leaf_valid f.word) refl (inv_exc ctrl) refl
    where
      by_value : (none : Bool) (frame value : ℕ) → cond none (At frame) (Fault value) ≡ At address → address ≡ frame
      by_value true frame value q = cc
      by_value false frame value q = absurd (let z : ◌≡◌ {A = ℕ} 0 1 = cc in omega arith)

      by-valid : (v : Bool) → leaf_valid f.word ≡ v → (on : Bool) → inv_exc ctrl ≡ on
          → (leaf_valid f.word ≡ true) × (address ≡ page_address (leaf_pfn f.word) a.address)
      by-valid true t on i =
          (t, by_value (eqb (exception_value ctrl a true (leaf_kernel f.word) (leaf_we f.word)) 0) _ _ (sym (valid-answer t) ∙ e))
      by-valid false t true i = absurd (subst (IsFault (λ value. (4 ≤ value) × (value ≤ 7))) e (aged-on t i))
      by-valid false t false i = absurd (let q = aged-off t i in let z : ◌≡◌ {A = ℕ} 0 1 = cc in omega arith)

-- ---- an access that the tables decide

module _ (m : Machine) (a : Access) (by : by_tables m a ≡ true) where
  by-walk : reader_answer (reader_of m) a ≡ walk_answer (walk_for m a) m.registers.ctrl a
  unfolding by_tables reader_answer reader_of settings_of reader_walk walk_for
  by-walk =
      let on = both (is_set m.registers.enable) (not (in_linear_segment m.registers.kseg a)) by in
      rw (on.0, not-true (in_linear_segment m.registers.kseg a) on.1)

  aged-raises : RaisedIfAged m a (reader_answer (reader_of m) a)
  unfolding RaisedIfAged walk_answer
  aged-raises f leaf aged = rw by-walk (rw leaf (record {
    with-inv-exc = aged-on m.registers.ctrl a f aged;
    without = aged-off m.registers.ctrl a f aged;
  }))

  -- a leaf stands in the tables at its index
  stands : InService m → (f : Found) → walk_for m a ≡ Leaf f → Stands m.words f
  unfolding walk_for
  stands s =
      walk-stands m.words (vpn_of a.address) m.registers.context (omega (arith, s.context-served)) (vpn-lt a.address)
      (fit-roots m.words s.words-fit)

  from-tables : InService m → FromTables m a (reader_answer (reader_of m) a)
  unfolding walk_for walk_answer ToldByFault
  from-tables s = rw by-walk (by_answer (walk_for m a) refl (walk-told m.words m.registers.context (vpn_of a.address)))
    where
      by_answer : (x : Walk) → walk_for m a ≡ x → ToldByFault x → FromTables m a (walk_answer x m.registers.ctrl a)
      by_answer (Leaf f) e told = record {
        absent = λ t q. absurd (let z : ◌≡◌ {A = ℕ} 0 1 = cc in omega arith);
        broken = λ t q. absurd (let z : ◌≡◌ {A = ℕ} 0 1 = cc in omega arith);
        address-of-leaf = λ address q.
            let here = leaf-address m.registers.ctrl a f address q in
            record { found = f; walk_is = e; word-is = sym (stands s f e).is_read; valid = here.0; address_is = here.1 };
      }
      by_answer (Absent t) e told = record {
        absent = λ u q.
            let same : t ≡ u = cc in
            (ap (λ (x : Stop). Fault (walk_fault (Absent x))) same, subst (λ (x : Stop). Tells (walk_fault (Absent x)) 16 x) same told.0);
        broken = λ u q. absurd (let z : ◌≡◌ {A = ℕ} 0 1 = cc in omega arith);
        address-of-leaf = λ address q. absurd (let z : ◌≡◌ {A = ℕ} 0 1 = cc in omega arith);
      }
      by_answer (Broken t) e told = record {
        absent = λ u q. absurd (let z : ◌≡◌ {A = ℕ} 0 1 = cc in omega arith);
        broken = λ u q.
            let same : t ≡ u = cc in
            (ap (λ (x : Stop). Fault (walk_fault (Broken x))) same, subst (λ (x : Stop). Tells (walk_fault (Broken x)) 32 x) same told.0);
        address-of-leaf = λ address q. absurd (let z : ◌≡◌ {A = ℕ} 0 1 = cc in omega arith);
      }

-- ---- where demand 3 holds before and after an access

module _ (s : System) (at : Moment) (e : Event) (before : Holds s at) (h : Handed s.machine e)
    (after : Holds (system_after s e) (After s e)) (given : Machine) (a : Access) (is : e.call ≡ ServedAccess given a)
    (ok : accepted e.call ≡ true) where
  given_is : given ≡ s.machine
  unfolding handed
  given_is = sym (ap (handed s.machine) is) ∙ h.same-machine ok

  answer-is : e.reply.outcome ≡ reader_answer (reader_of given) a
  unfolding IfAccepted AnsweredAsReader AnswerOwed effect_by request_of effect_of reader_of
  answer-is =
      subst (λ (c : Call). AnswerOwed s.reader (effect_by c) e.reply.outcome) is (after.same_answer ok)
      ∙ ap (λ (d : Reader). reader_answer d a) (sym reader-is)
      ∙ ap (λ (m : Machine). reader_answer (reader_of m) a) (sym given_is)
    where
      reader-is : reader_of s.machine ≡ s.reader
      reader-is = λ j. record { words = before.same-words j; settings = before.same-settings j }

  pub no-stale-now : by_tables given a ≡ true → FromTables given a e.reply.outcome
  no-stale-now by =
      subst (FromTables given a) (sym answer-is) (from-tables given a by (subst InService (sym given_is) before.in-service))

  pub aged-raises-now : by_tables given a ≡ true → RaisedIfAged given a e.reply.outcome
  aged-raises-now by = subst (RaisedIfAged given a) (sym answer-is) (aged-raises given a by)

-- what such a lemma says of one access is so after any sequence
after_any : (Says : (given : Machine) (a : Access) (outcome : Outcome) → Type 0)
    → ((s : System) (at : Moment) (e : Event) → Holds s at → Handed s.machine e → Holds (system_after s e) (After s e)
    → (given : Machine) (a : Access) → e.call ≡ ServedAccess given a → accepted e.call ≡ true → by_tables given a ≡ true
    → Says given a e.reply.outcome)
    → AfterAnySequence Says
unfolding AfterAnySequence Demand3 HandedThroughout
after_any Says now lent buffer reply words bf start wf earlier last h =
    let s = begun reply buffer words in
    let holds = demand3 lent buffer reply words bf start wf (earlier ++ (last ∷ [])) h in
    now (system_after_all s earlier) (moment_after_all s Start earlier) last
    (holds-now _ _ (last ∷ []) (holds-from s Start earlier (last ∷ []) holds))
    (handed-from s earlier (last ∷ []) h).0
    (holds_after s Start earlier last [] holds)

pub no-stale-entry : NoStaleEntry
no-stale-entry = after_any FromTables no-stale-now

pub aged-page-raises : AgedPageRaises
aged-page-raises = after_any RaisedIfAged aged-raises-now

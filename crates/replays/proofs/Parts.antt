-- Served accesses are those with an address and the faults. Assumes nothing.
use Prim.Native.Nat.{ℕ, zero, suc, ◌+◌, ◌≤◌}
use mathlib.Core.Path.{◌≡◌, refl, sym, ap, ap₂, ◌∙◌}
use mathlib.Core.Bool.{Bool, true, false, cond, ◌&&◌, true≢false}
use mathlib.Core.List.{List, [], ◌∷◌}
use native.Mathlib.Omega.{arith}
use lib.Dec.{eqb, leb}
use lib.IntN.{ℤ, pos, ◌+ℤ◌, +ℤ_assoc, +ℤ_comm, pos-+ℤ-pos}
use borrow.Author.Tests.{leb-true}
use Rattle.runs.specs.Bits.{bit}
use Rattle.registers.specs.declared.Access.{Access}
use Rattle.registers.specs.declared.Outcome.{Outcome}
use Rattle.registers.specs.declared.Outcome.TheVariants.{At, Fault, Done, Refused}
use Rattle.registers.specs.declared.Reply.{Reply}
use Rattle.page_table.specs.Faults.{fault_kind}
use Rattle.mmu.specs.FaultValues.{IfFault}
use Rattle.sequence.specs.Effects.{Effect}
use Rattle.sequence.specs.Effects.Effect.{Keep, Serve, Rewrite, Set}
use Rattle.sequence.specs.Calls.{Event, accepted, effect_by}
use Rattle.sequence.specs.Systems.{System, system_after}
use Rattle.report.specs.Totals.{Gain, SERVED}
use Rattle.report.specs.Gains.{gain, has_column, fault_column, fault_gains, access_gains, store_gains}
use Rattle.report.specs.Sums.{amount_in}
use Rattle.replays.specs.Service.{OfEach, KindHasColumn, FaultCounted}
use Rattle.replays.specs.Sums.{effect_gains, event_gains, added_by, sum_over, got_address, addresses_over, fault_columns, together}

-- ---- one event

-- its served access is one with an address, or one of the faults
abbrev Parts : (here address : Bool) → List Gain → Type 0
Parts here address gains =
    cond here (amount_in SERVED gains) (pos 0)
    ≡ pos (bit address) +ℤ together (λ column. cond here (amount_in column gains) (pos 0)) fault_columns

-- a kind's column is one of the ten
column-bounds : (kind : ℕ) → has_column kind ≡ true → (2 ≤ fault_column kind) × (fault_column kind ≤ 11)
unfolding has_column fault_column
column-bounds zero h = absurd (true≢false (sym h))
column-bounds (suc n) h = by_tests (leb (suc n) 8) refl (eqb (suc n) 16)
  where
    by_tests : (low : Bool) → leb (suc n) 8 ≡ low → (absent : Bool)
        → (2 ≤ cond low (suc n + 1) (cond absent 10 11)) × (cond low (suc n + 1) (cond absent 10 11) ≤ 11)
    by_tests true e absent = let l = leb-true (suc n) 8 e in (omega arith, omega arith)
    by_tests false e true = (omega arith, omega arith)
    by_tests false e false = (omega arith, omega arith)

one-of-ten : (loads column : ℕ) → 2 ≤ column → column ≤ 11
    → Parts true false (gain 0 (pos 1) ∷ gain 1 (pos loads) ∷ gain column (pos 1) ∷ [])
unfolding amount_in gain fault_columns together
one-of-ten loads zero l h = absurd (omega arith)
one-of-ten loads (suc zero) l h = absurd (omega arith)
one-of-ten loads (suc (suc zero)) l h = refl
one-of-ten loads (suc (suc (suc zero))) l h = refl
one-of-ten loads (suc (suc (suc (suc zero)))) l h = refl
one-of-ten loads (suc (suc (suc (suc (suc zero))))) l h = refl
one-of-ten loads (suc (suc (suc (suc (suc (suc zero)))))) l h = refl
one-of-ten loads (suc (suc (suc (suc (suc (suc (suc zero))))))) l h = refl
one-of-ten loads (suc (suc (suc (suc (suc (suc (suc (suc zero)))))))) l h = refl
one-of-ten loads (suc (suc (suc (suc (suc (suc (suc (suc (suc zero))))))))) l h = refl
one-of-ten loads (suc (suc (suc (suc (suc (suc (suc (suc (suc (suc zero)))))))))) l h = refl
one-of-ten loads (suc (suc (suc (suc (suc (suc (suc (suc (suc (suc (suc zero))))))))))) l h = refl
one-of-ten loads (suc (suc (suc (suc (suc (suc (suc (suc (suc (suc (suc (suc n)))))))))))) l h = absurd (omega arith)

access-parts : (outcome : Outcome) (loads : ℕ) (a : Access) → KindHasColumn outcome
    → Parts true (got_address (Serve a) outcome) (access_gains outcome loads)
unfolding access_gains fault_gains got_address amount_in gain fault_columns together IfFault
access-parts (At address) loads a h = refl
access-parts (Fault value) loads a h =
    let k = column-bounds (fault_kind value) h in rw h (one-of-ten loads (fault_column (fault_kind value)) k.0 k.1)
access-parts (Done value) loads a h = refl
access-parts (Refused number) loads a h = refl

store-parts : (outcome : Outcome) (change : ℤ) → Parts true false (store_gains outcome change)
unfolding store_gains amount_in gain fault_columns together
store-parts (At address) change = refl
store-parts (Fault value) change = refl
store-parts (Done emptied) change = refl
store-parts (Refused number) change = refl

effect-parts : (e : Effect) (before after : List ℕ) (reply : Reply) → KindHasColumn reply.outcome
    → Parts true (got_address e reply.outcome) (effect_gains e before after reply)
unfolding effect_gains got_address amount_in fault_columns together
effect-parts Keep before after reply h = refl
effect-parts (Serve a) before after reply h = access-parts reply.outcome _ a h
effect-parts (Rewrite groups) before after reply h = store-parts reply.outcome _
effect-parts (Set number value) before after reply h = refl

event-parts : (ok here : Bool) (e : Effect) (before after : List ℕ) (reply : Reply)
    → KindHasColumn reply.outcome
    → Parts here (ok && (here && got_address e reply.outcome)) (cond ok (effect_gains e before after reply) [])
unfolding amount_in fault_columns together
event-parts true true e before after reply h = effect-parts e before after reply h
event-parts true false e before after reply h = refl
event-parts false true e before after reply h = refl
event-parts false false e before after reply h = refl

-- ---- all of them

interchange : (a b c d : ℤ) → (a +ℤ b) +ℤ (c +ℤ d) ≡ (a +ℤ c) +ℤ (b +ℤ d)
interchange a b c d =
    +ℤ_assoc a b (c +ℤ d)
    ∙ ap (λ (z : ℤ). a +ℤ z) (sym (+ℤ_assoc b c d) ∙ ap (λ (z : ℤ). z +ℤ d) (+ℤ_comm b c) ∙ +ℤ_assoc c b d)
    ∙ sym (+ℤ_assoc a c (b +ℤ d))

together-add : (f g : ℕ → ℤ) (columns : List ℕ)
    → together (λ column. f column +ℤ g column) columns ≡ together f columns +ℤ together g columns
unfolding together
together-add f g [] = refl
together-add f g (c ∷ cs) =
    ap (λ (z : ℤ). f c +ℤ g c +ℤ z) (together-add f g cs) ∙ interchange (f c) (g c) (together f cs) (together g cs)

none-parts : pos 0 ≡ pos 0 +ℤ together (λ column. pos 0) fault_columns
unfolding together fault_columns
none-parts = refl

pub served-parts : (s : System) (es : List Event) (id : ℕ) → OfEach FaultCounted s es
    → sum_over s es id SERVED ≡ pos (addresses_over s es id) +ℤ together (sum_over s es id) fault_columns
unfolding OfEach FaultCounted sum_over addresses_over added_by event_gains
served-parts s [] id h = none-parts
served-parts s (e ∷ es) id h =
    let now = bit (accepted e.call && (eqb s.reader.settings.context id && got_address (effect_by e.call) e.reply.outcome)) in
    let later = addresses_over (system_after s e) es id in
    let faults = together (added_by s e id) fault_columns in
    ap₂ ◌+ℤ◌
    (event-parts (accepted e.call) (eqb s.reader.settings.context id) (effect_by e.call) s.reader.words
    (system_after s e).reader.words e.reply h.0)
    (served-parts (system_after s e) es id h.1)
    ∙ interchange (pos now) faults (pos later) (together (sum_over (system_after s e) es id) fault_columns)
    ∙ ap₂ ◌+ℤ◌ (pos-+ℤ-pos now later) (sym (together-add (added_by s e id) (sum_over (system_after s e) es id) fault_columns))

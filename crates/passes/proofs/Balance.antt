-- Histories with passes: the balance, no frame live twice, bits past the size, and one for every list of requests. Assumes nothing.
use Prim.Native.Nat.{ℕ}
use mathlib.Core.Path.{◌≡◌, refl, sym, ap, ap₂, ◌∙◌, subst}
use mathlib.Core.Logic.{⊎_elim}
use mathlib.Core.List.{List, [], ◌∷◌}
use native.Mathlib.Omega.{arith}
use lib.ListN.{length}
use Rattle.registers.proofs.RefusalLaws.{by_number}
use Rattle.slots.specs.Buffer.{Buffer}
use Rattle.store.specs.Machine.{Machine}
use Rattle.heap.specs.Histories.{if_done}
use Rattle.heap.specs.declared.Pool.{Pool}
use Rattle.heap.proofs.Marks.{Sound}
use Rattle.heap.proofs.Accounts as accounts
use Rattle.heap.proofs.Accounts.{Account, nothing}
use Rattle.heap.proofs.Sequences.{balance-of, never-twice-live-of, past-stays-of, every-history-of}
use Rattle.heap.proofs.Histories as histories
use Rattle.collector.specs.Visits.{pass_leaves}
use Rattle.collector.specs.Frames.{given_of}
use Rattle.collector.specs.Collect.{collect_refusal, refused_collect, collect_answer, CollectGives}
use Rattle.collector.specs.declared.Collected.{Collected}
use Rattle.collector.proofs.CollectLaws.{collect-gives}
use Rattle.passes.specs.Histories.{Event, Kept, pool_left, taken_by, given_by, calls_with_passes, BalanceWithPasses, NeverTwiceLive}
use Rattle.passes.specs.Histories.{PastStays, Request, event_of, EveryHistory}
use Rattle.passes.specs.Histories.Event.{OfPool, OfPass}
use Rattle.passes.specs.Histories.Request.{ToPool, ToPass}
use Rattle.passes.proofs.Repeated.{pass-account}

-- what a pass owes: an accepted one gives back its frames, a refused one nothing
pass-owes : (p : Pool) → Sound p → (m : Machine) (id : ℕ) (answer : Collected) (buffer-after : Buffer) (words-after : List ℕ)
    → CollectGives m p id answer buffer-after words-after
    → Account p answer.pool []
    (if_done answer.reply.outcome (given_of (pass_leaves m.words answer.pool.first answer.pool.size id)))
unfolding collect_answer if_done
pass-owes p sound m id answer buffer-after words-after made =
    ⊎_elim
    (λ accepted.
    let a = pass-account m p id answer buffer-after words-after sound.all_words (record { made = made; accepted = accepted.0 }) in
    subst (Account p answer.pool [])
    (sym (ap (λ (x : Collected). if_done x.reply.outcome (given_of
    (pass_leaves m.words answer.pool.first answer.pool.size id))) accepted.1
    ∙ ap₂ (λ (x y : ℕ). given_of (pass_leaves m.words x y id)) a.first-same a.size_same)) a)
    (λ (refused : answer ≡ refused_collect m.registers (collect_refusal m p id) p).
    subst (λ (x : Collected). Account p x.pool []
    (if_done x.reply.outcome (given_of (pass_leaves m.words x.pool.first x.pool.size id)))) (sym refused) (nothing p sound))
    (by_number (collect_refusal m p id) _ (refused_collect m.registers (collect_refusal m p id) p) answer made.answer-is)

account-of : (p : Pool) → Sound p → (e : Event) → Kept p e → Account p (pool_left e) (taken_by e) (given_by e)
unfolding Kept pool_left taken_by given_by
account-of p sound (OfPool e) kept = accounts.account-of p sound e kept
account-of p sound (OfPass m id answer buffer-after words-after) kept = pass-owes p sound m id answer buffer-after words-after kept

-- a pass takes no frame
taker-gives-none : (e : Event) (pfn : ℕ) → taken_by e ≡ pfn ∷ [] → given_by e ≡ []
unfolding taken_by given_by
taker-gives-none (OfPool e) pfn q = accounts.taker-gives-none e pfn q
taker-gives-none (OfPass m id answer buffer-after words-after) pfn q = let z : ◌≡◌ {A = ℕ} 0 1 = ap length q in absurd (omega arith)

each-kept : (p : Pool) (q : Request) → Kept p (event_of p q)
unfolding Kept event_of
each-kept p (ToPool r) = histories.each-kept p r
each-kept p (ToPass m id) = collect-gives m p id _ _ _ refl refl refl

pub balance-with-passes : BalanceWithPasses
unfolding BalanceWithPasses
balance-with-passes = balance-of calls_with_passes account-of

pub never-twice-live : NeverTwiceLive
unfolding NeverTwiceLive
never-twice-live = never-twice-live-of calls_with_passes account-of taker-gives-none

pub past-stays : PastStays
unfolding PastStays
past-stays = past-stays-of calls_with_passes account-of

pub every-history : EveryHistory
unfolding EveryHistory
every-history = every-history-of calls_with_passes Request event_of each-kept

-- Takes, gives and maps: the balance, no frame live twice, and a history for every list of requests. Assumes nothing.
use mathlib.Core.Path.{refl}
use Rattle.heap.specs.Take.{take_reply}
use Rattle.heap.specs.Give.{give_reply}
use Rattle.heap.specs.Histories.{Kept, own_calls, Request, event_of, EveryHistory}
use Rattle.heap.specs.Histories.Request.{ToTake, ToGive, ToMap}
use Rattle.heap.specs.Balance.{Balance, NeverTwiceLive}
use Rattle.heap.specs.PastTheSize.{PastStays}
use Rattle.heap.specs.declared.Pool.{Pool}
use Rattle.heap.proofs.CallLaws.{take_gives, give-gives}
use Rattle.heap.proofs.MapLaws.{map_gives}
use Rattle.heap.proofs.Accounts.{account-of, taker-gives-none}
use Rattle.heap.proofs.Sequences.{balance-of, never-twice-live-of, past-stays-of, every-history-of}

pub balance : Balance
unfolding Balance
balance = balance-of own_calls account-of

pub never-twice-live : NeverTwiceLive
unfolding NeverTwiceLive
never-twice-live = never-twice-live-of own_calls account-of taker-gives-none

pub past-stays : PastStays
unfolding PastStays
past-stays = past-stays-of own_calls account-of

pub each-kept : (p : Pool) (q : Request) → Kept p (event_of p q)
unfolding Kept event_of
each-kept p ToTake = take_gives p (take_reply p) refl
each-kept p (ToGive pfn) = give-gives p pfn (give_reply p pfn) refl
each-kept p (ToMap m index leaf) = map_gives m p index leaf _ _ _ refl refl refl

pub every-history : EveryHistory
unfolding EveryHistory
every-history = every-history-of own_calls Request event_of each-kept

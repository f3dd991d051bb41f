-- `store::settle` meets its contract. Assumes nothing.
use Rattle.store.proofs.KeptLaws.{stays, empties}
use Rattle.store.proofs.settle.Goals as goal

pub returns-then-keep : goal.returns-then-keep
returns-then-keep c = let all = stays _ _ _ c.if-keep.true in record { number = all.0; buffer = all.1 }

pub returns : goal.returns
returns c = let all = let first = c.if-keep.false in
    let empty = c.empty_entry-empty.ensures in
    let stored = c.put_slot.ensures in
    empties _ _ _ first _ _ empty stored in record { number = all.0; buffer = all.1 }

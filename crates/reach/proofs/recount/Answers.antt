use mathlib.Core.Path.{refl}
use native.Mathlib.Omega.{arith}
use Rattle.reach.proofs.PresentLaws.{store-inside, store-fits, store-recounts}
use Rattle.reach.proofs.recount.Goals as goal

pub bounds-presents-table : goal.bounds-presents-table
bounds-presents-table c = store-inside _ _ _ _ _ _ _ c.requires.0 c.requires.1 c.requires.2 refl c.is_present-more.ensures c.is_present-fewer.ensures

pub overflow_add-presents : goal.overflow_add-presents
overflow_add-presents c = let f = store-fits _ _ _ _ _ _ _ c.requires.0 c.requires.1 c.requires.2 refl c.is_present-more.ensures c.is_present-fewer.ensures in omega (arith, f.0)

pub overflow_sub-presents : goal.overflow_sub-presents
overflow_sub-presents c = (store-fits _ _ _ _ _ _ _ c.requires.0 c.requires.1 c.requires.2 refl c.is_present-more.ensures
    c.is_present-fewer.ensures).1

pub bounds-presents-table-2 : goal.bounds-presents-table-2
bounds-presents-table-2 c = store-inside _ _ _ _ _ _ _ c.requires.0 c.requires.1 c.requires.2 refl c.is_present-more.ensures c.is_present-fewer.ensures

pub returns : goal.returns
returns c = store-recounts _ _ _ _ _ _ _ c.requires.0 c.requires.1 c.requires.2 refl c.is_present-more.ensures
    c.is_present-fewer.ensures

use Rattle.trees.proofs.TreeLaws.{apart-broken, apart-twice, apart-over, apart-met}
use Rattle.trees.proofs.Directory.stands_apart.Goals as goal

pub returns-then-has_broken : goal.returns-then-has_broken
returns-then-has_broken c = apart-broken _ _ _ _ c.has_broken.ensures c.if-has_broken.true

pub returns-then-names_twice : goal.returns-then-names_twice
returns-then-names_twice c = apart-twice _ _ _ _ c.has_broken.ensures c.if-has_broken.false _
    c.names_twice.ensures c.if-names_twice.true

pub returns-then-overlaps : goal.returns-then-overlaps
returns-then-overlaps c = apart-over _ _ _ _ c.has_broken.ensures c.if-has_broken.false
    _ c.names_twice.ensures c.if-names_twice.false _ c.overlaps.ensures c.if-overlaps.true

pub returns : goal.returns
returns c = apart-met _ _ _ _ c.has_broken.ensures
    c.if-has_broken.false _ c.names_twice.ensures
    c.if-names_twice.false _ c.overlaps.ensures c.if-overlaps.false _ c.is_met.ensures

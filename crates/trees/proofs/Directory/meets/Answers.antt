use Rattle.trees.proofs.TreeLaws.{meets-same, meets-own, meets-other, meets-tables}
use Rattle.trees.proofs.Directory.meets.Goals as goal

pub returns-then-self-other : goal.returns-then-self-other
returns-then-self-other c = meets-same _ _ _ c.if-self-other.true

pub returns-then-names_table : goal.returns-then-names_table
returns-then-names_table c = meets-own _ _ _ c.if-self-other.false _ c.names_table.ensures c.if-names_table.true

pub returns-then-names_table-2 : goal.returns-then-names_table-2
returns-then-names_table-2 c = meets-other _ _ _ c.if-self-other.false _ c.names_table.ensures
    c.if-names_table.false _ c.names_table-2.ensures c.if-names_table-2.true

pub returns : goal.returns
returns c = meets-tables _ _ _ c.if-self-other.false _
    c.names_table.ensures c.if-names_table.false _
    c.names_table-2.ensures c.if-names_table-2.false _ c.shares_table.ensures

-- The descent ends because the levels fall.
use Rattle.page_table.proofs.+descend.Given as goal

abbrev pub decreases-descend : goal.decreases-descend
decreases-descend g l = l.end.now.levels

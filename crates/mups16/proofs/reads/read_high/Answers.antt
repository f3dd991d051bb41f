use Rattle.mups16.proofs.ReadLaws.{high-refused, high-done}
use Rattle.mups16.proofs.reads.read_high.Goals as goal

pub returns : goal.returns
returns c = let run = c.in_ok-entries.ensures.1 in
    high-done _ _ run.long _ run.same _ _ c.place_of.ensures c.entry_at-e.ensures _ _ c.index_of-index.ensures

pub returns-in_err-entries : goal.returns-in_err-entries
returns-in_err-entries c = high-refused _ _ _ c.in_err-entries.ensures.1 _ c.from_residual.ensures.1

use Rattle.reporting.proofs.ReportLaws.{opened, not_opened}
use Rattle.reporting.proofs.lines.put_lines.Goals as goal

pub returns-in-Some-clause-lines : goal.returns-in-Some-clause-lines
returns-in-Some-clause-lines g c = opened _ _ _ _ _ c.put_open.ensures.lines

pub returns-in-None-clause-lines : goal.returns-in-None-clause-lines
returns-in-None-clause-lines g c = not_opened _ _ _ _ _ _ _ c.unopened.ensures c.put_unread-n.ensures.text

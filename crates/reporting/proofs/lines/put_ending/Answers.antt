use Rattle.reporting.specs.Endings.{ending_text}
use Rattle.reporting.proofs.EndingLaws.{lines_of}
use Rattle.reporting.proofs.lines.put_ending.Goals as goal

pub returns-in-Unread-clause-text : goal.returns-in-Unread-clause-text
unfolding ending_text
returns-in-Unread-clause-text c = lines_of _ _ _ _ _ _ _ c.in-Unread.is c.put_unread.ensures.text

pub returns-in-Refused-clause-text : goal.returns-in-Refused-clause-text
unfolding ending_text
returns-in-Refused-clause-text c = lines_of _ _ _ _ _ _ _ c.in-Refused.is c.put_refused.ensures.text

pub returns-in-Whole-clause-text : goal.returns-in-Whole-clause-text
unfolding ending_text
returns-in-Whole-clause-text c = lines_of _ _ _ _ _ _ _ c.in-Whole.is c.put_report.ensures.text

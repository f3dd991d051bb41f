use mathlib.Core.Path.{ap}
use Rattle.line.specs.Text.{ascii}
use Rattle.line.specs.Lines.{word_of}
use Rattle.line.proofs.LineLaws.{word-put}
use Rattle.line.proofs.put_word.Goals as goal

pub returns-in-At-clause-word : goal.returns-in-At-clause-word
unfolding word_of ascii
returns-in-At-clause-word c = word-put _ _ _ _ _ _ (ap word_of c.in-At.is) c.put.ensures.grows

pub returns-in-Fault-clause-word : goal.returns-in-Fault-clause-word
unfolding word_of ascii
returns-in-Fault-clause-word c = word-put _ _ _ _ _ _ (ap word_of c.in-Fault.is) c.put-in-Fault.ensures.grows

pub returns-in-Done-clause-word : goal.returns-in-Done-clause-word
unfolding word_of ascii
returns-in-Done-clause-word c = word-put _ _ _ _ _ _ (ap word_of c.in-Done.is) c.put-in-Done.ensures.grows

pub returns-in-Refused-clause-word : goal.returns-in-Refused-clause-word
unfolding word_of ascii
returns-in-Refused-clause-word c = word-put _ _ _ _ _ _ (ap word_of c.in-Refused.is) c.put-in-Refused.ensures.grows

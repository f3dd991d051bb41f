use mathlib.Core.Path.{sym, ap}
use Rattle.line.specs.Lines.{value_of}
use Rattle.line.proofs.value_of.Goals as goal

pub returns-in-At : goal.returns-in-At
unfolding value_of
returns-in-At c = sym (ap value_of c.in-At.is)

pub returns-in-Fault : goal.returns-in-Fault
unfolding value_of
returns-in-Fault c = sym (ap value_of c.in-Fault.is)

pub returns-in-Done : goal.returns-in-Done
unfolding value_of
returns-in-Done c = sym (ap value_of c.in-Done.is)

pub returns-in-Refused : goal.returns-in-Refused
unfolding value_of
returns-in-Refused c = sym (ap value_of c.in-Refused.is)

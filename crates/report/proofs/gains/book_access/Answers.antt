use Rattle.report.proofs.GainLaws.{access-at, access-fault, access-done, access-refused}
use Rattle.report.proofs.gains.book_access.Goals as goal

pub returns-in-At : goal.returns-in-At
returns-in-At c = access-at _ _ _ _ _ _ _ c.in-At.is c.book_served.ensures

pub returns-in-Fault : goal.returns-in-Fault
returns-in-Fault c = access-fault _ _ _ _ _ _ _ c.in-Fault.is c.book_fault.ensures

pub returns-in-Done : goal.returns-in-Done
returns-in-Done c = access-done _ _ _ _ _ c.in-Done.is c.requires.1

pub returns-in-Refused : goal.returns-in-Refused
returns-in-Refused c = access-refused _ _ _ _ _ c.in-Refused.is c.requires.1

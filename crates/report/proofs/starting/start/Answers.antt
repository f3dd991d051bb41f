use Rattle.report.proofs.StartLaws.{starts}
use Rattle.report.proofs.starting.start.Goals as goal

pub returns : goal.returns
returns c = starts _ _ _ _ _ _ _ _ _ _ _ c.requires.0 c.start-reply.ensures c.requires.1 c.requires.2 c.requires.3 c.requires.4 (c.fill.ensures.after (λ y e. e)) (c.fill-2.ensures.after (λ y e. e)) (c.fill-3.ensures.after (λ y e. e)) (c.fill-4.ensures.after (λ y e. e))

use Rattle.std.proofs.Common.{ap, ◌∙◌}
use Rattle.registers.specs.Replies.{refused}
use Rattle.registers.specs.declared.Reply.{Reply}
use Rattle.collector.proofs.refused_collect.Goals as goal

pub returns : goal.returns
returns c =
    ap (λ (s : Reply). record { reply = s; given = 0; pool = c.args.pool }) (c.refused-reply.ensures ∙ ap (refused c.args.r) c.from.ensures)

use mathlib.Core.Path.{ap, ◌∙◌}
use Rattle.registers.specs.Replies.{refused}
use Rattle.registers.specs.declared.Reply.{Reply}
use Rattle.heap.proofs.maps.refused_map.Goals as goal

pub returns : goal.returns
returns c = ap (λ (s : Reply). record { reply = s; pfn = 0; pool = c.args.pool }) (c.refused-reply.ensures ∙ ap (refused _) c.from.ensures)

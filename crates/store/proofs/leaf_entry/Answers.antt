use mathlib.Core.Path.{ap, ◌∙◌}
use Rattle.entry.specs.Entry.{pack}
use Rattle.store.proofs.KeptLaws.{leaf_fields}
use Rattle.store.proofs.leaf_entry.Goals as goal

pub returns : goal.returns
returns c = c.pack.ensures ∙ ap pack (leaf_fields _ _ _)

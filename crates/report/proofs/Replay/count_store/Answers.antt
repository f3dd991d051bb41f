use mathlib.Core.Path.{refl}
use native.Mathlib.Omega.{arith}
use Rattle.report.proofs.StepLaws.{store-indexed, store-counts, store_nothing, word_found}
use Rattle.report.proofs.Replay.count_store.Goals as goal

pub returns-in_default : goal.returns-in_default
returns-in_default c = record {
  runs = c.step-reply.ensures.runs;
  counted = store_nothing c.args.self.now _ _ _ c.step-reply.new.self c.step-reply.ensures.stepped c.requires c.in_default.not-Done;
}

pub stored-requires : goal.stored-requires
stored-requires c = store-indexed c.args.self.now _ _ _ c.step-reply.new.self c.step-reply.ensures.stepped c.requires _ c.in-Done.is _
    (word_found _ _ _ _ _ c.get.ensures.lookup c.copied.ensures c.unwrap_or-old.ensures)

pub leaf_count-after-requires : goal.leaf_count-after-requires
leaf_count-after-requires c = (
  (store-indexed c.args.self.now _ _ _ c.step-reply.new.self c.step-reply.ensures.stepped c.requires _ c.in-Done.is _
      (word_found _ _ _ _ _ c.get.ensures.lookup c.copied.ensures c.unwrap_or-old.ensures)).0,
  c.stored.ensures,
)

pub returns-clause-counted : goal.returns-clause-counted
returns-clause-counted c = store-counts c.args.self.now _ _ _ c.step-reply.new.self c.step-reply.ensures.stepped c.requires _ c.in-Done.is
    _ _ _ _ refl c.stored.ensures (omega arith) c.leaf_count-before.ensures c.leaf_count-after.ensures c.book_store.ensures

use Rattle.std.proofs.Common.{refl, rules, tests, ◌∙◌}
use Rattle.std.proofs.lemmas.Iterator.{YieldsList-from_range}
use Rattle.std.proofs.lemmas.Iterator.Search.{any_from_yields_List}
use Rattle.reach.proofs.Searches.{any_numbers}
use Rattle.trees.specs.Trees.{meets_root, met}
use Rattle.trees.proofs.Directory.is_met.Goals as goal

pub returns : goal.returns
unfolding met
returns c =
    any_from_yields_List (meets_root c.args.self.words.now c.args.id c.args.self.number) _ _ _ c.any.ensures.ran (YieldsList-from_range 0 _ _ refl refl)
    (λ x b q k. search (rules, tests))
    ∙ any_numbers (meets_root c.args.self.words.now c.args.id c.args.self.number) _

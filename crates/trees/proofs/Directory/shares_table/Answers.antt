use Rattle.std.proofs.Common.{rules, tests, ◌∙◌}
use Rattle.std.proofs.lemmas.Iterator.{YieldsList-from_slice}
use Rattle.std.proofs.lemmas.Iterator.Search.{any_from_yields_List}
use Rattle.page_table.specs.Stretches.{stretch, directory_word}
use Rattle.reach.proofs.Searches.{any_directory}
use Rattle.trees.specs.Trees.{also_named, shares_table}
use Rattle.trees.proofs.Directory.shares_table.Goals as goal

pub returns : goal.returns
unfolding shares_table directory_word
returns c =
    any_from_yields_List (λ w. also_named c.args.self.words.now w c.args.self.number 512) _ _ _ c.any.ensures.ran
    (YieldsList-from_slice (stretch c.args.self.words.now 512 c.args.other) cc)
    (λ x b q k. search (rules, tests))
    ∙ any_directory (λ w. also_named c.args.self.words.now w c.args.self.number 512) _ _ c.requires

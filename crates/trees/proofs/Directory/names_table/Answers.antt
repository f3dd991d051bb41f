use Rattle.std.proofs.Common.{length, take, ap, rules, tests, arith, ◌∙◌}
use Rattle.std.proofs.lemmas.List.{length-take}
use Rattle.std.proofs.lemmas.Iterator.{YieldsList-from_slice}
use Rattle.std.proofs.lemmas.Iterator.Search.{any_from_yields_List}
use Rattle.page_table.specs.Stretches.{stretch, directory_word}
use Rattle.reach.specs.Reach.{leads_to}
use Rattle.reach.proofs.Searches.{directory-long, any_first}
use Rattle.trees.specs.Trees.{names_table}
use Rattle.trees.proofs.Directory.names_table.Goals as goal

pub slice_bounds-iter-end : goal.slice_bounds-iter-end
slice_bounds-iter-end c =
    let long = ap length c.own.ensures ∙ directory-long _ _ c.args.self.inside in
    simp length-take (omega (arith, long))

pub returns : goal.returns
unfolding names_table directory_word
returns c =
    any_from_yields_List (λ w. leads_to (length c.args.self.words.now) 0 w c.args.table) _ _ _ c.any.ensures.ran
    (YieldsList-from_slice (take c.args.n (stretch c.args.self.words.now 512 c.args.self.number)) cc)
    (λ x b q k. search (rules, tests))
    ∙ any_first (λ w. leads_to (length c.args.self.words.now) 0 w c.args.table) _ _ _ c.args.self.inside c.requires

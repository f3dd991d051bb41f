use Rattle.std.proofs.Common.{◌≤◌, length, refl, rules, tests, arith, ◌∙◌}
use Rattle.std.proofs.lemmas.Iterator.{YieldsList-from_range, serves_from_Range}
use Rattle.std.proofs.lemmas.Iterator.Search.{any_from_yields_List}
use Rattle.page_table.proofs.Stretches.{fit-roots}
use Rattle.reach.proofs.RootLaws.{beside_at, beside-any}
use Rattle.reach.proofs.Searches.{any_numbers}
use Rattle.reach.proofs.links.reached_beside.Goals as goal

pub any-requires-clause-callable : goal.any-requires-clause-callable
any-requires-clause-callable c =
    let l : 64 ≤ length c.args.words.now = omega (arith, fit-roots _ c.requires) in
    serves_from_Range (λ x q k. search rules) (λ x a b. search rules)

pub returns : goal.returns
unfolding beside_at
returns c =
    any_from_yields_List (beside_at c.args.words.now c.args.root c.args.directory) _ _ _ c.any.ensures.ran (YieldsList-from_range 0 _ _ refl refl)
    (λ x b q k. search (rules, tests))
    ∙ any_numbers (beside_at c.args.words.now c.args.root c.args.directory) _
    ∙ beside-any _ _ _

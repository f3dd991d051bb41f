use Rattle.std.proofs.Common.{ℕ, List, ◌≡◌, ◌+◌, ◌*◌, length, get_or, refl, ap, rules, tests, ◌∙◌}
use Rattle.std.proofs.lemmas.Iterator.{YieldsList-from_range, serves_from_Range}
use Rattle.std.proofs.lemmas.Iterator.Search.{any_from_yields_List}
use Rattle.runs.proofs.Counts.{any_same}
use Rattle.page_table.specs.Stretches.{directory_word}
use Rattle.reach.proofs.Searches.{any_numbers, directory-long, directory-at}
use Rattle.trees.specs.Trees.{also_named, names_twice}
use Rattle.trees.proofs.Directory.names_twice.Goals as goal

pub any-requires-clause-callable : goal.any-requires-clause-callable
any-requires-clause-callable c =
    let long : length c.own-own.result.now ≡ 512 = ap length c.own-own.ensures ∙ directory-long _ _ c.args.self.inside in
    serves_from_Range (λ x q k. search rules) (λ x a b. search rules)

pub returns : goal.returns
unfolding names_twice directory_word
returns c =
    let words = c.args.self.words.now in
    let own = c.own-own.result.now in
    let d = c.args.self.number in
    any_from_yields_List (λ j. also_named words (get_or own j 0) d j) _ _ _ c.any.ensures.ran
    (YieldsList-from_range 0 512 512 refl refl)
    (λ x b q k. search (rules, tests))
    ∙ any_numbers (λ j. also_named words (get_or own j 0) d j) 512
    ∙ any_same (λ j. also_named words (get_or own j 0) d j) (λ j. also_named words (get_or words (512 * d + j) 0) d j) 512
    (λ j l. ap (λ (w : ℕ). also_named words w d j)
    (ap (λ (xs : List ℕ). get_or xs j 0) c.own-own.ensures ∙ directory-at words d j l))

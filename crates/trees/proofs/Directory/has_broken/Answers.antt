use Rattle.std.proofs.Common.{◌+◌, ◌*◌, not, ◌&&◌, length, get_or, refl, rules, tests, ◌∙◌}
use Rattle.std.proofs.lemmas.Iterator.{YieldsList-from_slice}
use Rattle.std.proofs.lemmas.Iterator.Search.{any_from_yields_List}
use Rattle.runs.proofs.Counts.{any_same}
use Rattle.page_table.specs.Words.{present}
use Rattle.page_table.specs.Reads.{leads_on}
use Rattle.page_table.specs.Stretches.{stretch, stretch_size, broken, directory_word}
use Rattle.reach.proofs.Searches.{any_directory}
use Rattle.trees.specs.Trees.{has_broken}
use Rattle.trees.proofs.TreeLaws.{broken-at}
use Rattle.trees.proofs.Directory.has_broken.Goals as goal

pub returns : goal.returns
unfolding has_broken directory_word
returns c =
    let words = c.args.self.words.now in
    let d = c.args.self.number in
    any_from_yields_List (λ w. present w && not (leads_on (length words) 0 w)) _ _ _ c.any.ensures.ran
    (YieldsList-from_slice (stretch words 512 d) cc)
    (λ x b q k. search (rules, tests))
    ∙ any_directory (λ w. present w && not (leads_on (length words) 0 w)) _ _ c.args.self.inside
    ∙ any_same (λ j. present (get_or words (512 * d + j) 0) && not (leads_on (length words) 0 (get_or words (512 * d + j) 0)))
    (λ j. present (get_or words (512 * d + j) 0) && broken (length words) (stretch_size 0) (get_or words (512 * d + j) 0)) 512
    (λ j l. broken-at _ 0 _ _ _ refl refl)

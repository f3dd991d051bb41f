-- Where the walk of a tree ends: the word that decides, and what it says.
use Rattle.std.specs.Prelude.{ℕ, zero, suc, Bool, cond, List, length, get_or}
use Rattle.page_table.specs.Words.{present}
use Rattle.page_table.specs.Walk.{stop_at, index_below}
use Rattle.page_table.specs.Reads.{leads_on}
use Rattle.page_table.specs.declared.End.{End}
use Rattle.page_table.specs.declared.Walk.{Walk}
use Rattle.page_table.specs.declared.Walk.TheVariants.{Leaf, Absent, Broken}

-- an end: so many levels are below the word w that decides, and it stands at an index
unfoldable pub end_at : (levels w at : ℕ) → End
end_at levels w at = record { levels = levels; word = w; index = at }

-- where a walk ends, and the word that it reads there: a word that leads on hands the walk to the word below it
unfoldable pub end_read : (words : List ℕ) (vpn levels at : ℕ) → End
end_read words vpn zero at = end_at 0 (get_or words at 0) at
end_read words vpn (suc n) at =
    cond (leads_on (length words) n (get_or words at 0))
    (end_read words vpn n (index_below vpn n (get_or words at 0)))
    (end_at (suc n) (get_or words at 0) at)

-- what a word w at an index says that does not lead on: absent, or the leaf where no level is below, else broken
unfoldable pub decided : (global : Bool) (levels w at : ℕ) → Walk
decided global zero w at = cond (present w) (Leaf (record { global = global; word = w; index = at })) (Absent (stop_at global 0))
decided global (suc n) w at = cond (present w) (Broken (stop_at global (suc n))) (Absent (stop_at global (suc n)))

-- the answer of a walk that ended so: what the word says that it read there
unfoldable pub ending : (global : Bool) (end : End) → Walk
ending global end = decided global end.levels end.word end.index

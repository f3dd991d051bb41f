-- An example: what a definition computes, and what it is to give. A list of examples: all that it computes, and all that it is to give.
use Rattle.std.specs.Prelude.{List, [], ◌∷◌}

infix 20 ◌gives◌
pub data Example : Type 1 where
  ◌gives◌ : {A : Type 0} (computed owed : A) → Example

-- one value for each example
unfoldable pub Values : List Example → Type 0
Values [] = Unit {0}
Values (◌gives◌ {A} computed owed ∷ rest) = A × Values rest

unfoldable pub all_computed : (examples : List Example) → Values examples
unfolding Values
all_computed [] = tt
all_computed (◌gives◌ computed owed ∷ rest) = (computed, all_computed rest)

unfoldable pub all_owed : (examples : List Example) → Values examples
unfolding Values
all_owed [] = tt
all_owed (◌gives◌ computed owed ∷ rest) = (owed, all_owed rest)

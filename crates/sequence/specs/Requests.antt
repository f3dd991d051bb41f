-- A request is a call's own arguments: an effect where it is accepted, a number of the table where they are refused.
use Rattle.std.specs.Prelude.{ℕ, List, [], ◌∷◌}
use Rattle.registers.specs.Refusals.{refuse_unless, draw_fits}
use Rattle.registers.specs.declared.Access.{Access}
use Rattle.store.specs.Rewrite.{Put}
use Rattle.store.specs.TableStore.{index_fits}
use Rattle.control.specs.Setting.{argument_refusal}
use Rattle.sequence.specs.Effects.{Effect}
use Rattle.sequence.specs.Effects.Effect.{Serve, Rewrite, Set}

pub data Request : Type 0 where
  ToAccess : (a : Access) → Request
  ToStore : (p : Put) → Request
  ToSet : (number value : ℕ) → Request

-- a store writes one table word, then sweeps: one group of one word
unfoldable pub effect_of : Request → Effect
effect_of (ToAccess a) = Serve a
effect_of (ToStore p) = Rewrite ((p ∷ []) ∷ [])
effect_of (ToSet number value) = Set number value

-- the number that a request is refused with for its own arguments, over a run of table words
unfoldable pub own_refusal : (words : List ℕ) → Request → ℕ
own_refusal words (ToAccess a) = refuse_unless (draw_fits a.draw) 4 0
own_refusal words (ToStore p) = refuse_unless (index_fits words p.index) 6 0
own_refusal words (ToSet number value) = argument_refusal number value

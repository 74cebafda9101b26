-- Two calls `set` of a bit set in an order of the acts of all threads' calls (`ActedInOrder`).
use Rattle.std.specs.Prelude.{ℕ, Bool}
use Rattle.model.specs.declared.event.Answer.TheVariants.{Truth}
use Rattle.model.specs.declared.event.Start.TheVariants.{Bits}
use Rattle.model.specs.declared.families.bits.BitsStart.TheVariants.{Set}
use Rattle.model.specs.declared.turn.Kind.TheVariants as kinds
use Rattle.model.specs.Linearizable.{Precedes}
use Rattle.history.specs.declared.view.View.{View}
use Rattle.history_bits.specs.Acts.{ActsByPlace}
use Rattle.history.specs.Order.{StandsIn}

-- The acts have an order in which all answers are right. Both calls stand in the history, with these answers, and the
-- first ended before the second began.
pub record ActedInOrder (capacity first second : ℕ) (one two : Bool) (old new : View ℕ) : Type 0 where
  -- the acts have an order in which all answers are right
  pub acts : ActsByPlace kinds.Bits capacity new.seen
  -- the parties of the two calls
  pub by : ℕ
  pub then_by : ℕ
  -- what was seen when the first call had ended
  pub between : View ℕ
  -- both calls stand in the history with these answers: the first before what `between` has
  -- seen, the second after it
  pub first_call : StandsIn by (Bits (Set first)) (Truth one) old between new.seen
  pub second_call : StandsIn then_by (Bits (Set second)) (Truth two) between new new.seen
  -- the first ended before the second began
  pub order : Precedes first_call.call second_call.call

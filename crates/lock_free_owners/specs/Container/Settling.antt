-- The load with which the call of a pass that rests ends.
use Rattle.model.specs.declared.turn.Kind.TheVariants as kinds
use Rattle.model.specs.Coding.{Coding}
use Rattle.history.specs.declared.view.View.{View}
use Rattle.history_owners.specs.Settled.{SettledFrom}
use Rattle.lock_free_owners.specs.Container.Bare.{IsCounted}

-- if the last call of the pass rested, it has ended (`from`); then one further operation may be counted
pub record HasSettled {T : Type 0} (code : Coding T) (old new : View T) : Type 0 where
  pub from : View T
  pub settled : SettledFrom code kinds.Container old from
  pub counted : IsCounted from new

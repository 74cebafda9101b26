-- What a call of the single value writes between its begin and its end.
use Rattle.std.specs.Prelude.{List, [], ◌∷◌}
use Rattle.model.specs.declared.event.Start.{Start}
use Rattle.model.specs.declared.event.Start.TheVariants.{Atomic}
use Rattle.model.specs.declared.event.Answer.{Answer}
use Rattle.model.specs.declared.families.atomic.AtomicStart.{AtomicStart}
use Rattle.model.specs.declared.families.atomic.AtomicStart.TheVariants.{Store, Load}

module _ {T : Type 0} where
  -- the moments of a call that finished with this answer: stores and loads have one
  abbrev pub moments_of : AtomicStart T → Answer T → List (Start T × Answer T)
  moments_of (Store value) answer = (Atomic (Store value), answer) ∷ []
  moments_of Load answer = (Atomic Load, answer) ∷ []
  moments_of other answer = []

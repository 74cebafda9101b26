-- One value, as which the calls answer.
use Rattle.model.specs.declared.event.Start.{Start}
use Rattle.model.specs.declared.event.Start.TheVariants.{Atomic}
use Rattle.model.specs.declared.event.Answer.{Answer}
use Rattle.model.specs.declared.event.Answer.TheVariants as answers
use Rattle.model.specs.declared.families.atomic.AtomicStart.TheVariants.{Store, Load}
use Rattle.model.specs.Objects.{Object}
use Rattle.std.specs.Prelude.{true}

module _ {T : Type 0} where
  -- the value that was stored last, after a call
  abbrev pub value_after : T → Start T → T
  value_after value (Atomic (Store new)) = new
  value_after value other = value

  -- what a call answers where this value was stored last
  abbrev pub value_answer : T → Start T → Answer T
  value_answer value (Atomic (Store new)) = answers.Truth true
  value_answer value (Atomic Load) = answers.Loaded value
  value_answer value other = answers.Done

  -- store replaces the value and answers true, load answers it
  abbrev pub one_value : T → Object T T
  one_value first = record { opening = first; after = value_after; answer = value_answer }

-- A call on one part of a structure, whose words begin somewhere in those of the whole.
use Rattle.std.specs.Prelude.{ℕ}
use Rattle.steps.specs.Queues.Ring.{word_at}
use Rattle.steps.specs.declared.ask.Want.{Want}
use Rattle.steps.specs.declared.ask.Want.TheVariants as wants
use Rattle.steps.specs.declared.ask.After.{After}
use Rattle.steps.specs.declared.ask.After.TheVariants.{GoOn, Done}
use Rattle.steps.specs.declared.loan.parts.Part.{Part}

-- the same operation, on a word of the part that begins at this one
abbrev pub shifted : ℕ → Want (Unit {0}) → Want (Unit {0})
shifted base (wants.Ask ask) =
    wants.Ask (record ask { word = word_at base ask.word })
shifted base (wants.Question question) = wants.Question question
shifted base wants.Nothing = wants.Nothing

module _ {C E : Type 0} where
  -- a call on a part goes on and ends as the call itself
  abbrev pub part_after : ℕ → After C E → After (Part C) E
  part_after base (GoOn call) = GoOn (record { base = base; call = call })
  part_after base (Done end) = Done end

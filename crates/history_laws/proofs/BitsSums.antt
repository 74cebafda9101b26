-- The laws of a bit set's history, from those of its machine.
use Rattle.std.proofs.Common.{◌≡◌, ℕ, ◌+◌, ◌≤◌, Bool, true, false, List, sym, ap, subst, ◌∙◌, arith}
use Rattle.model.specs.declared.event.Event.{Event}
use Rattle.model.specs.declared.event.Event.TheVariants.{Set, Cleared}
use Rattle.model.specs.declared.turn.Kind.TheVariants as kinds
use Rattle.model.specs.Coding.{Coding}
use Rattle.model.specs.Families.Bits.Promises.{BitsAnswerRight, IsBitSet}
use Rattle.model.specs.Families.Bits.Reading.{sets, clears, standing}
use Rattle.model.specs.Reading.{Each}
use Rattle.model.specs.Turns.{one_if}
use Rattle.steps.specs.Bits.Words.{stands}
use Rattle.laws_bits.proofs.Bits.Justified.{bits_go_on}
use Rattle.history.specs.History.{IsHistory}
use Rattle.history_bits.proofs.Acts.Finds.{BitFinds, bits_find}
use Rattle.history_laws.specs.Bits.{ChangesBit}

-- a flag as a number is at most 1
at_most_one : (b : Bool) → one_if b ≤ 1
at_most_one true = omega arith
at_most_one false = omega arith

-- an act that finds its place as the machine has it changes the bit rightly
changes : {T : Type 0} (before : List (Event T)) (e : Event T) → BitFinds before e → ChangesBit before e
changes before (Set p bit) finds = omega arith
changes before (Cleared p bit) finds = omega arith
changes before e finds = tt

-- A history of a bit set is that of a machine, so that the laws of the machine hold of its events.
module _ {T : Type 0} (code : Coding T) (capacity : ℕ) (events : List (Event T)) (h : IsHistory code kinds.Bits capacity events) where
  -- the machine of the history is one of a bit set, with its laws
  machine : IsBitSet h.trace
  machine = bits_go_on h.trace h.run.of_kind h.run.reached

  -- a place was set as often as it was cleared, and once more where it stands now
  as_often : (bit : ℕ) → sets bit events ≡ clears bit events + one_if (stands h.trace.world.words bit)
  as_often bit = omega (arith, machine.conserved bit, ap (sets bit) h.is, ap (clears bit) h.is)

  -- each bit was set as often as it was cleared, and once more where it stands, by the events
  pub conserved : (bit : ℕ) → sets bit events ≡ clears bit events + standing bit events
  conserved bit = omega (arith, as_often bit)

  -- a bit stands at most once
  pub once : (bit : ℕ) → standing bit events ≤ 1
  once bit = omega (arith, as_often bit, at_most_one (stands h.trace.world.words bit))

  -- no bit at or behind the capacity was set
  pub within : (bit : ℕ) → capacity ≤ bit → sets bit events ≡ 0
  within bit past = ap (sets bit) h.is ∙ machine.within bit (omega (arith, h.run.sized))

  -- each answer is right
  pub answers : Each (BitsAnswerRight capacity) events
  answers =
      subst (λ n. Each (BitsAnswerRight n) events) h.run.sized
      (subst (Each (BitsAnswerRight h.trace.world.capacity)) (sym h.is) machine.answers)

  -- each bit is set only where it is clear, and cleared only where it stands
  pub changed : Each ChangesBit events
  changed before after e is =
      changes before e (bits_find h.trace h.run.of_kind h.run.reached before after e (sym h.is ∙ is))

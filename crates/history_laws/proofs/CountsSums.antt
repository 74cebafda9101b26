-- The laws of a counting bit set's history, from those of its machine.
use Rattle.std.proofs.Common.{◌≡◌, ℕ, ◌+◌, ◌≤◌, List, sym, ap, subst, ◌∙◌, arith}
use Rattle.model.specs.declared.event.Event.{Event}
use Rattle.model.specs.declared.event.Event.TheVariants.{TakenOut}
use Rattle.model.specs.declared.turn.Kind.TheVariants as kinds
use Rattle.model.specs.Coding.{Coding}
use Rattle.model.specs.Families.Bits.Promises.{CountsAnswerOn, IsCountingOn}
use Rattle.model.specs.Families.Bits.Reading.{counts, takes, count_at}
use Rattle.model.specs.Reading.{Each}
use Rattle.laws_bits.proofs.Counts.Justified.{counts_go_on}
use Rattle.history.specs.History.{IsHistory}
use Rattle.history_bits.proofs.Acts.Finds.{CountFinds, counts_find}
use Rattle.history_laws.specs.Counts.{TakesAll}

-- an act that takes out all that its machine has there takes out all that the events have there
takes_all : {T : Type 0} (before : List (Event T)) (e : Event T) → CountFinds before e → TakesAll before e
takes_all before (TakenOut p place number) finds =
    (omega arith, finds.2)
takes_all before e finds = tt

-- A history of a counting bit set is that of a machine, so that the laws of the machine hold of its events.
module _ {T : Type 0} (code : Coding T) (capacity : ℕ) (events : List (Event T)) (h : IsHistory code kinds.Counts capacity events) where
  -- the machine of the history is one of a counting bit set, with its laws
  machine : IsCountingOn h.trace
  machine = counts_go_on h.trace h.run.of_kind h.run.reached

  -- each place was counted as often as the sum of what was taken out of it and what stands there now
  pub conserved : (place : ℕ) → counts place events ≡ takes place events + count_at place events
  conserved place =
      let all = machine.conserved place in
      omega (arith, all.1, ap (counts place) h.is, ap (takes place) h.is)

  -- at no place at or behind the capacity anything was counted
  pub within : (place : ℕ) → capacity ≤ place → counts place events ≡ 0
  within place past = ap (counts place) h.is ∙ machine.within place (omega (arith, h.run.sized))

  -- each answer is right
  pub answers : Each (CountsAnswerOn capacity) events
  answers =
      subst (λ n. Each (CountsAnswerOn n) events) h.run.sized
      (subst (Each (CountsAnswerOn h.trace.world.capacity)) (sym h.is) machine.answers)

  -- what an event takes out of a place is all that stands there
  pub taken_whole : Each TakesAll events
  taken_whole before after e is =
      takes_all before e (counts_find h.trace h.run.of_kind h.run.reached before after e (sym h.is ∙ is))

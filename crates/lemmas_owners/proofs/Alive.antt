-- No turn of an open run is a death. So where nothing that calls under way write kills an owner,
-- all owners stay alive.
use Rattle.std.proofs.Common.{arith}
use Rattle.model.proofs.Names.{◌≡◌, ℕ, Bool, false, Option, Some, None, List, [], ◌∷◌, fold, refl, ap, ◌∙◌}
use Rattle.model.proofs.Names.{AllByRecursion, fold-append}
use Rattle.model.specs.declared.event.Answer.{Answer}
use Rattle.model.specs.declared.event.Event.{Event}
use Rattle.model.specs.declared.event.Start.{Start}
use Rattle.model.specs.declared.families.Flight.{Flight}
use Rattle.model.specs.declared.party.Doing.TheVariants.{Going}
use Rattle.model.specs.declared.party.Party.{Party}
use Rattle.model.specs.declared.turn.Turn.{Turn}
use Rattle.model.specs.Families.Indices.Robust.Reading.{dead_after, is_dead}
use Rattle.model.proofs.Names.{party_of, old_of, number_of, step_in, events_of_step}
use Rattle.model.proofs.Names.{events_of, ending_of, after_turn, Trace, ask_of, want_of}
use Rattle.model.specs.declared.turn.Turn.TheVariants.{Next, Decide}
use Rattle.model.specs.Open.{open_refusal}
use Rattle.lemmas_owners.proofs.OneTurn.{by_next, by_decision}

module _ {T : Type 0} where
  -- the event changes no owner from alive to dead or back
  abbrev pub Leaves : Event T → Type 0
  Leaves e = (owner : ℕ) (dead : Bool) → dead_after owner dead e ≡ dead

  -- events none of which changes who is dead do not change it together
  all_leave : (owner : ℕ) (es : List (Event T)) (dead : Bool) → AllByRecursion Leaves es → fold (dead_after owner) dead es ≡ dead
  all_leave owner [] dead leave_all = refl
  all_leave owner (e ∷ es) dead leave_all = ap (λ b. fold (dead_after owner) b es) (leave_all.0 owner dead) ∙ all_leave owner es dead leave_all.1

  -- the end of a call does not change who is dead
  pub end_leaves : (p : ℕ) (start : Start T) (outcome : Option (Answer T)) → AllByRecursion Leaves (ending_of p start outcome)
  end_leaves p start None = tt
  end_leaves p start (Some answer) = (λ owner dead. refl, tt)

  -- nobody has died
  abbrev pub AllLive : List (Event T) → Type 0
  AllLive events = (owner : ℕ) → is_dead owner events ≡ false

module _ {T : Type 0} (t : Trace T) where
  -- whatever the next step or decision of a call under way writes leaves it as it was which owners are dead
  abbrev pub StepsLeave : Type 0
  StepsLeave =
      (p : ℕ) (x : Party T) (since : ℕ) (flight : Flight T) (answer : ℕ) → party_of p t.world.latest ≡ Some x → x.doing ≡ Going flight since
      → AllByRecursion Leaves (events_of_step p x.start (step_in t.world p x flight answer))

  module _ (steps : StepsLeave) where
    -- what a step writes leaves the owners alive
    next_leaves : (p : ℕ) → AllByRecursion Leaves (events_of t.world (Next p))
    next_leaves p =
        by_next t.world p (λ w es. AllByRecursion Leaves es) tt (λ x flight since has.
        steps p x since flight (old_of t.world.words (ask_of (want_of t.world.coding flight))) has.found has.doing)

    -- what a decision writes leaves the owners alive
    decision_leaves : (p : ℕ) (said : Bool) → AllByRecursion Leaves (events_of t.world (Decide p said))
    decision_leaves p said =
        by_decision t.world p (λ w es. AllByRecursion Leaves es) tt said (λ x flight since has.
        steps p x since flight (number_of said) has.found has.doing)

    -- what any turn of an open run writes leaves the owners alive
    turn_leaves : (turn : Turn T) → open_refusal t.world turn ≡ None → AllByRecursion Leaves (events_of t.world turn)
    turn_leaves = grind (arith, next_leaves, decision_leaves)

    -- after a turn of an open run all owners are alive, if all were before
    pub all_live_on : (turn : Turn T) → open_refusal t.world turn ≡ None → AllLive t.events → AllLive (after_turn t turn).events
    all_live_on = grind (arith, fold-append, false, all_leave, turn_leaves)

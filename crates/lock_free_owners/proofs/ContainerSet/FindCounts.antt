-- How many indices a find of a container has counted: one that a step has ended, and one that stands at its question.
use Rattle.lock_free_owners.proofs.Names.{◌≡◌, ℕ, ◌+◌, true, false, Some, None, List, [], ◌∷◌, ◌++◌, refl, sym, ap}
use Rattle.lock_free_owners.proofs.Names.{arith, subst, ◌∙◌, append_assoc, append_cancel_left, same_from_push, After, Done}
use Rattle.lock_free_owners.proofs.Names.{Buffer, Answer, Number, Event, Finished, Start, Container, Flight, Coding}
use Rattle.lock_free_owners.proofs.Names.{want_of, goes_of, is_question, IsFilledWith, IsCount, Span, Open}
use Rattle.lock_free_owners.proofs.Names.{span_of, after_turn, events_of, ending_of, number_of, count_later, IsRun}
use Rattle.lock_free_owners.proofs.Names.{LastStep, call_in, refusal_as, container_effects, containers_owe}
use Rattle.steps.specs.declared.container.find.FindStage.{FindStage}
use Rattle.steps.specs.declared.container.find.FindStage.TheVariants as finds
use Rattle.model.specs.declared.families.Flight.TheVariants as flights
use Rattle.model.specs.declared.families.container.ContainerStart.TheVariants.{Find}
use Rattle.model.specs.declared.families.container.calls.ContainerFlight.TheVariants as calls
use Rattle.model.specs.declared.turn.Kind.TheVariants as kinds
use Rattle.model.specs.declared.turn.Turn.TheVariants.{Next, Decide}
use Rattle.model.specs.Families.Container.Questions.{question_in}
use Rattle.model.specs.Shape.{IsOpenFor}
use Rattle.model.specs.Step.{answer_in}
use Rattle.model.specs.World.{Trace, flight_in}
use Rattle.laws_container.specs.ConditionalPromises.{StoppedIf}
use Rattle.laws_container.proofs.OpenRuns.{reached_open_tells}
use Rattle.history.proofs.Calls.{Stands, stands, flight_is, heard_events}
use Rattle.history.proofs.Reached.{decide_as}
use Rattle.lock_free_owners.specs.Container.FindContract.{below_question}

-- A find by the party p for this owner, in a container of this capacity, answers this number.
module _ {T : Type 0} (code : Coding T) (capacity p owner number : ℕ) where
  -- The begin of a find for this owner.
  abbrev start : Start T
  start = Container (Find owner)

  -- The end of the find with this number.
  abbrev end : Event T
  end = Finished p (Container (Find owner)) (Number number)

  -- where a step has ended it, it has counted the indices of the whole
  pub counts_whole : (events : List (Event T)) → LastStep code kinds.Container capacity p (Finished p (Container (Find owner)) (Number number)) events
      → IsCount p (IsFilledWith owner) capacity number events
  counts_whole events s =
      let tells = reached_open_tells s.old s.run.of_kind s.run.reached (Next p) s.free in
      let count =
      tells.finds p owner number (record { wrote = s.wrote; is = ap (λ es. s.old.events ++ es) s.writes }) (λ no. absurd (cc)) in
      let before : IsCount p (IsFilledWith owner) capacity number (s.old.events ++ s.wrote) =
      subst (λ n. IsCount p (IsFilledWith owner) n number (s.old.events ++ s.wrote)) s.run.sized count.0 in
      subst (λ es. IsCount p (IsFilledWith owner) capacity number es)
      (sym (s.is ∙ (ap (λ es. s.old.events ++ es) s.writes ∙ sym (append_assoc s.old.events s.wrote (end ∷ [])))))
      (count_later p (IsFilledWith owner) capacity number (s.old.events ++ s.wrote) before (end ∷ []) tt)

  -- where a no would end it, it has counted those up to the one that it asks about
  module _ (size : ℕ) (room : Buffer 128) where
    -- The find at this stage as a flight of the model.
    abbrev pub asking : FindStage → Flight T
    asking stage =
        flights.Container (calls.Find (record { call = record { capacity = size; stage = stage; of = record {} }; given = owner; room = room }))

    -- the bound of a find that asks about an index is the number behind this index
    bound_is : (coding : Coding T) (stage : FindStage) (index : ℕ) (value : T)
        → question_in coding (Some (asking stage)) ≡ Some (index, value) → index + 1 ≡ below_question stage
    bound_is coding stage index value e = grind arith

    -- a find at a question, which a no would end with this number, has counted the owner's indices
    -- up to the one that it asks about
    pub counts_below : (stage : FindStage) (t : Trace T) (run : IsRun code kinds.Container capacity t)
        → call_in t.world p ≡ Some (Container (Find owner), asking stage) → is_question (want_of code (asking stage)) ≡ true
        → goes_of code p (asking stage) (number_of false) t.world.kept ≡ Done (Number number)
        → (wrote : List (Event T)) → span_of p t.events ≡ Open (Container (Find owner)) wrote
        → IsCount p (IsFilledWith owner) (below_question stage) number t.events
    counts_below stage t run there due ends wrote at_work =
        by_stop _
        ((reached_open_tells t run.of_kind run.reached (Decide p false) free).finds_up_to p owner refl
        (subst (λ (span : Span T). IsOpenFor start (λ ws. Unit {0}) span) (sym at_work) (refl, tt)))
      where
        -- the machine stands at that question, and the decision that answers no is not refused
        at : Stands t.world p start (asking stage)
        at = stands t.world p start (asking stage) there

        -- The find is the flight of its party.
        here : flight_in t.world p ≡ Some (asking stage)
        here = flight_is t.world p start (asking stage) at

        -- The machine does not refuse the answer to stop.
        free : refusal_as kinds.Container t.world (Decide p false) ≡ None
        free =
            decide_as kinds.Container tt t.world p false (asking stage) here
            (ap (λ z. is_question (want_of z (asking stage))) run.coded ∙ due)

        effs : List (Event T)
        effs = container_effects t.world p (asking stage) (number_of false)

        -- where a no ends the find, the turn with that no writes its end last
        writes : events_of t.world (Decide p false) ≡ effs ++ end ∷ []
        writes =
            let on = (containers_owe code capacity).steps_on t run p start (asking stage) there in
            heard_events t.world p start (asking stage) (container_effects t.world p (asking stage)) at on.goes on.writes false
            ∙ ap (λ (a : After (Flight T) (Answer T)). effs ++ ending_of p start (answer_in a))
            (ap (λ z. goes_of z p (asking stage) (number_of false) t.world.kept) run.coded ∙ ends)

        -- of the trace after the no: it has counted the owner's indices up to the one that it asks
        -- about
        by_stop : (W : Type 0) → StoppedIf W p owner t (after_turn t (Decide p false)) → IsCount p (IsFilledWith owner) (below_question stage) number t.events
        by_stop W stopped =
            let last = append_cancel_left t.events (events_of t.world (Decide p false)) _ stopped.ends in
            let one : end ≡ Finished p start (Number stopped.number) =
            (same_from_push effs [] end (Finished p start (Number stopped.number)) (sym writes ∙ last)).1 in
            let same : stopped.number ≡ number = cc in
            let bound = bound_is t.world.coding stage stopped.index stopped.value (ap (question_in t.world.coding) (sym here) ∙ stopped.asked) in
            subst (λ k. IsCount p (IsFilledWith owner) k number t.events) bound
            (subst (λ k. IsCount p (IsFilledWith owner) (stopped.index + 1) k t.events) same stopped.counts.0)

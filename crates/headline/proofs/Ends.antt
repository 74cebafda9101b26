-- A turn in which a call asks for no operation ends the call.
use Rattle.std.proofs.Common.{◌≡◌, ℕ, false, Option, None, is_none, refl, sym, subst, arith}
use Rattle.steps.specs.declared.ask.After.{After}
use Rattle.steps.specs.declared.ask.After.TheVariants.{GoOn, Done}
use Rattle.steps.specs.declared.ask.Want.{Want}
use Rattle.model.specs.declared.event.Answer.{Answer}
use Rattle.model.specs.declared.families.Flight.{Flight}
use Rattle.model.specs.declared.turn.Turn.{Turn}
use Rattle.model.specs.declared.turn.Turn.TheVariants.{Next}
use Rattle.model.specs.Families.{ask_of, is_question}
use Rattle.model.specs.Promises.Turns.{GoesOn, StandsAt, ask_in, ask_of_flight}
use Rattle.model.specs.Refusals.{is_due, call_refusal, refusal_of}
use Rattle.model.specs.Turns.{IsReached, after_turn}
use Rattle.model.specs.World.{World, Trace, flight_in}
use Rattle.model.proofs.Rows.{may_next, passes, row_passed}
use Rattle.machine.proofs.Laws.{laws_of}
use Rattle.headline.proofs.WantsNothing.{IsNothing, IsDone, HasRoomIn, call_ends}
use Rattle.headline.proofs.SubmissionRoom.{has_room}

-- A call that asks for no operation and puts no question wants nothing.
wants_nothing : (want : Want (Unit {0})) → ask_of want ≡ None → is_question want ≡ false → IsNothing want
wants_nothing = grind arith

module _ {T : Type 0} where
  -- a call that may go on without a decision asks no question
  asks_nothing : (w : World T) (p : ℕ) → call_refusal w (Next p) ≡ None → is_due w.coding (flight_in w p) ≡ false
  asks_nothing = grind (arith, row_passed, is_none)

  -- A party whose call is done has no call under way.
  none_stands : (w : World T) (p : ℕ) (a : After (Flight T) (Answer T)) → IsDone a → StandsAt w p a → flight_in w p ≡ None
  none_stands w p (GoOn flight) done stands = absurd done
  none_stands w p (Done answer) done stands = stands

  module _ (old new : World T) (p : ℕ) where
    by_flight : (o : Option (Flight T)) → flight_in old p ≡ o → HasRoomIn o → is_due old.coding o ≡ false → ask_of_flight old.coding o ≡ None
        → is_none o ≡ false → GoesOn old (Next p) new → flight_in new p ≡ None
    by_flight = grind (arith, wants_nothing, call_ends, none_stands)

  -- a turn in which a party's call goes on, and asks for no operation, ends the call
  pub ends : (t : Trace T) → IsReached t → (turn : Turn T) → refusal_of t.world turn ≡ None → (p : ℕ) → turn ≡ Next p
      → ask_in t.world turn ≡ None → flight_in (after_turn t turn).world p ≡ None
  ends t reached turn free p is_next none =
      let here : refusal_of t.world (Next p) ≡ None = rw is_next at free in
      let on = (passes t.world (Next p) here).on in
      let under = may_next t.world p on in
      rw is_next (by_flight t.world (after_turn t (Next p)).world p (flight_in t.world p) refl (has_room t reached p) (asks_nothing t.world p on)
      (subst (λ u. ask_in t.world u ≡ None) is_next none) (subst (λ (o : Option (Flight T)). is_none o ≡ false) (sym under.is) refl)
      ((laws_of t.world.kind).turn t (Next p) refl here reached).call)

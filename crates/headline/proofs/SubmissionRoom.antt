-- In a reached machine no send and no reclaim of a loan channel stands where its submission queue has no room for an index.
use Rattle.std.proofs.Common.{◌≡◌, ◌≢◌, ℕ, ◌≤◌, ◌==◌, Bool, true, false, Option, Some, None, List, refl, sym, subst, arith}
use Rattle.std.proofs.lemmas.Bool.Decides.{nat_tests}
use Rattle.steps.specs.declared.ask.After.{After}
use Rattle.steps.specs.declared.ask.After.TheVariants.{GoOn, Done}
use Rattle.steps.specs.declared.ask.Ask.{Ask}
use Rattle.steps.specs.declared.loan.places.Place.{Place}
use Rattle.model.specs.declared.event.Answer.{Answer}
use Rattle.model.specs.declared.event.Start.{Start}
use Rattle.model.specs.declared.families.Flight.{Flight}
use Rattle.model.specs.declared.families.Registry.{Registry}
use Rattle.model.specs.declared.families.loan.Book.{Book}
use Rattle.model.specs.declared.families.loan.LoanStart.{LoanStart}
use Rattle.model.specs.declared.families.loan.calls.LoanFlight.{LoanFlight}
use Rattle.model.specs.declared.party.Doing.{Doing}
use Rattle.model.specs.declared.party.Party.{Party}
use Rattle.model.specs.declared.turn.Kind.{Kind}
use Rattle.model.specs.declared.turn.Turn.{Turn}
use Rattle.model.specs.declared.turn.Turn.TheVariants.{Begin, Next, Decide, Die}
use Rattle.model.specs.Coding.{Coding}
use Rattle.model.specs.Families.{first_of, step_of}
use Rattle.model.specs.Families.Loan.Calls.{first, after}
use Rattle.model.specs.Parties.{party_of, doing_of, flight_of}
use Rattle.model.specs.Promises.Turns.{IsParty}
use Rattle.model.specs.Refusals.{refusal_of}
use Rattle.model.specs.Turns.{IsReached, number_of, after_begin, after_answer, after_next, after_decision, step_in, world_after, after_turn}
use Rattle.model.specs.World.{World, Trace, queue_error, kept_opened, flight_in}
use Rattle.model.proofs.Parties.{party_put_same}
use Rattle.model.proofs.Reached.{kept_by_runs}
use Rattle.laws_machine.proofs.Others as others
use Rattle.laws_machine.proofs.Queue as submission
use Rattle.laws_machine.specs.Others.{queue_in}
use Rattle.headline.proofs.WantsNothing.{HasRoom, HasRoomIn}
use Rattle.headline.proofs.Holding.{is_it}

-- A submission queue, if there is one, has room for an index.
abbrev TakesOne : Option ℕ → Type 0
TakesOne None = Unit {0}
TakesOne (Some queue) = 1 ≤ queue

-- A loan call that begins has room in a submission queue of at least one place.
begins_roomy : (slots : ℕ) (book : Book) (start : LoanStart) → 1 ≤ book.queue → HasRoom (first slots book start)
begins_roomy = grind (arith, nat_tests)

module _ {T : Type 0} where
  -- The call goes on at a stage at which its submission queue has room, or it is done.
  abbrev GoesRoomy : After LoanFlight (Answer T) → Type 0
  GoesRoomy (GoOn flight) = HasRoom flight
  GoesRoomy (Done answer) = Unit {0}

module _ (T : Type 0) where
  -- A loan call that has room still has room after a step, if it goes on.
  goes_roomy : (places : List Place) (flight : LoanFlight) (old : ℕ) → HasRoom flight → GoesRoomy (after {T = T} places flight old)
  goes_roomy = grind arith

  -- A machine that opens without an error has a submission queue that takes at least one index.
  opens_roomy : (kind : Kind) (capacity queue : ℕ) → queue_error kind queue ≡ None → TakesOne (queue_in (kept_opened {T = T} kind capacity queue))
  opens_roomy = grind (arith, nat_tests)

module _ {T : Type 0} where
  -- ---- any call

  -- The call that a begin leads to has room.
  first_roomy : (kind : Kind) (capacity : ℕ) (start : Start T) (kept : Registry T) → TakesOne (queue_in kept)
      → HasRoomIn (first_of kind capacity start kept)
  first_roomy = grind (arith, begins_roomy)

  -- The machine's call goes on at a stage at which its submission queue has room, or it is done.
  abbrev StepsRoomy : After (Flight T) (Answer T) → Type 0
  StepsRoomy (GoOn flight) = HasRoomIn (Some flight)
  StepsRoomy (Done answer) = Unit {0}

  -- A call of any family that has room still has room after a step, if it goes on.
  steps_roomy : (code : Coding T) (words : List ℕ) (beside : Option (ℕ × ℕ)) (p : ℕ) (start : Start T) (flight : Flight T) (old : ℕ)
      (kept : Registry T) → HasRoomIn (Some flight) → StepsRoomy (step_of code words beside p start flight old kept).after
  steps_roomy = grind (arith, goes_roomy)

  -- ---- a turn

  module _ (w : World T) (p : ℕ) where
    -- If the call that begins has room, then the party's call has room after the begin.
    begun : (start : Start T) (o : Option (Flight T)) → HasRoomIn o → HasRoomIn (flight_in w p) → HasRoomIn (flight_in (after_begin w p start o) p)
    begun = grind (arith, party_put_same)

    -- After a step or a decision the party's call, if one is under way, has room.
    answered : (x : Party T) (ask : Option Ask) (answer : ℕ) (doing : Doing T) → HasRoomIn (flight_of (Some doing)) → HasRoomIn (flight_in w p)
        → HasRoomIn (flight_in (after_answer w p x ask answer doing) p)
    answered = grind (arith, step_in, steps_roomy, party_put_same)

    -- After a turn `Next` the party's call, if one is under way, has room.
    went : (o : Option (Party T)) → HasRoomIn (flight_of (doing_of o)) → HasRoomIn (flight_in w p) → HasRoomIn (flight_in (after_next w p o) p)
    went = grind (arith, answered)

    -- after a decision the party's call still has room for what it submits
    decided : (said : Bool) (o : Option (Party T)) → HasRoomIn (flight_of (doing_of o)) → HasRoomIn (flight_in w p)
        → HasRoomIn (flight_in (after_decision w p said o) p)
    decided said None has_room here = here
    decided said (Some x) has_room here = answered x None (number_of said) x.doing has_room here

  record IsRoomy (w : World T) : Type 0 where
    pub queue : TakesOne (queue_in w.kept)
    pub calls : (p : ℕ) → HasRoomIn (flight_in w p)

  -- If the call of the turn's party has room in the submission queue after the turn, then so has every
  -- party's, since the other calls stay where they stood.
  by_party : (w : World T) (turn : Turn T) (p : ℕ) → ((q : ℕ) → q ≢ p → ¬ IsParty turn q) → IsRoomy w
      → HasRoomIn (flight_in (world_after w turn) p) → (q : ℕ) → HasRoomIn (flight_in (world_after w turn) q)
  by_party w turn p alone roomy here q = go (q == p) refl
    where
      -- The cases are whether q is the party of the turn.
      go : (b : Bool) → (q == p) ≡ b → HasRoomIn (flight_in (world_after w turn) q)
      go true test = rw (is_it q p test) here
      go false test =
          let other : q ≢ p = grind (arith, nat_tests) in
          subst HasRoomIn (sym (others.others_stay w turn q (alone q other))) (roomy.calls q)

  -- each turn leaves the call of each party room in the submission queue
  calls_roomy : (w : World T) (turn : Turn T) → IsRoomy w → (q : ℕ) → HasRoomIn (flight_in (world_after w turn) q)
  calls_roomy w (Begin p start) roomy =
      by_party w (Begin p start) p (λ q ne. ne) roomy
      (begun w p start (first_of w.kind w.capacity start w.kept) (first_roomy w.kind w.capacity start w.kept roomy.queue) (roomy.calls p))
  calls_roomy w (Next p) roomy = by_party w (Next p) p (λ q ne. ne) roomy (went w p (party_of p w.latest) (roomy.calls p) (roomy.calls p))
  calls_roomy w (Decide p said) roomy = by_party w (Decide p said) p (λ q ne. ne) roomy (decided w p said (party_of p w.latest) (roomy.calls p) (roomy.calls p))
  calls_roomy w (Die owner) roomy = λ q. roomy.calls q

  -- Each turn that is not refused leaves the submission queue with its room, and each call at a
  -- stage with room.
  turn_roomy : (t : Trace T) (turn : Turn T) → refusal_of t.world turn ≡ None → IsRoomy t.world → IsRoomy (after_turn t turn).world
  turn_roomy t turn free roomy =
      record { queue = subst TakesOne (sym (submission.keeps_queue t.world turn)) roomy.queue; calls = calls_roomy t.world turn roomy }

  -- In a reached machine no send or reclaim under way is at a stage at which its submission queue
  -- has no room.
  pub has_room : (t : Trace T) → IsReached t → (p : ℕ) → HasRoomIn (flight_in t.world p)
  has_room t reached =
      (kept_by_runs (λ u. IsRoomy u.world) turn_roomy t
      (λ queue queued. record { queue = opens_roomy T t.world.kind t.world.capacity queue queued; calls = λ p. tt }) reached).calls

-- What is proved of every run of a loan channel: each turn writes in order and acts where it is justified,
-- and each call goes on as its table says.
use Rattle.laws_loan.proofs.Names.{◌≡◌, ◌≢◌, ℕ, Option, Some, List, ◌++◌, refl, sym, ap, subst, After, OneWord}
use Rattle.laws_loan.proofs.Names.{SendStage, Answer, Event, Start, Flight, LoanStart, LoanFlight, Going, Next}
use Rattle.laws_loan.proofs.Names.{Coding, ask_of, want, after, promise, effect_of, IsTurnBy, IsKeptBy, ask_in}
use Rattle.laws_loan.proofs.Names.{answer_in, old_of, ending_of, after_turn, StandsThere, stands_there, InOrder}
use Rattle.laws_loan.proofs.Names.{in_order_from}
use native.Mathlib.Omega.{arith}
use Rattle.steps.specs.declared.loan.send.SendStage.TheVariants as sends
use Rattle.steps.specs.declared.queues.overflow.PopStage.{PopStage}
use Rattle.model.specs.declared.event.Start.TheVariants as starts
use Rattle.model.specs.declared.families.Flight.TheVariants as flights
use Rattle.model.specs.declared.families.Registry.TheVariants as registries
use Rattle.model.specs.declared.families.loan.LoanStart.TheVariants as calls
use Rattle.model.specs.declared.turn.Kind.TheVariants as kinds
use Rattle.model.specs.Parties.{party_of}
use Rattle.model.specs.Promises.Families.{promise_of}
use Rattle.model.proofs.Orders.{Orders, Keeps, ends_end, turn_is}
use Rattle.laws_loan.proofs.Acts.{did, acts_of, effects_are, did_effects, all_act, frees_silent, take_back_silent}
use Rattle.laws_loan.proofs.Acts.{give_back_silent, reclaim_silent, waits, Acting, silent_right, send_right}
use Rattle.laws_loan.proofs.Acts.{receive_right}
use Rattle.laws_loan.proofs.Channel.{words_in, kept_is}
use Rattle.laws_loan.proofs.Invariant.{family}
use Rattle.laws_loan.proofs.Kept.{kept_by}
use Rattle.laws_loan.proofs.Laws.{asks_nothing, reached}
use Rattle.laws_loan.proofs.Receives.{receive_at}
use Rattle.laws_loan.proofs.Scene.{Underway}
use Rattle.laws_loan.proofs.Sender.{any_call}
use Rattle.laws_loan.proofs.SendStep.{send_at}
use Rattle.laws_loan.proofs.StepLaw.{channel}

-- `p` is the party whose step it is, in the machine `m` with a call under way
module _ {T : Type 0} (m : Underway T) (p : ℕ) where
  open m use {coding as code, slots, queue, trace as t, caller as x, since, sound as s}

  abbrev Acts : LoanFlight → Type 0
  Acts flight = Acting m p flight

  abbrev StandsAt : LoanStart → LoanFlight → Type 0
  StandsAt start flight = StandsThere (channel code slots queue) t s p x since (starts.Loan start) (flights.Loan flight)

  -- in a step of a send that stands in the machine, each act is justified
  send_acts : (index : ℕ) (stage : SendStage) → StandsAt (calls.Send index) (send_at slots queue index stage) → Acts (send_at slots queue index stage)
  send_acts index (sends.Pushes stage) there asks = let at = there.at in send_right m p index stage at.5.0 asks
  send_acts index (sends.Releases oldest stage) there asks = silent_right m p _ (frees_silent oldest stage)

  -- in a step of a receive that stands in the machine, each act is justified
  receive_acts : p ≢ 0 → (stage : PopStage) (room : OneWord)
      → StandsAt calls.Receive (receive_at slots queue p stage room) → Acts (receive_at slots queue p stage room)
  receive_acts other stage room there asks = receive_right m p other since t.world.changes x.backs stage room there.knows asks

  -- in a step of any call that stands in the machine, each act is justified
  call_acts : (start : LoanStart) (flight : LoanFlight) → StandsAt start flight → Acts flight
  call_acts = grind (arith, send_at, send_acts, silent_right, frees_silent, take_back_silent, receive_acts, give_back_silent, reclaim_silent)

  -- ---- the order of what a step writes

  -- a step of a call that stands in the machine writes in order
  in_order : (start : Start T) (flight : Flight T)
      → StandsThere (channel code slots queue) t s p x since start flight
      → InOrder t p promise t.world.coding (words_in s.state) (registries.Loan s.state.book) start flight
  in_order (starts.Loan start) (flights.Loan flight) there =
      let words = words_in s.state in
      let old = old_of words (ask_of (want flight)) in
      let effect = effect_of words (waits m p) flight old in
      let then_so : After LoanFlight (Answer T) = after s.state.book.places flight old in
      let outcome : Option (Answer T) = answer_in then_so in
      let ends : List (Event T) = ending_of p (starts.Loan start) (answer_in (any_call then_so)) in
      let asks : ask_in t.world (Next p) ≡ ask_of (want flight) = rw there.found refl in
      record {
        effects = did p effect outcome;
        acts = acts_of p effect;
        ends = ends;
        is = ap (λ es. t.events ++ (es ++ ends)) (effects_are p effect outcome);
        are_effects = did_effects (Next p) p effect outcome refl;
        are_acts = all_act T p effect;
        are_ends = ends_end (Next p) p (starts.Loan start) (answer_in (any_call then_so)) refl;
        right = call_acts start flight there asks;
      }
  in_order start flight there = absurd there.at

  -- a step of a call that a party of the machine has under way writes in order
  step_in_order : (flight : Flight T) → party_of p t.world.latest ≡ Some x → x.doing ≡ Going flight since
      → InOrder t p promise t.world.coding t.world.words t.world.kept x.start flight
  step_in_order flight found doing =
      let kept_there = kept_is t.world.kept t.world.words s.state s.fit in
      in_order_from t p promise t.world.coding (words_in s.state) (registries.Loan s.state.book) x.start flight kept_there.words kept_there.kept
      (in_order x.start flight (stands_there (channel code slots queue) t s p x since flight found doing))

-- the turns of the family write down in order
orders : {T : Type 0} (code : Coding T) (slots queue : ℕ) → Orders (channel code slots queue)
orders code slots queue =
    record {
      step =
          λ t p x flight since s small found doing.
          step_in_order (record { coding = code; slots = slots; queue = queue; trace = t; sound = s; small = small; caller = x; since = since }) p flight
          found doing;
      decision = λ t p x flight since said s small found doing asks. asks_nothing code slots queue t p x flight since s found doing asks;
      -- a call goes on as its table says
      after = λ t p x flight since answer s found doing.
          let fit = s.fit in
          let at = (stands_there (channel code slots queue) t s p x since flight found doing).at in
          grind arith;
      tells = λ t turn e s. tt;
    }

-- what is proved of every run of a loan channel
pub loan_keeps : {T : Type 0} → Keeps T kinds.Loan
loan_keeps {T} =
    record {
      kept = λ t is r.
          let sound_there = reached t is r in
          subst (λ P. IsKeptBy P t) (sym (ap (promise_of {T = T}) is))
          (kept_by t sound_there.0 sound_there.1.holds.parts.set.some sound_there.1 sound_there.2 sound_there.3);
      turn = λ t turn is e r.
          let sound_there = reached t is r in
          subst (λ P. IsTurnBy P t turn (after_turn t turn)) (sym (ap (promise_of {T = T}) is))
          (turn_is (family t.world.coding t.world.capacity sound_there.0) (orders t.world.coding t.world.capacity sound_there.0) t turn e r sound_there.1);
    }

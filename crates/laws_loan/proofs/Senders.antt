-- Steps that leave a machine with the invariant: those of a send's push, of a take-back's pop, of a give-
-- back's push, and those of a receive that take no index out.
use Rattle.laws_loan.proofs.Names.{◌≡◌, ℕ, false, Bool, Option, List, [], ap, ◌∙◌, Ask, After, OneWord}
use Rattle.laws_loan.proofs.Names.{goes_back, Answer, Event, LoanStart, LoanFlight, Effect, has_died}
use Rattle.laws_loan.proofs.Names.{beside, take_back_effect, give_back_effect, Open, span_of, StandsThere}
use Rattle.laws_loan.proofs.Names.{Core}
use Rattle.steps.specs.declared.loan.take_back.TakeBackStage.TheVariants as take_back_stages
use Rattle.steps.specs.declared.queues.overflow.PopStage as overflow_pops
use Rattle.steps.specs.declared.queues.overflow.PushStage.{PushStage}
use Rattle.steps.specs.declared.queues.ring.PopStage.{PopStage}
use Rattle.steps.specs.declared.queues.ring.PushStage as ring_pushes
use Rattle.model.specs.declared.event.Start.{Start}
use Rattle.model.specs.declared.event.Start.TheVariants as starts
use Rattle.model.specs.declared.families.Flight.{Flight}
use Rattle.model.specs.declared.families.Flight.TheVariants as flights
use Rattle.model.specs.declared.families.Registry.TheVariants as registries
use Rattle.model.specs.declared.families.loan.LoanStart.TheVariants as calls
use Rattle.model.proofs.Scenes.{ComesFrom}
use Rattle.laws_loan.proofs.Channel.{Channel, words_in}
use Rattle.laws_loan.proofs.GiveBacks as give_backs
use Rattle.laws_loan.proofs.GiveBacks.{give_at}
use Rattle.laws_loan.proofs.Giving.{GivesBy, s_given}
use Rattle.laws_loan.proofs.Invariant.{HoldsNow}
use Rattle.laws_loan.proofs.Knows.{push_wrote}
use Rattle.laws_loan.proofs.Receives as receives
use Rattle.laws_loan.proofs.Receives.{receive_at, IsLook}
use Rattle.laws_loan.proofs.Scene.{Scene, ReceiverCalls, Underway, scene_of}
use Rattle.laws_loan.proofs.SendMoves as sends
use Rattle.laws_loan.proofs.Sender.{StepBy}
use Rattle.laws_loan.proofs.Sends.{pushes_at, asked, old, goes, effect_at}
use Rattle.laws_loan.proofs.StepLaw.{channel, holds_now, step_comes, ComesBy}
use Rattle.laws_loan.proofs.TakeBacks as take_backs
use Rattle.laws_loan.proofs.TakeBacks.{pops_at}

module _ {T : Type 0} (m : Underway T) where
  open m use {coding as code, slots, queue, trace as t, sound, small, caller as x, since}

  abbrev scene : Scene T
  scene = scene_of m

  -- the party `p` has this call under way, and the call stands in the machine as its family says
  abbrev pub Stands : ℕ → Start T → Flight T → Type 0
  Stands p start flight = StandsThere (channel code slots queue) t sound p x since start flight

  -- the next step of this call leaves a machine with the invariant
  abbrev pub Comes : ℕ → Start T → Flight T → Type 0
  Comes p start flight =
      ComesFrom (channel code slots queue) t sound p x since code (words_in sound.state)
      (registries.Loan sound.state.book) start flight

  -- a step of the sender that has the fields of `Steps` leaves a machine with the invariant
  pub from_step : (start : LoanStart) (ask : Option Ask) (after : After LoanFlight (Answer T)) (effect : Effect)
      (s' : Channel T) (wrote : List (Event T))
      → span_of 0 sound.state.events ≡ Open (starts.Loan start) wrote
      → StepBy scene 0 s' (Open (starts.Loan start) wrote) start ask false after effect
      → ComesBy m 0 start ask false after effect
  from_step start ask after effect s' wrote =
      step_comes m 0 start ask false after effect s' (Open (starts.Loan start) wrote)

  -- a step of the receiver that has the fields of `Steps` leaves a machine with the invariant, where its
  -- call has written nothing before
  from_receiver : (p : ℕ) (start : LoanStart) (ask : Option Ask) (back : Bool) (after : After LoanFlight (Answer T))
      (effect : Effect) (k : Core ℕ) → span_of p sound.state.events ≡ Open (starts.Loan start) []
      → GivesBy scene p k (Open (starts.Loan start) []) start ask back after effect
      → ComesBy m p start ask back after effect
  from_receiver p start ask back after effect k =
      step_comes m p start ask back after effect (s_given scene p k start after effect) (Open (starts.Loan start) [])

  abbrev s : Channel T
  s = sound.state

  abbrev holds_before : HoldsNow slots queue s t.world.latest s.events t.world.turns
  holds_before = holds_now m

  -- the step of a send in its push leaves a machine with the invariant
  pub send_pushes : (index : ℕ) (stage : PushStage)
      → Stands 0 (starts.Loan (calls.Send index)) (flights.Loan (pushes_at slots queue stage index))
      → Comes 0 (starts.Loan (calls.Send index)) (flights.Loan (pushes_at slots queue stage index))
  send_pushes index stage there =
      let stands = there.at in
      let from = ap (span_of 0) sound.holds.same ∙ (there.span ∙ ap (λ es. Open (starts.Loan (calls.Send index)) es) stands.4) in
      let done =
      sends.does scene index (record { holds = holds_before; small = small; straight = there.knows }) stage
      there.found from stands.5.0 stands.5.1 there.steps in
      let value = old scene index stage in
      from_step (calls.Send index) (asked scene index stage) (goes scene index stage value) (effect_at scene index stage value)
      done.channel_then (push_wrote queue s.submission index stage) from done.step

  -- the step of a take-back in its pop leaves a machine with the invariant
  pub take_back_pops : (stage : PopStage) (found : OneWord)
      → Stands 0 (starts.Loan calls.TakeBack) (flights.Loan (pops_at slots queue stage found))
      → Comes 0 (starts.Loan calls.TakeBack) (flights.Loan (pops_at slots queue stage found))
  take_back_pops stage found there =
      let stands = there.at in
      let from = ap (span_of 0) sound.holds.same ∙ (there.span ∙ ap (λ es. Open (starts.Loan calls.TakeBack) es) stands.3) in
      let done =
      take_backs.does scene (record { holds = holds_before; small = small; straight = there.knows }) there.found
      from stage found stands.4 there.steps in
      from_step calls.TakeBack (take_backs.asked scene stage) (take_backs.goes scene stage found (take_backs.old scene stage))
      (take_back_effect (take_back_stages.Pops stage found)) done.channel_then [] from done.step

  -- the step of a give-back of a living party leaves a machine with the invariant
  pub give_back_pushes : (p index : ℕ) (stage : ring_pushes.PushStage) → has_died p s.book.dead ≡ false
      → Stands p (starts.Loan (calls.GiveBack index)) (flights.Loan (give_at slots queue p index stage))
      → Comes p (starts.Loan (calls.GiveBack index)) (flights.Loan (give_at slots queue p index stage))
  give_back_pushes p index stage alive there =
      let stands = there.at in
      let known = stands.7 alive in
      let from = ap (span_of p) sound.holds.same ∙ (there.span ∙ ap (λ es. Open (starts.Loan (calls.GiveBack index)) es) stands.5) in
      let receiver_calls : ReceiverCalls scene p (calls.GiveBack index) =
      record { holds = holds_before; small = small; other = stands.0; alive = alive; receives = known.0; from = from } in
      let done = give_backs.does scene p index receiver_calls known.1 there.knows stage known.2 there.steps in
      from_receiver p (calls.GiveBack index) (give_backs.asked scene p index stage) false (give_backs.after_of scene p index stage)
      (give_back_effect index stage) done.queue_then from done.step

  -- the step of a receive that takes no index out leaves a machine with the invariant
  pub receive_looks : (p : ℕ) (stage : overflow_pops.PopStage) (room : OneWord)
      → has_died p s.book.dead ≡ false → IsLook s stage
      → Stands p (starts.Loan calls.Receive) (flights.Loan (receive_at slots queue p stage room))
      → Comes p (starts.Loan calls.Receive) (flights.Loan (receive_at slots queue p stage room))
  receive_looks p stage room alive is_look there =
      let stands = there.at in
      let known = stands.5 alive in
      let from = ap (span_of p) sound.holds.same ∙ (there.span ∙ ap (λ es. Open (starts.Loan calls.Receive) es) stands.4) in
      let receiver_calls : ReceiverCalls scene p calls.Receive =
      record { holds = holds_before; small = small; other = stands.0; alive = alive; receives = known.0; from = from } in
      let send = beside s.book (words_in s) t.world.latest p in
      let value = receives.old scene p send stage in
      from_receiver p calls.Receive (receives.asked scene p send stage) (goes_back stage value) (receives.goes scene p send stage room value)
      (receives.effect_at scene p send stage value) s.completion from
      (receives.looks scene p send receiver_calls stage room is_look known.1 there.steps there.knows)

-- Every turn keeps what holds of a loan channel's machine: the laws that the frame asks of the family. So
-- every run has it.
use Rattle.laws_loan.proofs.Names.{◌≡◌, ℕ, ◌-◌, ◌^◌, ◌<◌, true, false, Some, None, sym, subst, Start, Flight}
use Rattle.laws_loan.proofs.Names.{LoanStart, LoanFlight, Send, GiveUp, TakeBack, Receive, GiveBack, Reclaim, Going}
use Rattle.laws_loan.proofs.Names.{Party, Turn, Coding, want_of, is_question, going_rows, has_died, LivesRight, Each}
use Rattle.laws_loan.proofs.Names.{refusal_of, first_row, old_of, after_turn, IsReached, Trace, opened}
use Rattle.laws_loan.proofs.Names.{capacity_error, queue_error, Each-nil, passes, asked, StandsThere, stands_there}
use Rattle.laws_loan.proofs.Names.{comes_from}
use native.Mathlib.Omega.{arith}
use Rattle.model.specs.declared.event.Start.TheVariants as starts
use Rattle.model.specs.declared.families.Flight.TheVariants as flights
use Rattle.model.specs.declared.families.Registry.TheVariants as registries
use Rattle.model.specs.declared.families.loan.LoanStart.TheVariants as calls
use Rattle.model.specs.declared.families.loan.calls.LoanFlight.TheVariants.{Loan}
use Rattle.model.specs.declared.turn.Kind.TheVariants as kinds
use Rattle.model.specs.Families.Loan.Calls as rows
use Rattle.model.specs.Parties.{party_of}
use Rattle.model.proofs.Frame as frame
use Rattle.model.proofs.Reached.{kept_by_runs}
use Rattle.model.proofs.Scenes.{ComesFrom}
use Rattle.laws_loan.proofs.BeginLaw.{begin_comes}
use Rattle.laws_loan.proofs.Channel.{words_in, kept_is, all_free}
use Rattle.laws_loan.proofs.Deaths.{death_comes}
use Rattle.laws_loan.proofs.GiveBackStep.{give_back_comes}
use Rattle.laws_loan.proofs.GiveUpStep.{give_up_releases}
use Rattle.laws_loan.proofs.Invariant.{family}
use Rattle.laws_loan.proofs.LoanStep.{loan_acquires}
use Rattle.laws_loan.proofs.Lives.{lives}
use Rattle.laws_loan.proofs.Living.{turn_lives}
use Rattle.laws_loan.proofs.Opens.{slots_are, queue_is, opening_sound}
use Rattle.laws_loan.proofs.ReceiveSteps.{receive_comes}
use Rattle.laws_loan.proofs.ReclaimStep.{reclaim_steps_from}
use Rattle.laws_loan.proofs.Scene.{Underway}
use Rattle.laws_loan.proofs.Senders.{Stands, Comes}
use Rattle.laws_loan.proofs.SendStep.{send_steps}
use Rattle.laws_loan.proofs.StepLaw.{channel}
use Rattle.laws_loan.proofs.Tabled.{IsTabled, turn_tabled}
use Rattle.laws_loan.proofs.TakeBackStep.{take_back_steps}

module _ {T : Type 0} (m : Underway T) where
  open m use {coding as code, slots, queue, trace as t, sound, caller as x, since}

  -- the step of this call, where it stands in the machine, leaves a machine with the invariant
  abbrev CallIsSound : ℕ → LoanStart → LoanFlight → Type 0
  CallIsSound p start flight =
      Stands m p (starts.Loan start) (flights.Loan flight)
      → Comes m p (starts.Loan start) (flights.Loan flight)

  -- each step of a call of a living party leaves a machine with the invariant
  call_comes : (p : ℕ) (start : LoanStart) (flight : LoanFlight) → has_died (rows.party_of flight) sound.state.book.dead ≡ false → CallIsSound p start flight
  call_comes p calls.Loan (Loan run) alive there =
      let stands = there.at in
      subst (λ q. CallIsSound q calls.Loan (Loan run)) (sym stands.0)
      (rw stands.1 (λ there. loan_acquires m run.call.stage there))
      there
  call_comes p (calls.Send index) (Send run) alive there =
      let stands = there.at in
      subst (λ q. CallIsSound q (calls.Send index) (Send run)) (sym stands.0)
      (rw (stands.1, stands.2, stands.3) (λ there. send_steps m index run.call.stage there))
      there
  call_comes p (calls.GiveUp index) (GiveUp run) alive there =
      let stands = there.at in
      subst (λ q. CallIsSound q (calls.GiveUp index) (GiveUp run)) (sym stands.0)
      (rw (stands.1, stands.2) (λ there. give_up_releases m index run.call.stage there))
      there
  call_comes p calls.TakeBack (TakeBack run) alive there =
      let stands = there.at in
      subst (λ q. CallIsSound q calls.TakeBack (TakeBack run)) (sym stands.0)
      (rw (stands.1, stands.2) (λ there. take_back_steps m run.call.stage there))
      there
  call_comes p calls.Receive (Receive by run) alive there =
      let lives : has_died p sound.state.book.dead ≡ false = subst (λ q. has_died q sound.state.book.dead ≡ false) there.at.1 alive in
      receive_comes m p lives by run there
  call_comes p (calls.GiveBack index) (GiveBack by run) alive there =
      let lives : has_died p sound.state.book.dead ≡ false = subst (λ q. has_died q sound.state.book.dead ≡ false) there.at.1 alive in
      give_back_comes m p index lives by run there
  call_comes p calls.Reclaim (Reclaim call) alive there =
      subst (λ q. CallIsSound q calls.Reclaim (Reclaim call)) (sym there.at.0) (λ there. reclaim_steps_from m call there) there
  call_comes p start flight alive there = absurd there.at

  -- each step of any call that no row refuses leaves a machine with the invariant
  comes : (p : ℕ) (start : Start T) (flight : Flight T)
      → first_row (going_rows t.world.coding t.world.kept (Some flight) None) ≡ None
      → StandsThere (channel code slots queue) t sound p x since start flight
      → ComesFrom (channel code slots queue) t sound p x since code (words_in sound.state) (registries.Loan sound.state.book) start flight
  comes = grind (arith, call_comes, lives)

  -- a step that no row refuses, of a call under way, leaves a machine with the invariant
  step_comes : (p : ℕ) (flight : Flight T)
      → first_row (going_rows t.world.coding t.world.kept (Some flight) None) ≡ None
      → party_of p t.world.latest ≡ Some x → x.doing ≡ Going flight since
      → frame.ComesByStep (channel code slots queue) t p x flight since (asked t.world.coding flight) (old_of t.world.words (asked t.world.coding flight))
  step_comes p flight not_refused found doing =
      let kept_there = kept_is t.world.kept t.world.words sound.state sound.fit in
      comes_from (channel code slots queue) t sound p x since (words_in sound.state) (registries.Loan sound.state.book) flight kept_there.words kept_there.kept
      (comes p x.start flight not_refused (stands_there (channel code slots queue) t sound p x since flight found doing))

module _ {T : Type 0} (code : Coding T) (slots queue : ℕ) where
  -- no call of a loan channel waits for a decision
  pub asks_nothing : {A : Type 0}
      → (t : Trace T) (p : ℕ) (x : Party T) (flight : Flight T) (since : ℕ) (s : frame.Sound (channel code slots queue) t)
      → party_of p t.world.latest ≡ Some x → x.doing ≡ Going flight since
      → is_question (want_of t.world.coding flight) ≡ true → A
  asks_nothing = grind arith

  -- the family of the loan channel has the laws that the frame asks of one
  pub laws : frame.Laws (channel code slots queue)
  laws =
      record {
        step =
            λ t p x flight since s small passed found doing.
            step_comes (record { coding = code; slots = slots; queue = queue; trace = t; sound = s; small = small; caller = x; since = since }) p flight
            passed found doing;
        decision = λ t p x flight since said s small passed found doing asks. asks_nothing t p x flight since s found doing asks;
        begin = λ t p start flight s small may e. begin_comes code slots queue t p start flight s may e;
        death = λ t owner s may. death_comes code slots queue t owner s may;
      }

-- in a machine that turns have reached the invariant holds with some capacity of the submission queue, dead
-- parties do nothing more, and the table is right
pub reached : {T : Type 0} (t : Trace T) → t.world.kind ≡ kinds.Loan → IsReached t
    → (queue : ℕ) × frame.Sound (family t.world.coding t.world.capacity queue) t × Each LivesRight t.events × IsTabled t
reached {T} t kind_is is_reached = kept_by_runs IsSound keeps t first is_reached
  where
    -- what is claimed of every run: the invariant, that its acts are as `LivesRight` asks, and the table
    IsSound : Trace T → Type 0
    IsSound u = (queue : ℕ) × frame.Sound (family t.world.coding t.world.capacity queue) u × Each LivesRight u.events × IsTabled u

    -- a turn that is not refused keeps this
    keeps : (u : Trace T) (turn : Turn T) → refusal_of u.world turn ≡ None → IsSound u → IsSound (after_turn u turn)
    keeps u turn not_refused is_sound =
        let passed = passes u.world turn not_refused in
        let sound =
        frame.turn_sound (family t.world.coding t.world.capacity is_sound.0) (λ t turn. t.world.turns < 2 ^ 64 - 2)
        (laws t.world.coding t.world.capacity is_sound.0) u turn passed.on passed.turns is_sound.1 in (
          is_sound.0,
          sound,
          turn_lives t.world.coding t.world.capacity is_sound.0 u is_sound.1 turn passed.on is_sound.2,
          turn_tabled t.world.coding t.world.capacity is_sound.0 u is_sound.1 is_sound.3 turn sound.holds.moves,
        )

    -- the opening has this, at any capacity that is admitted
    first : (queue : ℕ) → queue_error t.world.kind queue ≡ None → IsSound (opened t.world.coding t.world.kind t.world.capacity queue t.world.parties)
    first queue queued =
        let world = t.world in
        let few = slots_are world.capacity (subst (λ kind. capacity_error kind world.capacity ≡ None) kind_is is_reached.admitted) in
        let fits = queue_is queue (subst (λ kind. queue_error kind queue ≡ None) kind_is queued) in (
          queue,
          subst (λ kind. frame.Sound (family world.coding world.capacity queue) (opened world.coding kind world.capacity queue world.parties))
              (sym kind_is) (opening_sound world.capacity queue few.0 few.1 fits.0 fits.1 world.coding world.parties),
          Each-nil _,
          subst (λ kind. IsTabled (opened world.coding kind world.capacity queue world.parties)) (sym kind_is) (λ i. all_free world.capacity i),
        )

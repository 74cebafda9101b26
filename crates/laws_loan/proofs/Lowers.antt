-- A step that ends no call lowers the weight of a loan channel's machine.
use Rattle.laws_loan.proofs.Names.{◌≡◌, ◌≢◌, ℕ, ◌+◌, ◌-◌, ◌*◌, ◌≤◌, ◌⊎◌, inl, inr, ⊎_elim, Bool, true, false}
use Rattle.laws_loan.proofs.Names.{Option, Some, None, List, [], ◌∷◌, ◌++◌, fold, refl, sym, ap, subst, ◌∙◌, Ask}
use Rattle.laws_loan.proofs.Names.{After, GoOn, Answer, Event, Start, Flight, Registry, Book, LoanStart, LoanFlight}
use Rattle.laws_loan.proofs.Names.{Send, GiveUp, TakeBack, Receive, GiveBack, Reclaim, Party, Coding, want_of}
use Rattle.laws_loan.proofs.Names.{ask_of, step_of, beside_of, going_rows, first_row, want, after, book_after}
use Rattle.laws_loan.proofs.Names.{ended_book, answer_in, has_died, receiver_of, party_put_same, party_put_other}
use Rattle.laws_loan.proofs.Names.{old_of, step_count, change_of, party_after, events_of_step, ending_of, Trace}
use Rattle.laws_loan.proofs.Names.{stands_there, StandsThere, acquire_asks, back_asks, as_call, Running, Part, Push}
use Rattle.laws_loan.proofs.Names.{KnowsPush, push_number, one_word, completion_word, Pop, OneWord, submission_word}
use Rattle.std.proofs.Common.{cond, arith}
use Rattle.steps.specs.Loan.TakeBack.{take_back_asks}
use Rattle.steps.specs.declared.ask.After.TheVariants.{Done}
use Rattle.model.specs.declared.event.Start.TheVariants as starts
use Rattle.model.specs.declared.families.Flight.TheVariants as flights
use Rattle.model.specs.declared.families.Registry.TheVariants as registries
use Rattle.model.specs.declared.families.loan.LoanStart.TheVariants as calls
use Rattle.model.specs.declared.families.loan.calls.LoanFlight.TheVariants.{Loan}
use Rattle.model.specs.declared.party.Doing.TheVariants.{Going}
use Rattle.model.specs.Families.Loan.Calls as rows
use Rattle.model.specs.Families.Loan.Steps.{step}
use Rattle.model.specs.LockFree.{ends}
use Rattle.model.specs.Parties.{party_of}
use Rattle.model.specs.Step.{Step}
use Rattle.model.specs.Turns.{doing_after, after_step, step_in}
use Rattle.model.specs.World.{World}
use Rattle.model.proofs.Frame as frame
use Rattle.model.proofs.Counts.{steps_small}
use Rattle.model.proofs.LockFree.Measure.{worth}
use Rattle.model.proofs.LockFree.Weighed.{ended_more}
use Rattle.laws_loan.proofs.Channel.{Channel, kept_is}
use Rattle.laws_loan.proofs.Costs.{Sizes, Keeps, AllCosts, CallCosts, acquire_keeps, release_keeps, any_costs, send_costs_so, take_back_keeps, gives_below}
use Rattle.laws_loan.proofs.GiveBacks.{give_at, push_on}
use Rattle.laws_loan.proofs.Knows.{At}
use Rattle.laws_loan.proofs.Knows as knows
use Rattle.laws_loan.proofs.Lives.{lives}
use Rattle.laws_loan.proofs.Receives.{receive_at}
use Rattle.laws_loan.proofs.SendStep.{send_at}
use Rattle.laws_loan.proofs.StepLaw.{channel}
use Rattle.laws_loan.proofs.Takes.{Fewer, TakesOne, receive_takes, give_back_takes}
use Rattle.laws_loan.proofs.Weight.{allowance, sender_left, sender_doing, receiver_left, receiver_call, receiver_doing}
use Rattle.laws_loan.proofs.Weight.{receivers_left, receiver_in, is_lost, read_at, weight, weight_most}
use Rattle.laws_loan.proofs.Weight.{receiver_moved, most_sending, allowance_most}

-- ---- what a step that goes on leaves of the book

not_ended : (T : Type 0) (p : ℕ) (start : LoanStart) (book : Book) → ended_book {T = T} p start None book ≡ book
not_ended = grind arith

module _ {T : Type 0} where
  book_stays : (e : Event T) (book : Book) → ((book_after book e).receiver ≡ book.receiver) × ((book_after book e).dead ≡ book.dead)
  book_stays = grind arith

  -- the receiver and the dead stay in the book, whatever events come
  fold_stays : (es : List (Event T)) (book : Book)
      → ((fold book_after book es).receiver ≡ book.receiver) × ((fold book_after book es).dead ≡ book.dead)
  fold_stays [] book = (refl, refl)
  fold_stays (e ∷ es) book =
      let rest = fold_stays es (book_after book e) in
      let one = book_stays e book in
      (rest.0 ∙ one.0, rest.1 ∙ one.1)

  -- a step after which its call goes on leaves the receiver and the dead in the book
  book_goes_on : (words : List ℕ) (push : Option (ℕ × ℕ)) (p : ℕ) (start : LoanStart) (flight next : LoanFlight) (old : ℕ) (book : Book)
      → after {T = T} book.places flight old ≡ GoOn next
      → ((step {T = T} words push p start flight old book).kept.receiver ≡ book.receiver)
      × ((step {T = T} words push p start flight old book).kept.dead ≡ book.dead)
  book_goes_on = grind (arith, not_ended, fold_stays)

-- ---- sums

lost_or : (b : Bool) (new old more : ℕ) → new ≤ old + more → cond b 0 new ≤ cond b 0 old + more
lost_or = grind arith

lost_none : (b : Bool) (new old : ℕ) → b ≡ true → cond b 0 new ≤ cond b 0 old
lost_none = grind arith

module _ {T : Type 0} (code : Coding T) (slots queue : ℕ) where
  abbrev pub P : Trace T → Type 0
  P t = frame.Sound (channel code slots queue) t

  module _ (t : Trace T) (sound : P t) where
    abbrev s : Channel T
    s = sound.state

    abbrev pub r : ℕ
    r = s.book.receiver

    abbrev pub dead : Bool
    dead = has_died r s.book.dead

    pub is_kept : t.world.kept ≡ registries.Loan s.book
    is_kept = (kept_is t.world.kept t.world.words s sound.fit).kept

    -- no sender is the receiver
    pub not_sender : r ≢ 0
    not_sender e =
        let keeps = sound.holds.parts.placed.keeps.receiver in
        let same = ap receiver_of sound.holds.same in
        let some = sound.holds.receivers.0 in
        absurd (omega arith)

    pub receivers_are : receivers_left slots t.world.words t.world.kept t.world.latest
        ≡ cond dead 0 (receiver_left (read_at slots t.world.words) (party_of r t.world.latest))
    receivers_are = ap (λ kept. receivers_left slots t.world.words kept t.world.latest) is_kept

    -- the sizes of the channel
    abbrev sizes : Sizes
    sizes =
        record { slots = slots; queue = queue; some = sound.holds.parts.set.some; few = sound.holds.parts.set.few; fits = sound.holds.parts.few }

    -- ---- what a step says, by the call

    module _ (p steps : ℕ) where
      abbrev step_there : Registry T → Start T → Flight T → Step (Flight T) (Registry T) T
      step_there kept start flight =
          step_of t.world.coding t.world.words (beside_of t.world.words kept t.world.latest p) p start flight
          (old_of t.world.words (ask_of (want_of t.world.coding flight))) kept

      abbrev Sends : Flight T → Step (Flight T) (Registry T) T → Type 0
      Sends flight st =
          (p ≡ 0) × (AllCosts T sizes t.world.words flight (ask_of (want_of t.world.coding flight)) st.after
          ⊎ ((dead ≡ true) × (allowance slots flight ≡ most_sending slots)))

      -- the step of the living receiver leaves its call fewer steps
      abbrev Receives : Flight T → Step (Flight T) (Registry T) T → Type 0
      Receives flight st =
          (p ≢ 0) × (p ≡ r) × (dead ≡ false)
          × Fewer T slots queue t.world.words s.book.places steps (ask_of (want_of t.world.coding flight)) flight st.after

      record Says (flight : Flight T) (st : Step (Flight T) (Registry T) T) : Type 0 where
        pub same : (next : Flight T) → st.after ≡ GoOn next → (receiver_in st.kept ≡ r) × (is_lost st.kept ≡ dead)
        pub side : Sends flight st ⊎ Receives flight st

      abbrev loan_step : LoanStart → LoanFlight → Step (Flight T) (Registry T) T
      loan_step start flight = step_there (registries.Loan s.book) (starts.Loan start) (flights.Loan flight)

      abbrev book_then : LoanStart → LoanFlight → Book
      book_then start flight =
          (step {T = T} t.world.words (beside_of {T = T} t.world.words (registries.Loan s.book) t.world.latest p) p start flight
          (old_of t.world.words (ask_of (want flight))) s.book).kept

      -- a step of a loan call that goes on leaves who the receiver is, and whether it has died
      same_book : (start : LoanStart) (flight : LoanFlight) (next : Flight T) → (loan_step start flight).after ≡ GoOn next
          → (receiver_in (loan_step start flight).kept ≡ r) × (is_lost (loan_step start flight).kept ≡ dead)
      same_book start flight next after_is = go (after s.book.places flight (old_of t.world.words (ask_of (want flight)))) refl
        where
          go : (a : After LoanFlight (Answer T)) → after s.book.places flight (old_of t.world.words (ask_of (want flight))) ≡ a
              → (receiver_in (loan_step start flight).kept ≡ r) × (is_lost (loan_step start flight).kept ≡ dead)
          go (GoOn on) told =
              let stays =
              book_goes_on {T = T} t.world.words (beside_of {T = T} t.world.words (registries.Loan s.book) t.world.latest p) p start
              flight on (old_of t.world.words (ask_of (want flight))) s.book told in
              (stays.0, ap (λ q. has_died q (book_then start flight).dead) stays.0 ∙ ap (λ ds. has_died r ds) stays.1)
          go (Done answer) told =
              let over : (loan_step start flight).after ≡ Done answer = ap (λ a. as_call flights.Loan (λ answer. answer) a) told in
              absurd (cc)

      module _ (x : Party T) (since : ℕ) (same_steps : x.steps ≡ steps) where
        abbrev StandsAt : LoanStart → LoanFlight → Type 0
        StandsAt start flight = StandsThere (channel code slots queue) t sound p x since (starts.Loan start) (flights.Loan flight)

        abbrev SaysOf : LoanStart → LoanFlight → Type 0
        SaysOf start flight = Says (flights.Loan flight) (loan_step start flight)

        abbrev CostsOf : LoanFlight → Type 0
        CostsOf flight = CallCosts T sizes t.world.words s.book.places flight

        -- a step of the sender in a call whose costs are counted (`CostsOf`) is as `Says` asks
        sends : (start : LoanStart) (flight : LoanFlight) → p ≡ 0 → CostsOf flight → SaysOf start flight
        sends start flight mine costs = record { same = same_book start flight; side = inl (mine, inl costs) }

        -- a step of the sender that leaves the read position
        keeps : (start : LoanStart) (flight : LoanFlight) → p ≡ 0 → Keeps slots t.world.words (ask_of (want flight))
            → allowance {T = T} slots (flights.Loan flight) ≡ most_sending slots → SaysOf start flight
        keeps start flight mine stays is_most =
            sends start flight mine
            (any_costs T sizes t.world.words flight
            (after s.book.places flight (old_of t.world.words (ask_of (want flight)))) stays is_most)

        -- a step of a give-back that goes on leaves the receiver fewer steps to take
        gives : (by : ℕ) (run : Running (Part (Push ℕ)) ℕ (Unit {0})) (index : ℕ) → run.call.base ≡ completion_word slots queue
            → run.call.call.capacity ≡ slots → run.given ≡ index → KnowsPush one_word slots s.completion index run.call.call.stage
            → steps ≤ push_number 1 run.call.call.stage → TakesOne T slots queue t.world.words s.book.places steps (GiveBack by run)
        gives by run index base long given known within =
            let named : ℕ → ℕ → ℕ → LoanFlight =
            λ base capacity given. GiveBack by
            (record { call = record { base = base; call = push_on capacity run.call.call.stage }; given = given; room = tt }) in
            let same : GiveBack by run ≡ give_at slots queue by index run.call.call.stage =
            ap (λ base. named base run.call.call.capacity run.given) base
            ∙ (ap (λ c. named (completion_word slots queue) c run.given) long ∙ ap (λ i. named (completion_word slots queue) slots i) given)
            in
            subst (λ flight. TakesOne T slots queue t.world.words s.book.places steps flight) (sym same)
            (give_back_takes T slots queue t.world.words s.book.places s.completion by index steps run.call.call.stage known within)

        receives : (by : ℕ) (run : Running (Part Pop) (Unit {0}) OneWord) → run.call.base ≡ submission_word slots
            → run.call.call.capacity ≡ queue → TakesOne T slots queue t.world.words s.book.places steps (Receive by run)
        receives by run base long =
            let named : ℕ → ℕ → LoanFlight =
            λ base capacity. Receive by
            (record { call = record { base = base; call = record { capacity = capacity; stage = run.call.call.stage } }; given = tt; room = run.room }) in
            let same : Receive by run ≡ receive_at slots queue by run.call.call.stage run.room =
            ap (λ base. named base run.call.call.capacity) base ∙ ap (λ c. named (submission_word slots) c) long
            in
            subst (λ flight. TakesOne T slots queue t.world.words s.book.places steps flight) (sym same)
            (receive_takes T slots queue t.world.words s.book.places by steps run.room run.call.call.stage)

        -- a step of a call of a living party costs or takes what `Says` states, by the call
        call_says : (start : LoanStart) (flight : LoanFlight) → has_died (rows.party_of flight) s.book.dead ≡ false
            → StandsAt start flight → SaysOf start flight
        call_says calls.Loan (Loan run) alive there =
            let stands = there.at in
            keeps calls.Loan (Loan run) stands.0
            (subst (λ n. Keeps slots t.world.words (ask_of (acquire_asks n run.call.stage))) (sym stands.1)
            (acquire_keeps sizes t.world.words s.set run.call.stage stands.3)) refl
        call_says (calls.Send index) (Send run) alive there =
            let stands = there.at in
            sends (calls.Send index) (Send run) stands.0
            (subst (λ n. CostsOf (send_at n run.call.queue run.given run.call.stage)) (sym stands.1)
            (rw stands.2 (send_costs_so T sizes t.world.words s.book.places s index run.given run.call.stage stands.5)))
        call_says (calls.GiveUp index) (GiveUp run) alive there =
            let stands = there.at in
            keeps (calls.GiveUp index) (GiveUp run) stands.0
            (subst (λ n. Keeps slots t.world.words (ask_of (back_asks n run.given run.call.stage))) (sym stands.1)
            (rw stands.2
            (release_keeps sizes t.world.words index (gives_below slots queue s index run.call.stage stands.4) run.call.stage))) refl
        call_says calls.TakeBack (TakeBack run) alive there =
            let stands = there.at in
            keeps calls.TakeBack (TakeBack run) stands.0
            (subst (λ n. Keeps slots t.world.words (ask_of (take_back_asks n run.call.queue run.call.stage))) (sym stands.1)
            (rw stands.2 (take_back_keeps T sizes t.world.words s run.call.stage stands.4))) refl
        call_says calls.Receive (Receive by run) alive there =
            let stands = there.at in
            let lives : has_died p s.book.dead ≡ false = subst (λ q. has_died q s.book.dead ≡ false) stands.1 alive in
            let known = stands.5 lives in
            record {
              same = same_book calls.Receive (Receive by run);
              side = inr (
                stands.0,
                known.0,
                subst (λ q. has_died q s.book.dead ≡ false) known.0 lives,
                receives by run stands.2 stands.3,
              );
            }
        call_says (calls.GiveBack index) (GiveBack by run) alive there =
            let stands = there.at in
            let lives : has_died p s.book.dead ≡ false = subst (λ q. has_died q s.book.dead ≡ false) stands.1 alive in
            let known = stands.7 lives in
            record {
              same = same_book (calls.GiveBack index) (GiveBack by run);
              side = inr (
                stands.0,
                known.0,
                subst (λ q. has_died q s.book.dead ≡ false) known.0 lives,
                gives by run index stands.2 stands.3 stands.4 known.2 (subst (λ n. n ≤ push_number 1 run.call.call.stage) same_steps there.steps),
              );
            }
        call_says calls.Reclaim (Reclaim call) alive there =
            let stands = there.at in
            record { same = same_book calls.Reclaim (Reclaim call); side = inl (stands.0, inr (stands.3.dead, refl)) }
        call_says start flight alive there = absurd there.at

        -- a step of any call that no row refuses costs or takes what `Says` states
        says : (start : Start T) (flight : Flight T) → first_row (going_rows t.world.coding t.world.kept (Some flight) None) ≡ None
            → StandsThere (channel code slots queue) t sound p x since start flight
            → Says flight (step_there (registries.Loan s.book) start flight)
        says (starts.Loan start) (flights.Loan flight) passed there = call_says start flight (lives code slots queue t sound flight None passed) there
        says start flight passed there = absurd there.at

    -- the turn lowers the weight by its steps, but for the calls that it ends
    abbrev pub Shows : ℕ → World T → List (Event T) → Type 0
    Shows taken then_so es = taken + weight slots then_so ≤ weight slots t.world + ends es * (13 * slots + 12)

    -- ---- a call goes on

    -- the sender's call has taken no more steps than it may take
    module _ (s' : Channel T) where
      sender_few : (p backs : ℕ) (wrote : List (Event T)) (start : LoanStart) (flight : LoanFlight) → p ≡ 0
          → At slots queue s' p wrote start flight
          → knows.number_of slots wrote flight backs ≤ allowance {T = T} slots (flights.Loan flight)
      sender_few = grind arith

      few_any : (p backs : ℕ) (start : Start T) (flight : Flight T) → p ≡ 0 → (channel code slots queue).At s' p start flight
          → (channel code slots queue).number ((channel code slots queue).written s' p flight) flight backs ≤ allowance slots flight
      few_any = grind (arith, sender_few)

    module _ (p : ℕ) (x : Party T) (flight : Flight T) (since : ℕ) (found : party_of p t.world.latest ≡ Some x)
        (doing : x.doing ≡ Going flight since)
        (passed : first_row (going_rows t.world.coding t.world.kept (Some flight) None) ≡ None) where
      abbrev ask : Option Ask
      ask = ask_of (want_of t.world.coding flight)

      abbrev change : ℕ
      change = change_of t.world.words ask

      abbrev steps : ℕ
      steps = step_count ask

      abbrev st : Step (Flight T) (Registry T) T
      st = step_in t.world p x flight (old_of t.world.words ask)

      abbrev y : Party T
      y = party_after x since t.world.changes steps change st

      abbrev new : World T
      new = after_step t.world p x since ask st

      abbrev told : List (Event T)
      told = events_of_step p x.start st

      abbrev old_rest : Option (Party T) → ℕ
      old_rest o = receiver_left (read_at slots t.world.words) o

      abbrev new_rest : Option (Party T) → ℕ
      new_rest o = receiver_left (read_at slots new.words) o

      says_now : Says p x.steps flight st
      says_now =
          subst (λ kept. Says p x.steps flight (step_there p x.steps kept x.start flight)) (sym is_kept)
          (says p x.steps x since refl x.start flight passed (stands_there (channel code slots queue) t sound p x since flight found doing))

      module _ (later : P (record { world = new; events = t.events ++ told })) (next : Flight T) (after_is : st.after ≡ GoOn next) where
        going : y.doing ≡ Going next (since + change)
        going = ap (λ a. doing_after (t.world.changes + change) (since + change) a) after_is

        here : party_of p new.latest ≡ Some y
        here = party_put_same p y t.world.latest

        there : (q : ℕ) → q ≢ p → party_of q new.latest ≡ party_of q t.world.latest
        there q ne = party_put_other q p y t.world.latest ne

        -- what the receiver has left afterwards, at the read position that the step left
        rest_then : (o : Option (Party T)) → party_of r new.latest ≡ o
            → receivers_left slots new.words new.kept new.latest ≡ cond dead 0 (new_rest o)
        rest_then o party_is =
            let same = says_now.same next after_is in
            ap (λ b. cond b 0 (new_rest (party_of (receiver_in new.kept) new.latest))) same.1
            ∙ (ap (λ q. cond dead 0 (new_rest (party_of q new.latest))) same.0 ∙ ap (λ o. cond dead 0 (new_rest o)) party_is)

        -- ---- the sender's

        module _ (mine : p ≡ 0) where
          sender_then : sender_left slots (party_of 0 new.latest) ≡ allowance slots next - (x.steps + steps)
          sender_then =
              ap (sender_left slots) (subst (λ q. party_of q new.latest ≡ Some y) mine here)
              ∙ ap (λ d. sender_doing slots (x.steps + steps) d) going

          sender_was : sender_left slots (party_of 0 t.world.latest) ≡ allowance slots flight - x.steps
          sender_was =
              ap (sender_left slots) (subst (λ q. party_of q t.world.latest ≡ Some x) mine found)
              ∙ ap (λ d. sender_doing slots x.steps d) doing

          within : x.steps + steps ≤ allowance slots next
          within =
              let stands =
              stands_there (channel code slots queue) (record { world = new; events = t.events ++ told }) later p y (since + change) next here going
              in
              let most = few_any later.state p y.backs x.start next mine stands.at in
              let few = stands.steps in
              omega arith

          rest_same : receivers_left slots new.words new.kept new.latest ≡ cond dead 0 (new_rest (party_of r t.world.latest))
          rest_same = rest_then (party_of r t.world.latest) (there r (λ same. not_sender (same ∙ mine)))

          abbrev Less : Type 0
          Less = steps + weight slots new ≤ weight slots t.world

          -- a step that leaves the read position and allows no more lowers the weight
          costs_none : Keeps slots t.world.words ask × (allowance slots next ≤ allowance slots flight) → Less
          costs_none h =
              let same : new_rest (party_of r t.world.latest) ≡ old_rest (party_of r t.world.latest) =
              ap (λ read. receiver_left read (party_of r t.world.latest)) h.0 in
              let less = h.1 in
              let rest : cond dead 0 (new_rest (party_of r t.world.latest)) ≡ cond dead 0 (old_rest (party_of r t.world.latest)) = ap (cond dead 0) same in
              let all = rest_same ∙ (rest ∙ sym receivers_are) in
              let then_so = sender_then in
              let was = sender_was in
              let few = within in
              omega arith

          -- a step that allows two steps fewer lowers the weight, even if it moved the read position
          costs_two : allowance slots next + 2 ≤ allowance slots flight → Less
          costs_two less =
              let moved = receiver_moved (read_at slots t.world.words) (read_at slots new.words) (party_of r t.world.latest) in
              let rest = lost_or dead (new_rest (party_of r t.world.latest)) (old_rest (party_of r t.world.latest)) 2 moved in
              let same = rest_same in
              let old = receivers_are in
              let then_so = sender_then in
              let was = sender_was in
              let few = within in
              omega arith

          -- where the receiver has died its steps count for nothing, so the sender's step lowers the weight
          costs_nobody : (dead ≡ true) × (allowance slots flight ≡ most_sending slots) → Less
          costs_nobody lost =
              let rest = lost_none dead (new_rest (party_of r t.world.latest)) (old_rest (party_of r t.world.latest)) lost.0 in
              let most = allowance_most slots next in
              let same = rest_same in
              let old = receivers_are in
              let then_so = sender_then in
              let was = sender_was in
              let few = within in
              omega (arith, lost.1)

          -- a step of the sender lowers the weight by the steps that it takes, where it costs the receiver
          -- nothing, has paid, or the receiver has died
          sends_less : AllCosts T sizes t.world.words flight ask st.after
              ⊎ ((dead ≡ true) × (allowance slots flight ≡ most_sending slots)) → Less
          sends_less h =
              ⊎_elim
              (λ costs. ⊎_elim costs_none costs_two (subst (λ a. AllCosts T sizes t.world.words flight ask a) after_is costs))
              costs_nobody h

        -- ---- the receiver's

        -- a step of the receiver lowers the weight
        receives_less : Receives p x.steps flight st → steps + weight slots new ≤ weight slots t.world
        receives_less received =
            let ne = received.0 in
            let is = received.1 in
            let alive = received.2 in
            let fewer = subst (λ a. Fewer T slots queue t.world.words s.book.places x.steps ask flight a) after_is received.3 in
            let mine : party_of r new.latest ≡ Some y = rw (← is) here in
            let was : party_of r t.world.latest ≡ Some x = rw (← is) found in
            let now : new_rest (Some y) ≡ receiver_call (read_at slots new.words) (x.steps + steps) next =
            ap (λ d. receiver_doing (read_at slots new.words) (x.steps + steps) d) going in
            let before : old_rest (Some x) ≡ receiver_call (read_at slots t.world.words) x.steps flight =
            ap (λ d. receiver_doing (read_at slots t.world.words) x.steps d) doing in
            let then_so : receivers_left slots new.words new.kept new.latest ≡ new_rest (Some y) =
            rest_then (Some y) mine ∙ ap (λ b. cond b 0 (new_rest (Some y))) alive in
            let so : receivers_left slots t.world.words t.world.kept t.world.latest ≡ old_rest (Some x) =
            receivers_are ∙ (ap (λ o. cond dead 0 (old_rest o)) was ∙ ap (λ b. cond b 0 (old_rest (Some x))) alive) in
            let sender : sender_left slots (party_of 0 new.latest) ≡ sender_left slots (party_of 0 t.world.latest) =
            ap (sender_left slots) (there 0 (λ same. ne (sym same))) in
            omega arith

        less : steps + weight slots new ≤ weight slots t.world
        less = ⊎_elim (λ h. sends_less h.0 h.1) receives_less says_now.side

      -- each step lowers the weight, or ends a call
      pub goes_on : P (record { world = new; events = t.events ++ told }) → Shows steps new told
      goes_on later = go st.after refl
        where
          go : (a : After (Flight T) (Answer T)) → st.after ≡ a → Shows steps new told
          go (GoOn next) after_is = omega (arith, less later next after_is)
          go (Done answer) after_is =
              let most = weight_most slots new in
              let one = steps_small ask in
              let more = ended_more st.wrote (ending_of p x.start (answer_in st.after)) in
              let end : ends (ending_of p x.start (answer_in st.after)) ≡ 1 = rw after_is refl in
              let paid = worth 1 (ends told) (13 * slots + 12) (omega arith) in
              omega arith

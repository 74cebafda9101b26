-- The loan channel is lock-free: each turn that ends no call lowers the weight (`Weight`) of its sender and
-- its receiver by the steps that it takes.
use Rattle.laws_loan.proofs.Names.{◌≡◌, ◌≢◌, ℕ, ◌+◌, ◌-◌, ◌*◌, ◌^◌, ◌<◌, ◌≤◌, ⊎_elim, Bool, true, false, Option, Some, None, List}
use Rattle.laws_loan.proofs.Names.{◌++◌, refl, sym, ap, subst, ◌∙◌, cases_eq, cases_lt, Event, Start, Flight, Book, Party, Doing, Turn}
use Rattle.laws_loan.proofs.Names.{Begin, Next, Decide, Die, Coding, first_of, kept_after_begin, kept_after_death}
use Rattle.laws_loan.proofs.Names.{going_rows, first_row, has_died, dead_with, party_put_other, old_of}
use Rattle.laws_loan.proofs.Names.{step_count, party_at_begin, Trace, flight_in, after_begin, after_next}
use Rattle.laws_loan.proofs.Names.{after_answer, events_of_next, events_of_answer, refusal_of, call_refusal}
use Rattle.laws_loan.proofs.Names.{passes, may_begin, next_passes, doing_of, flight_of, AllByRecursion, [], ◌∷◌}
use Rattle.std.proofs.Common.{cond, arith, is_none}
use Rattle.model.specs.declared.families.Registry.TheVariants as registries
use Rattle.model.specs.declared.party.Doing.TheVariants.{Going, Over}
use Rattle.model.specs.declared.turn.Kind.TheVariants as kinds
use Rattle.model.specs.LockFree.{ends, steps_of, steps_in, AreWithinEnds, HasLockFreeRuns}
use Rattle.model.specs.Parties.{party_of}
use Rattle.model.specs.Promises.Turns.{ask_of_flight}
use Rattle.model.specs.Refusals.{is_due}
use Rattle.model.specs.Turns.{ask_of_doing, after_turn, after_turns, world_after, events_of}
use Rattle.model.specs.World.{World}
use Rattle.model.proofs.Dead.{died_now, died_before}
use Rattle.model.proofs.Frame as frame
use Rattle.model.proofs.Frame.{is_true}
use Rattle.model.proofs.LockFree.Measure.{worth}
use Rattle.model.proofs.LockFree.Stays.{under_way}
use Rattle.model.proofs.LockFree.Weighed.{Weighs, runs_end}
use Rattle.model.proofs.Rows.{may_next, may_decide, must_be_due}
use Rattle.laws_loan.specs.LockFree.{KeepsEndingRuns, channel_bound}
use Rattle.laws_loan.proofs.Laws.{laws, asks_nothing, reached}
use Rattle.laws_loan.proofs.Lowers.{P, r, dead, is_kept, not_sender, receivers_are, Shows, goes_on}
use Rattle.laws_loan.proofs.StepLaw.{channel}
use Rattle.laws_loan.proofs.Weight.{sender_left, receiver_left, receivers_left, receiver_in, is_lost, read_at, weight, weight_most}
use Rattle.laws_loan.proofs.Weight.{sender_most, receiver_most, most_sending}

-- ---- a party without a call

module _ {T : Type 0} where
  -- the sender without a call may still take the most steps of a call
  free_sender : (slots : ℕ) (o : Option (Party T)) → flight_of (doing_of o) ≡ None → sender_left slots o ≡ most_sending slots
  free_sender = grind arith

  -- the receiver without a call may still take four steps
  free_receiver : (read : ℕ) (o : Option (Party T)) → flight_of (doing_of o) ≡ None → receiver_left read o ≡ 4
  free_receiver = grind arith

  -- a begin leaves who the receiver is, and who has died
  begun_same : (code : Coding T) (slots : ℕ) (start : Start T) (p : ℕ) (book : Book)
      → (receiver_in (kept_after_begin code slots start p (registries.Loan book)) ≡ book.receiver)
      × (is_lost (kept_after_begin code slots start p (registries.Loan book)) ≡ has_died book.receiver book.dead)
  begun_same = grind arith

-- a death makes no receiver's steps count for more
dies : (q owner : ℕ) (dead : List ℕ) (left : ℕ) → cond (has_died q (dead_with owner dead)) 0 left ≤ cond (has_died q dead) 0 left
dies = grind (arith, died_now, died_before)

module _ {T : Type 0} (code : Coding T) (slots queue : ℕ) (t : Trace T) (sound : P code slots queue t) where
  abbrev w : World T
  w = t.world

  -- the party that is the receiver at the end of the trace
  abbrev now : ℕ
  now = r code slots queue t sound

  -- whether the receiver has died
  abbrev lost : Bool
  lost = dead code slots queue t sound

  -- a turn that takes `taken` steps, to the machine `new`, and writes `es` lowers the weight by as much,
  -- but for the ends (`Shows`, Lowers)
  abbrev TurnLowers : ℕ → World T → List (Event T) → Type 0
  TurnLowers taken new es = Shows code slots queue t sound taken new es

  -- ---- a call begins

  -- the begin of a call makes the weight no greater, where its party has no call under way
  begins : (p : ℕ) (start : Start T) → (o : Option (Flight T)) → is_none o ≡ false → flight_in w p ≡ None
      → weight slots (after_begin w p start o) ≤ weight slots w
  begins p start None under_way free = absurd (cc)
  begins p start (Some flight) under_way free = ⊎_elim sender other (cases_eq p 0)
    where
      -- the machine once the call has begun
      new : World T
      new = after_begin w p start (Some flight)

      -- the begin leaves who the receiver is, and whether it has died
      same : (receiver_in new.kept ≡ now) × (is_lost new.kept ≡ lost)
      same =
          subst (λ kept. (receiver_in (kept_after_begin w.coding w.capacity start p kept) ≡ now)
          × (is_lost (kept_after_begin w.coding w.capacity start p kept) ≡ lost))
          (sym (is_kept code slots queue t sound)) (begun_same w.coding w.capacity start p sound.state.book)

      -- the begin leaves the call of any other party
      there : (q : ℕ) → q ≢ p → party_of q new.latest ≡ party_of q w.latest
      there q ne = party_put_other q p (party_at_begin start flight w.changes) w.latest ne

      -- the steps that the receiver may still take
      left : Option (Party T) → ℕ
      left o = receiver_left (read_at slots w.words) o

      -- what is left of the receivers after the begin is what is left of the receiver's call
      rest : receivers_left slots new.words new.kept new.latest ≡ cond lost 0 (left (party_of now new.latest))
      rest =
          ap (λ b. cond b 0 (left (party_of (receiver_in new.kept) new.latest))) same.1
          ∙ ap (λ q. cond lost 0 (left (party_of q new.latest))) same.0

      -- what was left of the receivers is what was left of the receiver's call
      were : receivers_left slots w.words w.kept w.latest ≡ cond lost 0 (left (party_of now w.latest))
      were = receivers_are code slots queue t sound

      -- where the receiver's call may take no more steps than before, the receiver counts for
      -- no more, dead or not
      no_more : left (party_of now new.latest) ≤ left (party_of now w.latest)
          → receivers_left slots new.words new.kept new.latest ≤ receivers_left slots w.words w.kept w.latest
      no_more le = go lost (rest) were
        where
          -- the cases are whether the receiver has died
          go : (b : Bool) → receivers_left slots new.words new.kept new.latest ≡ cond b 0 (left (party_of now new.latest))
              → receivers_left slots w.words w.kept w.latest ≡ cond b 0 (left (party_of now w.latest))
              → receivers_left slots new.words new.kept new.latest ≤ receivers_left slots w.words w.kept w.latest
          go true left_new left_old = omega arith
          go false left_new left_old = omega arith

      -- the begin of the sender's call makes the weight no greater
      sender : p ≡ 0 → weight slots new ≤ weight slots w
      sender mine =
          let most = sender_most slots (party_of 0 new.latest) in
          let was = free_sender slots (party_of 0 w.latest) (subst (λ q. flight_in w q ≡ None) mine free) in
          let stays = ap left (there now (λ under_way. not_sender code slots queue t sound (under_way ∙ mine))) in
          let rests = no_more (omega arith) in
          omega arith

      -- the begin of another party's call makes the weight no greater
      other : p ≢ 0 → weight slots new ≤ weight slots w
      other ne =
          let same_sender = ap (sender_left slots) (there 0 (λ under_way. ne (sym under_way))) in
          let rests = no_more (⊎_elim receives neither (cases_eq p now)) in
          omega arith
        where
          -- where the receiver itself begins, it counts for no more than before
          receives : p ≡ now → left (party_of now new.latest) ≤ left (party_of now w.latest)
          receives is_now =
              let most = receiver_most (read_at slots w.words) (party_of now new.latest) in
              let was = free_receiver (read_at slots w.words) (party_of now w.latest) (subst (λ q. flight_in w q ≡ None) is_now free) in
              omega arith

          -- where another party begins, the receiver counts for as much as before
          neither : p ≢ now → left (party_of now new.latest) ≤ left (party_of now w.latest)
          neither ne = let stays = ap left (there now (λ under_way. ne (sym under_way))) in omega arith

  -- ---- a call goes on

  -- a step of a call, whatever the machine has of its party, lowers the weight or ends a call
  nexts : (p : ℕ) (flight : Flight T) → flight_in w p ≡ Some flight → first_row (going_rows w.coding w.kept (flight_in w p) None) ≡ None
      → (o : Option (Party T)) → party_of p w.latest ≡ o
      → P code slots queue (record { world = after_next w p o; events = t.events ++ events_of_next w p o })
      → TurnLowers (step_count (ask_of_flight w.coding (flight_of (doing_of o)))) (after_next w p o) (events_of_next w p o)
  nexts p flight flight_is passed None found later = let none : flight_in w p ≡ None = ap (λ o. flight_of (doing_of o)) found in absurd (cc)
  nexts p flight flight_is passed (Some x) found later = go x.doing refl later
    where
      -- the cases are whether the party's call has ended or is under way
      go : (d : Doing T) → x.doing ≡ d
          → P code slots queue
          (record {
            world = after_answer w p x (ask_of_doing w.coding d) (old_of w.words (ask_of_doing w.coding d)) d;
            events = t.events ++ events_of_answer w p x (old_of w.words (ask_of_doing w.coding d)) d;
          })
          → TurnLowers (step_count (ask_of_flight w.coding (flight_of (Some d))))
          (after_answer w p x (ask_of_doing w.coding d) (old_of w.words (ask_of_doing w.coding d)) d)
          (events_of_answer w p x (old_of w.words (ask_of_doing w.coding d)) d)
      go (Over others) doing_is later =
          let none : flight_in w p ≡ None = ap (λ o. flight_of (doing_of o)) found ∙ ap (λ d. flight_of (Some d)) doing_is in
          absurd (cc)
      go (Going on since) doing_is later =
          let here : flight_in w p ≡ Some on = ap (λ o. flight_of (doing_of o)) found ∙ ap (λ d. flight_of (Some d)) doing_is in
          goes_on code slots queue t sound p x on since found doing_is
          (rw (← here) passed) later

  -- ---- any turn

  -- any turn that is not refused lowers the weight by its steps, but for the ends
  shows : (turn : Turn T) → call_refusal w turn ≡ None → P code slots queue (after_turn t turn)
      → TurnLowers (steps_of w turn) (world_after w turn) (events_of w turn)
  shows (Begin p start) not_refused later =
      let may = may_begin w p start not_refused in
      let less = begins p start (first_of w.kind w.capacity start w.kept) may.call may.free in
      omega arith
  shows (Next p) not_refused later =
      let passed = next_passes w p not_refused in
      go (flight_in w p) refl passed
    where
      -- the cases are whether the party has a call under way
      go : (o : Option (Flight T)) → flight_in w p ≡ o → first_row (going_rows w.coding w.kept (flight_in w p) None) ≡ None
          → TurnLowers (steps_of w (Next p)) (world_after w (Next p)) (events_of w (Next p))
      go None is passed = let may = may_next w p not_refused in absurd (let one = may.is in cc)
      go (Some flight) flight_is passed = nexts p flight flight_is passed (party_of p w.latest) refl later
  shows (Decide p said) not_refused later =
      let may = may_decide w p said not_refused in
      let under = under_way w p may.flight may.is in
      let due = is_true (is_due w.coding (flight_in w p)) (must_be_due w p said not_refused) in
      asks_nothing code slots queue t p under.party may.flight under.since sound under.found under.doing (rw may.is at due)
  shows (Die owner) not_refused later =
      let kept = is_kept code slots queue t sound in
      let new = ap (λ kept. receivers_left slots w.words (kept_after_death kept owner) w.latest) kept in
      let were = receivers_are code slots queue t sound in
      let less = dies now owner sound.state.book.dead (receiver_left (read_at slots w.words) (party_of now w.latest)) in
      omega arith

-- ---- every run

module _ {T : Type 0} where
  abbrev any_turn : Turn T → Type 0
  any_turn turn = Unit {0}

  -- every turn is one of `any_turn`
  any_turns : (turns : List (Turn T)) → AllByRecursion any_turn turns
  any_turns [] = tt
  any_turns (turn ∷ turns) = (tt, any_turns turns)

  -- the weight is one by which the channel is lock-free: it is at most 13 times the number of slots, and 11
  weighs : (code : Coding T) (slots queue : ℕ) → Weighs refusal_of any_turn (P code slots queue) (weight slots) (13 * slots + 11)
  weighs code slots queue =
      record {
        keeps = λ t turn e may h. keeps t turn e h;
        most = λ t h. weight_most slots t.world;
        shows = λ t turn e may h. (let less = shows code slots queue t h turn (passes t.world turn e).on (keeps t turn e h) in omega arith);
      }
    where
      -- a turn that is not refused keeps what `P` says
      keeps : (t : Trace T) (turn : Turn T) → refusal_of t.world turn ≡ None → P code slots queue t → P code slots queue (after_turn t turn)
      keeps t turn not_refused h =
          let passed = passes t.world turn not_refused in
          frame.turn_sound (channel code slots queue) (λ t turn. t.world.turns < 2 ^ 64 - 2) (laws code slots queue) t turn passed.on passed.turns h

  -- calls keep ending in the runs of a loan channel
  pub channel_keeps_ending : KeepsEndingRuns T kinds.Loan channel_bound
  channel_keeps_ending t is h turns allowed =
      let there = reached t is h in
      runs_end refusal_of any_turn (P t.world.coding t.world.capacity there.0)
      (weighs t.world.coding t.world.capacity there.0) t there.1 turns allowed (any_turns turns)

  -- in more steps than the bound at least one call ends
  pub channel_one_ends : HasLockFreeRuns T kinds.Loan channel_bound
  channel_one_ends t is h turns allowed many = ⊎_elim (λ less. less) none (cases_lt (ends t.events) (ends (after_turns t turns).events))
    where
      -- between two ends of calls the turns take at most the bound of steps
      within : AreWithinEnds (13 * t.world.capacity + 11) (steps_in t turns) (ends t.events) (ends (after_turns t turns).events)
      within = channel_keeps_ending t is h turns allowed

      -- if no further call ended, there would be no more steps than the bound
      none : ends (after_turns t turns).events ≤ ends t.events → ends t.events < ends (after_turns t turns).events
      none le =
          let paid = worth (ends (after_turns t turns).events) (ends t.events) (13 * t.world.capacity + 12) le in
          let all = within in
          absurd (omega arith)

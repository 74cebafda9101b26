-- What each turn of a robust index set, or of a container, owes so that its counter stays bounded, and so every open run.
use Rattle.std.proofs.Common.{◌≡◌, ◌≢◌, inl, inr, ℕ, ◌+◌, ◌*◌, ◌<◌, ◌≤◌, ◌==◌, Bool, true, false, true≢false}
use Rattle.std.proofs.Common.{Option, Some, None, is_none, List, [], ◌∷◌, ◌++◌}
use Rattle.std.proofs.Common.{length, refl, sym, ap, subst, ◌∙◌, arith, eq-eqb}
use Rattle.steps.specs.Indices.Robust.Parts.{locked}
use Rattle.steps.specs.declared.ask.After.{After}
use Rattle.steps.specs.declared.ask.After.TheVariants.{GoOn, Done}
use Rattle.steps.specs.declared.ask.Ask.{Ask}
use Rattle.model.specs.declared.event.Answer.{Answer}
use Rattle.model.specs.declared.event.Event.{Event}
use Rattle.model.specs.declared.event.Event.TheVariants.{Begun}
use Rattle.model.specs.declared.event.Start.{Start}
use Rattle.model.specs.declared.families.Flight.{Flight}
use Rattle.model.specs.declared.families.Registry.{Registry}
use Rattle.model.specs.declared.party.Doing.{Doing}
use Rattle.model.specs.declared.party.Doing.TheVariants.{Going, Over}
use Rattle.model.specs.declared.party.Party.{Party}
use Rattle.model.specs.declared.turn.Turn.{Turn}
use Rattle.model.specs.declared.turn.Turn.TheVariants.{Begin, Next, Decide, Die}
use Rattle.model.specs.Families.{first_of, want_of, ask_of, is_question}
use Rattle.model.specs.Families.Indices.Reading.{is_locked}
use Rattle.model.specs.Parties.{party_of, doing_of, flight_of}
use Rattle.model.specs.Reading.{span_of}
use Rattle.model.specs.Refusals.{is_due}
use Rattle.model.specs.Step.{Step, answer_in}
use Rattle.lemmas.proofs.Open.{possible_open}
use Rattle.model.specs.Turns.{old_of, words_after, number_of, ask_of_doing, party_at_begin, after_begin, doing_after, after_step, step_in}
use Rattle.model.specs.Turns.{after_answer, events_of_step, events_of_answer, after_next, events_of_next}
use Rattle.model.specs.Turns.{after_decision, events_of_decision, events_of, ending_of, after_turn}
use Rattle.model.specs.World.{World, Trace, opening, flight_in}
use Rattle.model.proofs.Counts.{as_long}
use Rattle.model.proofs.Locks.{locked_later}
use Rattle.model.proofs.Parties.{party_put_same, party_put_other}
use Rattle.model.proofs.Readings.{Each-less}
use Rattle.model.proofs.Rows.{MayStart, MayGoOn}
use Rattle.model.specs.Open.{open_refusal, IsReachedOpen}
use Rattle.model.proofs.Reached.{kept_by}
use Rattle.lock_free_owners.specs.Worn.{change, changes, may_lock, is_locking, BeginsAlone, LocksApart}
use Rattle.laws_robust.proofs.Counter.{tested}
use Rattle.lock_free_owners.proofs.Worn.Parts.{moved_none, counts_move}
use Rattle.laws_robust.proofs.Counter.{counter_of}
use Rattle.lock_free_owners.proofs.Worn.Bounded.{credit, late, locks, credit_of, late_of, locks_of, locks_at, counter}
use Rattle.lock_free_owners.proofs.Worn.Bounded.{Bounded, Owes, changes_more, ends_none, bounded_on, bounded_same}

module _ {T : Type 0} where
  -- ---- where a step leaves its party

  -- the call that its party has under way after a step: none if the step ended it
  abbrev pub flight_after : After (Flight T) (Answer T) → Option (Flight T)
  flight_after (GoOn flight) = Some flight
  flight_after (Done answer) = None

  -- The flight behind a step is the one with which the call goes on, if it does.
  doing_is : (changes since : ℕ) (a : After (Flight T) (Answer T)) → flight_of (Some (doing_after changes since a)) ≡ flight_after a
  doing_is changes since a = grind arith

  -- credit and late of the call after a step, 0 where the step ended it
  abbrev pub left : ℕ → After (Flight T) (Answer T) → ℕ
  left new (GoOn flight) = credit flight + late new flight
  left new (Done answer) = 0

  -- The credit of the call behind a step, and what it is late by, are what it has left.
  left_is : (new : ℕ) (a : After (Flight T) (Answer T)) → credit_of (flight_after a) + late_of new (flight_after a) ≡ left new a
  left_is new a = grind arith

  -- a call that goes on may lock just if it could before
  abbrev pub SameLocks : Bool → After (Flight T) (Answer T) → Type 0
  SameLocks may (GoOn flight) = locks flight ≡ may
  SameLocks may (Done answer) = Unit {0}

  -- where a step goes on as a call that may lock, its call was one that may lock
  lock_from : (may : Bool) (a : After (Flight T) (Answer T)) → SameLocks may a → locks_of (flight_after a) ≡ true → may ≡ true
  lock_from may a same e = grind arith

  -- ---- what a step keeps to

  -- unless the step locks the counter, what it adds to the counter and leaves to be added is paid
  -- for by the changes that it writes; whether the call may lock stays
  pub record PaysBy (words : List ℕ) (flight : Flight T) (ask : Option Ask) (s : Step (Flight T) (Registry T) T) : Type 0 where
    pub pays : counter_of (words_after words ask) ≢ locked
        → counter_of (words_after words ask) + left (counter_of (words_after words ask)) s.after
        + counts_move (locks flight) (counter_of words) (counter_of (words_after words ask))
        ≤ counter_of words + (credit flight + late (counter_of words) flight) + 3 * changes s.wrote
    pub mode : SameLocks (locks flight) s.after

  -- the step of this party's call, with this answer, pays for what it adds
  abbrev pub StepPays : World T → ℕ → Party T → Flight T → Option Ask → ℕ → Type 0
  StepPays w p x flight ask answer = PaysBy w.words flight ask (step_in w p x flight answer)

  -- the trace after the step `s` of party p
  abbrev pub stepped : Trace T → ℕ → Party T → ℕ → Option Ask → Step (Flight T) (Registry T) T → Trace T
  stepped t p x since ask s = record { world = after_step t.world p x since ask s; events = t.events ++ events_of_step p x.start s }

  -- t is the trace before a step of party p, whose call x it is
  module _ (t : Trace T) (p : ℕ) (x : Party T) (flight : Flight T) (since : ℕ) (ask : Option Ask) (answer : ℕ)
      (found : party_of p t.world.latest ≡ Some x) (doing : x.doing ≡ Going flight since)
      (pays : StepPays t.world p x flight ask answer) where
    -- The step that the party takes.
    abbrev s : Step (Flight T) (Registry T) T
    s = step_in t.world p x flight answer

    -- The trace behind the step.
    abbrev new : Trace T
    new = stepped t p x since ask s

    -- The flight of the party before the step.
    was : flight_in t.world p ≡ Some flight
    was = ap (λ o. flight_of (doing_of o)) found ∙ ap (λ d. flight_of (Some d)) doing

    -- The flight of the party behind the step.
    then_is : flight_in new.world p ≡ flight_after s.after
    then_is = ap (λ o. flight_of (doing_of o)) (party_put_same p _ t.world.latest) ∙ doing_is _ _ s.after

    -- the end of a call is no change, so the step's changes are those that its call wrote
    wrote_is : changes (events_of_step p x.start s) ≡ changes s.wrote
    wrote_is =
        let more = changes_more s.wrote (ending_of p x.start (answer_in s.after)) in
        let none = ends_none p x.start (answer_in s.after) in
        omega arith

    -- what `Owes` says of the counter, where the party's call was `old` and is `now`
    abbrev OwesAs : Option (Flight T) → Option (Flight T) → Type 0
    OwesAs old now =
        counter new + (credit_of now + late_of (counter new) now) + counts_move (locks_of old) (counter t) (counter new)
        ≤ counter t + (credit_of old + late_of (counter t) old) + 3 * changes (events_of_step p x.start s)

    -- a step that keeps to what its call can still add makes a turn that pays for what it adds
    pub step_owes : (counter new ≢ locked → counter t ≢ locked) → Owes t new p (events_of_step p x.start s)
    step_owes opens =
        record {
          wide = as_long t.world.words ask;
          events = refl;
          others = λ q ne. ap (λ o. flight_of (doing_of o)) (party_put_other q p _ t.world.latest ne);
          opens = opens;
          pays = λ open_now.
              subst (λ o. OwesAs o (flight_in new.world p)) (sym was) (subst (OwesAs (Some flight)) (sym then_is)
              (let keeps = pays.pays open_now in let is = left_is (counter new) s.after in let same = wrote_is in omega arith));
          alone = λ e. inl (ap locks_of was ∙ lock_from (locks flight) s.after pays.mode (sym (ap locks_of then_is) ∙ e));
        }

  -- ---- what a begin keeps to

  -- what the call may still add is paid for by its begin, and the call may lock only where its
  -- begin says that it may
  pub record BeginPays (n : ℕ) (p : ℕ) (start : Start T) (flight : Flight T) : Type 0 where
    pub pays : credit flight + late n flight ≤ 3 * change (Begun p start)
    pub mode : locks flight ≡ true → may_lock start ≡ true

  -- the trace after a begin of party p
  abbrev pub begun : Trace T → ℕ → Start T → Option (Flight T) → Trace T
  begun t p start o = record { world = after_begin t.world p start o; events = t.events ++ Begun p start ∷ [] }

  -- t is the trace before a begin of party p
  module _ (t : Trace T) (p : ℕ) (start : Start T) (flight : Flight T) (pays : BeginPays (counter t) p start flight)
      (free : flight_in t.world p ≡ None) (none : locks flight ≡ true → (q : ℕ) → locks_at t q ≡ false) where
    -- The trace behind the begin.
    abbrev after_it : Trace T
    after_it = begun t p start (Some flight)

    -- Behind the begin the party has the first flight of its call.
    begun_is : flight_in after_it.world p ≡ Some flight
    begun_is = ap (λ o. flight_of (doing_of o)) (party_put_same p (party_at_begin start flight t.world.changes) t.world.latest)

    -- what `Owes` says of the counter at a begin, where the party's call was `old` and is `now`
    abbrev BeginOwes : Option (Flight T) → Option (Flight T) → Type 0
    BeginOwes old now =
        counter t + (credit_of now + late_of (counter t) now) + counts_move (locks_of old) (counter t) (counter t)
        ≤ counter t + (credit_of old + late_of (counter t) old) + 3 * changes (Begun p start ∷ [])

    -- A begin makes a turn that pays for what its call has. If the call may lock, no call under way may.
    pub begin_owes : Owes t after_it p (Begun p start ∷ [])
    begin_owes =
        record {
          wide = refl;
          events = refl;
          others = λ q ne. ap (λ o. flight_of (doing_of o)) (party_put_other q p _ t.world.latest ne);
          opens = λ open_now. open_now;
          pays = λ open_now.
              subst (λ o. BeginOwes o (flight_in after_it.world p)) (sym free) (subst (BeginOwes None) (sym begun_is)
              (let keeps = pays.pays in let still = moved_none (counter t) (counter t) refl in omega arith));
          alone = λ e. inr (λ q ne. none (sym (ap locks_of begun_is) ∙ e) q);
        }

  -- ---- a turn

  -- What is known of a machine of either family: each step and each decision pays for what it adds,
  -- each begin for what its call has; a call that may lock has such a span in the events; and the
  -- counter is locked just where the events tell of the lock.
  pub record Facts (t : Trace T) : Type 0 where
    pub steps : 0 < length t.world.words → (p : ℕ) (x : Party T) (flight : Flight T) (since : ℕ)
        → party_of p t.world.latest ≡ Some x → x.doing ≡ Going flight since
        → StepPays t.world p x flight (ask_of (want_of t.world.coding flight)) (old_of t.world.words (ask_of (want_of t.world.coding flight)))
    pub decides : (p : ℕ) (x : Party T) (flight : Flight T) (since : ℕ) (said : Bool) → party_of p t.world.latest ≡ Some x
        → x.doing ≡ Going flight since → is_question (want_of t.world.coding flight) ≡ true
        → StepPays t.world p x flight None (number_of said)
    pub begins : (p : ℕ) (start : Start T) (flight : Flight T) → first_of t.world.kind t.world.capacity start t.world.kept ≡ Some flight
        → BeginPays (counter t) p start flight
    pub spans : (q : ℕ) → locks_at t q ≡ true → is_locking (span_of q t.events) ≡ true
    pub lock : (counter t == locked) ≡ is_locked t.events

  -- a counter that is not locked after further events was not locked before them
  pub opens_by : (t new : Trace T) (es : List (Event T)) → new.events ≡ t.events ++ es
      → (counter t == locked) ≡ is_locked t.events → (counter new == locked) ≡ is_locked new.events → counter new ≢ locked → counter t ≢ locked
  opens_by t new es is before after open_now shut = grind (arith, eq-eqb, locked_later, tested)

  module _ (t : Trace T) (facts : Facts t) (b : Bounded t) where
    -- a call that goes on from this answer; one that is done stays
    answered : (p : ℕ) (x : Party T) (ask : Option Ask) (answer : ℕ) (doing : Doing T) → party_of p t.world.latest ≡ Some x → x.doing ≡ doing
        → ((flight : Flight T) (since : ℕ) → doing ≡ Going flight since → StepPays t.world p x flight ask answer)
        → (counter_of (after_answer t.world p x ask answer doing).words ≢ locked → counter t ≢ locked)
        → Bounded record { world = after_answer t.world p x ask answer doing; events = t.events ++ events_of_answer t.world p x answer doing }
    answered p x ask answer (Over others) found d pays opens = bounded_same t b
    answered p x ask answer (Going flight since) found d pays opens =
        bounded_on t _ p _ (step_owes t p x flight since ask answer found d (pays flight since refl) opens) b

    -- after a turn that goes on with a call, or does nothing, the counter is still bounded
    nexts : (p : ℕ) (o : Option (Party T)) → party_of p t.world.latest ≡ o
        → (counter_of (after_next t.world p o).words ≢ locked → counter t ≢ locked)
        → Bounded record { world = after_next t.world p o; events = t.events ++ events_of_next t.world p o }
    nexts p None found opens = bounded_same t b
    nexts p (Some x) found opens =
        let ask : Doing T → Option Ask = ask_of_doing t.world.coding in
        answered p x (ask x.doing) (old_of t.world.words (ask x.doing)) x.doing found refl
        (λ flight since d. subst (λ a. StepPays t.world p x flight a (old_of t.world.words a)) (sym (ap ask d))
        (facts.steps b.some p x flight since found d))
        opens

    -- after a turn that answers a question, the counter is still bounded
    decides : (p : ℕ) (said : Bool) (o : Option (Party T)) → party_of p t.world.latest ≡ o
        → ((flight : Flight T) → flight_of (doing_of o) ≡ Some flight → is_question (want_of t.world.coding flight) ≡ true)
        → (counter_of (after_decision t.world p said o).words ≢ locked → counter t ≢ locked)
        → Bounded record { world = after_decision t.world p said o; events = t.events ++ events_of_decision t.world p said o }
    decides p said None found due opens = bounded_same t b
    decides p said (Some x) found due opens =
        answered p x None (number_of said) x.doing found refl
        (λ flight since d. facts.decides p x flight since said found d (due flight (ap (λ d. flight_of (Some d)) d))) opens

    -- after a begin, the counter is still bounded, if no two calls that may lock overlap then
    begins : (p : ℕ) (start : Start T) (o : Option (Flight T)) → first_of t.world.kind t.world.capacity start t.world.kept ≡ o
        → is_none (first_of t.world.kind t.world.capacity start t.world.kept) ≡ false → flight_in t.world p ≡ None
        → LocksApart (t.events ++ Begun p start ∷ []) → Bounded (begun t p start o)
    begins p start None e call free apart = let none = rw e at call in absurd (cc)
    begins p start (Some flight) e call free apart =
        let pays = facts.begins p start flight e in
        bounded_on t _ p _ (begin_owes t p start flight pays free (λ may q. none_locks q (apart t.events [] (Begun p start) refl (pays.mode may) q))) b
      where
        -- a party in whose span no call that may lock is under way has none
        none_locks : (q : ℕ) → is_locking (span_of q t.events) ≡ false → locks_at t q ≡ false
        none_locks q e = by (locks_at t q) refl
          where
            -- the cases are whether the party's call may lock; one that may would have such a span
            by : (m : Bool) → locks_at t q ≡ m → locks_at t q ≡ false
            by false m = m
            by true m = let is = facts.spans q m in absurd (cc)

  -- ---- what is not refused

  -- a decision that is not refused is of a party whose call awaits an answer
  must_be_asked : (w : World T) (p : ℕ) (said : Bool) → open_refusal w (Decide p said) ≡ None → is_due w.coding (flight_in w p) ≡ true
  must_be_asked w p said e =
      let may : MayGoOn w p × (is_due w.coding (flight_in w p) ≡ true) = possible_open w (Decide p said) e in may.1

  -- after any turn that is not refused, the counter is still bounded, if no two calls that may
  -- lock overlap then
  pub turn_bounded : (t : Trace T) → Facts t → Bounded t → (turn : Turn T) → open_refusal t.world turn ≡ None
      → LocksApart (after_turn t turn).events → (counter (after_turn t turn) ≢ locked → counter t ≢ locked) → Bounded (after_turn t turn)
  turn_bounded t facts b (Begin p start) e apart opens =
      let may : MayStart t.world p start = possible_open t.world (Begin p start) e in
      begins t facts b p start (first_of t.world.kind t.world.capacity start t.world.kept) refl may.call may.free apart
  turn_bounded t facts b (Next p) e apart opens = nexts t facts b p (party_of p t.world.latest) refl opens
  turn_bounded t facts b (Decide p said) e apart opens =
      decides t facts b p said (party_of p t.world.latest) refl
      (λ flight is. subst (λ o. is_due t.world.coding o ≡ true) is (must_be_asked t.world p said e)) opens
  turn_bounded t facts b (Die owner) e apart opens = absurd (cc)

  -- ---- a run

  -- `Sound` gives the facts by which each turn pays for what it adds to the counter, and each turn that is not refused
  -- keeps it.
  module _ (Sound : Trace T → Type 0) (facts : (t : Trace T) → Sound t → Facts t)
      (on : (t : Trace T) (turn : Turn T) → open_refusal t.world turn ≡ None → Sound t → Sound (after_turn t turn)) where
    -- what each turn of an open run keeps: `Sound`, and the bound of the counter if no two calls that
    -- may lock overlap
    abbrev pub Holds : Trace T → Type 0
    Holds t = Sound t × (LocksApart t.events → Bounded t)

    -- a turn that is not refused keeps a trace sound, and its counter bounded where no two calls
    -- that may lock overlap
    pub turn_holds : (t : Trace T) (turn : Turn T) → open_refusal t.world turn ≡ None → Holds t → Holds (after_turn t turn)
    turn_holds t turn e h =
        let next = on t turn e h.0 in
        let known = facts t h.0 in
        let after = facts (after_turn t turn) next in (
          next,
          λ apart. turn_bounded t known (h.1 (Each-less BeginsAlone t.events (events_of t.world turn) apart)) turn e apart
              (opens_by t (after_turn t turn) (events_of t.world turn) refl known.lock after.lock),
        )

    -- in each open run the counter is bounded if no two calls that may lock overlap
    pub run_bounded : (t : Trace T) (r : IsReachedOpen t) → Sound (opening t.world.coding t.world.kind t.world.capacity t.world.parties)
        → Bounded (opening t.world.coding t.world.kind t.world.capacity t.world.parties) → LocksApart t.events → Bounded t
    run_bounded t r first none apart = (kept_by open_refusal Holds turn_holds t (first, λ _. none) r).1 apart

  -- a trace in which no call has begun, and whose counter is 0, has it bounded
  pub opening_bounded : (t : Trace T) → t.world.latest ≡ [] → counter t ≡ 0 → 0 < length t.world.words → Bounded t
  opening_bounded t latest zero some =
      let none : (q : ℕ) → flight_in t.world q ≡ None = λ q. ap (λ l. flight_of (doing_of (party_of q l))) latest in
      record {
        some = some;
        seats = 0;
        beyond = λ q far. none q;
        alone = λ q r x y. absurd (true≢false (sym x ∙ ap locks_of (none q)));
        fits = λ open_now. omega arith;
        late = λ open_now q. (let none_is = ap (late_of (counter t)) (none q) in omega arith);
      }

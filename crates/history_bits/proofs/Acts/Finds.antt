-- In each run of a bit set, or of a counting bit set, each act finds at its place the
-- number that stands there.
use Rattle.history.proofs.Names.{◌≡◌, ◌⊎◌, inl, inr, ⊎_elim, ℕ, ◌+◌, ◌*◌, ◌^◌, ◌<◌, ◌≤◌, ◌==◌, Bool, true}
use Rattle.history.proofs.Names.{false, Option, Some, None, List, [], ◌∷◌, ◌++◌, get_or, refl, sym, ap, subst, ◌∙◌}
use Rattle.history.proofs.Names.{append_assoc, append-nil, arith, nat_tests, stands}
use Rattle.model.specs.declared.event.Answer.{Answer}
use Rattle.model.specs.declared.event.Event.{Event}
use Rattle.model.specs.declared.event.Event.TheVariants.{Cleared}
use Rattle.model.specs.declared.event.Event.TheVariants.{TakenOut, Finished}
use Rattle.model.specs.declared.event.Start.{Start}
use Rattle.model.specs.declared.families.Flight.{Flight}
use Rattle.model.specs.declared.families.Registry.{Registry}
use Rattle.model.specs.declared.families.bits.BitsStart.{BitsStart}
use Rattle.model.specs.declared.families.bits.calls.BitsFlight.{BitsFlight}
use Rattle.model.specs.declared.party.Doing.{Doing}
use Rattle.model.specs.declared.party.Doing.TheVariants.{Going}
use Rattle.history.proofs.Names.{step_of, want_of, ask_of}
use Rattle.model.specs.declared.party.Doing.TheVariants.{Over}
use Rattle.model.specs.declared.party.Party.{Party}
use Rattle.model.specs.declared.turn.Turn.{Turn}
use Rattle.model.specs.declared.turn.Turn.TheVariants.{Begin, Next, Decide, Die}
use Rattle.history.proofs.Names.{beside_of, sets, clears, counts, takes, party_of, Each, span_of, call_refusal}
use Rattle.history.proofs.Names.{is_due, answer_in, one_if, old_of, doing_of, flight_of, ask_of_doing, number_of, step_in, events_of}
use Rattle.history.proofs.Names.{events_of_answer, events_of_next, events_of_decision, ending_of, after_turn}
use Rattle.history.proofs.Names.{IsReachedOn, Trace, flight_in, is_true, turn_making, reached_on_more}
use Rattle.history.proofs.Names.{reached_on_opening, kept_by_runs_on, AreRight, Each-append, Each-nil, must_be_due}
use Rattle.history.proofs.Names.{stands_there}
use Rattle.laws_bits.proofs.Spans.{wrote_in}
use Rattle.laws_bits.proofs.Bits.Core.{sets_more, clears_more}
use Rattle.laws_bits.proofs.Bits.Justified.{laws as bits_laws, bits_go_on}
use Rattle.laws_bits.proofs.Counts.Justified.{laws as counts_laws}
use Rattle.steps.specs.declared.bits.bit_set.SetStage.{SetStage}
use Rattle.steps.specs.declared.bits.bit_set.ResetNextStage.{ResetNextStage}
use Rattle.steps.specs.Bits.Places.{places_in}
use Rattle.model.specs.declared.event.Event.TheVariants as events
use Rattle.model.specs.declared.event.Start.TheVariants.{Bits}
use Rattle.model.specs.declared.families.Flight.TheVariants as flights
use Rattle.model.specs.declared.families.Registry.TheVariants as registries
use Rattle.model.specs.declared.families.bits.BitsStart.TheVariants as starts
use Rattle.model.specs.declared.families.bits.calls.BitsFlight.TheVariants as calls
use Rattle.model.specs.declared.turn.Kind.TheVariants as kinds
use Rattle.model.specs.Families.Bits.Steps.{set_events, reset_events, take_events, effects_of}
use Rattle.model.proofs.Frame as frame
use Rattle.laws_bits.proofs.Family.{FlightAt, family}
use Rattle.laws_bits.proofs.Laws.{sound_on}
use Rattle.laws_bits.proofs.Bits.Invariant as bits
use Rattle.laws_bits.proofs.Bits.Knows as bit_calls
use Rattle.laws_bits.proofs.Bits.Lists.{sets_none}
use Rattle.laws_bits.proofs.Counts.Invariant as counting
use Rattle.history.proofs.Numbers.{same_number}
use Rattle.lemmas.proofs.Cases.{by_bool}

-- a flag as a number is at most 1
one_low : (b : Bool) → one_if b ≤ 1
one_low true = omega arith
one_low false = omega arith

set_sided : (T : Type 0) → (p bit : ℕ) (stage : SetStage) (old b : ℕ) → clears {T = T} b (set_events p bit stage old) ≡ 0
set_sided = grind arith

next_sided : (T : Type 0) → (p c : ℕ) (stage : ResetNextStage) (old b : ℕ) → sets {T = T} b (reset_events p c stage old) ≡ 0
next_sided = grind arith

module _ {T : Type 0} where
  -- what holds of each event of a list, by the events before it, holds of the list as `AreRight` has it
  pub right_from : (P : List (Event T) → Event T → Type 0) (before es : List (Event T))
      → ((xs ys : List (Event T)) (e : Event T) → es ≡ xs ++ e ∷ ys → P (before ++ xs) e) → AreRight P before es
  right_from P before [] f = tt
  right_from P before (e ∷ es) f = (
    subst (λ h. P h e) (append-nil before) (f [] es e refl),
    right_from P (before ++ e ∷ []) es (λ xs ys x is. subst (λ h. P h x) (sym (append_assoc before (e ∷ []) xs)) (f (e ∷ xs) ys x (ap (λ zs. e ∷ zs) is))),
  )

  -- ---- flags

  -- a bit that is set was clear, and one that is cleared stood, by the events before
  abbrev pub BitFinds : List (Event T) → Event T → Type 0
  BitFinds before (events.Set p b) = sets b before ≡ clears b before
  BitFinds before (Cleared p b) = sets b before ≡ clears b before + 1
  BitFinds before e = Unit {0}

  -- the events of one turn set no flag, or clear none
  abbrev OneSided : List (Event T) → Type 0
  OneSided es = ((b : ℕ) → sets b es ≡ 0) ⊎ ((b : ℕ) → clears b es ≡ 0)

  -- s and s' say how many of 0 or 1 stand at each place before the events of a turn and after them
  module _ (before es : List (Event T)) (s s' : ℕ → ℕ) (few : (b : ℕ) → s b ≤ 1) (low : (b : ℕ) → s' b ≤ 1)
      (h : (b : ℕ) → sets b before ≡ clears b before + s b)
      (h' : (b : ℕ) → sets b (before ++ es) ≡ clears b (before ++ es) + s' b) where
    -- where a turn sets a place and clears none, the place was clear just before
    set_here : (p b : ℕ) (xs ys : List (Event T)) → es ≡ xs ++ events.Set p b ∷ ys → OneSided es → sets b (before ++ xs) ≡ clears b (before ++ xs)
    set_here p b xs ys es_is sided =
        let one : sets {T = T} b (events.Set p b ∷ []) ≡ 1 = rw (same_number b) refl in
        let s1 = sets_more b before es in
        let s2 = sets_more b xs (events.Set p b ∷ ys) in
        let s3 = sets_more b (events.Set p b ∷ []) ys in
        let s4 = sets_more b before xs in
        let c1 = clears_more b before es in
        let c2 = clears_more b xs (events.Set p b ∷ ys) in
        let c4 = clears_more b before xs in
        let sets_are : sets b es ≡ sets b (xs ++ events.Set p b ∷ ys) = ap (sets b) es_is in
        let clears_are : clears b es ≡ clears b (xs ++ events.Set p b ∷ ys) = ap (clears b) es_is in
        let was = h b in
        let now = h' b in
        let top = low b in
        let most = few b in
        ⊎_elim
        (λ (none : (b : ℕ) → sets b es ≡ 0). (absurd (omega (arith, none b))))
        (λ (none : (b : ℕ) → clears b es ≡ 0). (omega (arith, none b)))
        sided

    -- where a turn clears a place and sets none, the place stood just before
    clear_here : (p b : ℕ) (xs ys : List (Event T)) → es ≡ xs ++ Cleared p b ∷ ys → OneSided es → sets b (before ++ xs) ≡ clears b (before ++ xs) + 1
    clear_here p b xs ys es_is sided =
        let one : clears {T = T} b (Cleared p b ∷ []) ≡ 1 = rw (same_number b) refl in
        let s1 = sets_more b before es in
        let s2 = sets_more b xs (Cleared p b ∷ ys) in
        let s4 = sets_more b before xs in
        let c1 = clears_more b before es in
        let c2 = clears_more b xs (Cleared p b ∷ ys) in
        let c3 = clears_more b (Cleared p b ∷ []) ys in
        let c4 = clears_more b before xs in
        let sets_are : sets b es ≡ sets b (xs ++ Cleared p b ∷ ys) = ap (sets b) es_is in
        let clears_are : clears b es ≡ clears b (xs ++ Cleared p b ∷ ys) = ap (clears b) es_is in
        let was = h b in
        let now = h' b in
        let top = low b in
        let most = few b in
        ⊎_elim
        (λ (none : (b : ℕ) → sets b es ≡ 0). (omega (arith, none b)))
        (λ (none : (b : ℕ) → clears b es ≡ 0). (absurd (omega (arith, none b))))
        sided

    -- each act of the turn finds at its place what stands there
    finds_there : OneSided es → (xs ys : List (Event T)) (e : Event T) → es ≡ xs ++ e ∷ ys → BitFinds (before ++ xs) e
    finds_there = grind (arith, set_here, clear_here)

    -- all events of the turn are right, one after another
    turn_finds : OneSided es → AreRight BitFinds before es
    turn_finds sided = right_from BitFinds before es (finds_there sided)

  -- a step of a call on a bit set sets no place, or clears none
  sided : (c p old : ℕ) (wrote : List (Event T)) (start : BitsStart) (flight : BitsFlight)
      → bit_calls.CallAt c wrote start flight → OneSided (effects_of p flight old)
  sided c p old wrote (starts.Set bit) (calls.Set run) call_at = inr (set_sided T p run.given run.call.stage old)
  sided c p old wrote starts.ResetNext (calls.ResetNext run) call_at = inl (next_sided T p run.call.capacity run.call.stage old)
  sided c p old wrote starts.ResetAll (calls.ResetAll run) call_at = inl (λ b. sets_none T p b (places_in run.call.word old))
  sided c p old wrote (starts.IsSet bit) (calls.IsSet run) call_at = inl (λ b. refl)
  sided c p old wrote start flight call_at = absurd call_at

  -- the end of a call sets and clears nothing
  sided_more : (p : ℕ) (start : Start T) (o : Option (Answer T)) (es : List (Event T)) → OneSided es → OneSided (es ++ ending_of p start o)
  sided_more p start None es one_sided = subst OneSided (sym (append-nil es)) one_sided
  sided_more p start (Some answer) es one_sided =
      ⊎_elim
      (λ (none : (b : ℕ) → sets b es ≡ 0). inl (λ b. (let zero = none b in let more = sets_more b es (Finished p start answer ∷ []) in more ∙ omega arith)))
      (λ (none : (b : ℕ) → clears b es ≡ 0). inr (λ b. (let zero = none b in let more = clears_more b es (Finished p start answer ∷ []) in more ∙ omega arith)))
      one_sided

  -- what the machine writes with a step of this call of party p
  abbrev wrote_there : Trace T → ℕ → ℕ → Start T → Flight T → Registry T → List (Event T)
  wrote_there t p old start flight kept =
      (step_of t.world.coding t.world.words (beside_of t.world.words t.world.kept t.world.latest p) p start flight old kept).wrote

  -- what the machine writes with a step of a call sets no place, or clears none
  step_sided : (t : Trace T) (c p old : ℕ) (wrote : List (Event T)) (kept : Registry T) (start : Start T) (flight : Flight T)
      → kept ≡ registries.Nothing → FlightAt (bit_calls.CallAt c wrote) start flight
      → OneSided (wrote_there t p old start flight kept)
  step_sided t c p old wrote registries.Nothing (Bits start) (flights.Bits flight) none flight_at = sided c p old wrote start flight flight_at
  step_sided t c p old wrote kept (Bits start) (flights.Bits flight) none flight_at = absurd (cc)
  step_sided t c p old wrote kept start flight none flight_at = absurd flight_at

  -- a reached machine of a bit set, in whose history each bit that was set was clear, and each
  -- that was cleared stood
  pub record BitsSo (t : Trace T) : Type 0 where
    pub reached : IsReachedOn t
    pub kind : t.world.kind ≡ kinds.Bits
    pub finds : Each BitFinds t.events

  module _ {t : Trace T} (so : BitsSo t) where
    -- a reached machine of a bit set keeps the invariant of its laws
    bits_sound : frame.Sound (family bits.bit_set t.world.coding t.world.capacity) t
    bits_sound = sound_on bits.bit_set bits_laws t so.kind so.reached

    -- what the machine writes with an answer sets no place, or clears none
    bits_go : (p old : ℕ) (o : Option (Party T)) → party_of p t.world.latest ≡ o → (x : Party T) → o ≡ Some x
        → (doing : Doing T) → x.doing ≡ doing → OneSided (events_of_answer t.world p x old doing)
    bits_go p old o party_is x found (Over others) same_doing = inl (λ b. refl)
    bits_go p old o party_is x found (Going flight since) same_doing =
        let is_sound = bits_sound in
        let there = stands_there (family bits.bit_set t.world.coding t.world.capacity) t is_sound p x since flight (party_is ∙ found) same_doing in
        sided_more p x.start (answer_in (step_in t.world p x flight old).after) (step_in t.world p x flight old).wrote
        (step_sided t t.world.capacity p old (wrote_in (span_of p is_sound.state.events)) t.world.kept x.start flight is_sound.fit.kept there.at)

    -- what the machine writes as it goes on with a call sets no place, or clears none
    next_one : (p : ℕ) (o : Option (Party T)) → party_of p t.world.latest ≡ o → OneSided (events_of_next t.world p o)
    next_one p None party_is = inl (λ b. refl)
    next_one p (Some x) party_is = bits_go p (old_of t.world.words (ask_of_doing t.world.coding x.doing)) (Some x) party_is x refl x.doing refl

    -- what the machine writes with an answer to a question sets no place, or clears none
    decide_one : (p : ℕ) (said : Bool) (o : Option (Party T)) → party_of p t.world.latest ≡ o → OneSided (events_of_decision t.world p said o)
    decide_one p said None party_is = inl (λ b. refl)
    decide_one p said (Some x) party_is = bits_go p (number_of said) (Some x) party_is x refl x.doing refl

    -- what the machine writes with any turn sets no place, or clears none
    turn_sided : (turn : Turn T) → OneSided (events_of t.world turn)
    turn_sided (Begin p start) = inl (λ b. refl)
    turn_sided (Next p) = next_one p (party_of p t.world.latest) refl
    turn_sided (Decide p said) = decide_one p said (party_of p t.world.latest) refl
    turn_sided (Die owner) = inl (λ b. refl)

    -- after a turn that is not refused each act of the history finds at its place what stands there
    bits_turn : (turn : Turn T) → call_refusal t.world turn ≡ None → BitsSo (after_turn t turn)
    bits_turn turn free =
        let r = reached_on_more t turn free so.reached in
        let kind : (after_turn t turn).world.kind ≡ kinds.Bits = (turn_making t.world turn).kind ∙ so.kind in
        let was = bits_go_on t so.kind so.reached in
        let now = bits_go_on (after_turn t turn) kind r in
        record {
          reached = r;
          kind = kind;
          finds =
              Each-append BitFinds t.events (events_of t.world turn) so.finds
              (turn_finds t.events (events_of t.world turn) (λ b. one_if (stands t.world.words b))
              (λ b. one_if (stands (after_turn t turn).world.words b)) (λ b. one_low (stands t.world.words b))
              (λ b. one_low (stands (after_turn t turn).world.words b)) was.conserved now.conserved
              (turn_sided turn));
        }

  -- in each run of a bit set each act finds at its place what stands there
  pub bits_find : (t : Trace T) → t.world.kind ≡ kinds.Bits → IsReachedOn t → Each BitFinds t.events
  bits_find t kind_is reached_on =
      (kept_by_runs_on BitsSo (λ t turn e so. bits_turn so turn e) t
      (record {
        reached = reached_on_opening t.world.coding t.world.kind t.world.capacity t.world.parties reached_on.coded reached_on.admitted;
        kind = kind_is;
        finds = Each-nil BitFinds;
      }) reached_on).finds

  -- ---- counts

  -- what is taken out of a place is all that was counted there and not yet taken out, modulo 2^64, and above 0
  abbrev pub CountFinds : List (Event T) → Event T → Type 0
  CountFinds before (TakenOut p b m) = (wraps : ℕ) × (counts b before ≡ takes b before + m + 2 ^ 64 * wraps) × (1 ≤ m) × (m < 2 ^ 64)
  CountFinds before e = Unit {0}

  -- a reached machine of a counting bit set, in whose history each reset took all out of a place that it took
  -- something out of
  pub record CountsSo (t : Trace T) : Type 0 where
    pub reached : IsReachedOn t
    pub kind : t.world.kind ≡ kinds.Counts
    pub finds : Each CountFinds t.events

  module _ {t : Trace T} (so : CountsSo t) where
    -- a reached machine of a counting bit set keeps the invariant of its laws
    counts_sound : frame.Sound (family counting.counting_set t.world.coding t.world.capacity) t
    counts_sound = sound_on counting.counting_set counts_laws t so.kind so.reached

    -- the end of a call takes nothing out of a place
    ends_right : (before : List (Event T)) (p : ℕ) (start : Start T) (o : Option (Answer T)) → AreRight CountFinds before (ending_of p start o)
    ends_right before p start None = tt
    ends_right before p start (Some answer) = (tt, tt)

    -- what a step takes out of a place is all that stands there, if it is something
    take_right : (p word old : ℕ) (start : Start T) (o : Option (Answer T))
        → (1 ≤ old → old ≡ get_or t.world.words word 0)
        → AreRight CountFinds t.events (take_events p word old ++ ending_of p start o)
    take_right p word old start o is =
        by_bool (old == 0)
        (λ z. rw z (ends_right t.events p start o))
        (λ z. let is_sound = counts_sound in
        let some : 1 ≤ old = grind (arith, nat_tests) in
        let same : old ≡ get_or is_sound.state.words word 0 = is some ∙ ap (λ ws. get_or ws word 0) is_sound.fit.words in
        let low : get_or is_sound.state.words word 0 < 2 ^ 64 = is_sound.holds.0.low word in
        let whole = is_sound.holds.0.conserved word in
        let all : counts word t.events ≡ takes word t.events + old + 2 ^ 64 * whole.0 = rw same whole.1 in
        let less : old < 2 ^ 64 = rw same low in
        rw z ((whole.0, all, some, less), ends_right (t.events ++ TakenOut p word old ∷ []) p start o))

    -- what a call that takes out is handed is what stands there
    abbrev HearsTheWord : Flight T → ℕ → Type 0
    HearsTheWord (flights.Bits (calls.TakeAll run)) old = 1 ≤ old → old ≡ get_or t.world.words run.call.word 0
    HearsTheWord flight old = Unit {0}

    -- a call is handed what stands in its word as it takes a step
    hears_next : (flight : Flight T) → HearsTheWord flight (old_of t.world.words (ask_of (want_of t.world.coding flight)))
    hears_next = grind arith

    -- a step of a call takes out of a place just what stands there
    count_step : (c p old : ℕ) (wrote : List (Event T)) (kept : Registry T) (start : Start T) (flight : Flight T) (o : Option (Answer T))
        → kept ≡ registries.Nothing → FlightAt (counting.CallAt c wrote) start flight → HearsTheWord flight old
        → AreRight CountFinds t.events (wrote_there t p old start flight kept ++ ending_of p start o)
    count_step = grind (arith, ends_right, take_right)

    -- what the machine writes with an answer takes out all that stands there
    counts_go : (p old : ℕ) (x : Party T) → party_of p t.world.latest ≡ Some x → (doing : Doing T) → x.doing ≡ doing
        → ((flight : Flight T) (since : ℕ) → doing ≡ Going flight since → HearsTheWord flight old)
        → AreRight CountFinds t.events (events_of_answer t.world p x old doing)
    counts_go p old x found (Over others) same_doing hears = tt
    counts_go p old x found (Going flight since) same_doing hears =
        let is_sound = counts_sound in
        let there = stands_there (family counting.counting_set t.world.coding t.world.capacity) t is_sound p x since flight found same_doing in
        count_step t.world.capacity p old (wrote_in (span_of p is_sound.state.events)) t.world.kept x.start flight
        (answer_in (step_in t.world p x flight old).after) is_sound.fit.kept there.at (hears flight since refl)

    -- what a turn that goes on with a call takes out is all that stands there
    next_counts : (p : ℕ) (o : Option (Party T)) → party_of p t.world.latest ≡ o → AreRight CountFinds t.events (events_of_next t.world p o)
    next_counts = grind (arith, counts_go, hears_next)

    -- a call that takes out asks no question
    not_heard : (flight : Flight T) (n : ℕ) → is_due t.world.coding (Some flight) ≡ true → HearsTheWord flight n
    not_heard (flights.Bits (calls.TakeAll run)) n due = grind arith
    not_heard flight n due = tt

    -- what the machine writes with an answer to a question takes out all that stands there
    decide_counts : (p : ℕ) (said : Bool) → is_due t.world.coding (flight_in t.world p) ≡ true
        → (o : Option (Party T)) → party_of p t.world.latest ≡ o
        → AreRight CountFinds t.events (events_of_decision t.world p said o)
    decide_counts p said due None found = tt
    decide_counts p said due (Some x) found =
        counts_go p (number_of said) x found x.doing refl
        (λ flight since d.
        let here : flight_in t.world p ≡ Some flight = ap (λ o. flight_of (doing_of o)) found ∙ ap (λ d. flight_of (Some d)) d in
        not_heard flight (number_of said) (rw here at due))

    -- what a turn that is not refused takes out is all that stands there
    counts_events : (turn : Turn T) → call_refusal t.world turn ≡ None → AreRight CountFinds t.events (events_of t.world turn)
    counts_events = grind (arith, next_counts, decide_counts, is_true, must_be_due)

    -- after a turn that is not refused, each number that was taken out was all that stood at its place
    counts_turn : (turn : Turn T) → call_refusal t.world turn ≡ None → CountsSo (after_turn t turn)
    counts_turn turn free =
        record {
          reached = reached_on_more t turn free so.reached;
          kind = (turn_making t.world turn).kind ∙ so.kind;
          finds = Each-append CountFinds t.events (events_of t.world turn) so.finds (counts_events turn free);
        }

  -- in each run of a counting bit set each number that is taken out is all that stands at its place
  pub counts_find : (t : Trace T) → t.world.kind ≡ kinds.Counts → IsReachedOn t → Each CountFinds t.events
  counts_find t kind_is reached_on =
      (kept_by_runs_on CountsSo (λ t turn e so. counts_turn so turn e) t
      (record {
        reached = reached_on_opening t.world.coding t.world.kind t.world.capacity t.world.parties reached_on.coded reached_on.admitted;
        kind = kind_is;
        finds = Each-nil CountFinds;
      }) reached_on).finds

-- The sender's table has for each index the place that the events say, since both change with
-- the events of a turn.
use Rattle.laws_loan.proofs.Names.{◌≡◌, ◌≢◌, ℕ, ◌<◌, ◌==◌, if◌then◌else◌, ⊎_elim, true, false, Option, Some}
use Rattle.laws_loan.proofs.Names.{List, [], ◌∷◌, ◌++◌, length, set, fold, refl, sym, ap, subst, ◌∙◌, append-nil}
use Rattle.laws_loan.proofs.Names.{append_assoc, length-set, cases_eq, nat_tests, fold-append, Ask, Place, place_at}
use Rattle.laws_loan.proofs.Names.{Answer, Event, Begun, Died, Start, Flight}
use Rattle.laws_loan.proofs.Names.{Registry, Book, LoanStart, Doing, Party, Turn, Begin, Next, Decide}
use Rattle.laws_loan.proofs.Names.{Die, Coding, first_of, step_of, kept_after_death, MovesRight, place_after}
use Rattle.laws_loan.proofs.Names.{place_of, book_after, ended_book, effect_of, effects_of, Each, as_call, answer_in}
use Rattle.laws_loan.proofs.Names.{events_of_step, events_of_answer, events_of_next, events_of_decision, events_of}
use Rattle.laws_loan.proofs.Names.{ending_of, number_of, after_begin, after_answer, after_next}
use Rattle.laws_loan.proofs.Names.{after_decision, after_turn, Trace, AreRight, stands_there}
use Rattle.std.proofs.Common.{arith}
use Rattle.std.proofs.lemmas.List.{get_or-set_same, get_or-set_other}
use Rattle.steps.specs.declared.loan.places.Place.TheVariants as places
use Rattle.model.specs.declared.event.Start.TheVariants as starts
use Rattle.model.specs.declared.families.Flight.TheVariants as flights
use Rattle.model.specs.declared.families.Registry.TheVariants as registries
use Rattle.model.specs.Families.Loan.Calls as rows
use Rattle.model.specs.Parties.{party_of}
use Rattle.model.proofs.Frame as frame
use Rattle.laws_loan.proofs.Channel.{Channel, Represents, kept_is}
use Rattle.laws_loan.proofs.StepLaw.{channel}

-- the table once the place of one index is set
set_at : (table : List Place) (index i : ℕ) (v : Place) → index < length table → place_at (set table index v) i ≡ (if index == i then v else place_at table i)
set_at table index i v within = ⊎_elim here there (cases_eq index i)
  where
    -- the index itself has the new place
    here : index ≡ i → place_at (set table index v) i ≡ (if index == i then v else place_at table i)
    here same =
        let is_same : (index == i) ≡ true = grind (arith, nat_tests) in
        rw is_same (rw (← same) (get_or-set_same table index v places.Free within))

    -- any other index has the place that it had
    there : index ≢ i → place_at (set table index v) i ≡ (if index == i then v else place_at table i)
    there ne =
        let is_other : (index == i) ≡ false = grind (arith, nat_tests) in
        rw is_other (get_or-set_other table index i v places.Free (λ e. ne (sym e)))

module _ {T : Type 0} where
  -- the place of an index in the table that the registry keeps
  abbrev pub place_in : Registry T → ℕ → Place
  place_in (registries.Loan book) i = place_at book.places i
  place_in kept i = places.Free

  -- the table has for each index the place that the events say
  abbrev pub IsTabled : Trace T → Type 0
  IsTabled t = (i : ℕ) → place_in t.world.kept i ≡ place_of i t.events

  -- ---- events

  -- an event that moves its index rightly changes the table as it changes the place by the events
  one : (slots i : ℕ) (book : Book) (before : List (Event T)) (e : Event T) → length book.places ≡ slots
      → MovesRight slots before e → place_at (book_after book e).places i ≡ place_after i (place_at book.places i) e
  one = grind (arith, set_at)

  -- no event changes the length of the table of places
  long_after : (book : Book) (e : Event T) → length (book_after book e).places ≡ length book.places
  long_after = grind (arith, length-set)

  -- the place of an index in the table, after events that move rightly, is its place before,
  -- changed by each event
  each : (slots i : ℕ) (book : Book) (before es : List (Event T)) → length book.places ≡ slots
      → AreRight (MovesRight slots) before es
      → place_at (fold book_after book es).places i ≡ fold (place_after i) (place_at book.places i) es
  each slots i book before [] long right = refl
  each slots i book before (e ∷ es) long right =
      each slots i (book_after book e) (before ++ e ∷ []) es (long_after book e ∙ long) right.1
      ∙ ap (λ place. fold (place_after i) place es) (one slots i book before e long right.0)

  -- what is right of each event of a run is right of its last events
  pub right_of : (P : List (Event T) → Event T → Type 0) (before es : List (Event T)) → Each P (before ++ es) → AreRight P before es
  right_of P before [] all = tt
  right_of P before (e ∷ es) all =
      (all before es e refl, right_of P (before ++ e ∷ []) es (subst (Each P) (sym (append_assoc before (e ∷ []) es)) all))

  -- ---- the end of a call changes no place

  -- the end of a call leaves the table of places
  ended_places : (p : ℕ) (start : LoanStart) (outcome : Option (Answer T)) (book : Book) → (ended_book p start outcome book).places ≡ book.places
  ended_places = grind arith

  -- the event of an end leaves the book
  ending_keeps : (p : ℕ) (start : Start T) (outcome : Option (Answer T)) (book : Book) → fold book_after book (ending_of p start outcome) ≡ book
  ending_keeps = grind arith

module _ {T : Type 0} (code : Coding T) (slots queue : ℕ) where
  -- a step changes the place of each index in the table as the step's events say
  step_tabled : (i : ℕ) (before : List (Event T)) (z : Coding T) (words : List ℕ) (push : Option (ℕ × ℕ))
      (s : Channel T) (p : ℕ) (start : Start T) (flight : Flight T) (old : ℕ) (kept : Registry T)
      → Represents kept words s → length s.book.places ≡ slots
      → (channel code slots queue).At s p start flight
      → AreRight (MovesRight slots) before (events_of_step p start (step_of z words push p start flight old kept))
      → place_in (step_of z words push p start flight old kept).kept i
      ≡ fold (place_after i) (place_in kept i) (events_of_step p start (step_of z words push p start flight old kept))
  step_tabled i before z words push s p (starts.Loan start) (flights.Loan flight) old (registries.Loan book) fit long at right =
      let then_so = rows.after {T = T} book.places flight old in
      let wrote = effects_of p (effect_of words push flight old) (answer_in then_so) in
      let ending = ending_of p (starts.Loan start) (answer_in (as_call flights.Loan (λ answer. answer) then_so)) in
      let same : fold book_after book (wrote ++ ending) ≡ fold book_after book wrote =
      fold-append book_after book wrote ending
      ∙ ending_keeps p (starts.Loan start) (answer_in (as_call flights.Loan (λ answer. answer) then_so))
      (fold book_after book wrote)
      in
      ap (λ table. place_at table i) (ended_places p start (answer_in then_so) (fold book_after book wrote))
      ∙ (ap (λ b. place_at b.places i) (sym same)
      ∙ each slots i book before (wrote ++ ending) (ap (λ b. length b.places) fit.0 ∙ long) right)
  step_tabled i before z words push s p (starts.Loan start) (flights.Loan flight) old kept fit long at right = absurd fit
  step_tabled i before z words push s p start flight old kept fit long at right = absurd at

  module _ (t : Trace T) (sound : frame.Sound (channel code slots queue) t) (tabled : IsTabled t) where
    -- the machine keeps the book of the channel
    is_kept : t.world.kept ≡ registries.Loan sound.state.book
    is_kept = (kept_is t.world.kept t.world.words sound.state sound.fit).kept

    -- an event that moves no index leaves each place that the events say
    as_before : (i : ℕ) (e : Event T) → ((place : Place) → place_after i place e ≡ place) → place_of i (t.events ++ e ∷ []) ≡ place_of i t.events
    as_before i e none = fold-append (place_after i) places.Free t.events (e ∷ []) ∙ none (place_of i t.events)

    -- a begin leaves the table as the events say
    begun : (p : ℕ) (start : Start T) (o : Option (Flight T)) (i : ℕ) → place_in (after_begin t.world p start o).kept i ≡ place_of i t.events
    begun = grind arith

    -- a death leaves the table
    died : (owner i : ℕ) → place_in (kept_after_death t.world.kept owner) i ≡ place_in t.world.kept i
    died = grind (arith, is_kept)

    -- a step or a decision leaves the table as the events say
    answered : (p : ℕ) (x : Party T) (ask : Option Ask) (answer : ℕ) (doing : Doing T)
        → party_of p t.world.latest ≡ Some x → x.doing ≡ doing
        → AreRight (MovesRight slots) t.events (events_of_answer t.world p x answer doing)
        → (i : ℕ) → place_in (after_answer t.world p x ask answer doing).kept i ≡ place_of i (t.events ++ events_of_answer t.world p x answer doing)
    answered = grind (arith, place_of, append-nil, stands_there, step_tabled, fold, place_after, fold-append)

    -- after each turn the table still has the places that the events say
    pub turn_tabled : (turn : Turn T) → Each (MovesRight slots) (after_turn t turn).events → IsTabled (after_turn t turn)
    turn_tabled (Begin p start) moves =
        λ i. begun p start (first_of t.world.kind t.world.capacity start t.world.kept) i ∙ sym (as_before i (Begun p start) (λ place. refl))
    turn_tabled (Next p) moves = go (party_of p t.world.latest) refl (right_of (MovesRight slots) t.events (events_of t.world (Next p)) moves)
      where
        -- the cases are what the party's latest call is
        go : (o : Option (Party T)) → party_of p t.world.latest ≡ o
            → AreRight (MovesRight slots) t.events (events_of_next t.world p o) → (i : ℕ)
            → place_in (after_next t.world p o).kept i ≡ place_of i (t.events ++ events_of_next t.world p o)
        go = grind (arith, place_of, append-nil, answered)
    turn_tabled (Decide p said) moves = go (party_of p t.world.latest) refl (right_of (MovesRight slots) t.events (events_of t.world (Decide p said)) moves)
      where
        -- the cases are what the party's latest call is
        go : (o : Option (Party T)) → party_of p t.world.latest ≡ o
            → AreRight (MovesRight slots) t.events (events_of_decision t.world p said o) → (i : ℕ)
            → place_in (after_decision t.world p said o).kept i ≡ place_of i (t.events ++ events_of_decision t.world p said o)
        go = grind (arith, place_of, append-nil, answered, number_of)
    turn_tabled (Die owner) moves = λ i. died owner i ∙ (tabled i ∙ sym (as_before i (Died owner) (λ place. refl)))

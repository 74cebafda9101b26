-- What a turn of the model makes of a party's latest call: which call is under way, how many steps it has
-- taken, how many changes others made, and what the machine keeps.
use Rattle.history.proofs.Names.{◌≡◌, ◌≢◌, ℕ, zero, suc, ◌+◌, ◌-◌, ◌<◌, ◌==◌, Bool, false, Option, Some, None, List}
use Rattle.history.proofs.Names.{[], ◌∷◌, ◌++◌, length, get_or, set, refl, sym, ap, subst, ◌∙◌, arith, nat_tests, Ask, After}
use Rattle.history.proofs.Names.{GoOn, Answer, Event, Start, Flight, Registry}
use Rattle.history.proofs.Names.{Doing, Going, Over, Party, Kind, Begin, Next, Coding, opening_of, kept_after_begin}
use Rattle.history.proofs.Names.{want_of, after_of, goes_of, ask_of, is_look_of, state_in, is_looking, party_of}
use Rattle.history.proofs.Names.{Step, answer_in, after_begin, after_next, after_answer}
use Rattle.history.proofs.Names.{after_decision, after_step}
use Rattle.history.proofs.Names.{number_of, step_in, events_of_next, events_of_decision, events_of_step}
use Rattle.history.proofs.Names.{ending_of, old_of, World, flight_in, party_put_same}
use Rattle.history.proofs.Names.{party_put_other}
use Rattle.steps.specs.declared.ask.After.TheVariants.{Done}
use Rattle.model.specs.declared.families.Registry.TheVariants as registries
use Rattle.model.specs.Turns.{step_count, change_of, doing_after}
use Rattle.model.specs.Parties.{others_of}
use Rattle.history.specs.History.{call_at, call_of, call_in, started, steps_of, steps_in, others_in, others_so}
use Rattle.history.specs.Stages.{is_state_look}

-- two numbers that are not equal differ by the test
other_number : (p q : ℕ) → q ≢ p → (p == q) ≡ false
other_number p q ne = grind (arith, nat_tests)

module _ {T : Type 0} where
  -- ---- the party of a call under way

  -- the latest call of party p is this one, and it is under way at this flight
  pub record Stands (w : World T) (p : ℕ) (start : Start T) (flight : Flight T) : Type 0 where
    pub x : Party T
    pub since : ℕ
    pub found : party_of p w.latest ≡ Some x
    pub named : x.start ≡ start
    pub doing : x.doing ≡ Going flight since

  -- a party with a call under way has that call as its latest, at that flight
  pub stands : (w : World T) (p : ℕ) (start : Start T) (flight : Flight T) → call_in w p ≡ Some (start, flight) → Stands w p start flight
  stands = grind arith

  -- what holds of the party that was found holds of whichever party the world has there
  pub at_found : {w : World T} {p : ℕ} {start : Start T} {flight : Flight T} (here : Stands w p start flight) (Holds : Party T → Type 0) → Holds here.x
      → (x : Party T) → party_of p w.latest ≡ Some x → Holds x
  at_found here Holds holds x found =
      let same : here.x ≡ x = (let both : Some here.x ≡ Some x = sym here.found ∙ found in cc) in
      subst Holds same holds

  -- where a call of the party is under way at this flight, the world has this flight for the party
  pub flight_is : (w : World T) (p : ℕ) (start : Start T) (flight : Flight T) → Stands w p start flight → flight_in w p ≡ Some flight
  flight_is = grind arith

  -- a party without a call under way has no flight
  pub no_flight : (w : World T) (p : ℕ) → call_in w p ≡ None → flight_in w p ≡ None
  no_flight = grind arith

  -- ---- the calls of other parties

  -- an answer that another party's call takes leaves this party's latest call
  answer_other : (w : World T) (p q : ℕ) → q ≢ p → (x : Party T) (ask : Option Ask) (n : ℕ) (doing : Doing T)
      → party_of q (after_answer w p x ask n doing).latest ≡ party_of q w.latest
  answer_other w p q ne x ask n (Over others) = refl
  answer_other w p q ne x ask n (Going flight since) = party_put_other q p _ w.latest ne

  -- a step of another party leaves this party's latest call
  latest_next : (w : World T) (p q : ℕ) → q ≢ p → (o : Option (Party T)) → party_of q (after_next w p o).latest ≡ party_of q w.latest
  latest_next = grind (arith, answer_other)

  -- a begin of another party leaves this party's latest call
  latest_begin : (w : World T) (p q : ℕ) (start : Start T) → q ≢ p → (o : Option (Flight T))
      → party_of q (after_begin w p start o).latest ≡ party_of q w.latest
  latest_begin w p q start ne None = refl
  latest_begin w p q start ne (Some flight) = party_put_other q p _ w.latest ne

  -- an answer to a question of another party's call leaves this party's latest call
  latest_decision : (w : World T) (p q : ℕ) (said : Bool) → q ≢ p → (o : Option (Party T))
      → party_of q (after_decision w p said o).latest ≡ party_of q w.latest
  latest_decision w p q said ne None = refl
  latest_decision w p q said ne (Some x) = answer_other w p q ne x None (number_of said) x.doing

  -- a step of another party leaves this party's call
  pub next_other : (w : World T) (p q : ℕ) → q ≢ p → (o : Option (Party T)) → call_in (after_next w p o) q ≡ call_in w q
  next_other w p q ne o = ap call_of (latest_next w p q ne o)

  -- a begin of another party leaves this party's call
  pub begin_other : (w : World T) (p q : ℕ) (start : Start T) → q ≢ p → (o : Option (Flight T)) → call_in (after_begin w p start o) q ≡ call_in w q
  begin_other w p q start ne o = ap call_of (latest_begin w p q start ne o)

  -- an answer to a question of another party's call leaves this party's call
  pub decision_other : (w : World T) (p q : ℕ) (said : Bool) → q ≢ p → (o : Option (Party T)) → call_in (after_decision w p said o) q ≡ call_in w q
  decision_other w p q said ne o = ap call_of (latest_decision w p q said ne o)

  -- ---- the steps of calls

  -- a step of another party leaves the steps of this party's call
  pub steps_next_other : (w : World T) (p q : ℕ) → q ≢ p → (o : Option (Party T)) → steps_in (after_next w p o) q ≡ steps_in w q
  steps_next_other w p q ne o = ap steps_of (latest_next w p q ne o)

  -- a begin of another party leaves the steps of this party's call
  pub steps_begin_other : (w : World T) (p q : ℕ) (start : Start T) → q ≢ p → (o : Option (Flight T))
      → steps_in (after_begin w p start o) q ≡ steps_in w q
  steps_begin_other w p q start ne o = ap steps_of (latest_begin w p q start ne o)

  -- an answer to a question of another party's call leaves the steps of this party's call
  pub steps_decision_other : (w : World T) (p q : ℕ) (said : Bool) → q ≢ p → (o : Option (Party T))
      → steps_in (after_decision w p said o) q ≡ steps_in w q
  steps_decision_other w p q said ne o = ap steps_of (latest_decision w p q said ne o)

  -- as the party begins a call, that has taken no step
  pub steps_begin_own : (w : World T) (p : ℕ) (start : Start T) (flight : Flight T) (o : Option (Flight T))
      → o ≡ Some flight → steps_in (after_begin w p start o) p ≡ 0
  steps_begin_own w p start flight None o_is_some = absurd (cc)
  steps_begin_own w p start flight (Some f) o_is_some = ap steps_of (party_put_same p _ w.latest)

  -- a step of the party's call adds one where it asks for a word, and else none
  pub steps_next_own : {w : World T} {p : ℕ} {start : Start T} {flight : Flight T} (h : Stands w p start flight)
      → steps_in (after_next w p (party_of p w.latest)) p ≡ steps_in w p + step_count (ask_of (want_of w.coding flight))
  steps_next_own {w} {p} h = rw (h.found, h.doing) (ap steps_of (party_put_same p _ w.latest))

  -- as the party begins a call, others have changed no word during it
  pub others_begin_own : (w : World T) (p : ℕ) (start : Start T) (flight : Flight T) (o : Option (Flight T))
      → o ≡ Some flight → others_in (after_begin w p start o) p ≡ 0
  others_begin_own w p start flight None o_is_some = absurd (cc)
  others_begin_own w p start flight (Some f) o_is_some = ap (others_so w.changes) (party_put_same p _ w.latest) ∙ none w.changes
    where
      -- a number less itself is 0
      none : (n : ℕ) → n - n ≡ 0
      none n = omega arith

  -- the party's own change of a word is none by others
  no_more_others : (since changes more : ℕ) (a : After (Flight T) (Answer T))
      → others_of (changes + more) (doing_after (changes + more) (since + more) a) ≡ changes - since
  no_more_others since changes more (GoOn next) = omega arith
  no_more_others since changes more (Done answer) = omega arith

  -- a step of the party's call leaves the number of changes by others
  pub others_next_own : {w : World T} {p : ℕ} {start : Start T} {flight : Flight T} (h : Stands w p start flight)
      → others_in (after_next w p (party_of p w.latest)) p ≡ others_in w p
  others_next_own {w} {p} {flight = flight} h =
      rw (h.found, h.doing) (ap (others_so (w.changes + change_of w.words (ask_of (want_of w.coding flight)))) (party_put_same p _ w.latest)
      ∙ no_more_others h.since w.changes (change_of w.words (ask_of (want_of w.coding flight))) _)

  -- after a step the party's latest call still has the start with which it began
  pub started_next_own : {w : World T} {p : ℕ} {start : Start T} {flight : Flight T} (h : Stands w p start flight)
      → started (party_of p (after_next w p (party_of p w.latest)).latest) ≡ Some start
  started_next_own {w} {p} h = rw (h.found, h.doing) (ap started (party_put_same p _ w.latest) ∙ ap Some h.named)

  -- an answer to a question adds no step
  pub steps_decision_own : {w : World T} {p : ℕ} {start : Start T} {flight : Flight T} (said : Bool) (h : Stands w p start flight)
      → steps_in (after_decision w p said (party_of p w.latest)) p ≡ steps_in w p + 0
  steps_decision_own {w} {p} said h = rw (h.found, h.doing) (ap steps_of (party_put_same p _ w.latest))

  -- ---- what the machine keeps

  -- what the machine keeps does not change how a call goes on: it is not that of a container
  abbrev pub IsStateless : Registry T → Type 0
  IsStateless (registries.Container dead states) = ⊥
  IsStateless (registries.Loan book) = ⊥
  IsStateless kept = Unit {0}

  -- where that holds, how a call goes on depends on its flight alone
  pub goes_alike : (code : Coding T) (p : ℕ) (flight : Flight T) (n : ℕ) (kept : Registry T) → IsStateless kept
      → goes_of code p flight n kept ≡ after_of code flight n
  goes_alike = grind arith

  -- where that holds, no party has a state
  pub stateless_none : (kept : Registry T) (p : ℕ) → IsStateless kept → state_in kept p ≡ None
  stateless_none = grind arith

  pub opens_without : (kind : Kind) (capacity p : ℕ) → state_in {T = T} ((opening_of kind).kept capacity) p ≡ None
  opens_without = grind arith

  -- a begin of another party is no look of this party's state
  pub look_begin : (w : World T) (p q : ℕ) (start : Start T) → q ≢ p → is_look_of w q (Begin p start) ≡ false
  look_begin = grind arith

  -- a step of another party is no look of this party's state
  pub look_next : (w : World T) (p q : ℕ) → q ≢ p → is_look_of w q (Next p) ≡ false
  look_next w p q ne = rw (other_number p q ne) refl

  -- a begin of a call that is no look of a state is no look of the party's state
  pub begins_no_look : (w : World T) (p : ℕ) (start : Start T) → is_state_look start ≡ false → is_look_of w p (Begin p start) ≡ false
  begins_no_look = grind arith

  -- a step of a call that is no look of a state is no look of the party's state
  pub next_no_look : (w : World T) (p : ℕ) (start : Start T) (flight : Flight T) → call_in w p ≡ Some (start, flight)
      → is_looking (Some flight) ≡ false → is_look_of w p (Next p) ≡ false
  next_no_look = grind arith

  -- ---- the own call

  -- what the machine keeps after a begin is what its family keeps from the call's begin on
  pub begin_kept : (w : World T) (p : ℕ) (start : Start T) (flight : Flight T) (o : Option (Flight T)) → o ≡ Some flight
      → (after_begin w p start o).kept ≡ kept_after_begin w.coding w.capacity start p w.kept
  begin_kept w p start flight None o_is_some = absurd (cc)
  begin_kept w p start flight (Some f) o_is_some = refl

  -- what the machine keeps after a step is what the step of the call makes of it
  pub next_kept : {w : World T} {p : ℕ} {start : Start T} {flight : Flight T} (h : Stands w p start flight)
      → (after_next w p (party_of p w.latest)).kept ≡ (step_in w p h.x flight (old_of w.words (ask_of (want_of w.coding flight)))).kept
  next_kept h = rw (h.found, h.doing) refl

  -- the party's call after a step: at the next flight, or none where the call has ended
  abbrev pub call_then : Start T → After (Flight T) (Answer T) → Option (Start T × Flight T)
  call_then start (GoOn flight) = Some (start, flight)
  call_then start (Done answer) = None

  -- after a begin the party's call is the one that began
  pub begin_own : (w : World T) (p : ℕ) (start : Start T) (flight : Flight T) (o : Option (Flight T))
      → o ≡ Some flight → call_in (after_begin w p start o) p ≡ Some (start, flight)
  begin_own = grind (arith, party_put_same)

  -- What a step of the party's call leads to, from the word `old`, where its effects are these events.
  pub record Moved (w : World T) (p : ℕ) (start : Start T) (flight : Flight T) (old : ℕ) (wrote : List (Event T)) : Type 0 where
    pub going : call_in (after_next w p (party_of p w.latest)) p ≡ call_then start (goes_of w.coding p flight old w.kept)
    pub events : events_of_next w p (party_of p w.latest) ≡ wrote ++ ending_of p start (answer_in (goes_of w.coding p flight old w.kept))

  -- where the call stands after a step is what `call_then` says
  then_at : (start : Start T) (changes since : ℕ) (after : After (Flight T) (Answer T))
      → call_at start (Rattle.model.specs.Turns.doing_after changes since after) ≡ call_then start after
  then_at = grind arith

  -- where the family goes on as its table says, from what it keeps
  module _ (w : World T) (p : ℕ) (start : Start T) (flight : Flight T) (writes : ℕ → List (Event T)) (h : Stands w p start flight)
      (goes : (x : Party T) (n : ℕ) → party_of p w.latest ≡ Some x → (step_in w p x flight n).after ≡ goes_of w.coding p flight n w.kept)
      (same : (x : Party T) (n : ℕ) → party_of p w.latest ≡ Some x → (step_in w p x flight n).wrote ≡ writes n) where
    -- handed this, where it asked for that
    module _ (ask : Option Ask) (old : ℕ) where
      -- the step of the call, and where it leads
      abbrev s : Step (Flight T) (Registry T) T
      s = step_in w p h.x flight old

      abbrev after : After (Flight T) (Answer T)
      after = goes_of w.coding p flight old w.kept

      -- after the step the party's call stands where the step leads it, or has ended
      stepped : call_in (after_step w p h.x h.since ask s) p ≡ call_then start after
      stepped = grind (arith, party_put_same, then_at)

      -- the turn writes the effects of the step, and the end of the call where it ends
      tells : events_of_step p h.x.start s ≡ writes old ++ ending_of p start (answer_in after)
      tells = grind arith

    -- what the step of the party's call leads to, and writes
    pub moved : Moved w p start flight (old_of w.words (ask_of (want_of w.coding flight))) (writes (old_of w.words (ask_of (want_of w.coding flight))))
    moved = grind (arith, stepped, tells)

    -- with an answer to its question the party's call goes on, or ends, as `goes_of` says
    pub heard_going : (said : Bool)
        → call_in (after_decision w p said (party_of p w.latest)) p ≡ call_then start (goes_of w.coding p flight (number_of said) w.kept)
    heard_going said = rw (h.found, h.doing) (stepped None (number_of said))

    -- an answer to a question writes the effects of that answer, and the call's end where it ends
    pub heard_events : (said : Bool) → events_of_decision w p said (party_of p w.latest) ≡ writes (number_of said) ++ ending_of p start
        (answer_in (goes_of w.coding p flight (number_of said) w.kept))
    heard_events said = rw (h.found, h.doing) (tells None (number_of said))

-- ---- the words of a table: the machine's, and one more

-- a word of the first list is that word in both lists together
pub get_left : (xs ys : List ℕ) (i : ℕ) → i < length xs → get_or (xs ++ ys) i 0 ≡ get_or xs i 0
get_left [] ys i below = absurd (omega arith)
get_left (x ∷ xs) ys zero below = refl
get_left (x ∷ xs) ys (suc i) below = get_left xs ys i (omega arith)

-- a word set in the first list is set in it within both together
pub set_left : (xs ys : List ℕ) (i n : ℕ) → i < length xs → set (xs ++ ys) i n ≡ set xs i n ++ ys
set_left [] ys i n below = absurd (omega arith)
set_left (x ∷ xs) ys zero n below = refl
set_left (x ∷ xs) ys (suc i) n below = ap (λ (zs : List ℕ). x ∷ zs) (set_left xs ys i n (omega arith))

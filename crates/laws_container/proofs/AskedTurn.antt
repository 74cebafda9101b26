-- A turn in which a call of the container goes on: what it writes, and what its party asks about then. In
-- that turn each other party asks about what it asked about before; and in a begin or a death nobody asks
-- about anything new.
use Rattle.std.proofs.Common.{arith}
use Rattle.laws_container.proofs.Names.{◌≡◌, ◌≢◌, ℕ, ◌⊎◌, ⊎_elim, inl, inr, Bool, true, false, Option, Some}
use Rattle.laws_container.proofs.Names.{None, is_none, List, [], ◌∷◌, ◌++◌, refl, sym, ap, subst, ◌∙◌, AllByRecursion}
use Rattle.laws_container.proofs.Names.{cases_eq, After, Answer, Event, Begun, Died, Finished, Start, Container}
use Rattle.laws_container.proofs.Names.{Flight, Registry, ContainerStart, ContainerFlight, Doing, Going, Over, Party}
use Rattle.laws_container.proofs.Names.{Idle, Undecided, Turn, Begin, Next, Decide, Die, Coding, first_of, want_of}
use Rattle.laws_container.proofs.Names.{is_question, beside_of, step_of, want, after, question_in, question_at}
use Rattle.laws_container.proofs.Names.{WritesRight, acts_of, state_of, effects, questions, set_acts_of, party_of}
use Rattle.laws_container.proofs.Names.{doing_of, flight_of, IsParty, Open, span_of, is_due, call_refusal, Step}
use Rattle.laws_container.proofs.Names.{answer_in, old_of, number_of, doing_after, party_at_begin}
use Rattle.laws_container.proofs.Names.{after_begin, after_step, after_answer, after_next, after_decision, step_in}
use Rattle.laws_container.proofs.Names.{events_of_step, events_of_answer, events_of_next}
use Rattle.laws_container.proofs.Names.{events_of_decision, events_of, ending_of, ask_of_doing, after_turn, World}
use Rattle.laws_container.proofs.Names.{flight_in, party_put_same, party_put_other, row_passed, StandsThere}
use Rattle.laws_container.proofs.Names.{stands_there}
use Rattle.model.specs.declared.families.Flight.TheVariants as flights
use Rattle.model.specs.declared.turn.Kind.TheVariants as kinds
use Rattle.laws_container.proofs.AskedLeft.{call_in, made, question_left, question_first}
use Rattle.laws_container.proofs.Invariant.{family_by, view, wrote_of}
use Rattle.laws_container.proofs.Knows.{Knows}
use Rattle.laws_container.proofs.LooksTell.{no_end}
use Rattle.laws_container.proofs.Sound.{SoundRun, kept_now, is_there, begins_own}
use Rattle.laws_container.proofs.Stages.{any_call}
use Rattle.laws_container.proofs.CallProgress.{At}
use Rattle.laws_container.proofs.Allowed.{IsAllowed}

-- ---- what a party asks about in a machine

module _ {T : Type 0} where
  -- the index and the value that the party's call under way asks about
  abbrev world_asks : World T → ℕ → Option (ℕ × T)
  world_asks w p = question_in w.coding (flight_in w p)

  -- what a party has under way after a step is the call as it goes on
  doing_call : (changes since : ℕ) (a : After (Flight T) (Answer T)) → flight_of (Some (doing_after changes since a)) ≡ call_in a
  doing_call = grind arith

  -- party `q`, whose call is `x`, takes a step in which it is handed `answer`
  module _ (w : World T) (q : ℕ) (x : Party T) (since : ℕ) (flight : Flight T) (answer : ℕ) where
    abbrev step_there : Step (Flight T) (Registry T) T
    step_there = step_in w q x flight answer

    -- after the step party `q` asks about what its call asks about
    same_asks : (ask : _) → world_asks (after_step w q x since ask step_there) q ≡ question_in w.coding (call_in step_there.after)
    same_asks = grind (arith, party_put_same, doing_call)

    -- after the step each other party asks about what it asked about before
    other_asks : (ask : _) (p : ℕ) → p ≢ q → world_asks (after_step w q x since ask step_there) p ≡ world_asks w p
    other_asks = grind (arith, party_put_other)

-- ---- a call goes on

-- the run is sound and may go on; the call of a party goes on in one of its turns
module _ {T : Type 0} (run : SoundRun T) where
  open run use {shown, terms, code, trace as t, sound, may}

  abbrev c : ℕ
  c = t.world.capacity

  -- the call of party `q` goes on in this turn, handed `answer`
  pub record GoesOn (turn : Turn T) (q : ℕ) : Type 0 where
    -- the call before the turn: what it asks about, its span, where it stands, and what it knows
    pub start : ContainerStart T
    pub flight : ContainerFlight T
    pub answer : ℕ
    pub since : ℕ
    pub backs : ℕ
    pub asked : question_at t q ≡ question_in code (Some (flights.Container flight))
    pub span : span_of q t.events ≡ Open (Container start) (wrote_of q t.events)
    pub at : At c code.size (set_acts_of q t.events) (acts_of q t.events) start flight
    pub knows : Knows code c flight (view terms sound.state.words sound.state.states t.world.latest t.events q since t.world.changes backs)
    -- what the turn writes, and what each party asks about after it
    pub wrote : events_of t.world turn
        ≡ (effects code q (state_of q sound.state.states) flight answer ++ questions q flight answer)
        ++ ending_of q (Container start) (answer_in (any_call (after code (state_of q sound.state.states) flight answer)))
    pub asks : question_at (after_turn t turn) q ≡ made code flight answer
    pub others : (p : ℕ) → p ≢ q → question_at (after_turn t turn) p ≡ question_at t p
    -- the turn is one of party `q`; a yes to a question is the decision `Decide q true`
    pub mine : IsParty turn q
    pub by_yes : is_question (want code flight) ≡ true → answer ≢ 0 → turn ≡ Decide q true

  -- the call of party `q` goes on with the decision that it has waited for
  pub record IsDecided (q : ℕ) (said : Bool) : Type 0 where
    pub goes : GoesOn (Decide q said) q
    pub due : is_question (want code goes.flight) ≡ true
    pub answer_is : goes.answer ≡ number_of said

  -- party `q`, whose call is `x`, takes this turn
  module _ (turn : Turn T) (q answer : ℕ) (mine : IsParty turn q) (x : Party T) (since : ℕ) (found : party_of q t.world.latest ≡ Some x) where
    -- what the step of the call comes to
    abbrev stepping : Coding T → Registry T → Start T → Flight T → Step (Flight T) (Registry T) T
    stepping y kept a flight = step_of y t.world.words (beside_of t.world.words kept t.world.latest q) q a flight answer kept

    -- the turn writes what the step of the call writes
    abbrev WritesStep : Coding T → Registry T → Start T → Flight T → Type 0
    WritesStep y kept a flight = events_of t.world turn ≡ events_of_step q a (stepping y kept a flight)

    -- after the turn the party asks about what its call asks about
    abbrev AsksStep : Coding T → Registry T → Start T → Flight T → Type 0
    AsksStep y kept a flight = question_at (after_turn t turn) q ≡ question_in y (call_in (stepping y kept a flight).after)

    -- if the call waits for a decision and is told anything but no, the turn is the decision yes
    abbrev IsByYes : Coding T → Flight T → Type 0
    IsByYes y flight = is_question (want_of y flight) ≡ true → answer ≢ 0 → turn ≡ Decide q true

    -- the turn moves a call of a container on, with this answer
    pub record HasGoneOn (flight : Flight T) : Type 0 where
      pub on : GoesOn turn q
      pub is : flight ≡ flights.Container on.flight
      pub answered : on.answer ≡ answer

    -- if the turn writes and asks what the step of the call does, the call goes on in it
    abbrev GoesOnFrom : Coding T → Registry T → Start T → Flight T → Type 0
    GoesOnFrom y kept a flight =
        WritesStep y kept a flight → AsksStep y kept a flight
        → ((p : ℕ) → p ≢ q → question_at (after_turn t turn) p ≡ question_at t p) → IsByYes y flight
        → question_at t q ≡ question_in y (Some flight) → HasGoneOn flight

    -- a call of the container at its stage, of which the turn writes and asks what its step
    -- does, goes on in this turn
    by_names : {a : Start T} {flight : Flight T} → StandsThere (family_by terms code c) t sound q x since a flight
        → GoesOnFrom code (kept_now shown terms code c t sound) a flight
    by_names {a = (Container start)} {flight = (flights.Container flight)} stands wrote asks others told asked =
        let there = is_there shown terms code c t sound q x since found start flight stands in
        record {
          on =
              record {
                start = start;
                flight = flight;
                answer = answer;
                since = since;
                backs = x.backs;
                asked = asked;
                span = there.here.span;
                at = there.at;
                knows = there.knows;
                wrote = wrote;
                asks = asks ∙ question_left code (state_of q sound.state.states) flight answer;
                others = others;
                mine = mine;
                by_yes = told;
              };
          is = refl;
          answered = refl;
        }
    by_names stands wrote asks others told asked = absurd stands.at

    -- the party's call under way goes on in this turn, by the machine's own words and states
    went : {flight : Flight T} → x.doing ≡ Going flight since → GoesOnFrom t.world.coding t.world.kept x.start flight
    went {flight} doing =
        subst (λ y. GoesOnFrom y t.world.kept x.start flight) (sym sound.coding)
        (subst (λ kept. GoesOnFrom code kept x.start flight) (sym sound.fit.kept)
        (by_names (stands_there (family_by terms code c) t sound q x since flight found doing)))

  -- ---- a step

  -- the old value of the word for which the call of the party asks
  abbrev next_number : Party T → Doing T → ℕ
  next_number x doing = old_of t.world.words (ask_of_doing t.world.coding doing)

  -- a step of a party whose call waits for no decision lets the call go on
  next_by : (q : ℕ) (x : Party T) → party_of q t.world.latest ≡ Some x → is_none (flight_in t.world q) ≡ false
      → is_due t.world.coding (flight_in t.world q) ≡ false → (doing : Doing T) → x.doing ≡ doing → GoesOn (Next q) q
  next_by q x found some free (Over others) same_doing =
      let here : flight_in t.world q ≡ None = ap (λ o. flight_of (doing_of o)) found ∙ ap (λ d. flight_of (Some d)) same_doing in
      let none : is_none (flight_in t.world q) ≡ true = ap is_none here in
      absurd (cc)
  next_by q x found some free (Going flight since) same_doing =
      let world = t.world in
      let here : flight_in world q ≡ Some flight = ap (λ o. flight_of (doing_of o)) found ∙ ap (λ d. flight_of (Some d)) same_doing in
      let asks_none : is_question (want_of world.coding flight) ≡ false = rw here at free in
      let n = next_number x (Going flight since) in
      let ask = ask_of_doing world.coding (Going flight since) in
      (went (Next q) q n refl x since found same_doing
      (ap (events_of_next world q) found ∙ ap (λ doing. events_of_answer world q x (next_number x doing) doing) same_doing)
      (ap (λ o. world_asks (after_next world q o) q) found
      ∙ (ap (λ doing. world_asks (after_answer world q x (ask_of_doing world.coding doing) (next_number x doing) doing) q) same_doing
      ∙ same_asks world q x since flight n ask))
      (λ p ne. ap (λ o. world_asks (after_next world q o) p) found
      ∙ (ap (λ doing. world_asks (after_answer world q x (ask_of_doing world.coding doing) (next_number x doing) doing) p) same_doing
      ∙ other_asks world q x since flight n ask p ne))
      (λ due not. absurd (cc))
      (ap (question_in world.coding) here)).on

  -- a step that is not refused lets the party's call go on
  next_goes : {q : ℕ} → call_refusal t.world (Next q) ≡ None → GoesOn (Next q) q
  next_goes {q} unrefused = by (party_of q t.world.latest) refl
    where
      -- whatever that party has under way, its call goes on
      by : (o : Option (Party T)) → party_of q t.world.latest ≡ o → GoesOn (Next q) q
      by None found =
          let first = row_passed (is_none (flight_in t.world q)) Idle _ unrefused in
          let none : is_none (flight_in t.world q) ≡ true = ap (λ o. is_none (flight_of (doing_of o))) found in
          let some = first.0 in
          absurd (cc)
      by (Some x) found =
          let first = row_passed (is_none (flight_in t.world q)) Idle _ unrefused in
          let second = row_passed (is_due t.world.coding (flight_in t.world q)) Undecided _ first.1 in
          next_by q x found first.0 second.0 x.doing refl

  -- ---- a decision

  -- a decision that is told to a party whose call waits for one lets the call go on with that answer
  decision_by : (q : ℕ) {said : Bool} (x : Party T) → party_of q t.world.latest ≡ Some x
      → is_due t.world.coding (flight_in t.world q) ≡ true → (doing : Doing T) → x.doing ≡ doing → IsDecided q said
  decision_by q x found due (Over others) same_doing =
      let here : flight_in t.world q ≡ None = ap (λ o. flight_of (doing_of o)) found ∙ ap (λ d. flight_of (Some d)) same_doing in
      let none : is_due t.world.coding (flight_in t.world q) ≡ false = ap (is_due t.world.coding) here in
      absurd (cc)
  decision_by q {said} x found due (Going flight since) same_doing =
      let world = t.world in
      let here : flight_in world q ≡ Some flight = ap (λ o. flight_of (doing_of o)) found ∙ ap (λ d. flight_of (Some d)) same_doing in
      let n = number_of said in
      let h = went (Decide q said) q n refl x since found same_doing
      (ap (events_of_decision world q said) found ∙ ap (events_of_answer world q x n) same_doing)
      (ap (λ o. world_asks (after_decision world q said o) q) found
      ∙ (ap (λ doing. world_asks (after_answer world q x None n doing) q) same_doing ∙ same_asks world q x since flight n None))
      (λ p ne. ap (λ o. world_asks (after_decision world q said o) p) found
      ∙ (ap (λ doing. world_asks (after_answer world q x None n doing) p) same_doing ∙ other_asks world q x since flight n None p ne))
      (λ waits some. ap (Decide q) (is_yes said some))
      (ap (question_in world.coding) here)
      in
      let asks : is_question (want_of world.coding flight) ≡ true = rw here at due in
      record {
        goes = h.on;
        due = subst (λ f. is_question (want_of code f) ≡ true) h.is (subst (λ y. is_question (want_of y flight) ≡ true) sound.coding asks);
        answer_is = h.answered;
      }
    where
      is_yes : (b : Bool) → number_of b ≢ 0 → b ≡ true
      is_yes true some = refl
      is_yes false some = absurd (some refl)

  -- a decision that is not refused lets the call that waits for it go on with that answer
  pub decided : (q : ℕ) (said : Bool) → IsAllowed t.world (Decide q said) → IsDecided q said
  decided q said allowed = by (party_of q t.world.latest) refl
    where
      due : is_due t.world.coding (flight_in t.world q) ≡ true
      due = allowed

      -- whatever that party has under way, its call goes on with this answer
      by : (o : Option (Party T)) → party_of q t.world.latest ≡ o → IsDecided q said
      by None found =
          let none : is_due t.world.coding (flight_in t.world q) ≡ false = ap (λ o. is_due t.world.coding (flight_of (doing_of o))) found in
          let waits = due in
          absurd (cc)
      by (Some x) found = decision_by q x found due x.doing refl

  -- ---- a begin, and a death

  -- a turn that writes no end and nothing that is wrong of a question, and after which nobody
  -- asks about anything new
  pub record IsCalmTurn (turn : Turn T) : Type 0 where
    pub right : AllByRecursion (WritesRight t turn (after_turn t turn)) (events_of t.world turn)
    pub ends_none : (p : ℕ) (start : Start T) (answer : Answer T) (wrote : List (Event T)) → events_of t.world turn ≡ wrote ++ Finished p start answer ∷ [] → ⊥
    pub asks : (p index : ℕ) (value : T) → question_at (after_turn t turn) p ≡ Some (index, value) → question_at t p ≡ Some (index, value)

  -- after a begin each party asks only about what it asked about before
  begun_asks : (q : ℕ) (start : Start T) (o : Option (Flight T))
      → first_of t.world.kind t.world.capacity start t.world.kept ≡ o → (p index : ℕ) (value : T)
      → world_asks (after_begin t.world q start o) p ≡ Some (index, value) → world_asks t.world p ≡ Some (index, value)
  begun_asks q start None first p index value asked = asked
  begun_asks q start (Some flight) first p index value asked = ⊎_elim here there (cases_eq p q)
    where
      -- a party that does not begin asks about what it asked about before
      there : p ≢ q → world_asks t.world p ≡ Some (index, value)
      there ne =
          sym (ap (λ o. question_in t.world.coding (flight_of (doing_of o)))
          (party_put_other p q (party_at_begin start flight t.world.changes) t.world.latest ne))
          ∙ asked

      -- no call begins with a question
      none_of : (start : Start T) (flight : Flight T)
          → first_of kinds.Container t.world.capacity start t.world.kept ≡ Some flight
          → question_in t.world.coding (Some flight) ≡ None
      none_of (Container a) (flights.Container one) begins_so =
          let own = begins_own t.world.capacity t.world.kept (Container a) (flights.Container one) begins_so in
          subst (λ f. question_in t.world.coding (Some (flights.Container f)) ≡ None) own.0 (question_first t.world.coding t.world.capacity a)
      none_of a one begins_so = absurd (begins_own t.world.capacity t.world.kept a one begins_so)

      -- the party that begins asks only what it asked before
      here : p ≡ q → world_asks t.world p ≡ Some (index, value)
      here same_party =
          let named : first_of kinds.Container t.world.capacity start t.world.kept ≡ Some flight =
          subst (λ kind. first_of kind t.world.capacity start t.world.kept ≡ Some flight) sound.kind first in
          let none : question_in t.world.coding (Some flight) ≡ None = none_of start flight named in
          let stands : world_asks (after_begin t.world q start (Some flight)) q ≡ question_in t.world.coding (Some flight) =
          ap (λ o. question_in t.world.coding (flight_of (doing_of o))) (party_put_same q (party_at_begin start flight t.world.changes) t.world.latest)
          in
          let moved : world_asks (after_begin t.world q start (Some flight)) q ≡ Some (index, value) =
          subst (λ n. world_asks (after_begin t.world q start (Some flight)) n ≡ Some (index, value)) same_party asked in
          absurd (cc)

  -- ---- any turn

  -- the call of some party goes on in the turn
  pub record IsGoing (turn : Turn T) : Type 0 where
    pub party : ℕ
    pub goes : GoesOn turn party

  -- any turn that is not refused is calm, or lets the call of one party go on
  pub any_turn : (turn : Turn T) → IsAllowed t.world turn → IsCalmTurn turn ⊎ IsGoing turn
  any_turn (Begin q start) allowed =
      inl
      (record {
        right = (tt, tt);
        ends_none = λ p b answer wrote e. no_end (Begun q start) p b answer wrote (λ h. cc) e;
        asks = begun_asks q start (first_of t.world.kind t.world.capacity start t.world.kept) refl;
      })
  any_turn (Next q) allowed = inr (record { party = q; goes = next_goes allowed })
  any_turn (Decide q said) allowed = inr (record { party = q; goes = (decided q said allowed).goes })
  any_turn (Die o) allowed =
      inl
      (record { right = (tt, tt); ends_none = λ p b answer wrote e. no_end (Died o) p b answer wrote (λ h. cc) e; asks = λ p index value e. e })

-- A find that ends has counted its owner's indices in the whole container, or up to the index that it
-- asked about if a no of its caller ended it. In a well-formed run it has copied what stood at each
-- index that it counted.
use Rattle.laws_container.proofs.Names.{◌≡◌, ◌≢◌, ℕ, ◌+◌, ◌==◌, ◌<◌, ◌≤◌, if◌then◌else◌, nat_lt, Bool, true, false}
use Rattle.laws_container.proofs.Names.{Option, Some, None, is_none, is_some, List, [], ◌∷◌, ◌++◌, refl, sym, ap}
use Rattle.laws_container.proofs.Names.{subst, ◌∙◌, arith, nat_tests, After, GoOn, FindStage, at_find, find_comes_to}
use Rattle.laws_container.proofs.Names.{is_even, empty, one_more, went_on, Answer, Number, Event, Finished, Start}
use Rattle.laws_container.proofs.Names.{Container, Flight, Registry, ContainerStart, ContainerFlight, Going, Party}
use Rattle.laws_container.proofs.Names.{Turn, Begin, Next, Decide, Die, Coding, want_of, ask_of, is_question}
use Rattle.laws_container.proofs.Names.{beside_of, step_of, want, after, IsFoundWhole, question_in, contents_of}
use Rattle.laws_container.proofs.Names.{state_of, effects, questions, IsFilledWith, IsCount, as_it_is, read_in}
use Rattle.laws_container.proofs.Names.{party_of, put, IsParty, is_due, call_refusal, as_call, answer_in, old_of}
use Rattle.laws_container.proofs.Names.{number_of, events_of_step, events_of, after_turn, flight_in, row_passed}
use Rattle.laws_container.proofs.Names.{StandsThere, stands_there, cell, both_ways, through_now}
use Rattle.steps.specs.declared.ask.After.TheVariants.{Done}
use Rattle.steps.specs.declared.container.find.Find as find_calls
use Rattle.steps.specs.declared.container.find.FindStage.TheVariants as finds
use Rattle.steps.specs.declared.copied.Buffer as buffers
use Rattle.model.specs.declared.families.Flight.TheVariants as flights
use Rattle.model.specs.declared.families.container.ContainerStart.TheVariants.{Find}
use Rattle.model.specs.declared.families.container.calls.ContainerFlight.TheVariants as calls
use Rattle.laws_robust.proofs.FindCoverage.{IsEnd, ends_alone}
use Rattle.laws_container.proofs.Finds.{Finding, nothing_stands, none_counts, found_none, found_past}
use Rattle.laws_container.proofs.Invariant.{Scene, Inv, before, family_by}
use Rattle.laws_container.proofs.Knows.{HasFoundBelow, Knows}
use Rattle.laws_container.proofs.WellFormed.{IsWellFormedSoFar}
use Rattle.laws_container.proofs.Sound.{SoundRun, kept_now, scene_of, inv_with, is_there}
use Rattle.laws_container.proofs.Stages.{IsUnderWay, all, done, sees_now, any_call, was_well_formed}
use Rattle.laws_container.proofs.CallProgress.{find_at, At, FindAt}
use Rattle.laws_container.proofs.Turns.{WellFormed, count_in}
use Rattle.laws_container.proofs.Writing.{even_is}
use Rattle.laws_container.proofs.Written.{all_effects}
use Rattle.laws_container.proofs.Allowed.{IsAllowed}
use Rattle.lemmas_owners.proofs.OneTurn.{by_next, by_decision}
use Rattle.lemmas.proofs.Cases.{by_bool}

-- ---- a find that ends

-- `scene` is a turn of party `p` with the machine before it, and `inv` what holds there; a find for `owner`
-- is under way
module _ {T : Type 0} (scene : Scene T) (inv : Inv scene) (owner : ℕ) (fits : owner < empty) where
  open scene use {coding as code, capacity as c, party as p, events as events}

  abbrev finding : Finding T
  finding = record { scene = scene; inv = inv; owner = owner; fits = fits }

  -- the count below `bound` is `number`, and in a well-formed run what stood at each counted index is copied
  pub record HasCounted (bound number : ℕ) : Type 0 where
    pub count : IsCount p (IsFilledWith owner) bound number events
    pub whole : WellFormed (before scene) → IsFoundWhole p owner bound number events

  whole_of : (bound number : ℕ) → HasFoundBelow code c owner bound bound number (sees_now scene) → IsFoundWhole p owner bound number events
  whole_of bound number found_below = record { count = found_below.count; copied = λ index less chosen through. found_below.copied index less chosen through }

  abbrev as_find : buffers.Buffer 128 → After (find_calls.Find T (buffers.Buffer 128)) ℕ → After (Flight T) (Answer T)
  as_find room r = any_call (as_call calls.Find Number (went_on as_it_is owner room r))

  done_is : (room : buffers.Buffer 128) (number : ℕ) (r : After (find_calls.Find T (buffers.Buffer 128)) ℕ)
      → answer_in (as_find room r) ≡ Some (Number number) → r ≡ Done number
  done_is room number (GoOn call) ends_so = absurd (cc)
  done_is room number (Done found) ends_so = cc

  abbrev at_stage : FindStage → find_calls.Find T (buffers.Buffer 128)
  at_stage stage = record { capacity = c; stage = stage; of = record {} }

  -- a find that ends as it passes index `k` has no index behind it, and answers what it has found
  comes_is : (stage : FindStage) (k found number : ℕ) → find_comes_to (at_stage stage) (k + 1) found ≡ Done number → (c ≤ k + 1) × (found ≡ number)
  comes_is stage k found number ends_so = go (nat_lt (k + 1) c) refl ends_so
    where
      go : (b : Bool) → nat_lt (k + 1) c ≡ b
          → (if b then GoOn (at_find (at_stage stage) (finds.LoadsCell (k + 1) found)) else Done found) ≡ Done number
          → (c ≤ k + 1) × (found ≡ number)
      go true next_test ends_so = absurd (cc)
      go false next_test ends_so = (grind (arith, nat_tests), cc)

  ended : (k found number : ℕ) → k < c → (c ≤ k + 1) × (found ≡ number) → HasCounted (k + 1) found → HasCounted c number
  ended = grind arith

  -- a find at this stage, handed what it loaded or a yes, ends with `number` only if it has counted all
  abbrev CountsAllAtEnd : ℕ → Bool → ContainerFlight T → Type 0
  CountsAllAtEnd number due flight =
      IsUnderWay scene (Find owner) flight → Knows code c flight (sees_now scene) → is_question (want code flight) ≡ due
      → (answer : ℕ) → (due ≡ false → answer ≡ old_of scene.words (ask_of (want code flight)))
      → (due ≡ true → answer ≢ 0)
      → answer_in (any_call (after code (state_of p scene.states) flight answer)) ≡ Some (Number number) → HasCounted c number

  -- whatever its stage, a find that ends with a number after a load or a yes has counted all
  stage_tells : (number : ℕ) (due : Bool) (room : buffers.Buffer 128) (stage : FindStage)
      → FindAt c code.size (all scene) (done scene) stage → CountsAllAtEnd number due (find_at c owner room stage)
  stage_tells number due room (finds.LoadsCell k found) stands here h asks answer loads told e = go (answer == owner) refl (done_is _ number _ e)
    where
      -- the cases are whether the cell has the owner
      go : (b : Bool) → (answer == owner) ≡ b
          → (if b then GoOn (at_find (at_stage (finds.LoadsCell k found)) (finds.LoadsCount k (one_more found)))
          else find_comes_to (at_stage (finds.LoadsCell k found)) (k + 1) found)
          ≡ Done number
          → HasCounted c number
      go true owner_test ends_so = absurd (cc)
      go false owner_test ends_so =
          let answer_is : answer ≡ cell scene.words k = loads (sym asks) in
          let other : cell scene.words k ≢ owner = grind (arith, nat_tests) in
          ended k found number stands.1 (comes_is (finds.LoadsCell k found) k found number ends_so)
          (record {
            count = none_counts finding k found stands.1 other h.1.1;
            whole = λ well_formed. whole_of (k + 1) found (found_none finding k found stands.1 other h.1.2 well_formed);
          })
  stage_tells number due room (finds.LoadsCount k found) stands here h asks answer loads told e = go (is_even answer) refl (done_is _ number _ e)
    where
      -- the cases are whether the count is even (nothing stands there)
      go : (b : Bool) → is_even answer ≡ b
          → (if b then find_comes_to (at_stage (finds.LoadsCount k found)) (k + 1) found else GoOn
          (at_find (at_stage (finds.LoadsCount k found)) (finds.LoadsWord k found answer 0)))
          ≡ Done number
          → HasCounted c number
      go true even_test ends_so =
          let answer_is : answer ≡ count_in code c (before scene) k = loads (sym asks) in
          let even : is_even (count_in code c (before scene) k) ≡ true = subst (λ n. is_even n ≡ true) answer_is even_test in
          ended k found number stands.1 (comes_is (finds.LoadsCount k found) k found number ends_so)
          (record {
            count = h.1.0.1;
            whole = λ well_formed. whole_of (k + 1) found (found_past finding k found (λ holds through. both_ways (is_some (contents_of k events))
                (nothing_stands code c scene.words k (contents_of k events) (inv.elements.whole holds k stands.1)
                (even_is (count_in code c (before scene) k) even))
                (through_now p (λ part. is_some (contents_of k part) ≡ true) events through))
                h.1.0.2 well_formed);
          })
      go false even_test ends_so = absurd (cc)
  stage_tells number due room (finds.LoadsWord k found count word) stands here h asks answer loads told e =
      go (nat_lt (word + 1) code.size) (done_is _ number _ e)
    where
      -- the cases are whether a further word of the value follows; the find goes on in both
      go : (b : Bool)
          → (if b then GoOn
          (at_find (at_stage (finds.LoadsWord k found count word)) (finds.LoadsWord k found count (word + 1)))
          else GoOn
          (at_find (at_stage (finds.LoadsWord k found count word)) (finds.ChecksCount k found count)))
          ≡ Done number
          → HasCounted c number
      go true ends_so = absurd (cc)
      go false ends_so = absurd (cc)
  stage_tells number due room (finds.ChecksCount k found count) stands here h asks answer loads told e =
      go (answer == count) refl (done_is _ number _ e)
    where
      -- the cases are whether the count is still what was read
      go : (b : Bool) → (answer == count) ≡ b
          → (if b then GoOn (at_find (at_stage (finds.ChecksCount k found count)) (finds.Asks k found))
          else find_comes_to (at_stage (finds.ChecksCount k found count)) (k + 1) found)
          ≡ Done number
          → HasCounted c number
      go true number_test ends_so = absurd (cc)
      go false number_test ends_so =
          let answer_is : answer ≡ count_in code c (before scene) k = loads (sym asks) in
          let other : count_in code c (before scene) k ≢ count = grind (arith, nat_tests) in
          ended k found number stands.1.0 (comes_is (finds.ChecksCount k found count) k found number ends_so)
          (record {
            count = h.1.0.1;
            whole =
                λ well_formed. whole_of (k + 1) found (found_past finding k found (λ holds through. other (h.1.1 holds through)) h.1.0.2 well_formed);
          })
  stage_tells number due room (finds.Asks k found) stands here h asks answer loads told e = go (answer == 0) refl (done_is _ number _ e)
    where
      go : (b : Bool) → (answer == 0) ≡ b
          → (if b then Done found else find_comes_to (at_stage (finds.Asks k found)) (k + 1) found) ≡ Done number
          → HasCounted c number
      go = grind (arith, ended, comes_is, whole_of, nat_tests)

  -- a find whose caller says no ends, and has counted the indices up to the one that it asked about
  abbrev CountsUpToNo : ℕ → ℕ → T → ContainerFlight T → Type 0
  CountsUpToNo number index value flight =
      Knows code c flight (sees_now scene)
      → question_in code (Some (flights.Container flight)) ≡ Some (index, value)
      → answer_in (any_call (after code (state_of p scene.states) flight 0)) ≡ Some (Number number)
      → HasCounted (index + 1) number

  stage_stops : (number index : ℕ) (value : T) (room : buffers.Buffer 128) (stage : FindStage) → CountsUpToNo number index value (find_at c owner room stage)
  stage_stops = grind (arith, read_in, whole_of)

module _ {T : Type 0} (scene : Scene T) (inv : Inv scene) (owner : ℕ) where
  open scene use {coding as code, capacity as c, party as p, events as events}

  -- the owner of a find under way is a number that a cell can hold
  owner_fits : (flight : ContainerFlight T) → At c code.size (all scene) (done scene) (Find owner) flight → owner < empty
  owner_fits (calls.Find run) stands = stands.2
  owner_fits flight stands = absurd stands

  -- a find that ends when it is handed what it has loaded, or a yes, has its number for the whole container
  find_tells : (number : ℕ) (due : Bool) (flight : ContainerFlight T)
      → (at : At c code.size (all scene) (done scene) (Find owner) flight) → (fits : owner < empty)
      → CountsAllAtEnd scene inv owner fits number due flight
  find_tells number due (calls.Find run) at fits =
      subst (CountsAllAtEnd scene inv owner fits number due)
      (sym (ap (λ n. find_at n run.given run.room run.call.stage) at.0 ∙ ap (λ o. find_at c o run.room run.call.stage) at.1))
      (stage_tells scene inv owner fits number due run.room run.call.stage at.3)
  find_tells number due flight at fits = absurd at

  -- a find that a no ends has its number for the indices up to the one that it asked about, that one among them
  find_stops : (number index : ℕ) (value : T) (flight : ContainerFlight T)
      → At c code.size (all scene) (done scene) (Find owner) flight → (fits : owner < empty)
      → CountsUpToNo scene inv owner fits number index value flight
  find_stops number index value (calls.Find run) stands fits =
      subst (CountsUpToNo scene inv owner fits number index value)
      (sym (ap (λ n. find_at n run.given run.room run.call.stage) stands.0 ∙ ap (λ o. find_at c o run.room run.call.stage) stands.1))
      (stage_stops scene inv owner fits number index value run.room run.call.stage)
  find_stops number index value flight stands fits = absurd stands

module _ {T : Type 0} where
  -- a call's name is a find's where it reads as one
  find_name : (start : ContainerStart T) (owner : ℕ) → ◌≡◌ {A = Start T} (Container start) (Container (Find owner)) → start ≡ Find owner
  find_name start owner e = cc

-- ---- a step of a party's call

-- the call of party `q` is handed this answer, and party `p` may so have ended a find of this owner with this number
pub record Handed (T : Type 0) : Type 0 where
  -- the run so far, which is sound and may go on
  pub run : SoundRun T
  -- the party of the turn, as the machine has it
  pub q : ℕ
  pub x : Party T
  pub since : ℕ
  pub found : party_of q run.trace.world.latest ≡ Some x
  -- the turn, the answer that it gives the party's call, and the find whose end is looked for
  pub turn : Turn T
  pub mine : IsParty turn q
  pub answer : ℕ
  pub p : ℕ
  pub owner : ℕ
  pub number : ℕ

module _ {T : Type 0} (handed : Handed T) where
  open handed use {run, q, x, since, found, turn, mine, answer, p, owner, number}
  open handed.run use {shown, terms, code, trace as t, sound as s, may}

  abbrev c : ℕ
  c = t.world.capacity

  abbrev scene : Scene T
  scene = scene_of shown terms code c t s q x since

  abbrev inv : Inv scene
  inv = inv_with shown terms code c t s q x since found may

  -- the step of this call wrote that the find of party `p` is done, and nothing else
  abbrev WroteTheEnd : Coding T → Registry T → Start T → Flight T → Type 0
  WroteTheEnd y kept start flight =
      events_of_step q start (step_of y t.world.words (beside_of t.world.words kept t.world.latest q) q start flight answer kept)
      ≡ Finished p (Container (Find owner)) (Number number) ∷ []

  abbrev end_of : ContainerFlight T → Option (Answer T)
  end_of flight = answer_in (any_call (after code (state_of q s.state.states) flight answer))

  -- a step that wrote only the end of the find of `p` was a step of `p` in this find, and
  -- ended it with this number
  wrote_end : (start : ContainerStart T) (flight : ContainerFlight T)
      → WroteTheEnd code (kept_now shown terms code c t s) (Container start) (flights.Container flight)
      → IsEnd q p (Container start) (Container (Find owner)) (end_of flight) (Number number)
  wrote_end start flight wrote =
      ends_alone turn q p (effects code q (state_of q s.state.states) flight answer ++ questions q flight answer)
      (Container start) (Container (Find owner)) (end_of flight) (Number number)
      (all_effects turn q mine code (state_of q s.state.states) flight answer) wrote

  -- what is known of an ended find: its party, its count below `bound`, and, in a well-formed run, its copies
  pub record IsEndKnown (bound : ℕ) : Type 0 where
    pub party : q ≡ p
    pub count : IsCount p (IsFilledWith owner) bound number t.events
    pub whole : (y : Party T)
        → IsWellFormedSoFar terms (put q y t.world.latest) (t.events ++ Finished p (Container (Find owner)) (Number number) ∷ [])
        → IsFoundWhole p owner bound number t.events

  -- what a find has counted below a bound is known of it when it ends
  ends_with : (bound : ℕ) (flight : ContainerFlight T) → q ≡ p
      → IsUnderWay scene (Find owner) flight → (fits : owner < empty)
      → HasCounted scene inv owner fits bound number
      → IsEndKnown bound
  ends_with bound flight same_party here fits found_so_far =
      record {
        party = same_party;
        count = subst (λ n. IsCount n (IsFilledWith owner) bound number t.events) same_party found_so_far.count;
        whole = λ y well_formed.
            subst (λ n. IsFoundWhole n owner bound number t.events) same_party
            (found_so_far.whole (was_well_formed scene (Find owner) tt here.span s.state.words y
            (Finished p (Container (Find owner)) (Number number) ∷ []) (ap Some (sym same_party), tt) well_formed));
      }

  -- a call that was handed what it loaded, or a yes, and wrote only that the find is done, has counted all
  counted : (due : Bool) → (due ≡ true → answer ≢ 0) → (start : Start T) (flight : Flight T)
      → StandsThere (family_by terms code c) t s q x since start flight → is_question (want_of code flight) ≡ due
      → (due ≡ false → answer ≡ old_of s.state.words (ask_of (want_of code flight)))
      → WroteTheEnd code (kept_now shown terms code c t s) start flight → IsEndKnown c
  counted due told (Container start) (flights.Container flight) standing asks loads wrote =
      let end = wrote_end start flight wrote in
      let name = find_name start owner end.name in
      let stands = subst (λ a. StandsThere (family_by terms code c) t s q x since (Container a) (flights.Container flight)) name standing in
      let there = is_there shown terms code c t s q x since found (Find owner) flight stands in
      let fits = owner_fits scene inv owner flight there.at in
      ends_with c flight end.party there.here fits (find_tells scene inv owner number due flight there.at fits
      there.here there.knows asks answer loads told end.done)
  counted due told start flight standing asks loads wrote = absurd standing.at

  -- a call that was told no about an index, and wrote only that the find is done, has counted up to that one
  stopped : (index : ℕ) (value : T) → answer ≡ 0 → (start : Start T) (flight : Flight T)
      → StandsThere (family_by terms code c) t s q x since start flight
      → question_in code (Some flight) ≡ Some (index, value) → WroteTheEnd code (kept_now shown terms code c t s) start flight
      → IsEndKnown (index + 1)
  stopped index value zero (Container start) (flights.Container flight) standing asks wrote =
      let end = wrote_end start flight wrote in
      let name = find_name start owner end.name in
      let stands = subst (λ a. StandsThere (family_by terms code c) t s q x since (Container a) (flights.Container flight)) name standing in
      let there = is_there shown terms code c t s q x since found (Find owner) flight stands in
      let fits = owner_fits scene inv owner flight there.at in
      ends_with (index + 1) flight end.party there.here fits (find_stops scene inv owner number index value flight there.at fits there.knows asks
      (subst (λ n. answer_in (any_call (after code (state_of q s.state.states) flight n)) ≡ Some (Number number)) zero end.done))
  stopped index value zero start flight standing asks wrote = absurd standing.at

  own_end : (start : Start T) (flight : Flight T) → StandsThere (family_by terms code c) t s q x since start flight
      → WroteTheEnd code (kept_now shown terms code c t s) start flight → q ≡ p
  own_end = grind (arith, wrote_end)

  -- the call under way writes this by the machine's own words, and by what is kept beside them
  module _ (flight : Flight T) (doing : x.doing ≡ Going flight since) (e : WroteTheEnd t.world.coding t.world.kept x.start flight) where
    there_is : StandsThere (family_by terms code c) t s q x since x.start flight
    there_is = stands_there (family_by terms code c) t s q x since flight found doing

    by_now : WroteTheEnd code (kept_now shown terms code c t s) x.start flight
    by_now =
        subst (λ kept. WroteTheEnd code kept x.start flight) s.fit.kept
        (subst (λ y. WroteTheEnd y t.world.kept x.start flight) s.coding e)

    pub own_party : q ≡ p
    own_party = own_end x.start flight there_is by_now

    -- a find that wrote its end when it was handed what it had loaded, or a yes, has counted over the whole container
    pub all_counted : (due : Bool) → (due ≡ true → answer ≢ 0) → is_question (want_of t.world.coding flight) ≡ due
        → (due ≡ false → answer ≡ old_of t.world.words (ask_of (want_of t.world.coding flight))) → IsEndKnown c
    all_counted due told asks loads =
        counted due told x.start flight there_is (subst (λ y. is_question (want_of y flight) ≡ due) s.coding asks)
        (λ no. loads no
        ∙ (ap (λ ws. old_of ws (ask_of (want_of t.world.coding flight))) s.fit.words
        ∙ ap (λ y. old_of s.state.words (ask_of (want_of y flight))) s.coding))
        by_now

    pub all_stopped : (index : ℕ) (value : T) → answer ≡ 0 → question_in t.world.coding (Some flight) ≡ Some (index, value) → IsEndKnown (index + 1)
    all_stopped index value zero asks =
        stopped index value zero x.start flight there_is
        (subst (λ y. question_in y (Some flight) ≡ Some (index, value)) s.coding asks) by_now

-- ---- any turn

-- party `p` has the find for `owner`, whose answer may be `number`
module _ {T : Type 0} (run : SoundRun T) (p owner number : ℕ) where
  open run use {terms, trace as t}

  abbrev WroteOnlyEnd : List (Event T) → Type 0
  WroteOnlyEnd es = es ≡ Finished p (Container (Find owner)) (Number number) ∷ []

  -- the record `Handed` of this step of the call of party `q`
  abbrev handed : (q : ℕ) {x : Party T} → party_of q t.world.latest ≡ Some x → ℕ → (turn : Turn T) → IsParty turn q → ℕ → Handed T
  handed q {x} found since turn mine answer =
      record {
        run = run;
        q = q;
        x = x;
        since = since;
        found = found;
        turn = turn;
        mine = mine;
        answer = answer;
        p = p;
        owner = owner;
        number = number;
      }

  -- what is known of the find that ended in a turn that leaves the calls `latest`: its count, and its copies
  abbrev pub TellsCount : ℕ → List (ℕ × Party T) → Type 0
  TellsCount bound latest =
      IsCount p (IsFilledWith owner) bound number t.events
      × (IsWellFormedSoFar terms latest (t.events ++ Finished p (Container (Find owner)) (Number number) ∷ [])
      → IsFoundWhole p owner bound number t.events)

  -- a step that wrote only that the find is done tells that the find has counted the whole container
  next_tells : (q : ℕ) → is_due t.world.coding (flight_in t.world q) ≡ false
      → WroteOnlyEnd (events_of t.world (Next q)) → TellsCount t.world.capacity (after_turn t (Next q)).world.latest
  next_tells q free =
      by_next t.world q (λ w es. WroteOnlyEnd es → TellsCount t.world.capacity w.latest) (λ ended. absurd (cc)) (λ x flight since has ended.
      let h =
      all_counted (handed q has.found since (Next q) refl (old_of t.world.words (ask_of (want_of t.world.coding flight))))
      flight has.doing ended false (λ told. absurd (cc)) (rw has.here at free) (λ no. refl) in
      (h.count, h.whole _))

  -- a decision other than a no to the find's party, which wrote only the end of the find,
  -- tells that all is counted
  decision_tells : (q : ℕ) (said : Bool) → is_due t.world.coding (flight_in t.world q) ≡ true
      → ◌≢◌ {A = Turn T} (Decide q said) (Decide p false)
      → WroteOnlyEnd (events_of t.world (Decide q said)) → TellsCount t.world.capacity (after_turn t (Decide q said)).world.latest
  decision_tells q said due ne =
      by_decision t.world q (λ w es. WroteOnlyEnd es → TellsCount t.world.capacity w.latest) (λ ended. absurd (cc)) said (λ x flight since has ended.
      let answered = handed q has.found since (Decide q said) refl (number_of said) in
      by_bool said
      (λ said_is.
      let h =
      all_counted answered flight has.doing ended true
      (λ told zero. let one : number_of said ≡ 1 = ap number_of said_is in absurd (omega arith)) (rw has.here at due) (λ no. absurd (cc)) in
      (h.count, h.whole _))
      (λ said_is. absurd (ne (ap (λ n. Decide n said) (own_party answered flight has.doing ended) ∙ ap (λ b. Decide p b) said_is))))

  -- a no about an index that wrote only that the find is done tells that the indices up to it are counted
  pub stop_tells : {index : ℕ} {value : T} → question_in t.world.coding (flight_in t.world p) ≡ Some (index, value)
      → WroteOnlyEnd (events_of t.world (Decide p false)) → TellsCount (index + 1) (after_turn t (Decide p false)).world.latest
  stop_tells {index} {value} asks =
      by_decision t.world p (λ w es. WroteOnlyEnd es → TellsCount (index + 1) w.latest) (λ ended. absurd (cc)) false (λ x flight since has ended.
      let asks_so : question_in t.world.coding (Some flight) ≡ Some (index, value) = rw has.here at asks in
      let h = all_stopped (handed p has.found since (Decide p false) refl (number_of false)) flight has.doing ended index value refl asks_so in
      (h.count, h.whole _))

  -- a step is refused to a party that waits for a decision
  not_due : (q : ℕ) → call_refusal t.world (Next q) ≡ None → is_due t.world.coding (flight_in t.world q) ≡ false
  not_due = grind (arith, row_passed, is_none)

  -- a turn other than a no to the find's party, which wrote only the end of the find,
  -- tells that all is counted
  pub tells : (turn : Turn T) → IsAllowed t.world turn → WroteOnlyEnd (events_of t.world turn)
      → turn ≢ Decide p false → TellsCount t.world.capacity (after_turn t turn).world.latest
  tells (Begin q start) allowed ended ne = absurd (cc)
  tells (Next q) allowed ended ne = next_tells q (not_due q allowed) ended
  tells (Decide q said) allowed ended ne = decision_tells q said allowed ne ended
  tells (Die o) allowed ended ne = absurd (cc)

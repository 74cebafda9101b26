-- A find of the robust set that ends in another turn than a no has come to all indices of the set:
-- `IsCount` (a count over the whole set) holds of its number.
use Rattle.laws_robust.proofs.Names.{◌≡◌, ◌≢◌, ℕ, ◌^◌, ◌-◌, ◌<◌, Bool, true, false, Option, Some, None, List, [], ◌∷◌}
use Rattle.laws_robust.proofs.Names.{◌++◌, refl, sym, ap, subst, ◌∙◌, arith, append_cancel_left, AllByRecursion}
use Rattle.laws_robust.proofs.Names.{After, GoOn, Done, FindStage, empty, went_on, Answer, Number, Event, Finished}
use Rattle.laws_robust.proofs.Names.{Start, Robust, Flight, Registry, RobustStart, RobustFlight, Going, Party, Turn}
use Rattle.laws_robust.proofs.Names.{Begin, Next, Decide, Die, Coding, want_of, ask_of, is_question, beside_of}
use Rattle.laws_robust.proofs.Names.{step_of, want, after, IsCount, IsFilledWith, FindsAll, effects, as_it_is}
use Rattle.laws_robust.proofs.Names.{party_of, IsParty, IsEffectOf, refusal_of, is_due, call_refusal, as_call}
use Rattle.laws_robust.proofs.Names.{answer_in, old_of, number_of, events_of_step, events_of, ending_of, after_turn}
use Rattle.laws_robust.proofs.Names.{World, Trace, flight_in, passes, must_be_due, StandsThere, stands_there}
use Rattle.steps.specs.declared.indices.robust.find.Find as find_calls
use Rattle.model.specs.declared.families.Flight.TheVariants as flights
use Rattle.model.specs.declared.families.Registry.TheVariants as registries
use Rattle.model.specs.declared.families.indices.robust.RobustStart.TheVariants as starts
use Rattle.model.specs.declared.families.indices.robust.calls.RobustFlight.TheVariants as calls
use Rattle.model.proofs.Frame as frame
use Rattle.laws_robust.proofs.Finds.{find_loads_all, find_asks_all}
use Rattle.laws_robust.proofs.Invariant.{Scene, Inv, family}
use Rattle.laws_robust.proofs.Knows.{Knows}
use Rattle.laws_robust.proofs.CallProgress.{find_at, At, FindAt}
use Rattle.laws_robust.specs.Gone.{Death}
use Rattle.laws_robust.proofs.Sound.{scene_of, inv_of, is_there}
use Rattle.laws_robust.proofs.Stages.{all, now, any_call}
use Rattle.laws_robust.proofs.Written.{all_effects}
use Rattle.lemmas_owners.proofs.OneTurn.{by_next, by_decision}
use Rattle.lemmas.proofs.Cases.{by_bool}

-- A turn in which the call of the party `q` gets an answer; the question is whether it ended a find of the
-- party `p` for this owner with this number.
pub record Handed (T : Type 0) : Type 0 where
  -- the run so far, after which the invariant holds
  pub code : Coding T
  pub c : ℕ
  pub t : Trace T
  pub s : frame.Sound (family code c) t
  -- the party of the turn, as the machine has it
  pub q : ℕ
  pub x : Party T
  pub since : ℕ
  pub small : t.world.turns < 2 ^ 64 - 2
  pub found : party_of q t.world.latest ≡ Some x
  -- the turn, and the answer that it gives the party's call
  pub turn : Turn T
  pub mine : IsParty turn q
  pub answer : ℕ
  -- the find whose end is looked for: its party, its owner and its number
  pub p : ℕ
  pub owner : ℕ
  pub number : ℕ

module _ {T : Type 0} where
  -- ---- a turn that writes an end alone

  -- the step is of the party `p`, of this begin, and ends the call with this answer
  pub record IsEnd (q p : ℕ) (start start' : Start T) (outcome : Option (Answer T)) (answer : Answer T) : Type 0 where
    pub party : q ≡ p
    pub name : start ≡ start'
    pub done : outcome ≡ Some answer

  -- where a turn's events are this end alone, with no effect before it, the step is one of this call, and
  -- ended it with this answer
  pub ends_alone : (turn : Turn T) (q p : ℕ) (es : List (Event T)) (start start' : Start T)
      (outcome : Option (Answer T)) (answer : Answer T)
      → AllByRecursion (IsEffectOf turn) es
      → es ++ ending_of q start outcome ≡ Finished p start' answer ∷ [] → IsEnd q p start start' outcome answer
  ends_alone turn q p [] start start' None answer are events_are = absurd (cc)
  ends_alone turn q p [] start start' (Some a) answer are events_are =
      let party : q ≡ p = cc in
      let name : start ≡ start' = cc in
      let same : a ≡ answer = cc in
      record { party = party; name = name; done = ap Some same }
  ends_alone turn q p (x ∷ xs) start start' outcome answer are events_are =
      let same_event : x ≡ Finished p start' answer = cc in
      absurd (subst (IsEffectOf turn) same_event are.0)

  -- a find that answers this number was done with it
  done_is : (owner number : ℕ) (r : After find_calls.Find ℕ)
      → answer_in (any_call {T = T} (as_call calls.Find Number (went_on as_it_is owner tt r))) ≡ Some (Number number)
      → r ≡ Done number
  done_is owner number (GoOn call) answer_is = absurd (cc)
  done_is owner number (Done found) answer_is = cc

  -- ---- a find

  -- the party `p` of the scene finds for the owner
  module _ {scene : Scene T} (inv : Inv scene) (owner : ℕ) where
    open scene use {capacity as c, party as p, events as events}

    -- a find that ends with this number, at a load or a yes, has counted over the whole set
    abbrev EndsCounted : ℕ → Bool → RobustFlight → Type 0
    EndsCounted number due flight =
        Knows c flight (now scene) → is_question (want flight) ≡ due → (answer : ℕ)
        → (due ≡ false → answer ≡ old_of scene.set.words (ask_of (want flight))) → (due ≡ true → answer ≢ 0)
        → answer_in
        (any_call (after {T = T} flight answer)) ≡ Some (Number number) → IsCount p (IsFilledWith owner) c number events

    -- this holds of a find at each stage
    stage_tells : (fits : owner < empty) (number : ℕ) (due : Bool) (stage : FindStage) → FindAt c (all scene) stage
        → EndsCounted number due (find_at c owner stage)
    stage_tells = grind (arith, find_loads_all, done_is, find_asks_all)

    -- this holds of each call that is a find of the owner
    find_tells : (number : ℕ) (due : Bool) (flight : RobustFlight) → At c (all scene) (starts.Find owner) flight → EndsCounted number due flight
    find_tells number due (calls.Find run) at =
        subst (EndsCounted number due) (sym (ap (λ n. find_at n run.given run.call.stage) at.0 ∙ ap (λ o. find_at c o run.call.stage) at.1))
        (stage_tells at.2 number due run.call.stage at.3)
    find_tells number due flight at = absurd at

  -- a start of the set that a machine takes for this find is this find
  robust_name : (start : RobustStart) (owner : ℕ)
      → ◌≡◌ {A = Start T} (Robust start) (Robust (starts.Find owner))
      → start ≡ starts.Find owner
  robust_name start owner e = cc

  -- ---- a step of a party's call

  module _ (handed : Handed T) where
    open handed use {code, c, t, s, q, x, since, small, found, turn, mine, answer, p, owner, number}

    -- the step of this call wrote that the find has ended with the number, and nothing else
    abbrev Wrote : Registry T → Start T → Flight T → Type 0
    Wrote kept start flight =
        events_of_step q start
        (step_of t.world.coding t.world.words (beside_of t.world.words kept t.world.latest q) q start flight answer kept)
        ≡ Finished p (Robust (starts.Find owner)) (Number number) ∷ []

    -- a step that wrote only that the find of `p` has ended was a step of `p`, of that find, which ended
    -- with that number
    wrote_end : (start : RobustStart) (flight : RobustFlight)
        → Wrote (registries.Owners s.state.dead) (Robust start) (flights.Robust flight)
        → IsEnd q p (Robust start) (Robust (starts.Find owner)) (answer_in (any_call (after {T = T} flight answer))) (Number number)
    wrote_end start flight wrote =
        ends_alone turn q p (effects q flight answer) (Robust start) (Robust (starts.Find owner)) _
        (Number number) (all_effects turn q mine flight answer) wrote

    -- the party whose call took the step is then `p`
    own_end : (start : Start T) (flight : Flight T) → StandsThere (family code c) t s q x since start flight
        → Wrote (registries.Owners s.state.dead) start flight → q ≡ p
    own_end = grind (arith, wrote_end)

    -- a call that stands in the machine, got the value that it had loaded or a yes, and wrote that the find
    -- has ended, has counted over the whole set
    counted : (due : Bool) → (due ≡ true → answer ≢ 0) → {start : Start T} {flight : Flight T}
        → StandsThere (family code c) t s q x since start flight → is_question (want_of t.world.coding flight) ≡ due
        → (due ≡ false → answer ≡ old_of s.state.words (ask_of (want_of t.world.coding flight)))
        → Wrote (registries.Owners s.state.dead) start flight
        → IsCount p (IsFilledWith owner) c number t.events
    counted due told {start = (Robust start)} {flight = (flights.Robust flight)} standing asks loads wrote =
        let there = is_there Death code c t s q x since found start flight standing in
        let end = wrote_end start flight wrote in
        let at = subst (λ a. At c (all (scene_of Death code c t s q x since)) a flight) (robust_name start owner end.name) there.at in
        rw (← end.party) (find_tells (inv_of Death code c t s q x since found small) owner
        number due flight at there.knows asks answer loads told end.done)
    counted due told standing asks loads wrote = absurd standing.at

    -- what the machine has of the party's call and of dead owners, in place of the family's
    module _ {flight : Flight T} (doing : x.doing ≡ Going flight since) (e : Wrote t.world.kept x.start flight) where
      -- the call of the party stands in the machine
      there : StandsThere (family code c) t s q x since x.start flight
      there = stands_there (family code c) t s q x since flight found doing

      -- the step of the call, with the owners that the set keeps
      by_owners : Wrote (registries.Owners s.state.dead) x.start flight
      by_owners = subst (λ kept. Wrote kept x.start flight) s.fit.kept e

      -- the party whose call ends is the one of the turn
      pub own_party : q ≡ p
      own_party = own_end x.start flight there by_owners

      -- a find that wrote its end as it got the value that it had loaded, or a yes, has
      -- counted over the whole set
      pub all_counted : (due : Bool) → (due ≡ true → answer ≢ 0) → is_question (want_of t.world.coding flight) ≡ due
          → (due ≡ false → answer ≡ old_of t.world.words (ask_of (want_of t.world.coding flight)))
          → IsCount p (IsFilledWith owner) c number t.events
      all_counted due told asks loads =
          counted due told there asks
          (λ no. loads no
          ∙ ap (λ ws. old_of ws (ask_of (want_of t.world.coding flight))) s.fit.words)
          by_owners

  -- ---- any turn

  -- `c` is the capacity, `t` the run so far, and `s` says that the invariant holds after it; the party `p`
  -- finds for the owner
  module _ (code : Coding T) (c : ℕ) (t : Trace T) (s : frame.Sound (family code c) t) (p owner number : ℕ) where
    -- the turn wrote that the find has ended, and nothing else
    abbrev Ended : List (Event T) → Type 0
    Ended es = es ≡ Finished p (Robust (starts.Find owner)) (Number number) ∷ []

    -- the turn of the party `q` as the record `Handed` has it
    abbrev handed : (q : ℕ) {x : Party T} → t.world.turns < 2 ^ 64 - 2 → party_of q t.world.latest ≡ Some x → ℕ → (turn : Turn T) → IsParty turn q → ℕ
        → Handed T
    handed q {x} small found since turn mine answer =
        record {
          code = code;
          c = c;
          t = t;
          s = s;
          q = q;
          x = x;
          since = since;
          small = small;
          found = found;
          turn = turn;
          mine = mine;
          answer = answer;
          p = p;
          owner = owner;
          number = number;
        }

    -- where a step wrote only that the find has ended, the find has counted over the whole set
    next_tells : (q : ℕ) → t.world.turns < 2 ^ 64 - 2 → is_due t.world.coding (flight_in t.world q) ≡ false
        → Ended (events_of t.world (Next q)) → IsCount p (IsFilledWith owner) c number t.events
    next_tells q small free =
        by_next t.world q (λ w es. Ended es → IsCount p (IsFilledWith owner) c number t.events) (λ ended. absurd (cc)) (λ x flight since has ended.
        all_counted (handed q small has.found since (Next q) refl (old_of t.world.words (ask_of (want_of t.world.coding flight))))
        has.doing ended false (λ told. absurd (cc)) (rw has.here at free) (λ no. refl))

    -- where a decision other than a no to the find's party wrote only the end of the find, the find has
    -- counted over the whole set
    decision_tells : (q : ℕ) (said : Bool) → t.world.turns < 2 ^ 64 - 2
        → is_due t.world.coding (flight_in t.world q) ≡ true → ◌≢◌ {A = Turn T} (Decide q said) (Decide p false)
        → Ended (events_of t.world (Decide q said)) → IsCount p (IsFilledWith owner) c number t.events
    decision_tells q said small due ne =
        by_decision t.world q (λ w es. Ended es → IsCount p (IsFilledWith owner) c number t.events) (λ ended. absurd (cc)) said
        (λ x flight since has ended.
        let answered = handed q small has.found since (Decide q said) refl (number_of said) in
        by_bool said
        (λ said_is. all_counted answered has.doing ended true
        (λ told zero. let one : number_of said ≡ 1 = ap number_of said_is in absurd (omega arith)) (rw has.here at due) (λ no. absurd (cc)))
        (λ said_is. absurd (ne (ap (λ n. Decide n said) (own_party answered has.doing ended) ∙ ap (λ b. Decide p b) said_is))))

  -- no decision is due in a step
  not_due : (w : World T) (q : ℕ) → call_refusal w (Next q) ≡ None → is_due w.coding (flight_in w q) ≡ false
  not_due w q not_refused = grind arith

  -- where any turn but a no to its party wrote only that the find has ended, the find has
  -- counted over the whole set
  tells : (code : Coding T) (c : ℕ) (t : Trace T) (turn : Turn T) → refusal_of t.world turn ≡ None → frame.Sound (family code c) t → (p owner number : ℕ)
      → events_of t.world turn ≡ Finished p (Robust (starts.Find owner)) (Number number) ∷ []
      → turn ≢ Decide p false → IsCount p (IsFilledWith owner) c number t.events
  tells code c t (Begin q start) not_refused sound p owner number events_are ne = absurd (cc)
  tells code c t (Next q) not_refused sound p owner number events_are ne =
      next_tells code c t sound p owner number q (passes t.world (Next q) not_refused).turns
      (not_due t.world q (passes t.world (Next q) not_refused).on) events_are
  tells code c t (Decide q said) not_refused sound p owner number events_are ne =
      decision_tells code c t sound p owner number q said (passes t.world (Decide q said) not_refused).turns
      (frame.is_true (is_due t.world.coding (flight_in t.world q)) (must_be_due t.world q said (passes t.world (Decide q said) not_refused).on))
      ne events_are
  tells code c t (Die o) not_refused sound p owner number events_are ne = absurd (cc)

  -- each find that ends in a turn other than a no to its party has counted over the whole set
  pub finds_all : (code : Coding T) (c : ℕ) {t : Trace T} (turn : Turn T) → refusal_of t.world turn ≡ None
      → frame.Sound (family code c) t → FindsAll t turn (after_turn t turn)
  finds_all code c {t = t} turn not_refused sound =
      λ p owner number is ne.
      rw sound.capacity (tells code c t turn not_refused sound p owner number (append_cancel_left t.events (events_of t.world turn) _ is) ne)

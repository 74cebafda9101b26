-- Every turn keeps what holds of the machine of a robust index set: the laws that the
-- frame asks of the family.
use Rattle.laws_robust.proofs.Names.{◌≡◌, ◌≢◌, ℕ, ◌-◌, ◌^◌, ◌<◌, ◌≤◌, inl, Bool, true, false, Option, Some, None}
use Rattle.laws_robust.proofs.Names.{List, [], ◌∷◌, ◌++◌, refl, sym, ap, subst, ◌∙◌, arith, ReleaseMode, AcquireStage}
use Rattle.laws_robust.proofs.Names.{FindStage, Count, Lock, Raise, RecoverStage, GiveBack, ReleaseStage}
use Rattle.laws_robust.proofs.Names.{acquire_asks, empty, raise_want, count_want, lock_want, release_asks}
use Rattle.laws_robust.proofs.Names.{Begun, Died, Start, Robust, Flight, RobustStart, RobustFlight}
use Rattle.laws_robust.proofs.Names.{Party, Coding, first_of, want_of, is_question, going_rows}
use Rattle.laws_robust.proofs.Names.{kept_after_death, kept_after_begin, want, has_died, dead_with, acts_for_dead}
use Rattle.laws_robust.proofs.Names.{frees_living, opening_words, set_acts, is_dead, wrote_in}
use Rattle.laws_robust.proofs.Names.{party_of, Open, span_of, first_row}
use Rattle.laws_robust.proofs.Names.{number_of, party_at_begin, IsReached, Trace}
use Rattle.laws_robust.proofs.Names.{opening, Each-nil, Each-append, span_of-own, span_of-death}
use Rattle.laws_robust.proofs.Names.{MayBegin, MayDie, StandsThere, ComesFrom}
use Rattle.steps.specs.declared.indices.robust.recover.RecoverStage.TheVariants as recovers
use Rattle.model.specs.declared.families.Flight.TheVariants as flights
use Rattle.model.specs.declared.families.Registry.TheVariants as registries
use Rattle.model.specs.declared.families.indices.robust.RobustStart.TheVariants as starts
use Rattle.model.specs.declared.families.indices.robust.calls.RobustFlight.TheVariants as calls
use Rattle.model.specs.declared.turn.Kind.TheVariants as kinds
use Rattle.model.specs.Families as families
use Rattle.model.specs.Families.{begin_of}
use Rattle.model.specs.declared.turn.Turn.{Turn}
use Rattle.model.proofs.FamilyLaws as laws
use Rattle.model.proofs.FamilyLaws.{Turns, Opens, AllTurns}
use Rattle.model.proofs.Frame as frame
use Rattle.model.proofs.Scenes.{DecidesFrom}
use Rattle.laws_robust.specs.Gone.{GoneBy, Death, Word, MayBeTold, AsksBy}
use Rattle.laws_robust.proofs.Acquires.{acquire_step}
use Rattle.laws_robust.proofs.Begins.{begins}
use Rattle.laws_robust.proofs.Deaths.{death_good, death_known}
use Rattle.lemmas_owners.proofs.Choices.{both_ways}
use Rattle.laws_robust.proofs.Finds.{find_step, find_decided}
use Rattle.laws_robust.proofs.Firsts.{IsFirst, first_is, begins_own}
use Rattle.laws_robust.proofs.Invariant.{outline, Scene, Inv, Shows, HasRoom, room_of_few, family}
use Rattle.laws_robust.proofs.Invariant.{family_by, wrote_of, at_written, owes, holds_more}
use Rattle.laws_robust.proofs.Knows.{Knows}
use Rattle.laws_robust.proofs.CallProgress.{acquire_at, find_at, recover_at, borrowed_at, At, FindAt, RecoverAt}
use Rattle.laws_robust.proofs.CallProgress as standing
use Rattle.laws_robust.proofs.Looks.{borrowed_step, looks_step}
use Rattle.laws_robust.proofs.Opening.{opening_good, admitted_is}
use Rattle.laws_robust.proofs.RecoverSteps.{recover_step, recover_decided}
use Rattle.laws_robust.proofs.Releases.{release_step}
use Rattle.laws_robust.proofs.Stages.{IsHere, all, now, StepOf, DecisionOf}

-- ---- a step of a call that no row refuses

-- a raise asks no question
pub raise_asks_none : (raise : Raise) → is_question (raise_want raise) ≡ false
raise_asks_none = grind arith

-- a count asks no question
pub count_asks_none : (count : Count) → is_question (count_want count) ≡ false
count_asks_none count = grind arith

-- a lock asks no question
pub lock_asks_none : (lock : Lock) → is_question (lock_want lock) ≡ false
lock_asks_none = grind (arith, count_asks_none)

-- an acquire asks no question
pub acquire_asks_none : (stage : AcquireStage) (owner : ℕ) → is_question (acquire_asks stage owner) ≡ false
acquire_asks_none stage owner = grind arith

-- a release asks no question
pub release_asks_none : (stage : ReleaseStage) (given : GiveBack) → is_question (release_asks stage given) ≡ false
release_asks_none stage given = grind arith

-- where owners die a yes about one who lives is refused
abbrev pub MayDecide : GoneBy → List ℕ → RobustFlight → Bool → Type 0
MayDecide Death dead flight said = frees_living dead flight (Some said) ≡ false
MayDecide Word dead flight said = Unit {0}

module _ {T : Type 0} {scene : Scene T} (inv : Inv scene) where
  open scene use {by as by, capacity as c, events as events}

  -- an owner who has not died by the set's list is alive by the events
  lives : (owner : ℕ) → has_died owner scene.set.dead ≡ false → is_dead owner events ≡ false
  lives owner alive = sym (inv.good.died owner) ∙ alive

  -- the step of this call, for no dead owner, keeps the invariant (`Shows`)
  abbrev Moves : RobustStart → RobustFlight → Type 0
  Moves start flight =
      acts_for_dead scene.set.dead flight ≡ false → scene.steps ≤ standing.number_of c flight scene.backs
      → Knows c flight (now scene) → StepOf scene start flight

  -- each step of any call that stands at its stage, for no dead owner, keeps the invariant (`Shows`)
  pub step_moves : (start : RobustStart) (flight : RobustFlight) → IsHere scene start → At c (all scene) start flight → Moves start flight
  step_moves (starts.Acquire owner) (calls.Acquire run) here at =
      subst (Moves (starts.Acquire owner))
      (sym (ap (λ n. acquire_at n run.given run.call.stage) at.0 ∙ ap (λ o. acquire_at c o run.call.stage) at.1))
      (λ alive s k. acquire_step inv owner at.2 (lives owner alive) here run.call.stage at.3 k s)
  step_moves (starts.Release index owner mode) (calls.Release run) here at =
      subst (Moves (starts.Release index owner mode))
      (sym (ap
      (λ n. calls.Release (record { call = record { capacity = n; stage = run.call.stage }; given = run.given; room = tt }))
      at.0
      ∙ ap
      (λ (o : GiveBack). calls.Release (record { call = record { capacity = c; stage = run.call.stage }; given = o; room = tt })) at.1))
      (λ alive s k. release_step inv at.2 at.3 (lives owner alive) here run.call.stage at.4 k s)
  step_moves (starts.Find owner) (calls.Find run) here at =
      subst (Moves (starts.Find owner)) (sym (ap (λ n. find_at n run.given run.call.stage) at.0 ∙ ap (λ o. find_at c o run.call.stage) at.1))
      (λ alive s k. find_step scene inv owner at.2 here run.call.stage at.3 k s)
  step_moves (starts.Recover mode) (calls.Recover run) here at =
      subst (Moves (starts.Recover mode))
      (sym (ap (λ n. recover_at n run.given run.call.stage) at.0 ∙ ap (λ m. recover_at c m run.call.stage) at.1))
      (λ alive s k. recover_step scene inv mode here run.call.stage at.2 k s)
  step_moves starts.BorrowedIndices (calls.BorrowedIndices run) here at =
      subst (Moves starts.BorrowedIndices) (sym (ap (λ n. borrowed_at n run.call.count) at.0))
      (λ alive s k. borrowed_step inv here run.call.count at.1 at.2 k s)
  step_moves starts.IsLocked (calls.IsLocked run) here at = λ alive s k. looks_step inv here at k s
  step_moves start flight here at = absurd at

  -- a decision for this call, which may be told it, keeps the invariant (`Shows`)
  abbrev Decides : Bool → RobustStart → RobustFlight → Type 0
  Decides said start flight =
      MayDecide by scene.set.dead flight said → is_question (want flight) ≡ true
      → scene.steps ≤ standing.number_of c flight scene.backs → Knows c flight (now scene)
      → DecisionOf scene start flight said

  -- where owners die, a recovery is told yes only about a dead owner
  may_tell : (b : GoneBy) (said : Bool) (mode : ReleaseMode) (index owner : ℕ)
      → MayDecide b scene.set.dead (recover_at c mode (recovers.Asks index owner)) said → number_of said ≢ 0
      → MayBeTold b owner events
  may_tell b said mode index owner may_decide ne = grind arith

  -- a decision about a find keeps the invariant
  find_decides : (said : Bool) (owner : ℕ) → owner < empty → IsHere scene (starts.Find owner)
      → (stage : FindStage) → FindAt c (all scene) stage
      → Decides said (starts.Find owner) (find_at c owner stage)
  find_decides = grind (arith, find_decided, number_of)

  -- each answer to a recovery's question keeps the invariant (`Shows`)
  recover_decides : (said : Bool) (mode : ReleaseMode) → IsHere scene (starts.Recover mode)
      → (stage : RecoverStage) → RecoverAt c mode (all scene) stage
      → Decides said (starts.Recover mode) (recover_at c mode stage)
  recover_decides said mode here recovers.LoadsCounter at frees asks s k = absurd (cc)
  recover_decides said mode here (recovers.LoadsCell index) at frees asks s k = absurd (cc)
  recover_decides said mode here (recovers.Asks index owner) at frees asks s k =
      recover_decided scene inv mode here index owner at k s (number_of said) (may_tell by said mode index owner frees)
  recover_decides said mode here (recovers.EmptiesCell index owner) at frees asks s k = absurd (cc)
  recover_decides said mode here (recovers.Raises index raise) at frees asks s k =
      both_ways (is_question (raise_want raise)) (raise_asks_none raise) asks
  recover_decides said mode here (recovers.Locks index lock) at frees asks s k = both_ways (is_question (lock_want lock)) (lock_asks_none lock) asks
  recover_decides said mode here recovers.LoadsCounterAgain at frees asks s k = absurd (cc)

  -- each answer to a question of any call that stands at its stage keeps the invariant (`Shows`)
  pub decision_moves : (said : Bool) (start : RobustStart) (flight : RobustFlight) → IsHere scene start
      → At c (all scene) start flight → Decides said start flight
  decision_moves said (starts.Acquire owner) (calls.Acquire run) here at =
      λ frees asks s k. both_ways (is_question (acquire_asks run.call.stage run.given)) (acquire_asks_none run.call.stage run.given) asks
  decision_moves said (starts.Release index owner mode) (calls.Release run) here at =
      λ frees asks s k. both_ways (is_question (release_asks run.call.stage run.given))
      (release_asks_none run.call.stage run.given) asks
  decision_moves said (starts.Find owner) (calls.Find run) here at =
      subst (Decides said (starts.Find owner)) (sym (ap (λ n. find_at n run.given run.call.stage) at.0 ∙ ap (λ o. find_at c o run.call.stage) at.1))
      (find_decides said owner at.2 here run.call.stage at.3)
  decision_moves said (starts.Recover mode) (calls.Recover run) here at =
      subst (Decides said (starts.Recover mode))
      (sym (ap (λ n. recover_at n run.given run.call.stage) at.0 ∙ ap (λ m. recover_at c m run.call.stage) at.1))
      (recover_decides said mode here run.call.stage at.2)
  decision_moves said starts.BorrowedIndices (calls.BorrowedIndices run) here at =
      λ frees asks s k. both_ways (is_question (count_want run.call.count)) (count_asks_none run.call.count) asks
  decision_moves said starts.IsLocked (calls.IsLocked run) here at = λ frees asks s k. absurd (cc)
  decision_moves said start flight here at = absurd at

-- ---- the laws that the frame asks of the family

-- `c` is the capacity, `t` the run so far, and `s` says that the invariant holds after it
module _ {T : Type 0} (by : GoneBy) (code : Coding T) (c : ℕ) (t : Trace T) (s : frame.Sound (family_by by code c) t) where
  -- the turn of the party `p`, whose call is `x`
  abbrev pub scene_of : ℕ → Party T → ℕ → Scene T
  scene_of p x since =
      record {
        by = by;
        coding = code;
        capacity = c;
        set = s.state;
        party = p;
        steps = x.steps;
        backs = x.backs;
        since = since;
        changes = t.world.changes;
        turns = t.world.turns;
        latest = t.world.latest;
        events = t.events;
      }

  -- the counter has room in the words of the state, where it has in those of the machine
  room_there : HasRoom by t.world.words → HasRoom by s.state.words
  room_there room = subst (HasRoom by) s.fit.words room

  -- the counter has room where few turns were taken
  pub has_room : t.world.turns < 2 ^ 64 - 2 → HasRoom by t.world.words
  has_room small = subst (HasRoom by) (sym s.fit.words) (room_of_few by c s.state.words s.state.dead t.events t.world.turns s.holds.good small)

  -- `x` is the call of party `p`
  module _ (p : ℕ) (x : Party T) (since : ℕ) (found : party_of p t.world.latest ≡ Some x) where
    -- the invariant holds before the step, where the counter has room
    pub inv_with : HasRoom by t.world.words → Inv (scene_of p x since)
    inv_with = grind (arith, room_there)

    -- the invariant holds before the step, while fewer than 2 ^ 64 - 2 turns were made
    pub inv_of : t.world.turns < 2 ^ 64 - 2 → Inv (scene_of p x since)
    inv_of small = inv_with (has_room small)

    -- the party's call stands at its stage, by the events, and knows what the stage says
    pub record IsThere (start : RobustStart) (flight : RobustFlight) : Type 0 where
      pub here : IsHere (scene_of p x since) start
      pub at : At c (all (scene_of p x since)) start flight
      pub steps : x.steps ≤ standing.number_of c flight x.backs
      pub knows : Knows c flight (now (scene_of p x since))

    -- the call that stands in the machine stands in the set
    pub is_there : (start : RobustStart) (flight : RobustFlight)
        → StandsThere (family_by by code c) t s p x since (Robust start) (flights.Robust flight)
        → IsThere start flight
    is_there start flight stands_there = grind arith

    -- where no row refuses the turn, the call acts for nobody dead, and is told no yes about a living owner
    pub passes : (flight : RobustFlight) (said : Option Bool)
        → first_row (going_rows code (registries.Owners s.state.dead) (Some (flights.Robust flight)) said) ≡ None
        → (acts_for_dead s.state.dead flight ≡ false) × (frees_living s.state.dead flight said ≡ false)
    passes flight said not_refused = grind arith

    -- a decision that no row refuses may be taken
    pub decides_by : (b : GoneBy) (flight : RobustFlight) (said : Bool)
        → first_row (going_rows code (registries.Owners s.state.dead) (Some (flights.Robust flight)) (Some said)) ≡ None
        → MayDecide b s.state.dead flight said
    decides_by Death flight said not_refused = (passes flight (Some said) not_refused).1
    decides_by Word flight said not_refused = tt

    -- ---- a step

    -- a step of a call that stands in the machine, and that no row refuses, leaves a
    -- machine with the invariant
    comes : HasRoom by t.world.words → {start : Start T} {flight : Flight T}
        → first_row (going_rows code (registries.Owners s.state.dead) (Some flight) None) ≡ None
        → StandsThere (family_by by code c) t s p x since start flight
        → ComesFrom (family_by by code c) t s p x since code s.state.words (registries.Owners s.state.dead) start flight
    comes room {start = (Robust start)} {flight = (flights.Robust flight)} not_refused stands_there =
        let there = is_there start flight stands_there in
        let moves = step_moves (inv_with room) start flight there.here there.at
        (passes flight None not_refused).0 there.steps there.knows in
        record {
          state = _;
          fit = record { kept = refl; words = refl };
          holds = holds_more (scene_of p x since) moves s.holds s.inv;
          owes = owes (scene_of p x since) moves s.holds s.inv there.here;
        }
    comes room not_refused stands_there = absurd stands_there.at

    -- ---- a decision

    -- the call may be told this, if it is one of the set
    abbrev pub MayDecideIn : Flight T → Bool → Type 0
    MayDecideIn (flights.Robust flight) said = MayDecide by s.state.dead flight said
    MayDecideIn flight said = Unit {0}

    -- a decision for a call that stands in the machine leaves a machine with the invariant
    pub decides : HasRoom by t.world.words → (said : Bool) {start : Start T} {flight : Flight T}
        → MayDecideIn flight said → is_question (want_of code flight) ≡ true
        → StandsThere (family_by by code c) t s p x since start flight
        → DecidesFrom (family_by by code c) t s p x since code (number_of said) s.state.words (registries.Owners s.state.dead) start flight
    decides room said {start = (Robust start)} {flight = (flights.Robust flight)} may_decide asks stands_there =
        let there = is_there start flight stands_there in
        let moves =
        decision_moves (inv_with room) said start flight there.here there.at
        may_decide asks there.steps there.knows in
        record {
          state = _;
          fit = record { kept = refl; words = refl };
          holds = holds_more (scene_of p x since) moves s.holds s.inv;
          owes = owes (scene_of p x since) moves s.holds s.inv there.here;
        }
    decides room said may_decide asks stands_there = absurd stands_there.at

    -- a decision that no row refuses may be told
    pub passes_in : (flight : Flight T) (said : Bool)
        → first_row (going_rows code (registries.Owners s.state.dead) (Some flight) (Some said)) ≡ None → MayDecideIn flight said
    passes_in = grind (arith, decides_by)

  -- ---- a call begins

  module _ (p : ℕ) where
    -- a begin whose call is at its first stage leaves a machine with the invariant
    begins_now : {start : RobustStart} {flight : RobustFlight}
        → IsFirst T by c s.state.words t.events p t.world.changes start flight
        → span_of p (t.events ++ Begun p (Robust start) ∷ []) ≡ Open (Robust start) []
        → MayBegin t.world p (Robust start)
        → frame.Comes (family_by by code c) t p (registries.Owners s.state.dead) s.state.words
        (party_at_begin (Robust start) (flights.Robust flight) t.world.changes)
        (Begun p (Robust start) ∷ []) t.world.changes
    begins_now {start = start} {flight = flight} known span may =
        let party_after : Party T = party_at_begin (Robust start) (flights.Robust flight) t.world.changes in
        let scene = scene_of p party_after t.world.changes in
        let does = begins scene s.holds.good (Robust start) in
        let shows : Shows scene s.state.words (span_of p t.events) party_after (Begun p (Robust start) ∷ []) t.world.changes =
        record {
          does = does;
          asks = (tt, tt);
          stands = (frame.shut (family_by by code c) s.state p (party_of p t.world.latest) (span_of p t.events) may.free (s.inv.calls p), tt);
          here =
              record {
                span = ap (λ es. Open (Robust start) es) (sym (ap wrote_in span));
                steps = omega arith;
                at =
                    at_written c [] (wrote_of p (t.events ++ Begun p (Robust start) ∷ [])) (Robust start)
                    (flights.Robust flight) (ap wrote_in span) known.at;
              };
          knows = known.knows;
          seen = inl (refl, refl);
        }
        in
        record {
          state = _;
          fit = record { kept = refl; words = refl };
          holds = holds_more scene shows s.holds s.inv;
          owes = owes scene shows s.holds s.inv refl;
        }

    -- the span of a party whose call begins is open with nothing written
    span_begun : (start : RobustStart) → span_of p (t.events ++ Begun p (Robust start) ∷ []) ≡ Open (Robust start) []
    span_begun start = span_of-own p t.events (Begun p (Robust start) ∷ []) (refl, tt)

    -- any begin that no row refuses leaves a machine with the invariant
    begin_comes : (start : Start T) (flight : Flight T) → MayBegin t.world p start
        → first_of kinds.Robust c start (registries.Owners s.state.dead) ≡ Some flight
        → first_row ((begin_of kinds.Robust c start).rows (registries.Owners s.state.dead) p) ≡ None
        → frame.Comes (family_by by code c) t p (kept_after_begin code c start p (registries.Owners s.state.dead)) s.state.words
        (party_at_begin start flight t.world.changes) (Begun p start ∷ []) t.world.changes
    begin_comes (Robust start) (flights.Robust flight) may named passed =
        let own = begins_own T c (registries.Owners s.state.dead) (Robust start) (flights.Robust flight) named in
        let set_good = s.holds.good in
        begins_now
        (rw (← own.0) (first_is by c s.state.words p t.world.changes set_good.some set_good.owned start own.1 s.state.dead passed
        (ap (λ a. set_acts (wrote_in a)) (span_begun start))))
        (span_begun start) may
    begin_comes start flight may named passed = absurd (begins_own T c (registries.Owners s.state.dead) start flight named)

  -- ---- an owner dies

  -- the death of an owner who may die leaves a machine with the invariant
  death_comes : {o : ℕ} → MayDie t.world o → frame.ComesByDeath (family_by by code c) t s o
  death_comes {o = o} may =
      let set_good = s.holds.good in
      let alive : is_dead o t.events ≡ false = sym (set_good.died o) ∙ subst (λ kept. families.is_dead kept o ≡ false) s.fit.kept may.lives in
      record {
        state = record { words = s.state.words; dead = dead_with o s.state.dead; events = t.events ++ Died o ∷ [] };
        fit = record { kept = ap (λ kept. kept_after_death kept o) s.fit.kept; words = s.fit.words };
        holds =
            record {
              same = refl;
              begun = λ p x found. omega arith;
              good = death_good o set_good alive;
              asks = Each-append (AsksBy by) t.events (Died o ∷ []) s.holds.asks (tt, tt);
            };
        calls = λ q start flight at.
            let wrote : wrote_of q (t.events ++ Died o ∷ []) ≡ wrote_of q s.state.events =
            ap wrote_in (span_of-death q t.events o) ∙ sym (ap (wrote_of q) s.holds.same) in
            (at_written c (wrote_of q s.state.events) (wrote_of q (t.events ++ Died o ∷ [])) start flight wrote at, wrote);
        calls_know =
            λ q since backs flight h. death_known o set_good alive q since t.world.changes backs flight h;
      }

module _ {T : Type 0} (by : GoneBy) where
  -- the turn may be taken: the counter of the machine has room
  abbrev pub May : Trace T → Turn T → Type 0
  May t turn = HasRoom by t.world.words

  -- each begin, step, decision and death keeps what holds of the set
  turns : (code : Coding T) (c : ℕ) → Turns (outline by) code c May
  turns code c =
      record {
        begin = begin_comes by code c;
        step = λ t s p x since room found start flight rows here. comes by code c t s p x since found room rows here;
        decision = λ t s p x since said room found start flight rows asks here. decides by code c t s p x since found room said
            (passes_in by code c t s p x since found flight said rows) asks here;
        death = λ t o s may. death_comes by code c t s may;
      }

  -- the laws of the family: each turn keeps the invariant
  pub laws_by : (code : Coding T) (c : ℕ) → frame.LawsWhere (family_by by code c) May
  laws_by code c = laws.laws (outline by) code c May (turns code c)

  -- the opening of a set of an admitted capacity is sound
  opens : (code : Coding T) (c : ℕ) → 1 ≤ c → c < 2 ^ 32 → Opens (outline by) code c
  opens code c some few =
      record {
        state = record { words = opening_words c; dead = []; events = [] };
        kept = refl;
        words = refl;
        holds = record { same = refl; begun = λ p x found. absurd (cc); good = opening_good some few; asks = Each-nil _ };
      }

  -- the invariant holds of the opening, at each capacity from 1 to below 2 ^ 32
  pub opening_sound : (code : Coding T) (c parties : ℕ) → 1 ≤ c → c < 2 ^ 32
      → frame.Sound (family_by by code c) (opening code kinds.Robust c parties)
  opening_sound code c parties some few = laws.opening_sound (outline by) code c (opens code c some few) parties

  -- the set opens with the invariant and each turn keeps it, at every capacity that is admitted, if the
  -- counter has room
  pub all_turns : AllTurns (outline by) May
  all_turns =
      record {
        opens = λ code c coded admitted. let may = admitted_is c admitted in opens code c may.0 may.1;
        turns = λ code c coded admitted. turns code c;
        few = λ code c t turn s small. has_room by code c t s small;
      }

-- the invariant of the set holds after each run that a machine may come to
pub reached_sound : {T : Type 0} (t : Trace T) → t.world.kind ≡ kinds.Robust → IsReached t → frame.Sound (family t.world.coding t.world.capacity) t
reached_sound = laws.reached_sound (outline Death) (May Death) (all_turns Death)

-- Every turn keeps the invariant of a container. From what is shown of each call, of a begin, of a death and
-- of the opening (`Shown`) follow the laws of the family, and that each machine that a run reaches is sound.
use Rattle.laws_container.proofs.Names.{◌≡◌, ℕ, ◌+◌, ◌-◌, ◌^◌, ◌<◌, ◌≤◌, inl, if◌then◌else◌, Bool, true, false}
use Rattle.laws_container.proofs.Names.{Option, Some, None, option_map, List, [], ◌∷◌, ◌++◌, refl, sym, ap, subst}
use Rattle.laws_container.proofs.Names.{◌∙◌, arith, ContainerState, Event, Begun, Died, Start, Container, Flight}
use Rattle.laws_container.proofs.Names.{Registry, ContainerStart, ContainerFlight, Going, Party, Coding}
use Rattle.laws_container.proofs.Names.{IsCoding, first_of, want_of, is_question, going_rows}
use Rattle.laws_container.proofs.Names.{kept_after_death, kept_after_begin, first, acts_for_dead, opening_words}
use Rattle.laws_container.proofs.Names.{names_owner, states_at_begin, has_died, dead_with, is_dead, wrote_in}
use Rattle.laws_container.proofs.Names.{party_of, put, doing_of, flight_of, Open, span_of, first_row, IsShut}
use Rattle.laws_container.proofs.Names.{number_of, party_at_begin}
use Rattle.laws_container.proofs.Names.{IsReached, Trace, opening}
use Rattle.laws_container.proofs.Names.{span_of-own, span_of-death, row_passed, MayBegin, MayDie, StandsThere}
use Rattle.laws_container.proofs.Names.{ComesFrom, GoneBy, Death, admitted_is}
use Rattle.model.specs.declared.families.Flight.TheVariants as flights
use Rattle.model.specs.declared.families.Registry.TheVariants as registries
use Rattle.model.specs.declared.families.container.ContainerStart.TheVariants as starts
use Rattle.model.specs.declared.turn.Kind.TheVariants as kinds
use Rattle.model.specs.Families as families
use Rattle.model.specs.declared.turn.Turn.{Turn}
use Rattle.model.proofs.FamilyLaws as laws
use Rattle.model.proofs.FamilyLaws.{Turns, AllTurns}
use Rattle.model.proofs.Frame as frame
use Rattle.model.proofs.Scenes.{DecidesFrom}
use Rattle.laws_robust.proofs.Invariant as set
use Rattle.laws_container.proofs.Invariant.{outline, ContainerNow, Scene, Inv, Elements, KeepsInvariant, Shows, Knowing}
use Rattle.laws_container.proofs.Invariant.{moment, before, view, family, family_by, wrote_of, at_written, owes}
use Rattle.laws_container.proofs.Invariant.{holds_more, then_is}
use Rattle.laws_container.specs.Gone.{acts_for_gone}
use Rattle.laws_container.proofs.Knows.{Knows}
use Rattle.laws_container.proofs.Moves.{CallSteps, step_moves, decision_moves}
use Rattle.laws_container.proofs.Stages.{IsUnderWay, all, done, sees_now}
use Rattle.laws_container.proofs.CallProgress.{At}
use Rattle.laws_container.proofs.CallProgress as standing
use Rattle.laws_container.proofs.Terms.{Terms, dying, Keeps}

-- ---- what is shown of a begin, of a death and of the opening

module _ {T : Type 0} where
  -- where owners die, only a dead owner may be recovered
  abbrev pub MayRecover : GoneBy → List (Event T) → ContainerStart T → Type 0
  MayRecover Death events (starts.Recover owner mode) = is_dead owner events ≡ true
  MayRecover by events start = Unit {0}

  -- the party's call as it begins
  abbrev pub first_party : ℕ → ℕ → ContainerStart T → Party T
  first_party c changes start = party_at_begin (Container start) (flights.Container (first c start)) changes

  -- what has to be shown of a call that begins: it keeps the invariant, and its first stage is where the call
  -- stands and knows what it tells
  pub record Begins (scene : Scene T) (start : ContainerStart T) : Type 0 where
    pub does : KeepsInvariant scene scene.words (states_at_begin scene.coding scene.capacity start scene.party scene.states)
        (first_party scene.capacity scene.changes start) (Begun scene.party (Container start) ∷ [])
    pub at : At scene.capacity scene.coding.size [] [] start (first scene.capacity start)
    pub knows : Knows scene.coding scene.capacity (first scene.capacity start)
        (view scene.terms scene.words (states_at_begin scene.coding scene.capacity start scene.party scene.states)
        (put scene.party (first_party scene.capacity scene.changes start) scene.latest)
        (scene.events ++ Begun scene.party (Container start) ∷ []) scene.party scene.changes scene.changes 0)

  -- what has to be shown of the death of an owner: the invariant holds after it, and each
  -- call knows what it knew
  pub record Dies (terms : Terms) (code : Coding T) (c : ℕ) (words dead : List ℕ)
      (states : List (ℕ × ContainerState T)) (latest : List (ℕ × Party T)) (events : List (Event T))
      (turns o : ℕ) : Type 0 where
    pub good : set.Good terms.by c words (dead_with o dead) (events ++ Died o ∷ []) (turns + 1)
    pub elements : Elements code c (moment terms words latest (events ++ Died o ∷ [])) states (turns + 1)
    pub knows : (q since changes backs : ℕ) (flight : ContainerFlight T)
        → Knows code c flight (view terms words states latest events q since changes backs)
        → Knows code c flight (view terms words states latest (events ++ Died o ∷ []) q since changes backs)

  -- what has to be shown of the opening: the invariant holds of it
  pub record Opens (terms : Terms) (code : Coding T) (c : ℕ) : Type 0 where
    pub good : set.Good {T = T} terms.by c (opening_words code.size c) [] [] 0
    pub elements : Elements code c (moment terms (opening_words code.size c) [] []) [] 0

-- all that is to be shown of the container's turns: the steps of each call, a begin, a death and the opening
pub record Shown (T : Type 0) : Type 0 where
  pub calls : (scene : Scene T) → Inv scene → CallSteps scene
  pub begins : (scene : Scene T)
      → set.Good scene.terms.by scene.capacity scene.words scene.dead scene.events scene.turns
      → Elements scene.coding scene.capacity (before scene) scene.states scene.turns
      → flight_of (doing_of (party_of scene.party scene.latest)) ≡ None → IsShut (span_of scene.party scene.events)
      → (start : ContainerStart T) → names_owner start ≡ true → MayRecover scene.terms.by scene.events start
      → Begins scene start
  pub dies : (terms : Terms) (code : Coding T) (c : ℕ) (words dead : List ℕ) (states : List (ℕ × ContainerState T))
      (latest : List (ℕ × Party T)) (events : List (Event T)) (turns o : ℕ)
      → set.Good terms.by c words dead events turns → Elements code c (moment terms words latest events) states turns
      → is_dead o events ≡ false
      → Dies terms code c words dead states latest events turns o
  pub opens : (terms : Terms) (code : Coding T) (c : ℕ) → IsCoding code → 1 ≤ c → c < 2 ^ 32 → Opens terms code c

module _ {T : Type 0} where
  -- the call that begins is the container's own for this name, and its owner is a number that a cell can hold
  abbrev pub IsOwn : ℕ → Start T → Flight T → Type 0
  IsOwn c (Container start) (flights.Container flight) = (first c start ≡ flight) × (names_owner start ≡ true)
  IsOwn c start flight = ⊥

  named_own : (c : ℕ) (start : ContainerStart T) (flight : Flight T) (b : Bool) → names_owner start ≡ b
      → option_map flights.Container (if b then Some (first c start) else None) ≡ Some flight
      → IsOwn c (Container start) flight
  named_own c start flight b owner_test begins_so = grind arith

  -- what begins on a container is one of its calls at its first stage, of an owner that a cell can hold
  pub begins_own : (c : ℕ) (kept : Registry T) (start : Start T) (flight : Flight T)
      → first_of kinds.Container c start kept ≡ Some flight → IsOwn c start flight
  begins_own = grind (arith, named_own)

-- ---- the laws of the family

module _ {T : Type 0} where
  -- an owner whom the rows of the machine refuse as dead is dead by the events
  lives_by_rows : (dead : List ℕ) (events : List (Event T))
      → ((owner : ℕ) → has_died owner dead ≡ is_dead owner events) → (flight : ContainerFlight T)
      → acts_for_dead dead flight ≡ false → acts_for_gone Death events flight ≡ false
  lives_by_rows dead events died flight alive = grind arith

-- a machine whose counter has room, and which has taken few turns where its run keeps to that
pub record MayGoOn {T : Type 0} (terms : Terms) (t : Trace T) : Type 0 where
  pub room : set.HasRoom terms.by t.world.words
  pub few : Keeps terms → t.world.turns < 2 ^ 64 - 2

module _ {T : Type 0} where
  -- where few turns are taken the counter has room
  few_room : (by : GoneBy) (c : ℕ) (words dead : List ℕ) (events : List (Event T)) (turns : ℕ)
      → set.Good by c words dead events turns → turns < 2 ^ 64 - 2 → set.HasRoom by words
  few_room by c words dead events turns good small = grind arith

  -- a sound machine of few turns may go on
  pub may_go_on : (terms : Terms) (code : Coding T) (c : ℕ) (t : Trace T) → frame.Sound (family_by terms code c) t
      → t.world.turns < 2 ^ 64 - 2 → MayGoOn terms t
  may_go_on terms code c t sound small = let by_few_room = few_room in grind arith

-- a run of a container that is sound and may go on, where all that is to be shown of its turns is shown
pub record SoundRun (T : Type 0) : Type 0 where
  pub shown : Shown T
  pub terms : Terms
  pub code : Coding T
  pub trace : Trace T
  pub sound : frame.Sound (family_by terms code trace.world.capacity) trace
  pub may : MayGoOn terms trace

-- `c` is the capacity, and `t` the run up to this turn, which is sound
module _ {T : Type 0} (shown : Shown T) (terms : Terms) (code : Coding T) (c : ℕ) (t : Trace T) (sound : frame.Sound (family_by terms code c) t) where
  abbrev pub kept_now : Registry T
  kept_now = registries.Container sound.state.dead sound.state.states

  -- the scene of a turn of party `p`, whose call is `x` and began after `since` changes
  abbrev pub scene_of : ℕ → Party T → ℕ → Scene T
  scene_of p x since =
      record {
        terms = terms;
        coding = code;
        capacity = c;
        words = sound.state.words;
        dead = sound.state.dead;
        states = sound.state.states;
        party = p;
        steps = x.steps;
        backs = x.backs;
        since = since;
        changes = t.world.changes;
        turns = t.world.turns;
        latest = t.world.latest;
        events = t.events;
      }

  pub state_is : sound.state ≡ record {
    words = sound.state.words;
    dead = sound.state.dead;
    states = sound.state.states;
    latest = t.world.latest;
    events = t.events;
  }
  state_is = grind arith

  -- `x` is the latest call of party `p`
  module _ (p : ℕ) (x : Party T) (since : ℕ) (found : party_of p t.world.latest ≡ Some x) where
    pub inv_with : MayGoOn terms t → Inv (scene_of p x since)
    inv_with may = grind arith

    pub inv_of : t.world.turns < 2 ^ 64 - 2 → Inv (scene_of p x since)
    inv_of small = inv_with (may_go_on terms code c t sound small)

    -- the call stands at its stage, has taken no more steps than that allows, and knows what the stage tells
    pub record IsThere (start : ContainerStart T) (flight : ContainerFlight T) : Type 0 where
      pub here : IsUnderWay (scene_of p x since) start flight
      pub at : At c code.size (all (scene_of p x since)) (done (scene_of p x since)) start flight
      pub steps : x.steps ≤ standing.number_of c code.size flight x.backs
      pub knows : Knows code c flight (sees_now (scene_of p x since))

    -- a call that stands in the frame's sense stands in the container's
    pub is_there : (start : ContainerStart T) (flight : ContainerFlight T)
        → StandsThere (family_by terms code c) t sound p x since (Container start) (flights.Container flight)
        → IsThere start flight
    is_there start flight stands_there = grind arith

    -- a call whose turn the rows do not refuse acts for no dead owner
    pub passes : (flight : ContainerFlight T) (said : Option Bool)
        → first_row (going_rows code kept_now (Some (flights.Container flight)) said) ≡ None
        → acts_for_dead sound.state.dead flight ≡ false
    passes = grind (arith, first_row, row_passed)

    -- ---- a step

    -- where the run keeps to its terms, the call acts for nobody who is gone
    abbrev pub IsRightly : Flight T → Type 0
    IsRightly (flights.Container flight) = Keeps terms → acts_for_gone terms.by t.events flight ≡ false
    IsRightly flight = Unit {0}

    -- a step of a call at its stage, which the rows do not refuse and which acts for nobody who is gone,
    -- leads to a sound machine
    pub comes : MayGoOn terms t → {start : Start T} {flight : Flight T} → IsRightly flight
        → first_row (going_rows code kept_now (Some flight) None) ≡ None
        → StandsThere (family_by terms code c) t sound p x since start flight
        → ComesFrom (family_by terms code c) t sound p x since code sound.state.words kept_now start flight
    comes may {start = (Container start)} {flight = (flights.Container flight)} rightly rows_pass stands_there =
        let there = is_there start flight stands_there in
        let inv = inv_with may in
        let moves =
        step_moves inv (shown.calls (scene_of p x since) inv) start flight there.at there.here
        (passes flight None rows_pass) rightly there.steps there.knows in
        record {
          state = _;
          fit = record { kept = refl; words = refl };
          holds = holds_more (scene_of p x since) moves sound.state state_is sound.holds sound.inv;
          owes = owes (scene_of p x since) moves sound.state state_is sound.holds sound.inv there.here.span;
        }
    comes may rightly rows_pass stands_there = absurd stands_there.at

    -- ---- a decision

    -- a decision that a call at its stage waits for leads to a sound machine
    pub decides : MayGoOn terms t → (said : Bool) {start : Start T} {flight : Flight T}
        → is_question (want_of code flight) ≡ true → StandsThere (family_by terms code c) t sound p x since start flight
        → DecidesFrom (family_by terms code c) t sound p x since code (number_of said) sound.state.words kept_now start flight
    decides may said {start = (Container start)} {flight = (flights.Container flight)} asks stands_there =
        let there = is_there start flight stands_there in
        let inv = inv_with may in
        let moves =
        decision_moves inv (shown.calls (scene_of p x since) inv) said start flight there.at
        there.here asks there.steps there.knows in
        record {
          state = _;
          fit = record { kept = refl; words = refl };
          holds = holds_more (scene_of p x since) moves sound.state state_is sound.holds sound.inv;
          owes = owes (scene_of p x since) moves sound.state state_is sound.holds sound.inv there.here.span;
        }
    decides may said asks stands_there = absurd stands_there.at

  -- ---- a call begins

  -- party `p` begins a call
  module _ (p : ℕ) where
    span_begun : (start : ContainerStart T) → span_of p (t.events ++ Begun p (Container start) ∷ []) ≡ Open (Container start) []
    span_begun start = span_of-own p t.events (Begun p (Container start) ∷ []) (refl, tt)

    -- a call that begins on the container leads to a sound machine, and its begin is the one event
    begins_now : (start : ContainerStart T) → names_owner start ≡ true → MayRecover terms.by t.events start
        → flight_of (doing_of (party_of p t.world.latest)) ≡ None
        → frame.Comes (family_by terms code c) t p (kept_after_begin code c (Container start) p kept_now) sound.state.words
        (first_party c t.world.changes start) (Begun p (Container start) ∷ []) t.world.changes
    begins_now start named may free =
        let party_after : Party T = first_party c t.world.changes start in
        let scene : Scene T = scene_of p party_after t.world.changes in
        let shut : IsShut (span_of p t.events) =
        frame.shut (family_by terms code c) sound.state p (party_of p t.world.latest) (span_of p t.events) free (sound.inv.calls p) in
        let b = shown.begins scene sound.holds.good sound.holds.elements free shut start named may in
        let states' : List (ℕ × ContainerState T) = states_at_begin code c start p sound.state.states in
        -- what the begin shows: it keeps the invariant, and the call stands at its first stage and
        -- knows what that tells
        let shows : Shows scene sound.state.words states' (span_of p t.events) party_after (Begun p (Container start) ∷ []) t.world.changes =
        record {
          does = b.does;
          stands = (shut, tt);
          here =
              record {
                span = ap (λ es. Open (Container start) es) (sym (ap wrote_in (span_begun start)));
                steps = omega arith;
                at =
                    at_written scene c code.size [] (wrote_of p (t.events ++ Begun p (Container start) ∷ []))
                    (Container start) (flights.Container (first c start)) (ap wrote_in (span_begun start))
                    b.at;
              };
          knows = b.knows;
          seen = inl (refl, refl);
        }
        in
        -- the machine after the begin is sound
        record {
          state = then_is scene sound.state.words states' party_after (Begun p (Container start) ∷ []);
          fit = record { kept = refl; words = refl };
          holds = holds_more scene shows sound.state state_is sound.holds sound.inv;
          owes = owes scene shows sound.state state_is sound.holds sound.inv refl;
        }

    abbrev pub MayRecoverIn : Start T → Type 0
    MayRecoverIn (Container start) = MayRecover terms.by t.events start
    MayRecoverIn start = Unit {0}

    -- a call of which the machine's rows do not refuse the begin may recover its owner, if it is a recovery
    pub recovers_by : {start : Start T} → MayBegin t.world p start → MayRecoverIn start
    recovers_by may = grind arith

    -- any call that the container may begin leads to a sound machine
    pub begin_comes : (start : Start T) (flight : Flight T) → MayRecoverIn start
        → flight_of (doing_of (party_of p t.world.latest)) ≡ None
        → first_of kinds.Container c start kept_now ≡ Some flight
        → frame.Comes (family_by terms code c) t p (kept_after_begin code c start p kept_now) sound.state.words
        (party_at_begin start flight t.world.changes) (Begun p start ∷ []) t.world.changes
    begin_comes = grind (arith, first_of, begins_own, begins_now)

  -- ---- an owner dies

  -- the machine after the death
  abbrev died_now : ℕ → ContainerNow T
  died_now o =
      record {
        words = sound.state.words;
        dead = dead_with o sound.state.dead;
        states = sound.state.states;
        latest = t.world.latest;
        events = t.events ++ Died o ∷ [];
      }

  -- the death of an owner who may die leads to a sound machine
  death_comes : {o : ℕ} → MayDie t.world o → frame.ComesByDeath (family_by terms code c) t sound o
  death_comes {o} may =
      let set_good = sound.holds.good in
      let alive : is_dead o t.events ≡ false = sym (set_good.died o) ∙ subst (λ kept. families.is_dead kept o ≡ false) sound.fit.kept may.lives in
      let d =
      shown.dies terms code c sound.state.words sound.state.dead sound.state.states t.world.latest t.events
      t.world.turns o set_good sound.holds.elements alive in
      record {
        state = died_now o;
        fit = record { kept = ap (λ kept. kept_after_death kept o) sound.fit.kept; words = sound.fit.words };
        holds = record { same = refl; same_latest = refl; begun = λ p x found. omega arith; good = d.good; elements = d.elements };
        calls = λ q start flight at.
            let wrote : wrote_of q (t.events ++ Died o ∷ []) ≡ wrote_of q sound.state.events =
            ap wrote_in (span_of-death q t.events o) ∙ sym (ap (wrote_of q) sound.holds.same) in (
              at_written (scene_of q (record { start = start; steps = 0; backs = 0; doing = Going flight 0 }) 0) c
                  code.size (wrote_of q sound.state.events) (wrote_of q (t.events ++ Died o ∷ [])) start flight wrote at,
              wrote,
            );
        calls_know = λ q since backs flight h. knows_then o d q since backs flight
            (subst (λ (n : ContainerNow T). Knowing code c flight (view terms n.words n.states n.latest t.events q since t.world.changes backs)) state_is h);
      }
    where
      -- what each party knows of its call it knows after the death
      knows_then : (o : ℕ) → Dies terms code c sound.state.words sound.state.dead sound.state.states t.world.latest t.events t.world.turns o
          → (q since backs : ℕ) (flight : Flight T)
          → Knowing code c flight (view terms sound.state.words sound.state.states t.world.latest t.events q since t.world.changes backs)
          → Knowing code c flight (view terms sound.state.words sound.state.states t.world.latest (t.events ++ Died o ∷ []) q since t.world.changes backs)
      knows_then o death q since backs (flights.Container flight) knowing = death.knows q since t.world.changes backs flight knowing
      knows_then o death q since backs flight knowing = absurd knowing

module _ {T : Type 0} (shown : Shown T) where
  -- where owners die, a call that the rows do not refuse acts for nobody who is gone
  dying_rightly : (code : Coding T) (c : ℕ) (t : Trace T) (s : frame.Sound (family code c) t) (p : ℕ) (x : Party T)
      (since : ℕ) (found : party_of p t.world.latest ≡ Some x) (flight : Flight T)
      → first_row (going_rows code (kept_now shown dying code c t s) (Some flight) None) ≡ None → IsRightly shown dying code c t s p x since found flight
  dying_rightly = grind (arith, lives_by_rows, passes)

  -- a turn may be taken where the counter has room and turns are few
  abbrev pub May : Trace T → Turn T → Type 0
  May t turn = MayGoOn dying t

  -- where owners die, each turn of a container may be taken, in the form that the frame asks of a family
  turns : (code : Coding T) (c : ℕ) → Turns (outline dying) code c May
  turns code c =
      record {
        begin = λ t s p start flight may named rows.
            begin_comes shown dying code c t s p start flight (recovers_by shown dying code c t s p may) may.free named;
        step = λ t s p x since may found start flight rows here.
            comes shown dying code c t s p x since found may (dying_rightly code c t s p x since found flight rows) rows here;
        decision = λ t s p x since said may found start flight rows asks here. decides shown dying code c t s p x since found may said asks here;
        death = λ t o s may. death_comes shown dying code c t s may;
      }

  -- the opening of a container of an admitted capacity is sound
  opens : (terms : Terms) (code : Coding T) (c : ℕ) → IsCoding code → 1 ≤ c → c < 2 ^ 32 → laws.Opens (outline terms) code c
  opens terms code c coded some few =
      let o = shown.opens terms code c coded some few in
      record {
        state = record { words = opening_words code.size c; dead = []; states = []; latest = []; events = [] };
        kept = refl;
        words = refl;
        holds = record { same = refl; same_latest = refl; begun = λ p x found. absurd (cc); good = o.good; elements = o.elements };
      }

  -- the machine of a container as it opens is sound, for any number of parties
  pub opening_sound : (terms : Terms) (code : Coding T) (c parties : ℕ) → IsCoding code → 1 ≤ c → c < 2 ^ 32
      → frame.Sound (family_by terms code c) (opening code kinds.Container c parties)
  opening_sound terms code c parties coded some few = laws.opening_sound (outline terms) code c (opens terms code c coded some few) parties

  -- all turns of a container where owners die are sound, if the counter has room
  pub all_turns : AllTurns (outline dying) May
  all_turns =
      record {
        opens = λ code c coded admitted. let may = admitted_is c admitted in opens dying code c coded may.0 may.1;
        turns = λ code c coded admitted. turns code c;
        few = λ code c t turn s small. may_go_on dying code c t s small;
      }

  -- each machine of a container that a run reaches is sound
  pub reached_sound : (t : Trace T) → t.world.kind ≡ kinds.Container → IsReached t → frame.Sound (family t.world.coding t.world.capacity) t
  reached_sound = laws.reached_sound (outline dying) May all_turns

-- The machine of either kind of bit set keeps what its kind promises, from what the kind owes (`SetLaws`):
-- the opening, begins, steps, and what a call knows after a turn of another party.
use Rattle.laws_bits.proofs.Names.{◌≡◌, ◌≢◌, ℕ, ◌+◌, ◌-◌, ◌^◌, ◌≤◌, false, Option, Some, None, List, [], ◌∷◌}
use Rattle.laws_bits.proofs.Names.{◌++◌, refl, sym, ap, subst, ◌∙◌, AllByRecursion, Event, Begun, Start}
use Rattle.laws_bits.proofs.Names.{Bits, Flight, Registry, BitsStart, BitsFlight, Party, Next, Coding, opening_of}
use Rattle.laws_bits.proofs.Names.{first_of, want_of, is_question, step_of, goes_of, first, want, is_past}
use Rattle.laws_bits.proofs.Names.{effects_of, BeginsNone, IsEffectOf, Open, span_of, IsReachedOn}
use Rattle.laws_bits.proofs.Names.{Trace, others_begin_none, Orders, Keeps, span_of-own, span_of-other}
use Rattle.laws_bits.proofs.Names.{AreOwn}
use Rattle.std.proofs.Common.{arith}
use Rattle.model.specs.declared.families.Flight.TheVariants as flights
use Rattle.model.specs.declared.families.Registry.TheVariants as registries
use Rattle.model.specs.declared.turn.Refusal.TheVariants.{BadIndex}
use Rattle.model.specs.declared.turn.Turn.{Turn}
use Rattle.model.specs.Families.{begin_of}
use Rattle.model.specs.Promises.Families.{promise_of}
use Rattle.model.specs.Rows.{first_row}
use Rattle.model.specs.Turns.{after_turn}
use Rattle.model.proofs.Family as families
use Rattle.model.proofs.Family.{Scene, scene_of}
use Rattle.model.proofs.FamilyLaws as laws
use Rattle.model.proofs.FamilyLaws.{Turns, AllTurns, Owed}
use Rattle.model.proofs.Frame.{Sound}
use Rattle.model.proofs.Rows.{row_passed}
use Rattle.model.proofs.Scenes.{StandsThere, step_from}
use Rattle.laws_bits.proofs.Family.{SetState, SetScene, SetOutline, FlightAt, KnowsFlight, number_by, wrote_by, outline, family, StepOf}
use Rattle.laws_bits.proofs.Spans.{wrote_in}

-- the name is one of a bit set's calls
abbrev pub IsOwn : {T : Type 0} → Start T → Type 0
IsOwn (Bits start) = Unit {0}
IsOwn start = ⊥

module _ {T : Type 0} (K : SetOutline T) where
  -- a call that begins stands at its first stage, knows what that tells, and has written nothing
  pub record IsFirst (c p : ℕ) (events : List (Event T)) (words : List ℕ) (changes : ℕ) (start : BitsStart) (flight : BitsFlight) : Type 0 where
    pub at : K.At c [] start flight
    pub knows : K.Knows p (events ++ Begun p (Bits start) ∷ []) words changes changes 0 flight
    pub wrote : K.wrote p flight (Open (Bits start) []) ≡ []

  -- what a kind owes
  pub record SetLaws (code : Coding T) (c : ℕ) : Type 1 where
    -- of its opening, and of what it promises
    pub bare : (opening_of K.kind).kept {T = T} c ≡ registries.Nothing
    pub opens : K.Holds c ((opening_of K.kind).words code.size c) [] 0
    pub promise : promise_of {T = T} K.kind ≡ K.promise
    pub tells : (old : Trace T) (turn : Turn T) (new : Trace T) → K.promise.tells old turn new
    pub keeps_promise : (t : Trace T) → t.world.capacity ≡ c → t.world.turns ≤ 2 ^ 64 - 2 → K.Holds c t.world.words t.events t.world.turns → K.promise.holds t
    -- of a turn: the invariant holds after it, and what a call of another party knows it knows still
    pub holds : (words : List ℕ) (events : List (Event T)) (turns changes : ℕ) (words' : List ℕ) (es : List (Event T)) (changes' : ℕ)
        → K.Preserves c words events turns changes words' es changes' → K.Holds c words events turns
        → K.Holds c words' (events ++ es) (turns + 1)
    pub still : (q : ℕ) (words : List ℕ) (events : List (Event T)) (turns changes : ℕ) (words' : List ℕ)
        (es : List (Event T)) (changes' : ℕ)
        → K.Preserves c words events turns changes words' es changes' → BeginsNone q es
        → (since backs : ℕ) (flight : BitsFlight)
        → K.Knows q events words since changes backs flight → K.Knows q (events ++ es) words' since changes' backs flight
    -- of a call that begins: it is one of a set's calls, its begin preserves what holds, and it
    -- stands at its first stage
    pub begins_own : (kept : Registry T) (start : Start T) (flight : Flight T) → first_of K.kind c start kept ≡ Some flight → IsOwn start
    pub begins : (p : ℕ) (start : BitsStart) (words : List ℕ) (events : List (Event T)) (turns changes : ℕ)
        → K.Holds c words events turns
        → K.Preserves c words events turns changes words (Begun p (Bits start) ∷ []) changes
    pub first : (p : ℕ) (events : List (Event T)) (words : List ℕ) (changes : ℕ) (start : BitsStart) (flight : BitsFlight)
        → first K.kind c start ≡ Some flight → is_past c start ≡ false → IsFirst c p events words changes start flight
    -- of a call under way: it asks no question, its steps and its turns back are bounded, and each step keeps
    -- the invariant (`StepOf`)
    pub asks : (wrote : List (Event T)) (start : BitsStart) (flight : BitsFlight) → K.At c wrote start flight → is_question (want flight) ≡ false
    pub effects : (p old : ℕ) (wrote : List (Event T)) (start : BitsStart) (flight : BitsFlight)
        → K.At c wrote start flight → AllByRecursion (IsEffectOf {T = T} (Next p)) (effects_of p flight old)
    pub most : (wrote : List (Event T)) (backs : ℕ) (start : BitsStart) (flight : BitsFlight)
        → K.At c wrote start flight → K.number flight backs ≤ K.promise.most_steps c code.size (Bits start) backs
    pub paid : (p : ℕ) (events : List (Event T)) (words : List ℕ) (since changes backs : ℕ) (flight : BitsFlight)
        → K.Knows p events words since changes backs flight → backs ≤ changes - since
    pub step : (scene : SetScene T) → K.Holds c scene.state.words scene.events scene.turns
        → (start : BitsStart) (flight : BitsFlight) (wrote : List (Event T)) → StepOf K code c scene start flight wrote

  -- ---- what a kind owes, in the form that the frame asks of a family

  -- `c` is the capacity, and `L` what the kind owes
  module _ (code : Coding T) (c : ℕ) (L : SetLaws code c) where
    -- no call of a set asks a question
    no_question : (wrote : List (Event T)) (start : Start T) (flight : Flight T)
        → FlightAt (K.At c wrote) start flight → is_question (want_of code flight) ≡ false
    no_question wrote (Bits start) (flights.Bits flight) stands = L.asks wrote start flight stands
    no_question wrote start flight stands = absurd stands

    -- no call has taken more steps than are promised for its name
    most : (wrote : List (Event T)) (backs : ℕ) (start : Start T) (flight : Flight T) → FlightAt (K.At c wrote) start flight
        → number_by K.number flight backs ≤ K.promise.most_steps c code.size start backs
    most wrote backs (Bits start) (flights.Bits flight) stands = L.most wrote backs start flight stands
    most wrote backs start flight stands = absurd stands

    -- no call has turned back more often than words have changed since it began
    paid : (p : ℕ) (events : List (Event T)) (words : List ℕ) (since changes backs : ℕ) (flight : Flight T)
        → KnowsFlight (K.Knows p events words since changes backs) flight → backs ≤ changes - since
    paid p events words since changes backs (flights.Bits flight) knows_flight = L.paid p events words since changes backs flight knows_flight
    paid p events words since changes backs flight knows_flight = absurd knows_flight

    -- what a call knows it knows still after a turn of another party
    still : (q : ℕ) (words : List ℕ) (events : List (Event T)) (turns changes : ℕ) (words' : List ℕ) (es : List (Event T)) (changes' : ℕ)
        → K.Preserves c words events turns changes words' es changes' → BeginsNone q es → (since backs : ℕ) (flight : Flight T)
        → KnowsFlight (K.Knows q events words since changes backs) flight → KnowsFlight (K.Knows q (events ++ es) words' since changes' backs) flight
    still q words events turns changes words' es changes' preserves none since backs (flights.Bits flight) knows_flight =
        L.still q words events turns changes words' es changes' preserves none since backs flight knows_flight
    still q words events turns changes words' es changes' preserves none since backs flight knows_flight = absurd knows_flight

    -- party `p` takes a turn of the run `t`, which is sound
    module _ {t : Trace T} (sound : Sound (family K code c) t) (p : ℕ) where
      -- a step of a call at its stage shows what the frame asks of a step
      step_shows : {x : Party T} {since : ℕ} {start : Start T} {flight : Flight T} → StandsThere (family K code c) t sound p x since start flight
          → families.StepOf (outline K) (scene_of (outline K) code c t sound p x.steps x.backs since) start flight
      step_shows {x} {since} {start = (Bits start)} {flight = (flights.Bits flight)} here =
          let there : SetScene T =
          record {
            state = sound.state;
            events = t.events;
            turns = t.world.turns;
            party = p;
            changes = t.world.changes;
            since = since;
            steps = x.steps;
            backs = x.backs;
          } in
          let shows = L.step there sound.holds.0 start flight _ here.at here.span refl here.steps here.knows in
          record {
            state = record { words = _; events = _ };
            kept = refl;
            words = refl;
            shows = record { preserves = (shows.preserves, refl); own = shows.own; stands = shows.stands; here = shows.here; knows = shows.knows };
          }
      step_shows here = absurd here.at

      -- a call that begins on a set is one of its calls at its first stage
      some_first : (start : BitsStart) (flight : Flight T)
          → first_of K.kind c (Bits start) registries.Nothing ≡ Some flight
          → (mine : BitsFlight) × (flight ≡ flights.Bits mine) × (first K.kind c start ≡ Some mine)
      some_first = grind arith

      -- the begin of a call shows what the frame asks of a begin
      begin_shows : (start : Start T) (flight : Flight T) → first_of K.kind c start registries.Nothing ≡ Some flight
          → first_row ((begin_of K.kind c start).rows registries.Nothing p) ≡ None
          → families.Begins (outline K) (scene_of (outline K) code c t sound p 0 0 t.world.changes) start flight
      begin_shows (Bits start) flight begins_so rows =
          let mine = some_first start flight begins_so in
          let is = L.first p t.events sound.state.words t.world.changes start mine.0 mine.2 (row_passed (is_past c start) BadIndex None rows).0 in
          let begun : List (Event T) = Begun p (Bits start) ∷ [] in
          let span : span_of p (t.events ++ begun) ≡ Open (Bits start) [] = span_of-own p t.events begun (refl, tt) in
          subst (λ f. families.Begins (outline K) (scene_of (outline K) code c t sound p 0 0 t.world.changes) (Bits start) f) (sym mine.1)
          (record {
            state = record { words = sound.state.words; events = t.events ++ begun };
            kept = refl;
            words = refl;
            preserves = (L.begins p start sound.state.words t.events t.world.turns t.world.changes sound.holds.0, refl);
            at = subst (λ span. K.At c (wrote_in span) start mine.0) (sym span) is.at;
            wrote = ap (λ span. K.wrote p mine.0 span) span ∙ is.wrote;
            knows = is.knows;
          })
      begin_shows start flight begins_so rows = absurd (L.begins_own registries.Nothing start flight begins_so)

    -- what a step of a call writes are effects of its party, and then the end of the call if it ends
    writes : (t : Trace T) (p : ℕ) (words : List ℕ) (wrote : List (Event T)) (start : Start T) (flight : Flight T) → FlightAt (K.At c wrote) start flight
        → laws.Writes (outline K) t (Next p) (step_from t p t.world.coding words registries.Nothing start flight)
    writes t p words wrote (Bits start) (flights.Bits flight) stands = laws.only_effects (outline K) t (Next p) _ (L.effects p _ wrote start flight stands)
    writes t p words wrote start flight stands = absurd stands

    -- what becomes of a call by a step is decided by its stage alone
    told : (at : BitsStart → BitsFlight → Type 0) (p : ℕ) (start : Start T) (flight : Flight T) → FlightAt at start flight
        → (z : Coding T) (words : List ℕ) (beside : Option (ℕ × ℕ)) (answer : ℕ)
        → (step_of z words beside p start flight answer registries.Nothing).after ≡ goes_of z p flight answer registries.Nothing
    told = grind arith

  -- ---- every run

  -- any turn may be taken
  abbrev May : Trace T → Turn T → Type 0
  May t turn = Unit {0}

  -- each coding and capacity has what the kind owes
  module _ (laws_of : (code : Coding T) (c : ℕ) → SetLaws code c) where
    -- a call of another party stands where it stood, and has written what it had written
    stays : (scene : Scene T (SetState T)) (s' : SetState T) (es : List (Event T)) → s'.events ≡ scene.events ++ es → scene.state.events ≡ scene.events
        → AreOwn scene.party es → (q : ℕ) → q ≢ scene.party → (start : Start T) (flight : Flight T)
        → FlightAt (K.At scene.capacity (wrote_in (span_of q scene.state.events))) start flight
        → FlightAt (K.At scene.capacity (wrote_in (span_of q s'.events))) start flight
        × (wrote_by K q flight (span_of q s'.events) ≡ wrote_by K q flight (span_of q scene.state.events))
    stays scene s' es split_so was own q ne start flight stands =
        let same : span_of q s'.events ≡ span_of q scene.state.events =
        ap (span_of q) split_so ∙ (span_of-other scene.party q scene.events es ne own ∙ ap (span_of q) (sym was)) in
        (subst (λ a. FlightAt (K.At scene.capacity (wrote_in a)) start flight) (sym same) stands, ap (wrote_by K q flight) same)

    -- each turn of a set may be taken, in the form that the frame asks of a family
    turns : (code : Coding T) (c : ℕ) → Turns (outline K) code c May
    turns code c =
        let L = laws_of code c in
        laws.turns_alone (outline K) code c May
        (record {
          holds_on = λ scene s' was y es changes' under preserves h. (
            (laws_of scene.coding scene.capacity).holds scene.state.words scene.events scene.turns scene.changes s'.words es changes' preserves.0 h.0,
            preserves.1,
          );
          stays = λ scene s' was y es changes' preserves h own q ne start flight at. stays scene s' es preserves.1 h.1 own q ne start flight at;
          knows = λ scene s' was y es changes' preserves own q ne since backs flight h.
              still scene.coding scene.capacity (laws_of scene.coding scene.capacity) q scene.state.words
              scene.events scene.turns scene.changes s'.words es changes'
              preserves.0 (others_begin_none q scene.party es ne own) since backs flight h;
          begin = λ t s p start flight may e rows. begin_shows code c L s p start flight e rows;
          step = λ t s p x since may found start flight here. step_shows code c L s p here;
          no_question = λ s p start flight at. no_question code c L _ start flight at;
          no_owners = λ s. refl;
        })

    -- all that the frame asks of a family holds of the set's
    owed : {code : Coding T} {c : ℕ} → Owed (outline K) code c
    owed {code} {c} =
        let L = laws_of code c in
        record {
          promise = L.promise;
          bounds = record { most = λ s p backs start flight at. most code c L _ backs start flight at; paid = λ s p events. paid code c L p events s.words };
          promised = λ t s few. L.keeps_promise t s.capacity few (subst (λ ws. K.Holds c ws t.events t.world.turns) (sym s.fit.words) s.holds.0);
          writes = λ t s p x since small start flight here. writes code c L t p s.state.words _ start flight here.at;
          decides = λ t s p x since said start flight asks here. laws.asks_none _ (no_question code c L _ start flight here.at) asks;
          goes = λ s p. told code c L _ p;
          tells = λ t turn e s. L.tells t turn (after_turn t turn);
        }

    -- all turns of a set are sound
    all_turns : AllTurns (outline K) May
    all_turns =
        record {
          opens = λ code c coded admitted. (let L = laws_of code c in
              record { state = record { words = (opening_of K.kind).words code.size c; events = [] }; kept = L.bare; words = refl; holds = (L.opens, refl) });
          turns = λ code c coded admitted. turns code c;
          few = λ code c t turn s small. tt;
        }

    -- what a step or a decision of the set writes is in the order that the frame asks
    pub orders : (code : Coding T) (c : ℕ) → Orders (family K code c)
    orders code c = laws.orders (outline K) code c (owed)

    -- each machine of a run is sound, however many turns and parties it has
    pub sound_on : (t : Trace T) → t.world.kind ≡ K.kind → IsReachedOn t → Sound (family K t.world.coding t.world.capacity) t
    sound_on = laws.reached_on_sound (outline K) all_turns

    -- all that is promised of every run of the kind holds
    pub sets_keep : Keeps T K.kind
    sets_keep = laws.keeps (outline K) May all_turns (λ code c coded admitted. owed)

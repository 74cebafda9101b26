-- That the machine of a family keeps what its kind promises, from what the family owes of its own calls.
use Rattle.model.proofs.Names.{AllByRecursion, Begun, Bool, Coding, Decide, Event, Flight, IsCoding, IsEffectOf, IsKept}
use Rattle.model.proofs.Names.{IsKeptBy, IsParty, IsReached, IsReachedOn, IsTurnBy, List, Next, None, Open, Option}
use Rattle.model.proofs.Names.{Party, Progresses, Registry, Some, Span, Start, Step, Trace, Turn, WritesInOrder, []}
use Rattle.model.proofs.Names.{after_turn, answer_in, ap, append-nil, arith, beside_of, capacity_error, doing_of}
use Rattle.model.proofs.Names.{ending_of, events_of_step, false, first_of, first_row, flight_in, flight_of, goes_of}
use Rattle.model.proofs.Names.{going_rows, has_owners, is_loan, is_question, kept_after_begin, number_of, opening}
use Rattle.model.proofs.Names.{opening_of, party_at_begin, party_of, progress_in, promise_of, refl, refusal_of, span_of}
use Rattle.model.proofs.Names.{step_of, subst, sym, true, want_of, ℕ, ◌++◌, ◌+◌, ◌-◌, ◌<◌, ◌^◌, ◌∙◌, ◌∷◌, ◌≡◌, ◌≢◌, ◌≤◌}
use Rattle.model.specs.Families.{begin_of}
use Rattle.model.specs.Parties.{put}
use Rattle.model.specs.Promises.Turns.{IsAct, ActsRight}
use Rattle.model.proofs.Family.{Scene, Outline, family, ShowsFrom, StepOf, Begins, scene_of}
use Rattle.model.proofs.Frame as frame
use Rattle.model.proofs.Frame.{Family, Sound, Comes, ComesByDeath}
use Rattle.model.proofs.Orders.{Orders, Keeps, ends_end, turn_is}
use Rattle.model.proofs.Readings.{AreOwn, Each-nil}
use Rattle.model.proofs.Rows.{MayBegin, MayDie}
use Rattle.model.proofs.Scenes.{StandsThere, stands_there, answered_from, step_from, ComesFrom, comes_from, DecidesFrom, decides_from}
use Rattle.model.proofs.Scenes.{in_order_from, decided_in_order_from}
use Rattle.model.proofs.Small.{reached_small}

-- a call cannot both put a question and put none
pub asks_none : {A : Type 0} → (b : Bool) → b ≡ false → b ≡ true → A
asks_none b never asks = absurd (cc)

module _ {T : Type 0} (K : Outline T) where
  -- ---- a turn of the scene's party that preserves what it has to, and writes events of its own alone

  module _ (scene : Scene T K.State) (s' : K.State) (was : Option (Flight T)) (y : Party T) (es : List (Event T)) (changes' : ℕ) where
    -- What the family states holds of its state after the turn, if it held before and the turn preserves it.
    abbrev Holding : Type 0
    Holding =
        flight_of (doing_of (party_of scene.party scene.latest)) ≡ was → K.Preserves scene s' was y es changes'
        → K.Holds scene.coding scene.capacity scene.state scene.latest scene.events scene.turns
        → K.Holds scene.coding scene.capacity s' (put scene.party y scene.latest) (scene.events ++ es) (scene.turns + 1)

    -- the call of another party stays where it is, and knows what it knew
    abbrev Staying : Type 0
    Staying =
        K.Preserves scene s' was y es changes' → K.Holds scene.coding scene.capacity scene.state scene.latest scene.events scene.turns
        → AreOwn scene.party es → (q : ℕ) → q ≢ scene.party → (start : Start T) (flight : Flight T)
        → K.At scene.coding scene.capacity scene.state q start flight
        → K.At scene.coding scene.capacity s' q start flight × (K.written scene.capacity s' q flight ≡ K.written scene.capacity scene.state q flight)

    -- what the call of another party knew it still knows after the step
    abbrev Knowing : Type 0
    Knowing =
        K.Preserves scene s' was y es changes' → AreOwn scene.party es → (q : ℕ) → q ≢ scene.party → (since backs : ℕ) (flight : Flight T)
        → K.Knows scene.coding scene.capacity scene.state q scene.events since scene.changes backs flight
        → K.Knows scene.coding scene.capacity s' q (scene.events ++ es) since changes' backs flight

  -- what a step writes down before the end of its call: what it did to the structure, then the acts
  pub record Writes (t : Trace T) (turn : Turn T) (step : Step (Flight T) (Registry T) T) : Type 0 where
    -- what the step did to the structure, then the calls that acted
    pub effects : List (Event T)
    pub acts : List (Event T)
    pub is : step.wrote ≡ effects ++ acts
    -- each event is of its sort, and each act is one that the promise allows
    pub are_effects : AllByRecursion (IsEffectOf turn) effects
    pub are_acts : AllByRecursion IsAct acts
    pub right : AllByRecursion (ActsRight K.promise t turn) acts

  -- a step in which no call acts writes only what it did to the structure
  pub only_effects : (t : Trace T) (turn : Turn T) (step : Step (Flight T) (Registry T) T) → AllByRecursion (IsEffectOf turn) step.wrote → Writes t turn step
  only_effects t turn step all = record { effects = step.wrote; acts = []; is = sym (append-nil step.wrote); are_effects = all; are_acts = tt; right = tt }

  -- what a family owes of its machine at the opening
  pub record Opens (code : Coding T) (c : ℕ) : Type 0 where
    pub state : K.State
    pub kept : (opening_of K.kind).kept c ≡ K.kept state
    pub words : (opening_of K.kind).words code.size c ≡ K.words state
    pub holds : K.Holds code c state [] [] 0

  -- a machine that has just been opened keeps the invariant
  pub opening_sound : (code : Coding T) (c : ℕ) → Opens code c → (parties : ℕ) → Sound (family K code c) (opening code K.kind c parties)
  opening_sound code c opens parties =
      record {
        coding = refl;
        kind = refl;
        capacity = refl;
        state = opens.state;
        fit = record { kept = opens.kept; words = opens.words };
        holds = opens.holds;
        inv = record { spans = Each-nil _; calls = λ p. refl; knows = λ p. tt };
      }

  -- what a family owes of its turns at this coding and this capacity, where such turns may be taken
  pub record Turns (code : Coding T) (c : ℕ) (May : Trace T → Turn T → Type 0) : Type 1 where
    -- A begin that is admitted leads to a state of the family.
    pub begin : (t : Trace T) (s : Sound (family K code c) t) (p : ℕ) (start : Start T) (flight : Flight T) → MayBegin t.world p start
        → first_of K.kind c start (K.kept s.state) ≡ Some flight → first_row ((begin_of K.kind c start).rows (K.kept s.state) p) ≡ None
        → Comes (family K code c) t p (kept_after_begin code c start p (K.kept s.state)) (K.words s.state)
        (party_at_begin start flight t.world.changes) (Begun p start ∷ []) t.world.changes
    -- A step that is not refused leads to a state of the family.
    pub step : (t : Trace T) (s : Sound (family K code c) t) (p : ℕ) (x : Party T) (since : ℕ) → May t (Next p) → party_of p t.world.latest ≡ Some x
        → (start : Start T) (flight : Flight T) → first_row (going_rows code (K.kept s.state) (Some flight) None) ≡ None
        → StandsThere (family K code c) t s p x since start flight
        → ComesFrom (family K code c) t s p x since code (K.words s.state) (K.kept s.state) start flight
    -- A decision that is not refused leads to a state of the family.
    pub decision : (t : Trace T) (s : Sound (family K code c) t) (p : ℕ) (x : Party T) (since : ℕ) (said : Bool) → May t (Decide p said)
        → party_of p t.world.latest ≡ Some x → (start : Start T) (flight : Flight T)
        → first_row (going_rows code (K.kept s.state) (Some flight) (Some said)) ≡ None
        → is_question (want_of code flight) ≡ true → StandsThere (family K code c) t s p x since start flight
        → DecidesFrom (family K code c) t s p x since code (number_of said) (K.words s.state) (K.kept s.state) start flight
    -- The death of an owner leads to a state of the family.
    pub death : (t : Trace T) (owner : ℕ) (s : Sound (family K code c) t) → MayDie t.world owner → ComesByDeath (family K code c) t s owner

  -- what a family owes in its place whose turns write events of their own party alone, and that has neither questions nor owners
  pub record Alone (code : Coding T) (c : ℕ) (May : Trace T → Turn T → Type 0) : Type 1 where
    pub holds_on : (scene : Scene T K.State) (s' : K.State) (was : Option (Flight T)) (y : Party T) (es : List (Event T)) (changes' : ℕ)
        → Holding scene s' was y es changes'
    pub stays : (scene : Scene T K.State) (s' : K.State) (was : Option (Flight T)) (y : Party T) (es : List (Event T)) (changes' : ℕ)
        → Staying scene s' was y es changes'
    pub knows : (scene : Scene T K.State) (s' : K.State) (was : Option (Flight T)) (y : Party T) (es : List (Event T)) (changes' : ℕ)
        → Knowing scene s' was y es changes'
    -- A begin that is admitted leads to a state of the family, and keeps the invariant (`Begins`).
    pub begin : (t : Trace T) (s : Sound (family K code c) t) (p : ℕ) (start : Start T) (flight : Flight T) → MayBegin t.world p start
        → first_of K.kind c start (K.kept s.state) ≡ Some flight → first_row ((begin_of K.kind c start).rows (K.kept s.state) p) ≡ None
        → Begins K (scene_of K code c t s p 0 0 t.world.changes) start flight
    -- A step of a call under way leads to a state of the family, and keeps the invariant (`StepOf`).
    pub step : (t : Trace T) (s : Sound (family K code c) t) (p : ℕ) (x : Party T) (since : ℕ) → May t (Next p) → party_of p t.world.latest ≡ Some x
        → (start : Start T) (flight : Flight T) → StandsThere (family K code c) t s p x since start flight
        → StepOf K (scene_of K code c t s p x.steps x.backs since) start flight
    pub no_question : (s : K.State) (p : ℕ) (start : Start T) (flight : Flight T) → K.At code c s p start flight → is_question (want_of code flight) ≡ false
    pub no_owners : (s : K.State) → has_owners (K.kept s) ≡ false

  -- What a turn comes to holds also of registries and words that are equal to those of which it is known.
  comes_at : {F : Family T} {t : Trace T} {p : ℕ} {kept kept' : Registry T} {words words' : List ℕ} {y : Party T} {es : List (Event T)} {changes : ℕ}
      → kept ≡ kept' → words ≡ words' → Comes F t p kept' words' y es changes → Comes F t p kept words y es changes
  comes_at {F = F} {t} {p} {kept' = kept'} {words = words} {y = y} {es = es} {changes = changes} same_kept same_words comes =
      subst (λ k. Comes F t p k words y es changes) (sym same_kept) (subst (λ ws. Comes F t p kept' ws y es changes) (sym same_words) comes)

  module _ (code : Coding T) (c : ℕ) (May : Trace T → Turn T → Type 0) (A : Alone code c May) where
    module _ {t : Trace T} (s : Sound (family K code c) t) (p : ℕ) where
      -- a turn of which `ShowsFrom` was shown comes to a machine that keeps the invariant, with the state s'
      shown : (steps backs since : ℕ) (s' : K.State) (was : Option (Flight T)) (from : Span T) {y : Party T} {es : List (Event T)} {changes' : ℕ}
          → flight_in t.world p ≡ was → span_of p t.events ≡ from
          → ShowsFrom K (scene_of K code c t s p steps backs since) was s' from y es changes'
          → Comes (family K code c) t p (K.kept s') (K.words s') y es changes'
      shown steps backs since s' was from {y} {es} {changes'} under span_is shows =
          let scene = scene_of K code c t s p steps backs since in
          record {
            state = s';
            fit = record { kept = refl; words = refl };
            holds = A.holds_on scene s' was y es changes' under shows.preserves s.holds;
            owes =
                frame.owes (family K code c) s.state s' from p y t.world.latest t.events es t.world.changes changes' span_is s.inv
                (record {
                  own = shows.own;
                  stands = shows.stands;
                  here = shows.here;
                  knows = shows.knows;
                  others = λ q ne. A.stays scene s' was y es changes' shows.preserves s.holds shows.own q ne;
                  others_know = λ q ne. A.knows scene s' was y es changes' shows.preserves shows.own q ne;
                });
          }

      -- a begin that writes events of its own party alone comes to a machine that keeps the invariant
      begins_alone : {start : Start T} {flight : Flight T} → flight_in t.world p ≡ None
          → Begins K (scene_of K code c t s p 0 0 t.world.changes) start flight
          → Comes (family K code c) t p (kept_after_begin code c start p (K.kept s.state)) (K.words s.state)
          (party_at_begin start flight t.world.changes) (Begun p start ∷ []) t.world.changes
      begins_alone {start} {flight} free begins =
          comes_at begins.kept begins.words
          (shown 0 0 t.world.changes begins.state None (span_of p t.events)
          free refl
          (record {
            preserves = begins.preserves;
            own = (refl, tt);
            stands = (frame.shut (family K code c) s.state p (party_of p t.world.latest) (span_of p t.events) free (s.inv.calls p), tt);
            here = record { span = ap (λ es. Open start es) (sym begins.wrote); steps = omega arith; at = begins.at };
            knows = begins.knows;
          }))

      -- a step that writes events of its own party alone comes to a machine that keeps the invariant
      step_alone : {x : Party T} {since : ℕ} {start : Start T} {flight : Flight T} → StandsThere (family K code c) t s p x since start flight
          → StepOf K (scene_of K code c t s p x.steps x.backs since) start flight
          → ComesFrom (family K code c) t s p x since code (K.words s.state) (K.kept s.state) start flight
      step_alone {x} {since} {flight = flight} here moves =
          comes_at moves.kept moves.words
          (shown x.steps x.backs since moves.state (Some flight) _ here.found here.span moves.shows)

    -- a family all of whose turns write such events keeps the invariant by each of them
    pub turns_alone : Turns code c May
    turns_alone =
        record {
          begin = λ t s p start flight may named rows. begins_alone s p may.free (A.begin t s p start flight may named rows);
          step = λ t s p x since may found start flight rows here.
              step_alone s p here (A.step t s p x since may found start flight here);
          decision = λ t s p x since said may found start flight rows asks here. asks_none _ (A.no_question s.state p start flight here.at) asks;
          death = frame.no_death (family K code c) (λ kept words state fit. rw fit.kept (A.no_owners state));
        }

  -- what it owes of its promises there
  pub record Owed (code : Coding T) (c : ℕ) : Type 1 where
    pub promise : promise_of {T = T} K.kind ≡ K.promise
    pub bounds : frame.Bounds (family K code c)
    pub promised : (t : Trace T) → Sound (family K code c) t → t.world.turns ≤ 2 ^ 64 - 2 → K.promise.holds t
    -- of what a step writes down, and a decision
    pub writes : (t : Trace T) (s : Sound (family K code c) t) (p : ℕ) (x : Party T) (since : ℕ) → t.world.turns < 2 ^ 64 - 2
        → (start : Start T) (flight : Flight T) → StandsThere (family K code c) t s p x since start flight
        → Writes t (Next p) (step_from t p t.world.coding (K.words s.state) (K.kept s.state) start flight)
    pub decides : (t : Trace T) (s : Sound (family K code c) t) (p : ℕ) (x : Party T) (since : ℕ) (said : Bool)
        → (start : Start T) (flight : Flight T) → is_question (want_of code flight) ≡ true
        → StandsThere (family K code c) t s p x since start flight
        → Writes t (Decide p said) (answered_from t p t.world.coding (number_of said) (K.words s.state) (K.kept s.state) start flight)
    -- how a call goes on depends on no word, and on nothing that stands beside it
    pub goes : (s : K.State) (p : ℕ) (start : Start T) (flight : Flight T) → K.At code c s p start flight
        → (z : Coding T) (words : List ℕ) (beside : Option (ℕ × ℕ)) (answer : ℕ)
        → (step_of z words beside p start flight answer (K.kept s)).after ≡ goes_of z p flight answer (K.kept s)
    pub tells : (t : Trace T) (turn : Turn T) → refusal_of t.world turn ≡ None → Sound (family K code c) t → K.promise.tells t turn (after_turn t turn)

  module _ (code : Coding T) (c : ℕ) where
    -- The family of machines with this coding and capacity.
    abbrev F : Family T
    F = family K code c

    module _ {t : Trace T} (s : Sound F t) (p : ℕ) where
      asks_here : (flight : Flight T) → is_question (want_of t.world.coding flight) ≡ true → is_question (want_of code flight) ≡ true
      asks_here flight asks = subst (λ (z : Coding T). is_question (want_of z flight) ≡ true) s.coding asks

      -- The tests that a call passes in the machine it passes in the family's state.
      rows_here : (flight : Flight T) (said : Option Bool) → first_row (going_rows t.world.coding t.world.kept (Some flight) said) ≡ None
          → first_row (going_rows code (K.kept s.state) (Some flight) said) ≡ None
      rows_here flight said rows = rw (s.coding, s.fit.kept) at rows

      kept_here : (start : Start T) → kept_after_begin t.world.coding t.world.capacity start p t.world.kept ≡ kept_after_begin code c start p (K.kept s.state)
      kept_here start = rw (s.coding, s.capacity, s.fit.kept) refl

      -- a begin that is not refused comes to a machine that keeps the invariant
      begin_comes : {May : Trace T → Turn T → Type 0} → Turns code c May → {start : Start T} (flight : Flight T)
          → MayBegin t.world p start → first_of t.world.kind t.world.capacity start t.world.kept ≡ Some flight
          → Comes F t p (kept_after_begin t.world.coding t.world.capacity start p t.world.kept) t.world.words
          (party_at_begin start flight t.world.changes) (Begun p start ∷ []) t.world.changes
      begin_comes turns {start} flight may call_is =
          let named : first_of K.kind c start (K.kept s.state) ≡ Some flight = rw (s.kind, s.capacity, s.fit.kept) at call_is in
          let rows : first_row ((begin_of K.kind c start).rows (K.kept s.state) p) ≡ None = rw (s.kind, s.capacity, s.fit.kept) at may.rows in
          comes_at (kept_here start) s.fit.words (turns.begin t s p start flight may named rows)

    -- what a family owes of its begins and steps is what the frame asks of it
    pub laws : (May : Trace T → Turn T → Type 0) → Turns code c May → frame.LawsWhere F May
    laws May turns =
        record {
          step = λ t p x flight since s may passed found doing.
              comes_from F t s p x since (K.words s.state) (K.kept s.state) flight s.fit.words s.fit.kept
              (turns.step t s p x since may found x.start flight (rows_here s p flight None passed) (stands_there F t s p x since flight found doing));
          decision = λ t p x flight since said s may passed found doing asks.
              decides_from F t s p x since said (K.words s.state) (K.kept s.state) flight s.fit.words s.fit.kept
              (turns.decision t s p x since said may found x.start flight (rows_here s p flight (Some said) passed) (asks_here s p flight asks)
              (stands_there F t s p x since flight found doing));
          begin = λ t p start flight s may begins e. begin_comes s p turns flight begins e;
          death = turns.death;
        }

    -- a turn that writes what the family says writes its events in order
    in_order : {t : Trace T} {turn : Turn T} (p : ℕ) → IsParty turn p → (start : Start T) {step : Step (Flight T) (Registry T) T} → Writes t turn step
        → WritesInOrder K.promise t turn (t.events ++ events_of_step p start step)
    in_order {t} {turn} p mine start {step} written =
        record {
          effects = written.effects;
          acts = written.acts;
          ends = ending_of p start (answer_in step.after);
          is = ap (λ es. t.events ++ (es ++ ending_of p start (answer_in step.after))) written.is;
          are_effects = written.are_effects;
          are_acts = written.are_acts;
          are_ends = ends_end turn p start (answer_in step.after) mine;
          right = written.right;
        }

    -- every turn of a machine that keeps the invariant writes its events in order
    pub orders : Owed code c → Orders F
    orders L =
        record {
          step = λ t p x flight since s small found doing.
              in_order_from t p K.promise t.world.coding (K.words s.state) (K.kept s.state) x.start flight s.fit.words s.fit.kept
              (in_order p refl x.start (L.writes t s p x since small x.start flight (stands_there F t s p x since flight found doing)));
          decision = λ t p x flight since said s small found doing asks.
              decided_in_order_from t p K.promise said t.world.coding (K.words s.state) (K.kept s.state) x.start flight s.fit.words s.fit.kept
              (in_order p refl x.start
              (L.decides t s p x since said x.start flight (asks_here s p flight asks) (stands_there F t s p x since flight found doing)));
          after = λ t p x flight since answer s found doing.
              rw s.fit.kept
              (L.goes s.state p x.start flight (stands_there F t s p x since flight found doing).at t.world.coding t.world.words
              (beside_of t.world.words (K.kept s.state) t.world.latest p) answer);
          tells = L.tells;
        }

    -- each call under way has taken no more steps than its promise grants
    pub progress : Owed code c → (t : Trace T) → Sound F t → (p : ℕ) → Progresses K.promise c code.size (span_of p t.events) (progress_in t.world p)
    progress L t sound p =
        frame.progresses F L.bounds sound.state p t.events t.world.changes (party_of p t.world.latest)
        (span_of p t.events) (sound.inv.calls p) (sound.inv.knows p)

  -- ---- every run

  -- what a family owes of its turns at every capacity that is admitted, and that few turns are turns that may be taken
  pub record AllTurns (May : Trace T → Turn T → Type 0) : Type 1 where
    pub opens : (code : Coding T) (c : ℕ) → IsCoding code → capacity_error K.kind c ≡ None → Opens code c
    pub turns : (code : Coding T) (c : ℕ) → IsCoding code → capacity_error K.kind c ≡ None → Turns code c May
    pub few : (code : Coding T) (c : ℕ) (t : Trace T) (turn : Turn T) → Sound (family K code c) t → t.world.turns < 2 ^ 64 - 2 → May t turn

  module _ (May : Trace T → Turn T → Type 0) (all : AllTurns May) where
    module _ (t : Trace T) (is : t.world.kind ≡ K.kind) (coded : IsCoding t.world.coding) (admitted : capacity_error t.world.kind t.world.capacity ≡ None) where
      pub admits : capacity_error K.kind t.world.capacity ≡ None
      admits = subst (λ kind. capacity_error kind t.world.capacity ≡ None) is admitted

      pub laws_there : frame.LawsWhere (family K t.world.coding t.world.capacity) May
      laws_there = laws t.world.coding t.world.capacity May (all.turns t.world.coding t.world.capacity coded admits)

      -- The opening of the machine, which is of the family's kind, is sound.
      pub opening_there : Sound (family K t.world.coding t.world.capacity) (opening t.world.coding t.world.kind t.world.capacity t.world.parties)
      opening_there =
          subst (λ kind. Sound (family K t.world.coding t.world.capacity) (opening t.world.coding kind t.world.capacity t.world.parties)) (sym is)
          (opening_sound t.world.coding t.world.capacity (all.opens t.world.coding t.world.capacity coded admits) t.world.parties)

    -- every machine of the kind that turns have reached keeps the invariant
    pub reached_sound : (t : Trace T) → t.world.kind ≡ K.kind → IsReached t → Sound (family K t.world.coding t.world.capacity) t
    reached_sound t of_kind reached =
        let F = family K t.world.coding t.world.capacity in
        frame.reached_sound F
        (frame.laws_with F (λ u turn s small. all.few t.world.coding t.world.capacity u turn s small) (laws_there t of_kind reached.coded reached.admitted))
        (ap is_loan of_kind ∙ K.no_loan) (opening_there t of_kind reached.coded reached.admitted) reached

  -- the same where neither turns nor parties have a bound, nor turns another premise
  pub reached_on_sound : (all : AllTurns (λ t turn. Unit {0})) (t : Trace T) → t.world.kind ≡ K.kind → IsReachedOn t
      → Sound (family K t.world.coding t.world.capacity) t
  reached_on_sound all t of_kind reached_on =
      frame.reached_on_sound (family K t.world.coding t.world.capacity) (laws_there (λ t turn. Unit {0}) all t of_kind reached_on.coded reached_on.admitted)
      (opening_there (λ t turn. Unit {0}) all t of_kind reached_on.coded reached_on.admitted) reached_on

  -- what it owes of its promises at every such capacity
  abbrev pub OwesAll : Type 1
  OwesAll = (code : Coding T) (c : ℕ) → IsCoding code → capacity_error K.kind c ≡ None → Owed code c

  module _ (May : Trace T → Turn T → Type 0) (all : AllTurns May) (owes : OwesAll) where
    module _ (t : Trace T) (is : t.world.kind ≡ K.kind) (coded : IsCoding t.world.coding) (admitted : capacity_error t.world.kind t.world.capacity ≡ None) where
      owed_there : Owed t.world.coding t.world.capacity
      owed_there = owes t.world.coding t.world.capacity coded (admits May all t is coded admitted)

      -- A sound machine whose family keeps its promise keeps all that is promised of its kind.
      pub kept_by : Sound (family K t.world.coding t.world.capacity) t → K.promise.holds t → IsKept t
      kept_by sound promised =
          subst (λ P. IsKeptBy P t) (sym (ap (promise_of {T = T}) is ∙ owed_there.promise))
          (record { spans = sound.inv.spans; progress = progress t.world.coding t.world.capacity owed_there t sound; promised = promised })

    -- the kind keeps what it promises in every run
    pub keeps : Keeps T K.kind
    keeps =
        record {
          kept = λ t is r.
              let is_sound = reached_sound May all t is r in
              kept_by t is r.coded r.admitted is_sound ((owed_there t is r.coded r.admitted).promised t is_sound (reached_small t r).turns);
          turn = λ t turn is e r.
              subst (λ P. IsTurnBy P t turn (after_turn t turn)) (sym (ap (promise_of {T = T}) is ∙ (owed_there t is r.coded r.admitted).promise))
              (turn_is (family K t.world.coding t.world.capacity)
              (orders t.world.coding t.world.capacity (owed_there t is r.coded r.admitted)) t turn e r (reached_sound May all t is r));
        }

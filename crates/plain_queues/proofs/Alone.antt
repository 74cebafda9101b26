-- What a driver knows between two steps of a call that runs alone, and what it knows of where
-- the call stops or ends.
use Rattle.std.proofs.Common.{◌≡◌, ℕ, zero, suc, ◌+◌, ◌^◌, ◌-◌, ◌≤◌, List, sym, subst, arith}
use Rattle.steps.specs.declared.ask.Want.{Want}
use Rattle.steps.specs.declared.ask.After.{After}
use Rattle.steps.specs.declared.ask.After.TheVariants.{GoOn, Done}
use Rattle.plain_queues.specs.declared.drive.Stop.{Stop}
use Rattle.plain_queues.specs.Alone.{answer_in, words_then, room_then, stepped, StopsFrom, StopsIn, CanStop, StopsAlike, EndsIn, CanEnd, EndsAlike}
use Rattle.plain_queues.specs.FirstSteps.{StopsOn}

module _ {C G M E : Type 0} (want_of : C → G → Want (Unit {0})) (after : C → G → ℕ → After C E)
    (kept : C → M → ℕ → M) (given : G) where
  -- the call, run alone from these words, stops within n steps, at this stop, with this room and these words
  abbrev Stops : ℕ → Stop C E → M → List ℕ → C → M → List ℕ → Type 0
  Stops n s r ws call room words = StopsIn want_of after kept given n s r ws call room words

  -- what the driver's next step makes of the call: it goes on, or it has stopped
  abbrev next : C → List ℕ → After C (Stop C E)
  next call words =
      stepped (want_of call given) call (after call given (answer_in words (want_of call given)))

  -- the room after the driver's next step
  abbrev next_room : C → M → List ℕ → M
  next_room call room words =
      room_then (want_of call given) room (kept call room (answer_in words (want_of call given)))

  -- the words after the driver's next step
  abbrev next_words : C → List ℕ → List ℕ
  next_words call words = words_then words (want_of call given)

  -- each stop of the call as it began, with room and words, is also a stop of the call that it has become
  abbrev pub StopsAlso : C → M → List ℕ → C → M → List ℕ → Type 0
  StopsAlso first room₀ words₀ call room words =
      (n : ℕ) (s : Stop C E) (r : M) (ws : List ℕ) → Stops n s r ws first room₀ words₀
      → (k : ℕ) × Stops k s r ws call room words

  -- A driver is under way: it has taken `done` steps of the call that it began with, stands at this call with
  -- this room and these words, and stops within its bound of 2^64 - 1 steps.
  pub record Going (first : C) (room₀ : M) (words₀ : List ℕ) (done : ℕ) (call : C) (room : M)
      (words : List ℕ) : Type 0 where
    -- the steps that it may still take: with those that it has taken they stay within the bound
    pub left : ℕ
    pub few : left + done ≤ 2 ^ 64 - 1
    -- the stop to which the call comes from here, and that each stop of the call as it began
    -- is a stop from here
    pub stop : Stop C E
    pub last_room : M
    pub last_words : List ℕ
    pub stops : StopsIn want_of after kept given left stop last_room last_words call room words
    pub alike : StopsAlso first room₀ words₀ call room words

  -- where the next step lets the call go on, a stop within n steps is one within n - 1 steps from there
  step_on : {n : ℕ} {s : Stop C E} {r : M} {ws : List ℕ} (call : C) {d : C} (room : M) (words : List ℕ)
      → Stops n s r ws call room words → next call words ≡ GoOn d
      → (k : ℕ) × (n ≡ k + 1) × Stops k s r ws d (next_room call room words) (next_words call words)
  step_on = grind arith

  -- where the next step lets the call go on, a driver under way is under way from there,
  -- with one step more done
  pub goes_on : (first : C) (room₀ : M) (words₀ : List ℕ) (done : ℕ) (call d : C) (room : M)
      (words : List ℕ) → Going first room₀ words₀ done call room words → next call words ≡ GoOn d
      → Going first room₀ words₀ (done + 1) d (next_room call room words) (next_words call words)
  goes_on first room₀ words₀ done call d room words going goes =
      let u = step_on call room words going.stops goes in
      record {
        left = u.0;
        few = omega (arith, going.few, u.1);
        stop = going.stop;
        last_room = going.last_room;
        last_words = going.last_words;
        stops = u.2;
        alike = λ n s r ws t.
            let k = going.alike n s r ws t in
            let v = step_on call room words k.1 goes in (v.0, v.2);
      }

  -- where the next step stops the call, each stop of the call is that one, with the room and
  -- the words after the step
  stopped : (n : ℕ) (s f : Stop C E) (r : M) (ws : List ℕ) (call : C) (room : M) (words : List ℕ)
      → Stops n s r ws call room words → next call words ≡ Done f
      → (f ≡ s) × (next_room call room words ≡ r) × (next_words call words ≡ ws)
  stopped = grind arith

  -- where the next step stops the call, this is the stop of the call as it began
  pub stops : {first : C} {room₀ : M} {words₀ : List ℕ} {done : ℕ} {call : C} {f : Stop C E}
      {room : M} {words : List ℕ} → Going first room₀ words₀ done call room words
      → next call words ≡ Done f
      → StopsAlike want_of after kept given first room₀ words₀ f (next_room call room words)
      (next_words call words)
  stops = grind (arith, stopped)

  -- ---- the first steps of a call, which a driver takes outside its loop

  -- how a call stops after a step, where `rest` says how it stops if it goes on
  abbrev StepStops : (C → M → List ℕ → Type 0) → After C (Stop C E) → M → List ℕ → Stop C E → M → List ℕ → Type 0
  StepStops rest a room words s r ws = StopsFrom want_of after kept given rest a room words s r ws

  -- the first steps of the call have led to a, with room x and words y: in whichever way the call stops, it
  -- has stopped in that way already or stops in that way from there
  abbrev LeadsTo : C → M → List ℕ → After C (Stop C E) → M → List ℕ → Type 0
  LeadsTo call room words a x y = StopsOn want_of after kept given call room words a x y

  -- what follows from P for each call that goes on follows after a step
  from_also : (P Q : C → M → List ℕ → Type 0) → ((d : C) (x : M) (y : List ℕ) → P d x y → Q d x y)
      → (a : After C (Stop C E)) (room : M) (words : List ℕ) (s : Stop C E) (r : M) (ws : List ℕ)
      → StepStops P a room words s r ws → StepStops Q a room words s r ws
  from_also P Q also (GoOn d) room words s r ws from = also d room words from
  from_also P Q also (Done f) room words s r ws from = from

  -- one step is a beginning: where the call stops, it stops in the same way after its next step
  step_on_from : (call : C) (room : M) (words : List ℕ)
      → LeadsTo call room words (next call words) (next_room call room words) (next_words call words)
  step_on_from call room words zero s r ws t = absurd t
  step_on_from call room words (suc n) s r ws t =
      from_also (Stops n s r ws) (λ d x y. (k : ℕ) × (k ≤ suc n) × Stops k s r ws d x y)
      (λ d x y u. (n, omega arith, u)) (next call words) (next_room call room words) (next_words call words) s r ws t

  -- one step is a beginning, where a, x and y are what the step has made of call, room and words
  pub one_step : (call : C) (room : M) (words : List ℕ) {a : After C (Stop C E)} {x : M} {y : List ℕ}
      → a ≡ next call words → x ≡ next_room call room words → y ≡ next_words call words → LeadsTo call room words a x y
  one_step call room words goes keeps writes =
      subst (λ (z : After C (Stop C E) × M × List ℕ). LeadsTo call room words z.0 z.1 z.2)
      (λ i. (sym goes i, sym keeps i, sym writes i)) (step_on_from call room words)

  -- first steps of a call, and further ones from where these have led, are together first steps of the call
  pub more_steps : {call d : C} {room x : M} {words y : List ℕ} {b : After C (Stop C E)} (a : After C (Stop C E)) (x₁ : M) (y₁ : List ℕ) → b ≡ GoOn d
      → LeadsTo call room words b x y → LeadsTo d x y a x₁ y₁ → LeadsTo call room words a x₁ y₁
  more_steps {call} {d} {room} {x} {words} {y} {b} a x₁ y₁ goes first later n s r ws t =
      let u = subst (λ c. LeadsTo call room words c x y) goes first n s r ws t in
      let few = u.1 in
      from_also (λ d x y. (k : ℕ) × (k ≤ u.0) × Stops k s r ws d x y) (λ d x y. (k : ℕ) × (k ≤ n) × Stops k s r ws d x y)
      (λ d x y v. let less = v.1 in (v.0, omega arith, v.2)) a x₁ y₁ s r ws (later u.0 s r ws u.2)

  -- where first steps of a call that can stop let it go on, a driver is under way from there, with no step of
  -- its loop done
  pub begins_later : {call d : C} {room x : M} {words y : List ℕ} {a : After C (Stop C E)} → a ≡ GoOn d
      → CanStop want_of after kept given call room words → LeadsTo call room words a x y → Going call room words 0 d x y
  begins_later {call} {d} {room} {x} {words} {y} goes may_stop leads =
      let so = subst (λ c. LeadsTo call room words c x y) goes leads in
      let u = so may_stop.steps may_stop.stop may_stop.last_room may_stop.last_words may_stop.stops in
      record {
        left = u.0;
        few = omega (arith, may_stop.few, u.1);
        stop = may_stop.stop;
        last_room = may_stop.last_room;
        last_words = may_stop.last_words;
        stops = u.2;
        alike = λ n s r ws t. let v = so n s r ws t in (v.0, v.2);
      }

  -- where first steps of a call have stopped it, this is its stop
  pub stops_early : {call : C} {f : Stop C E} {room x : M} {words y : List ℕ} {a : After C (Stop C E)} → a ≡ Done f
      → LeadsTo call room words a x y → StopsAlike want_of after kept given call room words f x y
  stops_early {call} {f} {room} {x} {words} {y} ends leads n s r ws t =
      let u = subst (λ c. LeadsTo call room words c x y) ends leads n s r ws t in (sym u.0, sym u.1, sym u.2)

-- ---- what comes of a call that runs alone

module _ {C G M E : Type 0} (want_of : C → G → Want (Unit {0})) (after : C → G → ℕ → After C E)
    (kept : C → M → ℕ → M) (given : G) where
  -- The call, run alone from these words, ends within 2^64 - 1 steps, and P holds of its end, its last room
  -- and the last words.
  pub record Runs (P : E → M → List ℕ → Type 0) (call : C) (room : M) (words : List ℕ) : Type 0 where
    -- within how many steps the call ends
    pub steps : ℕ
    pub few : steps ≤ 2 ^ 64 - 1
    -- its end, and the room and the words then, of which P holds
    pub end : E
    pub last_room : M
    pub last_words : List ℕ
    pub ends : EndsIn want_of after kept given steps end last_room last_words call room words
    pub holds : P end last_room last_words

  -- The call, run alone from these words, stops within 2^64 - 1 steps, and P holds of its stop, of the room
  -- and of the words then.
  pub record Halts (P : Stop C E → M → List ℕ → Type 0) (call : C) (room : M) (words : List ℕ) : Type 0 where
    -- within how many steps the call stops
    pub steps : ℕ
    pub few : steps ≤ 2 ^ 64 - 1
    -- its stop, and the room and the words then, of which P holds
    pub stop : Stop C E
    pub last_room : M
    pub last_words : List ℕ
    pub stops : StopsIn want_of after kept given steps stop last_room last_words call room words
    pub holds : P stop last_room last_words

-- What a call with a property of its end or its stop gives a driver; the property names the call, its room and the words.
module _ {C G M E : Type 0} {want_of : C → G → Want (Unit {0})} {after : C → G → ℕ → After C E}
    {kept : C → M → ℕ → M} {given : G} {call : C} {room : M} {words : List ℕ} where
  -- a call of which `Runs` holds can end
  pub can_end : {P : E → M → List ℕ → Type 0} → Runs want_of after kept given P call room words → CanEnd want_of after kept given call room words
  can_end {P} runs_so =
      record {
        steps = runs_so.steps;
        few = runs_so.few;
        end = runs_so.end;
        last_room = runs_so.last_room;
        last_words = runs_so.last_words;
        ends = runs_so.ends;
      }

  -- a call that ends in its first step can end
  pub ends_at_once : (end : E) (last_room : M) (last_words : List ℕ) → EndsIn want_of after kept given 1 end last_room last_words call room words
      → CanEnd want_of after kept given call room words
  ends_at_once end last_room last_words ends =
      record { steps = 1; few = omega arith; end = end; last_room = last_room; last_words = last_words; ends = ends }

  -- where `Runs` holds of a call, P holds of the end to which a driver has brought it
  pub ends_so : {P : E → M → List ℕ → Type 0} {e : E} {r : M} {ws : List ℕ}
      → Runs want_of after kept given P call room words → EndsAlike want_of after kept given call room words e r ws → P e r ws
  ends_so = grind arith

  -- ---- a call that puts questions

  -- a call of which `Halts` holds can stop
  pub can_stop : {P : Stop C E → M → List ℕ → Type 0} → Halts want_of after kept given P call room words
      → CanStop want_of after kept given call room words
  can_stop {P} halts_so =
      record {
        steps = halts_so.steps;
        few = halts_so.few;
        stop = halts_so.stop;
        last_room = halts_so.last_room;
        last_words = halts_so.last_words;
        stops = halts_so.stops;
      }

  -- where `Halts` holds of a call, P holds of the stop to which a driver has brought it
  pub stops_so : {P : Stop C E → M → List ℕ → Type 0} {s : Stop C E} {r : M} {ws : List ℕ}
      → Halts want_of after kept given P call room words → StopsAlike want_of after kept given call room words s r ws → P s r ws
  stops_so = grind arith

-- A call of a container begins, and by which rules its calls are those of the map.
use Rattle.std.proofs.Common.{◌≡◌, inl, inr, ℕ, suc, ◌+◌, ◌*◌, true, Option, Some, None, is_some, option_map, List, []}
use Rattle.std.proofs.Common.{replicate, length-append, refl, sym, ap, subst, arith, if◌then◌else◌}
use Rattle.std.proofs.lemmas.List.{length-replicate}
use Rattle.steps.specs.Container.Look.{first_look}
use Rattle.steps.specs.Indices.Robust.Parts.{empty}
use Rattle.steps.specs.declared.container.state.ContainerState.{ContainerState}
use Rattle.model.specs.declared.event.Start.{Start}
use Rattle.model.specs.declared.event.Start.TheVariants as starts
use Rattle.model.specs.declared.families.Flight.{Flight}
use Rattle.model.specs.declared.families.Flight.TheVariants as flights
use Rattle.model.specs.declared.families.Registry.{Registry}
use Rattle.model.specs.declared.families.Registry.TheVariants as registries
use Rattle.model.specs.declared.families.container.ContainerStart.{ContainerStart}
use Rattle.model.specs.declared.families.container.ContainerStart.TheVariants as calls
use Rattle.model.specs.declared.families.container.calls.ContainerFlight.TheVariants as under_way
use Rattle.model.specs.declared.families.container.calls.LookOf.{LookOf}
use Rattle.model.specs.declared.families.container.calls.LookOf.TheVariants.{GetState, UpdateState}
use Rattle.model.specs.declared.turn.Kind.TheVariants as kinds
use Rattle.model.specs.declared.turn.Turn.TheVariants.{Begin}
use Rattle.model.specs.Coding.{Coding, IsCoding}
use Rattle.model.specs.Families.{first_of, kept_after_begin}
use Rattle.model.specs.Families.Container.Calls.{first}
use Rattle.model.specs.Families.Container.Opening.{opening_words, names_owner, kept_rows}
use Rattle.model.specs.Families.Container.States.{state_of, with_state, fresh}
use Rattle.model.specs.Refusals.{refusal_of}
use Rattle.model.specs.Rows.{first_row}
use Rattle.model.specs.Turns.{IsReached}
use Rattle.model.specs.World.{Trace, capacity_error}
use Rattle.model.proofs.Rows.{passes, may_begin}
use Rattle.plain.specs.Contents as contents
use Rattle.plain.specs.Contents.{contents_in, IsFilled, Holds}
use Rattle.plain.specs.States.{snapshot_of}
use Rattle.plain.proofs.Elements.Filled.{filled_opened}
use Rattle.plain.proofs.Elements.Opens.{opens_so}
use Rattle.headline_whole.specs.Objects.{view_of}
use Rattle.headline_whole.proofs.Courses.{IsMadeSo, Rules}
use Rattle.headline_whole.proofs.Looks.{start_of, views_in, AllRight, Looking, begins_fresh, begins_on}
use Rattle.headline_whole.proofs.Maps.{map_in, admitted}
use Rattle.headline_whole.proofs.MapQuestions.{every}
use Rattle.headline_whole.proofs.Owners.{named_if}
use Rattle.headline_whole.proofs.Containers.{states_in, states_stay, map_course, seen, Begun, holding, goes, decides, stays}

module _ {T : Type 0} (code : Coding T) (coded : IsCoding code) (capacity : ℕ) where
  -- ---- a call begins

  module _ (p : ℕ) (words : List ℕ) (h : Holds code.value_of code.size capacity 0 words) (dead : List ℕ) (states : List (ℕ × ContainerState T))
      (right : AllRight code coded capacity states) where
    -- The call of party p has just begun on these words, with what the machine keeps after the begin.
    abbrev BegunAt : ContainerStart T → Type 0
    BegunAt start =
        Begun code coded capacity (seen code coded capacity words (views_in states)) p (starts.Container start) []
        (flights.Container (first capacity start)) words
        (kept_after_begin code capacity (starts.Container start) p (registries.Container dead states))

    -- an update of a state begins, whether its party has a state or gets a new one
    begins_update : (o : Option (ContainerState T)) → state_of p states ≡ o
        → Looking code coded capacity words h (views_in states) p UpdateState (first_look capacity) words
        (if is_some o then states else with_state p (fresh code capacity) states)
    begins_update None found =
        begins_fresh code coded capacity words h (views_in states) p UpdateState states
        (ap (λ o. view_of (map_in code capacity words) (option_map snapshot_of o)) found) right (λ q. refl)
    begins_update (Some state) found = begins_on code coded capacity words h (views_in states) p states state found right (λ q. refl)

    -- a look that is under way at its first stage has begun
    begun_looking : (which : LookOf) (left : List (ℕ × ContainerState T))
        → Looking code coded capacity words h (views_in states) p which (first_look capacity) words left
        → Begun code coded capacity (seen code coded capacity words (views_in states)) p
        (starts.Container (start_of which)) [] (flights.Container (under_way.Look which (first_look capacity))) words
        (registries.Container dead left)
    begun_looking which left looking =
        record {
          first_words = words;
          views = views_in states;
          is = refl;
          holds = h;
          under = inr (record {
            which = which;
            call = first_look capacity;
            dead = dead;
            states = left;
            start_is = refl;
            told_is = refl;
            flight_is = refl;
            kept_is = refl;
            looking = looking;
          });
        }

    -- each call that names an owner as it may begins on words that hold a container
    begun_at : (start : ContainerStart T) → names_owner start ≡ true → BegunAt start
    begun_at calls.GetState names =
        begun_looking GetState (with_state p (fresh code capacity) states)
        (begins_fresh code coded capacity words h (views_in states) p GetState states refl right (λ q. refl))
    begun_at calls.UpdateState names =
        begun_looking UpdateState (if is_some (state_of p states) then states else with_state p (fresh code capacity) states)
        (begins_update (state_of p states) refl)
    begun_at start names =
        let talk = every code capacity coded (views_in states) p words h start tt names in
        record {
          first_words = words;
          views = views_in states;
          is = refl;
          holds = h;
          under = inl (record {
            agrees = tt;
            most = talk.0;
            talks = talk.1;
            right = right;
            same = λ q. refl;
            still = λ s view. refl;
          });
        }

  -- Each call of a container that its tests let begin begins as `Begun` says.
  begun_on : (p : ℕ) (start : ContainerStart T) (kept : Registry T) (words : List ℕ) → Holds code.value_of code.size capacity 0 words
      → AllRight code coded capacity (states_in kept) → names_owner start ≡ true → first_row (kept_rows start kept p) ≡ None
      → Begun code coded capacity (seen code coded capacity words (views_in (states_in kept))) p
      (starts.Container start) [] (flights.Container (first capacity start)) words
      (kept_after_begin code capacity (starts.Container start) p kept)
  begun_on p start (registries.Container dead states) words all_kept right names rows = begun_at p words all_kept dead states right start names
  begun_on p start kept words all_kept right names rows = absurd (cc)

  -- each call that a container does not refuse begins so
  begins : (t : Trace T) (p : ℕ) (start : Start T) (flight : Flight T) → IsReached t → IsMadeSo code kinds.Container capacity t
      → refusal_of t.world (Begin p start) ≡ None
      → Holds code.value_of code.size capacity 0 t.world.words × AllRight code coded capacity (states_in t.world.kept)
      → first_of kinds.Container capacity start t.world.kept ≡ Some flight
      → Begun code coded capacity (seen code coded capacity t.world.words (views_in (states_in t.world.kept))) p start [] flight t.world.words
      (kept_after_begin t.world.coding t.world.capacity start p t.world.kept)
  begins t p (starts.Container start) flight reached made free holds named =
      let first_flight = named_if flights.Container (first capacity start) flight (names_owner start) named in
      subst (λ (x : Flight T × Coding T × ℕ).
      Begun code coded capacity (seen code coded capacity t.world.words (views_in (states_in t.world.kept))) p (starts.Container start) [] x.0 t.world.words
      (kept_after_begin x.1 x.2 (starts.Container start) p t.world.kept))
      (λ i. (first_flight.1 i, sym made.coding i, sym made.capacity i))
      (begun_on p start t.world.kept t.world.words holds.0 holds.1 first_flight.0
      (may_begin t.world p (starts.Container start) (passes t.world (Begin p (starts.Container start)) free).on).rows)
  begins t p start flight reached made free holds named = absurd (cc)

  -- ---- the rules

  -- The words of a container at its opening hold the map without entries.
  opening_map : contents_in code.value_of code.size capacity 0 (opening_words code.size capacity) ≡ contents.opened capacity 0
  opening_map =
      let one_more : suc capacity ≡ 1 + capacity = omega arith in
      opens_so code.value_of code.size capacity 0 (replicate {A = ℕ} (suc capacity) empty) (opening_words code.size capacity)
      (1 + capacity + code.size * capacity) (ap (λ n. replicate {A = ℕ} n empty) one_more) refl

  -- A missing state is not the state `x`, so anything follows.
  no_state : {A : Type 0} (x : ContainerState T) → ◌≡◌ {A = Option (ContainerState T)} None (Some x) → A
  no_state x e = absurd (cc)

  -- the calls of a container keep to the rules of a map
  pub rules : capacity_error kinds.Container capacity ≡ None
      → Rules (map_course code coded capacity) (holding code coded capacity) code kinds.Container capacity
  rules may =
      let some = (admitted capacity may).0 in
      let few = (admitted capacity may).1 in
      let cells = length-replicate {A = ℕ} capacity empty in
      let rest = length-replicate {A = ℕ} (1 + capacity + code.size * capacity) 0 in
      let both = length-append (replicate {A = ℕ} capacity empty) (replicate {A = ℕ} (1 + capacity + code.size * capacity) 0) in
      record {
        later = λ m n words kept less h. h;
        opens = λ queue. (
          (
            record { long = omega arith; some = some; few = few; small = omega arith },
            subst IsFilled (sym opening_map) (filled_opened capacity 0),
          ),
          λ q x e. no_state x e,
        );
        mourns = λ turns words kept owner h. (
          (h.0, subst (AllRight code coded capacity) (sym (states_stay kept owner)) h.1),
          λ i. record { contents = map_in code capacity words; views = views_in (states_stay kept owner i) },
        );
        stays = λ s turns p start told flight words kept owner u. stays code coded capacity s p start told flight words kept owner u;
        begins = begins;
        goes = goes code coded capacity;
        decides = decides code coded capacity;
        first = λ queue. record { legal = refl; stands = λ i. record { contents = sym opening_map i; views = λ q. None } };
      }

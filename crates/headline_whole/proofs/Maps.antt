-- The calls of a container that are no look and ask about no value, run whole, are those of a map from index to owner and value.
use Rattle.std.proofs.Common.{◌≡◌, ℕ, ◌^◌, ◌<◌, ◌≤◌, Option, None, Ok, Err, List, []}
use Rattle.std.proofs.Common.{map, refl, ap, ◌∙◌, arith}
use Rattle.steps.specs.Container.Add.{Added, add_want, add_after}
use Rattle.steps.specs.Container.Remove.{remove_want, remove_after}
use Rattle.steps.specs.Container.Replace.{replace_want, replace_after}
use Rattle.steps.specs.Indices.Robust.Looks.{first_borrowed, borrowed_want, borrowed_after, locked_after}
use Rattle.steps.specs.Indices.Robust.Parts.{empty}
use Rattle.steps.specs.Queues.Ring.{load}
use Rattle.steps.specs.declared.container.add.Owned.{Owned as Adding}
use Rattle.steps.specs.declared.indices.enums.ReleaseMode.{ReleaseMode}
use Rattle.steps.specs.declared.indices.robust.looks.BorrowedIndices.{BorrowedIndices}
use Rattle.steps.specs.declared.indices.robust.looks.IsLocked.{IsLocked}
use Rattle.model.specs.declared.event.Answer.{Answer}
use Rattle.model.specs.declared.event.Answer.TheVariants as answers
use Rattle.model.specs.declared.event.Start.{Start}
use Rattle.model.specs.declared.event.Start.TheVariants as starts
use Rattle.model.specs.declared.families.Flight.TheVariants as flights
use Rattle.model.specs.declared.families.container.ContainerStart.{ContainerStart}
use Rattle.model.specs.declared.families.container.ContainerStart.TheVariants as calls
use Rattle.model.specs.declared.families.container.calls.ContainerFlight.TheVariants as under_way
use Rattle.model.specs.declared.families.container.calls.CountOf.{CountOf}
use Rattle.model.specs.declared.turn.Kind.TheVariants as kinds
use Rattle.model.specs.Coding.{Coding, IsCoding}
use Rattle.model.specs.Families.Container.Calls.{first, place_of, added, removed, replaced, counted}
use Rattle.model.specs.World.{capacity_error}
use Rattle.plain.specs.Contents as contents
use Rattle.plain.specs.Contents.{Contents, contents_in, Holds}
use Rattle.plain.specs.States.{Snapshot}
use Rattle.plain.proofs.Elements.Adds as adds
use Rattle.plain.proofs.Elements.Adds.{add_at}
use Rattle.plain.proofs.Elements.Filled.{still, values_long, filled_add, filled_counted, filled_remove, filled_replace}
use Rattle.plain.proofs.Elements.Looks.{count_at, look_at}
use Rattle.plain.proofs.Elements.Removes.{remove_at}
use Rattle.plain.proofs.Elements.Replaces.{replace_at}
use Rattle.plain.proofs.Elements.Values.{Codes}
use Rattle.headline_whole.specs.Dialogues.{Decision, as_request, as_reply}
use Rattle.headline_whole.specs.Objects.{handle_to, add_answer, map_after, map_answer, whole_map}
use Rattle.headline_whole.proofs.Flights.{FlightRuns, family_runs}
use Rattle.headline_whole.proofs.Decisions.{yes_of}

-- A container opens with a capacity from 1 to 2 ^ 32 - 1.
pub admitted : (c : ℕ) → capacity_error kinds.Container c ≡ None → (1 ≤ c) × (c < 2 ^ 32)
admitted = grind arith

-- How a machine's coding stores values, as the calls of `plain` take it.
abbrev pub codes_of : {T : Type 0} (code : Coding T) → IsCoding code → Codes T
codes_of code coded =
    record {
      words_of = code.words_of;
      value_of = code.value_of;
      size = code.size;
      sized = coded.sized;
      given_back = coded.given_back;
      some = coded.some;
      wide = coded.few;
    }

module _ {T : Type 0} (code : Coding T) (capacity : ℕ) where
  -- The map from index to owner and value that these words of a container hold.
  abbrev pub map_in : List ℕ → Contents T
  map_in words = contents_in code.value_of code.size capacity 0 words

  -- the call `start`, which puts no question, of a party whose state shows `view`, began on `words`, and has given `answer` and left `last`
  pub record Answers (words : List ℕ) (view : Option (Snapshot T)) (start : ContainerStart T) (answer : Answer T) (last : List ℕ) : Type 0 where
    pub said : answer ≡ map_answer capacity (map_in words) view (starts.Container start) []
    pub holds : Holds code.value_of code.size capacity 0 last
    -- the answer is the one of a map that the call found so
    pub object : map_in last ≡ map_after capacity (map_in words) (starts.Container start) []

  -- the call `start` of party `p` began on `words`, where the states of the parties show `views`, was told `told`, and has given
  -- `answer` and left `last`
  pub record EndsAsMap (words : List ℕ) (views : ℕ → Option (Snapshot T)) (p : ℕ) (start : Start T) (told : List (Decision T)) (answer : Answer T)
      (last : List ℕ) : Type 0 where
    pub said : as_reply told answer
        ≡ (whole_map capacity).reply (record { contents = map_in words; views = views }) (as_request p start told)
    pub holds : Holds code.value_of code.size capacity 0 last
    pub object : map_in last ≡ map_after capacity (map_in words) start (map yes_of told)

  -- ---- each call

  module _ (coded : IsCoding code) (views : ℕ → Option (Snapshot T)) (p : ℕ) (words : List ℕ)
      (h : Holds code.value_of code.size capacity 0 words) where
    -- how values are stored
    abbrev codes : Codes T
    codes = codes_of code coded

    -- The call of the container, run alone from these words, answers and leaves what the map does.
    abbrev pub RunsAsMap : ContainerStart T → Type 0
    RunsAsMap start = FlightRuns code (Answers words (views p) start) (flights.Container (first capacity start)) words

    module _ (value : T) (owner : ℕ) (lives : owner < empty) where
      abbrev given : Adding T
      given = record { value = value; owner = owner }

      -- An add of the machine answers what an add of the sequential form answers.
      say_added : (e : Added)
          → added {T = T} e ≡ add_answer (adds.handle_of codes capacity 0 given e)
      say_added (Ok index) = refl
      say_added (Err failure) = refl

      -- an add, run alone, answers and leaves what the map does
      pub adds_one : RunsAsMap (calls.Add value owner)
      adds_one =
          family_runs code
          (record {
            want = add_want code.words_of code.size;
            after = λ c given old. add_after code.size c old;
            given = given;
            outer = flights.Container;
            wrap = under_way.Add;
            answer = added;
            wants = λ c room. refl;
            goes = λ c room old. refl;
          })
          (add_at codes capacity 0 given refl lives refl h.0)
          (λ e room last p.
          let still_stands = still code.value_of code.size capacity 0 (λ (s : Contents T). contents.added s owner) (λ s. contents.after_add s owner value) words
          (filled_add owner value (contents_in code.value_of code.size capacity 0 words) (values_long code.value_of 0 h.0) h.1) p in
          record { said = say_added e ∙ ap add_answer still_stands.1; holds = still_stands.0; object = still_stands.2 })

    -- a remove, run alone, answers and leaves what the map does
    pub removes_one : (index owner : ℕ) (mode : ReleaseMode) → owner < empty → RunsAsMap (calls.Remove index owner mode)
    removes_one index owner mode lives =
        family_runs code
        (record {
          want = remove_want;
          after = remove_after;
          given = record { index = place_of capacity index; owner = owner; mode = mode };
          outer = flights.Container;
          wrap = under_way.Remove;
          answer = removed;
          wants = λ c room. refl;
          goes = λ c room old. refl;
        })
        (remove_at codes capacity 0 (record { index = place_of capacity index; owner = owner; mode = mode }) refl lives refl h.0)
        (λ e room last p.
        let still_stands = still code.value_of code.size capacity 0 (λ (s : Contents T). contents.removed s (handle_to capacity index owner) mode)
        (λ s. contents.after_remove s (handle_to capacity index owner) mode) words
        (filled_remove (handle_to capacity index owner) mode (contents_in code.value_of code.size capacity 0 words) h.1) p in
        record { said = ap removed still_stands.1; holds = still_stands.0; object = still_stands.2 })

    -- a replace, run alone, answers and leaves what the map does
    pub replaces_one : (index : ℕ) (value : T) (owner : ℕ) → owner < empty → RunsAsMap (calls.Replace index value owner)
    replaces_one index value owner lives =
        family_runs code
        (record {
          want = replace_want code.words_of code.size;
          after = replace_after code.size;
          given = record { index = place_of capacity index; owner = owner; value = value };
          outer = flights.Container;
          wrap = under_way.Replace;
          answer = replaced;
          wants = λ c room. refl;
          goes = λ c room old. refl;
        })
        (replace_at codes capacity 0 (record { index = place_of capacity index; owner = owner; value = value }) refl lives refl h.0)
        (λ e room last p.
        let still_stands = still code.value_of code.size capacity 0 (λ (s : Contents T). contents.replaced s (handle_to capacity index owner))
        (λ s. contents.after_replace s (handle_to capacity index owner) value) words
        (filled_replace (handle_to capacity index owner) value (contents_in code.value_of code.size capacity 0 words) h.1) p in
        record { said = ap replaced still_stands.1; holds = still_stands.0; object = still_stands.2 })

    -- a call that counts the indices in use, run alone, answers by their number, and leaves what the map does
    pub counts_so : (which : CountOf) (start : ContainerStart T)
        → ((e : ℕ) (last : List ℕ) → e ≡ contents.number (map_in words) → Holds code.value_of code.size capacity 0 last
        → map_in last ≡ contents.counted (map_in words) → Answers words (views p) start (counted which e) last)
        → FlightRuns code (Answers words (views p) start)
        (flights.Container (under_way.Count which (record { call = first_borrowed capacity; given = tt; room = tt }))) words
    counts_so which start so =
        family_runs code
        (record {
          want = λ (c : BorrowedIndices) (given : Unit {0}). borrowed_want c;
          after = λ c given old. borrowed_after c old;
          given = tt;
          outer = flights.Container;
          wrap = under_way.Count which;
          answer = counted which;
          wants = λ c room. refl;
          goes = λ c room old. refl;
        })
        (count_at code.value_of code.size capacity 0 refl h.0)
        (λ e room last p.
        let still_stands = still code.value_of code.size capacity 0 (contents.number {V = T}) (contents.counted {V = T}) words
        (filled_counted (contents_in code.value_of code.size capacity 0 words) h.1) p in
        so e last still_stands.1 still_stands.0 still_stands.2)

    -- a look whether the container is locked, run alone, answers and leaves what the map does
    pub looks : RunsAsMap calls.IsLocked
    looks =
        family_runs code
        (record {
          want = λ (c : IsLocked) (given : Unit {0}). load 0;
          after = λ c given old. locked_after c old;
          given = tt;
          outer = flights.Container;
          wrap = under_way.IsLocked;
          answer = answers.Truth;
          wants = λ c room. refl;
          goes = λ c room old. refl;
        })
        (look_at code.value_of code.size capacity 0 h.0)
        (λ e room last p.
        let still_stands = still code.value_of code.size capacity 0 (contents.is_locked {V = T}) (λ s. s) words h.1 p in
        record { said = ap answers.Truth still_stands.1; holds = still_stands.0; object = still_stands.2 })

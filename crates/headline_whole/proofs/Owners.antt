-- The calls of the robust index set, run whole, are those of a map from index to owner.
use Rattle.std.proofs.Common.{◌≡◌, ℕ, zero, suc, ◌+◌, ◌-◌, ◌^◌, ◌<◌, ◌≤◌, Bool, true, false, Some, None, option_map, List, [], ◌∷◌, ◌++◌}
use Rattle.std.proofs.Common.{map, nat_le, nat_lt, replicate, refl, sym, ap, subst, ◌∙◌, arith, if◌then◌else◌}
use Rattle.std.proofs.lemmas.Bool.Decides.{nat_tests}
use Rattle.std.proofs.lemmas.List.{length-replicate}
use Rattle.steps.specs.Indices.Robust.Acquire.{first_acquire, acquire_want, acquire_after}
use Rattle.steps.specs.Indices.Robust.Find.{first_find, find_want, find_after}
use Rattle.steps.specs.Indices.Robust.Looks.{first_borrowed, borrowed_want, borrowed_after, locked_after}
use Rattle.steps.specs.Indices.Robust.Parts.{empty}
use Rattle.steps.specs.Indices.Robust.Recover.{first_recover, recover_want, recover_after}
use Rattle.steps.specs.Indices.Robust.Release.{first_release, release_want, release_after}
use Rattle.steps.specs.Objects.Owners as objects
use Rattle.steps.specs.Objects.Owners.{Owners}
use Rattle.steps.specs.Queues.Ring.{load}
use Rattle.steps.specs.declared.ask.After.{After}
use Rattle.steps.specs.declared.ask.After.TheVariants.{GoOn, Done}
use Rattle.steps.specs.declared.ask.Question.{Question}
use Rattle.steps.specs.declared.ask.Question.TheVariants as questions
use Rattle.steps.specs.declared.ask.Want.TheVariants as wants
use Rattle.steps.specs.declared.enums.CallbackProgression.{CallbackProgression}
use Rattle.steps.specs.declared.indices.enums.ReleaseMode.{ReleaseMode}
use Rattle.steps.specs.declared.indices.enums.ReleaseState.{ReleaseState}
use Rattle.steps.specs.declared.indices.robust.find.Find.{Find}
use Rattle.steps.specs.declared.indices.robust.looks.BorrowedIndices.{BorrowedIndices}
use Rattle.steps.specs.declared.indices.robust.looks.IsLocked.{IsLocked}
use Rattle.steps.specs.declared.indices.robust.recover.Recover.{Recover}
use Rattle.model.specs.declared.event.Answer.{Answer}
use Rattle.model.specs.declared.event.Answer.TheVariants as answers
use Rattle.model.specs.declared.event.Start.{Start}
use Rattle.model.specs.declared.event.Start.TheVariants as starts
use Rattle.model.specs.declared.families.Flight.{Flight}
use Rattle.model.specs.declared.families.Flight.TheVariants as flights
use Rattle.model.specs.declared.families.Registry.{Registry}
use Rattle.model.specs.declared.families.Registry.TheVariants as registries
use Rattle.model.specs.declared.families.indices.robust.RobustStart.{RobustStart}
use Rattle.model.specs.declared.families.indices.robust.RobustStart.TheVariants as calls
use Rattle.model.specs.declared.families.indices.robust.calls.RobustFlight.TheVariants as under_way
use Rattle.model.specs.declared.turn.Kind.TheVariants as kinds
use Rattle.model.specs.declared.turn.Turn.TheVariants.{Begin}
use Rattle.model.specs.Coding.{Coding}
use Rattle.model.specs.Families.{first_of, kept_after_begin}
use Rattle.model.specs.Families.Indices.Robust.Calls.{first, acquire_answer, release_answer}
use Rattle.model.specs.Families.Indices.Robust.Opening.{names_owner, kept_rows}
use Rattle.model.specs.Families.Indices.Robust.Opening.{opening_words as robust_words}
use Rattle.model.specs.Refusals.{refusal_of}
use Rattle.model.specs.Rows.{first_row}
use Rattle.model.specs.Turns.{IsReached, number_of}
use Rattle.model.specs.World.{Trace, capacity_error}
use Rattle.model.proofs.Rows.{passes, may_begin, row_passed}
use Rattle.plain_queues.specs.declared.drive.Stop.TheVariants as stops
use Rattle.plain_queues.specs.Alone.{StopsAlike}
use Rattle.plain.specs.Callable.{HasFound, index_in}
use Rattle.plain.specs.Robust.{owner_in, owners_in, Represents}
use Rattle.plain.proofs.Robust.Acquires.{take_at}
use Rattle.plain.proofs.Robust.Finding as finding
use Rattle.plain.proofs.Robust.Looks.{borrowed_at, looked_at}
use Rattle.plain.proofs.Robust.Recovering as recovering
use Rattle.plain.proofs.Robust.Releases.{give_at}
use Rattle.headline_whole.specs.Dialogues.{Decision, decided_at}
use Rattle.headline_whole.specs.Objects.{owners_after, owners_questions, owners_answer, owners_freed, whole_owners}
use Rattle.headline_whole.proofs.Agree.{Agree}
use Rattle.headline_whole.proofs.Courses.{Course, IsMadeSo, Rules}
use Rattle.headline_whole.proofs.Flights.{FlightRuns, AsFlight, Talks, talks_once, family_flight, family_runs}
use Rattle.headline_whole.proofs.Replies.{course}
use Rattle.headline_whole.proofs.SoloCalls.{Speech, EndsAsObject, Speaks, talking, talk_rules}
use Rattle.headline_whole.proofs.Talking.{Standing, LeadsTo, Hears, talks_all}
use Rattle.headline_whole.proofs.Decisions.{goes_on, progression, same_decision, same_number, yes_number, yes_of, decision, found_so, asked_so}

-- A robust index set opens with a capacity from 1 to 2 ^ 32 - 1.
pub admitted : (c : ℕ) → capacity_error kinds.Robust c ≡ None → (1 ≤ c) × (c < 2 ^ 32)
admitted = grind arith

pub below : (a b : ℕ) → nat_lt a b ≡ true → a < b
below a b test = grind (arith, nat_tests)

pub not_past : (a b : ℕ) → nat_le a b ≡ false → b < a
not_past a b test = grind (arith, nat_tests)

-- Cells that are all empty have no owners.
no_owner : (n : ℕ) → map owner_in (replicate n empty) ≡ replicate n None
no_owner zero = refl
no_owner (suc n) = λ i. None ∷ no_owner n i

-- Where a call begins only if `b` is true, and some call has begun, `b` is true and that call
-- is the one that begins.
pub named_if : {F C : Type 0} (outer : C → F) (call : C) (flight : F) (b : Bool)
    → option_map outer (if b then Some call else None) ≡ Some flight → (b ≡ true) × (outer call ≡ flight)
named_if outer call flight true named_is = (refl, cc)
named_if outer call flight false named_is = absurd (cc)

module _ {T : Type 0} where
  -- The course of a robust set: the map from index to owner.
  abbrev pub robust_course : ℕ → Course T
  robust_course capacity = course (whole_owners {T = T} capacity)

  -- How the words of a robust set hold its object, the map from index to owner, whatever the
  -- number of turns.
  abbrev pub robust_speech : (capacity : ℕ) → Speech (robust_course capacity)
  robust_speech capacity = record { Holds = λ turns words. Represents capacity words; read = owners_in }

  -- the call `start`, which puts no question, began on `words`, and has given `answer` and left `last`
  pub record Answers (capacity : ℕ) (words : List ℕ) (start : RobustStart) (answer : Answer T) (last : List ℕ) : Type 0 where
    pub said : answer ≡ owners_answer (owners_in words) (starts.Robust start) []
    pub holds : Represents capacity last
    pub object : owners_in last ≡ owners_after {T = T} (owners_in words) (starts.Robust start) []

  -- ---- each call

  module _ (code : Coding T) (capacity turns p : ℕ) (words : List ℕ) (fits : Represents capacity words) where
    -- The call of the robust set, run alone from these words, answers and leaves what the map does.
    abbrev RunsAsMap : RobustStart → Type 0
    RunsAsMap start = FlightRuns code (Answers capacity words start) (flights.Robust (first capacity start)) words

    -- What holds of a robust set's call that has ended: its answer and the words that it leaves
    -- are those of the map.
    abbrev EndsRight : RobustStart → List (Decision T) → Answer T → List ℕ → Type 0
    EndsRight start told answer last =
        EndsAsObject (robust_course capacity) (robust_speech capacity) code (owners_in words) turns p (starts.Robust start) told answer last

    -- The call, alone from these words, says what the map says, with finitely many questions.
    abbrev SaysAsMap : RobustStart → Type 0
    SaysAsMap start = (n : ℕ) × Talks code (EndsRight start) n [] (flights.Robust (first capacity start)) words

    -- a call that puts no question says, alone, what the map says
    speaks : (start : RobustStart) → owners_questions {T = T} (owners_in words) (starts.Robust start) [] ≡ [] → RunsAsMap start → SaysAsMap start
    speaks start none whole = (
      1,
      talks_once code (EndsRight start) (Answers capacity words start) [] (flights.Robust (first capacity start)) words
          (λ answer last h. ((λ i. record { questions = sym none i; answer = h.said i }), h.holds, h.object)) whole,
    )

    -- an acquire, run alone, answers and leaves what the map does
    acquires : (owner : ℕ) → owner < empty → RunsAsMap (calls.Acquire owner)
    acquires owner lives =
        family_runs code
        (record {
          want = acquire_want;
          after = λ c given old. acquire_after c old;
          given = owner;
          outer = flights.Robust;
          wrap = under_way.Acquire;
          answer = acquire_answer;
          wants = λ c room. refl;
          goes = λ c room old. refl;
        })
        (take_at capacity owner owner refl lives (first_acquire capacity) refl words fits)
        (λ e room last h. record { said = ap acquire_answer h.1; holds = h.0; object = h.2 })

    -- a release, run alone, answers and leaves what the map does
    releases : (index owner : ℕ) (mode : ReleaseMode) → owner < empty → index < capacity → RunsAsMap (calls.Release index owner mode)
    releases index owner mode lives low =
        family_runs code
        (record {
          want = release_want;
          after = release_after;
          given = record { index = index; owner = owner; mode = mode };
          outer = flights.Robust;
          wrap = under_way.Release;
          answer = release_answer;
          wants = λ c room. refl;
          goes = λ c room old. refl;
        })
        (give_at capacity index owner mode owner refl lives (first_release capacity) refl words fits low)
        (λ e room last h. record { said = ap release_answer h.1; holds = h.0; object = h.2 })

    -- a count of the indices in use, run alone, answers and leaves what the map does
    counts : RunsAsMap calls.BorrowedIndices
    counts =
        family_runs code
        (record {
          want = λ (c : BorrowedIndices) (given : Unit {0}). borrowed_want c;
          after = λ c given old. borrowed_after c old;
          given = tt;
          outer = flights.Robust;
          wrap = under_way.BorrowedIndices;
          answer = answers.Number;
          wants = λ c room. refl;
          goes = λ c room old. refl;
        })
        (borrowed_at capacity (first_borrowed capacity) refl words fits)
        (λ e room last h. record { said = ap answers.Number h.1; holds = h.0; object = h.2 })

    -- a look whether the set is locked, run alone, answers and leaves what the map does
    looks : RunsAsMap calls.IsLocked
    looks =
        family_runs code
        (record {
          want = λ (c : IsLocked) (given : Unit {0}). load 0;
          after = λ c given old. locked_after c old;
          given = tt;
          outer = flights.Robust;
          wrap = under_way.IsLocked;
          answer = answers.Truth;
          wants = λ c room. refl;
          goes = λ c room old. refl;
        })
        (looked_at capacity (record {}) words fits)
        (λ e room last h. record { said = ap answers.Truth h.1; holds = h.0; object = h.2 })

    -- ---- a find

    module _ (owner : ℕ) (lives : owner < empty) where
      -- The decisions after a find has asked about an index (`q`) are those before (`p`) and the
      -- one on that index.
      abbrev finds : List (Decision T) → ℕ → CallbackProgression → List (Decision T) → Type 0
      finds p index said q = q ≡ p ++ decision (questions.Index index) (goes_on said) ∷ []

      -- a find over these words with that closure, which has decided nothing yet
      abbrev find_case : finding.FindCase (List (Decision T))
      find_case = record { capacity = capacity; owner = owner; words = words; step = finds; first = [] }

      -- The find, alone, has gone through `done` of its owner's indices, as `Searching` says.
      abbrev Searches : ℕ → Standing T Find (Unit {0}) → Type 0
      Searches done z = finding.Searching find_case done z.call z.told z.words

      -- each step of the machine's find is a step of the find of `steps`
      abbrev find_is : AsFlight code Find ℕ (Unit {0}) ℕ
      find_is =
          family_flight code
          (record {
            want = λ c given. find_want c;
            after = find_after;
            given = owner;
            outer = flights.Robust;
            wrap = under_way.Find;
            answer = answers.Number;
            wants = λ c room. refl;
            goes = λ c room old. refl;
          })

      -- a find that has come to its end says what the map says, if it has left the words
      found : (told : List (Decision T)) (n : ℕ) (last : List ℕ) → HasFound finds (objects.indices_of (owners_in words) owner) [] n told
          → last ≡ words → EndsRight (calls.Find owner) told (answers.Number n) last
      found told n last has_found same =
          let was = found_so questions.Index finds (λ p index said q e. e) (objects.indices_of (owners_in words) owner) n told has_found in (
            (λ i. record { questions = was.asked i; answer = answers.Number (was.number i) }),
            subst (Represents capacity) (sym same) fits,
            ap owners_in same,
          )

      -- after an answer to its question a find goes on, or it has ended with the number that the map gives
      leads_find : (done : ℕ) (a : After Find ℕ) (room : Unit {0}) (told : List (Decision T)) (last : List ℕ)
          → finding.Further find_case done a told last → LeadsTo code find_is (EndsRight (calls.Find owner)) (Searches done) a room told last
      leads_find done (GoOn d) room told last further = further
      leads_find done (Done n) room told last further = found told n last further.0 further.1

      -- a find that asks about an index hears each decision on it, and goes on or ends as the map says
      find_hears : (done : ℕ) (z : Standing T Find (Unit {0})) → Searches done z → (question : Question (Unit {0})) (put : Find) (room : Unit {0})
          (last : List ℕ)
          → StopsAlike find_is.want find_after find_is.kept owner z.call z.room z.words (stops.Asked question put) room last
          → (said : Bool) → Hears code find_is (EndsRight (calls.Find owner)) (Searches (done + 1)) z.told put room last said
      find_hears done z searches question put room last alone said =
          let stop_is = finding.asked searches alone in
          let asks : find_want put ≡ wants.Question (questions.Index (index_in question)) =
          ap find_want stop_is.stands ∙ ap (λ q. wants.Question (questions.Index (index_in q))) (sym stop_is.asks) in
          let later : List (Decision T) = z.told ++ decision (questions.Index (index_in question)) said ∷ [] in
          record {
            later = later;
            told_is = ap (λ w. z.told ++ decided_at {T = T} None w said) asks;
            leads_to = leads_find (done + 1) (find_after put owner (number_of said)) room later last
                (finding.further_so searches alone refl (progression said) later
                (ap (λ b. z.told ++ decision (questions.Index (index_in question)) b ∷ []) (sym (same_decision said)))
                (same_number said) refl);
          }

      -- a find, alone, says what the map says
      finds_all : SaysAsMap (calls.Find owner)
      finds_all =
          talks_all code find_is (EndsRight (calls.Find owner))
          (record {
            Under = Searches;
            low = λ c. tt;
            few = λ done z searches. finding.few_rounds searches;
            can_stop = λ done z searches. finding.can_go searches;
            ended = λ done z searches n room last alone. let end = finding.ended_so searches alone in found z.told n last end.0 end.1;
            asked = find_hears;
          })
          (record { call = first_find capacity; room = tt; told = []; words = words })
          (finding.starts find_case (first_find capacity) refl fits lives)

    -- ---- a recovery

    module _ (mode : ReleaseMode) where
      -- The decisions after a recovery has asked about an index (`q`) are those before (`p`) and
      -- the one on that index.
      abbrev asks : List (Decision T) → ℕ → ℕ → Bool → List (Decision T) → Type 0
      asks p owner index said q = q ≡ p ++ decision (questions.Owned owner index) said ∷ []

      abbrev tells : Unit {0} → ℕ → ℕ → Unit {0} → Type 0
      tells p owner index q = Unit {0}

      -- a recovery over these words with those closures, which have decided nothing yet
      abbrev recover_case : recovering.RecoverCase (List (Decision T)) (Unit {0})
      recover_case = record { mode = mode; capacity = capacity; words = words; step = asks; answering = []; tell = tells; hearing = tt }

      -- The recovery, alone, has gone through `done` of the taken indices, as `Recovering` says.
      abbrev Recovers : ℕ → Standing T Recover (Unit {0}) → Type 0
      Recovers done z = recovering.Recovering recover_case done z.call z.told tt z.words

      -- each step of the machine's recovery is a step of the recovery of `steps`
      abbrev recover_is : AsFlight code Recover ReleaseMode (Unit {0}) ReleaseState
      recover_is =
          family_flight code
          (record {
            want = λ c given. recover_want c;
            after = recover_after;
            given = mode;
            outer = flights.Robust;
            wrap = under_way.Recover;
            answer = answers.State;
            wants = λ c room. refl;
            goes = λ c room old. refl;
          })

      -- a recovery that has come to its end says what the map says
      gone : (told : List (Decision T)) (state : ReleaseState) (last : List ℕ) → recovering.Gone recover_case state told tt last
          → EndsRight (calls.Recover mode) told (answers.State state) last
      gone told state last h =
          let was = asked_so (objects.to_recover (owners_in words)) (λ o. questions.Owned o.owner o.index)
          (λ p a q. asks p a.of.owner a.of.index a.yes q) (λ before a rest p q long is e. e) h.calls.asked told h.calls.all h.calls.answers in
          let is : owners_in last ≡ owners_freed (owners_in words) mode (map yes_of told) =
          h.calls.next ∙ ap (objects.recovered mode (owners_in words)) (sym was.agreed_are) in (
            (λ i. record { questions = was.questions_are i; answer = answers.State ((h.state_is ∙ ap objects.state_of is) i) }),
            h.fits,
            is,
          )

      -- after an answer to its question a recovery goes on
      leads_recover : (done : ℕ) (a : After Recover ReleaseState) (room : Unit {0}) (told : List (Decision T)) (last : List ℕ)
          → recovering.Onward recover_case done told tt a last → LeadsTo code recover_is (EndsRight (calls.Recover mode)) (Recovers done) a room told last
      leads_recover done (GoOn d) room told last onward = onward
      leads_recover done (Done state) room told last onward = absurd onward

      -- a recovery that asks about an index hears each decision on it, and goes on
      recover_hears : (done : ℕ) (z : Standing T Recover (Unit {0})) → Recovers done z → (question : Question (Unit {0})) (put : Recover)
          (room : Unit {0}) (last : List ℕ)
          → StopsAlike recover_is.want recover_after recover_is.kept mode z.call z.room z.words (stops.Asked question put) room last
          → (said : Bool) → Hears code recover_is (EndsRight (calls.Recover mode)) (Recovers (done + 1)) z.told put room last said
      recover_hears done z so_far question put room last alone said =
          let at = recovering.asks_so so_far alone in
          let later : List (Decision T) = z.told ++ decision (questions.Owned at.owner at.index) said ∷ [] in
          record {
            later = later;
            told_is = ap (λ c. z.told ++ decided_at {T = T} None (recover_want c) said) at.stands;
            leads_to = leads_recover (done + 1) (recover_after put mode (number_of said)) room later last
                (recovering.onward_so so_far at at.asks said later tt (record { called = refl; told = λ is. tt; passed = λ is. refl }) (yes_number said) refl);
          }

      -- a recovery, alone, says what the map says
      recovers_all : SaysAsMap (calls.Recover mode)
      recovers_all =
          talks_all code recover_is (EndsRight (calls.Recover mode))
          (record {
            Under = Recovers;
            low = λ c. tt;
            few = λ done z so_far. recovering.few_rounds fits so_far;
            can_stop = λ done z so_far. recovering.can_go so_far;
            ended = λ done z so_far state room last alone. gone z.told state last (recovering.ended_so so_far alone);
            asked = recover_hears;
          })
          (record { call = first_recover capacity; room = tt; told = []; words = words })
          (recovering.starts recover_case (first_recover capacity) refl fits)

  -- ---- the law

  -- A call of the robust set that is let begin is named as one of its family, and the machine
  -- keeps who has died.
  has_registry : (capacity p : ℕ) (start : RobustStart) (kept : Registry T) → first_row (kept_rows capacity start kept p) ≡ None
      → Agree (starts.Robust start) (flights.Robust (first capacity start)) kept
  has_registry capacity p start (registries.Owners dead) rows_passed = tt
  has_registry capacity p start kept rows_passed = absurd (cc)

  -- A release that is let begin names an index below the capacity.
  low_index : (capacity p index owner : ℕ) (mode : ReleaseMode) (kept : Registry T)
      → first_row (kept_rows capacity (calls.Release index owner mode) kept p) ≡ None → index < capacity
  low_index capacity p index owner mode (registries.Owners dead) rows_passed = let row = row_passed _ _ _ rows_passed in not_past capacity index row.0
  low_index capacity p index owner mode kept rows_passed = absurd (cc)

  module _ (code : Coding T) (capacity : ℕ) where
    -- each call that the set lets begin says, alone, what the map says
    begins : (t : Trace T) (p : ℕ) (start : Start T) (flight : Flight T) → IsReached t → IsMadeSo code kinds.Robust capacity t
        → refusal_of t.world (Begin p start) ≡ None → Represents capacity t.world.words
        → first_of kinds.Robust capacity start t.world.kept ≡ Some flight
        → Speaks (robust_course capacity) (robust_speech capacity) code (owners_in t.world.words) t.world.turns p start [] flight t.world.words
        (kept_after_begin t.world.coding t.world.capacity start p t.world.kept)
    begins t p (starts.Robust start) flight reached made free fits named =
        let first_flight = named_if flights.Robust (first capacity start) flight (names_owner start) named in
        let rows = subst (λ n. first_row (kept_rows n start t.world.kept p) ≡ None) made.capacity
        (may_begin t.world p (starts.Robust start) (passes t.world (Begin p (starts.Robust start)) free).on).rows in
        let talk = runs start first_flight.0 rows in
        subst (λ f. Speaks (robust_course capacity) (robust_speech capacity) code (owners_in t.world.words) t.world.turns p (starts.Robust start) [] f
        t.world.words t.world.kept)
        first_flight.1 (has_registry capacity p start t.world.kept rows, talk.0, talk.1)
      where
        -- it does, whichever call begins
        runs : (s : RobustStart) → names_owner s ≡ true → first_row (kept_rows capacity s t.world.kept p) ≡ None
            → SaysAsMap code capacity t.world.turns p t.world.words fits s
        runs (calls.Acquire owner) names rows =
            speaks code capacity t.world.turns p t.world.words fits (calls.Acquire owner) refl
            (acquires code capacity t.world.turns p t.world.words fits owner (below owner empty names))
        runs (calls.Release index owner mode) names rows =
            speaks code capacity t.world.turns p t.world.words fits (calls.Release index owner mode) refl
            (releases code capacity t.world.turns p t.world.words fits index owner mode (below owner empty names)
            (low_index capacity p index owner mode t.world.kept rows))
        runs (calls.Find owner) names rows = finds_all code capacity t.world.turns p t.world.words fits owner (below owner empty names)
        runs (calls.Recover mode) names rows = recovers_all code capacity t.world.turns p t.world.words fits mode
        runs calls.BorrowedIndices names rows =
            speaks code capacity t.world.turns p t.world.words fits calls.BorrowedIndices refl
            (counts code capacity t.world.turns p t.world.words fits)
        runs calls.IsLocked names rows =
            speaks code capacity t.world.turns p t.world.words fits calls.IsLocked refl
            (looks code capacity t.world.turns p t.world.words fits)
    begins t p start flight reached made free fits named = absurd (cc)

    opened_so : owners_in (robust_words capacity) ≡ objects.opened_at capacity 0
    opened_so = λ i. record { owners = no_owner capacity i; generation = 0 }

    -- the calls of a robust index set keep to the rules of a map from index to owner
    pub rules : capacity_error kinds.Robust capacity ≡ None
        → Rules (robust_course capacity) (talking (robust_course capacity) (robust_speech capacity) code) code kinds.Robust capacity
    rules may =
        let some = (admitted capacity may).0 in
        let few = (admitted capacity may).1 in
        let long = length-replicate {A = ℕ} capacity empty in
        talk_rules (robust_course capacity) (robust_speech capacity) code kinds.Robust capacity
        (record {
          later = λ m n words less h. h;
          opens = λ queue. record { long = omega arith; some = some; few = few; small = omega arith };
          first = λ queue. record { legal = refl; stands = sym opened_so };
          begins = begins;
        })

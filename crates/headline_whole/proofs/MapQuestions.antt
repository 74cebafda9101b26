-- The calls of a container that ask about values, a find and a recovery, run whole; and so each call that is no look.
use Rattle.std.proofs.Common.{◌≡◌, ℕ, ◌+◌, ◌-◌, ◌<◌, ◌≤◌, ◌==◌, Bool, true, Option, Some, List, [], ◌∷◌, ◌++◌}
use Rattle.std.proofs.Common.{length, map, slice_index, refl, sym, ap, subst, ◌∙◌, arith, length-append}
use Rattle.std.proofs.lemmas.List.{length-replicate}
use Rattle.steps.specs.Container.Find.{first_find, find_want, find_after, find_kept}
use Rattle.steps.specs.Container.Recover.{first_recover, recover_want, recover_after, recover_kept}
use Rattle.steps.specs.Indices.Robust.Parts.{empty}
use Rattle.steps.specs.Objects.Owners.{Owned, indices_of, state_of}
use Rattle.steps.specs.declared.ask.After.{After}
use Rattle.steps.specs.declared.ask.After.TheVariants.{GoOn, Done}
use Rattle.steps.specs.declared.ask.Question.{Question}
use Rattle.steps.specs.declared.ask.Question.TheVariants as questions
use Rattle.steps.specs.declared.ask.Want.{Want}
use Rattle.steps.specs.declared.ask.Want.TheVariants as wants
use Rattle.steps.specs.declared.container.find.Find.{Find}
use Rattle.steps.specs.declared.container.handle.ContainerHandle.{ContainerHandle}
use Rattle.steps.specs.declared.container.recover.DeadOwner.{DeadOwner}
use Rattle.steps.specs.declared.container.recover.Recover.{Recover}
use Rattle.steps.specs.declared.copied.Buffer.{Buffer}
use Rattle.steps.specs.declared.enums.CallbackProgression.{CallbackProgression}
use Rattle.steps.specs.declared.indices.enums.ReleaseMode.{ReleaseMode}
use Rattle.steps.specs.declared.indices.enums.ReleaseState.{ReleaseState}
use Rattle.model.specs.declared.event.Answer.{Answer}
use Rattle.model.specs.declared.event.Answer.TheVariants as answers
use Rattle.model.specs.declared.event.Start.TheVariants as starts
use Rattle.model.specs.declared.families.Flight.{Flight}
use Rattle.model.specs.declared.families.Flight.TheVariants as flights
use Rattle.model.specs.declared.families.container.ContainerStart.{ContainerStart}
use Rattle.model.specs.declared.families.container.ContainerStart.TheVariants as calls
use Rattle.model.specs.declared.families.container.calls.ContainerFlight.TheVariants as under_way
use Rattle.model.specs.declared.families.container.calls.CountOf.TheVariants as measures
use Rattle.model.specs.Coding.{Coding, IsCoding}
use Rattle.model.specs.Families.Container.Calls.{first}
use Rattle.model.specs.Families.Container.Opening.{names_owner}
use Rattle.model.specs.Families.Queues.Calls.{as_it_is, fresh_cell, kept_at, read_in}
use Rattle.model.specs.Turns.{number_of}
use Rattle.plain_queues.specs.declared.drive.Stop.TheVariants as stops
use Rattle.plain_queues.specs.Alone.{StopsAlike}
use Rattle.plain.specs.Callable.{HasFound, Asked, index_in}
use Rattle.plain.specs.Callable.{questions as asked_questions}
use Rattle.plain.specs.Contents.{Contents, Holds}
use Rattle.plain.specs.States.{Snapshot}
use Rattle.plain.specs.Visited.{Sees, to_ask, Says, all_freed, one_change}
use Rattle.plain.proofs.Elements.Finding as finding
use Rattle.plain.proofs.Elements.Finds.{Ready}
use Rattle.plain.proofs.Elements.Recovering as recovering
use Rattle.plain.proofs.Walks.{any_low}
use Rattle.plain_queues.proofs.Words.{buffer}
use Rattle.headline_whole.specs.Dialogues.{Decision, showing, decided_at}
use Rattle.headline_whole.specs.Objects.{about, map_freed, map_questions}
use Rattle.headline_whole.proofs.Agree.{IsNoLook}
use Rattle.headline_whole.proofs.Flights.{AsFlight, Talks, talks_once, twice}
use Rattle.headline_whole.proofs.Owners.{below}
use Rattle.headline_whole.proofs.Decisions.{goes_on, progression, same_decision, same_number, yes_number, yes_of, decision, folds_long, found_so, asked_so}
use Rattle.headline_whole.proofs.Talking.{Standing, LeadsTo, Hears, talks_all}
use Rattle.headline_whole.proofs.Maps.{map_in, Answers, EndsAsMap, RunsAsMap, adds_one, removes_one, replaces_one, counts_so, looks}

module _ {T : Type 0} (code : Coding T) (capacity : ℕ) where
  module _ (coded : IsCoding code) (views : ℕ → Option (Snapshot T)) (p : ℕ) (words : List ℕ)
      (h : Holds code.value_of code.size capacity 0 words) where
    -- What holds of a container's call that has ended: its answer and the words that it leaves are
    -- those of the map.
    abbrev EndsRight : ContainerStart T → List (Decision T) → Answer T → List ℕ → Type 0
    EndsRight start told answer last = EndsAsMap code capacity words views p (starts.Container start) told answer last

    -- The call, alone from these words, says what the map says, with finitely many questions.
    abbrev SaysAsMap : ContainerStart T → Type 0
    SaysAsMap start = (n : ℕ) × Talks code (EndsRight start) n [] (flights.Container (first capacity start)) words

    -- a call that puts no question says, alone, what the map says
    speaks : (start : ContainerStart T)
        → map_questions (map_in code capacity words) (starts.Container start) [] ≡ []
        → RunsAsMap code capacity coded views p words h start → SaysAsMap start
    speaks start none whole = (
      1,
      talks_once code (EndsRight start) (Answers code capacity words (views p) start) [] (flights.Container (first capacity start)) words
          (λ answer last h. record { said = λ i. record { questions = sym none i; answer = h.said i }; holds = h.holds; object = h.object }) whole,
    )

    -- ---- a find

    -- A value fits into the buffer.
    roomy : code.size ≤ length (buffer.words_in fresh_cell)
    roomy = let long = length-replicate {A = ℕ} 128 0 in let few = coded.few in omega arith

    -- These words are ready for a find or a recovery of the owner.
    ready : (owner : ℕ) → owner < empty → Ready code.value_of code.size capacity 0 owner words
    ready owner lives = record { some = coded.some; wide = coded.few; lives = lives; holds = h }

    module _ (owner : ℕ) (lives : owner < empty) where
      -- The decisions after a find has asked about a value (`q`) are those before (`p`) and the
      -- one on that value.
      abbrev finds : List (Decision T) → T → ContainerHandle → CallbackProgression → List (Decision T) → Type 0
      finds p value handle said q = q ≡ p ++ decision (questions.Value handle.index value) (goes_on said) ∷ []

      -- a find over these words with that closure, which has decided nothing yet
      abbrev find_case : finding.FindCase T (Buffer 128) (List (Decision T))
      find_case =
          record {
            value_of = code.value_of;
            as_room = buffer;
            size = code.size;
            capacity = capacity;
            container = 0;
            owner = owner;
            words = words;
            step = finds;
            first = [];
          }

      -- the decision about the value at the index
      abbrev sees : List (Decision T) → ℕ → CallbackProgression → List (Decision T) → Type 0
      sees p index said q = Sees finds (map_in code capacity words) owner p index said q

      -- The find as a call of the machine, with its buffer.
      abbrev find_flight : Find T (Buffer 128) → Buffer 128 → Flight T
      find_flight c room = flights.Container (under_way.Find (record { call = c; given = owner; room = room }))

      -- What the find wants of the machine next.
      abbrev wants_find : Find T (Buffer 128) → ℕ → Want (Unit {0})
      wants_find c _ = find_want code.size c

      -- each step of the machine's find is a step of the find of `steps`
      abbrev find_is : AsFlight code (Find T (Buffer 128)) ℕ (Buffer 128) ℕ
      find_is =
          record {
            want = wants_find;
            after = find_after code.size;
            kept = find_kept kept_at;
            given = owner;
            Low = λ c. Unit {0};
            flight = find_flight;
            answer = λ e room. answers.Number e;
            wants = λ c room low. refl;
            goes = λ c room old low.
                twice flights.Container under_way.Find answers.Number as_it_is owner (find_kept kept_at c room old) (find_after code.size c owner old);
            stays = λ c old low. any_low (find_after code.size c owner old);
          }

      -- What a find was told after one index more is what it was told before, and the decision
      -- about that index.
      seen_so : (p : List (Decision T)) (index : ℕ) (said : CallbackProgression) (q : List (Decision T)) → sees p index said q
          → q ≡ p ++ decision (about (map_in code capacity words) index) (goes_on said) ∷ []
      seen_so p index said q t =
          t.2 ∙ ap (λ (o : Option T). p ++ decision (showing o (questions.Value index tt)) (goes_on said) ∷ []) (sym t.1)

      -- a find that has come to its end says what the map says, if it has left the words
      found : (told : List (Decision T)) (n : ℕ) (last : List ℕ) → HasFound sees (indices_of (map_in code capacity words).owners owner) [] n told
          → last ≡ words → EndsRight (calls.Find owner) told (answers.Number n) last
      found told n last has_found same =
          let was = found_so (about (map_in code capacity words)) sees seen_so (indices_of (map_in code capacity words).owners owner) n told has_found in
          record {
            said = λ i. record { questions = was.asked i; answer = answers.Number (was.number i) };
            holds = subst (Holds code.value_of code.size capacity 0) (sym same) h;
            object = ap (map_in code capacity) same;
          }

      -- The find, alone, has gone through `done` of its owner's indices, as `Searching` says.
      abbrev Searches : ℕ → Standing T (Find T (Buffer 128)) (Buffer 128) → Type 0
      Searches done z = finding.Searching find_case done z.call z.room z.told z.words

      -- after an answer to its question a find goes on, or it has ended with the number that the map gives
      leads_find : (done : ℕ) (a : After (Find T (Buffer 128)) ℕ) (room : Buffer 128) (told : List (Decision T)) (last : List ℕ)
          → finding.Further find_case done a room told last → LeadsTo code find_is (EndsRight (calls.Find owner)) (Searches done) a room told last
      leads_find done (GoOn d) room told last further = further
      leads_find done (Done n) room told last further = found told n last further.0 further.1

      -- a find that asks about a value, at the index that its question names, hears each decision on it, and goes on or ends as the map says
      find_hears : (done : ℕ) (z : Standing T (Find T (Buffer 128)) (Buffer 128)) → Searches done z
          → (question : Question (Unit {0})) (put : Find T (Buffer 128)) (room : Buffer 128) (last : List ℕ)
          → StopsAlike wants_find (find_after code.size) (find_kept kept_at) owner z.call z.room z.words (stops.Asked question put) room last
          → (said : Bool) → Hears code find_is (EndsRight (calls.Find owner)) (Searches (done + 1)) z.told put room last said
      find_hears done z searches question put room last alone said =
          let stop_is = finding.asked searches alone in
          let asks : find_want code.size put ≡ wants.Question (questions.Value (index_in question) tt) =
          ap (find_want code.size) stop_is.stands ∙ ap (λ q. wants.Question (questions.Value (index_in q) tt)) (sym stop_is.asks) in
          let later : List (Decision T) = z.told ++ decision (questions.Value (index_in question) (read_in code room)) said ∷ [] in
          record {
            later = later;
            told_is = ap (λ w. z.told ++ decided_at (Some (read_in code room)) w said) asks;
            leads_to = leads_find (done + 1) (find_after code.size put owner (number_of said)) (find_kept kept_at put room (number_of said)) later last
                (finding.further_so searches alone refl refl (progression said) later
                (ap (λ b. z.told ++ decision (questions.Value (index_in question) (read_in code room)) b ∷ []) (sym (same_decision said)))
                (record { answer = number_of said; said = same_number said; goes = refl; keeps = refl }));
          }

      -- a find, alone, says what the map says
      finds_all : SaysAsMap (calls.Find owner)
      finds_all =
          talks_all code find_is (EndsRight (calls.Find owner))
          (record {
            Under = Searches;
            low = λ c. tt;
            few = λ done z searches. finding.few_rounds searches;
            can_stop = λ done z searches. finding.can_go searches;
            ended = λ done z searches n room last alone. let end = finding.ended_so searches alone in found z.told n last end.0 end.1;
            asked = find_hears;
          })
          (record { call = first_find capacity; room = fresh_cell; told = []; words = words })
          (finding.starts find_case (first_find capacity) refl fresh_cell roomy (ready owner lives))

    -- ---- a recovery

    module _ (owner : ℕ) (mode : ReleaseMode) (lives : owner < empty) where
      -- the index that the question of number `n` is about
      abbrev asked_at : ℕ → ℕ
      asked_at n = slice_index (map (λ (o : Owned). o.index) (to_ask (map_in code capacity words) owner)) n

      -- The decisions after a recovery has asked about a value (`q`) are those before (`p`) and
      -- the one on that value.
      abbrev asks : List (Decision T) → T → Bool → List (Decision T) → Type 0
      asks p value said q = q ≡ p ++ decision (questions.Value (asked_at (length p)) value) said ∷ []

      -- a recovery over these words with that closure, which has decided nothing yet
      abbrev recover_case : recovering.RecoverCase T (Buffer 128) (List (Decision T))
      recover_case =
          record {
            value_of = code.value_of;
            as_room = buffer;
            size = code.size;
            capacity = capacity;
            container = 0;
            owner = owner;
            mode = mode;
            words = words;
            step = asks;
            first = [];
          }

      -- the decision about the value that a question is about
      abbrev says : List (Decision T) → Asked → List (Decision T) → Type 0
      says p a q = Says asks (map_in code capacity words) p a.of.owner a.of.index a.yes q

      -- The dead owner of the recovery, and the mode that says whether it may lock.
      abbrev dead : DeadOwner
      dead = record { owner = owner; mode = mode }

      -- The recovery as a call of the machine, with its buffer.
      abbrev recover_flight : Recover T (Buffer 128) → Buffer 128 → Flight T
      recover_flight c room = flights.Container (under_way.Recover (record { call = c; given = record { owner = owner; mode = mode }; room = room }))

      -- each step of the machine's recovery is a step of the recovery of `steps`
      abbrev recover_is : AsFlight code (Recover T (Buffer 128)) DeadOwner (Buffer 128) ReleaseState
      recover_is =
          record {
            want = recover_want code.size;
            after = recover_after code.size;
            kept = recover_kept kept_at;
            given = dead;
            Low = λ c. Unit {0};
            flight = recover_flight;
            answer = λ e room. answers.State e;
            wants = λ c room low. refl;
            goes = λ c room old low.
                twice flights.Container under_way.Recover answers.State as_it_is dead (recover_kept kept_at c room old) (recover_after code.size c dead old);
            stays = λ c old low. any_low (recover_after code.size c dead old);
          }

      -- The question after those in `before` is about the index of the next one.
      in_place : (before : List Asked) (a : Asked) (rest : List Asked)
          → slice_index (map (λ (o : Owned). o.index) (asked_questions (before ++ a ∷ rest))) (length before) ≡ a.of.index
      in_place [] a rest = refl
      in_place (b ∷ before) a rest = in_place before a rest

      -- The question after those that were put is about the index of `o`, the first that is still to be asked about.
      placed : (before : List Asked) (o : Owned) (rest : List Owned)
          → slice_index (map (λ (o : Owned). o.index) (asked_questions before ++ o ∷ rest)) (length before) ≡ o.index
      placed [] o rest = refl
      placed (b ∷ before) o rest = placed before o rest

      -- what is written at a question of a recovery is the decision about the index that comes there
      said_so : (before : List Asked) (a : Asked) (rest : List Asked) (p q : List (Decision T)) → length p ≡ length before
          → asked_questions (before ++ a ∷ rest) ≡ to_ask (map_in code capacity words) owner → says p a q
          → q ≡ p ++ decision (about (map_in code capacity words) a.of.index) a.yes ∷ []
      said_so before a rest p q long questions_are t =
          let place : asked_at (length p) ≡ a.of.index =
          (λ i. slice_index (map (λ (o : Owned). o.index) (sym questions_are i)) (long i)) ∙ in_place before a rest in
          t.2
          ∙ (ap (λ (n : ℕ). p ++ decision (questions.Value n t.0) a.yes ∷ []) place
          ∙ ap (λ (o : Option T). p ++ decision (showing o (questions.Value a.of.index tt)) a.yes ∷ []) (sym t.1))

      -- a recovery that has come to its end says what the map says
      gone : (told : List (Decision T)) (state : ReleaseState) (last : List ℕ)
          → recovering.Gone recover_case state told last
          → EndsRight (calls.Recover owner mode) told (answers.State state) last
      gone told state last has_gone =
          let was =
          asked_so (to_ask (map_in code capacity words) owner) (λ o. about (map_in code capacity words) o.index)
          says said_so has_gone.calls.asked told has_gone.calls.all has_gone.calls.answers in
          let left_is : map_in code capacity last ≡ map_freed (map_in code capacity words) owner mode (map yes_of told) =
          has_gone.calls.next ∙ ap (λ which. one_change (all_freed mode (map_in code capacity words) which)) (sym was.agreed_are) in
          record {
            said = λ i. record {
              questions = was.questions_are i;
              answer = answers.State ((has_gone.state_is ∙ ap (λ (s : Contents T). state_of s.owners) left_is) i);
            };
            holds = has_gone.fit;
            object = left_is;
          }

      -- The recovery, alone, has gone through `done` of its owner's indices, as `Searching` says.
      abbrev Recovers : ℕ → Standing T (Recover T (Buffer 128)) (Buffer 128) → Type 0
      Recovers done z = recovering.Searching recover_case done z.call z.room z.told z.words

      -- after an answer to its question a recovery goes on
      leads_recover : (done : ℕ) (a : After (Recover T (Buffer 128)) ReleaseState) (room : Buffer 128) (told : List (Decision T)) (last : List ℕ)
          → recovering.Further recover_case done a room told last
          → LeadsTo code recover_is (EndsRight (calls.Recover owner mode)) (Recovers done) a room told last
      leads_recover done (GoOn d) room told last further = further
      leads_recover done (Done state) room told last further = absurd further

      -- a recovery that asks about a value, at the index that comes next, hears each decision on it, and goes on
      recover_hears : (done : ℕ) (z : Standing T (Recover T (Buffer 128)) (Buffer 128)) → Recovers done z
          → (question : Question (Unit {0})) (put : Recover T (Buffer 128)) (room : Buffer 128) (last : List ℕ)
          → StopsAlike (recover_want code.size) (recover_after code.size) (recover_kept kept_at) dead z.call z.room z.words (stops.Asked question put) room last
          → (said : Bool) → Hears code recover_is (EndsRight (calls.Recover owner mode)) (Recovers (done + 1)) z.told put room last said
      recover_hears done z so_far question put room last alone said =
          let stop_is = recovering.stops_at so_far alone in
          let before = so_far.recovering in
          let long : length z.told ≡ length before.asked =
          (let all = folds_long says
          (λ p a q w. ap length w.2 ∙ length-append p (decision (questions.Value (asked_at (length p)) w.0) a.yes ∷ []))
          before.asked [] z.told before.answers in omega arith) in
          let place : asked_at (length z.told) ≡ stop_is.index =
          (λ i. slice_index (map (λ (o : Owned). o.index) ((sym before.joined ∙ ap (λ l. asked_questions before.asked ++ l) stop_is.left_is) i)) (long i))
          ∙ placed before.asked (record { owner = owner; index = stop_is.index }) _ in
          let asks : recover_want code.size put dead ≡ wants.Question (questions.Value (asked_at (length z.told)) tt) =
          ap (λ c. recover_want code.size c dead) stop_is.stands ∙ ap (λ n. wants.Question (questions.Value n tt)) (sym place) in
          let later : List (Decision T) = z.told ++ decision (questions.Value (asked_at (length z.told)) (read_in code room)) said ∷ [] in
          record {
            later = later;
            told_is = ap (λ w. z.told ++ decided_at (Some (read_in code room)) w said) asks;
            leads_to =
                leads_recover (done + 1) (recover_after code.size put dead (number_of said)) (recover_kept kept_at put room (number_of said)) later last
                (recovering.further_so so_far alone refl said later refl
                (record { answer = number_of said; answer_is = yes_number said; goes = refl; keeps = refl }));
          }

      -- a recovery, alone, says what the map says
      recovers_all : SaysAsMap (calls.Recover owner mode)
      recovers_all =
          talks_all code recover_is (EndsRight (calls.Recover owner mode))
          (record {
            Under = Recovers;
            low = λ c. tt;
            few = λ done z so_far. recovering.few_rounds so_far;
            can_stop = λ done z so_far. recovering.can_go so_far;
            ended = λ done z so_far state room last alone. gone z.told state last (recovering.ended_so so_far alone);
            asked = recover_hears;
          })
          (record { call = first_recover capacity; room = fresh_cell; told = []; words = words })
          (recovering.starts recover_case (first_recover capacity) refl fresh_cell roomy (ready owner lives))

    -- each call that is no look, and names an owner as it may, says alone what the map says
    pub every : (start : ContainerStart T) → IsNoLook (first capacity start) → names_owner start ≡ true → SaysAsMap start
    every (calls.Add value owner) such names =
        speaks (calls.Add value owner) refl (adds_one code capacity coded views p words h value owner (below owner empty names))
    every (calls.Remove index owner mode) such names =
        speaks (calls.Remove index owner mode) refl (removes_one code capacity coded views p words h index owner mode (below owner empty names))
    every (calls.Replace index value owner) such names =
        speaks (calls.Replace index value owner) refl (replaces_one code capacity coded views p words h index value owner (below owner empty names))
    every (calls.Find owner) such names = finds_all owner (below owner empty names)
    every (calls.Recover owner mode) such names = recovers_all owner mode (below owner empty names)
    every calls.GetState such names = absurd such
    every calls.UpdateState such names = absurd such
    every calls.Len such names =
        speaks calls.Len refl
        (counts_so code capacity coded views p words h measures.Len calls.Len
        (λ e last said holds object. record { said = ap answers.Number said; holds = holds; object = object }))
    every calls.IsEmpty such names =
        speaks calls.IsEmpty refl
        (counts_so code capacity coded views p words h measures.IsEmpty calls.IsEmpty
        (λ e last said holds object. record { said = ap (λ n. answers.Truth (n == 0)) said; holds = holds; object = object }))
    every calls.IsLocked such names = speaks calls.IsLocked refl (looks code capacity coded views p words h)

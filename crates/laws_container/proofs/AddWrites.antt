-- The steps of an add from the grant of its index on: it loads the number of the element, hides what an
-- earlier owner left there, stores the words of its value, places it and counts the change. Until it ends its
-- party alone may write there. What a step has to show is said by `StepOf` and `Leads` of `Stages`.
use Rattle.laws_container.proofs.Names.{◌≡◌, ◌≢◌, ◌⊎◌, ⊎_elim, inl, inr, ℕ, ◌+◌, ◌*◌, ◌%◌, ◌<◌, ◌≤◌, ◌==◌}
use Rattle.laws_container.proofs.Names.{if◌then◌else◌, nat_lt, false, true, Option, Some, None, is_some, List}
use Rattle.laws_container.proofs.Names.{[], ◌∷◌, ◌++◌, get_or, set, refl, sym, ap, subst, ◌∙◌, append-nil, arith}
use Rattle.laws_container.proofs.Names.{cases_eq, nat_tests, fold-append, Ask, After, GoOn, AddStage, Added}
use Rattle.laws_container.proofs.Names.{first_add, at_add, change_word, count_word, element_word, is_even}
use Rattle.laws_container.proofs.Names.{one_more, went_on, Answer, Event, Index, Placed, Hidden, Finished, Container}
use Rattle.laws_container.proofs.Names.{ContainerStart, ContainerFlight, Party, added, Act, Places, Hides, places}
use Rattle.laws_container.proofs.Names.{contents_after, contents_of, announced_after, announced_of, SetAct}
use Rattle.laws_container.proofs.Names.{as_it_is, put, as_call, words_after, step_count}
use Rattle.laws_container.proofs.Names.{at_same, at_other, calm_less, gone_less, lives_settled}
use Rattle.laws_container.proofs.Names.{loads_same, exchanges, fails_same}
use Rattle.steps.specs.declared.ask.After.TheVariants.{Done}
use Rattle.steps.specs.declared.container.add.Add as add_calls
use Rattle.steps.specs.declared.container.add.AddStage.TheVariants as adds
use Rattle.model.specs.declared.families.container.ContainerStart.TheVariants.{Add}
use Rattle.model.specs.declared.families.container.calls.ContainerFlight.TheVariants as calls
use Rattle.lemmas_owners.proofs.Operations as operations
use Rattle.laws_container.proofs.Adds.{Adding, acquire_step}
use Rattle.laws_container.proofs.Contents.{store_writes}
use Rattle.laws_container.proofs.Core.{count_at, count_set}
use Rattle.laws_container.proofs.Invariant.{before, after, inv_of_set}
use Rattle.laws_container.proofs.Knows.{AddOwns, Covers, Writes, HasPlaced, Stood, AddKnows, Knows}
use Rattle.laws_container.proofs.Left.{left_after, left_of}
use Rattle.laws_container.proofs.WellFormed.{IsWellFormedSoFar}
use Rattle.laws_container.proofs.Sets.{leaves_behind, settles}
use Rattle.laws_container.proofs.Stages.{sees_calmly, Call, IsUnderWay, all, done, sees_now, then_sees, StepOf, Leads, none_lengthens}
use Rattle.laws_container.proofs.Stages.{party_then, backs_then, acts_more, goes_on}
use Rattle.laws_container.proofs.Stages.{goes_calmly, ends, was_well_formed, was_well_formed_calmly}
use Rattle.laws_container.proofs.CallProgress.{add_at, add_number, AddAt, IsGranted, MayHaveHidden}
use Rattle.laws_container.proofs.Steps.{loads, StoresWord, stores_word, hides, places as places_it, misplaces, ends_counted}
use Rattle.laws_container.proofs.Turns.{WellFormed, add_owes, count_in}
use Rattle.laws_container.proofs.Writers.{IsWriter, one_writer}
use Rattle.laws_container.proofs.Writing.{even_is, odd_is, adds_one, stores_to, adds_to_count, adds_to_change, hides_count}
use Rattle.lemmas.proofs.Cases.{on_bool}

-- an add that has placed its value, and has done no more to elements than hide what stood there, has placed
-- just that value
pub placed_once : {T : Type 0} (acts : List (Act T)) (i : ℕ) (value : T) → (acts ≡ []) ⊎ (acts ≡ Hides i ∷ [])
    → places (acts ++ Places i value ∷ []) ≡ (i, value) ∷ []
placed_once = grind (arith, places)

-- the add of `value` for `owner` in the turn of the scene, which was granted index `i`
module _ {T : Type 0} (adding : Adding T) (i : ℕ)
    (granted : IsGranted adding.scene.capacity adding.scene.coding.size (all adding.scene) (done adding.scene) adding.owner i) where
  open adding use {scene, inv, value, owner, fits, acts}
  open adding.scene use {coding as code, capacity as c, party as p, steps, backs, events, latest}

  abbrev ws : List ℕ
  ws = scene.words

  abbrev start : ContainerStart T
  start = Add value owner

  -- the add as a call at this stage
  abbrev at_stage : AddStage → ContainerFlight T
  at_stage stage = add_at c value owner stage

  below : i < c
  below = granted.0

  -- how the add goes on, as a call of the container
  abbrev as_add : After (add_calls.Add T) Added → After (ContainerFlight T) (Answer T)
  as_add a = as_call calls.Add added (went_on as_it_is (record { value = value; owner = owner }) tt a)

  -- the party's call under way is this add, at this stage
  abbrev IsAtStage : AddStage → Type 0
  IsAtStage stage = IsUnderWay scene (Add value owner) (add_at c value owner stage)

  -- the add at this stage, as a call of the container
  abbrev as_given : (stage : AddStage) → IsAtStage stage → Call T
  as_given stage here = record { scene = scene; inv = inv; start = start; flight = at_stage stage; no_look = tt; here = here }

  -- the party after the step by which the add comes to stage `next`
  abbrev then_at : AddStage → Option Ask → Party T
  then_at next ask = party_then scene start ask false (GoOn (at_stage next))

  -- the party knows that it owns the index
  module _ (owns : AddOwns c owner i (sees_now scene)) where
    -- in a well-formed run the party may write at the index
    mine : WellFormed (before scene) → IsWriter p i owner events
    mine well_formed = inl (owns.owns well_formed.calm (acts.stays well_formed.kept)).by

    -- in a well-formed run no other party may write at the index
    nobody_else : {A : Type 0} → WellFormed (before scene) → (q : ℕ) → q ≢ p → (o : ℕ) → IsWriter q i o events → A
    nobody_else = grind (arith, one_writer, mine)

    -- the add owns its index after a step that writes nothing
    owns_calm : (ask : Option Ask) (y : Party T)
        → AddOwns c owner i (sees_calmly scene ask false scene.states y)
    owns_calm = grind (arith, below)

    -- the add owns its index after it has hidden what stood there
    owns_hidden : (ask : Option Ask) (y : Party T) → AddOwns c owner i (then_sees scene ask false scene.states y (Hidden p i ∷ []))
    owns_hidden = grind (arith, below, calm_less, gone_less, fold-append)

    -- the add owns its index after it has placed its value
    owns_placed : (ask : Option Ask) (y : Party T) → AddOwns c owner i (then_sees scene ask false scene.states y (Placed p i value ∷ []))
    owns_placed = grind (arith, below, calm_less, gone_less, fold-append)

    -- ---- a step that changes nothing and writes nothing

    -- a step that leaves the words and writes nothing leads an add to the stage `next`, where the conditions
    -- of that stage hold
    calm_step : (stage next : AddStage) (ask : Option Ask) → words_after ws ask ≡ ws → IsAtStage stage
        → add_owes next ≡ true → steps + step_count ask ≤ add_number c code.size next (backs_then scene false)
        → AddAt c code.size (all scene) (done scene) owner next
        → Knows code c (at_stage next)
        (sees_calmly scene ask false scene.states (then_at next ask))
        → Leads scene start ask false scene.states [] (GoOn (at_stage next))
    calm_step stage next ask same here owe few stands known =
        goes_calmly scene (at_stage next) ask false here.span (record {
          does =
              loads (as_given stage here) (then_at next ask) same
              (was_well_formed scene start tt here.span (words_after ws ask) (then_at next ask) [] tt) (λ was. owe);
          few = few;
          stands = (refl, refl, fits, stands);
          known = known;
        })

    -- where the number of the element is even, an add that has stored no word knows that none of
    -- its value is written
    first_word : (ask : Option Ask) (y : Party T) → words_after ws ask ≡ ws
        → (WellFormed (before scene) → count_in code c (before scene) i % 2 ≡ 0)
        → (IsWellFormedSoFar scene.terms (put p y latest) events → WellFormed (before scene))
        → Writes code c owner i value 0
        (sees_calmly scene ask false scene.states y)
    first_word ask y same even well_formed = grind arith

    -- ---- the number is loaded

    -- the add was granted its index, and loads the number of the element
    module _ (here : IsAtStage (adds.LoadsCount i)) (none : done scene ≡ []) (few_steps : steps ≤ c + 3 + backs * (c + 1)) where
      abbrev load_it : Option Ask
      load_it = Some (operations.loads (count_word c i))

      abbrev number : ℕ
      number = count_in code c (before scene) i

      -- the step in which an add loads the number of the element: it goes on to its first word if the number
      -- is even, and to hiding what stands there if it is odd
      loads_step : StepOf scene start (at_stage (adds.LoadsCount i))
      loads_step =
          on_bool (λ b. Leads scene start (Some (operations.loads (count_word c i))) false scene.states []
          (as_add (if b then GoOn (at_add (first_add c) (adds.Stores i 0)) else GoOn (at_add (first_add c) (adds.Hides i number)))))
          (is_even number)
          (λ t.
          let some = inv.elements.coded.some in
          calm_step (adds.LoadsCount i) (adds.Stores i 0) load_it
          (loads_same ws (count_word c i)) here refl (omega arith) (granted, inl none, omega arith) (
            owns_calm load_it (then_at (adds.Stores i 0) load_it),
            first_word load_it (then_at (adds.Stores i 0) load_it) (loads_same ws (count_word c i))
                (λ holds. even_is number t)
                (was_well_formed_calmly scene start tt here.span (then_at (adds.Stores i 0) load_it)),
          ))
          (λ t.
          calm_step (adds.LoadsCount i) (adds.Hides i number) load_it
          (loads_same ws (count_word c i)) here refl (omega arith) (granted, none, odd_is number t) (
            owns_calm load_it (then_at (adds.Hides i number) load_it),
            (λ holds lives. inl (ap (λ w. count_at c w i) (loads_same ws (count_word c i)))),
          ))

    -- ---- what stands there is hidden

    -- the add has found the odd number `count`, and hides what an earlier owner has left under it
    module _ {count : ℕ} (here : IsAtStage (adds.Hides i count)) (none : done scene ≡ [])
        (odd : count % 2 ≡ 1) (covers : Covers code c owner i count (sees_now scene))
        (few_steps : steps ≤ c + 4 + backs * (c + 1)) where
      abbrev hide_it : Option Ask
      hide_it = Some (exchanges (count_word c i) count (one_more count))

      abbrev now_at : ℕ
      now_at = count_in code c (before scene) i

      -- the step in which an add hides what stands at its index: it goes on to its first word, whether it
      -- finds the loaded number or another one
      hides_step : StepOf scene start (at_stage (adds.Hides i count))
      hides_step =
          on_bool (λ b. Leads scene start (Some (exchanges (count_word c i) count (one_more count))) false scene.states
          ((if b then Hidden p i ∷ [] else []) ++ []) (GoOn (at_stage (adds.Stores i 0))))
          (now_at == count)
          -- the number is the one that was loaded: the step hides what an earlier owner has left there
          (λ t.
          let same_count : now_at ≡ count = grind (arith, nat_tests) in
          let some = inv.elements.coded.some in
          let wide = inv.elements.wide in
          let party_after = then_at (adds.Stores i 0) hide_it in
          let new = hides_count inv i count below same_count in
          let now_odd : now_at % 2 ≡ 1 = ap (λ n. n % 2) same_count ∙ odd in
          let well_formed = was_well_formed scene start tt here.span (words_after ws hide_it) party_after (Hidden p i ∷ []) (refl, tt) in
          let after : count_at c (words_after ws hide_it) i ≡ one_more now_at =
          ap (λ w. count_at c w i) new ∙ count_set c code.size ws i (one_more now_at) (omega arith) in
          goes_on scene (at_stage (adds.Stores i 0)) hide_it false here.span (record {
            longer = λ start w. refl;
            does =
                hides (as_given (adds.Hides i count) here) party_after (record { below = below; new = new; owed = refl }) now_odd
                (λ holds q ne o theirs fresh. nobody_else holds q ne o theirs) well_formed;
            follows = ((granted.1, none), tt);
            few = omega arith;
            stands = (refl, refl, fits, ((below, ap (λ (d : List SetAct). d ++ []) granted.1), inr (ap (λ d. d ++ Hides i ∷ []) none), omega arith));
            known = (
              owns_hidden hide_it party_after,
              record {
                few = omega arith;
                has = λ holds lives. record { even = ap (λ n. n % 2) after ∙ omega arith; written = λ j js. absurd (omega arith) };
              },
            );
          }))
          -- the number is another one: another call has hidden what stood there, and the step changes nothing
          (λ t.
          let other : now_at ≢ count = grind (arith, nat_tests) in
          let some = inv.elements.coded.some in
          let party_after = then_at (adds.Stores i 0) hide_it in
          let same = fails_same ws (count_word c i) count (one_more count) other in
          calm_step (adds.Hides i count) (adds.Stores i 0) hide_it same here refl (omega arith) (granted, inl none, omega arith) (
            owns_calm hide_it party_after,
            first_word hide_it party_after same
                (λ holds. ⊎_elim (λ e. absurd (other e)) (λ even. even) (covers holds (acts.stays holds.kept)))
                (was_well_formed_calmly scene start tt here.span party_after),
          ))

    -- ---- a word is stored

    -- the add has stored the first `at` words of its value, and stores the next one
    module _ {at : ℕ} (here : IsAtStage (adds.Stores i at))
        (hidden : MayHaveHidden c code.size (all scene) (done scene) i) (ats : at < code.size)
        (has_stored : Writes code c owner i value at (sees_now scene)) (few_steps : steps ≤ c + 5 + at + backs * (c + 1)) where
      abbrev store_it : Option Ask
      store_it = Some (stores_to (element_word c code.size i at) (get_or (code.words_of value) at 0))

      -- a store of a word leads to the stage `next`, where the add knows what that stage asks
      store_to : (next : AddStage) → add_owes next ≡ true
          → steps + 1 ≤ add_number c code.size next (backs_then scene false)
          → AddAt c code.size (all scene) (done scene) owner next
          → Knows code c (at_stage next)
          (sees_calmly scene store_it false scene.states (then_at next store_it))
          → Leads scene start store_it false scene.states [] (GoOn (at_stage next))
      store_to next owe few stands known =
          goes_calmly scene (at_stage next) store_it false here.span (record {
            does =
                stores_word (as_given (adds.Stores i at) here) (then_at next store_it) word_stored
                (was_well_formed scene start tt here.span (words_after ws store_it) (then_at next store_it) [] tt) (λ was. owe);
            few = few;
            stands = (refl, refl, fits, stands);
            known = known;
          })
        where
          word_stored : StoresWord (as_given (adds.Stores i at) here) (then_at next store_it) (words_after ws store_it) i at value owner
          word_stored = record { below = below; word = ats; mine = mine; writing = λ holds. has_stored.has holds (acts.stays holds.kept); new = refl }

      -- after the store of a word, one word more of the value is written
      one_more_word : (next : AddStage)
          → Writes code c owner i value (at + 1)
          (sees_calmly scene store_it false scene.states (then_at next store_it))
      one_more_word next =
          record {
            few = omega arith;
            has = λ holds lives.
                let before_it = was_well_formed_calmly scene start tt here.span (then_at next store_it) holds in
                store_writes code c ws events (inv.elements.whole before_it) inv.elements.wide i below ats
                (has_stored.has before_it (acts.stays before_it.kept));
          }

      -- the step in which an add stores a word: it goes on to the next word, or to placing the value
      stores_step : StepOf scene start (at_stage (adds.Stores i at))
      stores_step =
          on_bool (λ b. Leads scene start (Some (stores_to (element_word c code.size i at) (get_or (code.words_of value) at 0)))
          false scene.states []
          (as_add (if b then GoOn (at_add (first_add c) (adds.Stores i (at + 1))) else GoOn (at_add (first_add c) (adds.AddsCount i)))))
          (nat_lt (at + 1) code.size)
          (λ t.
          let more : at + 1 < code.size = grind (arith, nat_tests) in
          store_to (adds.Stores i (at + 1)) refl (omega arith) (granted, hidden, more) (
            owns_calm store_it (then_at (adds.Stores i (at + 1)) store_it),
            one_more_word (adds.Stores i (at + 1)),
          ))
          (λ t.
          let last : code.size ≤ at + 1 = grind (arith, nat_tests) in
          let is_last : at + 1 ≡ code.size = omega arith in
          store_to (adds.AddsCount i) refl (omega arith) (granted, hidden) (
            owns_calm store_it (then_at (adds.AddsCount i) store_it),
            subst (λ n. Writes code c owner i value n
                (sees_calmly scene store_it false scene.states (then_at (adds.AddsCount i) store_it)))
                is_last (one_more_word (adds.AddsCount i)),
          ))

    -- ---- the value is placed

    -- the add has stored all words of its value, and raises the number to place the value
    module _ (here : IsAtStage (adds.AddsCount i))
        (hidden : MayHaveHidden c code.size (all scene) (done scene) i)
        (has_stored : Writes code c owner i value code.size (sees_now scene))
        (few_steps : steps ≤ c + 5 + code.size + backs * (c + 1)) where
      abbrev add_it : Option Ask
      add_it = Some (adds_one (count_word c i))

      abbrev count_now : ℕ
      count_now = count_in code c (before scene) i

      abbrev y : Party T
      y = then_at (adds.AddsChange i) add_it

      new : words_after ws add_it ≡ set ws (count_word c i) (one_more count_now)
      new = adds_to_count inv i below

      -- the step in which an add raises the number to an odd one places its value
      places_step : StepOf scene start (at_stage (adds.AddsCount i))
      places_step =
          on_bool (λ b. Leads scene start (Some (adds_one (count_word c i))) false scene.states
          ((if b then Placed p i value ∷ [] else []) ++ []) (GoOn (at_stage (adds.AddsChange i))))
          (is_even count_now)
          -- the number is even: the step places the value
          (λ t.
          let es : List (Event T) = Placed p i value ∷ [] in
          let well_formed = was_well_formed scene start tt here.span (words_after ws add_it) y es (refl, tt) in
          goes_on scene (at_stage (adds.AddsChange i)) add_it false here.span (record {
            longer = λ start has_stored. refl;
            does =
                places_it (as_given (adds.AddsCount i) here) y (record { below = below; new = new; owed = refl }) acts mine
                (λ holds. has_stored.has holds (acts.stays holds.kept)) well_formed;
            follows = ((refl, granted.1, hidden), tt);
            few = omega arith;
            stands = (refl, refl, fits, (below, ap (λ (d : List SetAct). d ++ []) granted.1));
            known = (
              owns_placed add_it y,
              (λ holds. ap (λ a. places a) (acts_more scene start here.span es (refl, tt) (λ start has_stored. refl))
                  ∙ placed_once (done scene) i value hidden),
              (λ holds lives. (
                fold-append (left_after i) true events es ∙ at_same i i false (left_of i events) refl,
                ap is_some (fold-append (contents_after i) None events es ∙ at_same i i (Some value) (contents_of i events) refl),
              )),
            );
          }))
          -- the number is odd: a well-formed run has no such step, so nothing is to be said of what stands
          (λ t.
          let well_formed = was_well_formed scene start tt here.span (words_after ws add_it) y [] tt in
          let ill_formed =
          λ (holds : WellFormed (after scene (words_after ws add_it) y [])).
          let even = (has_stored.has (well_formed holds) (acts.stays holds.kept)).even in
          let odd = odd_is count_now t in
          absurd {A = ⊥} (omega arith) in
          let never = λ (holds : IsWellFormedSoFar scene.terms (put p y latest) events).
          ill_formed (subst (λ es. IsWellFormedSoFar scene.terms (put p y latest) es) (sym (append-nil events)) holds) in
          goes_calmly scene (at_stage (adds.AddsChange i)) add_it false here.span (record {
            does =
                misplaces (as_given (adds.AddsCount i) here) y {i = i} (record { below = below; new = new; owed = refl }) well_formed ill_formed;
            few = omega arith;
            stands = (refl, refl, fits, granted);
            known = (owns_calm add_it y, (λ holds. absurd (never holds)), (λ holds lives. absurd (never holds)));
          }))

    -- ---- the change is counted, and the call ends

    -- the add has placed its value, and counts the change
    module _ (here : IsAtStage (adds.AddsChange i)) (placed : HasPlaced code c i value (sees_now scene))
        (stood : Stood code c owner i (sees_now scene)) (few_steps : steps ≤ c + 6 + code.size + backs * (c + 1)) where
      abbrev end_it : Option Ask
      end_it = Some (adds_one (change_word c))

      -- the step in which an add counts its change ends the add
      ends_step : StepOf scene start (at_stage (adds.AddsChange i))
      ends_step =
          let party_after = party_then scene start end_it false (Done (Index i)) in
          let written : List (Event T) = Finished p (Container start) (Index i) ∷ [] in
          let well_formed = was_well_formed scene start tt here.span (words_after ws end_it) party_after written (refl, tt) in
          let new = adds_to_change inv in
          ends scene (Index i) end_it false here.span (record {
            longer = none_lengthens;
            does = ends_counted (as_given (adds.AddsChange i) here) party_after (record {
              set_does =
                  settles (inv_of_set scene inv)
                  (leaves_behind (inv_of_set scene inv) (words_after ws end_it) (change_word c) _ (omega arith) new) value
                  (λ calm. owns.owns (calm_less scene.terms.by events written calm)
                  (lives_settled scene.terms.by p i owner value events acts.alive calm.1));
              answers = tt;
              placed = λ holds. placed (well_formed holds);
              well_formed = well_formed;
            })
                new says;
            follows = ((refl, granted.1), tt);
            few = omega arith;
            paid = let paid = owns.paid in omega arith;
          })
        where
          -- an index that is announced once the add has ended has a value
          says : WellFormed (before scene) → (a : ℕ)
              → announced_after a (announced_of a events) (Finished p (Container (Add value owner)) (Index i)) ≡ true
              → is_some (contents_of a events) ≡ true
          says = grind (arith, is_some, at_other, cases_eq)

-- ---- any step of an add

-- the add in the turn of the scene
module _ {T : Type 0} (adding : Adding T) where
  open adding use {scene, value, owner}

  -- any step of an add, at whatever stage, keeps the invariant
  pub add_step : (stage : AddStage) → IsUnderWay scene (Add value owner) (add_at scene.capacity value owner stage)
      → AddAt scene.capacity scene.coding.size (all scene) (done scene) owner stage
      → AddKnows scene.coding scene.capacity value owner stage (sees_now scene)
      → scene.steps ≤ add_number scene.capacity scene.coding.size stage scene.backs → StepOf scene (Add value owner) (add_at scene.capacity value owner stage)
  add_step (adds.Acquires stage) here stands add_knows few_steps = acquire_step adding stage here stands.1 stands.0 add_knows few_steps
  add_step (adds.LoadsCount i) here stands add_knows few_steps = loads_step adding i stands.0 add_knows here stands.1 few_steps
  add_step (adds.Hides i count) here stands add_knows few_steps = hides_step adding i stands.0 add_knows.0 here stands.1 stands.2 add_knows.1 few_steps
  add_step (adds.Stores i word) here stands add_knows few_steps = stores_step adding i stands.0 add_knows.0 here stands.1 stands.2 add_knows.1 few_steps
  add_step (adds.AddsCount i) here stands add_knows few_steps = places_step adding i stands.0 add_knows.0 here stands.1 add_knows.1 few_steps
  add_step (adds.AddsChange i) here stands add_knows few_steps = ends_step adding i stands add_knows.0 here add_knows.1 add_knows.2 few_steps

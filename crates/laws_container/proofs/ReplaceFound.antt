-- The steps of a replace from the one on at which it has found its owner in the cell: it loads the number of
-- the element, hides what stands there, stores the words of its value, places it and counts the change. What
-- a step has to show is said by `StepOf` and `Leads` of `Stages`.
use Rattle.laws_container.proofs.Names.{◌≡◌, ◌≢◌, ⊎_elim, inl, inr, ℕ, ◌+◌, ◌%◌, ◌<◌, ◌≤◌, ◌==◌, if◌then◌else◌}
use Rattle.laws_container.proofs.Names.{nat_lt, false, true, Option, Some, None, is_some, List, [], ◌∷◌, ◌++◌, get_or}
use Rattle.laws_container.proofs.Names.{set, fold, refl, sym, ap, subst, ◌∙◌, append-nil, arith, cases_eq, nat_tests}
use Rattle.laws_container.proofs.Names.{fold-append, Ask, GoOn, ReplaceStage, change_word, count_word, element_word}
use Rattle.laws_container.proofs.Names.{is_even, at_replace, one_more, Event, Placed, Hidden, Finished, Container}
use Rattle.laws_container.proofs.Names.{ContainerStart, Party, Hides, places, contents_after, contents_of}
use Rattle.laws_container.proofs.Names.{announced_after, announced_of, IsFilledWith, SetAct, settled_after, put}
use Rattle.laws_container.proofs.Names.{words_after, held_later, at_same, at_other, quiet_end, calm_less, gone_less}
use Rattle.laws_container.proofs.Names.{loads_same, exchanges, fails_same}
use Rattle.steps.specs.declared.ask.After.TheVariants.{Done}
use Rattle.steps.specs.declared.container.replace.ReplaceStage.TheVariants as replaces
use Rattle.model.specs.declared.event.Answer.TheVariants as answers
use Rattle.model.specs.declared.families.container.ContainerStart.TheVariants.{Replace}
use Rattle.lemmas_owners.proofs.Operations as operations
use Rattle.laws_container.proofs.AddWrites.{placed_once}
use Rattle.laws_container.proofs.Contents.{store_writes}
use Rattle.laws_container.proofs.Core.{count_at, count_set}
use Rattle.laws_container.proofs.Invariant.{before, after, inv_of_set}
use Rattle.laws_container.proofs.Knows.{ReplaceKnows, Covers, Writes, HasPlaced, Stood, Knows}
use Rattle.laws_container.proofs.Left.{left_after, left_of}
use Rattle.laws_container.proofs.WellFormed.{IsWellFormedSoFar, well_formed_before}
use Rattle.laws_container.proofs.Replacers.{replacer_after}
use Rattle.laws_container.proofs.Replaces.{ReplaceOwns, earlier}
use Rattle.laws_container.proofs.Sets.{leaves_behind}
use Rattle.laws_container.proofs.Stages.{AreInCall, none_in_call, all, done, sees_now, then_sees, StepOf, Leads}
use Rattle.laws_container.proofs.Stages.{none_lengthens, party_then, acts_more, goes_on, goes_calmly, ends}
use Rattle.laws_container.proofs.CallProgress.{replace_number, ReplaceAt, MayHaveHidden}
use Rattle.laws_container.proofs.Steps.{StoresWord, stores_word, hides, places as places_it, misplaces, end_does, ends_counted}
use Rattle.laws_container.proofs.Turns.{WellFormed, replace_owes, count_in}
use Rattle.laws_container.proofs.Writers.{IsWriter, one_writer}
use Rattle.laws_container.proofs.Writing.{even_is, odd_is, adds_one, stores_to, adds_to_count, adds_to_change, hides_count}
use Rattle.laws_container.proofs.ReplaceSteps.{Replacing, as_given, calm_step, found_calm, found_then, given_is}
use Rattle.laws_container.proofs.ReplaceSteps.{stands_if, was_calm, was_going, at_stage, as_replace, first, IsAtStage}
use Rattle.laws_container.proofs.ReplaceSteps.{then_at, SeesCalmly}
use Rattle.lemmas.proofs.Cases.{on_bool}

-- a replace is under way: of the value at `index`, with the handle's `owner`, by party `p` of the scene
module _ {T : Type 0} (replacing : Replacing T) where
  open replacing use {scene, inv, index, value, owner, fits, acts, below, none_done}
  open replacing.scene use {coding as code, capacity as c, party as p, steps, backs, events, latest}

  abbrev ws : List ℕ
  ws = scene.words

  abbrev i : ℕ
  i = index

  abbrev start : ContainerStart T
  start = Replace index value owner

  -- ---- it has found him

  -- the replace has found its owner in the cell
  module _ (knows : ReplaceKnows c index owner value (sees_now scene)) where
    -- in a well-formed run the party may write at the index
    mine : WellFormed (before scene) → IsWriter p i owner events
    mine = grind (arith, inr, replacing)

    -- in a well-formed run no other party may write at the index
    nobody_else : {A : Type 0} → WellFormed (before scene) → (q : ℕ) → q ≢ p → (o : ℕ) → IsWriter q i o events → A
    nobody_else = grind (arith, one_writer, mine)

    -- a replace that has found its owner in the cell knows so after a step that writes nothing
    knows_calm : (stage next : ReplaceStage) → IsAtStage replacing stage → (ask : Ask) → ReplaceKnows c index owner value (SeesCalmly replacing next ask)
    knows_calm stage next here ask =
        record {
          paid = let paid = knows.paid in
              omega arith;
          within = below;
          owns = knows.owns;
          found = found_calm replacing stage next here ask;
          filled = knows.filled;
        }

    -- the party writes the events `es`, which begin none of its calls, and change neither for whom the index
    -- is settled nor whose replace of it is the latest
    module _ {es : List (Event T)} (written : AreInCall scene es)
        (settled : (o : Option ℕ) → fold (settled_after i) o es ≡ o)
        (replacer : (o : Option ℕ) → fold (replacer_after i owner) o es ≡ o) where
      -- after events that leave the set, the replace has its right to the index as before
      owns_then : ReplaceOwns scene.terms.by p index owner (events ++ es)
      owns_then calm lives may =
          let h =
          knows.owns (calm_less scene.terms.by events es calm) (gone_less scene.terms.by owner events es lives)
          (earlier written.fresh may).may in
          record {
            settled = fold-append (settled_after i) None events es ∙ (settled _ ∙ h.settled);
            latest = fold-append (replacer_after i owner) None events es ∙ (replacer _ ∙ h.latest);
          }

      -- after events that leave the set, the replace still knows that it has found its owner
      knows_then : (stage next : ReplaceStage) → IsAtStage replacing stage → (ask : Ask)
          → ReplaceKnows c index owner value (then_sees scene (Some ask) false scene.states (then_at replacing next (Some ask)) es)
      knows_then stage next here ask =
          record {
            paid = let paid = knows.paid in
                omega arith;
            within = below;
            owns = owns_then;
            found = found_then replacing stage next here ask written;
            filled = held_later p (IsFilledWith owner index) events es written.fresh knows.filled;
          }

    -- where the number of the element is even, a replace that has stored no word knows that none
    -- of its value is written
    first_word : (stage next : ReplaceStage) → IsAtStage replacing stage → (ask : Ask) → words_after ws (Some ask) ≡ ws
        → (WellFormed (before scene) → count_in code c (before scene) i % 2 ≡ 0)
        → Writes code c owner i value 0 (SeesCalmly replacing next ask)
    first_word stage next here ask same even =
        record {
          few = omega arith;
          has =
              λ holds lives. record {
                even =
                    ap (λ w. count_at c w i % 2) same
                    ∙ even (was_calm replacing stage here knows.filled (then_at replacing next (Some ask)) (omega arith) holds);
                written = λ j js. absurd (omega arith);
              };
        }

    -- ---- the number is loaded

    -- the replace loads the number of the element
    module _ (here : IsAtStage replacing replaces.LoadsCount) (nothing : done scene ≡ []) (few_steps : steps ≤ 1) where
      abbrev load_it : Ask
      load_it = operations.loads (count_word c i)

      abbrev number : ℕ
      number = count_in code c (before scene) i

      -- the step in which a replace loads the number of the element: it goes on to hide the element if the
      -- number is odd, and to store its first word if it is even
      pub count_step : StepOf scene start (at_stage replacing replaces.LoadsCount)
      count_step =
          on_bool (λ b. Leads scene start (Some (operations.loads (count_word c i))) false scene.states []
          (as_replace replacing (if b then GoOn (at_replace (first replacing) (replaces.Stores 0)) else GoOn
          (at_replace (first replacing) (replaces.Hides number)))))
          (is_even number)
          (λ t.
          let some = inv.elements.coded.some in
          calm_step replacing replaces.LoadsCount here knows.filled (replaces.Stores 0) load_it (record {
            same = loads_same ws (count_word c i);
            owes = refl;
            few = omega arith;
            stands = (below, none_done, inl nothing, omega arith);
            known = (
              knows_calm replaces.LoadsCount (replaces.Stores 0) here load_it,
              first_word replaces.LoadsCount (replaces.Stores 0) here load_it
                  (loads_same ws (count_word c i)) (λ holds. even_is number t),
            );
          }))
          (λ t.
          calm_step replacing replaces.LoadsCount here knows.filled (replaces.Hides number) load_it (record {
            same = loads_same ws (count_word c i);
            owes = refl;
            few = omega arith;
            stands = (below, none_done, nothing, odd_is number t);
            known = (
              knows_calm replaces.LoadsCount (replaces.Hides number) here load_it,
              (λ holds lives. inl (ap (λ w. count_at c w i) (loads_same ws (count_word c i)))),
            );
          }))

    -- ---- what stands there is hidden

    -- the replace has found the odd number `count`, and hides what stands there
    module _ {count : ℕ} (here : IsAtStage replacing (replaces.Hides count)) (nothing : done scene ≡ [])
        (odd : count % 2 ≡ 1) (covers : Covers code c owner i count (sees_now scene)) (few_steps : steps ≤ 2) where
      abbrev hide_it : Ask
      hide_it = exchanges (count_word c i) count (one_more count)

      abbrev now_at : ℕ
      now_at = count_in code c (before scene) i

      -- the step in which a replace hides what stands at the index: it goes on to its first word, whether it
      -- finds the loaded number or another one
      pub hide_step : StepOf scene start (at_stage replacing (replaces.Hides count))
      hide_step =
          on_bool (λ b. Leads scene start (Some (exchanges (count_word c i) count (one_more count))) false scene.states
          ((if b then Hidden p i ∷ [] else []) ++ []) (GoOn (at_stage replacing (replaces.Stores 0))))
          (now_at == count)
          -- the number is the one that was loaded: the step hides what stands there
          (λ t.
          let same_count : now_at ≡ count = grind (arith, nat_tests) in
          let some = inv.elements.coded.some in
          let wide = inv.elements.wide in
          let party_after = then_at replacing (replaces.Stores 0) (Some hide_it) in
          let told_now : List (Event T) = Hidden p i ∷ [] in
          let in_call : AreInCall scene told_now = record { own = (refl, tt); fresh = tt; longer = λ start w. refl } in
          let new = hides_count inv i count below same_count in
          let now_odd : now_at % 2 ≡ 1 = ap (λ n. n % 2) same_count ∙ odd in
          let well_formed =
          was_going replacing (replaces.Hides count) here knows.filled (words_after ws (Some hide_it)) party_after in_call (omega arith) in
          let after : count_at c (words_after ws (Some hide_it)) i ≡ one_more now_at =
          ap (λ w. count_at c w i) new ∙ count_set c code.size ws i (one_more now_at) (omega arith) in
          goes_on scene (at_stage replacing (replaces.Stores 0)) (Some hide_it) false here.span (record {
            longer = λ start w. refl;
            does =
                hides (as_given replacing (replaces.Hides count) here) party_after (record { below = below; new = new; owed = refl }) now_odd
                (λ holds q ne o theirs fresh. nobody_else holds q ne o theirs) well_formed;
            follows = ((refl, nothing), tt);
            few = omega arith;
            stands = (
              refl,
              given_is replacing,
              fits,
              (below, ap (λ (d : List SetAct). d ++ []) none_done, inr (ap (λ d. d ++ Hides i ∷ []) nothing), omega arith),
            );
            known = (
              knows_then in_call (λ o. refl) (λ o. refl) (replaces.Hides count) (replaces.Stores 0) here hide_it,
              record {
                few = omega arith;
                has = λ holds lives. record { even = ap (λ n. n % 2) after ∙ omega arith; written = λ j js. absurd (omega arith) };
              },
            );
          }))
          -- the number is another one: another call has hidden what stood there, and the step changes nothing
          (λ t.
          let other : now_at ≢ count = grind (arith, nat_tests) in
          let some = inv.elements.coded.some in
          let same = fails_same ws (count_word c i) count (one_more count) other in
          calm_step replacing (replaces.Hides count) here knows.filled (replaces.Stores 0) hide_it (record {
            same = same;
            owes = refl;
            few = omega arith;
            stands = (below, none_done, inl nothing, omega arith);
            known = (
              knows_calm (replaces.Hides count) (replaces.Stores 0) here hide_it,
              first_word (replaces.Hides count) (replaces.Stores 0) here hide_it same
                  (λ holds. ⊎_elim (λ e. absurd (other e)) (λ even. even) (covers holds (acts.stays holds.kept))),
            );
          }))

    -- ---- a word is stored

    -- the replace has stored the first `at` words of its value, and stores the next one
    module _ {at : ℕ} (here : IsAtStage replacing (replaces.Stores at))
        (hidden : MayHaveHidden c code.size (all scene) (done scene) i) (ats : at < code.size)
        (has_stored : Writes code c owner i value at (sees_now scene)) (few_steps : steps ≤ 3 + at) where
      abbrev store_it : Ask
      store_it = stores_to (element_word c code.size i at) (get_or (code.words_of value) at 0)

      -- a store of a word leads to stage `next`, where the replace knows what that stage asks
      store_to : (next : ReplaceStage) → replace_owes next ≡ true → steps + 1 ≤ replace_number code.size next
          → ReplaceAt c code.size (all scene) (done scene) index next
          → Knows code c (at_stage replacing next) (SeesCalmly replacing next store_it)
          → Leads scene start (Some store_it) false scene.states [] (GoOn (at_stage replacing next))
      store_to next owe few stands known =
          goes_calmly scene (at_stage replacing next) (Some store_it) false here.span (record {
            does =
                stores_word (as_given replacing (replaces.Stores at) here) (then_at replacing next (Some store_it)) word_stored
                (was_going replacing (replaces.Stores at) here knows.filled (words_after ws (Some store_it))
                (then_at replacing next (Some store_it)) (none_in_call scene) (omega arith))
                (λ was. owe);
            few = few;
            stands = (refl, given_is replacing, fits, stands);
            known = known;
          })
        where
          word_stored : StoresWord (as_given replacing (replaces.Stores at) here) (then_at replacing next (Some store_it))
              (words_after ws (Some store_it)) i at value owner
          word_stored = record { below = below; word = ats; mine = mine; writing = λ holds. has_stored.has holds (acts.stays holds.kept); new = refl }

      -- after the store of a word, one word more of the value is written
      one_more_word : (next : ReplaceStage) → Writes code c owner i value (at + 1) (SeesCalmly replacing next store_it)
      one_more_word next =
          record {
            few = omega arith;
            has = λ holds lives.
                let before_it = was_calm replacing (replaces.Stores at) here knows.filled (then_at replacing next (Some store_it)) (omega arith) holds in
                store_writes code c ws events (inv.elements.whole before_it) inv.elements.wide i below ats
                (has_stored.has before_it (acts.stays before_it.kept));
          }

      -- the step in which a replace stores a word: it goes on to the next word, or to placing the value
      pub store_step : StepOf scene start (at_stage replacing (replaces.Stores at))
      store_step =
          on_bool (λ b. Leads scene start (Some (stores_to (element_word c code.size i at) (get_or (code.words_of value) at 0)))
          false scene.states []
          (as_replace replacing (if b then GoOn (at_replace (first replacing) (replaces.Stores (at + 1))) else GoOn
          (at_replace (first replacing) replaces.AddsCount))))
          (nat_lt (at + 1) code.size)
          (λ t.
          let more : at + 1 < code.size = grind (arith, nat_tests) in
          store_to (replaces.Stores (at + 1)) refl (omega arith) (below, none_done, hidden, more) (
            knows_calm (replaces.Stores at) (replaces.Stores (at + 1)) here store_it,
            one_more_word (replaces.Stores (at + 1)),
          ))
          (λ t.
          let last : code.size ≤ at + 1 = grind (arith, nat_tests) in
          let is_last : at + 1 ≡ code.size = omega arith in
          store_to replaces.AddsCount refl (omega arith) (below, none_done, hidden) (
            knows_calm (replaces.Stores at) replaces.AddsCount here store_it,
            subst (λ n. Writes code c owner i value n (SeesCalmly replacing replaces.AddsCount store_it)) is_last
                (one_more_word replaces.AddsCount),
          ))

    -- ---- the value is placed

    -- the replace has stored all words of its value, and raises the number to place the value
    module _ (here : IsAtStage replacing replaces.AddsCount)
        (hidden : MayHaveHidden c code.size (all scene) (done scene) i)
        (has_stored : Writes code c owner i value code.size (sees_now scene)) (few_steps : steps ≤ 3 + code.size) where
      abbrev add_it : Ask
      add_it = adds_one (count_word c i)

      abbrev count_now : ℕ
      count_now = count_in code c (before scene) i

      abbrev y : Party T
      y = then_at replacing replaces.AddsChange (Some add_it)

      new : words_after ws (Some add_it) ≡ set ws (count_word c i) (one_more count_now)
      new = adds_to_count inv i below

      -- the step in which a replace raises the number to an odd one places its value
      pub place_step : StepOf scene start (at_stage replacing replaces.AddsCount)
      place_step =
          on_bool (λ b. Leads scene start (Some (adds_one (count_word c i))) false scene.states
          ((if b then Placed p i value ∷ [] else []) ++ []) (GoOn (at_stage replacing replaces.AddsChange)))
          (is_even count_now)
          -- the number is even: the step places the value
          (λ t.
          let es : List (Event T) = Placed p i value ∷ [] in
          let in_call : AreInCall scene es = record { own = (refl, tt); fresh = tt; longer = λ start has_stored. refl } in
          let well_formed =
          was_going replacing replaces.AddsCount here knows.filled (words_after ws (Some add_it)) y in_call (omega arith) in
          goes_on scene (at_stage replacing replaces.AddsChange) (Some add_it) false here.span (record {
            longer = λ start has_stored. refl;
            does =
                places_it (as_given replacing replaces.AddsCount here) y (record { below = below; new = new; owed = refl }) acts mine
                (λ holds. has_stored.has holds (acts.stays holds.kept)) well_formed;
            follows = ((refl, refl, hidden), tt);
            few = omega arith;
            stands = (refl, given_is replacing, fits, (below, ap (λ (d : List SetAct). d ++ []) none_done));
            known = (
              knows_then in_call (λ o. refl) (λ o. refl) replaces.AddsCount replaces.AddsChange here add_it,
              (λ holds. ap (λ a. places a) (acts_more scene start here.span es (refl, tt) (λ start has_stored. refl))
                  ∙ placed_once (done scene) i value hidden),
              (λ holds lives. (
                fold-append (left_after i) true events es ∙ at_same i i false (left_of i events) refl,
                ap is_some (fold-append (contents_after i) None events es ∙ at_same i i (Some value) (contents_of i events) refl),
              )),
            );
          }))
          -- the number is odd: a well-formed run has no such step, so nothing is to be said of what stands
          (λ t.
          let well_formed =
          was_going replacing replaces.AddsCount here knows.filled (words_after ws (Some add_it)) y (none_in_call scene) (omega arith) in
          let ill_formed =
          λ (holds : WellFormed (after scene (words_after ws (Some add_it)) y [])).
          let even = (has_stored.has (well_formed holds) (acts.stays holds.kept)).even in
          let odd = odd_is count_now t in
          absurd {A = ⊥} (omega arith) in
          let never = λ (holds : IsWellFormedSoFar scene.terms (put p y latest) events).
          ill_formed (subst (λ es. IsWellFormedSoFar scene.terms (put p y latest) es) (sym (append-nil events)) holds) in
          goes_calmly scene (at_stage replacing replaces.AddsChange) (Some add_it) false here.span (record {
            does =
                misplaces (as_given replacing replaces.AddsCount here) y {i = i} (record { below = below; new = new; owed = refl })
                well_formed ill_formed;
            few = omega arith;
            stands = (refl, given_is replacing, fits, (below, none_done));
            known = (
              knows_calm replaces.AddsCount replaces.AddsChange here add_it,
              (λ holds. absurd (never holds)),
              (λ holds lives. absurd (never holds)),
            );
          }))

    -- ---- the change is counted, and the call ends

    -- the replace has placed its value, and counts the change
    module _ (here : IsAtStage replacing replaces.AddsChange) (placed : HasPlaced code c i value (sees_now scene))
        (stood : Stood code c owner i (sees_now scene)) (few_steps : steps ≤ 4 + code.size) where
      abbrev end_it : Ask
      end_it = adds_one (change_word c)

      -- the step in which a replace counts its change ends the replace
      pub end_step : StepOf scene start (at_stage replacing replaces.AddsChange)
      end_step =
          let party_after = party_then scene start (Some end_it) false (Done answers.Done) in
          let written : List (Event T) = Finished p (Container start) answers.Done ∷ [] in
          let well_formed =
          well_formed_before scene.terms p party_after latest events written (refl, tt) (λ h. stands_if replacing replaces.AddsChange here
          (λ few. h.replaced events [] (Finished p (Container start) answers.Done) refl)) in
          let new = adds_to_change inv in
          ends scene answers.Done (Some end_it) false here.span (record {
            longer = none_lengthens;
            does = ends_counted (as_given replacing replaces.AddsChange here) party_after (record {
              set_does =
                  end_does (as_given replacing replaces.AddsChange here) party_after
                  (leaves_behind (inv_of_set scene inv) (words_after ws (Some end_it)) (change_word c) _ (omega arith) new)
                  (quiet_end p (Container start) answers.Done (λ i o. refl) (λ i r. refl));
              answers = (below, knows.filled);
              placed = λ holds. placed (well_formed holds);
              well_formed = well_formed;
            })
                new says;
            follows = ((refl, none_done), tt);
            few = omega arith;
            paid = let paid = knows.paid in omega arith;
          })
        where
          -- an index that is announced once the replace has ended has a value
          says : WellFormed (before scene) → (a : ℕ)
              → announced_after a (announced_of a events) (Finished p (Container (Replace index value owner)) answers.Done) ≡ true
              → is_some (contents_of a events) ≡ true
          says = grind (arith, is_some, at_other, cases_eq)

-- The steps of a recovery of the robust set that load the counter or a cell, and its end. Each keeps the
-- invariant, in the form that the frame asks of a turn (`Shows`, Invariant).
use Rattle.laws_robust.proofs.Names.{◌≡◌, ◌≢◌, ℕ, ◌+◌, ◌*◌, ◌<◌, ◌≤◌, ◌==◌, ◌⊎◌, ⊎_elim, inl, inr, if◌then◌else◌}
use Rattle.laws_robust.proofs.Names.{nat_lt, Bool, true, false, Option, Some, List, [], ◌∷◌, ◌++◌, refl, sym, subst}
use Rattle.laws_robust.proofs.Names.{◌∙◌, arith, AllByRecursion, cases_lt, nat_tests, fold-append, Ask, After, GoOn}
use Rattle.laws_robust.proofs.Names.{Done, ReleaseMode, LockIfLastIndex, Default, ReleaseState, Lock, RecoverStage}
use Rattle.laws_robust.proofs.Names.{cell_word, empty, locked, at_recover, recover_comes_to, by_test, went_on, State}
use Rattle.laws_robust.proofs.Names.{Event, Asked, Finished, Robust, most_steps, promise, IsUnlocked, HeldThroughout}
use Rattle.laws_robust.proofs.Names.{StillToFree, SetAct, Frees, Asks, Yes, set_acts, asked_in, filled_of}
use Rattle.laws_robust.proofs.Names.{set_acts_of, IsOneOf, as_it_is, BeginsNone, HeldSometime, Stands, Open, as_call}
use Rattle.laws_robust.proofs.Names.{words_after, step_count, held_now, held_later, no_more, AllFollow, AreRight, ap}
use Rattle.laws_robust.proofs.Names.{append-nil, index_asked}
use Rattle.steps.specs.declared.indices.enums.ReleaseState.TheVariants as states
use Rattle.steps.specs.declared.indices.robust.recover.Recover as calls
use Rattle.steps.specs.declared.indices.robust.recover.RecoverStage.TheVariants as recovers
use Rattle.model.specs.declared.families.indices.robust.RobustStart.TheVariants.{Recover}
use Rattle.model.specs.declared.families.indices.robust.calls.RobustFlight.TheVariants as flights
use Rattle.laws_robust.specs.Gone.{is_gone, IsHonestBy, AsksBy, AnswersBy}
use Rattle.laws_robust.proofs.Core.{counter_of, cell}
use Rattle.laws_robust.proofs.SetActs.{asks_more, freed_more}
use Rattle.laws_robust.proofs.Effects.{Stays, quiet_asked, quietly, unlocked, is_shut}
use Rattle.lemmas_owners.proofs.Choices.{some_none, one_owner}
use Rattle.laws_robust.proofs.Effects.{stays_same, filled_none, filled_some, quiet_none}
use Rattle.laws_robust.proofs.Gone.{gone_more, honest_less, stays_lost}
use Rattle.laws_robust.proofs.Invariant.{IsWorn, Scene, Inv, Good, Does, wrote_of}
use Rattle.laws_robust.proofs.Knows.{Knows, IsPaid, WasOpen, AskedBelow, GoneBut, LockSays}
use Rattle.laws_robust.proofs.CallProgress.{at_least_four, recover_at, for_back, for_index, IsInCourse}
use Rattle.lemmas_owners.proofs.Past.{through_less, through_now}
use Rattle.laws_robust.proofs.Stages.{IsHere, Lengthens, now, sees, then_sees, backs_then}
use Rattle.lemmas_owners.proofs.Operations.{loads, loads_same}
use Rattle.laws_robust.proofs.Stages.{set_acts_more, StepOf, Leads, goes_on, goes_quietly, ends_quietly}
use Rattle.laws_robust.proofs.Stages.{none_lengthens}
use Rattle.lemmas.proofs.Cases.{on_bool}
use Rattle.lemmas_owners.proofs.Lists.{all_so, still_one, last_one, was_one}

-- the bound on the steps of a recovery, in either mode
most_is : (c backs : ℕ) (mode : ReleaseMode) → most_steps c (Recover mode) backs ≡ 2 + c * for_index c mode + backs * for_back c mode
most_is c backs Default = omega arith
most_is c backs LockIfLastIndex = omega arith

-- a lock of a recovery says nothing of its count
pub nothing_said : (c : ℕ) (lock : Lock) → LockSays c (λ k filled. Unit {0}) lock
nothing_said c lock = grind arith

-- ---- what a recovery knows once it has done one thing more to the set

-- The party takes a step that leaves the words `words'` and writes the events `es`, which begin no call: it does to the set what a turn may do,
-- and the call has done `d` after all that it had done before.
pub record DoesOneMore {T : Type 0} (scene : Scene T) (d : SetAct) (es : List (Event T)) (words' : List ℕ) : Type 0 where
  pub begins : BeginsNone scene.party es
  pub more : set_acts_of scene.party (scene.events ++ es) ≡ set_acts_of scene.party scene.events ++ d ∷ []
  pub does : Does scene words' es

-- a recovery that does `d` at its index is still in its course, if `d` asks about no later index and frees only what was asked about
pub course_more : {c index : ℕ} (d : SetAct) {done : List SetAct} → IsInCourse c index (index + 1) done
    → AllByRecursion (λ i. i < index + 1) (index_asked d) → ((i owner : ℕ) → d ≡ Frees i owner → IsOneOf (Asks i owner) done)
    → IsInCourse c index (index + 1) (done ++ d ∷ [])
course_more {index = index} d {done = done} course asks frees =
    record { within = course.within; asked = asks_more (index + 1) d done course.asked asks; freed = freed_more d done course.freed frees }

module _ {T : Type 0} {scene : Scene T} {d : SetAct} {es : List (Event T)} {words' : List ℕ} (step : DoesOneMore scene d es words') where
  open scene use {by as by_terms, party as p, events as events}
  open step use {begins, more, does}

  -- where the set was unlocked at a moment of the call before the step, so it was by the events after the step
  pub open_then : WasOpen (now scene) → HeldSometime p IsUnlocked (events ++ es)
  open_then was_open = held_later p IsUnlocked events es begins was_open

  -- an act of the recovery is one after the step
  still_one_then : {one : SetAct} → IsOneOf one (set_acts_of p events) → IsOneOf one (set_acts_of p (events ++ es))
  still_one_then {one = one} is_one = subst (IsOneOf one) (sym more) (still_one one (set_acts_of p events) (d ∷ []) is_one)

  -- each index below `k` that was to be freed throughout the call has still been asked about after the step
  pub asked_then : (k : ℕ) → AskedBelow k (now scene) → (i owner : ℕ) → i < k
      → HeldThroughout p (StillToFree p owner i) (events ++ es) → IsOneOf (Asks i owner) (set_acts_of p (events ++ es))
  asked_then k asked_below i owner below through =
      still_one_then (asked_below i owner below (through_less p (StillToFree p owner i) events es begins through))

  -- what a recovery knows of the indices that it was told to free, once it has done `d`
  pub gone_then : (Was Now : ℕ → ℕ → Type 0) → GoneBut Was (now scene)
      → ((i owner : ℕ) → Was i owner → (filled_of i (events ++ es) ≢ Some owner) ⊎ Now i owner)
      → ((i owner : ℕ) → d ≡ Yes i owner → (is_gone by_terms owner (events ++ es) ≡ true) × Now i owner)
      → (i owner : ℕ) → IsOneOf (Yes i owner) (set_acts_of p (events ++ es))
      → (is_gone by_terms owner (events ++ es) ≡ true)
      × (IsHonestBy by_terms (events ++ es) → (filled_of i (events ++ es) ≢ Some owner) ⊎ Now i owner)
  gone_then Was Now gone_but was new i owner told =
      ⊎_elim
      (λ earlier.
      let k = gone_but i owner earlier in (
        gone_more by_terms owner events es k.0,
        λ honest. ⊎_elim (λ gone. inl (λ e. gone (stays_lost by_terms events es does.goes.fills i owner honest k.0 e)))
            (λ exempt. was i owner exempt) (k.1 (honest_less by_terms events es honest)),
      ))
      (λ is. let k = new i owner is in (k.0, λ honest. inr k.1))
      (was_one (Yes i owner) d (set_acts_of p events) (subst (IsOneOf (Yes i owner)) more told))

-- The party `p` recovers in this mode. `c` is the capacity, `ws` the words before the step, `done` what the
-- recovery has done to the set.
module _ {T : Type 0} (scene : Scene T) (inv : Inv scene) (mode : ReleaseMode) (here : IsHere scene (Recover mode)) where
  open scene use {by as by, capacity as c, party as p, steps as steps, backs as backs, events as events}

  -- the words of the set before the step
  abbrev ws : List ℕ
  ws = scene.set.words

  -- the acts of the recovery so far
  abbrev done : List SetAct
  done = set_acts_of p events

  pub good_before : Good by c ws scene.set.dead events scene.turns
  good_before = inv.good

  -- the recovery at a stage
  abbrev call_at : RecoverStage → calls.Recover
  call_at stage = record { capacity = c; stage = stage }

  -- a step that wrote `did`, after which the recovery is as `a` says, keeps the invariant (`Shows`)
  abbrev Lead : Option Ask → Bool → List (Event T) → After calls.Recover ReleaseState → Type 0
  Lead ask back did a =
      Leads scene (Recover mode) ask back did (as_call flights.Recover State (went_on as_it_is mode tt a))

  -- the steps of the recovery up to this index are within their bound
  abbrev Few : Option Ask → Bool → ℕ → ℕ → Type 0
  Few ask back n index = steps + step_count ask ≤ n + index * for_index c mode + backs_then scene back * for_back c mode

  -- a step whose events do `d` to the set, and neither begin nor end a call, does one thing more
  pub does_one_more : {d : SetAct} {es : List (Event T)} {words' : List ℕ} → BeginsNone p es → Lengthens es → set_acts es ≡ d ∷ []
      → Does scene words' es → DoesOneMore scene d es words'
  does_one_more {es = es} begins longer is does =
      record { begins = begins; more = set_acts_more scene (Recover mode) here es does.own longer ∙ ap (λ ds. done ++ ds) is; does = does }

  -- ---- the end

  -- a recovery ends with a state that is right, in a step that leaves all words but the counter, and within
  -- its bound of steps
  pub ends_so : (state : ReleaseState) (ask : Option Ask) (back : Bool) → Stays scene (words_after ws ask)
      → AnswersBy by (IsWorn by (words_after ws ask)) c events (Finished p (Robust (Recover mode)) (State state))
      → steps + step_count ask ≤ 2 + c * for_index c mode + backs_then scene back * for_back c mode
      → IsPaid (sees scene ask back) → Lead ask back [] (Done state)
  ends_so state ask back stays right few paid =
      let most = most_is c (backs_then scene back) mode in
      ends_quietly scene inv ask back here (record {
        stays = stays;
        settles = λ i o. refl;
        rights = λ i r. refl;
        right = right;
        done = tt;
        few = omega arith;
        paid = paid;
      })

  -- ---- the next index, or the second look at the counter

  -- where no index follows, a recovery that has come past this one keeps within its bound
  few_last : {index : ℕ} (ask : Option Ask) (back : Bool) → Few ask back 1 (index + 1) → index < c → c ≤ index + 1
      → steps + step_count ask ≤ 1 + c * for_index c mode + backs_then scene back * for_back c mode
  few_last ask back few below last = grind arith

  -- What has to be shown of the last step at `index`, which writes the events `did`: they do not end the call and may stand in it, the step
  -- does to the set what a turn may do, it is within the bound, and what the recovery has asked, freed and knows with these events.
  pub record ComesLoudly (index : ℕ) (ask : Option Ask) (back : Bool) (did : List (Event T)) : Type 0 where
    pub few : Few ask back 1 (index + 1)
    pub longer : Lengthens (did ++ [])
    pub does : Does scene (words_after ws ask) (did ++ [])
    pub follows : AllFollow (Stands promise c) (Open (Robust (Recover mode)) (wrote_of p events)) (did ++ [])
    pub asks : AreRight (AsksBy by) events (did ++ [])
    pub paid : IsPaid (then_sees scene ask back (did ++ []))
    pub course : IsInCourse c index (index + 1) (done ++ set_acts (did ++ []))
    pub open_once : WasOpen (then_sees scene ask back (did ++ []))
    pub says : AskedBelow (index + 1) (then_sees scene ask back (did ++ []))
    pub gone : GoneBut (λ i o. ⊥) (then_sees scene ask back (did ++ []))

  -- such a step leads a recovery to the next index, or to the second look at the counter
  pub comes_loudly : {index : ℕ} (stage : RecoverStage) (ask : Option Ask) (back : Bool) (did : List (Event T)) → ComesLoudly index ask back did
      → Lead ask back did (recover_comes_to (call_at stage) (index + 1))
  comes_loudly {index} stage ask back did comes =
      let course = comes.course in
      by_test (λ s. Lead ask back did (GoOn (at_recover (call_at stage) s))) (nat_lt (index + 1) c)
      (recovers.LoadsCell (index + 1)) recovers.LoadsCounterAgain
      (λ t.
      let more : index + 1 < c = grind (arith, nat_tests) in
      goes_on scene ask back did here (record {
        longer = comes.longer;
        does = comes.does;
        follows = comes.follows;
        asks = comes.asks;
        few = comes.few;
        stands = (refl, refl, record { within = more; asked = course.asked; freed = course.freed });
        known = record { paid = comes.paid; scanned = tt; owns = tt; says = (comes.open_once, comes.says); gone = comes.gone };
      }))
      (λ t.
      let last : c ≤ index + 1 = grind (arith, nat_tests) in
      let below = course.within in
      let end : index + 1 ≡ c = omega arith in
      let said = comes.says in
      goes_on scene ask back did here (record {
        longer = comes.longer;
        does = comes.does;
        follows = comes.follows;
        asks = comes.asks;
        few = few_last ask back comes.few below last;
        stands = (refl, refl, course.freed);
        known = record { paid = comes.paid; scanned = tt; owns = tt; says = rw (← end) said; gone = comes.gone };
      }))

  -- What has to be shown of the last step at `index`, which writes nothing and leaves all words but the counter: it is within the bound, and
  -- what the recovery has asked, freed and knows as far as this index.
  pub record ComesQuietly (index : ℕ) (ask : Option Ask) (back : Bool) : Type 0 where
    pub few : Few ask back 1 (index + 1)
    pub stays : Stays scene (words_after ws ask)
    pub paid : IsPaid (sees scene ask back)
    pub course : IsInCourse c index (index + 1) done
    pub open_once : WasOpen (now scene)
    pub says : AskedBelow (index + 1) (now scene)
    pub gone : GoneBut (λ i o. ⊥) (now scene)

  -- such a step leads a recovery to the next index, or to the second look at the counter
  pub comes_quietly : {index : ℕ} (stage : RecoverStage) (ask : Option Ask) (back : Bool) → ComesQuietly index ask back
      → Lead ask back [] (recover_comes_to (call_at stage) (index + 1))
  comes_quietly stage ask back comes =
      comes_loudly stage ask back [] (record {
        few = comes.few;
        longer = none_lengthens;
        does = quietly scene inv (words_after ws ask) [] comes.stays.leaves quiet_none tt tt tt;
        follows = tt;
        asks = tt;
        paid = comes.paid;
        course = rw (append-nil done) comes.course;
        open_once = rw (append-nil events) comes.open_once;
        says = rw (append-nil events) comes.says;
        gone = rw (append-nil events) comes.gone;
      })

  -- ---- the load of the counter

  -- the load of the counter ends the recovery with Locked where the counter is locked, and else leads to
  -- the first index
  pub loads_counter : done ≡ [] → steps ≤ 0
      → Knows c (recover_at c mode recovers.LoadsCounter) (now scene)
      → StepOf scene (Recover mode) (recover_at c mode recovers.LoadsCounter)
  loads_counter none s knows =
      on_bool
      (λ b. Lead (Some (loads 0)) false [] (if b then Done states.Locked else recover_comes_to (call_at recovers.LoadsCounter) 0))
      (counter_of ws == locked)
      -- the counter is locked: the recovery ends with Locked
      (λ t.
      let shut : counter_of ws ≡ locked = grind (arith, nat_tests) in
      let paid = knows.paid in
      ends_so states.Locked (Some (loads 0)) false (stays_same scene inv _ (loads_same ws 0))
      (is_shut scene inv shut) (omega arith) (omega arith))
      -- the set is open: the recovery goes on to the first index
      (λ t.
      let open_now : counter_of ws ≢ locked = grind (arith, nat_tests) in
      let paid = knows.paid in
      let some = good_before.some in
      by_test (λ s. Lead (Some (loads 0)) false [] (GoOn (at_recover (call_at recovers.LoadsCounter) s)))
      (nat_lt 0 c) (recovers.LoadsCell 0) recovers.LoadsCounterAgain
      (λ u.
      goes_quietly scene inv
      (Some (loads 0)) false here (stays_same scene inv _ (loads_same ws 0)) (omega arith) (
        refl,
        refl,
        record {
          within = omega arith;
          asked = rw none tt;
          freed = λ i owner freed. absurd
              (no_more freed.before (Frees i owner) freed.after (sym none ∙ freed.is));
        },
      )
      (record {
        paid = omega arith;
        scanned = tt;
        owns = tt;
        says = (held_now p IsUnlocked events (unlocked scene inv open_now), λ i owner below. absurd (omega arith));
        gone = knows.gone;
      }))
      (λ u. let nothing : c ≤ 0 = grind (arith, nat_tests) in absurd (omega arith)))

  -- ---- the load of a cell

  -- the recovery loads the cell of the index `index`
  module _ {index : ℕ} (course : IsInCourse c index index done)
      (few_steps : steps ≤ 1 + index * for_index c mode + backs * for_back c mode)
      (knows : Knows c (recover_at c mode (recovers.LoadsCell index)) (now scene)) where
    abbrev load : Option Ask
    load = Some (loads (cell_word index))

    -- the recovery is in its course also as it comes past this index: the indices asked about are below the next one
    course_next : IsInCourse c index (index + 1) done
    course_next =
        record {
          within = course.within;
          asked = all_so (λ i. i < index) (λ i. i < index + 1) (asked_in done) (λ i less. omega arith) course.asked;
          freed = course.freed;
        }

    -- where the cell is empty nothing is to be freed at the index, so the recovery has
    -- asked about all up to it
    passed_says : cell ws index ≡ empty → AskedBelow (index + 1) (now scene)
    passed_says = grind (arith, some_none, filled_none, through_now)

    -- where the cell is empty, the recovery goes to the next index
    passes_empty : cell ws index ≡ empty → Lead load false [] (recover_comes_to (call_at (recovers.LoadsCell index)) (index + 1))
    passes_empty cell_empty =
        let four = at_least_four c mode in
        let paid = knows.paid in
        comes_quietly (recovers.LoadsCell index) load false (record {
          few = omega arith;
          stays = stays_same scene inv _ (loads_same ws (cell_word index));
          paid = omega arith;
          course = course_next;
          open_once = knows.says.0;
          says = passed_says cell_empty;
          gone = knows.gone;
        })

    -- the cell has an owner
    module _ (other : cell ws index ≢ empty) where
      -- the event of a question about the owner in the cell
      abbrev asking : List (Event T)
      asking = Asked p index (cell ws index) ∷ []

      -- the cell has an owner, with whom the index is filled
      is_filled : (cell ws index < empty) × (filled_of index events ≡ Some (cell ws index))
      is_filled = filled_some scene inv index course.within other

      -- the step that asks changes no word, and does what a turn may do
      asks_does : Does scene (words_after ws load) asking
      asks_does =
          quietly scene inv (words_after ws load) asking
          (stays_same scene inv _ (loads_same ws (cell_word index))).leaves (quiet_asked)
          (refl, tt) (tt, tt) (tt, tt)

      -- the question is one more act of the recovery
      asks_one : DoesOneMore scene (Asks index (cell ws index)) asking (words_after ws load)
      asks_one = does_one_more tt (λ start w. refl) refl asks_does

      -- a recovery that asks about one more index is in its course, and has asked about each that it freed
      course_then : IsInCourse c index (index + 1) (done ++ Asks index (cell ws index) ∷ [])
      course_then = course_more (Asks index (cell ws index)) course_next (omega arith, tt) (λ i owner e. absurd (cc))

      -- once it has asked about the owner in the cell, the recovery has asked about all up to the index
      asks_says : AskedBelow (index + 1) (then_sees scene load false asking)
      asks_says i owner below through =
          ⊎_elim (λ before. asked_then asks_one index knows.says.1 i owner before through)
          (λ last.
          let same : i ≡ index = omega arith in
          ⊎_elim (λ filled. filled_here i owner same filled)
          (λ freed. subst (IsOneOf (Asks i owner)) (sym asks_one.more)
          (course_then.freed i owner (subst (IsOneOf (Frees i owner)) asks_one.more freed)))
          (through_now p (StillToFree p owner i) (events ++ asking) through))
          (cases_lt i index)
        where
          -- if the index that is asked about is filled, the question is about its owner
          filled_here : (i owner : ℕ) → i ≡ index
              → filled_of i (events ++ Asked p index (cell ws index) ∷ []) ≡ Some owner
              → IsOneOf (Asks i owner) (set_acts_of p (events ++ Asked p index (cell ws index) ∷ []))
          filled_here = grind (arith, fold-append, cell, one_owner, asks_one.more, last_one)

      -- where the cell has an owner, the recovery asks about that owner
      asks_about : Lead load false asking (GoOn (at_recover (call_at (recovers.LoadsCell index)) (recovers.Asks index (cell ws index))))
      asks_about =
          let paid = knows.paid in
          goes_on scene load false asking here (record {
            longer = λ start w. refl;
            does = asks_does;
            follows = (course.asked, tt);
            asks = ((is_filled.1, knows.says.0), tt);
            few = omega arith;
            stands = (refl, refl, (course_then, is_filled.0, record { before = done; is = refl }));
            known = record {
              paid = omega arith;
              scanned = tt;
              owns = tt;
              says = (open_then asks_one knows.says.0, asks_says);
              gone = gone_then asks_one (λ i o. ⊥) (λ i o. ⊥) knows.gone (λ i o never. absurd never) (λ i o e. absurd (cc));
            };
          })

    -- the load of a cell keeps the invariant (`Shows`), whether the cell is empty or not
    pub loads_cell : StepOf scene (Recover mode) (recover_at c mode (recovers.LoadsCell index))
    loads_cell =
        on_bool (λ b. Lead (Some (loads (cell_word index))) false (if b then [] else Asked p index (cell ws index) ∷ [])
        (if b then recover_comes_to (call_at (recovers.LoadsCell index)) (index + 1) else GoOn
        (at_recover (call_at (recovers.LoadsCell index)) (recovers.Asks index (cell ws index)))))
        (cell ws index == empty)
        (λ t. let is : cell ws index ≡ empty = grind (arith, nat_tests) in passes_empty is)
        (λ t. let other : cell ws index ≢ empty = grind (arith, nat_tests) in asks_about other)

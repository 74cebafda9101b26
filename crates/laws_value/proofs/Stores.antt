-- The steps of a store of the single value: it loads the version, stores the words of its value into the
-- version's cell, and adds 1 to the version, by which the value comes to stand.
use Rattle.std.proofs.Common.{◌≡◌, ℕ, ◌+◌, ◌-◌, ◌*◌, ◌%◌, ◌^◌, ◌<◌, ◌≤◌, ◌==◌, nat_lt, Bool, true, false, Option, Some}
use Rattle.std.proofs.Common.{[], ◌∷◌, get_or, refl, sym, ap, subst, arith}
use Rattle.laws_value.proofs.Names.{nat_tests, Ask, After, GoOn, StoreStage, cell_word, word_at, Answer, Atomic}
use Rattle.laws_value.proofs.Names.{AtomicFlight, IsCoding, after, change_of, Scene, Inv}
use Rattle.steps.specs.declared.ask.Op.TheVariants.{Store, Add}
use Rattle.steps.specs.declared.atomic.StoreStage.TheVariants as storing
use Rattle.model.specs.declared.event.Answer.TheVariants as answers
use Rattle.model.specs.declared.event.Event.TheVariants.{Acted}
use Rattle.model.specs.declared.families.atomic.AtomicStart.TheVariants as starts
use Rattle.laws_queues.proofs.Queues.Keeping.{clash}
use Rattle.model.specs.Fresh.{IsFreshStore}
use Rattle.laws_value.proofs.Core as core
use Rattle.laws_value.proofs.Core.{Core, Good, IsFilled, layout, free, filled, fills, one_filled}
use Rattle.laws_value.proofs.Invariant.{Value, outline}
use Rattle.laws_value.proofs.Knows.{KnowsStore, store_at, store_number, load_stays, load_passed, kept}
use Rattle.laws_value.proofs.Stages.{StepShowsBy, StepOf, quiet}

-- the word of a cell as a call computes it, with numbers that wrap, is the word of the cell behind the
-- version and the role's word
pub asked_place : (size n at : ℕ) → size ≤ 128 → at < size → word_at (cell_word size n) at ≡ 2 + (size * (n % 2) + at)
asked_place = grind arith

-- the store of `value` in the turn of the scene, by the party that has the producer's role; a store has no
-- loop, so it has not turned back
module _ {T : Type 0} {scene : Scene T Value} (inv : Inv outline scene) (value : T)
    (holds : scene.state.holder ≡ Some scene.party) (no_turn_back : scene.backs ≡ 0) where
  open scene.state use {holder as ho, core as k}
  open scene use {coding as code, party as p, steps, backs}

  -- what holds of the words before the step
  g : Good code.size k
  g = inv.holds.good

  coded : IsCoding code
  coded = inv.holds.coded

  -- what a step with the operation `ask`, after which the store is this, has to show
  abbrev StepShows : Option Ask → After (AtomicFlight T) (Answer T) → Type 0
  StepShows ask after = StepShowsBy scene (starts.Store value) ask false after

  -- what a step of the store at this stage has to show
  abbrev StageShows : StoreStage → Type 0
  StageShows stage = StepOf scene (starts.Store value) (store_at value stage)

  abbrev adds_one : Option Ask
  adds_one = Some (record { word = 0; op = Add 1 })

  -- the step in which a store loads the version: it goes on to the first word of its cell
  loads : k.version < 2 ^ 64 - 1 → steps ≤ 0 → StageShows storing.LoadsVersion
  loads = grind arith

  -- the stage at which the store stores word `at` of its value
  abbrev cell : ℕ → StoreStage
  cell at = storing.StoresCell (cell_word code.size k.version) at

  -- word `at` of the value, the operation that stores it, and the value with its words after that
  abbrev word : ℕ → ℕ
  word at = get_or (code.words_of value) at 0

  abbrev stores_word : ℕ → Option Ask
  stores_word at = Some (record { word = word_at (cell_word code.size k.version) at; op = Store (word at) })

  abbrev then_core : ℕ → Core
  then_core at = filled code.size k at (word at)

  -- a store of a word leads to the stage `stage`, where the store knows what that stage asks
  stored_word : (at : ℕ) → at < code.size → steps ≤ 1 + at → (stage : StoreStage)
      → KnowsStore code.size (then_core at) (code.words_of value) stage → 1 + at + 1 ≤ store_number code.size stage
      → StepShows (stores_word at) (GoOn (store_at value stage))
  stored_word at below few_steps stage knows more =
      quiet scene inv false (starts.Store value) (stores_word at) (store_at value stage) (then_core at) (record {
        version = refl;
        now = refl;
        good = fills code.size at (word at) below g;
        words_then =
            core.set_at k.version (free ho) k.cells (word_at (cell_word code.size k.version) at)
            (code.size * (k.version % 2) + at) (word at) (asked_place code.size k.version at coded.few below);
        steps = omega arith;
        at = (holds, refl, knows);
        knows = omega arith;
        others =
            λ q ne. kept code ho ho k (then_core at) q (record {
              holder = λ h. h;
              store = λ h words stage other. absurd (clash ho p q ne holds h);
              load = λ room stage other. load_stays code.size k (then_core at) room stage refl refl other;
            });
      })

  -- the step in which a store stores a word into the cell: it goes on to the next word, or to the version
  -- behind the last
  stores_cell : (at : ℕ) → at < code.size → IsFilled code.size k (code.words_of value) at → k.version < 2 ^ 64 - 1 → steps ≤ 1 + at → StageShows (cell at)
  stores_cell at below so_far fresh few_steps = go (nat_lt (at + 1) code.size) refl
    where
      -- after the step one word more of the value is in the cell
      filled_more : IsFilled code.size (then_core at) (code.words_of value) (at + 1)
      filled_more = one_filled code.size (code.words_of value) at below g so_far

      -- the cases are whether a further word of the value follows
      go : (t : Bool) → nat_lt (at + 1) code.size ≡ t → StageShows (cell at)
      go true word_test =
          let next : at + 1 < code.size = grind (arith, nat_tests) in
          let goes : after code (store_at value (cell at)) (get_or (layout ho k) (word_at (cell_word code.size k.version) at) 0)
          ≡ GoOn (store_at value (cell (at + 1))) =
          rw word_test refl in
          subst (λ a. StepShows (stores_word at) a) (sym goes) (stored_word at below few_steps (cell (at + 1)) (refl, next, filled_more, fresh) (omega arith))
      go false word_test =
          let last : at + 1 ≡ code.size = grind (arith, nat_tests) in
          let goes : after code (store_at value (cell at)) (get_or (layout ho k) (word_at (cell_word code.size k.version) at) 0)
          ≡ GoOn (store_at value storing.AddsVersion) =
          rw word_test refl in
          subst (λ a. StepShows (stores_word at) a) (sym goes)
          (stored_word at below few_steps storing.AddsVersion
          (subst (λ n. IsFilled code.size (then_core at) (code.words_of value) n) last filled_more, fresh)
          (omega arith))

  -- the step that adds 1 to the version ends the store, with its value as the one that stands
  adds : IsFilled code.size k (code.words_of value) code.size → k.version < 2 ^ 64 - 1 → steps ≤ 1 + code.size → StageShows storing.AddsVersion
  adds whole fresh few_steps =
      let low = inv.holds.reached in
      -- the version fits its word after the step
      let next : (k.version + 1) % 2 ^ 64 ≡ k.version + 1 = omega arith in
      let moved : ((k.version + 1) % 2 ^ 64 == k.version) ≡ false = grind (arith, nat_tests) in
      let one : change_of (layout ho k) adds_one ≡ 1 = rw moved refl in
      let same : value ≡ code.value_of (code.words_of value) = sym (coded.given_back value) in
      let k' : Core = core.stored code.size k (code.words_of value) in (
        k',
        ap (λ n. n ∷ free ho ∷ k.cells) next,
        record {
          preserves =
              -- the value that stands then is the one that is stored; a load of another party
              -- finds the version moved
              record {
                right = (tt, (tt, tt));
                grants = (tt, (tt, tt));
                good = core.stores code.size k (code.words_of value) (coded.sized value) g whole;
                holders = refl;
                goes = same;
                answers = refl;
                up = record { version = omega arith; paid = omega arith };
                reached = omega arith;
                within = omega arith;
                counted = refl;
                others =
                    λ q ne. kept code ho ho k k' q (record {
                      holder = λ h. h;
                      store = λ h words stage other. absurd (clash ho p q ne holds h);
                      load = λ room stage other. load_passed code.size k k' room stage (omega arith) other;
                    });
              };
          own = (refl, (refl, tt));
          stands = ((refl, refl), ((refl, refl), tt));
          here =
              record {
                answer = answers.Truth true;
                wrote = Acted p (Atomic (starts.Store value)) (answers.Truth true) ∷ [];
                span = refl;
                steps = omega arith;
              };
          knows = omega arith;
        },
      )

  -- each step of a store, at whatever stage, keeps the invariant
  pub store_step : (stage : StoreStage) → IsFreshStore k.version stage
      → KnowsStore code.size k (code.words_of value) stage → steps ≤ store_number code.size stage → StageShows stage
  store_step storing.LoadsVersion fresh knows few_steps = loads fresh few_steps
  store_step (storing.StoresCell at_word at) fresh knows few_steps =
      subst (λ n. StageShows (storing.StoresCell n at)) (sym knows.0) (stores_cell at knows.1 knows.2 knows.3 few_steps)
  store_step storing.AddsVersion fresh knows few_steps = adds knows.0 knows.1 few_steps

-- Each step of a find, and each answer to its question, keeps the invariant, in the form that the frame asks
-- of a turn (`Shows`, Invariant).
use Rattle.laws_robust.proofs.Names.{◌≡◌, ◌≢◌, ℕ, ◌+◌, ◌<◌, ◌≤◌, ◌==◌, if◌then◌else◌, nat_lt, Bool, true, false}
use Rattle.laws_robust.proofs.Names.{Option, Some, None, List, [], refl, ap, ◌∙◌, arith, nat_tests, Ask, After, GoOn}
use Rattle.laws_robust.proofs.Names.{Done, FindStage, at_find, find_comes_to, find_after, cell_word, empty, one_more}
use Rattle.laws_robust.proofs.Names.{by_test, went_on, Number, cell_of, IsFilledWith, IsCount, as_it_is, as_call}
use Rattle.laws_robust.proofs.Names.{words_after, step_count}
use Rattle.steps.specs.declared.indices.robust.find.Find as calls
use Rattle.steps.specs.declared.indices.robust.find.FindStage.TheVariants as finds
use Rattle.model.specs.declared.families.indices.robust.RobustStart.TheVariants.{Find}
use Rattle.model.specs.declared.families.indices.robust.calls.RobustFlight.TheVariants as flights
use Rattle.laws_robust.proofs.Core.{cell}
use Rattle.lemmas_owners.proofs.Counting.{count_next, count_within}
use Rattle.laws_robust.proofs.Effects.{stays_same, filled_by}
use Rattle.laws_robust.proofs.Invariant.{Scene, Inv, Good}
use Rattle.laws_robust.proofs.Knows.{Knows, IsPaid}
use Rattle.laws_robust.proofs.CallProgress.{find_at, find_number, FindAt}
use Rattle.laws_robust.proofs.Stages.{IsHere, all, now, sees, StepOf, AnswerOf, Leads, goes_quietly, ends_quietly}
use Rattle.lemmas_owners.proofs.Operations.{loads, loads_same}
use Rattle.lemmas.proofs.Cases.{on_bool}

-- The party `p` finds for the owner. `c` is the capacity, `ws` the words before the step.
module _ {T : Type 0} (scene : Scene T) (inv : Inv scene) (owner : ℕ) (fits : owner < empty) where
  open scene use {capacity as c, party as p, steps as steps, events as events}

  -- the words of the set before the step
  abbrev ws : List ℕ
  ws = scene.set.words

  good_before : Good scene.by c ws scene.set.dead events scene.turns
  good_before = inv.good

  -- the find at a stage
  abbrev call_at : FindStage → calls.Find
  call_at stage = record { capacity = c; stage = stage }

  -- of the indices below the bound, `number` were filled with the owner: each that is counted at a moment
  -- of the call, and none left out that was so throughout
  abbrev Counted : ℕ → ℕ → Type 0
  Counted bound number = IsCount p (IsFilledWith owner) bound number events

  -- ---- what the value of a cell tells

  -- the find has come to the index `k`, and has counted `found` below it
  module _ {k found : ℕ} (below : k < c) (counted : Counted k found) where
    -- a cell that has the owner adds one to those counted
    one_counts : cell ws k ≡ owner → Counted (k + 1) (one_more found)
    one_counts cell_is =
        let few = good_before.few in
        let most = count_within p (IsFilledWith owner) k found events counted in
        let next : one_more found ≡ 1 + found = omega arith in
        count_next (IsFilledWith owner) counted true next
        (λ e. filled_by scene inv k below owner fits cell_is) (λ e. absurd (cc))

    -- a cell that does not have the owner adds none
    none_counts : cell ws k ≢ owner → Counted (k + 1) found
    none_counts other =
        count_next (IsFilledWith owner) counted false (omega arith) (λ e. absurd (cc))
        (λ e filled. other (good_before.cells k below ∙ ap cell_of filled))

  -- ---- what a step leads to

  module _ (here : IsHere scene (Find owner)) (none : all scene ≡ []) where
    -- a step that writes nothing, after which the find is as `a` says, keeps the invariant (`Shows`)
    abbrev Lead : Option Ask → After calls.Find ℕ → Type 0
    Lead ask a = Leads scene (Find owner) ask false [] (as_call flights.Find Number (went_on as_it_is owner tt a))

    -- the step leaves the words, and the find has counted up to `k` with it
    module _ (ask : Option Ask) (same : words_after ws ask ≡ ws) (paid : IsPaid (sees scene ask false))
        (stage : FindStage) (k : ℕ) {found : ℕ} (below : k < c) (low : steps + step_count ask ≤ k + 1)
        (counted : Counted (k + 1) found) where
      -- the find may end with the number `found`
      ends_there : Lead ask (Done found)
      ends_there =
          ends_quietly scene inv ask false here (record {
            stays = stays_same scene inv (words_after ws ask) same;
            settles = λ i o. refl;
            rights = λ i r. refl;
            right = record { bound = k + 1; within = omega arith; count = counted };
            done = none;
            few = omega arith;
            paid = paid;
          })

      -- a find whose step leaves the words comes to the next index, or ends behind the last
      comes_to_next : Lead ask (find_comes_to (call_at stage) (k + 1) found)
      comes_to_next =
          by_test (Lead ask) (nat_lt (k + 1) c) (GoOn (at_find (call_at stage) (finds.LoadsCell (k + 1) found))) (Done found)
          (λ t.
          let more : k + 1 < c = grind (arith, nat_tests) in
          goes_quietly scene inv ask
          false here (stays_same scene inv (words_after ws ask) same) low (refl, refl, fits, (more, none))
          (record { paid = paid; scanned = tt; owns = tt; says = counted; gone = tt }))
          (λ t. ends_there)

    -- the load of a cell leads to the question about its owner, where the cell has the owner, and else to
    -- the next index
    loads_step : (k found : ℕ) → k < c → Knows c (find_at c owner (finds.LoadsCell k found)) (now scene)
        → steps ≤ k → StepOf scene (Find owner) (find_at c owner (finds.LoadsCell k found))
    loads_step k found below knows few_steps =
        on_bool (λ b. Lead (Some (loads (cell_word k)))
        (if b then GoOn (at_find (call_at (finds.LoadsCell k found)) (finds.Asks k (one_more found))) else
        find_comes_to (call_at (finds.LoadsCell k found)) (k + 1) found))
        (cell ws k == owner)
        (λ t.
        let has_owner : cell ws k ≡ owner = grind (arith, nat_tests) in
        let paid = knows.paid in
        goes_quietly scene inv
        (Some (loads (cell_word k))) false here (stays_same scene inv _ (loads_same ws (cell_word k)))
        (omega arith)
        (refl, refl, fits, (below, none))
        (record { paid = omega arith; scanned = tt; owns = tt; says = one_counts below knows.says has_owner; gone = tt }))
        (λ t.
        let other : cell ws k ≢ owner = grind (arith, nat_tests) in
        let paid = knows.paid in
        comes_to_next (Some (loads (cell_word k))) (loads_same ws (cell_word k)) (omega arith)
        (finds.LoadsCell k found) k below (omega arith)
        (none_counts below knows.says other))

  -- any answer to a find's question keeps the invariant (`Shows`): a no ends the find, and a yes leads to
  -- the next index
  pub find_decided : IsHere scene (Find owner) → (k found : ℕ)
      → FindAt c (all scene) (finds.Asks k found)
      → Knows c (find_at c owner (finds.Asks k found)) (now scene)
      → steps ≤ find_number (finds.Asks k found) → (answer : ℕ)
      → AnswerOf scene (Find owner) (find_at c owner (finds.Asks k found)) None answer
  find_decided here k found at knows few_steps answer = go (answer == 0)
    where
      -- the cases are whether the answer is no
      go : (b : Bool) → Lead here at.1 None (if b then Done found else find_comes_to (call_at (finds.Asks k found)) (k + 1) found)
      go true = let paid = knows.paid in ends_there here at.1 None refl (omega arith) (finds.Asks k found) k at.0 (omega arith) knows.says
      go false = let paid = knows.paid in comes_to_next here at.1 None refl (omega arith) (finds.Asks k found) k at.0 (omega arith) knows.says

  -- each step of a find keeps the invariant (`Shows`)
  pub find_step : IsHere scene (Find owner) → (stage : FindStage) → FindAt c (all scene) stage
      → Knows c (find_at c owner stage) (now scene) → steps ≤ find_number stage
      → StepOf scene (Find owner) (find_at c owner stage)
  find_step = grind (arith, loads_step, find_decided)

  -- ---- a find that is done without a no has come to all indices

  -- a find that comes to its end has counted over the whole set
  comes_to_all : (k : ℕ) {found number : ℕ} (stage : FindStage) → k < c → Counted (k + 1) found
      → find_comes_to (call_at stage) (k + 1) found ≡ Done number → Counted c number
  comes_to_all k stage below counted done_is = grind arith

  -- a find that ends when it has loaded a cell has counted over the whole set
  pub find_loads_all : (k found : ℕ) → FindAt c (all scene) (finds.LoadsCell k found)
      → Knows c (find_at c owner (finds.LoadsCell k found)) (now scene) → (number : ℕ)
      → find_after (record { capacity = c; stage = finds.LoadsCell k found }) owner (cell scene.set.words k) ≡ Done number → Counted c number
  find_loads_all k found at knows number e = go (cell ws k == owner) refl e
    where
      -- the cases are whether the cell has the owner
      go : (b : Bool) → (cell ws k == owner) ≡ b
          → ◌≡◌ {A = After calls.Find ℕ}
          (if b then GoOn (at_find (call_at (finds.LoadsCell k found)) (finds.Asks k (one_more found)))
          else find_comes_to
          (call_at (finds.LoadsCell k found)) (k + 1) found) (Done number) → Counted c number
      go true is_owners e = absurd (cc)
      go false not_owners e =
          let other : cell ws k ≢ owner = grind (arith, nat_tests) in
          comes_to_all k (finds.LoadsCell k found) at.0 (none_counts at.0 knows.says other) e

  -- a find that ends at an answer other than no has counted over the whole set
  pub find_asks_all : (k found : ℕ) → FindAt c (all scene) (finds.Asks k found)
      → Knows c (find_at c owner (finds.Asks k found)) (now scene) → (answer number : ℕ) → answer ≢ 0
      → find_after (record { capacity = c; stage = finds.Asks k found }) owner answer ≡ Done number → Counted c number
  find_asks_all k found at knows answer number yes_told e = go (answer == 0) refl e
    where
      -- the cases are whether the answer is no
      go : (b : Bool) → (answer == 0) ≡ b
          → ◌≡◌ {A = After calls.Find ℕ}
          (if b then Done found else find_comes_to (call_at (finds.Asks k found)) (k + 1) found)
          (Done number)
          → Counted c number
      go true answers_no e = let zero : answer ≡ 0 = grind (arith, nat_tests) in absurd (yes_told zero)
      go false answers_yes e = comes_to_all k (finds.Asks k found) at.0 knows.says e

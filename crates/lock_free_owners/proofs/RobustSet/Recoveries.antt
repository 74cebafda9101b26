-- A recovery between two turns: where it stands on the history with its visits, and what its closures were called with.
use Rattle.std.proofs.Common.{arith}
use Rattle.lock_free_owners.proofs.Names.{◌≡◌, ◌≢◌, ℕ, ◌+◌, ◌<◌, ◌≤◌, Bool, true, false, None, List, [], refl, sym, ap, subst}
use Rattle.lock_free_owners.proofs.Names.{◌∙◌, by_eq, empty, recover_after, After, GoOn, Done, ReleaseMode, ReleaseState}
use Rattle.lock_free_owners.proofs.Names.{Recovering}
use Rattle.lock_free_owners.proofs.Names.{one_word, is_question, number_of, is_locked, seen, View, Visit, recover_hears}
use Rattle.steps.specs.Indices.Robust.Recover.{first_recover, recover_asks, recover_comes_to, recover_takes}
use Rattle.steps.specs.declared.indices.robust.recover.RecoverStage.TheVariants as recovers
use Rattle.threaded.specs.Driver.{Next}
use Rattle.threaded.specs.declared.driver.seated.Seated.{Seated}
use Rattle.history_owners.specs.Robust.{visits_after}
use Rattle.lock_free_owners.specs.Robust.Callable.{questions_of, TakesQuestions, TakesFreed, HasVisited}
use Rattle.lock_free_owners.specs.Robust.Recovering.{StandsSo, EndsSo, LedTo, MayAsk, LeadsOn}
use Rattle.lock_free_owners.specs.Robust.Stages.{RecoverAsks, RecoverMoves}
use Rattle.lock_free_owners.specs.Robust.Turns.{RecoverAt, BeginsRecover, RecoverEnds, RecoverGoes, RecoverSteps}
use Rattle.lock_free_owners.proofs.RobustSet.Asking.{knows}
use Rattle.lock_free_owners.proofs.RobustSet.Turns.{passes}
use Rattle.lock_free_owners.proofs.Rules.Robust.Recovering.{RecoverCase, IsAt, Knows, Onward, Visited, onward, may_ask, well_formed}

-- The recovery that began in the view `base` with these closures, of a set of the capacity that this view has.
abbrev pub began_in : {F S : Type 0} → (F → ℕ → ℕ → Bool → F → Type 0) → (S → ℕ → ℕ → S → Type 0) → ReleaseMode → (base : View ℕ) → base.going ≡ None
    → F → S → RecoverCase F S
began_in step tell mode base idle predicate recovered =
    record {
      step = step;
      tell = tell;
      capacity = base.capacity;
      mode = mode;
      base = base;
      idle = idle;
      known = refl;
      predicate = predicate;
      recovered = recovered;
    }

-- The recovery that begins at this seat with these closures.
abbrev pub begun_at : {F S Q : Type 0} {capacity : ℕ} {mode : ReleaseMode} {seat : Seated (View ℕ) ℕ Q} → (F → ℕ → ℕ → Bool → F → Type 0)
    → (S → ℕ → ℕ → S → Type 0) → BeginsRecover capacity mode seat → F → S → RecoverCase F S
begun_at {capacity} {mode} {seat} step tell begins predicate recovered =
    record {
      step = step;
      tell = tell;
      capacity = capacity;
      mode = mode;
      base = seen seat;
      idle = begins.idle;
      known = begins.known;
      predicate = predicate;
      recovered = recovered;
    }

module _ {F S : Type 0} (recovery : RecoverCase F S) where
  open recovery use {step, tell, capacity as cap, mode, base, idle, known, predicate as f, recovered as s}

  -- The set was seen locked when the recovery began.
  abbrev shut : Bool
  shut = is_locked base.seen

  -- this recovery has ended in a view, with these closures
  abbrev Ended : View ℕ → ReleaseState → F → S → Type 0
  Ended = EndsSo step tell cap mode base f s

  -- it is under way at the next stage, or has ended
  abbrev Led : View ℕ → After Recovering ReleaseState → F → S → Type 0
  Led w (GoOn next) p x = IsAt recovery w next p x
  Led w (Done state) p x = Ended w state p x

  -- What the contracts say of a recovery under way: it stands at its call.
  pub stands_at : {v : View ℕ} {call : Recovering} (p : F) (x : S) → StandsSo step tell cap mode base f s v call p x → IsAt recovery v call p x
  stands_at p x so = record { visits = so.0; at = so.1; so_far = so.2 }

  -- The same at an equal capacity, which the view has in which the recovery began.
  stands_so : {v : View ℕ} {call : Recovering} {p : F} {x : S} → IsAt recovery v call p x → StandsSo step tell base.capacity mode base f s v call p x
  stands_so {v} {call} {p} {x} here = subst (λ n. StandsSo step tell n mode base f s v call p x) (sym known) (here.visits, here.at, here.so_far)

  -- What `Led` says is what the contracts say.
  led_so : (after : After Recovering ReleaseState) (w : View ℕ) (p : F) (x : S) → Led w after p x → LedTo step tell cap mode base f s w after p x
  led_so (GoOn next) w p x here = (here.visits, here.at, here.so_far)
  led_so (Done state) w p x ended = ended

  -- The visits of a recovery under way fit its stage.
  knows_there : {v : View ℕ} {call : Recovering} {p : F} {x : S} (here : IsAt recovery v call p x) → Knows cap mode shut call.stage here.visits
  knows_there {v} {call} here = subst (λ n. Knows n mode shut call.stage here.visits) known (knows mode base v idle call here.visits here.at)

  -- A recovery that is about to begin has called no closure.
  pub stands_first : {call : Recovering} → call ≡ first_recover cap → RecoverAt mode base base (first_recover cap) [] → IsAt recovery base call f s
  stands_first is at = subst (λ d. IsAt recovery base d f s) (sym is) (record { visits = []; at = at; so_far = (refl, refl) })

  -- The calls at all visits are those that `HasVisited` says.
  has_visited : (visits : List Visit) {q : F} {y : S} → Visited recovery visits q y → HasVisited step tell f s visits q y
  has_visited visits h = record { asked = h.2.questions; told = h.2.calls; owned = well_formed recovery visits h.2 }

  -- The load of the counter, a recovery's first step, calls no closure, so it leaves both closures as they were.
  counter_moves : (call : Recovering) (after : After Recovering ReleaseState) (k : ℕ) → call ≡ first_recover cap → after ≡ recover_after call mode k
      → (p : F) (x : S) → RecoverMoves step tell call mode call.stage k p x after p x
  counter_moves call after k call_is after_is p x = grind (arith, recover_after)

  -- ---- a step

  -- One step of the recovery from the view v to the view w: the number that it hears, how the history has it go on, and
  -- what becomes of its closures.
  abbrev Steps : View ℕ → Recovering → F → S → After Recovering ReleaseState → View ℕ → F → S → Type 0
  Steps v call p x after w q y = (k : ℕ) × RecoverSteps mode v call k after w × RecoverMoves step tell call mode call.stage k p x after q y

  -- A step leads the recovery, with its closures, to its next stage or its end.
  moves_to : {v : View ℕ} {call : Recovering} {p : F} {x : S} → IsAt recovery v call p x → (after : After Recovering ReleaseState) (w : View ℕ) (q : F) (y : S)
      → Steps v call p x after w q y → Led w after q y
  moves_to {call} here (GoOn next) w q y goes =
      record {
        visits = visits_after call here.visits goes.0;
        at = goes.1 base here.visits idle here.at;
        so_far = onward recovery here (knows_there here) goes.0 q y (GoOn next) goes.2;
      }
  moves_to {call} here (Done state) w q y goes =
      let then = visits_after call here.visits goes.0 in
      (then, goes.1 base here.visits idle here.at, has_visited then (onward recovery here (knows_there here) goes.0 q y (Done state) goes.2))

  -- Where the step has led to a next stage, the recovery stands at it.
  pub moves_on : {v w : View ℕ} {call next : Recovering} {p q : F} {x y : S} {after : After Recovering ReleaseState} → IsAt recovery v call p x
      → Steps v call p x after w q y → after ≡ GoOn next → IsAt recovery w next q y
  moves_on {w} {q} {y} {after} here goes is = subst (λ a. Led w a q y) is (moves_to here after w q y goes)

  -- Where the step has ended the recovery, it has ended with that state.
  pub moves_end : {v w : View ℕ} {call : Recovering} {state : ReleaseState} {p q : F} {x y : S} {after : After Recovering ReleaseState}
      → IsAt recovery v call p x → Steps v call p x after w q y → after ≡ Done state → Ended w state q y
  moves_end {w} {q} {y} {after} here goes is = subst (λ a. Led w a q y) is (moves_to here after w q y goes)

  -- The recovery takes its first step, at which it hears the counter (`FirstStep`).
  module _ {call : Recovering} (is : call ≡ first_recover cap) (at : RecoverAt mode base base (first_recover cap) []) where
    abbrev FirstStep : After Recovering ReleaseState → View ℕ → Type 0
    FirstStep after w = (k : ℕ) × (after ≡ recover_after call mode k) × RecoverSteps mode base call k after w

    -- The first step leads the recovery, with closures not called yet, to its next stage or its end.
    first_leads : (after : After Recovering ReleaseState) (w : View ℕ) → FirstStep after w → Led w after f s
    first_leads after w goes = moves_to (stands_first is at) after w f s (goes.0, goes.2, counter_moves call after goes.0 is goes.1 f s)

    -- Where the first step goes on, the recovery stands at its next stage.
    pub first_leads_on : {after : After Recovering ReleaseState} {w : View ℕ} {next : Recovering} → FirstStep after w → after ≡ GoOn next
        → IsAt recovery w next f s
    first_leads_on {after} {w} goes e = subst (λ a. Led w a f s) e (first_leads after w goes)

    -- Where the first step ends the recovery, it has ended.
    pub first_leads_end : {after : After Recovering ReleaseState} {w : View ℕ} {state : ReleaseState} → FirstStep after w → after ≡ Done state
        → Ended w state f s
    first_leads_end {after} {w} goes e = subst (λ a. Led w a f s) e (first_leads after w goes)

  -- ---- steps that leave its visits, or the second closure, as they were

  -- Where the recovery goes on, with its visits and its closures as they were, it stands at its next stage.
  pub stays_on : {v w : View ℕ} {call next : Recovering} {p : F} {x : S} {after : After Recovering ReleaseState} → (here : IsAt recovery v call p x)
      → RecoverGoes mode v call (λ visits. visits) after w → Onward recovery after here.visits p x → after ≡ GoOn next → IsAt recovery w next p x
  stays_on {w} {p} {x} here goes still is =
      record {
        visits = here.visits;
        at = subst (λ a. Next (λ (z : View ℕ). z.capacity) (RecoverAt mode) (RecoverEnds mode) base a here.visits w) is (goes base here.visits idle here.at);
        so_far = subst (λ a. Onward recovery a here.visits p x) is still;
      }

  -- Where it ends so, it has ended.
  pub stays_end : {v w : View ℕ} {call : Recovering} {state : ReleaseState} {p : F} {x : S} {after : After Recovering ReleaseState}
      → (here : IsAt recovery v call p x) → RecoverGoes mode v call (λ visits. visits) after w → Onward recovery after here.visits p x → after ≡ Done state
      → Ended w state p x
  stays_end {w} {p} {x} here goes still is = (
    here.visits,
    subst (λ a. Next (λ (z : View ℕ). z.capacity) (RecoverAt mode) (RecoverEnds mode) base a here.visits w) is (goes base here.visits idle here.at),
    has_visited here.visits (subst (λ a. Onward recovery a here.visits p x) is still),
  )

  -- Steps that leave the second closure as it was have led the recovery on.
  led : {v : View ℕ} {call : Recovering} {p : F} {x : S} → IsAt recovery v call p x → (after : After Recovering ReleaseState) (w : View ℕ) (q : F)
      → LeadsOn step tell mode v call p after w q → LedTo step tell cap mode base f s w after q x
  led {x} here after w q leads = subst (λ n. LedTo step tell n mode base f s w after q x) known (leads base f s x idle (stands_so here))

  -- Where the recovery goes on so, it stands at its next stage.
  pub leads_on : {v w : View ℕ} {call next : Recovering} {p q : F} {x : S} {after : After Recovering ReleaseState} → IsAt recovery v call p x
      → LeadsOn step tell mode v call p after w q → after ≡ GoOn next → IsAt recovery w next q x
  leads_on {w} {q} {x} {after} here leads is = stands_at q x (subst (λ a. LedTo step tell cap mode base f s w a q x) is (led here after w q leads))

  -- Where it ends so, it has ended with this state.
  pub leads_end : {v w : View ℕ} {call : Recovering} {state : ReleaseState} {p q : F} {x : S} {after : After Recovering ReleaseState}
      → IsAt recovery v call p x → LeadsOn step tell mode v call p after w q → after ≡ Done state → Ended w state q x
  leads_end {w} {q} {x} {after} here leads is = subst (λ a. LedTo step tell cap mode base f s w a q x) is (led here after w q leads)

  -- where the recovery asks, its closure may be asked about each index that it comes to
  pub may_ask_on : {pre : F → ℕ → ℕ → Type 0} {v : View ℕ} {call : Recovering} {p : F} {x : S}
      → (shut ≡ false → TakesQuestions pre step cap f) → IsAt recovery v call p x → MayAsk step tell pre mode v call p
  may_ask_on {pre} {x} takes here =
      record {
        base = base;
        f = f;
        s = s;
        q = x;
        idle = idle;
        stands = stands_so here;
        takes = λ free. subst (λ n. TakesQuestions pre step n f) (sym known) (takes free);
      }

  -- at each stage of a recovery the closures may be called as that stage needs
  pub asks_there : {pre : F → ℕ → ℕ → Type 0} {may : S → ℕ → ℕ → Type 0} {v : View ℕ} {call : Recovering} {p : F} {x : S}
      → (shut ≡ false → TakesQuestions pre step cap f) → (shut ≡ false → TakesFreed step may tell cap f s) → IsAt recovery v call p x
      → RecoverAsks pre may call.stage p x
  asks_there questions freed here = may_ask recovery questions freed here (knows_there here)

-- ---- an answer

-- No answer of a closure ends a recovery.
lasts : (mode : ReleaseMode) (call : Recovering) (index owner : ℕ) (yes : Bool) (state : ReleaseState)
    → recover_takes call (recovers.Asks index owner) mode (number_of yes) ≡ Done state → ⊥
lasts mode call index owner true state e = absurd (cc)
lasts mode call index owner false state e = absurd (cc)

-- A recovery that hears an answer at its question goes on to its next stage in the same view.
pub said_goes : (mode : ReleaseMode) {base v : View ℕ} {call : Recovering} {visits : List Visit} {index owner : ℕ} → call.stage ≡ recovers.Asks index owner
    → (said : Bool) → RecoverAt mode base v call visits → Next (λ (z : View ℕ). z.capacity) (RecoverAt mode) (RecoverEnds mode) base
    (recover_after call mode (number_of said)) (visits_after call visits (number_of said)) v
said_goes mode is said recover_at =
    grind (arith, recover_after, number_of, visits_after, recover_hears, one_word, is_question, recover_asks, lasts, recover_takes)

-- ---- a cell that it has come to

below_not : (a b : ℕ) → a < b → a ≡ b → ⊥
below_not a b low e = omega arith

below_from : (a b : ℕ) → a ≤ b → a ≢ b → a < b
below_from a b up ne = omega arith

-- The recovery at its question about this owner's cell.
abbrev pub asks_at : ℕ → ℕ → ℕ → Recovering
asks_at capacity cell owner = record { capacity = capacity; stage = recovers.Asks cell owner }

module _ (capacity cell found : ℕ) (mode : ReleaseMode) where
  -- A cell without an owner leads the recovery to the next cell.
  pub finds_none : found ≡ empty → recover_after (passes capacity cell) mode found ≡ recover_comes_to (passes capacity cell) (cell + 1)
  finds_none e = ap (recover_after (passes capacity cell) mode) e

  -- a cell with an owner leads to the question about him
  pub finds_owner : found ≢ empty → recover_after (passes capacity cell) mode found ≡ GoOn (asks_at capacity cell found)
  finds_owner some =
      by_eq (λ a. a ≡ GoOn (asks_at capacity cell found)) found empty (recover_comes_to (passes capacity cell) (cell + 1))
      (GoOn (asks_at capacity cell found)) (λ e. absurd (some e)) (λ ne. refl)

-- what the first closure said of the owner that was found in the cell; if the cell has no owner, the
-- answer is a no and the closure stays
pub record Heard {F : Type 0} (step : F → ℕ → ℕ → Bool → F → Type 0) (found cell answer : ℕ) (p q : F) : Type 0 where
  pub fits : found ≤ empty
  pub asked : found < empty → (yes : Bool) × step p found cell yes q × (answer ≡ number_of yes)
  pub passed : found ≡ empty → (answer ≡ 0) × (q ≡ p)

-- The recovery stands in the view v at a cell. Its load finds this number in the cell, and w is what the pass knows
-- then (`goes`).
module _ {F S : Type 0} (recovery : RecoverCase F S) {v : View ℕ} {capacity cell : ℕ} {p : F} {x : S} (here : IsAt recovery v (passes capacity cell) p x)
    (found : ℕ) (w : View ℕ)
    (goes : RecoverGoes recovery.mode v (passes capacity cell) (λ visits. visits) (recover_after (passes capacity cell) recovery.mode found) w) where
  open recovery use {step, tell, capacity as cap, mode, base, predicate as f, recovered as s}

  -- where the step over this cell, and the closure's answer, have led the recovery
  abbrev LedFrom : After Recovering ReleaseState → F → Type 0
  LedFrom a q = LedTo step tell cap mode base f s w a q x

  -- The load of the cell leads the recovery on with its closure as it was.
  loaded : LedFrom (recover_after (passes capacity cell) mode found) p
  loaded =
      let after = recover_after (passes capacity cell) mode found in
      led_so recovery after w p x (moves_to recovery here after w p x (found, goes, (refl, refl, refl)))

  -- A cell with an owner leads the recovery to its question.
  at_owner : found ≢ empty → IsAt recovery w (asks_at capacity cell found) p x
  at_owner some = stands_at recovery p x (subst (λ a. LedFrom a p) (finds_owner capacity cell found mode some) loaded)

  -- the closure may be asked about the owner
  pub may_ask_about : {pre : F → ℕ → ℕ → Type 0} → (is_locked base.seen ≡ false → TakesQuestions pre step cap f) → found < empty → pre p found cell
  may_ask_about {pre} takes low =
      let there = at_owner (below_not found empty low) in
      let known = knows_there recovery there in
      let calls = there.so_far in
      (takes known.0.0).at (questions_of there.visits) p (record { owner = found; index = cell }) calls.questions calls.asked_ascend calls.asked_below
      (low, known.0.1)

  -- From the answer that the closure gave, the recovery stands at its next stage with the closure led to q.
  answer_leads : (q : F) (yes : Bool) → found < empty → step p found cell yes q → LedFrom (recover_after (asks_at capacity cell found) mode (number_of yes)) q
  answer_leads q reply low hit =
      let after = recover_after (asks_at capacity cell found) mode (number_of reply) in
      led_so recovery after w q x (moves_to recovery (at_owner (below_not found empty low)) after w q x
      (number_of reply, λ other visits fresh at. said_goes mode refl reply at, (low, refl, (reply, hit, refl), refl)))

  module _ {answer : ℕ} {q : F} (heard : Heard step found cell answer p q) where
    -- Where the closure said yes, the cell had an owner, and the recovery goes on as after that answer.
    pub yes_leads : answer ≢ 0 → (found ≢ empty) × LedFrom (recover_after (asks_at capacity cell found) mode answer) q
    yes_leads some = (there, subst (λ n. LedFrom (recover_after (asks_at capacity cell found) mode n) q) (sym said.2) (answer_leads q said.0 low said.1))
      where
        -- The cell has an owner, as a cell without one has the answer 0.
        there : found ≢ empty
        there e = some (heard.passed e).0

        -- The number in the cell is an owner's, below `empty`.
        low : found < empty
        low = below_from found empty heard.fits there

        -- The closure was asked, and said what the answer is the number of.
        said : (yes : Bool) × step p found cell yes q × (answer ≡ number_of yes)
        said = heard.asked low

    -- a no leads on behind the cell
    pub no_leads : answer ≡ 0 → LedFrom (recover_comes_to (passes capacity cell) (cell + 1)) q
    no_leads none =
        by_eq {A = Unit {0}} (λ z. LedFrom (recover_comes_to (passes capacity cell) (cell + 1)) q) found empty tt tt
        (λ e. subst (λ r. LedFrom (recover_comes_to (passes capacity cell) (cell + 1)) r) (sym (heard.passed e).1)
        (subst (λ a. LedFrom a p) (finds_none capacity cell found mode e) loaded))
        (λ ne. (
        let low : found < empty = below_from found empty heard.fits ne in
        let said = heard.asked low in
        subst (λ n. LedFrom (recover_after (asks_at capacity cell found) mode n) q) (sym said.2 ∙ none) (answer_leads q said.0 low said.1)))

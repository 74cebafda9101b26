-- What the two closures of a recovery of a robust set were called with at each stage (`SoFar`), and
-- that each step and answer keeps it.
use mathlib.Core.List.{map-append}
use Rattle.lock_free_owners.proofs.Names.{◌≡◌, ℕ, ◌+◌, ◌<◌, ◌≤◌, ◌==◌, nat_lt, Bool, true, false, List, [], ◌∷◌, ◌++◌}
use Rattle.lock_free_owners.proofs.Names.{map, filter, append-nil, refl, sym, ap, ◌∙◌, subst, arith, All}
use Rattle.lock_free_owners.proofs.Names.{FoldsTo-push, length-map, get_or-map, All-push, All-weaker}
use Rattle.lock_free_owners.proofs.Names.{Contains-push, filter-append, all_pairs_push, by_test, by_eq, After, GoOn}
use Rattle.lock_free_owners.proofs.Names.{Done, ReleaseMode, ReleaseState, empty}
use Rattle.lock_free_owners.proofs.Names.{locked, raise_after, lock_after, at_recover, number_of, HasAsked, WasTold}
use Rattle.lock_free_owners.proofs.Names.{None, View, is_locked, HasLocked, Visit, visit, came_to, HasCome, visits_locked, visits_taken}
use Rattle.lock_free_owners.proofs.Names.{came_last}
use Rattle.steps.specs.declared.indices.enums.ReleaseState.TheVariants.{Locked}
use Rattle.steps.specs.declared.indices.robust.parts.Raise as raises
use Rattle.steps.specs.declared.indices.robust.parts.Lock.{Lock}
use Rattle.steps.specs.declared.indices.robust.parts.Lock.TheVariants as locks
use Rattle.steps.specs.declared.indices.robust.recover.Recover.{Recover}
use Rattle.steps.specs.declared.indices.robust.recover.RecoverStage.{RecoverStage}
use Rattle.steps.specs.declared.indices.robust.recover.RecoverStage.TheVariants as recovers
use Rattle.steps.specs.Indices.Robust.Recover.{recover_comes_to, recover_raised, recover_locked, recover_takes}
use Rattle.history_owners.specs.Robust.{Came, HasFreed}
use Rattle.history_owners.specs.Robust.{VisitsAt, visits_after}
use Rattle.lock_free_owners.specs.Robust.Callable.{Owned, Asked, IsOwned, WasAgreed, asks}
use Rattle.lock_free_owners.specs.Robust.Callable.{tells, TakesQuestions, TakesFreed, was_freed, owned_at, question_at}
use Rattle.lock_free_owners.specs.Robust.Callable.{questions_of, freed_of}
use Rattle.lock_free_owners.specs.Robust.Stages.{RecoverAsks, RecoverMoves, GoesQuietly, LooksAgain, has_freed}
use Rattle.lock_free_owners.specs.Robust.Recovering as recovering
use Rattle.lock_free_owners.specs.Robust.Turns.{RecoverAt}

-- what is known of the lock and of the index where a closure may be called
abbrev pub IsOpenAt : ℕ → Bool → RecoverStage → Type 0
IsOpenAt cap shut (recovers.Asks index owner) = (shut ≡ false) × (index < cap)
IsOpenAt cap shut (recovers.EmptiesCell index owner) = (shut ≡ false) × (index < cap)
IsOpenAt cap shut stage = Unit {0}

-- what the history says of a recovery at its stage: its visits, and that it asks only if the set was
-- not locked at first
abbrev pub Knows : ℕ → ReleaseMode → Bool → RecoverStage → List Visit → Type 0
Knows cap mode shut stage visits = IsOpenAt cap shut stage × VisitsAt cap mode stage visits

-- The index with its owner.
abbrev owned : ℕ → ℕ → Owned
owned owner index = record { owner = owner; index = index }

-- The question about the index of the owner, with its answer.
abbrev said : ℕ → ℕ → Bool → Asked
said owner index answer = record { of = owned owner index; yes = answer }

-- ---- what the closures were called with, where one visit is the last

-- The question of a last visit comes behind those of the visits before.
questions_last : (visits : List Visit) (v : Visit) → questions_of (visits ++ v ∷ []) ≡ questions_of visits ++ question_at v ∷ []
questions_last visits v = map-append question_at visits (v ∷ [])

-- The index that a last visit freed comes behind those of the visits before.
freed_last : (visits : List Visit) (v : Visit) → freed_of (visits ++ v ∷ []) ≡ freed_of visits ++ freed_of (v ∷ [])
freed_last visits v = grind (arith, map, owned_at, filter-append, was_freed, map-append, filter)

-- A last visit that freed nothing adds no freed index.
not_freed : (visits : List Visit) (v : Visit) → freed_of (v ∷ []) ≡ [] → freed_of (visits ++ v ∷ []) ≡ freed_of visits
not_freed visits v is = freed_last visits v ∙ (ap (λ os. freed_of visits ++ os) is ∙ append-nil (freed_of visits))

-- The last visit is of this index and has come this far; now it comes further, to `next`.
module _ {mode : ReleaseMode} {index owner : ℕ} {came : Came} {visits : List Visit} (h : HasCome mode index came owner visits) (next : Came) where
  -- Coming further at the last visit changes this visit only.
  to_last : came_to next visits ≡ h.before ++ visit index owner next ∷ []
  to_last = ap (came_to next) h.is ∙ came_last h.before index owner came next

  -- So the questions are those before, and that of the changed visit.
  questions_to : questions_of (came_to next visits) ≡ questions_of h.before ++ question_at (visit index owner next) ∷ []
  questions_to = ap questions_of to_last ∙ questions_last h.before (visit index owner next)

  -- So the freed indices are those before, and that of the changed visit.
  freed_to : freed_of (came_to next visits) ≡ freed_of h.before ++ freed_of (visit index owner next ∷ [])
  freed_to = ap freed_of to_last ∙ freed_last h.before (visit index owner next)

-- A recovery of a robust set: its two closures, the set, and the view in which it began.
pub record RecoverCase (F S : Type 0) : Type 1 where
  -- how the first closure answers when it is asked about an owner and an index, and what becomes of it
  pub step : F → ℕ → ℕ → Bool → F → Type 0
  -- what becomes of the second closure when it is told of an owner whose index was freed
  pub tell : S → ℕ → ℕ → S → Type 0
  -- how many indices the set has, and whether the recovery locks it when it frees the last one
  pub capacity : ℕ
  pub mode : ReleaseMode
  -- the view in which the recovery began, in which the pass had no call under way
  pub base : View ℕ
  pub idle : base.going ≡ None
  pub known : base.capacity ≡ capacity
  -- the two closures as they were then
  pub predicate : F
  pub recovered : S

module _ {F S : Type 0} (recovery : RecoverCase F S) where
  open recovery use {step, tell, capacity as cap, mode, base, predicate as f, recovered as s}

  -- The set was seen locked when the recovery began.
  abbrev shut : Bool
  shut = is_locked base.seen

  -- `Calls`, `Visits` and `SoFar` are the relations of this recovery, whose closures began as f and s:
  -- which calls led them to what they are now
  abbrev Calls : List Asked → List Owned → ℕ → ℕ → F → S → Type 0
  Calls = recovering.Calls step tell cap f s

  -- the calls at these visits led the closures to what they are now
  abbrev Visits : List Visit → ℕ → ℕ → F → S → Type 0
  Visits = recovering.Visits step tell cap f s

  -- what the closures were called with at this stage
  abbrev pub SoFar : RecoverStage → List Visit → F → S → Type 0
  SoFar = recovering.SoFar step tell cap f s

  -- The recovery stands at this call in the view v, and its closures have become p and q: its visits, that the history
  -- has it there, and what its closures were called with.
  pub record IsAt (v : View ℕ) (call : Recover) (p : F) (q : S) : Type 0 where
    pub visits : List Visit
    pub at : RecoverAt mode base v call visits
    pub so_far : SoFar call.stage visits p q

  -- At the end of a recovery: the calls at all its visits led the closures to p and q.
  abbrev pub Visited : List Visit → F → S → Type 0
  Visited visits p q = (low : ℕ) × (high : ℕ) × Visits visits low high p q

  -- what the closures were called with where the recovery goes on; once it has ended, at all its visits
  abbrev pub Onward : After Recover ReleaseState → List Visit → F → S → Type 0
  Onward (GoOn d) visits p q = SoFar d.stage visits p q
  Onward (Done state) visits p q = Visited visits p q

  -- Without visits the closures are f and s.
  none : Visits [] 0 0 f s
  none = grind arith

  -- where nothing was visited yet
  at_none : {visits : List Visit} {p : F} {q : S} → visits ≡ [] → (p ≡ f) × (q ≡ s) → Visits visits 0 0 p q
  at_none visits_are_empty both = grind (arith, none)

  -- Calls below some indices are below higher ones.
  widen : {asked : List Asked} {told : List Owned} {low high above over : ℕ} {p : F} {q : S} → Calls asked told low high p q → low ≤ above → high ≤ over
      → Calls asked told above over p q
  widen calls low_up_to_above high_up_to_over = grind arith

  -- `Calls` holds of equal lists of questions and of freed indices too.
  as_lists : {asked other : List Asked} {told more : List Owned} {low high : ℕ} {p : F} {q : S} → asked ≡ other → told ≡ more → Calls asked told low high p q
      → Calls other more low high p q
  as_lists asked_is_other told_is_more calls = grind arith

  -- One more question about an owned index, with its answer, leads the first closure from p to p'. The
  -- second closure is not called.
  asks_more : {asked : List Asked} {told : List Owned} {index owner : ℕ} {answer : Bool} {p p' : F} {q : S} → owner < empty → index < cap
      → step p owner index answer p' → Calls asked told index index p q → Calls (asked ++ said owner index answer ∷ []) told (index + 1) index p' q
  asks_more {asked} {index} {owner} {answer} {p} {p'} named within hit h =
      let a : Asked = said owner index answer in
      record {
        questions = FoldsTo-push (asks step) f asked p a p' h.questions hit;
        calls = h.calls;
        asked_ascend = (
          all_pairs_push (λ (x y : Asked). x.of.index < y.of.index) asked a h.asked_ascend.0 h.asked_below,
          All-push (λ (x : Asked). IsOwned cap x.of) asked a h.asked_ascend.1 (named, within),
        );
        told_ascend = h.told_ascend;
        asked_below = All-push (λ (x : Asked). x.of.index < index + 1) asked a
            (All-weaker (λ (x : Asked). x.of.index < index) (λ (x : Asked). x.of.index < index + 1) (λ x l. omega arith) asked h.asked_below) (omega arith);
        told_below = h.told_below;
      }

  -- One more index that the second closure is told of leads it from q to q'. The first closure is not called.
  tells_more : {asked : List Asked} {told : List Owned} {index owner : ℕ} {p : F} {q q' : S} → owner < empty → index < cap → tell q owner index q'
      → Calls asked told (index + 1) index p q → Calls asked (told ++ owned owner index ∷ []) (index + 1) (index + 1) p q'
  tells_more {told} {index} {owner} {q} {q'} named within hit h =
      -- The index is above all that the second closure was told of before.
      let o : Owned = owned owner index in
      record {
        questions = h.questions;
        calls = FoldsTo-push (tells tell) s told q o q' h.calls hit;
        asked_ascend = h.asked_ascend;
        told_ascend = (
          all_pairs_push (λ (x y : Owned). x.index < y.index) told o h.told_ascend.0 h.told_below,
          All-push (IsOwned cap) told o h.told_ascend.1 (named, within),
        );
        asked_below = h.asked_below;
        told_below = All-push (λ (x : Owned). x.index < index + 1) told o
            (All-weaker (λ (x : Owned). x.index < index) (λ (x : Owned). x.index < index + 1) (λ x l. omega arith) told h.told_below) (omega arith);
      }

  -- A recovery that comes to an index, or behind the last one, has called its closures at lower indices only.
  comes : (c : Recover) (index : ℕ) (visits : List Visit) (p : F) (q : S) → Visits visits index index p q → Onward (recover_comes_to c index) visits p q
  comes c index visits p q visits_holds = grind (arith, by_test, at_recover, nat_lt)

  -- ---- what each stage leaves

  -- A step of a raise of the counter calls no closure.
  raised : (c : Recover) (index : ℕ) (visits : List Visit) (p : F) (q : S) (a : After raises.Raise ReleaseState)
      → Visits visits (index + 1) (index + 1) p q → Onward (recover_raised c index mode a) visits p q
  raised c index visits p q a visits_holds = grind (arith, comes)

  -- A step of the lock calls no closure.
  locking : (c : Recover) (index : ℕ) (visits : List Visit) (p : F) (q : S) (a : After Lock ReleaseState)
      → Visits visits (index + 1) (index + 1) p q → Onward (recover_locked c index a) visits p q
  locking c index visits p q a visits_holds = grind (arith, comes)

  module _ (c : Recover) (visits : List Visit) where
    -- A step that calls no closure leaves both as they were.
    quietly : (stage : RecoverStage) (k : ℕ) → c.stage ≡ stage → {p p' : F} {q q' : S} {a : After Recover ReleaseState}
        → Onward (recover_takes c stage mode k) (visits_taken stage visits k) p q → GoesQuietly c mode k p q a p' q'
        → Onward a (visits_taken stage visits k) p' q'
    quietly stage k same_stage onward_holds goes_quietly = grind (arith, visits_taken, recover_takes)

    -- an answer to a question is one question more, of an index below the capacity and its owner
    answered : (index owner : ℕ) (answer : Bool) {p p' : F} {q : S} → owner < empty → index < cap → step p owner index answer p'
        → Visits visits index index p q
        → Onward (recover_takes c (recovers.Asks index owner) mode (number_of answer)) (visits ++ visit index owner HasAsked ∷ []) p' q
    answered index owner true {p'} {q} named within hit h =
        let told = visit index owner WasTold in
        let now : visits ++ told ∷ [] ≡ came_to WasTold (visits ++ visit index owner HasAsked ∷ []) = sym (came_last visits index owner HasAsked WasTold) in
        subst (λ vs. Visits vs (index + 1) index p' q) now
        (as_lists (sym (questions_last visits told)) (sym (not_freed visits told refl)) (asks_more named within hit h))
    answered index owner false {p'} {q} named within hit h =
        let asked = visit index owner HasAsked in
        comes c (index + 1) (visits ++ asked ∷ []) p' q
        (as_lists (sym (questions_last visits asked)) (sym (not_freed visits asked refl))
        (widen (asks_more named within hit h) (omega arith) (omega arith)))

    -- an exchange that empties the cell tells the second closure of this index, and one that fails
    -- tells it nothing
    emptied : (index owner k : ℕ) {p : F} {q q' : S} → owner < empty → index < cap → HasCome mode index HasAsked owner visits
        → SoFar (recovers.EmptiesCell index owner) visits p q
        → (has_freed (recover_takes c (recovers.EmptiesCell index owner) mode k) ≡ true → tell q owner index q')
        → (has_freed (recover_takes c (recovers.EmptiesCell index owner) mode k) ≡ false → q' ≡ q)
        → Onward (recover_takes c (recovers.EmptiesCell index owner) mode k)
        (visits_taken (recovers.EmptiesCell index owner) visits k) p q'
    emptied index owner k {p} {q} {q'} named within at h = go (k == owner) refl
      where
        -- the cases are whether the exchange found the owner in the cell
        fails : Onward (recover_comes_to c (index + 1)) (came_to WasTold visits) p q
        fails = comes c (index + 1) (came_to WasTold visits) p q
            (widen h (omega arith) (omega arith))

        -- with the exchange the index is freed, and the second closure was told of it
        frees : tell q owner index q' → Visits (came_to HasFreed visits) (index + 1) (index + 1) p q'
        frees hit =
            as_lists
            (questions_to at WasTold ∙ sym (questions_to at HasFreed))
            (ap (λ os. os ++ owned owner index ∷ []) (freed_to at WasTold ∙ append-nil (freed_of at.before)) ∙ sym (freed_to at HasFreed))
            (tells_more named within hit h)

        -- Coming to the next cell frees no index.
        no_cell : has_freed (recover_comes_to c (index + 1)) ≡ false
        no_cell = by_test (λ stage. has_freed (GoOn (at_recover c stage)) ≡ false) (nat_lt (index + 1) c.capacity) (recovers.LoadsCell (index + 1))
            recovers.LoadsCounterAgain (λ t. refl) (λ t. refl)

        -- the second closure was told of the index just if the exchange found the owner in the
        -- cell
        go : (b : Bool) → (k == owner) ≡ b
            → (has_freed (recover_takes c (recovers.EmptiesCell index owner) mode k) ≡ true → tell q owner index q')
            → (has_freed (recover_takes c (recovers.EmptiesCell index owner) mode k) ≡ false → q' ≡ q)
            → Onward (recover_takes c (recovers.EmptiesCell index owner) mode k)
            (visits_taken (recovers.EmptiesCell index owner) visits k) p q'
        go true e = rw e (λ hit miss. frees (hit refl))
        go false e = rw e (λ hit miss. subst (Onward (recover_comes_to c (index + 1)) (came_to WasTold visits) p) (sym (miss no_cell)) fails)

    -- a visit that locks the set leaves what the closures were called with
    shuts : (index k : ℕ) (lock : Lock) {p : F} {q : S} → VisitsAt cap mode (recovers.Locks index lock) visits
        → Visits visits (index + 1) (index + 1) p q → Visits (visits_locked lock visits k) (index + 1) (index + 1) p q
    shuts index k (locks.Counts count) at h = h
    shuts index k (locks.ExchangesCounter counter) {p} {q} at h =
        by_test (λ vs. Visits vs (index + 1) (index + 1) p q) (k == counter) (came_to HasLocked visits) visits
        (λ t. as_lists
        (ap questions_of at.1.is ∙ (questions_last at.1.before (visit index at.0 HasFreed) ∙ sym (questions_to at.1 HasLocked)))
        (ap freed_of at.1.is ∙ (freed_last at.1.before (visit index at.0 HasFreed) ∙ sym (freed_to at.1 HasLocked))) h)
        (λ t. h)

    -- at each of its stages a step or an answer leaves the closures called as the next stage says; the
    -- cases are the stages
    by_stage : (stage : RecoverStage) (k : ℕ) → c.stage ≡ stage → Knows cap mode shut stage visits → (p p' : F) (q q' : S)
        (a : After Recover ReleaseState) → SoFar stage visits p q → RecoverMoves step tell c mode stage k p q a p' q'
        → Onward a (visits_taken stage visits k) p' q'
    by_stage recovers.LoadsCounter k is at p p' q q' a so m =
        quietly recovers.LoadsCounter k is
        (by_eq (λ z. Onward z visits p q) k locked (Done Locked) (recover_comes_to c 0) (λ e. (0, 0, at_none at.1 so))
        (λ ne. comes c 0 visits p q (at_none at.1 so))) m
    by_stage (recovers.LoadsCell index) k is at p p' q q' a so m =
        quietly (recovers.LoadsCell index) k is
        (by_eq (λ z. Onward z visits p q) k empty (recover_comes_to c (index + 1)) (GoOn (at_recover c (recovers.Asks index k)))
        (λ e. comes c (index + 1) visits p q (widen so (omega arith) (omega arith))) (λ ne. so)) m
    by_stage (recovers.Asks index owner) k is at p p' q q' a so m =
        let more : List Visit = visits ++ visit index owner HasAsked ∷ [] in
        subst (Onward a more p') (sym m.1)
        (subst (λ z. Onward z more p' q)
        (ap (λ z. recover_takes c z mode (number_of m.2.0)) (sym is) ∙ (ap (recover_takes c c.stage mode) (sym m.2.2) ∙ sym m.3))
        (answered index owner m.2.0 m.0 at.0.1 m.2.1 so))
    by_stage (recovers.EmptiesCell index owner) k is at p p' q q' a so m =
        let goes : a ≡ recover_takes c (recovers.EmptiesCell index owner) mode k = m.2 ∙ ap (λ z. recover_takes c z mode k) is in
        let then : List Visit = visits_taken (recovers.EmptiesCell index owner) visits k in
        subst (λ z. Onward a then z q') (sym m.1)
        (subst (λ z. Onward z then p q') (sym goes)
        (emptied index owner k m.0 at.0.1 at.1 so (λ e. m.3 (ap has_freed goes ∙ e)) (λ e. m.4 (ap has_freed goes ∙ e))))
    by_stage (recovers.Raises index raise) k is at p p' q q' a so m =
        quietly (recovers.Raises index raise) k is (raised c index visits p q (raise_after raise k) so) m
    by_stage (recovers.Locks index lock) k is at p p' q q' a so m =
        quietly (recovers.Locks index lock) k is
        (locking c index (visits_locked lock visits k) p q (lock_after c.capacity lock k) (shuts index k lock at.1 so)) m
    by_stage recovers.LoadsCounterAgain k is at p p' q q' a so m = quietly recovers.LoadsCounterAgain k is (so.0, so.0, so.1) m

  -- A step or an answer at the recovery's stage leaves the closures called as its next
  -- stage, or its end, says.
  pub onward : {v : View ℕ} {c : Recover} {p : F} {q : S} (here : IsAt v c p q) → Knows cap mode shut c.stage here.visits → (k : ℕ) (p' : F) (q' : S)
      (a : After Recover ReleaseState) → RecoverMoves step tell c mode c.stage k p q a p' q' → Onward a (visits_after c here.visits k) p' q'
  onward {c} {p} {q} here at k p' q' a = by_stage c here.visits c.stage k refl at p p' q q' a here.so_far

  -- what may be asked at each stage
  may_ask_at : {pre : F → ℕ → ℕ → Type 0} {may : S → ℕ → ℕ → Type 0} → (shut ≡ false → TakesQuestions pre step cap f)
      → (shut ≡ false → TakesFreed step may tell cap f s) → (stage : RecoverStage) (visits : List Visit) → Knows cap mode shut stage visits
      → (p : F) (q : S) → SoFar stage visits p q → RecoverAsks pre may stage p q
  may_ask_at takes frees recovers.LoadsCounter visits at p q so = tt
  may_ask_at takes frees (recovers.LoadsCell index) visits at p q so = tt
  may_ask_at takes frees (recovers.Asks index owner) visits at p q so =
      λ named. (takes at.0.0).at (questions_of visits) p (owned owner index) so.questions so.asked_ascend so.asked_below (named, at.0.1)
  may_ask_at takes frees (recovers.EmptiesCell index owner) visits at p q so =
      let said_yes : WasAgreed (questions_of (came_to WasTold visits)) (owned owner index) =
      subst (λ xs. WasAgreed xs (owned owner index)) (sym (questions_to at.1 WasTold)) (Contains-push (questions_of at.1.before) (said owner index true)) in
      λ named. (frees at.0.0).at (questions_of (came_to WasTold visits)) p (freed_of (came_to WasTold visits)) q (owned owner index) so.questions
      so.asked_ascend said_yes so.calls so.told_ascend so.told_below (named, at.0.1)
  may_ask_at takes frees (recovers.Raises index raise) visits at p q so = tt
  may_ask_at takes frees (recovers.Locks index lock) visits at p q so = tt
  may_ask_at takes frees recovers.LoadsCounterAgain visits at p q so = tt

  -- Where the recovery stands, its closures may be called as its stage needs.
  pub may_ask : {pre : F → ℕ → ℕ → Type 0} {may : S → ℕ → ℕ → Type 0} {v : View ℕ} {c : Recover} {p : F} {q : S}
      → (shut ≡ false → TakesQuestions pre step cap f) → (shut ≡ false → TakesFreed step may tell cap f s)
      → (here : IsAt v c p q) → Knows cap mode shut c.stage here.visits → RecoverAsks pre may c.stage p q
  may_ask {c} {p} {q} takes frees here at = may_ask_at takes frees c.stage here.visits at p q here.so_far

  -- ---- the first steps, which leave the closures, and may leave the call

  -- What the closures were called with stays where the stage stays.
  stays : (call : Recover) (visits : List Visit) (p : F) (q : S) (after : After Recover ReleaseState) → after ≡ GoOn call → SoFar call.stage visits p q
      → Onward after visits p q
  stays call visits p q after is so = subst (λ a. Onward a visits p q) (sym is) so

  -- A load of the counter behind the last cell calls no closure. At any other stage the recovery stays
  -- as it is.
  looks_at : (call : Recover) (visits : List Visit) (p : F) (q : S) (after : After Recover ReleaseState)
      (stage : RecoverStage) → call.stage ≡ stage → LooksAgain call mode stage after → SoFar call.stage visits p q → Onward after visits p q
  looks_at call visits p q after stage same_stage looks_again so_far = grind (arith, stays, recover_takes)

  -- So what the closures were called with stays, or is what the recovery's end says.
  pub looks_on : {v : View ℕ} {call : Recover} {p : F} {q : S} (here : IsAt v call p q) (after : After Recover ReleaseState)
      → LooksAgain call mode call.stage after → Onward after here.visits p q
  looks_on {call} {p} {q} here after looked = looks_at call here.visits p q after call.stage refl looked here.so_far

  -- each of them has a right owner
  pub well_formed : (visits : List Visit) {low high : ℕ} {p : F} {q : S} → Visits visits low high p q → All (λ (v : Visit). v.owner < empty) visits
  well_formed visits h i d within =
      subst (λ (a : Asked). a.of.owner < empty) (get_or-map question_at visits i d (question_at d) within)
      (h.asked_ascend.1 i (question_at d) (subst (λ n. i < n) (sym (length-map visits question_at)) within)).0

-- ---- the closures at an equal capacity

-- A closure that may be asked about indices below a number may be so below an equal number.
pub questions_at : {F : Type 0} {pre : F → ℕ → ℕ → Type 0} {step : F → ℕ → ℕ → Bool → F → Type 0} {a b : ℕ} {f : F}
    → a ≡ b → TakesQuestions pre step a f → TakesQuestions pre step b f
questions_at {F} {pre} {step} {a} {b} {f} e h = subst (λ z. TakesQuestions pre step z f) e h

-- A closure that may be told of indices below a number may be so below an equal number.
pub freed_at : {F S : Type 0} {step : F → ℕ → ℕ → Bool → F → Type 0} {pre : S → ℕ → ℕ → Type 0}
    {tell : S → ℕ → ℕ → S → Type 0} {a b : ℕ} {f : F} {s : S}
    → a ≡ b → TakesFreed step pre tell a f s → TakesFreed step pre tell b f s
freed_at {F} {S} {step} {pre} {tell} {a} {b} {f} {s} e h = subst (λ z. TakesFreed step pre tell z f s) e h

-- What the closure of a find of a container was called with at each stage (`SoFar`), and that each step
-- and answer keeps it.
use Rattle.lock_free_owners.proofs.Names.{◌≡◌, ℕ, ◌+◌, ◌^◌, ◌<◌, ◌≤◌, nat_lt, inr, List}
use Rattle.lock_free_owners.proofs.Names.{[], ◌∷◌, ◌++◌, length, refl, sym, ap, subst, ◌∙◌, arith, length-append}
use Rattle.lock_free_owners.proofs.Names.{Contains, All, FoldsTo, FoldsTo-push, map-append, All-push}
use Rattle.lock_free_owners.proofs.Names.{All-weaker, Contains-push, Contains-append_left, all_pairs_push, by_test}
use Rattle.lock_free_owners.proofs.Names.{by_eq, After, GoOn, Done, CallbackProgression, Continue, Stop}
use Rattle.lock_free_owners.proofs.Names.{ContainerHandle, Coding, View, is_even, find_keeps, copies_after, Ascends}
use Rattle.steps.specs.declared.container.find.Find.{Find}
use Rattle.steps.specs.declared.container.find.FindStage as finds
use Rattle.steps.specs.Indices.Robust.Parts.{one_more}
use Rattle.steps.specs.Container.Find.{at_find, find_comes_to, find_takes}
use Rattle.lock_free_owners.specs.Container.Callable.{Visit, VisitsAscend, goes_on, TakesVisits, HasFound}
use Rattle.lock_free_owners.specs.Container.Visits.{FindStage, FindAsks, IsNamed, named, visits_of}
use Rattle.lock_free_owners.proofs.Rules.Robust.Finding.{ascend_push, below_push, below_more}

-- A find of a container: its closure, the container and the owner, and the view in which it began.
pub record FindCase (T F : Type 0) : Type 1 where
  -- how a value is coded in words
  pub code : Coding T
  -- how the closure answers when it is called with a value and its handle, and what becomes of it
  pub step : F → T → ContainerHandle → CallbackProgression → F → Type 0
  -- how many indices the container has, whose values the find looks for, and the container's number
  pub capacity : ℕ
  pub owner : ℕ
  pub id : ℕ
  -- the view in which the find began, and the closure as it was then
  pub base : View T
  pub visit : F

module _ {T F : Type 0} (find : FindCase T F) where
  open find use {code, step, capacity as cap, owner, id, visit as f}

  -- the handle is one that the find may visit
  abbrev mine : ContainerHandle → Type 0
  mine = IsNamed cap owner id

  -- the visits are at indices below this one
  abbrev Below : ℕ → List (Visit T) → Type 0
  Below low xs = All (λ (x : Visit T). x.handle.index < low) xs

  -- the visits are at some of these indices
  abbrev Among : List ℕ → List (Visit T) → Type 0
  Among indices xs = All (λ (x : Visit T). Contains indices x.handle.index) xs

  -- The visit of a value at this index.
  abbrev at_index : ℕ → T → Visit T
  at_index low value = record { value = value; handle = named low owner id }

  -- The visits that come from these copies.
  abbrev told : List (ℕ × T) → List (Visit T)
  told copies = visits_of owner id copies

  -- The visits that come from one more copy are the visits before it, and one at the index of that copy.
  told_push : (before : List (ℕ × T)) (index : ℕ) (value : T) → told (before ++ (index, value) ∷ []) ≡ told before ++ at_index index value ∷ []
  told_push before index value = map-append (λ (c : ℕ × T). at_index c.0 c.1) before ((index, value) ∷ [])

  -- Called at these visits, from f on, the closure became p. The visits are among n indices below
  -- `low`, which the find has counted.
  pub record Came (low n : ℕ) (visits : List (Visit T)) (p : F) : Type 0 where
    pub indices : List ℕ
    pub ascend : Ascends cap indices
    pub below : All (λ x. x < low) indices
    pub count : length indices ≡ n
    pub visits_ascend : VisitsAscend mine visits
    pub visits_below : Below low visits
    pub among : Among indices visits
    pub calls : FoldsTo (goes_on step) f visits p

  -- The find has counted this index among `found`, and the closure was called at the copies
  -- of lower indices only.
  abbrev pub Counted : ℕ → ℕ → List (ℕ × T) → F → Type 0
  Counted index found copies p = (n : ℕ) × (n + 1 ≡ found) × Came index n (told copies) p

  -- What the closure was called with at each stage: with all copies before a question, and at a
  -- question with all but the last one, whose value is in the room.
  abbrev pub SoFar : finds.FindStage → List (ℕ × T) → T → F → Type 0
  SoFar (finds.TheVariants.LoadsCell index found) copies value p = Came index found (told copies) p
  SoFar (finds.TheVariants.LoadsCount index found) copies value p = Counted index found copies p
  SoFar (finds.TheVariants.LoadsWord index found count at) copies value p = Counted index found copies p
  SoFar (finds.TheVariants.ChecksCount index found count) copies value p = Counted index found copies p
  SoFar (finds.TheVariants.Asks index found) copies value p =
      (before : List (ℕ × T)) × (copies ≡ before ++ (index, value) ∷ []) × Counted index found before p

  -- At first the find has counted no index and called its closure with none.
  pub came_none : (low : ℕ) → Came low 0 [] f
  came_none low = grind arith

  -- Visits below an index are below the next one.
  higher : (low : ℕ) (xs : List (Visit T)) → Below low xs → Below (low + 1) xs
  higher low xs below_holds = grind arith

  -- Visits among some indices are among them and one more.
  wider : (indices : List ℕ) (index : ℕ) (xs : List (Visit T)) → Among indices xs → Among (indices ++ index ∷ []) xs
  wider indices index xs h = All-weaker (λ (x : Visit T). Contains indices x.handle.index) (λ (x : Visit T). Contains
      (indices ++ index ∷ []) x.handle.index) (λ x i. Contains-append_left indices (index ∷ []) x.handle.index i) xs h

  -- The find comes past an index that it does not count.
  came_on : (low n : ℕ) (visits : List (Visit T)) (p : F) → Came low n visits p → Came (low + 1) n visits p
  came_on low n visits p came = grind (arith, below_more, higher)

  -- what was visited below an index lies below any index that is no lower
  pub widen : {low high n : ℕ} {visits : List (Visit T)} {p : F} → Came low n visits p → low ≤ high → Came high n visits p
  widen {low} {high} {visits} h up =
      record {
        indices = h.indices;
        ascend = h.ascend;
        below = All-weaker (λ i. i < low) (λ i. i < high) (λ i l. omega arith) h.indices h.below;
        count = h.count;
        visits_ascend = h.visits_ascend;
        visits_below = All-weaker (λ (x : Visit T). x.handle.index < low) (λ (x : Visit T). x.handle.index < high)
            (λ x l. omega arith) visits h.visits_below;
        among = h.among;
        calls = h.calls;
      }

  -- an index that is counted alone
  came_by : (low n : ℕ) (visits : List (Visit T)) (p : F) → low < cap → Came low n visits p → Came (low + 1) (n + 1) visits p
  came_by low n visits p within h =
      let longer = length-append h.indices (low ∷ []) in
      let count = h.count in
      record {
        indices = h.indices ++ low ∷ [];
        ascend = ascend_push cap h.indices low h.ascend h.below within;
        below = below_push h.indices low h.below;
        count = omega arith;
        visits_ascend = h.visits_ascend;
        visits_below = higher low visits h.visits_below;
        among = wider h.indices low visits h.among;
        calls = h.calls;
      }

  -- A find that has come past all indices has found what `HasFound` says, with the capacity as the bound.
  pub found_all : {low n : ℕ} {visits : List (Visit T)} {p : F} → Came low n visits p → HasFound step cap mine f n cap visits p
  found_all came = grind arith

  -- a step at a word, which leaves it
  abbrev pub IsQuiet : finds.FindStage → Type 0
  IsQuiet (finds.TheVariants.Asks index found) = ⊥
  IsQuiet stage = Unit {0}

  -- The handle of an index below the capacity names this owner.
  own : (index : ℕ) → index < cap → mine (named index owner id)
  own index within = ((refl, within), refl)

  -- visits that ascend below an index still ascend with one more, at this index
  ascend_more : (low : ℕ) (value : T) (xs : List (Visit T)) → low < cap → VisitsAscend mine xs → Below low xs
      → VisitsAscend mine (xs ++ at_index low value ∷ [])
  ascend_more low value xs within h below = (
    all_pairs_push (λ (x y : Visit T). x.handle.index < y.handle.index) xs (at_index low value) h.0 below,
    All-push (λ (x : Visit T). mine x.handle) xs (at_index low value) h.1 (own low within),
  )

  -- Visits among some indices, and one at a further index, are among these indices and the further one.
  among_more : (indices : List ℕ) (low : ℕ) (value : T) (xs : List (Visit T)) → Among indices xs → Among (indices ++ low ∷ []) (xs ++ at_index low value ∷ [])
  among_more indices low value xs h =
      All-push (λ (y : Visit T). Contains (indices ++ low ∷ []) y.handle.index) xs (at_index low value) (wider indices low xs h) (Contains-push indices low)

  -- an index whose value was handed over
  came_more : (low n : ℕ) (value : T) (visits : List (Visit T)) (p q : F) → low < cap → step p value (named low owner id) Continue q → Came low n visits p
      → Came (low + 1) (n + 1) (visits ++ at_index low value ∷ []) q
  came_more low n value visits p q within hit h =
      let x : Visit T = at_index low value in
      let longer = length-append h.indices (low ∷ []) in
      let count = h.count in
      record {
        indices = h.indices ++ low ∷ [];
        ascend = ascend_push cap h.indices low h.ascend h.below within;
        below = below_push h.indices low h.below;
        count = omega arith;
        visits_ascend = ascend_more low value visits within h.visits_ascend h.visits_below;
        visits_below = All-push (λ (y : Visit T). y.handle.index < low + 1) visits x (higher low visits h.visits_below) (omega arith);
        among = among_more h.indices low value visits h.among;
        calls = FoldsTo-push (goes_on step) f visits p x q h.calls hit;
      }

  -- An answer to stop ends the find: the closure was called with these visits, and at the last of them
  -- it said to stop.
  found_last : {low n found : ℕ} {value : T} {visits : List (Visit T)} {p q : F} → low < cap → n + 1 ≡ found → step p value (named low owner id) Stop q
      → Came low n visits p → HasFound step cap mine f found (low + 1) (visits ++ at_index low value ∷ []) q
  found_last {low} {n} {value} {visits} {p} within more hit h =
      let longer = length-append h.indices (low ∷ []) in
      let count = h.count in
      record {
        indices = h.indices ++ low ∷ [];
        ascend = ascend_push cap h.indices low h.ascend h.below within;
        number = omega arith;
        visits_ascend = ascend_more low value visits within h.visits_ascend h.visits_below;
        among = among_more h.indices low value visits h.among;
        calls = inr (
          record {
            before = visits;
            now = p;
            calls = h.calls;
            x = at_index low value;
            is = refl;
            stops = hit;
            highest = All-push (λ i. i ≤ low) h.indices low (All-weaker (λ i. i < low) (λ i. i ≤ low) (λ i l. omega arith) h.indices h.below) (omega arith);
          },
          refl,
        );
      }

  -- the closure may be called at the index that it has come to
  pub may_ask : {pre : F → T → ContainerHandle → Type 0} → TakesVisits pre step mine f → (stage : finds.FindStage)
      → FindStage code.size cap stage → (copies : List (ℕ × T)) (value : T) (p : F) → SoFar stage copies value p → FindAsks pre owner id stage value p
  may_ask takes (finds.TheVariants.LoadsCell index found) at copies value p so = tt
  may_ask takes (finds.TheVariants.LoadsCount index found) at copies value p so = tt
  may_ask takes (finds.TheVariants.LoadsWord index found count place) at copies value p so = tt
  may_ask takes (finds.TheVariants.ChecksCount index found count) at copies value p so = tt
  may_ask takes (finds.TheVariants.Asks index found) at copies value p so =
      let came = so.2.2 in
      takes.at (told so.0) p (at_index index value) came.calls came.visits_ascend came.visits_below (own index at.0)

  module _ {R : Type 0} where
    -- where no answer stops it, it has come past all of them at its end
    abbrev pub Onward : After (Find T R) ℕ → List (ℕ × T) → T → F → Type 0
    Onward (GoOn d) copies value q = SoFar d.stage copies value q
    Onward (Done n) copies value q = HasFound step cap mine f n cap (told copies) q

    module _ (c : Find T R) where
      -- A find that comes to an index, or behind the last one, has called its closure at lower indices only.
      comes : (index found : ℕ) (copies : List (ℕ × T)) (value : T) (q : F) → Came index found (told copies) q
          → Onward (find_comes_to c index found) copies value q
      comes index found copies value q came = grind (arith, by_test, nat_lt, at_find, found_all)

      -- A find that passes an index which it counted, without a call of the closure, goes on or ends
      -- with the closure at p.
      passes : (index found : ℕ) (copies : List (ℕ × T)) (value : T) (p : F) → index < cap → Counted index found copies p
          → Onward (find_comes_to c (index + 1) found) copies value p
      passes index found copies value p index_below_cap counted = grind (arith, comes, came_by)

      -- ---- what a step leaves, by what it did with the closure

      module _ (value_of : R → T) (with_word : R → ℕ → ℕ → R) where
        -- after the answer k the closure was called as the find's next stage, or its end, says
        abbrev pub StepsOnward : finds.FindStage → List (ℕ × T) → R → ℕ → F → Type 0
        StepsOnward stage copies room k p =
            Onward (find_takes code.size c stage owner k) (copies_after stage k (value_of room) copies) (value_of (find_keeps with_word stage room k)) p

        -- A step at a word calls no closure, so what the closure was called with fits the next stage.
        pub quietly : cap < 2 ^ 32 → (stage : finds.FindStage) → IsQuiet stage → FindStage code.size cap stage → (copies : List (ℕ × T)) (room : R) (p : F)
            (k : ℕ) → SoFar stage copies (value_of room) p → StepsOnward stage copies room k p
        quietly cap_below stage quiet find_stage copies room p k so_far =
            grind (arith, by_eq, at_find, one_more, find_comes_to, comes, came_on, by_test, is_even, passes)

      -- Where the closure says Continue at an index, the find goes on behind it, or ends, with the
      -- closure at q.
      pub told_on : (index found : ℕ) {copies : List (ℕ × T)} {value : T} {p q : F} → index < cap → step p value (named index owner id) Continue q
          → SoFar (finds.TheVariants.Asks index found) copies value p → Onward (find_comes_to c (index + 1) found) copies value q
      told_on index found {copies} {value} {p} {q} index_below_cap step_holds so_far = grind (arith, told_push, comes, came_more)

  -- Where the closure says Stop at an index, the find has ended: it counted `found` indices below index
  -- + 1, and the closure is at q.
  pub told_to_stop : (index found : ℕ) {copies : List (ℕ × T)} {value : T} {p q : F} → index < cap → step p value (named index owner id) Stop q
      → SoFar (finds.TheVariants.Asks index found) copies value p → HasFound step cap mine f found (index + 1) (told copies) q
  told_to_stop index found {copies} {value} {q} within hit so =
      let h = so.2 in
      let visits : told so.0 ++ at_index index value ∷ [] ≡ told copies = sym (ap told so.1 ∙ told_push so.0 index value) in
      subst (λ vs. HasFound step cap mine f found (index + 1) vs q) visits (found_last within h.1 hit h.2)

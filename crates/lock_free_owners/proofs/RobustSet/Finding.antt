-- A find between two turns: one list of indices, with which its closure was called, and of which it tells what the
-- history said.
use Rattle.lock_free_owners.proofs.Names.{◌≡◌, ◌≢◌, ◌⊎◌, inl, inr, ℕ, ◌+◌, ◌-◌, ◌*◌, ◌^◌, ◌<◌, ◌≤◌, nat_lt, Some}
use Rattle.lock_free_owners.proofs.Names.{List, [], ◌∷◌, ◌++◌, refl, sym, ◌∙◌, subst, length-append, arith, nat_tests}
use Rattle.lock_free_owners.proofs.Names.{FoldsTo-push, by_test, by_eq, After, GoOn}
use Rattle.lock_free_owners.proofs.Names.{CallbackProgression, Continue, Stop, cell_word, empty, Event, one_word}
use Rattle.lock_free_owners.proofs.Names.{TakesPlaces, View, IsBeginning, Looks, LooksAt}
use Rattle.steps.specs.declared.indices.robust.find.Find.{Find}
use Rattle.steps.specs.declared.indices.robust.find.FindStage.{FindStage}
use Rattle.steps.specs.declared.indices.robust.find.FindStage.TheVariants as finds
use Rattle.steps.specs.Indices.Robust.Parts.{one_more}
use Rattle.steps.specs.Indices.Robust.Find.{at_find, first_find, find_comes_to, find_takes, find_left}
use Rattle.model.specs.declared.turn.Kind.TheVariants as kinds
use Rattle.model.specs.Families.Indices.Robust.Reading.{filled_of}
use Rattle.history.specs.Steps.{TakesAtMost}
use Rattle.history_owners.proofs.Finds.{tells_owner, tells_other, owned_none, owned_later, owned_more, owned_past}
use Rattle.history.proofs.Looking.{looks_then}
use Rattle.lock_free_owners.specs.Robust.Callable.{HasFound}
use Rattle.lock_free_owners.specs.Robust.Stages.{says}
use Rattle.lock_free_owners.specs.Robust.Finding.{FindAsks, GoesDown, Searching, Onward, cells_loaded}
use Rattle.lock_free_owners.specs.Robust.Finding as finding
use Rattle.lock_free_owners.proofs.Rules.Robust.Finding.{ascend_push, below_push, below_more}

-- a find that comes to a cell
abbrev pub at_cell : ℕ → ℕ → ℕ → Find
at_cell capacity so_many index = record { capacity = capacity; stage = finds.LoadsCell index so_many }

-- ---- fewer steps are left behind each

-- Coming to a next index leaves a find fewer steps.
comes_down : (c : Find) (cap left index found : ℕ) → c.capacity ≡ cap → 2 * (cap - index) + 1 < left → GoesDown cap left (find_comes_to c index found)
comes_down c cap left index found same_cap left_above = grind (arith, by_test, nat_lt, at_find)

module _ (c : Find) (cap : ℕ) (is : c.capacity ≡ cap) where
  -- The load of a cell leaves a find fewer steps than it had left when it came to that cell
  -- or to an earlier one.
  pub load_down : {first index : ℕ} (so_many found owner k : ℕ) → first ≤ index → index < cap
      → GoesDown cap (find_left cap (finds.LoadsCell first so_many)) (find_takes c (finds.LoadsCell index found) owner k)
  load_down so_many found owner k first_up_to_index index_below_cap = grind (arith, by_eq, find_left, at_find, one_more, find_comes_to, comes_down)

-- A find of a robust set: its closure, the set and the owner, and the view in which it began.
pub record FindCase (F : Type 0) : Type 1 where
  -- how the closure answers when it is called with an index, and what becomes of it
  pub step : F → ℕ → CallbackProgression → F → Type 0
  -- how many indices the set has, and whose indices the find looks for
  pub capacity : ℕ
  pub owner : ℕ
  -- the view in which the find began, and the closure as it was then
  pub base : View ℕ
  pub visit : F

module _ {F : Type 0} (find : FindCase F) where
  open find use {step, capacity as cap, owner, base, visit as f}

  -- `Came`, `Looked`, `SoFar`, `Search` and `On` are the relations of this find, which began in `base`
  -- with the closure f
  abbrev Came : ℕ → ℕ → List (Event ℕ) → F → Type 0
  Came = finding.Came step cap owner base f

  abbrev Looked : View ℕ → Type 0
  Looked v = Looks one_word kinds.Robust cap base v

  abbrev SoFar : FindStage → View ℕ → F → Type 0
  SoFar = finding.SoFar step cap owner base f

  abbrev Search : View ℕ → Find → F → Type 0
  Search = Searching step cap owner base f

  abbrev On : After Find ℕ → View ℕ → F → Type 0
  On = Onward step cap owner base f

  -- ---- the list

  -- At first the find has called its closure with no index.
  came_none : Came 0 0 base.seen f
  came_none = grind (arith, owned_none)

  -- The find has come past the indices below low with n calls of its closure, p after them, by the history es.
  module _ {low n : ℕ} {es : List (Event ℕ)} {p : F} (h : Came low n es p) where
    -- what a find has come past by one history, it has come past by each history that goes on from
    -- it
    came_later : (later : List (Event ℕ)) → IsBeginning es later → Came low n later p
    came_later later on =
        record {
          indices = h.indices;
          calls = h.calls;
          ascend = h.ascend;
          below = h.below;
          count = h.count;
          few = h.few;
          owned = owned_later owner base.seen low h.indices es later on h.owned;
        }

    module _ (on : IsBeginning base.seen es) where
      -- the find comes past an index that is not the owner's, with no further call of its closure
      came_past : filled_of low es ≢ Some owner → Came (low + 1) n es p
      came_past has_not =
          record {
            indices = h.indices;
            calls = h.calls;
            ascend = h.ascend;
            below = below_more h.indices low h.below;
            count = h.count;
            few = (let few = h.few in omega arith);
            owned = owned_past owner base.seen low h.indices es on h.owned has_not;
          }

      -- the find comes past an index that is the owner's with one more call of its closure, which
      -- was answered to go on
      came_more : (q : F) → low < cap → filled_of low es ≡ Some owner → step p low Continue q → Came (low + 1) (n + 1) es q
      came_more q within has hit =
          let longer = length-append h.indices (low ∷ []) in
          let count = h.count in
          record {
            indices = h.indices ++ low ∷ [];
            calls = FoldsTo-push (λ p x q. step p x Continue q) f h.indices p low q h.calls hit;
            ascend = ascend_push cap h.indices low h.ascend h.below within;
            below = below_push h.indices low h.below;
            count = omega arith;
            few = (let few = h.few in omega arith);
            owned = owned_more owner base.seen low h.indices es on h.owned has;
          }

      -- with an answer to stop at an index that is the owner's, the find has found what it has
      -- counted with this index
      found_last : (found : ℕ) (q : F) → low < cap → n + 1 ≡ found → filled_of low es ≡ Some owner → step p low Stop q
          → HasFound step cap owner f found q base.seen es
      found_last found q within more has hit =
          let longer = length-append h.indices (low ∷ []) in
          let count = h.count in
          record {
            indices = h.indices ++ low ∷ [];
            number_is = omega arith;
            ascend = ascend_push cap h.indices low h.ascend h.below within;
            bound = low + 1;
            calls = inr (record { before = h.indices; index = low; is = refl; bound_is = refl; now = p; calls = h.calls; stops = hit });
            owned = owned_more owner base.seen low h.indices es on h.owned has;
          }

    -- Where the find has come past the last index, it has found what `HasFound` says.
    found_all : low ≡ cap → HasFound step cap owner f n p base.seen es
    found_all low_is_cap = grind arith

  -- ---- a turn

  -- a find that is past the indices below `index` comes to its cell, or ends if there is none
  comes : (c : Find) {w : View ℕ} {index found : ℕ} {q : F} → Looked w → w.capacity ≡ cap → 0 < w.share.part → c.capacity ≡ cap → index ≤ cap
      → TakesAtMost index base w → Came index found w.seen q → On (find_comes_to c index found) w q
  comes c looked first_capacity_is_cap part_positive second_capacity_is_cap index_up_to_cap takes_at_most came =
      grind (arith, by_test, nat_lt, at_find, nat_tests, found_all)

  -- The find stands at c in the view v, and its closure has become p.
  module _ {v : View ℕ} {c : Find} {p : F} (h : Search v c p) where
    -- It stands at a cell, in which its load finds k, and w is what the pass knows then.
    module _ (small : cap < 2 ^ 32) (fits : owner < empty) {index found : ℕ} (is : c.stage ≡ finds.LoadsCell index found) {k : ℕ} {w : View ℕ}
        (looks : LooksAt one_word kinds.Robust cap (cell_word index) v k w) (counted : w.asked ≡ v.asked + 1) where
      -- What is known of the find at this cell, and how many operations it has taken.
      at : SoFar (finds.LoadsCell index found) v p
      at = subst (λ stage. SoFar stage v p) is h.so_far

      few : TakesAtMost index base v
      few = subst (λ stage. TakesAtMost (cells_loaded stage) base v) is h.steps

      -- after the load of the cell the pass has looked at the set up to now
      looked_then : Looked w
      looked_then = go at.1
        where
          -- the cases are whether this load was the find's first one
          go : (v ≡ base) ⊎ Looked v → Looked w
          go (inl same) = subst (λ (z : View ℕ). Looks one_word kinds.Robust cap z w) same looks.looks
          go (inr before) = looks_then one_word kinds.Robust cap base v w before looks.looks

      -- The find has come to this index with what the pass knows now.
      came_there : Came index found w.seen p
      came_there = came_later at.2 w.seen looks.looks.mine

      -- It has taken one step for each cell.
      few_now : TakesAtMost (index + 1) base w
      few_now = (let before = few in let one = counted in omega arith)

      -- after the load of a cell the find is about to ask about its index, if the cell has the
      -- owner, and else it comes past it
      pub loaded : On (find_takes c (finds.LoadsCell index found) owner k) w p
      loaded =
          let known = looks.looks.capacity ∙ h.known in
          let some = subst (λ s. 0 < s.part) (sym looks.looks.share) h.some in
          let few = came_there.few in
          let low = at.0 in
          by_eq (λ (a : After Find ℕ). On a w p) k owner (GoOn (at_find c (finds.Asks index (one_more found)))) (find_comes_to c (index + 1) found)
          (λ e. record {
            known = known;
            some = some;
            standing = h.standing;
            steps = few_now;
            so_far = (at.0, looked_then, tells_owner one_word cap index k at.0 v w looks owner fits e, (found, omega arith, came_there));
          })
          (λ ne. comes c looked_then known some h.standing (omega arith) few_now
          (came_past came_there looked_then.mine (tells_other one_word cap index k at.0 v w looks owner ne)))

    -- with the closure's answer about an index the find comes past it, or ends with what it has
    -- found
    heard_at : (index found : ℕ) (answer : CallbackProgression) (q : F) → SoFar (finds.Asks index found) v p → TakesAtMost (index + 1) base v
        → step p index answer q → On (find_takes c (finds.Asks index found) owner (says answer)) v q
    heard_at index found Continue q at few hit =
        let low = at.0 in
        let asked = at.3 in
        comes c at.1 h.known h.some h.standing (omega arith) few
        (subst (λ n. Came (index + 1) n v.seen q) asked.1 (came_more asked.2 at.1.mine q at.0 at.2 hit))
    heard_at index found Stop q at few hit =
        let low = at.0 in
        record {
          looked = at.1;
          found = found_last at.3.2 at.1.mine found q at.0 at.3.1 at.2 hit;
          steps = (let most = few in omega arith);
        }

    -- At a stage that is a question the closure's answer brings the find past the index, or ends it.
    pub heard : {index found : ℕ} → c.stage ≡ finds.Asks index found → (answer : CallbackProgression) (q : F) → step p index answer q
        → On (find_takes c (finds.Asks index found) owner (says answer)) v q
    heard {index} {found} is answer q hit =
        heard_at index found answer q (subst (λ stage. SoFar stage v p) is h.so_far) (subst (λ stage. TakesAtMost (cells_loaded stage) base v) is h.steps) hit

  -- A find that is about to begin has called its closure with no index.
  pub starts : {c : Find} → c ≡ first_find cap → base.capacity ≡ cap → 0 < base.share.part → 0 < cap → Search base c f
  starts c_is capacity_is_cap part_positive cap_positive = grind (arith, came_none)

  -- the closure may be called with the index that it has come to
  pub may_go : {pre : F → ℕ → Type 0} {v : View ℕ} {c : Find} {p : F} → TakesPlaces pre (λ p x q. step p x Continue q) cap f → Search v c p
      → FindAsks pre cap c.stage p
  may_go {pre} {v} {c} {p} takes h = go c.stage h.so_far
    where
      -- The cases are the find's stages. Only at a question is the closure called.
      go : (stage : FindStage) → SoFar stage v p → FindAsks pre cap stage p
      go (finds.LoadsCell index found) so = so.0
      go (finds.Asks index found) so = (let came = so.3.2 in (so.0, takes.at came.indices p index came.calls came.ascend came.below so.0))

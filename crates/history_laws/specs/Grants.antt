-- Who holds one index of a robust index set, or of a container, where each that frees that index may.
use Rattle.std.specs.Prelude.{◌≡◌, ℕ, ◌==◌, ◌&&◌, Bool, true, false, None, List, [], ◌∷◌, if◌then◌else◌, sum_by}
use Rattle.model.specs.declared.event.Event.{Event}
use Rattle.model.specs.declared.event.Event.TheVariants.{Granted, FreedOf}
use Rattle.model.specs.declared.event.Start.TheVariants.{Robust, Container}
use Rattle.model.specs.declared.families.container.ContainerStart.TheVariants as containers
use Rattle.model.specs.declared.families.indices.robust.RobustStart.TheVariants.{Acquire, Release, Recover}
use Rattle.model.specs.Families.Indices.Robust.Promises.{MayGiveBack}
use Rattle.model.specs.Families.Indices.Robust.Reading.{SetAct, Fills, set_acts, holder_of}
use Rattle.model.specs.Reading.{Each, Span, Open, span_of}

-- whether the call has filled the index first of all
abbrev pub has_filled : ℕ → List SetAct → Bool
has_filled i (Fills index owner ∷ rest) = index == i
has_filled i all = false

-- whether a call has done nothing to the set
abbrev pub has_done_nothing : List SetAct → Bool
has_done_nothing [] = true
has_done_nothing all = false

module _ {T : Type 0} where
  -- whether a call is at the index: it is an acquire or an add that has filled it, or a release or a remove
  -- that is to give it back
  abbrev pub is_at : ℕ → Span T → Bool
  is_at i (Open (Robust (Acquire owner)) wrote) = has_filled i (set_acts wrote)
  is_at i (Open (Container (containers.Add value owner)) wrote) = has_filled i (set_acts wrote)
  is_at i (Open (Robust (Release index owner mode)) wrote) = (index == i) && has_done_nothing (set_acts wrote)
  is_at i (Open (Container (containers.Remove index owner mode)) wrote) =
      (index == i) && has_done_nothing (set_acts wrote)
  is_at i span = false

  -- The call of party p may free the index: a recovery, where no call is at it; a release or a remove, where
  -- it was begun when the index might be given back for its owner.
  abbrev pub MayFree : (p index : ℕ) → List (Event T) → Span T → Type 0
  MayFree p index before (Open (Robust (Recover mode)) wrote) = (q : ℕ) → is_at index (span_of q before) ≡ false
  MayFree p index before (Open (Container (containers.Recover owner mode)) wrote) =
      (q : ℕ) → is_at index (span_of q before) ≡ false
  MayFree p index before span = MayGiveBack p index before span

  -- an event that frees index i is of a call that may free it
  abbrev pub FreesRightAt : ℕ → List (Event T) → Event T → Type 0
  FreesRightAt i before (FreedOf p index owner) = index ≡ i → MayFree p index before (span_of p before)
  FreesRightAt i before e = Unit {0}

  -- each event of the history that frees index i is of a call that may free it
  abbrev pub IsFreedRight : ℕ → List (Event T) → Type 0
  IsFreedRight i events = Each (FreesRightAt i) events

  -- 1 for an event that frees the index
  abbrev pub freeing : ℕ → Event T → ℕ
  freeing i (FreedOf p index owner) = if index == i then 1 else 0
  freeing i e = 0

  -- how often the index was freed
  abbrev pub times_freed : ℕ → List (Event T) → ℕ
  times_freed i events = sum_by (freeing i) events

  -- an event that grants index i comes while nobody holds it
  abbrev pub GrantsRightAt : ℕ → List (Event T) → Event T → Type 0
  GrantsRightAt i before (Granted p index owner) = index ≡ i → holder_of index before ≡ None
  GrantsRightAt i before e = Unit {0}

  -- index i is granted only while nobody holds it
  abbrev pub IsHeldByOne : ℕ → List (Event T) → Type 0
  IsHeldByOne i events = Each (GrantsRightAt i) events

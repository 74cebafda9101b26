-- What the closures of a find and of a recovery are called with: indices that ascend below the
-- capacity, each at most once; and what a find tells of these.
use Rattle.std.specs.Prelude.{◌≡◌, ℕ, ◌+◌, ◌<◌, ◌⊎◌, Bool, true, false, List, [], ◌∷◌, ◌++◌, length, map, filter, All, AllPairs, Contains}
use Rattle.std.specs.List.{FoldsTo}
use Rattle.steps.specs.Indices.Robust.Parts.{empty}
use Rattle.steps.specs.declared.enums.CallbackProgression.{CallbackProgression}
use Rattle.steps.specs.declared.enums.CallbackProgression.TheVariants.{Continue, Stop}
use Rattle.model.specs.declared.event.Event.{Event}
use Rattle.threaded.specs.Callable.{Ascends}
use Rattle.history_owners.specs.Finds.{WereOwned}
use Rattle.history_owners.specs.Robust.{Visit, Came, HasAsked, WasTold}

-- ---- find

module _ {F : Type 0} (step : F → ℕ → CallbackProgression → F → Type 0) where
  -- called with these in turn, the closure said each time to go on, and became this
  abbrev pub WentOn : F → List ℕ → F → Type 0
  WentOn = FoldsTo (λ p x q. step p x Continue q)

  -- called with these indices in turn, the closure said at each but the last one to go on, and at the last
  -- one to stop; the bound is the last index plus 1
  pub record WasStopped (f : F) (indices : List ℕ) (bound : ℕ) (last : F) : Type 0 where
    pub before : List ℕ
    pub index : ℕ
    pub is : indices ≡ before ++ index ∷ []
    pub bound_is : bound ≡ index + 1
    pub now : F
    pub calls : WentOn f before now
    pub stops : step now index Stop last

  -- A find of an owner's indices called the closure with just these, ascending, and answered how many
  -- they are. It came to all indices below the bound: to all that there are, or up to the one at which
  -- the closure said to stop. Of those it called the closure with each that had the owner at each moment
  -- from the one history to the other, and with none that never had him there.
  pub record HasFound (capacity owner : ℕ) (f : F) (number : ℕ) (last : F)
      (old new : List (Event ℕ)) : Type 0 where
    pub indices : List ℕ
    pub number_is : number ≡ length indices
    pub ascend : Ascends capacity indices
    pub bound : ℕ
    pub calls : (WentOn f indices last × (bound ≡ capacity)) ⊎ WasStopped f indices bound last
    pub owned : WereOwned owner bound indices old new

-- ---- recover

-- an index with its owner
pub record Owned : Type 0 where
  pub owner : ℕ
  pub index : ℕ

-- a question about it, and the answer
pub record Asked : Type 0 where
  pub of : Owned
  pub yes : Bool

-- the owner is one that there may be, and the index is below the capacity
abbrev pub IsOwned : ℕ → Owned → Type 0
IsOwned capacity o = (o.owner < empty) × (o.index < capacity)

-- each index is below the capacity and above the one before it, and each owner is one that there may be
abbrev pub TheyAscend : ℕ → List Owned → Type 0
TheyAscend capacity told =
    AllPairs (λ (x y : Owned). x.index < y.index) told × All (IsOwned capacity) told

-- the questions are about indices below the capacity, each above that of the question before it, of
-- owners that may be one
abbrev pub QuestionsAscend : ℕ → List Asked → Type 0
QuestionsAscend capacity asked =
    AllPairs (λ (x y : Asked). x.of.index < y.of.index) asked
    × All (λ (a : Asked). IsOwned capacity a.of) asked

-- a question about this index and owner was answered yes
abbrev pub WasAgreed : List Asked → Owned → Type 0
WasAgreed asked o = Contains asked (record { of = o; yes = true })

-- one call of the closure that is asked: it answered this question so, and became q
abbrev pub asks : {F : Type 0} → (F → ℕ → ℕ → Bool → F → Type 0) → F → Asked → F → Type 0
asks step p a q = step p a.of.owner a.of.index a.yes q

-- one call of the closure that is told: it was told of this index and owner, and became q
abbrev pub tells : {S : Type 0} → (S → ℕ → ℕ → S → Type 0) → S → Owned → S → Type 0
tells step p o q = step p o.owner o.index q

-- after questions that ascend, the closure may be asked about any index above them and below the
-- capacity, of any owner
pub record TakesQuestions {F : Type 0} (pre : F → ℕ → ℕ → Type 0)
    (step : F → ℕ → ℕ → Bool → F → Type 0) (capacity : ℕ) (f : F) : Type 0 where
  pub at : (before : List Asked) (now : F) (o : Owned) → FoldsTo (asks step) f before now
      → QuestionsAscend capacity before → All (λ (a : Asked). a.of.index < o.index) before
      → IsOwned capacity o → pre now o.owner o.index

-- after a yes about an index, and after calls for indices below it, the closure may be told of it
pub record TakesFreed {F S : Type 0} (step : F → ℕ → ℕ → Bool → F → Type 0)
    (pre : S → ℕ → ℕ → Type 0) (tell : S → ℕ → ℕ → S → Type 0) (capacity : ℕ)
    (f : F) (s : S) : Type 0 where
  pub at : (asked : List Asked) (p : F) (before : List Owned) (now : S) (o : Owned)
      → FoldsTo (asks step) f asked p → QuestionsAscend capacity asked → WasAgreed asked o
      → FoldsTo (tells tell) s before now → TheyAscend capacity before
      → All (λ (x : Owned). x.index < o.index) before
      → IsOwned capacity o → pre now o.owner o.index

-- ---- what the closures were called with at the visits of a recovery

-- at this visit of a recovery the closure said yes
abbrev pub was_told : Came → Bool
was_told HasAsked = false
was_told came = true

-- at this visit of a recovery the index was freed
abbrev pub was_freed : Came → Bool
was_freed HasAsked = false
was_freed WasTold = false
was_freed came = true

-- the index of a visit with its owner
abbrev pub owned_at : Visit → Owned
owned_at v = record { owner = v.owner; index = v.index }

-- the question at a visit, with the answer of the closure
abbrev pub question_at : Visit → Asked
question_at v = record { of = owned_at v; yes = was_told v.came }

-- the questions to the first closure: one about each visit, with its answer
abbrev pub questions_of : List Visit → List Asked
questions_of visits = map question_at visits

-- what the second closure is told of: the visits at which the index was freed
abbrev pub freed_of : List Visit → List Owned
freed_of visits = map owned_at (filter (λ (v : Visit). was_freed v.came) visits)

-- Called as these visits say, the first closure became `f_last` and the second `s_last`, and the owner
-- at each visit is one that there may be.
pub record HasVisited {F S : Type 0} (step : F → ℕ → ℕ → Bool → F → Type 0)
    (tell : S → ℕ → ℕ → S → Type 0) (f : F) (s : S) (visits : List Visit) (f_last : F) (s_last : S)
    : Type 0 where
  pub asked : FoldsTo (asks step) f (questions_of visits) f_last
  pub told : FoldsTo (tells tell) s (freed_of visits) s_last
  pub owned : All (λ (v : Visit). v.owner < empty) visits

-- What the closures of a find and of a recovery are called with, in which order.
use Rattle.std.specs.Prelude.{◌≡◌, ℕ, ◌+◌, ◌⊎◌, Bool, true, List, ◌∷◌, ◌++◌, length, map, filter}
use Rattle.std.specs.List.{FoldsTo}
use Rattle.steps.specs.declared.ask.Question.{Question}
use Rattle.steps.specs.declared.ask.Question.TheVariants as put
use Rattle.steps.specs.declared.enums.CallbackProgression.{CallbackProgression}
use Rattle.steps.specs.declared.enums.CallbackProgression.TheVariants.{Continue, Stop}
use Rattle.steps.specs.declared.indices.enums.ReleaseMode.{ReleaseMode}
use Rattle.steps.specs.Objects.Owners.{Owners, Owned, to_recover, recovered}

-- ---- find

-- the closure may be called with each of these indices, once it was called with those before
-- it and said Continue
pub record TakesIndices {F : Type 0} (pre : F → ℕ → Type 0)
    (step : F → ℕ → CallbackProgression → F → Type 0) (indices : List ℕ) (f : F) : Type 0 where
  pub at : (before : List ℕ) (now : F) (index : ℕ) (rest : List ℕ)
      → FoldsTo (λ p x q. step p x Continue q) f before now → before ++ index ∷ rest ≡ indices
      → pre now index

-- The closure was called with these indices, up to the first on which it said Stop: n is the number of calls.
-- These calls led it from its state f to its state `last`.
pub record HasFound {F : Type 0} (step : F → ℕ → CallbackProgression → F → Type 0)
    (indices : List ℕ) (f : F) (n : ℕ) (last : F) : Type 0 where
  -- those on which it said Continue
  pub before : List ℕ
  pub now : F
  pub calls : FoldsTo (λ p x q. step p x Continue q) f before now
  -- these were all, or it was called once more and said Stop
  pub ended : ((before ≡ indices) × (now ≡ last) × (n ≡ length before))
      ⊎ ((index : ℕ) × (rest : List ℕ) × (before ++ index ∷ rest ≡ indices)
      × step now index Stop last × (n ≡ length before + 1))

-- ---- recover

-- a question about an index of an owner, and the answer
pub record Asked : Type 0 where
  pub of : Owned
  pub yes : Bool

-- the indices about which the closure was asked, with their owners
abbrev pub questions : List Asked → List Owned
questions asked = map (λ (a : Asked). a.of) asked

-- the indices of which the answer was yes, with their owners
abbrev pub agreed : List Asked → List Owned
agreed asked = map (λ (a : Asked). a.of) (filter (λ (a : Asked). a.yes) asked)

-- the closure that a recovery asks was called with the question's owner and index, and gave its answer
abbrev pub asks : {F : Type 0} → (F → ℕ → ℕ → Bool → F → Type 0) → F → Asked → F → Type 0
asks step p a q = step p a.of.owner a.of.index a.yes q

-- the closure that a recovery tells of freed indices was told of this index and its owner
abbrev pub tells : {S : Type 0} → (S → ℕ → ℕ → S → Type 0) → S → Owned → S → Type 0
tells step p o q = step p o.owner o.index q

-- the closure may be asked about each of these indices, once it was asked about those before it
pub record TakesQuestions {F : Type 0} (pre : F → ℕ → ℕ → Type 0)
    (step : F → ℕ → ℕ → Bool → F → Type 0) (all : List Owned) (f : F) : Type 0 where
  pub at : (before : List Asked) (now : F) (o : Owned) (rest : List Owned)
      → FoldsTo (asks step) f before now → questions before ++ o ∷ rest ≡ all
      → pre now o.owner o.index

-- after a yes about one of these indices the other closure may be told of it, once it was told of those
-- before it with a yes
pub record TakesFreed {F S : Type 0} (step : F → ℕ → ℕ → Bool → F → Type 0)
    (pre : S → ℕ → ℕ → Type 0) (tell : S → ℕ → ℕ → S → Type 0) (all : List Owned)
    (f : F) (s : S) : Type 0 where
  pub at : (before : List Asked) (p q : F) (now : S) (o : Owned) (rest : List Owned)
      → FoldsTo (asks step) f before p → step p o.owner o.index true q
      → questions before ++ o ∷ rest ≡ all → FoldsTo (tells tell) s (agreed before) now
      → pre now o.owner o.index

-- What a recovery has done: one closure was asked about each index that there is to recover, in order, the
-- other was told of those of a yes, and these were given back. These calls led the closures from their states
-- f and s to `f_last` and `s_last`.
pub record HasRecovered {F S : Type 0} (step : F → ℕ → ℕ → Bool → F → Type 0)
    (tell : S → ℕ → ℕ → S → Type 0) (mode : ReleaseMode) (old new : Owners)
    (f : F) (s : S) (f_last : F) (s_last : S) : Type 0 where
  pub asked : List Asked
  -- it was asked about all there is to recover
  pub all : questions asked ≡ to_recover old
  pub answers : FoldsTo (asks step) f asked f_last
  -- the other closure was told of those of a yes
  pub told : FoldsTo (tells tell) s (agreed asked) s_last
  -- those were given back
  pub next : new ≡ recovered mode old (agreed asked)

-- ---- the questions themselves

-- the index that a question is about
abbrev pub index_in : Question (Unit {0}) → ℕ
index_in (put.Index index) = index
index_in (put.Owned owner index) = index
index_in (put.Value index unit) = index

-- what a closure answers, as the number that a call is handed
abbrev pub as_answer : CallbackProgression → ℕ
as_answer Continue = 1
as_answer Stop = 0

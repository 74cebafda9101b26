-- What calls do at one place of a structure that has many. At a place each call acts at one moment, and what was put
-- there was taken from there or is still there.
use Rattle.std.specs.Prelude.{◌≡◌, ◌≢◌, ◌≤◌, ℕ, ◌+◌, ◌-◌, Option, Some, IfSome, List, [], ◌∷◌, All, map}
use Rattle.std.specs.List.{AllPairs, Contains, sum_by}
use Rattle.pages.specs.Machine.{Event, Called, calls_from}

-- how much a call found at the place, and how much it left there
pub record Act : Type 0 where
  pub found : ℕ
  pub left : ℕ

-- the first act finds `first`, each other act finds what the one before it left, and the last act leaves `last`
abbrev pub IsChain : ℕ → List Act → ℕ → Type 0
IsChain first [] last = first ≡ last
IsChain first (act ∷ acts) last = (act.found ≡ first) × IsChain act.left acts last

-- the sum of what these acts put there equals the sum of what they took from there, plus what is there now (this
-- follows from IsChain from 0)
abbrev pub IsConserved : List Act → ℕ → Type 0
IsConserved acts now = sum_by (λ act. act.left - act.found) acts ≡ sum_by (λ act. act.found - act.left) acts + now

-- `at` says what a call that gets this answer does at the place, if it acts there
pub record ActsAt {Call Answer : Type 0} (at : Call → Answer → Option Act) (history : List (Event Call Answer))
    (now : ℕ) : Type 0 where
  pub sequence : List (Called Call Answer × Act)
  pub chain : IsChain 0 (map (λ x. x.1) sequence) now
  pub conserved : IsConserved (map (λ x. x.1) sequence) now
  pub invoked : All (λ x. Contains (calls_from history 0) x.0) sequence
  -- a call that has responded acts as its answer says, and a pending call acts as some answer says
  pub answered : All
      (λ x. (answer : Answer) × (at x.0.call answer ≡ Some x.1) × IfSome x.0.response (λ r. r.1 ≡ answer))
      sequence
  pub completed : All
      (λ call. IfSome call.response (λ r. IfSome (at call.call r.1) (λ act. Contains sequence (call, act))))
      (calls_from history 0)
  pub once : AllPairs (λ x y. x.0 ≢ y.0) sequence
  -- no response stands before the invocation of a call that is earlier in the sequence
  pub real_time : AllPairs (λ x y. IfSome y.0.response (λ r. x.0.place ≤ r.0)) sequence

-- For each field of what the robust index set promises a run that this field alone refuses here.
use Rattle.std.proofs.Common.{ℕ, ◌-◌, ◌^◌, true, List, [], ◌∷◌, refl, arith}
use Rattle.model.specs.declared.event.Answer.TheVariants.{Truth}
use Rattle.model.specs.declared.event.Event.{Event}
use Rattle.model.specs.declared.event.Event.TheVariants.{Filled, Granted, Told, Finished}
use Rattle.model.specs.declared.event.Start.TheVariants as starts
use Rattle.model.specs.declared.families.Registry.TheVariants as registries
use Rattle.model.specs.declared.families.indices.robust.RobustStart.TheVariants.{IsLocked}
use Rattle.model.specs.declared.turn.Kind.TheVariants as kinds
use Rattle.model.specs.Families.Indices.Robust.Promises.{IsRobustSet, FreesRight, IsWellFormed}
use Rattle.model.specs.World.{Trace}
use Rattle.model.proofs.Readings.{Each-append, Each-nil}
use Rattle.wrong_runs.specs.Wrong as wrong
use Rattle.wrong_runs.specs.Wrong.{two_grants}
use Rattle.wrong_runs.proofs.Machines.{machine}

abbrev empty : ℕ
empty = 2 ^ 64 - 1

-- A robust set with these words (the counter, and a cell for each of two indices) and events.
abbrev pub set : List ℕ → List (Event ℕ) → Trace ℕ
set words events = machine kinds.Robust words (registries.Owners []) events

-- an index is filled for two owners
filled_twice : IsRobustSet (set (0 ∷ 7 ∷ empty ∷ []) (Filled 0 0 7 ∷ Filled 1 0 9 ∷ [])) → ⊥
filled_twice robust_set = cc ((robust_set.does (Filled 0 0 7 ∷ []) [] (Filled 1 0 9) refl).1)

-- a recovery is told to free an index of an owner who lives
told_of_the_living : IsRobustSet (set (0 ∷ 7 ∷ empty ∷ []) (Filled 0 0 7 ∷ Told 1 0 7 ∷ [])) → ⊥
told_of_the_living robust_set = cc (robust_set.asks (Filled 0 0 7 ∷ []) [] (Told 1 0 7) refl)

-- The run in which an index is granted to two owners is well-formed.
pub well_formed : IsWellFormed two_grants
well_formed = Each-append FreesRight [] two_grants (Each-nil FreesRight) (tt, (tt, (tt, tt)))

-- An index that is granted to two owners is refused.
pub granted_twice : IsRobustSet wrong.granted_twice → ⊥
granted_twice robust_set = cc (robust_set.holds well_formed (Filled 0 0 7 ∷ Granted 0 0 7 ∷ []) [] (Granted 1 0 9) refl)

-- A look answers that the set is locked, and nobody has locked it.
says_so : IsRobustSet (set (0 ∷ empty ∷ empty ∷ []) (Finished 0 (starts.Robust IsLocked) (Truth true) ∷ [])) → ⊥
says_so robust_set = cc (robust_set.answers [] [] (Finished 0 (starts.Robust IsLocked) (Truth true)) refl)

-- a cell holds an owner, and nobody has filled it
holds_unfilled : IsRobustSet (set (0 ∷ 7 ∷ empty ∷ []) []) → ⊥
holds_unfilled robust_set = absurd (omega (arith, robust_set.cells 0 (omega arith)))

-- The counter says that the set is locked, and nobody has locked it.
counter_says_so : IsRobustSet (set ((2 ^ 64 - 1) ∷ empty ∷ empty ∷ []) []) → ⊥
counter_says_so robust_set = cc (robust_set.lock)

-- the machine takes an owner for dead who has not died
unnamed_dead : IsRobustSet (machine kinds.Robust (0 ∷ empty ∷ empty ∷ []) (registries.Owners (7 ∷ [])) []) → ⊥
unnamed_dead robust_set = cc (robust_set.dead 7)

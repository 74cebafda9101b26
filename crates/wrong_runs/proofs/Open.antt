-- For each field of what holds of a robust index set and of a container in which nobody sees an owner die a run that this field alone
-- refuses here.
use Rattle.std.proofs.Common.{◌≡◌, ◌<◌, ℕ, ◌-◌, ◌^◌, true, List, [], ◌∷◌, refl, arith}
use Rattle.steps.specs.declared.indices.enums.ReleaseMode.TheVariants.{Default}
use Rattle.model.specs.declared.event.Answer.TheVariants.{Truth}
use Rattle.model.specs.declared.event.Event.{Event}
use Rattle.model.specs.declared.event.Event.TheVariants.{Begun, Filled, Granted, FreedOf, Asked, Told, Copied, Died, Finished}
use Rattle.model.specs.declared.event.Start.{Start}
use Rattle.model.specs.declared.event.Start.TheVariants as starts
use Rattle.model.specs.declared.families.Registry.TheVariants as registries
use Rattle.model.specs.declared.families.container.ContainerStart.TheVariants as containers
use Rattle.model.specs.declared.families.indices.robust.RobustStart.TheVariants as robust
use Rattle.model.specs.declared.turn.Kind.TheVariants as kinds
use Rattle.model.specs.Families.Container.Reading.{Copies}
use Rattle.model.specs.Families.Indices.Robust.Promises.{FreesRight, IsWellFormed}
use Rattle.model.specs.World.{Trace}
use Rattle.model.proofs.Readings.{Each-append, Each-nil, no_more}
use Rattle.model.proofs.Runs.{begins}
use Rattle.laws_robust.specs.Gone.{IsHonest, ActsForRight}
use Rattle.laws_robust.specs.Open.{IsOpenSet}
use Rattle.model.specs.Open.{IsReachedOpen}
use Rattle.laws_container.specs.Open.{IsOpenContainer, IsFaithful, IsFaithfulRun}
use Rattle.wrong_runs.proofs.Container as plain
use Rattle.wrong_runs.proofs.Machines.{machine}

abbrev empty : ℕ
empty = 2 ^ 64 - 1

-- an index is granted to two owners, in a run that is well-formed and honest
abbrev two : List (Event ℕ)
two = Filled 0 0 7 ∷ Granted 0 0 7 ∷ Granted 1 0 9 ∷ []

well_formed : IsWellFormed two
well_formed = Each-append FreesRight [] two (Each-nil FreesRight) (tt, (tt, (tt, tt)))

honest : IsHonest two
honest = Each-append ActsForRight [] two (Each-nil ActsForRight) (refl, (refl, (refl, tt)))

-- ---- the robust index set: the counter, and a cell for each index

-- A robust set with these words (the counter, and a cell for each index) and events.
abbrev set : List ℕ → List (Event ℕ) → Trace ℕ
set words events = machine kinds.Robust words (registries.Owners []) events

-- An index is filled for two owners.
filled_twice : IsOpenSet (set (0 ∷ 7 ∷ empty ∷ []) (Filled 0 0 7 ∷ Filled 1 0 9 ∷ [])) → ⊥
filled_twice open_set = cc ((open_set.does (Filled 0 0 7 ∷ []) [] (Filled 1 0 9) refl).1)

-- a recovery asks about an index that nobody has filled
asks_of_nothing : IsOpenSet (set (0 ∷ empty ∷ empty ∷ []) (Asked 1 0 7 ∷ [])) → ⊥
asks_of_nothing open_set = cc ((open_set.asks [] [] (Asked 1 0 7) refl).0)

-- A look answers that the set is locked, and nobody has locked it.
says_so : IsOpenSet (set (0 ∷ empty ∷ empty ∷ []) (Finished 0 (starts.Robust robust.IsLocked) (Truth true) ∷ [])) → ⊥
says_so open_set = cc (open_set.answers [] [] (Finished 0 (starts.Robust robust.IsLocked) (Truth true)) refl)

-- An index is granted to two owners.
granted_twice : IsOpenSet (set (0 ∷ 7 ∷ empty ∷ []) two) → ⊥
granted_twice open_set = cc (open_set.holds well_formed honest (Filled 0 0 7 ∷ Granted 0 0 7 ∷ []) [] (Granted 1 0 9) refl)

-- A cell holds an owner, and nobody has filled it.
holds_unfilled : IsOpenSet (set (0 ∷ 7 ∷ empty ∷ []) []) → ⊥
holds_unfilled open_set = absurd (omega (arith, open_set.cells 0 (omega arith)))

-- The counter says that the set is locked, and nobody has locked it.
counter_says_so : IsOpenSet (set ((2 ^ 64 - 1) ∷ empty ∷ empty ∷ []) []) → ⊥
counter_says_so open_set = cc (open_set.lock)

-- an owner is seen to die
seen_to_die : IsOpenSet (set (0 ∷ empty ∷ empty ∷ []) (Died 7 ∷ [])) → ⊥
seen_to_die open_set = cc (open_set.lives 7)

-- The machine takes an owner for dead whom nobody has seen die.
unnamed_dead : IsOpenSet (machine kinds.Robust (0 ∷ empty ∷ empty ∷ []) (registries.Owners (7 ∷ [])) []) → ⊥
unnamed_dead open_set = cc (open_set.dead 7)

-- ---- the container, of whatever turns

-- What an open container promises does not hold of this machine, whatever turns have reached it.
abbrev IsRefused : Trace ℕ → Type 0
IsRefused t = (r : IsReachedOpen t) → IsOpenContainer t r → ⊥

-- An index of a container is filled for two owners.
filled_twice_there : IsRefused (plain.container plain.still (Filled 0 0 7 ∷ Filled 1 0 9 ∷ []))
filled_twice_there r k = cc ((k.does (Filled 0 0 7 ∷ []) [] (Filled 1 0 9) refl).1)

-- a recovery is told to free an index of an owner for whom none has begun
told_unbegun : IsRefused (plain.container plain.still (Told 1 0 7 ∷ []))
told_unbegun r k = cc (k.asks [] [] (Told 1 0 7) refl)

-- A recovery of owner 9.
abbrev other : Start ℕ
other = starts.Container (containers.Recover 9 Default)

not_another : (o p : ℕ) → o < p → o ≡ p → ⊥
not_another o p far same = absurd (omega arith)

-- A recovery of owner 9 frees an index of owner 7.
frees_another : IsRefused (plain.container plain.still (Filled 0 0 7 ∷ Begun 1 other ∷ FreedOf 1 0 7 ∷ []))
frees_another r k = not_another 7 9 (omega arith) (k.recovers (Filled 0 0 7 ∷ Begun 1 other ∷ []) [] (FreedOf 1 0 7) refl).0

-- A look answers that the container is locked, and nobody has locked it.
says_so_there : IsRefused (plain.container plain.still (Finished 0 (starts.Container containers.IsLocked) (Truth true) ∷ []))
says_so_there r k = cc (k.answers [] [] (Finished 0 (starts.Container containers.IsLocked) (Truth true)) refl)

-- A cell of a container holds an owner, and nobody has filled it.
holds_unfilled_there : IsRefused (plain.container (0 ∷ 7 ∷ empty ∷ 0 ∷ 0 ∷ 0 ∷ 0 ∷ 0 ∷ []) [])
holds_unfilled_there r k = absurd (omega (arith, k.cells 0 (omega arith)))

-- The counter of a container says that it is locked, and nobody has locked it.
counter_says_so_there : IsRefused (plain.container ((2 ^ 64 - 1) ∷ empty ∷ empty ∷ 0 ∷ 0 ∷ 0 ∷ 0 ∷ 0 ∷ []) [])
counter_says_so_there r k = cc (k.lock)

-- An owner of a container is seen to die.
seen_to_die_there : IsRefused (plain.container plain.still (Died 7 ∷ []))
seen_to_die_there r k = cc (k.lives 7)

-- The machine of a container takes an owner for dead whom nobody has seen die.
unnamed_dead_there : IsRefused (machine kinds.Container plain.still (registries.Container (7 ∷ []) []) [])
unnamed_dead_there r k = cc (k.dead 7)

-- A find asks about a value that it has not copied.
asks_uncopied : IsRefused (plain.forgotten (begins 1 (starts.Container (containers.Find 1)) 4))
asks_uncopied r k = let asked_there = k.questions 1 0 5 refl in plain.no_copy asked_there.before (Copies 0 5) asked_there.is

-- A state shows a value that its party has not copied.
shows_uncopied : IsRefused (plain.forgotten (begins 1 (starts.Container containers.GetState) 4))
shows_uncopied r k = let shown_there = k.states 1 0 _ 5 refl refl refl in no_more shown_there.before (Copied 1 0 5) shown_there.after shown_there.is

-- An index of a container is granted to two owners.
granted_twice_there : IsRefused (plain.container plain.still two)
granted_twice_there r k = cc (k.holds well_formed honest (Filled 0 0 7 ∷ Granted 0 0 7 ∷ []) [] (Granted 1 0 9) refl)

-- an index is filled for an owner for whom a recovery has begun, though nobody takes a step for one who is gone
abbrev dishonest : Trace ℕ
dishonest = plain.container plain.still (Begun 1 (starts.Container (containers.Recover 7 Default)) ∷ Filled 0 0 7 ∷ [])

-- A step for an owner who is gone is refused in a run that is faithful.
fills_for_gone : (r : IsReachedOpen dishonest) → IsFaithful dishonest r → IsOpenContainer dishonest r → ⊥
fills_for_gone r faithful open_container =
    cc (open_container.honest faithful (Begun 1 (starts.Container (containers.Recover 7 Default)) ∷ []) [] (Filled 0 0 7) refl)

-- a value is copied that does not stand there, in a run that is well-formed, faithful and short
copies_nothing : (r : IsReachedOpen (plain.container plain.still plain.copied)) → IsFaithfulRun (plain.container plain.still plain.copied) r
    → IsOpenContainer (plain.container plain.still plain.copied) r
    → ⊥
copies_nothing r faithful open_container = plain.copies_nothing (open_container.contained plain.copied_well_formed faithful)

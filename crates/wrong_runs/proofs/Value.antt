-- For each field of what the single value promises a run that this field alone refuses here.
use Rattle.std.proofs.Common.{ℕ, true, false, Some, None, List, [], ◌∷◌, refl}
use Rattle.model.specs.declared.event.Answer.TheVariants.{Truth, Loaded, Number}
use Rattle.model.specs.declared.event.Event.{Event}
use Rattle.model.specs.declared.event.Event.TheVariants.{Acted, Finished}
use Rattle.model.specs.declared.event.Start.TheVariants.{Atomic}
use Rattle.model.specs.declared.families.Registry.TheVariants as registries
use Rattle.model.specs.declared.families.atomic.AtomicStart.TheVariants.{AcquireProducer, Store, Load, HasProducer, Version}
use Rattle.model.specs.declared.turn.Kind.TheVariants as kinds
use Rattle.model.specs.Families.Atomic.Promises.{IsValue}
use Rattle.model.specs.World.{Trace}
use Rattle.wrong_runs.proofs.Machines.{machine}

-- A single value with these words (the version, the role and two cells of one word) and events, in which
-- nobody holds the role.
abbrev pub value : List ℕ → List (Event ℕ) → Trace ℕ
value words events = machine kinds.Atomic words (registries.Atomic None) events

-- a load answers what nobody has stored
invents : IsValue (value (1 ∷ 1 ∷ 0 ∷ 0 ∷ []) (Acted 0 (Atomic Load) (Loaded 5) ∷ [])) → ⊥
invents value = cc (value.moments)

-- The answer of such a load is also not the value that stands.
invents_there : IsValue (value (1 ∷ 1 ∷ 0 ∷ 0 ∷ []) (Acted 0 (Atomic Load) (Loaded 5) ∷ [])) → ⊥
invents_there value = cc (value.answers [] [] (Acted 0 (Atomic Load) (Loaded 5)) refl)

-- the cell holds what nobody has stored
changes_unseen : IsValue (value (1 ∷ 1 ∷ 5 ∷ 0 ∷ []) []) → ⊥
changes_unseen value = cc (value.cell)

-- a role is refused that nobody holds
refused_role : IsValue (value (1 ∷ 1 ∷ 0 ∷ 0 ∷ []) (Finished 0 (Atomic AcquireProducer) (Truth false) ∷ [])) → ⊥
refused_role value = cc (value.roles [] [] (Finished 0 (Atomic AcquireProducer) (Truth false)) refl)

-- a look answers that nobody holds the role, which party 0 holds
abbrev taken : Event ℕ
taken = Finished 0 (Atomic AcquireProducer) (Truth true)

abbrev unseen : Event ℕ
unseen = Finished 1 (Atomic HasProducer) (Truth false)

-- A look that answers that nobody holds the role is refused, since party 0 holds it.
unseen_producer : IsValue (machine kinds.Atomic (1 ∷ 0 ∷ 0 ∷ 0 ∷ []) (registries.Atomic (Some 0)) (taken ∷ unseen ∷ [])) → ⊥
unseen_producer value = cc (value.roles (taken ∷ []) [] unseen refl)

-- a look at the version does not count the last store
abbrev last_stored : Event ℕ
last_stored = Acted 0 (Atomic (Store 7)) (Truth true)

abbrev uncounted : Event ℕ
uncounted = Finished 1 (Atomic Version) (Number 1)

-- A look at the version that does not count the last store is refused.
uncounted_store : IsValue (value (2 ∷ 1 ∷ 0 ∷ 7 ∷ []) (last_stored ∷ uncounted ∷ [])) → ⊥
uncounted_store value = cc (value.answers (last_stored ∷ []) [] uncounted refl)

-- the machine lets a party store that was not granted the role
unnamed_producer : IsValue (machine kinds.Atomic (1 ∷ 0 ∷ 0 ∷ 0 ∷ []) (registries.Atomic (Some 0)) []) → ⊥
unnamed_producer value = cc (value.holder)

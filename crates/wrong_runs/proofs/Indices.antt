-- For each field of what the unique index set promises a run that this field alone refuses here.
use Rattle.std.proofs.Common.{ℕ, ◌-◌, ◌^◌, true, Some, List, [], ◌∷◌, refl, arith}
use Rattle.steps.specs.declared.indices.enums.ReleaseMode.TheVariants.{Default}
use Rattle.model.specs.declared.event.Answer.TheVariants.{Truth}
use Rattle.model.specs.declared.event.Event.{Event}
use Rattle.model.specs.declared.event.Event.TheVariants.{Claimed, Finished}
use Rattle.model.specs.declared.event.Start.TheVariants as starts
use Rattle.model.specs.declared.families.Registry.TheVariants as registries
use Rattle.model.specs.declared.families.indices.IndexStart.TheVariants.{Release, IsLocked}
use Rattle.model.specs.declared.party.Doing.TheVariants.{Over}
use Rattle.model.specs.declared.party.Party.{Party}
use Rattle.model.specs.declared.turn.Kind.TheVariants as kinds
use Rattle.model.specs.Families.Indices.Promises.{IsIndexSet}
use Rattle.model.specs.World.{Trace}
use Rattle.wrong_runs.proofs.Machines.{machine}

-- words: the head, the next index of each index, and the claim flags
abbrev pub set : List ℕ → List (Event ℕ) → Trace ℕ
set words events = machine kinds.Indices words (registries.Indices []) events

-- an index is claimed by two
claimed_twice : IsIndexSet (set (0 ∷ 1 ∷ 2 ∷ 1 ∷ []) (Claimed 0 0 ∷ Claimed 1 0 ∷ [])) → ⊥
claimed_twice index_set = cc ((index_set.holds (Claimed 0 0 ∷ []) [] (Claimed 1 0) refl).1)

-- it says that it is locked, and is not
says_so : IsIndexSet (set (0 ∷ 1 ∷ 2 ∷ 0 ∷ []) (Finished 0 (starts.Indices IsLocked) (Truth true) ∷ [])) → ⊥
says_so index_set = cc (index_set.answers [] [] (Finished 0 (starts.Indices IsLocked) (Truth true)) refl)

-- a flag stands, and nobody holds the index
flag_stands : IsIndexSet (set (0 ∷ 1 ∷ 2 ∷ 1 ∷ []) []) → ⊥
flag_stands index_set = cc (index_set.flags 0 (omega arith))

-- the head says that it is locked, and nobody has locked it
head_says_so : IsIndexSet (set ((2 ^ 24 - 1) ∷ 1 ∷ 2 ∷ 0 ∷ []) []) → ⊥
head_says_so index_set = cc (index_set.lock)

-- the machine lets a party give an index back that it has not claimed
unnamed_holder : IsIndexSet (machine kinds.Indices (0 ∷ 1 ∷ 2 ∷ 0 ∷ []) (registries.Indices (Some 0 ∷ [])) []) → ⊥
unnamed_holder index_set = cc (index_set.holders 0)

-- a release in mode Default has turned back
abbrev turned_back : Party ℕ
turned_back = record { start = starts.Indices (Release 0 Default); steps = 7; backs = 1; doing = Over 0 }

-- a trace whose last call is that release
abbrev released : Trace ℕ
released =
    record {
      world = record (set (0 ∷ 1 ∷ 2 ∷ 0 ∷ []) []).world { latest = (0, turned_back) ∷ [] };
      events = [];
    }

-- A release in the default mode that has turned back is refused.
turns_back : IsIndexSet released → ⊥
turns_back index_set = cc (index_set.straight 0 turned_back refl)

-- A pass between two of its calls has none under way, or its last one rests.
use Rattle.std.proofs.Common.{arith}
use Rattle.lock_free_owners.proofs.Names.{◌≡◌, ◌⊎◌, inl, inr, ℕ, ◌<◌, true, false, true≢false, Option, Some, None, []}
use Rattle.lock_free_owners.proofs.Names.{refl, sym, ap, ◌∙◌, Done, Number, Start, Flight, Coding, goes_of, number_of}
use Rattle.lock_free_owners.proofs.Names.{View, IsResting}
use Rattle.steps.specs.declared.container.find.FindStage.{FindStage}
use Rattle.steps.specs.declared.container.find.FindStage.TheVariants as finds
use Rattle.model.specs.declared.families.Flight.TheVariants as flights
use Rattle.model.specs.declared.families.Registry.{Registry}
use Rattle.model.specs.declared.families.Registry.TheVariants as registries
use Rattle.model.specs.declared.families.container.calls.ContainerFlight.{ContainerFlight}
use Rattle.model.specs.declared.families.container.calls.ContainerFlight.TheVariants as calls
use Rattle.model.specs.declared.turn.Kind.TheVariants as kinds
use Rattle.history_owners.specs.Settled.{AtRested}
use Rattle.lock_free_owners.specs.Container.Idle.{asks, is_at_question, may_rest, IsIdle}

module _ {T : Type 0} (code : Coding T) (v : View T) (fresh : v.other ≡ []) (some : 0 < v.share.part) where
  -- the pass has no call under way, or its last call rests
  abbrev Rests : Type 0
  Rests = (v.going ≡ None) ⊎ IsResting code v

  -- a call of a container that stands at a question as `may_rest` says is a find that rests; the cases
  -- are the calls of a container
  of_find : (p : ℕ) (start : Start T) (flight : ContainerFlight T) → v.party ≡ Some p → v.going ≡ Some (start, flights.Container flight)
      → is_at_question (flights.Container flight) ≡ true → Rests
  of_find p start (calls.Find run) mine going due = go run.call.stage refl due
    where
      -- of a find: at a question it rests, and ends with the number of the indices that it has
      -- found
      go : (stage : FindStage) → run.call.stage ≡ stage → asks stage ≡ true → Rests
      go (finds.LoadsCell index found) is t = absurd (true≢false (sym t))
      go (finds.LoadsCount index found) is t = absurd (true≢false (sym t))
      go (finds.LoadsWord index found count at) is t = absurd (true≢false (sym t))
      go (finds.ChecksCount index found count) is t = absurd (true≢false (sym t))
      go (finds.Asks index found) is t =
          inr (record {
            party = p;
            mine = mine;
            start = start;
            flight = flights.Container (calls.Find run);
            going = going;
            asks = rw is refl;
            answer = Number found;
            ends = λ kept. ends kept;
            alone = fresh;
            some = some;
          })
        where
          -- The answer to stop ends the find with the number of indices that it has found.
          ends : (kept : Registry T) → goes_of code p (flights.Container (calls.Find run)) (number_of false) kept ≡ Done (Number found)
          ends (registries.Container dead states) = rw is refl
          ends kept = rw is refl
  of_find p start flight mine going due = absurd (true≢false (sym due))

  -- Only a find that stands at its question may rest, and it rests.
  of_call : (p : ℕ) (start : Start T) (flight : Flight T) → v.party ≡ Some p → v.going ≡ Some (start, flight) → is_at_question flight ≡ true → Rests
  of_call p start flight party_is going_is is_at_question_true = grind (arith, of_find)

  -- A pass with no call under way may rest; one with a call rests at that call's question.
  by_party : (party : Option ℕ) (going : Option (Start T × Flight T)) → v.party ≡ party → v.going ≡ going → may_rest party going ≡ true → Rests
  by_party party None mine going t = inl going
  by_party None (Some at) mine going t = absurd (true≢false (sym t))
  by_party (Some p) (Some (start, flight)) mine going t = of_call p start flight mine going t

  -- A pass that is idle has no call under way, or its last call rests.
  pub rests : IsIdle v → Rests
  rests idle = by_party v.party v.going refl refl idle

-- `begins` says, by the capacity, which first stage and room a call has, `at` how the call stands at each stage, and `over` how it ends.
module _ {T C M E : Type 0} (code : Coding T) (begins : ℕ → C → M → Type 0) (at : View T → View T → C → M → Type 0)
    (over : View T → E → M → View T → Type 0) where
  -- A call with such a first stage and room (`begins`) is about to begin by a pass that rests or has no call under way.
  begins_by : (v : View T) (c : C) (m : M) → begins v.capacity c m → (v.going ≡ None → at v v c m) → (v.going ≡ None) ⊎ IsResting code v
      → AtRested code kinds.Container begins at over v v c m
  begins_by v c m first here either = grind arith

  -- A call with such a first stage and room (`begins`) is about to begin by an idle pass that has a share and has taken in no other.
  pub rested_begins : (v : View T) (c : C) (m : M) → begins v.capacity c m → (v.going ≡ None → at v v c m) → IsIdle v → v.other ≡ []
      → 0 < v.share.part → AtRested code kinds.Container begins at over v v c m
  rested_begins v c m first here idle alone any = begins_by v c m first here (rests code v alone any idle)

-- with none under way it is between two
none_rests : (T : Type 0) (party : Option ℕ) → may_rest {T = T} party None ≡ true
none_rests T party = grind arith

-- A pass with no call under way is idle.
pub idle_none : {T : Type 0} (v : View T) → v.going ≡ None → IsIdle v
idle_none {T} v none = ap (may_rest v.party) none ∙ none_rests T v.party

-- What calls that run whole answer, by the kind of the machine.
use Rattle.std.proofs.Common.{◌≡◌, ⊎_elim, ℕ, Option, Some, None, refl, sym, ap, subst, ◌∙◌}
use Rattle.model.specs.declared.party.Doing.{Doing}
use Rattle.model.specs.declared.party.Party.{Party}
use Rattle.model.specs.declared.families.queues.QueueKind.TheVariants as queues
use Rattle.model.specs.declared.turn.Kind.{Kind}
use Rattle.model.specs.declared.turn.Kind.TheVariants as kinds
use Rattle.model.specs.Objects.{standing}
use Rattle.model.specs.Parties.{doing_of, flight_of}
use Rattle.model.specs.Turns.{IsReached}
use Rattle.model.specs.World.{Trace, capacity_error, flight_in}
use Rattle.model.specs.Promises.{IsKeptBy}
use Rattle.model.specs.Promises.Families.{promise_of}
use Rattle.model.proofs.Orders.{reached_kept}
use Rattle.machine.proofs.Laws.{laws_of}
use Rattle.headline_whole.specs.Dialogues.{calls_of, story_of}
use Rattle.headline_whole.specs.Kinds.{AnswersWhole}
use Rattle.headline_whole.specs.States.{HoldsPlaces}
use Rattle.headline_whole.specs.Whole.{RunsWhole, AnswersAs, answered}
use Rattle.headline_whole.proofs.BitSets as bit_sets
use Rattle.headline_whole.proofs.ContainerRules as container_rules
use Rattle.headline_whole.proofs.Containers as containers
use Rattle.headline_whole.proofs.Courses.{Course, Holding, Rules}
use Rattle.headline_whole.proofs.Indices as indices
use Rattle.headline_whole.proofs.Law.{Reading, Law}
use Rattle.headline_whole.proofs.Lists.{list_answers}
use Rattle.headline_whole.proofs.Moments.{value_answers}
use Rattle.headline_whole.proofs.Owners as owners
use Rattle.headline_whole.proofs.WithoutQuestions as plainly
use Rattle.headline_whole.proofs.Runs.{NoneUnderWay, OneUnderWay, no_flight}
use Rattle.headline_whole.proofs.SoloCalls.{talking}
use Rattle.headline_whole.proofs.Turns.{answers_whole, stands_whole}

module _ {T : Type 0} (t : Trace T) (r : IsReached t) where
  -- What the machine keeps is what its kind promises.
  pub kept_as : (kind : Kind) → t.world.kind ≡ kind → IsKeptBy (promise_of kind) t
  kept_as kind of_kind = subst (λ k. IsKeptBy (promise_of k) t) of_kind (reached_kept laws_of t r)

module _ {T : Type 0} (t : Trace T) (r : IsReached t) (runs : RunsWhole t.events) where
  -- a machine that keeps to rules has answered as they say, and its object has come to some state
  by_rules : (C : Course T) (H : Holding C) (kind : Kind) → t.world.kind ≡ kind
      → (capacity_error kind t.world.capacity ≡ None → Rules C H t.world.coding kind t.world.capacity)
      → (s : C.State) × C.HasAnswered s t.events (calls_of t r)
  by_rules C H kind of_kind rules =
      answers_whole C H t.world.coding kind t.world.capacity (rules (subst (λ k. capacity_error k t.world.capacity ≡ None) of_kind r.admitted)) t r
      (record { coding = refl; kind = of_kind; capacity = refl }) runs

  -- a machine that keeps to a law answers as the law's object
  by_law : (R : Reading T) (kind : Kind) → t.world.kind ≡ kind
      → (capacity_error kind t.world.capacity ≡ None → Law R t.world.coding kind t.world.capacity)
      → AnswersAs R.spec t.events
  by_law R kind of_kind law =
      (by_rules (plainly.course R) (talking (plainly.course R) (plainly.speech R) t.world.coding) kind of_kind
      (λ may. plainly.rules R t.world.coding kind t.world.capacity (law may))).1.legal

  -- where no call is under way, the words hold the object
  module _ (rests : (q : ℕ) → flight_in t.world q ≡ None) where
    -- its words hold the object as it stands after all calls that have ended
    held_by : (R : Reading T) (kind : Kind) → t.world.kind ≡ kind
        → (capacity_error kind t.world.capacity ≡ None → Law R t.world.coding kind t.world.capacity)
        → R.read t.world.words ≡ standing R.spec.object (answered R.spec.is_call t.events)
    held_by R kind of_kind law =
        let C = plainly.course R in
        let H = talking C (plainly.speech R) t.world.coding in
        ⊎_elim (λ (h : NoneUnderWay C H t (calls_of t r)). sym h.answers.stands)
        (λ (h : OneUnderWay C H t (story_of t r)).
        absurd (no_flight (flight_in t.world h.party) h.flight (rests h.party)
        (ap (λ (o : Option (Party T)). flight_of (doing_of o)) h.found ∙ ap (λ (d : Doing T). flight_of (Some d)) h.doing)))
        (stands_whole C H t.world.coding kind t.world.capacity
        (plainly.rules R t.world.coding kind t.world.capacity (law (subst (λ k. capacity_error k t.world.capacity ≡ None) of_kind r.admitted))) t r
        (record { coding = refl; kind = of_kind; capacity = refl }) runs)

    -- While no call is under way, the flags or counts in the words of a bit set are those of its object.
    pub holds_places : (kind : Kind) → t.world.kind ≡ kind → HoldsPlaces kind t
    holds_places kinds.Bits is = held_by (bit_sets.places_reading t.world.capacity) kinds.Bits is (bit_sets.places_law t.world.coding t.world.capacity)
    holds_places kinds.Counts is = held_by (bit_sets.counts_reading t.world.capacity) kinds.Counts is (bit_sets.counts_law t.world.coding t.world.capacity)
    holds_places kind is = tt

  -- each kind of machine answers as its object
  pub by_kind : (kind : Kind) → t.world.kind ≡ kind → AnswersWhole kind t r
  by_kind kinds.IndexQueue of_kind = list_answers queues.IndexQueue t (kept_as t r kinds.IndexQueue of_kind) runs
  by_kind kinds.Overflow of_kind = list_answers queues.Overflow t (kept_as t r kinds.Overflow of_kind) runs
  by_kind kinds.Queue of_kind = list_answers queues.Queue t (kept_as t r kinds.Queue of_kind) runs
  by_kind kinds.Atomic of_kind = value_answers t (kept_as t r kinds.Atomic of_kind) runs
  by_kind kinds.Bits of_kind = by_law (bit_sets.places_reading t.world.capacity) kinds.Bits of_kind (bit_sets.places_law t.world.coding t.world.capacity)
  by_kind kinds.Counts of_kind = by_law (bit_sets.counts_reading t.world.capacity) kinds.Counts of_kind (bit_sets.counts_law t.world.coding t.world.capacity)
  by_kind kinds.Indices of_kind = by_law (indices.reading t.world.capacity) kinds.Indices of_kind (indices.law t.world.coding t.world.capacity)
  by_kind kinds.Robust of_kind =
      (by_rules (owners.robust_course t.world.capacity)
      (talking (owners.robust_course t.world.capacity) (owners.robust_speech t.world.capacity) t.world.coding) kinds.Robust of_kind
      (owners.rules t.world.coding t.world.capacity)).1.legal
  by_kind kinds.Container of_kind =
      (by_rules (containers.map_course t.world.coding r.coded t.world.capacity) (containers.holding t.world.coding r.coded t.world.capacity)
      kinds.Container of_kind (container_rules.rules t.world.coding r.coded t.world.capacity)).1.legal
  by_kind kind of_kind = tt

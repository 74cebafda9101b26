-- What the machine has of a call that rests gives what contracts say of it (`EndsAs`, `IsResting`).
use Rattle.lock_free_owners.proofs.Names.{◌≡◌, inl, inr, ℕ, false, true, true≢false, refl, sym, subst, ◌∙◌, Done, Number}
use Rattle.lock_free_owners.proofs.Names.{Answer, Flight, Coding, goes_of, want_of, is_question, number_of, View}
use Rattle.steps.specs.declared.container.find.FindStage.{FindStage}
use Rattle.steps.specs.declared.container.find.FindStage.TheVariants as finds
use Rattle.model.specs.declared.families.Flight.TheVariants as flights
use Rattle.model.specs.declared.families.Registry.{Registry}
use Rattle.model.specs.declared.families.Registry.TheVariants as registries
use Rattle.model.specs.declared.families.container.calls.ContainerFlight.TheVariants as calls
use Rattle.model.specs.declared.turn.Kind.TheVariants as kinds
use Rattle.history_owners.specs.Settled as machine
use Rattle.lock_free_owners.specs.Container.Resting.{FindEndsAs, EndsAs, IsResting, Settles, SettledFrom}

module _ {T : Type 0} (code : Coding T) where
  -- A call that a no to its question ends has the answer that `EndsAs` says. The cases are the calls
  -- that put a question; only a find can end by its answer.
  pub ends_as : (p : ℕ) (answer : Answer T) (flight : Flight T) → is_question (want_of code flight) ≡ true
      → ((kept : Registry T) → goes_of code p flight (number_of false) kept ≡ Done answer) → EndsAs flight answer
  ends_as p answer (flights.Container (calls.Find run)) asks ends = go run.call.stage refl
    where
      -- a find at a question, which a no would end with this answer, ends with the number of the
      -- indices that it has found
      go : (stage : FindStage) → run.call.stage ≡ stage → FindEndsAs run.call.stage answer
      go (finds.LoadsCell index found) is = absurd (true≢false (sym asks ∙ rw is refl))
      go (finds.LoadsCount index found) is = absurd (true≢false (sym asks ∙ rw is refl))
      go (finds.LoadsWord index found count at) is = absurd (true≢false (sym asks ∙ rw is refl))
      go (finds.ChecksCount index found count) is = absurd (true≢false (sym asks ∙ rw is refl))
      go (finds.Asks index found) is =
          let flight : Flight T = flights.Container (calls.Find run) in
          let no : goes_of code p flight (number_of false) registries.Nothing ≡ Done (Number found) = rw is refl in
          let ended = ends registries.Nothing in
          let same : answer ≡ Number found = cc in
          subst (λ stage. FindEndsAs stage answer) (sym is) same
  ends_as p answer flight asks ends = tt

  -- a call that rests by the machine rests as contracts say it
  abbrev pub resting_so : (v : View T) → machine.IsResting code v → IsResting v
  resting_so v h =
      record {
        party = h.party;
        mine = h.mine;
        start = h.start;
        flight = h.flight;
        going = h.going;
        answer = h.answer;
        ends = ends_as h.party h.answer h.flight h.asks h.ends;
        alone = h.alone;
        some = h.some;
      }

  -- a call that has ended where it rested by the machine has ended so as contracts say it
  settles : (old new : View T) → machine.Settles code kinds.Container old new → Settles old new
  settles old new h =
      record {
        resting = resting_so old h.resting;
        capacity = h.capacity;
        party = h.party;
        share = h.share;
        state = h.state;
        idle = h.idle;
        asked = h.asked;
        aside = h.aside;
        fresh = h.fresh;
        others = h.others;
        seen = h.seen;
        alone = h.alone;
        others_own = h.others_own;
        made = h.made;
        first = h.ran.first;
        all = h.all;
        parties = h.parties;
      }

  -- What the machine says of a settled view is what contracts say of it.
  pub settled_so : (old new : View T) → machine.SettledFrom code kinds.Container old new → SettledFrom old new
  settled_so old new (inl same) = inl same
  settled_so old new (inr h) = inr (settles old new h)

-- `Publisher::rejoin` (src/publisher.rt): its call of `rejoin_at` meets what that requires, `self` meets the invariant of its type, and
-- its return meets the clauses `taken_in` and `others`.
use Rattle.std.proofs.Common.{◌≡◌, ℕ, sym, ap, subst, ◌∙◌}
use Rattle.std.specs.Prelude.{slice_get, Some}
use Rattle.history.specs.declared.view.View.{View}
use Rattle.lock_free_queues.specs.Queues.Rings.{queue_of, view}
use Rattle.zero_copy_bus.specs.Ends.{receives_left}
use Rattle.zero_copy_bus.specs.Outlets.{AreShown, AtLane, EachOther, HaveTheirPlaces, WasRejoined}
use Rattle.zero_copy_bus.proofs.Leases.{shown_but}
use Rattle.zero_copy_bus.proofs.publisher.Publisher.rejoin.Goals as goal

-- the pass is of the lane at the place that the subscriber left
pub rejoin_at-requires : goal.rejoin_at-requires
rejoin_at-requires g c = (
  c.requires.0,
  subst (λ k. slice_get c.args.self.now.outlets.items k ≡ Some c.requires.0) (sym c.into_received-submission.ensures.place) c.requires.1,
  ap queue_of c.into_received-submission.ensures.pass ∙ c.requires.2,
)

-- one lane stops taking part, so those that do are still shown
pub invariant_of-self : goal.invariant_of-self
invariant_of-self g c =
    let mine = c.args.self.now in
    let one = c.rejoin_at.ensures in
    record {
      sized = mine.sized;
      fits = mine.fits;
      placed = subst HaveTheirPlaces (sym one.holders) mine.placed;
      shown = subst (AreShown mine.roll) (sym one.closed) (shown_but mine.roll _ _ mine.shown);
    }

-- the lane at that place has taken the subscriber's pass in
pub returns-clause-taken_in : goal.returns-clause-taken_in
returns-clause-taken_in g c =
    let it = c.into_received-submission in
    let olds = c.args.self.now.outlets.items in
    let news = c.rejoin_at.new.outlets.items in
    subst (λ k. AtLane k (WasRejoined (receives_left c.args.left)) olds news) it.ensures.place
    (subst (λ (v : View ℕ). AtLane it.result.1 (WasRejoined v) olds news) (ap view it.ensures.pass) c.rejoin_at.ensures.taken_in)

pub returns-clause-others : goal.returns-clause-others
returns-clause-others g c =
    subst (λ k. EachOther k (λ old new. new ≡ old) c.args.self.now.outlets.items c.rejoin_at.new.outlets.items)
    c.into_received-submission.ensures.place c.rejoin_at.ensures.others

-- `Publisher::subscribe` (src/publisher.rt): its return meets the clauses `all`, `loans`, `looked`, `part`, `leased`, `others`,
-- `refused` and `settled`.
use Rattle.std.proofs.Common.{◌≡◌, true≢false, sym, subst, ◌∙◌}
use Rattle.std.specs.Prelude.{slice_get, Some, true}
use Rattle.zero_copy_bus.specs.Books.{KeepsAllOrNone, KeepsLoans}
use Rattle.zero_copy_bus.specs.Ends.{lanes_of, place_before, receives_at, receives_before, roll_of, table_of}
use Rattle.zero_copy_bus.specs.Outlets.{open_in, EachOther, OthersStay}
use Rattle.zero_copy_bus.proofs.Leases.{let_after, moved, not_shown, others_after, seated}
use Rattle.zero_copy_bus.proofs.RollLemmas.{looked_after}
use Rattle.zero_copy_bus.proofs.publisher.Publisher.subscribe.Goals as goal

pub returns-then-takes_part-clause-all : goal.returns-then-takes_part-clause-all
returns-then-takes_part-clause-all g c =
    subst (λ t. KeepsAllOrNone t (table_of c.update.new.self)) c.seat.ensures.table c.update.ensures.all

pub returns-then-takes_part-clause-loans : goal.returns-then-takes_part-clause-loans
returns-then-takes_part-clause-loans g c =
    subst (λ t. KeepsLoans t (table_of c.update.new.self)) c.seat.ensures.table c.update.ensures.loans

-- the look of `update` counts from before `seat`, which makes no look
pub returns-then-takes_part-clause-looked : goal.returns-then-takes_part-clause-looked
returns-then-takes_part-clause-looked g c = (
  c.update.ensures.looked.0,
  looked_after c.update.ensures.looked.0 (roll_of c.args.self.now) (roll_of c.seat.new.self) (roll_of c.update.new.self) c.seat.ensures.looks
      c.update.ensures.looked.1,
)

pub returns-then-takes_part-clause-part : goal.returns-then-takes_part-clause-part
returns-then-takes_part-clause-part g c =
    subst (λ k. slice_get (open_in (lanes_of c.update.new.self)) k ≡ Some true) c.place.ensures (c.takes_part.ensures.0 c.if-takes_part.true)

-- the lane that `seat` let is still let after `update`, since its subscriber takes part
pub returns-then-takes_part-clause-leased : goal.returns-then-takes_part-clause-leased
returns-then-takes_part-clause-leased g c =
    let seat = c.in-Some.seat in
    moved _ _ c.in-Ok.ensures.at c.in-Ok.ensures.receives.0 c.in-Ok.ensures.receives.1
    (let_after (place_before seat)
    (lanes_of c.args.self.now) (lanes_of c.seat.new.self) (lanes_of c.update.new.self) c.update.ensures.settled (receives_at seat)
    (receives_before seat) c.in-Some.ensures.leased
    (subst (λ k. slice_get (open_in (lanes_of c.update.new.self)) k ≡ Some true) (c.place.ensures ∙ c.in-Ok.ensures.at)
    (c.takes_part.ensures.0 c.if-takes_part.true)))

-- the lanes other than the one that `seat` let are as `seat` and then `update` leave them
pub returns-then-takes_part-clause-others : goal.returns-then-takes_part-clause-others
returns-then-takes_part-clause-others g c =
    subst (λ k. EachOther k OthersStay (lanes_of c.args.self.now) (lanes_of c.update.new.self)) (sym c.in-Ok.ensures.at)
    (others_after (place_before c.in-Some.seat)
    (lanes_of c.args.self.now) (lanes_of c.seat.new.self) (lanes_of c.update.new.self) c.update.ensures.settled c.in-Some.ensures.others)

pub returns-in-Ok-leave-clause-all : goal.returns-in-Ok-leave-clause-all
returns-in-Ok-leave-clause-all g c = subst (λ t. KeepsAllOrNone t (table_of c.update.new.self)) c.seat.ensures.table c.update.ensures.all

pub returns-in-Ok-leave-clause-loans : goal.returns-in-Ok-leave-clause-loans
returns-in-Ok-leave-clause-loans g c = subst (λ t. KeepsLoans t (table_of c.update.new.self)) c.seat.ensures.table c.update.ensures.loans

pub returns-in-Err-leave-clause-all : goal.returns-in-Err-leave-clause-all
returns-in-Err-leave-clause-all g c = subst (λ t. KeepsAllOrNone t (table_of c.update.new.self)) c.seat.ensures.table c.update.ensures.all

pub returns-in-Err-leave-clause-loans : goal.returns-in-Err-leave-clause-loans
returns-in-Err-leave-clause-loans g c = subst (λ t. KeepsLoans t (table_of c.update.new.self)) c.seat.ensures.table c.update.ensures.loans

pub returns-in-Err-clause-refused : goal.returns-in-Err-clause-refused
returns-in-Err-clause-refused g c =
    (c.in-Some.seat, c.in-Err._seat, c.in-Some.ensures.leased, c.in-Some.ensures.others, c.in-Err.ensures.refused, c.seat.ensures.table)

pub returns-then-takes_part-clause-settled : goal.returns-then-takes_part-clause-settled
returns-then-takes_part-clause-settled g c =
    seated c.args.self.now c.seat.new.self c.update.new.self c.in-Some.seat c.in-Ok.subscriber c.in-Ok.ensures.at
    c.in-Ok.ensures.receives.0 c.in-Ok.ensures.receives.1 c.in-Some.ensures.leased c.in-Some.ensures.others c.seat.ensures.table
    c.seat.ensures.same.lanes c.update.ensures.settled c.update.ensures.rest

-- the look did not show the subscriber, and it has left
pub returns-in-Ok-leave-clause-refused : goal.returns-in-Ok-leave-clause-refused
returns-in-Ok-leave-clause-refused g c = (
  c.in-Ok.subscriber,
  c.in-Ok-leave._left,
  not_shown c.args.owner c.args.self.now c.update.new.self c.in-Ok.subscriber c.in-Ok.ensures.owner
      (seated c.args.self.now c.seat.new.self c.update.new.self c.in-Some.seat c.in-Ok.subscriber c.in-Ok.ensures.at
      c.in-Ok.ensures.receives.0 c.in-Ok.ensures.receives.1 c.in-Some.ensures.leased c.in-Some.ensures.others c.seat.ensures.table
      c.seat.ensures.same.lanes c.update.ensures.settled c.update.ensures.rest)
      c.update.ensures.looked.0
      (looked_after c.update.ensures.looked.0 (roll_of c.args.self.now) (roll_of c.seat.new.self) (roll_of c.update.new.self) c.seat.ensures.looks
      c.update.ensures.looked.1)
      (λ is.
      true≢false
      (sym (c.takes_part.ensures.1
      (subst (λ k. slice_get (open_in (lanes_of c.update.new.self)) k ≡ Some true) (sym c.place.ensures) is))
      ∙ c.if-takes_part.false)),
  c.in-Ok-leave.ensures.removed,
  c.in-Ok-leave.ensures.left,
)

-- the look did not show the subscriber, and the registry refused to remove its record
pub returns-in-Err-leave-clause-refused : goal.returns-in-Err-leave-clause-refused
returns-in-Err-leave-clause-refused g c = (
  c.in-Ok.subscriber,
  c.in-Err-leave._subscriber,
  not_shown c.args.owner c.args.self.now c.update.new.self c.in-Ok.subscriber c.in-Ok.ensures.owner
      (seated c.args.self.now c.seat.new.self c.update.new.self c.in-Some.seat c.in-Ok.subscriber c.in-Ok.ensures.at
      c.in-Ok.ensures.receives.0 c.in-Ok.ensures.receives.1 c.in-Some.ensures.leased c.in-Some.ensures.others c.seat.ensures.table
      c.seat.ensures.same.lanes c.update.ensures.settled c.update.ensures.rest)
      c.update.ensures.looked.0
      (looked_after c.update.ensures.looked.0 (roll_of c.args.self.now) (roll_of c.seat.new.self) (roll_of c.update.new.self) c.seat.ensures.looks
      c.update.ensures.looked.1)
      (λ is.
      true≢false
      (sym (c.takes_part.ensures.1
      (subst (λ k. slice_get (open_in (lanes_of c.update.new.self)) k ≡ Some true) (sym c.place.ensures) is))
      ∙ c.if-takes_part.false)),
  c.in-Err-leave.ensures.kept,
  c.in-Err-leave.ensures.again,
)

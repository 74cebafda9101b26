-- `hear` (src/main.rt): its call of `rejoin` meets what that requires, and its return meets what it ensures.
use Rattle.std.proofs.Common.{◌≡◌, ◌≢◌, ◌≤◌, sym, ◌∙◌, arith}
use Rattle.zero_copy_bus.specs.Ends.{next_of, place_at, place_left}
use Rattle.uses_news.specs.Marks.{AreNewsBy}
use Rattle.uses_news.proofs.Steps.{apart, are_news, first_lane, first_left, news_kept, second_lane, second_left, HasRun}
use Rattle.uses_news.proofs.hear.Given.{Over}
use Rattle.uses_news.proofs.hear.Goals.{In_ok-marks}
use Rattle.uses_news.proofs.hear.Goals as goal

-- what is known once both have read
ran : (g : Over) (c : In_ok-marks g) → HasRun c.in_ok-marks.marks.0.items c.in_ok-marks.marks.1.items c.args.publisher.now
    c.subscribe.new.self c.subscribe-2.new.self c.run.new.publisher c.in-Ok.one c.run.new.one c.in-Ok-subscribe.other c.run.new.other
ran g c =
    record {
      new = c.requires.fresh;
      one =
          record {
            leased = c.in-Ok.ensures.leased;
            others = c.in-Ok.ensures.others;
            part = c.in-Ok.ensures.part;
            layout = c.in-Ok.ensures.layout;
            next = c.subscribe.ensures.next;
            same = c.subscribe.ensures.same;
          };
      two =
          record {
            leased = c.in-Ok-subscribe.ensures.leased;
            others = c.in-Ok-subscribe.ensures.others;
            part = c.in-Ok-subscribe.ensures.part;
            layout = c.in-Ok-subscribe.ensures.layout;
            next = c.subscribe-2.ensures.next;
            same = c.subscribe-2.ensures.same;
          };
      on = c.takes_part.ensures.0 c.if-not-takes_part.false;
      out = c.run.ensures.out;
      read_one = c.in_ok-marks.ensures.one;
      read_two = c.in_ok-marks.ensures.other;
    }

pub rejoin-requires : goal.rejoin-requires
rejoin-requires g c =
    first_left _ _ _ _ _ _ _ _ _ _ (ran g (goal.at.rejoin-requires g c).In_ok-marks) c.in-Ok-leave.left c.in-Ok-leave.ensures.left

-- what the second subscriber left is of its lane, which the first `rejoin` has left as it was
pub rejoin-requires-2 : goal.rejoin-requires-2
rejoin-requires-2 g c =
    let run = ran g (goal.at.rejoin-requires-2 g c).In_ok-marks in
    second_left _ _ _ _ _ _ _ _ _ _ run c.rejoin.new.self c.in-Ok-leave-2.left
    (second_lane _ _ _ _ _ _ _ _ _ _ run c.rejoin.new.self c.in-Ok-leave.left c.in-Ok-leave.ensures.left c.rejoin.ensures.others
    c.rejoin.ensures.same.layout c.rejoin.ensures.next)
    c.in-Ok-leave-2.ensures.left

-- The two subscribers had different lanes. By the first `rejoin` the first one's marks are news of its lane
-- (`first`), and by the second one the other's (`second`), which leaves the first lane as it was.
pub returns : goal.returns
returns g c =
    let run = ran g (goal.at.returns g c).In_ok-marks in
    let zero : next_of c.subscribe.new.self ≡ 0 = c.subscribe.ensures.next ∙ c.requires.first in
    let none : next_of c.subscribe-2.new.self ≡ 0 = c.subscribe-2.ensures.next ∙ zero in
    let few : next_of c.run.new.publisher ≤ 100 = c.run.ensures.few (omega arith) in
    let same = c.rejoin.ensures.next in
    let differ : place_at c.in-Ok-subscribe.other ≢ place_at c.in-Ok.one =
    apart _ _ _ _ _ _ _ _ _ _ run in
    let first : AreNewsBy c.rejoin.new.self (place_at c.in-Ok.one) c.in_ok-marks.marks.0.items =
    are_news c.passes_on.ensures c.in_ok-marks.marks.0.items (next_of c.subscribe.new.self) c.run.new.publisher
    c.rejoin.new.self c.in-Ok.one c.run.new.one c.in-Ok-leave.left
    (first_lane _ _ _ _ _ _ _ _ _ _ run)
    zero (c.in-Ok.ensures.first ∙ sym c.subscribe.ensures.next) c.in_ok-marks.ensures.one c.in-Ok-leave.ensures.left
    c.rejoin.ensures.taken_in c.rejoin.ensures.same.layout c.rejoin.ensures.next
    (λ e. absurd (omega (arith, e, c.room.ensures, c.if-room-eq0.false))) few in
    let second : AreNewsBy c.rejoin-2.new.self (place_at c.in-Ok-subscribe.other) c.in_ok-marks.marks.1.items =
    are_news c.passes_on.ensures c.in_ok-marks.marks.1.items (next_of c.subscribe-2.new.self) c.rejoin.new.self
    c.rejoin-2.new.self c.in-Ok-subscribe.other c.run.new.other c.in-Ok-leave-2.left
    (second_lane _ _ _ _ _ _ _ _ _ _ run c.rejoin.new.self c.in-Ok-leave.left c.in-Ok-leave.ensures.left
    c.rejoin.ensures.others c.rejoin.ensures.same.layout c.rejoin.ensures.next)
    none (c.in-Ok-subscribe.ensures.first ∙ sym c.subscribe-2.ensures.next) c.in_ok-marks.ensures.other c.in-Ok-leave-2.ensures.left
    c.rejoin-2.ensures.taken_in c.rejoin-2.ensures.same.layout c.rejoin-2.ensures.next
    (λ e. absurd (omega (arith, e, c.room-2.ensures, c.if-room-eq0-2.false))) (omega arith) in (
      place_at c.in-Ok.one,
      place_at c.in-Ok-subscribe.other,
      differ,
      news_kept (place_left c.in-Ok-leave-2.left) (place_at c.in-Ok.one) c.rejoin.new.self c.rejoin-2.new.self
          c.in_ok-marks.marks.0.items first c.rejoin-2.ensures.others
          (λ e. differ (sym (e ∙ (c.in-Ok-leave-2.ensures.left.place ∙ c.in_ok-marks.ensures.other.had.place))))
          c.rejoin-2.ensures.same.layout c.rejoin-2.ensures.next,
      second,
    )

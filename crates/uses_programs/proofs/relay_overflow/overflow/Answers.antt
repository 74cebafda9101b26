-- `overflow` (src/relay_overflow.rt): its return meets what it ensures.
use Rattle.std.proofs.Common.{rules, arith, ◌≡◌, ◌<◌, ◌-◌, ◌^◌, subst, sym, length, Result, Ok, Err, Option, Some, None}
use Rattle.std.specs.Result.{result_ok, IfOk}
use Rattle.uses_programs.proofs.Names.{common_steps, first_view}
use Rattle.lock_free.specs.Queues.Overflowing.{view, queue_of, consumer_view, consumer_queue}
use Rattle.lock_free.specs.Queues.Role.TheVariants as roles
use Rattle.lock_free.specs.Queues.Contracts.{HasSplit}
use Rattle.lock_free.specs.Queues.Merges.{HasPushedUpTo, HasTaken, HasDrained}
use Rattle.lock_free.proofs.Queues.Merging.{overflowed}
use Rattle.uses_programs.proofs.relay_overflow.overflow.Goals as goal

-- what holds of each good result holds of the one that was taken out
taken_out : {A E : Type 0} (P : A → Type 0) (r : Result A E) (x : A) → Some x ≡ result_ok r → IfOk r P → P x
taken_out P (Ok y) x e h = let same : y ≡ x = cc in subst P same h
taken_out P (Err failure) x e h = let none : Some x ≡ None = e in absurd (cc)

-- The joined pass has the whole share of a queue with room for four: what was popped, what the drain took and
-- what was handed back are all that was pushed.
pub returns : goal.returns
returns g c =
    let all = c.args.numbers.now in
    let back = c.in_ok-pass.handed_back.items in
    let came = c.in_ok-further.popped.items in
    let first : view c.in_ok-queue.mine ≡ first_view 4 = (taken_out _ c.new.result _ c.in_ok-queue.ensures.value c.new.ensures.pass).1 in
    let room : (queue_of c.in_ok-queue.mine).capacity ≡ 4 = first_of (search rules, grind (arith, common_steps)) in
    let wide : 0 < (queue_of c.in_ok-queue.mine).capacity = subst (λ n. 0 < n) (sym room) (omega arith) in
    let cut : HasSplit (view c.in_ok-queue.mine) (view c.split.new.self) (view c.in_ok-other.other) = search rules in
    let push : 0 < (queue_of c.split.new.self).capacity → HasPushedUpTo all back (view c.split.new.self) (view c.in_ok-pass.pass) = search rules in
    let pop : 0 < (queue_of c.in_ok-other.other).capacity → HasTaken came (view c.in_ok-other.other) (view c.in_ok-further.further) = search rules in
    let pushed : HasPushedUpTo all back (view c.split.new.self) (view c.in_ok-pass.pass) = push (first_of (search rules, grind (arith, common_steps))) in
    let popped : HasTaken came (view c.in_ok-other.other) (view c.in_ok-further.further) = pop (first_of (search rules, grind (arith, common_steps))) in
    let drains : 0 < (consumer_queue c.in-Ok.consumer).capacity
    → HasDrained came c.drain.new.numbers.items (consumer_view c.in-Ok.consumer) (consumer_view c.drain.new.consumer) =
    search rules in
    let drain : HasDrained came c.drain.new.numbers.items (consumer_view c.in-Ok.consumer) (consumer_view c.drain.new.consumer) =
    drains (first_of (search rules, grind (arith, common_steps))) in
    let fits : length all < 2 ^ 64 - 1 = first_of (search rules, grind (arith, common_steps)) in
    overflowed 4 roles.Consumer all back came c.drain.new.numbers.items _ _ _ _ _ _ _ _ fits first cut pushed
    popped c.join.ensures.same.joined c.join.ensures.same.all c.in-Ok.ensures.acquired.0.goes c.in-Ok.ensures.acquired.1 drain

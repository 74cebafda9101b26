-- `push_pop_and_close` (src/closing.rt): its return meets what it ensures (`IfOk`).
use Rattle.std.proofs.Common.{refl, rules, arith, ◌≡◌, ap, ◌∙◌, [], ◌∷◌}
use Rattle.uses_programs.proofs.Names.{common_steps, slice_get, drop, front, index_tells, Index, Sending, Receiving, Sent, Received}
use Rattle.uses_programs.proofs.Names.{sending_none, sending_one, sent_all, receiving_none, receiving_one, received_all, left_over}
use Rattle.uses_programs.proofs.closing.push_pop_and_close.Goals as goal

-- The numbers 1 and 2 were sent. What was popped and what `close` returned are all that was sent, in order
-- (`all`), so 1 was popped and 2 is left.
pub returns : goal.returns
returns c =
    let x = c.in-Some.shared in
    let list = c.in_ok-list.list in
    let one : Sending Index c.in-Ok.producer (1 ∷ []) c.push.new.self =
    sending_one [] 1 (sending_none refl) c.push.ensures.same (search rules) c.push.ensures.pushed in
    let two : Sending Index c.in-Ok.producer (1 ∷ 2 ∷ []) c.push-2.new.self =
    sending_one (1 ∷ []) 2 one c.push-2.ensures.same (search rules) c.push-2.ensures.pushed in
    let sent : Sent Index c.split.new.self (1 ∷ 2 ∷ []) c.release-pass.result =
    sent_all (1 ∷ 2 ∷ []) 2 c.in-Ok.ensures.acquired.0 c.in-Ok.ensures.acquired.1 two (omega arith) c.release-pass.ensures.same
    c.release-pass.ensures.released c.release-pass.ensures.list in
    let got : Receiving Index c.in-Ok-acquire_consumer.consumer (x ∷ []) c.pop.new.self =
    receiving_one [] (x ∷ []) x (receiving_none refl) c.pop.ensures.same c.pop.ensures.popped (search rules) refl in
    let received : Received Index c.in_ok-other.other (x ∷ []) c.release.result =
    received_all c.in-Ok-acquire_consumer.ensures.acquired.0 c.in-Ok-acquire_consumer.ensures.acquired.1 got
    c.release.ensures.same c.release.ensures.released c.release.ensures.list in
    let all : 1 ∷ 2 ∷ [] ≡ x ∷ list.values =
    left_over c.in_ok-queue.mine c.split.new.self c.in_ok-other.other c.release-pass.result c.release.result c.join.new.self 4 list index_tells
    (first_of (search rules, grind (arith, common_steps))) (search rules) sent received c.join.ensures.same.joined c.join.ensures.same.all (search rules) in
    let rest : list.values ≡ 2 ∷ [] = cc in (
      cc,
      c.pop-first.ensures.answer ∙ ap (λ ys. slice_get ys 0) rest,
      c.pop-second.ensures.answer ∙ (ap front c.pop-first.ensures.list ∙ ap (λ ys. slice_get (drop 1 ys) 0) rest),
    )

-- `relay` (src/main.rt): its call of `join` meets what that requires, and its return meets what it ensures.
use Rattle.std.proofs.Common.{ap, map, sym, ◌∙◌, ◌+◌, ◌≡◌, arith}
use Rattle.std.specs.List.{range_with_len}
use Rattle.uses_blocks.specs.Marks.{mark}
use Rattle.zero_copy_streams.proofs.Told.{all_told}
use Rattle.zero_copy_streams.specs.Ends.{next_of}
use Rattle.uses_blocks.proofs.relay.Goals as goal

pub join-requires : goal.join-requires
join-requires g c =
    let e = c.in_ok-sender.ensures in
    c.leave.ensures.queue ∙ (c.in_ok-sent.ensures.receiver ∙ (e.receiver ∙ sym (c.in_ok-sent.ensures.sender ∙ e.sender)))

-- the end came, so all numbers that were sent were received, and the marks told are theirs
pub returns : goal.returns
returns g c =
    let none : next_of c.in_ok-sender.sender + c.args.count ≡ c.args.count = omega (arith, c.in_ok-sender.ensures.next) in
    let all = c.join.ensures.all (c.leave.ensures.end ∙ c.in_ok-sent.ensures.end) ∙ (c.in_ok-sent.ensures.sent ∙ ap (range_with_len 0) none) in
    all_told mark _ _ _ _ c.in_ok-sent.ensures.read c.new-marks.ensures.items c.in_ok-sender.ensures.received
    ∙ ap (map mark) (sym c.leave.ensures.received ∙ all)

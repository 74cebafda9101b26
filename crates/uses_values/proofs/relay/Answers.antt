-- `relay` (src/main.rt): its call of `relayed` meets the requirements `sends` and `receives`, and its return meets what it ensures.
use Rattle.std.proofs.Common.{◌≡◌, ℕ, List, [], ◌∷◌, map, refl, ap, subst, ◌∙◌, arith}
use Rattle.std.specs.List.{range_with_len}
use Rattle.zero_copy_loans.specs.Numbers.{AreTold, IsPassedOn}
use Rattle.zero_copy_loans.proofs.Ends.{read_all, sent_all}
use Rattle.zero_copy_loans.proofs.Relayed.{are_passed_on}
use Rattle.uses_values.specs.Marks.{mark}
use Rattle.uses_values.proofs.relay.Goals as goal

pub relayed-requires-clause-sends : goal.relayed-requires-clause-sends
relayed-requires-clause-sends g c =
    c.in_ok-sender.ensures.sender c.finish_all-left.result.0 (sent_all _ _ _ _ _ c.in_ok-back.ensures.sent c.finish_all-left.ensures.sends).of

pub relayed-requires-clause-receives : goal.relayed-requires-clause-receives
relayed-requires-clause-receives g c =
    c.in_ok-sender.ensures.receiver c.finish-other.result (read_all _ _ _ _ _ c.in_ok-back.ensures.read c.finish-other.ensures.receives).received.of

-- if of each number its mark is told, what is told is the list of marks
told_marks : (ns told : List ℕ) → AreTold (λ n a. a ≡ mark n) ns told → told ≡ map mark ns
told_marks [] [] all = refl
told_marks [] (a ∷ told) all = absurd all
told_marks (n ∷ ns) [] all = absurd all
told_marks (n ∷ ns) (a ∷ told) all = ap (λ (x : ℕ). x ∷ told) all.0 ∙ ap (λ (xs : List ℕ). mark n ∷ xs) (told_marks ns told all.1)

-- Both ends are taken in, so by the law of the channel a beginning of the values sent was received or came back, and the marks are
-- those of the received ones.
pub returns : goal.returns
returns g c =
    let read = read_all _ _ _ _ _ c.in_ok-back.ensures.read c.finish-other.ensures.receives in
    let known = c.passes_on.ensures.goes_on [] [] [] _ read.numbers _ _ _ _ _ _ _ _ _ c.in-Ok.ensures.fresh c.in_ok-sends.ensures.opened
    c.open.ensures.same c.in_ok-sender.ensures.begun c.in_ok-sender.ensures.waits c.in_ok-sender.ensures.shapes
    (omega (arith, c.in-Ok.ensures.rooms.0)) (omega arith)
    (sent_all _ _ _ _ _ c.in_ok-back.ensures.sent c.finish_all-left.ensures.sends) read.received c.relayed.ensures.rejoined c.relayed.ensures.same in
    are_passed_on mark _ _ _ read.numbers (told_marks read.numbers _ read.of_each)
    (subst (λ n. IsPassedOn (range_with_len n c.args.sent) read.numbers c.in_ok-back.back.items) c.in-Ok.ensures.next (c.passes_on-2.ensures.tells _ _ _ known))

-- `receive_one` (src/main.rt): its return meets what it ensures.
use Rattle.zero_copy_bus.specs.Ends.{number_of}
use Rattle.zero_copy_bus.proofs.Received.{had_still}
use Rattle.uses_news.proofs.Steps.{reads_none, reads_one}
use Rattle.uses_news.proofs.receive_one.Goals as goal

pub returns-in_default : goal.returns-in_default
returns-in_default g c = reads_none _ c.in_default.ensures.had.0 _ _ c.in_default.ensures.had.1

-- one record was received, its mark was appended, and it was given back
pub returns : goal.returns
returns g c =
    let back = c.give_back.ensures in
    reads_one _ _ c.in-Some.ensures.had.0 (number_of c.in-Some.sample) c.in_ok-mark.mark _ _ _ c.in-Ok.ensures.items c.in_ok-mark.ensures.mark
    c.in_ok-mark.ensures.published c.in-Some.ensures.had.1
    (had_still _ _ back.receives.0 back.same.1 back.same.2 back.receives.1 back.expected)

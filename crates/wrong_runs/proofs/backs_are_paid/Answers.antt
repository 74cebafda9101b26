-- `backs_are_paid` (src/lib.rt): by the clauses `runs` and `holds` of the main theorem.
use Rattle.model.specs.Coding.{one_word}
use Rattle.model.proofs.WorkedLockFree.{one_word_codes}
use Rattle.wrong_runs.proofs.backs_are_paid.Goals as goal

pub returns : goal.returns
returns c kind capacity queue parties turns admitted queued p g is =
    (c.main_theorem.ensures.holds _
    (c.main_theorem.ensures.runs one_word kind capacity queue parties turns one_word_codes admitted queued)).progress.paid
    p g is

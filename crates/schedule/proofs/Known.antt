-- What holds of a run over bytes that were read, for a caller that knows the input, and what is told on the
-- errors' writer.
use Rattle.std.proofs.Common.{◌≡◌, ℕ, Option, Some, None, Result, Ok, Err, List, [], subst, IfSome}
use Rattle.std.proofs.KnownBytes.{Appends-nil}
use Rattle.texts.specs.declared.error.ScheduleError.{ScheduleError}
use Rattle.texts.specs.declared.error.ScheduleError.TheVariants.{Malformed, ReadFailed, WriteFailed, NoMemory}
use Rattle.schedule.specs.Run.{IsRun}
use Rattle.schedule.specs.Told.{TellsMore}
use Rattle.schedule.specs.Written.{AppendsPart, IsUnread}

-- bytes equal to the known ones, if they are known, are equal to what those are equal to
same_input : (known : Option (List ℕ)) (one other : List ℕ) → IfSome known (λ bytes. bytes ≡ one) → one ≡ other → IfSome known (λ bytes. bytes ≡ other)
same_input known one other read e = subst (λ i. IfSome known (λ bytes. bytes ≡ i)) e read

-- what is said of a run over these bytes holds of a run of which it is told that these are its input
pub run_known : (known b a : Option (List ℕ)) (input : List ℕ) (r : Result (Unit {0}) ScheduleError) → IfSome known (λ bytes. bytes ≡ input)
    → IsRun (Some input) b a r → IsRun known b a r
run_known known b a input (Ok u) read p = (p.0, same_input known input p.0 read p.1, p.2)
run_known known b a input (Err (Malformed line cause)) read p = (p.0, same_input known input p.0 read p.1, p.2)
run_known known b a input (Err WriteFailed) read p = (p.0, same_input known input p.0 read p.1, p.2)
run_known known b a input (Err ReadFailed) read p = p
run_known known b a input (Err NoMemory) read p = p

-- a run that did not read its input wrote nothing
pub run_unread : (known : Option (List ℕ)) (e : ScheduleError) → IsUnread e → IsRun known None None (Err e)
run_unread known ReadFailed p = tt
run_unread known NoMemory p = tt
run_unread known WriteFailed p = absurd p
run_unread known (Malformed line cause) p = absurd p

-- a line of which a beginning was written, and nothing behind it, is told
pub told_alone : (old new : Option (List ℕ)) (line : List ℕ) → AppendsPart old new line → TellsMore old new line
told_alone old new line p = (new, p, [], Appends-nil new)

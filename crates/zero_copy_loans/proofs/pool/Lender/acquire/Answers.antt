-- `Lender::acquire` (src/pool.rt): its return meets the clauses `kept` and `refused`.
use Rattle.std.proofs.Common.{rules, ◌∙◌}
use Rattle.lock_free_sets.specs.UniqueIndexSet.{value_of}
use Rattle.zero_copy_loans.proofs.Shares.{joined_again}
use Rattle.zero_copy_loans.proofs.pool.Lender.acquire.Goals as goal

pub returns-in-Err-clause-kept : goal.returns-in-Err-clause-kept
returns-in-Err-clause-kept g c =
    joined_again _ _ _ _ c.in-Some.ensures.cut.share (c.in-Err.ensures.refused_same.share ∙ c.in-Some.ensures.cut.right_share) c.join.ensures.same.joined.share

pub returns-in-Err-taken_out-clause-kept : goal.returns-in-Err-taken_out-clause-kept
returns-in-Err-taken_out-clause-kept g c =
    joined_again _ _ _ _ c.in-Some.ensures.cut.share
    (c.release.ensures.same.share ∙ (c.in-Ok.ensures.same.share ∙ c.in-Some.ensures.cut.right_share))
    c.join-in-Err-taken_out.ensures.same.joined.share

pub returns-in-Err-taken_out-clause-refused : goal.returns-in-Err-taken_out-clause-refused
returns-in-Err-taken_out-clause-refused g c = (value_of c.in-Ok.index, search rules, c.in-Err-taken_out.ensures.refused)

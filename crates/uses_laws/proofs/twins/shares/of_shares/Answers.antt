-- `of_shares` (src/twins/shares.rt): its return meets the clauses `split` and `joined`.
use Rattle.std.proofs.Common.{◌≡◌, ◌∷◌, [], refl, arith}
use Rattle.std.specs.List.{sum}
use Rattle.lock_free.specs.Shares.{all_shares}
use Rattle.uses_laws.proofs.twins.shares.of_shares.Goals as goal

pub returns-clause-split : goal.returns-clause-split
returns-clause-split c n = c.any_number.ensures n all_shares (omega arith) refl

pub returns-clause-joined : goal.returns-clause-joined
returns-clause-joined c whole k j one other some mine theirs both =
    let all : sum (k ∷ j ∷ []) ≡ whole = omega arith in
    c.any_order.ensures whole (k ∷ j ∷ []) one (other ∷ []) some (mine, (theirs, tt)) all

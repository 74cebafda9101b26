-- `of_versions` (src/twins/values.rt): its return meets the clauses `stored` and `loaded`.
use Rattle.std.proofs.Common.{◌≡◌, ◌+◌, length, refl, arith}
use Rattle.lock_free.specs.Coding.{one_word}
use Rattle.lock_free.specs.Value.Calls.{view}
use Rattle.lock_free.specs.Value.Stored.{stored}
use Rattle.uses_laws.proofs.twins.values.of_versions.Goals as goal

-- what was stored as one version was stored by one party, and is one value
pub returns-clause-stored : goal.returns-clause-stored
returns-clause-stored c p q x y before after earlier later one other same =
    let rank : length (stored before) + 2 ≡ length (stored earlier) + 2 = omega arith in
    c.versions_are_once.ensures p q (length (stored before) + 2) x y (view c.args.pass.now).seen
    (record { before = before; after = after; is = one; rank = refl })
    (record { before = earlier; after = later; is = other; rank = rank })

-- what was loaded at the version of a store is what this stored
pub returns-clause-loaded : goal.returns-clause-loaded
returns-clause-loaded c p q x y before after earlier later one other same =
    let rank : length (stored before) + 2 ≡ length (stored earlier) + 1 = omega arith in
    c.values_agree.ensures.stored one_word p q (length (stored before) + 2) x y (view c.args.pass.now).seen c.history.ensures.history
    (record { before = before; after = after; is = one; rank = refl })
    (record { before = earlier; after = later; is = other; rank = rank })

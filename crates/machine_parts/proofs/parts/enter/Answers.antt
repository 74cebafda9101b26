-- `enter` (src/parts.rt): its returns meet the clauses `latest_stays` and `latest`.
use Rattle.std.proofs.Common.{sym, ap, ◌∙◌}
use Rattle.std.proofs.lemmas.Map.Steps.{set_value_same}
use Rattle.std.specs.BTreeMap.{is_at}
use Rattle.std.specs.Ordering.{nat_cmp}
use Rattle.model.specs.Parties.{put}
use Rattle.model.proofs.Parties.{set_is_put}
use Rattle.machine_parts.proofs.parts.enter.Goals as goal

-- where memory for the new call is refused, the party's old call still stands in its place
pub returns-then-not-keep-clause-latest_stays : goal.returns-then-not-keep-clause-latest_stays
returns-then-not-keep-clause-latest_stays g c stays =
    (c.get_mut.follows.holds c.in-Some.seat.now).0
    ∙ set_value_same (is_at (nat_cmp c.args.number)) c.args.latest.now.entries c.in-Some.seat.now (sym c.in-Some.ensures.value)

-- where the party has begun a call before, its new one stands in its place
pub returns-in-Some-clause-latest : goal.returns-in-Some-clause-latest
returns-in-Some-clause-latest g c is =
    let y = c.reseat.new.seat in
    (c.get_mut.follows.holds y).0
    ∙ (set_is_put c.args.number y c.in-Some.seat.now c.args.latest.now.entries c.in-Some.ensures.ordered (sym c.in-Some.ensures.value)
    ∙ ap (λ x. put c.args.number x c.args.latest.now.entries) c.reseat.ensures)

-- `show` (src/relay_readings.rt): its return meets the clauses `seen` and `last`.
use Rattle.std.proofs.Common.{rules, arith, ◌≡◌}
use Rattle.uses_programs.proofs.Names.{common_steps, opened_view}
use Rattle.lock_free.specs.Value.Calls.{view}
use Rattle.lock_free.specs.Value.Contracts.{HasSplit}
use Rattle.uses_programs.specs.Readings.{HasWritten, HasRead}
use Rattle.uses_programs.proofs.Readings.{all_seen, last_is}
use Rattle.uses_programs.proofs.relay_readings.show.Goals as goal

-- each reading that was loaded is the first value or was stored, since the joined pass has the whole share
pub returns-clause-seen : goal.returns-clause-seen
returns-clause-seen g c =
    let first : view c.in-Ok.mine ≡ opened_view c.args.first 3 1 = first_of (search rules, grind (arith, common_steps)) in
    let cut : HasSplit (view c.in-Ok.mine) (view c.split.new.self) (view c.in_ok-other.other) = search rules in
    let wrote : HasWritten c.args.readings.now (view c.split.new.self) (view c.in_ok-pass.pass) = search rules in
    let read : HasRead c.in_ok-further.seen.items (view c.in_ok-other.other) (view c.in_ok-further.further) = search rules in
    all_seen 3 c.args.first c.args.readings.now c.in_ok-further.seen.items _ _ _ _ _ _ first cut wrote read c.join.ensures.same.joined c.join.ensures.same.all

-- the last load gives the value that was stored last
pub returns-clause-last : goal.returns-clause-last
returns-clause-last g c =
    let first : view c.in-Ok.mine ≡ opened_view c.args.first 3 1 = first_of (search rules, grind (arith, common_steps)) in
    let cut : HasSplit (view c.in-Ok.mine) (view c.split.new.self) (view c.in_ok-other.other) = search rules in
    let wrote : HasWritten c.args.readings.now (view c.split.new.self) (view c.in_ok-pass.pass) = search rules in
    let read : HasRead c.in_ok-further.seen.items (view c.in_ok-other.other) (view c.in_ok-further.further) = search rules in
    last_is 3 c.args.first c.args.readings.now c.in_ok-further.seen.items _ _ _ _ _ _ first cut wrote read
    c.join.ensures.same.joined c.join.ensures.same.all c.load-last.result _ c.load-last.ensures.same.goes
    c.load-last.ensures.loaded

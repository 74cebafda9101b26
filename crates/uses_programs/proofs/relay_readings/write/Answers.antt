-- `write` (src/relay_readings.rt): the invariant of its loop holds at the start and after each iteration, and its return meets the
-- clause `written`.
use Rattle.std.proofs.Common.{rules, arith, refl, ◌≡◌, Ok}
use Rattle.uses_programs.proofs.Names.{common_steps, IfOk-at_ok}
use Rattle.lock_free.specs.Value.Calls.{view, producer_view}
use Rattle.uses_programs.proofs.Readings.{written_none, writes, written_all}
use Rattle.uses_programs.proofs.relay_readings.write.Goals as goal

-- the role was acquired, and nothing was stored yet
pub loop-next-init : goal.loop-next-init
loop-next-init c =
    let is : c.acquire_producer.result ≡ Ok c.in_ok-producer.producer = first_of (search rules, grind (arith, common_steps)) in
    let told = IfOk-at_ok _ is c.acquire_producer.ensures.acquired in
    (told.0.table, refl, written_none c.args.readings.now _ _ told.0.goes told.1)

-- the reading at `next` was stored
pub loop-next-preserved : goal.loop-next-preserved
loop-next-preserved c = (
  search rules,
  search rules,
  writes c.args.readings.now c.loop-next.next _ _ (view c.args.pass) (producer_view c.loop-next.producer)
      (producer_view c.store.new.self)
      (let e = c.loop-next.invariant.1 in let lt = c.loop-next-test.true in omega arith) refl c.loop-next.invariant.2
      c.store.ensures.same.goes (c.store.ensures.stored (search rules)),
)

-- all readings were stored once the role is released
pub returns-clause-written : goal.returns-clause-written
returns-clause-written c =
    written_all c.args.readings.now c.loop-next.next (view c.args.pass) (producer_view c.loop-next.producer)
    (view c.release.result) (let e = c.loop-next.invariant.1 in let past = c.loop-next-test.false in omega arith)
    c.loop-next.invariant.2 c.release.ensures.same.goes c.release.ensures.released

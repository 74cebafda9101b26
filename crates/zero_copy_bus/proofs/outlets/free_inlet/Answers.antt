-- `free_inlet` (src/outlets.rt): each iteration keeps the invariant of its loop, and its return meets the clauses `holders`, `taking`,
-- `leased`, `others` and `none`.
use Rattle.std.proofs.Common.{arith, rules, ◌∙◌}
use Rattle.lock_free_queues.specs.Queues.Rings.{consumer_queue, consumer_view}
use Rattle.zero_copy_bus.specs.Outlets.{holder_of, is_open, StaysOrLost, WasLetOf}
use Rattle.zero_copy_bus.proofs.LaneLemmas.{done_all, get_is, map_set}
use Rattle.zero_copy_bus.proofs.LanesStay.{at_lane, done_next, each_other, stays}
use Rattle.zero_copy_bus.proofs.outlets.free_inlet.Goals as goal

-- a lane that was not let is unchanged or lost, so the loop has come past it
pub loop-place-preserved : goal.loop-place-preserved
loop-place-preserved c =
    let was = c.loop-place.invariant in
    let news = c.loop-place.outlets.items in
    let n = c.loop-place.place in
    let mine = c.index_mut.result.now in
    let is = get_is news n mine (omega (arith, c.loop-place.outlets.ok.0)) c.index_mut.ensures.value in
    record {
      end = search rules;
      holders = map_set holder_of news n mine c.inlet.new.self is c.inlet.ensures.holder ∙ was.holders;
      taking = map_set is_open news n mine c.inlet.new.self is c.inlet.ensures.taking ∙ was.taking;
      done = done_next StaysOrLost n c.args.outlets.now.items news mine c.inlet.new.self was.done is c.in_default.ensures.none;
    }

-- each lane has the holder that it had
pub returns-in-Some-clause-holders : goal.returns-in-Some-clause-holders
returns-in-Some-clause-holders c =
    let is = get_is c.loop-place.outlets.items c.loop-place.place c.index_mut.result.now (omega (arith, c.loop-place.outlets.ok.0)) c.index_mut.ensures.value in
    map_set holder_of c.loop-place.outlets.items c.loop-place.place c.index_mut.result.now c.inlet.new.self is c.inlet.ensures.holder
    ∙ c.loop-place.invariant.holders

-- of each lane whether its subscriber takes part is as before
pub returns-in-Some-clause-taking : goal.returns-in-Some-clause-taking
returns-in-Some-clause-taking c =
    let is = get_is c.loop-place.outlets.items c.loop-place.place c.index_mut.result.now (omega (arith, c.loop-place.outlets.ok.0)) c.index_mut.ensures.value in
    map_set is_open c.loop-place.outlets.items c.loop-place.place c.index_mut.result.now c.inlet.new.self is c.inlet.ensures.taking
    ∙ c.loop-place.invariant.taking

-- the lane at which the loop stops was let
pub returns-in-Some-clause-leased : goal.returns-in-Some-clause-leased
returns-in-Some-clause-leased c =
    let is = get_is c.loop-place.outlets.items c.loop-place.place c.index_mut.result.now (omega (arith, c.loop-place.outlets.ok.0)) c.index_mut.ensures.value in
    let receives = c.in-Some.inlet.receives in
    at_lane StaysOrLost (WasLetOf (consumer_queue receives) (consumer_view receives)) c.loop-place.place c.args.outlets.now.items
    c.loop-place.outlets.items c.index_mut.result.now c.inlet.new.self c.loop-place.invariant.done is
    (c.in-Some.ensures.queue, c.in-Some.ensures.leased)

-- the lanes before it are unchanged or lost, those behind it unchanged
pub returns-in-Some-clause-others : goal.returns-in-Some-clause-others
returns-in-Some-clause-others c =
    each_other StaysOrLost stays c.loop-place.place c.args.outlets.now.items c.loop-place.outlets.items c.inlet.new.self
    c.loop-place.invariant.done

-- no lane was let: each is unchanged or lost
pub returns-clause-none : goal.returns-clause-none
returns-clause-none c =
    done_all StaysOrLost c.loop-place.place c.args.outlets.now.items c.loop-place.outlets.items (omega (arith, c.args.outlets.now.ok.0))
    c.loop-place.invariant.done

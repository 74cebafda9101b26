-- `rejoin_at` (src/outlets.rt): its return meets the clauses `holders`, `closed`, `taken_in` and `others`.
use Rattle.std.specs.Prelude.{false}
use Rattle.lock_free_queues.specs.Queues.Rings.{view}
use Rattle.zero_copy_bus.specs.Outlets.{holder_of, is_open, WasRejoined}
use Rattle.zero_copy_bus.proofs.LaneLemmas.{get_is, got_within, map_set}
use Rattle.zero_copy_bus.proofs.LanesStay.{at_place, but_place, map_at}
use Rattle.zero_copy_bus.proofs.outlets.rejoin_at.Goals as goal

-- each lane has the holder that it had
pub returns-clause-holders : goal.returns-clause-holders
returns-clause-holders c =
    let olds = c.args.outlets.now.items in
    let is = get_is olds c.args.place c.index_mut.result.now (got_within olds c.args.place c.requires.0 c.requires.1) c.index_mut.ensures.value in
    map_set holder_of olds c.args.place c.index_mut.result.now c.rejoin.new.self is c.rejoin.ensures.holder

-- the lane at the place is not open any more, and the others are as they were
pub returns-clause-closed : goal.returns-clause-closed
returns-clause-closed c =
    let olds = c.args.outlets.now.items in
    let is = get_is olds c.args.place c.index_mut.result.now (got_within olds c.args.place c.requires.0 c.requires.1) c.index_mut.ensures.value in
    map_at olds c.args.place c.index_mut.result.now c.rejoin.new.self is is_open false c.rejoin.ensures.closed

-- the lane at this place is the one that was rejoined
pub returns-clause-taken_in : goal.returns-clause-taken_in
returns-clause-taken_in c =
    let olds = c.args.outlets.now.items in
    let is = get_is olds c.args.place c.index_mut.result.now (got_within olds c.args.place c.requires.0 c.requires.1) c.index_mut.ensures.value in
    at_place olds c.args.place c.index_mut.result.now c.rejoin.new.self is
    (WasRejoined (view c.args.other)) (
      record { tenancy = c.rejoin.ensures.tenancy; queue = c.rejoin.ensures.queue; takes = c.rejoin.ensures.takes },
      c.rejoin.ensures.taken_in,
      c.rejoin.ensures.joined,
    )

-- the lanes at other places are unchanged
pub returns-clause-others : goal.returns-clause-others
returns-clause-others c =
    let olds = c.args.outlets.now.items in
    let is = get_is olds c.args.place c.index_mut.result.now (got_within olds c.args.place c.requires.0 c.requires.1) c.index_mut.ensures.value in
    but_place olds c.args.place c.index_mut.result.now c.rejoin.new.self is

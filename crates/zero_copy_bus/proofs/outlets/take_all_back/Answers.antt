-- `take_all_back` (src/outlets.rt): each iteration keeps the invariant of its loop, and its return meets the clause `taken`.
use Rattle.std.proofs.Common.{◌≡◌, ◌+◌, Some, rules, arith, sym, subst, ◌∙◌}
use Rattle.std.specs.Prelude.{slice_get}
use Rattle.zero_copy_bus.specs.Holders.{bit_of}
use Rattle.zero_copy_bus.specs.Outlets.{holder_of, is_open, IsTakenBack}
use Rattle.zero_copy_bus.specs.Pools.{slots_of, table_of}
use Rattle.zero_copy_bus.proofs.BookLemmas.{gains_both, loans_both}
use Rattle.zero_copy_bus.proofs.LaneLemmas.{above_more, done_all, done_more, get_is, map_set, placed_at}
use Rattle.zero_copy_bus.proofs.OutletLemmas.{taken_from, taken_still}
use Rattle.zero_copy_bus.proofs.PoolLemmas.{same_both}
use Rattle.zero_copy_bus.proofs.outlets.take_all_back.Goals as goal

-- The loop takes slots back from lane n: the table was `one` at first, is `two` before this lane
-- and `three` after it.
pub loop-place-preserved : goal.loop-place-preserved
loop-place-preserved c =
    let was = c.loop-place.invariant in
    let now = c.take_back.ensures in
    let slots = slots_of c.args.pool.now in
    let one = table_of c.args.pool.now in
    let two = table_of c.loop-place.pool in
    let three = table_of c.take_back.new.pool in
    let n = c.loop-place.place in
    let olds = c.args.outlets.now.items in
    let news = c.loop-place.outlets.items in
    let mine = c.index_mut.result.now in
    let is : slice_get news n ≡ Some mine = get_is news n mine (omega (arith, c.loop-place.outlets.ok.0)) c.index_mut.ensures.value in
    let is_old : slice_get olds n ≡ Some mine = sym (was.taken.rest n (omega arith)) ∙ is in
    let bit : bit_of (holder_of mine) ≡ n + 1 = placed_at olds n mine c.requires is_old in
    let step : IsTakenBack slots two three mine c.take_back.new.self =
    subst (λ k. IsTakenBack k two three mine c.take_back.new.self) was.same.slots now.taken in
    record {
      end = search rules;
      holders = map_set holder_of news n mine c.take_back.new.self is now.holder ∙ was.holders;
      taking = map_set is_open news n mine c.take_back.new.self is now.taking ∙ was.taking;
      taken =
          done_more (IsTakenBack slots) (taken_still slots) (taken_from slots) one two three n olds news mine
          c.take_back.new.self c.requires was.taken was.above was.loans is step now.others;
      above = above_more n (holder_of mine) one two three bit was.above now.others;
      gains = gains_both one two three was.gains now.gains;
      loans = loans_both one two three was.loans now.loans;
      same = same_both _ _ _ was.same now.pool;
    }

-- once the loop has come past the last lane, each has given its slots back
pub returns-clause-taken : goal.returns-clause-taken
returns-clause-taken c =
    done_all (IsTakenBack (slots_of c.args.pool.now) (table_of c.args.pool.now) (table_of c.loop-place.pool))
    c.loop-place.place c.args.outlets.now.items c.loop-place.outlets.items (omega (arith, c.args.outlets.now.ok.0))
    c.loop-place.invariant.taken

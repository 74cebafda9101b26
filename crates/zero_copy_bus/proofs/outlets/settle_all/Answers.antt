-- `settle_all` (src/outlets.rt): its call of `settle_by` meets what that requires, each iteration keeps the invariant of its loop, and
-- its return meets the clause `settled`.
use Rattle.std.proofs.Common.{◌≡◌, ◌+◌, Some, rules, arith, sym, ap, subst, ◌∙◌}
use Rattle.std.specs.Prelude.{slice_get}
use Rattle.zero_copy_bus.specs.Holders.{bit_of}
use Rattle.zero_copy_bus.specs.Outlets.{holder_of, is_open, place_of, IsSettled}
use Rattle.zero_copy_bus.specs.Pools.{table_of}
use Rattle.zero_copy_bus.specs.Rolls.{IsShown}
use Rattle.zero_copy_bus.proofs.BookLemmas.{all_both, loans_both}
use Rattle.zero_copy_bus.proofs.LaneLemmas.{above_more, done_all, done_more, get_is, get_map, map_set, placed_at}
use Rattle.zero_copy_bus.proofs.OutletLemmas.{settled_from, settled_still}
use Rattle.zero_copy_bus.proofs.PoolLemmas.{same_both}
use Rattle.zero_copy_bus.proofs.outlets.settle_all.Goals as goal

-- if the roll has not changed, an Open lane is still one that it shows
pub settle_by-requires : goal.settle_by-requires
settle_by-requires g c stays on =
    let was = c.loop-place.invariant in
    let n = c.loop-place.place in
    let olds = c.args.outlets.now.items in
    let news = c.loop-place.outlets.items in
    let mine = c.index_mut.result.now in
    let is : slice_get news n ≡ Some mine = get_is news n mine (omega (arith, c.loop-place.outlets.ok.0)) c.index_mut.ensures.value in
    let is_old : slice_get olds n ≡ Some mine = sym (was.settled.rest n (omega arith)) ∙ is in
    let bit : bit_of (holder_of mine) ≡ n + 1 = placed_at olds n mine c.requires.placed is_old in
    let here : n ≡ place_of mine = omega arith in
    subst (λ k. IsShown c.args.roll.now k) here (c.requires.shown stays n (get_map is_open olds n mine is_old ∙ ap Some on))

-- The loop settles lane n: the table was `one` at first, is `two` before this lane and `three` after it.
pub loop-place-preserved : goal.loop-place-preserved
loop-place-preserved g c =
    let was = c.loop-place.invariant in
    let now = c.settle_by.ensures in
    let roll = c.args.roll.now in
    let one = table_of c.args.pool.now in
    let two = table_of c.loop-place.pool in
    let three = table_of c.settle_by.new.pool in
    let n = c.loop-place.place in
    let olds = c.args.outlets.now.items in
    let news = c.loop-place.outlets.items in
    let mine = c.index_mut.result.now in
    let is : slice_get news n ≡ Some mine = get_is news n mine (omega (arith, c.loop-place.outlets.ok.0)) c.index_mut.ensures.value in
    let is_old : slice_get olds n ≡ Some mine = sym (was.settled.rest n (omega arith)) ∙ is in
    let bit : bit_of (holder_of mine) ≡ n + 1 = placed_at olds n mine c.requires.placed is_old in
    record {
      end = search rules;
      holders = map_set holder_of news n mine c.settle_by.new.self is now.holder ∙ was.holders;
      settled =
          done_more (IsSettled roll) (settled_still roll) (settled_from roll) one two three n olds news mine
          c.settle_by.new.self c.requires.placed was.settled was.above was.loans is now.settled now.others;
      above = above_more n (holder_of mine) one two three bit was.above now.others;
      all = all_both one two three was.all now.all;
      loans = loans_both one two three was.loans now.loans;
      same = same_both _ _ _ was.same now.pool;
    }

-- once the loop has come past the last lane, each is settled
pub returns-clause-settled : goal.returns-clause-settled
returns-clause-settled g c =
    done_all (IsSettled c.args.roll.now (table_of c.args.pool.now) (table_of c.loop-place.pool)) c.loop-place.place
    c.args.outlets.now.items c.loop-place.outlets.items (omega (arith, c.args.outlets.now.ok.0))
    c.loop-place.invariant.settled

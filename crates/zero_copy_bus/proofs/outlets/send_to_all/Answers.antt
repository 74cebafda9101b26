-- `send_to_all` (src/outlets.rt): each iteration keeps the invariant of its loop, and its return meets the clause `served`.
use Rattle.std.proofs.Common.{◌≡◌, ℕ, ◌+◌, Some, take, cond, rules, arith, sym, subst, ◌∙◌}
use Rattle.std.specs.List.{count_by}
use Rattle.std.specs.Prelude.{slice_get}
use Rattle.zero_copy_bus.specs.Holders.{bit_of}
use Rattle.zero_copy_bus.specs.Outlets.{has_gained, holder_of, is_open, IsServed}
use Rattle.zero_copy_bus.specs.Pools.{table_of}
use Rattle.zero_copy_bus.proofs.BookLemmas.{loans_both, only_both}
use Rattle.zero_copy_bus.proofs.LaneLemmas.{above_more, done_all, done_more, get_is, map_set, placed_at}
use Rattle.zero_copy_bus.proofs.OutletLemmas.{counted, served_from, served_still}
use Rattle.zero_copy_bus.proofs.PoolLemmas.{same_both}
use Rattle.zero_copy_slots.specs.Slots.{lying_number, lying_slot}
use Rattle.zero_copy_bus.proofs.outlets.send_to_all.Goals as goal
use Rattle.zero_copy_bus.proofs.outlets.send_to_all.Goals.{then-send, else-send}

-- The loop serves lane n: the table was `one` at first, is `two` before this lane and `three` after it. What
-- was done to the lanes before stays true, since this lane's subscriber alone changes in the table.
pub loop-place-preserved : goal.loop-place-preserved
loop-place-preserved c =
    let was = c.loop-place.invariant in
    let now = c.send.ensures in
    let slot = lying_slot c.args.lying.now in
    let number = lying_number c.args.lying.now in
    let room = c.args.layout.now.room in
    let one = table_of c.args.pool.now in
    let two = table_of c.loop-place.pool in
    let three = table_of c.send.new.pool in
    let n = c.loop-place.place in
    let olds = c.args.outlets.now.items in
    let news = c.loop-place.outlets.items in
    let mine = c.index_mut.result.now in
    let is : slice_get news n ≡ Some mine = get_is news n mine (omega (arith, c.loop-place.outlets.ok.0)) c.index_mut.ensures.value in
    let is_old : slice_get olds n ≡ Some mine = sym (was.served.rest n (omega arith)) ∙ is in
    let bit : bit_of (holder_of mine) ≡ n + 1 = placed_at olds n mine c.requires.placed is_old in
    let all : ℕ = count_by (has_gained slot one three) (take (n + 1) olds) in
    let count = counted slot one two three n c.loop-place.number olds mine c.send.result c.requires.placed was.above now.others is_old was.number now.gained in
    record {
      end = search rules;
      holders = map_set holder_of news n mine c.send.new.self is now.holder ∙ was.holders;
      taking = map_set is_open news n mine c.send.new.self is now.taking ∙ was.taking;
      served =
          done_more (IsServed room number slot) (served_still room number slot) (served_from room number slot) one two three n olds news mine
          c.send.new.self c.requires.placed was.served was.above was.loans is now.served now.others;
      above = above_more n (holder_of mine) one two three bit was.above now.others;
      number = elim c.if-send.branch [
        | then-send w ↦
            (let more : c.loop-place.number + 1 ≡ all = subst (λ b. c.loop-place.number + cond b 1 0 ≡ all) w.if-send.true count in
            omega (arith, was.few, w.number-is, w.saturating_add-number.ensures))
        | else-send w ↦
            (let more : c.loop-place.number + 0 ≡ all = subst (λ b. c.loop-place.number + cond b 1 0 ≡ all) w.if-send.false count in
            omega (arith, w.number-is))
      ];
      few = elim c.if-send.branch [
        | then-send w ↦ omega (arith, was.few, w.number-is, w.saturating_add-number.ensures)
        | else-send w ↦ omega (arith, was.few, w.number-is)
      ];
      gains = only_both slot one two three was.gains now.gains;
      loans = loans_both one two three was.loans now.loans;
      nobody = λ none. elim c.if-send.branch [
        | then-send w ↦ absurd (omega (arith, none, was.few, w.number-is, w.saturating_add-number.ensures))
        | else-send w ↦ now.refused w.if-send.false ∙ was.nobody (sym w.number-is ∙ none)
      ];
      same = same_both _ _ _ was.same now.pool;
    }

-- once the loop has come past the last lane, each is served
pub returns-clause-served : goal.returns-clause-served
returns-clause-served c =
    done_all
    (IsServed c.args.layout.now.room (lying_number c.args.lying.now) (lying_slot c.args.lying.now) (table_of c.args.pool.now)
    (table_of c.loop-place.pool))
    c.loop-place.place c.args.outlets.now.items c.loop-place.outlets.items (omega (arith, c.args.outlets.now.ok.0))
    c.loop-place.invariant.served

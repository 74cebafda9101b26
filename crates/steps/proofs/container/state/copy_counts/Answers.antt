-- `copy_counts` (src/container/state.rt): each iteration keeps the invariant of its loop.
use Rattle.std.proofs.Common.{rules, ◌≡◌, ◌≤◌, length, arith}
use Rattle.std.specs.Prelude.{Some, slice_get}
use Rattle.std.proofs.lemmas.Option.{slice_get_read}
use Rattle.std.proofs.lemmas.List.{set_past}
use Rattle.steps.proofs.Elements.{numbers_more}
use Rattle.steps.proofs.container.state.copy_counts.Goals as goal
use Rattle.steps.proofs.container.state.copy_counts.Goals.{then-index-counts, else-index-counts}

-- each iteration over `elements` keeps the invariant of the loop
pub elements-preserved : goal.elements-preserved
elements-preserved g c =
    let es = c.args.elements.now in
    let i = c.elements.index in
    let e = c.index-elements-index.result in
    let at : slice_get es i ≡ Some e = search (rules, slice_get_read) in
    let more = numbers_more c.args.counts.now es i e at in
    let so_far = c.elements.invariant in
    elim c.if-index-counts.branch [
      | then-index-counts w ↦ cc (w.counts-is, more, so_far)
      | else-index-counts w ↦
          let past : length c.elements.counts ≤ i = omega (arith, w.if-index-counts) in
          let same = set_past c.elements.counts i e.count past in
          cc (w.counts-is, more, so_far, same)
    ]

-- `open` (src/unique.rt): its return meets what it ensures (`IfOk`).
use Rattle.std.proofs.Common.{◌≡◌, subst, arith}
use Rattle.plain.proofs.Stacks.Opened.{Linked, all_free}
use Rattle.plain.proofs.unique.open.Goals as goal

pub returns : goal.returns
returns c =
    let end : c.loop-index.index ≡ c.args.capacity = let test = c.loop-index-test.false in omega arith in
    all_free c.args.capacity c.loop-index.words.items c.requires.some c.requires.few
    (subst (λ n. Linked n c.args.capacity c.loop-index.words.items) end c.loop-index.invariant)

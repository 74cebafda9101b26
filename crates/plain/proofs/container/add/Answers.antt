-- `add` (src/container.rt): its call of `drive` can end, and the contents have the value, or it answers why they do not.
use Rattle.plain_queues.proofs.Alone.{can_end, ends_so}
use Rattle.plain.proofs.Elements.Adds.{add_at}
use Rattle.plain.proofs.Elements.Filled.{still_added}
use Rattle.plain.proofs.Elements.Values.{Codes, codes_by}
use Rattle.plain.proofs.container.add.Given.{Over}
use Rattle.plain.proofs.container.add.Goals as goal

-- how the values of the container are stored
abbrev codes : (g : Over) → Codes g.row.T.Denot
codes g = codes_by g.T.Words.value_of g.met.T.Words.sized g.met.T.Words.given_back g.met.T.Words.some g.met.T.Words.few

-- the call that `add` drives is as `drive` requires
pub drive-requires : goal.drive-requires
drive-requires g c = record {
  ends = can_end
      (add_at (codes g)
      c.args.capacity c.args.id c.args.given.now c.value.ensures.number c.value.ensures.named c.new.ensures c.requires.0);
}

-- where the answer is `Ok`, its return meets what it ensures
pub returns-in-Ok : goal.returns-in-Ok
returns-in-Ok g c =
    still_added g.T.Words.value_of g.T.Words.WORDS c.args.capacity c.args.id c.args.words.now.items c.args.given.now.owner c.args.given.now.value c.requires
    (ends_so
    (add_at (codes g)
    c.args.capacity c.args.id c.args.given.now c.value.ensures.number c.value.ensures.named c.new.ensures c.requires.0)
    c.in-Ok.ensures.alone)

-- where the answer is `Err`, its return meets what it ensures
pub returns-in-Err : goal.returns-in-Err
returns-in-Err g c =
    still_added g.T.Words.value_of g.T.Words.WORDS c.args.capacity c.args.id c.args.words.now.items c.args.given.now.owner c.args.given.now.value c.requires
    (ends_so
    (add_at (codes g)
    c.args.capacity c.args.id c.args.given.now c.value.ensures.number c.value.ensures.named c.new.ensures c.requires.0)
    c.in-Err.ensures.alone)

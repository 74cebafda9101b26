-- `remove` (src/container.rt): its call of `drive` can end, and the contents have lost the value, or it answers why
-- they have not.
use Rattle.plain_queues.proofs.Alone.{can_end, ends_so}
use Rattle.plain.proofs.Elements.Removes.{remove_at}
use Rattle.plain.proofs.Elements.Filled.{still, filled_remove}
use Rattle.plain.specs.Contents.{removed, after_remove}
use Rattle.plain.proofs.Elements.Values.{Codes, codes_by}
use Rattle.plain.proofs.container.remove.Given.{Over}
use Rattle.plain.proofs.container.remove.Goals as goal

-- how the values of the container are stored
abbrev codes : (g : Over) → Codes g.row.T.Denot
codes g = codes_by g.T.Words.value_of g.met.T.Words.sized g.met.T.Words.given_back g.met.T.Words.some g.met.T.Words.few

-- the call that `remove` drives is as `drive` requires
pub drive-requires : goal.drive-requires
drive-requires g c = record {
  ends = can_end
      (remove_at (codes g)
      c.args.capacity c.args.handle.container (record { index = c.args.handle.index; owner = c.args.handle.owner; mode = c.args.mode })
      c.value.ensures.number c.value.ensures.named c.new.ensures c.requires.0);
}

-- what `remove` returns and leaves is as its clause says
pub returns : goal.returns
returns g c =
    still g.T.Words.value_of g.T.Words.WORDS c.args.capacity c.args.handle.container
    (λ s. removed s c.args.handle c.args.mode) (λ s. after_remove s c.args.handle c.args.mode)
    c.args.words.now.items (filled_remove c.args.handle c.args.mode _ c.requires.1)
    (ends_so
    (remove_at (codes g)
    c.args.capacity c.args.handle.container (record { index = c.args.handle.index; owner = c.args.handle.owner; mode = c.args.mode })
    c.value.ensures.number c.value.ensures.named c.new.ensures c.requires.0)
    c.drive.ensures.alone)

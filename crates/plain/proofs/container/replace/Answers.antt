-- `replace` (src/container.rt): its call of `drive` can end, and the index has the new value, or it answers why it does not.
use Rattle.plain_queues.proofs.Alone.{can_end, ends_so}
use Rattle.plain.proofs.Elements.Replaces.{replace_at}
use Rattle.plain.proofs.Elements.Filled.{still, filled_replace}
use Rattle.plain.specs.Contents.{replaced, after_replace}
use Rattle.plain.proofs.Elements.Values.{Codes, codes_by}
use Rattle.plain.proofs.container.replace.Given.{Over}
use Rattle.plain.proofs.container.replace.Goals as goal

-- how the values of the container are stored
abbrev codes : (g : Over) → Codes g.row.T.Denot
codes g = codes_by g.T.Words.value_of g.met.T.Words.sized g.met.T.Words.given_back g.met.T.Words.some g.met.T.Words.few

-- the call that `replace` drives is as `drive` requires
pub drive-requires : goal.drive-requires
drive-requires g c = record {
  ends = can_end
      (replace_at (codes g)
      c.args.capacity c.args.handle.container (record { index = c.args.handle.index; owner = c.args.handle.owner; value = c.args.value })
      c.value.ensures.number c.value.ensures.named c.new.ensures c.requires.0);
}

-- what `replace` returns and leaves is as its clause says
pub returns : goal.returns
returns g c =
    still g.T.Words.value_of g.T.Words.WORDS c.args.capacity c.args.handle.container (λ s. replaced s c.args.handle)
    (λ s. after_replace s c.args.handle c.args.value) c.args.words.now.items
    (filled_replace c.args.handle c.args.value _ c.requires.1)
    (ends_so
    (replace_at (codes g)
    c.args.capacity c.args.handle.container (record { index = c.args.handle.index; owner = c.args.handle.owner; value = c.args.value })
    c.value.ensures.number c.value.ensures.named c.new.ensures c.requires.0)
    c.drive.ensures.alone)

-- `count` (src/container.rt): the call that `count` drives can end, as `drive` requires, and its return is
-- how many indices have an owner; the generation is raised.
use Rattle.plain_queues.proofs.Alone.{can_end, ends_so}
use Rattle.plain.proofs.Elements.Looks.{count_at}
use Rattle.plain.proofs.Elements.Filled.{still, filled_counted}
use Rattle.plain.specs.Contents.{number, counted, contents_in}
use Rattle.plain.proofs.container.count.Goals as goal

-- the call that `count` drives can end, as `drive` requires
pub drive-requires : goal.drive-requires
drive-requires g c = record {
  ends = can_end
      (count_at g.T.Words.value_of g.T.Words.WORDS c.args.capacity c.args.id c.new.ensures c.requires.0);
}

-- what `count` returns and leaves is as its clause says
pub returns : goal.returns
returns g c =
    still g.T.Words.value_of g.T.Words.WORDS c.args.capacity c.args.id (number) (counted) c.args.words.now.items
    (filled_counted (contents_in g.T.Words.value_of g.T.Words.WORDS c.args.capacity c.args.id c.args.words.now.items) c.requires.1)
    (ends_so
    (count_at g.T.Words.value_of g.T.Words.WORDS c.args.capacity c.args.id c.new.ensures c.requires.0)
    c.drive.ensures.alone)

-- `look` (src/container.rt): the call that `look` drives can end, as `drive` requires, and its return is
-- whether the container is locked; the contents stay.
use Rattle.plain_queues.proofs.Alone.{can_end, ends_so}
use Rattle.plain.proofs.Elements.Looks.{look_at}
use Rattle.plain.proofs.Elements.Filled.{still}
use Rattle.plain.specs.Contents.{is_locked}
use Rattle.plain.proofs.container.look.Goals as goal

-- the call that `look` drives can end, as `drive` requires
pub drive-requires : goal.drive-requires
drive-requires g c = record {
  ends = can_end
      (look_at g.T.Words.value_of g.T.Words.WORDS c.args.capacity c.args.id c.requires.0);
}

-- what `look` returns and leaves is as its clause says
pub returns : goal.returns
returns g c =
    still g.T.Words.value_of g.T.Words.WORDS c.args.capacity c.args.id (is_locked) (λ s. s) c.args.words.now.items c.requires.1
    (ends_so
    (look_at g.T.Words.value_of g.T.Words.WORDS c.args.capacity c.args.id c.requires.0)
    c.drive.ensures.alone)

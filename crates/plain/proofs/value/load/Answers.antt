-- `load` (src/value.rt): its call of `drive` can end, and its return is the value; the words still represent it.
use Rattle.std.proofs.Common.{arith, ◌∙◌}
use Rattle.plain_queues.proofs.Alone.{can_end, ends_so}
use Rattle.plain_queues.proofs.Words.{buffer}
use Rattle.plain.proofs.Values.{load_runs}
use Rattle.plain.proofs.value.load.Goals as goal

-- the call that `load` drives is as `drive` requires
pub drive-requires : goal.drive-requires
drive-requires g c =
    let few = g.met.T.Words.few in
    record {
      ends = can_end
          (load_runs g.T.Words.value_of g.T.Words.WORDS g.met.T.Words.some few buffer c.args.words.now.items
          c.new.ensures c.new-room.result (let long = c.new-room.ensures in omega arith) c.requires);
    }

-- what `load` returns and leaves is as its clause says
pub returns : goal.returns
returns g c =
    let few = g.met.T.Words.few in
    let so = ends_so
    (load_runs g.T.Words.value_of g.T.Words.WORDS g.met.T.Words.some few buffer c.args.words.now.items c.new.ensures c.new-room.result
    (let long = c.new-room.ensures in omega arith) c.requires)
    c.drive.ensures.alone in
    (so.0, c.answer.ensures ∙ so.1, so.2)

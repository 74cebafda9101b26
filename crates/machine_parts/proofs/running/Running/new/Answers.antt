-- `Running::new` (src/running.rt): its call of `made` meets what that requires.
use Rattle.model.specs.Coding.{coding_by, IsCoding}
use Rattle.model.specs.World.{opening_as}
use Rattle.machine_parts.specs.Parts.{trace_of}
use Rattle.model.proofs.Reached.{reached_as}
use Rattle.machine_parts.proofs.Behind.{behind_is, opened_behind}
use Rattle.machine_parts.proofs.running.Running.new.Goals as goal

pub made-requires : goal.made-requires
made-requires g c =
    let laws = g.met.T.Words in
    let coded : IsCoding (coding_by g.T.Words) =
    record { some = laws.some; few = laws.few; sized = laws.sized; given_back = laws.given_back } in
    behind_is (trace_of (coding_by g.T.Words) c.in_ok-parts.parts)
    (opening_as (coding_by g.T.Words) c.args.shape c.args.parties)
    c.in_ok-parts.ensures.ok
    (opened_behind _ (reached_as (coding_by g.T.Words) c.args.shape c.args.parties coded
    c.in_ok-parts.ensures.admitted))

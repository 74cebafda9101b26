-- The invariant of the loop of `do_lines`: the lines before this one led to the machine as it is and
-- printed what was written, where memory was refused as a list says. The loop ends since the lines
-- that are left become fewer.
use Rattle.std.proofs.Common.{◌≡◌, ℕ, ◌+◌, ◌<◌, ◌^◌, ◌++◌, List, Bool, length}
use Rattle.std.specs.Io.KnownBytes.{Appends}
use Rattle.schedule.specs.Output.{world_of, lines_from, before}
use Rattle.texts.specs.Text.{words_left}
use Rattle.schedule.proofs.runs.do_lines.Given as given

abbrev pub invariant-loop-line : given.invariant-loop-line
invariant-loop-line g l = record {
  numbered : l.number + length (words_left l.left) < 2 ^ 64;
  written : (refusals : List Bool) × (text : List ℕ)
      × ((more : List Bool) → lines_from l.kind 2 (words_left l.fn.lines) (record { world = world_of l.fn.machine; refusals = refusals ++ more })
      ≡ before text (lines_from l.kind l.number (words_left l.left) (record { world = world_of l.machine; refusals = more })))
      × Appends (g.W.Write.contents l.fn.writer) (g.W.Write.contents l.writer) text;
}

abbrev pub decreases-loop-line : given.decreases-loop-line
decreases-loop-line g l = length (words_left l.left)

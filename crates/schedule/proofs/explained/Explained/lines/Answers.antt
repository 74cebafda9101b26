-- `Explained::lines` (src/explained.rt): what a line tells comes behind what the lines before it told.
use Rattle.schedule.proofs.Writing.{grows_then}
use Rattle.schedule.proofs.explained.Explained.lines.Goals as goal

-- the line for which memory was refused
pub returns-in-Err-NoMemory : goal.returns-in-Err-NoMemory
returns-in-Err-NoMemory g c = grows_then _ _ _ c.loop-at.invariant c.put_pen.ensures

-- the line at which a write failed
pub returns-in-Err : goal.returns-in-Err
returns-in-Err g c = grows_then _ _ _ c.loop-at.invariant c.put_pen.ensures

-- a line that was told
pub loop-at-preserved : goal.loop-at-preserved
loop-at-preserved g c = grows_then _ _ _ c.loop-at.invariant c.put_pen.ensures

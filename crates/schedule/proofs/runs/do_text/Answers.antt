-- `do_text` (src/runs.rt): its call of `do_lines` meets what that requires, and its return meets what it ensures (`IsOutput`).
use Rattle.std.proofs.Common.{sym, ◌∙◌, arith}
use Rattle.schedule.specs.Output.{world_of}
use Rattle.schedule.proofs.Whole.{few_lines, text_missing, text_malformed, text_unopened, text_lines, first_admitted, first_malformed}
use Rattle.texts.specs.Text.{words}
use Rattle.schedule.proofs.runs.do_text.Goals as goal

-- where the text has no line, the output ends with a value missing in line 1
pub returns-in_default : goal.returns-in_default
returns-in_default g c = text_missing c.args.input.now _ (sym c.lines.ensures ∙ c.in_default.ensures)

-- where the first line is malformed, the output ends with its cause
pub returns-in-Err : goal.returns-in-Err
returns-in-Err g c =
    text_malformed c.args.input.now c.in-Some.first.now _ _ c.in-Err.cause (sym c.lines.ensures ∙ c.in-Some.ensures)
    (first_malformed (words c.in-Some.first.now) c.in-Err.cause c.in-Err.ensures)

-- the lines are at most one more than the bytes, so their numbers stay below 2^64
pub do_lines-requires : goal.do_lines-requires
do_lines-requires g c = omega (arith, few_lines c.args.input.now c.in-Some.first.now _ (sym c.lines.ensures ∙ c.in-Some.ensures))

-- where the machine is not made, the output ends for want of memory or with the cause in the first line
pub returns-in-Err-opened : goal.returns-in-Err-opened
returns-in-Err-opened g c =
    text_unopened c.args.input.now c.in-Some.first.now _ _ c.in-Ok.setup c.in-Err-opened.e (sym c.lines.ensures ∙ c.in-Some.ensures)
    c.in-Ok.ensures c.in-Err-opened.ensures.refused

-- where `opened` answers `Ok`, its return meets what it ensures
pub returns-in-Ok-opened : goal.returns-in-Ok-opened
returns-in-Ok-opened g c =
    text_lines c.args.input.now c.in-Some.first.now _ c.in-Ok.setup c.kind.result (world_of c.in-Ok-opened.machine) _ _ c.do_lines.result
    (sym c.lines.ensures ∙ c.in-Some.ensures)
    (first_admitted (words c.in-Some.first.now) c.in-Ok.setup c.in-Ok.ensures c.in-Ok-opened.ensures.admitted)
    c.kind.ensures c.in-Ok-opened.ensures.ok c.do_lines.ensures

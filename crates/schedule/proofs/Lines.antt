-- The lines of a schedule behind the first one: what each does to the machine and prints, and how
-- `do_lines` follows them.
use Rattle.std.proofs.Common.{◌≡◌, ℕ, ◌+◌, ◌<◌, ◌==◌, Bool, true, false, Option, Result, Ok, Err, List, [], ◌∷◌, ◌++◌}
use Rattle.std.proofs.Common.{refl, sym, ap, ◌∙◌, subst, append_assoc, append-nil, length, arith}
use Rattle.std.proofs.lemmas.Bool.Decides.{nat_tests}
use Rattle.std.specs.Io.KnownBytes.{Appends}
use Rattle.std.proofs.KnownBytes.{Appends-trans}
use Rattle.model.specs.declared.turn.Kind.{Kind}
use Rattle.model.specs.World.{World}
use Rattle.texts.specs.declared.error.Cause.{Cause}
use Rattle.texts.specs.declared.error.ScheduleError.{ScheduleError}
use Rattle.texts.specs.declared.error.ScheduleError.TheVariants.{Malformed}
use Rattle.texts.specs.declared.grammar.Command.{Command}
use Rattle.texts.specs.Text.{words}
use Rattle.texts.specs.Grammar.{command_of}
use Rattle.schedule.specs.Output.{State, Output, commanded, lines_from, before, stopped}
use Rattle.schedule.specs.Run.{Prints, IsOutput}
use Rattle.schedule.proofs.Turns.{at}
use Rattle.schedule.proofs.Writing.{part_within}

-- ---- one line

-- the output of this text and this end
abbrev as_output : Result (Unit {0}) (ℕ × Cause) → List ℕ → Output
as_output end text = record { text = text; end = end }

-- what a line does by what it was read as: it stops with the cause, or prints its command and goes on
abbrev line_as : Kind → ℕ → List (List ℕ) → State → Result Command Cause → Output
line_as kind number rest s read =
    elim read [
      | Err cause ↦ stopped number cause
      | Ok command ↦ before (commanded command s).text (lines_from kind (number + 1) rest (commanded command s).state)
    ]

-- a line that is not empty does what it was read as, and the lines behind it follow
line_read : (kind : Kind) (number : ℕ) (line : List ℕ) (rest : List (List ℕ)) (s : State) → 0 < length line
    → lines_from kind number (line ∷ rest) s ≡ line_as kind number rest s (command_of kind (words line))
unfolding lines_from
line_read kind number [] rest s some = absurd (omega arith)
line_read kind number (b ∷ bs) rest s some = refl

-- an empty line is counted and does nothing
line_empty : (kind : Kind) (number : ℕ) (line : List ℕ) (rest : List (List ℕ)) (s : State) → length line ≡ 0
    → lines_from kind number (line ∷ rest) s ≡ lines_from kind (number + 1) rest s
unfolding lines_from
line_empty kind number [] rest s none = refl
line_empty kind number (b ∷ bs) rest s none = absurd (omega arith)

-- where no line is left, nothing is printed and the run ends well
lines_none : (kind : Kind) (number : ℕ) (s : State) → lines_from kind number [] s ≡ as_output (Ok tt) []
unfolding lines_from
lines_none kind number s = refl

-- a text put before an output that begins with another text is put before both
before-before : (s t : List ℕ) (o : Output) → before s (before t o) ≡ before (s ++ t) o
before-before s t o = ap (as_output o.end) (sym (append_assoc s t o.text))

-- a line that is not empty has a byte
pub some_of : (line : List ℕ) → false ≡ (length line == 0) → 0 < length line
some_of [] e = cc
some_of (b ∷ bs) e = omega arith

-- an empty line has no byte
pub none_of : (line : List ℕ) → true ≡ (length line == 0) → length line ≡ 0
none_of [] e = refl
none_of (b ∷ bs) e = grind (arith, nat_tests)

-- ---- the lines so far

-- the lines before line `number` led from the world `old` to `now` and printed this text, where memory was
-- refused as the list says, and the lines `left` are still to do
abbrev pub Done : Kind → List (List ℕ) → ℕ → List (List ℕ) → World ℕ → World ℕ → List Bool → List ℕ → Type 0
Done kind lines number left old now refusals text =
    (more : List Bool) → lines_from kind 2 lines (at old (refusals ++ more)) ≡ before text (lines_from kind number left (at now more))

-- a line that holds a command: its text comes behind that of the lines before it, and the
-- lines behind it are left
pub done_command : (kind : Kind) (lines left rest : List (List ℕ)) (line : List ℕ) (number : ℕ) (old w new : World ℕ) (b m a : Option (List ℕ))
    (refusals : List Bool) (text : List ℕ) (command : Command) → Done kind lines number left old w refusals text → Appends b m text
    → left ≡ line ∷ rest → 0 < length line → command_of kind (words line) ≡ Ok command → Prints (commanded command) w new m a (Ok tt)
    → (refusals : List Bool) × (text : List ℕ) × Done kind lines (number + 1) rest old new refusals text × Appends b a text
done_command kind lines left rest line number old w new b m a refusals text command done p first some read q = (
  refusals ++ q.0,
  text ++ q.1,
  (λ more.
      ap (λ l. lines_from kind 2 lines (at old l)) (append_assoc refusals q.0 more)
      ∙ done (q.0 ++ more)
      ∙ ap (before text)
      (ap (λ l. lines_from kind number l (at w (q.0 ++ more))) first
      ∙ line_read kind number line rest (at w (q.0 ++ more)) some
      ∙ ap (line_as kind number rest (at w (q.0 ++ more))) read
      ∙ ap (λ r. before r.text (lines_from kind (number + 1) rest r.state)) (q.2 more))
      ∙ before-before text q.1 (lines_from kind (number + 1) rest (at new more))),
  Appends-trans b m a text q.1 p q.3,
)

-- an empty line: nothing is printed, and the lines behind it are left
pub done_empty : (kind : Kind) (lines left rest : List (List ℕ)) (line : List ℕ) (number : ℕ) (old w : World ℕ) (b m : Option (List ℕ))
    (refusals : List Bool) (text : List ℕ) → Done kind lines number left old w refusals text → Appends b m text → left ≡ line ∷ rest → length line ≡ 0
    → (refusals : List Bool) × (text : List ℕ) × Done kind lines (number + 1) rest old w refusals text × Appends b m text
done_empty kind lines left rest line number old w b m refusals text done p first none = (
  refusals,
  text,
  (λ more. done more
      ∙ ap (before text) (ap (λ l. lines_from kind number l (at w more)) first ∙ line_empty kind number line rest (at w more) none)),
  p,
)

-- ---- the end

-- the output of the lines from line 2 on, from this world, by the refusals of memory
abbrev pub output_from : Kind → List (List ℕ) → World ℕ → List Bool → Output
output_from kind lines w refusals = lines_from kind 2 lines (at w refusals)

-- an output that is this text and then this end has that end, and its text is the one that was written
ended : (end : Result (Unit {0}) (ℕ × Cause)) (o : Output) (b a : Option (List ℕ)) (text : List ℕ) → o ≡ before text (as_output end []) → Appends b a text
    → (o.end ≡ end) × Appends b a o.text
ended end o b a text e p = (ap (λ r. r.end) e, subst (Appends b a) (sym (ap (λ r. r.text) e ∙ append-nil text)) p)

-- where no line is left, what was written is the whole output
pub lines_ended : (kind : Kind) (lines left : List (List ℕ)) (number : ℕ) (old w : World ℕ) (b a : Option (List ℕ)) (refusals : List Bool) (text : List ℕ)
    → Done kind lines number left old w refusals text → Appends b a text → left ≡ [] → IsOutput (output_from kind lines old) b a (Ok tt)
lines_ended kind lines left number old w b a refusals text done p none =
    let whole = done [] ∙ ap (before text) (ap (λ l. lines_from kind number l (at w [])) none ∙ lines_none kind number (at w [])) in
    let end = ended (Ok tt) _ b a text whole p in
    (refusals ++ [], end.0, end.1)

-- the first line that is left is malformed: the output ends with its number and the cause
pub lines_malformed : (kind : Kind) (lines left rest : List (List ℕ)) (line : List ℕ) (number : ℕ) (old w : World ℕ) (b a : Option (List ℕ))
    (refusals : List Bool) (text : List ℕ) (cause : Cause) → Done kind lines number left old w refusals text → Appends b a text → left ≡ line ∷ rest
    → 0 < length line → command_of kind (words line) ≡ Err cause → IsOutput (output_from kind lines old) b a (Err (Malformed number cause))
lines_malformed kind lines left rest line number old w b a refusals text cause done p first some read =
    let s = at w [] in
    let whole = done [] ∙ ap (before text)
    (ap (λ l. lines_from kind number l s) first ∙ line_read kind number line rest s some ∙ ap (line_as kind number rest s) read) in
    let end = ended (Err (number, cause)) _ b a text whole p in
    (refusals ++ [], end.0, end.1)

-- a write of the next line's text failed: the run ends with that failure, and what was written is a beginning
-- of the whole text
pub lines_failed : (kind : Kind) (lines left rest : List (List ℕ)) (line : List ℕ) (number : ℕ) (old w new : World ℕ) (b m a : Option (List ℕ))
    (refusals : List Bool) (text : List ℕ) (command : Command) (e : ScheduleError) → Done kind lines number left old w refusals text → Appends b m text
    → left ≡ line ∷ rest → 0 < length line → command_of kind (words line) ≡ Ok command → Prints (commanded command) w new m a (Err e)
    → IsOutput (output_from kind lines old) b a (Err e)
lines_failed kind lines left rest line number old w new b m a refusals text command e done p first some read q =
    let s = at w q.1 in
    let later = lines_from kind (number + 1) rest (commanded command s).state in
    let whole : lines_from kind 2 lines (at old (refusals ++ q.1)) ≡ before text (before (commanded command s).text later) =
    done q.1 ∙ ap (before text)
    (ap (λ l. lines_from kind number l s) first ∙ line_read kind number line rest s some ∙ ap (line_as kind number rest s) read) in
    subst (λ x. IsOutput (output_from kind lines old) b a (Err x)) (sym q.0) (
      refusals ++ q.1,
      part_within b m a text (commanded command s).text later.text _ p q.2
          (append_assoc text (commanded command s).text later.text ∙ sym (ap (λ o. o.text) whole)),
    )

-- The output of a whole text, by its first line and the lines behind it, and the run over it.
use Rattle.std.proofs.Common.{◌≡◌, inl, inr, ℕ, ◌≤◌, ◌==◌, Bool, Option, Some, None, Result, Ok, Err, List, [], ◌∷◌, sym, ap, ◌∙◌, subst}
use Rattle.std.proofs.Common.{append-nil, length, arith, IfSome, IfErr}
use Rattle.std.specs.Io.KnownBytes.{Appends, Keeps}
use Rattle.std.proofs.KnownBytes.{Appends-nil, Appends-kept, Keeps-refl}
use Rattle.std.proofs.lemmas.List.Splits.{length-slice_split}
use Rattle.std.proofs.lemmas.List.Sums.{count_by-le-length}
use Rattle.model.specs.declared.turn.Kind.{Kind}
use Rattle.model.specs.World.{World, kind_in}
use Rattle.texts.specs.declared.error.Cause.{Cause}
use Rattle.texts.specs.declared.error.Cause.TheVariants.{MissingValue}
use Rattle.texts.specs.declared.error.ScheduleError.{ScheduleError}
use Rattle.texts.specs.declared.error.ScheduleError.TheVariants.{Malformed, ReadFailed, WriteFailed, NoMemory}
use Rattle.texts.specs.declared.grammar.Setup.{Setup}
use Rattle.texts.specs.Grammar.{◌>>=◌, setup_of}
use Rattle.texts.specs.Text.{lines, words}
use Rattle.schedule.specs.Written.{AppendsPart}
use Rattle.schedule.specs.Output.{Output, stopped, capacity_cause, admitted, setup_error, machine_of, trace_of}
use Rattle.schedule.specs.Output.{lines_from, opened, output_of_lines, output_of}
use Rattle.schedule.specs.Run.{IsUnopened, IsOutput, IsRun}
use Rattle.schedule.proofs.Lines.{output_from}

-- a text has at most one line more than bytes
pub few_lines : (input first : List ℕ) (rest : List (List ℕ)) → lines input ≡ first ∷ rest → length rest ≤ length input
few_lines input first rest e =
    let p : ℕ → Bool = λ b. b == 10 in
    omega (arith, ap length e, length-slice_split p input, count_by-le-length p input)

-- ---- the first line

-- a text whose first line is malformed ends with that line and its cause, and nothing is written
stops : (input : List ℕ) (b : Option (List ℕ)) (cause : Cause) → output_of input [] ≡ stopped 1 cause
    → IsOutput (output_of input) b b (Err (Malformed 1 cause))
stops input b cause e = ([], ap (λ o. o.end) e, subst (Appends b b) (sym (ap (λ o. o.text) e)) (Appends-nil b))

-- a text without a line ends with a value missing in line 1
pub text_missing : (input : List ℕ) (b : Option (List ℕ)) → lines input ≡ [] → IsOutput (output_of input) b b (Err (Malformed 1 MissingValue))
unfolding output_of_lines
text_missing input b e = stops input b MissingValue (ap (output_of_lines []) e)

-- what a text does by what its first line was read as: it stops with the cause, or opens the machine and does
-- the lines behind it
abbrev first_as : List (List ℕ) → List Bool → Result Setup Cause → Output
first_as rest refusals read = elim read [ Err cause ↦ stopped 1 cause | Ok setup ↦ lines_from (kind_in setup.shape) 2 rest (opened setup refusals) ]

-- a text with a first line does what that line was read as
first_read : (input first : List ℕ) (rest : List (List ℕ)) (refusals : List Bool) → lines input ≡ first ∷ rest
    → output_of input refusals ≡ first_as rest refusals (machine_of (words first))
unfolding output_of_lines
first_read input first rest refusals e = ap (output_of_lines refusals) e

-- where the first line names no machine, the output ends with its cause and nothing is written
pub text_malformed : (input first : List ℕ) (rest : List (List ℕ)) (b : Option (List ℕ)) (cause : Cause) → lines input ≡ first ∷ rest
    → machine_of (words first) ≡ Err cause → IsOutput (output_of input) b b (Err (Malformed 1 cause))
text_malformed input first rest b cause e read = stops input b cause (first_read input first rest [] e ∙ ap (first_as rest []) read)

-- a capacity is tested once the line is read, as its machine is made

-- a machine that was read, with its capacity tested
abbrev tested : Result Setup Cause → Result Setup Cause
tested read = read >>= λ setup. admitted setup (capacity_cause (setup_error setup))

-- the machine of a line is the one that was read, with its capacity tested
read_so : (ws : List (List ℕ)) (read : Result Setup Cause) → setup_of ws ≡ read → machine_of ws ≡ tested read
unfolding machine_of
read_so ws read is = ap tested is

-- where the machine that was read has a capacity that is admitted, it is the machine of the line
pub first_admitted : (ws : List (List ℕ)) (setup : Setup) → setup_of ws ≡ Ok setup → setup_error setup ≡ None → machine_of ws ≡ Ok setup
first_admitted ws setup is none = read_so ws (Ok setup) is ∙ ap (λ o. admitted setup (capacity_cause o)) none

-- where the words name no machine, the line has none, for the same cause
pub first_malformed : (ws : List (List ℕ)) (cause : Cause) → setup_of ws ≡ Err cause → machine_of ws ≡ Err cause
first_malformed ws cause is = read_so ws (Err cause) is

-- where the capacity is not admitted, the line has no machine
first_refused : (ws : List (List ℕ)) (setup : Setup) (cause : Cause) → setup_of ws ≡ Ok setup → capacity_cause (setup_error setup) ≡ Some cause
    → machine_of ws ≡ Err cause
first_refused ws setup cause is refused = read_so ws (Ok setup) is ∙ ap (admitted setup) refused

-- no machine is made of the first line: the output ends for want of memory, or with the cause in that line
pub text_unopened : (input first : List ℕ) (rest : List (List ℕ)) (b : Option (List ℕ)) (setup : Setup) (e : ScheduleError) → lines input ≡ first ∷ rest
    → setup_of (words first) ≡ Ok setup → IsUnopened setup e → IsOutput (output_of input) b b (Err e)
text_unopened input first rest b setup e split read (inl memory) =
    subst (λ x. IsOutput (output_of input) b b (Err x)) (sym memory) (Keeps-refl b)
text_unopened input first rest b setup e split read (inr (cause, refused, is)) =
    subst (λ x. IsOutput (output_of input) b b (Err x)) (sym is)
    (text_malformed input first rest b cause split (first_refused (words first) setup cause read refused))

-- ---- the other lines

-- an output that is the same as another for each list of refusals has what is said of that other one
same_output : (one other : List Bool → Output) → ((refusals : List Bool) → one refusals ≡ other refusals)
    → (b a : Option (List ℕ)) (r : Result (Unit {0}) ScheduleError)
    → IsOutput one b a r → IsOutput other b a r
same_output one other same b a (Ok u) p =
    (p.0, ap (λ o. o.end) (sym (same p.0)) ∙ p.1, subst (λ o. Appends b a o.text) (same p.0) p.2)
same_output one other same b a (Err (Malformed line cause)) p =
    (p.0, ap (λ o. o.end) (sym (same p.0)) ∙ p.1, subst (λ o. Appends b a o.text) (same p.0) p.2)
same_output one other same b a (Err WriteFailed) p = (p.0, subst (λ o. AppendsPart b a o.text) (same p.0) p.1)
same_output one other same b a (Err ReadFailed) p = p
same_output one other same b a (Err NoMemory) p = p

-- the output of the other lines, from the machine that the first line makes, is that of the whole text
pub text_lines : (input first : List ℕ) (rest : List (List ℕ)) (setup : Setup) (kind : Kind) (w : World ℕ) (b a : Option (List ℕ))
    → (r : Result (Unit {0}) ScheduleError) → lines input ≡ first ∷ rest → machine_of (words first) ≡ Ok setup → kind ≡ kind_in setup.shape
    → w ≡ (trace_of setup).world → IsOutput (output_from kind rest w) b a r → IsOutput (output_of input) b a r
text_lines input first rest setup kind w b a r e read named same p =
    same_output (output_from kind rest w) (output_of input)
    (λ refusals. ap (λ k. output_from k rest w refusals) named
    ∙ (ap (λ v. output_from (kind_in setup.shape) rest v refusals) same
    ∙ sym (first_read input first rest refusals e ∙ ap (first_as rest refusals) read)))
    b a r p

-- ---- what the writer kept back

-- all of a text was written, of which the writer kept a part back: a beginning of the text was written
kept_part : (b m a : Option (List ℕ)) (text : List ℕ) → Appends b m text → Keeps m a → AppendsPart b a text
kept_part b m a text p q = (text, [], append-nil text, Appends-kept b m a text p q)

-- the whole text was done, and the writer wrote the rest out or failed to: the run is as `IsRun` says
pub flushed_end : (known b m a : Option (List ℕ)) (input : List ℕ) (r : Result (Unit {0}) ScheduleError) → IfSome known (λ bytes. bytes ≡ input)
    → IsOutput (output_of input) b m (Ok tt) → Keeps m a → IfErr r (λ e. e ≡ WriteFailed) → IsRun known b a r
flushed_end known b m a input (Ok u) read p q failed = (input, read, (p.0, p.1, Appends-kept b m a _ p.2 q))
flushed_end known b m a input (Err e) read p q failed =
    subst (λ x. IsRun known b a (Err x)) (sym failed) (input, read, (p.0, kept_part b m a _ p.2 q))

-- the text was malformed and the writer failed to write the rest out: the run ends with that failure
pub flush_failed : (known b m a : Option (List ℕ)) (input : List ℕ) (ended : ScheduleError) (line : ℕ) (cause : Cause) (e : ScheduleError)
    → IfSome known (λ bytes. bytes ≡ input) → ended ≡ Malformed line cause → IsOutput (output_of input) b m (Err ended)
    → Keeps m a → e ≡ WriteFailed → IsRun known b a (Err e)
flush_failed known b m a input ended line cause e read same p q failed =
    let text : IsOutput (output_of input) b m (Err (Malformed line cause)) =
    subst (λ x. IsOutput (output_of input) b m (Err x)) same p in
    subst (λ x. IsRun known b a (Err x)) (sym failed) (input, read, (text.0, kept_part b m a _ text.2 q))

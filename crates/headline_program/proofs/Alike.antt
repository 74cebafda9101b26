-- Where memory is refused to turns the program prints the same up to the first that it is refused to, and ends as ever.
use Rattle.std.proofs.Common.{◌≡◌, ◌⊎◌, inl, inr, ℕ, zero, suc, ◌+◌, Bool, true, false, Option, Some, None, Result, Ok, Err, List, [], ◌∷◌, ◌++◌}
use Rattle.std.proofs.Common.{refl, sym, ap, subst, ◌∙◌, append_assoc, append-nil, if◌then◌else◌}
use Rattle.model.specs.declared.turn.Kind.{Kind}
use Rattle.model.specs.declared.turn.Refusal.{Refusal}
use Rattle.model.specs.declared.turn.Refusal.TheVariants.{NoMemory}
use Rattle.model.specs.declared.turn.Turn.{Turn}
use Rattle.model.specs.declared.turn.Turn.TheVariants.{Next}
use Rattle.model.specs.World.{World, kind_in}
use Rattle.model.specs.Refusals.{refusal_of}
use Rattle.texts.specs.declared.error.Cause.{Cause}
use Rattle.texts.specs.declared.grammar.Command.{Command}
use Rattle.texts.specs.declared.grammar.Command.TheVariants.{Once, Times}
use Rattle.texts.specs.declared.grammar.Setup.{Setup}
use Rattle.texts.specs.Grammar.{command_of}
use Rattle.texts.specs.Print.{refusal_text}
use Rattle.texts.specs.Text.{lines, words}
use Rattle.schedule.specs.Output.{outcome, outcome_as, refusal_where, Outcome, State, is_short, later}
use Rattle.schedule.specs.Output.{Printed, after_text, printed, next_outcome, goes_on, nexts, commanded}
use Rattle.schedule.specs.Output.{Output, stopped, before as behind, lines_from, machine_of, opened, output_of_lines, output_of}
use Rattle.headline_program.specs.Refused.{IsSameBefore}

-- ---- texts that are the same up to a line

-- the line itself
tells : (whole : List ℕ) → IsSameBefore (refusal_text NoMemory) whole
tells whole = record { before = []; after = []; rest = whole; tells = sym (append-nil _); same = refl }

-- Two texts that are the same up to the line of a refusal are still so with the same text before both.
after_first : (first text whole : List ℕ) → IsSameBefore text whole → IsSameBefore (first ++ text) (first ++ whole)
after_first first text whole same_before =
    record {
      before = first ++ same_before.before;
      after = same_before.after;
      rest = same_before.rest;
      tells = ap (λ (xs : List ℕ). first ++ xs) same_before.tells ∙ sym (append_assoc first same_before.before (refusal_text NoMemory ++ same_before.after));
      same = ap (λ (xs : List ℕ). first ++ xs) same_before.same ∙ sym (append_assoc first same_before.before same_before.rest);
    }

-- Two texts that are the same up to the line of a refusal are still so with any texts behind them.
more_behind : (text whole more other : List ℕ) → IsSameBefore text whole → IsSameBefore (text ++ more) (whole ++ other)
more_behind text whole more other same_before =
    record {
      before = same_before.before;
      after = same_before.after ++ more;
      rest = same_before.rest ++ other;
      tells = ap (λ (xs : List ℕ). xs ++ more) same_before.tells
          ∙ (append_assoc same_before.before (refusal_text NoMemory ++ same_before.after) more
          ∙ ap (λ (xs : List ℕ). same_before.before ++ xs) (append_assoc (refusal_text NoMemory) same_before.after more));
      same = ap (λ (xs : List ℕ). xs ++ other) same_before.same ∙ append_assoc same_before.before same_before.rest other;
    }

-- ---- turns

-- A state of the program: its world, and to which of the next turns memory is refused.
abbrev at : World ℕ → List Bool → State
at w refusals = record { world = w; refusals = refusals }

-- the second is printed where memory is refused to no turn
abbrev Alike : Printed → Printed → Type 0
Alike p whole = ((p.text ≡ whole.text) × (whole.state ≡ at p.state.world [])) ⊎ IsSameBefore p.text whole.text

-- The outcome of a turn that is refused for memory: nothing is taken, and the world stays.
abbrev refused_as : World ℕ → Outcome
refused_as w = record { text = refusal_text NoMemory; is_taken = false; world = w }

-- A turn has the same outcome where memory may be short as where it is not, or it is refused for memory.
either : (w : World ℕ) (turn : Turn ℕ) (short : Bool) (o : Option Refusal)
    → (outcome_as w turn (refusal_where short o) ≡ outcome_as w turn (refusal_where false o)) ⊎ (outcome_as w turn (refusal_where short o) ≡ refused_as w)
either w turn short (Some refusal) = inl refl
either w turn true None = inr refl
either w turn false None = inl refl

-- A turn has the same outcome where memory may be short as where it is not, or it is refused for memory.
one_turn : (w : World ℕ) (turn : Turn ℕ) (short : Bool) → (outcome short w turn ≡ outcome false w turn) ⊎ (outcome short w turn ≡ refused_as w)
unfolding outcome
one_turn w turn short = either w turn short (refusal_of w turn)

-- What is printed for a turn, and, if the program goes on after it, for the turns that follow.
abbrev chosen : Bool → Outcome → Printed → List Bool → Printed
chosen go o more refusals = if go then after_text o.text more else printed o refusals

-- If what follows an outcome prints alike, then the outcome with what follows does, whether the
-- program goes on after it or not.
choose : (go : Bool) (o : Outcome) (more whole : Printed) (refusals : List Bool) → Alike more whole → Alike (chosen go o more refusals) (chosen go o whole [])
choose true o more whole refusals (inl (same, state)) = inl (ap (λ (xs : List ℕ). o.text ++ xs) same, state)
choose true o more whole refusals (inr same) = inr (after_first o.text more.text whole.text same)
choose false o more whole refusals alike = inl (refl, refl)

-- where the first turn prints alike, and those after it do, all of them print alike
one_more : (most party : ℕ) (w : World ℕ) (o whole : Outcome) (refusals : List Bool) → (o ≡ whole) ⊎ (o ≡ refused_as w)
    → Alike (nexts most party (at o.world refusals)) (nexts most party (at o.world []))
    → Alike (chosen (goes_on party o) o (nexts most party (at o.world refusals)) refusals)
    (chosen (goes_on party whole) whole (nexts most party (at whole.world [])) [])
one_more most party w o whole refusals (inl same) alike =
    subst
    (λ (x : Outcome). Alike (chosen (goes_on party o) o (nexts most party (at o.world refusals)) refusals)
    (chosen (goes_on party x) x (nexts most party (at x.world [])) []))
    same (choose (goes_on party o) o (nexts most party (at o.world refusals)) (nexts most party (at o.world [])) refusals alike)
one_more most party w o whole refusals (inr refused) alike =
    subst
    (λ (x : Outcome). Alike (chosen (goes_on party x) x (nexts most party (at x.world refusals)) refusals)
    (chosen (goes_on party whole) whole (nexts most party (at whole.world [])) []))
    (sym refused) (inr (tells (chosen (goes_on party whole) whole (nexts most party (at whole.world [])) []).text))

-- a step several times over prints alike where memory is refused and where it is not
several : (most party : ℕ) (s : State) → Alike (nexts most party s) (nexts most party (at s.world []))
unfolding nexts
several zero party s = inl (refl, refl)
several (suc most) party s =
    let o = next_outcome s (Next party) in
    one_more most party s.world o (outcome false s.world (Next party)) (later s.refusals) (one_turn s.world (Next party) (is_short s.refusals))
    (several most party (at o.world (later s.refusals)))

-- One turn prints the same as without refusals, or the refusal.
once : (turn : Turn ℕ) (w : World ℕ) (o whole : Outcome) (refusals : List Bool) → (o ≡ whole) ⊎ (o ≡ refused_as w)
    → Alike (printed o refusals) (printed whole [])
once turn w o whole refusals (inl same) = rw (← same) (inl (refl, refl))
once turn w o whole refusals (inr refused) =
    rw refused (inr (tells whole.text))

-- A command prints alike where memory may be refused and where it is not.
command : (c : Command) (s : State) → Alike (commanded c s) (commanded c (at s.world []))
command (Once turn) s =
    once turn s.world (next_outcome s turn) (outcome false s.world turn) (later s.refusals) (one_turn s.world turn (is_short s.refusals))
command (Times party most) s = several most party s

-- ---- lines

-- The two outputs are equal, or their texts are the same up to the first refusal for memory.
abbrev AreAlike : Output → Output → Type 0
AreAlike o whole = (o ≡ whole) ⊎ IsSameBefore o.text whole.text

-- what the program prints from a line on, given how the line was read
abbrev line_as : Kind → ℕ → List (List ℕ) → State → Result Command Cause → Output
line_as kind number lines s read =
    elim read [
      | Err cause ↦ stopped number cause
      | Ok command ↦ behind (commanded command s).text (lines_from kind (number + 1) lines (commanded command s).state)
    ]

-- a line's text that is alike, and then those of all later lines, make an output that is alike
line_behind : (kind : Kind) (number : ℕ) (lines : List (List ℕ)) (p whole : Printed) → Alike p whole
    → AreAlike (lines_from kind number lines p.state) (lines_from kind number lines (at p.state.world []))
    → AreAlike (behind p.text (lines_from kind number lines p.state)) (behind whole.text (lines_from kind number lines whole.state))
line_behind kind number lines p whole (inl (same, state)) (inl rest) =
    inl
    (ap (λ (xs : List ℕ). behind xs (lines_from kind number lines p.state)) same
    ∙ ap (behind whole.text) (rest ∙ ap (lines_from kind number lines) (sym state)))
line_behind kind number lines p whole (inl (same, state)) (inr rest) =
    inr
    (rw (← same)
    (rw state (after_first p.text (lines_from kind number lines p.state).text (lines_from kind number lines (at p.state.world [])).text rest)))
line_behind kind number lines p whole (inr same) rest =
    inr (more_behind p.text whole.text (lines_from kind number lines p.state).text (lines_from kind number lines whole.state).text same)

-- a line gives an alike output, whether it is a command or the program stops at it
choose_line : (kind : Kind) (number : ℕ) (lines : List (List ℕ)) (s : State) (read : Result Command Cause)
    → ((t : State) → AreAlike (lines_from kind (number + 1) lines t) (lines_from kind (number + 1) lines (at t.world [])))
    → AreAlike (line_as kind number lines s read) (line_as kind number lines (at s.world []) read)
choose_line kind number lines s (Err cause) rest = inl refl
choose_line kind number lines s (Ok c) rest =
    line_behind kind (number + 1) lines (commanded c s) (commanded c (at s.world [])) (command c s) (rest (commanded c s).state)

-- all lines give an alike output
line_by_line : (kind : Kind) (number : ℕ) (lines : List (List ℕ)) (s : State)
    → AreAlike (lines_from kind number lines s) (lines_from kind number lines (at s.world []))
unfolding lines_from
line_by_line kind number [] s = inl refl
line_by_line kind number ([] ∷ lines) s = line_by_line kind (number + 1) lines s
line_by_line kind number ((b ∷ bs) ∷ lines) s =
    choose_line kind number lines s (command_of kind (words (b ∷ bs))) (λ t. line_by_line kind (number + 1) lines t)

-- ---- the end

-- Whatever a line was read as, the program ends in the same way from either state.
choose_end : (kind : Kind) (number : ℕ) (lines : List (List ℕ)) (s t : State) (read : Result Command Cause)
    → ((s t : State) → (lines_from kind (number + 1) lines s).end ≡ (lines_from kind (number + 1) lines t).end)
    → (line_as kind number lines s read).end ≡ (line_as kind number lines t read).end
choose_end kind number lines s t (Err cause) rest = refl
choose_end kind number lines s t (Ok c) rest = rest (commanded c s).state (commanded c t).state

-- the lines end alike from any two states
same_end : (kind : Kind) (number : ℕ) (lines : List (List ℕ)) (s t : State) → (lines_from kind number lines s).end ≡ (lines_from kind number lines t).end
unfolding lines_from
same_end kind number [] s t = refl
same_end kind number ([] ∷ lines) s t = same_end kind (number + 1) lines s t
same_end kind number ((b ∷ bs) ∷ lines) s t =
    choose_end kind number lines s t (command_of kind (words (b ∷ bs))) (λ s t. same_end kind (number + 1) lines s t)

-- ---- the first line

-- The output after the first line, by how that line was read: the program stops, or goes on with
-- the further lines.
abbrev first_as : List (List ℕ) → List Bool → Result Setup Cause → Output
first_as rest refusals read =
    elim read [ Err cause ↦ stopped 1 cause | Ok setup ↦ lines_from (kind_in setup.shape) 2 rest (opened setup refusals) ]

-- However the first line was read, the output is alike with refusals for memory and without.
first_alike : (rest : List (List ℕ)) (refusals : List Bool) (read : Result Setup Cause) → AreAlike (first_as rest refusals read) (first_as rest [] read)
first_alike rest refusals (Err cause) = inl refl
first_alike rest refusals (Ok setup) = line_by_line (kind_in setup.shape) 2 rest (opened setup refusals)

-- However the first line was read, the program ends in the same way with refusals for memory and without.
first_end : (rest : List (List ℕ)) (refusals : List Bool) (read : Result Setup Cause) → (first_as rest refusals read).end ≡ (first_as rest [] read).end
first_end rest refusals (Err cause) = refl
first_end rest refusals (Ok setup) = same_end (kind_in setup.shape) 2 rest (opened setup refusals) (opened setup [])

-- The whole output is alike, with refusals of memory and without.
whole_alike : (refusals : List Bool) (all : List (List ℕ)) → AreAlike (output_of_lines refusals all) (output_of_lines [] all)
unfolding output_of_lines
whole_alike refusals [] = inl refl
whole_alike refusals (first ∷ rest) = first_alike rest refusals (machine_of (words first))

-- The program ends in the same way, with refusals of memory and without.
whole_end : (refusals : List Bool) (all : List (List ℕ)) → (output_of_lines refusals all).end ≡ (output_of_lines [] all).end
unfolding output_of_lines
whole_end refusals [] = refl
whole_end refusals (first ∷ rest) = first_end rest refusals (machine_of (words first))

-- The output with refusals of memory is the whole output up to the first of them.
pub alike : (input : List ℕ) (refusals : List Bool) → AreAlike (output_of input refusals) (output_of input [])
alike input refusals = whole_alike refusals (lines input)

-- The program ends alike with refusals of memory and without.
pub ends : (input : List ℕ) (refusals : List Bool) → (output_of input refusals).end ≡ (output_of input []).end
ends input refusals = whole_end refusals (lines input)

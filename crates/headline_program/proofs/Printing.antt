-- Line by line what is printed is what a machine has written down.
use Rattle.std.proofs.Common.{◌≡◌, ℕ, zero, suc, ◌+◌, Bool, true, false, Option, Some, None, Result, Ok, Err, List, [], ◌∷◌, ◌++◌, if◌then◌else◌}
use Rattle.std.proofs.Common.{refl, sym, ap, subst, ◌∙◌, append_assoc, append-nil, arith}
use Rattle.std.proofs.lemmas.List.Concat.{flat_map-append}
use Rattle.std.specs.List.{flat_map}
use Rattle.steps.specs.Words.{given_back_u128}
use Rattle.steps.specs.declared.enums.UniqueIndexCreationError.{UniqueIndexCreationError}
use Rattle.steps.specs.declared.enums.UniqueIndexCreationError.TheVariants as creation
use Rattle.model.specs.declared.event.Event.{Event}
use Rattle.model.specs.declared.turn.Kind.{Kind}
use Rattle.model.specs.declared.turn.Refusal.{Refusal}
use Rattle.model.specs.declared.turn.Refusal.TheVariants.{NoMemory}
use Rattle.model.specs.declared.turn.Shape.{Shape}
use Rattle.model.specs.declared.turn.Shape.TheVariants as shapes
use Rattle.model.specs.declared.turn.Turn.{Turn}
use Rattle.model.specs.declared.turn.Turn.TheVariants.{Next}
use Rattle.model.specs.Coding.{IsCoding}
use Rattle.model.specs.Refusals.{refusal_of}
use Rattle.model.specs.Turns.{IsReached, world_after, events_of}
use Rattle.model.specs.World.{World, Trace, kind_in, capacity_in, shape_error}
use Rattle.model.proofs.Reached.{SameMaking, turn_making, reached_more, reached_as}
use Rattle.texts.specs.declared.error.Cause.{Cause}
use Rattle.texts.specs.declared.grammar.Command.{Command}
use Rattle.texts.specs.declared.grammar.Command.TheVariants.{Once, Times}
use Rattle.texts.specs.declared.grammar.Setup.{Setup}
use Rattle.texts.specs.Grammar.{◌>>=◌, setup_of, command_of}
use Rattle.texts.specs.Text.{lines, words}
use Rattle.schedule.specs.Output.{two_words, outcome, outcome_as, refusal_where, Outcome, State, is_short, later}
use Rattle.schedule.specs.Output.{Printed, after_text, printed as printed_now, next_outcome, goes_on, nexts}
use Rattle.schedule.specs.Output.{commanded, Output, stopped, before as behind, lines_from, capacity_cause, admitted}
use Rattle.schedule.specs.Output.{setup_error, machine_of, trace_of, opened, output_of_lines, output_of}
use Rattle.headline_program.specs.Printing.{Line, Wrote, Refused, text_of, events_in, IsOfMachine}

-- ---- what is printed as a world becomes another, behind these events

-- The machine with the events that it has written.
abbrev machine_in : World ℕ → List (Event ℕ) → Trace ℕ
machine_in w events = record { world = w; events = events }

-- The text is that of lines whose events lead from the one world, which has written `before`, to
-- the other by turns of a machine.
pub record Prints (w : World ℕ) (before : List (Event ℕ)) (text : List ℕ) (new : World ℕ) : Type 0 where
  pub lines : List Line
  pub is : text ≡ flat_map text_of lines
  pub reached : IsReached (machine_in new (before ++ flat_map events_in lines))
  pub same : SameMaking w new

same_making : (w : World ℕ) → SameMaking w w
same_making w = record { coding = refl; kind = refl; capacity = refl; parties = refl }

-- a world that was made as a second, which was made as a third, was made as the third
both : (v w x : World ℕ) → SameMaking v w → SameMaking w x → SameMaking v x
both v w x making_first making_second =
    record {
      coding = making_second.coding ∙ making_first.coding;
      kind = making_second.kind ∙ making_first.kind;
      capacity = making_second.capacity ∙ making_first.capacity;
      parties = making_second.parties ∙ making_first.parties;
    }

-- Where no event is written, nothing is printed, and the machine is the same.
nothing : (w : World ℕ) (before : List (Event ℕ)) → IsReached (machine_in w before) → Prints w before [] w
nothing w before is_reached =
    record { lines = []; is = refl; reached = rw (append-nil before) is_reached; same = same_making w }

-- what is printed up to one world, and from there to another, is printed up to the other
after_that : (w mid new : World ℕ) (before : List (Event ℕ)) (first second : List ℕ) (a : Prints w before first mid)
    → Prints mid (before ++ flat_map events_in a.lines) second new → Prints w before (first ++ second) new
after_that w mid new before first second a prints =
    record {
      lines = a.lines ++ prints.lines;
      is = ap (λ (xs : List ℕ). xs ++ second) a.is
          ∙ (ap (λ (xs : List ℕ). flat_map text_of a.lines ++ xs) prints.is ∙ sym (flat_map-append text_of a.lines prints.lines));
      reached = rw (← append_assoc before (flat_map events_in a.lines) (flat_map events_in prints.lines)
          ∙ ap (λ (es : List (Event ℕ)). before ++ es) (sym (flat_map-append events_in a.lines prints.lines))) prints.reached;
      same = both w mid new a.same prints.same;
    }

-- ---- one turn

-- a turn that is taken prints the events that it writes down
written : (w : World ℕ) (before : List (Event ℕ)) (turn : Turn ℕ) → refusal_of w turn ≡ None → IsReached (machine_in w before)
    → Prints w before (outcome_as w turn None).text (outcome_as w turn None).world
written w before turn not_refused is_reached =
    record {
      lines = Wrote (events_of w turn) ∷ [];
      is = sym (append-nil _);
      reached = rw (← ap (λ (es : List (Event ℕ)). before ++ es) (sym (append-nil (events_of w turn))))
          (reached_more (machine_in w before) turn not_refused is_reached);
      same = turn_making w turn;
    }

-- a turn that is refused prints its refusal, and writes down nothing
refused : (w : World ℕ) (before : List (Event ℕ)) (turn : Turn ℕ) (refusal : Refusal) → IsReached (machine_in w before)
    → Prints w before (outcome_as w turn (Some refusal)).text (outcome_as w turn (Some refusal)).world
refused w before turn refusal is_reached =
    record {
      lines = Refused refusal ∷ [];
      is = sym (append-nil _);
      reached = rw (append-nil before) is_reached;
      same = same_making w;
    }

-- a turn prints what it writes down, whether memory is refused to it or it is refused for another cause or for none
either : (w : World ℕ) (before : List (Event ℕ)) (turn : Turn ℕ) (short : Bool) (o : Option Refusal) → refusal_of w turn ≡ o
    → IsReached (machine_in w before)
    → Prints w before (outcome_as w turn (refusal_where short o)).text (outcome_as w turn (refusal_where short o)).world
either w before turn short (Some refusal) refusal_is reached = refused w before turn refusal reached
either w before turn true None refusal_is reached = refused w before turn NoMemory reached
either w before turn false None refusal_is reached = written w before turn refusal_is reached

-- What a turn prints is what it has written down, or its refusal.
one_turn : (w : World ℕ) (before : List (Event ℕ)) (turn : Turn ℕ) (short : Bool) → IsReached (machine_in w before)
    → Prints w before (outcome short w turn).text (outcome short w turn).world
unfolding outcome
one_turn w before turn short reached = either w before turn short (refusal_of w turn) refl reached

-- ---- several turns

-- What is printed for a turn, and, if the program goes on after it, for the turns that follow.
abbrev chosen : Bool → Outcome → Printed → List Bool → Printed
chosen go o more refusals = if go then after_text o.text more else printed_now o refusals

-- several turns print what they write down, whether they go on after the first or not
choose : (go : Bool) (w : World ℕ) (before : List (Event ℕ)) (o : Outcome) (more : Printed) (refusals : List Bool)
    → (first : Prints w before o.text o.world)
    → Prints o.world (before ++ flat_map events_in first.lines) more.text more.state.world
    → Prints w before (chosen go o more refusals).text (chosen go o more refusals).state.world
choose true w before o more refusals first rest = after_that w o.world more.state.world before o.text more.text first rest
choose false w before o more refusals first rest = first

-- a step several times over prints what it writes down
several : (most party : ℕ) (s : State) (before : List (Event ℕ)) → IsReached (machine_in s.world before)
    → Prints s.world before (nexts most party s).text (nexts most party s).state.world
unfolding nexts
several zero party s before reached = nothing s.world before reached
several (suc most) party s before reached =
    let o = next_outcome s (Next party) in
    let on : State = record { world = o.world; refusals = later s.refusals } in
    let first = one_turn s.world before (Next party) (is_short s.refusals) reached in
    choose (goes_on party o) s.world before o (nexts most party on) (later s.refusals) first
    (several most party on (before ++ flat_map events_in first.lines) first.reached)

-- each command prints what the machine does on it, and leaves the world that the machine reaches
command : (c : Command) (s : State) (before : List (Event ℕ)) → IsReached (machine_in s.world before)
    → Prints s.world before (commanded c s).text (commanded c s).state.world
command (Once turn) s before reached = one_turn s.world before turn (is_short s.refusals) reached
command (Times party most) s before reached = several most party s before reached

-- ---- lines

-- The text is printed as the world becomes some other world.
pub record Ends (w : World ℕ) (before : List (Event ℕ)) (text : List ℕ) : Type 0 where
  pub new : World ℕ
  pub prints : Prints w before text new

-- what the program prints from a line on, given how the line was read
abbrev line_as : Kind → ℕ → List (List ℕ) → State → Result Command Cause → Output
line_as kind number lines s read =
    elim read [
      | Err cause ↦ stopped number cause
      | Ok command ↦ behind (commanded command s).text (lines_from kind (number + 1) lines (commanded command s).state)
    ]

-- a line prints what it writes down, whether it is a command or the program stops at it
choose_line : (kind : Kind) (number : ℕ) (lines : List (List ℕ)) (s : State) (before : List (Event ℕ)) (read : Result Command Cause)
    → IsReached (machine_in s.world before)
    → ((c : Command) (first : Prints s.world before (commanded c s).text (commanded c s).state.world)
    → Ends (commanded c s).state.world (before ++ flat_map events_in first.lines) (lines_from kind (number + 1) lines (commanded c s).state).text)
    → Ends s.world before (line_as kind number lines s read).text
choose_line kind number lines s before (Err cause) reached rest = record { new = s.world; prints = nothing s.world before reached }
choose_line kind number lines s before (Ok c) reached rest =
    let first = command c s before reached in
    let more = rest c first in
    record { new = more.new; prints = after_that s.world (commanded c s).state.world more.new before _ _ first more.prints }

-- all lines print what they write down
line_by_line : (kind : Kind) (number : ℕ) (lines : List (List ℕ)) (s : State) (before : List (Event ℕ)) → IsReached (machine_in s.world before)
    → Ends s.world before (lines_from kind number lines s).text
unfolding lines_from
line_by_line kind number [] s before reached = record { new = s.world; prints = nothing s.world before reached }
line_by_line kind number ([] ∷ lines) s before reached = line_by_line kind (number + 1) lines s before reached
line_by_line kind number ((b ∷ bs) ∷ lines) s before reached =
    choose_line kind number lines s before (command_of kind (words (b ∷ bs))) reached
    (λ c first. line_by_line kind (number + 1) lines (commanded c s).state (before ++ flat_map events_in first.lines) first.reached)

-- ---- the first line

coded : IsCoding two_words
coded = record { some = omega arith; few = omega arith; sized = λ x. refl; given_back = λ x. given_back_u128 x }

-- If no cause is named for a refused creation, and it was not refused for memory, then there was no refusal.
no_cause : (o : Option UniqueIndexCreationError) → (o ≡ Some creation.NoMemory → ⊥) → capacity_cause o ≡ None → o ≡ None
no_cause None never no_cause_is = refl
no_cause (Some creation.ProvidedCapacityGreaterThanMaxCapacity) never no_cause_is = absurd (cc)
no_cause (Some creation.ProvidedCapacityIsZero) never no_cause_is = absurd (cc)
no_cause (Some creation.NoMemory) never no_cause_is = absurd (never refl)

-- a capacity is never refused for memory
no_memory_of : (a b : Bool)
    → (if a then Some creation.ProvidedCapacityGreaterThanMaxCapacity else if b then Some creation.ProvidedCapacityIsZero else None)
    ≡ Some creation.NoMemory
    → ⊥
no_memory_of true b error_is = cc
no_memory_of false true error_is = cc
no_memory_of false false error_is = cc

-- The numbers of a shape are never refused for the reason that there is no memory.
never_memory : (shape : Shape) → shape_error shape ≡ Some creation.NoMemory → ⊥
never_memory (shapes.Of kind capacity) refused = no_memory_of _ _ refused
never_memory (shapes.Loan slots queue) refused = no_memory_of _ _ refused

-- The machine of this setup is reached, by no turn, and has the kind, the capacity and the parties
-- of the setup.
pub record Made (setup : Setup) : Type 0 where
  pub reached : IsReached (machine_in (trace_of setup).world [])
  pub kind : (trace_of setup).world.kind ≡ kind_in setup.shape
  pub capacity : (trace_of setup).world.capacity ≡ capacity_in setup.shape
  pub parties : (trace_of setup).world.parties ≡ setup.parties

-- a setup without a cause of refusal makes a machine of its kind, capacity and parties
made : (setup : Setup) → capacity_cause (setup_error setup) ≡ None → Made setup
made setup no_cause_is =
    record {
      reached = reached_as two_words setup.shape setup.parties coded (no_cause (setup_error setup) (never_memory setup.shape) no_cause_is);
      kind = refl;
      capacity = refl;
      parties = refl;
    }

-- the setup that a first line gives makes a machine of its kind, capacity and parties
after_setup : (read : Result Setup Cause) (setup : Setup)
    → (read >>= λ setup. admitted setup (capacity_cause (setup_error setup))) ≡ Ok setup → Made setup
after_setup (Err cause) setup read_is = absurd (cc)
after_setup (Ok s) setup read_is = go (capacity_cause (setup_error s)) refl read_is
  where
    -- The cases are whether a cause is named for which the setup is refused.
    go : (c : Option Cause) → capacity_cause (setup_error s) ≡ c → admitted s c ≡ Ok setup → Made setup
    go None none admits =
        let same : s ≡ setup = cc in
        subst Made same (made s none)
    go (Some cause) some admits = absurd (cc)

-- A first line that names a machine has made the machine of that setup.
reads : (first : List ℕ) (setup : Setup) → machine_of (words first) ≡ Ok setup → Made setup
unfolding machine_of
reads first setup makes = after_setup (setup_of (words first)) setup makes

-- The output after the first line, by how that line was read: the program stops, or goes on with
-- the further lines.
abbrev first_as : List (List ℕ) → List Bool → Result Setup Cause → Output
first_as rest refusals read =
    elim read [ Err cause ↦ stopped 1 cause | Ok setup ↦ lines_from (kind_in setup.shape) 2 rest (opened setup refusals) ]

-- After a first line that names a machine the output is that of the further lines on this machine.
prints_of : (refusals : List Bool) (first : List ℕ) (rest : List (List ℕ)) (setup : Setup) → machine_of (words first) ≡ Ok setup
    → output_of_lines refusals (first ∷ rest) ≡ lines_from (kind_in setup.shape) 2 rest (opened setup refusals)
unfolding output_of_lines
prints_of refusals first rest setup makes = ap (first_as rest refusals) makes

-- the text is that of a machine that the first line makes
printed : (refusals : List Bool) (first : List ℕ) (rest : List (List ℕ)) (setup : Setup) → machine_of (words first) ≡ Ok setup
    → IsOfMachine setup (output_of_lines refusals (first ∷ rest)).text
printed refusals first rest setup makes =
    let m = reads first setup makes in
    let ends = line_by_line (kind_in setup.shape) 2 rest (opened setup refusals) [] m.reached in
    record {
      trace = machine_in ends.new (flat_map events_in ends.prints.lines);
      reached = ends.prints.reached;
      kind = ends.prints.same.kind ∙ m.kind;
      capacity = ends.prints.same.capacity ∙ m.capacity;
      parties = ends.prints.same.parties ∙ m.parties;
      lines = ends.prints.lines;
      events = refl;
      text = ap (λ (o : Output). o.text) (prints_of refusals first rest setup makes) ∙ ends.prints.is;
    }

-- What the program prints on an input whose first line names a machine is what a machine of that
-- setup writes down.
pub printed_input : (refusals : List Bool) (input first : List ℕ) (rest : List (List ℕ)) (setup : Setup) → lines input ≡ first ∷ rest
    → machine_of (words first) ≡ Ok setup → IsOfMachine setup (output_of input refusals).text
printed_input refusals input first rest setup split makes =
    rw split (printed refusals first rest setup makes)

-- `perform` (src/families/container/effects.rt): its return meets the clauses `after`, `states` and `wrote`.
use Rattle.std.proofs.Common.{◌≡◌, List, ◌++◌, sym, ap, ◌∙◌, append_assoc, append-nil}
use Rattle.std.specs.Prelude.{option_to_list}
use Rattle.model.specs.declared.event.Event.{Event}
use Rattle.turns.proofs.families.container.effects.perform.Goals as goal
use Rattle.turns.proofs.families.container.effects.perform.Goals.{in-Some, in_default, in-Some-question, in_default-question}

-- of a list to which one list and then another was added: it is longer by both
both : {E : Type 0} (old : List E) {between new xs ys told asked : List E} → told ≡ xs → asked ≡ ys → between ≡ old ++ told → new ≡ between ++ asked
    → new ≡ old ++ (xs ++ ys)
both old {xs = xs} {told = told} {asked = asked} is_told is_asked first second =
    second
    ∙ ap (λ l. l ++ asked) first
    ∙ append_assoc old told asked
    ∙ ap (λ l. old ++ (l ++ asked)) is_told
    ∙ ap (λ l. old ++ (xs ++ l)) is_asked

-- the look of a state, if the step has one, comes to what `feed` ensures
pub returns-clause-after : goal.returns-clause-after
returns-clause-after g c = c.feed-done.ensures.after

-- the states after the step are those that `feed` ensures
pub returns-clause-states : goal.returns-clause-states
returns-clause-states g c = c.feed-done.ensures.states

-- the events are those before, those of the step's effects, and those of its questions
pub returns-clause-wrote : goal.returns-clause-wrote
returns-clause-wrote g c =
    let told : List (Event g.row.T.Denot) = option_to_list c.effect.result in
    let asked : List (Event g.row.T.Denot) = option_to_list c.question.result in
    let first : c.match-effect.events.items ≡ c.args.events.now.items ++ told = elim c.match-effect.branch [
      | in-Some w ↦ rw (w.events-is, w.in-Some.is) w.push_reserved.ensures.items
      | in_default w ↦ rw (w.events-is, w.in_default.is) (sym (append-nil c.args.events.now.items))
    ] in
    let second : c.match-question.events.items ≡ c.match-effect.events.items ++ asked = elim c.match-question.branch [
      | in-Some-question w ↦ rw (w.events-is, w.in-Some-question.is) w.push_reserved-in-Some-question.ensures.items
      | in_default-question w ↦ rw (w.events-is, w.in_default-question.is) (sym (append-nil c.match-effect.events.items))
    ] in
    both c.args.events.now.items c.effect.ensures c.question.ensures first second

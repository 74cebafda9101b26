-- `Container::get_state` (src/mpmc/container/looks.rt): its call of `bring_up` meets the requirement `begins`, and its return meets the
-- clauses `got` and `steps`.
use Rattle.lock_free_owners.proofs.Names.{◌≡◌, inl, ℕ, rules, refl, sym, ap, subst, ◌∙◌, first_look, no_numbers, shows_nothing}
use Rattle.lock_free_owners.proofs.Names.{shown_number, Coding, IsCoding, coding_by, Number, GetState, seen, SetId}
use Rattle.lock_free_owners.proofs.Names.{HasCopied, HasLookedAll}
use Rattle.model.specs.declared.families.container.ContainerStart.TheVariants as starts
use Rattle.lock_free_owners.specs.Container.LookTurns.{IsOnHistory, LookAt}
use Rattle.lock_free_owners.proofs.ContainerSet.Looks.{look_begins, look_same, look_made, made_as, some_copied, latest_so}
use Rattle.lock_free_owners.proofs.ContainerSet.Steps.{look_takes}
use Rattle.lock_free_owners.proofs.mpmc.container.Container.get_state.Goals as goal

-- the look may begin with a new state, which the history has
pub bring_up-requires-clause-begins : goal.bring_up-requires-clause-begins
bring_up-requires-clause-begins g c =
    let met = g.met.T.Words in
    let code : Coding g.row.T.Denot = coding_by g.T.Words in
    let law : IsCoding code = record { some = met.some; few = met.few; sized = met.sized; given_back = met.given_back } in
    let mine = c.args.pass.now.token in
    let v = seen mine.seated in
    let state = c.in_ok-state.state in
    let size = mine.known ∙ ap (λ (z : SetId). z.capacity) c.requires in
    record {
      places = mine.places;
      from_is = refl;
      decided = inl (
        subst (λ (n : ℕ). state.seen ≡ no_numbers n) (sym size) c.in_ok-state.ensures.seen,
        subst (λ (n : ℕ). state.shown ≡ shows_nothing g.T.Words.value_of g.T.Words.WORDS n) (sym size) c.in_ok-state.ensures.shown,
      );
      at = subst (λ (n : ℕ). LookAt code GetState v state.shown state.seen v (first_look n) state.shown) mine.known
          (look_begins (record { code = code; law = law; which = GetState; from = v; shown = state.shown; seen = state.seen })
          mine.idle mine.alone mine.some.0);
    }

-- the state that is returned is what clause `got` says: the look is a call of the history, and the pass
-- has this state now
pub returns-clause-got : goal.returns-clause-got
returns-clause-got g c =
    let code : Coding g.row.T.Denot = coding_by g.T.Words in
    let mine = c.args.pass.now.token in
    let v = seen mine.seated in
    let w = seen c.bring_up.new.seat in
    let state = c.in_ok-state.state in
    let m = c.bring_up.new.state.shown in
    let size = mine.known ∙ ap (λ (z : SetId). z.capacity) c.requires in
    -- The state that was made is one that the history has: no numbers, and no shown values.
    let on : IsOnHistory code GetState v state.shown state.seen = (
      subst (λ (n : ℕ). state.seen ≡ no_numbers n) (sym size) c.in_ok-state.ensures.seen,
      subst (λ (n : ℕ). state.shown ≡ shows_nothing g.T.Words.value_of g.T.Words.WORDS n) (sym size) c.in_ok-state.ensures.shown,
    )
    in
    -- So the look over all elements ends as a call of the history.
    let ends = c.bring_up.ensures.over.0 on in
    record {
      same = look_same GetState state.seen c.bring_up.result m (search rules) ends;
      got = made_as starts.GetState (Number (shown_number m.elements)) (λ by es. HasLookedAll v.capacity by c.bring_up.result es)
          (λ by es. HasCopied by 0 v.capacity es) v w (λ by es h. some_copied g.row.T.Denot v.capacity by c.bring_up.result es h)
          (look_made code GetState v w state.seen c.bring_up.result m ends);
      latest = latest_so code v GetState state c.bring_up.new.state (c.in_ok-state.ensures.capacity ∙ sym size)
          c.bring_up.ensures.state ends;
      shows = ends.over.2;
      state = search rules;
    }

-- the look took no more steps than clause `steps` says
pub returns-clause-steps : goal.returns-clause-steps
returns-clause-steps g c =
    let code : Coding g.row.T.Denot = coding_by g.T.Words in
    let mine = c.args.pass.now.token in
    let v = seen mine.seated in
    let state = c.in_ok-state.state in
    let size = mine.known ∙ ap (λ (z : SetId). z.capacity) c.requires in
    let on : IsOnHistory code GetState v state.shown state.seen = (
      subst (λ (n : ℕ). state.seen ≡ no_numbers n) (sym size) c.in_ok-state.ensures.seen,
      subst (λ (n : ℕ). state.shown ≡ shows_nothing g.T.Words.value_of g.T.Words.WORDS n) (sym size) c.in_ok-state.ensures.shown,
    )
    in
    look_takes code size GetState state.seen c.bring_up.result c.bring_up.new.state.shown (c.bring_up.ensures.over.0 on)

-- `Container::update_state` (src/mpmc/container/looks.rt): its call of `bring_up` meets the requirement `begins`, `pass`
-- meets the invariants `known`, `idle`, `alone`, `some` and `knows`, and its return meets the clauses `updated`, `beside` and `steps`.
use Rattle.lock_free_owners.proofs.Names.{◌<◌, ℕ, rules, refl, sym, ap, subst, ◌∙◌, first_look, Coding, IsCoding, coding_by}
use Rattle.lock_free_owners.proofs.Names.{UpdateState, seen, SetId, looking}
use Rattle.model.specs.declared.turn.Kind.TheVariants as kinds
use Rattle.threaded.specs.declared.share.Share.{Share}
use Rattle.history.specs.History.{Knows}
use Rattle.lock_free_owners.specs.Container.LookTurns.{LookAt}
use Rattle.lock_free_owners.proofs.ContainerSet.Looks.{look_answered, look_begins, look_same, look_made}
use Rattle.lock_free_owners.proofs.ContainerSet.Looks.{latest_so, on_history, of_history, left_so, knows_so, Left}
use Rattle.lock_free_owners.proofs.ContainerSet.Began.{history_of}
use Rattle.lock_free_owners.proofs.ContainerSet.UpdateAnswers.{has_met}
use Rattle.lock_free_owners.proofs.ContainerSet.SameStates.{decide}
use Rattle.lock_free_owners.proofs.ContainerSet.Steps.{look_takes}
use Rattle.lock_free_owners.proofs.mpmc.container.Container.update_state.Goals.{After-bring_up}
use Rattle.lock_free_owners.proofs.mpmc.container.Container.update_state.Goals as goal
use Rattle.lock_free_owners.proofs.mpmc.container.Container.update_state.Given as given

-- the look may begin with the state as it is given, whether the pass has this state or not
pub bring_up-requires-clause-begins : goal.bring_up-requires-clause-begins
bring_up-requires-clause-begins g c =
    let met = g.met.T.Words in
    let code : Coding g.row.T.Denot = coding_by g.T.Words in
    let law : IsCoding code = record { some = met.some; few = met.few; sized = met.sized; given_back = met.given_back } in
    let mine = c.args.pass.now.token in
    let v = seen mine.seated in
    let state = c.args.state.now in
    record {
      places = mine.places;
      from_is = refl;
      decided = decide code law v v.capacity state.seen state.shown;
      at = subst (λ (n : ℕ). LookAt code UpdateState v state.shown state.seen v (first_look n) state.shown) mine.known
          (look_begins (record { code = code; law = law; which = UpdateState; from = v; shown = state.shown; seen = state.seen })
          mine.idle mine.alone mine.some.0);
    }

-- What is known of the pass behind the look that brought the state up.
left : (g : given.Over) (c : After-bring_up g) → Left (seen c.args.pass.now.token.seated) (seen c.bring_up.new.seat)
left g c =
    let met = g.met.T.Words in
    let code : Coding g.row.T.Denot = coding_by g.T.Words in
    let law : IsCoding code = record { some = met.some; few = met.few; sized = met.sized; given_back = met.given_back } in
    let mine = c.args.pass.now.token in
    let v = seen mine.seated in
    let state = c.args.state.now in
    left_so code UpdateState state.shown state.seen (decide code law v v.capacity state.seen state.shown) mine.idle mine.alone c.bring_up.ensures.over

-- after the call the pass keeps its fact `known`: its view has the capacity of the container
pub invariant_of-pass-clause-known : goal.invariant_of-pass-clause-known
invariant_of-pass-clause-known g c =
    (left g (goal.at.invariant_of-pass-clause-known g c).After-bring_up).capacity ∙ c.args.pass.now.token.known

-- after the call the pass keeps its fact `idle`: it has no call under way, unless a find rests
pub invariant_of-pass-clause-idle : goal.invariant_of-pass-clause-idle
invariant_of-pass-clause-idle g c =
    (left g (goal.at.invariant_of-pass-clause-idle g c).After-bring_up).idle

-- after the call the pass keeps its fact `alone`: it knows one history
pub invariant_of-pass-clause-alone : goal.invariant_of-pass-clause-alone
invariant_of-pass-clause-alone g c =
    (left g (goal.at.invariant_of-pass-clause-alone g c).After-bring_up).alone

-- after the call the pass keeps its fact `some`: it has a share
pub invariant_of-pass-clause-some : goal.invariant_of-pass-clause-some
invariant_of-pass-clause-some g c =
    subst (λ (z : Share). (0 < z.part) × (0 < z.parts))
    (sym (left g (goal.at.invariant_of-pass-clause-some g c).After-bring_up).share) c.args.pass.now.token.some

-- after the call the pass keeps its fact `knows`: what it knows is a run of the machine
pub invariant_of-pass-clause-knows : goal.invariant_of-pass-clause-knows
invariant_of-pass-clause-knows g c =
    let met = g.met.T.Words in
    let code : Coding g.row.T.Denot = coding_by g.T.Words in
    let law : IsCoding code = record { some = met.some; few = met.few; sized = met.sized; given_back = met.given_back } in
    let mine = c.args.pass.now.token in
    let v = seen mine.seated in
    let state = c.args.state.now in
    subst (λ n. Knows code kinds.Container n (seen c.bring_up.new.seat)) mine.known
    (knows_so code UpdateState state.shown state.seen (decide code law v v.capacity state.seen state.shown)
    (subst (λ n. Knows code kinds.Container n v) (sym mine.known) mine.knows) c.bring_up.ensures.over)

-- an update of the state that the pass has is a call of the history, and answers right (clause `updated`)
pub returns-clause-updated : goal.returns-clause-updated
returns-clause-updated g c latest =
    let code : Coding g.row.T.Denot = coding_by g.T.Words in
    let mine = c.args.pass.now.token in
    let v = seen mine.seated in
    let w = seen c.bring_up.new.seat in
    let state = c.args.state.now in
    let m = c.bring_up.new.state.shown in
    let size = mine.known ∙ ap (λ (z : SetId). z.capacity) c.requires.pass in
    let e = c.requires.state.1 ∙ sym size in
    -- The history has the state, so the look ends as a call of the history.
    let ends = c.bring_up.ensures.over.0 (on_history code v state e latest) in
    record {
      same = look_same UpdateState state.seen c.bring_up.result m (search rules) ends;
      updated = look_made code UpdateState v w state.seen c.bring_up.result m ends;
      met = has_met code c.bring_up.result v w (look_answered code UpdateState v w state.seen c.bring_up.result m ends)
          (history_of ends.settled (looking code UpdateState v.capacity state.seen) ends.over.0);
      latest = latest_so code v UpdateState state c.bring_up.new.state e c.bring_up.ensures.state ends;
      shows = ends.over.2;
    }

-- an update of any other state only counts operations (clause `beside`)
pub returns-clause-beside : goal.returns-clause-beside
returns-clause-beside g c other =
    let code : Coding g.row.T.Denot = coding_by g.T.Words in
    let mine = c.args.pass.now.token in
    let v = seen mine.seated in
    let state = c.args.state.now in
    let size = mine.known ∙ ap (λ (z : SetId). z.capacity) c.requires.pass in
    c.bring_up.ensures.over.1 (λ on. other (of_history code v state (c.requires.state.1 ∙ sym size) on))

-- an update of the state that the pass has took no more steps than clause `steps` says
pub returns-clause-steps : goal.returns-clause-steps
returns-clause-steps g c latest =
    let code : Coding g.row.T.Denot = coding_by g.T.Words in
    let mine = c.args.pass.now.token in
    let v = seen mine.seated in
    let w = seen c.bring_up.new.seat in
    let state = c.args.state.now in
    let size = mine.known ∙ ap (λ (z : SetId). z.capacity) c.requires.pass in
    look_takes code size UpdateState state.seen c.bring_up.result c.bring_up.new.state.shown
    (c.bring_up.ensures.over.0 (on_history code v state (c.requires.state.1 ∙ sym size) latest))

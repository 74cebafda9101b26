-- `Container::add` (src/mpmc/container/calls.rt): its call of `drive_on` meets the requirements `rule` and `at`, and its return meets
-- the clauses `same`, `added`, `lock`, `refused` and `steps`.
use Rattle.lock_free_owners.proofs.Names.{◌≡◌, ◌<◌, Ok, Err, rules, refl, sym, ap, subst, ◌∙◌, true≢false, first_add}
use Rattle.lock_free_owners.proofs.Names.{Owned, Coding, IsCoding, coding_by, seen, SetId}
use Rattle.steps.specs.declared.container.enums.ContainerAddFailure.TheVariants as failures
use Rattle.lock_free_owners.specs.Container.Turns.{AddAt, AddEnds}
use Rattle.lock_free_owners.proofs.ContainerSet.Begins.{add_keeps, add_begins}
use Rattle.lock_free_owners.proofs.ContainerSet.Facts.{has_added, filled_so, granted_so, within_so, open_so, refused_so, shut}
use Rattle.lock_free_owners.proofs.ContainerSet.States.{add_leaves}
use Rattle.lock_free_owners.proofs.ContainerSet.Steps.{add_takes}
use Rattle.lock_free_owners.proofs.mpmc.container.Container.add.Goals as goal

-- each step of the add keeps the rule of the table
pub drive_on-end-requires-clause-rule : goal.drive_on-end-requires-clause-rule
drive_on-end-requires-clause-rule g c =
    let met = g.met.T.Words in
    let code : Coding g.row.T.Denot = coding_by g.T.Words in
    let law : IsCoding code = record { some = met.some; few = met.few; sized = met.sized; given_back = met.given_back } in
    add_keeps code law (record { value = c.args.value; owner = c.args.owner })

-- the add may begin at the pass
pub drive_on-end-requires-clause-at : goal.drive_on-end-requires-clause-at
drive_on-end-requires-clause-at g c =
    let met = g.met.T.Words in
    let code : Coding g.row.T.Denot = coding_by g.T.Words in
    let law : IsCoding code = record { some = met.some; few = met.few; sized = met.sized; given_back = met.given_back } in
    let mine = c.args.pass.now.token in
    let v = seen mine.seated in
    let given : Owned g.row.T.Denot = record { value = c.args.value; owner = c.args.owner } in
    subst (λ call. AddAt code given v v call tt) (ap first_add mine.known ∙ sym c.new-call.ensures)
    (add_begins code law given v (search rules) mine.idle mine.alone mine.some.0)

-- what the pass knows goes on, and the pass keeps what clause `same` says
pub returns-in-Ok-clause-same : goal.returns-in-Ok-clause-same
returns-in-Ok-clause-same g c =
    add_leaves (search rules) (record { value = c.args.value; owner = c.args.owner }) c.drive_on-end.ensures.end

-- what the pass knows goes on, and the pass keeps what clause `same` says
pub returns-in-Err-clause-same : goal.returns-in-Err-clause-same
returns-in-Err-clause-same g c =
    add_leaves (search rules) (record { value = c.args.value; owner = c.args.owner }) c.drive_on-end.ensures.end

-- an add that succeeds means what clause `added` says
pub returns-in-Ok-clause-added : goal.returns-in-Ok-clause-added
returns-in-Ok-clause-added g c =
    let code : Coding g.row.T.Denot = coding_by g.T.Words in
    let v = seen c.args.pass.now.token.seated in
    let w = seen c.drive_on-end.new.self in
    let given : Owned g.row.T.Denot = record { value = c.args.value; owner = c.args.owner } in
    let ends = subst (λ z. AddEnds code given v z tt w) c.in-Ok.is c.drive_on-end.ensures.end in
    let size = c.args.pass.now.token.known ∙ ap (λ (z : SetId). z.capacity) c.requires in
    record {
      handle = ((refl, subst (λ n. c.in-Ok.index < n) size (within_so code v w given c.in-Ok.index ends)), refl);
      added = has_added code v w given (Ok c.in-Ok.index) ends;
      filled = filled_so code v w given c.in-Ok.index ends;
      granted = granted_so code v w given c.in-Ok.index ends;
    }

-- an add that succeeds was begun before the lock was seen
pub returns-in-Ok-clause-lock : goal.returns-in-Ok-clause-lock
returns-in-Ok-clause-lock g c locked =
    let code : Coding g.row.T.Denot = coding_by g.T.Words in
    let v = seen c.args.pass.now.token.seated in
    let w = seen c.drive_on-end.new.self in
    let given : Owned g.row.T.Denot = record { value = c.args.value; owner = c.args.owner } in
    let ends = subst (λ z. AddEnds code given v z tt w) c.in-Ok.is c.drive_on-end.ensures.end in
    let free = open_so code v w given c.in-Ok.index ends in
    absurd (true≢false (sym locked ∙ free))

-- an add that begins where the lock was seen answers `IsLocked`
pub returns-in-Err-clause-lock : goal.returns-in-Err-clause-lock
returns-in-Err-clause-lock g c locked =
    let code : Coding g.row.T.Denot = coding_by g.T.Words in
    let v = seen c.args.pass.now.token.seated in
    let w = seen c.drive_on-end.new.self in
    let given : Owned g.row.T.Denot = record { value = c.args.value; owner = c.args.owner } in
    let ends = subst (λ z. AddEnds code given v z tt w) c.in-Err.is c.drive_on-end.ensures.end in
    let same = shut code v w given (Err c.in-Err.failure) ends locked in
    let failure : c.in-Err.failure ≡ failures.IsLocked = cc in
    ap (λ f. Err f) failure

-- a refused add means what clause `refused` says
pub returns-in-Err-clause-refused : goal.returns-in-Err-clause-refused
returns-in-Err-clause-refused g c =
    let code : Coding g.row.T.Denot = coding_by g.T.Words in
    let v = seen c.args.pass.now.token.seated in
    let w = seen c.drive_on-end.new.self in
    let given : Owned g.row.T.Denot = record { value = c.args.value; owner = c.args.owner } in
    let ends = subst (λ z. AddEnds code given v z tt w) c.in-Err.is c.drive_on-end.ensures.end in
    record {
      added = has_added code v w given (Err c.in-Err.failure) ends;
      refused = refused_so code v w given c.in-Err.failure ends;
    }

-- the add took no more steps than clause `steps` says
pub returns-in-Ok-clause-steps : goal.returns-in-Ok-clause-steps
returns-in-Ok-clause-steps g c =
    add_takes (coding_by g.T.Words) (c.args.pass.now.token.known ∙ ap (λ (z : SetId). z.capacity) c.requires)
    (record { value = c.args.value; owner = c.args.owner }) c.drive_on-end.ensures.end

-- the add took no more steps than clause `steps` says
pub returns-in-Err-clause-steps : goal.returns-in-Err-clause-steps
returns-in-Err-clause-steps g c =
    add_takes (coding_by g.T.Words) (c.args.pass.now.token.known ∙ ap (λ (z : SetId). z.capacity) c.requires)
    (record { value = c.args.value; owner = c.args.owner }) c.drive_on-end.ensures.end

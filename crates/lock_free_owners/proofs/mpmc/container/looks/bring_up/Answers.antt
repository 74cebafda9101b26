-- `bring_up` (src/mpmc/container/looks.rt): its call of `step` meets the requirements `rule` and `at`, that of `look_on` the requirement
-- `may_step`, and its return meets the clause `over`.
use Rattle.lock_free_owners.proofs.Names.{◌≡◌, false, sym, ap, subst, ◌∙◌, look_after, Coding, coding_by}
use Rattle.lock_free_owners.proofs.Names.{seen}
use Rattle.lock_free_owners.specs.Container.LookTurns.{LookAt, LookOver}
use Rattle.lock_free_owners.proofs.ContainerSet.Looks.{LookCase, look_keeps, first_leads, goes_from, ends_from, past_from, false_from}
use Rattle.lock_free_owners.proofs.mpmc.container.looks.bring_up.Goals.{Start}
use Rattle.lock_free_owners.proofs.mpmc.container.looks.bring_up.Goals as goal
use Rattle.lock_free_owners.proofs.mpmc.container.looks.bring_up.Given as given

-- The look of a state that this function goes on with.
abbrev look : (g : given.Over) (c : Start g) → LookCase g.row.T.Denot
look g c =
    let met = g.met.T.Words in
    let b = g.B.Beginning in
    record {
      code = coding_by g.T.Words;
      law = record { some = met.some; few = met.few; sized = met.sized; given_back = met.given_back };
      which = b.which;
      from = b.from;
      shown = b.shown;
      seen = c.args.state.now.seen;
    }

-- each step of the look keeps the rule of the table
pub step-after-requires-clause-rule : goal.step-after-requires-clause-rule
step-after-requires-clause-rule g c =
    look_keeps (look g (goal.at.step-after-requires-clause-rule g c).Start) c.requires.begins.decided

-- the look is at its first stage
pub step-after-requires-clause-at : goal.step-after-requires-clause-at
step-after-requires-clause-at g c =
    let code : Coding g.row.T.Denot = coding_by g.T.Words in
    let v = seen c.args.seat.now in
    let state = c.args.state.now in
    let b = g.B.Beginning in
    (v, subst (λ call. LookAt code b.which b.from b.shown state.seen v call state.shown) (sym c.new-first.ensures) c.requires.begins.at)

-- a look that goes on after its first step has found a change, and may take a step
pub look_on-requires-clause-may_step : goal.look_on-requires-clause-may_step
look_on-requires-clause-may_step g c =
    let code : Coding g.row.T.Denot = coding_by g.T.Words in
    let here = look g (goal.at.look_on-requires-clause-may_step g c).Start in
    let v = seen c.args.seat.now in
    let state = c.args.state.now in
    let b = g.B.Beginning in
    -- The look began at its first stage, so its step leads on as `step` tells.
    let at = subst (λ call. LookAt code b.which b.from b.shown state.seen v call state.shown) (sym c.new-first.ensures) c.requires.begins.at in
    let told = c.step-after.ensures.told v at in
    let taken = c.step-after.ensures.taken in
    let is = taken.1 ∙ ap (λ call. look_after g.T.Words.WORDS call state.seen taken.0) c.new-first.ensures in
    record {
      decided = c.requires.begins.decided;
      at = (
        goes_from here v (seen c.step-after.new.self) c.step-after.new.room c.in-GoOn.is told,
        past_from here c.in-GoOn.is (first_leads here c.args.capacity taken.0 c.requires.begins.places is),
      );
    }

-- a look that its first step has ended found no change (clause `over`)
pub returns-in-Done-clause-over : goal.returns-in-Done-clause-over
returns-in-Done-clause-over g c =
    let code : Coding g.row.T.Denot = coding_by g.T.Words in
    let here = look g (goal.at.returns-in-Done-clause-over g c).Start in
    let v = seen c.args.seat.now in
    let w = seen c.step-after.new.self in
    let state = c.args.state.now in
    let b = g.B.Beginning in
    let at = subst (λ call. LookAt code b.which b.from b.shown state.seen v call state.shown) (sym c.new-first.ensures) c.requires.begins.at in
    let told = c.step-after.ensures.told v at in
    let taken = c.step-after.ensures.taken in
    let is = taken.1 ∙ ap (λ call. look_after g.T.Words.WORDS call state.seen taken.0) c.new-first.ensures in
    let ended = c.in-Done.field-0 in
    let none : ended ≡ false =
    false_from here c.in-Done.is (first_leads here c.args.capacity taken.0 c.requires.begins.places is) in
    subst (λ z. LookOver code b.which b.from b.shown state.seen z c.step-after.new.room w) none
    (ends_from here v w c.step-after.new.room c.in-Done.is told)

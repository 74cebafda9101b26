-- `Seated::once` (src/driver/seated.rt): its call of `answer` meets the requirement `owes`, and its return meets the clause `told`.
use Rattle.std.proofs.Common.{sym, subst, ℕ, List}
use Rattle.steps.specs.declared.ask.After.{After}
use Rattle.threaded.specs.Driver.{Next, Told, Owes}
use Rattle.threaded.specs.Seats.{seen, table_of, key_of}
use Rattle.threaded.proofs.Driving.{weaker_owes}
use Rattle.threaded.proofs.driver.seated.Seated.once.Goals as goal

-- its call of `answer` meets the requirement `owes`
pub answer-old-requires-clause-owes : goal.answer-old-requires-clause-owes
answer-old-requires-clause-owes g c =
    let t = c.args.self.now in
    let call = c.args.call in
    let room = c.args.room.now in
    let want = g.C.Routine.want_of call c.args.given.now in
    let after = λ (d : g.row.C.Denot) (k : ℕ). g.C.Routine.after d c.args.given.now k in
    let told = Told g.Q.Rule.capacity_seen (g.D.Drives.at c.args.given.now) (g.D.Drives.ends c.args.given.now) after g.C.Routine.kept call room in
    let holds = g.Q.TableRule.holds (key_of t) in
    let owed =
    c.requires.rule c.requires.at.0 (seen t) call room (key_of t) (table_of t).words (table_of t).slots t.seat.id
    c.requires.table.0 c.requires.table.1 c.requires.at.1 in
    let mine =
    subst
    (λ (xs : List (ℕ × Unit {0})). Owes g.Q.Rule.asked holds (table_of t).words (table_of t).slots t.seat.id told want (seen t, xs))
    (sym t.bare) owed in
    weaker_owes g.Q.Rule.asked holds (table_of t).words (table_of t).slots t.seat.id told g.M.Tells.told want t.seat.me (λ n w. c.requires.takes _ _ w) mine

-- its return meets the clause `told`
pub returns-clause-told : goal.returns-clause-told
returns-clause-told g c base began =
    let told_now = c.requires.gives _ _ _ c.answer-old.ensures.told in
    subst (λ (z : After g.row.C.Denot g.row.C-End.Denot × g.row.C-Room.Denot). Next g.Q.Rule.capacity_seen
    (g.D.Drives.at c.args.given.now) (g.D.Drives.ends c.args.given.now) base z.0 z.1 (seen c.answer-old.new.self))
    (λ i. (sym c.take.ensures.goes i, sym c.take.ensures.keeps i)) (told_now.1 base began)

-- `set_alone` (src/alone.rt): its return meets the clauses `whole` and `steps`.
use Rattle.std.proofs.Common.{ℕ, Bool, true, false, ap, subst, ◌∙◌}
use Rattle.model.specs.declared.event.Answer.TheVariants.{Truth}
use Rattle.model.specs.declared.event.Start.TheVariants.{Bits}
use Rattle.model.specs.declared.families.bits.BitsStart.TheVariants.{Set}
use Rattle.model.specs.declared.turn.Kind.TheVariants as kinds
use Rattle.history.specs.History.{Knows}
use Rattle.lock_free.specs.Bits.Calls.{SetId, capacity_of, view}
use Rattle.lock_free.specs.Bits.Stages.{set_wrote}
use Rattle.lock_free.specs.Coding.{one_word}
use Rattle.lock_free.specs.History.{Knows}
use Rattle.lock_free.specs.UniqueIndexSet.{SetId}
use Rattle.lock_free.specs.Whole.{AllInside, CallsWhole}
use Rattle.uses_laws.proofs.alone.set_alone.Goals as goal

-- what a set writes is neither a begin nor an end
set_inside : (p place : ℕ) (answer : Bool) → AllInside (set_wrote {T = ℕ} p place answer)
set_inside p place true = (tt, tt)
set_inside p place false = tt

-- who had the whole has it after the set
pub returns-clause-whole : goal.returns-clause-whole
returns-clause-whole g c =
    let one = c.set-was_clear.ensures.added.added in
    c.wholes_stay.ensures.call one.by (Bits (Set c.args.place)) (Truth c.set-was_clear.result)
    (set_wrote one.by c.args.place c.set-was_clear.result) (view c.args.pass.now)
    (view c.set-was_clear.new.pass) one.called c.requires.whole
    (set_inside one.by c.args.place c.set-was_clear.result) c.set-was_clear.ensures.same.share
    c.set-was_clear.ensures.same.all

-- with the whole share a set takes two operations at most
pub returns-clause-steps : goal.returns-clause-steps
returns-clause-steps g c =
    let one = c.set-was_clear.ensures.added.added in
    let calls : CallsWhole (view c.args.pass.now) (view c.set-was_clear.new.pass) =
    record {
      had = c.requires.whole;
      has = returns-clause-whole g c;
      by = one.by;
      start = Bits (Set c.args.place);
      answer = Truth c.set-was_clear.result;
      wrote = set_wrote one.by c.args.place c.set-was_clear.result;
      mine = one.mine;
      called = one.called;
    } in
    c.whole_calls_are_alone.ensures one_word kinds.Bits (capacity_of c.args.set.now) 2 1 (view c.args.pass.now) (view c.set-was_clear.new.pass) calls
    (subst (λ n. Knows one_word kinds.Bits n (view c.set-was_clear.new.pass))
    (ap (λ (z : SetId). z.capacity) (c.set-was_clear.ensures.same.set ∙ c.requires.pass)) c.history.ensures.run)
    c.set-was_clear.ensures.steps

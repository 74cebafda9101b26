-- `RobustUniqueIndexSet::find` (src/mpmc/robust_unique_index_set/finds.rt): its call of `find_all` meets the requirement `asks`, and its
-- return meets the clauses `same`, `found` and `steps`.
use Rattle.lock_free_owners.proofs.Names.{arith, rules, sym, ap, subst, one_word, seen, ◌∙◌, SetId, Looks}
use Rattle.model.specs.declared.turn.Kind.TheVariants as kinds
use Rattle.threaded.proofs.Callable.{takes_places_at}
use Rattle.history.specs.Steps.{TakesAtMost}
use Rattle.lock_free_owners.specs.Robust.Callable.{HasFound}
use Rattle.lock_free_owners.proofs.RobustSet.Facts.{looks_after, only_looked}
use Rattle.lock_free_owners.proofs.mpmc.robust_unique_index_set.RobustUniqueIndexSet.find.Goals as goal
use Rattle.lock_free_owners.proofs.mpmc.robust_unique_index_set.RobustUniqueIndexSet.find.Given as given

pub find_all-requires-clause-asks : goal.find_all-requires-clause-asks
find_all-requires-clause-asks g c =
    takes_places_at (ap (λ (z : SetId). z.capacity) (sym (c.is_locked.ensures.same.set ∙ c.requires.pass))) c.requires.indices

-- what the pass knows goes on, and the pass keeps what clause `same` says
pub returns-clause-same : goal.returns-clause-same
returns-clause-same g c =
    let on = c.is_locked.ensures.same in
    let same = ap (λ (z : SetId). z.capacity) (on.set ∙ c.requires.pass) in
    let once = on.aside in
    let looks = c.find_all.ensures.ends.looked.aside in
    let few = subst (λ n. TakesAtMost n (seen c.is_locked.new.pass.seated) (seen c.find_all.new.seat)) same c.find_all.ensures.ends.steps in
    record {
      set = search rules;
      goes = looks_after c.args.pass.now.capacity (seen c.args.pass.now.seated) (seen c.is_locked.new.pass.seated) (seen c.find_all.new.seat) on.goes
          (subst (λ n. Looks one_word kinds.Robust n (seen c.is_locked.new.pass.seated) (seen c.find_all.new.seat))
          (ap (λ (z : SetId). z.capacity) on.set) c.find_all.ensures.ends.looked);
      aside = omega arith;
    }

-- the find has visited and counted what clause `found` says
pub returns-clause-found : goal.returns-clause-found
returns-clause-found g c =
    let same = ap (λ (z : SetId). z.capacity) (c.is_locked.ensures.same.set ∙ c.requires.pass) in
    record {
      locked = c.is_locked.result;
      begun = seen c.is_locked.new.pass.seated;
      begins = c.is_locked.ensures.looked.looked;
      looks = only_looked c.args.pass.now.capacity (seen c.is_locked.new.pass.seated) (seen c.find_all.new.seat)
          (subst (λ n. Looks one_word kinds.Robust n (seen c.is_locked.new.pass.seated) (seen c.find_all.new.seat))
          (ap (λ (z : SetId). z.capacity) c.is_locked.ensures.same.set) c.find_all.ensures.ends.looked);
      found = subst (λ n. HasFound (λ p x a q. given.F-step g p x a q) n c.args.owner c.args.visit.now c.find_all.result c.find_all.new.visit
          (seen c.is_locked.new.pass.seated).seen (seen c.find_all.new.seat).seen) same c.find_all.ensures.ends.found;
    }

-- the find took no more steps than clause `steps` says
pub returns-clause-steps : goal.returns-clause-steps
returns-clause-steps g c =
    let same = ap (λ (z : SetId). z.capacity) (c.is_locked.ensures.same.set ∙ c.requires.pass) in
    let first = c.is_locked.ensures.steps in
    let rest = subst (λ n. TakesAtMost n (seen c.is_locked.new.pass.seated) (seen c.find_all.new.seat)) same c.find_all.ensures.ends.steps in
    omega arith

-- `Container::find` (src/mpmc/container/visits.rt): its call of `find_all` meets the requirements `at` and `visits`, and its return
-- meets the clauses `same`, `found` and `steps`.
use Rattle.lock_free_owners.proofs.Names.{◌<◌, [], rules, sym, ap, subst, Coding, IsCoding, coding_by, fresh_cell}
use Rattle.lock_free_owners.proofs.Names.{seen, SetId}
use Rattle.steps.specs.Container.Find.{first_find}
use Rattle.lock_free_owners.specs.Container.Callable.{TakesVisits, HasFound}
use Rattle.lock_free_owners.specs.Container.FindContract.{HasSearched}
use Rattle.lock_free_owners.specs.Container.FindTurns.{FindAt}
use Rattle.lock_free_owners.specs.Container.Names.{number_of}
use Rattle.lock_free_owners.specs.Container.Steps.{FindTakes}
use Rattle.lock_free_owners.specs.Container.Visits.{IsNamed}
use Rattle.lock_free_owners.proofs.ContainerSet.FindTurns.{find_begins}
use Rattle.lock_free_owners.proofs.mpmc.container.Container.find.Goals as goal
use Rattle.lock_free_owners.proofs.mpmc.container.Container.find.Given as given

-- the find may begin at the pass
pub find_all-requires-clause-at : goal.find_all-requires-clause-at
find_all-requires-clause-at g c =
    let met = g.met.T.Words in
    let code : Coding g.row.T.Denot = coding_by g.T.Words in
    let law : IsCoding code = record { some = met.some; few = met.few; sized = met.sized; given_back = met.given_back } in
    let mine = c.args.pass.now.token in
    let v = seen mine.seated in
    let some : 0 < v.capacity = subst (λ n. 0 < n) (sym mine.known) mine.places in
    subst (λ n. FindAt code c.args.owner v v (first_find n) (fresh_cell, [])) mine.known
    (find_begins code law c.args.owner v some (search rules) mine.idle mine.alone mine.some.0)

pub find_all-requires-clause-visits : goal.find_all-requires-clause-visits
find_all-requires-clause-visits g c =
    subst (λ n. TakesVisits (given.F-pre g) (λ p x h a q. given.F-step g p x h a q) (IsNamed n c.args.owner (number_of c.args.self.now)) c.args.visit.now)
    (sym (ap (λ (z : SetId). z.capacity) c.requires.pass)) c.requires.visits

-- the pass is of the same structure as before, and goes on from what it had seen (clause `same`)
pub returns-clause-same : goal.returns-clause-same
returns-clause-same g c =
    let left = c.find_all.ensures.searched.left in
    record { container = search rules; goes = left.goes; aside = left.aside; keeps = left.keeps }

-- the find has visited and counted what clause `found` says
pub returns-clause-found : goal.returns-clause-found
returns-clause-found g c =
    let code : Coding g.row.T.Denot = coding_by g.T.Words in
    let searched = c.find_all.ensures.searched in
    let size = ap (λ (z : SetId). z.capacity) c.requires.pass in (
      searched.visits,
      searched.bound,
      subst (λ n. HasSearched n c.args.owner c.find_all.result searched.bound searched.visits (seen c.args.pass.now.token.seated)
          (seen c.find_all.new.seat)) size searched.did,
      subst (λ n. HasFound (λ p x h a q. given.F-step g p x h a q) n (IsNamed n c.args.owner (number_of c.args.self.now)) c.args.visit.now
          c.find_all.result searched.bound searched.visits c.find_all.new.visit)
          size searched.found,
    )

-- the operations that the call has asked for are within clause `steps`
pub returns-clause-steps : goal.returns-clause-steps
returns-clause-steps g c =
    let code : Coding g.row.T.Denot = coding_by g.T.Words in
    subst (λ n. FindTakes code.size n (seen c.args.pass.now.token.seated) (seen c.find_all.new.seat)) (ap (λ (z : SetId). z.capacity) c.requires.pass)
    c.find_all.ensures.searched.steps

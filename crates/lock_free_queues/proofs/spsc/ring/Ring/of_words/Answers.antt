-- `Ring::of_words` (src/spsc/ring/make.rt): its call of `open` meets what that requires, and its result meets the invariant of its type.
use Rattle.lock_free_queues.proofs.Names.{rules, ◌≡◌, [], sym, subst, opening, Coding, coding_by, Producer, Consumer}
use Rattle.lock_free_queues.proofs.Names.{IsMachine}
use Rattle.lock_free_queues.specs.Queues.Bounded.{machine_kind}
use Rattle.lock_free_queues.specs.Queues.Kinds.{opened_by}
use Rattle.lock_free_queues.specs.Queues.Roles.{LacksRole}
use Rattle.lock_free_queues.proofs.Queues.Kinds.{opens_bare}
use Rattle.lock_free_queues.proofs.spsc.ring.Ring.of_words.Goals as goal

-- the words, with the view of the first pass, are the machine of the queue
pub open-requires : goal.open-requires
open-requires g c =
    let code : Coding g.row.T.Denot = coding_by g.T.Words in
    let kind = g.E.Kind.KIND in
    subst (λ ws. IsMachine code (machine_kind kind) c.args.capacity (opening ws [] (opened_by code kind c.args.capacity c.args.position)))
    (sym c.as_slice.ensures.value) c.requires.opens

-- the first pass has neither role
pub invariant_of-result : goal.invariant_of-result
invariant_of-result g c =
    let code : Coding g.row.T.Denot = coding_by g.T.Words in
    let kind = g.E.Kind.KIND in
    let none = opens_bare code kind c.args.capacity c.args.position in
    let made : c.in_ok-home.seated.seat.me.0.made ≡ (opened_by code kind c.args.capacity c.args.position).made = search rules in
    record { none = (subst (LacksRole Producer) (sym made) none.0, subst (LacksRole Consumer) (sym made) none.1) }

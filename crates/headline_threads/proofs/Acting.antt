-- Who has acted is seen, and that no call is under way.
use Rattle.std.proofs.Common.{◌≡◌, ◌≤◌, inl, inr, ℕ, Option, Some, None, ◌∷◌, ◌++◌, refl, sym, ap, subst, ◌∙◌, arith}
use Rattle.std.proofs.lemmas.List.{append_cancel_left}
use Rattle.model.specs.declared.families.Flight.{Flight}
use Rattle.model.specs.declared.turn.Kind.{Kind}
use Rattle.model.specs.declared.turn.Kind.TheVariants as kinds
use Rattle.model.specs.declared.turn.Turn.{Turn}
use Rattle.model.specs.Loads.{begun, pending}
use Rattle.model.specs.LockFree.{ends}
use Rattle.model.specs.Turns.{AreAllowedBy}
use Rattle.model.specs.World.{Trace, World, flight_in, opening}
use Rattle.model.proofs.LockFree.Apart.{Once, once_each, all_among_more}
use Rattle.model.proofs.LockFree.Counted.{begins_are, counted, one_pending}
use Rattle.lemmas.proofs.Open.{possible_open}
use Rattle.model.proofs.Rows.{IsPossible, possible_on}
use Rattle.history.specs.History.{call_in, refusal_as, run_of}
use Rattle.headline_threads.specs.Ends.{ActorsAreSeen, AllActorsAreSeen, NoneIsUnderWay}
use Rattle.headline_threads.proofs.Knowing.{none_pending}
use Rattle.headline_threads.proofs.Passing.{all_among, allowed_after, among_own, parties_of, turns_after, writes, wrote}

-- a turn that a table does not refuse is possible
possible : {T : Type 0} (kind : Kind) (w : World T) (turn : Turn T) → refusal_as kind w turn ≡ None → IsPossible w turn
possible kinds.Robust w turn free = possible_open w turn free
possible kinds.Container w turn free = possible_open w turn free
possible kind w turn free = possible_on w turn free

-- a party that stands nowhere has no call under way
no_call_in : {T : Type 0} (w : World T) (p : ℕ) → flight_in w p ≡ None → call_in w p ≡ None
no_call_in = grind arith

pub actors_are_seen : (T : Type 0) → ActorsAreSeen T
actors_are_seen T code kind capacity old new knows later parties under since is are =
    let start : Trace T = opening code kind capacity 0 in
    let was : Trace T = run_of code kind capacity old.turns in
    let rest = later.first.rest in
    let allowed = subst (AreAllowedBy (refusal_as kind) start) later.first.is later.knows.allowed in
    let there : new.seen ≡ old.seen ++ wrote was rest =
    later.knows.is
    ∙ (ap (λ ts. (run_of code kind capacity ts).events) later.first.is
    ∙ (ap (λ (u : Trace T). u.events) (turns_after start old.turns rest) ∙ (writes was rest ∙ ap (λ es. es ++ wrote was rest) (sym knows.is)))) in
    let same : since ≡ wrote was rest = append_cancel_left old.seen since (wrote was rest) (sym is ∙ there) in
    all_among (refusal_as kind) (possible kind) parties was rest under
    (allowed_after (refusal_as kind) (possible kind) start old.turns rest allowed) (rw same at are)

pub all_actors_are_seen : (T : Type 0) → AllActorsAreSeen T
all_actors_are_seen T code kind capacity v knows parties are =
    let start : Trace T = opening code kind capacity 0 in
    let wrote_all : v.seen ≡ wrote start v.turns = knows.is ∙ writes start v.turns in
    all_among (refusal_as kind) (possible kind) parties start v.turns (λ p. inl refl) knows.allowed (rw wrote_all at are)

pub none_is_under_way : (T : Type 0) → NoneIsUnderWay T
none_is_under_way T code kind capacity v knows all p = no_call (flight_in now p) refl
  where
    start : Trace T
    start = opening code kind capacity 0

    now : World T
    now = (run_of code kind capacity v.turns).world

    -- all parties that have acted, and this one, each once
    every : Once T (p ∷ parties_of v.turns)
    every = once_each T (p ∷ parties_of v.turns)

    none : pending every.once now ≡ 0
    none =
        let among = all_among_more (parties_of v.turns) every.once (λ q one. every.all q (inr one)) v.turns (among_own v.turns) in
        let under = counted (refusal_as kind) (possible kind) every.once every.apart start v.turns knows.allowed among in
        let first = none_pending every.once code kind capacity in
        let began = begins_are start v.turns in
        let seen : begun (run_of code kind capacity v.turns).events ≤ ends (run_of code kind capacity v.turns).events = rw knows.is at all in
        omega arith

    -- a party with a call under way would be counted
    no_call : (o : Option (Flight T)) → flight_in now p ≡ o → call_in now p ≡ None
    no_call None idle = no_call_in now p idle
    no_call (Some flight) going = let one = one_pending every.once now p flight (every.all p (inl refl)) going in absurd (omega (arith, none))

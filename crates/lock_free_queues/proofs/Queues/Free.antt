-- A role that was given back as often as it was taken is free, and an overflowing queue whose producer's role is free
-- has no more than its capacity.
use Rattle.lock_free_queues.proofs.Names.{◌≡◌, ◌≤◌, ℕ, ◌+◌, Option, Some, None, List, [], ◌∷◌, ◌++◌, length}
use Rattle.lock_free_queues.proofs.Names.{map, refl, sym, ap, subst, ◌∙◌, append_assoc, append-nil, sum_by, arith}
use Rattle.lock_free_queues.proofs.Names.{length-map, fold-append, Role, Event}
use Rattle.lock_free_queues.proofs.Names.{Index, Overflow}
use Rattle.lock_free_queues.proofs.Names.{Coding, producer_of, waiting, pending}
use Rattle.lock_free_queues.proofs.Names.{GrantsRight, Each, Trace, waiting_is, Hangs, IsRun, takes, gives}
use Rattle.lock_free_queues.proofs.Names.{role_after, sum_first, sound_of, granted}
use Rattle.model.specs.declared.turn.Kind.TheVariants as kinds
use Rattle.history_queues.proofs.Holders.{held}

-- 1 where a role has a holder, else 0.
abbrev one : Option ℕ → ℕ
one None = 0
one (Some p) = 1

-- A role that counts 0 has no holder.
nobody : (o : Option ℕ) → one o ≡ 0 → o ≡ None
nobody None counts_none = refl
nobody (Some p) counts_none = absurd (omega arith)

module _ {T : Type 0} where
  -- An event that grants right keeps the balance: its takes, and 1 if the role was held before, are its
  -- gives, and 1 if the role is held after it.
  moves : (role : Role) (before : List (Event T)) (e : Event T) → GrantsRight before e
      → takes role e + one (held role before) ≡ gives role e + one (role_after role (held role before) e)
  moves role before e grants_right = grind (arith, granted)

  -- Where each grant is right, some events take a role as often as they give it back. They take it once
  -- more if it is held only after them, and once less if it was held only before.
  adds_up : (role : Role) (before es : List (Event T)) → Each GrantsRight (before ++ es)
      → sum_by (takes role) es + one (held role before) ≡ sum_by (gives role) es + one (held role (before ++ es))
  adds_up role before [] each =
      (let same : one (held role (before ++ [])) ≡ one (held role before) = ap (λ xs. one (held role xs)) (append-nil before) in
      omega arith)
  adds_up role before (e ∷ es) each =
      let longer : (before ++ e ∷ []) ++ es ≡ before ++ e ∷ es = append_assoc before (e ∷ []) es in
      let last : one (held role ((before ++ e ∷ []) ++ es)) ≡ one (held role (before ++ e ∷ es)) = ap (λ xs. one (held role xs)) longer in
      let next : one (held role (before ++ e ∷ [])) ≡ one (role_after role (held role before) e) =
      ap one (fold-append (role_after role) None before (e ∷ [])) in
      omega (
        arith,
        moves role before e (each before es e refl),
        adds_up role (before ++ e ∷ []) es (subst (Each GrantsRight) (sym longer) each),
        sum_first (takes role) e es,
        sum_first (gives role) e es,
      )

  -- A role that was taken as often as it was given back is free.
  pub is_free : (role : Role) (events : List (Event T)) → Each GrantsRight events
      → sum_by (takes role) events ≡ sum_by (gives role) events → held role events ≡ None
  is_free role events each same = (let sum = adds_up role [] events each in nobody (held role events) (omega arith))

-- on an overflowing queue whose producer's role nobody has, at most the capacity waits
pub few_when_free : {T : Type 0} (code : Coding T) (capacity : ℕ) (t : Trace T)
    → IsRun code kinds.Overflow capacity t → producer_of t.events ≡ None → length (waiting t.events) ≤ capacity
few_when_free {T} code capacity t run free =
    let is_sound = sound_of code capacity Overflow t run in
    let nobody_has : is_sound.state.roles.producer ≡ None = sym is_sound.holds.producers ∙ free in
    let few : length is_sound.state.core.waiting ≤ t.world.capacity =
    subst (λ o. Hangs T Overflow t.world.capacity is_sound.state.core (pending is_sound.state.core.read o t.world.latest)) nobody_has is_sound.holds.hangs in
    let long : length (waiting t.events) ≡ length is_sound.state.core.waiting =
    ap length (waiting_is t.events (map Index is_sound.state.core.waiting) is_sound.holds.book) ∙ length-map is_sound.state.core.waiting Index in
    omega (arith, run.sized)

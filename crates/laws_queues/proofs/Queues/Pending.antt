-- The pending push of an overflowing queue, which has published and not acted: which push it is as parties
-- take steps, and how many values wait meanwhile.
use Rattle.laws_queues.proofs.Names.{◌≡◌, ◌≢◌, ℕ, ◌≤◌, ⊎_elim, Option, Some, None, option_map, List, length, refl}
use Rattle.laws_queues.proofs.Names.{sym, ap, subst, ◌∙◌, cases_eq, Party, QueueKind, Coding, cells_of, pending_at}
use Rattle.laws_queues.proofs.Names.{pending, party_of, put, doing_of, flight_of}
use Rattle.std.proofs.Common.{arith}
use Rattle.model.specs.declared.families.queues.QueueKind.TheVariants as kinds
use Rattle.model.proofs.Parties.{party_put_same, party_put_other}
use Rattle.laws_queues.proofs.Queues.Core.{Core, Good}
use Rattle.laws_queues.proofs.Queues.Knows.{Hangs}
use Rattle.laws_queues.proofs.Queues.Values.{Val, encoded}

module _ {T : Type 0} where
  -- a step of a party whose call is no pending push, before or after, leaves the pending push as it was
  pub pending_put :
      (position : ℕ) (pr : Option ℕ) (p : ℕ) (y : Party T) (latest : List (ℕ × Party T)) → pending_at position (flight_of (Some y.doing)) ≡ None
      → pending_at position (flight_of (doing_of (party_of p latest))) ≡ None → pending position pr (put p y latest) ≡ pending position pr latest
  pending_put position None p y latest after before = refl
  pending_put position (Some q) p y latest after before = ⊎_elim mine theirs (cases_eq q p)
    where
      -- the case that the party which took the step holds the producer's role
      mine : q ≡ p → pending position (Some q) (put p y latest) ≡ pending position (Some q) latest
      mine same_party =
          let here : party_of q (put p y latest) ≡ Some y = ap (λ n. party_of n (put p y latest)) same_party ∙ party_put_same p y latest in
          let none : pending_at position (flight_of (doing_of (party_of q (put p y latest)))) ≡ None =
          ap (λ o. pending_at position (flight_of (doing_of o))) here ∙ after in
          let was : pending_at position (flight_of (doing_of (party_of q latest))) ≡ None =
          ap (λ n. pending_at position (flight_of (doing_of (party_of n latest)))) same_party ∙ before in
          ap (option_map (λ (v : ℕ). (q, v))) (none ∙ sym was)

      -- the case that another party holds the producer's role
      theirs : q ≢ p → pending position (Some q) (put p y latest) ≡ pending position (Some q) latest
      theirs ne = ap (λ o. option_map (λ (v : ℕ). (q, v)) (pending_at position (flight_of (doing_of o)))) (party_put_other q p y latest ne)

  -- after a step of the producer, the pending push is its own, if its call is at that stage
  pub pending_here : (position p : ℕ) (y : Party T) (latest : List (ℕ × Party T))
      → pending position (Some p) (put p y latest) ≡ option_map (λ v. (p, v)) (pending_at position (flight_of (Some y.doing)))
  pending_here = grind (arith, option_map, party_put_same)

  -- after a step of the holder of the producer's role, the pending push is its own, if its
  -- call is at that stage
  pub pending_after : (position p : ℕ) (pr : Option ℕ) → pr ≡ Some p → (y : Party T) (latest : List (ℕ × Party T))
      → pending position pr (put p y latest) ≡ option_map (λ v. (p, v)) (pending_at position (flight_of (Some y.doing)))
  pending_after = grind (arith, pending, put, option_map, pending_here)

-- what `Hangs` says of the values that wait holds also of another core with the same values
pub hangs_same : (T : Type 0) (kd : QueueKind) (c : ℕ) (k k' : Core (Val T kd)) {o o' : Option (ℕ × ℕ)}
    → k'.waiting ≡ k.waiting → o' ≡ o → Hangs T kd c k o → Hangs T kd c k' o'
hangs_same T kinds.IndexQueue c k k' same e hangs = tt
hangs_same T kinds.Queue c k k' same e hangs = tt
hangs_same T kinds.Overflow c k k' {o} {o'} same e hangs = subst (Hangs T kinds.Overflow c k') (sym e) (go o hangs)
  where
    -- the cases are whether a push is pending
    go : (o : Option (ℕ × ℕ)) → Hangs T kinds.Overflow c k o → Hangs T kinds.Overflow c k' o
    go None hangs = rw same hangs
    go (Some push) hangs = (hangs.0, hangs.1, same ∙ hangs.2, hangs.3)

-- where no push is pending, at most the capacity waits
pub few_wait : {T : Type 0} → (en : Coding T) (kd : QueueKind) (c : ℕ) (k : Core (Val T kd)) (o : Option (ℕ × ℕ))
    → o ≡ None → Good (encoded en kd).size (encoded en kd).words_of (cells_of kd c) k → Hangs T kd c k o
    → length k.waiting ≤ c
few_wait {T = T} en kinds.IndexQueue c k o e good hangs = good.few
few_wait {T = T} en kinds.Queue c k o e good hangs = good.few
few_wait {T = T} en kinds.Overflow c k o e good hangs = subst (Hangs T kinds.Overflow c k) e hangs

-- where no push is pending and at most the capacity waits, `Hangs` holds
pub none_hangs : (T : Type 0) (kd : QueueKind) (c : ℕ) (k : Core (Val T kd)) (o : Option (ℕ × ℕ)) → o ≡ None → length k.waiting ≤ c → Hangs T kd c k o
none_hangs T kinds.IndexQueue c k o is_none few = tt
none_hangs T kinds.Queue c k o is_none few = tt
none_hangs T kinds.Overflow c k o is_none few = subst (Hangs T kinds.Overflow c k) (sym is_none) few

-- without capacity nothing waits
pub nothing_waits : {T : Type 0}
    → (en : Coding T) (kd : QueueKind) (c : ℕ) {k : Core (Val T kd)} (o : Option (ℕ × ℕ)) → c ≡ 0
    → Good (encoded en kd).size (encoded en kd).words_of (cells_of kd c) k → Hangs T kd c k o → length k.waiting ≡ 0
nothing_waits {T = T} en kinds.IndexQueue c o e good hangs = let few = good.few in omega arith
nothing_waits {T = T} en kinds.Queue c o e good hangs = let few = good.few in omega arith
nothing_waits {T = T} en kinds.Overflow c {k} o e good hangs = go o hangs
  where
    -- the cases are whether a push is pending
    go : (o : Option (ℕ × ℕ)) → Hangs T kinds.Overflow c k o → length k.waiting ≡ 0
    go = grind arith

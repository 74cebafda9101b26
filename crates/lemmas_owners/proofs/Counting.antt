-- Counts of indices, in a call that comes to the indices one after another.
use Rattle.model.proofs.Names.{◌≡◌, ◌≢◌, ℕ, zero, suc, ◌+◌, ◌*◌, ◌<◌, ◌≤◌, ◌==◌, ⊎_elim, if◌then◌else◌, Bool}
use Rattle.model.proofs.Names.{true, false, List, ◌++◌, refl, sym, ap, ◌∙◌, arith, eq-eqb, ne_eqb, cases_eq}
use Rattle.model.specs.declared.event.Event.{Event}
use Rattle.model.proofs.Names.{count_below, HeldThroughout, IsCount, BeginsNone, HeldSometime}
use Rattle.model.proofs.Moments.{held_now}
use Rattle.model.proofs.Moments.{held_later}
use Rattle.lemmas_owners.proofs.Past.{through_less, through_now}

-- where each index takes `each`, those before `index` and that one take no more than all `c` together
pub times_below : (c index each : ℕ) → index < c → index * each + each ≤ c * each
times_below c index each below = grind arith

-- one index adds at most one to a count
one_at_most : (b : Bool) → (if b then 1 else 0) ≤ 1
one_at_most true = omega arith
one_at_most false = omega arith

-- no more indices are counted than there are
pub count_most : (chosen : ℕ → Bool) (n : ℕ) → count_below chosen n ≤ n
count_most chosen zero = omega arith
count_most chosen (suc n) = let one = one_at_most (chosen n) in let rest = count_most chosen n in omega arith

-- two choices that agree below `n` count as many there
count_same : (f g : ℕ → Bool) (n : ℕ) → ((i : ℕ) → i < n → f i ≡ g i) → count_below f n ≡ count_below g n
count_same f g zero same = refl
count_same f g (suc n) same =
    ap (λ b. (if b then 1 else 0) + count_below f n) (same n (omega arith))
    ∙ ap (λ m. (if g n then 1 else 0) + m) (count_same f g n (λ i below. same i (omega arith)))

-- the choice `chosen`, with `b` for the index `k`
abbrev pub chosen_with : (ℕ → Bool) → ℕ → Bool → ℕ → Bool
chosen_with chosen k b i = if i == k then b else chosen i

-- `k` is the index that the count has come to, counted if `b` says so
module _ (chosen : ℕ → Bool) (k : ℕ) (b : Bool) where
  -- the index `k` itself is chosen as `b` says
  pub with_here : chosen_with chosen k b k ≡ b
  with_here = ap (λ z. if z then b else chosen k) (eq-eqb k k refl)

  -- any other index is chosen as before
  pub with_there : (i : ℕ) → i ≢ k → chosen_with chosen k b i ≡ chosen i
  with_there i ne = ap (λ z. if z then b else chosen i) (ne_eqb i k ne)

  -- the count up to the index `k`, with it, is one more if it is chosen
  pub count_with : count_below (chosen_with chosen k b) (suc k) ≡ (if b then 1 else 0) + count_below chosen k
  count_with = grind (arith, count_below, with_here, count_same, with_there)

-- party `p` counts the indices that have `P`
module _ {T : Type 0} (p : ℕ) (P : ℕ → List (Event T) → Type 0) where
  -- before the first index nothing is counted
  pub count_none : (events : List (Event T)) → IsCount p P 0 0 events
  count_none events =
      record { chosen = λ i. false; is = refl; once = λ i below e. absurd (omega arith); through = λ i below h. absurd (omega arith) }

  -- a count is at most the number of indices that it has come to
  pub count_within : (k number : ℕ) (events : List (Event T)) → IsCount p P k number events → number ≤ k
  count_within k number events count = omega (arith, count_most count.chosen k, count.is)

  -- the call has come to `k` indices, and has counted `number` of them
  module _ (k number : ℕ) (events : List (Event T)) (counts : IsCount p P k number events) where
    -- the count is still right after events with which the party begins no call
    pub count_later : (es : List (Event T)) → BeginsNone p es → IsCount p P k number (events ++ es)
    count_later es none =
        record {
          chosen = counts.chosen;
          is = counts.is;
          once = λ i below e. held_later p (P i) events es none (counts.once i below e);
          through = λ i below t. counts.through i below (through_less p (P i) events es none t);
        }

-- The party `p` has come to `k` indices, and has counted `number` of them. The index `k` is counted if `b` says so, which is
-- where `P` holds of it now; `new` is the number with it.
module _ {T : Type 0} {p : ℕ} (P : ℕ → List (Event T) → Type 0) {k number : ℕ} {events : List (Event T)} (counts : IsCount p P k number events)
    (b : Bool) {new : ℕ} (adds : new ≡ (if b then 1 else 0) + number) (once : b ≡ true → P k events) (not : b ≡ false → P k events → ⊥) where
  -- `P` held of each index that is counted at a moment of the call
  pub still_once : (i : ℕ) → i < k + 1 → chosen_with counts.chosen k b i ≡ true → HeldSometime p (P i) events
  still_once i below chosen_here = ⊎_elim here there (cases_eq i k)
    where
      -- if the index `k` itself is counted, `P` held of it at a moment of the call
      here : i ≡ k → HeldSometime p (P i) events
      here same =
          let chose : b ≡ true = sym (with_here counts.chosen k b) ∙ (ap (chosen_with counts.chosen k b) (sym same) ∙ chosen_here) in
          rw same (held_now p (P k) events (once chose))

      -- of another index that is counted, `P` held at a moment of the call
      there : i ≢ k → HeldSometime p (P i) events
      there ne = counts.once i (omega arith) (sym (with_there counts.chosen k b i ne) ∙ chosen_here)

  -- if `P` held of the index `k` throughout the call, it is counted
  chosen_now : (z : Bool) → b ≡ z → HeldThroughout p (P k) events → z ≡ true
  chosen_now true e held_throughout = refl
  chosen_now false e held_throughout = absurd (not e (through_now p (P k) events held_throughout))

  -- an index of which `P` held throughout the call is counted
  pub still_through : (i : ℕ) → i < k + 1 → HeldThroughout p (P i) events → chosen_with counts.chosen k b i ≡ true
  still_through i below held_throughout = let by_chosen_now = chosen_now in grind arith

  -- the count with one index more, which is counted just where `P` holds of it now
  pub count_next : IsCount p P (k + 1) new events
  count_next =
      let next : suc k ≡ k + 1 = omega arith in
      record {
        chosen = chosen_with counts.chosen k b;
        is = ap (count_below (chosen_with counts.chosen k b)) (sym next)
            ∙ (count_with counts.chosen k b ∙ (ap (λ n. (if b then 1 else 0) + n) counts.is ∙ sym adds));
        once = still_once;
        through = still_through;
      }

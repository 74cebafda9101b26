-- From calls that keep ending to lock-freedom: in more steps than the bound a call ends. It also holds of
-- machines as they run, with a number of parties and at most 2^64 - 2 turns.
use Rattle.model.proofs.Names.{AllByRecursion, AreAllowed, AreAllowedOn, AreWithinEnds, Begin, Bound, Decide, Die}
use Rattle.model.proofs.Names.{IsAmong, IsReached, IsReachedOn, KeepsEnding, Kind, List, Next, None, Start, Trace, Turn}
use Rattle.model.proofs.Names.{World, [], after_turn, after_turns, arith, cases_lt, ends, false, is_loan, length, nat_tests, suc, zero}
use Rattle.model.proofs.Names.{refl, refusal_of, steps_in, subst, sym, ℕ, ⊎_elim, ◌+◌, ◌<◌, ◌∙◌, ◌∷◌, ◌≡◌, ◌≤◌}
use Rattle.std.specs.Prelude.{nat_le}
use Rattle.model.specs.declared.turn.Refusal.TheVariants.{AtEnd, NoParty}
use Rattle.model.specs.Refusals.{is_at_end}
use Rattle.model.proofs.Openings.{opened_others}
use Rattle.model.proofs.Reached.{turn_making, kept_by_runs, reached_on_more, reached_on_opening}
use Rattle.model.proofs.Rows.{row_passed, passes}
use Rattle.model.specs.LockFree.{IsLockFree, IsLockFreeOf, IsOneIn, parties_below}
use Rattle.model.specs.LockFree.{KeepsEndingOf, HasLockFreeRuns}
use Rattle.model.specs.Loads.{EndsLoad, EndsLoadRuns}
use Rattle.model.proofs.LockFree.Apart.{below_in}
use Rattle.model.proofs.LockFree.Measure.{worth}

past_none : (parties p : ℕ) → nat_le parties p ≡ false → p < parties
past_none = grind (arith, nat_tests)

-- where no more have ended, there were no more steps than the bound
one_ends : (bound steps before after : ℕ) → AreWithinEnds bound steps before after → bound < steps → before < after
one_ends bound steps before after within many = ⊎_elim (λ less. less) none (cases_lt before after)
  where
    -- If no more calls had ended after than before, the steps would be within the bound.
    none : after ≤ before → before < after
    none le = absurd (omega (arith, worth after before (bound + 1) le))

past_row : (parties p : ℕ) → nat_le parties p ≡ false → IsOneIn (parties_below parties) p
past_row parties p row = below_in parties p (past_none parties p row)

pub length_below : (n : ℕ) → length (parties_below n) ≡ n
length_below zero = refl
length_below (suc n) = omega (arith, length_below n)

module _ {T : Type 0} where
  -- If calls keep ending with this bound, then the kind is lock-free with it.
  pub one_call_ends : (kind : Kind) (bound : Bound) → KeepsEnding T kind bound → IsLockFree T kind bound
  one_call_ends kind bound keeps t is r ps turns allowed below many =
      one_ends (bound (length ps) t.world.capacity t.world.coding.size) (steps_in t turns) (ends t.events) (ends (after_turns t turns).events)
      (keeps t is r ps turns allowed below) many

  -- If calls keep ending with this bound in runs in which `Such` holds of each call that begins,
  -- then the kind is lock-free with it in these runs.
  pub one_call_ends_of : (kind : Kind) (Such : Start T → Type 0) (bound : Bound) → KeepsEndingOf T kind Such bound → IsLockFreeOf T kind Such bound
  one_call_ends_of kind Such bound keeps t is r before ps turns allowed below such many =
      one_ends (bound (length ps) t.world.capacity t.world.coding.size) (steps_in t turns) (ends t.events) (ends (after_turns t turns).events)
      (keeps t is r before ps turns allowed below such) many

  -- ---- machines as they run

  -- A turn that a machine does not refuse is of one of its parties, or a death.
  below_parties : (w : World T) (turn : Turn T) → refusal_of w turn ≡ None → IsAmong (parties_below w.parties) turn
  below_parties w (Begin p start) free = past_row w.parties p (row_passed (nat_le w.parties p) NoParty _ (row_passed (is_at_end w) AtEnd _ free).1).0
  below_parties w (Next p) not_refused = past_row w.parties p (row_passed (nat_le w.parties p) NoParty _ (row_passed (is_at_end w) AtEnd _ not_refused).1).0
  below_parties w (Decide p said) free = past_row w.parties p (row_passed (nat_le w.parties p) NoParty _ (row_passed (is_at_end w) AtEnd _ free).1).0
  below_parties w (Die owner) not_refused = tt

  -- turns that a machine allows are allowed as calls too, and each is of one of its parties
  pub all_allowed : (t : Trace T) (turns : List (Turn T)) (n : ℕ) → t.world.parties ≡ n → AreAllowed t turns
      → AreAllowedOn t turns × AllByRecursion (IsAmong (parties_below n)) turns
  all_allowed t [] n same all = (tt, tt)
  all_allowed t (turn ∷ turns) n same all =
      let rest = all_allowed (after_turn t turn) turns n ((turn_making t.world turn).parties ∙ same) all.1 in
      let here : IsAmong (parties_below n) turn = subst (λ m. IsAmong (parties_below m) turn) same (below_parties t.world turn all.0) in
      (((passes t.world turn all.0).on, rest.0), (here, rest.1))

  -- a machine that is no loan's and that its turns have reached was reached by turns that are allowed as calls
  reached_on : {t : Trace T} → is_loan t.world.kind ≡ false → IsReached t → IsReachedOn t
  reached_on {t} no_loan reached =
      kept_by_runs IsReachedOn (λ u turn e h. reached_on_more u turn (passes u.world turn e).on h) t
      (λ queue queued.
      subst IsReachedOn (sym (opened_others t.world.coding t.world.kind t.world.capacity queue t.world.parties no_loan))
      (reached_on_opening t.world.coding t.world.kind t.world.capacity t.world.parties reached.coded reached.admitted))
      reached

  -- A kind that is lock-free, and no loan channel, is lock-free in its machines as they run.
  pub machines : (kind : Kind) → is_loan kind ≡ false → (bound : Bound) → IsLockFree T kind bound → HasLockFreeRuns T kind bound
  machines kind no_loan bound free t is r turns all many =
      let allowed = all_allowed t turns t.world.parties refl all in
      let none : is_loan t.world.kind ≡ false = subst (λ k. is_loan k ≡ false) (sym is) no_loan in
      free t is (reached_on none r) (parties_below t.world.parties) turns allowed.0 allowed.1 (rw (length_below t.world.parties) many)

  -- A kind whose loads end, and that is no loan channel, ends its loads in its machines as they run.
  pub loads_in_runs : (kind : Kind) → is_loan kind ≡ false → (bound : Bound) → EndsLoad T kind bound → EndsLoadRuns T kind bound
  loads_in_runs kind no_loan bound ends t is r turns all =
      let allowed = all_allowed t turns t.world.parties refl all in
      let none : is_loan t.world.kind ≡ false = subst (λ k. is_loan k ≡ false) (sym is) no_loan in
      rw (length_below t.world.parties) at (ends t is (reached_on none r) (parties_below t.world.parties) turns allowed.0 allowed.1)

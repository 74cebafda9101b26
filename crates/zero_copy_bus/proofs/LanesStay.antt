-- Lists of lanes in which one lane changes, by a seat or by `rejoin`, and every other lane is unchanged.
use Rattle.std.proofs.Common.{◌≡◌, ◌⊎◌, ℕ, zero, suc, ◌+◌, ◌<◌, Some, List, [], ◌∷◌, ◌++◌, map, set}
use Rattle.std.proofs.Common.{refl, sym, ap, subst, ◌∙◌, inl, inr, ⊎_elim, arith}
use Rattle.std.proofs.lemmas.Bool.{cases_eq, cases_lt}
use Rattle.std.specs.Prelude.{slice_get, slice_set}
use Rattle.zero_copy_bus.specs.declared.outlet.Outlet.{Outlet}
use Rattle.zero_copy_bus.specs.Outlets.{AllNew, AtLane, EachLane, EachOther, IsNew, StaysOrLost}
use Rattle.zero_copy_bus.proofs.LaneLemmas.{get_other, get_same, got_within, DoneTo}

-- an unchanged lane stays
pub stays : (lane : Outlet) → StaysOrLost lane lane
stays lane = inl (record { tenancy = refl; passes = record { sends = refl; waits = refl } })

-- unchanged lanes stay
pub all_stay : (lanes : List Outlet) → EachLane StaysOrLost lanes lanes
all_stay lanes place lane is = (lane, is, stays lane)

-- an element of a list with one more at its end is in the list, or is the last
at_end : {X : Type 0} (xs : List X) (x : X) (k : ℕ) (y : X) → slice_get (xs ++ x ∷ []) k ≡ Some y → (slice_get xs k ≡ Some y) ⊎ (x ≡ y)
at_end [] x zero y e = inr (let same : x ≡ y = cc in same)
at_end [] x (suc k) y e = cc
at_end (z ∷ zs) x zero y e = inl e
at_end (z ∷ zs) x (suc k) y e = at_end zs x k y e

-- a new lane appended to new lanes leaves all lanes new
pub new_more : (lanes : List Outlet) (lane : Outlet) → AllNew lanes → IsNew lane → AllNew (lanes ++ lane ∷ [])
new_more lanes lane new is k y got = ⊎_elim (λ there. new k y there) (λ same. subst IsNew same is) (at_end lanes lane k y got)

-- the loop is done with lane n too, if `R` holds of it
pub done_next : (R : Outlet → Outlet → Type 0) (n : ℕ) (olds news : List Outlet) (was now : Outlet) → DoneTo R n olds news
    → slice_get news n ≡ Some was → R was now → DoneTo R (n + 1) olds (set news n now)
done_next R n olds news was now done is step =
    record { done = all; rest = λ k le. get_other news n k now (λ e. absurd (omega arith)) ∙ done.rest k (omega arith) }
  where
    -- each lane up to place n: the cases are whether it is lane n
    all : (k : ℕ) (old : Outlet) → k < n + 1 → slice_get olds k ≡ Some old → (new : Outlet) × (slice_get (set news n now) k ≡ Some new) × R old new
    all k old lt got =
        ⊎_elim (λ e. here k old e got)
        (λ ne. (let it = done.done k old (omega arith) got in (it.0, get_other news n k now (λ e. absurd (omega arith)) ∙ it.1, it.2)))
        (cases_eq k n)
      where
        -- lane n itself
        here : (k : ℕ) (old : Outlet) → k ≡ n → slice_get olds k ≡ Some old → (new : Outlet) × (slice_get (set news n now) k ≡ Some new) × R old new
        here k old e got =
            let old_is : slice_get olds n ≡ Some old = subst (λ j. slice_get olds j ≡ Some old) e got in
            let was_is : slice_get olds n ≡ Some was = sym (done.rest n (omega arith)) ∙ is in
            let same : was ≡ old = cc in (
              now,
              subst (λ j. slice_get (set news n now) j ≡ Some now) (sym e) (get_same news n now (got_within news n was is)),
              subst (λ o. R o now) same step,
            )

-- the lane at place n, where the loop has stopped, changes by `S`
pub at_lane : (R S : Outlet → Outlet → Type 0) (n : ℕ) (olds news : List Outlet) (was now : Outlet) → DoneTo R n olds news
    → slice_get news n ≡ Some was → S was now → AtLane n S olds (set news n now)
at_lane R S n olds news was now done is it =
    (was, now, sym (done.rest n (omega arith)) ∙ is, get_same news n now (got_within news n was is), it)

-- any lane but that at place n: before it the loop has done `R`, behind it nothing has changed
pub each_other : (R : Outlet → Outlet → Type 0) → ((lane : Outlet) → R lane lane) → (n : ℕ) (olds news : List Outlet) (now : Outlet)
    → DoneTo R n olds news → EachOther n R olds (set news n now)
each_other R same n olds news now done k old ne got =
    ⊎_elim (λ lt. (let it = done.done k old lt got in (it.0, get_other news n k now ne ∙ it.1, it.2)))
    (λ le. (old, get_other news n k now ne ∙ (done.rest k le ∙ got), same old)) (cases_lt k n)

-- only the lane at place n has changed
module _ (olds : List Outlet) (n : ℕ) (was now : Outlet) (is : slice_get olds n ≡ Some was) where
  pub at_place : (S : Outlet → Outlet → Type 0) → S was now → AtLane n S olds (set olds n now)
  at_place S it = (was, now, is, get_same olds n now (got_within olds n was is), it)

  pub but_place : EachOther n (λ old new. new ≡ old) olds (set olds n now)
  but_place k old ne got = (old, get_other olds n k now ne ∙ got, refl)

  -- what a list of lanes is mapped to changes where the lane does
  pub map_at : {Y : Type 0} (f : Outlet → Y) (y : Y) → f now ≡ y → map f (set olds n now) ≡ slice_set (map f olds) n y
  map_at f y same = set_map f olds n now ∙ ap (slice_set (map f olds) n) same
    where
      set_map : {Y : Type 0} (f : Outlet → Y) (xs : List Outlet) (k : ℕ) (x : Outlet) → map f (set xs k x) ≡ slice_set (map f xs) k (f x)
      set_map f [] k x = refl
      set_map f (y ∷ ys) zero x = refl
      set_map f (y ∷ ys) (suc k) x = ap (λ zs. f y ∷ zs) (set_map f ys k x)

-- What wrong runs have in common: machines that have written some events, and the moments of a call.
use Rattle.std.proofs.Common.{◌≡◌, ℕ, List, [], ◌∷◌, ◌++◌, refl, sym, subst}
use Rattle.model.specs.declared.event.Event.{Event}
use Rattle.model.specs.declared.event.Event.TheVariants.{Begun}
use Rattle.model.specs.declared.event.Start.{Start}
use Rattle.model.specs.Moments.{HeldSometime, BeginsNone, SinceBegin}
pub use Rattle.model.proofs.Moments.{Stays, throughout}
pub use Rattle.wrong_runs.specs.Made.{machine}
use Rattle.model.proofs.Moments.{so_by_events, so_since}

-- ---- the moments of a call

-- P holds at none of the moments from here on
abbrev pub Never : (List (Event ℕ) → Type 0) → List (Event ℕ) → List (Event ℕ) → Type 0
Never P = Stays (λ part. P part → ⊥)

-- What never holds in these events was held at no moment of the party's call.
pub at_no_moment : (p : ℕ) (P : List (Event ℕ) → Type 0) (events : List (Event ℕ)) → Never P [] events → HeldSometime p P events → ⊥
at_no_moment p P events never held = so_by_events p P events never held

-- Events with a begin of the party's call are not events in which it begins none.
begins_one : (p : ℕ) (start : Start ℕ) (before since : List (Event ℕ)) → BeginsNone p (before ++ Begun p start ∷ since) → ⊥
begins_one p start [] since none = none.0 refl
begins_one p start (Begun q other ∷ before) since none = begins_one p start before since none.1
begins_one p start (e ∷ before) since none = begins_one p start before since none

module _ (p : ℕ) where
  -- Two begins of the party in the same events, behind which it begins nothing, are one begin.
  pub same_begin : (start other : Start ℕ) (before since before' since' : List (Event ℕ))
      → before ++ Begun p start ∷ since ≡ before' ++ Begun p other ∷ since' → BeginsNone p since → BeginsNone p since'
      → (before ≡ before') × (start ≡ other) × (since ≡ since')
  same_begin start other [] since [] since' split none too = (refl, cc, cc)
  same_begin start other [] since (b ∷ before') since' split none too =
      let rest : since ≡ before' ++ Begun p other ∷ since' = cc in
      absurd (begins_one p other before' since' (subst (BeginsNone p) rest none))
  same_begin start other (a ∷ before) since [] since' split none too =
      let rest : since' ≡ before ++ Begun p start ∷ since = cc in
      absurd (begins_one p start before since (subst (BeginsNone p) rest too))
  same_begin start other (a ∷ before) since (b ∷ before') since' split none too =
      let first : a ≡ b = cc in
      let rest : before ++ Begun p start ∷ since ≡ before' ++ Begun p other ∷ since' = cc in
      let same = same_begin start other before since before' since' rest none too in
      (rw (first, same.0) refl, same.1, same.2)

  -- What holds since the party's latest call began holds of the events before that begin and since.
  pub since_is : (start : Start ℕ) {P : List (Event ℕ) → List (Event ℕ) → Type 0} (before since : List (Event ℕ)) → BeginsNone p since
      → SinceBegin p P (before ++ Begun p start ∷ since) → P before since
  since_is start {P} before since none now =
      let same = same_begin start now.start before since now.before now.since now.is none now.within in
      subst (λ b. P b since) (sym same.0) (subst (P now.before) (sym same.2) now.holds)

module _ (p : ℕ) (start : Start ℕ) where
  -- What holds at no moment since the begin of a call held at no moment of the call.
  pub at_none_since : (P : List (Event ℕ) → Type 0) (before since : List (Event ℕ))
      → Never P (before ++ Begun p start ∷ []) since → HeldSometime p P (before ++ Begun p start ∷ since) → ⊥
  at_none_since P before since never held = so_since p start P before since never held

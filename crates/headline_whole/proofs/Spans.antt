-- Small facts about options and tests, and about spans: which call is open, and how one event goes on with it.
use Rattle.std.proofs.Common.{◌≡◌, ◌≢◌, ℕ, ◌==◌, Bool, true, false, Option, Some, None, List, [], ◌∷◌, ◌++◌, if◌then◌else◌, refl, ap, sym, arith}
use Rattle.std.proofs.lemmas.Bool.Decides.{nat_tests}
use Rattle.std.proofs.lemmas.List.Sums.{fold_push}
use Rattle.model.specs.declared.event.Answer.{Answer}
use Rattle.model.specs.declared.event.Event.{Event}
use Rattle.model.specs.declared.event.Start.{Start}
use Rattle.model.specs.Reading.{Span, Never, Open, Ended, is_party, longer, ended, span_after, span_of}
use Rattle.model.specs.Shape.{IsOpenFor}

pub none_some : (p : ℕ) → None ≡ Some p → ⊥
none_some p e = cc

pub same_some : (p q : ℕ) → Some p ≡ Some q → p ≡ q
same_some p q e = cc

pub true_false : (b : Bool) → b ≡ true → b ≡ false → ⊥
true_false b t f = cc

pub if_same : {A : Type 0} (j i : ℕ) (x y : A) → j ≡ i → (if j == i then x else y) ≡ x
if_same j i x y same = let test : (j == i) ≡ true = grind (arith, nat_tests) in rw test refl

pub if_other : {A : Type 0} (j i : ℕ) (x y : A) → j ≢ i → (if j == i then x else y) ≡ y
if_other j i x y apart = let test : (j == i) ≡ false = grind (arith, nat_tests) in rw test refl

-- an option that is no value is None
pub is_none : (o : Option ℕ) → ((x : ℕ) → o ≡ Some x → ⊥) → o ≡ None
is_none None never = refl
is_none (Some x) never = absurd (never x refl)

pub is_false : (b : Bool) → (b ≡ true → ⊥) → b ≡ false
is_false true never = absurd (never refl)
is_false false never = refl

pub is_its : (p : ℕ) (o : Option ℕ) → is_party p o ≡ true → o ≡ Some p
is_its p None t = absurd (cc)
is_its p (Some q) t = let same : q ≡ p = grind (arith, nat_tests) in ap (λ n. Some n) same

pub is_not_its : (p : ℕ) (o : Option ℕ) → is_party p o ≡ false → o ≡ Some p → ⊥
is_not_its p None f same = none_some p same
is_not_its p (Some q) f same =
    let party : q ≡ p = same_some q p same in
    let test : (q == p) ≡ true = grind (arith, nat_tests) in
    true_false (q == p) test f

module _ {T : Type 0} where
  pub same_open : (s t : Start T) (w v : List (Event T)) → Open s w ≡ Open t v → (s ≡ t) × (w ≡ v)
  same_open s t w v e = (cc, cc)

  pub opened : (start : Start T) (P : List (Event T) → Type 0) (span : Span T) → IsOpenFor start P span
      → (w : List (Event T)) × (span ≡ Open start w) × P w
  opened start P (Open call w) h = (w, ap (λ s. Open s w) h.0, h.1)
  opened start P Never h = absurd h
  opened start P (Ended call answer w) h = absurd h

  pub never_open : (span : Span T) (a : Answer T) (s : Start T) (w : List (Event T)) → ended span a ≡ Open s w → ⊥
  never_open Never a s w e = cc
  never_open (Open call v) a s w e = cc
  never_open (Ended call b v) a s w e = cc

  pub longer_open : (span : Span T) (e : Event T) (s : Start T) (w : List (Event T)) → longer span e ≡ Open s w
      → (v : List (Event T)) × (span ≡ Open s v) × (w ≡ v ++ e ∷ [])
  longer_open Never e s w is = absurd (cc)
  longer_open (Open call v) e s w is =
      let parts = same_open call s (v ++ e ∷ []) w is in (v, ap (λ c. Open c v) parts.0, sym parts.1)
  longer_open (Ended call a v) e s w is = absurd (cc)

  pub span_then : (p : ℕ) (before : List (Event T)) (e : Event T) → span_of p (before ++ e ∷ []) ≡ span_after p (span_of p before) e
  span_then p before e = fold_push (span_after p) Never before e

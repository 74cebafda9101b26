-- Where all that was made is known, and no lease has ended, no index was leased twice.
use Rattle.std.proofs.Common.{◌≡◌, ◌≢◌, ⊎_elim, ℕ, ◌+◌, ◌≤◌, ◌==◌, true, false, Option, Some, None, Ok, List, [], ◌∷◌}
use Rattle.std.proofs.Common.{◌++◌, fold, refl, sym, ap, subst, ◌∙◌, append_assoc, arith, sum_by}
use Rattle.uses_programs.proofs.Names.{All, All-nil, sum_by-append, Event, View}
use Rattle.std.specs.List.{AllPairs}
use Rattle.std.proofs.lemmas.Bool.{cases_eq}
use Rattle.std.proofs.lemmas.Bool.Decides.{nat_tests}
use Rattle.std.proofs.lemmas.List.Elements.{All-cons}
use Rattle.std.proofs.lemmas.List.Kept.{AllPairs-cons}
use Rattle.std.proofs.lemmas.List.Sums.{fold-append, sum_by-cons}
use Rattle.model.specs.declared.event.Answer.TheVariants.{Index}
use Rattle.model.specs.declared.event.Start.TheVariants.{Robust, Container}
use Rattle.model.specs.declared.families.container.ContainerStart.TheVariants as containers
use Rattle.model.specs.declared.families.indices.robust.RobustStart.TheVariants.{Acquire}
use Rattle.model.specs.Families.Indices.Robust.Promises.{FreesRight, IsWellFormed, HoldsRight}
use Rattle.model.specs.Families.Indices.Robust.Reading.{holder_after, holder_of}
use Rattle.model.specs.Reading.{Each}
use Rattle.laws_robust.specs.Gone.{Word, gone_after, is_gone, ActsForRight, IsHonest}
use Rattle.lock_free.specs.Event.TheVariants.{Begun, Filled, Granted, FreedOf, Told, Died, Finished}
use Rattle.lock_free.specs.Robust.Contracts.{HasTaken, IsSound}
use Rattle.lock_free.specs.Unique.Held.{one_if, times}
use Rattle.lock_free.proofs.Sums.{sum_made}
use Rattle.lock_free.proofs.Unique.Holding.{times_both, times_one}
use Rattle.uses_programs.specs.Leases.{grants, ends, HasLeased}

-- ---- what a pass has leased

pub leased_none : HasLeased [] []
leased_none = record { granted = λ i. refl; kept = refl }

-- an acquire that is granted an index leases one more
pub leased_more : (v w : View ℕ) (is : List ℕ) (i owner : ℕ) → HasLeased is v.made → HasTaken owner (Ok i) v w
    → HasLeased (is ++ i ∷ []) w.made
leased_more v w is i owner was h = record { granted = granted; kept = kept }
  where
    -- each index was granted as often as it was leased
    granted : (j : ℕ) → sum_by (grants j) w.made ≡ times j (is ++ i ∷ [])
    granted j =
        let a = sum_made (grants j) h.by (Robust (Acquire owner)) (Index i) h.wrote v w h.called in
        let wrote = ap (sum_by (grants j)) h.tells.1 in
        let one : sum_by (grants j) (Filled h.by i owner ∷ Granted h.by i owner ∷ []) ≡ one_if i j = omega arith in
        let old = was.granted j in
        let both = times_both j is (i ∷ []) in
        let more = times_one i j in
        omega arith

    -- no lease has ended
    kept : sum_by ends w.made ≡ 0
    kept =
        let a = sum_made ends h.by (Robust (Acquire owner)) (Index i) h.wrote v w h.called in
        let wrote = ap (sum_by ends) h.tells.1 in
        let none : sum_by ends (Filled h.by i owner ∷ Granted h.by i owner ∷ []) ≡ 0 = refl in
        let old = was.kept in
        omega arith

-- two passes together have leased what both have
pub leased_both : (is others : List ℕ) (mine theirs : List (Event ℕ)) → HasLeased is mine → HasLeased others theirs
    → HasLeased (is ++ others) (mine ++ theirs)
leased_both is others mine theirs one two =
    record {
      granted = λ i. (
          let a = one.granted i in
          let b = two.granted i in
          let both = times_both i is others in
          let c = sum_by-append (grants i) mine theirs in
          omega arith);
      kept = (let a = one.kept in let b = two.kept in let c = sum_by-append ends mine theirs in omega arith);
    }

-- ---- a history in which no lease ended

-- no event of a history in which no lease ended ends one
no_end : (before after : List (Event ℕ)) (e : Event ℕ) → sum_by ends (before ++ e ∷ after) ≡ 0 → (ends e ≡ 0) × (sum_by ends before ≡ 0)
no_end before after e none =
    let a = sum_by-append ends before (e ∷ after) in
    let b = sum_by-cons ends e after in
    (omega arith, omega arith)

-- an event that ends no lease makes no owner gone
stays : (owner : ℕ) (e : Event ℕ) → ends e ≡ 0 → gone_after owner false e ≡ false
stays owner (Died o) none = absurd (omega arith)
stays owner (Told p index o) none = absurd (omega arith)
stays owner (Begun p (Container (containers.Recover o mode))) none = absurd (omega arith)
stays owner e none = refl

-- nobody is gone in a history in which no lease ended
nobody_gone : (owner : ℕ) (es : List (Event ℕ)) → sum_by ends es ≡ 0 → is_gone Word owner es ≡ false
nobody_gone owner [] none = refl
nobody_gone owner (e ∷ es) none =
    let a = sum_by-cons ends e es in
    let rest = nobody_gone owner es (omega arith) in
    ap (λ gone. fold (gone_after owner) gone es) (stays owner e (omega arith)) ∙ rest

frees_right : (before : List (Event ℕ)) (e : Event ℕ) → ends e ≡ 0 → FreesRight before e
frees_right before (FreedOf p index owner) none = absurd (omega arith)
frees_right before e none = tt

-- where nobody is gone, each event that ends no lease acts for an owner as it may
acts_right : (before : List (Event ℕ)) (e : Event ℕ) → ends e ≡ 0 → ((owner : ℕ) → is_gone Word owner before ≡ false) → ActsForRight before e
acts_right before (FreedOf p index owner) none free = absurd (omega arith)
acts_right before (Filled p index owner) none free = free owner
acts_right before (Granted p index owner) none free = free owner
acts_right before (Finished p (Container (containers.Add value owner)) (Index index)) none free = free owner
acts_right before e none free = tt

-- A history in which no lease ended is well-formed.
well_formed : (es : List (Event ℕ)) → sum_by ends es ≡ 0 → IsWellFormed es
well_formed es none before after e is = frees_right before e (no_end before after e (ap (sum_by ends) (sym is) ∙ none)).0

-- A history in which no lease ended is honest.
honest : (es : List (Event ℕ)) → sum_by ends es ≡ 0 → IsHonest es
honest es none before after e is =
    let h = no_end before after e (ap (sum_by ends) (sym is) ∙ none) in
    acts_right before e h.0 (λ owner. nobody_gone owner before h.1)

-- ---- so each index was granted at most once

abbrev held : Option ℕ → ℕ
held None = 0
held (Some owner) = 1

module _ (i : ℕ) where
  -- the event leaves the holder of the index as its holder
  abbrev HoldsOn : List (Event ℕ) → Event ℕ → Type 0
  HoldsOn before e = held (holder_after i (holder_of i before) e) ≡ grants i e + held (holder_of i before)

  -- an event that ends no lease leaves whom the index was granted to as its holder
  holds_on : (before : List (Event ℕ)) (e : Event ℕ) → ends e ≡ 0 → HoldsRight before e → HoldsOn before e
  holds_on before (Granted p index owner) none free = ⊎_elim here there (cases_eq index i)
    where
      -- An index that is granted had no holder before, and now has one.
      here : index ≡ i → HoldsOn before (Granted p index owner)
      here e =
          let t : (index == i) ≡ true = grind (arith, nat_tests) in
          let was : holder_of i before ≡ None = subst (λ n. holder_of n before ≡ None) e free in
          rw (t, was) refl

      there : index ≢ i → HoldsOn before (Granted p index owner)
      there ne = let t : (index == i) ≡ false = grind (arith, nat_tests) in rw t (omega arith)
  holds_on before (FreedOf p index owner) none free = absurd (omega arith)
  holds_on before e none free = omega arith

  -- after a history in which no lease ended an index is granted at most once, and only if nobody holds it
  at_most_once : (before es : List (Event ℕ)) → sum_by ends es ≡ 0 → Each HoldsRight (before ++ es)
      → sum_by (grants i) es + held (holder_of i before) ≤ 1
  at_most_once before [] none each = at_most_one (holder_of i before)
    where
      at_most_one : (o : Option ℕ) → 0 + held o ≤ 1
      at_most_one None = omega arith
      at_most_one (Some owner) = omega arith
  at_most_once before (e ∷ es) none each =
      let a = sum_by-cons ends e es in
      let b = sum_by-cons (grants i) e es in
      let longer : (before ++ e ∷ []) ++ es ≡ before ++ e ∷ es = append_assoc before (e ∷ []) es in
      let here = holds_on before e (omega arith) (each before es e refl) in
      let next : held (holder_of i (before ++ e ∷ [])) ≡ held (holder_after i (holder_of i before) e) =
      ap held (fold-append (holder_after i) None before (e ∷ [])) in
      let rest = at_most_once (before ++ e ∷ []) es (omega arith) (subst (Each HoldsRight) (sym longer) each) in
      omega arith

-- ---- who has leased all

-- what stands in a list at most once stands apart
apart : (xs : List ℕ) → ((i : ℕ) → times i xs ≤ 1) → AllPairs (λ i j. i ≢ j) xs
apart [] few = λ i j d low less. absurd (omega arith)
apart (x ∷ xs) few =
    let here = few x in
    let both = times_both x (x ∷ []) xs in
    let more = times_one x x in
    let t : (x == x) ≡ true = grind (arith, nat_tests) in
    let one : one_if x x ≡ 1 = rw t refl in
    AllPairs-cons (λ i j. i ≢ j) x xs (none xs (omega arith))
    (apart xs (λ i. (let all = few i in let rest = times_both i (x ∷ []) xs in omega arith)))
  where
    -- what stands nowhere in a list is apart from all that do
    none : (ys : List ℕ) → times x ys ≡ 0 → All (λ y. x ≢ y) ys
    none [] zero = All-nil (λ y. x ≢ y)
    none (y ∷ ys) zero =
        let both = times_both x (y ∷ []) ys in
        let first = times_one y x in
        let other : x ≢ y = λ e. (
        let t : (y == x) ≡ true = grind (arith, nat_tests) in
        let one : one_if y x ≡ 1 = rw t refl in
        absurd (omega arith)) in
        All-cons (λ z. x ≢ z) y ys other (none ys (omega arith))

-- where all that was made is known, no index was leased twice
pub leased_apart : (capacity : ℕ) (is : List ℕ) (seen made : List (Event ℕ)) → IsSound capacity seen
    → ((f : Event ℕ → ℕ) → sum_by f seen ≡ sum_by f made) → HasLeased is made → AllPairs (λ i j. i ≢ j) is
leased_apart capacity is seen made sound whole leased =
    let none : sum_by ends seen ≡ 0 = whole ends ∙ leased.kept in
    let each = sound.holds (well_formed seen none) (honest seen none) in
    apart is
    (λ i. (
    let once = at_most_once i [] seen none each in
    let all = whole (grants i) in
    let granted = leased.granted i in
    omega arith))

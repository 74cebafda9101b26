-- What loops over the elements of a container's state have done so far: the numbers that they copied
-- (`numbers_over`), and the values that they showed to a closure (`HasShown`).
use Rattle.std.proofs.Common.{◌≡◌, ℕ, zero, suc, ◌+◌, ◌%◌, ◌≤◌, List, [], ◌∷◌, ◌++◌, length, take, drop, refl, ap, sym, subst, ◌∙◌, inl, inr, arith, add-one}
use Rattle.std.specs.Prelude.{Option, Some, None, slice_get, slice_set}
use Rattle.std.specs.List.{FoldsTo}
use Rattle.std.proofs.lemmas.Fn.{FoldsTo-push}
use Rattle.std.proofs.lemmas.List.{take_all, append-nil}
use denote.Ref.{Bor}
use Rattle.steps.specs.Picks.{by_eq}
use Rattle.steps.specs.Container.State.{value_shown, shown_first, shown_from, at_value, HasShown, numbers_over}
use Rattle.steps.specs.declared.enums.CallbackProgression.{CallbackProgression}
use Rattle.steps.specs.declared.enums.CallbackProgression.TheVariants.{Continue, Stop}
use Rattle.steps.specs.declared.container.state.Element.{Element}

module _ {T : Type 0} where
  -- one element more: its number is written over the one at its index
  numbers_next : (counts : List ℕ) (es : List (Element T)) (i : ℕ) (e : Element T)
      → slice_get es i ≡ Some e
      → numbers_over counts (take (suc i) es)
      ≡ slice_set (numbers_over counts (take i es)) i e.count
  numbers_next counts [] i e at = cc
  numbers_next [] (x ∷ es) zero e at = refl
  numbers_next [] (x ∷ es) (suc i) e at = refl
  numbers_next (n ∷ counts) (x ∷ es) zero e at = let same : x ≡ e = cc in ap (λ (y : Element T). y.count ∷ counts) same
  numbers_next (n ∷ counts) (x ∷ es) (suc i) e at =
      ap (λ r. x.count ∷ r) (numbers_next counts es i e at)

  -- `numbers_next`, with the number of elements written as i + 1
  pub numbers_more : (counts : List ℕ) (es : List (Element T)) (i : ℕ) (e : Element T)
      → slice_get es i ≡ Some e
      → numbers_over counts (take (i + 1) es)
      ≡ slice_set (numbers_over counts (take i es)) i e.count
  numbers_more counts es i e at = rw (add-one) (numbers_next counts es i e at)

  -- a value shown before a list of pairs is shown before a longer list in the same way
  shown_first-append : (shown : Option T) (index : ℕ) (xs ys : List (ℕ × T))
      → shown_first shown index (xs ++ ys) ≡ shown_first shown index xs ++ ys
  shown_first-append None index xs ys = refl
  shown_first-append (Some value) index xs ys = refl

  -- one element more shows what the elements before it show, and then its own value where it shows one
  shown_next : (index : ℕ) (es : List (Element T)) (i : ℕ) (e : Element T)
      → slice_get es i ≡ Some e
      → shown_from index (take (suc i) es)
      ≡ shown_from index (take i es) ++ shown_first (value_shown e) (index + i) []
  shown_next index [] i e at = cc
  shown_next index (x ∷ es) zero e at =
      let same : x ≡ e = cc in
      let here : index + 0 ≡ index = omega arith in
      rw (here, same) refl
  shown_next index (x ∷ es) (suc i) e at =
      let on : index + suc i ≡ index + 1 + i = omega arith in
      rw on
      (ap (shown_first (value_shown x) index) (shown_next (index + 1) es i e at)
      ∙ shown_first-append (value_shown x) index (shown_from (index + 1) (take i es))
      (shown_first (value_shown e) (index + 1 + i) []))

  -- `shown_next` for the elements from the first one on
  shown_more : (es : List (Element T)) (i : ℕ) (e : Element T)
      → slice_get es i ≡ Some e
      → shown_from 0 (take (i + 1) es)
      ≡ shown_from 0 (take i es) ++ shown_first (value_shown e) i []
  shown_more es i e at =
      let here : 0 + i ≡ i = omega arith in
      rw add-one
      (shown_next 0 es i e at
      ∙ ap (λ n. shown_from 0 (take i es) ++ shown_first (value_shown e) n []) here)

  -- what all elements show is what those before one show, then that one, then those behind it
  shown_splits : (index : ℕ) (es : List (Element T)) (i : ℕ) (e : Element T)
      → slice_get es i ≡ Some e
      → shown_from index es
      ≡ shown_from index (take i es)
      ++ shown_first (value_shown e) (index + i) (shown_from (index + i + 1) (drop (suc i) es))
  shown_splits index [] i e at = cc
  shown_splits index (x ∷ es) zero e at =
      let same : x ≡ e = cc in
      let here : index + 0 ≡ index = omega arith in
      rw (here, same) refl
  shown_splits index (x ∷ es) (suc i) e at =
      let on : index + suc i ≡ index + 1 + i = omega arith in
      rw on
      (ap (shown_first (value_shown x) index) (shown_splits (index + 1) es i e at)
      ∙ shown_first-append (value_shown x) index (shown_from (index + 1) (take i es))
      (shown_first (value_shown e) (index + 1 + i)
      (shown_from (index + 1 + i + 1) (drop (suc i) es))))

  -- `shown_splits` for the elements from the first one on
  shown_parts : (es : List (Element T)) (i : ℕ) (e : Element T)
      → slice_get es i ≡ Some e
      → shown_from 0 es
      ≡ shown_from 0 (take i es)
      ++ shown_first (value_shown e) i (shown_from (i + 1) (drop (suc i) es))
  shown_parts es i e at =
      let here : 0 + i ≡ i = omega arith in
      shown_splits 0 es i e at
      ∙ ap (λ n. shown_from 0 (take i es)
      ++ shown_first (value_shown e) n (shown_from (n + 1) (drop (suc i) es))) here

  -- an element with an even number shows no value
  value_even : (e : Element T) → e.count % 2 ≡ 0 → value_shown e ≡ None
  value_even e even =
      by_eq (λ v. v ≡ None) (e.count % 2) 0 None (Some e.value) (λ h. refl)
      (λ no. absurd (no even))

  -- an element with an odd number shows its value
  value_odd : (e : Element T) → e.count % 2 ≡ 1 → value_shown e ≡ Some e.value
  value_odd e odd =
      by_eq (λ v. v ≡ Some e.value) (e.count % 2) 0 None (Some e.value)
      (λ h. absurd (omega arith)) (λ no. refl)

  module _ {F : Type 0} where
    -- the closure's calls stay the same at an element with an even number, which shows no value
    pub folds_even : (R : F → ℕ × T → F → Type 0) (f q : F) (es : List (Element T)) (i : ℕ)
        (e : Element T) → slice_get es i ≡ Some e → e.count % 2 ≡ 0
        → FoldsTo R f (shown_from 0 (take i es)) q
        → FoldsTo R f (shown_from 0 (take (i + 1) es)) q
    folds_even R f q es i e at even calls =
        let more = shown_more es i e at in
        let none = value_even e even in
        let same = more
        ∙ ap (λ v. shown_from 0 (take i es) ++ shown_first v i []) none
        ∙ append-nil (shown_from 0 (take i es)) in
        subst (λ xs. FoldsTo R f xs q) (sym same) calls

    -- the closure is called once more at an element with an odd number, which shows its value
    pub folds_odd : (R : F → ℕ × T → F → Type 0) (f q h : F) (es : List (Element T)) (i : ℕ)
        (e : Element T) → slice_get es i ≡ Some e → e.count % 2 ≡ 1
        → FoldsTo R f (shown_from 0 (take i es)) q → R q (i, e.value) h
        → FoldsTo R f (shown_from 0 (take (i + 1) es)) h
    folds_odd R f q h es i e at odd calls call =
        let same = shown_more es i e at
        ∙ ap (λ v. shown_from 0 (take i es) ++ shown_first v i []) (value_odd e odd) in
        subst (λ xs. FoldsTo R f xs h) (sym same)
        (FoldsTo-push R f (shown_from 0 (take i es)) q (i, e.value) h calls call)

    -- a call of the closure with a reference to the value is a call at that value
    pub called_at : (R : F → ℕ → Bor T → CallbackProgression → F → Type 0) (p : F) (i : ℕ)
        (r : Bor T) (said : CallbackProgression) (q : F) (value : T) (s : CallbackProgression)
        → R p i r said q → said ≡ s → r.now ≡ value → at_value R p (i, value) s q
    called_at R p i r said q value s call is same =
        (r, subst (λ z. R p i r z q) is call, same)

    -- A loop calls the closure with the value of each element that is shown. It has come to element `i`, and the closure is `q`.
    module _ (step : F → ℕ × T → CallbackProgression → F → Type 0) (f q : F)
        (es : List (Element T)) (i : ℕ) where
      -- where the loop is past the last element, the closure was called for each value that is shown
      pub shown_all : length es ≤ i
          → FoldsTo (λ p x r. step p x Continue r) f (shown_from 0 (take i es)) q
          → HasShown step (shown_from 0 es) f
      shown_all past calls =
          record {
            before = shown_from 0 (take i es);
            now = q;
            calls = calls;
            ended = inl (ap (shown_from 0) (take_all i es past));
          }

      -- the call at an element that shows its value answered Stop, and was the last
      pub shown_stopped : (e : Element T) (last : F) → slice_get es i ≡ Some e
          → e.count % 2 ≡ 1
          → FoldsTo (λ p x r. step p x Continue r) f (shown_from 0 (take i es)) q
          → step q (i, e.value) Stop last → HasShown step (shown_from 0 es) f
      shown_stopped e last at odd calls call =
          let rest = shown_from (i + 1) (drop (suc i) es) in
          let parts = shown_parts es i e at
          ∙ ap (λ v. shown_from 0 (take i es) ++ shown_first v i rest) (value_odd e odd) in
          record {
            before = shown_from 0 (take i es);
            now = q;
            calls = calls;
            ended = inr ((i, e.value), rest, last, parts, call);
          }

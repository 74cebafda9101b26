-- Whether a pass has a state is decided by its numbers and the words of its values.
use Rattle.lock_free_owners.proofs.Names.{◌≡◌, ◌⊎◌, inl, inr, ℕ, Option, Some, None, List, [], ◌∷◌, refl, sym, ap}
use Rattle.lock_free_owners.proofs.Names.{◌∙◌, Numbers, Showing, ContainerState, UpdateState, Coding, IsCoding, View}
use Rattle.lock_free_owners.proofs.Names.{state_of_look, BeginsWith}
use Rattle.std.proofs.lemmas.Bool.{cases_eq}
use Rattle.steps.specs.declared.container.state.Element.{Element}

-- the fact holds, or it does not: a proof of one of the two
abbrev pub Decided : Type 0 → Type 0
Decided A = A ⊎ (A → ⊥)

-- If two claims are decided, both together are.
both : {A B : Type 0} → Decided A → Decided B → Decided (A × B)
both (inl a) (inl b) = inl (a, b)
both (inl a) (inr other) = inr (λ x. other x.1)
both (inr other) b = inr (λ x. other x.0)

-- A claim that holds just where a decided one does is decided.
alike : {A B : Type 0} → (A → B) → (B → A) → Decided A → Decided B
alike there back (inl a) = inl (there a)
alike there back (inr other) = inr (λ b. other (back b))

module _ {A : Type 0} (same : (x y : A) → Decided (x ≡ y)) where
  -- Equal lists have equal first elements.
  first_of : (x y : A) (xs ys : List A) → x ∷ xs ≡ y ∷ ys → x ≡ y
  first_of x y xs ys e = cc

  -- Equal lists have equal rests.
  rest_of : (x y : A) (xs ys : List A) → x ∷ xs ≡ y ∷ ys → xs ≡ ys
  rest_of x y xs ys e = cc

  -- whether two lists are the same is decided if it is for two elements
  same_list : (xs ys : List A) → Decided (xs ≡ ys)
  same_list [] [] = inl refl
  same_list [] (y ∷ ys) = inr (λ e. absurd (cc))
  same_list (x ∷ xs) [] = inr (λ e. absurd (cc))
  same_list (x ∷ xs) (y ∷ ys) =
      alike (λ (e : (x ≡ y) × (xs ≡ ys)). λ i. e.0 i ∷ e.1 i) (λ e. (first_of x y xs ys e, rest_of x y xs ys e)) (both (same x y) (same_list xs ys))

-- Whether two lists of numbers are equal is decided.
same_numbers : (x y : List ℕ) → Decided (x ≡ y)
same_numbers = same_list (λ x y. cases_eq x y)

-- whether two lists of seen numbers are equal is decided
same_seen : (x y : Numbers) → Decided (x ≡ y)
same_seen x y =
    alike (λ (e : (x.change ≡ y.change) × (x.counts ≡ y.counts)). λ i. record { change = e.0 i; counts = e.1 i })
    (λ e. (ap (λ (z : Numbers). z.change) e, ap (λ (z : Numbers). z.counts) e))
    (both (cases_eq x.change y.change) (same_numbers x.counts y.counts))

module _ {T : Type 0} (code : Coding T) (law : IsCoding code) where
  -- Whether two values are equal is decided by their words.
  same_value : (x y : T) → Decided (x ≡ y)
  same_value x y =
      alike (λ e. sym (law.given_back x) ∙ (ap code.value_of e ∙ law.given_back y)) (λ e. ap code.words_of e)
      (same_numbers (code.words_of x) (code.words_of y))

  -- whether two elements are equal is decided, since the words of a value tell which value it is
  same_element : (x y : Element T) → Decided (x ≡ y)
  same_element x y =
      alike (λ (e : (x.count ≡ y.count) × (x.value ≡ y.value)). λ i. record { count = e.0 i; value = e.1 i })
      (λ e. (ap (λ (z : Element T). z.count) e, ap (λ (z : Element T). z.value) e))
      (both (cases_eq x.count y.count) (same_value x.value y.value))

  -- whether two sets of shown elements are the same is decided
  same_shown : (x y : Showing T) → Decided (x ≡ y)
  same_shown x y =
      alike (λ (e : (x.change ≡ y.change) × ((x.elements ≡ y.elements) × (x.copy ≡ y.copy))).
      λ i. record { change = e.0 i; elements = e.1.0 i; copy = e.1.1 i })
      (λ e. (ap (λ (z : Showing T). z.change) e, (ap (λ (z : Showing T). z.elements) e, ap (λ (z : Showing T). z.copy) e)))
      (both (cases_eq x.change y.change) (both (same_list same_element x.elements y.elements) (same_numbers x.copy y.copy)))

  -- whether two states are the same is decided
  same_state : (x y : ContainerState T) → Decided (x ≡ y)
  same_state x y =
      alike (λ (e : ((x.container ≡ y.container) × (x.capacity ≡ y.capacity)) × ((x.seen ≡ y.seen) × (x.shown ≡ y.shown))).
      λ i. record { container = e.0.0 i; capacity = e.0.1 i; seen = e.1.0 i; shown = e.1.1 i })
      (λ e. (
        (ap (λ (z : ContainerState T). z.container) e, ap (λ (z : ContainerState T). z.capacity) e),
        (ap (λ (z : ContainerState T). z.seen) e, ap (λ (z : ContainerState T). z.shown) e),
      ))
      (both (both (cases_eq x.container y.container) (cases_eq x.capacity y.capacity)) (both (same_seen x.seen y.seen) (same_shown x.shown y.shown)))

  -- the party of the view has this state, or not
  pub decide : (base : View T) (cells : ℕ) (seen : Numbers) (m : Showing T) → Decided (BeginsWith code UpdateState cells seen UpdateState base m)
  decide base cells seen m = go base.party base.state refl refl
    where
      Has : Type 0
      Has = BeginsWith code UpdateState cells seen UpdateState base m

      -- if the party has a state, it is decided whether it is the one that the look was given
      by_state : (p : ℕ) (s : ContainerState T) → base.party ≡ Some p → base.state ≡ Some s → Decided (s ≡ state_of_look cells seen m) → Decided Has
      by_state p s mine is (inl same) = inl (p, mine, is ∙ ap Some same)
      by_state p s mine is (inr other) =
          inr (λ h. (let both_are : ◌≡◌ {A = Option (ContainerState T)} (Some s) (Some (state_of_look cells seen m)) = sym is ∙ h.2 in
          other (inside s _ both_are)))
        where
          -- Equal options have equal states.
          inside : (x y : ContainerState T) → ◌≡◌ {A = Option (ContainerState T)} (Some x) (Some y) → x ≡ y
          inside x y e = cc

      -- the cases are whether the pass has been a party, and whether it has a state
      go : (party : Option ℕ) (state : Option (ContainerState T)) → base.party ≡ party → base.state ≡ state → Decided Has
      go None state mine is = inr (λ h. (let other : ◌≡◌ {A = Option ℕ} None (Some h.0) = sym mine ∙ h.1 in absurd (cc)))
      go (Some p) None mine is =
          inr (λ h. (let other : ◌≡◌ {A = Option (ContainerState T)} None (Some (state_of_look cells seen m)) = sym is ∙ h.2 in absurd (cc)))
      go (Some p) (Some s) mine is = by_state p s mine is (same_state s (state_of_look cells seen m))

-- The number of a place and the way of a party's call after a list of marks, and that marks which are right
-- for a history can be cut with it and put together.
use Rattle.history.proofs.Names.{◌≡◌, ◌≢◌, ℕ, ◌==◌, ◌&&◌, Bool, true, false, cond, Some, None, List, [], ◌∷◌}
use Rattle.history.proofs.Names.{◌++◌, refl, sym, ap, ◌∙◌, arith, nat_tests}
use Rattle.model.specs.declared.event.Event.{Event}
use Rattle.model.specs.declared.event.Event.TheVariants.{Begun, Finished}
use Rattle.model.specs.declared.event.Start.{Start}
use Rattle.history.proofs.Names.{BeginsNone}
use Rattle.model.specs.declared.turn.Kind.{Kind}
use Rattle.history_bits.specs.Acts.{Mark, Happens, Leaves, left_by, told, does, number_after, Way, MayAct, found_now, way_after, IsRight}
use Rattle.history.proofs.Numbers.{same_number, other_number, is_number, no_number}

-- ---- tests

-- if both hold together, each holds
pub both_true : (x y : Bool) → (x && y) ≡ true → (x ≡ true) × (y ≡ true)
both_true = grind arith

module _ {T : Type 0} where
  -- ---- what marks come to

  -- the number of place b after these marks, where it was n before
  abbrev pub number_at : ℕ → ℕ → List (Mark T) → ℕ
  number_at b n [] = n
  number_at b n (Happens e ∷ ms) = number_at b (number_after b n e) ms
  number_at b n (Leaves q c ∷ ms) = number_at b n ms

  -- where party p's call stands at place b after these marks
  abbrev pub way_at : ℕ → ℕ → ℕ → Way T → List (Mark T) → Way T
  way_at p b n way [] = way
  way_at p b n way (Happens e ∷ ms) = way_at p b (number_after b n e) (way_after p b n way e) ms
  way_at p b n way (Leaves q c ∷ ms) = way_at p b n (cond (q == p && c == b) (found_now n way) way) ms

  -- the number of place b after these events, without silent acts
  abbrev pub number_in : ℕ → ℕ → List (Event T) → ℕ
  number_in b n [] = n
  number_in b n (e ∷ es) = number_in b (number_after b n e) es

  -- where party p's call stands at place b after these events, without silent acts
  abbrev pub way_in : ℕ → ℕ → ℕ → Way T → List (Event T) → Way T
  way_in p b n way [] = way
  way_in p b n way (e ∷ es) = way_in p b (number_after b n e) (way_after p b n way e) es

  -- silent acts leave the number of a place
  pub number_told : (b n : ℕ) (ms : List (Mark T)) → number_at b n ms ≡ number_in b n (told ms)
  number_told b n [] = refl
  number_told b n (Happens e ∷ ms) = number_told b (number_after b n e) ms
  number_told b n (Leaves q c ∷ ms) = number_told b n ms

  -- the way after two lists of marks is that after the second, from the way and the number after the first
  pub way_at_more : (p b n : ℕ) (way : Way T) (ms ns : List (Mark T)) → way_at p b n way (ms ++ ns) ≡ way_at p b (number_at b n ms) (way_at p b n way ms) ns
  way_at_more p b n way [] ns = refl
  way_at_more p b n way (Happens e ∷ ms) ns = way_at_more p b (number_after b n e) (way_after p b n way e) ms ns
  way_at_more p b n way (Leaves q c ∷ ms) ns = way_at_more p b n (cond (q == p && c == b) (found_now n way) way) ms ns

  -- the number after two lists of events is that after the second, from the number after the first
  pub number_more : (b n : ℕ) (xs ys : List (Event T)) → number_in b n (xs ++ ys) ≡ number_in b (number_in b n xs) ys
  number_more b n [] ys = refl
  number_more b n (x ∷ xs) ys = number_more b (number_after b n x) xs ys

  -- the way after two lists of events is that after the second, from the way and the number after the first
  pub way_more : (p b n : ℕ) (way : Way T) (xs ys : List (Event T)) → way_in p b n way (xs ++ ys) ≡ way_in p b (number_in b n xs) (way_in p b n way xs) ys
  way_more p b n way [] ys = refl
  way_more p b n way (x ∷ xs) ys = way_more p b (number_after b n x) (way_after p b n way x) xs ys

  -- the history of two lists of marks is the history of the first, and then that of the second
  pub told_more : (ms ns : List (Mark T)) → told (ms ++ ns) ≡ told ms ++ told ns
  told_more [] ns = refl
  told_more (Happens e ∷ ms) ns = ap (λ es. e ∷ es) (told_more ms ns)
  told_more (Leaves q c ∷ ms) ns = told_more ms ns

  -- the marks of a history that is cut in two are cut at the same event
  pub record Cut (ms : List (Mark T)) (xs ys : List (Event T)) : Type 0 where
    pub first : List (Mark T)
    pub second : List (Mark T)
    pub is : ms ≡ first ++ second
    pub first_told : told first ≡ xs
    pub second_told : told second ≡ ys

  -- where a history is cut in two, its marks can be cut into those of the first part and those of the second
  pub cut : (ms : List (Mark T)) (xs : List (Event T)) {ys : List (Event T)} → told ms ≡ xs ++ ys → Cut ms xs ys
  cut ms [] told_is = record { first = []; second = ms; is = refl; first_told = refl; second_told = told_is }
  cut [] (x ∷ xs) told_is = absurd (cc)
  -- the first mark is the first event, so it belongs to the first part
  cut (Happens f ∷ ms) (x ∷ xs) {ys} told_is =
      let head : f ≡ x = cc in
      let tail : told ms ≡ xs ++ ys = cc in
      let more = cut ms xs tail in
      record {
        first = Happens f ∷ more.first;
        second = more.second;
        is = ap (λ ns. Happens f ∷ ns) more.is;
        first_told = rw (head, more.first_told) refl;
        second_told = more.second_told;
      }
  -- the first mark is a silent act, which belongs to the first part
  cut (Leaves q c ∷ ms) (x ∷ xs) {ys} told_is =
      let more = cut ms (x ∷ xs) told_is in
      record {
        first = Leaves q c ∷ more.first;
        second = more.second;
        is = ap (λ ns. Leaves q c ∷ ns) more.is;
        first_told = more.first_told;
        second_told = more.second_told;
      }

module _ {T : Type 0} (kind : Kind) (capacity : ℕ) (Sure : ℕ → Type 0) where
  -- the marks are right for party p and place b, from this number and this way on
  abbrev pub Right : ℕ → ℕ → ℕ → Way T → List (Mark T) → Type 0
  Right p b n way ms = IsRight kind capacity (Sure b) p b n way ms

  -- marks that are right, and more that are right after them, are right together
  pub right_more : (p b n : ℕ) (way : Way T) (ms ns : List (Mark T)) → Right p b n way ms
      → Right p b (number_at b n ms) (way_at p b n way ms) ns → Right p b n way (ms ++ ns)
  right_more p b n way [] ns first_right second_right = second_right
  right_more p b n way (Happens e ∷ ms) ns first_right second_right =
      (first_right.0, right_more p b (number_after b n e) (way_after p b n way e) ms ns first_right.1 second_right)
  right_more p b n way (Leaves q c ∷ ms) ns first_right second_right =
      (first_right.0, right_more p b n (cond (q == p && c == b) (found_now n way) way) ms ns first_right.1 second_right)

  -- of marks that are right, the first ones are right
  right_first : (p b n : ℕ) (way : Way T) (ms ns : List (Mark T)) → Right p b n way (ms ++ ns) → Right p b n way ms
  right_first p b n way [] ns right = tt
  right_first p b n way (Happens e ∷ ms) ns right = (right.0, right_first p b (number_after b n e) (way_after p b n way e) ms ns right.1)
  right_first p b n way (Leaves q c ∷ ms) ns right = (right.0, right_first p b n (cond (q == p && c == b) (found_now n way) way) ms ns right.1)

  -- of marks that are right, the later ones are right after the first ones
  right_second : (p b n : ℕ) (way : Way T) (ms ns : List (Mark T)) → Right p b n way (ms ++ ns) → Right p b (number_at b n ms) (way_at p b n way ms) ns
  right_second p b n way [] ns right = right
  right_second p b n way (Happens e ∷ ms) ns right = right_second p b (number_after b n e) (way_after p b n way e) ms ns right.1
  right_second p b n way (Leaves q c ∷ ms) ns right = right_second p b n (cond (q == p && c == b) (found_now n way) way) ms ns right.1

  -- ---- a silent act of another party or on another place

  -- p and b are the party and the place of the silent act, q and c others
  module _ (p b q c : ℕ) (t : (p == q && b == c) ≡ false) where
    -- the silent act of another party or on another place leaves marks right
    leaf_right : (n : ℕ) (way : Way T) (ms : List (Mark T)) → Right q c n way ms → Right q c n way (Leaves p b ∷ ms)
    leaf_right n way ms right = ((λ e. absurd (cc)), rw t right)

    -- the silent act of another party or on another place leaves the way
    leaf_way : (n : ℕ) (way : Way T) (ms : List (Mark T)) → way_at q c n way (Leaves p b ∷ ms) ≡ way_at q c n way ms
    leaf_way n way ms = rw t refl

    -- such a silent act can be put between right marks
    pub put_else : (n : ℕ) (way : Way T) (ms ns : List (Mark T)) → Right q c n way (ms ++ ns) → Right q c n way (ms ++ Leaves p b ∷ ns)
    put_else = grind (arith, right_more, right_first, leaf_right, right_second)

    -- such a silent act between marks leaves the way after them
    pub way_else : (n : ℕ) (way : Way T) (ms ns : List (Mark T)) → way_at q c n way (ms ++ Leaves p b ∷ ns) ≡ way_at q c n way (ms ++ ns)
    way_else = grind (arith, way_at_more, leaf_way)

  -- ---- a silent act of this party on this place: where its call has not acted there later, neither had it before

  module _ (p b : ℕ) (start : Start T) where
    -- the call had not acted on the place before these marks; whatever the way, they are right and leave it
    pub record Quiet (n : ℕ) (way : Way T) (ms : List (Mark T)) : Type 0 where
      -- the call had not acted on the place
      pub was : way ≡ Some (start, None)
      -- the marks are right whatever the way, and leave it
      pub right : (other : Way T) → Right p b n other ms
      pub stays : (other : Way T) → way_at p b n other ms ≡ other

    -- a call that has found a number at its place is not one that has not acted
    some_not : (n : ℕ) (way : Way T) → found_now n way ≡ Some (start, None) → ⊥
    some_not = grind arith

    -- a way that has found nothing after an act that might be another's is the way before it
    by_test : (t : Bool) (n : ℕ) (way : Way T) → cond t (found_now n way) way ≡ Some (start, None) → (t ≡ false) × (way ≡ Some (start, None))
    by_test true n way leads = absurd (some_not n way leads)
    by_test false n way leads = (refl, leads)

    -- where the party's call has not acted on the place after some marks in which the party begins
    -- none, it had not before them, and they leave each way right and as it is
    pub quiet : (n : ℕ) (way : Way T) (ms : List (Mark T)) → way_at p b n way ms ≡ Some (start, None) → BeginsNone p (told ms) → Quiet n way ms
    quiet n way [] way_is none = record { was = way_is; right = λ other. tt; stays = λ other. refl }
    quiet n way (Leaves q c ∷ ms) way_is none =
        let more = quiet n (cond (q == p && c == b) (found_now n way) way) ms way_is none in
        let test = by_test (q == p && c == b) n way more.was in
        let tests_apart : (q == p && c == b) ≡ false = test.0 in
        record {
          was = test.1;
          right = λ other. ((λ yes. absurd (cc)), more.right (cond (q == p && c == b) (found_now n other) other));
          stays = λ other. more.stays (cond (q == p && c == b) (found_now n other) other) ∙ ap (λ z. cond z (found_now n other) other) tests_apart;
        }
    quiet n way (Happens (Begun q s) ∷ ms) way_is none =
        let tests_apart : (q == p) ≡ false = other_number q p none.0 in
        let more = quiet n (cond (q == p) (Some (s, None)) way) ms way_is none.1 in
        record {
          was = sym (ap (λ z. cond z (Some (s, None)) way) tests_apart) ∙ more.was;
          right = λ other. ((λ same. absurd (none.0 same)), more.right (cond (q == p) (Some (s, None)) other));
          stays = λ other. more.stays (cond (q == p) (Some (s, None)) other) ∙ ap (λ z. cond z (Some (s, None)) other) tests_apart;
        }
    quiet n way (Happens (Finished q s a) ∷ ms) way_is none = go (q == p) refl (quiet n (cond (q == p) None way) ms way_is none)
      where
        -- whether the end is of this party's call or of another's, the party's call had not acted
        -- on the place before it, and all stays right
        go : (z : Bool) → (q == p) ≡ z → Quiet n (cond (q == p) None way) ms → Quiet n way (Happens (Finished q s a) ∷ ms)
        go true test_is more = grind (arith, cond)
        go false test_is more = grind (arith, cond, no_number)
    quiet n way (Happens f ∷ ms) way_is none =
        let more = quiet (number_after b n f) (cond (does p b f) (found_now n way) way) ms way_is none in
        let test = by_test (does p b f) n way more.was in
        let t : does p b f ≡ false = test.0 in
        record {
          was = test.1;
          right = λ other. ((λ yes. absurd (cc)), more.right (cond (does p b f) (found_now n other) other));
          stays = λ other. more.stays (cond (does p b f) (found_now n other) other) ∙ ap (λ z. cond z (found_now n other) other) t;
        }

    -- a silent act of the call can be put between `ms` and `ns`: both together are right, the call has found nothing on the
    -- place by their end and began before `ns`, and the act leaves the number that the place has behind `ms`
    pub record PutHere (ms ns : List (Mark T)) : Type 0 where
      pub right : Right p b 0 None (ms ++ ns)
      pub late : way_at p b 0 None (ms ++ ns) ≡ Some (start, None)
      pub none : BeginsNone p (told ns)
      pub may : MayAct b start
      pub left : number_at b 0 ms ≡ left_by kind start (number_at b 0 ms)

    module _ {ms ns : List (Mark T)} (fits : PutHere ms ns) where
      open fits use {right, late, none, may, left}

      -- the number of the place at the silent act
      abbrev n : ℕ
      n = number_at b 0 ms

      -- the marks behind the silent act leave the way
      calm : Quiet n (way_at p b 0 None ms) ns
      calm = grind (arith, quiet, way_at_more)

      -- the act is of this party, on this place
      here : (p == p && b == b) ≡ true
      here = rw (same_number p, same_number b) refl

      -- with the silent act between them the marks are right
      pub put_here : Right p b 0 None (ms ++ Leaves p b ∷ ns)
      put_here = grind (arith, right_more, right_first, calm, cond, found_now)

      -- with the silent act between them the call has found the number there
      pub way_here : way_at p b 0 None (ms ++ Leaves p b ∷ ns) ≡ Some (start, Some n)
      way_here = grind (arith, way_at_more, calm, cond, found_now, here)

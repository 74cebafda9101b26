-- What the seats of a table have asked for (`HaveAsked`), through each operation, split and join: each
-- operation is a step of the run, or aside.
use Rattle.history.proofs.Names.{◌≡◌, ◌≢◌, ◌⊎◌, inl, inr, ⊎_elim, ℕ, zero, suc, ◌+◌, ◌*◌, ◌<◌, ◌≤◌, List, [], ◌∷◌, ◌++◌, length, set, refl, sym, ap, subst, ◌∙◌}
use Rattle.history.proofs.Names.{arith, sum_by, sum_by-cons, at_set, Shares, IsAll, Turn, Begin, Next}
use Rattle.history.proofs.Names.{Decide, Trace, Option, Some, None, Ask, Start, set_else}
use mathlib.Core.Option.{some, some-injective, some-ne-none}
use lib.ListN.{get_elem?}
use Rattle.std.proofs.Math.Nat.{mul-le-mul_left}
use Rattle.model.specs.LockFree.{steps_of as turn_steps, steps_in as run_steps}
use Rattle.model.specs.Turns.{after_turn, after_turns, step_count}
use Rattle.threaded.specs.declared.share.Share.{Share}
use Rattle.threaded.specs.Shares.{half_of, tally}
use Rattle.threaded.proofs.Shares.{others_none, at_below, positive}
use Rattle.history.specs.declared.view.View.{View}
use Rattle.history.specs.History.{IsPart, HasAsked, HaveAsked, nexts}
use Rattle.history.specs.Views.{first_view, joined_view, spent_view}
use Rattle.model.specs.declared.turn.Turn.TheVariants.{Die}
use Rattle.history.proofs.Known.{nat_cases}

module _ {A : Type 0} where
  -- the sum over a list, after one element was replaced
  pub sum_set : (f : A → ℕ) (xs : List A) (i : ℕ) (x y : A) → get_elem? xs i ≡ some x → sum_by f (set xs i y) + f x ≡ sum_by f xs + f y
  sum_set f [] i x y there_is = absurd (some-ne-none x (sym there_is))
  sum_set f (z ∷ zs) zero x y there_is =
      let here : f z ≡ f x = ap f (some-injective z x there_is) in
      omega (arith, sum_by-cons f y zs, sum_by-cons f z zs)
  sum_set f (z ∷ zs) (suc i) x y there_is = omega (arith, sum_set f zs i x y there_is, sum_by-cons f z (set zs i y), sum_by-cons f z zs)

  -- a sum of smaller numbers is at most the sum
  sum_most : (f g : A → ℕ) (xs : List A) → ((j : ℕ) (x : A) → get_elem? xs j ≡ some x → f x ≤ g x) → sum_by f xs ≤ sum_by g xs
  sum_most f g [] each = omega arith
  sum_most f g (z ∷ zs) each =
      omega (arith, each zero z refl, sum_most f g zs (λ j x at. each (suc j) x at), sum_by-cons f z zs, sum_by-cons g z zs)

  -- where every other element has at most as much of f as of g, the sum of f exceeds that of g by at most
  -- what this element has more
  sum_rest : (f g : A → ℕ) (xs : List A) (i : ℕ) (x : A) → get_elem? xs i ≡ some x
      → ((j : ℕ) (y : A) → j ≢ i → get_elem? xs j ≡ some y → f y ≤ g y) → sum_by f xs + g x ≤ sum_by g xs + f x
  sum_rest f g [] i x there_is each = absurd (some-ne-none x (sym there_is))
  sum_rest f g (z ∷ zs) zero x there_is each =
      let one : f z ≡ f x = ap f (some-injective z x there_is) in
      let two : g z ≡ g x = ap g (some-injective z x there_is) in
      let more = sum_most f g zs (λ j y there. each (suc j) y (λ e. absurd (omega arith)) there) in
      omega (arith, sum_by-cons f z zs, sum_by-cons g z zs)
  sum_rest f g (z ∷ zs) (suc i) x there_is each =
      let here = each zero z (λ e. absurd (omega arith)) refl in
      let more = sum_rest f g zs i x there_is (λ j y ne there. each (suc j) y (λ e. ne (let same : j ≡ i = omega arith in same)) there) in
      omega (arith, sum_by-cons f z zs, sum_by-cons g z zs)

-- a number is at most the sum of all of them
at_most_all : (k : ℕ → ℕ) (n i : ℕ) → i < n → k i ≤ tally k n
at_most_all k zero i low = absurd (omega arith)
at_most_all k (suc n) i low =
    ⊎_elim (λ (past : n ≤ i). (let same : i ≡ n = omega arith in let here : k i ≡ k n = ap k same in omega arith))
    (λ (low' : i < n). omega (arith, at_most_all k n i low')) (nat_cases n i)

-- a product with the same positive factor on both sides may be divided by it
no_more_than : (a b n : ℕ) → 0 < n → a * n ≤ b * n → a ≤ b
no_more_than zero b n any le = omega arith
no_more_than (suc a) zero n any le = absurd (omega arith)
no_more_than (suc a) (suc b) n any le = let less : a * n ≤ b * n = omega arith in omega (arith, no_more_than a b n any less)

-- half of a part of the whole share is a part of it
half_part : (s : Share) → IsPart s → IsPart (half_of s)
half_part s part = (omega (arith, part.0), omega (arith, part.1))

-- if half of a share is the whole share, the share was the whole one
no_half : (s : Share) → IsPart s → IsAll (half_of s) → s.part ≡ s.parts
no_half s is_part whole = (let is : s.part ≡ s.parts + s.parts = whole in absurd (omega (arith, is_part.0, is_part.1)))

-- what the seat has asked for
abbrev asked_of : {T : Type 0} → View T → ℕ
asked_of v = v.asked

-- what the seat has aside
abbrev aside_of : {T : Type 0} → View T → ℕ
aside_of v = v.aside

module _ {T : Type 0} where
  -- the share of a seat is a part of the whole
  pub part_of : {views : List (View T)} (id : ℕ) (v : View T) → get_elem? views id ≡ some v → Shares (λ (v : View T). v.share) views → IsPart v.share
  part_of {views} id v has_view shares =
      let fit = shares.fits id v has_view in
      let few : shares.each id ≤ shares.whole = (omega (arith, shares.sum, at_most_all shares.each (length views) id (at_below views id v has_view))) in
      let scaled : v.share.parts * shares.each id ≤ v.share.parts * shares.whole = mul-le-mul_left v.share.parts few in
      (fit.0, no_more_than v.share.part v.share.parts shares.whole shares.any (omega (arith, fit.1)))

  -- what one seat has asked for is at most what it has aside and the steps, and just that
  -- with the whole share
  pub asked_at : {views : List (View T)} {steps : ℕ} (id : ℕ) {v : View T} → get_elem? views id ≡ some v → Shares (λ (v : View T). v.share) views
      → HaveAsked views steps → HasAsked v steps
  asked_at {views} id {v} has_view shares have_asked =
      let most = sum_rest aside_of asked_of views id v has_view (λ j x ne there. have_asked.each j x there) in
      let sum = have_asked.sum in
      record {
        share = part_of id v has_view shares;
        most = omega arith;
        all = λ whole. (
            let spent : (j : ℕ) (x : View T) → j ≢ id → get_elem? views j ≡ some x → x.asked ≡ x.aside =
            λ j x ne there. (
            let no_share = others_none (λ (v : View T). v.share) views id v has_view shares whole in
            have_asked.spent j x there (no_share j x ne there)) in
            let least = sum_rest asked_of aside_of views id v has_view (λ j x ne there. omega (arith, spent j x ne there)) in
            omega arith);
      }

  -- with n steps more of the run, the pass has asked for n more operations that are not aside
  pub has_more : {v w : View T} {old : ℕ} (n : ℕ) → HasAsked v old → w.share ≡ v.share → w.asked + v.aside ≡ v.asked + w.aside + n → HasAsked w (old + n)
  has_more n asked same own =
      record {
        share = subst IsPart (sym same) asked.share;
        most = omega (arith, asked.most);
        all = λ whole. omega (arith, asked.all (subst IsAll same whole));
      }

  -- with n steps more of the run, all seats have asked for n more operations that are not aside
  pub have_more : (views : List (View T)) (id : ℕ) (v w : View T) (old n : ℕ) → get_elem? views id ≡ some v → HaveAsked views old
      → w.asked + v.aside ≡ v.asked + w.aside + n → (w.share.part ≡ 0 → w.asked ≡ w.aside) → HaveAsked (set views id w) (old + n)
  have_more views id v w old n has_view have_asked own none =
      record {
        sum = (
            omega (arith, have_asked.sum, sum_set asked_of views id v w has_view, sum_set aside_of views id v w has_view));
        each = λ j x found.
            ⊎_elim (λ e. subst (λ (z : View T). z.aside ≤ z.asked) e.1 (omega (arith, have_asked.each id v has_view))) (λ e. have_asked.each j x e.1)
            (at_set views id j w x found);
        spent = λ j x found.
            ⊎_elim (λ e. subst (λ (z : View T). z.share.part ≡ 0 → z.asked ≡ z.aside) e.1 none) (λ e. have_asked.spent j x e.1)
            (at_set views id j w x found);
      }

  -- what a seat has gained by an operation: the run took n steps more, and the seat asked for n operations
  -- more that are not aside
  pub record Gains (views : List (View T)) (v : View T) (asked aside steps : ℕ) : Type 0 where
    -- the steps of the run before, and how many it took since
    pub old : ℕ
    pub n : ℕ
    -- before, what was asked for was counted by the steps of the run; now n steps and n operations are added
    pub have : HaveAsked views old
    pub has : HasAsked v old
    pub more : steps ≡ old + n
    pub own : asked + v.aside ≡ v.asked + aside + n

  -- the seat's own operations are still counted right
  pub gains_has : {views : List (View T)} {v w : View T} {steps : ℕ} → Gains views v w.asked w.aside steps → w.share ≡ v.share → HasAsked w steps
  gains_has {v = v} {w = w} gains same = subst (λ n. HasAsked w n) (sym gains.more) (has_more gains.n gains.has same gains.own)

  -- after the gain all seats have asked for what they have aside and the steps of the run
  pub gains_have : {views : List (View T)} (id : ℕ) {v : View T} (w : View T) {steps : ℕ} → get_elem? views id ≡ some v → Gains views v w.asked w.aside steps
      → 0 < w.share.part → HaveAsked (set views id w) steps
  gains_have {views} id {v} w has_view gains some_share =
      let more = have_more views id v w gains.old gains.n in
      subst (λ n. HaveAsked (set views id w) n) (sym gains.more)
      (more has_view gains.have gains.own (λ none. absurd (omega arith)))

  -- ---- the steps of a run

  -- the steps of a run with a turn more are those of the run and of that turn
  pub steps_more : (t : Trace T) (xs : List (Turn T)) (x : Turn T) → run_steps t (xs ++ x ∷ []) ≡ run_steps t xs + turn_steps (after_turns t xs).world x
  steps_more t [] x = omega arith
  steps_more t (y ∷ xs) x = omega (arith, steps_more (after_turn t y) xs x)

  -- ---- a split

  -- the pass that was split has asked for one operation more, which is aside
  pub left_asked : (old left : View T) (steps : ℕ) → HasAsked old steps → left.share ≡ half_of old.share → left.asked ≡ old.asked + 1
      → left.aside ≡ old.aside + 1 → HasAsked left steps
  left_asked old left steps has_asked share asked aside =
      record {
        share = subst IsPart (sym share) (half_part old.share has_asked.share);
        most = omega (arith, has_asked.most);
        all = λ whole. omega (arith, has_asked.all (no_half old.share has_asked.share (subst IsAll share whole)));
      }

  -- the new pass of a split, which has asked for nothing yet, keeps `HasAsked`
  pub right_asked : {old right : View T} {steps : ℕ} → HasAsked old steps → right.share ≡ half_of old.share → right.asked ≡ 0 → right.aside ≡ 0
      → HasAsked right steps
  right_asked {old} has_asked share asked aside =
      record {
        share = subst IsPart (sym share) (half_part old.share has_asked.share);
        most = omega arith;
        all = λ whole. absurd (half_not old.share has_asked.share (subst IsAll share whole));
      }
    where
      -- half of a share is not the whole share
      half_not : (s : Share) → IsPart s → IsAll (half_of s) → ⊥
      half_not s part whole = (let is : s.part ≡ s.parts + s.parts = whole in absurd (omega (arith, part.0, part.1)))

-- an operation of a call that asks for no word is no step of it
abbrev pub none_count : Option Ask → ℕ
none_count None = 1
none_count (Some ask) = 0

-- an operation is a step of the call, or aside
pub one_or_none : (asked aside : ℕ) (o : Option Ask) → (asked + 1) + aside ≡ asked + (aside + none_count o) + step_count o
one_or_none asked aside None = omega arith
one_or_none asked aside (Some ask) = omega arith

-- at most one operation is aside
pub none_or_one : {a b : ℕ} (o : Option Ask) → a ≡ b → (a + none_count o ≡ b) ⊎ (a + none_count o ≡ b + 1)
none_or_one None a_is = inr (omega arith)
none_or_one (Some ask) a_is = inl (omega arith)

module _ {T : Type 0} where
  -- ---- a join

  -- a joined pass has asked for what both asked for and one operation, which is aside
  pub have_both : {views : List (View T)} {steps : ℕ} {id other : ℕ} {v w : View T} → get_elem? views id ≡ some v → other ≢ id → get_elem? views other ≡ some w
      → 0 < v.share.part → Shares (λ (v : View T). v.share) views → HaveAsked views steps
      → HaveAsked (set (set views id (joined_view v w)) other spent_view) steps
  have_both {views} {id = id} {other = other} {v = v} {w = w} has_view apart theirs any shares have_asked =
      record {
        -- the sums change by what the two seats had, and by the one operation of the join
        sum = (
            omega (
              arith,
              sum_set asked_of (set views id (joined_view v w)) other w spent_view still,
              sum_set aside_of views id v (joined_view v w) has_view,
              sum_set aside_of (set views id (joined_view v w)) other w spent_view still,
              have_asked.sum,
              sum_set asked_of views id v (joined_view v w) has_view,
            ));
        -- each seat has asked for at least what it has aside: the one that was taken in for nothing, the
        -- joined one for what both did
        each = λ j x found.
            ⊎_elim (λ e. subst (λ (z : View T). z.aside ≤ z.asked) e.1 (omega arith))
            (λ e. ⊎_elim (λ e'. subst (λ (z : View T). z.aside ≤ z.asked) e'.1 (omega (arith, have_asked.each id v has_view, have_asked.each other w theirs)))
            (λ e'. have_asked.each j x e'.1) (at_set views id j (joined_view v w) x e.1))
            (at_set (set views id (joined_view v w)) other j spent_view x found);
        -- of the two seats one without a share is the one that was taken in, which has asked for nothing
        spent = λ j x found.
            ⊎_elim (λ e. subst (λ (z : View T). z.share.part ≡ 0 → z.asked ≡ z.aside) e.1 (λ none. refl))
            (λ e. ⊎_elim (λ e'. subst (λ (z : View T). z.share.part ≡ 0 → z.asked ≡ z.aside) e'.1 (λ none. absurd (some_left none)))
            (λ e'. have_asked.spent j x e'.1) (at_set views id j (joined_view v w) x e.1))
            (at_set (set views id (joined_view v w)) other j spent_view x found);
      }
    where
      -- the seat that is taken in has its view still
      still : get_elem? (set views id (joined_view v w)) other ≡ some w
      still = set_else views id other (joined_view v w) apart ∙ theirs

      -- the joined pass has a share
      some_left : (joined_view v w).share.part ≡ 0 → ⊥
      some_left none =
          let its = (shares.fits other w theirs).0 in
          let is : v.share.part * w.share.parts + w.share.part * v.share.parts ≡ 0 = none in
          absurd (omega (arith, positive v.share.part w.share.parts any its))

  -- ---- the first pass

  -- the first pass has asked for nothing
  pub first_asked : (capacity : ℕ) → HaveAsked (first_view {T = T} capacity ∷ []) 0
  first_asked capacity =
      record {
        sum = refl;
        each = λ j x found. each j x found;
        spent = λ j x found. spent j x found;
      }
    where
      -- the first pass has asked for nothing
      each : (j : ℕ) (x : View T) → get_elem? (first_view capacity ∷ []) j ≡ some x → x.aside ≤ x.asked
      each zero x has_view = subst (λ (z : View T). z.aside ≤ z.asked) (some-injective (first_view capacity) x has_view) (omega arith)
      each (suc j) x has_view = absurd (some-ne-none x (sym has_view))

      -- the first pass has asked for nothing that is not aside
      spent : (j : ℕ) (x : View T) → get_elem? (first_view capacity ∷ []) j ≡ some x → x.share.part ≡ 0 → x.asked ≡ x.aside
      spent zero x has_view = subst (λ (z : View T). z.share.part ≡ 0 → z.asked ≡ z.aside) (some-injective (first_view capacity) x has_view) (λ none. refl)
      spent (suc j) x has_view = absurd (some-ne-none x (sym has_view))

  -- ---- how many turns go on with a call

  -- a begin adds nothing to the turns that go on with a call
  pub nexts_begin : (ts : List (Turn T)) (p : ℕ) (start : Start T) → nexts (ts ++ Begin p start ∷ []) ≡ nexts ts + 0
  nexts_begin [] p start = refl
  nexts_begin (Next q ∷ ts) p start = omega (arith, nexts_begin ts p start)
  nexts_begin (Begin q s ∷ ts) p start = nexts_begin ts p start
  nexts_begin (Decide q s ∷ ts) p start = nexts_begin ts p start
  nexts_begin (Die q ∷ ts) p start = nexts_begin ts p start

  -- a step adds one to the turns that go on with a call
  pub nexts_next : (ts : List (Turn T)) (p : ℕ) → nexts (ts ++ Next p ∷ []) ≡ nexts ts + 1
  nexts_next [] p = refl
  nexts_next (Next q ∷ ts) p = omega (arith, nexts_next ts p)
  nexts_next (Begin q s ∷ ts) p = nexts_next ts p
  nexts_next (Decide q s ∷ ts) p = nexts_next ts p
  nexts_next (Die q ∷ ts) p = nexts_next ts p

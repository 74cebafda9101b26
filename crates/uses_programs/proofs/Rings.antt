-- What each call adds to the lists of bells, and what that comes to once all passes are joined.
use Rattle.std.proofs.Common.{◌≡◌, ◌==◌, ℕ, ◌+◌, ◌<◌, ◌≤◌, Bool, true, false, cond, Some, None, List, [], ◌∷◌, ◌++◌}
use Rattle.std.proofs.Common.{length, get_or, take, refl, sym, ap, subst, ◌∙◌, arith}
use Rattle.uses_programs.proofs.Names.{All, take_more, sum_by_push, sum_by-append, All-push, Event, View, IsBeginning}
use Rattle.uses_programs.proofs.Names.{Share, all_shares, half_of, both_of, IsAll, sets}
use Rattle.std.specs.List.{sum_by}
use Rattle.std.proofs.lemmas.List.Elements.{All-weaker}
use Rattle.lock_free.specs.Sums.{is_set_of, is_clear_of, clears}
use Rattle.lock_free.specs.Bits.Contracts.{HasSet, StoodOnce, HasReset}
use Rattle.lock_free.proofs.Sums.{sum_grows, seen_begins}
use Rattle.lock_free.proofs.Bits.Sums.{set_adds, set_adds_none, was_set, reset_adds, reset_adds_none}
use Rattle.uses_programs.specs.Bells.{times, WereSet, HasRung, BothRung, HearsMore}

-- the shares of a pass that was split twice make the whole
pub split_twice : (first left third mine other : Share) → first ≡ all_shares → left ≡ half_of first
    → third ≡ half_of first → mine ≡ half_of left → other ≡ half_of left → IsAll (both_of (both_of mine other) third)
split_twice first left third mine other all l t m o =
    let half = l ∙ ap half_of all in
    let p = m ∙ ap half_of half in
    let q = o ∙ ap half_of half in
    let s = t ∙ ap half_of all in
    subst IsAll (λ i. both_of (both_of (sym p i) (sym q i)) (sym s i)) refl

times_push : (bell b : ℕ) (xs : List ℕ) → times bell (xs ++ b ∷ []) ≡ times bell xs + cond (b == bell) 1 0
times_push bell b xs = sum_by_push (λ x. cond (x == bell) 1 0) xs b

-- ---- a set

-- a set that answers true rings one bell more
pub rings : (xs more : List ℕ) (b : ℕ) (answer : Bool) (old new : View ℕ) → answer ≡ true → HasSet b answer old new
    → more ≡ xs ++ b ∷ [] → HasRung xs old.made → HasRung more new.made
rings xs more b answer old new began h is was =
    let added : HasSet b true old new = subst (λ t. HasSet b t old new) began h in
    subst (λ z. HasRung z new.made) (sym is)
    (record {
      set = λ bell. (let adds = (set_adds old new b added bell).0 in let so_far = was.set bell in let push = times_push bell b xs in omega arith);
      cleared = λ bell. (set_adds old new b added bell).1 ∙ was.cleared bell;
    })

-- a set that answers false rings none
pub rings_again : (xs : List ℕ) (b : ℕ) (answer : Bool) (old new : View ℕ) → answer ≡ false
    → HasSet b answer old new → HasRung xs old.made → HasRung xs new.made
rings_again xs b answer old new stood h was =
    let added : HasSet b false old new = subst (λ t. HasSet b t old new) stood h in
    record {
      set = λ bell. (set_adds_none old new b added bell).0 ∙ was.set bell;
      cleared = λ bell. (set_adds_none old new b added bell).1 ∙ was.cleared bell;
    }

-- Bells that were set still were, once more was seen.
pub rang_still : (bells : List ℕ) (seen then : List (Event ℕ)) → IsBeginning seen then → WereSet bells seen → WereSet bells then
rang_still bells seen then begins all =
    All-weaker (λ b. 1 ≤ sets b seen) (λ b. 1 ≤ sets b then)
    (λ b some. let grown = sum_grows (λ e. cond (is_set_of b e) 1 0) seen then begins in omega arith) bells all

-- if the first n bells were set, and then the next one is set, the first n + 1 were set,
-- whatever the set answered
pub rang_on : (bells : List ℕ) (n b : ℕ) (answer : Bool) (old new : View ℕ) → n < length bells
    → b ≡ get_or bells n 0 → HasSet b answer old new → (answer ≡ false → StoodOnce b new)
    → WereSet (take n bells) old.seen → WereSet (take (n + 1) bells) new.seen
rang_on bells n b answer old new lt is h stood all =
    let more : take n bells ++ b ∷ [] ≡ take (n + 1) bells = ap (λ z. take n bells ++ z ∷ []) is ∙ sym (take_more bells n 0 lt) in
    let begins : IsBeginning old.seen new.seen = seen_begins h.by _ _ _ old new h.called in
    subst (λ xs. WereSet xs new.seen) more
    (All-push (λ z. 1 ≤ sets z new.seen) (take n bells) b (rang_still (take n bells) old.seen new.seen begins all)
    (was_set old new b answer h stood))

-- ---- a reset

-- a reset that finds a bell hears one more
pub hears : (xs ys more : List ℕ) (b : ℕ) (first : List (Event ℕ)) (old new : View ℕ) → HasReset (Some b) old new
    → more ≡ ys ++ b ∷ [] → HearsMore xs ys first old.made → HearsMore xs more first new.made
hears xs ys more b first old new h is was =
    subst (λ z. HearsMore xs z first new.made) (sym is)
    (record {
      set = λ bell. (reset_adds old new b h bell).0 ∙ was.set bell;
      cleared = λ bell. (let adds = (reset_adds old new b h bell).1 in let so_far = was.cleared bell in let push = times_push bell b ys in omega arith);
    })

-- a reset that finds none hears none
pub hears_none : (xs ys : List ℕ) (first : List (Event ℕ)) (old new : View ℕ) → HasReset None old new
    → HearsMore xs ys first old.made → HearsMore xs ys first new.made
hears_none xs ys first old new h was =
    record {
      set = λ bell. (reset_adds_none old new h bell).0 ∙ was.set bell;
      cleared = λ bell. ap (λ n. n + times bell xs) (reset_adds_none old new h bell).1 ∙ was.cleared bell;
    }

-- a listener whose last look found no bell has heard all that rang
pub rest_heard : (ys : List ℕ) (first : List (Event ℕ)) (old new : View ℕ) (bell : ℕ)
    → HearsMore [] ys first old.made → HasReset None old new → sets bell new.made ≡ clears bell new.made
    → sets bell first ≡ clears bell first + times bell ys
rest_heard ys first old new bell was h none =
    let s = (reset_adds_none old new h bell).0 in
    let c = (reset_adds_none old new h bell).1 in
    let set = was.set bell in
    let cleared = was.cleared bell in
    let zero : times bell [] ≡ 0 = refl in
    omega arith

-- ---- nothing yet

pub none_rung : (events : List (Event ℕ)) → events ≡ [] → HasRung [] events
none_rung events e = subst (HasRung []) (sym e) (record { set = λ bell. refl; cleared = λ bell. refl })

pub none_heard : (events : List (Event ℕ)) → HearsMore [] [] events events
none_heard events = record { set = λ bell. refl; cleared = λ bell. refl }

-- ---- all passes joined

-- what two threads have rung together
pub both_rung : (one two : List ℕ) (xs ys : List (Event ℕ)) → HasRung one xs → HasRung two ys → BothRung one two (xs ++ ys)
both_rung one two xs ys h g =
    record {
      set = λ bell. (let s = sum_by-append (λ e. cond (is_set_of bell e) 1 0) xs ys in let a = h.set bell in let b = g.set bell in omega arith);
      cleared = λ bell. (let c = sum_by-append (λ e. cond (is_clear_of bell e) 1 0) xs ys in let a = h.cleared bell in let b = g.cleared bell in omega arith);
    }

-- Two passes have rung the bells of `one` and `two`, a third has heard those of `heard`, and all are joined.
module _ (one two heard left : List ℕ) (rung start listened joined : List (Event ℕ)) (rang : BothRung one two rung)
    (fresh : start ≡ []) (listens : HearsMore [] heard start listened) (is : joined ≡ rung ++ listened)
    (rest : (bell : ℕ) → sets bell joined ≡ clears bell joined + times bell left) where
  -- each bell was set as often as the two lists have it
  set_in_all : (bell : ℕ) → sets bell joined ≡ times bell one + times bell two
  set_in_all bell =
      let s = ap (sets bell) is ∙ sum_by-append (λ e. cond (is_set_of bell e) 1 0) rung listened in
      let a = rang.set bell in
      let b = listens.set bell ∙ ap (sets bell) fresh in
      let zero : sets {T = ℕ} bell [] ≡ 0 = refl in
      omega arith

  -- what was heard and what still rang are all that was rung
  pub all_heard : (bell : ℕ) → times bell heard + times bell left ≡ times bell one + times bell two
  all_heard bell =
      let s = set_in_all bell in
      let c = ap (clears bell) is ∙ sum_by-append (λ e. cond (is_clear_of bell e) 1 0) rung listened in
      let a = rang.cleared bell in
      let b = listens.cleared bell in
      let f = ap (clears bell) fresh in
      let r = rest bell in
      let zero : times bell [] ≡ 0 = refl in
      let clear : clears {T = ℕ} bell [] ≡ 0 = refl in
      omega arith

  -- each bell that was set by a certain view was heard, or still rang
  pub none_lost : (bells : List ℕ) (then : List (Event ℕ)) → ((f : Event ℕ → ℕ) → sum_by f then ≡ sum_by f joined)
      → WereSet bells then → All (λ b. 1 ≤ times b heard + times b left) bells
  none_lost bells then same all =
      All-weaker (λ b. 1 ≤ sets b then) (λ b. 1 ≤ times b heard + times b left)
      (λ b some. let h = all_heard b in let s = set_in_all b in let e = same (λ x. cond (is_set_of b x) 1 0) in omega arith)
      bells all

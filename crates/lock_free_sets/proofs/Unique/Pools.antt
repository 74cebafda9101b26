-- For clients that take indices of one set in several threads: what passes hold as they are split and joined, and as indices
-- are taken and given back.
use Rattle.std.proofs.Common.{◌≡◌, ◌≢◌, ℕ, ◌+◌, ◌*◌, ◌<◌, ◌≤◌, List, [], ◌∷◌, ◌++◌, length, drop, get_or}
use Rattle.std.proofs.Common.{refl, sym, ap, subst, ◌∙◌, arith, add-one, drop-cons}
use Rattle.std.specs.List.{AllPairs}
use Rattle.std.proofs.lemmas.List.{drop_all}
use Rattle.steps.specs.declared.indices.enums.ReleaseState.{ReleaseState}
use Rattle.threaded.specs.declared.share.Share.{Share}
use Rattle.threaded.specs.Shares.{all_shares, half_of, both_of, IsAll}
use Rattle.threaded.proofs.Shares.{same_factor}
use Rattle.history.specs.Held.{Holds}
use Rattle.history.specs.Passes.{HasSplit, HasJoined}
use Rattle.lock_free_sets.specs.declared.mpmc.unique_index_set.Pass.{Pass}
use Rattle.lock_free_sets.specs.Unique.Held.{HeldBy, HoldsNothing, HoldsAll, IsSound}
use Rattle.lock_free_sets.specs.Unique.Pools.{IsAsMuch, Holding}
use Rattle.lock_free_sets.specs.Unique.Contracts.{HasAcquired, HasGiven, HasCounted}
use Rattle.lock_free_sets.specs.UniqueIndexSet.{SamePass, made, set_of, share, view}
use Rattle.lock_free_sets.proofs.Unique.Holding.{held_taken, held_given, held_joined, held_first, held_apart, held_still, counted_moves}

-- ---- shares

-- a share that was split in half, and whose halves were joined again, is as much as before
halves : (s x y : Share) → IsAsMuch x (half_of s) → IsAsMuch y (half_of s) → IsAsMuch (both_of x y) s
halves s x y one two = go s.part s.parts x.part x.parts y.part y.parts one two
  where
    -- what is claimed of the shares, for their numbers of parts
    go : (p q a b c d : ℕ) → a * (q + q) ≡ p * b → c * (q + q) ≡ p * d → (a * d + c * b) * q ≡ p * (b * d)
    go p q a b c d e f =
        let g : a * (q + q) * d ≡ p * b * d = ap (λ z. z * d) e in
        let h : c * (q + q) * b ≡ p * d * b = ap (λ z. z * b) f in
        omega arith

-- Equal shares are as much.
as_much : (s t : Share) → s ≡ t → IsAsMuch s t
as_much s t is = subst (λ x. IsAsMuch x t) (sym is) refl

-- A share that is equal to one that is as much as a third is as much as the third.
still_as_much : (s t u : Share) → s ≡ t → IsAsMuch t u → IsAsMuch s u
still_as_much s t u is same = subst (λ x. IsAsMuch x u) (sym is) same

-- A share that is as much as the whole is the whole.
all_of : (s : Share) → IsAsMuch s all_shares → IsAll s
all_of s is = omega arith

-- ---- one thread

-- A pass that has made no event holds no index.
pub holds_none : {pass : Pass} {is : List ℕ} → made pass ≡ [] → is ≡ [] → Holding pass is pass
holds_none {pass} {is} none empty =
    let nothing : HoldsNothing (made pass) = subst HoldsNothing (sym none) (λ i. refl) in
    record { set = refl; share = refl; held = subst (λ xs. HeldBy xs (made pass)) (sym empty) nothing }

-- An acquire by the pass puts its index behind those that it holds.
pub holds_more : {start was now : Pass} {is : List ℕ} (more : List ℕ) (i : ℕ) → Holding start is was → SamePass was now
    → HasAcquired i (view was) (view now) → more ≡ is ++ i ∷ [] → Holding start more now
holds_more {start} {was} {now} {is} more i holding goes took list =
    record {
      set = goes.set ∙ holding.set;
      share = still_as_much (share now) (share was) (share start) goes.share holding.share;
      held = subst (λ xs. HeldBy xs (made now)) (sym list) (held_taken (view was) (view now) is i holding.held took.taken);
    }

-- What is left of a list from a place on is the element there and what is left behind it.
next : (xs : List ℕ) (at : ℕ) → at < length xs → drop at xs ≡ get_or xs at 0 ∷ drop (at + 1) xs
next xs at below = rw (add-one, drop-cons xs at 0) refl

-- the next of a list can be given back
pub holds_next : {start now : Pass} (is : List ℕ) (at : ℕ) → Holding start (drop at is) now → IsSound (view now)
    → at < length is → Holds (get_or is at 0) (made now)
holds_next {start} {now} is at holding sound below =
    held_first (get_or is at 0) (drop (at + 1) is) (view now) sound (subst (λ xs. HeldBy xs (made now)) (next is at below) holding.held)

-- after a release of the first of these indices the pass holds the further ones
pub holds_rest : {start was now : Pass} (is : List ℕ) (at : ℕ) {state : ReleaseState} → Holding start (drop at is) was
    → at < length is → SamePass was now → HasGiven (get_or is at 0) state (view was) (view now) → Holding start (drop (at + 1) is) now
holds_rest {start} {was} {now} is at {state} holding below goes gave =
    record {
      set = goes.set ∙ holding.set;
      share = still_as_much (share now) (share was) (share start) goes.share holding.share;
      held =
          held_given (view was) (view now) (drop (at + 1) is) (get_or is at 0) state
          (subst (λ xs. HeldBy xs (made was)) (next is at below) holding.held) gave;
    }

-- A pass that has released all indices of the list holds none of them.
pub holds_last : {start now : Pass} (is : List ℕ) (at : ℕ) → Holding start (drop at is) now → length is ≤ at → Holding start [] now
holds_last {start} {now} is at holding past = subst (λ xs. Holding start xs now) (drop_all at is past) holding

-- ---- several

-- of two halves of a pass, which two threads had and which are joined again
pub both_hold : (start mine other one two joined : Pass) (is js : List ℕ) {all : List ℕ}
    → HasSplit (view start) (view mine) (view other) → set_of mine ≡ set_of start → Holding mine is one → Holding other js two
    → HasJoined (view one) (view two) (view joined) → set_of joined ≡ set_of one → all ≡ is ++ js → Holding start all joined
both_hold start mine other one two joined is js {all} cut of first_holding second_holding join same list =
    record {
      set = same ∙ (first_holding.set ∙ of);
      share =
          still_as_much (share joined) (both_of (share one) (share two)) (share start) join.share
          (halves (share start) (share one) (share two)
          (subst (λ s. IsAsMuch (share one) s) cut.share first_holding.share) (subst (λ s. IsAsMuch (share two) s) cut.right_share second_holding.share));
      held =
          subst (λ xs. HeldBy xs (made joined)) (sym list)
          (subst (HeldBy (is ++ js)) (sym join.made) (held_joined is js (made one) (made two) first_holding.held second_holding.held));
    }

-- no index is held twice
pub holds_apart : {start now : Pass} (is : List ℕ) → Holding start is now → IsSound (view now) → AllPairs (λ i j. i ≢ j) is
holds_apart {start} {now} is holding sound = held_apart is (view now) sound holding.held

-- where the whole share holds nothing, none is out
pub none_out : (first was : Pass) {given now : Pass} {n : ℕ} (is : List ℕ) → share first ≡ all_shares → Holding first is was → Holding was [] given
    → SamePass given now → HasCounted n (view given) (view now) → HoldsAll n (view now) → n ≡ 0
none_out first was {given} {now} {n} is all taken gave goes counted whole =
    let one : IsAll (share was) = all_of (share was) (subst (λ s. IsAsMuch (share was) s) all taken.share) in
    let two : IsAll (share given) = same_whole (share given) (share was) was.some.1 one gave.share in
    sym (whole (subst IsAll (sym goes.share) two) []
    (held_still (view given) (view now) [] gave.held (λ j. counted_moves (view given) (view now) j n counted)))
  where
    go : (a b p q : ℕ) → a * q ≡ p * b → p ≡ q → q * a ≡ q * b
    go a b p q e same = (let f : a * q ≡ q * b = subst (λ z. a * q ≡ z * b) same e in omega arith)

    -- A share that is as much as the whole is the whole.
    same_whole : (s t : Share) → 0 < t.parts → IsAll t → IsAsMuch s t → IsAll s
    same_whole s t any whole_t same = same_factor t.parts s.part s.parts any (go s.part s.parts t.part t.parts same whole_t)

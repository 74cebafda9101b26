-- How the calls on a unique index set change what a pass holds.
use Rattle.lock_free_sets.proofs.Names.{◌≡◌, ◌≢◌, ⊎_elim, ℕ, ◌+◌, ◌≤◌, ◌==◌, true, Ok, Err, List, [], ◌∷◌, ◌++◌}
use Rattle.lock_free_sets.proofs.Names.{refl, arith, All, cases_lt, nat_tests, All-nil, All-cons, sum_by-append}
use Rattle.lock_free_sets.proofs.Names.{ReleaseState, UniqueIndexSetAcquireFailure}
use Rattle.lock_free_sets.proofs.Names.{Event, Indices, View, claims, frees, Holds}
use Rattle.lock_free_sets.proofs.Names.{Answer, Called}
use Rattle.std.proofs.Common.{sum_by}
use Rattle.std.specs.List.{AllPairs}
use Rattle.std.proofs.lemmas.List.Kept.{AllPairs-cons}
use Rattle.model.specs.declared.families.indices.IndexStart.{IndexStart}
use Rattle.lock_free_sets.specs.Unique.Held.{one_if, times, HeldBy, IsSound}
use Rattle.lock_free_sets.specs.Unique.Contracts.{HasTaken, HasGiven, HasCounted}
use Rattle.lock_free_sets.proofs.Sums.{sum_made}

-- claims and frees of what was made, after and before
pub record Moves (j more less : ℕ) (v w : View ℕ) : Type 0 where
  pub claimed : sum_by (claims j) w.made ≡ sum_by (claims j) v.made + more
  pub freed : sum_by (frees j) w.made ≡ sum_by (frees j) v.made + less

-- v and w are what the pass knew before a call and after it, j is any index
module _ (v w : View ℕ) (j : ℕ) where
  -- a call adds the claims and frees that it wrote
  moves_by : {p : ℕ} {start : IndexStart} {answer : Answer ℕ} {wrote : List (Event ℕ)} → Called p (Indices start) answer wrote v w
      → {more less : ℕ} → sum_by (claims j) wrote ≡ more → sum_by (frees j) wrote ≡ less → Moves j more less v w
  moves_by {p} {start} {answer} {wrote} called claimed freed =
      let a = sum_made (claims j) p (Indices start) answer wrote v w called in
      let b = sum_made (frees j) p (Indices start) answer wrote v w called in
      record { claimed = omega arith; freed = omega arith }

  -- an acquire that took an index adds one claim of this index, and no free
  pub taken_moves : (i : ℕ) → HasTaken (Ok i) v w → Moves j (one_if i j) 0 v w
  taken_moves i taken = moves_by taken.called (omega arith) refl

  -- an acquire that took none adds neither claim nor free
  pub refused_moves : (e : UniqueIndexSetAcquireFailure) → HasTaken (Err e) v w → Moves j 0 0 v w
  refused_moves e taken = moves_by taken.called refl refl

  -- a release adds one free of its index, and no claim
  pub given_moves : (i : ℕ) (state : ReleaseState) → HasGiven i state v w → Moves j 0 (one_if i j) v w
  given_moves i state given = moves_by given.called refl (omega arith)

  -- counting the indices in use adds neither claim nor free
  pub counted_moves : (n : ℕ) → HasCounted n v w → Moves j 0 0 v w
  counted_moves n counted = moves_by counted.called refl refl

-- ---- lists of what is held

-- A number stands in two lists together as often as in both.
pub times_both : (i : ℕ) (xs ys : List ℕ) → times i (xs ++ ys) ≡ times i xs + times i ys
times_both i xs ys = sum_by-append (λ x. one_if x i) xs ys

-- A number stands in a list of one number once, if it is that number.
pub times_one : (i j : ℕ) → times j (i ∷ []) ≡ one_if i j
times_one i j = omega arith

-- an acquire that took an index adds it to the indices that its pass holds
pub held_taken : (v w : View ℕ) (is : List ℕ) (i : ℕ) → HeldBy is v.made → HasTaken (Ok i) v w → HeldBy (is ++ i ∷ []) w.made
held_taken v w is i held h j =
    let m = taken_moves v w j i h in
    let was = held j in
    let a = m.claimed in
    let b = m.freed in
    let both = times_both j is (i ∷ []) in
    let more = times_one i j in
    omega arith

-- what is given back is held no longer
pub held_given : (v w : View ℕ) (is : List ℕ) (i : ℕ) (state : ReleaseState) → HeldBy (i ∷ is) v.made → HasGiven i state v w → HeldBy is w.made
held_given v w is i state held h j =
    let m = given_moves v w j i state h in
    let was = held j in
    let a = m.claimed in
    let b = m.freed in
    let both = times_both j (i ∷ []) is in
    let more = times_one i j in
    omega arith

-- a join holds what both held
pub held_joined : (is others : List ℕ) (mine theirs : List (Event ℕ)) → HeldBy is mine → HeldBy others theirs → HeldBy (is ++ others) (mine ++ theirs)
held_joined is others mine theirs ours_held theirs_held index = grind (arith, times_both, sum_by-append, claims, frees)

-- A look, or a call that is refused, leaves the indices that the pass holds.
pub held_still : (v w : View ℕ) (is : List ℕ) → HeldBy is v.made → ((j : ℕ) → Moves j 0 0 v w) → HeldBy is w.made
held_still v w is held moves j =
    let m = moves j in
    let was = held j in
    let a = m.claimed in
    let b = m.freed in
    omega arith

-- An index that one pass held is held by the join of it with another, if no index is held by both.
pub holds_joined : (i : ℕ) (v other : View ℕ) → IsSound other → ((j : ℕ) → Holds j v.made → Holds j other.made → ⊥)
    → Holds i v.made → Holds i (v.made ++ other.made)
holds_joined i v other sound apart mine =
    let low = sound.least i in
    let high = sound.once i in
    let a = sum_by-append (claims i) v.made other.made in
    let b = sum_by-append (frees i) v.made other.made in
    ⊎_elim
    (λ more. absurd (apart i mine (omega arith)))
    (λ less. omega arith)
    (cases_lt (sum_by (frees i) other.made) (sum_by (claims i) other.made))

-- what is held can be given back
pub held_first : (i : ℕ) (is : List ℕ) (v : View ℕ) → IsSound v → HeldBy (i ∷ is) v.made → Holds i v.made
held_first i is v sound held =
    let was = held i in
    let most = sound.once i in
    let both = times_both i (i ∷ []) is in
    let more = times_one i i in
    let t : (i == i) ≡ true = grind (arith, nat_tests) in
    let one_is : one_if i i ≡ 1 = rw t refl in
    omega arith

-- The indices in the list of those that a pass holds all differ.
pub held_apart : (is : List ℕ) (v : View ℕ) → IsSound v → HeldBy is v.made → AllPairs (λ i j. i ≢ j) is
held_apart is v sound held = go is (λ i. (let was = held i in let most = sound.once i in omega arith))
  where
    -- a number that does not stand in a list differs from each number of the list
    none : (x : ℕ) (xs : List ℕ) → times x xs ≡ 0 → All (λ y. x ≢ y) xs
    none x [] zero_is = All-nil (λ y. x ≢ y)
    none x (y ∷ xs) zero_is =
        let both = times_both x (y ∷ []) xs in
        let first = times_one y x in
        let other : x ≢ y = λ e. (let t : (y == x) ≡ true = grind (arith, nat_tests) in let one_is : one_if y x ≡ 1 = rw t refl in absurd (omega arith)) in
        All-cons (λ z. x ≢ z) y xs other (none x xs (omega arith))

    -- in a list in which no number stands twice, all numbers differ
    go : (xs : List ℕ) → ((i : ℕ) → times i xs ≤ 1) → AllPairs (λ i j. i ≢ j) xs
    go [] few = λ i j d low less. absurd (omega arith)
    go (x ∷ xs) few =
        let here = few x in
        let both = times_both x (x ∷ []) xs in
        let more = times_one x x in
        let t : (x == x) ≡ true = grind (arith, nat_tests) in
        let one_is : one_if x x ≡ 1 = rw t refl in
        AllPairs-cons (λ i j. i ≢ j) x xs (none x xs (omega arith))
        (go xs (λ i. (let all = few i in let rest = times_both i (x ∷ []) xs in omega arith)))

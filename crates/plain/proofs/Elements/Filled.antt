-- Each index of a container that has an owner keeps a value, after each call.
use Rattle.std.proofs.Common.{◌≡◌, ℕ, zero, suc, ◌<◌, false, List, [], ◌∷◌, length, take}
use Rattle.std.proofs.Common.{Option, Some, None, Result, Ok, refl, sym, subst, ◌∙◌, arith, slice_set}
use Rattle.std.proofs.Common.{get_or-set_same, get_or-set_other}
use Rattle.std.specs.Prelude.{slice_index_or, replicate, ◌+◌}
use Rattle.plain.proofs.Names.{eqb_tells, by_test, ContainerHandle, ReleaseMode}
use Rattle.std.proofs.lemmas.List.FromFn.{length-map-range_with_len}
use Rattle.steps.specs.declared.container.enums.ContainerAddFailure.{ContainerAddFailure}
use Rattle.steps.specs.declared.indices.enums.UniqueIndexSetAcquireFailure.{UniqueIndexSetAcquireFailure}
use Rattle.steps.specs.Objects.Owners.{Owners, acquired, without, raised, taken, given_back}
use Rattle.plain_queues.specs.Alone.{BehavesAs}
use Rattle.plain.specs.Contents.{Contents, opened, changed, names, added, put_at, after_add, after_remove, after_replace}
use Rattle.plain.specs.Contents.{counted, value_at, contents_in, IsFilled, Represents, Holds}
use Rattle.plain.proofs.Elements.Adds.{acquired_low, owners_long}
use Rattle.plain.proofs.Elements.Values.{front_fits}

-- there is a value
abbrev pub IsSome : {X : Type 0} → Option X → Type 0
IsSome (Some x) = Unit {0}
IsSome None = ⊥

-- None, as a value of this type
abbrev nothing : {X : Type 0} → Option X
nothing = None

-- a list of None has none at each place
none_in : {X : Type 0} (n i : ℕ) → slice_index_or (replicate n (nothing {X = X})) i None ≡ None
none_in zero i = refl
none_in (suc n) zero = refl
none_in (suc n) (suc i) = none_in n i

-- a place that is empty once a value was put somewhere was empty before
was_none : {X : Type 0} (l : List (Option X)) (i j : ℕ) (x : X)
    → slice_index_or (slice_set l i (Some x)) j None ≡ None → slice_index_or l j None ≡ None
was_none [] i j x none_now = refl
was_none (y ∷ l) zero zero x none_now = absurd (subst IsSome none_now tt)
was_none (y ∷ l) zero (suc j) x none_now = none_now
was_none (y ∷ l) (suc i) zero x none_now = none_now
was_none (y ∷ l) (suc i) (suc j) x none_now = was_none l i j x none_now

-- a place from which the value was taken is empty
gone_there : {X : Type 0} (l : List (Option X)) (i : ℕ) → slice_index_or (slice_set l i None) i None ≡ None
gone_there [] i = refl
gone_there (y ∷ l) zero = refl
gone_there (y ∷ l) (suc i) = gone_there l i

-- an index given back, in either mode, has no owner, and all others keep theirs
pub given_owners : (mode : ReleaseMode) (s : Owners) (i : ℕ) → (given_back mode s i).owners ≡ slice_set s.owners i None
given_owners = grind (arith, by_test, length, taken, without, raised)

module _ {V : Type 0} where
  -- in a container that opens no index has an owner
  pub filled_opened : (capacity container : ℕ) → IsFilled (opened {V = V} capacity container)
  filled_opened capacity container i h = none_in capacity i

  -- a count leaves owners and values
  pub filled_counted : (s : Contents V) → IsFilled s → IsFilled (counted s)
  filled_counted s filled = filled

  -- where an index loses its value and its owner, each index with an owner still has a value
  pub filled_gone : (s new : Contents V) (i : ℕ) → new.values ≡ slice_set s.values i None
      → new.owners.owners ≡ slice_set s.owners.owners i None → IsFilled s → IsFilled new
  filled_gone = grind (arith, gone_there, false, get_or-set_other, eqb_tells)

  -- where an index gets an owner and a value, each index with an owner has a value
  put : (s : Contents V) (owner : ℕ) (value : V) (i : ℕ) → i < length s.values → IsFilled s → IsFilled (put_at s owner value (Ok i))
  put = grind (arith, get_or-set_same, false, get_or-set_other, eqb_tells)

  -- whatever the acquire of an add answers, each index with an owner has a value then
  put_filled : (s : Contents V) (owner : ℕ) (value : V) → length s.values ≡ length s.owners.owners → IsFilled s
      → (r : Result ℕ UniqueIndexSetAcquireFailure) → r ≡ acquired s.owners → IsFilled (put_at s owner value r)
  put_filled = grind (arith, acquired_low, put)

  -- after an add each index with an owner has a value
  pub filled_add : (owner : ℕ) (value : V) (s : Contents V) → length s.values ≡ length s.owners.owners → IsFilled s
      → IsFilled (after_add s owner value)
  filled_add owner value s long filled = put_filled s owner value long filled (acquired s.owners) refl

  -- after a remove each index with an owner has a value
  pub filled_remove : (handle : ContainerHandle) (mode : ReleaseMode) (s : Contents V) → IsFilled s
      → IsFilled (after_remove s handle mode)
  filled_remove = grind (arith, by_test, names, filled_gone, changed, given_back, given_owners)

  -- after a replace each index with an owner has a value
  pub filled_replace : (handle : ContainerHandle) (value : V) (s : Contents V) → IsFilled s
      → IsFilled (after_replace s handle value)
  filled_replace = grind (arith, by_test, names, was_none)

-- a call that does what the container's call does, after which each index with an owner has
-- a value, keeps `Holds`
pub still : {V A : Type 0} (value_of : List ℕ → V) (size capacity container : ℕ) (answer : Contents V → A) (next : Contents V → Contents V)
    (words : List ℕ) → IsFilled (next (contents_in value_of size capacity container words)) → {a : A} {last : List ℕ}
    → BehavesAs (Represents size capacity) (contents_in value_of size capacity container) answer next words a last
    → BehavesAs (Holds value_of size capacity container) (contents_in value_of size capacity container) answer next words a last
still = grind arith

-- there are as many values as owners
pub values_long : {V : Type 0} (value_of : List ℕ → V) {size capacity : ℕ} (container : ℕ) {words : List ℕ} → Represents size capacity words
    → length (contents_in value_of size capacity container words).values ≡ length (contents_in value_of size capacity container words).owners.owners
values_long value_of {size} {capacity} container {words} fits =
    length-map-range_with_len (value_at value_of size capacity words) 0 capacity
    ∙ sym (owners_long capacity (take (1 + capacity) words) (front_fits value_of size capacity words fits))

-- a call that does what the container's add does keeps `Holds`
pub still_added : {V : Type 0} (value_of : List ℕ → V) (size capacity container : ℕ) (words : List ℕ) (owner : ℕ) (value : V)
    → Holds value_of size capacity container words → {a : Result ContainerHandle ContainerAddFailure} {last : List ℕ}
    → BehavesAs (Represents size capacity) (contents_in value_of size capacity container) (λ s. added s owner) (λ s. after_add s owner value) words a last
    → BehavesAs (Holds value_of size capacity container) (contents_in value_of size capacity container) (λ s. added s owner)
    (λ s. after_add s owner value) words a last
still_added value_of size capacity container words owner value holds =
    still value_of size capacity container (λ s. added s owner) (λ s. after_add s owner value) words
    (filled_add owner value (contents_in value_of size capacity container words) (values_long value_of container holds.0) holds.1)

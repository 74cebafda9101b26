-- That no index has two holders, from what each event finds.
use Rattle.std.proofs.Common.{◌≡◌, ◌≤◌, ℕ, ◌==◌, Bool, true, false, Option, Some, None, List, [], ◌∷◌, ◌++◌, length}
use Rattle.std.proofs.Common.{fold, if◌then◌else◌, refl, sym, ap, subst, ◌∙◌, append_assoc, append-nil, arith}
use Rattle.std.proofs.lemmas.Bool.Decides.{nat_tests}
use Rattle.std.proofs.lemmas.List.Sums.{fold-append}
use Rattle.model.specs.declared.event.Event.{Event}
use Rattle.model.specs.declared.event.Event.TheVariants.{Claimed, Freed, Locked, Filled, Granted, FreedOf}
use Rattle.model.specs.Families.Indices.Reading as unique
use Rattle.model.specs.Families.Indices.Robust.Reading as robust
use Rattle.headline.specs.Holders.{Hand, Takes, Gives, Neither, held_after, claims, fills, grants, holders, NoTwoHold, NoneOnceLocked}
use Rattle.headline.specs.Moments.{Follows}

pub is_it : (index i : ℕ) → (index == i) ≡ true → index ≡ i
is_it index i test = grind (arith, nat_tests)

-- A choice between a list and the same list is that list.
either : (b : Bool) (held : List ℕ) → (if b then held else held) ≡ held
either true held = refl
either false held = refl

-- An index without holders stays without one, if the event takes none.
stays_none : (i : ℕ) (h : Hand) → ((index holder : ℕ) → h ≡ Takes index holder → ⊥) → held_after i [] h ≡ []
stays_none i (Takes index holder) never = absurd (never index holder refl)
stays_none i (Gives index) never = either (index == i) []
stays_none i Neither never = refl

true_false : (b : Bool) → b ≡ true → b ≡ false → ⊥
true_false b same_true same_false = cc

module _ {T : Type 0} (hand : Event T → Hand) where
  -- The holders of index i after an event, from those before it.
  abbrev pub after : ℕ → List ℕ → Event T → List ℕ
  after i held e = held_after i held (hand e)

  -- The holders after one event more follow from those before it.
  pub one_after : (i : ℕ) (before : List (Event T)) (e : Event T) → holders hand i (before ++ e ∷ []) ≡ after i (holders hand i before) e
  one_after i before e = fold-append (after i) [] before (e ∷ [])

  -- ---- what stands at each moment of a run

  -- what holds at the opening, and after each event if it holds before
  pub always : (P : List (Event T) → Type 0) (events : List (Event T)) → P []
      → ((e : Event T) (before : List (Event T)) → Follows e before events → P before → P (before ++ e ∷ []))
      → (past future : List (Event T)) → events ≡ past ++ future → P past
  always P events first next past future is = go past [] is first
    where
      -- What holds before some events holds after them, one event after another.
      go : (es before : List (Event T)) → events ≡ before ++ (es ++ future) → P before → P (before ++ es)
      go [] before split h = subst P (sym (append-nil before)) h
      go (e ∷ es) before split h =
          subst P (append_assoc before (e ∷ []) es)
          (go es (before ++ e ∷ []) (split ∙ sym (append_assoc before (e ∷ []) (es ++ future))) (next e before (es ++ future, split) h))

  -- ---- what an index goes to, goes to it where it has no holder

  -- An index is taken only where it has no holder before the event.
  abbrev pub TakesFree : List (Event T) → Type 0
  TakesFree events =
      (e : Event T) (before : List (Event T)) (index holder : ℕ) → Follows e before events → hand e ≡ Takes index holder
      → holders hand index before ≡ []

  -- an index that goes to a holder only where it has none has one holder at most
  at_most_one : (i : ℕ) (held : List ℕ) (h : Hand) → ((index holder : ℕ) → h ≡ Takes index holder → i ≡ index → held ≡ [])
      → length held ≤ 1 → length (held_after i held h) ≤ 1
  at_most_one i held (Takes index holder) free few = go (index == i) refl
    where
      -- If the index that is taken is i, then i had no holder.
      none : index ≡ i → held ≡ []
      none same_index = free index holder refl (sym same_index)

      go : (b : Bool) → (index == i) ≡ b → length (if b then holder ∷ held else held) ≤ 1
      go true test = let same_index : index ≡ i = is_it index i test in rw (none same_index) (omega arith)
      go false test = few
  at_most_one i held (Gives index) free few = go (index == i)
    where
      -- The cases are whether the index that is given back is i.
      go : (b : Bool) → length (if b then [] else held) ≤ 1
      go true = omega arith
      go false = few
  at_most_one i held Neither free few = few

  -- where each index goes to a holder only where it has none, no index has two
  pub no_two_hold : (events : List (Event T)) → TakesFree events → NoTwoHold hand events
  no_two_hold events free =
      always (λ past. (i : ℕ) → length (holders hand i past) ≤ 1) events (λ i. omega arith)
      (λ e before at few i.
      rw (one_after i before e) (at_most_one i (holders hand i before) (hand e)
      (λ index holder takes is. rw is (free e before index holder at takes)) (few i)))

  -- ---- none is held once the set is locked

  -- the lock comes where none is held, and no index goes to a holder after it
  pub record LocksFree (events : List (Event T)) : Type 0 where
    pub locked : (p : ℕ) → hand (Locked p) ≡ Neither
    pub at_lock : (p : ℕ) (before : List (Event T)) → Follows (Locked p) before events → (i : ℕ) → holders hand i before ≡ []
    pub before_lock : (e : Event T) (before : List (Event T)) (index holder : ℕ) → Follows e before events → hand e ≡ Takes index holder
        → unique.is_locked before ≡ false

  -- If the set is locked, no index has a holder.
  abbrev IsNone : List (Event T) → Type 0
  IsNone past = unique.is_locked past ≡ true → (i : ℕ) → holders hand i past ≡ []

  -- an event that is no lock
  quiet_none : (events : List (Event T)) → LocksFree events → (e : Event T) (before : List (Event T)) → Follows e before events
      → ((b : Bool) → unique.locked_after b e ≡ b) → IsNone before → IsNone (before ++ e ∷ [])
  quiet_none events free e before follows quiet none locked i =
      let still : unique.is_locked before ≡ true =
      sym (quiet (unique.is_locked before)) ∙ (sym (fold-append unique.locked_after false before (e ∷ [])) ∙ locked) in
      one_after i before e
      ∙ (ap (λ (held : List ℕ). after i held e) (none still i)
      ∙ stays_none i (hand e) (λ index holder takes. true_false (unique.is_locked before) still (free.before_lock e before index holder follows takes)))

  -- an event keeps that no index has a holder once the set is locked
  next_none : (events : List (Event T)) → LocksFree events → (e : Event T) (before : List (Event T)) → Follows e before events
      → IsNone before → IsNone (before ++ e ∷ [])
  next_none events free (Locked p) before follows none = λ locked i.
      one_after i before (Locked p)
      ∙ (ap (held_after i (holders hand i before)) (free.locked p) ∙ free.at_lock p before follows i)
  next_none events free e before follows none = quiet_none events free e before follows (λ b. refl) none

  -- If no index is given once the set is locked, then none is in these events.
  pub none_once_locked : (events : List (Event T)) → LocksFree events → NoneOnceLocked hand events
  none_once_locked events free = always IsNone events (λ locked i. refl) (next_none events free)

-- ---- the holder that a family reads is the latest one

-- The latest holder, if there is one.
abbrev pub latest : List ℕ → Option ℕ
latest [] = None
latest (x ∷ xs) = Some x

-- A list without a latest holder is empty.
pub none_latest : (held : List ℕ) → latest held ≡ None → held ≡ []
none_latest [] latest_is = refl
none_latest (x ∷ xs) latest_is = absurd (cc)

-- A list of at most one holder, whose latest is x, has x alone.
pub one_latest : (held : List ℕ) (x : ℕ) → latest held ≡ Some x → length held ≤ 1 → held ≡ x ∷ []
one_latest [] x latest_is few = absurd (cc)
one_latest (y ∷ []) x latest_is few = let same_item : y ≡ x = cc in ap (λ (n : ℕ). n ∷ []) same_item
one_latest (y ∷ z ∷ zs) x latest_is few = absurd (omega arith)

-- The latest holder after an event that takes the index, if it is this index that is taken.
if_takes : (b : Bool) (x : ℕ) (held : List ℕ) → latest (if b then x ∷ held else held) ≡ (if b then Some x else latest held)
if_takes true x held = refl
if_takes false x held = refl

-- The latest holder after an event that gives the index back, if it is this index that is given back.
if_gives : (b : Bool) (held : List ℕ) → latest (if b then [] else held) ≡ (if b then None else latest held)
if_gives true held = refl
if_gives false held = refl

module _ {T : Type 0} where
  -- the latest holder is the one that a family reads from the events
  reads : (hand : Event T → Hand) (i : ℕ) (read : Option ℕ → Event T → Option ℕ)
      → ((held : List ℕ) (e : Event T) → latest (held_after i held (hand e)) ≡ read (latest held) e)
      → (es : List (Event T)) (held : List ℕ)
      → latest (fold (λ held e. held_after i held (hand e)) held es) ≡ fold read (latest held) es
  reads hand i read one [] held = refl
  reads hand i read one (e ∷ es) held =
      reads hand i read one es (held_after i held (hand e)) ∙ ap (λ (o : Option ℕ). fold read o es) (one held e)

  -- The latest holder by claims changes with an event as the holder of the unique index set does.
  one_claim : (i : ℕ) (held : List ℕ) (e : Event T) → latest (held_after i held (claims e)) ≡ unique.holder_after i (latest held) e
  one_claim i held (Claimed p index) = if_takes (index == i) p held
  one_claim i held (Freed p index) = if_gives (index == i) held
  one_claim i held e = refl

  -- The latest holder by the claims is the holder that the index set reads.
  pub claims_read : (i : ℕ) (events : List (Event T)) → latest (holders claims i events) ≡ unique.holder_of i events
  claims_read i events = reads claims i (unique.holder_after i) (one_claim i) events []

  -- The latest owner by fills changes with an event as the owner that fills the index does.
  one_fill : (i : ℕ) (held : List ℕ) (e : Event T) → latest (held_after i held (fills e)) ≡ robust.filled_after i (latest held) e
  one_fill i held (Filled p index o) = if_takes (index == i) o held
  one_fill i held (FreedOf p index o) = if_gives (index == i) held
  one_fill i held e = refl

  -- The latest holder by the fills is the owner that the robust set reads.
  pub fills_read : (i : ℕ) (events : List (Event T)) → latest (holders fills i events) ≡ robust.filled_of i events
  fills_read i events = reads fills i (robust.filled_after i) (one_fill i) events []

  -- The latest owner by grants changes with an event as the holder in a set of owners does.
  one_grant : (i : ℕ) (held : List ℕ) (e : Event T) → latest (held_after i held (grants e)) ≡ robust.holder_after i (latest held) e
  one_grant i held (Granted p index o) = if_takes (index == i) o held
  one_grant i held (FreedOf p index o) = if_gives (index == i) held
  one_grant i held e = refl

  -- The latest holder by the grants is the holder that the robust set reads.
  pub grants_read : (i : ℕ) (events : List (Event T)) → latest (holders grants i events) ≡ robust.holder_of i events
  grants_read i events = reads grants i (robust.holder_after i) (one_grant i) events []

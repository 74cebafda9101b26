-- What a seat has taken once more than it gave back (a role, an index) is held by one of its
-- parties, by the events.
use Rattle.history.proofs.Names.{◌≡◌, ◌≤◌, ℕ, ◌+◌, Option, Some, None, List, [], ◌∷◌}
use Rattle.history.proofs.Names.{◌++◌, fold, refl, sym, ap, subst, append_assoc, append-nil, arith, sum_by}
use Rattle.history.proofs.Names.{fold-append, Event, Each, whose}
use Rattle.history.specs.Known.{owned, if_owned}
use Rattle.history.proofs.Known.{sum_first}

-- an event that counts for the seat is of one of its parties
one_of : (owner : ℕ → ℕ) (j : ℕ) (o : Option ℕ) → if_owned owner j o 1 ≡ 1 → (p : ℕ) × (owner p ≡ j) × (o ≡ Some p)
one_of = grind arith

-- an event counts at most once for a seat
at_most_one : (owner : ℕ → ℕ) (j : ℕ) (o : Option ℕ) → if_owned owner j o 1 ≤ 1
at_most_one = grind arith

-- what is taken and given back one at a time, and who holds it by the events
module _ {T : Type 0} (takes gives : Event T → ℕ) (after : Option ℕ → Event T → Option ℕ) where
  -- which party holds it after these events, if one does
  abbrev pub held_in : List (Event T) → Option ℕ
  held_in events = fold after None events

  module _ (owner : ℕ → ℕ) (j : ℕ) where
    -- an event adds to what the parties of a seat took and did not give back just what it adds to
    -- what one of them holds
    abbrev pub Moves : List (Event T) → Event T → Type 0
    Moves before e = owned owner j takes e + if_owned owner j (held_in before) 1 ≡ owned owner j gives e + if_owned owner j (after (held_in before) e) 1

    -- an event that neither takes nor gives back moves nothing
    pub still : (before : List (Event T)) (e : Event T) → takes e ≡ 0 → gives e ≡ 0 → after (held_in before) e ≡ held_in before → Moves before e
    still = grind arith

    -- a party takes what nobody holds
    pub taken : (before : List (Event T)) (e : Event T) (p : ℕ) → whose e ≡ Some p → takes e ≡ 1 → gives e ≡ 0
        → held_in before ≡ None → after (held_in before) e ≡ Some p → Moves before e
    taken = grind arith

    -- a party gives back what it holds
    pub given : (before : List (Event T)) (e : Event T) (p : ℕ) → whose e ≡ Some p → takes e ≡ 0 → gives e ≡ 1
        → held_in before ≡ Some p → after (held_in before) e ≡ None → Moves before e
    given = grind arith

    -- what the parties of a seat took and did not give back, one of them holds
    adds_up : (before es : List (Event T)) → Each Moves (before ++ es)
        → sum_by (owned owner j takes) es + if_owned owner j (held_in before) 1 ≡ sum_by (owned owner j gives) es + if_owned owner j (held_in (before ++ es)) 1
    adds_up before [] each = grind (arith, append-nil)
    adds_up before (e ∷ es) each =
        let longer : (before ++ e ∷ []) ++ es ≡ before ++ e ∷ es = append_assoc before (e ∷ []) es in
        let last : if_owned owner j (held_in ((before ++ e ∷ []) ++ es)) 1 ≡ if_owned owner j (held_in (before ++ e ∷ es)) 1 =
        ap (λ xs. if_owned owner j (held_in xs) 1) longer in
        let next : if_owned owner j (held_in (before ++ e ∷ [])) 1 ≡ if_owned owner j (after (held_in before) e) 1 =
        ap (λ o. if_owned owner j o 1) (fold-append after None before (e ∷ [])) in
        omega (
          arith,
          each before es e refl,
          adds_up (before ++ e ∷ []) es (subst (Each Moves) (sym longer) each),
          sum_first (owned owner j takes) e es,
          sum_first (owned owner j gives) e es,
        )

    -- where a seat has taken it once more than it gave it back, one of its parties holds it
    pub held_by_one : {all : List (Event T)} (made : List (Event T)) → Each Moves all
        → ((f : Event T → ℕ) → sum_by f made ≡ sum_by (owned owner j f) all) → sum_by takes made ≡ sum_by gives made + 1
        → (p : ℕ) × (owner p ≡ j) × (held_in all ≡ Some p)
    held_by_one {all} made each sums holds =
        let a = sums takes in
        let b = sums gives in
        let sum = adds_up [] all each in
        let one : if_owned owner j (held_in all) 1 ≡ 1 = omega arith in
        one_of owner j (held_in all) one

    -- a seat has given it back as often as it took it, or took it once more
    pub at_most : (all made : List (Event T)) → Each Moves all
        → ((f : Event T → ℕ) → sum_by f made ≡ sum_by (owned owner j f) all)
        → (sum_by gives made ≤ sum_by takes made) × (sum_by takes made ≤ sum_by gives made + 1)
    at_most all made each sums =
        let a = sums takes in
        let b = sums gives in
        let sum = adds_up [] all each in
        let most = at_most_one owner j (held_in all) in
        (omega arith, omega arith)

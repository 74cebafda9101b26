-- For clients of the sets: how a call changes the sums over what its pass made, and where its begin stands.
use Rattle.lock_free_sets.proofs.Names.{◌≡◌, ℕ, ◌+◌, ◌≤◌, Bool, cond, List, [], ◌∷◌, ◌++◌, refl, sym, ap, subst}
use Rattle.lock_free_sets.proofs.Names.{◌∙◌, append_assoc, arith, sum_by-append, sum_by-cons, sum_by_push, Answer, Event}
use Rattle.lock_free_sets.proofs.Names.{Begun, Finished, Start, BeginsNone, events_by, View, Called, IsBeginning}
use Rattle.std.specs.List.{sum_by}
use Rattle.model.specs.Reading.{whose, is_party}

-- what a call adds: its begin, what it wrote, its end
pub sum_made : {T : Type 0} → (f : Event T → ℕ) (p : ℕ) (start : Start T) (answer : Answer T) (wrote : List (Event T)) (old new : View T)
    → Called p start answer wrote old new
    → sum_by f new.made ≡ sum_by f old.made + (f (Begun p start) + (sum_by f wrote + f (Finished p start answer)))
sum_made f p start answer wrote old new called = grind (arith, sum_by, sum_by-append, sum_by-cons, sum_by_push)

-- a party's events are some of all events
some_of : (f : Event ℕ → ℕ) (e : Event ℕ) (own all : List (Event ℕ)) (t : Bool) → sum_by f own ≤ sum_by f all
    → sum_by f (cond t (e ∷ []) [] ++ own) ≤ sum_by f (e ∷ all)
some_of f e own all t sum_by_up_to = grind (arith, sum_by-cons)

-- A sum over the events of one party is at most that over all events.
sum_of_party : (f : Event ℕ → ℕ) (p : ℕ) (es : List (Event ℕ)) → sum_by f (events_by p es) ≤ sum_by f es
sum_of_party f p [] = omega arith
sum_of_party f p (e ∷ es) = some_of f e (events_by p es) es (is_party p (whose e)) (sum_of_party f p es)

-- what a call wrote was seen
pub sum_seen : (f : Event ℕ → ℕ) (p : ℕ) (start : Start ℕ) (answer : Answer ℕ) (wrote : List (Event ℕ)) (old new : View ℕ)
    → Called p start answer wrote old new → sum_by f wrote ≤ sum_by f new.seen
sum_seen f p start answer wrote old new called = grind (arith, sum_by, sum_of_party, sum_by-append, sum_by-cons)

-- the sums over what was seen only grow
pub sum_grows : (f : Event ℕ → ℕ) (seen events : List (Event ℕ)) → IsBeginning seen events → sum_by f seen ≤ sum_by f events
sum_grows f seen events beginning = let e = ap (sum_by f) beginning.is ∙ sum_by-append f seen beginning.rest in omega arith

-- What is seen behind a call begins with what was seen before it.
pub seen_begins : (p : ℕ) (start : Start ℕ) (answer : Answer ℕ) (wrote : List (Event ℕ)) (old new : View ℕ)
    → Called p start answer wrote old new → IsBeginning old.seen new.seen
seen_begins p start answer wrote old new called = grind (arith, append_assoc)

-- two lists that are the same with one element more each end with the same element
pub same_last : {A : Type 0} → (xs ys : List A) (a b : A) → xs ++ a ∷ [] ≡ ys ++ b ∷ [] → a ≡ b
same_last [] [] a b e = cc
same_last [] (y ∷ []) a b e = absurd (cc)
same_last [] (y ∷ w ∷ ys) a b e = absurd (cc)
same_last (x ∷ []) [] a b e = absurd (cc)
same_last (x ∷ w ∷ xs) [] a b e = absurd (cc)
same_last (x ∷ xs) (y ∷ ys) a b e = let rest : xs ++ a ∷ [] ≡ ys ++ b ∷ [] = cc in same_last xs ys a b rest

-- what begins no call of the party does not reach back to where one began
begins_one : {A : Type 0} → (p : ℕ) (start : Start ℕ) (xs ys : List (Event ℕ)) → BeginsNone p (xs ++ Begun p start ∷ ys) → A
begins_one p start [] ys none = absurd (none.0 refl)
begins_one p start (Begun q other ∷ xs) ys none = begins_one p start xs ys none.1
begins_one p start (x ∷ xs) ys none = begins_one p start xs ys none

-- if a party begins no call in the rest of the events, all that came before any call that it began
-- lies in the part before the rest
pub reaches : (f : Event ℕ → ℕ) (p : ℕ) (start : Start ℕ) (xs ys part rest : List (Event ℕ))
    → xs ++ Begun p start ∷ ys ≡ part ++ rest → BeginsNone p rest → sum_by f xs ≤ sum_by f part
reaches f p start [] ys part rest e none = let zero : sum_by f [] ≡ 0 = refl in omega arith
reaches f p start (x ∷ xs) ys [] rest e none = begins_one p start (x ∷ xs) ys (subst (λ (es : List (Event ℕ)). BeginsNone p es) (sym e) none)
reaches f p start (x ∷ xs) ys (z ∷ part) rest e none =
    let first : x ≡ z = cc in
    let more : xs ++ Begun p start ∷ ys ≡ part ++ rest = cc in
    let one = sum_by-cons f x xs in
    let two = sum_by-cons f z part in
    let same = ap f first in
    let h = reaches f p start xs ys part rest more none in
    omega arith

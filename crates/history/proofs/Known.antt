-- Which events are a party's and which a seat's (`events_by`, `owned`), as parties are handed from one seat
-- to another, and what may be late for a call.
use Rattle.history.proofs.Names.{◌≡◌, ◌≢◌, ⊎_elim, ℕ, zero, suc, ◌+◌, ◌<◌, Option, Some, None, List, []}
use Rattle.history.proofs.Names.{◌∷◌, ◌++◌, length, refl, sym, ap, ◌∙◌, arith, append_assoc, append-nil}
use Rattle.history.proofs.Names.{sum_by, ◌==◌, false, if◌then◌else◌, ◌≤◌, ◌⊎◌, cases_eq, nat_tests}
use Rattle.history.proofs.Names.{sum_by-append, sum_by-cons, AllByRecursion, Event, whose, Trace}
use Rattle.history.proofs.Names.{Start, Flight, Kind}
use mathlib.Core.Option.{some, some-ne-none}
use lib.ListN.{get_elem?}
use Rattle.history.specs.declared.view.View.{View}
use Rattle.model.specs.declared.turn.Kind.TheVariants as kinds
use Rattle.history.specs.History.{IsBeginning, Fits, call_in, IsLate, IsLateFor, MayBeLate}
use Rattle.history.specs.Known.{own_of, events_by, by_party, owned, if_owned}

-- after the seat `id` takes in the seat `other`, the owner of each party: `id` for those of both
abbrev pub handed_on : ℕ → ℕ → (ℕ → ℕ) → ℕ → ℕ
handed_on id other owner p = if owner p == other then id else owner p

-- a number is at least n, or below it
pub nat_cases : (n p : ℕ) → (n ≤ p) ⊎ (p < n)
nat_cases = grind arith

-- an element of a list is at a place below its length
pub within : {A : Type 0} → (xs : List A) (i : ℕ) (x : A) → get_elem? xs i ≡ some x → i < length xs
within [] i x there_is = absurd (some-ne-none x (sym there_is))
within (y ∷ ys) zero x there_is = omega arith
within (y ∷ ys) (suc i) x there_is = omega (arith, within ys i x there_is)

-- lists that are empty together: the first is empty
pub nil_left : {A : Type 0} → (xs ys : List A) → xs ++ ys ≡ [] → xs ≡ []
nil_left [] ys lists_are = refl
nil_left (x ∷ xs) ys lists_are = absurd (cc)

-- lists that are empty together: the second is empty
pub nil_right : {A : Type 0} → (xs ys : List A) → xs ++ ys ≡ [] → ys ≡ []
nil_right [] ys lists_are = lists_are
nil_right (x ∷ xs) ys lists_are = absurd (cc)

-- a seat that takes in another owns what both owned
one_both : (owner : ℕ → ℕ) (id other n : ℕ) → id ≢ other → (o : Option ℕ)
    → if_owned owner id o n + if_owned owner other o n ≡ if_owned (handed_on id other owner) id o n
one_both = grind arith

-- a seat that is neither of the two keeps its parties
one_third : (owner : ℕ → ℕ) (id other j n : ℕ) → j ≢ id → j ≢ other → (o : Option ℕ) → if_owned owner j o n ≡ if_owned (handed_on id other owner) j o n
one_third = grind arith

module _ {T : Type 0} where
  -- the sum over a list is the measure of the first event and the sum over the rest
  pub sum_first : (f : Event T → ℕ) (e : Event T) (es : List (Event T)) → sum_by f (e ∷ es) ≡ f e + sum_by f es
  sum_first f e es = sum_by-cons f e es

  -- ---- what was seen later begins with what was seen

  -- a list of events is the first part of itself
  pub itself : (es : List (Event T)) → IsBeginning es es
  itself es = record { rest = []; is = sym (append-nil es) }

  -- a first part of a first part of a list is a first part of it
  pub begins_further : (xs ys zs : List (Event T)) → IsBeginning xs ys → IsBeginning ys zs → IsBeginning xs zs
  begins_further xs ys zs first_beginning second_beginning =
      record {
        rest = first_beginning.rest ++ second_beginning.rest;
        is =
            second_beginning.is
            ∙ (ap (λ es. es ++ second_beginning.rest) first_beginning.is ∙ append_assoc xs first_beginning.rest second_beginning.rest);
      }

  -- ---- whose events

  -- the events of a party in two lists together are those in the first, and then those in the second
  pub by_more : (p : ℕ) (xs ys : List (Event T)) → events_by p (xs ++ ys) ≡ events_by p xs ++ events_by p ys
  by_more p [] ys = refl
  by_more p (x ∷ xs) ys = ap (λ zs. own_of p x ++ zs) (by_more p xs ys) ∙ sym (append_assoc (own_of p x) (events_by p xs) (events_by p ys))

  -- if a party wrote none of the later events, its events are those before
  pub by_same : (p : ℕ) (xs ys : List (Event T)) → events_by p ys ≡ [] → events_by p (xs ++ ys) ≡ events_by p xs
  by_same p xs ys none = grind (arith, by_more, append-nil)

  -- each event of the list is of this party
  abbrev pub AreOf : ℕ → List (Event T) → Type 0
  AreOf p es = AllByRecursion (λ e. whose e ≡ Some p) es

  -- an event of party p is what it writes for p
  pub own_mine : (p : ℕ) (e : Event T) → whose e ≡ Some p → own_of p e ≡ e ∷ []
  own_mine p e whose_is = grind (arith, nat_tests)

  -- an event of party p is none of another party
  own_other : (p q : ℕ) (e : Event T) → q ≢ p → whose e ≡ Some p → own_of q e ≡ []
  own_other p q e ne whose_is = grind (arith, false, nat_tests)

  -- where each event is of the party, the party's events are all
  pub by_mine : (p : ℕ) (es : List (Event T)) → AreOf p es → events_by p es ≡ es
  by_mine p [] are = refl
  by_mine p (e ∷ es) are = ap (λ xs. xs ++ events_by p es) (own_mine p e are.0) ∙ ap (λ xs. e ∷ xs) (by_mine p es are.1)

  -- where each event is of another party, this party has none
  pub by_other : (p q : ℕ) (es : List (Event T)) → q ≢ p → AreOf p es → events_by q es ≡ []
  by_other p q [] ne are = refl
  by_other p q (e ∷ es) ne are = ap (λ xs. xs ++ events_by q es) (own_other p q e ne are.0) ∙ by_other p q es ne are.1

  -- a party that has written nothing has written nothing in a first part of the events
  pub none_before : (p : ℕ) (seen events : List (Event T)) → IsBeginning seen events → events_by p events ≡ [] → events_by p seen ≡ []
  none_before = grind (arith, nil_left, by_more)

  -- ---- the events of the parties of one seat

  -- an event of a party that wrote nothing is of no party of the seat
  not_by : (owner : ℕ → ℕ) (j : ℕ) (e : Event T) (es : List (Event T))
      → ((p : ℕ) → owner p ≡ j → events_by p (e ∷ es) ≡ []) → (f : Event T → ℕ) → owned owner j f e ≡ 0
  not_by = grind arith

  -- a seat whose parties wrote nothing owns no event
  pub owned_none : (owner : ℕ → ℕ) (j : ℕ) (f : Event T → ℕ) (es : List (Event T))
      → ((p : ℕ) → owner p ≡ j → events_by p es ≡ []) → sum_by (owned owner j f) es ≡ 0
  owned_none owner j f [] none = refl
  owned_none owner j f (e ∷ es) none =
      omega (
        arith,
        not_by owner j e es none f,
        owned_none owner j f es (λ p of_j. nil_right (own_of p e) (events_by p es) (none p of_j)),
        sum_first (owned owner j f) e es,
      )

  -- two seats together own what one of them owns that takes over the parties of the other
  pub owned_both : (owner : ℕ → ℕ) (id other : ℕ) (f : Event T → ℕ) → id ≢ other → (es : List (Event T))
      → sum_by (owned owner id f) es + sum_by (owned owner other f) es ≡ sum_by (owned (handed_on id other owner) id f) es
  owned_both owner id other f ne [] = refl
  owned_both owner id other f ne (e ∷ es) =
      omega (
        arith,
        sum_first (owned owner id f) e es,
        sum_first (owned owner other f) e es,
        sum_first (owned (handed_on id other owner) id f) e es,
        one_both owner id other (f e) ne (whose e),
        owned_both owner id other f ne es,
      )

  -- what a third seat owns stays
  pub owned_third : (owner : ℕ → ℕ) (id other j : ℕ) (f : Event T → ℕ) → j ≢ id → j ≢ other → (es : List (Event T))
      → sum_by (owned owner j f) es ≡ sum_by (owned (handed_on id other owner) j f) es
  owned_third owner id other j f ne apart [] = refl
  owned_third owner id other j f ne apart (e ∷ es) =
      omega (
        arith,
        one_third owner id other j (f e) ne apart (whose e),
        owned_third owner id other j f ne apart es,
        sum_first (owned owner j f) e es,
        sum_first (owned (handed_on id other owner) j f) e es,
      )

  -- a seat without a call under way has no party with one
  pub idle_seat : (owner : ℕ → ℕ) (t : Trace T) (j : ℕ) (v : View T) → v.going ≡ None → Fits owner t j v → (p : ℕ) → owner p ≡ j → call_in t.world p ≡ None
  idle_seat = grind arith

  -- ---- what the party did among these events

  -- the events of a party among the events of that party are all of these
  pub by_twice : (p : ℕ) (es : List (Event T)) → events_by p (events_by p es) ≡ events_by p es
  by_twice p [] = refl
  by_twice p (e ∷ es) =
      by_more p (own_of p e) (events_by p es)
      ∙ (ap (λ xs. xs ++ events_by p (events_by p es)) (here (whose e) refl) ∙ ap (λ xs. own_of p e ++ xs) (by_twice p es))
    where
      -- of the events that one event makes for its party, each is of that party
      here : (o : Option ℕ) → whose e ≡ o → events_by p (own_of p e) ≡ own_of p e
      here None whose_is = rw whose_is refl
      here (Some q) whose_is = grind (arith, by_mine, own_mine, own_other, cases_eq)

  -- among the events of one party there is none of another
  pub by_apart : (p q : ℕ) (es : List (Event T)) → q ≢ p → events_by q (events_by p es) ≡ []
  by_apart p q [] ne = refl
  by_apart p q (e ∷ es) ne =
      by_more q (own_of p e) (events_by p es) ∙ (ap (λ xs. xs ++ events_by q (events_by p es)) (here (whose e) refl) ∙ by_apart p q es ne)
    where
      -- of the events that one event makes for its party, none is of another
      here : (o : Option ℕ) → whose e ≡ o → events_by q (own_of p e) ≡ []
      here None whose_is = rw whose_is refl
      here (Some r) whose_is = grind (arith, by_other, own_mine, own_other, cases_eq)

  -- where no other party of the seat wrote anything, what the seat's parties wrote is what this one wrote
  pub owned_one : (owner : ℕ → ℕ) (j p : ℕ) (f : Event T → ℕ) (es : List (Event T)) → owner p ≡ j
      → ((q : ℕ) → owner q ≡ j → q ≢ p → events_by q es ≡ []) → sum_by (owned owner j f) es ≡ sum_by f (events_by p es)
  owned_one owner j p f [] mine none = refl
  owned_one owner j p f (e ∷ es) mine none =
      omega (
        arith,
        first (whose e) refl,
        owned_one owner j p f es mine (λ q of_j ne. nil_right (own_of q e) (events_by q es) (none q of_j ne)),
        sum_first (owned owner j f) e es,
        sum_by-append f (own_of p e) (events_by p es),
      )
    where
      -- the first event counts for the seat where it is of the party
      first : (o : Option ℕ) → whose e ≡ o → owned owner j f e ≡ sum_by f (own_of p e)
      first None whose_is = rw whose_is refl
      first (Some q) whose_is = ⊎_elim same other (cases_eq q p)
        where
          -- an event of party p counts for the seat as p's
          same : q ≡ p → owned owner j f e ≡ sum_by f (own_of p e)
          same = grind (arith, mine, owned, own_mine, sum_first, nat_tests)

          -- an event of another party counts nothing for the seat, since that party wrote nothing
          other : q ≢ p → owned owner j f e ≡ sum_by f (own_of p e)
          other = grind (arith, own_other, owned, own_mine, nil_left, false, cases_eq, nat_tests)

  -- ---- what another may write for a call

  -- nothing is late for a party without a call under way
  pub late_none : (k : Kind) (late : List (Event T)) → IsLate k None late → late ≡ []
  late_none kinds.Overflow late is_late = is_late
  late_none k late is_late = is_late

  -- for any call, no event at all may be late
  none_may : (c : Start T × Flight T) → MayBeLate c []
  none_may = grind arith

  -- the empty list of events may always be late
  none_for : (o : Option (Start T × Flight T)) → IsLateFor o []
  none_for None = refl
  none_for (Some c) = none_may c

  -- on any kind, the empty list of events may always be late
  pub none_late : (k : Kind) (o : Option (Start T × Flight T)) → IsLate k o []
  none_late kinds.Overflow o = none_for o
  none_late k o = refl

  -- two empty lists are empty together
  both_none : (a b : List (Event T)) → a ≡ [] → b ≡ [] → a ++ b ≡ []
  both_none a b a_is b_is = ap (λ zs. zs ++ b) a_is ∙ b_is

  -- what holds of each event of two lists holds of each of both together
  all_both : (P : Event T → Type 0) (a b : List (Event T)) → AllByRecursion P a → AllByRecursion P b → AllByRecursion P (a ++ b)
  all_both P [] b first_all_hold second_all_hold = second_all_hold
  all_both P (e ∷ a) b first_all_hold second_all_hold = (first_all_hold.0, all_both P a b first_all_hold.1 second_all_hold)

  -- for any call, events that may be late, one list after another, may be late together
  may_more : (c : Start T × Flight T) (a b : List (Event T)) → MayBeLate c a → MayBeLate c b → MayBeLate c (a ++ b)
  may_more = grind (arith, all_both, both_none)

  -- events that may be late, one list after another, may be late together
  more_for : (o : Option (Start T × Flight T)) (a b : List (Event T)) → IsLateFor o a → IsLateFor o b → IsLateFor o (a ++ b)
  more_for None a b first_late_for second_late_for = both_none a b first_late_for second_late_for
  more_for (Some c) a b first_late_for second_late_for = may_more c a b first_late_for second_late_for

  -- on any kind, events that may be late, one list after another, may be late together
  pub late_more : (k : Kind) (o : Option (Start T × Flight T)) (a b : List (Event T)) → IsLate k o a → IsLate k o b → IsLate k o (a ++ b)
  late_more kinds.Overflow o a b first_late second_late = more_for o a b first_late second_late
  late_more k o a b first_late second_late = both_none a b first_late second_late

  pub by_nothing : (o : Option ℕ) → by_party {T = T} o [] ≡ []
  by_nothing None = refl
  by_nothing (Some p) = refl

  -- nothing is late for a seat's party without a call under way
  pub quiet_late : {owner : ℕ → ℕ} {t : Trace T} {j : ℕ} {v : View T} → (f : Fits owner t j v) → (p : ℕ)
      → owner p ≡ j → call_in t.world p ≡ None → events_by p f.late ≡ []
  quiet_late = grind (arith, cases_eq, late_none, by_apart)

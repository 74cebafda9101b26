-- The calls that passes made stand in one history, in the order in which each pass, and those that it took in, made them.
use Rattle.history.proofs.Names.{◌≡◌, ℕ, ◌+◌, ◌<◌, ◌==◌, Bool, true, false, cond, Some, List, [], ◌∷◌, ◌++◌, length}
use Rattle.history.proofs.Names.{refl, sym, ap, subst, ◌∙◌, append_assoc, arith, Contains, Answer, Event, Begun}
use Rattle.history.proofs.Names.{Finished, Start, Call, response_in, calls_from, calls_of}
use Rattle.history.proofs.Names.{Precedes}
use Rattle.std.proofs.lemmas.List.{length-append}
use Rattle.model.proofs.Linearizable.Acting.{call_at, response_at, responded, passed}
use Rattle.model.proofs.Linearizable.Members.{here, there}
use Rattle.history.specs.declared.view.View.{View}
use Rattle.history.specs.History.{IsBeginning, Called}
use Rattle.history.specs.Known.{own_of, events_by}
use Rattle.history.specs.Order.{StandsIn, EndsNone}
use Rattle.history.proofs.Numbers.{is_number, no_number}

module _ {T : Type 0} where
  -- ---- no ends

  -- an event that is no end of a call of the party can be left out
  without : (p : ℕ) (e : Event T) (es : List (Event T)) → (EndsNone p (e ∷ es) → EndsNone p es) → EndsNone p (own_of p e ++ es) → EndsNone p es
  without = grind arith

  -- if no event of the party ends a call, no event ends a call of the party
  ends_none : (p : ℕ) (es : List (Event T)) → EndsNone p (events_by p es) → EndsNone p es
  ends_none p [] ends_none_here = tt
  ends_none p (Finished q s a ∷ es) ends_none_here = go (q == p) refl (λ more. ends_none p es more)
    where
      mine : (t : Bool) → (q == p) ≡ t → EndsNone p (cond t (Finished q s a ∷ []) [] ++ events_by p es)
      mine t test_is = grind (arith, cond)

      -- whether the end is of this party or of another one, none of the events ends a call of the party
      go : (t : Bool) → (q == p) ≡ t → (EndsNone p (events_by p es) → EndsNone p es) → EndsNone p (Finished q s a ∷ es)
      go true test_is rest = absurd ((mine true test_is).0 (is_number q p test_is))
      go false test_is rest = (no_number q p test_is, rest (mine false test_is))
  ends_none p (e ∷ es) ends_none_here = ends_none p es (without p e (events_by p es) (λ x. x) ends_none_here)

  -- ---- where a call stands

  -- equal places make equal calls, with the responses behind them
  same_place : (p : ℕ) (start : Start T) (ys : List (Event T)) (m n : ℕ) → m ≡ n
      → call_at m p start (response_in p ys (m + 1)) ≡ call_at n p start (response_in p ys (n + 1))
  same_place p start ys m n m_is = ap (λ z. call_at z p start (response_in p ys (z + 1))) m_is

  -- a call that begins there stands among the calls of the history, at its place and with its response
  call_there : {p : ℕ} {start : Start T} (xs ys : List (Event T)) (k n : ℕ) → n ≡ k + length xs
      → Contains (calls_from (xs ++ Begun p start ∷ ys) k) (call_at n p start (response_in p ys (n + 1)))
  call_there [] ys k n n_is = grind (arith, here, calls_from, same_place)
  call_there {p} {start} (Begun q s ∷ xs) ys k n n_is =
      there (call_at k q s (response_in q (xs ++ Begun p start ∷ ys) (k + 1)))
      (call_at n p start (response_in p ys (n + 1))) (calls_from (xs ++ Begun p start ∷ ys) (k + 1))
      (call_there xs ys (k + 1) n (omega arith))
  call_there {p} {start} (x ∷ xs) ys k n n_is = call_there xs ys (k + 1) n (omega arith)

  -- the response to a call is the first end of a call of its party behind it
  response_there : (p : ℕ) (start : Start T) (answer : Answer T) (during rest : List (Event T)) (k n : ℕ)
      → EndsNone p during → n ≡ k + length during
      → response_in p (during ++ Finished p start answer ∷ rest) k ≡ Some (response_at n answer)
  response_there p start answer [] rest k n none n_is = grind (arith, responded)
  response_there p start answer (Finished q s a ∷ es) rest k n none n_is =
      passed p q s a (es ++ Finished p start answer ∷ rest) k none.0 ∙ response_there p start answer es rest (k + 1) n none.1 (omega arith)
  response_there p start answer (x ∷ es) rest k n none n_is = response_there p start answer es rest (k + 1) n none (omega arith)

  module _ {p : ℕ} {start : Start T} {answer : Answer T} {wrote : List (Event T)} {old new : View T}
      (called : Called p start answer wrote old new) (none : EndsNone p wrote) {history : List (Event T)}
      (beginning : IsBeginning new.seen history) where
    abbrev rest : List (Event T)
    rest = beginning.rest

    abbrev before : List (Event T)
    before = old.seen ++ called.others

    abbrev end : Event T
    end = Finished p start answer

    abbrev behind : List (Event T)
    behind = called.during ++ end ∷ rest

    whole : history ≡ before ++ Begun p start ∷ behind
    whole = grind (arith, append_assoc)

    no_ends : EndsNone p called.during
    no_ends = grind (arith, ends_none)

    abbrev at : ℕ
    at = length before

    abbrev its : Call T
    its = call_at at p start (response_in p behind (at + 1))

    -- a call that a pass has made stands in each history that goes on from what the pass has seen
    pub stands_in : StandsIn p start answer old new history
    stands_in =
        record {
          call = its;
          there = subst (λ h. Contains (calls_of h) its) (sym whole) (call_there before behind 0 at (omega arith));
          party = refl;
          named = refl;
          ends = at + 1 + length called.during;
          answered = response_there p start answer called.during rest (at + 1) (at + 1 + length called.during) no_ends refl;
          after = omega (arith, length-append old.seen called.others);
          before = seen_by;
        }
      where
        -- the call ends within what its pass has seen then
        seen_by : at + 1 + length called.during < length new.seen
        seen_by =
            let all : length new.seen ≡ length (before ++ Begun p start ∷ (called.during ++ end ∷ [])) = ap length called.is in
            omega (arith, length-append before (Begun p start ∷ (called.during ++ end ∷ [])), length-append called.during (end ∷ []))

  -- a call that ended in what a pass had seen as it made the next one stands before that
  pub in_order : {p q : ℕ} {s t : Start T} {a b : Answer T} {old new later last : View T} {history : List (Event T)}
      (x : StandsIn p s a old new history) (y : StandsIn q t b later last history)
      → IsBeginning new.seen later.seen → Precedes x.call y.call
  in_order = grind (arith, length, length-append)

-- Events of one party that move one index alone, and leave who the receiver is: where each
-- index is after them.
use Rattle.laws_loan.proofs.Names.{◌≡◌, ◌≢◌, ℕ, Option, Some, None, List, [], ◌∷◌, ◌++◌, fold, ap, refl, sym, subst}
use Rattle.laws_loan.proofs.Names.{◌∙◌, eq-eqb, fold-append, Event, Spot, Free, Passing, Move, move_of, spot_after}
use Rattle.laws_loan.proofs.Names.{⊎_elim, cases_eq, ne_eqb, spot_of, receiver_after, receiver_of, Span, own_after, span_of, AreOwn}
use Rattle.std.proofs.Common.{arith}
use Rattle.laws_loan.proofs.Carried.{span_then, carried_on}
use Rattle.laws_loan.proofs.Invariant.{Carries}
use Rattle.laws_loan.proofs.Spots.{passing_on}
use Rattle.laws_loan.proofs.Still.{AreStill}

-- the event moves this index, or none
abbrev pub OfIndex : ℕ → Option Move → Type 0
OfIndex index None = Unit {0}
OfIndex index (Some move) = move.index ≡ index

-- where an index is after the event, if it was at `spot`
abbrev pub spot_then : Spot → Option Move → Spot
spot_then spot None = spot
spot_then spot (Some move) = move.to

module _ {T : Type 0} where
  -- each of these events moves this index, or none
  abbrev pub AreOf : ℕ → List (Event T) → Type 0
  AreOf index [] = Unit {0}
  AreOf index (e ∷ es) = OfIndex index (move_of e) × AreOf index es

  -- where an index is after these events, if it was at `spot`
  abbrev pub spot_last : Spot → List (Event T) → Spot
  spot_last spot [] = spot
  spot_last spot (e ∷ es) = spot_last (spot_then spot (move_of e)) es

  -- an event that moves the index, or none, leaves it where `spot_then` says
  moves_so : (index : ℕ) (e : Event T) (spot : Spot) → OfIndex index (move_of e) → spot_after index spot e ≡ spot_then spot (move_of e)
  moves_so = grind (arith, eq-eqb)

  -- an event that moves one index, or none, leaves every other index where it was
  moves_none : (index i : ℕ) (e : Event T) (spot : Spot) → OfIndex index (move_of e) → index ≢ i → spot_after i spot e ≡ spot
  moves_none = grind (arith, ne_eqb)

  -- after events that move this index alone it is where `spot_last` says
  last_is : (index : ℕ) (es : List (Event T)) (spot : Spot) → AreOf index es → fold (spot_after index) spot es ≡ spot_last spot es
  last_is index [] spot of = refl
  last_is index (e ∷ es) spot of = ap (λ at. fold (spot_after index) at es) (moves_so index e spot of.0) ∙ last_is index es (spot_then spot (move_of e)) of.1

  -- events of one index leave the spot of any other
  others_stay : (index i : ℕ) (es : List (Event T)) (spot : Spot) → AreOf index es → index ≢ i → fold (spot_after i) spot es ≡ spot
  others_stay index i [] spot of ne = refl
  others_stay index i (e ∷ es) spot of ne = ap (λ at. fold (spot_after i) at es) (moves_none index i e spot of.0 ne) ∙ others_stay index i es spot of.1 ne

  -- events that move no index are among those that move this index alone (`AreOf`)
  pub of_still : (index : ℕ) (es : List (Event T)) → AreStill es → AreOf index es
  of_still index [] still = tt
  of_still index (e ∷ es) still = (subst (OfIndex index) (sym still.0.moves) tt, of_still index es still.1)

  -- events that move nothing leave the last spot
  pub last_still : (spot : Spot) (es : List (Event T)) → AreStill es → spot_last spot es ≡ spot
  last_still spot [] still = refl
  last_still spot (e ∷ es) still = ap (λ at. spot_last at es) (ap (spot_then spot) still.0.moves) ∙ last_still spot es still.1

  -- events that move nothing leave the receiver
  pub calm_still : (r : ℕ) (es : List (Event T)) → AreStill es → fold receiver_after r es ≡ r
  calm_still r [] still = refl
  calm_still r (e ∷ es) still = ap (λ n. fold receiver_after n es) (still.0.receiver r) ∙ calm_still r es still.1

-- The events `es`, written behind `events`, are all of the party `p`, move this index or none, and lead it from the spot `from` to the spot
-- `to`; by none of them does anybody become the receiver.
pub record OneMove {T : Type 0} (p index : ℕ) (events es : List (Event T)) (from to : Spot) : Type 0 where
  -- the events are the party's own, and move this index alone
  pub own : AreOwn p es
  pub of : AreOf index es
  -- where the index was, and where they lead it
  pub was : spot_of index events ≡ from
  pub goes : spot_last from es ≡ to
  -- nobody becomes the receiver
  pub calm : (r : ℕ) → fold receiver_after r es ≡ r

-- the events move one index alone (`one`)
module _ {T : Type 0} {p index : ℕ} {events es : List (Event T)} {from to : Spot} (one : OneMove p index events es from to) where
  -- every other index is where it was
  pub elsewhere : (i : ℕ) → index ≢ i → spot_of i (events ++ es) ≡ spot_of i events
  elsewhere i ne = fold-append (spot_after i) Free events es ∙ others_stay index i es (spot_of i events) one.of ne

  -- the index is at `to`
  pub now_there : spot_of index (events ++ es) ≡ to
  now_there =
      fold-append (spot_after index) Free events es
      ∙ (last_is index es (spot_of index events) one.of ∙ (ap (λ at. spot_last at es) one.was ∙ one.goes))

  -- the receiver is who it was
  pub same_receiver : receiver_of (events ++ es) ≡ receiver_of events
  same_receiver = fold-append receiver_after 1 events es ∙ one.calm (receiver_of events)

  -- an index in passing in the call of `q` is still in passing there, where the index that moves was not
  pub passes_on : (q : ℕ) → (from ≡ Passing q → ⊥) → (i : ℕ) → spot_of i events ≡ Passing q → spot_of i (events ++ es) ≡ Passing q
  passes_on = passing_on events es index elsewhere from one.was

  -- where the index that moves does not come into passing in the call of `q`, an index in passing there afterwards is another one, and was so before
  pub passed_before : (i q : ℕ) → spot_of i (events ++ es) ≡ Passing q → (to ≡ Passing q → ⊥) → (index ≢ i) × (spot_of i events ≡ Passing q)
  passed_before i q now none =
      let apart : index ≢ i = λ same. none (sym now_there ∙ (ap (λ n. spot_of n (events ++ es)) same ∙ now)) in
      (apart, sym (elsewhere i apart) ∙ now)

  -- the span of the party before the events is `span`
  module _ {span : Span T} (span_is : span_of p events ≡ span) where
    -- the span of the party goes on with the events
    pub span_after : span_of p (events ++ es) ≡ fold own_after span es
    span_after = span_then p events es one.own span_is

    -- each index in passing is still carried by the span of its party's call
    pub carried : ((i q : ℕ) → spot_of i events ≡ Passing q → Carries i (span_of q events))
        → ((i : ℕ) → index ≢ i → Carries i span → Carries i (fold own_after span es))
        → ((q : ℕ) → to ≡ Passing q → (q ≡ p) × Carries index (fold own_after span es))
        → (i q : ℕ) → spot_of i (events ++ es) ≡ Passing q → Carries i (span_of q (events ++ es))
    carried passing others here i q spot_is = ⊎_elim mine apart (cases_eq index i)
      where
        -- the index that the events move is carried by the span of the party in whose call it is
        mine : index ≡ i → Carries i (span_of q (events ++ es))
        mine same =
            let found = here q (sym now_there ∙ (ap (λ n. spot_of n (events ++ es)) same ∙ spot_is)) in
            rw (← same, found.0) (subst (Carries index) (sym span_after) found.1)

        -- any other index is carried as before
        apart : index ≢ i → Carries i (span_of q (events ++ es))
        apart ne = carried_on p events es one.own span_is i q (passing i q (sym (elsewhere i ne) ∙ spot_is)) (others i ne)

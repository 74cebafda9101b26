-- Events that move no index, end no reclaim and are no death leave where each index is.
use Rattle.laws_loan.proofs.Names.{◌≡◌, ℕ, Bool, false, Option, None, List, [], ◌∷◌, ◌++◌, refl, sym, ap, subst}
use Rattle.laws_loan.proofs.Names.{◌∙◌, append-nil, append_assoc, fold-append, Event, Book, Move, move_of, spot_of}
use Rattle.laws_loan.proofs.Names.{receiver_after, receiver_of, died_after, has_died_by}
use Rattle.laws_loan.proofs.Lists.{lists_stay}
use Rattle.laws_loan.proofs.Placed.{Placed, placed_on}
use Rattle.laws_loan.proofs.Spots.{is_waiting, is_returning, spot_stays}

module _ {T : Type 0} where
  -- the event moves no index, makes nobody the receiver, and is no death
  pub record Still (e : Event T) : Type 0 where
    pub moves : ◌≡◌ {A = Option Move} (move_of e) None
    pub receiver : (r : ℕ) → receiver_after r e ≡ r
    pub dead : (q : ℕ) (b : Bool) → died_after q b e ≡ b

  -- none of the events moves an index, makes a receiver, or is a death
  abbrev pub AreStill : List (Event T) → Type 0
  AreStill [] = Unit {0}
  AreStill (e ∷ es) = Still e × AreStill es

  -- events that move nothing leave each index where it was
  pub spots_still : (i : ℕ) (events es : List (Event T)) → AreStill es → spot_of i (events ++ es) ≡ spot_of i events
  spots_still i events [] still = ap (spot_of i) (append-nil events)
  spots_still i events (e ∷ es) still =
      ap (spot_of i) (sym (append_assoc events (e ∷ []) es))
      ∙ (spots_still i (events ++ e ∷ []) es still.1 ∙ spot_stays events e i still.0.moves)

  -- events that move nothing leave who the receiver is
  pub receiver_still : (events es : List (Event T)) → AreStill es → receiver_of (events ++ es) ≡ receiver_of events
  receiver_still events [] still = ap receiver_of (append-nil events)
  receiver_still events (e ∷ es) still =
      ap receiver_of (sym (append_assoc events (e ∷ []) es))
      ∙ (receiver_still (events ++ e ∷ []) es still.1 ∙ (fold-append receiver_after 1 events (e ∷ []) ∙ still.0.receiver (receiver_of events)))

  -- each index is in its place before the events, which move nothing
  module _ {slots : ℕ} {claims : List (Option ℕ)} {sent back : List ℕ} {book : Book} where
    -- after an event that moves nothing each index is still where the claims, the queues and the book have it
    one_still : (events : List (Event T)) (e : Event T) → Still e → Placed slots claims sent back book events
        → Placed slots claims sent back book (events ++ e ∷ [])
    one_still events e still placed =
        let same : receiver_of (events ++ e ∷ []) ≡ receiver_of events = fold-append receiver_after 1 events (e ∷ []) ∙ still.receiver (receiver_of events) in
        placed_on events e still.moves placed
        (record {
          places = refl;
          holders = refl;
          receiver = placed.keeps.receiver ∙ sym same;
          dead = λ q. placed.keeps.dead q ∙ sym (fold-append (died_after q) false events (e ∷ []) ∙ still.dead q (has_died_by q events));
          parties = λ i q by. rw same (placed.parties i q by);
        })
        (lists_stay is_waiting sent events e placed.waits still.moves)
        (lists_stay is_returning back events e placed.returns still.moves)

    -- after events that move nothing each index is still where the claims, the queues and the book have it
    pub placed_still : (es : List (Event T)) {events : List (Event T)} → AreStill es → Placed slots claims sent back book events
        → Placed slots claims sent back book (events ++ es)
    placed_still [] {events} still placed = subst (Placed slots claims sent back book) (sym (append-nil events)) placed
    placed_still (e ∷ es) {events} still placed =
        subst (Placed slots claims sent back book) (append_assoc events (e ∷ []) es)
        (placed_still es still.1 (one_still events e still.0 placed))

-- Where each index is by the events (its spot) agrees with who has claimed it, with the indices that wait
-- in the two queues, and with the book. After an event that moves one index this still holds.
use Rattle.laws_loan.proofs.Names.{◌≡◌, ◌≢◌, ℕ, ◌<◌, ◌≤◌, ◌⊎◌, ⊎_elim, false, Option, Some, None, List, [], ◌∷◌, ◌++◌}
use Rattle.laws_loan.proofs.Names.{length, get_or, sym, ap, subst, ◌∙◌, cases_eq, fold-append, place_at, Event}
use Rattle.laws_loan.proofs.Names.{Book, has_died, holder_in, IsIn, KeepsBook, Spot, Free, Passing, With, Move}
use Rattle.laws_loan.proofs.Names.{move_of, spot_of, receiver_after, receiver_of, died_after, has_died_by, holder}
use Rattle.std.proofs.Common.{arith}
use Rattle.steps.specs.declared.loan.places.Place.TheVariants as places
use Rattle.laws_loan.proofs.Lists.{Goes, Lists, lists_go}
use Rattle.laws_loan.proofs.Spots.{is_waiting, is_returning, spot_stays, spot_other, spot_moved}

-- the sender has claimed each index that is not free
abbrev pub claim_of : Spot → Option ℕ
claim_of Free = None
claim_of spot = Some 0

-- the party has the index, or the index is in passing in a call of the party
abbrev pub IsBy : ℕ → Spot → Type 0
IsBy p spot = (spot ≡ With p) ⊎ (spot ≡ Passing p)

-- Of a channel of `slots` slots: each index has its claim by its spot, indices past the slots are
-- free, the two queues have the indices whose spot they are, only the sender and the receiver have
-- indices, and the book agrees.
pub record Placed {T : Type 0} (slots : ℕ) (claims : List (Option ℕ)) (sent back : List ℕ) (book : Book) (events : List (Event T)) : Type 0 where
  -- who has claimed each index
  pub claimed : (i : ℕ) → i < slots → holder claims i ≡ claim_of (spot_of i events)
  pub past : (i : ℕ) → slots ≤ i → spot_of i events ≡ Free
  -- which indices are in which queue, and which parties may have one
  pub waits : Lists is_waiting sent events
  pub returns : Lists is_returning back events
  pub parties : (i p : ℕ) → IsBy p (spot_of i events) → (p ≡ 0) ⊎ (p ≡ receiver_of events)
  -- how long the lists are
  pub claims_long : length claims ≡ slots
  pub places_long : length book.places ≡ slots
  pub holders_long : length book.holders ≡ slots
  -- the book is the one of the events
  pub keeps : KeepsBook book events

-- ---- an event that moves an index

-- two lists of the same length that differ at most at the place `i`
pub record DiffersAt {A : Type 0} (i : ℕ) (none : A) (xs xs' : List A) : Type 0 where
  pub others : (j : ℕ) → i ≢ j → get_or xs' j none ≡ get_or xs j none
  pub long : length xs' ≡ length xs

-- the event `e`, written behind `events`, moves the index `m.index` from its spot to `m.to`; before it each index is in its place
module _ {T : Type 0} {slots : ℕ} {claims : List (Option ℕ)} {sent back : List ℕ} {book : Book} {events : List (Event T)}
    (placed : Placed slots claims sent back book events) (e : Event T) (m : Move) (move_is : move_of e ≡ Some m) where
  abbrev pub later : List (Event T)
  later = events ++ e ∷ []

  -- what holds of the index that moves, and of every other index, holds of all
  pub here_and_there : (P : ℕ → Type 0) → P m.index → ((i : ℕ) → m.index ≢ i → P i) → (i : ℕ) → P i
  here_and_there P here there i = ⊎_elim (λ same. subst P same here) (λ ne. there i ne) (cases_eq m.index i)

  -- What the event shows, after which the claims are `claims'`, the two queues have `sent'` and `back'`, and
  -- the book is `book'`.
  pub record Shown (claims' : List (Option ℕ)) (sent' back' : List ℕ) (book' : Book) : Type 0 where
    pub below : m.index < slots
    -- only the claim of this index changes, and it is the one of its new spot
    pub claim : holder claims' m.index ≡ claim_of m.to
    pub other_claims : DiffersAt m.index None claims claims'
    -- the queues lose and get the index as its spots say
    pub waits : Goes m.index (is_waiting (spot_of m.index events)) (is_waiting m.to) sent sent'
    pub returns : Goes m.index (is_returning (spot_of m.index events)) (is_returning m.to) back back'
    pub party : (p : ℕ) → IsBy p m.to → (p ≡ 0) ⊎ (p ≡ receiver_of events)
    -- only this index's place and holder change in the book
    pub place : IsIn (place_at book'.places m.index) m.to
    pub other_places : DiffersAt m.index places.Free book.places book'.places
    pub holds : get_or book'.holders m.index None ≡ holder_in m.to
    pub other_holders : DiffersAt m.index None book.holders book'.holders
    -- the event ends no reclaim and is no death
    pub calm : (receiver_after (receiver_of events) e ≡ receiver_of events)
        × ((p : ℕ) → died_after p (has_died_by p events) e ≡ has_died_by p events)
        × (book'.receiver ≡ book.receiver) × (book'.dead ≡ book.dead)

  -- the event shows what `Shown` asks
  module _ {claims' : List (Option ℕ)} {sent' back' : List ℕ} {book' : Book} (s : Shown claims' sent' back' book') where
    -- the event leaves the receiver
    same_receiver : receiver_of later ≡ receiver_of events
    same_receiver = fold-append receiver_after 1 events (e ∷ []) ∙ s.calm.0

    -- the book agrees with the events, once the event is written
    keeps_more : KeepsBook book' later
    keeps_more =
        record {
          places = here_and_there (λ i. IsIn (place_at book'.places i) (spot_of i later))
              (subst (IsIn (place_at book'.places m.index)) (sym (spot_moved events e m move_is)) s.place)
              (λ i ne. rw (s.other_places.others i ne)
              (subst (IsIn (place_at book.places i)) (sym (spot_other events e m move_is i ne)) (placed.keeps.places i)));
          holders = here_and_there (λ i. get_or book'.holders i None ≡ holder_in (spot_of i later))
              (s.holds ∙ sym (ap holder_in (spot_moved events e m move_is)))
              (λ i ne. s.other_holders.others i ne ∙ (placed.keeps.holders i ∙ sym (ap holder_in (spot_other events e m move_is i ne))));
          receiver = s.calm.2 ∙ (placed.keeps.receiver ∙ sym same_receiver);
          dead = λ p. ap (has_died p) s.calm.3 ∙ (placed.keeps.dead p ∙ sym (fold-append (died_after p) false events (e ∷ []) ∙ s.calm.1 p));
        }

    -- only the sender and the receiver have indices, once the event is written
    parties_more : (i : ℕ) → (p : ℕ) → IsBy p (spot_of i later) → (p ≡ 0) ⊎ (p ≡ receiver_of later)
    parties_more =
        here_and_there (λ i. (p : ℕ) → IsBy p (spot_of i later) → (p ≡ 0) ⊎ (p ≡ receiver_of later))
        (λ p by. rw same_receiver (s.party p (subst (IsBy p) (spot_moved events e m move_is) by)))
        (λ i ne p by. rw same_receiver (placed.parties i p (subst (IsBy p) (spot_other events e m move_is i ne) by)))

    -- each index is where the claims, the queues and the book have it, once the event is written
    pub placed_more : Placed slots claims' sent' back' book' later
    placed_more =
        record {
          claimed = here_and_there (λ i. i < slots → holder claims' i ≡ claim_of (spot_of i later))
              (λ below. s.claim ∙ sym (ap claim_of (spot_moved events e m move_is)))
              (λ i ne below. s.other_claims.others i ne ∙ (placed.claimed i below ∙ sym (ap claim_of (spot_other events e m move_is i ne))));
          past = here_and_there (λ i. slots ≤ i → spot_of i later ≡ Free)
              (λ beyond. let below = s.below in absurd (omega arith))
              (λ i ne beyond. spot_other events e m move_is i ne ∙ placed.past i beyond);
          waits = lists_go is_waiting sent events e placed.waits move_is sent' s.waits;
          returns = lists_go is_returning back events e placed.returns move_is back' s.returns;
          parties = parties_more;
          claims_long = s.other_claims.long ∙ placed.claims_long;
          places_long = s.other_places.long ∙ placed.places_long;
          holders_long = s.other_holders.long ∙ placed.holders_long;
          keeps = keeps_more;
        }

-- ---- an event that moves no index

-- the event `e`, written behind `events`, moves no index
module _ {T : Type 0} (events : List (Event T)) (e : Event T) (none : move_of e ≡ None) where
  -- each index is where it was
  stays : (i : ℕ) → spot_of i (events ++ e ∷ []) ≡ spot_of i events
  stays i = spot_stays events e i none

  -- the event leaves the book's places and holders, and the book still says who the receiver is, who has
  -- died and who has what
  pub record Leaves (book book' : Book) : Type 0 where
    -- what the event leaves of the book
    pub places : book'.places ≡ book.places
    pub holders : book'.holders ≡ book.holders
    -- what the book says after the event
    pub receiver : book'.receiver ≡ receiver_of (events ++ e ∷ [])
    pub dead : (p : ℕ) → has_died p book'.dead ≡ has_died_by p (events ++ e ∷ [])
    pub parties : (i p : ℕ) → IsBy p (spot_of i events) → (p ≡ 0) ⊎ (p ≡ receiver_of (events ++ e ∷ []))

  -- before the event each index is in its place (`placed`), and the event leaves the book but for the receiver and the dead
  module _ {slots : ℕ} {claims : List (Option ℕ)} {sent back : List ℕ} {book book' : Book} (placed : Placed slots claims sent back book events)
      (leaves : Leaves book book') where
    -- an event that moves no index, and leaves the book, keeps where each index is, if the queues' indices
    -- still wait in them
    pub placed_on : Lists is_waiting sent (events ++ e ∷ []) → Lists is_returning back (events ++ e ∷ [])
        → Placed slots claims sent back book' (events ++ e ∷ [])
    placed_on waits returns =
        record {
          claimed = λ i below. placed.claimed i below ∙ sym (ap claim_of (stays i));
          past = λ i beyond. stays i ∙ placed.past i beyond;
          waits = waits;
          returns = returns;
          parties = λ i p by. leaves.parties i p (subst (IsBy p) (stays i) by);
          claims_long = placed.claims_long;
          places_long = ap length leaves.places ∙ placed.places_long;
          holders_long = ap length leaves.holders ∙ placed.holders_long;
          keeps =
              record {
                places = λ i. rw leaves.places (subst (IsIn (place_at book.places i)) (sym (stays i)) (placed.keeps.places i));
                holders = λ i. ap (λ holders. get_or holders i None) leaves.holders ∙ (placed.keeps.holders i ∙ sym (ap holder_in (stays i)));
                receiver = leaves.receiver;
                dead = leaves.dead;
              };
        }

-- What the sender's call knows once a receive has taken an index out of the submission queue: a send that
-- waited for that has acted.
use Rattle.laws_loan.proofs.Names.{◌≡◌, ◌≢◌, ℕ, ◌+◌, false, Option, List, fold, Event, Flight, Book, Party, Coding}
use Rattle.laws_loan.proofs.Names.{has_died, Passing, spot_of, words_of_index, doing_of, flight_of, Span, own_after}
use Rattle.laws_loan.proofs.Names.{span_of, Core, taken}
use Rattle.std.proofs.Common.{arith}
use Rattle.model.proofs.Frame as frame
use Rattle.laws_loan.proofs.Channel.{Channel}
use Rattle.laws_loan.proofs.WaitingSends.{made}
use Rattle.laws_loan.proofs.Invariant.{hung, reclaims_in, family}

-- the party `p` takes the oldest index out of the submission queue, behind which `rest` waits, and the book and the events are then `book'` and `events'`
module _ {T : Type 0} (slots queue : ℕ) (s : Channel T) (rest : List ℕ) (book' : Book) (events' : List (Event T)) (p : ℕ) where
  -- the submission queue once its oldest index is taken out
  abbrev pub taken_out : Core ℕ
  taken_out = taken 1 words_of_index (queue + 1) s.submission rest

  -- the channel once its oldest index is taken out
  abbrev pub taken_then : Channel T
  taken_then = record s { submission = taken_out; book = book'; events = events' }

  -- the receiver is alive, so no reclaim is under way; and an index in another party's
  -- call is still in passing
  pub record Takes : Type 0 where
    pub receiver : p ≡ s.book.receiver
    pub alive : has_died p s.book.dead ≡ false
    pub passes : (q index : ℕ) → q ≢ p → spot_of index s.events ≡ Passing q → spot_of index events' ≡ Passing q

-- the receiver `p` takes the oldest index out, and is not the sender
module _ {T : Type 0} {slots queue : ℕ} {s : Channel T} {rest : List ℕ} {book' : Book} {events' : List (Event T)} {p : ℕ}
    (takes : Takes slots queue s rest book' events' p) (other : p ≢ 0) where
  -- ---- any call of the sender's

  module _ (code : Coding T) where
    abbrev channel : frame.Family T
    channel = family code slots queue

    -- the span of the sender goes on with the act of the send that waits, if one does
    abbrev SpanGoesOn : Option (Flight T) → Type 0
    SpanGoesOn flight = span_of 0 events' ≡ fold own_after (span_of 0 s.events) (made (hung s.submission.read flight))

    -- the sender's call fits its span afterwards
    pub sender_fits : (o : Option (Party T)) → frame.Fits channel s 0 o (span_of 0 s.events)
        → SpanGoesOn (flight_of (doing_of o)) → frame.Fits channel (taken_then slots queue s rest book' events' p) 0 o (span_of 0 events')
    sender_fits = grind arith

    -- ---- the sender's call is no reclaim

    -- the sender's call is no reclaim
    pub none_reclaims : (o : Option (Party T)) (seen : Span T) → frame.Fits channel s 0 o seen → reclaims_in seen ≡ false
    none_reclaims = grind arith

-- A send that waits: it has published over a full submission queue, and the read position is to go on.
-- Which send that is, and what becomes of its span where a receive makes it act.
use Rattle.laws_loan.proofs.Names.{◌≡◌, ℕ, ◌<◌, inl, inr, Option, Some, None, option_map, List, [], ◌∷◌, ◌++◌}
use Rattle.laws_loan.proofs.Names.{fold, append-nil, eq-eqb, flat_map-append, submission_word, load}
use Rattle.laws_loan.proofs.Names.{Event, Published, Index, Start, Flight, LoanStart, LoanFlight}
use Rattle.laws_loan.proofs.Names.{Party, Coding, gives_back, takes_back, read_in, pending}
use Rattle.laws_loan.proofs.Names.{beside, room_made, hands_out, doing_of, flight_of, Span, Open}
use Rattle.laws_loan.proofs.Names.{own_after, span_of, AreOwn}
use Rattle.std.proofs.Common.{flat_map, arith}
use Rattle.model.specs.declared.families.Flight.TheVariants as flights
use Rattle.model.specs.Families.Loan.Reading.{frees}
use Rattle.model.specs.Families.Queues.Reading.{publishes}
use Rattle.model.specs.Parties.{party_of}
use Rattle.model.proofs.Frame as frame
use Rattle.laws_loan.proofs.Channel.{Channel, words_in}
use Rattle.laws_loan.proofs.Invariant.{sends_at, hung, reclaims_in, Carries, HoldsNow, family}
use Rattle.laws_loan.proofs.Knows.{send_of, At}
use Rattle.laws_loan.proofs.Parts.{submission_long, submission_old}
use Rattle.laws_loan.proofs.Still.{AreStill}

-- ---- the act of the send that waits, which a receive writes

-- the send as the receive's effect names it
abbrev pub by_sender : Option ℕ → Option (ℕ × ℕ)
by_sender waits = option_map (λ (index : ℕ). (0, index)) waits

module _ {T : Type 0} where
  -- the events that a receive writes of the send that waits with this index, if one does
  abbrev pub made : Option ℕ → List (Event T)
  made waits = room_made (by_sender waits)

  -- these events leave the span of a reclaim one of a reclaim
  pub reclaims_made : (waits : Option ℕ) (span : Span T) → reclaims_in (fold own_after span (made waits)) ≡ reclaims_in span
  reclaims_made = grind arith

  -- an event that tells nothing adds nothing to what the events tell
  silent : {X : Type 0} (tells : Event T → List X) (wrote : List (Event T)) (e : Event T) → tells e ≡ []
      → flat_map tells (wrote ++ e ∷ []) ≡ flat_map tells wrote
  silent = grind (arith, flat_map-append, append-nil)

  -- these events leave the index in passing that a call has
  pub carries_made : (waits : Option ℕ) (i : ℕ) (span : Span T) → Carries i span → Carries i (fold own_after span (made waits))
  carries_made = grind (arith, send_of, inl, silent, publishes, inr, hands_out, frees, takes_back, gives_back)

-- the act of a send that waits is an event of the sender
pub made_own : (T : Type 0) (waits : Option ℕ) → AreOwn {T = T} 0 (made waits)
made_own = grind arith

-- the act of a send that waits moves no index
pub made_still : (T : Type 0) (waits : Option ℕ) → AreStill {T = T} (made waits)
made_still = grind arith

-- ---- which send waits

-- ---- which send waits
module _ {T : Type 0} (code : Coding T) (slots queue : ℕ) (s : Channel T) where
  abbrev channel : frame.Family T
  channel = family code slots queue

  -- what holds of each call that the sender can have under way holds of the one that it has
  pub each_call : (P : Option (Flight T) → Type 0) → P None
      → ((start : Start T) (flight : Flight T) → channel.At s 0 start flight → P (Some flight))
      → (o : Option (Party T)) (seen : Span T) → frame.Fits channel s 0 o seen → P (flight_of (doing_of o))
  each_call = grind arith

  -- no send waits at a position that the read position has not reached
  module _ (position : ℕ) (past : s.submission.read < position) where
    -- a call of the sender does not wait at a position that the read position has not reached
    past_flight : (start : Start T) (flight : Flight T) → channel.At s 0 start flight → hung position (Some flight) ≡ None
    past_flight = grind arith

    -- the sender's call, whatever it is, does not wait at a position that the read position has not reached
    pub past_none : (latest : List (ℕ × Party T)) (seen : Span T) → frame.Fits channel s 0 (party_of 0 latest) seen → hung position (sends_at latest) ≡ None
    past_none = grind (arith, each_call, past_flight)

  -- ---- the send that waits, by the words of the whole

  module _ (latest : List (ℕ × Party T)) (turns : ℕ) (holds : HoldsNow slots queue s latest s.events turns) where
    -- the words have the read position of the submission queue
    read_is : read_in (submission_word slots) (words_in s) ≡ s.submission.read
    read_is =
        submission_old holds.parts (load 1)
        (let wide = submission_long holds.parts in omega arith)

    -- the send that waits by the words of the whole is the one that waits by the state, of
    -- each call of a channel
    by_words_call : (wrote : List (Event T)) (start : LoanStart) (flight : LoanFlight)
        → At slots queue s 0 wrote start flight
        → pending {T = T} (words_in s) (Some (flights.Loan flight))
        ≡ hung {T = T} s.submission.read (Some (flights.Loan flight))
    by_words_call = grind (arith, read_in, read_is)

    -- a call is pending by the words just if it is by the queue
    by_words_flight : (start : Start T) (flight : Flight T) → channel.At s 0 start flight
        → pending (words_in s) (Some flight) ≡ hung s.submission.read (Some flight)
    by_words_flight = grind (arith, by_words_call)

    -- the send that a step of the receiver makes act is the one that waits
    pub beside_is : (p : ℕ) → p ≡ s.book.receiver → (seen : Span T)
        → frame.Fits channel s 0 (party_of 0 latest) seen
        → beside s.book (words_in s) latest p ≡ by_sender (hung s.submission.read (sends_at latest))
    beside_is = grind (arith, eq-eqb, pending, sends_at, each_call, by_words_flight)

  -- ---- what the send that waits has written

  abbrev published_it : ℕ → Span T
  published_it index = Open (send_of index) (Published 0 (Index index) ∷ [])

  -- the span of a send that waits says that it has published its index, and nothing more
  pub hung_span : (index : ℕ) (o : Option (Party T)) → frame.Fits channel s 0 o (span_of 0 s.events)
      → hung s.submission.read (flight_of (doing_of o)) ≡ Some index → span_of 0 s.events ≡ published_it index
  hung_span = grind arith

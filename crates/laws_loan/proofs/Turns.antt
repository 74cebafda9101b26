-- What a turn of a loan channel shows of the channel, and that what holds between two turns holds after a
-- turn that shows it.
use Rattle.laws_loan.proofs.Names.{◌≡◌, ◌≢◌, ap, Some, flight_of, doing_of, party_put_same, party_put_other, ℕ, ◌+◌}
use Rattle.laws_loan.proofs.Names.{◌≤◌, false, List, ◌++◌, fold, sym, subst, fold-append, Event, Party, MovesRight}
use Rattle.laws_loan.proofs.Names.{BeginsRight, AnswersRight, Passing, spot_of, receiver_of, reclaims_after, put}
use Rattle.laws_loan.proofs.Names.{span_of, AreRight, Each-append}
use Rattle.std.proofs.Common.{arith}
use Rattle.laws_loan.proofs.Channel.{Channel, Holds}
use Rattle.laws_loan.proofs.Invariant.{Hangs, sends_at, counted_for, hung, reclaims_in, Carries, HoldsNow}
use Rattle.laws_loan.proofs.QueueEvents.{is_reclaiming, Told, Tells, told_more}

-- What a turn of the party `p` shows, from the channel `s` to `s'`, after which the party is `y`, with
-- the events `es`.
pub record Shows {T : Type 0} (slots queue : ℕ) (s s' : Channel T) (p : ℕ) (y : Party T)
    (latest : List (ℕ × Party T)) (turns : ℕ) (es : List (Event T)) : Type 0 where
  -- after the turn the parts of the channel hold what they are to hold, and the events tell of the queues what they then hold
  pub events : s'.events ≡ s.events ++ es
  pub parts : Holds slots queue s' (counted_for (sends_at (put p y latest)))
  pub tells : Tells queue (is_reclaiming s.events) s.submission.waiting s'.submission.waiting s.completion.waiting s'.completion.waiting es
  -- more than the capacity wait only while a send waits, and the events say whether a reclaim is under way
  pub hangs : Hangs queue s'.submission (hung s'.submission.read (sends_at (put p y latest)))
  pub reclaiming : fold reclaims_after (is_reclaiming s.events) es ≡ reclaims_in (span_of 0 (s.events ++ es))
  -- the write positions are at most the number of turns with this one, and the receiver's number goes up by at most one
  pub sent : s'.submission.write ≤ turns + 1
  pub given : s'.completion.write ≤ turns + 1
  pub receivers : (receiver_of s.events ≤ receiver_of (s.events ++ es)) × (receiver_of (s.events ++ es) ≤ receiver_of s.events + 1)
  -- moves, begins and answers are right, and each index in passing is carried by the span
  -- of its party's call
  pub moves : AreRight (MovesRight slots) s.events es
  pub begins : AreRight BeginsRight s.events es
  pub answers : AreRight (AnswersRight slots) s.events es
  pub passing : (index q : ℕ) → spot_of index (s.events ++ es) ≡ Passing q → Carries index (span_of q (s.events ++ es))

-- what holds before the turn and what the turn shows give what holds after it
module _ {T : Type 0} {slots queue : ℕ} {s s' : Channel T} {p : ℕ} {y : Party T} {latest : List (ℕ × Party T)} {turns : ℕ} {es : List (Event T)} where
  -- what holds between two turns holds after a turn that shows this
  pub now_more : HoldsNow slots queue s latest s.events turns → Shows slots queue s s' p y latest turns es
      → HoldsNow slots queue s' (put p y latest) (s.events ++ es) (turns + 1)
  now_more holds_now shows =
      let told =
      subst (Told queue s'.submission.waiting s'.completion.waiting) (sym shows.events)
      (told_more holds_now.told shows.tells) in
      let reclaiming = fold-append reclaims_after false s.events es in
      let moves = Each-append (MovesRight slots) s.events es holds_now.moves shows.moves in
      let begins = Each-append BeginsRight s.events es holds_now.begins shows.begins in
      let answers = Each-append (AnswersRight slots) s.events es holds_now.answers shows.answers in
      grind arith

-- the sender's call after a turn of the sender, and after a turn of another party
module _ {T : Type 0} (latest : List (ℕ × Party T)) (y : Party T) where
  -- after its turn the sender's call is what it does now
  pub sends_now : sends_at (put 0 y latest) ≡ flight_of (Some y.doing)
  sends_now = ap (λ o. flight_of (doing_of o)) (party_put_same 0 y latest)

  -- the turn of another party leaves the sender's call
  pub sends_still : (p : ℕ) → p ≢ 0 → sends_at (put p y latest) ≡ sends_at latest
  sends_still p other = ap (λ o. flight_of (doing_of o)) (party_put_other 0 p y latest (λ e. other (sym e)))

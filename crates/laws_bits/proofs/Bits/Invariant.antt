-- The invariant of a bit set: what holds of its machine between two turns, beside what the frame says of
-- every machine; and what a turn does to its words and writes, so that it holds after the turn.
use Rattle.laws_bits.proofs.Names.{◌≡◌, ◌≢◌, ℕ, ◌+◌, ◌≤◌, List, ◌++◌, fold, length, get_or, refl, sym, ap, ◌∙◌}
use Rattle.laws_bits.proofs.Names.{fold-append, SetStage, ResetNextStage, place_after, at_most, elements}
use Rattle.laws_bits.proofs.Names.{stands, Event, BitsFlight, ResetNext, BitsAnswerRight, CameTo, bits_promise, sets}
use Rattle.laws_bits.proofs.Names.{clears, standing, position_after, position_of, BeginsNone, Each, one_if}
use Rattle.laws_bits.proofs.Names.{held_later, since_more, AreRight, Each-append}
use Rattle.std.proofs.Common.{arith}
use Rattle.model.specs.declared.families.bits.calls.BitsFlight.TheVariants.{Set, ResetAll, IsSet}
use Rattle.model.specs.declared.turn.Kind.TheVariants as kinds
use Rattle.laws_bits.proofs.Bits.Core.{ClearedBelow, cleared_still, sets_more, clears_more}
use Rattle.laws_bits.proofs.Bits.Knows.{CallAt, KnowsCall, KnowsSet, KnowsNext, Paid, Passed, Began, call_wrote, number_of}
use Rattle.laws_bits.proofs.Family.{SetOutline}

-- ---- what the machine holds

-- where a word has another value after the turn, a change was counted
pub record Pays (words words' : List ℕ) (changes changes' : ℕ) : Type 0 where
  pub up : changes ≤ changes'
  pub changed : (i : ℕ) → get_or words' i 0 ≢ get_or words i 0 → changes + 1 ≤ changes'

-- a turn leads from the words `words` to `words'`, and pays for its changes
module _ (words words' : List ℕ) (changes changes' : ℕ) (pays : Pays words words' changes changes') where
  -- a failed exchange that was paid for is paid for still
  paid_still : (since backs element found : ℕ) → Paid words since changes backs element found → Paid words' since changes' backs element found
  paid_still = grind arith

  -- what a set knows it knows still after the turn
  set_still : (since backs bit : ℕ) (stage : SetStage) → KnowsSet words since changes backs bit stage → KnowsSet words' since changes' backs bit stage
  set_still = grind arith

module _ {T : Type 0} where
  -- what holds of the words and of the events
  pub record Holds (c : ℕ) (words : List ℕ) (events : List (Event T)) : Type 0 where
    -- the words are the reset position and the elements; a bit was set as often as cleared, and once more if
    -- it stands; none past the capacity was set
    pub sized : length words ≡ 1 + elements c
    pub conserved : (b : ℕ) → sets b events ≡ clears b events + one_if (stands words b)
    pub within : (b : ℕ) → c ≤ b → sets b events ≡ 0
    -- the reset position is the one by the events
    pub position : get_or words 0 0 ≡ position_of events
    -- each answer is right by the events before it
    pub answers : Each (BitsAnswerRight c) events

  -- ---- what a turn preserves

  -- what a turn preserves: each bit moves as the events say, and so does the reset position
  pub record Preserves (c : ℕ) (words : List ℕ) (events : List (Event T)) (changes : ℕ) (words' : List ℕ) (es : List (Event T)) (changes' : ℕ) : Type 0 where
    pub sized : length words' ≡ length words
    pub moved : (b : ℕ) → sets b es + one_if (stands words b) ≡ clears b es + one_if (stands words' b)
    pub within : (b : ℕ) → c ≤ b → sets b es ≡ 0
    pub position : get_or words' 0 0 ≡ fold position_after (get_or words 0 0) es
    pub pays : Pays words words' changes changes'
    pub right : AreRight (BitsAnswerRight c) events es

  -- a turn after which the same bits stand, and whose events set and clear no bit, preserves what holds
  pub rest_preserves : {c : ℕ} {words : List ℕ} {events : List (Event T)} {changes : ℕ} {words' : List ℕ}
      {es : List (Event T)} {changes' : ℕ}
      → length words' ≡ length words → ((b : ℕ) → stands words' b ≡ stands words b) → ((b : ℕ) → sets b es ≡ 0)
      → ((b : ℕ) → clears b es ≡ 0)
      → get_or words' 0 0 ≡ fold position_after (get_or words 0 0) es → Pays words words' changes changes'
      → AreRight (BitsAnswerRight c) events es → Preserves c words events changes words' es changes'
  rest_preserves sized same no_sets no_clears position pays right =
      record {
        sized = sized;
        moved = λ b. rw (no_sets b, no_clears b, same b) refl;
        within = λ b past. no_sets b;
        position = position;
        pays = pays;
        right = right;
      }

  -- ---- the kind of the bit sets

  -- what is said of the bit sets, as one of the two kinds
  abbrev pub bit_set : SetOutline T
  bit_set =
      record {
        kind = kinds.Bits;
        no_loan = refl;
        promise = bits_promise;
        Holds = λ c words events turns. Holds c words events;
        Preserves = λ c words events turns changes words' es changes'. Preserves c words events changes words' es changes';
        wrote = call_wrote;
        number = number_of;
        At = CallAt;
        Knows = KnowsCall;
      }

  -- the turn preserves what holds
  module _ {c : ℕ} {words : List ℕ} {events : List (Event T)} (changes : ℕ) (words' : List ℕ) (es : List (Event T))
      (changes' : ℕ) (preserves : Preserves c words events changes words' es changes') where
    -- what holds of the machine holds after a turn that preserves it
    pub holds_more : Holds c words events → Holds c words' (events ++ es)
    holds_more holds =
        record {
          sized = preserves.sized ∙ holds.sized;
          conserved = conserved;
          within = λ b past. (omega (arith, holds.within b past, preserves.within b past, sets_more b events es));
          position = preserves.position ∙ (ap (λ n. fold position_after n es) holds.position ∙ sym (fold-append position_after 0 events es));
          answers = Each-append (BitsAnswerRight c) events es holds.answers preserves.right;
        }
      where
        -- each bit was set as often as it was cleared, and once more if it stands
        conserved : (b : ℕ) → sets b (events ++ es) ≡ clears b (events ++ es) + one_if (stands words' b)
        conserved b =
            let was = holds.conserved b in
            let moved = preserves.moved b in
            omega (arith, sets_more b events es, clears_more b events es)

  -- ---- what a turn of another party leaves to a call

  -- the other party's turn pays for its changes
  module _ {words words' : List ℕ} {changes changes' : ℕ} (pays : Pays words words' changes changes') where
    module _ (p : ℕ) (events es : List (Event T)) (none : BeginsNone p es) where
      -- a place that was clear at a moment of the call is one still
      passed_still : (c start passed : ℕ) → Passed c p start passed events → Passed c p start passed (events ++ es)
      passed_still c start passed passed_so k below = held_later p (λ part. standing (place_after c start k) part ≡ 0) events es none (passed_so k below)

      -- the reset position at which the search began was the position at a moment of the call, still
      began_still : (c start : ℕ) → Began c p start events → Began c p start (events ++ es)
      began_still c start began = held_later p (λ part. at_most c (position_of part) ≡ start) events es none began

      -- each place that a reset passed, on its way to the one where it is, was clear at a
      -- moment of the call, still
      came_still : (c bit : ℕ) → CameTo p c bit events → CameTo p c bit (events ++ es)
      came_still = grind (arith, began_still, passed_still)

      -- what a reset of the next bit knows it knows still
      next_still : (c since backs : ℕ) (stage : ResetNextStage)
          → KnowsNext c p events words since changes backs stage
          → KnowsNext c p (events ++ es) words' since changes' backs stage
      next_still = grind (arith, passed_still, began_still, paid_still, place_after, came_still)

      -- what any call knows it knows still
      pub call_still : (since backs : ℕ) (flight : BitsFlight) → KnowsCall p events words since changes backs flight
          → KnowsCall p (events ++ es) words' since changes' backs flight
      call_still since backs (Set run) knows_call = set_still words words' changes changes' pays since backs run.given run.call.stage knows_call
      call_still since backs (ResetNext run) knows_call = next_still run.call.capacity since backs run.call.stage knows_call
      call_still since backs (ResetAll run) knows_call = (
        knows_call.0,
        since_more p (ClearedBelow run.call.word) (ClearedBelow run.call.word) events es none knows_call.1
            (cleared_still run.call.word knows_call.1.before knows_call.1.since es knows_call.1.holds),
      )
      call_still since backs (IsSet run) h = omega (arith, pays.up)
      call_still since backs flight h = absurd h

-- The invariant of a counting bit set: what holds of its machine between two turns, beside what the frame
-- says of every machine; and what a turn does to its counts and writes, so that it holds after the turn.
use Rattle.laws_bits.proofs.Names.{◌≡◌, ℕ, ◌+◌, ◌*◌, ◌^◌, ◌<◌, ◌≤◌, List, [], ◌++◌, length, get_or, refl, ◌∙◌, Event}
use Rattle.laws_bits.proofs.Names.{BitsStart, BitsFlight, Count, TakeAll, CountsAnswerOn, counts_promise, counts}
use Rattle.laws_bits.proofs.Names.{takes, SinceBegin, BeginsNone, Each, Span, since_more, AreRight, Each-append}
use Rattle.std.proofs.Common.{arith}
use Rattle.model.specs.declared.families.bits.BitsStart.TheVariants as starts
use Rattle.model.specs.declared.families.bits.BitsStart.TheVariants.{Set, ResetAll}
use Rattle.model.specs.declared.families.bits.calls.BitsFlight.TheVariants.{CountOf}
use Rattle.model.specs.declared.turn.Kind.TheVariants as kinds
use Rattle.laws_bits.proofs.Counts.Core.{TakenBelow, taken_still, counts_more, takes_more}
use Rattle.laws_bits.proofs.Family.{SetOutline}
use Rattle.laws_bits.proofs.Spans.{wrote_in}

-- how many steps a call has taken at most
abbrev pub number_of : BitsFlight → ℕ
number_of (TakeAll run) = run.call.word
number_of flight = 0

module _ {T : Type 0} where
  -- what holds of a counting bit set: each word has what was counted and not taken, modulo 2 ^ 64
  pub record Holds (c : ℕ) (words : List ℕ) (events : List (Event T)) (turns : ℕ) : Type 0 where
    -- each word is what was counted of its place and not taken out, but for a multiple of 2^64; no place past
    -- the capacity was counted
    pub sized : length words ≡ c
    pub conserved : (b : ℕ) → (wraps : ℕ) × (counts b events ≡ takes b events + get_or words b 0 + 2 ^ 64 * wraps)
    pub within : (b : ℕ) → c ≤ b → counts b events ≡ 0
    -- each word fits, and no place was counted more often than turns were taken
    pub low : (b : ℕ) → get_or words b 0 < 2 ^ 64
    pub few : (b : ℕ) → counts b events ≤ turns
    -- each answer is right
    pub answers : Each (CountsAnswerOn c) events

  -- ---- the calls

  -- what a call under way has written: a set and a look end in their one step, so only a reset of all counts
  -- has written something
  abbrev pub call_wrote : ℕ → BitsFlight → Span T → List (Event T)
  call_wrote p (Count run) span = []
  call_wrote p (CountOf run) span = []
  call_wrote p flight span = wrote_in span

  -- where a call of each name stands; a reset of all counts has taken nothing out of a place to which it is
  -- still to come
  abbrev pub CallAt : ℕ → List (Event T) → BitsStart → BitsFlight → Type 0
  CallAt c wrote (Set place) (Count run) = (run.given ≡ place) × (place < c)
  CallAt c wrote ResetAll (TakeAll run) =
      (run.call.end ≡ c) × (run.call.word ≤ c) × ((b : ℕ) → run.call.word ≤ b → takes b wrote ≡ 0)
  CallAt c wrote (starts.Count place) (CountOf run) = (run.given ≡ place) × (place < c)
  CallAt c wrote start flight = ⊥

  -- what a call knows: it has not turned back; and a reset of all counts, that something was taken out of
  -- each earlier place that had counted, unless 2^64 was counted
  abbrev pub KnowsCall : ℕ → List (Event T) → ℕ → BitsFlight → Type 0
  KnowsCall p events backs (Count run) = backs ≡ 0
  KnowsCall p events backs (TakeAll run) =
      (backs ≡ 0) × SinceBegin p (TakenBelow run.call.word) events
  KnowsCall p events backs (CountOf run) = backs ≡ 0
  KnowsCall p events backs flight = ⊥

  -- ---- what a turn preserves

  -- what a turn preserves: each count moves as the events say, but for a multiple of 2^64
  pub record Preserves (c : ℕ) (words : List ℕ) (events : List (Event T)) (turns : ℕ) (words' : List ℕ) (es : List (Event T)) : Type 0 where
    pub sized : length words' ≡ length words
    pub moved : (b : ℕ) → (wraps : ℕ) × (counts b es + get_or words b 0 ≡ takes b es + get_or words' b 0 + 2 ^ 64 * wraps)
    pub within : (b : ℕ) → c ≤ b → counts b es ≡ 0
    pub low : (b : ℕ) → get_or words' b 0 < 2 ^ 64
    pub few : (b : ℕ) → counts b es ≤ 1
    pub right : AreRight (CountsAnswerOn c) events es

  -- a turn that leaves the counts, and whose events count and take out nothing, preserves what holds
  pub rest_preserves : {c : ℕ} {words : List ℕ} {events : List (Event T)} {turns : ℕ} {es : List (Event T)}
      → Holds c words events turns → ((b : ℕ) → counts b es ≡ 0) → ((b : ℕ) → takes b es ≡ 0)
      → AreRight (CountsAnswerOn c) events es → Preserves c words events turns words es
  rest_preserves holds no_counts no_takes right =
      record {
        sized = refl;
        moved = λ b. (0, rw (no_counts b, no_takes b) (omega arith));
        within = λ b past. no_counts b;
        low = holds.low;
        few = λ b. (let none = no_counts b in omega arith);
        right = right;
      }

  -- ---- the kind of the counting bit sets

  -- what is said of the counting bit sets, as one of the two kinds
  abbrev pub counting_set : SetOutline T
  counting_set =
      record {
        kind = kinds.Counts;
        no_loan = refl;
        promise = counts_promise;
        Holds = Holds;
        Preserves = λ c words events turns changes words' es changes'. Preserves c words events turns words' es;
        wrote = call_wrote;
        number = λ flight backs. number_of flight;
        At = CallAt;
        Knows = λ p events words since changes backs flight. KnowsCall p events backs flight;
      }

  -- the turn preserves what holds
  module _ {c : ℕ} {words : List ℕ} {events : List (Event T)} {turns : ℕ} {words' : List ℕ} {es : List (Event T)}
      (preserves : Preserves c words events turns words' es) where
    -- what holds of the machine holds after a turn that preserves it
    pub holds_more : Holds c words events turns → Holds c words' (events ++ es) (turns + 1)
    holds_more holds =
        record {
          sized = preserves.sized ∙ holds.sized;
          conserved = conserved;
          within = λ b past. (counts_more b events es ∙ omega (arith, holds.within b past, preserves.within b past));
          low = preserves.low;
          few = λ b. (omega (arith, holds.few b, preserves.few b, counts_more b events es));
          answers = Each-append (CountsAnswerOn c) events es holds.answers preserves.right;
        }
      where
        -- each place was counted as much as was taken out and is there, but for a multiple of 2^64
        conserved : (b : ℕ) → (wraps : ℕ) × (counts b (events ++ es) ≡ takes b (events ++ es) + get_or words' b 0 + 2 ^ 64 * wraps)
        conserved b =
            let before = (holds.conserved b).1 in
            let moved = (preserves.moved b).1 in
            ((holds.conserved b).0 + (preserves.moved b).0, omega (arith, counts_more b events es, takes_more b events es))

  -- what a call knows it knows still after a turn of another party
  pub call_still : (p : ℕ) (events es : List (Event T)) (none : BeginsNone p es) (backs : ℕ) (flight : BitsFlight)
      → KnowsCall p events backs flight → KnowsCall p (events ++ es) backs flight
  call_still p events es none backs (Count run) knows_call = knows_call
  call_still p events es none backs (TakeAll run) knows_call = (
    knows_call.0,
    since_more p (TakenBelow run.call.word) (TakenBelow run.call.word) events es none knows_call.1
        (taken_still run.call.word knows_call.1.before knows_call.1.since es knows_call.1.holds),
  )
  call_still p events es none backs (CountOf run) knows_call = knows_call
  call_still p events es none backs flight knows_call = absurd knows_call

-- What a step of a call of a bit set has to show, in the two common cases: the call goes on and changes no
-- bit, or it ends and changes no bit.
use Rattle.laws_bits.proofs.Names.{◌≡◌, ℕ, ◌+◌, ◌≤◌, Bool, Option, List, [], ◌∷◌, ◌++◌, fold}
use Rattle.laws_bits.proofs.Names.{get_or, refl, ap, Ask, After, GoOn, Done, stands, Answer, Event}
use Rattle.laws_bits.proofs.Names.{Finished, Bits, BitsStart, BitsFlight, Coding, ask_of, most_bits_steps, want}
use Rattle.laws_bits.proofs.Names.{after, goes_back, BitsAnswerRight, BitsWrote, sets, clears, position_after}
use Rattle.laws_bits.proofs.Names.{effects_of, Open, span_of, one_if, old_of, words_after, change_of, step_count}
use Rattle.laws_bits.proofs.Names.{AreRight}
use Rattle.std.proofs.Common.{arith}
use Rattle.laws_bits.proofs.Bits.Invariant.{Pays, Preserves, rest_preserves, bit_set}
use Rattle.model.proofs.Counts.{as_long}
use Rattle.laws_bits.proofs.Bits.Knows.{CallAt, KnowsCall, call_wrote, number_of}
use Rattle.laws_bits.proofs.Family.{SetScene, StepShows, ShowsStep}
use Rattle.laws_bits.proofs.Spans.{wrote_in}
use Rattle.laws_bits.proofs.Words.{change_one}

-- an operation pays for the word that it changes
pub pays_by : (words : List ℕ) (ask : Option Ask) (changes : ℕ) → Pays words (words_after words ask) changes (changes + change_of words ask)
pays_by = grind (arith, change_one)

-- `scene` is a turn of party `p` with the machine before it
module _ {T : Type 0} (code : Coding T) (c : ℕ) (scene : SetScene T) where
  open scene use {state as s, events, party as p, changes, since, steps, backs}

  -- what has to be shown of a step with the operation `ask`, of a call that had written this, by what becomes
  -- of it and which events it writes
  abbrev ShowsWith : List (Event T) → BitsStart → Option Ask → Bool → After BitsFlight (Answer T) → List (Event T) → Type 0
  ShowsWith before start ask back after fx = StepShows bit_set code c scene before start ask back after fx

  -- that a step of this call keeps the invariant, where `before` is what its party had written before
  abbrev StageShows : List (Event T) → BitsStart → BitsFlight → Type 0
  StageShows before start flight = ShowsStep bit_set code c scene before start flight

  -- the operation changes no bit
  abbrev pub SameBits : Option Ask → Type 0
  SameBits ask = (b : ℕ) → stands (words_after s.words ask) b ≡ stands s.words b

  -- an operation that leaves the words changes no bit
  pub same_bits : (ask : Option Ask) → words_after s.words ask ≡ s.words → SameBits ask
  same_bits ask same b = ap (λ ws. stands ws b) same

  -- the reset position after the operation is the one by these events
  abbrev pub Stands : Option Ask → List (Event T) → Type 0
  Stands ask es = get_or (words_after s.words ask) 0 0 ≡ fold position_after (get_or s.words 0 0) es

  -- a step that changes no bit, and whose events set and clear none, preserves what holds
  pub no_change : (ask : Option Ask) {es : List (Event T)} → SameBits ask → ((b : ℕ) → sets b es ≡ 0)
      → ((b : ℕ) → clears b es ≡ 0) → Stands ask es → AreRight (BitsAnswerRight c) events es
      → Preserves c s.words events changes (words_after s.words ask) es (changes + change_of s.words ask)
  no_change ask {es} same no_sets no_clears position right =
      rest_preserves
      (as_long s.words ask) same no_sets no_clears position (pays_by s.words ask changes) right

  -- a step keeps the invariant if `ShowsWith` holds of what is told of it: whether it turns back, what becomes of
  -- the call, and what it writes
  pub by_parts :
      (before : List (Event T)) (start : BitsStart) (flight : BitsFlight) (back : Bool)
      (then : After BitsFlight (Answer T)) (fx : List (Event T))
      → goes_back flight (old_of s.words (ask_of (want flight))) ≡ back
      → after flight (old_of s.words (ask_of (want flight))) ≡ then
      → effects_of p flight (old_of s.words (ask_of (want flight))) ≡ fx
      → ShowsWith before start (ask_of (want flight)) back then fx → StageShows before start flight
  by_parts = grind arith

-- a step of the scene's party changes no bit
module _ {T : Type 0} {code : Coding T} {c : ℕ} {scene : SetScene T} where
  open scene use {state as s, events, party as p, changes, since, steps, backs}

  -- a call that has written nothing goes on, and its step changes no bit
  pub goes_on :
      {start : BitsStart} (ask : Option Ask) (back : Bool) (flight : BitsFlight) → SameBits code c scene ask → Stands code c scene ask []
      → steps + step_count ask ≤ number_of flight (backs + one_if back)
      → [] ≡ call_wrote p flight (span_of p (events ++ [])) → CallAt c (wrote_in (span_of p (events ++ []))) start flight
      → KnowsCall p (events ++ []) (words_after s.words ask) (since + change_of s.words ask) (changes + change_of s.words ask) (backs + one_if back) flight
      → StepShows bit_set code c scene [] start ask back (GoOn flight) []
  goes_on {start} ask back flight same position few none at knows =
      record {
        preserves = no_change code c scene ask same (λ b. refl) (λ b. refl) position tt;
        own = tt;
        stands = tt;
        here = record { span = ap (λ es. Open (Bits start) es) none; steps = few; at = at };
        knows = knows;
      }

  -- a call ends, and its step changes no bit
  pub ends :
      {wrote : List (Event T)} {start : BitsStart} (ask : Option Ask) (back : Bool) (answer : Answer T)
      → SameBits code c scene ask → Stands code c scene ask (Finished p (Bits start) answer ∷ [])
      → BitsAnswerRight c events (Finished p (Bits start) answer) → BitsWrote c (Bits start) answer wrote
      → steps + step_count ask ≤ most_bits_steps c start (backs + one_if back) → backs + one_if back + since ≤ changes
      → StepShows bit_set code c scene wrote start ask back (Done answer) []
  ends {wrote} ask back answer same position right says few paid =
      record {
        preserves = no_change code c scene ask same (λ b. refl) (λ b. refl) position (right, tt);
        own = (refl, tt);
        stands = ((refl, says), tt);
        here = record { answer = answer; wrote = wrote; span = refl; steps = few };
        knows = omega arith;
      }

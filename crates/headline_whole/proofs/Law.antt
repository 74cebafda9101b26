-- What is to be shown of the calls of a kind: over words that hold an object each runs alone as the object says.
use Rattle.std.proofs.Common.{◌≡◌, ℕ, ◌+◌, ◌≤◌, true, Some, None, List, if◌then◌else◌}
use Rattle.model.specs.declared.event.Answer.{Answer}
use Rattle.model.specs.declared.event.Start.{Start}
use Rattle.model.specs.declared.families.Flight.{Flight}
use Rattle.model.specs.declared.turn.Kind.{Kind}
use Rattle.model.specs.declared.turn.Turn.TheVariants.{Begin}
use Rattle.model.specs.Coding.{Coding}
use Rattle.model.specs.Families.{first_of, kept_after_begin}
use Rattle.model.specs.Linearizable.{Specification}
use Rattle.model.specs.Refusals.{refusal_of}
use Rattle.model.specs.Turns.{IsReached}
use Rattle.model.specs.World.{Trace, words_opened}
use Rattle.headline_whole.proofs.Agree.{Agree}
pub use Rattle.headline_whole.proofs.Courses.{IsMadeSo}
use Rattle.headline_whole.proofs.Flights.{FlightRuns}

-- how words hold an object (`Holds turns words`), and which object they hold (`read`)
pub record Reading (T : Type 0) : Type 1 where
  pub State : Type 0
  pub spec : Specification T State
  pub Holds : ℕ → List ℕ → Type 0
  pub read : List ℕ → State

module _ {T : Type 0} where
  module _ (R : Reading T) where
    -- the call `start`, which began on `words`, gives `answer` as the object says, and leaves the words `last`, which hold the object
    pub record Answers (turns : ℕ) (words : List ℕ) (start : Start T) (answer : Answer T) (last : List ℕ) : Type 0 where
      pub said : R.spec.is_call start ≡ true → answer ≡ R.spec.object.answer (R.read words) start
      pub holds : R.Holds (turns + 1) last
      pub object : R.read last ≡ (if R.spec.is_call start then R.spec.object.after (R.read words) start else R.read words)

    -- A begin leads to a call of the kind's family that, run alone from the words, answers and
    -- leaves what the object does.
    pub record BeginsSo (code : Coding T) (t : Trace T) (p : ℕ) (start : Start T) (flight : Flight T) : Type 0 where
      pub agrees : Agree start flight (kept_after_begin t.world.coding t.world.capacity start p t.world.kept)
      pub runs : FlightRuns code (Answers t.world.turns t.world.words start) flight t.world.words

    -- What is to be shown for a kind whose calls go on from the words alone.
    pub record Law (code : Coding T) (kind : Kind) (capacity : ℕ) : Type 0 where
      pub later : (m n : ℕ) (words : List ℕ) → m ≤ n → R.Holds m words → R.Holds n words
      pub opens : (queue : ℕ) → R.Holds 0 (words_opened kind code.size capacity queue)
          × (R.read (words_opened kind code.size capacity queue) ≡ R.spec.object.opening)
      pub begins : (t : Trace T) (p : ℕ) (start : Start T) (flight : Flight T) → IsReached t → IsMadeSo code kind capacity t
          → refusal_of t.world (Begin p start) ≡ None → R.Holds t.world.turns t.world.words
          → first_of kind capacity start t.world.kept ≡ Some flight → BeginsSo code t p start flight

-- A look at a place of a bit set that runs alone: it ends within one step.
use Rattle.std.proofs.Common.{ℕ, ◌<◌, List, refl, sym, arith}
use Rattle.plain.proofs.Names.{Places}
use Rattle.steps.specs.Bits.Looks.{is_set_want, is_set_after}
use Rattle.steps.specs.Bits.Words.{stands}
use Rattle.steps.specs.Objects.Places.{has}
use Rattle.steps.specs.declared.bits.looks.IsSet.{IsSet}
use Rattle.plain_queues.specs.Alone.{BehavesAs}
use Rattle.plain.specs.Bits.{places_in, Represents}
use Rattle.plain_queues.proofs.Alone.{Runs}
use Rattle.plain.proofs.Places.Flags.{flag_at}

module _ (capacity place : ℕ) (low : place < capacity) (words : List ℕ) (fits : Represents capacity words) where
  -- the look, run alone from these words, ends, answers whether the place stands, and leaves the words
  abbrev pub LookRuns : IsSet → Type 0
  LookRuns call =
      Runs is_set_want is_set_after (λ c (room : Unit {0}) old. room) place
      (λ end room last. BehavesAs (Represents capacity) (places_in capacity) (λ (s : Places). has s place)
      (λ s. s) words end last) call tt words

  -- a look that runs alone says whether the place stands, and leaves the words
  pub look_runs : (call : IsSet) → LookRuns call
  look_runs call =
      record {
        steps = 1;
        few = omega arith;
        end = stands words place;
        last_room = tt;
        last_words = words;
        ends = (refl, refl, refl);
        holds = (fits, sym (flag_at capacity words place low), refl);
      }

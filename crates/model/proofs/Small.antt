-- The counts of a machine stay below the number of its turns.
use Rattle.model.proofs.Names.{After, Answer, Ask, Begin, Bool, Decide, Die, Doing, Flight, Going, IsReached, List}
use Rattle.model.proofs.Names.{Next, None, Option, Over, Party, Registry, Some, Start, Step, Trace, Turn, World}
use Rattle.model.proofs.Names.{after_answer, after_begin, after_decision, after_next, after_step, arith, ask_of_doing}
use Rattle.model.proofs.Names.{change_of, doing_after, first_of, number_of, old_of, party_after}
use Rattle.model.proofs.Names.{party_at_begin, party_of, refl, refusal_of, step_count, step_in, subst, world_after}
use Rattle.model.proofs.Names.{ℕ, ◌+◌, ◌-◌, ◌<◌, ◌^◌, ◌≡◌, ◌≤◌}
use Rattle.model.specs.Parties.{put}
use Rattle.model.specs.Small.{HasSmallCount, HasSmallCounts, IsSmall}
use Rattle.model.specs.Turns.{after_death}
use Rattle.model.proofs.Counts.{change_small, steps_small, back_small}
use Rattle.model.proofs.Parties.{found_each}
use Rattle.model.proofs.Reached.{kept_by_runs}
use Rattle.model.proofs.Rows.{passes}

more_changes : {T : Type 0} (changes more : ℕ) (doing : Doing T) → HasSmallCount changes doing → HasSmallCount (changes + more) doing
more_changes = grind arith

module _ {T : Type 0} where
  -- Each party's latest call has counts that are small for this number of turns and changes.
  abbrev AllSmall : ℕ → ℕ → List (ℕ × Party T) → Type 0
  AllSmall turns changes latest = (p : ℕ) (x : Party T) → party_of p latest ≡ Some x → HasSmallCounts turns changes x

  later : (turns changes more : ℕ) (x : Party T) → HasSmallCounts turns changes x → HasSmallCounts (turns + 1) (changes + more) x
  later = grind (arith, more_changes)

  -- After a turn all parties' counts are small, if those of its own party are.
  all_put : (turns changes more p : ℕ) {y : Party T} (latest : List (ℕ × Party T))
      → HasSmallCounts (turns + 1) (changes + more) y → AllSmall turns changes latest
      → AllSmall (turns + 1) (changes + more) (put p y latest)
  all_put turns changes more p {y} latest here all =
      found_each (λ q x. HasSmallCounts (turns + 1) (changes + more) x) p y latest here (λ q x ne found. later turns changes more x (all q x found))

  -- after a begin the counts are still no more than the number of turns
  begin_small : {w : World T} (p : ℕ) (start : Start T) (flight : Option (Flight T)) → w.turns < 2 ^ 64 - 2 → IsSmall w → IsSmall (after_begin w p start flight)
  begin_small p start None below small = small
  begin_small {w} p start (Some flight) below small =
      let changes = small.changes in
      let same : w.changes + 0 ≡ w.changes = omega arith in
      let party : Party T = party_at_begin start flight w.changes in
      let here : HasSmallCounts (w.turns + 1) (w.changes + 0) party = record { steps = omega arith; backs = omega arith; doing = omega arith } in
      record {
        turns = omega arith;
        changes = omega arith;
        latest = subst (λ n. AllSmall (w.turns + 1) n (put p party w.latest)) same (all_put w.turns w.changes 0 p w.latest here small.latest);
      }

  -- A call counts no more changes than there are after its step.
  doing_small : (changes since change : ℕ) (after : After (Flight T) (Answer T)) → since ≤ changes
      → HasSmallCount (changes + change) (doing_after (changes + change) (since + change) after)
  doing_small = grind arith

  -- after a step the counts are still no more than the number of turns
  step_small : {w : World T} (p : ℕ) (x : Party T) (since : ℕ) (ask : Option Ask) (s : Step (Flight T) (Registry T) T)
      → w.turns < 2 ^ 64 - 2 → x.steps ≤ w.turns → x.backs ≤ w.turns → since ≤ w.changes → IsSmall w
      → IsSmall (after_step w p x since ask s)
  step_small {w} p x since ask s below steps backs begun small =
      let few = back_small s.back in
      let one = change_small w.words ask in
      let step = steps_small ask in
      let changes = small.changes in
      let party : Party T = party_after x since w.changes (step_count ask) (change_of w.words ask) s in
      record {
        turns = omega arith;
        changes = omega arith;
        latest =
            all_put w.turns w.changes (change_of w.words ask) p w.latest
            (record { steps = omega arith; backs = omega arith; doing = doing_small w.changes since (change_of w.words ask) s.after begun })
            small.latest;
      }

  -- the counts stay small when a party's call goes on by an answer
  answer_small : (w : World T) (p : ℕ) (x : Party T) (ask : Option Ask) (answer : ℕ) (doing : Doing T)
      → w.turns < 2 ^ 64 - 2 → x.steps ≤ w.turns → x.backs ≤ w.turns → HasSmallCount w.changes doing → IsSmall w
      → IsSmall (after_answer w p x ask answer doing)
  answer_small w p x ask answer (Over others) below steps backs small is_small = is_small
  answer_small w p x ask answer (Going flight since) below steps backs small is_small =
      step_small p x since ask (step_in w p x flight answer) below steps backs small is_small

  -- A turn `Next` keeps the counts of a machine small.
  next_small : {w : World T} (p : ℕ) (o : Option (Party T)) → party_of p w.latest ≡ o → w.turns < 2 ^ 64 - 2 → IsSmall w → IsSmall (after_next w p o)
  next_small p None found below small = small
  next_small {w} p (Some x) found below small =
      let here = small.latest p x found in
      answer_small w p x (ask_of_doing w.coding x.doing) (old_of w.words (ask_of_doing w.coding x.doing)) x.doing below here.steps here.backs here.doing small

  -- A decision keeps the counts of a machine small.
  decision_small : (w : World T) (p : ℕ) (said : Bool) (o : Option (Party T)) → party_of p w.latest ≡ o
      → w.turns < 2 ^ 64 - 2 → IsSmall w → IsSmall (after_decision w p said o)
  decision_small = grind (arith, answer_small, number_of)

  death_small : (w : World T) (owner : ℕ) → w.turns < 2 ^ 64 - 2 → IsSmall w → IsSmall (after_death w owner)
  death_small = grind (arith, later)

  -- Each turn that is not refused keeps the counts of a machine small.
  turn_small : (w : World T) (turn : Turn T) → refusal_of w turn ≡ None → IsSmall w → IsSmall (world_after w turn)
  turn_small w (Begin p start) free small = begin_small p start (first_of w.kind w.capacity start w.kept) (passes w (Begin p start) free).turns small
  turn_small w (Next p) not_refused small = next_small p (party_of p w.latest) refl (passes w (Next p) not_refused).turns small
  turn_small w (Decide p said) not_refused small = decision_small w p said (party_of p w.latest) refl (passes w (Decide p said) not_refused).turns small
  turn_small w (Die owner) not_refused small = death_small w owner (passes w (Die owner) not_refused).turns small

  -- In each machine that turns reach the counts are small.
  pub reached_small : (t : Trace T) → IsReached t → IsSmall t.world
  reached_small t reached =
      kept_by_runs (λ t. IsSmall t.world) (λ t turn e h. turn_small t.world turn e h) t
      (λ queue admitted. record { turns = omega arith; changes = omega arith; latest = λ p x found. absurd (cc) })
      reached

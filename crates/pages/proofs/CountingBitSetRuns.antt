-- The page of the counting bit set is about machines: turn by turn.
use Rattle.std.proofs.Common.{is_some, nat_le, nat_lt, ◌^◌}
use Rattle.std.proofs.lemmas.Bool.Decides.{nat_tests}
use Rattle.model.proofs.Names.{Bool, List, None, Option, Some, Trace, [], ap, append-nil, arith, cond, false, first_of, first_row, fold}
use Rattle.model.proofs.Names.{length, map, one_word, opening, refl, slice_index, step_of, subst, sym, true, ℕ, ◌++◌, ◌+◌, ◌<◌, ◌==◌, ◌∙◌, ◌∷◌, ◌≡◌, ◌≢◌}
use Rattle.model.specs.declared.event.Answer.{Answer}
use Rattle.model.specs.declared.event.Event.{Event}
use Rattle.model.specs.declared.event.Event.TheVariants as events
use Rattle.model.specs.declared.event.Start.TheVariants.{Bits}
use Rattle.model.specs.declared.families.Flight.{Flight}
use Rattle.model.specs.declared.families.Flight.TheVariants as flights
use Rattle.model.specs.declared.families.Registry as registries
use Rattle.model.specs.declared.turn.Kind.TheVariants as kinds
use Rattle.model.specs.Families.{begin_rows}
use Rattle.model.specs.Families.Bits.Steps.{effects_of}
use Rattle.model.specs.Step.{as_call}
use Rattle.model.specs.Turns.{run}
use Rattle.pages.specs.BitSetBridge as bits_bridge
use Rattle.pages.specs.CountingBitSet as counts
use Rattle.pages.specs.CountingBitSetBridge as counts_bridge
use Rattle.pages.specs.Machine as machine
use Rattle.pages.specs.Handed.{IsTold, handed, told}
use Rattle.pages.proofs.CountingBitSet as counts_law
use Rattle.pages.proofs.Relates.{GoesAlong, Meets, Pairing, Relation, StepsRight, went}
use Rattle.pages.proofs.Relates as relates
use Rattle.pages.proofs.Runs.{are_within, meets_after, no_rules, reached_by}
use Rattle.pages.proofs.SetsAreTheCode.{counts_after, counts_asks}
use Rattle.pages.proofs.Told.{Hands, IsRead, Reads, Writes, steps_on}
use Rattle.pages.proofs.Told as tellings
use Rattle.pages.proofs.Turns.{either, either_so}
use Rattle.pages.proofs.BitSetRuns.{coded, fails_row, nothing, passes_row}

module _ (c : ℕ) (some : 0 < c) where
  -- a state of the page's machine
  abbrev CountsPage : Type 0
  CountsPage = machine.World counts.Call counts.Stage counts.Answer

  abbrev counts_flight : ℕ → counts.Stage → Flight ℕ
  counts_flight found stage = flights.Bits (counts_bridge.flight c found stage)

  -- what a reset of all has handed out at its stage
  abbrev HandsAt : counts.Stage → List (ℕ × ℕ) → Type 0
  HandsAt (counts.AllSwaps place taken) items = items ≡ taken
  HandsAt stage items = Unit {0}

  -- The model's events and the page's state agree: the registry keeps nothing, and the page's
  -- history and what each reset of all has handed out are read off the events.
  abbrev CountsRelated : List (Event ℕ) → registries.Registry ℕ → CountsPage → Type 0
  CountsRelated events k w = (k ≡ nothing) × IsRead (counts.counting_bit_set c) counts_bridge.reading HandsAt events w

  -- A step of party `p` that wrote these events tells the page nothing by them, and hands out
  -- these pairs of a place and its count.
  abbrev WritesCounts : ℕ → List (Event ℕ) → List (ℕ × ℕ) → Type 0
  WritesCounts p wrote items = Writes counts_bridge.reading p wrote items

  abbrev one : ℕ → ℕ → List (ℕ × ℕ)
  one place old = (place, old) ∷ []

  abbrev items_of : counts.Stage → ℕ → List (ℕ × ℕ)
  items_of (counts.AllSwaps place taken) old = cond (old == 0) [] (one place old)
  items_of stage old = []

  -- the effects of a step hand out what the stage takes out
  writes : (p found : ℕ) (stage : counts.Stage) (old : ℕ) → WritesCounts p (effects_of p (counts_bridge.flight c found stage) old) (items_of stage old)
  writes p found (counts.SetAdds place) old =
      record { quiet = λ before. refl; own = λ acc. sym (append-nil acc); others = λ q acc ne. refl }
  writes p found (counts.AllSwaps place taken) old = go (old == 0)
    where
      -- the cases are whether the place counted something
      go : (b : Bool) → WritesCounts p (cond b [] (events.TakenOut p place old ∷ [])) (cond b [] (one place old))
      go true = record { quiet = λ before. refl; own = λ acc. sym (append-nil acc); others = λ q acc ne. refl }
      go false = record { quiet = λ before. refl; own = own; others = others }
        where
          own : (acc : List (ℕ × ℕ)) → cond (p == p) (acc ++ one place old) acc ≡ acc ++ one place old
          own acc = let is_same : (p == p) ≡ true = grind (arith, nat_tests) in rw is_same refl

          others : (q : ℕ) (acc : List (ℕ × ℕ)) → q ≢ p → cond (p == q) (acc ++ one place old) acc ≡ acc
          others q acc ne = let is_other : (p == q) ≡ false = grind (arith, nat_tests) in rw is_other refl

  -- After a step the items handed out are those of the next stage, or the page reads its answer
  -- from them and the model's.
  abbrev ReadsCounts : List (ℕ × ℕ) → machine.After counts.Stage counts.Answer → Type 0
  ReadsCounts items a = Reads (counts.counting_bit_set c) counts_bridge.reading HandsAt counts_bridge.answered items a

  -- what a swap adds to what was handed out is its place with what that counted, unless that is 0
  then_same : (place old : ℕ) (items taken : List (ℕ × ℕ)) → items ≡ taken
      → items ++ cond (old == 0) [] (one place old) ≡ counts_law.handed_then place old taken
  then_same place old items taken is = ap (λ xs. xs ++ cond (old == 0) [] (one place old)) is ∙ go (old == 0)
    where
      go : (b : Bool) → taken ++ cond b [] (one place old) ≡ cond b taken (taken ++ one place old)
      go true = append-nil taken
      go false = refl

  -- what a reset of all hands out goes along with its stages into its answer
  reads : (stage : counts.Stage) (old : ℕ) (items : List (ℕ × ℕ)) → HandsAt stage items
      → ReadsCounts (items ++ items_of stage old) ((counts.does c stage).2 old)
  reads (counts.SetAdds place) old items hands = refl
  reads (counts.AllSwaps place taken) old items hands =
      either (ReadsCounts (items ++ cond (old == 0) [] (one place old))) (nat_lt (place + 1) c) _ _
      (then_same place old items taken hands) (ap counts.WereReset (then_same place old items taken hands))

  -- If the call goes on, its next stage is one of the same call, and fits a set of `c` places.
  abbrev CountsGoRight : counts.Stage → machine.After counts.Stage counts.Answer → Type 0
  CountsGoRight stage (machine.GoOn next) = (counts_law.call_at next ≡ counts_law.call_at stage) × counts_bridge.Fits c next
  CountsGoRight stage (machine.Done answer) = Unit {0}

  -- where a call goes on it is the same call, and a reset of all has a place left
  counts_right : (stage : counts.Stage) (old : ℕ) → counts_bridge.Fits c stage → CountsGoRight stage ((counts.does c stage).2 old)
  counts_right (counts.SetAdds place) old fits = tt
  counts_right (counts.AllSwaps place taken) old fits =
      either_so (CountsGoRight (counts.AllSwaps place taken)) (nat_lt (place + 1) c) _ _ (λ t. (refl, grind (arith, nat_tests))) (λ t. tt)

  -- What a step came to is the same, told as of a call on bits and as of any call.
  counts_went : (found : ℕ) (a : machine.After counts.Stage counts.Answer)
      → as_call flights.Bits (λ (answer : Answer ℕ). answer) (counts_bridge.went c found a)
      ≡ went (counts_flight found) counts_bridge.answered a
  counts_went found (machine.GoOn stage) = refl
  counts_went found (machine.Done answer) = refl

  -- how the calls of the page are the model's, and what relates them: by what its resets have handed out
  abbrev counts_pairing : Pairing ℕ ℕ (counts.counting_bit_set c)
  counts_pairing =
      record {
        call_at = counts_law.call_at;
        start = λ call. Bits (counts_bridge.counts_start call);
        room = 0;
        flight = counts_flight;
        answered = counts_bridge.answered;
        Fits = counts_bridge.Fits c;
        Related = CountsRelated;
        Rule = λ w turn. Unit {0};
        Known = λ events k. Unit {0};
      }

  -- the page of the counting bit set goes along with the model's machine by what its resets have handed out
  counts_relation : Relation counts_pairing one_word kinds.Counts c
  counts_relation =
      record {
        known = λ t r kind capacity. tt;
        first_at = first_at;
        first_fits = first_fits;
        asks = counts_asks c;
        along = λ events k w related known. subst (λ k. GoesAlong counts_pairing one_word kinds.Counts c events k w) (sym related.0) (along events w related.1);
      }
    where
      first_at : (call : counts.Call) → counts_law.call_at (counts.first call) ≡ call
      first_at (counts.Set place) = refl
      first_at counts.ResetAll = refl

      first_fits : (call : counts.Call) → counts_bridge.Fits c (counts.first call)
      first_fits (counts.Set place) = tt
      first_fits counts.ResetAll = some

      begins : (call : counts.Call)
          → first_of kinds.Counts c (Bits (counts_bridge.counts_start call)) nothing ≡ Some (counts_flight 0 (counts.first call))
      begins (counts.Set place) = refl
      begins counts.ResetAll = refl

      refuses : (p : ℕ) (call : counts.Call) → counts.may c p call ≡ false
          → is_some (first_row (begin_rows kinds.Counts c nothing p (Bits (counts_bridge.counts_start call)))) ≡ true
      refuses p (counts.Set place) may = fails_row (nat_le c place) (grind (arith, nat_tests))
      refuses p counts.ResetAll may = absurd (cc)

      admits : (p : ℕ) (call : counts.Call) → counts.may c p call ≡ true
          → first_row (begin_rows kinds.Counts c nothing p (Bits (counts_bridge.counts_start call))) ≡ None
      admits p (counts.Set place) may = passes_row (nat_le c place) (grind (arith, nat_tests))
      admits p counts.ResetAll may = refl

      call_same : (call : counts.Call) → counts_bridge.call_seen (Bits (counts_bridge.counts_start call)) ≡ call
      call_same (counts.Set place) = refl
      call_same counts.ResetAll = refl

      none_yet : (call : counts.Call) → HandsAt (counts.first call) []
      none_yet (counts.Set place) = tt
      none_yet counts.ResetAll = refl

      along : (events : List (Event ℕ)) (w : CountsPage) → IsRead (counts.counting_bit_set c) counts_bridge.reading HandsAt events w
          → GoesAlong counts_pairing one_word kinds.Counts c events nothing w
      along events w read =
          record {
            begins = begins;
            keeps = λ p call. refl;
            refuses = refuses;
            admits = λ p call may free rule. admits p call may;
            begun = λ p call may free rule. (refl, tellings.begins read p (Bits (counts_bridge.counts_start call)) (call_same call) (none_yet call));
            rows = λ r stage. refl;
            steps = steps;
          }
        where
          -- a step of the model's call leads to where the page's call goes
          steps : (beside : Option (ℕ × ℕ)) (p r : ℕ) (stage : counts.Stage) → w.pending p ≡ Some stage → counts_bridge.Fits c stage
              → StepsRight counts_pairing events w p stage
              (step_of one_word w.words beside p (Bits (counts_bridge.counts_start (counts_law.call_at stage))) (counts_flight r stage)
              (slice_index w.words (counts.does c stage).0) nothing)
          steps beside p r stage pending fits =
              let old = slice_index w.words (counts.does c stage).0 in
              let a = (counts.does c stage).2 old in
              let is = ap (as_call flights.Bits (λ (answer : Answer ℕ). answer)) (counts_after c r stage old) ∙ counts_went old a in
              let hands =
              subst (λ o. Hands (counts.counting_bit_set c) counts_bridge.reading HandsAt o (handed counts_bridge.reading p events))
              pending (read.hands p) in
              record {
                room = old;
                after_is = is;
                goes = λ next e. subst (CountsGoRight stage) e (counts_right stage old fits);
                related = λ known. (
                  refl,
                  steps_on read counts_pairing (λ p start answer. refl) (writes p r stage old) stage old
                      (reads stage old (handed counts_bridge.reading p events) hands) is,
                );
              }

  -- the turns of the relation are those of the page's specification
  counts_same_turn : (parties : ℕ) (turn : machine.Turn counts.Call) → relates.as_turn counts_relation parties turn ≡ counts_bridge.as_turn turn
  counts_same_turn parties (machine.Begin p call) = refl
  counts_same_turn parties (machine.Next p) = refl

  -- the model's opening meets the page's
  counts_opens : (parties : ℕ) → c < 2 ^ 32
      → Meets counts_relation parties (machine.opening (counts.counting_bit_set c)) 0
      (opening one_word kinds.Counts c parties)
  counts_opens parties few =
      record {
        latest = [];
        changes = 0;
        turns = 0;
        kept = nothing;
        events = [];
        few = omega arith;
        is = refl;
        reached = reached_by one_word kinds.Counts c parties [] coded (grind (arith, nat_tests));
        related = (refl, record { history = refl; hands = λ p. tt });
        matches = λ p. refl;
      }

  -- after a list of turns the two machines meet
  counts_meets : (parties : ℕ) (turns : List (machine.Turn counts.Call)) → c < 2 ^ 32 → bits_bridge.AreWithin parties turns → length turns < 2 ^ 63
      → Meets counts_relation parties
      (fold (machine.turned (counts.counting_bit_set c)) (machine.opening (counts.counting_bit_set c)) turns) (0 + length turns)
      (run (map counts_bridge.as_turn turns) (opening one_word kinds.Counts c parties))
  counts_meets parties turns few within small =
      meets_after counts_relation parties (counts_opens parties few) counts_bridge.as_turn (counts_same_turn parties) turns
      (are_within counts_relation parties turns within) (no_rules counts_relation parties (λ w turn. tt) turns _) small

-- what the page runs is what the model's machine runs, with what the events hand out
pub counts_runs : counts_bridge.CountingRunsAsTheMachine
counts_runs c parties turns some few within small =
    let s = counts_meets c some parties turns few within small in
    record {
      history = ap (λ (t : Trace ℕ). told counts_bridge.reading [] t.events) s.is ∙ s.related.1.history;
      words = ap (λ (t : Trace ℕ). t.world.words) s.is;
    }

pub counts_is_run : (t : Trace ℕ) → counts_bridge.CountingIsRun t
counts_is_run t c parties turns some few within small is =
    subst (λ t. IsTold counts_bridge.reading t (fold (machine.turned (counts.counting_bit_set c)) (machine.opening (counts.counting_bit_set c)) turns)) (sym is)
    (counts_runs c parties turns some few within small)

-- The page of the bit set is about machines: turn by turn.
use Rattle.std.proofs.Common.{is_some, nat_le, nat_lt, ◌^◌}
use Rattle.std.proofs.lemmas.Bool.Decides.{nat_tests}
use Rattle.model.proofs.Names.{Bool, IsCoding, List, None, Option, Some, Trace, [], ap, append-nil, append_assoc, arith, cond, false, first_of, first_row, fold}
use Rattle.model.proofs.Names.{length, map, one_word, opening, refl, slice_index, step_of, subst, sym, true, ℕ, ◌++◌, ◌+◌, ◌<◌, ◌==◌, ◌∙◌, ◌∷◌, ◌≡◌, ◌≢◌}
use Rattle.model.specs.declared.event.Answer.{Answer}
use Rattle.model.specs.declared.event.Event.{Event}
use Rattle.model.specs.declared.event.Event.TheVariants as events
use Rattle.model.specs.declared.event.Start.TheVariants.{Bits}
use Rattle.model.specs.declared.families.Flight.{Flight}
use Rattle.model.specs.declared.families.Flight.TheVariants as flights
use Rattle.model.specs.declared.families.Registry.{Registry}
use Rattle.model.specs.declared.families.Registry.TheVariants as registries
use Rattle.model.specs.declared.turn.Kind.TheVariants as kinds
use Rattle.model.specs.declared.turn.Refusal.TheVariants.{BadIndex, WrongCall}
use Rattle.model.specs.Families.{begin_rows}
use Rattle.model.specs.Families.Bits.Steps.{effects_of}
use Rattle.model.specs.Step.{as_call}
use Rattle.model.specs.Turns.{run}
use Rattle.steps.specs.Bits.Places.{places_in}
use Rattle.steps.specs.Bits.Words.{elements}
use Rattle.pages.specs.BitSet as bits
use Rattle.pages.specs.BitSetBridge as bits_bridge
use Rattle.pages.specs.Machine as machine
use Rattle.pages.specs.Handed.{IsTold, handed, handed_after, told}
use Rattle.pages.proofs.BitSet as bits_law
use Rattle.pages.proofs.Relates.{GoesAlong, Meets, Pairing, Relation, StepsRight, went}
use Rattle.pages.proofs.Relates as relates
use Rattle.pages.proofs.Runs.{are_within, meets_after, no_rules, reached_by}
use Rattle.pages.proofs.SetsAreTheCode.{bits_after, bits_asks}
use Rattle.pages.proofs.Told.{Hands, IsRead, Reads, Writes, steps_on}
use Rattle.pages.proofs.Told as tellings
use Rattle.pages.proofs.Turns.{either, either_so}

pub coded : IsCoding one_word
coded = grind arith

abbrev pub nothing : Registry ℕ
nothing = registries.Nothing

pub passes_row : (b : Bool) → b ≡ false → first_row ((false, WrongCall) ∷ (b, BadIndex) ∷ []) ≡ None
passes_row b e = rw e refl

pub fails_row : (b : Bool) → b ≡ true → is_some (first_row ((false, WrongCall) ∷ (b, BadIndex) ∷ [])) ≡ true
fails_row b e = rw e refl

module _ (c : ℕ) (some : 0 < c) where
  -- a state of the page's machine
  abbrev BitsPage : Type 0
  BitsPage = machine.World bits.Call bits.Stage bits.Answer

  abbrev bits_flight : ℕ → bits.Stage → Flight ℕ
  bits_flight found stage = flights.Bits (bits_bridge.flight c found stage)

  -- what a reset of all has handed out at its stage
  abbrev HandsAt : bits.Stage → List ℕ → Type 0
  HandsAt (bits.AllSwapsElement word places) items = items ≡ places
  HandsAt stage items = Unit {0}

  -- The model's events and the page's state agree: the registry keeps nothing, and the page's
  -- history and what each reset of all has handed out are read off the events.
  abbrev BitsRelated : List (Event ℕ) → Registry ℕ → BitsPage → Type 0
  BitsRelated events k w = (k ≡ nothing) × IsRead (bits.bit_set c) bits_bridge.reading HandsAt events w

  -- A step of party `p` that wrote these events tells the page nothing by them, and hands these places out.
  abbrev WritesBits : ℕ → List (Event ℕ) → List ℕ → Type 0
  WritesBits p wrote items = Writes bits_bridge.reading p wrote items

  abbrev items_of : bits.Stage → ℕ → List ℕ
  items_of (bits.NextExchangesElement start passed element) old = cond (old == element) (bits.place_after c start passed ∷ []) []
  items_of (bits.AllSwapsElement word places) old = places_in word old
  items_of stage old = []

  writes_none : (p : ℕ) → WritesBits p [] []
  writes_none p = record { quiet = λ before. refl; own = λ acc. sym (append-nil acc); others = λ q acc ne. refl }

  -- the events by which these bits are cleared hand out these bits
  writes_all : (p : ℕ) (bs : List ℕ) → WritesBits p (map (λ b. events.Cleared p b) bs) bs
  writes_all p bs = record { quiet = quiet bs; own = own bs; others = others bs }
    where
      quiet : (bs : List ℕ) (before : List (Event ℕ)) → told bits_bridge.reading before (map (λ b. events.Cleared p b) bs) ≡ []
      quiet [] before = refl
      quiet (b ∷ bs) before = quiet bs (before ++ events.Cleared p b ∷ [])

      -- they hand them out to their own party
      own : (bs acc : List ℕ) → fold (handed_after bits_bridge.reading p) acc (map (λ b. events.Cleared p b) bs) ≡ acc ++ bs
      own [] acc = sym (append-nil acc)
      own (b ∷ bs) acc =
          let t : (p == p) ≡ true = grind (arith, nat_tests) in
          ap (λ t. fold (handed_after bits_bridge.reading p) (cond t (acc ++ b ∷ []) acc) (map (λ b. events.Cleared p b) bs)) t
          ∙ (own bs (acc ++ b ∷ []) ∙ append_assoc acc (b ∷ []) bs)

      -- they hand nothing out to another
      others : (bs : List ℕ) (q : ℕ) (acc : List ℕ) → q ≢ p
          → fold (handed_after bits_bridge.reading q) acc (map (λ b. events.Cleared p b) bs) ≡ acc
      others [] q acc ne = refl
      others (b ∷ bs) q acc ne =
          let t : (p == q) ≡ false = grind (arith, nat_tests) in
          ap (λ t. fold (handed_after bits_bridge.reading q) (cond t (acc ++ b ∷ []) acc) (map (λ b. events.Cleared p b) bs)) t
          ∙ others bs q acc ne

  -- the effects of a step hand out what the stage takes out
  writes : (p found : ℕ) (stage : bits.Stage) (old : ℕ) → WritesBits p (effects_of p (bits_bridge.flight c found stage) old) (items_of stage old)
  writes p found (bits.SetExchangesElement place element) old = go (old == element)
    where
      -- the cases are whether the word is still what was read
      go : (b : Bool) → WritesBits p (cond b (events.Set p place ∷ []) []) []
      go true = record { quiet = λ before. refl; own = λ acc. sym (append-nil acc); others = λ q acc ne. refl }
      go false = writes_none p
  writes p found (bits.NextExchangesElement start passed element) old = go (old == element)
    where
      -- the cases are whether the word is still what was read
      go : (b : Bool) → WritesBits p (cond b (events.Cleared p (bits.place_after c start passed) ∷ []) [])
          (cond b (bits.place_after c start passed ∷ []) [])
      go true = writes_all p (bits.place_after c start passed ∷ [])
      go false = writes_none p
  writes p found (bits.AllSwapsElement word places) old = writes_all p (places_in word old)
  writes p found stage old = writes_none p

  -- After a step the items handed out are those of the next stage, or the page reads its answer
  -- from them and the model's.
  abbrev ReadsBits : List ℕ → machine.After bits.Stage bits.Answer → Type 0
  ReadsBits items a = Reads (bits.bit_set c) bits_bridge.reading HandsAt bits_bridge.answered items a

  -- a set that looks for its bit hands nothing out
  reads_set : (place old : ℕ) (items : List ℕ) → ReadsBits items (bits.set_tests place old)
  reads_set place old items = either (ReadsBits items) (bits.stands old place) _ _ refl tt

  -- a search that looks at a place hands nothing out
  reads_next : (start passed old : ℕ) (items : List ℕ) → ReadsBits items (bits.next_tests c start passed old)
  reads_next start passed old items =
      either (ReadsBits items) (bits.stands old (bits.place_after c start passed)) _ _ tt (either (ReadsBits items) (nat_lt (passed + 1) c) _ _ tt refl)

  -- what a reset of all hands out goes along with its stages into its answer
  reads : (stage : bits.Stage) (old : ℕ) (items : List ℕ) → HandsAt stage items → ReadsBits (items ++ items_of stage old) ((bits.does c stage).2 old)
  reads (bits.SetLoadsElement place) old items hands = reads_set place old (items ++ [])
  reads (bits.SetExchangesElement place element) old items hands =
      either (ReadsBits (items ++ [])) (old == element) _ _ refl (reads_set place old (items ++ []))
  reads bits.NextLoadsPosition old items hands = either (ReadsBits (items ++ [])) (nat_lt 0 c) _ _ tt refl
  reads (bits.NextLoadsElement start passed) old items hands = reads_next start passed old (items ++ [])
  reads (bits.NextExchangesElement start passed element) old items hands = go (old == element)
    where
      -- the cases are whether the word is still what was read
      go : (b : Bool)
          → ReadsBits (items ++ cond b (bits.place_after c start passed ∷ []) [])
          (cond b (machine.GoOn (bits.NextStoresPosition (bits.place_after c start passed))) (bits.next_tests c start passed old))
      go true = tt
      go false = reads_next start passed old (items ++ [])
  reads (bits.NextStoresPosition place) old items hands = refl
  reads (bits.AllSwapsElement word places) old items hands =
      either (ReadsBits (items ++ places_in word old)) (nat_lt (word + 1) (1 + elements c)) _ _
      (ap (λ xs. xs ++ places_in word old) hands) (ap (λ xs. bits.WereReset (xs ++ places_in word old)) hands)

  -- If the call goes on, its next stage is one of the same call, and fits a set of `c` places.
  abbrev BitsGoRight : bits.Stage → machine.After bits.Stage bits.Answer → Type 0
  BitsGoRight stage (machine.GoOn next) = (bits_law.call_at next ≡ bits_law.call_at stage) × bits_bridge.Fits c next
  BitsGoRight stage (machine.Done answer) = Unit {0}

  -- where a call goes on it is the same call, and a reset of all has an element left
  bits_right : (stage : bits.Stage) (old : ℕ) → bits_bridge.Fits c stage → BitsGoRight stage ((bits.does c stage).2 old)
  bits_right (bits.SetLoadsElement place) old fits = either (BitsGoRight (bits.SetLoadsElement place)) (bits.stands old place) _ _ tt (refl, tt)
  bits_right (bits.SetExchangesElement place element) old fits =
      let P = BitsGoRight (bits.SetExchangesElement place element) in
      either P (old == element) _ _ tt (either P (bits.stands old place) _ _ tt (refl, tt))
  bits_right bits.NextLoadsPosition old fits = either (BitsGoRight bits.NextLoadsPosition) (nat_lt 0 c) _ _ (refl, tt) tt
  bits_right (bits.NextLoadsElement start passed) old fits =
      let P = BitsGoRight (bits.NextLoadsElement start passed) in
      either P (bits.stands old (bits.place_after c start passed)) _ _ (refl, tt) (either P (nat_lt (passed + 1) c) _ _ (refl, tt) tt)
  bits_right (bits.NextExchangesElement start passed element) old fits =
      let P = BitsGoRight (bits.NextExchangesElement start passed element) in
      either P (old == element) _ _ (refl, tt)
      (either P (bits.stands old (bits.place_after c start passed)) _ _ (refl, tt) (either P (nat_lt (passed + 1) c) _ _ (refl, tt) tt))
  bits_right (bits.NextStoresPosition place) old fits = tt
  bits_right (bits.AllSwapsElement word places) old fits =
      either_so (BitsGoRight (bits.AllSwapsElement word places)) (nat_lt (word + 1) (1 + elements c)) _ _ (λ t. (refl, grind (arith, nat_tests))) (λ t. tt)

  -- What a step came to is the same, told as of a call on bits and as of any call.
  bits_went : (found : ℕ) (a : machine.After bits.Stage bits.Answer)
      → as_call flights.Bits (λ (answer : Answer ℕ). answer) (bits_bridge.went c found a)
      ≡ went (bits_flight found) bits_bridge.answered a
  bits_went found (machine.GoOn stage) = refl
  bits_went found (machine.Done answer) = refl

  -- how the calls of the page are the model's, and what relates them: by what its resets have handed out
  abbrev bits_pairing : Pairing ℕ ℕ (bits.bit_set c)
  bits_pairing =
      record {
        call_at = bits_law.call_at;
        start = λ call. Bits (bits_bridge.bits_start call);
        room = 0;
        flight = bits_flight;
        answered = bits_bridge.answered;
        Fits = bits_bridge.Fits c;
        Related = BitsRelated;
        Rule = λ w turn. Unit {0};
        Known = λ events k. Unit {0};
      }

  -- the page of the bit set goes along with the model's machine by what its resets have handed out
  bits_relation : Relation bits_pairing one_word kinds.Bits c
  bits_relation =
      record {
        known = λ t r kind capacity. tt;
        first_at = first_at;
        first_fits = first_fits;
        asks = bits_asks c;
        along = λ events k w related known. subst (λ k. GoesAlong bits_pairing one_word kinds.Bits c events k w) (sym related.0) (along events w related.1);
      }
    where
      -- the first stage of a call is one of that call
      first_at : (call : bits.Call) → bits_law.call_at (bits.first call) ≡ call
      first_at (bits.Set place) = refl
      first_at bits.ResetNext = refl
      first_at bits.ResetAll = refl

      -- the first stage of a call fits a set of c places
      first_fits : (call : bits.Call) → bits_bridge.Fits c (bits.first call)
      first_fits (bits.Set place) = tt
      first_fits bits.ResetNext = tt
      first_fits bits.ResetAll = omega arith

      -- The model begins a call at the stage that the page begins it.
      begins : (call : bits.Call)
          → first_of kinds.Bits c (Bits (bits_bridge.bits_start call)) nothing ≡ Some (bits_flight 0 (bits.first call))
      begins (bits.Set place) = refl
      begins bits.ResetNext = refl
      begins bits.ResetAll = refl

      -- The model refuses a call that the page's rule does not let begin.
      refuses : (p : ℕ) (call : bits.Call) → bits.may c p call ≡ false
          → is_some (first_row (begin_rows kinds.Bits c nothing p (Bits (bits_bridge.bits_start call)))) ≡ true
      refuses p (bits.Set place) may = fails_row (nat_le c place) (grind (arith, nat_tests))
      refuses p bits.ResetNext may = absurd (cc)
      refuses p bits.ResetAll may = absurd (cc)

      -- The model does not refuse a call that the page's rule lets begin.
      admits : (p : ℕ) (call : bits.Call) → bits.may c p call ≡ true
          → first_row (begin_rows kinds.Bits c nothing p (Bits (bits_bridge.bits_start call))) ≡ None
      admits p (bits.Set place) may = passes_row (nat_le c place) (grind (arith, nat_tests))
      admits p bits.ResetNext may = refl
      admits p bits.ResetAll may = refl

      call_same : (call : bits.Call) → bits_bridge.call_seen (Bits (bits_bridge.bits_start call)) ≡ call
      call_same (bits.Set place) = refl
      call_same bits.ResetNext = refl
      call_same bits.ResetAll = refl

      none_yet : (call : bits.Call) → HandsAt (bits.first call) []
      none_yet (bits.Set place) = tt
      none_yet bits.ResetNext = tt
      none_yet bits.ResetAll = refl

      along : (events : List (Event ℕ)) (w : BitsPage) → IsRead (bits.bit_set c) bits_bridge.reading HandsAt events w
          → GoesAlong bits_pairing one_word kinds.Bits c events nothing w
      along events w read =
          record {
            begins = begins;
            keeps = λ p call. refl;
            refuses = refuses;
            admits = λ p call may free rule. admits p call may;
            begun = λ p call may free rule. (refl, tellings.begins read p (Bits (bits_bridge.bits_start call)) (call_same call) (none_yet call));
            rows = λ r stage. refl;
            steps = steps;
          }
        where
          -- a step of the model's call leads to where the page's call goes
          steps : (beside : Option (ℕ × ℕ)) (p r : ℕ) (stage : bits.Stage) → w.pending p ≡ Some stage → bits_bridge.Fits c stage
              → StepsRight bits_pairing events w p stage
              (step_of one_word w.words beside p (Bits (bits_bridge.bits_start (bits_law.call_at stage))) (bits_flight r stage)
              (slice_index w.words (bits.does c stage).0) nothing)
          steps beside p r stage pending fits =
              let old = slice_index w.words (bits.does c stage).0 in
              let a = (bits.does c stage).2 old in
              let is = ap (as_call flights.Bits (λ (answer : Answer ℕ). answer)) (bits_after c r stage old) ∙ bits_went old a in
              let hands = subst (λ o. Hands (bits.bit_set c) bits_bridge.reading HandsAt o (handed bits_bridge.reading p events)) pending (read.hands p) in
              record {
                room = old;
                after_is = is;
                goes = λ next e. subst (BitsGoRight stage) e (bits_right stage old fits);
                related = λ known. (
                  refl,
                  steps_on read bits_pairing (λ p start answer. refl) (writes p r stage old) stage old
                      (reads stage old (handed bits_bridge.reading p events) hands) is,
                );
              }

  -- the turns of the relation are those of the page's specification
  bits_same_turn : (parties : ℕ) (turn : machine.Turn bits.Call) → relates.as_turn bits_relation parties turn ≡ bits_bridge.as_turn turn
  bits_same_turn parties (machine.Begin p call) = refl
  bits_same_turn parties (machine.Next p) = refl

  -- the model's opening meets the page's
  bits_opens : (parties : ℕ) → c < 2 ^ 32
      → Meets bits_relation parties (machine.opening (bits.bit_set c)) 0
      (opening one_word kinds.Bits c parties)
  bits_opens parties few =
      record {
        latest = [];
        changes = 0;
        turns = 0;
        kept = nothing;
        events = [];
        few = omega arith;
        is = refl;
        reached = reached_by one_word kinds.Bits c parties [] coded (grind (arith, nat_tests));
        related = (refl, record { history = refl; hands = λ p. tt });
        matches = λ p. refl;
      }

  -- after a list of turns the two machines meet
  bits_meets : (parties : ℕ) (turns : List (machine.Turn bits.Call)) → c < 2 ^ 32 → bits_bridge.AreWithin parties turns → length turns < 2 ^ 63
      → Meets bits_relation parties
      (fold (machine.turned (bits.bit_set c)) (machine.opening (bits.bit_set c)) turns) (0 + length turns)
      (run (map bits_bridge.as_turn turns) (opening one_word kinds.Bits c parties))
  bits_meets parties turns few within small =
      meets_after bits_relation parties (bits_opens parties few) bits_bridge.as_turn (bits_same_turn parties) turns
      (are_within bits_relation parties turns within) (no_rules bits_relation parties (λ w turn. tt) turns _) small

-- what the page runs is what the model's machine runs, with what the events hand out
pub bits_runs : bits_bridge.BitSetRunsAsTheMachine
bits_runs c parties turns some few within small =
    let s = bits_meets c some parties turns few within small in
    record {
      history = ap (λ (t : Trace ℕ). told bits_bridge.reading [] t.events) s.is ∙ s.related.1.history;
      words = ap (λ (t : Trace ℕ). t.world.words) s.is;
    }

pub bits_is_run : (t : Trace ℕ) → bits_bridge.BitSetIsRun t
bits_is_run t c parties turns some few within small is =
    subst (λ t. IsTold bits_bridge.reading t (fold (machine.turned (bits.bit_set c)) (machine.opening (bits.bit_set c)) turns)) (sym is)
    (bits_runs c parties turns some few within small)

-- The page of the unique index set is about machines, turn by turn, and so no index has two holders.
use Rattle.std.specs.Prelude.{replicate, slice_index_or}
use Rattle.std.proofs.Common.{nat_le, nat_lt, slice_set, ◌^◌, ◌%◌, ◌/◌}
use Rattle.std.proofs.lemmas.Bool.Decides.{nat_tests}
use Rattle.model.proofs.Names.{Bool, IsCoding, IsReached, List, None, Option, Some, Trace, [], answer_in, ap, append-nil, append_assoc, arith}
use Rattle.model.proofs.Names.{false, first_of, first_row, fold, length, map, not, one_word, opening, refl, slice_index, step_of, subst, sym, true}
use Rattle.model.proofs.Names.{ℕ, ◌++◌, ◌+◌, ◌-◌, ◌<◌, ◌==◌, ◌∙◌, ◌∷◌, ◌≡◌, ◌≤◌}
use Rattle.model.specs.declared.event.Answer.{Answer}
use Rattle.model.specs.declared.event.Event.{Event}
use Rattle.model.specs.declared.event.Event.TheVariants.{Begun, Freed}
use Rattle.model.specs.declared.event.Start.TheVariants.{Indices}
use Rattle.model.specs.declared.families.Flight.{Flight}
use Rattle.model.specs.declared.families.Flight.TheVariants as flights
use Rattle.model.specs.declared.families.Registry.{Registry}
use Rattle.model.specs.declared.families.Registry.TheVariants as registries
use Rattle.model.specs.declared.turn.Kind.TheVariants as kinds
use Rattle.model.specs.declared.turn.Refusal.TheVariants.{BadIndex, NotHeld, WrongCall}
use Rattle.model.specs.Families.{begin_rows}
use Rattle.model.specs.Families.Indices.Calls.{after}
use Rattle.model.specs.Families.Indices.Promises.{HoldsRight, IsIndexSet}
use Rattle.model.specs.Families.Indices.Steps.{effects, frees, wrote}
use Rattle.model.specs.Families.Queues.Opening as queues
use Rattle.model.specs.Promises.Families.{promise_of}
use Rattle.model.specs.Reading as readings
use Rattle.model.specs.Step.{as_call}
use Rattle.model.specs.Turns.{ending_of, run}
use Rattle.laws_indices.proofs.Sound.{index_keeps}
use Rattle.pages.specs.BitSetBridge.{AreWithin}
use Rattle.pages.specs.Machine as machine
use Rattle.pages.specs.Reading.{IsSame}
use Rattle.pages.specs.UniqueIndexSet as page
use Rattle.pages.specs.UniqueIndexSetBridge as bridge
use Rattle.pages.proofs.Holders.{History, Knows, Page, Rel, Related, begins_acquire, begins_release, frees_it, goes_on, no_end, responds, told_of}
use Rattle.pages.proofs.Relates.{AllRules, GoesAlong, Meets, Pairing, Relation, StepsRight, went}
use Rattle.pages.proofs.Relates as relates
use Rattle.pages.proofs.Runs.{are_within, meets_after, reached_by}
use Rattle.pages.proofs.Turns.{either}
use Rattle.pages.proofs.UniqueIndexSet.{after_same, asks_same}

-- ---- turn by turn

module _ (c : ℕ) where
  -- the call that a stage belongs to
  abbrev call_at : page.Stage → page.Call
  call_at page.AcquireLoadsHead = page.Acquire
  call_at (page.AcquireLoadsNext head) = page.Acquire
  call_at (page.AcquireExchangesHead head next) = page.Acquire
  call_at (page.AcquireClaims index) = page.Acquire
  call_at (page.AcquireScans index) = page.Acquire
  call_at (page.ReleaseClearsFlag index l) = page.Release index l
  call_at (page.ReleaseLoadsHead index l) = page.Release index l
  call_at (page.ReleaseStoresNext index l head) = page.Release index l
  call_at (page.ReleaseExchangesHead index l head) = page.Release index l
  call_at (page.ReleaseSubtracts index) = page.Release index false

  abbrev the_flight : Unit {0} → page.Stage → Flight ℕ
  the_flight room stage = flights.Indices (bridge.flight c stage)

  abbrev is_clearing : page.Stage → Bool
  is_clearing (page.ReleaseClearsFlag index l) = true
  is_clearing stage = false

  -- a call that goes on is the same call, and clears no flag next
  abbrev GoesRight : page.Stage → machine.After page.Stage page.Answer → Type 0
  GoesRight stage (machine.GoOn next) = (call_at next ≡ call_at stage) × (is_clearing next ≡ false)
  GoesRight stage (machine.Done answer) = Unit {0}

  -- an acquire that has seen the head goes on as an acquire
  sees_right : (stage : page.Stage) (old : ℕ) → call_at stage ≡ page.Acquire → GoesRight stage (page.sees c old)
  sees_right stage old is =
      let P = GoesRight stage in
      either P (old % 2 ^ 24 == 2 ^ 24 - 1) _ _ tt
      (either P (old % 2 ^ 24 == c) _ _ tt (either P (nat_lt (old / 2 ^ 40) c) _ _ (sym is, refl) (sym is, refl)))

  -- a call that goes on is the same call, and clears no flag next
  right : (stage : page.Stage) (old : ℕ) → GoesRight stage ((page.does c stage).2 old)
  right page.AcquireLoadsHead old = sees_right page.AcquireLoadsHead old refl
  right (page.AcquireLoadsNext head) old = (refl, refl)
  right (page.AcquireExchangesHead head next) old =
      let P = GoesRight (page.AcquireExchangesHead head next) in
      either P (old == head) _ _ (either (λ then. P (machine.GoOn then)) (nat_lt (head / 2 ^ 40) c) _ _ (refl, refl) (refl, refl))
      (sees_right (page.AcquireExchangesHead head next) old refl)
  right (page.AcquireClaims index) old = either (GoesRight (page.AcquireClaims index)) (page.has_flag old index) _ _ (refl, refl) tt
  right (page.AcquireScans index) old = either (GoesRight (page.AcquireScans index)) (page.has_flag old index) _ _ (refl, refl) tt
  right (page.ReleaseClearsFlag index l) old = (refl, refl)
  right (page.ReleaseLoadsHead index l) old = (refl, refl)
  right (page.ReleaseStoresNext index l head) old = (refl, refl)
  right (page.ReleaseExchangesHead index true head) old =
      either (GoesRight (page.ReleaseExchangesHead index true head)) (old == head) _ _ tt (refl, refl)
  right (page.ReleaseExchangesHead index false head) old =
      either (GoesRight (page.ReleaseExchangesHead index false head)) (old == head) _ _ tt (refl, refl)
  right (page.ReleaseSubtracts index) old = tt

  -- what a step writes: the index that it frees, or what its answer says
  abbrev freed_by : page.Stage → Option ℕ
  freed_by (page.ReleaseClearsFlag index l) = Some index
  freed_by stage = None

  abbrev wrote_of : ℕ → Option ℕ → machine.After page.Stage page.Answer → List (Event ℕ)
  wrote_of p (Some index) a = Freed p index ∷ []
  wrote_of p None (machine.Done answer) = told_of c p answer
  wrote_of p None (machine.GoOn next) = []

  -- the events of a step are those that the page's stage and answer say
  effects_same : (p : ℕ) (o : Option ℕ) (a : machine.After page.Stage page.Answer) → effects p o (answer_in (bridge.went c a)) ≡ wrote_of p o a
  effects_same p (Some index) a = refl
  effects_same p None (machine.GoOn next) = refl
  effects_same p None (machine.Done (page.Released true)) = refl
  effects_same p None (machine.Done answer) = refl

  -- a stage frees an index by the model where it clears its flag
  frees_same : (stage : page.Stage) → frees (bridge.flight c stage) ≡ freed_by stage
  frees_same page.AcquireLoadsHead = refl
  frees_same (page.AcquireLoadsNext head) = refl
  frees_same (page.AcquireExchangesHead head next) = refl
  frees_same (page.AcquireClaims index) = refl
  frees_same (page.AcquireScans index) = refl
  frees_same (page.ReleaseClearsFlag index true) = refl
  frees_same (page.ReleaseClearsFlag index false) = refl
  frees_same (page.ReleaseLoadsHead index true) = refl
  frees_same (page.ReleaseLoadsHead index false) = refl
  frees_same (page.ReleaseStoresNext index true head) = refl
  frees_same (page.ReleaseStoresNext index false head) = refl
  frees_same (page.ReleaseExchangesHead index true head) = refl
  frees_same (page.ReleaseExchangesHead index false head) = refl
  frees_same (page.ReleaseSubtracts index) = refl

  wrote_same : (p : ℕ) (stage : page.Stage) (old : ℕ) → wrote p (bridge.flight c stage) old ≡ wrote_of p (freed_by stage) ((page.does c stage).2 old)
  wrote_same p stage old =
      ap (λ o. effects p o (answer_in (after (bridge.flight c stage) old))) (frees_same stage)
      ∙ (ap (λ a. effects p (freed_by stage) (answer_in a)) (after_same c stage old) ∙ effects_same p (freed_by stage) ((page.does c stage).2 old))

  went_same : (a : machine.After page.Stage page.Answer)
      → as_call flights.Indices (λ (answer : Answer ℕ). answer) (bridge.went c a) ≡ went (the_flight tt) bridge.answered a
  went_same (machine.GoOn stage) = refl
  went_same (machine.Done answer) = refl

  -- ---- what a step leaves of the relation

  abbrev events_then : List (Event ℕ) → ℕ → page.Stage → machine.After page.Stage page.Answer → List (Event ℕ)
  events_then events p stage a =
      events ++ (wrote_of p (freed_by stage) a
      ++ ending_of p (Indices (bridge.index_start (call_at stage))) (answer_in (went (the_flight tt) bridge.answered a)))

  -- The page and the model's events are related (`Rel`) after a step that left these words and
  -- came to `a`.
  abbrev RelThen : List (Event ℕ) → Page c → ℕ → page.Stage → List ℕ → machine.After page.Stage page.Answer → Type 0
  RelThen events w p stage words a =
      Rel c (events_then events p stage a) (machine.gone (page.unique_index_set c) w p words a).history
      (machine.gone (page.unique_index_set c) w p words a).pending

  -- the events after a step that frees no index and comes to `a`
  abbrev quiet_then : List (Event ℕ) → ℕ → page.Stage → machine.After page.Stage page.Answer → List (Event ℕ)
  quiet_then events p stage a =
      events ++ (wrote_of p None a ++ ending_of p (Indices (bridge.index_start (call_at stage))) (answer_in (went (the_flight tt) bridge.answered a)))

  -- after a step that frees no index, the page's history and the model's events agree on
  -- who holds which index
  frees_none : {events : List (Event ℕ)} → (w : Page c) (p : ℕ) (stage : page.Stage) (words : List ℕ) (old : ℕ) → Rel c events w.history w.pending
      → readings.Each (HoldsRight c) (quiet_then events p stage ((page.does c stage).2 old))
      → Rel c (quiet_then events p stage ((page.does c stage).2 old))
      (machine.gone (page.unique_index_set c) w p words ((page.does c stage).2 old)).history
      (machine.gone (page.unique_index_set c) w p words ((page.does c stage).2 old)).pending
  frees_none {events} w p stage words old r knows = go ((page.does c stage).2 old) (right stage old) knows
    where
      -- the cases are whether the call goes on
      go : (a : machine.After page.Stage page.Answer) → GoesRight stage a → readings.Each (HoldsRight c) (quiet_then events p stage a)
          → Rel c (quiet_then events p stage a) (machine.gone (page.unique_index_set c) w p words a).history
          (machine.gone (page.unique_index_set c) w p words a).pending
      go (machine.GoOn next) goes knows =
          goes_on c events w.history w.pending p next r (λ j l e. (let t : is_clearing next ≡ true = ap is_clearing e in
          let clash : false ≡ true = sym goes.1 ∙ t in absurd (cc)))
      go (machine.Done answer) goes knows = responds c events w.history w.pending (Indices (bridge.index_start (call_at stage))) p answer r knows

  -- after each step of a call under way, the page's history and the model's events agree on
  -- who holds which index
  related_then : (events : List (Event ℕ)) (w : Page c) (p : ℕ) (stage : page.Stage) (words : List ℕ) (old : ℕ)
      → Rel c events w.history w.pending → w.pending p ≡ Some stage
      → readings.Each (HoldsRight c) (events_then events p stage ((page.does c stage).2 old))
      → RelThen events w p stage words ((page.does c stage).2 old)
  -- one step frees an index: the release that clears its flag
  related_then events w p (page.ReleaseClearsFlag index l) words old r here knows = frees_it c events w.history w.pending p index l r here
  -- every other step frees none, and goes on at no such stage
  related_then events w p stage words old r here knows = frees_none w p stage words old r knows

  -- ---- the relation

  knows_of : (t : Trace ℕ) → IsReached t → t.world.kind ≡ kinds.Indices → t.world.capacity ≡ c → Knows c t.events t.world.kept
  knows_of t reached is same =
      let kept = (index_keeps {T = ℕ}).kept t is reached in
      let set : IsIndexSet t = subst (λ k. (promise_of k).holds t) is kept.promised in
      record { holds = subst (λ n. readings.Each (HoldsRight n) t.events) same set.holds; keeps = set.holders }

  -- Only the holder of an index begins its release.
  abbrev Rule : Page c → machine.Turn page.Call → Type 0
  Rule w (machine.Begin p (page.Release index l)) = w.pending p ≡ None → page.holder index w.history ≡ Some p
  Rule w turn = Unit {0}

  -- how the calls of the page are the model's, and what relates them: who holds which index
  abbrev pairing : Pairing ℕ (Unit {0}) (page.unique_index_set c)
  pairing =
      record {
        call_at = call_at;
        start = λ call. Indices (bridge.index_start call);
        room = tt;
        flight = the_flight;
        answered = bridge.answered;
        Fits = λ stage. Unit {0};
        Related = Related c;
        Rule = Rule;
        Known = Knows c;
      }

  -- the machine's step at a stage of the page keeps page and machine related
  abbrev StepIs : List (Event ℕ) → Page c → ℕ → page.Stage → Option (ℕ × ℕ) → Registry ℕ → Type 0
  StepIs events w p stage beside k =
      StepsRight pairing events w p stage
      (step_of one_word w.words beside p (Indices (bridge.index_start (call_at stage))) (the_flight tt stage)
      (slice_index w.words (page.does c stage).0) k)

  holds_row : (a b : Bool) → a ≡ false → b ≡ true → first_row ((false, WrongCall) ∷ (a, BadIndex) ∷ (not b, NotHeld) ∷ []) ≡ None
  holds_row a b e f = rw (e, f) refl

  is_holder : (o : Option ℕ) (p : ℕ) → o ≡ Some p → queues.holds o p ≡ true
  is_holder o p e = rw e (grind (arith, nat_tests))

  -- a step of the model's call leads to where the page's call goes
  step_by : (events : List (Event ℕ)) (w : Page c) (p : ℕ) (stage : page.Stage) (beside : Option (ℕ × ℕ)) (holders : List (Option ℕ))
      → Rel c events w.history w.pending → w.pending p ≡ Some stage → StepIs events w p stage beside (registries.Indices holders)
  step_by events w p stage beside holders r here =
      let old = slice_index w.words (page.does c stage).0 in
      let a = (page.does c stage).2 old in
      let words = slice_set w.words (page.does c stage).0 (machine.written (page.does c stage).1 old) in
      let start = Indices (bridge.index_start (call_at stage)) in
      let is = ap (as_call flights.Indices (λ (answer : Answer ℕ). answer)) (after_same c stage old) ∙ went_same a in
      let es = ap (λ z. wrote p (bridge.flight c stage) old ++ ending_of p start (answer_in z)) is
      ∙ ap (λ xs. xs ++ ending_of p start (answer_in (went (the_flight tt) bridge.answered a))) (wrote_same p stage old) in
      record {
        room = tt;
        after_is = is;
        goes = λ next e. ((subst (GoesRight stage) e (right stage old)).0, tt);
        related = λ known.
            subst (λ xs. Rel c (events ++ xs) (machine.gone (page.unique_index_set c) w p words a).history
            (machine.gone (page.unique_index_set c) w p words a).pending) (sym es)
            (related_then events w p stage words old r here (subst (λ xs. readings.Each (HoldsRight c) (events ++ xs)) es known.holds));
      }

  -- the page of the unique index set goes along with the model's machine by who holds which index
  relation : Relation pairing one_word kinds.Indices c
  relation = record { known = knows_of; first_at = first_at; first_fits = λ call. tt; asks = λ r stage fits. asks_same c stage; along = along }
    where
      first_at : (call : page.Call) → call_at (page.first call) ≡ call
      first_at page.Acquire = refl
      first_at (page.Release index l) = refl

      -- The model begins a call at the stage that the page begins it.
      begins : (k : Registry ℕ) (call : page.Call)
          → first_of kinds.Indices c (Indices (bridge.index_start call)) k ≡ Some (the_flight tt (page.first call))
      begins k page.Acquire = refl
      begins k (page.Release index true) = refl
      begins k (page.Release index false) = refl

      along : (events : List (Event ℕ)) (k : Registry ℕ) (w : Page c) → Related c events k w → Knows c events k
          → GoesAlong pairing one_word kinds.Indices c events k w
      along events (registries.Indices holders) w related known =
          record {
            begins = begins (registries.Indices holders);
            keeps = λ p call. refl;
            refuses = λ p call may. absurd (cc);
            admits = admits;
            begun = begun;
            rows = λ r stage. refl;
            steps = λ beside p r stage pending fits. step_by events w p stage beside holders related pending;
          }
        where
          -- a release of an index that its party holds is not refused by the model
          holds : (p index : ℕ) → page.holder index w.history ≡ Some p
              → first_row ((false, WrongCall) ∷ (nat_le c index, BadIndex) ∷ (not (queues.holds (slice_index_or holders index None) p), NotHeld) ∷ []) ≡ None
          holds p index holder =
              let had = related.held index p holder in
              holds_row (nat_le c index) (queues.holds (slice_index_or holders index None) p) (grind (arith, nat_tests, had.1))
              (is_holder (slice_index_or holders index None) p (known.keeps index ∙ had.0))

          -- a call that the page lets begin is not refused by the model, if a release is of an index that its party holds
          admits : (p : ℕ) (call : page.Call) → true ≡ true → w.pending p ≡ None → Rule w (machine.Begin p call)
              → first_row (begin_rows {T = ℕ} kinds.Indices c (registries.Indices holders) p (Indices (bridge.index_start call))) ≡ None
          admits p page.Acquire may free rule = refl
          admits p (page.Release index true) may free rule = holds p index (rule free)
          admits p (page.Release index false) may free rule = holds p index (rule free)

          begun : (p : ℕ) (call : page.Call) → true ≡ true → w.pending p ≡ None → Rule w (machine.Begin p call)
              → Related c (events ++ Begun p (Indices (bridge.index_start call)) ∷ []) (registries.Indices holders)
              (machine.begun (page.unique_index_set c) w p call true None)
          begun p page.Acquire may free rule = begins_acquire c events w.history w.pending p related
          begun p (page.Release index l) may free rule = begins_release c events w.history w.pending p index l related (rule free)
      along events k w related known = absurd (known.keeps)

  -- ---- the rule of the callers, from the history at the end

  -- a turn adds to the history
  turn_extends : (w : Page c) (turn : machine.Turn page.Call)
      → (more : History) × ((machine.turned (page.unique_index_set c) w turn).history ≡ w.history ++ more)
  turn_extends w (machine.Begin p call) = go (w.pending p)
    where
      go : (o : Option page.Stage) → (more : History) × ((machine.begun (page.unique_index_set c) w p call true o).history ≡ w.history ++ more)
      go None = (machine.Invoked p call ∷ [], refl)
      go (Some stage) = ([], sym (append-nil w.history))
  turn_extends w (machine.Next p) = go (w.pending p)
    where
      gone : (words : List ℕ) (a : machine.After page.Stage page.Answer)
          → (more : History) × ((machine.gone (page.unique_index_set c) w p words a).history ≡ w.history ++ more)
      gone words (machine.GoOn stage) = ([], sym (append-nil w.history))
      gone words (machine.Done answer) = (machine.Responded p answer ∷ [], refl)

      go : (o : Option page.Stage) → (more : History) × ((machine.stepped (page.unique_index_set c) w p o).history ≡ w.history ++ more)
      go None = ([], sym (append-nil w.history))
      go (Some stage) =
          gone (slice_set w.words (page.does c stage).0 (machine.written (page.does c stage).1 (slice_index w.words (page.does c stage).0)))
          ((page.does c stage).2 (slice_index w.words (page.does c stage).0))

  -- a list of turns adds to the history
  extends : (turns : List (machine.Turn page.Call)) (w : Page c)
      → (more : History) × ((fold (machine.turned (page.unique_index_set c)) w turns).history ≡ w.history ++ more)
  extends [] w = ([], sym (append-nil w.history))
  extends (turn ∷ turns) w =
      let one = turn_extends w turn in
      let rest = extends turns (machine.turned (page.unique_index_set c) w turn) in
      (one.0 ++ rest.0, rest.1 ∙ (ap (λ h. h ++ rest.0) one.1 ∙ append_assoc w.history one.0 rest.0))

  -- where each release of the history is of an index that its party holds, the callers keep to the rule in each turn
  rules_of : (parties : ℕ) (turns : List (machine.Turn page.Call)) (w : Page c)
      → page.Each page.ReleasesOwn (fold (machine.turned (page.unique_index_set c)) w turns).history
      → AllRules relation parties w turns
  rules_of parties [] w own = tt
  rules_of parties (turn ∷ turns) w own = (rule turn own, rules_of parties turns (machine.turned (page.unique_index_set c) w turn) own)
    where
      -- the callers keep to the rule in the first of the turns
      rule : (turn : machine.Turn page.Call)
          → page.Each page.ReleasesOwn (fold (machine.turned (page.unique_index_set c)) (machine.turned (page.unique_index_set c) w turn) turns).history
          → Rule w turn
      rule (machine.Begin p page.Acquire) own = tt
      rule (machine.Begin p (page.Release index l)) own =
          λ free.
          (let rest = extends turns (machine.turned (page.unique_index_set c) w (machine.Begin p (page.Release index l))) in
          let now = ap (λ o. (machine.begun (page.unique_index_set c) w p (page.Release index l) true o).history) free in
          own w.history rest.0 (machine.Invoked p (page.Release index l))
          (rest.1 ∙ (ap (λ h. h ++ rest.0) now ∙ append_assoc w.history (machine.Invoked p (page.Release index l) ∷ []) rest.0)))
      rule (machine.Next p) own = tt

  -- ---- every list of turns

  abbrev world_of : List (machine.Turn page.Call) → Page c
  world_of turns = fold (machine.turned (page.unique_index_set c)) (machine.opening (page.unique_index_set c)) turns

  -- the turns of the relation are those of the page's specification
  same_turn : (parties : ℕ) (turn : machine.Turn page.Call) → relates.as_turn relation parties turn ≡ bridge.as_turn turn
  same_turn parties (machine.Begin p call) = refl
  same_turn parties (machine.Next p) = refl

  coded : IsCoding one_word
  coded = grind arith

  -- the model's opening meets the page's
  opens : (parties : ℕ) → 0 < c → c < 2 ^ 24 - 1
      → Meets relation parties (machine.opening (page.unique_index_set c)) 0
      (opening one_word kinds.Indices c parties)
  opens parties some few =
      record {
        latest = [];
        changes = 0;
        turns = 0;
        kept = registries.Indices (replicate c None);
        events = [];
        few = omega arith;
        is = refl;
        reached = reached_by one_word kinds.Indices c parties [] coded (grind (arith, nat_tests));
        related = record {
          told = refl;
          held = λ i p e. absurd (cc);
          locked = λ e. absurd (cc);
          right = λ before after e is. absurd (no_end e before after is);
          releasing = λ p i l e. absurd (cc);
        };
        matches = λ p. refl;
      }

  -- after a list of turns the two machines meet
  meets : (parties : ℕ) (turns : List (machine.Turn page.Call)) → 0 < c → c < 2 ^ 24 - 1 → AreWithin parties turns → length turns < 2 ^ 63
      → page.Each page.ReleasesOwn (world_of turns).history
      → Meets relation parties (world_of turns) (0 + length turns)
      (run (map bridge.as_turn turns) (opening one_word kinds.Indices c parties))
  meets parties turns some few within small own =
      meets_after relation parties (opens parties some few) bridge.as_turn (same_turn parties) turns
      (are_within relation parties turns within) (rules_of parties turns (machine.opening (page.unique_index_set c)) own) small

-- what the page runs is what the model's machine runs
pub runs : bridge.UniqueRunsAsTheMachine
runs c parties turns some few within small own =
    let s = meets c parties turns some few within small own in
    record {
      events = s.events;
      is = ap (λ (t : Trace ℕ). t.events) s.is;
      history = s.related.told;
      words = ap (λ (t : Trace ℕ). t.world.words) s.is;
    }

pub is_run : (t : Trace ℕ) → bridge.UniqueIsRun t
is_run t c parties turns some few within small own is =
    subst (λ t. IsSame bridge.reading [] t (fold (machine.turned (page.unique_index_set c)) (machine.opening (page.unique_index_set c)) turns)) (sym is)
    (runs c parties turns some few within small own)

-- a number of parties with a party for each of these turns
abbrev parties_of : List (machine.Turn page.Call) → ℕ
parties_of [] = 0
parties_of (machine.Begin p call ∷ turns) = p + 1 + parties_of turns
parties_of (machine.Next p ∷ turns) = parties_of turns

all_within : (n : ℕ) (turns : List (machine.Turn page.Call)) → parties_of turns ≤ n → AreWithin n turns
all_within n [] le = tt
all_within n (machine.Begin p call ∷ turns) le = ((omega arith), all_within n turns (omega arith))
all_within n (machine.Next p ∷ turns) le = (tt, all_within n turns le)

-- no index has two holders, and none is acquired once the set is locked, where each party releases what it holds
pub holds_alone : (c : ℕ) (turns : List (machine.Turn page.Call)) → 0 < c → c < 2 ^ 24 - 1 → length turns < 2 ^ 63
    → page.Each page.ReleasesOwn (fold (machine.turned (page.unique_index_set c)) (machine.opening (page.unique_index_set c)) turns).history
    → page.Each (page.HoldsAlone c) (fold (machine.turned (page.unique_index_set c)) (machine.opening (page.unique_index_set c)) turns).history
holds_alone c turns some few small own =
    let n = parties_of turns in
    (meets c n turns some few (all_within n turns (omega arith)) small own).related.right

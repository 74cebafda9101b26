-- Each turn of a page's machine is a turn of the model's (`all_turns`), if a relation between the page, the
-- model's events and its registry (what it keeps beside words) goes along with each step (`Relation`).
use Rattle.std.proofs.Common.{◌^◌, is_none, is_some, nat_le}
use Rattle.std.proofs.lemmas.Bool.Decides.{nat_tests}
use Rattle.std.specs.List.{AllByRecursion}
use Rattle.std.specs.Prelude.{slice_set}
use Rattle.model.proofs.Names.{fold, Bool, Coding, IsReached, List, map, None, Option, Some, Trace, World, [], after_begin, after_step}
use Rattle.model.proofs.Names.{after_turn, after_next, ap, answer_in, arith, ask_of}
use Rattle.model.proofs.Names.{beside_of, change_of, cond, doing_of, events_of_next, false, first_of, first_row}
use Rattle.model.proofs.Names.{flight_of, going_rows, is_due, length, old_of, party_of}
use Rattle.model.proofs.Names.{party_at_begin, refl, refusal_of, slice_index, step_count, step_of, subst, sym, true}
use Rattle.model.proofs.Names.{want_of, ℕ, ◌++◌, ◌+◌, ◌-◌, ◌<◌, ◌==◌, ◌∙◌, ◌∷◌, ◌≡◌, ◌≢◌, ◌≤◌}
use Rattle.model.proofs.Parties.{party_put_same, party_put_other}
use Rattle.model.proofs.Reached.{reached_more, run_keeps}
use Rattle.model.specs.declared.event.Answer as answers
use Rattle.model.specs.declared.event.Event.{Event}
use Rattle.model.specs.declared.event.Event.TheVariants.{Begun}
use Rattle.model.specs.declared.event.Start.{Start}
use Rattle.model.specs.declared.families.Flight.{Flight}
use Rattle.model.specs.declared.families.Registry.{Registry}
use Rattle.model.specs.declared.party.Doing.TheVariants.{Going}
use Rattle.model.specs.declared.party.Party.{Party}
use Rattle.model.specs.declared.turn.Kind.{Kind}
use Rattle.model.specs.declared.turn.Refusal.TheVariants.{AtEnd, NoParty, Busy, Idle, Undecided}
use Rattle.model.specs.declared.turn.Turn.{Turn}
use Rattle.model.specs.declared.turn.Turn.TheVariants.{Begin, Next}
use Rattle.model.specs.Families.{begin_rows, kept_after_begin}
use Rattle.model.specs.Parties.{put}
use Rattle.model.specs.Step.{Step}
use Rattle.model.specs.Turns.{attempt, ending_of, party_after, run}
use Rattle.steps.specs.declared.ask.After.{After}
use Rattle.steps.specs.declared.ask.After.TheVariants as steps
use Rattle.steps.specs.declared.ask.Ask.{Ask}
use Rattle.pages.specs.Machine as machine
use Rattle.pages.specs.Reading.{asked}
use Rattle.pages.proofs.Turns.{asks_no_question, four_rows, none_is, not_at_end, not_past, refused, refused_later, taken, three_rows, words_same}

-- how a page's call goes on, in the words of the model
abbrev pub went : {T Stage Answer : Type 0} → (Stage → Flight T) → (Answer → answers.Answer T)
    → machine.After Stage Answer → After (Flight T) (answers.Answer T)
went flight answered (machine.GoOn stage) = steps.GoOn (flight stage)
went flight answered (machine.Done answer) = steps.Done (answered answer)

-- How the calls of a page are those of the model's machine, and what relates the two.
pub record Pairing (T Room : Type 0) {Call Stage Answer : Type 0} (of : machine.Structure Call Stage Answer) : Type 1 where
  pub call_at : Stage → Call  -- the call of which this is a stage
  pub start : Call → Start T  -- the model's call
  pub room : Room  -- what the model's call has besides, as it begins
  pub flight : Room → Stage → Flight T  -- the model's stage
  pub answered : Answer → answers.Answer T  -- the model's answer
  pub Fits : Stage → Type 0  -- what holds of each stage to which calls come
  pub Related : List (Event T) → Registry T → machine.World Call Stage Answer → Type 0  -- the relation of the model's events and registry to the page
  pub Rule : machine.World Call Stage Answer → machine.Turn Call → Type 0  -- what the callers keep to
  pub Known : List (Event T) → Registry T → Type 0  -- what is known of each run of the model

module _ {T Room Call Stage Answer : Type 0} {of : machine.Structure Call Stage Answer} (pairing : Pairing T Room of) where
  open pairing use {Fits, Known, Related, Rule, answered, call_at, flight, room, start}

  -- what a step of the page's call comes to on the page, if the model's step is `s`
  pub record StepsRight (events : List (Event T)) (w : machine.World Call Stage Answer) (p : ℕ) (stage : Stage)
      (s : Step (Flight T) (Registry T) T) : Type 0 where
    pub room : Room  -- what the model's call has besides, after the step
    pub after_is : s.after ≡ went (flight room) answered ((of.does stage).2 (slice_index w.words (of.does stage).0))
    pub goes : (next : Stage) → (of.does stage).2 (slice_index w.words (of.does stage).0) ≡ machine.GoOn next
        → (call_at next ≡ call_at stage) × Fits next
    pub related : Known (events ++ (s.wrote ++ ending_of p (start (call_at stage)) (answer_in s.after))) s.kept
        → Related (events ++ (s.wrote ++ ending_of p (start (call_at stage)) (answer_in s.after))) s.kept (machine.stepped of w p (Some stage))

  module _ (code : Coding T) (kind : Kind) (capacity : ℕ) where
    -- From this page, these events and what the model keeps beside words the two machines go along: in each call that begins
    -- and in each step of a call.
    pub record GoesAlong (events : List (Event T)) (k : Registry T) (w : machine.World Call Stage Answer) : Type 0 where
      -- how the model begins a call, and when it refuses to
      pub begins : (call : Call) → first_of kind capacity (start call) k ≡ Some (flight room (of.first call))
      pub keeps : (p : ℕ) (call : Call) → kept_after_begin code capacity (start call) p k ≡ k
      pub refuses : (p : ℕ) (call : Call) → of.may p call ≡ false → is_some (first_row (begin_rows kind capacity k p (start call))) ≡ true
      pub admits : (p : ℕ) (call : Call) → of.may p call ≡ true → w.pending p ≡ None → Rule w (machine.Begin p call)
          → first_row (begin_rows kind capacity k p (start call)) ≡ None
      -- the two are related again once a call has begun, and once one has taken a step
      pub begun : (p : ℕ) (call : Call) → of.may p call ≡ true → w.pending p ≡ None → Rule w (machine.Begin p call)
          → Related (events ++ Begun p (start call) ∷ []) k (machine.begun of w p call true None)
      pub rows : (r : Room) (stage : Stage) → first_row (going_rows code k (Some (flight r stage)) None) ≡ None
      pub steps : (beside : Option (ℕ × ℕ)) (p : ℕ) (r : Room) (stage : Stage) → w.pending p ≡ Some stage → Fits stage
          → StepsRight events w p stage
          (step_of code w.words beside p (start (call_at stage)) (flight r stage) (slice_index w.words (of.does stage).0) k)

    -- The relation goes along with the machines: it holds again after each step if it held before.
    pub record Relation : Type 0 where
      pub known : (t : Trace T) → IsReached t → t.world.kind ≡ kind → t.world.capacity ≡ capacity → Known t.events t.world.kept
      pub first_at : (call : Call) → call_at (of.first call) ≡ call
      pub first_fits : (call : Call) → Fits (of.first call)
      pub asks : (r : Room) (stage : Stage) → Fits stage → ask_of (want_of code (flight r stage)) ≡ Some (asked (of.does stage).0 (of.does stage).1)
      pub along : (events : List (Event T)) (k : Registry T) (w : machine.World Call Stage Answer) → Related events k w → Known events k
          → GoesAlong events k w

-- What a run of the model's machine has that its turns change.
pub record Now (T : Type 0) : Type 0 where
  pub kept : Registry T
  pub words : List ℕ
  pub latest : List (ℕ × Party T)
  pub changes : ℕ
  pub turns : ℕ
  pub events : List (Event T)

module _ {T Room Call Stage Answer : Type 0} {of : machine.Structure Call Stage Answer} {pairing : Pairing T Room of} {code : Coding T} {kind : Kind}
    {capacity : ℕ} (law : Relation pairing code kind capacity) (parties : ℕ)
  where
    open pairing use {Fits, Related, Rule, answered, call_at, flight, room, start}

    abbrev Page : Type 0
    Page = machine.World Call Stage Answer

    abbrev pub world : Now T → World T  -- the model's world, of these parties
    world now =
        record {
          coding = code;
          kind = kind;
          capacity = capacity;
          parties = parties;
          words = now.words;
          kept = now.kept;
          latest = now.latest;
          changes = now.changes;
          turns = now.turns;
        }

    abbrev pub trace : Now T → Trace T
    trace now = record { world = world now; events = now.events }

    abbrev pub as_turn : machine.Turn Call → Turn T  -- the model's turn for a turn of the page
    as_turn (machine.Begin p call) = Begin p (start call)
    as_turn (machine.Next p) = Next p

    -- who may begin a call is a party of the model's machine
    abbrev pub IsWithin : machine.Turn Call → Type 0
    IsWithin (machine.Begin p call) = of.may p call ≡ true → p < parties
    IsWithin (machine.Next p) = Unit {0}

    abbrev going : Room → Stage → ℕ → ℕ → ℕ → Party T  -- a party of the model whose call is under way at this stage
    going r stage steps backs since = record { start = start (call_at stage); steps = steps; backs = backs; doing = Going (flight r stage) since }

    pub record Goes (p : ℕ) (stage : Stage) (o : Option (Party T)) : Type 0 where
      pub steps : ℕ
      pub backs : ℕ
      pub since : ℕ
      pub below : p < parties
      pub room : Room
      pub fits : Fits stage
      pub is : o ≡ Some (going room stage steps backs since)  -- the model's party is at this stage

    abbrev pub Matches : ℕ → Option Stage → Option (Party T) → Type 0  -- both have no call, or the model's is at the page's stage
    Matches p None o = flight_of (doing_of o) ≡ None
    Matches p (Some stage) o = Goes p stage o

    pub record Meets (w : Page) (n : ℕ) (t : Trace T) : Type 0 where
      pub latest : List (ℕ × Party T)
      pub changes : ℕ
      pub turns : ℕ
      pub kept : Registry T
      pub events : List (Event T)
      pub few : turns ≤ n + 4  -- at most n turns of the page, after at most four before it opened
      -- the model's trace runs the page's world: it has its words
      pub is : t ≡ trace (record { kept = kept; words = w.words; latest = latest; changes = changes; turns = turns; events = events })
      pub reached : IsReached t
      pub related : Related events kept w
      pub matches : (p : ℕ) → Matches p (w.pending p) (party_of p latest)  -- each party's call is at its stage

    -- the run of the model that meets the page
    abbrev pub now_of : {w : Page} {n : ℕ} {t : Trace T} → Meets w n t → Now T
    now_of {w} s = record { kept = s.kept; words = w.words; latest = s.latest; changes = s.changes; turns = s.turns; events = s.events }

    -- where the two machines meet they go along
    along_of : {w : Page} {n : ℕ} {t : Trace T} → (s : Meets w n t) → GoesAlong pairing code kind capacity s.events s.kept w
    along_of {w} s = law.along s.events s.kept w s.related (law.known (trace (now_of s)) (subst IsReached s.is s.reached) refl refl)

    -- each party's call matches its stage once a call that matches its own is put in with it
    put_matches : (p : ℕ) (o : Option Stage) (x : Party T) (pending : ℕ → Option Stage) (latest : List (ℕ × Party T))
        → Matches p o (Some x) → ((q : ℕ) → Matches q (pending q) (party_of q latest))
        → (q : ℕ) → Matches q (machine.put p o pending q) (party_of q (put p x latest))
    put_matches p o x pending latest h all q = go (q == p) refl
      where
        go : (b : Bool) → (q == p) ≡ b → Matches q (cond b o (pending q)) (party_of q (put p x latest))  -- the cases are whether q is the party p
        go true t =
            let same : p ≡ q = grind (arith, nat_tests) in
            subst (λ r. Matches r o (party_of r (put p x latest))) same (subst (Matches p o) (sym (party_put_same p x latest)) h)
        go false t =
            let other : q ≢ p = grind (arith, nat_tests) in
            subst (Matches q (pending q)) (sym (party_put_other q p x latest other)) (all q)

    attempted : (t : Trace T) (turn : Turn T) → IsReached t → IsReached (attempt t turn)
    attempted t turn r = run_keeps refusal_of IsReached (λ t turn e r. reached_more t turn e r) (turn ∷ []) t r

    -- a page that takes no turn meets the trace of one turn more if that is unchanged
    waits : {w : Page} {n : ℕ} {t : Trace T} → Meets w n t → Meets w (n + 1) t
    waits s =
        let few = s.few in
        record {
          latest = s.latest;
          changes = s.changes;
          turns = s.turns;
          kept = s.kept;
          events = s.events;
          few = omega arith;
          is = s.is;
          reached = s.reached;
          related = s.related;
          matches = s.matches;
        }

    -- ---- a call begins

    abbrev begun_party : Call → ℕ → Party T
    begun_party call changes = party_at_begin (start call) (flight room (of.first call)) changes

    -- the run once the party has begun the call
    abbrev begun_now : Now T → ℕ → Call → Now T
    begun_now now p call =
        record now { latest = put p (begun_party call now.changes) now.latest; turns = now.turns + 1; events = now.events ++ Begun p (start call) ∷ [] }

    -- what the model's machine is once a call has begun
    begin_is : (now : Now T) {w : Page} → GoesAlong pairing code kind capacity now.events now.kept w → (p : ℕ) (call : Call)
        → after_turn (trace now) (Begin p (start call)) ≡ trace (begun_now now p call)
    begin_is now along p call =
        ap (λ o. record { world = after_begin (world now) p (start call) o; events = now.events ++ Begun p (start call) ∷ [] }) (along.begins call)
        ∙ ap (λ k. trace (record (begun_now now p call) { kept = k })) (along.keeps p call)

    -- as a call begins that the rule lets begin, the two machines meet again
    begins : {w : Page} {n : ℕ} {t : Trace T} → (p : ℕ) (call : Call) → n < 2 ^ 63 → Meets w n t → Rule w (machine.Begin p call)
        → of.may p call ≡ true → p < parties → w.pending p ≡ None
        → Meets (machine.begun of w p call true None) (n + 1) (attempt t (Begin p (start call)))
    begins {w} {n} {t} p call small s rule may below free =
        let few = s.few in
        let along = along_of s in
        let idle : flight_of (doing_of (party_of p s.latest)) ≡ None = subst (λ o. Matches p o (party_of p s.latest)) free (s.matches p) in
        let allows : refusal_of (world (now_of s)) (Begin p (start call)) ≡ None =
        three_rows AtEnd NoParty Busy (begin_rows kind capacity s.kept p (start call))
        (not_at_end s.turns (omega arith)) (not_past parties p below) (none_is _ idle)
        ∙ along.admits p call may free rule in
        let goes : Goes p (of.first call) (Some (begun_party call s.changes)) =
        record {
          steps = 0;
          backs = 0;
          since = s.changes;
          below = below;
          room = room;
          fits = law.first_fits call;
          is = ap (λ c. Some (record (begun_party call s.changes) { start = start c })) (sym (law.first_at call));
        } in
        record {
          latest = put p (begun_party call s.changes) s.latest;
          changes = s.changes;
          turns = s.turns + 1;
          kept = s.kept;
          events = s.events ++ Begun p (start call) ∷ [];
          few = omega arith;
          is =
              taken t (Begin p (start call)) (ap (λ (u : Trace T). refusal_of u.world (Begin p (start call))) s.is ∙ allows)
              ∙ (ap (λ u. after_turn u (Begin p (start call))) s.is ∙ begin_is (now_of s) along p call);
          reached = attempted t (Begin p (start call)) s.reached;
          related = along.begun p call may free rule;
          matches = put_matches p (Some (of.first call)) (begun_party call s.changes) w.pending s.latest goes s.matches;
        }

    -- ---- a call goes on

    -- the trace after a step of the party's call, by what the call asked and what the step is
    abbrev made : {p : ℕ} {stage : Stage} {o : Option (Party T)} → Now T → Goes p stage o → Option Ask → Step (Flight T) (Registry T) T → Trace T
    made {p} {stage} now g ask step =
        record {
          world = after_step (world now) p (going g.room stage g.steps g.backs g.since) g.since ask step;
          events = now.events ++ (step.wrote ++ ending_of p (start (call_at stage)) (answer_in step.after));
        }

    abbrev by_ask : {p : ℕ} {stage : Stage} {o : Option (Party T)} → Now T → Goes p stage o → Option Ask → Trace T
    by_ask {p} {stage} now g ask =
        made now g ask
        (step_of code now.words (beside_of now.words now.kept now.latest p) p (start (call_at stage)) (flight g.room stage)
        (old_of now.words ask) now.kept)

    -- what the model's machine is once a call has taken a step, by the operation that the call asks for
    next_is : (now : Now T) {p : ℕ} {stage : Stage} (g : Goes p stage (party_of p now.latest))
        → after_turn (trace now) (Next p) ≡ by_ask now g (ask_of (want_of code (flight g.room stage)))
    next_is now {p} g =
        ap (λ (o : Option (Party T)). record { world = after_next (world now) p o; events = now.events ++ events_of_next (world now) p o }) g.is

    -- the machine allows the next step of a party whose call is under way
    next_allowed : (now : Now T) {w : Page} → GoesAlong pairing code kind capacity now.events now.kept w → {p : ℕ} {stage : Stage}
        → Goes p stage (party_of p now.latest) → now.turns < 2 ^ 64 - 2 → refusal_of (world now) (Next p) ≡ None
    next_allowed now along {p} {stage} g few =
        ap
        (λ (o : Option (Party T)).
        first_row
        ((nat_le (2 ^ 64 - 2) now.turns, AtEnd)
        ∷ (nat_le parties p, NoParty)
        ∷ (is_none (flight_of (doing_of o)), Idle)
        ∷ (is_due code (flight_of (doing_of o)), Undecided)
        ∷ going_rows code now.kept (flight_of (doing_of o)) None))
        g.is
        ∙ (four_rows (going_rows code now.kept (Some (flight g.room stage)) None)
        (not_at_end now.turns few) (not_past parties p g.below) refl
        (asks_no_question (want_of code (flight g.room stage)) _ (law.asks g.room stage g.fits))
        ∙ along.rows g.room stage)

    abbrev pub words_then : Page → Stage → List ℕ  -- the page's words after a step at this stage
    words_then w stage = slice_set w.words (of.does stage).0 (machine.written (of.does stage).1 (slice_index w.words (of.does stage).0))

    abbrev asked_at : Stage → Option Ask
    asked_at stage = Some (asked (of.does stage).0 (of.does stage).1)

    -- The model's turn was this step of the party's call, which comes to what the page's step comes to (`a`).
    record Lands {w : Page} {n : ℕ} {t : Trace T} {p : ℕ} {stage : Stage} (s : Meets w n t) (g : Goes p stage (party_of p s.latest))
        (step : Step (Flight T) (Registry T) T) (a : machine.After Stage Answer) : Type 0 where
      room : Room
      is : attempt t (Next p) ≡ made (now_of s) g (asked_at stage) (record step { after = went (flight room) answered a })
      reached : IsReached (attempt t (Next p))
      goes : (next : Stage) → a ≡ machine.GoOn next → (call_at next ≡ call_at stage) × Fits next
      related : Related (s.events ++ (step.wrote ++ ending_of p (start (call_at stage)) (answer_in (went (flight room) answered a)))) step.kept
          (machine.gone of w p (words_then w stage) a)

    -- the party of the model after a step that comes to `a`
    abbrev party_then : {w : Page} {n : ℕ} {t : Trace T} {p : ℕ} {stage : Stage} (s : Meets w n t) → Goes p stage (party_of p s.latest)
        → Step (Flight T) (Registry T) T → Room → machine.After Stage Answer → Party T
    party_then {w} {n} {t} {p} {stage} s g step room a =
        party_after (going g.room stage g.steps g.backs g.since) g.since s.changes (step_count (asked_at stage)) (change_of w.words (asked_at stage))
        (record step { after = went (flight room) answered a })

    -- the two machines meet after a step if each party's call is then at its stage
    landed : {w : Page} {n : ℕ} {t : Trace T} {p : ℕ} {stage : Stage} (s : Meets w n t) (g : Goes p stage (party_of p s.latest))
        (step : Step (Flight T) (Registry T) T) (a : machine.After Stage Answer) (lands : Lands s g step a)
        → (machine.gone of w p (words_then w stage) a).words ≡ words_then w stage
        → ((q : ℕ) → Matches q ((machine.gone of w p (words_then w stage) a).pending q) (party_of q (put p (party_then s g step lands.room a) s.latest)))
        → Meets (machine.gone of w p (words_then w stage) a) (n + 1) (attempt t (Next p))
    landed {w} {n} {t} {p} {stage} s g step a lands same_words matches =
        let few = s.few in
        let latest = put p (party_then s g step lands.room a) s.latest in
        let changes = s.changes + change_of w.words (asked_at stage) in
        let events = s.events ++ (step.wrote ++ ending_of p (start (call_at stage)) (answer_in (went (flight lands.room) answered a))) in
        record {
          latest = latest;
          changes = changes;
          turns = s.turns + 1;
          kept = step.kept;
          events = events;
          few = omega arith;
          is =
              lands.is
              ∙ ap (λ ws. trace (record { kept = step.kept; words = ws; latest = latest; changes = changes; turns = s.turns + 1; events = events }))
              (words_same w.words (of.does stage).0 (of.does stage).1 ∙ sym same_words);
          reached = lands.reached;
          related = lands.related;
          matches = matches;
        }

    -- the two machines meet after a step; the cases are whether the page's call goes on or is done
    land : {w : Page} {n : ℕ} {t : Trace T} {p : ℕ} {stage : Stage} (s : Meets w n t) (g : Goes p stage (party_of p s.latest))
        (step : Step (Flight T) (Registry T) T) (a : machine.After Stage Answer) → Lands s g step a
        → Meets (machine.gone of w p (words_then w stage) a) (n + 1) (attempt t (Next p))
    land {w} {n} {t} {p} {stage} s g step (machine.GoOn next) lands =
        let fit = lands.goes next refl in
        let x = party_then s g step lands.room (machine.GoOn next) in
        landed s g step (machine.GoOn next) lands refl
        (put_matches p (Some next) x w.pending s.latest
        (record {
          steps = x.steps;
          backs = x.backs;
          since = g.since + change_of w.words (asked_at stage);
          below = g.below;
          room = lands.room;
          fits = fit.1;
          is = ap (λ call. Some (record x { start = start call })) (sym fit.0);
        })
        s.matches)
    land {w} {n} {t} {p} {stage} s g step (machine.Done answer) lands =
        landed s g step (machine.Done answer) lands refl
        (put_matches p None (party_then s g step lands.room (machine.Done answer)) w.pending s.latest refl s.matches)

    -- as a call takes a step the two machines meet again
    goes_on : {w : Page} {n p : ℕ} {t : Trace T} {stage : Stage} → n < 2 ^ 63 → (s : Meets w n t) → w.pending p ≡ Some stage
        → Goes p stage (party_of p s.latest) → Meets (machine.stepped of w p (Some stage)) (n + 1) (attempt t (Next p))
    goes_on {w} {n} {p} {t} {stage} small s pending g =
        let few = s.few in
        let along = along_of s in
        let ask = asked_at stage in
        let beside = beside_of w.words s.kept s.latest p in
        let step = step_of code w.words beside p (start (call_at stage)) (flight g.room stage) (slice_index w.words (of.does stage).0) s.kept in
        let right = along.steps beside p g.room stage pending g.fits in
        let allows : refusal_of t.world (Next p) ≡ None =
        ap (λ (u : Trace T). refusal_of u.world (Next p)) s.is ∙ next_allowed (now_of s) along g (omega arith) in
        let is : attempt t (Next p) ≡ made (now_of s) g ask step =
        taken t (Next p) allows
        ∙ (ap (λ u. after_turn u (Next p)) s.is
        ∙ (next_is (now_of s) g ∙ ap (by_ask (now_of s) g) (law.asks g.room stage g.fits))) in
        let reached = attempted t (Next p) s.reached in
        let known = law.known (made (now_of s) g ask step) (subst IsReached is reached) refl refl in
        finish ((of.does stage).2 (slice_index w.words (of.does stage).0)) refl step right is reached (right.related known)
      where
        -- the step of the page comes to `a`, and the model's step to what `StepsRight` says: so they meet
        finish : (a : machine.After Stage Answer) → (of.does stage).2 (slice_index w.words (of.does stage).0) ≡ a
            → (step : Step (Flight T) (Registry T) T) → StepsRight pairing s.events w p stage step
            → attempt t (Next p) ≡ made (now_of s) g (asked_at stage) step
            → IsReached (attempt t (Next p))
            → Related (s.events ++ (step.wrote ++ ending_of p (start (call_at stage)) (answer_in step.after)))
            step.kept (machine.stepped of w p (Some stage))
            → Meets (machine.stepped of w p (Some stage)) (n + 1) (attempt t (Next p))
        finish a e step right is reached related =
            subst (λ a. Meets (machine.gone of w p (words_then w stage) a) (n + 1) (attempt t (Next p))) (sym e)
            (land s g step a
            (record {
              room = right.room;
              is =
                  is
                  ∙ ap (λ a. made (now_of s) g (asked_at stage) (record step { after = a }))
                  (right.after_is ∙ ap (went (flight right.room) answered) e);
              reached = reached;
              goes = λ next is_next. right.goes next (e ∙ is_next);
              related =
                  subst (λ a. Related (s.events ++ (step.wrote ++ ending_of p (start (call_at stage))
                  (answer_in (went (flight right.room) answered a)))) step.kept (machine.gone of w p (words_then w stage) a)) e
                  (subst (λ z. Related (s.events ++ (step.wrote ++ ending_of p (start (call_at stage)) (answer_in z))) step.kept
                  (machine.stepped of w p (Some stage))) right.after_is related);
            }))

    -- ---- a turn that is refused

    party_is : {p : ℕ} {stage : Stage} {o : Option (Party T)} → Goes p stage o → is_some (flight_of (doing_of o)) ≡ true
    party_is g = ap (λ (x : Option (Party T)). is_some (flight_of (doing_of x))) g.is

    -- the machine refuses to begin a call of a party whose call is under way
    busy : (now : Now T) (p : ℕ) (begun : Start T) → is_some (flight_of (doing_of (party_of p now.latest))) ≡ true
        → is_some (refusal_of (world now) (Begin p begun)) ≡ true
    busy now p begun going =
        refused_later
        ((nat_le (2 ^ 64 - 2) now.turns, AtEnd) ∷ (nat_le parties p, NoParty) ∷ [])
        ((is_some (flight_of (doing_of (party_of p now.latest))), Busy) ∷ begin_rows kind capacity now.kept p begun)
        (ap (λ b. is_some (first_row ((b, Busy) ∷ begin_rows kind capacity now.kept p begun))) going)

    lazy : (now : Now T) (p : ℕ) → flight_of (doing_of (party_of p now.latest)) ≡ None → is_some (refusal_of (world now) (Next p)) ≡ true
    lazy now p free =
        ap
        (λ o. is_some
        (first_row
        ((nat_le (2 ^ 64 - 2) now.turns, AtEnd)
        ∷ (nat_le parties p, NoParty)
        ∷ (is_none o, Idle)
        ∷ (is_due code o, Undecided)
        ∷ going_rows code now.kept o None)))
        free
        ∙ refused_later ((nat_le (2 ^ 64 - 2) now.turns, AtEnd) ∷ (nat_le parties p, NoParty) ∷ []) ((true, Idle) ∷ (false, Undecided) ∷ []) refl

    -- a call that the page does not let a party begin is refused by the model
    lacks : {w : Page} {n : ℕ} {t : Trace T} → (s : Meets w n t) (p : ℕ) (call : Call) → of.may p call ≡ false
        → is_some (refusal_of (world (now_of s)) (Begin p (start call))) ≡ true
    lacks s p call may =
        refused_later
        ((nat_le (2 ^ 64 - 2) s.turns, AtEnd) ∷ (nat_le parties p, NoParty) ∷ (is_some (flight_of (doing_of (party_of p s.latest))), Busy) ∷ [])
        (begin_rows kind capacity s.kept p (start call))
        ((along_of s).refuses p call may)

    stays : {w : Page} {n : ℕ} {t : Trace T} → (turn : Turn T) (s : Meets w n t) → is_some (refusal_of (world (now_of s)) turn) ≡ true
        → Meets w (n + 1) (attempt t turn)
    stays {w} {n} {t} turn s e =
        subst (Meets w (n + 1)) (sym (refused t turn (ap (λ (u : Trace T). is_some (refusal_of u.world turn)) s.is ∙ e))) (waits s)

    -- ---- every turn

    -- each turn of the page is one of the model, and the two machines meet again
    one_turn : {w : Page} {n : ℕ} {t : Trace T} → (turn : machine.Turn Call) → IsWithin turn → Rule w turn → n < 2 ^ 63 → Meets w n t
        → Meets (machine.turned of w turn) (n + 1) (attempt t (as_turn turn))
    one_turn {w} {n} {t} (machine.Begin p call) within rule small s = go (of.may p call) refl (w.pending p) refl
      where
        go : (b : Bool) → of.may p call ≡ b → (o : Option Stage) → w.pending p ≡ o
            → Meets (machine.begun of w p call b o) (n + 1) (attempt t (Begin p (start call)))
        go true may None free = begins p call small s rule may (within may) free
        go true may (Some stage) e =
            stays (Begin p (start call)) s
            (busy (now_of s) p (start call) (party_is (subst (λ o. Matches p o (party_of p s.latest)) e (s.matches p))))
        go false may o e = stays (Begin p (start call)) s (lacks s p call may)
    one_turn {w} {n} {t} (machine.Next p) within rule small s = go (w.pending p) refl
      where
        go : (o : Option Stage) → w.pending p ≡ o → Meets (machine.stepped of w p o) (n + 1) (attempt t (Next p))
        go None e = stays (Next p) s (lazy (now_of s) p (subst (λ o. Matches p o (party_of p s.latest)) e (s.matches p)))
        go (Some stage) e = goes_on small s e (subst (λ o. Matches p o (party_of p s.latest)) e (s.matches p))

    -- the callers keep to `Rule` in each of these turns
    abbrev pub AllRules : Page → List (machine.Turn Call) → Type 0
    AllRules w [] = Unit {0}
    AllRules w (turn ∷ turns) = Rule w turn × AllRules (machine.turned of w turn) turns

    -- after fewer than 2^63 turns, in which the callers keep to the rule, the two machines meet
    pub all_turns : (turns : List (machine.Turn Call)) → AllByRecursion IsWithin turns
        → {w : Page} {n : ℕ} {t : Trace T} → AllRules w turns → n + length turns < 2 ^ 63 → Meets w n t
        → Meets (fold (machine.turned of) w turns) (n + length turns) (run (map as_turn turns) t)
    all_turns [] within {w} {n} {t} rules small s = let same : n ≡ n + 0 = omega arith in subst (λ k. Meets w k t) same s
    all_turns (turn ∷ turns) within {w} {n} {t} rules small s =
        let same : n + 1 + length turns ≡ n + length (turn ∷ turns) = omega arith in
        subst (λ k. Meets (fold (machine.turned of) (machine.turned of w turn) turns) k (run (map as_turn turns) (attempt t (as_turn turn)))) same
        (all_turns turns within.1 rules.1 (omega arith) (one_turn turn within.0 rules.0 (omega arith) s))

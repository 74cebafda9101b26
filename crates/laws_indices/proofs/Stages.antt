-- What a step of a call of the unique index set has to show, and a lemma for each form of a step: the call
-- goes on, frees its index, claims one, locks the set, or ends without any of these.
use Rattle.std.proofs.Common.{◌≡◌, ◌≢◌, ℕ, ◌+◌, ◌-◌, ◌<◌, ◌≤◌, ◌==◌, ⊎_elim, inl, inr, if◌then◌else◌, Bool, true}
use Rattle.std.proofs.Common.{false, Option, Some, None, List, [], ◌∷◌, ◌++◌, length, get_or, set, fold, refl, sym, ap}
use Rattle.std.proofs.Common.{◌∙◌, arith, eq-eqb, ne_eqb, get_or-set_same, get_or-set_other}
use Rattle.laws_indices.proofs.Names.{cases_eq, nat_tests, fold-append, Ask, After, GoOn, Done, LockIfLastIndex}
use Rattle.laws_indices.proofs.Names.{says_locked, borrowed, locked, Answer, Index, State, Event, Freed, Finished}
use Rattle.laws_indices.proofs.Names.{Indices, Flight, IndexStart, IndexFlight, Party, GoesStraight, party_of, doing_of}
use Rattle.laws_indices.proofs.Names.{flight_of, words_after, Scene, Inv}
use Rattle.steps.specs.Ask.{written}
use Rattle.steps.specs.declared.indices.enums.ReleaseMode.{ReleaseMode}
use Rattle.steps.specs.declared.indices.enums.ReleaseState.TheVariants as states
use Rattle.model.specs.declared.event.Event.TheVariants.{Claimed, Locked}
use Rattle.model.specs.declared.families.Flight.TheVariants as flights
use Rattle.model.specs.declared.families.Registry.TheVariants as registries
use Rattle.model.specs.declared.families.indices.IndexStart.TheVariants.{Acquire, Release}
use Rattle.model.specs.Families.{ask_of}
use Rattle.model.specs.Families.Indices.Bounds.{most_steps}
use Rattle.model.specs.Families.Indices.Calls.{want, after, goes_back}
use Rattle.model.specs.Families.Indices.Reading.{Tally, tally_after, locked_after}
use Rattle.model.specs.Families.Indices.Spans.{set_acts, done_by}
use Rattle.model.specs.Families.Indices.Steps.{frees, effects, holders_after}
use Rattle.model.specs.Reading.{Open}
use Rattle.model.specs.Step.{as_call, answer_in}
use Rattle.model.specs.Turns.{one_if, old_of, change_of, step_count, ending_of}
use Rattle.model.proofs.Family as families
use Rattle.model.proofs.Turns.{kept_words}
use Rattle.laws_indices.proofs.Core.{head_of, counted_in, holder, one_held, held_below_set, Good}
use Rattle.laws_indices.proofs.Invariant.{IndexSet, AnswersFew, outline, set_then, of_any, all_counted, all_taking, all_giving}
use Rattle.laws_indices.proofs.Knows.{counts, takes, gives, flight_wrote, number_of, At, FlightKnows, IsPaid, PaidUnless, IsSeen}
use Rattle.laws_indices.proofs.Sums.{sum_one, sum_over}
use Rattle.laws_indices.proofs.Totals.{weight_of, weight_at}

-- ---- facts about words and holders

-- a step leaves the words as they are, or the number of changes goes up
pub is_seen : (words : List ℕ) (ask : Option Ask) (changes : ℕ) → IsSeen words (words_after words ask) changes (changes + change_of words ask)
is_seen words None changes = inl (refl, omega arith)
is_seen words (Some ask) changes = go (get_or (words_after words (Some ask)) ask.word 0 == get_or words ask.word 0) refl
  where
    -- the cases are whether the word is left as it was
    go : (b : Bool) → (get_or (words_after words (Some ask)) ask.word 0 == get_or words ask.word 0) ≡ b
        → IsSeen words (words_after words (Some ask)) changes (changes + (if b then 0 else 1))
    go true t =
        let same : get_or (words_after words (Some ask)) ask.word 0 ≡ get_or words ask.word 0 = grind (arith, nat_tests) in
        inl (kept_words words ask.word (written ask.op (get_or words ask.word 0)) same, omega arith)
    go false t = inr refl

-- an index has one holder
clash : (o : Option ℕ) (p q : ℕ) → q ≢ p → o ≡ Some p → o ≡ Some q → ⊥
clash o p q ne first_some second_some = let same : Some p ≡ Some q = sym first_some ∙ second_some in ne (cc)

-- nobody holds an index of which this is the holder
nobody : (o : Option ℕ) (q : ℕ) → o ≡ None → o ≡ Some q → ⊥
nobody o q is_none second_some = let same : None ≡ Some q = sym is_none ∙ second_some in cc

-- a head that counts `locked` is locked
pub shut_says : (head : ℕ) → borrowed head ≡ locked → says_locked head ≡ true
shut_says head e = eq-eqb (borrowed head) locked e

-- a head that counts less is not locked
pub open_says : (head : ℕ) → borrowed head ≢ locked → says_locked head ≡ false
open_says head ne = ne_eqb (borrowed head) locked ne

-- the holders once the index `index` has another holder, or none
holder_set : (holders : List (Option ℕ)) (index : ℕ) (o : Option ℕ) (i : ℕ) → index < length holders
    → (if index == i then o else holder holders i) ≡ holder (set holders index o) i
holder_set holders index o i below = ⊎_elim here there (cases_eq index i)
  where
    -- the index whose holder is set has the new holder
    here : index ≡ i → (if index == i then o else holder holders i) ≡ holder (set holders index o) i
    here same_index =
        ap (λ b. if b then o else holder holders i) (eq-eqb index i same_index)
        ∙ (sym (get_or-set_same holders index o None below) ∙ ap (holder (set holders index o)) same_index)

    -- any other index has the holder that it had
    there : index ≢ i → (if index == i then o else holder holders i) ≡ holder (set holders index o) i
    there ne =
        ap (λ b. if b then o else holder holders i) (ne_eqb index i ne)
        ∙ sym (get_or-set_other holders index i o None (λ e. ne (sym e)))

-- two tallies with equal parts are equal
pub same_tally : (h h' t t' g g' : ℕ) → h ≡ h' → t ≡ t' → g ≡ g'
    → ◌≡◌ {A = Tally} (record { held = h; taking = t; giving = g }) (record { held = h'; taking = t'; giving = g' })
same_tally = grind arith

module _ {T : Type 0} where
  -- a call that counts as at work takes an index or gives one back
  any_less : (o : Option (Flight T)) → weight_of (of_any counts) o ≤ weight_of (of_any takes) o + weight_of (of_any gives) o
  any_less = grind arith

  -- a call of the set as one of any family
  abbrev pub any_call : After IndexFlight (Answer T) → After (Flight T) (Answer T)
  any_call after = as_call flights.Indices (λ answer. answer) after

-- `c` is the capacity, `p` the party that takes the step, `latest` the parties' latest calls
module _ {T : Type 0} (scene : Scene T IndexSet) where
  open scene use {capacity as c, party as p, latest as latest, events as events}

  -- the words of the set before the step
  abbrev pub words : List ℕ
  words = scene.state.words

  -- the holders of the indices before the step
  abbrev pub holders : List (Option ℕ)
  holders = scene.state.holders

  -- the number of calls under way that are taking an index or giving one back
  abbrev pub busy : ℕ
  busy = all_counted scene.latest scene.state.seats

  -- ---- what the sums tell

  -- the party has this call under way
  pub record IsHere (flight : IndexFlight) : Type 0 where
    pub seat : p < scene.state.seats
    pub under : flight_of (doing_of (party_of p latest)) ≡ Some (flights.Indices flight)

  -- what the party's call under way counts for
  module _ {flight : IndexFlight} (here : IsHere flight) where
    -- the party's call counts for its own weight
    weighs : (weight : IndexFlight → ℕ) → weight_at (of_any weight) latest p ≡ weight flight
    weighs weight = ap (weight_of (of_any weight)) here.under

    -- the party's call is one of the busy calls, if it counts
    pub busy_here : counts flight ≤ busy
    busy_here =
        let one = sum_one (weight_at (of_any counts) latest) scene.state.seats p here.seat in
        let mine = weighs counts in
        omega arith

    -- the calls under way that count in the head are no more than those that take an index and those that
    -- give one back
    pub all_in_use : busy + (takes flight + gives flight) ≤ all_taking latest scene.state.seats + all_giving latest scene.state.seats + counts flight
    all_in_use =
        let over =
        sum_over (weight_at (of_any takes) latest) (weight_at (of_any gives) latest)
        (weight_at (of_any counts) latest) (λ q. any_less (flight_of (doing_of (party_of q latest))))
        scene.state.seats p here.seat in
        omega (arith, weighs counts, weighs takes, weighs gives)

  -- ---- a step

  -- the party after a step that does this operation
  abbrev pub party_then : IndexStart → Option Ask → Bool → After IndexFlight (Answer T) → Party T
  party_then start ask back after =
      families.party_then outline scene (Indices start) ask
      (record { after = any_call after; back = back; wrote = []; kept = registries.Indices holders })

  -- how often words have changed after a step with this operation
  abbrev pub changes_then : Option Ask → ℕ
  changes_then ask = scene.changes + change_of words ask

  -- how often words had changed when the call began, not counting this step
  abbrev pub since_then : Option Ask → ℕ
  since_then ask = scene.since + change_of words ask

  -- how often the call has turned back after this step
  abbrev pub backs_then : Bool → ℕ
  backs_then back = scene.backs + one_if back

  -- a call whose turns back are paid, one more unless `P` holds, has them paid
  pub paid_of : (P : Type 0) → PaidUnless P scene.since scene.changes scene.backs → IsPaid scene.since scene.changes scene.backs
  paid_of P paid_unless = ⊎_elim (λ k. k.1) (λ k. omega arith) paid_unless

  -- what is paid unless `P` holds is paid unless `Q` holds after a step of the call itself,
  -- where `P` implies `Q`
  pub unless_then : (ask : Option Ask) (P Q : Type 0) → (P → Q) → PaidUnless P scene.since scene.changes scene.backs
      → PaidUnless Q (since_then ask) (changes_then ask) (backs_then false)
  unless_then = grind (arith, inl, inr)

  -- a step with the operation `ask`, after which the call is `after`, leaves the holders `holders'`, writes
  -- the events `es`, and preserves what holds of the set
  abbrev pub Leaves : List (Option ℕ) → List (Event T) → IndexStart → IndexFlight → Option Ask → Bool → After IndexFlight (Answer T) → Type 0
  Leaves holders' es start flight ask back after =
      families.ShowsFrom outline scene (Some (flights.Indices flight)) (set_then scene (words_after words ask) holders')
      (Open (Indices start) (flight_wrote p flight)) (party_then start ask back after) es (changes_then ask)

  -- what the step writes before the end of its call
  abbrev pub effects_then : IndexFlight → After IndexFlight (Answer T) → List (Event T)
  effects_then flight after = effects p (frees flight) (answer_in after)

  -- all that a step writes: its effects, and the end of its call, if it ends
  abbrev pub told_after : IndexStart → IndexFlight → After IndexFlight (Answer T) → List (Event T)
  told_after start flight after = effects_then flight after ++ ending_of p (Indices start) (answer_in (any_call after))

  -- a step of the call `flight` leaves the holders and writes the events that its table says
  abbrev pub Comes : IndexStart → IndexFlight → Option Ask → Bool → After IndexFlight (Answer T) → Type 0
  Comes start flight ask back after =
      Leaves (fold holders_after holders (effects_then flight after)) (told_after start flight after) start flight ask back after

  -- the old value of the word that a call asks for
  abbrev pub old_for : IndexFlight → ℕ
  old_for flight = old_of words (ask_of (want flight))

  -- the next step of this call preserves what holds of the set
  abbrev pub StepOf : IndexStart → IndexFlight → Type 0
  StepOf start flight = Comes start flight (ask_of (want flight)) (goes_back flight (old_for flight)) (after flight (old_for flight))

-- What a step shows with which the call `flight` goes on to `next` and writes nothing.
pub record GoingOn {T : Type 0} (scene : Scene T IndexSet) (start : IndexStart) (flight next : IndexFlight) (ask : Option Ask) (back : Bool) : Type 0 where
  -- the words are right for the calls at work after the step; what the call takes, gives and has written stays, and so does the lock
  pub good : (busy' : ℕ) → busy' + counts flight ≡ busy scene + counts next
      → Good scene.capacity (words_after (words scene) ask) (holders scene) busy'
  pub takes_same : takes next ≡ takes flight
  pub gives_same : gives next ≡ gives flight
  pub wrote_same : flight_wrote {T = T} scene.party next ≡ flight_wrote scene.party flight
  pub lock_same : says_locked (head_of (words_after (words scene) ask)) ≡ says_locked (head_of (words scene))
  -- its turns back and its steps are within their bounds, and it stands at its next stage and knows what the stage says
  pub straight : GoesStraight {T = T} (Indices start) (backs_then scene back)
  pub steps : scene.steps + step_count ask ≤ number_of scene.capacity next (backs_then scene back)
  pub at : At scene.capacity (holders scene) scene.party start next
  pub knows : FlightKnows scene.capacity (words_after (words scene) ask) (since_then scene ask) (changes_then scene ask) (backs_then scene back) next

-- What a step shows that ends the call with `answer`, and frees, claims and locks nothing.
pub record Ending {T : Type 0} (scene : Scene T IndexSet) (start : IndexStart) (flight : IndexFlight)
    (answer : Answer T) (ask : Option Ask) (back : Bool) : Type 0 where
  -- the words are right for the calls at work after the step, and so is the tally of the events
  pub good : (busy' : ℕ) → busy' + counts flight ≡ busy scene + 0 → Good scene.capacity (words_after (words scene) ask) (holders scene) busy'
  pub tally : (h t g t' g' : ℕ) → t' + takes flight ≡ t + 0 → g' + gives flight ≡ g + 0
      → tally_after (record { held = h; taking = t; giving = g }) (Finished scene.party (Indices start) answer) ≡ record { held = h; taking = t'; giving = g' }
  -- the answer goes with what the call has written and tells the truth, and the lock stays
  pub done : done_by start answer ≡ Some (set_acts (flight_wrote {T = T} scene.party flight))
  pub right : AnswersFew scene.capacity scene.events (Finished scene.party (Indices start) answer)
  pub lock_same : says_locked (head_of (words_after (words scene) ask)) ≡ says_locked (head_of (words scene))
  -- its turns back and its steps are within their bounds
  pub straight : GoesStraight {T = T} (Indices start) (backs_then scene back)
  pub steps : scene.steps + step_count ask ≤ most_steps scene.capacity start (backs_then scene back)
  pub paid : backs_then scene back ≤ changes_then scene ask - since_then scene ask

-- What a step shows in which the release `flight` frees its index and goes on to `next`.
pub record Freeing {T : Type 0} (scene : Scene T IndexSet) (index : ℕ) (mode : ReleaseMode) (flight next : IndexFlight) (ask : Option Ask) : Type 0 where
  -- the party holds the index, and the words are right once nobody does
  pub below : index < scene.capacity
  pub held : holder (holders scene) index ≡ Some scene.party
  pub good : (busy' : ℕ) → busy' + counts flight ≡ busy scene + counts next
      → Good scene.capacity (words_after (words scene) ask) (set (holders scene) index None) busy'
  pub head_same : head_of (words_after (words scene) ask) ≡ head_of (words scene)
  -- what the call counts for, and what it has written, before and after
  pub takes_same : takes next ≡ takes flight
  pub gives_before : gives flight ≡ 0
  pub gives_after : gives next ≡ 1
  pub wrote_before : flight_wrote {T = T} scene.party flight ≡ []
  pub wrote_after : flight_wrote {T = T} scene.party next ≡ Freed scene.party index ∷ []
  -- its turns back and its steps are within their bounds, and it stands at its next stage and knows what the stage says
  pub straight : GoesStraight {T = T} (Indices (Release index mode)) (backs_then scene false)
  pub steps : scene.steps + step_count ask ≤ number_of scene.capacity next (backs_then scene false)
  pub at : At scene.capacity (set (holders scene) index None) scene.party (Release index mode) next
  pub knows : FlightKnows scene.capacity (words_after (words scene) ask) (since_then scene ask) (changes_then scene ask) (backs_then scene false) next

-- What a step shows in which the acquire `flight` claims the index `index` and ends.
pub record Claiming {T : Type 0} (scene : Scene T IndexSet) (index : ℕ) (flight : IndexFlight) (ask : Option Ask) : Type 0 where
  -- nobody holds the index, the set is not locked, and the words are right once the party holds it
  pub below : index < scene.capacity
  pub none : holder (holders scene) index ≡ None
  pub unlocked : counted_in (words scene) ≢ locked
  pub good : (busy' : ℕ) → busy' + counts flight ≡ busy scene + 0
      → Good scene.capacity (words_after (words scene) ask) (set (holders scene) index (Some scene.party)) busy'
  pub head_same : head_of (words_after (words scene) ask) ≡ head_of (words scene)
  -- what the call counts for, and has written, before
  pub takes_before : takes flight ≡ 1
  pub gives_before : gives flight ≡ 0
  pub wrote_before : flight_wrote {T = T} scene.party flight ≡ []
  -- its steps are within their bound, and its turns back are paid for
  pub steps : scene.steps + step_count ask ≤ most_steps scene.capacity Acquire (backs_then scene false)
  pub paid : IsPaid scene.since scene.changes scene.backs

-- What a step shows in which the release `flight` of the index `index` locks the set and ends.
pub record Locking {T : Type 0} (scene : Scene T IndexSet) (index : ℕ) (flight : IndexFlight) (ask : Option Ask) : Type 0 where
  -- nobody holds an index, the set is not locked, and the words are right once it is
  pub none : (i : ℕ) → holder (holders scene) i ≡ None
  pub unlocked : counted_in (words scene) ≢ locked
  pub good : (busy' : ℕ) → busy' + counts flight ≡ busy scene + 0 → Good scene.capacity (words_after (words scene) ask) (holders scene) busy'
  pub shut : counted_in (words_after (words scene) ask) ≡ locked
  -- what the call counts for, and has written, before
  pub takes_before : takes flight ≡ 0
  pub gives_before : gives flight ≡ 1
  pub wrote_before : flight_wrote {T = T} scene.party flight ≡ Freed scene.party index ∷ []
  -- its steps are within their bound, and its turns back are paid for
  pub steps : scene.steps + step_count ask ≤ most_steps scene.capacity (Release index LockIfLastIndex) (backs_then scene false)
  pub paid : IsPaid scene.since scene.changes scene.backs

-- the invariant holds before the step
module _ {T : Type 0} {scene : Scene T IndexSet} (inv : Inv outline scene) where
  open scene use {capacity as c, party as p, latest as latest, events as events}

  -- a step with which the call goes on and writes nothing preserves what holds of the set
  pub goes_on : (start : IndexStart) (flight next : IndexFlight) (ask : Option Ask) (back : Bool) → GoingOn scene start flight next ask back
      → Leaves scene (holders scene) [] start flight ask back (GoOn next)
  goes_on start flight next ask back on = let seen = is_seen (words scene) ask scene.changes in grind arith

  -- a step that ends the call, and frees, claims and locks nothing, preserves what holds of the set
  pub ends : (start : IndexStart) (flight : IndexFlight) (answer : Answer T) (ask : Option Ask) (back : Bool) → Ending scene start flight answer ask back
      → Leaves scene (holders scene) (Finished p (Indices start) answer ∷ []) start flight ask back (Done answer)
  ends start flight answer ask back end =
      record {
        preserves =
            record {
              seats = refl;
              right = (tt, tt);
              answers = (end.right, tt);
              good = end.good;
              tally = λ taking' giving' a b. end.tally _ _ _ taking' giving' a b;
              holders = λ i. refl;
              lock = sym end.lock_same;
              straight = end.straight;
              seen = is_seen (words scene) ask scene.changes;
              keeps = λ q ne index h. h;
            };
        own = (refl, tt);
        stands = ((refl, end.done), tt);
        here = record { answer = answer; wrote = flight_wrote p flight; span = refl; steps = end.steps };
        knows = end.paid;
      }

  -- a step in which a release frees its index preserves what holds of the set
  pub frees_index : {index : ℕ} (mode : ReleaseMode) {flight : IndexFlight} (next : IndexFlight) (ask : Option Ask)
      → Freeing scene index mode flight next ask
      → Leaves scene (set (holders scene) index None) (Freed p index ∷ []) (Release index mode) flight ask false (GoOn next)
  frees_index {index} mode next ask frees =
      let long = inv.holds.good.long in
      let below = frees.below in
      let less = held_below_set (holders scene) c index None below long in
      let mine : one_held (holder (holders scene) index) ≡ 1 = ap one_held frees.held in
      let takes_same = frees.takes_same in
      let none = frees.gives_before in
      let one = frees.gives_after in
      record {
        preserves =
            record {
              seats = refl;
              right = (inv.holds.holders index ∙ frees.held, tt);
              answers = (tt, tt);
              good = frees.good;
              tally = λ taking' giving' a b. same_tally _ _ _ _ _ _ (omega arith) (omega arith) (omega arith);
              holders = λ i. holder_set (holders scene) index None i (omega arith);
              lock = ap says_locked (sym frees.head_same);
              straight = frees.straight;
              seen = is_seen (words scene) ask scene.changes;
              keeps =
                  λ q ne i h. get_or-set_other (holders scene) index i None None
                  (λ e. clash (holder (holders scene) index) p q ne frees.held (ap (holder (holders scene)) (sym e) ∙ h))
                  ∙ h;
            };
        own = (refl, tt);
        stands = rw frees.wrote_before ((refl, refl), tt);
        here =
            rw frees.wrote_before
            (record { span = ap (λ es. Open (Indices (Release index mode)) es) (sym frees.wrote_after); steps = frees.steps; at = frees.at });
        knows = frees.knows;
      }

  -- a step in which an acquire claims an index and ends preserves what holds of the set
  pub claims_index : (index : ℕ) {flight : IndexFlight} (ask : Option Ask) → Claiming scene index flight ask
      → Leaves scene (set (holders scene) index (Some p))
      (Claimed p index ∷ Finished p (Indices Acquire) (Index index) ∷ []) Acquire flight ask false
      (Done (Index index))
  claims_index index ask claims =
      let below = claims.below in
      let none = claims.none in
      let one = claims.takes_before in
      let zero = claims.gives_before in
      let paid = claims.paid in
      let long = inv.holds.good.long in
      let more = held_below_set (holders scene) c index (Some p) below long in
      let free : one_held (holder (holders scene) index) ≡ 0 = ap one_held none in
      record {
        preserves =
            record {
              seats = refl;
              right = ((below, inv.holds.holders index ∙ none, inv.holds.lock ∙ open_says (head_of (words scene)) claims.unlocked), (tt, tt));
              answers = (tt, (tt, tt));
              good = claims.good;
              tally = λ taking' giving' a b. same_tally _ _ _ _ _ _ (omega arith) (omega arith) (omega arith);
              holders = λ i. holder_set (holders scene) index (Some p) i (omega arith);
              lock = ap says_locked (sym claims.head_same);
              straight = tt;
              seen = is_seen (words scene) ask scene.changes;
              keeps =
                  λ q ne i h. get_or-set_other (holders scene) index i (Some p) None
                  (λ e. nobody (holder (holders scene) index) q none (ap (holder (holders scene)) (sym e) ∙ h))
                  ∙ h;
            };
        own = (refl, (refl, tt));
        stands = rw claims.wrote_before (refl, ((refl, refl), tt));
        here = rw claims.wrote_before (record { answer = Index index; wrote = Claimed p index ∷ []; span = refl; steps = claims.steps });
        knows = omega arith;
      }

  -- a step in which a release locks the set and ends preserves what holds of the set
  pub locks_set : {index : ℕ} {flight : IndexFlight} (ask : Option Ask) → Locking scene index flight ask
      → Leaves scene (holders scene) (Locked p ∷ Finished p (Indices (Release index LockIfLastIndex)) (State states.Locked) ∷ [])
      (Release index LockIfLastIndex) flight ask false (Done (State states.Locked))
  locks_set {index} ask locks =
      let zero = locks.takes_before in
      let one = locks.gives_before in
      let paid = locks.paid in
      record {
        preserves =
            record {
              seats = refl;
              right = ((λ i. inv.holds.holders i ∙ locks.none i, inv.holds.lock ∙ open_says (head_of (words scene)) locks.unlocked), (tt, tt));
              answers = (tt, (fold-append locked_after false events (Locked p ∷ []), tt));
              good = locks.good;
              tally = λ taking' giving' a b. same_tally _ _ _ _ _ _ refl (omega arith) (omega arith);
              holders = λ i. refl;
              lock = sym (shut_says (head_of (words_after (words scene) ask)) locks.shut);
              straight = tt;
              seen = is_seen (words scene) ask scene.changes;
              keeps = λ q ne i h. h;
            };
        own = (refl, (refl, tt));
        stands = rw locks.wrote_before (refl, ((refl, refl), tt));
        here = rw locks.wrote_before (record { answer = State states.Locked; wrote = Freed p index ∷ Locked p ∷ []; span = refl; steps = locks.steps });
        knows = omega arith;
      }

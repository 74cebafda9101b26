-- A look at a container, run whole, brings the state of its party up to date.
use Rattle.std.proofs.Common.{◌≡◌, ◌≢◌, ◌⊎◌, inl, inr, ℕ, ◌+◌, ◌==◌, Bool, true, false, not, cond, Option, Some, None, is_some}
use Rattle.std.proofs.Common.{option_map, List, [], ◌∷◌, fold, map, take}
use Rattle.std.proofs.Common.{refl, sym, ap, subst, ◌∙◌, if◌then◌else◌}
use Rattle.std.proofs.lemmas.Bool.Decides.{eqb_tells}
use Rattle.std.specs.List.{count_by}
use Rattle.steps.specs.Container.Look.{first_look, look_asks, look_want, look_after, look_kept}
use Rattle.steps.specs.Container.Layout.{is_even}
use Rattle.steps.specs.Container.State.{Numbers, Showing, value_shown, shown_number}
use Rattle.steps.specs.declared.ask.After.TheVariants.{Done}
use Rattle.steps.specs.declared.container.look.Look.{Look}
use Rattle.steps.specs.declared.container.look.LookStage.{LookStage}
use Rattle.steps.specs.declared.container.look.LookStage.TheVariants as stages
use Rattle.steps.specs.declared.container.state.ContainerState.{ContainerState}
use Rattle.steps.specs.declared.container.state.Element.{Element}
use Rattle.model.specs.declared.event.Answer.TheVariants as answers
use Rattle.model.specs.declared.event.Start.TheVariants as starts
use Rattle.model.specs.declared.families.container.ContainerStart.{ContainerStart}
use Rattle.model.specs.declared.families.container.ContainerStart.TheVariants as calls
use Rattle.model.specs.declared.families.container.calls.LookOf.{LookOf}
use Rattle.model.specs.declared.families.container.calls.LookOf.TheVariants.{GetState, UpdateState}
use Rattle.model.specs.Coding.{Coding, IsCoding}
use Rattle.model.specs.Families.{is_question}
use Rattle.model.specs.Families.Container.Calls.{looked, look_shows, settled_if}
use Rattle.model.specs.Families.Container.States.{state_of, with_state, set_state, fresh, settled}
use Rattle.model.proofs.Parties.{found_put_same, found_put_other}
use Rattle.laws_container.proofs.Looks.{written_same, written_other}
use Rattle.plain.specs.Contents as contents
use Rattle.plain.specs.Contents.{Contents, Holds}
use Rattle.plain.specs.States.{Snapshot, blank, snapshot_of, IsSettled, updated, Brought}
use Rattle.plain_queues.proofs.Alone.{Runs}
use Rattle.plain.proofs.Elements.Adds.{owners_long}
use Rattle.plain.proofs.Elements.Snapshots.{LookCase, words_kept, brought_if, brought_not, got_settled}
use Rattle.plain.proofs.Elements.Updates.{P, look_runs}
use Rattle.plain.proofs.Elements.Values.{front_fits}
use Rattle.headline_whole.specs.Dialogues.{as_request, as_reply}
use Rattle.headline_whole.specs.Objects.{view_of, view_after, number_shown, whole_map}
use Rattle.headline_whole.proofs.Maps.{codes_of, map_in}

-- a look never asks for a decision
pub never_asks : (size capacity : ℕ) (stage : LookStage) → is_question (look_asks size capacity stage) ≡ false
never_asks size capacity stages.LoadsChange = refl
never_asks size capacity (stages.LoadsCount index) = refl
never_asks size capacity (stages.LoadsWord index count at) = refl
never_asks size capacity (stages.ChecksCount index count) = refl

module _ {T : Type 0} where
  -- The call that a look is.
  abbrev pub start_of : LookOf → ContainerStart T
  start_of GetState = calls.GetState
  start_of UpdateState = calls.UpdateState

  -- what a look goes on from
  abbrev pub seen_by : LookOf → Contents T → Option (Snapshot T) → Snapshot T
  seen_by GetState s view = blank (contents.capacity s)
  seen_by UpdateState s view = view_of s view

  -- What the parties' states show, for each party.
  abbrev pub views_in : List (ℕ × ContainerState T) → ℕ → Option (Snapshot T)
  views_in states q = option_map snapshot_of (state_of q states)

  -- After a look its party has a state, which the look has brought up to date with the map.
  pub after_look : (which : LookOf) (s : Contents T) (view : Option (Snapshot T))
      → view_after s (starts.Container (start_of which)) view ≡ Some (updated s (seen_by which s view))
  after_look GetState s view = refl
  after_look UpdateState s view = refl

  -- ---- how many values are shown

  -- An element counts as one value shown exactly if it shows one.
  one_shown : (b : Bool) (value : T) → ◌≡◌ {A = ℕ} (cond (not b) 1 0) (cond (is_some (if b then None else Some value)) 1 0)
  one_shown true value = refl
  one_shown false value = refl

  -- as many elements have a count that is odd as show a value, added to any number
  shown_on : (a : ℕ) (elements : List (Element T))
      → fold (λ a (e : Element T). a + cond (not (is_even e.count)) 1 0) a elements
      ≡ fold (λ a (o : Option T). a + cond (is_some o) 1 0) a (map value_shown elements)
  shown_on a [] = refl
  shown_on a (e ∷ elements) =
      ap (λ (n : ℕ). fold (λ a (e : Element T). a + cond (not (is_even e.count)) 1 0) (a + n) elements) (one_shown (is_even e.count) e.value)
      ∙ shown_on (a + cond (is_some (value_shown e)) 1 0) elements

  -- The number of values that a state shows is the count of its elements that show one.
  shown_so : (elements : List (Element T)) → shown_number elements ≡ count_by is_some (map value_shown elements)
  shown_so elements = shown_on 0 elements

some_is : {X : Type 0} (a b : X) → ◌≡◌ {A = Option X} (Some a) (Some b) → a ≡ b
some_is a b e = cc

module _ {T : Type 0} (code : Coding T) (coded : IsCoding code) (capacity : ℕ) where
  -- A party's state is settled (it has seen what it shows), and has the container's capacity.
  abbrev pub IsRight : ContainerState T → Type 0
  IsRight state = IsSettled state × (state.capacity ≡ capacity)

  -- Each party's state is settled, and has the container's capacity.
  abbrev pub AllRight : List (ℕ × ContainerState T) → Type 0
  AllRight states = (q : ℕ) (state : ContainerState T) → state_of q states ≡ Some state → IsRight state

  module _ (first_words : List ℕ) (holds : Holds code.value_of code.size capacity 0 first_words) (views : ℕ → Option (Snapshot T)) (p : ℕ) where
    -- The map that the words hold as the look begins.
    abbrev s : Contents T
    s = map_in code capacity first_words

    -- a look of a state at these words
    abbrev look_from : ContainerState T → LookCase T
    look_from old =
        record { codes = codes_of code coded; capacity = capacity; container = 0; words = first_words; fits = holds.0; old = old }

    -- The look has ended with this answer, and has left this showing of its party's state and
    -- these words, as a look alone does.
    abbrev pub LookEnds : ContainerState T → Bool → Showing T → List ℕ → Type 0
    LookEnds old changed room last =
        P (codes_of code coded) holds.0 old.seen old.shown (changed, room) last

    -- a look that runs on from `call` and `room` ends as one that began with the state `old`
    abbrev pub Runs_on : ContainerState T → Look T → Showing T → List ℕ → Type 0
    Runs_on old call room words =
        Runs (λ (c : Look T) (given : Numbers). look_want code.size c) (look_after code.size) (look_kept code.value_of code.size) old.seen
        (LookEnds old) call room words

    -- A look of party `p`, which began on `first_words`, where the states of the parties showed `views`, is under way at `call`. Now
    -- the words are `words`, and the states are `states`.
    pub record Looking (which : LookOf) (call : Look T) (words : List ℕ) (states : List (ℕ × ContainerState T)) : Type 0 where
      -- the party's state now
      pub state : ContainerState T
      pub found : state_of p states ≡ Some state
      pub old : ContainerState T  -- as it began
      -- the look has changed only what the state shows
      pub state_is : state ≡ record old { shown = state.shown }
      -- however it ends, the state will show what the map says
      pub comes : (changed : Bool) (new : ContainerState T) → Brought s old changed new
          → IsRight new × (snapshot_of new ≡ updated s (seen_by which s (views p)))
      pub changes : (seen_by which s (views p)).changes ≡ old.seen.change
      -- the states of the other parties are as they were
      pub others : (q : ℕ) → q ≢ p → views_in states q ≡ views q
      pub right : (q : ℕ) → q ≢ p → (x : ContainerState T) → state_of q states ≡ Some x → IsRight x
      -- the look runs on to its end from here
      pub run : Runs_on old call state.shown words

    -- ---- it begins

    long : contents.capacity s ≡ capacity
    long = owners_long capacity (take (1 + capacity) first_words) (front_fits code.value_of code.size capacity first_words holds.0)

    -- a look begins on a new state of its party
    pub begins_fresh : (which : LookOf) (states : List (ℕ × ContainerState T)) → seen_by which s (views p) ≡ blank (contents.capacity s)
        → AllRight states → ((q : ℕ) → views_in states q ≡ views q)
        → Looking which (first_look capacity) first_words (with_state p (fresh code capacity) states)
    begins_fresh which states seen_blank right same =
        record {
          state = fresh code capacity;
          found = found_put_same p (fresh code capacity) states;
          old = fresh code capacity;
          state_is = refl;
          comes = λ changed new b.
              let so = got_settled code.value_of code.size capacity s long (fresh code capacity) refl refl refl b in
              ((so.0, b.of.1), so.1 ∙ ap (updated s) (sym seen_blank));
          changes = ap (λ (v : Snapshot T). v.changes) seen_blank;
          others = λ q ne. ap (option_map snapshot_of) (found_put_other q p (fresh code capacity) states ne) ∙ same q;
          right = λ q ne x e. right q x (sym (found_put_other q p (fresh code capacity) states ne) ∙ e);
          run = look_runs (codes_of code coded) holds.0 (fresh code capacity).seen (fresh code capacity).shown refl;
        }

    -- an update begins on the state that its party has
    pub begins_on : (states : List (ℕ × ContainerState T)) (state : ContainerState T) → state_of p states ≡ Some state
        → AllRight states → ((q : ℕ) → views_in states q ≡ views q) → Looking UpdateState (first_look capacity) first_words states
    begins_on states state found right same =
        let is_right = right p state found in
        let shows : view_of s (views p) ≡ snapshot_of state = ap (view_of s) (sym (same p) ∙ ap (option_map snapshot_of) found) in
        record {
          state = state;
          found = found;
          old = state;
          state_is = refl;
          comes = λ changed new b.
              let so = b.shows is_right.0 (is_right.1 ∙ sym long) in
              ((so.0, b.of.1 ∙ is_right.1), so.1 ∙ ap (updated s) (sym shows));
          changes = ap (λ (v : Snapshot T). v.changes) shows;
          others = λ q ne. same q;
          right = λ q ne x e. right q x e;
          run = look_runs (codes_of code coded) holds.0 state.seen state.shown refl;
        }

    -- ---- it goes on

    -- the next step of the look
    pub record LookStep : Type 0 where
      pub which : LookOf
      pub call : Look T
      pub words : List ℕ
      pub last : List ℕ  -- the words then
      pub states : List (ℕ × ContainerState T)
      pub k : Looking which call words states
      pub old : ℕ  -- what it reads

    module _ (step : LookStep) where
      open step use {which, call, last, states, k, old}

      -- What the state shows after the step of the look.
      abbrev room : Showing T
      room = look_kept code.value_of code.size call k.state.shown old

      -- The state of the look's party after the step.
      abbrev pub shows : ContainerState T
      shows = look_shows code call k.state old

      -- The step changes nothing of the state but what it shows.
      shows_so : shows ≡ record k.old { shown = room }
      shows_so = ap (λ (z : ContainerState T). record z { shown = room }) k.state_is

      -- a look that goes on is under way still, with what it has shown so far
      pub goes_on : (d : Look T) → Runs_on k.old d room last → Looking which d last (set_state p shows states)
      goes_on d left =
          record {
            state = shows;
            found = written_same p shows k.state states k.found;
            old = k.old;
            state_is = shows_so;
            comes = k.comes;
            changes = k.changes;
            others = λ q ne. ap (option_map snapshot_of) (written_other q p shows states ne) ∙ k.others q ne;
            right = λ q ne x e. k.right q ne x (sym (written_other q p shows states ne) ∙ e);
            run = left;
          }

      -- ---- it ends

      module _ (changed : Bool) (left : LookEnds k.old changed room last) where
        -- The state of the party after the look.
        abbrev pub new : ContainerState T
        new = settled_if (Done changed) shows

        -- a look that ends has brought its party's state up to date, whatever it answers
        brought : (b : Bool) → LookEnds k.old b room last → Brought s k.old b (settled_if (Done b) shows)
        brought true look_ends =
            brought_if (look_from k.old) true room last look_ends refl
            (ap settled shows_so)
        brought false look_ends =
            subst (Brought s k.old false) (sym shows_so)
            (brought_not (look_from k.old) false room last look_ends refl)

        -- To settle a state leaves what it shows.
        same_shown : (b : Bool) → (settled_if (Done b) shows).shown ≡ shows.shown
        same_shown true = refl
        same_shown false = refl

        -- The state after the look is right, and shows the map as an update brings it up to date.
        ends : IsRight new × (snapshot_of new ≡ updated s (seen_by which s (views p)))
        ends = k.comes changed new (brought changed left)

        -- The look leaves the words as they were.
        pub words_are : last ≡ first_words
        words_are = words_kept (look_from k.old) changed room last left

        -- the state of its party then shows what the map says
        same_then : (q : ℕ) → q ≡ p → views_in (set_state p new states) q ≡ view_after s (starts.Container (start_of which)) (views q)
        same_then q same_party =
            ap (views_in (set_state p new states)) same_party
            ∙ (ap (option_map snapshot_of) (written_same p new k.state states k.found)
            ∙ (ap Some ends.1
            ∙ (sym (after_look which s (views p)) ∙ ap (λ n. view_after s (starts.Container (start_of which)) (views n)) (sym same_party))))

        -- each party's state is settled then, of the container's capacity
        pub right_then : AllRight (set_state p new states)
        right_then q x e = by_case (eqb_tells q p)
          where
            -- The cases are whether q is the party of the look.
            by_case : ((q == p) ≡ true) × (q ≡ p) ⊎ ((q == p) ≡ false) × (q ≢ p) → IsRight x
            by_case (inl t) =
                let at_p : state_of p (set_state p new states) ≡ Some x = ap (λ n. state_of n (set_state p new states)) (sym t.1) ∙ e in
                subst IsRight (some_is new x (sym (written_same p new k.state states k.found) ∙ at_p)) ends.0
            by_case (inr t) = k.right q t.1 x (sym (written_other q p new states t.1) ∙ e)

        -- After a look each party's state shows what the map says: that of the look's party is new, and every other
        -- one is as before.
        pub views_then : (q : ℕ) → views_in (set_state p new states) q
            ≡ (if q == p then view_after s (starts.Container (start_of which)) (views q) else views q)
        views_then q = by_case (eqb_tells q p)
          where
            -- The state of the look's party shows what the map says, and so does that of every other party, which
            -- has not changed.
            by_case : ((q == p) ≡ true) × (q ≡ p) ⊎ ((q == p) ≡ false) × (q ≢ p)
                → views_in (set_state p new states) q ≡ (if q == p then view_after s (starts.Container (start_of which)) (views q) else views q)
            by_case (inl t) =
                subst (λ b. views_in (set_state p new states) q ≡ (if b then view_after s (starts.Container (start_of which)) (views q) else views q))
                (sym t.0) (same_then q t.1)
            by_case (inr t) =
                subst (λ b. views_in (set_state p new states) q ≡ (if b then view_after s (starts.Container (start_of which)) (views q) else views q))
                (sym t.0) (ap (option_map snapshot_of) (written_other q p new states t.1) ∙ k.others q t.1)

        -- the look then says what the map says, if its state shows that
        said_of : (w : LookOf) → (snapshot_of new ≡ updated s (seen_by w s (views p))) → ((seen_by w s (views p)).changes ≡ k.old.seen.change)
            → as_reply [] (looked w shows changed)
            ≡ (whole_map capacity).reply (record { contents = s; views = views }) (as_request p (starts.Container (start_of w)) [])
        said_of GetState updated_is changes_are =
            let number : shown_number shows.shown.elements ≡ number_shown (updated s (blank (contents.capacity s))) =
            ap (λ (r : Showing T). shown_number r.elements) (sym (same_shown changed)) ∙ (shown_so new.shown.elements ∙ ap number_shown updated_is) in
            λ i. record { questions = []; answer = answers.Number (number i) }
        said_of UpdateState updated_is changes_are =
            let truth : changed ≡ not (s.changes == (view_of s (views p)).changes) =
            (brought changed left).answers ∙ ap (λ n. not (s.changes == n)) (sym changes_are) in
            λ i. record { questions = []; answer = answers.Truth (truth i) }

        pub said : as_reply [] (looked which shows changed)
            ≡ (whole_map capacity).reply (record { contents = s; views = views }) (as_request p (starts.Container (start_of which)) [])
        said = said_of which ends.1 k.changes

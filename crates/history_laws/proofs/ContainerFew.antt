-- Where the history of an open run of a container is orderly, its values stand whole (`IsContained`).
-- The proof takes the run with the number of turns that its changes and rises bound, instead of the
-- turns that were taken.
use Rattle.std.proofs.Common.{◌≡◌, ◌≢◌, ℕ, ◌+◌, ◌-◌, ◌*◌, ◌^◌, ◌<◌, ◌≤◌, ◌==◌, Bool, true, false, true≢false, Option, Some, None, List, [], ◌∷◌, ◌++◌}
use Rattle.std.proofs.Common.{refl, sym, ap, subst, ◌∙◌, arith, eq-eqb, get_or}
use Rattle.std.proofs.lemmas.List.Sums.{sum_by-append}
use Rattle.steps.specs.Indices.Robust.Parts.{locked}
use Rattle.steps.specs.declared.ask.Ask.{Ask}
use Rattle.model.specs.declared.event.Event.{Event}
use Rattle.model.specs.declared.event.Event.TheVariants.{Begun}
use Rattle.model.specs.declared.event.Start.{Start}
use Rattle.model.specs.declared.event.Start.TheVariants.{Container}
use Rattle.model.specs.declared.families.Flight.{Flight}
use Rattle.model.specs.declared.families.container.ContainerStart.TheVariants.{Recover}
use Rattle.model.specs.declared.party.Doing.{Doing}
use Rattle.model.specs.declared.party.Doing.TheVariants.{Going, Over}
use Rattle.model.specs.declared.party.Party.{Party}
use Rattle.model.specs.declared.turn.Kind.TheVariants as kinds
use Rattle.model.specs.declared.turn.Turn.{Turn}
use Rattle.model.specs.declared.turn.Turn.TheVariants.{Begin, Next, Decide, Die}
use Rattle.model.specs.Coding.{Coding}
use Rattle.model.specs.Families.{first_of}
use Rattle.model.specs.Families.Container.Promises as promises
use Rattle.model.specs.Families.Container.Promises.{StandsWellFormed, IsWellFormedRun}
use Rattle.model.specs.Families.Indices.Reading.{is_locked}
use Rattle.model.specs.Parties.{party_of}
use Rattle.model.specs.Turns.{ask_of_doing, old_of, number_of, after_begin, after_answer, after_next, after_decision}
use Rattle.model.specs.Turns.{events_of_answer, events_of_next, events_of_decision, events_of, after_turn}
use Rattle.model.specs.World.{World, Trace, opening, capacity_error}
use Rattle.model.proofs.Frame as frame
use Rattle.model.proofs.Readings.{Each-nil}
use Rattle.laws_robust.specs.Gone.{Word, ActsForRight, IsHonest}
use Rattle.model.specs.Open.{open_refusal, IsReachedOpen}
use Rattle.lemmas_owners.proofs.Alive.{AllLive, all_live_on}
use Rattle.laws_robust.proofs.Opening.{admitted_is}
use Rattle.model.proofs.Reached.{kept_by}
use Rattle.laws_container.specs.Open.{steps_for_gone}
use Rattle.laws_container.proofs.Core.{change_at, count_at}
use Rattle.laws_container.proofs.AllRuns.{shown}
use Rattle.laws_container.proofs.Honest.{turn_honest}
use Rattle.laws_container.proofs.Invariant.{family_by}
use Rattle.laws_container.proofs.Kept.{contained}
use Rattle.laws_container.proofs.Living.{steps_leave}
use Rattle.laws_container.proofs.OpenRuns.{open_turn_sound}
use Rattle.laws_container.proofs.Sound.{opening_sound}
use Rattle.laws_container.proofs.Terms.{Terms}
use Rattle.laws_container.proofs.WellFormed.{well_formed_on}
use Rattle.model.proofs.Readings.{Each-less}
use Rattle.lock_free_owners.specs.Worn.{changes, BeginsAlone, LocksApart}
use Rattle.history_laws.specs.Containers.{rise, rises, BeginsRight, IsFaithful, IsYoung, IsOrderly, IsContained}
use Rattle.history_laws.proofs.ContainerLiving.{living, steps_right}
use Rattle.history_laws.proofs.ContainerRaised.{Raised, word_raised, turn_raised}
use Rattle.lock_free_owners.proofs.Worn.ContainerWorn.{Sound, terms, sound_on, facts, opens_so, opens_bounded}
use Rattle.lock_free_owners.proofs.Worn.Bounded.{Bounded, counter, changes_more}
use Rattle.laws_robust.proofs.Counter.{tested}
use Rattle.lock_free_owners.proofs.Worn.Turns.{turn_holds}
use Rattle.laws_robust.proofs.Counter.{counter_of}

module _ {T : Type 0} where
  -- ---- the same machine after another number of turns

  -- the trace with n as the number of turns that were taken
  abbrev with_turns : ℕ → Trace T → Trace T
  with_turns n t = record { world = record t.world { turns = n }; events = t.events }

  -- what refuses a turn does not depend on how many turns were taken
  same_refusal : (n : ℕ) (t : Trace T) (turn : Turn T) → open_refusal (with_turns n t).world turn ≡ open_refusal t.world turn
  same_refusal n t (Begin p (Container (Recover owner mode))) = refl
  same_refusal n t (Begin p start) = refl
  same_refusal n t (Next p) = refl
  same_refusal n t (Decide p said) = refl
  same_refusal n t (Die owner) = refl

  -- whether a turn is a step for an owner who is gone does not depend on how many turns were taken
  same_steps : (n : ℕ) (t : Trace T) (turn : Turn T) → steps_for_gone (with_turns n t) turn ≡ steps_for_gone t turn
  same_steps n t (Begin p start) = refl
  same_steps n t (Next p) = refl
  same_steps n t (Decide p said) = refl
  same_steps n t (Die owner) = refl

  -- a turn takes it to the same
  module _ (m n : ℕ) (t : Trace T) where
    -- the world of the trace with n turns
    abbrev w : World T
    w = (with_turns n t).world

    -- two worlds with these events behind those of the trace differ at most in how many turns were taken
    abbrev Same : World T → World T → List (Event T) → List (Event T) → Type 0
    Same x y xs ys = with_turns m (record { world = x; events = t.events ++ xs }) ≡ with_turns m (record { world = y; events = t.events ++ ys })

    -- a begin does the same whatever the number of turns
    same_begin : (p : ℕ) (start : Start T) (o : Option (Flight T))
        → Same (after_begin w p start o) (after_begin t.world p start o) (Begun p start ∷ []) (Begun p start ∷ [])
    same_begin p start None = refl
    same_begin p start (Some flight) = refl

    -- an answer to a step does the same whatever the number of turns
    same_answer : (p : ℕ) (x : Party T) (ask : Option Ask) (answer : ℕ) (doing : Doing T)
        → Same (after_answer w p x ask answer doing) (after_answer t.world p x ask answer doing)
        (events_of_answer w p x answer doing) (events_of_answer t.world p x answer doing)
    same_answer p x ask answer (Over others) = refl
    same_answer p x ask answer (Going flight since) = refl

    -- a turn that goes on with a call does the same whatever the number of turns
    same_next : (p : ℕ) (o : Option (Party T)) → Same (after_next w p o) (after_next t.world p o) (events_of_next w p o) (events_of_next t.world p o)
    same_next p None = refl
    same_next p (Some x) = same_answer p x (ask_of_doing t.world.coding x.doing) (old_of t.world.words (ask_of_doing t.world.coding x.doing)) x.doing

    -- an answer to a question does the same whatever the number of turns
    same_decision : (p : ℕ) (said : Bool) (o : Option (Party T))
        → Same (after_decision w p said o) (after_decision t.world p said o) (events_of_decision w p said o) (events_of_decision t.world p said o)
    same_decision p said None = refl
    same_decision p said (Some x) = same_answer p x None (number_of said) x.doing

    -- a turn leads to the same world and events whatever the number of turns
    turns_same : (turn : Turn T) → with_turns m (after_turn (with_turns n t) turn) ≡ with_turns m (after_turn t turn)
    turns_same (Begin p start) = same_begin p start (first_of t.world.kind t.world.capacity start t.world.kept)
    turns_same (Next p) = same_next p (party_of p t.world.latest)
    turns_same (Decide p said) = same_decision p said (party_of p t.world.latest)
    turns_same (Die owner) = refl

-- the terms of a run in which owners are gone by recoveries (`Word`), and no call acts for one who is gone
abbrev keeping : Terms
keeping = record { by = Word; kept = true }

-- c is the capacity of the container
module _ {T : Type 0} (code : Coding T) (c : ℕ) where
  -- the trace is sound under `keeping`: where no call acts for an owner who is gone
  abbrev KeptSound : Trace T → Type 0
  KeptSound t = frame.Sound (family_by keeping code c) t

  -- m bounds the counter of a set that is not locked, the number of each element and the number of changes
  record Bounds (t : Trace T) (m : ℕ) : Type 0 where
    -- m is not 0, and bounds the counter, less 1, of a set that is not locked
    pub some : 1 ≤ m
    pub low : is_locked t.events ≡ false → counter_of t.world.words ≤ m - 1
    -- m bounds the number of each element and the number of changes
    pub counts : (i : ℕ) → i < c → count_at c t.world.words i ≤ m
    pub change : change_at c t.world.words ≤ m

  -- two traces that differ at most in how many turns were taken have the same bounds
  bounds_as : (m : ℕ) (t u : Trace T) → with_turns m t ≡ with_turns m u → Bounds u m → Bounds t m
  bounds_as m t u is b =
      let words : t.world.words ≡ u.world.words = ap (λ (x : Trace T). x.world.words) is in
      let events : t.events ≡ u.events = ap (λ (x : Trace T). x.events) is in
      record {
        some = b.some;
        low = λ e. subst (λ ws. counter_of ws ≤ m - 1) (sym words) (b.low (sym (ap is_locked events) ∙ e));
        counts = λ i below. subst (λ ws. count_at c ws i ≤ m) (sym words) (b.counts i below);
        change = subst (λ ws. change_at c ws ≤ m) (sym words) b.change;
      }

  -- A trace that is sound under `keeping` is sound with m turns in place of those that were taken, where m
  -- bounds the counter, the numbers of elements and the number of changes.
  reset : (t : Trace T) → KeptSound t → (m : ℕ) → Bounds t m → KeptSound (with_turns m t)
  reset t kept_sound m b =
      -- the trace's words and events do not depend on how many turns were taken
      let words : t.world.words ≡ kept_sound.state.words = kept_sound.fit.words in
      let g = kept_sound.holds.good in
      let e = kept_sound.holds.elements in
      record {
        coding = kept_sound.coding;
        kind = kept_sound.kind;
        capacity = kept_sound.capacity;
        state = kept_sound.state;
        fit = kept_sound.fit;
        holds =
            record {
              same = kept_sound.holds.same;
              same_latest = kept_sound.holds.same_latest;
              -- where a call has begun, the number of turns is not 0
              begun = λ p x found. b.some;
              good =
                  record {
                    some = g.some;
                    few = g.few;
                    wide = g.wide;
                    cells = g.cells;
                    filled = g.filled;
                    lock = g.lock;
                    -- of the set, only the bound of the counter depends on the number of turns
                    low = λ open_now. subst (λ ws. counter_of ws ≤ m - 1) words (b.low open_now);
                    bound = g.bound;
                    died = g.died;
                    does = g.does;
                    answers = g.answers;
                    owned = g.owned;
                    holds = g.holds;
                  };
              elements =
                  record {
                    coded = e.coded;
                    wide = e.wide;
                    -- of the elements, only the bounds of their numbers and of the changes do
                    counts = λ kept i below. subst (λ ws. count_at c ws i ≤ m) words (b.counts i below);
                    change = λ kept. subst (λ ws. change_at c ws ≤ m) words b.change;
                    within = e.within;
                    announced = e.announced;
                    whole = e.whole;
                    asks = e.asks;
                    recovers = e.recovers;
                    answers = e.answers;
                    contains = e.contains;
                    places = e.places;
                    rests = e.rests;
                    fresh = e.fresh;
                  };
            };
        inv = kept_sound.inv;
      }

  -- ---- what holds of every open run

  -- a number above all that the changes and the rises of the history let a number of the container be
  abbrev top : List (Event T) → ℕ
  top events = 1 + (3 * changes events + rises events)

  -- the history is faithful, no two calls that may lock overlap, and no number has passed 2^64
  record Goes (events : List (Event T)) : Type 0 where
    pub faithful : IsFaithful events
    pub apart : LocksApart events
    pub young : IsYoung events

  -- a history with these three properties has them at each earlier moment
  goes_less : (events es : List (Event T)) → Goes (events ++ es) → Goes events
  goes_less events es goes =
      record {
        faithful = Each-less BeginsRight events es goes.faithful;
        apart = Each-less BeginsAlone events es goes.apart;
        young =
            (let rose : rises (events ++ es) ≡ rises events + rises es = sum_by-append rise events es in
            omega (arith, changes_more events es, goes.young));
      }

  -- What holds of every open run: its trace is sound, and bounded where no two calls that may lock overlap;
  -- the numbers rise by no more than its events let them; nobody has died; and where `Goes` holds of the
  -- history, the trace is sound under `keeping` with `top` turns.
  record HoldsAll (t : Trace T) : Type 0 where
    -- the trace is sound, and bounded where no two calls that may lock overlap
    pub bounded : Sound code c t × (LocksApart t.events → Bounded t)
    -- the number of each element, and the number of changes, rise by no more than the events let them
    pub raised : (n : ℕ) → 1 + c ≤ n → n < 2 + (c + c) → Raised n t
    -- nobody has died, and where the history is faithful it is honest
    pub lives : AllLive t.events
    pub honest : IsFaithful t.events → IsHonest t.events
    -- where the history is in order, the trace with `top` turns is sound under `keeping`
    pub kept : Goes t.events → KeptSound (with_turns (top t.events) t)

  -- the changes and rises of a history bound the counter, the numbers of the elements and the number of changes
  bounds_by : (t : Trace T) → Sound code c t → (LocksApart t.events → Bounded t) → ((n : ℕ) → 1 + c ≤ n → n < 2 + (c + c) → Raised n t)
      → LocksApart t.events → Bounds t (top t.events)
  bounds_by t sound bounded raised apart =
      let within_bounds = bounded apart in
      record {
        some = omega arith;
        low = λ open_now.
            (let not_shut : counter t ≢ locked = λ shut. true≢false (sym (eq-eqb (counter t) locked shut) ∙ ((facts code c t sound).lock ∙ open_now)) in
            omega (arith, within_bounds.fits not_shut));
        counts = λ i below. (let few = word_raised (2 + c + i) t (raised (2 + c + i) (omega arith) (omega arith)) in omega arith);
        change = (let few = word_raised (1 + c) t (raised (1 + c) (omega arith) (omega arith)) in omega arith);
      }

  -- t is the trace before the turn, of which e says that it is not refused
  module _ (t : Trace T) (turn : Turn T) (e : open_refusal t.world turn ≡ None) (h : HoldsAll t) where
    -- the trace after the turn
    abbrev new : Trace T
    new = after_turn t turn

    -- before the turn the trace is sound
    s : Sound code c t
    s = h.bounded.0

    -- where the history is faithful, the turn is no step for an owner who is gone
    steps : IsFaithful t.events → steps_for_gone t turn ≡ false
    steps faithful = steps_right code c t s (living t.events faithful s.holds.elements.asks h.lives) turn

    -- after the turn the trace is sound, and bounded where no two calls that may lock overlap
    bounded_then : Sound code c new × (LocksApart new.events → Bounded new)
    bounded_then = turn_holds (Sound code c) (facts code c) (sound_on code c) t turn e h.bounded

    -- after the turn the numbers have risen by no more than the events let them
    raised_then : (n : ℕ) → 1 + c ≤ n → n < 2 + (c + c) → Raised n new
    raised_then n past before = turn_raised code c t s n past before (h.raised n past before) turn e

    -- a faithful history is honest after the turn too
    honest_then : IsFaithful new.events → IsHonest new.events
    honest_then faithful =
        let was = Each-less BeginsRight t.events (events_of t.world turn) faithful in
        turn_honest (terms code c) code c t s (h.honest was) turn e (steps was) bounded_then.0

    -- where `Goes` holds of the history after the turn, the trace is sound under `keeping` with the number of
    -- turns that this history bounds
    kept_then : Goes new.events → KeptSound (with_turns (top new.events) new)
    kept_then goes =
        let was = goes_less t.events (events_of t.world turn) goes in
        let n = top t.events in
        let few : n < 2 ^ 64 - 2 = (omega (arith, was.young)) in
        let same = turns_same (top new.events) n t turn in
        let sound : KeptSound (after_turn (with_turns n t) turn) =
        open_turn_sound true code c (with_turns n t) (h.kept was) (λ kept. few) turn (same_refusal n t turn ∙ e)
        (λ kept. same_steps n t turn ∙ steps was.faithful)
        in
        subst KeptSound same
        (reset (after_turn (with_turns n t) turn) sound (top new.events)
        (bounds_as (top new.events) (after_turn (with_turns n t) turn) new same (bounds_by new bounded_then.0 bounded_then.1 raised_then goes.apart)))

    -- what holds of every open run (`HoldsAll`) holds after a turn that is not refused
    holds_then : HoldsAll new
    holds_then =
        record {
          bounded = bounded_then;
          raised = raised_then;
          lives = all_live_on t (steps_leave (terms code c) code c t s) turn e h.lives;
          honest = honest_then;
          kept = kept_then;
        }

-- ---- a run

-- t is the trace of an open run of a container, c its capacity, start the trace with which it opens
module _ {T : Type 0} (t : Trace T) (is : t.world.kind ≡ kinds.Container) (r : IsReachedOpen t) where
  abbrev code : Coding T
  code = t.world.coding

  abbrev c : ℕ
  c = t.world.capacity

  -- the opening of the container
  abbrev start : Trace T
  start = opening code t.world.kind c t.world.parties

  -- the trace with which a container opens is sound in a run that keeps to all its terms
  kept_first : KeptSound code c start
  kept_first =
      let world_now = t.world in
      let may = admitted_is world_now.capacity (subst (λ kind. capacity_error kind world_now.capacity ≡ None) is r.admitted) in
      subst (λ kind. KeptSound code c (opening world_now.coding kind world_now.capacity world_now.parties)) (sym is)
      (opening_sound shown keeping world_now.coding world_now.capacity world_now.parties r.coded may.0 may.1)

  -- nothing stands there yet
  words_first : start.world.words ≡ kept_first.state.words
  words_first = kept_first.fit.words

  -- at the opening the number of each element is 0
  counts_first : (i : ℕ) → i < c → count_at c start.world.words i ≤ 0
  counts_first i below = subst (λ ws. count_at c ws i ≤ 0) (sym words_first) (kept_first.holds.elements.counts refl i below)

  -- at the opening the number of changes is 0
  change_first : change_at c start.world.words ≤ 0
  change_first = subst (λ ws. change_at c ws ≤ 0) (sym words_first) (kept_first.holds.elements.change refl)

  -- at the opening each number is as low as the events, of which there are none, let it be
  raised_first : (n : ℕ) → 1 + c ≤ n → n < 2 + (c + c) → Raised n start
  raised_first n past before = record { seats = 0; beyond = λ q far. refl; fits = few (n == 1 + c) refl }
    where
      -- a word of those that are counted is 0 at the start, the number of changes or that of an element
      few : (b : Bool) → (n == 1 + c) ≡ b → get_or start.world.words n 0 + 0 ≤ 0
      few true e = let none = change_first in let same = tested n (1 + c) e in subst (λ k. get_or start.world.words k 0 + 0 ≤ 0) (sym same) (omega arith)
      few false e =
          let other : n ≢ 1 + c = λ same. true≢false (sym (eq-eqb n (1 + c) same) ∙ e) in
          let none = counts_first (n - (2 + c)) (omega arith) in
          let same : 2 + c + (n - (2 + c)) ≡ n = omega arith in
          subst (λ k. get_or start.world.words k 0 + 0 ≤ 0) same (omega arith)

  -- at the opening the counter is 0
  low_first : is_locked start.events ≡ false → counter_of start.world.words ≤ 0
  low_first open_now = subst (λ ws. counter_of ws ≤ 0) (sym words_first) (omega (arith, kept_first.holds.good.low open_now))

  -- what holds of every open run (`HoldsAll`) holds at the opening
  holds_first : HoldsAll code c start
  holds_first =
      record {
        bounded = (opens_so t is r, λ apart. opens_bounded t is);
        raised = raised_first;
        lives = λ owner. refl;
        honest = λ faithful. Each-nil ActsForRight;
        kept = λ goes. reset code c start kept_first (top code c start.events)
            (record {
              some = omega arith;
              low = λ open_now. omega (arith, low_first open_now);
              counts = λ i below. omega (arith, counts_first i below);
              change = omega (arith, change_first);
            });
      }

  -- what holds of every open run holds of this one
  holds_all : HoldsAll code c t
  holds_all = kept_by open_refusal (HoldsAll code c) (holds_then code c) t holds_first r

  -- ---- what the run says of its events

  module _ (k : IsOrderly t.events) where
    -- the trace with as many turns as its history lets the numbers rise
    abbrev few : Trace T
    few = with_turns (top code c t.events) t

    -- each replace under way was begun where its index might be replaced for its owner
    stands : (p : ℕ) (o : Option (Party T)) → StandsWellFormed p o t.events
    stands p None = tt
    stands p (Some x) = λ index owner value wrote span steps found. k.well_formed.replaces p index owner value wrote span found

    -- the run with that number of turns is well-formed
    well_formed : IsWellFormedRun few
    well_formed = record { frees = k.well_formed.frees; replaced = k.well_formed.replaced; replaces = λ p. stands p (party_of p t.world.latest) }

    -- with `top` turns the container's promise of its contents holds
    all_contained : promises.IsContained few
    all_contained =
        let h = holds_all in
        contained keeping code few (h.kept (record { faithful = k.faithful; apart = k.apart; young = k.young }))
        (well_formed_on keeping few refl (h.honest k.faithful) well_formed)

    -- the history of the run says what `IsContained` has of it
    pub reached_contained : IsContained t.events
    reached_contained =
        let all = all_contained in
        record { holders = all.holders; contents = all.contents; placed = all.placed; hidden = all.hidden }

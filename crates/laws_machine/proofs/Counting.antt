-- In every reached machine of a container, the word that counts the changes has the number of changes in
-- the events; and each turn keeps that, while this number is below the last of 64 bits.
use Rattle.laws_machine.proofs.Names.{◌≡◌, ℕ, ◌+◌, ◌-◌, ◌^◌, ◌<◌, Bool, true, Option, Some, None, List, [], ◌∷◌, ◌++◌}
use Rattle.laws_machine.proofs.Names.{fold, refl, sym, ap, subst, ◌∙◌, arith, AllByRecursion, fold-append, change_word}
use Rattle.laws_machine.proofs.Names.{After, GoOn, Done, Ask, Answer, Event, Finished, Start}
use Rattle.laws_machine.proofs.Names.{Container, Flight, Registry, ContainerStart, ContainerFlight, Party, Turn, Begin}
use Rattle.laws_machine.proofs.Names.{Next, Decide, Die, want_of, ask_of, is_question, beside_of, step_of, state_of}
use Rattle.laws_machine.proofs.Names.{questions, party_of, IsParty, IsEffectOf, ask_in, ask_of_flight, refusal_of}
use Rattle.laws_machine.proofs.Names.{answer_in, old_of, words_after, number_of, ending_of, events_of}
use Rattle.laws_machine.proofs.Names.{events_of_step}
use Rattle.laws_machine.proofs.Names.{after_turn, IsReached, Trace, capacity_error}
use Rattle.laws_machine.proofs.Names.{kept_by_runs, reached_more, turn_making, passes, may_next}
use Rattle.laws_machine.proofs.Names.{StandsThere, change_at, change_set, shown, adds_one}
use Rattle.laws_machine.proofs.Names.{all_effects, dying, Coding}
use Rattle.model.specs.declared.families.Flight.TheVariants as flights
use Rattle.model.specs.declared.families.Registry.TheVariants as registries
use Rattle.model.specs.declared.turn.Kind.TheVariants as kinds
use Rattle.model.specs.Families.Container.Calls.{want, after}
use Rattle.model.specs.Families.Container.Steps.{effects}
use Rattle.model.specs.Coding.{IsCoding}
use Rattle.model.specs.World.{opening, opened}
use Rattle.model.proofs.Frame as frame
use Rattle.laws_robust.proofs.Opening.{admitted_is}
use Rattle.laws_container.proofs.Allowed.{IsAllowed, allowed_by}
use Rattle.laws_container.proofs.Invariant.{family, family_by}
use Rattle.laws_container.proofs.Opening.{opens}
use Rattle.laws_container.proofs.Sound.{reached_sound, is_there}
use Rattle.laws_container.proofs.Stages.{any_call}
use Rattle.laws_container.proofs.Terms.{Terms}
use Rattle.laws_machine.specs.Changes.{change_in, changes_of, CountsChanges}
use Rattle.laws_machine.proofs.CountSteps.{ends_count}
use Rattle.laws_machine.proofs.CountWalks.{step_counts, decision_counts}
use Rattle.laws_machine.proofs.CallTransition.{under_way, next_wrote, decision_wrote}
use Rattle.laws_machine.proofs.Taken.{decides}

-- ---- what events count

module _ {T : Type 0} where
  -- a number of changes, and the changes of one more event
  abbrev adds_in : ℕ → Event T → ℕ
  adds_in n e = n + change_in e

  -- an effect of a turn is no change
  effect_none : (turn : Turn T) (e : Event T) → IsEffectOf turn e → change_in e ≡ 0
  effect_none turn (Finished p start answer) is_effect = absurd is_effect
  effect_none turn e is_effect = refl

  -- effects of a turn add nothing to the number of changes in the events
  effects_count : (turn : Turn T) (es ys : List (Event T)) (n : ℕ) → AllByRecursion (IsEffectOf turn) es → fold adds_in n (es ++ ys) ≡ fold adds_in n ys
  effects_count turn [] ys n effects_hold = refl
  effects_count turn (e ∷ es) ys n effects_hold =
      let none = effect_none turn e effects_hold.0 in
      let same : n + change_in e ≡ n = omega arith in
      ap (λ m. fold adds_in m (es ++ ys)) same ∙ effects_count turn es ys n effects_hold.1

  -- the end of a call adds what it counts for
  end_count : (p : ℕ) (start : ContainerStart T) (o : Option (Answer T)) (n : ℕ) → fold adds_in n (ending_of p (Container start) o) ≡ n + ends_count p start o
  end_count p start None n = omega arith
  end_count p start (Some answer) n = refl

  -- what a turn writes of a call adds what the call's end counts for
  pub wrote_counts : (turn : Turn T) (events es : List (Event T)) (p : ℕ) (start : ContainerStart T) (o : Option (Answer T))
      → AllByRecursion (IsEffectOf turn) es
      → changes_of (events ++ (es ++ ending_of p (Container start) o)) ≡ changes_of events + ends_count p start o
  wrote_counts turn events es p start o effects_hold =
      fold-append adds_in 0 events (es ++ ending_of p (Container start) o)
      ∙ (effects_count turn es (ending_of p (Container start) o) (changes_of events) effects_hold ∙ end_count p start o (changes_of events))

-- the events have fewer changes than the last number of 64 bits, and the word counts them (`counts`)
module _ {T : Type 0} (terms : Terms) (t : Trace T) (s : frame.Sound (family_by terms t.world.coding t.world.capacity) t)
    (few : changes_of t.events < 2 ^ 64 - 1) (counts : CountsChanges t) where
  abbrev c : ℕ
  c = t.world.capacity

  abbrev fam : frame.Family T
  fam = family_by terms t.world.coding t.world.capacity

  -- the words of the machine are those of the container
  same_words : t.world.words ≡ s.state.words
  same_words = s.fit.words

  -- the machine keeps the owners that died and the parties' states
  same_kept : t.world.kept ≡ registries.Container s.state.dead s.state.states
  same_kept = s.fit.kept

  -- where a turn raises the word by `n` and its events have `n` changes, the word counts
  -- the changes afterwards
  leaves : (turn : Turn T) → (ask : Option Ask) → ask_in t.world turn ≡ ask
      → (n : ℕ) → change_at c (words_after s.state.words ask) ≡ change_at c s.state.words + n
      → changes_of (t.events ++ events_of t.world turn) ≡ changes_of t.events + n → CountsChanges (after_turn t turn)
  leaves = grind (arith, same_words, turn_making)

  -- adding 1 to the word, which has not reached its end, makes it one more
  now_counted : change_at c s.state.words ≡ changes_of t.events
  now_counted = rw (← same_words) counts

  -- an addition of one to the word of changes raises it by one
  raised : change_at c (words_after s.state.words (Some (adds_one (change_word c)))) ≡ change_at c s.state.words + 1
  raised =
      let wide = s.holds.elements.wide in
      let counted = now_counted in
      change_set c t.world.coding.size s.state.words _ (omega arith) ∙ (let small = few in omega arith)

  -- what the turn writes of the party's call is what its step, given this answer, writes
  abbrev Wrote : ℕ → Turn T → ℕ → Registry T → Start T → Flight T → Type 0
  Wrote p turn answer kept start flight =
      events_of t.world turn ≡ events_of_step p start
      (step_of t.world.coding t.world.words (beside_of t.world.words kept t.world.latest p) p start flight answer kept)

  -- what the machine keeps: the owners that died and the parties' states
  abbrev now_kept : Registry T
  now_kept = registries.Container s.state.dead s.state.states

  -- an answer as one of any call of the container
  same_answer : (a : After (ContainerFlight T) (Answer T)) → answer_in (any_call a) ≡ answer_in a
  same_answer (GoOn flight) = refl
  same_answer (Done answer) = refl

  -- a turn of party p asks for `ask`, and hands `answer` to the party's call
  module _ (p : ℕ) (turn : Turn T) (mine : IsParty turn p) (answer : ℕ)
      (ask : Option Ask) (asks : ask_in t.world turn ≡ ask) where
    -- where a turn raises the word by what the end of its call counts for, the word counts
    -- the changes afterwards
    counted : (start : ContainerStart T) (flight : ContainerFlight T) → Wrote p turn answer now_kept (Container start) (flights.Container flight)
        → change_at c (words_after s.state.words ask)
        ≡ change_at c s.state.words + ends_count p start (answer_in (after t.world.coding (state_of p s.state.states) flight answer))
        → CountsChanges (after_turn t turn)
    counted start flight wrote word =
        let state = state_of p s.state.states in
        let a = after t.world.coding (state_of p s.state.states) flight answer in
        leaves turn ask asks (ends_count p start (answer_in a)) word
        (ap (λ es. changes_of (t.events ++ es)) wrote
        ∙ (wrote_counts turn t.events (effects t.world.coding p state flight answer ++ questions p flight answer) p
        start (answer_in (any_call a)) (all_effects turn p mine t.world.coding state flight answer)
        ∙ ap (λ o. changes_of t.events + ends_count p start o) (same_answer a)))

  -- ---- a turn of a call under way

  module _ (p : ℕ) (free : IsAllowed t.world (Next p)) where
    -- after a step of a call that stands in the machine, the word counts the changes
    by_step : {x : Party T} {since : ℕ} → party_of p t.world.latest ≡ Some x → {start : Start T} {flight : Flight T}
        → StandsThere fam t s p x since start flight → ask_in t.world (Next p) ≡ ask_of (want_of t.world.coding flight)
        → Wrote p (Next p) (old_of s.state.words (ask_of (want_of t.world.coding flight))) now_kept start flight → CountsChanges (after_turn t (Next p))
    by_step {x} {since} found {start = (Container start)} {flight = (flights.Container flight)} stands asks wrote =
        let laws_say = is_there shown terms t.world.coding c t s in
        let there = laws_say p x since found start flight stands in
        counted p (Next p) refl (old_of s.state.words (ask_of (want t.world.coding flight))) (ask_of (want t.world.coding flight)) asks start flight wrote
        (step_counts t.world.coding c s.state.words (state_of p s.state.states) p _ _ start flight there.at
        raised (old_of s.state.words (ask_of (want t.world.coding flight))))
    by_step found stands asks wrote = absurd stands.at

    -- after any step, the word counts the changes
    next_counts : CountsChanges (after_turn t (Next p))
    next_counts =
        let flies = may_next t.world p free in
        let call = under_way fam t s p flies.flight flies.is in
        let caller = call.party in
        let wrote = next_wrote fam t s p call in
        by_step {x = caller} {since = call.since} call.found {start = caller.start} {flight = flies.flight}
        call.there (ap (ask_of_flight t.world.coding) flies.is)
        (subst (λ kept. Wrote p (Next p) (old_of s.state.words (ask_of (want_of t.world.coding flies.flight))) kept caller.start flies.flight) same_kept
        (subst (λ ws. Wrote p (Next p) (old_of ws (ask_of (want_of t.world.coding flies.flight))) t.world.kept caller.start flies.flight) same_words wrote))

  module _ (p : ℕ) (said : Bool) (free : IsAllowed t.world (Decide p said)) where
    -- after a decision of a call that stands in the machine, the word counts the changes
    by_decision : {x : Party T} {since : ℕ} → party_of p t.world.latest ≡ Some x
        → {start : Start T} {flight : Flight T} → StandsThere fam t s p x since start flight
        → is_question (want_of t.world.coding flight) ≡ true
        → Wrote p (Decide p said) (number_of said) now_kept start flight → CountsChanges (after_turn t (Decide p said))
    by_decision {x} {since} found {start = (Container start)} {flight = (flights.Container flight)} stands due wrote =
        let laws_say = is_there shown terms t.world.coding c t s in
        let there = laws_say p x since found start flight stands in
        let none = decision_counts t.world.coding (state_of p s.state.states) p (number_of said) start flight c t.world.coding.size _ _ there.at due in
        counted p (Decide p said) refl (number_of said) None refl start flight wrote (omega arith)
    by_decision found stands due wrote = absurd stands.at

    -- after any decision, the word counts the changes
    decision_counts_on : CountsChanges (after_turn t (Decide p said))
    decision_counts_on =
        let flies = decides {w = t.world} {p = p} free in
        let call = under_way fam t s p flies.flight flies.is in
        let caller = call.party in
        let wrote = decision_wrote fam t s p call said in
        by_decision {x = caller} {since = call.since} call.found {start = caller.start} {flight = flies.flight} call.there flies.due
        (subst (λ kept. Wrote p (Decide p said) (number_of said) kept caller.start flies.flight) same_kept wrote)

  -- after any turn, the word counts the changes
  pub turn_counts : (turn : Turn T) → IsAllowed t.world turn → CountsChanges (after_turn t turn)
  turn_counts (Begin p start) free = leaves (Begin p start) None refl 0 (omega arith) (fold-append adds_in 0 t.events _ ∙ (omega arith))
  turn_counts (Next p) free = next_counts p free
  turn_counts (Decide p said) free = decision_counts_on p said free
  turn_counts (Die owner) free = leaves (Die owner) None refl 0 (omega arith) (fold-append adds_in 0 t.events _ ∙ (omega arith))

-- ---- every run

module _ {T : Type 0} where
  -- as the container opens, the word is 0 and no event is a change
  pub counts_first : (code : Coding T) (c parties : ℕ) → IsCoding code → capacity_error kinds.Container c ≡ None
      → CountsChanges (opening code kinds.Container c parties)
  counts_first code c parties coded admitted =
      let may = admitted_is c admitted in
      let few = (opens dying code c coded may.0 may.1).elements.change refl in
      omega arith

  -- in a machine whose owners die, few turns were taken, so there are few changes
  few_changes : {t : Trace T} (s : frame.Sound (family t.world.coding t.world.capacity) t) → CountsChanges t → t.world.turns < 2 ^ 64 - 2
      → changes_of t.events < 2 ^ 64 - 1
  few_changes {t} s counted small =
      let same = s.fit.words in
      let now : change_at t.world.capacity s.state.words ≡ changes_of t.events =
      rw (← same) counted in
      let few = s.holds.elements.change refl in
      omega arith

  -- the machine is reached, and if it is a container's, its word counts the changes
  abbrev HasCounted : Trace T → Type 0
  HasCounted t = IsReached t × (t.world.kind ≡ kinds.Container → CountsChanges t)

  -- a turn of a reached machine leaves one of which `HasCounted` holds
  turn_more : (u : Trace T) (turn : Turn T) → refusal_of u.world turn ≡ None → HasCounted u → HasCounted (after_turn u turn)
  turn_more u turn free has_counted = (
    reached_more u turn free has_counted.0,
    λ same.
        let kind_before = sym (turn_making u.world turn).kind ∙ same in
        let sound_there = reached_sound shown u kind_before has_counted.0 in
        let passed = passes u.world turn free in
        turn_counts dying u sound_there (few_changes sound_there (has_counted.1 kind_before) passed.turns)
        (has_counted.1 kind_before) turn (allowed_by u.world turn passed.on),
  )

  -- in every reached machine the word counts the changes
  pub counts_changes : (t : Trace T) → t.world.kind ≡ kinds.Container → IsReached t → CountsChanges t
  counts_changes t is reached =
      (kept_by_runs HasCounted turn_more t
      (λ queue queued. (
        record { coded = reached.coded; admitted = reached.admitted; queue = queue; queued = queued; turns = []; is = refl },
        λ same. subst (λ kind. CountsChanges (opened t.world.coding kind t.world.capacity queue t.world.parties)) (sym same)
            (counts_first t.world.coding t.world.capacity t.world.parties reached.coded
            (subst (λ kind. capacity_error kind t.world.capacity ≡ None) is reached.admitted)),
      ))
      reached).1 is

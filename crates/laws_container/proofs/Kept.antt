-- What the invariant of a container says of the events and of the words, in the words of the promises.
use Rattle.laws_container.proofs.Names.{◌≡◌, ℕ, ◌<◌, ◌≤◌, ◌==◌, ⊎_elim, Option, Some, None, length, slice_index}
use Rattle.laws_container.proofs.Names.{ap, subst, ◌∙◌, arith, cases_lt, slice_get_past, value_if, ContainerState}
use Rattle.laws_container.proofs.Names.{cell_word, locked, Party, Coding, state_in, shows, WasCopied, ShowsCopies}
use Rattle.laws_container.proofs.Names.{HasElements, IsContained, IsContainer, KeepsDead, AsksCopies}
use Rattle.laws_container.proofs.Names.{question_in, Copies, acts_of, state_of, is_locked, cell_of, filled_of}
use Rattle.laws_container.proofs.Names.{IsLatest, doing_of, flight_of}
use Rattle.laws_container.proofs.Names.{Trace, cell, Death}
use Rattle.model.specs.declared.families.Registry.TheVariants as registries
use Rattle.model.proofs.Frame as frame
use Rattle.laws_container.proofs.Answers.{asks_right, recovers_right, answers_right}
use Rattle.laws_container.proofs.Invariant.{family, family_by}
use Rattle.laws_container.proofs.WellFormed.{IsWellFormedSoFar, well_formed_so_far}
use Rattle.laws_container.proofs.StateInvariant.{Rests}
use Rattle.laws_container.proofs.Terms.{Terms, dying}

-- ---- what is shown was copied

module _ {T : Type 0} where
  -- a state shows no value past its elements
  shown_within : (s : ContainerState T) (i : ℕ) (value : T) → shows s i ≡ Some value → i < length s.shown.elements
  shown_within s i value shown = ⊎_elim (λ within. within) past (cases_lt i (length s.shown.elements))
    where
      -- an index past the elements shows nothing
      past : length s.shown.elements ≤ i → i < length s.shown.elements
      past beyond =
          let none : shows s i ≡ None = ap value_if (slice_get_past s.shown.elements i beyond) in
          absurd (cc)

  -- each value that a state at rest shows was copied by its party
  at_rest : {code : Coding T} {c : ℕ} {m : _} {q i : ℕ} {s : ContainerState T} {value : T} → Rests code c m q s
      → shows s i ≡ Some value → WasCopied q i value m.events
  at_rest rests shown = let by_shown_within = shown_within in grind arith

-- ---- what is promised

-- `t` is the run up to now, which is sound
module _ {T : Type 0} (terms : Terms) (code : Coding T) (t : Trace T) (sound : frame.Sound (family_by terms code t.world.capacity) t) where
  abbrev c : ℕ
  c = t.world.capacity

  -- the words of the machine are those of which the invariant speaks
  words_are : t.world.words ≡ sound.state.words
  words_are = sound.fit.words

  -- what the machine keeps beside its words is that of which the invariant speaks
  kept_are : t.world.kept ≡ registries.Container sound.state.dead sound.state.states
  kept_are = sound.fit.kept

  -- where the party's call under way asks about a value, that value is its latest copy
  asked_by : (p index : ℕ) (value : T) (o : Option (Party T))
      → frame.KnowsParty (family_by terms code c) sound.state p t.events t.world.changes o
      → question_in code (flight_of (doing_of o)) ≡ Some (index, value)
      → IsLatest (Copies index value) (acts_of p t.events)
  asked_by p index value o knows_party asked = grind arith

  -- each question is about the value that its call has copied last
  pub questions : AsksCopies t
  questions = grind (arith, asked_by)

  -- each state at rest shows what its party has copied
  pub states : ShowsCopies t.world t.events
  states p i state value idle found shown =
      let here : state_of p sound.state.states ≡ Some state = subst (λ kept. state_in kept p ≡ Some state) kept_are found in
      at_rest (sound.holds.elements.rests p state idle here) shown

  -- in a well-formed run the words of each element say what stands there
  elements : IsWellFormedSoFar terms t.world.latest t.events → HasElements t
  elements well_formed index below = grind arith

  -- each cell says for whom its index is filled
  pub cells : (index : ℕ) → index < t.world.capacity → slice_index t.world.words (cell_word index) ≡ cell_of (filled_of index t.events)
  cells index below = ap (λ ws. cell ws index) words_are ∙ sound.holds.good.cells index below

  -- the counter says whether the container is locked
  pub lock : (slice_index t.world.words 0 == locked) ≡ is_locked t.events
  lock = rw words_are sound.holds.good.lock

  -- the machine keeps who has died
  pub dead : KeepsDead t.world.kept t.events
  dead = grind (arith, kept_are)

  -- what is promised of a well-formed run holds
  pub contained : IsWellFormedSoFar terms t.world.latest t.events → IsContained t
  contained well_formed = grind arith

-- ---- where owners die

-- `t` is the run up to now, of a machine whose owners die, and it is sound
module _ {T : Type 0} (code : Coding T) {t : Trace T} (sound : frame.Sound (family code t.world.capacity) t) where
  -- what holds of the machine is what is promised of a container where owners die
  pub container_kept : IsContainer t
  container_kept =
      let elements_hold = sound.holds.elements in
      record {
        does = sound.holds.good.does;
        asks = asks_right t.events elements_hold.asks;
        recovers = recovers_right t.events elements_hold.recovers;
        answers = answers_right ⊥ (λ worn. worn) Death t.world.capacity t.events tt elements_hold.answers;
        cells = cells dying code t sound;
        lock = lock dying code t sound;
        dead = dead dying code t sound;
        questions = questions dying code t sound;
        states = states dying code t sound;
        well_formed = λ well_formed. contained dying code t sound (well_formed_so_far well_formed);
      }

-- A find that ends writes nothing else in that turn. Unless a no of its caller ends it, it has counted the
-- whole container.
use Rattle.laws_container.proofs.Names.{◌≡◌, ℕ, ⊎_elim, Option, Some, List, [], ◌∷◌, ◌++◌, refl, sym, ap, subst, ◌∙◌}
use Rattle.laws_container.proofs.Names.{append-nil, arith, append_cancel_left, FindStage, ContainerState, Answer}
use Rattle.laws_container.proofs.Names.{Number, Event, Finished, Container, ContainerFlight, Turn, Coding, after}
use Rattle.laws_container.proofs.Names.{acts_of, state_of, effects, questions, set_acts_of, answer_in, ending_of}
use Rattle.laws_container.proofs.Names.{events_of, after_turn, no_more}
use Rattle.steps.specs.declared.copied.Buffer as buffers
use Rattle.model.specs.declared.families.container.ContainerStart.TheVariants as starts
use Rattle.laws_container.proofs.AskedTurn.{GoesOn, IsCalmTurn, IsGoing, any_turn}
use Rattle.laws_container.proofs.LooksTell.{container_is, ends_last}
use Rattle.laws_container.proofs.Sound.{SoundRun}
use Rattle.laws_container.proofs.Stages.{any_call}
use Rattle.laws_container.proofs.CallProgress.{find_at, At}
use Rattle.laws_container.proofs.FindPromises.{TurnIf, counts_all}
use Rattle.laws_container.proofs.Written.{all_effects}
use Rattle.laws_container.specs.ConditionalPromises.{CountsIf, FindsAllIf}
use Rattle.laws_container.proofs.Allowed.{IsAllowed}

-- ---- the step that ends a find

-- a call of party `q` is handed `old`, and its party has the state `state`
module _ {T : Type 0} (code : Coding T) (q : ℕ) (state : Option (ContainerState T)) (answer : Answer T) where
  -- a step that ends the call with this answer writes nothing before the end
  abbrev WritesNothingElse : ContainerFlight T → ℕ → Type 0
  WritesNothingElse flight old =
      answer_in (any_call (after code state flight old)) ≡ Some answer → effects code q state flight old ++ questions q flight old ≡ []

  -- a step that ends a find at any stage writes nothing before the end
  stage_silent : (c owner : ℕ) (room : buffers.Buffer 128) (stage : FindStage) (old : ℕ) → WritesNothingElse (find_at c owner room stage) old
  stage_silent c owner room stage old e = grind arith

-- a list with one member that ends with one has nothing before it
only_one : {A : Type 0} → (x y : A) (before : List A) → x ∷ [] ≡ before ++ y ∷ [] → before ≡ []
only_one x y [] split_so = refl
only_one x y (z ∷ zs) split_so = let none : [] ≡ zs ++ y ∷ [] = cc in absurd (no_more zs y [] none)

-- a find of `owner` by party `p` ends with `number` in this turn
module _ {T : Type 0} (run : SoundRun T) (turn : Turn T) (r : IsAllowed run.trace.world turn) (p owner number : ℕ) where
  open run use {code, trace as t, sound}

  abbrev c : ℕ
  c = t.world.capacity

  abbrev last : Event T
  last = Finished p (Container (starts.Find owner)) (Number number)

  -- a step that ends a find of this owner writes nothing before the end
  silent_there : (q old : ℕ) (flight : ContainerFlight T)
      → At c code.size (set_acts_of q t.events) (acts_of q t.events) (starts.Find owner) flight
      → WritesNothingElse code q (state_of q sound.state.states) (Number number) flight old
  silent_there = grind (arith, stage_silent)

  -- a turn in which a find ends writes nothing before that end
  ends_alone : (wrote : List (Event T)) → events_of t.world turn ≡ wrote ++ Finished p (Container (starts.Find owner)) (Number number) ∷ [] → wrote ≡ []
  ends_alone wrote split_so =
      ⊎_elim
      (λ (calm : IsCalmTurn run turn). absurd (calm.ends_none p (Container (starts.Find owner)) (Number number) wrote split_so))
      (λ (going : IsGoing run turn). by going.party going.goes)
      (any_turn run turn r)
    where
      -- a turn in which a party's call goes on, and that ends a find, writes nothing before that end
      by : (q : ℕ) → GoesOn run turn q → wrote ≡ []
      by q goes_on =
          let state = state_of q sound.state.states in
          let did = effects code q state goes_on.flight goes_on.answer ++ questions q goes_on.flight goes_on.answer in
          let outcome = answer_in (any_call (after code state goes_on.flight goes_on.answer)) in
          let whole : did ++ ending_of q (Container goes_on.start) outcome ≡ wrote ++ last ∷ [] = sym goes_on.wrote ∙ split_so in
          let end =
          ends_last turn q p did (Container goes_on.start) (Container (starts.Find owner)) outcome (Number number) wrote
          (all_effects turn q goes_on.mine code state goes_on.flight goes_on.answer) whole in
          let name = container_is goes_on.start (starts.Find owner) end.name in
          let at = subst (λ a. At c code.size (set_acts_of q t.events) (acts_of q t.events) a goes_on.flight) name goes_on.at in
          let nothing : did ≡ [] = silent_there q goes_on.answer goes_on.flight at end.done in
          only_one (Finished q (Container goes_on.start) (Number number)) last wrote
          (sym (ap (λ es. es ++ ending_of q (Container goes_on.start) outcome) nothing ∙ ap (λ o. ending_of q (Container goes_on.start) o) end.done) ∙ whole)

module _ {T : Type 0} (run : SoundRun T) (taken : TurnIf run) where
  open run use {trace as t}
  open taken use {turn, allowed as r, well_formed}

  -- each find that ends in a turn other than a no to its party has counted the whole container
  pub finds_all : FindsAllIf well_formed t turn (after_turn t turn)
  finds_all p owner number ends ne =
      let none = ends_alone run turn r p owner number ends.wrote (append_cancel_left t.events (events_of t.world turn) _ ends.is) in
      let alone = subst (λ w. (after_turn t turn).events ≡ t.events ++ (w ++ Finished p (Container (starts.Find owner)) (Number number) ∷ [])) none ends.is in
      subst (λ w. CountsIf well_formed p owner t.world.capacity number (t.events ++ w)) (sym none)
      (subst (λ es. CountsIf well_formed p owner t.world.capacity number es) (sym (append-nil t.events))
      (counts_all run taken p owner number alone ne))

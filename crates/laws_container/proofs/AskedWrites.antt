-- What a call of a container writes of questions as it goes on: a find and a recovery come to indices that
-- were their owner's and ask at once about what they copy, and only a yes tells a recovery to free one.
use Rattle.laws_container.proofs.Names.{◌≡◌, ◌≢◌, ℕ, true, Option, Some, None, List, ◌++◌, refl, sym, subst, arith}
use Rattle.laws_container.proofs.Names.{AllByRecursion, ContainerState, Answer, Event, Container, ContainerStart}
use Rattle.laws_container.proofs.Names.{ContainerFlight, Turn, Decide, Coding, is_question, want, question_at}
use Rattle.laws_container.proofs.Names.{WritesRight, acts_of, state_of, effects, questions, set_acts_of, Open}
use Rattle.laws_container.proofs.Names.{span_of, ending_of, events_of, after_turn, Trace, all_both}
use Rattle.laws_container.proofs.AskedLeft.{made}
use Rattle.laws_container.proofs.AskedTurn.{GoesOn}
use Rattle.laws_container.proofs.Invariant.{wrote_of}
use Rattle.laws_container.proofs.Knows.{View, Knows}
use Rattle.laws_container.proofs.Sound.{SoundRun}
use Rattle.laws_container.proofs.CallProgress.{At}

-- party `q` takes a turn of the run `t`, at the capacity `c`
module _ {T : Type 0} (code : Coding T) (c : ℕ) (t : Trace T) (turn : Turn T) (q : ℕ) where
  -- the event writes rightly what it says of questions (`WritesRight`, as the promise has it)
  abbrev IsRightQuestion : Event T → Type 0
  IsRightQuestion e = WritesRight t turn (after_turn t turn) e

  abbrev AreRightQuestions : List (Event T) → Type 0
  AreRightQuestions es = AllByRecursion IsRightQuestion es

  -- ---- any call

  -- if the call waits for a decision and is handed anything but no, the turn is the decision yes
  abbrev IsByYes : ContainerFlight T → ℕ → Type 0
  IsByYes flight old = is_question (want code flight) ≡ true → old ≢ 0 → turn ≡ Decide q true

  -- all that a call writes of questions as it goes on is right
  any_call_right : (state : Option (ContainerState T)) (v : View T) {start : ContainerStart T} (flight : ContainerFlight T) {old : ℕ}
      → span_of q t.events ≡ Open (Container start) (wrote_of q t.events)
      → At c code.size (set_acts_of q t.events) (acts_of q t.events) start flight → Knows code c flight v → v.events ≡ t.events → v.party ≡ q
      → question_at (after_turn t turn) q ≡ made code flight old → IsByYes flight old
      → AreRightQuestions (effects code q state flight old ++ questions q flight old)
  any_call_right state v flight span stands knows same mine asks told = grind arith

  -- the end of a call says nothing wrong of questions
  end_right : (start : ContainerStart T) (outcome : Option (Answer T)) → AreRightQuestions (ending_of q (Container start) outcome)
  end_right start None = tt
  end_right start (Some answer) = (tt, tt)

module _ {T : Type 0} (run : SoundRun T) (turn : Turn T) (q : ℕ) where
  open run use {terms, code, trace as t, sound, may}

  abbrev c : ℕ
  c = t.world.capacity

  -- what a turn in which a call goes on writes of questions is right
  pub goes_right : (g : GoesOn run turn q) → AllByRecursion (WritesRight t turn (after_turn t turn)) (events_of t.world turn)
  goes_right g =
      subst (AllByRecursion (WritesRight t turn (after_turn t turn))) (sym g.wrote)
      (all_both (IsRightQuestion code c t turn q) (effects code q (state_of q sound.state.states) g.flight g.answer ++ questions q g.flight g.answer) _
      (any_call_right code c t turn q _ _ g.flight g.span g.at g.knows refl refl g.asks (λ due some. g.by_yes due some))
      (end_right code c t turn q g.start _))

-- What an answer to the question of a call makes of a reached machine, where a table stands at the machine's words.
use Rattle.history.proofs.Names.{Bool, ◌≡◌, ◌≢◌, ℕ, ◌+◌, Some, None, List, [], ◌∷◌, ◌++◌, refl, sym, ap, ◌∙◌, arith}
use Rattle.history.proofs.Names.{sum_by, sum_by-append, goes_of, party_of}
use Rattle.steps.specs.declared.ask.After.{After}
use Rattle.model.specs.declared.event.Answer.{Answer}
use Rattle.model.specs.declared.event.Event.{Event}
use Rattle.model.specs.declared.event.Start.{Start}
use Rattle.model.specs.declared.families.Flight.{Flight}
use Rattle.model.specs.declared.turn.Turn.TheVariants.{Decide}
use Rattle.history.proofs.Names.{answer_in, after_turn, events_of, number_of, ending_of, whose}
use Rattle.model.proofs.Turns.{writes_one_word}
use Rattle.history.specs.Known.{events_by, of_none}
use Rattle.history.specs.History.{call_in, steps_in, IsLate, refusal_as, steps_of_run}
use Rattle.history.proofs.Known.{by_more, by_same, by_other, by_mine}
use Rattle.history.proofs.Calls.{stands, decision_other, steps_decision_other, steps_decision_own}
use Rattle.history.proofs.Calls.{call_then, heard_going, heard_events}
use Rattle.history.proofs.KindLaws.{StepsOn, all_someone}
use Rattle.history.proofs.Turns.{Between, Turning, turned, more_steps, ending_of_own}

-- ---- a call is handed an answer to its question, and goes on without a word, or ends

-- a party whose call under way stands at a question, and is to be handed the answer `said`, which the machine
-- does not refuse
pub record Answering (T : Type 0) : Type 0 where
  pub turning : Turning T
  pub start : Start T
  pub flight : Flight T
  pub next : After (Flight T) (Answer T)
  pub said : Bool
  -- the call stands at this flight, the answer is not refused, and with it the call goes on,
  -- or ends, as `next` says
  pub at : call_in turning.u.world turning.p ≡ Some (start, flight)
  pub free : refusal_as turning.kind turning.u.world (Decide turning.p said) ≡ None
  pub comes : goes_of turning.code turning.p flight (number_of said) turning.u.world.kept ≡ next

module _ {T : Type 0} (answering : Answering T) where
  open answering use {turning, turning.{code, kind, capacity, words, effects, laws, owner, s, id, p, gained, u, b}, start, flight, next, said, at, free, comes}

  -- what the laws of the kind say of the answer to this call
  steps_so : StepsOn code kind capacity words effects u p flight
  steps_so = laws.steps_on u b.run p start flight at

  abbrev hears : List (Event T)
  hears = effects u.world p flight (number_of said)

  abbrev ends_so : List (Event T)
  ends_so = ending_of p start (answer_in next)

  comes_here : goes_of u.world.coding p flight (number_of said) u.world.kept ≡ next
  comes_here = grind arith

  pub heard : events_of u.world (Decide p said) ≡ hears ++ ends_so
  heard = grind (arith, heard_events, stands, steps_so, ending_of, answer_in, comes_here)

  -- of the events of the answer those of its own party are the effects of the call, and its end where the
  -- answer ends it
  pub own_heard : events_by p (events_of u.world (Decide p said)) ≡ events_by p hears ++ ends_so
  own_heard = grind (arith, heard, by_more, by_mine, ending_of_own)

  heard_someone : sum_by (λ e. of_none (whose e)) (events_of u.world (Decide p said)) ≡ 0
  heard_someone = grind (arith, sum_by, of_none, whose, events_of, heard, sum_by-append, steps_so, number_of, all_someone)

  heard_beside : (q : ℕ) → q ≢ p → IsLate kind (call_in u.world q) (events_by q (events_of u.world (Decide p said)))
  heard_beside = grind (arith, call_in, events_by, heard, by_same, by_other, ending_of_own, answer_in, steps_so, number_of)

  -- after the answer the machine stands at the table's words, and the seat has gained the
  -- party's events of it
  pub decided : Between code kind capacity owner s id p (gained ++ events_by p (events_of u.world (Decide p said))) (after_turn u (Decide p said))
  decided = turned turning (record {
    free = free;
    fresh_turn = tt;
    same = b.words ∙ ap (λ ws. ws ++ 0 ∷ []) (sym (writes_one_word u.world (Decide p said)));
    someone = heard_someone;
    beside = heard_beside;
    apart = λ j ne. decision_other u.world p j said ne (party_of p u.world.latest);
    no_look = λ q ne. refl;
    still = λ q ne. steps_decision_other u.world p q said ne (party_of p u.world.latest);
  })

  -- an answer is no step, so the run takes no step more
  pub decided_took : steps_of_run code kind capacity decided.one.turns ≡ steps_of_run code kind capacity b.one.turns + 0
  unfolding decided turned
  decided_took = more_steps code kind capacity b.one.turns u (Decide p said) 0 b.one.is refl

  pub decided_steps : steps_in (after_turn u (Decide p said)).world p ≡ steps_in u.world p + 0
  decided_steps = steps_decision_own said (stands u.world p start flight at)

  -- after the answer the party's call stands where the answer leads it, or has ended
  pub decided_at : call_in (after_turn u (Decide p said)).world p ≡ call_then start next
  decided_at =
      heard_going u.world p start flight (effects u.world p flight) (stands u.world p start flight at) steps_so.goes steps_so.writes said
      ∙ ap (call_then start) comes_here

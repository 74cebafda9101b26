-- The law `headline` (src/lib.rt; clauses `reached`, `runs`, `turn`, `strong`, `lock_free`, `lock_free_by_default`, `lock_free_container` and
-- `lock_free_channel`): `Holds` is true of a machine of every kind, at every admitted capacity, after every list of turns, of which
-- those that are refused change nothing.
use Rattle.std.proofs.Common.{◌≡◌, ◌⊎◌, ⊎_elim, ℕ, Bool, false, None, refl}
use Rattle.model.specs.declared.turn.Kind.TheVariants as kinds
use Rattle.model.specs.declared.turn.Turn.{Turn}
use Rattle.model.specs.declared.turn.Turn.TheVariants.{Decide}
use Rattle.model.specs.Refusals.{refusal_of}
use Rattle.model.specs.Turns.{IsReached, events_of, after_turn, run}
use Rattle.model.specs.World.{Trace, opened}
use Rattle.laws_machine.proofs.Answering as answering
use Rattle.laws_machine.proofs.Asking as asking
use Rattle.laws_machine.proofs.Finding as finding
use Rattle.laws_machine.proofs.Others as others
use Rattle.laws_machine.proofs.Queue as submission
use Rattle.laws_machine.proofs.Waiting as waiting
use Rattle.laws_machine.specs.Questions.{waits_at}
use Rattle.headline.specs.Headline.{Holds}
use Rattle.machine.proofs.Laws.{laws_of}
use Rattle.machine.proofs.LockFree.{one_ends, robust_one_ends, container_one_ends, channel_one_ends}
use Rattle.headline.proofs.Ending.{robust_finds, container_finds, looks}
use Rattle.headline.proofs.Ends.{ends}
use Rattle.headline.proofs.Picking.{picked}
use Rattle.headline.proofs.Reached.{holds}
use Rattle.headline.proofs.Reaching.{reaches}
use Rattle.headline.proofs.Strong.{strong_runs}
use Rattle.headline.proofs.headline.Goals as goal

pub returns-clause-reached : goal.returns-clause-reached
returns-clause-reached g c t r = holds t r

-- The clause `runs`: what every list of turns leads to from the opening keeps all that `Holds` says.
pub returns-clause-runs : goal.returns-clause-runs
returns-clause-runs g c code kind capacity queue parties turns coded admitted queued =
    let last = run turns (opened code kind capacity queue parties) in
    let r = reaches code kind capacity queue parties turns coded admitted queued in
    rw r.is at (holds last r.reached)

-- a decision is the last word, of the robust set and of a container
last_word : {T : Type 0} (t : Trace T) (turn : Turn T) → IsReached t → refusal_of t.world turn ≡ None
    → (t.world.kind ≡ kinds.Robust) ⊎ (t.world.kind ≡ kinds.Container)
    → (p : ℕ) (said : Bool) → turn ≡ Decide p said → waits_at (after_turn t turn) p ≡ false
last_word t turn reached e is p said decides =
    ⊎_elim (λ robust. answering.answered t robust reached turn e p said decides) (λ container. waiting.answered t container reached turn e p said decides) is

-- the return of `turn` meets what it ensures
pub returns-clause-turn : goal.returns-clause-turn
returns-clause-turn g c t turn r e =
    let is_turn = (laws_of t.world.kind).turn t turn refl e r in
    record {
      one_word = is_turn.word;
      others_stay = others.others_stay t.world turn;
      grows = (events_of t.world turn, refl);
      keeps_queue = submission.keeps_queue t.world turn;
      ends = ends t r turn e;
      asks = λ is p index owner wrote grown one. picked _ _ wrote one (asking.asks_at_once t turn is r wrote grown);
      finds = λ is p index owner next here loads. finding.finds_asking t is r turn e p owner index next here loads;
      answered = last_word t turn r e;
      found = robust_finds t turn (after_turn t turn) is_turn;
      found_there = container_finds t turn (after_turn t turn) is_turn;
      looked = looks t turn (after_turn t turn) is_turn;
    }

pub returns-clause-strong : goal.returns-clause-strong
returns-clause-strong g c = strong_runs _

pub returns-clause-lock_free : goal.returns-clause-lock_free
returns-clause-lock_free g c kind = one_ends _ kind

pub returns-clause-lock_free_by_default : goal.returns-clause-lock_free_by_default
returns-clause-lock_free_by_default g c = robust_one_ends _

pub returns-clause-lock_free_container : goal.returns-clause-lock_free_container
returns-clause-lock_free_container g c = container_one_ends _

pub returns-clause-lock_free_channel : goal.returns-clause-lock_free_channel
returns-clause-lock_free_channel g c = channel_one_ends _

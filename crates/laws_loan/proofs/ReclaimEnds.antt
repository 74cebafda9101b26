-- The end of a reclaim: no index is sent any more, so each is free or with the sender.
use Rattle.laws_loan.proofs.Names.{◌≡◌, ◌≢◌, ℕ, ◌+◌, ◌*◌, ◌-◌, ◌^◌, ◌<◌, ◌≤◌, false, Option, List, [], ◌∷◌, ◌++◌}
use Rattle.laws_loan.proofs.Names.{append-nil, fold, refl, length, Ask, ReclaimStage, place_at, Answer, Number, Event}
use Rattle.laws_loan.proofs.Names.{Passing, spot_of, freed, Open, Ended, span_of, step_count}
use Rattle.laws_loan.proofs.Names.{span_of-own}
use Rattle.std.proofs.Common.{arith}
use Rattle.steps.specs.declared.ask.After.TheVariants.{Done}
use Rattle.steps.specs.declared.loan.places.Place.TheVariants as places
use Rattle.model.specs.declared.event.Start.TheVariants as starts
use Rattle.model.specs.declared.families.loan.LoanStart.TheVariants as calls
use Rattle.laws_loan.proofs.Channel.{Channel}
use Rattle.laws_loan.proofs.Invariant.{Carries}
use Rattle.laws_loan.proofs.Reclaiming.{reclaimed, end_of, receiver_then, none_passing, placed_ended, Reclaims}
use Rattle.laws_loan.proofs.Rests.{KeepsSet}
use Rattle.laws_loan.proofs.Scene.{Scene}
use Rattle.laws_loan.proofs.Sender.{party_then, Steps}
use Rattle.laws_loan.proofs.SentIndices.{IsHome, all_home}
use Rattle.laws_loan.proofs.SenderInterference.{others_dead}
use Rattle.laws_loan.proofs.QueueEvents.{items}
use Rattle.laws_loan.proofs.Turns.{Shows, sends_now}

-- the channel once a reclaim has ended with the number `count`, where the words of the indices are then `set'`
abbrev pub s_end : {T : Type 0} → Channel T → List ℕ → ℕ → Channel T
s_end s set' count = record s { set = set'; claims = s.claims; book = reclaimed s.book; events = s.events ++ end_of (Number count) ∷ [] }

-- the reclaim is at the stage `stage`, whose step leaves the words `set'` of the indices and ends with the number `count` of indices that the
-- reclaim has freed; nothing waits in either queue, and no index is sent
module _ {T : Type 0} {scene : Scene T} {wrote : List (Event T)} {stage : ReclaimStage} (r : Reclaims scene wrote stage) {ask : Option Ask}
    {set' : List ℕ} {count : ℕ} (keeps : KeepsSet scene.slots scene.queue scene.state scene.latest ask set' 0)
    (drained : scene.state.submission.waiting ≡ []) (emptied : scene.state.completion.waiting ≡ [])
    (none : (j : ℕ) → j < scene.slots → place_at scene.state.book.places j ≢ places.Sent) (counted : length (freed wrote) ≡ count)
    (steps : scene.caller.steps + step_count ask ≤ 8 * (scene.slots + 1) + 5 * scene.slots) (small : scene.turns < 2 ^ 64 - 2) where
  open scene use {slots, queue, state as s, latest, turns, caller as x}
  open r use {holds, known}

  abbrev answer : Answer T
  answer = Number count

  abbrev end : Event T
  end = end_of answer

  -- each index is free or with the sender
  home : (i : ℕ) → IsHome (spot_of i s.events)
  home = grind (arith, all_home)

  -- after its end the span of the reclaim is shut, with what it has written
  ended_then : span_of 0 (s.events ++ end ∷ []) ≡ Ended (starts.Loan calls.Reclaim) answer wrote
  ended_then = grind (arith, span_of-own, fold)

  -- the end of the reclaim keeps what holds between two turns
  shows : Shows slots queue s (s_end s set' count) 0 (party_then scene calls.Reclaim ask false (Done answer)) latest turns (end ∷ [])
  shows =
      let placed =
      placed_ended s.events answer home holds.parts.placed
      (let most = holds.receivers.1 in omega arith) in
      let passing : (i q : ℕ) → spot_of i (s.events ++ end ∷ []) ≡ Passing q → Carries i (span_of q (s.events ++ end ∷ [])) =
      λ i q e. none_passing s.events answer home i q e in
      grind (arith, ended_then, receiver_then, sends_now, append-nil, items, home)

  -- the end of the reclaim keeps the invariant
  pub reclaim_ends : Steps scene 0 (s_end s set' count) (Open (starts.Loan calls.Reclaim) wrote)
      calls.Reclaim ask false (Done answer) (end ∷ [])
  reclaim_ends =
      let words = keeps.words in
      let others = others_dead slots queue s (s_end s set' count) known.dead refl (λ index push known. known) in
      grind (arith, shows)

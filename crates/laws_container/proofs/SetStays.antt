-- The steps of the calls of a container that leave its cells and its elements, and may raise the counter:
-- each keeps the invariant, whether its call goes on or ends.
use Rattle.laws_container.proofs.Names.{◌≡◌, ℕ, Bool, List, [], ◌∷◌, refl, arith, Answer, Event, Finished, Container}
use Rattle.laws_container.proofs.Names.{Party, announced_after, Stays, quiet_none}
use Rattle.laws_container.proofs.Names.{quietly, IsWorn}
use Rattle.laws_robust.proofs.Effects as set_effects
use Rattle.laws_container.specs.Gone.{AnswersBy}
use Rattle.laws_container.proofs.Effects.{OwesStill, Turn, calmly, reads_same}
use Rattle.laws_container.proofs.HiddenKnows.{EndsRight}
use Rattle.laws_container.proofs.Invariant.{KeepsInvariant, right_end, before, after, of_set, inv_of_set}
use Rattle.laws_container.proofs.Stages.{Call, does_with}
use Rattle.laws_container.proofs.Turns.{WellFormed}

-- `call` takes a step that leaves all words but the counter, after which its party is `y`
module _ {T : Type 0} (call : Call T) (y : Party T) {words' : List ℕ} (stays : Stays (of_set call.scene) words') where
  open call use {scene, inv, start}
  open call.scene use {capacity as c, party as p, events as events}

  -- a step after which the call goes on keeps the invariant
  pub moves : (WellFormed (after scene words' y []) → WellFormed (before scene))
      → OwesStill scene y → KeepsInvariant scene words' scene.states y []
  moves well_formed still =
      let turn : Turn scene words' y [] = record { inv = inv; well_formed = well_formed } in
      does_with call
      (calmly turn (λ n behind. stays.others n (omega arith)) stays.leaves.wide (reads_same turn (λ i o. refl) (λ i b. refl) (λ i b. refl)) still)
      (quietly (of_set scene) (inv_of_set scene inv) words' [] stays.leaves quiet_none tt tt tt)
      (record { asks = tt; recovers = tt; answers = tt; contains = λ holds. tt; places = λ holds. tt })

  -- a step that ends the call with this answer, which changes nothing of the set or of what is announced, keeps the invariant
  pub ends_there : {answer : Answer T} → set_effects.Quiet (Finished p (Container start) answer ∷ [])
      → ((i : ℕ) (b : Bool) → announced_after i b (Finished p (Container start) answer) ≡ b)
      → AnswersBy scene.terms.by (IsWorn scene.terms.by words') c events (Finished p (Container start) answer)
      → (WellFormed (after scene words' y (Finished p (Container start) answer ∷ [])) → WellFormed (before scene))
      → (WellFormed (after scene words' y (Finished p (Container start) answer ∷ []))
      → EndsRight events (Finished p (Container start) answer))
      → OwesStill scene y
      → KeepsInvariant scene words' scene.states y (Finished p (Container start) answer ∷ [])
  ends_there {answer} quiet says right well_formed placed still =
      let finish : List (Event T) = Finished p (Container start) answer ∷ [] in
      let turn : Turn scene words' y finish = record { inv = inv; well_formed = well_formed } in
      does_with call
      (calmly turn (λ n behind. stays.others n (omega arith)) stays.leaves.wide (reads_same turn (λ i o. refl) says (λ i b. refl)) still)
      (quietly (of_set scene) (inv_of_set scene inv) words' finish stays.leaves quiet (refl, tt) (tt, tt) (tt, tt))
      (right_end scene right placed)

-- From an opening of the model's machine that meets the page's, lists of turns lead to where the two machines meet again.
use Rattle.std.specs.List.{AllByRecursion}
use Rattle.std.proofs.Common.{◌^◌}
use Rattle.model.proofs.Names.{fold, Coding, IsCoding, IsReached, List, map, None, Trace, [], ap, arith, capacity_error, length, opening, refl}
use Rattle.model.proofs.Names.{refusal_of, subst, true, ℕ, ◌+◌, ◌<◌, ◌∙◌, ◌∷◌, ◌≡◌}
use Rattle.model.proofs.Reached.{reached_more, reached_opening, run_keeps}
use Rattle.model.specs.declared.turn.Kind.{Kind}
use Rattle.model.specs.declared.turn.Turn.{Turn}
use Rattle.model.specs.Turns.{run}
use Rattle.pages.specs.BitSetBridge.{AreWithin}
use Rattle.pages.specs.Machine as machine
use Rattle.pages.proofs.Relates.{AllRules, IsWithin, Meets, Pairing, Relation, all_turns, as_turn}

-- with a coding and a capacity that is admitted, any turns of the model lead from an opening to a trace that is reached (`IsReached`)
pub reached_by : {T : Type 0} (code : Coding T) (kind : Kind) (capacity parties : ℕ) (turns : List (Turn T)) → IsCoding code
    → capacity_error kind capacity ≡ None → IsReached (run turns (opening code kind capacity parties))
reached_by code kind capacity parties turns coded admitted =
    run_keeps refusal_of IsReached (λ t turn e r. reached_more t turn e r) turns (opening code kind capacity parties)
    (reached_opening code kind capacity parties coded admitted)

module _ {T Room Call Stage Answer : Type 0} {of : machine.Structure Call Stage Answer} {pairing : Pairing T Room of} {code : Coding T} {kind : Kind}
    {capacity : ℕ} (law : Relation pairing code kind capacity) (parties : ℕ)
  where
    -- if each party that may begin a call is one of the model's, all turns are within its parties (`IsWithin`)
    pub all_within : ((p : ℕ) (call : Call) → of.may p call ≡ true → p < parties) → (turns : List (machine.Turn Call))
        → AllByRecursion (IsWithin law parties) turns
    all_within below [] = tt
    all_within below (machine.Begin p call ∷ turns) = (below p call, all_within below turns)
    all_within below (machine.Next p ∷ turns) = (tt, all_within below turns)

    -- turns in which only the model's parties begin calls are within its parties (`IsWithin`)
    pub are_within : (turns : List (machine.Turn Call)) → AreWithin parties turns → AllByRecursion (IsWithin law parties) turns
    are_within [] within = tt
    are_within (machine.Begin p call ∷ turns) within = ((λ may. within.0), are_within turns within.1)
    are_within (machine.Next p ∷ turns) within = (tt, are_within turns within.1)

    -- if the rule always holds, the callers keep to it in all turns
    pub no_rules : ((w : machine.World Call Stage Answer) (turn : machine.Turn Call) → pairing.Rule w turn) → (turns : List (machine.Turn Call))
        (w : machine.World Call Stage Answer) → AllRules law parties w turns
    no_rules holds [] w = tt
    no_rules holds (turn ∷ turns) w = (holds w turn, no_rules holds turns (machine.turned of w turn))

    -- from openings that meet, fewer than 2^63 turns that are within the parties and keep to the rule lead to where the two machines
    -- meet; `named` gives the model's turn for each turn of the page
    pub meets_after : {opened : Trace T} → Meets law parties (machine.opening of) 0 opened → (named : machine.Turn Call → Turn T)
        → ((turn : machine.Turn Call) → as_turn law parties turn ≡ named turn) → (turns : List (machine.Turn Call))
        → AllByRecursion (IsWithin law parties) turns → AllRules law parties (machine.opening of) turns → length turns < 2 ^ 63
        → Meets law parties (fold (machine.turned of) (machine.opening of) turns) (0 + length turns) (run (map named turns) opened)
    meets_after {opened} opens named same turns within rules small =
        subst (λ ts. Meets law parties (fold (machine.turned of) (machine.opening of) turns) (0 + length turns) (run ts opened)) (same_turns turns)
        (all_turns law parties turns within rules (omega arith) opens)
      where
        same_turns : (turns : List (machine.Turn Call)) → map (as_turn law parties) turns ≡ map named turns
        same_turns [] = refl
        same_turns (turn ∷ turns) = ap (λ x. x ∷ map (as_turn law parties) turns) (same turn) ∙ ap (λ ts. named turn ∷ ts) (same_turns turns)

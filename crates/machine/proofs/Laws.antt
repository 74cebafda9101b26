-- That machines of each kind keep the promises of that kind in every run (one line a kind), and
-- what allowed turns reach.
use Rattle.std.proofs.Common.{◌≡◌, ℕ, ◌+◌, None, List, [], ◌∷◌, ◌++◌, replicate, sym, ap, ◌∙◌, subst}
use Rattle.std.proofs.lemmas.Grind.{replicate_next}
use Rattle.model.specs.declared.turn.Kind.{Kind}
use Rattle.model.specs.declared.turn.Kind.TheVariants.{IndexQueue, Overflow, Queue, Atomic, Bits, Counts, Indices, Robust, Container, Loan}
use Rattle.model.specs.declared.families.queues.QueueKind.TheVariants as queue_kinds
use Rattle.model.specs.declared.turn.Turn.{Turn}
use Rattle.model.specs.Refusals.{refusal_of}
use Rattle.model.specs.Turns.{after_turn, after_turns, AreAllowed, IsReached}
use Rattle.model.specs.World.{Trace}
use Rattle.model.proofs.Orders.{Keeps}
use Rattle.model.proofs.Reached.{reached_more, after_turns_more, AreAllowed-more}
use Rattle.laws_value.proofs.Sound.{value_keeps}
use Rattle.laws_bits.proofs.Bits.Justified.{bits_keep}
use Rattle.laws_bits.proofs.Counts.Justified.{counts_keep}
use Rattle.laws_container.proofs.AllRuns.{container_keeps}
use Rattle.laws_indices.proofs.Sound.{index_keeps}
use Rattle.laws_loan.proofs.Justified.{loan_keeps}
use Rattle.laws_queues.proofs.Queues.Sound.{queue_keeps}
use Rattle.laws_robust.proofs.Justified.{robust_keeps}

-- each kind keeps its promises in every run
pub laws_of : {T : Type 0} (kind : Kind) → Keeps T kind
laws_of IndexQueue = queue_keeps queue_kinds.IndexQueue
laws_of Overflow = queue_keeps queue_kinds.Overflow
laws_of Queue = queue_keeps queue_kinds.Queue
laws_of Atomic = value_keeps
laws_of Bits = bits_keep
laws_of Counts = counts_keep
laws_of Indices = index_keeps
laws_of Robust = robust_keeps
laws_of Container = container_keeps
laws_of Loan = loan_keeps

-- turns that are allowed lead from a reached machine to one
pub reached_all : {T : Type 0} (t : Trace T) (turns : List (Turn T)) → AreAllowed t turns → IsReached t → IsReached (after_turns t turns)
reached_all t [] all reached = reached
reached_all t (turn ∷ turns) all reached = reached_all (after_turn t turn) turns all.1 (reached_more t turn all.0 reached)

-- after n turns that were all this turn and were not refused, the same turn, not refused, makes n + 1 of them
pub once_more : {T : Type 0} (t now new : Trace T) (n : ℕ) (turn : Turn T) → AreAllowed t (replicate n turn) → now ≡ after_turns t (replicate n turn)
    → refusal_of now.world turn ≡ None → new ≡ after_turn now turn
    → AreAllowed t (replicate (n + 1) turn) × (new ≡ after_turns t (replicate (n + 1) turn))
once_more {T} t now new n turn allowed so_far free goes =
    let more : replicate (n + 1) turn ≡ replicate n turn ++ turn ∷ [] = replicate_next n turn in
    let here : refusal_of (after_turns t (replicate n turn)).world turn ≡ None = subst (λ (u : Trace T). refusal_of u.world turn ≡ None) so_far free in (
      subst (AreAllowed t) (sym more) (AreAllowed-more t (replicate n turn) turn allowed here),
      goes ∙ ap (λ u. after_turn u turn) so_far ∙ sym (after_turns_more t (replicate n turn) turn) ∙ ap (after_turns t) (sym more),
    )

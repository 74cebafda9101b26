-- `run_index_set` (src/lib.rt): its call of `no_two_hold` meets what that requires.
use Rattle.std.proofs.Common.{◌≡◌, List, [], ◌∷◌, take, ap, ◌∙◌}
use Rattle.model.specs.declared.turn.Turn.{Turn}
use Rattle.model.specs.Turns.{after_turn, after_turns}
use Rattle.model.specs.World.{Trace}
use Rattle.model.proofs.Reached.{turn_making}
use Rattle.headline_whole.proofs.run_index_set.Goals as goal

-- Turns keep the kind of a machine.
keeps_kind : {T : Type 0} (turns : List (Turn T)) (old new : Trace T) → new ≡ after_turns old turns → new.world.kind ≡ old.world.kind
keeps_kind [] old new is_run = ap (λ t. t.world.kind) is_run
keeps_kind (turn ∷ turns) old new is_run = keeps_kind turns (after_turn old turn) new is_run ∙ (turn_making old.world turn).kind

-- The machine that has run is of the kind that `no_two_hold` asks for, since turns keep the kind.
pub no_two_hold-requires : goal.no_two_hold-requires
no_two_hold-requires g c =
    keeps_kind {T = g.row.T.Denot} (take c.run.result c.args.turns.now) _ _ c.run.ensures.taken
    ∙ ap (λ (t : Trace g.row.T.Denot). t.world.kind) c.in_ok-machine.ensures.ok

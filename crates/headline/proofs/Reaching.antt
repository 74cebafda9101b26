-- Every list of turns reaches a machine, from the opening with this number.
use Rattle.std.proofs.Common.{◌≡◌, ℕ, None, List, refl, ◌∙◌}
use Rattle.model.specs.declared.turn.Kind.{Kind}
use Rattle.model.specs.declared.turn.Turn.{Turn}
use Rattle.model.specs.Coding.{Coding, IsCoding}
use Rattle.model.specs.Refusals.{refusal_of}
use Rattle.model.specs.Turns.{IsReached, after_turn, run}
use Rattle.model.specs.World.{World, Trace, opened, capacity_error, queue_error}
use Rattle.model.proofs.Reached.{SameMaking, run_keeps, turn_making}

module _ {T : Type 0} where
  -- reached, with a submission queue of this capacity
  pub record IsReachedWith (queue : ℕ) (t : Trace T) : Type 0 where
    pub reached : IsReached t
    pub is : reached.queue ≡ queue

  -- a world that was made as a second, which was made as a third, was made as the third
  still : (v old new : World T) → SameMaking v old → SameMaking old new → SameMaking v new
  still v old new making_before making_now =
      record {
        coding = making_now.coding ∙ making_before.coding;
        kind = making_now.kind ∙ making_before.kind;
        capacity = making_now.capacity ∙ making_before.capacity;
        parties = making_now.parties ∙ making_before.parties;
      }

  -- Turns keep what a machine was made with: its coding, kind, capacity and number of parties.
  goes_on : (v : World T) (turns : List (Turn T)) (t : Trace T) → SameMaking v t.world → SameMaking v (run turns t).world
  goes_on v =
      run_keeps refusal_of (λ t. SameMaking v t.world)
      (λ t turn e m. still v t.world (after_turn t turn).world m (turn_making t.world turn))

  -- Turns from two openings that were made with equal numbers lead to the same machine.
  same_opening : (turns : List (Turn T)) (code code' : Coding T) (kind kind' : Kind) (capacity capacity' queue parties parties' : ℕ)
      → code' ≡ code → kind' ≡ kind → capacity' ≡ capacity → parties' ≡ parties
      → run turns (opened code kind capacity queue parties) ≡ run turns (opened code' kind' capacity' queue parties')
  same_opening turns code code' kind kind' capacity capacity' queue parties parties' same_code same_kind c d = rw (same_code, same_kind, c, d) refl

  -- each list of turns reaches a machine, at an admitted capacity and with an admitted submission queue
  pub reaches : (code : Coding T) (kind : Kind) (capacity queue parties : ℕ) (turns : List (Turn T)) → IsCoding code
      → capacity_error kind capacity ≡ None → queue_error kind queue ≡ None
      → IsReachedWith queue (run turns (opened code kind capacity queue parties))
  reaches code kind capacity queue parties turns coded admitted queued =
      let first = opened code kind capacity queue parties in
      let m = goes_on first.world turns first (record { coding = refl; kind = refl; capacity = refl; parties = refl }) in
      record {
        reached =
            record {
              coded = rw m.coding coded;
              admitted = rw (m.kind, m.capacity) admitted;
              queue = queue;
              queued = rw m.kind queued;
              turns = turns;
              is = same_opening turns code _ kind _ capacity _ queue parties _ m.coding m.kind m.capacity m.parties;
            };
        is = refl;
      }

-- What the lemmas on a turn share: the channel before it, and the party whose call takes the step.
use Rattle.laws_loan.proofs.Names.{◌≡◌, ◌≢◌, ℕ, ◌-◌, ◌^◌, ◌<◌, false, List, [], LoanStart, Party, Coding, has_died, Open, span_of, Trace}
use Rattle.model.specs.declared.event.Start.TheVariants as starts
use Rattle.model.proofs.Frame as frame
use Rattle.laws_loan.proofs.Channel.{Channel}
use Rattle.laws_loan.proofs.Invariant.{HoldsNow, family}

-- a channel between two turns, and a party that has a call under way
pub record Scene (T : Type 0) : Type 0 where
  pub coding : Coding T
  pub slots : ℕ  -- the number of indices
  pub queue : ℕ  -- the capacity of the submission queue
  pub state : Channel T
  pub latest : List (ℕ × Party T)  -- each party with its latest call
  pub turns : ℕ  -- taken before
  pub changes : ℕ  -- how often words have changed before
  pub since : ℕ  -- how often they had when the call began
  pub caller : Party T

-- what holds of the channel before the turn
abbrev pub HoldsIn : {T : Type 0} → Scene T → Type 0
HoldsIn scene = HoldsNow scene.slots scene.queue scene.state scene.latest scene.state.events scene.turns

-- the sender has a call under way that has not turned back
pub record SenderCalls {T : Type 0} (scene : Scene T) : Type 0 where
  -- the invariant before the step, with positions far from their ends
  pub holds : HoldsIn scene
  pub small : scene.turns < 2 ^ 64 - 2
  pub straight : scene.caller.backs ≡ 0

-- the receiver `p`, which is alive, has a call under way that has written nothing
pub record ReceiverCalls {T : Type 0} (scene : Scene T) (p : ℕ) (start : LoanStart) : Type 0 where
  -- the invariant before the step, with positions far from their ends
  pub holds : HoldsIn scene
  pub small : scene.turns < 2 ^ 64 - 2
  -- the party is the receiver, which is alive and not the sender
  pub other : p ≢ 0
  pub alive : has_died p scene.state.book.dead ≡ false
  pub receives : p ≡ scene.state.book.receiver
  -- its call has written nothing
  pub from : span_of p scene.state.events ≡ Open (starts.Loan start) []

-- a machine of a loan channel that has the invariant, whose positions are far from their ends, and a party
-- that has a call under way
pub record Underway (T : Type 0) : Type 0 where
  pub coding : Coding T
  pub slots : ℕ
  pub queue : ℕ
  -- the run so far, after which the invariant holds
  pub trace : Trace T
  pub sound : frame.Sound (family coding slots queue) trace
  pub small : trace.world.turns < 2 ^ 64 - 2
  -- the party, as the machine has it
  pub caller : Party T
  pub since : ℕ  -- how often words had changed when the call began

-- the scene of a call under way: the channel of the machine, and the party of the call
abbrev pub scene_of : {T : Type 0} → Underway T → Scene T
scene_of m =
    record {
      coding = m.coding;
      slots = m.slots;
      queue = m.queue;
      state = m.sound.state;
      latest = m.trace.world.latest;
      turns = m.trace.world.turns;
      changes = m.trace.world.changes;
      since = m.since;
      caller = m.caller;
    }

-- The opening of a loan channel's machine has the invariant, at any number of slots and any capacity of its
-- submission queue that are admitted.
use Rattle.laws_loan.proofs.Names.{◌≡◌, ℕ, ◌^◌, ◌<◌, ◌≤◌, None, [], refl, locked, Coding, Free, Passing, opened}
use Rattle.laws_loan.proofs.Names.{capacity_error, queue_error, Each-nil}
use Rattle.std.proofs.Common.{arith}
use Rattle.model.specs.declared.turn.Kind.TheVariants as kinds
use Rattle.model.proofs.Frame as frame
use Rattle.laws_loan.proofs.Channel as channels
use Rattle.laws_loan.proofs.Channel.{opening_fits, opening_holds}
use Rattle.laws_loan.proofs.Invariant.{HoldsNow, family}
use Rattle.laws_loan.proofs.QueueEvents.{Told}

-- ---- the numbers that are admitted

-- an admitted capacity is from 1 to below that of a locked head
pub slots_are : (c : ℕ) → capacity_error kinds.Loan c ≡ None → (1 ≤ c) × (c < locked)
slots_are = grind arith

-- an admitted capacity of the queue is from 1 to below 2 ^ 32
pub queue_is : (c : ℕ) → queue_error kinds.Loan c ≡ None → (1 ≤ c) × (c < 2 ^ 32)
queue_is = grind arith

-- ---- the opening

module _ {T : Type 0} where
  -- at the opening the events tell of two empty queues
  told_nothing : (queue : ℕ) → Told {T = T} queue [] [] []
  told_nothing = grind arith

  module _ (slots queue : ℕ) (some : 1 ≤ slots) (few : slots < locked) (room : 1 ≤ queue) (fits : queue < 2 ^ 32) where
    -- what holds between two turns holds at the opening
    holds_now : HoldsNow {T = T} slots queue (channels.opened slots queue) [] [] 0
    holds_now =
        record {
          same = refl;
          parts = opening_holds slots queue some few room fits;
          told = told_nothing queue;
          hangs = omega arith;
          reclaiming = refl;
          sent = omega arith;
          given = omega arith;
          receivers = (omega arith, omega arith);
          moves = Each-nil _;
          begins = Each-nil _;
          answers = Each-nil _;
          passing = λ index p e. let never : Free ≡ Passing p = e in absurd (cc);
        }

    -- the machine opens with the invariant
    pub opening_sound : (code : Coding T) (parties : ℕ) → frame.Sound (family code slots queue) (opened code kinds.Loan slots queue parties)
    opening_sound code parties =
        record {
          coding = refl;
          kind = refl;
          capacity = refl;
          state = channels.opened slots queue;
          fit = opening_fits T slots queue;
          holds = holds_now;
          inv = record { spans = Each-nil _; calls = λ p. refl; knows = λ p. tt };
        }

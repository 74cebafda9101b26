-- The three calls that end with a release: a give-up, a send that has taken an index out, and a take-back.
use Rattle.laws_loan.proofs.Names.{ℕ, [], ◌∷◌, ReleaseStage, PoppedIndex, Published, HandedOut, TakenBack, Acted}
use Rattle.laws_loan.proofs.Names.{Index, LoanFlight, Send, GiveUp, TakeBack}
use Rattle.std.proofs.Common.{arith}
use Rattle.steps.specs.declared.loan.send.SendStage.TheVariants as sends
use Rattle.steps.specs.declared.loan.take_back.TakeBackStage.TheVariants as take_backs
use Rattle.model.specs.declared.event.Answer.TheVariants.{Done}
use Rattle.model.specs.declared.families.loan.LoanStart.TheVariants as calls
use Rattle.laws_loan.proofs.Knows.{send_of}
use Rattle.laws_loan.proofs.Releasing.{Releasing, ReleasesLast}

module _ (slots queue : ℕ) where
  -- a give-up at a stage of its release
  abbrev pub give_up_at : ℕ → ReleaseStage → LoanFlight
  give_up_at index stage =
      GiveUp (record { call = record { capacity = slots; stage = stage; of = record {} }; given = index; room = tt })

  -- a send at a stage of the release of the oldest index
  abbrev pub send_frees_at : ℕ → ℕ → ReleaseStage → LoanFlight
  send_frees_at own oldest stage =
      Send (record { call = record { slots = slots; queue = queue; stage = sends.Releases oldest stage }; given = own; room = tt })

  -- a take-back at a stage of the release of its index
  abbrev pub take_back_frees_at : ℕ → ReleaseStage → LoanFlight
  take_back_frees_at index stage =
      TakeBack (record { call = record { slots = slots; queue = queue; stage = take_backs.Releases index stage }; given = tt; room = tt })

module _ (T : Type 0) (slots queue : ℕ) where
  -- a give-up has what `Releasing` asks of a call that ends with a release
  pub gives_up_so : (index : ℕ) → ReleasesLast T slots queue index (calls.GiveUp index) (give_up_at slots queue index) [] Done 0
  gives_up_so = grind arith

  -- a give-up as the release of its index
  abbrev pub gives_up : (index : ℕ) → Releasing T slots queue index
  gives_up index =
      record {
        start = calls.GiveUp index;
        at = give_up_at slots queue index;
        before = [];
        answer = Done;
        base = 0;
        so = gives_up_so index;
      }

  -- a send has what `Releasing` asks of a call that ends with a release
  pub sends_back_so : (own oldest : ℕ)
      → ReleasesLast T slots queue oldest (calls.Send own) (send_frees_at slots queue own oldest)
      (Published 0 (Index own) ∷ HandedOut 0 (Index oldest) ∷ Acted 0 (send_of own) (PoppedIndex oldest) ∷ [])
      (PoppedIndex oldest) 6
  sends_back_so = grind arith

  -- a send as the release of the index that it took out, after what it has written
  abbrev pub sends_back : (own oldest : ℕ) → Releasing T slots queue oldest
  sends_back own oldest =
      record {
        start = calls.Send own;
        at = send_frees_at slots queue own oldest;
        before = Published 0 (Index own) ∷ HandedOut 0 (Index oldest) ∷ Acted 0 (send_of own) (PoppedIndex oldest) ∷ [];
        answer = PoppedIndex oldest;
        base = 6;
        so = sends_back_so own oldest;
      }

  -- a take-back has what `Releasing` asks of a call that ends with a release
  pub takes_back_so : (index : ℕ)
      → ReleasesLast T slots queue index calls.TakeBack (take_back_frees_at slots queue index) (TakenBack 0 index ∷ [])
      (PoppedIndex index) 4
  takes_back_so = grind arith

  -- a take-back as the release of the index that it took out
  abbrev pub takes_back : (index : ℕ) → Releasing T slots queue index
  takes_back index =
      record {
        start = calls.TakeBack;
        at = take_back_frees_at slots queue index;
        before = TakenBack 0 index ∷ [];
        answer = PoppedIndex index;
        base = 4;
        so = takes_back_so index;
      }

-- The calls of the loan channel, as a schedule names them and as they print.
use Rattle.std.specs.Prelude.{ℕ, ◌-◌, ◌^◌, List, ◌++◌, Option, Some, None, Result, Ok, Err, if◌then◌else◌, bytes_eq, codes, decimal}
use Rattle.model.specs.declared.event.Start.{Start}
use Rattle.model.specs.declared.event.Start.TheVariants as starts
use Rattle.model.specs.declared.families.loan.LoanStart.{LoanStart}
use Rattle.model.specs.declared.families.loan.LoanStart.TheVariants.{Loan, Send, GiveUp, TakeBack, Receive, GiveBack, Reclaim}
use Rattle.texts.specs.declared.error.Cause.{Cause}
use Rattle.texts.specs.declared.error.Cause.TheVariants.{UnknownCall}
use Rattle.texts.specs.Reading.{◌>>=◌, number_at}

-- ---- how they are read

-- a send, by the index that these words begin with, and the words that are left
unfoldable pub send : List (List ℕ) → Result (LoanStart × List (List ℕ)) Cause
send ws = do
  index ← number_at (2 ^ 64 - 1) ws
  Ok (Send index.0, index.1)

-- a give-up, by the index that these words begin with, and the words that are left
unfoldable pub give_up : List (List ℕ) → Result (LoanStart × List (List ℕ)) Cause
give_up ws = do
  index ← number_at (2 ^ 64 - 1) ws
  Ok (GiveUp index.0, index.1)

-- a give-back, by the index that these words begin with, and the words that are left
unfoldable pub give_back : List (List ℕ) → Result (LoanStart × List (List ℕ)) Cause
give_back ws = do
  index ← number_at (2 ^ 64 - 1) ws
  Ok (GiveBack index.0, index.1)

-- the call with this name that has no argument, if there is one
abbrev pub bare_call : List ℕ → Option LoanStart
bare_call name =
    if bytes_eq name (codes "loan") then Some Loan
    else if bytes_eq name (codes "take_back") then Some TakeBack
    else if bytes_eq name (codes "receive") then Some Receive
    else if bytes_eq name (codes "reclaim") then Some Reclaim
    else None

-- The call of the loan channel with this name, as a call of its family, and the words that are left. Any
-- other name is unknown.
unfoldable pub any_loan_call : List ℕ → List (List ℕ) → Result (LoanStart × List (List ℕ)) Cause
any_loan_call name ws =
    if bytes_eq name (codes "send") then send ws
    else if bytes_eq name (codes "give_up") then give_up ws
    else if bytes_eq name (codes "give_back") then give_back ws
    else elim (bare_call name) [ Some start ↦ Ok (start, ws) | None ↦ Err UnknownCall ]

-- the call of the loan channel with this name, as a call of any structure, and the words that are left
unfoldable pub loan_call : List ℕ → List (List ℕ) → Result (Start ℕ × List (List ℕ)) Cause
loan_call name ws = do
  call ← any_loan_call name ws
  Ok (starts.Loan call.0, call.1)

-- ---- how they print

-- a call, as a schedule names it
abbrev pub call_text : LoanStart → List ℕ
call_text Loan = codes "loan"
call_text (Send index) = codes "send " ++ decimal index
call_text (GiveUp index) = codes "give_up " ++ decimal index
call_text TakeBack = codes "take_back"
call_text Receive = codes "receive"
call_text (GiveBack index) = codes "give_back " ++ decimal index
call_text Reclaim = codes "reclaim"

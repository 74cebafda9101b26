-- How many steps a call of a loan channel takes.
use Rattle.std.specs.Prelude.{ℕ, ◌+◌, ◌*◌, max}
use Rattle.model.specs.declared.families.loan.LoanStart.{LoanStart}
use Rattle.model.specs.declared.families.loan.LoanStart.TheVariants.{Loan, Send, GiveUp, TakeBack, Receive, GiveBack, Reclaim}

-- How many steps a call takes at most, by how often it has turned back to the start of a loop (`backs`).
-- A reclaim finds at most as many indices in each queue as there are slots, and releases no more.
abbrev pub most_steps : ℕ → LoanStart → ℕ → ℕ
most_steps slots Loan backs = 4 + slots + backs * max 2 slots
most_steps slots (Send index) backs = 11
most_steps slots (GiveUp index) backs = 5
most_steps slots TakeBack backs = 9
most_steps slots Receive backs = 4 + backs * 2
most_steps slots (GiveBack index) backs = 4
most_steps slots Reclaim backs = 8 * (slots + 1) + 5 * slots + backs * 2

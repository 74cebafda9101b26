-- `Listener::next` (src/news.rt): its return meets the clauses `topic`, `cleared` and `none`.
use Rattle.std.proofs.Common.{◌≡◌, ◌<◌, ℕ, Option, Some, None, IfSome, IfNone}
use Rattle.history.specs.declared.view.View.{View}
use Rattle.lock_free_sets.specs.Bits.Contracts.{AllClearOnce, HasReset, ResetDone, ResetNothing}
use Rattle.zero_copy_bus.proofs.news.Listener.next.Goals as goal

-- what the flags' call says, of any answer
said : (capacity : ℕ) (v w : View ℕ) (answer : Option ℕ) → IfSome answer (λ place. ResetDone capacity place v w)
    → IfNone answer (ResetNothing capacity v w)
    → IfSome answer (λ place. place < capacity) × HasReset answer v w × (answer ≡ None → AllClearOnce capacity w)
said capacity v w (Some place) done nothing = (done.place, done.cleared, λ none. absurd (cc))
said capacity v w None done nothing = (tt, nothing.cleared, λ none. nothing.clear)

pub returns-clause-topic : goal.returns-clause-topic
returns-clause-topic g c = let told = c.reset_next.ensures in (said _ _ _ c.reset_next.result told.cleared told.clear).0

pub returns-clause-cleared : goal.returns-clause-cleared
returns-clause-cleared g c = let told = c.reset_next.ensures in (said _ _ _ c.reset_next.result told.cleared told.clear).1

pub returns-clause-none : goal.returns-clause-none
returns-clause-none g c = let told = c.reset_next.ensures in (said _ _ _ c.reset_next.result told.cleared told.clear).2

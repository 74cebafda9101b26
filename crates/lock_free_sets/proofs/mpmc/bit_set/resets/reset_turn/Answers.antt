-- `reset_turn` (src/mpmc/bit_set/resets.rt): its call of `pass_clear` meets the requirement `at`, and its return meets the clause `goes`.
use Rattle.lock_free_sets.proofs.Names.{sym, subst, seen}
use Rattle.lock_free_sets.specs.Bits.Resetting.{ResetGoes}
use Rattle.lock_free_sets.proofs.mpmc.bit_set.resets.reset_turn.Goals as goal

-- where the reset stood at the load of a word, its steps over clear places lead on as clause `goes` says
pub returns-in-LoadsElement-clause-goes : goal.returns-in-LoadsElement-clause-goes
returns-in-LoadsElement-clause-goes c =
    subst (λ stage. ResetGoes (seen c.args.seat.now) (record { capacity = c.args.call.capacity; stage = stage })
    c.pass_clear.result (seen c.pass_clear.new.seat)) (sym c.in-LoadsElement.is) c.pass_clear.ensures.goes

-- How many steps a call of the single value takes.
use Rattle.std.specs.Prelude.{ℕ, ◌+◌, ◌*◌}
use Rattle.model.specs.declared.families.atomic.AtomicStart.{AtomicStart}
use Rattle.model.specs.declared.families.atomic.AtomicStart.TheVariants.{AcquireProducer, ReleaseProducer, Store, Load, HasProducer, Version}

-- How many steps a call takes at most, by the number of words of a value (`size`) and by how often the
-- call has turned back to the start of a loop (`backs`).
abbrev pub most_steps : {T : Type 0} → ℕ → AtomicStart T → ℕ → ℕ
most_steps size AcquireProducer backs = 1
most_steps size ReleaseProducer backs = 1
most_steps size (Store value) backs = 2 + size
most_steps size Load backs = 2 + size + backs * (1 + size)
most_steps size HasProducer backs = 1
most_steps size Version backs = 1

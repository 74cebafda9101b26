-- The outcome of a job of the service, by its number.
use Rattle.std.specs.Prelude.{ℕ, ◌+◌, ◌*◌}

-- the number that a worker answers for this job
abbrev pub outcome_of : ℕ → ℕ
outcome_of job = 3 * job + 1

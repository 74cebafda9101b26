-- The calls on roles. `.._want` says what a call asks for, and `.._after` that the answer ends it (`Done`).
use Rattle.std.specs.Prelude.{ℕ, Bool, ◌==◌, not}
use Rattle.steps.specs.declared.ask.Op.TheVariants.{Load, Store, Exchange}
use Rattle.steps.specs.declared.ask.Want.{Want}
use Rattle.steps.specs.declared.ask.Want.TheVariants as wants
use Rattle.steps.specs.declared.ask.After.{After}
use Rattle.steps.specs.declared.ask.After.TheVariants.{Done}
use Rattle.steps.specs.declared.queues.roles.AcquireRole.{AcquireRole}
use Rattle.steps.specs.declared.queues.roles.ReleaseRole.{ReleaseRole}
use Rattle.steps.specs.declared.queues.roles.LookRole.{LookRole}

-- an acquire exchanges the word of the role from 1, where the role is free, to 0, where it is taken
abbrev pub acquire_want : AcquireRole → Want (Unit {0})
acquire_want call = wants.Ask (record { word = call.word; op = Exchange 1 0 })

-- an acquire has got the role where the word was 1
abbrev pub acquire_after : AcquireRole → ℕ → After AcquireRole Bool
acquire_after call old = Done (old == 1)

-- a release stores 1, which says that the role is free
abbrev pub release_want : ReleaseRole → Want (Unit {0})
release_want call = wants.Ask (record { word = call.word; op = Store 1 })

-- a release ends with its one step
abbrev pub release_after : ReleaseRole → ℕ → After ReleaseRole (Unit {0})
release_after call old = Done tt

-- a look loads the word of the role
abbrev pub look_want : LookRole → Want (Unit {0})
look_want call = wants.Ask (record { word = call.word; op = Load })

-- somebody has the role where the word is not 1
abbrev pub look_after : LookRole → ℕ → After LookRole Bool
look_after call old = Done (not (old == 1))

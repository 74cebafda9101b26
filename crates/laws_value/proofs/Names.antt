-- The names of the standard library and of the crates below that proofs here use.
pub use Rattle.model.proofs.Family.{Inv, Scene, inv_of, scene_of}
pub use Rattle.model.proofs.Names.{After, Ask, Coding, GoOn, IsCoding, ask_of, change_of, nat_tests, old_of}
pub use Rattle.model.specs.Families.Atomic.Calls.{after, goes_back, want}
pub use Rattle.model.specs.declared.event.Answer.{Answer}
pub use Rattle.model.specs.declared.event.Event.{Event}
pub use Rattle.model.specs.declared.event.Start.{Start}
pub use Rattle.model.specs.declared.event.Start.TheVariants.{Atomic}
pub use Rattle.model.specs.declared.families.Flight.{Flight}
pub use Rattle.model.specs.declared.families.atomic.AtomicStart.{AtomicStart}
pub use Rattle.model.specs.declared.families.atomic.calls.AtomicFlight.{AtomicFlight}
pub use Rattle.model.specs.declared.party.Party.{Party}
pub use Rattle.model.specs.declared.turn.Turn.TheVariants.{Next}
pub use Rattle.steps.specs.Atomic.{before_version, cell_word}
pub use Rattle.steps.specs.Queues.Ring.{word_at}
pub use Rattle.steps.specs.declared.ask.After.TheVariants.{Done}
pub use Rattle.steps.specs.declared.atomic.LoadStage.{LoadStage}
pub use Rattle.steps.specs.declared.atomic.StoreStage.{StoreStage}

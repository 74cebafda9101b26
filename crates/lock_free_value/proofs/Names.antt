-- The names of the standard library and of the crates below that proofs here use.
pub use Rattle.atomic_table.specs.Seated.{TableId}
pub use Rattle.history.proofs.PassLooks.{owes_look}
pub use Rattle.history.specs.History.{IsBeginning, IsHistory, IsMachine}
pub use Rattle.history_value.specs.Value.{HasProducer, IsLast, gives_producer, last_or, stores_value, takes_producer}
pub use Rattle.history.specs.Views.{Looks, LooksOnce}
pub use Rattle.history.specs.declared.view.View.{View}
pub use Rattle.laws_value.specs.Stored.{stored, stores}
pub use Rattle.model.specs.Coding.{Coding, IsCoding, coding_by}
pub use Rattle.model.specs.Families.Atomic.Roles.{GrantsRight}
pub use Rattle.model.specs.declared.event.Answer.TheVariants.{Done, Loaded, Truth}
pub use Rattle.model.specs.declared.event.Event.{Event}
pub use Rattle.model.specs.declared.event.Event.TheVariants.{Acted, Begun, Finished}
pub use Rattle.model.specs.declared.event.Start.TheVariants.{Atomic}
pub use Rattle.std.proofs.lemmas.Bool.Decides.{nat_tests}
pub use Rattle.std.proofs.lemmas.List.Concat.{flat_map-append}
pub use Rattle.std.proofs.lemmas.List.Sums.{sum_by-append}
pub use Rattle.steps.specs.Atomic.{at_load, first_load}
pub use Rattle.steps.specs.declared.ask.After.{After}
pub use Rattle.steps.specs.declared.ask.Op.TheVariants.{Load}
pub use Rattle.threaded.specs.Driver.{OwesAsk}
pub use Rattle.threaded.specs.Shares.{IsAll}

-- The names of the standard library and of the crates below that proofs here use.
pub use Rattle.model.proofs.Family.{Inv, Scene}
pub use Rattle.model.proofs.Names.{After, Ask, Coding, Default, GoOn, LockIfLastIndex, Trace, cases_eq, cases_lt}
pub use Rattle.model.proofs.Names.{doing_of, flight_of, fold-append, nat_tests, party_of, set-get_or, words_after}
pub use Rattle.model.specs.Families.Indices.Promises.{CountsRight, GoesStraight}
pub use Rattle.model.specs.Parties.{put}
pub use Rattle.model.specs.declared.event.Answer.{Answer}
pub use Rattle.model.specs.declared.event.Answer.TheVariants.{Index, NoIndex, State}
pub use Rattle.model.specs.declared.event.Event.{Event}
pub use Rattle.model.specs.declared.event.Event.TheVariants.{Finished, Freed}
pub use Rattle.model.specs.declared.event.Start.{Start}
pub use Rattle.model.specs.declared.event.Start.TheVariants.{Indices}
pub use Rattle.model.specs.declared.families.Flight.{Flight}
pub use Rattle.model.specs.declared.families.indices.IndexStart.{IndexStart}
pub use Rattle.model.specs.declared.families.indices.calls.IndexFlight.{IndexFlight}
pub use Rattle.model.specs.declared.party.Party.{Party}
pub use Rattle.steps.specs.Indices.Head.{borrowed, flag, flag_word, has_flag, locked, next_word, proposed, says_locked}
pub use Rattle.steps.specs.declared.ask.After.TheVariants.{Done}
pub use Rattle.steps.specs.declared.indices.unique.AcquireStage.{AcquireStage}
pub use Rattle.steps.specs.declared.indices.unique.ReleaseStage.{ReleaseStage}

-- The names of the standard library and of the crates below that proofs here use.
pub use Rattle.model.proofs.Moments.{begins_none_more, held_later, held_now, others_begin_none}
pub use Rattle.model.proofs.Names.{After, AllByRecursion, Ask, Asks, BeginsNone, Bool, Coding, Default, Each, Frees}
pub use Rattle.model.proofs.Names.{GoOn, HeldSometime, HeldThroughout, IsCount, IsEffectOf, IsFilled, IsFilledWith}
pub use Rattle.model.proofs.Names.{IsOneOf, IsParty, IsReached, List, Lock, LockIfLastIndex, None, Open, Option, Raise}
pub use Rattle.model.proofs.Names.{ReleaseMode, ReleaseState, SetAct, SetDoes, SinceBegin, Some, Span, Stands, Trace}
pub use Rattle.model.proofs.Names.{World, Yes, [], after_answer, after_begin, after_decision, after_next, after_turn}
pub use Rattle.model.proofs.Names.{answer_in, ap, append-nil, append_assoc, append_cancel_left, arith, as_call}
pub use Rattle.model.proofs.Names.{as_it_is, ask_of, ask_of_doing, beside_of, call_refusal, capacity_error, cases_eq}
pub use Rattle.model.proofs.Names.{cases_lt, change_of, count_below, dead_with, doing_of, empty, ending_of, eq-eqb}
pub use Rattle.model.proofs.Names.{events_of, events_of_answer, events_of_decision, events_of_next, events_of_step}
pub use Rattle.model.proofs.Names.{false, filled_after, filled_of, first_of, first_row, flat_map-append, flight_in}
pub use Rattle.model.proofs.Names.{flight_of, fold, fold-append, get_or, get_or-set_other, goes_of, going_rows}
pub use Rattle.model.proofs.Names.{has_died, if◌then◌else◌, inl, inr, is_due, is_none, is_question, is_some}
pub use Rattle.model.proofs.Names.{kept_after_begin, kept_after_death, length, length-replicate, lock_after}
pub use Rattle.model.proofs.Names.{lock_goes_back, lock_want, nat_lt, nat_tests, ne_eqb, not, number_of, old_of, one_if}
pub use Rattle.model.proofs.Names.{one_more, opening, option_map, own_after, party_after, party_at_begin, party_of}
pub use Rattle.model.proofs.Names.{raise_after, raise_want, refl, refusal_of, replicate, set, set-get_or, set_acts}
pub use Rattle.model.proofs.Names.{set_acts_of, span_of, step_count, step_in, step_of, subst, suc, sym}
pub use Rattle.model.proofs.Names.{true, want_of, went_on, words_after, world_after, wrote_in, zero, ℕ, ⊎_elim, ◌&&◌}
pub use Rattle.model.proofs.Names.{◌*◌, ◌++◌, ◌+◌, ◌-◌, ◌<◌, ◌==◌, ◌^◌, ◌||◌, ◌∙◌, ◌∷◌, ◌≡◌, ◌≢◌, ◌≤◌, ◌⊎◌}
pub use Rattle.model.proofs.Readings.{AllFollow, AreOwn, AreRight, Each-append, Each-less, Each-nil, Earlier, Last, SplitAt}
pub use Rattle.model.proofs.Readings.{no_more, span_of-death, span_of-other, span_of-own, split_last}
pub use Rattle.model.proofs.Rows.{MayBegin, MayDie, must_be_due, passes, row_passed}
pub use Rattle.model.proofs.Scenes.{ComesFrom, StandsThere, stands_there}
pub use Rattle.model.specs.Families.Container.Reading.{NoneTakes}
pub use Rattle.model.specs.Families.Indices.Reading.{is_locked, locked_after}
pub use Rattle.model.specs.Families.Indices.Robust.Bounds.{most_steps}
pub use Rattle.model.specs.Families.Indices.Robust.Calls.{acquire_answer, after, first, goes_back, release_answer, want}
pub use Rattle.model.specs.Families.Indices.Robust.Dead.{acts_for_dead, frees_living}
pub use Rattle.model.specs.Families.Indices.Robust.Opening.{call_rows, is_owner, names_owner, opening_words}
pub use Rattle.model.specs.Families.Indices.Robust.Promises.{AnswersRight, AsksRight, FilledSinceFreed, FindsAll}
pub use Rattle.model.specs.Families.Indices.Robust.Promises.{FindsUpTo, FreesRight, HoldsRight, IsIn, IsRobustSet}
pub use Rattle.model.specs.Families.Indices.Robust.Promises.{IsStopped, IsTold, IsUnlocked, IsWellFormed, KeepsDead}
pub use Rattle.model.specs.Families.Indices.Robust.Promises.{LivesToRelease, StillToFree, TellsOnce, ToldRight}
pub use Rattle.model.specs.Families.Indices.Robust.Promises.{YesTells, cell_of, owned_by, promise}
pub use Rattle.model.specs.Families.Indices.Robust.Reading.{Fills, Grants, IsLatest, Locks, asked_in, dead_after}
pub use Rattle.model.specs.Families.Indices.Robust.Reading.{holder_after, holder_of, index_asked, is_dead, set_act}
pub use Rattle.model.specs.Families.Indices.Robust.Reading.{settled_after, settled_of}
pub use Rattle.model.specs.Families.Indices.Robust.Spans.{FilledLate, HasDone, HasJustFreed}
pub use Rattle.model.specs.Families.Indices.Robust.Steps.{acquire_effects, effects, freed, granted, locked_by}
pub use Rattle.model.specs.Families.Indices.Robust.Steps.{release_effects}
pub use Rattle.model.specs.Parties.{put}
pub use Rattle.model.specs.declared.event.Answer.{Answer}
pub use Rattle.model.specs.declared.event.Answer.TheVariants.{Index, NoIndex, NotOwned, Number, State}
pub use Rattle.model.specs.declared.event.Event.{Event}
pub use Rattle.model.specs.declared.event.Event.TheVariants.{Asked, Begun, Died, Filled, Finished, FreedOf, Granted}
pub use Rattle.model.specs.declared.event.Event.TheVariants.{Locked, Told}
pub use Rattle.model.specs.declared.event.Start.{Start}
pub use Rattle.model.specs.declared.event.Start.TheVariants.{Container, Robust}
pub use Rattle.model.specs.declared.families.Flight.{Flight}
pub use Rattle.model.specs.declared.families.Registry.{Registry}
pub use Rattle.model.specs.declared.families.indices.robust.RobustStart.{RobustStart}
pub use Rattle.model.specs.declared.families.indices.robust.calls.RobustFlight.{RobustFlight}
pub use Rattle.model.specs.declared.party.Doing.{Doing}
pub use Rattle.model.specs.declared.party.Doing.TheVariants.{Going, Over}
pub use Rattle.model.specs.declared.party.Party.{Party}
pub use Rattle.model.specs.declared.turn.Refusal.TheVariants.{BadIndex, Idle, OwnerIsDead, Undecided}
pub use Rattle.model.specs.declared.turn.Turn.{Turn}
pub use Rattle.model.specs.declared.turn.Turn.TheVariants.{Begin, Decide, Die, Next}
pub use Rattle.std.proofs.Common.{get_or-set_same, nat_le}
pub use Rattle.std.proofs.lemmas.List.{length-set}
pub use Rattle.std.specs.Prelude.{Err, Ok}
pub use Rattle.steps.specs.Indices.Robust.Acquire.{Acquired, acquire_asks, acquire_goes_back, acquire_raised}
pub use Rattle.steps.specs.Indices.Robust.Acquire.{acquire_sees, acquire_takes, acquire_tries, at_acquire}
pub use Rattle.steps.specs.Indices.Robust.Find.{at_find, find_after, find_comes_to}
pub use Rattle.steps.specs.Indices.Robust.Parts.{cell_word, count_after, count_comes_to, count_goes_back, count_want}
pub use Rattle.steps.specs.Indices.Robust.Parts.{first_lock, greatest, lock_counted, locked, raise_goes_back}
pub use Rattle.steps.specs.Indices.Robust.Parts.{raise_sees}
pub use Rattle.steps.specs.Indices.Robust.Recover.{at_recover, recover_comes_to, recover_locked, recover_raised}
pub use Rattle.steps.specs.Indices.Robust.Release.{Released, at_release, release_asks, release_goes_back}
pub use Rattle.steps.specs.Indices.Robust.Release.{release_locked, release_raised, release_takes}
pub use Rattle.steps.specs.Picks.{by_eq, by_test}
pub use Rattle.steps.specs.declared.ask.After.TheVariants.{Done}
pub use Rattle.steps.specs.declared.indices.enums.RobustUniqueIndexSetReleaseError.TheVariants.{IndexIsNotOwnedByProvidedOwner}
pub use Rattle.steps.specs.declared.indices.robust.acquire.AcquireStage.{AcquireStage}
pub use Rattle.steps.specs.declared.indices.robust.find.FindStage.{FindStage}
pub use Rattle.steps.specs.declared.indices.robust.parts.Count.{Count}
pub use Rattle.steps.specs.declared.indices.robust.parts.Counted.{Counted}
pub use Rattle.steps.specs.declared.indices.robust.recover.RecoverStage.{RecoverStage}
pub use Rattle.steps.specs.declared.indices.robust.release.GiveBack.{GiveBack}
pub use Rattle.steps.specs.declared.indices.robust.release.ReleaseStage.{ReleaseStage}

-- The names of the standard library and of the crates below that proofs here use.
pub use Rattle.laws_container.proofs.Core.{change_at, change_set}
pub use Rattle.laws_container.proofs.AllRuns.{container_keeps, shown}
pub use Rattle.laws_container.proofs.KeptLocks.{FilledBut, FoundFilled, NoIndex, filled_each, filled_last}
pub use Rattle.laws_container.proofs.KeptLocks.{filled_locked, filled_none, filled_then, says_later}
pub use Rattle.laws_container.proofs.Looks.{looks_as, written_same}
pub use Rattle.laws_container.proofs.Sound.{IsOwn, begins_own, may_go_on}
pub use Rattle.laws_container.proofs.Terms.{dying}
pub use Rattle.laws_container.proofs.Writing.{adds_one, stores_to}
pub use Rattle.laws_container.proofs.Written.{all_effects}
pub use Rattle.laws_robust.proofs.Core.{cell, counter_of}
pub use Rattle.lemmas_owners.proofs.Choices.{both_ways}
pub use Rattle.laws_robust.proofs.Effects.{is_shut, unlocked}
pub use Rattle.laws_robust.proofs.Invariant.{Inv, IsWorn, Scene}
pub use Rattle.laws_robust.proofs.Justified.{robust_keeps}
pub use Rattle.laws_robust.proofs.Knows.{Knows, LockSays}
pub use Rattle.laws_robust.proofs.Sound.{acquire_asks_none, count_asks_none, lock_asks_none, raise_asks_none}
pub use Rattle.laws_robust.proofs.Sound.{release_asks_none}
pub use Rattle.laws_robust.proofs.Stages.{IsHere, Lengthens, all, now, set_acts_more}
pub use Rattle.lemmas_owners.proofs.Operations.{exchanges, loads, loads_same}
pub use Rattle.laws_robust.proofs.CallProgress.{AcquireAt, FindAt, LockAt, find_at}
pub use Rattle.laws_robust.specs.Gone.{Death}
pub use Rattle.model.proofs.Moments.{held_now, others_begin_none}
pub use Rattle.model.proofs.Names.{After, AllByRecursion, Ask, BeginsNone, Bool, Coding, ContainerState, Default, Each}
pub use Rattle.model.proofs.Names.{Frees, GoOn, IfSome, IsEffectOf, IsFilled, IsOneOf, IsParty, IsReached, List, Lock}
pub use Rattle.model.proofs.Names.{LockIfLastIndex, None, Option, Raise, ReleaseMode, ReleaseState, Running, SetAct}
pub use Rattle.model.proofs.Names.{Some, Step, Trace, World, [], after_answer, after_begin, after_decision, after_next}
pub use Rattle.model.proofs.Names.{after_turn, answer_in, ap, append-nil, append_assoc, append_cancel_left, arith}
pub use Rattle.model.proofs.Names.{as_call, as_it_is, ask_of, ask_of_doing, ask_of_flight, beside_of, capacity_error}
pub use Rattle.model.proofs.Names.{cases_eq, doing_after, doing_of, empty, ending_of, eq-eqb, events_of}
pub use Rattle.model.proofs.Names.{events_of_answer, events_of_decision, events_of_next, events_of_step, false}
pub use Rattle.model.proofs.Names.{filled_of, first_of, flight_in, flight_of, fold, fold-append, get_or, goes_of}
pub use Rattle.model.proofs.Names.{if◌then◌else◌, inl, is_due, is_look_of, is_none, is_question, is_some}
pub use Rattle.model.proofs.Names.{kept_after_begin, kept_after_death, kept_at, lock_after}
pub use Rattle.model.proofs.Names.{lock_goes_back, lock_want, nat_lt, nat_tests, ne_eqb, number_of, old_of}
pub use Rattle.model.proofs.Names.{one_more, one_word, party_of, raise_after, raise_want, refl, refusal_of}
pub use Rattle.model.proofs.Names.{set_acts, set_acts_of, slice_index, state_in, step_in, step_of, subst, sym}
pub use Rattle.model.proofs.Names.{true, want_of, went_on, whose, words_after, world_after, wrote_in, ℕ}
pub use Rattle.model.proofs.Names.{⊎_elim, ◌&&◌, ◌++◌, ◌+◌, ◌-◌, ◌<◌, ◌==◌, ◌^◌, ◌∙◌, ◌∷◌, ◌≡◌, ◌≢◌, ◌≤◌}
pub use Rattle.model.proofs.Parties.{found_put_same, party_put_same}
pub use Rattle.model.proofs.Reached.{kept_by_runs, reached_more, turn_making}
pub use Rattle.model.proofs.Readings.{AreOwn, AreRight, Each-append, Each-nil, no_more, span_of-death, span_of-other}
pub use Rattle.model.proofs.Readings.{span_of-own}
pub use Rattle.model.proofs.Rows.{may_decide, may_next, must_be_due, passes}
pub use Rattle.model.proofs.Scenes.{StandsThere, stands_there}
pub use Rattle.model.specs.Families.Container.Calls.{added, first, look_came, look_shows, looked, place_of, removed}
pub use Rattle.model.specs.Families.Container.Calls.{replaced, settled_if, writes_state}
pub use Rattle.model.specs.Families.Container.Looks.{is_looking}
pub use Rattle.model.specs.Families.Container.Reading.{Act}
pub use Rattle.model.specs.Families.Container.States.{fresh, state_of, with_state}
pub use Rattle.model.specs.Families.Container.Steps.{questions}
pub use Rattle.model.specs.Families.Indices.Robust.Promises.{IsIn, asked_of, cell_of, owned_of}
pub use Rattle.model.specs.Families.Indices.Robust.Steps.{acquire_effects, granted, locked_by, recover_effects}
pub use Rattle.model.specs.Families.Indices.Robust.Steps.{release_effects}
pub use Rattle.model.specs.Parties.{put}
pub use Rattle.model.specs.Promises.Turns.{GoesOn, StandsAt, ask_in}
pub use Rattle.model.specs.World.{kept_opened}
pub use Rattle.model.specs.declared.event.Answer.{Answer}
pub use Rattle.model.specs.declared.event.Answer.TheVariants.{Number, State, Truth}
pub use Rattle.model.specs.declared.event.Event.{Event}
pub use Rattle.model.specs.declared.event.Event.TheVariants.{Acted, Asked, Begun, Died, Filled, Finished, FreedOf, Told}
pub use Rattle.model.specs.declared.event.Start.{Start}
pub use Rattle.model.specs.declared.event.Start.TheVariants.{Container, Robust}
pub use Rattle.model.specs.declared.families.Flight.{Flight}
pub use Rattle.model.specs.declared.families.Registry.{Registry}
pub use Rattle.model.specs.declared.families.container.ContainerStart.{ContainerStart}
pub use Rattle.model.specs.declared.families.container.calls.ContainerFlight.{ContainerFlight}
pub use Rattle.model.specs.declared.families.container.calls.LookOf.{LookOf}
pub use Rattle.model.specs.declared.families.indices.robust.RobustStart.{RobustStart}
pub use Rattle.model.specs.declared.families.indices.robust.calls.RobustFlight.{RobustFlight}
pub use Rattle.model.specs.declared.party.Doing.{Doing}
pub use Rattle.model.specs.declared.party.Doing.TheVariants.{Going, Over}
pub use Rattle.model.specs.declared.party.Party.{Party}
pub use Rattle.model.specs.declared.turn.Turn.{Turn}
pub use Rattle.model.specs.declared.turn.Turn.TheVariants.{Begin, Decide, Die, Next}
pub use Rattle.std.proofs.Common.{Err, Ok, slice_index_or}
pub use Rattle.steps.specs.Container.Add.{Added, add_acquired, add_after, add_asks}
pub use Rattle.steps.specs.Container.Find.{find_asks, find_kept}
pub use Rattle.steps.specs.Container.Layout.{change_word, count_word, element_word, is_even}
pub use Rattle.steps.specs.Container.Look.{at_look, look_asks, look_comes_to, look_finds, look_keeps, look_takes}
pub use Rattle.steps.specs.Container.Recover.{recover_after, recover_keeps, recover_kept}
pub use Rattle.steps.specs.Container.Remove.{Removed, inner_release, remove_after, remove_asks, remove_released}
pub use Rattle.steps.specs.Container.Replace.{Replaced, replace_after, replace_asks}
pub use Rattle.steps.specs.Indices.Robust.Acquire.{Acquired, acquire_asks}
pub use Rattle.steps.specs.Indices.Robust.Looks.{borrowed_after}
pub use Rattle.steps.specs.Indices.Robust.Parts.{cell_word, count_want, locked}
pub use Rattle.steps.specs.Indices.Robust.Release.{Released, release_asks, release_takes}
pub use Rattle.steps.specs.declared.ask.After.TheVariants.{Done}
pub use Rattle.steps.specs.declared.container.add.AddStage.{AddStage}
pub use Rattle.steps.specs.declared.container.look.Look.{Look}
pub use Rattle.steps.specs.declared.container.look.LookStage.{LookStage}
pub use Rattle.steps.specs.declared.container.remove.RemoveStage.{RemoveStage}
pub use Rattle.steps.specs.declared.container.replace.ReplaceStage.{ReplaceStage}
pub use Rattle.steps.specs.declared.container.replace.Replacement.{Replacement}
pub use Rattle.steps.specs.declared.indices.enums.ReleaseState.TheVariants.{Unlocked}
pub use Rattle.steps.specs.declared.indices.robust.acquire.AcquireStage.{AcquireStage}
pub use Rattle.steps.specs.declared.indices.robust.parts.Count.{Count}
pub use Rattle.steps.specs.declared.indices.robust.release.GiveBack.{GiveBack}
pub use Rattle.steps.specs.declared.indices.robust.release.Release.{Release}
pub use Rattle.steps.specs.declared.indices.robust.release.ReleaseStage.{ReleaseStage}

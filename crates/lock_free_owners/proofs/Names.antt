-- The names of the standard library and of the crates below that proofs here use.
pub use Rattle.atomic_table.specs.Seated.{TableId}
pub use Rattle.atomic_table.specs.Table.{Allows, Me, keeps, opening}
pub use Rattle.history.proofs.Called.{called}
pub use Rattle.history.proofs.CallsIn.{AsksFor, by_bool, span_since}
pub use Rattle.history_owners.proofs.ContainerRecoveries.{container_recover_first, container_recover_hears}
pub use Rattle.history_owners.proofs.ContainerRecoveries.{container_recover_keeps, recover_call, recover_did}
pub use Rattle.history_owners.proofs.ContainerRests.{Keeps, apart_asked, rested_asks, rested_keeps}
pub use Rattle.history_owners.proofs.ContainerRests.{rested_words}
pub use Rattle.history_owners.proofs.Containers.{container_effects, container_words, containers_owe, is_open_container}
pub use Rattle.history.proofs.Passes.{joins, opens, set_same, splits}
pub use Rattle.history_owners.proofs.RobustCalls.{acquire_first, acquire_keeps, count_first, count_keeps, look_first}
pub use Rattle.history_owners.proofs.RobustCalls.{look_keeps, release_first, release_keeps}
pub use Rattle.history_owners.proofs.RobustRecoveries.{recover_first, recover_hears, recover_tells}
pub use Rattle.history_owners.proofs.RobustVisits.{came_last, wider, wrote_last}
pub use Rattle.history_owners.proofs.Robusts.{is_open_set}
pub use Rattle.history.proofs.Rooms.{room_fresh}
pub use Rattle.history_owners.specs.Container.{adds_value, counts_values, removes_value, replaces_value, sees_lock}
pub use Rattle.history_owners.specs.ContainerFind.{HasCopied, copies_after, copies_of}
pub use Rattle.history_owners.specs.ContainerLooks.{BeginsWith, HasLookedAll, KeepsState, RestedLooked, RestedLooks}
pub use Rattle.history_owners.specs.ContainerLooks.{look_start, looking, state_of_look}
pub use Rattle.history_owners.specs.ContainerRecovery.{HasFound, IsFreed, IsToFree, MayCome, came_locked, freed, hides}
pub use Rattle.history_owners.specs.ContainerRecovery.{seen_under, told, told_yet, with_last, wrote_visits}
pub use Rattle.history.specs.History.{Called, IsBeginning, IsHistory, IsMachine, IsRun, LastStep, call_in, refusal_as}
pub use Rattle.history.specs.Passes.{Goes}
pub use Rattle.history_owners.specs.Robust.{HasAsked, HasCome, HasLocked, Visit, WasTold, came_to, counts_owned, gives_owned}
pub use Rattle.history_owners.specs.Robust.{looks_owned, recovers_owned, takes_owned, visit, visits_locked, visits_taken}
pub use Rattle.history_owners.specs.Robust.{wrote_by, wrote_now, wrote_to}
pub use Rattle.history.specs.Rooms.{room_of}
pub use Rattle.history_owners.specs.Settled.{IsResting, RestsAt, SettledFrom, Waits}
pub use Rattle.history.specs.Stages.{At, Calling, Ends, IsFirst, IsUnderWay, LeavesState, Since, opened}
pub use Rattle.history.specs.Rooms.{value_of_room}
pub use Rattle.history.specs.Views.{Looks, LooksAt, first_view, joined_view}
pub use Rattle.history.specs.declared.view.View.{View}
pub use Rattle.lemmas_owners.proofs.Counting.{count_later, count_most}
pub use Rattle.laws_robust.specs.Gone.{IsHonest, Word}
pub use Rattle.model.proofs.Reached.{turn_making}
pub use Rattle.model.specs.Coding.{Coding, IsCoding, coding_by, one_word}
pub use Rattle.model.specs.Families.Container.Calls.{added, looked, removed, replaced, settled_if}
pub use Rattle.model.specs.Families.Indices.Reading.{is_locked}
pub use Rattle.model.specs.Families.Indices.Robust.Promises.{HoldsRight, IsCount, IsFilledWith, IsUnlocked}
pub use Rattle.model.specs.Families.Indices.Robust.Promises.{IsWellFormed, SetDoes}
pub use Rattle.model.specs.Families.Queues.Calls.{fresh_cell, kept_at, read_in}
pub use Rattle.model.specs.Families.{goes_of, is_question, want_of}
pub use Rattle.model.specs.Moments.{BeginsNone, HeldSometime}
pub use Rattle.model.specs.Reading.{Each, Open, Span, is_party, own_after, span_of, whose}
pub use Rattle.model.specs.Turns.{after_turn, ending_of, events_of, number_of}
pub use Rattle.model.specs.World.{Trace, capacity_error}
pub use Rattle.model.specs.declared.event.Answer.TheVariants.{NoIndex, Number, State, Truth}
pub use Rattle.model.specs.declared.event.Answer.{Answer}
pub use Rattle.model.specs.declared.event.Event.TheVariants.{Asked, Begun, Copied, Filled, Finished, FreedOf, Granted}
pub use Rattle.model.specs.declared.event.Event.TheVariants.{Hidden}
pub use Rattle.model.specs.declared.event.Event.{Event}
pub use Rattle.model.specs.declared.event.Start.TheVariants.{Container, Robust}
pub use Rattle.model.specs.declared.event.Start.{Start}
pub use Rattle.model.specs.declared.families.Flight.{Flight}
pub use Rattle.model.specs.declared.families.container.ContainerStart.TheVariants.{Add, IsEmpty, Len, Remove, Replace}
pub use Rattle.model.specs.declared.families.container.ContainerStart.{ContainerStart}
pub use Rattle.model.specs.declared.families.container.calls.CountOf.{CountOf}
pub use Rattle.model.specs.declared.families.container.calls.LookOf.TheVariants.{GetState, UpdateState}
pub use Rattle.model.specs.declared.families.indices.robust.RobustStart.TheVariants.{Release}
pub use Rattle.model.specs.declared.turn.Turn.{Turn}
pub use Rattle.std.proofs.Common.{Bool, Err, IfErr, IfOk, IfSome, List, None, Ok, OnOk, Option, Some, [], ap}
pub use Rattle.std.proofs.Common.{append-nil, append_assoc, arith, false, filter, fold, if◌then◌else◌, inl, inr, length}
pub use Rattle.std.proofs.Common.{length-append, map, nat_lt, refl, rules, set, slice_index, slice_index_or, slice_set}
pub use Rattle.std.proofs.Common.{subst, suc, sym, take, true, true≢false, zero, ℕ, ⊎_elim, ◌*◌, ◌++◌, ◌+◌, ◌-◌, ◌<◌}
pub use Rattle.std.proofs.Common.{◌==◌, ◌^◌, ◌∙◌, ◌∷◌, ◌≡◌, ◌≢◌, ◌≤◌, ◌⊎◌}
pub use Rattle.std.proofs.lemmas.Bool.Decides.{nat_tests}
pub use Rattle.std.proofs.lemmas.Bool.{cases_eq}
pub use Rattle.std.proofs.lemmas.Fn.{FoldsTo-push}
pub use Rattle.std.proofs.lemmas.List.Elements.{All-push, All-weaker, Contains-append_left, Contains-push}
pub use Rattle.std.proofs.lemmas.List.Elements.{filter-append}
pub use Rattle.std.proofs.lemmas.List.Quantifiers.{all_pairs_push}
pub use Rattle.std.proofs.lemmas.List.Sums.{fold-append}
pub use Rattle.std.proofs.lemmas.List.{append_cancel_left, get_or-map, length-map, length-replicate, map-append}
pub use Rattle.std.proofs.lemmas.List.{same_from_push, take_all}
pub use Rattle.std.specs.List.{All, FoldsTo}
pub use Rattle.std.specs.Prelude.{Contains, vec_len}
pub use Rattle.steps.specs.Ask.{written}
pub use Rattle.steps.specs.Container.Add.{Added, add_after, add_want, first_add}
pub use Rattle.steps.specs.Container.Find.{find_asks, find_keeps, find_kept, find_want}
pub use Rattle.steps.specs.Container.Layout.{change_word, count_word, element_word, is_even, total_words}
pub use Rattle.steps.specs.Container.Look.{at_look, first_look, look_after, look_asks, look_comes_to, look_finds}
pub use Rattle.steps.specs.Container.Look.{look_kept, look_takes, look_want}
pub use Rattle.steps.specs.Container.Recover.{goes_to, recover_ends, recover_keeps, recover_kept, recover_raises}
pub use Rattle.steps.specs.Container.Recover.{recover_sees}
pub use Rattle.steps.specs.Container.Remove.{Removed, first_remove, remove_after, remove_want}
pub use Rattle.steps.specs.Container.Replace.{Replaced, first_replace, replace_after, replace_want}
pub use Rattle.steps.specs.Container.State.{Numbers, Showing, no_numbers, shown_number, shows_nothing}
pub use Rattle.steps.specs.Indices.Robust.Acquire.{Acquired, acquire_after, acquire_tries, at_acquire, first_acquire}
pub use Rattle.steps.specs.Indices.Robust.Looks.{borrowed_after, borrowed_counted, borrowed_want, first_borrowed}
pub use Rattle.steps.specs.Indices.Robust.Parts.{cell_word, count_comes_to, empty, first_lock, greatest, lock_after}
pub use Rattle.steps.specs.Indices.Robust.Parts.{locked, raise_after}
pub use Rattle.steps.specs.Indices.Robust.Recover.{at_recover, recover_after}
pub use Rattle.steps.specs.Indices.Robust.Release.{Released, first_release}
pub use Rattle.steps.specs.Picks.{by_eq, by_test}
pub use Rattle.steps.specs.declared.ask.After.TheVariants.{Done, GoOn}
pub use Rattle.steps.specs.declared.ask.After.{After}
pub use Rattle.steps.specs.declared.container.add.Owned.{Owned}
pub use Rattle.steps.specs.declared.container.handle.ContainerHandle.{ContainerHandle}
pub use Rattle.steps.specs.declared.container.recover.DeadOwner.{DeadOwner}
pub use Rattle.steps.specs.declared.container.replace.Replacement.{Replacement}
pub use Rattle.steps.specs.declared.container.state.ContainerState.{ContainerState}
pub use Rattle.steps.specs.declared.copied.Buffer.{Buffer}
pub use Rattle.steps.specs.declared.enums.CallbackProgression.TheVariants.{Continue, Stop}
pub use Rattle.steps.specs.declared.enums.CallbackProgression.{CallbackProgression}
pub use Rattle.steps.specs.declared.indices.enums.ReleaseMode.TheVariants.{Default, LockIfLastIndex}
pub use Rattle.steps.specs.declared.indices.enums.ReleaseMode.{ReleaseMode}
pub use Rattle.steps.specs.declared.indices.enums.ReleaseState.TheVariants.{Unlocked}
pub use Rattle.steps.specs.declared.indices.enums.ReleaseState.{ReleaseState}
pub use Rattle.steps.specs.declared.indices.enums.UniqueIndexSetAcquireFailure.TheVariants.{IsLocked as WasLocked}
pub use Rattle.steps.specs.declared.indices.enums.UniqueIndexSetAcquireFailure.TheVariants.{OutOfIndices}
pub use Rattle.steps.specs.declared.indices.robust.recover.Recover.{Recover as Recovering}
pub use Rattle.steps.specs.declared.indices.robust.release.GiveBack.{GiveBack}
pub use Rattle.threaded.proofs.Driving.{weaker_owes}
pub use Rattle.threaded.proofs.Shares.{positive}
pub use Rattle.threaded.specs.Callable.{Ascends, TakesPlaces}
pub use Rattle.threaded.specs.Driver.{KeepsRule, Owes, OwesAsk, Told as DriverTold, moves}
pub use Rattle.threaded.specs.Seats.{IsSame, key_of, seen, table_of}
pub use Rattle.threaded.specs.Sets.{SetId}
pub use Rattle.threaded.specs.Shares.{IsAll}

-- The names of the standard library and of the crates below that proofs here use.
pub use Rattle.lemmas_owners.proofs.Alive.{AllLive, StepsLeave, all_live_on, end_leaves}
pub use Rattle.laws_robust.proofs.Core.{cell, counter_of}
pub use Rattle.lemmas_owners.proofs.Counting.{chosen_with, count_later, count_next, count_none, count_with, count_within}
pub use Rattle.lemmas_owners.proofs.Counting.{still_once, still_through, times_below, with_here, with_there}
pub use Rattle.laws_robust.proofs.Effects.{Quiet, Stays, filled_by, is_shut, not_shut}
pub use Rattle.lemmas_owners.proofs.Choices.{at_other, at_same, both_ways}
pub use Rattle.lemmas_owners.proofs.Choices.{one_owner, some_none}
pub use Rattle.laws_robust.proofs.Effects.{quiet_end, quiet_none, quietly, stays_raised}
pub use Rattle.laws_robust.proofs.Effects.{stays_same, unlocked}
pub use Rattle.laws_robust.proofs.Gone.{calm_less, gone_begun, gone_less, gone_more, honest_less, lives_freed}
pub use Rattle.laws_robust.proofs.Gone.{lives_settled, stays_lost}
pub use Rattle.laws_robust.proofs.Grants.{GivesIndex, gives, grants_alone, owns_then}
pub use Rattle.laws_robust.proofs.Invariant.{Does, Good, Inv, IsWorn, Scene, worn_on}
pub use Rattle.laws_robust.proofs.Knows.{Goes, IsSeen, LockSays, Spares, held_paid, knows_later, still_scanned}
pub use Rattle.laws_robust.proofs.Opening.{admitted_is, opening_cell}
pub use Rattle.laws_robust.proofs.Parts.{IsSaid, count_ask, count_step as part_step, lock_ask, lock_moves, none_beyond}
pub use Rattle.laws_robust.proofs.Parts.{raise_ask, raise_step}
pub use Rattle.lemmas_owners.proofs.Past.{began_earlier, since_begun, since_less, through_less, through_now, through_so}
pub use Rattle.laws_robust.proofs.Rights.{AreOwned, IsBy, Right, right_after}
pub use Rattle.lemmas_owners.proofs.Lists.{all_both, all_either, all_so, by_latest, last_one, one_of_none, still_one, was_one}
pub use Rattle.laws_robust.proofs.Sound.{count_asks_none, lock_asks_none, raise_asks_none}
pub use Rattle.lemmas_owners.proofs.Operations.{exchange_sets, exchanges, fails_same, loads, loads_same}
pub use Rattle.laws_robust.proofs.Stages.{is_seen}
pub use Rattle.laws_robust.proofs.CallProgress.{AcquireAt, CountAt, LockAt, ReleaseAt, acquire_at, acquire_number}
pub use Rattle.laws_robust.proofs.CallProgress.{borrowed_at, count_number, lock_number, looking, raise_number, release_at}
pub use Rattle.laws_robust.proofs.CallProgress.{release_number}
pub use Rattle.laws_robust.specs.Gone.{ActsForRight, AnswersBy, Death, GivesBackRight, GoneBy, IsCalm, IsHonest}
pub use Rattle.laws_robust.specs.Gone.{IsHonestBy, Word, gone_after, is_gone}
pub use Rattle.model.specs.Open.{IsReachedOpen, attempt_open, open_refusal, run_open}
pub use Rattle.model.proofs.Moments.{held_later, held_now, held_so, others_begin_none}
pub use Rattle.model.proofs.Names.{After, AllByRecursion, Ask, Asks, BeginsNone, Bool, Coding, ContainerState, Default}
pub use Rattle.model.proofs.Names.{Each, Ended, Frees, GoOn, HeldSometime, HeldThroughout, IfSome, IsCoding, IsCount}
pub use Rattle.model.proofs.Names.{IsEffectOf, IsFilled, IsFilledWith, IsOneOf, IsParty, IsReached, IsShut, List, Lock}
pub use Rattle.model.proofs.Names.{LockIfLastIndex, Never, None, Open, Option, Raise, ReleaseMode, ReleaseState, SetAct}
pub use Rattle.model.proofs.Names.{SetDoes, SinceBegin, Some, Span, Stands, StandsRight, Step, Trace, World, Yes, []}
pub use Rattle.model.proofs.Names.{after_answer, after_begin, after_decision, after_next, after_step, after_turn}
pub use Rattle.model.proofs.Names.{answer_in, ap, append-nil, append_assoc, append_cancel_left, arith, as_call}
pub use Rattle.model.proofs.Names.{as_it_is, ask_of, ask_of_doing, beside_of, call_refusal, capacity_error, cases_eq}
pub use Rattle.model.proofs.Names.{cases_lt, change_of, cond, count_below, dead_with, doing_after, doing_of, empty}
pub use Rattle.model.proofs.Names.{ending_of, eq-eqb, events_of, events_of_answer, events_of_decision, events_of_next}
pub use Rattle.model.proofs.Names.{events_of_step, false, filled_after, filled_of, first_of, first_row, flat_map-append}
pub use Rattle.model.proofs.Names.{flight_in, flight_of, fold, fold-append, get_or, get_or-set_other, goes_of}
pub use Rattle.model.proofs.Names.{going_rows, has_died, if◌then◌else◌, inl, inr, is_due, is_look_of, is_none}
pub use Rattle.model.proofs.Names.{is_question, is_some, kept_after_begin, kept_after_death, kept_at, length}
pub use Rattle.model.proofs.Names.{length-append, length-replicate, lock_after, lock_goes_back, lock_want, nat_lt}
pub use Rattle.model.proofs.Names.{nat_tests, ne_eqb, not, number_of, old_of, one_if, one_more, opening, option_map}
pub use Rattle.model.proofs.Names.{own_after, party_after, party_at_begin, party_of, progress_after, progress_in}
pub use Rattle.model.proofs.Names.{raise_after, raise_want, refl, refusal_of, replicate, set, set-get_or, set_acts}
pub use Rattle.model.proofs.Names.{set_acts_of, slice_get, slice_index, span_after, span_of, state_in, step_count}
pub use Rattle.model.proofs.Names.{step_in, step_of, subst, suc, sym, take, true, unless_refused, want_of, went_on}
pub use Rattle.model.proofs.Names.{whose, words_after, wrote_in, zero, ℕ, ⊎_elim, ◌%◌, ◌&&◌, ◌*◌, ◌++◌, ◌+◌, ◌-◌, ◌<◌}
pub use Rattle.model.proofs.Names.{◌==◌, ◌^◌, ◌∙◌, ◌∷◌, ◌≡◌, ◌≢◌, ◌≤◌, ◌⊎◌}
pub use Rattle.model.proofs.Orders.{Keeps}
pub use Rattle.model.proofs.Parties.{apart, found_put_other, found_put_same, itself, party_put_other, party_put_same}
pub use Rattle.model.proofs.Readings.{AllFollow, AreOwn, AreRight, Each-append, Each-less, Each-nil}
pub use Rattle.model.proofs.Readings.{no_more, span_of-death, span_of-other, span_of-own}
pub use Rattle.model.proofs.Rows.{MayBegin, MayDie, may_begin, must_be_due, next_passes, passes, row_passed}
pub use Rattle.model.proofs.Scenes.{ComesFrom, StandsThere, stands_there}
pub use Rattle.model.specs.Families.Container.Bounds.{most_steps}
pub use Rattle.model.specs.Families.Container.Calls.{acts_for_dead, added, after, after as goes_after, first, goes_back}
pub use Rattle.model.specs.Families.Container.Calls.{look_came, look_goes, look_shows, looked, place_of, removed}
pub use Rattle.model.specs.Families.Container.Calls.{replaced, settled_if, states_after, want, writes_state}
pub use Rattle.model.specs.Families.Container.Keeping.{BeginsWithState, KeepsStates, MovesInLooks, ShowsOwnCopies}
pub use Rattle.model.specs.Families.Container.Keeping.{steps_of}
pub use Rattle.model.specs.Families.Container.Looks.{AnswersOfState, EndsLook, IsCurrent, IsLook, IsOwnOrDeath}
pub use Rattle.model.specs.Families.Container.Looks.{MomentsOfState, ShowsCopies, ShowsMoments, StoodThrough, WasAlone}
pub use Rattle.model.specs.Families.Container.Looks.{WasAnnounced, WasCopied, is_looking, shows}
pub use Rattle.model.specs.Families.Container.Opening.{keeps, names_owner, opening_words, states_at_begin}
pub use Rattle.model.specs.Families.Container.Promises.{AnswersRight, AsksRight, ContainsRight, FreedRight, HasElements}
pub use Rattle.model.specs.Families.Container.Promises.{IsContained, IsContainer, IsFoundWhole, IsLength}
pub use Rattle.model.specs.Families.Container.Promises.{IsWellFormedRun, KeepsDead, LeavesState, PlacesRight}
pub use Rattle.model.specs.Families.Container.Promises.{RecoversRight, ReplacesRight, StandsWellFormed, WasShown, most}
pub use Rattle.model.specs.Families.Container.Promises.{promise}
pub use Rattle.model.specs.Families.Container.Questions.{AllRight, AsksCopies, AsksOnce, HasWritten, IsAnswered, IsTold}
pub use Rattle.model.specs.Families.Container.Questions.{NoTells, QuestionsRight, WritesRight, YesTells, question_at}
pub use Rattle.model.specs.Families.Container.Questions.{question_in}
pub use Rattle.model.specs.Families.Container.Reading.{Act, Copies, Hides, Hides as HidesOne, MayReplace, NoneTakes}
pub use Rattle.model.specs.Families.Container.Reading.{Places, Sees, TakesNot, act, acts, acts_of, announced_after}
pub use Rattle.model.specs.Families.Container.Reading.{announced_of, contents_after, contents_of, index_seen, places}
pub use Rattle.model.specs.Families.Container.Reading.{seen_in}
pub use Rattle.model.specs.Families.Container.Recoveries.{BeganUnlocked, FilledSinceEach, UnlockedAtLast, VisitsRight}
pub use Rattle.model.specs.Families.Container.Recoveries.{VisitsUnlocked}
pub use Rattle.model.specs.Families.Container.Removals.{EmptySinceFreed, HidesRight}
pub use Rattle.model.specs.Families.Container.Spans.{HasDone, may_stand}
pub use Rattle.model.specs.Families.Container.States.{fresh, set_state, settled, state_of, with_state}
pub use Rattle.model.specs.Families.Container.Steps.{copy_in, effects, look_effects, look_effects_of, question_of}
pub use Rattle.model.specs.Families.Container.Steps.{questions}
pub use Rattle.model.specs.Families.Indices.Reading.{is_locked, locked_after}
pub use Rattle.model.specs.Families.Indices.Robust.Promises.{FilledSinceFreed, HoldsRight, IsIn, IsUnlocked}
pub use Rattle.model.specs.Families.Indices.Robust.Promises.{LivesToRelease, StillToFree, cell_of}
pub use Rattle.model.specs.Families.Indices.Robust.Reading.{Fills, Grants, IsLatest, Locks, asked_in, dead_after}
pub use Rattle.model.specs.Families.Indices.Robust.Reading.{holder_after, holder_of, index_asked, is_dead, set_act}
pub use Rattle.model.specs.Families.Indices.Robust.Reading.{settled_after, settled_of}
pub use Rattle.model.specs.Families.Indices.Robust.Spans.{HasJustFreed}
pub use Rattle.model.specs.Families.Loan.Opening.{keeps as loan_keeps}
pub use Rattle.model.specs.Families.Queues.Calls.{read_in}
pub use Rattle.model.specs.Parties.{put}
pub use Rattle.model.specs.Reading.{is_party}
pub use Rattle.model.specs.Turns.{number_of as said_is}
pub use Rattle.model.specs.declared.event.Answer.{Answer}
pub use Rattle.model.specs.declared.event.Answer.TheVariants.{Index, NoPlace, Number, State, Truth}
pub use Rattle.model.specs.declared.event.Event.{Event}
pub use Rattle.model.specs.declared.event.Event.TheVariants.{Asked, Begun, Copied, Died, Filled, Finished, FreedOf}
pub use Rattle.model.specs.declared.event.Event.TheVariants.{Granted, Hidden, Locked, Placed, Shown, Told}
pub use Rattle.model.specs.declared.event.Start.{Start}
pub use Rattle.model.specs.declared.event.Start.TheVariants.{Container, Loan}
pub use Rattle.model.specs.declared.families.Flight.{Flight}
pub use Rattle.model.specs.declared.families.Registry.{Registry}
pub use Rattle.model.specs.declared.families.container.ContainerStart.{ContainerStart}
pub use Rattle.model.specs.declared.families.container.ContainerStart.TheVariants.{GetState, UpdateState}
pub use Rattle.model.specs.declared.families.container.calls.ContainerFlight.{ContainerFlight}
pub use Rattle.model.specs.declared.families.container.calls.ContainerFlight.TheVariants.{Count, IsLocked}
pub use Rattle.model.specs.declared.families.container.calls.CountOf.{CountOf}
pub use Rattle.model.specs.declared.families.container.calls.LookOf.{LookOf}
pub use Rattle.model.specs.declared.party.Doing.{Doing}
pub use Rattle.model.specs.declared.party.Doing.TheVariants.{Going, Over}
pub use Rattle.model.specs.declared.party.Party.{Party}
pub use Rattle.model.specs.declared.turn.Refusal.TheVariants.{Busy, Idle, Undecided, WrongCall}
pub use Rattle.model.specs.declared.turn.Turn.{Turn}
pub use Rattle.model.specs.declared.turn.Turn.TheVariants.{Begin, Decide, Die, Next}
pub use Rattle.std.proofs.Common.{ext_get_or, get_or-set_same, get_or-take, length-take-le, slice_index_or}
pub use Rattle.std.proofs.lemmas.List.{get_or-append-add, get_or-replicate, length-set}
pub use Rattle.std.proofs.lemmas.Option.{slice_get-get_or, slice_get_past}
pub use Rattle.std.specs.Prelude.{Err, Ok}
pub use Rattle.steps.specs.Container.Add.{Added, add_acquired, add_asks, at_add, first_add}
pub use Rattle.steps.specs.Container.Find.{at_find, find_comes_to}
pub use Rattle.steps.specs.Container.Layout.{change_word, count_word, element_word, is_even, total_words}
pub use Rattle.steps.specs.Container.Look.{look_after, look_asks, look_comes_to, look_finds, look_goes_back}
pub use Rattle.steps.specs.Container.Recover.{recover_comes_to, recover_ends, recover_locked, recover_raised}
pub use Rattle.steps.specs.Container.Recover.{recover_raises, recover_sees}
pub use Rattle.steps.specs.Container.Remove.{Removed, at_remove, remove_asks, remove_released}
pub use Rattle.steps.specs.Container.Replace.{Replaced, at_replace, replace_asks}
pub use Rattle.steps.specs.Container.State.{no_element, numbers_over, value_if, with_change, with_count, with_value}
pub use Rattle.steps.specs.Container.State.{with_word}
pub use Rattle.steps.specs.Copied.{value_in}
pub use Rattle.steps.specs.Indices.Robust.Parts.{cell_word, count_after, count_goes_back, first_lock, greatest, locked}
pub use Rattle.steps.specs.Indices.Robust.Parts.{raise_goes_back}
pub use Rattle.steps.specs.declared.container.add.AddStage.{AddStage}
pub use Rattle.steps.specs.declared.container.enums.ContainerRemoveError.TheVariants.{ContainerHandleNotOwnedByContainer}
pub use Rattle.steps.specs.declared.container.find.FindStage.{FindStage}
pub use Rattle.steps.specs.declared.container.look.LookStage.{LookStage}
pub use Rattle.steps.specs.declared.container.recover.DeadOwner.{DeadOwner}
pub use Rattle.steps.specs.declared.container.recover.RecoverStage.{RecoverStage}
pub use Rattle.steps.specs.declared.container.remove.RemoveStage.{RemoveStage}
pub use Rattle.steps.specs.declared.container.replace.ReplaceStage.{ReplaceStage}
pub use Rattle.steps.specs.declared.container.replace.Replacement.{Replacement}
pub use Rattle.steps.specs.declared.container.state.Element.{Element}
pub use Rattle.steps.specs.declared.indices.robust.parts.Count.{Count as Counting}
pub use Rattle.steps.specs.declared.indices.robust.release.GiveBack.{GiveBack}
pub use Rattle.steps.specs.declared.indices.robust.release.ReleaseStage.{ReleaseStage}

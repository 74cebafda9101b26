-- The names of the standard library and of the crates below that proofs here use.
pub use Rattle.atomic_table.proofs.Lists.{at_longer, at_set, set_else, set_here}
pub use Rattle.atomic_table.specs.Table.{Allows, Joins, Splits}
pub use Rattle.model.specs.Fresh.{IsFreshOver}
pub use Rattle.model.specs.Fresh.{IsFreshCall, IsFreshStore}
pub use Rattle.lemmas.proofs.MayRuns.{AllMay, attempt_sound}
pub use Rattle.lemmas.proofs.Fresh.{fresh_more}
pub use Rattle.model.specs.Fresh.{IsFresh}
pub use Rattle.model.specs.Open.{open_refusal}
pub use Rattle.model.proofs.Frame.{Family, LawsWhere, Sound, is_true}
pub use Rattle.model.proofs.Linearizable.Kinds.{run_linearizable}
pub use Rattle.model.proofs.Parties.{found_put_same, party_put_other, party_put_same}
pub use Rattle.model.proofs.Reached.{kept_by_runs, kept_by_runs_on, reached_on_more, reached_on_opening, turn_making}
pub use Rattle.model.proofs.Readings.{AreRight, Each-append, Each-less, Each-nil}
pub use Rattle.model.proofs.Rows.{must_be_due, passes}
pub use Rattle.model.proofs.Scenes.{stands_there}
pub use Rattle.model.specs.Coding.{Coding, IsCoding, one_word}
pub use Rattle.model.specs.Families.{after_of, ask_of, begin_rows, beside_of, first_of, goes_of, going_rows}
pub use Rattle.model.specs.Families.{is_question, kept_after_begin, opening_of, step_of, want_of}
pub use Rattle.model.specs.Families.Atomic.Calls.{producer_word}
pub use Rattle.model.specs.Families.Atomic.Promises.{AnswersRight, IsValue}
pub use Rattle.model.specs.Families.Atomic.Steps.{acted}
pub use Rattle.model.specs.Families.Bits.Promises.{AnswersCountOn, BitsAnswerRight, BitsWrote, CountsAnswerOn}
pub use Rattle.model.specs.Families.Bits.Promises.{CountsWrote, HasCleared, HasTakenOn, MayClear, bits_promise}
pub use Rattle.model.specs.Families.Bits.Promises.{counts_promise}
pub use Rattle.model.specs.Families.Bits.Reading.{clears, counts, sets, standing, takes}
pub use Rattle.model.specs.Families.Container.Calls.{added, counted, find_of, first, first as first_call, place_of}
pub use Rattle.model.specs.Families.Container.Calls.{recover_of, remove_of, removed, replace_of, replaced, settled_if}
pub use Rattle.model.specs.Families.Container.Keeping.{is_look_of}
pub use Rattle.model.specs.Families.Container.Looks.{WasCopied, is_looking, state_in}
pub use Rattle.model.specs.Families.Container.Opening.{names_owner}
pub use Rattle.model.specs.Families.Container.Steps.{add_effects, find_effects, hidden, look_effects}
pub use Rattle.model.specs.Families.Container.Steps.{question_of, questions, remove_effects, replace_effects}
pub use Rattle.model.specs.Families.Indices.Promises.{HoldsRight, IsIndexSet}
pub use Rattle.model.specs.Families.Indices.Robust.Dead.{has_died}
pub use Rattle.model.specs.Families.Indices.Robust.Opening.{is_owner}
pub use Rattle.model.specs.Families.Indices.Robust.Reading.{SetAct, filled_of, set_acts_of}
pub use Rattle.model.specs.Families.Indices.Robust.Steps.{acquire_effects, release_effects}
pub use Rattle.model.specs.Families.Queues.Calls.{as_it_is, fresh_cell, kept_at, popped, read_in, read_word}
pub use Rattle.model.specs.Families.Queues.Calls.{words_of_index}
pub use Rattle.model.specs.Families.Queues.Opening.{cells_of, holds, words_of_cell}
pub use Rattle.model.specs.Families.Queues.Reading.{consumer_after, consumer_of, handed_out, hands_out, producer_after}
pub use Rattle.model.specs.Families.Queues.Reading.{producer_of, published, publishes, waiting}
pub use Rattle.model.specs.Families.Queues.Steps.{acts_if_done, effect_of, overflow_pop_effect, overflow_push_effect}
pub use Rattle.model.specs.Families.Queues.Steps.{pending, pop_effect, push_effect, takes_effect}
pub use Rattle.model.specs.Linearizable.{Call, IsLinearizable, Precedes, calls_from, calls_of, response_in}
pub use Rattle.model.specs.Linearized.{IsLinearized, as_list, as_value}
pub use Rattle.model.specs.Moments.{BeginsNone, HeldSometime, SinceBegin}
pub use Rattle.model.specs.Parties.{doing_of, flight_of, party_of}
pub use Rattle.model.specs.Promises.{IsKeptBy}
pub use Rattle.model.specs.Promises.Families.{promise_of}
pub use Rattle.model.specs.Promises.Spans.{Stands, StandsRight}
pub use Rattle.model.specs.Promises.Turns.{IsEffectOf, ask_in}
pub use Rattle.model.specs.Reading.{Each, Ended, Never, Open, Span, is_party, longer, moments, own_after, span_after}
pub use Rattle.model.specs.Reading.{span_of, whose}
pub use Rattle.model.specs.Refusals.{call_refusal, is_due, refusal_of}
pub use Rattle.model.specs.Rows.{first_row}
pub use Rattle.model.specs.Step.{Step, answer_in, as_call}
pub use Rattle.model.specs.Turns.{IsReached, IsReachedOn, after_answer, after_begin, after_decision, after_next}
pub use Rattle.model.specs.Turns.{after_step, after_turn, ask_of_doing, attempt_on, ending_of, events_of}
pub use Rattle.model.specs.Turns.{events_of_answer, events_of_decision, events_of_next, events_of_step, number_of}
pub use Rattle.model.specs.Turns.{old_of, one_if, run, run_on, step_in, unless_refused, words_after}
pub use Rattle.model.specs.World.{Trace, World, capacity_error, flight_in, opened}
pub use Rattle.model.specs.declared.event.Answer.{Answer}
pub use Rattle.model.specs.declared.event.Answer.TheVariants.{Loaded, Number, PoppedNone, Reset, ResetNone, Truth}
pub use Rattle.model.specs.declared.event.Event.{Event}
pub use Rattle.model.specs.declared.event.Event.TheVariants.{Acted, Asked, Begun, Cleared, Copied, Died, Finished}
pub use Rattle.model.specs.declared.event.Event.TheVariants.{Freed, FreedOf, HandedOut, Hidden, Published, Shown}
pub use Rattle.model.specs.declared.event.Event.TheVariants.{TakenOut}
pub use Rattle.model.specs.declared.event.Item.{Item}
pub use Rattle.model.specs.declared.event.Start.{Start}
pub use Rattle.model.specs.declared.event.Start.TheVariants.{Container, Queues}
pub use Rattle.model.specs.declared.families.Flight.{Flight}
pub use Rattle.model.specs.declared.families.Registry.{Registry}
pub use Rattle.model.specs.declared.families.atomic.AtomicStart.{AtomicStart}
pub use Rattle.model.specs.declared.families.atomic.calls.AtomicFlight.{AtomicFlight}
pub use Rattle.model.specs.declared.families.bits.BitsStart.{BitsStart}
pub use Rattle.model.specs.declared.families.bits.BitsStart.TheVariants.{ResetAll, ResetNext, Set}
pub use Rattle.model.specs.declared.families.bits.calls.BitsFlight.{BitsFlight}
pub use Rattle.model.specs.declared.families.container.ContainerStart.{ContainerStart}
pub use Rattle.model.specs.declared.families.container.ContainerStart.TheVariants.{Add, Find, Remove, Replace}
pub use Rattle.model.specs.declared.families.container.calls.LookOf.{LookOf}
pub use Rattle.model.specs.declared.families.queues.QueueKind.{QueueKind}
pub use Rattle.model.specs.declared.families.queues.QueueStart.{QueueStart}
pub use Rattle.model.specs.declared.families.queues.QueueStart.TheVariants.{Pop, PushIndex}
pub use Rattle.model.specs.declared.families.queues.Roles.{Roles}
pub use Rattle.model.specs.declared.families.queues.calls.LengthOf.{LengthOf}
pub use Rattle.model.specs.declared.families.queues.calls.QueueFlight.{QueueFlight}
pub use Rattle.model.specs.declared.families.queues.calls.QueueFlight.TheVariants.{Length, Role as OnRole, Values}
pub use Rattle.model.specs.declared.families.queues.effects.Effect.{Effect}
pub use Rattle.model.specs.declared.families.queues.effects.Effect.TheVariants.{Acts, HandsOut, MakesRoom, Publishes}
pub use Rattle.model.specs.declared.families.queues.effects.Effect.TheVariants.{PublishesAndActs, Quiet, TakesOut}
pub use Rattle.model.specs.declared.party.Doing.{Doing}
pub use Rattle.model.specs.declared.party.Doing.TheVariants.{Going, Over}
pub use Rattle.model.specs.declared.party.Party.{Party}
pub use Rattle.model.specs.declared.turn.Kind.{Kind}
pub use Rattle.model.specs.declared.turn.Refusal.{Refusal}
pub use Rattle.model.specs.declared.turn.Turn.{Turn}
pub use Rattle.model.specs.declared.turn.Turn.TheVariants.{Begin, Decide, Die, Next}
pub use Rattle.std.proofs.Common.{Bool, IfSome, List, None, Option, Some, [], ap, append-nil, append_assoc, arith, cond}
pub use Rattle.std.proofs.Common.{drop, false, fold, get_or, if◌then◌else◌, inl, inr, is_none, length, length-set, map}
pub use Rattle.std.proofs.Common.{nat_le, nat_lt, not, option_map, refl, replicate, set, set-set, slice_index}
pub use Rattle.std.proofs.Common.{slice_index_or, slice_set, subst, suc, sum_by, sym, true, zero, ℕ, ⊎_elim, ◌%◌, ◌&&◌}
pub use Rattle.std.proofs.Common.{◌*◌, ◌++◌, ◌+◌, ◌-◌, ◌<◌, ◌==◌, ◌^◌, ◌||◌, ◌∙◌, ◌∷◌, ◌≡◌, ◌≢◌, ◌≤◌, ◌⊎◌}
pub use Rattle.std.proofs.Math.Nat.{mul-le-mul_left}
pub use Rattle.std.proofs.lemmas.Bool.{cases_eq, cases_lt}
pub use Rattle.std.proofs.lemmas.Bool.Decides.{nat_tests}
pub use Rattle.std.proofs.lemmas.List.{append_cancel_right, length-map, length-replicate, map-append, take-append-le}
pub use Rattle.std.proofs.lemmas.List.Elements.{All-push, All-weaker, Contains-append_left, Contains-push}
pub use Rattle.std.proofs.lemmas.List.Sums.{fold-append, sum_by-append, sum_by-cons}
pub use Rattle.std.specs.List.{AllByRecursion, Contains, flat_map}
pub use Rattle.steps.specs.Ask.{written}
pub use Rattle.steps.specs.Atomic.{at_load, at_store, before_version, first_load, first_store, load_after, load_asks}
pub use Rattle.steps.specs.Atomic.{load_begins, load_keeps, load_kept, load_takes, load_want, store_after, store_asks}
pub use Rattle.steps.specs.Atomic.{store_takes, store_want}
pub use Rattle.steps.specs.Bits.Words.{elements, stands}
pub use Rattle.steps.specs.Container.Find.{find_after, find_asks, find_comes_to, find_keeps, find_takes, find_want}
pub use Rattle.steps.specs.Container.Find.{first_find}
pub use Rattle.steps.specs.Container.Layout.{change_word, count_word, is_even, total_words}
pub use Rattle.steps.specs.Container.Look.{first_look, look_after, look_asks, look_comes_to, look_finds, look_kept}
pub use Rattle.steps.specs.Container.Look.{look_takes, look_want}
pub use Rattle.steps.specs.Container.Recover.{goes_to, recover_keeps, recover_sees}
pub use Rattle.steps.specs.Container.Replace.{Replaced, first_replace, replace_after, replace_asks, replace_takes}
pub use Rattle.steps.specs.Container.Replace.{replace_want}
pub use Rattle.steps.specs.Container.State.{Numbers, Showing, shown_at}
pub use Rattle.steps.specs.Indices.Robust.Looks.{borrowed_counted, borrowed_want, first_borrowed}
pub use Rattle.steps.specs.Indices.Robust.Parts.{count_after, count_want, empty, first_lock, lock_after, lock_want}
pub use Rattle.steps.specs.Indices.Robust.Parts.{locked, raise_after, raise_want}
pub use Rattle.steps.specs.Indices.Robust.Release.{Released}
pub use Rattle.steps.specs.Picks.{by_test}
pub use Rattle.steps.specs.Queues.Lengths.{first_len, len_after, len_asks, len_takes, len_want}
pub use Rattle.steps.specs.Queues.Ring.{after_position, load}
pub use Rattle.steps.specs.Routine.{went_on}
pub use Rattle.steps.specs.declared.ask.After.{After}
pub use Rattle.steps.specs.declared.ask.After.TheVariants.{GoOn}
pub use Rattle.steps.specs.declared.ask.Ask.{Ask}
pub use Rattle.steps.specs.declared.ask.Op.TheVariants.{Exchange}
pub use Rattle.steps.specs.declared.ask.Want.{Want}
pub use Rattle.steps.specs.declared.container.find.FindStage.{FindStage}
pub use Rattle.steps.specs.declared.container.look.LookStage.{LookStage}
pub use Rattle.steps.specs.declared.container.recover.DeadOwner.{DeadOwner}
pub use Rattle.steps.specs.declared.container.replace.ReplaceStage.{ReplaceStage}
pub use Rattle.steps.specs.declared.container.state.ContainerState.{ContainerState}
pub use Rattle.steps.specs.declared.copied.OneWord.{OneWord}
pub use Rattle.steps.specs.declared.indices.enums.ReleaseMode.{ReleaseMode}
pub use Rattle.steps.specs.declared.indices.enums.ReleaseMode.TheVariants.{Default, LockIfLastIndex}
pub use Rattle.steps.specs.declared.indices.enums.ReleaseState.{ReleaseState}
pub use Rattle.steps.specs.declared.indices.robust.acquire.AcquireStage.{AcquireStage}
pub use Rattle.steps.specs.declared.indices.robust.parts.Count.{Count}
pub use Rattle.steps.specs.declared.indices.robust.parts.Lock.{Lock}
pub use Rattle.steps.specs.declared.indices.robust.parts.Raise.{Raise}
pub use Rattle.steps.specs.declared.indices.robust.release.GiveBack.{GiveBack}
pub use Rattle.steps.specs.declared.indices.robust.release.ReleaseStage.{ReleaseStage}
pub use Rattle.steps.specs.declared.queues.roles.Role.TheVariants.{Consumer, Producer}
pub use Rattle.threaded.specs.Driver.{KeepsRule, Next as NextKnown, Owes, OwesAsk, Told as ToldOf, answered}
pub use Rattle.threaded.specs.Shares.{IsAll, Shares, all_shares}

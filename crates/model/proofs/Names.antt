-- The names of the standard library, of `steps` and of the model's definitions that proofs here and in the laws use.
pub use Rattle.model.specs.Coding.{Coding, IsCoding, one_word}
pub use Rattle.model.specs.Families.{after_of, ask_of, beside_of, first_of, goes_of, going_rows, has_owners}
pub use Rattle.model.specs.Families.{is_question, kept_after_begin, kept_after_death, opening_of, step_of, want_of}
pub use Rattle.model.specs.Families.Container.Keeping.{is_look_of}
pub use Rattle.model.specs.Families.Container.Looks.{state_in}
pub use Rattle.model.specs.Families.Indices.Robust.Dead.{dead_with, has_died}
pub use Rattle.model.specs.Families.Indices.Robust.Promises.{HeldThroughout, IsCount, IsFilled, IsFilledWith, SetDoes}
pub use Rattle.model.specs.Families.Indices.Robust.Promises.{count_below}
pub use Rattle.model.specs.Families.Indices.Robust.Reading.{Asks, Frees, IsOneOf, SetAct, Yes, filled_after, filled_of}
pub use Rattle.model.specs.Families.Indices.Robust.Reading.{set_acts, set_acts_of, wrote_in}
pub use Rattle.model.specs.Families.Loan.Opening.{is_loan}
pub use Rattle.model.specs.Families.Queues.Calls.{as_it_is, kept_at}
pub use Rattle.model.specs.Families.Queues.Objects.{bounded_list}
pub use Rattle.model.specs.Families.Queues.Reading.{waiting}
pub use Rattle.model.specs.Linearizable.{Call, IsLinearizable, Response}
pub use Rattle.model.specs.LockFree.{AreWithinEnds, Bound, IsAmong, KeepsEnding, ends, steps_in, stretch}
pub use Rattle.model.specs.Moments.{BeginsNone, HeldSometime, SinceBegin}
pub use Rattle.model.specs.Objects.{IsLegal, answers_from}
pub use Rattle.model.specs.Parties.{doing_of, flight_of, party_of, progress_after}
pub use Rattle.model.specs.Promise.{Promise}
pub use Rattle.model.specs.Promises.{IsKept, IsKeptBy, IsTurnBy}
pub use Rattle.model.specs.Promises.Bounds.{Progresses}
pub use Rattle.model.specs.Promises.Families.{promise_of}
pub use Rattle.model.specs.Promises.Spans.{Stands, StandsRight}
pub use Rattle.model.specs.Promises.Turns.{IsEffectOf, IsParty, WritesInOrder, ask_of_flight}
pub use Rattle.model.specs.Reading.{Each, Ended, Never, Open, Span, moments, own_after, span_after, span_of, whose}
pub use Rattle.model.specs.Refusals.{call_refusal, is_due, refusal_of}
pub use Rattle.model.specs.Rows.{first_row}
pub use Rattle.model.specs.Shape.{IsShut}
pub use Rattle.model.specs.Step.{Step, answer_in, as_call}
pub use Rattle.model.specs.Turns.{AreAllowed, AreAllowedOn, IsReached, IsReachedOn, after_answer, after_begin, after_decision}
pub use Rattle.model.specs.Turns.{after_next, after_step, after_turn, after_turns, ask_of_doing, change_of, doing_after}
pub use Rattle.model.specs.Turns.{ending_of, events_of, events_of_answer, events_of_decision, events_of_next}
pub use Rattle.model.specs.Turns.{events_of_step, number_of, old_of, one_if, party_after, party_at_begin, run, run_on}
pub use Rattle.model.specs.Turns.{step_count, step_in, unless_refused, words_after, world_after}
pub use Rattle.model.specs.World.{Trace, World, capacity_error, flight_in, opened, opening, progress_in, queue_error}
pub use Rattle.model.specs.declared.event.Answer.{Answer}
pub use Rattle.model.specs.declared.event.Answer.TheVariants.{Number, PoppedIndex, PoppedNone, State, Truth}
pub use Rattle.model.specs.declared.event.Event.{Event}
pub use Rattle.model.specs.declared.event.Event.TheVariants.{Acted, Asked, Begun, Claimed, Died, Filled, Finished}
pub use Rattle.model.specs.declared.event.Event.TheVariants.{Freed, FreedOf, Granted, HandedOut, Locked, Published}
pub use Rattle.model.specs.declared.event.Event.TheVariants.{Told}
pub use Rattle.model.specs.declared.event.Item.{Item}
pub use Rattle.model.specs.declared.event.Start.{Start}
pub use Rattle.model.specs.declared.event.Start.TheVariants.{Container, Queues}
pub use Rattle.model.specs.declared.families.Flight.{Flight}
pub use Rattle.model.specs.declared.families.Registry.{Registry}
pub use Rattle.model.specs.declared.families.queues.QueueKind.{QueueKind}
pub use Rattle.model.specs.declared.families.queues.QueueStart.{QueueStart}
pub use Rattle.model.specs.declared.families.queues.QueueStart.TheVariants.{PushIndex}
pub use Rattle.model.specs.declared.party.Doing.{Doing}
pub use Rattle.model.specs.declared.party.Doing.TheVariants.{Going, Over}
pub use Rattle.model.specs.declared.party.Party.{Party}
pub use Rattle.model.specs.declared.turn.Kind.{Kind}
pub use Rattle.model.specs.declared.turn.Refusal.{Refusal}
pub use Rattle.model.specs.declared.turn.Refusal.TheVariants.{BadIndex, OwnerIsDead, OwnerLives, Undecided, WrongCall}
pub use Rattle.model.specs.declared.turn.Turn.{Turn}
pub use Rattle.model.specs.declared.turn.Turn.TheVariants.{Begin, Decide, Die, Next}
pub use Rattle.std.proofs.Common.{Bool, IfSome, List, None, Option, Some, [], ap, append-nil, append_assoc, arith, cond}
pub use Rattle.std.proofs.Common.{eq-eqb, false, fold, get_or, get_or-set_other, if◌then◌else◌, inl, inr, is_none}
pub use Rattle.std.proofs.Common.{is_some, length, length-append, map, nat_lt, ne_eqb, not, option_map, refl, replicate}
pub use Rattle.std.proofs.Common.{set, slice_get, slice_index, subst, suc, sym, take, true, zero, ℕ, ⊎_elim, ◌%◌, ◌&&◌}
pub use Rattle.std.proofs.Common.{◌*◌, ◌++◌, ◌+◌, ◌-◌, ◌<◌, ◌==◌, ◌^◌, ◌||◌, ◌∙◌, ◌∷◌, ◌≡◌, ◌≢◌, ◌≤◌, ◌⊎◌}
pub use Rattle.std.proofs.lemmas.Bool.{cases_eq, cases_lt}
pub use Rattle.std.proofs.lemmas.Bool.Decides.{nat_tests}
pub use Rattle.std.proofs.lemmas.List.{append_cancel_left, length-replicate, map-append, set-get_or}
pub use Rattle.std.proofs.lemmas.List.Concat.{flat_map-append}
pub use Rattle.std.proofs.lemmas.List.Sums.{fold-append, sum_by-append}
pub use Rattle.std.specs.List.{AllByRecursion}
pub use Rattle.steps.specs.Indices.Robust.Parts.{empty, lock_after, lock_goes_back, lock_want, one_more, raise_after}
pub use Rattle.steps.specs.Indices.Robust.Parts.{raise_want}
pub use Rattle.steps.specs.Routine.{went_on}
pub use Rattle.steps.specs.declared.ask.After.{After}
pub use Rattle.steps.specs.declared.ask.After.TheVariants.{GoOn}
pub use Rattle.steps.specs.declared.ask.Ask.{Ask}
pub use Rattle.steps.specs.declared.ask.Op.TheVariants.{Exchange}
pub use Rattle.steps.specs.declared.container.state.ContainerState.{ContainerState}
pub use Rattle.steps.specs.declared.copied.OneWord.{OneWord}
pub use Rattle.steps.specs.declared.indices.enums.ReleaseMode.{ReleaseMode}
pub use Rattle.steps.specs.declared.indices.enums.ReleaseMode.TheVariants.{Default, LockIfLastIndex}
pub use Rattle.steps.specs.declared.indices.enums.ReleaseState.{ReleaseState}
pub use Rattle.steps.specs.declared.indices.robust.parts.Lock.{Lock}
pub use Rattle.steps.specs.declared.indices.robust.parts.Raise.{Raise}
pub use Rattle.steps.specs.declared.routine.Running.{Running}

-- The names of the standard library and of the crates below that proofs here use.
pub use Rattle.laws_indices.proofs.Core.{counted_in, flag_within, head_of, head_stays, held_below, holder, is_claimed}
pub use Rattle.laws_indices.proofs.Core.{one_held}
pub use Rattle.laws_indices.proofs.Knows.{AllClaimed, ReleaseAt, acquire_counts, acquire_number, release_counts}
pub use Rattle.laws_indices.proofs.Knows.{release_number, release_wrote}
pub use Rattle.laws_queues.proofs.Overflow.Core.{oldest, pop_front, pop_room, push_over, push_room, push_waits}
pub use Rattle.laws_queues.proofs.Overflow.Keeping.{fill_keeps_pop, publish_keeps_pop, take_keeps_pop}
pub use Rattle.laws_queues.proofs.Overflow.Knows.{KnowsBacks, KnowsOverflowPop, KnowsOverflowPush, overflow_pop_number}
pub use Rattle.laws_queues.proofs.Overflow.Knows.{overflow_push_number}
pub use Rattle.laws_queues.proofs.Queues.Core.{Core, GoesUp, Holds, at_below, filled, fills, front, one_filled, set_at}
pub use Rattle.laws_queues.proofs.Queues.Core.{taken}
pub use Rattle.laws_queues.proofs.Queues.Knows.{in_one, layout}
pub use Rattle.laws_queues.proofs.Ring.Knows.{KnowsPop, KnowsPush, pop_number, push_number}
pub use Rattle.model.proofs.Names.{After, AllByRecursion, Ask, Bool, Coding, Each, Ended, Exchange, GoOn, IsEffectOf}
pub use Rattle.model.proofs.Names.{IsKeptBy, IsLegal, IsParty, IsReached, IsShut, IsTurnBy, List, Never, None, OneWord}
pub use Rattle.model.proofs.Names.{Open, Option, ReleaseState, Running, Some, Span, Stands, StandsRight, Trace, []}
pub use Rattle.model.proofs.Names.{after_answer, after_begin, after_decision, after_next, after_turn, answer_in}
pub use Rattle.model.proofs.Names.{answers_from, ap, append-nil, append_assoc, as_call, as_it_is, ask_of, beside_of}
pub use Rattle.model.proofs.Names.{call_refusal, capacity_error, cases_eq, cases_lt, change_of, dead_with, doing_of}
pub use Rattle.model.proofs.Names.{ending_of, eq-eqb, events_of, events_of_answer, events_of_decision, events_of_next}
pub use Rattle.model.proofs.Names.{events_of_step, false, first_of, first_row, flat_map-append, flight_in, flight_of}
pub use Rattle.model.proofs.Names.{fold, fold-append, get_or, goes_of, going_rows, has_died, if◌then◌else◌, inl, inr}
pub use Rattle.model.proofs.Names.{is_question, is_some, kept_after_begin, kept_after_death, length, length-append}
pub use Rattle.model.proofs.Names.{length-replicate, map, map-append, moments, nat_lt, nat_tests, ne_eqb, not}
pub use Rattle.model.proofs.Names.{number_of, old_of, one_if, one_word, opened, option_map, own_after, party_after}
pub use Rattle.model.proofs.Names.{party_at_begin, queue_error, refl, refusal_of, replicate, set, set-get_or, slice_get}
pub use Rattle.model.proofs.Names.{span_of, step_count, step_of, subst, suc, sym, take, true, waiting, want_of, went_on}
pub use Rattle.model.proofs.Names.{words_after, zero, ℕ, ⊎_elim, ◌%◌, ◌&&◌, ◌*◌, ◌++◌, ◌+◌, ◌-◌, ◌<◌, ◌==◌, ◌^◌, ◌||◌}
pub use Rattle.model.proofs.Names.{◌∙◌, ◌∷◌, ◌≡◌, ◌≢◌, ◌≤◌, ◌⊎◌}
pub use Rattle.model.proofs.Parties.{party_put_other, party_put_same}
pub use Rattle.model.proofs.Readings.{AllFollow, AreOwn, AreRight, Each-append, Each-nil, span_of-death, span_of-other}
pub use Rattle.model.proofs.Readings.{span_of-own}
pub use Rattle.model.proofs.Rows.{MayBegin, MayDie, decision_passes, may_begin, may_die, next_passes, passes}
pub use Rattle.model.proofs.Scenes.{InOrder, StandsThere, asked, comes_from, in_order_from, stands_there}
pub use Rattle.model.specs.Families.{is_dead}
pub use Rattle.model.specs.Families.Loan.Bounds.{most_steps}
pub use Rattle.model.specs.Families.Loan.Calls.{after, first, give_back_of, give_up_of, loan_of, receive_of}
pub use Rattle.model.specs.Families.Loan.Calls.{reclaim_goes, reclaim_of, send_of, take_back_of, want}
pub use Rattle.model.specs.Families.Loan.Opening.{asks_for, call_rows, is_past, kept_rows, lacks_index, lacks_role}
pub use Rattle.model.specs.Families.Loan.Opening.{opening_book, opening_kept, opening_words, reclaims_early, taken_from}
pub use Rattle.model.specs.Families.Loan.Promises.{AddsOne, AnswersRight, AreThose, BeginsRight, IsChannel, IsChannelBy}
pub use Rattle.model.specs.Families.Loan.Promises.{IsIn, IsReclaiming, KeepsBook, LivesRight, MayFree, MovesRight}
pub use Rattle.model.specs.Families.Loan.Promises.{given_back_in, holder_in, promise, read_word, sent_in}
pub use Rattle.model.specs.Families.Loan.Reading.{Free, Move, Passing, Returning, Spot, Waiting, With, as_queue}
pub use Rattle.model.specs.Families.Loan.Reading.{died_after, freed, given_back, gives_back, has_died_by, move_of}
pub use Rattle.model.specs.Families.Loan.Reading.{moved, place_after, place_of, queue_acts, queue_moments}
pub use Rattle.model.specs.Families.Loan.Reading.{receiver_after, receiver_of, reclaims_after, spot_after, spot_of}
pub use Rattle.model.specs.Families.Loan.Reading.{taken_back, takes_back}
pub use Rattle.model.specs.Families.Loan.Spans.{Wrote, may_stand}
pub use Rattle.model.specs.Families.Loan.Steps.{beside, book_after, effect_of, effects_of, ended_book, give_back_effect}
pub use Rattle.model.specs.Families.Loan.Steps.{given_back_at, pending, pending_send, push_effect, read_in}
pub use Rattle.model.specs.Families.Loan.Steps.{receive_effect, reclaim_effect, release_effect, room_made, sent_at}
pub use Rattle.model.specs.Families.Loan.Steps.{take_back_effect}
pub use Rattle.model.specs.Families.Queues.Calls.{fresh, popped, words_of_index}
pub use Rattle.model.specs.Families.Queues.Objects.{answer_of_item, cut_off, overflowing_list}
pub use Rattle.model.specs.Families.Queues.Opening.{cells_of, holds, words_of_cell}
pub use Rattle.model.specs.Families.Queues.Reading.{handed_out, hands_out}
pub use Rattle.model.specs.Objects.{standing}
pub use Rattle.model.specs.Parties.{put}
pub use Rattle.model.specs.Promises.Turns.{ActsRight, IsAct, ask_in}
pub use Rattle.model.specs.declared.event.Answer.{Answer}
pub use Rattle.model.specs.declared.event.Answer.TheVariants.{Number, PoppedIndex, PoppedNone}
pub use Rattle.model.specs.declared.event.Event.{Event}
pub use Rattle.model.specs.declared.event.Event.TheVariants.{Acted, Begun, Claimed, Died, Finished, Freed, HandedOut}
pub use Rattle.model.specs.declared.event.Event.TheVariants.{Published, Returned, TakenBack}
pub use Rattle.model.specs.declared.event.Item.{Item}
pub use Rattle.model.specs.declared.event.Item.TheVariants.{Index}
pub use Rattle.model.specs.declared.event.Start.{Start}
pub use Rattle.model.specs.declared.families.Flight.{Flight}
pub use Rattle.model.specs.declared.families.Registry.{Registry}
pub use Rattle.model.specs.declared.families.loan.Book.{Book}
pub use Rattle.model.specs.declared.families.loan.LoanStart.{LoanStart}
pub use Rattle.model.specs.declared.families.loan.calls.LoanFlight.{LoanFlight}
pub use Rattle.model.specs.declared.families.loan.calls.LoanFlight.TheVariants.{GiveBack, GiveUp, Receive, Reclaim}
pub use Rattle.model.specs.declared.families.loan.calls.LoanFlight.TheVariants.{Send, TakeBack}
pub use Rattle.model.specs.declared.families.loan.effects.Effect.{Effect}
pub use Rattle.model.specs.declared.party.Doing.{Doing}
pub use Rattle.model.specs.declared.party.Doing.TheVariants.{Going}
pub use Rattle.model.specs.declared.party.Party.{Party}
pub use Rattle.model.specs.declared.turn.Turn.{Turn}
pub use Rattle.model.specs.declared.turn.Turn.TheVariants.{Begin, Decide, Die, Next}
pub use Rattle.std.proofs.Common.{AllPairs, Contains, bit_or, drop, drop_at, length-set, nat_le, true≢false}
pub use Rattle.std.proofs.lemmas.List.{get_or-append-add, get_or-map, get_or_append_left, length-map, nil_from_length}
pub use Rattle.std.proofs.lemmas.List.{set-append_left, set-append_right, take-map}
pub use Rattle.std.specs.Prelude.{Err, Ok}
pub use Rattle.steps.specs.Indices.Head.{borrowed, flag, flag_word, has_flag, locked, next_word, proposed}
pub use Rattle.steps.specs.Indices.Unique.{Acquired, acquire_asks, acquire_goes_back, acquire_sees, acquire_takes}
pub use Rattle.steps.specs.Indices.Unique.{head_given_back, head_taken}
pub use Rattle.steps.specs.Loan.Back.{back_asks, back_takes, index_in}
pub use Rattle.steps.specs.Loan.Layout.{completion_word, submission_word}
pub use Rattle.steps.specs.Loan.Parts.{part_after, shifted}
pub use Rattle.steps.specs.Loan.Places.{is_sent, next_sent, place_at, sent_within}
pub use Rattle.steps.specs.Loan.Reclaim.{reclaim_asks, reclaim_comes_to, reclaim_goes_back, reclaim_released}
pub use Rattle.steps.specs.Loan.Reclaim.{reclaim_releases}
pub use Rattle.steps.specs.Loan.Send.{inner_push, send_released, send_takes}
pub use Rattle.steps.specs.Loan.TakeBack.{take_back_released, take_back_takes}
pub use Rattle.steps.specs.Picks.{by_eq, by_test}
pub use Rattle.steps.specs.Queues.Overflow.{goes_back, move, pop_answer, pop_keeps, pop_takes}
pub use Rattle.steps.specs.Queues.Ring.{after_position, distance, load}
pub use Rattle.steps.specs.declared.ask.Op.TheVariants.{Load, Or, Store}
pub use Rattle.steps.specs.declared.ask.Want.{Want}
pub use Rattle.steps.specs.declared.indices.unique.AcquireStage.{AcquireStage}
pub use Rattle.steps.specs.declared.indices.unique.DefaultMode.{DefaultMode}
pub use Rattle.steps.specs.declared.indices.unique.Release.{Release}
pub use Rattle.steps.specs.declared.indices.unique.ReleaseStage.{ReleaseStage}
pub use Rattle.steps.specs.declared.loan.parts.Part.{Part}
pub use Rattle.steps.specs.declared.loan.places.Place.{Place}
pub use Rattle.steps.specs.declared.loan.reclaim.ReclaimStage.{ReclaimStage}
pub use Rattle.steps.specs.declared.loan.reclaim.ReclaimStage.TheVariants.{Releases}
pub use Rattle.steps.specs.declared.loan.send.SendStage.{SendStage}
pub use Rattle.steps.specs.declared.loan.take_back.TakeBackStage.{TakeBackStage}
pub use Rattle.steps.specs.declared.queues.overflow.Pop.{Pop}
pub use Rattle.steps.specs.declared.queues.ring.Push.{Push}

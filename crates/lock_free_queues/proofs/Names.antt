-- The names of the standard library and of the crates below that proofs here use.
pub use Rattle.atomic_table.specs.Seated.{TableId}
pub use Rattle.atomic_table.specs.Table.{Allows, Me, opening}
pub use Rattle.history.proofs.Alone.{OneMachine, Here, begins_any, ends_at}
pub use Rattle.history_queues.proofs.AnyRoles.{acquire_first_on, len_first_on, look_first_on, release_first_on}
pub use Rattle.history.proofs.Calls.{get_left, set_left}
pub use Rattle.history.proofs.Drives.{called}
pub use Rattle.history_queues.proofs.Holders.{IsListed, always_listed}
pub use Rattle.history_queues.proofs.Holders.{history_by_holders}
pub use Rattle.history.proofs.Known.{by_more, sum_first}
pub use Rattle.history_queues.proofs.OverflowHolders.{history_by_over_holders, history_by_producers, over_listed}
pub use Rattle.history_queues.proofs.OverflowHolders.{over_lists_kept}
pub use Rattle.history_queues.proofs.Overflows.{beside_waits, over_effects, overflow_owes}
pub use Rattle.history.proofs.Passes.{joins, one_more, set_same, splits}
pub use Rattle.history_queues.proofs.PeekHolders.{peeker}
pub use Rattle.history_queues.proofs.Peeks.{peek_first, peek_keep_all, value_peek_first, value_peek_keeps}
pub use Rattle.history.proofs.Roles.{holds_it}
pub use Rattle.history_queues.proofs.QueueCalls.{pop_first, pop_keep_all, push_first, push_keeps}
pub use Rattle.history_queues.proofs.Queues.{index_owes, plain_begins, queue_effects, queue_goes_on, ring_owes, role_begins}
pub use Rattle.history_queues.proofs.Queues.{sound_of, values_owe}
pub use Rattle.history.proofs.Roles.{granted, role_by}
pub use Rattle.history.proofs.Turns.{MachineLaws, machine_laws}
pub use Rattle.history_queues.proofs.ValueQueueCalls.{value_pop_first, value_pop_keeps, value_push_first, value_push_keeps}
pub use Rattle.history.specs.History.{Called, IsBeginning, IsHistory, IsMachine, IsRun, LastStep, call_in}
pub use Rattle.history.specs.Known.{events_by, owned}
pub use Rattle.history_queues.specs.Overflow.{over_push_skips, over_push_wrote, pops_over, pushes_over}
pub use Rattle.history.specs.Passes.{Goes, MissesNothing}
pub use Rattle.history_queues.specs.Queues.{counts_waiting, gives_role, length_start, looks_role, peeks_index, pop_wrote}
pub use Rattle.history_queues.specs.Queues.{pops_index, push_skips}
pub use Rattle.history_queues.specs.Queues.{push_wrote, pushes_index, takes_role}
pub use Rattle.history.specs.Roles.{ByHolder, ByHolderOf, HasRole, acquire_start, gives, holder, holder_by, look_start}
pub use Rattle.history.specs.Roles.{marks, release_start}
pub use Rattle.history.specs.Roles.{role_after, role_word, takes}
pub use Rattle.history.specs.Stages.{At, Calling, Ends, LeftOut, Over, Since, opened}
pub use Rattle.history_queues.specs.ValueQueue.{peeks_value, pops_value, pushes_value, value_pop_wrote, value_push_wrote}
pub use Rattle.history.specs.Rooms.{value_there}
pub use Rattle.history.specs.Views.{Looks, LooksAt, first_view, joined_view}
pub use Rattle.history.specs.declared.view.View.{View}
pub use Rattle.laws_queues.proofs.Queues.Core.{cell_within, take_all}
pub use Rattle.laws_queues.proofs.Queues.Invariant.{family, machine_kind, waiting_is}
pub use Rattle.laws_queues.proofs.Queues.Knows.{Hangs, free, layout}
pub use Rattle.model.specs.Fresh.{IsFreshCall}
pub use Rattle.laws_queues.proofs.Queues.Values.{Val, encoded, item}
pub use Rattle.laws_queues.proofs.Ring.Kinds.{Ring, Room, are_words, flight, kind_of, of_indices, of_values, put_in}
pub use Rattle.laws_queues.proofs.Ring.Kinds.{read_in, with_word, words_in}
pub use Rattle.model.specs.Coding.{Coding, IsCoding, coding_by, one_word}
pub use Rattle.model.specs.Families.{after_of, beside_of, first_of, opening_of, want_of}
pub use Rattle.model.specs.Families.Queues.Calls.{fresh_cell, length_answer, popped, popped_value}
pub use Rattle.model.specs.Families.Queues.Opening.{cells_of, lacks_role, words_of_cell}
pub use Rattle.model.specs.Families.Queues.Reading.{handed_out, hands_out, producer_of, published, publishes, waiting}
pub use Rattle.model.specs.Families.Queues.Roles.{GrantsRight}
pub use Rattle.model.specs.Families.Queues.Steps.{pending}
pub use Rattle.model.specs.Reading.{Each}
pub use Rattle.model.specs.World.{Trace, World, capacity_error}
pub use Rattle.model.specs.declared.event.Answer.{Answer}
pub use Rattle.model.specs.declared.event.Answer.TheVariants.{PoppedIndex, PoppedNone, Truth}
pub use Rattle.model.specs.declared.event.Event.{Event}
pub use Rattle.model.specs.declared.event.Event.TheVariants.{Acted, Begun, Finished, HandedOut, Published}
pub use Rattle.model.specs.declared.event.Item.{Item}
pub use Rattle.model.specs.declared.event.Item.TheVariants.{Index, Value}
pub use Rattle.model.specs.declared.event.Start.{Start}
pub use Rattle.model.specs.declared.event.Start.TheVariants.{Queues}
pub use Rattle.model.specs.declared.families.Flight.{Flight}
pub use Rattle.model.specs.declared.families.queues.QueueKind.{QueueKind}
pub use Rattle.model.specs.declared.families.queues.QueueKind.TheVariants.{IndexQueue, Overflow, Queue}
pub use Rattle.model.specs.declared.families.queues.QueueStart.TheVariants.{Peek, Pop, PushIndex}
pub use Rattle.model.specs.declared.families.queues.calls.LengthOf.{LengthOf}
pub use Rattle.model.specs.declared.turn.Kind.{Kind}
pub use Rattle.plain_queues.specs.Overflowing.{list_in}
pub use Rattle.std.proofs.Common.{Bool, IfNone, IfOk, IfSome, List, None, Option, Some, [], ap, append-nil}
pub use Rattle.std.proofs.Common.{append_assoc, arith, drop, false, get_or, get_or-set_other}
pub use Rattle.std.proofs.Common.{get_or-set_same, inl, inr, length, length-set, map, max, min, nat_lt, refl, replicate}
pub use Rattle.std.proofs.Common.{rules, set, slice_get, slice_index, slice_set, subst, suc, sum_by, sym, take, true}
pub use Rattle.std.proofs.Common.{zero, ℕ, ⊎_elim, ◌%◌, ◌*◌, ◌++◌, ◌+◌, ◌-◌, ◌<◌, ◌==◌, ◌^◌, ◌∙◌, ◌∷◌, ◌≡◌, ◌≢◌, ◌≤◌}
pub use Rattle.std.proofs.Common.{◌⊎◌}
pub use Rattle.std.proofs.Math.Nat.{mod-eq_of_lt, mul-add-mod_self_left, mul-le-mul_left}
pub use Rattle.std.proofs.lemmas.Bool.{cases_eq, cases_lt}
pub use Rattle.std.proofs.lemmas.Bool.Decides.{nat_tests}
pub use Rattle.std.proofs.lemmas.Grind.{common_steps, flat_map-append}
pub use Rattle.std.proofs.lemmas.List.{get_or_append_left, length-drop, length-map, length-replicate, take-append-le}
pub use Rattle.std.proofs.lemmas.List.{take-replicate}
pub use Rattle.std.proofs.lemmas.List.Sums.{fold-append, sum_by-append}
pub use Rattle.std.proofs.lemmas.Option.{slice_get-map, slice_get_within}
pub use Rattle.std.specs.List.{flat_map}
pub use Rattle.std.specs.Option.{option_map}
pub use Rattle.steps.specs.Ask.{written}
pub use Rattle.steps.specs.Copied.{value_in}
pub use Rattle.steps.specs.Queues.Lengths.{first_len, len_after, len_want}
pub use Rattle.steps.specs.Queues.Overflow.{push_answer}
pub use Rattle.steps.specs.Queues.Ring.{after_position, distance, pop_asks, word_at}
pub use Rattle.steps.specs.declared.ask.After.{After}
pub use Rattle.steps.specs.declared.ask.After.TheVariants.{GoOn}
pub use Rattle.steps.specs.declared.ask.Ask.{Ask}
pub use Rattle.steps.specs.declared.ask.Op.TheVariants.{Exchange, Load, Store}
pub use Rattle.steps.specs.declared.copied.OneWord.{OneWord}
pub use Rattle.steps.specs.declared.queues.overflow.PushEnd.{PushEnd}
pub use Rattle.steps.specs.declared.queues.roles.Role.{Role}
pub use Rattle.steps.specs.declared.queues.roles.Role.TheVariants.{Consumer, Producer}
pub use Rattle.threaded.specs.Driver.{KeepsRule}
pub use Rattle.threaded.specs.Seats.{seen}
pub use Rattle.threaded.specs.Shares.{IsAll}

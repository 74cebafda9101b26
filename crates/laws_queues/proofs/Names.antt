-- The names of the standard library and of the crates below that proofs here use.
pub use Rattle.model.proofs.Frame.{Family, Sound}
pub use Rattle.model.proofs.Moments.{held_later, held_now, held_so, others_begin_none}
pub use Rattle.model.proofs.Names.{After, Ask, BeginsNone, Bool, Coding, Each, Ended, Exchange, GoOn, HeldSometime}
pub use Rattle.model.proofs.Names.{IsCoding, IsKept, IsLegal, List, None, OneWord, Open, Option, Running, Some, Span}
pub use Rattle.model.proofs.Names.{Stands, Trace, [], after_turn, answer_in, answers_from, ap, append-nil, append_assoc}
pub use Rattle.model.proofs.Names.{as_call, as_it_is, ask_of, call_refusal, capacity_error, cases_eq, cases_lt}
pub use Rattle.model.proofs.Names.{change_of, cond, doing_of, ending_of, false, first_of, first_row, flight_of, fold}
pub use Rattle.model.proofs.Names.{get_or, get_or-set_other, goes_of, if◌then◌else◌, inl, inr, is_none, is_question}
pub use Rattle.model.proofs.Names.{kept_after_begin, kept_at, length, length-append, length-replicate, map, map-append}
pub use Rattle.model.proofs.Names.{moments, nat_lt, nat_tests, not, old_of, one_if, one_word, opening, opening_of}
pub use Rattle.model.proofs.Names.{option_map, own_after, party_after, party_at_begin, party_of, refl, replicate}
pub use Rattle.model.proofs.Names.{run_on, set, set-get_or, slice_get, span_of, step_count, step_of, subst, suc, sym}
pub use Rattle.model.proofs.Names.{take, true, unless_refused, waiting, want_of, went_on, words_after, zero, ℕ, ⊎_elim}
pub use Rattle.model.proofs.Names.{◌%◌, ◌*◌, ◌++◌, ◌+◌, ◌-◌, ◌<◌, ◌==◌, ◌^◌, ◌||◌, ◌∙◌, ◌∷◌, ◌≡◌, ◌≢◌, ◌≤◌, ◌⊎◌}
pub use Rattle.model.proofs.Readings.{AllFollow, AreOwn, AreRight, Each-append, Each-nil, span_of-other, span_of-own}
pub use Rattle.model.proofs.Rows.{MayBegin, row_passed}
pub use Rattle.model.proofs.Scenes.{ComesFrom, StandsThere}
pub use Rattle.model.specs.Families.Queues.Book.{AnswersRight, cell_of, item_at, stored, waiting_in}
pub use Rattle.model.specs.Families.Queues.Bounds.{most_steps}
pub use Rattle.model.specs.Families.Queues.Calls.{acquire_of, after, consumer_word, first, goes_back, length_answer}
pub use Rattle.model.specs.Families.Queues.Calls.{look_of, popped, producer_word, read_word, release_of, want, words_of_index}
pub use Rattle.model.specs.Families.Queues.Calls.{write_word}
pub use Rattle.model.specs.Families.Queues.Lengths.{TellsLength}
pub use Rattle.model.specs.Families.Queues.Objects.{answer_of_item, appended, cut, cut_off, list_of}
pub use Rattle.model.specs.Families.Queues.Opening.{call_of, cells_of, lacks_role, words_of_cell}
pub use Rattle.model.specs.Families.Queues.Promises.{AddsOne, IsQueue, finding_none, load_of_read, load_of_write}
pub use Rattle.model.specs.Families.Queues.Promises.{promise}
pub use Rattle.model.specs.Families.Queues.Reading.{consumer_after, consumer_of, handed_out, hands_out, producer_after}
pub use Rattle.model.specs.Families.Queues.Reading.{producer_of, published, publishes}
pub use Rattle.model.specs.Families.Queues.Roles.{GrantsRight, KeepsHolders}
pub use Rattle.model.specs.Families.Queues.Spans.{Wrote, push_of, through_cells}
pub use Rattle.model.specs.Families.Queues.Steps.{acts_if_done, beside, effect_of, effects_of, pending, pending_at}
pub use Rattle.model.specs.Families.Queues.Steps.{pop_effect, push_effect, roles_after, takes_effect}
pub use Rattle.model.specs.Objects.{standing}
pub use Rattle.model.specs.Parties.{put}
pub use Rattle.model.specs.Reading.{acts}
pub use Rattle.model.specs.Turns.{attempt_on}
pub use Rattle.model.specs.declared.event.Answer.{Answer}
pub use Rattle.model.specs.declared.event.Answer.TheVariants.{PoppedIndex, PoppedNone}
pub use Rattle.model.specs.declared.event.Event.{Event}
pub use Rattle.model.specs.declared.event.Event.TheVariants.{Acted, Begun, Finished, HandedOut, Published}
pub use Rattle.model.specs.declared.event.Item.{Item}
pub use Rattle.model.specs.declared.event.Item.TheVariants.{Index, Value}
pub use Rattle.model.specs.declared.event.Start.{Start}
pub use Rattle.model.specs.declared.event.Start.TheVariants.{Queues}
pub use Rattle.model.specs.declared.families.Flight.{Flight}
pub use Rattle.model.specs.declared.families.Registry.{Registry}
pub use Rattle.model.specs.declared.families.queues.QueueKind.{QueueKind}
pub use Rattle.model.specs.declared.families.queues.QueueKind.TheVariants.{IndexQueue, Queue}
pub use Rattle.model.specs.declared.families.queues.QueueStart.{QueueStart}
pub use Rattle.model.specs.declared.families.queues.QueueStart.TheVariants.{AcquireConsumer, AcquireProducer}
pub use Rattle.model.specs.declared.families.queues.QueueStart.TheVariants.{HasConsumer, HasProducer, IsEmpty, IsFull}
pub use Rattle.model.specs.declared.families.queues.QueueStart.TheVariants.{Peek, Pop, Push, PushIndex}
pub use Rattle.model.specs.declared.families.queues.QueueStart.TheVariants.{ReleaseConsumer, ReleaseProducer}
pub use Rattle.model.specs.declared.families.queues.Roles.{Roles}
pub use Rattle.model.specs.declared.families.queues.calls.LengthOf.{LengthOf}
pub use Rattle.model.specs.declared.families.queues.calls.QueueFlight.{QueueFlight}
pub use Rattle.model.specs.declared.families.queues.calls.QueueFlight.TheVariants.{Indices, Length, Role, Values}
pub use Rattle.model.specs.declared.families.queues.calls.RingCall.{RingCall}
pub use Rattle.model.specs.declared.families.queues.calls.RoleCall.{RoleCall}
pub use Rattle.model.specs.declared.families.queues.calls.RoleCall.TheVariants.{Acquire, Look, Release}
pub use Rattle.model.specs.declared.families.queues.effects.Effect.{Effect}
pub use Rattle.model.specs.declared.families.queues.effects.Effect.TheVariants.{Acts, MakesRoom, Publishes}
pub use Rattle.model.specs.declared.families.queues.effects.Effect.TheVariants.{PublishesAndActs, Quiet, TakesOut}
pub use Rattle.model.specs.declared.party.Doing.TheVariants.{Going, Over}
pub use Rattle.model.specs.declared.party.Party.{Party}
pub use Rattle.model.specs.declared.turn.Kind.{Kind}
pub use Rattle.model.specs.declared.turn.Turn.{Turn}
pub use Rattle.model.specs.declared.turn.Turn.TheVariants.{Next}
pub use Rattle.std.proofs.Common.{drop, get_or-set_same, length-drop, length-set}
pub use Rattle.std.proofs.Math.Seq.{take-append_seam, take-nil}
pub use Rattle.std.proofs.lemmas.List.{drop_at, length-map, nil_from_length, take-append-le, take-map}
pub use Rattle.steps.specs.Copied.{kept_in_one, one_put_in, value_in}
pub use Rattle.steps.specs.Queues.Lengths.{first_len, number_waiting}
pub use Rattle.steps.specs.Queues.Peek.{peek_after, peek_kept, peek_want}
pub use Rattle.steps.specs.Queues.Ring.{after_position, distance, pop_after, pop_kept, pop_want, push_after, push_want}
pub use Rattle.steps.specs.Queues.Ring.{word_at}
pub use Rattle.steps.specs.declared.ask.After.TheVariants.{Done}
pub use Rattle.steps.specs.declared.ask.Op.TheVariants.{Load, Store}
pub use Rattle.steps.specs.declared.copied.Buffer.{Buffer}
pub use Rattle.steps.specs.declared.queues.lengths.Len.{Len}
pub use Rattle.steps.specs.declared.queues.lengths.LenStage.{LenStage}

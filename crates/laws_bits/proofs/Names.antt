-- The names of the standard library and of the crates below that proofs here use.
pub use Rattle.model.proofs.Moments.{held_later, held_now, others_begin_none, since_more, since_so}
pub use Rattle.model.proofs.Names.{After, AllByRecursion, Ask, BeginsNone, Bool, Coding, Each, Ended, Exchange, GoOn}
pub use Rattle.model.proofs.Names.{HeldSometime, IsEffectOf, IsReachedOn, List, Never, None, OneWord, Open, Option}
pub use Rattle.model.proofs.Names.{SinceBegin, Some, Span, Stands, Trace, [], answer_in, ap, append-nil, append_assoc}
pub use Rattle.model.proofs.Names.{as_call, ask_of, cases_eq, cases_lt, change_of, cond, doing_after, ending_of, false}
pub use Rattle.model.proofs.Names.{first_of, fold, fold-append, get_or, get_or-set_other, goes_of, inl, inr, is_loan}
pub use Rattle.model.proofs.Names.{is_question, length, length-replicate, map, nat_lt, nat_tests, old_of, one_if}
pub use Rattle.model.proofs.Names.{opening_of, own_after, refl, replicate, set, set-get_or, span_of, step_count}
pub use Rattle.model.proofs.Names.{step_of, subst, suc, sum_by-append, sym, true, want_of, words_after, zero, ℕ, ⊎_elim}
pub use Rattle.model.proofs.Names.{◌%◌, ◌*◌, ◌++◌, ◌+◌, ◌-◌, ◌<◌, ◌==◌, ◌^◌, ◌∙◌, ◌∷◌, ◌≡◌, ◌≢◌, ◌≤◌, ◌⊎◌}
pub use Rattle.model.proofs.Orders.{Keeps, Orders}
pub use Rattle.model.proofs.Readings.{AllFollow, AreOwn, AreRight, Each-append, Each-nil, span_of-other, span_of-own}
pub use Rattle.model.specs.Families.Bits.Bounds.{most_bits_steps, most_counts_steps}
pub use Rattle.model.specs.Families.Bits.Calls.{after, first, goes_back, want}
pub use Rattle.model.specs.Families.Bits.Opening.{bits_words, counts_words, is_past}
pub use Rattle.model.specs.Families.Bits.Promises.{BitsAnswerRight, BitsWrote, CameTo, CountsAnswerOn}
pub use Rattle.model.specs.Families.Bits.Promises.{CountsAnswerRight, HasCleared, HasTaken, HasTakenOn, IsBitSet}
pub use Rattle.model.specs.Families.Bits.Promises.{IsCountingOn, IsCountingSet, bits_promise, counts_promise}
pub use Rattle.model.specs.Families.Bits.Reading.{clears, count_at, counts, is_clear_of, is_count_of, is_set_of}
pub use Rattle.model.specs.Families.Bits.Reading.{position_after, position_of, sets, standing, take_of, takes}
pub use Rattle.model.specs.Families.Bits.Steps.{effects_of, reset_events, set_events, take_events}
pub use Rattle.model.specs.declared.event.Answer.{Answer}
pub use Rattle.model.specs.declared.event.Event.{Event}
pub use Rattle.model.specs.declared.event.Event.TheVariants.{Begun, Cleared, Counted, Finished, TakenOut}
pub use Rattle.model.specs.declared.event.Start.{Start}
pub use Rattle.model.specs.declared.event.Start.TheVariants.{Bits}
pub use Rattle.model.specs.declared.families.Flight.{Flight}
pub use Rattle.model.specs.declared.families.Registry.{Registry}
pub use Rattle.model.specs.declared.families.bits.BitsStart.{BitsStart}
pub use Rattle.model.specs.declared.families.bits.calls.BitsFlight.{BitsFlight}
pub use Rattle.model.specs.declared.families.bits.calls.BitsFlight.TheVariants.{Count, ResetNext, TakeAll}
pub use Rattle.model.specs.declared.party.Party.{Party}
pub use Rattle.model.specs.declared.turn.Turn.TheVariants.{Next}
pub use Rattle.std.proofs.Common.{get_or-set_same, length-set, ◌/◌}
pub use Rattle.std.proofs.lemmas.List.Sums.{sum_by-cons}
pub use Rattle.std.specs.List.{count_by, filter, range_with_len}
pub use Rattle.steps.proofs.Flags.Words.{cleared_clear, cleared_leaves, elements_after, none_stands, set_leaves}
pub use Rattle.steps.proofs.Flags.Words.{set_stands, stands_elsewhere, swapped_clear}
pub use Rattle.steps.specs.Bits.BitSet.{at_most, place_after}
pub use Rattle.steps.specs.Bits.Places.{first_place, places_in}
pub use Rattle.steps.specs.Bits.Words.{element_of, elements, has_flag, stands, with_flag, without_flag}
pub use Rattle.steps.specs.declared.ask.After.TheVariants.{Done}
pub use Rattle.steps.specs.declared.ask.Op.TheVariants.{Add, Load, Store, Swap}
pub use Rattle.steps.specs.declared.bits.bit_set.ResetNextStage.{ResetNextStage}
pub use Rattle.steps.specs.declared.bits.bit_set.SetStage.{SetStage}

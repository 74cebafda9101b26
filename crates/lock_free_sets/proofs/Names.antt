-- The names of the standard library and of the crates below that proofs here use.
pub use Rattle.atomic_table.specs.Seated.{TableId}
pub use Rattle.atomic_table.specs.Table.{Me, opening}
pub use Rattle.history.proofs.Drives.{Driven, IsCallBy, KeepsEnds, called, goes, keeps_to_end}
pub use Rattle.history.proofs.Held.{held_by, holds_once}
pub use Rattle.history.proofs.Passes.{joins, splits}
pub use Rattle.history.specs.Held.{Holds, claims, frees}
pub use Rattle.history.specs.History.{Called, Continues, IsBeginning, IsHistory, IsMachine, IsOfParties}
pub use Rattle.history_indices.specs.Indices.{counts_out, given_by, gives_index, gives_or_locks, looks_locked, takes_index}
pub use Rattle.history.specs.Known.{events_by}
pub use Rattle.history.specs.Stages.{At, Calling, Ends}
pub use Rattle.history.specs.Views.{Looks, LooksOnce, first_view, joined_view}
pub use Rattle.history.specs.declared.view.View.{View}
pub use Rattle.laws_bits.proofs.Bits.Justified.{bits_go_on}
pub use Rattle.laws_bits.proofs.Counts.Justified.{counts_go_on}
pub use Rattle.model.specs.Coding.{one_word}
pub use Rattle.model.specs.Families.{after_of, first_of, opening_of}
pub use Rattle.model.specs.Families.Bits.Promises.{IsBitSet, IsCountingOn}
pub use Rattle.model.specs.Families.Queues.Calls.{fresh}
pub use Rattle.model.specs.Moments.{BeginsNone, SinceBegin}
pub use Rattle.model.specs.World.{Trace}
pub use Rattle.model.specs.declared.event.Answer.{Answer}
pub use Rattle.model.specs.declared.event.Answer.TheVariants.{Index, NoIndex, Number, ResetNone, State, Truth}
pub use Rattle.model.specs.declared.event.Event.{Event}
pub use Rattle.model.specs.declared.event.Event.TheVariants.{Begun, Claimed, Cleared, Finished, Freed}
pub use Rattle.model.specs.declared.event.Start.{Start}
pub use Rattle.model.specs.declared.event.Start.TheVariants.{Bits, Indices}
pub use Rattle.model.specs.declared.families.bits.BitsStart.TheVariants.{ResetAll, ResetNext, Set}
pub use Rattle.model.specs.declared.turn.Kind.{Kind}
pub use Rattle.std.proofs.Common.{Bool, Err, IfSome, List, None, Ok, Option, Some, [], ap, append-nil, append_assoc}
pub use Rattle.std.proofs.Common.{arith, cond, false, fold, if◌then◌else◌, inl, length, map, nat_le, nat_lt, refl}
pub use Rattle.std.proofs.Common.{rules, subst, suc, sym, take, true, true≢false, zero, ℕ, ⊎_elim, ◌++◌, ◌+◌, ◌-◌, ◌<◌}
pub use Rattle.std.proofs.Common.{◌==◌, ◌^◌, ◌∙◌, ◌∷◌, ◌≡◌, ◌≢◌, ◌≤◌}
pub use Rattle.std.proofs.lemmas.Bool.{cases_lt}
pub use Rattle.std.proofs.lemmas.Bool.Decides.{nat_tests}
pub use Rattle.std.proofs.lemmas.Fn.{FoldsTo-push}
pub use Rattle.std.proofs.lemmas.List.{map-append}
pub use Rattle.std.proofs.lemmas.List.Elements.{All-cons, All-nil, All-push, All-weaker}
pub use Rattle.std.proofs.lemmas.List.Quantifiers.{all_pairs_push}
pub use Rattle.std.proofs.lemmas.List.Sums.{fold-append, sum_by-append, sum_by-cons, sum_by_push}
pub use Rattle.std.specs.List.{All, FoldsTo, range_with_len}
pub use Rattle.steps.specs.Bits.Words.{element_of, elements, has_flag}
pub use Rattle.steps.specs.Indices.Unique.{Acquired, first_release}
pub use Rattle.steps.specs.Picks.{by_test}
pub use Rattle.steps.specs.declared.ask.After.{After}
pub use Rattle.steps.specs.declared.ask.Ask.{Ask}
pub use Rattle.steps.specs.declared.bits.counting_bit_set.BitState.{BitState}
pub use Rattle.steps.specs.declared.bits.reset_all.ResetAll.{ResetAll as Emptying}
pub use Rattle.steps.specs.declared.copied.OneWord.{OneWord}
pub use Rattle.steps.specs.declared.indices.enums.ReleaseState.{ReleaseState}
pub use Rattle.steps.specs.declared.indices.enums.ReleaseState.TheVariants.{Locked, Unlocked}
pub use Rattle.steps.specs.declared.indices.enums.UniqueIndexSetAcquireFailure.{UniqueIndexSetAcquireFailure}
pub use Rattle.threaded.specs.Driver.{OwesAsk, answered}
pub use Rattle.threaded.specs.Seats.{seen}
pub use Rattle.threaded.specs.Shares.{IsAll}

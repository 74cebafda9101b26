-- The names of the standard library and of the crates below that proofs here use.
pub use Rattle.lock_free.proofs.Unique.Pools.{both_hold, holds_none, holds_more, holds_next, holds_rest, holds_last, holds_apart, none_out}
pub use Rattle.lock_free.specs.Event.{Event}
pub use Rattle.lock_free.specs.History.{IsBeginning}
pub use Rattle.lock_free.specs.HistoryView.View.{View}
pub use Rattle.lock_free.specs.Queues.Item.TheVariants.{Index}
pub use Rattle.lock_free.specs.Queues.Contracts.{HasPopped}
pub use Rattle.lock_free.specs.Queues.Views.{first_view}
pub use Rattle.lock_free.specs.Share.{Share}
pub use Rattle.lock_free.specs.Shares.{IsAll, all_shares, both_of, half_of}
pub use Rattle.lock_free.specs.Sums.{sets}
pub use Rattle.lock_free.specs.Unique.Held.{IsSound}
pub use Rattle.lock_free.specs.Unique.Pools.{Holding}
pub use Rattle.lock_free.specs.Value.Opened.{opened_view}
pub use Rattle.lock_free.proofs.Queues.Passed.{index_tells}
pub use Rattle.lock_free.proofs.Queues.Relays.{receiving_none, receiving_one, receiving_still, received_all}
pub use Rattle.lock_free.proofs.Queues.Relays.{relayed, left_over}
pub use Rattle.lock_free.proofs.Queues.Relays.{sending_none, sending_one, sending_next, sending_still, sent_all}
pub use Rattle.lock_free.specs.Queues.Relays.{Sending, Receiving, Sent, Received}
pub use Rattle.std.proofs.Common.{rules, arith, refl, ◌≡◌, length, drop, take}
pub use Rattle.std.proofs.lemmas.Grind.{common_steps}
pub use Rattle.std.proofs.lemmas.List.Concat.{flat_map-append}
pub use Rattle.std.proofs.lemmas.List.Elements.{All-nil, All-push}
pub use Rattle.std.proofs.lemmas.List.Sums.{sum_by-append, sum_by_push}
pub use Rattle.std.proofs.lemmas.List.{take_more}
pub use Rattle.std.proofs.lemmas.Result.{IfOk-at_ok}
pub use Rattle.std.specs.List.{All}
pub use Rattle.std.specs.Option.{option_map}
pub use Rattle.std.specs.Prelude.{slice_get}
pub use Rattle.steps.specs.Objects.Lists.{front}

-- The names of the standard library and of the crates below that proofs here use.
pub use Rattle.std.proofs.Math.Nat.{mul-le-mul_left, mul-le-mul_right}
pub use Rattle.std.proofs.lemmas.Bool.{cases_Bool, cases_lt}
pub use Rattle.std.proofs.lemmas.Bool.Decides.{eqb_tells, nat_tests}
pub use Rattle.std.proofs.lemmas.List.{append-nil, append_assoc, drop-set-lt, get_or-map, get_or_past, length-append}
pub use Rattle.std.proofs.lemmas.List.{length-drop, length-map, length-replicate, map-set, set-get_or, take-set-le}
pub use Rattle.std.proofs.lemmas.List.Sums.{fold-append}
pub use Rattle.std.specs.List.{FoldsTo, range_with_len}
unfoldable pub use Rattle.std.specs.List.{IsDistinct}
pub use Rattle.steps.proofs.Flags.Words.{with_leaves, with_stands, without_clear, without_leaves}
pub use Rattle.steps.specs.Container.Layout.{change_word, count_word, element_word, is_even}
pub use Rattle.steps.specs.Objects.Places.{Places, standing, standing_from}
pub use Rattle.steps.specs.Picks.{by_either, by_eq, by_test}
pub use Rattle.steps.specs.Queues.Ring.{after_position, distance, load, word_at}
pub use Rattle.steps.specs.declared.ask.After.{After}
pub use Rattle.steps.specs.declared.ask.After.TheVariants.{Done, GoOn}
pub use Rattle.steps.specs.declared.ask.Question.{Question}
pub use Rattle.steps.specs.declared.ask.Want.{Want}
pub use Rattle.steps.specs.declared.bits.reset_all.ResetAll.{ResetAll}
pub use Rattle.steps.specs.declared.container.handle.ContainerHandle.{ContainerHandle}
pub use Rattle.steps.specs.declared.copied.Buffer.{Buffer}
pub use Rattle.steps.specs.declared.indices.enums.ReleaseMode.{ReleaseMode}
pub use Rattle.steps.specs.declared.indices.enums.ReleaseMode.TheVariants.{Default, LockIfLastIndex}
pub use Rattle.steps.specs.declared.indices.enums.ReleaseState.{ReleaseState}
pub use Rattle.steps.specs.declared.indices.enums.ReleaseState.TheVariants.{Locked, Unlocked}
pub use Rattle.steps.specs.declared.indices.robust.release.GiveBack.{GiveBack}
pub use mathlib.Core.Logic.{dite}
pub use native.Mathlib.Decide.{ℕ_discrete}

-- What clauses see of `News`, a bit set with a flag for each topic: how many topics there are, and what a
-- notifier and a listener know of the flags.
use Rattle.std.specs.Prelude.{ℕ, Bool, IsFalse}
use Rattle.lock_free_sets.specs.Bits.Calls.{capacity_of}
use Rattle.lock_free_sets.specs.Bits.Handles.{knows, set_in}
use Rattle.lock_free_sets.specs.Bits.Contracts.{HasSet, StoodOnce}
use Rattle.history.specs.declared.view.View.{View}
use Rattle.zero_copy_bus.specs.declared.news.News.{News}
use Rattle.zero_copy_bus.specs.declared.news.Notifier.{Notifier}
use Rattle.zero_copy_bus.specs.declared.news.Listener.{Listener}

-- how many topics there are
abbrev pub topics_of : News → ℕ
topics_of news = capacity_of news.flags

-- how many topics the notifier's bit set has
abbrev pub topics_notified : Notifier → ℕ
topics_notified notifier = capacity_of (set_in notifier.flags)

-- how many topics the listener's bit set has
abbrev pub topics_heard : Listener → ℕ
topics_heard listener = capacity_of (set_in listener.flags)

-- all that the notifier's handle knows of the flags
abbrev pub notifier_view : Notifier → View ℕ
notifier_view notifier = knows notifier.flags

-- all that the listener's handle knows of the flags
abbrev pub listener_view : Listener → View ℕ
listener_view listener = knows listener.flags

-- A call `set` of the topic's flag was made. If it answered false, the flag stood at a moment of the call.
pub record HasNotified (topic : ℕ) (old new : View ℕ) : Type 0 where
  pub answer : Bool
  pub set : HasSet topic answer old new
  pub stood : IsFalse answer → StoodOnce topic new

-- How a party's latest call progresses, whatever its kind.
use Rattle.std.proofs.Common.{◌≡◌, ◌≤◌, ℕ, Option, Some, None, subst, arith}
use Rattle.model.specs.declared.event.Start.{Start}
use Rattle.model.specs.declared.party.Progress.{Progress}
use Rattle.model.specs.declared.turn.Kind.{Kind}
use Rattle.model.specs.Progress.{Guarantee, IsWithin, LatestIsWithin}
use Rattle.model.specs.Promise.{Promise}
use Rattle.model.specs.Promises.Bounds.{IsBounded, Progresses}
use Rattle.model.specs.Promises.Families.{promise_of}
use Rattle.model.specs.Reading.{Span, Never, Open, Ended}
use Rattle.headline.specs.Bounds.{most_steps}
use Rattle.headline.specs.Moments.{call_in}

module _ {T : Type 0} where
  -- a call has begun a turn of a loop again at most as often as its `others` says
  pub pays : (promise : Promise T) (capacity size : ℕ) (span : Span T) (o : Option Progress) (g : Progress)
      → Progresses promise capacity size span o → o ≡ Some g → g.backs ≤ g.others
  pays promise capacity size Never None g progresses some_is = absurd (cc)
  pays promise capacity size Never (Some x) g progresses some_is = absurd progresses
  pays promise capacity size (Open start wrote) None g progresses some_is = absurd progresses
  pays promise capacity size (Open start wrote) (Some x) g progresses some_is =
      let is : x ≡ g = cc in rw (← is) progresses.0.backs
  pays promise capacity size (Ended start answer wrote) None g progresses some_is = absurd progresses
  pays promise capacity size (Ended start answer wrote) (Some x) g progresses some_is =
      let is : x ≡ g = cc in rw (← is) progresses.0.backs

  -- The bound of a call's steps, for a call and counts that are equal to those whose bound is known.
  bounds : (promise : Promise T) (capacity size : ℕ) (call start : Start T) (x g : Progress) → call ≡ start → x ≡ g
      → IsBounded promise capacity size call x → g.steps ≤ promise.most_steps capacity size start g.backs
  bounds promise capacity size call start x g name same bounded =
      rw (← name) (rw (← same) bounded.steps)

  -- a call has taken at most the steps that its family promises
  pub is_bounded : (promise : Promise T) (capacity size : ℕ) (span : Span T) (o : Option Progress) (start : Start T) (g : Progress)
      → Progresses promise capacity size span o → call_in span ≡ Some start → o ≡ Some g
      → g.steps ≤ promise.most_steps capacity size start g.backs
  is_bounded promise capacity size Never o start g progresses name some_is = absurd (cc)
  is_bounded promise capacity size (Open call wrote) None start g progresses name some_is = absurd progresses
  is_bounded promise capacity size (Open call wrote) (Some x) start g progresses name some_is =
      bounds promise capacity size call start x g (cc) (cc) progresses.0
  is_bounded promise capacity size (Ended call answer wrote) None start g progresses name some_is = absurd progresses
  is_bounded promise capacity size (Ended call answer wrote) (Some x) start g progresses name some_is =
      bounds promise capacity size call start x g (cc) (cc) progresses.0

  -- the bound that the family promises is the one of the kind
  pub most_promised : (kind : Kind) (capacity size : ℕ) (start : Start T) (backs : ℕ)
      → (promise_of kind).most_steps capacity size start backs ≡ most_steps kind capacity size start backs
  most_promised = grind arith

  -- A call keeps within its guarantee, for a call and counts that are equal to those of which it is known.
  keeps : (guarantee : Start T → Guarantee) (call start : Start T) (x g : Progress) → call ≡ start → x ≡ g
      → IsWithin (guarantee call) x → IsWithin (guarantee start) g
  keeps guarantee call start x g name same within =
      rw (← name) (subst (IsWithin (guarantee call)) same within)

  -- a call keeps within its guarantee
  pub is_guaranteed : (guarantee : Start T → Guarantee) (span : Span T) (o : Option Progress) (start : Start T) (g : Progress)
      → LatestIsWithin guarantee span o → call_in span ≡ Some start → o ≡ Some g → IsWithin (guarantee start) g
  is_guaranteed guarantee Never o start g latest_is_within name some_is = absurd (cc)
  is_guaranteed guarantee (Open call wrote) None start g latest_is_within name some_is = absurd (cc)
  is_guaranteed guarantee (Open call wrote) (Some x) start g latest_is_within name some_is = keeps guarantee call start x g (cc) (cc) latest_is_within
  is_guaranteed guarantee (Ended call answer wrote) None start g latest_is_within name some_is = absurd (cc)
  is_guaranteed guarantee (Ended call answer wrote) (Some x) start g latest_is_within name some_is = keeps guarantee call start x g (cc) (cc) latest_is_within

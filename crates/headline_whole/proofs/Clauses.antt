-- The clauses of the main theorem on answers, from what each kind promises of every run.
use Rattle.std.proofs.Common.{◌≡◌, ℕ, List, subst}
use Rattle.model.specs.declared.event.Answer.{Answer}
use Rattle.model.specs.declared.event.Event.{Event}
use Rattle.model.specs.declared.event.Event.TheVariants.{Finished}
use Rattle.model.specs.declared.event.Start.{Start}
use Rattle.model.specs.declared.turn.Kind.{Kind}
use Rattle.model.specs.declared.turn.Kind.TheVariants as kinds
use Rattle.model.specs.declared.families.Registry.{Registry}
use Rattle.model.specs.declared.families.Registry.TheVariants as registries
use Rattle.model.specs.Families.Loan.Promises as channel
use Rattle.model.specs.Promises.{IsKeptBy}
use Rattle.model.specs.Promises.Families.{promise_of}
use Rattle.model.specs.Promises.Spans.{StandsRight}
use Rattle.model.specs.Reading.{Each, span_of}
use Rattle.model.specs.Shape.{IsOpenFor}
use Rattle.model.specs.World.{Trace}
use Rattle.model.specs.Turns.{IsReached}
use Rattle.model.proofs.Orders.{reached_kept}
use Rattle.machine.proofs.Laws.{laws_of}
use Rattle.headline.specs.Headline.{Runs}
use Rattle.headline.specs.Moments.{Follows}
use Rattle.headline.proofs.Reached.{holds}
use Rattle.headline_whole.specs.Answers.{AreAlone, LoansAlone, Says, Wrote}
use Rattle.headline_whole.proofs.Added.{container_ends, holds_right}
use Rattle.headline_whole.proofs.Alone.{alone}
use Rattle.headline_whole.proofs.ChannelAlone.{loans_alone}
use Rattle.headline_whole.proofs.FoundClear.{found_clear}
use Rattle.headline_whole.proofs.Granted.{robust_ends}
use Rattle.headline_whole.proofs.OwnersAlone.{owners_alone}

module _ {T : Type 0} where
  -- a call that has finished has written what its answer says
  pub wrote_in : (kind : Kind) (t : Trace T) → IsKeptBy (promise_of kind) t → (p : ℕ) (start : Start T) (answer : Answer T) (before : List (Event T))
      → Follows (Finished p start answer) before t.events
      → IsOpenFor start (Wrote kind t.world.capacity start answer) (span_of p before)
  wrote_in kinds.IndexQueue t kept p start answer before at = kept.spans before at.0 (Finished p start answer) at.1
  wrote_in kinds.Overflow t kept p start answer before at = kept.spans before at.0 (Finished p start answer) at.1
  wrote_in kinds.Queue t kept p start answer before at = kept.spans before at.0 (Finished p start answer) at.1
  wrote_in kinds.Atomic t kept p start answer before at = kept.spans before at.0 (Finished p start answer) at.1
  wrote_in kinds.Bits t kept p start answer before at = kept.spans before at.0 (Finished p start answer) at.1
  wrote_in kinds.Counts t kept p start answer before at = kept.spans before at.0 (Finished p start answer) at.1
  wrote_in kinds.Indices t kept p start answer before at = kept.spans before at.0 (Finished p start answer) at.1
  wrote_in kinds.Robust t kept p start answer before at = kept.spans before at.0 (Finished p start answer) at.1
  wrote_in kinds.Container t kept p start answer before at = kept.spans before at.0 (Finished p start answer) at.1
  wrote_in kinds.Loan t kept p start answer before at = kept.spans before at.0 (Finished p start answer) at.1

  kept_as : (kind : Kind) (t : Trace T) → t.world.kind ≡ kind → IsReached t → IsKeptBy (promise_of kind) t
  kept_as kind t is r = subst (λ k. IsKeptBy (promise_of k) t) is (reached_kept laws_of t r)

  -- where a call ends holds what its answer says
  pub says_in : (kind : Kind) (t : Trace T) → t.world.kind ≡ kind → IsReached t → Each (Says kind t.world.coding t.world.capacity) t.events
  says_in kinds.Loan t is r = λ before after e split. tt
  says_in kinds.IndexQueue t is r = (kept_as kinds.IndexQueue t is r).promised.answers
  says_in kinds.Overflow t is r = (kept_as kinds.Overflow t is r).promised.answers
  says_in kinds.Queue t is r = (kept_as kinds.Queue t is r).promised.answers
  says_in kinds.Atomic t is r = (kept_as kinds.Atomic t is r).promised.answers
  says_in kinds.Bits t is r =
      λ before after e split. ((kept_as kinds.Bits t is r).promised.answers before after e split, found_clear (laws_of kinds.Bits) t is r before after e split)
  says_in kinds.Counts t is r = (kept_as kinds.Counts t is r).promised.answers
  says_in kinds.Indices t is r = (kept_as kinds.Indices t is r).promised.answers
  says_in kinds.Robust t is r = (kept_as kinds.Robust t is r).promised.answers
  says_in kinds.Container t is r = (kept_as kinds.Container t is r).promised.answers

  runs_as : (kind : Kind) (t : Trace T) → t.world.kind ≡ kind → (r : IsReached t) → Runs kind r.queue t
  runs_as kind t is r = subst (λ k. Runs k r.queue t) is (holds t r).runs

  -- whoever is answered an index has it alone
  pub are_alone : (kind : Kind) (t : Trace T) → t.world.kind ≡ kind → IsReached t → AreAlone kind t
  are_alone kinds.Indices t is r =
      let kept = kept_as kinds.Indices t is r in
      alone t.world.capacity t.events kept.promised.holds kept.promised.answers kept.spans
  are_alone kinds.Robust t is r = λ well.
      let kept = kept_as kinds.Robust t is r in
      owners_alone t.world.capacity t.events kept.promised.does (kept.promised.holds well)
      (robust_ends (laws_of kinds.Robust) t is r (λ p i o before at. ((runs_as kinds.Robust t is r).acquired p i o before at).1))
  are_alone kinds.Container t is r = λ well.
      let kept = kept_as kinds.Container t is r in
      owners_alone t.world.capacity t.events kept.promised.does (holds_right (laws_of kinds.Container) t is r well)
      (container_ends (laws_of kinds.Container) t is r well
      (λ p i o value before at. ((runs_as kinds.Container t is r).acquired p i o value before at).1))
  are_alone kinds.Loan t is r =
      let kept = kept_as kinds.Loan t is r in
      go t.world.kept kept.promised kept.spans
    where
      go : (kept : Registry T) → channel.IsChannelBy kept t → Each (StandsRight channel.promise t.world.capacity) t.events
          → Each (LoansAlone t.world.capacity) t.events
      go (registries.Loan book) its stands = loans_alone t.world.capacity t.events its.moves its.begins its.lives stands
      go kept its stands = absurd its
  are_alone kind t is r = tt

-- The looks of a state (`get_state`, `update_state`): each step keeps the rule of the table, each look
-- may begin, and what it leaves of the pass.
use Rattle.lock_free_owners.proofs.Names.{◌≡◌, ◌⊎◌, inl, inr, ℕ, zero, suc, ◌+◌, ◌<◌, nat_lt, Bool, true, false}
use Rattle.lock_free_owners.proofs.Names.{Some, None, List, [], refl, sym, ap, subst, ◌∙◌, slice_index_or, arith}
use Rattle.lock_free_owners.proofs.Names.{nat_tests, is_even, first_look, look_want, look_comes_to, look_finds}
use Rattle.lock_free_owners.proofs.Names.{look_takes, look_after, look_kept, Numbers, Showing, by_test, After, GoOn}
use Rattle.lock_free_owners.proofs.Names.{Done, ContainerState, Answer, Event, ContainerStart, UpdateState, Coding}
use Rattle.lock_free_owners.proofs.Names.{IsCoding, looked, settled_if, weaker_owes, View, HasCopied, look_start}
use Rattle.lock_free_owners.proofs.Names.{state_of_look, looking, HasLookedAll, RestedLooks, RestedLooked, IsMachine}
use Rattle.lock_free_owners.proofs.Names.{coding_by, IsResting, Keeps}
use Rattle.steps.specs.declared.ask.Want.{Want}
use Rattle.steps.specs.declared.words.Words.{Ghosts}
use Rattle.steps.specs.declared.container.look.Look.{Look as Looking}
use Rattle.steps.specs.declared.container.look.LookStage.{LookStage}
use Rattle.model.specs.declared.families.container.calls.LookOf.{LookOf}
use Rattle.model.specs.declared.turn.Kind.TheVariants as kinds
use Rattle.model.specs.Families.Container.States.{settled}
use Rattle.threaded.specs.Driver.{Next, Told}
use Rattle.history.specs.History.{Knows}
use Rattle.history_owners.proofs.StateRests.{state_rests_keep, state_rests_idle, state_rests_rested}
use Rattle.lock_free_owners.specs.Container.Bare.{Still, LookStands, LookEnds}
use Rattle.lock_free_owners.specs.Container.Idle.{IsIdle}
use Rattle.lock_free_owners.specs.Container.LookTurns.{IsOnHistory, LookAt, LookOver, IsPast, LookOnAt, LookOnOver}
use Rattle.lock_free_owners.specs.declared.mpmc.container.Pass.{Pass}
use Rattle.lock_free_owners.specs.Container.Names.{container_of, unnumbered, view, SamePass}
use Rattle.lock_free_owners.specs.Container.Contracts.{HasMade}
use Rattle.lock_free_owners.proofs.ContainerSet.Resting.{settled_so}
use Rattle.lock_free_owners.proofs.ContainerSet.Began.{AnsweredBy, capacity_from, idle_from, share_from}
use Rattle.lock_free_owners.proofs.ContainerSet.Began.{ended_answered, ended_goes, ended_aside, ended_knows}
use Rattle.lock_free_owners.proofs.ContainerSet.Began.{ended_called}
use Rattle.lock_free_owners.proofs.ContainerSet.Idle.{rests, idle_none}
use Rattle.lock_free_owners.proofs.ContainerSet.SameStates.{Decided}
use Rattle.lock_free_owners.proofs.Rules.Container.LookRuns.{state_rule}

-- A look of a state: which call it is, the view in which it began, and the state that it was given.
pub record LookCase (T : Type 0) : Type 0 where
  -- how a value is coded in words
  pub code : Coding T
  pub law : IsCoding code
  pub which : LookOf
  pub from : View T
  -- what the state shows, and the change numbers by which it does
  pub shown : Showing T
  pub seen : Numbers

module _ {T : Type 0} (look : LookCase T) where
  open look use {code, law, which, from, shown, seen}

  -- What the look asks for.
  abbrev want : Looking T → Want (Unit {0})
  want c = look_want code.size c

  -- The look after a number that it hears.
  abbrev after : Looking T → ℕ → After (Looking T) Bool
  after c n = look_after code.size c seen n

  -- The room after a number that it hears.
  abbrev kept : Looking T → Showing T → ℕ → Showing T
  kept c m n = look_kept code.value_of code.size c m n

  -- the history has the state of the look; then `At`, `Over`, `AtOn` and `OverOn` are the
  -- relations of this look
  abbrev On : Type 0
  On = IsOnHistory code which from shown seen

  abbrev At : View T → View T → Looking T → Showing T → Type 0
  At base v c m = LookAt code which from shown seen v c m

  abbrev Over : View T → Bool → Showing T → View T → Type 0
  Over base changed m w = LookOver code which from shown seen changed m w

  abbrev AtOn : View T → View T → Looking T → Showing T → Type 0
  AtOn base v c m = LookOnAt code which from shown seen v c m

  abbrev OverOn : View T → Bool → Showing T → View T → Type 0
  OverOn base changed m w = LookOnOver code which from shown seen changed m w

  -- ---- its steps

  -- the look is at its next stage, or has ended, by these two relations
  abbrev NextOf : (View T → View T → Looking T → Showing T → Type 0) → (View T → Bool → Showing T → View T → Type 0)
      → View T → After (Looking T) Bool → Showing T → View T
      → Type 0
  NextOf at over = Next (λ (z : View T). z.capacity) at over

  -- A step of a look on the history is a step of the look.
  joins : On → (base : View T) (a : After (Looking T) Bool) (m : Showing T) (w : View T)
      → NextOf (RestedLooks code which from.capacity seen) (RestedLooked code which from.capacity seen) from a m w → NextOf At Over base a m w
  joins on base a m w next_of = grind arith

  -- A step of a look outside the history is a step of the look.
  leaves : (On → ⊥) → (base : View T) (a : After (Looking T) Bool) (m : Showing T) (w : View T)
      → NextOf (Still (LookStands code.size)) LookEnds from a m w → NextOf At Over base a m w
  leaves not_on base a m w next_of = grind arith

  -- what a step of the look tells where the history has the state
  abbrev ToldOn : Looking T → Showing T → View T → ℕ → View T → Type 0
  ToldOn c m =
      Told (λ (z : View T). z.capacity) (RestedLooks code which from.capacity seen) (RestedLooked code which from.capacity seen) after kept c m

  -- what a step of the look tells where the history has not the state
  abbrev ToldStill : Looking T → Showing T → View T → ℕ → View T → Type 0
  ToldStill c m = Told (λ (z : View T). z.capacity) (Still (LookStands code.size)) LookEnds after kept c m

  -- each step of a look keeps the rule of the table, of a state that the pass has and of one that
  -- it has not, where it is decided which
  look_keeps_by : Decided On → Keeps code At Over want after kept
  look_keeps_by (inl on) base v c m key words slots id wide known at =
      let weaker = weaker_owes (λ (z : View T). z.asked) (IsMachine code kinds.Container key) words slots id in
      let keeps = state_rests_keep code law which from.capacity seen from v c m in
      weaker (ToldOn c m) (Told (λ (z : View T). z.capacity) At Over after kept c m) (want c) (v, [])
      (λ n w h. (h.0, λ b here. joins on b (after c n) (kept c m n) w (h.1 from (here.0 on))))
      (keeps key words slots id wide known (at.0 on))
  look_keeps_by (inr other) base v c m key words slots id wide known at =
      let weaker = weaker_owes (λ (z : View T). z.asked) (IsMachine code kinds.Container key) words slots id in
      let keeps = state_rule code code.value_of code.size law.some seen from v c m in
      weaker (ToldStill c m) (Told (λ (z : View T). z.capacity) At Over after kept c m) (want c) (v, [])
      (λ n w h. (h.0, λ b here. leaves other b (after c n) (kept c m n) w (h.1 from (here.1 other))))
      (keeps key words slots id wide known (at.1 other))

  -- Each step of a look keeps the rule of the table, whether its state stands in the history or not.
  pub look_keeps : Decided On → Keeps code At Over want after kept
  look_keeps = look_keeps_by

  -- ---- past its first step

  -- a look past its first step stays past it, and answers true in the end
  abbrev Past : After (Looking T) Bool → Type 0
  Past (GoOn d) = IsPast d.stage
  Past (Done changed) = changed ≡ true

  -- A look that comes to an index, or to its end, is past its first step.
  comes : (c : Looking T) (index : ℕ) → Past (look_comes_to c index)
  comes c index = by_test Past (nat_lt index c.capacity) _ _ (λ t. tt) (λ t. refl)

  -- A look that finds a number of an element is past its first step.
  finds : (c : Looking T) (index count : ℕ) → Past (look_finds c index count)
  finds c index count = by_test Past (is_even count) _ _ (λ t. comes c (index + 1)) (λ t. tt)

  -- A step of a look past its first step leaves it past that step.
  takes : (c : Looking T) (stage : LookStage) (n : ℕ) → IsPast stage → Past (look_takes code.size c stage seen n)
  takes c stage n past = grind (arith, by_test, slice_index_or, comes, finds, nat_lt)

  -- A step of a look past its first stage leaves it past that stage.
  goes_past : (base : View T) (a : After (Looking T) Bool) (m : Showing T) (w : View T) → Past a → NextOf At Over base a m w → NextOf AtOn OverOn base a m w
  goes_past base (GoOn d) m w past h = (h, past)
  goes_past base (Done changed) m w past h = (h, past)

  -- each step of a look past its first one keeps the rule of the table, and stays past the first
  -- one
  pub look_on_keeps : Decided On → Keeps code AtOn OverOn want after kept
  look_on_keeps decided base v c m key words slots id wide known at =
      let weaker = weaker_owes (λ (z : View T). z.asked) (IsMachine code kinds.Container key) words slots id in
      let keeps = look_keeps decided base v c m in
      weaker (Told (λ (z : View T). z.capacity) At Over after kept c m) (Told (λ (z : View T). z.capacity) AtOn OverOn after kept c m) (want c) (v, [])
      (λ n w h. (h.0, λ b here. goes_past b (after c n) (kept c m n) w (takes c c.stage n here.1) (h.1 b here.0)))
      (keeps key words slots id wide known at.0)

  -- after its first step a look has found a change and goes on, or has ended with false
  abbrev pub IsAfterFirst : After (Looking T) Bool → Type 0
  IsAfterFirst (GoOn d) = IsPast d.stage
  IsAfterFirst (Done changed) = changed ≡ false

  -- what the first step leads to on a container that has an index
  pub first_leads : (capacity n : ℕ) {a : After (Looking T) Bool} → 0 < capacity → a ≡ look_after code.size (first_look capacity) seen n → IsAfterFirst a
  first_leads capacity n {a} capacity_positive a_is = grind (arith, by_test, look_comes_to, first_look, nat_lt, nat_tests)

  -- ---- where a step has led

  -- Where a step has led to a next stage, the look is under way at that stage.
  pub goes_from : (base w : View T) {a : After (Looking T) Bool} (m : Showing T) {d : Looking T} → a ≡ GoOn d → NextOf At Over base a m w
      → LookAt code which from shown seen w d m
  goes_from base w m e h = subst (λ z. NextOf At Over base z m w) e h

  -- Where a step has ended the look, the look is over with that answer.
  pub ends_from : (base w : View T) {a : After (Looking T) Bool} (m : Showing T) {changed : Bool} → a ≡ Done changed → NextOf At Over base a m w
      → LookOver code which from shown seen changed m w
  ends_from base w m e h = subst (λ z. NextOf At Over base z m w) e h

  -- A look that goes on after its first step is past that step.
  pub past_from : {a : After (Looking T) Bool} {d : Looking T} → a ≡ GoOn d → IsAfterFirst a → IsPast d.stage
  past_from e h = subst IsAfterFirst e h

  -- A look that its first step ends found no change.
  pub false_from : {a : After (Looking T) Bool} {changed : Bool} → a ≡ Done changed → IsAfterFirst a → changed ≡ false
  false_from e h = subst IsAfterFirst e h

  -- ---- it begins

  -- A look of a state that stands in the history is about to begin, by a pass that rests or
  -- has no call under way.
  begins_on : On → (from.going ≡ None) ⊎ IsResting code from → from.other ≡ [] → 0 < from.share.part
      → RestedLooks code which from.capacity seen from from (first_look from.capacity) shown
  begins_on on either other_is_empty part_positive = grind (arith, state_rests_idle, first_look, state_rests_rested)

  -- A look is about to begin, whether its state stands in the history or not.
  pub look_begins : IsIdle from → from.other ≡ [] → 0 < from.share.part → LookAt code which from shown seen from (first_look from.capacity) shown
  look_begins is_idle other_is_empty part_positive = grind (arith, begins_on, rests)

-- A look of a state, as the history has it, began in the view `from` and has ended in the view w with this answer; m is
-- what its state shows then.
module _ {T : Type 0} (code : Coding T) (which : LookOf) (from w : View T) (seen : Numbers) (changed : Bool) (m : Showing T)
    (ends : RestedLooked code which from.capacity seen from changed m w) where
  -- ---- what it leaves as a call of the history

  -- The look answers what is right by the events before its end.
  pub look_answered : AnsweredBy (look_start which) (looked which (state_of_look from.capacity seen m) changed) from w
  look_answered =
      ended_answered ends.settled (looking code which from.capacity seen) ends.over.0 (look_start which) refl
      (looked which (state_of_look from.capacity seen m) changed) refl

  -- In the history the look is one call, which wrote what a look over all elements writes.
  pub look_made : HasMade (look_start which) (looked which (state_of_look from.capacity seen m) changed)
      (λ by es. HasLookedAll from.capacity by changed es) from w
  look_made = grind (arith, capacity_from, idle_from, ended_called, settled_so, looking, look_start, looked, state_of_look)

-- A look of a state that has ended leaves of its pass what `SamePass` says.
pub look_same : {T : Type 0} {words : Ghosts T} {old new : Pass T words} (which : LookOf) (seen : Numbers) (changed : Bool) (m : Showing T)
    → container_of new ≡ container_of old → RestedLooked (coding_by words) which (view old).capacity seen (view old) changed m (view new)
    → SamePass old new
look_same {words = words} {old = old} which seen changed m container ends =
    let call = looking (coding_by words) which (view old).capacity seen in
    record {
      container = container;
      idle = ends.over.0.idle;
      goes = ended_goes ends.settled call ends.over.0;
      aside = ended_aside ends.settled call ends.over.0;
    }

-- what was written may be said more widely
pub made_as : {T : Type 0} (start : ContainerStart T) (answer : Answer T) (Wrote More : ℕ → List (Event T) → Type 0) (v w : View T)
    → ((by : ℕ) (es : List (Event T)) → Wrote by es → More by es) → HasMade start answer Wrote v w → HasMade start answer More v w
made_as start answer Wrote More v w more h =
    record { from = h.from; settled = h.settled; by = h.by; mine = h.mine; wrote = h.wrote; tells = more h.by h.wrote h.tells; called = h.called }

module _ (T : Type 0) where
  -- The empty list of events copies no element.
  none_copied : (p index : ℕ) → HasCopied {T = T} p 0 index []
  none_copied p zero = refl
  none_copied p (suc index) = inl (none_copied p index)

  -- A look over all elements has copied what it shows, of all indices.
  pub some_copied : (capacity p : ℕ) (changed : Bool) (es : List (Event T)) → HasLookedAll capacity p changed es → HasCopied p 0 capacity es
  some_copied capacity p changed es looked_all = grind (arith, none_copied)

-- ---- the state that the pass has

module _ {T : Type 0} (code : Coding T) (from : View T) where
  -- the pass has this state, without its container's number
  abbrev HasIt : View T → ContainerState T → Type 0
  HasIt v state = (by : ℕ) × (v.party ≡ Some by) × (v.state ≡ Some (unnumbered state))

  -- The state that the pass has is one that the history has.
  pub on_history : (old : ContainerState T) → old.capacity ≡ from.capacity → HasIt from old → IsOnHistory code UpdateState from old.shown old.seen
  on_history old e h = (h.0, h.1, h.2 ∙ ap (λ n. Some (state_of_look n old.seen old.shown)) e)

  -- A state of an update that the history has is the one that the pass has.
  pub of_history : (old : ContainerState T) → old.capacity ≡ from.capacity → IsOnHistory code UpdateState from old.shown old.seen → HasIt from old
  of_history old e h = (h.0, h.1, h.2 ∙ ap (λ n. Some (state_of_look n old.seen old.shown)) (sym e))

  -- the state that a look leaves is the one that its pass has
  pub latest_so : (which : LookOf) {w : View T} {changed : Bool} (old new : ContainerState T) → old.capacity ≡ from.capacity
      → new ≡ settled_if (Done changed) (record old { shown = new.shown })
      → RestedLooked code which from.capacity old.seen from changed new.shown w → HasIt w new
  latest_so which old new same_capacity new_is rested_looked = grind (arith, unnumbered, settled_if, state_of_look, settled)

-- what is known of a pass that a look has left
pub record Left {T : Type 0} (v w : View T) : Type 0 where
  pub idle : IsIdle w
  pub alone : w.other ≡ []
  pub share : w.share ≡ v.share
  pub capacity : w.capacity ≡ v.capacity

-- A look of any state, whether the history has it or not, led from the view `from` to w.
module _ {T : Type 0} (code : Coding T) (which : LookOf) {from : View T} (shown : Showing T) (seen : Numbers)
    {changed : Bool} {m : Showing T} {w : View T} where
  -- A look leaves of its pass what `Left` says.
  pub left_so : Decided (IsOnHistory code which from shown seen) → IsIdle from → from.other ≡ [] → LookOver code which from shown seen changed m w → Left from w
  left_so decided is_idle other_is_empty look_over = grind (arith, idle_none, share_from, capacity_from)

  -- After a look of a state the pass still knows a run of the container that gives what it saw.
  pub knows_so : Decided (IsOnHistory code which from shown seen) → Knows code kinds.Container from.capacity from
      → LookOver code which from shown seen changed m w → Knows code kinds.Container from.capacity w
  knows_so (inl on) knows over =
      let ends = over.0 on in
      ended_knows ends.settled (looking code which from.capacity seen) ends.over.0
  knows_so (inr beside) knows over =
      let counted = over.1 beside in
      subst (λ (z : View T). Knows code kinds.Container from.capacity z) (sym counted.known)
      (record {
        coded = knows.coded;
        admitted = knows.admitted;
        allowed = knows.allowed;
        fresh = knows.fresh;
        is = knows.is;
        others = knows.others;
        asked =
            record {
              share = knows.asked.share;
              most = (let most = knows.asked.most in let aside = counted.aside in omega arith);
              all = λ whole. (let all = knows.asked.all whole in let aside = counted.aside in omega arith);
            };
      })

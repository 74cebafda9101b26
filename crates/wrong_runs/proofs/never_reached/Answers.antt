-- `never_reached` (src/lib.rt): each machine is refused by one clause of the main theorem, those at which a call runs whole by two.
use Rattle.std.proofs.Common.{◌≡◌, inl, ℕ, ◌==◌, Bool, true, false, Option, Some, None, List, [], ◌∷◌, if◌then◌else◌}
use Rattle.std.proofs.Common.{refl, sym, ap, subst, ◌∙◌, arith}
use Rattle.steps.specs.Objects.Places.{Places}
use Rattle.steps.specs.declared.indices.enums.ReleaseMode.TheVariants.{Default, LockIfLastIndex}
use Rattle.steps.specs.declared.indices.enums.ReleaseState.TheVariants.{Locked}
use Rattle.model.specs.declared.event.Answer.{Answer}
use Rattle.model.specs.declared.event.Answer.TheVariants.{Done, Truth, PoppedNone, PoppedIndex, Index, State}
use Rattle.model.specs.declared.event.Event.{Event}
use Rattle.model.specs.declared.event.Event.TheVariants as events
use Rattle.model.specs.declared.event.Event.TheVariants.{Begun, Claimed, Filled, Told, Placed, Acted, Copied, Finished}
use Rattle.model.specs.declared.event.Start.{Start}
use Rattle.model.specs.declared.event.Start.TheVariants.{Queues, Bits, Indices, Robust, Container}
use Rattle.model.specs.declared.families.bits.BitsStart.TheVariants.{Set, ResetAll}
use Rattle.model.specs.declared.families.container.ContainerStart.TheVariants.{Add}
use Rattle.model.specs.declared.families.indices.IndexStart.TheVariants.{Acquire, Release, IsLocked}
use Rattle.model.specs.declared.families.indices.robust.RobustStart.TheVariants as robust
use Rattle.model.specs.declared.families.queues.QueueStart.TheVariants.{PushIndex, Pop}
use Rattle.model.specs.Families.Bits.Reading.{standing}
use Rattle.model.specs.Families.Container.Promises.{IsWellFormedRun, ReplacesRight}
use Rattle.model.specs.Families.Indices.Robust.Promises.{FreesRight, StillToFree}
use Rattle.model.specs.Families.Indices.Robust.Reading.{Asks}
use Rattle.model.specs.Families.Indices.Spans.{SetActs, nothing, claimed}
use Rattle.model.specs.Reading.{Never}
use Rattle.model.specs.Shape.{IsShut}
use Rattle.model.proofs.Readings.{AreRight, Each-append, Each-nil, no_more}
use Rattle.plain.specs.States.{Snapshot, snapshot_of}
use Rattle.headline_whole.specs.Dialogues.{Request, Reply, AreFinished, RepliesAs, as_end, calls_of, stands_after}
use Rattle.headline_whole.specs.Objects.{owners_answer, whole_map, whole_owners}
use Rattle.headline_whole.specs.States.{kept_view}
use Rattle.headline_whole.specs.Whole.{RunsWhole}
use Rattle.headline_whole.proofs.Worked.{no_events, one_more}
use Rattle.wrong_runs.specs.Made as made
use Rattle.wrong_runs.proofs.HeadlineQueues.{acts_nowhere}
use Rattle.wrong_runs.proofs.HeadlineRobust.{held_since}
use Rattle.wrong_runs.proofs.HeadlineSets.{two}
use Rattle.wrong_runs.proofs.Machines.{at_none_since}
use Rattle.wrong_runs.proofs.never_reached.Goals as goal

-- ---- what cannot be

no_claim : Some (claimed 0) ≡ Some nothing → ⊥
no_claim is = same (claimed 0) nothing is refl refl
  where
    same : (d e : SetActs) → Some d ≡ Some e → d.claimed ≡ 0 ∷ [] → e.claimed ≡ [] → ⊥
    same d e is one none = let h : d ≡ e = cc in let all : ◌≡◌ {A = List ℕ} (0 ∷ []) [] = sym one ∙ (ap (λ (x : SetActs). x.claimed) h ∙ none) in cc

no_bool : (b c : Bool) → b ≡ true → c ≡ false → b ≡ c → ⊥
no_bool b c t f same = cc

no_holder : (o : Option ℕ) (p : ℕ) → o ≡ Some p → o ≡ None → ⊥
no_holder o p some none = cc

no_answers : (xs ys : List (Answer ℕ)) (x y : Answer ℕ) → xs ≡ x ∷ [] → ys ≡ y ∷ [] → x ≡ PoppedNone → y ≡ PoppedIndex 7 → xs ≡ ys → ⊥
no_answers xs ys x y x_is y_is none some same = cc

no_index : (a : Answer ℕ) → a ≡ Index 0 → a ≡ Index 1 → ⊥
no_index a zero one = let same : ◌≡◌ {A = ℕ} 0 1 = cc in cc

no_view : (x y : Option (Snapshot ℕ)) (s : Snapshot ℕ) → x ≡ Some s → y ≡ None → x ≡ y → ⊥
no_view x y s some none same = cc

-- ---- calls that run whole

never : (b : Bool) → IsShut {T = ℕ} (if b then Never else Never)
never true = tt
never false = tt

-- a call alone runs whole
alone : (p : ℕ) (start : Start ℕ) (answer : Answer ℕ) → RunsWhole (made.call p start answer)
alone p start answer = one_more (Begun p start ∷ []) (Finished p start answer) (one_more [] (Begun p start) no_events (λ q. tt)) tt

-- ---- queues and the value

pub returns-clause-acts_outside : goal.returns-clause-acts_outside
returns-clause-acts_outside c r =
    let act = (c.main_theorem.ensures.holds _ r).runs.list.inside 0 (Queues (PushIndex 7)) (Truth true) (Begun 0 (Queues (PushIndex 7)) ∷ []) refl
    (Acted 0 (Queues (PushIndex 7)) (Truth true) ∷ [], refl) in
    acts_nowhere act.before act.since act.is act.once

pub returns-clause-pops_unpushed : goal.returns-clause-pops_unpushed
returns-clause-pops_unpushed c r = cc ((c.main_theorem.ensures.holds _ r).runs.list.answers)

pub returns-clause-pops_from_nothing : goal.returns-clause-pops_from_nothing
returns-clause-pops_from_nothing c r =
    no_answers _ _ PoppedNone (PoppedIndex 7) refl refl refl refl
    (c.main_theorem.ensures.answers _ r (alone 1 (Queues Pop) (PoppedIndex 7)))

pub returns-clause-turns_back_unpaid : goal.returns-clause-turns_back_unpaid
returns-clause-turns_back_unpaid c r = absurd (omega (arith, (c.main_theorem.ensures.holds _ r).progress.paid 0 _ refl))

pub returns-clause-loads_unstored : goal.returns-clause-loads_unstored
returns-clause-loads_unstored c r = cc ((c.main_theorem.ensures.holds _ r).runs.value.answers)

-- ---- bits and counts

pub returns-clause-sets_what_stood : goal.returns-clause-sets_what_stood
returns-clause-sets_what_stood c r =
    at_none_since 1 (Bits (Set 0)) (λ part. standing 0 part ≡ 0) (events.Set 0 0 ∷ []) (events.Set 1 0 ∷ []) ((λ e. cc), (λ e. cc))
    (c.main_theorem.ensures.says _ r (events.Set 0 0 ∷ Begun 1 (Bits (Set 0)) ∷ events.Set 1 0 ∷ []) (events.Cleared 0 0 ∷ events.Cleared 0 0 ∷ [])
    (Finished 1 (Bits (Set 0)) (Truth true)) refl).1

pub returns-clause-sets_nothing : goal.returns-clause-sets_nothing
returns-clause-sets_nothing c r =
    cc ((c.main_theorem.ensures.wrote _ r 0 (Bits (Set 1)) (Truth true) (Begun 0 (Bits (Set 1)) ∷ []) ([], refl)).1.0)

pub returns-clause-stands_unset : goal.returns-clause-stands_unset
returns-clause-stands_unset c r = cc ((c.main_theorem.ensures.holds _ r).runs.conserved 0)

pub returns-clause-leaves_a_flag : goal.returns-clause-leaves_a_flag
returns-clause-leaves_a_flag c r =
    no_bool _ _ refl refl
    (ap (λ (p : Places). first p.flags)
    (c.main_theorem.ensures.places _ r
    (one_more (events.Set 0 0 ∷ Begun 0 (Bits ResetAll) ∷ []) (Finished 0 (Bits ResetAll) Done)
    (one_more (events.Set 0 0 ∷ []) (Begun 0 (Bits ResetAll)) (one_more [] (events.Set 0 0) no_events tt) (λ q. never (0 == q))) tt)
    (λ q. refl)))
  where
    first : List Bool → Bool
    first [] = false
    first (b ∷ bs) = b

pub returns-clause-loses_a_count : goal.returns-clause-loses_a_count
returns-clause-loses_a_count c r = cc ((c.main_theorem.ensures.holds _ r).runs.conserved 0)

-- ---- indices

pub returns-clause-claims_nothing : goal.returns-clause-claims_nothing
returns-clause-claims_nothing c r =
    no_claim (c.main_theorem.ensures.wrote _ r 0 (Indices Acquire) (Index 0) (Begun 0 (Indices Acquire) ∷ []) ([], refl)).1

pub returns-clause-answers_twice : goal.returns-clause-answers_twice
returns-clause-answers_twice c r =
    no_holder _ 0 refl
    (c.main_theorem.ensures.holds_alone _ r (Finished 0 (Indices Acquire) (Index 0) ∷ []) [] (Finished 1 (Indices Acquire) (Index 0)) refl).1

pub returns-clause-answers_locked : goal.returns-clause-answers_locked
returns-clause-answers_locked c r =
    no_bool true false refl refl
    (c.main_theorem.ensures.holds_alone _ r (Finished 0 (Indices (Release 0 LockIfLastIndex)) (State Locked) ∷ []) []
    (Finished 1 (Indices Acquire) (Index 0)) refl).2

pub returns-clause-says_locked : goal.returns-clause-says_locked
returns-clause-says_locked c r = cc (c.main_theorem.ensures.says _ r [] [] (Finished 0 (Indices IsLocked) (Truth true)) refl)

-- ---- indices of owners

pub returns-clause-owned_twice : goal.returns-clause-owned_twice
returns-clause-owned_twice c r =
    let first : Event ℕ = Finished 0 (Robust (robust.Acquire 7)) (Index 0) in
    let second : Event ℕ = Finished 1 (Robust (robust.Acquire 9)) (Index 0) in
    no_holder _ 7 refl
    (c.main_theorem.ensures.holds_alone _ r (Each-append FreesRight [] (first ∷ second ∷ []) (Each-nil FreesRight) (tt, (tt, tt))) (first ∷ []) []
    second refl).1

pub returns-clause-fills_nothing : goal.returns-clause-fills_nothing
returns-clause-fills_nothing c r =
    cc (c.main_theorem.ensures.wrote _ r 0 (Robust (robust.Acquire 7)) (Index 0) (Begun 0 (Robust (robust.Acquire 7)) ∷ []) ([], refl)).1

-- the one call that has ended is this acquire, which the object answers by the lowest index
lowest : (calls : List (Request ℕ × Reply ℕ)) → AreFinished calls made.passes_the_lowest.events → RepliesAs (whole_owners 2) calls → ⊥
lowest [] finished replies = cc
lowest (x ∷ y ∷ calls) finished replies = cc
lowest (x ∷ []) finished replies =
    let same : as_end x ≡ Finished 0 (Robust (robust.Acquire 7)) (Index 1) = cc in
    let start : x.0.start ≡ Robust (robust.Acquire 7) = cc in
    let answer : x.1.answer ≡ Index 1 = cc in
    let reply : (whole_owners {T = ℕ} 2).reply (whole_owners {T = ℕ} 2).opening x.0 ≡ x.1 = cc in
    no_index x.1.answer
    (sym
    (subst (λ s. owners_answer (whole_owners {T = ℕ} 2).opening s x.0.decisions ≡ x.1.answer) start (ap (λ (r : Reply ℕ). r.answer) reply)))
    answer

pub returns-clause-passes_the_lowest : goal.returns-clause-passes_the_lowest
returns-clause-passes_the_lowest c r =
    lowest (calls_of made.passes_the_lowest r) (c.main_theorem.ensures.calls _ r)
    (c.main_theorem.ensures.answers _ r (alone 0 (Robust (robust.Acquire 7)) (Index 1)))

pub returns-clause-asks_nothing : goal.returns-clause-asks_nothing
returns-clause-asks_nothing c r =
    let start : Start ℕ = Robust (robust.Recover Default) in
    let one = (c.main_theorem.ensures.holds _ r).runs.asked_each 1 0 7 Default (Filled 0 0 7 ∷ Begun 1 start ∷ []) ([], refl)
    (held_since (StillToFree 1 7 0) 7 start (inl refl)) in
    no_more one.before (Asks 0 7) one.after one.is

pub returns-clause-frees_nothing : goal.returns-clause-frees_nothing
returns-clause-frees_nothing c r =
    (c.main_theorem.ensures.holds _ r).runs.recovered 1 0 7 Default (Filled 0 0 7 ∷ Begun 1 (Robust (robust.Recover Default)) ∷ Told 1 0 7 ∷ [])
    ([], refl) (record { before = []; after = []; is = refl }) refl

-- ---- the container

-- a run in which nothing is freed and nothing replaced is well-formed
calm : (events : List (Event ℕ)) → AreRight FreesRight [] events → AreRight ReplacesRight [] events → IsWellFormedRun (made.container [] events)
calm events frees replaced =
    record {
      frees = Each-append FreesRight [] events (Each-nil FreesRight) frees;
      replaced = Each-append ReplacesRight [] events (Each-nil ReplacesRight) replaced;
      replaces = λ p. tt;
    }

pub returns-clause-copies_nothing : goal.returns-clause-copies_nothing
returns-clause-copies_nothing c r =
    cc ((c.main_theorem.ensures.holds _ r).runs.copied (calm (Copied 0 0 5 ∷ []) (tt, tt) (tt, tt)) 0 0 5 [] ([], refl))

pub returns-clause-copies_another : goal.returns-clause-copies_another
returns-clause-copies_another c r =
    cc
    ((c.main_theorem.ensures.holds _ r).runs.copied (calm (Placed 0 0 5 ∷ Copied 1 0 6 ∷ []) (tt, (tt, tt)) (tt, (tt, tt))) 1 0 6
    (Placed 0 0 5 ∷ []) ([], refl))

pub returns-clause-places_nothing : goal.returns-clause-places_nothing
returns-clause-places_nothing c r =
    cc
    ((c.main_theorem.ensures.holds _ r).runs.added (calm (made.call 0 (Container (Add 5 7)) (Index 0)) (tt, (tt, tt)) (tt, (tt, tt))) 0 0 7 5
    (Begun 0 (Container (Add 5 7)) ∷ []) ([], refl))

-- where no call has ended no state is kept
shown : (calls : List (Request ℕ × Reply ℕ)) → AreFinished calls made.shows_unlooked.events
    → kept_view made.shows_unlooked.world.kept 0 ≡ (stands_after (whole_map 2) calls).views 0 → ⊥
shown [] finished same = no_view _ _ (snapshot_of made.state_of_nothing) refl refl same
shown (x ∷ calls) finished same = cc

pub returns-clause-shows_unlooked : goal.returns-clause-shows_unlooked
returns-clause-shows_unlooked c r =
    shown (calls_of made.shows_unlooked r) (c.main_theorem.ensures.calls _ r) (c.main_theorem.ensures.states _ r no_events refl 0 refl)

-- ---- the loan channel

pub returns-clause-loans_twice : goal.returns-clause-loans_twice
returns-clause-loans_twice c r = two (1 ∷ 0 ∷ []) ((c.main_theorem.ensures.holds _ r).runs.no_two_hold (Claimed 0 0 ∷ Claimed 1 0 ∷ []) [] refl 0) refl

-- An update of a state that answers true has met a change, and one that answers false none: wherever an open run leads that
-- has few changes.
use Rattle.lock_free_owners.proofs.Names.{◌≡◌, ℕ, ◌-◌, ◌^◌, ◌<◌, Bool, None, List, [], refl, sym, subst, ◌∙◌, Event, Finished}
use Rattle.lock_free_owners.proofs.Names.{Container, Turn, Each, after_turn, Trace, turn_making, Coding, IsHistory, Truth, View}
use Rattle.model.specs.World.{opening}
use Rattle.model.specs.declared.families.container.ContainerStart.TheVariants.{UpdateState}
use Rattle.model.specs.declared.turn.Kind.TheVariants as kinds
use Rattle.laws_robust.proofs.OpenRuns.{reached_open_more}
use Rattle.model.proofs.Reached.{kept_by}
use Rattle.model.specs.Open.{IsReachedOpen, open_refusal}
use Rattle.laws_container.proofs.OpenRuns.{reached_open_sound}
use Rattle.laws_machine.specs.Changes.{changes_of, CountsChanges, MeetsChanges}
use Rattle.laws_machine.proofs.UpdateAnswers.{turn_kept, first_known}
use Rattle.laws_machine.proofs.SeenTurns.{Extra}
use Rattle.laws_machine.proofs.Taken.{taken_open}
use Rattle.lock_free_owners.specs.Container.Contracts.{HasMet}
use Rattle.lock_free_owners.proofs.ContainerSet.Began.{AnsweredBy}
use Rattle.lock_free_owners.proofs.ContainerSet.Changes.{by_word, Few, fewer, counts_after, counts_first}

-- ---- every run

module _ {T : Type 0} where
  -- what each turn of an open run keeps: if fewer changes were counted than make their number wrap, the
  -- number counts them, and each update has answered right
  abbrev MetSoFar : Trace T → Type 0
  MetSoFar t = IsReachedOpen t × (t.world.kind ≡ kinds.Container → Few t → CountsChanges t × Extra t)

  -- a turn that is not refused keeps `MetSoFar`
  turn_met : (u : Trace T) (turn : Turn T) → open_refusal u.world turn ≡ None → MetSoFar u → MetSoFar (after_turn u turn)
  turn_met u turn free h = (
    reached_open_more u turn free h.0,
    λ same few.
        let is = sym (turn_making u.world turn).kind ∙ same in
        let less = fewer u turn few in
        let known = h.1 is less in (
          counts_after u is h.0 less known.0 turn free,
          turn_kept by_word u (reached_open_sound u is h.0) (record { room = tt; few = λ keeps. absurd (cc) }) known.0 known.1 turn
              (taken_open u.world turn free),
        ),
  )

  -- in each open run with few changes, an update that answered true met a change, and one that
  -- answered false none
  pub meets_changes_open : (t : Trace T) → t.world.kind ≡ kinds.Container → IsReachedOpen t → Few t → Each MeetsChanges t.events
  meets_changes_open t is r few =
      ((kept_by open_refusal MetSoFar turn_met t (
        record { coded = r.coded; admitted = r.admitted; turns = []; is = refl },
        λ same _. (
          counts_first t same r,
          subst (λ kind. Extra (opening t.world.coding kind t.world.capacity t.world.parties)) (sym same)
              (first_known t.world.coding t.world.capacity t.world.parties),
        ),
      ) r).1 is few).1.right

-- ---- every history

module _ {T : Type 0} (code : Coding T) where
  -- in each history of fewer than 2^64 - 1 changes each update answers right
  pub history_meets : (capacity : ℕ) (events : List (Event T)) → IsHistory code kinds.Container capacity events
      → changes_of events < 2 ^ 64 - 1 → Each MeetsChanges events
  history_meets capacity events h few =
      subst (Each MeetsChanges) (sym h.is)
      (meets_changes_open h.trace h.run.of_kind h.run.reached (subst (λ (es : List (Event T)). changes_of es < 2 ^ 64 - 1) h.is few))

  -- An update that has ended answered right in a history with fewer than 2^64 - 1 changes: true if it
  -- met a change, false if it met none.
  pub has_met : (changed : Bool) (old new : View T) → AnsweredBy UpdateState (Truth changed) old new
      → IsHistory code kinds.Container old.capacity new.seen → HasMet changed old new
  has_met changed old new a h =
      record {
        by = a.by;
        before = a.before;
        is = a.is;
        since = a.since;
        right = λ few. history_meets old.capacity new.seen h few a.before [] (Finished a.by (Container UpdateState) (Truth changed)) a.is;
      }

-- The number of changes of a container counts the changes, wherever an open run leads that has fewer than 2^64 - 1 of them.
use Rattle.lock_free_owners.proofs.Names.{arith}
use Rattle.lock_free_owners.proofs.Names.{◌≡◌, ℕ, ◌+◌, ◌-◌, ◌^◌, ◌<◌, ◌≤◌, None, List, [], ◌∷◌, ◌++◌, fold, sym, subst}
use Rattle.lock_free_owners.proofs.Names.{false, fold-append, Event, Turn, events_of, after_turn, Trace, capacity_error}
use Rattle.model.specs.declared.turn.Kind.TheVariants as kinds
use Rattle.model.specs.World.{opening}
use Rattle.laws_robust.specs.Gone.{Word}
use Rattle.model.specs.Open.{IsReachedOpen, open_refusal}
use Rattle.laws_container.proofs.Allowed.{allowed_open}
use Rattle.laws_container.proofs.OpenRuns.{reached_open_sound}
use Rattle.laws_container.proofs.Terms.{Terms}
use Rattle.laws_machine.specs.Changes.{change_in, changes_of, CountsChanges}
use Rattle.laws_machine.proofs.Counting as counting

-- owners are gone by a recovery's word, and what a run keeps to is not asked
abbrev pub by_word : Terms
by_word = record { by = Word; kept = false }

-- ---- what events count

module _ {T : Type 0} where
  -- A count of changes, with those of one event more.
  abbrev adds_in : ℕ → Event T → ℕ
  adds_in n e = n + change_in e

  -- The count of changes never goes down.
  changes_grow : (n : ℕ) (es : List (Event T)) → n ≤ fold adds_in n es
  changes_grow n [] = omega arith
  changes_grow n (e ∷ es) = let rest = changes_grow (n + change_in e) es in omega arith

  -- A beginning of the events has at most their changes.
  changes_fewer : (events es : List (Event T)) → changes_of events ≤ changes_of (events ++ es)
  changes_fewer events es =
      subst (λ n. changes_of events ≤ n) (sym (fold-append adds_in 0 events es)) (changes_grow (changes_of events) es)

-- ---- every run

module _ {T : Type 0} where
  -- fewer changes were counted than make the number of changes wrap
  abbrev pub Few : Trace T → Type 0
  Few t = changes_of t.events < 2 ^ 64 - 1

  -- If the changes are few after a turn they were few before it.
  pub fewer : (t : Trace T) (turn : Turn T) → Few (after_turn t turn) → Few t
  fewer t turn few = let grow = changes_fewer t.events (events_of t.world turn) in omega arith

  -- After a turn the number of changes still counts them, where they are few.
  pub counts_after : (t : Trace T) (is : t.world.kind ≡ kinds.Container) (r : IsReachedOpen t) (few : Few t)
      → CountsChanges t → (turn : Turn T) → open_refusal t.world turn ≡ None → CountsChanges (after_turn t turn)
  counts_after t is r few h turn free = counting.turn_counts by_word t (reached_open_sound t is r) few h turn (allowed_open t.world turn free)

  -- as a container opens, its number of changes counts none
  pub counts_first : (t : Trace T) → t.world.kind ≡ kinds.Container → IsReachedOpen t
      → CountsChanges (opening t.world.coding t.world.kind t.world.capacity t.world.parties)
  counts_first t is r =
      subst (λ kind. CountsChanges (opening t.world.coding kind t.world.capacity t.world.parties)) (sym is)
      (counting.counts_first t.world.coding t.world.capacity t.world.parties r.coded
      (subst (λ kind. capacity_error kind t.world.capacity ≡ None) is r.admitted))

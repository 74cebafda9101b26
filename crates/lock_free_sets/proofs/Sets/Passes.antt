-- What a call on a set leaves of its pass, whichever set it is.
use Rattle.lock_free_sets.proofs.Names.{◌≡◌, ◌<◌, ℕ, ap, refl, subst, sym, ◌∙◌, Kind, IsAll}
use Rattle.steps.specs.declared.words.Words as Words
use Rattle.lock_free_sets.specs.Driven.{HasDone, IsIdle}
use Rattle.lock_free_sets.specs.Sets.Calls.{SetId, capacity_of, set_of, view, IsPassOf, SamePass}
use Rattle.lock_free_sets.specs.declared.mpmc.sets.rule.Kind.{Ghosts}
use Rattle.lock_free_sets.specs.declared.mpmc.sets.rule.SetRule.{SetRule}
use Rattle.lock_free_sets.specs.declared.mpmc.sets.Set.{Set}
use Rattle.lock_free_sets.specs.declared.mpmc.sets.Held.{Held}

module _ {E : Type 0} {kind : Ghosts E} {words : Words.Ghosts ℕ} where
  -- a pass of a set has its capacity
  pub same_size : (set : Set E) (pass : Held E ℕ (SetRule E) kind words) → IsPassOf set pass → (view pass).capacity ≡ capacity_of set
  same_size set pass of = pass.known ∙ ap (λ (z : SetId). z.capacity) of

  -- a place below the capacity of a set is below that which a pass of the set knows
  pub place_below : (set : Set E) (pass : Held E ℕ (SetRule E) kind words) → IsPassOf set pass → {place : ℕ} → place < capacity_of set
      → place < (view pass).capacity
  place_below set pass of {place} below = subst (λ n. place < n) (sym (same_size set pass of)) below

  -- a pass between its calls has none under way, knows one history, and has a share
  pub is_idle : (pass : Held E ℕ (SetRule E) kind words) → IsIdle (view pass).capacity (view pass)
  is_idle pass = record { known = refl; idle = pass.idle; alone = pass.alone; some = pass.some.0 }

  -- a pass of the same set after a whole call is what each call leaves of a pass
  pub same_pass : {of : Kind} {old new : Held E ℕ (SetRule E) kind words} → set_of new ≡ set_of old
      → HasDone of (view old) (view new) → SamePass old new
  same_pass set done =
      record {
        set = set;
        share = done.share;
        party = done.party;
        first = done.ran.first;
        aside = done.aside;
        all = λ whole. done.all (subst IsAll done.share whole);
      }

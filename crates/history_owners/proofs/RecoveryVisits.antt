-- What a container's recovery has written tells which visits it has made, and lies within its call.
use Rattle.std.proofs.Common.{arith}
use Rattle.history.proofs.Names.{◌≡◌, ℕ, Bool, true, false, Option, Some, None, List, [], ◌∷◌, ◌++◌, append_assoc}
use Rattle.history.proofs.Names.{append-nil, fold, refl, sym, ap, ◌∙◌, fold-append, is_even, by_test}
use Rattle.model.specs.declared.event.Event.{Event}
use Rattle.history.proofs.Names.{own_after, Open}
use Rattle.model.specs.declared.event.Event.TheVariants.{FreedOf, Asked, Hidden, Copied, Shown}
use Rattle.model.specs.declared.event.Start.{Start}
use Rattle.steps.specs.declared.container.recover.RecoverStage.{RecoverStage}
use Rattle.model.specs.declared.event.Event.TheVariants.{Told, Locked}
use Rattle.history_owners.specs.Container.{when}
use Rattle.history_owners.specs.ContainerRecovery.{Came, HasAsked, HasFound, wrote_found, wrote_of, wrote_visits}
use Rattle.history_owners.specs.ContainerRecovery.{with_last, told, freed, hides, came_locked, told_yet}

-- ---- what a recovery wrote tells its visits

module _ {T : Type 0} (p owner : ℕ) where
  -- the visits of a recovery, as an event leaves them: read from its events since its begin
  abbrev read : List (ℕ × Came T) → Event T → List (ℕ × Came T)
  read visits (Copied q index value) = (index, HasAsked value) ∷ visits
  read visits (Shown q index) = (index, HasFound None) ∷ visits
  read visits (Told q index o) = with_last told visits
  read visits (FreedOf q index o) = with_last freed visits
  read visits (Hidden q index) = with_last (hides true) visits
  read visits (Locked q) = with_last came_locked visits
  read visits e = visits

  -- the events of a visit read back as that visit
  read_one : (visits : List (ℕ × Came T)) (index : ℕ) (came : Came T) → fold read visits (wrote_of p owner index came) ≡ (index, came) ∷ visits
  read_one = grind arith

  -- the events of all visits read back as those visits
  read_all : (visits : List (ℕ × Came T)) → fold read [] (wrote_visits p owner visits) ≡ visits
  read_all [] = refl
  read_all (visit ∷ before) =
      fold-append read [] (wrote_visits p owner before) (wrote_of p owner visit.0 visit.1)
      ∙ (ap (λ vs. fold read vs (wrote_of p owner visit.0 visit.1)) (read_all before) ∙ read_one before visit.0 visit.1)

  -- two lists of visits that write the same events are equal
  pub one_list : (xs ys : List (ℕ × Came T)) → wrote_visits p owner xs ≡ wrote_visits p owner ys → xs ≡ ys
  one_list xs ys wrote_visits_are = sym (read_all xs) ∙ (ap (fold read []) wrote_visits_are ∙ read_all ys)

  -- ---- what a recovery writes of its visits lies within its call

  -- each event lies within a call: it neither begins nor ends one
  abbrev IsInside : List (Event T) → Type 0
  IsInside es = (start : Start T) (ws : List (Event T)) → fold own_after (Open start ws) es ≡ Open start (ws ++ es)

  -- the empty list of events lies within a call
  inside_none : IsInside []
  inside_none start ws = ap (Open start) (sym (append-nil ws))

  -- two lists of events that lie within the call make one that lies within it
  pub inside_both : (xs ys : List (Event T)) → IsInside xs → IsInside ys → IsInside (xs ++ ys)
  inside_both = grind (arith, fold-append, fold, append_assoc)

  -- what is written of an index up to the answer lies within the call
  inside_found : (index : ℕ) (found : Option T) → IsInside (wrote_found p owner index found)
  inside_found index None = λ start ws. refl
  inside_found index (Some value) =
      inside_both (Copied p index value ∷ []) (Asked p index owner ∷ Told p index owner ∷ []) (λ start ws. refl)
      (inside_both (Asked p index owner ∷ []) (Told p index owner ∷ []) (λ start ws. refl) (λ start ws. refl))

  -- an event within the call lies within it, whether it came or not
  inside_when : (did : Bool) (e : Event T) → IsInside (e ∷ []) → IsInside (when did e)
  inside_when true e inside = inside
  inside_when false e inside = inside_none

  -- what is written of a visit lies within the call
  inside_of : (index : ℕ) (came : Came T) → IsInside (wrote_of p owner index came)
  inside_of = grind (arith, inside_both, inside_found, inside_when, append_assoc)

  -- what is written of all visits lies within the call
  pub inside_visits : (visits : List (ℕ × Came T)) → IsInside (wrote_visits p owner visits)
  inside_visits [] = inside_none
  inside_visits (visit ∷ before) =
      inside_both (wrote_visits p owner before) (wrote_of p owner visit.0 visit.1) (inside_visits before) (inside_of visit.0 visit.1)

  -- the answer yes that a visit does not tell yet lies within the call
  pub inside_yet : (stage : RecoverStage) → IsInside (told_yet p owner stage)
  inside_yet = grind (arith, inside_none, by_test, is_even, append-nil)

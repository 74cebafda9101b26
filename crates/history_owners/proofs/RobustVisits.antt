-- The visits of a recovery of a robust index set: how they go on with a step, and that what was written tells
-- which visits they are.
use Rattle.history.proofs.Names.{◌≡◌, ℕ, ◌+◌, ◌<◌, ◌≤◌, List, [], ◌∷◌, ◌++◌, fold, append_assoc, append-nil, refl}
use Rattle.history.proofs.Names.{sym, ap, subst, ◌∙◌, arith, All-push, All-weaker, fold-append}
use Rattle.steps.specs.declared.indices.enums.ReleaseMode.{ReleaseMode}
use Rattle.model.specs.declared.event.Event.{Event}
use Rattle.model.specs.declared.event.Event.TheVariants.{Begun, FreedOf, Asked}
use Rattle.model.specs.declared.event.Start.{Start}
use Rattle.std.proofs.lemmas.List.Concat.{flat_map-append}
use Rattle.std.proofs.lemmas.List.Quantifiers.{all_pairs_push}
use Rattle.steps.specs.declared.indices.robust.recover.RecoverStage.{RecoverStage}
use Rattle.steps.specs.declared.indices.robust.recover.RecoverStage.TheVariants as recovers
use Rattle.model.specs.declared.event.Event.TheVariants.{Told, Locked}
use Rattle.history_owners.specs.Robust.{Came, HasAsked, WasTold, HasFreed, HasLocked, MayCome, Visit, visit, AreVisits}
use Rattle.history_owners.specs.Robust.{came_to, HasCome, VisitsAt, wrote_to, wrote_of, wrote_by, wrote_now}

-- ---- the last of a list

-- a list without its last element
abbrev all_but_last : {A : Type 0} → List A → List A
all_but_last [] = []
all_but_last (x ∷ []) = []
all_but_last (x ∷ y ∷ xs) = x ∷ all_but_last (y ∷ xs)

-- a list with one more at its end, without that, is the list
but_last : {A : Type 0} (xs : List A) (x : A) → all_but_last (xs ++ x ∷ []) ≡ xs
but_last [] x = refl
but_last (y ∷ []) x = refl
but_last (y ∷ z ∷ xs) x = ap (λ zs. y ∷ zs) (but_last (z ∷ xs) x)

pub same_before : {A : Type 0} (xs ys : List A) (x : A) → xs ++ x ∷ [] ≡ ys ++ x ∷ [] → xs ≡ ys
same_before xs ys x lists_are = sym (but_last xs x) ∙ (ap all_but_last lists_are ∙ but_last ys x)

-- the last visit, with how far the recovery has come there, in place of what it was
pub came_last : (visits : List Visit) (index owner : ℕ) (came next : Came)
    → came_to next (visits ++ visit index owner came ∷ []) ≡ visits ++ visit index owner next ∷ []
came_last [] index owner came next = refl
came_last (v ∷ []) index owner came next = refl
came_last (v ∷ w ∷ visits) index owner came next = ap (λ zs. v ∷ zs) (came_last (w ∷ visits) index owner came next)

-- ---- visits are of ascending indices

module _ (mode : ReleaseMode) where
  pub none_yet : (bound : ℕ) (visits : List Visit) → visits ≡ [] → AreVisits mode bound visits
  none_yet = grind arith

  pub wider : (low high : ℕ) (visits : List Visit) → low ≤ high → AreVisits mode low visits → AreVisits mode high visits
  wider = grind arith

  -- a visit of the next index behind visits of smaller indices
  pub one_more : (index owner : ℕ) (came : Came) (visits : List Visit) → MayCome mode came → AreVisits mode index visits
      → AreVisits mode (index + 1) (visits ++ visit index owner came ∷ [])
  one_more index owner came visits may are_visits = (
    all_pairs_push (λ (x y : Visit). x.index < y.index) visits (visit index owner came) are_visits.0
        (All-weaker (λ (v : Visit). (v.index < index) × MayCome mode v.came) (λ (v : Visit). v.index < index) (λ v at. at.0) visits are_visits.1),
    All-push (λ (v : Visit). (v.index < index + 1) × MayCome mode v.came) visits (visit index owner came)
        (wider index (index + 1) visits (omega arith) are_visits).1 (omega arith, may),
  )

  -- with the last visit the visits are of indices up to that one
  pub came_past : {index owner : ℕ} {came : Came} {visits : List Visit} → MayCome mode came → HasCome mode index came owner visits
      → AreVisits mode (index + 1) visits
  came_past {index} {owner} {came} may come = subst (AreVisits mode (index + 1)) (sym come.is) (one_more index owner came come.before may come.passed)

  -- the recovery comes further with the last visit
  abbrev pub comes_on : (index owner : ℕ) (came next : Came) (visits : List Visit) → HasCome mode index came owner visits
      → HasCome mode index next owner (came_to next visits)
  comes_on index owner came next visits has_come =
      record { before = has_come.before; passed = has_come.passed; is = ap (came_to next) has_come.is ∙ came_last has_come.before index owner came next }

-- ---- what a recovery wrote of its visits

module _ {T : Type 0} (p : ℕ) where
  abbrev wrote : List Visit → List (Event T)
  wrote visits = wrote_by p visits

  pub wrote_last : (visits : List Visit) (v : Visit) → wrote (visits ++ v ∷ []) ≡ wrote visits ++ wrote_of p v
  wrote_last = grind (arith, flat_map-append, append-nil)

  -- what the recovery writes as it comes further with the last visit is what the visits then tell
  pub wrote_on : {mode : ReleaseMode} {index owner : ℕ} {came : Came} (next : Came) {visits : List Visit} (es more : List (Event T))
      → wrote_to p index owner came ++ more ≡ wrote_to p index owner next → HasCome mode index came owner visits
      → es ≡ wrote visits → es ++ more ≡ wrote (came_to next visits)
  wrote_on {mode} {index} {owner} {came} next {visits} es more longer come es_is =
      ap (λ zs. zs ++ more) (es_is ∙ (ap wrote come.is ∙ wrote_last come.before (visit index owner came)))
      ∙ (append_assoc (wrote come.before) (wrote_to p index owner came) more
      ∙ (ap (λ zs. wrote come.before ++ zs) longer
      ∙ (sym (wrote_last come.before (visit index owner next)) ∙ ap wrote (sym (comes_on mode index owner came next visits come).is))))

-- ---- what was written tells which visits they are

module _ (T : Type 0) (p : ℕ) where
  abbrev writes : List Visit → List (Event T)
  writes visits = wrote_by p visits

  -- the visits of a recovery, as an event leaves them: read from its events since its begin
  abbrev read : List Visit → Event T → List Visit
  read visits (Begun q start) = []
  read visits (Asked q index owner) = visits ++ visit index owner HasAsked ∷ []
  read visits (Told q index owner) = came_to WasTold visits
  read visits (FreedOf q index owner) = came_to HasFreed visits
  read visits (Locked q) = came_to HasLocked visits
  read visits e = visits

  reads_one : (visits : List Visit) (index owner : ℕ) (came : Came) → fold read visits (wrote_to p index owner came) ≡ visits ++ visit index owner came ∷ []
  reads_one = grind (arith, came_last)

  -- what was written of visits reads back as these visits
  reads : (front visits : List Visit) → fold read front (writes visits) ≡ front ++ visits
  reads front [] = sym (append-nil front)
  reads front (v ∷ visits) =
      fold-append read front (wrote_of p v) (writes visits)
      ∙ (ap (λ vs. fold read vs (writes visits)) (reads_one front v.index v.owner v.came)
      ∙ (reads (front ++ v ∷ []) visits ∙ append_assoc front (v ∷ []) visits))

  -- the events of a recovery up to a stage read back as its visits
  read_there : (before : List (Event T)) (start : Start T) (stage : RecoverStage) (visits : List Visit)
      → fold read [] (before ++ Begun p start ∷ (writes visits ++ wrote_now p stage)) ≡ fold read visits (wrote_now p stage)
  read_there = grind (arith, fold-append, fold, reads)

  -- two lists of visits at one stage whose events are equal are equal
  told_apart : (capacity : ℕ) (mode : ReleaseMode) (stage : RecoverStage) (a b : List Visit) → VisitsAt capacity mode stage a
      → VisitsAt capacity mode stage b → fold read a (wrote_now p stage) ≡ fold read b (wrote_now p stage) → a ≡ b
  told_apart capacity mode recovers.LoadsCounter a b first_visits_at second_visits_at fold_is = fold_is
  told_apart capacity mode (recovers.LoadsCell index) a b first_visits_at second_visits_at fold_is = fold_is
  told_apart capacity mode (recovers.Asks index owner) a b first_visits_at second_visits_at fold_is = same_before a b (visit index owner HasAsked) fold_is
  told_apart capacity mode (recovers.EmptiesCell index owner) a b first_visits_at second_visits_at fold_is =
      let last = λ (vs : List Visit) (h : HasCome mode index HasAsked owner vs). (comes_on mode index owner HasAsked WasTold vs h).is in
      first_visits_at.is
      ∙ (ap (λ vs. vs ++ visit index owner HasAsked ∷ [])
      (same_before first_visits_at.before second_visits_at.before (visit index owner WasTold)
      (sym (last a first_visits_at) ∙ (fold_is ∙ last b second_visits_at))) ∙ sym second_visits_at.is)
  told_apart capacity mode (recovers.Raises index raise) a b first_visits_at second_visits_at fold_is = fold_is
  told_apart capacity mode (recovers.Locks index lock) a b first_visits_at second_visits_at fold_is = fold_is
  told_apart capacity mode recovers.LoadsCounterAgain a b first_visits_at second_visits_at fold_is = fold_is

-- two recoveries at one stage, with the same events since they began, have the same visits
pub same_visits : {T : Type 0} {p q : ℕ} (size other : ℕ) (mode : ReleaseMode) (start : Start T) (stage : RecoverStage) (made first second : List (Event T))
    (a b : List Visit) → p ≡ q → VisitsAt size mode stage a → VisitsAt other mode stage b → size ≡ other
    → made ≡ first ++ Begun p start ∷ (wrote_by p a ++ wrote_now p stage) → made ≡ second ++ Begun q start ∷ (wrote_by q b ++ wrote_now q stage) → a ≡ b
same_visits {T} {p = p} size other mode start stage made first second a b by first_visits_at second_visits_at sized made_is also =
    let there : made ≡ second ++ Begun p start ∷ (wrote_by p b ++ wrote_now p stage) =
    subst (λ r. made ≡ second ++ Begun r start ∷ (wrote_by r b ++ wrote_now r stage)) (sym by) also in
    told_apart T p size mode stage a b first_visits_at (subst (λ n. VisitsAt n mode stage b) (sym sized) second_visits_at)
    (sym (read_there T p first start stage a) ∙ (ap (fold (read T p) []) (sym made_is ∙ there) ∙ read_there T p second start stage b))

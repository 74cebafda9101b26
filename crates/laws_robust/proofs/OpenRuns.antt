-- Every turn of an open run keeps what holds of the machine of a robust set, so it holds wherever an open
-- run leads. (In an open run no owner dies, and no decision is refused.)
use Rattle.laws_robust.proofs.Names.{◌≡◌, ◌≢◌, greatest, AnswersRight, Each, ℕ, Bool, true, not, Some}
use Rattle.laws_robust.proofs.Names.{None, is_none, refl, subst, arith, ReleaseMode}
use Rattle.laws_robust.proofs.Names.{Container, Flight, Party, Idle, Undecided, Turn, Begin, Next, Decide, Die}
use Rattle.laws_robust.proofs.Names.{Coding, party_of, is_due, call_refusal, after_turn, Trace, flight_in, row_passed}
use Rattle.model.specs.declared.families.container.ContainerStart.TheVariants.{Recover}
use Rattle.model.specs.declared.families.Flight.TheVariants as flights
use Rattle.model.specs.declared.turn.Kind.TheVariants as kinds
use Rattle.model.specs.World.{World}
use Rattle.std.proofs.Common.{is_some, slice_index}
use Rattle.model.specs.declared.families.Registry.TheVariants as registries
use Rattle.model.proofs.FamilyLaws.{opening_there}
use Rattle.model.proofs.Frame as frame
use Rattle.model.proofs.Rows.{MayStart, MayGoOn, IsPossible, possible_on, not_none, not_some}
use Rattle.lemmas.proofs.Open.{possible_open, starts_open}
use Rattle.model.proofs.Scenes.{decides_from, stands_there}
use Rattle.model.proofs.Reached.{kept_by, reached_by_more}
use Rattle.laws_robust.specs.Gone.{Word, IsHonest}
use Rattle.model.specs.Open.{open_refusal, IsReachedOpen}
use Rattle.laws_robust.specs.Open.{IsOpenSet}
use Rattle.lemmas_owners.proofs.Alive.{AllLive, all_live_on}
use Rattle.laws_robust.proofs.Gone.{answers_right}
use Rattle.laws_robust.proofs.Invariant.{outline, family_by}
use Rattle.laws_robust.proofs.Living.{steps_leave}
use Rattle.laws_robust.proofs.Sound.{May, laws_by, all_turns, decides, MayDecideIn}

-- the machine of the robust set, with owners gone by what recoveries are told
module _ {T : Type 0} (code : Coding T) (c : ℕ) where
  abbrev Sound : Trace T → Type 0
  Sound t = frame.Sound (family_by Word code c) t

  -- ---- in an open run each decision may be taken

  -- a decision may be made in an open run, whatever it says
  may_decide : {t : Trace T} (s : Sound t) (p : ℕ) (x : Party T) (since : ℕ)
      (found : party_of p t.world.latest ≡ Some x) (flight : Flight T) (said : Bool)
      → MayDecideIn Word code c t s p x since found flight said
  may_decide s p x since found (flights.Robust flight) said = tt
  may_decide s p x since found flight said = tt

  -- a decision that the open run does not refuse is due
  may_decide_open : (w : World T) (p : ℕ) (said : Bool) → open_refusal w (Decide p said) ≡ None → is_due w.coding (flight_in w p) ≡ true
  may_decide_open w p said not_refused = let may : MayGoOn w p × (is_due w.coding (flight_in w p) ≡ true) = possible_open w (Decide p said) not_refused in may.1

  -- ---- any turn

  -- a turn that the rows of a machine whose owners die do not refuse keeps the invariant
  goes_by_rows : {t : Trace T} (turn : Turn T) → call_refusal t.world turn ≡ None → Sound t → Sound (after_turn t turn)
  goes_by_rows {t = t} turn not_refused sound = frame.turn_sound (family_by Word code c) (λ u turn. Unit {0}) (laws_by Word code c) t turn not_refused tt sound

  -- no call of a container begins on a robust set
  no_container : {A : Type 0} {t : Trace T} → Sound t → (p owner : ℕ) (mode : ReleaseMode)
      → open_refusal t.world (Begin p (Container (Recover owner mode))) ≡ None → A
  no_container sound p owner mode not_refused = grind arith

  -- a turn that an open run does not refuse leaves the machine sound
  pub open_turn_sound : (t : Trace T) (turn : Turn T) → open_refusal t.world turn ≡ None → Sound t → Sound (after_turn t turn)
  open_turn_sound t (Begin p (Container (Recover owner mode))) not_refused sound = no_container sound p owner mode not_refused
  open_turn_sound t (Begin p start) not_refused sound = goes_by_rows (Begin p start) not_refused sound
  open_turn_sound t (Next p) not_refused sound = goes_by_rows (Next p) not_refused sound
  open_turn_sound t (Die owner) not_refused sound = absurd (cc)
  open_turn_sound t (Decide p said) not_refused sound =
      let due : is_due code (flight_in t.world p) ≡ true =
      subst (λ y. is_due y (flight_in t.world p) ≡ true) sound.coding (may_decide_open t.world p said not_refused) in
      let F = family_by Word code c in
      frame.decision_sound F t p said sound (λ x flight since u.
      decides_from F t sound p x since said sound.state.words (registries.Owners sound.state.dead) flight sound.fit.words sound.fit.kept
      (decides Word code c t sound p x since u.found tt said (may_decide sound p x since u.found flight said)
      (subst (λ o. is_due code o ≡ true) u.is due) (stands_there F t sound p x since flight u.found u.doing)))
      (party_of p t.world.latest) refl

-- ---- whole runs

module _ {T : Type 0} where
  -- wherever an open run leads the invariant holds, whatever the order of the turns, and
  -- however many there were
  pub reached_open_sound : (t : Trace T) → t.world.kind ≡ kinds.Robust → IsReachedOpen t
      → frame.Sound (family_by Word t.world.coding t.world.capacity) t
  reached_open_sound t kind_is reached_open =
      let world = t.world in
      kept_by open_refusal (frame.Sound (family_by Word world.coding world.capacity))
      (λ u turn e s. open_turn_sound world.coding world.capacity u turn e s) t
      (opening_there (outline Word) (May Word) (all_turns Word) t kind_is reached_open.coded reached_open.admitted) reached_open

  -- in an open run nobody dies
  pub reached_open_lives : (t : Trace T) → t.world.kind ≡ kinds.Robust → IsReachedOpen t → AllLive t.events
  reached_open_lives t kind_is reached_open =
      let code = t.world.coding in
      let c = t.world.capacity in
      (kept_by open_refusal (λ u. frame.Sound (family_by Word code c) u × AllLive u.events)
      (λ u turn e h. (open_turn_sound code c u turn e h.0, all_live_on u (steps_leave code c u h.0) turn e h.1)) t
      (opening_there (outline Word) (May Word) (all_turns Word) t kind_is reached_open.coded reached_open.admitted, λ owner. refl) reached_open).1

  -- the invariant gives what is promised of an open set
  open_kept : (code : Coding T) {t : Trace T} → frame.Sound (family_by Word code t.world.capacity) t → AllLive t.events → IsOpenSet t
  open_kept code sound lives =
      let kept = sound.fit.kept in
      let words = sound.fit.words in
      grind arith

  -- wherever an open run leads, what is promised of an open set holds
  pub reached_open_kept : (t : Trace T) → t.world.kind ≡ kinds.Robust → IsReachedOpen t → IsOpenSet t
  reached_open_kept t kind_is reached_open = open_kept t.world.coding (reached_open_sound t kind_is reached_open) (reached_open_lives t kind_is reached_open)

  -- In an honest run whose counter is not at its end, the answers are right as those of a machine whose owners die.
  pub open_answers : (t : Trace T) → IsOpenSet t → IsHonest t.events → slice_index t.world.words 0 ≢ greatest → Each (AnswersRight t.world.capacity) t.events
  open_answers t open_set honest other = answers_right (slice_index t.world.words 0 ≡ greatest) other Word t.world.capacity t.events honest open_set.answers

  -- ---- one turn more

  -- a turn that is not refused leads from an open run to an open run
  pub reached_open_more : (t : Trace T) (turn : Turn T) → open_refusal t.world turn ≡ None → IsReachedOpen t → IsReachedOpen (after_turn t turn)
  reached_open_more t turn not_refused reached_open = reached_by_more open_refusal t turn not_refused reached_open

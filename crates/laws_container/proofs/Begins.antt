-- What a call of a container does as it begins: it keeps the invariant, and knows what its first stage tells.
-- Before the begin the party had no call under way, by its span too.
use Rattle.laws_container.proofs.Names.{◌≡◌, ◌≢◌, ℕ, ⊎_elim, if◌then◌else◌, nat_lt, Bool, true, false, Option, Some}
use Rattle.laws_container.proofs.Names.{None, is_some, List, [], ◌∷◌, ◌++◌, refl, sym, ap, ◌∙◌, arith}
use Rattle.laws_container.proofs.Names.{nat_tests, length-replicate, fold-append, ContainerState, ReleaseMode, Event}
use Rattle.laws_container.proofs.Names.{Begun, Container, ContainerStart, Party, first, is_looking, names_owner}
use Rattle.laws_container.proofs.Names.{states_at_begin, StandsWellFormed, WasShown, Sees, contents_after}
use Rattle.laws_container.proofs.Names.{contents_of, announced_after, announced_of, acts, acts_of, state_of}
use Rattle.laws_container.proofs.Names.{with_state, fresh, IsFilledWith, Yes, set_acts, set_acts_of}
use Rattle.laws_container.proofs.Names.{settled_of, wrote_in, IsOneOf, party_of, put, doing_of, flight_of, Open}
use Rattle.laws_container.proofs.Names.{span_of, IsShut, party_put_other, found_put_same, found_put_other, no_more}
use Rattle.laws_container.proofs.Names.{span_of-own, count_none, GoneBy, is_gone, both_ways, calm_less}
use Rattle.laws_container.proofs.Names.{gone_begun, since_begun}
use Rattle.steps.specs.declared.container.remove.RemoveStage.TheVariants as removes
use Rattle.steps.specs.declared.container.replace.ReplaceStage.TheVariants as replaces
use Rattle.model.specs.declared.families.container.ContainerStart.TheVariants as starts
use Rattle.laws_robust.proofs.Begins.{begins, taken}
use Rattle.laws_robust.proofs.Invariant as set
use Rattle.laws_container.proofs.Invariant.{Scene, Elements, KeepsElements, KeepsInvariant, before, after, of_set, view}
use Rattle.laws_container.proofs.KeptCopies.{name_of}
use Rattle.laws_container.proofs.Knows.{View, Knows, IsPaid, RemoveKnows, ReplacesKnow, LookRests}
use Rattle.laws_container.proofs.Left.{left_after, left_of}
use Rattle.laws_container.proofs.WellFormed.{well_formed_before}
use Rattle.laws_container.proofs.Replaces.{replace_begun}
use Rattle.laws_container.proofs.Opening.{shows_same}
use Rattle.laws_container.proofs.StateInvariant.{Rests, rests_later}
use Rattle.laws_container.proofs.Sound.{MayRecover, first_party, Begins}
use Rattle.laws_container.proofs.CallProgress.{At}
use Rattle.laws_container.proofs.Turns.{Now, WellFormed, Owing, owes, Passes}

-- an empty list has no member
none_of : {X : Type 0} {A : Type 0} (one : X) (done before after : List X) → done ≡ [] → done ≡ before ++ one ∷ after → A
none_of one done before after none split_so = absurd (no_more before one after (sym none ∙ split_so))

-- the party of the scene has no call under way, and begins one
module _ {T : Type 0} (scene : Scene T)
    (g : set.Good scene.terms.by scene.capacity scene.words scene.dead scene.events scene.turns)
    (elements : Elements scene.coding scene.capacity (before scene) scene.states scene.turns)
    (free : flight_of (doing_of (party_of scene.party scene.latest)) ≡ None)
    (shut : IsShut (span_of scene.party scene.events)) where
  open scene use {coding as code, capacity as c, party as p, changes as changes, latest as latest, events as events}

  -- the begin as an event; the party after it; and the machine before and after it, with the parties' states
  abbrev begun : ContainerStart T → List (Event T)
  begun start = Begun p (Container start) ∷ []

  abbrev y : ContainerStart T → Party T
  y start = first_party c changes start

  abbrev m : Now T
  m = before scene

  abbrev m' : ContainerStart T → Now T
  m' start = after scene scene.words (y start) (begun start)

  abbrev states' : ContainerStart T → List (ℕ × ContainerState T)
  states' start = states_at_begin code c start p scene.states

  -- ---- what it does to the elements

  -- a party without a call under way breaks no condition of a well-formed run
  stands_shut : (o : Option (Party T)) → StandsWellFormed p o events
  stands_shut = grind arith

  -- the run was well-formed before the begin if it is after it
  was_well_formed : (start : ContainerStart T) → WellFormed (m' start) → WellFormed m
  was_well_formed start = well_formed_before scene.terms p (y start) latest events (begun start) (refl, tt) (λ well_formed. stands_shut (party_of p latest))

  -- the begin changes nothing of what stands, of what is announced and of what is left
  same_contents : (start : ContainerStart T) (i : ℕ) → contents_of i (events ++ begun start) ≡ contents_of i events
  same_contents start i = fold-append (contents_after i) None events (begun start)

  same_announced : (start : ContainerStart T) (i : ℕ) → announced_of i (events ++ begun start) ≡ announced_of i events
  same_announced start i = fold-append (announced_after i) false events (begun start)

  same_left : (start : ContainerStart T) (i : ℕ) → left_of i (events ++ begun start) ≡ left_of i events
  same_left start i = fold-append (left_after i) true events (begun start)

  -- a party that owed the changes a raise was another one, and owes it still
  still_owing : (start : ContainerStart T) → Owing latest → Owing (put p (y start) latest)
  still_owing = grind (arith, owes, false, both_ways, party_put_other)

  -- what the begin leaves to any party is what `Passes` says
  passes : (start : ContainerStart T) → Passes code c m (m' start)
  passes = grind (arith, was_well_formed, same_contents, same_announced, same_left, still_owing)

  -- the begin leaves the elements as a turn must
  changes_none : (start : ContainerStart T) → KeepsElements scene scene.words (y start) (begun start)
  changes_none = grind (arith, passes, same_contents, same_left, is_some, was_well_formed, same_announced)

  -- ---- and to the states

  -- the party was in no look
  idle : is_looking (flight_of (doing_of (party_of p latest))) ≡ false
  idle = ap is_looking free

  -- a new state of this party leaves those of other parties
  new_other : (q : ℕ) → q ≢ p → state_of q (with_state p (fresh code c) scene.states) ≡ state_of q scene.states
  new_other q ne = found_put_other q p (fresh code c) scene.states ne

  -- a begin leaves the states of other parties
  other_states : (start : ContainerStart T) (q : ℕ) → q ≢ p → state_of q (states' start) ≡ state_of q scene.states
  other_states starts.GetState q ne = new_other q ne
  other_states starts.UpdateState q ne = go (is_some (state_of p scene.states))
    where
      -- the cases are whether the party has a state already
      go : (b : Bool) → state_of q (if b then scene.states else with_state p (fresh code c) scene.states) ≡ state_of q scene.states
      go true = refl
      go false = new_other q ne
  other_states start q ne = refl

  -- the state of the party is at rest after the begin, if it was before
  still_rests : (start : ContainerStart T) {s : ContainerState T} → state_of p scene.states ≡ Some s → Rests code c (m' start) p s
  still_rests start {s} found = rests_later code c (begun start) refl (passes start) p s (elements.rests p s idle found)

  -- the state of the party is at rest after the begin, if the call is no look
  rests_then : (start : ContainerStart T) (s : ContainerState T)
      → is_looking (flight_of (Some (y start).doing)) ≡ false → state_of p (states' start) ≡ Some s
      → Rests code c (m' start) p s
  rests_then start s no_look found = let rests = still_rests start {s = s} in grind arith

  -- a begin keeps the invariant
  does : (start : ContainerStart T) → KeepsInvariant scene scene.words (states' start) (y start) (begun start)
  does start =
      record {
        set = begins (of_set scene) g (Container start);
        changes = changes_none start;
        right = record { asks = (tt, tt); recovers = (tt, tt); answers = (tt, tt); contains = λ well_formed. (tt, tt); places = λ well_formed. (tt, tt) };
        others = other_states start;
        rests = rests_then start;
      }

  -- ---- what its first stage knows

  -- what the party sees after the begin
  abbrev v : ContainerStart T → View T
  v start = view scene.terms scene.words (states' start) (put p (y start) latest) (events ++ begun start) p changes changes 0

  -- a call that begins has never turned back, so it has nothing to pay for
  paid : (start : ContainerStart T) → IsPaid (v start)
  paid start = omega arith

  -- the span of the party is open after the begin, and empty
  span_begun : (start : ContainerStart T) → span_of p (events ++ begun start) ≡ Open (Container start) []
  span_begun start = span_of-own p events (begun start) (refl, tt)

  -- a call that begins has done nothing to the set
  no_set_acts : (start : ContainerStart T) → set_acts_of p (events ++ begun start) ≡ []
  no_set_acts start = ap (λ a. set_acts (wrote_in a)) (span_begun start)

  -- a call that begins has done nothing to elements
  no_acts : (start : ContainerStart T) → acts_of p (events ++ begun start) ≡ []
  no_acts start = ap (λ a. acts (wrote_in a)) (span_begun start)

  -- the call that begins is a remove
  module _ (index owner : ℕ) (mode : ReleaseMode) where
    abbrev removing : ContainerStart T
    removing = starts.Remove index owner mode

    -- a remove knows as it begins what its first stage tells, whether its index is below the capacity or not
    remove_knows : (b : Bool) → nat_lt index c ≡ b
        → RemoveKnows code c (if b then index else c) owner mode
        (if nat_lt (if b then index else c) c then removes.LoadsCount else removes.Refuses)
        (v removing)
    remove_knows true index_test =
        rw index_test
        (record {
          paid = paid removing;
          scanned = tt;
          owns =
              λ calm alive began. taken p index owner (Container removing) events (λ r. refl)
              (g.owned (calm_less scene.terms.by events (begun removing) calm))
              (since_begun p (λ part. settled_of index part ≡ Some owner) events (Container removing) began);
          says = tt;
          gone = tt;
        })
    remove_knows false index_test = let past : nat_lt c c ≡ false = grind (arith, nat_tests) in rw past (paid removing)

  -- the call that begins is a replace
  module _ (index : ℕ) (value : T) (owner : ℕ) where
    abbrev replacing : ContainerStart T
    replacing = starts.Replace index value owner

    -- a replace knows as it begins what its first stage tells, whether its index is below the capacity or not
    replaces_know : (b : Bool) → nat_lt index c ≡ b
        → ReplacesKnow code c (if b then index else c) value owner
        (if nat_lt (if b then index else c) c then replaces.LoadsCell else replaces.Refuses)
        (v replacing)
    replaces_know true index_test = rw index_test (paid replacing, replace_begun scene.terms.by index owner value events)
    replaces_know false index_test = let past : nat_lt c c ≡ false = grind (arith, nat_tests) in rw past (paid replacing)

  -- a look that begins with a new state finds it at rest
  new_state : (start : ContainerStart T)
      → LookRests code c (view scene.terms scene.words (with_state p (fresh code c) scene.states) (put p (y start) latest)
      (events ++ begun start) p changes changes 0)
  new_state start =
      record {
        state = fresh code c;
        found = found_put_same p (fresh code c) scene.states;
        rests = rests_later code c (begun start) refl (passes start) p (fresh code c) (elements.fresh p);
        own = λ getting i value ne is. let none : None ≡ Some value = sym (shows_same _ c i) ∙ is in absurd (cc);
      }

  -- a look that is no `get_state` finds the state that its party has at rest, or a new one if it has none
  old_state : (start : ContainerStart T) → start ≢ starts.GetState → (o : Option (ContainerState T))
      → state_of p scene.states ≡ o
      → LookRests code c (view scene.terms scene.words (if is_some o then scene.states else with_state p (fresh code c) scene.states)
      (put p (y start) latest) (events ++ begun start) p changes changes 0)
  old_state start other None state_is = new_state start
  old_state start other (Some s) state_is =
      record {
        state = s;
        found = state_is;
        rests = still_rests start state_is;
        own =
            λ getting. let name : Some (Container start) ≡ Some (Container starts.GetState) =
            sym (ap name_of (span_begun start)) ∙ getting in
            absurd (other (cc));
      }

  -- a call that begins stands at its first stage
  at_first : (start : ContainerStart T) → names_owner start ≡ true → At c code.size [] [] start (first c start)
  at_first start named = grind arith

  -- the owner of a recovery is gone after its begin: by his death, or by the begin itself
  gone_then : (by : GoneBy) (owner : ℕ) (mode : ReleaseMode)
      → MayRecover by events (starts.Recover owner mode)
      → is_gone by owner (events ++ begun (starts.Recover owner mode)) ≡ true
  gone_then = grind (arith, fold-append, false, gone_begun)

  -- each call knows as it begins what its first stage tells
  knows_first : (start : ContainerStart T) → MayRecover scene.terms.by events start → Knows code c (first c start) (v start)
  knows_first (starts.Add value owner) may_recover =
      record { paid = paid (starts.Add value owner); scanned = tt; owns = tt; says = tt; gone = tt }
  knows_first (starts.Remove index owner mode) may_recover = remove_knows index owner mode (nat_lt index c) refl
  knows_first (starts.Replace index value owner) may_recover = replaces_know index value owner (nat_lt index c) refl
  knows_first (starts.Find owner) may_recover =
      let start : ContainerStart T = starts.Find owner in
      let none = count_none p (IsFilledWith owner) (events ++ begun start) in
      (length-replicate {A = ℕ} 128 0, (paid start, none, λ well_formed. record { count = none; copied = λ index less chosen through. absurd (omega arith) }))
  knows_first (starts.Recover owner mode) may_recover =
      let start : ContainerStart T = starts.Recover owner mode in
      let dead = gone_then scene.terms.by owner mode may_recover in (
        length-replicate {A = ℕ} 128 0,
        (
          paid start,
          dead,
          λ honest i. ⊎_elim
              (λ (told : IsOneOf (Yes i owner) (set_acts_of p (events ++ begun start))). none_of (Yes i owner)
              (set_acts_of p (events ++ begun start)) told.before told.after (no_set_acts start) told.is)
              (λ (seen : WasShown p i (events ++ begun start)). none_of (Sees i) (acts_of p (events ++ begun start))
              seen.before seen.after (no_acts start) seen.is),
        ),
        tt,
      )
  knows_first starts.GetState may_recover = (paid starts.GetState, new_state starts.GetState)
  knows_first starts.UpdateState may_recover =
      (paid starts.UpdateState, old_state starts.UpdateState (λ e. cc) (state_of p scene.states) refl)
  knows_first starts.Len may_recover = record { paid = paid starts.Len; scanned = tt; owns = tt; says = tt; gone = tt }
  knows_first starts.IsEmpty may_recover = record { paid = paid starts.IsEmpty; scanned = tt; owns = tt; says = tt; gone = tt }
  knows_first starts.IsLocked may_recover = record { paid = paid starts.IsLocked; scanned = tt; owns = tt; says = tt; gone = tt }

  -- a call that begins shows all that `Begins` asks
  pub begins_shown : {start : ContainerStart T} → names_owner start ≡ true → MayRecover scene.terms.by events start → Begins scene start
  begins_shown {start} named may_recover = record { does = does start; at = at_first start named; knows = knows_first start may_recover }

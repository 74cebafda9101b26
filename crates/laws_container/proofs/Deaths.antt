-- The death of an owner keeps the invariant of a container, and each call knows what it knew.
use Rattle.laws_container.proofs.Names.{◌≡◌, ℕ, ◌+◌, inl, true, false, None, is_some, List, [], ◌∷◌, ◌++◌, refl, sym}
use Rattle.laws_container.proofs.Names.{ap, ◌∙◌, arith, fold-append, ContainerState, Event, Died, Party, Coding}
use Rattle.laws_container.proofs.Names.{ContainsRight, ReplacesRight, contents_after, contents_of, announced_after}
use Rattle.laws_container.proofs.Names.{announced_of, is_dead, party_of, Each-append, Each-less, span_of-death, calm_less}
use Rattle.laws_robust.proofs.Deaths.{death_good, death_goes, death_spares}
use Rattle.laws_robust.proofs.Invariant as set
use Rattle.laws_container.specs.Gone.{AsksBy, RecoversBy, AnswersBy}
use Rattle.laws_container.proofs.HiddenKnows.{EndsRight}
use Rattle.laws_container.proofs.Invariant.{Elements, moment}
use Rattle.laws_container.proofs.KeepingReads.{still_knows}
use Rattle.laws_container.proofs.Left.{left_after, left_of}
use Rattle.laws_container.proofs.WellFormed.{stands_less}
use Rattle.laws_container.proofs.StateInvariant.{rests_later}
use Rattle.laws_container.proofs.Sound.{Dies}
use Rattle.laws_container.proofs.Terms.{Terms}
use Rattle.laws_container.proofs.Turns.{Now, WellFormed, Passes, LeavesParty}

-- the owner `o`, who lives, dies in this machine
module _ {T : Type 0} (terms : Terms) (code : Coding T) (c : ℕ) (words dead : List ℕ)
    (states : List (ℕ × ContainerState T)) (latest : List (ℕ × Party T)) (events : List (Event T)) (turns o : ℕ)
    (g : set.Good terms.by c words dead events turns)
    (held : Elements code c (moment terms words latest events) states turns)
    (alive : is_dead o events ≡ false) where
  -- the death as an event, and the machine before and after it
  abbrev es : List (Event T)
  es = Died o ∷ []

  abbrev m : Now T
  m = moment terms words latest events

  abbrev m' : Now T
  m' = moment terms words latest (events ++ es)

  -- the death changes nothing of what stands, of what is announced and of what is left
  same_contents : (i : ℕ) → contents_of i (events ++ es) ≡ contents_of i events
  same_contents i = fold-append (contents_after i) None events es

  same_announced : (i : ℕ) → announced_of i (events ++ es) ≡ announced_of i events
  same_announced i = fold-append (announced_after i) false events es

  same_left : (i : ℕ) → left_of i (events ++ es) ≡ left_of i events
  same_left i = fold-append (left_after i) true events es

  -- the run was well-formed before the death if it is after it
  was_well_formed : WellFormed m' → WellFormed m
  was_well_formed well_formed =
      record {
        kept = well_formed.kept;
        calm = calm_less terms.by events es well_formed.calm;
        replaced = Each-less ReplacesRight events es well_formed.replaced;
        replaces = λ q. stands_less q (party_of q latest) events es tt (span_of-death q events o) (well_formed.replaces q);
      }

  -- the death leaves the elements, as `Passes` says
  passes : Passes code c m m'
  passes = grind (arith, was_well_formed, same_contents, same_announced, same_left)

  -- the death leaves to each party what it may write, as `LeavesParty` says
  leaves : (q : ℕ) → LeavesParty code c q m m'
  leaves q = let contents = same_contents in let left = same_left in grind arith

  -- what holds of the elements and of the states holds after the death
  elements_then : Elements code c m' states (turns + 1)
  elements_then =
      record {
        coded = held.coded;
        wide = held.wide;
        counts = λ kept i below. let few = held.counts kept i below in omega arith;
        change = λ kept. let few = held.change kept in omega arith;
        within = λ i value e. held.within i value (sym (same_contents i) ∙ e);
        announced = λ well_formed i e. ap is_some (same_contents i) ∙ held.announced (was_well_formed well_formed) i (sym (same_announced i) ∙ e);
        whole = λ well_formed i below. rw (same_contents i) (held.whole (was_well_formed well_formed) i below);
        asks = Each-append (AsksBy terms.by) events es held.asks (tt, tt);
        recovers = Each-append (RecoversBy terms.by) events es held.recovers (tt, tt);
        answers = Each-append (AnswersBy terms.by (set.IsWorn terms.by words) c) events es held.answers (tt, tt);
        contains = λ well_formed. Each-append ContainsRight events es (held.contains (was_well_formed well_formed)) (tt, tt);
        places = λ well_formed. Each-append EndsRight events es (held.places (was_well_formed well_formed)) (tt, tt);
        rests = λ q s idle found. rests_later code c es refl passes q s (held.rests q s idle found);
        fresh = λ q. rests_later code c es refl passes q _ (held.fresh q);
      }

  -- the death of an owner shows all that `Dies` asks
  pub dies : Dies terms code c words dead states latest events turns o
  dies =
      record {
        good = death_good o g alive;
        elements = elements_then;
        knows = λ q since changes backs flight k.
            still_knows
            (record {
              words_then = words;
              states_then = states;
              latest_then = latest;
              es = es;
              changes_then = changes;
              goes = death_goes o g alive;
              spares = death_spares o g alive q;
              seen = inl (refl, refl);
              passes = passes;
              leaves = leaves q;
              span = span_of-death q events o;
              same_party = refl;
              same_state = refl;
            })
            flight k;
      }

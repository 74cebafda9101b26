-- What a well-formed run is, up to now: of its events and of the parties' latest calls. And that a run which
-- is well-formed after a turn was so before it.
use Rattle.std.proofs.Common.{arith}
use Rattle.laws_container.proofs.Names.{◌≡◌, ◌≢◌, ⊎_elim, ℕ, Option, Some, None, List, ◌++◌, refl, sym}
use Rattle.laws_container.proofs.Names.{subst, ◌∙◌, cases_eq, Event, Party, ReplacesRight}
use Rattle.laws_container.proofs.Names.{StandsWellFormed, IsWellFormedRun, IsFilledWith, BeginsNone, party_of, put}
use Rattle.laws_container.proofs.Names.{Each, span_of, Trace, others_begin_none, held_later, party_put_other, AreOwn}
use Rattle.laws_container.proofs.Names.{Each-less, span_of-other, IsHonestBy, IsCalm, calm_less}
use Rattle.laws_container.proofs.Replaces.{earlier}
use Rattle.laws_container.proofs.Terms.{Terms, dying, Keeps}

module _ {T : Type 0} where
  -- the run keeps to its terms and is calm; each replace that has replaced was begun where it might replace,
  -- and so was each replace under way that has taken a step and found its owner
  pub record IsWellFormedSoFar (terms : Terms) (latest : List (ℕ × Party T)) (events : List (Event T)) : Type 0 where
    pub kept : Keeps terms
    pub calm : IsCalm terms.by events
    pub replaced : Each ReplacesRight events
    pub replaces : (p : ℕ) → StandsWellFormed p (party_of p latest) events

  -- a run that is well-formed by its events, honest and on terms that are kept is well-formed up to now
  pub well_formed_on : (terms : Terms) (t : Trace T) → Keeps terms → IsHonestBy terms.by t.events
      → IsWellFormedRun t → IsWellFormedSoFar terms t.world.latest t.events
  well_formed_on = grind arith

  -- where owners die, a run that is well-formed by its events is well-formed up to now
  pub well_formed_so_far : {t : Trace T} → IsWellFormedRun t → IsWellFormedSoFar dying t.world.latest t.events
  well_formed_so_far {t} well_formed_run = well_formed_on dying t refl tt well_formed_run

  -- a replace whose span stays was begun where it might replace, also by the earlier events
  pub stands_less : (q : ℕ) (o : Option (Party T)) (events es : List (Event T)) → BeginsNone q es
      → span_of q (events ++ es) ≡ span_of q events → StandsWellFormed q o (events ++ es) → StandsWellFormed q o events
  stands_less q None events es none same stands_well_formed = tt
  stands_less q (Some x) events es none same stands_well_formed =
      λ index owner value wrote span steps found.
      (earlier none
      (stands_well_formed index owner value wrote (same ∙ span) steps (held_later q (IsFilledWith owner index) events es none found))).may

  -- the call `y` of party `p` writes the events `es`
  module _ (terms : Terms) (p : ℕ) (y : Party T) (latest : List (ℕ × Party T)) (events es : List (Event T)) (own : AreOwn p es) where
    -- the run is well-formed after the turn
    abbrev pub IsWellFormedThen : Type 0
    IsWellFormedThen = IsWellFormedSoFar terms (put p y latest) (events ++ es)

    -- the calls of other parties keep what a well-formed run asks of them also before the turn
    others_less : IsWellFormedThen → (q : ℕ) → q ≢ p → StandsWellFormed q (party_of q latest) events
    others_less = grind (arith, stands_less, others_begin_none, span_of-other, party_put_other)

    -- the run was well-formed before the turn, if the party's own call kept then what a
    -- well-formed run asks of it
    pub well_formed_before : (IsWellFormedThen → StandsWellFormed p (party_of p latest) events) → IsWellFormedThen → IsWellFormedSoFar terms latest events
    well_formed_before mine well_formed_then =
        record {
          kept = well_formed_then.kept;
          calm = calm_less terms.by events es well_formed_then.calm;
          replaced = Each-less ReplacesRight events es well_formed_then.replaced;
          replaces =
              λ q. ⊎_elim (λ e. subst (λ n. StandsWellFormed n (party_of n latest) events) (sym e) (mine well_formed_then))
              (λ ne. others_less well_formed_then q ne) (cases_eq q p);
        }

-- A history without recoveries is faithful, and one in which nothing is freed or replaced is well-formed.
use Rattle.std.proofs.Common.{◌≡◌, ℕ, Bool, true, false, true≢false, List, [], ◌∷◌, ◌++◌, fold, refl, sym, ap, ◌∙◌, arith}
use Rattle.std.proofs.Common.{if◌then◌else◌}
use Rattle.std.proofs.lemmas.List.Sums.{sum_by-append, sum_by-cons}
use Rattle.std.specs.List.{sum_by}
use Rattle.model.specs.declared.event.Answer.{Answer}
use Rattle.model.specs.declared.event.Event.{Event}
use Rattle.model.specs.declared.event.Event.TheVariants.{Begun, FreedOf, Told, Died, Finished}
use Rattle.model.specs.declared.event.Start.{Start}
use Rattle.model.specs.declared.event.Start.TheVariants.{Container}
use Rattle.model.specs.declared.families.container.ContainerStart.TheVariants.{Replace, Recover}
use Rattle.model.specs.Families.Container.Promises.{ReplacesRight}
use Rattle.model.specs.Families.Indices.Robust.Promises.{FreesRight}
use Rattle.model.specs.Reading.{Span, Never, Open, Ended, longer, ended, own_after, span_after, is_party, whose}
use Rattle.laws_robust.specs.Gone.{Word, gone_after, is_gone}
use Rattle.history_laws.specs.Containers.{BeginsRight, IsFaithful, IsWellFormed, recovery, recoveries, removal, removals}

module _ {T : Type 0} (f : Event T → ℕ) where
  -- an event of a history whose sum is 0 adds nothing
  here : (events before after : List (Event T)) (e : Event T) → events ≡ before ++ e ∷ after → sum_by f events ≡ 0 → f e ≡ 0
  here events before after e is none = omega (arith, sum_by-append f before (e ∷ after), sum_by-cons f e after, ap (sum_by f) is)

  -- a first part of a history whose sum is 0 has the sum 0
  earlier : (events before after : List (Event T)) → events ≡ before ++ after → sum_by f events ≡ 0 → sum_by f before ≡ 0
  earlier events before after is none = omega (arith, sum_by-append f before after, ap (sum_by f) is)

  -- the events behind the first one have the sum 0, where all have
  later : (e : Event T) (es : List (Event T)) → sum_by f (e ∷ es) ≡ 0 → sum_by f es ≡ 0
  later e es none = omega (arith, sum_by-cons f e es)

  -- the first event adds nothing, where the sum is 0
  first : (e : Event T) (es : List (Event T)) → sum_by f (e ∷ es) ≡ 0 → f e ≡ 0
  first e es none = omega (arith, sum_by-cons f e es)

module _ {T : Type 0} where
  -- ---- nobody is gone

  -- an event that tells of no recovery leaves whether an owner is gone
  none_goes : (owner : ℕ) (gone : Bool) (e : Event T) → recovery e ≡ 0 → gone_after owner gone e ≡ gone
  none_goes owner gone (Died o) none = absurd (omega arith)
  none_goes owner gone (Told p index o) none = absurd (omega arith)
  none_goes owner gone (Begun p (Container (Recover o mode))) none = absurd (omega arith)
  none_goes owner gone e none = refl

  -- in a history that tells of no recovery nobody is gone
  none_gone : (owner : ℕ) (events : List (Event T)) → recoveries events ≡ 0 → is_gone Word owner events ≡ false
  none_gone owner [] none = refl
  none_gone owner (e ∷ es) none =
      ap (λ gone. fold (gone_after owner) gone es) (none_goes owner false e (first recovery e es none)) ∙ none_gone owner es (later recovery e es none)

  -- in a history that tells of no recovery each call begins as it may
  begins_right : (before : List (Event T)) (e : Event T) → recoveries before ≡ 0 → recovery e ≡ 0 → BeginsRight before e
  begins_right before (Begun p (Container (Recover owner mode))) none one = absurd (omega arith)
  begins_right before (Begun p start) none one = λ owner acts. none_gone owner before none
  begins_right before e none one = tt

  -- a history that tells of no recovery is faithful
  pub none_recovers : (events : List (Event T)) → recoveries events ≡ 0 → IsFaithful events
  none_recovers events none before after e is =
      begins_right before e (earlier recovery events before (e ∷ after) is none) (here recovery events before after e is none)

  -- ---- nothing is freed or replaced

  -- whether a replace is under way
  abbrev replaces : Span T → Bool
  replaces (Open (Container (Replace index value owner)) wrote) = true
  replaces span = false

  -- an event within a call that is no replace leaves it none
  longer_replaces : (span : Span T) (e : Event T) → replaces span ≡ false → replaces (longer span e) ≡ false
  longer_replaces Never e none = refl
  longer_replaces (Ended start answer wrote) e none = refl
  longer_replaces (Open (Container (Replace index value owner)) wrote) e none = absurd (true≢false none)
  longer_replaces (Open start wrote) e none = refl

  -- a call that has ended is no replace
  ended_replaces : (span : Span T) (answer : Answer T) → replaces (ended span answer) ≡ false
  ended_replaces Never answer = refl
  ended_replaces (Open start wrote) answer = refl
  ended_replaces (Ended start first wrote) answer = refl

  -- a call whose begin is no removal is no replace
  begun_replaces : (p : ℕ) (start : Start T) → removal (Begun p start) ≡ 0 → replaces (Open start []) ≡ false
  begun_replaces p (Container (Replace index value owner)) none = absurd (omega arith)
  begun_replaces p start none = refl

  -- an own event that is no removal begins no replace
  own_replaces : (span : Span T) (e : Event T) → removal e ≡ 0 → replaces span ≡ false → replaces (own_after span e) ≡ false
  own_replaces span (Begun p start) one none = begun_replaces p start one
  own_replaces span (Finished p start answer) one none = ended_replaces span answer
  own_replaces span e one none = longer_replaces span e none

  -- any event that is no removal begins no replace of this party
  by_test : (b : Bool) (span : Span T) (e : Event T) → removal e ≡ 0 → replaces span ≡ false
      → replaces (if b then own_after span e else span) ≡ false
  by_test true span e one none = own_replaces span e one none
  by_test false span e one none = none

  -- where nothing is freed or replaced, no party is in a replace
  none_replaces : (p : ℕ) (span : Span T) (events : List (Event T)) → removals events ≡ 0 → replaces span ≡ false
      → replaces (fold (span_after p) span events) ≡ false
  none_replaces p span [] none start = start
  none_replaces p span (e ∷ es) none start =
      none_replaces p (span_after p span e) es (later removal e es none)
      (by_test (is_party p (whose e)) span e (first removal e es none) start)

  -- an event that frees nothing frees rightly
  frees_right : (before : List (Event T)) (e : Event T) → removal e ≡ 0 → FreesRight before e
  frees_right before (FreedOf p index owner) one = absurd (omega arith)
  frees_right before e one = tt

  -- an event that ends no replace has replaced rightly
  replaced_right : (before : List (Event T)) (e : Event T) → removal e ≡ 0 → ReplacesRight before e
  replaced_right before (Finished p (Container (Replace index value owner)) answer) one = absurd (omega arith)
  replaced_right before e one = tt

  -- a history in which nothing is freed, and no replace begins or ends, is well-formed
  pub none_frees : (events : List (Event T)) → removals events ≡ 0 → IsWellFormed events
  none_frees events none =
      record {
        frees = λ before after e is. frees_right before e (here removal events before after e is none);
        replaced = λ before after e is. replaced_right before e (here removal events before after e is none);
        replaces = λ p index owner value wrote span found. absurd (true≢false (sym (ap replaces span) ∙ none_replaces p Never events none refl));
      }

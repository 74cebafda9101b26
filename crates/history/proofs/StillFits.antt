-- A turn of another party leaves true what a seat knows: the seat still fits the machine (`still_fits`).
use Rattle.history.proofs.Names.{◌≡◌, ◌≢◌, ℕ, Option, Some, None, List, [], ◌++◌, refl, sym}
use Rattle.history.proofs.Names.{ap, subst, ◌∙◌, append_assoc, append-nil, arith, sum_by, cases_eq, sum_by-append}
use Rattle.history.proofs.Names.{Event, Kind, state_in, Trace}
use Rattle.history.specs.declared.view.View.{View}
use Rattle.history.specs.Known.{events_by, by_party, owned}
use Rattle.history.specs.History.{IsBeginning, Fits, HasSeenOf, call_in, steps_in, IsLate}
use Rattle.history.proofs.Known.{by_more, by_same, by_twice, by_apart, owned_none, owned_one, late_more}

module _ {T : Type 0} where
  -- a first part of the events is one with more events behind them
  pub longer : (seen events more : List (Event T)) → IsBeginning seen events → IsBeginning seen (events ++ more)
  longer = grind (arith, append_assoc)

  -- ---- what another writes for a seat's call

  -- a turn of another party keeps what a seat knows: where it writes for the seat's call, the seat has still to see it
  module _ (kind : Kind) {owner : ℕ → ℕ} {u : Trace T} (w : Trace T) (es : List (Event T)) {j : ℕ} {v : View T}
      (f : Fits owner u j v) (same : u.world.kind ≡ kind) (same' : w.world.kind ≡ kind)
      (more : w.events ≡ u.events ++ es)
      (beside : (q : ℕ) → owner q ≡ j → IsLate kind (call_in u.world q) (events_by q es))
      (apart : (q : ℕ) → owner q ≡ j → call_in w.world q ≡ call_in u.world q)
      (held : (q : ℕ) → owner q ≡ j → state_in w.world.kept q ≡ state_in u.world.kept q)
      (steps : (q : ℕ) → owner q ≡ j → steps_in w.world q ≡ steps_in u.world q) where
    -- for a party without a call under way the turn wrote nothing
    quiet : (q : ℕ) → owner q ≡ j → call_in u.world q ≡ None → events_by q es ≡ []
    quiet = grind arith

    -- for a party of the seat that is not its latest one the turn wrote nothing
    quiet_else : (o : Option ℕ) → v.party ≡ o → (q : ℕ) → owner q ≡ j → o ≢ Some q → events_by q es ≡ []
    quiet_else o party_is q of_j ne = quiet q of_j (f.idle q of_j (λ e. ne (sym party_is ∙ e)))

    -- what the turn wrote for the seat's latest party may come late for its call
    waits_on : (o : Option ℕ) → v.party ≡ o → IsLate kind v.going (f.late ++ by_party o es)
    waits_on = grind (arith, append-nil, late_more)

    -- the late events, with those of the turn, are of the seat's latest party
    of_party_on : (o : Option ℕ) → v.party ≡ o → by_party o (f.late ++ by_party o es) ≡ f.late ++ by_party o es
    of_party_on = grind (arith, by_party, append-nil, by_more, by_twice)

    -- of a party of the seat, the turn wrote just what comes late for the seat
    late_is : (o : Option ℕ) → v.party ≡ o → (q : ℕ) → owner q ≡ j → events_by q (by_party o es) ≡ events_by q es
    late_is = grind (arith, quiet_else, by_twice, by_apart, cases_eq)

    -- what the seat has seen of its party, with the late events, is all that the party's events are
    own_on : (o : Option ℕ) → v.party ≡ o → (q : ℕ) → owner q ≡ j → HasSeenOf q v f.late u → HasSeenOf q v (f.late ++ by_party o es) w
    own_on = grind (arith, by_more, by_party, late_is, append_assoc, by_same, quiet)

    -- what the turn wrote counts for the seat just as it comes late
    sums_on : (o : Option ℕ) → v.party ≡ o → (g : Event T → ℕ) → sum_by g (by_party o es) ≡ sum_by (owned owner j g) es
    sums_on None party_is g = grind (arith, owned_none, quiet_else)
    sums_on (Some r) party_is g = grind (arith, owned_one, quiet_else)

    -- the seat still fits the machine after the turn
    pub still_fits : Fits owner w j v
    still_fits =
        record {
          seen = subst (λ zs. IsBeginning v.seen zs) (sym more) (longer v.seen u.events es f.seen);
          other = subst (λ zs. IsBeginning v.other zs) (sym more) (longer v.other u.events es f.other);
          self = f.self;
          going = λ q of_j is. apart q of_j ∙ f.going q of_j is;
          idle = λ q of_j ne. apart q of_j ∙ f.idle q of_j ne;
          stated = λ q of_j is. held q of_j ∙ f.stated q of_j is;
          counted = λ q of_j is call under. steps q of_j ∙ f.counted q of_j is call under;
          party = f.party;
          late = f.late ++ by_party v.party es;
          waits = subst (λ k. IsLate k v.going (f.late ++ by_party v.party es)) (sym same') (waits_on v.party refl);
          of_party = of_party_on v.party refl;
          own = λ any q of_j. own_on v.party refl q of_j (f.own any q of_j);
          made = λ g. (
              let all : sum_by (owned owner j g) w.events ≡ sum_by (owned owner j g) (u.events ++ es) = ap (sum_by (owned owner j g)) more in
              omega (arith, f.made g, sum_by-append g f.late (by_party v.party es), sum_by-append (owned owner j g) u.events es, sums_on v.party refl g));
        }

-- What a replace knows of its right to write (`ReplaceOwns`): in a calm run, while its owner is not
-- gone, and if it might replace when it began, its index is settled for its owner, and no later
-- replace of it has begun.
use Rattle.laws_container.proofs.Names.{◌≡◌, ℕ, ◌==◌, ◌&&◌, if◌then◌else◌, false, Option, Some, None, List, [], ◌∷◌}
use Rattle.laws_container.proofs.Names.{◌++◌, fold, refl, sym, ap, subst, ◌∙◌, append_assoc, eq-eqb, arith}
use Rattle.laws_container.proofs.Names.{append_cancel_left, fold-append, Event, Begun, Container, TakesNot, NoneTakes}
use Rattle.laws_container.proofs.Names.{MayReplace, settled_after, settled_of, BeginsNone, GoneBy, is_gone, IsCalm}
use Rattle.laws_container.proofs.Names.{gone_less, calm_less, Spares, began_earlier, since_begun}
use Rattle.model.specs.declared.families.container.ContainerStart.TheVariants.{Replace}
use Rattle.laws_container.proofs.Replacers.{replacer_after, replacer_of}
use Rattle.laws_container.proofs.Writers.{Adds, Replacing}

module _ {T : Type 0} where
  -- the replace of index `i` for owner `o` has its right, if it may replace
  abbrev pub ReplaceOwns : GoneBy → ℕ → ℕ → ℕ → List (Event T) → Type 0
  ReplaceOwns by p i o events =
      IsCalm by events → is_gone by o events ≡ false → MayReplace p i o events → Replacing p i o events

  -- ---- it begins

  -- a replace has its right as it begins
  pub replace_begun : (by : GoneBy) {p : ℕ} (i o : ℕ) (value : T) (events : List (Event T))
      → ReplaceOwns by p i o (events ++ Begun p (Container (Replace i value o)) ∷ [])
  replace_begun by {p} i o value events calm alive may =
      let was : settled_of i events ≡ Some o =
      since_begun p (λ part. settled_of i part ≡ Some o) events (Container (Replace i value o))
      (record { before = may.before; start = may.start; since = may.since; is = may.is; within = may.within; holds = may.holds.0 }) in
      record {
        settled = fold-append (settled_after i) None events (Begun p (Container (Replace i value o)) ∷ []) ∙ was;
        latest =
            fold-append (replacer_after i o) None events (Begun p (Container (Replace i value o)) ∷ [])
            ∙ ap (λ b. if b then Some p else replacer_of i o events) (ap (λ b. b && (o == o)) (eq-eqb i i refl) ∙ eq-eqb o o refl);
      }

  -- ---- another party takes a turn

  -- where none of these events begins to give back or replace at the index for its owner, none
  -- of the later ones does
  none_takes_last : (i o : ℕ) (since es : List (Event T)) → NoneTakes i o (since ++ es) → NoneTakes i o es
  none_takes_last i o [] es none_takes = none_takes
  none_takes_last i o (e ∷ rest) es none_takes = none_takes_last i o rest es none_takes.1

  -- the replace might replace before the events `es`, and none of them begins to give back or replace at the
  -- index for its owner
  pub record Earlier (p i o : ℕ) (events es : List (Event T)) : Type 0 where
    pub may : MayReplace p i o events
    pub none : NoneTakes i o es

  -- where none of these events begins to give back or replace at the index for its owner, none of
  -- the earlier ones does
  none_takes_first : (i o : ℕ) (since es : List (Event T)) → NoneTakes i o (since ++ es) → NoneTakes i o since
  none_takes_first i o [] es none_takes = tt
  none_takes_first i o (e ∷ rest) es none_takes = (none_takes.0, none_takes_first i o rest es none_takes.1)

  -- a replace that may replace after events that begin no call of its party might do so before them, and none
  -- of them begins to give back or replace at the index for its owner
  pub earlier : {p i o : ℕ} {events es : List (Event T)} → BeginsNone p es → MayReplace p i o (events ++ es) → Earlier p i o events es
  earlier {p} {i} {o} {events} {es} none may =
      let k =
      began_earlier p events es may.before may.start may.since may.is none may.within in
      let same : may.since ≡ k.since ++ es =
      sym (append_cancel_left (may.before ++ Begun p may.start ∷ []) (k.since ++ es) may.since
      (append_assoc may.before (Begun p may.start ∷ []) (k.since ++ es)
      ∙ (sym (append_assoc may.before (Begun p may.start ∷ k.since) es)
      ∙ (ap (λ xs. xs ++ es) (sym k.is) ∙ (may.is ∙ sym (append_assoc may.before (Begun p may.start ∷ []) may.since)))))) in
      let all : NoneTakes i o (k.since ++ es) = subst (NoneTakes i o) same may.holds.1 in
      record {
        may =
            record {
              before = may.before;
              start = may.start;
              since = k.since;
              is = k.is;
              within = k.within;
              holds = (may.holds.0, none_takes_first i o k.since es all);
            };
        none = none_takes_last i o k.since es all;
      }

  -- an event that begins no replace at the index for its owner leaves whose replace is the latest
  replacer_stays : (i o : ℕ) (party : Option ℕ) (e : Event T) → TakesNot i o e → replacer_after i o party e ≡ party
  replacer_stays i o party e takes_not = grind arith

  -- events that begin no replace at the index for its owner leave whose replace is the latest
  replacers_stay : (i o : ℕ) (party : Option ℕ) (es : List (Event T)) → NoneTakes i o es → fold (replacer_after i o) party es ≡ party
  replacers_stay i o party [] none_takes = refl
  replacers_stay i o party (e ∷ es) none_takes =
      ap (λ r. fold (replacer_after i o) r es) (replacer_stays i o party e none_takes.0) ∙ replacers_stay i o party es none_takes.1

  -- any turn of another party leaves a replace its right
  pub replace_later : {by : GoneBy} {events es : List (Event T)} {q : ℕ} (i o : ℕ) → Spares by q events es
      → ReplaceOwns by q i o events → ReplaceOwns by q i o (events ++ es)
  replace_later {by} {events} {es} {q} i o spares has_right calm alive may =
      let before = earlier spares.none may in
      let lives = gone_less by o events es alive in
      let own = has_right (calm_less by events es calm) lives before.may in
      record {
        settled = spares.settled calm i o lives own.settled before.none;
        latest = fold-append (replacer_after i o) None events es ∙ (replacers_stay i o (replacer_of i o events) es before.none ∙ own.latest);
      }

  -- any turn of another party leaves an add its right
  pub add_later : {by : GoneBy} {events es : List (Event T)} {q i o : ℕ} → Spares by q events es
      → (IsCalm by events → is_gone by o events ≡ false → Adds q i o events) → IsCalm by (events ++ es)
      → is_gone by o (events ++ es) ≡ false → Adds q i o (events ++ es)
  add_later {by} {events} {es} {i = i} {o = o} spares adds calm alive =
      let lives = gone_less by o events es alive in
      let own = adds (calm_less by events es calm) lives in
      record { by = spares.owned calm i o lives own.by; held = spares.held calm i o lives own.by own.held }

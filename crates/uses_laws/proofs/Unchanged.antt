-- What was loaded between two looks at the version that answer the same.
use Rattle.std.proofs.Common.{◌≡◌, List, [], ◌∷◌, ◌++◌, length, refl, ap, sym, subst, ◌∙◌, append-nil, append_assoc, length-append, arith}
use Rattle.std.proofs.lemmas.List.Concat.{flat_map-append}
use Rattle.model.specs.declared.event.Answer.TheVariants.{Loaded}
use Rattle.model.specs.declared.event.Event.{Event}
use Rattle.model.specs.declared.event.Event.TheVariants.{Acted}
use Rattle.model.specs.declared.event.Start.TheVariants.{Atomic}
use Rattle.model.specs.declared.families.atomic.AtomicStart.TheVariants.{Load}
use Rattle.lock_free.specs.History.{IsBeginning}
use Rattle.lock_free.specs.HistoryView.View.{View}
use Rattle.lock_free.specs.Value.Contracts.{HasLoaded}
use Rattle.lock_free.specs.Value.Reading.{IsLast}
use Rattle.lock_free.specs.Value.Stored.{stored, stores}

none_left : {A : Type 0} (xs : List A) → length xs ≡ 0 → xs ≡ []
none_left [] length_is_zero = refl
none_left (x ∷ xs) length_is_zero = absurd (omega arith)

module _ {T : Type 0} where
  more : (before rest after : List (Event T)) → after ≡ before ++ rest → stored after ≡ stored before ++ stored rest
  more before rest after is = ap stored is ∙ flat_map-append stores before rest

  pub beginning_of_both : (xs ys zs : List (Event T)) → IsBeginning xs ys → IsBeginning ys zs → IsBeginning xs zs
  beginning_of_both xs ys zs one two =
      record { rest = one.rest ++ two.rest; is = two.is ∙ (ap (λ es. es ++ two.rest) one.is ∙ append_assoc xs one.rest two.rest) }

  -- where nothing was stored from the begin of a load on, it loaded the last value
  pub still_last : (x : T) (a b d : View T) → HasLoaded x a b → IsBeginning b.seen d.seen → stored d.seen ≡ stored a.seen → IsLast x (stored d.seen)
  still_last x a b d loaded on same =
      let act : Event T = Acted loaded.by (Atomic Load) (Loaded x) in
      let rest : List (Event T) = act ∷ (loaded.after ++ on.rest) in
      let whole : d.seen ≡ loaded.before ++ rest =
      on.is ∙ (ap (λ es. es ++ on.rest) loaded.is ∙ append_assoc loaded.before (act ∷ loaded.after) on.rest) in
      let since : stored loaded.before ≡ stored a.seen ++ stored loaded.since.rest = more a.seen loaded.since.rest loaded.before loaded.since.is in
      let later : stored d.seen ≡ stored loaded.before ++ stored rest = more loaded.before rest d.seen whole in
      let l1 = ap length since in
      let l2 = ap length later in
      let l3 = ap length same in
      let l4 = length-append (stored a.seen) (stored loaded.since.rest) in
      let l5 = length-append (stored loaded.before) (stored rest) in
      let none : stored rest ≡ [] = none_left (stored rest) (omega arith) in
      let is : stored d.seen ≡ stored loaded.before = later ∙ (ap (λ zs. stored loaded.before ++ zs) none ∙ append-nil (stored loaded.before)) in
      subst (IsLast x) (sym is) loaded.last

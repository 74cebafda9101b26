-- The order in which calls act, as a page sees it: it is that of the model, and goes on as a history does.
use Rattle.std.proofs.lemmas.Bool.{cases_eq}
use Rattle.model.proofs.Names.{Bool, List, [], ap, false, map, refl, subst, sym, true, ℕ, ⊎_elim, ◌++◌, ◌+◌, ◌∙◌, ◌∷◌, ◌≡◌}
use Rattle.model.proofs.Names as model
use Rattle.model.specs.declared.event.Answer as answers
use Rattle.model.specs.declared.event.Event.{Event}
use Rattle.model.specs.declared.event.Event.TheVariants.{Acted, Begun}
use Rattle.model.specs.declared.event.Start.{Start}
use Rattle.model.specs.Linearizable.{response_in}
use Rattle.model.specs.Objects.{Object}
use Rattle.model.specs.StronglyLinearizable as strong
use Rattle.model.proofs.Linearizable.Acting.{entry_at, order_in}
use Rattle.model.proofs.Linearizable.Members.{kept_if, put, put_other, put_same}
use Rattle.model.proofs.Linearizable.Strong as model_order
use Rattle.pages.specs.Machine as machine
use Rattle.pages.specs.RolesBridge.{Naming, all_told, named}
use Rattle.pages.proofs.Counted.{Places, next_places, place_here}
use Rattle.pages.proofs.Seen.{IsObject}
use Rattle.pages_threads.specs.Known.{IsLinearizedBy, Ordered, ordered}
use Rattle.pages_threads.proofs.Renamed.{Clean, carried, entry_told, in_that_order, place, places, weight}

module _ {T Call Answer : Type 0} (by : Naming T Call Answer) where
  abbrev entry : ℕ → ℕ → Start T → answers.Answer T → Ordered Call Answer
  entry place p start answer =
      record { place = place; party = named by p start; call = by.reading.call start; answer = by.reading.answer answer }

  -- the page's calls in the order in which they act, from this place on
  abbrev order_from : List (Event T) → ℕ → (ℕ → ℕ) → List (Ordered Call Answer)
  order_from [] m begun = []
  order_from (Begun p start ∷ es) m begun = order_from es (m + weight by (Begun p start)) (put p m begun)
  order_from (Acted p start answer ∷ es) m begun = kept_if (by.is_call start) (entry (begun p) p start answer) (order_from es (m + 0) begun)
  order_from (e ∷ es) m begun = order_from es (m + weight by e) begun

  abbrev pub order : List (Event T) → List (Ordered Call Answer)
  order events = order_from events 0 (λ p. 0)

  -- ---- it goes on

  abbrev GoesOn : List (Event T) → List (Event T) → ℕ → (ℕ → ℕ) → Type 0
  GoesOn es more m begun = (added : List (Ordered Call Answer)) × (order_from (es ++ more) m begun ≡ order_from es m begun ++ added)

  goes_on : (es more : List (Event T)) (m : ℕ) (begun : ℕ → ℕ) → GoesOn es more m begun
  goes_on [] more m begun = (order_from more m begun, refl)
  goes_on (Begun p start ∷ es) more m begun = let r = goes_on es more (m + weight by (Begun p start)) (put p m begun) in (r.0, r.1)
  goes_on (Acted p start answer ∷ es) more m begun = let r = goes_on es more (m + 0) begun in (r.0, go r.0 (by.is_call start) r.1)
    where
      go : (added : List (Ordered Call Answer)) (b : Bool) → order_from (es ++ more) (m + 0) begun ≡ order_from es (m + 0) begun ++ added
          → kept_if b (entry (begun p) p start answer) (order_from (es ++ more) (m + 0) begun)
          ≡ kept_if b (entry (begun p) p start answer) (order_from es (m + 0) begun) ++ added
      go added true r = ap (λ xs. entry (begun p) p start answer ∷ xs) r
      go added false r = r
  goes_on (e ∷ es) more m begun = let r = goes_on es more (m + weight by e) begun in (r.0, r.1)

  pub grows : (seen more : List (Event T)) → (added : List (Ordered Call Answer)) × (order (seen ++ more) ≡ order seen ++ added)
  grows seen more = goes_on seen more 0 (λ p. 0)

  -- ---- it is the model's

  abbrev told : (ℕ → ℕ) → strong.Ordered T → Ordered Call Answer
  told f o = entry (f o.place) o.party o.start o.answer

  same_order : (es : List (Event T)) (f : ℕ → ℕ) (k m : ℕ) → Places (weight by) f k m es → (begun begun_there : ℕ → ℕ)
      → ((q : ℕ) → f (begun q) ≡ begun_there q)
      → map (told f) (map strong.ordered (order_in by.is_call es k begun)) ≡ order_from es m begun_there
  same_order [] f k m h begun begun_there same = refl
  same_order (Begun p start ∷ es) f k m h begun begun_there same =
      same_order es f (k + 1) (m + weight by (Begun p start)) (next_places (weight by) f k m (Begun p start) es h) (put p k begun) (put p m begun_there)
      (λ q. ⊎_elim
      (λ (is : q ≡ p). subst (λ r. f (put p k begun r) ≡ put p m begun_there r) (sym is)
      (ap f (put_same p k begun) ∙ (place_here (weight by) f k m (Begun p start ∷ es) h ∙ sym (put_same p m begun_there))))
      (λ other. ap f (put_other p q k begun other) ∙ (same q ∙ sym (put_other p q m begun_there other))) (cases_eq q p))
  same_order (Acted p start answer ∷ es) f k m h begun begun_there same =
      go (by.is_call start)
      (same_order es f (k + 1) (m + 0) (next_places (weight by) f k m (Acted p start answer) es h) begun begun_there same)
    where
      go : (b : Bool) → map (told f) (map strong.ordered (order_in by.is_call es (k + 1) begun)) ≡ order_from es (m + 0) begun_there
          → map (told f) (map strong.ordered (kept_if b (entry_at (begun p) p start (response_in p es (k + 1)) answer) (order_in by.is_call es (k + 1) begun)))
          ≡ kept_if b (entry (begun_there p) p start answer) (order_from es (m + 0) begun_there)
      go true rest = rw (same p, rest) refl
      go false rest = rest
  same_order (e ∷ es) f k m h begun begun_there same =
      same_order es f (k + 1) (m + weight by e) (next_places (weight by) f k m e es h) begun begun_there same

  -- a call that the page sees stands in the order as the model's does
  as_told : (f : ℕ → ℕ) (xs : List (model.Call T × answers.Answer T)) → map ordered (map (entry_told by f) xs) ≡ map (told f) (map strong.ordered xs)
  as_told f [] = refl
  as_told f (x ∷ xs) = ap (λ ys. told f (strong.ordered x) ∷ ys) (as_told f xs)

  -- What the page sees of a run that is linearizable in the order in which calls act is linearizable in it, too.
  pub carried_by : {Items State : Type 0} {given : Object T Items} {object : machine.Object Call Answer State}
      → IsObject by.reading (record { is_call = by.is_call; object = given }) object → (es : List (Event T)) → ((n : ℕ) → Clean by n es)
      → strong.IsLinearizedBy (record { is_call = by.is_call; object = given }) (model_order.order by.is_call es) es
      → IsLinearizedBy object (order es) (all_told by es)
  carried_by {given = given} is_object es clean l =
      let f = place by is_object es clean l.by in
      let h : Places (weight by) f 0 0 es = places by is_object es clean l.by in
      record {
        by = carried by is_object es clean l.by;
        is =
            ap (map ordered) (in_that_order by is_object es clean l.by)
            ∙ (as_told f l.by.sequential
            ∙ (ap (map (told f)) l.is
            ∙ same_order es f 0 0 h (λ p. 0) (λ p. 0) (λ q. place_here (weight by) f 0 0 es h)));
      }

-- What a page sees of a run of the model in which whoever makes a call goes by the number of its role: it is linearizable there
-- where the run is, in the same order, if no two calls of one number overlap (`Clean`).
use Rattle.std.specs.List.{All, Contains}
use Rattle.std.specs.Prelude.{if◌then◌else◌}
use Rattle.std.proofs.Common.{◌⊎◌}
use Rattle.std.proofs.lemmas.Bool.Decides.{nat_tests}
use Rattle.std.proofs.lemmas.List.Elements.{All-map}
use Rattle.model.proofs.Names.{Bool, IfSome, List, None, Option, Response, Some, [], answers_from, ap, arith}
use Rattle.model.proofs.Names.{false, get_or, map, option_map, refl, subst, suc, sym, true, ℕ}
use Rattle.model.proofs.Names.{⊎_elim, ◌++◌, ◌+◌, ◌==◌, ◌∙◌, ◌∷◌, ◌≡◌, ◌≢◌, ◌≤◌}
use Rattle.model.proofs.Names as model
use Rattle.model.specs.declared.event.Answer as answers
use Rattle.model.specs.declared.event.Event.{Event}
use Rattle.model.specs.declared.event.Event.TheVariants.{Begun, Finished}
use Rattle.model.specs.declared.event.Start.{Start}
use Rattle.model.specs.Linearizable.{IsLinearizable, Precedes, StandsBefore, calls_from, calls_of, response_in}
use Rattle.model.specs.Objects.{Object}
use Rattle.model.proofs.Linearizable.Members.{all_of, first, here, kept_if, later, none_there, split, split_if, there}
use Rattle.pages.specs.Machine as machine
use Rattle.pages.specs.RolesBridge.{Naming, all_told, named}
use Rattle.pages.proofs.Counted.{Places, below_or, cons_parts, count, count_more, mapped, next_places, pairs_mapped, place_here, quiet_places}
use Rattle.pages.proofs.Seen.{IsObject}

abbrev pub one_if : Bool → ℕ
one_if true = 1
one_if false = 0

module _ {T Call Answer : Type 0} (by : Naming T Call Answer) where
  -- how many events the page sees of one
  abbrev pub weight : Event T → ℕ
  weight (Begun p start) = one_if (by.is_call start)
  weight (Finished p start answer) = one_if (by.is_call start)
  weight e = 0

  -- ---- the calls of the page

  abbrev begun_at : ℕ → ℕ → Start T → Option (Response T) → model.Call T
  begun_at n p start response = record { place = n; party = p; start = start; response = response }

  -- those that begin among these events
  abbrev own_from : List (Event T) → ℕ → List (model.Call T)
  own_from [] n = []
  own_from (Begun p start ∷ es) n = kept_if (by.is_call start) (begun_at n p start (response_in p es (n + 1))) (own_from es (n + 1))
  own_from (e ∷ es) n = own_from es (n + 1)

  own_in : (es : List (Event T)) (n : ℕ) (c : model.Call T) → by.is_call c.start ≡ true → Contains (calls_from es n) c → Contains (own_from es n) c
  own_in [] n c own is = absurd (none_there c is)
  own_in (Begun p start ∷ es) n c own is =
      let head = begun_at n p start (response_in p es (n + 1)) in
      ⊎_elim (λ e. first (by.is_call start) head c (own_from es (n + 1)) (ap (λ (x : model.Call T). by.is_call x.start) e ∙ own) e)
      (λ more. later (by.is_call start) head c (own_from es (n + 1)) (own_in es (n + 1) c own more)) (split head c (calls_from es (n + 1)) is)
  own_in (e ∷ es) n c own is = own_in es (n + 1) c own is

  own_out : (es : List (Event T)) (n : ℕ) (c : model.Call T) → Contains (own_from es n) c → (by.is_call c.start ≡ true) × Contains (calls_from es n) c
  own_out [] n c is = absurd (none_there c is)
  own_out (Begun p start ∷ es) n c is =
      let head = begun_at n p start (response_in p es (n + 1)) in
      ⊎_elim (λ h. (sym (ap (λ (x : model.Call T). by.is_call x.start) h.1) ∙ h.0, here head c (calls_from es (n + 1)) h.1))
      (λ more. let r = own_out es (n + 1) c more in (r.0, there head c (calls_from es (n + 1)) r.1))
      (split_if (by.is_call start) head c (own_from es (n + 1)) is)
  own_out (e ∷ es) n c is = own_out es (n + 1) c is

  -- none is seen at a place before the first event
  below : (es : List (Event T)) (f : ℕ → ℕ) (n m : ℕ) → Places weight f n m es → (c : model.Call T) → Contains (own_from es n) c → m ≤ f c.place
  below [] f n m h c is = absurd (none_there c is)
  below (Begun p start ∷ es) f n m h c is =
      ⊎_elim
      (λ s.
      let place_is : f n ≡ f c.place = ap (λ (x : model.Call T). f x.place) s.1 in
      let at = place_here weight f n m (Begun p start ∷ es) h in
      omega arith)
      (λ more.
      let rest = below es f (n + 1) (m + weight (Begun p start)) (next_places weight f n m (Begun p start) es h) c more in
      omega arith)
      (split_if (by.is_call start) (begun_at n p start (response_in p es (n + 1))) c (own_from es (n + 1)) is)
  below (e ∷ es) f n m h c is =
      let rest = below es f (n + 1) (m + weight e) (next_places weight f n m e es h) c is in
      omega arith

  -- two that are seen at one place are one
  one_call : (es : List (Event T)) (f : ℕ → ℕ) (n m : ℕ) → Places weight f n m es → {c d : model.Call T}
      → Contains (own_from es n) c → Contains (own_from es n) d → f c.place ≡ f d.place → c ≡ d
  one_call [] f n m h {c} {d} is too same = absurd (none_there c is)
  one_call (Begun p start ∷ es) f n m h {c} {d} is too same =
      let head = begun_at n p start (response_in p es (n + 1)) in
      let more = next_places weight f n m (Begun p start) es h in
      let at = place_here weight f n m (Begun p start ∷ es) h in
      ⊎_elim
      (λ s.
      ⊎_elim (λ g. sym s.1 ∙ g.1)
      (λ rest.
      let place_is : f n ≡ f c.place = ap (λ (x : model.Call T). f x.place) s.1 in
      let one : weight (Begun p start) ≡ 1 = ap one_if s.0 in
      let behind = below es f (n + 1) (m + weight (Begun p start)) more d rest in
      absurd (omega arith))
      (split_if (by.is_call start) head d (own_from es (n + 1)) too))
      (λ rest.
      ⊎_elim
      (λ g.
      let place_is : f n ≡ f d.place = ap (λ (x : model.Call T). f x.place) g.1 in
      let one : weight (Begun p start) ≡ 1 = ap one_if g.0 in
      let behind = below es f (n + 1) (m + weight (Begun p start)) more c rest in
      absurd (omega arith))
      (λ others. one_call es f (n + 1) (m + weight (Begun p start)) more rest others same)
      (split_if (by.is_call start) head d (own_from es (n + 1)) too))
      (split_if (by.is_call start) head c (own_from es (n + 1)) is)
  one_call (e ∷ es) f n m h {c} {d} is too same =
      one_call es f (n + 1) (m + weight e) (next_places weight f n m e es h) is too same

  -- ---- responses

  -- The first response of party p in these events is the first that the page sees of number n.
  abbrev pub Answered : ℕ → ℕ → List (Event T) → Type 0
  Answered p n [] = Unit {0}
  Answered p n (Finished q start answer ∷ es) =
      ((q == p) ≡ true → (by.is_call start ≡ true) × (named by q start ≡ n))
      × ((q == p) ≡ false → (by.is_call start ≡ true → (named by q start == n) ≡ false) × Answered p n es)
  Answered p n (e ∷ es) = Answered p n es

  -- this is so of each call of number n that begins in these events
  abbrev pub Clean : ℕ → List (Event T) → Type 0
  Clean n [] = Unit {0}
  Clean n (Begun p start ∷ es) = (by.is_call start ≡ true → named by p start ≡ n → Answered p n es) × Clean n es
  Clean n (e ∷ es) = Clean n es

  abbrev response_told : (ℕ → ℕ) → Response T → ℕ × Answer
  response_told f r = (f r.place, by.reading.answer r.answer)

  -- a call as the page sees it
  abbrev operated : (ℕ → ℕ) → model.Call T → machine.Called Call Answer
  operated f c =
      record {
        place = f c.place;
        party = named by c.party c.start;
        call = by.reading.call c.start;
        response = option_map (response_told f) c.response;
      }

  abbrev pub entry_told : (ℕ → ℕ) → model.Call T × answers.Answer T → machine.Called Call Answer × Answer
  entry_told f x = (operated f x.0, by.reading.answer x.1)

  -- an event of which the page sees one or none
  plus_none : {X : Type 0} (P : ℕ → X) (m : ℕ) → P (m + 0) ≡ P m
  plus_none P m = let same : m + 0 ≡ m = omega arith in ap P same

  -- the page's response of a number is the model's, at the place where the page sees it
  responses : (p n : ℕ) (es : List (Event T)) (f : ℕ → ℕ) (k m : ℕ) → Places weight f k m es → Answered p n es
      → machine.response_in n (all_told by es) m ≡ option_map (response_told f) (response_in p es k)
  responses p n [] f k m h a = refl
  responses p n (Begun q start ∷ es) f k m h a =
      go (by.is_call start) (responses p n es f (k + 1) (m + weight (Begun q start)) (next_places weight f k m (Begun q start) es h) a)
    where
      -- the cases are whether it is a call of the page
      go : (b : Bool) → machine.response_in n (all_told by es) (m + one_if b) ≡ option_map (response_told f) (response_in p es (k + 1))
          → machine.response_in n ((if b then machine.Invoked (named by q start) (by.reading.call start) ∷ [] else []) ++ all_told by es) m
          ≡ option_map (response_told f) (response_in p es (k + 1))
      go true more = more
      go false more = sym (plus_none (machine.response_in n (all_told by es)) m) ∙ more
  responses p n (Finished q start answer ∷ es) f k m h a =
      go (q == p) refl
      (λ t.
      responses p n es f (k + 1) (m + weight (Finished q start answer)) (next_places weight f k m (Finished q start answer) es h) (a.1 t).1)
    where
      -- the cases are whether it is a call of the page
      others : (b : Bool) → by.is_call start ≡ b → (by.is_call start ≡ true → (named by q start == n) ≡ false)
          → machine.response_in n (all_told by es) (m + one_if b) ≡ option_map (response_told f) (response_in p es (k + 1))
          → machine.response_in n ((if b then machine.Responded (named by q start) (by.reading.answer answer) ∷ [] else []) ++ all_told by es) m
          ≡ option_map (response_told f) (response_in p es (k + 1))
      others true is apart more = rw (apart is) more
      others false is apart more = sym (plus_none (machine.response_in n (all_told by es)) m) ∙ more

      -- the cases are whether it is the party's own call that ends
      go : (b : Bool) → (q == p) ≡ b
          → ((q == p) ≡ false
          → machine.response_in n (all_told by es) (m + one_if (by.is_call start)) ≡ option_map (response_told f) (response_in p es (k + 1)))
          → machine.response_in n (all_told by (Finished q start answer ∷ es)) m
          ≡ option_map (response_told f) (if b then Some (record { place = k; answer = answer }) else response_in p es (k + 1))
      go true t more =
          let own = a.0 t in
          let number : named by q start ≡ n = own.1 in
          let test : (named by q start == n) ≡ true = grind (arith, nat_tests) in
          rw (own.0, test, place_here weight f k m (Finished q start answer ∷ es) h) refl
      go false t more = others (by.is_call start) refl (a.1 t).0 (more t)
  responses p n (e ∷ es) f k m h a = responses p n es f (k + 1) m (quiet_places weight f k m e es refl h) a

  -- the calls that the page sees are the model's, at the places where they are seen
  calls : (es : List (Event T)) (f : ℕ → ℕ) (k m : ℕ) → Places weight f k m es → ((n : ℕ) → Clean n es)
      → machine.calls_from (all_told by es) m ≡ map (operated f) (own_from es k)
  calls [] f k m h clean = refl
  calls (Begun p start ∷ es) f k m h clean =
      go (by.is_call start) refl
      (calls es f (k + 1) (m + weight (Begun p start)) (next_places weight f k m (Begun p start) es h) (λ n. (clean n).1))
    where
      go : (b : Bool) → by.is_call start ≡ b
          → machine.calls_from (all_told by es) (m + one_if b) ≡ map (operated f) (own_from es (k + 1))
          → machine.calls_from ((if b then machine.Invoked (named by p start) (by.reading.call start) ∷ [] else []) ++ all_told by es) m
          ≡ map (operated f) (kept_if b (begun_at k p start (response_in p es (k + 1))) (own_from es (k + 1)))
      go true is more =
          let next : Places weight f (k + 1) (m + 1) es =
          subst (λ b. Places weight f (k + 1) (m + one_if b) es) is (next_places weight f k m (Begun p start) es h) in
          rw (
            place_here weight f k m (Begun p start ∷ es) h,
            responses p (named by p start) es f (k + 1) (m + 1) next ((clean (named by p start)).0 is refl),
            more,
          ) refl
      go false is more = sym (plus_none (machine.calls_from (all_told by es)) m) ∙ more
  calls (Finished p start answer ∷ es) f k m h clean =
      go (by.is_call start)
      (calls es f (k + 1) (m + weight (Finished p start answer)) (next_places weight f k m (Finished p start answer) es h) clean)
    where
      go : (b : Bool) → machine.calls_from (all_told by es) (m + one_if b) ≡ map (operated f) (own_from es (k + 1))
          → machine.calls_from ((if b then machine.Responded (named by p start) (by.reading.answer answer) ∷ [] else []) ++ all_told by es) m
          ≡ map (operated f) (own_from es (k + 1))
      go true more = more
      go false more = sym (plus_none (machine.calls_from (all_told by es)) m) ∙ more
  calls (e ∷ es) f k m h clean = calls es f (k + 1) m (quiet_places weight f k m e es refl h) clean

  -- ---- the run

  -- a response of the model is one of the page
  done : (f : ℕ → ℕ) (xs : List (model.Call T × answers.Answer T)) (c : model.Call T) → by.is_call c.start ≡ true → (o : Option (Response T))
      → IfSome o (λ r. by.is_call c.start ≡ true → Contains xs (c, r.answer))
      → IfSome (option_map (response_told f) o) (λ r. Contains (map (entry_told f) xs) (operated f c, r.1))
  done f xs c mine None h = tt
  done f xs c mine (Some r) h = mapped (entry_told f) xs (c, r.answer) (h mine)

  module _ {Items State : Type 0} {given : Object T Items} {object : machine.Object Call Answer State}
      (is_object : IsObject by.reading (record { is_call = by.is_call; object = given }) object) where
    -- answers that are right of the model's object are right of the page's
    legal : (f : ℕ → ℕ) (items : Items) (xs : List (model.Call T × answers.Answer T))
        → All (λ (x : model.Call T × answers.Answer T). by.is_call x.0.start ≡ true) xs
        → answers_from given items (map (λ (m : Start T × answers.Answer T). m.0) (map (λ (x : model.Call T × answers.Answer T). (x.0.start, x.1)) xs))
        ≡ map (λ (m : Start T × answers.Answer T). m.1) (map (λ (x : model.Call T × answers.Answer T). (x.0.start, x.1)) xs)
        → machine.IsLegal object (is_object.state items) (map (entry_told f) xs)
    legal f items [] own is = tt
    legal f items (x ∷ xs) own is =
        let mine : by.is_call x.0.start ≡ true = own 0 x (omega arith) in
        let parts = cons_parts (given.answer items x.0.start) x.1 _ _ is in (
          sym (is_object.answer items x.0.start mine) ∙ ap by.reading.answer parts.0,
          subst (λ s. machine.IsLegal object s (map (entry_told f) xs)) (is_object.after items x.0.start mine)
              (legal f (given.after items x.0.start) xs (λ i d lt. own (suc i) d (omega arith)) parts.1),
        )

    module _ (es : List (Event T)) (clean : (n : ℕ) → Clean n es)
        (linearizable : IsLinearizable (record { is_call = by.is_call; object = given }) es) where
      abbrev pub place : ℕ → ℕ
      place k = count weight es k

      pub places : Places weight place 0 0 es
      places i =
          let same : 0 + i ≡ i = omega arith in
          let none : count weight es i ≡ 0 + count weight es i = omega arith in
          ap (count weight es) same ∙ none

      all_calls : machine.calls_from (all_told by es) 0 ≡ map (operated place) (own_from es 0)
      all_calls = calls es place 0 0 places clean

      -- the response of a call that does not precede another is not seen before that other's invocation
      behind : (x y : model.Call T) → ¬ Precedes y x → IfSome (operated place y).response (λ r. place x.place ≤ r.0)
      behind x y = go y.response
        where
          go : (o : Option (Response T)) → ¬ StandsBefore o x.place → IfSome (option_map (response_told place) o) (λ r. place x.place ≤ r.0)
          go None never = tt
          go (Some r) never =
              ⊎_elim (λ lt. absurd (never lt)) (λ ge. count_more weight es x.place r.place ge) (below_or r.place x.place)

      -- each call that has responded is in the model's sequence with its answer
      ended : (c : model.Call T) → Contains (calls_of es) c
          → IfSome c.response (λ r. by.is_call c.start ≡ true → Contains linearizable.sequential (c, r.answer))
      ended c all =
          let found : get_or (calls_of es) all.0 c ≡ c = all.2 in
          subst (λ (x : model.Call T). IfSome x.response (λ r. by.is_call x.start ≡ true → Contains linearizable.sequential (x, r.answer))) found
          (linearizable.completed all.0 c all.1)

      invoked : All (λ x. Contains (own_from es 0) x.0) linearizable.sequential
      invoked i d lt =
          let x = linearizable.invoked i d lt in own_in es 0 (get_or linearizable.sequential i d).0 x.0 x.1

      -- What the page sees is linearizable, with its calls in the model's order.
      pub carried : machine.IsLinearizable object (all_told by es)
      carried =
          let sequence = map (entry_told place) linearizable.sequential in
          record {
            sequence = sequence;
            legal =
                subst (λ s. machine.IsLegal object s sequence) is_object.opens
                (legal place given.opening linearizable.sequential (λ i d lt. (linearizable.invoked i d lt).0) linearizable.legal);
            invoked =
                All-map (λ (x : machine.Called Call Answer × Answer). Contains (machine.calls_from (all_told by es) 0) x.0)
                (entry_told place) linearizable.sequential
                (λ i d lt. subst (λ cs. Contains cs (operated place (get_or linearizable.sequential i d).0)) (sym all_calls)
                (mapped (operated place) (own_from es 0) (get_or linearizable.sequential i d).0 (invoked i d lt)));
            completed =
                subst (All (λ (c : machine.Called Call Answer). IfSome c.response (λ r. Contains sequence (c, r.1)))) (sym all_calls)
                (All-map (λ (c : machine.Called Call Answer). IfSome c.response (λ r. Contains sequence (c, r.1))) (operated place) (own_from es 0)
                (all_of (λ c. IfSome (option_map (response_told place) c.response) (λ r. Contains sequence (operated place c, r.1))) (own_from es 0)
                (λ c is. let o = own_out es 0 c is in done place linearizable.sequential c o.0 c.response (ended c o.1))));
            once =
                pairs_mapped (entry_told place) (λ x. Contains (own_from es 0) x.0) (λ x y. x.0 ≢ y.0) (λ x y. x.0 ≢ y.0) linearizable.sequential
                (λ x y one two ne e. ne (one_call es place 0 0 places one two (ap (λ (c : machine.Called Call Answer). c.place) e)))
                invoked linearizable.once;
            real_time =
                pairs_mapped (entry_told place) (λ x. Contains (own_from es 0) x.0) (λ x y. ¬ Precedes y.0 x.0)
                (λ x y. IfSome y.0.response (λ r. x.0.place ≤ r.0)) linearizable.sequential
                (λ x y one two never. behind x.0 y.0 never)
                invoked linearizable.real_time;
          }

      pub in_that_order : carried.sequence ≡ map (entry_told place) linearizable.sequential
      unfolding carried
      in_that_order = refl

-- How silent acts are put into a history: as a call ends, it has acted at each place, by its events or
-- silently at a moment of the call (`Fact`), and the silent acts are put in at those moments.
use Rattle.history.proofs.Names.{◌≡◌, ◌≢◌, ⊎_elim, ℕ, zero, suc, ◌<◌, ◌≤◌, ◌==◌, ◌&&◌, true, false, cond, Some}
use Rattle.history.proofs.Names.{None, List, [], ◌∷◌, ◌++◌, refl, sym, ap, subst, ◌∙◌, arith, cases_eq}
use Rattle.history.proofs.Names.{BeginsNone}
use Rattle.model.specs.declared.event.Answer.{Answer}
use Rattle.model.specs.declared.event.Event.{Event}
use Rattle.model.specs.declared.event.Event.TheVariants.{Finished}
use Rattle.model.specs.declared.event.Start.{Start}
use Rattle.model.specs.declared.turn.Kind.{Kind}
use Rattle.history_bits.specs.Acts.{Mark, Happens, Leaves, left_by, told, MayAct, Way, Ends, IsRightEvent}
use Rattle.history.proofs.Numbers.{same_number, is_number}
use Rattle.history_bits.proofs.Acts.Marks.{both_true, number_at, way_at, number_in}
use Rattle.history_bits.proofs.Acts.Marks.{way_in, number_told, way_at_more, way_more, told_more, Cut, cut, Right}
use Rattle.history_bits.proofs.Acts.Marks.{right_more, put_else, way_else, PutHere, put_here, way_here}
use Rattle.lemmas.proofs.Cases.{by_bool}

module _ {T : Type 0} (kind : Kind) (capacity : ℕ) (Sure : ℕ → Type 0) where
  -- these marks are right for party p and place b
  abbrev IsGood : ℕ → ℕ → List (Mark T) → Type 0
  IsGood p b ms = Right kind capacity Sure p b 0 None ms

  -- marks that tell the history, right for each party and place, and with each way as it is in the history
  pub record Marked (h : List (Event T)) : Type 0 where
    pub marks : List (Mark T)
    pub is : told marks ≡ h
    pub right : (p b : ℕ) → IsGood p b marks
    pub ways : (p b : ℕ) → way_at p b 0 None marks ≡ way_in p b 0 None h

  -- the empty list of events needs no mark
  pub nothing_marked : Marked []
  nothing_marked = record { marks = []; is = refl; right = λ p b. tt; ways = λ p b. refl }

  -- the number after the marks is that after the events
  numbers : (ms : List (Mark T)) (h : List (Event T)) → told ms ≡ h → (b : ℕ) → number_at b 0 ms ≡ number_in b 0 h
  numbers ms h told_is b = number_told b 0 ms ∙ ap (number_in b 0) told_is

  -- with one event more the marks tell the history with it
  told_one : (ms : List (Mark T)) (h : List (Event T)) (e : Event T) → told ms ≡ h → told (ms ++ Happens e ∷ []) ≡ h ++ e ∷ []
  told_one ms h e told_is = told_more ms (Happens e ∷ []) ∙ ap (λ es. es ++ e ∷ []) told_is

  -- an event that is right leaves marks right that were right before it
  right_one : (ms : List (Mark T)) {h : List (Event T)} (e : Event T) → told ms ≡ h → (p b : ℕ) {way : Way T}
      → IsGood p b ms → way_at p b 0 None ms ≡ way → IsRightEvent kind capacity (Sure b) p b (number_in b 0 h) way e
      → IsGood p b (ms ++ Happens e ∷ [])
  right_one = grind (arith, right_more, way_at, numbers, number_in)

  -- an event leaves the way after the marks as it is after the events
  way_one : (ms : List (Mark T)) (h : List (Event T)) (e : Event T) → told ms ≡ h → (p b : ℕ)
      → way_at p b 0 None ms ≡ way_in p b 0 None h
      → way_at p b 0 None (ms ++ Happens e ∷ []) ≡ way_in p b 0 None (h ++ e ∷ [])
  way_one = grind (arith, way_at_more, way_at, numbers, number_in, way_more)

  -- an event that is right for each party and place as it is can follow, with no silent act before it
  pub goes_on : (h : List (Event T)) (e : Event T) → Marked h
      → ((p b : ℕ) → IsRightEvent kind capacity (Sure b) p b (number_in b 0 h) (way_in p b 0 None h) e)
      → Marked (h ++ e ∷ [])
  goes_on h e marked now =
      record {
        marks = marked.marks ++ Happens e ∷ [];
        is = told_one marked.marks h e marked.is;
        right = λ p b. right_one marked.marks e marked.is p b (marked.right p b) (marked.ways p b) (now p b);
        ways = λ p b. way_one marked.marks h e marked.is p b (marked.ways p b);
      }

  -- ---- the end of a call

  module _ (h : List (Event T)) (p : ℕ) (start : Start T) (answer : Answer T) where
    -- the call may end with its answer, where it stands at place b at `way`
    abbrev MayEndThere : ℕ → Way T → Type 0
    MayEndThere b way = Ends capacity (Sure b) b start answer way

    -- the end of the call
    abbrev end : Event T
    end = Finished p start answer

    -- a silent act of the call on the place: the call is under way, has found nothing there by the end of the history, and
    -- may act there, and at a moment of the call the place had the number that the call leaves
    pub record SilentAct (b : ℕ) : Type 0 where
      -- the history before and after that moment, after which the party begins no call
      pub part : List (Event T)
      pub rest : List (Event T)
      pub is : h ≡ part ++ rest
      pub none : BeginsNone p rest
      pub under : way_in p b 0 None h ≡ Some (start, None)
      pub may : MayAct b start
      pub left : number_in b 0 part ≡ left_by kind start (number_in b 0 part)
      -- with that number the call may end with its answer
      pub ends : MayEndThere b (Some (start, Some (number_in b 0 part)))

    -- how the call has acted on the place: by its events, so that it may end here as it stands, or silently
    pub data Fact (b : ℕ) : Type 0 where
      Stays : MayEndThere b (way_in p b 0 None h) → Fact b
      Silent : SilentAct b → Fact b

    -- at the places below k, the silent acts of the call are put in
    record Filled (k : ℕ) : Type 0 where
      -- the marks tell the history and are right for each party and place
      marks : List (Mark T)
      is : told marks ≡ h
      right : (q b : ℕ) → IsGood q b marks
      -- the way of each other party is that of the history without silent acts
      others : (q b : ℕ) → q ≢ p → way_at q b 0 None marks ≡ way_in q b 0 None h
      -- at the places below k the call may end as the marks have it, and at the others its way is that of the history
      done : (b : ℕ) → b < k → MayEndThere b (way_at p b 0 None marks)
      later : (b : ℕ) → k ≤ b → way_at p b 0 None marks ≡ way_in p b 0 None h

    -- where the call acted by its events, nothing has to be put in
    stay : (k : ℕ) → Filled k → MayEndThere k (way_in p k 0 None h) → Filled (suc k)
    stay = grind arith

    module _ (k : ℕ) (f : Filled k) (silent : SilentAct k) where
      open silent use {part, rest, is, none, under, may, left, ends}

      -- the marks, cut at the moment of the silent act
      c : Cut f.marks part rest
      c = cut f.marks part (f.is ∙ is)

      -- the marks before that moment
      abbrev first : List (Mark T)
      first = c.first

      -- the marks after that moment
      abbrev second : List (Mark T)
      second = c.second

      -- the marks with the silent act put in at that moment
      abbrev new : List (Mark T)
      new = first ++ Leaves p k ∷ second

      -- at that moment the place has its number in the history
      there : number_at k 0 first ≡ number_in k 0 part
      there = numbers first part c.first_told k

      -- the marks before and after that moment are right
      was : (q b : ℕ) → IsGood q b (first ++ second)
      was q b = subst (IsGood q b) c.is (f.right q b)

      -- without the silent act, the call has not acted on the place
      late : way_at p k 0 None (first ++ second) ≡ Some (start, None)
      late = grind (arith, way_at)

      -- the party begins no call after that moment
      calm : BeginsNone p (told second)
      calm = subst (BeginsNone p) (sym c.second_told) none

      -- the silent act leaves the number as it is
      left_there : number_at k 0 first ≡ left_by kind start (number_at k 0 first)
      left_there = subst (λ n. n ≡ left_by kind start n) (sym there) left

      -- the silent act can be put between the marks
      fits : PutHere kind capacity Sure p k start first second
      fits = record { right = was p k; late = late; none = calm; may = may; left = left_there }

      -- with the silent act the marks are right for this party and place
      right_here : IsGood p k new
      right_here = put_here kind capacity Sure p k start fits

      -- with the silent act put in, the marks are still right for each party and place
      right_new : (q b : ℕ) → IsGood q b new
      right_new q b =
          by_bool (p == q && k == b)
          (λ t. let both = both_true (p == q) (k == b) t in
          subst (λ z. IsGood z b new) (is_number p q both.0) (subst (λ z. IsGood p z new) (is_number k b both.1) right_here))
          (λ t. let right_else = put_else kind capacity Sure p k q b t in right_else 0 None first second (was q b))

      -- at another place or for another party the silent act changes no way
      elsewhere : (q b : ℕ) → (p == q && k == b) ≡ false → way_at q b 0 None new ≡ way_at q b 0 None f.marks
      elsewhere q b test_is =
          let same_else = way_else kind capacity Sure p k q b test_is in
          same_else 0 None first second ∙ ap (way_at q b 0 None) (sym c.is)

      -- an act of party p is none of another party
      other_party : (q b : ℕ) → q ≢ p → (p == q && k == b) ≡ false
      other_party = grind arith

      -- an act on place k is none on another place
      other_place : (b : ℕ) → b ≢ k → (p == p && k == b) ≡ false
      other_place = grind arith

      -- with the silent act put in, what the call has done silently at this place is put in too
      put_in : Filled (suc k)
      put_in =
          record {
            marks = new;
            is = told_more first (Leaves p k ∷ second) ∙ (ap (λ es. es ++ told second) c.first_told ∙ (ap (λ es. part ++ es) c.second_told ∙ sym is));
            right = right_new;
            others = λ q b ne. elsewhere q b (other_party q b ne) ∙ f.others q b ne;
            done = done;
            later = λ b le. elsewhere p b (other_place b (λ e. absurd (omega arith))) ∙ f.later b (omega arith);
          }
        where
          -- with the silent act put in, the call is done at each place up to this one
          done : (b : ℕ) → b < suc k → MayEndThere b (way_at p b 0 None new)
          done b lt =
              ⊎_elim
              (λ (same : b ≡ k).
              subst (λ z. MayEndThere z (way_at p z 0 None new)) (sym same)
              (subst (MayEndThere k) (sym (way_here kind capacity Sure p k start fits
              ∙ ap (λ (n : ℕ). Some (start, Some n)) there))
              ends))
              (λ (ne : b ≢ k). subst (MayEndThere b) (sym (elsewhere p b (other_place b ne))) (f.done b (omega arith)))
              (cases_eq b k)

    -- the silent act at place k can be put in too
    one_more : (k : ℕ) → Filled k → Fact k → Filled (suc k)
    one_more = grind (arith, stay, put_in)

    -- the silent acts of the call at the first k places are put in
    fill : (k : ℕ) → Marked h → ((b : ℕ) → b < k → Fact b) → Filled k
    fill zero marked facts =
        record {
          marks = marked.marks;
          is = marked.is;
          right = marked.right;
          others = λ q b ne. marked.ways q b;
          done = λ b lt. absurd (omega arith);
          later = λ b le. marked.ways p b;
        }
    fill (suc k) marked facts = one_more k (fill k marked (λ b lt. facts b (omega arith))) (facts k (omega arith))

    -- a call may end whose act at each place below the capacity is known, and that may end as it stands at the others
    ends_marked : Marked h → ((b : ℕ) → b < capacity → Fact b)
        → ((b : ℕ) → capacity ≤ b → MayEndThere b (way_in p b 0 None h)) → Marked (h ++ Finished p start answer ∷ [])
    ends_marked marked facts far =
        record {
          marks = f.marks ++ Happens end ∷ [];
          is = told_one f.marks h end f.is;
          right =
              λ q b. right_one f.marks end f.is q b (f.right q b) refl
              (λ same. subst (λ z. MayEndThere b (way_at z b 0 None f.marks)) same (done b));
          ways = ways;
        }
      where
        -- all silent acts of the call, put in
        f : Filled capacity
        f = fill capacity marked facts

        -- the call may end at each place
        done : (b : ℕ) → MayEndThere b (way_at p b 0 None f.marks)
        done = grind arith

        -- after the end each way is that of the history with the end
        ways : (q b : ℕ) → way_at q b 0 None (f.marks ++ Happens end ∷ []) ≡ way_in q b 0 None (h ++ end ∷ [])
        ways q b =
            by_bool (p == q)
            (λ t. grind (arith, way_at_more, cond, way_at, way_in, way_more))
            (λ t. way_one f.marks h end f.is q b (f.others q b (λ e. (let yes : (p == q) ≡ true = ap (λ z. p == z) e ∙ same_number p in absurd (cc)))))

-- with the end of a call whose act at each place below the capacity is known, and that may end as it stands at
-- the others, the history can still be marked
pub finishes : {T : Type 0} {kind : Kind} {capacity : ℕ} {Sure : ℕ → Type 0} {h : List (Event T)} (p : ℕ) (start : Start T) (answer : Answer T)
    → Marked kind capacity Sure h → ((b : ℕ) → b < capacity → Fact kind capacity Sure h p start answer b)
    → ((b : ℕ) → capacity ≤ b → Ends capacity (Sure b) b start answer (way_in p b 0 None h))
    → Marked kind capacity Sure (h ++ Finished p start answer ∷ [])
finishes {kind = kind} {capacity = capacity} {Sure = Sure} {h = h} p start answer = ends_marked kind capacity Sure h p start answer

-- with the end of a call whose act at one place, below the capacity, is known, and that may end as it stands at the others, the
-- history can still be marked
pub finishes_at : {T : Type 0} {kind : Kind} {capacity : ℕ} {Sure : ℕ → Type 0} {h : List (Event T)} {p : ℕ} {start : Start T} {answer : Answer T} (place : ℕ)
    → Marked kind capacity Sure h → Fact kind capacity Sure h p start answer place
    → ((b : ℕ) → place ≢ b → Ends capacity (Sure b) b start answer (way_in p b 0 None h)) → (capacity ≤ place → ⊥)
    → Marked kind capacity Sure (h ++ Finished p start answer ∷ [])
finishes_at {kind = kind} {capacity = capacity} {Sure = Sure} {h = h} {p = p} {start = start} {answer = answer} place marked act elsewhere below =
    finishes p start answer marked
    (λ b lt. ⊎_elim (λ same. subst (Fact kind capacity Sure h p start answer) same act) (λ ne. Stays (elsewhere b ne)) (cases_eq place b))
    (λ b le. ⊎_elim (λ same. absurd (below (subst (λ z. capacity ≤ z) (sym same) le))) (λ ne. elsewhere b ne) (cases_eq place b))

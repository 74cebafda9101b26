-- With the whole share nobody else steps while a call is under way, so the call takes no more than it takes alone.
use Rattle.lock_free_sets.proofs.Names.{◌≡◌, ℕ, ◌+◌, ◌≤◌, ◌==◌, Bool, true, false, if◌then◌else◌, Option, Some, None, List, []}
use Rattle.lock_free_sets.proofs.Names.{◌∷◌, ◌++◌, fold, refl, sym, ap, subst, ◌∙◌, append-nil, arith, nat_tests, fold-append, sum_by-append}
use Rattle.lock_free_sets.proofs.Names.{sum_by-cons, Answer, Event, Begun, Finished, Start, Kind, Trace, IsAll, View, Called, events_by}
use Rattle.std.specs.List.{sum_by}
use Rattle.std.specs.Prelude.{◌*◌}
use Rattle.model.specs.declared.party.Party.{Party}
use Rattle.model.specs.Coding.{Coding}
use Rattle.model.specs.Parties.{party_of}
use Rattle.model.specs.Reading.{whose, is_party}
use Rattle.history.proofs.KnownRuns.{known_run}
use Rattle.history.specs.Passes.{MissesNothing, HasJoined}
use Rattle.history.specs.History.{Knows, run_of, others_by, others_in, others_so}
use Rattle.history.specs.Steps.{TakesAtMost, TakesAlone}
use Rattle.lock_free_sets.specs.Whole.{begins, ends, IsDone, AllInside, HasWhole, CallsWhole}
use Rattle.lock_free_sets.proofs.Sums.{sum_made}
use Rattle.lock_free_sets.proofs.Whole.Passed.{is_going, passed_by, passed, IsCounted, counted_as, begins_none, ends_none}

-- ---- a call of another party that ends

module _ {T : Type 0} where
  -- 1 for an event that ends a call of another party than this one.
  abbrev beside : ℕ → Event T → ℕ
  beside p (Finished q start answer) = if q == p then 0 else 1
  beside p e = 0

  -- a measure that is 0 at each event of the party is 0 over all its events
  none_by : (f : Event T → ℕ) (p : ℕ) → ((e : Event T) → is_party p (whose e) ≡ true → f e ≡ 0) → (es : List (Event T)) → sum_by f (events_by p es) ≡ 0
  none_by f p none [] = refl
  none_by f p none (e ∷ es) = go (is_party p (whose e)) refl (none_by f p none es)
    where
      -- with one event more, of the party or not, its own events still count nothing
      go : (b : Bool) → is_party p (whose e) ≡ b → sum_by f (events_by p es) ≡ 0 → sum_by f ((if b then e ∷ [] else []) ++ events_by p es) ≡ 0
      go true is rest =
          let one = sum_by-cons f e (events_by p es) in
          let here = none e is in
          omega arith
      go false is rest = rest

  -- An event of the party itself counts 0.
  none_beside : (p : ℕ) (e : Event T) → is_party p (whose e) ≡ true → beside p e ≡ 0
  none_beside p (Finished q start answer) is = rw is refl
  none_beside p e is = refl

  -- where none ended beside it, none is counted
  none_passed : (p : ℕ) (es : List (Event T)) → sum_by (beside p) es ≡ 0 → fold (passed_by p) 0 es ≡ 0
  none_passed p [] none = refl
  none_passed p (e ∷ es) none =
      let one = sum_by-cons (beside p) e es in
      ap (λ m. fold (passed_by p) m es) (first e (omega arith)) ∙ none_passed p es (omega arith)
    where
      -- An event at which no other party's call ends leaves the count of such ends at 0.
      first : (e : Event T) → beside p e ≡ 0 → passed_by p 0 e ≡ 0
      first (Begun q start) beside_is_zero = go (q == p)
        where
          -- the cases are whether the event is the party's
          go : (b : Bool) → ◌≡◌ {A = ℕ} (if b then 0 else 0) 0
          go true = refl
          go false = refl
      first (Finished q start answer) h = go (q == p) h
        where
          -- the cases are whether the event is the party's
          go : (b : Bool) → ◌≡◌ {A = ℕ} (if b then 0 else 1) 0 → ◌≡◌ {A = ℕ} (if b then 0 else 0 + 1) 0
          go true h = refl
          go false h = h
      first e beside_is_zero = refl

  -- ---- a call with the whole share

  module _ (old new : View T) (c : CallsWhole old new) where
    -- The begin of the call.
    abbrev b : Event T
    b = Begun c.by c.start

    -- The end of the call.
    abbrev f : Event T
    f = Finished c.by c.start c.answer

    -- What is seen is what was seen before, and the call: with the whole share nobody else
    -- did anything before it.
    seen_is : new.seen ≡ old.seen ++ b ∷ (c.called.during ++ f ∷ [])
    seen_is =
        c.called.is
        ∙ ap (λ es. es ++ b ∷ (c.called.during ++ f ∷ [])) (ap (λ es. old.seen ++ es) (c.called.alone c.had.share) ∙ append-nil old.seen)

    -- all that happened meanwhile the call wrote
    same_during : (g : Event T → ℕ) → sum_by g c.called.during ≡ sum_by g c.wrote
    same_during g =
        let all = c.has.all g in
        let was = c.had.all g in
        let made = sum_made g c.by c.start c.answer c.wrote old new c.called in
        let seen = ap (sum_by g) seen_is in
        let one = sum_by-append g old.seen (b ∷ (c.called.during ++ f ∷ [])) in
        let two = sum_by-cons g b (c.called.during ++ f ∷ []) in
        let three = sum_by-append g c.called.during (f ∷ []) in
        let four = sum_by-cons g f [] in
        omega arith

    -- No call of another party ended during this call.
    none_during : sum_by (beside c.by) c.called.during ≡ 0
    none_during =
        same_during (beside c.by)
        ∙ (ap (sum_by (beside c.by)) (sym c.called.during_own) ∙ none_by (beside c.by) c.by (none_beside c.by) c.called.during)

    -- no call of another party has ended since this call began
    none_ended : passed c.by new.seen ≡ 0
    none_ended =
        ap (passed c.by) seen_is
        ∙ (fold-append (passed_by c.by) 0 old.seen (b ∷ (c.called.during ++ f ∷ []))
        ∙ (ap (λ m. fold (passed_by c.by) m (c.called.during ++ f ∷ [])) begins_again
        ∙ (fold-append (passed_by c.by) 0 c.called.during (f ∷ [])
        ∙ (ap (λ m. passed_by c.by m f) (none_passed c.by c.called.during none_during) ∙ ends_so))))
      where
        same : (c.by == c.by) ≡ true
        same = grind (arith, nat_tests)

        -- At the begin of the call the count of calls that others ended is 0 again.
        begins_again : passed_by c.by (passed c.by old.seen) b ≡ 0
        begins_again = rw same refl

        -- At its own end the count of calls that others ended is still 0.
        ends_so : passed_by c.by 0 f ≡ 0
        ends_so = rw same refl

    module _ {code : Coding T} {kind : Kind} {capacity : ℕ} (most retry : ℕ) (knows : Knows code kind capacity new) where
      -- The trace of the run that the pass knows behind the call.
      abbrev t : Trace T
      t = run_of code kind capacity new.turns

      -- In that trace the calls are counted right.
      counted : IsCounted t
      counted = counted_as kind t (known_run knows).reached

      -- At the end of the known run no party has a call under way.
      none_going : (q : ℕ) → is_going (party_of q t.world.latest) ≡ 0
      none_going q =
          let all = counted.calls q in
          let one = ap (sum_by (begins q)) knows.is in
          let two = ap (sum_by (ends q)) knows.is in
          let three = c.has.all (begins q) in
          let four = c.has.all (ends q) in
          let five = c.has.done q in
          omega arith

      -- No call of another party ended in the run since this call began.
      none_passed_by : passed c.by t.events ≡ 0
      none_passed_by = ap (passed c.by) (sym knows.is) ∙ none_ended

      -- No other party has changed a word since the call began.
      none_of_others : new.others ≡ 0
      none_of_others = knows.others ∙ (ap (others_by t.world) c.mine ∙ go (party_of c.by t.world.latest) refl)
        where
          -- the cases are whether the party has made a call
          go : (o : Option (Party T)) → party_of c.by t.world.latest ≡ o → others_in t.world c.by ≡ 0
          go None is = ap (others_so t.world.changes) is
          go (Some x) is = ap (others_so t.world.changes) is ∙ counted.others c.by x is (λ q ne. none_going q) none_passed_by

      -- A bound on the steps of a call alone is a bound on this call, as no other party changed a word
      -- while it was under way.
      pub takes_most : TakesAlone most retry old new → TakesAtMost most old new
      takes_most takes =
          let all : new.asked ≤ old.asked + (most + 0 * retry) =
          subst (λ n. new.asked ≤ old.asked + (most + n * retry)) none_of_others takes in
          omega arith

-- ---- who has the whole keeps it

module _ {T : Type 0} where
  -- a pass with the whole share that has seen and made nothing has the whole
  pub first_whole : (v : View T) → IsAll v.share → v.seen ≡ [] → v.made ≡ [] → HasWhole v
  first_whole v share seen made =
      record {
        share = share;
        all = λ g. ap (sum_by g) seen ∙ sym (ap (sum_by g) made);
        done = λ p. ap (sum_by (begins p)) made ∙ sym (ap (sum_by (ends p)) made);
      }

  -- of one more call that has ended, between the views old and new
  module _ {p : ℕ} {start : Start T} {answer : Answer T} {wrote : List (Event T)} {old new : View T} (called : Called p start answer wrote old new) where
    -- with a call more that wrote no begin and no end but its own, each call that was begun has
    -- still ended
    pub still_done : AllInside wrote → IsDone old.made → IsDone new.made
    still_done inside done q =
        let a = sum_made (begins q) p start answer wrote old new called in
        let b = sum_made (ends q) p start answer wrote old new called in
        let c = begins_none q wrote inside in
        let d = ends_none q wrote inside in
        let was = done q in
        omega arith

    -- A pass that has the whole keeps it over a call.
    pub still_whole : HasWhole old → AllInside wrote → new.share ≡ old.share → MissesNothing new → HasWhole new
    still_whole was inside share all =
        let mine : IsAll new.share = subst IsAll (sym share) was.share in
        record { share = mine; all = all mine; done = still_done inside was.done }

  -- where in both lists each call that was begun has ended, it has in both together
  pub joined_done : (mine theirs : List (Event T)) → IsDone mine → IsDone theirs → IsDone (mine ++ theirs)
  joined_done mine theirs one two p =
      let a = one p in
      let b = two p in
      let c = sum_by-append (begins p) mine theirs in
      let d = sum_by-append (ends p) mine theirs in
      omega arith

  -- A join of passes whose calls have ended has the whole, if it has the whole share.
  pub joined_whole : (mine theirs new : View T) → HasJoined mine theirs new → IsDone mine.made → IsDone theirs.made
      → IsAll new.share → MissesNothing new → HasWhole new
  joined_whole mine theirs new joined one two share all =
      record { share = share; all = all share; done = subst IsDone (sym joined.made) (joined_done mine.made theirs.made one two) }

-- Values that were stored and seen, and what is known of them once the passes are joined.
use Rattle.std.proofs.Common.{◌≡◌, ℕ, true, ◌+◌, ◌<◌, ◌≤◌, List, [], ◌∷◌, ◌++◌, length, get_or, take, sym, refl}
use Rattle.std.proofs.Common.{ap, subst, ◌∙◌, arith, append-nil, append_assoc, length-append, sum_by}
use Rattle.uses_programs.proofs.Names.{All, take_more, flat_map-append, All-push, sum_by-append, Event, View}
use Rattle.uses_programs.proofs.Names.{IsBeginning, Share, half_of, both_of, IsAll, all_shares, opened_view}
use Rattle.std.specs.List.{Contains}
use Rattle.std.proofs.lemmas.List.{take_all, get_or_append_left, get_or_push}
use Rattle.lock_free.specs.Passes.{Goes}
use Rattle.lock_free.specs.Value.Calls.{MissesNothing}
use Rattle.lock_free.specs.Value.Stored.{stores, stored}
use Rattle.lock_free.specs.Value.Contracts.{HasAcquired, HasReleased, HasStored, HasLoaded, HasSplit, HasJoined}
use Rattle.lock_free.proofs.ValueVersions.{count_is, newest}
use Rattle.uses_programs.specs.Readings.{last_of, stores_in, HasWritten, HasRead}

none_left : {A : Type 0} (xs : List A) → length xs ≡ 0 → xs ≡ []
none_left [] e = refl
none_left (x ∷ xs) e = absurd (omega arith)

last_here : {A : Type 0} (first x : A) (xs : List A) → last_of first (xs ++ x ∷ []) ≡ x
last_here first x [] = refl
last_here first x (y ∷ ys) = last_here y x ys

module _ {T : Type 0} where
  made_more : (old new more : List (Event T)) → new ≡ old ++ more → stores_in new ≡ stores_in old + stores_in more
  made_more old new more is = ap stores_in is ∙ sum_by-append (λ e. length (stores e)) old more

  -- the values stored in a beginning of a history are the first of those stored in the whole
  stored_on : (old new : List (Event T)) (b : IsBeginning old new) → stored new ≡ stored old ++ stored b.rest
  stored_on old new b = ap stored b.is ∙ flat_map-append stores old b.rest

  -- what stands in a list stands in a list that begins with it
  still_there : (xs ys zs : List T) → zs ≡ xs ++ ys → (x : T) → Contains xs x → Contains zs x
  still_there xs ys zs is x c =
      let long = length-append xs ys in
      let size : length zs ≡ length (xs ++ ys) = ap length is in
      let lt = c.1 in
      (c.0, omega arith, ap (λ l. get_or l c.0 x) is ∙ (get_or_append_left xs ys x c.0 c.1 ∙ c.2))

  all_there : (xs ys zs seen : List T) → zs ≡ xs ++ ys → All (Contains xs) seen → All (Contains zs) seen
  all_there xs ys zs seen is all i d lt = still_there xs ys zs is (get_or seen i d) (all i d lt)

  -- ---- the writer

  -- a writer that has acquired the role has written nothing yet
  pub written_none : (all : List T) (v w : View T) → Goes v w → HasAcquired true v w → HasWritten (take 0 all) v w
  written_none all v w goes h =
      record {
        others = stored goes.since.rest;
        list = stored_on v.seen w.seen goes.since ∙ sym (append-nil (stored v.seen ++ stored goes.since.rest));
        made = made_more v.made w.made _ h.called.made;
        share = goes.share;
      }

  -- a store writes one value more
  written_more : (xs : List T) (x : T) (v w u : View T) → HasWritten xs v w → Goes w u
      → HasStored x w u → HasWritten (xs ++ x ∷ []) v u
  written_more xs x v w u k goes h =
      record {
        others = k.others;
        list = h.list ∙ (ap (λ ys. ys ++ x ∷ []) k.list ∙ append_assoc (stored v.seen ++ k.others) xs (x ∷ []));
        made = let one = made_more w.made u.made _ h.called.made in let before = k.made in let long = length-append xs (x ∷ []) in omega arith;
        share = goes.share ∙ k.share;
      }

  -- a store of the next value of a list writes the list up to that one
  pub writes : (all : List T) (n : ℕ) (x d : T) (v w u : View T) → n < length all
      → x ≡ get_or all n d → HasWritten (take n all) v w → Goes w u → HasStored x w u
      → HasWritten (take (n + 1) all) v u
  writes all n x d v w u lt is k goes h =
      subst (λ xs. HasWritten xs v u) (ap (λ z. take n all ++ z ∷ []) is ∙ sym (take_more all n d lt))
      (written_more (take n all) x v w u k goes h)

  -- a writer that gives the role back has written the whole list, if it has written as many
  -- values as the list has
  pub written_all : (all : List T) (n : ℕ) (v w u : View T) → length all ≤ n
      → HasWritten (take n all) v w → Goes w u → HasReleased w u → HasWritten all v u
  written_all all n v w u past k goes h =
      record {
        others = k.others;
        list = h.list ∙ (k.list ∙ ap (λ ys. (stored v.seen ++ k.others) ++ ys) (take_all n all past));
        made = let one = made_more w.made u.made _ h.called.made in
            let before = k.made in
            let whole : length (take n all) ≡ length all = ap length (take_all n all past) in
            omega arith;
        share = goes.share ∙ k.share;
      }

  -- ---- the reader

  -- a reader that has loaded nothing has read nothing
  pub read_none : (v : View T) → HasRead [] v v
  read_none v =
      record {
        since = record { rest = []; is = sym (append-nil v.seen) };
        all = λ i d lt. absurd (omega arith);
        made = refl;
        share = refl;
      }

  -- the last that was stored before a moment is among all that were stored
  loaded_is_there : (x : T) (w u : View T) → HasLoaded x w u → Contains (stored u.seen) x
  loaded_is_there x w u h =
      let last = h.last in
      let whole : stored u.seen ≡ (last.others ++ x ∷ []) ++ stored h.after =
      ap stored h.is ∙ (flat_map-append stores h.before _ ∙ ap (λ ys. ys ++ stored h.after) last.is) in
      still_there (last.others ++ x ∷ []) (stored h.after) (stored u.seen) whole x
      (length last.others, (let long = length-append last.others (x ∷ []) in omega arith), get_or_push last.others x x (length last.others) refl)

  -- a load reads one value more
  pub read_more : (xs : List T) (x : T) (v w u : View T) → HasRead xs v w → Goes w u → HasLoaded x w u → HasRead (xs ++ x ∷ []) v u
  read_more xs x v w u k goes h =
      record {
        since =
            record {
              rest = k.since.rest ++ goes.since.rest;
              is = goes.since.is ∙ (ap (λ es. es ++ goes.since.rest) k.since.is ∙ append_assoc v.seen k.since.rest goes.since.rest);
            };
        all =
            All-push (Contains (stored u.seen)) xs x
            (all_there (stored w.seen) (stored goes.since.rest) (stored u.seen) xs (stored_on w.seen u.seen goes.since) k.all)
            (loaded_is_there x w u h);
        made = let one = made_more w.made u.made _ h.called.made in let before = k.made in omega arith;
        share = goes.share ∙ k.share;
      }

  -- ---- both joined: who has the whole share knows all that was stored

  module _ (size : ℕ) (first : T) (all seen : List T) (v left right a b z : View T) (opens : v ≡ opened_view first size 1) (cut : HasSplit v left right)
      (s : HasWritten all left a) (r : HasRead seen right b) (h : HasJoined a b z) (none : MissesNothing z) where
    -- the joined pass has the whole share
    whole : IsAll z.share
    whole =
        let start : v.share ≡ all_shares = ap (λ (t : View T). t.share) opens in
        subst IsAll (sym (h.share ∙ ap (λ (t : Share × Share). both_of t.0 t.1) (λ i. (
          (s.share ∙ (cut.share ∙ ap half_of start)) i,
          (r.share ∙ (cut.right_share ∙ ap half_of start)) i,
        )))) refl

    opened_with : stored left.seen ≡ first ∷ []
    opened_with = ap stored cut.seen ∙ ap (λ (t : View T). stored t.seen) opens

    -- what was stored is the first value and all that the writer wrote
    all_stored : stored z.seen ≡ first ∷ all
    all_stored =
        let f : Event T → ℕ = λ e. length (stores e) in
        let counted : length (stored z.seen) ≡ stores_in z.made = sym (count_is z.seen) ∙ none whole f in
        let made : stores_in z.made ≡ stores_in a.made + stores_in b.made = made_more a.made z.made b.made h.made in
        let mine : stores_in left.made ≡ 1 = ap stores_in cut.made ∙ ap (λ (t : View T). stores_in t.made) opens in
        let theirs : stores_in right.made ≡ 0 = ap stores_in cut.right_made in
        let wrote = s.made in
        let read = r.made in
        let list : stored z.seen ≡ ((first ∷ s.others) ++ all) ++ stored h.ours.rest =
        stored_on a.seen z.seen h.ours
        ∙ ap (λ ys. ys ++ stored h.ours.rest) (s.list ∙ ap (λ ys. (ys ++ s.others) ++ all) opened_with) in
        let size : length (stored z.seen) ≡ length (((first ∷ s.others) ++ all) ++ stored h.ours.rest) = ap length list in
        let one = length-append ((first ∷ s.others) ++ all) (stored h.ours.rest) in
        let two = length-append (first ∷ s.others) all in
        let no_others : s.others ≡ [] = none_left s.others (omega arith) in
        let no_rest : stored h.ours.rest ≡ [] = none_left (stored h.ours.rest) (omega arith) in
        list ∙ (ap (λ ys. ((first ∷ s.others) ++ all) ++ ys) no_rest ∙ (append-nil ((first ∷ s.others) ++ all) ∙ ap (λ ys. (first ∷ ys) ++ all) no_others))

    -- Each value that was read is one that was written.
    pub all_seen : All (Contains (first ∷ all)) seen
    all_seen =
        subst (λ ys. All (Contains ys) seen) all_stored
        (all_there (stored b.seen) (stored h.others.rest) (stored z.seen) seen (stored_on b.seen z.seen h.others) r.all)

    -- the last load answers the last value that was written
    pub last_is : (y : T) (u : View T) → Goes z u → HasLoaded y z u → y ≡ last_of first all
    last_is y u goes load =
        let it = newest y z u load whole (subst IsAll (sym goes.share) whole) none goes.all in
        let is : first ∷ all ≡ it.others ++ y ∷ [] = sym all_stored ∙ it.is in
        sym (last_here first y it.others) ∙ (ap (last_of first) (sym is) ∙ again first all)
      where
        again : (d : T) (xs : List T) → last_of d (d ∷ xs) ≡ last_of d xs
        again d xs = refl

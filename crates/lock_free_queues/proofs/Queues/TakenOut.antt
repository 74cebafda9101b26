-- For clients of the overflowing queue: what the pops and the pushes of a pass took out,
-- as the history grows.
use Rattle.std.proofs.Common.{◌≡◌, inl, inr, ℕ, ◌+◌, ◌-◌, ◌^◌, ◌<◌, ◌≤◌, Bool, true, false, true≢false}
use Rattle.std.proofs.Common.{if◌then◌else◌, List, [], ◌∷◌, ◌++◌, length, map, get_or, take, sym, refl, ap, subst, ◌∙◌}
use Rattle.std.proofs.Common.{arith, append-nil, append_assoc, length-append, sum_by}
use Rattle.std.specs.Prelude.{Some, None}
use Rattle.std.proofs.lemmas.List.{take_all, take_more}
use mathlib.Core.List.{map-append}
use Rattle.lock_free_queues.proofs.Names.{IsHistory, machine_kind, sum_by-append, one_word, Event, Published, HandedOut, Acted, Finished, events_by}
use Rattle.lock_free_queues.proofs.Names.{View, IsBeginning, IsAll, Item, Index, Role, Queues, PushIndex, Pop, PoppedIndex}
use Rattle.lock_free_queues.proofs.Names.{publishes, published, by_more}
use Rattle.model.specs.declared.families.queues.QueueKind.TheVariants as kinds
use Rattle.lock_free_queues.specs.Queues.Merges.{StandIn, by_pop, by_push, taken, TookOut, HasPushedAll, HasPushedUpTo}
use Rattle.lock_free_queues.specs.Queues.Merges.{HasTaken, HasDrained}
use Rattle.lock_free_queues.specs.Queues.Overflowing.{Goes, HasOverflowed, PushAdded, PushHandedBack, TookNone}
use Rattle.lock_free_queues.specs.Queues.Sent.{HasAppended}
use Rattle.lock_free_queues.specs.Queues.Sums.{puts, HasDone}
use Rattle.lock_free_queues.specs.Queues.Contracts.{HasPublished, HasPopped, HasAcquired, HasReleased}
use Rattle.lock_free_queues.proofs.Queues.Sent.{appended_none, appended_more, appended_same}
use Rattle.lock_free_queues.proofs.Queues.Sums.{done_added, done_replaced, done_popped, done_none, done_acquired, done_released}
use Rattle.lock_free_queues.proofs.Queues.Sums.{done_then, all_puts}
use Rattle.lock_free_queues.proofs.Queues.Whole.{all_taken}
use Rattle.history.proofs.Known.{begins_further, itself}
use Rattle.history.proofs.OneHolder.{first_own, first_wrote}

-- the number as an item of a queue
abbrev pub item : ℕ → Item ℕ
item x = Index x

-- ---- lists that stand in others

module _ {A : Type 0} where
  -- What stands in the empty list stands in each list.
  in_nothing : (zs ys : List A) → StandIn zs [] → StandIn zs ys
  in_nothing [] ys h = tt
  in_nothing (z ∷ zs) ys h = absurd h

  -- What stands in a list stands in it with one more element in front.
  in_longer : (zs : List A) (y : A) (ys : List A) → StandIn zs ys → StandIn zs (y ∷ ys)
  in_longer [] y ys h = tt
  in_longer (z ∷ zs) y ys h = inr h

  -- A list that stands in another, in order, is no longer than the other.
  pub no_longer : (zs ys : List A) → StandIn zs ys → length zs ≤ length ys
  no_longer [] ys h = omega arith
  no_longer (z ∷ zs) [] h = absurd h
  no_longer (z ∷ zs) (y ∷ ys) (inl h) = omega (arith, no_longer zs ys h.1)
  no_longer (z ∷ zs) (y ∷ ys) (inr h) = omega (arith, no_longer (z ∷ zs) ys h)

  -- a list in which as many stand is the same
  pub same_list : (zs ys : List A) → StandIn zs ys → length ys ≤ length zs → zs ≡ ys
  same_list [] [] h few = refl
  same_list [] (y ∷ ys) h few = absurd (omega arith)
  same_list (z ∷ zs) [] h few = absurd h
  same_list (z ∷ zs) (y ∷ ys) (inl h) few = ap (λ xs. z ∷ xs) (same_list zs ys h.1 (omega arith)) ∙ ap (λ x. x ∷ ys) h.0
  same_list (z ∷ zs) (y ∷ ys) (inr h) few = (absurd (omega (arith, no_longer (z ∷ zs) ys h)))

-- ---- what was taken out, as the history grows

-- Between the views w and u the events hand out the number x, by party p, behind all that had been seen in w.
record HandsOut (x p : ℕ) (w u : View ℕ) : Type 0 where
  before : List (Event ℕ)
  after : List (Event ℕ)
  since : IsBeginning w.seen before
  is : u.seen ≡ before ++ HandedOut p (Index x) ∷ after

-- `by` reads from a party's next events of which sort the call is that has handed an item out (a pop or
-- a push). By `lasts`, a yes stays as more events follow.
module _ (by : List (Event ℕ) → Bool) (lasts : (xs ys : List (Event ℕ)) → by xs ≡ true → by (xs ++ ys) ≡ true) where
  -- What one party's events are, they are with more events behind them.
  next_lasts : (p : ℕ) (es ys : List (Event ℕ)) → by (events_by p es) ≡ true → by (events_by p (es ++ ys)) ≡ true
  next_lasts p es ys t = ap by (by_more p es ys) ∙ lasts (events_by p es) (events_by p ys) t

  -- What stands in a list stands in it with one more element in front, or without.
  either : (b : Bool) (zs : List (Item ℕ)) (x : Item ℕ) (xs : List (Item ℕ)) → StandIn zs xs → StandIn zs (if b then x ∷ xs else xs)
  either true zs x xs h = in_longer zs x xs h
  either false zs x xs h = h

  -- a list that stands in what calls of this sort took out still stands in it as more events follow
  pub grows : (zs : List (Item ℕ)) (xs ys : List (Event ℕ)) → StandIn zs (taken by xs) → StandIn zs (taken by (xs ++ ys))
  grows zs [] ys h = in_nothing zs (taken by ys) h
  grows zs (HandedOut p x ∷ es) ys h = go (by (events_by p es)) refl (λ vs. grows vs es ys) h
    where
      -- the first item was taken out by a call of this sort: a list that stands in it and the rest
      -- still stands as events follow
      here : (us : List (Item ℕ))
          → ((vs : List (Item ℕ)) → StandIn vs (taken by es) → StandIn vs (taken by (es ++ ys)))
          → StandIn us (x ∷ taken by es) → StandIn us (x ∷ taken by (es ++ ys))
      here [] later k = tt
      here (u ∷ us) later (inl k) = inl (k.0, later us k.1)
      here (u ∷ us) later (inr k) = inr (later (u ∷ us) k)

      -- the cases are whether the first item was taken out by a call of this sort
      go : (b : Bool) → by (events_by p es) ≡ b
          → ((vs : List (Item ℕ)) → StandIn vs (taken by es) → StandIn vs (taken by (es ++ ys)))
          → StandIn zs (if b then x ∷ taken by es else taken by es) → StandIn zs (taken by (HandedOut p x ∷ (es ++ ys)))
      go true t later k = (let more = next_lasts p es ys t in rw more (here zs later k))
      go false t later k = either (by (events_by p (es ++ ys))) zs x (taken by (es ++ ys)) (later zs k)
  grows zs (e ∷ es) ys h = grows zs es ys h

  -- an item that was then taken out by a call of this sort stands behind a list that stood
  -- in what was taken out
  one_more : (zs : List (Item ℕ)) (p : ℕ) (x : Item ℕ) (xs ys : List (Event ℕ)) → by (events_by p ys) ≡ true
      → StandIn zs (taken by xs) → StandIn (zs ++ x ∷ []) (taken by (xs ++ HandedOut p x ∷ ys))
  one_more [] p x [] ys t h = rw t (inl (refl, tt))
  one_more (z ∷ zs) p x [] ys t h = absurd h
  one_more zs p x (HandedOut q y ∷ es) ys t h = go (by (events_by q es)) refl (λ vs. one_more vs p x es ys t) h
    where
      rest : List (Event ℕ)
      rest = es ++ HandedOut p x ∷ ys

      -- the first item was taken out by a call of this sort: the list with x behind it still stands in
      -- the longer list
      here : (us : List (Item ℕ))
          → ((vs : List (Item ℕ)) → StandIn vs (taken by es) → StandIn (vs ++ x ∷ []) (taken by rest))
          → StandIn us (y ∷ taken by es) → StandIn (us ++ x ∷ []) (y ∷ taken by rest)
      here [] later k = inr (later [] tt)
      here (u ∷ us) later (inl k) = inl (k.0, later us k.1)
      here (u ∷ us) later (inr k) = inr (later (u ∷ us) k)

      -- the cases are whether the first item was taken out by a call of this sort
      go : (b : Bool) → by (events_by q es) ≡ b
          → ((vs : List (Item ℕ)) → StandIn vs (taken by es) → StandIn (vs ++ x ∷ []) (taken by rest))
          → StandIn zs (if b then y ∷ taken by es else taken by es)
          → StandIn (zs ++ x ∷ []) (taken by (HandedOut q y ∷ rest))
      go true s later k = (let more = next_lasts q es (HandedOut p x ∷ ys) s in rw more (here zs later k))
      go false s later k = either (by (events_by q rest)) (zs ++ x ∷ []) y (taken by rest) (later zs k)
  one_more zs p x (e ∷ es) ys t h = one_more zs p x es ys t h

  -- `TookOut` holds of no numbers from a view to each later one.
  took_none : (v w : View ℕ) → IsBeginning v.seen w.seen → TookOut by [] v w
  took_none v w begins earlier h =
      subst (λ es. StandIn (earlier ++ []) (taken by es)) (sym begins.is)
      (subst (λ zs. StandIn zs (taken by (v.seen ++ begins.rest))) (sym (append-nil earlier)) (grows earlier v.seen begins.rest h))

  -- What was taken out up to a view was taken out up to each later one.
  took_same : (xs : List ℕ) (v w u : View ℕ) → TookOut by xs v w → IsBeginning w.seen u.seen → TookOut by xs v u
  took_same xs v w u k begins earlier h =
      subst (λ es. StandIn (earlier ++ map Index xs) (taken by es)) (sym begins.is)
      (grows (earlier ++ map Index xs) w.seen begins.rest (k earlier h))

  -- one further number that is taken out by a call of this sort stands behind the numbers that were taken out
  took_more : (xs : List ℕ) (v : View ℕ) {x p : ℕ} {w u : View ℕ} → TookOut by xs v w → (out : HandsOut x p w u) → by (events_by p out.after) ≡ true
      → TookOut by (xs ++ x ∷ []) v u
  took_more xs v {x} {p} {w} {u} k out t earlier h =
      let before = out.before in
      let after = out.after in
      let begins = out.since in
      let there : StandIn (earlier ++ map Index xs) (taken by before) =
      subst (λ es. StandIn (earlier ++ map Index xs) (taken by es)) (sym begins.is)
      (grows (earlier ++ map Index xs) w.seen begins.rest (k earlier h)) in
      let more : StandIn ((earlier ++ map Index xs) ++ item x ∷ []) (taken by (before ++ HandedOut p (Index x) ∷ after)) =
      one_more (earlier ++ map Index xs) p (item x) before after t there in
      let list : (earlier ++ map Index xs) ++ item x ∷ [] ≡ earlier ++ map Index (xs ++ x ∷ []) =
      append_assoc earlier (map Index xs) (item x ∷ []) ∙ ap (λ zs. earlier ++ zs) (sym (map-append Index xs (x ∷ []))) in
      subst (λ es. StandIn (earlier ++ map Index (xs ++ x ∷ [])) (taken by es)) (sym out.is)
      (subst (λ zs. StandIn zs (taken by (before ++ HandedOut p (Index x) ∷ after))) list more)

-- Events that were those of a pop are so with more events behind them.
pub pop_lasts : (xs ys : List (Event ℕ)) → by_pop xs ≡ true → by_pop (xs ++ ys) ≡ true
pop_lasts [] ys pops = absurd (true≢false (sym pops))
pop_lasts (Acted p (Queues Pop) answer ∷ es) ys pops = refl
pop_lasts (e ∷ es) ys pops = absurd (true≢false (sym pops))

-- Events that were those of a push are so with more events behind them.
pub push_lasts : (xs ys : List (Event ℕ)) → by_push xs ≡ true → by_push (xs ++ ys) ≡ true
push_lasts [] ys pushes = absurd (true≢false (sym pushes))
push_lasts (Acted p (Queues (PushIndex value)) answer ∷ es) ys pushes = refl
push_lasts (e ∷ es) ys pushes = absurd (true≢false (sym pushes))

-- ---- pops

-- a pop takes one number more out, behind those that pops took before
pop_wrote : (xs : List ℕ) (x : ℕ) (v w u : View ℕ) → TookOut by_pop xs v w → HasPopped (Some (Index x)) w u → TookOut by_pop (xs ++ x ∷ []) v u
pop_wrote xs x v w u took_out popped =
    let party_there = popped.by in
    let wrote_first =
    first_wrote party_there (Queues Pop) (PoppedIndex x) (HandedOut party_there (Index x))
    (Acted party_there (Queues Pop) (PoppedIndex x) ∷ []) w u popped.called in
    let out : HandsOut x party_there w u =
    record { before = wrote_first.before; after = wrote_first.after; since = wrote_first.since; is = wrote_first.is } in
    took_more by_pop pop_lasts xs v took_out out (ap by_pop wrote_first.mine)

-- who takes a role has popped nothing by that
pub takes_none : (role : Role) (v w : View ℕ) → Goes v w → HasAcquired role true v w → HasTaken [] v w
takes_none role v w goes acquired =
    record {
      since = goes.since;
      popped = took_none by_pop pop_lasts v w goes.since;
      done = done_acquired v w role true acquired;
      share = goes.share;
      all = λ none. goes.all;
    }

-- a pop that answers a number adds it to those that the pass has popped
pub takes_one : (xs : List ℕ) (x : ℕ) (v w u : View ℕ) → HasTaken xs v w → Goes w u → HasPopped (Some (Index x)) w u → HasTaken (xs ++ x ∷ []) v u
takes_one xs x v w u has_taken goes has_popped =
    record {
      since = begins_further _ _ _ has_taken.since goes.since;
      popped = pop_wrote xs x v w u has_taken.popped has_popped;
      done =
          subst (λ n. HasDone 0 n v u) (sym (length-append xs (x ∷ [])))
          (done_then 0 (length xs) 0 1 v w u has_taken.done (done_popped w u (Index x) has_popped));
      share = goes.share ∙ has_taken.share;
      all = λ none. goes.all;
    }

-- a call that publishes and takes out nothing leaves the counts of what was done
same_done : (a b : ℕ) (v w u : View ℕ) → HasDone a b v w → HasDone 0 0 w u → HasDone a b v u
same_done a b v w u first_done second_done =
    record {
      puts_more = omega (arith, first_done.puts_more, second_done.puts_more);
      gets_more = omega (arith, first_done.gets_more, second_done.gets_more);
    }

-- a call that publishes and takes out nothing leaves the numbers that the pass has popped
takes_same : (xs : List ℕ) (v w u : View ℕ) → HasTaken xs v w → Goes w u → HasDone 0 0 w u → HasTaken xs v u
takes_same xs v w u has_taken goes done =
    record {
      since = begins_further _ _ _ has_taken.since goes.since;
      popped = took_same by_pop pop_lasts xs v w u has_taken.popped goes.since;
      done = same_done 0 (length xs) v w u has_taken.done done;
      share = goes.share ∙ has_taken.share;
      all = λ none. goes.all;
    }

-- A pop that found none leaves the numbers that were taken as they were.
pub takes_nothing : (xs : List ℕ) (v w u : View ℕ) → HasTaken xs v w → Goes w u → HasPopped None w u → HasTaken xs v u
takes_nothing xs v w u has_taken goes popped = takes_same xs v w u has_taken goes (done_none w u popped)

-- The release of the role leaves the numbers that were taken as they were.
pub takes_all : (xs : List ℕ) (role : Role) (v w u : View ℕ) → HasTaken xs v w → Goes w u → HasReleased role w u → HasTaken xs v u
takes_all xs role v w u has_taken goes released = takes_same xs v w u has_taken goes (done_released w u role released)

-- a pass has popped nothing since it knew just what it knows
pub takes_here : (v : View ℕ) → HasTaken [] v v
takes_here v =
    record {
      since = itself v.seen;
      popped = took_none by_pop pop_lasts v v (itself v.seen);
      done = record { puts_more = omega arith; gets_more = omega arith };
      share = refl;
      all = λ none. none;
    }

-- where numbers were popped until a pop found none, the pass has drained the queue, and the
-- numbers stand behind the old ones
pub drained : (c : ℕ) (old new more : List ℕ) (v w u : View ℕ) → new ≡ old ++ more → HasTaken more v w
    → Goes w u → IsHistory one_word (machine_kind kinds.Overflow) c u.seen → HasPopped None w u → HasDrained old new v u
drained c old new more v w u is has_taken goes history has_popped =
    record {
      more = more;
      numbers = is;
      popped = takes_nothing more v w u has_taken goes has_popped;
      emptied =
          λ whole none.
          (let all_out = all_taken one_word kinds.Overflow c (subst IsAll (sym has_taken.share) whole) (has_taken.all none) goes history has_popped in
          all_out.1);
    }

-- ---- pushes

-- a push that handed a number back adds it to those that pushes took out
push_wrote : (back : List ℕ) (value oldest : ℕ) (v w u : View ℕ) → TookOut by_push back v w
    → HasOverflowed value (Some oldest) w u → TookOut by_push (back ++ oldest ∷ []) v u
push_wrote back value oldest v w u took_out overflowed =
    let party_there = overflowed.by in
    let act : Event ℕ = Acted party_there (Queues (PushIndex value)) (PoppedIndex oldest) in
    let last : Event ℕ = Finished party_there (Queues (PushIndex value)) (PoppedIndex oldest) in
    -- The push published its number, and then the oldest one was handed out by its own party.
    let wrote_first =
    first_wrote party_there (Queues (PushIndex value)) (PoppedIndex oldest) (Published party_there (Index value))
    (HandedOut party_there (Index oldest) ∷ act ∷ []) w u overflowed.called in
    let part = first_own party_there wrote_first.after (act ∷ last ∷ []) (HandedOut party_there (Index oldest)) wrote_first.mine in
    let before : List (Event ℕ) = wrote_first.before ++ Published party_there (Index value) ∷ part.0 in
    let is : u.seen ≡ before ++ HandedOut party_there (Index oldest) ∷ part.1 =
    wrote_first.is ∙ (ap (λ es. wrote_first.before ++ Published party_there (Index value) ∷ es) part.2
    ∙ sym (append_assoc wrote_first.before (Published party_there (Index value) ∷ part.0) (HandedOut party_there (Index oldest) ∷ part.1))) in
    -- That hand-out lies behind all that had been seen, in events of a push.
    let since : IsBeginning w.seen before =
    record {
      rest = wrote_first.since.rest ++ Published party_there (Index value) ∷ part.0;
      is =
          ap (λ es. es ++ Published party_there (Index value) ∷ part.0) wrote_first.since.is
          ∙ append_assoc w.seen wrote_first.since.rest (Published party_there (Index value) ∷ part.0);
    } in
    let out : HandsOut oldest party_there w u = record { before = before; after = part.1; since = since; is = is } in
    took_more by_push push_lasts back v took_out out (ap by_push part.4)

-- what was published stays so
pub seen_later : (v w : View ℕ) → IsBeginning v.seen w.seen → length (published v.seen) ≤ length (published w.seen)
seen_later v w begins =
    let all : sum_by puts w.seen ≡ sum_by puts (v.seen ++ begins.rest) = ap (sum_by puts) begins.is in
    omega (arith, all_puts v.seen, all_puts w.seen, sum_by-append puts v.seen begins.rest)

-- `HasAppended` holds of equal counts too.
counted_as : {xs : List ℕ} {put got put' got' : ℕ} {v w : View ℕ} → HasAppended publishes Index xs put got v w → put ≡ put' → got ≡ got'
    → HasAppended publishes Index xs put' got' v w
counted_as {xs} {v = v} {w = w} appended p q = subst (λ (t : ℕ × ℕ). HasAppended publishes Index xs t.0 t.1 v w) (λ i. (p i, q i)) appended

-- who takes a role has pushed nothing by that
pub pushed_none : (all : List ℕ) (role : Role) (v w : View ℕ) → Goes v w → HasAcquired role true v w → HasPushedUpTo (take 0 all) [] v w
pushed_none all role v w goes acquired =
    let done = done_acquired v w role true acquired in
    record {
      few = omega (arith, done.puts_more);
      share = goes.share;
      all = λ under. record { added = appended_none publishes Index v w goes.since goes.share done; returned = took_none by_push push_lasts v w goes.since };
    }

-- the pass has pushed xs, and got back, since it knew v; it goes on from w to u with a push of x
module _ (c : ℕ) (some : 0 < c) (xs back : List ℕ) (x : ℕ) (v w u : View ℕ) (k : HasPushedUpTo xs back v w) (goes : Goes w u) where
  -- The pushed numbers with one more are one longer.
  long : length (xs ++ x ∷ []) ≡ length xs + 1
  long = length-append xs (x ∷ [])

  -- If the last position is not reached now, it was not reached before the push.
  earlier : length (published u.seen) < 2 ^ 64 - 1 → HasPushedAll xs back v w
  earlier under = k.all (omega (arith, seen_later w u goes.since))

  -- a push that handed nothing back adds its number to those that were pushed
  pushes_one : HasOverflowed x None w u → HasPublished (Index x) w u → HasPushedUpTo (xs ++ x ∷ []) back v u
  pushes_one overflowed has_published =
      let done = done_added w u x overflowed in
      record {
        few = omega (arith, k.few, done.puts_more, long);
        share = goes.share ∙ k.share;
        all = λ under. (let was = earlier under in
            record {
              added =
                  counted_as
                  (appended_more was.added goes.share x done has_published.list) (sym long) (omega arith);
              returned = took_same by_push push_lasts back v w u was.returned goes.since;
            });
      }

  -- a push that handed a number back adds its own number to those that were pushed, and the handed one
  -- to those that came back
  replaces_one : (oldest : ℕ) → HasOverflowed x (Some oldest) w u → HasPublished (Index x) w u → HasPushedUpTo (xs ++ x ∷ []) (back ++ oldest ∷ []) v u
  replaces_one oldest overflowed has_published =
      let done = done_replaced w u x oldest overflowed in
      record {
        few = omega (arith, k.few, done.puts_more, long);
        share = goes.share ∙ k.share;
        all = λ under. (let was = earlier under in
            record {
              added =
                  counted_as
                  (appended_more was.added goes.share x done has_published.list) (sym long) (sym (length-append back (oldest ∷ [])));
              returned = push_wrote back x oldest v w u was.returned overflowed;
            });
      }

  -- A push that took none out adds its number to those that were pushed. If the last position was
  -- reached, nothing has to be shown, as `HasPushedUpTo` speaks of earlier positions only.
  took_none_there : (back' : List ℕ) → TookNone c w u → HasPushedUpTo (xs ++ x ∷ []) back' v u
  took_none_there back' (inl h) = (absurd (omega (arith, h.0)))
  took_none_there back' (inr h) =
      record {
        few = omega (arith, k.few, ap (sum_by puts) h.made, long);
        share = goes.share ∙ k.share;
        all = λ under. (absurd (omega (arith, h.end)));
      }

  -- A push that handed nothing back adds its number to those that were pushed.
  pub adds : PushAdded x w u → HasPushedUpTo (xs ++ x ∷ []) back v u
  adds push_added = pushes_one push_added.0 push_added.1

  -- A push that handed y back adds its number to those that were pushed, and y to those that came back.
  pub returns_one : (y : ℕ) → PushHandedBack c x y w u → HasPushedUpTo (xs ++ x ∷ []) (back ++ y ∷ []) v u
  returns_one y (inl h) = replaces_one y h.0 h.1
  returns_one y (inr h) = took_none_there (back ++ y ∷ []) h.1

-- the pass has pushed the first n of all, and got back, since it knew v; it goes on from w to u
-- with a push of the next, x
module _ (c : ℕ) (some : 0 < c) (all : List ℕ) (n x : ℕ) (back : List ℕ) (v w u : View ℕ) (lt : n < length all)
    (is : x ≡ get_or all n 0) (k : HasPushedUpTo (take n all) back v w) (goes : Goes w u) where
  -- The first n numbers of a list and the next one are its first n + 1.
  longer : take n all ++ x ∷ [] ≡ take (n + 1) all
  longer = ap (λ z. take n all ++ z ∷ []) is ∙ sym (take_more all n 0 lt)

  -- A push of the next number of a list that handed nothing back makes the pushed numbers one longer.
  pub pushes_next : PushAdded x w u → HasPushedUpTo (take (n + 1) all) back v u
  pushes_next push_added = subst (λ xs. HasPushedUpTo xs back v u) longer (adds c some (take n all) back x v w u k goes push_added)

  -- A push of the next number of a list that handed y back makes both lists one longer.
  pub returns_next : (y : ℕ) → PushHandedBack c x y w u → HasPushedUpTo (take (n + 1) all) (back ++ y ∷ []) v u
  returns_next y push_handed_back =
      subst (λ xs. HasPushedUpTo xs (back ++ y ∷ []) v u) longer
      (returns_one c some (take n all) back x v w u k goes y push_handed_back)

-- a pass that gives the role back once all are pushed has pushed all of them
pub pushed_all : (all : List ℕ) (n : ℕ) (back : List ℕ) (role : Role) (v w u : View ℕ) → length all ≤ n
    → HasPushedUpTo (take n all) back v w → Goes w u → HasReleased role w u → published u.seen ≡ published w.seen
    → HasPushedUpTo all back v u
pushed_all all n back role v w u past k goes released is =
    let done = done_released w u role released in
    subst (λ xs. HasPushedUpTo xs back v u) (take_all n all past)
    (record {
      few = omega (arith, k.few, done.puts_more);
      share = goes.share ∙ k.share;
      all = λ under. (let was = k.all (omega (arith, ap length is)) in
          record {
            added = appended_same was.added goes.share done is;
            returned = took_same by_push push_lasts back v w u was.returned goes.since;
          });
    })

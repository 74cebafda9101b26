-- Who holds an index, on the page and by the model's events: what goes along with each step.
use Rattle.std.proofs.lemmas.Bool.Decides.{nat_tests}
use Rattle.std.proofs.lemmas.List.Concat.{flat_map-append}
use Rattle.std.proofs.lemmas.List.Sums.{fold_push}
use Rattle.model.proofs.Names.{Bool, List, None, Option, Some, [], ap, append-nil, arith, fold-append}
use Rattle.model.proofs.Names.{cond, false, fold, refl, subst, sym, true}
use Rattle.model.proofs.Names.{ℕ, ◌++◌, ◌<◌, ◌==◌, ◌∙◌, ◌∷◌, ◌≡◌, ◌≢◌}
use Rattle.model.specs.declared.event.Event.{Event}
use Rattle.model.specs.declared.event.Event.TheVariants.{Begun, Claimed, Finished, Freed, Locked}
use Rattle.model.specs.declared.event.Start.{Start}
use Rattle.model.specs.declared.event.Start.TheVariants.{Indices}
use Rattle.model.specs.declared.families.Registry as registries
use Rattle.model.specs.Families.Indices.Calls.{after}
use Rattle.model.specs.Families.Indices.Promises.{HoldsRight, KeepsHolders}
use Rattle.model.specs.Families.Indices.Reading.{holder_of}
use Rattle.model.specs.Families.Indices.Reading as reads
use Rattle.model.specs.Reading as readings
use Rattle.pages.specs.Machine as machine
use Rattle.pages.specs.Reading.{all_seen, seen}
use Rattle.pages.specs.UniqueIndexSet as page
use Rattle.pages.specs.UniqueIndexSetBridge as bridge

-- ---- histories that grow

-- a history of the page: its invocations and responses
abbrev pub History : Type 0
History = List (machine.Event page.Call page.Answer)

cons_parts : {X : Type 0} (a b : X) (xs ys : List X) → a ∷ xs ≡ b ∷ ys → (a ≡ b) × (xs ≡ ys)
cons_parts a b xs ys e = (cc, cc)

pub no_end : {X : Type 0} (x : X) (xs ys : List X) → [] ≡ xs ++ x ∷ ys → ⊥
no_end x [] ys e = absurd (cc)
no_end x (y ∷ xs) ys e = absurd (cc)

-- what holds of each event of a history, and of one more, holds of each event of the longer history
each_push : (P : History → machine.Event page.Call page.Answer → Type 0) (h : History) (e : machine.Event page.Call page.Answer)
    → page.Each P h → P h e → page.Each P (h ++ e ∷ [])
each_push P [] e all new [] after x is = let parts = cons_parts e x [] after is in subst (P []) parts.0 new
each_push P [] e all new (y ∷ before) after x is = absurd (no_end x before after (cons_parts e y [] (before ++ x ∷ after) is).1)
each_push P (z ∷ h) e all new [] after x is = let parts = cons_parts z x (h ++ e ∷ []) after is in all [] h x (ap (λ y. y ∷ h) parts.0)
each_push P (z ∷ h) e all new (y ∷ before) after x is =
    let parts = cons_parts z y (h ++ e ∷ []) (before ++ x ∷ after) is in
    subst (λ y. P (y ∷ before) x) parts.0
    (each_push (λ past e. P (z ∷ past) e) h e (λ past rest f g. all (z ∷ past) rest f (ap (λ xs. z ∷ xs) g)) new before after x parts.1)

holder_push : (i : ℕ) (h : History) (e : machine.Event page.Call page.Answer) → page.holder i (h ++ e ∷ []) ≡ page.holder_after i (page.holder i h) e
holder_push i h e = fold_push (page.holder_after i) None h e

locked_push : (h : History) (e : machine.Event page.Call page.Answer) → page.is_locked (h ++ e ∷ []) ≡ page.locked_after (page.is_locked h) e
locked_push h e = fold_push page.locked_after false h e

-- ---- what goes along

module _ (c : ℕ) where
  -- a state of the page's machine, a set of `c` indices
  abbrev pub Page : Type 0
  Page = machine.World page.Call page.Stage page.Answer

  -- What is known of a run of the model: each of its events is right for a set of `c` indices, and
  -- the registry has the holders that the events tell.
  pub record Knows (events : List (Event ℕ)) (k : registries.Registry ℕ) : Type 0 where
    pub holds : readings.Each (HoldsRight c) events
    pub keeps : KeepsHolders k events

  -- The page sees this history of the model's events, and who holds an index on the page holds it by the
  -- events. If the page is locked, so is the model. Each event of the page's history is right.
  pub record Rel (events : List (Event ℕ)) (h : History) (pending : ℕ → Option page.Stage) : Type 0 where
    pub told : all_seen bridge.reading events ≡ h
    pub held : (i p : ℕ) → page.holder i h ≡ Some p → (holder_of i events ≡ Some p) × (i < c)
    pub locked : page.is_locked h ≡ true → reads.is_locked events ≡ true
    pub right : page.Each (page.HoldsAlone c) h
    -- who is about to free an index has it, and has it no more on the page
    pub releasing : (p i : ℕ) (l : Bool) → pending p ≡ Some (page.ReleaseClearsFlag i l) → (page.holder i h ≡ None) × (holder_of i events ≡ Some p)

  -- The model's events are related (`Rel`) to the history and the pending stages of a page's state.
  abbrev pub Related : List (Event ℕ) → registries.Registry ℕ → Page → Type 0
  Related events k w = Rel events w.history w.pending

  -- The events `es`, of which the page sees `hs`, change no holder, neither of the model nor of
  -- the page. If the page is locked after them, so is the model.
  pub record Same (events es : List (Event ℕ)) (h hs : History) : Type 0 where
    pub seen : all_seen bridge.reading es ≡ hs
    pub holders : (j : ℕ) → holder_of j (events ++ es) ≡ holder_of j events
    pub held : (j : ℕ) → page.holder j (h ++ hs) ≡ page.holder j h
    pub locked : page.is_locked (h ++ hs) ≡ true → reads.is_locked (events ++ es) ≡ true
    pub right : page.Each (page.HoldsAlone c) (h ++ hs)

  -- events and page stay related through events and invocations that change no holder
  quiet : (events es : List (Event ℕ)) (h hs : History) (pending pending' : ℕ → Option page.Stage) → Rel events h pending → Same events es h hs
      → ((q j : ℕ) (l : Bool) → pending' q ≡ Some (page.ReleaseClearsFlag j l) → pending q ≡ Some (page.ReleaseClearsFlag j l))
      → Rel (events ++ es) (h ++ hs) pending'
  quiet events es h hs pending pending' r same stays =
      record {
        told = flat_map-append (seen bridge.reading) events es ∙ (ap (λ g. g ++ all_seen bridge.reading es) r.told ∙ ap (λ g. h ++ g) same.seen);
        held = λ j q e. (let had = r.held j q (sym (same.held j) ∙ e) in (same.holders j ∙ had.0, had.1));
        locked = same.locked;
        right = same.right;
        releasing = λ q j l e. (let had = r.releasing q j l (stays q j l e) in (same.held j ∙ had.0, same.holders j ∙ had.1));
      }

  holders_then : (j : ℕ) (events es : List (Event ℕ)) → holder_of j (events ++ es) ≡ fold (reads.holder_after j) (holder_of j events) es
  holders_then j events es = fold-append (reads.holder_after j) None events es

  locked_then : (events es : List (Event ℕ)) → reads.is_locked (events ++ es) ≡ fold reads.locked_after (reads.is_locked events) es
  locked_then events es = fold-append reads.locked_after false events es

  -- ---- whose call is about to free

  -- where the stage that one party comes to frees no index, a party that is about to free one is another, and was so
  -- before
  other_stays : (p : ℕ) (o : Option page.Stage) (pending : ℕ → Option page.Stage) → ((j : ℕ) (l : Bool) → o ≢ Some (page.ReleaseClearsFlag j l))
      → (q j : ℕ) (l : Bool) → machine.put p o pending q ≡ Some (page.ReleaseClearsFlag j l)
      → (q ≢ p) × (pending q ≡ Some (page.ReleaseClearsFlag j l))
  other_stays p o pending not_it q j l = go (q == p) refl
    where
      go : (b : Bool) → (q == p) ≡ b → cond b o (pending q) ≡ Some (page.ReleaseClearsFlag j l)
          → (q ≢ p) × (pending q ≡ Some (page.ReleaseClearsFlag j l))
      go true t e = absurd (not_it j l e)
      go false t e = (grind (arith, nat_tests), e)

  -- ---- a call begins

  none_changed : (i : ℕ) (h : History) (e : machine.Event page.Call page.Answer) → page.holder_after i (page.holder i h) e ≡ page.holder i h
      → page.holder i (h ++ e ∷ []) ≡ page.holder i h
  none_changed i h e same = holder_push i h e ∙ same

  -- as an acquire begins no holder changes
  pub begins_acquire : (events : List (Event ℕ)) (h : History) (pending : ℕ → Option page.Stage) (p : ℕ) → Rel events h pending
      → Rel (events ++ Begun p (Indices (bridge.index_start page.Acquire)) ∷ []) (h ++ machine.Invoked p page.Acquire ∷ [])
      (machine.put p (Some page.AcquireLoadsHead) pending)
  begins_acquire events h pending p r =
      quiet events (Begun p (Indices (bridge.index_start page.Acquire)) ∷ []) h
      (machine.Invoked p page.Acquire ∷ []) pending (machine.put p (Some page.AcquireLoadsHead) pending) r
      (record {
        seen = refl;
        holders = λ j. holders_then j events (Begun p (Indices (bridge.index_start page.Acquire)) ∷ []);
        held = λ j. none_changed j h (machine.Invoked p page.Acquire) refl;
        locked =
            λ t. locked_then events (Begun p (Indices (bridge.index_start page.Acquire)) ∷ [])
            ∙ r.locked (sym (locked_push h (machine.Invoked p page.Acquire)) ∙ t);
        right = each_push (page.HoldsAlone c) h (machine.Invoked p page.Acquire) r.right tt;
      })
      (λ q j l e. (other_stays p (Some page.AcquireLoadsHead) pending (λ j l e. absurd (cc)) q j l e).1)

  seen_release : (p i : ℕ) (l : Bool)
      → all_seen bridge.reading (Begun p (Indices (bridge.index_start (page.Release i l))) ∷ []) ≡ machine.Invoked p (page.Release i l) ∷ []
  seen_release p i true = refl
  seen_release p i false = refl

  -- as a release begins its index has no holder on the page any more, and has the same one by the events
  pub begins_release : (events : List (Event ℕ)) (h : History) (pending : ℕ → Option page.Stage) (p i : ℕ) (l : Bool) → Rel events h pending
      → page.holder i h ≡ Some p
      → Rel (events ++ Begun p (Indices (bridge.index_start (page.Release i l))) ∷ []) (h ++ machine.Invoked p (page.Release i l) ∷ [])
      (machine.put p (Some (page.ReleaseClearsFlag i l)) pending)
  begins_release events h pending p i l r own =
      record {
        told = flat_map-append (seen bridge.reading) events (Begun p (Indices (bridge.index_start (page.Release i l))) ∷ [])
            ∙ (ap (λ g. g ++ all_seen bridge.reading (Begun p (Indices (bridge.index_start (page.Release i l))) ∷ [])) r.told
            ∙ ap (λ g. h ++ g) (seen_release p i l));
        held = held;
        locked = λ t. locked_then events (Begun p (Indices (bridge.index_start (page.Release i l))) ∷ [])
            ∙ r.locked (sym (locked_push h (machine.Invoked p (page.Release i l))) ∙ t);
        right = each_push (page.HoldsAlone c) h (machine.Invoked p (page.Release i l)) r.right tt;
        releasing = releasing;
      }
    where
      holders : (j : ℕ) → holder_of j (events ++ Begun p (Indices (bridge.index_start (page.Release i l))) ∷ []) ≡ holder_of j events
      holders j = holders_then j events (Begun p (Indices (bridge.index_start (page.Release i l))) ∷ [])

      held_then : (j : ℕ) → page.holder j (h ++ machine.Invoked p (page.Release i l) ∷ []) ≡ cond (i == j) None (page.holder j h)
      held_then j = holder_push j h (machine.Invoked p (page.Release i l))

      -- who holds an index on the page then holds it by the events too
      held : (j q : ℕ) → page.holder j (h ++ machine.Invoked p (page.Release i l) ∷ []) ≡ Some q
          → (holder_of j (events ++ Begun p (Indices (bridge.index_start (page.Release i l))) ∷ []) ≡ Some q) × (j < c)
      held j q e = go (i == j) (sym (held_then j) ∙ e)
        where
          go : (b : Bool) → cond b None (page.holder j h) ≡ Some q
              → (holder_of j (events ++ Begun p (Indices (bridge.index_start (page.Release i l))) ∷ []) ≡ Some q) × (j < c)
          go true e = absurd (cc)
          go false e = let had = r.held j q e in (holders j ∙ had.0, had.1)

      -- an index without a holder on the page has none then either
      none_then : (j : ℕ) → page.holder j h ≡ None → page.holder j (h ++ machine.Invoked p (page.Release i l) ∷ []) ≡ None
      none_then j none = held_then j ∙ go (i == j)
        where
          go : (b : Bool) → cond b None (page.holder j h) ≡ None
          go true = refl
          go false = none

      own_none : (j : ℕ) → i ≡ j → page.holder j (h ++ machine.Invoked p (page.Release i l) ∷ []) ≡ None
      own_none j same = held_then j ∙ (let is_same : (i == j) ≡ true = grind (arith, nat_tests) in rw is_same refl)

      -- who is about to free an index then has it by the events, and not on the page
      releasing : (q j : ℕ) (m : Bool) → machine.put p (Some (page.ReleaseClearsFlag i l)) pending q ≡ Some (page.ReleaseClearsFlag j m)
          → (page.holder j (h ++ machine.Invoked p (page.Release i l) ∷ []) ≡ None)
          × (holder_of j (events ++ Begun p (Indices (bridge.index_start (page.Release i l))) ∷ []) ≡ Some q)
      releasing q j m = go (q == p) refl
        where
          -- the cases are whether q is the party that begins the release
          go : (b : Bool) → (q == p) ≡ b → cond b (Some (page.ReleaseClearsFlag i l)) (pending q) ≡ Some (page.ReleaseClearsFlag j m)
              → (page.holder j (h ++ machine.Invoked p (page.Release i l) ∷ []) ≡ None)
              × (holder_of j (events ++ Begun p (Indices (bridge.index_start (page.Release i l))) ∷ []) ≡ Some q)
          go true t e =
              let party : p ≡ q = grind (arith, nat_tests) in
              let same : i ≡ j = cc in (
                own_none j same,
                holders j ∙ (ap (λ n. holder_of n events) (sym same) ∙ ((r.held i p own).0 ∙ ap (λ n. Some n) party)),
              )
          go false t e = let had = r.releasing q j m e in (none_then j had.0, holders j ∙ had.1)

  -- ---- an index is freed

  -- as a release frees its index nobody has it, on the page or by the events
  pub frees_it : (events : List (Event ℕ)) (h : History) (pending : ℕ → Option page.Stage) (p i : ℕ) (l : Bool) → Rel events h pending
      → pending p ≡ Some (page.ReleaseClearsFlag i l)
      → Rel (events ++ Freed p i ∷ []) h (machine.put p (Some (page.ReleaseLoadsHead i l)) pending)
  frees_it events h pending p i l r here =
      record {
        told = flat_map-append (seen bridge.reading) events (Freed p i ∷ []) ∙ (append-nil (all_seen bridge.reading events) ∙ r.told);
        held = held;
        locked = λ t. locked_then events (Freed p i ∷ []) ∙ r.locked t;
        right = r.right;
        releasing = λ q j m e.
            (let had = other_stays p (Some (page.ReleaseLoadsHead i l)) pending (λ j l e. absurd (cc)) q j m e in
            let was = r.releasing q j m had.1 in
            (was.0, others q j (λ same. had.0 (one q p (sym was.1 ∙ (ap (λ n. holder_of n events) (sym same) ∙ own.1)))) ∙ was.1));
      }
    where
      own : (page.holder i h ≡ None) × (holder_of i events ≡ Some p)
      own = r.releasing p i l here

      one : (q p : ℕ) → Some q ≡ Some p → q ≡ p
      one q p e = cc

      others : (q j : ℕ) → i ≢ j → holder_of j (events ++ Freed p i ∷ []) ≡ holder_of j events
      others q j ne = holders_then j events (Freed p i ∷ []) ∙ (let is_other : (i == j) ≡ false = grind (arith, nat_tests) in rw is_other refl)

      -- who holds an index on the page holds it by the events too once another is freed
      held : (j q : ℕ) → page.holder j h ≡ Some q → (holder_of j (events ++ Freed p i ∷ []) ≡ Some q) × (j < c)
      held j q e =
          let had = r.held j q e in
          let none = own.0 in (
            others q j (λ same. absurd (let clash : None ≡ Some q = sym own.0 ∙ (ap (λ n. page.holder n h) same ∙ e) in cc)) ∙ had.0,
            had.1,
          )

  -- ---- a call responds

  abbrev pub ends : Start ℕ → ℕ → page.Answer → List (Event ℕ)
  ends start p answer = Finished p start (bridge.answered answer) ∷ []

  -- an index that nobody holds by the events nobody holds on the page
  no_holder : (events : List (Event ℕ)) (h : History) (pending : ℕ → Option page.Stage) → Rel events h pending → (i : ℕ) → holder_of i events ≡ None
      → page.holder i h ≡ None
  no_holder events h pending r i none = go (page.holder i h) refl
    where
      go : (o : Option ℕ) → page.holder i h ≡ o → o ≡ None
      go None e = refl
      go (Some q) e = absurd (let clash : None ≡ Some q = sym none ∙ (r.held i q e).0 in cc)

  -- a set that is not locked by the events is not locked on the page
  not_locked : (events : List (Event ℕ)) (h : History) (pending : ℕ → Option page.Stage) → Rel events h pending → reads.is_locked events ≡ false
      → page.is_locked h ≡ false
  not_locked events h pending r unlocked = go (page.is_locked h) refl
    where
      go : (b : Bool) → page.is_locked h ≡ b → b ≡ false
      go false e = refl
      go true e = absurd (let clash : false ≡ true = sym unlocked ∙ r.locked e in cc)

  -- an answer that names no index and does not lock leaves who holds which index, on the page and by the events
  says_nothing : {events : List (Event ℕ)} {h : History} {pending : ℕ → Option page.Stage} → (start : Start ℕ) (p : ℕ) (answer : page.Answer)
      → Rel events h pending
      → all_seen bridge.reading (ends start p answer) ≡ machine.Responded p answer ∷ []
      → ((j : ℕ) (o : Option ℕ) → page.holder_after j o (machine.Responded p answer) ≡ o)
      → ((b : Bool) → page.locked_after b (machine.Responded p answer) ≡ b)
      → page.HoldsAlone c h (machine.Responded p answer)
      → Rel (events ++ ([] ++ ends start p answer)) (h ++ machine.Responded p answer ∷ []) (machine.put p None pending)
  says_nothing {events} {h} {pending} start p answer r sees holders locks alone =
      quiet events (ends start p answer) h (machine.Responded p answer ∷ []) pending (machine.put p None pending) r
      (record {
        seen = sees;
        holders = λ j. holders_then j events (ends start p answer);
        held = λ j. none_changed j h (machine.Responded p answer) (holders j (page.holder j h));
        locked =
            λ t. locked_then events (ends start p answer)
            ∙ r.locked (sym (locks (page.is_locked h)) ∙ (sym (locked_push h (machine.Responded p answer)) ∙ t));
        right = each_push (page.HoldsAlone c) h (machine.Responded p answer) r.right alone;
      })
      (λ q j l e. (other_stays p None pending (λ j l e. absurd (cc)) q j l e).1)

  -- what a step writes beside its end
  abbrev pub told_of : ℕ → page.Answer → List (Event ℕ)
  told_of p (page.Acquired index) = Claimed p index ∷ []
  told_of p (page.Released true) = Locked p ∷ []
  told_of p answer = []

  -- as an acquire responds with an index its party holds it, on the page and by the events
  acquires_it : (events : List (Event ℕ)) (h : History) (pending : ℕ → Option page.Stage) (start : Start ℕ) (p i : ℕ) → Rel events h pending
      → readings.Each (HoldsRight c) (events ++ Claimed p i ∷ ends start p (page.Acquired i))
      → Rel (events ++ Claimed p i ∷ ends start p (page.Acquired i)) (h ++ machine.Responded p (page.Acquired i) ∷ []) (machine.put p None pending)
  acquires_it events h pending start p i r knows =
      record {
        told = flat_map-append (seen bridge.reading) events (Claimed p i ∷ ends start p (page.Acquired i))
            ∙ ap (λ g. g ++ machine.Responded p (page.Acquired i) ∷ []) r.told;
        held = held;
        locked =
            λ t. locked_then events (Claimed p i ∷ ends start p (page.Acquired i))
            ∙ r.locked (sym (locked_push h (machine.Responded p (page.Acquired i))) ∙ t);
        right = each_push (page.HoldsAlone c) h (machine.Responded p (page.Acquired i)) r.right
            (new.0, no_holder events h pending r i new.1, not_locked events h pending r new.2);
        releasing = λ q j m e.
            (let had = other_stays p None pending (λ j l e. absurd (cc)) q j m e in
            let was = r.releasing q j m had.1 in
            let other : i ≢ j = λ same. absurd (let clash : None ≡ Some q = sym new.1 ∙ (ap (λ n. holder_of n events) same ∙ was.1) in cc) in
            let t : (i == j) ≡ false = grind (arith, nat_tests) in
            (held_then j ∙ rw t was.0, holders j ∙ rw t was.1));
      }
    where
      new : (i < c) × (holder_of i events ≡ None) × (reads.is_locked events ≡ false)
      new = knows events (ends start p (page.Acquired i)) (Claimed p i) refl

      holders : (j : ℕ) → holder_of j (events ++ Claimed p i ∷ ends start p (page.Acquired i)) ≡ cond (i == j) (Some p) (holder_of j events)
      holders j = holders_then j events (Claimed p i ∷ ends start p (page.Acquired i))

      held_then : (j : ℕ) → page.holder j (h ++ machine.Responded p (page.Acquired i) ∷ []) ≡ cond (i == j) (Some p) (page.holder j h)
      held_then j = holder_push j h (machine.Responded p (page.Acquired i))

      -- who holds an index on the page then holds it by the events too
      held : (j q : ℕ) → page.holder j (h ++ machine.Responded p (page.Acquired i) ∷ []) ≡ Some q
          → (holder_of j (events ++ Claimed p i ∷ ends start p (page.Acquired i)) ≡ Some q) × (j < c)
      held j q e = go (i == j) refl (sym (held_then j) ∙ e)
        where
          go : (b : Bool) → (i == j) ≡ b → cond b (Some p) (page.holder j h) ≡ Some q
              → (holder_of j (events ++ Claimed p i ∷ ends start p (page.Acquired i)) ≡ Some q) × (j < c)
          go true t e = let same : i ≡ j = grind (arith, nat_tests) in (holders j ∙ rw t e, subst (λ n. n < c) same new.0)
          go false t e = let had = r.held j q e in (holders j ∙ rw t had.0, had.1)

  -- as a release responds that has locked the set, it is locked on the page and by the events
  locks_it : (events : List (Event ℕ)) (h : History) (pending : ℕ → Option page.Stage) (start : Start ℕ) (p : ℕ) → Rel events h pending
      → readings.Each (HoldsRight c) (events ++ Locked p ∷ ends start p (page.Released true))
      → Rel (events ++ Locked p ∷ ends start p (page.Released true)) (h ++ machine.Responded p (page.Released true) ∷ []) (machine.put p None pending)
  locks_it events h pending start p r knows =
      quiet events (Locked p ∷ ends start p (page.Released true)) h (machine.Responded p (page.Released true) ∷ []) pending (machine.put p None pending) r
      (record {
        seen = refl;
        holders = λ j. holders_then j events (Locked p ∷ ends start p (page.Released true));
        held = λ j. none_changed j h (machine.Responded p (page.Released true)) refl;
        locked = λ t. locked_then events (Locked p ∷ ends start p (page.Released true));
        right = each_push (page.HoldsAlone c) h (machine.Responded p (page.Released true)) r.right
            (λ index. no_holder events h pending r index ((knows events (ends start p (page.Released true)) (Locked p) refl).0 index));
      })
      (λ q j l e. (other_stays p None pending (λ j l e. absurd (cc)) q j l e).1)

  -- when any call responds, the page's history and the model's events agree on who holds which index
  pub responds : (events : List (Event ℕ)) (h : History) (pending : ℕ → Option page.Stage) (start : Start ℕ) (p : ℕ)
      (answer : page.Answer)
      → Rel events h pending
      → readings.Each (HoldsRight c) (events ++ (told_of p answer ++ ends start p answer))
      → Rel (events ++ (told_of p answer ++ ends start p answer)) (h ++ machine.Responded p answer ∷ []) (machine.put p None pending)
  responds events h pending start p (page.Acquired i) r knows = acquires_it events h pending start p i r knows
  responds events h pending start p page.OutOfIndices r knows =
      says_nothing start p page.OutOfIndices r refl (λ j o. refl) (λ b. refl) tt
  responds events h pending start p page.IsLocked r knows =
      says_nothing start p page.IsLocked r refl (λ j o. refl) (λ b. refl) tt
  responds events h pending start p (page.Released true) r knows = locks_it events h pending start p r knows
  responds events h pending start p (page.Released false) r knows =
      says_nothing start p (page.Released false) r refl (λ j o. refl) (λ b. refl) tt

  -- a step that tells nothing
  pub goes_on : (events : List (Event ℕ)) (h : History) (pending : ℕ → Option page.Stage) (p : ℕ) (next : page.Stage) → Rel events h pending
      → ((j : ℕ) (l : Bool) → next ≢ page.ReleaseClearsFlag j l) → Rel (events ++ []) h (machine.put p (Some next) pending)
  goes_on events h pending p next r not_it =
      subst (λ es. Rel es h (machine.put p (Some next) pending)) (sym (append-nil events))
      (record {
        told = r.told;
        held = r.held;
        locked = r.locked;
        right = r.right;
        releasing =
            λ q j l e. r.releasing q j l
            (other_stays p (Some next) pending (λ j l e. not_it j l (some_is next (page.ReleaseClearsFlag j l) e)) q j l e).1;
      })
    where
      some_is : (a b : page.Stage) → Some a ≡ Some b → a ≡ b
      some_is a b e = cc

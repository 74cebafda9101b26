-- What holds of a party's state: between its looks (`Rests`), and while a look goes over the indices
-- (`Course`). Both are kept by every turn.
use Rattle.laws_container.proofs.Names.{◌≡◌, ◌≢◌, ◌⊎◌, inl, inr, ℕ, ◌<◌, ◌≤◌, true, Option, Some, None}
use Rattle.laws_container.proofs.Names.{is_some, List, ◌++◌, length, slice_get, slice_index_or, sym, subst, ◌∙◌}
use Rattle.laws_container.proofs.Names.{append_assoc, arith, ContainerState, Element, Event, Coding, shows, WasCopied}
use Rattle.laws_container.proofs.Names.{WasAlone, contents_of, announced_of, HeldThroughout, BeginsNone, HeldSometime}
use Rattle.laws_container.proofs.Names.{held_later, through_less, through_now}
use Rattle.laws_container.proofs.Alone.{alone_less}
use Rattle.laws_container.proofs.KeptCopies.{ShowsOwn, CallsOn, own_later}
use Rattle.laws_container.proofs.Terms.{Keeps}
use Rattle.laws_container.proofs.Turns.{Owing, Now, WellFormed, count_in, change_in, Passes}

module _ {T : Type 0} where
  -- the number that a state has found of an element
  abbrev pub number_in : Option (Element T) → ℕ
  number_in None = 0
  number_in (Some e) = e.count

  -- the number that a state has found at an index
  abbrev pub number_at : ContainerState T → ℕ → ℕ
  number_at s i = number_in (slice_get s.shown.elements i)

  -- what a party has copied it has copied still after more events
  pub copied_later : (p i : ℕ) (value : T) (events es : List (Event T)) → WasCopied p i value events → WasCopied p i value (events ++ es)
  copied_later = grind (arith, append_assoc)

  -- something stood at the index through the party's call
  abbrev pub StoodThere : ℕ → ℕ → List (Event T) → Type 0
  StoodThere p i events = HeldThroughout p (λ part. is_some (contents_of i part) ≡ true) events

module _ {T : Type 0} (code : Coding T) (c : ℕ) where
  -- What the state of the party `q` shows, except at the index `copying`, which is being copied. A look has
  -- come to the indices below `k`.
  pub record Sight (m : Now T) (q : ℕ) (s : ContainerState T) (k copying : ℕ) : Type 0 where
    -- it shows all indices, and no number or change that is ahead of the machine's
    pub wide : length s.shown.elements ≡ c
    pub below : Keeps m.terms → (i : ℕ) → i < c → number_at s i ≤ count_in code c m i
    pub change : Keeps m.terms → s.shown.change ≤ change_in code c m
    -- each value that it shows was copied by its party
    pub copied : (i : ℕ) (value : T) → i ≢ copying → shows s i ≡ Some value → WasCopied q i value m.events
    -- a number that is the element's still shows what stands there
    pub same : WellFormed m → (i : ℕ) → i < c → i ≢ copying → number_at s i ≡ count_in code c m i → shows s i ≡ contents_of i m.events
    -- where the changes are still those that it shows: what was announced is shown, and a number that has
    -- moved on means that a raise of the changes is owed
    pub caught : WellFormed m → s.shown.change ≡ change_in code c m → (i : ℕ) → i < k → i < c
        → announced_of i m.events ≡ true → number_at s i ≡ count_in code c m i
    pub owed : Keeps m.terms → s.shown.change ≡ change_in code c m → (i : ℕ) → i < k → i < c → (number_at s i ≡ count_in code c m i) ⊎ Owing m.latest

  -- a state between its party's looks: its numbers are those of the elements that it shows
  pub record Rests (m : Now T) (q : ℕ) (s : ContainerState T) : Type 0 where
    pub sight : Sight m q s c c
    pub known : length s.seen.counts ≡ c
    pub seen : s.seen.change ≡ s.shown.change
    pub counts : (i : ℕ) → i < c → slice_index_or s.seen.counts i 0 ≡ number_at s i
    pub room : length s.shown.copy ≡ 128

  -- the state of a look under way, which has gone over the indices below `k` and copies the
  -- element at `copying`
  pub record Course (m : Now T) (p : ℕ) (s : ContainerState T) (k copying : ℕ) : Type 0 where
    pub sight : Sight m p s k copying
    pub known : length s.seen.counts ≡ c
    pub room : length s.shown.copy ≡ 128
    -- at the indices that the look has not come to, the numbers are those that the state had seen before
    pub unseen : (i : ℕ) → k ≤ i → i < c → i ≢ copying → slice_index_or s.seen.counts i 0 ≡ number_at s i
    -- at the indices that the look has gone over: where a value stood through the look its number is shown,
    -- each shows what stood there at a moment, and if the look was alone each number is the element's
    pub fresh : WellFormed m → (i : ℕ) → i < k → i < c → StoodThere p i m.events → number_at s i ≡ count_in code c m i
    pub once : WellFormed m → (i : ℕ) → i < k → i < c → HeldSometime p (λ part. shows s i ≡ contents_of i part) m.events
    pub alone : WasAlone p m.events → (i : ℕ) → i < k → i < c → number_at s i ≡ count_in code c m i
    -- each value that the state of a `get_state` shows was copied by that call
    pub own : ShowsOwn p s copying m.events

  -- ---- any turn

  -- a turn leads from the machine `m` to `m'`; `s` is the state of party `q`
  module _ {m m' : Now T} (es : List (Event T)) (more : m'.events ≡ m.events ++ es) (passes : Passes code c m m') (q : ℕ) (s : ContainerState T) where
    -- a number that a state has found and that is the element's after the turn was the element's before it,
    -- and has not moved
    still : Keeps m'.terms → (i : ℕ) → i < c → number_at s i ≤ count_in code c m i
        → number_at s i ≡ count_in code c m' i
        → (number_at s i ≡ count_in code c m i) × (count_in code c m' i ≡ count_in code c m i)
    still = grind arith

    -- a number of changes that a state shows and that is the machine's after the turn was the machine's
    -- before it, and has not moved
    change_still : Keeps m'.terms → s.shown.change ≤ change_in code c m → s.shown.change ≡ change_in code c m'
        → (s.shown.change ≡ change_in code c m) × (change_in code c m' ≡ change_in code c m)
    change_still kept low change_shown = let grows = passes.change kept in (omega arith, omega arith)

    -- what a state shows it shows still after any turn
    pub sight_later : (k x : ℕ) → Sight m q s k x → Sight m' q s k x
    sight_later = grind (arith, copied_later, still, change_still, inl, inr)

    -- a state at rest is at rest after any turn
    pub rests_later : Rests m q s → Rests m' q s
    rests_later rests = record { sight = sight_later c c rests.sight; known = rests.known; seen = rests.seen; counts = rests.counts; room = rests.room }

    -- the state of a look is as it was after a turn in which its party begins no call, if no number changes
    -- while it is alone
    pub course_later : {what : Option (ℕ × T)} → CallsOn q what m.events m'.events → BeginsNone q es
        → (WasAlone q m'.events → (i : ℕ) → i < c → count_in code c m' i ≡ count_in code c m i) → {k x : ℕ}
        → Course m q s k x → Course m' q s k x
    course_later {what} calls_on none steady {k} {x} course =
        record {
          sight = sight_later k x course.sight;
          known = course.known;
          room = course.room;
          unseen = course.unseen;
          fresh = λ well_formed i ks low through.
              let all = subst (StoodThere q i) more through in
              let less = through_less q (λ part. is_some (contents_of i part) ≡ true) m.events es none all in
              let was = course.fresh (passes.well_formed well_formed) i ks low less in
              was ∙ sym (passes.stood well_formed i low
              (through_now q (λ part. is_some (contents_of i part) ≡ true) m.events less)
              (through_now q (λ part. is_some (contents_of i part) ≡ true) m'.events through));
          once = λ well_formed i ks low.
              subst (HeldSometime q (λ part. shows s i ≡ contents_of i part)) (sym more)
              (held_later q (λ part. shows s i ≡ contents_of i part) m.events es none (course.once (passes.well_formed well_formed) i ks low));
          alone = λ was i ks low.
              course.alone (alone_less q m.events es none (subst (WasAlone q) more was)) i ks low ∙ sym (steady was i low);
          own = own_later calls_on s x course.own;
        }

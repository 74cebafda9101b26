-- What each call adds to what was sent and received, and what both come to once they are joined.
use Rattle.std.proofs.Common.{◌≡◌, inl, inr, ◌+◌, ◌-◌, ◌≤◌, ℕ, Bool, true, false, not, Option, Some, None, IfSome}
use Rattle.std.proofs.Common.{IfNone, List, [], ◌∷◌, ◌++◌, length, drop, take, sum_by}
use Rattle.std.proofs.Common.{refl, sym, ap, subst, ◌∙◌, arith, length-append, append-nil, append_assoc, true≢false}
use Rattle.std.proofs.lemmas.List.{drop_all, drop-append-le}
use Rattle.std.proofs.lemmas.List.Concat.{flat_map-append}
use Rattle.std.proofs.lemmas.List.Sums.{sum_by-append}
use Rattle.model.specs.declared.event.Event.{Event}
use Rattle.model.specs.declared.event.Item.{Item}
use Rattle.model.specs.declared.event.Item.TheVariants.{Value, Index}
use Rattle.model.specs.declared.families.queues.QueueKind.TheVariants as queues
use Rattle.model.specs.declared.turn.Kind.TheVariants as kinds
use Rattle.model.specs.Coding.{Coding}
use Rattle.model.specs.Families.Queues.Reading.{publishes, hands_out, published, handed_out, waiting}
use Rattle.threaded.specs.declared.share.Share.{Share}
use Rattle.threaded.specs.Shares.{IsAll, both_of}
use Rattle.history.specs.declared.view.View.{View}
use Rattle.history.specs.History.{IsHistory}
use Rattle.history.specs.Passes.{Goes, HasSplit, HasJoined, MissesNothing}
use Rattle.history.specs.Views.{first_view}
use Rattle.steps.specs.declared.queues.roles.Role.{Role}
use Rattle.lock_free_queues.specs.Queues.Sums.{puts, gets, HasDone}
use Rattle.lock_free_queues.proofs.Queues.Facts.{listed_always}
use Rattle.lock_free_queues.specs.Queues.Contracts.{PushDone, PushRefused, PopDone, PopEmpty, HasAcquired, HasReleased}
use Rattle.lock_free_queues.proofs.Queues.Sums.{whole_counted, done_pushed, done_refused, done_popped, done_none, done_acquired, done_released}
use Rattle.lock_free_queues.proofs.Queues.Whole.{none_more}
use Rattle.uses_streams.specs.declared.element.Element.{Element}
use Rattle.uses_streams.specs.declared.element.Element.TheVariants as elements
use Rattle.uses_streams.specs.Ends.{arrival_of, arrived, is_end, IfNothing, IfValue, GainAlike}
use Rattle.uses_streams.specs.Streams.{last_ones, values_in, has_end, ends_once, has_values, pushed_by, popped_by}
use Rattle.uses_streams.specs.Streams.{OnlyPushes, OnlyPops, HasHalf, IsFreshHalf, CameUpTo}

-- ---- the last ones of a list

module _ {A : Type 0} where
  pub last_none : (n : ℕ) (xs : List A) → n ≡ 0 → last_ones n xs ≡ []
  last_none n xs none = drop_all (length xs - n) xs (omega arith)

  -- the last k + 1 elements of a list with one more are the last k of the list and that one
  pub last_push : (k n : ℕ) (xs ys : List A) (x : A) → k ≤ length xs → n ≡ k + 1 → ys ≡ xs ++ x ∷ []
      → last_ones n ys ≡ last_ones k xs ++ x ∷ []
  last_push k n xs ys x few more is =
      let long = length-append xs (x ∷ []) in
      let same : length (xs ++ x ∷ []) - n ≡ length xs - k = omega arith in
      ap (last_ones n) is ∙ (ap (λ i. drop i (xs ++ x ∷ [])) same ∙ drop-append-le (length xs - k) xs (x ∷ []) (omega arith))

  pub last_same : (k n : ℕ) (xs ys : List A) → n ≡ k → ys ≡ xs → last_ones n ys ≡ last_ones k xs
  last_same k n xs ys same is = ap (last_ones n) is ∙ ap (λ i. last_ones i xs) same

  pub last_all : (n : ℕ) (xs : List A) → n ≡ length xs → last_ones n xs ≡ xs
  last_all n xs all = (let none : length xs - n ≡ 0 = omega arith in ap (λ i. drop i xs) none)

-- ---- lists that grow alike

module _ {A : Type 0} where
  pub gain_none : (xs ys : List A) → GainAlike xs xs ys ys
  gain_none xs ys = ([], sym (append-nil xs), sym (append-nil ys))

  -- Two lists have grown by the same elements so far. They do so still if one more is added to both.
  module _ (xs more_xs most_xs ys more_ys most_ys : List A) (so_far : GainAlike xs more_xs ys more_ys) where
    -- (the second list is the same until it grows)
    pub gain_more : (x : A) (kept_ys : List A) → most_xs ≡ more_xs ++ x ∷ [] → kept_ys ≡ more_ys → most_ys ≡ kept_ys ++ x ∷ []
        → GainAlike xs most_xs ys most_ys
    gain_more x kept_ys is kept are = (
      so_far.0 ++ x ∷ [],
      is ∙ (ap (λ zs. zs ++ x ∷ []) so_far.1 ∙ append_assoc xs so_far.0 (x ∷ [])),
      are ∙ (ap (λ zs. zs ++ x ∷ []) (kept ∙ so_far.2) ∙ append_assoc ys so_far.0 (x ∷ [])),
    )

    pub gain_same : most_xs ≡ more_xs → most_ys ≡ more_ys → GainAlike xs most_xs ys most_ys
    gain_same is are = (so_far.0, is ∙ so_far.1, are ∙ so_far.2)

-- ---- values and the end

module _ {T : Type 0} where
  -- The values of a list are the first ones of any list that goes on from it.
  pub begins : (xs ys : List (Item (Element T))) → values_in xs ≡ take (length (values_in xs)) (values_in (xs ++ ys))
  begins [] ys = refl
  begins (Value (elements.Value x) ∷ xs) ys = ap (λ ws. x ∷ ws) (begins xs ys)
  begins (Value elements.End ∷ xs) ys = refl
  begins (Index i ∷ xs) ys = refl

  -- after the end no value counts, and the end stays
  pub end_stays : (xs ys : List (Item (Element T))) → has_end xs ≡ true
      → (values_in (xs ++ ys) ≡ values_in xs) × (has_end (xs ++ ys) ≡ true)
  end_stays [] ys ended = absurd (true≢false (sym ended))
  end_stays (Value (elements.Value x) ∷ xs) ys ended = (let rest = end_stays xs ys ended in (ap (λ ws. x ∷ ws) rest.0, rest.1))
  end_stays (Value elements.End ∷ xs) ys ended = (refl, refl)
  end_stays (Index i ∷ xs) ys ended = absurd (true≢false (sym ended))

  -- a value after values alone is the last of them
  pub one_value : (xs : List (Item (Element T))) (x : T) → has_values xs ≡ true
      → (values_in (xs ++ Value (elements.Value x) ∷ []) ≡ values_in xs ++ x ∷ [])
      × (has_values (xs ++ Value (elements.Value x) ∷ []) ≡ true) × (has_end (xs ++ Value (elements.Value x) ∷ []) ≡ false)
  one_value [] x only_values = (refl, refl, refl)
  one_value (Value (elements.Value y) ∷ xs) x only_values = (let rest = one_value xs x only_values in (ap (λ ws. y ∷ ws) rest.0, rest.1, rest.2))
  one_value (Value elements.End ∷ xs) x only_values = absurd (true≢false (sym only_values))
  one_value (Index i ∷ xs) x only_values = absurd (true≢false (sym only_values))

  -- the end after values alone adds no value, and comes once
  pub one_end : (xs : List (Item (Element T))) → has_values xs ≡ true
      → (values_in (xs ++ Value elements.End ∷ []) ≡ values_in xs)
      × (has_values (xs ++ Value elements.End ∷ []) ≡ false) × (has_end (xs ++ Value elements.End ∷ []) ≡ true)
      × (ends_once (xs ++ Value elements.End ∷ []) ≡ true)
  one_end [] only_values = (refl, refl, refl, refl)
  one_end (Value (elements.Value y) ∷ xs) only_values = (let rest = one_end xs only_values in (ap (λ ws. y ∷ ws) rest.0, rest.1, rest.2, rest.3))
  one_end (Value elements.End ∷ xs) only_values = absurd (true≢false (sym only_values))
  one_end (Index i ∷ xs) only_values = absurd (true≢false (sym only_values))

  -- A list of values alone has no end in it.
  pub none_ended : (xs : List (Item (Element T))) → has_values xs ≡ true → has_end xs ≡ false
  none_ended [] only_values = refl
  none_ended (Value (elements.Value y) ∷ xs) only_values = none_ended xs only_values
  none_ended (Value elements.End ∷ xs) only_values = absurd (true≢false (sym only_values))
  none_ended (Index i ∷ xs) only_values = refl

  -- ---- each call, by what it adds

  -- The pass has half of the share. By `f` it has done at most as much as is listed in what it saw, and by `g` nothing.
  abbrev Only : (f g : Event (Element T) → ℕ) → (List (Event (Element T)) → List (Item (Element T))) → View (Element T) → Type 0
  Only f g listed v = HasHalf v × (sum_by f v.made ≤ length (listed v.seen)) × (sum_by g v.made ≡ 0)

  module _ {v w : View (Element T)} (goes : Goes v w) where
    -- A pass that goes on keeps its half of the share.
    still_half : HasHalf v → HasHalf w
    still_half half = (ap (λ (s : Share). s.part) goes.share ∙ half.0, ap (λ (s : Share). s.parts) goes.share ∙ half.1)

    module _ (f g : Event (Element T) → ℕ) (listed : List (Event (Element T)) → List (Item (Element T))) where
      -- One item more, which is listed behind those before, is the last of those that the pass itself has done.
      one_more : (item : Item (Element T)) → Only f g listed v → sum_by f w.made ≡ sum_by f v.made + 1 → sum_by g w.made ≡ sum_by g v.made + 0
          → listed w.seen ≡ listed v.seen ++ item ∷ []
          → Only f g listed w × (last_ones (sum_by f w.made) (listed w.seen) ≡ last_ones (sum_by f v.made) (listed v.seen) ++ item ∷ [])
      one_more item only more none list =
          let few = only.1 in
          let nothing = only.2 in
          let long = ap length list in
          let both = length-append (listed v.seen) (item ∷ []) in (
            (still_half only.0, omega arith, omega arith),
            last_push (sum_by f v.made) (sum_by f w.made) (listed v.seen) (listed w.seen) item few more list,
          )

      -- A call that does nothing leaves what the pass itself has done.
      no_more : Only f g listed v → sum_by f w.made ≡ sum_by f v.made + 0 → sum_by g w.made ≡ sum_by g v.made + 0 → listed w.seen ≡ listed v.seen
          → Only f g listed w × (last_ones (sum_by f w.made) (listed w.seen) ≡ last_ones (sum_by f v.made) (listed v.seen))
      no_more only same none list =
          let few = only.1 in
          let nothing = only.2 in
          let long = ap length list in (
            (still_half only.0, omega arith, omega arith),
            last_same (sum_by f v.made) (sum_by f w.made) (listed v.seen) (listed w.seen) (omega arith) list,
          )

      -- A half that has done nothing has still done nothing after a call that does nothing.
      none_yet : HasHalf v → sum_by f v.made ≡ 0 → sum_by g v.made ≡ 0 → sum_by f w.made ≡ sum_by f v.made + 0 → sum_by g w.made ≡ sum_by g v.made + 0
          → Only f g listed w × (last_ones (sum_by f w.made) (listed w.seen) ≡ [])
      none_yet half none_by_f none_by_g same none =
          ((still_half half, omega arith, omega arith), last_none (sum_by f w.made) (listed w.seen) (omega arith))

    -- a push of one item, by who only pushes, adds it to what this pass pushed
    pushed_more : (item : Item (Element T)) → OnlyPushes v → HasDone 1 0 v w → published w.seen ≡ published v.seen ++ item ∷ []
        → OnlyPushes w × (pushed_by w ≡ pushed_by v ++ item ∷ [])
    pushed_more item only_pushes done list = one_more puts gets published item only_pushes done.puts_more done.gets_more list

    -- a call that moves nothing leaves what this pass pushed
    pushed_same : OnlyPushes v → HasDone 0 0 v w → published w.seen ≡ published v.seen → OnlyPushes w × (pushed_by w ≡ pushed_by v)
    pushed_same only_pushes done list = no_more puts gets published only_pushes done.puts_more done.gets_more list

    -- a pop of one item, by who only pops, adds it to what this pass popped
    popped_more : (item : Item (Element T)) → OnlyPops v → HasDone 0 1 v w → handed_out w.seen ≡ handed_out v.seen ++ item ∷ []
        → OnlyPops w × (popped_by w ≡ popped_by v ++ item ∷ [])
    popped_more item only_pops done list = one_more gets puts handed_out item only_pops done.gets_more done.puts_more list

    -- a call that moves nothing leaves what this pass popped
    popped_same : OnlyPops v → HasDone 0 0 v w → handed_out w.seen ≡ handed_out v.seen → OnlyPops w × (popped_by w ≡ popped_by v)
    popped_same only_pops done list = no_more gets puts handed_out only_pops done.gets_more done.puts_more list

    -- ---- who pushes

    -- a fresh half that has acquired the role of the producer only pushes, and has pushed nothing
    pub begins_pushing : (role : Role) → IsFreshHalf v → HasAcquired role true v w → OnlyPushes w × (pushed_by w ≡ [])
    begins_pushing role fresh_half acquired =
        let done = done_acquired v w role true acquired in
        none_yet puts gets published fresh_half.0 fresh_half.1 fresh_half.2 done.puts_more done.gets_more

    -- a push of a value adds it to the values that this pass pushed
    pub pushes_value : (x : T) → OnlyPushes v → has_values (pushed_by v) ≡ true → PushDone (Value (elements.Value x)) v w
        → OnlyPushes w × (has_values (pushed_by w) ≡ true) × (values_in (pushed_by w) ≡ values_in (pushed_by v) ++ x ∷ [])
    pushes_value x only_pushes going pushed =
        let more = pushed_more (Value (elements.Value x)) only_pushes (done_pushed v w (Value (elements.Value x)) pushed.0) pushed.1.list in
        let one = one_value (pushed_by v) x going in
        (more.0, ap has_values more.1 ∙ one.1, ap values_in more.1 ∙ one.0)

    -- a push of the end ends what this pass pushed
    pub pushes_end : OnlyPushes v → has_values (pushed_by v) ≡ true → PushDone (Value elements.End) v w
        → OnlyPushes w × (values_in (pushed_by w) ≡ values_in (pushed_by v)) × (has_end (pushed_by w) ≡ true)
        × (ends_once (pushed_by w) ≡ true)
    pushes_end only_pushes going pushed =
        let more = pushed_more (Value elements.End) only_pushes (done_pushed v w (Value elements.End) pushed.0) pushed.1.list in
        let one = one_end (pushed_by v) going in
        (more.0, ap values_in more.1 ∙ one.0, ap has_end more.1 ∙ one.2, ap ends_once more.1 ∙ one.3)

    none_published : (capacity : ℕ) (item : Item (Element T)) → PushRefused capacity item v w → published w.seen ≡ published v.seen
    none_published capacity item (inl h) = h.1.list
    none_published capacity item (inr h) = h.list

    pub pushes_none : (capacity : ℕ) (item : Item (Element T)) → OnlyPushes v → PushRefused capacity item v w
        → OnlyPushes w × (pushed_by w ≡ pushed_by v)
    pushes_none capacity item only_pushes full = pushed_same only_pushes (done_refused v w item capacity full) (none_published capacity item full)

    -- whatever the push answered, the pass only pushes, and pushed values alone
    pub pushes_either : (x : T) (capacity : ℕ) (taken : Bool) → OnlyPushes v → has_values (pushed_by v) ≡ true
        → (taken ≡ true → PushDone (Value (elements.Value x)) v w) → (taken ≡ false → PushRefused capacity (Value (elements.Value x)) v w)
        → OnlyPushes w × (has_values (pushed_by w) ≡ true)
    pushes_either x capacity true only_pushes going pushed full = (let one = pushes_value x only_pushes going (pushed refl) in (one.0, one.1))
    pushes_either x capacity false only_pushes going pushed full =
        (let none = pushes_none capacity (Value (elements.Value x)) only_pushes (full refl) in (none.0, ap has_values none.1 ∙ going))

    pub stops_pushing : (role : Role) → OnlyPushes v → HasReleased role v w → published w.seen ≡ published v.seen
        → OnlyPushes w × (pushed_by w ≡ pushed_by v)
    stops_pushing role only_pushes released list = pushed_same only_pushes (done_released v w role released) list

    -- ---- who pops

    -- a fresh half that has acquired the role of the consumer only pops, and has popped nothing
    pub begins_popping : (role : Role) → IsFreshHalf v → HasAcquired role true v w → OnlyPops w × (popped_by w ≡ [])
    begins_popping role fresh_half acquired =
        let done = done_acquired v w role true acquired in
        none_yet gets puts handed_out fresh_half.0 fresh_half.2 fresh_half.1 done.gets_more done.puts_more

    pub pops_one : (item : Item (Element T)) → OnlyPops v → PopDone item v w → OnlyPops w × (popped_by w ≡ popped_by v ++ item ∷ [])
    pops_one item only_pops popped = popped_more item only_pops (done_popped v w item popped.0) popped.1.list

    pub pops_none : OnlyPops v → PopEmpty v w → OnlyPops w × (popped_by w ≡ popped_by v)
    pops_none only_pops empty = popped_same only_pops (done_none v w empty.0) empty.1.list

    pub stops_popping : (role : Role) → OnlyPops v → HasReleased role v w → handed_out w.seen ≡ handed_out v.seen
        → OnlyPops w × (popped_by w ≡ popped_by v)
    stops_popping role only_pops released list = popped_same only_pops (done_released v w role released) list

    -- a value that a pop answered comes behind those that came, where no end has come
    pub receives_value : (x : T) {ended : Bool} → ended ≡ false → OnlyPops v → CameUpTo ended (popped_by v)
        → PopDone (Value (elements.Value x)) v w
        → OnlyPops w × CameUpTo ended (popped_by w) × (values_in (popped_by w) ≡ values_in (popped_by v) ++ x ∷ [])
        × (has_end (popped_by w) ≡ false)
    receives_value x {ended} off only_pops came popped =
        let more = pops_one (Value (elements.Value x)) only_pops popped in
        let one = one_value (popped_by v) x (came.0 ∙ ap not off) in (
          more.0,
          (ap has_values more.1 ∙ (one.1 ∙ ap not (sym off)), ap has_end more.1 ∙ (one.2 ∙ sym off)),
          ap values_in more.1 ∙ one.0,
          ap has_end more.1 ∙ one.2,
        )

    -- a pop of the end adds no value, and ends what this pass popped
    pub receives_end : {ended : Bool} → ended ≡ false → OnlyPops v → CameUpTo ended (popped_by v) → PopDone (Value elements.End) v w
        → OnlyPops w × CameUpTo true (popped_by w) × (values_in (popped_by w) ≡ values_in (popped_by v) ++ [])
        × (has_end (popped_by w) ≡ true)
    receives_end {ended} off only_pops came popped =
        let more = pops_one (Value elements.End) only_pops popped in
        let one = one_end (popped_by v) (came.0 ∙ ap not off) in (
          more.0,
          (ap has_values more.1 ∙ one.1, ap has_end more.1 ∙ one.2),
          ap values_in more.1 ∙ (one.0 ∙ sym (append-nil (values_in (popped_by v)))),
          ap has_end more.1 ∙ one.2,
        )

    -- a pop that finds nothing leaves what this pass popped
    pub receives_nothing : {ended : Bool} → ended ≡ false → OnlyPops v → CameUpTo ended (popped_by v) → PopEmpty v w
        → OnlyPops w × CameUpTo ended (popped_by w) × (values_in (popped_by w) ≡ values_in (popped_by v) ++ [])
        × (has_end (popped_by w) ≡ false)
    receives_nothing {ended} off only_pops came empty =
        let none = pops_none only_pops empty in (
          none.0,
          (ap has_values none.1 ∙ came.0, ap has_end none.1 ∙ came.1),
          ap values_in none.1 ∙ sym (append-nil (values_in (popped_by v))),
          ap has_end none.1 ∙ (came.1 ∙ off),
        )

  -- ---- by what a pop has found, where no end had come

  -- a receiver to which no end had come has received what its pop found
  pub receives : {v w : View (Element T)} → Goes v w → (found : Option (Element T)) {ended : Bool} → ended ≡ false → OnlyPops v
      → CameUpTo ended (popped_by v) → IfSome found (λ x. PopDone (Value x) v w) → IfNone found (PopEmpty v w)
      → OnlyPops w × CameUpTo (is_end (arrival_of found)) (popped_by w)
      × (values_in (popped_by w) ≡ values_in (popped_by v) ++ arrived (arrival_of found))
      × (has_end (popped_by w) ≡ is_end (arrival_of found))
  receives goes None off only_pops came popped empty =
      let none = receives_nothing goes off only_pops came empty in
      (none.0, (none.1.0 ∙ ap not off, none.1.1 ∙ off), none.2, none.3)
  receives goes (Some (elements.Value x)) off only_pops came popped empty =
      let one = receives_value goes x off only_pops came popped in
      (one.0, (one.1.0 ∙ ap not off, one.1.1 ∙ off), one.2, one.3)
  receives goes (Some elements.End) off only_pops came popped empty = receives_end goes off only_pops came popped

  -- A pop that found nothing has found the queue empty, told of what arrived.
  pub found_nothing : (v w : View (Element T)) (found : Option (Element T)) → IfNone found (PopEmpty v w)
      → IfNothing (arrival_of found) (PopEmpty v w)
  found_nothing v w None empty = empty
  found_nothing v w (Some (elements.Value x)) empty = tt
  found_nothing v w (Some elements.End) empty = tt

  -- A pop that found a value has popped it, told of what arrived.
  pub found_value : (v w : View (Element T)) (found : Option (Element T)) → IfSome found (λ x. PopDone (Value x) v w)
      → IfValue (arrival_of found) (λ x. PopDone (Value (elements.Value x)) v w)
  found_value v w None popped = tt
  found_value v w (Some (elements.Value x)) popped = popped
  found_value v w (Some elements.End) popped = tt

  -- ---- the end, and then the role is given back

  -- what a sender has done from `v` to `u` that pushed the end, and then gave its role back
  pub record HasFinished (v u : View (Element T)) : Type 0 where
    pub alone : OnlyPushes u
    pub same : values_in (pushed_by u) ≡ values_in (pushed_by v)
    pub ended : has_end (pushed_by u) ≡ true
    pub once : ends_once (pushed_by u) ≡ true

  -- a sender that pushes the end, and gives its role back, has ended what it pushed
  pub finishes : {v w u : View (Element T)} {role : Role} → Goes v w → Goes w u → OnlyPushes v → has_values (pushed_by v) ≡ true
      → PushDone (Value elements.End) v w → HasReleased role w u → published u.seen ≡ published w.seen → HasFinished v u
  finishes {v} {w} {u} {role} goes on only_pushes going pushed released list =
      let ended = pushes_end goes only_pushes going pushed in
      let left = stops_pushing on role ended.0 released list in
      record { alone = left.0; same = ap values_in left.1 ∙ ended.1; ended = ap has_end left.1 ∙ ended.2; once = ap ends_once left.1 ∙ ended.3 }

  -- ---- a first pass that is split

  -- the halves of a first pass are fresh
  pub halves_fresh : (n : ℕ) (first left right : View (Element T)) → first ≡ first_view n → HasSplit first left right
      → IsFreshHalf left × IsFreshHalf right
  halves_fresh n first left right opens cut =
      let made : left.made ≡ [] = cut.made ∙ ap (λ (t : View (Element T)). t.made) opens in
      let part : first.share.part ≡ 1 = ap (λ (t : View (Element T)). t.share.part) opens in
      let parts : first.share.parts ≡ 1 = ap (λ (t : View (Element T)). t.share.parts) opens in
      let one = ap (λ (s : Share). s.part) cut.share in
      let two = ap (λ (s : Share). s.parts) cut.share in
      let three = ap (λ (s : Share). s.part) cut.right_share in
      let four = ap (λ (s : Share). s.parts) cut.right_share in (
        ((omega arith, omega arith), ap (sum_by puts) made, ap (sum_by gets) made),
        ((omega arith, omega arith), ap (sum_by puts) cut.right_made, ap (sum_by gets) cut.right_made),
      )

  -- ---- both ends together

  -- two halves are the whole share
  halves_are_all : (v w : View (Element T)) → HasHalf v → HasHalf w → IsAll (both_of v.share w.share)
  halves_are_all v w first_half second_half =
      subst IsAll (λ i. both_of (record { part = sym first_half.0 i; parts = sym first_half.1 i })
      (record { part = sym second_half.0 i; parts = sym second_half.1 i }))
      refl

  -- what the sender pushed is what the receiver popped, and what waits
  together : {code : Coding (Element T)} {capacity : ℕ} {mine theirs new : View (Element T)} → HasJoined mine theirs new → OnlyPushes mine
      → OnlyPops theirs → MissesNothing new → IsHistory code kinds.Queue capacity new.seen → pushed_by mine ≡ popped_by theirs ++ waiting new.seen
  together {code} {capacity} {mine} {theirs} {new} has_joined pushes pops missing history =
      -- the joined pass has the whole share, so all that was pushed and popped is what it made
      let whole : IsAll new.share = subst IsAll (sym has_joined.share) (halves_are_all mine theirs pushes.0 pops.0) in
      let counted = whole_counted new whole missing in
      let put : sum_by puts new.made ≡ sum_by puts mine.made + sum_by puts theirs.made =
      ap (sum_by puts) has_joined.made ∙ sum_by-append puts mine.made theirs.made in
      let got : sum_by gets new.made ≡ sum_by gets mine.made + sum_by gets theirs.made =
      ap (sum_by gets) has_joined.made ∙ sum_by-append gets mine.made theirs.made in
      let p = counted.0 in
      let q = counted.1 in
      let few_put = pushes.1 in
      let none_got = pushes.2 in
      let few_got = pops.1 in
      let none_put = pops.2 in
      -- nothing was published that the sender did not see, and nothing taken that the receiver did not see
      let list : published new.seen ≡ published mine.seen ++ published has_joined.ours.rest =
      ap published has_joined.ours.is ∙ flat_map-append publishes mine.seen has_joined.ours.rest in
      let taken : handed_out new.seen ≡ handed_out theirs.seen ++ handed_out has_joined.others.rest =
      ap handed_out has_joined.others.is ∙ flat_map-append hands_out theirs.seen has_joined.others.rest in
      let a = ap length list in
      let b = length-append (published mine.seen) (published has_joined.ours.rest) in
      let c = ap length taken in
      let d = length-append (handed_out theirs.seen) (handed_out has_joined.others.rest) in
      let all_put : sum_by puts mine.made ≡ length (published mine.seen) = omega arith in
      let all_got : sum_by gets theirs.made ≡ length (handed_out theirs.seen) = omega arith in
      let same : published new.seen ≡ published mine.seen =
      none_more (published mine.seen) (published has_joined.ours.rest) (published new.seen) list (omega arith) in
      let took : handed_out new.seen ≡ handed_out theirs.seen =
      none_more (handed_out theirs.seen) (handed_out has_joined.others.rest) (handed_out new.seen) taken (omega arith) in
      -- what was published is what was taken out, and what waits
      let book = (listed_always code capacity new.seen queues.Queue history new.seen [] (sym (append-nil new.seen))).book in
      last_all (sum_by puts mine.made) (published mine.seen) all_put
      ∙ (sym same
      ∙ (book
      ∙ (ap (λ xs. xs ++ waiting new.seen) took
      ∙ ap (λ xs. xs ++ waiting new.seen) (sym (last_all (sum_by gets theirs.made) (handed_out theirs.seen) all_got)))))

  -- The sender's pass `mine` and the receiver's `theirs` are joined. So all that was sent and all that was received is known.
  module _ {code : Coding (Element T)} {capacity : ℕ} {mine theirs new came : View (Element T)} (same : came ≡ theirs)
      (h : HasJoined mine came new) (pushes : OnlyPushes mine) (pops : OnlyPops theirs) (missing : MissesNothing new)
      (history : IsHistory code kinds.Queue capacity new.seen) where
    -- the same join, said of the receiver's pass
    joined : HasJoined mine theirs new
    joined = subst (λ v. HasJoined mine v new) same h

    -- the joined pass has the whole share
    pub joined_whole : IsAll new.share
    joined_whole = subst IsAll (sym joined.share) (halves_are_all mine theirs pushes.0 pops.0)

    -- what was received is a beginning of what was sent
    pub joined_begins : values_in (popped_by theirs) ≡ take (length (values_in (popped_by theirs))) (values_in (pushed_by mine))
    joined_begins =
        begins (popped_by theirs) (waiting new.seen)
        ∙ ap (λ xs. take (length (values_in (popped_by theirs))) (values_in xs))
        (sym (together joined pushes pops missing history))

    -- if the end came, all that was sent was received
    pub joined_all : has_end (popped_by theirs) ≡ true → values_in (popped_by theirs) ≡ values_in (pushed_by mine)
    joined_all ended =
        sym (end_stays (popped_by theirs) (waiting new.seen) ended).0
        ∙ ap values_in (sym (together joined pushes pops missing history))

    -- if the end came, the sender had sent it
    pub joined_ends : has_end (popped_by theirs) ≡ true → has_end (pushed_by mine) ≡ true
    joined_ends ended =
        ap has_end (together joined pushes pops missing history)
        ∙ (end_stays (popped_by theirs) (waiting new.seen) ended).1

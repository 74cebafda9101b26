-- What contracts say of whole calls on a value, from what their driver knows once they have ended.
use Rattle.std.proofs.Common.{◌≡◌, ◌≤◌, inl, inr, ℕ, ◌+◌, ◌-◌, ◌^◌, ◌<◌, Bool, true, false, Some, None, List, [], ◌∷◌}
use Rattle.std.proofs.Common.{◌++◌, length, replicate, slice_index, sum_by, refl, sym, ap, subst, ◌∙◌, append_assoc}
use Rattle.std.proofs.Common.{append-nil, length-append, arith, not, is_none}
use Rattle.std.proofs.lemmas.List.Sums.{fold-append}
use Rattle.model.proofs.Readings.{Each-less}
use Rattle.lock_free_value.proofs.Names.{nat_tests, flat_map-append, sum_by-append, Truth, Loaded, Done, Event, Begun}
use Rattle.lock_free_value.proofs.Names.{Acted, Finished, Atomic, Coding, GrantsRight, stores, stored, IsAll, View}
use Rattle.lock_free_value.proofs.Names.{IsHistory, Looks, HasProducer, takes_producer, gives_producer}
use Rattle.lock_free_value.proofs.Names.{stores_value, last_or, IsLast}
use Rattle.steps.specs.declared.ask.Ask.{Ask}
use Rattle.steps.specs.declared.ask.Op.TheVariants.{Load as Loads}
use Rattle.steps.specs.declared.ask.Want.TheVariants as wants
use Rattle.steps.specs.declared.atomic.StoreStage.{StoreStage}
use Rattle.steps.specs.declared.atomic.StoreStage.TheVariants as stages
use Rattle.steps.specs.Atomic.{store_asks}
use Rattle.model.specs.declared.event.Answer.{Answer}
use Rattle.model.specs.declared.event.Start.{Start}
use Rattle.model.specs.declared.event.Answer.TheVariants.{Number}
use Rattle.model.specs.declared.families.atomic.AtomicStart.TheVariants as starts
use Rattle.model.specs.declared.families.atomic.AtomicStart.TheVariants.{ReleaseProducer, Store, Load}
use Rattle.model.specs.declared.turn.Kind.TheVariants as kinds
use Rattle.model.specs.Families.Atomic.Reading.{holder_after, holder_of}
use Rattle.model.specs.Reading.{Each}
use Rattle.history.specs.History.{Called}
use Rattle.history.specs.Passes.{Goes}
use Rattle.history.specs.Stages.{Calling, opened, Ends, Over}
use Rattle.history.specs.Steps.{TakesAtMost}
use Rattle.model.specs.Progress.{guarantee_of}
use Rattle.history_value.specs.Value.{ByProducer, looks_at_producer, looks_at_version}
use Rattle.history_value.specs.Value.{releases_producer, store_skips, loads_value}
use Rattle.history.specs.Rooms.{value_of_room}
use Rattle.history.proofs.Drives.{called}
use Rattle.history.proofs.OneHolder.{first_wrote, listed, none_looked, none_since, none_to_end}
use Rattle.history_value.proofs.ValueHolders.{history_by_producers, one_holder, value_role}
use Rattle.history_value.proofs.ValueLaws.{answers_right, load_tells, last_is, version_is_count}
use Rattle.history.proofs.Paid.{AllowsOne, TakesBy, takes, left_takes}
use Rattle.history_value.proofs.Values.{value_goes_on, value_pays, producer_by}
use Rattle.lock_free_value.specs.Calls.{WasAtEnd}
use Rattle.lock_free_value.specs.Roles.{Moved}
use Rattle.lock_free_value.specs.ValueContracts.{HasReleased, HasStored, HasLoaded, HasSeenProducer, HasSeenVersion}

module _ {T : Type 0} where
  -- ---- what the role came to, by what was made

  -- From old to new the role was taken and given back as often as the further events say.
  moved : (taken given : ℕ) (old new more : List (Event T)) → new ≡ old ++ more → sum_by takes_producer more ≡ taken
      → sum_by gives_producer more ≡ given → Moved taken given old new
  moved taken given old new more new_is takes_producer_is gives_producer_is = grind (arith, sum_by-append, takes_producer, gives_producer, sum_by)

-- a store is left out where its first load finds the last version
ends_at : {T : Type 0} (code : Coding T) (x : T) (stage : StoreStage) (n : ℕ) (a : Ask)
    → store_skips stage n ≡ true → store_asks code.words_of stage x ≡ wants.Ask a → (a.word ≡ 0) × (n ≡ 2 ^ 64 - 1)
ends_at code x stages.LoadsVersion n a skips e =
    (let is : record { word = 0; op = Loads } ≡ a = cc in (ap (λ (z : Ask). z.word) (sym is), grind (arith, nat_tests)))
ends_at code x (stages.StoresCell cell at) n a skips e = absurd (cc)
ends_at code x stages.AddsVersion n a skips e = absurd (cc)

-- ---- what every call leaves

-- the pass goes on, with one operation more aside at most
pub record Leaves {T : Type 0} (base w : View T) : Type 0 where
  pub goes : Goes base w
  pub aside : w.aside ≤ base.aside + 1

module _ {T C M E : Type 0} {code : Coding T} {call : Calling T C M E} {base w : View T} {e : E} {m : M} where
  -- A call that has ended leaves of its pass what every call leaves.
  ends_leaves : Ends code kinds.Atomic call base e m w → Leaves base w
  ends_leaves ends = grind (arith, opened, append_assoc)

  -- a call that is over leaves of its pass what every call leaves
  pub leaves : Over code kinds.Atomic call base e m w → Leaves base w
  leaves (inl ends) = ends_leaves ends
  leaves (inr left) =
      let looked = left.looked in
      record {
        goes =
            record {
              share = looked.share;
              since = looked.mine;
              first = looked.ran.first;
              all = λ whole. looked.all (subst IsAll looked.share whole);
            };
        aside = omega (arith, left.asked, looked.aside);
      }

-- ---- what a history says of itself

module _ {T : Type 0} {code : Coding T} {capacity : ℕ} {seen : List (Event T)} (history : IsHistory code kinds.Atomic capacity seen) where
  -- in a history each acquire, release and look of the role has ended as the machine promises (`GrantsRight`)
  grants : Each GrantsRight seen
  grants = subst (Each GrantsRight) (sym history.is) (value_goes_on code capacity history.trace history.run).roles

  -- In a history only the holder of the role stores.
  producers : Each ByProducer seen
  producers = history_by_producers code capacity seen history

-- ---- a call that wrote nothing but its begin and its end

module _ {T : Type 0} {base w : View T} {p : ℕ} {start : Start T} {answer : Answer T} (c : Called p start answer [] base w) where
  -- all that was seen before the end of the call
  abbrev before_end : List (Event T)
  before_end = (base.seen ++ c.others) ++ Begun p start ∷ c.during

  -- What is seen behind the call ends with its end.
  to_end : w.seen ≡ before_end ++ Finished p start answer ∷ []
  to_end = c.is ∙ sym (append_assoc (base.seen ++ c.others) (Begun p start ∷ c.during) (Finished p start answer ∷ []))

  -- A call of which neither the begin nor the end moves the role has not moved the role.
  none_moved : sum_by takes_producer (Begun p start ∷ Finished p start answer ∷ []) ≡ 0
      → sum_by gives_producer (Begun p start ∷ Finished p start answer ∷ []) ≡ 0 → Moved 0 0 base.made w.made
  none_moved none_taken none_given =
      moved 0 0 base.made w.made (Begun p start ∷ Finished p start answer ∷ []) c.made none_taken none_given

module _ {T : Type 0} (x : T) where
  -- The act of a store of x.
  abbrev act : ℕ → Event T
  act p = Acted p (Atomic (Store x)) (Truth true)

  -- The end of a store of x that answers true.
  abbrev end : ℕ → Event T
  end p = Finished p (Atomic (Store x)) (Truth true)

-- A call on a value has led its pass from `base`, where no call was under way, to `w`.
module _ {T : Type 0} {code : Coding T} {base w : View T} (idle : base.going ≡ None) (one : base.capacity ≡ 1) where
  -- ---- the role

  -- a release of the role that has ended is a call of the history, and nothing was stored from `base` on
  pub released : {e m : Unit {0}} → Ends code kinds.Atomic releases_producer base e m w → HasReleased base w
  released {e} {m} ends =
      let party_now = ends.party in
      let start : Start T = Atomic ReleaseProducer in
      let its_call : Called party_now start Done [] base w =
      subst (λ es. Called party_now start Done es base w) ends.tells (called code kinds.Atomic releases_producer base w e m idle ends) in
      let last : Event T = Finished party_now start Done in
      let events_then : List (Event T) = before_end its_call in
      let seen_is : w.seen ≡ events_then ++ last ∷ [] = to_end its_call in
      -- Only the holder stores, and the party held the role until its release ended.
      let each : Each ByProducer events_then = Each-less ByProducer events_then (last ∷ []) (subst (Each ByProducer) seen_is (producers ends.history)) in
      let held : holder_of events_then ≡ Some party_now = (grants ends.history events_then [] last seen_is).1 in
      record {
        by = party_now;
        mine = ends.mine;
        called = its_call;
        list =
            ap stored seen_is
            ∙ none_to_end value_role one_holder party_now start base.seen its_call.others its_call.during each
            its_call.others_own its_call.during_own held last refl;
      }

  -- a look of who has the role finds nothing that another stored
  looked_alone : Looks code kinds.Atomic base.capacity base w → base.other ≡ [] → 0 < base.share.part → HasProducer base.made → stored w.seen ≡ stored base.seen
  looked_alone looks alone some has =
      let right : Each GrantsRight w.seen = grants looks.history in
      let by_this_party = producer_by looks.parties.owner looks.parties.seat w.seen w.made right looks.parties.sums (subst HasProducer (sym looks.made) has) in
      none_looked value_role one_holder by_this_party.0 base.seen looks.mine.rest w.seen looks.mine.is
      (producers looks.history) (looks.apart alone some by_this_party.0 by_this_party.1) by_this_party.2

  -- ---- the looks

  -- a look at the role that has ended answered whether somebody had the role as it ended
  pub seen_producer : {b : Bool} {m : Unit {0}} → Ends code kinds.Atomic looks_at_producer base b m w → HasSeenProducer b base w
  seen_producer {b} {m} ends =
      let party_now = ends.party in
      let last : Event T = Finished party_now (Atomic starts.HasProducer) (Truth b) in
      let its_call : Called party_now (Atomic starts.HasProducer) (Truth b) [] base w =
      subst (λ es. Called party_now (Atomic starts.HasProducer) (Truth b) es base w) ends.tells
      (called code kinds.Atomic looks_at_producer base w b m idle ends) in
      let events_then : List (Event T) = before_end its_call in
      let seen_is : w.seen ≡ events_then ++ last ∷ [] = to_end its_call in
      let right : Truth b ≡ Truth (not (is_none (holder_of events_then))) = grants ends.history events_then [] last seen_is in
      let taken : b ≡ not (is_none (holder_of events_then)) = cc in
      let same : holder_of w.seen ≡ holder_of events_then = ap holder_of seen_is ∙ fold-append holder_after None events_then (last ∷ []) in
      record { by = party_now; mine = ends.mine; called = its_call; holder = taken ∙ ap (λ o. not (is_none o)) (sym same) }

  -- a look at the role takes none, and gives none back
  pub seen_producer_moves : {b : Bool} {m : Unit {0}} → Ends code kinds.Atomic looks_at_producer base b m w → Moved 0 0 base.made w.made
  seen_producer_moves ends = none_moved (seen_producer ends).called refl refl

  -- a look at the version that has ended answered 1 more than the number of the values that were stored as it ended
  pub seen_version : {n : ℕ} {m : Unit {0}} → Ends code kinds.Atomic looks_at_version base n m w → HasSeenVersion n base w
  seen_version {n} {m} ends =
      let party_now = ends.party in
      let last : Event T = Finished party_now (Atomic starts.Version) (Number n) in
      let its_call : Called party_now (Atomic starts.Version) (Number n) [] base w =
      subst (λ es. Called party_now (Atomic starts.Version) (Number n) es base w) ends.tells (called code kinds.Atomic looks_at_version base w n m idle ends) in
      let events_then : List (Event T) = before_end its_call in
      let seen_is : w.seen ≡ events_then ++ last ∷ [] = to_end its_call in
      let right : Number n ≡ Number (length (stored events_then) + 1) = answers_right code base.capacity w.seen ends.history events_then [] last seen_is in
      let counted : n ≡ length (stored events_then) + 1 = cc in
      let same : stored w.seen ≡ stored events_then = ap stored seen_is ∙ (flat_map-append stores events_then (last ∷ []) ∙ append-nil (stored events_then)) in
      record { by = party_now; mine = ends.mine; called = its_call; count = counted ∙ ap (λ zs. length zs + 1) (sym same) }

  -- a look at the version takes no role, and gives none back
  pub seen_version_moves : {n : ℕ} {m : Unit {0}} → Ends code kinds.Atomic looks_at_version base n m w → Moved 0 0 base.made w.made
  seen_version_moves ends = none_moved (seen_version ends).called refl refl

  -- ---- stores

  module _ (x : T) where
    -- A store that answers true is a call of the history that acted once.
    stored_so : (m : Unit {0}) → (ends : Ends code kinds.Atomic (stores_value code x) base true m w)
        → Called ends.party (Atomic (Store x)) (Truth true) (act x ends.party ∷ []) base w
    stored_so m ends = grind (arith, called, stores_value)

    -- a store that answers true stored its value right after all that was seen to be stored, and nobody stored after it
    has_stored : (m : Unit {0}) → Ends code kinds.Atomic (stores_value code x) base true m w → HasStored x base w
    has_stored m ends =
        let party_now = ends.party in
        let c = stored_so m ends in
        let wrote_first = first_wrote party_now (Atomic (Store x)) (Truth true) (act x party_now) [] base w c in
        let all = producers ends.history in
        let right = grants ends.history in
        let holds : holder_of wrote_first.before ≡ Some party_now = all wrote_first.before wrote_first.after (act x party_now) wrote_first.is in
        record {
          by = party_now;
          mine = ends.mine;
          called = c;
          before = wrote_first.before;
          after = wrote_first.after;
          is = wrote_first.is;
          since = wrote_first.since;
          next = none_since value_role one_holder wrote_first all holds;
          list = listed value_role one_holder wrote_first all holds right refl ((refl, refl), tt);
        }

    -- A store that answers true has stored its value.
    pub stored_if : {e : Bool} {m : Unit {0}} → Over code kinds.Atomic (stores_value code x) base e m w → e ≡ true → HasStored x base w
    stored_if {e} {m} (inl ends) is = has_stored m (subst (λ b. Ends code kinds.Atomic (stores_value code x) base b m w) is ends)
    stored_if {e} {m} (inr left) is = (let no : false ≡ true = sym left.left ∙ is in absurd (cc))

    -- A store that answers false was left out, as the last version was reached.
    pub at_end_if : base.other ≡ [] → 0 < base.share.part → HasProducer base.made → {e : Bool} {m : Unit {0}}
        → Over code kinds.Atomic (stores_value code x) base e m w → e ≡ false → WasAtEnd base w
    at_end_if other_is_empty part_positive producer {e} {m} over not_ended = grind (arith, ends_at, slice_index, length, stored, version_is_count, looked_alone)

  -- ---- how many operations they took

  -- a call that has ended took no more operations than the model says of it
  pub takes_here : {C M E : Type 0} {call : Calling T C M E} {e : E} {m : M} → Ends code kinds.Atomic call base e m w
      → AllowsOne (guarantee_of kinds.Atomic 1 code.size call.start) → TakesBy code kinds.Atomic 1 (guarantee_of kinds.Atomic 1 code.size call.start) base w
  takes_here {C} {M} {E} {call} {e} {m} ends least =
      subst (λ n. AllowsOne (guarantee_of kinds.Atomic n code.size call.start)
      → TakesBy code kinds.Atomic n (guarantee_of kinds.Atomic n code.size call.start) base w) one
      (λ some. takes code kinds.Atomic call base w e m idle (value_pays code base.capacity) some ends) least

  -- A store takes at most two operations and one for each word of the value.
  pub store_takes : {x : T} {e : Bool} {m : Unit {0}} → Over code kinds.Atomic (stores_value code x) base e m w → TakesAtMost (2 + code.size) base w
  store_takes (inl ends) = takes_here ends (omega arith)
  store_takes {x} {e} {m} (inr left) = left_takes code kinds.Atomic (stores_value code x) base w e m (2 + code.size) (omega arith) left

  -- ---- loads

  module _ {R : Type 0} (words_in : R → List ℕ) (some : 0 < length (stored base.seen)) where
    -- A load that has ended is a call of the history that acted once, with the value in its room.
    loaded_so : {e : Unit {0}} {m : R} (ends : Ends code kinds.Atomic (loads_value code words_in) base e m w)
        → Called ends.party (Atomic Load) (Loaded (value_of_room code words_in m))
        (Acted ends.party (Atomic Load) (Loaded (value_of_room code words_in m)) ∷ []) base w
    loaded_so {e} {m} ends = grind (arith, called, loads_value)

    -- a load that has ended answered the value that was the last one stored at one moment of the call
    pub has_loaded : {e : Unit {0}} {m : R} → Ends code kinds.Atomic (loads_value code words_in) base e m w → HasLoaded (value_of_room code words_in m) base w
    has_loaded {e} {m} ends =
        let party_now = ends.party in
        let x = value_of_room code words_in m in
        let c = loaded_so ends in
        let wrote_first = first_wrote party_now (Atomic Load) (Loaded x) (Acted party_now (Atomic Load) (Loaded x)) [] base w c in
        let first : T = code.value_of (replicate code.size 0) in
        -- By the laws the answer is the last value that had been stored when the load acted.
        let is : x ≡ last_or first (stored wrote_first.before) =
        load_tells code base.capacity w.seen ends.history party_now x wrote_first.before wrote_first.after wrote_first.is in
        -- A value had been stored then, since one had been when the load began.
        let whole : length (stored wrote_first.before) ≡ length (stored base.seen ++ stored wrote_first.since.rest) =
        ap (λ es. length (stored es)) wrote_first.since.is ∙ ap length (flat_map-append stores base.seen wrote_first.since.rest) in
        let long = length-append (stored base.seen) (stored wrote_first.since.rest) in
        let last = last_is first (stored wrote_first.before) (omega arith) in
        record {
          by = party_now;
          mine = ends.mine;
          called = c;
          before = wrote_first.before;
          after = wrote_first.after;
          is = wrote_first.is;
          since = wrote_first.since;
          last = subst (λ y. IsLast y (stored wrote_first.before)) (sym is) last;
        }

-- The laws of versions: no version is stored twice, equal versions have equal values, and
-- each history is sound.
use Rattle.std.proofs.Common.{◌≡◌, ℕ, ◌+◌, ◌<◌, ◌≤◌, List, [], ◌∷◌, ◌++◌, length, replicate, true, refl, sym, ap}
use Rattle.std.proofs.Common.{subst, ◌∙◌, append-nil, append_assoc, length-append, sum_by, arith}
use Rattle.lock_free_value.proofs.Names.{flat_map-append, sum_by-append, Truth, Loaded, Event, Acted, Atomic, Coding}
use Rattle.lock_free_value.proofs.Names.{GrantsRight, stores, stored, View, IsBeginning, IsHistory, last_or, IsLast}
use Rattle.lock_free_value.proofs.Names.{IsAll}
use Rattle.model.specs.declared.families.atomic.AtomicStart.TheVariants.{Store, Load}
use Rattle.model.specs.declared.turn.Kind.TheVariants as kinds
use Rattle.model.specs.Reading.{Each}
use Rattle.history.proofs.Known.{sum_first}
use Rattle.lock_free_value.specs.Calls.{MissesNothing}
use Rattle.history.proofs.Ranks.{same_place, hits_split, before_low, hits_grow}
use Rattle.history_value.proofs.ValueHolders.{history_by_producers}
use Rattle.history_value.proofs.ValueLaws.{answers_right, load_tells}
use Rattle.history_value.proofs.Values.{value_goes_on}
use Rattle.lock_free_value.specs.ValueContracts.{HasStored, HasLoaded, HasSeenVersion}
use Rattle.lock_free_value.specs.Versions.{IsStored, IsLoaded, IsSound}

-- two beginnings of one list that are equally long are equal
same_part : {A : Type 0} (xs ys cs ds : List A) → xs ++ cs ≡ ys ++ ds → length xs ≡ length ys → xs ≡ ys
same_part [] [] cs ds e long = refl
same_part [] (y ∷ ys) cs ds e long = absurd (omega arith)
same_part (x ∷ xs) [] cs ds e long = absurd (omega arith)
same_part (x ∷ xs) (y ∷ ys) cs ds e long =
    let first : x ≡ y = cc in
    let rest : xs ++ cs ≡ ys ++ ds = cc in
    ap (λ z. z ∷ xs) first ∙ ap (λ zs. y ∷ zs) (same_part xs ys cs ds rest (omega arith))

-- The last element of a list with x at its end is x.
last_one : {A : Type 0} (first x : A) (xs : List A) → last_or first (xs ++ x ∷ []) ≡ x
last_one first x [] = refl
last_one first x (y ∷ ys) = last_one y x ys

-- A list of length 0 is empty.
none_left : {A : Type 0} (xs : List A) → length xs ≡ 0 → xs ≡ []
none_left [] length_is_zero = refl
none_left (x ∷ xs) length_is_zero = absurd (omega arith)

module _ {T : Type 0} where
  -- one party at most stored a version, and one value
  pub stored_once : (p q v : ℕ) (x y : T) (events : List (Event T)) → IsStored p v x events → IsStored q v y events → (p ≡ q) × (x ≡ y)
  stored_once p q v x y events first_stored second_stored =
      let ra = first_stored.rank in
      let rb = second_stored.rank in
      let same : ◌≡◌ {A = Event T} (Acted p (Atomic (Store x)) (Truth true)) (Acted q (Atomic (Store y)) (Truth true)) =
      same_place stores first_stored.before second_stored.before first_stored.after second_stored.after (Acted p (Atomic (Store x)) (Truth true))
      (Acted q (Atomic (Store y)) (Truth true)) x y refl refl (sym first_stored.is ∙ second_stored.is) (omega arith) in
      (let l : p ≡ q = cc in l, let r : x ≡ y = cc in r)

  -- p and q are parties, v is a version, x and y are values
  module _ (code : Coding T) (p q v : ℕ) (x y : T) (events : List (Event T)) (h : IsHistory code kinds.Atomic 1 events) where
    -- The value whose words are zeros.
    abbrev zeros : T
    zeros = code.value_of (replicate code.size 0)

    -- a load tells the value of the store at its version
    pub stored_loaded : IsStored p v x events → IsLoaded q v y events → x ≡ y
    stored_loaded is_stored loaded =
        let ra = is_stored.rank in
        let rb = loaded.rank in
        let told : y ≡ last_or zeros (stored loaded.before) = load_tells code 1 events h q y loaded.before loaded.after loaded.is in
        let one =
        hits_split stores events is_stored.before is_stored.after (Acted p (Atomic (Store x)) (Truth true)) is_stored.is
        ∙ sym (append_assoc (stored is_stored.before) (x ∷ []) (stored is_stored.after)) in
        let two = hits_split stores events loaded.before loaded.after (Acted q (Atomic Load) (Loaded y)) loaded.is in
        let long = length-append (stored is_stored.before) (x ∷ []) in
        let same : stored is_stored.before ++ x ∷ [] ≡ stored loaded.before =
        same_part (stored is_stored.before ++ x ∷ []) (stored loaded.before) (stored is_stored.after) (stored loaded.after) (sym one ∙ two) (omega arith) in
        sym (told ∙ (ap (last_or zeros) (sym same) ∙ last_one zeros x (stored is_stored.before)))

    -- two loads at one version answered the same value
    pub loaded_loaded : IsLoaded p v x events → IsLoaded q v y events → x ≡ y
    loaded_loaded first_loaded second_loaded =
        let ra = first_loaded.rank in
        let rb = second_loaded.rank in
        let one = hits_split stores events first_loaded.before first_loaded.after (Acted p (Atomic Load) (Loaded x)) first_loaded.is in
        let two = hits_split stores events second_loaded.before second_loaded.after (Acted q (Atomic Load) (Loaded y)) second_loaded.is in
        let same : stored first_loaded.before ≡ stored second_loaded.before =
        same_part (stored first_loaded.before) (stored second_loaded.before) (stored first_loaded.after)
        (stored second_loaded.after) (sym one ∙ two) (omega arith) in
        load_tells code 1 events h p x first_loaded.before first_loaded.after first_loaded.is
        ∙ (ap (last_or zeros) same ∙ sym (load_tells code 1 events h q y second_loaded.before second_loaded.after second_loaded.is))

  -- each history of a value is sound: its answers are right, and only the role's holder stores
  pub sound_history : (code : Coding T) (events : List (Event T)) → IsHistory code kinds.Atomic 1 events → IsSound code events
  sound_history code events history =
      record {
        answers = answers_right code 1 events history;
        roles = subst (Each GrantsRight) (sym history.is) (value_goes_on code 1 history.trace history.run).roles;
        producers = history_by_producers code 1 events history;
      }

  -- ---- what stands in a beginning stands in the whole

  -- What was stored at a version in a beginning of a history was stored there in the whole history.
  pub still_stored : (p v : ℕ) (x : T) (old new : List (Event T)) → IsBeginning old new → IsStored p v x old → IsStored p v x new
  still_stored p v x old new beginning is_stored = grind (arith, append_assoc)

  -- What was loaded at a version in a beginning of a history was loaded there in the whole history.
  pub still_loaded : (p v : ℕ) (x : T) (old new : List (Event T)) → IsBeginning old new → IsLoaded p v x old → IsLoaded p v x new
  still_loaded p v x old new beginning loaded = grind (arith, append_assoc)

  -- ---- versions that were known

  -- The version of a store is at most one more than the number of stores.
  known_stored : (q v : ℕ) (y : T) (old : List (Event T)) → IsStored q v y old → v ≤ length (stored old) + 1
  known_stored q v y old is_stored =
      omega (arith, before_low stores old is_stored.before is_stored.after (Acted q (Atomic (Store y)) (Truth true)) is_stored.is, is_stored.rank)

  -- The version of a load is at most one more than the number of stores.
  known_loaded : (q v : ℕ) (y : T) (old : List (Event T)) → IsLoaded q v y old → v ≤ length (stored old) + 1
  known_loaded q v y old loaded =
      omega (arith, before_low stores old loaded.before loaded.after (Acted q (Atomic Load) (Loaded y)) loaded.is, loaded.rank)

  -- a store has the version that follows all those that were known, of stores and of loads
  pub stored_above : (x : T) (old new : View T) → (h : HasStored x old new)
      → IsStored h.by (length (stored old.seen) + 2) x new.seen
      × ((q v : ℕ) (y : T) → IsStored q v y old.seen → v < length (stored old.seen) + 2)
      × ((q v : ℕ) (y : T) → IsLoaded q v y old.seen → v < length (stored old.seen) + 2)
  stored_above x old new h = (
    record { before = h.before; after = h.after; is = h.is; rank = ap (λ xs. length xs + 2) (sym h.next) },
    λ q v y a. (omega (arith, known_stored q v y old.seen a)),
    λ q v y a. (omega (arith, known_loaded q v y old.seen a)),
  )

  -- a load has a version that is at least each of those that were known, of stores and of loads
  pub loaded_above : (x : T) (old new : View T) → (h : HasLoaded x old new)
      → IsLoaded h.by (length (stored h.before) + 1) x new.seen
      × ((q v : ℕ) (y : T) → IsStored q v y old.seen → v ≤ length (stored h.before) + 1)
      × ((q v : ℕ) (y : T) → IsLoaded q v y old.seen → v ≤ length (stored h.before) + 1)
  loaded_above x old new h =
      let more = hits_grow stores old.seen h.before h.since in (
        record { before = h.before; after = h.after; is = h.is; rank = refl },
        λ q v y a. (omega (arith, known_stored q v y old.seen a)),
        λ q v y a. (omega (arith, known_loaded q v y old.seen a)),
      )

  -- equal versions count the same stores
  pub equal_tell : (v : ℕ) (a b c d : View T) → HasSeenVersion v a b → HasSeenVersion v c d → IsBeginning b.seen d.seen
      → stored d.seen ≡ stored b.seen
  equal_tell v a b c d first later beginning =
      let one = first.count in
      let two = later.count in
      let since : stored d.seen ≡ stored b.seen ++ stored beginning.rest = ap stored beginning.is ∙ flat_map-append stores b.seen beginning.rest in
      let long = ap length since in
      let more = length-append (stored b.seen) (stored beginning.rest) in
      let none : stored beginning.rest ≡ [] = none_left (stored beginning.rest) (omega arith) in
      since ∙ (ap (λ zs. stored b.seen ++ zs) none ∙ append-nil (stored b.seen))

  -- ---- who has the whole share

  -- the number of stores that events count is the number of values that were stored
  pub count_is : (events : List (Event T)) → sum_by (λ e. length (stores e)) events ≡ length (stored events)
  count_is [] = refl
  count_is (e ∷ es) = omega (arith, sum_first (λ e. length (stores e)) e es, count_is es, length-append (stores e) (stored es))

  -- with the whole share, a load answers the last value that was seen to be stored
  pub newest : (x : T) (old new : View T) → HasLoaded x old new → IsAll old.share → IsAll new.share
      → MissesNothing old → MissesNothing new → IsLast x (stored old.seen)
  newest x old new loaded was is all_old all_new =
      let f : Event T → ℕ = λ e. length (stores e) in
      let made : sum_by f new.made ≡ sum_by f old.made + 0 = ap (sum_by f) loaded.called.made ∙ sum_by-append f old.made _ in
      let a = all_old was f in
      let b = all_new is f in
      let c = count_is old.seen in
      let d = count_is new.seen in
      let low = before_low stores new.seen loaded.before loaded.after (Acted loaded.by (Atomic Load) (Loaded x)) loaded.is in
      let since : stored loaded.before ≡ stored old.seen ++ stored loaded.since.rest =
      ap stored loaded.since.is ∙ flat_map-append stores old.seen loaded.since.rest in
      let long = ap length since in
      let more = length-append (stored old.seen) (stored loaded.since.rest) in
      let none : stored loaded.since.rest ≡ [] = none_left (stored loaded.since.rest) (omega arith) in
      let same : stored loaded.before ≡ stored old.seen = since ∙ (ap (λ zs. stored old.seen ++ zs) none ∙ append-nil (stored old.seen)) in
      subst (IsLast x) same loaded.last

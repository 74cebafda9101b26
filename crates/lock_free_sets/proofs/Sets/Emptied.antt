-- What one step of the call that empties a set adds to what it has made, for either kind.
use Rattle.lock_free_sets.proofs.Names.{◌≡◌, inl, ℕ, ◌+◌, ◌<◌, ◌≤◌, Some, None, List, [], ◌∷◌, ◌++◌, refl, sym, ap, subst}
use Rattle.lock_free_sets.proofs.Names.{◌∙◌, arith, After, Emptying, OneWord, Event, Begun, Finished, Start, Bits, ResetAll}
use Rattle.lock_free_sets.proofs.Names.{one_word, opening_of, first_of, fresh, View, IsHistory, At, Ends, called}
use Rattle.std.proofs.Common.{inr}
use Rattle.steps.specs.Bits.ResetAll.{reset_all_after, reset_all_kept}
use Rattle.steps.specs.declared.ask.After.TheVariants.{GoOn, Done}
use Rattle.model.specs.declared.event.Answer.TheVariants as answers
use Rattle.threaded.specs.Driver.{Next}
use Rattle.history.specs.Stages.{IsUnderWay, Since}
use Rattle.history.proofs.Drives.{at_itself}
use Rattle.history.proofs.Made.{MadeSoFar, made_with, made_more, same_between}
use Rattle.lock_free_sets.specs.Driven.{HasMade, HasDone, IsIdle}
use Rattle.lock_free_sets.specs.Sets.Kinds.{SetKind, Flags, Counts, machine_kind, first_word, words_of}
use Rattle.lock_free_sets.specs.Sets.Stages.{all_words, flight_word, word_of, flight_at, emptied, empties}
use Rattle.lock_free_sets.proofs.Ends.{done, made_by}
use Rattle.lock_free_sets.proofs.Sets.Emptying.{goes_next, ends_last, begins, first_at}

-- The begin of a call that empties a set.
abbrev pub emptying : Start ℕ
emptying = Bits ResetAll

-- The flight stands at the word of the call.
has_word : (kind : SetKind) (c : Emptying) (m : OneWord) → flight_word (flight_at {T = ℕ} kind c m) ≡ c.word
has_word Flags c m = refl
has_word Counts c m = refl

-- The call begins at the first word that has places.
word_at_first : (kind : SetKind) (n : ℕ) → (all_words kind n).word ≡ first_word kind
word_at_first Flags n = refl
word_at_first Counts n = refl

-- the call that empties a set begins at the set's first word
begins_at : (kind : SetKind) (n : ℕ) (c : Emptying) (m : OneWord)
    → first_of (machine_kind kind) n emptying ((opening_of (machine_kind kind)).kept n) ≡ Some (flight_at kind c m) → c.word ≡ first_word kind
begins_at kind n c m first_of_is = grind (arith, flight_at, all_words, fresh, begins, has_word, flight_word, word_at_first)

-- the call that empties a set of this capacity stands at c in the view v, and has written just `wrote`
-- since it began at `base`
pub record WroteSoFar (kind : SetKind) (cap : ℕ) (wrote : ℕ → List (Event ℕ)) (base v : View ℕ) (c : Emptying) (m : OneWord) : Type 0 where
  pub at : At one_word (machine_kind kind) (empties kind) base v c m
  pub size : base.capacity ≡ cap
  pub idle : base.going ≡ None
  pub made : MadeSoFar emptying base v wrote

-- what one step wrote, whichever way it went on
pub record Stepped (kind : SetKind) (v w : View ℕ) (word : ℕ) (room : OneWord) : Type 0 where
  pub party : ℕ
  pub es : List (Event ℕ)
  pub last : List (Event ℕ)
  pub since : Since party emptying es last v w
  pub is : es ≡ emptied kind party word room.0
  pub history : IsHistory one_word (machine_kind kind) v.capacity w.seen

module _ (kind : SetKind) where
  -- the call that empties a set stands at a word; `EndsAll` that it has ended, and `Goes` that it has
  -- gone on or ended
  abbrev pub AtWord : View ℕ → View ℕ → Emptying → OneWord → Type 0
  AtWord = At one_word (machine_kind kind) (empties kind)

  abbrev pub EndsAll : View ℕ → Unit {0} → OneWord → View ℕ → Type 0
  EndsAll = Ends one_word (machine_kind kind) (empties kind)

  abbrev pub Goes : View ℕ → After Emptying (Unit {0}) → OneWord → View ℕ → Type 0
  Goes base a m w = Next (λ (z : View ℕ). z.capacity) AtWord EndsAll base a m w

  -- A call that stands at a word in the view v, as of a base, stands so as of v itself.
  pub itself : (base v : View ℕ) (c : Emptying) (m : OneWord) → AtWord base v c m → AtWord v v c m
  itself base v c m at_word = grind (arith, at_itself, one_word, machine_kind, empties, has_word)

  -- where it stands is its word
  pub word_now : (base v : View ℕ) (c : Emptying) (m : OneWord) → base.going ≡ v.going → AtWord base v c m → word_of (first_word kind) v.going ≡ c.word
  word_now base v c m same_going at_word = grind (arith, word_of, first_word, begins_at, has_word)

  -- The call ends behind the last word and stands at a word that has places.
  pub stands : (base v : View ℕ) (c : Emptying) (m : OneWord) → AtWord base v c m
      → (c.end ≡ words_of kind base.capacity) × (first_word kind ≤ c.word) × (c.word < c.end)
  stands base v c m (inl now) = now.standing
  stands base v c m (inr under) = under.standing

  -- The call keeps the capacity that the pass knows.
  pub same_capacity : (base v : View ℕ) (c : Emptying) (m : OneWord) → AtWord base v c m → v.capacity ≡ base.capacity
  same_capacity base v c m at_word = grind arith

  -- One step of the call, which stood at c in the view v with room m: it found the word n, came to `a` with
  -- this room, and w is what the pass knows after it.
  pub record TookStep (v w : View ℕ) (c : Emptying) (m room : OneWord) (a : After Emptying (Unit {0})) : Type 0 where
    pub n : ℕ
    pub goes_so : reset_all_after c n ≡ a
    pub told : (b : View ℕ) → AtWord b v c m → Goes b a room w

  -- what the driver of a seat tells of a step of the call is what `TookStep` says of it
  pub took : {v w : View ℕ} {c : Emptying} {m room : OneWord} {a : After Emptying (Unit {0})}
      → (n : ℕ) × (a ≡ reset_all_after c n) × (room ≡ reset_all_kept m n) → ((b : View ℕ) → AtWord b v c m → Goes b a room w) → TookStep v w c m room a
  took taken told = record { n = taken.0; goes_so = sym taken.1; told = told }

  -- A step that goes on from the call's word leads to the next word, where the call is under way.
  pub under_next : {base v w : View ℕ} {c next : Emptying} {m room : OneWord} (n : ℕ) → AtWord base v c m → reset_all_after c n ≡ GoOn next
      → AtWord v w next room → IsUnderWay one_word (machine_kind kind) (empties kind) v w next room
  under_next {base} {v} {w} {c} {next} {m} {room} n at e (inl now) =
      let none = begins_at kind v.capacity next room now.first in
      let low = (stands base v c m at).1 in
      let further : next.word ≡ c.word + 1 = ap (λ (z : Emptying). z.word) (goes_next c n next e).0 in
      absurd (omega arith)
  under_next n at e (inr under) = under

  -- a step with which the call goes on has written what emptying the call's word writes
  pub next_wrote : {base v w : View ℕ} {c next : Emptying} {m room : OneWord} (n : ℕ) → AtWord base v c m → reset_all_after c n ≡ GoOn next
      → (under : IsUnderWay one_word (machine_kind kind) (empties kind) v w next room) → under.wrote ≡ emptied kind under.party c.word room.0
  next_wrote {base} {v} {w} {c} {next} {m} {room} n at e under =
      let from : word_of (first_word kind) v.going ≡ c.word = word_now v v c m refl (itself base v c m at) in
      let word : next.word ≡ c.word + 1 = ap (λ (z : Emptying). z.word) (goes_next c n next e).0 in
      under.tells.2 (word ∙ ap (λ z. z + 1) (sym from)) ∙ ap (λ z. emptied kind under.party z room.0) from

  -- the last step of the call has written what emptying the call's word writes
  pub last_wrote : {base v w : View ℕ} {c : Emptying} {m room : OneWord} {end : Unit {0}} (n : ℕ) → AtWord base v c m
      → reset_all_after c n ≡ Done end → (here : EndsAll v end room w) → here.wrote ≡ emptied kind here.party c.word room.0
  last_wrote {base} {v} {w} {c} {m} {room} {end} n at e here =
      let mine = itself base v c m at in
      let from : word_of (first_word kind) v.going ≡ c.word = word_now v v c m refl mine in
      let far = ends_last c n end e in
      let st = stands v v c m mine in
      let last : word_of (first_word kind) v.going + 1 ≡ words_of kind v.capacity = (let w = from in let i = st.2 in let e = st.0 in omega arith) in
      here.tells last ∙ ap (λ z. emptied kind here.party z room.0) from

  -- a step of the call on a word has written what emptying this word writes, and the pass knows the
  -- history up to it
  pub stepped : {base v w : View ℕ} {c : Emptying} {m room : OneWord} (n : ℕ)
      → AtWord base v c m → (a : After Emptying (Unit {0})) → reset_all_after c n ≡ a
      → ((b : View ℕ) → AtWord b v c m → Goes b a room w) → Stepped kind v w c.word room
  stepped {base} {v} {w} {c} {m} {room} n at (GoOn next) e told =
      let under = under_next n at e (told v (itself base v c m at)) in
      record { party = under.party; es = under.wrote; last = []; since = under.since; is = next_wrote n at e under; history = under.history }
  -- the case that the step was the last one: the call has ended, too
  stepped {base} {v} {w} {c} {m} {room} n at (Done end) e told =
      let here = told v (itself base v c m at) in
      record {
        party = here.party;
        es = here.wrote;
        last = Finished here.party emptying answers.Done ∷ [];
        since = here.since;
        is = last_wrote n at e here;
        history = here.history;
      }

  -- A call that is about to begin has written nothing so far.
  pub first_wrote : (cap : ℕ) (v : View ℕ) → IsIdle cap v → 0 < cap → WroteSoFar kind cap (λ p. []) v v (all_words kind cap) fresh
  first_wrote cap v is_idle cap_positive = grind (arith, all_words, fresh, first_at)

  -- the call began at base and stands at c at v with room m
  module _ {cap : ℕ} {wrote : ℕ → List (Event ℕ)} {base v : View ℕ} {c : Emptying} {m : OneWord} (h : WroteSoFar kind cap wrote base v c m) where
    -- The call stands at a word that has places, and ends behind the last word.
    pub words_left : (c.end ≡ words_of kind cap) × (first_word kind ≤ c.word) × (c.word < c.end)
    words_left = grind (arith, words_of, first_word, stands)

    -- its step came to `a`, with this room, and w is what the pass knows then
    module _ {w : View ℕ} {room : OneWord} {a : After Emptying (Unit {0})} (step : TookStep v w c m room a) where
      -- What emptying this word writes.
      abbrev more : ℕ → List (Event ℕ)
      more p = emptied kind p c.word room.0

      -- where the call goes on to the next word, it has written what it had, and what emptying
      -- this word wrote
      pub wrote_on : {next : Emptying} → a ≡ GoOn next → WroteSoFar kind cap (λ p. wrote p ++ emptied kind p c.word room.0) base w next room
      wrote_on {next} is =
          let told : (b : View ℕ) → AtWord b v c m → AtWord b w next room = λ b at. subst (λ z. Goes b z room w) is (step.told b at) in
          let under = under_next step.n h.at (step.goes_so ∙ is) (told v (itself base v c m h.at)) in
          record {
            at = told base h.at;
            size = h.size;
            idle = h.idle;
            made =
                made_more emptying base v w wrote more under.wrote under.party (flight_at kind next room) h.idle h.made under.same under.mine under.going
                under.since (next_wrote step.n h.at (step.goes_so ∙ is) under);
          }

      -- The step at the last word ends the call, which wrote what was written before, and what the
      -- emptying of that word wrote.
      pub ends_all : a ≡ Done tt → (ends : EndsAll base tt room w) × (ends.wrote ≡ wrote ends.party ++ emptied kind ends.party c.word room.0)
      ends_all is =
          let told : (b : View ℕ) → AtWord b v c m → EndsAll b tt room w = λ b at. subst (λ z. Goes b z room w) is (step.told b at) in
          let here = told v (itself base v c m h.at) in
          let all = told base h.at in
          let is = last_wrote step.n h.at (step.goes_so ∙ is) here in
          let same : here.party ≡ all.party = (let both : Some here.party ≡ Some all.party = sym here.mine ∙ all.mine in cc) in
          -- What the pass made is its begin, what was written before, what this step wrote, and its end.
          let one : w.made ≡ base.made ++ Begun here.party emptying ∷ ((wrote here.party ++ more here.party) ++ Finished here.party emptying answers.Done ∷ [])
          =
          made_with emptying base v w wrote more (Finished here.party emptying answers.Done ∷ []) here.wrote here.party h.idle h.made here.same here.since is
          in
          let mine_all = called one_word (machine_kind kind) (empties kind) base w tt room h.idle all in
          let two : w.made ≡ base.made ++ Begun all.party emptying ∷ ((wrote all.party ++ more all.party) ++ Finished all.party emptying answers.Done ∷ []) =
          subst (λ p. w.made ≡ base.made ++ Begun p emptying ∷ ((wrote p ++ more p) ++ Finished p emptying answers.Done ∷ [])) same one
          in (
            all,
            same_between base.made all.wrote (wrote all.party ++ more all.party) (Begun all.party emptying)
                (Finished all.party emptying answers.Done) (sym mine_all.made ∙ two),
          )

      -- where the call ends, it wrote what it had, and what emptying the last word wrote
      pub wrote_all : a ≡ Done tt
          → HasMade emptying answers.Done (λ p. wrote p ++ emptied kind p c.word room.0) base w × HasDone (machine_kind kind) base w
      wrote_all is =
          let all = ends_all is in (
            made_by all.0 h.idle (λ p. wrote p ++ emptied kind p c.word room.0) all.1,
            done all.0 (λ o p h. h),
          )

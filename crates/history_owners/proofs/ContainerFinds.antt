-- That a find on a container is a call of the model, which may rest at its question.
use Rattle.history.proofs.Names.{Bool, true, false, if◌then◌else◌, option_map, ◌≡◌, ◌⊎◌, inl, inr, ℕ, ◌+◌, ◌*◌, ◌<◌}
use Rattle.history.proofs.Names.{◌≤◌, ◌==◌, nat_lt, Some, None, List, [], ◌∷◌, ◌++◌, slice_set, append-nil}
use Rattle.history.proofs.Names.{append_assoc, fold, refl, sym, ap, subst, ◌∙◌, arith, mul-le-mul_left, nat_tests}
use Rattle.history.proofs.Names.{map-append, find_asks, find_keeps, first_find, find_want, find_comes_to, find_takes}
use Rattle.history.proofs.Names.{find_after, is_even, total_words, empty, went_on}
use Rattle.steps.specs.declared.ask.Ask.{Ask}
use Rattle.steps.specs.declared.ask.After.{After}
use Rattle.steps.specs.declared.ask.After.TheVariants.{GoOn}
use Rattle.steps.specs.declared.ask.Want.{Want}
use Rattle.history.proofs.Names.{Coding, IsCoding}
use Rattle.steps.specs.declared.container.find.FindStage.{FindStage}
use Rattle.model.specs.declared.event.Answer.{Answer}
use Rattle.model.specs.declared.event.Event.{Event}
use Rattle.model.specs.declared.event.Start.{Start}
use Rattle.model.specs.declared.event.Start.TheVariants.{Container}
use Rattle.model.specs.declared.families.Flight.{Flight}
use Rattle.model.specs.declared.families.Registry.{Registry}
use Rattle.model.specs.declared.families.container.ContainerStart.TheVariants.{Find}
use Rattle.history.proofs.Names.{goes_of, is_question, find_of, find_effects, as_it_is}
use Rattle.history.proofs.Names.{fresh_cell, kept_at, read_in, own_after, Open, as_call, number_of, Owes}
use Rattle.history.proofs.Names.{answered}
use Rattle.steps.specs.declared.ask.After.TheVariants.{Done}
use Rattle.steps.specs.declared.ask.Want.TheVariants as wants
use Rattle.steps.specs.declared.container.find.Find.{Find as Finding}
use Rattle.steps.specs.declared.container.find.FindStage.TheVariants as finds
use Rattle.steps.specs.declared.copied.Buffer as buffers
use Rattle.model.specs.declared.event.Answer.TheVariants as answers
use Rattle.model.specs.declared.event.Event.TheVariants as events
use Rattle.model.specs.declared.families.Flight.TheVariants as flights
use Rattle.model.specs.declared.families.container.calls.ContainerFlight.TheVariants as calls
use Rattle.model.specs.declared.turn.Kind.TheVariants as kinds
use Rattle.threaded.specs.Driver.{Told}
use Rattle.history.specs.declared.view.View.{View}
use Rattle.history_owners.specs.ContainerFind.{FindIn, copies_of, copies_after, find_copies, finds_values}
use Rattle.history.specs.History.{IsMachine}
use Rattle.history.specs.Rooms.{room_of}
use Rattle.history_owners.specs.Settled.{IsResting, RestsAt, EndsAsked}
use Rattle.history.specs.Rooms.{value_of_room}
use Rattle.history.proofs.Beginning.{at_begin}
use Rattle.history.proofs.CallsIn.{goes, AsksFor, StepsOf, Driven, KeepsSo, each_tells, last_tells}
use Rattle.history_owners.proofs.Containers.{plain_effects, container_words, plain_acts}
use Rattle.history_owners.proofs.Containers.{container_starts, container_machines}
use Rattle.history_owners.proofs.Decisions.{AskingCall, IsAskingIn, keeps_said, keeps_word, hears_said, AsksElse}
use Rattle.history.proofs.Rooms.{room_set, room_read}
use Rattle.history_owners.proofs.Written.{same_written}
use Rattle.history.specs.Stages.{Calling, IsUnderWay, Ends, AtAsked}
use Rattle.lemmas.proofs.Cases.{by_bool}

-- a find asks for a word of the container at each stage but its question
find_words : (capacity size : ℕ) (stage : FindStage) → FindIn size capacity stage → is_question (find_asks size capacity stage) ≡ false
    → AsksFor (total_words capacity size) (find_asks size capacity stage)
find_words capacity size (finds.LoadsCell index found) find_in still = (_, omega arith, refl)
find_words capacity size (finds.LoadsCount index found) find_in still = (_, omega arith, refl)
find_words capacity size (finds.LoadsWord index found count at) find_in still = (
  _,
  (
      let row : size * (index + 1) ≤ size * capacity = mul-le-mul_left size (omega arith) in
      omega (arith, find_in.1)),
  refl,
)
find_words capacity size (finds.ChecksCount index found count) h still = (_, omega arith, refl)
find_words capacity size (finds.Asks index found) h still = absurd (cc)

-- R is the room of a value's words: `words_in` are its words, and `with_word` puts one of them
module _ {T R : Type 0} (code : Coding T) (law : IsCoding code) (words_in : R → List ℕ) (with_word : R → ℕ → ℕ → R)
    (put_in : (x : R) (at word : ℕ) → words_in (with_word x at word) ≡ slice_set (words_in x) at word) (owner : ℕ) where
  -- the words that the find copies into, and the values that it has copied, for the proofs alone
  abbrev Room : Type 0
  Room = R × List (ℕ × T)

  -- the find, as a call of the model
  abbrev finding : Calling T (Finding T R) Room ℕ
  finding = finds_values code words_in owner

  -- the words of the room, as the model has them
  abbrev room : R → buffers.Buffer 128
  room m = room_of code.size (words_in m)

  abbrev want : Finding T R → Want (Unit {0})
  want c = find_want code.size c

  abbrev after : Finding T R → ℕ → After (Finding T R) ℕ
  after c n = find_after code.size c owner n

  abbrev kept : Finding T R → Room → ℕ → Room
  kept = find_copies code words_in with_word

  -- the model's find at this stage
  abbrev call_at : ℕ → FindStage → Finding T (buffers.Buffer 128)
  call_at capacity stage = record { capacity = capacity; stage = stage; of = record {} }

  -- how a find of the model goes on, as a call of the model's families
  abbrev as_model : buffers.Buffer 128 → After (Finding T (buffers.Buffer 128)) ℕ → After (Flight T) (Answer T)
  as_model x r = as_call flights.Container (λ (answer : Answer T). answer) (as_call calls.Find answers.Number (went_on as_it_is owner x r))

  -- a word that is put to its place in the room is put there in the model's room too
  put_there : (m : R) (at n : ℕ) → at < code.size → kept_at (room m) at n ≡ room (with_word m at n)
  put_there m at n below = grind (arith, room_set, room_of)

  -- a find that comes to an index, or behind the last one, is the model's find there
  comes_alike : (c : Finding T R) (m : Room) (stage : FindStage) (index found : ℕ)
      → as_model (room m.0) (find_comes_to (call_at c.capacity stage) index found) ≡ goes finding (find_comes_to c index found) m
  comes_alike = grind arith

  -- the find of the model goes on as that of the driver does
  goes_alike : (c : Finding T R) (m : Room) (n : ℕ) (stage : FindStage) → FindIn code.size c.capacity stage
      → as_model (find_keeps kept_at stage (room m.0) n) (find_takes code.size (call_at c.capacity stage) stage owner n)
      ≡ goes finding (find_takes code.size c stage owner n) (find_keeps with_word stage m.0 n, m.1)
  -- the cell has the owner, or the find goes on to the next index
  goes_alike c m n (finds.LoadsCell index found) find_in =
      by_bool (n == owner)
      (λ t. rw t refl)
      (λ t. rw t (comes_alike c m (finds.LoadsCell index found) (index + 1) found))
  -- something stands at the index, or the find goes on to the next index
  goes_alike c m n (finds.LoadsCount index found) find_in =
      by_bool (is_even n)
      (λ t. rw t (comes_alike c m (finds.LoadsCount index found) (index + 1) found))
      (λ t. rw t refl)
  -- the word goes to its place in the room, and the find goes on to the next word, or to the check
  goes_alike c m n (finds.LoadsWord index found count at) find_in =
      by_bool (nat_lt (at + 1) code.size)
      (λ t. rw t (ap (λ x. as_model x (GoOn (call_at c.capacity (finds.LoadsWord index found count (at + 1))))) (put_there m.0 at n find_in.1)))
      (λ t. rw t (ap (λ x. as_model x (GoOn (call_at c.capacity (finds.ChecksCount index found count)))) (put_there m.0 at n find_in.1)))
  -- the element's number is what it was, or the find goes on to the next index
  goes_alike c m n (finds.ChecksCount index found count) find_in =
      by_bool (n == count)
      (λ t. rw t refl)
      (λ t. rw t (comes_alike c m (finds.ChecksCount index found count) (index + 1) found))
  -- the answer no ends the find, the answer yes leads to the next index
  goes_alike c m n (finds.Asks index found) find_in =
      by_bool (n == 0)
      (λ t. rw t refl)
      (λ t. rw t (comes_alike c m (finds.Asks index found) (index + 1) found))

  -- ---- what a find has written

  -- what a find has written after a step is what it has copied
  copies_so : (p : ℕ) (m : Room) (stage : FindStage) (n : ℕ) (es : List (Event T)) → es ≡ copies_of p m.1
      → es ++ find_effects p (read_in code (room m.0)) stage n ≡ copies_of p (copies_after stage n (value_of_room code words_in m.0) m.1)
  copies_so p m (finds.LoadsCell index found) n es es_is = append-nil es ∙ es_is
  copies_so p m (finds.LoadsCount index found) n es es_is = append-nil es ∙ es_is
  copies_so p m (finds.LoadsWord index found count at) n es es_is = append-nil es ∙ es_is
  copies_so p m (finds.Asks index found) n es es_is = append-nil es ∙ es_is
  copies_so p m (finds.ChecksCount index found count) n es es_is =
      by_bool (n == count)
      (λ t.
      let value : read_in code (room m.0) ≡ value_of_room code words_in m.0 = room_read code (words_in m.0) in
      rw t (ap (λ x. es ++ events.Copied p index x ∷ []) value
      ∙ (ap (λ zs. zs ++ events.Copied p index (value_of_room code words_in m.0) ∷ []) es_is
      ∙ sym (map-append (λ (c : ℕ × T). events.Copied p c.0 c.1) m.1 ((index, value_of_room code words_in m.0) ∷ [])))))
      (λ t. rw t (append-nil es ∙ es_is))

  -- ---- a find is a call of the model

  -- what the find has copied after a step
  abbrev copied_then : Finding T R → Room → ℕ → List (ℕ × T)
  copied_then c m n = copies_after c.stage n (value_of_room code words_in m.0) m.1

  -- a find takes of an answered word just that word, and keeps it so too
  find_room : (c : Finding T R) (m : Room) (a : Ask) (n : ℕ) → want c ≡ wants.Ask a
      → (after c (answered a.op n) ≡ after c n) × (kept c m (answered a.op n) ≡ kept c m n)
  find_room = grind arith

  -- what a find has written, with the effects of its step, is what it has copied after the step
  tells_so : (p : ℕ) (c : Finding T R) (m : Room) (n : ℕ) (es : List (Event T)) → es ≡ copies_of p m.1
      → es ++ plain_effects code p (finding.flight c m) n ≡ copies_of p (copied_then c m n)
  tells_so = grind (arith, append-nil, read_in, copies_so)

  -- a find that goes on after a step stands within the container
  stands_then : (capacity : ℕ) (c : Finding T R) (same : c.capacity ≡ capacity) (stage : FindStage) (n : ℕ)
      → FindIn code.size capacity stage → (d : Finding T R)
      → find_takes code.size c stage owner n ≡ GoOn d → (d.capacity ≡ capacity) × FindIn code.size capacity d.stage
  stands_then = grind arith

  -- how the model's find goes on does not depend on the list of copies, which is for the proofs alone
  goes_any : (r : After (Finding T R) ℕ) (x : R) (xs ys : List (ℕ × T)) → goes finding r (x, xs) ≡ goes finding r (x, ys)
  goes_any (GoOn d) x xs ys = refl
  goes_any (Done e) x xs ys = refl

  -- the find, as the driver makes it
  abbrev driven : Driven T (Finding T R) Room ℕ
  driven = record { want = want; after = after; kept = kept; call = finding }

  -- the steps of a find are those of the model's call, up to its question
  find_steps : StepsOf (AsksElse (container_words code) driven) code (plain_effects code) driven
  find_steps =
      record {
        same_want = λ c m. refl;
        same_after = λ capacity c m n h. goes_alike c m n c.stage (subst (λ k. FindIn code.size k c.stage) (sym h.0) h.1)
            ∙ goes_any (after c n) (find_keeps with_word c.stage m.0 n) m.1 (copied_then c m n);
        hears = λ c m a n e. find_room c m a n e;
        stays = λ capacity c d n h e. stands_then capacity c h.0 c.stage n h.1 d e;
        asks = λ capacity c h still. subst (λ k. AsksFor (container_words code capacity) (find_asks code.size k c.stage)) (sym h.0)
            (find_words capacity code.size c.stage h.1 (subst (λ k. is_question (find_asks code.size k c.stage) ≡ false) h.0 still));
        past = λ capacity c d n k h e. refl;
        finds = λ c m n small t. tt;
        leaves = λ c a n t e. absurd (cc);
        tells = each_tells (plain_effects code) driven (λ step d leads new. tells_so step.p step.c step.m step.n step.es (step.wrote new));
        tells_all = last_tells (plain_effects code) driven (λ step end skip leads new. tells_so step.p step.c step.m step.n step.es (step.wrote new));
      }

  -- ---- which find a flight is, and with which room

  -- a find begins at a stage that is no question
  first_so : (capacity : ℕ) (c : Finding T R) (m : Room) (named : Bool)
      → option_map flights.Container (if named then Some (find_of {T = T} capacity owner) else None) ≡ Some (finding.flight c m)
      → is_question (want c) ≡ false
  first_so = grind arith

  -- the find goes on at a stage that is no question, or ends
  abbrev AsksNone : After (Finding T R) ℕ → Type 0
  AsksNone (GoOn d) = is_question (want d) ≡ false
  AsksNone (Done found) = Unit {0}

  -- no question of a find comes right after another
  asks_none : (c : Finding T R) (n : ℕ) (stage : FindStage)
      → is_question (find_asks code.size c.capacity stage) ≡ true → AsksNone (find_takes code.size c stage owner n)
  asks_none = grind arith

  -- the answer to a question changes neither the words in the room nor the list of copies
  asked_room : (c : Finding T R) (m : Room) (n : ℕ) (stage : FindStage) → is_question (find_asks code.size c.capacity stage) ≡ true
      → ◌≡◌ {A = Room} (find_keeps with_word stage m.0 n, copies_after stage n (value_of_room code words_in m.0) m.1) m
  asked_room = grind arith

  -- a find is a call of the model that puts questions
  pub find_call : IsAskingIn code kinds.Container (plain_effects code) (container_words code) driven
  find_call = grind (arith, find_steps, asked_room, first_so, asks_none)

  -- ---- a find may rest at its question

  -- a find is over: it has ended with a step, or it rests at the question whose answer ended it
  abbrev FindOver : View T → ℕ → Room → View T → Type 0
  FindOver = EndsAsked code kinds.Container after kept finding

  -- an answer that ends a find leaves it at rest at its question
  rests_so : (base v : View T) (c : Finding T R) (m : Room) (said : Bool) (e : ℕ) → is_question (want c) ≡ true → after c (number_of said) ≡ Done e
      → IsUnderWay code kinds.Container finding base v c m → FindOver base e (kept c m (number_of said)) v
  rests_so = grind (arith, number_of, asked_room, inr, goes)

  -- a find that has ended with a step is over
  ended_step : (base : View T) (e : ℕ) (m : Room) (w : View T) → Ends code kinds.Container finding base e m w → FindOver base e m w
  ended_step base e m w ends = inl ends

  -- the find, as a call that may put questions, which a drive leaves as `Finished` says
  abbrev asking : (Finished : View T → ℕ → Room → View T → Type 0)
      → ((base : View T) (e : ℕ) (m : Room) (w : View T) → Ends code kinds.Container finding base e m w → Finished base e m w)
      → AskingCall T (Finding T R) Room ℕ
  asking Finished ended =
      record {
        machines = container_machines code;
        decides = tt;
        own = plain_effects code;
        driven = driven;
        acts = plain_acts code finding (λ c m. tt);
        is_call = find_call;
        Finished = Finished;
        ended = ended;
      }

  -- each step of a find keeps the rule of the table
  pub container_find_keeps : KeepsSo code kinds.Container (container_words code) driven (AtAsked code kinds.Container after kept finding) FindOver
  container_find_keeps =
      keeps_said (asking FindOver ended_step) rests_so

  -- a step at a word that ends a find ends its call in the history too, so the call does not rest
  pub container_find_word : (base v : View T) (c : Finding T R) (m : Room) (key words slots id : ℕ) → is_question (want c) ≡ false
      → words ≡ container_words code key + 1 → v.capacity ≡ key → AtAsked code kinds.Container after kept finding base v c m
      → Owes (λ (z : View T). z.asked) (IsMachine code kinds.Container key) words slots id
      (Told (λ (z : View T). z.capacity) (AtAsked code kinds.Container after kept finding) (Ends code kinds.Container finding) after kept c m) (want c) (v, [])
  container_find_word base v c m key words slots id still wide known at_asked =
      keeps_word (asking (Ends code kinds.Container finding) (λ base e m w h. h)) slots id wide known still at_asked

  -- a find that has asked goes on from the answer
  pub container_find_hears : (base v : View T) (c d : Finding T R) (m : Room) (said : Bool) → is_question (want c) ≡ true
      → after c (number_of said) ≡ GoOn d → AtAsked code kinds.Container after kept finding base v c m
      → AtAsked code kinds.Container after kept finding base v d (kept c m (number_of said))
  container_find_hears =
      hears_said (asking FindOver ended_step)

  -- a find begins in a room of zeros in which a value fits
  pub container_find_first : (v : View T) (m : Room) → room m.0 ≡ fresh_cell → m.1 ≡ [] → v.going ≡ None
      → v.other ≡ [] → 0 < v.share.part → 0 < v.capacity → owner < empty
      → AtAsked code kinds.Container after kept finding v v (first_find v.capacity) m
  container_find_first v m zeros none idle alone any some fits =
      let named : nat_lt owner empty ≡ true = grind (arith, nat_tests) in
      let flies : flights.Container (find_of v.capacity owner) ≡ finding.flight (first_find v.capacity) m =
      ap (λ x. flights.Container (calls.Find (record { call = call_at v.capacity (finds.LoadsCell 0 0); given = owner; room = x }))) (sym zeros)
      in
      inl (at_begin idle alone any (refl, some) (rw named (ap Some flies))
      (container_starts (Find owner) refl (λ o p h. h) named flies) (λ p new. ap (copies_of p) (sym none)))

  -- ---- what a pass has seen tells what its find has copied

  -- copies add themselves to the span of an open call
  pub copies_span : (p : ℕ) (start : Start T) (ws : List (Event T)) (xs : List (ℕ × T))
      → fold own_after (Open start ws) (copies_of p xs) ≡ Open start (ws ++ copies_of p xs)
  copies_span p start ws [] = ap (Open start) (sym (append-nil ws))
  copies_span p start ws (x ∷ xs) =
      let event_now : Event T = events.Copied p x.0 x.1 in
      copies_span p start (ws ++ event_now ∷ []) xs ∙ ap (Open start) (append_assoc ws (event_now ∷ []) (copies_of p xs))

  -- equal copies are of equal lists
  one_list : (p : ℕ) (xs ys : List (ℕ × T)) → copies_of p xs ≡ copies_of p ys → xs ≡ ys
  one_list p [] [] copies_are = refl
  one_list p [] (y ∷ ys) copies_are = absurd (cc)
  one_list p (x ∷ xs) [] copies_are = absurd (cc)
  one_list p (x ∷ xs) (y ∷ ys) copies_are =
      let first : ◌≡◌ {A = Event T} (events.Copied p x.0 x.1) (events.Copied p y.0 y.1) = cc in
      let index : x.0 ≡ y.0 = cc in
      let value : x.1 ≡ y.1 = cc in
      let rest : copies_of p xs ≡ copies_of p ys = cc in
      let same = one_list p xs ys rest in
      λ i. (index i, value i) ∷ same i

  -- a find with these copies is under way in the view
  record CopiesUnderWay (base v : View T) (m : Room) : Type 0 where
    stage : Finding T R
    in_room : Room
    same : in_room.1 ≡ m.1
    under : IsUnderWay code kinds.Container finding base v stage in_room

  -- the find has not begun and copied nothing, or a find with these copies is under way in the view
  abbrev HasCopiedThese : View T → View T → Room → Type 0
  HasCopiedThese base v m = ((v.going ≡ None) × (m.1 ≡ [])) ⊎ CopiesUnderWay base v m

  -- a find at any stage, also after an answer, has not begun or is under way with these copies
  stands_at : (base v : View T) (c : Finding T R) (m : Room) → AtAsked code kinds.Container after kept finding base v c m → HasCopiedThese base v m
  stands_at base v c m (inl (inl first)) = inl (ap (λ (z : View T). z.going) first.is ∙ first.idle, sym (one_list 0 [] m.1 (first.wrote 0 refl)))
  stands_at base v c m (inl (inr under)) = inr (record { stage = c; in_room = m; same = refl; under = under })
  stands_at base v c m (inr h) =
      let same = ap (λ (z : Room). z.1) (sym (h.keeps ∙ asked_room h.asking h.room (number_of h.said) h.asking.stage h.asks)) in
      inr (record { stage = h.asking; in_room = h.room; same = same; under = h.before })

  -- two finds at a stage of one view, counted from any views in which they had not begun, have
  -- copied the same values
  pub find_copied : (base other v : View T) (c d : Finding T R) (m k : Room) → base.going ≡ None → other.going ≡ None
      → AtAsked code kinds.Container after kept finding base v c m → AtAsked code kinds.Container after kept finding other v d k → m.1 ≡ k.1
  find_copied base other v c d m k idle still at_asked there = go (stands_at base v c m at_asked) (stands_at other v d k there)
    where
      -- the start of the find
      start : Start T
      start = Container (Find owner)

      -- what a find writes ends no call, so its span is still open
      long : (x : View T) (e : Finding T R) (r : Room) → x.going ≡ None → (under : IsUnderWay code kinds.Container finding x v e r)
          → fold own_after (Open start []) under.wrote ≡ Open start under.wrote
      long = grind (arith, fold, start, copies_span)

      -- both have not begun, or both are under way: then their copies are the events of
      -- one call, and one list
      go : HasCopiedThese base v m → HasCopiedThese other v k → m.1 ≡ k.1
      go (inl x) (inl y) = x.1 ∙ sym y.1
      go (inl x) (inr y) = grind (arith, start)
      go (inr x) (inl y) = grind (arith, start)
      go (inr x) (inr y) =
          let first = x.under in
          let second = y.under in
          let same = same_written code kinds.Container finding idle still first second
          (long base x.stage x.in_room idle first) (long other y.stage y.in_room still second) in
          let lists : copies_of first.party x.in_room.1 ≡ copies_of first.party y.in_room.1 = sym (first.tells idle)
          ∙ (same.1 ∙ (second.tells still ∙ ap (λ q. copies_of q y.in_room.1) (sym same.0))) in
          sym x.same ∙ (one_list first.party x.in_room.1 y.in_room.1 lists ∙ y.same)

  -- ---- a find that rests

  -- the answer no ends a find that rests at its question, with the number that it has answered
  pub no_ends : (base v : View T) (e : ℕ) (m : Room) (h : RestsAt code kinds.Container after kept finding base v e m) (there : Registry T)
      → goes_of code h.before.party (finding.flight h.asking m) (number_of false) there ≡ Done (answers.Number e)
  no_ends = grind arith

  -- a find that rests at its question leaves a view whose call rests
  pub find_rests : {base v : View T} {e : ℕ} {m : Room} → RestsAt code kinds.Container after kept finding base v e m → IsResting code v
  find_rests {base} {v} {e} {m} rests_at =
      let under = rests_at.before in
      record {
        party = under.party;
        mine = under.mine;
        start = Container (Find owner);
        flight = finding.flight rests_at.asking m;
        going = under.going;
        asks = rests_at.asks;
        answer = answers.Number e;
        ends = no_ends base v e m rests_at;
        alone = under.alone;
        some = under.some;
      }

  -- the view's call that rests is this find, of the same party, with the number that it has answered
  pub find_rests_so : (base v : View T) (e : ℕ) (m : Room) (h : RestsAt code kinds.Container after kept finding base v e m)
      → (r : IsResting code v) × (r.party ≡ h.before.party) × (r.start ≡ Container (Find owner)) × (r.answer ≡ answers.Number e)
  unfolding find_rests
  find_rests_so base v e m h = (find_rests h, refl, refl, refl)

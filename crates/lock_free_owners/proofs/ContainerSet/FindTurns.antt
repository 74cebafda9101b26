-- A find of a container between two turns, as a call of the history: each of its steps keeps the rule
-- of the table, an answer may end it, and what it has then copied and counted.
use Rattle.lock_free_owners.proofs.Names.{◌≡◌, inl, inr, ℕ, ◌+◌, ◌<◌, nat_lt, Bool, true, false, Option}
use Rattle.lock_free_owners.proofs.Names.{Some, None, List, [], ◌∷◌, ◌++◌, slice_set, refl, sym, ap, subst, ◌∙◌}
use Rattle.lock_free_owners.proofs.Names.{IsMachine, total_words, weaker_owes, append-nil, fold, arith, find_asks, find_want, empty, by_test, After, GoOn}
use Rattle.lock_free_owners.proofs.Names.{Done, Buffer, Number, Event, Begun, Copied, Container, Coding, IsCoding}
use Rattle.lock_free_owners.proofs.Names.{is_question, IsFilledWith, IsCount, fresh_cell, kept_at, Open, own_after}
use Rattle.lock_free_owners.proofs.Names.{span_of, number_of, View, copies_of, copies_after, Called, room_of}
use Rattle.lock_free_owners.proofs.Names.{IsResting, SettledFrom, Waits, RestsAt, IsUnderWay, Ends, value_of_room}
use Rattle.lock_free_owners.proofs.Names.{AsksFor, span_since, container_words, rested_words, apart_asked, room_fresh}
use Rattle.steps.specs.Container.Find.{first_find, find_keeps as keeps_of, find_takes}
use Rattle.steps.specs.declared.container.find.Find.{Find}
use Rattle.steps.specs.declared.container.find.FindStage.{FindStage}
use Rattle.steps.specs.declared.container.find.FindStage.TheVariants as finds
use Rattle.model.specs.declared.families.container.ContainerStart.TheVariants as starts
use Rattle.model.specs.declared.turn.Kind.TheVariants as kinds
use Rattle.threaded.specs.Driver.{Next, Told, Owes}
use Rattle.history_owners.proofs.ContainerFinds.{find_call, container_find_keeps, container_find_word, container_find_hears}
use Rattle.history_owners.proofs.ContainerFinds.{container_find_first, find_copied, find_rests_so, no_ends, copies_span}
use Rattle.history_owners.proofs.Settling.{KeepsWhere}
use Rattle.lock_free_owners.specs.Container.FindContract.{copied, Rests, HasSearched, below_question, asked_below}
use Rattle.lock_free_owners.specs.Container.FindTurns.{words_in, Copying, BeginsFind, finding, find_goes, find_copying}
use Rattle.lock_free_owners.specs.Container.FindTurns.{FindBegun, FindOver, FindAt, FindDone, FindTells, IsAtWord, IsLeft}
use Rattle.lock_free_owners.specs.Container.Visits.{visits_of}
use Rattle.lock_free_owners.specs.Container.Idle.{asks, may_rest, IsIdle}
use Rattle.history.specs.Steps.{TakesAtMost}
use Rattle.lock_free_owners.proofs.ContainerSet.Counted.{counted_owes}
use Rattle.lock_free_owners.proofs.ContainerSet.FindCounts.{counts_whole, counts_below}
use Rattle.lock_free_owners.proofs.ContainerSet.Idle.{rested_begins, idle_none}
use Rattle.lock_free_owners.proofs.ContainerSet.Resting.{settled_so, resting_so}
use Rattle.lock_free_owners.proofs.ContainerSet.Began.{idle_from, capacity_from, share_from, seen_is, made_is}
use Rattle.lock_free_owners.proofs.ContainerSet.Began.{ended_goes, ended_aside, ended_knows, ended_called, ended_answered, under_goes, under_aside, under_knows}
use Rattle.lock_free_owners.proofs.ContainerSet.Began.{ended_keeps, under_keeps}

-- what it has copied is what its closure was called with
named_copies : {T : Type 0} (p owner id : ℕ) (copies : List (ℕ × T)) → copies_of p copies ≡ copied p (visits_of owner id copies)
named_copies p owner id [] = refl
named_copies p owner id (c ∷ copies) = ap (λ es. Copied p c.0 c.1 ∷ es) (named_copies p owner id copies)

module _ {T : Type 0} (code : Coding T) (law : IsCoding code) (owner : ℕ) where
  -- A word that is kept in the room replaces the one at its place.
  put_in : (x : Buffer 128) (at word : ℕ) → words_in (kept_at x at word) ≡ slice_set (words_in x) at word
  put_in x at word = refl

  -- A room made of the words of the fresh room is the fresh room.
  fresh_room : room_of code.size (words_in fresh_cell) ≡ fresh_cell
  fresh_room = (let few = law.few in room_fresh code.size 128 few (omega arith))

  -- ---- where it begins

  -- at its first stage a find asks for a word of the container's
  begins_asks : (capacity : ℕ) (c : Find T (Buffer 128)) (m : Copying T) → BeginsFind owner capacity c m
      → AsksFor (container_words code capacity) (find_want code.size c)
  begins_asks capacity c m b =
      let some = b.1 in
      subst (λ (d : Find T (Buffer 128)). AsksFor (container_words code capacity) (find_want code.size d)) (sym b.0) (_, omega arith, refl)

  -- a find on a pass with no call under way is about to begin
  begins_first : (v : View T) (c : Find T (Buffer 128)) (m : Copying T) → BeginsFind owner v.capacity c m → v.going ≡ None → v.other ≡ [] → 0 < v.share.part
      → FindBegun code owner v v c m
  begins_first v c m b idle alone any =
      subst (λ (d : Find T (Buffer 128)). FindBegun code owner v v d m) (sym b.0)
      (container_find_first code law words_in kept_at put_in owner v m (ap (λ (x : Copying T). room_of code.size (words_in x.0)) b.3 ∙ fresh_room)
      (ap (λ (x : Copying T). x.1) b.3) idle alone any b.1 b.2)

  -- the find goes on at a cell behind the first one, to which no answer leads back
  abbrev IsLater : After (Find T (Buffer 128)) ℕ → Type 0
  IsLater (GoOn d) = (index : ℕ) × (found : ℕ) × (d.stage ≡ finds.LoadsCell (index + 1) found)
  IsLater (Done n) = Unit {0}

  -- An answer never leads a find back to its first stage.
  answers_later : (c : Find T (Buffer 128)) (n : ℕ) (stage : FindStage) → is_question (find_asks code.size c.capacity stage) ≡ true
      → IsLater (find_takes code.size c stage owner n)
  answers_later c n stage is_question_true = grind (arith, by_test, nat_lt)

  -- A find that goes on after an answer is not one that is about to begin.
  never_first : (capacity : ℕ) (c d : Find T (Buffer 128)) (m : Copying T) (n : ℕ) → is_question (find_want code.size c) ≡ true
      → find_goes code owner c n ≡ GoOn d
      → BeginsFind owner capacity d m → ⊥
  never_first capacity c d m n is_question_true find_goes_is begins_find = grind (arith, answers_later)

  -- Each step of a find at a word of the container (so not at a question to its closure) takes the
  -- machine to a next state of a run, and the find to its next stage or its end.
  find_keeps : KeepsWhere code kinds.Container (container_words code) (λ (c : Find T (Buffer 128)). is_question (find_want code.size c) ≡ false)
      (FindAt code owner) (FindDone code owner) (λ c. find_want code.size c) (find_goes code owner) (find_copying code owner)
  find_keeps =
      rested_words code (finding code owner) (λ c. find_want code.size c) (λ c m. refl) (BeginsFind owner) begins_asks
      (find_goes code owner) (find_copying code owner) (FindOver code owner) never_first
      (container_find_keeps code law words_in kept_at put_in owner) begins_first (Ends code kinds.Container (finding code owner))
      (container_find_word code law words_in kept_at put_in owner)

  -- A find at a word is at no question.
  at_its_word : (capacity : ℕ) (stage : FindStage) → IsAtWord stage → is_question (find_asks code.size capacity stage) ≡ false
  at_its_word capacity stage at_word = grind arith

  -- A find that is about to begin behind a rested call is not one that has begun.
  apart : (base v : View T) (c : Find T (Buffer 128)) (m k : Copying T) → IsResting code v
      → BeginsFind owner v.capacity c k → FindBegun code owner base v c m → ⊥
  apart = grind (arith, apart_asked, finding, find_want, begins_asks, find_goes, find_copying, never_first, container_find_keeps, words_in)

  -- the find has not begun, since the last call of the pass still rests
  abbrev WaitsAt : View T → View T → Find T (Buffer 128) → Copying T → Type 0
  WaitsAt = Waits code kinds.Container (λ base. BeginsFind owner base.capacity)

  -- A find that waits to begin does so behind a call that rests.
  rested_at : (base v : View T) (c : Find T (Buffer 128)) (m : Copying T) → WaitsAt base v c m → IsResting code v
  rested_at base v c m waits = subst (λ z. IsResting code z) (sym waits.is) waits.resting

  -- A find that waits to begin stands at its first stage.
  begins_at : (base v : View T) (c : Find T (Buffer 128)) (m : Copying T) → WaitsAt base v c m → BeginsFind owner v.capacity c m
  begins_at base v c m waits_at = grind arith

  -- A find at one stage in one view has made the same copies, whichever view it is said to have begun in.
  same_copies : (base other v : View T) (c : Find T (Buffer 128)) (m k : Copying T) → FindAt code owner base v c m → FindAt code owner other v c k → m.1 ≡ k.1
  same_copies base other v c m k (inl x) (inl y) =
      find_copied code law words_in kept_at put_in owner x.from y.from v c c m k (idle_from x.settled) (idle_from y.settled)
      x.stage y.stage
  same_copies base other v c m k (inl x) (inr y) = absurd (apart x.from v c m k (rested_at other v c k y) (begins_at other v c k y) x.stage)
  same_copies base other v c m k (inr x) (inl y) = absurd (apart y.from v c k m (rested_at base v c m x) (begins_at base v c m x) y.stage)
  same_copies base other v c m k (inr x) (inr y) = ap (λ (z : Copying T). z.1) (x.first.3 ∙ sym y.first.3)

  -- What one step tells holds whichever list of copies the find is said to have made: there
  -- is one such list only.
  find_tells : {base v : View T} {c : Find T (Buffer 128)} {room : Buffer 128} {copies : List (ℕ × T)} → FindAt code owner base v c (room, copies)
      → (n : ℕ) (w : View T) → Told (λ (z : View T). z.capacity) (FindAt code owner) (FindDone code owner) (find_goes code owner)
      (find_copying code owner) c (room, copies) v n w
      → (w.capacity ≡ v.capacity) × FindTells code owner c room v n w
  find_tells {base} {v} {c} {room} {copies} at n w h = (
    h.0,
    λ other more there. (
        let same : copies ≡ more = same_copies base other v c (room, copies) (room, more) at there in
        subst (λ xs. Next (λ (z : View T). z.capacity) (FindAt code owner) (FindDone code owner) other
        (find_goes code owner c n) (find_copying code owner c (room, xs) n) w)
        same
        (h.1 other (subst (λ xs. FindAt code owner other v c (room, xs)) (sym same) there))),
  )

  -- A step of the find at a word is one that the rule of the table allows. By one operation the find goes on, whichever
  -- list of copies it is said to have made.
  pub find_owes : {base v : View T} {c : Find T (Buffer 128)} {room : Buffer 128} {copies : List (ℕ × T)} → FindAt code owner base v c (room, copies)
      → IsAtWord c.stage → {key words : ℕ} (slots id : ℕ) → words ≡ total_words key code.size + 1 → v.capacity ≡ key
      → Owes (λ (z : View T). z.asked) (IsMachine code kinds.Container key) words slots id
      (λ u n w. (w.capacity ≡ u.capacity) × FindTells code owner c room u n w × TakesAtMost 1 u w) (find_want code.size c) (v, [])
  find_owes {base} {v} {c} {room} {copies} at word {key} {words} slots id sized known =
      let told : View T → ℕ → View T → Type 0 =
      Told (λ (z : View T). z.capacity) (FindAt code owner) (FindDone code owner) (find_goes code owner) (find_copying code owner) c (room, copies) in
      let more : View T → ℕ → View T → Type 0 = λ u n w. (w.capacity ≡ u.capacity) × FindTells code owner c room u n w × TakesAtMost 1 u w in
      let weaker = weaker_owes (λ (z : View T). z.asked) (IsMachine code kinds.Container key) words slots id in
      let counted = counted_owes (λ (z : View T). z.asked) (IsMachine code kinds.Container key) words slots id in
      let keeps = find_keeps base v c (room, copies) key words slots id in
      weaker (λ u n w. told u n w × TakesAtMost 1 u w) more (find_want code.size c) (v, [])
      (λ n w h. let tells = find_tells at n w h.0 in (tells.0, tells.1, h.1))
      (counted told (find_want code.size c) (v, []) (keeps (at_its_word c.capacity c.stage word) sized known at))

  -- A find of a container with places is about to begin by an idle pass.
  pub find_begins : (v : View T) → 0 < v.capacity → owner < empty → IsIdle v → v.other ≡ [] → 0 < v.share.part
      → FindAt code owner v v (first_find v.capacity) (fresh_cell, [])
  find_begins v some fits idle alone any =
      rested_begins code (BeginsFind owner) (FindBegun code owner) (FindOver code owner) v (first_find v.capacity) (fresh_cell, []) (refl, some, fits, refl)
      (λ none. begins_first v (first_find v.capacity) (fresh_cell, []) (refl, some, fits, refl) none alone any) idle alone any

  -- ---- at its question

  clash : {A : Type 0} (b : Bool) → b ≡ true → b ≡ false → A
  clash b there still = (let both : true ≡ false = sym there ∙ still in absurd (cc))

  -- The find stands at the question about this index.
  module _ (c : Find T (Buffer 128)) {index found : ℕ} (is : c.stage ≡ finds.Asks index found) where
    -- The find stands at a question.
    due : is_question (find_want code.size c) ≡ true
    due = ap (λ stage. is_question (find_asks code.size c.capacity stage)) is

    -- A find at a question is under way and has heard no answer to that question yet.
    under_at : (from v : View T) (m : Copying T) → FindBegun code owner from v c m → IsUnderWay code kinds.Container (finding code owner) from v c m
    under_at from v m find_begun = grind (arith, clash, is_question, find_want, due, find_call, words_in, kept_at, put_in, number_of)

    -- A find at a question has begun, so it is under way from a settled view.
    pub asked_from : {base v : View T} {m : Copying T} → FindAt code owner base v c m
        → (from : View T) × SettledFrom code kinds.Container base from × IsUnderWay code kinds.Container (finding code owner) from v c m
    asked_from find_at = grind (arith, under_at)

    -- An answer copies nothing, and leaves the room as it is.
    same_room : (m : Copying T) (n : ℕ) → find_copying code owner c m n ≡ m
    same_room m n = ap (λ stage. (keeps_of kept_at stage m.0 n, copies_after stage n (value_of_room code words_in m.0) m.1)) is

    -- an answer that does not end the find is heard, and it goes on
    pub heard_on : {base v : View T} {d : Find T (Buffer 128)} {m : Copying T} (said : Bool) → find_goes code owner c (number_of said) ≡ GoOn d
        → FindAt code owner base v c m → FindAt code owner base v d m
    heard_on {v} {d} {m} said goes at =
        let (from, settled, under) = asked_from at in
        -- the left case of `FindAt`: the find has begun, from a view in which the last call had ended
        inl (record {
          from = from;
          settled = settled;
          stage = subst (FindBegun code owner from v d) (same_room m (number_of said))
              (container_find_hears code law words_in kept_at put_in owner from v c d m said due goes (inl (inr under)));
        })

    -- A find that an answer ends rests at its question.
    rests_at : {base v : View T} {m : Copying T} {e : ℕ} (said : Bool) → find_goes code owner c (number_of said) ≡ Done e → (at : FindAt code owner base v c m)
        → RestsAt code kinds.Container (find_goes code owner) (find_copying code owner) (finding code owner) (asked_from at).0 v e m
    rests_at said find_goes_is at = grind (arith, asked_from, due, same_room, number_of)

  -- ---- where it has ended, or rests

  -- the find began at from, e is the number that it answers, m its room and the copies that it made, w what the pass knows
  -- then; id is the container's number
  module _ (cap : ℕ) {base w from : View T} (settled : SettledFrom code kinds.Container base from) {e : ℕ} {m : Copying T} (id : ℕ) where
    module _ (rest : RestsAt code kinds.Container (find_goes code owner) (find_copying code owner) (finding code owner) from w e m) where
      -- The find that rests is still under way.
      abbrev under : IsUnderWay code kinds.Container (finding code owner) from w rest.asking m
      under = rest.before

      -- What the find has written: the copies of its visits.
      abbrev told : List (Event T)
      told = copied under.party (visits_of owner id m.1)

      -- It wrote just that.
      tells : under.wrote ≡ told
      tells = under.tells (idle_from settled) ∙ named_copies under.party owner id m.1

      -- a find that an answer has ended rests: it has begun, and written its copies
      rests_so : Rests under.party (Container (starts.Find owner)) (Number e) told from w
      rests_so =
          let so = find_rests_so code law words_in kept_at put_in owner from w e m rest in
          record {
            others = under.since.others;
            during = under.since.during;
            is = seen_is settled under.since
                ∙ ap (λ ds. (from.seen ++ under.since.others) ++ Begun under.party (Container (starts.Find owner)) ∷ ds) (append-nil under.since.during);
            alone = under.since.alone;
            others_own = under.since.others_own;
            during_own = under.since.during_own ∙ tells;
            made = made_is settled under.since
                ∙ ap (λ ds. from.made ++ Begun under.party (Container (starts.Find owner)) ∷ ds) (append-nil under.wrote ∙ tells);
            resting = resting_so code w so.0;
            party = so.1;
            of = so.2;
            ends = so.3;
          }

      -- A find that rests at a question has counted the indices of the owner up to the one
      -- that it asks about.
      counted_at : IsCount under.party (IsFilledWith owner) (below_question rest.asking.stage) e w.seen
      counted_at =
          let h = under.stood in
          let start = Container (starts.Find owner) in
          let own = rests_so.during_own ∙ sym (named_copies under.party owner id m.1) in
          let at_work : span_of under.party h.trace.events ≡ Open start (copies_of under.party m.1) =
          ap (span_of under.party) (sym h.is ∙ rests_so.is)
          ∙ (span_since under.party start (from.seen ++ rests_so.others) rests_so.during
          ∙ (ap (fold own_after (Open start [])) own ∙ copies_span code law words_in kept_at put_in owner under.party start [] m.1))
          in
          subst (λ es. IsCount under.party (IsFilledWith owner) (below_question rest.asking.stage) e es) (sym h.is)
          (counts_below code from.capacity under.party owner e rest.asking.capacity (room_of code.size (words_in m.0)) rest.asking.stage
          h.trace h.run h.there rest.asks
          (no_ends code law words_in kept_at put_in owner from w e m rest h.trace.world.kept) (copies_of under.party m.1) at_work)

      -- A find that rests has counted the owner's indices up to the one that it asks about, and copied
      -- the values of these visits.
      pub rested_so : HasSearched cap owner e (below_question rest.asking.stage) (visits_of owner id m.1) base w
      rested_so =
          record {
            from = from;
            settled = settled_so code base from settled;
            by = under.party;
            mine = under.mine;
            counts = counted_at;
            over = inr (rests_so, sym (ap asked_below under.going));
          }

      -- A stage that is a question of `steps` is one of the model.
      at_question : (stage : FindStage) → is_question (find_asks code.size rest.asking.capacity stage) ≡ true → asks stage ≡ true
      at_question stage is_question_true = grind arith

      -- where it rests, it leaves its pass as each find does
      pub rested_left : IsLeft code base w
      rested_left =
          record {
            idle = ap (λ (o : Option ℕ). may_rest o w.going) under.mine
                ∙ (ap (may_rest (Some under.party)) under.going ∙ at_question rest.asking.stage rest.asks);
            capacity = under.capacity ∙ capacity_from settled;
            share = under.share ∙ share_from settled;
            alone = under.alone;
            goes = under_goes settled (finding code owner) under;
            aside = under_aside settled (finding code owner) under;
            knows = under_knows settled (finding code owner) under;
            keeps = under_keeps settled (finding code owner) (record { start = refl; flight = λ c k. refl }) (λ was p by. by) under;
          }

    module _ (ends : Ends code kinds.Container (finding code owner) from e m w) where
      -- A find that has ended has counted the indices of the owner in the whole container.
      counted_so : cap ≡ base.capacity → IsCount ends.party (IsFilledWith owner) cap e w.seen
      counted_so size =
          subst (λ n. IsCount ends.party (IsFilledWith owner) n e w.seen) (capacity_from settled ∙ sym size)
          (counts_whole code from.capacity ends.party owner e w.seen ends.last)

      -- A find that has ended has counted the owner's indices below the capacity, and copied the values
      -- of these visits.
      ended_so : cap ≡ base.capacity → HasSearched cap owner e cap (visits_of owner id m.1) base w
      ended_so size =
          record {
            from = from;
            settled = settled_so code base from settled;
            by = ends.party;
            mine = ends.mine;
            counts = counted_so size;
            over = inl (
              subst (λ es. Called ends.party (Container (starts.Find owner)) (Number e) es from w)
                  (ends.tells (idle_from settled) ∙ named_copies ends.party owner id m.1)
                  (ended_called settled (finding code owner) ends (starts.Find owner) refl (Number e) refl),
              ended_answered settled (finding code owner) ends (starts.Find owner) refl (Number e) refl,
              refl,
            );
          }

      -- where it has ended, it leaves its pass as each find does
      ended_left : IsLeft code base w
      ended_left =
          record {
            idle = idle_none w ends.idle;
            capacity = ends.capacity ∙ capacity_from settled;
            share = ends.share ∙ share_from settled;
            alone = ends.alone;
            goes = ended_goes settled (finding code owner) ends;
            aside = ended_aside settled (finding code owner) ends;
            knows = ended_knows settled (finding code owner) ends;
            keeps = ended_keeps settled (finding code owner) (record { start = refl; flight = λ c k. refl }) (λ was p by. by) ends;
          }

  -- A find that has ended leaves its pass as each find does, and has searched the whole container.
  pub over_so : {cap : ℕ} {base w : View T} {e : ℕ} {m : Copying T} (id : ℕ) → cap ≡ base.capacity → FindDone code owner base e m w
      → IsLeft code base w × HasSearched cap owner e cap (visits_of owner id m.1) base w
  over_so {cap} id size x = (ended_left cap x.settled id x.over, ended_so cap x.settled id x.over size)

  -- the answer has ended it at its question
  pub answer_over : (cap : ℕ) {base v : View T} {c : Find T (Buffer 128)} {m : Copying T} {index found : ℕ} → c.stage ≡ finds.Asks index found
      → FindAt code owner base v c m → {e : ℕ} (id : ℕ) (said : Bool) → find_goes code owner c (number_of said) ≡ Done e
      → IsLeft code base v × HasSearched cap owner e (index + 1) (visits_of owner id m.1) base v
  unfolding rests_at
  answer_over cap {base} {v} {c} {m} is at {e} id said goes =
      let x = asked_from c is at in
      let rest = rests_at c is said goes at in (
        rested_left cap x.1 id rest,
        subst (λ n. HasSearched cap owner e n (visits_of owner id m.1) base v) (ap below_question is)
            (rested_so cap x.1 id rest),
      )

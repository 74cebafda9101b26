-- What the queues share where their roles change hands: the words of the roles, and the calls that a page has not.
use Rattle.std.proofs.Common.{◌⊎◌, inl, inr, option_map, suc, zero}
use Rattle.std.proofs.lemmas.Bool.Decides.{nat_tests}
use Rattle.std.specs.Prelude.{slice_set}
use Rattle.model.proofs.Names.{Bool, Coding, List, None, Option, Some, [], ap, arith, ask_of, false, first_row, is_question, not, old_of}
use Rattle.model.proofs.Names.{refl, set-get_or, step_of, subst, sym, true, want_of, words_after, ℕ, ◌+◌, ◌==◌, ◌∷◌, ◌≡◌}
use Rattle.model.specs.declared.event.Answer.{Answer}
use Rattle.model.specs.declared.event.Start.{Start}
use Rattle.model.specs.declared.event.Start.TheVariants.{Queues}
use Rattle.model.specs.declared.families.Flight.{Flight}
use Rattle.model.specs.declared.families.Flight.TheVariants as flights
use Rattle.model.specs.declared.families.Registry.{Registry}
use Rattle.model.specs.declared.families.Registry.TheVariants as registries
use Rattle.model.specs.declared.families.queues.QueueKind.{QueueKind}
use Rattle.model.specs.declared.families.queues.QueueKind.TheVariants as kinds
use Rattle.model.specs.declared.families.queues.QueueStart.{QueueStart}
use Rattle.model.specs.declared.families.queues.QueueStart.TheVariants.{AcquireProducer, ReleaseProducer, AcquireConsumer, ReleaseConsumer}
use Rattle.model.specs.declared.families.queues.QueueStart.TheVariants.{HasProducer, HasConsumer, Peek}
use Rattle.model.specs.declared.families.queues.QueueStart.TheVariants.{IsEmpty, IsFull, Len, Pop, Push, PushIndex}
use Rattle.model.specs.declared.families.queues.Roles.{Roles}
use Rattle.model.specs.declared.families.queues.calls.LengthOf.{LengthOf}
use Rattle.model.specs.declared.families.queues.calls.QueueFlight.{QueueFlight}
use Rattle.model.specs.declared.families.queues.calls.QueueFlight.TheVariants.{Indices, Length, Values}
use Rattle.model.specs.declared.families.queues.calls.RingCall.TheVariants as rings
use Rattle.model.specs.declared.turn.Refusal.TheVariants.{NoRole}
use Rattle.model.specs.Families.Queues.Calls.{acquire_of, as_it_is, consumer_word, first, look_of, popped, popped_value}
use Rattle.model.specs.Families.Queues.Calls.{producer_word, read_in, release_of}
use Rattle.model.specs.Families.Queues.Opening.{call_rows, holds}
use Rattle.model.specs.Linearized.{is_push_or_pop}
use Rattle.model.specs.Step.{Step, as_call}
use Rattle.steps.specs.declared.ask.After.{After}
use Rattle.steps.specs.declared.ask.After.TheVariants as afters
use Rattle.steps.specs.declared.queues.lengths.Len as lengths
use Rattle.steps.specs.declared.queues.lengths.LenStage.{LenStage}
use Rattle.steps.specs.declared.queues.lengths.LenStage.TheVariants.{LoadsWrite, LoadsRead}
use Rattle.steps.specs.declared.queues.peek.PeekStage.{PeekStage}
use Rattle.steps.specs.declared.queues.peek.PeekStage.TheVariants as peeks
use Rattle.steps.specs.declared.routine.Running.{Running}
use Rattle.steps.specs.Queues.Lengths.{len_asks}
use Rattle.steps.specs.Queues.Peek.{peek_asks}
use Rattle.steps.specs.Queues.Ring.{pop_answer, word_at}
use Rattle.steps.specs.Routine.{went_on}
use Rattle.pages.proofs.Hands.{Leaves, OtherStep, not_two}

-- ---- the words of the roles

-- a role's word
abbrev pub free : Option ℕ → ℕ
free None = 1
free (Some p) = 0

-- the words where both roles are taken
abbrev pub blank : List ℕ → List ℕ
blank (write ∷ read ∷ producer ∷ consumer ∷ cells) = write ∷ read ∷ 0 ∷ 0 ∷ cells
blank words = words

-- The words of a queue of the model: its two positions, a word for each role that says whether it is free, and the cells. The
-- page's words are `blank` of these: there both words of roles stay 0.
pub record Tells (roles : Roles) (words : List ℕ) : Type 0 where
  pub write : ℕ
  pub read : ℕ
  pub cells : List ℕ
  pub is : words ≡ write ∷ read ∷ free roles.producer ∷ free roles.consumer ∷ cells

-- party 0 of a page is the producer, party 1 the consumer
abbrev pub who : Roles → ℕ → Option ℕ
who roles zero = roles.producer
who roles (suc zero) = roles.consumer
who roles (suc (suc n)) = None

-- who passes the row of a role holds it
pub holder_is : (o : Option ℕ) (p : ℕ) → first_row ((not (holds o p), NoRole) ∷ []) ≡ None → o ≡ Some p
holder_is None p e = absurd (cc)
holder_is (Some q) p e = go (q == p) refl e
  where
    go : (b : Bool) → (q == p) ≡ b → first_row ((not b, NoRole) ∷ []) ≡ None → Some q ≡ Some p
    go true t e = let same : q ≡ p = grind (arith, nat_tests) in ap Some same
    go false t e = absurd (cc)

-- a step at another word leaves those of the roles
module _ (roles : Roles) (words : List ℕ) (t : Tells roles words) where
  -- A step at this word leaves the words of the roles.
  abbrev LeavesAt : ℕ → Type 0
  LeavesAt word = Leaves blank (Tells roles) words word

  -- a step at the word of the write position leaves the words of the roles
  pub at_write : LeavesAt 0
  at_write =
      subst (λ ws. Leaves blank (Tells roles) ws 0) (sym t.is)
      (record {
        old = refl;
        new = λ value. refl;
        tells = λ value u. record { write = value; read = t.read; cells = t.cells; is = refl };
      })

  -- a step at the word of the read position leaves the words of the roles
  pub at_read : LeavesAt 1
  at_read =
      subst (λ ws. Leaves blank (Tells roles) ws 1) (sym t.is)
      (record {
        old = refl;
        new = λ value. refl;
        tells = λ value u. record { write = t.write; read = value; cells = t.cells; is = refl };
      })

  -- a step at a word of a cell leaves the words of the roles
  pub at_cell : (n : ℕ) → LeavesAt (4 + n)
  at_cell n =
      let far : suc (suc (suc (suc n))) ≡ 4 + n = omega arith in
      subst LeavesAt far
      (subst (λ ws. Leaves blank (Tells roles) ws (suc (suc (suc (suc n))))) (sym t.is)
      (record {
        old = refl;
        new = λ value. refl;
        tells = λ value u. record { write = t.write; read = t.read; cells = slice_set t.cells n value; is = refl };
      }))

-- ---- the calls that a page of a queue has not

module _ {T : Type 0} where
  -- The call under way looks for the length, for itself or to see whether the queue is empty or full.
  pub record IsLength (flight : Flight T) : Type 0 where
    pub which : LengthOf
    pub run : Running lengths.Len (Unit {0}) (Unit {0})
    pub is : flight ≡ flights.Queues (Length which run)

  -- a peek of either bounded queue
  abbrev pub IsPeek : Flight T → Type 0
  IsPeek (flights.Queues (Indices (rings.Peek run))) = Unit {0}
  IsPeek (flights.Queues (Values (rings.Peek run))) = Unit {0}
  IsPeek flight = ⊥

  -- a call under way that is no push and no pop is at the stage that its kind has
  abbrev pub OtherOf : Roles → ℕ → QueueStart T → Flight T → Type 0
  OtherOf roles p AcquireProducer flight = flight ≡ flights.Queues (acquire_of producer_word)
  OtherOf roles p ReleaseProducer flight = (flight ≡ flights.Queues (release_of producer_word)) × (roles.producer ≡ Some p)
  OtherOf roles p AcquireConsumer flight = flight ≡ flights.Queues (acquire_of consumer_word)
  OtherOf roles p ReleaseConsumer flight = (flight ≡ flights.Queues (release_of consumer_word)) × (roles.consumer ≡ Some p)
  OtherOf roles p HasProducer flight = flight ≡ flights.Queues (look_of producer_word)
  OtherOf roles p HasConsumer flight = flight ≡ flights.Queues (look_of consumer_word)
  OtherOf roles p Peek flight = IsPeek flight
  OtherOf roles p Len flight = IsLength flight
  OtherOf roles p IsEmpty flight = IsLength flight
  OtherOf roles p IsFull flight = IsLength flight
  OtherOf roles p start flight = ⊥

  -- A call under way that is no push and no pop of a queue is at the stage that its kind has.
  abbrev pub Other : Roles → ℕ → Start T → Flight T → Type 0
  Other roles p (Queues start) flight = OtherOf roles p start flight
  Other roles p start flight = ⊥

  pub the_flight : {x y : Flight T} → Some x ≡ Some y → y ≡ x
  the_flight e = cc

  peek_begins : (kind : QueueKind) (capacity : ℕ) (flight : Flight T) → option_map flights.Queues (first kind capacity Peek) ≡ Some flight → IsPeek flight
  peek_begins kinds.IndexQueue capacity flight named = subst IsPeek (sym (the_flight named)) tt
  peek_begins kinds.Overflow capacity flight named = absurd (cc)
  peek_begins kinds.Queue capacity flight named = subst IsPeek (sym (the_flight named)) tt

  -- a call that may begin, and is no push or pop, stands at its first stage
  pub other_begins : (kind : QueueKind) (capacity : ℕ) (roles : Roles) (p : ℕ) (start : QueueStart T) (flight : Flight T)
      → is_push_or_pop (Queues start) ≡ false → option_map flights.Queues (first kind capacity start) ≡ Some flight
      → first_row (call_rows roles p start) ≡ None → Other roles p (Queues start) flight
  other_begins kind capacity roles p AcquireProducer flight other named rows = the_flight named
  other_begins kind capacity roles p ReleaseProducer flight other named rows = (the_flight named, holder_is roles.producer p rows)
  other_begins kind capacity roles p AcquireConsumer flight other named rows = the_flight named
  other_begins kind capacity roles p ReleaseConsumer flight other named rows = (the_flight named, holder_is roles.consumer p rows)
  other_begins kind capacity roles p HasProducer flight other named rows = the_flight named
  other_begins kind capacity roles p HasConsumer flight other named rows = the_flight named
  other_begins kind capacity roles p Peek flight other named rows = peek_begins kind capacity flight named
  other_begins kind capacity roles p Len flight other named rows = record { which = _; run = _; is = the_flight named }
  other_begins kind capacity roles p IsEmpty flight other named rows = record { which = _; run = _; is = the_flight named }
  other_begins kind capacity roles p IsFull flight other named rows = record { which = _; run = _; is = the_flight named }
  other_begins kind capacity roles p start flight other named rows = absurd (cc)

  -- a call that the page has not is no push or pop
  pub not_own : (roles : Roles) (p : ℕ) (start : Start T) (flight : Flight T) → Other roles p start flight → is_push_or_pop start ≡ false
  not_own roles p (Queues (PushIndex value)) flight h = absurd h
  not_own roles p (Queues (Push value)) flight h = absurd h
  not_own roles p (Queues Pop) flight h = absurd h
  not_own roles p other flight h = refl

  module _ (code : Coding T) where
    -- a length asks for a load, and puts no question
    length_asks : (stage : LenStage) (which : LengthOf) (run : Running lengths.Len (Unit {0}) (Unit {0})) → run.call.stage ≡ stage
        → is_question (want_of code (flights.Queues (Length which run))) ≡ false
    length_asks stage which run same_stage = go run.call.stage
      where
        go : (stage : LenStage) → is_question (len_asks stage) ≡ false
        go LoadsWrite = refl
        go stage = refl

    no_question : (flight : Flight T) → IsLength flight → is_question (want_of code flight) ≡ false
    no_question flight length =
        subst (λ f. is_question (want_of code f) ≡ false) (sym length.is) (length_asks length.run.call.stage length.which length.run refl)

    peek_loads : (stage : PeekStage) → is_question (peek_asks stage) ≡ false
    peek_loads peeks.LoadsRead = refl
    peek_loads stage = refl

    peek_asks_nothing : (flight : Flight T) → IsPeek flight → is_question (want_of code flight) ≡ false
    peek_asks_nothing (flights.Queues (Indices (rings.Peek run))) peek = peek_loads run.call.stage
    peek_asks_nothing (flights.Queues (Values (rings.Peek run))) peek = peek_loads run.call.stage
    peek_asks_nothing flight peek = absurd peek

    -- a call that the page has not puts no question
    pub asks_nothing : (roles : Roles) (p : ℕ) (start : Start T) (flight : Flight T) → Other roles p start flight → is_question (want_of code flight) ≡ false
    asks_nothing roles p (Queues AcquireProducer) flight h = subst (λ f. is_question (want_of code f) ≡ false) (sym h) refl
    asks_nothing roles p (Queues ReleaseProducer) flight h = subst (λ f. is_question (want_of code f) ≡ false) (sym h.0) refl
    asks_nothing roles p (Queues AcquireConsumer) flight h = subst (λ f. is_question (want_of code f) ≡ false) (sym h) refl
    asks_nothing roles p (Queues ReleaseConsumer) flight h = subst (λ f. is_question (want_of code f) ≡ false) (sym h.0) refl
    asks_nothing roles p (Queues HasProducer) flight h = subst (λ f. is_question (want_of code f) ≡ false) (sym h) refl
    asks_nothing roles p (Queues HasConsumer) flight h = subst (λ f. is_question (want_of code f) ≡ false) (sym h) refl
    asks_nothing roles p (Queues Peek) flight h = peek_asks_nothing flight h
    asks_nothing roles p (Queues Len) flight h = no_question flight h
    asks_nothing roles p (Queues IsEmpty) flight h = no_question flight h
    asks_nothing roles p (Queues IsFull) flight h = no_question flight h
    asks_nothing roles p other flight h = absurd h

    -- ---- their steps

    -- A step of a call that the page has not writes no event and leaves the page's words (`blank_is`). Behind it the model's
    -- words tell again who has which role (`tells`), a call that goes on is still none of the page's (`stays`), a role has the
    -- holder that it had, or was free or the party's own (`who_is`), and other parties' calls stand where they stood (`others`).
    abbrev StepOf : Roles → ℕ → Start T → Flight T → List ℕ → Option (ℕ × ℕ) → Type 0
    StepOf roles p start flight words beside =
        OtherStep code registries.Queues who blank Tells Other roles p start flight words
        (step_of code words beside p start flight (old_of words (ask_of (want_of code flight))) (registries.Queues roles))

    -- a call that the page has not stays where it stands as long as its party keeps its roles
    others_stay : (k next : Roles) (q : ℕ) → (k.producer ≡ Some q → next.producer ≡ Some q) → (k.consumer ≡ Some q → next.consumer ≡ Some q)
        → (start : Start T) (flight : Flight T) → Other k q start flight → Other next q start flight
    others_stay k next q produces consumes (Queues ReleaseProducer) flight h = (h.0, produces h.1)
    others_stay k next q produces consumes (Queues ReleaseConsumer) flight h = (h.0, consumes h.1)
    others_stay k next q produces consumes start flight h = h

    no_one : {A : Type 0} {q : ℕ} → None ≡ Some q → A
    no_one e = absurd (cc)

    abbrev on : Flight T → After (Flight T) (Answer T)
    on flight = afters.GoOn flight

    ended : {A : Type 0} {answer : Answer T} {then : Flight T} → afters.Done answer ≡ afters.GoOn then → A
    ended e = absurd (cc)

    module _ (p write read : ℕ) (cells : List ℕ) (beside : Option (ℕ × ℕ)) where
      abbrev words_of : Option ℕ → Option ℕ → List ℕ
      words_of producer consumer = write ∷ read ∷ free producer ∷ free consumer ∷ cells

      abbrev told : (roles : Roles) → Tells roles (words_of roles.producer roles.consumer)
      told roles = record { write = write; read = read; cells = cells; is = refl }

      abbrev both : Option ℕ → Option ℕ → Roles
      both producer consumer = record { producer = producer; consumer = consumer }

      -- a call takes a step while `pr` has the producer's role and `co` the consumer's
      module _ (start : Start T) (flight : Flight T) (pr co : Option ℕ) where
        abbrev loading : Step (Flight T) (Registry T) T
        loading =
            step_of code (words_of pr co) beside p start flight (old_of (words_of pr co) (ask_of (want_of code flight))) (registries.Queues (both pr co))

        -- a step that leaves the words and the roles, writes nothing, and goes on as a call that the page has
        -- not, is as `StepOf` asks
        loads : words_after (words_of pr co) (ask_of (want_of code flight)) ≡ words_of pr co
            → loading.kept ≡ registries.Queues (both pr co) → loading.wrote ≡ []
            → ((then : Flight T) → loading.after ≡ afters.GoOn then → Other (both pr co) p start then)
            → StepOf (both pr co) p start flight (words_of pr co) beside
        loads alone kept_is silent stays =
            record {
              next = both pr co;
              kept_is = kept_is;
              silent = silent;
              blank_is = ap blank alone;
              tells = subst (Tells (both pr co)) (sym alone) (told (both pr co));
              stays = stays;
              who_is = λ n. inl refl;
              others = λ q start flight ne h. h;
            }

      -- a step of an acquire of the producer's role takes it where it is free, and tells the page nothing
      acquires_producer : (pr co : Option ℕ)
          → StepOf (both pr co) p (Queues AcquireProducer) (flights.Queues (acquire_of producer_word)) (words_of pr co) beside
      acquires_producer None co =
          record {
            next = both (Some p) co;
            kept_is = refl;
            silent = refl;
            blank_is = refl;
            tells = told (both (Some p) co);
            stays = λ then e. ended e;
            who_is = who_is;
            others = λ q start flight ne h. others_stay (both None co) (both (Some p) co) q (λ e. no_one e) (λ e. e) start flight h;
          }
        where
          -- the producer's role was free and is the party's now; the consumer's has the holder that it had
          who_is : (n : ℕ) → (who (both (Some p) co) n ≡ who (both None co) n) ⊎ ((who (both None co) n ≡ None) ⊎ (who (both None co) n ≡ Some p))
          who_is zero = inr (inl refl)
          who_is (suc zero) = inl refl
          who_is (suc (suc n)) = inl refl
      acquires_producer (Some r) co =
          loads (Queues AcquireProducer) (flights.Queues (acquire_of producer_word)) (Some r) co refl refl refl (λ then e. ended e)

      -- a step of an acquire of the consumer's role takes it where it is free, and tells the page nothing
      acquires_consumer : (pr co : Option ℕ)
          → StepOf (both pr co) p (Queues AcquireConsumer) (flights.Queues (acquire_of consumer_word)) (words_of pr co) beside
      acquires_consumer pr None =
          record {
            next = both pr (Some p);
            kept_is = refl;
            silent = refl;
            blank_is = refl;
            tells = told (both pr (Some p));
            stays = λ then e. ended e;
            who_is = who_is;
            others = λ q start flight ne h. others_stay (both pr None) (both pr (Some p)) q (λ e. e) (λ e. no_one e) start flight h;
          }
        where
          -- the consumer's role was free and is the party's now; the producer's has the holder that it had
          who_is : (n : ℕ) → (who (both pr (Some p)) n ≡ who (both pr None) n) ⊎ ((who (both pr None) n ≡ None) ⊎ (who (both pr None) n ≡ Some p))
          who_is zero = inl refl
          who_is (suc zero) = inr (inl refl)
          who_is (suc (suc n)) = inl refl
      acquires_consumer pr (Some r) =
          loads (Queues AcquireConsumer) (flights.Queues (acquire_of consumer_word)) pr (Some r) refl refl refl (λ then e. ended e)

      -- a step of a release of the producer's role frees it, and tells the page nothing
      releases_producer : (pr co : Option ℕ) → pr ≡ Some p
          → StepOf (both pr co) p (Queues ReleaseProducer) (flights.Queues (release_of producer_word)) (words_of pr co) beside
      releases_producer pr co holder =
          record {
            next = both None co;
            kept_is = refl;
            silent = refl;
            blank_is = refl;
            tells = told (both None co);
            stays = λ then e. ended e;
            who_is = who_is;
            others = λ q start flight ne h. others_stay (both pr co) (both None co) q (λ e. not_two holder e ne) (λ e. e) start flight h;
          }
        where
          who_is : (n : ℕ) → (who (both None co) n ≡ who (both pr co) n) ⊎ ((who (both pr co) n ≡ None) ⊎ (who (both pr co) n ≡ Some p))
          who_is zero = inr (inr holder)
          who_is (suc zero) = inl refl
          who_is (suc (suc n)) = inl refl

      -- a step of a release of the consumer's role frees it, and tells the page nothing
      releases_consumer : (pr co : Option ℕ) → co ≡ Some p
          → StepOf (both pr co) p (Queues ReleaseConsumer) (flights.Queues (release_of consumer_word)) (words_of pr co) beside
      releases_consumer pr co holder =
          record {
            next = both pr None;
            kept_is = refl;
            silent = refl;
            blank_is = refl;
            tells = told (both pr None);
            stays = λ then e. ended e;
            who_is = who_is;
            others = λ q start flight ne h. others_stay (both pr co) (both pr None) q (λ e. e) (λ e. not_two holder e ne) start flight h;
          }
        where
          who_is : (n : ℕ) → (who (both pr None) n ≡ who (both pr co) n) ⊎ ((who (both pr co) n ≡ None) ⊎ (who (both pr co) n ≡ Some p))
          who_is zero = inl refl
          who_is (suc zero) = inr (inr holder)
          who_is (suc (suc n)) = inl refl

      -- A length loads, so it leaves the words.
      loads_alone : (pr co : Option ℕ) (stage : LenStage) → words_after (words_of pr co) (ask_of (len_asks stage)) ≡ words_of pr co
      loads_alone pr co LoadsWrite = refl
      loads_alone pr co stage = refl

      peeks_alone : (pr co : Option ℕ) (stage : PeekStage) → words_after (words_of pr co) (ask_of (peek_asks stage)) ≡ words_of pr co
      peeks_alone pr co peeks.LoadsRead = refl
      peeks_alone pr co (peeks.LoadsWrite read) = refl
      peeks_alone pr co (peeks.LoadsCell cell at) = set-get_or (words_of pr co) (word_at cell at) 0

      -- a call that goes on is one of the same kind
      goes_on_so : {C G M E A : Type 0} (IsSuch : Flight T → Type 0) (call_of : Running C G M → QueueFlight T)
          → ((run : Running C G M) → IsSuch (flights.Queues (call_of run)))
          → (answer : A → Answer T) (end : E → G → M → A) (given : G) (room : M) (comes : After C E) (then : Flight T)
          → as_call flights.Queues (λ a. a) (as_call call_of answer (went_on end given room comes)) ≡ afters.GoOn then
          → IsSuch then
      goes_on_so IsSuch call_of such answer end given room (afters.GoOn call) then e =
          subst IsSuch (sym (the_next e)) (such (record { call = call; given = given; room = room }))
        where
          the_next : {x y : Flight T} → on x ≡ on y → y ≡ x
          the_next e = cc
      goes_on_so IsSuch call_of such answer end given room (afters.Done number) then e = ended e

      of_length : (which : LengthOf) (run : Running lengths.Len (Unit {0}) (Unit {0})) → IsLength (flights.Queues (Length which run))
      of_length which run = record { which = which; run = run; is = refl }

      length_on : (which : LengthOf) (answer : ℕ → Answer T) (comes : After lengths.Len ℕ) (then : Flight T)
          → as_call flights.Queues (λ a. a) (as_call (λ r. Length which r) answer (went_on as_it_is tt tt comes)) ≡ afters.GoOn then
          → IsLength then
      length_on which answer comes then e = goes_on_so IsLength (λ r. Length which r) (of_length which) answer as_it_is tt tt comes then e

      -- a step of a peek is as `StepOf` asks
      by_peek : (pr co : Option ℕ) (flight : Flight T) → IsPeek flight → StepOf (both pr co) p (Queues Peek) flight (words_of pr co) beside
      by_peek pr co (flights.Queues (Indices (rings.Peek run))) peek =
          loads (Queues Peek) (flights.Queues (Indices (rings.Peek run))) pr co (peeks_alone pr co run.call.stage) refl refl
          (λ then e. goes_on_so IsPeek (λ r. Indices (rings.Peek r)) (λ r. tt) popped (λ end given room. pop_answer room.0 end) _ _ _ then e)
      by_peek pr co (flights.Queues (Values (rings.Peek run))) peek =
          loads (Queues Peek) (flights.Queues (Values (rings.Peek run))) pr co (peeks_alone pr co run.call.stage) refl refl
          (λ then e. goes_on_so IsPeek (λ r. Values (rings.Peek r)) (λ r. tt) popped_value (λ end given room. pop_answer (read_in code room) end) _ _ _ then e)
      by_peek pr co flight peek = absurd peek

      abbrev StepAt : Roles → QueueStart T → Flight T → Type 0
      StepAt roles start flight = StepOf roles p (Queues start) flight (words_of roles.producer roles.consumer) beside

      -- a step of each call that the page has not is as `StepOf` asks, from words that tell the roles
      by_start : (roles : Roles) (start : QueueStart T) (flight : Flight T) → Other roles p (Queues start) flight → StepAt roles start flight
      by_start roles AcquireProducer flight h = subst (StepAt roles AcquireProducer) (sym h) (acquires_producer roles.producer roles.consumer)
      by_start roles ReleaseProducer flight h = subst (StepAt roles ReleaseProducer) (sym h.0) (releases_producer roles.producer roles.consumer h.1)
      by_start roles AcquireConsumer flight h = subst (StepAt roles AcquireConsumer) (sym h) (acquires_consumer roles.producer roles.consumer)
      by_start roles ReleaseConsumer flight h = subst (StepAt roles ReleaseConsumer) (sym h.0) (releases_consumer roles.producer roles.consumer h.1)
      -- looks load a word, and leave the words and the roles
      by_start roles HasProducer flight h =
          subst (StepAt roles HasProducer) (sym h)
          (loads (Queues HasProducer) (flights.Queues (look_of producer_word)) roles.producer roles.consumer refl refl refl (λ then e. ended e))
      by_start roles HasConsumer flight h =
          subst (StepAt roles HasConsumer) (sym h)
          (loads (Queues HasConsumer) (flights.Queues (look_of consumer_word)) roles.producer roles.consumer refl refl refl (λ then e. ended e))
      by_start roles Peek flight h = by_peek roles.producer roles.consumer flight h
      by_start roles Len flight h =
          subst (StepAt roles Len) (sym h.is)
          (loads (Queues Len) (flights.Queues (Length h.which h.run)) roles.producer roles.consumer
          (loads_alone roles.producer roles.consumer h.run.call.stage) refl refl (λ then e. length_on h.which _ _ then e))
      by_start roles IsEmpty flight h =
          subst (StepAt roles IsEmpty) (sym h.is)
          (loads (Queues IsEmpty) (flights.Queues (Length h.which h.run)) roles.producer roles.consumer
          (loads_alone roles.producer roles.consumer h.run.call.stage) refl refl (λ then e. length_on h.which _ _ then e))
      by_start roles IsFull flight h =
          subst (StepAt roles IsFull) (sym h.is)
          (loads (Queues IsFull) (flights.Queues (Length h.which h.run)) roles.producer roles.consumer
          (loads_alone roles.producer roles.consumer h.run.call.stage) refl refl (λ then e. length_on h.which _ _ then e))
      -- pushes and pops are calls of the page
      by_start roles start flight h = absurd h

    -- a step of a call that the page has not is as `StepOf` asks
    pub goes_other : (roles : Roles) (words : List ℕ) (beside : Option (ℕ × ℕ)) (p : ℕ) (start : Start T) (flight : Flight T)
        → Other roles p start flight → Tells roles words → StepOf roles p start flight words beside
    goes_other roles words beside p (Queues start) flight h tells =
        subst (λ ws. StepOf roles p (Queues start) flight ws beside) (sym tells.is)
        (by_start p tells.write tells.read tells.cells beside roles start flight h)
    goes_other roles words beside p other flight h tells = absurd h

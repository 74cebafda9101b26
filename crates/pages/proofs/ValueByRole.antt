-- The single value of the model, on which the role changes hands, runs the page.
use Rattle.std.proofs.Common.{◌⊎◌, inl, inr, subst, suc, zero}
use Rattle.std.specs.Prelude.{slice_set}
use Rattle.model.proofs.Names.{List, None, Option, Some, [], ap, arith, ask_of, false, first_of, first_row, is_question, kept_after_begin, old_of}
use Rattle.model.proofs.Names.{one_word, opening, refl, step_of, sym, true, want_of, words_after, ℕ, ◌+◌, ◌∷◌, ◌≡◌}
use Rattle.model.specs.declared.event.Answer.{Answer}
use Rattle.model.specs.declared.event.Start.{Start}
use Rattle.model.specs.declared.event.Start.TheVariants.{Atomic, Container, Loan}
use Rattle.model.specs.declared.families.Flight.{Flight}
use Rattle.model.specs.declared.families.Flight.TheVariants as flights
use Rattle.model.specs.declared.families.Registry.{Registry}
use Rattle.model.specs.declared.families.Registry.TheVariants as registries
use Rattle.model.specs.declared.families.atomic.AtomicStart.TheVariants.{AcquireProducer, HasProducer, Load, ReleaseProducer, Store, Version}
use Rattle.model.specs.declared.turn.Kind.TheVariants as kinds
use Rattle.model.specs.Families.{begin_of}
use Rattle.model.specs.Families.Atomic.Calls as calls
use Rattle.model.specs.Linearized.{is_store_or_load}
use Rattle.model.specs.Step.{Step}
use Rattle.steps.specs.declared.ask.After.TheVariants as afters
use Rattle.pages.specs.RolesBridge.{RunsByRole}
use Rattle.pages.specs.Machine as machine
use Rattle.pages.specs.Value as page
use Rattle.pages.specs.ValueBridge.{by_role}
use Rattle.pages.proofs.ByRole as hands
use Rattle.pages.proofs.Hands.{Hands, Leaves, OtherStep, OwnBegin, Sim, not_two}
use Rattle.pages.proofs.QueueHands.{free, holder_is, the_flight}
use Rattle.pages.proofs.Value.{goes, tie}

-- ---- the word of the role

-- the words where the role is taken
abbrev blank : List ℕ → List ℕ
blank (version ∷ role ∷ cells) = version ∷ 0 ∷ cells
blank words = words

-- The words of the page: the version, a word that says whether the role is free, and the cells.
record Tells (role : Option ℕ) (words : List ℕ) : Type 0 where
  version : ℕ
  cells : List ℕ
  is : words ≡ version ∷ free role ∷ cells

-- party 0 of the page stores, and every other party loads
abbrev who : Option ℕ → ℕ → Option ℕ
who role zero = role
who role (suc n) = Some n

-- ---- the calls on the role, and on the version

abbrev acquires : Flight ℕ
acquires = flights.Atomic (calls.first AcquireProducer)

abbrev releases : Flight ℕ
releases = flights.Atomic (calls.first ReleaseProducer)

abbrev looks : Flight ℕ
looks = flights.Atomic (calls.first HasProducer)

abbrev counts : Flight ℕ
counts = flights.Atomic (calls.first Version)

-- a call under way that is no store and no load is at the stage that its kind has
abbrev Other : Option ℕ → ℕ → Start ℕ → Flight ℕ → Type 0
Other role p (Atomic AcquireProducer) flight = flight ≡ acquires
Other role p (Atomic ReleaseProducer) flight = (flight ≡ releases) × (role ≡ Some p)
Other role p (Atomic HasProducer) flight = flight ≡ looks
Other role p (Atomic Version) flight = flight ≡ counts
Other role p start flight = ⊥

-- What a step of a call that the page has not comes to: no event, and no change of the page's words.
abbrev StepOf : Option ℕ → ℕ → Start ℕ → Flight ℕ → List ℕ → Option (ℕ × ℕ) → Type 0
StepOf role p start flight words beside =
    OtherStep one_word registries.Atomic who blank Tells Other role p start flight words
    (step_of one_word words beside p start flight (old_of words (ask_of (want_of one_word flight))) (registries.Atomic role))

-- a call that the page has not stays where it stands as long as its party keeps the role
others_stay : (k next : Option ℕ) (q : ℕ) → (k ≡ Some q → next ≡ Some q)
    → (start : Start ℕ) (flight : Flight ℕ) → Other k q start flight → Other next q start flight
others_stay k next q holds (Atomic ReleaseProducer) flight h = (h.0, holds h.1)
others_stay k next q holds start flight h = h

no_one : {A : Type 0} {q : ℕ} → None ≡ Some q → A
no_one e = absurd (cc)

ended : {A : Type 0} {answer : Answer ℕ} {then : Flight ℕ} → afters.Done answer ≡ afters.GoOn then → A
ended e = absurd (cc)

module _ (p version : ℕ) (cells : List ℕ) (beside : Option (ℕ × ℕ)) where
  -- a step that leaves the words and the role, and writes nothing, is as `StepOf` asks, if it ends the call or goes on as one that
  -- the page has not
  module _ (role : Option ℕ) (start : Start ℕ) (flight : Flight ℕ) where
    abbrev words_now : List ℕ
    words_now = version ∷ free role ∷ cells

    abbrev step : Step (Flight ℕ) (Registry ℕ) ℕ
    step = step_of one_word words_now beside p start flight (old_of words_now (ask_of (want_of one_word flight))) (registries.Atomic role)

    leaves_all : words_after words_now (ask_of (want_of one_word flight)) ≡ words_now → step.kept ≡ registries.Atomic role → step.wrote ≡ []
        → ((then : Flight ℕ) → step.after ≡ afters.GoOn then → Other role p start then) → StepOf role p start flight words_now beside
    leaves_all alone kept_is silent stays =
        record {
          next = role;
          kept_is = kept_is;
          silent = silent;
          blank_is = ap blank alone;
          tells = subst (Tells role) (sym alone) (record { version = version; cells = cells; is = refl });
          stays = stays;
          who_is = λ n. inl refl;
          others = λ q start flight ne h. h;
        }

  -- a step of an acquire takes the role where it is free, and tells the page nothing
  acquire : (role : Option ℕ) → StepOf role p (Atomic AcquireProducer) acquires (version ∷ free role ∷ cells) beside
  acquire None =
      record {
        next = Some p;
        kept_is = refl;
        silent = refl;
        blank_is = refl;
        tells = record { version = version; cells = cells; is = refl };
        stays = λ then e. ended e;
        who_is = who_is;
        others = λ q start flight ne h. others_stay None (Some p) q (λ e. no_one e) start flight h;
      }
    where
      -- the producer's role was free and is the party's now
      who_is : (n : ℕ) → (who (Some p) n ≡ who None n) ⊎ ((who None n ≡ None) ⊎ (who None n ≡ Some p))
      who_is zero = inr (inl refl)
      who_is (suc n) = inl refl
  acquire (Some r) = leaves_all (Some r) (Atomic AcquireProducer) acquires refl refl refl (λ then e. ended e)

  -- a step of a release frees the role, and tells the page nothing
  release : (role : Option ℕ) → role ≡ Some p → StepOf role p (Atomic ReleaseProducer) releases (version ∷ free role ∷ cells) beside
  release role holder =
      record {
        next = None;
        kept_is = refl;
        silent = refl;
        blank_is = refl;
        tells = record { version = version; cells = cells; is = refl };
        stays = λ then e. ended e;
        who_is = who_is;
        others = λ q start flight ne h. others_stay role None q (λ e. not_two holder e ne) start flight h;
      }
    where
      who_is : (n : ℕ) → (who None n ≡ who role n) ⊎ ((who role n ≡ None) ⊎ (who role n ≡ Some p))
      who_is zero = inr (inr holder)
      who_is (suc n) = inl refl

  -- a call that changes nothing
  look : (role : Option ℕ) → StepOf role p (Atomic HasProducer) looks (version ∷ free role ∷ cells) beside
  look role = leaves_all role (Atomic HasProducer) looks refl refl refl (λ then e. ended e)

  -- a step that loads the version changes nothing, and tells the page nothing
  count : (role : Option ℕ) → StepOf role p (Atomic Version) counts (version ∷ free role ∷ cells) beside
  count role = leaves_all role (Atomic Version) counts refl refl refl (λ then e. ended e)

-- a step of a call that the page has not comes to what it may
goes_other : (role : Option ℕ) (words : List ℕ) (beside : Option (ℕ × ℕ)) (p : ℕ) (start : Start ℕ) (flight : Flight ℕ)
    → Other role p start flight → Tells role words → StepOf role p start flight words beside
goes_other role words beside p (Atomic AcquireProducer) flight h tells =
    subst (λ ws. StepOf role p (Atomic AcquireProducer) flight ws beside) (sym tells.is)
    (subst (λ f. StepOf role p (Atomic AcquireProducer) f (tells.version ∷ free role ∷ tells.cells) beside) (sym h)
    (acquire p tells.version tells.cells beside role))
goes_other role words beside p (Atomic ReleaseProducer) flight h tells =
    subst (λ ws. StepOf role p (Atomic ReleaseProducer) flight ws beside) (sym tells.is)
    (subst (λ f. StepOf role p (Atomic ReleaseProducer) f (tells.version ∷ free role ∷ tells.cells) beside)
    (sym h.0) (release p tells.version tells.cells beside role h.1))
goes_other role words beside p (Atomic HasProducer) flight h tells =
    subst (λ ws. StepOf role p (Atomic HasProducer) flight ws beside) (sym tells.is)
    (subst (λ f. StepOf role p (Atomic HasProducer) f (tells.version ∷ free role ∷ tells.cells) beside) (sym h) (look p tells.version tells.cells beside role))
goes_other role words beside p (Atomic Version) flight h tells =
    subst (λ ws. StepOf role p (Atomic Version) flight ws beside) (sym tells.is)
    (subst (λ f. StepOf role p (Atomic Version) f (tells.version ∷ free role ∷ tells.cells) beside) (sym h) (count p tells.version tells.cells beside role))
goes_other role words beside p other flight h tells = absurd h

-- a call that the page has not is no store or load
not_own : (role : Option ℕ) (p : ℕ) (start : Start ℕ) (flight : Flight ℕ) → Other role p start flight → is_store_or_load start ≡ false
not_own role p (Atomic (Store value)) flight h = absurd h
not_own role p (Atomic Load) flight h = absurd h
not_own role p other flight h = refl

-- a call that the page has not puts no question
asks_nothing : (role : Option ℕ) (p : ℕ) (start : Start ℕ) (flight : Flight ℕ) → Other role p start flight → is_question (want_of one_word flight) ≡ false
asks_nothing role p (Atomic AcquireProducer) flight h = subst (λ f. is_question (want_of one_word f) ≡ false) (sym h) refl
asks_nothing role p (Atomic ReleaseProducer) flight h = subst (λ f. is_question (want_of one_word f) ≡ false) (sym h.0) refl
asks_nothing role p (Atomic HasProducer) flight h = subst (λ f. is_question (want_of one_word f) ≡ false) (sym h) refl
asks_nothing role p (Atomic Version) flight h = subst (λ f. is_question (want_of one_word f) ≡ false) (sym h) refl
asks_nothing role p other flight h = absurd h

-- ---- the calls of the page

-- a store or load that the model lets begin is a call of the page, by the party of its role or by a loader
own : (k : Option ℕ) (p : ℕ) (start : Start ℕ) (flight : Flight ℕ) → is_store_or_load start ≡ true
    → first_of kinds.Atomic 1 start (registries.Atomic k) ≡ Some flight
    → first_row ((begin_of kinds.Atomic 1 start).rows (registries.Atomic k) p) ≡ None
    → OwnBegin by_role tie (who k) p start flight
unfolding tie
own k p (Atomic (Store value)) flight mine named rows =
    record { call = page.StoreValue value; start_is = refl; flight_is = the_flight named; who_is = holder_is k p rows; may = refl }
own k p (Atomic Load) flight mine named rows =
    let next : suc p ≡ p + 1 = omega arith in
    record { call = page.LoadValue; start_is = refl; flight_is = the_flight named; who_is = subst (λ n. who k n ≡ Some p) next refl; may = refl }
own k p other flight mine named rows = absurd (cc)

-- any other call that it lets begin is one that the page has not
other : (k : Option ℕ) (p : ℕ) (start : Start ℕ) (flight : Flight ℕ) → is_store_or_load start ≡ false
    → first_of kinds.Atomic 1 start (registries.Atomic k) ≡ Some flight
    → first_row ((begin_of kinds.Atomic 1 start).rows (registries.Atomic k) p) ≡ None
    → Other k p start flight
other k p (Atomic AcquireProducer) flight mine named rows = the_flight named
other k p (Atomic ReleaseProducer) flight mine named rows = (the_flight named, holder_is k p rows)
other k p (Atomic HasProducer) flight mine named rows = the_flight named
other k p (Atomic Version) flight mine named rows = the_flight named
other k p start flight mine named rows = absurd (cc)

-- as a call begins the role stays
keeps : (k : Option ℕ) (p : ℕ) (start : Start ℕ) (flight : Flight ℕ)
    → first_of kinds.Atomic 1 start (registries.Atomic k) ≡ Some flight
    → kept_after_begin one_word 1 start p (registries.Atomic k) ≡ registries.Atomic k
keeps k p (Container start) flight named = absurd (cc)
keeps k p (Loan start) flight named = absurd (cc)
keeps k p start flight named = refl

module _ (role : Option ℕ) (words : List ℕ) (t : Tells role words) where
  at_version : Leaves blank (Tells role) words 0
  at_version =
      subst (λ ws. Leaves blank (Tells role) ws 0) (sym t.is)
      (record { old = refl; new = λ value. refl; tells = λ value u. record { version = value; cells = t.cells; is = refl } })

  -- a step at a word of a cell leaves the word of the role
  at_cell : (n : ℕ) → Leaves blank (Tells role) words (2 + n)
  at_cell n =
      let far : suc (suc n) ≡ 2 + n = omega arith in
      subst (Leaves blank (Tells role) words) far
      (subst (λ ws. Leaves blank (Tells role) ws (suc (suc n))) (sym t.is)
      (record { old = refl; new = λ value. refl; tells = λ value u. record { version = t.version; cells = slice_set t.cells n value; is = refl } }))

-- a step of a call of the page leaves the word of the role
leaves : (k : Option ℕ) (words : List ℕ) (stage : page.Stage) → Tells k words → Leaves blank (Tells k) words (page.does stage).0
leaves k words (page.StoreLoadsVersion value) tells = at_version k words tells
leaves k words (page.StoreStoresCell value version) tells = at_cell k words tells _
leaves k words (page.StoreAddsVersion value) tells = at_version k words tells
leaves k words page.LoadLoadsVersion tells = at_version k words tells
leaves k words (page.LoadLoadsCell version) tells = at_cell k words tells _
leaves k words (page.LoadChecksVersion version value) tells = at_version k words tells

-- what is to be shown of the single value where its role changes hands
handed : Hands by_role tie (Option ℕ)
unfolding tie
handed =
    record {
      registry = registries.Atomic;
      who = who;
      blank = blank;
      Tells = Tells;
      Other = Other;
      own = own;
      other = other;
      keeps = keeps;
      goes = λ k words beside p r stage old fit. goes k words beside p r stage old;
      leaves = λ k words stage fit t. leaves k words stage t;
      not_own = not_own;
      goes_other = λ k words beside p start flight h t. goes_other k words beside p start flight h t;
      asks_nothing = asks_nothing;
      no_owners = λ k. refl;
    }

-- at the opening the two machines are the same
opens : Sim handed (machine.opening page.value) (opening one_word kinds.Atomic 1 0)
unfolding handed
opens =
    record {
      k = None;
      words = 1 ∷ 1 ∷ 0 ∷ 0 ∷ [];
      latest = [];
      changes = 0;
      turns = 0;
      events = [];
      is = refl;
      inv =
          record {
            blanked = refl;
            tells = record { version = 1; cells = 0 ∷ 0 ∷ []; is = refl };
            told_is = refl;
            stands = λ p. tt;
            held = λ n stage e. absurd (cc);
          };
    }

pub runs_by_role : RunsByRole by_role page.value (opening one_word kinds.Atomic 1 0)
runs_by_role = hands.by_role opens

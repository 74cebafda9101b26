-- What the three queues share where their roles change hands: from what is to be shown of one queue (`QueueHands`), the model's
-- machine runs the page.
use Rattle.model.proofs.Names.{Coding, List, None, Option, Some, Trace, [], first_of, first_row, false, kept_after_begin, refl, step_of, true, ℕ, ◌∷◌, ◌≡◌}
use Rattle.model.specs.declared.event.Start.{Start}
use Rattle.model.specs.declared.event.Start.TheVariants.{Container, Loan, Queues}
use Rattle.model.specs.declared.families.Flight.{Flight}
use Rattle.model.specs.declared.families.Registry.TheVariants as registries
use Rattle.model.specs.declared.families.queues.QueueKind.{QueueKind}
use Rattle.model.specs.declared.families.queues.QueueKind.TheVariants.{IndexQueue, Overflow, Queue}
use Rattle.model.specs.declared.families.queues.Roles.{Roles}
use Rattle.model.specs.Families.{begin_of}
use Rattle.model.specs.Linearized.{is_push_or_pop}
use Rattle.laws_queues.specs.Kinds.{machine_kind}
use Rattle.pages.specs.RolesBridge.{Naming, RunsByRole}
use Rattle.pages.specs.Machine as machine
use Rattle.pages.specs.Reading.{ReadingOf}
use Rattle.pages.proofs.ByRole.{by_role}
use Rattle.pages.proofs.Hands.{Hands, Leaves, OwnBegin, Sim, trace}
use Rattle.pages.proofs.QueueHands.{Other, Tells, asks_nothing, blank, goes_other, not_own, other_begins, who}
use Rattle.pages.proofs.Roles.{kept}
use Rattle.pages.proofs.Simulates.{StepIs, TieOf}

module _ {T : Type 0} where
  -- any call but a push or a pop that the model lets begin is one that the page has not
  pub other : (kind : QueueKind) (c : ℕ) (k : Roles) (p : ℕ) (start : Start T) (flight : Flight T) → is_push_or_pop start ≡ false
      → first_of (machine_kind kind) c start (registries.Queues k) ≡ Some flight
      → first_row ((begin_of (machine_kind kind) c start).rows (registries.Queues k) p) ≡ None
      → Other k p start flight
  other IndexQueue c k p (Queues start) flight mine named rows = other_begins IndexQueue c k p start flight mine named rows
  other Overflow c k p (Queues start) flight mine named rows = other_begins Overflow c k p start flight mine named rows
  other Queue c k p (Queues start) flight mine named rows = other_begins Queue c k p start flight mine named rows
  other IndexQueue c k p start flight mine named rows = absurd (cc)
  other Overflow c k p start flight mine named rows = absurd (cc)
  other Queue c k p start flight mine named rows = absurd (cc)

  -- as a call begins the roles stay
  pub keeps : (kind : QueueKind) (c : ℕ) (code : Coding T) (k : Roles) (p : ℕ) (start : Start T) (flight : Flight T)
      → first_of (machine_kind kind) c start (registries.Queues k) ≡ Some flight
      → kept_after_begin code c start p (registries.Queues k) ≡ registries.Queues k
  keeps IndexQueue c code k p (Container start) flight named = absurd (cc)
  keeps Overflow c code k p (Container start) flight named = absurd (cc)
  keeps Queue c code k p (Container start) flight named = absurd (cc)
  keeps IndexQueue c code k p (Loan start) flight named = absurd (cc)
  keeps Overflow c code k p (Loan start) flight named = absurd (cc)
  keeps Queue c code k p (Loan start) flight named = absurd (cc)
  keeps kind c code k p start flight named = refl

module _ {T Call Stage Answer Room : Type 0} {of : machine.Structure Call Stage Answer} {read : ReadingOf T Call Answer}
    (number : ℕ → Call → ℕ) (kind : QueueKind) {capacity : ℕ} {code : Coding T}
    (tie : TieOf Room of read is_push_or_pop (machine_kind kind) capacity kept code)
  where
    abbrev naming : Naming T Call Answer
    naming = record { reading = read; is_call = is_push_or_pop; number = number }

    -- What is to be shown of a queue: a push or pop that the model lets begin is a call of the page, by the party of its role
    -- (`own`); a step of it comes to what the page's step comes to (`goes`), and leaves the words of the roles (`leaves`).
    pub record QueueHands : Type 0 where
      pub own : (k : Roles) (p : ℕ) (start : Start T) (flight : Flight T) → is_push_or_pop start ≡ true
          → first_of (machine_kind kind) capacity start (registries.Queues k) ≡ Some flight
          → first_row ((begin_of (machine_kind kind) capacity start).rows (registries.Queues k) p) ≡ None
          → OwnBegin naming tie (who k) p start flight
      pub goes : (k : Roles) (words : List ℕ) (beside : Option (ℕ × ℕ)) (p : ℕ) (r : Room) (stage : Stage) (old : ℕ) → tie.fits stage ≡ true
          → StepIs Room of read is_push_or_pop (machine_kind kind) capacity (registries.Queues k) tie.flight tie.answered
          (step_of code words beside p (tie.start (tie.call_at stage)) (tie.flight r stage) old (registries.Queues k)) ((of.does stage).2 old)
      pub leaves : (k : Roles) (words : List ℕ) (stage : Stage) → Tells k words → Leaves blank (Tells k) words (of.does stage).0

    module _ (queue : QueueHands) where
      -- what is to be shown of a queue where its roles change hands
      abbrev pub handed : Hands naming tie Roles
      handed =
          record {
            registry = registries.Queues;
            who = who;
            blank = blank;
            Tells = Tells;
            Other = Other;
            own = queue.own;
            other = other kind capacity;
            keeps = keeps kind capacity code;
            goes = queue.goes;
            leaves = λ k words stage fit t. queue.leaves k words stage t;
            not_own = not_own;
            goes_other = λ k words beside p start flight h t. goes_other code k words beside p start flight h t;
            asks_nothing = asks_nothing code;
            no_owners = λ k. refl;
          }

      -- the model's machine that opens with the page's cells, both positions at 0 and both roles free runs the page
      pub queue_runs : {opened : Trace T} (cells : List ℕ) → of.words ≡ 0 ∷ 0 ∷ 0 ∷ 0 ∷ cells
          → opened ≡ trace handed (registries.Queues (record { producer = None; consumer = None })) (0 ∷ 0 ∷ 1 ∷ 1 ∷ cells) [] 0 0 []
          → RunsByRole naming of opened
      queue_runs {opened} cells blanked is = by_role opens
        where
          -- at the opening the two machines are the same
          opens : Sim handed (machine.opening of) opened
          opens =
              record {
                k = record { producer = None; consumer = None };
                words = 0 ∷ 0 ∷ 1 ∷ 1 ∷ cells;
                latest = [];
                changes = 0;
                turns = 0;
                events = [];
                is = is;
                inv =
                    record {
                      blanked = blanked;
                      tells = record { write = 0; read = 0; cells = cells; is = refl };
                      told_is = refl;
                      stands = λ p. tt;
                      held = λ n stage e. absurd (cc);
                    };
              }

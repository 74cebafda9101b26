-- What the pages of the three queues share: the roles, the effects of a step, and the two acquires before the page begins.
use Rattle.std.specs.List.{AllByRecursion, Contains}
use Rattle.std.proofs.Common.{◌^◌, drop, is_some}
use Rattle.std.proofs.lemmas.Bool.Decides.{nat_tests}
use Rattle.std.specs.Ordering.{is_eq, nat_cmp}
use Rattle.model.proofs.Names.{Bool, Coding, IsCoding, IsReached, List, None, Option, Some, Trace, [], ap, arith, cond, doing_of, false, fold}
use Rattle.model.proofs.Names.{first_row, flight_of, length, map, not, one_word, refl, true, ℕ, ⊎_elim, ◌++◌, ◌+◌, ◌<◌, ◌==◌, ◌∷◌, ◌≡◌}
use Rattle.model.proofs.Names as model
use Rattle.model.specs.declared.event.Answer.{Answer}
use Rattle.model.specs.declared.event.Answer.TheVariants.{Truth}
use Rattle.model.specs.declared.event.Event.{Event}
use Rattle.model.specs.declared.event.Item.{Item}
use Rattle.model.specs.declared.event.Item.TheVariants.{Index, Value}
use Rattle.model.specs.declared.event.Start.TheVariants.{Queues}
use Rattle.model.specs.declared.families.Registry.{Registry}
use Rattle.model.specs.declared.families.Registry.TheVariants as registries
use Rattle.model.specs.declared.families.queues.QueueStart.{QueueStart}
use Rattle.model.specs.declared.families.queues.QueueStart.TheVariants.{AcquireProducer, AcquireConsumer}
use Rattle.model.specs.declared.families.queues.Roles.{Roles}
use Rattle.model.specs.declared.families.queues.effects.Effect.{Effect}
use Rattle.model.specs.declared.families.queues.effects.Effect.TheVariants.{Quiet, Acts, Publishes, PublishesAndActs, HandsOut, TakesOut, MakesRoom}
use Rattle.model.specs.declared.party.Doing.TheVariants.{Over}
use Rattle.model.specs.declared.party.Party.{Party}
use Rattle.model.specs.declared.turn.Kind.{Kind}
use Rattle.model.specs.declared.turn.Refusal.TheVariants.{NoRole, WrongCall}
use Rattle.model.specs.declared.turn.Turn.{Turn}
use Rattle.model.specs.Families.Queues.Steps.{effects_of}
use Rattle.model.specs.Linearizable.{calls_from, calls_of}
use Rattle.model.specs.Linearized.{is_push_or_pop}
use Rattle.model.specs.Turns.{run}
use Rattle.model.proofs.Linearizable.Members.{split, there}
use Rattle.pages.specs.IndexQueueBridge.{roles_told}
use Rattle.pages.specs.Machine as machine
use Rattle.pages.specs.Reading.{ReadingOf, all_seen}
use Rattle.pages.proofs.Relates.{Meets, as_turn, trace}
use Rattle.pages.proofs.Runs.{all_within, meets_after, no_rules}
use Rattle.pages.proofs.Seen.{IsOwn}
use Rattle.pages.proofs.Simulates.{TieOf, relation}

-- ---- the roles

abbrev pub held : Roles
held = record { producer = Some 0; consumer = Some 1 }

abbrev pub kept : {T : Type 0} → Registry T
kept = registries.Queues held

-- who is the holder has the role, and no other has
pub holds_row : (holder p : ℕ) → (p == holder) ≡ true → first_row ((false, WrongCall) ∷ (not (holder == p), NoRole) ∷ []) ≡ None
holds_row holder p e = let is_same : (holder == p) ≡ true = grind (arith, nat_tests) in rw is_same refl

pub lacks_row : (holder p : ℕ) → (p == holder) ≡ false → is_some (first_row ((false, WrongCall) ∷ (not (holder == p), NoRole) ∷ [])) ≡ true
lacks_row holder p e = let is_other : (holder == p) ≡ false = grind (arith, nat_tests) in rw is_other refl

-- ---- the effects of a step

-- the effects of a step of a queue's call are no invocations and no responses
pub effects_unseen : {T Call Answered : Type 0} (read : ReadingOf T Call Answered) (p : ℕ) (start : QueueStart T)
    (eff : Effect T) (outcome : Option (Answer T))
    → all_seen read (effects_of p start eff outcome) ≡ []
effects_unseen read p start Quiet outcome = refl
effects_unseen read p start Acts None = refl
effects_unseen read p start Acts (Some answer) = refl
effects_unseen read p start (Publishes item) None = refl
effects_unseen read p start (Publishes item) (Some answer) = refl
effects_unseen read p start (PublishesAndActs item) outcome = refl
effects_unseen read p start (HandsOut item) None = refl
effects_unseen read p start (HandsOut item) (Some answer) = refl
effects_unseen read p start (TakesOut index) outcome = refl
effects_unseen read p start (MakesRoom item q pushed) None = refl
effects_unseen read p start (MakesRoom item q pushed) (Some answer) = refl

-- what a step writes begins no call but a push or a pop
pub effects_own : {T : Type 0} → (p : ℕ) (start : QueueStart T) (eff : Effect T) (outcome : Option (Answer T))
    → AllByRecursion (IsOwn is_push_or_pop) (effects_of p start eff outcome)
effects_own p start Quiet outcome = tt
effects_own p start Acts None = tt
effects_own p start Acts (Some answer) = (tt, tt)
effects_own p start (Publishes item) None = (tt, tt)
effects_own p start (Publishes item) (Some answer) = (tt, (tt, tt))
effects_own p start (PublishesAndActs item) outcome = (tt, (tt, tt))
effects_own p start (HandsOut item) None = (tt, tt)
effects_own p start (HandsOut item) (Some answer) = (tt, (tt, tt))
effects_own p start (TakesOut index) outcome = (tt, (tt, tt))
effects_own p start (MakesRoom item q pushed) None = (tt, (tt, tt))
effects_own p start (MakesRoom item q pushed) (Some answer) = (tt, (tt, (tt, tt)))

-- ---- the numbers in a list

abbrev pub number : Item ℕ → ℕ
number (Index value) = value
number (Value value) = value

pub number_rest : (items : List (Item ℕ)) → map number (drop 1 items) ≡ drop 1 (map number items)
number_rest [] = refl
number_rest (item ∷ items) = refl

-- ---- behind the two acquires

abbrev pub producer : {T : Type 0} → model.Call T
producer = record { place = 0; party = 0; start = Queues AcquireProducer; response = Some (record { place = 1; answer = Truth true }) }

abbrev pub consumer : {T : Type 0} → model.Call T
consumer = record { place = 2; party = 1; start = Queues AcquireConsumer; response = Some (record { place = 3; answer = Truth true }) }

-- each push and pop of a history that begins with the two acquires was begun after them
pub among : {T : Type 0} → (es : List (Event T)) (c : model.Call T) → is_push_or_pop c.start ≡ true
    → Contains (calls_of (roles_told ++ es)) c → Contains (calls_from es 4) c
among {T} es c mine is =
    ⊎_elim (λ e. let other : false ≡ is_push_or_pop c.start = ap (λ (x : model.Call T). is_push_or_pop x.start) e in absurd (cc))
    (λ more.
    ⊎_elim (λ e. let other : false ≡ is_push_or_pop c.start = ap (λ (x : model.Call T). is_push_or_pop x.start) e in absurd (cc)) (λ rest. rest)
    (split consumer c (calls_from es 4) more))
    (split producer c (consumer ∷ calls_from es 4) is)

pub within : {T : Type 0} → (es : List (Event T)) (c : model.Call T) → Contains (calls_from es 4) c → Contains (calls_of (roles_told ++ es)) c
within es c is = there producer c (consumer ∷ calls_from es 4) (there consumer c (calls_from es 4) is)

-- ---- the opening

pub coded : IsCoding one_word
coded = grind arith

-- A party that is one of these two, or none at all, has no call under way if neither of the two has.
pub idle : {T : Type 0} → (x y : Party T) → flight_of (doing_of (Some x)) ≡ None → flight_of (doing_of (Some y)) ≡ None → (a b : Bool)
    → flight_of (doing_of (cond a (Some x) (cond b (Some y) None))) ≡ None
idle x y free too true b = free
idle x y free too false true = too
idle x y free too false false = refl

-- a party whose acquire of a role is over
abbrev had : {T : Type 0} → QueueStart T → Party T
had start = record { start = Queues start; steps = 1; backs = 0; doing = Over 0 }

module _ {T Call Stage Answered Room : Type 0} {of : machine.Structure Call Stage Answered} {read : ReadingOf T Call Answered} {kind : Kind}
    {capacity : ℕ} {code : Coding T} (tie : TieOf Room of read is_push_or_pop kind capacity kept code)
  where
    -- the model's machine with these words once parties 0 and 1 have acquired the roles
    abbrev pub acquired_with : List ℕ → Trace T
    acquired_with words =
        trace (relation tie roles_told) 2
        (record {
          kept = kept;
          words = words;
          latest = (0, had AcquireProducer) ∷ (1, had AcquireConsumer) ∷ [];
          changes = 2;
          turns = 4;
          events = roles_told;
        })

    -- If the model's machine has the page's words once the roles are acquired, fewer than 2^63 turns of the two parties lead to
    -- where the two machines meet.
    pub meets_acquired : {t : Trace T} → IsReached t → t ≡ acquired_with of.words → ((p : ℕ) (call : Call) → of.may p call ≡ true → p < 2)
        → (named : machine.Turn Call → Turn T) → ((turn : machine.Turn Call) → as_turn (relation tie roles_told) 2 turn ≡ named turn)
        → (turns : List (machine.Turn Call)) → length turns < 2 ^ 63
        → Meets (relation tie roles_told) 2 (fold (machine.turned of) (machine.opening of) turns) (0 + length turns) (run (map named turns) t)
    meets_acquired {t} reached is below named same turns small =
        let law = relation tie roles_told in
        meets_after law 2 opens named same turns (all_within law 2 below turns) (no_rules law 2 (λ w turn. tt) turns (machine.opening of)) small
      where
        opens : Meets (relation tie roles_told) 2 (machine.opening of) 0 t
        opens =
            record {
              latest = (0, had AcquireProducer) ∷ (1, had AcquireConsumer) ∷ [];
              changes = 2;
              turns = 4;
              kept = kept;
              events = roles_told;
              few = omega arith;
              is = is;
              reached = reached;
              related = record { kept_is = refl; later = []; is = refl; told = refl; own = tt };
              matches = λ p. idle (had AcquireProducer) (had AcquireConsumer) refl refl (is_eq (nat_cmp p 0)) (is_eq (nat_cmp p 1));
            }

-- Each step of a call on a role keeps the invariant. A role's word is 1 while the role is free.
use Rattle.laws_queues.proofs.Names.{◌≡◌, ◌≢◌, ℕ, ◌+◌, ◌≤◌, ◌==◌, false, is_none, Option, Some, None, [], ◌∷◌, fold}
use Rattle.laws_queues.proofs.Names.{refl, Ask, Done, Queues, Quiet, QueueKind, Coding, RoleCall, Role, Roles}
use Rattle.laws_queues.proofs.Names.{QueueStart, Answer, Finished, Party, most_steps, words_after, roles_after}
use Rattle.laws_queues.proofs.Names.{producer_after, consumer_after, pending, put, producer_of, consumer_of}
use Rattle.laws_queues.proofs.Names.{flight_of, Wrote, TellsLength, GrantsRight, AcquireProducer, ReleaseProducer}
use Rattle.laws_queues.proofs.Names.{AcquireConsumer, ReleaseConsumer, HasProducer, HasConsumer, Acquire, Release}
use Rattle.laws_queues.proofs.Names.{Look, Exchange, Store, Load, producer_word, consumer_word, not, ap, ◌∙◌}
use Rattle.std.proofs.Common.{arith}
use Rattle.model.specs.declared.event.Answer.TheVariants as answers
use Rattle.laws_queues.proofs.Queues.Core.{Core}
use Rattle.laws_queues.proofs.Queues.Invariant.{Scene}
use Rattle.laws_queues.proofs.Queues.Keeping.{KeepsRoles, kept, keeps_same}
use Rattle.laws_queues.proofs.Queues.Knows.{free, layout, Hangs, RoleAt}
use Rattle.laws_queues.proofs.Queues.Pending.{pending_here, few_wait, none_hangs}
use Rattle.laws_queues.proofs.Queues.Stages.{TakesStep, DoesStep, StepOf, still_hangs, ends}

-- the word tells whether the role is free
free_is : (o : Option ℕ) → (free o == 1) ≡ is_none o
free_is None = refl
free_is (Some p) = refl

-- `ro` are the holders of the roles, and `k` is the queue, before party `p` asks for a role by an exchange
module _ (T : Type 0) {V : Type 0} (ro : Roles) (k : Core V) (p : ℕ) where
  -- the exchange that asks for the producer's role leaves the words of a queue with the holders that its answer makes
  producer_words : words_after (layout ro k) (Some (record { word = producer_word; op = Exchange 1 0 }))
      ≡ layout (roles_after {T = T} p AcquireProducer (Some (answers.Truth (free ro.producer == 1))) ro) k
  producer_words = grind arith

  -- the exchange that asks for the consumer's role leaves the words of a queue with the holders that its answer makes
  consumer_words : words_after (layout ro k) (Some (record { word = consumer_word; op = Exchange 1 0 }))
      ≡ layout (roles_after {T = T} p AcquireConsumer (Some (answers.Truth (free ro.consumer == 1))) ro) k
  consumer_words = grind arith

-- the party has a call on a role under way, which has taken no step
module _ {T : Type 0} {en : Coding T} {kd : QueueKind} {scene : Scene T kd} (takes : TakesStep en kd scene) (few_steps : scene.steps ≤ 0) where
  open scene use {capacity as c, roles as ro, core as k, party as p, steps, backs, latest, events}
  open takes use {inv, no_backs, before}

  -- by the events the producer's role has the holder that it has in the machine
  producer_is : producer_of events ≡ ro.producer
  producer_is = inv.queue.producers

  -- by the events the consumer's role has the holder that it has in the machine
  consumer_is : consumer_of events ≡ ro.consumer
  consumer_is = inv.queue.consumers

  -- the call ends with this answer, which is right of the roles
  module _ (start : QueueStart T) (call : RoleCall) (at : RoleAt ro p start call) (answer : Answer T)
      (right : GrantsRight events (Finished p (Queues start) answer)) where
    -- the holders of the roles once the call has ended
    abbrev ro' : Roles
    ro' = roles_after p start (Some answer) ro

    -- with the end of the call the events say who holds the producer's role
    producers : fold producer_after ro.producer (Finished p (Queues start) answer ∷ []) ≡ ro'.producer
    producers = grind arith

    -- with the end of the call the events say who holds the consumer's role
    consumers : fold consumer_after ro.consumer (Finished p (Queues start) answer ∷ []) ≡ ro'.consumer
    consumers = grind arith

    -- a call on a role writes nothing before its end
    wrote : Wrote kd c start answer []
    wrote = grind arith

    -- a call on a role tells no length
    tells : TellsLength c events (Finished p (Queues start) answer)
    tells = grind arith

    -- a call on a role may take one step
    most : most_steps en.size kd start (backs + 0) ≡ 1
    most = grind arith

    -- other parties keep their roles
    keeps : (q : ℕ) → q ≢ p → KeepsRoles ro ro' q
    keeps = grind (arith, producer_is, consumer_is)

    -- more than the capacity wait only while a push is pending, and the call is none
    hangs : (y : Party T) → flight_of (Some y.doing) ≡ None → Hangs T kd c k (pending k.read ro'.producer (put p y latest))
    hangs = grind (arith, still_hangs, none_hangs, few_wait, pending_here, producer_is)

    -- the operation that ends the call, and leaves the words of a queue whose roles have these holders, keeps the invariant
    role_ends : (ask : Ask) → words_after (layout ro k) (Some ask) ≡ layout ro' k → DoesStep en kd scene [] start (Some ask) false (Done answer) Quiet
    role_ends ask words = (
      k,
      words,
      ends inv (record {
        start = start;
        answer = answer;
        ask = Some ask;
        back = false;
        roles_then = ro';
        written = [];
        producers = producers;
        consumers = consumers;
        wrote = wrote;
        tells = tells;
        grants = right;
        steps = rw most (omega arith);
        paid = omega arith;
        hangs = hangs _ refl;
        others = λ q ne. kept (keeps q ne) en c kd k k (keeps_same en kd c _ k q);
      }),
    )

  -- each step of a call on a role keeps the invariant (`Shows`)
  pub role_step : (start : QueueStart T) (call : RoleCall) → RoleAt ro p start call → StepOf en kd scene start (Role call)
  role_step AcquireProducer (Acquire run) at =
      rw at (role_ends AcquireProducer (Acquire run) at (answers.Truth (free ro.producer == 1)) (rw producer_is (ap answers.Truth (free_is ro.producer)))
      (record { word = producer_word; op = Exchange 1 0 }) (producer_words T ro k p))
  role_step ReleaseProducer (Release run) at =
      rw at.0 (role_ends ReleaseProducer (Release run) at answers.Done (refl, producer_is ∙ at.1) (record { word = producer_word; op = Store 1 }) refl)
  role_step AcquireConsumer (Acquire run) at =
      rw at (role_ends AcquireConsumer (Acquire run) at (answers.Truth (free ro.consumer == 1)) (rw consumer_is (ap answers.Truth (free_is ro.consumer)))
      (record { word = consumer_word; op = Exchange 1 0 }) (consumer_words T ro k p))
  role_step ReleaseConsumer (Release run) at =
      rw at.0 (role_ends ReleaseConsumer (Release run) at answers.Done (refl, consumer_is ∙ at.1) (record { word = consumer_word; op = Store 1 }) refl)
  role_step HasProducer (Look run) at =
      rw at (role_ends HasProducer (Look run) at (answers.Truth (not (free ro.producer == 1)))
      (rw producer_is (ap (λ b. answers.Truth (not b)) (free_is ro.producer))) (record { word = producer_word; op = Load }) refl)
  role_step HasConsumer (Look run) at =
      rw at (role_ends HasConsumer (Look run) at (answers.Truth (not (free ro.consumer == 1)))
      (rw consumer_is (ap (λ b. answers.Truth (not b)) (free_is ro.consumer))) (record { word = consumer_word; op = Load }) refl)
  role_step start call at = absurd at

-- What both ends of a queue have of the pass that was parted into them.
use Rattle.std.proofs.Common.{◌≡◌, Option, Some, None, IfSome, List, ◌++◌, ap, subst, ◌∙◌, arith}
use Rattle.steps.specs.declared.queues.roles.Role.TheVariants as roles
use Rattle.model.specs.declared.event.Event.{Event}
use Rattle.model.specs.declared.turn.Turn.{Turn}
use Rattle.lock_free.specs.History.{AreFirst, IsBeginning}
use Rattle.lock_free.specs.QueueEnds.Consumer.{Consumer}
use Rattle.lock_free.specs.QueueEnds.Pass.{Pass}
use Rattle.lock_free.specs.QueueEnds.Producer.{Producer}
use Rattle.lock_free.specs.QueueEnds.rule.Kind as kinds
use Rattle.lock_free.specs.Queues.Rings.{queue_of, view, consumer_queue, consumer_view, producer_queue, producer_view}
use Rattle.lock_free.specs.Words
use Rattle.lock_free_queues.specs.Queues.Ends.{AreEnds}
use Rattle.uses_laws.specs.Parted.{HasParted, role_taken}

-- what holds of the value of an option may be replaced by what follows from it
pub each_such : {A : Type 0} (o : Option A) (P Q : A → Type 0) → ((x : A) → P x → Q x) → IfSome o P → IfSome o Q
each_such None P Q more one = tt
each_such (Some x) P Q more one = more x one

module _ {E T : Type 0} {kind : kinds.Ghosts E} {words : Words.Ghosts T} (pass : Pass E T kind words)
    (producer : Producer E T kind words) (consumer : Consumer E T kind words) (ends : AreEnds pass producer consumer) where
  pub same_queue : (producer_queue producer ≡ queue_of pass) × (consumer_queue consumer ≡ queue_of pass)
  same_queue = (ends.produces.queue ∙ ends.queue, ends.consumes.queue ∙ ends.right_queue)

  -- the ends and the pass agree, in what each has seen, made and asked for
  pub parted : HasParted (view pass) (producer_view producer) (consumer_view consumer)
  parted =
      let cut = ends.cut in
      let pushing = ends.produces in
      let popping = ends.consumes in
      let one = ends.producer_acquired in
      let two = ends.consumer_acquired in
      let old = view pass in
      let left = view ends.left in
      let right = view ends.right in
      let a = ends.cut_steps in
      let b = ends.producer_steps in
      let d = ends.consumer_steps in
      record {
        -- each end has half of the share, and goes on from what the pass knew
        producing =
            record {
              share = pushing.goes.share ∙ cut.share;
              since = subst (λ (es : List (Event T)). IsBeginning es (producer_view producer).seen) cut.seen pushing.goes.since;
              first = subst (λ (ts : List (Turn T)). AreFirst ts (producer_view producer).turns) cut.turns pushing.goes.first;
            };
        consuming =
            record {
              share = popping.goes.share ∙ cut.right_share;
              since = subst (λ (es : List (Event T)). IsBeginning es (consumer_view consumer).seen) cut.right_seen popping.goes.since;
              first = subst (λ (ts : List (Turn T)). AreFirst ts (consumer_view consumer).turns) cut.right_turns popping.goes.first;
            };
        -- each has acquired its role; the split and both acquires are three operations
        by = one.by;
        then_by = two.by;
        produces = one.called.made ∙ ap (λ (es : List (Event T)). es ++ role_taken one.by roles.Producer) cut.made;
        consumes = two.called.made ∙ ap (λ (es : List (Event T)). es ++ role_taken two.by roles.Consumer) cut.right_made;
        asked = omega arith;
        aside = omega arith;
      }

-- The index queue of the model, on which roles change hands, runs the page.
use Rattle.std.proofs.Common.{◌*◌, ◌^◌, replicate}
use Rattle.model.proofs.Names.{List, None, Some, ap, arith, first_of, first_row, one_word, opening}
use Rattle.model.proofs.Names.{refl, true, ℕ, ◌<◌, ◌∷◌, ◌≡◌}
use Rattle.model.specs.declared.event.Start.{Start}
use Rattle.model.specs.declared.event.Start.TheVariants.{Queues}
use Rattle.model.specs.declared.families.Flight.{Flight}
use Rattle.model.specs.declared.families.Registry.TheVariants as registries
use Rattle.model.specs.declared.families.queues.QueueKind.TheVariants as queue_kinds
use Rattle.model.specs.declared.families.queues.QueueStart.TheVariants.{Pop, Push, PushIndex}
use Rattle.model.specs.declared.families.queues.Roles.{Roles}
use Rattle.model.specs.declared.turn.Kind.TheVariants as kinds
use Rattle.model.specs.Families.{begin_of}
use Rattle.model.specs.Linearized.{is_push_or_pop}
use Rattle.pages.specs.RolesBridge.{RunsByRole}
use Rattle.pages.specs.IndexQueue as page
use Rattle.pages.specs.IndexQueueBridge.{by_role, number}
use Rattle.pages.proofs.Hands.{Leaves, OwnBegin}
use Rattle.pages.proofs.Queue.{goes, tie}
use Rattle.pages.proofs.QueueHands.{Tells, at_cell, at_read, at_write, blank, holder_is, the_flight, who}
use Rattle.pages.proofs.QueuesByRole.{QueueHands, queue_runs}

module _ (c : ℕ) (few : c < 2 ^ 32) where
  -- a push or pop that the model lets begin is a call of the page, by the party of its role
  own : (k : Roles) (p : ℕ) (start : Start ℕ) (flight : Flight ℕ) → is_push_or_pop start ≡ true
      → first_of kinds.IndexQueue c start (registries.Queues k) ≡ Some flight
      → first_row ((begin_of kinds.IndexQueue c start).rows (registries.Queues k) p) ≡ None
      → OwnBegin by_role (tie c few) (who k) p start flight
  unfolding tie
  own k p (Queues (PushIndex value)) flight mine named rows =
      record { call = page.Push value; start_is = refl; flight_is = the_flight named; who_is = holder_is k.producer p rows; may = refl }
  own k p (Queues (Push value)) flight mine named rows = absurd (cc)
  own k p (Queues Pop) flight mine named rows =
      record { call = page.Pop; start_is = refl; flight_is = the_flight named; who_is = holder_is k.consumer p rows; may = refl }
  own k p other flight mine named rows = absurd (cc)

  -- a step of a call of the page leaves the words of the roles
  leaves : (k : Roles) (words : List ℕ) (stage : page.Stage) → Tells k words → Leaves blank (Tells k) words (page.does c stage).0
  leaves k words (page.PushLoadsWrite value) tells = at_write k words tells
  leaves k words (page.PushLoadsRead value write) tells = at_read k words tells
  leaves k words (page.PushStoresCell value write) tells = at_cell k words tells _
  leaves k words (page.PushStoresWrite value write) tells = at_write k words tells
  leaves k words page.PopLoadsRead tells = at_read k words tells
  leaves k words (page.PopLoadsWrite read) tells = at_write k words tells
  leaves k words (page.PopLoadsCell read) tells = at_cell k words tells _
  leaves k words (page.PopStoresRead read value) tells = at_read k words tells

  -- what is to be shown of the index queue where its roles change hands
  handed : QueueHands number queue_kinds.IndexQueue (tie c few)
  unfolding tie
  handed = record { own = own; goes = λ k words beside p r stage old fit. goes c k words beside p stage old; leaves = leaves }

  -- the model's machine, as it opens, runs the page
  pub runs_by_role : RunsByRole by_role (page.index_queue c) (opening one_word kinds.IndexQueue c 0)
  runs_by_role =
      let cells : c ≡ 1 * c = omega arith in
      queue_runs number queue_kinds.IndexQueue (tie c few) handed (replicate (1 * c) 0) (ap (λ n. 0 ∷ 0 ∷ 0 ∷ 0 ∷ replicate n 0) cells) refl

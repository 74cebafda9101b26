-- The queue of values of the model, on which roles change hands, runs the page.
use Rattle.std.proofs.Common.{◌%◌, ◌*◌, ◌^◌, length, replicate, subst}
use Rattle.model.proofs.Names.{List, None, Some, arith, first_of, first_row, opening}
use Rattle.model.proofs.Names.{refl, true, ℕ, ◌+◌, ◌<◌, ◌≡◌}
use Rattle.model.specs.declared.event.Start.{Start}
use Rattle.model.specs.declared.event.Start.TheVariants.{Queues}
use Rattle.model.specs.declared.families.Flight.{Flight}
use Rattle.model.specs.declared.families.Registry.TheVariants as registries
use Rattle.model.specs.declared.families.queues.QueueKind.TheVariants as queue_kinds
use Rattle.model.specs.declared.families.queues.QueueStart.TheVariants.{Pop, Push, PushIndex}
use Rattle.model.specs.declared.families.queues.Roles.{Roles}
use Rattle.model.specs.declared.turn.Kind.TheVariants as kinds
use Rattle.model.specs.Families.{begin_of}
use Rattle.model.specs.Linearized.{is_push_or_pop}
use Rattle.pages.specs.RolesBridge.{RunsByRole}
use Rattle.pages.specs.Queue as page
use Rattle.pages.specs.QueueBridge.{by_role, code_of, number}
use Rattle.pages.proofs.Hands.{Leaves, OwnBegin}
use Rattle.pages.proofs.ValuesQueue.{fits_so, goes, tie}
use Rattle.pages.proofs.QueueHands.{Tells, at_cell, at_read, at_write, blank, holder_is, the_flight, who}
use Rattle.pages.proofs.QueuesByRole.{QueueHands, queue_runs}

module _ {T : Type 0} (how : page.Written T) (c : ℕ) (few : c < 2 ^ 32) where
  -- a push or pop that the model lets begin is a call of the page, by the party of its role
  own : (k : Roles) (p : ℕ) (start : Start T) (flight : Flight T) → is_push_or_pop start ≡ true
      → first_of kinds.Queue c start (registries.Queues k) ≡ Some flight
      → first_row ((begin_of kinds.Queue c start).rows (registries.Queues k) p) ≡ None
      → OwnBegin (by_role how) (tie how c few) (who k) p start flight
  unfolding tie
  own k p (Queues (Push value)) flight mine named rows =
      record { call = page.Push value; start_is = refl; flight_is = the_flight named; who_is = holder_is k.producer p rows; may = refl }
  own k p (Queues (PushIndex value)) flight mine named rows = absurd (cc)
  own k p (Queues Pop) flight mine named rows =
      record { call = page.Pop; start_is = refl; flight_is = the_flight named; who_is = holder_is k.consumer p rows; may = refl }
  own k p other flight mine named rows = absurd (cc)

  in_cell : (k : Roles) (words : List ℕ) → Tells k words → (first at : ℕ) → Leaves blank (Tells k) words (4 + first + at)
  in_cell k words tells first at =
      let far : 4 + (first + at) ≡ 4 + first + at = omega arith in
      subst (Leaves blank (Tells k) words) far (at_cell k words tells (first + at))

  -- a step of a call of the page leaves the words of the roles
  leaves : (k : Roles) (words : List ℕ) (stage : page.Stage T) → Tells k words → Leaves blank (Tells k) words (page.does how c stage).0
  leaves k words (page.PushLoadsWrite value) tells = at_write k words tells
  leaves k words (page.PushLoadsRead value write) tells = at_read k words tells
  leaves k words (page.PushStoresCell value write stored) tells = in_cell k words tells (how.size * (write % c)) stored
  leaves k words (page.PushStoresWrite value write) tells = at_write k words tells
  leaves k words page.PopLoadsRead tells = at_read k words tells
  leaves k words (page.PopLoadsWrite read) tells = at_write k words tells
  leaves k words (page.PopLoadsCell read loaded) tells = in_cell k words tells (how.size * (read % c)) (length loaded)
  leaves k words (page.PopStoresRead read loaded) tells = at_read k words tells

  -- what is to be shown of the queue of values where its roles change hands
  handed : QueueHands number queue_kinds.Queue (tie how c few)
  unfolding tie
  handed = record { own = own; goes = λ k words beside p r stage old fit. goes how c k words beside p stage old (fits_so how c stage fit); leaves = leaves }

  -- the model's machine, as it opens, runs the page
  pub runs_by_role : RunsByRole (by_role how) (page.queue how c) (opening (code_of how) kinds.Queue c 0)
  runs_by_role = queue_runs number queue_kinds.Queue (tie how c few) handed (replicate (how.size * c) 0) refl refl

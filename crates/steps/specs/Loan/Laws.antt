-- What the calls of a loan channel keep to: a store tells them nothing.
use Rattle.std.specs.Prelude.{◌≡◌, ℕ, Bool, false, IsTrue, List, if◌then◌else◌, refl}
use Rattle.std.proofs.Common.{ap}
use Rattle.steps.specs.Ask.{is_store}
use Rattle.steps.specs.Indices.UniqueLaws.{release_tells}
use Rattle.steps.specs.Laws.{no_store}
use Rattle.steps.specs.Loan.Back.{inner_release, back_asks, back_takes}
use Rattle.steps.specs.Loan.Parts.{shifted, part_after}
use Rattle.steps.specs.Loan.Reclaim as reclaim
use Rattle.steps.specs.Loan.Send as send
use Rattle.steps.specs.Loan.TakeBack as take_back
use Rattle.steps.specs.Picks.{by_equal}
use Rattle.steps.specs.Queues.Overflow as overflow
use Rattle.steps.specs.Queues.Ring.{distance}
use Rattle.steps.specs.declared.ask.Want.{Want}
use Rattle.steps.specs.declared.ask.Want.TheVariants as wants
use Rattle.steps.specs.declared.ask.After.{After}
use Rattle.steps.specs.declared.ask.After.TheVariants.{GoOn, Done}
use Rattle.steps.specs.declared.indices.unique.ReleaseStage.{ReleaseStage}
use Rattle.steps.specs.declared.loan.places.Place.{Place}
use Rattle.steps.specs.declared.loan.reclaim.Reclaim.{Reclaim}
use Rattle.steps.specs.declared.loan.reclaim.ReclaimStage.{ReclaimStage}
use Rattle.steps.specs.declared.loan.reclaim.ReclaimStage.TheVariants as reclaims
use Rattle.steps.specs.declared.loan.send.Send.{Send}
use Rattle.steps.specs.declared.loan.send.SendStage.{SendStage}
use Rattle.steps.specs.declared.loan.send.SendStage.TheVariants as sends
use Rattle.steps.specs.declared.loan.take_back.TakeBack.{TakeBack}
use Rattle.steps.specs.declared.loan.take_back.TakeBackStage.{TakeBackStage}
use Rattle.steps.specs.declared.loan.take_back.TakeBackStage.TheVariants as take_backs
use Rattle.steps.specs.declared.queues.overflow.PopStage.TheVariants as overflow_pops
use Rattle.steps.specs.declared.queues.overflow.Push.{Push}
use Rattle.steps.specs.declared.queues.overflow.PushEnd.{PushEnd}
use Rattle.steps.specs.declared.queues.overflow.PushEnd.TheVariants.{Added}
use Rattle.steps.specs.declared.queues.overflow.PushStage.TheVariants as pushes
use Rattle.steps.specs.declared.queues.ring.PopStage.TheVariants as pops

-- a store on a part is a store
pub shifted_store : (base : ℕ) (want : Want (Unit {0})) → IsTrue (is_store (shifted base want))
    → IsTrue (is_store want)
shifted_store base (wants.Ask ask) t = t
shifted_store base (wants.Question question) t = t
shifted_store base wants.Nothing t = t

-- a store by a part of a call tells the part nothing, wherever the part's words lie
pub part_tells : {C E R : Type 0} (base : ℕ) (want : Want (Unit {0})) {a b : After C E} {x y : R}
    → (IsTrue (is_store want) → (a ≡ b) × (x ≡ y)) → IsTrue (is_store (shifted base want))
    → (part_after base a ≡ part_after base b) × (x ≡ y)
part_tells base want told t =
    let same = told (shifted_store base want t) in (ap (part_after base) same.0, same.1)

-- after a store the release of an index goes on in the same way, whatever its word held before
back_tells : (slots index : ℕ) (stage : ReleaseStage) (m n : ℕ)
    → IsTrue (is_store (back_asks slots index stage)) → back_takes slots stage m ≡ back_takes slots stage n
back_tells slots index stage m n t =
    (release_tells false (inner_release slots stage) stage index tt m n t).0

-- after the store of the write position: the read position moves where the queue was full, else the value is added
abbrev stored : Send → (write read : ℕ) → Bool → After Push PushEnd
stored c write read full =
    if full
    then GoOn (overflow.at_push (send.inner_push c.queue (pushes.StoresWrite write read)) (pushes.MovesRead read))
    else Done Added

-- after a store a send goes on in the same way, whatever its word held before
pub send_tells : (c : Send) (stage : SendStage) (given : ℕ) (room : Unit {0}) (m n : ℕ)
    → IsTrue (is_store (send.send_asks c.slots c.queue stage given))
    → (send.send_takes c stage given m ≡ send.send_takes c stage given n) × (room ≡ room)
send_tells c (sends.Pushes pushes.HandsBack) given room m n t = no_store t
send_tells c (sends.Pushes pushes.LoadsWrite) given room m n t = no_store t
send_tells c (sends.Pushes (pushes.LoadsRead write)) given room m n t =
    no_store t
send_tells c (sends.Pushes (pushes.StoresCell write read)) given room m n t =
    (refl, refl)
send_tells c (sends.Pushes (pushes.StoresWrite write read)) given room m n t = (
  by_equal
      (λ full. send.send_pushed c given m (stored c write read full)
      ≡ send.send_pushed c given n (stored c write read full))
      (distance write read) c.queue (λ e. refl) (λ e. refl),
  refl,
)
send_tells c (sends.Pushes (pushes.MovesRead read)) given room m n t =
    no_store t
send_tells c (sends.Pushes (pushes.LoadsCell read)) given room m n t =
    no_store t
send_tells c (sends.Releases index stage) given room m n t =
    (ap (send.send_released c index) (back_tells c.slots index stage m n t), refl)

-- after a store a take-back goes on in the same way, whatever its word held before
pub take_back_tells : (c : TakeBack) (stage : TakeBackStage) (room : Unit {0}) (m n : ℕ)
    → IsTrue (is_store (take_back.take_back_asks c.slots c.queue stage))
    → (take_back.take_back_takes c stage m ≡ take_back.take_back_takes c stage n) × (room ≡ room)
take_back_tells c (take_backs.Pops pops.LoadsRead found) room m n t =
    no_store t
take_back_tells c (take_backs.Pops (pops.LoadsWrite read) found) room m n t =
    no_store t
take_back_tells c (take_backs.Pops (pops.LoadsCell read cell at) found) room m n
    t = no_store t
take_back_tells c (take_backs.Pops (pops.StoresRead read) found) room m n t =
    (refl, refl)
take_back_tells c (take_backs.Releases index stage) room m n t =
    (ap (take_back.take_back_released c index) (back_tells c.slots index stage m n t), refl)

-- after a store a reclaim goes on in the same way, whatever its word held before
pub reclaim_tells : (c : Reclaim) (stage : ReclaimStage) (places : List Place)
    (room : Unit {0}) (m n : ℕ)
    → IsTrue (is_store (reclaim.reclaim_asks c.slots c.queue stage))
    → (reclaim.reclaim_takes c stage places m ≡ reclaim.reclaim_takes c stage places n)
    × (room ≡ room)
reclaim_tells c (reclaims.Drains overflow_pops.FindsNone) places room m n t =
    no_store t
reclaim_tells c (reclaims.Drains overflow_pops.LoadsRead) places room m n t =
    no_store t
reclaim_tells c (reclaims.Drains (overflow_pops.LoadsWrite read)) places room m
    n t = no_store t
reclaim_tells c (reclaims.Drains (overflow_pops.LoadsCell read)) places room m
    n t = no_store t
reclaim_tells c (reclaims.Drains (overflow_pops.MovesRead read)) places room m
    n t = no_store t
reclaim_tells c (reclaims.Empties pops.LoadsRead) places room m n t =
    no_store t
reclaim_tells c (reclaims.Empties (pops.LoadsWrite read)) places room m n t =
    no_store t
reclaim_tells c (reclaims.Empties (pops.LoadsCell read cell at)) places room m n
    t = no_store t
reclaim_tells c (reclaims.Empties (pops.StoresRead read)) places room m n t =
    (refl, refl)
reclaim_tells c (reclaims.Releases number index stage) places room m n t = (
  ap (reclaim.reclaim_released c places number index) (back_tells c.slots index stage m n t),
  refl,
)

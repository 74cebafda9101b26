-- A call of a pass takes at most as many operations as the guarantee of its kind in the
-- model allows (`takes`).
use Rattle.history.proofs.Names.{◌≡◌, ◌⊎◌, inl, inr, ⊎_elim, ℕ, ◌+◌, ◌-◌, ◌*◌, ◌≤◌, Option, Some, None, refl, sym, ap, subst, ◌∙◌, arith}
use Rattle.history.proofs.KnownRuns.{known_run}
use Rattle.history.proofs.Names.{Start, Kind, Party, Doing, Going, Over, Coding, party_of, Trace, span_of}
use Rattle.model.specs.declared.party.Progress.{Progress}
use Rattle.model.specs.Parties.{progress_after, others_of, is_over}
use Rattle.model.specs.Progress.{Guarantee, WaitFree, ObstructionFree, guarantee_of, IsGuaranteed, IsWithin}
use Rattle.model.specs.Promises.Bounds.{IsBounded, Progresses}
use Rattle.model.specs.Promises.Families.{promise_of}
use Rattle.model.specs.Promises.{IsKept}
use Rattle.model.specs.World.{progress_in}
use Rattle.model.proofs.Frame as frame
use Rattle.model.proofs.Frame.{Family}
use Rattle.model.proofs.Progress.{guaranteed}
use Rattle.history.specs.declared.view.View.{View}
use Rattle.history.specs.History.{IsRun, steps_of, started, others_so, others_by, run_of}
use Rattle.history.specs.Stages.{Calling, Ends, LeftOut, StepsOnly, taken_by}
use Rattle.history.specs.Steps.{TakesAtMost, TakesAlone}

-- how far this call has come, where `changes` counts all changes of words up to now
abbrev pub progress_of : {T : Type 0} → ℕ → Party T → Progress
progress_of changes x =
    record { steps = x.steps; backs = x.backs; others = others_of changes x.doing; finished = is_over x.doing }

-- on this machine the latest call of each party is within its guarantee
abbrev pub PaysOn : {T : Type 0} → Kind → ℕ → ℕ → Trace T → Type 0
PaysOn {T} kind capacity size t =
    (p : ℕ) (x : Party T) → party_of p t.world.latest ≡ Some x
    → IsWithin (guarantee_of kind capacity size x.start) (progress_of t.world.changes x)

-- on each machine of this kind and capacity the latest call of each party is within its guarantee
abbrev pub Pays : {T : Type 0} → Coding T → Kind → ℕ → Type 0
Pays {T} code kind capacity = (t : Trace T) → IsRun code kind capacity t → PaysOn kind capacity code.size t

-- ---- a machine that is sound, with the bounds of its calls

-- fewer turns back take no more steps
paid : (fewer more each : ℕ) → fewer ≤ more → fewer * each ≤ more * each
paid fewer more each le = (let rest : more ≡ fewer + (more - fewer) = omega arith in rw rest (spread fewer (more - fewer) each))
  where
    -- more turns back take no fewer steps
    spread : (a b each : ℕ) → a * each ≤ (a + b) * each
    spread a b each = omega arith

-- steps that turns back bound are bounded by changes of others, if each turn back was paid for by one
more_paid : (steps alone backs others retry : ℕ) → steps ≤ alone + backs * retry → backs ≤ others → steps ≤ alone + others * retry
more_paid steps alone backs others retry most le = omega (arith, paid backs others retry le)

-- F is the family of the kind, t a trace, of which s says that it is sound
module _ {T : Type 0} {F : Family T} (kind : Kind) (promised : promise_of {T = T} kind ≡ F.promise) {t : Trace T} (s : frame.Sound F t)
    (progress : (p : ℕ) → Progresses F.promise F.capacity F.coding.size (span_of p t.events) (progress_in t.world p)) where
  -- each latest call has taken no more steps than its promise grants
  bounded : (p : ℕ) (x : Party T) → party_of p t.world.latest ≡ Some x
      → IsBounded F.promise F.capacity F.coding.size x.start (progress_of t.world.changes x)
  bounded p x found =
      go x.doing (subst (λ o. frame.Fits F s.state p o (span_of p t.events)) found (s.inv.calls p))
      (subst (λ o. Progresses F.promise F.capacity F.coding.size (span_of p t.events) (progress_after t.world.changes o)) found (progress p))
    where
      -- of a call under way, or one that is over: it has taken no more steps than its promise grants
      go : (doing : Doing T) → frame.FitsDoing F s.state p x doing (span_of p t.events)
          → Progresses F.promise F.capacity F.coding.size (span_of p t.events) (Some (progress_of t.world.changes x))
          → IsBounded F.promise F.capacity F.coding.size x.start (progress_of t.world.changes x)
      go (Going flight since) fits_doing progresses =
          (subst (λ seen. Progresses F.promise F.capacity F.coding.size seen (Some (progress_of t.world.changes x))) fits_doing.span progresses).0
      go (Over others) fits_doing progresses =
          (subst (λ seen. Progresses F.promise F.capacity F.coding.size seen (Some (progress_of t.world.changes x))) fits_doing.span progresses).0

  -- the latest call of each party is within the guarantee of the model
  pub pays_on : PaysOn kind F.capacity F.coding.size t
  pays_on p x found =
      go (guarantee_of kind F.capacity F.coding.size x.start)
      (subst (λ P. IsGuaranteed P F.capacity F.coding.size x.start (guarantee_of kind F.capacity F.coding.size x.start)) promised
      (guaranteed kind F.capacity F.coding.size x.start))
    where
      -- whether the call is guaranteed to end by itself, or while others change no word, it is
      -- within that guarantee
      go : (g : Guarantee) → IsGuaranteed F.promise F.capacity F.coding.size x.start g → IsWithin g (progress_of t.world.changes x)
      go (WaitFree most) is_guaranteed = (let within_bounds = bounded p x found in omega (arith, within_bounds.steps, is_guaranteed x.backs))
      go (ObstructionFree alone retry) is_guaranteed =
          (let within_bounds = bounded p x found in let is = within_bounds.steps in let le = is_guaranteed x.backs in
          more_paid x.steps alone x.backs (others_of t.world.changes x.doing) retry (omega arith) within_bounds.backs)

-- F is the family of the kind, t the trace of a run, of which s says that it is sound
module _ {T : Type 0} {code : Coding T} {kind : Kind} {capacity : ℕ} {t : Trace T} (r : IsRun code kind capacity t) {F : Family T}
    (promised : promise_of {T = T} kind ≡ F.promise) (s : frame.Sound F t) where
  -- where the promise of the run holds, it says how far each call has come
  pub progress_kept : IsKept t → (p : ℕ) → Progresses F.promise F.capacity F.coding.size (span_of p t.events) (progress_in t.world p)
  progress_kept kept p =
      subst (λ P. Progresses P F.capacity F.coding.size (span_of p t.events) (progress_in t.world p))
      (ap (promise_of {T = T}) r.of_kind ∙ promised)
      (subst (λ n. Progresses (promise_of t.world.kind) n F.coding.size (span_of p t.events) (progress_in t.world p)) s.capacity
      (subst (λ (c : Coding T). Progresses (promise_of t.world.kind) t.world.capacity c.size (span_of p t.events) (progress_in t.world p)) s.coding
      (kept.progress p)))

  -- where the bounds of the family hold, they say how far each call has come
  pub progress_within : frame.Bounds F → (p : ℕ) → Progresses F.promise F.capacity F.coding.size (span_of p t.events) (progress_in t.world p)
  progress_within bounds p =
      frame.progresses F bounds s.state p t.events t.world.changes (party_of p t.world.latest) (span_of p t.events) (s.inv.calls p) (s.inv.knows p)

  -- where a run says how far each call has come, each latest call is within its guarantee
  pub pays_run : ((p : ℕ) → Progresses F.promise F.capacity F.coding.size (span_of p t.events) (progress_in t.world p))
      → PaysOn kind capacity code.size t
  pays_run progress =
      subst (λ n. PaysOn kind n code.size t) (sym s.capacity ∙ r.sized)
      (subst (λ (c : Coding T). PaysOn kind F.capacity c.size t) (sym s.coding ∙ r.coded) (pays_on kind promised s progress))

-- ---- a call that has ended

-- the guarantee allows one step, at least
abbrev pub AllowsOne : Guarantee → Type 0
AllowsOne (WaitFree most) = 1 ≤ most
AllowsOne (ObstructionFree alone retry) = 1 ≤ alone

-- what a guarantee says of the operations between two views
abbrev pub TakesBy : {T : Type 0} → Coding T → Kind → ℕ → Guarantee → View T → View T → Type 0
TakesBy code kind capacity (WaitFree most) old new = TakesAtMost most old new
TakesBy code kind capacity (ObstructionFree alone retry) old new = TakesAlone alone retry old new

-- base and w are what the pass knew before the call and after it, e is its end, m its room then
module _ {T C M E : Type 0} (code : Coding T) (kind : Kind) (call : Calling T C M E) (base w : View T) (e : E) (m : M) where
  -- the run that the pass knows after the call
  abbrev known : Trace T
  known = run_of code kind base.capacity w.turns

  -- the party's latest call in this run, which is the call that has ended
  record HasLatest (ends : Ends code kind call base e m w) : Type 0 where
    pub x : Party T
    pub found : party_of ends.party known.world.latest ≡ Some x
    pub named : x.start ≡ call.start
    pub steps : x.steps ≡ w.taken

  -- the call that has ended is the party's latest one
  latest : {ends : Ends code kind call base e m w} → HasLatest ends
  latest {ends} = go (party_of ends.party known.world.latest) refl
    where
      -- a party with a latest call has one, and one without has begun none
      go : (o : Option (Party T)) → party_of ends.party known.world.latest ≡ o → HasLatest ends
      go None party_is = (let no : ◌≡◌ {A = Option (Start T)} None (Some call.start) = sym (ap started party_is) ∙ ends.named in absurd (cc))
      go (Some x) party_is =
          let named : ◌≡◌ {A = Option (Start T)} (Some x.start) (Some call.start) = sym (ap started party_is) ∙ ends.named in
          record { x = x; found = party_is; named = cc; steps = sym (ap steps_of party_is) ∙ ends.counted }

  -- the operations since `base` were at most the steps of the call, or at most one
  few : base.going ≡ None → Ends code kind call base e m w → (w.asked ≤ base.asked + w.taken) ⊎ (w.asked ≤ base.asked + 1)
  few idle ends = ⊎_elim (λ only. inl (begun only)) (λ once. inr once) ends.took
    where
      -- the call had not begun in `base`, so all its steps were taken since
      begun : StepsOnly base w → w.asked ≤ base.asked + w.taken
      begun only =
          (let is : w.asked + taken_by base.going base.taken ≤ base.asked + w.taken = only in
          let none : taken_by base.going base.taken ≡ 0 = ap (λ o. taken_by o base.taken) idle in
          omega arith)

  -- operations that are at most the steps of the call, or at most one, are within a bound of both
  few_enough : (steps most : ℕ) → steps ≡ w.taken → steps ≤ most → 1 ≤ most
      → (w.asked ≤ base.asked + w.taken) ⊎ (w.asked ≤ base.asked + 1) → w.asked ≤ base.asked + most
  few_enough steps most same within least (inl h) = omega arith
  few_enough steps most same within least (inr h) = omega arith

  -- the changes that the view counts are those that the run counts
  counts : {ends : Ends code kind call base e m w} → (now : HasLatest ends) → w.others ≡ others_of known.world.changes now.x.doing
  counts {ends} now =
      ends.ran.knows.others
      ∙ (ap (others_by known.world) ends.mine ∙ ap (others_so known.world.changes) now.found)

  -- a call that has ended took no more operations than its kind's guarantee allows
  takes_by : base.going ≡ None → (ends : Ends code kind call base e m w) → (now : HasLatest ends) → (g : Guarantee) → AllowsOne g
      → IsWithin g (progress_of known.world.changes now.x) → TakesBy code kind base.capacity g base w
  takes_by idle ends now (WaitFree most) least within = few_enough now.x.steps most now.steps within least (few idle ends)
  takes_by idle ends now (ObstructionFree alone retry) least within =
      subst (λ n. w.asked ≤ base.asked + (alone + n * retry)) (sym (counts now))
      (few_enough now.x.steps (alone + others_of known.world.changes now.x.doing * retry) now.steps within (omega arith) (few idle ends))

  -- a call that had not begun in `base`, and has ended, is within the guarantee of its kind
  pub takes : base.going ≡ None → Pays code kind base.capacity
      → AllowsOne (guarantee_of kind base.capacity code.size call.start) → Ends code kind call base e m w
      → TakesBy code kind base.capacity (guarantee_of kind base.capacity code.size call.start) base w
  takes idle pays one ends =
      (let now = latest in
      takes_by idle ends now (guarantee_of kind base.capacity code.size call.start) one
      (subst (λ start. IsWithin (guarantee_of kind base.capacity code.size start) (progress_of known.world.changes now.x)) now.named
      (pays known (known_run ends.ran.knows) ends.party now.x now.found)))

  -- a call that is left out of the history took one operation
  pub left_takes : (most : ℕ) → 1 ≤ most → LeftOut code kind call base e m w → TakesAtMost most base w
  left_takes most least left = omega (arith, left.asked)

-- A party that peeks into a bounded queue holds the consumer's role as the peek ends (`peeker`).
use Rattle.history.proofs.Names.{◌≡◌, ℕ, ◌+◌, Option, Some, None, List, [], ◌∷◌, ◌++◌, refl, sym, ap, subst, ◌∙◌}
use Rattle.history.proofs.Names.{append-nil, arith, sum_by-append}
use Rattle.model.specs.declared.event.Answer.{Answer}
use Rattle.model.specs.declared.event.Event.{Event}
use Rattle.model.specs.declared.event.Event.TheVariants.{Finished}
use Rattle.model.specs.declared.event.Start.{Start}
use Rattle.model.specs.declared.event.Start.TheVariants.{Queues}
use Rattle.model.specs.declared.families.Flight.{Flight}
use Rattle.model.specs.declared.families.queues.QueueKind.{QueueKind}
use Rattle.history.proofs.Names.{World, Coding, step_of, beside_of, party_of, ask_of_doing, answer_in}
use Rattle.model.specs.declared.party.Doing.{Doing}
use Rattle.model.specs.declared.party.Doing.TheVariants.{Going, Over}
use Rattle.model.specs.declared.party.Party.{Party}
use Rattle.model.specs.declared.families.queues.Roles.{Roles}
use Rattle.history.proofs.Names.{ending_of, events_of_answer, events_of_next, old_of, step_in, consumer_of, stands_there}
use Rattle.laws_queues.proofs.Queues.Invariant.{machine_kind}
use Rattle.laws_queues.proofs.Queues.Values.{Val}
use Rattle.std.proofs.lemmas.List.{same_from_push}
use Rattle.model.specs.declared.families.Registry.TheVariants as registries
use Rattle.model.specs.declared.families.queues.QueueStart.TheVariants.{Peek}
use Rattle.model.specs.LockFree.{ends}
use Rattle.model.proofs.LockFree.Writes.{writes_no_end}
use Rattle.laws_queues.proofs.Queues.Core.{Core}
use Rattle.laws_queues.proofs.Queues.Invariant.{family}
use Rattle.history.specs.History.{LastStep}
use Rattle.history_queues.proofs.Queues.{sound_of}

module _ {T : Type 0} where
  -- where the last event of a step is an end, it ends the step's own call, and the events before it
  -- are the step's effects
  last_is : (p q : ℕ) (start begun : Start T) (answer : Answer T) (o : Option (Answer T)) (wrote es : List (Event T)) → ends es ≡ 0
      → es ++ ending_of q begun o ≡ wrote ++ Finished p start answer ∷ [] → (begun ≡ start) × (wrote ≡ es)
  last_is = grind (arith, append-nil, sum_by-append, same_from_push)

  -- a list with an element is not empty
  none_last : (wrote : List (Event T)) (e : Event T) → [] ≡ wrote ++ e ∷ [] → ⊥
  none_last [] e lists_are = absurd (cc)
  none_last (x ∷ xs) e lists_are = absurd (cc)

  -- a peek that stands at this flight is of the party that holds the consumer's role, and
  -- its step writes nothing
  peek_at : (z en : Coding T) (c p n : ℕ) (words : List ℕ) (waits : Option (ℕ × ℕ)) (kd : QueueKind) (ro : Roles) (k : Core (Val T kd)) (flight : Flight T)
      → (family en kd c).At (record { roles = ro; core = k }) p (Queues Peek) flight
      → (ro.consumer ≡ Some p) × ((step_of z words waits p (Queues Peek) flight n (registries.Queues ro)).wrote ≡ [])
  peek_at = grind arith

module _ {T : Type 0} (code : Coding T) (kd : QueueKind) (capacity p : ℕ) (answer : Answer T) where
  -- the response of the peek
  abbrev last : Event T
  last = Finished p (Queues Peek) answer

  module _ (events before : List (Event T)) (l : LastStep code (machine_kind kd) capacity p last events) (is : events ≡ before ++ last ∷ []) where
    -- the machine before the peek's last step
    abbrev w : World T
    w = l.old.world

    -- the party holds the consumer's role in the history before the response
    abbrev PeekerHoldsRole : Type 0
    PeekerHoldsRole = consumer_of before ≡ Some p

    -- with no effect before its response, the party held the role then if it does now
    at_end : l.wrote ≡ [] → consumer_of l.old.events ≡ Some p → PeekerHoldsRole
    at_end none holds =
        let whole : before ++ last ∷ [] ≡ l.old.events ++ last ∷ [] =
        sym is ∙ (l.is ∙ (ap (λ es. l.old.events ++ es) (l.writes ∙ ap (λ es. es ++ last ∷ []) none))) in
        ap consumer_of (same_from_push before l.old.events last last whole).0 ∙ holds

    -- the step with which a peek ends is of the party that holds the consumer's role
    stands : (x : Party T) {flight : Flight T} {since : ℕ} (n : ℕ) → party_of p w.latest ≡ Some x → x.doing ≡ Going flight since
        → (step_in w p x flight n).wrote ++ ending_of p x.start (answer_in (step_in w p x flight n).after) ≡ l.wrote ++ last ∷ [] → PeekerHoldsRole
    stands x {flight} {since} n found doing writes =
        let is_sound = sound_of code capacity kd l.old l.run in
        let beside = beside_of w.words w.kept w.latest p in
        let there = stands_there (family w.coding kd w.capacity) l.old is_sound p x since flight found doing in
        let by_last = last_is p p (Queues Peek) x.start answer (answer_in (step_in w p x flight n).after) l.wrote (step_in w p x flight n).wrote in
        let it = by_last (writes_no_end T w.coding w.words beside p x.start flight n w.kept) writes in
        let at = subst (λ st. (family w.coding kd w.capacity).At is_sound.state p st flight) it.0 there.at in
        let peeks = peek_at w.coding w.coding w.capacity p n w.words beside in
        let quiet = peeks kd is_sound.state.roles is_sound.state.core flight at in
        let same : (step_in w p x flight n).wrote ≡ [] =
        ap (λ st. (step_of w.coding w.words beside p st flight n w.kept).wrote) it.0
        ∙ (ap (λ k. (step_of w.coding w.words beside p (Queues Peek) flight n k).wrote) is_sound.fit.kept ∙ quiet.1) in
        at_end (it.1 ∙ same) (is_sound.holds.consumers ∙ quiet.0)

    -- whether the party's call is over or under way, it holds the role as the step writes the response
    does : (x : Party T) (n : ℕ) → party_of p w.latest ≡ Some x → (doing : Doing T) → x.doing ≡ doing
        → events_of_answer w p x n doing ≡ l.wrote ++ last ∷ [] → PeekerHoldsRole
    does x n found (Over others) same_doing writes = absurd (none_last l.wrote last writes)
    does x n found (Going flight since) same_doing writes = stands x n found same_doing writes

    -- whether the party has had a call or not, it holds the role as the step writes the response
    goes : (o : Option (Party T)) → party_of p w.latest ≡ o → events_of_next w p o ≡ l.wrote ++ last ∷ [] → PeekerHoldsRole
    goes None found writes = absurd (none_last l.wrote last writes)
    goes (Some x) found writes = does x (old_of w.words (ask_of_doing w.coding x.doing)) found x.doing refl writes

    -- the party holds the consumer's role just before its response
    pub peeker : PeekerHoldsRole
    peeker = goes (party_of p w.latest) refl l.writes

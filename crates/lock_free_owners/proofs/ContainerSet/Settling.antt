-- The load that ends the last call of a pass if that rests: the rule of the table allows it.
use Rattle.lock_free_owners.proofs.Names.{◌≡◌, ◌⊎◌, inl, inr, ℕ, ◌<◌, None, [], refl, ap, subst, ◌∙◌, slice_index}
use Rattle.lock_free_owners.proofs.Names.{set, Coding, View, OwesAsk, IsMachine, IsResting, SettledFrom}
use Rattle.std.proofs.Common.{set-set}
use Rattle.atomic_table.specs.Table as table
use Rattle.atomic_table.proofs.Lists.{set_here}
use Rattle.steps.specs.declared.ask.Op.TheVariants.{Load}
use Rattle.model.specs.declared.turn.Kind.TheVariants as kinds
use Rattle.history_owners.proofs.ContainerRests.{container_hears}
use Rattle.history.proofs.Known.{within}
use Rattle.history_owners.proofs.Settling.{Rests, view_settled, table_settled, machine_settled, settles}
use Rattle.lock_free_owners.specs.Container.Bare.{IsCounted}
use Rattle.lock_free_owners.specs.Container.Idle.{IsIdle}
use Rattle.lock_free_owners.specs.Container.Settling.{HasSettled}
use Rattle.lock_free_owners.proofs.ContainerSet.Idle.{rests}
use Rattle.lock_free_owners.proofs.Rules.Container.Bare.{leaves, counted_one}

module _ {T : Type 0} (code : Coding T) where
  -- What a seat that settles the end of its last call owes for the load of a word.
  abbrev Owed : (key words slots id word : ℕ) → View T → Type 0
  Owed key words slots id word v =
      OwesAsk (λ (z : View T). z.asked) (IsMachine code kinds.Container key) words slots id
      (λ u n w. HasSettled code u w) word Load (v, [])

  -- one load of any word ends a call that rests, or leaves what is known where no call is under
  -- way
  settles_by : (key words slots id word : ℕ) (v : View T) → word < words → v.capacity ≡ key → (v.going ≡ None) ⊎ IsResting code v
      → Owed key words slots id word v
  settles_by key words slots id word v below known (inl idle) = (
    below,
    λ s r long at small.
        let leaves_words = leaves code key slots id v word (λ n. n) (λ k. refl) in
        leaves_words (λ u n w. HasSettled code u w)
        (λ k. record { from = v; settled = inl (refl, idle); counted = counted_one v }) s r long at small,
  )
  settles_by key words slots id word v below known (inr h) = (
    below,
    λ s r long at small. (
        -- The machine in which the call has ended, with the view vh of the pass behind that end.
        let rests : Rests (container_hears code) v key id = record { s = s; r = r; at = at; known = known; h = h } in
        let vh : View T = view_settled (container_hears code) rests in
        -- From it the load leaves each word as it was, and counts one operation.
        let leaves_words = leaves code key slots id vh word (λ n. n) (λ k. refl) in
        let x =
        leaves_words (λ u n w. IsCounted u w) (λ k. counted_one vh)
        (table_settled (container_hears code) rests) (machine_settled (container_hears code) rests)
        long (set_here s.views id vh (within s.views id v at)) small in (
          x.0,
          x.1,
          x.2,
          subst (λ vs. IsMachine code kinds.Container key
              (record {
                words = set s.words word (slice_index s.words word);
                homes = table.homes_after s.homes [] x.1;
                views = vs;
              }))
              (set-set s.views id vh x.0) x.3,
          (
            record {
              from = vh;
              settled = inr (settles (container_hears code) rests);
              counted = x.4.0;
            },
            x.4.1,
            x.4.2,
          ),
        )),
  )

  -- A seat that rests or has no call under way may load any word of the table: this load settles the
  -- end of its last call.
  pub owes_settling : {key words word : ℕ} (slots id : ℕ) (v : View T) → word < words → v.capacity ≡ key → IsIdle v → v.other ≡ [] → 0 < v.share.part
      → Owed key words slots id word v
  owes_settling {key} {words} {word} slots id v below known idle alone any = settles_by key words slots id word v below known (rests code v alone any idle)

  -- A pass that settles the end of its last call keeps its capacity.
  of_from : (v from : View T) → SettledFrom code kinds.Container v from → from.capacity ≡ v.capacity
  of_from v from (inl same) = ap (λ (z : View T). z.capacity) same.0
  of_from v from (inr s) = s.capacity

  -- A load that settles the last call keeps the capacity.
  pub settled_capacity : (v w : View T) → HasSettled code v w → w.capacity ≡ v.capacity
  settled_capacity v w h = ap (λ (z : View T). z.capacity) h.counted.known ∙ of_from v h.from h.settled

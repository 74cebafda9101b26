-- What a look at the whole history of a set owes the rule of its table.
use Rattle.lock_free_sets.proofs.Names.{◌≡◌, ◌<◌, ℕ, Option, None, List, [], sym, subst, Me, Event, Start, Kind, one_word, View}
use Rattle.lock_free_sets.proofs.Names.{IsMachine, LooksOnce, OwesAsk}
use Rattle.steps.specs.declared.ask.Op.TheVariants.{Load}
use Rattle.model.specs.declared.families.Flight.{Flight}
use Rattle.model.specs.declared.turn.Kind.TheVariants as kinds
use Rattle.history.specs.History.{IsLate}
use Rattle.history.proofs.PassLooks.{owes_look}

-- nothing is late where no call is under way
calm : (kind : Kind) (o : Option (Start ℕ × Flight ℕ)) → o ≡ None → (late : List (Event ℕ)) → IsLate kind o late → late ≡ []
calm kinds.Overflow o idle late is_late = subst (λ z. IsLate kinds.Overflow z late) idle is_late
calm kind o idle late is_late = is_late

module _ (kind : Kind) (words slots id word : ℕ) where
  -- what a seat owes the rule of its table for a load that looks at the whole history
  abbrev Owed : ℕ → Me (Unit {0}) (View ℕ) → Type 0
  Owed key me =
      OwesAsk (λ (z : View ℕ). z.asked) (IsMachine one_word kind key) words slots id
      (λ u n w. LooksOnce one_word kind u.capacity u w) word Load me

  -- A seat that holds nothing but what it knows, with a part of the share and no call under way, owes
  -- this for the load of a word of the table.
  pub look_owed : {key : ℕ} {v u : View ℕ} {xs : List (ℕ × Unit {0})} → word < words → u ≡ v → xs ≡ [] → v.capacity ≡ key
      → v.going ≡ None → 0 < v.share.part → Owed key (u, xs)
  look_owed {key} {v} {u} {xs} below is bare size idle some =
      subst (λ (x : View ℕ). Owed key (x, xs)) (sym is) (subst (λ ys. Owed key (v, ys)) (sym bare)
      (subst (λ k. Owed k (v, [])) size (owes_look one_word kind v.capacity words slots id word v below some (calm kind v.going idle))))

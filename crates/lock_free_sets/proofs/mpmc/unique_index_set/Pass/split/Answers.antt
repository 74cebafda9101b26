-- `Pass::split` (src/mpmc/unique_index_set/passes.rt): its call of `split` meets the requirement `splits`, and `self` meets the
-- invariants `sound`, `done` and `knows`.
use Rattle.lock_free_sets.proofs.Names.{ℕ, Option, Some, None, IfSome, refl, sym, subst, one_word, View, splits}
use Rattle.std.specs.Prelude.{IfNone}
use Rattle.model.specs.declared.turn.Kind.TheVariants as kinds
use Rattle.history.specs.History.{Knows}
use Rattle.history.specs.Views.{left_view}
use Rattle.history.proofs.Asked.{left_asked}
use Rattle.lock_free_sets.specs.Unique.Held.{IsSound, IsDone}
use Rattle.lock_free_sets.proofs.Unique.Facts.{sound_same}
use Rattle.lock_free_sets.proofs.mpmc.unique_index_set.Pass.split.Goals as goal

-- a pass with a part of the share may be split: the rule of the table holds of both
-- halves (requirement `splits`)
pub split-requires-clause-splits : goal.split-requires-clause-splits
split-requires-clause-splits c = splits one_word kinds.Indices _ c.args.self.now.seated.seat.id c.args.self.now.seated.seat.me.0

-- The cases are whether the split has a result.
by_result : {A : Type 0} {P : A → Type 0} {Q R : Type 0} (o : Option A) → IfSome o P → IfNone o Q → ((x : A) → P x → R) → (Q → R) → R
by_result (Some x) some none f g = f x some
by_result None some none f g = g none

-- the pass is still sound, whether another was split off or not
pub invariant_of-self-clause-sound : goal.invariant_of-self-clause-sound
invariant_of-self-clause-sound c =
    let v = c.args.self.now.seated.seat.me.0 in
    by_result c.split.result c.split.ensures.cut c.split.ensures.none
    (λ t h. subst IsSound (sym h.2) (sound_same v (left_view v) refl refl refl c.args.self.now.sound))
    (λ same. subst IsSound (sym same) c.args.self.now.sound)

-- the pass that was split keeps its invariant `done`: each call that it began has ended
pub invariant_of-self-clause-done : goal.invariant_of-self-clause-done
invariant_of-self-clause-done c =
    by_result c.split.result c.split.ensures.cut c.split.ensures.none
    (λ t h. subst (λ (z : View ℕ). IsDone z.made) (sym h.2) c.args.self.now.done)
    (λ same. subst (λ (z : View ℕ). IsDone z.made) (sym same) c.args.self.now.done)

-- the pass still knows the run of its set, whether another was split off or not
pub invariant_of-self-clause-knows : goal.invariant_of-self-clause-knows
invariant_of-self-clause-knows c =
    let size = c.args.self.now.capacity in
    let v = c.args.self.now.seated.seat.me.0 in
    let k = c.args.self.now.knows in
    by_result c.split.result c.split.ensures.cut c.split.ensures.none
    (λ t h. subst (λ (z : View ℕ). Knows one_word kinds.Indices size z) (sym h.2)
    (record {
      coded = k.coded;
      admitted = k.admitted;
      allowed = k.allowed;
      fresh = k.fresh;
      is = k.is;
      others = k.others;
      asked = left_asked v (left_view v) _ k.asked refl refl refl;
    }))
    (λ same. subst (λ (z : View ℕ). Knows one_word kinds.Indices size z) (sym same) k)

-- What a split and a join of passes of a container leave of them.
use Rattle.lock_free_owners.proofs.Names.{◌≡◌, inl, inr, ◌<◌, None, [], sym, ap, subst, ◌∙◌, Coding, View}
use Rattle.lock_free_owners.proofs.Names.{SettledFrom}
use Rattle.model.specs.declared.turn.Kind.TheVariants as kinds
use Rattle.lock_free_owners.specs.Container.Settling.{HasSettled}

-- what is known of a view with which a call that rested has ended
pub record Settled {T : Type 0} (v w : View T) : Type 0 where
  pub idle : w.going ≡ None
  pub fresh : w.other ≡ []
  pub capacity : w.capacity ≡ v.capacity
  pub part : 0 < w.share.part
  pub parts : 0 < w.share.parts

-- the view with which a call that rested has ended, or the one that had none, has no call under
-- way, the same capacity and a share
settled : {T : Type 0} (code : Coding T) (v w : View T) → v.other ≡ [] → 0 < v.share.part → 0 < v.share.parts → SettledFrom code kinds.Container v w
    → Settled v w
settled code v w alone part parts (inl same) =
    record {
      idle = ap (λ (z : View _). z.going) same.0 ∙ same.1;
      fresh = ap (λ (z : View _). z.other) same.0 ∙ alone;
      capacity = ap (λ (z : View _). z.capacity) same.0;
      part = subst (λ (z : View _). 0 < z.share.part) (sym same.0) part;
      parts = subst (λ (z : View _). 0 < z.share.parts) (sym same.0) parts;
    }
settled code v w alone part parts (inr s) =
    record {
      idle = s.idle;
      fresh = s.fresh;
      capacity = s.capacity;
      part = subst (λ z. 0 < z.part) (sym s.share) part;
      parts = subst (λ z. 0 < z.parts) (sym s.share) parts;
    }

-- once the load with which it ends is counted
pub settled_once : {T : Type 0} (code : Coding T) (v w : View T) → v.other ≡ [] → 0 < v.share.part → 0 < v.share.parts → HasSettled code v w
    → Settled v w
settled_once code v w alone part parts h =
    let s = settled code v h.from alone part parts h.settled in
    record {
      idle = ap (λ (z : View _). z.going) h.counted.known ∙ s.idle;
      fresh = ap (λ (z : View _). z.other) h.counted.known ∙ s.fresh;
      capacity = ap (λ (z : View _). z.capacity) h.counted.known ∙ s.capacity;
      part = subst (λ (z : View _). 0 < z.share.part) (sym h.counted.known) s.part;
      parts = subst (λ (z : View _). 0 < z.share.parts) (sym h.counted.known) s.parts;
    }

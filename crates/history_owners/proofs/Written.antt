-- What a call has written since it began is what its pass has seen of its party since.
use Rattle.std.proofs.Common.{arith}
use Rattle.history.proofs.Names.{◌≡◌, ℕ, Option, Some, None, [], sym, ap, ◌∙◌, append-nil, fold, Coding}
use Rattle.model.specs.declared.turn.Kind.{Kind}
use Rattle.history.proofs.Names.{Span, span_of, own_after, Open}
use Rattle.history.specs.declared.view.View.{View}
use Rattle.history.specs.Stages.{Calling, opened, IsUnderWay}
use Rattle.history.proofs.CallsIn.{span_since}

module _ {T C M E : Type 0} (code : Coding T) (kind : Kind) (call : Calling T C M E) where
  -- the span of a party whose call had not begun in `base`, by what the call has written
  pub written_since : (base v : View T) (c : C) (m : M) → base.going ≡ None → (under : IsUnderWay code kind call base v c m)
      → span_of under.party v.seen ≡ fold own_after (Open call.start []) under.wrote
  written_since = grind (arith, opened, span_since, fold, append-nil)

  -- two accounts of a call under way, each from a view in which it had not begun, have one party and one list
  -- of what it wrote
  pub same_written : {base other v : View T} {c d : C} {m k : M} → base.going ≡ None → other.going ≡ None
      → (a : IsUnderWay code kind call base v c m) (b : IsUnderWay code kind call other v d k)
      → fold own_after (Open call.start []) a.wrote ≡ Open call.start a.wrote → fold own_after (Open call.start []) b.wrote ≡ Open call.start b.wrote
      → (a.party ≡ b.party) × (a.wrote ≡ b.wrote)
  same_written {base} {other} {v} {c} {d} {m} {k} idle still a b long longer =
      let both : ◌≡◌ {A = Option ℕ} (Some a.party) (Some b.party) = sym a.mine ∙ b.mine in
      let party : a.party ≡ b.party = cc in
      let spans : ◌≡◌ {A = Span T} (Open call.start a.wrote) (Open call.start b.wrote) = sym long
      ∙ (sym (written_since base v c m idle a) ∙ (ap (λ q. span_of q v.seen) party ∙ (written_since other v d k still b ∙ longer))) in
      let wrote : a.wrote ≡ b.wrote = cc in
      (party, wrote)

-- `run` (src/images.rt): its call of `relayed` meets the requirements `sends` and `receives`, and its return meets what it ensures.
use Rattle.std.proofs.Common.{◌≡◌, ◌∙◌, true, false, Bool, Result, Ok, Err, Some, None, arith, refl, subst, sym}
use Rattle.std.specs.Bool.{then_some}
use Rattle.std.specs.Option.{IfSome}
use Rattle.std.specs.Result.{result_ok, IfOk}
use Rattle.std.proofs.lemmas.Bool.{eqb-true}
use Rattle.std.proofs.lemmas.List.{nil_from_length}
use Rattle.zero_copy_loans.proofs.Ends.{all_relayed, read_all, sent_all}
use Rattle.uses_services.specs.Images.{shade}
use Rattle.uses_services.proofs.images.run.Goals as goal

-- what holds of each good result holds of what `ok` takes out of it
taken_out : {A E : Type 0} (P : A → Type 0) (r : Result A E) (x : A) → Some x ≡ result_ok r → IfOk r P → P x
taken_out P (Ok y) x is holds = let same : y ≡ x = cc in subst P same holds
taken_out P (Err failure) x is holds = let none : Some x ≡ None = is in absurd (cc)

-- what holds of a value where the test is true holds of what `then_some` gives
given_if : {A : Type 0} (P : A → Type 0) (b : Bool) (x : A) → (b ≡ true → P x) → IfSome (then_some b x) P
given_if P true x holds = holds refl
given_if P false x holds = tt

pub relayed-requires-clause-sends : goal.relayed-requires-clause-sends
relayed-requires-clause-sends g c =
    c.in_ok-sender.ensures.sender c.finish_all-left.result.0 (sent_all _ _ _ _ _ c.in_ok-back.ensures.sent c.finish_all-left.ensures.sends).of

pub relayed-requires-clause-receives : goal.relayed-requires-clause-receives
relayed-requires-clause-receives g c =
    c.in_ok-sender.ensures.receiver c.finish-other.result (read_all _ _ _ _ _ c.in_ok-back.ensures.read c.finish-other.ensures.receives).received.of

-- if nothing came back, the images received are the first ones in order, and the shades read are theirs
pub returns : goal.returns
returns g c =
    let made = c.in_ok-channel.ensures.value in
    rw (c.then_some.ensures) (given_if _ c.is_empty.result c.in_ok-back.came λ is.
    (all_relayed shade _ _ _ _ _ _ _ _ _ _ _ _ _ _ (taken_out _ c.new.result _ made c.new.ensures.fresh)
    (taken_out _ c.new.result _ made c.new.ensures.next) c.in_ok-sends.ensures.opened
    c.open.ensures.same c.in_ok-sender.ensures.begun c.in_ok-sender.ensures.waits c.in_ok-sender.ensures.shapes
    (omega (arith, (taken_out _ c.new.result _ made c.new.ensures.rooms).0)) (omega arith) c.in_ok-back.ensures.sent c.finish_all-left.ensures.sends
    c.in_ok-back.ensures.read c.finish-other.ensures.receives c.relayed.ensures.rejoined c.relayed.ensures.same).in_turn
    (nil_from_length _ (sym c.in_ok-back.back.ok.0 ∙ eqb-true _ 0 (sym c.is_empty.ensures ∙ is))))

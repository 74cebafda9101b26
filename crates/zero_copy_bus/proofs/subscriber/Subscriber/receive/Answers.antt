-- `Subscriber::receive` (src/subscriber.rt): its return meets the clauses `none` and `had`.
use Rattle.std.proofs.Common.{◌<◌, ◌∙◌, [], ◌∷◌, refl, subst, inl, inr, arith}
use Rattle.zero_copy_bus.proofs.Received.{had_none, had_older, had_one, had_other}
use Rattle.zero_copy_bus.proofs.Words.{number_in_word, slot_in_word}
use Rattle.zero_copy_bus.proofs.subscriber.Subscriber.receive.Goals as goal

-- the popped word names no slot
pub returns-then-slot-places-clause-none : goal.returns-then-slot-places-clause-none
returns-then-slot-places-clause-none g c =
    let at = slot_in_word _ c.parts-number.result.0 c.parts-number.result.1 _ c.parts-number.ensures.is c.parts-number.ensures.within in
    let many = c.places.ensures ∙ c.args.self.now.fits in
    inr (inr (c.in-Some.word, inl (omega (arith, at, many, c.if-slot-places.true)), c.in-Some.ensures.popped))

-- the popped word has a number below the one expected
pub returns-then-number-self-clause-none : goal.returns-then-number-self-clause-none
returns-then-number-self-clause-none g c =
    let is = number_in_word _ c.parts-number.result.0 c.parts-number.result.1 _ c.parts-number.ensures.is c.parts-number.ensures.within in
    inr (inr (c.in-Some.word, inr (subst (λ n. n < c.args.self.now.expected) is c.if-number-self.true), c.in-Some.ensures.popped))

-- nothing was popped
pub returns-in_default-clause-had : goal.returns-in_default-clause-had
returns-in_default-clause-had g c =
    ([], had_none _ _ c.pop.ensures.same.queue refl refl c.pop.ensures.same.goes (λ some. (c.in_default.ensures.empty some).0) refl)

-- a word without a slot was popped, and no record was received
pub returns-then-slot-places-clause-had : goal.returns-then-slot-places-clause-had
returns-then-slot-places-clause-had g c =
    let at = slot_in_word _ c.parts-number.result.0 c.parts-number.result.1 _ c.parts-number.ensures.is c.parts-number.ensures.within in (
      [],
      had_other _ _ c.pop.ensures.same.queue refl refl c.pop.ensures.same.goes c.in-Some.word
          (omega (arith, at, c.places.ensures, c.if-slot-places.true)) c.in-Some.ensures.popped.0 refl,
    )

-- an older number was popped, and no record was received
pub returns-then-number-self-clause-had : goal.returns-then-number-self-clause-had
returns-then-number-self-clause-had g c = (
  c.parts-number.result.0 ∷ [],
  had_older _ _ c.pop.ensures.same.queue refl refl c.pop.ensures.same.goes c.parts-number.result.0
      c.parts-number.result.1 c.in-Some.word c.parts-number.ensures.within c.parts-number.ensures.is c.in-Some.ensures.popped.0
      c.if-number-self.true refl,
)

-- the record of the popped number was received
pub returns-clause-had : goal.returns-clause-had
returns-clause-had g c = (
  c.parts-number.result.0 ∷ [],
  had_one _ _ c.pop.ensures.same.queue refl refl c.pop.ensures.same.goes c.parts-number.result.0
      c.parts-number.result.1 c.in-Some.word c.parts-number.ensures.within c.parts-number.ensures.is c.in-Some.ensures.popped.0
      (omega (arith, c.if-number-self.false)) refl,
)

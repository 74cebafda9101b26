-- How a call begins, how it goes on, and what a step of it comes to: in a family by its own calls and what it keeps, in
-- a machine by those of any family.
use Rattle.std.specs.Prelude.{ℕ, Bool, Option, Some, None, List}
use Rattle.steps.specs.declared.ask.After.{After}
use Rattle.steps.specs.declared.ask.After.TheVariants.{GoOn, Done}
use Rattle.steps.specs.declared.ask.Want.{Want}
use Rattle.model.specs.declared.event.Answer.{Answer}
use Rattle.model.specs.declared.event.Event.{Event}
use Rattle.model.specs.declared.families.Registry.{Registry}
use Rattle.model.specs.declared.turn.Refusal.{Refusal}

-- how a call of the model begins
pub record Beginning (F K : Type 0) : Type 0 where
  pub call : K → Option F  -- the call that begins, or None where the kind has no such call
  pub rows : K → ℕ → List (Bool × Refusal)  -- what is tested of a party that is to begin it

-- how a call of the model goes on
pub record Going (F T : Type 0) : Type 0 where
  pub want : Want (Unit {0})  -- what the call wants next
  pub rows : Registry T → Option Bool → List (Bool × Refusal)  -- what is tested before it goes on
  pub after : ℕ → After F (Answer T)  -- how it goes on from the old value of its word
  pub most : ℕ  -- its next step writes at most so many events, apart from the end of the call

-- what a step of a call comes to
pub record Step (F K T : Type 0) : Type 0 where
  pub after : After F (Answer T)  -- the call goes on, or it is done
  pub back : Bool  -- whether it is a turn back: an exchange failed, after which a loop begins again or the call ends
  pub wrote : List (Event T)  -- what it did to the structure, and who acts there, in order
  pub kept : K  -- what the family keeps beside its words

-- the answer of a call that is done
abbrev pub answer_in : {C A : Type 0} → After C A → Option A
answer_in (GoOn call) = None
answer_in (Done answer) = Some answer

module _ {R F A B : Type 0} where
  -- a call of one kind as a call of another
  abbrev pub as_call : (R → F) → (A → B) → After R A → After F B
  as_call flight answer (GoOn run) = GoOn (flight run)
  as_call flight answer (Done result) = Done (answer result)

module _ {R F K L T : Type 0} where
  -- a step of one kind of call, with what its family keeps, as one of another kind
  abbrev pub as_step : (R → F) → (K → L) → Step R K T → Step F L T
  as_step flight kept s =
      record {
        after = as_call flight (λ answer. answer) s.after;
        back = s.back;
        wrote = s.wrote;
        kept = kept s.kept;
      }

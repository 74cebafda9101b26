-- What is known of a whole call on a bit set or a counting bit set, whichever call it is.
use Rattle.std.proofs.Common.{◌⊎◌, inr, arith}
use Rattle.lock_free_sets.proofs.Names.{◌≡◌, ◌≤◌, ◌+◌, inl, ℕ, Option, Some, None, IfSome, List, [], ◌∷◌, ◌++◌, sym, ap, ◌∙◌}
use Rattle.lock_free_sets.proofs.Names.{append_assoc, Answer, Event, Begun, Finished, Start, Kind, one_word, View, Called}
use Rattle.lock_free_sets.proofs.Names.{Calling, Ends, called}
use Rattle.lock_free_sets.specs.Driven.{HasDone, HasMade}

-- If the operations aside are as many as before, or one more, they are at most one more.
pub aside_most : {n m : ℕ} → (m ≡ n) ⊎ (m ≡ n + 1) → m ≤ n + 1
aside_most (inl same) = omega arith
aside_most (inr more) = omega arith

-- A call that has ended leaves of its pass what each whole call on a set leaves, if a pass that was a party makes the call as this
-- party (`own`).
pub done : {C M E : Type 0} {kind : Kind} {call : Calling ℕ C M E} {base w : View ℕ} {e : E} {m : M} → Ends one_word kind call base e m w
    → ((o : Option ℕ) (p : ℕ) → call.by o p → IfSome o (λ q. q ≡ p)) → HasDone kind base w
done {base = base} {w = w} ends own =
    record {
      capacity = ends.capacity;
      share = ends.share;
      party = go base.party (own base.party ends.party ends.same);
      idle = ends.idle;
      alone = ends.alone;
      history = ends.history;
      ran = ends.ran;
      aside = aside_most ends.aside;
      all = ends.all;
    }
  where
    -- the cases are whether the pass had been a party
    go : (o : Option ℕ) → IfSome o (λ p. p ≡ ends.party) → IfSome o (λ p. w.party ≡ Some p)
    go None h = tt
    go (Some p) h = ends.mine ∙ ap Some (sym h)

-- A call that has ended is a call of the history with its answer and what it wrote.
pub made_by : {C M E : Type 0} {kind : Kind} {call : Calling ℕ C M E} {base w : View ℕ} {e : E} {m : M} → (ends : Ends one_word kind call base e m w)
    → base.going ≡ None → (wrote : ℕ → List (Event ℕ)) → ends.wrote ≡ wrote ends.party → HasMade call.start (call.answer e m) wrote base w
made_by ends idle wrote wrote_is = grind (arith, called, one_word)

-- all that was seen before the end of the call
abbrev pub before_end : {p : ℕ} {start : Start ℕ} {answer : Answer ℕ} {wrote : List (Event ℕ)} {old new : View ℕ}
    → Called p start answer wrote old new → List (Event ℕ)
before_end {p} {start} {answer} {wrote} {old} {new} c = (old.seen ++ c.others) ++ Begun p start ∷ c.during

-- What is seen behind a call ends with the end of the call.
pub to_end : {p : ℕ} {start : Start ℕ} {answer : Answer ℕ} {wrote : List (Event ℕ)} {old new : View ℕ}
    (c : Called p start answer wrote old new)
    → new.seen ≡ before_end c ++ Finished p start answer ∷ []
to_end {p} {start} {answer} {wrote} {old} {new} c = c.is ∙ sym (append_assoc (old.seen ++ c.others) (Begun p start ∷ c.during) (Finished p start answer ∷ []))

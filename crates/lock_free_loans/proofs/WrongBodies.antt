-- What a wrong body of a call of a loan channel would leave, and the clause that refuses it. A name
-- says what the body does.
use Rattle.std.proofs.Common.{◌≡◌, ◌≢◌, ℕ, zero, suc, ◌+◌, ◌<◌, Bool, true, List, [], ◌∷◌, ◌++◌, if◌then◌else◌}
use Rattle.std.proofs.Common.{length, length-append, length-set, slice_set, get_or-set_same, ⊎_elim, ap, sym, subst, ◌∙◌, arith}
use Rattle.model.specs.declared.event.Answer.{Answer}
use Rattle.model.specs.declared.event.Event.{Event}
use Rattle.model.specs.declared.event.Event.TheVariants.{Begun, Finished}
use Rattle.model.specs.declared.event.Start.{Start}
use Rattle.history.specs.History.{Called}
use Rattle.history.specs.declared.view.View.{View}
use Rattle.lock_free_loans.specs.declared.spsc.loan.LoanSender.{LoanSender}
use Rattle.lock_free_loans.specs.declared.spsc.loan.places.Place.{Place}
use Rattle.lock_free_loans.specs.declared.spsc.loan.places.Place.TheVariants.{Free, Loaned, Sent}
use Rattle.lock_free_loans.specs.Loan.Calls.{LoanDone, LoanKeeps, ReclaimDone, SendDone, SendHandedBack, SendKeeps, SettleKeeps, TakeBackDone}
use Rattle.lock_free_loans.specs.Loan.Calls.{TakeBackKeeps, TakeBackNone}
use Rattle.lock_free_loans.specs.Loan.Contracts.{InTurn, HasFreed, all_sent, sent_back}
use Rattle.lock_free_loans.specs.Loan.Places.{is_sent, place_at, returned}
use Rattle.lock_free_loans.specs.Loan.Sender.{completion_view, pass_view, places_of, submission_view, IsLoaned}

-- a call adds to what its pass has made
makes : (p : ℕ) (start : Start ℕ) (answer : Answer ℕ) (wrote : List (Event ℕ)) (v w : View ℕ) → Called p start answer wrote v w
    → length v.made < length w.made
makes p start answer wrote v w c =
    omega (arith, length-append v.made (Begun p start ∷ (wrote ++ Finished p start answer ∷ [])), ap length c.made)

-- a pass that made nothing made no call
no_call : (p : ℕ) (start : Start ℕ) (answer : Answer ℕ) (wrote : List (Event ℕ)) (v w : View ℕ) → w.made ≡ v.made
    → Called p start answer wrote v w
    → ⊥
no_call p start answer wrote v w none c = absurd (omega (arith, makes p start answer wrote v w c, ap length none))

-- Equal views have made the same.
made_as : (v w : View ℕ) → w ≡ v → w.made ≡ v.made
made_as v w is = ap (λ (u : View ℕ). u.made) is

-- each free is a call, so it adds to what the pass has made
frees_add : (indices : List ℕ) (v w : View ℕ) → InTurn HasFreed indices v w → length v.made + length indices < length w.made + 1
frees_add [] v w in_turn = omega (arith, ap length (made_as v w in_turn))
frees_add (index ∷ indices) v w in_turn =
    omega (arith, makes _ _ _ _ v in_turn.0 in_turn.1.given.called, frees_add indices in_turn.0 w in_turn.2)

-- A pass that made nothing has freed no index in turn.
no_frees : (index : ℕ) (indices : List ℕ) (v w : View ℕ) → w.made ≡ v.made → InTurn HasFreed (index ∷ indices) v w → ⊥
no_frees index indices v w none in_turn = absurd (omega (arith, frees_add (index ∷ indices) v w in_turn, ap length none))

-- if a value that came back is an index that is sent, a pass that made nothing has not freed it
back_unfreed : (places : List Place) (value : ℕ) (v w : View ℕ) → is_sent (place_at places value) ≡ true → w.made ≡ v.made
    → InTurn HasFreed (sent_back value places) v w
    → ⊥
back_unfreed places value v w sent none in_turn =
    no_frees value [] v w none (subst (λ xs. InTurn HasFreed xs v w) (ap (λ (b : Bool). if b then value ∷ [] else []) sent) in_turn)

-- an index that the table has on loan is one of the table
loaned_within : (places : List Place) (index : ℕ) → place_at places index ≡ Loaned → index < length places
loaned_within [] index e = cc
loaned_within (p ∷ places) zero e = omega arith
loaned_within (p ∷ places) (suc index) e = omega (arith, loaned_within places index e)

-- in the table after a value came back, the sent index that it names is free
returned_free : (places : List Place) (value : ℕ) → is_sent (place_at places value) ≡ true → value < length places
    → place_at (returned value places) value ≡ Free
returned_free places value sent within =
    let back : returned value places ≡ slice_set places value Free = ap (λ (b : Bool). if b then slice_set places value Free else places) sent in
    ap (λ (ps : List Place). place_at ps value) back ∙ get_or-set_same places value Free Free within

-- ---- loan

-- the body hands an index out without a call of the set, which clause `loaned` refuses
pub loan_asks_no_set : (index : ℕ) (old new : LoanSender) → (pass_view new).made ≡ (pass_view old).made → LoanDone index old new → ⊥
loan_asks_no_set index old new none k = no_call _ _ _ _ (pass_view old) (pass_view new) none k.acquired.taken.called

-- the body asks the set twice beside the steps of its call, which clause `same` of `loan` and of
-- `give_up` refuses
pub loan_looks_twice_aside : (old new : LoanSender) → (pass_view new).aside ≡ (pass_view old).aside + 2 → LoanKeeps old new → ⊥
loan_looks_twice_aside old new two k = absurd (omega (arith, k.aside.pass))

-- the body asks the set twice beside the steps of its call, which clause `same` of `settle` refuses
pub settle_looks_twice_aside : (old new : LoanSender) → (pass_view new).aside ≡ (pass_view old).aside + 2 → SettleKeeps old new → ⊥
settle_looks_twice_aside old new two k = absurd (omega (arith, k.aside.pass))

-- ---- send

-- the body sends the index and leaves it on loan in the table, which clause `sent` refuses
pub send_keeps_the_loan : (index : ℕ) (old new : LoanSender) → IsLoaned index old → places_of new ≡ places_of old → SendDone index old new → ⊥
send_keeps_the_loan index old new loaned same k =
    let sent : place_at (slice_set (places_of old) index Sent) index ≡ Sent =
    get_or-set_same (places_of old) index Sent Free (loaned_within (places_of old) index loaned) in
    let is : Loaned ≡ Sent = sym loaned ∙ (ap (λ (ps : List Place). place_at ps index) (sym same ∙ k.sent) ∙ sent) in
    cc

-- the body gives the index that it sends back to the set, which clause `sent` refuses
pub send_frees_the_index : (index : ℕ) (old new : LoanSender) → HasFreed index (pass_view old) (pass_view new) → SendDone index old new → ⊥
send_frees_the_index index old new freed k =
    no_call _ _ _ _ (pass_view old) (pass_view new) (made_as (pass_view old) (pass_view new) k.kept) freed.given.called

-- the body does not push the index, which clause `sent` refuses
pub send_pushes_nothing : (index : ℕ) (old new : LoanSender) → (submission_view new).made ≡ (submission_view old).made → SendDone index old new
    → ⊥
send_pushes_nothing index old new none k = no_call _ _ _ _ (submission_view old) (submission_view new) none k.added.0.called

-- the body leaves an index that the push handed back as sent in the table, which clause `handed_back` refuses
pub send_keeps_what_came_back : (index value : ℕ) (old new : LoanSender)
    → is_sent (place_at (slice_set (places_of old) index Sent) value) ≡ true
    → value < length (places_of old)
    → place_at (places_of new) value ≡ Sent
    → SendHandedBack index value old new
    → ⊥
send_keeps_what_came_back index value old new sent within still k =
    let long = length-set (places_of old) index Sent in
    let free = returned_free (slice_set (places_of old) index Sent) value sent (omega arith) in
    let is : Sent ≡ Free = sym still ∙ (ap (λ (ps : List Place). place_at ps value) k.back ∙ free) in
    cc

-- the body does not give an index that the push handed back to the set, which clause `handed_back` refuses
pub send_frees_nothing : (index value : ℕ) (old new : LoanSender)
    → is_sent (place_at (slice_set (places_of old) index Sent) value) ≡ true
    → (pass_view new).made ≡ (pass_view old).made
    → SendHandedBack index value old new
    → ⊥
send_frees_nothing index value old new sent none k =
    back_unfreed (slice_set (places_of old) index Sent) value (pass_view old) (pass_view new) sent none k.freed

-- the body hands back another value than its index without a push, which clause `handed_back` refuses
pub send_hands_back_without_a_push : (index value : ℕ) (old new : LoanSender) → value ≢ index
    → (submission_view new).made ≡ (submission_view old).made
    → SendHandedBack index value old new
    → ⊥
send_hands_back_without_a_push index value old new differs none k =
    ⊎_elim (λ replaced. no_call _ _ _ _ (submission_view old) (submission_view new) none replaced.0.called) (λ own. differs own.0) k.handed_back

-- the body asks the submission queue twice beside the steps of the push, which clause `same` refuses
pub send_looks_twice_aside : (old new : LoanSender) → (submission_view new).aside ≡ (submission_view old).aside + 2 → SendKeeps old new → ⊥
send_looks_twice_aside old new two k = absurd (omega (arith, k.aside.submission))

-- ---- take back

-- the body does not give a sent index that came back to the set, which clause `back` refuses
pub take_back_frees_nothing : (value : ℕ) (old new : LoanSender) → is_sent (place_at (places_of old) value) ≡ true
    → (pass_view new).made ≡ (pass_view old).made
    → TakeBackDone value old new
    → ⊥
take_back_frees_nothing value old new sent none k = back_unfreed (places_of old) value (pass_view old) (pass_view new) sent none k.freed

-- the body frees an index though nothing came back, which clause `none` refuses
pub take_back_frees_what_is_out : (index : ℕ) (old new : LoanSender) → HasFreed index (pass_view old) (pass_view new) → TakeBackNone old new → ⊥
take_back_frees_what_is_out index old new freed k =
    no_call _ _ _ _ (pass_view old) (pass_view new) (made_as (pass_view old) (pass_view new) k.kept) freed.given.called

-- the body asks the completion queue twice beside the steps of the pop, which clause `same` refuses
pub take_back_looks_twice_aside : (old new : LoanSender) → (completion_view new).aside ≡ (completion_view old).aside + 2 → TakeBackKeeps old new → ⊥
take_back_looks_twice_aside old new two k = absurd (omega (arith, k.aside.completion))

-- ---- reclaim

-- the body gives nothing back to the set though an index is sent, which clause `reclaimed` refuses
pub reclaim_frees_nothing : (index count : ℕ) (indices : List ℕ) (old new : LoanSender) → all_sent (places_of old) ≡ index ∷ indices
    → (pass_view new).made ≡ (pass_view old).made
    → ReclaimDone count old new
    → ⊥
reclaim_frees_nothing index count indices old new some none k =
    no_frees index indices (pass_view old) (pass_view new) none
    (subst (λ xs. InTurn HasFreed xs (pass_view old) (pass_view new)) some k.freed)

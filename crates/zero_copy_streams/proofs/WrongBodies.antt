-- What a wrong body of a call would leave or answer, and the clause that refuses it. A name says what the body does.
use Rattle.std.proofs.Common.{◌≡◌, ◌≢◌, ◌+◌, ◌<◌, ◌≤◌, ℕ, true, false, None, List, [], ◌∷◌, ◌++◌, length}
use Rattle.std.proofs.Common.{refl, sym, ap, subst, ◌∙◌, arith, length-append, true≢false}
use Rattle.std.proofs.lemmas.List.{append_cancel_left}
use Rattle.zero_copy_loans.specs.Numbers.{AreTold}
use Rattle.zero_copy_slots.specs.declared.Keeps.{Ghosts}
use Rattle.zero_copy_streams.specs.Streams.{IsNotMade}
use Rattle.zero_copy_streams.specs.declared.error.StreamError.TheVariants.{TooManySlots}
use Rattle.zero_copy_streams.specs.Ends.{received, received_so_far, sent, sent_so_far, next_of, is_at_end, is_end, has_ended, has_finished}
use Rattle.zero_copy_streams.specs.Ends.{HasFound, HasLooked, HasRead}
use Rattle.zero_copy_streams.specs.declared.receiver.Found.TheVariants as found
use Rattle.zero_copy_streams.specs.declared.receiver.Received.{Received}
use Rattle.zero_copy_streams.specs.declared.receiver.Receiver.{Receiver}
use Rattle.zero_copy_streams.specs.declared.sender.Sender.{Sender}
use Rattle.zero_copy_streams.specs.declared.sender.Sent.{Sent}

-- a list is not itself with one more element
one_longer : (xs : List ℕ) (x : ℕ) → xs ≡ xs ++ x ∷ [] → ⊥
one_longer xs x is = (let long = ap length is in let both = length-append xs (x ∷ []) in absurd (omega arith))

-- a list with two numbers more is none with one number more
two_longer : (xs : List ℕ) (x y z : ℕ) → xs ++ x ∷ y ∷ [] ≡ xs ++ z ∷ [] → ⊥
two_longer xs x y z is =
    let long = ap length is in
    let two = length-append xs (x ∷ y ∷ []) in
    let one = length-append xs (z ∷ []) in
    absurd (omega arith)

-- the first element of a list, or `z` if it is empty
abbrev head : ℕ → List ℕ → ℕ
head z [] = z
head z (x ∷ xs) = x

same_last : (xs : List ℕ) (x y : ℕ) → xs ++ x ∷ [] ≡ xs ++ y ∷ [] → x ≡ y
same_last xs x y is = ap (head x) (append_cancel_left xs (x ∷ []) (y ∷ []) is)

-- as many things were told as values were received
told_many : {A : Type 0} (tells : ℕ → A → Type 0) (ns : List ℕ) (told : List A) → AreTold tells ns told → length ns ≡ length told
told_many tells [] [] all = refl
told_many tells [] (a ∷ told) all = absurd all
told_many tells (n ∷ ns) [] all = absurd all
told_many tells (n ∷ ns) (a ∷ told) all = (let more = told_many tells ns told all.1 in omega arith)

-- ---- `new`

-- `new` refuses slots for which there is room
pub new_refuses_few_slots : (capacity slots : ℕ) → slots ≤ capacity → IsNotMade capacity slots TooManySlots → ⊥
new_refuses_few_slots capacity slots few k = absurd (omega arith)

module _ {X K : Type 0} {rule : Ghosts K X} where
  module _ (old new : Sender X K rule) where
    -- ---- `send` and `send_waiting`

    -- `send` answers that it sent, and sends nothing
    pub send_sends_nothing : sent_so_far new ≡ sent_so_far old → sent_so_far new ≡ sent_so_far old ++ next_of old ∷ [] → ⊥
    send_sends_nothing none says = one_longer (sent_so_far old) (next_of old) (sym none ∙ says)

    -- `send` answers that it sent nothing, and sends
    pub send_refuses_what_it_sent : (n : ℕ) → sent_so_far new ≡ sent_so_far old ++ n ∷ [] → sent_so_far new ≡ sent_so_far old → ⊥
    send_refuses_what_it_sent n sends says = one_longer (sent_so_far old) n (sym says ∙ sends)

    -- `send` sends another number than the next one
    pub send_sends_another_number : (n : ℕ) → n ≢ next_of old → sent_so_far new ≡ sent_so_far old ++ n ∷ []
        → sent_so_far new ≡ sent_so_far old ++ next_of old ∷ [] → ⊥
    send_sends_another_number n other sends says = other (same_last (sent_so_far old) n (next_of old) (sym sends ∙ says))

    -- `send` sends the ticket twice
    pub send_sends_twice : sent_so_far new ≡ sent_so_far old ++ next_of old ∷ next_of old ∷ []
        → sent_so_far new ≡ sent_so_far old ++ next_of old ∷ [] → ⊥
    send_sends_twice sends says = two_longer (sent_so_far old) (next_of old) (next_of old) (next_of old) (sym sends ∙ says)

    -- `send_each` sends one value too few
    pub send_each_sends_too_few : (count : ℕ) → next_of new + 1 ≡ next_of old + count → next_of new ≡ next_of old + count → ⊥
    send_each_sends_too_few count few says = absurd (omega arith)

    -- `send_each` answers that a value was refused, and has sent all
    pub send_each_refuses_what_it_sent : (count : ℕ) → next_of new ≡ next_of old + count
        → (next_of old ≤ next_of new) × (next_of new < next_of old + count) → ⊥
    send_each_refuses_what_it_sent count all says = (let fewer = says.1 in absurd (omega arith))

    pub send_each_takes_back_a_number : (count : ℕ) → next_of new + 1 ≡ next_of old
        → (next_of old ≤ next_of new) × (next_of new < next_of old + count) → ⊥
    send_each_takes_back_a_number count back says = (let kept = says.0 in absurd (omega arith))

  module _ {A : Type 0} (tells : ℕ → A → Type 0) (old new : Receiver X K rule) where
    -- ---- `read_waiting`, and `read` where something was there

    -- `read` tells of a value again, and receives none
    pub read_tells_a_value_twice : (one : A) → received_so_far new ≡ received_so_far old → HasFound tells (found.Told one) old new → ⊥
    read_tells_a_value_twice one none says = one_longer (received_so_far old) says.0 (sym none ∙ says.1)

    -- `read` passes over a value
    pub read_skips_a_value : (one : A) (n m : ℕ) → received_so_far new ≡ received_so_far old ++ n ∷ m ∷ []
        → HasFound tells (found.Told one) old new → ⊥
    read_skips_a_value one n m both says = two_longer (received_so_far old) n m says.0 (sym both ∙ says.1)

    -- `read` tells of the value what is not true of its number
    pub read_tells_of_another : (one : A) (n : ℕ) → ¬ tells n one → received_so_far new ≡ received_so_far old ++ n ∷ []
        → HasFound tells (found.Told one) old new → ⊥
    read_tells_of_another one n wrong came says =
        wrong (subst (λ m. tells m one) (same_last (received_so_far old) says.0 n (sym says.1 ∙ came)) says.2)

    -- `read` answers the end where a value came
    pub read_ends_at_a_value : (n : ℕ) → received_so_far new ≡ received_so_far old ++ n ∷ [] → HasFound tells found.End old new → ⊥
    read_ends_at_a_value n came says = one_longer (received_so_far old) n (sym says ∙ came)

    -- `read` answers the end before the end came
    pub read_ends_before_the_end : is_at_end new ≡ false → is_at_end new ≡ is_end {A = A} found.End → ⊥
    read_ends_before_the_end more says = true≢false (sym says ∙ more)

    -- `read` answers that a value was not read, and received none
    pub read_leaves_out_what_did_not_come : (n : ℕ) → received_so_far new ≡ received_so_far old → HasFound tells (found.Unread n) old new → ⊥
    read_leaves_out_what_did_not_come n none says = one_longer (received_so_far old) n (sym none ∙ says)

    pub read_leaves_out_another : (n m : ℕ) → m ≢ n → received_so_far new ≡ received_so_far old ++ m ∷ [] → HasFound tells (found.Unread n) old new → ⊥
    read_leaves_out_another n m other came says = other (same_last (received_so_far old) m n (sym came ∙ says))

    -- `read` finds nothing where a value came, or at the end
    pub read_finds_nothing_in_a_value : (n : ℕ) → received_so_far new ≡ received_so_far old ++ n ∷ [] → HasLooked tells None old new → ⊥
    read_finds_nothing_in_a_value n came says = one_longer (received_so_far old) n (sym says.0 ∙ came)

    pub read_finds_nothing_at_the_end : is_at_end new ≡ true → HasLooked tells None old new → ⊥
    read_finds_nothing_at_the_end ended says = true≢false (sym ended ∙ says.1)

    -- ---- `read_all`

    -- `read_all` drops what was told of a value
    pub read_all_drops_a_value : (before : List A) (n : ℕ) → received_so_far new ≡ received_so_far old ++ n ∷ []
        → HasRead tells [] before before old new → ⊥
    read_all_drops_a_value before n came says =
        let told = ap length says.appended in
        let none = length-append before says.told in
        let many = told_many tells says.numbers says.told says.of_each in
        let all = ap length (sym came ∙ says.received) in
        let one = length-append (received_so_far old) (n ∷ []) in
        let rest = length-append (received_so_far old) (says.numbers ++ []) in
        let some = length-append says.numbers [] in
        absurd (omega arith)

-- ---- `finish_waiting` and `join`

-- `finish_waiting` sends no end
pub finish_writes_no_end : (s : Sent) → has_finished s ≡ false → has_finished s ≡ true → ⊥
finish_writes_no_end s none says = true≢false (sym says ∙ none)

-- the end comes before the last value
pub end_comes_too_early : (s : Sent) (r : Received) (n : ℕ) → has_ended r ≡ true → sent s ≡ received r ++ n ∷ []
    → (has_ended r ≡ true → received r ≡ sent s) → ⊥
end_comes_too_early s r n ended more says = one_longer (received r) n (says ended ∙ more)

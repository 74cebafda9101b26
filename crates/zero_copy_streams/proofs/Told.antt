-- What is told of the values that are read one after the other.
use Rattle.std.proofs.Common.{◌≡◌, ℕ, false, List, [], ◌∷◌, ◌++◌, map, refl, sym, ap, ◌∙◌, append-nil, append_assoc}
use Rattle.zero_copy_loans.specs.Numbers.{AreTold}
use Rattle.zero_copy_slots.specs.declared.Keeps.{Ghosts}
use Rattle.zero_copy_streams.specs.Ends.{received_so_far, is_end, HasFound, HasRead, IsOf}
use Rattle.zero_copy_streams.specs.declared.receiver.Found.{Found}
use Rattle.zero_copy_streams.specs.declared.receiver.Found.TheVariants as found
use Rattle.zero_copy_streams.specs.declared.receiver.Receiver.{Receiver}

module _ {A : Type 0} (tells : ℕ → A → Type 0) where
  -- a reader that told of each number, and then of one more, has told of all
  told_then : (ns : List ℕ) (told : List A) (n : ℕ) (one : A) → AreTold tells ns told → tells n one → AreTold tells (ns ++ n ∷ []) (told ++ one ∷ [])
  told_then [] [] n one all is = (is, tt)
  told_then [] (a ∷ told) n one all is = absurd all
  told_then (m ∷ ns) [] n one all is = absurd all
  told_then (m ∷ ns) (a ∷ told) n one all is = (all.0, told_then ns told n one all.1 is)

  -- what is found of a value is not the end
  pub not_end : (f : Found A) (number : ℕ) → IsOf tells number f → is_end f ≡ false
  not_end (found.Told one) number is = refl
  not_end (found.Unread other) number is = refl
  not_end found.End number is = absurd is

  module _ {X K : Type 0} {rule : Ghosts K X} (old : Receiver X K rule) where
    -- What is told of the number that was received last is what was found.
    pub found_of : (new : Receiver X K rule) (f : Found A) (number : ℕ) → IsOf tells number f
        → received_so_far new ≡ received_so_far old ++ number ∷ [] → HasFound tells f old new
    found_of new (found.Told one) number is came = (number, came, is)
    found_of new (found.Unread other) number is came = came ∙ ap (λ n. received_so_far old ++ n ∷ []) (sym is)
    found_of new found.End number is came = absurd is

    -- nothing was read yet
    pub read_none : (before : List A) → HasRead tells [] before before old old
    read_none before =
        record { numbers = []; told = []; received = sym (append-nil _); appended = sym (append-nil before); of_each = tt }

    -- Of the values read so far something was told each time (`h`). Then one more value is read, or the end.
    module _ (before after longer : List A) (mid new : Receiver X K rule) (h : HasRead tells [] before after old mid) where
      -- one value more was received, and something was told of it
      pub read_told : (one : A) → HasFound tells (found.Told one) mid new → longer ≡ after ++ one ∷ []
          → HasRead tells [] before longer old new
      read_told one has_found is =
          record {
            numbers = h.numbers ++ has_found.0 ∷ [];
            told = h.told ++ one ∷ [];
            received =
                has_found.1
                ∙ (ap (λ xs. xs ++ has_found.0 ∷ []) (h.received ∙ ap (λ ns. received_so_far old ++ ns) (append-nil h.numbers))
                ∙ (append_assoc (received_so_far old) h.numbers (has_found.0 ∷ [])
                ∙ ap (λ ns. received_so_far old ++ ns) (sym (append-nil (h.numbers ++ has_found.0 ∷ [])))));
            appended = is ∙ (ap (λ xs. xs ++ one ∷ []) h.appended ∙ append_assoc before h.told (one ∷ []));
            of_each = told_then h.numbers h.told has_found.0 one h.of_each has_found.2;
          }

      -- What was received goes on by some numbers, of which the reader tells nothing.
      pub read_rest : (rest : List ℕ) → received_so_far new ≡ received_so_far mid ++ rest → longer ≡ after
          → HasRead tells rest before longer old new
      read_rest rest came same =
          record {
            numbers = h.numbers;
            told = h.told;
            received =
                came
                ∙ (ap (λ xs. xs ++ rest) (h.received ∙ ap (λ ns. received_so_far old ++ ns) (append-nil h.numbers))
                ∙ append_assoc (received_so_far old) h.numbers rest);
            appended = same ∙ h.appended;
            of_each = h.of_each;
          }

module _ {A : Type 0} (f : ℕ → A) where
  -- If of each number its value of `f` is told, what is told is the list of those values.
  told_by : (ns : List ℕ) (told : List A) → AreTold (λ n a. a ≡ f n) ns told → told ≡ map f ns
  told_by [] [] all = refl
  told_by [] (a ∷ told) all = absurd all
  told_by (n ∷ ns) [] all = absurd all
  told_by (n ∷ ns) (a ∷ told) all = λ i. all.0 i ∷ told_by ns told all.1 i

  -- for a client: a receiver that had received nothing, and a vector that was empty
  pub all_told : {X K : Type 0} {rule : Ghosts K X} (told before : List A) (old new : Receiver X K rule)
      → HasRead (λ n a. a ≡ f n) [] before told old new → before ≡ [] → received_so_far old ≡ [] → told ≡ map f (received_so_far new)
  all_told told before old new read empty none =
      read.appended
      ∙ (ap (λ xs. xs ++ read.told) empty
      ∙ (told_by read.numbers read.told read.of_each
      ∙ ap (map f) (sym (read.received ∙ (ap (λ xs. xs ++ (read.numbers ++ [])) none ∙ append-nil read.numbers)))))

-- What a find and a recovery were told, as lists.
use Rattle.std.proofs.Common.{◌≡◌, ℕ, ◌+◌, ◌⊎◌, inl, inr, Bool, true, false, List, [], ◌∷◌, ◌++◌, length, map, refl}
use Rattle.std.proofs.Common.{sym, ap, ◌∙◌, append_assoc, arith, if◌then◌else◌}
use Rattle.std.proofs.lemmas.List.{length-append, append-nil}
use Rattle.std.specs.List.{FoldsTo}
use Rattle.steps.specs.Objects.Owners.{Owned}
use Rattle.steps.specs.declared.ask.Question.{Question}
use Rattle.steps.specs.declared.enums.CallbackProgression.{CallbackProgression}
use Rattle.steps.specs.declared.enums.CallbackProgression.TheVariants.{Continue, Stop}
use Rattle.plain.specs.Callable as calls
use Rattle.plain.specs.Callable.{HasFound, Asked, questions, as_answer}
use Rattle.model.specs.Turns.{number_of}
use Rattle.headline_whole.specs.Dialogues.{Decision}
use Rattle.headline_whole.specs.Objects.{visited, agreed}

-- whether a find goes on after its closure has answered this
abbrev pub goes_on : CallbackProgression → Bool
goes_on Continue = true
goes_on Stop = false

-- Yes lets a closure go on, and no stops it.
abbrev pub progression : Bool → CallbackProgression
progression true = Continue
progression false = Stop

-- A decision is what a closure's answer to it says.
pub same_decision : (said : Bool) → goes_on (progression said) ≡ said
same_decision true = refl
same_decision false = refl

-- The number of a decision is that of a closure's answer to it.
pub same_number : (said : Bool) → number_of said ≡ as_answer (progression said)
same_number true = refl
same_number false = refl

-- Yes has the number 1 and no the number 0.
pub yes_number : (said : Bool) → number_of said ≡ (if said then 1 else 0)
yes_number true = refl
yes_number false = refl

-- With one question more, the owners and indices that were agreed to are those whose
-- question was answered yes.
one_more : (o : Owned) (said : Bool) (asked : List Asked)
    → agreed (questions asked) (map (λ (a : Asked). a.yes) asked) ≡ calls.agreed asked
    → agreed (o ∷ questions asked) (said ∷ map (λ (a : Asked). a.yes) asked) ≡ calls.agreed (record { of = o; yes = said } ∷ asked)
one_more o true asked so = ap (λ xs. o ∷ xs) so
one_more o false asked so = so

-- The owners and indices that were agreed to are those whose question was answered yes.
agreed_so : (asked : List Asked) → agreed (questions asked) (map (λ (a : Asked). a.yes) asked) ≡ calls.agreed asked
agreed_so [] = refl
agreed_so (a ∷ asked) = one_more a.of a.yes asked (agreed_so asked)

module _ {T : Type 0} where
  -- Whether the decision is a yes.
  abbrev pub yes_of : Decision T → Bool
  yes_of d = d.yes

  -- The question that the decision answers.
  abbrev pub question_of : Decision T → Question T
  question_of d = d.question

  abbrev pub decision : Question T → Bool → Decision T
  decision question said = record { question = question; yes = said }

  -- ---- a find

  module _ (shows : ℕ → Question T) where
    -- The decision to go on at an index.
    abbrev on : ℕ → Decision T
    on index = decision (shows index) true

    -- The decision to stop at an index.
    abbrev off : ℕ → Decision T
    off index = decision (shows index) false

    -- A find that is told to go on at each index has visited each.
    all_visited : (before : List ℕ) → visited before (map yes_of (map on before)) ≡ before
    all_visited [] = refl
    all_visited (index ∷ before) = ap (λ xs. index ∷ xs) (all_visited before)

    -- A find that is told to go on at each index has asked about each.
    all_questions : (before : List ℕ) → map question_of (map on before) ≡ map shows before
    all_questions [] = refl
    all_questions (index ∷ before) = ap (λ xs. shows index ∷ xs) (all_questions before)

    -- A find that goes on after each question but its last has visited the indices up to the last question.
    some_visited : (before : List ℕ) (index : ℕ) (rest : List ℕ)
        → visited (before ++ index ∷ rest) (map yes_of (map on before ++ off index ∷ [])) ≡ before ++ index ∷ []
    some_visited [] index rest = refl
    some_visited (x ∷ before) index rest = ap (λ xs. x ∷ xs) (some_visited before index rest)

    -- a find that is told yes at these indices and no at the next has asked about each of them
    some_questions : (before : List ℕ) (index : ℕ) → map question_of (map on before ++ off index ∷ []) ≡ map shows (before ++ index ∷ [])
    some_questions [] index = refl
    some_questions (x ∷ before) index = ap (λ xs. shows x ∷ xs) (some_questions before index)

    -- A find over the indices `all` was told `told`: its questions are those of the visited indices, of which there are `n`.
    pub record WasTold (all : List ℕ) (n : ℕ) (told : List (Decision T)) : Type 0 where
      pub asked : map question_of told ≡ map shows (visited all (map yes_of told))
      pub number : n ≡ length (visited all (map yes_of told))

    module _ (R : List (Decision T) → ℕ → CallbackProgression → List (Decision T) → Type 0)
        (writes : (p : List (Decision T)) (index : ℕ) (said : CallbackProgression) (q : List (Decision T)) → R p index said q
        → q ≡ p ++ decision (shows index) (goes_on said) ∷ []) where
      -- a find whose closure answers Continue each time writes a yes for each index
      told_all : (before : List ℕ) (p q : List (Decision T)) → FoldsTo (λ p x q. R p x Continue q) p before q → q ≡ p ++ map on before
      told_all [] p q folds = sym folds ∙ sym (append-nil p)
      told_all (index ∷ before) p q folds =
          told_all before folds.0 q folds.2
          ∙ (ap (λ (xs : List (Decision T)). xs ++ map on before) (writes p index Continue folds.0 folds.1)
          ∙ append_assoc p (on index ∷ []) (map on before))

      -- the questions of a find are those of the indices that it came to, and it answers their number
      pub found_so : (all : List ℕ) (n : ℕ) (told : List (Decision T)) → HasFound R all [] n told → WasTold all n told
      found_so all n told found = go found.ended
        where
          been : found.now ≡ map on found.before
          been = told_all found.before [] found.now found.calls

          -- the cases are whether it came to all of them or was told to stop
          go : ((found.before ≡ all) × (found.now ≡ told) × (n ≡ length found.before))
              ⊎ ((index : ℕ) × (rest : List ℕ) × (found.before ++ index ∷ rest ≡ all) × R found.now index Stop told × (n ≡ length found.before + 1))
              → WasTold all n told
          go (inl e) =
              let told_is : told ≡ map on all = sym e.1 ∙ (been ∙ ap (map on) e.0) in
              let same : visited all (map yes_of told) ≡ all = ap (λ xs. visited all (map yes_of xs)) told_is ∙ all_visited all in
              record {
                asked = ap (map question_of) told_is ∙ (all_questions all ∙ ap (map shows) (sym same));
                number = e.2 ∙ (ap length e.0 ∙ ap length (sym same));
              }
          go (inr e) =
              let told_is : told ≡ map on found.before ++ off e.0 ∷ [] =
              writes found.now e.0 Stop told e.3 ∙ ap (λ (xs : List (Decision T)). xs ++ off e.0 ∷ []) been in
              let same : visited all (map yes_of told) ≡ found.before ++ e.0 ∷ [] =
              (λ i. visited (sym e.2 i) (map yes_of (told_is i))) ∙ some_visited found.before e.0 e.1 in
              record {
                asked = ap (map question_of) told_is ∙ (some_questions found.before e.0 ∙ ap (map shows) (sym same));
                number = e.4 ∙ (sym (length-append found.before (e.0 ∷ [])) ∙ ap length (sym same));
              }

  -- ---- a recovery

  -- Where each call of a closure writes one decision, there are as many decisions as calls.
  pub folds_long : {X : Type 0} (R : List (Decision T) → X → List (Decision T) → Type 0)
      → ((p : List (Decision T)) (x : X) (q : List (Decision T)) → R p x q → length q ≡ length p + 1)
      → (xs : List X) (p q : List (Decision T)) → FoldsTo R p xs q → length q ≡ length p + length xs
  folds_long R one [] p q folds = let same = ap length folds in omega arith
  folds_long R one (x ∷ xs) p q folds =
      let first = one p x folds.0 folds.1 in let rest = folds_long R one xs folds.0 q folds.2 in omega arith

  module _ (all : List Owned) (shows : Owned → Question T) (R : List (Decision T) → Asked → List (Decision T) → Type 0)
      (writes : (before : List Asked) (a : Asked) (rest : List Asked) (p q : List (Decision T)) → length p ≡ length before
      → questions (before ++ a ∷ rest) ≡ all → R p a q → q ≡ p ++ decision (shows a.of) a.yes ∷ []) where
    -- What a recovery is told at a question of the list.
    abbrev as_told : Asked → Decision T
    as_told a = decision (shows a.of) a.yes

    -- a recovery was told its questions with what was answered, in order
    told_so : (before asked : List Asked) (p q : List (Decision T)) → length p ≡ length before → questions (before ++ asked) ≡ all
        → FoldsTo R p asked q → q ≡ p ++ map as_told asked
    told_so before [] p q long questions_are folds = sym folds ∙ sym (append-nil p)
    told_so before (a ∷ asked) p q long questions_are folds =
        let wrote = writes before a asked p folds.0 long questions_are folds.1 in
        let joined : questions ((before ++ a ∷ []) ++ asked) ≡ all = ap questions (append_assoc before (a ∷ []) asked) ∙ questions_are in
        let longer : length folds.0 ≡ length (before ++ a ∷ []) =
        ap length wrote ∙ (length-append p (as_told a ∷ []) ∙ (ap (λ n. n + 1) long ∙ sym (length-append before (a ∷ [])))) in
        told_so (before ++ a ∷ []) asked folds.0 q longer joined folds.2
        ∙ (ap (λ (xs : List (Decision T)). xs ++ map as_told asked) wrote ∙ append_assoc p (as_told a ∷ []) (map as_told asked))

    -- The decisions in what a recovery was told are those of the list `asked`.
    yes_so : (asked : List Asked) → map yes_of (map as_told asked) ≡ map (λ (a : Asked). a.yes) asked
    yes_so [] = refl
    yes_so (a ∷ asked) = ap (λ xs. a.yes ∷ xs) (yes_so asked)

    -- The questions in what a recovery was told are those of the list `asked`.
    questions_so : (asked : List Asked) → map question_of (map as_told asked) ≡ map shows (questions asked)
    questions_so [] = refl
    questions_so (a ∷ asked) = ap (λ xs. shows a.of ∷ xs) (questions_so asked)

    -- each question of `all` was put, and those that were answered yes are the agreed ones of `asked`
    pub record WasAsked (asked : List Asked) (told : List (Decision T)) : Type 0 where
      pub questions_are : map question_of told ≡ map shows all
      pub agreed_are : agreed all (map yes_of told) ≡ calls.agreed asked

    -- a recovery that put all these questions was told so
    pub asked_so : (asked : List Asked) (told : List (Decision T)) → questions asked ≡ all → FoldsTo R [] asked told → WasAsked asked told
    asked_so asked told is answers =
        let been : told ≡ map as_told asked = told_so [] asked [] told refl is answers in
        record {
          questions_are = ap (map question_of) been ∙ (questions_so asked ∙ ap (map shows) is);
          agreed_are = (λ i. agreed (sym is i) (map yes_of (been i))) ∙ (ap (agreed (questions asked)) (yes_so asked) ∙ agreed_so asked);
        }

-- The state of a loan channel's machine: its three parts with what they hold, its book and the events, what holds of them
-- between two turns, and how it opens.
use Rattle.laws_loan.proofs.Names.{◌≡◌, ◌≢◌, ℕ, zero, suc, ◌+◌, ◌^◌, ◌<◌, ◌≤◌, Option, None, List, [], ◌++◌}
use Rattle.laws_loan.proofs.Names.{replicate, refl, ap, length-replicate, Place, locked, place_at, Event, Registry}
use Rattle.laws_loan.proofs.Names.{Book, opening_words, opening_book, opening_kept, KeepsBook, Free}
use Rattle.laws_loan.proofs.Names.{words_of_index, Core, layout}
use Rattle.std.proofs.Common.{arith}
use Rattle.steps.specs.declared.loan.places.Place.TheVariants as places
use Rattle.model.specs.declared.families.Registry.TheVariants as registries
use Rattle.model.specs.declared.families.queues.Roles.{Roles}
use Rattle.model.specs.Families.Indices.Opening as index_opening
use Rattle.model.proofs.Family as families
use Rattle.laws_indices.proofs.Core as indices
use Rattle.laws_indices.proofs.Opening.{nobody_holds, opening_good}
use Rattle.laws_queues.proofs.Queues.Core as queues
use Rattle.laws_loan.proofs.Placed.{IsBy, Placed}

-- ---- the state

-- the words of the indices and the two queues, and what is known beside them
pub record Channel (T : Type 0) : Type 0 where
  pub set : List ℕ  -- the words of the indices
  pub claims : List (Option ℕ)  -- who has claimed each: the sender, or nobody
  pub submission : Core ℕ
  pub completion : Core ℕ
  pub book : Book  -- what is kept beside the words
  pub events : List (Event T)

-- nobody takes a role of the channel's two queues
abbrev pub no_roles : Roles
no_roles = record { producer = None; consumer = None }

-- the words of the channel: those of the indices, of the submission queue and of the completion queue
abbrev pub words_in : {T : Type 0} → Channel T → List ℕ
words_in s = s.set ++ (layout no_roles s.submission ++ layout no_roles s.completion)

-- the registry has the book of the channel, and the words are its words
abbrev pub Represents : {T : Type 0} → Registry T → List ℕ → Channel T → Type 0
Represents (registries.Loan book) words s = (book ≡ s.book) × (words ≡ words_in s)
Represents kept words s = ⊥

-- a registry and words that represent the channel are its book and its layout
pub kept_is : {T : Type 0} (kept : Registry T) (words : List ℕ) (s : Channel T) → Represents kept words s
    → families.Represents kept words (registries.Loan s.book) (words_in s)
kept_is (registries.Loan book) words s fit =
    record { kept = ap (λ (b : Book). registries.Loan b) fit.0; words = fit.1 }
kept_is kept words s fit = absurd fit

-- ---- what holds between two turns

-- What holds of a channel of `slots` slots whose submission queue has the capacity `queue`, while `busy`
-- calls take an index or give one back: of the words of its three parts, and of where each index is.
pub record Holds {T : Type 0} (slots queue : ℕ) (s : Channel T) (busy : ℕ) : Type 0 where
  -- the capacity of the submission queue, which is below 2 ^ 32
  pub capacity : s.book.queue ≡ queue
  pub some : 1 ≤ queue
  pub few : queue < 2 ^ 32
  -- the words of the indices and of the two queues are right
  pub set : indices.Good slots s.set s.claims busy
  pub submission : queues.Good 1 words_of_index (queue + 1) s.submission
  pub completion : queues.Good 1 words_of_index slots s.completion
  -- the indices are never locked, and each is where the claims, the queues and the book say
  pub unlocked : indices.counted_in s.set ≢ locked
  pub placed : Placed slots s.claims s.submission.waiting s.completion.waiting s.book s.events

-- ---- the opening

-- a queue in which nothing was pushed
abbrev pub empty : ℕ → Core ℕ
empty cells = record { write = 0; read = 0; waiting = []; cells = replicate cells 0 }

-- a new channel: all indices are free, and nothing is sent or given back
abbrev pub opened : {T : Type 0} → ℕ → ℕ → Channel T
opened slots queue =
    record {
      set = index_opening.opening_words slots;
      claims = replicate slots None;
      submission = empty (queue + 1);
      completion = empty slots;
      book = opening_book slots queue;
      events = [];
    }

-- a channel opens with these words and this book
pub opening_fits : (T : Type 0) (slots queue : ℕ) → Represents {T = T} (opening_kept slots queue) (opening_words slots queue) (opened slots queue)
opening_fits T slots queue = (refl, refl)

-- the empty queue is right
empty_good : (cells : ℕ) → queues.Good 1 words_of_index cells (empty cells)
empty_good = grind (arith, length-replicate)

-- at the opening each index is free
pub all_free : (n i : ℕ) → place_at (replicate n places.Free) i ≡ places.Free
all_free zero i = refl
all_free (suc n) zero = refl
all_free (suc n) (suc i) = all_free n i

-- no party has a free index
nobody_by : (p : ℕ) → IsBy p Free → ⊥
nobody_by = grind arith

-- the book of an opening is the one of no events
opening_keeps : {T : Type 0} (slots queue : ℕ) → KeepsBook {T = T} (opening_book slots queue) []
opening_keeps = grind (arith, all_free, nobody_holds)

-- at the opening no index is claimed and none waits in a queue, and the book and the events say so
opening_placed : {T : Type 0} (slots queue : ℕ) → Placed {T = T} slots (replicate slots None) [] [] (opening_book slots queue) []
opening_placed slots queue =
    record {
      claimed = λ i below. nobody_holds slots i;
      past = λ i beyond. refl;
      waits = λ i. refl;
      returns = λ i. refl;
      parties = λ i p by. absurd (nobody_by p by);
      claims_long = length-replicate {A = Option ℕ} slots None;
      places_long = length-replicate {A = Place} slots places.Free;
      holders_long = length-replicate {A = Option ℕ} slots None;
      keeps = opening_keeps slots queue;
    }

-- what holds of the parts holds at the opening, for a number of slots and a capacity that are admitted
pub opening_holds : {T : Type 0} (slots queue : ℕ) → 1 ≤ slots → slots < locked → 1 ≤ queue → queue < 2 ^ 32 → Holds {T = T} slots queue (opened slots queue) 0
opening_holds slots queue some few room fits =
    record {
      capacity = refl;
      some = room;
      few = fits;
      set = opening_good slots some few;
      submission = empty_good (queue + 1);
      completion = empty_good slots;
      unlocked = λ e. absurd (omega arith);
      placed = opening_placed slots queue;
    }

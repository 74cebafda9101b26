-- Which party may store the data words of an index, and raise its element count to an odd number: the one whose add was
-- granted it, until that add has finished; then the one whose replace was begun last. There is one at most.
use Rattle.laws_container.proofs.Names.{◌≡◌, ◌⊎◌, ℕ, Some, List, arith, Event, holder_of, settled_of, IsBy, AreOwned}
use Rattle.laws_container.proofs.Replacers.{replacer_of}

module _ {T : Type 0} where
  -- party `p` adds at index `i` for owner `o`: it is the one that was granted the index, and he is the holder
  pub record Adds (p i o : ℕ) (events : List (Event T)) : Type 0 where
    pub by : IsBy p i o events
    pub held : holder_of i events ≡ Some o

  -- party `p` replaces at index `i` for owner `o`: the index is settled for him, and its
  -- replace was begun last
  pub record Replacing (p i o : ℕ) (events : List (Event T)) : Type 0 where
    pub settled : settled_of i events ≡ Some o
    pub latest : replacer_of i o events ≡ Some p

  -- party `p` may write at index `i` for owner `o`; or it is a remove that has the right to the
  -- index, and places nothing
  abbrev pub IsWriter : ℕ → ℕ → ℕ → List (Event T) → Type 0
  IsWriter p i o events = IsBy p i o events ⊎ Replacing p i o events

  -- party `p` may write at index `i` for the owner `o`, and party `q` for `u`
  module _ (p q i o u : ℕ) (events : List (Event T)) (owned : AreOwned events) where
    -- at most one party may write at an index
    pub one_writer : IsWriter p i o events → IsWriter q i u events → p ≡ q
    one_writer first_writer second_writer = grind arith

-- What a party's call under way claims of one index (`Claim`), what it is for all claims to be right
-- (`Good`), and how each event leaves them right.
use Rattle.std.proofs.Common.{◌≡◌, ◌≢◌, ◌⊎◌, ⊎_elim, inl, inr, ℕ, ◌==◌, Option, Some, None, List, [], ◌∷◌}
use Rattle.std.proofs.Common.{arith, if◌then◌else◌}
use Rattle.std.proofs.lemmas.Bool.{cases_eq}
use Rattle.model.specs.declared.event.Start.{Start}
use Rattle.model.specs.declared.event.Start.TheVariants.{Robust, Container}
use Rattle.model.specs.declared.families.container.ContainerStart.TheVariants as containers
use Rattle.model.specs.declared.families.indices.robust.RobustStart.TheVariants.{Acquire, Release}
use Rattle.model.specs.Families.Indices.Robust.Reading.{SetAct, Fills, Grants, set_acts, without}
use Rattle.model.specs.Reading.{Span, Open}
use Rattle.laws_robust.proofs.Rights.{Right, Nobody, Settled, By, taken_by}

-- what a call claims of the index for this owner: it has filled it, it was also granted it, or
-- it is to give it back
pub data Claim : Type 0 where
  Apart : Claim
  Filling : (owner : ℕ) → Claim
  Held : (owner : ℕ) → Claim
  Giving : (owner : ℕ) → Claim

-- i is the index
module _ (i : ℕ) where
  -- what an acquire or an add claims of index i, by what it has done to the set: it has filled it, and
  -- perhaps was granted it
  abbrev pub fill_claim : ℕ → List SetAct → Claim
  fill_claim o (Fills j p ∷ []) = if j == i then Filling o else Apart
  fill_claim o (Fills j p ∷ Grants k q ∷ []) = if j == i then Held o else Apart
  fill_claim o all = Apart

  -- what a release or a remove of index j claims of index i: to give it back, as long as it has done nothing
  -- to the set
  abbrev pub give_claim : ℕ → ℕ → List SetAct → Claim
  give_claim j o [] = if j == i then Giving o else Apart
  give_claim j o all = Apart

  -- what a call claims of the index, by what it has done to the set: an acquire or an add what it
  -- has filled, a release or a remove what it is to give back
  abbrev pub claim_by : {T : Type 0} → Start T → List SetAct → Claim
  claim_by (Robust (Acquire o)) all = fill_claim o all
  claim_by (Container (containers.Add value o)) all = fill_claim o all
  claim_by (Robust (Release j o mode)) all = give_claim j o all
  claim_by (Container (containers.Remove j o mode)) all = give_claim j o all
  claim_by start all = Apart

  -- what a party claims of the index by its span: something only while a call is under way
  abbrev pub claim : {T : Type 0} → Span T → Claim
  claim (Open start wrote) = claim_by start (set_acts wrote)
  claim span = Apart

-- ---- what it is for all parties to claim rightly, where these are the index's owner, its holder, for whom it may be given
-- ---- back, and who may

-- All claims on the index are right: its holder is its owner, and so is the one for whom it may be given
-- back; a party that claims it claims it for its owner, and has the right to it.
pub record Good (filled holder settled : Option ℕ) (right : Right) (claims : ℕ → Claim) (Began : ℕ → ℕ → Type 0) : Type 0 where
  -- the holder is the owner of the index
  pub held : (o : ℕ) → holder ≡ Some o → filled ≡ Some o
  -- one for whom it may be given back is its owner, and nobody else has the right to it
  pub settles : (o : ℕ) → settled ≡ Some o → (filled ≡ Some o) × (right ≡ Settled o)
  -- a call that has filled the index did so for its owner, has the right to it, and nobody holds it yet
  pub filling : (q o : ℕ) → claims q ≡ Filling o → (filled ≡ Some o) × (right ≡ By q) × (holder ≡ None)
  -- a call that was granted the index was granted it for its owner, and has the right to it
  pub holding : (q o : ℕ) → claims q ≡ Held o → (filled ≡ Some o) × (right ≡ By q)
  -- a call that is to give the index back, and began when it might, gives it back for its owner, and has the
  -- right to it
  pub giving : (q o : ℕ) → claims q ≡ Giving o → Began q o → (filled ≡ Some o) × (right ≡ By q)

-- The claims of all calls are right before a step (`g`), which leads from `claims` to `next`. Below it is shown that they are right after it.
module _ {filled holder settled : Option ℕ} {right : Right} {claims : ℕ → Claim} {Began : ℕ → ℕ → Type 0}
    (g : Good filled holder settled right claims Began) (next : ℕ → Claim) (After : ℕ → ℕ → Type 0) where
  -- the call of party q claims nothing now, or what it claimed before
  abbrev pub Stays : ℕ → Type 0
  Stays q = (next q ≡ Apart) ⊎ ((next q ≡ claims q) × ((o : ℕ) → After q o → Began q o))

  -- where each call stays so, the claims stay right
  pub quiet : ((q : ℕ) → Stays q) → Good filled holder settled right next After
  quiet stays = grind arith

  -- p is the party of the event, o the owner
  module _ (p o : ℕ) (others : (q : ℕ) → q ≢ p → Stays q) where
    -- a party is p, or its call stays as it was
    stays_or : (q : ℕ) → (q ≡ p) ⊎ Stays q
    stays_or q = ⊎_elim inl (λ ne. inr (others q ne)) (cases_eq q p)

    -- after a fill by p, where the index had no owner, the claims are right
    pub fills : filled ≡ None → next p ≡ Filling o → Good (Some o) holder settled (By p) next After
    fills none mine = let each = stays_or in grind arith

    -- after a grant to p, which had filled the index, the claims are right
    pub grants : claims p ≡ Filling o → next p ≡ Held o → Good filled (Some o) settled right next After
    grants was mine = let each = stays_or in let here = g.filling p o was in grind arith

    -- after the end of p's call that was granted the index, the claims are right: it may be
    -- given back for its owner
    pub finishes : claims p ≡ Held o → next p ≡ Apart → Good filled holder (Some o) (Settled o) next After
    finishes was mine = let each = stays_or in let here = g.holding p o was in grind arith

    -- after the begin of p's call that is to give the index back, the claims are right
    pub begins : next p ≡ Giving o → (After p o → settled ≡ Some o) → Good filled holder (without o settled) (taken_by p o right) next After
    begins mine began = let each = stays_or in grind arith

    -- after a free by p, which was to give it back, the claims are right: the index has no owner
    pub frees : next p ≡ Apart → claims p ≡ Giving o → Began p o → Good None None None Nobody next After
    frees mine was began = let each = stays_or in let here = g.giving p o was began in grind arith

  -- after a free by a recovery, while no call claims the index, the claims are right
  pub recovers : ((q : ℕ) → next q ≡ Apart) → Good None None None Nobody next After
  recovers apart = grind arith

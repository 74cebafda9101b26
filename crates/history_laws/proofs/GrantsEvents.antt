-- Where each call that frees index i may, each event keeps the claims on it right: a call that has filled it,
-- or is to give it back, has the right to it. So the index is granted only where nobody holds it.
use Rattle.std.proofs.Common.{◌≡◌, ◌≢◌, ◌⊎◌, ⊎_elim, inl, inr, ℕ, ◌==◌, Bool, true, false, Option, Some, None, List, [], ◌∷◌, ◌++◌}
use Rattle.std.proofs.Common.{refl, sym, ap, subst, ◌∙◌, append-nil, append_assoc, arith, if◌then◌else◌, eq-eqb}
use Rattle.std.proofs.lemmas.Bool.{cases_eq}
use Rattle.std.proofs.lemmas.List.Concat.{flat_map-append}
use Rattle.std.proofs.lemmas.List.Sums.{fold-append}
use Rattle.model.specs.declared.event.Answer.{Answer}
use Rattle.model.specs.declared.event.Answer.TheVariants.{Index}
use Rattle.model.specs.declared.event.Event.{Event}
use Rattle.model.specs.declared.event.Event.TheVariants.{Begun, Filled, Granted, FreedOf, Asked, Told, Locked, Died, Finished}
use Rattle.model.specs.declared.event.Start.{Start}
use Rattle.model.specs.declared.event.Start.TheVariants.{Robust, Container}
use Rattle.model.specs.declared.families.container.ContainerStart.TheVariants as containers
use Rattle.model.specs.declared.families.indices.robust.RobustStart.TheVariants as robusts
use Rattle.model.specs.Families.Container.Promises as container
use Rattle.model.specs.Families.Indices.Robust.Promises as robust
use Rattle.model.specs.Families.Indices.Robust.Promises.{SetDoes}
use Rattle.model.specs.Families.Indices.Robust.Reading.{SetAct, Fills, Grants, Frees, Asks, Yes, Locks, set_act, set_acts, without}
use Rattle.model.specs.Families.Indices.Robust.Reading.{filled_after, filled_of, holder_after, holder_of, settled_after, settled_of}
use Rattle.model.specs.Moments.{BeginsNone, SinceBegin}
use Rattle.model.specs.Promises.Spans.{Stands, StandsRight}
use Rattle.model.specs.Reading.{Each, Span, Never, Open, Ended, longer, ended, own_after, span_after, span_of, is_party, whose}
use Rattle.model.proofs.Readings.{AreRight, Each-append, Each-nil}
use Rattle.lemmas_owners.proofs.Past.{since_less, since_begun}
use Rattle.laws_robust.proofs.Rights.{Right, Nobody, Settled, By, taken_by, right_after, right_of}
use Rattle.history_laws.specs.Grants.{is_at, MayFree, FreesRightAt, IsFreedRight, GrantsRightAt, IsHeldByOne}
use Rattle.history_laws.proofs.GrantsClaims.{Claim, Apart, Filling, Held, Giving, fill_claim, give_claim, claim_by, claim}
use Rattle.history_laws.proofs.GrantsClaims.{Good, quiet, fills, grants, finishes, begins, frees, recovers}
use Rattle.laws_robust.proofs.Counter.{tested}
use Rattle.lemmas.proofs.Cases.{by_bool, on_bool}

-- the claim `mine` where index j is i, else no claim
abbrev here : ℕ → ℕ → Claim → Claim
here i j mine = if j == i then mine else Apart

-- the claim is gone, or as it was
abbrev Same : Claim → Claim → Type 0
Same old new = (new ≡ Apart) ⊎ (new ≡ old)

-- an acquire that does to the set what is neither a fill nor a grant claims nothing after that
fill_more : (i o : ℕ) (all : List SetAct) (one : SetAct) → ((j n : ℕ) → one ≡ Fills j n → ⊥) → ((j n : ℕ) → one ≡ Grants j n → ⊥)
    → fill_claim i o (all ++ one ∷ []) ≡ Apart
fill_more i o [] one x y = grind arith
fill_more i o (a ∷ []) one x y = grind arith
fill_more i o (a ∷ b ∷ []) one x y = grind arith
fill_more i o (a ∷ b ∷ d ∷ rest) one x y = grind arith

-- a release that has done something to the set claims nothing any more
give_more : (i j o : ℕ) (all : List SetAct) (one : SetAct) → give_claim i j o (all ++ one ∷ []) ≡ Apart
give_more i j o [] one = refl
give_more i j o (a ∷ rest) one = refl

-- two numbers that are not equal differ by the test
differ : (p q : ℕ) → q ≢ p → (p == q) ≡ false
differ p q ne = by_bool (p == q) (λ e. absurd (ne (sym (tested p q e)))) (λ e. e)

module _ {T : Type 0} (i : ℕ) where
  -- ---- what both structures say of an event

  -- the party is to give index j back for this owner, and began when it might be given back for the owner
  abbrev GaveBack : ℕ → ℕ → ℕ → List (Event T) → Type 0
  GaveBack p j o before =
      (claim i (span_of p before) ≡ here i j (Giving o)) × SinceBegin p (λ part since. settled_of j part ≡ Some o) before

  -- What each event says of its party's claim on index i: a fill and a grant are of a call that claims it for
  -- the owner, a free of one that claims nothing after it, and an acquire that answers the index held it.
  abbrev pub Says : List (Event T) → Event T → Type 0
  Says before (Filled p j o) = claim i (longer (span_of p before) (Filled p j o)) ≡ here i j (Filling o)
  Says before (Granted p j o) =
      (claim i (span_of p before) ≡ here i j (Filling o)) × (claim i (longer (span_of p before) (Granted p j o)) ≡ here i j (Held o))
  Says before (FreedOf p j o) =
      (claim i (longer (span_of p before) (FreedOf p j o)) ≡ Apart)
      × (MayFree p j before (span_of p before) → GaveBack p j o before ⊎ ((q : ℕ) → is_at j (span_of q before) ≡ false))
  Says before (Finished p (Robust (robusts.Acquire o)) (Index j)) = claim i (span_of p before) ≡ here i j (Held o)
  Says before (Finished p (Container (containers.Add value o)) (Index j)) = claim i (span_of p before) ≡ here i j (Held o)
  Says before e = Unit {0}

  -- each event of a container, and each of a robust set, says what `Says` has of it
  module _ (c : ℕ) where
    -- of a container: after a fill its call claims the index, to be granted
    container_fills : (p j o : ℕ) (span : Span T) → Stands container.promise c (Filled p j o) span
        → claim i (longer span (Filled p j o)) ≡ here i j (Filling o)
    container_fills p j o span stands = grind (arith, flat_map-append)

    -- of a robust set: after a fill its call claims the index, to be granted
    robust_fills : (p j o : ℕ) (span : Span T) → Stands robust.promise c (Filled p j o) span
        → claim i (longer span (Filled p j o)) ≡ here i j (Filling o)
    robust_fills p j o span stands = grind (arith, flat_map-append)

    -- of a container: a grant is of a call that has filled the index, which holds it then
    container_grants : (p j o : ℕ) (span : Span T) → Stands container.promise c (Granted p j o) span
        → (claim i span ≡ here i j (Filling o)) × (claim i (longer span (Granted p j o)) ≡ here i j (Held o))
    container_grants p j o span stands = grind (arith, flat_map-append)

    -- of a robust set: a grant is of a call that has filled the index, which holds it then
    robust_grants : (p j o : ℕ) (span : Span T) → Stands robust.promise c (Granted p j o) span
        → (claim i span ≡ here i j (Filling o)) × (claim i (longer span (Granted p j o)) ≡ here i j (Held o))
    robust_grants p j o span stands = grind (arith, flat_map-append)

    -- of a container: a call that has freed an index claims nothing
    container_frees : (p j o : ℕ) (span : Span T) → Stands container.promise c (FreedOf p j o) span
        → claim i (longer span (FreedOf p j o)) ≡ Apart
    container_frees p j o span stands = grind (arith, flat_map-append)

    -- of a robust set: a call that has freed an index claims nothing
    robust_frees : (p j o : ℕ) (span : Span T) → Stands robust.promise c (FreedOf p j o) span
        → claim i (longer span (FreedOf p j o)) ≡ Apart
    robust_frees p j o span stands = grind (arith, flat_map-append)

    -- the call that frees index j was to give it back for its owner, or no call is at the index
    abbrev OneOf : ℕ → ℕ → ℕ → List (Event T) → Span T → Type 0
    OneOf p j o before span =
        ((claim i span ≡ here i j (Giving o)) × SinceBegin p (λ part since. settled_of j part ≡ Some o) before)
        ⊎ ((q : ℕ) → is_at j (span_of q before) ≡ false)

    -- of a container: who frees an index and may is a remove that was to give it back, begun where
    -- its owner might, or nobody is at the index
    container_one : (p j o : ℕ) (before : List (Event T)) (span : Span T) → Stands container.promise c (FreedOf p j o) span
        → MayFree p j before span → OneOf p j o before span
    container_one p j o before (Open (Container (containers.Remove k owner mode)) wrote) stands may =
        inl (grind arith, subst (λ n. SinceBegin p (λ part since. settled_of j part ≡ Some n) before) (sym stands.1) may)
    container_one p j o before (Open (Container (containers.Recover owner mode)) wrote) stands may = inr may
    container_one p j o before span stands may = absurd stands

    -- of a robust set: who frees an index and may is a release that was to give it back, begun
    -- where its owner might, or nobody is at the index
    robust_one : (p j o : ℕ) (before : List (Event T)) (span : Span T) → Stands robust.promise c (FreedOf p j o) span
        → MayFree p j before span → OneOf p j o before span
    robust_one p j o before (Open (Robust (robusts.Release k owner mode)) wrote) stands may =
        inl (grind arith, subst (λ n. SinceBegin p (λ part since. settled_of j part ≡ Some n) before) (sym stands.1) may)
    robust_one p j o before (Open (Robust (robusts.Recover mode)) wrote) stands may = inr may
    robust_one p j o before span stands may = absurd stands

    -- of a container: an add that answers the index held it
    container_ends : (p j o : ℕ) (value : T) (span : Span T)
        → Stands container.promise c (Finished p (Container (containers.Add value o)) (Index j)) span → claim i span ≡ here i j (Held o)
    container_ends p j o value span stands = grind arith

    -- of a container: no acquire of a robust set ends there
    container_ends_none : (p j o : ℕ) (span : Span T)
        → Stands {T = T} container.promise c (Finished p (Robust (robusts.Acquire o)) (Index j)) span → ⊥
    container_ends_none p j o span stands = grind arith

    -- of a robust set: an acquire that answers the index held it
    robust_ends : (p j o : ℕ) (span : Span T)
        → Stands {T = T} robust.promise c (Finished p (Robust (robusts.Acquire o)) (Index j)) span → claim i span ≡ here i j (Held o)
    robust_ends p j o span stands = grind arith

    -- of a robust set: no add of a container ends there
    robust_ends_none : (p j o : ℕ) (value : T) (span : Span T)
        → Stands robust.promise c (Finished p (Container (containers.Add value o)) (Index j)) span → ⊥
    robust_ends_none p j o value span stands = grind arith

    -- in a container each event says what `Says` has of it
    pub container_says : (before : List (Event T)) (e : Event T) → StandsRight container.promise c before e → Says before e
    container_says before (Filled p j o) stands_right = container_fills p j o (span_of p before) stands_right
    container_says before (Granted p j o) stands_right = container_grants p j o (span_of p before) stands_right
    container_says before (FreedOf p j o) stands_right =
        (container_frees p j o (span_of p before) stands_right, λ may. container_one p j o before (span_of p before) stands_right may)
    container_says before (Finished p (Robust (robusts.Acquire o)) (Index j)) stands_right = absurd (container_ends_none p j o (span_of p before) stands_right)
    container_says before (Finished p (Container (containers.Add value o)) (Index j)) stands_right = container_ends p j o value (span_of p before) stands_right
    container_says before e stands_right = tt

    -- in a robust set each event says what `Says` has of it
    pub robust_says : (before : List (Event T)) (e : Event T) → StandsRight robust.promise c before e → Says before e
    robust_says before (Filled p j o) stands_right = robust_fills p j o (span_of p before) stands_right
    robust_says before (Granted p j o) stands_right = robust_grants p j o (span_of p before) stands_right
    robust_says before (FreedOf p j o) stands_right =
        (robust_frees p j o (span_of p before) stands_right, λ may. robust_one p j o before (span_of p before) stands_right may)
    robust_says before (Finished p (Robust (robusts.Acquire o)) (Index j)) stands_right = robust_ends p j o (span_of p before) stands_right
    robust_says before (Finished p (Container (containers.Add value o)) (Index j)) stands_right =
        absurd (robust_ends_none p j o value (span_of p before) stands_right)
    robust_says before e stands_right = tt

  -- ---- what an event makes of a claim

  -- a call that does to the set what is neither a fill nor a grant claims nothing after that
  claim_more : (start : Start T) (all : List SetAct) (one : SetAct) → ((j n : ℕ) → one ≡ Fills j n → ⊥) → ((j n : ℕ) → one ≡ Grants j n → ⊥)
      → claim_by i start (all ++ one ∷ []) ≡ Apart
  claim_more start all one x y = grind (arith, fill_more, give_more)

  -- an event that is neither a fill nor a grant leaves its party's claim, or ends it
  longer_same : (span : Span T) (e : Event T) → ((p j o : ℕ) → e ≡ Filled p j o → ⊥) → ((p j o : ℕ) → e ≡ Granted p j o → ⊥)
      → Same (claim i span) (claim i (longer span e))
  longer_same Never e x y = inl refl
  longer_same (Ended start answer wrote) e x y = inl refl
  longer_same (Open start wrote) (Filled p j o) x y = absurd (x p j o refl)
  longer_same (Open start wrote) (Granted p j o) x y = absurd (y p j o refl)
  longer_same (Open start wrote) (FreedOf p j o) x y =
      inl (ap (claim_by i start) (flat_map-append set_act wrote (FreedOf p j o ∷ []))
      ∙ claim_more start (set_acts wrote) (Frees j o) (λ a b e. cc) (λ a b e. cc))
  longer_same (Open start wrote) (Asked p j o) x y =
      inl (ap (claim_by i start) (flat_map-append set_act wrote (Asked p j o ∷ [])) ∙ claim_more start (set_acts wrote) (Asks j o) (λ a b e. cc) (λ a b e. cc))
  longer_same (Open start wrote) (Told p j o) x y =
      inl (ap (claim_by i start) (flat_map-append set_act wrote (Told p j o ∷ [])) ∙ claim_more start (set_acts wrote) (Yes j o) (λ a b e. cc) (λ a b e. cc))
  longer_same (Open start wrote) (Locked p) x y =
      inl (ap (claim_by i start) (flat_map-append set_act wrote (Locked p ∷ [])) ∙ claim_more start (set_acts wrote) Locks (λ a b e. cc) (λ a b e. cc))
  longer_same (Open start wrote) e x y =
      inr (ap (claim_by i start) (flat_map-append set_act wrote (e ∷ []) ∙ append-nil (set_acts wrote)))

  -- a call that has ended claims nothing
  ended_apart : (span : Span T) (answer : Answer T) → claim i (ended span answer) ≡ Apart
  ended_apart Never answer = refl
  ended_apart (Open start wrote) answer = refl
  ended_apart (Ended start first wrote) answer = refl

  -- ---- one event

  -- the latest call of party q began when the index might be given back for owner o
  abbrev Began : List (Event T) → ℕ → ℕ → Type 0
  Began events q o = SinceBegin q (λ part since. settled_of i part ≡ Some o) events

  -- by these events, all claims on index i are right
  abbrev pub GoodAt : List (Event T) → Type 0
  GoodAt events =
      Good (filled_of i events) (holder_of i events) (settled_of i events) (right_of i events) (λ q. claim i (span_of q events)) (Began events)

  -- an event of the party itself continues its own span
  own_span : (p : ℕ) (e : Event T) (span : Span T) → whose e ≡ Some p → span_after p span e ≡ own_after span e
  own_span p e span is =
      ap (λ o. if is_party p o then own_after span e else span) is ∙ ap (λ b. if b then own_after span e else span) (eq-eqb p p refl)

  -- an event of another party leaves the span
  other_span : (p q : ℕ) (e : Event T) (span : Span T) → whose e ≡ Some p → q ≢ p → span_after q span e ≡ span
  other_span p q e span is ne =
      ap (λ o. if is_party q o then own_after span e else span) is ∙ ap (λ b. if b then own_after span e else span) (differ p q ne)

  -- an event of party p begins no call of another party q
  begins_none : (p q : ℕ) (e : Event T) → whose e ≡ Some p → q ≢ p → BeginsNone q (e ∷ [])
  begins_none p q (Begun r start) is ne = (λ same. ne (sym same ∙ some_is r p is), tt)
    where
      -- two options with a number are equal only with equal numbers
      some_is : (r p : ℕ) → Some r ≡ Some p → r ≡ p
      some_is r p e = cc
  begins_none p q e is ne = tt

  -- the event is neither a fill, a grant, nor the begin of a call that gives the index back
  abbrev Calm : Event T → Type 0
  Calm (Filled p j o) = ⊥
  Calm (Granted p j o) = ⊥
  Calm (Begun p (Robust (robusts.Release j o mode))) = ⊥
  Calm (Begun p (Container (containers.Remove j o mode))) = ⊥
  Calm e = Unit {0}

  -- a call whose begin is such an event claims nothing as it begins
  begun_apart : (p : ℕ) (start : Start T) → Calm (Begun p start) → claim_by i start [] ≡ Apart
  begun_apart p (Robust (robusts.Release j o mode)) calm = absurd calm
  begun_apart p (Container (containers.Remove j o mode)) calm = absurd calm
  begun_apart p (Robust (robusts.Acquire o)) calm = refl
  begun_apart p start calm = refl

  module _ (events : List (Event T)) (g : GoodAt events) where
    -- the owner of the index, its holder, the one for whom it may be given back, and who has the right to it,
    -- by these events
    abbrev filled : Option ℕ
    filled = filled_of i events

    abbrev holder : Option ℕ
    holder = holder_of i events

    abbrev settled : Option ℕ
    settled = settled_of i events

    abbrev right : Right
    right = right_of i events

    -- what each party claims of the index by these events, and after event e
    abbrev claims : ℕ → Claim
    claims q = claim i (span_of q events)

    abbrev claims_then : Event T → ℕ → Claim
    claims_then e q = claim i (span_after q (span_of q events) e)

    -- after the event party q claims nothing, or what it claimed before
    abbrev StaysBy : Event T → ℕ → Type 0
    StaysBy e q = (claims_then e q ≡ Apart) ⊎ ((claims_then e q ≡ claims q) × ((o : ℕ) → Began (events ++ e ∷ []) q o → Began events q o))

    -- if party q begins no call with the event, a call that began rightly began so before it
    went_on : (e : Event T) (q : ℕ) → BeginsNone q (e ∷ []) → (o : ℕ) → Began (events ++ e ∷ []) q o → Began events q o
    went_on e q none o began = since_less q (λ part. settled_of i part ≡ Some o) events (e ∷ []) none began

    -- an event of party p leaves the claim of each other party
    others : (p : ℕ) (e : Event T) → whose e ≡ Some p → (q : ℕ) → q ≢ p → StaysBy e q
    others p e is q ne = inr (ap (claim i) (other_span p q e (span_of q events) is ne), went_on e q (begins_none p q e is ne))

    -- what party p claims after its own event is read from its longer span
    mine_then : (p : ℕ) (e : Event T) (to : Claim) → whose e ≡ Some p → claim i (own_after (span_of p events) e) ≡ to → claims_then e p ≡ to
    mine_then p e to is h = ap (claim i) (own_span p e (span_of p events) is) ∙ h

    -- if the claim of party p stays, or goes, with its event, that of each party does
    all_stay : (p : ℕ) (e : Event T) → whose e ≡ Some p → StaysBy e p → (q : ℕ) → StaysBy e q
    all_stay p e is mine q = ⊎_elim (λ same. subst (StaysBy e) (sym same) mine) (others p e is q) (cases_eq q p)

    -- an event that leaves its party's claim, or ends it, leaves it right
    same_stays : (p : ℕ) (e : Event T) → whose e ≡ Some p → BeginsNone p (e ∷ []) → Same (claims p) (claim i (own_after (span_of p events) e)) → StaysBy e p
    same_stays p e is none same =
        ⊎_elim (λ apart. inl (mine_then p e Apart is apart)) (λ still. inr (mine_then p e (claims p) is still, went_on e p none)) same

    -- after the event all claims on index i are right
    abbrev Then : Event T → Type 0
    Then e =
        Good (filled_after i filled e) (holder_after i holder e) (settled_after i settled e) (right_after i right e) (claims_then e) (Began (events ++ e ∷ []))

    -- where each claim stays or goes, all claims are right after the event
    quietly : (e : Event T) → ((q : ℕ) → StaysBy e q) → Good filled holder settled right (claims_then e) (Began (events ++ e ∷ []))
    quietly e stays = quiet g (claims_then e) (Began (events ++ e ∷ [])) stays

    -- an event about another index leaves each party's claim on index i
    elsewhere : (p j : ℕ) (e : Event T) (to : Claim) → whose e ≡ Some p → (j == i) ≡ false → claim i (own_after (span_of p events) e) ≡ here i j to
        → (q : ℕ) → StaysBy e q
    elsewhere p j e to is other h = all_stay p e is (inl (mine_then p e Apart is (h ∙ ap (λ b. if b then to else Apart) other)))

    -- an event about index i changes the claim as it says
    at_here : (j : ℕ) (to c : Claim) → (j == i) ≡ true → c ≡ here i j to → c ≡ to
    at_here j to c same h = h ∙ ap (λ b. if b then to else Apart) same

    -- after a fill all claims are right
    step_fill : (c p j o : ℕ) → SetDoes c events (Filled p j o) → Says events (Filled p j o) → Then (Filled p j o)
    step_fill c p j o does says =
        on_bool (λ b. Good (if b then Some o else filled) holder settled (if b then By p else right)
        (claims_then (Filled p j o)) (Began (events ++ Filled p j o ∷ [])))
        (j == i)
        (λ same.
        fills g (claims_then (Filled p j o)) (Began (events ++ Filled p j o ∷ [])) p o (others p (Filled p j o) refl)
        (subst (λ n. filled_of n events ≡ None) (tested j i same) does.1)
        (mine_then p (Filled p j o) (Filling o) refl (at_here j (Filling o) _ same says)))
        (λ other. quietly (Filled p j o) (elsewhere p j (Filled p j o) (Filling o) refl other says))

    -- after a grant all claims are right
    step_grant : (p j o : ℕ) → Says events (Granted p j o) → Then (Granted p j o)
    step_grant p j o says =
        on_bool (λ b. Good filled (if b then Some o else holder) settled right (claims_then (Granted p j o)) (Began (events ++ Granted p j o ∷ []))) (j == i)
        (λ same.
        grants g (claims_then (Granted p j o)) (Began (events ++ Granted p j o ∷ [])) p o (others p (Granted p j o) refl) (at_here j (Filling o) _ same says.0)
        (mine_then p (Granted p j o) (Held o) refl (at_here j (Held o) _ same says.1)))
        (λ other. quietly (Granted p j o) (elsewhere p j (Granted p j o) (Held o) refl other says.1))

    -- the index is granted where nobody holds it
    grant_right : (p j o : ℕ) → Says events (Granted p j o) → GrantsRightAt i events (Granted p j o)
    grant_right p j o says same =
        subst (λ n. holder_of n events ≡ None) (sym same) (g.filling p o (at_here j (Filling o) _ (eq-eqb j i same) says.0)).2

    -- a call that is not at the index claims nothing of it
    not_at : (span : Span T) → is_at i span ≡ false → claim i span ≡ Apart
    not_at span none = grind arith

    -- after a free of the index, by a call that may free it, all claims are right
    step_free : (p j o : ℕ) → Says events (FreedOf p j o) → FreesRightAt i events (FreedOf p j o) → Then (FreedOf p j o)
    step_free p j o says may =
        on_bool (λ b. Good (if b then None else filled) (if b then None else holder) (if b then None else settled)
        (if b then Nobody else right) (claims_then (FreedOf p j o)) (Began (events ++ FreedOf p j o ∷ [])))
        (j == i)
        (λ same.
        let is = tested j i same in
        ⊎_elim
        (λ gave. frees g (claims_then (FreedOf p j o)) (Began (events ++ FreedOf p j o ∷ [])) p o (others p (FreedOf p j o) refl)
        (mine_then p (FreedOf p j o) Apart refl says.0) (at_here j (Giving o) _ same gave.0)
        (subst (λ n. SinceBegin p (λ part since. settled_of n part ≡ Some o) events) is gave.1))
        (λ none. recovers g (claims_then (FreedOf p j o)) (Began (events ++ FreedOf p j o ∷ []))
        (λ q. ⊎_elim (λ own. subst (λ n. claims_then (FreedOf p j o) n ≡ Apart) (sym own) (mine_then p (FreedOf p j o) Apart refl says.0))
        (λ ne. ap (claim i) (other_span p q (FreedOf p j o) (span_of q events) refl ne)
        ∙ not_at (span_of q events) (subst (λ n. is_at n (span_of q events) ≡ false) is (none q))) (cases_eq q p)))
        (says.1 (may is)))
        (λ other.
        quietly (FreedOf p j o) (all_stay p (FreedOf p j o) refl (inl (mine_then p (FreedOf p j o) Apart refl says.0))))

    -- after the end of a call that was granted the index all claims are right
    step_end : (p j o : ℕ) (e : Event T) → whose e ≡ Some p → claim i (own_after (span_of p events) e) ≡ Apart → claims p ≡ here i j (Held o)
        → (b : Bool) → (j == i) ≡ b
        → Good filled holder (if b then Some o else settled) (if b then Settled o else right) (claims_then e) (Began (events ++ e ∷ []))
    step_end p j o e is apart was true same =
        finishes g (claims_then e) (Began (events ++ e ∷ [])) p o (others p e is) (at_here j (Held o) _ same was) (mine_then p e Apart is apart)
    step_end p j o e is apart was false other = quietly e (all_stay p e is (inl (mine_then p e Apart is apart)))

    -- a call begins that is to give an index back
    step_begin : (p j o : ℕ) (start : Start T) → claim i {T = T} (Open start []) ≡ here i j (Giving o) → (b : Bool) → (j == i) ≡ b
        → Good filled holder (if b then without o settled else settled) (if b then taken_by p o right else right) (claims_then (Begun p start))
        (Began (events ++ Begun p start ∷ []))
    step_begin p j o start to true same =
        begins g (claims_then (Begun p start)) (Began (events ++ Begun p start ∷ [])) p o (others p (Begun p start) refl)
        (mine_then p (Begun p start) (Giving o) refl (at_here j (Giving o) _ same to))
        (λ began. since_begun p (λ part. settled_of i part ≡ Some o) events start began)
    step_begin p j o start to false other = quietly (Begun p start) (elsewhere p j (Begun p start) (Giving o) refl other to)

    -- with an event that is no fill, no grant and no begin of a call that gives back, each
    -- claim stays or goes
    stays_calm : (e : Event T) → Calm e → (q : ℕ) → StaysBy e q
    stays_calm e calm q = by e (whose e) refl calm
      where
        -- after an event that is no fill, no grant and no begin of a call that gives back, the party claims
        -- nothing, or what it claimed before
        own : (p : ℕ) (e : Event T) → whose e ≡ Some p → Calm e → StaysBy e p
        own p (Begun r start) is calm = inl (mine_then p (Begun r start) Apart is (begun_apart r start calm))
        own p (Finished r start answer) is calm = inl (mine_then p (Finished r start answer) Apart is (ended_apart (span_of p events) answer))
        own p (Filled r j o) is calm = absurd calm
        own p (Granted r j o) is calm = absurd calm
        own p e is calm = same_stays p e is tt (longer_same (span_of p events) e (λ r j o same. cc) (λ r j o same. cc))

        -- whether the event is of party q or of another one, q claims nothing after it, or
        -- what it claimed before
        by : (e : Event T) (o : Option ℕ) → whose e ≡ o → Calm e → StaysBy e q
        by e (Some p) is calm = all_stay p e is (own p e is calm) q
        by (Died o) None is calm = inr (refl, went_on (Died o) q tt)
        by e None is calm = absurd (cc)

    -- after any event all claims are right, where the event does and says what the laws of the structure have
    -- of it, and frees only what it may
    step : (c : ℕ) (e : Event T) → SetDoes c events e → Says events e → FreesRightAt i events e → Then e
    step c (Filled p j o) does says may = step_fill c p j o does says
    step c (Granted p j o) does says may = step_grant p j o says
    step c (FreedOf p j o) does says may = step_free p j o says may
    step c (Finished p (Robust (robusts.Acquire o)) (Index j)) does says may =
        step_end p j o (Finished p (Robust (robusts.Acquire o)) (Index j)) refl (ended_apart (span_of p events) (Index j)) says (j == i) refl
    step c (Finished p (Container (containers.Add value o)) (Index j)) does says may =
        step_end p j o (Finished p (Container (containers.Add value o)) (Index j)) refl
        (ended_apart (span_of p events) (Index j)) says (j == i) refl
    step c (Begun p (Robust (robusts.Release j o mode))) does says may =
        step_begin p j o (Robust (robusts.Release j o mode)) refl (j == i) refl
    step c (Begun p (Container (containers.Remove j o mode))) does says may =
        step_begin p j o (Container (containers.Remove j o mode)) refl (j == i) refl
    step c e does says may = quietly e (stays_calm e tt)

    -- where the claims are right, a grant is of an index that nobody holds
    right_now : (e : Event T) → Says events e → GrantsRightAt i events e
    right_now (Granted p j o) says = grant_right p j o says
    right_now e says = tt

    -- after such an event all claims are right by the history with it
    good_then : (c : ℕ) (e : Event T) → SetDoes c events e → Says events e → FreesRightAt i events e → GoodAt (events ++ e ∷ [])
    good_then c e does says may =
        let new = step c e does says may in
        -- each part of the history's reading with the event is what one step of reading makes of it
        let was_filled = fold-append (filled_after i) None events (e ∷ []) in
        let was_holder = fold-append (holder_after i) None events (e ∷ []) in
        let was_settled = fold-append (settled_after i) None events (e ∷ []) in
        let was_right = fold-append (right_after i) Nobody events (e ∷ []) in
        let spans : (q : ℕ) → span_of q (events ++ e ∷ []) ≡ span_after q (span_of q events) e = λ q. fold-append (span_after q) Never events (e ∷ []) in
        -- the claims of all parties in the history with the event are those after it
        let moved =
        quiet new (λ q. claim i (span_of q (events ++ e ∷ []))) (Began (events ++ e ∷ [])) (λ q. inr (ap (claim i) (spans q), λ o h. h)) in
        rw (was_filled, was_holder, was_settled, was_right) moved

  -- ---- all events

  -- before the first event all claim rightly, since nobody claims anything
  none_yet : GoodAt []
  none_yet =
      record {
        held = λ o e. absurd (cc);
        settles = λ o e. absurd (cc);
        filling = λ q o e. absurd (cc);
        holding = λ q o e. absurd (cc);
        giving = λ q o e began. absurd (cc);
      }

  -- where all claim rightly, each grant in the events that follow is of an index that nobody holds
  all_right : (c : ℕ) (events es : List (Event T)) → Each (SetDoes c) (events ++ es) → Each Says (events ++ es) → Each (FreesRightAt i) (events ++ es)
      → GoodAt events → AreRight (GrantsRightAt i) events es
  all_right c events [] does says may g = tt
  all_right c events (e ∷ es) does says may g =
      let is : (events ++ e ∷ []) ++ es ≡ events ++ e ∷ es = append_assoc events (e ∷ []) es in
      let next = good_then events g c e (does events es e refl) (says events es e refl) (may events es e refl) in (
        right_now events g e (says events es e refl),
        all_right c (events ++ e ∷ []) es (subst (Each (SetDoes c)) (sym is) does) (subst (Each Says) (sym is) says)
            (subst (Each (FreesRightAt i)) (sym is) may) next,
      )

  -- where each event says what `Says` has of it, and frees index i only rightly, the index is granted only
  -- while nobody holds it
  held_by_one : (c : ℕ) (events : List (Event T)) → Each (SetDoes c) events → Each Says events → IsFreedRight i events → IsHeldByOne i events
  held_by_one c events does says may = Each-append (GrantsRightAt i) [] events (Each-nil (GrantsRightAt i)) (all_right c [] events does says may none_yet)

  -- in a container whose index is freed only by calls that may, it is granted only while nobody holds it
  pub container_held : (c : ℕ) (events : List (Event T)) → Each (SetDoes c) events → Each (StandsRight container.promise c) events
      → IsFreedRight i events → IsHeldByOne i events
  container_held c events does spans may = held_by_one c events does (λ before after e is. container_says c before e (spans before after e is)) may

  -- in a robust set whose index is freed only by calls that may, it is granted only while nobody holds it
  pub set_held : (c : ℕ) (events : List (Event T)) → Each (SetDoes c) events → Each (StandsRight robust.promise c) events
      → IsFreedRight i events → IsHeldByOne i events
  set_held c events does spans may = held_by_one c events does (λ before after e is. robust_says c before e (spans before after e is)) may

-- The index that a call is answered is one of the structure's, since each event that the call has written says so of its own.
use Rattle.std.proofs.Common.{◌≡◌, ◌<◌, ℕ, Bool, true, false, List, [], ◌∷◌, ◌++◌, fold, if◌then◌else◌, sym, subst, ◌∙◌, append_assoc}
use Rattle.std.specs.List.{AllByRecursion}
use Rattle.model.specs.declared.event.Answer.{Answer}
use Rattle.model.specs.declared.event.Event.{Event}
use Rattle.model.specs.declared.event.Event.TheVariants.{Begun, HandedOut, Claimed, Locked, Filled, Granted, FreedOf, Asked, Told, Finished}
use Rattle.model.specs.declared.event.Item.{Item}
use Rattle.model.specs.declared.event.Item.TheVariants.{Index}
use Rattle.model.specs.Families.Indices.Robust.Reading as robust
use Rattle.model.specs.Families.Indices.Robust.Reading.{SetAct, Fills, wrote_in}
use Rattle.model.specs.Families.Indices.Spans.{SetActs, set_act}
use Rattle.model.specs.Families.Loan.Reading as channel
use Rattle.model.specs.Families.Queues.Reading.{handed_out}
use Rattle.model.specs.Reading.{Each, whose, is_party, Span, Never, Open, Ended, longer, ended, own_after, span_after, span_of}

-- What holds of all of a list and of one more element holds of the longer list.
all_more : {A : Type 0} (P : A → Type 0) (xs : List A) (x : A) → AllByRecursion P xs → P x → AllByRecursion P (xs ++ x ∷ [])
all_more P [] x all h = (h, tt)
all_more P (y ∷ ys) x all h = (all.0, all_more P ys x all.1 h)

module _ {T : Type 0} (P : Event T → Type 0) where
  -- P holds of each event that the span's call has written.
  abbrev AllWritten : Span T → Type 0
  AllWritten span = AllByRecursion P (wrote_in span)

  -- If P holds of all that the span's call has written, and of one event more, then of all with that event.
  longer_each : (span : Span T) (e : Event T) → P e → AllWritten span → AllWritten (longer span e)
  longer_each Never e h all = tt
  longer_each (Open start wrote) e h all = all_more P wrote e all h
  longer_each (Ended start answer wrote) e h all = all_more P wrote e all h

  -- The end of the span's call adds nothing to what it has written, so P still holds of all of it.
  ended_each : (span : Span T) (answer : Answer T) → AllWritten span → AllWritten (ended span answer)
  ended_each Never answer all = tt
  ended_each (Open start wrote) answer all = all
  ended_each (Ended start first wrote) answer all = all

  -- After an event of its own party, P holds of all that the party's latest call has written: a
  -- begin empties it.
  own_each : (span : Span T) (e : Event T) → P e → AllWritten span → AllWritten (own_after span e)
  own_each span (Begun q start) h all = tt
  own_each span (Finished q start answer) h all = ended_each span answer all
  own_each span e h all = longer_each span e h all

  -- P still holds after one event of the run, whether it is of the span's party or of another one.
  span_each : (span : Span T) (e : Event T) → P e → AllWritten span → (b : Bool) → AllWritten (if b then own_after span e else span)
  span_each span e h all true = own_each span e h all
  span_each span e h all false = all

  -- If P holds of each event of a run, it holds of each event that a party's latest call has written.
  module _ (p : ℕ) (events : List (Event T)) (each : (before after : List (Event T)) (e : Event T) → events ≡ before ++ e ∷ after → P e) where
    -- P holds of all that the party's latest call has written, after any events of which P holds
    -- one by one.
    walk : (es before rest : List (Event T)) (span : Span T) → events ≡ before ++ (es ++ rest) → AllWritten span → AllWritten (fold (span_after p) span es)
    walk [] before rest span split all = all
    walk (e ∷ es) before rest span split all =
        walk es (before ++ e ∷ []) rest (span_after p span e) (split ∙ sym (append_assoc before (e ∷ []) (es ++ rest)))
        (span_each span e (each before (es ++ rest) e split) all (is_party p (whose e)))

    wrote_each : (past rest : List (Event T)) → events ≡ past ++ rest → AllWritten (span_of p past)
    wrote_each past rest split = walk past [] rest Never split tt

-- If the act fills an index, the index is below the capacity.
abbrev ActBelow : ℕ → SetAct → Type 0
ActBelow capacity (Fills index owner) = index < capacity
ActBelow capacity act = Unit {0}

module _ {T : Type 0} (capacity : ℕ) where
  -- ---- claims

  -- If the event claims an index, the index is below the capacity.
  abbrev pub ClaimsBelow : Event T → Type 0
  ClaimsBelow (Claimed p index) = index < capacity
  ClaimsBelow e = Unit {0}

  -- where each event that claims an index claims one below the capacity, all that are claimed are below it
  claims_below : (es : List (Event T)) (d : SetActs) → AllByRecursion ClaimsBelow es → AllByRecursion (λ (i : ℕ). i < capacity) d.claimed
      → AllByRecursion (λ (i : ℕ). i < capacity) (fold set_act d es).claimed
  claims_below [] d each all = all
  claims_below (Claimed p i ∷ es) d each all =
      claims_below es (record d { claimed = d.claimed ++ i ∷ [] }) each.1 (all_more (λ (i : ℕ). i < capacity) d.claimed i all each.0)
  claims_below (e ∷ es) d each all = claims_below es (set_act d e) each.1 all

  -- An index that a call of the unique index set has claimed is below the capacity.
  pub claimed_below : (p index : ℕ) (events past rest : List (Event T)) → Each (λ before e. ClaimsBelow e) events → events ≡ past ++ rest
      → (fold set_act (record { claimed = []; freed = []; locks = 0 }) (wrote_in (span_of p past))).claimed ≡ index ∷ [] → index < capacity
  claimed_below p index events past rest each is e =
      (subst (AllByRecursion (λ (i : ℕ). i < capacity)) e (claims_below (wrote_in (span_of p past)) _ (wrote_each ClaimsBelow p events each past rest is) tt)).0

  -- If each event claims only an index below the capacity, all indices that a loan channel's calls
  -- have claimed are below it.
  loans_below : (es : List (Event T)) → AllByRecursion ClaimsBelow es → AllByRecursion (λ (i : ℕ). i < capacity) (channel.claimed es)
  loans_below [] each = tt
  loans_below (Claimed p i ∷ es) each = (each.0, loans_below es each.1)
  loans_below (e ∷ es) each = loans_below es each.1

  -- An index that a loan has claimed is below the number of slots.
  pub loaned_below : (p index : ℕ) (events past rest : List (Event T)) → Each (λ before e. ClaimsBelow e) events → events ≡ past ++ rest
      → channel.claimed (wrote_in (span_of p past)) ≡ index ∷ [] → index < capacity
  loaned_below p index events past rest each split e =
      (subst (AllByRecursion (λ (i : ℕ). i < capacity)) e (loans_below (wrote_in (span_of p past)) (wrote_each ClaimsBelow p events each past rest split))).0

  -- ---- fills

  -- If the event fills an index, the index is below the capacity.
  abbrev pub FillsBelow : Event T → Type 0
  FillsBelow (Filled p index owner) = index < capacity
  FillsBelow e = Unit {0}

  -- where each event that fills an index fills one below the capacity, all acts do
  acts_below : (es : List (Event T)) → AllByRecursion FillsBelow es → AllByRecursion (ActBelow capacity) (robust.set_acts es)
  acts_below [] each = tt
  acts_below (Filled p i o ∷ es) each = (each.0, acts_below es each.1)
  acts_below (Granted p i o ∷ es) each = (tt, acts_below es each.1)
  acts_below (FreedOf p i o ∷ es) each = (tt, acts_below es each.1)
  acts_below (Asked p i o ∷ es) each = (tt, acts_below es each.1)
  acts_below (Told p i o ∷ es) each = (tt, acts_below es each.1)
  acts_below (Locked p ∷ es) each = (tt, acts_below es each.1)
  acts_below (e ∷ es) each = acts_below es each.1

  -- An index that a call has filled for an owner is below the capacity.
  pub filled_below : (p index owner : ℕ) (more : List SetAct) (events past rest : List (Event T)) → Each (λ before e. FillsBelow e) events
      → events ≡ past ++ rest → robust.set_acts_of p past ≡ Fills index owner ∷ more → index < capacity
  filled_below p index owner more events past rest each split filled_is =
      (subst (AllByRecursion (ActBelow capacity)) filled_is (acts_below (wrote_in (span_of p past)) (wrote_each FillsBelow p events each past rest split))).0

  -- ---- what comes out of a queue of indices

  -- If the item is an index, the index is below the capacity.
  abbrev ItemBelow : Item T → Type 0
  ItemBelow (Index index) = index < capacity
  ItemBelow item = Unit {0}

  -- If the event hands an index out, the index is below the capacity.
  abbrev pub HandsOutBelow : Event T → Type 0
  HandsOutBelow (HandedOut p item) = ItemBelow item
  HandsOutBelow e = Unit {0}

  -- If each event hands out only an index below the capacity, then so is each index handed out in all.
  items_below : (es : List (Event T)) → AllByRecursion HandsOutBelow es → AllByRecursion ItemBelow (handed_out es)
  items_below [] each = tt
  items_below (HandedOut p item ∷ es) each = (each.0, items_below es each.1)
  items_below (e ∷ es) each = items_below es each.1

  -- An index that a receive has taken out of the submission queue is below the number of slots.
  pub received_below : (p index : ℕ) (events past rest : List (Event T)) → Each (λ before e. HandsOutBelow e) events → events ≡ past ++ rest
      → handed_out (wrote_in (span_of p past)) ≡ Index index ∷ [] → index < capacity
  received_below p index events past rest each split handed_out_is =
      (subst (AllByRecursion ItemBelow) handed_out_is (items_below (wrote_in (span_of p past)) (wrote_each HandsOutBelow p events each past rest split))).0

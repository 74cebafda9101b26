-- A role of a queue or a single value has one holder at a time (`HasOneHolder`). So between two looks of a
-- pass that holds it, nobody else writes what its holder alone writes.
use Rattle.history.proofs.Names.{Each-less, ◌≡◌, ℕ, ◌==◌, Bool, true, false, Option, Some, None, List, [], ◌∷◌, ◌++◌, fold, refl}
use Rattle.history.proofs.Names.{sym, ap, subst, ◌∙◌, append-nil, append_assoc, arith, nat_tests, fold-append, flat_map}
use Rattle.history.proofs.Names.{Answer, Event, Begun, Finished, Start, Each, whose, is_party}
use Rattle.std.proofs.lemmas.Grind.{flat_map-append}
use Rattle.history.specs.declared.view.View.{View}
use Rattle.history.specs.History.{Called, IsBeginning}
use Rattle.history.specs.Known.{events_by}
use Rattle.history.proofs.Known.{by_more}

-- ---- where an event stands

module _ {T : Type 0} where
  -- if the first event of the party is e, e stands in the list behind events of others alone
  pub first_own : (p : ℕ) (xs es : List (Event T)) (e : Event T) → events_by p xs ≡ e ∷ es
      → (ls : List (Event T)) × (rs : List (Event T)) × (xs ≡ ls ++ e ∷ rs) × (events_by p ls ≡ []) × (events_by p rs ≡ es)
  first_own p [] es e events_are = absurd (cc)
  first_own p (x ∷ xs) es e events_are = go (λ rest. first_own p xs es e rest) (is_party p (whose x)) refl
    where
      -- whether the event in front is the party's or another's, the first event of the party stands somewhere
      go : (events_by p xs ≡ e ∷ es
          → (ls : List (Event T)) × (rs : List (Event T)) × (xs ≡ ls ++ e ∷ rs) × (events_by p ls ≡ []) × (events_by p rs ≡ es))
          → (b : Bool) → is_party p (whose x) ≡ b
          → (ls : List (Event T)) × (rs : List (Event T)) × (x ∷ xs ≡ ls ++ e ∷ rs) × (events_by p ls ≡ []) × (events_by p rs ≡ es)
      go later true test_is =
          let here : x ∷ events_by p xs ≡ e ∷ es = rw test_is at events_are in
          let same : x ≡ e = cc in
          let more : events_by p xs ≡ es = cc in
          ([], xs, ap (λ z. z ∷ xs) same, refl, more)
      go later false test_is =
          let rest : events_by p xs ≡ e ∷ es = rw test_is at events_are in
          let more = later rest in
          (x ∷ more.0, more.1, ap (λ zs. x ∷ zs) more.2, rw test_is more.3, more.4)

  -- the first event e that a call wrote: what was seen before it, and what its party wrote after it
  pub record Wrote (p : ℕ) (e : Event T) (own : List (Event T)) (base w : View T) : Type 0 where
    -- e stands in what was seen, behind what `base` had seen; after it the party wrote `own`
    pub before : List (Event T)
    pub after : List (Event T)
    pub is : w.seen ≡ before ++ e ∷ after
    pub since : IsBeginning base.seen before
    pub mine : events_by p after ≡ own
    -- what others wrote, the begin of the call, and what others wrote then
    pub start : Start T
    pub others : List (Event T)
    pub during : List (Event T)
    pub begins : before ≡ (base.seen ++ others) ++ Begun p start ∷ during
    pub others_own : events_by p others ≡ []
    pub during_own : events_by p during ≡ []

  -- the end of a party's call is an event of that party
  it_is : (p : ℕ) (start : Start T) (answer : Answer T) → events_by p (Finished p start answer ∷ []) ≡ Finished p start answer ∷ []
  it_is p start answer = (let t : (p == p) ≡ true = grind (arith, nat_tests) in rw t refl)

  -- the first event that a call wrote stands in the history
  pub first_wrote : (p : ℕ) (start : Start T) (answer : Answer T) (e : Event T) (es : List (Event T)) (base w : View T)
      → Called p start answer (e ∷ es) base w → Wrote p e (es ++ Finished p start answer ∷ []) base w
  first_wrote p start answer e es base w called =
      let part = first_own p called.during es e called.during_own in
      let events_then : List (Event T) = base.seen ++ called.others in
      let last : List (Event T) = Finished p start answer ∷ [] in
      let whole : w.seen ≡ (events_then ++ Begun p start ∷ part.0) ++ e ∷ (part.1 ++ last) =
      called.is
      ∙ (ap (λ ds. events_then ++ Begun p start ∷ (ds ++ last)) part.2
      ∙ (ap (λ zs. events_then ++ Begun p start ∷ zs) (append_assoc part.0 (e ∷ part.1) last)
      ∙ sym (append_assoc events_then (Begun p start ∷ part.0) (e ∷ (part.1 ++ last)))))
      in
      record {
        before = events_then ++ Begun p start ∷ part.0;
        after = part.1 ++ last;
        is = whole;
        since = record { rest = called.others ++ Begun p start ∷ part.0; is = append_assoc base.seen called.others (Begun p start ∷ part.0) };
        mine = by_more p part.1 last ∙ (ap (λ zs. zs ++ events_by p last) part.4 ∙ ap (λ zs. es ++ zs) (it_is p start answer));
        start = start;
        others = called.others;
        during = part.0;
        begins = refl;
        others_own = called.others_own;
        during_own = part.3;
      }

-- ---- a role

-- A role: who holds it after an event, what an event tells that only its holder writes (`marks`), that the
-- holder wrote such an event, and that an event which moves the role is right (`Grants`).
pub record RoleEvents (T M : Type 0) : Type 1 where
  pub holder_after : Option ℕ → Event T → Option ℕ
  pub marks : Event T → List M
  pub ByItsHolder : List (Event T) → Event T → Type 0
  pub Grants : List (Event T) → Event T → Type 0

module _ {T M : Type 0} (role : RoleEvents T M) where
  -- who holds the role after these events, if somebody does
  abbrev pub held : List (Event T) → Option ℕ
  held events = fold role.holder_after None events

  -- the event leaves the role with the party and tells nothing of it
  abbrev pub IsPlain : ℕ → Event T → Type 0
  IsPlain p e = (role.marks e ≡ []) × (role.holder_after (Some p) e ≡ Some p)

  -- events that each leave the role with the party and tell nothing of it
  abbrev pub ArePlain : ℕ → List (Event T) → Type 0
  ArePlain p [] = Unit {0}
  ArePlain p (e ∷ es) = IsPlain p e × ArePlain p es

  -- An event of another party neither gives this party the role nor takes it away, and a begin of a call
  -- moves no role.
  pub record HasOneHolder : Type 0 where
    -- before another's event that leaves the role to the party, the party held it, and the event tells nothing of it
    pub back : (p : ℕ) (before : List (Event T)) (e : Event T) → role.ByItsHolder before e → is_party p (whose e) ≡ false
        → role.holder_after (held before) e ≡ Some p → (held before ≡ Some p) × (role.marks e ≡ [])
    -- while the party holds the role, another's event leaves it there and tells nothing of it
    pub forth : (p : ℕ) (before : List (Event T)) (e : Event T) → role.ByItsHolder before e → role.Grants before e
        → is_party p (whose e) ≡ false → held before ≡ Some p → IsPlain p e
    -- the begin of a call neither moves the role nor tells of it
    pub begin : (o : Option ℕ) (p : ℕ) (start : Start T) → (role.holder_after o (Begun p start) ≡ o) × (role.marks (Begun p start) ≡ [])

module _ {T M : Type 0} (role : RoleEvents T M) (one : HasOneHolder role) where
  -- if the party holds the role at the end and wrote nothing in between, it held it before, and nobody wrote
  -- what only its holder writes
  pub back_over : (p : ℕ) (before es : List (Event T)) → Each role.ByItsHolder (before ++ es) → events_by p es ≡ []
      → held role (before ++ es) ≡ Some p → (held role before ≡ Some p) × (flat_map role.marks es ≡ [])
  back_over p before [] each none now = (ap (held role) (sym (append-nil before)) ∙ now, refl)
  back_over p before (e ∷ es) each none now =
      go (λ rest. back_over p (before ++ e ∷ []) es (subst (Each role.ByItsHolder) (sym longer) each) rest (ap (held role) longer ∙ now))
      (is_party p (whose e)) refl
    where
      -- an event may be counted with those before it, or with those behind it
      longer : (before ++ e ∷ []) ++ es ≡ before ++ e ∷ es
      longer = append_assoc before (e ∷ []) es

      -- whether the event in front is the party's or another's, the party held the role before it,
      -- and nobody wrote what its holder writes
      go : (events_by p es ≡ [] → (held role (before ++ e ∷ []) ≡ Some p) × (flat_map role.marks es ≡ [])) → (b : Bool)
          → is_party p (whose e) ≡ b → (held role before ≡ Some p) × (flat_map role.marks (e ∷ es) ≡ [])
      go later true test_is = (let mine : e ∷ events_by p es ≡ [] = rw test_is at none in absurd (cc))
      go later false test_is =
          let rest : events_by p es ≡ [] = rw test_is at none in
          let more = later rest in
          let leaves : role.holder_after (held role before) e ≡ Some p = sym (fold-append role.holder_after None before (e ∷ [])) ∙ more.0 in
          let here = one.back p before e (each before es e refl) test_is leaves in
          (here.0, ap (λ xs. xs ++ flat_map role.marks es) here.1 ∙ more.1)

  -- while the party holds the role, and its own events leave it there and tell nothing of it, nobody writes
  -- what only its holder writes
  pub forth_over : (p : ℕ) (before es : List (Event T)) → Each role.ByItsHolder (before ++ es) → Each role.Grants (before ++ es)
      → ArePlain role p (events_by p es) → held role before ≡ Some p → flat_map role.marks es ≡ []
  forth_over p before [] each grants plain now = refl
  forth_over p before (e ∷ es) each grants plain now =
      go (λ rest still. forth_over p (before ++ e ∷ []) es (subst (Each role.ByItsHolder) (sym longer) each)
      (subst (Each role.Grants) (sym longer) grants) rest
      (fold-append role.holder_after None before (e ∷ []) ∙ (ap (λ o. role.holder_after o e) now ∙ still)))
      (is_party p (whose e)) refl
    where
      -- an event may be counted with those before it, or with those behind it
      longer : (before ++ e ∷ []) ++ es ≡ before ++ e ∷ es
      longer = append_assoc before (e ∷ []) es

      -- whether the event in front is the party's or another's, nobody writes what the role's holder writes
      go : (ArePlain role p (events_by p es) → role.holder_after (Some p) e ≡ Some p → flat_map role.marks es ≡ []) → (b : Bool)
          → is_party p (whose e) ≡ b → flat_map role.marks (e ∷ es) ≡ []
      go later true test_is =
          let own : IsPlain role p e × ArePlain role p (events_by p es) = rw test_is at plain in
          ap (λ xs. xs ++ flat_map role.marks es) own.0.0 ∙ later own.1 own.0.1
      go later false test_is =
          let rest : ArePlain role p (events_by p es) = rw test_is at plain in
          let here = one.forth p before e (each before es e refl) (grants before es e refl) test_is now in
          ap (λ xs. xs ++ flat_map role.marks es) here.0 ∙ later rest here.1

  -- after what a pass had seen nobody has written what a holder writes, where the call's party holds the role
  module _ (p : ℕ) (start : Start T) (seen others during : List (Event T))
      (each : Each role.ByItsHolder ((seen ++ others) ++ Begun p start ∷ during)) (none_others : events_by p others ≡ [])
      (none_during : events_by p during ≡ []) (holds : held role ((seen ++ others) ++ Begun p start ∷ during) ≡ Some p) where
    -- the begin of the call may be counted with what came before it, or with what came during the call
    split : ((seen ++ others) ++ Begun p start ∷ []) ++ during ≡ (seen ++ others) ++ Begun p start ∷ during
    split = append_assoc (seen ++ others) (Begun p start ∷ []) during

    -- the party held the role as its call had begun, and nobody wrote what its holder writes while the call
    -- was under way
    later : (held role ((seen ++ others) ++ Begun p start ∷ []) ≡ Some p) × (flat_map role.marks during ≡ [])
    later =
        back_over p ((seen ++ others) ++ Begun p start ∷ []) during
        (subst (Each role.ByItsHolder) (sym split) each) none_during (ap (held role) split ∙ holds)

    -- The party held the role when its pass had last looked, and nobody wrote what its holder writes before
    -- the call began.
    earlier : (held role seen ≡ Some p) × (flat_map role.marks others ≡ [])
    earlier =
        let back : held role (seen ++ others) ≡ Some p =
        sym (one.begin (held role (seen ++ others)) p start).0
        ∙ (sym (fold-append role.holder_after None (seen ++ others) (Begun p start ∷ [])) ∙ later.0) in
        back_over p seen others (Each-less role.ByItsHolder (seen ++ others) (Begun p start ∷ during) each) none_others back

    -- nobody wrote what the role's holder writes from the last look on to this moment of the call
    none_between : flat_map role.marks ((seen ++ others) ++ Begun p start ∷ during) ≡ flat_map role.marks seen
    none_between =
        let m = role.marks in
        flat_map-append m (seen ++ others) (Begun p start ∷ during)
        ∙ (ap (λ zs. flat_map m (seen ++ others) ++ (zs ++ flat_map m during)) (one.begin None p start).1
        ∙ (ap (λ zs. flat_map m (seen ++ others) ++ zs) later.1
        ∙ (append-nil (flat_map m (seen ++ others))
        ∙ (flat_map-append m seen others ∙ (ap (λ zs. flat_map m seen ++ zs) earlier.1 ∙ append-nil (flat_map m seen))))))

    -- nor did anybody up to one more event that tells nothing of the role
    pub none_to_end : (last : Event T) → role.marks last ≡ []
        → flat_map role.marks (((seen ++ others) ++ Begun p start ∷ during) ++ last ∷ []) ≡ flat_map role.marks seen
    none_to_end last none =
        let m = role.marks in
        let events_then : List (Event T) = (seen ++ others) ++ Begun p start ∷ during in
        flat_map-append m events_then (last ∷ [])
        ∙ (ap (λ zs. flat_map m events_then ++ (zs ++ [])) none ∙ (append-nil (flat_map m events_then) ∙ none_between))

  -- if the party holds the role at the end of what is now seen and wrote nothing since, nobody wrote
  -- what its holder writes
  pub none_looked : (p : ℕ) (seen rest now : List (Event T)) → now ≡ seen ++ rest → Each role.ByItsHolder now → events_by p rest ≡ []
      → held role now ≡ Some p → flat_map role.marks now ≡ flat_map role.marks seen
  none_looked p seen rest now now_is each none holds =
      let m = role.marks in
      let back = back_over p seen rest (subst (Each role.ByItsHolder) now_is each) none (ap (held role) (sym now_is) ∙ holds) in
      ap (flat_map m) now_is ∙ (flat_map-append m seen rest ∙ (ap (λ zs. flat_map m seen ++ zs) back.1 ∙ append-nil (flat_map m seen)))

  module _ {p : ℕ} {e : Event T} {own : List (Event T)} {base w : View T} (at : Wrote p e own base w)
      (each : Each role.ByItsHolder w.seen) (holds : held role at.before ≡ Some p) where
    -- since the pass looked last, nobody wrote what the role's holder writes before event e
    pub none_since : flat_map role.marks at.before ≡ flat_map role.marks base.seen
    none_since =
        ap (flat_map role.marks) at.begins
        ∙ none_between p at.start base.seen at.others at.during
        (Each-less role.ByItsHolder ((base.seen ++ at.others) ++ Begun p at.start ∷ at.during) (e ∷ at.after)
        (subst (Each role.ByItsHolder) (at.is ∙ ap (λ xs. xs ++ e ∷ at.after) at.begins) each))
        at.others_own at.during_own (ap (held role) (sym at.begins) ∙ holds)

    -- what the holders of the role wrote has become longer by what event e tells, and by nothing else
    pub listed : Each role.Grants w.seen → role.holder_after (Some p) e ≡ Some p → ArePlain role p own
        → flat_map role.marks w.seen ≡ flat_map role.marks base.seen ++ role.marks e
    listed grants stays plain =
        let m = role.marks in
        let split : w.seen ≡ (at.before ++ e ∷ []) ++ at.after = at.is ∙ sym (append_assoc at.before (e ∷ []) at.after) in
        let now : held role (at.before ++ e ∷ []) ≡ Some p =
        fold-append role.holder_after None at.before (e ∷ []) ∙ (ap (λ o. role.holder_after o e) holds ∙ stays) in
        let rest : flat_map m at.after ≡ [] =
        forth_over p (at.before ++ e ∷ []) at.after (subst (Each role.ByItsHolder) split each)
        (subst (Each role.Grants) split grants) (subst (ArePlain role p) (sym at.mine) plain) now in
        ap (flat_map m) at.is
        ∙ (flat_map-append m at.before (e ∷ at.after)
        ∙ (ap (λ zs. flat_map m at.before ++ (m e ++ zs)) rest
        ∙ (ap (λ zs. flat_map m at.before ++ zs) (append-nil (m e)) ∙ ap (λ zs. zs ++ m e) none_since)))

-- A log of what calls have done at one place, kept as a history grows: each call acts at one moment inside it.
use Rattle.std.specs.List.{Contains, filter, sum_by}
use Rattle.std.specs.Prelude.{IfSome}
use Rattle.std.proofs.Common.{◌-◌, ◌+◌, ◌<◌, ◌==◌, ◌≡◌, ◌≢◌, ◌≤◌, ◌⊎◌, ◌++◌, ◌∷◌, ◌∙◌, Bool, List, None, Option, Some, []}
use Rattle.std.proofs.Common.{ap, arith, cond, false, length, map, not, is_some, refl, subst, sym, true, ℕ, ⊎_elim}
use Rattle.std.proofs.lemmas.Bool.Decides.{nat_tests}
use Rattle.std.proofs.lemmas.List.{length_push}
use Rattle.std.proofs.lemmas.List.Sums.{sum_by-cons}
use Rattle.model.proofs.Linearizable.Members.{AllLater, here, none_there, split, there}
use Rattle.pages.specs.Machine.{Event, Invoked, Responded, Called, calls_from}
use Rattle.pages.proofs.Growing.{calls_begun, calls_done, filtered, later_filter, later_map, later_push, mapped}
use Rattle.pages.proofs.Growing.{mapped_from, open_call, passes, push_new, push_old, pushed, respond, responded}
use Rattle.pages.specs.Places.{Act, IsChain}

-- ---- what is conserved

-- what a chain begins with and what its acts put there is what they took from there and what the chain ends with
pub conserved : (first : ℕ) (acts : List Act) (last : ℕ) → IsChain first acts last
    → first + sum_by (λ (act : Act). act.left - act.found) acts ≡ sum_by (λ (act : Act). act.found - act.left) acts + last
conserved first [] last chain = omega arith
conserved first (act ∷ acts) last chain =
    let more = conserved act.left acts last chain.1 in
    let from = chain.0 in
    let puts = sum_by-cons (λ (act : Act). act.left - act.found) act acts in
    let takes = sum_by-cons (λ (act : Act). act.found - act.left) act acts in
    omega arith

chain_push : (first : ℕ) (acts : List Act) (act : Act) → IsChain first acts act.found → IsChain first (acts ++ act ∷ []) act.left
chain_push first [] act is_chain = (sym is_chain, refl)
chain_push first (x ∷ acts) act chain = (chain.0, chain_push x.left acts act chain.1)

-- ---- the log

module _ {Call Answer : Type 0} (at : Call → Answer → Option Act) where
  abbrev pub Entry : Type 0
  Entry = Called Call Answer × Act

  abbrev pub acts : List Entry → List Act
  acts log = map (λ (x : Entry). x.1) log

  -- what a call may do at the place
  abbrev pub Possible : Call → Act → Type 0
  Possible call act = (answer : Answer) × (at call answer ≡ Some act)

  abbrev IsAnswered : Entry → Type 0
  IsAnswered x = (answer : Answer) × ((at x.0.call answer ≡ Some x.1) × IfSome x.0.response (λ r. r.1 ≡ answer))

  abbrev IsLogged : List Entry → Called Call Answer → Type 0
  IsLogged log call = IfSome call.response (λ r. IfSome (at call.call r.1) (λ act. Contains log (call, act)))

  abbrev Apart : Entry → Entry → Type 0
  Apart x y = x.0.place ≢ y.0.place

  abbrev InTime : Entry → Entry → Type 0
  InTime x y = IfSome y.0.response (λ r. x.0.place ≤ r.0)

  -- the log of what a history's calls did at the place, in the order of their acts, which lead from 0 to `v`
  pub record Core (h : List (Event Call Answer)) (log : List Entry) (v : ℕ) : Type 0 where
    pub chain : IsChain 0 (acts log) v
    pub invoked : (x : Entry) → Contains log x → Contains (calls_from h 0) x.0
    pub answered : (x : Entry) → Contains log x → IsAnswered x
    pub completed : (c : Called Call Answer) → Contains (calls_from h 0) c → IsLogged log c
    pub once : AllLater Apart log
    pub real_time : AllLater InTime log
    pub earlier : (c : Called Call Answer) → Contains (calls_from h 0) c → c.place < length h
    pub one : (c d : Called Call Answer) → Contains (calls_from h 0) c → Contains (calls_from h 0) d → c.place ≡ d.place → c ≡ d

  -- an open call has done this, or nothing
  abbrev Linked : ℕ → ℕ → Call → Option Act → List Entry → Type 0
  Linked place p call None log = (x : Entry) → Contains log x → x.0.place ≢ place
  Linked place p call (Some act) log = Contains log (open_call place p call, act)

  -- The one open call of party `p`, which has done `did` at the place.
  pub record IsOpen (h : List (Event Call Answer)) (log : List Entry) (p : ℕ) (call : Call) (did : Option Act) : Type 0 where
    pub place : ℕ
    pub called : Contains (calls_from h 0) (open_call place p call)
    pub only : (c : Called Call Answer) → Contains (calls_from h 0) c → c.party ≡ p → c.response ≡ None → c.place ≡ place
    pub linked : Linked place p call did log

  -- Party `p` has no open call, or its open call has done this at the place.
  abbrev pub Party : List (Event Call Answer) → List Entry → ℕ → Option (Call × Option Act) → Type 0
  Party h log p None = (c : Called Call Answer) → Contains (calls_from h 0) c → c.party ≡ p → c.response ≢ None
  Party h log p (Some x) = IsOpen h log p x.0 x.1

  -- ---- a call begins

  module _ {h : List (Event Call Answer)} {log : List Entry} {v : ℕ} (core : Core h log v) (p : ℕ) (call : Call) where
    abbrev h_begun : List (Event Call Answer)
    h_begun = h ++ Invoked p call ∷ []

    new : Called Call Answer
    new = open_call (length h) p call

    calls_are : calls_from h_begun 0 ≡ calls_from h 0 ++ open_call (length h) p call ∷ []
    calls_are = calls_begun h 0 (length h) p call (omega arith)

    still_called : (c : Called Call Answer) → Contains (calls_from h 0) c → Contains (calls_from h_begun 0) c
    still_called c is = subst (λ cs. Contains cs c) (sym calls_are) (push_old (calls_from h 0) (open_call (length h) p call) c is)

    either : (c : Called Call Answer) → Contains (calls_from h_begun 0) c → Contains (calls_from h 0) c ⊎ (open_call (length h) p call ≡ c)
    either c is = pushed (calls_from h 0) (open_call (length h) p call) c (subst (λ cs. Contains cs c) calls_are is)

    longer : length h_begun ≡ length h + 1
    longer = length_push h (Invoked p call)

    -- as a call is invoked the log is that of the longer history
    pub begun_core : Core h_begun log v
    begun_core =
        record {
          chain = core.chain;
          invoked = λ x is. still_called x.0 (core.invoked x is);
          answered = core.answered;
          completed = λ c is. ⊎_elim (λ old. core.completed c old) (λ e. subst (λ c. IsLogged log c) e tt) (either c is);
          once = core.once;
          real_time = core.real_time;
          earlier = λ c is.
              ⊎_elim (λ old. let more = longer in omega (arith, core.earlier c old))
              (λ e. let same_length : length h ≡ c.place = ap (λ (c : Called Call Answer). c.place) e in let more = longer in omega arith) (either c is);
          one = λ c d a b same.
              ⊎_elim
              (λ old. ⊎_elim (λ too. core.one c d old too same)
              (λ e. let same_length : length h ≡ d.place = ap (λ (c : Called Call Answer). c.place) e in
              let lt = core.earlier c old in
              absurd (omega arith))
              (either d b))
              (λ e. ⊎_elim
              (λ too.
              let same_length : length h ≡ c.place = ap (λ (c : Called Call Answer). c.place) e in absurd (omega (arith, core.earlier d too)))
              (λ f. sym e ∙ f) (either d b)) (either c a);
        }

    -- a party that has no open call has one as it is invoked, which has done nothing
    pub begun_own : Party h log p None → Party h_begun log p (Some (call, None))
    begun_own free =
        record {
          place = length h;
          called = subst (λ cs. Contains cs (open_call (length h) p call)) (sym calls_are) (push_new (calls_from h 0) (open_call (length h) p call));
          only = λ c is own none.
              ⊎_elim (λ old. absurd (free c old own none)) (λ e. sym (ap (λ (c : Called Call Answer). c.place) e)) (either c is);
          linked = λ x is same. (absurd (omega (arith, core.earlier x.0 (core.invoked x is))));
        }

    -- an invocation by one party leaves what the log says of every other
    pub begun_other : (q : ℕ) → q ≢ p → (o : Option (Call × Option Act)) → Party h log q o → Party h_begun log q o
    begun_other q ne None free =
        λ c is own none. ⊎_elim (λ old. free c old own none) (λ e. ne (sym (ap (λ (c : Called Call Answer). c.party) e ∙ own))) (either c is)
    begun_other q ne (Some x) s =
        record {
          place = s.place;
          called = still_called (open_call s.place q x.0) s.called;
          only = λ c is own none.
              ⊎_elim (λ old. s.only c old own none) (λ e. absurd (ne (sym (ap (λ (c : Called Call Answer). c.party) e ∙ own)))) (either c is);
          linked = s.linked;
        }

  -- ---- members of a log

  acts_push : (log : List Entry) (x : Entry) → acts (log ++ x ∷ []) ≡ acts log ++ x.1 ∷ []
  acts_push [] x = refl
  acts_push (y ∷ log) x = ap (λ xs. y.1 ∷ xs) (acts_push log x)

  -- entries at one place are one
  one_entry : (log : List Entry) → AllLater Apart log → (x y : Entry) → Contains log x → Contains log y → x.0.place ≡ y.0.place → x ≡ y
  one_entry [] once x y a b same = absurd (none_there x a)
  one_entry (z ∷ log) once x y a b same =
      ⊎_elim
      (λ e. ⊎_elim (λ f. sym e ∙ f)
      (λ more. let same_place : z.0.place ≡ x.0.place = ap (λ (x : Entry). x.0.place) e in absurd (once.0 y more (same_place ∙ same)))
      (split z y log b))
      (λ rest. ⊎_elim (λ f. let same_place : z.0.place ≡ y.0.place = ap (λ (x : Entry). x.0.place) f in absurd (once.0 x rest (same_place ∙ sym same)))
      (λ more. one_entry log once.1 x y rest more same) (split z y log b))
      (split z x log a)

  -- an answered call that is logged is logged in every log that keeps the entries of answered calls
  logged_so : (log more : List Entry) (c : Called Call Answer) (o : Option (ℕ × Answer))
      → ((act : Act) → is_some o ≡ true → Contains log (c, act) → Contains more (c, act))
      → IfSome o (λ r. IfSome (at c.call r.1) (λ act. Contains log (c, act))) → IfSome o (λ r. IfSome (at c.call r.1) (λ act. Contains more (c, act)))
  logged_so log more c None f had = tt
  logged_so log more c (Some r) f had = go (at c.call r.1) had
    where
      go : (d : Option Act) → IfSome d (λ act. Contains log (c, act)) → IfSome d (λ act. Contains more (c, act))
      go None had = tt
      go (Some act) had = f act refl had

  -- open calls of two parties are two
  places_apart : {h : List (Event Call Answer)} {log : List Entry} {v : ℕ} → Core h log v → {p q m n : ℕ} {c d : Call} → q ≢ p
      → Contains (calls_from h 0) (open_call m p c) → Contains (calls_from h 0) (open_call n q d) → n ≢ m
  places_apart core {p} {q} {m} {n} {c} {d} ne a b same =
      ne (ap (λ (c : Called Call Answer). c.party) (core.one (open_call n q d) (open_call m p c) b a same))

  -- ---- a call acts

  module _ {h : List (Event Call Answer)} {log : List Entry} {v : ℕ} (core : Core h log v) {p : ℕ} {call : Call} (act : Act)
      (own : IsOpen h log p call None) where
    abbrev pub acted : Entry
    acted = (open_call own.place p call, act)

    abbrev pub log_acted : List Entry
    log_acted = log ++ acted ∷ []

    -- an open call that does what some answer says, and finds what is at the place, comes last in the log
    pub acted_core : Possible call act → act.found ≡ v → Core h log_acted act.left
    acted_core possible finds =
        record {
          chain = subst (λ xs. IsChain 0 xs act.left) (sym (acts_push log acted))
              (chain_push 0 (acts log) act (subst (IsChain 0 (acts log)) (sym finds) core.chain));
          invoked = λ x is. ⊎_elim (core.invoked x) (λ e. subst (λ (x : Entry). Contains (calls_from h 0) x.0) e own.called) (pushed log acted x is);
          answered = λ x is. ⊎_elim (core.answered x) (λ e. subst IsAnswered e (possible.0, (possible.1, tt))) (pushed log acted x is);
          completed = λ c is. logged_so log log_acted c c.response (λ a some had. push_old log acted (c, a) had) (core.completed c is);
          once = later_push Apart log acted core.once own.linked;
          real_time = later_push InTime log acted core.real_time (λ x is. tt);
          earlier = core.earlier;
          one = core.one;
        }

    pub acted_own : IsOpen h log_acted p call (Some act)
    acted_own = record { place = own.place; called = own.called; only = own.only; linked = push_new log acted }

    -- an act of one party leaves what the log says of every other
    pub acted_other : (q : ℕ) → q ≢ p → (o : Option (Call × Option Act)) → Party h log q o → Party h log_acted q o
    acted_other q ne None free = free
    acted_other q ne (Some x) party = record { place = party.place; called = party.called; only = party.only; linked = go x.1 party.linked }
      where
        -- the cases are whether the other's call has acted
        go : (d : Option Act) → Linked party.place q x.0 d log → Linked party.place q x.0 d log_acted
        go None linked =
            λ z is same.
            ⊎_elim (λ old. linked z old same)
            (λ e. let same_place : own.place ≡ z.0.place = ap (λ (x : Entry). x.0.place) e in
            places_apart core ne own.called party.called (sym same ∙ sym same_place)) (pushed log acted z is)
        go (Some a) linked = push_old log acted (open_call party.place q x.0, a) linked

  -- ---- a call has done nothing after all

  module _ {h : List (Event Call Answer)} {log : List Entry} {v : ℕ} (core : Core h log v) {p : ℕ} {call : Call} {act : Act}
      (own : IsOpen h log p call (Some act)) (idle : act.found ≡ act.left) where
    abbrev stays : Entry → Bool
    stays x = not (x.0.place == own.place)

    abbrev pub log_forgotten : List Entry
    log_forgotten = filter stays log

    -- a chain without the entries of this call is a chain: they left what they found
    chain_forgets : (first : ℕ) (log : List Entry) → ((x : Entry) → Contains log x → stays x ≡ false → x.1.found ≡ x.1.left)
        → IsChain first (acts log) v → IsChain first (acts (filter stays log)) v
    chain_forgets first [] all chain = chain
    chain_forgets first (x ∷ log) all chain =
        go (stays x) refl (λ k. chain_forgets k log (λ y is. all y (there x y log is)))
      where
        go : (b : Bool) → stays x ≡ b → ((k : ℕ) → IsChain k (acts log) v → IsChain k (acts (filter stays log)) v)
            → IsChain first (acts (cond b (x ∷ filter stays log) (filter stays log))) v
        go true t rest = (chain.0, rest x.1.left chain.1)
        go false t rest =
            rest first (subst (λ k. IsChain k (acts log) v) (sym (all x (here x x log refl) t) ∙ chain.0) chain.1)

    other_stays : (x : Entry) → x.0.place ≢ own.place → stays x ≡ true
    other_stays x ne = grind (arith, nat_tests)

    stays_other : (x : Entry) → stays x ≡ true → x.0.place ≢ own.place
    stays_other x it_stays = grind (arith, nat_tests)

    -- without the entry of a call that left what it found the log is that of the same history
    pub forgotten_core : Core h log_forgotten v
    forgotten_core =
        record {
          chain = chain_forgets 0 log all_idle core.chain;
          invoked = λ x is. core.invoked x (filtered stays log x is).0;
          answered = λ x is. core.answered x (filtered stays log x is).0;
          completed = λ c is. logged_so log log_forgotten c c.response (kept c is) (core.completed c is);
          once = later_filter Apart stays log core.once;
          real_time = later_filter InTime stays log core.real_time;
          earlier = core.earlier;
          one = core.one;
        }
      where
        all_idle : (x : Entry) → Contains log x → stays x ≡ false → x.1.found ≡ x.1.left
        all_idle x is it_goes =
            let same : x.0.place ≡ own.place = grind (arith, nat_tests) in
            let e = one_entry log core.once (open_call own.place p call, act) x own.linked is (sym same) in
            subst (λ (x : Entry). x.1.found ≡ x.1.left) e idle

        -- the entries of answered calls stay
        kept : (c : Called Call Answer) → Contains (calls_from h 0) c → (a : Act) → is_some c.response ≡ true
            → Contains log (c, a) → Contains log_forgotten (c, a)
        kept c is a some had =
            passes stays log (c, a) had
            (other_stays (c, a) (λ same.
            let e = core.one (open_call own.place p call) c own.called is (sym same) in
            let none : false ≡ is_some c.response = ap (λ (c : Called Call Answer). is_some c.response) e in
            absurd (cc)))

    -- the call whose entry was taken out has done nothing
    pub forgotten_own : IsOpen h log_forgotten p call None
    forgotten_own =
        record {
          place = own.place;
          called = own.called;
          only = own.only;
          linked = λ x is. stays_other x (filtered stays log x is).1;
        }

    -- what the log says of every other party stays
    pub forgotten_other : (q : ℕ) → q ≢ p → (o : Option (Call × Option Act)) → Party h log q o → Party h log_forgotten q o
    forgotten_other q ne None free = free
    forgotten_other q ne (Some x) party = record { place = party.place; called = party.called; only = party.only; linked = go x.1 party.linked }
      where
        go : (d : Option Act) → Linked party.place q x.0 d log → Linked party.place q x.0 d log_forgotten
        go None linked = λ z is. linked z (filtered stays log z is).0
        go (Some a) linked =
            passes stays log (open_call party.place q x.0, a) linked
            (other_stays (open_call party.place q x.0, a) (places_apart core ne own.called party.called))

  -- ---- a call responds

  module _ {h : List (Event Call Answer)} {log : List Entry} {v : ℕ} (core : Core h log v) {p : ℕ} {call : Call} (answer : Answer)
      (own : IsOpen h log p call (at call answer)) where
    abbrev on : Called Call Answer → Called Call Answer
    on = respond p (length h) answer

    abbrev its_response : Option (ℕ × Answer)
    its_response = Some (length h, answer)

    abbrev on_entry : Entry → Entry
    on_entry x = (on x.0, x.1)

    abbrev pub h_done : List (Event Call Answer)
    h_done = h ++ Responded p answer ∷ []

    abbrev pub log_done : List Entry
    log_done = map on_entry log

    calls_then : calls_from h_done 0 ≡ map on (calls_from h 0)
    calls_then = calls_done h 0 (length h) p answer (omega arith)

    called_then : (c : Called Call Answer) → Contains (calls_from h 0) c → Contains (calls_from h_done 0) (on c)
    called_then c is = subst (λ cs. Contains cs (on c)) (sym calls_then) (mapped on (calls_from h 0) c is)

    was_called : (c : Called Call Answer) → Contains (calls_from h_done 0) c → (d : Called Call Answer) × (Contains (calls_from h 0) d × (on d ≡ c))
    was_called c is = mapped_from on (calls_from h 0) c (subst (λ cs. Contains cs c) calls_then is)

    acts_same : (log : List Entry) → acts (map on_entry log) ≡ acts log
    acts_same [] = refl
    acts_same (x ∷ log) = ap (λ xs. x.1 ∷ xs) (acts_same log)

    its_own : (c : Called Call Answer) → Contains (calls_from h 0) c → c.party ≡ p → c.response ≡ None → open_call own.place p call ≡ c
    its_own c is party none = core.one (open_call own.place p call) c own.called is (sym (own.only c is party none))

    party_is : (q : ℕ) → (p == q) ≡ true → q ≡ p
    party_is q t = grind (arith, nat_tests)

    -- the entry of the call that responds has what its answer says
    own_entry : (x : Entry) → Contains log x → open_call own.place p call ≡ x.0 → at x.0.call answer ≡ Some x.1
    own_entry x is e = go (at call answer) refl own.linked
      where
        go : (d : Option Act) → at call answer ≡ d → Linked own.place p call d log → at x.0.call answer ≡ Some x.1
        go None did linked = absurd (linked x is (sym (ap (λ (c : Called Call Answer). c.place) e)))
        go (Some act) did linked =
            let same = one_entry log core.once (open_call own.place p call, act) x linked is (ap (λ (c : Called Call Answer). c.place) e) in
            subst (λ (x : Entry). at x.0.call answer ≡ Some x.1) same did

    -- each entry says what some answer says, and what its response says, once the party has responded
    answered_then : (x : Entry) → Contains log x → IsAnswered (on_entry x)
    answered_then x is = go x.0.response refl (core.answered x is)
      where
        -- the cases are whether its call had responded before
        go : (o : Option (ℕ × Answer)) → x.0.response ≡ o
            → (a : Answer) × ((at x.0.call a ≡ Some x.1) × IfSome o (λ r. r.1 ≡ a))
            → (a : Answer) × ((at x.0.call a ≡ Some x.1) × IfSome (responded p (length h) answer x.0.party o) (λ r. r.1 ≡ a))
        go (Some r) e had = had
        go None e had = by_party (p == x.0.party) refl
          where
            by_party : (b : Bool) → (p == x.0.party) ≡ b
                → (a : Answer) × ((at x.0.call a ≡ Some x.1) × IfSome (cond b its_response None) (λ r. r.1 ≡ a))
            by_party true t = (answer, (own_entry x is (its_own x.0 (core.invoked x is) (party_is x.0.party t) e), refl))
            by_party false t = (had.0, (had.1.0, tt))

    -- each call that has responded by then is logged with what its answer says
    logged_then : (c : Called Call Answer) → Contains (calls_from h 0) c → IsLogged log_done (on c)
    logged_then c is = go c.response refl (core.completed c is)
      where
        more : (a : Act) → Contains log (c, a) → Contains log_done (on c, a)
        more a had = mapped on_entry log (c, a) had

        -- the cases are whether the call had responded before
        go : (o : Option (ℕ × Answer)) → c.response ≡ o → IfSome o (λ r. IfSome (at c.call r.1) (λ act. Contains log (c, act)))
            → IfSome (responded p (length h) answer c.party o) (λ r. IfSome (at c.call r.1) (λ act. Contains log_done (on c, act)))
        go (Some r) e had = old (at c.call r.1) had
          where
            old : (d : Option Act) → IfSome d (λ act. Contains log (c, act)) → IfSome d (λ act. Contains log_done (on c, act))
            old None had = tt
            old (Some act) had = more act had
        go None e had = by_party (p == c.party) refl
          where
            -- the call that responds now is logged with what this answer says
            linked : open_call own.place p call ≡ c → (d : Option Act) → at call answer ≡ d → Linked own.place p call d log
                → IfSome (at c.call answer) (λ act. Contains log_done (on c, act))
            linked same None did had = rw (sym (ap (λ (c : Called Call Answer). at c.call answer) same) ∙ did) tt
            linked same (Some act) did had =
                rw (sym (ap (λ (c : Called Call Answer). at c.call answer) same) ∙ did)
                (more act (subst (λ c. Contains log (c, act)) same had))

            by_party : (b : Bool) → (p == c.party) ≡ b
                → IfSome (cond b its_response None) (λ r. IfSome (at c.call r.1) (λ act. Contains log_done (on c, act)))
            by_party true t = linked (its_own c is (party_is c.party t) e) (at call answer) refl own.linked
            by_party false t = tt

    -- the order in time of two entries stays as the party responds
    in_time : (x y : Entry) → Contains log x → Contains log y → InTime x y → InTime (on_entry x) (on_entry y)
    in_time x y a b had = go y.0.response had
      where
        -- the cases are whether the second of them had responded before
        go : (o : Option (ℕ × Answer)) → IfSome o (λ r. x.0.place ≤ r.0) → IfSome (responded p (length h) answer y.0.party o) (λ r. x.0.place ≤ r.0)
        go (Some r) had = had
        go None had = by_party (p == y.0.party)
          where
            by_party : (b : Bool) → IfSome (cond b its_response None) (λ (r : ℕ × Answer). x.0.place ≤ r.0)
            by_party true = omega (arith, core.earlier x.0 (core.invoked x a))
            by_party false = tt

    longer_then : length h_done ≡ length h + 1
    longer_then = length_push h (Responded p answer)

    -- as a call responds with the answer that says what it has done, the log is that of the longer history
    pub done_core : Core h_done log_done v
    done_core =
        record {
          chain = subst (λ xs. IsChain 0 xs v) (sym (acts_same log)) core.chain;
          invoked = λ z is.
              (let had = mapped_from on_entry log z is in
              subst (λ (z : Entry). Contains (calls_from h_done 0) z.0) had.1.1 (called_then had.0.0 (core.invoked had.0 had.1.0)));
          answered = λ z is. (let had = mapped_from on_entry log z is in subst IsAnswered had.1.1 (answered_then had.0 had.1.0));
          completed = λ z is. (let had = was_called z is in subst (IsLogged log_done) had.1.1 (logged_then had.0 had.1.0));
          once = later_map on_entry Apart Apart log (λ x y a b ne. ne) core.once;
          real_time = later_map on_entry InTime InTime log in_time core.real_time;
          earlier = λ z is.
              (let had = was_called z is in
              let same_place : had.0.place ≡ z.place = ap (λ (c : Called Call Answer). c.place) had.1.1 in
              let more = longer_then in
              omega (arith, core.earlier had.0 had.1.0));
          one = λ c d a b same.
              (let x = was_called c a in
              let y = was_called d b in
              let here : x.0.place ≡ c.place = ap (λ (c : Called Call Answer). c.place) x.1.1 in
              let there : y.0.place ≡ d.place = ap (λ (c : Called Call Answer). c.place) y.1.1 in
              sym x.1.1 ∙ (ap on (core.one x.0 y.0 x.1.0 y.1.0 (here ∙ (same ∙ sym there))) ∙ y.1.1));
        }

    still_none : (q : ℕ) (o : Option (ℕ × Answer)) → responded p (length h) answer q o ≡ None → o ≡ None
    still_none q None e = refl
    still_none q (Some r) e = e

    -- a call that is open once the party has responded is another party's
    not_own : (q : ℕ) → responded p (length h) answer q None ≡ None → q ≢ p
    not_own q none same = go (p == q) refl none
      where
        go : (b : Bool) → (p == q) ≡ b → cond b its_response None ≡ None → ⊥
        go true t e = absurd (cc)
        go false t e = absurd (grind (arith, nat_tests))

    -- the party that has responded has no open call
    pub done_own : Party h_done log_done p None
    done_own z is party none =
        let had = was_called z is in
        let same : had.0.party ≡ z.party = ap (λ (c : Called Call Answer). c.party) had.1.1 in
        let is_none : (on had.0).response ≡ None = ap (λ (c : Called Call Answer). c.response) had.1.1 ∙ none in
        let was = still_none had.0.party had.0.response is_none in
        not_own had.0.party (subst (λ o. responded p (length h) answer had.0.party o ≡ None) was is_none) (same ∙ party)

    other_same : (q : ℕ) → q ≢ p → responded p (length h) answer q None ≡ None
    other_same q ne = let is_other : (p == q) ≡ false = grind (arith, nat_tests) in rw is_other refl

    -- a response of one party leaves what the log says of every other
    pub done_other : (q : ℕ) → q ≢ p → (o : Option (Call × Option Act)) → Party h log q o → Party h_done log_done q o
    done_other q ne None free =
        λ z is party none.
        (let had = was_called z is in
        free had.0 had.1.0 (ap (λ (c : Called Call Answer). c.party) had.1.1 ∙ party)
        (still_none had.0.party had.0.response (ap (λ (c : Called Call Answer). c.response) had.1.1 ∙ none)))
    done_other q ne (Some x) s =
        record {
          place = s.place;
          called = subst (Contains (calls_from h_done 0)) (open_same s.place x.0) (called_then (open_call s.place q x.0) s.called);
          only = λ z is party none.
              (let had = was_called z is in
              sym (ap (λ (c : Called Call Answer). c.place) had.1.1)
              ∙ s.only had.0 had.1.0 (ap (λ (c : Called Call Answer). c.party) had.1.1 ∙ party)
              (still_none had.0.party had.0.response (ap (λ (c : Called Call Answer). c.response) had.1.1 ∙ none)));
          linked = go x.1 s.linked;
        }
      where
        open_same : (k : ℕ) (c : Call) → on (open_call k q c) ≡ open_call k q c
        open_same k c = ap (λ o. record { place = k; party = q; call = c; response = o }) (other_same q ne)

        -- the cases are whether the other's call has acted
        go : (d : Option Act) → Linked s.place q x.0 d log → Linked s.place q x.0 d log_done
        go None linked =
            λ z is same.
            (let had = mapped_from on_entry log z is in linked had.0 had.1.0 (ap (λ (z : Entry). z.0.place) had.1.1 ∙ same))
        go (Some a) linked =
            subst (λ c. Contains log_done (c, a)) (open_same s.place x.0) (mapped on_entry log (open_call s.place q x.0, a) linked)

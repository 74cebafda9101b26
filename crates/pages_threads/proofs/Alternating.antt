-- A party of a page's machine invokes a call only where it has none pending.
use Rattle.std.proofs.Common.{◌≡◌, ℕ, ◌==◌, Bool, true, false, Option, Some, None, List, [], ◌∷◌, ◌++◌, refl, sym, ap, ◌∙◌, fold, arith, is_some}
use Rattle.std.specs.Prelude.{if◌then◌else◌, slice_index, slice_set}
use Rattle.std.proofs.lemmas.Bool.Decides.{nat_tests}
use Rattle.std.proofs.lemmas.List.Sums.{fold-append}
use Rattle.pages.specs.Machine.{Event, Invoked, Responded, Structure, Turn, Begin, Next, World, After, GoOn, Done}
use Rattle.pages.specs.Machine.{begun, gone, opening, stepped, turned, written}

module _ {Call Answer : Type 0} (n : ℕ) where
  -- whether the party has a call pending after these events
  abbrev pub open_after : Bool → Event Call Answer → Bool
  open_after b (Invoked p call) = if p == n then true else b
  open_after b (Responded p answer) = if p == n then false else b

  -- If the party invokes a call by this event, it has none pending (`b` is false).
  abbrev pub Fits : Bool → Event Call Answer → Type 0
  Fits b (Invoked p call) = (p == n) ≡ true → b ≡ false
  Fits b (Responded p answer) = Unit {0}

  -- In these events the party invokes only where it has no call pending; `b` says whether it has
  -- one before them.
  abbrev pub Alternates : Bool → List (Event Call Answer) → Type 0
  Alternates b [] = Unit {0}
  Alternates b (e ∷ es) = Fits b e × Alternates (open_after b e) es

  one_more : (b : Bool) (es : List (Event Call Answer)) (e : Event Call Answer) → Alternates b es → Fits (fold open_after b es) e
      → Alternates b (es ++ e ∷ [])
  one_more b [] e h fits = (fits, tt)
  one_more b (x ∷ es) e h fits = (h.0, one_more (open_after b x) es e h.1 fits)

-- One party (`n`) of a machine of the page: its begins and ends in the history take turns.
module _ {Call Stage Answer : Type 0} (of : Structure Call Stage Answer) (n : ℕ) where
  -- the party begins a call only where it has none pending, and the history says whether it has one pending now
  record Ties (w : World Call Stage Answer) : Type 0 where
    pub alternates : Alternates {Call = Call} {Answer = Answer} n false w.history
    pub tells : fold (open_after {Call = Call} {Answer = Answer} n) false w.history ≡ is_some (w.pending n)

  invokes : (p : ℕ) (b : Bool) (o : Option Stage) (stage : Stage) → b ≡ is_some o
      → (if p == n then true else b) ≡ is_some (if n == p then Some stage else o)
  invokes p b o stage b_is = grind (arith, nat_tests)

  responds : (p : ℕ) (b : Bool) (o : Option Stage) → b ≡ is_some o → (if p == n then false else b) ≡ is_some (if n == p then None else o)
  responds p b o b_is = grind (arith, nat_tests)

  goes_on : (p : ℕ) (b : Bool) (o : Option Stage) (stage : Stage) → b ≡ is_some o → ((n == p) ≡ true → b ≡ true)
      → b ≡ is_some (if n == p then Some stage else o)
  goes_on p b o stage b_is own_then = grind (arith, nat_tests)

  is_it : (p : ℕ) → (p == n) ≡ true → p ≡ n
  is_it p p_is_n = grind (arith, nat_tests)

  is_it_too : (p : ℕ) → (n == p) ≡ true → p ≡ n
  is_it_too p n_is_p = grind (arith, nat_tests)

  open_then : (history : List (Event Call Answer)) (e : Event Call Answer)
      → fold (open_after {Call = Call} {Answer = Answer} n) false (history ++ e ∷ []) ≡ open_after n (fold (open_after n) false history) e
  open_then history e = fold-append (open_after n) false history (e ∷ [])

  -- as a call is invoked the party has one pending, and had none before
  begins : (w : World Call Stage Answer) (p : ℕ) (call : Call) (may : Bool) (o : Option Stage) → w.pending p ≡ o → Ties w → Ties (begun of w p call may o)
  begins w p call true None none h =
      record {
        alternates =
            one_more n false w.history (Invoked p call) h.alternates
            (λ same. h.tells ∙ (ap (λ q. is_some (w.pending q)) (sym (is_it p same)) ∙ ap is_some none));
        tells = open_then w.history (Invoked p call) ∙ invokes p _ (w.pending n) (of.first call) h.tells;
      }
  begins w p call true (Some stage) is h = h
  begins w p call false o is h = h

  -- as a call goes on or responds the party's calls alternate still
  goes : (w : World Call Stage Answer) (p : ℕ) (words : List ℕ) (stage : Stage) (after : After Stage Answer) → w.pending p ≡ Some stage → Ties w
      → Ties (gone of w p words after)
  goes w p words stage (GoOn next) is h =
      record {
        alternates = h.alternates;
        tells =
            goes_on p _ (w.pending n) next h.tells
            (λ same. h.tells ∙ (ap (λ q. is_some (w.pending q)) (sym (is_it_too p same)) ∙ ap is_some is));
      }
  goes w p words stage (Done answer) is h =
      record {
        alternates = one_more n false w.history (Responded p answer) h.alternates tt;
        tells = open_then w.history (Responded p answer) ∙ responds p _ (w.pending n) h.tells;
      }

  -- A step of a party's pending call keeps `Ties`, and a party without one takes no step.
  steps : (w : World Call Stage Answer) (p : ℕ) (o : Option Stage) → w.pending p ≡ o → Ties w → Ties (stepped of w p o)
  steps w p None is h = h
  steps w p (Some stage) is h =
      let old = slice_index w.words (of.does stage).0 in
      goes w p (slice_set w.words (of.does stage).0 (written (of.does stage).1 old)) stage ((of.does stage).2 old) is h

  one_turn : (w : World Call Stage Answer) (turn : Turn Call) → Ties w → Ties (turned of w turn)
  one_turn w (Begin p call) h = begins w p call (of.may p call) (w.pending p) refl h
  one_turn w (Next p) h = steps w p (w.pending p) refl h

  all_turns : (turns : List (Turn Call)) (w : World Call Stage Answer) → Ties w → Ties (fold (turned of) w turns)
  all_turns [] w h = h
  all_turns (turn ∷ turns) w h = all_turns turns (turned of w turn) (one_turn w turn h)

  pub alternates : (turns : List (Turn Call)) → Alternates n false (fold (turned of) (opening of) turns).history
  alternates turns = (all_turns turns (opening of) (record { alternates = tt; tells = refl })).alternates

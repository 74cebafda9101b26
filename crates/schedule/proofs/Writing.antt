-- What a writer holds once one text and then another were written to it, whole or in part.
use Rattle.std.proofs.Common.{◌≡◌, ℕ, List, [], ◌++◌, Option, refl, sym, ap, ◌∙◌, append_assoc, take, drop, take-append-drop, subst, length, get_or, ◌+◌, ◌<◌}
use Rattle.std.specs.Io.KnownBytes.{Appends, Keeps}
use Rattle.std.proofs.KnownBytes.{Appends-trans, Appends-nil, Appends-kept}
use Rattle.std.proofs.lemmas.List.{at_drop_more}
use Rattle.model.specs.declared.event.Event.{Event}
use Rattle.texts.specs.Print.{event_text, events_text}
use Rattle.schedule.specs.Written.{AppendsPart, GrowsBySome}

-- all of a first text was written and a beginning of a second one: together a beginning of both
pub AppendsPart_then : (a b c : Option (List ℕ)) (done text : List ℕ) → Appends a b done → AppendsPart b c text → AppendsPart a c (done ++ text)
AppendsPart_then a b c done text p q = (done ++ q.0, q.1, append_assoc done q.0 q.1 ∙ ap (λ t. done ++ t) q.2, Appends-trans a b c done q.0 p q.3)

-- a beginning of a text is a beginning of a longer one
pub AppendsPart_more : (a b : Option (List ℕ)) (text more : List ℕ) → AppendsPart a b text → AppendsPart a b (text ++ more)
AppendsPart_more a b text more q = (q.0, q.1 ++ more, sym (append_assoc q.0 q.1 more) ∙ ap (λ t. t ++ more) q.2, q.3)

-- a writer that has grown by nothing has grown by a beginning of any text
pub AppendsPart_nil : (a : Option (List ℕ)) (text : List ℕ) → AppendsPart a a text
AppendsPart_nil a text = ([], text, refl, Appends-nil a)

-- a writer that has grown twice has grown by both together
pub grows_then : (a b c : Option (List ℕ)) → GrowsBySome a b → GrowsBySome b c → GrowsBySome a c
grows_then a b c p q = (p.0 ++ q.0, Appends-trans a b c p.0 q.0 p.1 q.1)

-- ---- a write that took `count` bytes of what is left, and one that failed

-- a write that took `count` bytes: what was written so far, and what is left, are still all the bytes
pub wrote_more : (a b c : Option (List ℕ)) (bytes part left new_left : List ℕ) (count : ℕ) → part ++ left ≡ bytes → Appends a b part
    → Appends b c (take count left) → new_left ≡ drop count left → (all : List ℕ) × (all ++ new_left ≡ bytes) × Appends a c all
wrote_more a b c bytes part left new_left count e p q f = (
  part ++ take count left,
  ap (λ t. part ++ take count left ++ t) f ∙ append_assoc part (take count left) (drop count left) ∙ ap (λ t. part ++ t) (take-append-drop count left) ∙ e,
  Appends-trans a b c part (take count left) p q,
)

-- a write that failed: what was written so far, and what is left, are still all the bytes
pub wrote_none : (a b c : Option (List ℕ)) (bytes part left new_left : List ℕ) → part ++ left ≡ bytes → Appends a b part
    → Keeps b c → new_left ≡ left → (all : List ℕ) × (all ++ new_left ≡ bytes) × Appends a c all
wrote_none a b c bytes part left new_left e p q f = (part, ap (λ t. part ++ t) f ∙ e, Appends-kept a b c part p q)

-- all of one text was written, then a beginning of a second one: together a beginning of each whole that
-- begins with both
pub part_within : (a b c : Option (List ℕ)) (written text more whole : List ℕ) → Appends a b written → AppendsPart b c text
    → written ++ text ++ more ≡ whole → AppendsPart a c whole
part_within a b c written text more whole p q e =
    subst (AppendsPart a c) e (AppendsPart_more a c (written ++ text) more (AppendsPart_then a b c written text p q))

-- ---- the lines of events

-- once the line of the next event is written, what is written and the lines that are left are still those of
-- all the events
pub events_more : (events : List (Event ℕ)) (at : ℕ) (event : Event ℕ) (written text : List ℕ) → at < length events
    → written ++ events_text (drop at events) ≡ events_text events → text ≡ event_text (get_or events at event)
    → written ++ text ++ events_text (drop (at + 1) events) ≡ events_text events
events_more events at event written text h e same =
    ap (λ t. written ++ t ++ events_text (drop (at + 1) events)) same
    ∙ append_assoc written (event_text (get_or events at event)) (events_text (drop (at + 1) events))
    ∙ ap (λ t. written ++ t) (sym (at_drop_more events_text events at event h))
    ∙ e

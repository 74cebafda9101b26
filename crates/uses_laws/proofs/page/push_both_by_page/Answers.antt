-- `push_both_by_page` (src/page.rt): its return meets what it ensures (`HasPushedBoth`).
use Rattle.std.proofs.Common.{◌≡◌, ℕ, true, List, [], ◌∷◌, ◌++◌, ap, refl, subst, sym, ◌∙◌}
use Rattle.std.proofs.lemmas.List.Concat.{flat_map-append}
use Rattle.std.specs.List.{AllByRecursion}
use Rattle.model.specs.declared.event.Answer.TheVariants.{Truth}
use Rattle.model.specs.declared.event.Event.{Event}
use Rattle.model.specs.declared.event.Event.TheVariants.{Begun, Finished}
use Rattle.model.specs.declared.event.Start.TheVariants.{Queues}
use Rattle.model.specs.declared.families.queues.QueueStart.TheVariants.{PushIndex}
use Rattle.model.specs.declared.turn.Kind.TheVariants.{IndexQueue}
use Rattle.lock_free.specs.Coding.{one_word}
use Rattle.lock_free.specs.History.{Continues, Knows}
use Rattle.lock_free.specs.HistoryView.View.{View}
use Rattle.lock_free.specs.Queues.Calls.{QueueId, producer_queue, producer_view}
use Rattle.lock_free.specs.Queues.Contracts.{HasPushed}
use Rattle.lock_free.specs.Queues.Item.TheVariants.{Index}
use Rattle.pages.specs.IndexQueue as page
use Rattle.pages.specs.IndexQueueBridge.{by_role}
use Rattle.pages.specs.Machine as machine
use Rattle.pages.specs.RolesBridge.{all_told, told}
use Rattle.pages_threads.specs.Known.{RunsThePage, index_page, turns_of}
use Rattle.pages_threads.specs.Silent.{IsSilent, party_of}
use Rattle.pages_threads.proofs.PushAlone.{IsQuiet, push_alone}
use Rattle.uses_laws.specs.Page.{EndsWithPush, history_of}
use Rattle.uses_laws.proofs.page.push_both_by_page.Goals as goal

-- what the page sees of events that end with this push
call_told : (p value : ℕ) (before during : List (Event ℕ))
    → all_told by_role (before ++ Begun p (Queues (PushIndex value)) ∷ (during ++ Finished p (Queues (PushIndex value)) (Truth true) ∷ []))
    ≡ all_told by_role before
    ++ machine.Invoked 0 (page.Push value) ∷ (all_told by_role during ++ machine.Responded 0 (page.Pushed true) ∷ [])
call_told p value before during =
    let end = Finished p (Queues (PushIndex value)) (Truth true) ∷ [] in
    flat_map-append (told by_role) before (Begun p (Queues (PushIndex value)) ∷ (during ++ end))
    ∙ ap (λ es. all_told by_role before ++ machine.Invoked 0 (page.Push value) ∷ es) (flat_map-append (told by_role) during end)

-- a push of the pass, told in the page's words, ends the history of the page's run
ends : (capacity value : ℕ) (old new : View ℕ) → HasPushed (Index value) true old new → Knows one_word IndexQueue capacity new
    → RunsThePage (index_page capacity) new → EndsWithPush value (history_of capacity (turns_of (index_page capacity) new))
ends capacity value old new push knows runs =
    record {
      before = all_told by_role (old.seen ++ push.called.others);
      during = all_told by_role push.called.during;
      is = sym runs ∙ (ap (all_told by_role) push.called.is ∙ call_told push.by value (old.seen ++ push.called.others) push.called.during);
      alone =
          push_alone capacity new knows runs push.by value (Truth true) (old.seen ++ push.called.others) push.called.during push.called.is
          (subst (AllByRecursion IsQuiet) (sym push.called.during_own) (tt, (tt, tt)));
    }

-- where both pushes were taken, what was seen is a run of the page's machine, which had come to
-- the end of the first push and goes on to the end of the second
pub returns : goal.returns
returns c both =
    let start = c.args.producer.now in
    let old = producer_view start in
    let between = producer_view c.push.new.self in
    let new = producer_view c.push-taken.new.self in
    let capacity = (producer_queue start).capacity in
    let one : HasPushed (Index c.args.first) true old between = (c.push.ensures.pushed c.if-not-push.false).0 in
    let two : HasPushed (Index c.args.second) true between new = (c.push-taken.ensures.pushed both).0 in
    let size : (producer_queue c.push.new.self).capacity ≡ capacity = ap (λ (z : QueueId). z.capacity) c.push.ensures.same.queue in
    let size_then : (producer_queue c.push-taken.new.self).capacity ≡ capacity = ap (λ (z : QueueId). z.capacity) c.push-taken.ensures.same.queue ∙ size in
    let known : Knows one_word IndexQueue capacity between = subst (λ n. Knows one_word IndexQueue n between) size c.history.ensures.run in
    let knows : Knows one_word IndexQueue capacity new = subst (λ n. Knows one_word IndexQueue n new) size_then c.history-2.ensures.run in
    let ran : Continues one_word IndexQueue capacity between new = record { first = c.push-taken.ensures.same.goes.first; knows = knows } in
    let passes = c.passes_run_the_pages.ensures.index capacity in
    let first_run = passes.known between known in
    let goes = passes.later between new ran in
    let turns = turns_of (index_page capacity) between in
    record {
      turns = turns;
      more = goes.more;
      once = ends capacity c.args.first old between one known first_run;
      twice = subst (λ ts. EndsWithPush c.args.second (history_of capacity ts)) goes.is (ends capacity c.args.second between new two knows goes.runs);
      all = goes.runs ∙ ap (history_of capacity) goes.is;
      linearizable = c.passes_are_linearizable.ensures.index capacity new knows;
    }

-- ---- what the definition refuses

-- two pushes, one after the other
abbrev both : List (machine.Event page.Call page.Answer)
both =
    machine.Invoked 0 (page.Push 5) ∷ machine.Responded 0 (page.Pushed true)
    ∷ machine.Invoked 0 (page.Push 6) ∷ machine.Responded 0 (page.Pushed true) ∷ []

-- the history of both pushes ends with the second
with_the_second : EndsWithPush 6 both
with_the_second =
    record {
      before = machine.Invoked 0 (page.Push 5) ∷ machine.Responded 0 (page.Pushed true) ∷ [];
      during = [];
      is = refl;
      alone = tt;
    }

-- the history of both pushes does not end with the response to the push of 5 after which the producer does nothing else
not_first : (before during : List (machine.Event page.Call page.Answer))
    → both ≡ before ++ machine.Invoked 0 (page.Push 5) ∷ (during ++ machine.Responded 0 (page.Pushed true) ∷ []) → IsSilent 0 during → ⊥
not_first [] [] is alone = absurd (cc)
not_first [] (d ∷ during) is alone =
    let same : machine.Responded 0 (page.Pushed true) ≡ d = cc in
    alone.0 (ap party_of (sym same))
not_first (a ∷ []) during is alone = absurd (cc)
not_first (a ∷ b ∷ []) during is alone = absurd (cc)
not_first (a ∷ b ∷ c ∷ []) during is alone = absurd (cc)
not_first (a ∷ b ∷ c ∷ d ∷ []) during is alone = absurd (cc)
not_first (a ∷ b ∷ c ∷ d ∷ e ∷ before) during is alone = absurd (cc)

-- with the first it does not end, whose response stands earlier
not_with_the_first : EndsWithPush 5 both → ⊥
not_with_the_first ends_with_push = not_first ends_with_push.before ends_with_push.during ends_with_push.is ends_with_push.alone

-- `take_nexts` (src/runs.rt): its call of `events_from` meets what that requires, and its return meets what it ensures (`Prints`).
use Rattle.std.proofs.Common.{◌≡◌, ◌≤◌, ◌+◌, ◌++◌, ◌⊎◌, ◌≢◌, inl, inr, true, length, ap, sym, ◌∙◌, subst, arith}
use Rattle.std.proofs.lemmas.List.{length-append}
use Rattle.std.specs.Io.KnownBytes.{Appends}
use Rattle.model.specs.World.{trace_in}
use Rattle.model.specs.Refusals.{is_going}
use Rattle.texts.specs.Print.{events_text}
use Rattle.schedule.specs.Written.{AppendsPart}
use Rattle.schedule.specs.Output.{two_words, world_of}
use Rattle.schedule.proofs.Turns.{events_behind, ran_of, ran_is, all_taken, call_ended, events_failed, refused_prints}
use Rattle.schedule.proofs.runs.take_nexts.Goals as goal
use Rattle.schedule.proofs.runs.take_nexts.Goals.{else-stopped-gt0-via-then-stopped-gt0+else-not-is_going, else-stopped-gt0-via-else-stopped-gt0}

-- its call of `events_from` meets what that requires
pub events_from-requires : goal.events_from-requires
events_from-requires g c =
    let e = c.nexts-stopped.ensures in
    let ran = ran_is c.args.most c.args.party (trace_in two_words c.args.machine.now) (trace_in two_words c.nexts-stopped.new.self)
    c.nexts-stopped.result e.all e.ok e.before e.allowed e.taken in
    let before : length c.events-before.result.now ≡ length c.args.machine.now.events = ap length c.events-before.ensures in
    let now : length c.events.result.now ≡ length c.args.machine.now.events + length ran.told =
    ap length (c.events.ensures ∙ ran.events) ∙ length-append c.args.machine.now.events ran.told in
    omega (arith, before, now)

-- where the answer is `Err`, its return meets what it ensures
pub returns-in-Err : goal.returns-in-Err
returns-in-Err g c =
    let e = c.nexts-stopped.ensures in
    let ran = ran_is c.args.most c.args.party (trace_in two_words c.args.machine.now) (trace_in two_words c.nexts-stopped.new.self)
    c.nexts-stopped.result e.all e.ok e.before e.allowed e.taken in
    let behind = c.events_from.ensures ∙ events_behind c.events-before.result.now c.events.result.now ran.told
    (c.events.ensures ∙ ran.events ∙ ap (λ l. l ++ ran.told) (sym c.events-before.ensures)) in
    let failed =
    events_failed c.args.most ran.taken c.args.party (world_of c.args.machine.now) (world_of c.nexts-stopped.new.self) ran.told _ _ ran.within ran.is
    (subst (λ l. AppendsPart (g.W.Write.contents c.args.writer.now) (g.W.Write.contents c.put_events.new.writer) (events_text l))
    behind c.in-Err.ensures.1) in
    (c.in-Err.ensures.0, failed.0, failed.1)

-- where `stopped` answers `Ok`, its return meets what it ensures
pub returns-in-Ok-stopped : goal.returns-in-Ok-stopped
returns-in-Ok-stopped g c =
    let e = c.in-Ok-stopped.ensures in
    let within : c.args.most ≤ c.args.most = omega arith in
    let ran = ran_of c.args.most c.args.most c.args.party (trace_in two_words c.args.machine.now)
    (trace_in two_words c.nexts-stopped.new.self) within e.all e.ok in
    let behind = c.events_from.ensures ∙ events_behind c.events-before.result.now c.events.result.now ran.0
    (c.events.ensures ∙ ran.1 ∙ ap (λ l. l ++ ran.0) (sym c.events-before.ensures)) in
    all_taken c.args.most c.args.party (world_of c.args.machine.now) (world_of c.nexts-stopped.new.self) ran.0 _ _ ran.2
    (subst (λ l. Appends (g.W.Write.contents c.args.writer.now) (g.W.Write.contents c.put_events.new.writer) (events_text l)) behind c.in-Ok.ensures)

-- where `is_going` answers false, its return meets what it ensures
pub returns-then-not-is_going : goal.returns-then-not-is_going
returns-then-not-is_going g c =
    let e = c.in-Err-stopped.ensures in
    let n = c.in-Err-stopped.stopped.taken in
    let within : n ≤ c.args.most = omega (arith, e.before) in
    let some : n ≢ 0 = λ none. absurd (omega (arith, none, c.if-stopped-gt0.true)) in
    let ran = ran_of c.args.most n c.args.party (trace_in two_words c.args.machine.now)
    (trace_in two_words c.nexts-stopped.new.self) within e.allowed e.taken in
    let behind = c.events_from.ensures ∙ events_behind c.events-before.result.now c.events.result.now ran.0
    (c.events.ensures ∙ ran.1 ∙ ap (λ l. l ++ ran.0) (sym c.events-before.ensures)) in
    call_ended c.args.most n c.args.party (world_of c.args.machine.now) (world_of c.nexts-stopped.new.self) ran.0 _ _ e.before some
    (sym c.if-not-is_going.ensures) ran.2
    (subst (λ l. Appends (g.W.Write.contents c.args.writer.now) (g.W.Write.contents c.put_events.new.writer) (events_text l)) behind c.in-Ok.ensures)

-- where no turn was taken, or the call goes on, the refusal of the next turn is printed
pub returns-else-stopped-gt0 : goal.returns-else-stopped-gt0
returns-else-stopped-gt0 g c =
    let e = c.in-Err-stopped.ensures in
    let n = c.in-Err-stopped.stopped.taken in
    let within : n ≤ c.args.most = omega (arith, e.before) in
    let goes : (n ≡ 0) ⊎ (is_going (world_of c.nexts-stopped.new.self) c.args.party ≡ true) =
    elim c.else-stopped-gt0.branch [
      | else-stopped-gt0-via-then-stopped-gt0+else-not-is_going w ↦ inr (sym w.if-not-is_going.ensures)
      | else-stopped-gt0-via-else-stopped-gt0 w ↦ inl (omega (arith, w.if-stopped-gt0))
    ] in
    let ran = ran_of c.args.most n c.args.party (trace_in two_words c.args.machine.now)
    (trace_in two_words c.nexts-stopped.new.self) within e.allowed e.taken in
    let behind = c.events_from.ensures ∙ events_behind c.events-before.result.now c.events.result.now ran.0
    (c.events.ensures ∙ ran.1 ∙ ap (λ l. l ++ ran.0) (sym c.events-before.ensures)) in
    refused_prints c.args.most n c.args.party (world_of c.args.machine.now) (world_of c.nexts-stopped.new.self) ran.0
    c.in-Err-stopped.stopped.refusal _ (g.W.Write.contents c.put_events.new.writer) _ c.put_refusal.result e.before goes ran.2 e.refused
    (subst (λ l. Appends (g.W.Write.contents c.args.writer.now) (g.W.Write.contents c.put_events.new.writer) (events_text l)) behind c.in-Ok.ensures)
    c.put_refusal.ensures

-- The one party takes both roles of a queue, and gives them back, where a role's calls write nothing but their begin and
-- end.
use Rattle.lock_free_queues.proofs.Names.{◌≡◌, ℕ, ◌<◌, ◌≤◌, ◌==◌, true, None, List, [], ◌∷◌, ◌++◌, slice_index}
use Rattle.lock_free_queues.proofs.Names.{slice_set, refl, ap, subst, ◌∙◌, append_assoc, arith, written, Store}
use Rattle.lock_free_queues.proofs.Names.{Exchange, Role, Producer, Consumer, Truth, Event, Begun, Finished, Queues}
use Rattle.lock_free_queues.proofs.Names.{Flight, QueueKind, Coding, World, machine_kind, takes_role, gives_role}
use Rattle.lock_free_queues.proofs.Names.{HasRole, role_word, acquire_start, release_start, Here}
use Rattle.lock_free_queues.proofs.Names.{begins_any, ends_at, plain_begins, role_begins, MachineLaws, OneMachine}
use Rattle.steps.specs.declared.ask.After.TheVariants.{Done}
use Rattle.model.specs.declared.event.Answer.TheVariants as answers
use Rattle.model.specs.declared.turn.Turn.{Turn}
use Rattle.model.specs.declared.families.queues.QueueStart.TheVariants.{AcquireProducer, AcquireConsumer}
use Rattle.lock_free_queues.specs.Queues.Opened.{taken_roles, given_roles, call_turns, given_turns}
use Rattle.lock_free_queues.proofs.Queues.Grants.{still_has}
use Rattle.lock_free_queues.proofs.Queues.Single.{acquire_named, release_named, acquire_lacks, release_lacks}

-- the step of a role's call writes nothing
abbrev pub QuietRoles : {T : Type 0} → (World T → ℕ → Flight T → ℕ → List (Event T)) → Type 0
QuietRoles {T} effects =
    (role : Role)
    → ((w : World T) (n : ℕ) → effects w 0 ((takes_role role).flight (record { word = role_word role }) tt) n ≡ [])
    × ((w : World T) (n : ℕ) → effects w 0 ((gives_role role).flight (record { word = role_word role }) tt) n ≡ [])

module _ {T : Type 0} {code : Coding T} (kd : QueueKind) {capacity size : ℕ} {effects : World T → ℕ → Flight T → ℕ → List (Event T)}
    (laws : MachineLaws code (machine_kind kd) capacity size effects) (wide : 4 ≤ size) (quiet : QuietRoles effects) where
  -- The machine of the queue, for one party alone.
  abbrev machine : OneMachine T
  machine = record { code = code; kind = machine_kind kd; capacity = capacity; size = size; effects = effects; laws = laws }

  -- party 0 alone has led the machine to these words, by these turns and with these events, and has no
  -- call under way
  abbrev Now : List ℕ → List (Turn T) → List (Event T) → Type 0
  Now words ts es = Here machine words ts es None

  -- The word of a role is a word of the table.
  role_low : (role : Role) → role_word role < size
  role_low Producer = omega arith
  role_low Consumer = omega arith

  -- The events of an acquire of the role.
  abbrev acquired : Role → List (Event T)
  acquired role = Begun 0 (Queues (acquire_start role)) ∷ Finished 0 (Queues (acquire_start role)) (Truth true) ∷ []

  -- The events of a release of the role.
  abbrev released : Role → List (Event T)
  released role = Begun 0 (Queues (release_start role)) ∷ Finished 0 (Queues (release_start role)) answers.Done ∷ []

  module _ (role : Role) {words words' : List ℕ} {ts : List (Turn T)} {es : List (Event T)} (h : Now words ts es) where
    -- a free role is taken by the one party with one step, which writes the begin and the end of the call
    role_taken : slice_index words (role_word role) ≡ 1 → slice_set words (role_word role) 0 ≡ words'
        → Now words' (call_turns ts (Queues (acquire_start role)) 1) (es ++ acquired role)
    role_taken free same =
        let start = Queues (acquire_start role) in
        let begun_so = begins_any machine (takes_role role) (record { word = role_word role }) tt h
        (plain_begins kd (acquire_start role) refl (acquire_named code capacity kd role) (λ o p is. is) (acquire_lacks code capacity role)) in
        let b =
        ends_at machine begun_so (record { a = record { word = role_word role; op = Exchange 1 0 }; low = role_low role; asks = refl; finds = tt })
        {words' = words'} {answer = Truth true} {own = []}
        (ap (λ k. slice_set words (role_word role) (written (Exchange 1 0) k)) free ∙ same)
        (ap (λ k. Done (Truth (k == 1))) free) ((quiet role).0 begun_so.u.world (slice_index words (role_word role))) tt in
        subst (λ zs. Now words' (call_turns ts start 1) zs) (append_assoc es (Begun 0 start ∷ []) (Finished 0 start (Truth true) ∷ [])) b

    -- a role that the one party has is given back with one step, which writes the begin and the end of the call
    role_given : HasRole role es → slice_set words (role_word role) 1 ≡ words'
        → Now words' (call_turns ts (Queues (release_start role)) 1) (es ++ released role)
    role_given has same =
        let start = Queues (release_start role) in
        let begun_so = begins_any machine (gives_role role) (record { word = role_word role }) tt h
        (role_begins kd (release_start role) refl (release_named code capacity kd role) role (λ o p. tt) (release_lacks code capacity role) has) in
        let b =
        ends_at machine begun_so (record { a = record { word = role_word role; op = Store 1 }; low = role_low role; asks = refl; finds = tt })
        {words' = words'} {answer = answers.Done} {own = []} same refl ((quiet role).1 begun_so.u.world (slice_index words (role_word role))) tt in
        subst (λ zs. Now words' (call_turns ts start 1) zs) (append_assoc es (Begun 0 start ∷ []) (Finished 0 start answers.Done ∷ [])) b

  -- two positions, and what stands in the cells
  module _ (write read : ℕ) (cells : List ℕ) where
    -- The words with these flags of both roles.
    abbrev now : ℕ → ℕ → List ℕ
    now producer consumer = write ∷ read ∷ producer ∷ consumer ∷ cells

    -- Party 0 takes both roles, one after the other.
    pub takes_both : Now (now 1 1) [] [] → Now (now 0 0) (call_turns (call_turns [] (Queues AcquireProducer) 1) (Queues AcquireConsumer) 1) taken_roles
    takes_both h = role_taken Consumer (role_taken Producer h refl refl) refl refl

    -- from the moment where the one party has both roles, it gives both back with a step each
    pub gives_both : (ts : List (Turn T)) (es : List (Event T)) → ((role : Role) → HasRole role es) → Now (now 0 0) ts es
        → Now (now 1 1) (given_turns ts) (es ++ given_roles)
    gives_both ts es has h =
        let a = role_given Producer h (has Producer) refl in
        let b = role_given Consumer a (still_has Consumer es (released Producer) refl refl (has Consumer)) refl in
        subst (λ ys. Now (now 1 1) (given_turns ts) ys) (append_assoc es (released Producer) (released Consumer)) b

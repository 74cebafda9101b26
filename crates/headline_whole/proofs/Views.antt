-- In a run whose calls run whole the kept states of a container's parties show what its object says.
use Rattle.std.proofs.Common.{◌≡◌, ◌≢◌, ◌⊎◌, inl, inr, ⊎_elim, ℕ, true, false, Option, Some, None, refl, sym, ap, subst, ◌∙◌}
use Rattle.std.proofs.lemmas.Bool.{cases_eq}
use Rattle.model.specs.declared.families.Flight.{Flight}
use Rattle.model.specs.declared.families.Registry.{Registry}
use Rattle.model.specs.declared.families.Registry.TheVariants as registries
use Rattle.model.specs.declared.turn.Kind.TheVariants as kinds
use Rattle.model.specs.Turns.{IsReached}
use Rattle.model.specs.World.{Trace, capacity_error, flight_in}
use Rattle.headline_whole.specs.Dialogues.{stands_after, story_of, calls_of}
use Rattle.headline_whole.specs.Objects.{Viewed, whole_map}
use Rattle.headline_whole.specs.States.{is_look, kept_view, ShowsViews}
use Rattle.headline_whole.specs.Whole.{RunsWhole}
use Rattle.headline_whole.proofs.ContainerRules as container_rules
use Rattle.headline_whole.proofs.Containers as containers
use Rattle.headline_whole.proofs.Containers.{states_in, Talking, Viewing}
use Rattle.headline_whole.proofs.Courses.{Course, Holding, Rules}
use Rattle.headline_whole.proofs.Looks.{views_in}
use Rattle.headline_whole.proofs.Runs.{NoneUnderWay, OneUnderWay, NoneOrOneUnderWay}
use Rattle.headline_whole.proofs.Turns.{stands_whole}
use Rattle.headline_whole.proofs.Turns as turns

module _ {T : Type 0} where
  -- What the states of the parties show, read from what is kept in either way, is the same.
  as_kept : (kept : Registry T) (p : ℕ) → kept_view kept p ≡ views_in (states_in kept) p
  as_kept (registries.Container dead states) p = refl
  as_kept kept p = refl

  -- A call is not both a look and no look.
  no_look : {A : Type 0} (flight : Option (Flight T)) → is_look flight ≡ true → is_look flight ≡ false → A
  no_look flight looks none = absurd (cc)

  module _ (t : Trace T) (r : IsReached t) (runs : RunsWhole t.events) (is : t.world.kind ≡ kinds.Container) where
    -- How a container goes from call to call.
    abbrev course : Course T
    course = containers.map_course t.world.coding r.coded t.world.capacity

    -- How the words and the registry of a container hold its map.
    abbrev holding : Holding course
    holding = containers.holding t.world.coding r.coded t.world.capacity

    -- The rules of a container's calls, for the coding and capacity of this run.
    rules : Rules course holding t.world.coding kinds.Container t.world.capacity
    rules =
        container_rules.rules t.world.coding r.coded t.world.capacity (subst (λ k. capacity_error k t.world.capacity ≡ None) is r.admitted)

    -- After the run, either no call is under way and the words hold the object, or one call is.
    stands : NoneOrOneUnderWay course holding t (story_of t r)
    stands =
        stands_whole course holding t.world.coding kinds.Container t.world.capacity rules t r
        (record { coding = refl; kind = is; capacity = refl }) runs

    -- The map, with what each party's state shows, after the calls of the run.
    abbrev object : Viewed T
    object = stands_after (whole_map t.world.capacity) (calls_of t r)

    rests : (p : ℕ) → NoneUnderWay course holding t (calls_of t r) → kept_view t.world.kept p ≡ object.views p
    rests p rests_now = as_kept t.world.kept p ∙ ap (λ (s : Viewed T). s.views p) (sym rests_now.answers.stands)

    -- where a call is under way that is no look of the party, its kept state shows what the object says
    goes : (p : ℕ) → is_look (flight_in t.world p) ≡ false → OneUnderWay course holding t (story_of t r) → kept_view t.world.kept p ≡ object.views p
    goes p calm h =
        as_kept t.world.kept p ∙ (go h.under.under ∙ ap (λ (s : Viewed T). s.views p) (sym h.under.is ∙ sym h.answers.stands))
      where
        -- a look that is under way is its party's
        looks : Viewing t.world.coding r.coded t.world.capacity h.under.first_words h.under.holds h.under.views h.party h.call.start
            (story_of t r).told h.flight t.world.words t.world.kept → p ≡ h.party → is_look (flight_in t.world p) ≡ true
        looks viewing same_party =
            ap (λ n. is_look (flight_in t.world n)) same_party
            ∙ (ap is_look
            (turns.under_way course holding t.world.coding kinds.Container t.world.capacity rules t (story_of t r) h)
            ∙ ap (λ f. is_look (Some f)) viewing.flight_is)

        -- the cases are whether the call under way is a look or another
        go : Talking t.world.coding r.coded t.world.capacity h.under.first_words h.under.views h.party h.call.start (story_of t r).told
            h.flight t.world.words t.world.kept
            ⊎ Viewing t.world.coding r.coded t.world.capacity h.under.first_words h.under.holds h.under.views h.party h.call.start
            (story_of t r).told h.flight t.world.words t.world.kept
            → views_in (states_in t.world.kept) p ≡ h.under.views p
        go (inl k) = k.same p
        go (inr k) =
            ⊎_elim (λ (e : p ≡ h.party). no_look (flight_in t.world p) (looks k e) calm)
            (λ (ne : p ≢ h.party). ap (λ kept. views_in (states_in kept) p) k.kept_is ∙ k.looking.others p ne)
            (cases_eq p h.party)

  pub shows_views : (t : Trace T) (r : IsReached t) → RunsWhole t.events → t.world.kind ≡ kinds.Container → ShowsViews t r
  shows_views t r runs of_kind p calm = ⊎_elim (rests t r runs of_kind p) (goes t r runs of_kind p calm) (stands t r runs of_kind)

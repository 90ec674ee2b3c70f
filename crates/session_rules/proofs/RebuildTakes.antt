-- What a rebuild that runs alone takes from each server, and the law on it.
use Rattle.std.proofs.Common.{◌≡◌, ℕ, suc, ◌<◌, ◌≤◌, nat_lt, Bool, true, false, not, List, [], ◌∷◌, length, map, get_or, filter, replicate, Option, None, Some, option_map, unwrap_or, bytes_eq, IfSome, refl, sym, ap, subst, subst₂, ◌∙◌, arith, if◌then◌else◌}
use Rattle.std.specs.Bool.{⊤}
use Rattle.std.proofs.lemmas.Bool.{le-ltb, ltb-true, ne_eqb}
use Rattle.clay_grid.specs.Shape.{Shape, chunk_count, stripe_length}
use Rattle.clay_grid.specs.Limits.{IsGeometry}
use Rattle.store_map.specs.PlainMap.{bytes_of}
use Rattle.store_map.specs.declared.actor.Actor.{Actor}
use Rattle.store_map.specs.declared.call.Rebuild.{Rebuild as RebuildCall}
use Rattle.store_map.specs.declared.reply.Reply.TheVariants as reply
use Rattle.store_core.specs.Lists.{is_among}
use Rattle.store_core.specs.Told.{Seen, Told}
use Rattle.store_core.specs.Note.{note_of_rebuild}
use Rattle.store_core.specs.Act.{Act, Outcome}
use Rattle.store_core.specs.NextAct.{Job, rebuild_job}
use Rattle.store_core.specs.Directory.{Object, Pass, Directory}
use Rattle.store_core.specs.Lookups.{find_object}
use Rattle.store_core.specs.Look.{pin_of, seen_at}
use Rattle.store_core.specs.Conditions.{MayBegin, IsOfRepairer}
use Rattle.store_core.specs.Step.{Places}
use Rattle.store_core.specs.Sound.{HasItsVersions}
use Rattle.run_laws.proofs.Passes.{found_has}
use Rattle.run_laws.specs.State.{Sequel, first_state}
use Rattle.run_laws.specs.Stage.{Aim, Stage}
use Rattle.run_laws.specs.Stages.{first_stage}
use Rattle.run_laws.specs.States.{open_call}
use Rattle.run_laws.specs.StateActs.{act_of_state}
use Rattle.run_laws.specs.CallAfter.{pairs_with}
use Rattle.run_laws.specs.LookAfter.{rebuild_after_look}
use Rattle.session_rules.specs.State.{Stripe, State as Session, numbers_of, stripe_at}
use Rattle.session_rules.specs.declared.session_answer.Answer.{Answer}
use Rattle.session_rules.specs.Gathered.{holds, lacking, asked_first, is_beyond_repair, named}
use Rattle.session_rules.specs.Rebuilds.{place_anew, rebuild, rebuild_one}
use Rattle.session_rules.specs.Heals.{takes_of}
use Rattle.session_rules.specs.Alone.{AtWork, steps}
use Rattle.session_rules.specs.Seen.{version_of, IsSeenAs}
use Rattle.session_rules.specs.Takes.{takes_in, RebuildsAreTaken}
use Rattle.session_rules.proofs.Walks.{at_stage}
use Rattle.session_rules.proofs.Counting.{everyone, kept_first, one_again, as_many, others_hold}
use Rattle.session_rules.proofs.Names.{under, under_objects, under_map, is_some_by}
use Rattle.session_rules.proofs.RebuildAlone.{look_made, there_all}
use Rattle.session_rules.proofs.TakesWalks.{HasItsBytes, Takes, here_takes, before_takes, taken_once, taken_for, chunk_takes}
use Rattle.session_rules.proofs.TakesCounts.{one_lost, more_lost}

cases : {P : Type 0} (b : Bool) → (b ≡ true → P) → (b ≡ false → P) → P
cases true t f = t refl
cases false t f = f refl

module _ (tries : ℕ) (stands : List ℕ) (p : Places) (s : Session) (who : Actor) (number : ℕ) (call : RebuildCall) (h : IsSeenAs p.directory.shape p.directory.max stands p s)
    (begin : MayBegin p.directory who number) (some : 0 < stripe_length p.directory.shape) (parity : 0 < p.directory.shape.parity_count) (less : call.server < chunk_count p.directory.shape)
    (repairer : IsOfRepairer who (note_of_rebuild call)) (geometry : IsGeometry p.directory.shape) where
  abbrev d : Directory
  d = p.directory

  abbrev g : Shape
  g = p.directory.shape

  abbrev job : Job
  job = rebuild_job call

  abbrev start : AtWork
  start = record { call = first_state; places = p }

  -- from the start on to its end it takes so much
  abbrev TakesSo : List ℕ → Type 0
  TakesSo so =
      (made : ℕ) (outcome : Outcome) → act_of_state g tries job (steps g tries who number job made start).call ≡ Act.Finish outcome →
      takes_in g tries who number job made start (replicate (chunk_count g) 0) ≡ so

  module _ (object : Object) (found : find_object call.name d.objects ≡ Some object) (its : HasItsVersions d object) (numbers : List ℕ) (of_name : bytes_of call.name s.numbers ≡ Some numbers)
      (same : object.versions ≡ map (version_of stands) numbers) (within : call.stripe < length numbers) where
    abbrev seen : Seen
    seen = seen_at d object call.stripe

    abbrev stripe : Stripe
    stripe = stripe_at s.stripes numbers call.stripe

    abbrev mine : Pass
    mine = record { actor = who; number = number; note = note_of_rebuild call; pinned = map pin_of (seen ∷ []); drawn = []; base = None; reaped = None }

    abbrev begun : Directory
    begun = record d { passes = mine ∷ d.passes }

    abbrev looked : Directory × Told → AtWork
    looked r = record { call = open_call g (record { pairs = pairs_with [] r.1; at = rebuild_after_look call.server r.1 }); places = record p { directory = r.0 } }

    abbrev others : List ℕ
    others = filter (λ n. not (is_among n (call.server ∷ []))) (everyone g)

    abbrev at : Stage → Places → AtWork
    at stage q = at_stage g tries who number job [] (Aim.Chunk seen call.server) [] (Sequel.Confirm seen call.server) stage q

    abbrev so_far : List ℕ → List ℕ → List ℕ
    so_far gone =
        taken_for g tries who number job [] seen call.server stripe s.epochs p.servers begun (there_all tries stands p s who number call h begin some parity less repairer object found its numbers of_name same within)
        (at Stage.HasBytes) gone

    run : holds stripe call.server ≡ false → is_beyond_repair g stripe ≡ false → Takes g tries who number job p.servers begun start (at Stage.HasBytes) (so_far (lacking stripe others))
    run lacks fixable =
        before_takes g tries who number job p.servers begun start (at (first_stage g (Aim.Chunk seen call.server)) (record p { directory = begun })) (at Stage.HasBytes) (λ takes. takes) (so_far (lacking stripe others))
        (ap looked (look_made tries stands p s who number call h begin some parity less repairer object found its numbers of_name same within)) (λ takes. refl)
        (chunk_takes g tries who number job [] seen call.server stripe s.epochs p.servers begun
        (there_all tries stands p s who number call h begin some parity less repairer object found its numbers of_name same within) (at Stage.HasBytes) less parity lacks fixable
        (λ q now is_begun. subst (λ e. Takes g tries who number job p.servers e (at Stage.HasBytes q) (at Stage.HasBytes) (λ takes. takes)) is_begun (here_takes g tries who number job p.servers q (at Stage.HasBytes)))
        (record p { directory = begun }) refl refl)

    order : holds stripe call.server ≡ false → lacking stripe (asked_first g (call.server ∷ [])) ≡ call.server ∷ lacking stripe others
    order lacks = kept_first (λ n. not (holds stripe n)) call.server others (ap not lacks)

    count : length (lacking stripe (asked_first g (call.server ∷ []))) ≡ length (lacking stripe (everyone g))
    count = as_many g stripe (call.server ∷ []) (one_again g call.server less)

    counted : holds stripe call.server ≡ false → (gone : List ℕ) → lacking stripe others ≡ gone → so_far gone (replicate (chunk_count g) 0) ≡ takes_of g stripe call.server
    counted lacks [] e =
        one_lost g geometry stripe call.server less
        (sym (others_hold g stripe (call.server ∷ []) (one_again g call.server less)) ∙ ap (λ gone. filter (λ n. not (is_among n gone)) (everyone g)) (order lacks ∙ ap (λ gone. call.server ∷ gone) e))
        (sym count ∙ ap length (order lacks) ∙ ap (λ (gone : List ℕ). suc (length gone)) e)
    counted lacks (i ∷ more) e =
        let many : length (lacking stripe (everyone g)) ≡ suc (length (i ∷ more)) = sym count ∙ ap length (order lacks) ∙ ap (λ (gone : List ℕ). suc (length gone)) e in
        more_lost g geometry stripe call.server less (ne_eqb (length (lacking stripe (everyone g))) 1 (λ one. let is : length (lacking stripe (everyone g)) ≡ 1 = one in omega (arith, many, is)))

    pub stripe_taken : holds stripe call.server ≡ false → is_beyond_repair g stripe ≡ false → TakesSo (takes_of g stripe call.server)
    stripe_taken lacks fixable made outcome over =
        let way : Takes g tries who number job p.servers begun start (at Stage.HasBytes) (so_far (lacking stripe others)) = run lacks fixable in
        taken_once g tries who number job made way.made start outcome (replicate (chunk_count g) 0) over (subst (λ (w : AtWork). HasItsBytes g tries who number job w.call.at) (sym way.comes) tt)
        ∙ way.takes (replicate (chunk_count g) 0) ∙ counted lacks (lacking stripe others) refl

  -- ---- by what is found
  abbrev IsRebuilt : Answer → Type 0
  IsRebuilt Answer.Rebuilt = ⊤
  IsRebuilt _ = ⊥

  abbrev chunks_of : List ℕ → Stripe
  chunks_of numbers = stripe_at s.stripes numbers call.stripe

  pub rebuild_taken : (rebuild g call.stripe call.server s (numbers_of call.name s.numbers)).1 ≡ Answer.Rebuilt → TakesSo (takes_of g (chunks_of (numbers_of call.name s.numbers)) call.server)
  rebuild_taken made = by (bytes_of call.name s.numbers) refl (subst IsRebuilt (sym made) tt)
    where
      inside : (numbers : List ℕ) → bytes_of call.name s.numbers ≡ Some numbers → call.stripe < length numbers →
          IsRebuilt (rebuild_one g call.stripe call.server s (get_or numbers call.stripe 0) (chunks_of numbers)).1 → TakesSo (takes_of g (chunks_of numbers) call.server)
      inside numbers e within its = held (holds (chunks_of numbers) call.server) (is_beyond_repair g (chunks_of numbers)) refl refl its
        where
          there : (object : Object) × (find_object call.name d.objects ≡ Some object) × (object.versions ≡ map (version_of stands) numbers)
          there =
              is_some_by (λ (object : Object). object.versions) (find_object call.name d.objects) (map (version_of stands) numbers)
              (sym (under_objects (λ (object : Object). object.versions) call.name d.objects) ∙ ap (under call.name) h.versions ∙ under_map (map (version_of stands)) call.name s.numbers
              ∙ ap (option_map (map (version_of stands))) e)

          versions : HasItsVersions d there.0
          versions =
              let has : IfSome (find_object call.name d.objects) (HasItsVersions d) = found_has (HasItsVersions d) (λ (object : Object). bytes_eq call.name object.name) d.objects h.sound.objects in
              subst (λ f. IfSome f (HasItsVersions d)) there.1 has

          held : (b c : Bool) → holds (chunks_of numbers) call.server ≡ b → is_beyond_repair g (chunks_of numbers) ≡ c →
              IsRebuilt (let r : Session × Answer = if b then (s, Answer.Here) else (if c then (s, Answer.Unavailable call.stripe (named g s.epochs (chunks_of numbers) (chunks_of numbers) (call.server ∷ [])))
              else (place_anew (get_or numbers call.stripe 0) call.server s, Answer.Rebuilt)) in r.1) → TakesSo (takes_of g (chunks_of numbers) call.server)
          held true c has beyond its = absurd its
          held false true has beyond its = absurd its
          held false false has beyond its = stripe_taken there.0 there.1 versions numbers e there.2 within has beyond

      by_place : (numbers : List ℕ) → bytes_of call.name s.numbers ≡ Some numbers → (b : Bool) → nat_lt call.stripe (length numbers) ≡ b →
          IsRebuilt (let r : Session × Answer = if b then rebuild_one g call.stripe call.server s (get_or numbers call.stripe 0) (chunks_of numbers) else (s, Answer.Replied reply.NoSuch) in r.1) → TakesSo (takes_of g (chunks_of numbers) call.server)
      by_place numbers e true less its = inside numbers e (ltb-true call.stripe (length numbers) less) its
      by_place numbers e false less its = absurd its

      by : (f : Option (List ℕ)) → bytes_of call.name s.numbers ≡ f → IsRebuilt (rebuild g call.stripe call.server s (unwrap_or f [])).1 → TakesSo (takes_of g (chunks_of (unwrap_or f [])) call.server)
      by None e its =
          absurd (subst (λ b. IsRebuilt (let r : Session × Answer = if b then rebuild_one g call.stripe call.server s 0 (get_or s.stripes 0 []) else (s, Answer.Replied reply.NoSuch) in r.1)) (le-ltb call.stripe 0 (omega arith)) its)
      by (Some numbers) e its = by_place numbers e (nat_lt call.stripe (length numbers)) refl its

pub rebuilds_are_taken : RebuildsAreTaken
rebuilds_are_taken g max tries stands p s who number call made outcome some geometry h begin repairer less rebuilt over = by h.shape h.most some geometry h less rebuilt over
  where
    by : {g : Shape} {max : ℕ} → p.directory.shape ≡ g → p.directory.max ≡ max → 0 < stripe_length g → IsGeometry g → IsSeenAs g max stands p s → call.server < chunk_count g →
        (rebuild g call.stripe call.server s (numbers_of call.name s.numbers)).1 ≡ Answer.Rebuilt →
        act_of_state g tries (rebuild_job call) (steps g tries who number (rebuild_job call) made (record { call = first_state; places = p })).call ≡ Act.Finish outcome →
        takes_in g tries who number (rebuild_job call) made (record { call = first_state; places = p }) (replicate (chunk_count g) 0) ≡ takes_of g (stripe_at s.stripes (numbers_of call.name s.numbers) call.stripe) call.server
    by same most =
        subst₂ (λ g max. 0 < stripe_length g → IsGeometry g → IsSeenAs g max stands p s → call.server < chunk_count g →
        (rebuild g call.stripe call.server s (numbers_of call.name s.numbers)).1 ≡ Answer.Rebuilt →
        act_of_state g tries (rebuild_job call) (steps g tries who number (rebuild_job call) made (record { call = first_state; places = p })).call ≡ Act.Finish outcome →
        takes_in g tries who number (rebuild_job call) made (record { call = first_state; places = p }) (replicate (chunk_count g) 0) ≡ takes_of g (stripe_at s.stripes (numbers_of call.name s.numbers) call.stripe) call.server)
        same most
        (λ some geometry h less rebuilt over.
        let two : 2 ≤ p.directory.shape.parity_count = geometry.limits.parity_chunks.0 in
        rebuild_taken tries stands p s who number call h begin some (omega (arith, two)) less repairer geometry rebuilt made outcome over)

-- A put that runs alone.
use Rattle.std.proofs.Common.{◌≡◌, ℕ, ◌+◌, ◌≤◌, Bool, true, false, cond, List, [], ◌∷◌, ◌++◌, length, map, find, None, Some, replicate, unwrap_or, refl, sym, ap, ◌∙◌, ◌/◌, if◌then◌else◌, nat_lt}
use Rattle.std.proofs.lemmas.Option.{none-some}
use Rattle.std.proofs.lemmas.Bool.{le-ltb}
use Rattle.clay_grid.specs.Shape.{chunk_count, stripe_length}
use Rattle.store_map.specs.PlainMap.{Objects}
use Rattle.store_map.specs.declared.actor.Actor.{Actor}
use Rattle.store_map.specs.declared.call.Call.TheVariants as call
use Rattle.store_map.specs.declared.content.Content.{Content}
use Rattle.store_map.specs.Content.{content_bytes, content_length}
use Rattle.store_map.specs.PlainMap.{put}
use Rattle.store_map.specs.declared.placement.Placement.{Placement}
use Rattle.store_map.specs.declared.placement.Placement.TheVariants as placement
use Rattle.store_map.specs.declared.reply.Reply.{Reply}
use Rattle.store_map.specs.declared.reply.Reply.TheVariants as reply
use Rattle.store_core.specs.Told.{Told}
use Rattle.store_core.specs.Note.{Note, note_of}
use Rattle.store_core.specs.Act.{Act, DirectoryStep, Outcome}
use Rattle.store_core.specs.NextAct.{Job, job_of}
use Rattle.store_core.specs.Directory.{Object, Pass, Directory}
use Rattle.store_core.specs.Lookups.{same_actor, find_object}
use Rattle.store_core.specs.Look.{stripes_between}
use Rattle.store_core.specs.Looks.{look, look_by}
use Rattle.store_core.specs.PassSteps.{draw, new_version}
use Rattle.store_core.specs.Commit.{commit}
use Rattle.store_core.specs.Lists.{places_of}
use Rattle.store_core.specs.AtDirectory.{at_directory, on_pass}
use Rattle.store_core.specs.Conditions.{MayBegin}
use Rattle.store_core.specs.Server.{Server}
use Rattle.store_core.specs.Step.{Places}
use Rattle.run_laws.specs.State.{State, first_state}
use Rattle.run_laws.specs.States.{prepare_all_state, settle_state, open_call}
use Rattle.run_laws.specs.StateActs.{act_of_state}
use Rattle.run_laws.specs.CallAfter.{pairs_with}
use Rattle.run_laws.specs.CallLaws.{next_call}
use Rattle.run_laws.specs.LookAfter.{put_after_look}
use Rattle.run_laws.specs.WriteAfter.{drawing_after}
use Rattle.session_rules.specs.State.{State as Session}
use Rattle.session_rules.specs.declared.session_answer.Answer.{Answer}
use Rattle.session_rules.specs.Calls.{serve_call, serve_by, is_refusal}
use Rattle.session_rules.specs.Alone.{AtWork, EndsAs}
use Rattle.session_rules.specs.Seen.{IsSeenAs}
use Rattle.session_rules.specs.Outcomes.{outcome_at}
use Rattle.session_rules.specs.Puts.{holding, drawn_by, rows_at, directory_after}
use Rattle.session_rules.proofs.Writes.{Comes, at_state, first, onto, prepare_all, settle_all, open_all}
use Rattle.session_rules.proofs.AtPlaces.{self}

-- none is changed where none is the actor's
pub none_changed : (who : Actor) (change : Pass → Pass) (passes : List Pass) → find (λ pass. same_actor who pass.actor) passes ≡ None → map (λ other. if same_actor who other.actor then change other else other) passes ≡ passes
none_changed who change [] e = refl
none_changed who change (pass ∷ passes) e = by (same_actor who pass.actor) e (none_changed who change passes)
  where
    by : (b : Bool) → cond b (Some pass) (find (λ (pass : Pass). same_actor who pass.actor) passes) ≡ None →
        (find (λ (pass : Pass). same_actor who pass.actor) passes ≡ None → map (λ (other : Pass). if same_actor who other.actor then change other else other) passes ≡ passes) →
        (if b then change pass else pass) ∷ map (λ (other : Pass). if same_actor who other.actor then change other else other) passes ≡ pass ∷ passes
    by true e rest = absurd (none-some pass (sym e))
    by false e rest = ap (λ l. pass ∷ l) (rest e)

module _ (tries : ℕ) (stands : List ℕ) (p : Places) (s : Session) (who : Actor) (number : ℕ) (name : List ℕ) (content : Content)
    (h : IsSeenAs p.directory.shape p.directory.max stands p s) (begin : MayBegin p.directory who number) (fits : content_length content ≤ p.directory.max) where
  abbrev d : Directory
  d = p.directory

  abbrev job : Job
  job = job_of (call.Put name content)

  abbrev note : Note
  note = note_of (call.Put name content)

  -- its pass, before and after it has drawn
  abbrev pub mine : Pass
  mine = record { actor = who; number = number; note = note; pinned = []; drawn = []; base = None; reaped = None }

  abbrev pub versions : List ℕ
  versions = drawn_by who number note p

  abbrev pub ours : Pass
  ours = record mine { drawn = versions }

  abbrev pub begun : Directory
  begun = record d { passes = mine ∷ d.passes }

  abbrev pub drawn : Directory
  drawn = record d { passes = ours ∷ d.passes; versions = d.versions ++ map (new_version mine) (stripes_between d.shape 0 (0 + note.length)) }

  abbrev pub old : Object
  old = unwrap_or (find_object name d.objects) (record { name = name; length = 0; versions = [] })

  abbrev pub committed_to : Directory × Told
  committed_to = commit (rows_at who number note p) ours drawn

  pub fits_so : nat_lt d.max (content_length content) ≡ false
  fits_so = le-ltb d.max (content_length content) fits

  -- the object's length before, if there is one
  pub look_made : (length_now : ℕ) × (look who number note d ≡ (begun, Told.Ready None length_now []))
  look_made = (
    (unwrap_or (find_object name d.objects) (record { name = name; length = 0; versions = [] })).length,
    ap (λ b. look_by who number note d (find_object name d.objects) (if b then Some reply.TooLarge else None)) fits_so,
  )

  pub pass_found : (pass : Pass) → pass.actor ≡ who → (passes : List Pass) → find (λ (other : Pass). same_actor who other.actor) (pass ∷ passes) ≡ Some pass
  pass_found pass its passes =
      ap (λ actor. cond (same_actor who actor) (Some pass) (find (λ (other : Pass). same_actor who other.actor) passes)) its
      ∙ ap (λ b. cond b (Some pass) (find (λ (other : Pass). same_actor who other.actor) passes)) (self who)

  pub draw_made : at_directory false who number DirectoryStep.Draw begun ≡ (drawn, Told.Versions versions)
  draw_made =
      ap (λ f. on_pass draw f begun) (pass_found mine refl d.passes)
      ∙ ap (λ passes. let r : Directory × Told = (record drawn { passes = passes }, Told.Versions versions) in r)
      (ap (λ b. (if b then ours else mine) ∷ map (λ (other : Pass). if same_actor who other.actor then record other { drawn = versions } else other) d.passes) (self who)
      ∙ ap (λ l. ours ∷ l) (none_changed who (λ other. record other { drawn = versions }) d.passes begin.no_pass))

  pub commit_made : at_directory false who number (DirectoryStep.Commit (rows_at who number note p)) drawn ≡ (committed_to.0, Told.Done (length d.points))
  commit_made = ap (λ f. on_pass (commit (rows_at who number note p)) f drawn) (pass_found ours refl d.passes)

  abbrev at : Directory → State → List Server → AtWork
  at e state servers = at_state d.shape tries who number job [] versions e state servers

  abbrev pub held : List Server
  held = holding versions p.servers

  abbrev pub rows : List (List Placement)
  rows = replicate (length versions) (map (λ epoch. placement.At epoch) (map (λ (one : Server). one.epoch) p.servers))

  abbrev over : AtWork
  over = at committed_to.0 (State.Finished (Outcome.Answered (length d.points) reply.Done)) held

  run : Comes p.directory.shape tries who number (job_of (call.Put name content)) (record { call = first_state; places = p })
      (at committed_to.0 (State.Finished (Outcome.Answered (length d.points) reply.Done)) held)
  run =
      first d.shape tries who number job (record { call = first_state; places = p }) (at begun State.Drawing p.servers) over
      (ap (λ (r : Directory × Told). let w : AtWork = record { call = open_call d.shape (record { pairs = pairs_with [] r.1; at = put_after_look r.1 }); places = record p { directory = r.0 } } in w) look_made.1)
      (first d.shape tries who number job (at begun State.Drawing p.servers) (at drawn (prepare_all_state d.shape versions (0 / stripe_length d.shape) versions []) p.servers) over
      (ap (λ (r : Directory × Told). let w : AtWork = record { call = open_call d.shape (record { pairs = []; at = drawing_after d.shape note r.1 }); places = record p { directory = r.0 } } in w) draw_made
      ∙ ap (λ state. at drawn state p.servers) (open_all d.shape versions versions (0 / stripe_length d.shape) []))
      (onto d.shape tries who number job (at drawn (prepare_all_state d.shape versions (0 / stripe_length d.shape) versions []) p.servers) (at drawn (State.Committing versions rows) held) over
      (prepare_all d.shape tries who number job [] versions drawn versions (0 / stripe_length d.shape) [] p.servers (map (λ (one : Server). one.epoch) p.servers) h.present h.servers refl)
      (first d.shape tries who number job (at drawn (State.Committing versions rows) held) (at committed_to.0 (settle_state (length d.points) (places_of (chunk_count d.shape) versions)) held) over
      (ap (λ (r : Directory × Told). let w : AtWork = record { call = next_call d.shape job (record { pairs = []; at = State.Committing versions rows }) r.1; places = record { directory = r.0; servers = held } } in w) commit_made)
      (settle_all d.shape tries who number job [] versions committed_to.0 (length d.points) (places_of (chunk_count d.shape) versions) held))))

  served : (serve_call p.directory.shape p.directory.max (call.Put name content) s).1 ≡ Answer.Replied reply.Done
  served =
      ap (λ b. (let r : Objects × Reply = if b then (s.objects, reply.TooLarge) else (put name (content_bytes content) s.objects, reply.Done) in
      serve_by (is_refusal r.1) p.directory.shape (call.Put name content) s r).1) fits_so

  pub put_ends : EndsAs p.directory.shape tries who number (job_of (call.Put name content)) p (outcome_at (length p.directory.points) (serve_call p.directory.shape p.directory.max (call.Put name content) s).1)
      (record { directory = directory_after who number (note_of (call.Put name content)) p; servers = holding (drawn_by who number (note_of (call.Put name content)) p) p.servers })
  put_ends = record {
    made = run.made;
    over = ap (λ (w : AtWork). act_of_state p.directory.shape tries (job_of (call.Put name content)) w.call) run.comes ∙ ap (λ answer. Act.Finish (outcome_at (length p.directory.points) answer)) (sym served);
    leaves = ap (λ (w : AtWork). w.places) run.comes ∙ ap (λ e. let q : Places = record { directory = e; servers = held } in q) (sym all_steps);
  }
    where
      all_steps : directory_after who number (note_of (call.Put name content)) p ≡ committed_to.0
      all_steps =
          ap (λ (r : Directory × Told). (at_directory false who number (DirectoryStep.Commit (rows_at who number note p)) (at_directory false who number DirectoryStep.Draw r.0).0).0) look_made.1
          ∙ ap (λ (r : Directory × Told). (at_directory false who number (DirectoryStep.Commit (rows_at who number note p)) r.0).0) draw_made
          ∙ ap (λ (r : Directory × Told). r.0) commit_made

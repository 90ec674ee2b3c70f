-- What the directory and the servers answer fits the act of the call.
use Rattle.std.proofs.Common.{◌≡◌, ℕ, Bool, true, false, cond, nat_lt, List, length, Option, None, Some, IfSome, option_map, refl, sym, subst, ◌∙◌, true≢false}
use Rattle.std.specs.List.{list_all}
use Rattle.std.specs.Option.{unwrap_or}
use Rattle.clay_grid.specs.Shape.{Shape}
use Rattle.store_map.specs.declared.actor.Actor.{Actor}
use Rattle.store_map.specs.declared.placement.Placement.{Placement}
use Rattle.store_map.specs.declared.reply.Reply.{Reply}
use Rattle.store_core.specs.Lists.{is_among}
use Rattle.store_core.specs.Told.{Told}
use Rattle.store_core.specs.Note.{Note, Kind, refusal}
use Rattle.store_core.specs.Act.{Act, DirectoryStep, ServerStep, takes_memory, server_takes_memory}
use Rattle.store_core.specs.NextAct.{Job, next_act}
use Rattle.store_core.specs.Directory.{Object, Pass, Directory}
use Rattle.store_core.specs.Lookups.{find_object, pass_of, first_garbage, is_current, last_change}
use Rattle.store_core.specs.Looks.{accept, look_by, look_repair_by}
use Rattle.store_core.specs.PassSteps.{close_pass, draw, end_pass, confirm, repaired}
use Rattle.store_core.specs.Commit.{is_overtaken, commit}
use Rattle.store_core.specs.AtDirectory.{unless_reaped, on_pass, take_garbage, reap, reap_pass, made_at_directory, unless_short, at_directory}
use Rattle.store_core.specs.Server.{Server, gives, install, made_at_server, server_unless_short, at_server}
use Rattle.store_core.specs.Bounds.{touched_count}
use Rattle.run_laws.specs.CallLeft.{pin_bound}
use Rattle.run_laws.specs.Answers.{Answers}
use Rattle.run_laws.specs.AnswersByKind.{MayWrite}
use Rattle.run_laws.specs.FitLaws.{IsCommit, Fits}
use Rattle.run_laws.proofs.Fits.{answers_fit}
use Rattle.run_laws.proofs.States.{LeadsOn}

-- an answer that begins no new list fits every act
pub leading_fits : (kind : Kind) (act : Act) (answer : Told) → LeadsOn answer → Fits kind act answer
leading_fits kind act (Told.Done point) h = absurd h
leading_fits kind act (Told.Changed base newer) h = absurd h
leading_fits kind act Told.Gathered h = absurd h
leading_fits kind act answer h = tt

-- of two answers, by a test
either_leads : {X : Type 0} (b : Bool) (first other : X × Told) → LeadsOn first.1 → LeadsOn other.1 → LeadsOn ((cond b first other).1)
either_leads true first other h k = h
either_leads false first other h k = k

-- ---- at a server
install_leads : (away there : Bool) (version : ℕ) (s : Server) → LeadsOn (install away there version s).1
install_leads true there version s = tt
install_leads false true version s = tt
install_leads false false version s = tt

made_at_server_leads : (step : ServerStep) (s : Server) → LeadsOn (made_at_server step s).1
made_at_server_leads (ServerStep.Prepare version) s = either_leads s.away _ _ tt tt
made_at_server_leads (ServerStep.Settle version) s = tt
made_at_server_leads (ServerStep.Has version) s = either_leads (gives version s) _ _ tt tt
made_at_server_leads (ServerStep.Fetch version layers) s = either_leads (gives version s) _ _ tt tt
made_at_server_leads (ServerStep.Install version) s = install_leads s.away (is_among version s.held) version s
made_at_server_leads (ServerStep.Discard version) s = tt
made_at_server_leads ServerStep.Wipe s = tt
made_at_server_leads ServerStep.Down s = tt
made_at_server_leads ServerStep.Up s = tt

pub server_leads : (short : Bool) (step : ServerStep) (s : Server) → LeadsOn (at_server short step s).1
server_leads short step s = by short (server_takes_memory step)
  where
    by : (short takes : Bool) → LeadsOn (server_unless_short short takes step s).1
    by true true = tt
    by true false = made_at_server_leads step s
    by false takes = made_at_server_leads step s

-- ---- at the directory
-- a look
module _ (who : Actor) (number : ℕ) (note : Note) (d : Directory) where
  accept_leads : (kind : Kind) (object : Object) → LeadsOn (accept who number note d kind object).1
  accept_leads Kind.Put object = tt
  accept_leads Kind.Write object = tt
  accept_leads Kind.Get object = tt
  accept_leads Kind.ReadAt object = tt
  accept_leads Kind.Stat object = tt
  accept_leads Kind.Delete object = tt
  accept_leads Kind.Rebuild object = tt

  look_leads : (found : Option Object) (refused : Option Reply) → LeadsOn (look_by who number note d found refused).1
  look_leads found (Some reply) = tt
  look_leads None None = accept_leads note.kind _
  look_leads (Some object) None = accept_leads note.kind object

  repair_leads : (found : Option Object) → LeadsOn (look_repair_by who number note d found).1
  repair_leads None = tt
  repair_leads (Some object) = either_leads (nat_lt note.offset (length object.versions)) _ _ tt tt

-- a step on the actor's pass
pass_leads : (step : Pass → Directory → Directory × Told) → ((pass : Pass) (d : Directory) → LeadsOn (step pass d).1) → (found : Option Pass) (d : Directory) → LeadsOn (on_pass step found d).1
pass_leads step leads None d = tt
pass_leads step leads (Some pass) d = by pass.reaped
  where
    by : (reaped : Option ℕ) → LeadsOn (unless_reaped step pass reaped d).1
    by None = leads pass d
    by (Some point) = tt

confirm_leads : (pass : Pass) (d : Directory) → LeadsOn (confirm pass d).1
confirm_leads pass d =
    either_leads (list_all (λ pin. is_current d pin.version) pass.pinned) (d, Told.Current) (close_pass pass d, Told.Superseded (unwrap_or (last_change pass.note.name d.points) 0)) tt tt

-- the sweeper's and the operator's steps, which no call makes
garbage_leads : (found : Option ℕ) (d : Directory) → LeadsOn (take_garbage found d).1
garbage_leads None d = tt
garbage_leads (Some version) d = tt

reap_leads : (found : Option Pass) (d : Directory) → LeadsOn (reap found d).1
reap_leads None d = tt
reap_leads (Some pass) d = by pass.reaped
  where
    by : (reaped : Option ℕ) → LeadsOn (reap_pass pass reaped d).1
    by None = tt
    by (Some point) = tt

-- all steps but a commit
made_leads : (who : Actor) (number : ℕ) (step : DirectoryStep) (d : Directory) → (IsCommit (Act.AtDirectory step) → ⊥) → LeadsOn (made_at_directory who number step d).1
made_leads who number (DirectoryStep.Look note) d other = look_leads who number note d (find_object note.name d.objects) (refusal d.max note (option_map (λ object. object.length) (find_object note.name d.objects)))
made_leads who number (DirectoryStep.LookRepair note) d other = repair_leads who number note d (find_object note.name d.objects)
made_leads who number DirectoryStep.Draw d other = pass_leads draw (λ pass before. tt) (pass_of who d) d
made_leads who number (DirectoryStep.Commit placed) d other = absurd (other tt)
made_leads who number DirectoryStep.End d other = pass_leads end_pass (λ pass before. tt) (pass_of who d) d
made_leads who number DirectoryStep.Confirm d other = pass_leads confirm confirm_leads (pass_of who d) d
made_leads who number (DirectoryStep.Repaired server epoch) d other = pass_leads (repaired server epoch) (λ pass before. tt) (pass_of who d) d
made_leads who number DirectoryStep.NextGarbage d other = garbage_leads (first_garbage d) d
made_leads who number (DirectoryStep.Swept version) d other = tt
made_leads who number (DirectoryStep.Reap reaped) d other = reap_leads (pass_of reaped d) d

-- only a write's commit finds itself overtaken
overtaken_writes : (kind : Kind) (base last : Option ℕ) → is_overtaken kind base last ≡ true → kind ≡ Kind.Write
overtaken_writes Kind.Write base last e = refl
overtaken_writes Kind.Put base last e = absurd (true≢false (sym e))
overtaken_writes Kind.Get base last e = absurd (true≢false (sym e))
overtaken_writes Kind.ReadAt base last e = absurd (true≢false (sym e))
overtaken_writes Kind.Stat base last e = absurd (true≢false (sym e))
overtaken_writes Kind.Delete base last e = absurd (true≢false (sym e))
overtaken_writes Kind.Rebuild base last e = absurd (true≢false (sym e))

module _ (kind : Kind) (writes : MayWrite kind) (placed : List (List Placement)) where
  commit_fits : (pass : Pass) (d : Directory) → pass.note.kind ≡ kind → Fits kind (Act.AtDirectory (DirectoryStep.Commit placed)) (commit placed pass d).1
  commit_fits pass d same =
      let last : Option ℕ = last_change pass.note.name d.points in
      by (is_overtaken pass.note.kind pass.base last) (λ e. sym same ∙ overtaken_writes pass.note.kind pass.base last e) _ _ _ _ _
    where
      by : (b : Bool) → (b ≡ true → kind ≡ Kind.Write) → (base newer point : ℕ) (changed done : Directory)
          → Fits kind (Act.AtDirectory (DirectoryStep.Commit placed)) ((cond {A = Directory × Told} b (changed, Told.Changed base newer) (done, Told.Done point)).1)
      by true w base newer point changed done = (tt, w refl)
      by false w base newer point changed done = (tt, writes)

  by_pass : (found : Option Pass) (d : Directory) → IfSome found (λ pass. pass.note.kind ≡ kind) → Fits kind (Act.AtDirectory (DirectoryStep.Commit placed)) (on_pass (commit placed) found d).1
  by_pass None d its = tt
  by_pass (Some pass) d its = by_reap pass.reaped
    where
      by_reap : (reaped : Option ℕ) → Fits kind (Act.AtDirectory (DirectoryStep.Commit placed)) (unless_reaped (commit placed) pass reaped d).1
      by_reap None = commit_fits pass d its
      by_reap (Some point) = tt

-- of all steps
module _ (g : Shape) (tries : ℕ) (job : Job) (told : List Told) where
  -- a call that commits is a put or a write
  commit_writes : (placed : List (List Placement)) → next_act g tries job told ≡ Act.AtDirectory (DirectoryStep.Commit placed) → MayWrite job.note.kind
  commit_writes placed e =
      let pins : ℕ = pin_bound g 0 job.note in
      let touched : ℕ = touched_count g job.note in
      let answered : Answers pins touched (next_act g tries job told) (Told.Done 0) = subst (λ (act : Act). Answers pins touched act (Told.Done 0)) (sym e) tt in
      (answers_fit.next g 0 tries job told (Told.Done 0) (answered, tt)).1

  made_fits : (who : Actor) (number : ℕ) (step : DirectoryStep) (d : Directory) → next_act g tries job told ≡ Act.AtDirectory step
      → IfSome (pass_of who d) (λ pass. pass.note.kind ≡ job.note.kind) → Fits job.note.kind (Act.AtDirectory step) (made_at_directory who number step d).1
  made_fits who number (DirectoryStep.Commit placed) d e its = by_pass job.note.kind (commit_writes placed e) placed (pass_of who d) d its
  made_fits who number step d e its = leading_fits job.note.kind (Act.AtDirectory step) (made_at_directory who number step d).1 (made_leads who number step d (λ h. h))

  -- want of memory too
  pub directory_fits : (short : Bool) (who : Actor) (number : ℕ) (step : DirectoryStep) (d : Directory) → next_act g tries job told ≡ Act.AtDirectory step
      → IfSome (pass_of who d) (λ pass. pass.note.kind ≡ job.note.kind) → Fits job.note.kind (Act.AtDirectory step) (at_directory short who number step d).1
  directory_fits short who number step d e its = by short (takes_memory step)
    where
      by : (short takes : Bool) → Fits job.note.kind (Act.AtDirectory step) (unless_short short takes who number step d).1
      by true true = tt
      by true false = made_fits who number step d e its
      by false takes = made_fits who number step d e its

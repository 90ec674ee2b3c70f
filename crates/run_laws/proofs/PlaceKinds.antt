-- Each place answers a call by its kind.
use Rattle.std.proofs.Common.{◌≡◌, ℕ, Bool, true, false, nat_lt, List, [], ◌∷◌, length, Option, None, Some, option_map, unwrap_or, refl, sym, subst, true≢false}
use Rattle.std.specs.Prelude.{IsTrue}
use Rattle.std.specs.List.{list_all}
use Rattle.std.proofs.lemmas.Bool.{cond_both, false≢true}
use Rattle.store_map.specs.declared.placement.Placement.TheVariants as placement
use Rattle.store_map.specs.declared.placement.Placement.{Placement}
use Rattle.store_map.specs.declared.actor.Actor.{Actor}
use Rattle.store_map.specs.declared.reply.Reply.{Reply}
use Rattle.store_core.specs.Lists.{is_among}
use Rattle.store_core.specs.Told.{Told}
use Rattle.store_core.specs.Note.{Note, Kind, refusal}
use Rattle.store_core.specs.Act.{DirectoryStep, ServerStep}
use Rattle.run_laws.specs.AnswersByKind.{FitsKind, PlacesAnswerByKind}
use Rattle.store_core.specs.Directory.{Object, Pass, Directory}
use Rattle.store_core.specs.Lookups.{find_object, pass_of, last_change, is_current}
use Rattle.store_core.specs.Look.{seen_at, begin_pass}
use Rattle.store_core.specs.Looks.{accept, look_by, look_repair_by}
use Rattle.store_core.specs.PassSteps.{close_pass, give_up_drawn, draw, end_pass, confirm, repaired}
use Rattle.store_core.specs.Commit.{is_overtaken, commit_object, commit}
use Rattle.store_core.specs.AtDirectory.{unless_reaped, on_pass, at_directory}
use Rattle.store_core.specs.Server.{Server, hold, raised_by, at_server, gives, found_at, install}
use Rattle.run_laws.specs.AnswerLaws.{is_on_pass}

-- ---- the looks
module _ (who : Actor) (number : ℕ) (note : Note) (d : Directory) where
  accept_fits : (kind : Kind) (object : Object) → FitsKind kind (accept who number note d kind object).1
  accept_fits Kind.Put object = tt
  accept_fits Kind.Write object = tt
  accept_fits Kind.Stat object = tt
  accept_fits Kind.Delete object = tt
  accept_fits Kind.Get object = tt
  accept_fits Kind.ReadAt object = tt
  accept_fits Kind.Rebuild object = tt

  look_fits : (found : Option Object) (refused : Option Reply) → FitsKind note.kind (look_by who number note d found refused).1
  look_fits found (Some reply) = tt
  look_fits None None = accept_fits note.kind _
  look_fits (Some object) None = accept_fits note.kind object

  look_repair_fits : (kind : Kind) (found : Option Object) → FitsKind kind (look_repair_by who number note d found).1
  look_repair_fits kind None = tt
  look_repair_fits kind (Some object) =
      cond_both {A = Directory × Told} (nat_lt note.offset (length object.versions))
      (begin_pass who number note (seen_at d object note.offset ∷ []) None d, Told.PinnedStripe (seen_at d object note.offset)) (d, Told.NoSuch)
      (λ r. FitsKind kind r.1) (λ _. tt) (λ _. tt)

look_answers : (short : Bool) (who : Actor) (number : ℕ) (note : Note) (d : Directory) → FitsKind note.kind (at_directory short who number (DirectoryStep.Look note) d).1
look_answers true who number note d = tt
look_answers false who number note d =
    look_fits who number note d (find_object note.name d.objects) (refusal d.max note (option_map (λ object. object.length) (find_object note.name d.objects)))

look_repair_answers : (short : Bool) (who : Actor) (number : ℕ) (note : Note) (d : Directory) (kind : Kind)
    → FitsKind kind (at_directory short who number (DirectoryStep.LookRepair note) d).1
look_repair_answers true who number note d kind = tt
look_repair_answers false who number note d kind = look_repair_fits who number note d kind (find_object note.name d.objects)

-- ---- the steps on a pass
overtaken_writes : (kind : Kind) (base last : Option ℕ) → is_overtaken kind base last ≡ true → kind ≡ Kind.Write
overtaken_writes Kind.Write base last e = refl
overtaken_writes kind base last e = absurd (false≢true e)

commit_fits : (placed : List (List Placement)) (pass : Pass) (d : Directory) → FitsKind pass.note.kind (commit placed pass d).1
commit_fits placed pass d =
    cond_both {A = Directory × Told} (is_overtaken pass.note.kind pass.base (last_change pass.note.name d.points))
    (close_pass pass (give_up_drawn pass d), Told.Changed (unwrap_or pass.base 0) (unwrap_or (last_change pass.note.name d.points) 0))
    (commit_object placed pass (unwrap_or (find_object pass.note.name d.objects) (record { name = pass.note.name; length = 0; versions = [] })) d)
    (λ r. FitsKind pass.note.kind r.1) (overtaken_writes pass.note.kind pass.base (last_change pass.note.name d.points)) (λ _. tt)

confirm_fits : (kind : Kind) (pass : Pass) (d : Directory) → FitsKind kind (confirm pass d).1
confirm_fits kind pass d =
    cond_both {A = Directory × Told} (list_all (λ pin. is_current d pin.version) pass.pinned)
    (d, Told.Current) (close_pass pass d, Told.Superseded (unwrap_or (last_change pass.note.name d.points) 0))
    (λ r. FitsKind kind r.1) (λ _. tt) (λ _. tt)

module _ (kind : Kind) (made : Pass → Directory → Directory × Told) (d : Directory) (pass : Pass) (fits : FitsKind kind (made pass d).1) where
  unless_fits : (point : Option ℕ) → FitsKind kind (unless_reaped made pass point d).1
  unless_fits None = fits
  unless_fits (Some point) = tt

  on_fits : (found : Option Pass) → found ≡ Some pass → FitsKind kind (on_pass made found d).1
  on_fits found e = subst (λ (f : Option Pass). FitsKind kind (on_pass made f d).1) (sym e) (unless_fits pass.reaped)

pass_answers : (short : Bool) (who : Actor) (number : ℕ) (step : DirectoryStep) (d : Directory) (pass : Pass) → pass_of who d ≡ Some pass → IsTrue (is_on_pass step)
    → FitsKind pass.note.kind (at_directory short who number step d).1
pass_answers true who number DirectoryStep.Draw d pass e on = tt
pass_answers false who number DirectoryStep.Draw d pass e on = on_fits pass.note.kind draw d pass tt (pass_of who d) e
pass_answers true who number (DirectoryStep.Commit placed) d pass e on = on_fits pass.note.kind (commit placed) d pass (commit_fits placed pass d) (pass_of who d) e
pass_answers false who number (DirectoryStep.Commit placed) d pass e on = on_fits pass.note.kind (commit placed) d pass (commit_fits placed pass d) (pass_of who d) e
pass_answers true who number DirectoryStep.End d pass e on = on_fits pass.note.kind end_pass d pass tt (pass_of who d) e
pass_answers false who number DirectoryStep.End d pass e on = on_fits pass.note.kind end_pass d pass tt (pass_of who d) e
pass_answers true who number DirectoryStep.Confirm d pass e on = on_fits pass.note.kind confirm d pass (confirm_fits pass.note.kind pass d) (pass_of who d) e
pass_answers false who number DirectoryStep.Confirm d pass e on = on_fits pass.note.kind confirm d pass (confirm_fits pass.note.kind pass d) (pass_of who d) e
pass_answers true who number (DirectoryStep.Repaired server epoch) d pass e on = on_fits pass.note.kind (repaired server epoch) d pass tt (pass_of who d) e
pass_answers false who number (DirectoryStep.Repaired server epoch) d pass e on = on_fits pass.note.kind (repaired server epoch) d pass tt (pass_of who d) e
pass_answers short who number step d pass e on = absurd (true≢false (sym on))

-- ---- a server
module _ (s : Server) (kind : Kind) where
  abbrev ServerFits : Bool → ServerStep → Type 0
  ServerFits short step = FitsKind kind (at_server short step s).1

  has_fits : (version : ℕ) → ServerFits false (ServerStep.Has version)
  has_fits version = cond_both {A = Server × Told} (gives version s) (s, Told.Here) (s, Told.Missing (found_at s)) (λ r. FitsKind kind r.1) (λ _. tt) (λ _. tt)

  server_fits : (short : Bool) (step : ServerStep) → ServerFits short step
  server_fits true (ServerStep.Has version) = has_fits version
  server_fits false (ServerStep.Has version) = has_fits version
  server_fits false (ServerStep.Fetch version layers) =
      cond_both {A = Server × Told} (gives version s) (record s { taken = raised_by (length layers) s.taken }, Told.Given (length layers)) (s, Told.Missing (found_at s))
      (λ r. FitsKind kind r.1) (λ _. tt) (λ _. tt)
  server_fits false (ServerStep.Prepare version) =
      cond_both {A = Server × Told} s.away (s, Told.Prepared (placement.Skipped s.downs)) (record s { held = hold version s.held }, Told.Prepared (placement.At s.epoch))
      (λ r. FitsKind kind r.1) (λ _. tt) (λ _. tt)
  server_fits false (ServerStep.Install version) = by s.away (is_among version s.held)
    where
      by : (away there : Bool) → FitsKind kind (install away there version s).1
      by true there = tt
      by false true = tt
      by false false = tt
  server_fits true step = tt
  server_fits false step = tt

pub places_answer_by_kind : PlacesAnswerByKind
places_answer_by_kind =
    record { look = look_answers; look_repair = look_repair_answers; on_pass = pass_answers; server = λ short step s kind. server_fits s kind short step }

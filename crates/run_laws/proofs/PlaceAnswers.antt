-- Each step at a place has an answer of its own kind.
use Rattle.std.proofs.Common.{◌≡◌, ℕ, ◌<◌, ◌≤◌, Bool, true, false, nat_lt, List, [], ◌∷◌, length, Option, None, Some, option_map, unwrap_or, refl, sym, subst, ◌∙◌, arith, true≢false}
use Rattle.std.specs.Prelude.{All, IfSome, IsTrue, find}
use Rattle.std.proofs.lemmas.Bool.{cond_both}
use Rattle.std.proofs.lemmas.List.{length-map}
use Rattle.std.proofs.lemmas.List.FromFn.{length-range_with_len}
use Rattle.std.proofs.lemmas.List.Elements.{All-head, All-tail}
use Rattle.std.specs.List.{list_all, range_with_len}
use Rattle.store_map.specs.declared.placement.Placement.TheVariants as placement
use Rattle.clay_grid.specs.Shape.{stripe_length}
use Rattle.store_map.specs.declared.actor.Actor.{Actor}
use Rattle.store_map.specs.declared.reply.Reply.{Reply}
use Rattle.store_map.specs.declared.placement.Placement.{Placement}
use Rattle.store_core.specs.Lists.{is_among}
use Rattle.store_core.specs.Told.{Told}
use Rattle.store_core.specs.Note.{Note, Kind, refusal}
use Rattle.store_core.specs.Act.{DirectoryStep, ServerStep}
use Rattle.run_laws.specs.Answers.{DirectoryAnswers, ServerAnswers}
use Rattle.store_core.specs.Bounds.{touched_count}
use Rattle.run_laws.specs.CallLeft.{pin_bound}
use Rattle.store_core.specs.Directory.{Object, Pass, Directory}
use Rattle.store_core.specs.Lookups.{find_object, pass_of, last_change, is_current}
use Rattle.store_core.specs.Look.{pinned_by, seen_at, begin_pass}
use Rattle.store_core.specs.Looks.{seen_of, accept, look_by, look_repair_by}
use Rattle.store_core.specs.PassSteps.{close_pass, give_up_drawn, touched, draw, end_pass, confirm, repaired}
use Rattle.store_core.specs.Commit.{is_overtaken, commit_object, commit}
use Rattle.store_core.specs.AtDirectory.{unless_reaped, on_pass, unless_short, made_at_directory, at_directory}
use Rattle.store_core.specs.Server.{Server, hold, raised_by, at_server, gives, found_at, install}
use Rattle.run_laws.specs.AnswerLaws.{is_on_pass, is_of_call, AreWithinMax, PlacesAnswer}
use Rattle.run_laws.proofs.Stripes.{pins_few}
use Rattle.store_core.proofs.TouchedStripes.{count_touched}

-- ---- a client's look
found_holds : {X : Type 0} (P : X → Type 0) (test : X → Bool) (xs : List X) → All P xs → IfSome (find test xs) P
found_holds P test [] all = tt
found_holds P test (x ∷ xs) all =
    cond_both {A = Option _} (test x) (Some x) (find test xs) (λ found. IfSome found P) (λ _. All-head P x xs all) (λ _. found_holds P test xs (All-tail P x xs all))

module _ (who : Actor) (number : ℕ) (note : Note) (d : Directory) (some : 0 < stripe_length d.shape) where
  abbrev LookAnswer : Told → Type 0
  LookAnswer answer = DirectoryAnswers (pin_bound d.shape d.max note) (touched_count d.shape note) (DirectoryStep.Look note) answer

  seen_few : (object : Object) → object.length ≤ d.max → length (seen_of who number note d object) ≤ pin_bound d.shape d.max note
  seen_few object short =
      subst (λ n. n ≤ pin_bound d.shape d.max note) (sym (length-map (pinned_by note.kind d.shape note object.length) (seen_at d object)))
      (pins_few d.shape some note.kind d.max note object.length refl short)

  accept_answers : (kind : Kind) (object : Object) → object.length ≤ d.max → LookAnswer (accept who number note d kind object).1
  accept_answers Kind.Put object short = omega arith
  accept_answers Kind.Write object short = seen_few object short
  accept_answers Kind.Stat object short = tt
  accept_answers Kind.Delete object short = tt
  accept_answers _ object short = seen_few object short

  look_answers : (found : Option Object) (refused : Option Reply) → IfSome found (λ object. object.length ≤ d.max) → LookAnswer (look_by who number note d found refused).1
  look_answers found (Some reply) short = tt
  look_answers None None short = accept_answers note.kind _ (omega arith)
  look_answers (Some object) None short = accept_answers note.kind object short

look_answered : (short : Bool) (who : Actor) (number : ℕ) (note : Note) (d : Directory) → 0 < stripe_length d.shape → AreWithinMax d
    → DirectoryAnswers (pin_bound d.shape d.max note) (touched_count d.shape note) (DirectoryStep.Look note) (at_directory short who number (DirectoryStep.Look note) d).1
look_answered true who number note d some all = tt
look_answered false who number note d some all =
    look_answers who number note d some (find_object note.name d.objects) (refusal d.max note (option_map (λ object. object.length) (find_object note.name d.objects)))
    (found_holds (λ (object : Object). object.length ≤ d.max) _ d.objects all)

-- ---- a repairer's look
repair_answers : (who : Actor) (number : ℕ) (note : Note) (d : Directory) (found : Option Object)
    → DirectoryAnswers 1 0 (DirectoryStep.LookRepair note) (look_repair_by who number note d found).1
repair_answers who number note d None = tt
repair_answers who number note d (Some object) =
    cond_both {A = Directory × Told} (nat_lt note.offset (length object.versions))
    (begin_pass who number note (seen_at d object note.offset ∷ []) None d, Told.PinnedStripe (seen_at d object note.offset)) (d, Told.NoSuch)
    (λ r. DirectoryAnswers 1 0 (DirectoryStep.LookRepair note) r.1) (λ _. tt) (λ _. tt)

repair_answered : (short : Bool) (who : Actor) (number : ℕ) (note : Note) (d : Directory)
    → DirectoryAnswers 1 0 (DirectoryStep.LookRepair note) (at_directory short who number (DirectoryStep.LookRepair note) d).1
repair_answered true who number note d = tt
repair_answered false who number note d = repair_answers who number note d (find_object note.name d.objects)

-- ---- a step on a pass
module _ (pins count : ℕ) (step : DirectoryStep) (made : Pass → Directory → Directory × Told) (d : Directory) (pass : Pass)
    (reaped : (point : ℕ) → DirectoryAnswers pins count step (Told.Reaped point)) (answered : DirectoryAnswers pins count step (made pass d).1) where
  unless_answers : (point : Option ℕ) → DirectoryAnswers pins count step (unless_reaped made pass point d).1
  unless_answers None = answered
  unless_answers (Some point) = reaped point

  on_answers : (found : Option Pass) → found ≡ Some pass → DirectoryAnswers pins count step (on_pass made found d).1
  on_answers found e = subst (λ (f : Option Pass). DirectoryAnswers pins count step (on_pass made f d).1) (sym e) (unless_answers pass.reaped)

commit_answers : (pins count : ℕ) (placed : List (List Placement)) (pass : Pass) (d : Directory) → DirectoryAnswers pins count (DirectoryStep.Commit placed) (commit placed pass d).1
commit_answers pins count placed pass d =
    cond_both {A = Directory × Told} (is_overtaken pass.note.kind pass.base (last_change pass.note.name d.points))
    (close_pass pass (give_up_drawn pass d), Told.Changed (unwrap_or pass.base 0) (unwrap_or (last_change pass.note.name d.points) 0))
    (commit_object placed pass (unwrap_or (find_object pass.note.name d.objects) (record { name = pass.note.name; length = 0; versions = [] })) d)
    (λ r. DirectoryAnswers pins count (DirectoryStep.Commit placed) r.1) (λ _. tt) (λ _. tt)

confirm_answers : (pins count : ℕ) (pass : Pass) (d : Directory) → DirectoryAnswers pins count DirectoryStep.Confirm (confirm pass d).1
confirm_answers pins count pass d =
    cond_both {A = Directory × Told} (list_all (λ pin. is_current d pin.version) pass.pinned)
    (d, Told.Current) (close_pass pass d, Told.Superseded (unwrap_or (last_change pass.note.name d.points) 0))
    (λ r. DirectoryAnswers pins count DirectoryStep.Confirm r.1) (λ _. tt) (λ _. tt)

draw_answers : (pins : ℕ) (pass : Pass) (d : Directory) → DirectoryAnswers pins (touched_count d.shape pass.note) DirectoryStep.Draw (draw pass d).1
draw_answers pins pass d =
    let counted : length (range_with_len (length d.versions) (length (touched d pass.note))) ≡ touched_count d.shape pass.note =
    length-range_with_len (length d.versions) (length (touched d pass.note)) ∙ count_touched d.shape pass.note in
    omega (arith, counted)

-- a step that takes no memory hears no want of it
ignored : (short : Bool) (who : Actor) (number : ℕ) (step : DirectoryStep) (d : Directory) → unless_short short false who number step d ≡ made_at_directory who number step d
ignored true who number step d = refl
ignored false who number step d = refl

pass_answered : (short : Bool) (who : Actor) (number : ℕ) (step : DirectoryStep) (d : Directory) (pass : Pass) (pins : ℕ) → pass_of who d ≡ Some pass → IsTrue (is_on_pass step)
    → DirectoryAnswers pins (touched_count d.shape pass.note) step (at_directory short who number step d).1
pass_answered true who number DirectoryStep.Draw d pass pins e on = tt
pass_answered false who number DirectoryStep.Draw d pass pins e on =
    on_answers pins (touched_count d.shape pass.note) DirectoryStep.Draw draw d pass (λ point. tt) (draw_answers pins pass d) (pass_of who d) e
pass_answered short who number (DirectoryStep.Commit placed) d pass pins e on =
    subst (λ (r : Directory × Told). DirectoryAnswers pins (touched_count d.shape pass.note) (DirectoryStep.Commit placed) r.1) (sym (ignored short who number (DirectoryStep.Commit placed) d))
    (on_answers pins (touched_count d.shape pass.note) (DirectoryStep.Commit placed) (commit placed) d pass (λ point. tt)
    (commit_answers pins (touched_count d.shape pass.note) placed pass d) (pass_of who d) e)
pass_answered short who number DirectoryStep.End d pass pins e on =
    subst (λ (r : Directory × Told). DirectoryAnswers pins (touched_count d.shape pass.note) DirectoryStep.End r.1) (sym (ignored short who number DirectoryStep.End d))
    (on_answers pins (touched_count d.shape pass.note) DirectoryStep.End end_pass d pass (λ point. tt) tt (pass_of who d) e)
pass_answered short who number DirectoryStep.Confirm d pass pins e on =
    subst (λ (r : Directory × Told). DirectoryAnswers pins (touched_count d.shape pass.note) DirectoryStep.Confirm r.1) (sym (ignored short who number DirectoryStep.Confirm d))
    (on_answers pins (touched_count d.shape pass.note) DirectoryStep.Confirm confirm d pass (λ point. tt)
    (confirm_answers pins (touched_count d.shape pass.note) pass d) (pass_of who d) e)
pass_answered short who number (DirectoryStep.Repaired server epoch) d pass pins e on =
    subst (λ (r : Directory × Told). DirectoryAnswers pins (touched_count d.shape pass.note) (DirectoryStep.Repaired server epoch) r.1)
    (sym (ignored short who number (DirectoryStep.Repaired server epoch) d))
    (on_answers pins (touched_count d.shape pass.note) (DirectoryStep.Repaired server epoch) (repaired server epoch) d pass (λ point. tt) tt (pass_of who d) e)
pass_answered short who number step d pass pins e on = absurd (true≢false (sym on))

-- ---- a server
has_answered : (version : ℕ) (s : Server) → ServerAnswers (ServerStep.Has version) (at_server false (ServerStep.Has version) s).1
has_answered version s =
    cond_both {A = Server × Told} (gives version s) (s, Told.Here) (s, Told.Missing (found_at s)) (λ r. ServerAnswers (ServerStep.Has version) r.1) (λ _. tt) (λ _. tt)

server_answered : (short : Bool) (step : ServerStep) (s : Server) → IsTrue (is_of_call step) → ServerAnswers step (at_server short step s).1
server_answered true (ServerStep.Prepare version) s of_call = tt
server_answered false (ServerStep.Prepare version) s of_call =
    cond_both {A = Server × Told} s.away (s, Told.Prepared (placement.Skipped s.downs)) (record s { held = hold version s.held }, Told.Prepared (placement.At s.epoch))
    (λ r. ServerAnswers (ServerStep.Prepare version) r.1) (λ _. tt) (λ _. tt)
server_answered true (ServerStep.Settle version) s of_call = tt
server_answered false (ServerStep.Settle version) s of_call = tt
server_answered true (ServerStep.Has version) s of_call = has_answered version s
server_answered false (ServerStep.Has version) s of_call = has_answered version s
server_answered true (ServerStep.Fetch version layers) s of_call = tt
server_answered false (ServerStep.Fetch version layers) s of_call =
    cond_both {A = Server × Told} (gives version s) (record s { taken = raised_by (length layers) s.taken }, Told.Given (length layers)) (s, Told.Missing (found_at s))
    (λ r. ServerAnswers (ServerStep.Fetch version layers) r.1) (λ _. tt) (λ _. tt)
server_answered true (ServerStep.Install version) s of_call = tt
server_answered false (ServerStep.Install version) s of_call = by s.away (is_among version s.held)
  where
    by : (away there : Bool) → ServerAnswers (ServerStep.Install version) (install away there version s).1
    by true there = tt
    by false true = tt
    by false false = tt
server_answered short step s of_call = absurd (true≢false (sym of_call))

pub places_answer : PlacesAnswer
places_answer = record { look = look_answered; look_repair = repair_answered; on_pass = pass_answered; server = server_answered }

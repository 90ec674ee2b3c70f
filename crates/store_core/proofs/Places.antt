-- Each step keeps the places.
use Rattle.std.proofs.Common.{◌≡◌, ◌≢◌, ℕ, zero, suc, ◌+◌, ◌-◌, ◌^◌, ◌≤◌, Bool, true, false, List, [], ◌∷◌, ◌++◌, length, take, map, fold, zip, nat_lt, Option, None, Some, option_map, unwrap_or, refl, sym, ap, ◌∙◌, arith, length-append}
use Rattle.std.proofs.lemmas.Bool.{cond_both}
use Rattle.std.proofs.lemmas.List.{length-map}
use Rattle.std.proofs.lemmas.List.FromFn.{length-range_with_len}
use Rattle.std.specs.List.{range_with_len, slice_get, list_all}
use Rattle.store_map.specs.declared.actor.Actor.{Actor}
use Rattle.store_map.specs.declared.actor.Actor.TheVariants as actor
use Rattle.store_map.specs.declared.reply.Reply.{Reply}
use Rattle.store_map.specs.declared.script.Script.{Script}
use Rattle.store_map.specs.declared.placement.Placement.{Placement}
use Rattle.store_map.specs.declared.placement.Placement.TheVariants as placement
use Rattle.store_core.specs.Lists.{change_at, is_among}
use Rattle.store_core.specs.Told.{Told}
use Rattle.store_core.specs.Placements.{placed_anew}
use Rattle.store_core.specs.Note.{Note, Kind, refusal}
use Rattle.store_core.specs.Act.{Act, DirectoryStep, ServerStep, takes_memory}
use Rattle.store_core.specs.Directory.{Object, Standing, Version, Pin, Pass, Directory}
use Rattle.store_core.specs.Lookups.{find_object, pass_of, last_change, first_garbage, is_current}
use Rattle.store_core.specs.Look.{set_standing, begin_pass, seen_at}
use Rattle.store_core.specs.Looks.{accept, look_by, look_repair_by}
use Rattle.store_core.specs.PassSteps.{close_pass, give_up_drawn, touched, draw, end_pass, confirm, repaired, new_version}
use Rattle.store_core.specs.Commit.{commit, commit_object, dropped_by, place_all, is_overtaken}
use Rattle.store_core.specs.AtDirectory.{unless_reaped, on_pass, take_garbage, reap_pass, reap, made_at_directory, unless_short, at_directory}
use Rattle.store_core.specs.Server.{Server, raised_by, hold, gives, found_at, install, at_server, made_at_server, server_unless_short}
use Rattle.store_core.specs.Work.{Calling, client_work, repairer_work}
use Rattle.store_core.specs.Step.{Places, at_places, at_server_there}
use Rattle.store_core.specs.Run.{Run, after_client, after_repairer, first_shortage, places_in}
use Rattle.store_core.specs.CallStep.{step_of}
use Rattle.store_core.specs.PlaceLaws.{IsCounted, CountsUp, as_drawn, KeepsPlaces}
use Rattle.store_core.specs.ActorLaws.{ChangesOnePlace, KeepsOtherClients, KeepsOtherRepairers, StepsChangeOneActor}

-- ---- lists
pub length-change_at : {X : Type 0} (i : ℕ) (f : X → X) (xs : List X) → length (change_at i f xs) ≡ length xs
length-change_at i f [] = refl
length-change_at zero f (x ∷ xs) = refl
length-change_at (suc i) f (x ∷ xs) = ap suc (length-change_at i f xs)

pub length-fold : {X Y : Type 0} (f : List X → Y → List X) → ((xs : List X) (y : Y) → length (f xs y) ≡ length xs) → (xs : List X) (ys : List Y) → length (fold f xs ys) ≡ length xs
length-fold f keeps xs [] = refl
length-fold f keeps xs (y ∷ ys) = length-fold f keeps (f xs y) ys ∙ keeps xs y

pub length-set_standing : (standing : Standing) (numbers : List ℕ) (versions : List Version) → length (set_standing standing numbers versions) ≡ length versions
length-set_standing standing numbers versions =
    length-fold (λ vs number. change_at number (λ version. record version { standing = standing }) vs) (λ vs number. length-change_at number _ vs) versions numbers

pub length-place_all : (drawn : List (ℕ × List Placement)) (versions : List Version) → length (place_all drawn versions) ≡ length versions
length-place_all drawn versions =
    length-fold (λ vs entry. change_at entry.0 (λ version. record version { placed = entry.1; standing = Standing.Current }) vs) (λ vs entry. length-change_at entry.0 _ vs) versions drawn

pub slice_get-change_at : {X : Type 0} (i other : ℕ) (f : X → X) (xs : List X) → other ≢ i → slice_get (change_at i f xs) other ≡ slice_get xs other
slice_get-change_at i other f [] apart = refl
slice_get-change_at zero zero f (x ∷ xs) apart = absurd (apart refl)
slice_get-change_at zero (suc other) f (x ∷ xs) apart = refl
slice_get-change_at (suc i) zero f (x ∷ xs) apart = refl
slice_get-change_at (suc i) (suc other) f (x ∷ xs) apart = slice_get-change_at i other f xs (λ same. apart (ap suc same))

-- ---- versions as they were drawn
drawn-change_at : (i : ℕ) (f : Version → Version) → ((version : Version) → as_drawn (f version) ≡ as_drawn version) → (versions : List Version)
    → map as_drawn (change_at i f versions) ≡ map as_drawn versions
drawn-change_at i f same [] = refl
drawn-change_at zero f same (version ∷ versions) = ap (λ v. v ∷ map as_drawn versions) (same version)
drawn-change_at (suc i) f same (version ∷ versions) = ap (λ vs. as_drawn version ∷ vs) (drawn-change_at i f same versions)

drawn-fold : {Y : Type 0} (f : List Version → Y → List Version) → ((versions : List Version) (y : Y) → map as_drawn (f versions y) ≡ map as_drawn versions)
    → (versions : List Version) (ys : List Y) → map as_drawn (fold f versions ys) ≡ map as_drawn versions
drawn-fold f keeps versions [] = refl
drawn-fold f keeps versions (y ∷ ys) = drawn-fold f keeps (f versions y) ys ∙ keeps versions y

drawn-set_standing : (standing : Standing) (numbers : List ℕ) (versions : List Version) → map as_drawn (set_standing standing numbers versions) ≡ map as_drawn versions
drawn-set_standing standing numbers versions =
    drawn-fold (λ vs number. change_at number (λ version. record version { standing = standing }) vs) (λ vs number. drawn-change_at number _ (λ _. refl) vs) versions numbers

drawn-place_all : (drawn : List (ℕ × List Placement)) (versions : List Version) → map as_drawn (place_all drawn versions) ≡ map as_drawn versions
drawn-place_all drawn versions =
    drawn-fold (λ vs entry. change_at entry.0 (λ version. record version { placed = entry.1; standing = Standing.Current }) vs) (λ vs entry. drawn-change_at entry.0 _ (λ _. refl) vs) versions drawn

-- those before new ones
front_stays : (versions new : List Version) → take (length versions) (map as_drawn (versions ++ new)) ≡ map as_drawn versions
front_stays [] new = refl
front_stays (version ∷ versions) new = ap (λ vs. as_drawn version ∷ vs) (front_stays versions new)

stays : (versions : List Version) → take (length versions) (map as_drawn versions) ≡ map as_drawn versions
stays [] = refl
stays (version ∷ versions) = ap (λ vs. as_drawn version ∷ vs) (stays versions)

stays_as : (versions now : List Version) → map as_drawn now ≡ map as_drawn versions → take (length versions) (map as_drawn now) ≡ map as_drawn versions
stays_as versions now same = ap (take (length versions)) same ∙ stays versions

-- ---- servers
raised : (n count : ℕ) → count ≤ 2 ^ 64 - 1 → (count ≤ raised_by n count) × (raised_by n count ≤ 2 ^ 64 - 1)
raised n count h = (omega (arith, h), omega (arith, h))

same_counts : (s : Server) → IsCounted s → CountsUp s s
same_counts s h = record { epoch = omega arith; taken = omega arith; downs = omega arith; counted = h }

held_counts : (s : Server) (held : List ℕ) → IsCounted s → CountsUp s (record s { held = held })
held_counts s held h = record { epoch = omega arith; taken = omega arith; downs = omega arith; counted = record { epoch = h.epoch; taken = h.taken; downs = h.downs } }

made_counts_up : (step : ServerStep) (s : Server) → IsCounted s → CountsUp s (made_at_server step s).0
made_counts_up (ServerStep.Prepare version) s h =
    cond_both {A = Server × Told} s.away (s, Told.Prepared (placement.Skipped s.downs)) (record s { held = hold version s.held }, Told.Prepared (placement.At s.epoch))
    (λ r. CountsUp s r.0) (λ _. same_counts s h) (λ _. held_counts s _ h)
made_counts_up (ServerStep.Settle version) s h = same_counts s h
made_counts_up (ServerStep.Has version) s h =
    cond_both {A = Server × Told} (gives version s) (s, Told.Here) (s, Told.Missing (found_at s)) (λ r. CountsUp s r.0) (λ _. same_counts s h) (λ _. same_counts s h)
made_counts_up (ServerStep.Fetch version layers) s h =
    cond_both {A = Server × Told} (gives version s) (record s { taken = raised_by (length layers) s.taken }, Told.Given (length layers)) (s, Told.Missing (found_at s)) (λ r. CountsUp s r.0)
    (λ _. record {
      epoch = omega arith;
      taken = (raised (length layers) s.taken h.taken).0;
      downs = omega arith;
      counted = record { epoch = h.epoch; taken = (raised (length layers) s.taken h.taken).1; downs = h.downs };
    })
    (λ _. same_counts s h)
made_counts_up (ServerStep.Install version) s h = installed s.away (is_among version s.held)
  where
    installed : (away there : Bool) → CountsUp s (install away there version s).0
    installed true there = same_counts s h
    installed false true = same_counts s h
    installed false false = held_counts s _ h
made_counts_up (ServerStep.Discard version) s h = held_counts s _ h
made_counts_up ServerStep.Wipe s h =
    record {
      epoch = (raised 1 s.epoch h.epoch).0;
      taken = omega arith;
      downs = omega arith;
      counted = record { epoch = (raised 1 s.epoch h.epoch).1; taken = h.taken; downs = h.downs };
    }
made_counts_up ServerStep.Down s h =
    record {
      epoch = omega arith;
      taken = omega arith;
      downs = (raised 1 s.downs h.downs).0;
      counted = record { epoch = h.epoch; taken = h.taken; downs = (raised 1 s.downs h.downs).1 };
    }
made_counts_up ServerStep.Up s h = record { epoch = omega arith; taken = omega arith; downs = omega arith; counted = record { epoch = h.epoch; taken = h.taken; downs = h.downs } }

unless_counts_up : (short takes : Bool) (step : ServerStep) (s : Server) → IsCounted s → CountsUp s (server_unless_short short takes step s).0
unless_counts_up true true step s h = same_counts s h
unless_counts_up true false step s h = made_counts_up step s h
unless_counts_up false true step s h = made_counts_up step s h
unless_counts_up false false step s h = made_counts_up step s h

pub servers_count_up : (short : Bool) (step : ServerStep) (s : Server) → IsCounted s → CountsUp s (at_server short step s).0
servers_count_up short step s h = unless_counts_up short _ step s h

-- ---- the directory: an answer without new points or versions
module _ (d : Directory) where
  kept : (versions : List Version) → length versions ≡ length d.versions → length versions ≡ length d.versions + 0
  kept versions e = omega (arith, e)

accept_keeps : (who : Actor) (number : ℕ) (note : Note) (d : Directory) (kind : Kind) (object : Object) → KeepsPlaces d (accept who number note d kind object).0 (accept who number note d kind object).1
accept_keeps who number note d Kind.Put object = record { points = refl; numbers = refl; versions = omega arith; drawn = stays d.versions }
accept_keeps who number note d Kind.Write object = record { points = refl; numbers = refl; versions = omega arith; drawn = stays d.versions }
accept_keeps who number note d Kind.Stat object = record { points = (refl, _, refl); numbers = refl; versions = omega arith; drawn = stays d.versions }
accept_keeps who number note d Kind.Delete object =
    record { points = (refl, _, refl); numbers = refl; versions = kept d _ (length-set_standing Standing.Superseded object.versions d.versions); drawn = stays_as d.versions _ (drawn-set_standing Standing.Superseded object.versions d.versions) }
accept_keeps who number note d _ object = record { points = (refl, _, refl); numbers = refl; versions = omega arith; drawn = stays d.versions }

look_keeps : (who : Actor) (number : ℕ) (note : Note) (d : Directory) (found : Option Object) (refused : Option Reply)
    → KeepsPlaces d (look_by who number note d found refused).0 (look_by who number note d found refused).1
look_keeps who number note d found (Some reply) = record { points = (refl, _, refl); numbers = refl; versions = omega arith; drawn = stays d.versions }
look_keeps who number note d found None = accept_keeps who number note d note.kind _

look_repair_keeps : (who : Actor) (number : ℕ) (note : Note) (d : Directory) (found : Option Object)
    → KeepsPlaces d (look_repair_by who number note d found).0 (look_repair_by who number note d found).1
look_repair_keeps who number note d None = record { points = refl; numbers = refl; versions = omega arith; drawn = stays d.versions }
look_repair_keeps who number note d (Some object) =
    cond_both {A = Directory × Told} (nat_lt note.offset (length object.versions))
    (begin_pass who number note (seen_at d object note.offset ∷ []) None d, Told.PinnedStripe (seen_at d object note.offset)) (d, Told.NoSuch) (λ r. KeepsPlaces d r.0 r.1)
    (λ _. record { points = refl; numbers = refl; versions = omega arith; drawn = stays d.versions }) (λ _. record { points = refl; numbers = refl; versions = omega arith; drawn = stays d.versions })

KeepsOnPasses : (Pass → Directory → Directory × Told) → Type 0
KeepsOnPasses step = (pass : Pass) (d : Directory) → KeepsPlaces d (step pass d).0 (step pass d).1

unless_reaped_keeps : (step : Pass → Directory → Directory × Told) → KeepsOnPasses step → (pass : Pass) (reaped : Option ℕ) (d : Directory)
    → KeepsPlaces d (unless_reaped step pass reaped d).0 (unless_reaped step pass reaped d).1
unfolding KeepsOnPasses
unless_reaped_keeps step keeps pass None d = keeps pass d
unless_reaped_keeps step keeps pass (Some point) d = record { points = refl; numbers = refl; versions = omega arith; drawn = stays d.versions }

on_pass_keeps : (step : Pass → Directory → Directory × Told) → KeepsOnPasses step → (found : Option Pass) (d : Directory)
    → KeepsPlaces d (on_pass step found d).0 (on_pass step found d).1
on_pass_keeps step keeps None d = record { points = refl; numbers = refl; versions = omega arith; drawn = stays d.versions }
on_pass_keeps step keeps (Some pass) d = unless_reaped_keeps step keeps pass pass.reaped d

draw_keeps : KeepsOnPasses draw
unfolding KeepsOnPasses
draw_keeps pass d =
    let count : ℕ = length (touched d pass.note) in
    let same : length (range_with_len (length d.versions) count) ≡ count = length-range_with_len (length d.versions) count in
    record {
      points = refl;
      numbers = ap (range_with_len (length d.versions)) (sym same);
      versions = length-append d.versions (map (new_version pass) (touched d pass.note)) ∙ ap (λ n. length d.versions + n) (length-map (touched d pass.note) (new_version pass) ∙ sym same);
      drawn = front_stays d.versions (map (new_version pass) (touched d pass.note));
    }

end_keeps : KeepsOnPasses end_pass
unfolding KeepsOnPasses
end_keeps pass d = record { points = refl; numbers = refl; versions = kept d _ (length-set_standing Standing.Superseded pass.drawn d.versions); drawn = stays_as d.versions _ (drawn-set_standing Standing.Superseded pass.drawn d.versions) }

confirm_keeps : KeepsOnPasses confirm
unfolding KeepsOnPasses
confirm_keeps pass d =
    cond_both {A = Directory × Told} (list_all (λ pin. is_current d pin.version) pass.pinned)
    (d, Told.Current) (close_pass pass d, Told.Superseded (unwrap_or (last_change pass.note.name d.points) 0)) (λ r. KeepsPlaces d r.0 r.1)
    (λ _. record { points = refl; numbers = refl; versions = omega arith; drawn = stays d.versions }) (λ _. record { points = refl; numbers = refl; versions = omega arith; drawn = stays d.versions })

repaired_keeps : (server epoch : ℕ) → KeepsOnPasses (repaired server epoch)
unfolding KeepsOnPasses
repaired_keeps server epoch pass d =
    record {
      points = refl;
      numbers = refl;
      versions = kept d _ (length-fold (λ (versions : List Version) (pin : Pin). change_at pin.version (λ version. record version { placed = change_at server (placed_anew epoch) version.placed }) versions) (λ vs pin. length-change_at pin.version _ vs) d.versions pass.pinned);
      drawn = stays_as d.versions _
          (drawn-fold (λ (versions : List Version) (pin : Pin). change_at pin.version (λ version. record version { placed = change_at server (placed_anew epoch) version.placed }) versions)
          (λ vs pin. drawn-change_at pin.version _ (λ _. refl) vs) d.versions pass.pinned);
    }

commit_object_keeps : (placed : List (List Placement)) (pass : Pass) (old : Object) (d : Directory) → KeepsPlaces d (commit_object placed pass old d).0 (commit_object placed pass old d).1
commit_object_keeps placed pass old d =
    record { points = (refl, _, refl); numbers = refl; versions = kept d _ (length-set_standing Standing.Superseded (dropped_by pass.note.kind d pass old.versions) (place_all (zip pass.drawn placed) d.versions) ∙ length-place_all (zip pass.drawn placed) d.versions); drawn = stays_as d.versions _ (drawn-set_standing Standing.Superseded (dropped_by pass.note.kind d pass old.versions) (place_all (zip pass.drawn placed) d.versions) ∙ drawn-place_all (zip pass.drawn placed) d.versions) }

commit_keeps : (placed : List (List Placement)) → KeepsOnPasses (commit placed)
unfolding KeepsOnPasses
commit_keeps placed pass d =
    cond_both {A = Directory × Told} (is_overtaken pass.note.kind pass.base (last_change pass.note.name d.points))
    (close_pass pass (give_up_drawn pass d), Told.Changed (unwrap_or pass.base 0) (unwrap_or (last_change pass.note.name d.points) 0)) (commit_object placed pass (unwrap_or (find_object pass.note.name d.objects) (record { name = pass.note.name; length = 0; versions = [] })) d) (λ r. KeepsPlaces d r.0 r.1)
    (λ _. record { points = refl; numbers = refl; versions = kept d _ (length-set_standing Standing.Superseded pass.drawn d.versions); drawn = stays_as d.versions _ (drawn-set_standing Standing.Superseded pass.drawn d.versions) })
    (λ _. commit_object_keeps placed pass (unwrap_or (find_object pass.note.name d.objects) (record { name = pass.note.name; length = 0; versions = [] })) d)

take_keeps : (found : Option ℕ) (d : Directory) → KeepsPlaces d (take_garbage found d).0 (take_garbage found d).1
take_keeps None d = record { points = refl; numbers = refl; versions = omega arith; drawn = stays d.versions }
take_keeps (Some version) d = record { points = refl; numbers = refl; versions = kept d _ (length-set_standing Standing.Taken (version ∷ []) d.versions); drawn = stays_as d.versions _ (drawn-set_standing Standing.Taken (version ∷ []) d.versions) }

reap_pass_keeps : (pass : Pass) (reaped : Option ℕ) (d : Directory) → KeepsPlaces d (reap_pass pass reaped d).0 (reap_pass pass reaped d).1
reap_pass_keeps pass (Some point) d = record { points = refl; numbers = refl; versions = omega arith; drawn = stays d.versions }
reap_pass_keeps pass None d = record { points = (refl, _, refl); numbers = refl; versions = kept d _ (length-set_standing Standing.Superseded pass.drawn d.versions); drawn = stays_as d.versions _ (drawn-set_standing Standing.Superseded pass.drawn d.versions) }

reap_keeps : (found : Option Pass) (d : Directory) → KeepsPlaces d (reap found d).0 (reap found d).1
reap_keeps None d = record { points = refl; numbers = refl; versions = omega arith; drawn = stays d.versions }
reap_keeps (Some pass) d = reap_pass_keeps pass pass.reaped d

made_keeps : (who : Actor) (number : ℕ) (step : DirectoryStep) (d : Directory) → KeepsPlaces d (made_at_directory who number step d).0 (made_at_directory who number step d).1
made_keeps who number (DirectoryStep.Look note) d = look_keeps who number note d (find_object note.name d.objects) (refusal d.max note (option_map (λ object. object.length) (find_object note.name d.objects)))
made_keeps who number (DirectoryStep.LookRepair note) d = look_repair_keeps who number note d (find_object note.name d.objects)
made_keeps who number DirectoryStep.Draw d = on_pass_keeps draw draw_keeps (pass_of who d) d
made_keeps who number (DirectoryStep.Commit placed) d = on_pass_keeps (commit placed) (commit_keeps placed) (pass_of who d) d
made_keeps who number DirectoryStep.End d = on_pass_keeps end_pass end_keeps (pass_of who d) d
made_keeps who number DirectoryStep.Confirm d = on_pass_keeps confirm confirm_keeps (pass_of who d) d
made_keeps who number (DirectoryStep.Repaired server epoch) d = on_pass_keeps (repaired server epoch) (repaired_keeps server epoch) (pass_of who d) d
made_keeps who number DirectoryStep.NextGarbage d = take_keeps (first_garbage d) d
made_keeps who number (DirectoryStep.Swept version) d = record { points = refl; numbers = refl; versions = kept d _ (length-change_at version _ d.versions); drawn = stays_as d.versions _ (drawn-change_at version _ (λ _. refl) d.versions) }
made_keeps who number (DirectoryStep.Reap reaped) d = reap_keeps (pass_of reaped d) d

unless_short_keeps : (short takes : Bool) (who : Actor) (number : ℕ) (step : DirectoryStep) (d : Directory)
    → KeepsPlaces d (unless_short short takes who number step d).0 (unless_short short takes who number step d).1
unless_short_keeps true true who number step d = record { points = refl; numbers = refl; versions = omega arith; drawn = stays d.versions }
unless_short_keeps true false who number step d = made_keeps who number step d
unless_short_keeps false true who number step d = made_keeps who number step d
unless_short_keeps false false who number step d = made_keeps who number step d

pub directory_keeps_places : (short : Bool) (who : Actor) (number : ℕ) (step : DirectoryStep) (d : Directory)
    → KeepsPlaces d (at_directory short who number step d).0 (at_directory short who number step d).1
directory_keeps_places short who number step d = unless_short_keeps short (takes_memory step) who number step d

-- ---- one place, one actor
one_server : (short : Bool) (server : ℕ) (step : ServerStep) (places : Places) (found : Option Server)
    → ChangesOnePlace (Act.AtServer server step) places (at_server_there short server step places found).0
one_server short server step places None = (refl, λ other apart. refl)
one_server short server step places (Some s) = (refl, λ other apart. slice_get-change_at server other _ places.servers apart)

pub acts_change_one_place : (short : Bool) (who : Actor) (number : ℕ) (act : Act) (places : Places) → ChangesOnePlace act places (at_places short who number act places).0
acts_change_one_place short who number (Act.AtDirectory step) places = refl
acts_change_one_place short who number (Act.AtServer server step) places = one_server short server step places (slice_get places.servers server)
acts_change_one_place short who number (Act.Finish outcome) places = refl

other_clients : (i : ℕ) (run : Run) (after : Option (Places × Calling)) → KeepsOtherClients i run.core (after_client i run after).core
other_clients i run None = record { clients = λ other apart. refl; repairers = refl; sweeper = refl }
other_clients i run (Some after) = record { clients = λ other apart. slice_get-change_at i other _ run.core.clients apart; repairers = refl; sweeper = refl }

other_repairers : (i : ℕ) (run : Run) (after : Option (Places × Calling)) → KeepsOtherRepairers i run.core (after_repairer i run after).core
other_repairers i run None = record { clients = refl; repairers = λ other apart. refl; sweeper = refl }
other_repairers i run (Some after) = record { clients = refl; repairers = λ other apart. slice_get-change_at i other _ run.core.repairers apart; sweeper = refl }

pub steps_change_one_actor : (script : Script) (run : Run) → StepsChangeOneActor script run
steps_change_one_actor script run =
    record {
      client = λ i. other_clients i run (step_of script (first_shortage run.shortages) (actor.Client i) (slice_get (client_work script) i) (slice_get run.core.clients i) (places_in run.core));
      repairer = λ i. other_repairers i run (step_of script (first_shortage run.shortages) (actor.Repairer i) (slice_get (repairer_work script) i) (slice_get run.core.repairers i) (places_in run.core));
      sweeper = record { clients = refl; repairers = refl };
      operator = λ act. (record { clients = refl; repairers = refl }, refl);
    }

-- What a step does to the versions: each keeps what it is laid over, and only a draw adds some.
use Rattle.std.proofs.Common.{◌≡◌, ◌⊎◌, ℕ, nat_lt, List, [], ◌∷◌, ◌++◌, length, map, zip, Bool, true, false, Option, None, Some, option_map, unwrap_or, refl, ◌∙◌, inl, inr}
use Rattle.std.proofs.lemmas.Bool.{cond_both}
use Rattle.std.specs.List.{list_all}
use Rattle.store_map.specs.declared.actor.Actor.{Actor}
use Rattle.store_map.specs.declared.placement.Placement.{Placement}
use Rattle.store_map.specs.declared.reply.Reply.{Reply}
use Rattle.store_core.specs.Told.{Told}
use Rattle.store_core.specs.Note.{Note, Kind, refusal}
use Rattle.store_core.specs.Act.{DirectoryStep, takes_memory}
use Rattle.store_core.specs.Directory.{Object, Standing, Pass, Directory}
use Rattle.store_core.specs.Lookups.{find_object, pass_of, last_change, is_current, first_garbage}
use Rattle.store_core.specs.PassSteps.{close_pass, give_up_drawn, touched, new_version, draw, end_pass, confirm, repaired}
use Rattle.store_core.specs.Look.{seen_at, begin_pass}
use Rattle.store_core.specs.Looks.{accept, look_by, look_repair_by}
use Rattle.store_core.specs.Commit.{is_overtaken, dropped_by, place_all, commit_object, commit}
use Rattle.store_core.specs.AtDirectory.{unless_reaped, on_pass, take_garbage, reap_pass, reap, made_at_directory, unless_short, at_directory}
use Rattle.run_laws.proofs.ContentGrows.{origins, set_keeps, place_keeps, raise_keeps, swept_keeps}

-- a pass draws
pub record Draws (who : Actor) (step : DirectoryStep) (d after : Directory) : Type 0 where
  pub pass : Pass
  pub found : pass_of who d ≡ Some pass
  pub is_draw : step ≡ DirectoryStep.Draw
  pub versions : after.versions ≡ d.versions ++ map (new_version pass) (touched d pass.note)

-- a step leaves the shape, and versions keep what they are laid over; or a pass draws
pub record Moves (who : Actor) (step : DirectoryStep) (d after : Directory) : Type 0 where
  pub shape : after.shape ≡ d.shape
  pub moved : (origins after.versions ≡ origins d.versions) ⊎ Draws who step d after

module _ (who : Actor) (number : ℕ) (of : DirectoryStep) (d : Directory) where
  abbrev Moved : Directory → Type 0
  Moved after = Moves who of d after

  -- nothing happens to the versions
  still : Moved d
  still = record { shape = refl; moved = inl refl }

  on_pass_moved : (step : Pass → Directory → Directory × Told) → ((pass : Pass) → pass_of who d ≡ Some pass → Moved (step pass d).0) → Moved (on_pass step (pass_of who d) d).0
  on_pass_moved step moves = by (pass_of who d) refl
    where
      by_reap : (pass : Pass) → pass_of who d ≡ Some pass → (reaped : Option ℕ) → Moved (unless_reaped step pass reaped d).0
      by_reap pass e None = moves pass e
      by_reap pass e (Some point) = record { shape = refl; moved = inl refl }

      by : (found : Option Pass) → pass_of who d ≡ found → Moved (on_pass step found d).0
      by None e = still
      by (Some pass) e = by_reap pass e pass.reaped

  -- ---- looks
  accept_moved : (note : Note) (kind : Kind) (object : Object) → Moved (accept who number note d kind object).0
  accept_moved note Kind.Delete object = record { shape = refl; moved = inl (set_keeps Standing.Superseded object.versions d.versions) }
  accept_moved note Kind.Put object = record { shape = refl; moved = inl refl }
  accept_moved note Kind.Write object = record { shape = refl; moved = inl refl }
  accept_moved note Kind.Get object = record { shape = refl; moved = inl refl }
  accept_moved note Kind.ReadAt object = record { shape = refl; moved = inl refl }
  accept_moved note Kind.Stat object = record { shape = refl; moved = inl refl }
  accept_moved note Kind.Rebuild object = record { shape = refl; moved = inl refl }

  look_moved : (note : Note) (found : Option Object) (refused : Option Reply) → Moved (look_by who number note d found refused).0
  look_moved note found (Some given) = record { shape = refl; moved = inl refl }
  look_moved note found None = accept_moved note note.kind (unwrap_or found (record { name = note.name; length = 0; versions = [] }))

  repair_moved : (note : Note) (found : Option Object) → Moved (look_repair_by who number note d found).0
  repair_moved note None = still
  repair_moved note (Some object) =
      cond_both {A = Directory × Told} (nat_lt note.offset (length object.versions))
      (begin_pass who number note (seen_at d object note.offset ∷ []) None d, Told.PinnedStripe (seen_at d object note.offset)) (d, Told.NoSuch) (λ r. Moved r.0) (λ _. record { shape = refl; moved = inl refl }) (λ _. still)

  -- ---- steps on a pass
  -- what was drawn is given up
  ended_moved : (pass : Pass) → Moved (close_pass pass (give_up_drawn pass d))
  ended_moved pass = record { shape = refl; moved = inl (set_keeps Standing.Superseded pass.drawn d.versions) }

  commit_moved : (placed : List (List Placement)) (pass : Pass) → Moved (commit placed pass d).0
  commit_moved placed pass =
      cond_both {A = Directory × Told} (is_overtaken pass.note.kind pass.base (last_change pass.note.name d.points))
      (close_pass pass (give_up_drawn pass d), Told.Changed (unwrap_or pass.base 0) (unwrap_or (last_change pass.note.name d.points) 0))
      (commit_object placed pass (unwrap_or (find_object pass.note.name d.objects) (record { name = pass.note.name; length = 0; versions = [] })) d) (λ r. Moved r.0)
      (λ _. ended_moved pass) (λ _. made (unwrap_or (find_object pass.note.name d.objects) (record { name = pass.note.name; length = 0; versions = [] })))
    where
      made : (old : Object) → Moved (commit_object placed pass old d).0
      made old =
          record {
            shape = refl;
            moved = inl (
                set_keeps Standing.Superseded (dropped_by pass.note.kind d pass old.versions) (place_all (zip pass.drawn placed) d.versions)
                ∙ place_keeps (zip pass.drawn placed) d.versions
                );
          }

  confirm_moved : (pass : Pass) → Moved (confirm pass d).0
  confirm_moved pass =
      cond_both {A = Directory × Told} (list_all (λ pin. is_current d pin.version) pass.pinned)
      (d, Told.Current) (close_pass pass d, Told.Superseded (unwrap_or (last_change pass.note.name d.points) 0)) (λ r. Moved r.0) (λ _. still) (λ _. record { shape = refl; moved = inl refl })

  -- ---- a reap and the sweeper's steps
  reap_moved : (found : Option Pass) → Moved (reap found d).0
  reap_moved None = still
  reap_moved (Some pass) = by pass.reaped
    where
      by : (reaped : Option ℕ) → Moved (reap_pass pass reaped d).0
      by None = record { shape = refl; moved = inl (set_keeps Standing.Superseded pass.drawn d.versions) }
      by (Some point) = still

  take_moved : (found : Option ℕ) → Moved (take_garbage found d).0
  take_moved None = still
  take_moved (Some version) = record { shape = refl; moved = inl (set_keeps Standing.Taken (version ∷ []) d.versions) }

-- each step
made_moved : (who : Actor) (number : ℕ) (step : DirectoryStep) (d : Directory) → Moves who step d (made_at_directory who number step d).0
made_moved who number (DirectoryStep.Look note) d =
    look_moved who number (DirectoryStep.Look note) d note (find_object note.name d.objects) (refusal d.max note (option_map (λ (o : Object). o.length) (find_object note.name d.objects)))
made_moved who number (DirectoryStep.LookRepair note) d = repair_moved who number (DirectoryStep.LookRepair note) d note (find_object note.name d.objects)
made_moved who number DirectoryStep.Draw d =
    on_pass_moved who number DirectoryStep.Draw d draw (λ pass e. record { shape = refl; moved = inr (record { pass = pass; found = e; is_draw = refl; versions = refl }) })
made_moved who number (DirectoryStep.Commit placed) d = on_pass_moved who number (DirectoryStep.Commit placed) d (commit placed) (λ pass e. commit_moved who number (DirectoryStep.Commit placed) d placed pass)
made_moved who number DirectoryStep.End d = on_pass_moved who number DirectoryStep.End d end_pass (λ pass e. ended_moved who number DirectoryStep.End d pass)
made_moved who number DirectoryStep.Confirm d = on_pass_moved who number DirectoryStep.Confirm d confirm (λ pass e. confirm_moved who number DirectoryStep.Confirm d pass)
made_moved who number (DirectoryStep.Repaired server epoch) d =
    on_pass_moved who number (DirectoryStep.Repaired server epoch) d (repaired server epoch) (λ pass e. record { shape = refl; moved = inl (raise_keeps server epoch pass.pinned d.versions) })
made_moved who number DirectoryStep.NextGarbage d = take_moved who number DirectoryStep.NextGarbage d (first_garbage d)
made_moved who number (DirectoryStep.Swept version) d = record { shape = refl; moved = inl (swept_keeps version d.versions) }
made_moved who number (DirectoryStep.Reap reaped) d = reap_moved who number (DirectoryStep.Reap reaped) d (pass_of reaped d)

-- also where memory was wanting
pub versions_move : (short : Bool) (who : Actor) (number : ℕ) (step : DirectoryStep) (d : Directory) → Moves who step d (at_directory short who number step d).0
versions_move short who number step d = by short (takes_memory step)
  where
    by : (short takes : Bool) → Moves who step d (unless_short short takes who number step d).0
    by true true = still who number step d
    by true false = made_moved who number step d
    by false true = made_moved who number step d
    by false false = made_moved who number step d

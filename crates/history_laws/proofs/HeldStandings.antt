-- No step of a call sweeps a version: what is swept after it was swept before.
use Rattle.std.proofs.Common.{◌≡◌, ℕ, zero, suc, Bool, true, false, nat_lt, List, [], ◌∷◌, ◌++◌, length, map, fold, zip, Option, None, Some, option_map, unwrap_or, refl, sym, ap, subst, ◌∙◌}
use Rattle.std.proofs.lemmas.Bool.{cond_both}
use Rattle.std.proofs.lemmas.Option.{none-some, same_Some}
use Rattle.std.specs.List.{slice_get, list_all}
use Rattle.store_map.specs.declared.actor.Actor.{Actor}
use Rattle.store_map.specs.declared.placement.Placement.{Placement}
use Rattle.store_map.specs.declared.reply.Reply.{Reply}
use Rattle.store_core.specs.Act.{DirectoryStep, takes_memory}
use Rattle.store_core.specs.AtDirectory.{unless_reaped, on_pass, reap, reap_pass, take_garbage, made_at_directory, unless_short, at_directory}
use Rattle.store_core.specs.Commit.{commit, commit_object, is_overtaken, place_all, dropped_by}
use Rattle.store_core.specs.Directory.{Object, Standing, Version, Pin, Pass, Directory}
use Rattle.store_core.specs.Lists.{change_at}
use Rattle.store_core.specs.Look.{begin_pass, seen_at, set_standing}
use Rattle.store_core.specs.Looks.{accept, look_by, look_repair_by}
use Rattle.store_core.specs.Lookups.{find_object, pass_of, last_change, is_current, first_garbage}
use Rattle.store_core.specs.Note.{Note, Kind, refusal}
use Rattle.store_core.specs.PassSteps.{close_pass, give_up_drawn, new_version, draw, end_pass, confirm, repaired, touched}
use Rattle.store_core.specs.Placements.{placed_anew}
use Rattle.store_core.specs.Told.{Told}

-- a version that is swept after was swept before
abbrev pub SweepsNone : List Version → List Version → Type 0
SweepsNone before after = (n : ℕ) (new : Version) → slice_get after n ≡ Some new → new.standing ≡ Standing.Swept → (old : Version) × (slice_get before n ≡ Some old) × (old.standing ≡ Standing.Swept)

abbrev IsSwept : Standing → Type 0
IsSwept Standing.Swept = Unit {0}
IsSwept standing = ⊥

still : (versions : List Version) → SweepsNone versions versions
still versions n new e is = (new, e, is)

then_none : (a b c : List Version) → SweepsNone a b → SweepsNone b c → SweepsNone a c
then_none a b c one two n new e is = let mid : (old : Version) × (slice_get b n ≡ Some old) × (old.standing ≡ Standing.Swept) = two n new e is in one n mid.0 mid.1 mid.2

changed : (k : ℕ) (f : Version → Version) → ((v : Version) → (f v).standing ≡ Standing.Swept → v.standing ≡ Standing.Swept) → (versions : List Version) → SweepsNone versions (change_at k f versions)
changed k f none [] n new e is = absurd (none-some new e)
changed zero f none (v ∷ versions) zero new e is = (v, refl, none v (ap (λ (x : Version). x.standing) (same_Some (f v) new e) ∙ is))
changed zero f none (v ∷ versions) (suc n) new e is = (new, e, is)
changed (suc k) f none (v ∷ versions) zero new e is = (new, e, is)
changed (suc k) f none (v ∷ versions) (suc n) new e is = changed k f none versions n new e is

set_none : (standing : Standing) → (standing ≡ Standing.Swept → ⊥) → (numbers : List ℕ) (versions : List Version) → SweepsNone versions (set_standing standing numbers versions)
set_none standing never [] versions = still versions
set_none standing never (number ∷ numbers) versions =
    then_none versions (change_at number (λ version. record version { standing = standing }) versions) (set_standing standing numbers (change_at number (λ version. record version { standing = standing }) versions))
    (changed number (λ version. record version { standing = standing }) (λ v e. absurd (never e)) versions) (set_none standing never numbers (change_at number (λ version. record version { standing = standing }) versions))

place_none : (entries : List (ℕ × List Placement)) (versions : List Version) → SweepsNone versions (place_all entries versions)
place_none [] versions = still versions
place_none (entry ∷ entries) versions =
    then_none versions (change_at entry.0 (λ version. record version { placed = entry.1; standing = Standing.Current }) versions) (place_all entries (change_at entry.0 (λ version. record version { placed = entry.1; standing = Standing.Current }) versions))
    (changed entry.0 (λ version. record version { placed = entry.1; standing = Standing.Current }) (λ v e. absurd (subst IsSwept (sym e) tt)) versions)
    (place_none entries (change_at entry.0 (λ version. record version { placed = entry.1; standing = Standing.Current }) versions))

raise_none : (server epoch : ℕ) (pins : List Pin) (versions : List Version)
    → SweepsNone versions (fold (λ vs pin. change_at pin.version (λ version. record version { placed = change_at server (placed_anew epoch) version.placed }) vs) versions pins)
raise_none server epoch [] versions = still versions
raise_none server epoch (pin ∷ pins) versions =
    then_none versions (change_at pin.version (λ version. record version { placed = change_at server (placed_anew epoch) version.placed }) versions) _
    (changed pin.version (λ version. record version { placed = change_at server (placed_anew epoch) version.placed }) (λ v e. e) versions)
    (raise_none server epoch pins (change_at pin.version (λ version. record version { placed = change_at server (placed_anew epoch) version.placed }) versions))

append_none : (pass : Pass) (versions : List Version) (stripes : List ℕ) → SweepsNone versions (versions ++ map (new_version pass) stripes)
append_none pass [] [] n new e is = absurd (none-some new e)
append_none pass [] (stripe ∷ stripes) zero new e is = absurd (subst IsSwept (sym (ap (λ (v : Version). v.standing) (same_Some (new_version pass stripe) new e) ∙ is)) tt)
append_none pass [] (stripe ∷ stripes) (suc n) new e is = let h : (old : Version) × (slice_get [] n ≡ Some old) × (old.standing ≡ Standing.Swept) = append_none pass [] stripes n new e is in absurd (none-some h.0 h.1)
append_none pass (v ∷ versions) stripes zero new e is = (new, e, is)
append_none pass (v ∷ versions) stripes (suc n) new e is = append_none pass versions stripes n new e is

superseded_apart : Standing.Superseded ≡ Standing.Swept → ⊥
superseded_apart e = subst IsSwept (sym e) tt

taken_apart : Standing.Taken ≡ Standing.Swept → ⊥
taken_apart e = subst IsSwept (sym e) tt

module _ (d : Directory) where
  abbrev None_ : Directory × Told → Type 0
  None_ after = SweepsNone d.versions after.0.versions

  accept_none : (who : Actor) (number : ℕ) (note : Note) (kind : Kind) (object : Object) → None_ (accept who number note d kind object)
  accept_none who number note Kind.Delete object = set_none Standing.Superseded superseded_apart object.versions d.versions
  accept_none who number note Kind.Put object = still d.versions
  accept_none who number note Kind.Write object = still d.versions
  accept_none who number note Kind.Stat object = still d.versions
  accept_none who number note _ object = still d.versions

  look_none : (who : Actor) (number : ℕ) (note : Note) (found : Option Object) (refused : Option Reply) → None_ (look_by who number note d found refused)
  look_none who number note found (Some given) = still d.versions
  look_none who number note found None = accept_none who number note note.kind _

  repair_none : (who : Actor) (number : ℕ) (note : Note) (found : Option Object) → None_ (look_repair_by who number note d found)
  repair_none who number note None = still d.versions
  repair_none who number note (Some object) =
      cond_both {A = Directory × Told} (nat_lt note.offset (length object.versions))
      (begin_pass who number note (seen_at d object note.offset ∷ []) None d, Told.PinnedStripe (seen_at d object note.offset)) (d, Told.NoSuch) None_ (λ _. still d.versions) (λ _. still d.versions)

  unless_none : (step : Pass → Directory → Directory × Told) (pass : Pass) (reaped : Option ℕ) → None_ (step pass d) → None_ (unless_reaped step pass reaped d)
  unless_none step pass None h = h
  unless_none step pass (Some point) h = still d.versions

  on_none : (step : Pass → Directory → Directory × Told) → ((pass : Pass) → None_ (step pass d)) → (found : Option Pass) → None_ (on_pass step found d)
  on_none step h None = still d.versions
  on_none step h (Some pass) = unless_none step pass pass.reaped (h pass)

  confirm_none : (pass : Pass) → None_ (confirm pass d)
  confirm_none pass =
      cond_both {A = Directory × Told} (list_all (λ pin. is_current d pin.version) pass.pinned)
      (d, Told.Current) (close_pass pass d, Told.Superseded (unwrap_or (last_change pass.note.name d.points) 0)) None_ (λ _. still d.versions) (λ _. still d.versions)

  commit_none : (placed : List (List Placement)) (pass : Pass) → None_ (commit placed pass d)
  commit_none placed pass =
      cond_both {A = Directory × Told} (is_overtaken pass.note.kind pass.base (last_change pass.note.name d.points))
      (close_pass pass (give_up_drawn pass d), Told.Changed (unwrap_or pass.base 0) (unwrap_or (last_change pass.note.name d.points) 0))
      (commit_object placed pass (unwrap_or (find_object pass.note.name d.objects) (record { name = pass.note.name; length = 0; versions = [] })) d) None_
      (λ _. set_none Standing.Superseded superseded_apart pass.drawn d.versions)
      (λ _.
      let old : Object = unwrap_or (find_object pass.note.name d.objects) (record { name = pass.note.name; length = 0; versions = [] }) in
      then_none d.versions (place_all (zip pass.drawn placed) d.versions) (set_standing Standing.Superseded (dropped_by pass.note.kind d pass old.versions) (place_all (zip pass.drawn placed) d.versions))
      (place_none (zip pass.drawn placed) d.versions) (set_none Standing.Superseded superseded_apart (dropped_by pass.note.kind d pass old.versions) (place_all (zip pass.drawn placed) d.versions)))

  take_none : (found : Option ℕ) → None_ (take_garbage found d)
  take_none None = still d.versions
  take_none (Some version) = set_none Standing.Taken taken_apart (version ∷ []) d.versions

  reap_none : (found : Option Pass) → None_ (reap found d)
  reap_none None = still d.versions
  reap_none (Some pass) = by pass.reaped
    where
      by : (reaped : Option ℕ) → None_ (reap_pass pass reaped d)
      by (Some point) = still d.versions
      by None = set_none Standing.Superseded superseded_apart pass.drawn d.versions

-- a step that is no sweep
abbrev pub IsNoSweep : DirectoryStep → Type 0
IsNoSweep (DirectoryStep.Swept version) = ⊥
IsNoSweep step = Unit {0}

made_none : (d : Directory) (who : Actor) (number : ℕ) (step : DirectoryStep) → IsNoSweep step → None_ d (made_at_directory who number step d)
made_none d who number (DirectoryStep.Look note) h = look_none d who number note (find_object note.name d.objects) (refusal d.max note (option_map (λ object. object.length) (find_object note.name d.objects)))
made_none d who number (DirectoryStep.LookRepair note) h = repair_none d who number note (find_object note.name d.objects)
made_none d who number DirectoryStep.Draw h = on_none d draw (λ pass. append_none pass d.versions (touched d pass.note)) (pass_of who d)
made_none d who number (DirectoryStep.Commit placed) h = on_none d (commit placed) (commit_none d placed) (pass_of who d)
made_none d who number DirectoryStep.End h = on_none d end_pass (λ pass. set_none Standing.Superseded superseded_apart pass.drawn d.versions) (pass_of who d)
made_none d who number DirectoryStep.Confirm h = on_none d confirm (confirm_none d) (pass_of who d)
made_none d who number (DirectoryStep.Repaired server epoch) h = on_none d (repaired server epoch) (λ pass. raise_none server epoch pass.pinned d.versions) (pass_of who d)
made_none d who number DirectoryStep.NextGarbage h = take_none d (first_garbage d)
made_none d who number (DirectoryStep.Reap target) h = reap_none d (pass_of target d)
made_none d who number (DirectoryStep.Swept version) h = absurd h

pub sweeps_none : (short : Bool) (d : Directory) (who : Actor) (number : ℕ) (step : DirectoryStep) → IsNoSweep step → SweepsNone d.versions (at_directory short who number step d).0.versions
sweeps_none short d who number step h = by short (takes_memory step)
  where
    by : (short takes : Bool) → SweepsNone d.versions (unless_short short takes who number step d).0.versions
    by true true = still d.versions
    by true false = made_none d who number step h
    by false true = made_none d who number step h
    by false false = made_none d who number step h

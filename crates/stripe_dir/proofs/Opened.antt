-- What a directory begins with.
use Rattle.std.proofs.Common.{◌≡◌, ◌<◌, List, [], length, get_or, map, Option, None, Some, IfSome, All, Contains, refl, sym, ap, subst, ◌∙◌, arith}
use Rattle.std.proofs.lemmas.List.Elements.{All-nil}
use Rattle.clay_grid.specs.Shape.{stripe_length}
use Rattle.store_map.specs.declared.script.Script.{Script}
use Rattle.store_core.specs.Content.{contents_by}
use Rattle.store_core.specs.Directory.{Object, Pass}
use Rattle.store_core.specs.History.{call_of}
use Rattle.run_laws.proofs.SoundSteps.{steps_keep_sound}
use Rattle.version_table.specs.Counts.{pins_by, points_due, objects_due}
use Rattle.version_seal.specs.Entry.{StampOf}
use Rattle.stripe_stamps.specs.Sealed.{keeps_points}
use Rattle.stripe_stamps.specs.ItsStripes.{AreFrom, IsOfItsStripes, IsWhole}
use Rattle.stripe_stamps.specs.Stamped.{AreOf, told_by_stamp, told_by_version, HaveContents, HasStamps}
use Rattle.stripe_dir.specs.Kept.{directory_in, sealed_in, IsKept}
use Rattle.stripe_dir.specs.declared.directory.Directory.TheInside.{Inside}

-- fields that are empty
pub record IsEmpty (a : Inside) : Type 0 where
  pub objects : a.objects.objects ≡ []
  pub versions : a.versions.listed ≡ []
  pub pins : a.versions.pins ≡ []
  pub passes : a.passes.listed ≡ []
  pub points : a.history.points ≡ []
  pub stamps : a.stamps.listed ≡ []
  pub keeps : a.history.keeps ≡ keeps_points (sealed_in a)

module _ (a : Inside) (empty : IsEmpty a) (code : a.stamps.book.geometry ≡ a.geometry) where
  first_whole : IsWhole (directory_in a)
  first_whole =
      subst IsWhole (λ i. record { shape = a.geometry; max = a.max; objects = sym empty.objects i; versions = sym empty.versions i; passes = sym empty.passes i; points = sym empty.points i })
      (record { sound = steps_keep_sound.first a.geometry a.max; own = record { objects = All-nil (λ (object : Object). AreFrom [] 0 object.versions); passes = All-nil (IsOfItsStripes [] a.geometry) } })

  first_stamps : HasStamps (sealed_in a)
  first_stamps =
      record {
        code = code;
        its = subst (λ (l : List StampOf). AreOf a.stamps.book l) (sym empty.stamps) (record { numbered = refl; at_home = All-nil (λ (stamp : StampOf). stamp.home ≡ a.stamps.book.home) });
        told = ap (map told_by_stamp) empty.stamps ∙ sym (ap (map told_by_version) empty.versions);
        contents = by a.stamps.book.script;
      }
    where
      by : (script : Option Script) → IfSome script (λ script. HaveContents (call_of script) (sealed_in a))
      by None = tt
      by (Some script) = ap (map (λ (stamp : StampOf). stamp.content)) empty.stamps ∙ sym (ap (contents_by a.geometry (call_of script)) empty.versions)

  pub first_kept : 0 < stripe_length a.geometry → a.passes.stripe_len ≡ stripe_length a.geometry → IsKept a
  first_kept some stripe =
      let no_points : points_due a.passes.listed ≡ 0 = ap points_due empty.passes in
      let no_objects : objects_due a.passes.listed ≡ 0 = ap objects_due empty.passes in
      record {
        stripes = some;
        desk = stripe;
        whole = first_whole;
        stamps = first_stamps;
        counted = ap length empty.pins ∙ sym (ap length empty.versions);
        pins = λ version. ap (λ l. get_or l version 0) empty.pins ∙ sym (ap (pins_by version) empty.passes);
        named = subst (λ (l : List Pass). All (λ pass. Contains a.history.names pass.note.name) l) (sym empty.passes) (All-nil (λ (pass : Pass). Contains a.history.names pass.note.name));
        points_room = omega (arith, no_points);
        objects_room = omega (arith, no_objects);
        keeps = empty.keeps;
      }

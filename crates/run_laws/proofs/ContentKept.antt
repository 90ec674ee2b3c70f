-- The parts of steps: passes, versions and points that come, go or change keep the directory's bytes those of the map.
use Rattle.std.proofs.Common.{◌≡◌, ℕ, ◌<◌, not, List, [], ◌∷◌, ◌++◌, length, filter, Option, None, Some, IfSome, All, refl, sym, subst, ◌∙◌, inl, inr, arith}
use Rattle.std.proofs.lemmas.Option.{same_Some}
use Rattle.std.proofs.lemmas.List.Elements.{All-filter, All-push, All-contains}
use Rattle.store_map.specs.declared.actor.Actor.{Actor}
use Rattle.store_core.specs.Told.{Told}
use Rattle.store_core.specs.Note.{Kind}
use Rattle.store_core.specs.Directory.{Object, Standing, Version, Pass, Point, Directory}
use Rattle.store_core.specs.Lookups.{same_actor, pass_of}
use Rattle.store_core.specs.PassSteps.{close_pass, give_up_drawn}
use Rattle.store_core.specs.AtDirectory.{unless_reaped, on_pass}
use Rattle.store_core.specs.SoundPasses.{HasBase, IsRight}
use Rattle.store_core.specs.Sound.{IsSound}
use Rattle.store_core.specs.Content.{contents_by}
use Rattle.run_laws.proofs.SoundLists.{all_by}
use Rattle.run_laws.proofs.SoundParts.{RightThere}
use Rattle.run_laws.proofs.SoundAdds.{Follows, with_point}
use Rattle.run_laws.proofs.SoundClose.{IsHeld, held_pass}
use Rattle.store_core.specs.Calls.{Calls}
use Rattle.run_laws.specs.MapAfter.{map_by}
use Rattle.run_laws.specs.Contents.{stripes_in, stored_in, pins_of, HasPins, KeepsBytes, HasBytes}
use Rattle.run_laws.proofs.ContentGrows.{origins, same_contents, set_keeps}
use Rattle.run_laws.proofs.Replayed.{IsCalled}

module _ (calls : Calls) where
  -- a directory's contents
  abbrev pub contents_now : Directory → List (List ℕ)
  contents_now d = contents_by d.shape calls d.versions

  -- what is kept of each pass
  abbrev pub KeptThere : Directory → Pass → Type 0
  KeptThere d pass = KeepsBytes calls d.shape d.objects (contents_now d) d.points pass

  -- ---- passes
  pub passes_kept : (d : Directory) (passes : List Pass) → HasBytes calls d → All (KeptThere d) passes → HasBytes calls (record d { passes = passes })
  passes_kept d passes has all = record { contents = has.contents; points = has.points; passes = all }

  -- one closes
  pub closed_kept : (pass : Pass) (d : Directory) → HasBytes calls d → HasBytes calls (close_pass pass d)
  closed_kept pass d has =
      passes_kept d (filter (λ other. not (same_actor pass.actor other.actor)) d.passes) has (All-filter (λ (other : Pass). not (same_actor pass.actor other.actor)) (KeptThere d) d.passes has.passes)

  -- ---- versions that keep what they are laid over
  pub moved_kept : (d : Directory) (versions : List Version) → origins versions ≡ origins d.versions → HasBytes calls d → HasBytes calls (record d { versions = versions })
  moved_kept d versions same has =
      let e : contents_by d.shape calls d.versions ≡ contents_by d.shape calls versions = sym (same_contents calls d.shape d.versions versions same) in
      record {
        contents = subst (λ cs. stored_in cs d.objects ≡ stripes_in d.shape (map_by calls d.max d.points)) e has.contents;
        points = has.points;
        passes = subst (λ cs. All (KeepsBytes calls d.shape d.objects cs d.points) d.passes) e has.passes;
      }

  -- drawn ones are given up
  pub given_up_kept : (pass : Pass) (d : Directory) → HasBytes calls d → HasBytes calls (give_up_drawn pass d)
  given_up_kept pass d has = moved_kept d (give_up_drawn pass d).versions (set_keeps Standing.Superseded pass.drawn d.versions) has

  -- a pass ends without a commit
  pub ended_kept : (pass : Pass) (d : Directory) → HasBytes calls d → HasBytes calls (close_pass pass (give_up_drawn pass d))
  ended_kept pass d has = closed_kept pass (give_up_drawn pass d) (given_up_kept pass d has)

  -- ---- a point, where objects and versions may change with it
  pub point_kept : (d : Directory) (objects : List Object) (versions : List Version) (point : Point) → IsSound d → HasBytes calls d → origins versions ≡ origins d.versions → IsCalled calls point
      → ((name : List ℕ) → Follows d objects point name)
      → stored_in (contents_now d) objects ≡ stripes_in d.shape (map_by calls d.max (d.points ++ point ∷ [])) → HasBytes calls (with_point d objects versions point)
  point_kept d objects versions point sound has same called follows stored =
      let e : contents_by d.shape calls d.versions ≡ contents_by d.shape calls versions = sym (same_contents calls d.shape d.versions versions same) in
      record {
        contents = subst (λ cs. stored_in cs objects ≡ stripes_in d.shape (map_by calls d.max (d.points ++ point ∷ []))) e stored;
        points = All-push (IsCalled calls) d.points point has.points called;
        passes = subst (λ cs. All (KeepsBytes calls d.shape objects cs (d.points ++ point ∷ [])) d.passes) e
            (all_by (KeepsBytes calls d.shape objects (contents_now d) (d.points ++ point ∷ [])) d.passes
            (λ pass c.
            let old : KeptThere d pass = All-contains (KeptThere d) d.passes pass has.passes c in
            let right : IsRight d pass pass.note.kind = All-contains (RightThere d) d.passes pass sound.calls c in
            record { call = old.call; pins = pins_follow pass pass.note.kind right old.pins; drawn = old.drawn }));
      }
    where
      written : (pass : Pass) → HasBase d pass → Follows d objects point pass.note.name → HasPins d.shape d.objects d.points pass Kind.Write → HasPins d.shape objects (d.points ++ point ∷ []) pass Kind.Write
      written pass base (inl unchanged) pins e =
          subst (λ (o : Option Object). IfSome o (λ object. pass.pinned ≡ pins_of d.shape pass.note object)) (sym unchanged.1) (pins (e ∙ unchanged.0))
      written pass base (inr new) pins e =
          let less : base.base < length d.points = base.within in
          let at : base.base ≡ length d.points = same_Some base.base (length d.points) (sym base.is_base ∙ e ∙ new) in
          absurd (omega (arith, less, at))

      pins_follow : (pass : Pass) (kind : Kind) → IsRight d pass kind → HasPins d.shape d.objects d.points pass kind → HasPins d.shape objects (d.points ++ point ∷ []) pass kind
      pins_follow pass Kind.Put right pins = tt
      pins_follow pass Kind.Write right pins = written pass right (follows pass.note.name) pins
      pins_follow pass Kind.Get right pins = tt
      pins_follow pass Kind.ReadAt right pins = tt
      pins_follow pass Kind.Stat right pins = tt
      pins_follow pass Kind.Delete right pins = tt
      pins_follow pass Kind.Rebuild right pins = tt

  -- ---- steps on a pass
  pub on_pass_kept : (who : Actor) (d : Directory) → HasBytes calls d → (step : Pass → Directory → Directory × Told)
      → ((pass : Pass) → pass_of who d ≡ Some pass → IsHeld d pass → pass.reaped ≡ None → IsSound (step pass d).0 → HasBytes calls (step pass d).0)
      → IsSound (on_pass step (pass_of who d) d).0 → HasBytes calls (on_pass step (pass_of who d) d).0
  on_pass_kept who d has step keeps sound_after = by (pass_of who d) refl sound_after
    where
      open_or_not : (pass : Pass) → pass_of who d ≡ Some pass → (reaped : Option ℕ) → pass.reaped ≡ reaped → IsSound (unless_reaped step pass reaped d).0 → HasBytes calls (unless_reaped step pass reaped d).0
      open_or_not pass e None live now = keeps pass e (held_pass who d pass e) live now
      open_or_not pass e (Some point) dead now = closed_kept pass d has

      by : (found : Option Pass) → pass_of who d ≡ found → IsSound (on_pass step found d).0 → HasBytes calls (on_pass step found d).0
      by None e now = has
      by (Some pass) e now = open_or_not pass e pass.reaped refl now

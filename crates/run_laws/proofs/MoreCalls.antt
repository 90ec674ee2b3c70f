-- Calls that come later change nothing of what is kept.
use Rattle.std.proofs.Common.{◌≡◌, ◌⊎◌, ℕ, ◌+◌, Bool, List, [], ◌∷◌, ◌++◌, map, fold, Some, All, refl, sym, ap, subst, ◌∙◌, inl, inr}
use Rattle.std.proofs.lemmas.Option.{same_Some}
use Rattle.std.proofs.lemmas.List.Elements.{All-nil, All-cons, All-head, All-tail, All-weaker, All-append, All-map, All-contains}
use Rattle.clay_grid.specs.Shape.{Shape}
use Rattle.store_map.specs.PlainMap.{Objects}
use Rattle.store_map.specs.declared.actor.Actor.{Actor}
use Rattle.store_map.specs.declared.call.Call.{Call}
use Rattle.store_core.specs.Note.{Note, Kind}
use Rattle.store_core.specs.Act.{DirectoryStep}
use Rattle.store_core.specs.AtDirectory.{at_directory}
use Rattle.store_core.specs.Conditions.{MayStep}
use Rattle.store_core.specs.Directory.{Version, Pass, Point, Directory}
use Rattle.store_core.specs.PassSteps.{touched, new_version}
use Rattle.store_core.specs.Look.{stripes_between}
use Rattle.store_core.specs.Content.{lay_over, old_content, written_by, content_after, contents_by}
use Rattle.store_core.specs.History.{applied}
use Rattle.store_core.specs.SoundPasses.{IsRight}
use Rattle.store_core.specs.Sound.{IsSound}
use Rattle.run_laws.proofs.SoundLists.{all_by}
use Rattle.run_laws.proofs.SoundParts.{RightThere}
use Rattle.run_laws.proofs.SoundClose.{IsHeld, held_pass}
use Rattle.store_core.specs.Calls.{Calls, IsNoteOf}
use Rattle.run_laws.specs.MapAfter.{map_by}
use Rattle.run_laws.specs.Contents.{stripes_in, stored_in, KeepsBytes, HasBytes}
use Rattle.run_laws.specs.MoreCalls.{AreDrawnBy, StepsKeepDrawn, AreAmong, StaysByMore, MoreCallsChangeNothing}
use Rattle.run_laws.proofs.ContentCommits.{no_rebuild}
use Rattle.run_laws.proofs.ContentGrows.{origin_of, origins}
use Rattle.run_laws.proofs.ContentKept.{KeptThere}
use Rattle.run_laws.proofs.Maps.{at}
use Rattle.run_laws.proofs.Replayed.{IsCalled, step_map}
use Rattle.run_laws.proofs.VersionsMove.{Draws, versions_move}

-- ---- each version is drawn by a call
-- such a one
abbrev IsDrawn : Calls → Version → Type 0
IsDrawn calls version = (call : Call) × (calls version.actor version.number ≡ Some call)

-- it depends on what the version is laid over alone
to_origins : (calls : Calls) (versions : List Version) → All (IsDrawn calls) versions → All (IsDrawn calls) (origins versions)
to_origins calls versions all = All-map (IsDrawn calls) origin_of versions all

from_origins : (calls : Calls) (versions : List Version) → All (IsDrawn calls) (origins versions) → All (IsDrawn calls) versions
from_origins calls [] all = All-nil (IsDrawn calls)
from_origins calls (v ∷ vs) all =
    All-cons (IsDrawn calls) v vs (All-head (IsDrawn calls) (origin_of v) (origins vs) all) (from_origins calls vs (All-tail (IsDrawn calls) (origin_of v) (origins vs) all))

pub steps_keep_drawn : (calls : Calls) → StepsKeepDrawn calls
steps_keep_drawn calls =
    record {
      first = λ g max. All-nil (IsDrawn calls);
      step = λ short who number step d has drawn may. by short who number step d has drawn may (versions_move short who number step d).moved;
    }
  where
    by : (short : Bool) (who : Actor) (number : ℕ) (step : DirectoryStep) (d : Directory) → HasBytes calls d → AreDrawnBy calls d → MayStep d who number step
        → (origins (at_directory short who number step d).0.versions ≡ origins d.versions) ⊎ Draws who step d (at_directory short who number step d).0 → AreDrawnBy calls (at_directory short who number step d).0
    by short who number step d has drawn may (inl e) =
        from_origins calls (at_directory short who number step d).0.versions (subst (All (IsDrawn calls)) (sym e) (to_origins calls d.versions drawn))
    by short who number step d has drawn may (inr draws) =
        let may_draw : MayStep d who number DirectoryStep.Draw = subst (MayStep d who number) draws.is_draw may in
        let one : may_draw.0 ≡ draws.pass = same_Some may_draw.0 draws.pass (sym may_draw.1.is_pass ∙ draws.found) in
        let held : IsHeld d draws.pass = held_pass who d draws.pass draws.found in
        let call : IsDrawn calls (new_version draws.pass 0) =
        its_call draws.pass (All-contains (KeptThere calls d) d.passes draws.pass has.passes held.has).call (subst (λ (p : Pass). (p.note.kind ≡ Kind.Put) ⊎ (p.note.kind ≡ Kind.Write)) one may_draw.1.kind) in
        subst (All (IsDrawn calls)) (sym draws.versions)
        (All-append (IsDrawn calls) d.versions (map (new_version draws.pass) (touched d draws.pass.note)) drawn
        (All-map (IsDrawn calls) (new_version draws.pass) (touched d draws.pass.note) (λ k n less. call)))
      where
        its_call : (pass : Pass) → (pass.note.kind ≡ Kind.Rebuild) ⊎ IsNoteOf calls pass.actor pass.number pass.note → (pass.note.kind ≡ Kind.Put) ⊎ (pass.note.kind ≡ Kind.Write) → IsDrawn calls (new_version pass 0)
        its_call pass (inr h) writes = (h.0, h.1)
        its_call pass (inl e) writes = absurd (no_rebuild pass.note.kind e writes)

-- ---- more calls
module _ (calls more : Calls) (among : AreAmong calls more) where
  -- a call that is known stays
  same_call : (who : Actor) (number : ℕ) → (call : Call) × (calls who number ≡ Some call) → more who number ≡ calls who number
  same_call who number h = among who number h.0 h.1 ∙ sym h.1

  -- so contents do
  same_content : (g : Shape) (contents : List (List ℕ)) (version : Version) → IsDrawn calls version → content_after g more contents version ≡ content_after g calls contents version
  same_content g contents version drawn =
      ap (λ o. lay_over g version.stripe (old_content g contents version.base) (written_by o).0 (written_by o).1) (same_call version.actor version.number drawn)

  contents_from : (g : Shape) (versions : List Version) (before : List (List ℕ)) → All (IsDrawn calls) versions
      → fold (λ contents version. contents ++ content_after g more contents version ∷ []) before versions ≡ fold (λ contents version. contents ++ content_after g calls contents version ∷ []) before versions
  contents_from g [] before all = refl
  contents_from g (v ∷ vs) before all =
      contents_from g vs (before ++ content_after g more before v ∷ []) (All-tail (IsDrawn calls) v vs all)
      ∙ ap (λ x. fold (λ contents version. contents ++ content_after g calls contents version ∷ []) (before ++ x ∷ []) vs) (same_content g before v (All-head (IsDrawn calls) v vs all))

  -- and the map
  map_from : (most : ℕ) (points : List Point) (objects : Objects) → All (IsCalled calls) points → fold (step_map more most) objects points ≡ fold (step_map calls most) objects points
  map_from most [] objects all = refl
  map_from most (point ∷ points) objects all =
      map_from most points (step_map more most objects point) (All-tail (IsCalled calls) point points all)
      ∙ ap (λ m. fold (step_map calls most) m points) (by (All-head (IsCalled calls) point points all))
    where
      by : IsCalled calls point → step_map more most objects point ≡ step_map calls most objects point
      by (inr h) = ap (λ o. (applied most objects point.event o).0) (same_call point.actor point.number (h.0, h.1))
      by (inl e) =
          ap (λ event. (applied most objects event (more point.actor point.number)).0) e
          ∙ sym (ap (λ event. (applied most objects event (calls point.actor point.number)).0) e)

  -- a note's call is among more
  noted : (who : Actor) (number : ℕ) (note : Note) → IsNoteOf calls who number note → IsNoteOf more who number note
  noted who number note h = (h.0, among who number h.0 h.1, h.2)

  module _ (d : Directory) (sound : IsSound d) (has : HasBytes calls d) (drawn : AreDrawnBy calls d) where
    contents_same : contents_by d.shape more d.versions ≡ contents_by d.shape calls d.versions
    contents_same = contents_from d.shape d.versions [] drawn

    map_is : map_by more d.max d.points ≡ map_by calls d.max d.points
    map_is = map_from d.max d.points [] has.points

    -- a pass keeps its bytes
    pass_keeps : (pass : Pass) → IsRight d pass pass.note.kind → KeptThere calls d pass → KeepsBytes more d.shape d.objects (contents_by d.shape calls d.versions) d.points pass
    pass_keeps pass right kept = record { call = called kept.call; pins = kept.pins; drawn = by kept.call kept.drawn }
      where
        called : (pass.note.kind ≡ Kind.Rebuild) ⊎ IsNoteOf calls pass.actor pass.number pass.note → (pass.note.kind ≡ Kind.Rebuild) ⊎ IsNoteOf more pass.actor pass.number pass.note
        called (inl e) = inl e
        called (inr h) = inr (noted pass.actor pass.number pass.note h)

        of : Calls → List (List ℕ)
        of known = map (λ stripe. content_after d.shape known (contents_by d.shape calls d.versions) (new_version pass stripe)) (stripes_between d.shape pass.note.offset (pass.note.offset + pass.note.length))

        by : (pass.note.kind ≡ Kind.Rebuild) ⊎ IsNoteOf calls pass.actor pass.number pass.note → (pass.drawn ≡ []) ⊎ (map (at (contents_by d.shape calls d.versions)) pass.drawn ≡ of calls)
            → (pass.drawn ≡ []) ⊎ (map (at (contents_by d.shape calls d.versions)) pass.drawn ≡ of more)
        by known (inl e) = inl e
        by (inl e) (inr h) = inl (subst (IsRight d pass) e right)
        by (inr c) (inr h) =
            inr (
            h
            ∙ sym (ap (λ o. map (λ stripe. lay_over d.shape stripe (old_content d.shape (contents_by d.shape calls d.versions) (new_version pass stripe).base) (written_by o).0 (written_by o).1)
            (stripes_between d.shape pass.note.offset (pass.note.offset + pass.note.length))) (same_call pass.actor pass.number (c.0, c.1)))
            )

    stays_by_more : StaysByMore calls more d
    stays_by_more =
        record {
          contents = contents_same;
          map = map_is;
          bytes = record {
            contents = (λ i. stored_in (contents_same i) d.objects) ∙ has.contents ∙ sym (ap (stripes_in d.shape) map_is);
            points = All-weaker (IsCalled calls) (IsCalled more) (λ point h. point_called point h) d.points has.points;
            passes = subst (λ cs. All (KeepsBytes more d.shape d.objects cs d.points) d.passes) (sym contents_same)
                (all_by (KeepsBytes more d.shape d.objects (contents_by d.shape calls d.versions) d.points) d.passes
                (λ pass c. pass_keeps pass (All-contains (RightThere d) d.passes pass sound.calls c) (All-contains (KeptThere calls d) d.passes pass has.passes c)));
          };
          drawn = All-weaker (IsDrawn calls) (IsDrawn more) (λ version h. (h.0, among version.actor version.number h.0 h.1)) d.versions drawn;
        }
      where
        point_called : (point : Point) → IsCalled calls point → IsCalled more point
        point_called point (inl e) = inl e
        point_called point (inr h) = inr (noted point.actor point.number point.note h)

-- the law
pub more_calls_change_nothing : MoreCallsChangeNothing
more_calls_change_nothing calls more d sound has drawn among = stays_by_more calls more among d sound has drawn

-- No step changes the content of a version that is drawn.
use Rattle.std.proofs.Common.{◌≡◌, ◌⊎◌, ℕ, List, [], ◌++◌, map, sym, ap, ◌∙◌, inl, inr}
use Rattle.std.proofs.lemmas.List.{append-nil}
use Rattle.store_core.specs.Directory.{Directory}
use Rattle.store_core.specs.PassSteps.{touched, new_version}
use Rattle.store_core.specs.AtDirectory.{at_directory}
use Rattle.store_core.specs.Content.{contents_by}
use Rattle.run_laws.specs.ContentLaws.{ContentsStay}
use Rattle.run_laws.proofs.ContentGrows.{origins, same_contents, contents_grow}
use Rattle.run_laws.proofs.VersionsMove.{Draws, versions_move}

-- the law
pub contents_stay : ContentsStay
contents_stay calls short who number step d = by (versions_move short who number step d).moved
  where
    after : Directory
    after = (at_directory short who number step d).0

    by : (origins after.versions ≡ origins d.versions) ⊎ Draws who step d after → (more : List (List ℕ)) × (contents_by d.shape calls after.versions ≡ contents_by d.shape calls d.versions ++ more)
    by (inl e) = ([], same_contents calls d.shape d.versions after.versions e ∙ sym (append-nil (contents_by d.shape calls d.versions)))
    by (inr draws) =
        let more : (more : List (List ℕ)) × (contents_by d.shape calls (d.versions ++ map (new_version draws.pass) (touched d draws.pass.note)) ≡ contents_by d.shape calls d.versions ++ more) =
        contents_grow calls d.shape d.versions (map (new_version draws.pass) (touched d draws.pass.note)) in
        (more.0, ap (contents_by d.shape calls) draws.versions ∙ more.1)

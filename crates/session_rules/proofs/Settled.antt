-- Quiet places are settled.
use Rattle.std.proofs.Common.{◌≡◌, ◌⊎◌, ℕ, true, List, map, flat_map, All, IsTrue, refl, sym, ap, ◌∙◌, inl, inr}
use Rattle.std.proofs.lemmas.List.{map-append}
use Rattle.std.proofs.lemmas.Bool.{or_cases}
use Rattle.std.proofs.lemmas.List.Elements.{All-weaker}
use Rattle.store_core.specs.Lists.{is_among}
use Rattle.store_core.specs.Directory.{Standing}
use Rattle.store_core.specs.Lookups.{is_pinned}
use Rattle.store_core.specs.Server.{Server}
use Rattle.session_rules.specs.Seen.{version_of, all_numbers, snapshot_numbers, live_numbers}
use Rattle.session_rules.specs.Quiet.{IsKept}
use Rattle.session_rules.specs.Settled.{QuietIsSettled}
use Rattle.session_rules.proofs.Counting.{among_append}
use Rattle.session_rules.proofs.Garbage.{flat_versions, current_in}
use Rattle.session_rules.proofs.Quiet.{flat_stood}
use Rattle.session_rules.proofs.Kept.{KeptAt, among_mapped, kept_of, passes_stand}

pub quiet_is_settled : QuietIsSettled
quiet_is_settled g max stands p s h pinned quiet = record {
  passes = quiet.passes;
  held =
      All-weaker (λ (server : Server). All (λ version. IsTrue (is_among version (map (version_of stands) (live_numbers s)))) server.held) (λ (server : Server). All (IsKept p.directory) server.held)
      (λ server all. All-weaker (λ version. IsTrue (is_among version (map (version_of stands) (live_numbers s)))) (IsKept p.directory) kept server.held all) p.servers quiet.held;
  standing = quiet.standing;
}
  where
    by : (v : ℕ) → (is_among v (map (version_of stands) (all_numbers s.numbers)) ≡ true) ⊎ (is_among v (map (version_of stands) (snapshot_numbers s.snapshot)) ≡ true) → KeptAt p.directory.versions v
    by v (inl here) =
        kept_of p.directory Standing.Current v refl
        (current_in p.directory p.directory.objects v h.sound.objects
        (ap (is_among v) (sym (flat_versions p.directory.objects) ∙ ap (flat_map (λ (object : List ℕ × List ℕ). object.1)) h.versions ∙ flat_stood stands s.numbers) ∙ here))
    by v (inr kept_by) =
        let n : (n : ℕ) × (is_among n (snapshot_numbers s.snapshot) ≡ true) × (version_of stands n ≡ v) = among_mapped (version_of stands) v (snapshot_numbers s.snapshot) kept_by in
        let held : is_pinned p.directory v ≡ true = ap (is_pinned p.directory) (sym n.2) ∙ pinned n.0 n.1 in
        passes_stand p.directory v p.directory.passes h.sound.live held

    kept : (v : ℕ) → IsTrue (is_among v (map (version_of stands) (live_numbers s))) → IsKept p.directory v
    kept v e =
        by v (or_cases (is_among v (map (version_of stands) (all_numbers s.numbers))) (is_among v (map (version_of stands) (snapshot_numbers s.snapshot)))
        (sym (ap (is_among v) (map-append (version_of stands) (all_numbers s.numbers) (snapshot_numbers s.snapshot))
        ∙ among_append v (map (version_of stands) (all_numbers s.numbers)) (map (version_of stands) (snapshot_numbers s.snapshot))) ∙ e))

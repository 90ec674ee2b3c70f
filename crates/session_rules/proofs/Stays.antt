-- Places that differ in points and in what was taken alone are seen as the same state.
use Rattle.std.proofs.Common.{◌≡◌, ℕ, false, List, [], length, map, get_or, slice_get, Some, option_map, All, IsTrue, sym, ap, subst, ◌∙◌}
use Rattle.std.proofs.lemmas.Option.{slice_get-map}
use Rattle.std.proofs.lemmas.List.{length-map}
use Rattle.std.proofs.lemmas.Simd.{map-map}
use Rattle.store_core.specs.Lists.{is_among}
use Rattle.store_core.specs.Directory.{Object, Directory}
use Rattle.store_core.specs.Lookups.{is_pinned, first_garbage, holds_standing}
use Rattle.store_core.specs.Look.{placed_of}
use Rattle.store_core.specs.Server.{Server}
use Rattle.store_core.specs.Step.{Places}
use Rattle.store_core.specs.Sound.{IsSound}
use Rattle.run_laws.proofs.SoundLists.{all_at, at_all}
use Rattle.session_rules.specs.State.{State as Session}
use Rattle.session_rules.specs.Seen.{version_of, live_numbers, snapshot_numbers, StandsFor, IsSeenAs, IsOfSnapshot, IsAtRest, IsQuiet}
use Rattle.session_rules.specs.Sweeps.{KeepsPinned}
use Rattle.session_rules.specs.Quiet.{is_kept_standing, IsKept, IsSettled}
use Rattle.session_rules.proofs.Walks.{untaken}
use Rattle.session_rules.proofs.Names.{is_some_by}

-- ---- places that differ in points and takes alone
-- a directory but for its points
pub record Same (d e : Directory) : Type 0 where
  pub shape : e.shape ≡ d.shape
  pub most : e.max ≡ d.max
  pub objects : e.objects ≡ d.objects
  pub versions : e.versions ≡ d.versions
  pub passes : e.passes ≡ d.passes
  pub sound : IsSound e

-- what is read of servers without what was taken from them
read_of : {X : Type 0} (f : Server → X) (servers first : List Server) → map untaken servers ≡ map untaken first → map (λ s. f (untaken s)) servers ≡ map (λ s. f (untaken s)) first
read_of f servers first now = sym (map-map f untaken servers) ∙ ap (map f) now ∙ map-map f untaken first

all_still : (P : Server → Type 0) → ((s to : Server) → untaken s ≡ untaken to → P s → P to) → (servers first : List Server) → map untaken servers ≡ map untaken first → All P first → All P servers
all_still P moves servers first now all = all_at P servers by
  where
    by : (i : ℕ) (x : Server) → slice_get servers i ≡ Some x → P x
    by i x e =
        let same : option_map untaken (slice_get first i) ≡ Some (untaken x) = sym (slice_get-map untaken first i) ∙ sym (ap (λ xs. slice_get xs i) now) ∙ slice_get-map untaken servers i ∙ ap (option_map untaken) e in
        let y : (y : Server) × (slice_get first i ≡ Some y) × (untaken y ≡ untaken x) = is_some_by untaken (slice_get first i) (untaken x) same in
        moves y.0 x y.2 (at_all P first i y.0 all y.1)

module _ (stands : List ℕ) (p : Places) (s : Session) where
  pub kept_seen : (q : Places) → Same p.directory q.directory → map untaken q.servers ≡ map untaken p.servers → IsSeenAs p.directory.shape p.directory.max stands p s →
      IsSeenAs p.directory.shape p.directory.max stands q s
  kept_seen q same now h = record {
    shape = same.shape;
    most = same.most;
    sound = same.sound;
    servers = sym (length-map q.servers untaken) ∙ ap length now ∙ length-map p.servers untaken ∙ h.servers;
    present = all_still (λ (one : Server). one.away ≡ false) (λ one to alike away. sym (ap (λ (s : Server). s.away) alike) ∙ away) q.servers p.servers now h.present;
    epochs = read_of (λ (one : Server). one.epoch) q.servers p.servers now ∙ h.epochs;
    lengths = ap (map (λ (object : Object). let pair : List ℕ × ℕ = (object.name, object.length) in pair)) same.objects ∙ h.lengths;
    versions = ap (map (λ (object : Object). let pair : List ℕ × List ℕ = (object.name, object.versions) in pair)) same.objects ∙ h.versions;
    count = h.count;
    apart = h.apart;
    timely = h.timely;
    names = h.names;
    stripes = λ number live.
        let was : StandsFor p (get_or s.stripes number []) (version_of stands number) = h.stripes number live in
        record {
          placed = ap (λ versions. placed_of (slice_get versions (version_of stands number))) same.versions ∙ was.placed;
          held = read_of (λ (one : Server). is_among (version_of stands number) one.held) q.servers p.servers now ∙ was.held;
        };
  }

  pub kept_quiet : (q : Places) → Same p.directory q.directory → map untaken q.servers ≡ map untaken p.servers → IsQuiet stands p s → IsQuiet stands q s
  kept_quiet q same now h = record {
    passes = subst (λ passes. All (IsOfSnapshot (map (version_of stands) (snapshot_numbers s.snapshot))) passes) (sym same.passes) h.passes;
    clean =
        ap (λ versions. first_garbage (record (p.directory) { versions = versions; passes = q.directory.passes })) same.versions
        ∙ ap (λ passes. first_garbage (record (p.directory) { passes = passes })) same.passes ∙ h.clean;
    held =
        all_still (λ (one : Server). All (λ version. IsTrue (is_among version (map (version_of stands) (live_numbers s)))) one.held)
        (λ one to alike all. subst (λ held. All (λ version. IsTrue (is_among version (map (version_of stands) (live_numbers s)))) held) (ap (λ (s : Server). s.held) alike) all) q.servers p.servers now h.held;
    standing = subst (λ versions. All IsAtRest versions) (sym same.versions) h.standing;
  }

  pub kept_pinned : (q : Places) → Same p.directory q.directory → KeepsPinned stands p s → KeepsPinned stands q s
  kept_pinned q same pinned number live =
      ap (λ passes. is_pinned (record (p.directory) { passes = passes }) (version_of stands number)) same.passes ∙ pinned number live

  pub kept_settled : (q : Places) → Same p.directory q.directory → map untaken q.servers ≡ map untaken p.servers → IsSettled stands p s → IsSettled stands q s
  kept_settled q same now was = record {
    passes = subst (λ passes. All (IsOfSnapshot (map (version_of stands) (snapshot_numbers s.snapshot))) passes) (sym same.passes) was.passes;
    held =
        all_still (λ (one : Server). All (IsKept q.directory) one.held)
        (λ one to alike all. subst (λ held. All (IsKept q.directory) held) (ap (λ (s : Server). s.held) alike) all) q.servers p.servers now
        (subst (λ versions. All (λ (one : Server). All (λ version. IsTrue (holds_standing is_kept_standing (slice_get versions version))) one.held) p.servers) (sym same.versions) was.held);
    standing = subst (λ versions. All IsAtRest versions) (sym same.versions) was.standing;
  }

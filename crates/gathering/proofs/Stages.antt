-- What has come by the time that a stage is reached.
-- What has come is said by stage alone (Keeps), so the lemmas follow the stage functions one by one (keeps_make, keeps_look) and no
-- position is looked into; the tactics find the step at the server from chunk_server's clause core. A part's layers are consecutive, but
-- no lemma says so: from layer z on, take (to - z * width) of what the layers give is that of the chunk (an induction on the layers
-- left), which gives both the room and the bytes.
use Rattle.std.proofs.Common.{◌≡◌, ℕ, zero, suc, ◌+◌, ◌≤◌, nat_lt, true, false, cond, ◌||◌, List, [], ◌∷◌, length, map, get_or, count_by, None, is_some, refl, sym, ap, subst, ◌∙◌, arith}
use Rattle.std.proofs.lemmas.Bool.{true≢false, cond_both, eq-eqb}
use Rattle.std.proofs.lemmas.List.Sums.{sum_by-cons}
use Rattle.clay_grid.specs.Shape.{Shape}
use Rattle.store_core.specs.Lists.{is_among}
use Rattle.store_core.specs.Told.{Seen, Lost}
use Rattle.store_core.specs.Gathering.{Part, servers_but}
use Rattle.store_core.specs.GatheringParts.{chunks_in_range}
use Rattle.run_laws.specs.Stage.{Aim, Stage}
use Rattle.run_laws.specs.Stages.{unless_many, whole_stage, repair_stage, recover_stage, make_stage, look_stage, data_stage, fetch_stage, fetch_stage_of}
use Rattle.gathering.specs.Servers.{AreApart, wanted_servers, TargetIsGone, AreServers}
use Rattle.gathering.specs.Parts.{Shelf, AreNone, HaveCome, AllHaveCome}
use Rattle.gathering.specs.Kept.{CanMake, Keeps}
use Rattle.gathering.proofs.Among.{but_apart, but_asked, but_left}

nothing : (shelf : Shelf) → AreNone shelf → count_by is_some shelf ≡ 0
nothing [] none = refl
nothing (place ∷ shelf) none =
    let first : cond (is_some place) 1 0 ≡ 0 = ap (λ o. cond (is_some o) 1 0) (none 0) in
    let rest : count_by is_some shelf ≡ 0 = nothing shelf (λ server. none (suc server)) in
    sum_by-cons (λ o. cond (is_some o) 1 0) place shelf ∙ added (cond (is_some place) 1 0) (count_by is_some shelf) first rest
  where
    added : (a b : ℕ) → a ≡ 0 → b ≡ 0 → a + b ≡ 0
    added a b e f = omega (arith, e, f)

no_one : (server : ℕ) → is_among server [] ≡ true → ⊥
no_one server h = true≢false (sym h)

module _ (g : Shape) (aim : Aim) (gone : List ℕ) (parts helpers : Shelf) where
  can_make_many : (servers : List ℕ) → 2 ≤ length servers → g.data_count ≤ count_by is_some helpers → CanMake g servers helpers
  can_make_many [] many h = absurd (omega (arith, many))
  can_make_many (lost ∷ []) many h = absurd (omega (arith, many))
  can_make_many (lost ∷ other ∷ more) many h = h

  pub keeps_whole : (servers : List ℕ) (wanted : ℕ) (missing : List Lost)
      → HaveCome (wanted_servers g aim) [] gone parts → TargetIsGone aim gone → 2 ≤ length gone → AreApart servers
      → ((server : ℕ) → is_among server servers ≡ true → get_or helpers server None ≡ None) → count_by is_some helpers + wanted ≡ g.data_count
      → Keeps g aim gone parts helpers (whole_stage g servers wanted missing)
  keeps_whole servers zero missing have target many apart empty enough =
      record { wanted = have; target = target; helping = can_make_many gone many (omega (arith, enough)) }
  keeps_whole [] (suc wanted) missing have target many apart empty enough = tt
  keeps_whole (server ∷ more) (suc wanted) missing have target many apart empty enough =
      record { wanted = have; target = target; many = many; apart = apart; empty = empty; enough = enough }

  pub keeps_repair : (servers : List ℕ) (lost : Lost)
      → HaveCome (wanted_servers g aim) [] gone parts → TargetIsGone aim gone → gone ≡ lost.server ∷ [] → AllHaveCome g servers gone helpers
      → is_among lost.server servers ≡ false → get_or helpers lost.server None ≡ None
      → Keeps g aim gone parts helpers (repair_stage g servers lost)
  keeps_repair [] lost have target only others apart empty =
      record {
        wanted = have;
        target = target;
        helping = subst (λ l. CanMake g l helpers) (sym only) (subst (λ l. AllHaveCome g [] l helpers) only others, empty);
      }
  keeps_repair (server ∷ more) lost have target only others apart empty =
      record { wanted = have; target = target; only = only; others = others; not_asked = apart; empty = empty }

  -- the servers that a recovery asks are just those that aren't missing
  pub keeps_recover : (seen : Seen) (missing : List Lost)
      → HaveCome (wanted_servers g aim) [] gone parts → TargetIsGone aim gone → AreServers missing gone → 2 ≤ length gone → AreNone helpers
      → Keeps g aim gone parts helpers (recover_stage g seen missing)
  keeps_recover seen missing have target servers many none =
      keeps_whole (servers_but g seen (map (λ (lost : Lost). lost.server) missing)) g.data_count missing have target many
      (but_apart g seen (map (λ (lost : Lost). lost.server) missing)) (λ server _. none server)
      (omega (arith, nothing helpers none))

  pub keeps_make : (seen : Seen) (missing : List Lost)
      → HaveCome (wanted_servers g aim) [] gone parts → TargetIsGone aim gone → AreServers missing gone → AreNone helpers
      → Keeps g aim gone parts helpers (make_stage g seen missing)
  keeps_make seen [] have target servers none =
      record { wanted = have; target = target; helping = subst (λ l. CanMake g l helpers) servers tt }
  keeps_make seen (lost ∷ []) have target servers none =
      keeps_repair (servers_but g seen (lost.server ∷ [])) lost have target (sym servers)
      (λ server below out apart.
      absurd (true≢false (sym (but_left g seen (lost.server ∷ []) server below out) ∙ ap (is_among server) servers ∙ apart)))
      (but_asked g seen (lost.server ∷ []) lost.server (itself lost.server))
      (none lost.server)
    where
      itself : (server : ℕ) → is_among server (server ∷ []) ≡ true
      itself server = ap (λ b. b || false) (eq-eqb server server refl)
  keeps_make seen (lost ∷ other ∷ more) have target servers none =
      keeps_recover seen (lost ∷ other ∷ more) have target servers (subst (λ l. 2 ≤ length l) servers (omega arith)) none

  pub keeps_look : (seen : Seen) (servers : List ℕ) (missing : List Lost)
      → HaveCome (wanted_servers g aim) [] gone parts → TargetIsGone aim gone → AreServers missing gone → AreNone helpers
      → Keeps g aim gone parts helpers (look_stage g seen servers missing)
  keeps_look seen [] missing have target servers none = keeps_make seen missing have target servers none
  keeps_look seen (server ∷ more) missing have target servers none =
      record { wanted = have; target = target; servers = servers; none = none }

  keeps_data : (part : Part) (missing : List Lost)
      → HaveCome (wanted_servers g aim) [] gone parts → TargetIsGone aim gone → AreServers missing gone → AreNone helpers
      → Keeps g aim gone parts helpers (data_stage g part missing)
  keeps_data part [] have target servers none = record { wanted = have; target = target; helping = subst (λ l. CanMake g l helpers) servers tt }
  keeps_data part (lost ∷ more) have target servers none =
      keeps_look part.seen (servers_but g part.seen (chunks_in_range g part.start part.end)) (lost ∷ more) have target servers none

  pub keeps_fetch : (part : Part) (servers : List ℕ) (missing : List Lost)
      → HaveCome (wanted_servers g aim) servers gone parts → TargetIsGone aim gone → AreServers missing gone → AreNone helpers
      → Keeps g aim gone parts helpers (fetch_stage g part servers missing)
  keeps_fetch part [] missing have target servers none = keeps_data part missing have target servers none
  keeps_fetch part (server ∷ more) missing have target servers none =
      record { wanted = have; target = target; servers = servers; none = none }

  pub keeps_unless : (missing : List Lost) (otherwise : Stage) → Keeps g aim gone parts helpers otherwise
      → Keeps g aim gone parts helpers (unless_many g missing otherwise)
  keeps_unless missing otherwise h =
      cond_both {A = Stage} (nat_lt g.parity_count (length missing)) (Stage.TooMany missing) otherwise (Keeps g aim gone parts helpers) (λ _. tt) (λ _. h)

-- by the aim
pub keeps_fetch_of : (g : Shape) (aim : Aim) (gone : List ℕ) (parts helpers : Shelf) (servers : List ℕ) (missing : List Lost)
    → HaveCome (wanted_servers g aim) servers gone parts → TargetIsGone aim gone → AreServers missing gone → AreNone helpers
    → Keeps g aim gone parts helpers (fetch_stage_of g aim servers missing)
keeps_fetch_of g (Aim.Range part) gone parts helpers servers missing have target is none =
    keeps_fetch g (Aim.Range part) gone parts helpers part servers missing have target is none
keeps_fetch_of g (Aim.Chunk seen target) gone parts helpers servers missing have gone_first is none =
    keeps_look g (Aim.Chunk seen target) gone parts helpers seen (servers_but g seen (target ∷ [])) missing
    (λ server h. absurd (no_one server h)) gone_first is none

-- The steps of a sweeper, by what it needs.
use Rattle.std.proofs.Common.{◌≡◌, ℕ, ◌+◌, ◌<◌, nat_lt, Bool, true, false, Option, None, Some, option_map, if◌then◌else◌, refl, sym, ap, ◌∙◌}
use Rattle.std.proofs.lemmas.Bool.{ltb-true}
use Rattle.store_map.specs.declared.actor.Actor.{Actor}
use Rattle.store_map.specs.declared.actor.Version.{Version}
use Rattle.store_core.specs.Told.{Told}
use Rattle.store_core.specs.Act.{Act, DirectoryStep, ServerStep}
use Rattle.store_core.specs.ActPlace.{place_of}
use Rattle.store_core.specs.Directory.{Directory}
use Rattle.store_core.specs.AtDirectory.{at_directory}
use Rattle.store_core.specs.Server.{Server, at_server}
use Rattle.store_core.specs.Sweep.{Sweeper}
use Rattle.call_steps.specs.declared.need.Need.TheVariants as need
use Rattle.call_steps.specs.declared.answer.DirectoryAnswer.TheVariants as there
use Rattle.call_steps.specs.Answers.{directory_answer}
use Rattle.sweeper.specs.Sweeps.{SweeperOf, new_sweeper, need_at, need_of, heard, at_directory_by, at_server_by, stepped_at_directory, stepped_at_server}
use Rattle.sweeper.specs.Sweeps.{told_at_directory, told_at_directory_by, told_at_server, told_at_server_by}
use Rattle.sweeper.specs.Inside.{standing}

abbrev pub sweeping : ℕ → ℕ → ℕ → SweeperOf
sweeping servers version server = record { servers = servers; at = Sweeper.Sweeping version server }

abbrev pub stands : ℕ → Option Version → ℕ → SweeperOf
stands servers version server = record { servers = servers; at = standing version server }

-- at the directory each server has discarded its chunk
past : (servers version server : ℕ) → need_of (sweeping servers version server) ≡ need.Directory → nat_lt server servers ≡ false
past servers version server h = by (nat_lt server servers) h
  where
    by : (b : Bool) → need_at (place_of (if b then Act.AtServer server (ServerStep.Discard version) else Act.AtDirectory (DirectoryStep.Swept version))) ≡ need.Directory → b ≡ false
    by true h = cc
    by false h = refl

-- at a server it is that onturns turn
present : (servers version server number : ℕ) → need_of (sweeping servers version server) ≡ need.Server number → nat_lt server servers ≡ true
present servers version server number h = by (nat_lt server servers) h
  where
    by : (b : Bool) → need_at (place_of (if b then Act.AtServer server (ServerStep.Discard version) else Act.AtDirectory (DirectoryStep.Swept version))) ≡ need.Server number → b ≡ true
    by true h = refl
    by false h = cc

pub is_next : (servers version server number : ℕ) → need_of (sweeping servers version server) ≡ need.Server number → server < servers
is_next servers version server number h = ltb-true server servers (present servers version server number h)

-- a version is swept
pub swept_stepped : (who : Actor) (number servers version server : ℕ) (d after : Directory)
    → need_of (sweeping servers version server) ≡ need.Directory
    → (after, Told.Made) ≡ at_directory false who number (DirectoryStep.Swept version) d
    → (after, new_sweeper servers) ≡ stepped_at_directory who number (sweeping servers version server) d
swept_stepped who number servers version server d after h e =
    let turn : nat_lt server servers ≡ false = past servers version server h in
    (λ i. (after, record { servers = servers; at = if sym turn i then Sweeper.Sweeping version (server + 1) else Sweeper.Idle }))
    ∙ ap (λ (both : Directory × Told). (both.0, heard (sweeping servers version server) both.1)) e
    ∙ ap (λ b. at_directory_by (if b then Act.AtServer server (ServerStep.Discard version) else Act.AtDirectory (DirectoryStep.Swept version)) who number (sweeping servers version server) d) (sym turn)

-- a version is taken, or there is none
pub taken_stepped : (who : Actor) (number servers : ℕ) (found : Option Version) (d after : Directory)
    → (after, Told.Taken (option_map (λ (version : Version). version.0) found)) ≡ at_directory false who number DirectoryStep.NextGarbage d
    → (after, stands servers found 0) ≡ stepped_at_directory who number (new_sweeper servers) d
taken_stepped who number servers None d after e = ap (λ (both : Directory × Told). (both.0, heard (new_sweeper servers) both.1)) e
taken_stepped who number servers (Some version) d after e = ap (λ (both : Directory × Told). (both.0, heard (new_sweeper servers) both.1)) e

-- a server discards its chunk
pub discard_stepped : (servers version server number : ℕ) (s after : Server)
    → need_of (sweeping servers version server) ≡ need.Server number
    → (after, Told.Made) ≡ at_server false (ServerStep.Discard version) s
    → (after, sweeping servers version (server + 1)) ≡ stepped_at_server (sweeping servers version server) s
discard_stepped servers version server number s after h e =
    let turn : nat_lt server servers ≡ true = present servers version server number h in
    (λ i. (after, record { servers = servers; at = if sym turn i then Sweeper.Sweeping version (server + 1) else Sweeper.Idle }))
    ∙ ap (λ (both : Server × Told). (both.0, heard (sweeping servers version server) both.1)) e
    ∙ ap (λ b. at_server_by (if b then Act.AtServer server (ServerStep.Discard version) else Act.AtDirectory (DirectoryStep.Swept version)) (sweeping servers version server) s) (sym turn)

-- ---- what is told
pub swept_told : (who : Actor) (number servers version server : ℕ) (d after : Directory)
    → need_of (sweeping servers version server) ≡ need.Directory
    → (after, Told.Made) ≡ at_directory false who number (DirectoryStep.Swept version) d
    → directory_answer (told_at_directory who number (sweeping servers version server) d) ≡ Some there.Made
swept_told who number servers version server d after h e =
    ap (λ b. directory_answer (told_at_directory_by (if b then Act.AtServer server (ServerStep.Discard version) else Act.AtDirectory (DirectoryStep.Swept version)) who number d))
    (past servers version server h)
    ∙ ap (λ (both : Directory × Told). directory_answer both.1) (sym e)

pub taken_told : (who : Actor) (number servers : ℕ) (found : Option Version) (d after : Directory)
    → (after, Told.Taken (option_map (λ (version : Version). version.0) found)) ≡ at_directory false who number DirectoryStep.NextGarbage d
    → directory_answer (told_at_directory who number (new_sweeper servers) d) ≡ Some (there.Taken found)
taken_told who number servers None d after e = ap (λ (both : Directory × Told). directory_answer both.1) (sym e)
taken_told who number servers (Some version) d after e = ap (λ (both : Directory × Told). directory_answer both.1) (sym e)

pub discard_told : (servers version server number : ℕ) (s after : Server)
    → need_of (sweeping servers version server) ≡ need.Server number
    → (after, Told.Made) ≡ at_server false (ServerStep.Discard version) s
    → Told.Made ≡ told_at_server (sweeping servers version server) s
discard_told servers version server number s after h e =
    ap (λ (both : Server × Told). both.1) e
    ∙ ap (λ b. told_at_server_by (if b then Act.AtServer server (ServerStep.Discard version) else Act.AtDirectory (DirectoryStep.Swept version)) s)
    (sym (present servers version server number h))

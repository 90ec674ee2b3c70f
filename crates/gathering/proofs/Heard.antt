-- From a position to the one after an answer.
use Rattle.std.proofs.Common.{◌≡◌, ℕ, ◌+◌, ◌≤◌, List, length, take, refl, sym, ap, subst, ◌∙◌}
use Rattle.std.proofs.lemmas.List.{length-take-le}
use Rattle.clay_grid.specs.Shape.{Shape, chunk_count}
use Rattle.store_core.specs.Told.{Lost, Told}
use Rattle.run_laws.specs.Stage.{Aim, seen_of}
use Rattle.run_laws.specs.Stages.{whole_stage}
use Rattle.run_laws.specs.StageAfter.{next_stage}
use Rattle.gathering.specs.CourseServers.{asked_from}
use Rattle.gathering.specs.declared.ending.Ending.{Ending}
use Rattle.gathering.specs.declared.ending.Ending.TheVariants as ending
use Rattle.gathering.specs.declared.position.Position.{Position}
use Rattle.gathering.specs.declared.position.Position.TheVariants as position
use Rattle.gathering.specs.Positions.{stage_ended}
use Rattle.gathering.specs.Reaching.{BeginWith, GoesToWhole, GoesToRepair, GoesToLook, GoesToFetch}
use Rattle.gathering.specs.Hearing.{Hears}

pub begins : (gone : List ℕ) (n : ℕ) → n ≤ length gone → BeginWith (take n gone) gone
begins gone n h = ap (λ (k : ℕ). take k gone) (length-take-le n gone h)

module _ (g : Shape) (first gone : List ℕ) where
  -- of the position that it is
  hears_as : (p now : Position) (answer : Told) (result : Position) → p ≡ now → Hears g first gone now answer result → Hears g first gone p answer result
  hears_as p now answer result e heard = subst (λ (q : Position). Hears g first gone q answer result) (sym e) heard

  fetch_given : (result : Position) (at layers : ℕ) → GoesToFetch g first (at + 1) gone result → Hears g first gone (position.Fetch at) (Told.Given layers) result
  fetch_given result at layers goes (Aim.Range part) missing k = goes part missing k.servers k.is_first
  fetch_given result at layers goes (Aim.Chunk seen target) missing k = absurd k.fits

  pub given_fetch : (p result : Position) (at layers : ℕ) → p ≡ position.Fetch at → GoesToFetch g first (at + 1) gone result → Hears g first gone p (Told.Given layers) result
  given_fetch p result at layers e goes = hears_as p (position.Fetch at) (Told.Given layers) result e (fetch_given result at layers goes)

  pub given_repair : (p result : Position) (server layers : ℕ) → p ≡ position.Repair server → GoesToRepair g gone (server + 1) result → Hears g first gone p (Told.Given layers) result
  given_repair p result server layers e goes = hears_as p (position.Repair server) (Told.Given layers) result e (λ aim missing k. goes first missing)

  pub given_whole : (p result : Position) (server wanted counted layers : ℕ) (taken : List ℕ) → p ≡ position.Whole server wanted counted → counted ≤ length gone → taken ≡ take counted gone
      → GoesToWhole g taken (server + 1) wanted result → Hears g first gone p (Told.Given layers) result
  given_whole p result server wanted counted layers taken e fits is goes =
      hears_as p (position.Whole server wanted counted) (Told.Given layers) result e
      (λ aim missing k.
      goes first gone missing (subst (λ (l : List ℕ). BeginWith l gone) (sym is) (begins gone counted fits))
      ∙ ap (λ (l : List ℕ). whole_stage g (asked_from l (chunk_count g) (server + 1)) wanted missing) is)

  pub given_short_look : (p : Position) (server layers : ℕ) → p ≡ position.Look server → Hears g first gone p (Told.Given layers) (position.Ended ending.Short)
  given_short_look p server layers e = hears_as p (position.Look server) (Told.Given layers) (position.Ended ending.Short) e (λ aim missing k. refl)

  pub given_short_target : (p : Position) (server layers : ℕ) → p ≡ position.Target server → Hears g first gone p (Told.Given layers) (position.Ended ending.Short)
  given_short_target p server layers e = hears_as p (position.Target server) (Told.Given layers) (position.Ended ending.Short) e (λ aim missing k. refl)

  pub here_look : (p result : Position) (server : ℕ) → p ≡ position.Look server → GoesToLook g first gone (server + 1) result → Hears g first gone p Told.Here result
  here_look p result server e goes = hears_as p (position.Look server) Told.Here result e (λ aim missing k. goes (seen_of aim) missing k.servers)

  pub here_target : (p : Position) (server : ℕ) → p ≡ position.Target server → Hears g first gone p Told.Here (position.Ended ending.AtTarget)
  here_target p server e = hears_as p (position.Target server) Told.Here (position.Ended ending.AtTarget) e (λ aim missing k. refl)

  pub here_short_fetch : (p : Position) (at : ℕ) → p ≡ position.Fetch at → Hears g first gone p Told.Here (position.Ended ending.Short)
  here_short_fetch p at e = hears_as p (position.Fetch at) Told.Here (position.Ended ending.Short) e (λ aim missing k. refl)

  pub here_short_repair : (p : Position) (server : ℕ) → p ≡ position.Repair server → Hears g first gone p Told.Here (position.Ended ending.Short)
  here_short_repair p server e = hears_as p (position.Repair server) Told.Here (position.Ended ending.Short) e (λ aim missing k. refl)

  pub here_short_whole : (p : Position) (server wanted counted : ℕ) → p ≡ position.Whole server wanted counted → Hears g first gone p Told.Here (position.Ended ending.Short)
  here_short_whole p server wanted counted e = hears_as p (position.Whole server wanted counted) Told.Here (position.Ended ending.Short) e (λ aim missing k. refl)

  -- a gathering that has ended stays so
  ended_stays : (aim : Aim) (answer : Told) (missing : List Lost) (how : Ending) → stage_ended missing how ≡ next_stage g aim (stage_ended missing how) answer
  ended_stays aim answer missing ending.TooMany = refl
  ended_stays aim answer missing ending.AtTarget = refl
  ended_stays aim answer missing (ending.TargetAway downs) = refl
  ended_stays aim answer missing ending.Short = refl

  over_as : (p now : Position) (answer : Told) (result : Position) → p ≡ now → result ≡ p → Hears g first gone now answer now → Hears g first gone p answer result
  over_as p now answer result e r heard = hears_as p now answer result e (subst (λ (q : Position). Hears g first gone now answer q) (sym (r ∙ e)) heard)

  pub over_bytes : (p result : Position) (answer : Told) → p ≡ position.HasBytes → result ≡ p → Hears g first gone p answer result
  over_bytes p result answer e r = over_as p position.HasBytes answer result e r (λ aim missing k. refl)

  pub over_ended : (p result : Position) (answer : Told) (how : Ending) → p ≡ position.Ended how → result ≡ p → Hears g first gone p answer result
  over_ended p result answer how e r = over_as p (position.Ended how) answer result e r (λ aim missing k. ended_stays aim answer missing how)

-- Which positions fit an aim, and when too many servers are missing.
use Rattle.std.proofs.Common.{◌≡◌, ℕ, ◌<◌, ◌≤◌, Bool, cond, List, length, sym, ap, subst}
use Rattle.std.proofs.lemmas.Bool.{lt-ltb, le-ltb}
use Rattle.clay_grid.specs.Shape.{Shape}
use Rattle.run_laws.specs.Stage.{Aim}
use Rattle.gathering.specs.declared.ending.Ending.TheVariants as ending
use Rattle.gathering.specs.declared.position.Position.{Position}
use Rattle.gathering.specs.declared.position.Position.TheVariants as position
use Rattle.gathering.specs.Hearing.{FitsAim, IsAsking, KeepsAim, IsLate, IsNoTarget, or_too_many}

late_fits : (p : Position) → IsLate p → (aim : Aim) → FitsAim p aim
late_fits (position.Fetch at) h aim = absurd h
late_fits (position.Target server) h aim = absurd h
late_fits p h aim = tt

pub late_keeps : (p result : Position) → IsLate result → KeepsAim p result
late_keeps p result h aim fits = late_fits result h aim

no_target_fits : (p : Position) → IsNoTarget p → (at : ℕ) (aim : Aim) → FitsAim (position.Fetch at) aim → FitsAim p aim
no_target_fits (position.Target server) h at aim fits = absurd h
no_target_fits (position.Fetch other) h at (Aim.Range part) fits = tt
no_target_fits (position.Fetch other) h at (Aim.Chunk seen target) fits = absurd fits
no_target_fits p h at aim fits = tt

pub fetch_keeps : (p result : Position) (at : ℕ) → p ≡ position.Fetch at → IsNoTarget result → KeepsAim p result
fetch_keeps p result at e h aim fits = no_target_fits result h at aim (subst (λ (q : Position). FitsAim q aim) e fits)

pub same_keeps : (p result : Position) → result ≡ p → KeepsAim p result
same_keeps p result e aim fits = subst (λ (q : Position). FitsAim q aim) (sym e) fits

pub asks_on : (p result now : Position) → p ≡ now → IsAsking now → IsAsking result → IsAsking p
asks_on p result now e h later = subst IsAsking (sym e) h

pub same_asks : (p result : Position) → result ≡ p → IsAsking result → IsAsking p
same_asks p result e later = subst IsAsking e later

pub too_many : (g : Shape) (gone : List ℕ) (next : Position) → g.parity_count < length gone → position.Ended ending.TooMany ≡ or_too_many g gone next
too_many g gone next h = sym (ap (λ (b : Bool). cond b (position.Ended ending.TooMany) next) (lt-ltb g.parity_count (length gone) h))

pub not_too_many : (g : Shape) (gone : List ℕ) (next : Position) → length gone ≤ g.parity_count → next ≡ or_too_many g gone next
not_too_many g gone next h = sym (ap (λ (b : Bool). cond b (position.Ended ending.TooMany) next) (le-ltb g.parity_count (length gone) h))

-- What a gathering asks the server that it asks.
use Rattle.std.proofs.Common.{◌≡◌, ℕ, true, false, Option, None, Some, refl, sym, ap, true≢false}
use Rattle.std.proofs.lemmas.Option.{none-some, same_Some}
use Rattle.clay_grid.specs.Shape.{Shape}
use Rattle.store_map.specs.declared.actor.Version.{Version}
use Rattle.store_core.specs.Act.{ServerStep}
use Rattle.run_laws.specs.Stage.{Aim, Asking, Stage, seen_of}
use Rattle.run_laws.specs.StageAfter.{server_asked}
use Rattle.call_steps.specs.declared.act.ServerAct.{ServerAct}
use Rattle.call_steps.specs.declared.act.ServerAct.TheVariants as here
use Rattle.gathering.specs.Courses.{server_at, is_look}
use Rattle.gathering.specs.Gathers.{question_at}

module _ (g : Shape) (aim : Aim) (version : Version) (is : version.0 ≡ (seen_of aim).version) (server : ℕ) where
  abbrev has : ℕ → ℕ → Option (ℕ × ServerAct)
  has other n = Some (other, here.Has (record { 0 = n }))

  abbrev part : ℕ → ℕ → Option (ℕ × ServerAct)
  part other n = Some (other, here.Fetch (record { 0 = n }))

  pub asks_has : (stage : Stage) → is_look stage ≡ true → server_at g aim stage ≡ Some server → Some (server, here.Has version) ≡ question_at g aim stage
  asks_has (Stage.Asks (Asking.Look other more missing)) look asked = λ i. has (sym (same_Some other server asked) i) (is i)
  asks_has (Stage.Asks (Asking.Target other)) look asked = λ i. has (sym (same_Some other server asked) i) (is i)
  asks_has stage look asked = absurd (true≢false (sym look))

  pub asks_part : (stage : Stage) → is_look stage ≡ false → server_at g aim stage ≡ Some server → Some (server, here.Fetch version) ≡ question_at g aim stage
  asks_part (Stage.Asks (Asking.Fetch other more missing)) look asked = λ i. part (sym (same_Some other server asked) i) (is i)
  asks_part (Stage.Asks (Asking.Repair other more lost)) look asked = λ i. part (sym (same_Some other server asked) i) (is i)
  asks_part (Stage.Asks (Asking.Whole other more wanted missing)) look asked = λ i. part (sym (same_Some other server asked) i) (is i)
  asks_part (Stage.Asks (Asking.Look other more missing)) look asked = absurd (true≢false look)
  asks_part (Stage.Asks (Asking.Target other)) look asked = absurd (true≢false look)
  asks_part stage look asked = absurd (none-some server asked)

pub asks_none : (g : Shape) (aim : Aim) (stage : Stage) → server_at g aim stage ≡ None → None ≡ question_at g aim stage
asks_none g aim (Stage.Asks asking) none = absurd (none-some (server_asked g aim asking) (sym none))
asks_none g aim stage none = refl

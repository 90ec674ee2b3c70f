-- A step by the ticket as it was taken out and as it stood in its place, and that the directory agrees with the ticket that is left.
use Rattle.std.proofs.Common.{◌≡◌, ℕ, ◌<◌, Bool, sym, ap, subst, ◌∙◌}
use Rattle.clay_grid.specs.Shape.{stripe_length}
use Rattle.store_core.specs.Told.{Told}
use Rattle.store_core.specs.Act.{DirectoryStep}
use Rattle.store_core.specs.Directory.{Directory}
use Rattle.store_core.specs.AtDirectory.{at_directory}
use Rattle.store_core.specs.Sound.{IsSound}
use Rattle.store_core.specs.Agreement.{Seat, HeldPass, ActorToken, Agrees}
use Rattle.store_core.specs.Tokens.{actor_of, after_look, after_pass_step}
use Rattle.run_laws.specs.AgreementLaws.{GoesOn}
use Rattle.run_laws.proofs.OwnSteps.{agreement_goes_on}
use Rattle.call_steps.specs.TokenAfter.{token_after, MayMake}

-- by what the step comes to
goes : (core : Directory) (told : Told) (r : Directory × Told) (before now : ActorToken) (after : Told → ActorToken) → (core, told) ≡ r → now ≡ after told → GoesOn r.0 before (after r.1) → Agrees core now
goes core told r before now after made is on = subst (Agrees core) (sym is) (subst (λ (x : Directory × Told). Agrees x.0 (after x.1)) (sym made) on.agrees)

module _ (short : Bool) (number : ℕ) (d : Directory) (some : 0 < stripe_length d.shape) (sound : IsSound d) (core : Directory) (told : Told) (now : ActorToken) where
  -- of any step that the ticket's actor may make
  pub agrees_after : (token : ActorToken) (step : DirectoryStep) → Agrees d token → MayMake d token number step → (core, told) ≡ at_directory short (actor_of token) number step d
      → now ≡ token_after token number step told → Agrees core now
  agrees_after (ActorToken.Seated seat) (DirectoryStep.Look note) agrees may made is =
      goes core told (at_directory short seat.actor number (DirectoryStep.Look note) d) (ActorToken.Seated seat) now (after_look seat number note) made is (agreement_goes_on.look short seat number note d some sound agrees may)
  agrees_after (ActorToken.Seated seat) (DirectoryStep.LookRepair note) agrees may made is =
      goes core told (at_directory short seat.actor number (DirectoryStep.LookRepair note) d) (ActorToken.Seated seat) now (after_look seat number note) made is (agreement_goes_on.look_repair short seat number note d agrees may)
  agrees_after (ActorToken.Seated seat) step agrees may made is = absurd may
  agrees_after (ActorToken.InCall held) step agrees may made is =
      goes core told (at_directory short held.pass.actor held.pass.number step d) (ActorToken.InCall held) now (after_pass_step held) (made ∙ ap (λ n. at_directory short held.pass.actor n step d) (sym may.0)) is
      (agreement_goes_on.on_pass short held step d sound agrees may.1)

-- the step in the words of the ticket's place; what was told and whether memory was wanting are the same
module _ (number : ℕ) (step : DirectoryStep) (d core : Directory) (token : ActorToken) (short₀ short : Bool) (shorts : short₀ ≡ short) (told₀ told : Told) (same : told₀ ≡ told) where
  -- with a seat
  pub made_seated : (seat : Seat) → ActorToken.Seated seat ≡ token → (core, told₀) ≡ at_directory short₀ seat.actor number step d → (core, told) ≡ at_directory short (actor_of token) number step d
  made_seated seat is made = (λ i. (core, sym same i)) ∙ made ∙ (λ i. at_directory (shorts i) (actor_of (is i)) number step d)

  -- with a pass
  pub made_in_call : (held : HeldPass) → ActorToken.InCall held ≡ token → MayMake d token number step → (core, told₀) ≡ at_directory short₀ held.pass.actor held.pass.number step d
      → (core, told) ≡ at_directory short (actor_of token) number step d
  made_in_call held is may made =
      let numbers : held.pass.number ≡ number = (subst (λ t. MayMake d t number step) (sym is) may).0 in
      (λ i. (core, sym same i)) ∙ made ∙ (λ i. at_directory (shorts i) (actor_of (is i)) (numbers i) step d)

-- What a server counts rises by what its steps are given.
use Rattle.std.proofs.Common.{◌≡◌, ℕ, zero, suc, ◌+◌, ◌-◌, ◌^◌, ◌<◌, min, replicate, Bool, true, false, List, [], ◌∷◌, length, Some, refl, ap, ◌∙◌, arith}
use Rattle.std.proofs.lemmas.Bool.{cond_both}
use Rattle.std.proofs.lemmas.List.Sums.{sum_by-cons}
use Rattle.std.specs.Prelude.{sum_by}
use Rattle.std.specs.List.{slice_get}
use Rattle.store_map.specs.declared.placement.Placement.TheVariants as placement
use Rattle.store_core.specs.Lists.{is_among}
use Rattle.store_core.specs.Told.{Told}
use Rattle.store_core.specs.Act.{Act, ServerStep, server_takes_memory}
use Rattle.store_core.specs.Server.{Server, hold, raised_by, gives, found_at, install, made_at_server, server_unless_short, at_server}
use Rattle.thread_laws.specs.MadeSteps.{MadeStep}
use Rattle.thread_laws.specs.AtPlaces.{after_all, AllCome, server_act, server_next, ServerAnswers}
use Rattle.thread_laws.specs.Taken.{given_by, given}

-- a count after an answer
abbrev pub raised_told : Told → ℕ → ℕ
raised_told (Told.Given layers) count = raised_by layers count
raised_told answer count = count

-- ---- a step at a server
abbrev Gives : Server → Server × Told → Type 0
Gives s after = after.0.taken ≡ raised_told after.1 s.taken

installed_gives : (away there : Bool) (version : ℕ) (s : Server) → Gives s (install away there version s)
installed_gives true there version s = refl
installed_gives false true version s = refl
installed_gives false false version s = refl

made_gives : (step : ServerStep) (s : Server) → Gives s (made_at_server step s)
made_gives (ServerStep.Prepare version) s =
    cond_both {A = Server × Told} s.away (s, Told.Prepared (placement.Skipped s.downs)) (record s { held = hold version s.held }, Told.Prepared (placement.At s.epoch)) (Gives s) (λ _. refl) (λ _. refl)
made_gives (ServerStep.Settle version) s = refl
made_gives (ServerStep.Has version) s = cond_both {A = Server × Told} (gives version s) (s, Told.Here) (s, Told.Missing (found_at s)) (Gives s) (λ _. refl) (λ _. refl)
made_gives (ServerStep.Fetch version layers) s =
    cond_both {A = Server × Told} (gives version s) (record s { taken = raised_by (length layers) s.taken }, Told.Given (length layers)) (s, Told.Missing (found_at s)) (Gives s) (λ _. refl) (λ _. refl)
made_gives (ServerStep.Install version) s = installed_gives s.away (is_among version s.held) version s
made_gives (ServerStep.Discard version) s = refl
made_gives ServerStep.Wipe s = refl
made_gives ServerStep.Down s = refl
made_gives ServerStep.Up s = refl

short_gives : (short takes : Bool) (step : ServerStep) (s : Server) → Gives s (server_unless_short short takes step s)
short_gives true true step s = refl
short_gives true false step s = made_gives step s
short_gives false true step s = made_gives step s
short_gives false false step s = made_gives step s

-- ---- counts of 64 bits
counted : (server : ℕ) (step : ServerStep) (answer : Told) (total count : ℕ) → count ≡ min total (2 ^ 64 - 1) → raised_told answer count ≡ min (total + given_by (Act.AtServer server step) answer) (2 ^ 64 - 1)
counted server step (Told.Given layers) total count e = omega (arith, e)
counted server step answer total count e = omega (arith, e)

act_counted : (m : MadeStep) (act : Act) (s : Server) (total : ℕ) → (server_act m act s).1 ≡ m.answer → s.taken ≡ min total (2 ^ 64 - 1) → (server_act m act s).0.taken ≡ min (total + given_by act m.answer) (2 ^ 64 - 1)
act_counted m (Act.AtServer server step) s total answers e =
    short_gives m.shortage.step (server_takes_memory step) step s
    ∙ counted server step (at_server m.shortage.step step s).1 total s.taken e
    ∙ ap (λ answer. min (total + given_by (Act.AtServer server step) answer) (2 ^ 64 - 1)) answers
act_counted m (Act.AtDirectory step) s total answers e = omega (arith, e)
act_counted m (Act.Finish outcome) s total answers e = omega (arith, e)

-- along a list
pub list_counted : (steps : List MadeStep) (s : Server) (total : ℕ) → AllCome server_next ServerAnswers steps s → s.taken ≡ min total (2 ^ 64 - 1)
    → (after_all server_next steps s).taken ≡ min (total + sum_by given steps) (2 ^ 64 - 1)
list_counted [] s total come e = omega (arith, e)
list_counted (m ∷ steps) s total come e =
    let rest = list_counted steps (server_next m s) (total + given m) come.1 (act_counted m m.act s total come.0 e) in
    let sums : sum_by given (m ∷ steps) ≡ given m + sum_by given steps = sum_by-cons given m steps in
    let same : total + given m + sum_by given steps ≡ total + sum_by given (m ∷ steps) = omega (arith, sums) in
    rest ∙ ap (λ n. min n (2 ^ 64 - 1)) same

-- one of so many like servers
pub slice_get-replicate : {X : Type 0} (n i : ℕ) (x : X) → i < n → slice_get (replicate n x) i ≡ Some x
slice_get-replicate zero i x lt = absurd (omega (arith, lt))
slice_get-replicate (suc n) zero x lt = refl
slice_get-replicate (suc n) (suc i) x lt = slice_get-replicate n i x (omega (arith, lt))

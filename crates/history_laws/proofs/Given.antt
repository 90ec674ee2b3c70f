-- What a server gives is what the call that asked takes; and how often it was emptied.
use Rattle.std.proofs.Common.{◌≡◌, ℕ, zero, suc, ◌+◌, ◌-◌, ◌^◌, ◌<◌, min, Bool, true, false, List, [], ◌∷◌, length, get_or, Option, None, Some, ◌⊎◌, inl, inr, refl, sym, ap, subst, ◌∙◌, arith}
use Rattle.std.proofs.lemmas.Bool.{cond_both, cases_eq}
use Rattle.std.proofs.lemmas.Option.{same_Some, slice_get_within}
use Rattle.std.specs.List.{slice_get}
use Rattle.store_map.specs.declared.actor.Actor.{Actor}
use Rattle.store_core.specs.Act.{Act, ServerStep, server_takes_memory}
use Rattle.store_core.specs.Lists.{change_at, is_among}
use Rattle.store_map.specs.declared.placement.Placement.TheVariants as placement
use Rattle.store_core.specs.Server.{Server, hold, raised_by, gives, found_at, install, made_at_server, server_unless_short, at_server}
use Rattle.store_core.specs.Step.{Places, at_server_there, at_places, take_from}
use Rattle.store_core.specs.Told.{Told}
use Rattle.store_core.proofs.Places.{slice_get-change_at}
use Rattle.run_laws.proofs.SoundVersions.{change_here}
use Rattle.history_laws.proofs.ServerEpochs.{IsNoWipe, same_epoch}

-- a count after an answer
abbrev pub raised_told : Told → ℕ → ℕ
raised_told (Told.Given layers) count = raised_by layers count
raised_told answer count = count

-- ---- a server
abbrev Gives : Server → Server × Told → Type 0
Gives s after = after.0.taken ≡ raised_told after.1 s.taken

installed_gives : (away there : Bool) (version : ℕ) (s : Server) → Gives s (install away there version s)
installed_gives true there version s = refl
installed_gives false true version s = refl
installed_gives false false version s = refl

made_gives : (step : ServerStep) (s : Server) → Gives s (made_at_server step s)
made_gives (ServerStep.Prepare version) s =
    cond_both {A = Server × Told} s.away (s, Told.Prepared (placement.Skipped s.downs)) (record s { held = hold version s.held }, Told.Prepared (placement.At s.epoch)) (Gives s) (λ _. refl) (λ _. refl)
made_gives (ServerStep.Settle version) s = refl
made_gives (ServerStep.Has version) s = cond_both {A = Server × Told} (gives version s) (s, Told.Here) (s, Told.Missing (found_at s)) (Gives s) (λ _. refl) (λ _. refl)
made_gives (ServerStep.Fetch version layers) s =
    cond_both {A = Server × Told} (gives version s) (record s { taken = raised_by (length layers) s.taken }, Told.Given (length layers)) (s, Told.Missing (found_at s)) (Gives s) (λ _. refl) (λ _. refl)
made_gives (ServerStep.Install version) s = installed_gives s.away (is_among version s.held) version s
made_gives (ServerStep.Discard version) s = refl
made_gives ServerStep.Wipe s = refl
made_gives ServerStep.Down s = refl
made_gives ServerStep.Up s = refl

short_gives : (short takes : Bool) (step : ServerStep) (s : Server) → Gives s (server_unless_short short takes step s)
short_gives true true step s = refl
short_gives true false step s = made_gives step s
short_gives false true step s = made_gives step s
short_gives false false step s = made_gives step s

gives_so : (short : Bool) (step : ServerStep) (s : Server) → Gives s (at_server short step s)
gives_so short step s = short_gives short (server_takes_memory step) step s

-- ---- the counts of a call
number_here : (i : ℕ) (f : ℕ → ℕ) (xs : List ℕ) → i < length xs → get_or (change_at i f xs) i 0 ≡ f (get_or xs i 0)
number_here i f [] h = absurd (omega (arith, h))
number_here zero f (x ∷ xs) h = refl
number_here (suc i) f (x ∷ xs) h = number_here i f xs (omega (arith, h))

number_there : (i j : ℕ) (f : ℕ → ℕ) (xs : List ℕ) → (i ≡ j → ⊥) → get_or (change_at i f xs) j 0 ≡ get_or xs j 0
number_there i j f [] differ = refl
number_there zero zero f (x ∷ xs) differ = absurd (differ refl)
number_there zero (suc j) f (x ∷ xs) differ = refl
number_there (suc i) zero f (x ∷ xs) differ = refl
number_there (suc i) (suc j) f (x ∷ xs) differ = number_there i j f xs (λ e. differ (ap suc e))

-- an answer that gives nothing leaves a count
same_list : (i : ℕ) (xs : List ℕ) → change_at i (λ x. x) xs ≡ xs
same_list i [] = refl
same_list zero (x ∷ xs) = refl
same_list (suc i) (x ∷ xs) = ap (λ l. x ∷ l) (same_list i xs)

took : (server : ℕ) (step : ServerStep) (answer : Told) (takes : List ℕ) → take_from (Act.AtServer server step) answer takes ≡ change_at server (raised_told answer) takes
took server step (Told.Given layers) takes = refl
took server step (Told.Answer point reply) takes = sym (same_list server takes)
took server step (Told.Pinned point length_now stripes) takes = sym (same_list server takes)
took server step (Told.Ready base length_now stripes) takes = sym (same_list server takes)
took server step Told.NoSuch takes = sym (same_list server takes)
took server step (Told.PinnedStripe seen) takes = sym (same_list server takes)
took server step (Told.Versions versions) takes = sym (same_list server takes)
took server step (Told.Done point) takes = sym (same_list server takes)
took server step (Told.Changed base newer) takes = sym (same_list server takes)
took server step Told.Ended takes = sym (same_list server takes)
took server step Told.Current takes = sym (same_list server takes)
took server step (Told.Superseded newer) takes = sym (same_list server takes)
took server step (Told.Reaped point) takes = sym (same_list server takes)
took server step (Told.Taken version) takes = sym (same_list server takes)
took server step (Told.GivenUp point) takes = sym (same_list server takes)
took server step (Told.Placed epoch) takes = sym (same_list server takes)
took server step (Told.Prepared row) takes = sym (same_list server takes)
took server step (Told.Away downs) takes = sym (same_list server takes)
took server step Told.NotMade takes = sym (same_list server takes)
took server step Told.Settled takes = sym (same_list server takes)
took server step Told.Here takes = sym (same_list server takes)
took server step (Told.Missing epoch) takes = sym (same_list server takes)
took server step Told.AlreadyThere takes = sym (same_list server takes)
took server step Told.Made takes = sym (same_list server takes)
took server step Told.Short takes = sym (same_list server takes)
took server step Told.Gathered takes = sym (same_list server takes)

-- ---- an act
-- at server j: what it has given rises as what the call took from it does
pub record Matches (j : ℕ) (before after : Server) (takes now : List ℕ) : Type 0 where
  pub answer : Told
  pub taken : after.taken ≡ raised_told answer before.taken
  pub took : get_or now j 0 ≡ raised_told answer (get_or takes j 0)

-- a server before a step, and the same server after it
pub record Was (j : ℕ) (servers : List Server) (now : Server) (takes after_takes : List ℕ) : Type 0 where
  pub before : Server
  pub found : slice_get servers j ≡ Some before
  pub epoch : now.epoch ≡ before.epoch
  pub matches : Matches j before now takes after_takes

nothing : (j : ℕ) (servers : List Server) (s : Server) (takes : List ℕ) → slice_get servers j ≡ Some s → Was j servers s takes takes
nothing j servers s takes e = record { before = s; found = e; epoch = refl; matches = record { answer = Told.Made; taken = refl; took = refl } }

server_matches : (short : Bool) (server : ℕ) (step : ServerStep) (places : Places) (takes : List ℕ) → length takes ≡ length places.servers → IsNoWipe step → (found : Option Server) → slice_get places.servers server ≡ found
    → (j : ℕ) (now : Server) → slice_get (at_server_there short server step places found).0.servers j ≡ Some now
    → Was j places.servers now takes (take_from (Act.AtServer server step) (at_server_there short server step places found).1 takes)
server_matches short server step places takes sized quiet None e j now is = nothing j places.servers now takes is
server_matches short server step places takes sized quiet (Some s) e j now is = by (cases_eq server j)
  where
    answer : Told
    answer = (at_server short step s).1

    by : (server ≡ j) ⊎ (server ≡ j → ⊥) → Was j places.servers now takes (take_from (Act.AtServer server step) (at_server short step s).1 takes)
    by (inl same) =
        let there : slice_get (change_at server (λ _. (at_server short step s).0) places.servers) server ≡ Some (at_server short step s).0 = change_here server (λ _. (at_server short step s).0) places.servers s e in
        let is_now : (at_server short step s).0 ≡ now = same_Some (at_server short step s).0 now (sym there ∙ subst (λ n. slice_get (change_at server (λ _. (at_server short step s).0) places.servers) n ≡ Some now) (sym same) is) in
        let within : server < length takes = (let low : server < length places.servers = slice_get_within places.servers server s e in omega (arith, low, sized)) in
        record {
          before = s;
          found = subst (λ n. slice_get places.servers n ≡ Some s) same e;
          epoch = sym (ap (λ (x : Server). x.epoch) is_now) ∙ same_epoch short step s quiet;
          matches =
              record {
                answer = (at_server short step s).1;
                taken = sym (ap (λ (x : Server). x.taken) is_now) ∙ gives_so short step s;
                took =
                    ap (λ (l : List ℕ). get_or l j 0) (took server step (at_server short step s).1 takes)
                    ∙ subst (λ n. get_or (change_at server (raised_told (at_server short step s).1) takes) n 0 ≡ raised_told (at_server short step s).1 (get_or takes n 0)) same
                    (number_here server (raised_told (at_server short step s).1) takes within);
              };
        }
    by (inr differ) =
        let was : slice_get places.servers j ≡ Some now = sym (slice_get-change_at server j (λ _. (at_server short step s).0) places.servers (λ k. differ (sym k))) ∙ is in
        record {
          before = now;
          found = was;
          epoch = refl;
          matches =
              record {
                answer = Told.Made;
                taken = refl;
                took = ap (λ (l : List ℕ). get_or l j 0) (took server step (at_server short step s).1 takes) ∙ number_there server j (raised_told (at_server short step s).1) takes differ;
              };
        }

abbrev pub WipesNot : Act → Type 0
WipesNot (Act.AtServer server step) = IsNoWipe step
WipesNot act = Unit {0}

-- in an act each server gives what its call takes
pub act_matches : (short : Bool) (who : Actor) (number : ℕ) (act : Act) (places : Places) (takes : List ℕ) → length takes ≡ length places.servers → WipesNot act
    → (j : ℕ) (now : Server) → slice_get (at_places short who number act places).0.servers j ≡ Some now
    → Was j places.servers now takes (take_from act (at_places short who number act places).1 takes)
act_matches short who number (Act.AtDirectory step) places takes sized quiet j now is = nothing j places.servers now takes is
act_matches short who number (Act.AtServer server step) places takes sized quiet j now is = server_matches short server step places takes sized quiet (slice_get places.servers server) refl j now is
act_matches short who number (Act.Finish outcome) places takes sized quiet j now is = nothing j places.servers now takes is

-- a count of 64 bits of what calls took, and what one of them took
pub sums_match : (j : ℕ) (before after : Server) (takes now : List ℕ) (column rest : ℕ) → Matches j before after takes now → column ≡ get_or takes j 0 + rest → before.taken ≡ min column (2 ^ 64 - 1)
    → after.taken ≡ min (get_or now j 0 + rest) (2 ^ 64 - 1)
sums_match j before after takes now column rest m sum e = by m.answer m.taken m.took
  where
    quiet : after.taken ≡ before.taken → get_or now j 0 ≡ get_or takes j 0 → after.taken ≡ min (get_or now j 0 + rest) (2 ^ 64 - 1)
    quiet same took = same ∙ e ∙ ap (λ n. min n (2 ^ 64 - 1)) (sum ∙ ap (λ n. n + rest) (sym took))

    by : (answer : Told) → after.taken ≡ raised_told answer before.taken → get_or now j 0 ≡ raised_told answer (get_or takes j 0) → after.taken ≡ min (get_or now j 0 + rest) (2 ^ 64 - 1)
    by (Told.Given layers) raised took =
        let t : ℕ = get_or takes j 0 in
        let n : ℕ = get_or now j 0 in
        let b : ℕ = before.taken in
        let a : ℕ = after.taken in
        let one : b ≡ min column (2 ^ 64 - 1) = e in
        let two : column ≡ t + rest = sum in
        let three : a ≡ min (b + layers) (2 ^ 64 - 1) = raised in
        let four : n ≡ min (t + layers) (2 ^ 64 - 1) = took in
        let all : a ≡ min (n + rest) (2 ^ 64 - 1) = omega (arith, one, two, three, four) in
        all
    by (Told.Answer point reply) same took = quiet same took
    by (Told.Pinned point length_now stripes) same took = quiet same took
    by (Told.Ready base length_now stripes) same took = quiet same took
    by Told.NoSuch same took = quiet same took
    by (Told.PinnedStripe seen) same took = quiet same took
    by (Told.Versions versions) same took = quiet same took
    by (Told.Done point) same took = quiet same took
    by (Told.Changed base newer) same took = quiet same took
    by Told.Ended same took = quiet same took
    by Told.Current same took = quiet same took
    by (Told.Superseded newer) same took = quiet same took
    by (Told.Reaped point) same took = quiet same took
    by (Told.Taken version) same took = quiet same took
    by (Told.GivenUp point) same took = quiet same took
    by (Told.Placed epoch) same took = quiet same took
    by (Told.Prepared row) same took = quiet same took
    by (Told.Away downs) same took = quiet same took
    by Told.NotMade same took = quiet same took
    by Told.Settled same took = quiet same took
    by Told.Here same took = quiet same took
    by (Told.Missing epoch) same took = quiet same took
    by Told.AlreadyThere same took = quiet same took
    by Told.Made same took = quiet same took
    by Told.Short same took = quiet same took
    by Told.Gathered same took = quiet same took

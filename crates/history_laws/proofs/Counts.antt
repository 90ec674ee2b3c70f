-- How saturated each server was emptied and made away is what its counts tell.
use Rattle.std.proofs.Common.{◌≡◌, ◌⊎◌, inl, inr, ℕ, ◌+◌, Bool, true, false, cond, nat_eq, List, [], ◌∷◌, ◌++◌, length, filter, Some, refl, sym, ap, subst, ◌∙◌, arith, true≢false, length-append}
use Rattle.std.proofs.lemmas.Bool.{cond_both, cases_eq, eq-eqb, ne_eqb}
use Rattle.std.proofs.lemmas.List.Elements.{filter-append}
use Rattle.std.proofs.lemmas.Option.{same_Some}
use Rattle.std.specs.List.{slice_get}
use Rattle.store_map.specs.declared.placement.Placement.TheVariants as placement
use Rattle.store_core.specs.Act.{Act, ServerStep, server_takes_memory}
use Rattle.store_core.specs.Lists.{change_at, is_among}
use Rattle.store_core.specs.Server.{Server, raised_by, hold, gives, found_at, install, made_at_server, server_unless_short, at_server}
use Rattle.store_core.specs.Told.{Told}
use Rattle.store_core.proofs.Places.{slice_get-change_at}
use Rattle.run_laws.proofs.SoundVersions.{change_here}
use Rattle.history_laws.specs.Trace.{Made}
use Rattle.history_laws.specs.Moments.{wipes_it, downs_it, saturated, wipes, downs}

-- 1 where it holds
abbrev one_if : Bool → ℕ
one_if true = 1
one_if false = 0

-- ---- one server
abbrev is_wipe : ServerStep → Bool
is_wipe ServerStep.Wipe = true
is_wipe step = false

abbrev is_down : ServerStep → Bool
is_down ServerStep.Down = true
is_down step = false

-- what a step at a server does to its counts
abbrev CountsSo : ServerStep → Server → Server × Told → Type 0
CountsSo step s after = (after.0.epoch ≡ cond (is_wipe step) (raised_by 1 s.epoch) s.epoch) × (after.0.downs ≡ cond (is_down step) (raised_by 1 s.downs) s.downs)

installs_so : (away there : Bool) (version : ℕ) (s : Server) → CountsSo (ServerStep.Install version) s (install away there version s)
installs_so true there version s = (refl, refl)
installs_so false true version s = (refl, refl)
installs_so false false version s = (refl, refl)

made_so : (step : ServerStep) (s : Server) → CountsSo step s (made_at_server step s)
made_so (ServerStep.Prepare version) s =
    cond_both {A = Server × Told} s.away (s, Told.Prepared (placement.Skipped s.downs)) (record s { held = hold version s.held }, Told.Prepared (placement.At s.epoch)) (CountsSo (ServerStep.Prepare version) s) (λ _. (refl, refl)) (λ _. (refl, refl))
made_so (ServerStep.Settle version) s = (refl, refl)
made_so (ServerStep.Has version) s =
    cond_both {A = Server × Told} (gives version s) (s, Told.Here) (s, Told.Missing (found_at s)) (CountsSo (ServerStep.Has version) s) (λ _. (refl, refl)) (λ _. (refl, refl))
made_so (ServerStep.Fetch version layers) s =
    cond_both {A = Server × Told} (gives version s) (record s { taken = raised_by (length layers) s.taken }, Told.Given (length layers)) (s, Told.Missing (found_at s)) (CountsSo (ServerStep.Fetch version layers) s)
    (λ _. (refl, refl)) (λ _. (refl, refl))
made_so (ServerStep.Install version) s = installs_so s.away (is_among version s.held) version s
made_so (ServerStep.Discard version) s = (refl, refl)
made_so ServerStep.Wipe s = (refl, refl)
made_so ServerStep.Down s = (refl, refl)
made_so ServerStep.Up s = (refl, refl)

-- a step that takes memory is no wipe and no down
short_so : (step : ServerStep) (s : Server) → server_takes_memory step ≡ true → CountsSo step s (s, Told.Short)
short_so (ServerStep.Prepare version) s e = (refl, refl)
short_so (ServerStep.Settle version) s e = (refl, refl)
short_so (ServerStep.Has version) s e = (refl, refl)
short_so (ServerStep.Fetch version layers) s e = (refl, refl)
short_so (ServerStep.Install version) s e = (refl, refl)
short_so (ServerStep.Discard version) s e = (refl, refl)
short_so ServerStep.Wipe s e = absurd (true≢false (sym e))
short_so ServerStep.Down s e = absurd (true≢false (sym e))
short_so ServerStep.Up s e = (refl, refl)

step_so : (short : Bool) (step : ServerStep) (s : Server) → CountsSo step s (at_server short step s)
step_so short step s = by short (server_takes_memory step) refl
  where
    by : (short takes : Bool) → server_takes_memory step ≡ takes → CountsSo step s (server_unless_short short takes step s)
    by true true e = short_so step s e
    by true false e = made_so step s
    by false true e = made_so step s
    by false false e = made_so step s

-- ---- and what was counted in the trace
wipes_is : (j n : ℕ) (step : ServerStep) → wipes_it j (Act.AtServer n step) ≡ cond (is_wipe step) (nat_eq j n) false
wipes_is j n ServerStep.Wipe = refl
wipes_is j n (ServerStep.Prepare version) = refl
wipes_is j n (ServerStep.Settle version) = refl
wipes_is j n (ServerStep.Has version) = refl
wipes_is j n (ServerStep.Fetch version layers) = refl
wipes_is j n (ServerStep.Install version) = refl
wipes_is j n (ServerStep.Discard version) = refl
wipes_is j n ServerStep.Down = refl
wipes_is j n ServerStep.Up = refl

downs_is : (j n : ℕ) (step : ServerStep) → downs_it j (Act.AtServer n step) ≡ cond (is_down step) (nat_eq j n) false
downs_is j n ServerStep.Down = refl
downs_is j n (ServerStep.Prepare version) = refl
downs_is j n (ServerStep.Settle version) = refl
downs_is j n (ServerStep.Has version) = refl
downs_is j n (ServerStep.Fetch version layers) = refl
downs_is j n (ServerStep.Install version) = refl
downs_is j n (ServerStep.Discard version) = refl
downs_is j n ServerStep.Wipe = refl
downs_is j n ServerStep.Up = refl

count_one : (p : Made → Bool) (trace : List Made) (made : Made) → length (filter p (trace ++ made ∷ [])) ≡ length (filter p trace) + one_if (p made)
count_one p trace made =
    ap (λ (l : List Made). length l) (filter-append p trace (made ∷ [])) ∙ length-append (filter p trace) (filter p (made ∷ [])) ∙ ap (λ n. length (filter p trace) + n) (by (p made))
  where
    by : (b : Bool) → length (cond {A = List Made} b (made ∷ []) []) ≡ one_if b
    by true = refl
    by false = refl

often_more : (count : ℕ) → raised_by 1 (saturated count) ≡ saturated (count + 1)
often_more count = omega arith

-- one more, or as before
counted : (b : Bool) (count told : ℕ) → told ≡ saturated count → cond b (raised_by 1 told) told ≡ saturated (count + one_if b)
counted true count told e = ap (raised_by 1) e ∙ often_more count
counted false count told e = e ∙ ap saturated (let same : count ≡ count + 0 = omega arith in same)

-- ---- all servers
pub record Counted (trace : List Made) (j : ℕ) (s : Server) : Type 0 where
  pub epoch : s.epoch ≡ wipes j trace
  pub downs_told : s.downs ≡ downs j trace

abbrev pub AllCounted : List Made → List Server → Type 0
AllCounted trace servers = (j : ℕ) (s : Server) → slice_get servers j ≡ Some s → Counted trace j s

module _ (trace : List Made) (made : Made) (j : ℕ) where
  wipes_on : (b : Bool) → wipes_it j made.act ≡ b → (told : ℕ) → told ≡ wipes j trace → cond b (raised_by 1 told) told ≡ wipes j (trace ++ made ∷ [])
  wipes_on b is told e =
      counted b (length (filter (λ (m : Made). wipes_it j m.act) trace)) told e
      ∙ ap saturated (ap (λ n. length (filter (λ (m : Made). wipes_it j m.act) trace) + n) (ap one_if (sym is)) ∙ sym (count_one (λ (m : Made). wipes_it j m.act) trace made))

  downs_on : (b : Bool) → downs_it j made.act ≡ b → (told : ℕ) → told ≡ downs j trace → cond b (raised_by 1 told) told ≡ downs j (trace ++ made ∷ [])
  downs_on b is told e =
      counted b (length (filter (λ (m : Made). downs_it j m.act) trace)) told e
      ∙ ap saturated (ap (λ n. length (filter (λ (m : Made). downs_it j m.act) trace) + n) (ap one_if (sym is)) ∙ sym (count_one (λ (m : Made). downs_it j m.act) trace made))

  -- a step that is neither
  quiet_count : (s : Server) → wipes_it j made.act ≡ false → downs_it j made.act ≡ false → Counted trace j s → Counted (trace ++ made ∷ []) j s
  quiet_count s no_wipe no_down h = record { epoch = wipes_on false no_wipe s.epoch h.epoch; downs_told = downs_on false no_down s.downs h.downs_told }

module _ (trace : List Made) (made : Made) where
  -- a step that is at no server
  pub elsewhere : (servers : List Server) → ((j : ℕ) → wipes_it j made.act ≡ false) → ((j : ℕ) → downs_it j made.act ≡ false) → AllCounted trace servers → AllCounted (trace ++ made ∷ []) servers
  elsewhere servers no_wipe no_down h j s e = quiet_count trace made j s (no_wipe j) (no_down j) (h j s e)

  -- a step at a server
  module _ (n : ℕ) (step : ServerStep) (is_act : made.act ≡ Act.AtServer n step) where
    pub beside : (servers : List Server) (j : ℕ) (s : Server) → (j ≡ n → ⊥) → Counted trace j s → Counted (trace ++ made ∷ []) j s
    beside servers j s differ h = quiet_count trace made j s (wiped ∙ by (is_wipe step)) (downed ∙ by (is_down step)) h
      where
        wiped : wipes_it j made.act ≡ cond (is_wipe step) (nat_eq j n) false
        wiped = ap (wipes_it j) is_act ∙ wipes_is j n step

        downed : downs_it j made.act ≡ cond (is_down step) (nat_eq j n) false
        downed = ap (downs_it j) is_act ∙ downs_is j n step

        by : (b : Bool) → cond b (nat_eq j n) false ≡ false
        by true = ne_eqb j n differ
        by false = refl

    here : (short : Bool) (s : Server) → Counted trace n s → Counted (trace ++ made ∷ []) n (at_server short step s).0
    here short s h =
        record {
          epoch = (step_so short step s).0 ∙ wipes_on trace made n (is_wipe step) (ap (wipes_it n) is_act ∙ wipes_is n n step ∙ by (is_wipe step)) s.epoch h.epoch;
          downs_told = (step_so short step s).1 ∙ downs_on trace made n (is_down step) (ap (downs_it n) is_act ∙ downs_is n n step ∙ by (is_down step)) s.downs h.downs_told;
        }
      where
        by : (b : Bool) → cond b (nat_eq n n) false ≡ b
        by true = eq-eqb n n refl
        by false = refl

    pub at_it : (short : Bool) (servers : List Server) (old : Server) → slice_get servers n ≡ Some old → AllCounted trace servers → AllCounted (trace ++ made ∷ []) (change_at n (λ _. (at_server short step old).0) servers)
    at_it short servers old found h j s e = two (cases_eq j n)
      where
        two : (j ≡ n) ⊎ (j ≡ n → ⊥) → Counted (trace ++ made ∷ []) j s
        two (inr differ) = beside servers j s differ (h j s (sym (slice_get-change_at n j (λ _. (at_server short step old).0) servers differ) ∙ e))
        two (inl same) =
            let is : (at_server short step old).0 ≡ s = same_Some (at_server short step old).0 s (sym (change_here n (λ _. (at_server short step old).0) servers old found) ∙ subst (λ k. slice_get (change_at n (λ _. (at_server short step old).0) servers) k ≡ Some s) same e) in
            subst (λ k. Counted (trace ++ made ∷ []) k s) (sym same) (subst (Counted (trace ++ made ∷ []) n) is (here short old (h n old found)))

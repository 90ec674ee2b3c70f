-- Servers hold rising versions.
use Rattle.std.proofs.Common.{◌≡◌, ℕ, ◌<◌, Bool, true, false, cond, ◌||◌, ◌&&◌, not, nat_eq, nat_lt, List, [], ◌∷◌, refl, sym, ap, ◌∙◌, arith}
use Rattle.std.proofs.lemmas.Bool.{cond_both, ltb-true, ltb-false, eqb-true, eqb-false, eq-eqb, ne_eqb, not-true, not-false}
use Rattle.store_map.specs.declared.placement.Placement.TheVariants as placement
use Rattle.store_core.specs.Lists.{is_among}
use Rattle.store_core.specs.Told.{Told}
use Rattle.store_core.specs.Act.{ServerStep, server_takes_memory}
use Rattle.store_core.specs.Server.{Server, hold, let_go, gives, found_at, install, made_at_server, server_unless_short}
use Rattle.store_core.specs.HeldLaws.{AreAbove, IsRising, HoldsInOrder}

lower : (least below : ℕ) (versions : List ℕ) → below < least → AreAbove least versions → AreAbove below versions
lower least below [] h above = tt
lower least below (version ∷ versions) h above = (omega (arith, h, above.0), lower least below versions h above.1)

above_hold : (least version : ℕ) (versions : List ℕ) → least < version → AreAbove least versions → AreAbove least (hold version versions)
above_hold least version [] h above = (h, tt)
above_hold least version (other ∷ versions) h above =
    cond_both {A = List ℕ} (nat_lt version other) (version ∷ other ∷ versions) (cond (nat_eq version other) (other ∷ versions) (other ∷ hold version versions)) (AreAbove least)
    (λ _. (h, above))
    (λ _. cond_both {A = List ℕ} (nat_eq version other) (other ∷ versions) (other ∷ hold version versions) (AreAbove least)
    (λ _. above) (λ _. (above.0, above_hold least version versions h above.1)))

hold_rising : (version : ℕ) (versions : List ℕ) → IsRising versions → IsRising (hold version versions)
hold_rising version [] h = (tt, tt)
hold_rising version (other ∷ versions) h =
    cond_both {A = List ℕ} (nat_lt version other) (version ∷ other ∷ versions) (cond (nat_eq version other) (other ∷ versions) (other ∷ hold version versions)) IsRising
    (λ e. ((ltb-true version other e, lower other version versions (ltb-true version other e) h.0), h))
    (λ least. cond_both {A = List ℕ} (nat_eq version other) (other ∷ versions) (other ∷ hold version versions) IsRising
    (λ _. h)
    (λ apart. (above_hold other version versions (between least apart) h.0, hold_rising version versions h.1)))
  where
    between : nat_lt version other ≡ false → nat_eq version other ≡ false → other < version
    between least apart = omega (arith, ltb-false version other least, eqb-false version other apart)

above_let_go : (least version : ℕ) (versions : List ℕ) → AreAbove least versions → AreAbove least (let_go version versions)
above_let_go least version [] above = tt
above_let_go least version (other ∷ versions) above =
    cond_both {A = List ℕ} (not (nat_eq version other)) (other ∷ let_go version versions) (let_go version versions) (AreAbove least)
    (λ _. (above.0, above_let_go least version versions above.1)) (λ _. above_let_go least version versions above.1)

let_go_rising : (version : ℕ) (versions : List ℕ) → IsRising versions → IsRising (let_go version versions)
let_go_rising version [] h = tt
let_go_rising version (other ∷ versions) h =
    cond_both {A = List ℕ} (not (nat_eq version other)) (other ∷ let_go version versions) (let_go version versions) IsRising
    (λ _. (above_let_go other version versions h.0, let_go_rising version versions h.1)) (λ _. let_go_rising version versions h.1)

made_rising : (step : ServerStep) (s : Server) → IsRising s.held → IsRising (made_at_server step s).0.held
made_rising (ServerStep.Prepare version) s h =
    cond_both {A = Server × Told} s.away (s, Told.Prepared (placement.Skipped s.downs)) (record s { held = hold version s.held }, Told.Prepared (placement.At s.epoch))
    (λ r. IsRising r.0.held) (λ _. h) (λ _. hold_rising version s.held h)
made_rising (ServerStep.Settle version) s h = h
made_rising (ServerStep.Has version) s h =
    cond_both {A = Server × Told} (gives version s) (s, Told.Here) (s, Told.Missing (found_at s)) (λ r. IsRising r.0.held) (λ _. h) (λ _. h)
made_rising (ServerStep.Fetch version layers) s h = fetched (gives version s) _ _ h
  where
    fetched : (b : Bool) (taken : ℕ) (answer : Told) → IsRising s.held
        → IsRising (cond {A = Server × Told} b (record s { taken = taken }, answer) (s, Told.Missing (found_at s))).0.held
    fetched true taken answer h = h
    fetched false taken answer h = h
made_rising (ServerStep.Install version) s h = installed s.away (is_among version s.held)
  where
    installed : (away there : Bool) → IsRising (install away there version s).0.held
    installed true there = h
    installed false true = h
    installed false false = hold_rising version s.held h
made_rising (ServerStep.Discard version) s h = let_go_rising version s.held h
made_rising ServerStep.Wipe s h = tt
made_rising ServerStep.Down s h = h
made_rising ServerStep.Up s h = h

unless_rising : (short takes : Bool) (step : ServerStep) (s : Server) → IsRising s.held → IsRising (server_unless_short short takes step s).0.held
unless_rising true true step s h = h
unless_rising true false step s h = made_rising step s h
unless_rising false true step s h = made_rising step s h
unless_rising false false step s h = made_rising step s h

-- ---- what is held
swap_or : (a b c : Bool) → (a || (b || c)) ≡ (b || (a || c))
swap_or true true c = refl
swap_or true false c = refl
swap_or false true c = refl
swap_or false false c = refl

twice : (a c : Bool) → (a || c) ≡ (a || (a || c))
twice true c = refl
twice false c = refl

among_hold : (version other : ℕ) (versions : List ℕ) → is_among other (hold version versions) ≡ (nat_eq other version || is_among other versions)
among_hold version other [] = refl
among_hold version other (first ∷ versions) =
    cond_both {A = List ℕ} (nat_lt version first) (version ∷ first ∷ versions) (cond (nat_eq version first) (first ∷ versions) (first ∷ hold version versions))
    (λ l. is_among other l ≡ (nat_eq other version || (nat_eq other first || is_among other versions)))
    (λ _. refl)
    (λ _. cond_both {A = List ℕ} (nat_eq version first) (first ∷ versions) (first ∷ hold version versions)
    (λ l. is_among other l ≡ (nat_eq other version || (nat_eq other first || is_among other versions)))
    (λ e. twice (nat_eq other first) (is_among other versions)
    ∙ ap (λ v. nat_eq other v || (nat_eq other first || is_among other versions)) (sym (eqb-true version first e)))
    (λ _. ap (λ rest. nat_eq other first || rest) (among_hold version other versions)
    ∙ swap_or (nat_eq other first) (nat_eq other version) (is_among other versions)))

stays : (c b d r : Bool) → (c ≡ true → b ≡ false) → r ≡ (not b && d) → (c || r) ≡ (not b && (c || d))
stays true b d r h e = sym (ap (λ x. not x && true) (h refl))
stays false b d r h e = e

goes : (c b d r : Bool) → (c ≡ true → b ≡ true) → r ≡ (not b && d) → r ≡ (not b && (c || d))
goes true b d r h e = e ∙ ap (λ x. not x && d) (h refl) ∙ sym (ap (λ x. not x && true) (h refl))
goes false b d r h e = e

nothing_there : (b : Bool) → false ≡ (b && false)
nothing_there true = refl
nothing_there false = refl

among_let_go : (version other : ℕ) (versions : List ℕ) → is_among other (let_go version versions) ≡ (not (nat_eq version other) && is_among other versions)
among_let_go version other [] = nothing_there (not (nat_eq version other))
among_let_go version other (first ∷ versions) =
    cond_both {A = List ℕ} (not (nat_eq version first)) (first ∷ let_go version versions) (let_go version versions)
    (λ l. is_among other l ≡ (not (nat_eq version other) && (nat_eq other first || is_among other versions)))
    (λ apart. stays (nat_eq other first) (nat_eq version other) (is_among other versions) (is_among other (let_go version versions))
    (λ e. ne_eqb version other (λ same. eqb-false version first (not-true (nat_eq version first) apart) (same ∙ eqb-true other first e)))
    (among_let_go version other versions))
    (λ same. goes (nat_eq other first) (nat_eq version other) (is_among other versions) (is_among other (let_go version versions))
    (λ e. eq-eqb version other (eqb-true version first (not-false (nat_eq version first) same) ∙ sym (eqb-true other first e)))
    (among_let_go version other versions))

pub holds_in_order : HoldsInOrder
holds_in_order =
    record {
      rising = λ short step s h. unless_rising short (server_takes_memory step) step s h;
      held = among_hold;
      gone = among_let_go;
    }

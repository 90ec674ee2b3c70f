-- A held version is not yet swept, or a stray of a call that was given up: what is kept, and steps of the sweeper and the operator.
use Rattle.std.proofs.Common.{◌≡◌, ◌⊎◌, inl, inr, ℕ, zero, suc, ◌+◌, ◌<◌, Bool, true, false, not, ◌&&◌, ◌||◌, nat_eq, List, [], ◌∷◌, ◌++◌, length, find, Option, None, Some, option_map, refl, sym, ap, subst, ◌∙◌, arith, true≢false}
use Rattle.std.proofs.lemmas.Bool.{cond_both, eqb-true, and_parts}
use Rattle.std.proofs.lemmas.Option.{none-some, same_Some}
use Rattle.std.specs.List.{slice_get, enumerate_from}
use Rattle.store_map.specs.declared.actor.Actor.{Actor}
use Rattle.store_map.specs.declared.placement.Placement.TheVariants as placement
use Rattle.store_core.specs.Act.{ServerStep, server_takes_memory}
use Rattle.store_core.specs.Directory.{Standing, Version, Point, Directory}
use Rattle.store_core.specs.Lists.{change_at, is_among}
use Rattle.store_core.specs.Lookups.{first_garbage, is_superseded_standing, is_pinned}
use Rattle.store_core.specs.Server.{Server, raised_by, hold, let_go, gives, found_at, install, made_at_server, server_unless_short, at_server}
use Rattle.store_core.specs.Sweep.{Sweeper}
use Rattle.store_core.specs.Told.{Told}
use Rattle.store_core.proofs.Held.{holds_in_order}
use Rattle.run_laws.proofs.LiveVersions.{is_live_standing}
use Rattle.run_laws.proofs.SoundLists.{found_at as found_in_list}
use Rattle.run_laws.proofs.SoundVersions.{change_here}
use Rattle.history_laws.proofs.VersionMoves.{Moved, StepVersions}
use Rattle.history_laws.specs.Held.{WasGivenUp, Draws, LooksAt, IsStray}
use Rattle.history_laws.specs.Moments.{Happened}
use Rattle.history_laws.specs.Trace.{Made}
use Rattle.history_laws.proofs.HeldStandings.{SweepsNone}
use Rattle.history_laws.proofs.Past.{on}

-- ---- what a step adds to what a server holds
abbrev pub adds : ServerStep → Option ℕ
adds (ServerStep.Prepare version) = Some version
adds (ServerStep.Install version) = Some version
adds step = None

-- each version that is held after was held before, or is the one that was added
abbrev pub HeldFrom : ServerStep → Server → Server × Told → Type 0
HeldFrom step s after = (v : ℕ) → is_among v after.0.held ≡ true → (is_among v s.held ≡ true) ⊎ (adds step ≡ Some v)

same_held : (step : ServerStep) (s : Server) (after : Server × Told) → after.0.held ≡ s.held → HeldFrom step s after
same_held step s after same v e = inl (ap (is_among v) (sym same) ∙ e)

held_more : (version v : ℕ) (held : List ℕ) → is_among v (hold version held) ≡ true → (is_among v held ≡ true) ⊎ (Some version ≡ Some v)
held_more version v held e = by (nat_eq v version) refl (sym (holds_in_order.held version v held) ∙ e)
  where
    by : (b : Bool) → nat_eq v version ≡ b → (nat_eq v version || is_among v held) ≡ true → (is_among v held ≡ true) ⊎ (Some version ≡ Some v)
    by true is k = inr (ap Some (sym (eqb-true v version is)))
    by false is k = inl (ap (λ b. b || is_among v held) (sym is) ∙ k)

pub held_less : (version v : ℕ) (held : List ℕ) → is_among v (let_go version held) ≡ true → (is_among v held ≡ true) × (nat_eq version v ≡ false)
held_less version v held e =
    let both : (not (nat_eq version v) ≡ true) × (is_among v held ≡ true) = and_parts (not (nat_eq version v)) (is_among v held) (sym (holds_in_order.gone version v held) ∙ e) in
    (both.1, by (nat_eq version v) both.0)
  where
    by : (b : Bool) → not b ≡ true → b ≡ false
    by true k = sym k
    by false k = refl

made_from : (step : ServerStep) (s : Server) → HeldFrom step s (made_at_server step s)
made_from (ServerStep.Prepare version) s =
    cond_both {A = Server × Told} s.away (s, Told.Prepared (placement.Skipped s.downs)) (record s { held = hold version s.held }, Told.Prepared (placement.At s.epoch)) (HeldFrom (ServerStep.Prepare version) s)
    (λ _ v e. inl e) (λ _ v e. held_more version v s.held e)
made_from (ServerStep.Settle version) s = λ v e. inl e
made_from (ServerStep.Has version) s = cond_both {A = Server × Told} (gives version s) (s, Told.Here) (s, Told.Missing (found_at s)) (HeldFrom (ServerStep.Has version) s) (λ _ v e. inl e) (λ _ v e. inl e)
made_from (ServerStep.Fetch version layers) s =
    cond_both {A = Server × Told} (gives version s) (record s { taken = raised_by (length layers) s.taken }, Told.Given (length layers)) (s, Told.Missing (found_at s)) (HeldFrom (ServerStep.Fetch version layers) s) (λ _ v e. inl e) (λ _ v e. inl e)
made_from (ServerStep.Install version) s = by s.away (is_among version s.held)
  where
    by : (away there : Bool) → HeldFrom (ServerStep.Install version) s (install away there version s)
    by true there = λ v e. inl e
    by false true = λ v e. inl e
    by false false = λ v e. held_more version v s.held e
made_from (ServerStep.Discard version) s = λ v e. inl (held_less version v s.held e).0
made_from ServerStep.Wipe s = λ v e. absurd (true≢false (sym e))
made_from ServerStep.Down s = λ v e. inl e
made_from ServerStep.Up s = λ v e. inl e

pub held_from : (short : Bool) (step : ServerStep) (s : Server) → HeldFrom step s (at_server short step s)
held_from short step s = by short (server_takes_memory step)
  where
    by : (short takes : Bool) → HeldFrom step s (server_unless_short short takes step s)
    by true true = λ v e. inl e
    by true false = made_from step s
    by false true = made_from step s
    by false false = made_from step s

-- ---- what is kept
pub record HeldThen (trace : List Made) (d : Directory) (servers : List Server) (sweeper : Sweeper) : Type 0 where
  pub there : (j : ℕ) (s : Server) → slice_get servers j ≡ Some s → (v : ℕ) → is_among v s.held ≡ true → (version : Version) × (slice_get d.versions v ≡ Some version)
  pub swept :
      (j : ℕ) (s : Server) → slice_get servers j ≡ Some s → (v : ℕ) → is_among v s.held ≡ true → (version : Version) → slice_get d.versions v ≡ Some version → version.standing ≡ Standing.Swept →
      IsStray trace d.points v
  pub taken : (v k : ℕ) → sweeper ≡ Sweeper.Sweeping v k → (version : Version) × (slice_get d.versions v ≡ Some version) × (version.standing ≡ Standing.Taken)
  pub done : (v k : ℕ) → sweeper ≡ Sweeper.Sweeping v k → (j : ℕ) (s : Server) → slice_get servers j ≡ Some s → j < k → is_among v s.held ≡ true → IsStray trace d.points v

-- strays stay strays
pub stray_on : (trace more : List Made) (before after : List Point) → ((place : ℕ) (point : Point) → slice_get before place ≡ Some point → slice_get after place ≡ Some point) → (v : ℕ)
    → IsStray trace before v → IsStray (trace ++ more) after v
stray_on trace more before after grows v h = (h.0, h.1, (h.2.0, h.2.1, grows h.2.0 h.2.1 h.2.2, h.2.3, h.2.4, h.2.5), by h.3)
  where
    by : Happened trace (Draws h.0 h.1 v) ⊎ Happened trace (LooksAt h.0 h.1 v) → Happened (trace ++ more) (Draws h.0 h.1 v) ⊎ Happened (trace ++ more) (LooksAt h.0 h.1 v)
    by (inl k) = inl (on (Draws h.0 h.1 v) trace more k)
    by (inr k) = inr (on (LooksAt h.0 h.1 v) trace more k)

pub given_up_on : (before after : List Point) → ((place : ℕ) (point : Point) → slice_get before place ≡ Some point → slice_get after place ≡ Some point) → (who : Actor) (number : ℕ) → WasGivenUp before who number → WasGivenUp after who number
given_up_on before after grows who number h = (h.0, h.1, grows h.0 h.1 h.2, h.3, h.4, h.5)

-- a taken version that is not swept stays taken
abbrev IsSwept : Standing → Type 0
IsSwept Standing.Swept = Unit {0}
IsSwept standing = ⊥

pub taken_stays : (before after : List Version) (ok : ℕ → List _ → List _ → Type 0) → StepVersions ok before after → SweepsNone before after → (v : ℕ) (version : Version) → slice_get before v ≡ Some version → version.standing ≡ Standing.Taken
    → (new : Version) × (slice_get after v ≡ Some new) × (new.standing ≡ Standing.Taken)
taken_stays before after ok moved none v version found taken =
    (m.new, m.found, by m.new.standing refl (m.gone (ap is_live_standing taken)))
  where
    m : Moved ok v version after
    m = moved.moves v version found

    by : (standing : Standing) → m.new.standing ≡ standing → is_live_standing standing ≡ false → m.new.standing ≡ Standing.Taken
    by Standing.Taken e gone = e
    by Standing.Swept e gone =
        let old : (o : Version) × (slice_get before v ≡ Some o) × (o.standing ≡ Standing.Swept) = none v m.new m.found e in
        absurd (subst IsSwept (sym (ap (λ (x : Version). x.standing) (same_Some version old.0 (sym found ∙ old.1)) ∙ old.2 ∙ refl) ∙ taken) tt)
    by Standing.Drawn e gone = absurd (true≢false gone)
    by Standing.Current e gone = absurd (true≢false gone)
    by Standing.Superseded e gone = absurd (true≢false gone)

pub there_stays : (before after : List Version) (ok : ℕ → List _ → List _ → Type 0) → StepVersions ok before after → (v : ℕ) (version : Version) → slice_get before v ≡ Some version → (new : Version) × (slice_get after v ≡ Some new)
there_stays before after ok moved v version found = let m : Moved ok v version after = moved.moves v version found in (m.new, m.found)

-- ---- the least garbage is there
at_enumerated : (start : ℕ) (versions : List Version) (i n : ℕ) (version : Version) → slice_get (enumerate_from start versions) i ≡ Some (n, version) → (n ≡ start + i) × (slice_get versions i ≡ Some version)
at_enumerated start [] i n version e = absurd (none-some (n, version) e)
at_enumerated start (v ∷ versions) zero n version e =
    let same : ◌≡◌ {A = ℕ × Version} (start, v) (n, version) = same_Some {A = ℕ × Version} (start, v) (n, version) e in
    (sym (ap (λ (p : ℕ × Version). p.0) same) ∙ (let here : start ≡ start + 0 = omega arith in here), ap (λ (p : ℕ × Version). Some p.1) same)
at_enumerated start (v ∷ versions) (suc i) n version e =
    let h : (n ≡ start + 1 + i) × (slice_get versions i ≡ Some version) = at_enumerated (start + 1) versions i n version e in
    (h.0 ∙ (let same : start + 1 + i ≡ start + suc i = omega arith in same), h.1)

pub garbage_there : (d : Directory) (v : ℕ) → first_garbage d ≡ Some v → (version : Version) × (slice_get d.versions v ≡ Some version)
garbage_there d v e = by (find test (enumerate_from 0 d.versions)) refl e
  where
    test : ℕ × Version → Bool
    test entry = is_superseded_standing entry.1.standing && not (is_pinned d entry.0)

    by : (found : Option (ℕ × Version)) → find (λ (entry : ℕ × Version). is_superseded_standing entry.1.standing && not (is_pinned d entry.0)) (enumerate_from 0 d.versions) ≡ found → option_map (λ (entry : ℕ × Version). entry.0) found ≡ Some v
        → (version : Version) × (slice_get d.versions v ≡ Some version)
    by None is k = absurd (none-some v k)
    by (Some entry) is k =
        let at : (i : ℕ) × (slice_get (enumerate_from 0 d.versions) i ≡ Some entry) × _ = found_in_list (λ (x : ℕ × Version). is_superseded_standing x.1.standing && not (is_pinned d x.0)) (enumerate_from 0 d.versions) entry is in
        let h : (entry.0 ≡ 0 + at.0) × (slice_get d.versions at.0 ≡ Some entry.1) = at_enumerated 0 d.versions at.0 entry.0 entry.1 at.1 in
        (entry.1, subst (λ n. slice_get d.versions n ≡ Some entry.1) ((let same : at.0 ≡ 0 + at.0 = omega arith in same) ∙ sym h.0 ∙ same_Some entry.0 v k) h.1)

-- the version that was taken stands so
pub taken_so : (versions : List Version) (v : ℕ) (version : Version) → slice_get versions v ≡ Some version
    → (new : Version) × (slice_get (change_at v (λ entry. record entry { standing = Standing.Taken }) versions) v ≡ Some new) × (new.standing ≡ Standing.Taken)
taken_so versions v version e = (record version { standing = Standing.Taken }, change_here v (λ entry. record entry { standing = Standing.Taken }) versions version e, refl)

-- A server and the chunk of one version: it holds it, or was emptied since the chunk was placed.
use Rattle.std.proofs.Common.{◌≡◌, ℕ, ◌-◌, ◌^◌, ◌<◌, ◌≤◌, max, Bool, true, false, not, ◌&&◌, ◌||◌, nat_eq, List, [], length, ◌⊎◌, inl, inr, refl, sym, ap, ◌∙◌, arith, true≢false}
use Rattle.std.proofs.lemmas.Bool.{cond_both, eq-eqb}
use Rattle.store_map.specs.declared.placement.Found.{Found}
use Rattle.store_map.specs.declared.placement.Found.TheVariants as found
use Rattle.store_map.specs.declared.placement.Placement.{Placement}
use Rattle.store_map.specs.declared.placement.Placement.TheVariants as placement
use Rattle.store_core.specs.Lists.{is_among}
use Rattle.store_core.specs.Told.{Told}
use Rattle.store_core.specs.Act.{ServerStep, server_takes_memory}
use Rattle.store_core.specs.Server.{Server, hold, let_go, raised_by, gives, found_at, install, made_at_server, server_unless_short, at_server}
use Rattle.store_core.proofs.Held.{holds_in_order}

-- the chunk of a version that was placed at an epoch: it is held, or the server was emptied since
abbrev pub HasOrLost : Server → ℕ → ℕ → Type 0
HasOrLost s version placed = ((is_among version s.held ≡ true) × (placed ≤ s.epoch)) ⊎ (placed < s.epoch)

-- by how the server took it
abbrev pub TookOrLost : Server → ℕ → Placement → Type 0
TookOrLost s version (placement.At epoch) = HasOrLost s version epoch
TookOrLost s version (placement.Skipped downs) = Unit {0}

-- the step discards no chunk of the version
abbrev pub Keeps : ℕ → ServerStep → Type 0
Keeps version (ServerStep.Discard other) = nat_eq other version ≡ false
Keeps version step = Unit {0}

-- a wipe raises the epoch, as long as it can be raised
abbrev pub Rises : ServerStep → ℕ → Type 0
Rises ServerStep.Wipe epoch = epoch < 2 ^ 64 - 1
Rises step epoch = Unit {0}

-- ---- what is held
or_true : (b : Bool) → (b || true) ≡ true
or_true true = refl
or_true false = refl

still_held : (version other : ℕ) (held : List ℕ) → is_among version held ≡ true → is_among version (hold other held) ≡ true
still_held version other held h = holds_in_order.held other version held ∙ ap (λ b. nat_eq version other || b) h ∙ or_true (nat_eq version other)

now_held : (version : ℕ) (held : List ℕ) → is_among version (hold version held) ≡ true
now_held version held = holds_in_order.held version version held ∙ ap (λ b. b || is_among version held) (eq-eqb version version refl)

not_gone : (version other : ℕ) (held : List ℕ) → nat_eq other version ≡ false → is_among version held ≡ true → is_among version (let_go other held) ≡ true
not_gone version other held differ h = holds_in_order.gone other version held ∙ ap (λ b. not b && is_among version held) differ ∙ h

module _ (s : Server) (version placed : ℕ) where
  abbrev Stays : Server × Told → Type 0
  Stays after = HasOrLost after.0 version placed

  grown : (other : ℕ) → HasOrLost s version placed → HasOrLost (record s { held = hold other s.held }) version placed
  grown other (inl h) = inl (still_held version other s.held h.0, h.1)
  grown other (inr h) = inr h

  let_gone : (other : ℕ) → nat_eq other version ≡ false → HasOrLost s version placed → HasOrLost (record s { held = let_go other s.held }) version placed
  let_gone other differ (inl h) = inl (not_gone version other s.held differ h.0, h.1)
  let_gone other differ (inr h) = inr h

  raised : s.epoch < 2 ^ 64 - 1 → HasOrLost s version placed → HasOrLost (record s { held = []; epoch = raised_by 1 s.epoch }) version placed
  raised low (inl h) = inr (let most : placed ≤ s.epoch = h.1 in omega (arith, low, most))
  raised low (inr h) = inr (omega (arith, low, h))

  installed_stays : (away there : Bool) (other : ℕ) → HasOrLost s version placed → Stays (install away there other s)
  installed_stays true there other h = h
  installed_stays false true other h = h
  installed_stays false false other h = grown other h

  made_stays : (step : ServerStep) → Keeps version step → Rises step s.epoch → HasOrLost s version placed → Stays (made_at_server step s)
  made_stays (ServerStep.Prepare other) keeps low h =
      cond_both {A = Server × Told} s.away (s, Told.Prepared (placement.Skipped s.downs)) (record s { held = hold other s.held }, Told.Prepared (placement.At s.epoch)) Stays (λ _. h) (λ _. grown other h)
  made_stays (ServerStep.Settle other) keeps low h = h
  made_stays (ServerStep.Has other) keeps low h = cond_both {A = Server × Told} (gives other s) (s, Told.Here) (s, Told.Missing (found_at s)) Stays (λ _. h) (λ _. h)
  made_stays (ServerStep.Fetch other layers) keeps low h =
      cond_both {A = Server × Told} (gives other s) (record s { taken = raised_by (length layers) s.taken }, Told.Given (length layers)) (s, Told.Missing (found_at s)) Stays (λ _. h) (λ _. h)
  made_stays (ServerStep.Install other) keeps low h = installed_stays s.away (is_among other s.held) other h
  made_stays (ServerStep.Discard other) keeps low h = let_gone other keeps h
  made_stays ServerStep.Wipe keeps low h = raised low h
  made_stays ServerStep.Down keeps low h = h
  made_stays ServerStep.Up keeps low h = h

  short_stays : (short takes : Bool) (step : ServerStep) → Keeps version step → Rises step s.epoch → HasOrLost s version placed → Stays (server_unless_short short takes step s)
  short_stays true true step keeps low h = h
  short_stays true false step keeps low h = made_stays step keeps low h
  short_stays false true step keeps low h = made_stays step keeps low h
  short_stays false false step keeps low h = made_stays step keeps low h

  -- no step at the server but a discard of that version loses the chunk without raising the epoch
  pub chunk_stays : (short : Bool) (step : ServerStep) → Keeps version step → Rises step s.epoch → HasOrLost s version placed → HasOrLost (at_server short step s).0 version placed
  chunk_stays short step keeps low h = short_stays short (server_takes_memory step) step keeps low h

-- so of any placement
pub took_stays : (s : Server) (version : ℕ) (row : Placement) (short : Bool) (step : ServerStep) → Keeps version step → Rises step s.epoch → TookOrLost s version row → TookOrLost (at_server short step s).0 version row
took_stays s version (placement.At epoch) short step keeps low h = chunk_stays s version epoch short step keeps low h
took_stays s version (placement.Skipped downs) short step keeps low h = tt

-- ---- answers
-- where a server tells how it took a chunk, so it is
abbrev pub ToldWell : ℕ → Server × Told → Type 0
ToldWell version (after, Told.Prepared row) = TookOrLost after version row
ToldWell version (after, Told.Placed epoch) = HasOrLost after version epoch
ToldWell version (after, answer) = Unit {0}

module _ (s : Server) (version : ℕ) where
  held_now : HasOrLost (record s { held = hold version s.held }) version s.epoch
  held_now = inl (now_held version s.held, omega arith)

  pub prepare_places : (short : Bool) → ToldWell version (at_server short (ServerStep.Prepare version) s)
  prepare_places true = tt
  prepare_places false =
      cond_both {A = Server × Told} s.away (s, Told.Prepared (placement.Skipped s.downs)) (record s { held = hold version s.held }, Told.Prepared (placement.At s.epoch)) (ToldWell version) (λ _. tt) (λ _. held_now)

  installed_well : (away there : Bool) → ToldWell version (install away there version s)
  installed_well true there = tt
  installed_well false true = tt
  installed_well false false = held_now

  pub install_places : (short : Bool) → ToldWell version (at_server short (ServerStep.Install version) s)
  install_places true = tt
  install_places false = installed_well s.away (is_among version s.held)

-- a chunk that a server lacks was placed before the epoch that is told; one that is away tells its downs
abbrev pub FoundWell : Server → Placement → Found → Type 0
FoundWell s (placement.At earlier) (found.Absent epoch) = (earlier < epoch) × (epoch ≡ s.epoch)
FoundWell s (placement.Skipped downs) (found.Absent epoch) = epoch ≡ s.epoch
FoundWell s row (found.Away downs) = (s.away ≡ true) × (downs ≡ s.downs)

abbrev pub MissesWell : Server → Placement → Told → Type 0
MissesWell s row (Told.Missing found) = FoundWell s row found
MissesWell s row answer = Unit {0}

module _ (s : Server) (version : ℕ) where
  lost : (row : Placement) → is_among version s.held ≡ false → TookOrLost s version row → FoundWell s row (found.Absent s.epoch)
  lost (placement.At earlier) none (inl h) = absurd (true≢false (sym h.0 ∙ none))
  lost (placement.At earlier) none (inr h) = (h, refl)
  lost (placement.Skipped downs) none h = refl

  away_well : (row : Placement) → s.away ≡ true → FoundWell s row (found.Away s.downs)
  away_well (placement.At earlier) e = (e, refl)
  away_well (placement.Skipped downs) e = (e, refl)

  found_well : (row : Placement) → gives version s ≡ false → TookOrLost s version row → FoundWell s row (found_at s)
  found_well row none h =
      cond_both {A = Found} s.away (found.Away s.downs) (found.Absent s.epoch) (FoundWell s row) (λ e. away_well row e)
      (λ e. lost row (sym (ap (λ b. not b && is_among version s.held) e) ∙ none) h)

  pub has_misses : (row : Placement) (short : Bool) → TookOrLost s version row → MissesWell s row (at_server short (ServerStep.Has version) s).1
  has_misses row true well = cond_both {A = Server × Told} (gives version s) (s, Told.Here) (s, Told.Missing (found_at s)) (λ r. MissesWell s row r.1) (λ _. tt) (λ e. found_well row e well)
  has_misses row false well = cond_both {A = Server × Told} (gives version s) (s, Told.Here) (s, Told.Missing (found_at s)) (λ r. MissesWell s row r.1) (λ _. tt) (λ e. found_well row e well)

  pub fetch_misses : (layers : List ℕ) (row : Placement) (short : Bool) → TookOrLost s version row → MissesWell s row (at_server short (ServerStep.Fetch version layers) s).1
  fetch_misses layers row true well = tt
  fetch_misses layers row false well =
      cond_both {A = Server × Told} (gives version s) (record s { taken = raised_by (length layers) s.taken }, Told.Given (length layers)) (s, Told.Missing (found_at s)) (λ r. MissesWell s row r.1) (λ _. tt) (λ e. found_well row e well)

-- both of two epochs, so the greater one
pub both_placed : (s : Server) (version a b : ℕ) → HasOrLost s version a → HasOrLost s version b → HasOrLost s version (max a b)
both_placed s version a b (inl h) (inl k) = inl (h.0, (let one : a ≤ s.epoch = h.1 in let two : b ≤ s.epoch = k.1 in omega (arith, one, two)))
both_placed s version a b (inl h) (inr k) = inl (h.0, (let one : a ≤ s.epoch = h.1 in omega (arith, one, k)))
both_placed s version a b (inr h) (inl k) = inl (k.0, (let two : b ≤ s.epoch = k.1 in omega (arith, h, two)))
both_placed s version a b (inr h) (inr k) = inr (omega (arith, h, k))

-- What is known of servers: how often each was emptied and made away, by the operator's lines so far.
use Rattle.std.proofs.Common.{◌≡◌, ℕ, ◌+◌, ◌-◌, ◌^◌, ◌<◌, ◌≤◌, Bool, true, false, cond, nat_eq, List, [], ◌∷◌, ◌++◌, length, count_by, Some, ◌⊎◌, inl, inr, refl, sym, ap, subst, ◌∙◌, arith, true≢false}
use Rattle.std.proofs.lemmas.Bool.{cases_eq, cond_both, eq-eqb}
use Rattle.std.proofs.lemmas.Option.{same_Some}
use Rattle.std.proofs.lemmas.List.Sums.{count_by-le-length, sum_by-cons, sum_by-append}
use Rattle.std.specs.List.{slice_get}
use Rattle.store_map.specs.declared.actor.Token.{Token}
use Rattle.store_map.specs.declared.actor.Token.TheVariants as token
use Rattle.store_map.specs.declared.placement.Placement.TheVariants as placement
use Rattle.store_core.specs.Act.{ServerStep, server_takes_memory}
use Rattle.store_core.specs.Lists.{change_at, is_among}
use Rattle.store_core.specs.Server.{Server, hold, raised_by, gives, found_at, install, made_at_server, server_unless_short, at_server}
use Rattle.store_core.specs.Told.{Told}
use Rattle.store_core.proofs.Places.{slice_get-change_at}
use Rattle.run_laws.specs.Answers.{ServerAnswers}
use Rattle.run_laws.proofs.SoundVersions.{change_here}
use Rattle.hist_rules.specs.Counts.{is_wipe_of, is_down_of}
use Rattle.history_laws.proofs.LossesServer.{ServerKnown}

-- ---- counts
count-cons : {X : Type 0} (p : X → Bool) (x : X) (xs : List X) → count_by p (x ∷ xs) ≡ cond {A = ℕ} (p x) 1 0 + count_by p xs
count-cons p x xs = sum_by-cons (λ y. cond {A = ℕ} (p y) 1 0) x xs

count-append : {X : Type 0} (p : X → Bool) (xs ys : List X) → count_by p (xs ++ ys) ≡ count_by p xs + count_by p ys
count-append p xs ys = sum_by-append (λ y. cond {A = ℕ} (p y) 1 0) xs ys

-- ---- the operator's lines
abbrev pub wiped : List Token → ℕ → ℕ
wiped tokens j = count_by (is_wipe_of j) tokens

abbrev pub made_away : List Token → ℕ → ℕ
made_away tokens j = count_by (is_down_of j) tokens

pub wiped_append : (past rest : List Token) (j : ℕ) → wiped (past ++ rest) j ≡ wiped past j + wiped rest j
wiped_append past rest j = count-append (is_wipe_of j) past rest

abbrev pub KnownAt : List Token → List Server → Type 0
KnownAt past servers = (j : ℕ) (s : Server) → slice_get servers j ≡ Some s → ServerKnown (wiped past) (made_away past) j s

pub known_more : (past rest : List Token) (servers : List Server) → KnownAt past servers → KnownAt (past ++ rest) servers
known_more past rest servers h j s e =
    let k : ServerKnown (wiped past) (made_away past) j s = h j s e in
    let wipes : wiped (past ++ rest) j ≡ wiped past j + wiped rest j = count-append (is_wipe_of j) past rest in
    let downs : made_away (past ++ rest) j ≡ made_away past j + made_away rest j = count-append (is_down_of j) past rest in
    let low : s.epoch ≤ wiped past j = k.epoch in
    let few : s.downs ≤ made_away past j = k.downs_told in
    record { epoch = omega (arith, wipes, low); downs_told = omega (arith, downs, few); away = k.away }

-- one server changed
pub one_server : (P : ℕ → Server → Type 0) (server : ℕ) (old now : Server) (servers : List Server) → slice_get servers server ≡ Some old → P server now → ((j : ℕ) (s : Server) → slice_get servers j ≡ Some s → P j s)
    → (j : ℕ) (s : Server) → slice_get (change_at server (λ _. now) servers) j ≡ Some s → P j s
one_server P server old now servers found own others j s e = by (cases_eq server j)
  where
    by : (server ≡ j) ⊎ (server ≡ j → ⊥) → P j s
    by (inl same) =
        let here : slice_get (change_at server (λ _. now) servers) j ≡ Some now = subst (λ i. slice_get (change_at server (λ _. now) servers) i ≡ Some now) same (change_here server (λ _. now) servers old found) in
        subst (P j) (same_Some now s (sym here ∙ e)) (subst (λ i. P i now) same own)
    by (inr differ) = others j s (sym (slice_get-change_at server j (λ _. now) servers (λ k. differ (sym k))) ∙ e)

-- ---- a call's step
module _ (most downs : ℕ → ℕ) (j : ℕ) (s : Server) (known : ServerKnown most downs j s) where
  abbrev Stays : Server × Told → Type 0
  Stays after = ServerKnown most downs j after.0

  grown : (held : List ℕ) → ServerKnown most downs j (record s { held = held })
  grown held = record { epoch = known.epoch; downs_told = known.downs_told; away = known.away }

  given : (taken : ℕ) → ServerKnown most downs j (record s { taken = taken })
  given taken = record { epoch = known.epoch; downs_told = known.downs_told; away = known.away }

  installed : (away there : Bool) (version : ℕ) → Stays (install away there version s)
  installed true there version = known
  installed false true version = known
  installed false false version = grown (hold version s.held)

  made_known : (step : ServerStep) (answer : Told) → ServerAnswers step answer → Stays (made_at_server step s)
  made_known (ServerStep.Prepare version) answer h =
      cond_both {A = Server × Told} s.away (s, Told.Prepared (placement.Skipped s.downs)) (record s { held = hold version s.held }, Told.Prepared (placement.At s.epoch)) Stays (λ _. known) (λ _. grown (hold version s.held))
  made_known (ServerStep.Settle version) answer h = known
  made_known (ServerStep.Has version) answer h = cond_both {A = Server × Told} (gives version s) (s, Told.Here) (s, Told.Missing (found_at s)) Stays (λ _. known) (λ _. known)
  made_known (ServerStep.Fetch version layers) answer h =
      cond_both {A = Server × Told} (gives version s) (record s { taken = raised_by (length layers) s.taken }, Told.Given (length layers)) (s, Told.Missing (found_at s)) Stays (λ _. given (raised_by (length layers) s.taken)) (λ _. known)
  made_known (ServerStep.Install version) answer h = installed s.away (is_among version s.held) version
  made_known step answer h = absurd h

  short_known : (short takes : Bool) (step : ServerStep) (answer : Told) → ServerAnswers step answer → Stays (server_unless_short short takes step s)
  short_known true true step answer h = known
  short_known true false step answer h = made_known step answer h
  short_known false true step answer h = made_known step answer h
  short_known false false step answer h = made_known step answer h

  pub call_known : (short : Bool) (step : ServerStep) (answer : Told) → ServerAnswers step answer → ServerKnown most downs j (at_server short step s).0
  call_known short step answer h = short_known short (server_takes_memory step) step answer h

-- ---- the operator's steps
module _ (past : List Token) (server : ℕ) (s : Server) (known : ServerKnown (wiped past) (made_away past) server s) where
  pub wipe_known : ServerKnown (wiped (past ++ token.Wipe server ∷ [])) (made_away (past ++ token.Wipe server ∷ [])) server (at_server false ServerStep.Wipe s).0
  wipe_known =
      let wipes : wiped (past ++ token.Wipe server ∷ []) server ≡ wiped past server + wiped (token.Wipe server ∷ []) server = count-append (is_wipe_of server) past (token.Wipe server ∷ []) in
      let one : wiped (token.Wipe server ∷ []) server ≡ cond {A = ℕ} (nat_eq server server) 1 0 + 0 = count-cons (is_wipe_of server) (token.Wipe server) [] in
      let is_one : ◌≡◌ {A = ℕ} (cond {A = ℕ} (nat_eq server server) 1 0) 1 = ap (λ b. cond {A = ℕ} b 1 0) (eq-eqb server server refl) in
      let downs : made_away (past ++ token.Wipe server ∷ []) server ≡ made_away past server + made_away (token.Wipe server ∷ []) server = count-append (is_down_of server) past (token.Wipe server ∷ []) in
      let low : s.epoch ≤ wiped past server = known.epoch in
      let few : s.downs ≤ made_away past server = known.downs_told in
      record { epoch = omega (arith, wipes, one, is_one, low); downs_told = omega (arith, downs, few); away = known.away }

  pub down_known : ServerKnown (wiped (past ++ token.Down server ∷ [])) (made_away (past ++ token.Down server ∷ [])) server (at_server false ServerStep.Down s).0
  down_known =
      let wipes : wiped (past ++ token.Down server ∷ []) server ≡ wiped past server + wiped (token.Down server ∷ []) server = count-append (is_wipe_of server) past (token.Down server ∷ []) in
      let downs : made_away (past ++ token.Down server ∷ []) server ≡ made_away past server + made_away (token.Down server ∷ []) server = count-append (is_down_of server) past (token.Down server ∷ []) in
      let one : made_away (token.Down server ∷ []) server ≡ cond {A = ℕ} (nat_eq server server) 1 0 + 0 = count-cons (is_down_of server) (token.Down server) [] in
      let is_one : ◌≡◌ {A = ℕ} (cond {A = ℕ} (nat_eq server server) 1 0) 1 = ap (λ b. cond {A = ℕ} b 1 0) (eq-eqb server server refl) in
      let low : s.epoch ≤ wiped past server = known.epoch in
      let few : s.downs ≤ made_away past server = known.downs_told in
      record { epoch = omega (arith, wipes, low); downs_told = omega (arith, downs, one, is_one, few); away = λ _. omega arith }

  pub up_known : ServerKnown (wiped (past ++ token.Up server ∷ [])) (made_away (past ++ token.Up server ∷ [])) server (at_server false ServerStep.Up s).0
  up_known =
      let wipes : wiped (past ++ token.Up server ∷ []) server ≡ wiped past server + wiped (token.Up server ∷ []) server = count-append (is_wipe_of server) past (token.Up server ∷ []) in
      let downs : made_away (past ++ token.Up server ∷ []) server ≡ made_away past server + made_away (token.Up server ∷ []) server = count-append (is_down_of server) past (token.Up server ∷ []) in
      let low : s.epoch ≤ wiped past server = known.epoch in
      let few : s.downs ≤ made_away past server = known.downs_told in
      record { epoch = omega (arith, wipes, low); downs_told = omega (arith, downs, few); away = λ e. absurd (true≢false (sym e)) }

  -- an epoch can be raised while the server is emptied less often than 2^64 times
  pub can_rise : wiped (past ++ token.Wipe server ∷ []) server < 2 ^ 64 → s.epoch < 2 ^ 64 - 1
  can_rise few =
      let low : s.epoch ≤ wiped past server = known.epoch in
      let wipes : wiped (past ++ token.Wipe server ∷ []) server ≡ wiped past server + wiped (token.Wipe server ∷ []) server = count-append (is_wipe_of server) past (token.Wipe server ∷ []) in
      let one : wiped (token.Wipe server ∷ []) server ≡ cond {A = ℕ} (nat_eq server server) 1 0 + 0 = count-cons (is_wipe_of server) (token.Wipe server) [] in
      let is_one : ◌≡◌ {A = ℕ} (cond {A = ℕ} (nat_eq server server) 1 0) 1 = ap (λ b. cond {A = ℕ} b 1 0) (eq-eqb server server refl) in
      omega (arith, low, wipes, one, is_one, few)

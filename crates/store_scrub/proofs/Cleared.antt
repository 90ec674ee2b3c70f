-- Servers without what is listed, when one more is.
use Rattle.std.proofs.Common.{◌≡◌, ℕ, zero, suc, ◌+◌, ◌<◌, nat_eq, Bool, true, false, not, ◌&&◌, ◌||◌, List, [], ◌∷◌, ◌++◌, map, filter, All, refl, sym, ap, ◌∙◌, arith}
use Rattle.std.specs.List.{enumerate_from}
use Rattle.std.proofs.lemmas.Bool.{eq-eqb, eqb-true}
use Rattle.std.proofs.lemmas.List.Elements.{All-cons, All-head, All-tail}
use Rattle.std.proofs.lemmas.List.Folds.{list_any-append}
use Rattle.store_core.specs.Lists.{change_at}
use Rattle.chunk_server.specs.State.{Held, ServerState}
use Rattle.chunk_server.specs.Steps.{after_discard}
use Rattle.store_scrub.specs.Strays.{is_listed, cleared}
use Rattle.store_scrub.specs.declared.report.Stray.{Stray}
use Rattle.store_scrub.proofs.Lists.{cases, filter_twice, filter_alike}

module _ (strays : List Stray) (one : Stray) where
  -- what is listed then
  listed_more : (server version : ℕ) → is_listed (strays ++ one ∷ []) server version ≡ (is_listed strays server version || ((nat_eq one.server server && nat_eq one.stamp.version version) || false))
  listed_more server version = list_any-append (λ stray. nat_eq stray.server server && nat_eq stray.stamp.version version) strays (one ∷ [])

  -- a server of another number stays
  cleared_other : (n : ℕ) (s : ServerState) → nat_eq one.server n ≡ false → cleared strays (n, s) ≡ cleared (strays ++ one ∷ []) (n, s)
  cleared_other n s e = ap (λ l. record s { held = l }) (filter_alike _ _ same s.held)
    where
      none : (a b : Bool) → not a ≡ not (a || ((false && b) || false))
      none true b = refl
      none false b = refl

      same : (h : Held) → not (is_listed strays n h.version) ≡ not (is_listed (strays ++ one ∷ []) n h.version)
      same h =
          none (is_listed strays n h.version) (nat_eq one.stamp.version h.version)
          ∙ ap (λ b. not (is_listed strays n h.version || ((b && nat_eq one.stamp.version h.version) || false))) (sym e)
          ∙ ap not (sym (listed_more n h.version))

  -- that of its number loses its version
  cleared_here : (n : ℕ) (s : ServerState) → nat_eq one.server n ≡ true → after_discard one.stamp.version (cleared strays (n, s)) ≡ cleared (strays ++ one ∷ []) (n, s)
  cleared_here n s e =
      ap (λ l. record s { held = l })
      (filter_twice (λ (h : Held). not (nat_eq one.stamp.version h.version)) (λ (h : Held). not (is_listed strays n h.version)) s.held ∙ filter_alike _ _ same s.held)
    where
      both : (a b : Bool) → (not a && not b) ≡ not (a || ((true && b) || false))
      both true b = refl
      both false true = refl
      both false false = refl

      same : (h : Held) → (not (is_listed strays n h.version) && not (nat_eq one.stamp.version h.version)) ≡ not (is_listed (strays ++ one ∷ []) n h.version)
      same h =
          both (is_listed strays n h.version) (nat_eq one.stamp.version h.version)
          ∙ ap (λ b. not (is_listed strays n h.version || ((b && nat_eq one.stamp.version h.version) || false))) (sym e)
          ∙ ap not (sym (listed_more n h.version))

  -- so those of greater numbers stay
  later : (n : ℕ) (servers : List ServerState) → one.server < n → map (cleared strays) (enumerate_from n servers) ≡ map (cleared (strays ++ one ∷ [])) (enumerate_from n servers)
  later n [] h = refl
  later n (s ∷ servers) h = λ i. cleared_other n s (apart n h) i ∷ later (n + 1) servers (omega arith) i
    where
      apart : (n : ℕ) → one.server < n → nat_eq one.server n ≡ false
      apart n h = cases (nat_eq one.server n) (λ e. let same : one.server ≡ n = eqb-true one.server n e in absurd (omega arith)) (λ e. e)

  -- from a number on
  cleared_from : (n i : ℕ) (servers : List ServerState) → n + i ≡ one.server
      → change_at i (after_discard one.stamp.version) (map (cleared strays) (enumerate_from n servers)) ≡ map (cleared (strays ++ one ∷ [])) (enumerate_from n servers)
  cleared_from n i [] e = refl
  cleared_from n zero (s ∷ servers) e =
      let here : one.server ≡ n = omega arith in
      λ i. cleared_here n s (eq-eqb one.server n here) i ∷ later (n + 1) servers (omega arith) i
  cleared_from n (suc i) (s ∷ servers) e = λ k. cleared_other n s apart k ∷ cleared_from (n + 1) i servers (omega arith) k
    where
      apart : nat_eq one.server n ≡ false
      apart = cases (nat_eq one.server n) (λ t. let same : one.server ≡ n = eqb-true one.server n t in absurd (omega arith)) (λ f. f)

  -- one version more is discarded
  pub cleared_more : (servers : List ServerState)
      → change_at one.server (after_discard one.stamp.version) (map (cleared strays) (enumerate_from 0 servers)) ≡ map (cleared (strays ++ one ∷ [])) (enumerate_from 0 servers)
  cleared_more servers = cleared_from 0 one.server servers (omega arith)

-- servers that are present stay so
pub present_from : (strays : List Stray) (n : ℕ) (servers : List ServerState) → All (λ server. server.away ≡ false) servers
    → All (λ server. server.away ≡ false) (map (cleared strays) (enumerate_from n servers))
present_from strays n [] present = present
present_from strays n (s ∷ servers) present =
    All-cons (λ (server : ServerState). server.away ≡ false) (cleared strays (n, s)) (map (cleared strays) (enumerate_from (n + 1) servers))
    (All-head (λ (server : ServerState). server.away ≡ false) s servers present)
    (present_from strays (n + 1) servers (All-tail (λ (server : ServerState). server.away ≡ false) s servers present))

-- nothing is discarded where nothing is listed
all_kept : (chunks : List Held) → filter (λ (held : Held). not false) chunks ≡ chunks
all_kept [] = refl
all_kept (held ∷ chunks) = ap (λ l. held ∷ l) (all_kept chunks)

pub cleared_nothing : (n : ℕ) (servers : List ServerState) → map (cleared []) (enumerate_from n servers) ≡ servers
cleared_nothing n [] = refl
cleared_nothing n (s ∷ servers) = λ i. record s { held = all_kept s.held i } ∷ cleared_nothing (n + 1) servers i

-- Tokens with the operator's lines of a script empty servers, make them away and give calls up as often as its schedule.
use Rattle.std.proofs.Common.{◌≡◌, ℕ, ◌+◌, Bool, true, false, cond, List, [], ◌∷◌, filter, count_by, refl, sym, ap, subst, ◌∙◌, true≢false, ◌^◌, ◌<◌, arith}
use Rattle.std.proofs.lemmas.List.Sums.{sum_by-cons}
use Rattle.store_map.specs.Naming.{IsValid}
use Rattle.store_map.specs.declared.actor.Token.{Token}
use Rattle.store_map.specs.declared.actor.Token.TheVariants as token
use Rattle.store_map.specs.declared.script.Script.{Script}
use Rattle.store_map.specs.declared.call_name.CallName.{CallName}
use Rattle.store_map.specs.declared.call_name.CallName.TheVariants as name
use Rattle.hist_rules.specs.Counts.{is_wipe_of, is_down_of, is_reap_of_client, is_reap_of_repairer, wipes, downs, reaps}
use Rattle.thread_laws.specs.Threaded.{is_line, lines_of}
use Rattle.history_laws.specs.HistoryLaws.{scheduled, HasFewWipes}
use Rattle.history_laws.proofs.FewWipes.{few_wipes}

-- ---- a test that only lines pass counts lines alone
abbrev IsOfLines : (Token → Bool) → Type 0
IsOfLines test = (t : Token) → test t ≡ true → is_line t ≡ true

count_cons : (test : Token → Bool) (t : Token) (ts : List Token) → count_by test (t ∷ ts) ≡ cond {A = ℕ} (test t) 1 0 + count_by test ts
count_cons test t ts = sum_by-cons (λ x. cond {A = ℕ} (test x) 1 0) t ts

count_lines : (test : Token → Bool) → IsOfLines test → (ts : List Token) → count_by test (filter is_line ts) ≡ count_by test ts
count_lines test of [] = refl
count_lines test of (t ∷ ts) = by (count_lines test of ts) (test t) refl (is_line t) refl
  where
    kept : count_by test (filter is_line ts) ≡ count_by test ts → count_by test (t ∷ filter is_line ts) ≡ count_by test (t ∷ ts)
    kept rest = count_cons test t (filter is_line ts) ∙ ap (λ n. cond {A = ℕ} (test t) 1 0 + n) rest ∙ sym (count_cons test t ts)

    by : count_by test (filter is_line ts) ≡ count_by test ts → (b : Bool) → test t ≡ b → (c : Bool) → is_line t ≡ c
        → count_by test (cond {A = List Token} c (t ∷ filter is_line ts) (filter is_line ts)) ≡ count_by test (t ∷ ts)
    by rest b e true f = kept rest
    by rest true e false f = absurd (true≢false (sym (of t e) ∙ f))
    by rest false e false f =
        let whole : count_by test (t ∷ ts) ≡ cond {A = ℕ} (test t) 1 0 + count_by test ts = count_cons test t ts in
        let none : ◌≡◌ {A = ℕ} (cond {A = ℕ} (test t) 1 0) 0 = ap (λ b. cond {A = ℕ} b 1 0) e in
        omega (arith, rest, whole, none)

-- ---- the four tests
wipe_lines : (server : ℕ) → IsOfLines (is_wipe_of server)
wipe_lines server (token.Wipe other) e = refl
wipe_lines server (token.Down other) e = absurd (true≢false (sym e))
wipe_lines server (token.Up other) e = absurd (true≢false (sym e))
wipe_lines server (token.ReapClient i) e = absurd (true≢false (sym e))
wipe_lines server (token.ReapRepairer i) e = absurd (true≢false (sym e))
wipe_lines server (token.Client i) e = absurd (true≢false (sym e))
wipe_lines server (token.Repairer i) e = absurd (true≢false (sym e))
wipe_lines server token.Sweep e = absurd (true≢false (sym e))
wipe_lines server token.Drain e = absurd (true≢false (sym e))

down_lines : (server : ℕ) → IsOfLines (is_down_of server)
down_lines server (token.Down other) e = refl
down_lines server (token.Wipe other) e = absurd (true≢false (sym e))
down_lines server (token.Up other) e = absurd (true≢false (sym e))
down_lines server (token.ReapClient i) e = absurd (true≢false (sym e))
down_lines server (token.ReapRepairer i) e = absurd (true≢false (sym e))
down_lines server (token.Client i) e = absurd (true≢false (sym e))
down_lines server (token.Repairer i) e = absurd (true≢false (sym e))
down_lines server token.Sweep e = absurd (true≢false (sym e))
down_lines server token.Drain e = absurd (true≢false (sym e))

client_lines : (i : ℕ) → IsOfLines (is_reap_of_client i)
client_lines i (token.ReapClient other) e = refl
client_lines i (token.Wipe other) e = absurd (true≢false (sym e))
client_lines i (token.Down other) e = absurd (true≢false (sym e))
client_lines i (token.Up other) e = absurd (true≢false (sym e))
client_lines i (token.ReapRepairer other) e = absurd (true≢false (sym e))
client_lines i (token.Client other) e = absurd (true≢false (sym e))
client_lines i (token.Repairer other) e = absurd (true≢false (sym e))
client_lines i token.Sweep e = absurd (true≢false (sym e))
client_lines i token.Drain e = absurd (true≢false (sym e))

repairer_lines : (i : ℕ) → IsOfLines (is_reap_of_repairer i)
repairer_lines i (token.ReapRepairer other) e = refl
repairer_lines i (token.Wipe other) e = absurd (true≢false (sym e))
repairer_lines i (token.Down other) e = absurd (true≢false (sym e))
repairer_lines i (token.Up other) e = absurd (true≢false (sym e))
repairer_lines i (token.ReapClient other) e = absurd (true≢false (sym e))
repairer_lines i (token.Client other) e = absurd (true≢false (sym e))
repairer_lines i (token.Repairer other) e = absurd (true≢false (sym e))
repairer_lines i token.Sweep e = absurd (true≢false (sym e))
repairer_lines i token.Drain e = absurd (true≢false (sym e))

-- ---- so the counts are those of the schedule
module _ (script : Script) (tokens : List Token) (lines : filter is_line tokens ≡ lines_of script) where
  same_count : (test : Token → Bool) → IsOfLines test → count_by test tokens ≡ count_by test script.schedule
  same_count test of = sym (count_lines test of tokens) ∙ ap (count_by test) lines ∙ count_lines test of script.schedule

  pub same_wipes : (server : ℕ) → wipes (scheduled script tokens) server ≡ wipes script server
  same_wipes server = same_count (is_wipe_of server) (wipe_lines server)

  pub same_downs : (server : ℕ) → downs (scheduled script tokens) server ≡ downs script server
  same_downs server = same_count (is_down_of server) (down_lines server)

  pub same_reaps : (call : CallName) → reaps (scheduled script tokens) call ≡ reaps script call
  same_reaps (name.Client call) = same_count (is_reap_of_client call.client) (client_lines call.client)
  same_reaps (name.Repairer call) = same_count (is_reap_of_repairer call.repairer) (repairer_lines call.repairer)

  pub few_in_lines : IsValid script → HasFewWipes tokens
  few_in_lines valid server = subst (λ (n : ℕ). n < 2 ^ 64) (sym (same_wipes server)) (few_wipes script valid server)

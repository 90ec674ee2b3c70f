-- A server's epoch is at most the script's wipes of it.
use Rattle.std.proofs.Common.{◌≡◌, ℕ, ◌+◌, ◌-◌, ◌^◌, ◌≤◌, min, nat_eq, Bool, true, false, true≢false, cond, List, [], ◌∷◌, filter, count_by, refl, sym, ap, subst, ◌∙◌, arith}
use Rattle.std.proofs.lemmas.List.Sums.{sum_by-cons, sum_by-append}
use mathlib.Core.List.{IsPrefix}
use Rattle.store_map.specs.declared.actor.Token.{Token}
use Rattle.store_map.specs.declared.actor.Token.TheVariants as token
use Rattle.hist_rules.specs.Counts.{is_wipe_of, wipes}
use Rattle.store_core.specs.Act.{Act, ServerStep}
use Rattle.store_core.specs.ActPlace.{ActPlace}
use Rattle.store_core.specs.Server.{Server, at_server, new_server}
use Rattle.history_laws.proofs.ServerEpochs.{same_epoch}
use Rattle.thread_laws.specs.AtPlaces.{after_all, server_act, server_next}
use Rattle.thread_laws.specs.MadeSteps.{MadeStep}
use Rattle.thread_laws.specs.Threaded.{is_line, lines_of}
use Rattle.thread_laws.specs.Entries.{steps_in}
use Rattle.thread_laws.specs.Epochs.{EpochsAreWipes}
use Rattle.thread_laws.specs.Operated.{acts_in, acts_there, is_operators, operated_in}

-- ---- acts that empty a server
abbrev is_wipe : ServerStep → Bool
is_wipe ServerStep.Wipe = true
is_wipe step = false

abbrev empties : Act → Bool
empties (Act.AtServer server step) = is_wipe step
empties (Act.AtDirectory step) = false
empties (Act.Finish outcome) = false

abbrev one_if : Bool → ℕ
one_if b = cond {A = ℕ} b 1 0

abbrev wiped : List Act → ℕ
wiped acts = count_by empties acts

none_more : (n : ℕ) → 0 + n ≡ n
none_more n = omega arith

wiped_cons : (act : Act) (acts : List Act) → wiped (act ∷ acts) ≡ one_if (empties act) + wiped acts
wiped_cons act acts = sum_by-cons (λ x. cond {A = ℕ} (empties x) 1 0) act acts

-- ---- a step raises the epoch by one at most, and only where it is one of them
raised_one : (n : ℕ) → min (n + 1) (2 ^ 64 - 1) ≤ n + 1
raised_one n = omega arith

wiped_epoch : (short : Bool) (s : Server) → (at_server short ServerStep.Wipe s).0.epoch ≤ s.epoch + 1
wiped_epoch true s = raised_one s.epoch
wiped_epoch false s = raised_one s.epoch

same_or_less : (now before : ℕ) → now ≡ before → now ≤ before + 0
same_or_less now before same = omega (arith, same)

step_epoch : (short : Bool) (step : ServerStep) (s : Server) → (at_server short step s).0.epoch ≤ s.epoch + one_if (is_wipe step)
step_epoch short ServerStep.Wipe s = wiped_epoch short s
step_epoch short (ServerStep.Prepare version) s = same_or_less _ s.epoch (same_epoch short (ServerStep.Prepare version) s tt)
step_epoch short (ServerStep.Settle version) s = same_or_less _ s.epoch (same_epoch short (ServerStep.Settle version) s tt)
step_epoch short (ServerStep.Has version) s = same_or_less _ s.epoch (same_epoch short (ServerStep.Has version) s tt)
step_epoch short (ServerStep.Fetch version layers) s = same_or_less _ s.epoch (same_epoch short (ServerStep.Fetch version layers) s tt)
step_epoch short (ServerStep.Install version) s = same_or_less _ s.epoch (same_epoch short (ServerStep.Install version) s tt)
step_epoch short (ServerStep.Discard version) s = same_or_less _ s.epoch (same_epoch short (ServerStep.Discard version) s tt)
step_epoch short ServerStep.Down s = same_or_less _ s.epoch (same_epoch short ServerStep.Down s tt)
step_epoch short ServerStep.Up s = same_or_less _ s.epoch (same_epoch short ServerStep.Up s tt)

act_epoch : (m : MadeStep) (act : Act) (s : Server) → (server_act m act s).0.epoch ≤ s.epoch + one_if (empties act)
act_epoch m (Act.AtServer server step) s = step_epoch m.shortage.step step s
act_epoch m (Act.AtDirectory step) s = same_or_less s.epoch s.epoch refl
act_epoch m (Act.Finish outcome) s = same_or_less s.epoch s.epoch refl

chain : (end mid before one more all : ℕ) → end ≤ mid + more → mid ≤ before + one → all ≡ one + more → end ≤ before + all
chain end mid before one more all last first sum = omega (arith, last, first, sum)

after_epoch : (steps : List MadeStep) (s : Server) → (after_all server_next steps s).epoch ≤ s.epoch + wiped (acts_in steps)
after_epoch [] s = same_or_less s.epoch s.epoch refl
after_epoch (m ∷ steps) s =
    chain (after_all server_next steps (server_next m s)).epoch (server_next m s).epoch s.epoch (one_if (empties m.act)) (wiped (acts_in steps)) (wiped (m.act ∷ acts_in steps)) (after_epoch steps (server_next m s))
    (act_epoch m m.act s) (wiped_cons m.act (acts_in steps))

-- ---- they are the operator's
theirs_alone : (act : Act) → is_operators act ≡ false → empties act ≡ false
theirs_alone (Act.AtServer server ServerStep.Wipe) e = absurd (true≢false e)
theirs_alone (Act.AtServer server step) e = refl
theirs_alone (Act.AtDirectory step) e = refl
theirs_alone (Act.Finish outcome) e = refl

one_kept : (b : Bool) (act : Act) (kept acts : List Act) → is_operators act ≡ b → wiped kept ≡ wiped acts → wiped (cond {A = List Act} b (act ∷ kept) kept) ≡ wiped (act ∷ acts)
one_kept true act kept acts e same = wiped_cons act kept ∙ ap (λ (n : ℕ). one_if (empties act) + n) same ∙ sym (wiped_cons act acts)
one_kept false act kept acts e same = same ∙ sym (wiped_cons act acts ∙ (ap (λ (b : Bool). one_if b + wiped acts) (theirs_alone act e) ∙ none_more (wiped acts)))

all_kept : (acts : List Act) → wiped (filter is_operators acts) ≡ wiped acts
all_kept [] = refl
all_kept (act ∷ acts) = one_kept (is_operators act) act (filter is_operators acts) acts refl (all_kept acts)

beginning : (all some rest : ℕ) → all ≡ some + rest → some ≤ all
beginning all some rest sum = omega (arith, sum)

prefix_wiped : (some all : List Act) → IsPrefix some all → wiped some ≤ wiped all
prefix_wiped some all p =
    beginning (wiped all) (wiped some) (wiped p.0) (sym (ap wiped p.1) ∙ sum_by-append (λ x. cond {A = ℕ} (empties x) 1 0) some p.0)

-- ---- and those of the script's lines are its wipes
module _ (server : ℕ) where
  abbrev here : List Token → List Act
  here tokens = acts_there (ActPlace.Server server) (filter is_line tokens)

  count_cons : (t : Token) (ts : List Token) → count_by (is_wipe_of server) (t ∷ ts) ≡ one_if (is_wipe_of server t) + count_by (is_wipe_of server) ts
  count_cons t ts = sum_by-cons (λ x. cond {A = ℕ} (is_wipe_of server x) 1 0) t ts

  a_wipe : (b : Bool) (other : ℕ) (acts : List Act) → wiped (cond {A = List Act} b (Act.AtServer other ServerStep.Wipe ∷ acts) acts) ≡ one_if b + wiped acts
  a_wipe true other acts = wiped_cons (Act.AtServer other ServerStep.Wipe) acts
  a_wipe false other acts = sym (none_more (wiped acts))

  no_wipe : (b : Bool) (other : ℕ) (step : ServerStep) (acts : List Act) → is_wipe step ≡ false → wiped (cond {A = List Act} b (Act.AtServer other step ∷ acts) acts) ≡ wiped acts
  no_wipe true other step acts e = wiped_cons (Act.AtServer other step) acts ∙ (ap (λ (b : Bool). one_if b + wiped acts) e ∙ none_more (wiped acts))
  no_wipe false other step acts e = refl

  lines_wiped : (tokens : List Token) → wiped (here tokens) ≡ count_by (is_wipe_of server) tokens
  lines_wiped [] = refl
  lines_wiped (token.Wipe other ∷ tokens) =
      a_wipe (nat_eq server other) other (here tokens) ∙ ap (λ (n : ℕ). one_if (nat_eq server other) + n) (lines_wiped tokens) ∙ sym (count_cons (token.Wipe other) tokens)
  lines_wiped (token.Down other ∷ tokens) = no_wipe (nat_eq server other) other ServerStep.Down (here tokens) refl ∙ (lines_wiped tokens ∙ sym (count_cons (token.Down other) tokens ∙ none_more (count_by (is_wipe_of server) tokens)))
  lines_wiped (token.Up other ∷ tokens) = no_wipe (nat_eq server other) other ServerStep.Up (here tokens) refl ∙ (lines_wiped tokens ∙ sym (count_cons (token.Up other) tokens ∙ none_more (count_by (is_wipe_of server) tokens)))
  lines_wiped (token.ReapClient i ∷ tokens) = lines_wiped tokens ∙ sym (count_cons (token.ReapClient i) tokens ∙ none_more (count_by (is_wipe_of server) tokens))
  lines_wiped (token.ReapRepairer i ∷ tokens) = lines_wiped tokens ∙ sym (count_cons (token.ReapRepairer i) tokens ∙ none_more (count_by (is_wipe_of server) tokens))
  lines_wiped (token.Client i ∷ tokens) = lines_wiped tokens ∙ sym (count_cons (token.Client i) tokens ∙ none_more (count_by (is_wipe_of server) tokens))
  lines_wiped (token.Repairer i ∷ tokens) = lines_wiped tokens ∙ sym (count_cons (token.Repairer i) tokens ∙ none_more (count_by (is_wipe_of server) tokens))
  lines_wiped (token.Sweep ∷ tokens) = lines_wiped tokens ∙ sym (count_cons token.Sweep tokens ∙ none_more (count_by (is_wipe_of server) tokens))
  lines_wiped (token.Drain ∷ tokens) = lines_wiped tokens ∙ sym (count_cons token.Drain tokens ∙ none_more (count_by (is_wipe_of server) tokens))

at_most : (epoch made some all : ℕ) → epoch ≤ 0 + made → some ≡ made → some ≤ all → epoch ≤ all
at_most epoch made some all low same less = omega (arith, low, same, less)

pub epochs_are_wipes : EpochsAreWipes
epochs_are_wipes of script server s log stands operated =
    let steps : List MadeStep = steps_in log in
    at_most s.epoch (wiped (acts_in steps)) (wiped (operated_in steps)) (wipes script server)
    (subst (λ (x : Server). x.epoch ≤ 0 + wiped (acts_in steps)) (sym stands.ends) (after_epoch steps new_server))
    (all_kept (acts_in steps))
    (subst (λ (n : ℕ). wiped (operated_in steps) ≤ n) (lines_wiped server script.schedule) (prefix_wiped (operated_in steps) (acts_there (ActPlace.Server server) (lines_of script)) operated.lines))

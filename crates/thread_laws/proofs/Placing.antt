-- What a wrapper says of a step is one step more of the actor's own lists.
use Rattle.std.proofs.Common.{◌≡◌, ℕ, zero, suc, ◌<◌, true, false, cond, List, [], ◌∷◌, ◌++◌, length, filter, Some, unwrap_or, refl, sym, ap, subst, ◌∙◌, inl, inr, ◌⊎◌, arith, eqb-true, eq-eqb, ne_eqb, true≢false}
use Rattle.std.proofs.lemmas.Bool.{cases_eq}
use Rattle.std.proofs.lemmas.List.{append-nil}
use Rattle.std.specs.List.{slice_get}
use Rattle.clay_grid.specs.Shape.{chunk_count}
use Rattle.store_map.specs.Limits.{size_of}
use Rattle.store_core.specs.Act.{Act, DirectoryStep, ServerStep}
use Rattle.store_core.specs.ActPlace.{ActPlace}
use Rattle.store_core.specs.Lists.{change_at}
use Rattle.store_core.proofs.Places.{slice_get-change_at}
use Rattle.thread_laws.specs.MadeSteps.{MadeStep, acts_at, is_at}
use Rattle.thread_laws.specs.ByActors.{IsAtAPlace}
use Rattle.call_steps.specs.CallOf.{act_of, heard}
use Rattle.call_steps.proofs.Needs.{needs_tell_acts}
use Rattle.turn_lock.specs.History.{entries_of}
use Rattle.thread_laws.specs.Entries.{steps_in}
use Rattle.thread_laws.specs.Noted.{Noted, made_in, token_by}
use Rattle.thread_laws.specs.CallEntries.{made_by}
use Rattle.thread_laws.proofs.Adding.{steps_more as server_more}
use Rattle.thread_laws.proofs.PlaceOwn.{steps_more}
use Rattle.thread_laws.specs.Logs.{Logs, log_of, own_at}
use Rattle.thread_laws.specs.Listed.{IsOneMore}
use Rattle.thread_laws.specs.Callers.{IsCalling}
use Rattle.thread_laws.specs.Stepped.{with_log, with_notes, last_own, CallersGoOnAtServers, CallersGoOnAtDirectory, CallersSeeMore}
use Rattle.thread_laws.proofs.CallersGoOn.{caller_goes_on}

pub changed_get : {X : Type 0} (i : ℕ) (x : X) (xs : List X) → i < length xs → slice_get (change_at i (λ _. x) xs) i ≡ Some x
changed_get i x [] lt = absurd (omega (arith, lt))
changed_get zero x (y ∷ xs) lt = refl
changed_get (suc i) x (y ∷ xs) lt = changed_get i x xs (omega (arith, lt))

-- an act at a server is at no other place, and at a place
added_elsewhere : (place : ActPlace) (m : MadeStep) → is_at place m ≡ false → (xs : List MadeStep) → xs ≡ xs ++ filter (is_at place) (m ∷ [])
added_elsewhere place m e xs = sym (ap (λ b. xs ++ cond {A = List MadeStep} b (m ∷ []) []) e ∙ append-nil xs)

added_here : (place : ActPlace) (m : MadeStep) → is_at place m ≡ true → (xs : List MadeStep) → xs ++ m ∷ [] ≡ xs ++ filter (is_at place) (m ∷ [])
added_here place m e xs = sym (ap (λ b. xs ++ cond {A = List MadeStep} b (m ∷ []) []) e)

-- ---- at a server
module _ (number server servers : ℕ) (seen : Logs) (now : List (ℕ × MadeStep)) (m : MadeStep) (step : ServerStep) (act : m.act ≡ Act.AtServer server step) (there : server < length seen.servers) (within : server < servers)
    (more : entries_of number now ≡ entries_of number (log_of seen server) ++ (number, m) ∷ []) (above : last_own servers number seen < m.moment) where
  at_server : (place : ActPlace) → is_at place m ≡ acts_at place (Act.AtServer server step)
  at_server place = ap (acts_at place) act

  server_lists : (place : ActPlace) → own_at number (with_log server now seen) place ≡ own_at number seen place ++ filter (is_at place) (m ∷ [])
  server_lists ActPlace.Directory = added_elsewhere ActPlace.Directory m (at_server ActPlace.Directory) (own_at number seen ActPlace.Directory)
  server_lists (ActPlace.Server j) = by (cases_eq j server)
    where
      by : (j ≡ server) ⊎ (j ≡ server → ⊥) → own_at number (with_log server now seen) (ActPlace.Server j) ≡ own_at number seen (ActPlace.Server j) ++ filter (is_at (ActPlace.Server j)) (m ∷ [])
      by (inl same) =
          subst (λ k. own_at number (with_log server now seen) (ActPlace.Server k) ≡ own_at number seen (ActPlace.Server k) ++ filter (is_at (ActPlace.Server k)) (m ∷ [])) (sym same)
          (ap (λ o. steps_in (entries_of number (unwrap_or o []))) (changed_get server now seen.servers there)
          ∙ (ap steps_in more ∙ (server_more (entries_of number (log_of seen server)) (number, m)
          ∙ added_here (ActPlace.Server server) m (at_server (ActPlace.Server server) ∙ eq-eqb server server refl) (own_at number seen (ActPlace.Server server)))))
      by (inr differ) =
          ap (λ o. steps_in (entries_of number (unwrap_or o []))) (slice_get-change_at server j (λ _. now) seen.servers differ)
          ∙ added_elsewhere (ActPlace.Server j) m (at_server (ActPlace.Server j) ∙ ne_eqb j server differ) (own_at number seen (ActPlace.Server j))

  pub one_at_server : IsOneMore servers (own_at number seen) m (own_at number (with_log server now seen))
  one_at_server =
      record {
        more = record { lists = server_lists; there = ActPlace.Server server; at = at_server (ActPlace.Server server) ∙ eq-eqb server server refl };
        within = λ j e. subst (λ k. k < servers) (sym (eqb-true j server (sym (at_server (ActPlace.Server j)) ∙ e))) within;
        above = above;
      }

-- ---- at the directory
module _ (number servers : ℕ) (seen : Logs) (now : List (ℕ × Noted)) (entry : Noted) (step : DirectoryStep) (act : entry.made.act ≡ Act.AtDirectory step)
    (more : entries_of number now ≡ entries_of number seen.directory ++ (number, entry) ∷ []) (above : last_own servers number seen < entry.made.moment) where
  at_directory : (place : ActPlace) → is_at place entry.made ≡ acts_at place (Act.AtDirectory step)
  at_directory place = ap (acts_at place) act

  directory_lists : (place : ActPlace) → own_at number (with_notes now seen) place ≡ own_at number seen place ++ filter (is_at place) (entry.made ∷ [])
  directory_lists ActPlace.Directory =
      ap made_in more ∙ (steps_more (λ (n : Noted). n.made) (entries_of number seen.directory) (number, entry)
      ∙ added_here ActPlace.Directory entry.made (at_directory ActPlace.Directory) (own_at number seen ActPlace.Directory))
  directory_lists (ActPlace.Server j) = added_elsewhere (ActPlace.Server j) entry.made (at_directory (ActPlace.Server j)) (own_at number seen (ActPlace.Server j))

  pub one_at_directory : IsOneMore servers (own_at number seen) entry.made (own_at number (with_notes now seen))
  one_at_directory =
      record {
        more = record { lists = directory_lists; there = ActPlace.Directory; at = at_directory ActPlace.Directory };
        within = λ j e. absurd (true≢false (sym e ∙ at_directory (ActPlace.Server j)));
        above = above;
      }

-- ---- the laws
pub callers_go_on_at_servers : CallersGoOnAtServers
callers_go_on_at_servers script who work number server seen now a before after targets width within acting its needed made =
    let told : (step : ServerStep) × (act_of before ≡ Act.AtServer server step) × (before.due ≡ false) = needs_tell_acts.server before server needed in
    let m : MadeStep = made_by before after.step made.answer made.moment in
    let long : length seen.servers ≡ chunk_count script.geometry = width in
    caller_goes_on script who work (own_at number seen) (own_at number (with_log server now seen)) a before after made.answer made.moment acting its targets (made.fits (size_of script))
    (one_at_server number server (chunk_count script.geometry) seen now m told.0 told.1 (omega (arith, long, within)) within made.more made.above)
    (subst IsAtAPlace (sym told.1) tt)
    (subst (λ act. after ≡ record (heard before (act_of before) made.answer after.step after.due) { token = token_by act m before.token }) (sym told.1) made.call)
    made.hears

pub callers_go_on_at_directory : CallersGoOnAtDirectory
callers_go_on_at_directory script who work number seen now a before after targets acting its needed made =
    let told : (step : DirectoryStep) × (act_of before ≡ Act.AtDirectory step) × (before.due ≡ false) = needs_tell_acts.directory before needed in
    let m : MadeStep = made_by before after.step made.answer made.moment in
    caller_goes_on script who work (own_at number seen) (own_at number (with_notes now seen)) a before after made.answer made.moment acting its targets made.fits
    (one_at_directory number (chunk_count script.geometry) seen now (record { made = m; drawn = made.drawn }) told.0 told.1 made.more made.above)
    (subst IsAtAPlace (sym told.1) tt) made.call made.hears

pub callers_see_more : CallersSeeMore
callers_see_more script who work number seen now a same acting = subst (λ at. IsCalling script who work at a) (λ k place. sym (same place) k) acting

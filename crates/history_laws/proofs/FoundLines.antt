-- What a run shows of calls that were unavailable: each server that they name was away, or had lost its chunk.
use Rattle.std.proofs.Common.{◌≡◌, ◌≢◌, ℕ, suc, ◌+◌, ◌<◌, ◌≤◌, Bool, true, false, cond, List, [], ◌∷◌, ◌++◌, length, map, flat_map, fold, count_by, Option, Some, All, ◌⊎◌, inl, inr, refl, sym, ap, subst, ◌∙◌, arith, true≢false, length-append}
use Rattle.std.proofs.lemmas.Bool.{eq-eqb}
use Rattle.std.proofs.lemmas.List.{length-map}
use Rattle.std.proofs.lemmas.List.Elements.{All-nil, All-cons, All-head, All-tail, All-append, All-weaker}
use Rattle.std.proofs.lemmas.List.Sums.{sum_by-cons}
use Rattle.std.proofs.lemmas.Option.{slice_get_within}
use Rattle.std.specs.List.{slice_get, AllPairs}
use Rattle.std.specs.Option.{option_map_or}
use Rattle.clay_grid.specs.Limits.{IsGeometry}
use Rattle.clay_grid.specs.Shape.{Shape, chunk_count}
use Rattle.store_map.specs.Limits.{size_of, tries_of}
use Rattle.store_map.specs.Naming.{IsValid}
use Rattle.store_map.specs.declared.actor.Token.{Token}
use Rattle.store_map.specs.declared.actor.Token.TheVariants as token
use Rattle.store_map.specs.declared.call.Call.{Call}
use Rattle.store_map.specs.declared.call.Call.TheVariants as call
use Rattle.store_map.specs.declared.placement.Found.{Found}
use Rattle.store_map.specs.declared.placement.Found.TheVariants as found
use Rattle.store_map.specs.declared.placement.Placement.{Placement}
use Rattle.store_map.specs.declared.placement.Placement.TheVariants as placement
use Rattle.store_map.specs.declared.script.Script.{Script}
use Rattle.store_map.specs.declared.call_name.CallName.{CallName}
use Rattle.store_map.specs.declared.call_name.CallName.TheVariants as name
use Rattle.store_map.specs.declared.cause.Triple.{Triple}
use Rattle.store_map.specs.declared.cause.Cause.TheVariants as cause
use Rattle.store_map.specs.declared.cause.RepairResult.TheVariants as result
use Rattle.store_map.specs.declared.line.XLine.{XLine}
use Rattle.store_map.specs.declared.line.RLine.{RLine}
use Rattle.hist_rules.specs.Counts.{downs, is_down_of}
use Rattle.hist_rules.specs.First.{AllAfter, AllAlong}
use Rattle.hist_rules.specs.FoundMissing.{TellsDowns, WasPlaced, WasFound, WasLost, IsMissing, LacksChunks, FoundMissing}
use Rattle.hist_rules.specs.LostChunks.{may_lack_chunks, asks_for_chunks, missing_of_cause, missing_of_result}
use Rattle.store_core.specs.Act.{Outcome}
use Rattle.store_core.specs.Core.{Core}
use Rattle.store_core.specs.Gathering.{Part}
use Rattle.store_core.specs.NextAct.{Job}
use Rattle.store_core.specs.Note.{Kind, note_of}
use Rattle.store_core.specs.Outcomes.{triple_of, cause_of, result_of}
use Rattle.store_core.specs.Placements.{skipped_from}
use Rattle.store_core.specs.RowLines.{client, repair}
use Rattle.store_core.specs.Schedule.{run_core}
use Rattle.store_core.specs.Shown.{shown, refused_line, repair_line, lines_of_ended, client_name, repairer_name}
use Rattle.store_core.specs.Tell.{tell}
use Rattle.store_core.specs.Told.{Told, Seen, Lost}
use Rattle.store_core.specs.Work.{Ended, Work, Calling, client_work, repairer_work}
use Rattle.run_laws.specs.GatheredLaws.{gathers}
use Rattle.run_laws.specs.Losses.{IsLost, ToldOfLoss}
use Rattle.run_laws.specs.OutcomeLaws.{MayBeReaped, HasCauseInSteps}
use Rattle.run_laws.proofs.StepOutcomes.{outcomes_in_steps}
use Rattle.run_laws.specs.FormLaws.{IsOfFormOne}
use Rattle.run_laws.specs.ToldLaws.{EndedSo}
use Rattle.run_laws.proofs.NeverAway.{servers_stay_in_form_one}
use Rattle.run_laws.proofs.Scripts.{can_run}
use Rattle.history_laws.proofs.FewWipes.{few_wipes}
use Rattle.history_laws.proofs.NamedCalls.{inside}
use Rattle.history_laws.proofs.OrderEnds.{EndKnown, client_has, repairer_has}
use Rattle.history_laws.proofs.OrderLists.{all_indexed}
use Rattle.history_laws.proofs.OrderRuns.{end_known}
use Rattle.history_laws.proofs.PointsOfCalls.{OfScript, job_call}
use Rattle.history_laws.specs.FoundMissing.{RunsFindMissing}
use Rattle.history_laws.proofs.FoundActs.{Skips}
use Rattle.history_laws.proofs.FoundEnded.{SureLost, SureSeen, SureThere, SureTook, OutcomeSure}
use Rattle.history_laws.proofs.FoundOutcomes.{Lacks}
use Rattle.history_laws.proofs.FoundRuns.{AllSure, all_sure}
use Rattle.history_laws.proofs.LossesRows.{RowFrom}
use Rattle.history_laws.proofs.LossesServers.{wiped, made_away}
use Rattle.history_laws.proofs.LossesState.{TellsPlaced, LostSo}
use Rattle.history_laws.proofs.VersionMoves.{row_at}

-- ---- pairs
pairs_head : {X : Type 0} (R : X → X → Type 0) (x : X) (xs : List X) → AllPairs R (x ∷ xs) → All (R x) xs
pairs_head R x xs h = λ i d low. h 0 (suc i) d (omega arith) (omega (arith, low))

pairs_tail : {X : Type 0} (R : X → X → Type 0) (x : X) (xs : List X) → AllPairs R (x ∷ xs) → AllPairs R xs
pairs_tail R x xs h = λ i j d less low. h (suc i) (suc j) d (omega (arith, less)) (omega (arith, low))

-- ---- one server that is named
module _ (script : Script) where
  abbrev most : ℕ → ℕ
  most = wiped script.schedule

  abbrev fell : ℕ → ℕ
  fell = made_away script.schedule

  abbrev g : Shape
  g = script.geometry

  record IsRight (lost : Lost) : Type 0 where
    server : lost.server < chunk_count script.geometry
    placed : WasPlaced script lost.server lost.placed
    found : WasFound script lost.server lost.found
    lost_so : WasLost lost.placed lost.found

  right_of : (lost : Lost) → lost.server < chunk_count script.geometry → (row : Placement) → lost.placed ≡ row → TellsPlaced most fell lost.server row → LostSo most fell lost.server row lost.found → IsRight lost
  right_of lost low row is tells so =
      record {
        server = low;
        placed = subst (WasPlaced script lost.server) (sym is) (placed_of row tells);
        found = (found_of row lost.found so).0;
        lost_so = subst (λ r. WasLost r lost.found) (sym is) (found_of row lost.found so).1;
      }
    where
      placed_of : (r : Placement) → TellsPlaced most fell lost.server r → WasPlaced script lost.server r
      placed_of (placement.At epoch) h = tt
      placed_of (placement.Skipped told) h = h

      found_of : (r : Placement) (f : Found) → LostSo most fell lost.server r f → WasFound script lost.server f × WasLost r f
      found_of (placement.At epoch) (found.Absent later) h = (h.1, h.0)
      found_of (placement.Skipped told) (found.Absent later) h = (h, tt)
      found_of (placement.At epoch) (found.Away told) h = (h, tt)
      found_of (placement.Skipped told) (found.Away told_now) h = (h, tt)

  abbrev Apart : Triple → Triple → Type 0
  Apart triple other = triple.server ≢ other.server

  -- all of them, after the ones before
  all_missing : (before : List Triple) (missing : List Lost) → All (λ (lost : Lost). All (λ (other : Triple). lost.server ≢ other.server) before) missing → AllPairs (λ (lost other : Lost). lost.server ≢ other.server) missing
      → All IsRight missing → AllAfter (IsMissing script) before (map triple_of missing)
  all_missing before [] apart differ right = tt
  all_missing before (lost ∷ missing) apart differ right =
      let here : IsRight lost = All-head IsRight lost missing right in
      let others : All (λ (later : Lost). lost.server ≢ later.server) missing = pairs_head (λ (one other : Lost). one.server ≢ other.server) lost missing differ in
      let rest : All (λ (later : Lost). All (λ (other : Triple). later.server ≢ other.server) before) missing = All-tail (λ (one : Lost). All (λ (other : Triple). one.server ≢ other.server) before) lost missing apart in (
        record {
          server = here.server;
          distinct = All-head (λ (one : Lost). All (λ (other : Triple). one.server ≢ other.server) before) lost missing apart;
          placed = here.placed;
          found = here.found;
          lost = here.lost_so;
        },
        all_missing (triple_of lost ∷ before) missing (both before lost missing others rest) (pairs_tail (λ (one other : Lost). one.server ≢ other.server) lost missing differ) (All-tail IsRight lost missing right),
      )
    where
      both : (before : List Triple) (lost : Lost) (missing : List Lost) → All (λ (later : Lost). lost.server ≢ later.server) missing → All (λ (later : Lost). All (λ (other : Triple). later.server ≢ other.server) before) missing
          → All (λ (later : Lost). All (λ (other : Triple). later.server ≢ other.server) (triple_of lost ∷ before)) missing
      both before lost [] one two = All-nil (λ (later : Lost). All (λ (other : Triple). later.server ≢ other.server) (triple_of lost ∷ before))
      both before lost (later ∷ missing) one two =
          let apart_now : lost.server ≢ later.server = All-head (λ (x : Lost). lost.server ≢ x.server) later missing one in
          All-cons (λ (x : Lost). All (λ (other : Triple). x.server ≢ other.server) (triple_of lost ∷ before)) later missing
          (All-cons (λ (other : Triple). later.server ≢ other.server) (triple_of lost) before (λ e. apart_now (sym e)) (All-head (λ (x : Lost). All (λ (other : Triple). x.server ≢ other.server) before) later missing two))
          (both before lost missing (All-tail (λ (x : Lost). lost.server ≢ x.server) later missing one) (All-tail (λ (x : Lost). All (λ (other : Triple). x.server ≢ other.server) before) later missing two))

  -- found missing by a gathering
  rights : (seen : Seen) → SureSeen most fell seen → (missing : List Lost) → All (λ (one : Lost). SureLost most fell seen one.server one.found) missing → All (λ (one : Lost). one.server < chunk_count g) missing
      → All (λ (one : Lost). one.placed ≡ row_at seen.placed one.server) missing → All IsRight missing
  rights seen tells [] lost there placed = All-nil IsRight
  rights seen tells (one ∷ missing) lost there placed =
      All-cons IsRight one missing
      (right_of one (All-head (λ (x : Lost). x.server < chunk_count g) one missing there) (row_at seen.placed one.server) (All-head (λ (x : Lost). x.placed ≡ row_at seen.placed x.server) one missing placed) (tells one.server)
      (All-head (λ (x : Lost). SureLost most fell seen x.server x.found) one missing lost))
      (rights seen tells missing (All-tail (λ (x : Lost). SureLost most fell seen x.server x.found) one missing lost) (All-tail (λ (x : Lost). x.server < chunk_count g) one missing there)
      (All-tail (λ (x : Lost). x.placed ≡ row_at seen.placed x.server) one missing placed))

  no_others : (missing : List Lost) → All (λ (lost : Lost). All (λ (other : Triple). lost.server ≢ other.server) []) missing
  no_others [] = All-nil (λ (lost : Lost). All (λ (other : Triple). lost.server ≢ other.server) [])
  no_others (lost ∷ missing) =
      All-cons (λ (x : Lost). All (λ (other : Triple). x.server ≢ other.server) []) lost missing (All-nil (λ (other : Triple). lost.server ≢ other.server)) (no_others missing)

  -- servers that took no chunk of a version
  all_skipped : (version : ℕ) (before : List Triple) (server : ℕ) (row : List Placement) → All (λ (other : Triple). other.server < server) before → RowFrom (SureThere most fell) (SureTook most fell) version server row → server + length row ≤ chunk_count g
      → AllAfter (IsMissing script) before (map triple_of (skipped_from server row))
  all_skipped version before server [] low took fits = tt
  all_skipped version before server (placement.At epoch ∷ row) low took fits =
      all_skipped version before (server + 1) row (All-weaker (λ (other : Triple). other.server < server) (λ (other : Triple). other.server < server + 1) (λ other h. omega (arith, h)) before low) took.1 (omega (arith, fits))
  all_skipped version before server (placement.Skipped told ∷ row) low took fits =
      let here : Triple = record { server = server; placed = placement.Skipped told; found = found.Away told } in (
        record {
          server = omega (arith, fits);
          distinct = All-weaker (λ (other : Triple). other.server < server) (λ (other : Triple). server ≢ other.server) (λ other h e. omega (arith, h, e)) before low;
          placed = took.0;
          found = took.0;
          lost = tt;
        },
        all_skipped version (here ∷ before) (server + 1) row
            (All-cons (λ (other : Triple). other.server < server + 1) here before (omega arith) (All-weaker (λ (other : Triple). other.server < server) (λ (other : Triple). other.server < server + 1) (λ other h. omega (arith, h)) before low))
            took.1 (omega (arith, fits)),
      )

  outcome_missing : (stripe : ℕ) (missing : List Lost) → OutcomeSure most fell g (Outcome.Unavailable stripe missing) → AllAlong (IsMissing script) (map triple_of missing)
  outcome_missing stripe missing sure = by sure.1
    where
      by : Lacks g (SureLost most fell) (SureSeen most fell) stripe missing ⊎ Skips g (SureLost most fell) (SureSeen most fell) (SureThere most fell) (SureTook most fell) missing → AllAlong (IsMissing script) (map triple_of missing)
      by (inl lacks) = all_missing [] missing (no_others missing) lacks.apart.differ (rights lacks.seen lacks.looked missing lacks.lost lacks.apart.there lacks.apart.placed)
      by (inr skips) =
          subst (λ (l : List Lost). AllAlong (IsMissing script) (map triple_of l)) (sym skips.is)
          (all_skipped skips.version [] 0 skips.row (All-nil (λ (other : Triple). other.server < 0)) skips.took (let fits : length skips.row ≤ chunk_count g = skips.fits in omega (arith, fits)))

-- ---- in form 1 no server is away
no_downs : (j : ℕ) (tokens : List Token) → All IsOfFormOne tokens → count_by (is_down_of j) tokens ≡ 0
no_downs j [] h = refl
no_downs j (next ∷ tokens) h = sum_by-cons (λ t. cond {A = ℕ} (is_down_of j t) 1 0) next tokens ∙ both (here next (All-head IsOfFormOne next tokens h)) (no_downs j tokens (All-tail IsOfFormOne next tokens h))
  where
    here : (t : Token) → IsOfFormOne t → cond {A = ℕ} (is_down_of j t) 1 0 ≡ 0
    here (token.Down server) one = absurd one
    here t one = refl

    both : cond {A = ℕ} (is_down_of j next) 1 0 ≡ 0 → count_by (is_down_of j) tokens ≡ 0 → cond {A = ℕ} (is_down_of j next) 1 0 + count_by (is_down_of j) tokens ≡ 0
    both one more = omega (arith, one, more)

none_skipped : (script : Script) → ((j : ℕ) → downs script j ≡ 0) → (before : List Triple) (server : ℕ) (row : List Placement) → AllAfter (IsMissing script) before (map triple_of (skipped_from server row)) → length (skipped_from server row) ≡ 0
none_skipped script none before server [] h = refl
none_skipped script none before server (placement.At epoch ∷ row) h = none_skipped script none before (server + 1) row h
none_skipped script none before server (placement.Skipped told ∷ row) h =
    let away : TellsDowns script server told = h.0.found in
    let zero_downs : downs script server ≡ 0 = none server in
    absurd (omega (arith, away.0, away.1, zero_downs))

-- ---- a put is unavailable only for servers that were away
abbrev is_put : Kind → Bool
is_put Kind.Put = true
is_put kind = false

module _ (g : Shape) (job : Job) (puts : job.note.kind ≡ Kind.Put) (stripe : ℕ) (missing : List Lost) where
  no_parts : (looked : Told) (before after : List Part) (part : Part) → gathers job.note.kind g job.note looked ≡ before ++ part ∷ after → ⊥
  no_parts looked before after part e =
      let none : [] ≡ before ++ part ∷ after = subst (λ (k : Kind). gathers k g job.note looked ≡ before ++ part ∷ after) puts e in
      let sizes : 0 ≡ length (before ++ part ∷ after) = ap (λ (l : List Part). length l) none in
      let both : length (before ++ part ∷ after) ≡ length before + suc (length after) = length-append before (part ∷ after) in
      omega (arith, sizes, both)

  skipped_by : (looked : Told) (told : List Told) → IsLost g job looked stripe missing told → (row : List Placement) × (missing ≡ skipped_from 0 row)
  skipped_by (Told.PinnedStripe seen) told h = absurd (true≢false (sym (ap is_put puts) ∙ ap is_put h.rebuilds))
  skipped_by (Told.Versions versions) told h = (h.row, h.skipped)
  skipped_by looked told h = absurd (no_parts looked h.before h.after h.part h.is_gathered)

-- ---- the lines
module _ (script : Script) (geometry : IsGeometry script.geometry) (valid : IsValid script) (core : Core) (known : EndKnown script core) (sure : AllSure (wiped script.schedule) (made_away script.schedule) script core) where
  some_parity : 0 < script.geometry.parity_count
  some_parity = let two : 2 ≤ script.geometry.parity_count = geometry.limits.parity_chunks.0 in omega (arith, two)

  -- what was told of an outcome
  abbrev SureOf : Outcome → Type 0
  SureOf outcome = OutcomeSure (wiped script.schedule) (made_away script.schedule) script.geometry outcome

  form_two : (job : Job) → job.note.kind ≡ Kind.Put → (stripe : ℕ) (missing : List Lost) → SureOf (Outcome.Unavailable stripe missing) → (answers : List Told) → ToldOfLoss script.geometry job stripe missing answers → script.form ≡ 2
  form_two job puts stripe missing sure_of answers told = by valid.form
    where
      row : (row : List Placement) × (missing ≡ skipped_from 0 row)
      row = skipped_by script.geometry job puts stripe missing told.looked told.told told.lost

      none : script.form ≡ 1 → length (skipped_from 0 row.0) ≡ 0
      none one =
          none_skipped script (λ j. no_downs j script.schedule ((servers_stay_in_form_one script geometry valid).schedule one)) [] 0 row.0
          (subst (λ (l : List Lost). AllAlong (IsMissing script) (map triple_of l)) row.1 (outcome_missing script stripe missing sure_of))

      by : (script.form ≡ 1) ⊎ (script.form ≡ 2) → script.form ≡ 2
      by (inr two) = two
      by (inl one) =
          let count : length missing ≡ script.geometry.parity_count + 1 = sure_of.0 in
          let same : length missing ≡ length (skipped_from 0 row.0) = ap (λ (l : List Lost). length l) row.1 in
          let zero_length : length (skipped_from 0 row.0) ≡ 0 = none one in
          absurd (omega (arith, count, same, zero_length))

  asks : (made : Call) → MayBeReaped (note_of made).kind → ((note_of made).kind ≡ Kind.Put → script.form ≡ 2) → asks_for_chunks script.form made ≡ true
  asks (call.Put object content) may two = eq-eqb script.form 2 (two refl)
  asks (call.Write object offset content) may two = refl
  asks (call.Get object) may two = refl
  asks (call.ReadAt object offset n) may two = refl
  asks (call.Stat object) may two = absurd may
  asks (call.Delete object) may two = absurd may

  lacking : (named : CallName) → may_lack_chunks script named ≡ true → (stripe : ℕ) (missing : List Lost) → SureOf (Outcome.Unavailable stripe missing) → LacksChunks script named (map triple_of missing)
  lacking named may stripe missing sure_of =
      record {
        kind = may;
        count = length-map missing triple_of ∙ sure_of.0;
        servers = outcome_missing script stripe missing sure_of;
      }

  client_lacks : (i : ℕ) (c : Calling) → slice_get core.clients i ≡ Some c → (number : ℕ) (e : Ended) → slice_get c.ended number ≡ Some e → (stripe : ℕ) (missing : List Lost) → e.outcome ≡ Outcome.Unavailable stripe missing
      → LacksChunks script (client_name i number) (map triple_of missing)
  client_lacks i c is_c number e is_e stripe missing is =
      let work : (w : Work) × (slice_get (client_work script) i ≡ Some w) = client_has script core known i c is_c in
      let most_calls : length c.ended ≤ length work.0.jobs = (known.calls.clients i c is_c work.0 work.1).below in
      let low : number < length c.ended = slice_get_within c.ended number e is_e in
      let job : (j : Job) × (slice_get work.0.jobs number ≡ Some j) = inside work.0.jobs number (omega (arith, most_calls, low)) in
      let of : OfScript script i number job.0 = job_call script i number work.0 job.0 work.1 job.1 in
      let so : EndedSo script job.0 (Outcome.Unavailable stripe missing) = subst (EndedSo script job.0) is ((known.told.clients i work.0 c work.1 is_c).ended number job.0 e job.1 is_e) in
      let may : MayBeReaped job.0.note.kind =
      (outcomes_in_steps script.geometry (size_of script) (tries_of script) job.0).kinds (fold (tell script.geometry job.0) [] so.answers) (Outcome.Unavailable stripe missing) so.ends in
      let caused : HasCauseInSteps script.geometry (tries_of script) job.0 (Outcome.Unavailable stripe missing) so.answers =
      (outcomes_in_steps script.geometry (size_of script) (tries_of script) job.0).causes so.answers (Outcome.Unavailable stripe missing) some_parity so.are_told so.ends in
      let sure_of : SureOf (Outcome.Unavailable stripe missing) = subst SureOf is ((sure.clients i c is_c work.0 work.1).ended number e is_e) in
      let same_kind : job.0.note.kind ≡ (note_of of.call).kind = ap (λ (j : Job). j.note.kind) (sym of.is_job) in
      let asked : asks_for_chunks script.form of.call ≡ true =
      asks of.call (subst MayBeReaped same_kind may) (λ puts. form_two job.0 (same_kind ∙ puts) stripe missing sure_of so.answers caused.1) in
      lacking (client_name i number) (ap (λ (o : Option Call). option_map_or (asks_for_chunks script.form) o false) of.is_call ∙ asked) stripe missing sure_of

  repairer_lacks : (i : ℕ) (c : Calling) → slice_get core.repairers i ≡ Some c → (number : ℕ) (e : Ended) → slice_get c.ended number ≡ Some e → (stripe : ℕ) (missing : List Lost) → e.outcome ≡ Outcome.Unavailable stripe missing
      → LacksChunks script (repairer_name i number) (map triple_of missing)
  repairer_lacks i c is_c number e is_e stripe missing is =
      let work : (w : Work) × (slice_get (repairer_work script) i ≡ Some w) = repairer_has script core known i c is_c in
      let sure_of : SureOf (Outcome.Unavailable stripe missing) = subst SureOf is ((sure.repairers i c is_c work.0 work.1).ended number e is_e) in
      lacking (repairer_name i number) refl stripe missing sure_of

  abbrev Q : CallName × List Triple → Type 0
  Q entry = LacksChunks script entry.0 entry.1

  abbrev OfRefused : XLine → Type 0
  OfRefused line = All Q (missing_of_cause (name.Client line.call) line.cause)

  abbrev OfRepair : RLine → Type 0
  OfRepair line = All Q (missing_of_result (name.Repairer line.call) line.result)

  refused_so : (i number : ℕ) (outcome : Outcome) → ((stripe : ℕ) (missing : List Lost) → outcome ≡ Outcome.Unavailable stripe missing → LacksChunks script (client_name i number) (map triple_of missing))
      → All OfRefused (refused_line (client i number) (cause_of outcome))
  refused_so i number (Outcome.Unavailable stripe missing) h =
      All-cons OfRefused (record { call = client i number; cause = cause.Unavailable stripe (map triple_of missing) }) [] (All-cons Q (client_name i number, map triple_of missing) [] (h stripe missing refl) (All-nil Q)) (All-nil OfRefused)
  refused_so i number (Outcome.Contended pairs) h = All-cons OfRefused (record { call = client i number; cause = cause.Contended pairs }) [] (All-nil Q) (All-nil OfRefused)
  refused_so i number (Outcome.Reaped point) h = All-cons OfRefused (record { call = client i number; cause = cause.Reaped point }) [] (All-nil Q) (All-nil OfRefused)
  refused_so i number Outcome.NoMemory h = All-cons OfRefused (record { call = client i number; cause = cause.NoMemory }) [] (All-nil Q) (All-nil OfRefused)
  refused_so i number outcome h = All-nil OfRefused

  repair_so : (i number : ℕ) (outcome : Outcome) → ((stripe : ℕ) (missing : List Lost) → outcome ≡ Outcome.Unavailable stripe missing → LacksChunks script (repairer_name i number) (map triple_of missing))
      → All OfRepair (repair_line (repair i number) (result_of outcome))
  repair_so i number (Outcome.Unavailable stripe missing) h =
      All-cons OfRepair (record { call = repair i number; result = result.Unavailable stripe (map triple_of missing) }) [] (All-cons Q (repairer_name i number, map triple_of missing) [] (h stripe missing refl) (All-nil Q)) (All-nil OfRepair)
  repair_so i number Outcome.Rebuilt h = All-cons OfRepair (record { call = repair i number; result = result.Rebuilt }) [] (All-nil Q) (All-nil OfRepair)
  repair_so i number Outcome.Here h = All-cons OfRepair (record { call = repair i number; result = result.Here }) [] (All-nil Q) (All-nil OfRepair)
  repair_so i number Outcome.NoSuch h = All-cons OfRepair (record { call = repair i number; result = result.NoSuch }) [] (All-nil Q) (All-nil OfRepair)
  repair_so i number (Outcome.Away told) h = All-cons OfRepair (record { call = repair i number; result = result.Away told }) [] (All-nil Q) (All-nil OfRepair)
  repair_so i number (Outcome.Superseded newer) h = All-cons OfRepair (record { call = repair i number; result = result.Superseded newer }) [] (All-nil Q) (All-nil OfRepair)
  repair_so i number (Outcome.Reaped point) h = All-cons OfRepair (record { call = repair i number; result = result.Reaped point }) [] (All-nil Q) (All-nil OfRepair)
  repair_so i number Outcome.NoMemory h = All-cons OfRepair (record { call = repair i number; result = result.NoMemory }) [] (All-nil Q) (All-nil OfRepair)
  repair_so i number (Outcome.Answered point given) h = All-nil OfRepair
  repair_so i number (Outcome.Served point) h = All-nil OfRepair
  repair_so i number (Outcome.Contended pairs) h = All-nil OfRepair

  all_flat : {Line : Type 0} (f : Line → List (CallName × List Triple)) (lines : List Line) → All (λ line. All Q (f line)) lines → All Q (flat_map f lines)
  all_flat f [] h = All-nil Q
  all_flat f (line ∷ lines) h = All-append Q (f line) (flat_map f lines) (All-head (λ l. All Q (f l)) line lines h) (all_flat f lines (All-tail (λ l. All Q (f l)) line lines h))

  pub found_missing : FoundMissing script (shown script core)
  found_missing =
      All-append Q (flat_map (λ (line : XLine). missing_of_cause (name.Client line.call) line.cause) (shown script core).refused) (flat_map (λ (line : RLine). missing_of_result (name.Repairer line.call) line.result) (shown script core).repairs)
      (all_flat (λ (line : XLine). missing_of_cause (name.Client line.call) line.cause) (shown script core).refused
      (all_indexed (λ j. lines_of_ended (λ number ended. refused_line (client j number) (cause_of ended.outcome))) OfRefused core.clients
      (λ i c is_c.
      all_indexed (λ number ended. refused_line (client i number) (cause_of ended.outcome)) OfRefused c.ended
      (λ number e is_e. refused_so i number e.outcome (λ stripe missing is. client_lacks i c is_c number e is_e stripe missing is)))))
      (all_flat (λ (line : RLine). missing_of_result (name.Repairer line.call) line.result) (shown script core).repairs
      (all_indexed (λ j. lines_of_ended (λ number ended. repair_line (repair j number) (result_of ended.outcome))) OfRepair core.repairers
      (λ i c is_c.
      all_indexed (λ number ended. repair_line (repair i number) (result_of ended.outcome)) OfRepair c.ended
      (λ number e is_e. repair_so i number e.outcome (λ stripe missing is. repairer_lacks i c is_c number e is_e stripe missing is)))))

pub runs_find_missing : RunsFindMissing
runs_find_missing script shortages geometry valid =
    let tokens : List Token = script.schedule in
    let chunks : 0 < chunk_count script.geometry = (let two : 2 ≤ script.geometry.data_count = geometry.limits.data_chunks in omega (arith, two)) in
    let parity : 0 < script.geometry.parity_count = (let two : 2 ≤ script.geometry.parity_count = geometry.limits.parity_chunks.0 in omega (arith, two)) in
    found_missing script geometry valid (run_core script shortages tokens) (end_known script geometry valid shortages tokens) (all_sure script (can_run script geometry valid) chunks parity tokens (few_wipes script valid) shortages)

-- What a run shows is well formed.
use Rattle.std.proofs.Common.{◌≡◌, ℕ, suc, ◌+◌, ◌-◌, ◌<◌, ◌≤◌, ◌^◌, Bool, List, [], ◌∷◌, length, get_or, map, flat_map, filter, Option, None, Some, All, refl, sym, ap, subst, ◌∙◌, arith}
use Rattle.std.proofs.lemmas.List.Elements.{All-nil, All-cons, All-head, All-tail, All-append, All-weaker, All-map, Contains-get_or}
use Rattle.std.specs.List.{enumerate_from}
use Rattle.clay_grid.specs.Shape.{chunk_count}
use Rattle.store_map.specs.Limits.{size_of}
use Rattle.store_map.specs.Naming.{IsValid}
use Rattle.store_map.specs.PlainMap.{Objects}
use Rattle.store_map.specs.History.{apply_all}
use Rattle.store_map.specs.declared.actor.Actor.{Actor}
use Rattle.store_map.specs.declared.actor.Token.{Token}
use Rattle.store_map.specs.declared.call.Call.{Call}
use Rattle.store_map.specs.declared.reply.Reply.{Reply}
use Rattle.store_map.specs.declared.script.Script.{Script}
use Rattle.line_grammar.specs.Values.{IsScript}
use Rattle.store_map.specs.declared.call_name.ClientCall.{ClientCall}
use Rattle.store_map.specs.declared.call_name.CallName.{CallName}
use Rattle.store_map.specs.declared.call_name.CallName.TheVariants as name
use Rattle.store_map.specs.declared.cause.Triple.{Triple}
use Rattle.store_map.specs.declared.line.HLine.{HLine}
use Rattle.store_map.specs.declared.line.XLine.{XLine}
use Rattle.store_map.specs.declared.line.RLine.{RLine}
use Rattle.store_map.specs.declared.line.TLine.{TLine}
use Rattle.store_map.specs.declared.shown.Shown.{Shown}
use Rattle.store_map.specs.declared.transcript.Transcript.{Transcript}
use Rattle.transcript_read.specs.Forms.{IsHistoryLine, IsRefusedLine, IsRepairLine, IsUnansweredLine, IsObjectLine, IsTakesLine, IsServerLine}
use Rattle.transcript_read.specs.Values.{IsLong, IsShown}
use Rattle.transcript_read.specs.WellFormed.{IsWellFormed}
use Rattle.hist_rules.specs.FoundMissing.{LacksChunks}
use Rattle.hist_rules.specs.LostChunks.{missing_of_cause, missing_of_result}
use Rattle.hist_rules.specs.ObjectsListed.{shown_object}
use Rattle.hist_rules.specs.RepliesMatch.{history_calls}
use Rattle.store_core.specs.Calls.{Calls}
use Rattle.store_core.specs.Core.{Core}
use Rattle.store_core.specs.Directory.{Point}
use Rattle.store_core.specs.History.{applied, shown_at, client_call, line_of, history_from}
use Rattle.store_core.specs.NextAct.{Job}
use Rattle.store_core.specs.PlaceLaws.{IsCounted}
use Rattle.store_core.specs.Schedule.{run_core}
use Rattle.store_core.specs.Server.{Server}
use Rattle.store_core.specs.Shown.{shown, shown_of}
use Rattle.store_core.specs.Step.{Shortage}
use Rattle.run_laws.proofs.Runs.{CanRun}
use Rattle.run_laws.proofs.ScriptBounds.{servers, size}
use Rattle.run_laws.proofs.Scripts.{can_run}
use Rattle.history_laws.proofs.HistoryOrder.{LinesInOrder, lines_in_order}
use Rattle.history_laws.proofs.NamedCalls.{OthersNamed, others_named}
use Rattle.history_laws.proofs.OrderRuns.{end_known}
use Rattle.history_laws.specs.LineCauses.{job_of_call}
use Rattle.history_laws.specs.Steps.{run_trace}
use Rattle.history_laws.specs.Trace.{Made}
use Rattle.thread_laws.specs.Threaded.{is_line}
use Rattle.history_laws.specs.Faithful.{IsFaithful}
use Rattle.history_laws.proofs.Plays.{runs_are_played}
use Rattle.clay_cli.specs.FormLaws.{HasFewLines, FaithfulRunsAreWellFormed, PlayedAreWellFormed, RunsAreWellFormed, ThreadedAreWellFormed}
use Rattle.clay_cli.proofs.Few.{IsFew, runs_are_few, filtered_few}
use Rattle.clay_cli.proofs.Orders.{refused_rise, repairs_rise, unanswered_rise, takes_rise}
use Rattle.clay_cli.proofs.Chains.{Numbered, well_formed}
use Rattle.clay_cli.proofs.ScriptValues.{CallThere, call_there, job_there, named_short}
use Rattle.clay_cli.proofs.Replies.{IsObject, IsThere, calls_are, all_kept, replies_form}
use Rattle.clay_cli.proofs.Answers.{TellsSmall, Known, answers_small, points_known}
use Rattle.clay_cli.proofs.Causes.{all_left, all_right, cause_form, result_form}
use Rattle.clay_cli.proofs.Takes.{take_form}

-- ---- points of the history
abbrev Below : ℕ → HLine → Type 0
Below most line = line.point < most

own_below : (place most : ℕ) → place < most → (nm : Option ClientCall) (s : Option Shown) → All (Below most) (line_of place nm s)
own_below place most low None s = All-nil (Below most)
own_below place most low (Some call) None = All-nil (Below most)
own_below place most low (Some call) (Some s) = All-cons (Below most) (record { point = place; call = call; reply = s }) [] low (All-nil (Below most))

history_below : (max : ℕ) (calls : Calls) (answered : Actor → ℕ → Bool) (place : ℕ) (objects : Objects) (points : List Point)
    → All (Below (place + length points)) (history_from max calls answered place objects points)
history_below max calls answered place objects [] = All-nil (Below (place + 0))
history_below max calls answered place objects (point ∷ points) =
    let after : Objects × Reply = applied max objects point.event (calls point.actor point.number) in
    All-append (Below (place + length (point ∷ points)))
    (line_of place (client_call point.actor point.number) (shown_at point.event (answered point.actor point.number) after.1))
    (history_from max calls answered (place + 1) after.0 points)
    (own_below place (place + length (point ∷ points)) (omega arith) (client_call point.actor point.number)
    (shown_at point.event (answered point.actor point.number) after.1))
    (All-weaker (Below (place + 1 + length points)) (Below (place + length (point ∷ points))) (λ line h. omega (arith, h))
    (history_from max calls answered (place + 1) after.0 points)
    (history_below max calls answered (place + 1) after.0 points))

-- ---- servers
abbrev lines_from : ℕ → List Server → List TLine
lines_from k all = map (λ entry. record { server = entry.0; taken = entry.1.taken; held = length entry.1.held; epoch = entry.1.epoch })
    (enumerate_from k all)

abbrev IsFewAt : Server → Type 0
IsFewAt s = IsCounted s × (length s.held < 2 ^ 64)

servers_form : (k : ℕ) (all : List Server) → k + length all ≤ 24 → All IsFewAt all → All IsServerLine (lines_from k all)
servers_form k [] low h = All-nil IsServerLine
servers_form k (s ∷ all) low h =
    let few : IsFewAt s = All-head IsFewAt s all h in
    let taken : s.taken ≤ 2 ^ 64 - 1 = few.0.taken in
    let epoch : s.epoch ≤ 2 ^ 64 - 1 = few.0.epoch in
    All-cons IsServerLine (record { server = k; taken = s.taken; held = length s.held; epoch = s.epoch }) (lines_from (k + 1) all)
    (omega (arith, low), omega (arith, taken), few.1, omega (arith, epoch))
    (servers_form (k + 1) all (omega (arith, low)) (All-tail IsFewAt s all h))

numbered_from : (k : ℕ) (all : List Server) → Numbered k (lines_from k all)
numbered_from k [] = tt
numbered_from k (s ∷ all) = (refl, numbered_from (k + 1) all)

count_from : (k : ℕ) (all : List Server) → length (lines_from k all) ≡ length all
count_from k [] = refl
count_from k (s ∷ all) = ap suc (count_from (k + 1) all)

-- ---- lists
flat_all : {X Y : Type 0} (P : Y → Type 0) (f : X → List Y) (xs : List X) → All P (flat_map f xs) → All (λ x. All P (f x)) xs
flat_all P f [] h = All-nil (λ x. All P (f x))
flat_all P f (x ∷ xs) h = All-cons (λ y. All P (f y)) x xs (all_left P (f x) (flat_map f xs) h)
    (flat_all P f xs (all_right P (f x) (flat_map f xs) h))

-- ---- all lines
module _ (script : Script) (values : IsScript script) (valid : IsValid script) (shortages : List Shortage) (tokens : List Token) (few_lines : HasFewLines tokens) where
  abbrev core : Core
  core = run_core script shortages tokens

  abbrev t : Transcript
  t = shown script core

  abbrev trace : List Made
  trace = run_trace script shortages tokens

  abbrev n : ℕ
  n = chunk_count script.geometry

  can : CanRun script
  can = can_run script values.geometry valid

  few : IsFew core
  few = runs_are_few script values.geometry valid shortages tokens few_lines

  few_servers : chunk_count script.geometry ≤ 24
  few_servers = servers script values.geometry valid

  small : size_of script ≤ 1048576
  small = size script values.geometry valid

  order : LinesInOrder script t.history
  order = lines_in_order script can shortages tokens

  others : OthersNamed script core
  others = others_named script can shortages tokens

  points_long : All (λ (line : HLine). IsLong line.point) t.history
  points_long =
      let low : length core.directory.points < 2 ^ 64 = few.points in
      All-weaker (Below (0 + length core.directory.points)) (λ (line : HLine). IsLong line.point) (λ line h. omega (arith, h, low)) t.history
      (history_below (size_of script) _ _ 0 [] core.directory.points)

  answers : All (λ (made : Made). TellsSmall made.answer) trace
  answers = answers_small script values valid can shortages tokens

  known : All (λ (made : Made). Known (length core.directory.points) made.answer) trace
  known = points_known script values valid can shortages tokens

  module _ (faithful : IsFaithful script trace t) where
    -- ---- the history
    there : All (IsThere (size_of script) small script) t.history
    there i d less =
        let one : CallThere script values (get_or t.history i d).call =
        call_there script values (get_or t.history i d).call (order.calls i d less) in
        record { call = one.call; is_call = one.is_call; value = one.value }

    replies : All (λ (line : HLine). IsShown line.reply) t.history
    replies = replies_form (size_of script) small script t.history [] there
        (All-nil (IsObject (size_of script) small)) faithful.history.replies.replies

    history_form : All IsHistoryLine t.history
    history_form i d less = (
      points_long i d less,
      named_short script valid (name.Client (get_or t.history i d).call) (order.calls i d less),
      replies i d less,
    )

    objects_form : All IsObjectLine t.objects
    objects_form =
        let calls : List Call = history_calls script t in
        let kept : All (IsObject (size_of script) small) (apply_all (size_of script) (history_calls script t) []) =
        all_kept (size_of script) small (history_calls script t) (calls_are (size_of script) small script t.history there) []
        (All-nil (IsObject (size_of script) small)) in
        subst (All IsObjectLine) (sym faithful.history.replies.objects)
        (All-map IsObjectLine (λ object. shown_object object.0 object.1) (apply_all (size_of script) (history_calls script t) [])
        (All-weaker (IsObject (size_of script) small) (λ object. IsObjectLine (shown_object object.0 object.1))
        (λ object is. (
          is.name,
          let low : length object.1 ≤ size_of script = is.held.few in let most : size_of script ≤ 1048576 =
              small in omega (arith, low, most),
        )) (apply_all (size_of script) (history_calls script t) []) kept))

    -- ---- refusals and results
    abbrev Lacks : CallName × List Triple → Type 0
    Lacks entry = LacksChunks script entry.0 entry.1

    refused_lacks : All (λ (line : XLine). All Lacks (missing_of_cause (name.Client line.call) line.cause)) t.refused
    refused_lacks =
        flat_all Lacks (λ (line : XLine). missing_of_cause (name.Client line.call) line.cause) t.refused
        (all_left Lacks (flat_map (λ (line : XLine). missing_of_cause (name.Client line.call) line.cause) t.refused)
        (flat_map (λ (line : RLine). missing_of_result (name.Repairer line.call) line.result) t.repairs) faithful.history.missing)

    repairs_lack : All (λ (line : RLine). All Lacks (missing_of_result (name.Repairer line.call) line.result)) t.repairs
    repairs_lack =
        flat_all Lacks (λ (line : RLine). missing_of_result (name.Repairer line.call) line.result) t.repairs
        (all_right Lacks (flat_map (λ (line : XLine). missing_of_cause (name.Client line.call) line.cause) t.refused)
        (flat_map (λ (line : RLine). missing_of_result (name.Repairer line.call) line.result) t.repairs) faithful.history.missing)

    refused_form : All IsRefusedLine t.refused
    refused_form i d less = (
      named_short script valid (name.Client (get_or t.refused i d).call) (others.refused i d less),
      cause_form script values trace answers (name.Client (get_or t.refused i d).call) few_servers can.tried t points_long
          (length core.directory.points) few.points known (get_or t.refused i d).call (get_or t.refused i d).cause (faithful.causes.refused i d less)
          (faithful.losses.refused i d less) (faithful.points.refused i d less) (faithful.history.races i d less) (refused_lacks i d less),
    )

    repairs_form : All IsRepairLine t.repairs
    repairs_form i d less = (
      named_short script valid (name.Repairer (get_or t.repairs i d).call) (others.repairs i d less),
      result_form script values trace answers (name.Repairer (get_or t.repairs i d).call) few_servers can.tried t points_long
          (length core.directory.points) few.points known (get_or t.repairs i d).result (faithful.causes.repairs i d less)
          (faithful.losses.repairs i d less) (faithful.points.repairs i d less) (repairs_lack i d less),
    )

    unanswered_form : All IsUnansweredLine t.unanswered
    unanswered_form i d less = named_short script valid (get_or t.unanswered i d).call (others.unanswered i d less)

    takes_form : All (IsTakesLine (chunk_count script.geometry)) t.takes
    takes_form i d less =
        let job : (job : Job) × (job_of_call script (get_or t.takes i d).call ≡ Some job) =
        job_there script values (get_or t.takes i d).call (others.takes i d less) in
        let form : All IsLong (get_or t.takes i d).takes × (length (get_or t.takes i d).takes ≡ chunk_count script.geometry) × _ =
        take_form script trace t faithful.takes (get_or t.takes i d) (Contains-get_or t.takes i d less) job.0 job.1 in
        (named_short script valid (get_or t.takes i d).call (others.takes i d less), form.0, form.1, form.2)

    -- ---- servers
    count : length core.servers ≡ chunk_count script.geometry
    count = (end_known script values.geometry valid shortages tokens).kept.keeps.servers

    all_servers : All IsServerLine t.servers
    all_servers = servers_form 0 core.servers
        (let same : length core.servers ≡ chunk_count script.geometry = count in let most : chunk_count script.geometry ≤ 24 =
        few_servers in omega (arith, same, most)) few.servers

    pub whole : IsWellFormed (chunk_count script.geometry) t
    whole =
        well_formed (chunk_count script.geometry) t
        (record {
          history = history_form;
          points = order.points;
          refused = refused_form;
          refused_rise = refused_rise script core;
          repairs = repairs_form;
          repairs_rise = repairs_rise script core;
          unanswered = unanswered_form;
          unanswered_rise = unanswered_rise script core;
          objects = objects_form;
          takes = takes_form;
          takes_rise = takes_rise script core;
          servers = all_servers;
          count = count_from 0 core.servers ∙ count;
          numbered = numbered_from 0 core.servers;
        })

-- ---- the laws
pub faithful_runs_are_well_formed : FaithfulRunsAreWellFormed
faithful_runs_are_well_formed script shortages values valid tokens few_lines faithful = whole script values valid shortages tokens few_lines faithful

schedule_lines : (script : Script) → IsValid script → HasFewLines script.schedule
schedule_lines script valid =
    let most : length script.schedule ≤ 1000000 = valid.limits.schedule in
    let few : length (filter is_line script.schedule) ≤ length script.schedule = filtered_few is_line script.schedule in
    omega (arith, most, few)

pub played_are_well_formed : PlayedAreWellFormed
played_are_well_formed script t values valid played =
    subst (IsWellFormed (chunk_count script.geometry)) (sym played.shows)
    (faithful_runs_are_well_formed script played.shortages values valid script.schedule (schedule_lines script valid)
    (subst (IsFaithful script (run_trace script played.shortages script.schedule)) played.shows played.faithful))

pub runs_are_well_formed : RunsAreWellFormed
runs_are_well_formed script shortages values valid =
    played_are_well_formed script (shown_of script shortages) values valid (runs_are_played script shortages values.geometry valid)

pub threaded_are_well_formed : ThreadedAreWellFormed
threaded_are_well_formed script t values valid run =
    subst (IsWellFormed (chunk_count script.geometry)) (sym run.run.shows)
    (faithful_runs_are_well_formed script run.run.shortages values valid run.run.tokens
    (subst (λ (lines : List Token). length lines < 2 ^ 32) (sym run.run.lines) (schedule_lines script valid))
    (subst (IsFaithful script (run_trace script run.run.shortages run.run.tokens)) run.run.shows run.faithful))

-- Seven lists make the transcript that a core shows.
use Rattle.std.proofs.Common.{◌≡◌, ℕ, List, [], map, sym, ap, ◌∙◌}
use Rattle.store_map.specs.Limits.{size_of}
use Rattle.store_map.specs.declared.script.Script.{Script}
use Rattle.store_map.specs.declared.transcript.Transcript.{Transcript}
use Rattle.store_core.specs.Calls.{Calls}
use Rattle.store_core.specs.Core.{Core}
use Rattle.store_core.specs.Directory.{Directory}
use Rattle.store_core.specs.History.{call_of, history_from}
use Rattle.store_core.specs.Shown.{shown}
use Rattle.chunk_server.specs.State.{ServerState}
use Rattle.chunk_server.specs.Core.{core_of}
use Rattle.call_steps.specs.declared.caller_calls.CallerCalls.{CallerCalls}
use Rattle.call_steps.specs.CallerCalls.{calling_at}
use Rattle.world_lines.specs.Lists.{refused_lines, repair_lines, unanswered_lines, object_lines, all_take_lines, server_lines, answered_by}
use Rattle.world_laws.specs.Served.{ServedAre}
use Rattle.world_laws.specs.HeldCore.{Holds}

module _ (d : Directory) (servers : List ServerState) (clients : List CallerCalls) (repairers : List CallerCalls) where
  -- each list is the one of the parts
  pub record AreLists (t : Transcript) : Type 0 where
    pub history : (max width : ℕ) (calls : Calls) → ServedAre max calls d.points clients → t.history ≡ history_from max calls (answered_by (map (calling_at width) clients)) 0 [] d.points
    pub refused : (width : ℕ) → t.refused ≡ refused_lines (map (calling_at width) clients)
    pub repairs : (width : ℕ) → t.repairs ≡ repair_lines (map (calling_at width) repairers)
    pub unanswered : (width : ℕ) → t.unanswered ≡ unanswered_lines (map (calling_at width) clients) (map (calling_at width) repairers)
    pub objects : t.objects ≡ object_lines d.objects
    pub takes : (width : ℕ) → t.takes ≡ all_take_lines (map (calling_at width) clients) (map (calling_at width) repairers)
    pub servers_are : t.servers ≡ server_lines (map core_of servers)

  pub shown_together : (t : Transcript) → AreLists t → (script : Script) (core : Core) → Holds core d servers clients repairers
      → ServedAre (size_of script) (call_of script) d.points clients → t ≡ shown script core
  shown_together t lists script core holds served =
      let n : ℕ = holds.width in
      let cs = sym holds.clients_are in
      let rs = sym holds.repairers_are in
      let ds = sym holds.directory in
      λ k.
      record {
        history = (lists.history (size_of script) n (call_of script) served ∙ (λ j. history_from (size_of script) (call_of script) (answered_by (cs j)) 0 [] (ds j).points)) k;
        refused = (lists.refused n ∙ ap refused_lines cs) k;
        repairs = (lists.repairs n ∙ ap repair_lines rs) k;
        unanswered = (lists.unanswered n ∙ (λ j. unanswered_lines (cs j) (rs j))) k;
        objects = (lists.objects ∙ (λ j. object_lines (ds j).objects)) k;
        takes = (lists.takes n ∙ (λ j. all_take_lines (cs j) (rs j))) k;
        servers = (lists.servers_are ∙ ap server_lines (sym holds.servers_are)) k;
      }

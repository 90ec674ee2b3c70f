-- That the lists together are what a core shows.
use Rattle.std.specs.Prelude.{◌≡◌, []}
use Rattle.store_map.specs.Limits.{size_of}
use Rattle.store_map.specs.declared.script.Script.{Script}
use Rattle.store_core.specs.Core.{Core}
use Rattle.store_core.specs.History.{call_of, history_from}
use Rattle.store_core.specs.Shown.{shown}
use Rattle.world_lines.specs.Lists.{refused_lines, repair_lines, unanswered_lines, object_lines, all_take_lines, server_lines, answered_by}

-- the transcript of a core, list by list
abbrev pub IsShownByLists : Script → Core → Type 0
IsShownByLists script core =
    shown script core
    ≡ record {
      history = history_from (size_of script) (call_of script) (answered_by core.clients) 0 [] core.directory.points;
      refused = refused_lines core.clients;
      repairs = repair_lines core.repairers;
      unanswered = unanswered_lines core.clients core.repairers;
      objects = object_lines core.directory.objects;
      takes = all_take_lines core.clients core.repairers;
      servers = server_lines core.servers;
    }

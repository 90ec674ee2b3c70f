-- Whether one of a world's callers has a step.
use Rattle.std.specs.Prelude.{◌≡◌, ℕ, Bool, List, Some}
use Rattle.std.specs.List.{slice_get, list_any}
use Rattle.store_map.specs.declared.script.Script.{Script}
use Rattle.store_core.specs.Work.{has_step}
use Rattle.world_laws.specs.Known.{calling_of}
use Rattle.actors.specs.Callers.{CallerOf, work_of}

-- a caller has one, and one of some callers
abbrev pub caller_has : Script → CallerOf → Bool
caller_has script caller = has_step (work_of caller.part) (calling_of script caller.actor)

abbrev pub some_caller_has : Script → List CallerOf → Bool
some_caller_has script callers = list_any (caller_has script) callers

-- callers of books of the script's code
abbrev pub AreOfCode : Script → List CallerOf → Type 0
AreOfCode script callers = (i : ℕ) (caller : CallerOf) → slice_get callers i ≡ Some caller → caller.book.geometry ≡ script.geometry

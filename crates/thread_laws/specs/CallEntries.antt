-- The step of a call as an entry of a history.
use Rattle.std.specs.Prelude.{ℕ, Bool, List}
use Rattle.store_map.specs.declared.actor.Actor.{Actor}
use Rattle.store_core.specs.Told.{Told}
use Rattle.store_core.specs.Act.{Act}
use Rattle.store_core.specs.Tokens.{actor_of}
use Rattle.store_core.specs.Directory.{Directory}
use Rattle.store_core.specs.AtDirectory.{at_directory}
use Rattle.store_core.specs.Server.{Server, at_server}
use Rattle.thread_laws.specs.MadeSteps.{MadeStep}
use Rattle.version_seal.specs.Entry.{StampOf}
use Rattle.call_steps.specs.CallOf.{CallOf, act_of}
use Rattle.stripe_stamps.specs.Sealed.{Sealed}
use Rattle.thread_laws.specs.Entries.{steps_in, next_moment}
use Rattle.thread_laws.specs.Noted.{Noted, made_in}

-- the step of a call, whether memory was wanting in it, with its answer and its moment
abbrev pub made_by : CallOf → Bool → Told → ℕ → MadeStep
made_by c short answer moment =
    record {
      actor = actor_of c.token;
      number = c.number;
      shortage = record { coding = c.coding; step = short };
      act = act_of c;
      answer = answer;
      moment = moment;
    }

-- the answer of a server to an act, and that of the directory
abbrev pub server_tells : Bool → Act → Server → Told
server_tells short (Act.AtServer server step) s = (at_server short step s).1
server_tells short act s = Told.NotMade

abbrev pub directory_tells : Bool → Actor → ℕ → Act → Directory → Told
directory_tells short who number (Act.AtDirectory step) d = (at_directory short who number step d).1
directory_tells short who number act d = Told.NotMade

-- the entry of a call's step, which led to its second value, at a server after a history and after a moment of its actor
abbrev pub server_entry : ℕ → CallOf → CallOf → Server → List (ℕ × MadeStep) → ℕ → ℕ × MadeStep
server_entry number before after s log last = (number, made_by before after.step (server_tells after.step (act_of before) s) (next_moment (steps_in log) last))

-- at the directory, where it drew stamps
abbrev pub directory_entry : ℕ → CallOf → CallOf → Sealed → List StampOf → List (ℕ × Noted) → ℕ → ℕ × Noted
directory_entry number before after d drawn log last =
    (number, record { made = made_by before after.step (directory_tells after.step (actor_of before.token) before.number (act_of before) d.core) (next_moment (made_in log) last); drawn = drawn })

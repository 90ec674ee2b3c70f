-- What a call is told by its next step, in which memory was wanting or not.
use Rattle.std.specs.Prelude.{◌≡◌, Bool, Some}
use Rattle.store_core.specs.Told.{Told}
use Rattle.store_core.specs.Act.{Act}
use Rattle.store_core.specs.Tokens.{actor_of}
use Rattle.store_core.specs.Directory.{Directory}
use Rattle.store_core.specs.AtDirectory.{at_directory}
use Rattle.store_core.specs.Server.{Server, at_server}
use Rattle.call_steps.specs.declared.answer.DirectoryAnswer.{DirectoryAnswer}
use Rattle.call_steps.specs.declared.answer.ServerAnswer.{ServerAnswer}
use Rattle.call_steps.specs.CallOf.{CallOf, act_of}
use Rattle.call_steps.specs.Answers.{directory_answer, server_told}

-- at the directory
abbrev pub told_there_by : Act → Bool → CallOf → Directory → Told
told_there_by (Act.AtDirectory step) short c d = (at_directory short (actor_of c.token) c.number step d).1
told_there_by act short c d = Told.NotMade

abbrev pub told_there : Bool → CallOf → Directory → Told
told_there short c d = told_there_by (act_of c) short c d

-- at the server that it needs
abbrev pub told_here_by : Act → Bool → Server → Told
told_here_by (Act.AtServer server step) short s = (at_server short step s).1
told_here_by act short s = Told.NotMade

abbrev pub told_here : Bool → CallOf → Server → Told
told_here short c s = told_here_by (act_of c) short s

-- the answer stands for what a call was told at the directory, where it came to another by its step there
abbrev pub IsToldThere : DirectoryAnswer → CallOf → Directory → CallOf → Type 0
IsToldThere answer c d after = directory_answer (told_there after.step c d) ≡ Some answer

-- and at the server
abbrev pub IsToldHere : ServerAnswer → CallOf → Server → CallOf → Type 0
IsToldHere answer c s after = server_told answer ≡ told_here after.step c s

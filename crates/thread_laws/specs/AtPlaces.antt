-- What the list of a place says: the answers that its steps give there, and how the place ends.
use Rattle.std.specs.Prelude.{◌≡◌, List, [], ◌∷◌}
use Rattle.store_core.specs.Told.{Told}
use Rattle.store_core.specs.Act.{Act}
use Rattle.store_core.specs.Directory.{Directory}
use Rattle.store_core.specs.AtDirectory.{at_directory}
use Rattle.store_core.specs.Server.{Server, at_server}
use Rattle.thread_laws.specs.MadeSteps.{MadeStep}

-- a part of the store, which each step of its list changes
module _ {S : Type 0} (next : MadeStep → S → S) where
  -- how it ends
  abbrev pub after_all : List MadeStep → S → S
  after_all [] s = s
  after_all (m ∷ more) s = after_all more (next m s)

  -- each step may come where it stands
  module _ (MayCome : MadeStep → S → Type 0) where
    abbrev pub AllCome : List MadeStep → S → Type 0
    AllCome [] s = Unit {0}
    AllCome (m ∷ more) s = MayCome m s × AllCome more (next m s)

-- a step's effect at the directory
abbrev pub directory_act : MadeStep → Act → Directory → Directory × Told
directory_act m (Act.AtDirectory step) d = at_directory m.shortage.step m.actor m.number step d
directory_act m act d = (d, m.answer)

abbrev pub directory_next : MadeStep → Directory → Directory
directory_next m d = (directory_act m m.act d).0

-- the directory gives the answer that the step names
abbrev pub DirectoryAnswers : MadeStep → Directory → Type 0
DirectoryAnswers m d = (directory_act m m.act d).1 ≡ m.answer

-- a step's effect at its server
abbrev pub server_act : MadeStep → Act → Server → Server × Told
server_act m (Act.AtServer server step) s = at_server m.shortage.step step s
server_act m act s = (s, m.answer)

abbrev pub server_next : MadeStep → Server → Server
server_next m s = (server_act m m.act s).0

-- the server gives the answer that the step names
abbrev pub ServerAnswers : MadeStep → Server → Type 0
ServerAnswers m s = (server_act m m.act s).1 ≡ m.answer

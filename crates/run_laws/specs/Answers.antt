-- The answers that a step may have.
use Rattle.std.specs.Prelude.{ℕ, ◌≤◌, length, ⊤}
use Rattle.store_core.specs.Told.{Told}
use Rattle.store_core.specs.Act.{Act, DirectoryStep, ServerStep}

-- the answers of a step at the directory to a call that pins and touches at most so many stripes
abbrev pub DirectoryAnswers : ℕ → ℕ → DirectoryStep → Told → Type 0
DirectoryAnswers pins touched (DirectoryStep.Look note) (Told.Answer point reply) = ⊤
DirectoryAnswers pins touched (DirectoryStep.Look note) (Told.Pinned point length_now stripes) = length stripes ≤ pins
DirectoryAnswers pins touched (DirectoryStep.Look note) (Told.Ready base length_now stripes) = length stripes ≤ pins
DirectoryAnswers pins touched (DirectoryStep.Look note) Told.Short = ⊤
DirectoryAnswers pins touched (DirectoryStep.LookRepair note) Told.NoSuch = ⊤
DirectoryAnswers pins touched (DirectoryStep.LookRepair note) (Told.PinnedStripe seen) = ⊤
DirectoryAnswers pins touched (DirectoryStep.LookRepair note) Told.Short = ⊤
DirectoryAnswers pins touched DirectoryStep.Draw (Told.Versions versions) = length versions ≤ touched
DirectoryAnswers pins touched DirectoryStep.Draw (Told.Reaped point) = ⊤
DirectoryAnswers pins touched DirectoryStep.Draw Told.Short = ⊤
DirectoryAnswers pins touched (DirectoryStep.Commit placed) (Told.Done point) = ⊤
DirectoryAnswers pins touched (DirectoryStep.Commit placed) (Told.Changed base newer) = ⊤
DirectoryAnswers pins touched (DirectoryStep.Commit placed) (Told.Reaped point) = ⊤
DirectoryAnswers pins touched DirectoryStep.End Told.Ended = ⊤
DirectoryAnswers pins touched DirectoryStep.End (Told.Reaped point) = ⊤
DirectoryAnswers pins touched DirectoryStep.Confirm Told.Current = ⊤
DirectoryAnswers pins touched DirectoryStep.Confirm (Told.Superseded newer) = ⊤
DirectoryAnswers pins touched DirectoryStep.Confirm (Told.Reaped point) = ⊤
DirectoryAnswers pins touched (DirectoryStep.Repaired server epoch) Told.Ended = ⊤
DirectoryAnswers pins touched (DirectoryStep.Repaired server epoch) (Told.Reaped point) = ⊤
DirectoryAnswers pins touched step answer = ⊥

-- the answers of a step at a server
abbrev pub ServerAnswers : ServerStep → Told → Type 0
ServerAnswers (ServerStep.Prepare version) (Told.Prepared placement) = ⊤
ServerAnswers (ServerStep.Prepare version) Told.Short = ⊤
ServerAnswers (ServerStep.Settle version) Told.Settled = ⊤
ServerAnswers (ServerStep.Has version) Told.Here = ⊤
ServerAnswers (ServerStep.Has version) (Told.Missing found) = ⊤
ServerAnswers (ServerStep.Fetch version layers) (Told.Given count) = ⊤
ServerAnswers (ServerStep.Fetch version layers) (Told.Missing found) = ⊤
ServerAnswers (ServerStep.Fetch version layers) Told.Short = ⊤
ServerAnswers (ServerStep.Install version) (Told.Placed epoch) = ⊤
ServerAnswers (ServerStep.Install version) Told.AlreadyThere = ⊤
ServerAnswers (ServerStep.Install version) (Told.Away downs) = ⊤
ServerAnswers (ServerStep.Install version) Told.Short = ⊤
ServerAnswers step answer = ⊥

-- the answers of an act; an outcome has none
abbrev pub Answers : ℕ → ℕ → Act → Told → Type 0
Answers pins touched (Act.AtDirectory step) answer = DirectoryAnswers pins touched step answer
Answers pins touched (Act.AtServer server step) answer = ServerAnswers step answer
Answers pins touched (Act.Finish outcome) answer = ⊥

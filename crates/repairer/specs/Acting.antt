-- What a rebuild does next at a server.
use Rattle.std.specs.Prelude.{◌≡◌, ℕ, Option, None, Some}
use Rattle.call_steps.specs.declared.act.Act.{Act}
use Rattle.call_steps.specs.declared.act.Act.TheVariants as act
use Rattle.call_steps.specs.declared.act.ServerAct.{ServerAct}
use Rattle.call_steps.specs.declared.act.ServerAct.TheVariants as here
use Rattle.gathering.specs.Gathers.{GatherOf, question_of}

-- the act is the question of a gathering
abbrev pub IsQuestion : Option (ℕ × ServerAct) → Act → Type 0
IsQuestion None next = ⊥
IsQuestion (Some question) next = next ≡ act.Server question.0 question.1

abbrev pub AsksAs : GatherOf → Act → Type 0
AsksAs w next = IsQuestion (question_of w) next

-- the install of a version's chunk
abbrev pub install_act : ℕ → ℕ → Act
install_act server version = act.Server server (here.Install (record { 0 = version }))

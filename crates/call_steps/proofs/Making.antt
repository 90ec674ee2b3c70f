-- That the next step of a call may be made, by what it does next.
use Rattle.std.proofs.Common.{◌≡◌, refl, sym, ap, subst, ◌∙◌}
use Rattle.std.specs.Prelude.{⊤}
use Rattle.store_core.specs.Act.{Act, DirectoryStep}
use Rattle.store_core.specs.Directory.{Directory}
use Rattle.store_core.specs.Agreement.{HeldPass, ActorToken}
use Rattle.store_core.specs.Tokens.{MayGoOn}
use Rattle.call_steps.specs.TokenAfter.{MayMake}
use Rattle.call_steps.specs.CallOf.{CallOf, act_of}
use Rattle.call_steps.specs.Steps.{MayMakeNext}

-- an act at a directory of its book's code
abbrev pub MayBy : CallOf → Act → Type 0
MayBy c (Act.AtDirectory step) = (d : Directory) → d.shape ≡ c.book.geometry → MayMake d c.token c.number step
MayBy c act = ⊤

-- of what it does next
pub makes : (c : CallOf) → MayBy c (act_of c) → MayMakeNext c
makes c may = λ step d is shape. subst (MayBy c) is may d shape

-- on its pass
pub passes : (c : CallOf) (held : HeldPass) (step : DirectoryStep) → c.token ≡ ActorToken.InCall held → held.pass.number ≡ c.number
    → ((d : Directory) → d.shape ≡ c.book.geometry → MayGoOn d held step) → MayBy c (Act.AtDirectory step)
passes c held step is number goes = λ d shape. subst (λ t. MayMake d t c.number step) (sym is) (number, goes d shape)

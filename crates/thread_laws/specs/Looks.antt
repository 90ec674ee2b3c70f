-- That a look of a call is of the script's call.
use Rattle.std.specs.Prelude.{⊤, IfSome}
use Rattle.store_core.specs.Act.{Act}
use Rattle.store_core.specs.Calls.{IsOfCall}
use Rattle.store_core.specs.History.{call_of}
use Rattle.store_core.specs.Tokens.{actor_of}
use Rattle.call_steps.specs.CallOf.{CallOf, act_of}

-- in a book with a script a look is of the script's call
abbrev pub IsOfItsCall : CallOf → Act → Type 0
IsOfItsCall c (Act.AtDirectory step) = IfSome c.book.script (λ script. IsOfCall (call_of script) (actor_of c.token) c.number step)
IsOfItsCall c act = ⊤

abbrev pub IsLookOfScript : CallOf → Type 0
IsLookOfScript c = IsOfItsCall c (act_of c)

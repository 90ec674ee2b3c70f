-- The script's calls and the operator's lines, as the laws' proofs count them.
use Rattle.std.proofs.Common.{◌≡◌, ℕ, ◌<◌, Bool, false, List, length, filter, Option, None, Some, option_and_then, ap}
use Rattle.std.proofs.lemmas.Option.{none-some, same_Some, slice_get_within}
use Rattle.std.specs.List.{slice_get}
use Rattle.std.specs.Option.{option_map_or}
use Rattle.store_map.specs.declared.actor.Actor.{Actor}
use Rattle.store_map.specs.declared.actor.Actor.TheVariants as actor
use Rattle.store_map.specs.declared.actor.Token.{Token}
use Rattle.store_map.specs.declared.script.Script.{Script}
use Rattle.store_map.specs.declared.call_name.ClientCall.{ClientCall}
use Rattle.store_map.specs.declared.call_name.CallName.{CallName}
use Rattle.hist_rules.specs.Calls.{number_of, calls_of}
use Rattle.store_core.specs.History.{client_call}
use Rattle.store_core.specs.RowLines.{client}
use Rattle.hist_rules.specs.Counts.{is_wipe_of, is_reap_of_client, is_reap_of_repairer}

-- a call of the script
abbrev pub IsCall : Script → CallName → Type 0
IsCall script call = number_of call < calls_of script call

-- a call that is found in a part is below how many the part has
pub found_below : {Part Call : Type 0} (calls : Part → List Call) (found : Option Part) (number : ℕ) (call : Call)
    → option_and_then (λ part. slice_get (calls part) number) found ≡ Some call → number < option_map_or (λ part. length (calls part)) found 0
found_below calls None number call e = absurd (none-some call e)
found_below calls (Some part) number call e = slice_get_within (calls part) number call e

-- a point that shows a client's call is that client's
pub named_client : (who : Actor) (number : ℕ) (call : ClientCall) → client_call who number ≡ Some call → (who ≡ actor.Client call.client) × (number ≡ call.number)
named_client (actor.Client i) number call e =
    let same : client i number ≡ call = same_Some (client i number) call e in (ap (λ (c : ClientCall). actor.Client c.client) same, ap (λ (c : ClientCall). c.number) same)
named_client who number call e = absurd (none-some call e)

-- how often the operator empties a server
abbrev pub wipes : List Token → ℕ → ℕ
wipes tokens server = length (filter (is_wipe_of server) tokens)

-- the line gives up the actor's pass
abbrev pub gives_up : Actor → Token → Bool
gives_up (actor.Client i) token = is_reap_of_client i token
gives_up (actor.Repairer i) token = is_reap_of_repairer i token
gives_up who token = false

-- how often the operator gives up an actor's pass, or finds none
abbrev pub reaps : List Token → Actor → ℕ
reaps tokens who = length (filter (gives_up who) tokens)

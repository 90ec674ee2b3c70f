-- A history's calls, made one after the other on the map, beside its lines.
use Rattle.std.proofs.Common.{◌≡◌, ℕ, ◌≤◌, List, [], ◌∷◌, length, drop, refl, sym, ap, ◌∙◌}
use Rattle.std.specs.Prelude.{Option, None}
use Rattle.std.specs.List.{zip}
use Rattle.std.proofs.lemmas.List.{at_drop_all}
use Rattle.store_map.specs.History.{replies_from}
use Rattle.store_map.specs.PlainMap.{Objects}
use Rattle.store_map.specs.declared.call.Call.{Call}
use Rattle.store_map.specs.declared.script.Script.{Script}
use Rattle.store_map.specs.declared.line.HLine.{HLine}
use Rattle.hist_rules.specs.First.{first_fault}
use Rattle.hist_rules.specs.RepliesMatch.{reply_matches, calls_in}
use Rattle.hist_rules.specs.declared.verdict.Verdict.{Verdict}

-- what is left to be found, of lines beside the replies to calls
abbrev pub rest_fault : Script → ℕ → List HLine → List Call → Objects → Option Verdict
rest_fault script max lines calls objects = first_fault (reply_matches script) (zip lines (replies_from max calls objects))

-- at the end
pub calls_end : (script : Script) (lines : List HLine) (i : ℕ) → length lines ≤ i → calls_in script (drop i lines) ≡ []
calls_end script lines i past = at_drop_all (calls_in script) lines i past

pub rest_ends : (script : Script) (max : ℕ) (lines : List HLine) (objects : Objects) → rest_fault script max lines [] objects ≡ None
rest_ends script max [] objects = refl
rest_ends script max (line ∷ lines) objects = refl

pub replay_ends : (script : Script) (max : ℕ) (lines : List HLine) (r i : ℕ) (objects : Objects) (whole : Option Verdict)
    → rest_fault script max (drop r lines) (calls_in script (drop i lines)) objects ≡ whole → length lines ≤ i → None ≡ whole
replay_ends script max lines r i objects whole so_far past =
    sym (ap (λ (calls : List Call). rest_fault script max (drop r lines) calls objects) (calls_end script lines i past) ∙ rest_ends script max (drop r lines) objects) ∙ so_far

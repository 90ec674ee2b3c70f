-- What clients were owed by what they have seen, they were owed by the whole history.
use Rattle.std.proofs.Common.{◌≡◌, ℕ, List, ◌++◌, Option, None, Some, option_and_then, refl, sym, ap, subst, ◌∙◌}
use Rattle.std.proofs.lemmas.List.{map-append}
use Rattle.std.proofs.lemmas.Option.{none-some}
use Rattle.std.specs.List.{slice_get}
use Rattle.store_map.specs.declared.script.Script.{Script}
use Rattle.store_core.specs.Act.{Outcome}
use Rattle.call_steps.specs.declared.caller_calls.CallerCalls.{CallerCalls}
use Rattle.world_laws.specs.Served.{outcome_in, served_in}
use Rattle.thread_laws.specs.Owed.{WasOwed}
use Rattle.thread_laws.proofs.Owing.{owed_stay}
use Rattle.thread_laws.specs.Noted.{Noted, made_in}
use Rattle.thread_laws.specs.Logs.{Logs}
use Rattle.thread_laws.specs.SeenOwed.{OwedBySeen, AllServedStayOwed}

module _ (script : Script) (logs : Logs) (clients : List CallerCalls) (each : (i : ℕ) (calls : CallerCalls) → slice_get clients i ≡ Some calls → OwedBySeen script logs i calls) where
  by : (i number place : ℕ) (bytes : List ℕ) (found : Option CallerCalls) → slice_get clients i ≡ found
      → outcome_in (option_and_then (λ (calls : CallerCalls). slice_get calls.ended.items number) found) ≡ Some (Outcome.Served place)
      → served_in (option_and_then (λ (calls : CallerCalls). slice_get calls.ended.items number) found) ≡ Some bytes → WasOwed script (made_in logs.directory) i number place bytes
  by i number place bytes None e outcome served = absurd (none-some (Outcome.Served place) outcome)
  by i number place bytes (Some calls) e outcome served =
      let it : OwedBySeen script logs i calls = each i calls e in
      let more : List (ℕ × Noted) = it.goes.0 in
      let whole : made_in it.seen ++ made_in more ≡ made_in logs.directory = sym (map-append (λ (entry : ℕ × Noted). entry.1.made) it.seen more) ∙ ap made_in it.goes.1 in
      subst (λ l. WasOwed script l i number place bytes) whole (owed_stay script (made_in it.seen) (made_in more) i number place bytes (it.owed number place bytes outcome served))

pub all_served_stay_owed : AllServedStayOwed
all_served_stay_owed script =
    record {
      more = λ steps more i calls owed number place bytes outcome served. owed_stay script steps more i number place bytes (owed number place bytes outcome served);
      all = λ servers logs clients each i number place bytes outcome served. by script logs clients each i number place bytes (slice_get clients i) refl outcome served;
    }

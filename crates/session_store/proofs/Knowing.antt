-- A store that knows a call more.
use Rattle.std.proofs.Common.{◌≡◌, ℕ, ◌+◌, Option, sym, ◌∙◌}
use Rattle.store_map.specs.declared.call.Call.{Call}
use Rattle.store_core.specs.Calls.{Calls}
use Rattle.run_laws.specs.MoreCalls.{AreAmong}
use Rattle.run_laws.proofs.MoreCalls.{more_calls_change_nothing}
use Rattle.stripe_stamps.specs.Stamped.{HaveContents}
use Rattle.session_rules.specs.State.{State}
use Rattle.session_rules.specs.Between.{IsBetween}
use Rattle.session_rules.proofs.Runs.{more_calls_stay_between}
use Rattle.session_store.specs.Stored.{StoreOf, places_in}
use Rattle.session_store.specs.Standing.{seats_at, StandsAt}
use Rattle.session_store.proofs.Numbers.{known_by, known_before}

module _ (old : StoreOf) (found : ℕ → Option Call) (s : State) (at : StandsAt old s) where
  abbrev pub more : Calls
  more = known_by at.calls old.served found

  among : AreAmong at.calls more
  among = known_before at.calls old.served found at.fresh

  pub between_more : IsBetween more old.geometry old.max (seats_at old.served) at.stands (places_in old) s
  between_more = more_calls_stay_between at.calls more old.geometry old.max (seats_at old.served) at.stands (places_in old) s at.between among

  pub contents_more : HaveContents more old.kept.directory
  contents_more = at.contents ∙ sym (more_calls_change_nothing at.calls more old.kept.directory.core at.between.seen.sound at.between.its_map.bytes at.between.its_map.drawn among).contents

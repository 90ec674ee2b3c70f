-- Actors without calls, and how all actors begin.
use Rattle.std.proofs.Common.{◌≡◌, ℕ, ◌+◌, ◌≤◌, List, [], ◌∷◌, length, filter, refl, sym, ap, subst, ◌∙◌, arith}
use Rattle.clay_grid.specs.Shape.{chunk_count}
use Rattle.store_map.specs.Limits.{size_of, tries_of}
use Rattle.store_map.specs.declared.actor.Actor.TheVariants as actor
use Rattle.store_core.specs.Act.{Act}
use Rattle.store_core.specs.ActPlace.{ActPlace}
use Rattle.store_core.specs.Sweep.{Sweeper}
use Rattle.store_core.specs.Work.{new_calling}
use Rattle.thread_laws.specs.MadeSteps.{MadeStep, is_at, MomentsRise}
use Rattle.thread_laws.specs.AtPlaces.{after_all, AllCome}
use Rattle.thread_laws.specs.ByActors.{calling_next, IsNext, sweeper_next, IsNextSweep}
use Rattle.thread_laws.specs.Lines.{lines_next, IsNextLine}
use Rattle.thread_laws.specs.Threaded.{lines_of}
use Rattle.thread_laws.specs.OwnSteps.{own_steps}
use Rattle.thread_laws.specs.Noted.{tokens_after}
use Rattle.world_laws.specs.Tokens.{first_token}
use Rattle.thread_laws.specs.Logs.{own_at}
use Rattle.thread_laws.specs.Listed.{IsListed}
use Rattle.thread_laws.specs.Stepped.{with_log, with_notes}
use Rattle.thread_laws.specs.Plain.{plain_step, SweepingGoesOn, OperatingGoesOn}
use Rattle.thread_laws.specs.Begin.{AllBegin}
use Rattle.thread_laws.proofs.Falling.{begun_left}
use Rattle.thread_laws.proofs.Lists.{own_empty}
use Rattle.thread_laws.proofs.Listing.{listed_more}
use Rattle.thread_laws.proofs.Placing.{one_at_server, one_at_directory}

pub sweeping_goes_on : SweepingGoesOn
sweeping_goes_on script number seen s sweeping =
    let n : ℕ = chunk_count script.geometry in
    record {
      at_server = λ server step now width within act added.
          let m : MadeStep = plain_step actor.Sweeper (Act.AtServer server step) added.answer added.moment in
          let long : length seen.servers ≡ n = width in
          listed_more n (own_at number seen) (own_at number (with_log server now seen)) m sweeping.own
          (one_at_server number server n seen now m step refl (omega (arith, long, within)) within added.more added.above)
          (sweeper_next script) (IsNextSweep script) Sweeper.Idle s sweeping
          (record { act = sym act; alone = record { number = refl; shortage = refl; placed = tt } });
      at_directory = λ step now act added.
          let m : MadeStep = plain_step actor.Sweeper (Act.AtDirectory step) added.answer added.moment in
          listed_more n (own_at number seen) (own_at number (with_notes now seen)) m sweeping.own
          (one_at_directory number n seen now (record { made = m; drawn = [] }) step refl added.more added.above)
          (sweeper_next script) (IsNextSweep script) Sweeper.Idle s sweeping
          (record { act = sym act; alone = record { number = refl; shortage = refl; placed = tt } });
    }

pub operating_goes_on : OperatingGoesOn
operating_goes_on script number seen line left operating =
    let n : ℕ = chunk_count script.geometry in
    record {
      at_server = λ server step now width within act added.
          let m : MadeStep = plain_step actor.Operator (Act.AtServer server step) added.answer added.moment in
          let long : length seen.servers ≡ n = width in
          listed_more n (own_at number seen) (own_at number (with_log server now seen)) m operating.own
          (one_at_server number server n seen now m step refl (omega (arith, long, within)) within added.more added.above)
          lines_next IsNextLine (lines_of script) (line ∷ left) operating
          (act, record { number = refl; shortage = refl; placed = tt });
      at_directory = λ step now act added.
          let m : MadeStep = plain_step actor.Operator (Act.AtDirectory step) added.answer added.moment in
          listed_more n (own_at number seen) (own_at number (with_notes now seen)) m operating.own
          (one_at_directory number n seen now (record { made = m; drawn = [] }) step refl added.more added.above)
          lines_next IsNextLine (lines_of script) (line ∷ left) operating
          (act, record { number = refl; shortage = refl; placed = tt });
    }

-- ---- the beginning
module _ {S : Type 0} (next : MadeStep → S → S) (May : MadeStep → S → Type 0) (first : S) (servers : ℕ) (at : ActPlace → List MadeStep) (each : (place : ActPlace) → at place ≡ []) where
  pub listed_first : IsListed next May first servers at first
  listed_first =
      let none : own_steps servers at ≡ [] = own_empty servers at each in
      record {
        own = record { here = λ place. ap (filter (is_at place)) (each place) ∙ sym (each place); order = λ place. subst MomentsRise (sym (each place)) tt; past = λ j le. each (ActPlace.Server j) };
        rise = subst MomentsRise (sym none) tt;
        come = subst (λ l. AllCome next May l first) (sym none) tt;
        leads = ap (λ l. after_all next l first) (sym none);
      }

from_none : (a b : ℕ) → a ≤ b → 0 + a ≤ b
from_none a b h = omega (arith, h)

pub all_begin : AllBegin
all_begin script at each =
    let n : ℕ = chunk_count script.geometry in
    record {
      acting = λ who work.
          record {
            calling = new_calling n;
            listed = listed_first (calling_next script work) (IsNext script work) (new_calling n) n at each;
            stands = record { ended = refl; doing = record { between = record { told = refl; takes = refl }; none = refl } };
            token = ap (λ l. tokens_after l (first_token who)) (each ActPlace.Directory);
            numbered = let none : 0 ≤ 0 = omega arith in none;
            heard = tt;
            bounded = from_none _ _ (begun_left script.geometry (size_of script) (tries_of script) work.jobs);
          };
      sweeping = listed_first (sweeper_next script) (IsNextSweep script) Sweeper.Idle n at each;
      operating = listed_first lines_next IsNextLine (lines_of script) n at each;
    }

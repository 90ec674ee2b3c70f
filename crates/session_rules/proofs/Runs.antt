-- Requests one after another.
use Rattle.std.proofs.Common.{◌≡◌, ℕ, List, [], ◌∷◌, map, Option, None, Some, refl, ap, subst, ◌∙◌, arith}
use Rattle.std.specs.List.{AllByRecursion}
use Rattle.clay_grid.specs.Shape.{Shape}
use Rattle.store_map.specs.declared.actor.Actor.TheVariants as actor
use Rattle.store_core.specs.Directory.{Directory, new_directory}
use Rattle.store_core.specs.Agreement.{Agrees}
use Rattle.store_core.specs.Calls.{Calls}
use Rattle.store_core.specs.Content.{contents_by}
use Rattle.run_laws.proofs.OwnSteps.{agreement_goes_on}
use Rattle.run_laws.proofs.MoreCalls.{more_calls_change_nothing}
use Rattle.session_rules.specs.State.{Snapshot}
use Rattle.session_rules.specs.declared.request.Request.{Request}
use Rattle.session_rules.specs.Serve.{serve}
use Rattle.session_rules.proofs.Beginnings.{beginnings_are_seen}
use Rattle.session_rules.proofs.Maps.{beginnings_are_maps, more_calls_leave_maps}
use Rattle.session_rules.specs.Readers.{tickets_of, contents_under, StandForBytes}
use Rattle.session_rules.specs.Between.{seats_after, BeginningsAreBetween, MoreCallsStayBetween}
use Rattle.session_rules.specs.Serving.{IsServedAlone, RequestsAreServed}
use Rattle.session_rules.specs.Runs.{AreServedAlone, RunsAreServed}
use Rattle.session_rules.proofs.Clients.{call_served}
use Rattle.session_rules.proofs.SnapsServed.{snap_served}
use Rattle.session_rules.proofs.SnapsDropped.{drop_served}
use Rattle.session_rules.proofs.KeptReadsServed.{read_served}
use Rattle.session_rules.proofs.Repairs.{has_parity, rebuild_served, loss_served, scrub_served, heal_served}

-- no reader has made a call
first_seats : (g : Shape) (max : ℕ) (readers : List ℕ) → AllByRecursion (Agrees (new_directory g max)) (tickets_of [] 0 0 readers [])
first_seats g max [] = tt
first_seats g max (reader ∷ readers) = (agreement_goes_on.first g max (actor.Client reader), first_seats g max readers)

pub beginnings_are_between : BeginningsAreBetween
beginnings_are_between calls g max client repairer healer readers apart its = record {
  seen = beginnings_are_seen.seen g max;
  pinned = beginnings_are_seen.pinned g max;
  quiet = beginnings_are_seen.quiet g max;
  its_map = beginnings_are_maps calls g max;
  client = agreement_goes_on.first g max (actor.Client client);
  repairer = agreement_goes_on.first g max (actor.Repairer repairer);
  healer = agreement_goes_on.first g max (actor.Repairer healer);
  apart = apart;
  readers = its;
  snapshot = record {
    number = 0;
    used = tt;
    few = omega arith;
    tickets = first_seats g max readers;
    others = λ who away. refl;
    bytes = tt;
  };
}

-- more calls leave what the snapshot's versions stand for
bytes_by_more : (calls more : Calls) (g : Shape) (stands : List ℕ) (d : Directory) → contents_by g more d.versions ≡ contents_by g calls d.versions → (found : Option Snapshot) →
    StandForBytes calls g stands d found → StandForBytes more g stands d found
bytes_by_more calls more g stands d same None bytes = tt
bytes_by_more calls more g stands d same (Some kept) bytes = ap (λ contents. map (contents_under contents stands) kept.numbers) same ∙ bytes

pub more_calls_stay_between : MoreCallsStayBetween
more_calls_stay_between calls more g max seats stands p s h among = record {
  seen = h.seen;
  pinned = h.pinned;
  quiet = h.quiet;
  its_map = more_calls_leave_maps calls more g max stands p s h.seen h.its_map among;
  client = h.client;
  repairer = h.repairer;
  healer = h.healer;
  apart = h.apart;
  readers = h.readers;
  snapshot = record {
    number = h.snapshot.number;
    used = h.snapshot.used;
    few = h.snapshot.few;
    tickets = h.snapshot.tickets;
    others = h.snapshot.others;
    bytes = bytes_by_more calls more g stands p.directory same_contents s.snapshot h.snapshot.bytes;
  };
}
  where
    same_contents : contents_by g more p.directory.versions ≡ contents_by g calls p.directory.versions
    same_contents =
        subst (λ shape. contents_by shape more p.directory.versions ≡ contents_by shape calls p.directory.versions) h.seen.shape
        (more_calls_change_nothing calls more p.directory h.seen.sound h.its_map.bytes h.its_map.drawn among).contents

pub requests_are_served : RequestsAreServed
requests_are_served calls g max tries seats stands p s (Request.OfMap call) some fits tried h may = call_served calls g max tries seats stands p s some tried h call may
requests_are_served calls g max tries seats stands p s (Request.Lose server) some fits tried h may = loss_served calls g max tries seats stands p s some (has_parity g fits) h server may.0 may.1
requests_are_served calls g max tries seats stands p s (Request.Rebuild name stripe server) some fits tried h may = rebuild_served calls g max tries seats stands p s some (has_parity g fits) h name stripe server may
requests_are_served calls g max tries seats stands p s Request.Scrub some fits tried h may = scrub_served calls g max tries seats stands p s some (has_parity g fits) h
requests_are_served calls g max tries seats stands p s Request.Heal some fits tried h may = heal_served calls g max tries seats stands p s some (has_parity g fits) h fits
requests_are_served calls g max tries seats stands p s Request.Snap some fits tried h may = snap_served calls g max tries seats stands p s some h may
requests_are_served calls g max tries seats stands p s (Request.SnapRead name offset count) some fits tried h may = read_served calls g max tries seats stands p s some h name offset count
requests_are_served calls g max tries seats stands p s Request.SnapDrop some fits tried h may = drop_served calls g max tries seats stands p s some h

pub runs_are_served : RunsAreServed
runs_are_served calls g max tries seats stands p s [] some fits tried h may = record { after = p; stands = stands; served = (refl, refl); between = h }
runs_are_served calls g max tries seats stands p s (request ∷ requests) some fits tried h may =
    let first : IsServedAlone calls g max tries seats s request p = requests_are_served calls g max tries seats stands p s request some fits tried h may.0 in
    let rest : AreServedAlone calls g max tries (seats_after request seats) (serve g max request s).0 requests first.after =
    runs_are_served calls g max tries (seats_after request seats) first.stands first.after (serve g max request s).0 requests some fits tried first.between may.1 in
    record { after = rest.after; stands = rest.stands; served = (first.after, first.served, rest.served); between = rest.between }

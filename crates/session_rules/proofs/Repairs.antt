-- Rebuilds, losses, scrubs and heals: each leads from places between two requests to such places.
use Rattle.std.proofs.Common.{◌≡◌, ℕ, zero, suc, ◌+◌, ◌-◌, ◌^◌, ◌<◌, ◌≤◌, Bool, true, false, List, [], ◌∷◌, length, get_or, map, take, replicate, slice_get, Some, refl, sym, ap, subst, ◌∙◌, arith, if◌then◌else◌, ne_eqb}
use Rattle.std.proofs.lemmas.List.{take_all}
use Rattle.clay_grid.specs.Shape.{Shape, chunk_count, stripe_length}
use Rattle.clay_grid.specs.Limits.{IsGeometry}
use Rattle.store_map.specs.declared.actor.Actor.{Actor}
use Rattle.store_map.specs.declared.actor.Actor.TheVariants as actor
use Rattle.store_map.specs.declared.call.Rebuild.{Rebuild as RebuildCall}
use Rattle.store_core.specs.Act.{Act, ServerStep}
use Rattle.store_core.specs.NextAct.{rebuild_job}
use Rattle.store_core.specs.Calls.{Calls}
use Rattle.store_core.specs.Conditions.{MayBegin}
use Rattle.store_core.specs.Lookups.{same_actor}
use Rattle.store_core.specs.Server.{Server}
use Rattle.store_core.specs.Step.{Places, at_places}
use Rattle.session_rules.specs.State.{State, numbers_of}
use Rattle.session_rules.specs.declared.session_answer.Answer.{Answer}
use Rattle.session_rules.specs.declared.request.Request.{Request}
use Rattle.session_rules.specs.Rebuilds.{rebuild}
use Rattle.session_rules.specs.Heals.{to_heal, heal_all, numbers_last}
use Rattle.session_rules.specs.AloneRebuilds.{IsRebuiltAs, rebuilt_as}
use Rattle.session_rules.specs.AloneHeals.{AreRebuilt, healed_by, IsHealedAs}
use Rattle.session_rules.specs.Takes.{AreTaken}
use Rattle.session_rules.proofs.Losses.{losses_are_served}
use Rattle.session_rules.proofs.Scrubs.{scrubs_are_seen}
use Rattle.session_rules.proofs.RebuildAlone.{rebuilds_are_served}
use Rattle.session_rules.proofs.HealAlone.{heals_are_served}
use Rattle.session_rules.proofs.HealTakes.{heals_are_taken}
use Rattle.session_rules.proofs.Wants.{same_directory}
use Rattle.session_rules.proofs.CallLeft.{rebuilds_leave_maps}
use Rattle.session_rules.proofs.HealMaps.{heals_leave_maps}
use Rattle.session_rules.proofs.Sweeps.{sweeps_leave_maps}
use Rattle.session_rules.specs.Seats.{MayBeginFrom}
use Rattle.session_rules.specs.Readers.{HoldsSnapshot}
use Rattle.session_rules.specs.Between.{Seats, IsBetween}
use Rattle.session_rules.specs.Serving.{IsHealServed, IsServedAlone}
use Rattle.session_rules.proofs.RunKept.{begins, act_leaves, call_leaves, rebuild_ended, rebuilds_leave, rebuilds_seat}
use Rattle.session_rules.proofs.Leaving.{call_leaves as call_keeps, rebuilds_leave as rebuilds_keep}
use Rattle.session_rules.proofs.Readers.{holds_after}
use Rattle.session_rules.proofs.Answers.{rebuild_next, rebuild_snapshot, healed_snapshot}

-- a shape within the limits has parity chunks
pub has_parity : (g : Shape) → IsGeometry g → 0 < g.parity_count
has_parity g fits = let two : 2 ≤ g.parity_count = fits.limits.parity_chunks.0 in omega (arith, two)

-- a server that there is
server_there : (servers : List Server) (n : ℕ) → n < length servers → (at : Server) × (slice_get servers n ≡ Some at) × (get_or (map (λ (server : Server). server.epoch) servers) n 0 ≡ at.epoch)
server_there [] n less = absurd (omega (arith, less))
server_there (server ∷ servers) zero less = (server, refl, refl)
server_there (server ∷ servers) (suc n) less = server_there servers n (omega (arith, less))

module _ (calls : Calls) (g : Shape) (max tries : ℕ) (seats : Seats) (stands : List ℕ) (p : Places) (s : State) (some : 0 < stripe_length g) (parity : 0 < g.parity_count) (h : IsBetween calls g max seats stands p s) where
  -- ---- a rebuild
  module _ (name : List ℕ) (stripe server : ℕ) (less : server < chunk_count g) where
    abbrev c : RebuildCall
    c = record { name = name; stripe = stripe; server = server }

    abbrev served : State × Answer
    served = rebuild g stripe server s (numbers_of name s.numbers)

    begin : MayBegin p.directory (actor.Repairer seats.repairer) seats.rebuilds
    begin = begins p.directory (actor.Repairer seats.repairer) seats.rebuilds h.repairer

    made : IsRebuiltAs g max tries (actor.Repairer seats.repairer) seats.rebuilds c stands p s served
    made = rebuilds_are_served g max tries stands p s (actor.Repairer seats.repairer) seats.rebuilds c some parity less h.seen begin refl

    other : (who : Actor) (unused : ℕ) → same_actor (actor.Repairer seats.repairer) who ≡ false → MayBeginFrom p.directory who unused → MayBeginFrom made.after.directory who unused
    other who unused apart seat = call_leaves who unused g tries (actor.Repairer seats.repairer) seats.rebuilds (rebuild_job c) apart p made.after (rebuilt_as served.1) made.ends seat

    pub rebuild_served : IsServedAlone calls g max tries seats s (Request.Rebuild name stripe server) p
    rebuild_served = record {
      after = made.after;
      stands = stands;
      served = made.ends;
      between = record {
        seen = made.seen;
        pinned = made.pinned h.pinned;
        quiet = made.quiet h.quiet;
        its_map = rebuilds_leave_maps.served calls g max tries stands p made.after s (actor.Repairer seats.repairer) seats.rebuilds c (rebuilt_as served.1) some h.seen h.its_map begin refl less made.ends;
        client = other (actor.Client seats.client) seats.calls refl h.client;
        repairer = rebuild_ended g tries (actor.Repairer seats.repairer) seats.rebuilds c p made.after (rebuilt_as served.1) made.ends h.repairer;
        healer =
            subst (MayBeginFrom made.after.directory (actor.Repairer seats.healer)) (sym (rebuild_next g stripe server s (numbers_of name s.numbers)))
            (other (actor.Repairer seats.healer) s.next (ne_eqb seats.repairer seats.healer h.apart) h.healer);
        apart = h.apart;
        readers = h.readers;
        snapshot =
            subst (HoldsSnapshot calls g seats.readers seats.looks stands made.after.directory) (sym (rebuild_snapshot g stripe server s (numbers_of name s.numbers)))
            (holds_after calls g max seats.readers seats.looks stands stands p s some h.seen h.snapshot (actor.Repairer seats.repairer) refl made.after.directory
            (λ P keeps its. call_keeps P (actor.Repairer seats.repairer) keeps g tries seats.rebuilds (rebuild_job c) p made.after (rebuilt_as served.1) made.ends its)
            (rebuild_ended g tries (actor.Repairer seats.repairer) seats.rebuilds c p made.after (rebuilt_as served.1) made.ends h.repairer).no_pass (λ n e. refl));
      };
    }

  -- ---- a loss
  pub loss_served : (server : ℕ) → server < chunk_count g → get_or s.epochs server 0 < 2 ^ 64 - 1 → IsServedAlone calls g max tries seats s (Request.Lose server) p
  loss_served server less few =
      let there : (at : Server) × (slice_get p.servers server ≡ Some at) × (get_or (map (λ (server : Server). server.epoch) p.servers) server 0 ≡ at.epoch) =
      server_there p.servers server (let all : length p.servers ≡ chunk_count g = h.seen.servers in omega (arith, less, all)) in
      let epoch : get_or s.epochs server 0 ≡ there.0.epoch = ap (λ epochs. get_or epochs server 0) (sym h.seen.epochs) ∙ there.2 in
      record {
        after = (at_places false actor.Operator 0 (Act.AtServer server ServerStep.Wipe) p).0;
        stands = stands;
        served = refl;
        between = record {
          seen = losses_are_served.seen g max stands p s actor.Operator 0 server there.0 there.1 (subst (λ n. n < 2 ^ 64 - 1) epoch few) h.seen;
          pinned = losses_are_served.pinned stands p s actor.Operator 0 server h.pinned;
          quiet = losses_are_served.quiet stands p s actor.Operator 0 server h.quiet;
          its_map = sweeps_leave_maps.lost calls p s actor.Operator 0 server h.its_map;
          client = act_leaves (actor.Client seats.client) seats.calls false actor.Operator 0 (Act.AtServer server ServerStep.Wipe) p refl h.client;
          repairer = act_leaves (actor.Repairer seats.repairer) seats.rebuilds false actor.Operator 0 (Act.AtServer server ServerStep.Wipe) p refl h.repairer;
          healer = act_leaves (actor.Repairer seats.healer) s.next false actor.Operator 0 (Act.AtServer server ServerStep.Wipe) p refl h.healer;
          apart = h.apart;
          readers = h.readers;
          snapshot =
              subst (λ d. HoldsSnapshot calls g seats.readers seats.looks stands d s.snapshot) (sym (same_directory false server ServerStep.Wipe p (slice_get p.servers server))) h.snapshot;
        };
      }

  -- ---- a scrub
  pub scrub_served : IsServedAlone calls g max tries seats s Request.Scrub p
  scrub_served = record {
    after = p;
    stands = stands;
    served = (ap (λ lost. Answer.Scrubbed lost) (scrubs_are_seen g max stands p s h.seen), refl);
    between = h;
  }

  -- ---- a heal
  heal_begins : MayBegin p.directory (actor.Repairer seats.healer) s.next
  heal_begins = begins p.directory (actor.Repairer seats.healer) s.next h.healer

  -- its first so many rebuilds
  module _ (count : ℕ) where
    pub healed : IsHealedAs g max tries seats.healer count stands p s
    healed = heals_are_served.begun g max tries seats.healer count stands p s some parity h.seen heal_begins

    pub between_healed : IsBetween calls g max seats stands healed.after (healed_by g count s)
    between_healed = record {
      seen = healed.seen;
      pinned = healed.pinned h.pinned;
      quiet = healed.quiet h.quiet;
      its_map = heals_leave_maps calls g max tries seats.healer count stands p healed.after s some parity h.seen h.its_map heal_begins healed.rebuilt;
      client = rebuilds_leave (actor.Client seats.client) seats.calls g tries (actor.Repairer seats.healer) refl (take count (to_heal g s)) s.next p healed.after healed.rebuilt h.client;
      repairer =
          rebuilds_leave (actor.Repairer seats.repairer) seats.rebuilds g tries (actor.Repairer seats.healer) (ne_eqb seats.healer seats.repairer (λ e. h.apart (sym e))) (take count (to_heal g s)) s.next p healed.after
          healed.rebuilt h.repairer;
      healer = rebuilds_seat g tries (actor.Repairer seats.healer) (take count (to_heal g s)) s.next p healed.after healed.rebuilt h.healer;
      apart = h.apart;
      readers = h.readers;
      snapshot =
          subst (HoldsSnapshot calls g seats.readers seats.looks stands healed.after.directory) (sym (healed_snapshot g count s))
          (holds_after calls g max seats.readers seats.looks stands stands p s some h.seen h.snapshot (actor.Repairer seats.healer) refl healed.after.directory
          (λ P keeps its. rebuilds_keep P (actor.Repairer seats.healer) keeps g tries (take count (to_heal g s)) s.next p healed.after healed.rebuilt its)
          (rebuilds_seat g tries (actor.Repairer seats.healer) (take count (to_heal g s)) s.next p healed.after healed.rebuilt h.healer).no_pass (λ n e. refl));
    }

  abbrev count : ℕ
  count = length (to_heal g s)

  all_healed : take count (to_heal g s) ≡ to_heal g s
  all_healed = take_all (length (to_heal g s)) (to_heal g s) (omega arith)

  -- what the healing seat's calls lead to
  abbrev pub Heals : State × Answer → Type 0
  Heals served = (after : Places) × IsHealServed g tries seats s p served.1 after × IsBetween calls g max seats stands after served.0

  -- by whether the seat's numbers last
  abbrev pub heal_by : Bool → State × Answer
  heal_by last =
      if last then (record ((heal_all g (to_heal g s) s).0) { next = s.next + length (to_heal g s) }, Answer.Healed (length (to_heal g s)) (heal_all g (to_heal g s) s).1)
      else (s, Answer.BadRequest)

  pub heals_by : IsGeometry g → (last : Bool) → Heals (heal_by last)
  heals_by fits false = (p, refl, h)
  heals_by fits true = (
    (healed count).after,
    (
      subst (λ chunks. AreRebuilt g tries (actor.Repairer seats.healer) s.next chunks p (healed count).after) all_healed (healed count).rebuilt,
      refl,
      subst (λ chunks. AreTaken g tries (actor.Repairer seats.healer) s.next chunks p (replicate (chunk_count g) 0) (heal_all g chunks s).1) all_healed
          (heals_are_taken g max tries seats.healer count stands p s some fits h.seen heal_begins),
    ),
    subst (λ (state : State). IsBetween calls g max seats stands (healed count).after state)
        (ap (λ chunks. let state : State = record ((heal_all g chunks s).0) { next = s.next + length chunks } in state) all_healed) (between_healed count),
  )

  pub heal_served : IsGeometry g → IsServedAlone calls g max tries seats s Request.Heal p
  heal_served fits = let heals : Heals (heal_by (numbers_last g s)) = heals_by fits (numbers_last g s) in record { after = heals.0; stands = stands; served = heals.1; between = heals.2 }

-- A loss is served by one step at a server.
use Rattle.std.proofs.Common.{◌≡◌, ℕ, zero, suc, ◌+◌, ◌-◌, ◌^◌, ◌<◌, ◌≤◌, false, List, [], ◌∷◌, length, map, get_or, slice_get, Option, None, Some, All, IsTrue, refl, sym, ap, subst, ◌∙◌, arith}
use Rattle.std.proofs.lemmas.Option.{same_Some}
use Rattle.std.proofs.Math.ListN.{get_or-map}
use Rattle.clay_grid.specs.Shape.{Shape}
use Rattle.store_map.specs.declared.placement.Placement.{Placement}
use Rattle.store_map.specs.declared.placement.Placement.TheVariants as placement
use Rattle.store_core.specs.Lists.{change_at, is_among}
use Rattle.store_core.specs.Act.{ServerStep}
use Rattle.store_core.specs.Server.{Server, at_server, raised_by}
use Rattle.store_core.specs.Step.{Places, at_server_there}
use Rattle.session_rules.specs.State.{Chunk, Stripe, State, chunk_at}
use Rattle.session_rules.specs.Rebuilds.{lost, lose}
use Rattle.session_rules.specs.Seen.{version_of, live_numbers, StandsFor, IsSeenAs, IsQuiet}
use Rattle.session_rules.specs.Sweeps.{KeepsPinned}
use Rattle.session_rules.specs.ServedLaws.{LossesAreServed}
use Rattle.session_rules.proofs.Lists.{map_changed, map_kept, changed_length, all_changed}

-- the server after it was emptied
abbrev emptied : Server → Server
emptied at = (at_server false ServerStep.Wipe at).0

-- the places then
abbrev left : ℕ → Server → Places → Places
left server at p = record p { servers = change_at server (λ _. emptied at) p.servers }

-- a chunk's epoch, as a placement
abbrev placed_at : Chunk → Placement
placed_at chunk = placement.At chunk.placed

stands_left : (p : Places) (server : ℕ) (at : Server) (stripe : Stripe) (version : ℕ) → StandsFor p stripe version → StandsFor (left server at p) (change_at server lost stripe) version
stands_left p server at stripe version h = record {
  placed = h.placed ∙ sym (map_kept placed_at server lost stripe (λ x e. refl));
  held =
      map_changed (λ (s : Server). is_among version s.held) server (λ _. emptied at) (λ _. false) p.servers (λ x e. refl)
      ∙ ap (change_at server (λ _. false)) h.held
      ∙ sym (map_changed (λ (chunk : Chunk). chunk.held) server lost (λ _. false) stripe (λ x e. refl));
}

-- a lost chunk's placed epoch stays
lost_placed : (server other : ℕ) (stripe : Stripe) → (chunk_at (change_at server lost stripe) other).placed ≡ (chunk_at stripe other).placed
lost_placed server other [] = refl
lost_placed zero zero (chunk ∷ stripe) = refl
lost_placed zero (suc other) (chunk ∷ stripe) = refl
lost_placed (suc server) zero (chunk ∷ stripe) = refl
lost_placed (suc server) (suc other) (chunk ∷ stripe) = lost_placed server other stripe

-- no epoch falls
epochs_rise : (server other : ℕ) (epochs : List ℕ) → get_or epochs other 0 ≤ get_or (change_at server (λ epoch. epoch + 1) epochs) other 0
epochs_rise server other [] = omega arith
epochs_rise zero zero (epoch ∷ epochs) = omega arith
epochs_rise zero (suc other) (epoch ∷ epochs) = omega arith
epochs_rise (suc server) zero (epoch ∷ epochs) = omega arith
epochs_rise (suc server) (suc other) (epoch ∷ epochs) = epochs_rise server other epochs

seen_left : (g : Shape) (max : ℕ) (stands : List ℕ) (p : Places) (s : State) (server : ℕ) (at : Server) →
    slice_get p.servers server ≡ Some at → at.epoch < 2 ^ 64 - 1 → IsSeenAs g max stands p s → IsSeenAs g max stands (left server at p) (lose server s)
seen_left g max stands p s server at there few h = record {
  shape = h.shape;
  most = h.most;
  sound = h.sound;
  servers = changed_length server (λ _. emptied at) p.servers ∙ h.servers;
  present = all_changed (λ (one : Server). one.away ≡ false) server (λ _. emptied at) p.servers h.present (λ x e same. ap (λ (one : Server). one.away) (same_Some at x (sym there ∙ e)) ∙ same);
  epochs =
      map_changed (λ (one : Server). one.epoch) server (λ _. emptied at) (λ epoch. epoch + 1) p.servers (λ x e. raised x (ap (λ (one : Server). one.epoch) (same_Some at x (sym there ∙ e))))
      ∙ ap (change_at server (λ epoch. epoch + 1)) h.epochs;
  lengths = h.lengths;
  versions = h.versions;
  count = h.count ∙ sym (length-map-stripes s.stripes);
  apart = h.apart;
  names = h.names;
  timely = λ number other.
      let was : (chunk_at (get_or s.stripes number []) other).placed ≤ get_or s.epochs other 0 = h.timely number other in
      let same : (chunk_at (get_or (map (change_at server lost) s.stripes) number []) other).placed ≡ (chunk_at (get_or s.stripes number []) other).placed =
      ap (λ stripe. (chunk_at stripe other).placed) (get_or-map (change_at server lost) s.stripes number []) ∙ lost_placed server other (get_or s.stripes number []) in
      let more : get_or s.epochs other 0 ≤ get_or (change_at server (λ epoch. epoch + 1) s.epochs) other 0 = epochs_rise server other s.epochs in
      omega (arith, was, same, more);
  stripes = λ number live.
      subst (λ stripe. StandsFor (left server at p) stripe (version_of stands number)) (sym (get_or-map (change_at server lost) s.stripes number []))
      (stands_left p server at (get_or s.stripes number []) (version_of stands number) (h.stripes number live));
}
  where
    raised : (x : Server) → at.epoch ≡ x.epoch → raised_by 1 at.epoch ≡ x.epoch + 1
    raised x e = omega (arith, e, few)

    length-map-stripes : (xs : List Stripe) → length (map (change_at server lost) xs) ≡ length xs
    length-map-stripes [] = refl
    length-map-stripes (x ∷ xs) = ap suc (length-map-stripes xs)

quiet_by : (stands : List ℕ) (p : Places) (s : State) (server : ℕ) (found : Option Server) → IsQuiet stands p s →
    IsQuiet stands (at_server_there false server ServerStep.Wipe p found).0 (lose server s)
quiet_by stands p s server None h = record { passes = h.passes; clean = h.clean; held = h.held; standing = h.standing }
quiet_by stands p s server (Some at) h = record {
  passes = h.passes;
  clean = h.clean;
  held =
      all_changed (λ (one : Server). All (λ version. IsTrue (is_among version (map (version_of stands) (live_numbers s)))) one.held) server (λ _. emptied at) p.servers h.held
      (λ x e kept. λ k d few. absurd (omega (arith, few)));
  standing = h.standing;
}

pinned_by : (stands : List ℕ) (p : Places) (s : State) (server : ℕ) (found : Option Server) → KeepsPinned stands p s →
    KeepsPinned stands (at_server_there false server ServerStep.Wipe p found).0 (lose server s)
pinned_by stands p s server None pinned number live = pinned number live
pinned_by stands p s server (Some at) pinned number live = pinned number live

pub losses_are_served : LossesAreServed
losses_are_served = record {
  seen = λ g max stands p s who number server at there few h.
      subst (λ found. IsSeenAs g max stands (at_server_there false server ServerStep.Wipe p found).0 (lose server s)) (sym there) (seen_left g max stands p s server at there few h);
  quiet = λ stands p s who number server h. quiet_by stands p s server (slice_get p.servers server) h;
  pinned = λ stands p s who number server pinned. pinned_by stands p s server (slice_get p.servers server) pinned;
}

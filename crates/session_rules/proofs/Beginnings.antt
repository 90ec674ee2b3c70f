-- Places in which nothing was done yet.
use Rattle.std.proofs.Common.{◌≡◌, ℕ, zero, suc, ◌≤◌, false, [], ◌∷◌, map, replicate, All, IsTrue, refl, sym, ap, arith}
use Rattle.std.proofs.lemmas.Bool.{true≢false}
use Rattle.std.proofs.lemmas.List.{length-replicate}
use Rattle.std.proofs.lemmas.List.Elements.{All-replicate}
use Rattle.std.specs.List.{IsDistinct}
use Rattle.clay_grid.specs.Shape.{Shape, chunk_count}
use Rattle.store_core.specs.Lists.{is_among}
use Rattle.store_core.specs.Directory.{Event, Point}
use Rattle.store_core.specs.Lookups.{same_actor}
use Rattle.store_core.specs.Server.{Server, new_server}
use Rattle.run_laws.proofs.SoundSteps.{steps_keep_sound}
use Rattle.session_rules.specs.State.{first_state}
use Rattle.session_rules.specs.Seen.{IsSeenAs, IsOfSnapshot, IsAtRest, IsQuiet}
use Rattle.session_rules.specs.Beginnings.{new_places, BeginningsAreSeen}

none_all : {X : Type 0} (P : X → Type 0) → All P []
none_all P = λ k d less. absurd (omega (arith, less))

new_epochs : (n : ℕ) → map (λ server. server.epoch) (replicate n new_server) ≡ replicate n 0
new_epochs zero = refl
new_epochs (suc n) = ap (λ epochs. 0 ∷ epochs) (new_epochs n)

first_seen : (g : Shape) (max : ℕ) → IsSeenAs g max [] (new_places g max) (first_state g)
unfolding IsDistinct
first_seen g max = record {
  shape = refl;
  most = refl;
  sound = steps_keep_sound.first g max;
  servers = length-replicate (chunk_count g) new_server;
  present = All-replicate (λ (server : Server). server.away ≡ false) (chunk_count g) new_server refl;
  epochs = new_epochs (chunk_count g);
  lengths = refl;
  versions = refl;
  count = refl;
  stripes = λ number live. absurd (true≢false (sym live));
  apart = λ n m live also same. absurd (true≢false (sym live));
  timely = λ number server. omega arith;
  names = tt;
}

first_quiet : (g : Shape) (max : ℕ) → IsQuiet [] (new_places g max) (first_state g)
first_quiet g max = record {
  passes = none_all (IsOfSnapshot []);
  clean = refl;
  held = All-replicate (λ (server : Server). All (λ version. IsTrue (is_among version [])) server.held) (chunk_count g) new_server (none_all (λ version. IsTrue (is_among version [])));
  standing = none_all IsAtRest;
}

pub beginnings_are_seen : BeginningsAreSeen
beginnings_are_seen = record {
  seen = first_seen;
  quiet = first_quiet;
  pinned = λ g max number live. absurd (true≢false (sym live));
  begins = λ g max who number. record { no_pass = refl; numbers = none_all (λ (point : Point). IsTrue (same_actor point.actor who) → (point.number ≤ number) × (point.number ≡ number → point.event ≡ Event.Reaped)) };
}

-- The world before its first step.
use Rattle.std.proofs.Common.{◌≡◌, ℕ, zero, suc, ◌+◌, ◌<◌, ◌≤◌, List, [], ◌∷◌, ◌++◌, length, map, drop, replicate, slice_get, Some, All, refl, sym, ap, subst, ◌∙◌, arith}
use Rattle.std.proofs.lemmas.List.{length-map}
use Rattle.std.proofs.lemmas.List.Elements.{All-nil, All-cons}
use Rattle.std.proofs.lemmas.List.FromFn.{length-map-range_with_len}
use Rattle.std.proofs.lemmas.Option.{same_Some, none-some}
use Rattle.std.specs.List.{range_with_len}
use Rattle.clay_grid.specs.Limits.{IsGeometry}
use Rattle.clay_grid.specs.Shape.{Shape, chunk_count}
use Rattle.store_map.specs.Limits.{size_of, tries_of}
use Rattle.store_map.specs.Naming.{IsValid}
use Rattle.store_map.specs.declared.actor.Actor.TheVariants as actor
use Rattle.store_map.specs.declared.script.Script.{Script}
use Rattle.store_core.specs.Agreement.{Seat}
use Rattle.store_core.specs.Directory.{new_directory}
use Rattle.store_core.specs.Server.{new_server}
use Rattle.version_seal.specs.Entry.{BookOf}
use Rattle.chunk_server.specs.State.{ServerState, empty_server}
use Rattle.chunk_server.specs.Core.{core_of}
use Rattle.stripe_stamps.specs.Sealed.{Sealed}
use Rattle.stripe_dir.specs.Seats.{client_seat, repairer_seat}
use Rattle.sweeper.specs.Sweeps.{SweeperOf, new_sweeper}
use Rattle.world_laws.specs.World.{ActorOf}
use Rattle.world_laws.specs.FirstWorld.{IsFirstWorld, IsNew, new_actor}
use Rattle.world_laws.specs.Tokens.{TokensAgree, first_token}
use Rattle.world_laws.proofs.Agreed.{first_tokens_agree}
use Rattle.world_laws.specs.Goes.{IsReachedBy}
use Rattle.world_laws.proofs.Goes.{worlds_go_on}
use Rattle.actors.specs.Turns.{AreServers}
use Rattle.actors.specs.Callers.{PartOf, CallerOf, Knows, StandsIn, first_caller}
use Rattle.store_world.specs.Serving.{ServesItsPins}
use Rattle.store_world.proofs.Serving.{clients_go_on_serving}
use Rattle.store_world.specs.First.{IsFirstClient, AreFirstClients, IsFirstRepairer, AreFirstRepairers, BeginWith, seats_of, first_directory, first_servers}
use Rattle.store_world.specs.Stored.{StoredWorld, world_of}
use Rattle.store_world.specs.Kept.{IsCallerAt, IsClientAt, IsRepairerAt, IsWorld}

-- ---- lists
-- an entry of a mapped list is that of an entry
pub record IsMapped {X Y : Type 0} (f : X → Y) (xs : List X) (i : ℕ) (y : Y) : Type 0 where
  pub from : X
  pub there : slice_get xs i ≡ Some from
  pub is : y ≡ f from

mapped : {X Y : Type 0} (f : X → Y) (xs : List X) (i : ℕ) (y : Y) → slice_get (map f xs) i ≡ Some y → IsMapped f xs i y
mapped f [] i y e = absurd (none-some y e)
mapped f (x ∷ xs) zero y e = record { from = x; there = refl; is = sym (same_Some (f x) y e) }
mapped f (x ∷ xs) (suc i) y e =
    let one : IsMapped f xs i y = mapped f xs i y e in
    record { from = one.from; there = one.there; is = one.is }

all_of : {X : Type 0} (P : X → Type 0) (xs : List X) → ((i : ℕ) (x : X) → slice_get xs i ≡ Some x → P x) → All P xs
all_of P [] each = All-nil P
all_of P (x ∷ xs) each = All-cons P x xs (each zero x refl) (all_of P xs (λ i y e. each (suc i) y e))

-- entry i of a range is its start and i
in_range : {X : Type 0} (f : ℕ → X) (start n i : ℕ) (x : X) → slice_get (map f (range_with_len start n)) i ≡ Some x → x ≡ f (start + i)
in_range f start zero i x e = absurd (none-some x e)
in_range f start (suc n) zero x e = sym (same_Some (f start) x e) ∙ ap f (omega arith)
in_range f start (suc n) (suc i) x e = in_range f (start + 1) n i x e ∙ ap f (omega arith)

all_the_same : {X Y : Type 0} (g : X → Y) (y : Y) (f : ℕ → X) → ((i : ℕ) → g (f i) ≡ y) → (start n : ℕ) → map g (map f (range_with_len start n)) ≡ replicate n y
all_the_same g y f same start zero = refl
all_the_same g y f same start (suc n) = λ k. same start k ∷ all_the_same g y f same (start + 1) n k

-- ---- seats
range_there : {X : Type 0} (f : ℕ → X) (rest : List X) (start n i : ℕ) → i < n → slice_get (map f (range_with_len start n) ++ rest) i ≡ Some (f (start + i))
range_there f rest start zero i less = absurd (omega (arith, less))
range_there f rest start (suc n) zero less = let at : start ≡ start + 0 = omega arith in ap (λ (k : ℕ). Some (f k)) at
range_there f rest start (suc n) (suc i) less =
    let at : start + 1 + i ≡ start + suc i = omega arith in
    range_there f rest (start + 1) n i (omega (arith, less)) ∙ ap (λ (k : ℕ). Some (f k)) at

drop_range : {X : Type 0} (f : ℕ → X) (rest : List X) (start n : ℕ) → drop n (map f (range_with_len start n) ++ rest) ≡ rest
drop_range f rest start zero = refl
drop_range f rest start (suc n) = drop_range f rest (start + 1) n

longer : {X : Type 0} (f : ℕ → X) (rest : List X) (start n : ℕ) → n ≤ length (map f (range_with_len start n) ++ rest)
longer f rest start zero = omega arith
longer f rest start (suc n) = let less : n ≤ length (map f (range_with_len (start + 1) n) ++ rest) = longer f rest (start + 1) n in omega (arith, less)

pub clients_first : (seats : List Seat) (clients repairers : ℕ) → seats ≡ seats_of clients repairers → BeginWith client_seat clients seats
clients_first seats clients repairers are i less =
    let at : 0 + i ≡ i = omega arith in
    ap (λ (l : List Seat). slice_get l i) are ∙ range_there client_seat (map repairer_seat (range_with_len 0 repairers)) 0 clients i less ∙ ap (λ (k : ℕ). Some (client_seat k)) at

pub enough_clients : (seats : List Seat) (clients repairers : ℕ) → seats ≡ seats_of clients repairers → clients ≤ length seats
enough_clients seats clients repairers are =
    subst (λ (l : List Seat). clients ≤ length l) (sym are) (longer client_seat (map repairer_seat (range_with_len 0 repairers)) 0 clients)

append_none : {X : Type 0} (xs : List X) → xs ++ [] ≡ xs
append_none [] = refl
append_none (x ∷ xs) = λ k. x ∷ append_none xs k

left_seats : (seats left : List Seat) (clients repairers : ℕ) → seats ≡ seats_of clients repairers → left ≡ drop clients seats → left ≡ map repairer_seat (range_with_len 0 repairers) ++ []
left_seats seats left clients repairers are rest =
    rest ∙ ap (drop clients) are ∙ drop_range client_seat (map repairer_seat (range_with_len 0 repairers)) 0 clients ∙ sym (append_none (map repairer_seat (range_with_len 0 repairers)))

pub repairers_next : (seats left : List Seat) (clients repairers : ℕ) → seats ≡ seats_of clients repairers → left ≡ drop clients seats → BeginWith repairer_seat repairers left
repairers_next seats left clients repairers are rest i less =
    let at : 0 + i ≡ i = omega arith in
    ap (λ (l : List Seat). slice_get l i) (left_seats seats left clients repairers are rest) ∙ range_there repairer_seat [] 0 repairers i less ∙ ap (λ (k : ℕ). Some (repairer_seat k)) at

pub enough_repairers : (seats left : List Seat) (clients repairers : ℕ) → seats ≡ seats_of clients repairers → left ≡ drop clients seats → repairers ≤ length left
enough_repairers seats left clients repairers are rest =
    subst (λ (l : List Seat). repairers ≤ length l) (sym (left_seats seats left clients repairers are rest)) (longer repairer_seat [] 0 repairers)

-- ---- the world
pub record HasFirstParts (s : StoredWorld) : Type 0 where
  pub geometry : IsGeometry s.script.geometry
  pub valid : IsValid s.script
  pub written : s.book.script ≡ Some s.script
  pub code : s.book.geometry ≡ s.script.geometry
  pub directory : s.directory ≡ first_directory s.script s.book
  pub servers : s.servers ≡ first_servers s.script s.book
  pub clients : AreFirstClients s.script s.book s.clients
  pub repairers : AreFirstRepairers s.script s.book s.repairers
  pub sweeper : s.sweeper ≡ new_sweeper (chunk_count s.script.geometry)

module _ (s : StoredWorld) (has : HasFirstParts s) where
  client_new : (i : ℕ) (a : ActorOf) → slice_get (world_of s).clients i ≡ Some a → a ≡ new_actor (first_token (actor.Client i))
  client_new i a e =
      let one : IsMapped (λ (c : CallerOf). c.actor) s.clients i a = mapped (λ (c : CallerOf). c.actor) s.clients i a e in
      one.is ∙ ap (λ (c : CallerOf). c.actor) (has.clients.each i one.from one.there).first

  repairer_new : (i : ℕ) (a : ActorOf) → slice_get (world_of s).repairers i ≡ Some a → a ≡ new_actor (first_token (actor.Repairer i))
  repairer_new i a e =
      let one : IsMapped (λ (c : CallerOf). c.actor) s.repairers i a = mapped (λ (c : CallerOf). c.actor) s.repairers i a e in
      one.is ∙ ap (λ (c : CallerOf). c.actor) (has.repairers.each i one.from one.there).first

  pub is_first : IsFirstWorld s.script (world_of s)
  is_first =
      record {
        directory = ap (λ (d : Sealed). d.core) has.directory ∙ ap (λ (g : Shape). new_directory g (size_of s.script)) has.code;
        servers =
            ap (map core_of) has.servers
            ∙ all_the_same core_of new_server (λ (number : ℕ). empty_server number s.book) (λ i. refl) 0 (chunk_count s.script.geometry);
        client_count = length-map s.clients (λ (c : CallerOf). c.actor) ∙ has.clients.count;
        clients = all_of IsNew (world_of s).clients (λ i a e. (first_token (actor.Client i), client_new i a e));
        repairer_count = length-map s.repairers (λ (c : CallerOf). c.actor) ∙ has.repairers.count;
        repairers = all_of IsNew (world_of s).repairers (λ i a e. (first_token (actor.Repairer i), repairer_new i a e));
        sweeper = has.sweeper;
      }

  agreed : TokensAgree (world_of s)
  agreed = first_tokens_agree s.script (world_of s) is_first client_new repairer_new

  servers_held : AreServers s.book s.servers
  servers_held =
      record {
        count = ap length has.servers ∙ length-map-range_with_len (λ (number : ℕ). empty_server number s.book) 0 (chunk_count s.script.geometry) ∙ ap chunk_count (sym has.code);
        each = λ i t e.
            let is : t ≡ empty_server (0 + i) s.book = in_range (λ (number : ℕ). empty_server number s.book) 0 (chunk_count s.script.geometry) i t (ap (λ (l : List ServerState). slice_get l i) (sym has.servers) ∙ e) in
            let at : 0 + i ≡ i = omega arith in
            (ap (λ (x : ServerState). x.number) is ∙ at, ap (λ (x : ServerState). x.book) is);
      }

  first_at : (i : ℕ) (c : CallerOf) (part : PartOf) (seat : Seat) → c ≡ first_caller part s.book (tries_of s.script) seat → StandsIn s.script i part → IsCallerAt s.script s.book s.directory i c
  first_at i c part seat first its =
      record {
        its = subst (StandsIn s.script i) (sym (ap (λ (x : CallerOf). x.part) first)) its;
        same_book = ap (λ (x : CallerOf). x.book) first;
        often = ap (λ (x : CallerOf). x.tries) first;
        knows = subst (λ (x : CallerOf). Knows s.directory x) (sym first) tt;
      }

  client_there : (i : ℕ) (c : CallerOf) → slice_get s.clients i ≡ Some c → IsClientAt s.script s.book s.directory i c
  client_there i c e =
      let of : IsFirstClient s.script s.book i c = has.clients.each i c e in
      record {
        part = of.part;
        is_part = ap (λ (x : CallerOf). x.part) of.first;
        at = first_at i c (PartOf.OfClient of.part) (client_seat i) of.first of.its;
        serves = subst (ServesItsPins s.script s.directory.core.points i) (sym of.first) ((clients_go_on_serving s.script).first s.directory.core.points i of.part s.book (tries_of s.script) (client_seat i));
      }

  repairer_there : (i : ℕ) (c : CallerOf) → slice_get s.repairers i ≡ Some c → IsRepairerAt s.script s.book s.directory i c
  repairer_there i c e =
      let of : IsFirstRepairer s.script s.book i c = has.repairers.each i c e in
      record {
        part = of.part;
        is_part = ap (λ (x : CallerOf). x.part) of.first;
        at = first_at i c (PartOf.OfRepairer of.part) (repairer_seat i) of.first of.its;
      }

  pub reached_first : IsReachedBy s.script [] (world_of s)
  reached_first = (worlds_go_on s.script).first (world_of s) is_first

  pub stands_first : IsWorld s
  stands_first =
      record {
        geometry = has.geometry;
        valid = has.valid;
        written = has.written;
        code = has.code;
        directory_book = ap (λ (d : Sealed). d.book) has.directory;
        servers = servers_held;
        clients = record { count = has.clients.count; each = client_there };
        repairers = record { count = has.repairers.count; each = repairer_there };
        agree = agreed;
        reached = record { tokens = []; by = reached_first };
      }

-- the parts, one by one
pub parts_are : (script : Script) (book : BookOf) (directory : Sealed) (servers : List ServerState) (clients : List CallerOf) (repairers : List CallerOf) (sweeper : SweeperOf) (count : ℕ)
    → IsGeometry script.geometry → IsValid script → book.script ≡ Some script → book.geometry ≡ script.geometry → directory ≡ first_directory script book → servers ≡ first_servers script book
    → AreFirstClients script book clients → AreFirstRepairers script book repairers → sweeper ≡ new_sweeper count → count ≡ chunk_count script.geometry
    → HasFirstParts (record { script = script; book = book; directory = directory; servers = servers; clients = clients; repairers = repairers; sweeper = sweeper })
parts_are script book directory servers clients repairers sweeper count geometry valid written code empty unused seated mended made all =
    record {
      geometry = geometry;
      valid = valid;
      written = written;
      code = code;
      directory = empty;
      servers = unused;
      clients = seated;
      repairers = mended;
      sweeper = made ∙ ap new_sweeper all;
    }

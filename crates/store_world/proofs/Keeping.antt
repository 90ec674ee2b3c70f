-- What a world keeps through a change of its parts.
use Rattle.std.proofs.Common.{◌≡◌, ℕ, List, [], ◌∷◌, ◌++◌, length-set, set, slice_get, Some, append-nil, sym, ◌∙◌}
use Rattle.store_map.specs.declared.actor.Token.{Token}
use Rattle.store_map.specs.declared.script.Script.{Script}
use Rattle.store_core.specs.Schedule.{step_core}
use Rattle.version_seal.specs.Entry.{BookOf, StampOf}
use Rattle.chunk_server.specs.State.{ServerState}
use Rattle.stripe_stamps.specs.Sealed.{Sealed}
use Rattle.sweeper.specs.Sweeps.{SweeperOf}
use Rattle.world_laws.specs.World.{WorldOf}
use Rattle.world_laws.specs.Tokens.{TokensAgree}
use Rattle.world_laws.specs.Goes.{Leads}
use Rattle.world_laws.proofs.Goes.{worlds_go_on}
use Rattle.actors.specs.Turns.{AreServers}
use Rattle.actors.specs.Callers.{CallerOf}
use Rattle.store_world.specs.ServeLaws.{HasMorePoints}
use Rattle.store_world.proofs.Serving.{clients_go_on_serving}
use Rattle.store_world.specs.Stored.{StoredWorld, world_of}
use Rattle.store_world.specs.Kept.{IsCallerAt, IsClientAt, AreClients, IsRepairerAt, AreRepairers, IsWorld}
use Rattle.store_world.proofs.Knowing.{knows_more}
use Rattle.store_world.proofs.Lists.{each_set}

-- the world with other parts
abbrev pub changed : StoredWorld → Sealed → List ServerState → List CallerOf → List CallerOf → SweeperOf → StoredWorld
changed s d servers clients repairers sweeper =
    record { script = s.script; book = s.book; directory = d; servers = servers; clients = clients; repairers = repairers; sweeper = sweeper }

pub kept_by : (s : StoredWorld) (d : Sealed) (servers : List ServerState) (clients : List CallerOf) (repairers : List CallerOf) (sweeper : SweeperOf) (t : Token) → IsWorld s
    → d.book ≡ s.directory.book → AreServers s.book servers → AreClients s.script s.book d clients → AreRepairers s.script s.book d repairers
    → TokensAgree (world_of (changed s d servers clients repairers sweeper))
    → Leads s.script (step_core s.script t) (world_of s) (world_of (changed s d servers clients repairers sweeper))
    → IsWorld (changed s d servers clients repairers sweeper)
kept_by s d servers clients repairers sweeper t is book of_book of_clients of_repairers agree leads =
    let after : WorldOf = world_of (changed s d servers clients repairers sweeper) in
    record {
      geometry = is.geometry;
      valid = is.valid;
      written = is.written;
      code = is.code;
      directory_book = book ∙ is.directory_book;
      servers = of_book;
      clients = of_clients;
      repairers = of_repairers;
      agree = agree;
      reached = (worlds_go_on s.script).reached (t ∷ []) (world_of s) after ((worlds_go_on s.script).step t (world_of s) after leads) is.reached;
    }

-- a caller stays where it is, as stamps come
pub caller_stays : (script : Script) (book : BookOf) (d now : Sealed) (i : ℕ) (c : CallerOf) (more : List StampOf) → now.stamps ≡ d.stamps ++ more → IsCallerAt script book d i c → IsCallerAt script book now i c
caller_stays script book d now i c more same of = record { its = of.its; same_book = of.same_book; often = of.often; knows = knows_more d now more c same of.knows }

-- what clients know and serve stays through steps that draw nothing
pub clients_stay : (script : Script) (book : BookOf) (d now : Sealed) (clients : List CallerOf) → now.stamps ≡ d.stamps → HasMorePoints d.core.points now.core.points → AreClients script book d clients → AreClients script book now clients
clients_stay script book d now clients same more are =
    record {
      count = are.count;
      each = λ i c there.
          let of : IsClientAt script book d i c = are.each i c there in
          record {
            part = of.part;
            is_part = of.is_part;
            at = caller_stays script book d now i c [] (same ∙ sym (append-nil d.stamps)) of.at;
            serves = (clients_go_on_serving script).stays d.core.points now.core.points i c more of.serves;
          };
    }

-- and what repairers know
pub repairers_stay : (script : Script) (book : BookOf) (d now : Sealed) (repairers : List CallerOf) → now.stamps ≡ d.stamps → AreRepairers script book d repairers → AreRepairers script book now repairers
repairers_stay script book d now repairers same are =
    record {
      count = are.count;
      each = λ i c there.
          let of : IsRepairerAt script book d i c = are.each i c there in
          record { part = of.part; is_part = of.is_part; at = caller_stays script book d now i c [] (same ∙ sym (append-nil d.stamps)) of.at };
    }

-- of the servers one is changed
pub others_stay : (book : BookOf) (servers : List ServerState) (i : ℕ) (s now : ServerState) → AreServers book servers → slice_get servers i ≡ Some s → now.number ≡ s.number → now.book ≡ s.book
    → AreServers book (set servers i now)
others_stay book servers i s now are there number its =
    let was : (s.number ≡ i) × (s.book ≡ book) = are.each i s there in
    record {
      count = length-set servers i now ∙ are.count;
      each = each_set (λ (k : ℕ) (t : ServerState). (t.number ≡ k) × (t.book ≡ book)) (λ (k : ℕ) (t : ServerState). (t.number ≡ k) × (t.book ≡ book)) servers i now (λ k t of. of) are.each (number ∙ was.0, its ∙ was.1);
    }

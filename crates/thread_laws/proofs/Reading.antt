-- The put and the get, computed.
use Rattle.std.proofs.Common.{ℕ, zero, suc, refl}
use Rattle.std.specs.List.{slice_get}
use Rattle.store_map.specs.declared.actor.Actor.TheVariants as actor
use Rattle.store_core.specs.ActPlace.{ActPlace}
use Rattle.store_core.specs.Core.{first_core}
use Rattle.store_core.specs.Work.{client_work}
use Rattle.thread_laws.specs.AtPlaces.{AllCome, server_next, ServerAnswers}
use Rattle.thread_laws.specs.Histories.{ComeIfThere, ComeOfActor}
use Rattle.thread_laws.specs.ReadExample.{put_get, read_of}
use Rattle.thread_laws.specs.ReadMerges.{read_at, ReadMerges}

servers_go : (j : ℕ) → ComeIfThere (AllCome server_next ServerAnswers) (read_at (ActPlace.Server j)) (slice_get (first_core put_get).servers j)
servers_go zero = (refl, (refl, (refl, tt)))
servers_go (suc zero) = (refl, (refl, (refl, tt)))
servers_go (suc (suc zero)) = (refl, (refl, tt))
servers_go (suc (suc (suc zero))) = (refl, (refl, tt))
servers_go (suc (suc (suc (suc j)))) = refl

clients_go : (i : ℕ) → ComeOfActor put_get (read_of (actor.Client i)) (slice_get (client_work put_get) i) (slice_get (first_core put_get).clients i)
clients_go zero =
    ((refl, refl, tt), ((refl, refl, tt), ((refl, refl, tt), ((refl, refl, tt), ((refl, refl, tt), ((refl, refl, tt), ((refl, refl, tt), ((refl, refl, tt), ((refl, refl, tt), ((refl, refl, tt), ((refl, refl, tt), tt)))))))))))
clients_go (suc zero) = ((refl, refl, tt), ((refl, refl, tt), ((refl, refl, tt), ((refl, refl, tt), tt))))
clients_go (suc (suc i)) = refl

pub read_merges : ReadMerges
read_merges =
    record {
      go =
          record {
            directory = (refl, (refl, (refl, (refl, (refl, tt)))));
            servers = servers_go;
            clients = clients_go;
            repairers = λ i. refl;
            sweeper = tt;
            operator = tt;
          };
      order = refl;
      taken = refl;
      counted = refl;
    }

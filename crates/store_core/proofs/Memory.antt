-- Want of memory is heard where memory is taken.
use Rattle.std.proofs.Common.{◌≡◌, ℕ, Bool, true, false, sym, ap, ◌∙◌}
use Rattle.store_map.specs.declared.actor.Actor.{Actor}
use Rattle.store_core.specs.Act.{DirectoryStep, ServerStep, takes_memory, server_takes_memory}
use Rattle.store_core.specs.Directory.{Directory}
use Rattle.store_core.specs.AtDirectory.{unless_short}
use Rattle.store_core.specs.Server.{Server, server_unless_short}
use Rattle.store_core.specs.MemoryLaws.{IsHeardWhereTaken}

same_made : (takes : Bool) (who : Actor) (number : ℕ) (step : DirectoryStep) (d : Directory) → takes ≡ false → unless_short true takes who number step d ≡ unless_short false takes who number step d
same_made takes who number step d e =
    ap (λ t. unless_short true t who number step d) e ∙ sym (ap (λ t. unless_short false t who number step d) e)

same_server : (takes : Bool) (step : ServerStep) (s : Server) → takes ≡ false → server_unless_short true takes step s ≡ server_unless_short false takes step s
same_server takes step s e = ap (λ t. server_unless_short true t step s) e ∙ sym (ap (λ t. server_unless_short false t step s) e)

pub is_heard : IsHeardWhereTaken
is_heard =
    record {
      directory = λ who number step d. record {
        short = λ e. ap (λ t. unless_short true t who number step d) e;
        ignored = same_made (takes_memory step) who number step d;
      };
      server = λ step s. record {
        short = λ e. ap (λ t. server_unless_short true t step s) e;
        ignored = same_server (server_takes_memory step) step s;
      };
    }

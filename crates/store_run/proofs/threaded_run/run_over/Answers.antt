use Rattle.std.proofs.Common.{◌≡◌, length, sym, subst}
use Rattle.store_map.specs.declared.script.Script.{Script}
use Rattle.stripe_dir.specs.Seats.{first_seats}
use Rattle.store_run.proofs.threaded_run.run_over.Goals as goal

pub make_crew-requires-clause-seats : goal.make_crew-requires-clause-seats
make_crew-requires-clause-seats g c =
    subst (λ (script : Script). c.in_ok-store.seats.items ≡ first_seats (length script.clients) (length script.repairers)) (sym c.in_ok-store.ensures.its) c.in_ok-store.ensures.seats

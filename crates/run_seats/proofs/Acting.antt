-- Actors of all kinds have books of the script's code.
use Rattle.std.proofs.Common.{All, List, ap, ◌∙◌}
use Rattle.std.proofs.lemmas.List.Elements.{All-weaker}
use Rattle.version_seal.specs.Entry.{BookOf}
use Rattle.run_seats.specs.Places.{IsStore}
use Rattle.run_seats.specs.SeatedActors.{AreOfCode, IsOfCode, IsSeatedActor}
use Rattle.run_seats.specs.declared.seated_actor.SeatedActor.{SeatedActor}
use Rattle.run_seats.specs.declared.seated_actor.SeatedActor.TheVariants as kind
use Rattle.run_seats.specs.declared.store.Store.{Store}

of_code : (store : Store) → IsStore store → (actor : SeatedActor) → IsSeatedActor store actor → IsOfCode store.script.now actor
of_code store is (kind.Caller seated) h = ap (λ (b : BookOf). b.geometry) h.book ∙ is.code
of_code store is (kind.Sweeper sweeper) h = tt
of_code store is (kind.Operator operator) h = tt

pub are_of_code : (store : Store) (actors : List SeatedActor) → IsStore store → All (IsSeatedActor store) actors → AreOfCode store.script.now actors
are_of_code store actors is all = All-weaker (IsSeatedActor store) (IsOfCode store.script.now) (of_code store is) actors all

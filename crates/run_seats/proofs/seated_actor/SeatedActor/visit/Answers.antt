use Rattle.std.proofs.Common.{◌≡◌, ◌<◌, true, false, refl, sym, ap, subst, ◌∙◌, true≢false}
use Rattle.run_seats.specs.Falling.{steps_left}
use Rattle.run_seats.specs.SeatedActors.{IsSeatedActor, actor_has, number_of}
use Rattle.run_seats.specs.Telling.{HasCounted, IsToldOf}
use Rattle.run_seats.specs.declared.seated_actor.SeatedActor.{SeatedActor}
use Rattle.run_seats.specs.declared.seated_actor.SeatedActor.TheVariants as kind
use Rattle.run_seats.proofs.seated_actor.SeatedActor.visit.Goals as goal

pub visit-requires : goal.visit-requires
visit-requires g c = (c.type_bounds.sync-R, (c.requires.store, subst (IsSeatedActor c.args.store.now) c.in-Caller.is c.requires.seated))

pub turn-requires : goal.turn-requires
turn-requires g c = record { store_is = c.requires.store; seated_is = subst (IsSeatedActor c.args.store.now) c.in-Sweeper.is c.requires.seated }

pub visit-requires-in-Operator-clause-store : goal.visit-requires-in-Operator-clause-store
visit-requires-in-Operator-clause-store g c = c.requires.store

pub visit-requires-in-Operator-clause-seated : goal.visit-requires-in-Operator-clause-seated
visit-requires-in-Operator-clause-seated g c = subst (IsSeatedActor c.args.store.now) c.in-Operator.is c.requires.seated

pub returns-in-Caller-clause-seated : goal.returns-in-Caller-clause-seated
returns-in-Caller-clause-seated g c = c.visit.ensures.seated

pub returns-in-Caller-clause-number : goal.returns-in-Caller-clause-number
returns-in-Caller-clause-number g c = c.visit.ensures.number ∙ sym (ap number_of c.in-Caller.is)

pub returns-in-Caller-clause-falls : goal.returns-in-Caller-clause-falls
returns-in-Caller-clause-falls g c = subst (λ (a : SeatedActor). actor_has c.args.store.now.script.now a ≡ true → steps_left c.args.store.now (kind.Caller c.visit.new.self) < steps_left c.args.store.now a) (sym c.in-Caller.is) c.visit.ensures.falls

pub returns-in-Caller-clause-over : goal.returns-in-Caller-clause-over
returns-in-Caller-clause-over g c = subst (λ (a : SeatedActor). actor_has c.args.store.now.script.now a ≡ false → steps_left c.args.store.now (kind.Caller c.visit.new.self) ≡ steps_left c.args.store.now a) (sym c.in-Caller.is) c.visit.ensures.over

pub returns-in-Caller-clause-told : goal.returns-in-Caller-clause-told
returns-in-Caller-clause-told g c = subst (IsToldOf (g.G.Gate.was_told c.args.gate.now) c.args.store.now.script.now) (sym c.in-Caller.is) c.visit.ensures.told

pub returns-in-Caller-clause-counted : goal.returns-in-Caller-clause-counted
returns-in-Caller-clause-counted g c = subst (λ (a : SeatedActor). HasCounted c.args.store.now.script.now a (kind.Caller c.visit.new.self)) (sym c.in-Caller.is) c.visit.ensures.counted

pub returns-in-Sweeper-clause-seated : goal.returns-in-Sweeper-clause-seated
returns-in-Sweeper-clause-seated g c = c.turn.ensures.steps.seated_is

pub returns-in-Sweeper-clause-number : goal.returns-in-Sweeper-clause-number
returns-in-Sweeper-clause-number g c = c.turn.ensures.steps.same ∙ sym (ap number_of c.in-Sweeper.is)

pub returns-in-Sweeper-clause-falls : goal.returns-in-Sweeper-clause-falls
returns-in-Sweeper-clause-falls g c has = absurd (true≢false (sym has ∙ ap (actor_has c.args.store.now.script.now) c.in-Sweeper.is))

pub returns-in-Sweeper-clause-over : goal.returns-in-Sweeper-clause-over
returns-in-Sweeper-clause-over g c none = sym (ap (steps_left c.args.store.now) c.in-Sweeper.is)

pub returns-in-Sweeper-clause-told : goal.returns-in-Sweeper-clause-told
returns-in-Sweeper-clause-told g c = subst (IsToldOf (g.G.Gate.was_told c.args.gate.now) c.args.store.now.script.now) (sym c.in-Sweeper.is) c.turn.ensures.told

pub returns-in-Sweeper-clause-counted : goal.returns-in-Sweeper-clause-counted
returns-in-Sweeper-clause-counted g c = subst (λ (a : SeatedActor). HasCounted c.args.store.now.script.now a (kind.Sweeper c.turn.new.self)) (sym c.in-Sweeper.is) c.turn.ensures.steps.one_more

pub returns-in-Operator-clause-seated : goal.returns-in-Operator-clause-seated
returns-in-Operator-clause-seated g c = c.visit-in-Operator.ensures.seated

pub returns-in-Operator-clause-number : goal.returns-in-Operator-clause-number
returns-in-Operator-clause-number g c = c.visit-in-Operator.ensures.number ∙ sym (ap number_of c.in-Operator.is)

pub returns-in-Operator-clause-falls : goal.returns-in-Operator-clause-falls
returns-in-Operator-clause-falls g c = subst (λ (a : SeatedActor). actor_has c.args.store.now.script.now a ≡ true → steps_left c.args.store.now (kind.Operator c.visit-in-Operator.new.self) < steps_left c.args.store.now a) (sym c.in-Operator.is) c.visit-in-Operator.ensures.falls

pub returns-in-Operator-clause-over : goal.returns-in-Operator-clause-over
returns-in-Operator-clause-over g c = subst (λ (a : SeatedActor). actor_has c.args.store.now.script.now a ≡ false → steps_left c.args.store.now (kind.Operator c.visit-in-Operator.new.self) ≡ steps_left c.args.store.now a) (sym c.in-Operator.is) c.visit-in-Operator.ensures.over

pub returns-in-Operator-clause-told : goal.returns-in-Operator-clause-told
returns-in-Operator-clause-told g c = subst (IsToldOf (g.G.Gate.was_told c.args.gate.now) c.args.store.now.script.now) (sym c.in-Operator.is) c.visit-in-Operator.ensures.told

pub returns-in-Operator-clause-counted : goal.returns-in-Operator-clause-counted
returns-in-Operator-clause-counted g c = subst (λ (a : SeatedActor). HasCounted c.args.store.now.script.now a (kind.Operator c.visit-in-Operator.new.self)) (sym c.in-Operator.is) c.visit-in-Operator.ensures.counted

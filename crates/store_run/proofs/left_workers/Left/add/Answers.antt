use Rattle.std.proofs.Common.{◌<◌, ◌∷◌, ◌++◌, [], length, vec_capacity, refl, ap, subst, ◌∙◌, arith}
use Rattle.run_seats.specs.declared.seat_turns.Turns.{Turns}
use Rattle.store_run.specs.Leaving.{Leaves}
use Rattle.store_run.specs.declared.left_workers.Left.{Left}
use Rattle.store_run.proofs.Leaving.{client_leaves, operator_leaves, repairer_leaves, room_for_client, room_for_repairer, room_for_row, room_for_turn, room_stays, sweeper_leaves}
use Rattle.store_run.proofs.left_workers.Left.add.Goals as goal

pub push_reserved-requires : goal.push_reserved-requires
push_reserved-requires c =
    let left : Left = c.args.self.now in
    let less : length left.directory.items < vec_capacity left.directory = room_for_turn c.requires.0 c.requires.1 c.args.actor left c.requires.2 in
    omega (arith, less, left.directory.ok.0)

pub push_reserved-requires-2 : goal.push_reserved-requires-2
push_reserved-requires-2 c =
    let left : Left = c.args.self.now in
    let less : length left.rows.items < vec_capacity left.rows = room_for_row c.requires.0 c.requires.1 c.args.actor left c.requires.2 in
    omega (arith, less, left.rows.ok.0)

pub push_reserved-requires-in-Client : goal.push_reserved-requires-in-Client
push_reserved-requires-in-Client c =
    let left : Left = c.args.self.now in
    let less : length left.clients.items < vec_capacity left.clients =
    room_for_client c.requires.0 c.requires.1 c.args.actor left c.requires.2 c.in-Client.calls (subst (Leaves c.args.actor) c.in-Client.is c.leave-turns.ensures.leaves) in
    omega (arith, less, left.clients.ok.0)

pub push_reserved-requires-in-Repairer : goal.push_reserved-requires-in-Repairer
push_reserved-requires-in-Repairer c =
    let left : Left = c.args.self.now in
    let less : length left.repairers.items < vec_capacity left.repairers =
    room_for_repairer c.requires.0 c.requires.1 c.args.actor left c.requires.2 c.in-Repairer.calls (subst (Leaves c.args.actor) c.in-Repairer.is c.leave-turns.ensures.leaves) in
    omega (arith, less, left.repairers.ok.0)

pub returns-in-Client : goal.returns-in-Client
returns-in-Client c store done next =
    let left : Left = c.args.self.now in
    let now : Left = record { clients = c.push_reserved-in-Client.new.self; repairers = left.repairers; sweeper = left.sweeper; directory = c.push_reserved.new.self; rows = c.push_reserved-2.new.self } in
    client_leaves store done c.args.actor left now next
    (room_stays store.script.now left now next.left_is.room c.push_reserved-in-Client.ensures.capacity refl c.push_reserved.ensures.capacity c.push_reserved-2.ensures.capacity)
    (c.push_reserved.ensures.items ∙ ap (λ (t : Turns). left.directory.items ++ t.directory ∷ []) c.leave-turns.ensures.turns)
    (c.push_reserved-2.ensures.items ∙ ap (λ (t : Turns). left.rows.items ++ t.servers ∷ []) c.leave-turns.ensures.turns) c.in-Client.calls
    (subst (Leaves c.args.actor) c.in-Client.is c.leave-turns.ensures.leaves) c.push_reserved-in-Client.ensures.items refl

pub returns-in-Repairer : goal.returns-in-Repairer
returns-in-Repairer c store done next =
    let left : Left = c.args.self.now in
    let now : Left = record { clients = left.clients; repairers = c.push_reserved-in-Repairer.new.self; sweeper = left.sweeper; directory = c.push_reserved.new.self; rows = c.push_reserved-2.new.self } in
    repairer_leaves store done c.args.actor left now next
    (room_stays store.script.now left now next.left_is.room refl c.push_reserved-in-Repairer.ensures.capacity c.push_reserved.ensures.capacity c.push_reserved-2.ensures.capacity)
    (c.push_reserved.ensures.items ∙ ap (λ (t : Turns). left.directory.items ++ t.directory ∷ []) c.leave-turns.ensures.turns)
    (c.push_reserved-2.ensures.items ∙ ap (λ (t : Turns). left.rows.items ++ t.servers ∷ []) c.leave-turns.ensures.turns) c.in-Repairer.calls
    (subst (Leaves c.args.actor) c.in-Repairer.is c.leave-turns.ensures.leaves) c.push_reserved-in-Repairer.ensures.items refl

pub returns-in-Sweeper : goal.returns-in-Sweeper
returns-in-Sweeper c store done next =
    let left : Left = c.args.self.now in
    let now : Left = record { clients = left.clients; repairers = left.repairers; sweeper = c.in-Sweeper.sweeper; directory = c.push_reserved.new.self; rows = c.push_reserved-2.new.self } in
    sweeper_leaves store done c.args.actor left now next
    (room_stays store.script.now left now next.left_is.room refl refl c.push_reserved.ensures.capacity c.push_reserved-2.ensures.capacity)
    (c.push_reserved.ensures.items ∙ ap (λ (t : Turns). left.directory.items ++ t.directory ∷ []) c.leave-turns.ensures.turns)
    (c.push_reserved-2.ensures.items ∙ ap (λ (t : Turns). left.rows.items ++ t.servers ∷ []) c.leave-turns.ensures.turns) c.in-Sweeper.sweeper
    (subst (Leaves c.args.actor) c.in-Sweeper.is c.leave-turns.ensures.leaves) refl refl refl

pub returns-in-Operator : goal.returns-in-Operator
returns-in-Operator c store done next =
    let left : Left = c.args.self.now in
    let now : Left = record { clients = left.clients; repairers = left.repairers; sweeper = left.sweeper; directory = c.push_reserved.new.self; rows = c.push_reserved-2.new.self } in
    operator_leaves store done c.args.actor left now next
    (room_stays store.script.now left now next.left_is.room refl refl c.push_reserved.ensures.capacity c.push_reserved-2.ensures.capacity)
    (c.push_reserved.ensures.items ∙ ap (λ (t : Turns). left.directory.items ++ t.directory ∷ []) c.leave-turns.ensures.turns)
    (c.push_reserved-2.ensures.items ∙ ap (λ (t : Turns). left.rows.items ++ t.servers ∷ []) c.leave-turns.ensures.turns)
    (subst (Leaves c.args.actor) c.in-Operator.is c.leave-turns.ensures.leaves) refl refl refl

use Rattle.std.proofs.Common.{◌≤◌, length, refl, arith}
use Rattle.std.proofs.lemmas.List.{length-take}
use Rattle.gathering.proofs.Keeping.{late_keeps, fetch_keeps}
use Rattle.gathering.proofs.Missed.{miss_fetch, miss_look, miss_repair, miss_whole, miss_absent, miss_away}
use Rattle.gathering.proofs.position.after_missing.Goals as goal

pub returns-in-Fetch-clause-room : goal.returns-in-Fetch-clause-room
returns-in-Fetch-clause-room c = c.or_too_many.ensures.room

pub returns-in-Fetch-clause-stage : goal.returns-in-Fetch-clause-stage
returns-in-Fetch-clause-stage c =
    miss_fetch c.args.g c.args.first.now c.args.gone.now c.args.found c.args.p c.on_fetch.result c.or_too_many.result c.in-Fetch.at c.in-Fetch.is c.or_too_many.ensures.value c.on_fetch.ensures.stage

pub returns-in-Fetch-clause-aim : goal.returns-in-Fetch-clause-aim
returns-in-Fetch-clause-aim c = fetch_keeps c.args.p c.or_too_many.result c.in-Fetch.at c.in-Fetch.is (c.or_too_many.ensures.no_target c.on_fetch.ensures.late)

pub returns-in-Fetch-clause-placed : goal.returns-in-Fetch-clause-placed
returns-in-Fetch-clause-placed c = c.or_too_many.ensures.placed (length c.args.first.now) (length c.args.gone.now) c.on_fetch.ensures.placed

pub returns-in-Look-clause-room : goal.returns-in-Look-clause-room
returns-in-Look-clause-room c = c.or_too_many-in-Look.ensures.room

pub returns-in-Look-clause-stage : goal.returns-in-Look-clause-stage
returns-in-Look-clause-stage c =
    miss_look c.args.g c.args.first.now c.args.gone.now c.args.found c.args.p c.on_look.result c.or_too_many-in-Look.result c.in-Look.server c.in-Look.is c.or_too_many-in-Look.ensures.value c.on_look.ensures.stage

pub returns-in-Look-clause-aim : goal.returns-in-Look-clause-aim
returns-in-Look-clause-aim c = late_keeps c.args.p c.or_too_many-in-Look.result (c.or_too_many-in-Look.ensures.late c.on_look.ensures.late)

pub returns-in-Look-clause-placed : goal.returns-in-Look-clause-placed
returns-in-Look-clause-placed c =
    c.or_too_many-in-Look.ensures.placed (length c.args.first.now) (length c.args.gone.now) (c.on_look.ensures.placed (length c.args.first.now))

pub returns-in-Repair-clause-room : goal.returns-in-Repair-clause-room
returns-in-Repair-clause-room c = c.or_too_many-in-Repair.ensures.room

pub returns-in-Repair-clause-stage : goal.returns-in-Repair-clause-stage
returns-in-Repair-clause-stage c =
    miss_repair c.args.g c.args.first.now c.args.gone.now c.args.found c.args.p c.on_whole.result c.or_too_many-in-Repair.result c.in-Repair.server c.k.result c.in-Repair.is c.or_too_many-in-Repair.ensures.value
    c.k.ensures.value c.on_whole.ensures.stage

pub returns-in-Repair-clause-aim : goal.returns-in-Repair-clause-aim
returns-in-Repair-clause-aim c = late_keeps c.args.p c.or_too_many-in-Repair.result (c.or_too_many-in-Repair.ensures.late c.on_whole.ensures.late)

pub returns-in-Repair-clause-placed : goal.returns-in-Repair-clause-placed
returns-in-Repair-clause-placed c =
    c.or_too_many-in-Repair.ensures.placed (length c.args.first.now) (length c.args.gone.now)
    (c.on_whole.ensures.placed (length c.args.first.now) (length c.args.gone.now) (omega arith))

pub returns-in-Whole-clause-room : goal.returns-in-Whole-clause-room
returns-in-Whole-clause-room c = c.or_too_many-in-Whole.ensures.room

pub returns-in-Whole-clause-stage : goal.returns-in-Whole-clause-stage
returns-in-Whole-clause-stage c =
    miss_whole c.args.g c.args.first.now c.args.gone.now c.args.found c.args.p c.on_whole-next.result c.or_too_many-in-Whole.result c.in-Whole.server c.in-Whole.wanted c.in-Whole.counted _ c.in-Whole.is
    c.or_too_many-in-Whole.ensures.value refl c.on_whole-next.ensures.stage

pub returns-in-Whole-clause-aim : goal.returns-in-Whole-clause-aim
returns-in-Whole-clause-aim c = late_keeps c.args.p c.or_too_many-in-Whole.result (c.or_too_many-in-Whole.ensures.late c.on_whole-next.ensures.late)

pub returns-in-Whole-clause-placed : goal.returns-in-Whole-clause-placed
returns-in-Whole-clause-placed c =
    c.or_too_many-in-Whole.ensures.placed (length c.args.first.now) (length c.args.gone.now)
    (c.on_whole-next.ensures.placed (length c.args.first.now) (length c.args.gone.now) (omega (arith, length-take c.in-Whole.counted c.args.gone.now)))

pub returns-in-Absent-clause-placed : goal.returns-in-Absent-clause-placed
returns-in-Absent-clause-placed c = c.on_look-in-Absent.ensures.placed (length c.args.first.now)

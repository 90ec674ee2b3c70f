use Rattle.write_course.proofs.Placements.{noted_here, noted_away}
use Rattle.write_course.proofs.course_placing.note_placement.Goals as goal

pub returns-in-Skipped-clause-away : goal.returns-in-Skipped-clause-away
returns-in-Skipped-clause-away c =
    noted_away c.args.row.now.items c.push_reserved.new.self.items c.args.away.now.items c.push_reserved-in-Skipped.new.self.items c.args.placement c.args.server c.in-Skipped.downs
    c.requires.next c.requires.away c.in-Skipped.is c.push_reserved.ensures.items c.push_reserved-in-Skipped.ensures.items

pub returns-in_default-clause-away : goal.returns-in_default-clause-away
returns-in_default-clause-away c =
    noted_here c.args.row.now.items c.push_reserved.new.self.items c.args.away.now.items c.args.placement c.in_default.field-0
    c.requires.away c.in_default.is c.push_reserved.ensures.items

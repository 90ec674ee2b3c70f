use Rattle.std.proofs.Common.{rules, is_err, sym, ◌∙◌}
use Rattle.store_core.specs.Act.{DirectoryStep}
use Rattle.store_core.specs.Tokens.{actor_of}
use Rattle.stripe_dir.specs.Answers.{told_repair_look, told_or_short}
use Rattle.stripe_dir.specs.Shown.{repair_note}
use Rattle.dir_tickets.specs.TicketView.{token_at}
use Rattle.dir_tickets.proofs.Agreeing.{agrees_after, made_seated}
use Rattle.dir_tickets.proofs.ShownRows.{shown_by_repair}
use Rattle.dir_tickets.proofs.ticket.Ticket.look_repair.Goals as goal

pub returns-clause-step : goal.returns-clause-step
returns-clause-step c =
    made_seated c.args.number (DirectoryStep.LookRepair (repair_note c.args.name.now c.args.stripe)) c.args.directory.now.core c.look_repair.new.self.core c.args.self.now (is_err c.look_repair.result) (is_err c.split_repair_look-held.result.1) (sym c.split_repair_look-held.ensures.short) (told_or_short told_repair_look c.look_repair.result) (told_or_short told_repair_look c.split_repair_look-held.result.1) (sym c.split_repair_look-held.ensures.told) c.take_seat-seat.result
    (c.take_seat-seat.ensures.seat ∙ c.self.view_is) c.look_repair.ensures.step

pub returns-clause-token : goal.returns-clause-token
returns-clause-token c = search rules

pub returns-clause-agrees : goal.returns-clause-agrees
returns-clause-agrees c =
    agrees_after (is_err c.split_repair_look-held.result.1) c.args.number c.args.directory.now.core c.keeps.ensures.bytes c.keeps.ensures.whole.sound c.look_repair.new.self.core (told_or_short told_repair_look c.split_repair_look-held.result.1) (token_at c.put.new.place) c.args.self.now
    (DirectoryStep.LookRepair (repair_note c.args.name.now c.args.stripe)) c.requires.agrees c.requires.may (returns-clause-step c) (returns-clause-token c)

pub returns-clause-seen : goal.returns-clause-seen
returns-clause-seen c =
    shown_by_repair c.args.directory.now c.keeps.ensures.bytes c.keeps.ensures.whole.sound c.keeps.ensures.stamps (actor_of c.args.self.now) c.args.number c.args.name.now c.args.stripe c.look_repair.new.self.core c.split_repair_look-held.result.1 (returns-clause-step c)
    (c.split_repair_look-held.ensures.seen c.args.directory.now.stamps c.look_repair.ensures.seen)

use Rattle.std.proofs.Common.{rules, is_err, sym, ◌∙◌}
use Rattle.store_core.specs.Note.{note_of}
use Rattle.store_core.specs.Act.{DirectoryStep}
use Rattle.store_core.specs.Tokens.{actor_of}
use Rattle.stripe_dir.specs.Answers.{told_look, told_or_short}
use Rattle.dir_tickets.specs.TicketView.{token_at}
use Rattle.dir_tickets.proofs.Agreeing.{agrees_after, made_seated}
use Rattle.dir_tickets.proofs.ShownRows.{shown_by_look}
use Rattle.dir_tickets.proofs.ticket.Ticket.look.Goals as goal

pub returns-clause-step : goal.returns-clause-step
returns-clause-step c =
    made_seated c.args.number (DirectoryStep.Look (note_of c.args.call.now)) c.args.directory.now.core c.look.new.self.core c.args.self.now (is_err c.look.result) (is_err c.split_look-held.result.1) (sym c.split_look-held.ensures.short) (told_or_short told_look c.look.result) (told_or_short told_look c.split_look-held.result.1) (sym c.split_look-held.ensures.told) c.take_seat-seat.result
    (c.take_seat-seat.ensures.seat ∙ c.self.view_is) c.look.ensures.step

pub returns-clause-token : goal.returns-clause-token
returns-clause-token c = search rules

pub returns-clause-agrees : goal.returns-clause-agrees
returns-clause-agrees c =
    agrees_after (is_err c.split_look-held.result.1) c.args.number c.args.directory.now.core c.keeps.ensures.bytes c.keeps.ensures.whole.sound c.look.new.self.core (told_or_short told_look c.split_look-held.result.1) (token_at c.put.new.place) c.args.self.now
    (DirectoryStep.Look (note_of c.args.call.now)) c.requires.agrees c.requires.may (returns-clause-step c) (returns-clause-token c)

pub returns-clause-seen : goal.returns-clause-seen
returns-clause-seen c =
    shown_by_look c.args.directory.now c.keeps.ensures.bytes c.keeps.ensures.whole.sound c.keeps.ensures.stamps (actor_of c.args.self.now) c.args.number (note_of c.args.call.now) c.look.new.self.core c.split_look-held.result.1 (returns-clause-step c)
    (c.split_look-held.ensures.seen c.args.directory.now.stamps c.look.ensures.seen)

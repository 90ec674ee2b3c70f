use Rattle.std.proofs.Common.{rules, false, refl, sym, ◌∙◌}
use Rattle.store_core.specs.Act.{DirectoryStep}
use Rattle.stripe_dir.specs.Answers.{told_ended}
use Rattle.dir_tickets.specs.TicketView.{token_at}
use Rattle.dir_tickets.proofs.Agreeing.{agrees_after, made_in_call}
use Rattle.dir_tickets.proofs.ticket.Ticket.end.Goals as goal

pub returns-clause-step : goal.returns-clause-step
returns-clause-step c =
    made_in_call c.args.number DirectoryStep.End c.args.directory.now.core c.end.new.self.core c.args.self.now false false refl (told_ended c.end.result) (told_ended c.split_ended-held.result.1) (sym c.split_ended-held.ensures.told) c.take_pass-pass.result
    (c.take_pass-pass.ensures.pass ∙ c.self.view_is) c.requires.may c.end.ensures.step

pub returns-clause-token : goal.returns-clause-token
returns-clause-token c = search rules

pub returns-clause-agrees : goal.returns-clause-agrees
returns-clause-agrees c =
    agrees_after false c.args.number c.args.directory.now.core c.keeps.ensures.bytes c.keeps.ensures.whole.sound c.end.new.self.core (told_ended c.split_ended-held.result.1) (token_at c.put.new.place) c.args.self.now
    DirectoryStep.End c.requires.agrees c.requires.may (returns-clause-step c) (returns-clause-token c)

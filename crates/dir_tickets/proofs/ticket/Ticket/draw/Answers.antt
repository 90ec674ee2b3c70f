use Rattle.std.proofs.Common.{rules, IfOk, ap, subst, ◌∙◌, is_err, option_map, sym}
use Rattle.store_core.specs.Act.{DirectoryStep}
use Rattle.stripe_dir.specs.Answers.{told_drawn, told_or_short}
use Rattle.store_core.specs.Agreement.{HeldPass}
use Rattle.stripe_dir.specs.AnswerStamps.{IfDrawn}
use Rattle.dir_tickets.specs.TicketView.{token_at}
use Rattle.dir_tickets.proofs.Agreeing.{agrees_after, made_in_call}
use Rattle.dir_tickets.proofs.TicketDraws.{held_or, if_drawn}
use Rattle.dir_tickets.proofs.ticket.Ticket.draw.Goals as goal

pub returns-clause-step : goal.returns-clause-step
returns-clause-step c =
    made_in_call c.args.number DirectoryStep.Draw c.args.directory.now.core c.draw.new.self.core c.args.self.now (is_err c.draw.result) (is_err c.split_drawn-held.result.1) (sym c.split_drawn-held.ensures.short) (told_or_short told_drawn c.draw.result) (told_or_short told_drawn c.split_drawn-held.result.1) (sym c.split_drawn-held.ensures.told) c.take_pass-pass.result
    (c.take_pass-pass.ensures.pass ∙ c.self.view_is) c.requires.may c.draw.ensures.step

pub returns-clause-token : goal.returns-clause-token
returns-clause-token c = search rules

pub returns-clause-agrees : goal.returns-clause-agrees
returns-clause-agrees c =
    agrees_after (is_err c.split_drawn-held.result.1) c.args.number c.args.directory.now.core c.keeps.ensures.bytes c.keeps.ensures.whole.sound c.draw.new.self.core (told_or_short told_drawn c.split_drawn-held.result.1) (token_at c.put.new.place) c.args.self.now
    DirectoryStep.Draw c.requires.agrees c.requires.may (returns-clause-step c) (returns-clause-token c)

pub returns-clause-drawn : goal.returns-clause-drawn
returns-clause-drawn c = λ held is.
    subst (λ (h : HeldPass). IfOk c.split_drawn-held.result.1 (IfDrawn c.args.directory.now h (option_map (λ r. r.now) c.args.request)))
    (ap (held_or held) (c.take_pass-pass.ensures.pass ∙ c.self.view_is ∙ is))
    (if_drawn c.args.directory.now c.take_pass-pass.result (option_map (λ r. r.now) c.args.request) c.split_drawn-held.result.1
    (c.split_drawn-held.ensures.drawn c.args.directory.now c.take_pass-pass.result.pass (option_map (λ r. r.now) c.args.request) c.draw.ensures.drawn))

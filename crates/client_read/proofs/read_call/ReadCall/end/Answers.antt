use Rattle.std.proofs.Common.{◌≡◌, true, sym, ap, subst, ◌∙◌}
use Rattle.store_core.specs.Note.{note_of}
use Rattle.store_core.specs.Act.{DirectoryStep}
use Rattle.store_core.specs.Tokens.{actor_of}
use Rattle.call_steps.specs.TokenAfter.{token_after, IsSeated}
use Rattle.call_steps.specs.Steps.{need_of}
use Rattle.stripe_dir.specs.Answers.{told_ended}
use Rattle.client_read.specs.Reads.{ReadOf}
use Rattle.call_steps.specs.Callers.{IsClient}
use Rattle.call_steps.specs.Ends.{is_ending}
use Rattle.client_read.specs.Stages.{state_by}
use Rattle.client_read.specs.Inside.{Keeps, IsHolding}
use Rattle.client_read.specs.declared.read_stage.ReadStage.{ReadStage}
use Rattle.client_read.proofs.Standings.{ends_holding, ended_keeps}
use Rattle.call_steps.specs.declared.answer.DirectoryAnswer.TheVariants as there
use Rattle.call_steps.specs.Answers.{directory_answer}
use Rattle.client_read.specs.Inside.{read_in}
use Rattle.client_read.proofs.Closing.{end_seated, end_client}
use Rattle.call_steps.proofs.Telling.{end_tells}
use Rattle.client_read.proofs.read_call.ReadCall.end.Goals as goal

pub invariant_of-self : goal.invariant_of-self
invariant_of-self c =
    let a = c.self.inside in
    let ending : is_ending (state_by a.stage a.gatherings a.point a.outcome) ≡ true = ap (λ (r : ReadOf). is_ending r.call.state.at) c.self.view_is ∙ c.requires.ending in
    let holds : IsHolding a.number (note_of a.call.now) a.ticket = ends_holding a.call.now a.number a.ticket a.gatherings a.point a.outcome c.self.invariant.read a.stage c.self.invariant.kept ending in
    let token : c.end-answer.new.self ≡ token_after a.ticket a.number DirectoryStep.End (told_ended c.end-answer.result) = c.end-answer.ensures.token in
    let ended = token ∙ ap (λ answer. token_after a.ticket a.number DirectoryStep.End (told_ended answer)) c.in-Ended.is in
    record {
      read = c.self.invariant.read;
      client = subst (λ token. IsClient (actor_of token)) (sym ended) (end_client a.ticket a.number (note_of a.call.now) holds c.self.invariant.client);
      plain = c.self.invariant.plain;
      kept =
          subst (λ (s : ReadStage). Keeps s a.number (note_of a.call.now) c.end-answer.new.self a.gatherings) (sym c.after_end-self-inside.ensures)
          (ended_keeps a.call.now a.number a.ticket a.gatherings a.point a.outcome c.self.invariant.read c.end-answer.new.self a.stage c.self.invariant.kept ending
          (ap (λ (r : ReadOf). need_of r.call) c.self.view_is ∙ c.requires.need)
          (subst IsSeated (sym ended) (end_seated a.ticket a.number (note_of a.call.now) holds)));
    }

pub returns-in-Ended-clause-told : goal.returns-in-Ended-clause-told
returns-in-Ended-clause-told c =
    let a = c.self.inside in
    end_tells (read_in a).call c.args.self.now.call c.args.directory.now.core c.end-answer.new.directory.core (told_ended c.end-answer.result) there.Ended (ap (λ (r : ReadOf). r.call) c.self.view_is)
    c.requires.ending c.end-answer.ensures.step (ap (λ answer. directory_answer (told_ended answer)) c.in-Ended.is)

pub returns-in-Reaped-clause-told : goal.returns-in-Reaped-clause-told
returns-in-Reaped-clause-told c =
    let a = c.self.inside in
    end_tells (read_in a).call c.args.self.now.call c.args.directory.now.core c.end-answer.new.directory.core (told_ended c.end-answer.result) (there.Reaped c.in-Reaped.at)
    (ap (λ (r : ReadOf). r.call) c.self.view_is) c.requires.ending c.end-answer.ensures.step (ap (λ answer. directory_answer (told_ended answer)) c.in-Reaped.is)

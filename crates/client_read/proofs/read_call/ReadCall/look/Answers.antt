use Rattle.std.proofs.Common.{Bool, [], refl, sym, ap, subst, ◌∙◌}
use Rattle.store_core.specs.Note.{note_of}
use Rattle.store_core.specs.Act.{DirectoryStep}
use Rattle.store_core.specs.AtDirectory.{at_directory}
use Rattle.gather_parts.specs.Gatherings.{owed}
use Rattle.store_core.specs.Tokens.{actor_of}
use Rattle.version_seal.specs.Entry.{BookOf}
use Rattle.call_steps.specs.CallOf.{tries_by}
use Rattle.call_steps.specs.Steps.{stepped_at_directory}
use Rattle.client_read.specs.Reads.{ReadOf}
use Rattle.call_steps.specs.Callers.{IsClient}
use Rattle.client_read.specs.Stages.{state_by, due_by}
use Rattle.client_read.specs.Owed.{owed_after}
use Rattle.client_read.specs.Inside.{read_in, Keeps}
use Rattle.client_read.proofs.Standings.{waits_first}
use Rattle.call_steps.proofs.Telling.{there, by_act_there}
use Rattle.client_read.proofs.Acting.{first_act}
use Rattle.client_read.proofs.Looking.{looked, may_look, look_fits, kept_looked, client_looked, look_step, look_owed, all_own}
use Rattle.client_read.proofs.read_call.ReadCall.look.Goals as goal

pub look-answer-requires-clause-may : goal.look-answer-requires-clause-may
look-answer-requires-clause-may c =
    let a = c.self.inside in
    may_look c.args.directory.now.core a.ticket a.number a.call.now c.self.invariant.read c.self.invariant.client
    (waits_first a c.self.invariant (ap (λ (r : ReadOf). r.call.state.at) c.self.view_is ∙ c.requires.first))

pub after_look-looked-requires-clause-fits : goal.after_look-looked-requires-clause-fits
after_look-looked-requires-clause-fits c =
    let a = c.self.inside in
    look_fits _ (actor_of a.ticket) a.number (note_of a.call.now) c.args.directory.now.core c.look-answer.new.directory.core _ c.look-answer.ensures.step

pub invariant_of-self : goal.invariant_of-self
invariant_of-self c =
    let a = c.self.inside in
    let waits = waits_first a c.self.invariant (ap (λ (r : ReadOf). r.call.state.at) c.self.view_is ∙ c.requires.first) in
    let next = c.after_look-looked in
    let fits = look_fits _ (actor_of a.ticket) a.number (note_of a.call.now) c.args.directory.now.core c.look-answer.new.directory.core _ c.look-answer.ensures.step in
    record {
      read = c.self.invariant.read;
      client = subst (λ token. IsClient (actor_of token)) (sym c.look-answer.ensures.token)
          (client_looked c.look-answer.result a.number (note_of a.call.now) a.ticket waits c.self.invariant.client);
      plain = next.ensures.plain;
      kept = subst (λ token. Keeps next.result.stage a.number (note_of a.call.now) token next.new.gatherings) (sym c.look-answer.ensures.token)
          (kept_looked c.look-answer.result next.result.stage a.call.now a.number a.ticket next.new.gatherings c.self.invariant.read fits waits next.ensures.kept);
    }

pub returns-clause-step : goal.returns-clause-step
returns-clause-step c =
    let a = c.self.inside in
    let d = c.args.directory.now.core in
    let next = c.after_look-looked in
    let short : Bool = c.is_err-self-inside.result in
    let due : Bool = due_by next.result.stage next.new.gatherings in
    look_step (read_in a).call a.call.now c.self.invariant.read refl (ap (λ at. record { pairs = []; at = at }) (ap (λ (r : ReadOf). r.call.state.at) c.self.view_is ∙ c.requires.first))
    d c.look-answer.new.directory.core short c.look-answer.result
    (c.look-answer.ensures.step ∙ ap (λ s. at_directory s (actor_of a.ticket) a.number (DirectoryStep.Look (note_of a.call.now)) d) (sym c.is_err-self-inside.ensures.value))
    due c.look-answer.new.self (state_by next.result.stage next.new.gatherings next.result.point next.result.outcome) next.new.gatherings.book (tries_by next.new.gatherings.book.script) next.new.gatherings.takes
    c.look-answer.ensures.token next.ensures.state next.ensures.book (ap (λ (book : BookOf). tries_by book.script) next.ensures.book) next.ensures.takes
    ∙ ap (λ (r : ReadOf). stepped_at_directory short due r.call d) c.self.view_is

pub returns-clause-owed : goal.returns-clause-owed
returns-clause-owed c =
    let a = c.self.inside in
    let d = c.args.directory.now in
    let next = c.after_look-looked in
    let short : Bool = c.is_err-self-inside.result in
    next.ensures.owed d.stamps (all_own d c.look-answer.result c.look-answer.ensures.seen)
    ∙ look_owed (read_in a).call a.call.now c.self.invariant.read refl (ap (λ at. record { pairs = []; at = at }) (ap (λ (r : ReadOf). r.call.state.at) c.self.view_is ∙ c.requires.first))
    d.core c.look-answer.new.directory.core short c.look-answer.result
    (c.look-answer.ensures.step ∙ ap (λ s. at_directory s (actor_of a.ticket) a.number (DirectoryStep.Look (note_of a.call.now)) d.core) (sym c.is_err-self-inside.ensures.value))
    (owed a.gatherings) d refl
    ∙ ap (λ (r : ReadOf). owed_after short r.call d r.owed) c.self.view_is

pub returns-clause-told : goal.returns-clause-told
returns-clause-told c =
    let a = c.self.inside in
    let d = c.args.directory.now.core in
    let short : Bool = c.is_err-self-inside.result in
    there (read_in a).call c.args.self.now.call d short (looked c.look-answer.result) c.after_look-looked.result.told (ap (λ (r : ReadOf). r.call) c.self.view_is)
    (by_act_there (read_in a).call d c.look-answer.new.directory.core short (DirectoryStep.Look (note_of a.call.now)) (looked c.look-answer.result)
    (first_act a c.self.invariant (ap (λ (r : ReadOf). r.call.state.at) c.self.view_is ∙ c.requires.first))
    (c.look-answer.ensures.step ∙ ap (λ s. at_directory s (actor_of a.ticket) a.number (DirectoryStep.Look (note_of a.call.now)) d) (sym c.is_err-self-inside.ensures.value)))
    c.after_look-looked.ensures.told

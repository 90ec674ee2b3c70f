use Rattle.std.proofs.Common.{◌++◌, sym, ap, ◌∙◌}
use Rattle.store_core.specs.Directory.{Directory}
use Rattle.call_steps.specs.CallOf.{CallOf}
use Rattle.call_steps.specs.Steps.{need_of, stepped_at_directory}
use Rattle.call_steps.specs.Answers.{directory_answer}
use Rattle.call_steps.specs.Hearing.{told_there}
use Rattle.client_patch.specs.Patches.{stamps_drawn}
use Rattle.client_patch.proofs.OfWrites.{not_both}
use Rattle.client_put.specs.Puts.{PutOf}
use Rattle.client_put.specs.Inside.{by_script}
use Rattle.client_put.proofs.Tries.{needs_so, directory_so, stamps_so, there_so}
use Rattle.client_put.proofs.put.PutCall.on_directory.Goals as goal

pub advance-requires-clause-need : goal.advance-requires-clause-need
advance-requires-clause-need c =
    needs_so c.self.inside.patch.call (c.keeps.ensures.kind c.self.invariant) ∙ ap (λ (p : PutOf). need_of p.call) c.self.view_is ∙ c.requires.need

pub advance-requires-clause-padded : goal.advance-requires-clause-padded
advance-requires-clause-padded c = λ write. absurd (not_both c.self.inside.patch.written c.self.invariant write)

pub advance-requires-clause-knows : goal.advance-requires-clause-knows
advance-requires-clause-knows c = λ write. absurd (not_both c.self.inside.patch.written c.self.invariant write)

pub returns-clause-step : goal.returns-clause-step
returns-clause-step c =
    let now = c.advance.new.self.call in
    ap (λ (x : Directory × CallOf). (x.0, by_script x.1)) c.advance.ensures.step
    ∙ directory_so c.self.inside.patch.call (c.keeps.ensures.kind c.self.invariant) now.step now.due c.args.directory.now.core
    ∙ ap (λ (p : PutOf). stepped_at_directory now.step now.due p.call c.args.directory.now.core) c.self.view_is

pub returns-clause-stamps : goal.returns-clause-stamps
returns-clause-stamps c =
    let now = c.advance.new.self.call in
    let d = c.args.directory.now in
    c.advance.ensures.stamps
    ∙ ap (λ stamps. d.stamps ++ stamps)
    (stamps_so c.self.inside.patch.call (c.keeps.ensures.kind c.self.invariant) now.step d c.self.inside.patch.written
    ∙ ap (λ (p : PutOf). stamps_drawn now.step d p.call p.written) c.self.view_is)

pub returns-clause-told : goal.returns-clause-told
returns-clause-told c =
    let now = c.advance.new.self.call in
    let d = c.args.directory.now.core in
    ap directory_answer
    (sym (there_so c.self.inside.patch.call (c.keeps.ensures.kind c.self.invariant) now.step d ∙ ap (λ (p : PutOf). told_there now.step p.call d) c.self.view_is))
    ∙ c.advance.ensures.told

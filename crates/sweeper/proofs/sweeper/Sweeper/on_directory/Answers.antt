use Rattle.std.proofs.Common.{◌≡◌, Option, Some, sym, ap, subst, ◌∙◌}
use Rattle.store_map.specs.declared.actor.Version.{Version}
use Rattle.sweeper.specs.Sweeps.{SweeperOf, new_sweeper, need_of, stepped_at_directory, told_at_directory}
use Rattle.call_steps.specs.declared.answer.DirectoryAnswer.TheVariants as there
use Rattle.call_steps.specs.Answers.{directory_answer}
use Rattle.sweeper.proofs.Standing.{stands, sweeping, swept_stepped, taken_stepped, swept_told, taken_told}
use Rattle.sweeper.proofs.sweeper.Sweeper.on_directory.Goals as goal

pub returns-in-Some-clause-step : goal.returns-in-Some-clause-step
returns-in-Some-clause-step c = λ who number.
    let a = c.self.inside in
    let is : sweeping a.servers c.in-Some.version.0 a.server ≡ c.args.self.now = sym (sym c.self.view_is ∙ ap (λ (version : Option Version). stands a.servers version a.server) c.in-Some.is) in
    subst (λ (w : SweeperOf). (c.swept.new.self.core, new_sweeper a.servers) ≡ stepped_at_directory who number w c.args.d.now.core) is
    (swept_stepped who number a.servers c.in-Some.version.0 a.server c.args.d.now.core c.swept.new.self.core (ap need_of is ∙ c.requires) (c.swept.ensures.step who number))

pub returns-in-None-clause-step : goal.returns-in-None-clause-step
returns-in-None-clause-step c = λ who number.
    let a = c.self.inside in
    let taken = c.next_garbage-taken in
    let is : new_sweeper a.servers ≡ c.args.self.now = sym (sym c.self.view_is ∙ ap (λ (version : Option Version). stands a.servers version a.server) c.in-None.is) in
    subst (λ (w : SweeperOf). (taken.new.self.core, stands a.servers taken.result 0) ≡ stepped_at_directory who number w c.args.d.now.core) is
    (taken_stepped who number a.servers taken.result c.args.d.now.core taken.new.self.core (taken.ensures.step who number))

pub returns-in-Some-clause-told : goal.returns-in-Some-clause-told
returns-in-Some-clause-told c = λ who number.
    let a = c.self.inside in
    let is : sweeping a.servers c.in-Some.version.0 a.server ≡ c.args.self.now = sym (sym c.self.view_is ∙ ap (λ (version : Option Version). stands a.servers version a.server) c.in-Some.is) in
    subst (λ (w : SweeperOf). directory_answer (told_at_directory who number w c.args.d.now.core) ≡ Some there.Made) is
    (swept_told who number a.servers c.in-Some.version.0 a.server c.args.d.now.core c.swept.new.self.core (ap need_of is ∙ c.requires) (c.swept.ensures.step who number))

pub returns-in-None-clause-told : goal.returns-in-None-clause-told
returns-in-None-clause-told c = λ who number.
    let a = c.self.inside in
    let taken = c.next_garbage-taken in
    let is : new_sweeper a.servers ≡ c.args.self.now = sym (sym c.self.view_is ∙ ap (λ (version : Option Version). stands a.servers version a.server) c.in-None.is) in
    subst (λ (w : SweeperOf). directory_answer (told_at_directory who number w c.args.d.now.core) ≡ Some (there.Taken taken.result)) is
    (taken_told who number a.servers taken.result c.args.d.now.core taken.new.self.core (taken.ensures.step who number))

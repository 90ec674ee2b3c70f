use Rattle.std.proofs.Common.{◌≡◌, ◌<◌, true, vec_capacity, map, refl, ap, subst, sym, ◌∙◌}
use Rattle.std.proofs.lemmas.List.{length-map}
use Rattle.clay_grid.specs.Shape.{chunk_count}
use Rattle.store_core.specs.Lists.{places_of}
use Rattle.store_core.specs.Told.{Told}
use Rattle.store_core.specs.Act.{DirectoryStep}
use Rattle.store_core.specs.Agreement.{Agrees}
use Rattle.store_core.specs.Tokens.{actor_of}
use Rattle.run_laws.specs.States.{settle_state}
use Rattle.version_seal.specs.Entry.{BookOf}
use Rattle.stripe_dir.specs.Answers.{told_committed}
use Rattle.call_steps.specs.declared.answer.DirectoryAnswer.TheVariants as there
use Rattle.call_steps.specs.Answers.{directory_answer}
use Rattle.write_course.specs.Writings.{WritingOf, versions_of}
use Rattle.client_patch.specs.Patches.{PatchOf, is_write}
use Rattle.client_patch.specs.Inside.{pairs_in}
use Rattle.write_course.proofs.Tokens.{token_stays}
use Rattle.client_patch.proofs.Commits.{commit_tells, commit_may, told_change, commit_room, writing_commits, done_kept, done_step}
use Rattle.client_patch.proofs.patch.PatchCall.commit.Goals as goal

pub rows-rows-requires : goal.rows-rows-requires
rows-rows-requires c = writing_commits c.self.inside c.self.invariant c.args.self.now c.self.view_is c.requires.committing

pub commit-answer-requires-clause-may : goal.commit-answer-requires-clause-may
commit-answer-requires-clause-may c =
    commit_may c.self.inside c.self.invariant c.args.self.now c.self.view_is c.requires.committing c.args.directory.now.core (map (λ row. row.items) c.rows-rows.result.items)
    (sym c.keeps.ensures.stamps.code ∙ ap (λ (book : BookOf). book.geometry) (c.requires.its ∙ sym (ap (λ (p : PatchOf). p.call.book) c.self.view_is)))
    (length-map c.rows-rows.result.items (λ row. row.items) ∙ c.rows-rows.ensures.count) c.rows-rows.ensures.whole

pub invariant_of-self : goal.invariant_of-self
invariant_of-self c =
    let a = c.self.inside in
    let kept = c.self.invariant in
    let placed = map (λ row. row.items) c.rows-rows.result.items in
    let writing = c.committed.ensures
    ∙ ap (λ (w : WritingOf). record w { state = settle_state c.in-Done.point.0 (places_of (chunk_count w.book.geometry) (versions_of w.stamps)) }) c.rows-rows.ensures.after in
    record {
      change = kept.change;
      client = kept.client;
      actor_is = ap actor_of c.in-Done.ensures.token ∙ token_stays a.ticket a.number (DirectoryStep.Commit placed) (Told.Done c.in-Done.point.0) ∙ kept.actor_is;
      script = kept.script;
      book = kept.book;
      tries = kept.tries;
      untaken = kept.untaken;
      kept = done_kept a kept c.args.self.now c.self.view_is c.requires.committing c.in-Done.point.0 placed c.rows-rows.ensures.rows c.committed.new.self writing
          c.commit-answer.new.self c.in-Done.ensures.token _ refl;
    }

pub push_reserved-requires : goal.push_reserved-requires
push_reserved-requires c =
    let write : is_write c.self.inside.call.now ≡ true
    = told_change c.self.inside c.self.invariant c.args.self.now c.self.view_is c.requires.committing c.args.directory.now.core c.commit-answer.new.directory.core
    (map (λ row. row.items) c.rows-rows.result.items) c.in-Changed.looked_at.0 c.in-Changed.newer.0 (subst (λ (p : PatchOf). Agrees c.args.directory.now.core p.call.token) (sym c.self.view_is) c.requires.agrees) c.in-Changed.ensures.step in
    subst (λ n. n < vec_capacity c.self.inside.changes) (sym c.self.inside.changes.ok.0) (commit_room c.self.inside c.self.invariant c.args.self.now c.self.view_is c.requires.committing write)

pub returns-in-Done-clause-step : goal.returns-in-Done-clause-step
returns-in-Done-clause-step c =
    let placed = map (λ row. row.items) c.rows-rows.result.items in
    let writing = c.committed.ensures
    ∙ ap (λ (w : WritingOf). record w { state = settle_state c.in-Done.point.0 (places_of (chunk_count w.book.geometry) (versions_of w.stamps)) }) c.rows-rows.ensures.after in
    done_step c.self.inside c.self.invariant c.args.self.now c.self.view_is c.requires.committing c.in-Done.point.0 placed c.rows-rows.ensures.rows c.committed.new.self writing
    c.commit-answer.new.self c.in-Done.ensures.token c.args.directory.now.core c.commit-answer.new.directory.core (pairs_in c.clear.new.self.items) (ap pairs_in c.clear.ensures.items) c.in-Done.ensures.step

pub returns-in-Done-clause-told : goal.returns-in-Done-clause-told
returns-in-Done-clause-told c =
    commit_tells c.self.inside c.self.invariant c.args.self.now c.self.view_is c.requires.committing (map (λ row. row.items) c.rows-rows.result.items) c.rows-rows.ensures.rows
    c.args.directory.now.core c.commit-answer.new.directory.core (told_committed c.commit-answer.result) (there.Done c.in-Done.point) c.commit-answer.ensures.step
    (ap (λ answer. directory_answer (told_committed answer)) c.in-Done.is)

pub returns-in-Changed-clause-told : goal.returns-in-Changed-clause-told
returns-in-Changed-clause-told c =
    commit_tells c.self.inside c.self.invariant c.args.self.now c.self.view_is c.requires.committing (map (λ row. row.items) c.rows-rows.result.items) c.rows-rows.ensures.rows
    c.args.directory.now.core c.commit-answer.new.directory.core (told_committed c.commit-answer.result) (there.Changed c.in-Changed.looked_at c.in-Changed.newer) c.commit-answer.ensures.step
    (ap (λ answer. directory_answer (told_committed answer)) c.in-Changed.is)

pub returns-in-Reaped-clause-told : goal.returns-in-Reaped-clause-told
returns-in-Reaped-clause-told c =
    commit_tells c.self.inside c.self.invariant c.args.self.now c.self.view_is c.requires.committing (map (λ row. row.items) c.rows-rows.result.items) c.rows-rows.ensures.rows
    c.args.directory.now.core c.commit-answer.new.directory.core (told_committed c.commit-answer.result) (there.Reaped c.in-Reaped.at) c.commit-answer.ensures.step
    (ap (λ answer. directory_answer (told_committed answer)) c.in-Reaped.is)

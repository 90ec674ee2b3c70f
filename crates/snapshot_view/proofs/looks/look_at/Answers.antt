use Rattle.std.specs.Prelude.{⊤}
use Rattle.std.specs.declared.alloc.AllocError.{AllocError}
use Rattle.std.proofs.Common.{ℕ, List, [], ◌∷◌, ◌++◌, map, Result, Ok, sym, ap, subst, ◌∙◌, is_err}
use Rattle.store_core.specs.Told.{Told}
use Rattle.store_core.specs.Act.{DirectoryStep}
use Rattle.store_core.specs.Directory.{Directory}
use Rattle.store_core.specs.Lookups.{find_object}
use Rattle.stripe_stamps.specs.Sealed.{Sealed}
use Rattle.snapshot_view.specs.Snapshots.{KeptOf}
use Rattle.call_steps.specs.TokenAfter.{token_after, MayMake}
use Rattle.stripe_dir.specs.Answers.{told_look, told_or_short}
use Rattle.stripe_stamps.specs.SeenStripes.{seen_in}
use Rattle.stripe_dir.specs.Shown.{AreShown, stripes_seen}
use Rattle.stripe_dir.specs.declared.directory_answers.Look.{Look}
use Rattle.snapshot_view.specs.Tickets.{pins_of, passes_in}
use Rattle.snapshot_view.specs.LookSteps.{get_of, look_one, no_look, IsAsFound}
use Rattle.snapshot_view.proofs.Gets.{may_look, get_found, get_same, get_look, get_pins, get_begun}
use Rattle.snapshot_view.proofs.Others.{one_step}
use Rattle.snapshot_view.proofs.looks.look_at.Goals as goal

pub look-answer-requires-clause-may : goal.look-answer-requires-clause-may
look-answer-requires-clause-may c =
    subst (λ n. MayMake c.args.directory.now.core c.args.ticket.now c.args.number (DirectoryStep.Look (get_of n))) (sym c.in_ok-copy.ensures)
    (may_look c.args.directory.now.core c.args.number c.args.name.now c.args.ticket.now c.requires.may)

pub returns-in-Ok-Pinned-clause-found : goal.returns-in-Ok-Pinned-clause-found
returns-in-Ok-Pinned-clause-found c =
    let before : Sealed = c.args.directory.now in
    let is = c.in-Ok-Pinned.is ∙ ap Ok c.in-Ok-Pinned.field-0-is in
    let kept : List ℕ → KeptOf = λ n. record { name = n; size = c.in-Ok-Pinned.length; stripes = c.in-Ok-Pinned.stripes.items } in
    subst (λ n. IsAsFound before (kept n)) (c.in_ok-copy.ensures ∙ sym c.in_ok-name.ensures)
    (get_found c.args.ticket.now c.args.number c.in_ok-copy.field-0 before c.look-answer.new.directory c.look-answer.result c.look-answer.ensures.step c.requires.there.0
    (ap (λ n. find_object n before.core.objects) c.in_ok-copy.ensures ∙ c.requires.there.1) tt c.in-Ok-Pinned.point c.in-Ok-Pinned.length c.in-Ok-Pinned.stripes is
    (subst (λ r. AreShown before stripes_seen r) is c.look-answer.ensures.seen))

pub returns-in-Ok-Pinned-clause-same : goal.returns-in-Ok-Pinned-clause-same
returns-in-Ok-Pinned-clause-same c =
    let before : Sealed = c.args.directory.now in
    let is = c.in-Ok-Pinned.is ∙ ap Ok c.in-Ok-Pinned.field-0-is in
    get_same c.args.ticket.now c.args.number c.in_ok-copy.field-0 before c.look-answer.new.directory c.look-answer.result c.look-answer.ensures.step c.requires.there.0
    (ap (λ n. find_object n before.core.objects) c.in_ok-copy.ensures ∙ c.requires.there.1) tt c.in-Ok-Pinned.point c.in-Ok-Pinned.length c.in-Ok-Pinned.stripes is
    c.look-answer.ensures.book c.look-answer.ensures.stamps

pub returns-in-Ok-Pinned-clause-look : goal.returns-in-Ok-Pinned-clause-look
returns-in-Ok-Pinned-clause-look c =
    let before : Sealed = c.args.directory.now in
    let is = c.in-Ok-Pinned.is ∙ ap Ok c.in-Ok-Pinned.field-0-is in
    get_look c.args.ticket.now c.args.number c.in_ok-copy.field-0 before c.look-answer.new.directory c.look-answer.result c.look-answer.ensures.step c.look-answer.new.self c.look-answer.ensures.token (ap is_err is)
    ∙ ap (look_one c.args.number (no_look before.core) c.args.ticket.now) c.in_ok-copy.ensures

pub returns-in-Ok-Pinned-clause-pins : goal.returns-in-Ok-Pinned-clause-pins
returns-in-Ok-Pinned-clause-pins c =
    let is = c.in-Ok-Pinned.is ∙ ap Ok c.in-Ok-Pinned.field-0-is in
    ap pins_of
    (c.look-answer.ensures.token
    ∙ ap (λ (r : Result (Look ⊤ ⊤) AllocError). token_after c.args.ticket.now c.args.number (DirectoryStep.Look (get_of c.in_ok-copy.field-0)) (told_or_short told_look r)) is)
    ∙ get_pins c.args.number (get_of c.in_ok-copy.field-0) c.args.ticket.now c.in-Ok-Pinned.point.0 c.in-Ok-Pinned.length (map seen_in c.in-Ok-Pinned.stripes.items) c.requires.may

pub returns-in-Ok-Pinned-clause-begun : goal.returns-in-Ok-Pinned-clause-begun
returns-in-Ok-Pinned-clause-begun c =
    let before : Sealed = c.args.directory.now in
    let is = c.in-Ok-Pinned.is ∙ ap Ok c.in-Ok-Pinned.field-0-is in
    get_begun c.args.ticket.now c.args.number c.in_ok-copy.field-0 before c.look-answer.new.directory c.look-answer.result c.look-answer.ensures.step c.requires.there.0
    (ap (λ n. find_object n before.core.objects) c.in_ok-copy.ensures ∙ c.requires.there.1) tt c.in-Ok-Pinned.point c.in-Ok-Pinned.length c.in-Ok-Pinned.stripes is c.requires.may
    ∙ ap (λ token. passes_in (token ∷ []) ++ before.core.passes)
    (sym (c.look-answer.ensures.token
    ∙ ap (λ (r : Result (Look ⊤ ⊤) AllocError). token_after c.args.ticket.now c.args.number (DirectoryStep.Look (get_of c.in_ok-copy.field-0)) (told_or_short told_look r)) is))

pub returns-in-Ok-Pinned-clause-others : goal.returns-in-Ok-Pinned-clause-others
returns-in-Ok-Pinned-clause-others c =
    one_step (is_err c.look-answer.result) c.args.ticket.now c.args.number (DirectoryStep.Look (get_of c.in_ok-copy.field-0)) c.args.directory.now.core c.look-answer.new.directory.core
    (ap (λ (r : Directory × Told). r.0) c.look-answer.ensures.step)

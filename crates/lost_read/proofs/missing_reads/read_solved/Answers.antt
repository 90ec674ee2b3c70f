use Rattle.std.proofs.Common.{ℕ, List, Bor, map, length, sym, refl, subst, ap, inl, inr, ◌∙◌}
use Rattle.lost_layers.specs.ErasedRuns.{solved_of}
use Rattle.lost_layers.specs.declared.missing_fault.MissingFault.TheVariants.{OutOfMemory}
use Rattle.lost_read.specs.declared.missing_read_fault.MissingReadFault.TheVariants.{Run}
use Rattle.lost_read.specs.MissingRead.{FitRun}
use Rattle.lost_read.specs.MissingRefused.{IsMisfit, IsUnread}
use Rattle.lost_read.proofs.MissingReadLaws.{handed_on}
use Rattle.lost_read.proofs.missing_reads.read_solved.Goals as goal

pub read_listed-requires-clause-list : goal.read_listed-requires-clause-list
read_listed-requires-clause-list c = c.deref.ensures.value ∙ c.in_ok-list.ensures

pub read_listed-requires-clause-fit : goal.read_listed-requires-clause-fit
read_listed-requires-clause-fit c =
    let placed = c.args.run.now.placed in
    let pieces : List (List ℕ) = map (λ (piece : Bor (List ℕ)). piece.now) c.args.pieces.now in
    subst (λ n. FitRun placed.g placed.run n pieces (length c.args.out.now)) (c.len.ensures ∙ c.in_ok-list.list.ok.0 ∙ sym (ap length c.deref.ensures.value)) c.in_ok-checked.ensures.fit

pub returns-in_err-list-clause-unread : goal.returns-in_err-list-clause-unread
returns-in_err-list-clause-unread c =
    let pieces : List (List ℕ) = map (λ (piece : Bor (List ℕ)). piece.now) c.args.pieces.now in
    handed_on (IsUnread (solved_of c.args.run.now) pieces (length c.args.out.now)) c.from_residual.result (Run OutOfMemory) c.from_residual.ensures.1 (inl refl)

pub returns-in_err-read_listed-clause-unread : goal.returns-in_err-read_listed-clause-unread
returns-in_err-read_listed-clause-unread c =
    let pieces : List (List ℕ) = map (λ (piece : Bor (List ℕ)). piece.now) c.args.pieces.now in
    handed_on (IsUnread (solved_of c.args.run.now) pieces (length c.args.out.now)) c.from_residual-in_err-read_listed.result (Run OutOfMemory)
    c.from_residual-in_err-read_listed.ensures.1 (inl refl)

pub returns-in_err-checked-clause-unread : goal.returns-in_err-checked-clause-unread
returns-in_err-checked-clause-unread c =
    let e = solved_of c.args.run.now in
    let pieces : List (List ℕ) = map (λ (piece : Bor (List ℕ)). piece.now) c.args.pieces.now in
    let room : ℕ = length c.args.out.now in
    handed_on (IsUnread e pieces room) c.from_residual-in_err-checked.result c.in_err-checked.field-0.0 c.from_residual-in_err-checked.ensures.1
    (inr (subst (λ n. IsMisfit e.g e.run n pieces room c.in_err-checked.field-0.0) (c.len.ensures ∙ c.in_ok-list.list.ok.0 ∙ ap length c.in_ok-list.ensures) c.in_err-checked.ensures.misfit))

pub returns-clause-fit : goal.returns-clause-fit
returns-clause-fit c =
    let placed = c.args.run.now.placed in
    let pieces : List (List ℕ) = map (λ (piece : Bor (List ℕ)). piece.now) c.args.pieces.now in
    subst (λ n. FitRun placed.g placed.run n pieces (length c.args.out.now)) (c.len.ensures ∙ c.in_ok-list.list.ok.0 ∙ ap length c.in_ok-list.ensures) c.in_ok-checked.ensures.fit

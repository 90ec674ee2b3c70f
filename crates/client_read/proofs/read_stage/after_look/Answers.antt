use Rattle.std.proofs.Common.{◌≡◌, ℕ, List, map, Ok, IfOk, All, sym, ap, subst, ◌∙◌}
use Rattle.clay_grid.specs.Shape.{Shape}
use Rattle.store_core.specs.Note.{note_of}
use Rattle.store_core.specs.Read.{part_of}
use Rattle.call_steps.specs.declared.seen.Seen.{Seen}
use Rattle.stripe_stamps.specs.SeenStripes.{seen_in}
use Rattle.stripe_stamps.specs.SeenStripes.{IsSeenIn}
use Rattle.stripe_dir.specs.declared.directory_answers.Look.TheVariants as look
use Rattle.stripe_dir.specs.Shown.{stripes_seen}
use Rattle.gather_parts.specs.Gatherings.{owed}
use Rattle.client_read.specs.Owed.{contents_of, owed_after_look}
use Rattle.client_read.proofs.Looking.{looked}
use Rattle.client_read.proofs.Pinned.{pinned_bytes}
use Rattle.client_read.proofs.read_stage.after_look.Goals as goal

pub returns-in-Ok-Pinned-clause-owed : goal.returns-in-Ok-Pinned-clause-owed
returns-in-Ok-Pinned-clause-owed c = λ stamps own.
    let old = c.args.gatherings.now in
    let g : Shape = old.book.geometry in
    let stripes : List Seen = c.in-Ok-Pinned.stripes.items in
    let pinned : c.args.answer ≡ Ok (look.Pinned tt c.in-Ok-Pinned.point c.in-Ok-Pinned.length c.in-Ok-Pinned.stripes) = c.in-Ok-Pinned.is ∙ ap Ok c.in-Ok-Pinned.field-0-is in
    ap owed c.begin.ensures.begun
    ∙ pinned_bytes g c.range_of-start.result.0 c.range_of-start.result.1 stamps stripes
    (subst (λ a. IfOk a (λ answer. All (IsSeenIn stamps) (stripes_seen answer))) pinned own)
    ∙ ap (λ (r : ℕ × ℕ). contents_of stamps (map (part_of g r.0 r.1) (map seen_in stripes))) c.range_of-start.ensures
    ∙ ap (λ a. owed_after_look g (note_of c.args.call.now) stamps (looked a) (owed old)) (sym pinned)

use Rattle.std.proofs.Common.{rules, ◌≡◌, suc, ◌/◌, ◌%◌, ◌<◌, length, [], ap, sym, subst, ◌∙◌}
use Rattle.std.proofs.lemmas.List.{get_or_read, length-map}
use Rattle.version_seal.specs.Entry.{BookOf}
use Rattle.version_seal.specs.Inside.{id_in}
use Rattle.version_seal.proofs.Rows.{low-version}
use Rattle.version_seal.proofs.book.Book.slot.Goals as goal

pub returns-clause-name : goal.returns-clause-name
returns-clause-name c =
    let within : c.args.version.0 % 4096 < length c.value-slots.result.now.items = search rules in
    ap (λ slot. slot.id) (get_or_read c.value-slots.result.now.items (c.args.version.0 % 4096) c.index-2.result.now within c.index-2.ensures (record { id = 0; tag = [] }))
    ∙ ap (λ row. id_in row.items (c.args.version.0 % 4096)) c.value-slots.ensures.0

pub returns-clause-low : goal.returns-clause-low
returns-clause-low c =
    let rows = c.self.inside.rows.items in
    let size : length c.args.self.now.home ≡ suc (length rows) = sym (ap (λ (book : BookOf). length book.home) c.self.view_is) ∙ ap suc (length-map rows (λ slot. slot.id)) in
    low-version c.args.version.0 (length rows) (subst (λ n. suc (c.args.version.0 / 4096) < n) size c.requires.there) c.self.invariant.few

use Rattle.std.proofs.Common.{ap, sym, ◌∙◌}
use Rattle.store_core.specs.Note.{Note}
use Rattle.store_core.specs.Directory.{Object}
use Rattle.store_core.specs.Commit.{put_object}
use Rattle.dir_parts.specs.Passes.{note_in}
use Rattle.dir_parts.specs.Parts.{object_or_new}
use Rattle.stripe_dir.specs.Installed.{installed, dropped}
use Rattle.stripe_dir.proofs.Commits.{installed_other, dropped_other, old_name}
use Rattle.stripe_dir.proofs.committing.install.Goals as goal

pub returns-in_default : goal.returns-in_default
returns-in_default c =
    let n : Note = note_in c.note.inside in
    let old : Object = object_or_new c.note.inside.name c.args.objects.now.objects in
    record {
      objects =
          c.put.ensures.objects
          ∙ (λ i. put_object (record { name = sym (old_name c.args.objects.now.objects c.note.inside.name) i; length = c.from-in_default.ensures i; versions = c.args.drawn.items }) c.args.objects.now.objects)
          ∙ ap (λ (o : Object). put_object o c.args.objects.now.objects) (sym (installed_other c.note.inside.kind c.in_default.not-Write c.args.stripe_len n c.args.drawn.items old))
          ∙ ap (λ (n : Note). put_object (installed n.kind c.args.stripe_len n c.args.drawn.items (object_or_new n.name c.args.objects.now.objects)) c.args.objects.now.objects) c.note.view_is;
      replaced =
          c.put.ensures.replaced ∙ sym (dropped_other c.note.inside.kind c.in_default.not-Write c.args.stripe_len n c.args.drawn.items old.versions)
          ∙ ap (λ (n : Note). dropped n.kind c.args.stripe_len n c.args.drawn.items (object_or_new n.name c.args.objects.now.objects).versions) c.note.view_is;
      left = c.put.ensures.room;
    }

use Rattle.std.proofs.Common.{ℕ, List, ◌≡◌, Some, None, ap, ◌∙◌, sym}
use Rattle.store_map.specs.PlainMap.{Objects, bytes_of, delete, delete_found}
use Rattle.store_map.proofs.MapLemmas.{bytes_of-lookup, delete-remove_entry}
use Rattle.store_map.proofs.object_map.ObjectMap.delete.Goals as goal
use Rattle.store_map.proofs.object_map.ObjectMap.delete.Goals.{in-Some, in-None}

pub returns-clause-ok : goal.returns-clause-ok
returns-clause-ok c =
    let objects : Objects = c.args.self.now.objects in
    let name : List ℕ = c.args.name.now in
    let held : c.self.inside.objects.entries ≡ objects = ap (λ m. m.objects) c.self.view_is in
    elim c.match-shift_remove.branch [
      | in-Some w ↦
          let found : bytes_of name objects ≡ Some w.in-Some.field-0 =
          sym (w.in-Some.ensures.value ∙ bytes_of-lookup name c.self.inside.objects.entries ∙ ap (bytes_of name) held)
          in
          let after : c.shift_remove.new.self.entries ≡ delete name objects =
          c.shift_remove.ensures.entries ∙ delete-remove_entry name c.self.inside.objects.entries ∙ ap (delete name) held
          in
          (λ i. (after i, w.result-is i)) ∙ sym (ap (delete_found name objects) found)
      | in-None w ↦
          let found : bytes_of name objects ≡ None =
          sym (w.in-None.ensures.value ∙ bytes_of-lookup name c.self.inside.objects.entries ∙ ap (bytes_of name) held)
          in
          let same : c.shift_remove.new.self.entries ≡ objects = w.in-None.ensures.unchanged ∙ held in
          (λ i. (same i, w.result-is i)) ∙ sym (ap (delete_found name objects) found)
    ]

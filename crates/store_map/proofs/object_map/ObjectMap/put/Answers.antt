use Rattle.std.proofs.Common.{ℕ, List, ◌≡◌, ◌≤◌, ap, ◌∙◌, sym, arith}
use Rattle.indexmap.specs.IndexMap.{insert_entry}
use Rattle.std.proofs.Common.{bytes_eq}
use Rattle.store_map.specs.Content.{content_bytes, content_length}
use Rattle.store_map.specs.PlainMap.{Objects, put}
use Rattle.store_map.specs.declared.reply.Reply.TheVariants.{Done}
use Rattle.store_map.proofs.MapLemmas.{put-insert_entry}
use Rattle.store_map.proofs.Outcomes.{put_sized-fits}
use Rattle.store_map.proofs.object_map.ObjectMap.put.Goals as goal

pub returns-clause-ok : goal.returns-clause-ok
returns-clause-ok c =
    let objects : Objects = c.args.self.now.objects in
    let name : List ℕ = c.args.name.now in
    let bytes : List ℕ = content_bytes c.args.content.now in
    let held : c.self.inside.objects.entries ≡ objects = ap (λ m. m.objects) c.self.view_is in
    let most : c.self.inside.max ≡ c.args.self.now.max = ap (λ m. m.max) c.self.view_is in
    let value : c.from_vec.result ≡ bytes = c.from_vec.ensures ∙ c.in_ok-bytes.ensures in
    let after : c.insert.new.self.entries ≡ put name bytes objects =
    c.in_ok-insert.ensures.entries
    ∙ (λ i. insert_entry bytes_eq (held i) (c.in_ok-copy.ensures i) (value i))
    ∙ put-insert_entry name bytes objects
    in
    let fits : content_length c.args.content.now ≤ c.args.self.now.max = omega (arith, c.length.ensures.number, most) in
    (λ i. (after i, Done)) ∙ sym (put_sized-fits c.args.self.now.max name c.args.content.now objects fits)

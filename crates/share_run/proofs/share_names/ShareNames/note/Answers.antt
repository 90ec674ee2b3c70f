use Rattle.std.proofs.Common.{true, false, string_bytes, ap, sym, subst, ◌∙◌}
use Rattle.share_run.specs.Names.{IsShareName, IsOwn}
use Rattle.share_run.proofs.NameLemmas.{own_listed, name_put, other_put}
use Rattle.share_run.proofs.share_names.ShareNames.note.Goals as goal

pub returns-then-branch : goal.returns-then-branch
returns-then-branch c =
    let own = subst (λ b. IsOwn c.args.self.now c.is_own.new.self c.in-Some.cut.now b) c.if-branch.true c.in_ok-is_own.ensures in
    let named : IsShareName (string_bytes c.in_ok-name.name) c.in-Some.cut.now c.in-Some.number = (c.in-Some.ensures.0, c.in_ok-name.ensures.ok ∙ c.in-Some.ensures.1) in
    name_put c.is_own.new.self own.own c.in-Some.number c.in_ok-name.name
    (own_listed c.args.self.now c.is_own.new.self c.in-Some.cut.now true c.requires own)
    (ap (λ n. n.cut) own.new_is)
    (subst (λ x. IsShareName (string_bytes c.in_ok-name.name) x c.in-Some.number) (sym own.told) named)

pub returns-else-branch : goal.returns-else-branch
returns-else-branch c =
    let own = subst (λ b. IsOwn c.args.self.now c.is_own.new.self c.in-Some.cut.now b) c.if-branch.false c.in_ok-is_own.ensures in
    let named : IsShareName (string_bytes c.in_ok-name.name) c.in-Some.cut.now c.in-Some.number = (c.in-Some.ensures.0, c.in_ok-name.ensures.ok ∙ c.in-Some.ensures.1) in
    other_put c.is_own.new.self own.own c.in-Some.cut.now c.in-Some.number c.in_ok-name.name
    (own_listed c.args.self.now c.is_own.new.self c.in-Some.cut.now false c.requires own)
    (ap (λ n. n.cut) own.new_is) named (λ same. own.told (sym same))

use Rattle.std.proofs.Common.{ℕ, List, ◌+◌, ◌<◌, ◌≤◌, ◌≡◌, Some, None, length, ap, ◌∙◌, sym, refl, arith}
use Rattle.store_map.specs.Content.{content_bytes, content_length, overwrite}
use Rattle.store_map.specs.PlainMap.{Objects, SizedMap, bytes_of, put}
use Rattle.store_map.specs.declared.reply.Reply.TheVariants.{Done, NoSuch, OutRange, TooLarge}
use Rattle.store_map.proofs.MapLemmas.{bytes_of-found, lent-put, lent-same, on_err}
use Rattle.store_map.proofs.Outcomes.{write_at-missing, write_at-out, write_at-large, write_at-fits}
use Rattle.store_map.proofs.object_map.ObjectMap.write.Goals as goal

-- the map is the record of its limit and its objects
same_map : (max : ℕ) (new old : Objects) (now : SizedMap) → record { max = max; objects = old } ≡ now → new ≡ now.objects → record { max = max; objects = new } ≡ now
same_map max new old now view same =
    let back : new ≡ old = same ∙ sym (ap (λ (m : SizedMap). m.objects) view) in
    (λ i. record { max = max; objects = back i }) ∙ view

pub returns-in_default-clause-ok : goal.returns-in_default-clause-ok
returns-in_default-clause-ok c =
    let objects : Objects = c.args.self.now.objects in
    let name : List ℕ = c.args.name.now in
    let held : c.self.inside.objects.entries ≡ objects = ap (λ m. m.objects) c.self.view_is in
    let same : c.get_mut.follows.lender-at-none.entries ≡ objects = ap (λ m. m.entries) c.get_mut.follows.holds-at-none ∙ held in
    let found : bytes_of name objects ≡ None = bytes_of-found name c.self.inside.objects.entries objects held None c.in_default.ensures.value in
    (λ i. (same i, NoSuch)) ∙ sym (write_at-missing c.args.self.now.max name c.args.content.now objects c.args.offset found)

pub returns-then-len-offset-clause-ok : goal.returns-then-len-offset-clause-ok
returns-then-len-offset-clause-ok c =
    let objects : Objects = c.args.self.now.objects in
    let name : List ℕ = c.args.name.now in
    let inside : Objects = c.self.inside.objects.entries in
    let old : List ℕ = c.in-Some.bytes.now in
    let held : inside ≡ objects = ap (λ m. m.objects) c.self.view_is in
    let found : bytes_of name objects ≡ Some old = bytes_of-found name inside objects held (Some old) c.in-Some.ensures.value in
    let same : (c.get_mut.follows.lender old).entries ≡ objects =
    lent-same name inside objects held old found _ old (c.get_mut.follows.holds old).0 refl
    in
    (λ i. (same i, OutRange))
    ∙ sym (write_at-out c.args.self.now.max name c.args.content.now objects c.args.offset old found (omega arith))

pub returns-then-from-clause-ok : goal.returns-then-from-clause-ok
returns-then-from-clause-ok c =
    let objects : Objects = c.args.self.now.objects in
    let name : List ℕ = c.args.name.now in
    let inside : Objects = c.self.inside.objects.entries in
    let old : List ℕ = c.in-Some.bytes.now in
    let held : inside ≡ objects = ap (λ m. m.objects) c.self.view_is in
    let most : c.self.inside.max ≡ c.args.self.now.max = ap (λ m. m.max) c.self.view_is in
    let found : bytes_of name objects ≡ Some old = bytes_of-found name inside objects held (Some old) c.in-Some.ensures.value in
    let same : (c.get_mut.follows.lender old).entries ≡ objects =
    lent-same name inside objects held old found _ old (c.get_mut.follows.holds old).0 refl
    in
    let within : c.args.offset ≤ length old = omega arith in
    let large : c.args.self.now.max < c.args.offset + content_length c.args.content.now = omega (arith, c.length.ensures.number, most) in
    (λ i. (same i, TooLarge))
    ∙ sym (write_at-large c.args.self.now.max name c.args.content.now objects c.args.offset old found within large)

pub returns-in_err-new-clause-err : goal.returns-in_err-new-clause-err
returns-in_err-new-clause-err c =
    let objects : Objects = c.args.self.now.objects in
    let name : List ℕ = c.args.name.now in
    let inside : Objects = c.self.inside.objects.entries in
    let old : List ℕ = c.in-Some.bytes.now in
    let held : inside ≡ objects = ap (λ m. m.objects) c.self.view_is in
    let found : bytes_of name objects ≡ Some old = bytes_of-found name inside objects held (Some old) c.in-Some.ensures.value in
    let same : (c.get_mut.follows.lender old).entries ≡ objects =
    lent-same name inside objects held old found _ old (c.get_mut.follows.holds old).0 refl
    in
    on_err c.from_residual.result (same_map c.self.inside.max _ inside c.args.self.now c.self.view_is same)

pub returns-in_err-write_over-clause-err : goal.returns-in_err-write_over-clause-err
returns-in_err-write_over-clause-err c =
    let objects : Objects = c.args.self.now.objects in
    let name : List ℕ = c.args.name.now in
    let inside : Objects = c.self.inside.objects.entries in
    let old : List ℕ = c.in-Some.bytes.now in
    let held : inside ≡ objects = ap (λ m. m.objects) c.self.view_is in
    let found : bytes_of name objects ≡ Some old = bytes_of-found name inside objects held (Some old) c.in-Some.ensures.value in
    let same : (c.get_mut.follows.lender c.write_over.new.self).entries ≡ objects =
    lent-same name inside objects held old found _ c.write_over.new.self (c.get_mut.follows.holds c.write_over.new.self).0
    c.in_err-write_over.ensures.err
    in
    on_err c.from_residual-in_err-write_over.result (same_map c.self.inside.max _ inside c.args.self.now c.self.view_is same)

pub returns-clause-ok : goal.returns-clause-ok
returns-clause-ok c =
    let objects : Objects = c.args.self.now.objects in
    let name : List ℕ = c.args.name.now in
    let inside : Objects = c.self.inside.objects.entries in
    let old : List ℕ = c.in-Some.bytes.now in
    let held : inside ≡ objects = ap (λ m. m.objects) c.self.view_is in
    let most : c.self.inside.max ≡ c.args.self.now.max = ap (λ m. m.max) c.self.view_is in
    let found : bytes_of name objects ≡ Some old = bytes_of-found name inside objects held (Some old) c.in-Some.ensures.value in
    let written : c.write_over.new.self ≡ overwrite old c.args.offset (content_bytes c.args.content.now) =
    c.in_ok-write_over.ensures.ok
    ∙ ap (overwrite old c.args.offset) (c.deref.ensures.value ∙ c.in_ok-new.ensures)
    in
    let after : (c.get_mut.follows.lender c.write_over.new.self).entries ≡ put name (overwrite old c.args.offset (content_bytes c.args.content.now)) objects =
    lent-put name inside objects held old found _ c.write_over.new.self (c.get_mut.follows.holds c.write_over.new.self).0
    ∙ ap (λ bytes. put name bytes objects) written
    in
    let within : c.args.offset ≤ length old = omega arith in
    let fits : c.args.offset + content_length c.args.content.now ≤ c.args.self.now.max = omega (arith, c.length.ensures.number, most) in
    (λ i. (after i, Done))
    ∙ sym (write_at-fits c.args.self.now.max name c.args.content.now objects c.args.offset old found within fits)

use Rattle.std.proofs.Common.{rules, ◌≡◌, ◌+◌, ◌++◌, List, length, ap, sym, ◌∙◌, arith, length-append}
use Rattle.std.proofs.lemmas.List.{length-map}
use Rattle.std.proofs.lemmas.List.FromFn.{length-range_with_len}
use Rattle.std.specs.List.{range_with_len}
use Rattle.version_seal.specs.Entry.{StampOf}
use Rattle.version_seal.specs.Sealer.{sealer_at}
use Rattle.stripe_stamps.specs.StampList.{StampList}
use Rattle.stripe_stamps.proofs.stamp_list.Stamps.draw.Goals as goal

pub add_copies-requires : goal.add_copies-requires
add_copies-requires c =
    let size : length c.deref-2.result.now ≡ c.args.drawing.now.count =
    ap length (c.deref-2.ensures.value ∙ c.in_ok-fresh.ensures.fresh)
    ∙ length-map (range_with_len 0 c.args.drawing.now.count) _ ∙ length-range_with_len 0 c.args.drawing.now.count
    in
    omega (arith, size, c.in_ok-reserve.ensures.len, c.in_ok-reserve.ensures.ok)

pub invariant_of-self-2 : goal.invariant_of-self-2
invariant_of-self-2 c =
    let old : List StampOf = c.self.inside.listed.items in
    let fresh : List StampOf = c.deref-2.result.now in
    let book : c.args.drawing.now.book.now ≡ c.self.inside.opening = c.requires.book ∙ sym (ap (λ (l : StampList). l.book) c.self.view_is) in
    let before : length c.deref.result.now ≡ length old = search rules in
    let size : length fresh ≡ c.args.drawing.now.count =
    ap length (c.deref-2.ensures.value ∙ c.in_ok-fresh.ensures.fresh)
    ∙ length-map (range_with_len 0 c.args.drawing.now.count) _ ∙ length-range_with_len 0 c.args.drawing.now.count
    in
    let all : length c.add_copies.new.listed.items ≡ length (old ++ fresh) = search rules in
    let end : length c.deref.result.now + c.args.drawing.now.count ≡ length c.add_copies.new.listed.items = omega (arith, before, size, all, length-append old fresh) in
    c.in_ok-fresh.ensures.on ∙ (λ i. sealer_at (book i) (end i))

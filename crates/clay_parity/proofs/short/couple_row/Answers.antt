use Rattle.std.proofs.Common.{◌≡◌, ℕ, List, ◌+◌, ◌-◌, ◌*◌, ◌<◌, length, get_or, take, drop, subst, sym, ap, ◌∙◌, arith}
use Rattle.std.proofs.lemmas.List.Edits.{get_or-between, length-between}
use Rattle.code_laws.proofs.Pieces.{piece_fits}
use Rattle.clay_parity.proofs.ShortLemmas.{row_coupled}
use Rattle.clay_parity.proofs.short.couple_row.Goals as goal

pub returns : goal.returns
returns c = λ o h.
    let n = c.args.count in
    let w = c.args.width in
    let x = c.args.x in
    let len : ℕ = n * w in
    let rows = c.args.rows.now in
    let coupled = c.couple.new.out in
    let piece = c.copy_from_slice.new.self in
    let row = piece_fits x n len c.requires.row in
    let part = piece_fits x n w c.requires.row in
    let own : List ℕ = take (x * len + len - x * len) (drop (x * len) rows) in
    let width : x * len + len - x * len ≡ len = omega arith in
    let own_long : length own ≡ len = length-between rows (x * len) (x * len + len) (omega (arith, row, c.requires.rows_len)) ∙ width in
    let size : x * w + w - x * w ≡ w = omega arith in
    let long : length coupled ≡ len = c.couple.auto.out ∙ c.requires.out_len in
    let piece_long : length piece ≡ w = ap length c.copy_from_slice.ensures.after ∙ length-between own (x * w) (x * w + w) (omega (arith, part, own_long)) ∙ size in
    row_coupled n w x (x * w + w - x * w) rows own c.gather.new.out coupled piece c.requires.row size long piece_long
    (λ k hk. get_or-between rows (x * len) (x * len + len) k 0 (omega arith))
    c.gather.ensures
    (λ k hk. c.couple.ensures k (subst (λ l. k < l) (sym long) hk))
    (λ b hb. ap (λ l. get_or l b 0) c.copy_from_slice.ensures.after ∙ get_or-between own (x * w) (x * w + w) b 0 (omega arith))
    o h

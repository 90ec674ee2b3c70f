use Rattle.std.proofs.Common.{◌≡◌, ℕ, ◌+◌, ◌<◌, length, get_or, None, sym, subst, ◌∙◌, arith}
use Rattle.std.proofs.lemmas.List.{get_or_read}
use Rattle.clay_model.specs.Chunks.{contents}
use Rattle.clay_lanes.proofs.MissingChunks.{StandBefore, StandBefore-missing, StandBefore-present, all_kept}
use Rattle.clay_lanes.proofs.block_chunks.with_present.Goals as goal
use Rattle.clay_lanes.proofs.block_chunks.with_present.Goals.{in-Some+in_ok-from_slice+in_ok-insert, in_default}

pub loop-c-preserved : goal.loop-c-preserved
loop-c-preserved c =
    let g = c.args.g in
    let have = c.args.have.now in
    let i : ℕ = c.loop-c.c in
    let within : i < length have = omega (arith, c.loop-c-test.true) in
    let read : c.index-have-c.result ≡ get_or have i None = get_or_read have i c.index-have-c.result within c.index-have-c.is None in
    elim c.match-part.branch [
      | in-Some+in_ok-from_slice+in_ok-insert w ↦
          subst (λ v. StandBefore g have (i + 1) (contents v.items)) (sym w.chunks-is)
          (subst (λ l. StandBefore g have (i + 1) (contents l)) (sym w.in_ok-insert.ensures.items)
          (StandBefore-present g have i c.loop-c.chunks.items w.in-Some.bytes w.in_ok-from_slice.field-0 c.requires.count c.requires.lengths within
          (sym read ∙ w.in-Some.is) (w.in_ok-from_slice.ensures.items ∙ w.deref.ensures.value) c.loop-c.invariant))
      | in_default w ↦
          subst (λ v. StandBefore g have (i + 1) (contents v.items)) (sym w.chunks-is)
          (StandBefore-missing g have i (contents c.loop-c.chunks.items) c.requires.count within (sym read ∙ w.in_default.is) c.loop-c.invariant)
    ]

pub returns-clause-kept : goal.returns-clause-kept
returns-clause-kept c =
    let end : c.loop-c.c ≡ length c.args.have.now = omega (arith, c.loop-c-test.false, c.loop-c.auto.c-end) in
    all_kept c.args.g c.args.have.now c.loop-c.c (contents c.loop-c.chunks.items) end c.loop-c.invariant

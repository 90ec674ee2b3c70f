use Rattle.std.proofs.Common.{◌≡◌, ℕ, List, Bor, MutBor, map, length, sym, subst, ap, ◌∙◌, arith}
use Rattle.std.proofs.lemmas.List.{length-map}
use Rattle.clay_c.specs.Calls.{lost_count}
use Rattle.clay_c.specs.Apart.{ChunkSlicesFit, RecoversApart}
use Rattle.clay_c.proofs.Encoded.{marks_fit, marks_lost, encoded}
use Rattle.clay_c.proofs.encode_calls.write_parity_apart.Goals as goal

pub write_missing_apart-requires-clause-fit : goal.write_missing_apart-requires-clause-fit
write_missing_apart-requires-clause-fit c =
    let g = c.args.g in
    let chunks : List (List ℕ) = map (λ (chunk : Bor (List ℕ)). chunk.now) c.args.chunks.now in
    let parity : List (List ℕ) = map (λ (room : MutBor (List ℕ)). room.now) c.args.parity.now in
    subst (λ l. ChunkSlicesFit g l chunks parity) (sym (c.deref.ensures.value ∙ c.in_ok-marks.ensures.marks)) (marks_fit g chunks parity c.requires.fit)

pub write_missing_apart-requires-clause-few : goal.write_missing_apart-requires-clause-few
write_missing_apart-requires-clause-few c =
    let g = c.args.g in
    let lost : lost_count c.deref.result.now ≡ g.parity_count = ap lost_count (c.deref.ensures.value ∙ c.in_ok-marks.ensures.marks) ∙ marks_lost g in
    omega (arith, lost)

pub returns-clause-written : goal.returns-clause-written
returns-clause-written c =
    let g = c.args.g in
    let chunks : List (List ℕ) = map (λ (chunk : Bor (List ℕ)). chunk.now) c.args.chunks.now in
    let new = c.write_missing_apart.new.missing in
    let parity : List (List ℕ) = map (λ (room : MutBor (List ℕ)). room.now) new in
    let size : length parity ≡ g.parity_count =
    length-map new (λ (room : MutBor (List ℕ)). room.now) ∙ c.write_missing_apart.auto.missing ∙ sym (length-map c.args.parity.now (λ (room : MutBor (List ℕ)). room.now)) ∙ c.requires.fit.1 in
    encoded g chunks parity c.in_ok-marks.ensures.geometry c.requires.fit.0 size c.requires.fit.2 c.are_bytes.ensures
    (subst (λ l. RecoversApart g l chunks parity) (c.deref.ensures.value ∙ c.in_ok-marks.ensures.marks) c.in_ok-write_missing_apart.ensures.written)

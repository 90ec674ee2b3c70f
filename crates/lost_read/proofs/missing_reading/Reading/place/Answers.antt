use Rattle.std.proofs.Common.{◌≡◌, ℕ, ◌+◌, ◌*◌, ◌<◌, length, vec_len, get_or, subst, sym, ap, ◌∙◌}
use Rattle.std.proofs.lemmas.List.{get_or_read}
use Rattle.clay_grid.specs.Shape.{chunk_count, layer_count}
use Rattle.code_laws.proofs.Pieces.{place_below}
use Rattle.lost_read.specs.Plan.{StandsFor}
use Rattle.lost_layers.specs.ErasedPieces.{pieces_of}
use Rattle.lost_read.specs.MissingReadings.{run_of}
use Rattle.lost_read.proofs.MissingReadLaws.{stands_there}
use Rattle.lost_read.proofs.missing_reading.Reading.place.Goals as goal

pub index-requires : goal.index-requires
index-requires c =
    let plan = c.args.self.now.plan.now in
    let g = (run_of c.args.self.now).g in
    let at : c.args.chunk * c.alpha.result + c.args.layer ≡ c.args.chunk * layer_count g + c.args.layer = ap (λ n. c.args.chunk * n + c.args.layer) c.alpha.ensures.value in
    let below : c.args.chunk * layer_count g + c.args.layer < chunk_count g * layer_count g = place_below c.args.chunk (chunk_count g) (layer_count g) c.args.layer c.requires.chunk c.requires.layer in
    subst (λ k. k < vec_len plan.places) (sym at) (subst (λ n. c.args.chunk * layer_count g + c.args.layer < n) (sym (plan.places.ok.0 ∙ c.requires.reading.planned.places_long)) below)

pub returns : goal.returns
returns c =
    let plan = c.args.self.now.plan.now in
    let e = run_of c.args.self.now in
    let g = e.g in
    let key : ℕ = c.args.chunk * layer_count g + c.args.layer in
    let at : c.args.chunk * c.alpha.result + c.args.layer ≡ key = ap (λ n. c.args.chunk * n + c.args.layer) c.alpha.ensures.value in
    let below : key < chunk_count g * layer_count g = place_below c.args.chunk (chunk_count g) (layer_count g) c.args.layer c.requires.chunk c.requires.layer in
    let within : c.args.chunk * c.alpha.result + c.args.layer < length plan.places.items =
    subst (λ k. k < length plan.places.items) (sym at) (subst (λ n. key < n) (sym c.requires.reading.planned.places_long) below) in
    let read : c.index.result.now ≡ get_or plan.places.items key 0 =
    get_or_read plan.places.items (c.args.chunk * c.alpha.result + c.args.layer) c.index.result.now within c.index.ensures 0 ∙ ap (λ k. get_or plan.places.items k 0) at in
    subst (λ p. StandsFor (pieces_of e) p c.args.chunk c.args.layer) (sym read)
    (stands_there e plan.places.items c.args.chunk c.args.layer c.requires.chunk c.requires.layer c.requires.read c.requires.reading.planned.places_are)

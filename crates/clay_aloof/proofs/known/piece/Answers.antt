use Rattle.std.proofs.Common.{◌≡◌, ◌<◌, length, get_or, Some, None, sym, subst, ◌∙◌}
use Rattle.std.proofs.lemmas.List.{get_or_read}
use Rattle.clay_aloof.specs.Known.{HasRoom}
use Rattle.clay_aloof.proofs.KnownBytes.{no_piece, is_piece}
use Rattle.clay_aloof.proofs.known.piece.Goals as goal

pub piece-requires-clause-zeros : goal.piece-requires-clause-zeros
piece-requires-clause-zeros c = c.deref.ensures.value ∙ c.requires.known.empty

pub piece-requires-clause-room : goal.piece-requires-clause-room
piece-requires-clause-room c =
    let known = c.args.known.now in
    let inside : c.args.node < length known.tables.now.chunks.items = subst (λ n. c.args.node < n) (sym c.requires.known.nodes) c.requires.node in
    let there : c.args.z < length known.tables.now.places.items = subst (λ n. c.args.z < n) (sym c.requires.known.layers) c.requires.layer in
    let entry : get_or known.tables.now.chunks.items c.args.node None ≡ Some c.in-Some.chunk = sym (get_or_read known.tables.now.chunks.items c.args.node c.index.result.now inside c.index.ensures None) ∙ c.in-Some.is in
    let place : c.index-place.result.now ≡ get_or known.tables.now.places.items c.args.z 0 = get_or_read known.tables.now.places.items c.args.z c.index-place.result.now there c.index-place.ensures 0 in
    subst (HasRoom c.args.g known.source c.in-Some.chunk) (sym place) (c.requires.known.room c.args.node c.args.z c.in-Some.chunk c.requires.node c.requires.layer entry)

pub returns-in-Some-clause-bytes : goal.returns-in-Some-clause-bytes
returns-in-Some-clause-bytes c =
    let known = c.args.known.now in
    let inside : c.args.node < length known.tables.now.chunks.items = subst (λ n. c.args.node < n) (sym c.requires.known.nodes) c.requires.node in
    let there : c.args.z < length known.tables.now.places.items = subst (λ n. c.args.z < n) (sym c.requires.known.layers) c.requires.layer in
    let entry : get_or known.tables.now.chunks.items c.args.node None ≡ Some c.in-Some.chunk = sym (get_or_read known.tables.now.chunks.items c.args.node c.index.result.now inside c.index.ensures None) ∙ c.in-Some.is in
    let place : c.index-place.result.now ≡ get_or known.tables.now.places.items c.args.z 0 = get_or_read known.tables.now.places.items c.args.z c.index-place.result.now there c.index-place.ensures 0 in
    is_piece c.args.g known c.args.node c.args.z c.requires.node c.requires.layer c.piece.result.now c.in-Some.chunk c.index-place.result.now entry place c.piece.ensures.bytes

pub returns-in-None-clause-bytes : goal.returns-in-None-clause-bytes
returns-in-None-clause-bytes c =
    let known = c.args.known.now in
    let inside : c.args.node < length known.tables.now.chunks.items = subst (λ n. c.args.node < n) (sym c.requires.known.nodes) c.requires.node in
    let none : get_or known.tables.now.chunks.items c.args.node None ≡ None = sym (get_or_read known.tables.now.chunks.items c.args.node c.index.result.now inside c.index.ensures None) ∙ c.in-None.is in
    no_piece c.args.g known c.args.node c.args.z c.requires.node c.requires.layer c.deref-in-None.result.now (c.deref-in-None.ensures.value ∙ c.requires.known.empty) none

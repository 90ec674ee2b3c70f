use Rattle.std.proofs.Common.{◌≡◌, ◌+◌, ◌-◌, ◌%◌, ◌<◌, ◌≤◌, ℕ, true, List, ◌++◌, length, sym, ap, subst, ◌∙◌}
use Rattle.clay_grid.specs.Shape.{Shape}
use Rattle.clay_grid.specs.Limits.{IsGeometry}
use Rattle.gathering.specs.Courses.{has_bytes}
use Rattle.gathering.specs.Made.{AreMade, Appends, IsPieceOf, bytes_between}
use Rattle.gathering.specs.Gathers.{GatherOf}
use Rattle.gathering.proofs.Serving.{all_parts, read_some, read_none, is_server, whole_fits, whole_appends, own_layers, part_appends, not_nowhere, on_ok}
use Rattle.gathering.proofs.gather.Gather.append_piece.Goals as goal

pub append-requires-clause-within : goal.append-requires-clause-within
append-requires-clause-within c =
    let a = c.self.inside in
    let was = sym c.self.view_is in
    let geometry : IsGeometry a.course.geometry = subst IsGeometry c.geometry.ensures c.w-width.ensures.geometry in
    let all : AreMade a.course.geometry a.stamp.content a.course.gone c.args.made.now = subst (λ (w : GatherOf). AreMade w.course.geometry w.stamp.content w.course.gone c.args.made.now) was c.requires.made in
    let piece : IsPieceOf a.course.geometry a.course.aim c.args.chunk c.args.from c.args.to = subst (λ (w : GatherOf). IsPieceOf w.course.geometry w.course.aim c.args.chunk c.args.from c.args.to) was c.requires.wanted in
    let below : c.args.chunk < length c.args.made.now = subst (λ n. c.args.chunk < n) (sym all.chunks.count) (is_server a.course.geometry a.stamp.content a.course.gone a.course.aim geometry c.args.made.now a.wanted.items c.args.chunk c.args.from c.args.to piece) in
    let there = read_some c.args.made.now c.args.chunk c.index-made-chunk.result c.in-Some.whole below c.index-made-chunk.is c.in-Some.is in
    subst (λ (l : List ℕ). c.args.to ≤ length l) (sym c.deref.ensures.value) (whole_fits a.course.geometry a.stamp.content a.course.gone a.course.aim geometry c.args.made.now a.wanted.items c.args.chunk c.args.from c.args.to piece all c.in-Some.whole there).1

pub returns-in-Some : goal.returns-in-Some
returns-in-Some c =
    let a = c.self.inside in
    let was = sym c.self.view_is in
    let geometry : IsGeometry a.course.geometry = subst IsGeometry c.geometry.ensures c.w-width.ensures.geometry in
    let all : AreMade a.course.geometry a.stamp.content a.course.gone c.args.made.now = subst (λ (w : GatherOf). AreMade w.course.geometry w.stamp.content w.course.gone c.args.made.now) was c.requires.made in
    let piece : IsPieceOf a.course.geometry a.course.aim c.args.chunk c.args.from c.args.to = subst (λ (w : GatherOf). IsPieceOf w.course.geometry w.course.aim c.args.chunk c.args.from c.args.to) was c.requires.wanted in
    let below : c.args.chunk < length c.args.made.now = subst (λ n. c.args.chunk < n) (sym all.chunks.count) (is_server a.course.geometry a.stamp.content a.course.gone a.course.aim geometry c.args.made.now a.wanted.items c.args.chunk c.args.from c.args.to piece) in
    let there = read_some c.args.made.now c.args.chunk c.index-made-chunk.result c.in-Some.whole below c.index-made-chunk.is c.in-Some.is in
    on_ok c.append.result c.append.ensures
    (λ e. subst (λ (w : GatherOf). Appends w.course.geometry w.stamp.content c.args.chunk c.args.from c.args.to c.args.bytes.now.items c.append.new.bytes.items) c.self.view_is
    (whole_appends a.course.geometry a.stamp.content a.course.gone a.course.aim geometry c.args.made.now a.wanted.items c.args.chunk c.args.from c.args.to piece all c.in-Some.whole there c.args.bytes.now.items c.append.new.bytes.items
    (e ∙ ap (λ (l : List ℕ). c.args.bytes.now.items ++ bytes_between c.args.from c.args.to l) c.deref.ensures.value)))

pub append-requires-in-Some-index-clause-within : goal.append-requires-in-Some-index-clause-within
append-requires-in-Some-index-clause-within c =
    let a = c.self.inside in
    let was = sym c.self.view_is in
    let geometry : IsGeometry a.course.geometry = subst IsGeometry c.geometry.ensures c.w-width.ensures.geometry in
    let all : AreMade a.course.geometry a.stamp.content a.course.gone c.args.made.now = subst (λ (w : GatherOf). AreMade w.course.geometry w.stamp.content w.course.gone c.args.made.now) was c.requires.made in
    let piece : IsPieceOf a.course.geometry a.course.aim c.args.chunk c.args.from c.args.to = subst (λ (w : GatherOf). IsPieceOf w.course.geometry w.course.aim c.args.chunk c.args.from c.args.to) was c.requires.wanted in
    let below : c.args.chunk < length c.args.made.now = subst (λ n. c.args.chunk < n) (sym all.chunks.count) (is_server a.course.geometry a.stamp.content a.course.gone a.course.aim geometry c.args.made.now a.wanted.items c.args.chunk c.args.from c.args.to piece) in
    let inside : c.args.chunk < length a.wanted.items = subst (λ n. c.args.chunk < n) (sym c.self.invariant.own_parts.count) (is_server a.course.geometry a.stamp.content a.course.gone a.course.aim geometry c.args.made.now a.wanted.items c.args.chunk c.args.from c.args.to piece) in
    let there = read_some a.wanted.items c.args.chunk c.index.result.now c.in-Some-index.part inside c.index.ensures c.in-Some-index.is in
    let width : c.w-width.result ≡ a.course.geometry.width = c.w-width.ensures.value ∙ ap (λ (s : Shape). s.width) c.geometry.ensures in
    subst (λ (l : List ℕ). c.args.from % c.w-width.result + (c.args.to - c.args.from) ≤ length l) (sym c.deref-in-Some-index.ensures.value)
    (subst (λ n. c.args.from % n + (c.args.to - c.args.from) ≤ length c.in-Some-index.part.items) (sym width)
    (own_layers a.course.geometry a.stamp.content a.course.gone a.course.aim geometry c.args.made.now a.wanted.items c.args.chunk c.args.from c.args.to piece c.self.invariant.own_parts c.in-Some-index.part there).room)

pub returns : goal.returns
returns c =
    let a = c.self.inside in
    let was = sym c.self.view_is in
    let geometry : IsGeometry a.course.geometry = subst IsGeometry c.geometry.ensures c.w-width.ensures.geometry in
    let all : AreMade a.course.geometry a.stamp.content a.course.gone c.args.made.now = subst (λ (w : GatherOf). AreMade w.course.geometry w.stamp.content w.course.gone c.args.made.now) was c.requires.made in
    let piece : IsPieceOf a.course.geometry a.course.aim c.args.chunk c.args.from c.args.to = subst (λ (w : GatherOf). IsPieceOf w.course.geometry w.course.aim c.args.chunk c.args.from c.args.to) was c.requires.wanted in
    let below : c.args.chunk < length c.args.made.now = subst (λ n. c.args.chunk < n) (sym all.chunks.count) (is_server a.course.geometry a.stamp.content a.course.gone a.course.aim geometry c.args.made.now a.wanted.items c.args.chunk c.args.from c.args.to piece) in
    let inside : c.args.chunk < length a.wanted.items = subst (λ n. c.args.chunk < n) (sym c.self.invariant.own_parts.count) (is_server a.course.geometry a.stamp.content a.course.gone a.course.aim geometry c.args.made.now a.wanted.items c.args.chunk c.args.from c.args.to piece) in
    let there = read_some a.wanted.items c.args.chunk c.index.result.now c.in-Some-index.part inside c.index.ensures c.in-Some-index.is in
    let width : c.w-width.result ≡ a.course.geometry.width = c.w-width.ensures.value ∙ ap (λ (s : Shape). s.width) c.geometry.ensures in
    on_ok c.append-in-Some-index.result c.append-in-Some-index.ensures
    (λ e. subst (λ (w : GatherOf). Appends w.course.geometry w.stamp.content c.args.chunk c.args.from c.args.to c.args.bytes.now.items c.append-in-Some-index.new.bytes.items) c.self.view_is
    (part_appends a.course.geometry a.stamp.content a.course.gone a.course.aim geometry c.args.made.now a.wanted.items c.args.chunk c.args.from c.args.to piece c.self.invariant.own_parts c.in-Some-index.part there c.args.bytes.now.items c.append-in-Some-index.new.bytes.items
    (e
    ∙ ap (λ (l : List ℕ). c.args.bytes.now.items ++ bytes_between (c.args.from % c.w-width.result) (c.args.from % c.w-width.result + (c.args.to - c.args.from)) l) c.deref-in-Some-index.ensures.value
    ∙ ap (λ n. c.args.bytes.now.items ++ bytes_between (c.args.from % n) (c.args.from % n + (c.args.to - c.args.from)) c.in-Some-index.part.items) width)))

pub unreachable-requires : goal.unreachable-requires
unreachable-requires c =
    let a = c.self.inside in
    let was = sym c.self.view_is in
    let geometry : IsGeometry a.course.geometry = subst IsGeometry c.geometry.ensures c.w-width.ensures.geometry in
    let all : AreMade a.course.geometry a.stamp.content a.course.gone c.args.made.now = subst (λ (w : GatherOf). AreMade w.course.geometry w.stamp.content w.course.gone c.args.made.now) was c.requires.made in
    let piece : IsPieceOf a.course.geometry a.course.aim c.args.chunk c.args.from c.args.to = subst (λ (w : GatherOf). IsPieceOf w.course.geometry w.course.aim c.args.chunk c.args.from c.args.to) was c.requires.wanted in
    let below : c.args.chunk < length c.args.made.now = subst (λ n. c.args.chunk < n) (sym all.chunks.count) (is_server a.course.geometry a.stamp.content a.course.gone a.course.aim geometry c.args.made.now a.wanted.items c.args.chunk c.args.from c.args.to piece) in
    let inside : c.args.chunk < length a.wanted.items = subst (λ n. c.args.chunk < n) (sym c.self.invariant.own_parts.count) (is_server a.course.geometry a.stamp.content a.course.gone a.course.aim geometry c.args.made.now a.wanted.items c.args.chunk c.args.from c.args.to piece) in
    let done = subst (λ (w : GatherOf). has_bytes w.course.stage ≡ true) was c.requires.parts in
    not_nowhere a.course.geometry a.stamp.content a.course.gone a.course.aim geometry c.args.made.now a.wanted.items c.args.chunk c.args.from c.args.to piece all
    (all_parts a.stamp a.course a.wanted.items a.helpers.items c.self.invariant done geometry).wanted
    (read_none c.args.made.now c.args.chunk c.index-made-chunk.result below c.index-made-chunk.is c.in_default.is)
    (read_none a.wanted.items c.args.chunk c.index.result.now inside c.index.ensures c.in-None.is)

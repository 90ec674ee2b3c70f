use Rattle.std.proofs.Common.{◌≡◌, ◌+◌, ◌-◌, ◌<◌, ◌≤◌, List, Some, length, map, vec_len, vec_capacity, refl, ap, sym, ◌∙◌, arith}
use Rattle.std.proofs.lemmas.List.{length-map}
use Rattle.std.proofs.lemmas.Option.{slice_get_read}
use Rattle.std.specs.List.{slice_get}
use Rattle.clay_grid.specs.Shape.{Shape}
use Rattle.store_map.specs.declared.placement.Placement.{Placement}
use Rattle.write_course.specs.Chunks.{new_placing}
use Rattle.write_course.specs.Inside.{prepared_in}
use Rattle.write_course.proofs.Steps.{keeps_due, encoded_kept}
use Rattle.write_course.proofs.writing.Writing.encode.Goals as goal

pub invariant_of-self-2 : goal.invariant_of-self-2
invariant_of-self-2 g c =
    let kept = c.self.invariant in
    let items : c.reserve.new.self.items ≡ c.self.inside.rows.items = c.in_ok-reserve.ensures.items in
    let rows : List (List Placement) = map (λ row. row.items) c.reserve.new.self.items in
    let same : map (λ row. row.items) c.reserve.new.self.items ≡ (prepared_in c.self.inside).rows = ap (map (λ row. row.items)) items in
    let count : length (map (λ row. row.items) c.reserve.new.self.items) ≡ length c.reserve.new.self.items = length-map c.reserve.new.self.items (λ row. row.items) in
    let more : length (prepared_in c.self.inside).rows < length c.self.inside.stamps.items = (keeps_due c.self.inside kept c.args.self.now c.self.view_is c.requires.due).more in
    let there : length (map (λ row. row.items) c.reserve.new.self.items) ≡ length (prepared_in c.self.inside).rows = ap length same in
    let room : vec_len c.reserve.new.self + (c.len-2.result - c.len-3.result) ≤ vec_capacity c.reserve.new.self = c.in_ok-reserve.ensures.ok in
    let long : vec_len c.reserve.new.self ≡ length c.reserve.new.self.items = c.reserve.new.self.ok.0 in
    let stamps : vec_len c.self.inside.stamps ≡ length c.self.inside.stamps.items = c.self.inside.stamps.ok.0 in
    let before : vec_len c.self.inside.rows ≡ length c.self.inside.rows.items = c.self.inside.rows.ok.0 in
    let were : length (prepared_in c.self.inside).rows ≡ length c.self.inside.rows.items = length-map c.self.inside.rows.items (λ row. row.items) in
    let two : c.len-2.result ≡ vec_len c.self.inside.stamps = c.len-2.ensures in
    let three : c.len-3.result ≡ vec_len c.self.inside.rows = c.len-3.ensures in
    let one : c.len.result ≡ vec_len c.self.inside.rows = c.len.ensures in
    let left : length (map (λ row. row.items) c.reserve.new.self.items) < vec_capacity c.reserve.new.self = omega arith in
    let place : c.len.result ≡ length (map (λ row. row.items) c.reserve.new.self.items) = omega arith in
    let within : c.len.result < length c.self.inside.stamps.items = omega arith in
    let read : slice_get c.self.inside.stamps.items c.len.result ≡ Some c.index.result.now = slice_get_read c.self.inside.stamps.items _ _ c.index.result.now refl within c.index.ensures in
    let copied : c.copy-stamp.result ≡ c.index.result.now = c.copy-stamp.ensures in
    let own : slice_get c.self.inside.stamps.items (length (map (λ row. row.items) c.reserve.new.self.items)) ≡ Some c.copy-stamp.result
    = ap (slice_get c.self.inside.stamps.items) (sym place) ∙ read ∙ ap Some (sym copied) in
    let made : c.in_ok-new.field-0 ≡ new_placing c.self.inside.opening.geometry c.copy-stamp.result = c.in_ok-new.ensures ∙ ap (λ (g : Shape). new_placing g c.copy-stamp.result) c.geometry-geometry.ensures in
    record {
      servers = kept.servers;
      home = kept.home;
      numbered = kept.numbered;
      whole = rw same kept.whole;
      kept =
          encoded_kept c.self.inside kept c.args.self.now c.self.view_is c.requires.due (map (λ row. row.items) c.reserve.new.self.items) (vec_capacity c.reserve.new.self) c.in_ok-new.field-0 c.copy-stamp.result
          same left made own;
    }

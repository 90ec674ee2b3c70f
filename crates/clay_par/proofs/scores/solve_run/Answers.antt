use Rattle.std.proofs.Common.{◌≡◌, ◌≢◌, ℕ, ◌+◌, ◌-◌, ◌*◌, ◌<◌, ◌≤◌, List, length, get_or, take, drop, sym, subst, ap, ◌∙◌, arith}
use Rattle.clay_grid.specs.Shape.{layer_count}
use Rattle.code_laws.proofs.Pieces.{piece_fits}
use Rattle.clay_model.specs.Left.{Completes}
use Rattle.code_laws.proofs.Layer.{other_layer}
use Rattle.clay_lanes.specs.Recovered.{HoldsLower, AreRowsOfLayers}
use Rattle.clay_par.proofs.Makes.{written_all}
use Rattle.clay_par.proofs.ScoreLemmas.{part_at, part_long, run_next, run_solved}
use Rattle.clay_par.proofs.scores.solve_run.Goals as goal

pub solve_rows-requires-clause-next : goal.solve_rows-requires-clause-next
solve_rows-requires-clause-next g c κs within = λ i h.
    let shape = c.args.g in
    let have = c.args.have.now in
    let plan = c.args.plan.now in
    let items : List ℕ = plan.layers.items in
    let from : ℕ = c.args.from in
    let count : ℕ = c.args.count in
    let k : ℕ = from + count - from in
    let width : k ≡ count = omega arith in
    let inside = c.requires.run.inside in
    let sub : List ℕ = take k (drop from c.deref.result.now) in
    let long : length sub ≡ count = subst (λ l. length (take k (drop from l)) ≡ count) (sym c.deref.ensures.value) (part_long items from k count width inside) in
    let hi : i < count = omega (arith, h, long) in
    let is : get_or sub i 0 ≡ get_or items (from + i) 0 = subst (λ l. get_or (take k (drop from l)) i 0 ≡ get_or items (from + i) 0) (sym c.deref.ensures.value) (part_at items from k count i width hi) in
    let order = c.requires.plan.nodes.order in (
      subst (λ v. v < layer_count shape) (sym is) (order.only_layers (from + i) (omega (arith, hi, inside))),
      subst (λ v. HoldsLower shape (λ word. Completes shape have word) c.args.at c.args.len plan.erased.items plan.points.items v c.args.solved.now) (sym is)
          (run_next shape have plan c.args.at c.args.len from count i c.args.solved.now order c.requires.run hi c.requires.before),
    )

pub place_rows-requires-clause-inside : goal.place_rows-requires-clause-inside
place_rows-requires-clause-inside g c = λ i h.
    let shape = c.args.g in
    let plan = c.args.plan.now in
    let items : List ℕ = plan.layers.items in
    let from : ℕ = c.args.from in
    let count : ℕ = c.args.count in
    let k : ℕ = from + count - from in
    let width : k ≡ count = omega arith in
    let inside = c.requires.run.inside in
    let sub : List ℕ = take k (drop from c.deref.result.now) in
    let long : length sub ≡ count = subst (λ l. length (take k (drop from l)) ≡ count) (sym c.deref.ensures.value) (part_long items from k count width inside) in
    let hi : i < count = omega (arith, h, long) in
    let is : get_or sub i 0 ≡ get_or items (from + i) 0 = subst (λ l. get_or (take k (drop from l)) i 0 ≡ get_or items (from + i) 0) (sym c.deref.ensures.value) (part_at items from k count i width hi) in
    let below : get_or sub i 0 < layer_count shape = subst (λ v. v < layer_count shape) (sym is) (c.requires.plan.nodes.order.only_layers (from + i) (omega (arith, hi, inside))) in
    let part : ℕ = c.len.result * c.args.len in
    let points : c.len.result ≡ length plan.points.items = omega (arith, c.len.ensures, plan.points.ok.0) in
    let whole : layer_count shape * part ≡ layer_count shape * (length plan.points.items * c.args.len) = ap (λ n. layer_count shape * (n * c.args.len)) points in
    let fits : get_or sub i 0 * part + part ≤ layer_count shape * part = piece_fits (get_or sub i 0) (layer_count shape) part below in
    omega (arith, fits, whole, c.requires.solved_len)

pub place_rows-requires-clause-different : goal.place_rows-requires-clause-different
place_rows-requires-clause-different g c = λ i j earlier h same.
    let plan = c.args.plan.now in
    let items : List ℕ = plan.layers.items in
    let from : ℕ = c.args.from in
    let count : ℕ = c.args.count in
    let k : ℕ = from + count - from in
    let width : k ≡ count = omega arith in
    let inside = c.requires.run.inside in
    let sub : List ℕ = take k (drop from c.deref.result.now) in
    let long : length sub ≡ count = subst (λ l. length (take k (drop from l)) ≡ count) (sym c.deref.ensures.value) (part_long items from k count width inside) in
    let is : (v : ℕ) → v < count → get_or sub v 0 ≡ get_or items (from + v) 0 =
    λ v hv. subst (λ l. get_or (take k (drop from l)) v 0 ≡ get_or items (from + v) 0) (sym c.deref.ensures.value) (part_at items from k count v width hv) in
    other_layer c.args.g plan.erased.items items c.requires.plan.nodes.order (from + i) (from + j) (omega (arith, earlier)) (omega (arith, h, long, inside))
    (sym (is i (omega (arith, earlier, h, long))) ∙ same ∙ is j (omega (arith, h, long)))

pub returns : goal.returns
returns g c =
    let shape = c.args.g in
    let have = c.args.have.now in
    let plan = c.args.plan.now in
    let items : List ℕ = plan.layers.items in
    let from : ℕ = c.args.from in
    let count : ℕ = c.args.count in
    let len : ℕ = c.args.len in
    let k : ℕ = from + count - from in
    let width : k ≡ count = omega arith in
    let inside = c.requires.run.inside in
    let order = c.requires.plan.nodes.order in
    let sub : List ℕ = take k (drop from c.deref.result.now) in
    let long : length sub ≡ count = subst (λ l. length (take k (drop from l)) ≡ count) (sym c.deref.ensures.value) (part_long items from k count width inside) in
    let is : (v : ℕ) → v < count → get_or sub v 0 ≡ get_or items (from + v) 0 =
    λ v hv. subst (λ l. get_or (take k (drop from l)) v 0 ≡ get_or items (from + v) 0) (sym c.deref.ensures.value) (part_at items from k count v width hv) in
    let points : c.len.result ≡ length plan.points.items = omega (arith, c.len.ensures, plan.points.ok.0) in
    let made = c.in_ok-rows.rows in
    let rows : List ℕ = c.solve_rows.new.rows in
    let size : length rows ≡ length made.items = c.solve_rows.auto.rows ∙ ap length c.deref_mut.ensures.value in
    let rows_are : c.deref-2.result.now ≡ rows = c.deref-2.ensures.value ∙ written_all made.len made.items rows (omega (arith, made.ok.0)) size in
    let old : List ℕ = c.args.solved.now in
    let new : List ℕ = c.place_rows.new.solved in
    let placed : (i o : ℕ) → i < count → o < c.len.result * len → get_or new (get_or sub i 0 * (c.len.result * len) + o) 0 ≡ get_or rows (i * (c.len.result * len) + o) 0 =
    λ i o hi ho. c.place_rows.ensures.placed i o (omega (arith, hi, long)) ho ∙ ap (λ l. get_or l (i * (c.len.result * len) + o) 0) rows_are in
    let kept : (z o : ℕ) → o < c.len.result * len → ((i : ℕ) → i < count → get_or sub i 0 ≢ z) → get_or new (z * (c.len.result * len) + o) 0 ≡ get_or old (z * (c.len.result * len) + o) 0 =
    λ z o ho others. c.place_rows.ensures.kept z o ho (λ i hi. others i (omega (arith, hi, long))) in
    run_solved shape have plan c.args.at len from count sub rows old new
    (subst (λ n. AreRowsOfLayers shape (λ word. Completes shape have word) c.args.at len plan.points.items sub n rows) long c.solve_rows.ensures)
    is
    (λ j i hj hi same. other_layer shape plan.erased.items items order j (from + i) (omega (arith, hj)) (omega (arith, hi, inside)) (sym same ∙ is i hi))
    (subst (λ n. (i o : ℕ) → i < count → o < n * len → get_or new (get_or sub i 0 * (n * len) + o) 0 ≡ get_or rows (i * (n * len) + o) 0) points placed)
    (subst (λ n. (z o : ℕ) → o < n * len → ((i : ℕ) → i < count → get_or sub i 0 ≢ z) → get_or new (z * (n * len) + o) 0 ≡ get_or old (z * (n * len) + o) 0) points kept)
    c.requires.before

use Rattle.std.proofs.Common.{◌+◌, ◌*◌, ◌^◌, ◌<◌, ◌≤◌, subst, sym, arith, inl, inr}
use Rattle.clay_grid.proofs.LimitLaws.{many_layers, layers_fit, columns_made, layers_made, IsGeometry-limits}
use Rattle.clay_grid.proofs.geometry.Geometry.new.Goals as goal
use Rattle.clay_grid.proofs.geometry.Geometry.new.Goals.{then-w-lt1-via-then-w-lt1, then-w-lt1-via-else-w-lt1+then-w-gt-MAX_WIDTH}

pub returns-then-t-gt-MAX_COLUMNS-clause-refused :
    goal.returns-then-t-gt-MAX_COLUMNS-clause-refused
returns-then-t-gt-MAX_COLUMNS-clause-refused c =
    let many = many_layers c.args.m (c.div_ceil-t.result + 1) c.if-m-lt-MIN_PARITY.false c.if-t-gt-MAX_COLUMNS.true in
    let columns = columns_made c.args.k c.args.m c.args.w c.div_ceil-t.result c.if-m-lt-MIN_PARITY.false c.div_ceil-t.ensures in
    (c.if-k-lt-MIN_DATA.false, c.if-m-lt-MIN_PARITY.false, c.if-m-gt-MAX_PARITY.false, subst (λ t. 1024 < c.args.m ^ t) (sym columns) many)

pub pow-alpha-requires : goal.pow-alpha-requires
pow-alpha-requires c = layers_fit c.args.m (c.div_ceil-t.result + 1) c.if-m-lt-MIN_PARITY.false c.if-m-gt-MAX_PARITY.false c.if-t-gt-MAX_COLUMNS.false

pub returns-then-alpha-gt-MAX_LAYERS-clause-refused :
    goal.returns-then-alpha-gt-MAX_LAYERS-clause-refused
returns-then-alpha-gt-MAX_LAYERS-clause-refused c =
    let layers = layers_made c.args.k c.args.m c.args.w c.div_ceil-t.result c.pow-alpha.result c.if-m-lt-MIN_PARITY.false c.div_ceil-t.ensures c.pow-alpha.ensures in
    (c.if-k-lt-MIN_DATA.false, c.if-m-lt-MIN_PARITY.false, c.if-m-gt-MAX_PARITY.false, omega (arith, layers))

pub returns-then-w-lt1-clause-refused : goal.returns-then-w-lt1-clause-refused
returns-then-w-lt1-clause-refused c =
    let layers = layers_made c.args.k c.args.m c.args.w c.div_ceil-t.result c.pow-alpha.result c.if-m-lt-MIN_PARITY.false c.div_ceil-t.ensures c.pow-alpha.ensures in (
      c.if-k-lt-MIN_DATA.false,
      c.if-m-lt-MIN_PARITY.false,
      c.if-m-gt-MAX_PARITY.false,
      omega (arith, layers, c.if-alpha-gt-MAX_LAYERS.false),
      elim c.then-w-lt1.branch [
        | then-w-lt1-via-then-w-lt1 w ↦ inl w.if-w-lt1.true
        | then-w-lt1-via-else-w-lt1+then-w-gt-MAX_WIDTH w ↦ inr w.if-w-gt-MAX_WIDTH.true
      ],
    )

pub returns-then-alpha-w-gt-MAX_CHUNK_LEN-clause-refused :
    goal.returns-then-alpha-w-gt-MAX_CHUNK_LEN-clause-refused
returns-then-alpha-w-gt-MAX_CHUNK_LEN-clause-refused c =
    let layers = layers_made c.args.k c.args.m c.args.w c.div_ceil-t.result c.pow-alpha.result c.if-m-lt-MIN_PARITY.false c.div_ceil-t.ensures c.pow-alpha.ensures in (
      c.if-k-lt-MIN_DATA.false,
      c.if-m-lt-MIN_PARITY.false,
      c.if-m-gt-MAX_PARITY.false,
      omega (arith, layers, c.if-alpha-gt-MAX_LAYERS.false),
      omega (arith, c.if-w-lt1.false),
      c.if-w-gt-MAX_WIDTH.false,
      subst (λ n. 1048576 < n * c.args.w) (sym layers) c.if-alpha-w-gt-MAX_CHUNK_LEN.true,
    )

pub invariant_of-result : goal.invariant_of-result
invariant_of-result c =
    let columns = columns_made c.args.k c.args.m c.args.w c.div_ceil-t.result c.if-m-lt-MIN_PARITY.false c.div_ceil-t.ensures in
    let layers = layers_made c.args.k c.args.m c.args.w c.div_ceil-t.result c.pow-alpha.result c.if-m-lt-MIN_PARITY.false c.div_ceil-t.ensures c.pow-alpha.ensures in
    record {
      columns_are = columns;
      layers_are = layers;
      geometry = IsGeometry-limits _ (record {
        data_chunks = c.if-k-lt-MIN_DATA.false;
        parity_chunks = (c.if-m-lt-MIN_PARITY.false, c.if-m-gt-MAX_PARITY.false);
        layers = omega (arith, layers, c.if-alpha-gt-MAX_LAYERS.false);
        width = (omega (arith, c.if-w-lt1.false), c.if-w-gt-MAX_WIDTH.false);
        chunk = subst (λ n. n * c.args.w ≤ 1048576) (sym layers) c.if-alpha-w-gt-MAX_CHUNK_LEN.false;
      });
    }

pub returns-clause-geometry : goal.returns-clause-geometry
returns-clause-geometry c = (invariant_of-result c).geometry

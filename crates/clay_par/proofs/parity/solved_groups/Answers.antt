use Rattle.std.proofs.Common.{◌≡◌, ℕ, ◌<◌, List, length, get_or, All, sym, subst, ap, ◌∙◌, arith}
use Rattle.clay_parity.specs.Blocks.{HoldsGroup}
use Rattle.clay_parity.specs.Solved.{layer_value}
use Rattle.clay_par.specs.Groups.{HasRoom, AreSolved}
use Rattle.clay_par.specs.declared.parity.Group.{Group}
use Rattle.clay_par.proofs.Makes.{written_all}
use Rattle.clay_par.proofs.GroupLemmas.{held}
use Rattle.clay_par.proofs.parity.solved_groups.Goals as goal

pub solve_all-requires-clause-room : goal.solve_all-requires-clause-room
solve_all-requires-clause-room g c κs _ = subst (All (HasRoom c.args.g)) (sym c.deref_mut.ensures.value) c.in_ok-groups.ensures.room

pub solve_all-requires-clause-generator : goal.solve_all-requires-clause-generator
solve_all-requires-clause-generator g c κs _ = c.in_ok-generator.ensures

pub solve_all-requires-clause-whole : goal.solve_all-requires-clause-whole
solve_all-requires-clause-whole g c κs _ = c.requires

pub returns : goal.returns
returns g c =
    let shape = c.args.g in
    let stripe = c.args.stripe.now in
    let made = c.in_ok-generator.generator in
    let before = c.in_ok-groups.groups in
    let new : List Group = c.solve_all.new.groups in
    let groups = c.in_ok-groups.ensures in
    let value : ℕ → ℕ → ℕ → ℕ = layer_value shape made.each stripe in
    let size : length new ≡ length before.items = c.solve_all.auto.groups ∙ ap length c.deref_mut.ensures.value in
    let solved : (i : ℕ) (d : Group) → i < length before.items → HoldsGroup shape.parity_count shape.width (get_or before.items i d).number shape.parity_count value (get_or new i d).solved.items =
    subst (λ l. (i : ℕ) (d : Group) → i < length l → HoldsGroup shape.parity_count shape.width (get_or l i d).number shape.parity_count value (get_or new i d).solved.items) c.deref_mut.ensures.value c.solve_all.ensures.values in
    subst (AreSolved shape stripe) (sym (written_all before.len before.items new (omega (arith, before.ok.0)) size)) (record {
      geometry = groups.geometry;
      whole = record { count = size ∙ groups.count; room = c.solve_all.ensures.room };
      unknown = made.unknown;
      factors = made.each;
      generator = c.in_ok-generator.ensures;
      values = held shape value before.items new size groups.numbers solved;
    })

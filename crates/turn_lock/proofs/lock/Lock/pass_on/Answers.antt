use Rattle.std.proofs.Common.{rules, ◌≡◌, [], ◌∷◌, Option, Some, ap, sym, subst, ◌∙◌}
use mathlib.Core.Option.{none}
use Rattle.atomic_table.specs.Table.{Me, step, rest, Allows}
use Rattle.turn_lock.specs.declared.lock_view.View.{View}
use Rattle.turn_lock.specs.Rule.{Kept}
use Rattle.turn_lock.specs.Steps.{PassesOn}
use Rattle.turn_lock.proofs.Keeps.{passes}
use Rattle.turn_lock.proofs.lock.Lock.pass_on.Goals as goal

pub store-requires : goal.store-requires
store-requires g c =
    let v = c.args.seat.now.me.0 in
    let slots = c.self.inside.table.shared.table_id.slots in
    let id = c.exchange.new.seat.id in
    let is : c.exchange.new.seat.me ≡ (v, (0, Some c.args.value) ∷ []) = c.exchange.ensures.3 ∙ ap (λ l. (v, (0, Some c.args.value) ∷ rest l)) c.requires.held.2 in (
      search rules,
      search rules,
      subst (λ (x : Me (Option g.row.T.Denot) (View g.row.T-Fixed.Denot g.row.T-Entry.Denot)). Allows (Kept g.T.Historied.fixed_part g.T.Historied.stands_for) slots id x 0 (λ _. 0) (λ _. PassesOn g.N.Added.added (step slots 0 0 0 none) x 0)) (sym is)
          (passes g.T.Historied.fixed_part g.T.Historied.stands_for slots id (v, (0, Some c.args.value) ∷ []) c.args.value g.N.Added.added
          ((λ i. (0, Some c.args.value) ∷ []), c.requires.held.0, c.requires.held.1, c.requires.entry) c.self.inside.sized.1 c.args.number c.requires.number c.requires.fixed c.requires.stands),
    )

use Rattle.std.proofs.Common.{◌+◌, ◌<◌, subst, sym, arith}
use Rattle.clay_grid.specs.Shape.{row_count, node_count, layer_count}
use Rattle.clay_model.specs.Partners.{ArePartners}
use Rattle.clay_aloof.proofs.Layer.{some_rows}
use Rattle.clay_aloof.proofs.PartnerTables.{are_read, are_partners, partner_inside, partner_layer}
use Rattle.clay_aloof.proofs.partner_tables.Partners.of.Goals as goal

pub overflow_add-result : goal.overflow_add-result
overflow_add-result c =
    let inside = c.self.inside in
    let tables = c.self.invariant in
    let node : c.args.node < node_count inside.grid = subst (λ s. c.args.node < node_count s) (sym c.self.view_is) c.requires.node in
    let layer : c.args.z < layer_count inside.grid = subst (λ s. c.args.z < layer_count s) (sym c.self.view_is) c.requires.layer in
    let rows : 0 < row_count inside.grid = some_rows inside.grid tables.geometry in
    let place = c.index-place.result.now in
    let digit = c.index-digit.result.now in
    let read = are_read inside.grid inside.places.items inside.columns.items c.args.node c.args.z place c.index.result.now digit tables node layer c.index-place.ensures c.index.ensures c.index-digit.ensures in
    let within = partner_inside inside.grid rows c.args.node c.args.z node layer place digit read in
    let few = tables.geometry.nodes in
    omega (arith, within, few)

pub overflow_add-result-2 : goal.overflow_add-result-2
overflow_add-result-2 c =
    let inside = c.self.inside in
    let tables = c.self.invariant in
    let node : c.args.node < node_count inside.grid = subst (λ s. c.args.node < node_count s) (sym c.self.view_is) c.requires.node in
    let layer : c.args.z < layer_count inside.grid = subst (λ s. c.args.z < layer_count s) (sym c.self.view_is) c.requires.layer in
    let rows : 0 < row_count inside.grid = some_rows inside.grid tables.geometry in
    let place = c.index-place.result.now in
    let digit = c.index-digit.result.now in
    let read = are_read inside.grid inside.places.items inside.columns.items c.args.node c.args.z place c.index.result.now digit tables node layer c.index-place.ensures c.index.ensures c.index-digit.ensures in
    let within = partner_layer inside.grid rows c.args.node c.args.z node layer place digit read in
    let few = tables.geometry.limits.layers in
    omega (arith, within, few)

pub returns-clause-partners : goal.returns-clause-partners
returns-clause-partners c =
    let inside = c.self.inside in
    let tables = c.self.invariant in
    let node : c.args.node < node_count inside.grid = subst (λ s. c.args.node < node_count s) (sym c.self.view_is) c.requires.node in
    let layer : c.args.z < layer_count inside.grid = subst (λ s. c.args.z < layer_count s) (sym c.self.view_is) c.requires.layer in
    let rows : 0 < row_count inside.grid = some_rows inside.grid tables.geometry in
    let place = c.index-place.result.now in
    let digit = c.index-digit.result.now in
    let read = are_read inside.grid inside.places.items inside.columns.items c.args.node c.args.z place c.index.result.now digit tables node layer c.index-place.ensures c.index.ensures c.index-digit.ensures in
    subst (λ s. ArePartners s c.args.node c.args.z (place.first + digit.value) (digit.rest + place.counts)) c.self.view_is
    (are_partners inside.grid rows c.args.node c.args.z node layer place digit read)

pub returns-clause-in_grid : goal.returns-clause-in_grid
returns-clause-in_grid c =
    let inside = c.self.inside in
    let tables = c.self.invariant in
    let node : c.args.node < node_count inside.grid = subst (λ s. c.args.node < node_count s) (sym c.self.view_is) c.requires.node in
    let layer : c.args.z < layer_count inside.grid = subst (λ s. c.args.z < layer_count s) (sym c.self.view_is) c.requires.layer in
    let rows : 0 < row_count inside.grid = some_rows inside.grid tables.geometry in
    let place = c.index-place.result.now in
    let digit = c.index-digit.result.now in
    let read = are_read inside.grid inside.places.items inside.columns.items c.args.node c.args.z place c.index.result.now digit tables node layer c.index-place.ensures c.index.ensures c.index-digit.ensures in
    subst (λ s. place.first + digit.value < node_count s) c.self.view_is (partner_inside inside.grid rows c.args.node c.args.z node layer place digit read)

pub returns-clause-in_layers : goal.returns-clause-in_layers
returns-clause-in_layers c =
    let inside = c.self.inside in
    let tables = c.self.invariant in
    let node : c.args.node < node_count inside.grid = subst (λ s. c.args.node < node_count s) (sym c.self.view_is) c.requires.node in
    let layer : c.args.z < layer_count inside.grid = subst (λ s. c.args.z < layer_count s) (sym c.self.view_is) c.requires.layer in
    let rows : 0 < row_count inside.grid = some_rows inside.grid tables.geometry in
    let place = c.index-place.result.now in
    let digit = c.index-digit.result.now in
    let read = are_read inside.grid inside.places.items inside.columns.items c.args.node c.args.z place c.index.result.now digit tables node layer c.index-place.ensures c.index.ensures c.index-digit.ensures in
    subst (λ s. digit.rest + place.counts < layer_count s) c.self.view_is (partner_layer inside.grid rows c.args.node c.args.z node layer place digit read)

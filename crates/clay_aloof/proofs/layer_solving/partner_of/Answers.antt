use Rattle.std.proofs.Common.{◌<◌, subst, sym}
use Rattle.clay_grid.specs.Shape.{node_count, layer_count}
use Rattle.clay_model.specs.Partners.{ArePartners}
use Rattle.clay_aloof.proofs.layer_solving.partner_of.Goals as goal

pub of-requires-clause-node : goal.of-requires-clause-node
of-requires-clause-node c = subst (λ s. c.args.node < node_count s) (sym c.requires.plan.tables) c.requires.node

pub of-requires-clause-layer : goal.of-requires-clause-layer
of-requires-clause-layer c = subst (λ s. c.args.z < layer_count s) (sym c.requires.plan.tables) c.requires.layer

pub returns-clause-partners : goal.returns-clause-partners
returns-clause-partners c = subst (λ s. ArePartners s c.args.node c.args.z c.of.result.node c.of.result.layer) c.requires.plan.tables c.of.ensures.partners

pub returns-clause-in_grid : goal.returns-clause-in_grid
returns-clause-in_grid c = subst (λ s. c.of.result.node < node_count s) c.requires.plan.tables c.of.ensures.in_grid

pub returns-clause-in_layers : goal.returns-clause-in_layers
returns-clause-in_layers c = subst (λ s. c.of.result.layer < layer_count s) c.requires.plan.tables c.of.ensures.in_layers

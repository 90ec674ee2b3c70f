-- The names of calls by whose they are.
use Rattle.std.specs.Prelude.{ℕ}
use Rattle.store_map.specs.declared.call_name.CallName.{CallName}
use Rattle.store_core.specs.Shown.{client_name, repairer_name}
use Rattle.world_lines.specs.declared.role.Role.{Role}
use Rattle.world_lines.specs.declared.role.Role.TheVariants as role

-- of an actor of this number the call of this number
abbrev pub name_by : Role → ℕ → ℕ → CallName
name_by role.Client = client_name
name_by role.Repairer = repairer_name

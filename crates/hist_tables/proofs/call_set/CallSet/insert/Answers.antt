use Rattle.std.proofs.Common.{◌≡◌, ℕ, Bool, true, false, refl, sym, ap, ◌∙◌}
use Rattle.std.specs.Prelude.{◌||◌, ◌&&◌, cond, nat_eq}
use Rattle.store_map.specs.declared.call_name.ClientCall.{ClientCall}
use Rattle.store_map.specs.declared.call_name.RepairCall.{RepairCall}
use Rattle.store_map.specs.declared.call_name.CallName.{CallName}
use Rattle.store_map.specs.declared.call_name.CallName.TheVariants.{Client, Repairer}
use Rattle.hist_rules.specs.Calls.{same_call}
use Rattle.hist_tables.specs.Tables.{has}
use Rattle.hist_tables.specs.declared.call_set.CallSet.{CallSet}
use Rattle.hist_tables.proofs.Names.{same_call_either_way}
use Rattle.hist_tables.proofs.call_set.CallSet.insert.Goals as goal

cond_or : (b c : Bool) → cond b true c ≡ (b || c)
cond_or true c = refl
cond_or false c = refl

turned : (call other : CallName) (c : Bool) → (same_call call other || c) ≡ (same_call other call || c)
turned call other c = ap (λ (b : Bool). b || c) (same_call_either_way call other)

client_added : (old new : CallSet) (call : ClientCall)
    → ((i n : ℕ) → has new (Client (record { client = i; number = n })) ≡ cond (nat_eq call.client i && nat_eq call.number n) true (has old (Client (record { client = i; number = n }))))
    → ((other : RepairCall) → has new (Repairer other) ≡ has old (Repairer other))
    → (other : CallName) → has new other ≡ (same_call other (Client call) || has old other)
client_added old new call added same (Client c) =
    added c.client c.number ∙ cond_or (nat_eq call.client c.client && nat_eq call.number c.number) (has old (Client c)) ∙ turned (Client call) (Client c) (has old (Client c))
client_added old new call added same (Repairer c) = same c

repairer_added : (old new : CallSet) (call : RepairCall)
    → ((i n : ℕ) → has new (Repairer (record { repairer = i; number = n })) ≡ cond (nat_eq call.repairer i && nat_eq call.number n) true (has old (Repairer (record { repairer = i; number = n }))))
    → ((other : ClientCall) → has new (Client other) ≡ has old (Client other))
    → (other : CallName) → has new other ≡ (same_call other (Repairer call) || has old other)
repairer_added old new call added same (Client c) = same c
repairer_added old new call added same (Repairer c) =
    added c.repairer c.number ∙ cond_or (nat_eq call.repairer c.repairer && nat_eq call.number c.number) (has old (Repairer c)) ∙ turned (Repairer call) (Repairer c) (has old (Repairer c))

pub returns-in_ok-insert-in-Client : goal.returns-in_ok-insert-in-Client
returns-in_ok-insert-in-Client c = λ other.
    client_added c.args.self.now (record { clients = c.insert.new.self; repairers = c.args.self.now.repairers }) c.in-Client.call
    (λ i n. c.in_ok-insert-in-Client.ensures i n) (λ c. refl) other
    ∙ ap (λ (call : CallName). same_call other call || has c.args.self.now other) (sym c.in-Client.is)

pub returns-in_ok-insert-in-Repairer : goal.returns-in_ok-insert-in-Repairer
returns-in_ok-insert-in-Repairer c = λ other.
    repairer_added c.args.self.now (record { clients = c.args.self.now.clients; repairers = c.insert-in-Repairer.new.self }) c.in-Repairer.call
    (λ i n. c.in_ok-insert-in-Repairer.ensures i n) (λ c. refl) other
    ∙ ap (λ (call : CallName). same_call other call || has c.args.self.now other) (sym c.in-Repairer.is)

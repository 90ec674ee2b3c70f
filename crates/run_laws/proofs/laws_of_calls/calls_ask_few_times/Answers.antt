use Rattle.run_laws.proofs.Asks.{asks_few_times}
use Rattle.run_laws.proofs.laws_of_calls.calls_ask_few_times.Goals as goal

pub returns : goal.returns
returns c = asks_few_times

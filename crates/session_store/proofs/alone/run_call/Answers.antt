use Rattle.session_store.proofs.alone.run_call.Goals as goal

pub returns : goal.returns
returns g c = record {
  last = c.run_to_end.new.call;
  ran = c.run_to_end.ensures.ran;
  token = c.finish.ensures.seat;
  kind = c.finish.ensures.kind;
  over = c.finish.ensures.outcome;
  served = c.finish.ensures.served;
  taken = c.finish.ensures.takes;
}

use Rattle.store_run.proofs.Closing.{directory_out}
use Rattle.store_run.proofs.ended.close_directory.Goals as goal

pub returns : goal.returns
returns g c =
    let held = c.take_out_by-directory.result in
    let out = c.take_out_by-directory.ensures.stands in
    directory_out c.args.store.now g.identity c.args.turns.items held out.0 c.requires.1.0 c.take_out_by-directory.ensures.fixed out.1 out.2

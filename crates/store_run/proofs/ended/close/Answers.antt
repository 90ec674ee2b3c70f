use Rattle.std.proofs.Common.{rules, refl}
use Rattle.store_run.proofs.Closing.{all_rows, all_turns}
use Rattle.store_run.proofs.Ends.{is_ended}
use Rattle.store_run.proofs.ended.close.Goals as goal

pub close_directory-directory-requires : goal.close_directory-directory-requires
close_directory-directory-requires g c κs within = (search rules, (refl, all_turns c.args.store.now c.requires.store c.args.left c.requires.left))

pub close_servers-requires : goal.close_servers-requires
close_servers-requires g c κs within = (search rules, (refl, all_rows c.args.store.now c.requires.store c.args.left c.requires.left))

pub returns : goal.returns
returns g c =
    is_ended c.args.store.now c.requires.store c.args.left c.requires.left c.close_directory-directory.result c.close_directory-directory.ensures c.in_ok-servers.servers c.in_ok-servers.ensures

use Rattle.run_seats.specs.Places.{directory_of, server_of}
use Rattle.store_run.proofs.ended.close.Given as goal

abbrev pub ghost-close_directory : goal.ghost-close_directory
ghost-close_directory g a = directory_of a.store.now

abbrev pub ghost-close_servers : goal.ghost-close_servers
ghost-close_servers g a = server_of a.store.now

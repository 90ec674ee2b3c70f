use Rattle.run_seats.specs.Places.{directory_for}
use Rattle.run_seats.specs.declared.directory_box.DirectoryIdentity.{DirectoryIdentity}
use Rattle.store_run.specs.Dealt.{turns_of}
use Rattle.store_run.proofs.FirstPlaces.{directory_begins, turns_dealt}
use Rattle.store_run.proofs.locked_places.lock_directory.Goals as goal

pub new-requires : goal.new-requires
new-requires c = record { empty = directory_begins _ _ _ c.args.directory c.requires.new c.max_size.ensures }

pub returns : goal.returns
returns c =
    let fixed : DirectoryIdentity = record { opening = c.args.directory.book; max = c.max_size.result; clients = c.len.result; repairers = c.len-2.result } in
    turns_dealt c.new.result c.count_turns.result (turns_of c.args.script.now) fixed (directory_for c.args.script.now c.args.directory.book) c.count_turns.ensures
    (λ i. record { opening = c.args.directory.book; max = c.max_size.ensures i; clients = c.len.ensures i; repairers = c.len-2.ensures i }) c.new.ensures.count c.new.ensures.turns

use Rattle.std.proofs.Common.{◌≡◌}
use Rattle.file_bytes.proofs.MemoryLemmas.{lay_back}
use Rattle.file_bytes.proofs.memory_file.lay.Goals as goal

pub returns-clause-laid : goal.returns-clause-laid
returns-clause-laid c =
    let shown : c.deref_mut.result.now ≡ c.fill_up.new.bytes.items = search in
    let copied : c.copy_from_slice.new.self ≡ c.args.piece.now = search in
    lay_back c.args.place c.args.piece.now c.args.bytes.now.items c.fill_up.new.bytes.items c.deref_mut.result.now c.copy_from_slice.new.self
    c.fill_up.new.bytes.len shown copied c.fill_up.ensures.filled c.fill_up.new.bytes.ok.0

use Rattle.std.proofs.Common.{◌≡◌}
use Rattle.file_bytes.proofs.MemoryLemmas.{shows_read}
use Rattle.file_bytes.proofs.memory_file.MemFileSourceAt.read_at.Goals as goal

pub returns-clause-shows : goal.returns-clause-shows
returns-clause-shows c =
    let same : c.deref.result.now ≡ c.self.inside.bytes.items = search in
    rw (← c.self.view_is) (λ shows.
    shows_read c.self.inside.bytes.items c.deref.result.now same c.self.inside.given c.add-2.new.self c.self.inside.ends c.add_end.new.self c.args.at c.copy_from-n.result
    c.copy_from-n.new.buf c.copy_from-n.ensures.copied c.copy_from-n.ensures.inside c.copy_from-n.ensures.end c.add-2.ensures c.add_end.ensures shows)

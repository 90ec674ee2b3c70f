use Rattle.std.proofs.Common.{arith, ◌∙◌}
use Rattle.std.specs.declared.alloc.AllocError.{AllocError}
use Rattle.script_text.proofs.WriteLaws.{extended}
use Rattle.script_text.proofs.script_writing.push_number.Goals as goal

pub returns : goal.returns
returns c =
    extended AllocError c.extend_from_slice.result c.args.text.now.items c.extend_from_slice.new.self.items c.as_bytes.result.now c.args.number (omega arith)
    c.extend_from_slice.ensures.items (c.as_bytes.ensures.value ∙ c.format.ensures.text)

use Rattle.std.proofs.Common.{string_bytes}
use Rattle.std.specs.declared.alloc.Global.{Global}
use Rattle.frame_session.proofs.WordLaws.{asked_four}
use Rattle.frame_session.proofs.session_words.asked_by.Goals as goal

pub returns-in-len4 : goal.returns-in-len4
returns-in-len4 c =
    asked_four (string_bytes {Z = Global}) c.args.words.now c.k-item.result c.m-item.result c.w-item.result c.max-item.result c.as_str.result.now
    c.as_str-in-len4.result.now c.as_str-in-len4-2.result.now c.as_str-in-len4-3.result.now c.asked_of.result c.in-len4.len_at_least c.in-len4.len_below
    c.k-item.is c.m-item.is c.w-item.is c.max-item.is c.as_str.ensures.value c.as_str-in-len4.ensures.value c.as_str-in-len4-2.ensures.value
    c.as_str-in-len4-3.ensures.value c.asked_of.ensures

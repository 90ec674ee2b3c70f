use Rattle.std.proofs.Common.{◌≡◌, ◌≤◌, ◌+◌, ◌-◌, min, true, false, sym, subst, ◌∙◌, arith}
use Rattle.std.proofs.lemmas.Grind.{common_steps}
use Rattle.std.proofs.lemmas.Result.{IfOk-weaker, on_err_weaker}
use Rattle.byteorder.specs.Endian.{big_number}
use Rattle.session_rules.specs.Input.{is_frame_length}
use Rattle.frame_bytes.specs.declared.frame_reading.Next.{Next}
use Rattle.frame_bytes.specs.Body.{IsBody}
use Rattle.frame_bytes.specs.Next.{IsNext, StopsWithin, StopsAtLength}
use Rattle.frame_bytes.specs.Filling.{GivesFewer, HandsOutFewer}
use Rattle.frame_bytes.specs.Heard.{HandsOutNext, HandsOutBody, HandsOutPart, HandsOutLength}
use Rattle.frame_bytes.proofs.HeardLemmas.{heard_torn, heard_wrong, heard_next, heard_part, heard_length}
use Rattle.frame_bytes.proofs.ReadLemmas.{IsHead, torn, wrong, body, stops_in_body, stops_at_length}
use Rattle.frame_bytes.proofs.frame_reading.read_frame.Goals as goal

pub returns-then-read-lt4-clause-next : goal.returns-then-read-lt4-clause-next
returns-then-read-lt4-clause-next g c =
    let it : IsHead c.args.room c.in_ok-read.read c.fill.new.buf (g.S.Source.left c.args.source.now) (g.S.Source.left c.fill.new.source) =
    record { size = grind (arith, common_steps); within = c.in_ok-read.ensures.within; filled = c.in_ok-read.ensures.bytes } in
    torn c.args.room c.in_ok-read.read c.fill.new.buf (g.S.Source.left c.args.source.now) (g.S.Source.left c.fill.new.source) it (omega arith)
    (omega arith) (omega arith)

pub returns-then-not-is_frame_length-clause-next : goal.returns-then-not-is_frame_length-clause-next
returns-then-not-is_frame_length-clause-next g c =
    let it : IsHead c.args.room c.in_ok-read.read c.fill.new.buf (g.S.Source.left c.args.source.now) (g.S.Source.left c.fill.new.source) =
    record { size = grind (arith, common_steps); within = c.in_ok-read.ensures.within; filled = c.in_ok-read.ensures.bytes } in
    let ends : c.in_ok-read.read ≤ c.args.room = omega arith in
    let whole : 4 ≤ c.in_ok-read.read = omega arith in
    let number : c.read_u32-count.result ≡ big_number 4 c.fill.new.buf = c.read_u32-count.ensures in
    let not_right : is_frame_length c.read_u32-count.result ≡ false = sym c.is_frame_length.ensures ∙ c.if-not-is_frame_length.true in
    wrong c.args.room c.in_ok-read.read c.read_u32-count.result c.fill.new.buf (g.S.Source.left c.args.source.now)
    (g.S.Source.left c.fill.new.source) it ends whole number not_right

pub returns-clause-next : goal.returns-clause-next
returns-clause-next g c =
    let it : IsHead c.args.room c.in_ok-read.read c.fill.new.buf (g.S.Source.left c.args.source.now) (g.S.Source.left c.fill.new.source) =
    record { size = grind (arith, common_steps); within = c.in_ok-read.ensures.within; filled = c.in_ok-read.ensures.bytes } in
    let ends : c.in_ok-read.read ≤ c.args.room = omega arith in
    let whole : 4 ≤ c.in_ok-read.read = omega arith in
    let number : c.read_u32-count.result ≡ big_number 4 c.fill.new.buf = c.read_u32-count.ensures in
    let right : is_frame_length c.read_u32-count.result ≡ true = sym c.is_frame_length.ensures ∙ c.if-not-is_frame_length.false in
    let old = g.S.Source.left c.args.source.now in
    let mid = g.S.Source.left c.fill.new.source in
    let new = g.S.Source.left c.read_body.new.source in
    let step : (next : Next) → IsBody c.read_u32-count.result (c.args.room - 4) mid next new → IsNext c.args.room old next new =
    λ next is. body c.args.room c.in_ok-read.read c.read_u32-count.result c.fill.new.buf old mid new next it ends whole number right is in
    IfOk-weaker c.read_body.result (λ next. IsBody c.read_u32-count.result (c.args.room - 4) mid next new) (λ next. IsNext c.args.room old next new)
    step c.read_body.ensures.body

pub returns-clause-fault : goal.returns-clause-fault
returns-clause-fault g c =
    let it : IsHead c.args.room c.in_ok-read.read c.fill.new.buf (g.S.Source.left c.args.source.now) (g.S.Source.left c.fill.new.source) =
    record { size = grind (arith, common_steps); within = c.in_ok-read.ensures.within; filled = c.in_ok-read.ensures.bytes } in
    let ends : c.in_ok-read.read ≤ c.args.room = omega arith in
    let whole : 4 ≤ c.in_ok-read.read = omega arith in
    let number : c.read_u32-count.result ≡ big_number 4 c.fill.new.buf = c.read_u32-count.ensures in
    let right : is_frame_length c.read_u32-count.result ≡ true = sym c.is_frame_length.ensures ∙ c.if-not-is_frame_length.false in
    let old = g.S.Source.left c.args.source.now in
    let mid = g.S.Source.left c.fill.new.source in
    let new = g.S.Source.left c.read_body.new.source in
    let step : GivesFewer mid (min c.read_u32-count.result (c.args.room - 4 + 1)) new → StopsWithin c.args.room old new =
    λ gave. stops_in_body c.args.room c.in_ok-read.read c.read_u32-count.result c.fill.new.buf old mid new it ends whole number right gave in
    on_err_weaker c.read_body.result step c.read_body.ensures.fault

pub returns-clause-memory : goal.returns-clause-memory
returns-clause-memory g c = λ wanting.
    let it : IsHead c.args.room c.in_ok-read.read c.fill.new.buf (g.S.Source.left c.args.source.now) (g.S.Source.left c.fill.new.source) =
    record { size = grind (arith, common_steps); within = c.in_ok-read.ensures.within; filled = c.in_ok-read.ensures.bytes } in
    let ends : c.in_ok-read.read ≤ c.args.room = omega arith in
    let whole : 4 ≤ c.in_ok-read.read = omega arith in
    let number : c.read_u32-count.result ≡ big_number 4 c.fill.new.buf = c.read_u32-count.ensures in
    let right : is_frame_length c.read_u32-count.result ≡ true = sym c.is_frame_length.ensures ∙ c.if-not-is_frame_length.false in
    subst (λ source. StopsAtLength c.args.room (g.S.Source.left c.args.source.now) (g.S.Source.left source)) (sym (c.read_body.ensures.memory wanting))
    (stops_at_length c.args.room c.in_ok-read.read c.read_u32-count.result c.fill.new.buf (g.S.Source.left c.args.source.now)
    (g.S.Source.left c.fill.new.source) it ends whole number right)

pub returns-then-read-lt4-clause-heard : goal.returns-then-read-lt4-clause-heard
returns-then-read-lt4-clause-heard g c =
    heard_torn c.args.room c.in_ok-read.read c.fill.new.buf (grind (arith, common_steps)) c.in_ok-read.ensures.within _ _ _ _ _
    c.in_ok-read.ensures.handed_out c.in_ok-read.ensures.told (omega arith) (omega arith) (omega arith)

pub returns-then-not-is_frame_length-clause-heard : goal.returns-then-not-is_frame_length-clause-heard
returns-then-not-is_frame_length-clause-heard g c =
    let ends : c.in_ok-read.read ≤ c.args.room = omega arith in
    let whole : 4 ≤ c.in_ok-read.read = omega arith in
    let number : c.read_u32-count.result ≡ big_number 4 c.fill.new.buf = c.read_u32-count.ensures in
    let not_right : is_frame_length c.read_u32-count.result ≡ false = sym c.is_frame_length.ensures ∙ c.if-not-is_frame_length.true in
    heard_wrong c.args.room c.in_ok-read.read c.fill.new.buf (grind (arith, common_steps)) c.in_ok-read.ensures.within c.read_u32-count.result ends whole
    number _ _ _ _ _ c.in_ok-read.ensures.handed_out not_right

pub returns-clause-heard : goal.returns-clause-heard
returns-clause-heard g c =
    let ends : c.in_ok-read.read ≤ c.args.room = omega arith in
    let whole : 4 ≤ c.in_ok-read.read = omega arith in
    let number : c.read_u32-count.result ≡ big_number 4 c.fill.new.buf = c.read_u32-count.ensures in
    let right : is_frame_length c.read_u32-count.result ≡ true = sym c.is_frame_length.ensures ∙ c.if-not-is_frame_length.false in
    let old = c.args.source.now in
    let mid = c.fill.new.source in
    let new = c.read_body.new.source in
    let step : (next : Next)
    → HandsOutBody c.read_u32-count.result (c.args.room - 4) (g.S.Source.given mid) (g.S.Source.left mid) next (g.S.Source.given new) (g.S.Source.ended new) (g.S.Source.left new)
    → HandsOutNext c.args.room (g.S.Source.given old) (g.S.Source.left old) next (g.S.Source.given new) (g.S.Source.ended new) (g.S.Source.left new) =
    λ next is.
    heard_next c.args.room c.in_ok-read.read c.fill.new.buf (grind (arith, common_steps)) c.in_ok-read.ensures.within c.read_u32-count.result ends whole
    number right (g.S.Source.given old) (g.S.Source.given mid) (g.S.Source.given new) (g.S.Source.left old) (g.S.Source.left mid) (g.S.Source.left new)
    (g.S.Source.ended new) next c.in_ok-read.ensures.handed_out is in
    IfOk-weaker c.read_body.result
    (λ next. HandsOutBody c.read_u32-count.result (c.args.room - 4) (g.S.Source.given mid) (g.S.Source.left mid) next (g.S.Source.given new) (g.S.Source.ended new) (g.S.Source.left new))
    (λ next. HandsOutNext c.args.room (g.S.Source.given old) (g.S.Source.left old) next (g.S.Source.given new) (g.S.Source.ended new) (g.S.Source.left new))
    step c.read_body.ensures.heard

pub returns-clause-part : goal.returns-clause-part
returns-clause-part g c =
    let ends : c.in_ok-read.read ≤ c.args.room = omega arith in
    let whole : 4 ≤ c.in_ok-read.read = omega arith in
    let number : c.read_u32-count.result ≡ big_number 4 c.fill.new.buf = c.read_u32-count.ensures in
    let right : is_frame_length c.read_u32-count.result ≡ true = sym c.is_frame_length.ensures ∙ c.if-not-is_frame_length.false in
    let old = c.args.source.now in
    let mid = c.fill.new.source in
    let new = c.read_body.new.source in
    let step : HandsOutFewer (g.S.Source.given mid) (g.S.Source.left mid) (min c.read_u32-count.result (c.args.room - 4 + 1)) (g.S.Source.given new) (g.S.Source.left new)
    → HandsOutPart c.args.room (g.S.Source.given old) (g.S.Source.left old) (g.S.Source.given new) (g.S.Source.left new) =
    λ gave.
    heard_part c.args.room c.in_ok-read.read c.fill.new.buf (grind (arith, common_steps)) c.in_ok-read.ensures.within c.read_u32-count.result ends whole
    number right (g.S.Source.given old) (g.S.Source.given mid) (g.S.Source.given new) (g.S.Source.left old) (g.S.Source.left mid) (g.S.Source.left new)
    c.in_ok-read.ensures.handed_out gave in
    on_err_weaker c.read_body.result step c.read_body.ensures.part

pub returns-clause-at_length : goal.returns-clause-at_length
returns-clause-at_length g c = λ wanting.
    let ends : c.in_ok-read.read ≤ c.args.room = omega arith in
    let whole : 4 ≤ c.in_ok-read.read = omega arith in
    let number : c.read_u32-count.result ≡ big_number 4 c.fill.new.buf = c.read_u32-count.ensures in
    let right : is_frame_length c.read_u32-count.result ≡ true = sym c.is_frame_length.ensures ∙ c.if-not-is_frame_length.false in
    let old = c.args.source.now in
    let mid = c.fill.new.source in
    subst (λ source. HandsOutLength c.args.room (g.S.Source.given old) (g.S.Source.left old) (g.S.Source.given source) (g.S.Source.left source))
    (sym (c.read_body.ensures.memory wanting))
    (heard_length c.args.room c.in_ok-read.read c.fill.new.buf (grind (arith, common_steps)) c.in_ok-read.ensures.within c.read_u32-count.result ends whole
    number right (g.S.Source.given old) (g.S.Source.given mid) (g.S.Source.left old) (g.S.Source.left mid) c.in_ok-read.ensures.handed_out)

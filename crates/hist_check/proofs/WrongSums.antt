-- A server's line that doesn't add up.
use Rattle.std.proofs.Common.{◌≡◌, ℕ, Bool, false, cond, nat_eq, sym, ap, ◌∙◌, Option, None, Some}
use Rattle.std.specs.Prelude.{◌&&◌}
use Rattle.store_map.specs.declared.script.Script.{Script}
use Rattle.store_map.specs.declared.line.TLine.{TLine}
use Rattle.store_map.specs.declared.transcript.Transcript.{Transcript}
use Rattle.hist_rules.specs.declared.verdict.Verdict.{Verdict}
use Rattle.hist_rules.specs.declared.verdict.Verdict.TheVariants.{BadSums}
use Rattle.hist_rules.specs.Counts.{wipes}
use Rattle.hist_rules.specs.TakesAddUp.{taken_of, server_adds_up}

pub sum_differs : (script : Script) (t : Transcript) (line got : TLine) (printed taken epoch : ℕ)
    → printed ≡ line.taken → taken ≡ taken_of t line.server → epoch ≡ wipes script line.server → got ≡ line
    → (nat_eq printed taken && nat_eq line.epoch epoch) ≡ false
    → Some (BadSums taken epoch got) ≡ server_adds_up script t line
sum_differs script t line got printed taken epoch is_printed is_taken is_epoch is_got fails =
    let fault : Verdict = BadSums (taken_of t line.server) (wipes script line.server) line in
    let same : Some (BadSums taken epoch got) ≡ Some fault = λ i. Some (BadSums (is_taken i) (is_epoch i) (is_got i)) in
    let test : (nat_eq line.taken (taken_of t line.server) && nat_eq line.epoch (wipes script line.server)) ≡ false =
    sym (λ i. nat_eq (is_printed i) (is_taken i) && nat_eq line.epoch (is_epoch i)) ∙ fails in
    same ∙ sym (ap (λ (b : Bool). cond {A = Option Verdict} b None (Some fault)) test)

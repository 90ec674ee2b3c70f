-- Lines without their line feeds.
use Rattle.std.proofs.Common.{◌≡◌, ℕ, ◌+◌, ◌-◌, List, [], ◌∷◌, ◌++◌, length, length-append, sym, ◌∙◌, arith}
use Rattle.std.specs.Prelude.{codes}
use Rattle.std.proofs.lemmas.Grind.{common_steps}
use Rattle.std.proofs.lemmas.List.{take_at}
use Rattle.store_map.specs.CallNames.{call_text}
use Rattle.store_map.specs.declared.call_name.CallName.{CallName}
use Rattle.transcript_text.specs.Lines.{o_line}
use Rattle.hist_check.specs.VerdictText.{without_end}

without_feed : (body : List ℕ) → without_end (body ++ 10 ∷ []) ≡ body
without_feed body =
    let long : length (body ++ 10 ∷ []) ≡ length body + 1 = length-append body (10 ∷ []) in
    let one_less : length body ≡ length (body ++ 10 ∷ []) - 1 = omega (arith, long) in
    take_at body (10 ∷ []) (length (body ++ 10 ∷ []) - 1) one_less

pub call_tail : (call : CallName) → without_end (o_line (record { call = call })) ≡ codes "O " ++ call_text call
call_tail call = without_feed (codes "O " ++ call_text call)

-- what is written in parts, in one list
pub five_parts : (old a b c d e : List ℕ) → old ++ a ++ b ++ c ++ d ++ e ≡ old ++ (a ++ b ++ c ++ d ++ e)
five_parts old a b c d e = grind (arith, common_steps)

pub object_tail : (old name count : List ℕ)
    → old ++ codes "L " ++ name ++ (32 ∷ count) ≡ old ++ without_end (codes "L " ++ name ++ codes " " ++ count ++ codes "\n")
object_tail old name count =
    let joined : old ++ codes "L " ++ name ++ (32 ∷ count) ≡ old ++ (codes "L " ++ name ++ codes " " ++ count) = grind (arith, common_steps) in
    joined ∙ (λ i. old ++ sym (without_feed (codes "L " ++ name ++ codes " " ++ count)) i)

pub server_tail : (old server taken held epoch : List ℕ)
    → old ++ 84 ∷ 32 ∷ (server ++ 32 ∷ (taken ++ 32 ∷ (held ++ 32 ∷ epoch)))
    ≡ old ++ without_end (codes "T " ++ server ++ codes " " ++ taken ++ codes " " ++ held ++ codes " " ++ epoch ++ codes "\n")
server_tail old server taken held epoch =
    let joined : old ++ 84 ∷ 32 ∷ (server ++ 32 ∷ (taken ++ 32 ∷ (held ++ 32 ∷ epoch))) ≡ old ++ (codes "T " ++ server ++ codes " " ++ taken ++ codes " " ++ held ++ codes " " ++ epoch) = grind (arith, common_steps) in
    joined ∙ (λ i. old ++ sym (without_feed (codes "T " ++ server ++ codes " " ++ taken ++ codes " " ++ held ++ codes " " ++ epoch)) i)

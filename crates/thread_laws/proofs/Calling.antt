-- A call before its step.
use Rattle.std.proofs.Common.{◌≡◌, ◌+◌, length, sym, ap, subst, ◌∙◌}
use Rattle.store_core.specs.ActPlace.{ActPlace}
use Rattle.store_core.specs.Tokens.{actor_of}
use Rattle.call_steps.specs.CallOf.{CallOf}
use Rattle.thread_laws.specs.Noted.{tokens_after}
use Rattle.world_laws.specs.Tokens.{first_token, IsUsedBelow, IsNext}
use Rattle.thread_laws.specs.Calling.{CallsKnowThemselves, ActorsHaveNumbers}
use Rattle.world_laws.proofs.Numbered.{before_numbered, before_token}
use Rattle.thread_laws.proofs.CallersGoOn.{token_coded, number_coded}
use Rattle.thread_laws.proofs.Turns.{client_turn, repairer_turn, sweeper_turn, operator_turn}

pub calls_know_themselves : CallsKnowThemselves
calls_know_themselves script who work at a c acting its =
    let held : c.token ≡ its.first.token = ap (λ (x : CallOf). x.token) its.is ∙ token_coded its.first.due its.coding its.first in
    let whose : actor_of c.token ≡ who = ap actor_of held ∙ its.turn.whose in
    let numbers : IsNext a.ended its.first.number its.first.token = before_numbered script work a.ended a.doing its.first acting.numbered its.turn.call in
    record {
      whose = whose;
      token =
          ap (λ x. tokens_after (at ActPlace.Directory) (first_token x)) whose
          ∙ (acting.token ∙ (sym (before_token script work a.ended a.doing its.first its.turn.call) ∙ sym held));
      number = ap (λ (x : CallOf). x.number) its.is ∙ (number_coded its.first.due its.coding its.first ∙ numbers.next);
      used = subst (λ t. IsUsedBelow (length a.ended + 1) t) (sym held) numbers.used;
    }

pub actors_have_numbers : ActorsHaveNumbers
actors_have_numbers of = record { client = client_turn of; repairer = repairer_turn of; sweeper = sweeper_turn of; operator = operator_turn of }

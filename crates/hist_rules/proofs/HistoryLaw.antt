-- A transcript is legal exactly where it is a history.
use Rattle.std.proofs.Common.{◌≡◌, ◌↔◌}
use Rattle.store_map.specs.declared.script.Script.{Script}
use Rattle.store_map.specs.declared.transcript.Transcript.{Transcript}
use Rattle.hist_rules.specs.declared.verdict.Verdict.TheVariants.{Legal}
use Rattle.hist_rules.specs.Verdict.{fault_of, verdict_of}
use Rattle.hist_rules.specs.IsHistory.{IsHistory}
use Rattle.hist_rules.proofs.Judges.{Judges, none_judges, or_judges, like_judges, verdict_judges, verdict_clear}
use Rattle.hist_rules.proofs.OrderLaws.{exist_judges, rising_judges, answered_judges, open_judges, takes_judges}
use Rattle.hist_rules.proofs.ReplyLaws.{replies_judges, objects_judges}
use Rattle.hist_rules.proofs.MissingLaws.{found_missing_judges}
use Rattle.hist_rules.proofs.CauseLaws.{given_up_judges, races_judges, results_judges, adds_up_judges}

history_judges : (script : Script) (t : Transcript) → Judges (fault_of script t) (IsHistory script t)
history_judges script t =
    like_judges (fault_of script t)
    (λ h. record {
      order = record { there = h.0; rising = h.1.0; answered = h.1.1.1.0; effects = h.1.1.1.1.0.0; unanswered = h.1.1.1.1.0.1; takes = h.1.1.1.1.1.1.1.1.1.0 };
      replies = record { replies = h.1.1.0; objects = h.1.1.1.1.1.1.1.1.1.1.0 };
      missing = h.1.1.1.1.1.0;
      races = h.1.1.1.1.1.1.0;
      given_up = h.1.1.1.1.1.1.1.0;
      results = h.1.1.1.1.1.1.1.1.0;
      takes = h.1.1.1.1.1.1.1.1.1.1.1.0;
    })
    (λ h. (h.order.there, (h.order.rising, (h.replies.replies, (h.order.answered, ((h.order.effects, h.order.unanswered), (h.missing, (h.races, (h.given_up, (h.results, (h.order.takes, (h.replies.objects, (h.takes, tt)))))))))))))
    (or_judges _ _ (exist_judges script t)
    (or_judges _ _ (rising_judges t)
    (or_judges _ _ (replies_judges script t)
    (or_judges _ _ (answered_judges t)
    (or_judges _ _ (open_judges script t)
    (or_judges _ _ (found_missing_judges script t)
    (or_judges _ _ (races_judges script t)
    (or_judges _ _ (given_up_judges script t)
    (or_judges _ _ (results_judges script t)
    (or_judges _ _ (takes_judges t)
    (or_judges _ _ (objects_judges script t)
    (or_judges _ _ (adds_up_judges script t) none_judges))))))))))))

pub legal_is_history : (script : Script) (t : Transcript) → (verdict_of script t ≡ Legal) ↔ IsHistory script t
legal_is_history script t = (verdict_judges (fault_of script t) (history_judges script t), verdict_clear (fault_of script t) (history_judges script t))

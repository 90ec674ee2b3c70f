-- The first of some tests' faults.
-- The rule on lost chunks over both kinds of lines is first_fault of appended and flat-mapped lists (Ors.lost_by_lines), so each loop is
-- the plain one over lines. Points rise, so a test that fails at every other place is that of the place (only_at), and std's
-- partition_point gives the place. A sum's range: a helper of one addition whose parameter is the u64, and the loop's invariant sum ≤
-- index * (2 ^ 64 - 1). Helpers over the schedule's counts speak of every script whose counts the tables are, so they need no script at
-- run time.
use Rattle.std.specs.Prelude.{◌||◌, nat_eq, reverse}
use Rattle.std.proofs.Common.{◌≡◌, ℕ, Bool, true, false, List, [], ◌∷◌, refl, sym, ap, ◌∙◌, Option, None, Some, is_some, true≢false}
use Rattle.std.specs.Option.{option_or}
use Rattle.std.specs.List.{flat_map, list_any}
use Rattle.std.proofs.lemmas.List.{reverse-append}
use Rattle.std.proofs.lemmas.List.Folds.{list_any-append}
use Rattle.store_map.specs.declared.call_name.CallName.TheVariants.{Client, Repairer}
use Rattle.store_map.specs.declared.cause.Triple.{Triple}
use Rattle.hist_rules.specs.MissingChunk.{names_server}
use Rattle.store_map.specs.declared.script.Script.{Script}
use Rattle.store_map.specs.declared.transcript.Transcript.{Transcript}
use Rattle.hist_rules.specs.LostChunks.{missing_of_cause, missing_of_result, chunks_lost, lost_chunks}
use Rattle.hist_tables.specs.Lines.{refusal_for_loss, result_for_loss}
use Rattle.hist_rules.specs.First.{unless, first_fault}
use Rattle.hist_rules.specs.declared.verdict.Verdict.{Verdict}
use Rattle.hist_tables.proofs.Faults.{first_fault-append}

pub or_none : (found : Option Verdict) → option_or found None ≡ found
or_none None = refl
or_none (Some fault) = refl

-- a fault is none
pub not_none : {Any : Type 0} {fault : Verdict} → Some fault ≡ None → Any
not_none e = absurd (true≢false (ap is_some e))

pub none_parts : (one other : Option Verdict) → option_or one other ≡ None → (one ≡ None) × (other ≡ None)
none_parts None other e = (refl, e)
none_parts (Some fault) other e = not_none e

pub unless_none : (holds : Bool) (fault : Verdict) → unless holds fault ≡ None → holds ≡ true
unless_none true fault e = refl
unless_none false fault e = not_none e

-- a rule on the entries of lines, line by line
pub first_fault-flat_map : {Line Entry : Type 0} (rule : Entry → Option Verdict) (entries : Line → List Entry) (lines : List Line)
    → first_fault rule (flat_map entries lines) ≡ first_fault (λ line. first_fault rule (entries line)) lines
first_fault-flat_map rule entries [] = refl
first_fault-flat_map rule entries (line ∷ lines) =
    first_fault-append rule (entries line) (flat_map entries lines)
    ∙ ap (λ (found : Option Verdict). option_or (first_fault rule (entries line)) found) (first_fault-flat_map rule entries lines)

-- a rule on the triples before, the nearest first or last
pub named_before : (server : ℕ) (triples : List Triple) → names_server server triples ≡ names_server server (reverse triples)
named_before server [] = refl
named_before server (triple ∷ triples) =
    let test : Triple → Bool = λ other. nat_eq server other.server in
    ap (λ (b : Bool). test triple || b) (named_before server triples)
    ∙ sym (ap (list_any test) (reverse-append (triple ∷ []) triples) ∙ list_any-append test (reverse triples) (triple ∷ []) ∙ turned (list_any test (reverse triples)) (test triple))
  where
    turned : (a b : Bool) → (a || (b || false)) ≡ (b || a)
    turned true true = refl
    turned true false = refl
    turned false true = refl
    turned false false = refl

-- the rule on lost chunks, of the lines of each kind
pub lost_by_lines : (script : Script) (t : Transcript) → lost_chunks script t ≡ option_or (first_fault (refusal_for_loss script) t.refused) (first_fault (result_for_loss script) t.repairs)
lost_by_lines script t =
    first_fault-append (chunks_lost script) (flat_map (λ line. missing_of_cause (Client line.call) line.cause) t.refused) (flat_map (λ line. missing_of_result (Repairer line.call) line.result) t.repairs)
    ∙ (λ i. option_or (first_fault-flat_map (chunks_lost script) (λ line. missing_of_cause (Client line.call) line.cause) t.refused i) (first_fault-flat_map (chunks_lost script) (λ line. missing_of_result (Repairer line.call) line.result) t.repairs i))

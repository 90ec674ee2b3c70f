-- Lines of takes have a number for each server, one of them above 0, and all below 2^64.
use Rattle.std.proofs.Common.{◌≡◌, ℕ, zero, suc, true, nat_eq, nat_lt, ◌&&◌, List, [], ◌∷◌, length, replicate, Some, All, Contains, refl, subst, ◌∙◌, arith}
use Rattle.std.proofs.lemmas.Bool.{cond_both, eq-eqb, and_from}
use Rattle.std.proofs.lemmas.List.{length-replicate}
use Rattle.std.proofs.lemmas.List.Elements.{All-nil, All-cons, All-head, All-tail, All-replicate, All-contains}
use Rattle.std.specs.List.{list_any}
use Rattle.clay_grid.specs.Shape.{Shape, chunk_count}
use Rattle.store_map.specs.Limits.{tries_of}
use Rattle.store_map.specs.declared.script.Script.{Script}
use Rattle.store_map.specs.declared.call_name.CallName.{CallName}
use Rattle.store_map.specs.declared.call_name.CallName.TheVariants as name
use Rattle.store_map.specs.declared.line.GLine.{GLine}
use Rattle.store_map.specs.declared.transcript.Transcript.{Transcript}
use Rattle.transcript_read.specs.Values.{IsLong}
use Rattle.transcript_read.specs.Forms.{is_above_zero}
use Rattle.hist_rules.specs.Calls.{same_call}
use Rattle.store_core.specs.Act.{Act}
use Rattle.store_core.specs.Lists.{change_at}
use Rattle.store_core.specs.NextAct.{Job, next_act}
use Rattle.store_core.specs.Server.{raised_by}
use Rattle.store_core.specs.Shown.{take_line}
use Rattle.store_core.specs.Step.{take_from}
use Rattle.store_core.specs.Tell.{tell}
use Rattle.store_core.specs.Told.{Told}
use Rattle.store_core.proofs.Places.{length-change_at}
use Rattle.run_laws.proofs.SoundLists.{filtered}
use Rattle.history_laws.specs.TakesOfCalls.{taken_since, taken_by}
use Rattle.history_laws.specs.LineCauses.{job_of_call}
use Rattle.history_laws.specs.Trace.{Made}
use Rattle.history_laws.specs.Over.{answers_to}
use Rattle.history_laws.specs.Takes.{lines_of_takes, TakesLeast}

-- so many numbers, all of 64 bits
record AreTakes (n : ℕ) (takes : List ℕ) : Type 0 where
  count : length takes ≡ n
  long : All IsLong takes

raised_long : (layers count : ℕ) → IsLong (raised_by layers count)
raised_long layers count = omega arith

changed_long : (j layers : ℕ) (takes : List ℕ) → All IsLong takes → All IsLong (change_at j (raised_by layers) takes)
changed_long j layers [] h = All-nil IsLong
changed_long zero layers (x ∷ xs) h = All-cons IsLong (raised_by layers x) xs (raised_long layers x) (All-tail IsLong x xs h)
changed_long (suc j) layers (x ∷ xs) h =
    All-cons IsLong x (change_at j (raised_by layers) xs) (All-head IsLong x xs h) (changed_long j layers xs (All-tail IsLong x xs h))

from_kept : (n : ℕ) (act : Act) (answer : Told) (takes : List ℕ) → AreTakes n takes → AreTakes n (take_from act answer takes)
from_kept n (Act.AtServer server step) (Told.Given layers) takes h =
    record { count = length-change_at server (raised_by layers) takes ∙ h.count; long = changed_long server layers takes h.long }
from_kept n act answer takes h = h

since_kept : (n : ℕ) (g : Shape) (tries : ℕ) (job : Job) (told : List Told) (takes : List ℕ) (answers : List Told) → AreTakes n takes
    → AreTakes n (taken_since g tries job told takes answers)
since_kept n g tries job told takes [] h = h
since_kept n g tries job told takes (answer ∷ more) h =
    since_kept n g tries job (tell g job told answer) (take_from (next_act g tries job told) answer takes) more
    (from_kept n (next_act g tries job told) answer takes h)

taken_are : (g : Shape) (tries : ℕ) (job : Job) (answers : List Told) → AreTakes (chunk_count g) (taken_by g tries job answers)
taken_are g tries job answers =
    since_kept (chunk_count g) g tries job [] (replicate (chunk_count g) 0) answers
    (record { count = length-replicate (chunk_count g) 0; long = All-replicate IsLong (chunk_count g) 0 (omega arith) })

-- a line that is shown
record IsTake (n : ℕ) (line : GLine) : Type 0 where
  takes : AreTakes n line.takes
  some : list_any is_above_zero line.takes ≡ true

line_is : (n : ℕ) (call : CallName) (takes : List ℕ) → AreTakes n takes → All (IsTake n) (take_line call takes)
line_is n call takes are =
    cond_both {A = List GLine} (list_any (nat_lt 0) takes) (record { call = call; takes = takes } ∷ []) [] (All (IsTake n))
    (λ e. All-cons (IsTake n) (record { call = call; takes = takes }) [] (record { takes = are; some = e }) (All-nil (IsTake n)))
    (λ e. All-nil (IsTake n))

same_numbers : (i number : ℕ) → (nat_eq i i && nat_eq number number) ≡ true
same_numbers i number = and_from (nat_eq i i) (nat_eq number number) (eq-eqb i i refl) (eq-eqb number number refl)

self : (call : CallName) → same_call call call ≡ true
self (name.Client call) = same_numbers call.client call.number
self (name.Repairer call) = same_numbers call.repairer call.number

module _ (script : Script) (trace : List Made) (t : Transcript) (least : TakesLeast script trace t) where
  take_is : (line : GLine) → Contains t.takes line → (job : Job) → job_of_call script line.call ≡ Some job → IsTake (chunk_count script.geometry) line
  take_is line has job is_job =
      let taken : List ℕ = taken_by script.geometry (tries_of script) job (answers_to line.call trace) in
      let same : lines_of_takes t line.call ≡ take_line line.call (taken_by script.geometry (tries_of script) job (answers_to line.call trace)) =
      least.given line.call job is_job in
      let among : Contains (lines_of_takes t line.call) line =
      filtered (λ (other : GLine). same_call line.call other.call) t.takes line (self line.call) has in
      All-contains (IsTake (chunk_count script.geometry))
      (take_line line.call (taken_by script.geometry (tries_of script) job (answers_to line.call trace))) line
      (line_is (chunk_count script.geometry) line.call (taken_by script.geometry (tries_of script) job (answers_to line.call trace))
      (taken_are script.geometry (tries_of script) job (answers_to line.call trace)))
      (subst (λ (lines : List GLine). Contains lines line) same among)

  pub take_form : (line : GLine) → Contains t.takes line → (job : Job) → job_of_call script line.call ≡ Some job
      → All IsLong line.takes × (length line.takes ≡ chunk_count script.geometry) × (list_any is_above_zero line.takes ≡ true)
  take_form line has job is_job =
      let is : IsTake (chunk_count script.geometry) line = take_is line has job is_job in (is.takes.long, is.takes.count, is.some)

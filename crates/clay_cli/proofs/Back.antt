-- The text of what a run shows is read back as what was shown.
use Rattle.std.proofs.Common.{◌≡◌, sym, subst}
use Rattle.clay_grid.specs.Shape.{chunk_count}
use Rattle.store_map.specs.declared.script.Script.{Script}
use Rattle.script_text.proofs.OneReadingLaws.{one_front}
use Rattle.transcript_text.specs.Text.{text_of}
use Rattle.store_map.specs.declared.transcript.Transcript.{Transcript}
use Rattle.transcript_read.specs.WellFormed.{IsWellFormed}
use Rattle.transcript_read.proofs.StuckLaws.{one_transcript}
use Rattle.hist_rules.specs.Verdict.{verdict_of}
use Rattle.hist_rules.specs.declared.verdict.Verdict.TheVariants.{Legal}
use Rattle.store_core.specs.Shown.{shown_of}
use Rattle.history_laws.proofs.Shows.{runs_are_legal}
use Rattle.clay_cli.specs.BackLaws.{AreReadBack, ShownAreReadLegal}
use Rattle.clay_cli.proofs.Whole.{runs_are_well_formed}

pub are_read_back : AreReadBack
are_read_back script other t u here there same =
    let parts : (other ≡ script) × (text_of u ≡ text_of t) =
    one_front other script (text_of u) (text_of t) there.values there.valid here.values here.valid same in (
      parts.0,
      one_transcript (chunk_count script.geometry) u t
          (subst (λ (s : Script). IsWellFormed (chunk_count s.geometry) u) parts.0 there.form) here.form parts.1,
    )

pub shown_are_read_legal : ShownAreReadLegal
shown_are_read_legal script other shortages u values valid there same =
    let back : (other ≡ script) × (u ≡ shown_of script shortages) =
    are_read_back script other (shown_of script shortages) u
    (record { values = values; valid = valid; form = runs_are_well_formed script shortages values valid }) there same in (
      back.1,
      subst (λ (s : Script). verdict_of s u ≡ Legal) (sym back.0)
          (subst (λ (v : Transcript). verdict_of script v ≡ Legal) (sym back.1) (runs_are_legal script shortages values.geometry valid)),
    )

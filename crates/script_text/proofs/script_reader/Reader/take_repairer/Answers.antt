use Rattle.std.proofs.Common.{List, ◌∷◌, [], ◌++◌, None, length, refl, sym, ap, ◌∙◌}
use Rattle.store_map.specs.declared.script.RepairPart.{RepairPart}
use Rattle.line_grammar.specs.Line.{RepairerLine}
use Rattle.script_text.specs.Reader.{script_of}
use Rattle.script_text.specs.declared.script_place.ScriptPlace.TheVariants as place
use Rattle.script_text.specs.declared.script_reader.Reader.{Reader}
use Rattle.script_text.proofs.ReaderLaws.{repairer_over, repairer_taken}
use Rattle.script_text.proofs.script_reader.Reader.take_repairer.Goals as goal

pub returns-then-as_slice-eq-MAX_REPAIRERS : goal.returns-then-as_slice-eq-MAX_REPAIRERS
returns-then-as_slice-eq-MAX_REPAIRERS c =
    repairer_over c.args.self.now c.args.line.now c.requires.place (c.is_text.ensures.0 c.if-not-is_text.false) (ap length (sym c.as_slice.ensures.value) ∙ c.if-as_slice-eq-MAX_REPAIRERS.true)

pub returns : goal.returns
returns c =
    let new : Reader = record c.args.self.now { repairers = c.push.new.self; place = place.Repairer } in (
      RepairerLine,
      repairer_taken c.args.self.now new c.args.line.now c.requires.sound c.requires.place (c.is_text.ensures.0 c.if-not-is_text.false)
          c.requires.sound.begun.valid.limits.repairers (λ full. c.if-as_slice-eq-MAX_REPAIRERS.false (ap length c.as_slice.ensures.value ∙ full))
          (ap (λ (parts : List RepairPart). record (script_of c.args.self.now) { repairers = parts }) (c.in-Ok.ensures.items
          ∙ ap (λ calls. c.args.self.now.repairers.items ++ record { calls = calls; leave = None } ∷ []) c.new.ensures)) refl refl,
    )

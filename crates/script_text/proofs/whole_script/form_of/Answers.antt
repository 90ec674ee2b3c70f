use Rattle.std.proofs.Common.{◌≡◌, true, refl, sym, ◌∙◌, inl, inr}
use Rattle.script_text.proofs.ScriptLaws.{clay_one, clay_two, no_form}
use Rattle.script_text.proofs.whole_script.form_of.Goals as goal

pub returns-then-is_text-clause-some : goal.returns-then-is_text-clause-some
returns-then-is_text-clause-some c = (inl refl, c.is_text.ensures.0 c.if-is_text.true ∙ sym clay_one)

pub returns-then-is_text-2-clause-some : goal.returns-then-is_text-2-clause-some
returns-then-is_text-2-clause-some c = (inr refl, c.is_text-2.ensures.0 c.if-is_text-2.true ∙ sym clay_two)

pub returns-clause-none : goal.returns-clause-none
returns-clause-none c = λ _ form is.
    no_form c.args.line.now
    (λ e. let yes : c.is_text.result ≡ true = c.is_text.ensures.1 e in cc (yes, c.if-is_text.false))
    (λ e. let yes : c.is_text-2.result ≡ true = c.is_text-2.ensures.1 e in cc (yes, c.if-is_text-2.false))
    form is

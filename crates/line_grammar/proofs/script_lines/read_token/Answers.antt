use Rattle.std.proofs.Common.{ℕ, Some, sym, subst, codes, List}
use Rattle.std.proofs.lemmas.Bool.Decides.{Decides-eqb}
use Rattle.std.proofs.lemmas.Slice.Eq.{strip_prefix_is}
use Rattle.line_grammar.specs.ReadsLine.{ReadsToken}
use Rattle.line_grammar.proofs.script_lines.read_token.Goals as goal

pub returns-in-Some : goal.returns-in-Some
returns-in-Some c =
    let is = strip_prefix_is Decides-eqb c.args.line.now (codes "c ") (Some c.in-Some.word) c.in-Some.ensures.cases in
    subst (λ (l : List ℕ). ReadsToken c.args.form l c.read_client_step.result) (sym is) (c.read_client_step.ensures c.args.form)

pub returns-in-Some-strip_prefix : goal.returns-in-Some-strip_prefix
returns-in-Some-strip_prefix c =
    let is = strip_prefix_is Decides-eqb c.args.line.now (codes "r ") (Some c.in-Some-strip_prefix.word) c.in-Some-strip_prefix.ensures.cases in
    subst (λ (l : List ℕ). ReadsToken c.args.form l c.read_repairer_step.result) (sym is) (c.read_repairer_step.ensures c.args.form)

pub returns-in-Some-strip_prefix-2 : goal.returns-in-Some-strip_prefix-2
returns-in-Some-strip_prefix-2 c =
    let is = strip_prefix_is Decides-eqb c.args.line.now (codes "wipe ") (Some c.in-Some-strip_prefix-2.word) c.in-Some-strip_prefix-2.ensures.cases in
    subst (λ (l : List ℕ). ReadsToken c.args.form l c.read_wipe.result) (sym is) (c.read_wipe.ensures c.args.form)

pub returns-in-Some-strip_prefix-5 : goal.returns-in-Some-strip_prefix-5
returns-in-Some-strip_prefix-5 c =
    let is = strip_prefix_is Decides-eqb c.args.line.now (codes "reap c ") (Some c.in-Some-strip_prefix-5.word) c.in-Some-strip_prefix-5.ensures.cases in
    subst (λ (l : List ℕ). ReadsToken c.args.form l c.read_client_reap.result) (sym is) (c.read_client_reap.ensures c.args.form)

pub returns-in-Some-strip_prefix-6 : goal.returns-in-Some-strip_prefix-6
returns-in-Some-strip_prefix-6 c =
    let is = strip_prefix_is Decides-eqb c.args.line.now (codes "reap r ") (Some c.in-Some-strip_prefix-6.word) c.in-Some-strip_prefix-6.ensures.cases in
    subst (λ (l : List ℕ). ReadsToken c.args.form l c.read_repairer_reap.result) (sym is) (c.read_repairer_reap.ensures c.args.form)

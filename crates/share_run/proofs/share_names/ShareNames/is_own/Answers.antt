use Rattle.std.proofs.Common.{◌≡◌, ◌≢◌, MatchBool, MatchOption, string_bytes, bytes_eq, refl, sym, subst, ap, ◌∙◌}
use Rattle.std.proofs.lemmas.Slice.Eq.{bytes_eq-Decides}
use Rattle.share_run.proofs.NameLemmas.{decided}
use Rattle.share_run.proofs.share_names.ShareNames.is_own.Goals as goal

pub returns-in-Some : goal.returns-in-Some
returns-in-Some c = record {
  own = c.in-Some.own;
  new_is = ap (λ cut. record c.args.self.now { cut = cut }) c.in-Some.is;
  kept = subst (λ o. MatchOption o (string_bytes c.in-Some.own ≡ c.args.cut.now) (λ before. before ≡ c.in-Some.own)) (sym c.in-Some.is) refl;
  told = subst (λ b. MatchBool b (string_bytes c.in-Some.own ≡ c.args.cut.now) (string_bytes c.in-Some.own ≢ c.args.cut.now))
      (sym (c.eq.ensures ∙ ap (λ name. bytes_eq name c.args.cut.now) c.as_str.ensures.value)) (decided (bytes_eq (string_bytes c.in-Some.own) c.args.cut.now) (string_bytes c.in-Some.own ≡ c.args.cut.now) (bytes_eq-Decides (string_bytes c.in-Some.own) c.args.cut.now));
}

pub returns : goal.returns
returns c = record {
  own = c.in_ok-from_str.field-0;
  new_is = refl;
  kept = subst (λ o. MatchOption o (string_bytes c.in_ok-from_str.field-0 ≡ c.args.cut.now) (λ before. before ≡ c.in_ok-from_str.field-0)) (sym c.in_default.is) c.in_ok-from_str.ensures.ok;
  told = c.in_ok-from_str.ensures.ok;
}

use Rattle.std.proofs.Common.{◌≡◌, List, length, Option, Some, None, String, slice_index_or, inl, inr, ap, sym, refl, ◌∙◌, ⊎_elim, arith}
use Rattle.std.specs.Global.{Global}
use Rattle.std.proofs.lemmas.Bool.{cases_lt}
use Rattle.std.proofs.lemmas.List.{get_or_past, get_or_read_under}
use Rattle.share_run.proofs.share_names.ShareNames.first.Goals as goal

pub returns-in-Some : goal.returns-in-Some
returns-in-Some c = inr (c.in-Some.name, c.in-Some.is, c.as_str.ensures.value)

pub returns-in-Some-held : goal.returns-in-Some-held
returns-in-Some-held c =
    let items = c.deref-held-items.result.now in
    let at = c.loop-held.held-index in
    let there : slice_index_or items at None ≡ Some c.in-Some-held.name =
    sym (get_or_read_under items at (length items) c.held-item.result None c.held-item.is c.loop-held-test.true refl) ∙ c.in-Some-held.is in
    inl (at, c.in-Some-held.name, ap (λ (l : List (Option (String Global))). slice_index_or l at None) (sym c.deref-held-items.ensures.value) ∙ there, c.as_str-in-Some-held.ensures.value)

pub returns : goal.returns
returns c =
    let items = c.args.self.now.names.items in
    let all : length items ≡ length c.deref-held-items.result.now = ap (λ (l : List (Option (String Global))). length l) (sym c.deref-held-items.ensures.value) in (
      (λ number. ⊎_elim (λ less. c.loop-held.invariant number less)
          (λ more. get_or_past items number None (omega (arith, all, more, c.loop-held-test.false))) (cases_lt number c.loop-held.held-index)),
      c.in_default.is,
    )

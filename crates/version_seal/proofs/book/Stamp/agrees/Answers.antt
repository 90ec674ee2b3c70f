use Rattle.std.proofs.Common.{◌≡◌, ap, sym, ◌∙◌}
use Rattle.version_seal.specs.Inside.{stamp_of}
use Rattle.version_seal.proofs.book.Stamp.agrees.Goals as goal

pub returns : goal.returns
returns c =
    let home : c.self.inside.home.numbers ≡ c.other.inside.home.numbers =
    ap (λ s. s.home) c.self.view_is ∙ c.requires.same_home ∙ sym (ap (λ s. s.home) c.other.view_is)
    in
    let version : c.self.inside.version.0 ≡ c.other.inside.version.0 =
    ap (λ s. s.version) c.self.view_is ∙ c.requires.same_version ∙ sym (ap (λ s. s.version) c.other.view_is)
    in
    sym c.self.view_is ∙ (λ i. stamp_of (home i) (version i) (c.agrees-2.ensures i)) ∙ c.other.view_is

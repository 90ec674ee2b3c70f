use Rattle.std.proofs.Common.{◌≡◌, ◌<◌, ℕ, map, subst, ap, ◌∙◌, arith}
use Rattle.std.specs.List.{range_with_len}
use Rattle.clay_grid.specs.Shape.{Shape, stripe_length}
use Rattle.version_seal.specs.Entry.{BookOf}
use Rattle.chunk_server.specs.State.{empty_server}
use Rattle.stripe_stamps.specs.Sealed.{Sealed, new_sealed}
use Rattle.session_store.proofs.new_store.new_places.Goals as goal

pub returns-clause-places : goal.returns-clause-places
returns-clause-places c =
    let book : BookOf = c.in_ok-book.book in
    let directory : c.in_ok-directory.directory ≡ new_sealed book c.args.max =
    c.in_ok-directory.ensures.directory ∙ ap (λ (b : BookOf). new_sealed b c.args.max) c.opening-opening.ensures in
    let shape : c.in_ok-directory.directory.core.shape ≡ c.args.geometry = ap (λ (d : Sealed). d.core.shape) directory ∙ c.in_ok-book.ensures.book.0 in
    record {
      code = c.n.ensures.geometry;
      wide = subst (λ (g : Shape). 0 < stripe_length g) shape c.keeps.ensures.bytes;
      small = omega (arith, c.ranges.max.fits);
      book = c.in_ok-book.ensures.book;
      directory = directory;
      servers = c.in_ok-servers.ensures ∙ ap (λ (n : ℕ). map (λ number. empty_server number book) (range_with_len 0 n)) c.n.ensures.value;
    }

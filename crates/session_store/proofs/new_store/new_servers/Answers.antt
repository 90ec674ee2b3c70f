use Rattle.std.proofs.Common.{ℕ, ◌+◌, ◌∷◌, [], ◌++◌, map, ap, sym, ◌∙◌, arith}
use Rattle.std.proofs.lemmas.List.{map-append}
use Rattle.std.specs.List.{range_with_len}
use Rattle.version_seal.specs.Entry.{BookOf}
use Rattle.chunk_server.specs.State.{ServerState, empty_server}
use Rattle.dir_parts.proofs.Growing.{range-snoc}
use Rattle.session_store.proofs.new_store.new_servers.Goals as goal

pub loop-number-preserved : goal.loop-number-preserved
loop-number-preserved c =
    let book : BookOf = c.args.book.now in
    let made : ℕ → ServerState = λ number. empty_server number c.args.book.now in
    record {
      items =
          c.push_reserved.ensures.items ∙ (λ k. c.loop-number.invariant.items k ++ c.new.ensures k ∷ [])
          ∙ (λ k. map made (range_with_len 0 c.loop-number.number) ++ empty_server c.loop-number.number (c.opening.ensures k) ∷ [])
          ∙ sym (ap (map made) (range-snoc 0 c.loop-number.number) ∙ map-append made (range_with_len 0 c.loop-number.number) ((0 + c.loop-number.number) ∷ []) ∙ ap (λ (n : ℕ). map made (range_with_len 0 c.loop-number.number) ++ made n ∷ []) (omega arith));
      len = omega (arith, c.push_reserved.ensures.len, c.loop-number.invariant.len);
      room = c.push_reserved.ensures.capacity ∙ c.loop-number.invariant.room;
    }

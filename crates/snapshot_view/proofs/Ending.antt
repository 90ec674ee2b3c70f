-- One more end of a pass.
use Rattle.std.proofs.Common.{◌≡◌, ℕ, ◌+◌, ◌<◌, false, List, [], ◌∷◌, ◌++◌, length, get_or, slice_set, take, drop, refl, sym, ap, subst, ◌∙◌}
use Rattle.std.proofs.lemmas.List.{take_more_set}
use Rattle.std.proofs.lemmas.List.Sums.{fold_more}
use Rattle.std.specs.Prelude.{⊤}
use Rattle.store_core.specs.Told.{Told}
use Rattle.store_core.specs.Act.{DirectoryStep}
use Rattle.store_core.specs.AtDirectory.{at_directory}
use Rattle.store_core.specs.Tokens.{actor_of}
use Rattle.call_steps.specs.TokenAfter.{token_after, MayMake, IsSeated}
use Rattle.stripe_dir.specs.Answers.{told_ended}
use Rattle.stripe_dir.specs.declared.directory_answers.Ended.{Ended}
use Rattle.stripe_dir.specs.declared.directory_answers.Ended.TheVariants as ended
use Rattle.store_core.specs.Directory.{Directory}
use Rattle.store_core.specs.Agreement.{ActorToken}
use Rattle.snapshot_view.specs.Tickets.{IsInCall}
use Rattle.snapshot_view.specs.Releasing.{Released, reap_in, end_one, end_all}
use Rattle.snapshot_view.proofs.Looking.{next_same}

module _ (number : ℕ) (start : Released) (now next : Directory) (tokens these : List ActorToken) (at : ℕ) (token after : ActorToken) (reaps more : List ℕ)
    (same_length : length these ≡ length tokens) (here : at < length these) (is : token ≡ get_or these at token) (rest : drop at these ≡ drop at tokens) where
  pub ended_more : record { directory = now; tokens = take at these; reaps = reaps } ≡ end_all number start (take at tokens)
      → record { directory = next; tokens = after ∷ []; reaps = more } ≡ end_one number (record { directory = now; tokens = []; reaps = reaps }) token
      → record { directory = next; tokens = take (at + 1) (slice_set these at after); reaps = more } ≡ end_all number start (take (at + 1) tokens)
  ended_more so_far one =
      ap (λ (l : List ActorToken). record { directory = next; tokens = l; reaps = more }) (take_more_set these at after here)
      ∙ ap (λ (r : Released). record { directory = r.directory; tokens = take at these ++ r.tokens; reaps = r.reaps }) one
      ∙ ap (λ (r : Released). end_one number r token) so_far
      ∙ ap (end_one number (end_all number start (take at tokens))) (is ∙ next_same these tokens at token rest)
      ∙ sym (fold_more (end_one number) start tokens at token (subst (λ n. at < n) same_length here))

-- one end
pub may_end : (d : Directory) (number : ℕ) (token : ActorToken) → IsInCall number token → MayMake d token number DirectoryStep.End
may_end d number (ActorToken.Seated seat) calls = absurd calls
may_end d number (ActorToken.InCall held) calls = (calls.its_number, tt)

pub end_actor : (token : ActorToken) (number : ℕ) (answer : Ended ⊤) → actor_of (token_after token number DirectoryStep.End (told_ended answer)) ≡ actor_of token
end_actor (ActorToken.Seated seat) number answer = refl
end_actor (ActorToken.InCall held) number (ended.Ended seat) = refl
end_actor (ActorToken.InCall held) number (ended.Reaped seat at) = refl

pub ended_one : (number : ℕ) (before after : Directory) (token next : ActorToken) (told : Told) (points more : List ℕ) → ◌≡◌ {A = Directory × Told} (after, told) (at_directory false (actor_of token) number DirectoryStep.End before)
    → next ≡ token_after token number DirectoryStep.End told → more ≡ points ++ reap_in told
    → record { directory = after; tokens = next ∷ []; reaps = more } ≡ end_one number (record { directory = before; tokens = []; reaps = points }) token
ended_one number before after token next told points more step token_is reaps =
    (λ i. record { directory = after; tokens = token_is i ∷ []; reaps = reaps i })
    ∙ ap (λ (r : Directory × Told). record { directory = r.0; tokens = token_after token number DirectoryStep.End r.1 ∷ []; reaps = points ++ reap_in r.1 }) step

-- the ticket is a seat's then
pub end_seated : (token : ActorToken) (number : ℕ) (answer : Ended ⊤) → IsInCall number token → IsSeated (token_after token number DirectoryStep.End (told_ended answer))
end_seated (ActorToken.Seated seat) number answer calls = absurd calls
end_seated (ActorToken.InCall held) number (ended.Ended seat) calls = tt
end_seated (ActorToken.InCall held) number (ended.Reaped seat at) calls = tt

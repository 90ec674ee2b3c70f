-- Each content stays a whole stripe.
use Rattle.std.proofs.Common.{◌≡◌, ◌⊎◌, ℕ, ◌+◌, ◌-◌, ◌*◌, ◌/◌, ◌<◌, nat_eq, Bool, List, [], ◌++◌, length, get_or, map, find, Option, None, Some, option_map, IfSome, All, sym, ap, subst, ◌∙◌, inl, inr, arith}
use Rattle.std.proofs.lemmas.Option.{same_Some}
use Rattle.std.proofs.lemmas.List.{length-replicate}
use Rattle.std.proofs.lemmas.List.FromFn.{length-range_with_len, get_or-range_with_len}
use Rattle.std.proofs.lemmas.List.Elements.{All-nil, All-append, All-map, All-contains, All-get_or}
use Rattle.clay_grid.specs.Shape.{stripe_length}
use Rattle.store_map.specs.Limits.{stripes_met}
use Rattle.store_map.specs.declared.actor.Actor.{Actor}
use Rattle.store_map.specs.declared.call.Call.{Call}
use Rattle.store_map.specs.declared.call.Call.TheVariants as call
use Rattle.store_core.specs.Note.{Note, Kind, note_of}
use Rattle.store_core.specs.Act.{DirectoryStep}
use Rattle.store_core.specs.Directory.{Version, Pin, Pass, Directory}
use Rattle.store_core.specs.PassSteps.{touched, new_version}
use Rattle.store_core.specs.AtDirectory.{at_directory}
use Rattle.store_core.specs.Content.{written_by, old_content, lay_over, content_after, contents_by}
use Rattle.store_core.specs.Conditions.{MayStep}
use Rattle.store_core.specs.SoundPasses.{HasVersions}
use Rattle.store_core.specs.Sound.{IsSound}
use Rattle.run_laws.proofs.Passes.{found_has}
use Rattle.run_laws.proofs.SoundClose.{IsHeld, held_pass}
use Rattle.store_core.specs.Calls.{Calls, IsNoteOf}
use Rattle.run_laws.specs.Contents.{HasBytes}
use Rattle.run_laws.specs.StripeLaws.{AreStripes, StepsKeepStripes}
use Rattle.run_laws.proofs.Bytes.{laid_count}
use Rattle.run_laws.proofs.ContentCommits.{IsPut, put_call, IsWrite, write_call, no_rebuild}
use Rattle.run_laws.proofs.ContentGrows.{origins, same_contents, count_contents, contents_drawn}
use Rattle.run_laws.proofs.ContentKept.{KeptThere}
use Rattle.run_laws.proofs.KeptDraw.{all_based}
use Rattle.run_laws.proofs.Laid.{met_low, met_high}
use Rattle.run_laws.proofs.VersionsMove.{Draws, versions_move}
use Rattle.run_laws.proofs.LengthProofs.{content_count}

-- what a put or a write writes begins at its note's offset and is of its note's length
written_is : (c : Call) (note : Note) → note_of c ≡ note → (note.kind ≡ Kind.Put) ⊎ (note.kind ≡ Kind.Write) → ((written_by (Some c)).0 ≡ note.offset) × (length (written_by (Some c)).1 ≡ note.length)
written_is c note noted (inl kind) =
    let p : IsPut c = put_call c (ap (λ (n : Note). n.kind) noted ∙ kind) in
    let same : note_of (call.Put p.name p.content) ≡ note = sym (ap note_of p.is) ∙ noted in (
      ap (λ x. (written_by (Some x)).0) p.is ∙ ap (λ (n : Note). n.offset) same,
      ap (λ x. length (written_by (Some x)).1) p.is ∙ content_count p.content ∙ ap (λ (n : Note). n.length) same,
    )
written_is c note noted (inr kind) =
    let w : IsWrite c = write_call c (ap (λ (n : Note). n.kind) noted ∙ kind) in
    let same : note_of (call.Write w.name w.offset w.content) ≡ note = sym (ap note_of w.is) ∙ noted in (
      ap (λ x. (written_by (Some x)).0) w.is ∙ ap (λ (n : Note). n.offset) same,
      ap (λ x. length (written_by (Some x)).1) w.is ∙ content_count w.content ∙ ap (λ (n : Note). n.length) same,
    )

module _ (calls : Calls) (d : Directory) (stripes : AreStripes calls d) where
  abbrev contents : List (List ℕ)
  contents = contents_by d.shape calls d.versions

  -- the contents of some versions are stripes
  abbrev StripesIn : List Version → Type 0
  StripesIn versions = All (λ content. length content ≡ stripe_length d.shape) (contents_by d.shape calls versions)

  -- where versions keep what they are laid over
  same : (versions : List Version) → origins versions ≡ origins d.versions → StripesIn versions
  same versions e = subst (λ cs. All (λ content. length content ≡ stripe_length d.shape) cs) (sym (same_contents calls d.shape d.versions versions e)) stripes

  -- ---- a draw
  module _ (sound : IsSound d) (has : HasBytes calls d) (some : 0 < stripe_length d.shape) (pass : Pass) (held : IsHeld d pass) (writes : (pass.note.kind ≡ Kind.Put) ⊎ (pass.note.kind ≡ Kind.Write)) where
    its_call : IsNoteOf calls pass.actor pass.number pass.note
    its_call = by (All-contains (KeptThere calls d) d.passes pass has.passes held.has).call
      where
        by : (pass.note.kind ≡ Kind.Rebuild) ⊎ IsNoteOf calls pass.actor pass.number pass.note → IsNoteOf calls pass.actor pass.number pass.note
        by (inr h) = h
        by (inl e) = absurd (no_rebuild pass.note.kind e writes)

    -- what a new version is laid over is a stripe
    old_long : (stripe : ℕ) → length (old_content d.shape contents (new_version pass stripe).base) ≡ stripe_length d.shape
    old_long stripe =
        by (find (λ (pin : Pin). nat_eq stripe pin.stripe) pass.pinned)
        (found_has (λ (pin : Pin). pin.version < length d.versions) (λ (pin : Pin). nat_eq stripe pin.stripe) pass.pinned (All-contains (HasVersions d) d.passes pass sound.versions held.has).pinned)
      where
        by : (found : Option Pin) → IfSome found (λ pin. pin.version < length d.versions) → length (old_content d.shape contents (option_map (λ (pin : Pin). pin.version) found)) ≡ stripe_length d.shape
        by None h = length-replicate (stripe_length d.shape) 0
        by (Some pin) h =
            All-get_or (λ content. length content ≡ stripe_length d.shape) contents pin.version [] (subst (λ n. pin.version < n) (sym (count_contents calls d.shape d.versions)) h) stripes

    -- so a new content is one
    new_long : (k default : ℕ) → k < length (touched d pass.note) → length (content_after d.shape calls contents (new_version pass (get_or (touched d pass.note) k default))) ≡ stripe_length d.shape
    new_long k default less =
        ap (λ o. length (lay_over d.shape stripe (old_content d.shape contents (new_version pass stripe).base) (written_by o).0 (written_by o).1)) its_call.1
        ∙ laid_count d.shape stripe (written_by (Some its_call.0)).0 (old_content d.shape contents (new_version pass stripe).base) (written_by (Some its_call.0)).1 (old_long stripe) low high
      where
        stripe : ℕ
        stripe = get_or (touched d pass.note) k default

        is : ((written_by (Some its_call.0)).0 ≡ pass.note.offset) × (length (written_by (Some its_call.0)).1 ≡ pass.note.length)
        is = written_is its_call.0 pass.note its_call.2 writes

        many : ℕ
        many = stripes_met (stripe_length d.shape) pass.note.offset (pass.note.offset + pass.note.length - pass.note.offset)

        within : k < stripes_met (stripe_length d.shape) pass.note.offset (pass.note.offset + pass.note.length - pass.note.offset)
        within = subst (λ n. k < n) (length-range_with_len (pass.note.offset / stripe_length d.shape) (stripes_met (stripe_length d.shape) pass.note.offset (pass.note.offset + pass.note.length - pass.note.offset))) less

        place : get_or (touched d pass.note) k default ≡ pass.note.offset / stripe_length d.shape + k
        place = get_or-range_with_len (pass.note.offset / stripe_length d.shape) (stripes_met (stripe_length d.shape) pass.note.offset (pass.note.offset + pass.note.length - pass.note.offset)) k default within

        low : get_or (touched d pass.note) k default * stripe_length d.shape < (written_by (Some its_call.0)).0 + length (written_by (Some its_call.0)).1
        low =
            let below : (pass.note.offset / stripe_length d.shape + k) * stripe_length d.shape < pass.note.offset + (pass.note.offset + pass.note.length - pass.note.offset) =
            met_low (stripe_length d.shape) some pass.note.offset (pass.note.offset + pass.note.length - pass.note.offset) k within in
            let counted : pass.note.offset + (pass.note.offset + pass.note.length - pass.note.offset) ≡ pass.note.offset + pass.note.length = counts pass.note.offset pass.note.length in
            subst (λ n. get_or (touched d pass.note) k default * stripe_length d.shape < n) (sym (λ i. is.0 i + is.1 i))
            (subst (λ n. n * stripe_length d.shape < pass.note.offset + pass.note.length) (sym place) (subst (λ n. (pass.note.offset / stripe_length d.shape + k) * stripe_length d.shape < n) counted below))
          where
            counts : (o n : ℕ) → o + (o + n - o) ≡ o + n
            counts o n = omega arith

        high : (written_by (Some its_call.0)).0 < get_or (touched d pass.note) k default * stripe_length d.shape + stripe_length d.shape
        high =
            subst (λ n. n < get_or (touched d pass.note) k default * stripe_length d.shape + stripe_length d.shape) (sym is.0)
            (subst (λ n. pass.note.offset < n * stripe_length d.shape + stripe_length d.shape) (sym place) (met_high (stripe_length d.shape) some pass.note.offset k))

    draw_stay : StripesIn (d.versions ++ map (new_version pass) (touched d pass.note))
    draw_stay =
        subst (λ cs. All (λ content. length content ≡ stripe_length d.shape) cs) (sym (contents_drawn calls d.shape d.versions (map (new_version pass) (touched d pass.note)) (all_based calls d sound has pass held)))
        (All-append (λ content. length content ≡ stripe_length d.shape) contents (map (content_after d.shape calls contents) (map (new_version pass) (touched d pass.note))) stripes
        (All-map (λ content. length content ≡ stripe_length d.shape) (content_after d.shape calls contents) (map (new_version pass) (touched d pass.note))
        (All-map (λ (version : Version). length (content_after d.shape calls contents version) ≡ stripe_length d.shape) (new_version pass) (touched d pass.note) new_long)))

  -- ---- any step
  module _ (sound : IsSound d) (has : HasBytes calls d) (some : 0 < stripe_length d.shape) (short : Bool) (who : Actor) (number : ℕ) (step : DirectoryStep) (may : MayStep d who number step) where
    abbrev after : Directory
    after = (at_directory short who number step d).0

    in_shape : (origins after.versions ≡ origins d.versions) ⊎ Draws who step d after → StripesIn after.versions
    in_shape (inl e) = same after.versions e
    in_shape (inr draws) =
        let may_draw : MayStep d who number DirectoryStep.Draw = subst (MayStep d who number) draws.is_draw may in
        let one : may_draw.0 ≡ draws.pass = same_Some may_draw.0 draws.pass (sym may_draw.1.is_pass ∙ draws.found) in
        subst StripesIn (sym draws.versions)
        (draw_stay sound has some draws.pass (held_pass who d draws.pass draws.found) (subst (λ (p : Pass). (p.note.kind ≡ Kind.Put) ⊎ (p.note.kind ≡ Kind.Write)) one may_draw.1.kind))

    step_stay : AreStripes calls after
    step_stay =
        subst (λ g. All (λ content. length content ≡ stripe_length g) (contents_by g calls after.versions)) (sym (versions_move short who number step d).shape) (in_shape (versions_move short who number step d).moved)

-- the law
pub steps_keep_stripes : (calls : Calls) → StepsKeepStripes calls
steps_keep_stripes calls =
    record {
      first = λ g max. All-nil (λ content. length content ≡ stripe_length g);
      step = λ short who number step d some sound has stripes may. step_stay calls d stripes sound has some short who number step may;
    }

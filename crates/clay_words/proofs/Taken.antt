-- Clap takes the words that are spelled, and holds each under its name.
-- Clap's definitions walk over the words; unfolding of its top level on the literals of the grammar with refl, and one lemma a level
-- below (Levels, Walks, Stops), give that spelled words are met (spelled_taken). Of a number's word it is needed alone that its first
-- byte is no hyphen. Rattle.clap.specs.declared.builder.Command.TheViews.{out-Command} is the name of a command's fields. That words ask
-- for one command: the command is computed from them (digits_value of each number), so there is a case a command and none a pair.
use Rattle.std.proofs.Common.{◌≡◌, List, [], ◌∷◌, length, refl, sym, subst, ap, ◌∙◌}
use Rattle.std.specs.Prelude.{Bool, true, false, ◌&&◌, Option, Some, find, is_some, option_map}
use Rattle.std.specs.List.{AllByRecursion, list_all}
use Rattle.std.specs.Option.{option_map_or}
use Rattle.line_grammar.specs.Numbers.{IsNumberWord}
use Rattle.clap.specs.Words.{Text, Shape}
use Rattle.clap.specs.Walk.{Held, answers_to, finished, nothing_held, walk}
use Rattle.clap.specs.Simple.{built, built_leaf, inherited, label_of, marked_built, rows_at, with_leaf_noted}
use Rattle.clap.specs.Takes.{default_passes, is_valid, level_passes, settle_passes}
use Rattle.clap.proofs.OnLiterals.{clap_on_literals}
use Rattle.clay_words.specs.Grammar.{clay_app, command_app}
use Rattle.clay_words.specs.Names.{ids_of, word_of}
use Rattle.clay_words.specs.Spelled.{Hold, IsSpelled, IsTaken}
use Rattle.clay_words.specs.declared.word_names.Name.{Name}
use Rattle.clay_words.specs.declared.word_names.Name.TheVariants.{Play, Run, Verify, Chunks, Recover, Generate, Trial, AloofChunks, AloofRepair}
use Rattle.clay_words.proofs.Lengths.{by_length}
use Rattle.clay_words.proofs.Stops.{found_by, stop, taken_by, top_passes}
use Rattle.clay_words.proofs.Walks.{AllGo, all_held, all_pass, held_after}

-- the command as it is built below the program
abbrev leaf : Name → Shape
leaf name = built_leaf (inherited (with_leaf_noted (marked_built clay_app.top)) (command_app name).top)

-- what is held behind the words
abbrev end_of : Shape → List Text → Held
end_of s words = held_after s.rules nothing_held 1 words

-- what is checked of what is held at the end
abbrev ends_well : Shape → Held → Bool
ends_well s end =
    settle_passes s.rules s.args_override_self end && (list_all default_passes s.rules && is_valid s (finished s.rules end) false)

-- the program's command of this name takes these words, where they are numbers
record Fits (name : Name) (numbers : List Text) : Type 0 where
  stops : stop (word_of name ∷ numbers) ≡ Some (word_of name, numbers)
  top : top_passes (word_of name ∷ numbers) true ≡ true
  enters : find (λ (s : Shape). answers_to (word_of name) (label_of s)) (built clay_app).subs ≡ Some (leaf name)
  named : (leaf name).name ≡ word_of name
  go : AllGo (leaf name) nothing_held 1 numbers
  well : ends_well (leaf name) (end_of (leaf name) numbers) ≡ true
  held : Hold (finished (leaf name).rules (end_of (leaf name) numbers)) (ids_of name) numbers

level : (s : Shape) (words : List Text) → AllByRecursion IsNumberWord words → AllGo s nothing_held 1 words → ends_well s (end_of s words) ≡ true
    → level_passes s [] nothing_held words false ≡ true
level s words numbers go well =
    ap (λ (b : Bool). b && ends_well s (walk s.rules [] nothing_held words).held) (all_pass s nothing_held 1 words numbers go)
    ∙ ap (ends_well s) (all_held s nothing_held 1 words numbers go) ∙ well

taken : (name : Name) (numbers : List Text) → AllByRecursion IsNumberWord numbers → Fits name numbers → IsTaken (word_of name ∷ numbers)
taken name numbers all fits =
    let below : level_passes (leaf name) [] nothing_held numbers false ≡ true = level (leaf name) numbers all fits.go fits.well in
    let rows : (walk (leaf name).rules [] nothing_held numbers).held ≡ end_of (leaf name) numbers = all_held (leaf name) nothing_held 1 numbers all fits.go in
    record {
      is_taken = taken_by (word_of name ∷ numbers) (word_of name, numbers) fits.stops
          (ap (λ (o : Option Shape). is_some (option_map (λ (s : Shape). rows_at s numbers) o)) fits.enters)
          (ap (λ (o : Option Shape). option_map_or (λ (s : Shape). level_passes s [] nothing_held numbers false) o true) fits.enters ∙ below) fits.top;
      word = word_of name;
      rows = finished (leaf name).rules (end_of (leaf name) numbers);
      found = found_by (word_of name ∷ numbers) (word_of name, numbers) fits.stops ∙ ap (option_map (λ (s : Shape). rows_at s numbers)) fits.enters
          ∙ (λ i. Some (fits.named i, finished (leaf name).rules (rows i)));
      held = record { name = name; word_is = refl; numbers = record { numbers = numbers; words_are = refl; held = fits.held } };
    }

-- ---- a row for each command

play_fits : Fits Play []
unfolding clap_on_literals
play_fits = record { stops = refl; top = refl; enters = refl; named = refl; go = tt; well = refl; held = tt }

run_fits : (a : Text) → Fits Run (a ∷ [])
unfolding clap_on_literals
run_fits a = record { stops = refl; top = refl; enters = refl; named = refl; go = (refl, refl, tt); well = refl; held = (refl, tt) }

verify_fits : Fits Verify []
unfolding clap_on_literals
verify_fits = record { stops = refl; top = refl; enters = refl; named = refl; go = tt; well = refl; held = tt }

chunks_fits : (a b c : Text) → Fits Chunks (a ∷ b ∷ c ∷ [])
unfolding clap_on_literals
chunks_fits a b c = record { stops = refl; top = refl; enters = refl; named = refl; go = (refl, refl, (refl, refl, (refl, refl, tt))); well = refl; held = (refl, (refl, (refl, tt))) }

recover_fits : (a b c : Text) → Fits Recover (a ∷ b ∷ c ∷ [])
unfolding clap_on_literals
recover_fits a b c = record { stops = refl; top = refl; enters = refl; named = refl; go = (refl, refl, (refl, refl, (refl, refl, tt))); well = refl; held = (refl, (refl, (refl, tt))) }

generate_fits : (a b : Text) → Fits Generate (a ∷ b ∷ [])
unfolding clap_on_literals
generate_fits a b = record { stops = refl; top = refl; enters = refl; named = refl; go = (refl, refl, (refl, refl, tt)); well = refl; held = (refl, (refl, tt)) }

trial_fits : (a b c : Text) → Fits Trial (a ∷ b ∷ c ∷ [])
unfolding clap_on_literals
trial_fits a b c = record { stops = refl; top = refl; enters = refl; named = refl; go = (refl, refl, (refl, refl, (refl, refl, tt))); well = refl; held = (refl, (refl, (refl, tt))) }

aloof_chunks_fits : (a b c d : Text) → Fits AloofChunks (a ∷ b ∷ c ∷ d ∷ [])
unfolding clap_on_literals
aloof_chunks_fits a b c d = record { stops = refl; top = refl; enters = refl; named = refl; go = (refl, refl, (refl, refl, (refl, refl, (refl, refl, tt)))); well = refl; held = (refl, (refl, (refl, (refl, tt)))) }

aloof_repair_fits : (a b c d e : Text) → Fits AloofRepair (a ∷ b ∷ c ∷ d ∷ e ∷ [])
unfolding clap_on_literals
aloof_repair_fits a b c d e = record { stops = refl; top = refl; enters = refl; named = refl; go = (refl, refl, (refl, refl, (refl, refl, (refl, refl, (refl, refl, tt))))); well = refl; held = (refl, (refl, (refl, (refl, (refl, tt))))) }

fits : (name : Name) (numbers : List Text) → length numbers ≡ length (ids_of name) → Fits name numbers
fits Play numbers long = by_length 0 (Fits Play) play_fits numbers long
fits Run numbers long = by_length 1 (Fits Run) run_fits numbers long
fits Verify numbers long = by_length 0 (Fits Verify) verify_fits numbers long
fits Chunks numbers long = by_length 3 (Fits Chunks) chunks_fits numbers long
fits Recover numbers long = by_length 3 (Fits Recover) recover_fits numbers long
fits Generate numbers long = by_length 2 (Fits Generate) generate_fits numbers long
fits Trial numbers long = by_length 3 (Fits Trial) trial_fits numbers long
fits AloofChunks numbers long = by_length 4 (Fits AloofChunks) aloof_chunks_fits numbers long
fits AloofRepair numbers long = by_length 5 (Fits AloofRepair) aloof_repair_fits numbers long

pub spelled_taken : (words : List Text) → IsSpelled words → IsTaken words
spelled_taken [] spelled = absurd spelled
spelled_taken (word ∷ numbers) (name, is, (long, all)) =
    subst (λ (w : Text). IsTaken (w ∷ numbers)) (sym is) (taken name numbers all (fits name numbers long))

use Rattle.stripe_stamps.specs.Sealed.{Sealed}
use Rattle.std.proofs.Common.{◌≡◌, ℕ, ◌<◌, Option, None, Some, option_map, unwrap_or, ap, sym, subst, ◌∙◌}
use Rattle.clay_grid.specs.Shape.{stripe_length}
use Rattle.store_map.specs.declared.reply.Reply.TheVariants as reply
use Rattle.store_core.specs.Note.{Note, Kind, refusal}
use Rattle.store_core.specs.Act.{DirectoryStep}
use Rattle.store_core.specs.Directory.{Object, Event, Directory}
use Rattle.store_core.specs.Look.{append_point}
use Rattle.dir_parts.specs.Begun.{begins_pass}
use Rattle.store_core.specs.Lookups.{find_object}
use Rattle.store_core.specs.Looks.{look, accept}
use Rattle.stripe_stamps.specs.ItsStripes.{IsWhole}
use Rattle.run_laws.proofs.OwnSteps.{steps_may_be_made}
use Rattle.dir_parts.specs.Events.{reply_in}
use Rattle.dir_parts.specs.Passes.{kind_in}
use Rattle.dir_parts.specs.Parts.{object_or_new}
use Rattle.stripe_dir.specs.Kept.{directory_in}
use Rattle.stripe_dir.specs.declared.directory.Directory.TheInside.{Inside}
use Rattle.stripe_dir.proofs.Sound.{keeps_whole}
use Rattle.stripe_dir.proofs.Lookings.{look_refused, look_accepted, length_is, other_kinds}
use Rattle.stripe_dir.proofs.directory.Directory.look_by.Goals as goal

pub answer-requires : goal.answer-requires
answer-requires c =
    let a : Inside = c.self.inside in
    let x : Directory = c.args.self.now.core in
    let view : directory_in a ≡ x = (ap (λ (s : Sealed). s.core) c.self.view_is) in
    let note : Note = c.args.note in
    let object : Object = object_or_new note.name x.objects in
    let some : 0 < stripe_length x.shape = subst (λ (y : Directory). 0 < stripe_length y.shape) view c.self.invariant.stripes in
    let whole : IsWhole x = subst IsWhole view c.self.invariant.whole in
    let looked : IsWhole (look c.args.seat.actor c.args.number note x).0 =
    keeps_whole c.args.seat.actor c.args.number (DirectoryStep.Look note) x some whole (steps_may_be_made.look c.args.seat c.args.number (DirectoryStep.Look note) x c.requires.agrees c.requires.may)
    in
    let found : c.length_of-found.result ≡ option_map (λ (o : Object). o.length) (find_object note.name x.objects) =
    c.length_of-found.ensures ∙ (λ i. option_map (λ (o : Object). o.length) (find_object (c.note.view_is i).name (view i).objects))
    in
    let refused : option_map reply_in c.refusal.result ≡ refusal x.max note (option_map (λ (o : Object). o.length) (find_object note.name x.objects)) =
    c.refusal.ensures ∙ (λ i. refusal (view i).max (c.note.view_is i) (found i))
    in
    let e : refusal x.max note (option_map (λ (o : Object). o.length) (find_object note.name x.objects)) ≡ Some (reply_in c.in-Some.reply) = sym refused ∙ ap (option_map reply_in) c.in-Some.is in
    record { whole = subst (λ (r : Directory). IsWhole r) (ap (λ r. r.0) (look_refused c.args.seat.actor c.args.number note x (reply_in c.in-Some.reply) e)) looked }

pub answer-requires-in-Stat : goal.answer-requires-in-Stat
answer-requires-in-Stat c =
    let a : Inside = c.self.inside in
    let x : Directory = c.args.self.now.core in
    let view : directory_in a ≡ x = (ap (λ (s : Sealed). s.core) c.self.view_is) in
    let note : Note = c.args.note in
    let object : Object = object_or_new note.name x.objects in
    let some : 0 < stripe_length x.shape = subst (λ (y : Directory). 0 < stripe_length y.shape) view c.self.invariant.stripes in
    let whole : IsWhole x = subst IsWhole view c.self.invariant.whole in
    let looked : IsWhole (look c.args.seat.actor c.args.number note x).0 =
    keeps_whole c.args.seat.actor c.args.number (DirectoryStep.Look note) x some whole (steps_may_be_made.look c.args.seat c.args.number (DirectoryStep.Look note) x c.requires.agrees c.requires.may)
    in
    let found : c.length_of-found.result ≡ option_map (λ (o : Object). o.length) (find_object note.name x.objects) =
    c.length_of-found.ensures ∙ (λ i. option_map (λ (o : Object). o.length) (find_object (c.note.view_is i).name (view i).objects))
    in
    let refused : option_map reply_in c.refusal.result ≡ refusal x.max note (option_map (λ (o : Object). o.length) (find_object note.name x.objects)) =
    c.refusal.ensures ∙ (λ i. refusal (view i).max (c.note.view_is i) (found i))
    in
    let none : refusal x.max note (option_map (λ (o : Object). o.length) (find_object note.name x.objects)) ≡ None = sym refused ∙ ap (option_map reply_in) c.in_default.is in
    let length : c.or_first-length.result ≡ object.length = c.or_first-length.ensures ∙ ap (λ (o : Option ℕ). unwrap_or o 0) found ∙ length_is note.name x.objects in
    let accepted : IsWhole (accept c.args.seat.actor c.args.number note x note.kind object).0 = subst (λ (r : Directory). IsWhole r) (ap (λ r. r.0) (look_accepted c.args.seat.actor c.args.number note x none)) looked in
    let kind_is : note.kind ≡ Kind.Stat = sym (ap (λ (n : Note). n.kind) c.note.view_is) ∙ ap kind_in c.in-Stat.is in
    let stat : IsWhole (append_point c.args.seat.actor c.args.number note (Event.Answer (reply.Length object.length)) x) = subst (λ (k : Kind). IsWhole (accept c.args.seat.actor c.args.number note x k object).0) kind_is accepted in
    record { whole = subst (λ (n : ℕ). IsWhole (append_point c.args.seat.actor c.args.number note (Event.Answer (reply.Length n)) x)) (sym length) stat }

pub delete-requires : goal.delete-requires
delete-requires c =
    let a : Inside = c.self.inside in
    let x : Directory = c.args.self.now.core in
    let view : directory_in a ≡ x = (ap (λ (s : Sealed). s.core) c.self.view_is) in
    let note : Note = c.args.note in
    let object : Object = object_or_new note.name x.objects in
    let some : 0 < stripe_length x.shape = subst (λ (y : Directory). 0 < stripe_length y.shape) view c.self.invariant.stripes in
    let whole : IsWhole x = subst IsWhole view c.self.invariant.whole in
    let looked : IsWhole (look c.args.seat.actor c.args.number note x).0 =
    keeps_whole c.args.seat.actor c.args.number (DirectoryStep.Look note) x some whole (steps_may_be_made.look c.args.seat c.args.number (DirectoryStep.Look note) x c.requires.agrees c.requires.may)
    in
    let found : c.length_of-found.result ≡ option_map (λ (o : Object). o.length) (find_object note.name x.objects) =
    c.length_of-found.ensures ∙ (λ i. option_map (λ (o : Object). o.length) (find_object (c.note.view_is i).name (view i).objects))
    in
    let refused : option_map reply_in c.refusal.result ≡ refusal x.max note (option_map (λ (o : Object). o.length) (find_object note.name x.objects)) =
    c.refusal.ensures ∙ (λ i. refusal (view i).max (c.note.view_is i) (found i))
    in
    let none : refusal x.max note (option_map (λ (o : Object). o.length) (find_object note.name x.objects)) ≡ None = sym refused ∙ ap (option_map reply_in) c.in_default.is in
    let length : c.or_first-length.result ≡ object.length = c.or_first-length.ensures ∙ ap (λ (o : Option ℕ). unwrap_or o 0) found ∙ length_is note.name x.objects in
    let accepted : IsWhole (accept c.args.seat.actor c.args.number note x note.kind object).0 = subst (λ (r : Directory). IsWhole r) (ap (λ r. r.0) (look_accepted c.args.seat.actor c.args.number note x none)) looked in
    let kind_is : note.kind ≡ Kind.Delete = sym (ap (λ (n : Note). n.kind) c.note.view_is) ∙ ap kind_in c.in-Delete.is in
    record { whole = subst (λ (k : Kind). IsWhole (accept c.args.seat.actor c.args.number note x k object).0) kind_is accepted }

pub look_on-requires : goal.look_on-requires
look_on-requires c =
    let a : Inside = c.self.inside in
    let x : Directory = c.args.self.now.core in
    let view : directory_in a ≡ x = (ap (λ (s : Sealed). s.core) c.self.view_is) in
    let note : Note = c.args.note in
    let object : Object = object_or_new note.name x.objects in
    let some : 0 < stripe_length x.shape = subst (λ (y : Directory). 0 < stripe_length y.shape) view c.self.invariant.stripes in
    let whole : IsWhole x = subst IsWhole view c.self.invariant.whole in
    let looked : IsWhole (look c.args.seat.actor c.args.number note x).0 =
    keeps_whole c.args.seat.actor c.args.number (DirectoryStep.Look note) x some whole (steps_may_be_made.look c.args.seat c.args.number (DirectoryStep.Look note) x c.requires.agrees c.requires.may)
    in
    let found : c.length_of-found.result ≡ option_map (λ (o : Object). o.length) (find_object note.name x.objects) =
    c.length_of-found.ensures ∙ (λ i. option_map (λ (o : Object). o.length) (find_object (c.note.view_is i).name (view i).objects))
    in
    let refused : option_map reply_in c.refusal.result ≡ refusal x.max note (option_map (λ (o : Object). o.length) (find_object note.name x.objects)) =
    c.refusal.ensures ∙ (λ i. refusal (view i).max (c.note.view_is i) (found i))
    in
    let none : refusal x.max note (option_map (λ (o : Object). o.length) (find_object note.name x.objects)) ≡ None = sym refused ∙ ap (option_map reply_in) c.in_default.is in
    let length : c.or_first-length.result ≡ object.length = c.or_first-length.ensures ∙ ap (λ (o : Option ℕ). unwrap_or o 0) found ∙ length_is note.name x.objects in
    let accepted : IsWhole (accept c.args.seat.actor c.args.number note x note.kind object).0 = subst (λ (r : Directory). IsWhole r) (ap (λ r. r.0) (look_accepted c.args.seat.actor c.args.number note x none)) looked in
    record { goes_on = sym (ap (λ (n : Note). begins_pass n.kind) c.note.view_is) ∙ other_kinds c.note.inside.kind c.in_default-kind.not-Stat c.in_default-kind.not-Delete c.in_default-kind.not-Rebuild; length = length; whole = accepted }

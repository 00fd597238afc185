use Rattle.std.proofs.Common.{◌≡◌, Option, Some, ◌++◌, ◌∷◌, [], sym, ap, subst, ◌∙◌}
use Rattle.std.proofs.lemmas.Bool.{false≢true}
use Rattle.std.proofs.lemmas.Option.{none-some, same_Some}
use Rattle.sd_names.specs.declared.place.Dir.{Dir}
use Rattle.sd_names.specs.declared.place.Name.{Name}
use Rattle.memory_disk.specs.Listing.{IsLeastName}
use Rattle.shared_disk.specs.NameCalls.{IsNameAbove}
use Rattle.memory_disk.specs.declared.entry.FileEntry.{FileEntry}
use Rattle.memory_disk.proofs.Listed.{name_more, name_same}
use Rattle.memory_disk.proofs.listing.with_file.Goals as goal
use Rattle.memory_disk.proofs.listing.with_file.Goals.{else-is-via-then-is+else-is_name_above, else-is-via-else-is}

not_it : (s : Option FileEntry) (f : FileEntry) (dir : Dir) (after : Option Name) → s ≡ Some f → (f.place.dir ≡ dir → IsNameAbove after f.place.name → ⊥)
    → (g : FileEntry) → s ≡ Some g → g.place.dir ≡ dir → IsNameAbove after g.place.name → ⊥
not_it s f dir after e none g h at above =
    let same : g ≡ f = same_Some g f (sym h ∙ e) in
    none (ap (λ (x : FileEntry). x.place.dir) (sym same) ∙ at) (subst (λ (x : FileEntry). IsNameAbove after x.place.name) same above)

pub returns-then-is_name_above : goal.returns-then-is_name_above
returns-then-is_name_above c = λ front was.
    subst (λ (s : Option FileEntry). IsLeastName (front ++ s ∷ []) c.args.dir c.args.after (Some c.lesser_name.result)) (sym c.in-Some.is)
    (name_more front c.in-Some.file c.args.dir c.args.after c.args.least c.lesser_name.result (c.is.ensures.0 c.if-is.true) (c.is_name_above.ensures.0 c.if-is_name_above.true) c.lesser_name.ensures was)

pub returns-else-is : goal.returns-else-is
returns-else-is c = λ front was.
    name_same front c.args.slot c.args.dir c.args.after c.args.least (not_it c.args.slot c.in-Some.file c.args.dir c.args.after c.in-Some.is (λ at above. elim c.else-is.branch [
      | else-is-via-then-is+else-is_name_above w ↦ false≢true (w.if-is_name_above.ensures.1 above)
      | else-is-via-else-is w ↦ false≢true (w.if-is.ensures.1 at)
    ])) was

pub returns-in-None : goal.returns-in-None
returns-in-None c = λ front was. name_same front c.args.slot c.args.dir c.args.after c.args.least (λ f e at above. none-some f (sym c.in-None.is ∙ e)) was

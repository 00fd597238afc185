use Rattle.std.proofs.Common.{◌≡◌, ◌∷◌, [], Some, ap, sym, ◌∙◌, refl}
use Rattle.std.specs.List.{slice_split}
use Rattle.task_store.specs.Parts.{first_part, is_byte, parts_left}
use Rattle.task_store.proofs.Cut.{cut_first, cut_none}
use Rattle.task_store.proofs.parts.Parts.next.Goals as goal

pub returns-in-Some : goal.returns-in-Some
returns-in-Some c =
    let byte = c.self.inside.delimiter in
    let cut = cut_first byte c.in_ok-rest.rest.now (sym c.in-Some.ensures.found) in
    let seen : c.self.inside.rest ≡ Some c.in_ok-rest.rest = c.in_ok-rest.was in
    let all : c.args.self.now ≡ c.in-Some.part.now ∷ slice_split (is_byte byte) c.in-Some.behind.now =
    sym c.self.view_is ∙ ap (parts_left byte) seen ∙ cut ∙ rw (c.in-Some.ensures.before, c.in-Some.ensures.after) refl in
    sym (ap first_part all)

pub returns-in-None : goal.returns-in-None
returns-in-None c =
    let byte = c.self.inside.delimiter in
    let cut = cut_none byte c.in_ok-rest.rest.now (sym c.in-None.ensures.found) in
    let seen : c.self.inside.rest ≡ Some c.in_ok-rest.rest = c.in_ok-rest.was in
    let all : c.args.self.now ≡ c.in_ok-rest.rest.now ∷ [] = sym c.self.view_is ∙ ap (parts_left byte) seen ∙ cut in
    sym (ap first_part all)

use Rattle.std.proofs.Common.{◌≡◌, Bool, true, false, refl, sym, ap, ◌∙◌}
use Rattle.std.proofs.lemmas.Bool.{false≢true}
use Rattle.sd_names.specs.declared.id.Id.{Id}
use Rattle.shared_disk.specs.Places.{id_is}
use Rattle.shared_disk.proofs.Places.{id_is-itself, id_is-same, not_false}
use Rattle.spm_role.proofs.lists.is_of.Goals as goal

pub returns : goal.returns
returns c = go c.is.result refl
  where
    a : Id
    a = c.args.pair.now.0

    t : Id
    t = c.args.task.now

    go : (b : Bool) → c.is.result ≡ b → c.is.result ≡ id_is a t
    go true e = e ∙ sym (ap (λ (x : Id). id_is x t) (c.is.ensures.0 e) ∙ id_is-itself t)
    go false e = e ∙ sym (not_false (id_is a t) (λ yes. false≢true (sym e ∙ c.is.ensures.1 (id_is-same a t yes))))

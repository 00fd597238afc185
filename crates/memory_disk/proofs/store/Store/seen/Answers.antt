use Rattle.std.proofs.Common.{◌≡◌, ℕ, List, Option, None, unwrap_or, sym, ap, ◌∙◌}
use Rattle.shared_disk.specs.Content.{own_of, zero_sector}
use Rattle.memory_disk.specs.Sectors.{sector_at}
use Rattle.memory_disk.specs.Store.{loose_of}
use Rattle.memory_disk.proofs.store.Store.seen.Goals as goal

pub returns : goal.returns
unfolding zero_sector
returns c =
    let own : own_of c.args.host c.args.k (loose_of c.args.number c.args.self.now.log.items) ≡ None =
    sym (c.args.self.now.own_is c.args.host c.args.number c.args.k)
    ∙ ap (λ (h : ℕ). sector_at c.args.self.now.own h c.args.number c.args.k) (sym c.get.ensures.value) ∙ sym c.get-2.ensures ∙ c.in_default.is in
    rw own (c.unwrap_or.ensures ∙ ap (λ (o : Option (List ℕ)). unwrap_or o zero_sector) c.get-3.ensures)

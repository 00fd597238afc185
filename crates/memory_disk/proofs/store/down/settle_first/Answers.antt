use Rattle.std.proofs.Common.{◌≡◌, Some, sym, ap, ◌∙◌, inl, inr}
use Rattle.shared_disk.specs.Content.{own_of}
use Rattle.memory_disk.specs.Sectors.{sector_at}
use Rattle.memory_disk.specs.Store.{loose_of}
use Rattle.memory_disk.proofs.Settling.{own_within, settling_put}
use Rattle.memory_disk.proofs.store.down.settle_first.Goals as goal

pub returns-in-Some-picked-clause-at : goal.returns-in-Some-picked-clause-at
returns-in-Some-picked-clause-at c =
    let own : own_of c.args.host c.index-log-i.result.sector (loose_of c.index-log-i.result.file c.args.log.now) ≡ Some c.in-Some.last =
    sym (c.requires.own c.index-log-i.result.file c.index-log-i.result.sector)
    ∙ ap (λ h. sector_at c.args.own.now h c.index-log-i.result.file c.index-log-i.result.sector) (sym c.get-3.ensures.value) ∙ sym c.get-4.ensures ∙ c.in-Some.is in
    settling_put c.args.host c.args.files.now.slots.items c.args.log.now c.args.stable.now c.put.new.self c.index-log-i.result.file c.index-log-i.result.sector c.in-Some-picked.bytes
    (record {
      within = own_within c.args.host c.index-log-i.result.file c.index-log-i.result.sector c.args.files.now.slots.items c.args.log.now c.in-Some.last c.requires.within own;
      cases = elim c.in-Some-picked.ensures [
        | inl e ↦ inl (own ∙ ap (λ b. Some b) (sym e))
        | inr w ↦ inr (c.is_fresh-fresh.ensures w.0, w.1)
      ];
    }) (λ n j. c.put.ensures.at 0 n j)

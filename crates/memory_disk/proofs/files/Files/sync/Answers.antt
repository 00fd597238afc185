use Rattle.std.proofs.Common.{◌≡◌, length, map, count_by, is_some, ap, sym, subst, ◌∙◌}
use Rattle.std.specs.Vec.{with_items}
use Rattle.std.proofs.lemmas.List.{length-map, with_items_is}
use Rattle.std.specs.Option.{option_map}
use Rattle.memory_disk.specs.Files.{entry_synced}
use Rattle.memory_disk.specs.Store.{AreApart}
use Rattle.memory_disk.proofs.Slots.{count_map, map_apart}
use Rattle.memory_disk.proofs.files.Files.sync.Goals as goal

pub invariant_of-self-clause-counted : goal.invariant_of-self-clause-counted
invariant_of-self-clause-counted c =
    let is : (with_items c.args.self.now.slots c.sync_all.new.slots).items ≡ map (option_map (entry_synced c.args.host)) c.args.self.now.slots.items =
    with_items_is c.args.self.now.slots c.sync_all.new.slots (ap length c.sync_all.ensures ∙ length-map c.deref_mut.result.now _ ∙ c.deref_mut.ensures.len) ∙ c.sync_all.ensures ∙ ap (map (option_map (entry_synced c.args.host))) c.deref_mut.ensures.value in
    c.args.self.now.counted ∙ sym (ap (count_by is_some) is ∙ count_map (entry_synced c.args.host) c.args.self.now.slots.items)

pub invariant_of-self-clause-apart : goal.invariant_of-self-clause-apart
invariant_of-self-clause-apart c =
    let is : (with_items c.args.self.now.slots c.sync_all.new.slots).items ≡ map (option_map (entry_synced c.args.host)) c.args.self.now.slots.items =
    with_items_is c.args.self.now.slots c.sync_all.new.slots (ap length c.sync_all.ensures ∙ length-map c.deref_mut.result.now _ ∙ c.deref_mut.ensures.len) ∙ c.sync_all.ensures ∙ ap (map (option_map (entry_synced c.args.host))) c.deref_mut.ensures.value in
    subst AreApart (sym is) (map_apart (entry_synced c.args.host) c.args.self.now.slots.items c.args.self.now.apart (λ i j f g is js at. at))

pub returns-clause-slots : goal.returns-clause-slots
returns-clause-slots c =
    with_items_is c.args.self.now.slots c.sync_all.new.slots (ap length c.sync_all.ensures ∙ length-map c.deref_mut.result.now _ ∙ c.deref_mut.ensures.len) ∙ c.sync_all.ensures ∙ ap (map (option_map (entry_synced c.args.host))) c.deref_mut.ensures.value

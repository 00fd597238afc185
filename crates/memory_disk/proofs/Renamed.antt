-- What the content of a store is after a file is removed, and after it is renamed.
use Rattle.std.proofs.Common.{◌≡◌, ◌≢◌, ℕ, ◌==◌, Bool, true, false, List, Option, Some, None, unwrap_or, eq-eqb, refl, sym, ap, ◌∙◌}
use Rattle.std.proofs.lemmas.Option.{same_Some}
use Rattle.std.proofs.lemmas.Bool.{false≢true}
use Rattle.sd_names.specs.declared.place.Dir.{Dir}
use Rattle.sd_names.specs.declared.place.Place.{Place}
use Rattle.memory_disk.specs.declared.entry.FileEntry.{FileEntry}
use Rattle.memory_disk.specs.declared.entry.Write.{Write}
use Rattle.memory_disk.specs.declared.sector_map.Sectors.{Sectors}
use Rattle.shared_disk.specs.Calls.{IsPut}
use Rattle.shared_disk.specs.Content.{File, zero_sector}
use Rattle.shared_disk.specs.NameCalls.{IsRenamed}
use Rattle.memory_disk.specs.Sectors.{sector_at}
use Rattle.memory_disk.specs.Store.{AreApart, IsCleared, IsSlotPut, content_of, file_of, found, has_dir, loose_of, slot}
use Rattle.memory_disk.proofs.Contents.{carried, file_at, none_at}
use Rattle.memory_disk.proofs.Slots.{found_at, found_gone, found_slot, put_here, put_other}

-- a file that is removed
pub is_removed : (dirs dirs1 : List Dir) (slots slots1 : List (Option FileEntry)) (stable stable1 : Sectors) (log log1 : List Write) (p : Place)
    → dirs1 ≡ dirs → AreApart slots1 → IsCleared p slots stable log slots1 stable1 log1 → IsPut (content_of dirs slots stable log) p None (content_of dirs1 slots1 stable1 log1)
is_removed dirs dirs1 slots slots1 stable stable1 log log1 p folders apart c = record {
  dirs = λ q. ap (λ (ds : List Dir). has_dir ds q) folders;
  here = none_at _ (found p 0 slots1) (found_gone p slots1 (λ n f is at. (c.kept n f is).1 at));
  others = λ q h. carried dirs dirs1 slots slots1 stable stable1 log log1 q q apart (record {
    there = λ n f is at. let now = c.others n f is (λ e. h (sym at ∙ e)) in (f, now, at, c.same n f now);
    back = λ n g is at. (g, (c.kept n g is).0, at);
  });
}

-- what is at a number, after one that was there was written anew
written_step : (number n : ℕ) (new g : FileEntry) (before after : List (Option FileEntry)) (b : Bool) → (n == number) ≡ b → IsSlotPut number (Some new) before after → slot n after ≡ Some g → g.place ≢ new.place → (n ≢ number) × (slot n before ≡ Some g)
written_step number n new g before after true t put is apart = absurd (apart (ap (λ (x : FileEntry). x.place) (sym (same_Some new g (sym (rw t at (put n)) ∙ is)))))
written_step number n new g before after false t put is apart = (λ e. false≢true (sym t ∙ eq-eqb n number e), sym (rw t at (put n)) ∙ is)

written : (number n : ℕ) (new g : FileEntry) (before after : List (Option FileEntry)) → IsSlotPut number (Some new) before after → slot n after ≡ Some g → g.place ≢ new.place → (n ≢ number) × (slot n before ≡ Some g)
written number n new g before after put is apart = written_step number n new g before after (n == number) refl put is apart

-- a file that is renamed, once nothing stands at its new place
pub is_renamed : (dirs dirs2 : List Dir) (slots slots1 slots2 : List (Option FileEntry)) (stable stable1 : Sectors) (log log1 : List Write) (from to : Place) (number : ℕ) (f g : FileEntry)
    → dirs2 ≡ dirs → AreApart slots → AreApart slots2 → found from 0 slots ≡ Some (number, f) → from ≢ to → IsCleared to slots stable log slots1 stable1 log1 → IsSlotPut number (Some g) slots1 slots2
    → g.place ≡ to → g.size ≡ f.size → g.fresh ≡ f.fresh → IsRenamed (content_of dirs slots stable log) from to (content_of dirs2 slots2 stable1 log1)
is_renamed dirs dirs2 slots slots1 slots2 stable stable1 log log1 from to number f g folders apart apart2 was other c put place size fresh =
    let is = found_slot from slots number f was in
    let there : slot number slots1 ≡ Some f = c.others number f is.0 (λ e. other (sym is.1 ∙ e)) in
    let file : file_of stable1 log1 number g ≡ file_of stable log number f = (λ i. record { size = size i; stable = λ k. unwrap_or (sector_at stable1 0 number k) zero_sector; loose = loose_of number log1; fresh = fresh i }) ∙ c.same number f there in
    record {
      file = (file_of stable log number f, file_at dirs slots stable log from was, file_at dirs2 slots2 stable1 log1 to (found_at to slots2 number g apart2 (put_here number (Some g) slots1 slots2 put) place) ∙ ap (λ (x : File). Some x) file);
      gone = none_at _ (found from 0 slots2) (found_gone from slots2 (λ n h at e.
          let w = written number n g h slots1 slots2 put at (λ u. other (sym e ∙ u ∙ place)) in
          w.0 (apart n number h f (c.kept n h w.1).0 is.0 (e ∙ sym is.1))));
      dirs = λ q. ap (λ (ds : List Dir). has_dir ds q) folders;
      others = λ q h k. carried dirs dirs2 slots slots2 stable stable1 log log1 q q apart2 (record {
        there = λ n x at e.
            let now = c.others n x at (λ u. k (sym e ∙ u)) in
            (x, put_other number n (Some g) slots1 slots2 put (λ u. h (sym e ∙ ap (λ (y : FileEntry). y.place) (same_Some x f (sym at ∙ ap (λ (m : ℕ). slot m slots) u ∙ is.0)) ∙ is.1)) ∙ now, e, c.same n x now);
        back = λ n x at e.
            let w = written number n g x slots1 slots2 put at (λ u. k (sym e ∙ u ∙ place)) in
            (x, (c.kept n x w.1).0, e);
      });
    }

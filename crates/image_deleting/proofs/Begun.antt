-- What a deletion that has begun knows of a domain that is ready for it.
use Rattle.std.proofs.Common.{◌≡◌, ℕ, true, None, sym, ap, ◌∙◌, subst}
use Rattle.sd_names.specs.declared.id.Id.{Id}
use Rattle.sd_names.specs.declared.place.Dir.TheVariants as dir
use Rattle.shared_disk.specs.Content.{Content}
use Rattle.lease_area.specs.Scan.{seen_by}
use Rattle.lease_area.specs.declared.scanned.Scanned.{Scanned}
use Rattle.task_files.specs.TaskFile.{HasTask, task_place}
use Rattle.image_creating.specs.Knowing.{IsReadSince}
use Rattle.image_creating.proofs.Reading.{read_none}
use Rattle.image_removing.specs.Steps.{HaveIds}
use Rattle.image_deleting.specs.Deleting.{IsBegun, under_of}
use Rattle.image_deleting.specs.Knowing.{IsReady, Knows}
use Rattle.image_deleting.specs.RemovalTask.{domain_of, image_of}
use Rattle.image_deleting.specs.Sectors.{HasOnce}
use Rattle.image_deleting.specs.declared.deleting.DeleteImage.{DeleteImage}
use Rattle.image_deleting.specs.declared.deleting.Stage.{Stage}

pub begun_knows : (master task sd image : Id) (c : DeleteImage) (host : ℕ) (d : Content) → IsBegun master task sd image c → d.dir (dir.Tasks master) ≡ true → HasTask (task_place master task) None d → HasOnce sd image d
    → HaveIds (dir.Image sd image) (dir.Removed sd image) d → Knows c host d
begun_knows master task sd image c host d begun tasks none once ids =
    let under = begun.under in
    let t = under_of c in
    let s = begun.scans.0 in
    let scan = begun.scans.2 in
    let one = subst (λ (q : Id). HasOnce q (image_of t) d) (sym under.domain_is) (subst (λ (i : Id). HasOnce sd i d) (sym under.image_is) once) in
    subst (λ (z : Stage). IsReady z t host d) (sym begun.scans.1) (record {
      fresh = record {
        tasks = ap (λ (q : Id). d.dir (dir.Tasks q)) under.master_is ∙ tasks;
        ids = subst (λ (q : Id). HaveIds (dir.Image q (image_of t)) (dir.Removed q (image_of t)) d) (sym under.domain_is)
            (subst (λ (i : Id). HaveIds (dir.Image sd i) (dir.Removed sd i) d) (sym under.image_is) ids);
        task = ap (λ (q : Id). d.file (task_place q t.begun.id)) under.master_is ∙ ap (λ (q : Id). d.file (task_place master q)) under.id_is ∙ none;
      };
      domain = scan.domain ∙ sym under.domain_is;
      image = scan.image_is ∙ sym under.image_is;
      file = one.0;
      there = one.1;
      area = one.2;
      once = one.3;
      read = subst (λ (n : ℕ). IsReadSince n host (domain_of t) (image_of t) (seen_by s) one.0) (sym scan.made)
          (subst (λ (z : Scanned). IsReadSince 0 host (domain_of t) (image_of t) z one.0) (sym scan.seen) (read_none host (domain_of t) (image_of t) one.0 d));
    })

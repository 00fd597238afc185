-- What a creation that has begun knows of a domain that is ready for it.
use Rattle.std.proofs.Common.{◌≡◌, ℕ, true, None, sym, ap, ◌∙◌, subst}
use Rattle.sd_names.specs.declared.id.Id.{Id}
use Rattle.sd_names.specs.declared.place.Dir.TheVariants.{Images, Tasks}
use Rattle.shared_disk.specs.Content.{Content}
use Rattle.task_files.specs.TaskFile.{HasTask, task_place}
use Rattle.image_making.specs.declared.making.NewImage.{NewImage}
use Rattle.image_creating.specs.Creating.{IsBegun, under_of}
use Rattle.image_creating.specs.Knowing.{IsReady, Knows}
use Rattle.image_creating.specs.Sectors.{HasArea}
use Rattle.image_creating.specs.declared.creating.CreateImage.{CreateImage}
use Rattle.image_creating.specs.declared.creating.Stage.{Stage}

pub begun_knows : (master task : Id) (c : CreateImage) (x : NewImage) (host : ℕ) (d : Content) → IsBegun master task x c → d.dir (Images x.says.domain) ≡ true → d.dir (Tasks master) ≡ true
    → HasTask (task_place master task) None d → HasArea x.says.domain d → Knows c x host d
begun_knows master task c x host d begun images tasks none area =
    let under = begun.under in
    subst (λ (s : Stage). IsReady s (under_of c) x host d) (sym begun.asks.1) (record {
      fresh = record {
        same = record { domain = sym under.domain_is; image = sym under.image_is };
        making = begun.asks.2;
        images = images;
        tasks = ap (λ (q : Id). d.dir (Tasks q)) under.master_is ∙ tasks;
      };
      task = ap (λ (q : Id). d.file (task_place q (under_of c).begun.id)) under.master_is ∙ ap (λ (q : Id). d.file (task_place master q)) under.id_is ∙ none;
      area = subst (λ (q : Id). HasArea q d) (sym under.domain_is) area;
    })

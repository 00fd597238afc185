use Rattle.std.proofs.Common.{◌≡◌, ◌⊎◌, ◌/◌, ◌∷◌, [], true, Some, None, Err, MatchResult, refl, subst, inl, arith, rules}
use Rattle.sd_names.specs.declared.place.Dir.TheVariants.{Root, Image as ImageDir}
use Rattle.sd_names.specs.declared.place.Place.{Place}
use Rattle.shared_disk.specs.Content.{Content, zero_sector}
use Rattle.shared_disk.specs.Step.{ResultFaults}
use Rattle.pool_session.specs.Fault.{IsFault, SameOrFault}
use Rattle.shared_disk.specs.Calls.{IsPut, created, synced}
use Rattle.pool_session.specs.Image.{HasPartOfImage, HoldsFlat, file_of}
use Rattle.pool_session.specs.Folders.{folders_of, with_made}
use Rattle.pool_session.proofs.FaultLemmas.{ends_since}
use Rattle.pool_session.proofs.ImageLemmas.{images_among, image_not_among, alone_without, created_holds, part_left}
use Rattle.pool_session.specs.FileCalls.{ImagePartlyMade}
use Rattle.pool_session.proofs.AnyLemmas.{dir_left, image_made}
use Rattle.pool_session.proofs.ToldLemmas.{told_as}
use Rattle.pool_session.proofs.image.Image.create.Goals as goal

pub returns-clause-content : goal.returns-clause-content
returns-clause-content g c d tells has =
    let image = c.args.self.now in
    let host = c.args.host in
    let before = g.D.SharedDisk.faults c.args.disk.now in
    let between = g.D.SharedDisk.faults c.make_dir.new.disk in
    let after = g.D.SharedDisk.faults c.create_file.new.disk in
    let dirs = with_made (Root ∷ []) (folders_of image.sd) in
    let folder = ImageDir image.sd image.image in
    let fresh = created host (image.capacity / 512) in
    let made = c.in_ok-make_dir.ensures.content d dirs tells has (images_among image.sd) (image_not_among image.sd image.image) in
    let file = c.create_file.ensures.content made.0 made.1 (rw c.place.ensures (made.2.folders.there folder (inl refl))) (made.2.files c.place.result) in (
      file.0,
      file.1,
      ends_since (λ _. IsPut made.0 c.place.result (Some (synced host fresh)) file.0) (λ _. HoldsFlat image (λ _. zero_sector) file.0)
          ((file.0 ≡ made.0) ⊎ IsPut made.0 c.place.result (Some fresh) file.0) (HasPartOfImage host image file.0)
          before between after c.create_file.result (omega arith)
          (λ _ put. created_holds image host made.0 file.0 c.requires (alone_without image made.0 made.2) (subst (λ (p : Place). IsPut made.0 p (Some (synced host fresh)) file.0) c.place.ensures put))
          (λ left. part_left image host made.0 file.0 made.2 (subst (λ (p : Place). (file.0 ≡ made.0) ⊎ IsPut made.0 p (Some fresh) file.0) c.place.ensures left)) file.2,
    )

pub returns-clause-made : goal.returns-clause-made
returns-clause-made g c =
    let content = g.D.SharedDisk.content in
    let image = c.args.self.now in
    let fresh = created c.args.host (image.capacity / 512) in
    let folder = ImageDir image.sd image.image in
    let file_is : (d : Content) → content c.make_dir.new.disk ≡ Some d → d.dir folder ≡ true → d.file (file_of image) ≡ None
    → (e : Content) × (content c.create_file.new.disk ≡ Some e)
    × MatchResult c.create_file.result (λ _. IsPut d (file_of image) (Some (synced c.args.host fresh)) e)
    (λ refusal. IsFault (g.D.SharedDisk.faults c.make_dir.new.disk) (g.D.SharedDisk.faults c.create_file.new.disk) refusal × ((e ≡ d) ⊎ IsPut d (file_of image) (Some fresh) e)) =
    rw c.place.ensures at c.create_file.ensures.content in
    image_made (content c.args.disk.now) (content c.make_dir.new.disk) (content c.create_file.new.disk) (g.D.SharedDisk.faults c.make_dir.new.disk) (g.D.SharedDisk.faults c.create_file.new.disk)
    c.args.host image c.create_file.result (λ d tells. g.met.D.SharedDisk.well_formed c.args.disk.now d tells) c.in_ok-make_dir.ensures.made file_is

pub returns-in_err-make_dir-clause-made : goal.returns-in_err-make_dir-clause-made
returns-in_err-make_dir-clause-made g c =
    let content = g.D.SharedDisk.content in
    let image = c.args.self.now in
    let is : c.from_residual.result ≡ Err c.in_err-make_dir.field-0.0 = search rules in
    rw is (told_as (content c.args.disk.now) (content c.make_dir.new.disk) _ (SameOrFault c.in_err-make_dir.field-0.0 (ImagePartlyMade c.args.host image))
    (dir_left c.args.host image c.in_err-make_dir.field-0.0) c.in_err-make_dir.ensures.refused)

pub returns-in_err-make_dir-clause-content : goal.returns-in_err-make_dir-clause-content
returns-in_err-make_dir-clause-content g c =
    let image = c.args.self.now in
    let dirs = with_made (Root ∷ []) (folders_of image.sd) in
    let is : c.from_residual.result ≡ Err c.in_err-make_dir.field-0.0 = search rules in
    λ d tells has.
    let made = c.in_err-make_dir.ensures.content d dirs tells has (images_among image.sd) (image_not_among image.sd image.image) in
    (made.0, made.1, rw is (made.2.0, inl made.2.1))

pub returns-clause-faults : goal.returns-clause-faults
returns-clause-faults g c = subst (λ n. ResultFaults n (g.D.SharedDisk.faults c.create_file.new.disk) c.create_file.result) c.in_ok-make_dir.ensures.faults c.create_file.ensures.faults

pub returns-in_err-make_dir-clause-faults : goal.returns-in_err-make_dir-clause-faults
returns-in_err-make_dir-clause-faults g c =
    let is : c.from_residual.result ≡ Err c.in_err-make_dir.field-0.0 = search rules in
    rw is c.in_err-make_dir.ensures.faults

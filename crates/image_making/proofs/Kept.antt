-- What a making knows, through changes of others.
use Rattle.std.proofs.Common.{◌≡◌, ℕ, List, Option, refl, sym, ap, ◌∙◌}
use Rattle.sd_names.specs.declared.place.Dir.{Dir}
use Rattle.sd_names.specs.declared.place.Dir.TheVariants as dir
use Rattle.sd_names.specs.declared.place.Place.{Place}
use Rattle.shared_disk.specs.Content.{Content, File}
use Rattle.shared_disk.specs.NameCalls.{place_in}
use Rattle.layer_creating.specs.Creating.{KnowsFile, KnowsIn, made_of, place_of}
use Rattle.layer_creating.specs.declared.creating.Creating.{Creating}
use Rattle.layer_creating.specs.declared.creating.Made.{Made}
use Rattle.layer_creating.specs.declared.creating.Made.TheVariants as made
use Rattle.whole_file.specs.Replace.{IsReady as IsReplaceReady, Knows as KnowsReplace, stage_of as replace_stage, target_of, volatile_of}
use Rattle.whole_file.specs.declared.replace.Replace.{Replace}
use Rattle.whole_file.specs.declared.replace.Stage.{Stage as ReplaceStage}
use Rattle.whole_file.specs.declared.replace.Stage.TheVariants as replacing
use Rattle.image_making.specs.NewImage.{HasNewFile, folder_of, text_in, volume_place}
use Rattle.image_making.specs.Steps.{IsAlone, IsFilling, IsFree, IsLayering, IsReady, IsWriting}
use Rattle.image_making.specs.declared.making.NewImage.{NewImage}
use Rattle.image_making.specs.declared.making.Stage.{Stage}
use Rattle.image_making.specs.declared.making.Stage.TheVariants.{Begun, Filling, Syncing, Layering, Writing}

free_kept : (k : Made) (p : Place) (d e : Content) → e.file p ≡ d.file p → IsFree k p d → IsFree k p e
free_kept made.Begun p d e same free = same ∙ free
free_kept made.Created p d e same free = tt
free_kept made.Counted p d e same free = tt
free_kept made.Tabled p d e same free = tt
free_kept made.Named p d e same free = tt
free_kept made.Headed p d e same free = tt

layer_file_kept : (c : Creating) (host : ℕ) (d e : Content) → e.file (place_of c) ≡ d.file (place_of c) → KnowsFile c host d → KnowsFile c host e
layer_file_kept c host d e same knows = (knows.0, same ∙ knows.1, knows.2)

layer_kept : (k : Made) (c : Creating) (host : ℕ) (d e : Content) → e.file (place_of c) ≡ d.file (place_of c) → KnowsIn k c host d → KnowsIn k c host e
layer_kept made.Begun c host d e same knows = tt
layer_kept made.Created c host d e same knows = layer_file_kept c host d e same knows
layer_kept made.Counted c host d e same knows = layer_file_kept c host d e same knows
layer_kept made.Tabled c host d e same knows = layer_file_kept c host d e same knows
layer_kept made.Named c host d e same knows = layer_file_kept c host d e same knows
layer_kept made.Headed c host d e same knows = layer_file_kept c host d e same knows

replace_ready : (s : ReplaceStage) (host : ℕ) (text : List ℕ) (v : Place) (d e : Content) → e.file v ≡ d.file v → IsReplaceReady s host text v d → IsReplaceReady s host text v e
replace_ready replacing.Begun host text v d e same ready = ready
replace_ready replacing.Cleared host text v d e same ready = same ∙ ready
replace_ready replacing.Created host text v d e same ready = same ∙ ready
replace_ready replacing.Written host text v d e same ready = same ∙ ready
replace_ready replacing.Synced host text v d e same ready = (ready.0, same ∙ ready.1, ready.2)

module _ (x : NewImage) (host : ℕ) (d e : Content) (above : e.dir (dir.Images x.says.domain) ≡ d.dir (dir.Images x.says.domain)) (folder : e.dir (folder_of x) ≡ d.dir (folder_of x))
    (files : (q : Place) → q.dir ≡ folder_of x → e.file q ≡ d.file q) where
  alone_kept : IsAlone x d → IsAlone x e
  alone_kept alone = record { folder = folder ∙ alone.folder; others = λ n apart. files (place_in (folder_of x) n) refl ∙ alone.others n apart }

  filling_kept : (file : Option File) → IsFilling x file d → IsFilling x file e
  filling_kept file known = record { format = known.format; alone = alone_kept known.alone; file_is = files (volume_place x) refl ∙ known.file_is }

  layering_kept : (c : Creating) → IsLayering x host c d → IsLayering x host c e
  layering_kept c known =
      let same = files (place_of c) (ap (λ (p : Place). p.dir) known.place_is) in
      record {
        format = known.format;
        alone = alone_kept known.alone;
        place_is = known.place_is;
        capacity_is = known.capacity_is;
        backing_is = known.backing_is;
        length_is = known.length_is;
        free = free_kept (made_of c) (place_of c) d e same known.free;
        knows = layer_kept (made_of c) c host d e same known.knows;
      }

  file_kept : HasNewFile x d → HasNewFile x e
  file_kept has = (has.0, files (volume_place x) refl ∙ has.1, has.2)

  replace_kept : (r : Replace) → (target_of r).dir ≡ folder_of x → KnowsReplace r host (text_in x) d → KnowsReplace r host (text_in x) e
  replace_kept r inside knows = record {
    folder = ap (λ (q : Dir). e.dir q) inside ∙ folder ∙ sym (ap (λ (q : Dir). d.dir q) inside) ∙ knows.folder;
    ready = replace_ready (replace_stage r) host (text_in x) (volatile_of r) d e (files (volatile_of r) inside) knows.ready;
  }

  writing_kept : (r : Replace) → IsWriting x host r d → IsWriting x host r e
  writing_kept r known = record {
    folder = folder ∙ known.folder;
    file = file_kept known.file;
    others = λ n file volatile. files (place_in (folder_of x) n) refl ∙ known.others n file volatile;
    target = known.target;
    volatile = known.volatile;
    replace = replace_kept r (ap (λ (p : Place). p.dir) known.target) known.replace;
  }

  pub ready_kept : (s : Stage) → IsReady s x host d → IsReady s x host e
  ready_kept Begun known = record { above = above ∙ known.above; none = folder ∙ known.none }
  ready_kept Filling known = filling_kept _ known
  ready_kept Syncing known = filling_kept _ known
  ready_kept (Layering c) known = layering_kept c known
  ready_kept (Writing r) known = writing_kept r known

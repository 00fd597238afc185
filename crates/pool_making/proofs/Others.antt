-- What a making knows, through changes of others.
use Rattle.std.proofs.Common.{◌≡◌, ℕ, List, Option, Some, None, refl, ◌∙◌, inr}
use Rattle.sd_names.specs.declared.id.Id.{Id}
use Rattle.sd_names.specs.declared.place.Dir.{Dir}
use Rattle.sd_names.specs.declared.place.Place.{Place}
use Rattle.shared_disk.specs.Content.{Content}
use Rattle.whole_file.specs.Replace.{IsReady as IsReplaceReady, Knows as KnowsReplace, stage_of as replace_stage, target_of, volatile_of}
use Rattle.whole_file.specs.declared.replace.Replace.{Replace}
use Rattle.whole_file.specs.declared.replace.Stage.{Stage as ReplaceStage}
use Rattle.whole_file.specs.declared.replace.Stage.TheVariants.{Begun, Cleared, Created, Written, Synced}
use Rattle.pool_making.proofs.Parts.{images_same}
use Rattle.pool_making.proofs.Turns.{own_area}
use Rattle.pool_making.specs.Layout.{IsOwn, area_place, folder_of, metadata_of}
use Rattle.pool_making.specs.Listing.{HaveNoneTo}
use Rattle.pool_making.specs.Pool.{IsPart}
use Rattle.pool_making.specs.Steps.{IsReady}
use Rattle.pool_making.specs.declared.making.Stage.{Stage}
use Rattle.pool_making.specs.declared.making.Stage.TheVariants.{Listing, Checking, Searching, Making, Clearing, Creating, Syncing, Writing}

part_same : (sd : Id) (n k : ℕ) (d e : Content) → ((q : Dir) → e.dir q ≡ d.dir q) → ((q : Place) → IsOwn sd q → e.file q ≡ d.file q) → e.file (metadata_of sd) ≡ d.file (metadata_of sd)
    → IsPart sd n k d → IsPart sd n k e
part_same sd n k d e dirs files text part = record {
  none = text ∙ part.none;
  empty = images_same sd d e part.empty dirs;
  dirs = λ f less. dirs (folder_of sd f) ∙ part.dirs f less;
  files = λ a less. files (area_place sd a) (own_area sd a (area_place sd a) refl) ∙ part.files a less;
}

none_to_same : (after : Option Dir) (d e : Content) → ((q : Id) → e.file (metadata_of q) ≡ d.file (metadata_of q)) → HaveNoneTo after d → HaveNoneTo after e
none_to_same None d e texts known = known
none_to_same (Some after) d e texts known = λ p id apart. texts p ∙ known p id apart

replace_ready : (s : ReplaceStage) (host : ℕ) (text : List ℕ) (v : Place) (d e : Content) → e.file v ≡ d.file v → IsReplaceReady s host text v d → IsReplaceReady s host text v e
replace_ready Begun host text v d e same ready = ready
replace_ready Cleared host text v d e same ready = same ∙ ready
replace_ready Created host text v d e same ready = same ∙ ready
replace_ready Written host text v d e same ready = same ∙ ready
replace_ready Synced host text v d e same ready = (ready.0, same ∙ ready.1, ready.2)

replace_same : (r : Replace) (host : ℕ) (text : List ℕ) (d e : Content) → ((q : Dir) → e.dir q ≡ d.dir q) → e.file (volatile_of r) ≡ d.file (volatile_of r) → KnowsReplace r host text d → KnowsReplace r host text e
replace_same r host text d e dirs same knows =
    record { folder = dirs (target_of r).dir ∙ knows.folder; ready = replace_ready (replace_stage r) host text (volatile_of r) d e same knows.ready }

pub ready_kept : (s : Stage) (sd : Id) (text : List ℕ) (host : ℕ) (d e : Content) → ((q : Dir) → e.dir q ≡ d.dir q) → ((q : Id) → e.file (metadata_of q) ≡ d.file (metadata_of q))
    → ((q : Place) → IsOwn sd q → e.file q ≡ d.file q) → IsReady s sd text host d → IsReady s sd text host e
ready_kept (Listing after) sd text host d e dirs texts files ready = none_to_same after d e texts ready
ready_kept (Checking q) sd text host d e dirs texts files ready = λ p id less. texts p ∙ ready p id less
ready_kept Searching sd text host d e dirs texts files ready = texts sd ∙ ready
ready_kept (Making f) sd text host d e dirs texts files ready = part_same sd _ _ d e dirs files (texts sd) ready
ready_kept (Clearing a) sd text host d e dirs texts files ready = part_same sd _ _ d e dirs files (texts sd) ready
ready_kept (Creating a) sd text host d e dirs texts files ready =
    (part_same sd _ _ d e dirs files (texts sd) ready.0, files (area_place sd a) (own_area sd a (area_place sd a) refl) ∙ ready.1)
ready_kept (Syncing a) sd text host d e dirs texts files ready =
    (part_same sd _ _ d e dirs files (texts sd) ready.0, files (area_place sd a) (own_area sd a (area_place sd a) refl) ∙ ready.1)
ready_kept (Writing r) sd text host d e dirs texts files ready = record {
  part = part_same sd _ _ d e dirs files (texts sd) ready.part;
  target = ready.target;
  volatile = ready.volatile;
  replace = replace_same r host text d e dirs (files (volatile_of r) (inr (inr (inr (inr ready.volatile))))) ready.replace;
}

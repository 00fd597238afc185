-- What a sizing knows whatever others do.
use Rattle.std.proofs.Common.{◌≡◌, ◌≢◌, ℕ, None, ◌∙◌}
use Rattle.shared_disk.specs.Content.{Content, File}
use Rattle.shared_disk.specs.Crash.{DownLeaves, IsAlone}
use Rattle.shared_disk.proofs.Toolkit.{down_leaves_file}
use Rattle.qcow_layer.specs.Opening.{place_kept}
use Rattle.qcow_layer.specs.declared.layer.Layer.{Layer}
use Rattle.qcow_layer.proofs.Knowing.{others_settled}
use Rattle.layer_heading.specs.Writing.{IsQuiet}
use Rattle.layer_sizing.specs.Sizing.{KnowsIn, KnowsSizing, KnowsSizingOn}
use Rattle.layer_sizing.specs.Stages.{asked_of, stage_of}
use Rattle.layer_sizing.specs.declared.raising.Stage.{Stage}
use Rattle.layer_sizing.specs.declared.raising.Stage.TheVariants.{Seeking, Zeroing, Edge, Ready, Laid, Headed}
use Rattle.layer_sizing.specs.declared.sizing.Sizing.{Sizing}
use Rattle.layer_sizing.specs.declared.sizing.Sizing.TheVariants.{Begun, Going}

pub untouched : (s : Sizing) (layer : Layer) (host : ℕ) (d e : Content) → e.file (place_kept layer) ≡ d.file (place_kept layer) → KnowsSizingOn layer host s d → KnowsSizingOn layer host s e
untouched s layer host d e same knows = (knows.0, same ∙ knows.1, knows.2)

abbrev IsOwn : ℕ → File → Type 0
IsOwn host f = IsAlone host f × (f.fresh ≡ None)

own_quiet : (layer : Layer) (host : ℕ) (f : File) → IsQuiet layer host f → IsOwn host f
own_quiet layer host f q = (q.writer.knows.alone, q.writer.knows.made)

own_in : (stage : Stage) (larger : ℕ) (layer : Layer) (host : ℕ) (f : File) → KnowsIn stage larger layer host f → IsOwn host f
own_in (Seeking at) larger layer host f k = own_quiet layer host f k.0
own_in (Zeroing range) larger layer host f k = (k.blanking.alone, k.blanking.made)
own_in (Edge range sector) larger layer host f k = (k.0.blanking.alone, k.0.blanking.made)
own_in Ready larger layer host f k = own_quiet layer host f k.quiet
own_in (Laid sector) larger layer host f k = own_quiet layer host f k.0.quiet
own_in Headed larger layer host f k = (k.2.between.alone, k.2.between.made)

own : (s : Sizing) (layer : Layer) (host : ℕ) (f : File) → KnowsSizing layer host s f → IsOwn host f
own (Begun larger) layer host f k = own_quiet layer host f k.0
own (Going r) layer host f k = own_in (stage_of r) (asked_of r) layer host f k

pub down : (s : Sizing) (layer : Layer) (host other : ℕ) (d e : Content) → host ≢ other → DownLeaves d other e → KnowsSizingOn layer host s d → KnowsSizingOn layer host s e
down s layer host other d e apart leaves (f, there, knows) =
    let mine = own s layer host f knows in (f, down_leaves_file d e other (place_kept layer) f leaves there (others_settled host other f apart mine.0 mine.1), knows)

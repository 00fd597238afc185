-- What a linking knows where it begins, and whatever others do.
use Rattle.std.proofs.Common.{◌≡◌, ◌≢◌, ℕ, ◌*◌, ◌<◌, ◌≤◌, ◌^◌, Bool, true, false, List, Some, None, refl, sym, ap, ◌∙◌, subst, arith, zero, suc}
use Rattle.std.specs.Prelude.{◌==◌, if◌then◌else◌}
use Rattle.shared_disk.specs.Content.{Content, File}
use Rattle.shared_disk.specs.Crash.{DownLeaves, IsAlone}
use Rattle.shared_disk.proofs.Outcomes.{settled_file}
use Rattle.shared_disk.proofs.Toolkit.{down_leaves_file}
use Rattle.qcow_layer.proofs.Knowing.{others_settled, settled_alone, settled_seen}
use Rattle.qcow_layer.specs.declared.layer.Layer.{Layer}
use Rattle.layer_linking.specs.Calls.{first_stage, pieces, stage_of, table_given, table_of}
use Rattle.layer_linking.specs.Linking.{IsLinkable, KnowsLinking, KnowsStage}
use Rattle.layer_linking.specs.declared.linking.Linking.{Linking}
use Rattle.layer_linking.specs.declared.linking.Stage.{Stage}
use Rattle.layer_linking.specs.declared.linking.Stage.TheVariants.{Begun, Found, Filling, Zeroed, Filled, Synced, Laid, Entered}
use Rattle.layer_linking.proofs.Begins as begins
use Rattle.layer_linking.proofs.Sizes.{pieces_fill, wide}

module _ (l : Linking) (layer : Layer) (host : ℕ) (start : File) where
  -- what is known stays so where the file does
  same_stage : (stage : Stage) (d e : Content) → e.file layer.target.place ≡ d.file layer.target.place → KnowsStage stage layer l host start d → KnowsStage stage layer l host start e
  same_stage Begun d e same now = (now.0, same ∙ now.1)
  same_stage (Found table) d e same now = (now.0, same ∙ now.1, now.2)
  same_stage (Filling table piece) d e same now = (now.0, record { given = now.1.given; file = now.1.file; there = same ∙ now.1.there; filling = now.1.filling; holds = now.1.holds })
  same_stage (Zeroed table) d e same now = record { given = now.given; file = now.file; there = same ∙ now.there; filling = now.filling; holds = now.holds }
  same_stage (Filled table) d e same now = record { given = now.given; file = now.file; there = same ∙ now.there; filling = now.filling; holds = now.holds }
  same_stage (Synced table) d e same now =
      record { given = now.given; file = now.file; there = same ∙ now.there; settled = now.settled; size = now.size; outside = now.outside; full = now.full }
  same_stage (Laid at sector) d e same now =
      record { file = now.file; there = same ∙ now.there; settled = now.settled; old = now.old; inside = now.inside; long = now.long; new = now.new }
  same_stage Entered d e same now =
      record { file = now.file; there = same ∙ now.there; sectors = now.sectors; sectors' = now.sectors'; between = now.between; size = now.size; old = now.old; new = now.new }

  pub untouched : (d e : Content) → e.file layer.target.place ≡ d.file layer.target.place → KnowsLinking l layer host start d → KnowsLinking l layer host start e
  untouched d e same knows = record { began = knows.began; now = same_stage (stage_of l) d e same knows.now }

  -- the file, in which no other host writes
  abbrev IsOwn : Content → Type 0
  IsOwn d = (f : File) × (d.file layer.target.place ≡ Some f) × IsAlone host f × (f.fresh ≡ None)

  own_file : (stage : Stage) (d : Content) → IsLinkable layer l host start → KnowsStage stage layer l host start d → IsOwn d
  own_file Begun d b now = (start, now.1, settled_alone host start b.settled, b.settled.fresh)
  own_file (Found table) d b now = (start, now.1, settled_alone host start b.settled, b.settled.fresh)
  own_file (Filling table piece) d b now = (now.1.file, now.1.there, now.1.filling.alone, now.1.filling.made)
  own_file (Zeroed table) d b now = (now.file, now.there, now.filling.alone, now.filling.made)
  own_file (Filled table) d b now = (now.file, now.there, now.filling.alone, now.filling.made)
  own_file (Synced table) d b now = (now.file, now.there, settled_alone host now.file now.settled, now.settled.fresh)
  own_file (Laid at sector) d b now = (now.file, now.there, settled_alone host now.file now.settled, now.settled.fresh)
  own_file Entered d b now = (now.file, now.there, now.between.alone, now.between.made)

  pub down : (other : ℕ) (d e : Content) → host ≢ other → DownLeaves d other e → KnowsLinking l layer host start d → KnowsLinking l layer host start e
  down other d e apart leaves knows =
      let own = own_file (stage_of l) d knows.began knows.now in
      let there = down_leaves_file d e other layer.target.place own.0 leaves own.1 (others_settled host other own.0 apart own.2 own.3) in
      untouched d e (there ∙ sym own.1) knows

  -- ---- where it begins

  first : (table : ℕ) (d : Content) → IsLinkable layer l host start → d.file layer.target.place ≡ Some start → (b : Bool)
      → table_of l ≡ (if b then None else Some table) → KnowsStage (if b then Begun else Filling table 0) layer l host start d
  first table d can there true is = (is, there)
  first table d can there false is = (
    some (pieces layer.work.header) refl,
    record {
      given = is;
      file = start;
      there = there;
      filling = record {
        alone = settled_alone host start can.settled;
        made = can.settled.fresh;
        size = refl;
        each = λ g out k outside. ap (λ (x : File). x.stable k) (settled_file start g can.settled out);
        sees = λ k outside. ap (λ (s : ℕ → List ℕ). s k) (settled_seen host start can.settled);
      };
      holds = λ k low high. absurd (omega (arith, low, high));
    },
  )
    where
      some : (p : ℕ) → pieces layer.work.header ≡ p → 0 < pieces layer.work.header
      some zero e =
          let low = (begins.shape layer l host start can).low in
          let full = pieces_fill layer.work.header.cluster_bits low in
          let w = wide layer.work.header.cluster_bits low in
          absurd (nothing (pieces layer.work.header) _ (2 ^ layer.work.header.cluster_bits) e full w)
        where
          nothing : (p s c : ℕ) → p ≡ 0 → p * s ≡ c → 4096 ≤ c → ⊥
          nothing p s c e f w = let z : p * s ≡ 0 * s = ap (λ (x : ℕ). x * s) e in omega (arith, z, f, w)
      some (suc p) e = omega (arith, e)

  pub begun : (table : ℕ) (d : Content) → IsLinkable layer l host start → d.file layer.target.place ≡ Some start → table_of l ≡ table_given table → stage_of l ≡ first_stage table
      → KnowsLinking l layer host start d
  begun table d can there is stage = record {
    began = can;
    now = subst (λ (s : Stage). KnowsStage s layer l host start d) (sym stage) (first table d can there (table == 0) is);
  }

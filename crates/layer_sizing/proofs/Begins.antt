-- The first step, which makes no call.
use Rattle.std.proofs.Common.{◌≡◌, inl, inr, ℕ, refl, sym, subst, arith}
use Rattle.sd_names.specs.Turn.{MatchTurn}
use Rattle.sd_names.specs.declared.refusal.Refusal.TheVariants.{DiskFault}
use Rattle.shared_disk.specs.Content.{File}
use Rattle.shared_disk.specs.Crash.{IsSettled}
use Rattle.qcow_layer.specs.Looking.{KnowsTable}
use Rattle.qcow_layer.specs.Opening.{capacity_kept, header_kept}
use Rattle.qcow_layer.specs.declared.layer.Layer.{Layer}
use Rattle.layer_writing.specs.Writer.{IsLeft, KnowsWriter}
use Rattle.layer_heading.specs.Writing.{IsQuiet, Leaves, Turned}
use Rattle.layer_heading.proofs.Outcomes.{comes_same}
use Rattle.layer_heading.proofs.Quiet as quiet
use Rattle.layer_sizing.specs.Sized.{IsOldOrSized}
use Rattle.layer_sizing.specs.Sizing.{KnowsIn, KnowsSizing, tables_on}
use Rattle.layer_sizing.specs.Stages.{BeginsBy, IsFirst, MayGet, last_cluster, stage_of}
use Rattle.layer_sizing.specs.declared.raising.Stage.{Stage}
use Rattle.layer_sizing.specs.declared.sizing.Sizing.{Sizing}
use Rattle.layer_sizing.specs.declared.sizing.Sizing.TheVariants.{Begun}
use Rattle.layer_sizing.proofs.Ranges as ranges

first_knows : (layer : Layer) (larger host : ℕ) (f : File) (stage : Stage) → IsQuiet layer host f → MayGet layer larger → IsFirst layer larger stage → KnowsIn stage larger layer host f
first_knows layer larger host f stage q may (inl (even, is)) =
    subst (λ (s : Stage). KnowsIn s larger layer host f) (sym is)
    (ranges.tables_begin layer larger host f q may
    (ranges.empty_whole f.size (capacity_kept layer) f.stable (header_kept layer) (quiet.numbers layer host f q).header (quiet.numbers layer host f q).sound even))
first_knows layer larger host f stage q may (inr (odd, looking, is, at, none)) =
    subst (λ (s : Stage). KnowsIn s larger layer host f) (sym is)
    (q, may, at, subst (λ o. KnowsTable (tables_on layer f) (last_cluster layer) o) (sym none) tt)

pub begun_here : (layer : Layer) (larger host faults : ℕ) (turn : Turned Sizing) (f : File) → BeginsBy (Begun larger) layer turn → KnowsSizing layer host (Begun larger) f
    → Leaves (IsOldOrSized (header_kept layer) (capacity_kept layer) larger) (KnowsSizing layer host) layer layer host faults turn f f
begun_here layer larger host faults turn f begins (q, le) = record {
  size = refl;
  comes = comes_same (IsOldOrSized (header_kept layer) (capacity_kept layer) larger) (λ x. inl refl) f;
  next = go begins;
}
  where
    Next : Turned Sizing → Type 0
    Next t = MatchTurn t (λ next. KnowsSizing layer host next f) (λ _. KnowsWriter layer host f × IsSettled f) (λ _ refusal. (refusal ≡ DiskFault faults) × IsLeft layer host f)

    go : BeginsBy (Begun larger) layer turn → Next turn
    go (inl (past, is)) = absurd (omega (arith, past, le))
    go (inr (inl (most, small, is))) = subst (λ (t : Turned Sizing). Next t) (sym is) (q.writer, q.settled)
    go (inr (inr (may, r, is, asked, first))) =
        subst (λ (t : Turned Sizing). Next t) (sym is)
        (subst (λ n. KnowsIn (stage_of r) n layer host f) (sym asked) (first_knows layer larger host f (stage_of r) q may first))

-- Fewer steps are left behind each that passes on to the next sector.
use Rattle.std.proofs.Common.{◌≡◌, ℕ, ◌+◌, ◌-◌, ◌*◌, ◌<◌, ◌≤◌, Bool, true, false, sym, ap, ◌∙◌, subst, arith}
use Rattle.std.specs.Prelude.{◌==◌, if◌then◌else◌}
use Rattle.sd_names.specs.declared.turn.Turn.TheVariants.{More, Done, Ended}
use Rattle.qcow_format.specs.declared.header.Header.{Header}
use Rattle.qcow_layer.specs.declared.layer.Layer.{Layer}
use Rattle.layer_linking.specs.Calls.{first_stage, left_of, pieces, steps_left}
use Rattle.layer_linking.specs.declared.linking.Stage.{Stage as LinkingStage}
use Rattle.layer_linking.specs.declared.linking.Stage.TheVariants as linking
use Rattle.write_planning.specs.Linked.{sectors_of, table_with}
use Rattle.write_preparing.specs.Placed.{plan_of}
use Rattle.write_preparing.specs.declared.placed.Placed.{Placed}
use Rattle.write_linking.specs.Linking.{PassesOn, StageFalls, StageTurn, given_table, sector_left, span_in}
use Rattle.write_linking.specs.declared.stage.Stage.TheVariants.{Syncing, Next, Links}

-- a linking takes less than a sector's share of steps
first_left : (h : Header) (table : ℕ) → left_of h (first_stage table) ≤ 6 + pieces h
first_left h table = go (table == 0)
  where
    go : (b : Bool) → left_of h (if b then linking.Begun else linking.Filling table 0) ≤ 6 + pieces h
    go true = omega arith
    go false = omega arith

-- one sector less is left
one_less : (many sector next share : ℕ) → next ≡ sector + 1 → sector < many → (many - sector) * share ≡ (many - next) * share + share
one_less many sector next share at lt =
    let more : many - sector ≡ (many - next) + 1 = omega (arith, at, lt) in
    let row : ((many - next) + 1) * share ≡ (many - next) * share + share = omega arith in
    ap (λ n. n * share) more ∙ row

pub next_falls : (w : Layer) (p : Placed) (sector : ℕ) (turn : StageTurn) → PassesOn p sector turn → StageFalls w (Next p sector) turn
next_falls w p sector (More (Syncing q)) on = absurd on
next_falls w p sector (More (Next q next)) (same, at, lt, links) =
    let less = one_less (sectors_of (span_in p)) sector next (sector_left w) at lt in (
      same,
      subst (λ (r : Placed). (sectors_of (span_in r) - next) * sector_left w + 1 < (sectors_of (span_in p) - sector) * sector_left w + 1) (sym same) (omega (arith, less)),
    )
next_falls w p sector (More (Links q next k)) (same, at, lt, links, table, stage) =
    let less = one_less (sectors_of (span_in p)) sector next (sector_left w) at lt in
    let few : steps_left w k ≤ 6 + pieces w.work.header =
    subst (λ (s : LinkingStage). left_of w.work.header s ≤ 6 + pieces w.work.header) (sym stage) (first_left w.work.header (given_table p (table_with (plan_of p) sector))) in (
      same,
      subst (λ (r : Placed). (sectors_of (span_in r) - next) * sector_left w + 1 + steps_left w k < (sectors_of (span_in p) - sector) * sector_left w + 1) (sym same) (omega (arith, less, few)),
    )
next_falls w p sector (Done t) past = omega arith
next_falls w p sector (Ended b refusal) on = absurd on

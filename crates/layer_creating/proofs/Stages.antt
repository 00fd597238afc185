-- The writes of each stage.
use Rattle.std.proofs.Common.{◌≡◌, ℕ, ◌/◌, ◌<◌, ◌≤◌, length, Some, None, sym, ap, ◌∙◌, subst, arith}
use Rattle.shared_disk.specs.Content.{Content}
use Rattle.layer_creating.specs.New.{block_sector, header_sector, name_sector, new_sector, table_sector}
use Rattle.layer_creating.specs.Creating.{Knows, KnowsFile, KnowsIn, Makes, WritesHeader, WritesSector, backing_of, capacity_of, length_of, made_of, so_far, with_sector}
use Rattle.layer_creating.specs.declared.backing.Backing.{Backing}
use Rattle.layer_creating.specs.declared.creating.Creating.{Creating}
use Rattle.layer_creating.specs.declared.creating.Made.{Made}
use Rattle.layer_creating.specs.declared.creating.Made.TheVariants.{Created, Counted, Tabled, Named, Headed}
use Rattle.layer_creating.proofs.Lengths.{block_long, header_long, name_long, table_long}
use Rattle.layer_creating.proofs.Steps.{Making, write_step, adds_header_alone, adds_header_named}

pub in_stage : (c : Creating) (made : Made) (host : ℕ) (d : Content) → made_of c ≡ made → Knows c host d → KnowsIn made c host d
in_stage c made host d is knows = subst (λ (m : Made). KnowsIn m c host d) is knows

inside : (p length : ℕ) → p ≤ 256 → 1_310_720 ≤ length → p < length / 512
inside p length low long = omega (arith, low, long)

module _ (c : Creating) (host faults : ℕ) (turn : Making) (d e : Content) (long : 1_310_720 ≤ length_of c) where
  pub block_step : made_of c ≡ Created → Knows c host d → WritesSector c host 256 block_sector Counted faults turn d e → Makes c host faults turn d e
  block_step is knows by =
      write_step c host 256 faults block_sector Counted turn d e (in_stage c Created host d is knows) (inside 256 (length_of c) (omega arith) long) block_long
      (λ k. ap (λ m. with_sector 256 block_sector (so_far (capacity_of c) (backing_of c) m) k) is) by

  pub table_step : made_of c ≡ Counted → Knows c host d → WritesSector c host 128 table_sector Tabled faults turn d e → Makes c host faults turn d e
  table_step is knows by =
      write_step c host 128 faults table_sector Tabled turn d e (in_stage c Counted host d is knows) (inside 128 (length_of c) (omega arith) long) table_long
      (λ k. ap (λ m. with_sector 128 table_sector (so_far (capacity_of c) (backing_of c) m) k) is) by

  pub name_step : (backing : Backing) → made_of c ≡ Tabled → backing_of c ≡ Some backing → Knows c host d → WritesSector c host 126 (name_sector (Some backing)) Named faults turn d e → Makes c host faults turn d e
  name_step backing is over knows by =
      write_step c host 126 faults (name_sector (Some backing)) Named turn d e (in_stage c Tabled host d is knows) (inside 126 (length_of c) (omega arith) long) (name_long backing)
      (λ k. ap (λ m. with_sector 126 (name_sector (Some backing)) (so_far (capacity_of c) (backing_of c) m) k) is
      ∙ ap (λ b. with_sector 126 (name_sector b) (so_far (capacity_of c) (backing_of c) Tabled) k) (sym over)) by

  header_step : KnowsFile c host d
      → ((k : ℕ) → with_sector 0 (header_sector (capacity_of c) (backing_of c)) (so_far (capacity_of c) (backing_of c) (made_of c)) k ≡ new_sector (capacity_of c) (backing_of c) k)
      → WritesHeader c host faults turn d e → Makes c host faults turn d e
  header_step knows adds by =
      write_step c host 0 faults (header_sector (capacity_of c) (backing_of c)) Headed turn d e knows (inside 0 (length_of c) (omega arith) long) (header_long (capacity_of c) (backing_of c)) adds by

  pub named_step : made_of c ≡ Named → Knows c host d → WritesHeader c host faults turn d e → Makes c host faults turn d e
  named_step is knows by =
      header_step (in_stage c Named host d is knows)
      (λ k. ap (λ m. with_sector 0 (header_sector (capacity_of c) (backing_of c)) (so_far (capacity_of c) (backing_of c) m) k) is ∙ adds_header_named (capacity_of c) (backing_of c) k) by

  pub alone_step : made_of c ≡ Tabled → backing_of c ≡ None → Knows c host d → WritesHeader c host faults turn d e → Makes c host faults turn d e
  alone_step is alone knows by =
      header_step (in_stage c Tabled host d is knows)
      (λ k. ap (λ m. with_sector 0 (header_sector (capacity_of c) (backing_of c)) (so_far (capacity_of c) (backing_of c) m) k) is
      ∙ ap (λ b. with_sector 0 (header_sector (capacity_of c) b) (so_far (capacity_of c) b Tabled) k) alone
      ∙ adds_header_alone (capacity_of c) k
      ∙ ap (λ b. new_sector (capacity_of c) b k) (sym alone)) by

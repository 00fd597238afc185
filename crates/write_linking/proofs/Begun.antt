-- The linking of a sector may begin.
use Rattle.std.proofs.Common.{◌≡◌, inl, inr, ℕ, ◌-◌, ◌*◌, ◌^◌, ◌<◌, ◌≤◌, Bool, false, Option, Some, None, Ok, refl, sym, ap, ◌∙◌, subst, arith}
use Rattle.std.specs.Prelude.{◌==◌, ◌≢◌, if◌then◌else◌, min, slice_index}
use Rattle.std.proofs.lemmas.Bool.{ne_eqb}
use Rattle.shared_disk.specs.Content.{Content, File}
use Rattle.shared_disk.proofs.Outcomes.{settled_itself}
use Rattle.image_model.specs.Layer.{Tables}
use Rattle.image_model.specs.Soundness.{IsSound, layer_header}
use Rattle.layer_laws.proofs.Sound.{clean_of, header_name, shape_of}
use Rattle.link_laws.specs.Links.{AreLinks, row_of}
use Rattle.volume_meta.specs.declared.record.VolumeRecord.{VolumeRecord}
use Rattle.qcow_layer.specs.declared.layer.Layer.{Layer}
use Rattle.layer_writing.specs.Holding.{IsSpare, on_medium}
use Rattle.layer_linking.specs.Calls.{first_stage, links_of, stage_of, table_given, table_of, to_of}
use Rattle.layer_linking.specs.Linking.{HasTable, IsLinkable, KnowsLinking, tables_on}
use Rattle.layer_linking.specs.declared.linking.Linking.{Linking}
use Rattle.layer_linking.proofs.Survives.{begun}
use Rattle.chain_laws.specs.Laid.{Laying}
use Rattle.write_planning.specs.Linked.{end_in, group_in, sectors_of, start_in, table_with}
use Rattle.write_planning.specs.Span.{count_of, width_of}
use Rattle.plan_laws.specs.Given.{MayGetPlaces}
use Rattle.plan_laws.proofs.Places.{plan_links, plan_table}
use Rattle.write_preparing.specs.Placed.{clusters_of, plan_of}
use Rattle.write_preparing.specs.declared.placed.Placed.{Placed}
use Rattle.write_linking.specs.Linking.{AreLinksIn, IsReady, IsTableInTime, MakesTable, given_table, span_in}
use Rattle.write_linking.proofs.Rows.{row_inside}

-- what is given for later clusters too is given for those of one sector
pub of_sector : (p : Placed) (t : Tables) (capacity start end count : ℕ) → end ≤ count → MayGetPlaces (plan_of p) (clusters_of p) t capacity start count → MayGetPlaces (plan_of p) (clusters_of p) t capacity start end
of_sector p t capacity start end count le may = record {
  width = may.width;
  found = λ j low high. may.found j low (omega (arith, high, le));
  spare = λ j m low high new. may.spare j m low (omega (arith, high, le)) new;
  many = may.many;
  rising = may.rising;
}

module _ (p : Placed) (sector : ℕ) (w : Layer) (l : Laying) (x : VolumeRecord) (host : ℕ) (f : File) (ready : IsReady p sector w l x host f) where
  pub header_on : layer_header (on_medium f) w.target.capacity ≡ Ok w.work.header
  header_on = (ready.writer.each f (settled_itself f ready.settled)).same.header

  pub sound_on : IsSound (on_medium f) w.target.capacity
  sound_on = (ready.writer.each f (settled_itself f ready.settled)).same.sound

  -- nothing that is spare begins the file
  pub not_first : (place : ℕ) → IsSpare (tables_on w f) w.target.capacity place → place ≢ 0
  not_first place spare same =
      spare.unnamed 0 (header_name w.work.header (on_medium f) w.target.capacity (shape_of (on_medium f) w.target.capacity w.work.header header_on) (clean_of (on_medium f) w.target.capacity w.work.header header_on sound_on)
      ∙ ap (λ (n : ℕ). Some n) (sym same))

  module _ (k : Linking) (lt : sector < sectors_of (span_in p)) (links : AreLinksIn p sector (Some (links_of k))) (table : MakesTable p sector k) where
    may : MayGetPlaces (plan_of p) (clusters_of p) (tables_on w f) w.target.capacity (start_in (span_in p) sector) (end_in (span_in p) sector)
    may = of_sector p (tables_on w f) w.target.capacity (start_in (span_in p) sector) (end_in (span_in p) sector) (count_of (span_in p)) (omega arith) ready.given

    pub are : AreLinks (tables_on w f) w.target.capacity (group_in (span_in p) sector) (to_of k)
    are = plan_links (plan_of p) (clusters_of p) (on_medium f) w.target.capacity w.work.header sector (links_of k) header_on sound_on ready.within may links

    -- which table is made
    pub no_table_made : table_with (plan_of p) sector ≡ None → table_of k ≡ None
    no_table_made none = table ∙ ap (λ (o : Option ℕ). table_given (given_table p o)) none

    pub table_is_made : (m : ℕ) → table_with (plan_of p) sector ≡ Some m → table_of k ≡ Some (slice_index (clusters_of p) m * width_of (span_in p))
    table_is_made m some =
        let spare = ready.spare sector m (omega arith) lt some in
        let place : ℕ = slice_index (clusters_of p) m * width_of (span_in p) in
        let low : min (slice_index (clusters_of p) m * width_of (span_in p)) (2 ^ 64 - 1) ≡ slice_index (clusters_of p) m * width_of (span_in p) = let less = spare.1 in omega (arith, less) in
        let there : (slice_index (clusters_of p) m * width_of (span_in p) == 0) ≡ false = ne_eqb (slice_index (clusters_of p) m * width_of (span_in p)) 0 (not_first (slice_index (clusters_of p) m * width_of (span_in p)) spare.0) in
        table
        ∙ ap (λ (o : Option ℕ). table_given (given_table p o)) some
        ∙ ap table_given low
        ∙ ap (λ (b : Bool). if b then None else Some (slice_index (clusters_of p) m * width_of (span_in p))) there

    has_table : (o : Option ℕ) → table_with (plan_of p) sector ≡ o → HasTable (tables_on w f) w.target.capacity (group_in (span_in p) sector) (to_of k) (table_of k)
    has_table None none = subst (λ (o : Option ℕ). HasTable (tables_on w f) w.target.capacity (group_in (span_in p) sector) (to_of k) o) (sym (no_table_made none)) (there (in_time None none))
      where
        in_time : (o : Option ℕ) → table_with (plan_of p) sector ≡ o → IsTableInTime p sector sector (tables_on w f) o
        in_time o is = subst (λ (q : Option ℕ). IsTableInTime p sector sector (tables_on w f) q) is (ready.tables sector (omega arith) lt)

        there : IsTableInTime p sector sector (tables_on w f) None → HasTable (tables_on w f) w.target.capacity (group_in (span_in p) sector) (to_of k) None
        there (inl is) = is
        there (inr early) = absurd (omega (arith, early.2, early.3))
    has_table (Some m) some =
        let spare = ready.spare sector m (omega arith) lt some in
        subst (λ (o : Option ℕ). HasTable (tables_on w f) w.target.capacity (group_in (span_in p) sector) (to_of k) o) (sym (table_is_made m some)) (
          subst (λ (q : Option ℕ). IsTableInTime p sector sector (tables_on w f) q) some (ready.tables sector (omega arith) lt),
          plan_table (plan_of p) (clusters_of p) (on_medium f) w.target.capacity w.work.header sector m (links_of k) header_on sound_on lt may links some spare.0 spare.1,
        )

    pub linkable : IsLinkable w k host f
    linkable = record {
      knows = ready.writer;
      settled = ready.settled;
      well = ready.well;
      row = subst (λ n. row_of (tables_on w f) n < w.work.header.l1_size) (sym links.sector) (row_inside (plan_of p) w.work.header ready.given.width (on_medium f) w.target.capacity sector header_on ready.within lt);
      links = subst (λ n. AreLinks (tables_on w f) w.target.capacity n (to_of k)) (sym links.sector) are;
      table = subst (λ n. HasTable (tables_on w f) w.target.capacity n (to_of k) (table_of k)) (sym links.sector) (has_table (table_with (plan_of p) sector) refl);
    }

    pub knows_at : stage_of k ≡ first_stage (given_table p (table_with (plan_of p) sector)) → (d : Content) → d.file w.target.place ≡ Some f → KnowsLinking k w host f d
    knows_at stage d there = begun k w host f (given_table p (table_with (plan_of p) sector)) d linkable there table stage

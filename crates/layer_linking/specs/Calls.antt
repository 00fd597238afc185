-- A linking between its steps, and the one call that each step makes.
use Rattle.std.specs.Prelude.{◌≡◌, ℕ, ◌+◌, ◌-◌, ◌*◌, ◌/◌, ◌%◌, ◌^◌, ◌==◌, nat_lt, if◌then◌else◌, min, replicate, List, Option, Some, None, Result, Ok, Err, MatchResult}
use Rattle.sd_names.specs.declared.absence.Absence.TheVariants as absence
use Rattle.sd_names.specs.declared.fault.LayerFault.{LayerFault}
use Rattle.sd_names.specs.declared.refusal.Refusal.{Refusal}
use Rattle.sd_names.specs.declared.refusal.Refusal.TheVariants.{Vanished}
use Rattle.sd_names.specs.declared.turn.Turn.{Turn}
use Rattle.sd_names.specs.declared.turn.Turn.TheVariants.{More, Done, Ended}
use Rattle.shared_disk.specs.Content.{Content}
use Rattle.shared_disk.specs.Calls.{Syncs, WriteAt}
use Rattle.shared_disk.specs.Step.{TurnFollows}
use Rattle.shared_disk.specs.declared.disk.DiskAnswer.{DiskAnswer}
use Rattle.qcow_format.specs.Bytes.{bytes_of, number, put}
use Rattle.qcow_format.specs.Entry.{table_in}
use Rattle.qcow_format.specs.declared.header.Header.{Header}
use Rattle.qcow_layer.specs.Opening.{header_kept, place_kept}
use Rattle.qcow_layer.specs.Seen.{ReadsSector}
use Rattle.qcow_layer.specs.declared.layer.Layer.{Layer}
use Rattle.link_laws.specs.Links.{l1_word, laid}
use Rattle.layer_linking.specs.Links as links
use Rattle.layer_linking.specs.declared.links.Links.{Links}
use Rattle.layer_linking.specs.declared.linking.Linking.{Linking}
use Rattle.layer_linking.specs.declared.linking.Stage.{Stage}
use Rattle.layer_linking.specs.declared.linking.Stage.TheVariants.{Begun, Found, Filling, Zeroed, Filled, Synced, Laid, Entered}

-- a linking: which sector of entries, which place each cluster gets, the place of a new table, and how far it is
abbrev pub group_of : Linking → ℕ
group_of l = links.group_of l.links

abbrev pub to_of : Linking → ℕ → Option ℕ
to_of l = links.to_of l.links

abbrev pub links_of : Linking → Links
links_of l = l.links

abbrev pub table_of : Linking → Option ℕ
table_of l = l.table

abbrev pub stage_of : Linking → Stage
stage_of l = l.stage

-- the same linking in another stage
abbrev pub at_stage : Linking → Stage → Linking
at_stage l stage = record { links = l.links; table = l.table; stage = stage }

-- the same clusters, places and table
pub record IsSameLinking (l next : Linking) : Type 0 where
  pub links : links_of next ≡ links_of l
  pub table : table_of next ≡ table_of l

-- ---- where things stand, as far as 64 bits reach

abbrev pub near : ℕ → ℕ
near at = min at (2 ^ 64 - 1)

-- the L1 entry behind which the entries stand, and the sector of the entries in their table
abbrev pub l1_place : Header → ℕ → ℕ
l1_place h group = near (h.l1_table_offset + 8 * (64 * group / (2 ^ h.cluster_bits / 8)))

abbrev pub entries_sector : Header → ℕ → ℕ → ℕ
entries_sector h group table = near (table + 8 * (64 * group % (2 ^ h.cluster_bits / 8))) / 512

-- a table is filled with zeros by pieces of at most 65,536 bytes
abbrev pub piece_size : Header → ℕ
piece_size h = min (2 ^ h.cluster_bits) 65536

abbrev pub pieces : Header → ℕ
pieces h = 2 ^ h.cluster_bits / piece_size h

abbrev pub piece_sector : Header → ℕ → ℕ → ℕ
piece_sector h table piece = near (table + piece * piece_size h) / 512

-- the stage behind a piece of zeros
abbrev pub stage_behind : Header → ℕ → ℕ → Stage
stage_behind h table piece = if nat_lt (piece + 1) (pieces h) then Filling table (piece + 1) else Zeroed table

-- where a linking begins, by the place of a new table, or 0 for none
abbrev pub table_given : ℕ → Option ℕ
table_given table = if table == 0 then None else Some table

abbrev pub first_stage : ℕ → Stage
first_stage table = if table == 0 then Begun else Filling table 0

-- ---- the steps that are left

abbrev pub left_of : Header → Stage → ℕ
left_of h Begun = 4
left_of h (Found table) = 3
left_of h (Filling table piece) = 6 + (pieces h - 1 - piece)
left_of h (Zeroed table) = 5
left_of h (Filled table) = 4
left_of h (Synced table) = 3
left_of h (Laid at sector) = 2
left_of h Entered = 1

abbrev pub steps_left : Layer → Linking → ℕ
steps_left layer l = left_of (header_kept layer) (stage_of l)

-- ---- the calls

-- the read of a sector of the layer's file, and what comes of it; a read that is refused ends the step
abbrev pub ReadsThen : Layer → ℕ → ℕ → ℕ → Turn Linking (Unit {0}) (Unit {0}) → (List ℕ → Type 0) → Content → Content → Type 0
ReadsThen layer host k faults turn Next d e =
    (result : Result (List ℕ) Refusal) × ReadsSector host (place_kept layer) k faults result d e × MatchResult result Next (λ refusal. turn ≡ Ended tt refusal)

-- An L1 entry that names no table isn't that of a layer which has one: the table is out of the file.
abbrev pub table_turn : Linking → Result (Option ℕ) LayerFault → Turn Linking (Unit {0}) (Unit {0})
table_turn l (Ok (Some table)) = More (at_stage l (Found table))
table_turn l (Ok None) = Ended tt (Vanished absence.OutOfFile)
table_turn l (Err fault) = Ended tt (Vanished absence.OutOfFile)

abbrev pub FindsTable : Linking → Layer → ℕ → ℕ → Turn Linking (Unit {0}) (Unit {0}) → Content → Content → Type 0
FindsTable l layer host faults turn d e =
    ReadsThen layer host (l1_place (header_kept layer) (group_of l) / 512) faults turn
    (λ sector. turn ≡ table_turn l (table_in (number 8 (8 * (l1_place (header_kept layer) (group_of l) % 512 / 8)) sector) (l1_place (header_kept layer) (group_of l)))) d e

abbrev pub LaysEntries : Linking → ℕ → Layer → ℕ → ℕ → Turn Linking (Unit {0}) (Unit {0}) → Content → Content → Type 0
LaysEntries l table layer host faults turn d e =
    ReadsThen layer host (entries_sector (header_kept layer) (group_of l) table) faults turn
    (λ sector. turn ≡ More (at_stage l (Laid (512 * entries_sector (header_kept layer) (group_of l) table) (laid (to_of l) (64 * group_of l) 64 sector)))) d e

-- the sector of an L1 entry, with the word of one that names the table
abbrev pub LaysTable : Linking → ℕ → Layer → ℕ → ℕ → Turn Linking (Unit {0}) (Unit {0}) → Content → Content → Type 0
LaysTable l table layer host faults turn d e =
    ReadsThen layer host (l1_place (header_kept layer) (group_of l) / 512) faults turn
    (λ sector. turn ≡ More (at_stage l (Laid (512 * (l1_place (header_kept layer) (group_of l) / 512))
    (put (l1_place (header_kept layer) (group_of l) % 512 / 8 * 8) (bytes_of 8 (l1_word table)) sector)))) d e

-- a write at a sector of the layer's file; where it does its work it leads to a stage
abbrev pub WritesThen : Linking → Layer → ℕ → ℕ → ℕ → List ℕ → Stage → Turn Linking (Unit {0}) (Unit {0}) → Content → Content → Type 0
WritesThen l layer host k faults bytes stage turn d e =
    (answer : Result (Unit {0}) DiskAnswer) × WriteAt d host (place_kept layer) k bytes answer e × TurnFollows answer faults turn (λ _. turn ≡ More (at_stage l stage))

-- a sync of the layer's file
abbrev pub SyncsThen : Layer → ℕ → ℕ → Turn Linking (Unit {0}) (Unit {0}) → Turn Linking (Unit {0}) (Unit {0}) → Content → Content → Type 0
SyncsThen layer host faults next turn d e =
    (answer : Result (Unit {0}) DiskAnswer) × Syncs d host (place_kept layer) answer e × TurnFollows answer faults turn (λ _. turn ≡ next)

-- a piece of zeros of a new table, the sector of its entries over zeros, and its sync
abbrev pub ZeroesPiece : Linking → ℕ → ℕ → Layer → ℕ → ℕ → Turn Linking (Unit {0}) (Unit {0}) → Content → Content → Type 0
ZeroesPiece l table piece layer host faults turn d e =
    WritesThen l layer host (piece_sector (header_kept layer) table piece) faults (replicate (piece_size (header_kept layer)) 0) (stage_behind (header_kept layer) table piece) turn d e

abbrev pub WritesEntries : Linking → ℕ → Layer → ℕ → ℕ → Turn Linking (Unit {0}) (Unit {0}) → Content → Content → Type 0
WritesEntries l table layer host faults turn d e =
    WritesThen l layer host (entries_sector (header_kept layer) (group_of l) table) faults (laid (to_of l) (64 * group_of l) 64 (replicate 512 0)) (Filled table) turn d e

abbrev pub SyncsTable : Linking → ℕ → Layer → ℕ → ℕ → Turn Linking (Unit {0}) (Unit {0}) → Content → Content → Type 0
SyncsTable l table layer host faults turn d e = SyncsThen layer host faults (More (at_stage l (Synced table))) turn d e

-- the sector that makes all entries at once, and its sync
abbrev pub WritesLaid : Linking → ℕ → List ℕ → Layer → ℕ → ℕ → Turn Linking (Unit {0}) (Unit {0}) → Content → Content → Type 0
WritesLaid l at sector layer host faults turn d e = WritesThen l layer host (at / 512) faults sector Entered turn d e

abbrev pub SyncsEntered : Layer → ℕ → ℕ → Turn Linking (Unit {0}) (Unit {0}) → Content → Content → Type 0
SyncsEntered layer host faults turn d e = SyncsThen layer host faults (Done tt) turn d e

-- The call of a step, by its stage, whatever stands in the file: some answer that fits the call, and the turn that follows
-- from it.
abbrev pub CallOf : Stage → Linking → Layer → ℕ → ℕ → Turn Linking (Unit {0}) (Unit {0}) → Content → Content → Type 0
CallOf Begun l layer host faults turn d e = FindsTable l layer host faults turn d e
CallOf (Found table) l layer host faults turn d e = LaysEntries l table layer host faults turn d e
CallOf (Filling table piece) l layer host faults turn d e = ZeroesPiece l table piece layer host faults turn d e
CallOf (Zeroed table) l layer host faults turn d e = WritesEntries l table layer host faults turn d e
CallOf (Filled table) l layer host faults turn d e = SyncsTable l table layer host faults turn d e
CallOf (Synced table) l layer host faults turn d e = LaysTable l table layer host faults turn d e
CallOf (Laid at sector) l layer host faults turn d e = WritesLaid l at sector layer host faults turn d e
CallOf Entered l layer host faults turn d e = SyncsEntered layer host faults turn d e

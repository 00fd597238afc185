-- What the names of a folder cost that is tidied.
use Rattle.std.proofs.Common.{◌≡◌, ℕ, ◌+◌, ◌*◌, ◌≤◌, true, List, [], ◌∷◌, length, Option, Some, None, Result, Ok, Err, refl, sym, subst, arith}
use Rattle.std.specs.Prelude.{sum_by}
use Rattle.std.specs.List.{Contains}
use Rattle.std.proofs.lemmas.Bool.{false≢true}
use Rattle.std.proofs.lemmas.List.Sums.{sum_by-cons}
use Rattle.sd_names.specs.declared.id.Id.{Id}
use Rattle.sd_names.specs.declared.place.Dir.{Dir}
use Rattle.sd_names.specs.declared.place.Name.{Name}
use Rattle.sd_names.specs.declared.place.Name.TheVariants as name
use Rattle.sd_names.specs.declared.turn.Turn.TheVariants.{More, Done, Ended}
use Rattle.shared_disk.specs.Content.{Content}
use Rattle.shared_disk.specs.NameCalls.{NextName, ShowsName}
use Rattle.shared_disk.specs.Step.{TurnFollows}
use Rattle.shared_disk.specs.declared.disk.DiskAnswer.{DiskAnswer}
use Rattle.volume_meta.specs.declared.record.VolumeRecord.{VolumeRecord}
use Rattle.qcow_format.specs.declared.header.Header.{Header}
use Rattle.settling_steps.specs.Leftovers.{CallIn, CallOf, IsPaid, IsRise, ListedNext, Meets, MeetsIn, TidyTurn, folder_of, met_stage, stage_of}
use Rattle.settling_steps.specs.Leftovers as tidying
use Rattle.settling_steps.specs.Names.{name_of, price, temporary_name}
use Rattle.settling_steps.specs.declared.leftovers.Stage.{Stage as TidyingStage}
use Rattle.settling_steps.specs.declared.leftovers.Stage.TheVariants.{Listing, Removing}
use Rattle.settling_steps.specs.declared.leftovers.Tidying.{Tidying}
use Rattle.settling_steps.specs.declared.names.Temporary.{Temporary}
use Rattle.settling_steps.proofs.Orders.{name_is}
use Rattle.chain_model.specs.Chain.{path_of}
use Rattle.chain_model.specs.Records.{holds_in, legal_in}
use Rattle.chain_gathering.specs.Names.{cost_by, cost_of}
use Rattle.chain_gathering.specs.Names as gathered
use Rattle.chain_gathering.specs.Steps.{IsShown}
use Rattle.chain_gathering.proofs.Costs.{cost_by_all, cost_by_shown}
use Rattle.chain_records.specs.Checks.{FirstIs, record_checks}
use Rattle.chain_records.specs.Paths.{IsReadingPath}
use Rattle.chain_records.specs.Records.{ids_of, records_in}
use Rattle.chain_records.specs.declared.volume.Volume.{Volume}
use Rattle.chain_records.proofs.Lists.{record_among}
use Rattle.chain_records.proofs.Short.{short_path}
use Rattle.volume_chain.specs.Chain.{IsOpenAs, IsShaped, open_in, path_in, records_kept, target_of}
use Rattle.volume_chain.specs.Left.{path_left, tables_left}
use Rattle.volume_chain.specs.Left as opening
use Rattle.volume_chain.specs.Opening.{IsBegun}
use Rattle.volume_chain.specs.declared.opening.ChainOpening.{ChainOpening}
use Rattle.volume_chain.proofs.Along.{along_short}
use Rattle.volume_chain.proofs.Bounds.{path_cost}
use Rattle.volume_chain.specs.declared.chain.Chain.{Chain}
use Rattle.chain_settling.specs.Fit.{StageTurn, chain_in}
use Rattle.chain_settling.specs.Left.{IsCost, MeetsAt, left_of}
use Rattle.chain_settling.specs.Was.{folder_in}
use Rattle.chain_settling.specs.declared.stages.Stage.{Stage}
use Rattle.chain_settling.specs.declared.stages.Stage.TheVariants as stages

-- ---- the name that is listed is in the folder

met_shown : (dir : Dir) (d : Content) (after : Option Name) (n : Name) (found : Option Temporary) → temporary_name n ≡ found → ShowsName d dir n
    → tidying.MeetsAt (IsShown dir d) (Listing after) (met_stage n found)
met_shown dir d after n None e shows = shows
met_shown dir d after n (Some o) e shows = subst (λ (m : Name). ShowsName d dir m) (sym (name_is n o e)) shows

pub tidying_shows : (t : Tidying) (faults : ℕ) (turn : TidyTurn) (d e : Content) → CallOf t faults turn d e → Meets (IsShown (folder_of t) d) t turn
tidying_shows t faults turn d e call = go (stage_of t) call
  where
    removing : (o : Temporary) (turn : TidyTurn) → MeetsIn (IsShown (folder_of t) d) (Removing o) turn
    removing o (More next) = tt
    removing o (Done u) = tt
    removing o (Ended u refusal) = tt

    listing : (after : Option Name) (answer : Result (Option Name) DiskAnswer) → NextName d (folder_of t) after answer e → TurnFollows answer faults turn (ListedNext t turn)
        → MeetsIn (IsShown (folder_of t) d) (Listing after) turn
    listing after (Ok None) next follows = subst (λ (u : TidyTurn). MeetsIn (IsShown (folder_of t) d) (Listing after) u) (sym follows) tt
    listing after (Ok (Some n)) next follows =
        subst (λ (u : TidyTurn). MeetsIn (IsShown (folder_of t) d) (Listing after) u) (sym follows.1) (met_shown (folder_of t) d after n (temporary_name n) refl next.2.0)
    listing after (Err answer) next follows = subst (λ (u : TidyTurn). MeetsIn (IsShown (folder_of t) d) (Listing after) u) (sym follows) tt

    go : (s : TidyingStage) → CallIn s t faults turn d e → MeetsIn (IsShown (folder_of t) d) s turn
    go (Listing after) call = listing after call.0 call.1 call.2
    go (Removing o) call = removing o turn

-- ---- and is paid for

paid : (dir : Dir) (d : Content) (cost : Option Name → ℕ) (before after : Option Name) → IsCost dir d cost → IsRise before after → IsShown dir d before after → IsPaid cost before after
paid dir d cost before None is rises shown = absurd rises
paid dir d cost before (Some n) is rises shown = is before n shown rises

paid_at : (dir : Dir) (d : Content) (cost : Option Name → ℕ) (a b : TidyingStage) → IsCost dir d cost → tidying.MeetsAt IsRise a b → tidying.MeetsAt (IsShown dir d) a b → tidying.MeetsAt (IsPaid cost) a b
paid_at dir d cost (Listing before) (Listing after) is rises shown = paid dir d cost before after is rises shown
paid_at dir d cost (Listing before) (Removing o) is rises shown = is before (name_of o) shown rises
paid_at dir d cost (Removing o) b is rises shown = tt

pub stage_paid : (s : Stage) (turn : StageTurn) (d : Content) (cost : Option Name → ℕ) → IsCost (folder_in (chain_in s)) d cost → MeetsAt IsRise s turn → MeetsAt (IsShown (folder_in (chain_in s)) d) s turn
    → MeetsAt (IsPaid cost) s turn
stage_paid (stages.Tidying c t) (More (stages.Tidying e u)) d cost is rises shown = paid_at (folder_in c) d cost (stage_of t) (stage_of u) is rises shown
stage_paid _ _ d cost is rises shown = tt

-- ---- what some names cost

pub names_cost : (dir : Dir) (d : Content) (names : List Name) → ((n : Name) → ShowsName d dir n → Contains names n) → IsCost dir d (cost_by price names)
names_cost dir d names all before n shows above = cost_by_shown price names before n (all n shows) above

-- ---- the steps that are left at the begin

pub begin_left : (c : Chain) (t : Tidying) (cost : Option Name → ℕ) → tidying.IsBegun (folder_in c) t → left_of cost (stages.Tidying c t) ≡ cost None + 9 * length (open_in c) + 12 * length (records_kept c) + 5
begin_left c t cost begun = let first = begun.left cost in omega (arith, first)

-- ---- together with the opening's

-- a name is listed twice, and what else is done with it takes two steps at the most
both_prices : (n : Name) → gathered.price n + price n ≤ 4
both_prices (name.Volume v) = omega arith
both_prices (name.Meta v) = omega arith
both_prices (name.MetaNew v) = omega arith
both_prices (name.MetaVolatile v) = omega arith
both_prices _ = omega arith

both_costs : (ns : List Name) → sum_by gathered.price ns + sum_by price ns ≤ 4 * length ns
both_costs [] = omega arith
both_costs (n ∷ ns) = omega (arith, sum_by-cons gathered.price n ns, sum_by-cons price n ns, both_costs ns, both_prices n)

-- a path has no more volumes than the image has
short_reading : (xs : List Volume) (path : List Id) → FirstIs (records_in xs) (record_checks (ids_of xs)) None → IsReadingPath (records_in xs) path → length path ≤ length xs
short_reading xs path checked (v, vs, reading, is) = subst (λ (p : List Id). length p ≤ length xs) (sym is) (go (records_in xs v) refl reading.legal)
  where
    go : (x : Option VolumeRecord) → records_in xs v ≡ x → holds_in legal_in x ≡ true → length (path_of (records_in xs) v vs) ≤ length xs
    go None e legal = absurd (false≢true legal)
    go (Some y) e legal = short_path xs v vs checked (record_among xs v y e) reading.below

in_both : (opening settling first second path opened volumes tables names : ℕ) → opening ≡ first + 2 + (tables + 7 * path + 1) → settling ≡ second + 9 * opened + 12 * volumes + 5
    → first + second ≤ 4 * names → opened ≤ path → path ≤ volumes → opening + settling ≤ 64 + 4 * names + 32 * volumes + tables
in_both opening settling first second path opened volumes tables names a b c d e = omega (arith, a, b, c, d, e)

module _ (o : ChainOpening) (sd id : Id) (version : ℕ) (c : Chain) (t : Tidying) (ns : List Name) (heads : Id → Header) (tables : Id → ℕ → ℕ) (begun : IsBegun o sd id version)
    (shaped : IsShaped c) (tidies : tidying.IsBegun (folder_in c) t) where
  first : opening.steps_left (cost_of ns) heads tables (path_left heads tables (path_in c)) o ≡ sum_by gathered.price ns + 2 + (sum_by (tables_left heads tables) (path_in c) + 7 * length (path_in c) + 1)
  first =
      let left = begun.left (cost_of ns) heads tables (path_left heads tables (path_in c)) in
      omega (arith, left, cost_by_all gathered.price ns, path_cost heads tables (path_in c))

  second : left_of (cost_by price ns) (stages.Tidying c t) ≡ sum_by price ns + 9 * length (open_in c) + 12 * length (records_kept c) + 5
  second = omega (arith, begin_left c t (cost_by price ns) tidies, cost_by_all price ns)

  pub both_short : opening.steps_left (cost_of ns) heads tables (path_left heads tables (path_in c)) o + left_of (cost_by price ns) (stages.Tidying c t)
      ≤ 64 + 4 * length ns + 32 * length (records_kept c) + sum_by (tables_left heads tables) (path_in c)
  both_short = in_both (opening.steps_left (cost_of ns) heads tables (path_left heads tables (path_in c)) o) (left_of (cost_by price ns) (stages.Tidying c t))
      (sum_by gathered.price ns) (sum_by price ns) (length (path_in c)) (length (open_in c)) (length (records_kept c)) (sum_by (tables_left heads tables) (path_in c)) (length ns)
      first second (both_costs ns) (along_short (λ v o. IsOpenAs (target_of c) v (records_in (records_kept c) v) o) (path_in c) (open_in c) shaped.each)
      (short_reading (records_kept c) (path_in c) shaped.checked shaped.reading)

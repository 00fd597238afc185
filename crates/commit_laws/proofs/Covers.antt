-- What the top holds no other LEGAL volume reads through the base.
use Rattle.std.proofs.Common.{◌≡◌, ◌⊎◌, ℕ, ◌<◌, Bool, true, false, ◌&&◌, not, List, [], ◌∷◌, length, Option, Some, None, refl, sym, ap, ◌∙◌, subst, inl, inr, arith}
use Rattle.std.specs.Prelude.{◌≢◌}
use Rattle.std.specs.List.{Contains}
use Rattle.std.specs.Option.{is_some}
use Rattle.std.proofs.lemmas.Bool.{false≢true}
use Rattle.sd_names.specs.declared.id.Id.{Id}
use Rattle.shared_disk.proofs.Outcomes.{contains_here, contains_more, nothing_in, cons_cases}
use Rattle.volume_meta.specs.declared.record.VolumeRecord.{VolumeRecord}
use Rattle.chain_model.specs.Folder.{Volumes}
use Rattle.chain_model.specs.Records.{Records, holds_in, is_legal, is_passed, legal_in, parent_in, passed_in}
use Rattle.chain_model.specs.Chain.{IsBelow, counting, path_of}
use Rattle.chain_model.specs.Covered.{IsClear}
use Rattle.chain_model.specs.Own.{own}
use Rattle.chain_model.specs.Reading.{IsReading}
use Rattle.chain_model.specs.Up.{up_of}
use Rattle.chain_model.proofs.Chains.{below_one, one_below, same_id}
use Rattle.chain_records.specs.Settling.{IsOver}
use Rattle.chain_records.proofs.Settled.{counted}
use Rattle.chain_laws.specs.Laid.{IsPartCovered, Laying, sector_in_part}
use Rattle.commit_laws.specs.Commit.{IsCommit, IsHeldBy}

-- LEGAL volumes aren't passed over
legal_counts : (r : Records) (v : Id) → is_legal r v ≡ true → is_passed r v ≡ false
legal_counts r v legal = go (r v) legal
  where
    go : (o : Option VolumeRecord) → holds_in legal_in o ≡ true → holds_in passed_in o ≡ false
    go None e = refl
    go (Some x) e = ap (λ (b : Bool). not b && (x.merged && is_some (parent_in x))) e

-- ---- which of two stands below the other

-- no two volumes stand below one another
apart : (r : Records) (v w : Id) (vs ws : List Id) → IsBelow r v vs → IsBelow r w ws → Contains vs w → Contains ws v → ⊥
apart r v w vs ws b c h g = go (below_one r v w vs b h) (below_one r w v ws c g)
  where
    go : ((us : List Id) × IsBelow r w us × (length us < length vs)) → ((us : List Id) × IsBelow r v us × (length us < length ws)) → ⊥
    go (us, low, less) (ts, high, fewer) =
        let one : length us ≡ length ws = ap (λ (l : List Id). length l) (one_below r w us ws low c) in
        let two : length ts ≡ length vs = ap (λ (l : List Id). length l) (one_below r v ts vs high b) in
        omega (arith, less, fewer, one, two)

-- of two volumes on one chain one is the other, or stands below it
abbrev Beside : Id → List Id → Id → List Id → Type 0
Beside u us w ws = (u ≡ w) ⊎ (Contains us w ⊎ Contains ws u)

beside : (r : Records) (v u w : Id) (vs us ws : List Id) → IsBelow r v vs → IsBelow r u us → IsBelow r w ws → (v ≡ u) ⊎ Contains vs u → (v ≡ w) ⊎ Contains vs w → Beside u us w ws
beside r v u w vs us ws a b c (inl e) (inl f) = inl (sym e ∙ f)
beside r v u w vs us ws a b c (inl e) (inr g) =
    inr (inl (subst (λ (l : List Id). Contains l w) (one_below r u vs us (subst (λ (z : Id). IsBelow r z vs) e a) b) g))
beside r v u w vs us ws a b c (inr h) (inl f) =
    inr (inr (subst (λ (l : List Id). Contains l u) (one_below r w vs ws (subst (λ (z : Id). IsBelow r z vs) f a) c) h))
beside r v u w [] us ws a b c (inr h) (inr g) = absurd (nothing_in u h)
beside r v u w (x ∷ xs) us ws a b c (inr h) (inr g) = beside r x u w xs us ws a.1 b c (cons_cases x u xs h) (cons_cases x w xs g)

-- a LEGAL volume is the reading one, or stands below it
on_chain : (r : Records) (v : Id) (vs : List Id) (u : Id) → IsReading r v vs → is_legal r u ≡ true → (v ≡ u) ⊎ Contains vs u
on_chain r v vs u reading legal = go (cons_cases v u (counting r vs) (reading.all u legal))
  where
    go : (v ≡ u) ⊎ Contains (counting r vs) u → (v ≡ u) ⊎ Contains vs u
    go (inl e) = inl e
    go (inr h) = inr (counted r u vs h).0

-- ---- the parent that counts

-- a volume that counts and stands below one is its parent that counts, or stands below that one
under_up : (r : Records) (t b u : Id) (ts : List Id) → IsBelow r t ts → up_of r ts ≡ Some b → Contains ts u → is_passed r u ≡ false → (b ≡ u) ⊎ ((bs : List Id) × IsBelow r b bs × Contains bs u)
under_up r t b u [] below up h counts = absurd (nothing_in u h)
under_up r t b u (w ∷ ws) below up h counts = go (λ e g. under_up r w b u ws below.1 e g counts) (is_passed r w) refl (cons_cases w u ws h)
  where
    passed : (up_of r ws ≡ Some b → Contains ws u → (b ≡ u) ⊎ ((bs : List Id) × IsBelow r b bs × Contains bs u)) → is_passed r w ≡ true → (w ≡ u) ⊎ Contains ws u → (b ≡ u) ⊎ ((bs : List Id) × IsBelow r b bs × Contains bs u)
    passed more p (inl e) = absurd (false≢true (sym counts ∙ sym (ap (is_passed r) e) ∙ p))
    passed more p (inr g) = more (rw p at up) g

    first : w ≡ b → (w ≡ u) ⊎ Contains ws u → (b ≡ u) ⊎ ((bs : List Id) × IsBelow r b bs × Contains bs u)
    first e (inl f) = inl (sym e ∙ f)
    first e (inr g) = inr (ws, subst (λ (z : Id). IsBelow r z ws) e below.1, g)

    go : (up_of r ws ≡ Some b → Contains ws u → (b ≡ u) ⊎ ((bs : List Id) × IsBelow r b bs × Contains bs u)) → (p : Bool) → is_passed r w ≡ p → (w ≡ u) ⊎ Contains ws u → (b ≡ u) ⊎ ((bs : List Id) × IsBelow r b bs × Contains bs u)
    go more true p cases = passed more p cases
    go more false p cases = first (same_id (Some w) w b refl (rw p at up)) cases

-- the parent that counts stands below
up_below : (r : Records) (b : Id) (ts : List Id) → up_of r ts ≡ Some b → Contains ts b
up_below r b [] e = absurd cc
up_below r b (w ∷ ws) e = go (λ f. up_below r b ws f) (is_passed r w) refl
  where
    go : (up_of r ws ≡ Some b → Contains ws b) → (p : Bool) → is_passed r w ≡ p → Contains (w ∷ ws) b
    go more true p = contains_more w b ws (more (rw p at e))
    go more false p = subst (λ (z : Id). Contains (w ∷ ws) z) (same_id (Some w) w b refl (rw p at e)) (contains_here w ws)

-- ---- paths

clear : (r : Records) (x : Volumes) (b : Id) (k : ℕ) (ws : List Id) → (Contains ws b → ⊥) → IsClear r x b k ws
clear r x b k [] none = tt
clear r x b k (w ∷ ws) none =
    ((λ e. none (subst (λ (y : Id). Contains (w ∷ ws) y) e (contains_here w ws))), inr (clear r x b k ws (λ h. none (contains_more w b ws h))))

-- the top, with what is below it, above a base; and a sector that it holds
record Above (r : Records) (x : Volumes) (k : ℕ) (t b : Id) (ts : List Id) (s : List ℕ) : Type 0 where
  pub below : IsBelow r t ts
  pub base : Contains ts b
  pub counts : is_passed r t ≡ false
  pub holds : own r x t k ≡ Some s

-- on the path of a volume above the top the base comes behind the top
above_clear : (r : Records) (x : Volumes) (k : ℕ) (t b u : Id) (ts us : List Id) (s : List ℕ) → Above r x k t b ts s → IsBelow r u us → Contains us t → IsClear r x b k (counting r us)
above_clear r x k t b u ts [] s top below h = tt
above_clear r x k t b u ts (w ∷ ws) s top below h = go (λ g. above_clear r x k t b w ts ws s top below.1 g) (is_passed r w) refl (cons_cases w t ws h)
  where
    other : (w ≡ t) ⊎ Contains ws t → w ≢ b
    other (inl e) f = let same : t ≡ b = sym e ∙ f in apart r t t ts ts top.below top.below (subst (λ (z : Id). Contains ts z) (sym same) top.base) (subst (λ (z : Id). Contains ts z) (sym same) top.base)
    other (inr g) f = apart r t b ts ws top.below (subst (λ (z : Id). IsBelow r z ws) f below.1) top.base g

    past : (Contains ws t → IsClear r x b k (counting r ws)) → is_passed r w ≡ true → (w ≡ t) ⊎ Contains ws t → IsClear r x b k (counting r ws)
    past more p (inl e) = absurd (false≢true (sym top.counts ∙ sym (ap (is_passed r) e) ∙ p))
    past more p (inr g) = more g

    rest : (Contains ws t → IsClear r x b k (counting r ws)) → (w ≡ t) ⊎ Contains ws t → ((z : List ℕ) × (own r x w k ≡ Some z)) ⊎ IsClear r x b k (counting r ws)
    rest more (inl e) = inl (s, ap (λ (z : Id). own r x z k) e ∙ top.holds)
    rest more (inr g) = inr (more g)

    go : (Contains ws t → IsClear r x b k (counting r ws)) → (p : Bool) → is_passed r w ≡ p → (w ≡ t) ⊎ Contains ws t → IsClear r x b k (counting r (w ∷ ws))
    go more true p cases = rw p (past more p cases)
    go more false p cases = rw p (other cases, rest more cases)

pub covered : (l : Laying) (top v : Id) (vs : List Id) (x : Volumes) → IsReading l.records v vs → IsCommit l top → IsHeldBy l top x → IsPartCovered l x
covered l top v vs x reading commit holds k inside u us legal other below =
    go commit.over (beside_top commit.over)
  where
    beside_top : (o : IsOver l.records top l.volume) → Beside u us top o.0
    beside_top o = beside l.records v u top vs us o.0 reading.below below o.1 (on_chain l.records v vs u reading legal) (on_chain l.records v vs top reading commit.legal)

    under : (o : IsOver l.records top l.volume) → Contains o.0 u → (l.volume ≡ u) ⊎ ((bs : List Id) × IsBelow l.records l.volume bs × Contains bs u) → IsClear l.records x l.volume k (path_of l.records u us)
    under o h (inl e) = absurd (other (sym e))
    under o h (inr (bs, low, g)) =
        clear l.records x l.volume k (path_of l.records u us) (λ c. elim (cons_cases u l.volume (counting l.records us) c) [ inl e ↦ other e | inr d ↦ apart l.records u l.volume us bs below low (counted l.records l.volume us d).0 g ])

    go : (o : IsOver l.records top l.volume) → Beside u us top o.0 → IsClear l.records x l.volume k (path_of l.records u us)
    go o (inl e) = (other, inl (sector_in_part l.part k, ap (λ (z : Id). own l.records x z k) e ∙ holds k inside))
    go o (inr (inl h)) = (
      other,
      inr (above_clear l.records x k top l.volume u o.0 us (sector_in_part l.part k)
          (record { below = o.1; base = up_below l.records l.volume o.0 o.2; counts = legal_counts l.records top commit.legal; holds = holds k inside }) below h),
    )
    go o (inr (inr h)) = under o h (under_up l.records top l.volume u o.0 o.1 o.2 h (legal_counts l.records u legal))

-- the top isn't the base
pub base_below : (l : Laying) (top : Id) → IsCommit l top → top ≢ l.volume
base_below l top commit e = go commit.over
  where
    go : IsOver l.records top l.volume → ⊥
    go (ts, below, up) =
        let itself : Contains ts top = subst (λ (z : Id). Contains ts z) (sym e) (up_below l.records l.volume ts up) in
        apart l.records top top ts ts below below itself itself

-- What stands below a volume is one list, which no ring has, and there is one reading volume.
use Rattle.std.proofs.Common.{◌≡◌, ◌⊎◌, ℕ, ◌<◌, Bool, true, false, ◌&&◌, not, List, [], ◌∷◌, length, Option, Some, None, refl, sym, ap, subst, inl, inr, arith}
use Rattle.std.specs.Prelude.{option_and_then}
use Rattle.std.specs.List.{Contains, filter}
use Rattle.std.specs.Option.{is_some}
use Rattle.std.proofs.lemmas.Bool.{false≢true}
use Rattle.sd_names.specs.declared.id.Id.{Id}
use Rattle.sd_names.specs.declared.refusal.Refusal.{Refusal}
use Rattle.sd_names.specs.declared.refusal.Refusal.TheVariants.{WrongParent}
use Rattle.shared_disk.proofs.Outcomes.{contains_here, contains_more, nothing_in, cons_cases}
use Rattle.volume_meta.specs.declared.record.VolumeRecord.{VolumeRecord}
use Rattle.chain_model.specs.Folder.{Volumes}
use Rattle.chain_model.specs.Records.{Records, is_volume, parent, parent_in, is_passed, legal_in, passed_in, holds_in}
use Rattle.chain_model.specs.Chain.{IsBelow, counting, path_of}
use Rattle.chain_model.specs.Up.{IsUp, LeadsTo, next, past, up_of}
use Rattle.chain_model.specs.Reading.{IsReading}
use Rattle.chain_model.specs.Opening.{IsStray}
use Rattle.chain_model.specs.Covered.{IsClear, IsCovered}

pub same_id : (o : Option Id) (a b : Id) → o ≡ Some a → o ≡ Some b → a ≡ b
same_id o a b e f = cc

pub no_id : (o : Option Id) (a : Id) → o ≡ None → o ≡ Some a → ⊥
no_id o a e f = cc

pub cons_same : (u w : Id) (us ws : List Id) → u ≡ w → us ≡ ws → u ∷ us ≡ w ∷ ws
cons_same u w us ws e f = λ i. e i ∷ f i

pub one_below : (r : Records) (v : Id) (vs ws : List Id) → IsBelow r v vs → IsBelow r v ws → vs ≡ ws
one_below r v [] [] b c = refl
one_below r v [] (w ∷ ws) b c = absurd (no_id (parent r v) w b c.0)
one_below r v (u ∷ us) [] b c = absurd (no_id (parent r v) u c b.0)
one_below r v (u ∷ us) (w ∷ ws) b c =
    let same = same_id (parent r v) u w b.0 c.0 in
    cons_same u w us ws same (one_below r u us ws b.1 (subst (λ (x : Id). IsBelow r x ws) (sym same) c.1))

below_step : (r : Records) (w u : Id) (us : List Id) → IsBelow r u us → (Contains us w → (ws : List Id) × IsBelow r w ws × (length ws < length us))
    → (u ≡ w) ⊎ Contains us w → (ws : List Id) × IsBelow r w ws × (length ws < length (u ∷ us))
below_step r w u us b more (inl e) = (us, subst (λ (x : Id). IsBelow r x us) e b, omega arith)
below_step r w u us b more (inr g) = let rest = more g in (rest.0, rest.1, omega (arith, rest.2))

pub below_one : (r : Records) (v w : Id) (vs : List Id) → IsBelow r v vs → Contains vs w → (ws : List Id) × IsBelow r w ws × (length ws < length vs)
below_one r v w [] b h = absurd (nothing_in w h)
below_one r v w (u ∷ us) b h = below_step r w u us b.1 (λ g. below_one r u w us b.1 g) (cons_cases u w us h)

shorter : (r : Records) (v w : Id) (vs ws : List Id) → IsBelow r v vs → IsBelow r w ws → Contains vs w → length ws < length vs
shorter r v w vs ws b c h =
    let rest = below_one r v w vs b h in
    let same : length rest.0 ≡ length ws = ap (λ (us : List Id). length us) (one_below r w rest.0 ws rest.1 c) in
    omega (arith, rest.2, same)

pub no_ring : (r : Records) (v : Id) (vs : List Id) → IsBelow r v vs → Contains vs v → ⊥
no_ring r v vs b h = let less = shorter r v v vs vs b b h in omega (arith, less)

-- ---- paths

filter_step : (p : Id → Bool) (y x : Id) (ys : List Id) (t : Bool) → p y ≡ t → (Contains (filter p ys) x → Contains ys x)
    → Contains (filter p (y ∷ ys)) x → Contains (y ∷ ys) x
filter_step p y x ys true t more h =
    elim (cons_cases y x (filter p ys) (rw t at h)) [ inl e ↦ subst (λ (z : Id). Contains (y ∷ ys) z) e (contains_here y ys) | inr g ↦ contains_more y x ys (more g) ]
filter_step p y x ys false t more h = contains_more y x ys (more (rw t at h))

filter_among : (p : Id → Bool) (ys : List Id) (x : Id) → Contains (filter p ys) x → Contains ys x
filter_among p [] x h = h
filter_among p (y ∷ ys) x h = filter_step p y x ys (p y) refl (filter_among p ys x) h

-- a volume on a path is its head or stands below it
on_path : (r : Records) (v w : Id) (vs : List Id) → Contains (path_of r v vs) w → (v ≡ w) ⊎ Contains vs w
on_path r v w vs h =
    elim (cons_cases v w (counting r vs) h) [ inl e ↦ inl e | inr g ↦ inr (filter_among (λ u. not (is_passed r u)) vs w g) ]

-- two volumes below one another are one
both_below : (r : Records) (v w : Id) (vs ws : List Id) → IsBelow r v vs → IsBelow r w ws → (v ≡ w) ⊎ Contains vs w → (w ≡ v) ⊎ Contains ws v → v ≡ w
both_below r v w vs ws b c (inl e) other = e
both_below r v w vs ws b c (inr h) (inl e) = sym e
both_below r v w vs ws b c (inr h) (inr g) =
    let one = shorter r v w vs ws b c h in let two = shorter r w v ws vs c b g in absurd (omega (arith, one, two))

pub one_reading : (r : Records) (v w : Id) (vs ws : List Id) → IsReading r v vs → IsReading r w ws → v ≡ w
one_reading r v w vs ws a b =
    both_below r v w vs ws a.below b.below (on_path r v w vs (a.all w b.legal)) (on_path r w v ws (b.all v a.legal))

clear : (r : Records) (x : Volumes) (b : Id) (k : ℕ) (ws : List Id) → (Contains ws b → ⊥) → IsClear r x b k ws
clear r x b k [] none = tt
clear r x b k (w ∷ ws) none =
    ((λ e. none (subst (λ (y : Id). Contains (w ∷ ws) y) e (contains_here w ws))), inr (clear r x b k ws (λ h. none (contains_more w b ws h))))

pub reading_covered : (r : Records) (v : Id) (vs : List Id) (x : Volumes) (k : ℕ) → IsReading r v vs → IsCovered r v k x
reading_covered r v vs x k a u us legal other b =
    clear r x v k (path_of r u us) (λ h. other (both_below r u v us vs b a.below (on_path r u v us h) (on_path r v u vs (a.all u legal))))

-- ---- the parent that counts

false_and : (a b : Bool) → (a && (b && false)) ≡ true → ⊥
false_and true true e = false≢true e
false_and true false e = false≢true e
false_and false b e = false≢true e

none_and : (a b : Bool) (o : Option Id) → o ≡ None → (a && (b && is_some o)) ≡ true → ⊥
none_and a b None e h = false_and a b h
none_and a b (Some p) e h = absurd cc

pub passed_has_parent : (o : Option VolumeRecord) → holds_in passed_in o ≡ true → option_and_then parent_in o ≡ None → ⊥
passed_has_parent None e f = false≢true e
passed_has_parent (Some x) e f = none_and (not (legal_in x)) x.merged (parent_in x) f e

reached_up : (r : Records) (v w : Id) (vs : List Id) → IsBelow r v vs → LeadsTo r v w → up_of r vs ≡ Some w
reached_up r v w [] b (next e c) = absurd (no_id (parent r v) w b e)
reached_up r v w (u ∷ us) b (next e c) = let same = same_id (parent r v) u w b.0 e in rw (same, c) refl
reached_up r v w [] b (past {w = m} e c more) = absurd (no_id (parent r v) m b e)
reached_up r v w (u ∷ us) b (past {w = m} e c more) =
    let same = same_id (parent r v) u m b.0 e in
    let rest = reached_up r m w us (subst (λ (x : Id). IsBelow r x us) same b.1) more in
    rw (same, c) rest

leads_step : (r : Records) (v w : Id) (ws : List Id) (t : Bool) → is_passed r w ≡ t → parent r v ≡ Some w → IsBelow r w ws
    → ((u : Id) (us : List Id) → ws ≡ u ∷ us → (m : Id) × LeadsTo r w m) → (m : Id) × LeadsTo r v m
leads_step r v w ws false t e b more = (w, next e t)
leads_step r v w [] true t e b more = absurd (passed_has_parent (r w) t b)
leads_step r v w (u ∷ us) true t e b more = let rest = more u us refl in (rest.0, past e t rest.1)

leads : (r : Records) (v w : Id) (ws : List Id) → IsBelow r v (w ∷ ws) → (m : Id) × LeadsTo r v m
leads r v w [] b = leads_step r v w [] (is_passed r w) refl b.0 b.1 (λ u us e. absurd cc)
leads r v w (u ∷ us) b = leads_step r v w (u ∷ us) (is_passed r w) refl b.0 b.1 (λ x xs e. leads r w u us b.1)

pub up_counts : (r : Records) (v : Id) (vs : List Id) → IsBelow r v vs → IsUp r v (up_of r vs)
up_counts r v [] b = record { base = λ e. refl; reached = λ w l. reached_up r v w [] b l; ring = λ none. sym b }
up_counts r v (w ∷ ws) b = record {
  base = λ e. absurd (no_id (parent r v) w e b.0);
  reached = λ u l. reached_up r v u (w ∷ ws) b l;
  ring = λ none. let some = leads r v w ws b in absurd (none some.0 some.1);
}

-- what is passed over has a parent, and one of the image where it isn't a stray one
pub passed_inside : (x : Volumes) (r : Records) (v : Id) → is_passed r v ≡ true → ((e : Refusal) → IsStray x r v e → ⊥) → (p : Id) × (parent r v ≡ Some p) × (is_volume x p ≡ true)
passed_inside x r v passed none = go (parent r v) refl
  where
    inside : (p : Id) → parent r v ≡ Some p → (b : Bool) → is_volume x p ≡ b → is_volume x p ≡ true
    inside p e true t = t
    inside p e false t = absurd (none (WrongParent v p) (p, e, t, refl))

    go : (o : Option Id) → parent r v ≡ o → (p : Id) × (parent r v ≡ Some p) × (is_volume x p ≡ true)
    go None e = absurd (passed_has_parent (r v) passed e)
    go (Some p) e = (p, e, inside p e (is_volume x p) refl)

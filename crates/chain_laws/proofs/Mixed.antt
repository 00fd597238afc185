-- What the volumes of an image read as while a part is laid over one of them, and once it is.
use Rattle.std.proofs.Common.{◌≡◌, ◌⊎◌, ℕ, Bool, true, false, List, [], ◌∷◌, Option, Some, unwrap_or, refl, sym, ap, ap₂, ◌∙◌, subst, inl, inr}
use Rattle.std.specs.Prelude.{◌≢◌, not}
use Rattle.std.specs.List.{filter}
use Rattle.sd_names.specs.declared.id.Id.{Id}
use Rattle.shared_disk.specs.Places.{id_is}
use Rattle.shared_disk.proofs.Places.{id_is-same}
use Rattle.chain_model.specs.Folder.{Volumes}
use Rattle.chain_model.specs.Records.{Records, is_legal, is_passed}
use Rattle.chain_model.specs.Chain.{IsBelow, counting}
use Rattle.chain_model.specs.Flat.{IsFlat, IsSectorOf, first_of, flat}
use Rattle.chain_model.specs.Own.{own}
use Rattle.chain_model.proofs.Chains.{one_below}
use Rattle.chain_model.proofs.Covers.{others_read_alike}
use Rattle.chain_model.proofs.Flats.{flat_alike}
use Rattle.chain_laws.specs.Laid.{AreLaid, AreMixed, IsInPart, IsLaidOver, IsPartCovered, Laying, Reads, sector_in_part}
use Rattle.chain_laws.specs.Written.{HoldsPart, IsWritten}
use Rattle.chain_laws.proofs.Held.{HeldCase, all_same, apart, held_case, in_cases}

-- a volume that holds a sector reads it so
held_read : (r : Records) (x : Volumes) (v : Id) (vs : List Id) (k : ℕ) (s : List ℕ) → own r x v k ≡ Some s → flat r x v vs k ≡ s
held_read r x v vs k s held = ap (λ (o : Option (List ℕ)). unwrap_or o (first_of r x (counting r vs) k)) held

-- ---- a volume that holds now what it read

-- what is so of a sector that the volume held not, and holds as it read
record Fills (l : Laying) (x y : Volumes) (k : ℕ) : Type 0 where
  pub below : IsBelow l.records l.volume l.below
  pub others : (w : Id) → w ≢ l.volume → own l.records y w k ≡ own l.records x w k
  pub now : own l.records y l.volume k ≡ Some (l.reads k)
  pub read : flat l.records x l.volume l.below k ≡ l.reads k

head_same : (l : Laying) (x y : Volumes) (k : ℕ) (w : Id) (ws : List Id) → Fills l x y k → IsBelow l.records w ws
    → first_of l.records y (counting l.records ws) k ≡ first_of l.records x (counting l.records ws) k → flat l.records y w ws k ≡ flat l.records x w ws k
head_same l x y k w ws fills below rest = go (id_is w l.volume) refl
  where
    go : (t : Bool) → id_is w l.volume ≡ t → flat l.records y w ws k ≡ flat l.records x w ws k
    go false t = ap₂ (λ (o : Option (List ℕ)) (s : List ℕ). unwrap_or o s) (fills.others w (apart w l.volume t)) rest
    go true t =
        let e = id_is-same w l.volume t in
        let list : ws ≡ l.below = one_below l.records l.volume ws l.below (subst (λ (z : Id). IsBelow l.records z ws) e below) fills.below in
        held_read l.records y w ws k (l.reads k) (ap (λ (z : Id). own l.records y z k) e ∙ fills.now)
        ∙ sym fills.read
        ∙ sym (λ i. flat l.records x (e i) (list i) k)

filter_first : (r : Records) (x y : Volumes) (p : Id → Bool) (w : Id) (ws : List Id) (k : ℕ) (t : Bool) → p w ≡ t
    → first_of r y (filter p ws) k ≡ first_of r x (filter p ws) k → first_of r y (w ∷ filter p ws) k ≡ first_of r x (w ∷ filter p ws) k
    → first_of r y (filter p (w ∷ ws)) k ≡ first_of r x (filter p (w ∷ ws)) k
filter_first r x y p w ws k true t tail head = rw t head
filter_first r x y p w ws k false t tail head = rw t tail

tail_same : (l : Laying) (x y : Volumes) (k : ℕ) (v : Id) (vs : List Id) → Fills l x y k → IsBelow l.records v vs
    → first_of l.records y (counting l.records vs) k ≡ first_of l.records x (counting l.records vs) k
tail_same l x y k v [] fills below = refl
tail_same l x y k v (w ∷ ws) fills below =
    let rest = tail_same l x y k w ws fills below.1 in
    filter_first l.records x y (λ u. not (is_passed l.records u)) w ws k (not (is_passed l.records w)) refl rest (head_same l x y k w ws fills below.1 rest)

-- each volume reads the sector as it did
filled_alike : (l : Laying) (x y : Volumes) (k : ℕ) (v : Id) (vs : List Id) → Fills l x y k → IsBelow l.records v vs → flat l.records y v vs k ≡ flat l.records x v vs k
filled_alike l x y k v vs fills below = head_same l x y k v vs fills below (tail_same l x y k v vs fills below)

-- ---- each sector is old or new

mixed_at : (l : Laying) (x y : Volumes) (k : ℕ) (u : Id) (us : List Id) → IsBelow l.records l.volume l.below → Reads l l.reads x → IsPartCovered l x → IsWritten l x y
    → is_legal l.records u ≡ true → IsBelow l.records u us
    → (flat l.records y u us k ≡ flat l.records x u us k) ⊎ ((u ≡ l.volume) × IsInPart l.part k × (flat l.records y u us k ≡ sector_in_part l.part k))
mixed_at l x y k u us below reads covered written legal under = go (held_case l x y k written)
  where
    new : (t : Bool) → id_is u l.volume ≡ t → IsInPart l.part k → own l.records y l.volume k ≡ Some (sector_in_part l.part k)
        → (flat l.records y u us k ≡ flat l.records x u us k) ⊎ ((u ≡ l.volume) × IsInPart l.part k × (flat l.records y u us k ≡ sector_in_part l.part k))
    new true t inside now =
        let e = id_is-same u l.volume t in
        inr (e, inside, held_read l.records y u us k (sector_in_part l.part k) (ap (λ (z : Id). own l.records y z k) e ∙ now))
    new false t inside now = inl (others_read_alike l.records x y l.volume u us k (covered k inside) (λ w other. written.others w other k) legal (apart u l.volume t) under)

    go : HeldCase l x y k → (flat l.records y u us k ≡ flat l.records x u us k) ⊎ ((u ≡ l.volume) × IsInPart l.part k × (flat l.records y u us k ≡ sector_in_part l.part k))
    go (inl same) = inl (flat_alike l.records x y u us k (all_same l x y k written same))
    go (inr (s, inl h)) = new (id_is u l.volume) refl h.0 h.1
    go (inr (s, inr h)) = inl (filled_alike l x y k u us (record { below = below; others = λ w other. written.others w other k; now = h.1; read = reads k s }) under)

pub mixed : (l : Laying) (flats : Id → ℕ → List ℕ) (x y : Volumes) → IsBelow l.records l.volume l.below → IsFlat l.records flats x → Reads l l.reads x → IsPartCovered l x
    → IsWritten l x y → AreMixed l flats y
mixed l flats x y below is reads covered written u us legal under k s =
    elim (mixed_at l x y k u us below reads covered written legal under) [ inl e ↦ inl (e ∙ is u us legal under k s) | inr h ↦ inr h ]

-- ---- the part is laid

pub laid_flats : (l : Laying) (flats new : Id → ℕ → List ℕ) (x y : Volumes) → IsBelow l.records l.volume l.below → IsFlat l.records flats x → Reads l l.reads x → IsPartCovered l x
    → IsWritten l x y → HoldsPart l y → AreLaid l flats new → IsFlat l.records new y
laid_flats l flats new x y below is reads covered written holds laid u us legal under k s = go (id_is u l.volume) refl (mixed l flats x y below is reads covered written u us legal under k s)
  where
    here : u ≡ l.volume → IsInPart l.part k ⊎ (IsInPart l.part k → ⊥) → (flat l.records y u us k ≡ flats u k) ⊎ ((u ≡ l.volume) × IsInPart l.part k × (flat l.records y u us k ≡ sector_in_part l.part k))
        → flat l.records y u us k ≡ new u k
    here e (inl inside) m =
        held_read l.records y u us k (sector_in_part l.part k) (ap (λ (z : Id). own l.records y z k) e ∙ holds k inside (subst (λ (z : Id). IsSectorOf l.records z k) e s))
        ∙ sym (laid.here.inside k inside)
        ∙ sym (ap (λ (z : Id). new z k) e)
    here e (inr out) (inl old) = old ∙ ap (λ (z : Id). flats z k) e ∙ sym (laid.here.outside k out) ∙ sym (ap (λ (z : Id). new z k) e)
    here e (inr out) (inr h) = absurd (out h.1)

    go : (t : Bool) → id_is u l.volume ≡ t → (flat l.records y u us k ≡ flats u k) ⊎ ((u ≡ l.volume) × IsInPart l.part k × (flat l.records y u us k ≡ sector_in_part l.part k))
        → flat l.records y u us k ≡ new u k
    go true t m = here (id_is-same u l.volume t) (in_cases l.part k) m
    go false t (inl old) = old ∙ sym (ap (λ (f : ℕ → List ℕ). f k) (laid.others u (apart u l.volume t)))
    go false t (inr h) = absurd (apart u l.volume t h.0)

pub laid_reads : (l : Laying) (new : ℕ → List ℕ) (x y : Volumes) → Reads l l.reads x → IsWritten l x y → HoldsPart l y → IsLaidOver l.part l.reads new → Reads l new y
laid_reads l new x y reads written holds laid k s = go (in_cases l.part k) (held_case l x y k written)
  where
    go : IsInPart l.part k ⊎ (IsInPart l.part k → ⊥) → HeldCase l x y k → flat l.records y l.volume l.below k ≡ new k
    go (inl inside) h = held_read l.records y l.volume l.below k (sector_in_part l.part k) (holds k inside s) ∙ sym (laid.inside k inside)
    go (inr out) (inl same) = flat_alike l.records x y l.volume l.below k (all_same l x y k written same) ∙ reads k s ∙ sym (laid.outside k out)
    go (inr out) (inr (_, inl h)) = absurd (out h.0)
    go (inr out) (inr (_, inr h)) = held_read l.records y l.volume l.below k (l.reads k) h.1 ∙ sym (laid.outside k out)

-- The lines that a domain's text is written as.
use Rattle.std.proofs.Common.{◌≡◌, not, ℕ, ◌<◌, ◌^◌, true, cond, List, [], ◌∷◌, ◌++◌, length, map, filter, refl, sym, ap, ◌∙◌, arith, append_assoc, length-append, All, codes}
use Rattle.std.specs.List.{list_all, concat}
use Rattle.std.proofs.lemmas.Bool.{and_parts}
use Rattle.std.proofs.lemmas.List.{append-nil}
use Rattle.std.proofs.lemmas.List.Elements.{All-from_recursion}
use Rattle.std.proofs.lemmas.List.Folds.{list_any-append}
use Rattle.sd_names.specs.Id.{id_text}
use Rattle.sd_names.specs.declared.id.Id.{Id}
use Rattle.sd_names.specs.declared.kinds.Role.{Role}
use Rattle.sd_names.specs.declared.kinds.Role.TheVariants.{Master, Regular}
use Rattle.sd_names.proofs.IdLemmas.{id_text-length}
use Rattle.sha1.specs.Sha1.{sha1}
use Rattle.kv_text.specs.Text.{KeyValue, IsOneLine, IsWritable, is_line_feed, lines, whole, text_of}
use Rattle.kv_text.proofs.ReadBack.{lines-text_of, eof_not, empty_not}
use Rattle.kv_text.proofs.ValuesBack.{decimal_one_line, id_one_line}
use Rattle.domain_meta.specs.Checksum.{checksum_of, covered_of, in_order, is_checksum, is_covered}
use Rattle.domain_meta.specs.Text.{behind, domain_pairs, domain_text_of, domains_text, role_text}
use Rattle.domain_meta.specs.declared.record.DomainRecord.{DomainRecord}
use Rattle.domain_meta.proofs.Covered.{first_kept}

-- a list of domains with one more
behind_full : (text word : List ℕ) → 0 < length text → behind text word ≡ text ++ 44 ∷ word
behind_full [] word h = absurd (omega arith)
behind_full (x ∷ text) word h = refl

domain_full : (id : Id) → 0 < length (domain_text_of id)
domain_full id = omega (arith, length-append (id_text id.0) (codes ":Active"), id_text-length id.0)

domains_full : (id : Id) (ids : List Id) → 0 < length (domains_text (id ∷ ids))
domains_full id [] = domain_full id
domains_full id (next ∷ more) =
    omega (arith, length-append (domain_text_of id) (44 ∷ domains_text (next ∷ more)), domain_full id)

pub domains_text-push : (ids : List Id) (id : Id) → domains_text (ids ++ id ∷ []) ≡ behind (domains_text ids) (domain_text_of id)
domains_text-push [] id = refl
domains_text-push (x ∷ []) id = sym (behind_full (domain_text_of x) (domain_text_of id) (domain_full x))
domains_text-push (x ∷ y ∷ more) id =
    let rest = domains_text-push (y ∷ more) id ∙ behind_full (domains_text (y ∷ more)) (domain_text_of id) (domains_full y more) in
    ap (λ (l : List ℕ). domain_text_of x ++ 44 ∷ l) rest
    ∙ sym (append_assoc (domain_text_of x) (44 ∷ domains_text (y ∷ more)) (44 ∷ domain_text_of id))
    ∙ sym (behind_full (domains_text (x ∷ y ∷ more)) (domain_text_of id) (domains_full x (y ∷ more)))

domain_one_line : (id : Id) → IsOneLine (domain_text_of id)
domain_one_line id = list_any-append is_line_feed (id_text id.0) (codes ":Active") ∙ rw (id_one_line id.0) refl

pub domains_one_line : (ids : List Id) → IsOneLine (domains_text ids)
domains_one_line [] = refl
domains_one_line (x ∷ []) = domain_one_line x
domains_one_line (x ∷ y ∷ more) =
    list_any-append is_line_feed (domain_text_of x) (44 ∷ domains_text (y ∷ more)) ∙ rw (domain_one_line x, domains_one_line (y ∷ more)) refl

role_one_line : (role : Role) → IsOneLine (role_text role)
role_one_line Master = refl
role_one_line Regular = refl

-- no value that is written has a line feed
pub all_writable : (r : DomainRecord) → IsOneLine r.description → r.version < 2 ^ 64 → r.master_version < 2 ^ 64 → All IsWritable (domain_pairs r)
unfolding domain_pairs
all_writable r one_line version master =
    All-from_recursion IsWritable (domain_pairs r) (
      record { key = refl; divided = refl; value = refl },
      (
        record { key = refl; divided = refl; value = one_line },
        (
          record { key = refl; divided = refl; value = decimal_one_line r.master_version master },
          (
            record { key = refl; divided = refl; value = domains_one_line r.domains },
            (
              record { key = refl; divided = refl; value = id_one_line r.pool.0 },
              (
                record { key = refl; divided = refl; value = role_one_line r.role },
                (
                  record { key = refl; divided = refl; value = id_one_line r.sduuid.0 },
                  (
                    record { key = refl; divided = refl; value = decimal_one_line r.version version },
                    tt,
                  ),
                ),
              ),
            ),
          ),
        ),
      ),
    )

-- the checksum covers written lines, but for its own
covered-wholes : (ps : List KeyValue) → covered_of (map whole ps ++ [] ∷ []) ≡ filter is_covered (map whole ps)
covered-wholes [] = refl
covered-wholes (p ∷ ps) =
    first_kept (whole p) (map whole ps ++ [] ∷ []) ∙ rw (eof_not p) (ap (λ (ls : List (List ℕ)). cond (is_covered (whole p)) (whole p ∷ ls) ls) (covered-wholes ps))

pub covered-text_of : (ps : List KeyValue) → All IsWritable ps → covered_of (lines (text_of ps)) ≡ filter is_covered (map whole ps)
covered-text_of ps all =
    ap (λ (t : List ℕ). covered_of (lines t)) (sym (append-nil (text_of ps))) ∙ ap covered_of (lines-text_of ps [] all) ∙ covered-wholes ps

pub all_covered : (ps : List KeyValue) → list_all (λ p. not (is_checksum (whole p))) ps ≡ true → filter is_covered (map whole ps) ≡ map whole ps
all_covered [] e = refl
all_covered (p ∷ ps) e =
    let parts = and_parts (not (is_checksum (whole p))) (list_all (λ p. not (is_checksum (whole p))) ps) e in
    rw (empty_not p.key p.value, parts.0) (ap (λ (ls : List (List ℕ)). whole p ∷ ls) (all_covered ps parts.1))

-- the lines of a record, which are written in order
pub own_lines : (r : DomainRecord) → filter is_covered (map whole (domain_pairs r)) ≡ map whole (domain_pairs r)
unfolding domain_pairs
own_lines r = all_covered (domain_pairs r) refl

pub own_order : (r : DomainRecord) → in_order (map whole (domain_pairs r)) ≡ map whole (domain_pairs r)
unfolding domain_pairs
own_order r = refl

pub own_checksum : (r : DomainRecord) → All IsWritable (domain_pairs r) → checksum_of (text_of (domain_pairs r)) ≡ sha1 (concat (map whole (domain_pairs r)))
unfolding checksum_of
own_checksum r all =
    ap (λ (ls : List (List ℕ)). sha1 (concat (in_order ls))) (covered-text_of (domain_pairs r) all ∙ own_lines r) ∙ ap (λ (ls : List (List ℕ)). sha1 (concat ls)) (own_order r)

-- eight parts, one behind the other
further : (w a v x : List ℕ) → v ≡ w ++ a → v ++ x ≡ w ++ (a ++ x)
further w a v x e = ap (λ (l : List ℕ). l ++ x) e ∙ append_assoc w a x

pub joined-eight : (w a b c d e f g h w1 w2 w3 w4 w5 w6 w7 w8 : List ℕ) → w1 ≡ w ++ a → w2 ≡ w1 ++ b → w3 ≡ w2 ++ c → w4 ≡ w3 ++ d → w5 ≡ w4 ++ e → w6 ≡ w5 ++ f → w7 ≡ w6 ++ g → w8 ≡ w7 ++ h
    → w8 ≡ w ++ (a ++ (b ++ (c ++ (d ++ (e ++ (f ++ (g ++ (h ++ []))))))))
joined-eight w a b c d e f g h w1 w2 w3 w4 w5 w6 w7 w8 p q r s t u v x =
    x ∙ ap (λ (l : List ℕ). w7 ++ l) (sym (append-nil h))
    ∙ further w6 g w7 (h ++ []) v
    ∙ further w5 f w6 (g ++ (h ++ [])) u
    ∙ further w4 e w5 (f ++ (g ++ (h ++ []))) t
    ∙ further w3 d w4 (e ++ (f ++ (g ++ (h ++ [])))) s
    ∙ further w2 c w3 (d ++ (e ++ (f ++ (g ++ (h ++ []))))) r
    ∙ further w1 b w2 (c ++ (d ++ (e ++ (f ++ (g ++ (h ++ [])))))) q
    ∙ further w a w1 (b ++ (c ++ (d ++ (e ++ (f ++ (g ++ (h ++ []))))))) p

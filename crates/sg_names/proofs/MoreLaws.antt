-- A table whose phyla have further attributes: what its names mean, and its indexes.
use Rattle.std.proofs.Common.{◌≡◌, refl, sym, ap, subst, ◌∙◌, ℕ, suc, ◌+◌, true, cond, bytes_eq, List, [], ◌∷◌, Some}
use Rattle.std.specs.List.{position, position_from}
use Rattle.sg_kinds.specs.Values.{Bytes}
use Rattle.sg_kinds.specs.declared.spec.Attr.{Attr}
use Rattle.sg_kinds.specs.declared.spec.Phylum.{Phylum}
use Rattle.sg_names.specs.declared.index.Index.{Index}
use Rattle.sg_names.specs.declared.table.Callable.{Callable}
use Rattle.sg_names.specs.declared.table.Table.{Table}
use Rattle.sg_names.specs.Indexed.{IsIndexed, is_numbered}
use Rattle.sg_names.specs.Lookups.{phylum_named}
use Rattle.sg_names.specs.More.{and_attrs, with_more}
use Rattle.sg_names.specs.Names.{map_from}
use Rattle.sg_names.proofs.Firsts.{from_zero}

place_kept : (more : ℕ → List Attr) (n : Bytes) (k i : ℕ) (xs : List Phylum) → position_from (λ (x : Phylum). bytes_eq n x.name) i (map_from (and_attrs more) k xs) ≡ position_from (λ (x : Phylum). bytes_eq n x.name) i xs
place_kept more n k i [] = refl
place_kept more n k i (x ∷ xs) = ap (λ o. cond (bytes_eq n x.name) (Some i) o) (place_kept more n (suc k) (i + 1) xs)

-- the phylum of a name
pub phylum_more : (t : Table) (more : ℕ → List Attr) (n : Bytes) → phylum_named (with_more t more) n ≡ phylum_named t n
phylum_more t more n =
    from_zero (λ (x : Phylum). bytes_eq n x.name) (map_from (and_attrs more) 0 t.phyla)
    ∙ place_kept more n 0 0 t.phyla ∙ sym (from_zero (λ (x : Phylum). bytes_eq n x.name) t.phyla)

-- the indexes of a table are those of the longer one
pub indexed_more : {t : Table} {p k : Index ℕ} {c : Index Callable} (more : ℕ → List Attr) (all : Table) → all ≡ with_more t more → IsIndexed t p k c → is_numbered all ≡ true → IsIndexed all p k c
indexed_more {t} {p} {k} {c} more all is h short = subst (λ (x : Table). is_numbered x ≡ true → IsIndexed x p k c) (sym is) (λ numbered. record {
  phyla = λ n. h.phyla n ∙ sym (phylum_more t more n);
  nonterminals = h.nonterminals;
  callables = h.callables;
  numbered = numbered;
}) short

-- The record has the names of its table.
use Rattle.std.proofs.Common.{◌≡◌, ℕ, suc, List, [], ◌∷◌, map, refl, sym, ap}
use Rattle.std.specs.List.{AllByRecursion as Each}
use Rattle.std.proofs.lemmas.List.Elements.{All-from_recursion, recursion_from_All}
use Rattle.sg_kinds.specs.Lexemes.{Lexeme}
use Rattle.sg_kinds.specs.declared.spec.Local.{Local}
use Rattle.sg_kinds.specs.declared.spec.Operator.{Operator}
use Rattle.sg_kinds.specs.declared.spec.Rule.{Rule}
use Rattle.sg_kinds.specs.declared.spec.Scheme.{Scheme}
use Rattle.sg_ast.specs.declared.decl.Alt.{Alt}
use Rattle.sg_ast.specs.declared.name.Name.{Name}
use Rattle.sg_ast.specs.Declarations.{Decl, Operators}
use Rattle.sg_names.specs.declared.heads.Head.{Head}
use Rattle.sg_names.specs.declared.table.Signature.{Signature}
use Rattle.sg_names.specs.declared.table.Table.{Table}
use Rattle.sg_names.specs.Drafted.{without_schemes, signature_of, HasTable}
use Rattle.sg_names.specs.Names.{map_from, operator, operators_at, operators_in, phyla_in, with_local}
use Rattle.sg_names.specs.Names as text_names
use Rattle.sg_remote.specs.Longer.{names_of}
use Rattle.sg_record.specs.Premises.{HasNoSchemes}
use Rattle.sg_record.specs.Record.{with_scheme, with_bodies, record_of}
use Rattle.sg_record.proofs.Lists.{each_append}

abbrev IsBare : Operator → Type 0
IsBare o = o.schemes ≡ []

ops_kept : (schemes : ℕ → List Scheme) (k : ℕ) (ops : List Operator) → Each IsBare ops → map without_schemes (map_from (with_scheme schemes) k ops) ≡ ops
ops_kept schemes k [] h = refl
ops_kept schemes k (o ∷ ops) h = λ i. record o { schemes = sym h.0 i } ∷ ops_kept schemes (suc k) ops h.1 i

functions_kept : (ks : List ℕ) (fs : List Signature) → map signature_of (with_bodies ks fs) ≡ fs
functions_kept ks [] = refl
functions_kept [] (f ∷ fs) = ap (λ (l : List Signature). f ∷ l) (functions_kept [] fs)
functions_kept (k ∷ ks) (f ∷ fs) = ap (λ (l : List Signature). f ∷ l) (functions_kept ks fs)

pub table_kept : (t : Table) (ds : List Decl) (rules : List Rule) (lexemes : List Lexeme) → HasNoSchemes t → HasTable t (record_of t ds rules lexemes)
unfolding record_of
table_kept t ds rules lexemes bare = record {
  phyla = refl;
  ops = ops_kept _ 0 t.ops (recursion_from_All IsBare t.ops bare);
  functions = functions_kept _ t.functions;
  root = refl;
}

-- the table of declarations has no schemes
bare_alts : (phyla : List Head) (n : Name) (alts : List Alt) → Each IsBare (map (operator phyla n) alts)
bare_alts phyla n [] = tt
bare_alts phyla n (a ∷ alts) = (refl, bare_alts phyla n alts)

bare_at : (phyla : List Head) (d : Decl) → Each IsBare (operators_at phyla d)
bare_at phyla (Operators n alts) = bare_alts phyla n alts
bare_at phyla d = tt

bare_in : (phyla : List Head) (ds : List Decl) → Each IsBare (operators_in phyla ds)
bare_in phyla [] = tt
bare_in phyla (d ∷ ds) = each_append IsBare (operators_at phyla d) (operators_in phyla ds) (bare_at phyla d) (bare_in phyla ds)

bare_locals : (locals : ℕ → List Local) (k : ℕ) (ops : List Operator) → Each IsBare ops → Each IsBare (map_from (with_local locals) k ops)
bare_locals locals k [] h = tt
bare_locals locals k (o ∷ ops) h = (h.0, bare_locals locals (suc k) ops h.1)

pub names_bare : (ds : List Decl) → HasNoSchemes (names_of ds)
unfolding names_of text_names.names_of
names_bare ds = All-from_recursion IsBare _ (bare_locals _ 0 (operators_in (phyla_in ds) ds) (bare_in (phyla_in ds) ds))

-- What the names of declarations mean. A name that means nothing has the number past the last, so that the table stands
-- for all declarations; where no name is unknown, each number in it is in range.
use Rattle.std.specs.Prelude.{ℕ, suc, true, false, if◌then◌else◌, List, [], ◌∷◌, length, map, take, flat_map, fold, count_by, nat_eq, bytes_eq, codes, Option, Some, None, slice_get, option_map, option_and_then, unwrap_or}
use Rattle.std.specs.List.{position}
use Rattle.sg_kinds.specs.Values.{Bytes}
use Rattle.sg_kinds.specs.Specification.{truths, numbers, texts, phylum_of, is_leaf_shape}
use Rattle.sg_kinds.specs.declared.spec.Phylum.{Phylum}
use Rattle.sg_kinds.specs.declared.spec.Attr.{Attr}
use Rattle.sg_kinds.specs.declared.spec.Operator.{Operator}
use Rattle.sg_kinds.specs.declared.spec.Local.{Local}
use Rattle.sg_kinds.specs.declared.marks.Shape.{Shape}
use Rattle.sg_kinds.specs.declared.marks.Shape.TheVariants.{Truths, Numbers, Texts, Lexemes, Ordinary}
use Rattle.sg_kinds.specs.declared.marks.Shape.TheVariants as shape
use Rattle.sg_kinds.specs.declared.marks.Way.TheVariants.{Synthesized}
use Rattle.sg_ast.specs.declared.name.Name.{Name}
use Rattle.sg_ast.specs.declared.name.Typed.{Typed}
use Rattle.sg_ast.specs.declared.decl.Alt.{Alt}
use Rattle.sg_ast.specs.declared.decl.AttrDecl.{AttrDecl}
use Rattle.sg_ast.specs.Declarations.{Decl, Root, Listed, Optional, Operators, LexemeOf, Attributes, Equations, Function, Productions}
use Rattle.sg_ast.specs.FirstFault.{first}
use Rattle.sg_ast.specs.Parts.{op_places_at}
use Rattle.sg_names.specs.declared.heads.Head.{Head}
use Rattle.sg_names.specs.Heads.{with_head, number_in, numbers_in, head_of, base_heads}
use Rattle.sg_names.specs.declared.table.Signature.{Signature}
use Rattle.sg_names.specs.declared.table.Nonterminal.{Nonterminal}
use Rattle.sg_names.specs.declared.table.Table.{Table}

-- a list whose elements are made with their places
abbrev pub map_from : {A B : Type 0} → (ℕ → A → B) → ℕ → List A → List B
map_from f k [] = []
map_from f k (x ∷ xs) = f k x ∷ map_from f (suc k) xs

-- the things of an owner, in their order
abbrev pub owned : {A : Type 0} → List (ℕ × A) → ℕ → List A
owned pairs k = flat_map (λ x. if nat_eq x.0 k then x.1 ∷ [] else []) pairs

-- what a declaration defines: a phylum with operators, or by a lexeme's pattern; a nonterminal
abbrev pub phylum_defined : Decl → List Head
phylum_defined (Operators n alts) = head_of n false ∷ []
phylum_defined (LexemeOf n s) = head_of n true ∷ []
phylum_defined d = []

abbrev pub nonterminal_defined : Decl → List Head
nonterminal_defined (Productions n rights) = head_of n false ∷ []
nonterminal_defined d = []

abbrev pub phyla_in : List Decl → List Head
phyla_in ds = fold with_head base_heads (flat_map phylum_defined ds)

abbrev pub nonterminals_in : List Decl → List Head
nonterminals_in ds = fold with_head [] (flat_map nonterminal_defined ds)

-- the operators in the order of the text, as yet without locals
abbrev pub operator : List Head → Name → Alt → Operator
operator phyla n a = record {
  name = a.name.text;
  phylum = number_in phyla n.text;
  args = numbers_in phyla a.args;
  locals = [];
  schemes = [];
}

abbrev pub operators_at : List Head → Decl → List Operator
operators_at phyla (Operators n alts) = map (operator phyla n) alts
operators_at phyla d = []

abbrev pub operators_in : List Head → List Decl → List Operator
operators_in phyla ds = flat_map (operators_at phyla) ds

-- the first operator of a name; the same, if it is one of a phylum
abbrev pub op_named : List Operator → Bytes → Option ℕ
op_named ops n = position (λ (o : Operator). bytes_eq n o.name) ops

abbrev pub if_of : List Operator → ℕ → ℕ → Option ℕ
if_of ops p op = if unwrap_or (option_map (nat_eq p) (phylum_of ops op)) false then Some op else None

abbrev pub operator_of : List Operator → ℕ → Bytes → Option ℕ
operator_of ops p n = option_and_then (if_of ops p) (op_named ops n)

-- the locals, each with the number of its operator
abbrev pub local : List Head → ℕ → Typed → ℕ × Local
local phyla op t = (op, record { name = t.name.text; of = number_in phyla t.of.text })

abbrev pub locals_in : List Head → List Operator → Name → Name → List Typed → List (ℕ × Local)
locals_in phyla ops n op locals = map (local phyla (unwrap_or (operator_of ops (number_in phyla n.text) op.text)
    (length ops))) locals

abbrev pub locals_at : List Head → List Operator → Decl → List (ℕ × Local)
locals_at phyla ops (Equations n op locals es) = locals_in phyla ops n op locals
locals_at phyla ops d = []

abbrev pub with_local : (ℕ → List Local) → ℕ → Operator → Operator
with_local locals k o = record o { locals = locals k }

abbrev pub with_locals : (ℕ → List Local) → List Operator → List Operator
with_locals locals ops = map_from (with_local locals) 0 ops

-- the attributes of phyla or nonterminals, each with the number of its owner
abbrev pub attribute : List Head → ℕ → AttrDecl → ℕ × Attr
attribute phyla owner a =
    (owner, record { name = a.name.text; way = a.way; of = number_in phyla a.of.text; far = [] })

abbrev pub attributes_at : List Head → List Head → Decl → List (ℕ × Attr)
attributes_at owners phyla (Attributes n attrs) = map (attribute phyla (number_in owners n.text)) attrs
attributes_at owners phyla d = []

abbrev pub attributes_in : List Head → List Head → List Decl → List (ℕ × Attr)
attributes_in owners phyla ds = flat_map (attributes_at owners phyla) ds

-- what the declarations of lists and optional phyla say, each with the number of its phylum
abbrev pub listing_at : List Head → Decl → List (ℕ × Shape)
listing_at phyla (Listed n) = (number_in phyla n.text, shape.Listed) ∷ []
listing_at phyla (Optional listed n) =
    (number_in phyla n.text, if listed then shape.OptionalListed else shape.Optional) ∷ []
listing_at phyla d = []

-- the shape of a phylum: of the base phyla their own, of a lexeme phylum its place among these, else what the first
-- listing says
abbrev pub shape_of : ℕ → List Shape → ℕ → Head → Shape
shape_of lexemes listings k h =
    if h.lexical then Lexemes lexemes
    else if nat_eq k truths then Truths
    else if nat_eq k numbers then Numbers
    else if nat_eq k texts then Texts
    else unwrap_or (slice_get listings 0) Ordinary

-- the attribute of a leaf
abbrev pub value_attr : ℕ → Attr
value_attr k = record { name = codes "value"; way = Synthesized; of = k; far = [] }

abbrev pub attrs_there : List Attr → ℕ → Shape → List Attr
attrs_there attrs k shape = if is_leaf_shape shape then value_attr k ∷ [] else attrs

-- the operators with their phyla
abbrev pub owners : List Operator → List (ℕ × ℕ)
owners ops = map_from (λ op (o : Operator). (o.phylum, op)) 0 ops

-- a phylum with so many lexeme phyla before it, from what its number owns
abbrev pub phylum_as : ℕ → List Shape → List ℕ → List Attr → ℕ → Head → Phylum
phylum_as lexemes listings ops attrs k h = record {
  name = h.name;
  shape = shape_of lexemes listings k h;
  ops = ops;
  attrs = attrs_there attrs k (shape_of lexemes listings k h);
}

abbrev pub lexemes_before : List Head → ℕ → ℕ
lexemes_before phyla k = count_by (λ (h : Head). h.lexical) (take k phyla)

abbrev pub phylum : List Head → (ℕ → List Shape) → (ℕ → List ℕ) → (ℕ → List Attr) → ℕ → Head → Phylum
phylum phyla listings ops attrs k h = phylum_as (lexemes_before phyla k) (listings k) (ops k) (attrs k) k h

abbrev pub signature : List Head → Name → Name → List Typed → Signature
signature phyla t n params = record {
  name = n.text;
  params = map (λ (p : Typed). number_in phyla p.of.text) params;
  result = number_in phyla t.text;
}

abbrev pub function_at : List Head → Decl → List Signature
function_at phyla (Function t n params e) = signature phyla t n params ∷ []
function_at phyla d = []

abbrev pub nonterminal_as : List Attr → Head → Nonterminal
nonterminal_as attrs h = record { name = h.name; place = h.place; attrs = attrs }

abbrev pub nonterminal : (ℕ → List Attr) → ℕ → Head → Nonterminal
nonterminal attrs k h = nonterminal_as (attrs k) h

abbrev pub root_at : List Head → Decl → Option ℕ
root_at phyla (Root n) = Some (number_in phyla n.text)
root_at phyla d = None

-- what each phylum, nonterminal or operator owns by the declarations
abbrev pub listings_of : List Head → List Decl → ℕ → List Shape
listings_of phyla ds = owned (flat_map (listing_at phyla) ds)

abbrev pub attributes_of : List Head → List Head → List Decl → ℕ → List Attr
attributes_of owners phyla ds = owned (attributes_in owners phyla ds)

abbrev pub locals_of : List Head → List Operator → List Decl → ℕ → List Local
locals_of phyla ops ds = owned (flat_map (locals_at phyla ops) ds)

-- the table, from the first definitions and the operators without locals
abbrev pub table_from : List Head → List Head → List Operator → List Decl → Table
table_from phyla nonterminals ops ds = record {
  phyla = map_from (phylum phyla (listings_of phyla ds) (owned (owners ops)) (attributes_of phyla phyla ds)) 0 phyla;
  ops = with_locals (locals_of phyla ops ds) ops;
  functions = flat_map (function_at phyla) ds;
  nonterminals = map_from (nonterminal (attributes_of nonterminals phyla ds)) 0 nonterminals;
  root = unwrap_or (first (root_at phyla) ds) 0;
  phylum_places = map (λ (h : Head). h.place) phyla;
  op_places = flat_map op_places_at ds;
}

-- what the names of the declarations mean
unfoldable pub names_of : List Decl → Table
names_of ds = table_from (phyla_in ds) (nonterminals_in ds) (operators_in (phyla_in ds) ds) ds

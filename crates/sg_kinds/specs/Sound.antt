-- When a specification is sound: its numbers are in range, and it has none of the static faults that its record can
-- show.
use Rattle.std.specs.Prelude.{filter, flat_map, ◌≡◌, ◌≢◌, ◌↔◌, ◌⊎◌, ℕ, zero, suc, ◌<◌, ◌≤◌, Bool, true, false, cond, not, ◌&&◌, ◌^◌, List, [], ◌∷◌, ◌++◌, map, take, length, nat_eq, nat_lt, count_by, find, All, AllPairs, Contains, Option, Some, None, slice_get, option_map, option_and_then, unwrap_or, is_some, IsTrue, MatchOption, ⊤}
use Rattle.sg_kinds.specs.Terms.{Term, nodes_of, height_of}
use Rattle.sg_kinds.specs.Specification.{Bytes, Spec, Phylum, Shape, Attr, Operator, Local, Scheme, Item, Rule, Function, Transform, Production, Symbol, Entry, LevelLine, truths, numbers, texts, args_of, phylum_of, has_shape, is_lexical_shape, is_list_shape, is_leaf_shape, rules_of}
use Rattle.sg_kinds.specs.Matches.{Matches}
use Rattle.sg_kinds.specs.Completing.{completing_within}
use Rattle.sg_kinds.specs.Placeholder.{placeholder_within}
use Rattle.sg_kinds.specs.Dependencies.{is_inherited_there}
use Rattle.sg_kinds.specs.Instances.{defines, below}
use Rattle.sg_kinds.specs.Far.{is_far, is_written, HasFar}
use Rattle.sg_kinds.specs.InView.{schemes_in_view}
use Rattle.sg_kinds.specs.Typing.{bound_types, is_accepted, is_usable, slot_type, types_at, is_typed}
use Rattle.sg_kinds.specs.declared.marks.Shape.TheVariants.{Truths, Numbers, Texts, Lexemes, Ordinary, Optional, Listed, OptionalListed}
use Rattle.sg_kinds.specs.declared.marks.Way.TheVariants.{Synthesized}
use Rattle.sg_kinds.specs.declared.spec.Item.TheVariants.{Child, Shows, Separates}
use Rattle.sg_kinds.specs.declared.spec.Symbol.TheVariants.{Quoted, Lexical, Nonterminal}

-- the limits on counts; BOOL, INT and STR are not counted
pub record AreCounted (spec : Spec) : Type 0 where
  pub phyla : length spec.phyla ≤ 515
  pub ops : length spec.ops ≤ 2048
  pub args : All (λ (o : Operator). length o.args ≤ 16) spec.ops
  pub attrs : All (λ (x : Phylum). (count_by is_written x.attrs ≤ 32) × (count_by is_far x.attrs ≤ 1048576)) spec.phyla
  pub locals : All (λ (o : Operator). length o.locals ≤ 32) spec.ops
  pub functions : length spec.functions ≤ 1024
  pub params : All (λ (f : Function). length f.params ≤ 16) spec.functions
  pub transforms : length spec.transforms ≤ 1024
  pub schemes : All (λ (o : Operator). length o.schemes ≤ 16) spec.ops
  pub productions : length spec.productions ≤ 1024
  pub symbols : All (λ (r : Production). length r.right ≤ 16) spec.productions
  pub rules : length spec.rules < 2 ^ 32
  pub views : length spec.views.names ≤ 16
  pub rows : All (λ (row : List (List Scheme)). All (λ (ss : List Scheme). length ss ≤ 16) row) spec.views.rows

-- the first three phyla are the base phyla, and no other is one
abbrev pub is_base_at : ℕ → Shape → Bool
is_base_at k Truths = nat_eq k truths
is_base_at k Numbers = nat_eq k numbers
is_base_at k Texts = nat_eq k texts
is_base_at k shape = nat_lt texts k

-- the bytes of `value`
abbrev pub value_name : Bytes
value_name = 118 ∷ 97 ∷ 108 ∷ 117 ∷ 101 ∷ []

-- a leaf's phylum has no operators and the one attribute `value`, of itself
abbrev pub IsValue : ℕ → List Attr → Type 0
IsValue p (a ∷ []) = (a ≡ record { name = value_name; way = Synthesized; of = p; far = [] })
IsValue p attrs = ⊥

abbrev pub args_count : Spec → Option ℕ → Option ℕ
args_count spec op = option_map (λ k. length (args_of spec.ops k)) op

-- the element and the list's own phylum, as the arguments of a list's binary operator
abbrev pub IsPair : ℕ → List ℕ → Type 0
IsPair p (e ∷ q ∷ []) = (e ≢ p) × (q ≡ p)
IsPair p args = ⊥

abbrev pub IsList : Spec → ℕ → List ℕ → Type 0
IsList spec p (nil ∷ pair ∷ []) = (args_of spec.ops nil ≡ []) × IsPair p (args_of spec.ops pair)
IsList spec p ops = ⊥

abbrev pub IsShaped : Spec → ℕ → Phylum → Shape → Type 0
IsShaped spec p x Ordinary = 1 ≤ length x.ops
IsShaped spec p x Optional = (2 ≤ length x.ops) × (args_count spec (slice_get x.ops 0) ≡ Some 0)
IsShaped spec p x Listed = IsList spec p x.ops
IsShaped spec p x OptionalListed = IsList spec p x.ops
IsShaped spec p x shape = (x.ops ≡ []) × IsValue p x.attrs

-- the operators of a phylum, in source order
abbrev pub is_operator_of : Spec → ℕ → ℕ → Bool
is_operator_of spec p op = unwrap_or (option_map (nat_eq p) (phylum_of spec.ops op)) false

abbrev pub operators_of : Spec → ℕ → List ℕ
operators_of spec p = filter (is_operator_of spec p) (below (length spec.ops))

pub record IsPhylum (spec : Spec) (p : ℕ) (x : Phylum) : Type 0 where
  pub base : IsTrue (is_base_at p x.shape)
  pub shape : IsShaped spec p x x.shape
  pub ops : x.ops ≡ operators_of spec p
  pub types : All (λ (a : Attr). (a.of ≡ p) ⊎ IsTrue (is_usable spec a.of)) x.attrs

-- each phylum's completing term and placeholder are in the limits of a buffer's term
abbrev pub IsSmall : Term → Type 0
IsSmall t = (nodes_of t ≤ 65536) × (height_of t ≤ 1024)

abbrev pub IsFinite : Spec → ℕ → Type 0
IsFinite spec p = MatchOption (completing_within spec 1024 p) ⊥ IsSmall
    × MatchOption (placeholder_within spec 1023 p) ⊥ IsSmall

-- the place of a lexeme phylum's pattern
abbrev pub lexeme_place : Shape → List ℕ
lexeme_place (Lexemes l) = l ∷ []
lexeme_place shape = []

pub record HasShapes (spec : Spec) : Type 0 where
  pub phyla : (p : ℕ) (x : Phylum) → slice_get spec.phyla p ≡ Some x → IsPhylum spec p x
  pub ops : All (λ (o : Operator). o.phylum < length spec.phyla) spec.ops
  pub args : All (λ (o : Operator). All (λ p. IsTrue (is_usable spec p)) o.args) spec.ops
  pub locals : All (λ (o : Operator). All (λ (l : Local). IsTrue (is_usable spec l.of)) o.locals) spec.ops
  pub root : MatchOption (slice_get spec.phyla spec.root) ⊥ (λ x. (1 ≤ length x.ops)
      × All (λ (a : Attr). a.way ≡ Synthesized) x.attrs)
  pub lexemes : flat_map (λ (x : Phylum). lexeme_place x.shape) spec.phyla ≡ below (length spec.lexemes)
  pub finite : (p : ℕ) → p < length spec.phyla → IsFinite spec p

-- BOOL, INT, STR; STRtoINT, INTtoSTR, STRlen
abbrev pub base_names : List Bytes
base_names = (66 ∷ 79 ∷ 79 ∷ 76 ∷ []) ∷ (73 ∷ 78 ∷ 84 ∷ []) ∷ (83 ∷ 84 ∷ 82 ∷ []) ∷ []

abbrev pub builtin_names : List Bytes
builtin_names = (83 ∷ 84 ∷ 82 ∷ 116 ∷ 111 ∷ 73 ∷ 78 ∷ 84 ∷ []) ∷ (73 ∷ 78 ∷ 84 ∷ 116 ∷ 111 ∷ 83 ∷ 84 ∷ 82 ∷ [])
    ∷ (83 ∷ 84 ∷ 82 ∷ 108 ∷ 101 ∷ 110 ∷ []) ∷ []

-- no name stands twice
abbrev pub AreDistinct : List Bytes → Type 0
AreDistinct names = AllPairs ◌≢◌ names

-- a nonterminal's name is no phylum's, and tells its number
abbrev pub IsNamed : Spec → Production → Type 0
IsNamed spec r = All (λ (x : Phylum). x.name ≢ r.name) spec.phyla
    × All (λ (s : Production). (s.name ≡ r.name) ↔ (s.left ≡ r.left)) spec.productions

-- nonterminals are numbered by their first production
abbrev pub IsNumbered : List Production → Type 0
IsNumbered productions = (n : ℕ) (r : Production) → slice_get productions n ≡ Some r → (k : ℕ) → k < r.left
    → Contains (map (λ (s : Production). s.left) (take n productions)) k

pub record HasNames (spec : Spec) : Type 0 where
  pub base : map (λ (x : Phylum). x.name) (take 3 spec.phyla) ≡ base_names
  pub phyla : AreDistinct (map (λ (x : Phylum). x.name) spec.phyla)
  pub nonterminals : All (IsNamed spec) spec.productions
  pub numbered : IsNumbered spec.productions
  pub callables : AreDistinct (map (λ (o : Operator). o.name) spec.ops
      ++ (map (λ (f : Function). f.name) spec.functions ++ builtin_names))
  pub attrs : All (λ (x : Phylum). AreDistinct (map (λ (a : Attr). a.name) (filter is_written x.attrs))) spec.phyla
  pub locals : All (λ (o : Operator). AreDistinct (map (λ (l : Local). l.name) o.locals)) spec.ops
  pub views : AreDistinct spec.views.names

-- whether an operator's equations define an occurrence: a synthesized attribute or local of the left side, an
-- inherited one of an argument
abbrev pub is_owed : Spec → ℕ → ℕ → ℕ → Bool
is_owed spec op zero slot = is_some (slot_type spec op 0 slot) && not (is_inherited_there (rules_of spec) op 0 slot)
is_owed spec op (suc k) slot = is_inherited_there (rules_of spec) op (suc k) slot

-- whether an equation is well typed
abbrev pub is_rule_typed : Spec → Rule → Bool
is_rule_typed spec r = unwrap_or (option_and_then (λ p. option_map (λ G. is_typed spec G r.expr p)
    (types_at spec r.op r.args)) (slot_type spec r.op r.target.at r.target.slot)) false

-- what an operator's equations are to define has exactly one, and there is no other equation
pub record HasRules (spec : Spec) : Type 0 where
  pub one_each : (op k slot : ℕ) → op < length spec.ops → IsTrue (is_owed spec op k slot)
      → count_by (defines op (record { at = k; slot = slot })) spec.rules ≡ 1
  pub no_other : All (λ (r : Rule). IsTrue (is_owed spec r.op r.target.at r.target.slot)) spec.rules
  pub typed : All (λ (r : Rule). IsTrue (is_rule_typed spec r)) spec.rules

-- the type of a nonterminal's result
abbrev pub result_type : Spec → ℕ → Option ℕ
result_type spec n = option_map (λ (r : Production). r.of) (find (λ (r : Production). nat_eq r.left n) spec.productions)

-- the types of an input production's bindings; none where a symbol is not there
abbrev pub symbol_type : Spec → Symbol → Option (List ℕ)
symbol_type spec (Quoted s) = Some []
symbol_type spec (Lexical p) = cond (has_shape spec.phyla is_lexical_shape p && is_usable spec p) (Some (p ∷ [])) None
symbol_type spec (Nonterminal n) = option_map (λ p. p ∷ []) (result_type spec n)

abbrev pub symbol_types : Spec → List Symbol → Option (List ℕ)
symbol_types spec [] = Some []
symbol_types spec (X ∷ Xs) = option_and_then (λ ps. option_map (λ qs. ps ++ qs) (symbol_types spec Xs))
    (symbol_type spec X)

-- functions, transformations and input productions are well typed
pub record IsTyped (spec : Spec) : Type 0 where
  pub functions : All (λ (f : Function). IsTrue (is_typed spec f.params f.body f.result)) spec.functions
  pub params : All (λ (f : Function). All (λ p. IsTrue (is_usable spec p)) (f.result ∷ f.params)) spec.functions
  pub transforms : All (λ (x : Transform). MatchOption (bound_types spec x.pattern x.phylum) ⊥
      (λ G. IsTrue (is_typed spec G x.expr x.phylum))) spec.transforms
  pub phyla : All (λ (x : Transform). IsTrue (is_usable spec x.phylum)) spec.transforms
  pub productions : All (λ (r : Production). MatchOption (symbol_types spec r.right) ⊥
      (λ G. IsTrue (is_typed spec G r.expr r.of))) spec.productions
  pub results : All (λ (r : Production). (result_type spec r.left ≡ Some r.of)
      × IsTrue (is_usable spec r.of)) spec.productions

-- a shown phylum: the root, or an argument phylum of an operator of a shown phylum
pub data IsShown (spec : Spec) : ℕ → Type 0 where
  root : IsShown spec spec.root
  argument : (op p q : ℕ) → phylum_of spec.ops op ≡ Some p → IsShown spec p → Contains (args_of spec.ops op) q
      → IsShown spec q

-- how many places a scheme has
abbrev pub is_place : Item → Bool
is_place (Child how) = true
is_place item = false

-- at most one separator, in a list's binary operator, between its two places
abbrev pub separators_fit : Bool → ℕ → List Item → Bool
separators_fit may places [] = true
separators_fit may places (Child how ∷ items) = separators_fit may (suc places) items
separators_fit may places (Separates s ∷ items) = may && (nat_eq places 1 && separators_fit false places items)
separators_fit may places (item ∷ items) = separators_fit may places items

abbrev pub is_pair : Spec → ℕ → Bool
is_pair spec op = unwrap_or (option_map (λ p. has_shape spec.phyla is_list_shape p
    && nat_eq (length (args_of spec.ops op)) 2) (phylum_of spec.ops op)) false

-- BOOL, INT, STR and the lexeme phyla can be shown
abbrev pub IsItem : Spec → ℕ → Item → Type 0
IsItem spec op (Shows o) = MatchOption (slot_type spec op o.at o.slot) ⊥
    (λ p. IsTrue (has_shape spec.phyla is_leaf_shape p))
IsItem spec op item = ⊤

pub record IsScheme (spec : Spec) (op : ℕ) (s : Scheme) : Type 0 where
  pub places : count_by is_place s.items ≡ length (args_of spec.ops op)
  pub separators : IsTrue (separators_fit (is_pair spec op) 0 s.items)
  pub shown : All (IsItem spec op) s.items

pub record HasSchemes (spec : Spec) : Type 0 where
  pub shown : (op : ℕ) (o : Operator) → slice_get spec.ops op ≡ Some o → IsShown spec o.phylum → 1 ≤ length o.schemes
  pub schemes : (op : ℕ) (o : Operator) → slice_get spec.ops op ≡ Some o → All (IsScheme spec op) o.schemes
  pub views : (v op : ℕ) → op < length spec.ops → All (IsScheme spec op) (schemes_in_view spec.views v op)

-- no lexeme pattern matches the empty text
abbrev pub HasLexemes : Spec → Type 0
HasLexemes spec = All (λ p. Matches p [] → ⊥) spec.lexemes

-- no phylum has two entries, and each entry's result is accepted where its phylum is wanted
pub record HasEntries (spec : Spec) : Type 0 where
  pub once : AllPairs (λ (x y : Entry). x.phylum ≢ y.phylum) spec.entries
  pub usable : All (λ (x : Entry). IsTrue (is_usable spec x.phylum)) spec.entries
  pub results : All (λ (x : Entry). MatchOption (result_type spec x.nonterminal) ⊥
      (λ p. IsTrue (is_accepted spec p x.phylum))) spec.entries

-- no literal stands twice in the precedence lines
abbrev pub HasLevels : Spec → Type 0
HasLevels spec = AreDistinct (flat_map (λ (l : LevelLine). l.literals) spec.levels)

pub record IsSound (spec : Spec) : Type 0 where
  pub counted : AreCounted spec
  pub names : HasNames spec
  pub shapes : HasShapes spec
  pub rules : HasRules spec
  pub typed : IsTyped spec
  pub schemes : HasSchemes spec
  pub lexemes : HasLexemes spec
  pub entries : HasEntries spec
  pub levels : HasLevels spec
  pub far : HasFar spec

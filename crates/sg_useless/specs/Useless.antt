-- What of a record nothing uses, and what its texts miss.
use Rattle.std.specs.Prelude.{ℕ, ◌+◌, Bool, true, false, ◌&&◌, ◌||◌, not, max, List, [], ◌∷◌, ◌++◌, map, filter, flat_map, length, nat_eq, nat_lt, bytes_eq, slice_get, option_map, unwrap_or, if◌then◌else◌}
use Rattle.std.specs.List.{list_any}
use Rattle.sg_kinds.specs.Values.{Bytes}
use Rattle.sg_kinds.specs.Specification.{is_leaf_shape}
use Rattle.sg_kinds.specs.declared.spec.Spec.{Spec}
use Rattle.sg_kinds.specs.declared.spec.Phylum.{Phylum}
use Rattle.sg_kinds.specs.declared.spec.Attr.{Attr}
use Rattle.sg_kinds.specs.declared.spec.Operator.{Operator}
use Rattle.sg_kinds.specs.declared.spec.Scheme.{Scheme}
use Rattle.sg_kinds.specs.declared.spec.Production.{Production}
use Rattle.sg_kinds.specs.declared.spec.Symbol.{Symbol}
use Rattle.sg_kinds.specs.declared.spec.Entry.{Entry}
use Rattle.sg_kinds.specs.declared.spec.LevelLine.{LevelLine}
use Rattle.sg_kinds.specs.Instances.{below}
use Rattle.sg_kinds.specs.Far.{is_written}
use Rattle.sg_kinds.specs.declared.spec.Symbol.TheVariants.{Nonterminal}
use Rattle.sg_prec.specs.Precedence.{literal_between}
use Rattle.sg_useless.specs.Parts.{Part, is_among}
use Rattle.sg_useless.specs.Reach.{Step, is_reached}
use Rattle.sg_useless.specs.Uses.{numbered, is_shown, view_schemes, uses_of}
use Rattle.sg_useless.specs.declared.part.Part.TheVariants as part

-- functions, written attributes of phyla with operators, locals, and the phyla behind the base phyla
abbrev pub attr_parts : ℕ → ℕ → Attr → List Part
attr_parts p slot a = if is_written a then part.Attribute p slot ∷ [] else []

abbrev pub attrs_in : ℕ → Phylum → List Part
attrs_in p x = if is_leaf_shape x.shape then [] else numbered (attr_parts p) 0 x.attrs

abbrev pub locals_in : ℕ → Operator → List Part
locals_in op o = map (part.Local op) (below (length o.locals))

abbrev pub phylum_parts : ℕ → Phylum → List Part
phylum_parts p x = if nat_lt p 3 then [] else part.Phylum p ∷ []

abbrev pub parts_of : Spec → List Part
parts_of spec =
    map part.Function (below (length spec.functions))
    ++ (numbered attrs_in 0 spec.phyla
    ++ (numbered locals_in 0 spec.ops
    ++ numbered phylum_parts 0 spec.phyla))

abbrev pub unused_parts : List Part → List Part → List Part
unused_parts uses parts = filter (λ x. not (is_among uses x)) parts

-- the nonterminals to which no entry leads
abbrev pub nonterminal_steps : ℕ → Symbol → List Step
nonterminal_steps n (Nonterminal m) = record { from = n; to = m } ∷ []
nonterminal_steps n X = []

abbrev pub production_steps : Production → List Step
production_steps r = flat_map (nonterminal_steps r.left) r.right

-- one more than the greatest left side
abbrev pub nonterminals : List Production → ℕ
nonterminals [] = 0
nonterminals (r ∷ rs) = max (r.left + 1) (nonterminals rs)

abbrev pub is_entered : Spec → ℕ → Bool
is_entered spec n = let count = nonterminals spec.productions in
    is_reached count (map (λ (e : Entry). e.nonterminal) spec.entries) (flat_map production_steps spec.productions) count n

abbrev pub unentered_parts : (ℕ → Bool) → ℕ → List Part
unentered_parts entered n = if entered n then [] else part.Nonterminal n ∷ []

abbrev pub unentered : Spec → List Part
unentered spec = flat_map (unentered_parts (is_entered spec)) (below (nonterminals spec.productions))

-- operators with schemes, of which no document has one
abbrev pub is_some_scheme : List Scheme → Bool
is_some_scheme [] = false
is_some_scheme (s ∷ ss) = true

abbrev pub has_view_schemes : Spec → ℕ → Bool
has_view_schemes spec op = list_any (λ row. is_some_scheme (view_schemes op row)) spec.views.rows

abbrev pub has_schemes : Spec → ℕ → Operator → Bool
has_schemes spec op o = is_some_scheme o.schemes || has_view_schemes spec op

abbrev pub unseen_parts : Spec → (ℕ → Bool) → ℕ → Operator → List Part
unseen_parts spec shown op o = if has_schemes spec op o && not (shown o.phylum) then part.Schemes op ∷ [] else []

abbrev pub unseen : Spec → List Part
unseen spec = numbered (unseen_parts spec (is_shown spec)) 0 spec.ops

-- phyla without an entry, of which a selection may rest at a node that is edited as text
abbrev pub is_typed_in : Bool → List Scheme → Bool
is_typed_in is_root schemes = list_any (λ (s : Scheme). s.editable && (s.rests || is_root)) schemes

abbrev pub is_typed_ordinarily : Spec → Bool → ℕ → Bool
is_typed_ordinarily spec is_root op =
    unwrap_or (option_map (λ (o : Operator). is_typed_in is_root o.schemes) (slice_get spec.ops op)) false

abbrev pub is_typed_in_views : Spec → Bool → ℕ → Bool
is_typed_in_views spec is_root op = list_any (λ row. is_typed_in is_root (view_schemes op row)) spec.views.rows

abbrev pub is_typed_operator : Spec → Bool → ℕ → Bool
is_typed_operator spec is_root op = is_typed_ordinarily spec is_root op || is_typed_in_views spec is_root op

unfoldable pub is_typed_by_any : Spec → Bool → List ℕ → Bool
is_typed_by_any spec is_root ops = list_any (is_typed_operator spec is_root) ops

abbrev pub is_typed_phylum : Spec → ℕ → Phylum → Bool
is_typed_phylum spec p x = is_leaf_shape x.shape || is_typed_by_any spec (nat_eq p spec.root) x.ops

abbrev pub has_entry : Spec → ℕ → Bool
has_entry spec p = list_any (λ (e : Entry). nat_eq e.phylum p) spec.entries

abbrev pub lacks_entry : Spec → List Part → ℕ → Phylum → Bool
lacks_entry spec uses p x = is_typed_phylum spec p x && (is_among uses (part.Entry p) && not (has_entry spec p))

abbrev pub entry_parts : Spec → List Part → ℕ → Phylum → List Part
entry_parts spec uses p x = if lacks_entry spec uses p x then part.Entry p ∷ [] else []

-- literals of precedence lines that no production has between two times its own nonterminal
abbrev pub stands_between : Bytes → Production → Bool
stands_between s r = unwrap_or (option_map (λ t. bytes_eq t s) (literal_between r.left r.right)) false

abbrev pub groups : List Production → Bytes → Bool
groups productions s = list_any (stands_between s) productions

abbrev pub literal_parts : List Production → ℕ → ℕ → Bytes → List Part
literal_parts productions line k s = if groups productions s then [] else part.Literal line k ∷ []

abbrev pub line_parts : List Production → ℕ → LevelLine → List Part
line_parts productions line l = numbered (literal_parts productions line) 0 l.literals

-- what nothing uses, and what texts miss
abbrev pub useless_in : Spec → List Part
useless_in spec =
    let uses = uses_of spec in
    unused_parts uses (parts_of spec)
    ++ (unentered spec
    ++ (unseen spec
    ++ (numbered (entry_parts spec uses) 0 spec.phyla
    ++ numbered (line_parts spec.productions) 0 spec.levels)))

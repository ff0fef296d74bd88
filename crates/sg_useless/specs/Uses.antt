-- What the parts of a record use.
use Rattle.std.specs.Prelude.{ℕ, ◌+◌, ◌-◌, Bool, ◌&&◌, not, List, [], ◌∷◌, ◌++◌, map, flat_map, length, nat_eq, nat_lt, bytes_eq, Option, Some, None, slice_get, option_map, unwrap_or, if◌then◌else◌}
use Rattle.sg_kinds.specs.Specification.{attrs_of, is_lexical_shape}
use Rattle.sg_kinds.specs.declared.spec.Spec.{Spec}
use Rattle.sg_kinds.specs.declared.spec.Phylum.{Phylum}
use Rattle.sg_kinds.specs.declared.spec.Attr.{Attr}
use Rattle.sg_kinds.specs.declared.spec.Operator.{Operator}
use Rattle.sg_kinds.specs.declared.spec.Local.{Local}
use Rattle.sg_kinds.specs.declared.spec.Scheme.{Scheme}
use Rattle.sg_kinds.specs.declared.spec.Item.{Item}
use Rattle.sg_kinds.specs.declared.spec.Occurrence.{Occurrence}
use Rattle.sg_kinds.specs.declared.spec.Rule.{Rule}
use Rattle.sg_kinds.specs.declared.spec.Function.{Function}
use Rattle.sg_kinds.specs.declared.spec.Transform.{Transform}
use Rattle.sg_kinds.specs.declared.spec.Production.{Production}
use Rattle.sg_kinds.specs.declared.spec.Symbol.{Symbol}
use Rattle.sg_kinds.specs.declared.spec.Entry.{Entry}
use Rattle.sg_kinds.specs.Dependencies.{phylum_there}
use Rattle.sg_kinds.specs.Sound.{is_pair}
use Rattle.sg_kinds.specs.Typing.{whitespace}
use Rattle.sg_kinds.specs.declared.marks.ChildPlace.{ChildPlace}
use Rattle.sg_kinds.specs.declared.marks.ChildPlace.TheVariants.{Resting}
use Rattle.sg_kinds.specs.declared.spec.Item.TheVariants.{Child, Shows}
use Rattle.sg_kinds.specs.declared.spec.Symbol.TheVariants.{Lexical}
use Rattle.sg_useless.specs.Parts.{Part}
use Rattle.sg_useless.specs.Named.{named_in}
use Rattle.sg_useless.specs.Reach.{Step, is_reached}
use Rattle.sg_useless.specs.declared.part.Part.TheVariants as part

-- what each element of a list gives by its number
abbrev pub numbered : {A B : Type 0} → (ℕ → A → List B) → ℕ → List A → List B
numbered f k [] = []
numbered f k (x ∷ xs) = f k x ++ numbered f (k + 1) xs

-- the attribute or local of an operator that an occurrence is
abbrev pub slot_at : List Phylum → ℕ → ℕ → ℕ → Part
slot_at phyla op slot p =
    let count = length (attrs_of phyla p) in
    if nat_lt slot count then part.Attribute p slot else part.Local op (slot - count)

abbrev pub occurring : Spec → ℕ → Occurrence → List Part
occurring spec op o = unwrap_or (option_map (λ p. slot_at spec.phyla op o.slot p ∷ []) (phylum_there spec.ops op o.at)) []

-- what an expression of the record uses, as the body of a function or in another place
abbrev pub named_at : Spec → Option ℕ → ℕ → List Part
named_at spec own e = unwrap_or (option_map (named_in spec.ops own) (slice_get spec.exprs e)) []

-- what equations, functions, transformations and input productions use
abbrev pub rule_uses : Spec → Rule → List Part
rule_uses spec r = named_at spec None r.expr ++ flat_map (occurring spec r.op) r.args

abbrev pub function_uses : Spec → ℕ → Function → List Part
function_uses spec k f = named_at spec (Some k) f.body ++ (part.Phylum f.result ∷ map part.Phylum f.params)

abbrev pub transform_uses : Spec → Transform → List Part
transform_uses spec t = named_at spec None t.expr

abbrev pub symbol_uses : Symbol → List Part
symbol_uses (Lexical p) = part.Phylum p ∷ []
symbol_uses X = []

abbrev pub production_uses : Spec → Production → List Part
production_uses spec r = named_at spec None r.expr ++ flat_map symbol_uses r.right

unfoldable pub expression_uses : Spec → List Part
expression_uses spec =
    flat_map (rule_uses spec) spec.rules
    ++ (numbered (function_uses spec) 0 spec.functions
    ++ (flat_map (transform_uses spec) spec.transforms
    ++ flat_map (production_uses spec) spec.productions))

-- the phyla that stand in a document: what is reached from the root along the arguments of operators
abbrev pub argument_step : ℕ → ℕ → Step
argument_step p q = record { from = p; to = q }

abbrev pub argument_steps : Spec → List Step
argument_steps spec = flat_map (λ (o : Operator). map (argument_step o.phylum) o.args) spec.ops

abbrev pub is_shown : Spec → ℕ → Bool
is_shown spec p = let n = length spec.phyla in is_reached n (spec.root ∷ []) (argument_steps spec) n p

-- where a selection may rest, an entry of the phylum is of use: at a place `@` of an operator of a document, but for the
-- rest of a list
abbrev pub entry_at : Operator → ℕ → List Part
entry_at o k = unwrap_or (option_map (λ p. part.Entry p ∷ []) (slice_get o.args k)) []

abbrev pub place_uses : Operator → Bool → Bool → ℕ → ChildPlace → List Part
place_uses o is_seen pair k Resting = if is_seen && not (pair && nat_eq k 1) then entry_at o k else []
place_uses o is_seen pair k how = []

abbrev pub item_uses : Spec → ℕ → Operator → Bool → ℕ → List Item → List Part
item_uses spec op o is_seen k [] = []
item_uses spec op o is_seen k (Child how ∷ items) = place_uses o is_seen (is_pair spec op) k how ++ item_uses spec op o is_seen (k + 1) items
item_uses spec op o is_seen k (Shows at ∷ items) = occurring spec op at ++ item_uses spec op o is_seen k items
item_uses spec op o is_seen k (item ∷ items) = item_uses spec op o is_seen k items

abbrev pub scheme_uses : Spec → ℕ → Operator → Bool → List Scheme → List Part
scheme_uses spec op o is_seen schemes = flat_map (λ (s : Scheme). item_uses spec op o is_seen 0 s.items) schemes

-- the schemes that an operator has in one of the further views
abbrev pub view_schemes : ℕ → List (List Scheme) → List Scheme
view_schemes op row = unwrap_or (slice_get row op) []

unfoldable pub all_scheme_uses : Spec → Bool → ℕ → Operator → List Part
all_scheme_uses spec is_seen op o = scheme_uses spec op o is_seen o.schemes
    ++ flat_map (λ row. scheme_uses spec op o is_seen (view_schemes op row)) spec.views.rows

-- a phylum is used by another one
abbrev pub other : ℕ → ℕ → List Part
other own p = if nat_eq p own then [] else part.Phylum p ∷ []

-- what operators use: the phyla of arguments and locals, and what schemes of all views show
abbrev pub operator_uses : Spec → (ℕ → Bool) → ℕ → Operator → List Part
operator_uses spec shown op o =
    flat_map (other o.phylum) o.args
    ++ (flat_map (λ (l : Local). other o.phylum l.of) o.locals
    ++ all_scheme_uses spec (shown o.phylum) op o)

-- what phyla use: the types of attributes; a lexeme of the name WHITESPACE is used by itself
abbrev pub is_whitespace : Phylum → Bool
is_whitespace x = is_lexical_shape x.shape && bytes_eq x.name whitespace

abbrev pub phylum_uses : ℕ → Phylum → List Part
phylum_uses p x =
    (if is_whitespace x then part.Phylum p ∷ [] else [])
    ++ flat_map (λ (a : Attr). other p a.of) x.attrs

abbrev pub entry_uses : Entry → List Part
entry_uses e = part.Phylum e.phylum ∷ []

unfoldable pub all_operator_uses : Spec → List Part
all_operator_uses spec = numbered (operator_uses spec (is_shown spec)) 0 spec.ops

-- the root's phylum is used, and an entry for it is of use
abbrev pub root_uses : Spec → List Part
root_uses spec = part.Phylum spec.root ∷ part.Entry spec.root ∷ []

-- what is used
abbrev pub uses_of : Spec → List Part
uses_of spec =
    root_uses spec
    ++ (expression_uses spec
    ++ (all_operator_uses spec
    ++ (numbered phylum_uses 0 spec.phyla
    ++ flat_map entry_uses spec.entries)))

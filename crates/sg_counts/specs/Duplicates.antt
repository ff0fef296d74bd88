-- The first second definition where there may be one.
use Rattle.std.specs.Prelude.{List, [], ◌∷◌, ◌++◌, map, flat_map, Option, option_map, option_and_then, slice_get}
use Rattle.sg_kinds.specs.Values.{Bytes}
use Rattle.sg_kinds.specs.Sound.{base_names, builtin_names}
use Rattle.sg_kinds.specs.declared.fault.SpecFault.{SpecFault}
use Rattle.sg_kinds.specs.declared.fault.SpecFault.TheVariants as fault
use Rattle.sg_kinds.specs.declared.fault.Position.{Position}
use Rattle.sg_ast.specs.declared.name.Name.{Name}
use Rattle.sg_ast.specs.declared.name.Quoted.{Quoted}
use Rattle.sg_ast.specs.declared.name.Typed.{Typed}
use Rattle.sg_ast.specs.declared.name.Pair.{Pair}
use Rattle.sg_ast.specs.declared.name.Remote.{Remote}
use Rattle.sg_ast.specs.declared.decl.Alt.{Alt}
use Rattle.sg_ast.specs.declared.decl.AttrDecl.{AttrDecl}
use Rattle.sg_ast.specs.Declarations as decl
use Rattle.sg_ast.specs.Declarations.{Decl, Equation, Right}
use Rattle.sg_ast.specs.Expressions.{Expr}
use Rattle.sg_ast.specs.Remotes.{remotes_of}
use Rattle.sg_ast.specs.FirstFault.{first_repeat}
use Rattle.sg_counts.specs.declared.definitions.Form.{Form}
use Rattle.sg_counts.specs.declared.definitions.Form.TheVariants as form
use Rattle.sg_counts.specs.declared.definitions.Definition.{Definition}
use Rattle.sg_counts.specs.Definitions.{Space, Phyla, Callables, Listings, Attributes, Locals, Schemes, Literals, Remotes, Key, is_same_key, clashes, view_name}

abbrev pub defined_by : Form → Space → Bytes → Position → Definition Key
defined_by form space n place = record { key = record { space = space; name = n }; form = form; place = place }

-- the definition by a name's token
abbrev pub defined : Form → Space → Name → Definition Key
defined form space n = defined_by form space n.text n.place

-- that by a literal of a precedence line
abbrev pub literal_defined : Quoted → Definition Key
literal_defined q = defined_by form.Alone Literals q.text q.place

-- what an atom lists, and what the atoms of an expression do
abbrev pub remote_defined : Remote → List (Definition Key)
remote_defined r = map (λ (p : Pair). defined form.Alone (Remotes r.place.token) p.phylum) r.pairs

abbrev pub expr_defined : Expr → List (Definition Key)
expr_defined e = flat_map remote_defined (remotes_of e)

-- what a declaration defines, in the order of its tokens
abbrev pub definitions_of : Decl → List (Definition Key)
definitions_of (decl.Listed p) = defined form.Alone Listings p ∷ []
definitions_of (decl.Optional listed p) = defined form.Alone Listings p ∷ []
definitions_of (decl.Operators p alts) = defined form.Operators Phyla p
    ∷ map (λ (a : Alt). defined form.Alone Callables a.name) alts
definitions_of (decl.LexemeOf p s) = defined form.Alone Phyla p ∷ []
definitions_of (decl.Attributes p attrs) = map (λ (a : AttrDecl). defined form.Alone (Attributes p.text) a.name) attrs
definitions_of (decl.Equations p op locals equations) =
    map (λ (l : Typed). defined form.Alone (Locals p.text op.text) l.name) locals
    ++ flat_map (λ (e : Equation). expr_defined e.expr) equations
definitions_of (decl.Schemes p op view schemes) = defined form.Alone (Schemes p.text (view_name view)) op ∷ []
definitions_of (decl.Function t n params e) = defined form.Alone Callables n ∷ expr_defined e
definitions_of (decl.Transform p title q e) = expr_defined e
definitions_of (decl.Productions n rights) = defined form.Productions Phyla n
    ∷ flat_map (λ (r : Right). expr_defined r.expr) rights
definitions_of (decl.Precedence g literals place) = map literal_defined literals
definitions_of d = []

-- the base phyla and the builtins, which are there before each text; they do not clash, so their place is not printed
abbrev pub before_text : Space → Bytes → Definition Key
before_text space n = defined_by form.Alone space n (record { token = 0; line = 0 })

abbrev pub given : List (Definition Key)
given = map (before_text Phyla) base_names ++ map (before_text Callables) builtin_names

abbrev pub definitions_in : List Decl → List (Definition Key)
definitions_in ds = given ++ flat_map definitions_of ds

-- a literal is printed between quotes
abbrev pub printed_in : Space → Bytes → Bytes
printed_in Literals n = 39 ∷ n ++ 39 ∷ []
printed_in space n = n

abbrev pub printed_name : Key → Bytes
printed_name key = printed_in key.space key.name

abbrev pub duplicate_fault : Definition Key → SpecFault
duplicate_fault d = fault.Duplicate d.place (printed_name d.key)

-- the first definition that clashes with one before it
abbrev pub duplicate : List Decl → Option SpecFault
duplicate ds = option_map duplicate_fault (option_and_then (slice_get (definitions_in ds))
    (first_repeat (clashes is_same_key) (definitions_in ds)))

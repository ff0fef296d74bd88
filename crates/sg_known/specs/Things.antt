-- What declarations declare.
use Rattle.std.specs.Prelude.{List, [], ◌∷◌, map, flat_map, Option, Some, None}
use Rattle.sg_kinds.specs.Values.{Bytes}
use Rattle.sg_kinds.specs.declared.fault.Position.{Position}
use Rattle.sg_ast.specs.declared.name.Name.{Name}
use Rattle.sg_ast.specs.declared.name.Quoted.{Quoted}
use Rattle.sg_ast.specs.declared.name.Typed.{Typed}
use Rattle.sg_ast.specs.declared.decl.Alt.{Alt}
use Rattle.sg_ast.specs.declared.decl.AttrDecl.{AttrDecl}
use Rattle.sg_ast.specs.Declarations as decl
use Rattle.sg_ast.specs.Declarations.{Decl}
use Rattle.sg_known.specs.declared.things.Kind.{Kind}
use Rattle.sg_known.specs.declared.things.Kind.TheVariants.{Phylum, Lexeme, Nonterminal, Operator, Function, Parameter, Attribute, Local, Listing, Schemes, Literal, Entry}
use Rattle.sg_known.specs.declared.things.Thing.{Thing}

-- a name of this kind, with what it belongs to, and where this belongs
abbrev pub thing : Kind → Bytes → Bytes → Bytes → Position → Thing
thing kind owner within name place =
    record { kind = kind; owner = owner; within = within; name = name; place = place }

abbrev pub named : Kind → Bytes → Bytes → Name → Thing
named kind owner within n = thing kind owner within n.text n.place

abbrev pub literal_thing : Quoted → Thing
literal_thing q = thing Literal [] [] q.text q.place

-- the name of a view; nothing for the ordinary one
abbrev pub view_text : Option Name → Bytes
view_text None = []
view_text (Some view) = view.text

-- what a declaration declares, in the order of its tokens: an attribute, a parameter or an operator belongs to an
-- owner, a function or a phylum, a local to an operator of a phylum, and schemes to a phylum in a view
abbrev pub things_of : Decl → List Thing
things_of (decl.Listed p) = named Listing [] [] p ∷ []
things_of (decl.Optional listed p) = named Listing [] [] p ∷ []
things_of (decl.Operators p alts) =
    named Phylum [] [] p ∷ map (λ (a : Alt). named Operator p.text [] a.name) alts
things_of (decl.LexemeOf p s) = named Lexeme [] [] p ∷ []
things_of (decl.Attributes p attrs) = map (λ (a : AttrDecl). named Attribute p.text [] a.name) attrs
things_of (decl.Equations p op locals es) = map (λ (l : Typed). named Local op.text p.text l.name) locals
things_of (decl.Schemes p op view ss) = named Schemes p.text (view_text view) op ∷ []
things_of (decl.Function t n params e) =
    named Function [] [] n ∷ map (λ (p : Typed). named Parameter n.text [] p.name) params
things_of (decl.Productions n rs) = named Nonterminal [] [] n ∷ []
things_of (decl.Precedence g ls place) = map literal_thing ls
things_of (decl.Entry p n a) = named Entry [] [] p ∷ []
things_of d = []

-- what all declare
abbrev pub things : List Decl → List Thing
things ds = flat_map things_of ds

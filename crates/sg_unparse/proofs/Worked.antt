-- The definitions on worked examples.
use Rattle.std.specs.Prelude.{◌≡◌, refl, ℕ, zero, suc, min, nat_lt, true, false, List, [], ◌∷◌, ◌++◌, length, map, replicate, codes, Option, Some, None, bytes_eq, if◌then◌else◌}
use Rattle.std.proofs.Common.{◌∙◌, ap}
use Rattle.std.proofs.lemmas.List.{length-replicate}
use Rattle.sg_kinds.specs.Values.{Bytes, Value, Truth, Chars, Tree, Fault, NoValue}
use Rattle.sg_kinds.specs.Terms.{Term, Leaf, Node, kids_of, NoTerm}
use Rattle.sg_kinds.specs.Places.{Place}
use Rattle.sg_kinds.specs.Nets.{Reference, referred, net_of}
use Rattle.sg_kinds.specs.declared.spec.Spec.{Spec}
use Rattle.sg_kinds.specs.declared.spec.Phylum.{Phylum}
use Rattle.sg_kinds.specs.declared.spec.Attr.{Attr}
use Rattle.sg_kinds.specs.declared.spec.Operator.{Operator}
use Rattle.sg_kinds.specs.declared.spec.Scheme.{Scheme}
use Rattle.sg_kinds.specs.declared.spec.Item.{Item}
use Rattle.sg_kinds.specs.declared.marks.Shape.{Shape}
use Rattle.sg_kinds.specs.declared.spec.Piece.TheVariants.{Written, Newline, Margin}
use Rattle.sg_kinds.specs.declared.spec.Item.TheVariants.{Writes, Child, Shows, Separates}
use Rattle.sg_kinds.specs.declared.marks.ChildPlace.TheVariants.{Resting, Passed, Hidden}
use Rattle.sg_kinds.specs.declared.marks.Shape.TheVariants.{Lexemes, Ordinary, Listed}
use Rattle.sg_kinds.proofs.Languages.{base, syn, at}
use Rattle.sg_kinds.specs.declared.marks.FaultKind.TheVariants.{NoMatch}
use Rattle.sg_unparse.specs.Printing.{value_text}
use Rattle.sg_unparse.specs.Cells.{Mark, Writes as WritesByte, reference, marks_of}
use Rattle.sg_unparse.specs.Page.{Region, Cell, all_cells, region_in, cells_of, lines_of, is_cut, region_of, owner_at}

-- blocks of lines: top 3, rows 4, row 5, NAME 6; Top 0, NoRows 1, Rows 2, Word 3, Block 4, Note 5
abbrev one : List Item → List Scheme
one is = record { rests = true; editable = true; items = is } ∷ []

abbrev op : ℕ → List ℕ → List Scheme → Operator
op p args schemes = record { name = []; phylum = p; args = args; locals = []; schemes = schemes }

abbrev kind : Shape → List ℕ → List Attr → Phylum
kind shape ops attrs = record { name = []; shape = shape; ops = ops; attrs = attrs }

abbrev text : Bytes → Item
text s = Writes (Written s ∷ [])

abbrev blocks : Spec
blocks = record {
  phyla = base (kind Ordinary (0 ∷ []) [] ∷ kind Listed (1 ∷ 2 ∷ []) (syn 1 ∷ []) ∷ kind Ordinary (3 ∷ 4 ∷ 5 ∷ []) [] ∷ record (kind (Lexemes 0) [] (syn 6 ∷ [])) { name = codes "NAME" } ∷ []);
  ops = op 3 (4 ∷ []) (one (Child Resting ∷ Writes (Newline ∷ Written (codes "= ") ∷ []) ∷ Shows (at 1 0) ∷ []))
      ∷ op 4 [] (one [])
      ∷ op 4 (5 ∷ 4 ∷ []) (one (Child Resting ∷ Separates (Newline ∷ []) ∷ Child Resting ∷ []))
      ∷ op 5 (6 ∷ []) (one (text (codes "w ") ∷ Child Passed ∷ []) ++ one (Child Hidden ∷ text (codes "w") ∷ []))
      ∷ op 5 (4 ∷ []) (one (Writes (Written (codes "{") ∷ Margin 0 1 ∷ Newline ∷ []) ∷ Child Resting ∷ Writes (Margin 1 0 ∷ Newline ∷ Written (codes "}") ∷ []) ∷ []))
      ∷ op 5 (6 ∷ []) (one (Writes (Margin 0 1 ∷ Newline ∷ Written (codes "s\nt ") ∷ []) ∷ Shows (at 1 0) ∷ Writes (Newline ∷ []) ∷ Child Passed ∷ [])
      ++ one (Writes (Margin 3 1 ∷ Newline ∷ []) ∷ Child Passed ∷ []))
      ∷ [];
  exprs = [];
  rules = [];
  functions = [];
  transforms = [];
  lexemes = [];
  productions = [];
  entries = [];
  levels = [];
  views = record { names = []; rows = [] };
  root = 3;
}

abbrev none : Term
none = Node 1 0 false NoTerm

abbrev word : ℕ → Bytes → Term
word scheme s = Node 3 scheme false (kids_of (Leaf 6 (Chars s) ∷ []))

abbrev row : Term → Term → Term
row t ts = Node 2 0 false (kids_of (t ∷ ts ∷ []))

abbrev block : Term → Term
block ts = Node 4 0 false (kids_of (ts ∷ []))

abbrev top : Term → Term
top ts = Node 0 0 false (kids_of (ts ∷ []))

abbrev value : Reference Place → Value
value r = Truth true

abbrev untyped : Place → Option Bytes
untyped u = None

abbrev shown : Term → List Bytes
shown t = lines_of (cells_of (marks_of blocks value untyped t))

-- a separator is shown only where elements follow; the null lexeme; the scheme of number 2 is the first, that of number 1 hides
separated : shown (top (row (word 0 (codes "a")) (row (word 2 []) (row (word 1 (codes "b")) none)))) ≡ codes "w a" ∷ codes "w <NAME>" ∷ codes "w" ∷ codes "= true" ∷ []
separated = refl

-- the margin goes through children
nested : shown (top (row (block (row (block (row (word 0 (codes "a")) none)) none)) none)) ≡ codes "{" ∷ codes "  {" ∷ codes "    w a" ∷ codes "  }" ∷ codes "}" ∷ codes "= true" ∷ []
nested = refl

-- what is typed at a deep margin in the place of an elided block, and an elided block
abbrev typed : Place → Option Bytes
typed u = if bytes_eq u (0 ∷ 0 ∷ 0 ∷ 0 ∷ []) then Some (codes "x\ny") else None

abbrev closed : Term → Term
closed ts = Node 4 0 true (kids_of (ts ∷ []))

inside : lines_of (cells_of (marks_of blocks value typed (top (row (block (row (closed none) none)) none)))) ≡ codes "{" ∷ codes "  x" ∷ codes "  y" ∷ codes "}" ∷ codes "= true" ∷ []
inside = refl

elided : shown (top (row (block (row (closed (row (word 0 []) none)) none)) none)) ≡ codes "{" ∷ codes "  ..." ∷ codes "}" ∷ codes "= true" ∷ []
elided = refl

-- regions and owners in `{`, `  w a`, `}`, `= true`
abbrev marks : List Mark
marks = marks_of blocks value untyped (top (row (block (row (word 0 (codes "a")) none)) none))

abbrev region : ℕ → ℕ → ℕ → ℕ → Region
region line column last_line last_column =
    record { first = record { line = line; column = column }; last = record { line = last_line; column = last_column } }

region_of_root : region_of marks [] ≡ Some (region 1 1 4 6)
region_of_root = refl

region_of_block : region_of marks (0 ∷ 0 ∷ []) ≡ Some (region 1 1 3 1)
region_of_block = refl

region_of_leaf : region_of marks (0 ∷ 0 ∷ 0 ∷ 0 ∷ 0 ∷ []) ≡ Some (region 2 5 2 5)
region_of_leaf = refl

-- the empty list behind the word has no cells; the newline behind it stands in column 6
region_of_nothing : region_of marks (1 ∷ 0 ∷ 0 ∷ 0 ∷ []) ≡ Some (region 2 6 2 6)
region_of_nothing = refl

owner_of_blank : owner_at (cells_of marks) 2 1 ≡ Some (0 ∷ 0 ∷ [])
owner_of_blank = refl

owner_of_leaf : owner_at (cells_of marks) 2 5 ≡ Some (0 ∷ 0 ∷ 0 ∷ 0 ∷ 0 ∷ [])
owner_of_leaf = refl

owner_of_newline : owner_at (cells_of marks) 2 6 ≡ Some (0 ∷ 0 ∷ [])
owner_of_newline = refl

owner_of_none : owner_at (cells_of marks) 2 7 ≡ None
owner_of_none = refl

-- a hidden child is not unparsed
hidden : region_of (marks_of blocks value untyped (top (row (word 1 (codes "a")) none))) (0 ∷ 0 ∷ 0 ∷ []) ≡ None
hidden = refl

-- a newline in a scheme's own string is a cell like others; in a value and a leaf it keeps the margin, which is not put
-- back behind the note
abbrev note : ℕ → Bytes → Term
note scheme s = Node 5 scheme false (kids_of (Leaf 6 (Chars s) ∷ []))

abbrev said : Reference Place → Value
said r = Chars (codes "p\nq")

newlines : lines_of (cells_of (marks_of blocks said untyped (top (row (note 0 (codes "c\nd")) (row (word 0 (codes "a")) none)))))
    ≡ [] ∷ codes "  s" ∷ codes "t p" ∷ codes "  q" ∷ codes "  c" ∷ codes "  d" ∷ codes "  w a" ∷ codes "  = p" ∷ codes "  q" ∷ []
newlines = refl

-- the margin is taken back to 0 and no further, before it is moved on
not_below : shown (top (row (note 1 (codes "c")) none)) ≡ [] ∷ codes "  c" ∷ codes "  = true" ∷ []
not_below = refl

-- a separator is shown before a list that is elided, or in whose place something is typed
abbrev folded : Term
folded = Node 2 0 true (kids_of (word 0 (codes "b") ∷ none ∷ []))

before_elided : shown (top (row (word 0 (codes "a")) folded)) ≡ codes "w a" ∷ codes "..." ∷ codes "= true" ∷ []
before_elided = refl

-- an occurrence in a scheme is the one that equations mean by it
same_reference : (t : Term) (u : Place) (k slot : ℕ) → reference u (at k slot) ≡ referred (net_of t) u (at k slot)
same_reference t u zero slot = refl
same_reference t u (suc k) slot = refl

-- a page that is full is not cut, one cell more is left off
abbrev full : ℕ → List Mark
full n = map (λ b. WritesByte b []) (replicate n 120)

full_cells : (n : ℕ) → length (all_cells (full n)) ≡ n
full_cells n = counted (replicate n 120) ∙ length-replicate n 120
  where
    counted : (s : Bytes) → length (all_cells (map (λ b. WritesByte b []) s)) ≡ length s
    counted [] = refl
    counted (b ∷ s) = ap suc (counted s)

is_whole : is_cut (full 1048576) ≡ false
is_whole = ap (λ n. nat_lt 1048576 n) (full_cells 1048576)

one_more : is_cut (full 1048577) ≡ true
one_more = ap (λ n. nat_lt 1048576 n) (full_cells 1048577)

-- behind a page of `ab` begins at column 3; a region ends with the page, and one that begins behind it stands there
abbrev page : List Cell
page = (97, []) ∷ (98, 0 ∷ []) ∷ []

region_cut : region_in page (min 1 2) (min 5 2) ≡ region 1 2 1 2
region_cut = refl

region_behind : region_in page (min 4 2) (min 6 2) ≡ region 1 3 1 3
region_behind = refl

-- the null lexeme has its phylum's name, the empty text nothing; a fault; a tree
null_lexeme : value_text blocks 6 (Chars []) ≡ codes "<NAME>"
null_lexeme = refl

empty_text : value_text blocks 2 (Chars []) ≡ []
empty_text = refl

no_match : value_text blocks 6 (Fault NoMatch) ≡ codes "<nomatch>"
no_match = refl

tree : value_text blocks 4 (Tree 1 NoValue) ≡ []
tree = refl

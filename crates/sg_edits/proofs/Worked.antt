-- Worked examples: lists of statements, and what the commands make of them.
use Rattle.std.specs.Prelude.{◌≡◌, refl, ℕ, true, false, List, [], ◌∷◌, codes, Some, None}
use Rattle.sg_kinds.specs.Completing.{completing}
use Rattle.sg_kinds.specs.Placeholder.{placeholder}
use Rattle.sg_kinds.specs.Terms.{Term, Node, NoTerm, AndTerm}
use Rattle.sg_kinds.specs.Values.{Bytes}
use Rattle.sg_kinds.specs.declared.marks.Shape.{Shape}
use Rattle.sg_kinds.specs.declared.marks.Shape.TheVariants.{Truths, Numbers, Texts, Ordinary, Listed, OptionalListed}
use Rattle.sg_kinds.specs.declared.spec.Operator.{Operator}
use Rattle.sg_kinds.specs.declared.spec.Phylum.{Phylum}
use Rattle.sg_kinds.specs.declared.spec.Spec.{Spec}
use Rattle.sg_script.specs.declared.message.Message.TheVariants as message
use Rattle.sg_edits.specs.Choice.{Refused, Put, one}
use Rattle.sg_edits.specs.Edits.{clip_of, deleted, done, inserted, pasted, removed}
use Rattle.sg_edits.specs.declared.clip.Clip.{Clip}

-- short forms
abbrev phylum : Shape → Bytes → List ℕ → Phylum
phylum shape name ops = record { name = name; shape = shape; ops = ops; attrs = [] }

abbrev operator : ℕ → List ℕ → Operator
operator p args = record { name = []; phylum = p; args = args; locals = []; schemes = [] }

-- prog 3, stmts 4, stmt 5, groups 6; Prog 0, NoStmts 1, Stmts 2, Empty 3, NoGroups 4, Groups 5
abbrev statements : Shape → Spec
statements shape = record {
  phyla = phylum Truths (codes "BOOL") [] ∷ phylum Numbers (codes "INT") [] ∷ phylum Texts (codes "STR") []
      ∷ phylum Ordinary (codes "prog") (0 ∷ []) ∷ phylum shape (codes "stmts") (1 ∷ 2 ∷ []) ∷ phylum Ordinary (codes "stmt") (3 ∷ [])
      ∷ phylum Listed (codes "groups") (4 ∷ 5 ∷ []) ∷ [];
  ops = operator 3 (4 ∷ []) ∷ operator 4 [] ∷ operator 4 (5 ∷ 4 ∷ []) ∷ operator 5 [] ∷ operator 6 [] ∷ operator 6 (4 ∷ 6 ∷ []) ∷ [];
  exprs = [];
  rules = [];
  functions = [];
  transforms = [];
  lexemes = [];
  productions = [];
  entries = [];
  levels = [];
  views = record { names = []; rows = [] };
  root = 3;
}

abbrev listed : Spec
listed = statements Listed

abbrev optional : Spec
optional = statements OptionalListed

-- a statement, told apart by its scheme number; a new one has 0
abbrev stmt : ℕ → Term
stmt k = Node 3 k false NoTerm

abbrev nil : Term
nil = Node 1 0 false NoTerm

abbrev cons : Term → Term → Term
cons x l = Node 2 0 false (AndTerm x (AndTerm l NoTerm))

abbrev prog : Term → Term
prog l = Node 0 0 false (AndTerm l NoTerm)

abbrev single : Term
single = prog (cons (stmt 1) nil)

abbrev three : Term
three = prog (cons (stmt 1) (cons (stmt 2) (cons (stmt 3) nil)))

-- the element behind is selected, else the one before, else the list
first_removed : removed listed three (0 ∷ 0 ∷ []) 1 ≡ Put (0 ∷ []) (cons (stmt 2) (cons (stmt 3) nil)) (one (0 ∷ 0 ∷ []))
first_removed = refl

middle_removed : removed listed three (0 ∷ 1 ∷ 0 ∷ []) 1 ≡ Put (1 ∷ 0 ∷ []) (cons (stmt 3) nil) (one (0 ∷ 1 ∷ 0 ∷ []))
middle_removed = refl

last_removed : removed listed three (0 ∷ 1 ∷ 1 ∷ 0 ∷ []) 1 ≡ Put (1 ∷ 1 ∷ 0 ∷ []) nil (one (0 ∷ 1 ∷ 0 ∷ []))
last_removed = refl

only_removed : removed optional single (0 ∷ 0 ∷ []) 1 ≡ Put (0 ∷ []) nil (one (0 ∷ []))
only_removed = refl

only_kept : removed listed single (0 ∷ 0 ∷ []) 1 ≡ Refused message.LastElement
only_kept = refl

list_not_removed : removed listed single (0 ∷ []) 1 ≡ Refused message.NotInList
list_not_removed = refl

root_not_removed : removed listed single [] 1 ≡ Refused message.NotInList
root_not_removed = refl

-- before an element and behind it
inserted_before : inserted listed single (0 ∷ 0 ∷ []) 1 false ≡ Put (0 ∷ []) (cons (stmt 0) (cons (stmt 1) nil)) (one (0 ∷ 0 ∷ []))
unfolding completing placeholder
inserted_before = refl

inserted_behind : inserted listed three (0 ∷ 1 ∷ 0 ∷ []) 1 true ≡ Put (1 ∷ 1 ∷ 0 ∷ []) (cons (stmt 0) (cons (stmt 3) nil)) (one (0 ∷ 1 ∷ 1 ∷ 0 ∷ []))
unfolding completing placeholder
inserted_behind = refl

inserted_last : inserted listed single (0 ∷ 0 ∷ []) 1 true ≡ Put (1 ∷ 0 ∷ []) (cons (stmt 0) nil) (one (0 ∷ 1 ∷ 0 ∷ []))
unfolding completing placeholder
inserted_last = refl

-- in a list without elements, also where that is an element
filled : inserted optional (prog nil) (0 ∷ []) 1 true ≡ Put (0 ∷ []) (cons (stmt 0) nil) (one (0 ∷ 0 ∷ []))
unfolding completing placeholder
filled = refl

filled_inside : inserted optional (Node 5 0 false (AndTerm nil (AndTerm (Node 4 0 false NoTerm) NoTerm))) (0 ∷ []) 1 false ≡ Put (0 ∷ []) (cons (stmt 0) nil) (one (0 ∷ 0 ∷ []))
unfolding completing placeholder
filled_inside = refl

not_inserted : inserted listed single (0 ∷ []) 1 true ≡ Refused message.NotInList
not_inserted = refl

-- the clip and the completing term
abbrev clip : Clip
clip = record { phylum = 5; term = stmt 7; count = 1 }

pasted_there : pasted listed single (0 ∷ 0 ∷ []) 1 (Some clip) ≡ Put (0 ∷ 0 ∷ []) (stmt 7) (one (0 ∷ 0 ∷ []))
pasted_there = refl

other_phylum : pasted listed single (0 ∷ []) 1 (Some clip) ≡ Refused message.Phylum
other_phylum = refl

no_clip : pasted listed single (0 ∷ []) 1 None ≡ Refused message.ClipEmpty
no_clip = refl

list_deleted : deleted listed three (0 ∷ []) 1 ≡ Put (0 ∷ []) (cons (stmt 0) nil) (one (0 ∷ []))
unfolding completing
list_deleted = refl

optional_deleted : deleted optional three (0 ∷ []) 1 ≡ Put (0 ∷ []) nil (one (0 ∷ []))
unfolding completing
optional_deleted = refl

-- runs: the last two of three elements, and all
two_removed : removed listed three (0 ∷ 1 ∷ 0 ∷ []) 2 ≡ Put (1 ∷ 0 ∷ []) nil (one (0 ∷ 0 ∷ []))
two_removed = refl

front_removed : removed listed three (0 ∷ 0 ∷ []) 2 ≡ Put (0 ∷ []) (cons (stmt 3) nil) (one (0 ∷ 0 ∷ []))
front_removed = refl

all_kept : removed listed three (0 ∷ 0 ∷ []) 3 ≡ Refused message.LastElement
all_kept = refl

all_removed : removed optional three (0 ∷ 0 ∷ []) 3 ≡ Put (0 ∷ []) nil (one (0 ∷ []))
all_removed = refl

all_deleted : deleted listed three (0 ∷ 0 ∷ []) 3 ≡ Put (0 ∷ []) (cons (stmt 0) nil) (one (0 ∷ 0 ∷ []))
unfolding completing
all_deleted = refl

two_deleted : deleted listed three (0 ∷ 1 ∷ 0 ∷ []) 2 ≡ Put (1 ∷ 0 ∷ []) nil (one (0 ∷ 0 ∷ []))
two_deleted = refl

before_two : inserted listed three (0 ∷ 0 ∷ []) 2 false ≡ Put (0 ∷ []) (cons (stmt 0) (cons (stmt 1) (cons (stmt 2) (cons (stmt 3) nil)))) (one (0 ∷ 0 ∷ []))
unfolding completing placeholder
before_two = refl

behind_two : inserted listed three (0 ∷ 0 ∷ []) 2 true ≡ Put (1 ∷ 1 ∷ 0 ∷ []) (cons (stmt 0) (cons (stmt 3) nil)) (one (0 ∷ 1 ∷ 1 ∷ 0 ∷ []))
unfolding completing placeholder
behind_two = refl

-- a copied run, over an element, over a run and in the place of a list; one term over a run
abbrev run : Clip
run = record { phylum = 4; term = cons (stmt 1) (cons (stmt 2) nil); count = 2 }

run_copied : clip_of listed three (0 ∷ 0 ∷ []) 2 ≡ run
run_copied = refl

pasted_over_one : pasted listed three (0 ∷ 1 ∷ 1 ∷ 0 ∷ []) 1 (Some run) ≡ Put (1 ∷ 1 ∷ 0 ∷ []) (cons (stmt 1) (cons (stmt 2) nil)) (record { place = 0 ∷ 1 ∷ 1 ∷ 0 ∷ []; count = 2 })
pasted_over_one = refl

pasted_over_two : pasted listed three (0 ∷ 0 ∷ []) 2 (Some run) ≡ Put (0 ∷ []) (cons (stmt 1) (cons (stmt 2) (cons (stmt 3) nil))) (record { place = 0 ∷ 0 ∷ []; count = 2 })
pasted_over_two = refl

pasted_in_list : pasted listed three (0 ∷ []) 1 (Some run) ≡ Put (0 ∷ []) (cons (stmt 1) (cons (stmt 2) nil)) (record { place = 0 ∷ 0 ∷ []; count = 2 })
pasted_in_list = refl

one_over_two : pasted listed three (0 ∷ 1 ∷ 0 ∷ []) 2 (Some clip) ≡ Put (1 ∷ 0 ∷ []) (cons (stmt 7) nil) (one (0 ∷ 1 ∷ 0 ∷ []))
one_over_two = refl

list_over_two : pasted listed three (0 ∷ 0 ∷ []) 2 (Some (clip_of listed three (0 ∷ []) 1)) ≡ Refused message.Phylum
list_over_two = refl

run_at_root : pasted listed three [] 1 (Some run) ≡ Refused message.Phylum
run_at_root = refl

-- no transformation has the name
not_done : done listed single (0 ∷ 0 ∷ []) (codes "+") ≡ Refused message.Unknown
not_done = refl

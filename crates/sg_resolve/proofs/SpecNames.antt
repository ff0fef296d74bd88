-- The counts and the names of a specification with the table of declarations.
use Rattle.std.proofs.Common.{◌≡◌, ◌<◌, ◌≤◌, ◌^◌, List, [], ◌∷◌, ◌++◌, length, map, filter, take, None, refl, sym, ap, subst, ◌∙◌}
use Rattle.std.specs.List.{AllByRecursion, All, count_by}
use Rattle.std.proofs.lemmas.List.{length-map}
use Rattle.std.proofs.lemmas.List.Elements.{All-from_recursion}
use Rattle.sg_kinds.specs.Values.{Bytes}
use Rattle.sg_kinds.specs.Far.{is_far, is_written}
use Rattle.sg_kinds.specs.Sound.{AreCounted, AreDistinct, HasNames, IsNamed, IsNumbered, base_names, builtin_names}
use Rattle.sg_kinds.specs.declared.spec.Spec.{Spec}
use Rattle.sg_kinds.specs.declared.spec.Attr.{Attr}
use Rattle.sg_kinds.specs.declared.spec.Local.{Local}
use Rattle.sg_kinds.specs.declared.spec.Operator.{Operator}
use Rattle.sg_kinds.specs.declared.spec.Phylum.{Phylum}
use Rattle.sg_kinds.specs.declared.spec.Function.{Function}
use Rattle.sg_kinds.specs.declared.spec.Production.{Production}
use Rattle.sg_kinds.specs.declared.spec.Scheme.{Scheme}
use Rattle.sg_ast.specs.Declarations.{Decl}
use Rattle.sg_counts.specs.Limits.{limit}
use Rattle.sg_counts.specs.Duplicates.{duplicate}
use Rattle.sg_names.specs.declared.table.Signature.{Signature}
use Rattle.sg_names.specs.Names.{names_of}
use Rattle.sg_names.specs.Drafted.{without_schemes, signature_of, HasTable}
use Rattle.sg_resolve.proofs.Counting.{all_seen}
use Rattle.sg_resolve.proofs.Limiting.{within_limits}
use Rattle.sg_resolve.proofs.TableNames.{phyla_limited, ops_limited, args_limited, attrs_counted, locals_limited, functions_limited, params_limited, base_named, phyla_distinct, callables_distinct, attrs_apart, locals_distinct}

-- the counts that come from names alone
pub record CountsNames (spec : Spec) : Type 0 where
  pub phyla : length spec.phyla ≤ 515
  pub ops : length spec.ops ≤ 2048
  pub args : All (λ (o : Operator). length o.args ≤ 16) spec.ops
  pub attrs : All (λ (x : Phylum). (count_by is_written x.attrs ≤ 32) × (count_by is_far x.attrs ≤ 1048576)) spec.phyla
  pub locals : All (λ (o : Operator). length o.locals ≤ 32) spec.ops
  pub functions : length spec.functions ≤ 1024
  pub params : All (λ (f : Function). length f.params ≤ 16) spec.functions

-- the names but those of nonterminals
pub record HasOwnNames (spec : Spec) : Type 0 where
  pub base : map (λ (x : Phylum). x.name) (take 3 spec.phyla) ≡ base_names
  pub phyla : AreDistinct (map (λ (x : Phylum). x.name) spec.phyla)
  pub callables : AreDistinct (map (λ (o : Operator). o.name) spec.ops ++ (map (λ (f : Function). f.name) spec.functions ++ builtin_names))
  pub attrs : All (λ (x : Phylum). AreDistinct (map (λ (a : Attr). a.name) (filter is_written x.attrs))) spec.phyla
  pub locals : All (λ (o : Operator). AreDistinct (map (λ (l : Local). l.name) o.locals)) spec.ops

-- what holds of the table's operators and functions, where schemes and bodies say nothing
of_ops : (P : Operator → Type 0) (ds : List Decl) (spec : Spec) → HasTable (names_of ds) spec → AllByRecursion P (names_of ds).ops → AllByRecursion (λ o. P (without_schemes o)) spec.ops
of_ops P ds spec is all = all_seen P without_schemes spec.ops (subst (AllByRecursion P) (sym is.ops) all)

of_functions : (P : Signature → Type 0) (ds : List Decl) (spec : Spec) → HasTable (names_of ds) spec → AllByRecursion P (names_of ds).functions → AllByRecursion (λ f. P (signature_of f)) spec.functions
of_functions P ds spec is all = all_seen P signature_of spec.functions (subst (AllByRecursion P) (sym is.functions) all)

of_phyla : (P : Phylum → Type 0) (ds : List Decl) (spec : Spec) → HasTable (names_of ds) spec → AllByRecursion P (names_of ds).phyla → AllByRecursion P spec.phyla
of_phyla P ds spec is all = subst (AllByRecursion P) (sym is.phyla) all

pub counts_names : (ds : List Decl) (spec : Spec) → limit ds ≡ None → HasTable (names_of ds) spec → CountsNames spec
counts_names ds spec e is =
    let low = within_limits ds e in
    record {
      phyla = subst (λ (xs : List Phylum). length xs ≤ 515) (sym is.phyla) (phyla_limited ds low);
      ops = subst (λ n. n ≤ 2048) (sym (sym (length-map spec.ops without_schemes) ∙ ap length is.ops)) (ops_limited ds low);
      args = All-from_recursion (λ (o : Operator). length o.args ≤ 16) spec.ops (of_ops (λ (o : Operator). length o.args ≤ 16) ds spec is (args_limited ds low));
      attrs =
          All-from_recursion (λ (x : Phylum). (count_by is_written x.attrs ≤ 32) × (count_by is_far x.attrs ≤ 1048576)) spec.phyla
          (of_phyla (λ (x : Phylum). (count_by is_written x.attrs ≤ 32) × (count_by is_far x.attrs ≤ 1048576)) ds spec is (attrs_counted ds low));
      locals = All-from_recursion (λ (o : Operator). length o.locals ≤ 32) spec.ops (of_ops (λ (o : Operator). length o.locals ≤ 32) ds spec is (locals_limited ds low));
      functions = subst (λ n. n ≤ 1024) (sym (sym (length-map spec.functions signature_of) ∙ ap length is.functions)) (functions_limited ds low);
      params = All-from_recursion (λ (f : Function). length f.params ≤ 16) spec.functions (of_functions (λ (f : Signature). length f.params ≤ 16) ds spec is (params_limited ds low));
    }

op_names : (ops : List Operator) → map (λ (o : Operator). o.name) (map without_schemes ops) ≡ map (λ (o : Operator). o.name) ops
op_names [] = refl
op_names (o ∷ ops) = ap (λ (l : List Bytes). o.name ∷ l) (op_names ops)

function_names : (functions : List Function) → map (λ (f : Signature). f.name) (map signature_of functions) ≡ map (λ (f : Function). f.name) functions
function_names [] = refl
function_names (f ∷ functions) = ap (λ (l : List Bytes). f.name ∷ l) (function_names functions)

pub own_names : (ds : List Decl) (spec : Spec) → duplicate ds ≡ None → HasTable (names_of ds) spec → HasOwnNames spec
own_names ds spec e is =
    let ops : map (λ (o : Operator). o.name) (names_of ds).ops ≡ map (λ (o : Operator). o.name) spec.ops = ap (map (λ (o : Operator). o.name)) (sym is.ops) ∙ op_names spec.ops in
    let functions : map (λ (f : Signature). f.name) (names_of ds).functions ≡ map (λ (f : Function). f.name) spec.functions = ap (map (λ (f : Signature). f.name)) (sym is.functions) ∙ function_names spec.functions in
    record {
      base = ap (λ (xs : List Phylum). map (λ (x : Phylum). x.name) (take 3 xs)) is.phyla ∙ base_named ds;
      phyla = subst (λ (xs : List Phylum). AreDistinct (map (λ (x : Phylum). x.name) xs)) (sym is.phyla) (phyla_distinct ds);
      callables = subst AreDistinct (λ i. ops i ++ (functions i ++ builtin_names)) (callables_distinct ds e);
      attrs =
          All-from_recursion (λ (x : Phylum). AreDistinct (map (λ (a : Attr). a.name) (filter is_written x.attrs))) spec.phyla
          (of_phyla (λ (x : Phylum). AreDistinct (map (λ (a : Attr). a.name) (filter is_written x.attrs))) ds spec is (attrs_apart ds e));
      locals = All-from_recursion (λ (o : Operator). AreDistinct (map (λ (l : Local). l.name) o.locals)) spec.ops (of_ops (λ (o : Operator). AreDistinct (map (λ (l : Local). l.name) o.locals)) ds spec is (locals_distinct ds e));
    }

pub names_counted : (ds : List Decl) (spec : Spec) → limit ds ≡ None → HasTable (names_of ds) spec → length spec.transforms ≤ 1024 → All (λ (o : Operator). length o.schemes ≤ 16) spec.ops → length spec.productions ≤ 1024
    → All (λ (r : Production). length r.right ≤ 16) spec.productions → length spec.rules < 2 ^ 32 → length spec.views.names ≤ 16 → All (λ (row : List (List Scheme)). All (λ (ss : List Scheme). length ss ≤ 16) row) spec.views.rows → AreCounted spec
names_counted ds spec e is transforms schemes productions symbols rules views rows =
    let n = counts_names ds spec e is in
    record {
      phyla = n.phyla;
      ops = n.ops;
      args = n.args;
      attrs = n.attrs;
      locals = n.locals;
      functions = n.functions;
      params = n.params;
      transforms = transforms;
      schemes = schemes;
      productions = productions;
      symbols = symbols;
      rules = rules;
      views = views;
      rows = rows;
    }

pub names_distinct : (ds : List Decl) (spec : Spec) → duplicate ds ≡ None → HasTable (names_of ds) spec → All (IsNamed spec) spec.productions → IsNumbered spec.productions → AreDistinct spec.views.names → HasNames spec
names_distinct ds spec e is nonterminals numbered views =
    let n = own_names ds spec e is in
    record {
      base = n.base;
      phyla = n.phyla;
      nonterminals = nonterminals;
      numbered = numbered;
      callables = n.callables;
      attrs = n.attrs;
      locals = n.locals;
      views = views;
    }

-- The flags of bearing and of open phyla are those of the relations.
use Rattle.std.proofs.Common.{◌≡◌, ℕ, Bool, true, false, cond, List, [], ◌∷◌, Option, Some, None, slice_get, option_map, unwrap_or, zero, suc, arith, refl, sym, ap, ◌∙◌, subst}
use Rattle.std.specs.List.{Contains}
use Rattle.std.specs.Option.{is_some}
use Rattle.sg_kinds.specs.Far.{same_far, listed_slot}
use Rattle.sg_kinds.specs.Specification.{args_of, phylum_of}
use Rattle.sg_kinds.specs.declared.spec.Far.{Far}
use Rattle.sg_kinds.specs.declared.spec.Operator.{Operator}
use Rattle.sg_ast.specs.Declarations.{Decl}
use Rattle.sg_names.specs.Drafted.{drafted}
use Rattle.sg_names.specs.declared.table.Table.{Table}
use Rattle.sg_remote.specs.Atoms.{atoms}
use Rattle.sg_remote.specs.Bearing.{Bears, uses, passes, IsOpen, root, argument, edge, argument_edges, edges_of, edges, number_of, user, users, bears, is_open}
use Rattle.sg_remote.specs.Reach.{Reached, start, along}
use Rattle.sg_remote.specs.declared.atoms.Atom.{Atom}
use Rattle.sg_remote.specs.declared.reach.Edge.{Edge}
use Rattle.sg_remote.proofs.Least.{only_reached, all_reached}
use Rattle.sg_remote.proofs.Members.{here, at_place, place_of, in_map, from_map, in_flat, from_flat}

args_there : (ops : List Operator) (op : ℕ) (o : Operator) → slice_get ops op ≡ Some o → args_of ops op ≡ o.args
args_there ops op o is = ap (λ x. unwrap_or (option_map (λ (y : Operator). y.args) x) []) is

left_there : (ops : List Operator) (op : ℕ) (o : Operator) → slice_get ops op ≡ Some o → phylum_of ops op ≡ Some o.phylum
left_there ops op o is = ap (option_map (λ (y : Operator). y.phylum)) is

-- an edge for each argument of an operator whose left side is not listed
pub edge_there : (up : Bool) (fs : List Far) (ops : List Operator) (op p q : ℕ) → phylum_of ops op ≡ Some p → listed_slot fs p ≡ None → Contains (args_of ops op) q → Contains (edges up fs ops) (edge up p q)
edge_there up fs ops op p q left unlisted arg = by (slice_get ops op) refl left
  where
    by : (o : Option Operator) → slice_get ops op ≡ o → option_map (λ (y : Operator). y.phylum) o ≡ Some p → Contains (edges up fs ops) (edge up p q)
    by None at got = absurd (cc got)
    by (Some o) at got =
        let same : o.phylum ≡ p = cc got in
        let plain : Contains (argument_edges up o.phylum o.args) (edge up o.phylum q) = in_map (edge up o.phylum) o.args q (subst (λ (l : List ℕ). Contains l q) (args_there ops op o at) arg) in
        let one : Contains (edges_of up fs o) (edge up o.phylum q) = subst (λ s. Contains (cond (is_some s) [] (argument_edges up o.phylum o.args)) (edge up o.phylum q)) (sym (ap (listed_slot fs) same ∙ unlisted)) plain in
        subst (λ n. Contains (edges up fs ops) (edge up n q)) same (in_flat (edges_of up fs) ops o (edge up o.phylum q) (at_place ops op o at) one)

-- and no other
record IsEdge (up : Bool) (fs : List Far) (ops : List Operator) (e : Edge) : Type 0 where
  op : ℕ
  left : ℕ
  arg : ℕ
  is_left : phylum_of ops op ≡ Some left
  unlisted : listed_slot fs left ≡ None
  is_arg : Contains (args_of ops op) arg
  is : edge up left arg ≡ e

edge_from : (up : Bool) (fs : List Far) (ops : List Operator) (e : Edge) → Contains (edges up fs ops) e → IsEdge up fs ops e
edge_from up fs ops e c =
    let (o, stands, has) = from_flat (edges_of up fs) ops e c in
    let (op, at) = place_of ops o stands in
    by o op at (listed_slot fs o.phylum) refl has
  where
    by : (o : Operator) (op : ℕ) → slice_get ops op ≡ Some o → (s : Option ℕ) → listed_slot fs o.phylum ≡ s → Contains (cond (is_some s) [] (argument_edges up o.phylum o.args)) e → IsEdge up fs ops e
    by o op at (Some s) is has = absurd (let low = has.1 in omega (arith, low))
    by o op at None is has =
        let (q, arg, same) = from_map (edge up o.phylum) o.args e has in
        record { op = op; left = o.phylum; arg = q; is_left = left_there ops op o at; unlisted = is; is_arg = subst (λ (l : List ℕ). Contains l q) (sym (args_there ops op o at)) arg; is = same }

module _ (t : Table) (ds : List Decl) (fs : List Far) where
  user_there : (a : Atom) (p : ℕ) → same_far a.list fs ≡ true → phylum_of t.ops a.op ≡ Some p → Contains (user t fs a) p
  user_there a p same left =
      subst (λ b. Contains (cond b (number_of (phylum_of t.ops a.op)) []) p) (sym same)
      (subst (λ o. Contains (number_of o) p) (sym left) (here p []))

  bears_reached : {p : ℕ} → Bears t ds fs p → Reached (users t fs (atoms t ds)) (edges true fs t.ops) p
  bears_reached (uses a p c same left) = start p (in_flat (user t fs) (atoms t ds) a p c (user_there a p same left))
  bears_reached (passes op p q left unlisted arg more) = along (edge true p q) p (edge_there true fs t.ops op p q left unlisted arg) refl (bears_reached more)

  user_from : (a : Atom) (p : ℕ) → Contains (user t fs a) p → (same_far a.list fs ≡ true) × (phylum_of t.ops a.op ≡ Some p)
  user_from a p c = by (same_far a.list fs) refl c
    where
      number : (o : Option ℕ) → Contains (number_of o) p → o ≡ Some p
      number None has = absurd (let low = has.1 in omega (arith, low))
      number (Some q) (zero, low, is) = ap (λ n. Some n) is
      number (Some q) (suc i, low, is) = absurd (omega (arith, low))

      by : (b : Bool) → same_far a.list fs ≡ b → Contains (cond b (number_of (phylum_of t.ops a.op)) []) p → (same_far a.list fs ≡ true) × (phylum_of t.ops a.op ≡ Some p)
      by true is has = (is, number (phylum_of t.ops a.op) has)
      by false is has = absurd (let low = has.1 in omega (arith, low))

  reached_bears : {p : ℕ} → Reached (users t fs (atoms t ds)) (edges true fs t.ops) p → Bears t ds fs p
  reached_bears (start p c) =
      let (a, stands, has) = from_flat (user t fs) (atoms t ds) p c in
      let (same, left) = user_from a p has in
      uses a p stands same left
  reached_bears (along e p c is more) =
      let k = edge_from true fs t.ops e c in
      let below : Bears t ds fs k.arg = subst (Bears t ds fs) (sym (ap (λ (x : Edge). x.from) k.is)) (reached_bears more) in
      let to : k.left ≡ p = ap (λ (x : Edge). x.to) k.is ∙ is in
      subst (Bears t ds fs) to (passes k.op k.left k.arg k.is_left k.unlisted k.is_arg below)

pub bears_only : (t : Table) (ds : List Decl) (fs : List Far) (p : ℕ) → bears t ds fs p ≡ true → Bears t ds fs p
bears_only t ds fs p up = reached_bears t ds fs (only_reached (users t fs (atoms t ds)) (edges true fs t.ops) p up)

pub bears_all : (t : Table) (ds : List Decl) (fs : List Far) (p : ℕ) → Bears t ds fs p → bears t ds fs p ≡ true
bears_all t ds fs p is = all_reached (users t fs (atoms t ds)) (edges true fs t.ops) (bears_reached t ds fs is)

module _ (t : Table) (fs : List Far) where
  open_reached : {p : ℕ} → IsOpen (drafted t) fs p → Reached (t.root ∷ []) (edges false fs t.ops) p
  open_reached root = start t.root (here t.root [])
  open_reached (argument op p q left unlisted above arg) = along (edge false p q) q (edge_there false fs t.ops op p q left unlisted arg) refl (open_reached above)

  reached_open : {p : ℕ} → Reached (t.root ∷ []) (edges false fs t.ops) p → IsOpen (drafted t) fs p
  reached_open (start p (zero, low, is)) = subst (IsOpen (drafted t) fs) is root
  reached_open (start p (suc i, low, is)) = absurd (omega (arith, low))
  reached_open (along e p c is above) =
      let k = edge_from false fs t.ops e c in
      let from : IsOpen (drafted t) fs k.left = subst (IsOpen (drafted t) fs) (sym (ap (λ (x : Edge). x.from) k.is)) (reached_open above) in
      let to : k.arg ≡ p = ap (λ (x : Edge). x.to) k.is ∙ is in
      subst (IsOpen (drafted t) fs) to (argument k.op k.left k.arg k.is_left k.unlisted from k.is_arg)

pub open_only : (t : Table) (fs : List Far) (p : ℕ) → is_open t fs p ≡ true → IsOpen (drafted t) fs p
open_only t fs p up = reached_open t fs (only_reached (t.root ∷ []) (edges false fs t.ops) p up)

pub open_all : (t : Table) (fs : List Far) (p : ℕ) → IsOpen (drafted t) fs p → is_open t fs p ≡ true
open_all t fs p is = all_reached (t.root ∷ []) (edges false fs t.ops) (open_reached t fs is)

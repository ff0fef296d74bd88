-- The term that a node holds, by those of its children.
use Rattle.std.specs.Prelude.{◌≡◌, refl, ℕ, zero, suc, ◌+◌, ◌<◌, ◌≤◌, max, Bool, List, [], ◌∷◌, ◌++◌, length, map, take, Result, Ok, Err, IfOk, IsSome, Option, Some, None, slice_get, option_map, option_and_then, unwrap_or, MatchOption}
use Rattle.std.proofs.Common.{sym, ap, ◌∙◌, subst, arith, drop}
use Rattle.std.proofs.lemmas.List.{map_push, drop_all}
use Rattle.std.proofs.lemmas.Option.{none-some, same_Some, slice_get_within}
use Rattle.sg_kinds.proofs.Elementary.{option_map_some}
use Rattle.sg_kinds.specs.Fits.{Fits, AllFit}
use Rattle.sg_kinds.specs.Places.{child}
use Rattle.sg_kinds.specs.Specification.{args_of}
use Rattle.sg_kinds.specs.Terms.{Term, Terms, Leaf, Node, NoTerm, AndTerm, terms_of, kids_of, nodes_of, nodes_of_all, height_of, height_of_all}
use Rattle.sg_kinds.specs.ValueOf.{value_of}
use Rattle.sg_kinds.specs.Values.{Value, Tree, row_of}
use Rattle.sg_kinds.specs.declared.spec.Operator.{Operator}
use Rattle.sg_kinds.specs.declared.spec.Spec.{Spec}
use Rattle.sg_forest.specs.declared.node_id.NodeId.{NodeId}
use Rattle.sg_forest.specs.Node as forest
use Rattle.sg_forest.specs.Trees.{IsLive, IsChild}
use Rattle.sg_groves.specs.declared.kind.Kind.{Kind}
use Rattle.sg_groves.specs.declared.part.Part.{Part}
use Rattle.sg_groves.specs.Grove.{Grove, nodes, IsLeaf, IsOperation, IsGrove}
use Rattle.sg_groves.specs.Holds.{Holds}
use Rattle.sg_groves.specs.Stored.{number_at}
use Rattle.sg_groves.specs.TermAt.{term_at}
use Rattle.sg_groves.proofs.Held.{one_term, held_at, held_fits, live_holds, part_held}
use Rattle.sg_terms.specs.Found.{op_at}
use Rattle.sg_terms.specs.Labels.{op_of, scheme_of, elided_of}
use Rattle.sg_terms.proofs.Holding.{op_told}
use Rattle.sg_pool.specs.Pools.{StandsFor}
use Rattle.sg_eval.proofs.Kept.{values_of-kids_of}
use Rattle.sg_build.proofs.Roots.{is_operator}

-- the children of a term
abbrev pub kids_in : Term → List Term
kids_in (Leaf p v) = []
kids_in (Node op scheme elided ts) = terms_of ts

pub child_is : (t : Term) (k : ℕ) → child k t ≡ slice_get (kids_in t) k
child_is (Leaf p v) k = refl
child_is (Node op scheme elided ts) k = refl

pub kids_back : (ts : Terms) → kids_of (terms_of ts) ≡ ts
kids_back NoTerm = refl
kids_back (AndTerm t ts) = ap (AndTerm t) (kids_back ts)

node_of : (t : Term) (op : ℕ) → op_of t ≡ Some op → t ≡ Node op (scheme_of t) (elided_of t) (kids_of (kids_in t))
node_of (Leaf p v) op is = absurd (none-some op is)
node_of (Node other scheme elided ts) op is = ap (λ o. Node o scheme elided ts) (same_Some other op is) ∙ ap (Node op scheme elided) (sym (kids_back ts))

fit_count : (spec : Spec) (ts : Terms) (ps : List ℕ) → AllFit spec ts ps → length (terms_of ts) ≡ length ps
fit_count spec NoTerm [] fit = refl
fit_count spec NoTerm (p ∷ ps) fit = absurd fit
fit_count spec (AndTerm t ts) [] fit = absurd fit
fit_count spec (AndTerm t ts) (p ∷ ps) fit = ap suc (fit_count spec ts ps fit.1)

kids_count : (spec : Spec) (t : Term) (op p : ℕ) → op_of t ≡ Some op → Fits spec t p → length (kids_in t) ≡ length (args_of spec.ops op)
kids_count spec (Leaf q v) op p is fits = absurd (none-some op is)
kids_count spec (Node other scheme elided ts) op p is fits =
    fit_count spec ts (args_of spec.ops other) (is_operator spec other scheme p ts elided fits).fit ∙ ap (λ o. length (args_of spec.ops o)) (same_Some other op is)

-- the term that a node holds
pub the_term : Grove → NodeId → Term
the_term g n = term_at g n

-- a node of an operator, and its term
pub record IsOver (g : Grove) (n : NodeId) (op : ℕ) : Type 0 where
  pub live : IsLive (nodes g) n
  pub within : op < length g.spec.ops
  pub arity : (x : forest.Node Kind Part) → nodes g n ≡ Some x → x.label.arity ≡ length (args_of g.spec.ops op)
  pub count : length (kids_in (the_term g n)) ≡ length (args_of g.spec.ops op)
  pub node : the_term g n ≡ Node op (scheme_of (the_term g n)) (elided_of (the_term g n)) (kids_of (kids_in (the_term g n)))

module _ (g : Grove) (is : IsGrove g) (n : NodeId) where
  -- it holds its term
  pub told : IsLive (nodes g) n → Holds g n (the_term g n)
  unfolding the_term
  told live = let h = live_holds g is n live in subst (Holds g n) (sym (held_at g is n h.0 h.1)) h.1

  pub told_only : (t : Term) → Holds g n t → t ≡ the_term g n
  unfolding the_term
  told_only t h = sym (held_at g is n t h)

  pub kid_told : (m : NodeId) (k : ℕ) → IsLive (nodes g) n → IsChild (nodes g) m n k → slice_get (kids_in (the_term g n)) k ≡ Some (the_term g m)
  unfolding the_term
  kid_told m k live hangs =
      let below = part_held g is (k ∷ []) m n (the_term g n) (n, hangs, refl) (told live) in
      sym (child_is (the_term g n) k) ∙ below.2 ∙ ap Some (sym (held_at g is m below.0 below.1))

  op_found : (op : ℕ) → op_at g n ≡ Some op → (x : forest.Node Kind Part) × (nodes g n ≡ Some x) × (x.label.op ≡ Some op)
  op_found op at = by (nodes g n) refl at
    where
      by : (o : Option (forest.Node Kind Part)) → nodes g n ≡ o → option_and_then (λ x. x.label.op) o ≡ Some op → (x : forest.Node Kind Part) × (nodes g n ≡ Some x) × (x.label.op ≡ Some op)
      by None found e = absurd (none-some op e)
      by (Some x) found e = (x, found, e)

  pub opened : (op : ℕ) → op_at g n ≡ Some op → IsOver g n op
  opened op at =
      let x = op_found op at in
      let live : IsLive (nodes g) n = record { node = x.0; found = x.1 } in
      let operation : IsOperation g x.0 op = subst (λ (o : Option ℕ). MatchOption o (IsLeaf g x.0) (IsOperation g x.0)) x.2 (is.each n x.0 x.1) in
      let term : op_of (the_term g n) ≡ Some op = sym (op_told g is n x.0 x.1 (the_term g n) (told live)) ∙ x.2 in
      let named = option_map_some (λ (o : Operator). o.phylum) (slice_get g.spec.ops op) x.0.label.phylum operation.phylum in
      record {
        live = live;
        within = slice_get_within g.spec.ops op named.0 named.1;
        arity = λ y found. ap (λ (o : Option (forest.Node Kind Part)). unwrap_or (option_map (λ z. z.label.arity) o) 0) (sym found ∙ x.1) ∙ operation.arity;
        count = kids_count g.spec (the_term g n) op x.0.label.phylum term (held_fits g is n x.0 (the_term g n) x.1 (told live));
        node = node_of (the_term g n) op term;
      }

  -- a leaf has a number
  pub leaf_number : IsLive (nodes g) n → op_at g n ≡ None → (id : ℕ) × (number_at g n 0 ≡ Some id)
  leaf_number live at =
      let none : live.node.label.op ≡ None = ap (option_and_then (λ (x : forest.Node Kind Part). x.label.op)) (sym live.found) ∙ at in
      let leaf : IsLeaf g live.node = subst (λ (o : Option ℕ). MatchOption o (IsLeaf g live.node) (IsOperation g live.node)) none (is.each n live.node live.found) in
      (leaf.id, ap (option_and_then (λ (x : forest.Node Kind Part). slice_get x.part.values 0)) live.found ∙ ap (λ ids. slice_get ids 0) leaf.values)

  pub leaf_told : IsLive (nodes g) n → op_at g n ≡ None → op_of (the_term g n) ≡ None
  leaf_told live at =
      sym (op_told g is n live.node live.found (the_term g n) (told live)) ∙ ap (option_and_then (λ (x : forest.Node Kind Part). x.label.op)) (sym live.found) ∙ at

  -- what a leaf and a node of an operator give
  pub leaf_is : IsLive (nodes g) n → op_at g n ≡ None → (p : ℕ) × (v : Value) × Holds g n (Leaf p v)
  leaf_is live at = by (the_term g n) (told live) (leaf_told live at)
    where
      by : (t : Term) → Holds g n t → op_of t ≡ None → (p : ℕ) × (v : Value) × Holds g n (Leaf p v)
      by (Leaf p v) h is = (p, v, h)
      by (Node op scheme elided ts) h is = absurd (none-some op (sym is))

  pub leaf_out : IsLive (nodes g) n → op_at g n ≡ None → (p : ℕ) (v : Value) → ((t : Term) → Holds g n t → Fits g.spec t p) → ((q : ℕ) (w : Value) → Holds g n (Leaf q w) → v ≡ w) → Holds g n (Leaf p v)
  leaf_out live at p v fits values =
      let leaf = leaf_is live at in
      let phylum : leaf.0 ≡ p = (fits (Leaf leaf.0 leaf.1) leaf.2).0 in
      let value : v ≡ leaf.1 = values leaf.0 leaf.1 leaf.2 in
      subst (λ q. Holds g n (Leaf q v)) phylum (subst (λ w. Holds g n (Leaf leaf.0 w)) (sym value) leaf.2)

  pub leaf_term : IsLive (nodes g) n → op_at g n ≡ None → (t : Term) → Holds g n t → (p : ℕ) × (v : Value) × (t ≡ Leaf p v)
  leaf_term live at t h = let leaf = leaf_is live at in (leaf.0, leaf.1, one_term g n t (Leaf leaf.0 leaf.1) h leaf.2)

  pub leaf_values : {E : Type 0} → IsLive (nodes g) n → op_at g n ≡ None → (r : Result Value E) → IfOk r (λ v. (p : ℕ) (w : Value) → Holds g n (Leaf p w) → v ≡ w) → IfOk r (λ v. (t : Term) → Holds g n t → v ≡ value_of t)
  leaf_values live at (Ok v) values = λ t h. let leaf = leaf_term live at t h in values leaf.0 leaf.1 (subst (Holds g n) leaf.2 h) ∙ ap value_of (sym leaf.2)
  leaf_values live at (Err e) values = tt

  pub node_out : (op : ℕ) → op_at g n ≡ Some op → (scheme : ℕ) (elided : Bool) (ts : List Term) → scheme ≡ scheme_of (the_term g n) → elided ≡ elided_of (the_term g n) → ts ≡ kids_in (the_term g n) → Holds g n (Node op scheme elided (kids_of ts))
  node_out op at scheme elided ts same mark kids =
      let o = opened op at in
      subst (Holds g n) (o.node ∙ (λ i. Node op (sym same i) (sym mark i) (kids_of (sym kids i)))) (told o.live)

  pub node_value : (op : ℕ) → op_at g n ≡ Some op → (t : Term) → Holds g n t → value_of t ≡ Tree op (row_of (map value_of (kids_in (the_term g n))))
  node_value op at t h = ap value_of (told_only t h ∙ (opened op at).node) ∙ ap (Tree op) (sym (values_of-kids_of (kids_in (the_term g n))))

-- the value of a leaf, as the pool has it
pub pool_value : {E : Type 0} (g : Grove) (n : NodeId) (id : ℕ) (r : Result Value E) → IfOk r (λ v. StandsFor g.pool id v) → ((p : ℕ) (v : Value) → Holds g n (Leaf p v) → StandsFor g.pool id v) → IfOk r (λ v. (p : ℕ) (w : Value) → Holds g n (Leaf p w) → v ≡ w)
pool_value g n id (Ok v) stands leaf = λ p w h. same_Some v w (sym stands ∙ leaf p w h)
pool_value g n id (Err e) stands leaf = tt

-- the children up to a place, and from it on
pub taken_more : (ts : List Term) (k : ℕ) (t : Term) → slice_get ts k ≡ Some t → take (k + 1) ts ≡ take k ts ++ t ∷ []
taken_more [] k t at = absurd (none-some t at)
taken_more (s ∷ ts) zero t at = ap (λ x. x ∷ []) (same_Some s t at)
taken_more (s ∷ ts) (suc k) t at = let e : suc k + 1 ≡ suc (k + 1) = omega arith in rw e (ap (λ l. s ∷ l) (taken_more ts k t at))

pub left_more : (ts : List Term) (k : ℕ) (t : Term) → slice_get ts k ≡ Some t → drop k ts ≡ t ∷ drop (k + 1) ts
left_more [] k t at = absurd (none-some t at)
left_more (s ∷ ts) zero t at = ap (λ x. x ∷ ts) (same_Some s t at)
left_more (s ∷ ts) (suc k) t at = let e : suc k + 1 ≡ suc (k + 1) = omega arith in rw e (left_more ts k t at)

pub number_there : (g : Grove) → IsGrove g → (n : NodeId) → IsLive (nodes g) n → op_at g n ≡ None → IsSome (number_at g n 0)
number_there g is n live at = let number = leaf_number g is n live at in subst IsSome (sym number.1) refl

pub values_more : (ts : List Term) (k : ℕ) (t : Term) → slice_get ts k ≡ Some t → map value_of (take (k + 1) ts) ≡ map value_of (take k ts) ++ value_of t ∷ []
values_more ts k t at = ap (map value_of) (taken_more ts k t at) ∙ map_push value_of (take k ts) t

-- what is counted at a node of an operator, and from one child to the next
pub over_nodes : (t : Term) (op scheme : ℕ) (elided : Bool) (ts : List Term) → t ≡ Node op scheme elided (kids_of ts) → nodes_of t ≡ 1 + nodes_of_all (kids_of ts)
over_nodes t op scheme elided ts is = let e = ap nodes_of is in omega (arith, e)

pub over_height : (t : Term) (op scheme : ℕ) (elided : Bool) (ts : List Term) → t ≡ Node op scheme elided (kids_of ts) → height_of t ≡ 1 + height_of_all (kids_of ts)
over_height t op scheme elided ts is = let e = ap height_of is in omega (arith, e)

pub nodes_left : (ts : List Term) (k : ℕ) (t : Term) → slice_get ts k ≡ Some t → nodes_of_all (kids_of (drop k ts)) ≡ nodes_of t + nodes_of_all (kids_of (drop (k + 1) ts))
nodes_left ts k t at = ap (λ l. nodes_of_all (kids_of l)) (left_more ts k t at)

pub height_left : (ts : List Term) (k : ℕ) (t : Term) → slice_get ts k ≡ Some t → height_of_all (kids_of (drop k ts)) ≡ max (height_of t) (height_of_all (kids_of (drop (k + 1) ts)))
height_left ts k t at = ap (λ l. height_of_all (kids_of l)) (left_more ts k t at)

pub none_left : (ts : List Term) (k : ℕ) → length ts ≤ k → drop k ts ≡ []
none_left ts k all = drop_all k ts all

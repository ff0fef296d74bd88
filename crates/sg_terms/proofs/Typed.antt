-- The values that are stored for an equation's arguments are of their types, and so is what it may store.
use Rattle.std.proofs.Common.{◌≡◌, ◌<◌, ℕ, zero, suc, Bool, true, false, List, [], ◌∷◌, length, map, Option, Some, None, Result, Ok, Err, refl, sym, ◌∙◌, ap, subst, inl, inr, arith}
use Rattle.std.specs.List.{slice_get}
use Rattle.std.specs.Prelude.{MatchOption, IfOk, All, IsSome, option_map, option_and_then, unwrap_or}
use Rattle.std.specs.Option.{is_some}
use Rattle.std.proofs.lemmas.Option.{slice_get_within}
use Rattle.sg_kinds.proofs.Elementary.{option_map_some, slice_get-there, slice_get-before, slice_get-All}
use Rattle.sg_kinds.specs.Values.{Value}
use Rattle.sg_kinds.specs.Terms.{Leaf}
use Rattle.sg_kinds.specs.Specification.{args_of, locals_of, phylum_of, is_inherited, is_way_inherited}
use Rattle.sg_kinds.specs.declared.spec.Spec.{Spec}
use Rattle.sg_kinds.specs.declared.spec.Rule.{Rule}
use Rattle.sg_kinds.specs.declared.spec.Phylum.{Phylum}
use Rattle.sg_kinds.specs.declared.spec.Attr.{Attr}
use Rattle.sg_kinds.specs.declared.marks.Shape.{Shape}
use Rattle.sg_kinds.specs.declared.spec.Occurrence.{Occurrence}
use Rattle.sg_kinds.specs.declared.spec.Local.{Local}
use Rattle.sg_kinds.specs.Evaluation.{untyped}
use Rattle.sg_kinds.specs.Fits.{MayHold}
use Rattle.sg_kinds.specs.OfType.{IsOfType}
use Rattle.sg_kinds.specs.Dependencies.{phylum_there}
use Rattle.sg_kinds.specs.Typing.{slot_type, slots_there, attr_types, types_at, is_typed}
use Rattle.sg_kinds.specs.Sound.{IsShaped, IsValue, is_owed, is_rule_typed}
use Rattle.sg_kinds.specs.declared.marks.Shape.TheVariants.{Truths, Numbers, Texts, Lexemes, Ordinary, Optional, Listed, OptionalListed}
use Rattle.sg_pool.specs.Pools.{value_at, StandsFor}
use Rattle.sg_forest.specs.declared.node_id.NodeId.{NodeId}
use Rattle.sg_forest.specs.Node.{Node}
use Rattle.sg_forest.specs.Trees.{IsChild}
use Rattle.sg_eval.specs.Typed.{AreOfTypes}
use Rattle.sg_eval.proofs.TypeFacts.{there}
use Rattle.sg_eval.proofs.OfTypes.{rule_typed}
use Rattle.sg_kinds.specs.Outcome.{outcome}
use Rattle.sg_terms.proofs.Written.{op_node}
use Rattle.sg_groves.specs.declared.kind.Kind.{Kind}
use Rattle.sg_groves.specs.declared.part.Part.{Part}
use Rattle.sg_groves.specs.Grove.{Grove, nodes, IsTyped, IsLeaf, IsOperation, IsGrove}
use Rattle.sg_terms.specs.Found.{op_at}
use Rattle.sg_terms.specs.Occurrences.{node_there, number_in, number_for, value_for, IsBearer}
use Rattle.sg_terms.specs.Storable.{IsStorable}

-- options
and_then_parts : {A B : Type 0} (o : Option A) (f : A → Option B) (y : B) → option_and_then f o ≡ Some y → (x : A) × (o ≡ Some x) × (f x ≡ Some y)
and_then_parts None f y e = cc
and_then_parts (Some x) f y e = (x, refl, e)

test_parts : {A : Type 0} (o : Option A) (f : A → Option Bool) → unwrap_or (option_and_then f o) false ≡ true → (x : A) × (o ≡ Some x) × (unwrap_or (f x) false ≡ true)
test_parts None f e = cc
test_parts (Some x) f e = (x, refl, e)

mapped_parts : {A : Type 0} (o : Option A) (f : A → Bool) → unwrap_or (option_map f o) false ≡ true → (x : A) × (o ≡ Some x) × (f x ≡ true)
mapped_parts None f e = cc
mapped_parts (Some x) f e = (x, refl, e)

-- the one slot of a leaf
leaf_attr : (spec : Spec) (q : ℕ) (p : Phylum) (shape : Shape) (v : Value) → MayHold spec shape v → IsShaped spec q p shape → IsValue q p.attrs
leaf_attr spec q p Truths v may shaped = shaped.1
leaf_attr spec q p Numbers v may shaped = shaped.1
leaf_attr spec q p Texts v may shaped = shaped.1
leaf_attr spec q p (Lexemes l) v may shaped = shaped.1
leaf_attr spec q p Ordinary v may shaped = absurd may
leaf_attr spec q p Optional v may shaped = absurd may
leaf_attr spec q p Listed v may shaped = absurd may
leaf_attr spec q p OptionalListed v may shaped = absurd may

value_slot : (q slot type : ℕ) (attrs : List Attr) → IsValue q attrs → slice_get (map (λ (a : Attr). a.of) attrs) slot ≡ Some type → (slot ≡ 0) × (type ≡ q)
value_slot q slot type [] is e = absurd is
value_slot q zero type (a ∷ []) is e = let of : a.of ≡ q = ap (λ (b : Attr). b.of) is in let at : a.of ≡ type = cc e in (refl, sym at ∙ of)
value_slot q (suc slot) type (a ∷ []) is e = cc
value_slot q slot type (a ∷ b ∷ attrs) is e = absurd is

-- which is no inherited attribute
value_way : (q slot : ℕ) (attrs : List Attr) → IsValue q attrs → unwrap_or (option_map (λ (a : Attr). is_way_inherited a.way) (slice_get attrs slot)) false ≡ true → ⊥
value_way q slot [] is e = is
value_way q zero (a ∷ []) is e = let way : is_way_inherited a.way ≡ false = ap (λ (b : Attr). is_way_inherited b.way) is in cc
value_way q (suc slot) (a ∷ []) is e = cc
value_way q slot (a ∷ b ∷ attrs) is e = is

module _ (g : Grove) (held : IsGrove g) where
  operation : (n : NodeId) (x : Node Kind Part) (op : ℕ) → nodes g n ≡ Some x → x.label.op ≡ Some op → IsOperation g x op
  operation n x op found is = subst (λ (w : Option ℕ). MatchOption w (IsLeaf g x) (IsOperation g x)) is (held.each n x found)

  leaf : (n : NodeId) (x : Node Kind Part) → nodes g n ≡ Some x → x.label.op ≡ None → IsLeaf g x
  leaf n x found is = subst (λ (w : Option ℕ). MatchOption w (IsLeaf g x) (IsOperation g x)) is (held.each n x found)

  -- what is stored for an occurrence: the node there, and a number of the type
  pub record IsStored (n : NodeId) (o : Occurrence) (type : ℕ) : Type 0 where
    pub node : NodeId
    pub there : node_there g.trees n o.at ≡ Some node
    pub id : ℕ
    pub number : number_in g.trees node o.slot ≡ Some id
    pub typed : IsTyped g.spec g.pool type id

  own_number : (n : NodeId) (x : Node Kind Part) (op slot type : ℕ) → nodes g n ≡ Some x → x.label.op ≡ Some op → slot_type g.spec op 0 slot ≡ Some type → (id : ℕ) × (number_in g.trees n slot ≡ Some id) × IsTyped g.spec g.pool type id
  own_number n x op slot type found is has =
      let o = operation n x op found is in
      let within : slot < length x.part.values = let l = slice_get_within (slots_there g.spec op 0) slot type has in let c = o.values.count in omega arith in
      let at = slice_get-there x.part.values slot within in
      (at.0, ap (λ (s : Option (Node Kind Part)). option_and_then (λ y. slice_get y.part.values slot) s) found ∙ at.1, o.values.each slot type at.0 has at.1)

  -- a child, of the phylum that its place wants
  record HasKid (n : NodeId) (k phylum : ℕ) : Type 0 where
    kid : NodeId
    lists : node_there g.trees n (suc k) ≡ Some kid
    node : Node Kind Part
    found : nodes g kid ≡ Some node
    fits : node.label.phylum ≡ phylum

  kid_of : (n : NodeId) (x : Node Kind Part) (op k phylum : ℕ) → nodes g n ≡ Some x → x.label.op ≡ Some op → slice_get (args_of g.spec.ops op) k ≡ Some phylum → HasKid n k phylum
  kid_of n x op k phylum found is arg =
      let o = operation n x op found is in
      let within : k < length x.kids = let l = slice_get_within (args_of g.spec.ops op) k phylum arg in let a = o.arity in let c = held.forest.arities n x found in omega arith in
      let at = slice_get-there x.kids k within in
      let child : IsChild (nodes g) at.0 n k = held.forest.linked.down n k at.0 (record { node = x; found = found; lists = at.1 }) in
      let wants : slice_get (args_of g.spec.ops op) k ≡ Some child.node.label.phylum = o.kids k at.0 child.node at.1 child.found in
      record {
        kid = at.0;
        lists = ap (λ (s : Option (Node Kind Part)). option_and_then (λ y. slice_get y.kids k) s) found ∙ at.1;
        node = child.node;
        found = child.found;
        fits = cc (wants, arg);
      }

  -- a leaf's phylum has one attribute, of itself
  leaf_value : (n : NodeId) (y : Node Kind Part) → nodes g n ≡ Some y → y.label.op ≡ None → (p : Phylum) × (slice_get g.spec.phyla y.label.phylum ≡ Some p) × IsValue y.label.phylum p.attrs
  leaf_value n y found is =
      let l = leaf n y found is in
      let p = there (slice_get g.spec.phyla y.label.phylum) (λ (x : Phylum). MayHold g.spec x.shape l.value) l.held in
      (p.0, p.1, leaf_attr g.spec y.label.phylum p.0 p.0.shape l.value p.2 (held.sound.shapes.phyla y.label.phylum p.0 p.1).shape)

  arg_there : (o : Option ℕ) (slot type : ℕ) → slice_get (attr_types g.spec o) slot ≡ Some type → (q : ℕ) × (o ≡ Some q)
  arg_there None slot type e = cc
  arg_there (Some q) slot type e = (q, refl)

  -- an attribute of a node's phylum
  kid_number : (n : NodeId) (y : Node Kind Part) (slot type : ℕ) → nodes g n ≡ Some y → slice_get (attr_types g.spec (Some y.label.phylum)) slot ≡ Some type → (id : ℕ) × (number_in g.trees n slot ≡ Some id) × IsTyped g.spec g.pool type id
  kid_number n y slot type found has = by y.label.op refl
    where
      at_leaf : y.label.op ≡ None → (id : ℕ) × (number_in g.trees n slot ≡ Some id) × IsTyped g.spec g.pool type id
      at_leaf is =
          let l = leaf n y found is in
          let p = leaf_value n y found is in
          let s = value_slot y.label.phylum slot type p.0.attrs p.2 (rw p.1 at has) in (
            l.id,
            ap (λ (w : Option (Node Kind Part)). option_and_then (λ z. slice_get z.part.values slot) w) found ∙ ap (λ vs. slice_get vs slot) l.values ∙ ap (λ k. slice_get (l.id ∷ []) k) s.0,
            record { value = l.value; stands = l.stands; typed = inr (inl (Leaf type l.value, (refl, subst (λ t. MatchOption (slice_get g.spec.phyla t) ⊥ (λ (x : Phylum). MayHold g.spec x.shape l.value)) (sym s.1) l.held), refl)) },
          )

      by : (w : Option ℕ) → y.label.op ≡ w → (id : ℕ) × (number_in g.trees n slot ≡ Some id) × IsTyped g.spec g.pool type id
      by None is = at_leaf is
      by (Some op) is =
          let o = operation n y op found is in
          own_number n y op slot type found is
          (slice_get-before (attr_types g.spec (phylum_of g.spec.ops op)) (map (λ (l : Local). l.of) (locals_of g.spec.ops op)) slot type (rw o.phylum has))

  pub stored_for : (n : NodeId) (x : Node Kind Part) (op : ℕ) (o : Occurrence) (type : ℕ) → nodes g n ≡ Some x → x.label.op ≡ Some op → slot_type g.spec op o.at o.slot ≡ Some type → IsStored n o type
  stored_for n x op o type found is has = by o.at refl
    where
      by : (at : ℕ) → o.at ≡ at → IsStored n o type
      by zero e =
          let h : slot_type g.spec op 0 o.slot ≡ Some type = rw e at has in
          let own = own_number n x op o.slot type found is h in
          record { node = n; there = ap (node_there g.trees n) e; id = own.0; number = own.1; typed = own.2 }
      by (suc k) e =
          let h : slot_type g.spec op (suc k) o.slot ≡ Some type = rw e at has in
          let arg = arg_there (slice_get (args_of g.spec.ops op) k) o.slot type h in
          let kid = kid_of n x op k arg.0 found is arg.1 in
          let of : slice_get (attr_types g.spec (Some kid.node.label.phylum)) o.slot ≡ Some type = subst (λ w. slice_get (attr_types g.spec w) o.slot ≡ Some type) (arg.1 ∙ ap Some (sym kid.fits)) h in
          let own = kid_number kid.kid kid.node o.slot type kid.found of in
          record { node = kid.kid; there = ap (node_there g.trees n) e ∙ kid.lists; id = own.0; number = own.1; typed = own.2 }

  value_stored : (n : NodeId) (o : Occurrence) (type : ℕ) (it : IsStored n o type) → (number_for g.trees n o ≡ Some it.id) × (value_for g n o ≡ it.typed.value)
  value_stored n o type it =
      let number : number_for g.trees n o ≡ Some it.id = ap (option_and_then (λ m. number_in g.trees m o.slot)) it.there ∙ it.number in
      (number, ap (λ w. unwrap_or (option_map (value_at g.pool) w) untyped) number ∙ ap (λ w. unwrap_or w untyped) it.typed.stands)

  module _ (n : NodeId) (x : Node Kind Part) (op : ℕ) (found : nodes g n ≡ Some x) (is : x.label.op ≡ Some op) where
    pub args_are : (os : List Occurrence) (types : List ℕ) → types_at g.spec op os ≡ Some types → All (λ o. IsSome (number_for g.trees n o)) os × AreOfTypes g.spec types (map (value_for g n) os)
    args_are [] types e = ((λ i d l. absurd (omega arith)), let none : [] ≡ types = cc e in subst (λ ts. AreOfTypes g.spec ts []) none tt)
    args_are (o ∷ os) types e =
        let p = and_then_parts (slot_type g.spec op o.at o.slot) _ types e in
        let ps = option_map_some (λ qs. p.0 ∷ qs) (types_at g.spec op os) types p.2 in
        let it = stored_for n x op o p.0 found is p.1 in
        let v = value_stored n o p.0 it in
        let rest = args_are os ps.0 ps.1 in (
          more o os (ap is_some v.0) rest.0,
          subst (λ ts. AreOfTypes g.spec ts (map (value_for g n) (o ∷ os))) ps.2 (subst (IsOfType g.spec p.0) (sym v.1) it.typed.typed, rest.1),
        )
      where
        more : (o : Occurrence) (os : List Occurrence) → IsSome (number_for g.trees n o) → All (λ o. IsSome (number_for g.trees n o)) os → All (λ o. IsSome (number_for g.trees n o)) (o ∷ os)
        more o os one rest zero d l = one
        more o os one rest (suc i) d l = rest i d (omega arith)

  -- an equation of the node's operator
  module _ (n : NodeId) (x : Node Kind Part) (found : nodes g n ≡ Some x) (rule : ℕ) (r : Rule) (at : slice_get g.spec.rules rule ≡ Some r) (is : x.label.op ≡ Some r.op) where
    is_typed_rule : is_rule_typed g.spec r ≡ true
    is_typed_rule = slice_get-All (λ (y : Rule). is_rule_typed g.spec y ≡ true) g.spec.rules rule r held.sound.rules.typed at

    is_owed_rule : is_owed g.spec r.op r.target.at r.target.slot ≡ true
    is_owed_rule = slice_get-All (λ (y : Rule). is_owed g.spec y.op y.target.at y.target.slot ≡ true) g.spec.rules rule r held.sound.rules.no_other at

    -- what it defines has a type, and its arguments have types
    pub record HasTypes : Type 0 where
      pub type : ℕ
      pub defines : slot_type g.spec r.op r.target.at r.target.slot ≡ Some type
      pub types : List ℕ
      pub args : types_at g.spec r.op r.args ≡ Some types

    pub has_types : HasTypes
    has_types =
        let p = test_parts (slot_type g.spec r.op r.target.at r.target.slot) _ is_typed_rule in
        let ps = mapped_parts (types_at g.spec r.op r.args) (λ types. is_typed g.spec types r.expr p.0) p.2 in
        record { type = p.0; defines = p.1; types = ps.0; args = ps.1 }

    pub bearer_there : IsSome (node_there g.trees n r.target.at)
    bearer_there =
        let t = has_types in
        let it = stored_for n x r.op r.target t.type found is t.defines in
        ap is_some it.there

    pub storable : (m : NodeId) (id : ℕ) → node_there g.trees n r.target.at ≡ Some m → IsTyped g.spec g.pool has_types.type id → IsStorable g m r.target.slot id
    storable m id is_there typed = by r.target.at refl
      where
        below : (y : Node Kind Part) → nodes g m ≡ Some y → (q : ℕ) → y.label.phylum ≡ q → is_inherited g.spec.phyla q r.target.slot ≡ true → slice_get (attr_types g.spec (Some q)) r.target.slot ≡ Some has_types.type → (w : Option ℕ) → y.label.op ≡ w → IsStorable g m r.target.slot id
        below y at_m q fits inherited has None none =
            let l = leaf_value m y at_m none in
            let of_q : slice_get g.spec.phyla q ≡ Some l.0 = subst (λ z. slice_get g.spec.phyla z ≡ Some l.0) fits l.1 in
            absurd (value_way q r.target.slot l.0.attrs (subst (λ z. IsValue z l.0.attrs) fits l.2) (rw of_q at inherited))
        below y at_m q fits inherited has (Some other) is_op =
            let o = operation m y other at_m is_op in
            record {
              op = other;
              is = ap (option_and_then (λ (z : Node Kind Part). z.label.op)) at_m ∙ is_op;
              type = has_types.type;
              has_type = slice_get-before (attr_types g.spec (phylum_of g.spec.ops other)) (map (λ (l : Local). l.of) (locals_of g.spec.ops other)) r.target.slot has_types.type (rw (o.phylum, fits) has);
              typed = typed;
            }

        by : (k : ℕ) → r.target.at ≡ k → IsStorable g m r.target.slot id
        by zero e =
            let same : n ≡ m = let h : Some n ≡ Some m = rw e at is_there in cc h in
            record {
              op = r.op;
              is = ap (λ (w : NodeId). op_at g w) (sym same) ∙ ap (option_and_then (λ (y : Node Kind Part). y.label.op)) found ∙ is;
              type = has_types.type;
              has_type = subst (λ k. slot_type g.spec r.op k r.target.slot ≡ Some has_types.type) e has_types.defines;
              typed = typed;
            }
        by (suc k) e =
            let owed : is_owed g.spec r.op (suc k) r.target.slot ≡ true = subst (λ j. is_owed g.spec r.op j r.target.slot ≡ true) e is_owed_rule in
            let arg = mapped_parts (phylum_there g.spec.ops r.op (suc k)) (λ X. is_inherited g.spec.phyla X r.target.slot) owed in
            let kid = kid_of n x r.op k arg.0 found is arg.1 in
            let same : kid.kid ≡ m = let h : Some kid.kid ≡ Some m = sym kid.lists ∙ ap (node_there g.trees n) (sym e) ∙ is_there in cc h in
            let at_m : nodes g m ≡ Some kid.node = ap (nodes g) (sym same) ∙ kid.found in
            let has : slice_get (attr_types g.spec (slice_get (args_of g.spec.ops r.op) k)) r.target.slot ≡ Some has_types.type = subst (λ j. slot_type g.spec r.op j r.target.slot ≡ Some has_types.type) e has_types.defines in
            below kid.node at_m arg.0 kid.fits arg.2 (subst (λ w. slice_get (attr_types g.spec w) r.target.slot ≡ Some has_types.type) arg.1 has) kid.node.label.op refl

  -- the numbers of arguments, and their values
  pub numbers_are : (n : NodeId) (os : List Occurrence) (ids : List ℕ) → map Some ids ≡ map (number_for g.trees n) os → ((o : Occurrence) (k : ℕ) → slice_get os k ≡ Some o → (id : ℕ) × (number_for g.trees n o ≡ Some id) × (v : Value) × StandsFor g.pool id v)
      → All (λ k. k < length g.pool) ids × (map (value_at g.pool) ids ≡ map (value_for g n) os)
  numbers_are n [] [] e known = ((λ i d l. absurd (omega arith)), refl)
  numbers_are n [] (id ∷ ids) e known = cc
  numbers_are n (o ∷ os) [] e known = cc
  numbers_are n (o ∷ os) (id ∷ ids) e known =
      let it = known o 0 refl in
      let first : Some id ≡ number_for g.trees n o = cc e in
      let rest_is : map Some ids ≡ map (number_for g.trees n) os = cc e in
      let same : id ≡ it.0 = cc (first, it.1) in
      let stands : StandsFor g.pool id it.2 = subst (λ k. StandsFor g.pool k it.2) (sym same) it.3 in
      let rest = numbers_are n os ids rest_is (λ p k at. known p (suc k) at) in (
        more id ids (slice_get_within g.pool id it.2 stands) rest.0,
        ap (λ v. v ∷ map (value_at g.pool) ids) (ap (λ w. unwrap_or (option_map (value_at g.pool) w) untyped) first) ∙ ap (λ vs. value_for g n o ∷ vs) rest.1,
      )
    where
      more : (id : ℕ) (ids : List ℕ) → id < length g.pool → All (λ k. k < length g.pool) ids → All (λ k. k < length g.pool) (id ∷ ids)
      more id ids one rest zero d l = one
      more id ids one rest (suc i) d l = rest i d (omega arith)

  -- an equation is ready at a node of its operator: there is a number for each argument, whose values are of their types
  pub record IsReady (n : NodeId) (r : Rule) : Type 0 where
    pub there : All (λ o. IsSome (number_for g.trees n o)) r.args
    pub types : List ℕ
    pub have : types_at g.spec r.op r.args ≡ Some types
    pub typed : AreOfTypes g.spec types (map (value_for g n) r.args)
    pub known : (ids : List ℕ) → map Some ids ≡ map (number_for g.trees n) r.args → All (λ k. k < length g.pool) ids × (map (value_at g.pool) ids ≡ map (value_for g n) r.args)

  pub ready : (n : NodeId) (rule : ℕ) (r : Rule) → slice_get g.spec.rules rule ≡ Some r → op_at g n ≡ Some r.op → IsReady n r
  ready n rule r at is =
      let x = op_node g n r.op is in
      let t = has_types n x.0 x.1 rule r at x.2 in
      let args = args_are n x.0 r.op x.1 x.2 r.args t.types t.args in
      record { there = args.0; types = t.types; have = t.args; typed = args.1; known = λ ids e. numbers_are n r.args ids e (each x.0 x.1 x.2 r.args t.types t.args) }
    where
      each : (x : Node Kind Part) → nodes g n ≡ Some x → x.label.op ≡ Some r.op → (os : List Occurrence) (types : List ℕ) → types_at g.spec r.op os ≡ Some types
          → (o : Occurrence) (k : ℕ) → slice_get os k ≡ Some o → (id : ℕ) × (number_for g.trees n o ≡ Some id) × (v : Value) × StandsFor g.pool id v
      each x found is_op [] types e o k at_k = cc
      each x found is_op (p ∷ os) types e o zero at_k =
          let same : p ≡ o = cc at_k in
          let parts = and_then_parts (slot_type g.spec r.op p.at p.slot) _ types e in
          let it = stored_for n x r.op p parts.0 found is_op parts.1 in
          let v = value_stored n p parts.0 it in
          (it.id, ap (number_for g.trees n) (sym same) ∙ v.0, it.typed.value, it.typed.stands)
      each x found is_op (p ∷ os) types e o (suc k) at_k =
          let parts = and_then_parts (slot_type g.spec r.op p.at p.slot) _ types e in
          let rest = option_map_some (λ qs. parts.0 ∷ qs) (types_at g.spec r.op os) types parts.2 in
          each x found is_op os rest.0 rest.1 o k at_k

  -- what stands for an outcome of the equation may be stored for what it defines
  pub storable_outcome : (n : NodeId) (rule : ℕ) (r : Rule) → slice_get g.spec.rules rule ≡ Some r → op_at g n ≡ Some r.op → (m : NodeId) (slot id : ℕ) → IsBearer g n r m slot → (args : List Value) (types : List ℕ) → types_at g.spec r.op r.args ≡ Some types → AreOfTypes g.spec types args
      → StandsFor g.pool id (outcome g.spec r args) → IsStorable g m slot id
  storable_outcome n rule r at is m slot id bearer args types have typed stands =
      let x = op_node g n r.op is in
      let t = has_types n x.0 x.1 rule r at x.2 in
      subst (λ s. IsStorable g m s id) (sym bearer.slot_is)
      (storable n x.0 x.1 rule r at x.2 m id bearer.there
      (record { value = outcome g.spec r args; stands = stands; typed = rule_typed g.spec held.sound rule r at types args t.type have typed t.defines }))

  pub storable_result : {E : Type 0} (n : NodeId) (rule : ℕ) (r : Rule) → slice_get g.spec.rules rule ≡ Some r → op_at g n ≡ Some r.op → (m : NodeId) (slot : ℕ) → IsBearer g n r m slot → (args : List Value) (types : List ℕ) → types_at g.spec r.op r.args ≡ Some types → AreOfTypes g.spec types args
      → (result : Result ℕ E) → IfOk result (λ id. StandsFor g.pool id (outcome g.spec r args)) → IfOk result (IsStorable g m slot)
  storable_result n rule r at is m slot bearer args types have typed (Ok id) stands = storable_outcome n rule r at is m slot id bearer args types have typed stands
  storable_result n rule r at is m slot bearer args types have typed (Err e) stands = tt

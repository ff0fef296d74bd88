-- The ways out of the update of an equation.
use Rattle.std.specs.Prelude.{◌≡◌, ℕ, zero, suc, ◌+◌, ◌<◌, length, option_and_then, map, Option, None, List, [], ◌∷◌, ◌++◌, Contains, Result, Ok, Err, Some, slice_get}
use Rattle.std.proofs.Common.{refl, sym, ap, ◌∙◌, subst, arith, length-append}
use Rattle.std.proofs.lemmas.Option.{same_Some, slice_get_within}
use Rattle.sg_kinds.proofs.Elementary.{slice_get-there}
use Rattle.sg_kinds.specs.Typing.{attr_types, slot_type, slots_there}
use Rattle.sg_kinds.specs.Instances.{attr_count}
use Rattle.sg_kinds.specs.Dependencies.{phylum_there}
use Rattle.sg_kinds.specs.declared.spec.Attr.{Attr}
use Rattle.sg_kinds.specs.declared.spec.Local.{Local}
use Rattle.std.proofs.lemmas.List.{length-map}
use Rattle.sg_kinds.specs.declared.spec.Spec.{Spec}
use Rattle.sg_dependencies.specs.Vertices.{IsVertex, locals_there}
use Rattle.sg_forest.specs.Node as forest
use Rattle.sg_forest.specs.Trees.{IsChild}
use Rattle.sg_groves.specs.declared.kind.Kind.{Kind}
use Rattle.sg_groves.specs.declared.part.Part.{Part}
use Rattle.sg_kinds.specs.Places.{Place}
use Rattle.sg_kinds.specs.Specification.{args_of, attrs_of, locals_of, phylum_of, rules_of}
use Rattle.sg_kinds.specs.declared.plans.Plans.{Plans}
use Rattle.sg_kinds.specs.declared.plans.PlanStep.TheVariants.{Eval}
use Rattle.sg_kinds.specs.declared.spec.Occurrence.{Occurrence}
use Rattle.sg_kinds.specs.declared.spec.Rule.{Rule}
use Rattle.sg_eval.specs.declared.journal.Instance.{Instance}
use Rattle.sg_forest.specs.declared.node_id.NodeId.{NodeId}
use Rattle.sg_groves.specs.Grove.{Grove, nodes, IsGrove}
use Rattle.sg_groves.specs.Stored.{number_at}
use Rattle.sg_groves.specs.Unchanged.{OnlyStored}
use Rattle.sg_groves.proofs.Frames.{only_itself, only_more}
use Rattle.sg_terms.specs.Found.{op_at}
use Rattle.sg_terms.specs.Occurrences.{IsBearer, node_there}
use Rattle.sg_terms.specs.Storable.{IsSlot, IsNoSlot, IsStorable}
use Rattle.sg_terms.proofs.Typed as typed
use Rattle.sg_terms.proofs.Written.{op_node}
use Rattle.sg_trail.specs.declared.entry.WasStored.{WasStored}
use Rattle.sg_trail.specs.Trails.{IsAnySlot, IsCovered, Way}
use Rattle.sg_attrib.specs.Visited.{IsArgument, IsNeeded, IsStepGiven, Gives}
use Rattle.sg_attrib.proofs.Listed.{gained_nothing}
use Rattle.sg_propagate.specs.Worklist.{Worklist}
use Rattle.sg_propagate.specs.Scenes.{Scene, term_now, AreFine, AreStale, ShowsOther}
use Rattle.sg_propagate.specs.Moves.{AreMeant, Announces, IsRefSlot, IsOnStage, IsTracked, Moves, Refs, Repairs}
use Rattle.sg_propagate.proofs.Stepped.{repairs_nothing}
use Rattle.sg_propagate.proofs.Deciding.{clean, dirty}
use Rattle.sg_propagate.proofs.Updating.{HasOneNumber, all_calm, eval_done, eval_failed, eval_stopped}
use Rattle.sg_propagate.proofs.Tracked.{pushed_covers, tracked_push, tracked_still}

-- what an equation defines at a node has a number, which may be stored
pub bearer_storable : (g : Grove) → IsGrove g → (n : NodeId) (rule : ℕ) (x : Rule) → slice_get g.spec.rules rule ≡ Some x → op_at g n ≡ Some x.op → (m : NodeId) (slot : ℕ) → IsBearer g n x m slot → (id : ℕ) × (number_at g m slot ≡ Some id) × IsStorable g m slot id
bearer_storable g is n rule x at op_is m slot bears =
    let y = op_node g n x.op op_is in
    let t = typed.has_types g is n y.0 y.1 rule x at y.2 in
    let st = typed.stored_for g is n y.0 x.op x.target t.type y.1 y.2 t.defines in
    let same : st.node ≡ m = same_Some st.node m (sym st.there ∙ bears.there) in (
      st.id,
      ap (number_at g m) bears.slot_is ∙ ap (λ c. number_at g c x.target.slot) (sym same) ∙ st.number,
      subst (λ s. IsStorable g m s st.id) (sym bears.slot_is) (typed.storable g is n y.0 y.1 rule x at y.2 m st.id bears.there st.typed),
    )

-- nothing changed and something was refused
pub repairs_refused : {A E : Type 0} (plans : Plans) (needs whole gives : Refs) (top left n : NodeId) (g : Grove) (w : Worklist) (way : Way) (was : List Instance) (e : E) → Repairs {A = A} {E = E} plans needs whole gives top left n g g w w way way was was (Err e)
repairs_refused plans needs whole gives top left n g w way was e = record {
  stored = only_itself g IsAnySlot;
  at = refl;
  detached = refl;
  tracked = λ first is. is;
  moves = λ sc v on fine stale. record {
    frame = only_itself g (IsRefSlot g sc (AreMeant sc (gives (rules_of sc.spec) (term_now sc) v)));
    listed = gained_nothing g sc.root (term_now sc) (AreMeant sc (gives (rules_of sc.spec) (term_now sc) v)) was;
    fine = tt;
    noted = tt;
    more = tt;
  };
}

module _ (plans : Plans) (old : Grove) (is : IsGrove old) (w : Worklist) (top left n : NodeId) (rule : ℕ) (x : Rule) (at : slice_get old.spec.rules rule ≡ Some x) (op_is : op_at old n ≡ Some x.op) where
  abbrev needs : Refs
  needs = λ rules. IsNeeded rules plans (Eval rule)

  abbrev gives : Refs
  gives = λ rules. IsStepGiven rules plans (Eval rule)

  -- no argument shows another value
  pub update_idle : {A E : Type 0} (way : Way) (was : List Instance) (y : A) → (((o : Occurrence) × Contains x.args o × ShowsOther old top left n w o) → ⊥) → Repairs {A = A} {E = E} plans needs gives gives top left n old old w w way way was was (Ok y)
  update_idle way was y none =
      repairs_nothing plans needs gives gives top left n old w way was y
      (λ sc v on fine a given. all_calm plans sc old is w top left n v on rule x at op_is fine (clean plans sc old is w top left n v on rule x at op_is fine (λ o names shows. none (o, names, shows))) a given)

  -- the equation was evaluated, or that was refused
  module _ (shows : (o : Occurrence) × Contains x.args o × ShowsOther old top left n w o) (way to : Way) (node : NodeId) (slot number : ℕ) (bears : IsBearer old n x node slot) (number_is : number_at old node slot ≡ Some number)
      (at_is : to.at ≡ way.at) (detached_is : to.detached ≡ way.detached) (pushed : to.entries ≡ way.entries ++ record { node = node; slot = slot; number = number } ∷ []) (new : Grove) (was now : List Instance) where
    tracked_here : (first : Grove) → IsTracked first old top way → IsTracked first old top to
    tracked_here first tracked =
        let s = bearer_storable old is n rule x at op_is node slot bears in
        let op = s.2 in
        tracked_push first old is top way to node op.op slot number op.is number_is pushed tracked

    pub update_failed : {A E : Type 0} (e : E) → OnlyStored old new IsNoSlot → Gives {A = A} {E = E} (IsArgument (rules_of old.spec) rule) (IsStepGiven (rules_of old.spec) plans (Eval rule)) old new was now n (Err e) → Repairs {A = A} {E = E} plans needs gives gives top left n old new w w way to was now (Err e)
    update_failed {A} {E} e only call = record {
      stored = only_more old new IsNoSlot IsAnySlot (λ m k none. tt) only;
      at = at_is;
      detached = detached_is;
      tracked = λ first tracked. tracked_still old new IsNoSlot only first top to (λ m op k id is_op has none. absurd none) (tracked_here first tracked);
      moves = λ sc v on fine stale. eval_failed plans sc old is w top left n v on rule x at op_is fine (dirty plans sc old is w top left n v on rule x at op_is fine shows.0 shows.1 shows.2) {A = A} {E = E} new w was now e call;
    }

    module _ (is_new : IsGrove new) (behind : ℕ) (behind_is : number_at new node slot ≡ Some behind) (only : OnlyStored old new (IsSlot node slot)) (one : HasOneNumber new.pool) (after : Worklist) where
      tracked_now : (first : Grove) → IsTracked first old top way → IsTracked first new top to
      tracked_now first tracked =
          tracked_still old new (IsSlot node slot) only first top to
          (λ m op k id is_op has s. subst (λ c. IsCovered to.entries c k) (sym s.node) (subst (IsCovered to.entries node) (sym s.same) (pushed_covers way to node slot number pushed))) (tracked_here first tracked)

      pub update_done : {A E B : Type 0} (y : A) → Gives {A = A} {E = E} (IsArgument (rules_of old.spec) rule) (IsStepGiven (rules_of old.spec) plans (Eval rule)) old new was now n (Ok y) → (r : Result B E) → Announces w after n node slot number behind r
          → Repairs plans needs gives gives top left n old new w after way to was now r
      update_done {A} {E} {B} y call r told = record {
        stored = only_more old new (IsSlot node slot) IsAnySlot (λ m k s. tt) only;
        at = at_is;
        detached = detached_is;
        tracked = tracked_now;
        moves = λ sc v on fine stale. by sc v on fine stale r told;
      }
        where
          by : (sc : Scene) (v : Place) → IsOnStage plans sc old w top left n v → AreFine sc old w (IsArgument (rules_of sc.spec) rule (term_now sc) v) → AreStale sc old (IsStepGiven (rules_of sc.spec) plans (Eval rule) (term_now sc) v)
              → (z : Result B E) → Announces w after n node slot number behind z → Moves sc (IsStepGiven (rules_of sc.spec) plans (Eval rule) (term_now sc) v) old new w after was now z
          by sc v on fine stale (Ok b) said =
              eval_done plans sc old is w top left n v on rule x at op_is fine (dirty plans sc old is w top left n v on rule x at op_is fine shows.0 shows.1 shows.2)
              {A = A} {E = E} new is_new after was now y node slot number behind bears number_is behind_is one stale call b said
          by sc v on fine stale (Err e) said =
              eval_stopped plans sc old is w top left n v on rule x at op_is fine (dirty plans sc old is w top left n v on rule x at op_is fine shows.0 shows.1 shows.2)
              {A = A} {E = E} new is_new after was now y node slot number behind bears number_is behind_is one stale call {B = B} {D = E} e

-- the child at an occurrence
pub child_there : (g : Grove) → IsGrove g → (n m : NodeId) (k : ℕ) → IsChild (nodes g) m n k → node_there g.trees n (suc k) ≡ Some m
child_there g is n m k hangs = let lists = is.forest.linked.upward n k m hangs in ap (option_and_then (λ (y : forest.Node Kind Part). slice_get y.kids k)) lists.found ∙ lists.lists

pub child_low : (g : Grove) → IsGrove g → (n : NodeId) (k : ℕ) (m : NodeId) → node_there g.trees n (suc k) ≡ Some m → (y : forest.Node Kind Part) → nodes g n ≡ Some y → k < y.label.arity
child_low g is n k m there y found =
    let low = slice_get_within y.kids k m (sym (ap (option_and_then (λ (z : forest.Node Kind Part). slice_get z.kids k)) found) ∙ there) in
    let count = is.forest.arities n y found in
    omega (arith, low, count)

-- an equation's target at a node
pub target_there : (g : Grove) → IsGrove g → (n : NodeId) (rule : ℕ) (x : Rule) → slice_get g.spec.rules rule ≡ Some x → op_at g n ≡ Some x.op → (m : NodeId) × (node_there g.trees n x.target.at ≡ Some m)
target_there g is n rule x at op_is =
    let y = op_node g n x.op op_is in
    let t = typed.has_types g is n y.0 y.1 rule x at y.2 in
    let st = typed.stored_for g is n y.0 x.op x.target t.type y.1 y.2 t.defines in
    (st.node, st.there)

-- how many slots an occurrence has
types_long : (spec : Spec) (o : Option ℕ) → length (attr_types spec o) ≡ attr_count (rules_of spec) o
types_long spec None = refl
types_long spec (Some X) = length-map (attrs_of spec.phyla X) (λ (a : Attr). a.of)

slots_long : (spec : Spec) (p k : ℕ) → length (slots_there spec p k) ≡ attr_count (rules_of spec) (phylum_there spec.ops p k) + locals_there (rules_of spec) p k
slots_long spec p zero =
    length-append (attr_types spec (phylum_of spec.ops p)) (map (λ (l : Local). l.of) (locals_of spec.ops p))
    ∙ omega (arith, types_long spec (phylum_of spec.ops p), length-map (locals_of spec.ops p) (λ (l : Local). l.of))
slots_long spec p (suc k) = omega (arith, types_long spec (slice_get (args_of spec.ops p) k))

-- an argument at a node has a number there, and so has the other top where it is at one of them
pub argument_there : (g : Grove) → IsGrove g → (n : NodeId) (op : ℕ) (o : Occurrence) → op_at g n ≡ Some op → IsVertex (rules_of g.spec) op o → (m : NodeId) × (node_there g.trees n o.at ≡ Some m) × (id : ℕ) × (number_at g m o.slot ≡ Some id)
argument_there g is n op o at vertex =
    let y = op_node g n op at in
    let type = vertex_type g.spec op o vertex in
    let st = typed.stored_for g is n y.0 op o type.0 y.1 y.2 type.1 in
    (st.node, st.there, st.id, st.number)
  where
    vertex_type : (spec : Spec) (op : ℕ) (o : Occurrence) → IsVertex (rules_of spec) op o → (type : ℕ) × (slot_type spec op o.at o.slot ≡ Some type)
    vertex_type spec op o vertex = slice_get-there (slots_there spec op o.at) o.slot (omega (arith, vertex, slots_long spec op o.at))

-- the equation tells what it defines at a node
pub same_entry : (g : Grove) (n : NodeId) (x : Rule) (m c : NodeId) (slot k : ℕ) → IsBearer g n x m slot → IsBearer g n x c k → (a b : ℕ) → number_at g m slot ≡ Some a → number_at g c k ≡ Some b
    → ◌≡◌ {A = WasStored} (record { node = m; slot = slot; number = a }) (record { node = c; slot = k; number = b })
same_entry g n x m c slot k one two a b a_is b_is =
    let node : m ≡ c = same_Some m c (sym one.there ∙ two.there) in
    let same : slot ≡ k = one.slot_is ∙ sym two.slot_is in
    let number : a ≡ b = same_Some a b (sym a_is ∙ ap (number_at g m) same ∙ ap (λ d. number_at g d k) node ∙ b_is) in
    λ i. record { node = node i; slot = same i; number = number i }
